-- `program::calls::write_some` meets its contract: a try that is interrupted leaves the writer as it was. Assumes nothing.
use Rattle.std.specs.Io.KnownBytes.{Keeps}
use Rattle.program.proofs.calls.write_some.Given as goal

abbrev pub invariant-loop : goal.invariant-loop
invariant-loop g l = Keeps (g.W.Write.contents l.initial.to) (g.W.Write.contents l.to)
