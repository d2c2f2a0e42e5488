-- `program::calls::read_some` meets its contract: a try that is interrupted leaves the reader as it was. Assumes nothing.
use Rattle.std.specs.Io.KnownBytes.{Keeps}
use Rattle.program.proofs.calls.read_some.Given as goal

abbrev pub invariant-loop : goal.invariant-loop
invariant-loop g l = Keeps (g.R.Read.remaining l.initial.from) (g.R.Read.remaining l.from)
