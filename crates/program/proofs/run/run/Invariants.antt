-- `program::run::run` meets its contract, block by block. Assumes nothing.
use Rattle.std.proofs.Common.{◌≡◌, List, ℕ, ◌*◌, ◌≤◌, length}
use Rattle.std.specs.Io.KnownBytes.{Appends}
use Rattle.program.proofs.run.RunLaws.{Running}
use Rattle.program.proofs.run.run.Given as goal

abbrev pub invariant-loop : goal.invariant-loop
invariant-loop g l = record {
  input_long : length l.input ≡ 32768;
  done_most : l.done ≤ 64 * l.counter;
  lines : List ℕ;
  running : Running l.initial.basin l.n l.input l.kept l.done l.basin lines;
  same_reference : l.streams.to.ghost_name ≡ l.initial.streams.to.ghost_name;
  printed : Appends (g.W.Write.contents l.initial.streams.to.now) (g.W.Write.contents l.streams.to.now) lines;
}
