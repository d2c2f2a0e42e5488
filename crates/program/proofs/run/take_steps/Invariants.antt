-- `program::run::take_steps` meets its contract: so many steps are taken. Assumes nothing.
use Rattle.std.proofs.Common.{◌≡◌}
use Rattle.std.specs.Slice.Iter.{chunks_exact_rest, chunks_exact_size}
use Rattle.std.specs.Iterator.Adapters.{enumerate_source, enumerate_count}
use Rattle.program.specs.Print.{step_bytes}
use Rattle.program.proofs.run.TakeLaws.{Taking}
use Rattle.program.proofs.run.take_steps.Given as goal

abbrev pub invariant-loop-k : goal.invariant-loop-k
invariant-loop-k l = record {
  size_is : chunks_exact_size (enumerate_source l.k-iterator) ≡ step_bytes l.n;
  taking : Taking l.initial.basin l.n l.done l.bytes (enumerate_count l.k-iterator) (chunks_exact_rest (enumerate_source l.k-iterator)) l.basin l.out;
}
