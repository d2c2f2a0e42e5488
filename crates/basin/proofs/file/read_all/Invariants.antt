-- `basin::file::read_all` meets its contract. The loop's invariant: i records are in their places, and no word of theirs is outside its range.
-- Assumes nothing.
use Prim.Native.Nat.{suc, ◌+◌, ◌*◌}
use Rattle.basin.proofs.file.FileLaws.{Reading}
use Rattle.basin.proofs.file.read_all.Given as goal

abbrev pub invariant-loop-i : goal.invariant-loop-i
invariant-loop-i g l =
    let r = g.R.Record in
    Reading r.WORDS (λ i. r.stored l.bytes (l.start + r.WORDS * i)) (λ i. r.words l.m (suc i) (r.stored l.bytes (l.start + r.WORDS * i))) l.n l.initial.records l.i l.records
