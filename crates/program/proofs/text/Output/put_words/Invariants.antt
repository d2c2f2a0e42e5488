-- `program::text::Output::put_words` meets its contract: what is put and what is still to come is the whole. Assumes nothing.
use Rattle.std.proofs.Common.{◌≡◌, ◌++◌, ◌+◌, ◌*◌, ◌≤◌, length, drop}
use Rattle.program.specs.Workers.{numbers_text}
use Rattle.program.proofs.text.Output.put_words.Given as goal

abbrev pub invariant-loop-n : goal.invariant-loop-n
invariant-loop-n l = record {
  whole : l.self ++ numbers_text (drop l.n-index l.numbers) ≡ l.initial.self ++ numbers_text l.numbers;
  len : length l.self ≤ length l.initial.self + 21 * l.n-index;
}
