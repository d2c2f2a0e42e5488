-- A run, block by block: how it begins, what a block does, what it comes to. Assumes nothing.
use mathlib.Core.Path.{◌≡◌, refl, sym, ap, ◌∙◌}
use mathlib.Core.Bool.{true}
use mathlib.Core.List.{List, [], ◌++◌}
use Prim.Native.Nat.{ℕ, ◌+◌, ◌*◌, ◌-◌, ◌≤◌, ◌<◌}
use native.Mathlib.Nat.{add-mul}
use native.Mathlib.Omega.{arith}
use lib.ListN.{length, take, drop, length-append, length-drop}
use lib.Seq.{length-take-le, take-add, drop-nil, drop-drop}
use Rattle.std.proofs.Common.{Option, subst}
use Rattle.std.specs.List.{copy_within}
use Rattle.std.specs.Io.KnownBytes.{Appends}
use Rattle.std.proofs.lemmas.List.{drop-take}
use Rattle.std.proofs.lemmas.List.Edits.{take-paste}
use Rattle.basin.specs.declared.state.Basin.{Basin}
use Rattle.basin.specs.Calls.{last_basin}
use Rattle.program.specs.declared.Ended.{Ended}
use Rattle.program.specs.declared.Ended.TheVariants.{Failed}
use Rattle.program.specs.Ended.{Ends}
use Rattle.program.specs.Print.{step_bytes, calls_in, whole_steps, part_bytes, calls_of, steps_text, part_text, run_text}
use Rattle.program.specs.Workers.{Stepped, RunOf}
use Rattle.program.proofs.run.CallsLaws.{last_append, text_append, calls_length, whole_is, part_is, rest_more, calls_rest}

-- The bytes that have come: the whole steps of them are taken, with these lines, and the rest stands at the start of the input
pub record Running (first : Basin) (n : ℕ) (input : List ℕ) (kept done : ℕ) (basin : Basin) (lines : List ℕ) : Type 0 where
  pub bytes : List ℕ
  pub came : length bytes ≡ done * step_bytes n + kept
  pub short : kept < step_bytes n
  pub basin_is : basin ≡ last_basin first (calls_in n bytes done)
  pub rest_is : take kept input ≡ drop (done * step_bytes n) bytes
  pub lines_are : lines ≡ steps_text first 0 (calls_in n bytes done)

pub run_begin : (first : Basin) (n : ℕ) (input : List ℕ) → 1 ≤ n → {b : Basin} → b ≡ first → Running first n input 0 0 b []
unfolding last_basin calls_in steps_text
run_begin first n input some e =
    record { bytes = []; came = omega arith; short = omega arith; basin_is = e; rest_is = sym (drop-nil (0 * step_bytes n)); lines_are = refl }

-- what lies in the middle is moved to the start
moved_is : (xs : List ℕ) (from to : ℕ) → from ≤ to → to ≤ length xs → take (to - from) (copy_within xs from to 0) ≡ drop from (take to xs)
moved_is xs from to h room =
    let whole : from + (to - from) ≡ to = omega arith in
    let none : to - from ≡ 0 + (to - from) = omega arith in
    ap (λ (k : ℕ). take k (copy_within xs from to 0)) none
    ∙ take-paste xs 0 (drop from xs) (to - from) (omega arith) (omega (arith, length-drop from xs))
    ∙ sym (drop-take from (to - from) xs)
    ∙ ap (λ (k : ℕ). drop from (take k xs)) whole

-- the basin after a block of bytes
after_block : {b after : Basin} {n done steps : ℕ} {bytes out : List ℕ} {block : List ℕ}
    → Stepped b n done bytes after steps out
    → bytes ≡ block
    → after ≡ last_basin b (calls_in n block steps)
unfolding calls_of
after_block {b} {n = n} {steps = steps} {bytes = bytes} s e =
    s.after_is
    ∙ ap (λ (k : ℕ). last_basin b (calls_in n bytes k)) (sym s.steps_is)
    ∙ ap (λ (l : List ℕ). last_basin b (calls_in n l steps)) e

-- and its lines
block_lines : {b after : Basin} {n done steps : ℕ} {bytes out : List ℕ} {block : List ℕ}
    → Stepped b n done bytes after steps out
    → bytes ≡ block
    → out ≡ steps_text b done (calls_in n block steps)
unfolding calls_of
block_lines {b} {n = n} {done} {steps} {bytes} s e =
    s.lines_are
    ∙ ap (λ (k : ℕ). steps_text b done (calls_in n bytes k)) (sym s.steps_is)
    ∙ ap (λ (l : List ℕ). steps_text b done (calls_in n l steps)) e

module _ {first : Basin} {n : ℕ} {input : List ℕ} {kept done : ℕ} {basin : Basin} {lines : List ℕ}
    (r : Running first n input kept done basin lines) where
  pub run_turn : (input' : List ℕ) (count : ℕ) → take kept input' ≡ take kept input → kept + count ≤ length input'
      → {after : Basin} {steps : ℕ} {out : List ℕ}
      → Stepped basin n done (take (kept + count) input') after steps out
      → {input'' : List ℕ}
      → input'' ≡ copy_within input' (steps * step_bytes n) (kept + count) 0
      → Running first n input'' (kept + count - steps * step_bytes n) (done + steps) after (lines ++ out)
  run_turn input' count same room {after} {steps} {out} s {input''} moved =
      let bytes = r.bytes in
      let more = take count (drop kept input') in
      let size = step_bytes n in
      let taken = calls_in n bytes done in
      let counted : done ≡ 0 + length taken = omega (arith, calls_length n bytes done) in
      let block = drop (done * size) bytes ++ more in
      let past : done * size ≤ length bytes = omega (arith, r.came) in
      let came-now : length more ≡ count = length-take-le count (drop kept input') (omega (arith, length-drop kept input')) in
      let used : steps * size ≤ kept + count = omega (arith, s.used_most, length-take-le (kept + count) input' room) in
      let block-is : take (kept + count) input' ≡ block =
      take-add kept count input' ∙ ap (λ (l : List ℕ). l ++ more) (same ∙ r.rest_is) in
      record {
        bytes = bytes ++ more;
        came = omega (arith, length-append bytes more, came-now, r.came, used, add-mul done steps size);
        short = omega (arith, s.rest_short, used, length-take-le (kept + count) input' room);
        basin_is =
            after_block s block-is
            ∙ ap (λ (x : Basin). last_basin x (calls_in n block steps)) r.basin_is
            ∙ sym (last_append (calls_in n block steps) first (calls_in n bytes done))
            ∙ ap (last_basin first) (calls_rest n bytes more done past steps);
        rest_is =
            ap (take (kept + count - steps * size)) moved
            ∙ moved_is input' (steps * size) (kept + count) used room
            ∙ ap (drop (steps * size)) (block-is ∙ rest_more n bytes more done past)
            ∙ drop-drop (steps * size) (done * size) (bytes ++ more)
            ∙ ap (λ (k : ℕ). drop k (bytes ++ more)) (sym (add-mul done steps size));
        lines_are =
            ap (λ (l : List ℕ). l ++ out) r.lines_are
            ∙ ap (λ (l : List ℕ). steps_text first 0 taken ++ l)
            (block_lines s block-is
            ∙ ap (λ (x : Basin). steps_text x done (calls_in n block steps)) r.basin_is
            ∙ ap (λ (k : ℕ). steps_text (last_basin first taken) k (calls_in n block steps)) counted)
            ∙ sym (text_append (calls_in n block steps) first 0 taken)
            ∙ ap (steps_text first 0) (calls_rest n bytes more done past steps);
      }

  -- what the run answers
  pub run_end : n ≡ first.n → {ended : Ended} → Ends kept ended → {out : List ℕ} → ((ended ≡ Failed → ⊥) → out ≡ part_text kept)
      → {old new : Option (List ℕ)}
      → ((ended ≡ Failed → ⊥) → Appends old new (lines ++ part_text kept))
      → RunOf first ended basin out old new
  unfolding calls_of run_text
  run_end e {ended} ends {out} put {old} {new} printed =
      let bytes = r.bytes in
      let whole : done ≡ whole_steps n bytes = whole_is n bytes done kept r.came r.short in
      let all : calls_in n bytes done ≡ calls_of first.n bytes =
      ap (calls_in n bytes) whole ∙ ap (λ (k : ℕ). calls_in k bytes (whole_steps k bytes)) e in
      let part : kept ≡ part_bytes first.n bytes = part_is n bytes done kept r.came r.short ∙ ap (λ (k : ℕ). part_bytes k bytes) e in
      record {
        bytes = bytes;
        last_is =
            r.basin_is ∙ ap (last_basin first) all;
        ends = rw part at ends;
        part_put = λ h. put h ∙ ap part_text part;
        printed = λ h. subst (Appends old new) (ap (λ (l : List ℕ). l ++ part_text kept) (r.lines_are ∙ ap (steps_text first 0) all) ∙ ap (λ (k : ℕ). steps_text first 0 (calls_of first.n bytes) ++ part_text k) part) (printed h);
      }

  pub run_failed : n ≡ first.n → {ended : Ended} → ended ≡ Failed → {out : List ℕ} {old new : Option (List ℕ)} → RunOf first ended basin out old new
  run_failed e is = run_end e (record { failed = true; ended_is = is }) (λ h. absurd (h is)) (λ h. absurd (h is))
