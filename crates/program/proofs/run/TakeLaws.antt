-- A block of steps, taken one after the other: how the loop begins, what a turn does, what it comes to. Assumes nothing.
use mathlib.Core.Path.{◌≡◌, refl, sym, ap, ◌∙◌}
use mathlib.Core.List.{List, [], ◌∷◌, ◌++◌, append-nil}
use Prim.Native.Nat.{ℕ, suc, ◌+◌, ◌*◌, ◌/◌, ◌≤◌, ◌<◌}
use native.Mathlib.Nat.{suc-mul, div-eq_of_lt-le, lt_of_mul-lt-mul_right}
use native.Mathlib.Numerals.{add-one}
use native.Mathlib.Omega.{arith}
use lib.ListN.{length, take, drop, length-append, length-drop}
use lib.Seq.{drop-drop, take-append_seam, drop-append_seam}
use Rattle.forcing.specs.declared.list.Line.{Line}
use Rattle.forcing.specs.File.{lines_of}
use Rattle.basin.specs.declared.state.Basin.{Basin}
use Rattle.basin.specs.declared.step.Report.{Report}
use Rattle.common.specs.declared.refusal.Refused.{Refused}
use Rattle.common.specs.Refusals.{number_of}
use Rattle.common.proofs.Refusals.{number_some}
use Rattle.std.proofs.Common.{Result, Ok, Err, subst}
use borrow.Author.Tests.{ne_eqb}
use Rattle.basin.specs.Calls.{last_basin}
use Rattle.basin.specs.Step.{Outcome, as_outcome, step_call}
use Rattle.program.specs.Print.{step_bytes, call_at, calls_in, whole_steps, calls_of, accepted_text, step_text, steps_text}
use Rattle.program.specs.Workers.{outcome_text, Stepped}
use Rattle.program.proofs.run.CallsLaws.{last_append, text_append, calls_length}

-- the line of an outcome, as the definition has it
abbrev line_of : Basin → ℕ → Result Report Refused → List ℕ
line_of b step r = step_text step (as_outcome b r).number (as_outcome b r).place (as_outcome b r).report

outcome_line : (b : Basin) (step : ℕ) (r : Result Report Refused) → outcome_text step r ≡ line_of b step r
unfolding step_text accepted_text
outcome_line b step (Ok report) = refl
outcome_line b step (Err e) = sym (rw (ne_eqb (number_of e.why) 0 (λ z. omega (arith, z, number_some e.why))) refl)

outcome_basin : (b : Basin) (r : Result Report Refused) → (as_outcome b r).basin ≡ b
outcome_basin b (Ok report) = refl
outcome_basin b (Err e) = refl

-- i steps of the bytes are taken, from basin b, and their lines, of at most 129 bytes each, are put; the other bytes are left
pub record Taking (b : Basin) (n done : ℕ) (bytes : List ℕ) (i : ℕ) (left : List ℕ) (basin : Basin) (out : List ℕ) : Type 0 where
  pub left_is : left ≡ drop (i * step_bytes n) bytes
  pub taken_most : i * step_bytes n ≤ length bytes
  pub out_most : length out ≤ 129 * i
  pub basin_is : basin ≡ last_basin b (calls_in n bytes i)
  pub lines_are : out ≡ steps_text b done (calls_in n bytes i)

pub take_begin : (b : Basin) (n done : ℕ) {bytes left : List ℕ} → left ≡ bytes → Taking b n done bytes 0 left b []
unfolding last_basin calls_in steps_text
take_begin b n done {bytes} e =
    let none : 0 ≡ 0 * step_bytes n = omega arith in
    record { left_is = e ∙ ap (λ (k : ℕ). drop k bytes) none; taken_most = omega arith; out_most = omega arith; basin_is = refl; lines_are = refl }

module _ {b : Basin} {n done : ℕ} {bytes : List ℕ} {i : ℕ} {left : List ℕ} {basin : Basin} {out : List ℕ}
    (t : Taking b n done bytes i left basin out)
    (some : 1 ≤ n) (most : length bytes ≤ 64 * step_bytes n) where
  module _ (words left' : List ℕ) (next : left ≡ words ++ left') (size : length words ≡ step_bytes n) where
    one_more : i * step_bytes n + step_bytes n ≤ length bytes
    one_more =
        omega (arith, ap length next, length-append words left', ap length t.left_is, length-drop (i * step_bytes n) bytes, t.taken_most)

    words_are : words ≡ take (step_bytes n) (drop (i * step_bytes n) bytes)
    words_are = sym (take-append_seam words left') ∙ ap (λ (k : ℕ). take k (words ++ left')) size ∙ ap (take (step_bytes n)) (sym next ∙ t.left_is)

    left_after : left' ≡ drop (suc i * step_bytes n) bytes
    left_after =
        sym (drop-append_seam words left')
        ∙ ap (λ (k : ℕ). drop k (words ++ left')) size
        ∙ ap (drop (step_bytes n)) (sym next ∙ t.left_is)
        ∙ drop-drop (step_bytes n) (i * step_bytes n) bytes
        ∙ ap (λ (k : ℕ). drop k bytes) (sym (suc-mul i (step_bytes n)))

    -- the outcome of the next step
    next_is : {lines : List Line} {o : Outcome} → lines ≡ lines_of words n → o ≡ step_call basin lines n
        → o ≡ step_call (last_basin b (calls_in n bytes i)) (call_at n bytes i).lines n
    unfolding call_at
    next_is is-lines is-step =
        is-step
        ∙ ap (λ (l : List Line). step_call basin l n) (is-lines ∙ ap (λ (l : List ℕ). lines_of l n) words_are)
        ∙ ap (λ (x : Basin). step_call x (call_at n bytes i).lines n) t.basin_is

    pub take_turn : {lines : List Line} {then : Basin} (r : Result Report Refused) {out' : List ℕ}
        → lines ≡ lines_of words n
        → as_outcome then r ≡ step_call basin lines n
        → length out' ≤ length out + 129
        → out' ≡ out ++ outcome_text (done + (i + 1)) r
        → Taking b n done bytes (i + 1) left' then out'
    unfolding last_basin call_at calls_in steps_text
    take_turn {then = then} r is-lines is-step short told =
        let o = as_outcome then r in
        let put = told ∙ ap (λ (l : List ℕ). out ++ l) (outcome_line then (done + (i + 1)) r) in
        let calls = calls_in n bytes i in
        let next = call_at n bytes i in
        let line : ℕ → Outcome → List ℕ = λ step x. step_text step x.number x.place x.report in
        let is : o ≡ step_call (last_basin b calls) next.lines n = next_is is-lines is-step in
        let number : done + (i + 1) ≡ suc (done + length calls) = omega (arith, calls_length n bytes i) in
        record {
          left_is = rw (add-one i) left_after;
          taken_most = omega (arith, one_more, suc-mul i (step_bytes n));
          out_most = omega (arith, t.out_most);
          basin_is = rw (add-one i) (sym (outcome_basin then r) ∙ ap (λ (x : Outcome). x.basin) is ∙ sym (last_append (next ∷ []) b calls));
          lines_are =
              rw (add-one i)
              (put
              ∙ ap (λ (l : List ℕ). l ++ line (done + (i + 1)) o) t.lines_are
              ∙ ap (λ (k : ℕ). steps_text b done calls ++ line k o) number
              ∙ ap (λ (x : Outcome). steps_text b done calls ++ line (suc (done + length calls)) x) is
              ∙ ap (λ (l : List ℕ). steps_text b done calls ++ l)
              (sym (append-nil (line (suc (done + length calls)) (step_call (last_basin b calls) next.lines n))))
              ∙ sym (text_append (next ∷ []) b done calls));
        }

  pub take_end : length left < step_bytes n → Stepped b n done bytes basin (length bytes / step_bytes n) out
  unfolding whole_steps calls_of
  take_end h =
      let short : length bytes < i * step_bytes n + step_bytes n =
      omega (arith, ap length t.left_is, length-drop (i * step_bytes n) bytes, t.taken_most) in
      let all : i ≡ length bytes / step_bytes n =
      sym (div-eq_of_lt-le (step_bytes n) t.taken_most (omega (arith, short, suc-mul i (step_bytes n)))) in
      subst (λ (k : ℕ). Stepped b n done bytes basin k out) all
      (record {
        few = omega (arith, few);
        used_most = t.taken_most;
        rest_short = short;
        steps_is = all;
        after_is = t.basin_is ∙ ap (λ (k : ℕ). last_basin b (calls_in n bytes k)) all;
        lines_are = t.lines_are ∙ ap (λ (k : ℕ). steps_text b done (calls_in n bytes k)) all;
      })
    where
      few : i < 65
      few = lt_of_mul-lt-mul_right (step_bytes n) (omega (arith, t.taken_most))
