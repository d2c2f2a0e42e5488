-- What is said of the step call beside its equation: what is accepted, and what a refusal is. Assumes nothing.
use mathlib.Core.Path.{◌≡◌, refl, sym, ◌∙◌}
use mathlib.Core.Bool.{Bool, true, false, true≢false}
use mathlib.Core.List.{List}
use Prim.Native.Nat.{ℕ}
use native.Mathlib.Omega.{arith}
use borrow.Author.Tests.{eqb-false}
use Rattle.std.proofs.Common.{Err}
use Rattle.common.specs.declared.refusal.Refused.{Refused as Reason}
use Rattle.common.proofs.Refusals.{number_some}
use Rattle.forcing.specs.declared.list.Line.{Line}
use Rattle.forcing.specs.List.{reading, is_inside}
use Rattle.forcing.proofs.list.ReadLaws.{accepted_test}
use Rattle.basin.specs.declared.state.Basin.{Basin}
use Rattle.basin.specs.Limits.{others_in, basin_in}
use Rattle.basin.specs.Step.{Outcome, taken, refused_step, as_outcome, answered, step_call, Judged}
use Rattle.basin.proofs.limits.LimitsLaws.{basin_others}

module _ (b : Basin) (lines : List Line) (count : ℕ) where
  pub call_inside : basin_in b ≡ true → is_inside lines count b.n ≡ true → step_call b lines count ≡ taken b (reading lines count b.n)
  unfolding step_call answered
  call_inside n i = rw (n, accepted_test lines count b.n ∙ i)

  pub call_outside : basin_in b ≡ true → is_inside lines count b.n ≡ false
      → step_call b lines count ≡ refused_step b (reading lines count b.n).number (reading lines count b.n).place
  unfolding step_call answered
  call_outside n i = rw (n, accepted_test lines count b.n ∙ i)

  -- 9 whatever the lines are
  pub call_nine : basin_in b ≡ false → step_call b lines count ≡ refused_step b 9 0
  unfolding step_call
  call_nine n = rw n

  pub others_outside : others_in b ≡ false → refused_step b 9 0 ≡ step_call b lines count
  others_outside o = sym (call_nine (basin_others b o))

  judged_cases : (t u : Bool) → basin_in b ≡ t → is_inside lines count b.n ≡ u → Judged b lines count (step_call b lines count)
  unfolding taken
  judged_cases false u n i =
      rw (call_nine n)
      (record {
        accepted = (λ e. absurd (omega arith), λ p. absurd (true≢false (sym p.0 ∙ n)));
        refused = λ z. record { unchanged = refl; reports_zeros = refl };
        nine_first = λ z. refl;
      })
  judged_cases true true n i =
      rw (call_inside n i)
      (record { accepted = (λ e. (n, i), λ p. refl); refused = λ z. absurd (z refl); nine_first = λ z. absurd (true≢false (sym n ∙ z)) })
  judged_cases true false n i =
      rw (call_outside n i)
      (record {
        accepted = (
          λ e. absurd (eqb-false (reading lines count b.n).number 0 (accepted_test lines count b.n ∙ i) e),
          λ p. absurd (true≢false (sym p.1 ∙ i)),
        );
        refused = λ z. record { unchanged = refl; reports_zeros = refl };
        nine_first = λ z. absurd (true≢false (sym n ∙ z));
      })

-- the equation of a step's answer, and with it all that the contract says
pub answers : (b : Basin) (lines : List Line) (count : ℕ) {o : Outcome} → o ≡ step_call b lines count
    → record { answers : o ≡ step_call b lines count; judges : Judged b lines count o }
answers b lines count e =
    record { answers = e; judges = rw e (judged_cases b lines count (basin_in b) (is_inside lines count b.n) refl refl) }

-- a refusal of the code leaves the basin as it was
pub err_keeps : (b : Basin) (lines : List Line) (count : ℕ) (after : Basin) (w : Reason) → as_outcome after (Err w) ≡ step_call b lines count → after ≡ b
err_keeps b lines count after w e = ((answers b lines count e).judges.refused (λ z. omega (arith, number_some w.why, z))).unchanged
