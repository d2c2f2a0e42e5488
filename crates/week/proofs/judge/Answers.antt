-- `week::judge` meets its contract. Assumes nothing.
use Rattle.std.proofs.Common.{refl, sym, ◌∙◌, arith}
use mathlib.Core.Bool.{true≢false}
use borrow.Author.Tests.{eq-eqb, ne_eqb}
use Rattle.basin.proofs.week.WeekLaws.{count_in, fits_not, fits_whole}
use Rattle.week.proofs.Shape.{basin_shaped}
use Rattle.week.proofs.judge.Goals.{then-b-lines-via-then-b-lines, then-b-lines-via-else-b-lines+then-not-is_multiple_of}
use Rattle.week.proofs.judge.Goals as goal

pub overflow_mul-b : goal.overflow_mul-b
overflow_mul-b c = omega (arith, count_in _ (sym c.allowed.ensures.answers ∙ c.if-not-allowed.false))

pub returns-then-b-lines-clause-refuses : goal.returns-then-b-lines-clause-refuses
returns-then-b-lines-clause-refuses c =
    record {
      nine = λ n. absurd (true≢false (sym c.if-not-allowed.false ∙ c.allowed.ensures.answers ∙ n));
      five = λ _. (
        elim c.then-b-lines.branch [
          | then-b-lines-via-then-b-lines w ↦ sym (fits_not _ _ w.if-b-lines.true)
          | then-b-lines-via-else-b-lines+then-not-is_multiple_of w ↦
              sym (fits_whole _ _ w.if-b-lines.false) ∙ ne_eqb _ 0 (λ e. true≢false (sym (w.is_multiple_of.ensures.1 e) ∙ w.if-not-is_multiple_of.true))
        ],
        refl,
      );
    }

pub returns-clause-fits : goal.returns-clause-fits
returns-clause-fits c =
    record {
      allowed = sym c.allowed.ensures.answers ∙ c.if-not-allowed.false;
      fitting = sym (fits_whole _ _ c.if-b-lines.false) ∙ eq-eqb _ 0 (c.is_multiple_of.ensures.0 c.if-not-is_multiple_of.false);
      shaped = basin_shaped _ _ c.well_formed.0;
    }
