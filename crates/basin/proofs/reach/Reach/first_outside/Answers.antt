-- `basin::reach::Reach::first_outside` meets its contract. Assumes nothing.
use mathlib.Core.Path.{sym}
use native.Mathlib.Omega.{arith}
use Rattle.common.proofs.Limits.{first_at, first_all}
use Rattle.basin.proofs.reach.ReachLaws.{next_limits, next_in}
use Rattle.basin.proofs.reach.Reach.first_outside.Goals.{then-self-j-via-then-self-j, then-self-j-via-else-self-j+then-m-self}
use Rattle.basin.proofs.reach.Reach.first_outside.Goals as goal

pub returns-then-self-gt-ONE-clause-answers : goal.returns-then-self-gt-ONE-clause-answers
returns-then-self-gt-ONE-clause-answers c = first_at _ 0 tt (λ l h. omega arith)

pub returns-then-self-gt-ONE-2-clause-answers : goal.returns-then-self-gt-ONE-2-clause-answers
returns-then-self-gt-ONE-2-clause-answers c = first_at _ 1 (omega arith) (λ l h. omega arith)

pub returns-then-g-lt1-clause-answers : goal.returns-then-g-lt1-clause-answers
returns-then-g-lt1-clause-answers c = first_at _ 1 (omega arith) (λ l h. omega arith)

pub returns-then-self-eq0-clause-answers : goal.returns-then-self-eq0-clause-answers
returns-then-self-eq0-clause-answers c =
    sym (first_all _ (omega arith, omega arith, (omega arith, omega arith, (next_in _ _ (λ n. absurd (n c.if-self-eq0.true)), omega arith, tt))))

pub returns-then-self-j-clause-answers : goal.returns-then-self-j-clause-answers
returns-then-self-j-clause-answers c =
    first_at _ 2 (omega arith) (λ l h.
    let e = next_limits _ c.if-self-eq0.false l in
    elim c.then-self-j.branch [ then-self-j-via-then-self-j w ↦ omega arith | then-self-j-via-else-self-j+then-m-self w ↦ omega arith ])

pub returns-clause-answers : goal.returns-clause-answers
returns-clause-answers c =
    sym (first_all _ (omega arith, omega arith, (omega arith, omega arith, (next_in _ _ (λ n. omega arith), omega arith, tt))))
