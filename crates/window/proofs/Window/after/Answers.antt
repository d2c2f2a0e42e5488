-- `window::Window::after` meets its contract. Assumes nothing.
use mathlib.Core.Path.{refl, sym, ap, ◌∙◌}
use native.Mathlib.Omega.{arith}
use Rattle.std.proofs.Common.{rules}
use Rattle.window.proofs.UnexceededLaws.{stays_young}
use Rattle.window.proofs.AfterLaws.{added, counts, free, last_free, arriving_begin, arriving_stop, arriving_take, arriving_leave, arriving_reached, arriving_end}
use Rattle.window.proofs.Window.after.Goals as goal
use Rattle.window.proofs.Window.after.Goals.{then-stays, else-stays}

pub loop-i-init : goal.loop-i-init
loop-i-init c = arriving_begin (search) (sym c.fits.ensures ∙ c.if-not-fits.false) (search rules)

pub returns-then-not-falls_at : goal.returns-then-not-falls_at
returns-then-not-falls_at c = (arriving_stop c.loop-i.invariant c.loop-i-test.true c.falls_at.ensures c.if-not-falls_at.true, refl)

pub falls_at-requires-clause-places : goal.falls_at-requires-clause-places
falls_at-requires-clause-places c = (counts c.loop-i.invariant).count_most

pub bounds-self-i : goal.bounds-self-i
bounds-self-i c = omega (arith, (counts c.loop-i.invariant).count_most)

pub stays-requires : goal.stays-requires
stays-requires c = (counts c.loop-i.invariant).n_least

pub older-requires : goal.older-requires
older-requires c = omega (arith, (counts c.loop-i.invariant).n_most, stays_young _ _ _ (sym c.stays.ensures.answers ∙ c.if-stays.true))

pub bounds-next-count : goal.bounds-next-count
bounds-next-count c = free c.loop-i.invariant c.loop-i-test.true

pub bounds-next-count-2 : goal.bounds-next-count-2
bounds-next-count-2 c = last_free c.loop-i.invariant (omega arith)

pub loop-i-preserved : goal.loop-i-preserved
loop-i-preserved c =
    let s = c.loop-i.invariant in
    elim c.if-stays.branch [
      | then-stays w ↦
          rw (w.next-is, w.count-is)
          (arriving_take s c.loop-i-test.true c.falls_at.ensures refl c.if-not-falls_at.false c.stays.ensures.range (sym c.stays.ensures.answers ∙ w.if-stays.true)
          (ap (added _) w.older.ensures))
      | else-stays w ↦
          rw (w.next-is, w.count-is)
          (arriving_leave s c.loop-i-test.true c.falls_at.ensures refl c.if-not-falls_at.false c.stays.ensures.range (sym c.stays.ensures.answers ∙ w.if-stays.false))
    ]

pub returns : goal.returns
returns c = (arriving_reached c.loop-i.invariant (omega arith), arriving_end c.loop-i.invariant (omega arith) refl)
