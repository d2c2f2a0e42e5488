-- `window::Window::after` meets its contract: before each turn `Arriving` holds. Assumes nothing.
use Rattle.window.proofs.AfterLaws.{Arriving}
use Rattle.window.proofs.Window.after.Given as goal

abbrev pub invariant-loop-i : goal.invariant-loop-i
invariant-loop-i l = Arriving l.self l.volume l.i (record { n = l.self.n; count = l.count; kept = l.next })
