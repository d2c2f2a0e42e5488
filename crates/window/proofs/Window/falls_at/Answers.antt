-- `window::Window::falls_at` meets its contract. Assumes nothing.
use mathlib.Core.Path.{◌∙◌}
use native.Mathlib.Omega.{arith}
use borrow.Author.Tests.{lt-ltb, le-ltb}
use Rattle.window.proofs.RecordLaws.{falls_last, falls_next}
use Rattle.window.proofs.Window.falls_at.Goals as goal

pub returns-then-i-self : goal.returns-then-i-self
returns-then-i-self c = falls_last c.args.self.now c.requires.places (search) c.args.i (omega arith)

pub returns-then-next-kept : goal.returns-then-next-kept
returns-then-next-kept c = falls_next c.args.self.now c.requires.places (search) c.args.i (omega arith) ∙ rw (lt-ltb _ _ c.if-next-kept.true)

pub returns-else-next-kept : goal.returns-else-next-kept
returns-else-next-kept c = falls_next c.args.self.now c.requires.places (search) c.args.i (omega arith) ∙ rw (le-ltb _ _ c.if-next-kept.false)
