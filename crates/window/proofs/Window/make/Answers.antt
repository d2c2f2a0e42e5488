-- `window::Window::make` meets its contract. Assumes nothing.
use Rattle.std.proofs.Common.{rules}
use Rattle.window.specs.Window.{making, highest_of}
use Rattle.window.proofs.ArrivalLaws.{made_for}
use Rattle.window.proofs.Window.make.Goals as goal

pub returns-then-not-contains-clause-keeps : goal.returns-then-not-contains-clause-keeps
unfolding making
returns-then-not-contains-clause-keeps c = made_for c.args.n (search rules)

pub returns-clause-keeps : goal.returns-clause-keeps
unfolding making highest_of
returns-clause-keeps c = made_for c.args.n (search rules)
