-- `window::Window::arrive` meets its contract. Assumes nothing.
use Rattle.std.proofs.Common.{◌≡◌, ◌∙◌, ap, Err, rules}
use Rattle.window.specs.Window.{as_answer}
use Rattle.window.proofs.ArrivalLaws.{arrives_in, arrives_not, arrival_taken, arrival_refused}
use Rattle.window.proofs.Window.arrive.Goals as goal

pub returns-in_err-after-clause-answers : goal.returns-in_err-after-clause-answers
returns-in_err-after-clause-answers c =
    let e : c.from_residual.result ≡ Err c.in_err-after.field-0.0 = search rules in
    ap (as_answer c.args.self.now) e ∙ arrival_refused c.args.self.now c.args.volume c.in_err-after.ensures.0 c.in_err-after.ensures.1

pub returns-in_err-after-clause-keeps : goal.returns-in_err-after-clause-keeps
returns-in_err-after-clause-keeps c = arrives_not c.args.self.now c.args.volume (returns-in_err-after-clause-answers c) c.in_err-after.ensures.0

pub returns-clause-answers : goal.returns-clause-answers
returns-clause-answers c = arrival_taken c.args.self.now c.args.volume c.in_ok-after.ensures.0 c.in_ok-after.ensures.1 c.highest.ensures

pub returns-clause-keeps : goal.returns-clause-keeps
returns-clause-keeps c = arrives_in c.args.self.now c.args.volume (returns-clause-answers c) c.in_ok-after.ensures.0
