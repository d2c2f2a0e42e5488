-- `window::Window::fits` meets its contract. Assumes nothing.
use mathlib.Core.Path.{sym, ◌∙◌}
use Rattle.window.proofs.RecordLaws.{counts_limits}
use Rattle.window.proofs.Window.fits.Goals as goal

pub others_blank-requires : goal.others_blank-requires
others_blank-requires c = (counts_limits c.args.self.now (sym c.counts_fit.ensures ∙ c.if-counts_fit.true)).count_most
