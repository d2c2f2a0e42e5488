-- `window::Window::others_blank` meets its contract. Assumes nothing.
use mathlib.Core.Path.{ap, ◌∙◌}
use Prim.Native.Nat.{◌-◌}
use native.Mathlib.Omega.{arith}
use lib.ListN.{take, drop, length-drop}
use Rattle.std.specs.List.{list_all}
use Rattle.std.proofs.Common.{rules, tests}
use Rattle.std.proofs.lemmas.Iterator.{YieldsList-from_slice}
use Rattle.std.proofs.lemmas.Iterator.Search.{all_from_yields_List}
use Rattle.std.proofs.lemmas.List.{take_all}
use Rattle.window.specs.Window.{most, is_blank, others_blank}
use Rattle.window.proofs.Window.others_blank.Goals as goal

pub returns : goal.returns
unfolding others_blank is_blank
returns c =
    let n = c.args.self.now.count in
    let l = drop n c.args.self.now.kept in
    all_from_yields_List is_blank _ _ c.all.result c.all.ensures.ran (YieldsList-from_slice (take (most - n) l) c.iter.ensures.rest)
    (λ x b q k. search (rules, tests))
    ∙ ap (list_all is_blank) (take_all (most - n) l (omega (arith, length-drop n c.args.self.now.kept)))
