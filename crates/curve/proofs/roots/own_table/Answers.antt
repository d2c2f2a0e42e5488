-- `curve::roots::own_table` meets its contract: the table passes its rule's test, computed here over the whole of it. Assumes nothing.
use mathlib.Core.Path.{refl}
use Rattle.curve.proofs.roots.LeadLaws.{printed_is}
use Rattle.curve.proofs.roots.own_table.Goals as goal

pub returns : goal.returns
returns c = printed_is _ refl refl
