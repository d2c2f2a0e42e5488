-- `subbasin::record::SubBasin::is_blank` meets its contract. Assumes nothing.
use mathlib.Core.Path.{◌∙◌}
use native.Mathlib.Omega.{arith}
use Rattle.subbasin.proofs.record.RecordLaws.{default_blank, zero_is_blank}
use Rattle.subbasin.proofs.record.SubBasin.is_blank.Goals as goal

pub returns : goal.returns
returns c = c.eq.ensures ∙ rw (default_blank _ c.default.ensures) (zero_is_blank _ (omega arith))
