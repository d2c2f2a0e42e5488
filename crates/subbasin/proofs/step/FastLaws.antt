-- A step at numbers: a definition that computes in a moment, and the law that both are one, so that a case is a computation and names
-- no stage. Assumes nothing.
use mathlib.Core.Path.{◌≡◌, ap}
use Rattle.common.specs.declared.weather.Weather.{Weather}
use Rattle.curve.specs.Store.{outflow, content}
use Rattle.subbasin.specs.declared.record.SubBasin.{SubBasin}
use Rattle.subbasin.specs.declared.slices.Sliced.{Sliced}
use Rattle.subbasin.specs.Snow.{snow, joined, melt, melted}
use Rattle.subbasin.specs.Soil.{ep, deeper, evaporated}
use Rattle.subbasin.specs.FreeWater.{drained}
use Rattle.subbasin.specs.Lag.{leaving, waiting_after, entered}
use Rattle.subbasin.specs.Step.{Stepped, evaporated_of, with_slices, on_ground, snow_of, lying, reaching, stepped}
use Rattle.subbasin.proofs.slices.FastLaws.{fast_sliced, sliced_fast}

unfoldable fast_on_ground : SubBasin → Weather → Stepped
unfolding evaporated deeper ep fast_sliced drained outflow content leaving waiting_after entered
fast_on_ground s w =
    let ev = evaporated_of s w in
    with_slices s ev (fast_sliced s.fixed ev.layers s.contents.g ev.pe)

on_ground_fast : (s : SubBasin) (w : Weather) → on_ground s w ≡ fast_on_ground s w
unfolding on_ground fast_on_ground
on_ground_fast s w = let ev = evaporated_of s w in ap (λ (sl : Sliced). with_slices s ev sl) (sliced_fast s.fixed ev.layers s.contents.g ev.pe)

unfoldable pub fast_stepped : SubBasin → Weather → Stepped
unfolding snow joined melt melted fast_on_ground
fast_stepped s w = let n = snow_of s w in fast_on_ground (lying s n) (reaching w n)

pub stepped_fast : (s : SubBasin) (w : Weather) → stepped s w ≡ fast_stepped s w
unfolding stepped fast_stepped
stepped_fast s w = on_ground_fast (lying s (snow_of s w)) (reaching w (snow_of s w))
