-- Slices at numbers: each definition beside one that computes in a moment, and the law that both are one, as in the curve's FastLaws.
-- What a slice gave is named once, so that it is worked out once. Assumes nothing.
use mathlib.Core.Path.{◌≡◌, refl, sym, ap, ◌∙◌}
use mathlib.Core.Bool.{cond}
use Prim.Native.Nat.{ℕ, zero, suc, ◌+◌, ◌-◌, ◌*◌, ◌/◌, min}
use lib.Dec.{ltb}
use Rattle.common.specs.Loops.{run}
use Rattle.curve.proofs.capacity.FastLaws.{fast_rise, rise_fast}
use Rattle.subbasin.specs.declared.record.Parameters.{Parameters}
use Rattle.subbasin.specs.declared.soil.Layers.{Layers}
use Rattle.subbasin.specs.declared.soil.Runoff.{Runoff}
use Rattle.subbasin.specs.declared.slices.Sliced.{Sliced}
use Rattle.subbasin.specs.Soil.{tension, wm, mm, rb, gain, refilled, runoff}
use Rattle.subbasin.specs.FreeWater.{ms, level, keep}
use Rattle.subbasin.specs.Slices.{slices, slice, no_slice, added, after_slice, sliced, unsliced}
use Rattle.subbasin.proofs.slices.SlicesLaws.{first_slice}

unfoldable fast_gain : Parameters → ℕ → ℕ → ℕ → ℕ
unfolding fast_rise mm
fast_gain p w pe x = min x (fast_rise (wm p) (mm p) p.bn w pe - w)

gain_fast : (p : Parameters) (w pe x : ℕ) → gain p w pe x ≡ fast_gain p w pe x
unfolding gain fast_gain
gain_fast p w pe x = ap (λ (top : ℕ). min x (top - w)) (rise_fast (wm p) (mm p) p.bn w pe)

unfoldable fast_runoff : Parameters → Layers → ℕ → Runoff
unfolding fast_gain rb refilled
fast_runoff p w pe =
    let gained = fast_gain p (tension w) pe (pe - rb p pe) in
    cond (ltb 0 pe)
    (record { rb = rb p pe; r = pe - rb p pe - gained; layers = refilled p w gained })
    (record { rb = 0; r = 0; layers = w })

runoff_fast : (p : Parameters) (w : Layers) (pe : ℕ) → runoff p w pe ≡ fast_runoff p w pe
unfolding runoff fast_runoff
runoff_fast p w pe =
    ap
    (λ (gained : ℕ). cond (ltb 0 pe) (record { rb = rb p pe; r = pe - rb p pe - gained; layers = refilled p w gained }) (record { rb = 0; r = 0; layers = w }))
    (gain_fast p (tension w) pe (pe - rb p pe))

unfoldable fast_keep : Parameters → ℕ → ℕ → ℕ → ℕ
unfolding fast_rise ms level
fast_keep p g pe r = cond (ltb 0 r) (min (g + r) (fast_rise p.sm (ms p) p.xn (level p g pe r) pe * r / pe)) g

keep_fast : (p : Parameters) (g pe r : ℕ) → keep p g pe r ≡ fast_keep p g pe r
unfolding keep fast_keep
keep_fast p g pe r =
    ap (λ (top : ℕ). cond (ltb 0 r) (min (g + r) (top * r / pe)) g) (rise_fast p.sm (ms p) p.xn (level p g pe r) pe)

unfoldable pub fast_after_slice : Parameters → ℕ → Sliced → Sliced
unfolding fast_runoff fast_keep
fast_after_slice p pe s =
    let ro = fast_runoff p s.layers pe in
    added s ro (fast_keep p s.kept pe ro.r)

after_slice_fast : (p : Parameters) (pe : ℕ) (s : Sliced) → after_slice p pe s ≡ fast_after_slice p pe s
unfolding after_slice fast_after_slice
after_slice_fast p pe s =
    let ro = fast_runoff p s.layers pe in
    ap (λ (x : Runoff). added s x (keep p s.kept pe x.r)) (runoff_fast p s.layers pe) ∙ ap (added s ro) (keep_fast p s.kept pe ro.r)

unfoldable fast_run : Parameters → ℕ → ℕ → Sliced → Sliced
unfolding fast_after_slice slice
fast_run p pe zero s = s
fast_run p pe (suc n) s = fast_after_slice p (slice pe n) (fast_run p pe n s)

run_fast : (p : Parameters) (pe n : ℕ) (s : Sliced) → run (λ i t. after_slice p (slice pe i) t) n s ≡ fast_run p pe n s
unfolding run fast_run
run_fast p pe zero s = refl
run_fast p pe (suc n) s = after_slice_fast p (slice pe n) _ ∙ ap (fast_after_slice p (slice pe n)) (run_fast p pe n s)

unfoldable pub fast_sliced : Parameters → Layers → ℕ → ℕ → Sliced
unfolding fast_run slices
fast_sliced p w g pe = fast_run p pe (slices pe) (no_slice w g)

pub sliced_fast : (p : Parameters) (w : Layers) (g pe : ℕ) → sliced p w g pe ≡ fast_sliced p w g pe
unfolding sliced fast_sliced
sliced_fast p w g pe = run_fast p pe (slices pe) (no_slice w g)

pub unsliced_fast : (p : Parameters) (w : Layers) (g pe : ℕ) → unsliced p w g pe ≡ fast_after_slice p pe (no_slice w g)
unsliced_fast p w g pe = sym (first_slice p w g pe) ∙ after_slice_fast p pe (no_slice w g)
