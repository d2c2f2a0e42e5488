-- The walk of the rains: it carries the tension water that PE leaves, and RB + R is the rest of PE. Assumes nothing.
use mathlib.Core.Path.{◌≡◌, refl, sym, ap, ◌∙◌}
use Prim.Native.Nat.{ℕ, zero, suc, ◌+◌, ◌-◌, ◌*◌, ◌/◌, ◌%◌, ◌≤◌}
use native.Mathlib.Decide.{dec_le}
use native.Mathlib.Omega.{arith}
use lib.Dec.{ltb}
use borrow.Author.Tests.{ltb-true, ltb-false}
use Rattle.common.specs.Loops.{run}
use Rattle.common.proofs.Limits.{Within, by_test}
use Rattle.subbasin.specs.declared.record.Parameters.{Parameters}
use Rattle.subbasin.specs.declared.record.SubBasin.{SubBasin}
use Rattle.subbasin.specs.declared.record.Sender.{Sender}
use Rattle.subbasin.specs.declared.soil.Layers.{Layers}
use Rattle.subbasin.specs.declared.soil.Evaporated.{Evaporated}
use Rattle.subbasin.specs.declared.soil.Runoff.{Runoff}
use Rattle.subbasin.specs.declared.slices.Sliced.{Sliced}
use Rattle.subbasin.specs.declared.walk.Walk.{Walk}
use Rattle.subbasin.specs.Soil.{tension, ep, evaporated, wm, rb, gain, runoff}
use Rattle.subbasin.specs.Slices.{most_slice, after_slice, sliced}
use Rattle.subbasin.specs.Step.{Stepped, layers_of, on_ground}
use Rattle.subbasin.specs.Record.{words}
use Rattle.subbasin.specs.Yields.{most_millimetres, yield}
use Rattle.subbasin.specs.Workers.{SoilIn, LayersIn, soaked, soaked_by, walk_at, unwalked, climbed, walked_to, net_rain, unsoaked}
use Rattle.subbasin.proofs.soil.SoilLaws.{soil_in, layers_in, net_rain_lem, rain_enough, Gains, gain_in, refilled_fills}
use Rattle.subbasin.proofs.free_water.FreeWaterLaws.{g_in}
use Rattle.subbasin.proofs.step.StepLaws.{snowless}
use Rattle.subbasin.proofs.slices.SlicesLaws.{sliced_falls, sliced_none, whole_slices, whole_falls, sliced_whole_rest}

-- ---- tension water

pub soaked_none : (p : Parameters) (w : ℕ) → w ≡ soaked p 0 w
unfolding soaked gain
soaked_none p w = omega arith

pub soaked_in : (p : Parameters) (pe w : ℕ) → w ≤ wm p → soaked p pe w ≤ wm p
unfolding soaked
soaked_in p pe w h = (gain_in p w pe (pe - rb p pe) h).into_soil

pub climbed_in : (p : Parameters) (whole from to : ℕ) → whole ≤ wm p → climbed p whole from to ≤ wm p
unfolding climbed
climbed_in p whole from to h = by_test (λ (x : ℕ). x ≤ wm p) (ltb from to) (λ _. soaked_in p most_slice whole h) (λ _. h)

soaked_by_in : (p : Parameters) (many w : ℕ) → w ≤ wm p → soaked_by p many w ≤ wm p
unfolding soaked_by run
soaked_by_in p zero w h = h
soaked_by_in p (suc many) w h = soaked_in p most_slice (soaked_by p many w) (soaked_by_in p many w h)

-- what a slice leaves in the layers
soaks : (p : Parameters) (w : Layers) (pe : ℕ) → LayersIn p w → tension (runoff p w pe).layers ≡ soaked p pe (tension w)
unfolding runoff soaked
soaks p w pe fits =
    let x : ℕ = pe - rb p pe in
    let gains : Gains p (tension w) x (gain p (tension w) pe x) = gain_in p (tension w) pe x (omega arith) in
    by_test (λ (ro : Runoff). tension ro.layers ≡ tension w + gain p (tension w) pe x) (ltb 0 pe)
    (λ _. (refilled_fills p w (gain p (tension w) pe x) fits (omega arith)).holds_all)
    (λ t. let z : pe ≤ 0 = ltb-false 0 pe t in omega (arith, gains.from_x))

module _ (p : Parameters) (w : Layers) (g : ℕ) (soil : SoilIn p) (fits : LayersIn p w) (free : g ≤ p.sm) where
  whole_soaks : (many : ℕ) → tension (whole_slices p w g many).layers ≡ soaked_by p many (tension w)
  unfolding whole_slices soaked_by run after_slice
  whole_soaks zero = refl
  whole_soaks (suc many) = soaks p _ most_slice (whole_falls p w g soil fits free many).inside ∙ ap (soaked p most_slice) (whole_soaks many)

  -- what PE leaves in them
  sliced_soaks : (pe : ℕ) → tension (sliced p w g pe).layers ≡ (walk_at p (tension w) pe).w
  unfolding after_slice
  sliced_soaks pe =
      let many : ℕ = pe / most_slice in
      ap (λ (s : Sliced). tension s.layers) (sliced_whole_rest p w g pe)
      ∙ soaks p _ (pe % most_slice) (whole_falls p w g soil fits free many).inside
      ∙ ap (soaked p (pe % most_slice)) (whole_soaks many)

-- ---- the walk

-- one whole slice more at most
climbs : (p : Parameters) (w from to : ℕ) → from ≤ to → to ≤ suc from → climbed p (soaked_by p from w) from to ≡ soaked_by p to w
unfolding climbed soaked_by run
climbs p w from to l h =
    by_test (λ (x : ℕ). x ≡ soaked_by p to w) (ltb from to)
    (λ t. let e : suc from ≡ to = omega (arith, ltb-true from to t) in ap (λ (k : ℕ). soaked_by p k w) e)
    (λ t. let e : from ≡ to = omega (arith, ltb-false from to t) in ap (λ (k : ℕ). soaked_by p k w) e)

-- from one rain to the next
walks : (p : Parameters) (w from to : ℕ) → from ≤ to → to ≤ from + 1000 → walked_to p to (walk_at p w from) ≡ walk_at p w to
unfolding walked_to
walks p w from to l h =
    ap (λ (x : ℕ). record { pe = to; slices = to / most_slice; whole = x; w = soaked p (to % most_slice) x })
    (climbs p w (from / most_slice) (to / most_slice) (omega arith) (omega arith))

-- the walk from the first rain to that of k millimetres
abbrev pub walked : Parameters → ℕ → ℕ → ℕ → Walk
walked p w e many = run (λ k before. walked_to p (net_rain e k) before) many (unwalked w)

pub walked_at : (p : Parameters) (w e k : ℕ) → walked p w e (suc k) ≡ walk_at p w (net_rain e k)
unfolding run soaked_by walked_to
walked_at p w e zero = let z : net_rain e 0 ≡ 0 = omega arith in rw z (walks p w 0 0 (omega arith) (omega arith))
walked_at p w e (suc k) =
    ap (walked_to p (net_rain e (suc k))) (walked_at p w e k) ∙ walks p w (net_rain e k) (net_rain e (suc k)) (omega arith) (omega arith)

-- the whole slices leave no more than fits
pub walked_in : (p : Parameters) (w e k : ℕ) → w ≤ wm p → (walked p w e k).whole ≤ wm p
unfolding run
walked_in p w e zero h = h
walked_in p w e (suc k) h = rw (walked_at p w e k) (soaked_by_in p (net_rain e k / most_slice) w h)

-- ---- what a rain yields

-- tension water gains PE at most
soaked_most : (p : Parameters) (w pe : ℕ) → w ≤ wm p → soaked p pe w ≤ w + pe
unfolding soaked
soaked_most p w pe h = omega (arith, (gain_in p w pe (pe - rb p pe) h).from_x)

soaked_by_most : (p : Parameters) (w many : ℕ) → w ≤ wm p → soaked_by p many w ≤ w + many * most_slice
unfolding soaked_by run
soaked_by_most p w zero h = omega arith
soaked_by_most p w (suc many) h =
    omega (arith, soaked_most p (soaked_by p many w) most_slice (soaked_by_in p many w h), soaked_by_most p w many h)

pub walk_most : (p : Parameters) (w pe : ℕ) → w ≤ wm p → (walk_at p w pe).w ≤ pe + w
walk_most p w pe h =
    let many : ℕ = pe / most_slice in
    omega (arith, soaked_most p (soaked_by p many w) (pe % most_slice) (soaked_by_in p many w h), soaked_by_most p w many h)

-- no net rain leaves it as it was
walk_none : (p : Parameters) (w : ℕ) → (walk_at p w 0).w ≡ w
unfolding soaked_by run
walk_none p w = sym (soaked_none p w)

-- RB + R, and the tension water after, are PE and the tension water before
module _ (p : Parameters) (w : Layers) (g : ℕ) (soil : SoilIn p) (fits : LayersIn p w) (free : g ≤ p.sm) (rain e : ℕ) where
  abbrev left : Evaporated → Sliced
  left ev = sliced p ev.layers g ev.pe

  runs_off : (left (evaporated p w rain e)).rb + (left (evaporated p w rain e)).r + (walk_at p (tension w) (rain - e)).w ≡ rain - e + tension w
  runs_off = go (dec_le e rain)
    where
      go : Dec (e ≤ rain)
          → (left (evaporated p w rain e)).rb + (left (evaporated p w rain e)).r + (walk_at p (tension w) (rain - e)).w ≡ rain - e + tension w
      go (yes l) =
          rw (net_rain_lem p w soil fits rain e, rain_enough p w soil fits rain e l)
          (omega (arith, (sliced_falls p w g soil fits free (rain - e)).soil, sliced_soaks p w g soil fits free (rain - e)))
      go (no n) =
          let z : rain - e ≡ 0 = omega arith in
          rw (net_rain_lem p w soil fits rain e, z, sliced_none p (evaporated p w rain e).layers g) (omega (arith, walk_none p (tension w)))

-- what a rain yields is what the walk leaves of it
pub yield_is : (m : ℕ) (v : Sender) (s : SubBasin) (pan k : ℕ) → k ≤ most_millimetres → Within (words m v s)
    → yield s pan k ≡ unsoaked s.fixed (tension (layers_of s.contents)) (ep s.fixed pan) k
unfolding yield on_ground unsoaked
yield_is m v s pan k l h =
    omega (
      arith,
      ap (λ (st : Stepped). st.rb) (snowless s (1000 * k) pan (omega arith)),
      ap (λ (st : Stepped). st.r) (snowless s (1000 * k) pan (omega arith)),
      runs_off s.fixed (layers_of s.contents) s.contents.g (soil_in m v s h) (layers_in m v s h) (g_in m v s h) (1000 * k) (ep s.fixed pan),
    )
