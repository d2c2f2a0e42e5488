-- Net rain in slices: what the slices give is their sum, the stores stay inside after each; one slice is document 01's own rule; and
-- they are the whole slices, then the rest. Assumes nothing.
use mathlib.Core.Path.{◌≡◌, refl, ap, ◌∙◌}
use Prim.Native.Nat.{ℕ, zero, suc, ◌+◌, ◌*◌, ◌/◌, ◌%◌, ◌≤◌, ◌<◌, min}
use native.Mathlib.Decide.{ℕ_discrete}
use native.Mathlib.Omega.{arith}
use Rattle.common.specs.Loops.{run}
use Rattle.common.proofs.Loops.{run_same}
use Rattle.subbasin.specs.declared.record.Parameters.{Parameters}
use Rattle.subbasin.specs.declared.soil.Layers.{Layers}
use Rattle.subbasin.specs.declared.soil.Runoff.{Runoff}
use Rattle.subbasin.specs.declared.slices.Sliced.{Sliced}
use Rattle.subbasin.specs.Workers.{SoilIn, LayersIn}
use Rattle.subbasin.specs.Soil.{tension, runoff}
use Rattle.subbasin.specs.FreeWater.{keep}
use Rattle.subbasin.specs.Slices.{most_slice, slices, slice, no_slice, after_slice, sliced, unsliced}
use Rattle.subbasin.proofs.soil.SoilLaws.{Runs, runs}
use Rattle.subbasin.proofs.free_water.FreeWaterLaws.{Keeps, keep_none, keeps}

-- Of PE, `fell` has fallen on the layers w and the free water g: runoff and what the layers took are that, RS and what is kept are G and R.
pub record Falls (p : Parameters) (w : Layers) (g fell : ℕ) (s : Sliced) : Type 0 where
  pub inside : LayersIn p s.layers
  pub kept_most : s.kept ≤ p.sm
  pub most : s.rb + s.r ≤ fell
  pub soil : fell + tension w ≡ s.rb + s.r + tension s.layers
  pub free : g + s.r ≡ s.rs + s.kept

-- the slices before place i, together
abbrev pub below : ℕ → ℕ → ℕ
below pe i = min pe (i * most_slice)

below_none : (pe : ℕ) → below pe 0 ≡ 0
below_none pe = omega arith

pub below_more : (pe i : ℕ) → below pe i + slice pe i ≡ below pe (suc i)
unfolding slice
below_more pe i = omega arith

pub slice_some : (pe i : ℕ) → i < slices pe → 0 < slice pe i
unfolding slices slice
slice_some pe i h = omega arith

pub slice_starts : (pe i : ℕ) → i < slices pe → i * most_slice ≤ pe
unfolding slices
slice_starts pe i h = omega arith

below_all : (pe : ℕ) → below pe (slices pe) ≡ pe
unfolding slices
below_all pe = omega arith

module _ (p : Parameters) (w : Layers) (g : ℕ) (soil_in : SoilIn p) (fits : LayersIn p w) (g_in : g ≤ p.sm) where
  falls_begin : Falls p w g 0 (no_slice w g)
  falls_begin = omega arith

  falls_more : (fell pe : ℕ) (s : Sliced) → Falls p w g fell s → Falls p w g (fell + pe) (after_slice p pe s)
  unfolding after_slice
  falls_more fell pe s h =
      let ro : Runoff = runoff p s.layers pe in
      let a : Runs p s.layers pe ro = runs p s.layers pe soil_in h.inside in
      let b : Keeps p s.kept ro.r (keep p s.kept pe ro.r) = keeps p s.kept pe ro.r h.kept_most (omega (arith, a.most)) in
      record {
        inside = a.inside;
        kept_most = omega (arith, b);
        most = omega (arith, a);
        soil = omega (arith, a);
        free = omega (arith, b);
      }

  pub falls : (pe i : ℕ) → Falls p w g (below pe i) (run (λ k s. after_slice p (slice pe k) s) i (no_slice w g))
  unfolding run
  falls pe zero = rw (below_none pe) falls_begin
  falls pe (suc i) = rw (← below_more pe i) (falls_more (below pe i) (slice pe i) _ (falls pe i))

  -- all of PE has fallen
  pub sliced_falls : (pe : ℕ) → Falls p w g pe (sliced p w g pe)
  unfolding sliced
  sliced_falls pe = rw (below_all pe) at (falls pe (slices pe))

-- what a slice asks of its stages
pub ruleset slice_laws = (runs, keep_none, keeps)

-- no net rain, no slice
pub sliced_none : (p : Parameters) (w : Layers) (g : ℕ) → sliced p w g 0 ≡ no_slice w g
unfolding sliced slices run
sliced_none p w g = refl

-- ---- PE of one slice at most

slices_one : (pe : ℕ) → 0 < pe → pe ≤ most_slice → slices pe ≡ 1
unfolding slices
slices_one pe z h = omega arith

slice_first : (pe : ℕ) → pe ≤ most_slice → slice pe 0 ≡ pe
unfolding slice
slice_first pe h = omega arith

same_sums : {w : Layers} {rb rb' r r' rs rs' kept kept' : ℕ} → rb ≡ rb' → r ≡ r' → rs ≡ rs' → kept ≡ kept'
    → ◌≡◌ {A = Sliced} (record { rb = rb; r = r; rs = rs; layers = w; kept = kept }) (record { rb = rb'; r = r'; rs = rs'; layers = w; kept = kept' })
same_sums a b c d = rw (a, b, c, d)

-- no net rain leaves all as it was
unsliced_none : (p : Parameters) (w : Layers) (g : ℕ) → no_slice w g ≡ unsliced p w g 0
unfolding unsliced runoff keep
unsliced_none p w g = same_sums refl refl (omega arith) refl

-- the first slice is added to nothing
pub first_slice : (p : Parameters) (w : Layers) (g pe : ℕ) → after_slice p pe (no_slice w g) ≡ unsliced p w g pe
unfolding after_slice unsliced
first_slice p w g pe = same_sums (omega arith) (omega arith) (omega arith) (omega arith)

pub sliced_once : (p : Parameters) (w : Layers) (g pe : ℕ) → pe ≤ most_slice → sliced p w g pe ≡ unsliced p w g pe
unfolding sliced slices run
sliced_once p w g zero h = unsliced_none p w g
sliced_once p w g (suc n) h = one_slice (suc n) (omega arith) h
  where
    one_slice : (pe : ℕ) → 0 < pe → pe ≤ most_slice → run (λ k s. after_slice p (slice pe k) s) (slices pe) (no_slice w g) ≡ unsliced p w g pe
    one_slice pe z l = rw (slices_one pe z l, slice_first pe l) (first_slice p w g pe)

-- ---- the whole slices, then the rest

-- so many whole slices
unfoldable pub whole_slices : Parameters → Layers → ℕ → ℕ → Sliced
whole_slices p w g many = run (λ i s. after_slice p most_slice s) many (no_slice w g)

-- a slice of nothing leaves all as it was
after_none : (p : Parameters) (s : Sliced) → s ≡ after_slice p 0 s
unfolding after_slice runoff keep
after_none p s = same_sums (omega arith) (omega arith) (omega arith) refl

module _ (p : Parameters) (w : Layers) (g pe : ℕ) where
  -- the slices before the rest are whole
  whole_first : run (λ k s. after_slice p (slice pe k) s) (pe / most_slice) (no_slice w g) ≡ whole_slices p w g (pe / most_slice)
  unfolding whole_slices slice
  whole_first =
      run_same (λ k s. after_slice p (slice pe k) s) (λ k s. after_slice p most_slice s) (pe / most_slice) (no_slice w g)
      (λ k l t. ap (λ (x : ℕ). after_slice p x t) (omega arith))

  pub sliced_whole_rest : sliced p w g pe ≡ after_slice p (pe % most_slice) (whole_slices p w g (pe / most_slice))
  unfolding sliced slices slice run
  sliced_whole_rest = go (ℕ_discrete (pe % most_slice) 0)
    where
      turn : ℕ → Sliced → Sliced
      turn k s = after_slice p (slice pe k) s

      go : Dec (pe % most_slice ≡ 0) → run turn (slices pe) (no_slice w g) ≡ after_slice p (pe % most_slice) (whole_slices p w g (pe / most_slice))
      go (yes z) =
          let many : slices pe ≡ pe / most_slice = omega arith in
          rw (many, z) (whole_first ∙ after_none p _)
      go (no z) =
          let many : slices pe ≡ suc (pe / most_slice) = omega arith in
          let last : slice pe (pe / most_slice) ≡ pe % most_slice = omega arith in
          rw (many, last) (ap (after_slice p (pe % most_slice)) whole_first)

pub whole_falls : (p : Parameters) (w : Layers) (g : ℕ) → SoilIn p → LayersIn p w → g ≤ p.sm → (many : ℕ) → Falls p w g (many * most_slice) (whole_slices p w g many)
unfolding whole_slices run
whole_falls p w g soil fits free zero = falls_begin p w g soil fits free
whole_falls p w g soil fits free (suc many) =
    let fell : many * most_slice + most_slice ≡ suc many * most_slice = omega arith in
    rw (← fell) (falls_more p w g soil fits free (many * most_slice) most_slice _ (whole_falls p w g soil fits free many))
