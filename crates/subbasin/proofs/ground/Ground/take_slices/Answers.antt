use mathlib.Core.Path.{◌≡◌, ap, ◌∙◌}
use Prim.Native.Nat.{ℕ, ◌+◌, ◌-◌, ◌*◌, ◌≤◌, min}
use native.Mathlib.Omega.{arith}
use Rattle.common.proofs.Loops.{carry_begin, carry_turn, carry_end}
use Rattle.subbasin.specs.declared.record.Parameters.{Parameters}
use Rattle.subbasin.specs.declared.soil.Layers.{Layers}
use Rattle.subbasin.specs.declared.slices.Sliced.{Sliced}
use Rattle.subbasin.specs.Workers.{SoilIn, LayersIn, FreeIn, RoomFor}
use Rattle.subbasin.specs.Slices.{most_slice, slices, slice, no_slice, after_slice, sliced}
use Rattle.subbasin.proofs.slices.SlicesLaws.{Falls, falls, below, below_more, slice_some, slice_starts, sliced_falls}
use Rattle.subbasin.proofs.ground.Ground.take_slices.Invariants.{Slicing}
use Rattle.subbasin.proofs.ground.Ground.take_slices.Goals as goal

slice_is : (pe i : ℕ) {x : ℕ} → x ≡ min most_slice (pe - i * most_slice) → x ≡ slice pe i
unfolding slice
slice_is pe i h = h

module _ (p : Parameters) (w : Layers) (g pe : ℕ) (soil : SoilIn p) (free : FreeIn p) (fits : LayersIn p w) (g_in : g ≤ p.sm) (most : pe ≤ 1000000)
    {s₀ s : Sliced} {i : ℕ} (from : s₀ ≡ no_slice w g) (h : Slicing p pe s₀ i s) where
  falls_here : Falls p w g (below pe i) s
  falls_here = rw (h.so_far, from) (falls p w g soil fits g_in pe i)

  room : {x : ℕ} → x ≡ slice pe i → RoomFor p x s
  room e =
      let here = falls_here in
      let next = below_more pe i in
      record {
        inside = here.inside;
        kept_most = here.kept_most;
        runoff_most = omega (arith, here.most, next, e);
        free_most = omega (arith, here.free, here.most, next, e, free.sm_most, g_in);
      }

ends : (p : Parameters) (w : Layers) (g pe : ℕ) {s₀ s : Sliced} {i : ℕ} → s₀ ≡ no_slice w g → Slicing p pe s₀ i s → slices pe ≤ i → s ≡ sliced p w g pe
unfolding sliced
ends p w g pe from h l = carry_end h l ∙ rw from

answered : (p : Parameters) (w : Layers) (g pe : ℕ) {s : Sliced} → SoilIn p → FreeIn p → LayersIn p w → g ≤ p.sm → pe ≤ 1000000 → s ≡ sliced p w g pe
    → record { answered : s ≡ sliced p w g pe; kept_most : s.kept ≤ p.sm; direct_most : s.rs + s.rb ≤ 1100000 }
answered p w g pe {s} soil free fits g_in most is =
    let f : Falls p w g pe s = rw is (sliced_falls p w g soil fits g_in pe) in
    record { answered = is; kept_most = f.kept_most; direct_most = omega (arith, f.free, f.most, free.sm_most) }

pub overflow_mul-i : goal.overflow_mul-i
overflow_mul-i c = omega (arith, slice_starts c.args.pe c.loop-i.i (omega (arith, c.loop-i-test.true, c.count-i-end.ensures)))

pub overflow_sub-pe : goal.overflow_sub-pe
overflow_sub-pe c = slice_starts c.args.pe c.loop-i.i (omega (arith, c.loop-i-test.true, c.count-i-end.ensures))

pub loop-i-init : goal.loop-i-init
loop-i-init c = carry_begin

pub take_slice-given-requires : goal.take_slice-given-requires
take_slice-given-requires c =
    let g = c.args.self.now in
    let here = slice_is c.args.pe c.loop-i.i c.min.ensures in (
      room _ _ _ _ g.soil_in g.free_in c.requires.0 c.requires.1 c.requires.2 c.begin-given.ensures c.loop-i.invariant here,
      omega (arith, here, slice_some c.args.pe c.loop-i.i (omega (arith, c.loop-i-test.true, c.count-i-end.ensures))),
    )

pub loop-i-preserved : goal.loop-i-preserved
loop-i-preserved c =
    carry_turn c.loop-i.invariant (omega (arith, c.loop-i-test.true, c.count-i-end.ensures))
    (c.take_slice-given.ensures ∙ ap (λ (x : ℕ). after_slice c.args.self.now.p.now x c.loop-i.given) (slice_is c.args.pe c.loop-i.i c.min.ensures))

pub returns : goal.returns
returns c =
    let g = c.args.self.now in
    answered _ _ _ _ g.soil_in g.free_in c.requires.0 c.requires.1 c.requires.2
    (ends _ _ _ _ c.begin-given.ensures c.loop-i.invariant (omega (arith, c.loop-i-test.false, c.count-i-end.ensures)))
