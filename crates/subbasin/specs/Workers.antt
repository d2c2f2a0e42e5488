-- What the private functions require and answer: no part of document 01.
use Rattle.std.specs.Prelude.{ℕ, ◌+◌, ◌-◌, ◌*◌, ◌/◌, ◌%◌, ◌≤◌, cond, ltb}
use Rattle.common.specs.Shares.{one}
use Rattle.common.specs.Loops.{run}
use Rattle.subbasin.specs.declared.record.Parameters.{Parameters}
use Rattle.subbasin.specs.declared.soil.Layers.{Layers}
use Rattle.subbasin.specs.declared.slices.Sliced.{Sliced}
use Rattle.curve.specs.declared.capacity.Curve.{Curve}
use Rattle.subbasin.specs.declared.walk.Walk.{Walk}
use Rattle.subbasin.specs.Soil.{wm, mm, rb, gain}
use Rattle.subbasin.specs.FreeWater.{ms}
use Rattle.subbasin.specs.Slices.{most_slice}

-- the words that evapotranspiration and runoff read
pub record SoilIn (p : Parameters) : Type 0 where
  pub k_most : p.k ≤ 131072
  pub um_most : p.um ≤ 100000
  pub lm_least : 1 ≤ p.lm
  pub lm_most : p.lm ≤ 200000
  pub dm_most : p.dm ≤ 200000
  pub c_most : p.c ≤ 65535
  pub bn_least : 16 ≤ p.bn
  pub bn_most : p.bn ≤ 32
  pub im_most : p.im ≤ 32768

-- the layers within their capacities
pub record LayersIn (p : Parameters) (w : Layers) : Type 0 where
  pub wu_most : w.wu ≤ p.um
  pub wl_most : w.wl ≤ p.lm
  pub wd_most : w.wd ≤ p.dm

-- the words that free water reads
pub record FreeIn (p : Parameters) : Type 0 where
  pub sm_least : 1 ≤ p.sm
  pub sm_most : p.sm ≤ 100000
  pub xn_least : 16 ≤ p.xn
  pub xn_most : p.xn ≤ 48
  pub drains : p.ki + p.kg ≤ one

-- what slices have given leaves room for one of pe more: the stores are inside, and the sums fit
pub record RoomFor (p : Parameters) (pe : ℕ) (s : Sliced) : Type 0 where
  pub inside : LayersIn p s.layers
  pub kept_most : s.kept ≤ p.sm
  pub runoff_most : s.rb + s.r + pe ≤ 1000000
  pub free_most : s.rs + s.kept + pe ≤ 1100000

-- the curves of tension water and of free water
abbrev pub soil_curve : Parameters → Curve
soil_curve p = record { c = wm p; m = mm p; e = p.bn }

abbrev pub free_curve : Parameters → Curve
free_curve p = record { c = p.sm; m = ms p; e = p.xn }

-- tension water w after a slice of pe, and after so many whole slices
unfoldable pub soaked : Parameters → ℕ → ℕ → ℕ
soaked p pe w = w + gain p w pe (pe - rb p pe)

unfoldable pub soaked_by : Parameters → ℕ → ℕ → ℕ
soaked_by p many w = run (λ i x. soaked p most_slice x) many w

-- where PE leaves tension water w: after its whole slices, and then its rest
abbrev pub walk_at : Parameters → ℕ → ℕ → Walk
walk_at p w pe =
    let whole = soaked_by p (pe / most_slice) w in
    record { pe = pe; slices = pe / most_slice; whole = whole; w = soaked p (pe % most_slice) whole }

-- a walk before the first rain, and on from a rain to the next
abbrev pub unwalked : ℕ → Walk
unwalked w = record { pe = 0; slices = 0; whole = w; w = w }

unfoldable pub climbed : Parameters → ℕ → ℕ → ℕ → ℕ
climbed p whole from to = cond (ltb from to) (soaked p most_slice whole) whole

unfoldable pub walked_to : Parameters → ℕ → Walk → Walk
walked_to p pe before =
    let whole = climbed p before.whole before.slices (pe / most_slice) in
    record { pe = pe; slices = pe / most_slice; whole = whole; w = soaked p (pe % most_slice) whole }

-- net rain of k millimetres where EP is e: P − EP, and none where P < EP
abbrev pub net_rain : ℕ → ℕ → ℕ
net_rain e k = 1000 * k - e

-- and what of it the tension water w doesn't gain
unfoldable pub unsoaked : Parameters → ℕ → ℕ → ℕ → ℕ
unsoaked p w e k = net_rain e k + w - (walk_at p w (net_rain e k)).w
