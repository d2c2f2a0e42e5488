-- What the way to the outlet asks of a record that 9 allows: no store is outside its limits, and no sum too large. Assumes nothing.
use mathlib.Core.Path.{◌≡◌, ap₂}
use mathlib.Core.Bool.{true}
use mathlib.Core.List.{◌∷◌}
use Prim.Native.Nat.{ℕ, ◌+◌, ◌*◌, ◌^◌, ◌≤◌}
use native.Mathlib.Omega.{arith}
use Rattle.common.specs.Shares.{one}
use Rattle.common.proofs.amounts.AmountLaws.{UpTo, up_to_at}
use Rattle.subbasin.specs.declared.record.SubBasin.{SubBasin}
use Rattle.subbasin.specs.declared.record.Sender.TheVariants.{Host}
use Rattle.subbasin.specs.declared.record.LagLine.{LagLine}
use Rattle.subbasin.specs.declared.slices.Sliced.{Sliced}
use Rattle.subbasin.specs.declared.free_water.Drained.{Drained}
use Rattle.subbasin.specs.Lag.{in_use, leaving}
use Rattle.subbasin.specs.Record.{record_in, most_slow, most_stored}
use Rattle.subbasin.specs.Step.{let_go, total}
use Rattle.subbasin.proofs.record.RecordLaws.{record_limits}
use Rattle.subbasin.proofs.step.OnGroundLaws.{total_fits}

-- the words that the way reads
pub record RouteIn (s : SubBasin) : Type 0 where
  pub ci_in : s.fixed.ci ≤ one
  pub cg_in : s.fixed.cg ≤ one
  pub cs_in : s.fixed.cs ≤ one
  pub lag_in : s.line.lag ≤ 15
  pub vi_in : s.contents.vi ≤ most_slow Host
  pub vg_in : s.contents.vg ≤ most_slow Host
  pub channel_in : s.channel ≤ most_stored

pub route_in : (s : SubBasin) → record_in s.fixed.reach s ≡ true → RouteIn s
route_in s allowed =
    let h = record_limits s.fixed.reach s allowed in
    let ws = h.in_words in
    omega (arith, h.in_channel)

leaving_le : (line : LagLine) (t b : ℕ) → t ≤ b → UpTo b line.waiting → leaving line t ≤ b
unfolding leaving
leaving_le line t b h k = up_to_at b (t ∷ line.waiting) (in_use line) (h, k)

-- T is made of what the slow stores let go, and goes through the line
module _ (s : SubBasin) (sl : Sliced) (dr : Drained) (allowed : record_in s.fixed.reach s ≡ true) (direct : sl.rs + sl.rb ≤ 1100000)
    (drains : dr.ri + dr.rg ≤ 100000) {ti tg : ℕ} (i-is : ti ≡ let_go s.fixed.ci s.contents.vi dr.ri) (g-is : tg ≡ let_go s.fixed.cg s.contents.vg dr.rg) where
  t_is : (sl.rs + sl.rb + ti + tg) * s.fixed.area ≡ total s sl dr
  t_is = ap₂ (λ (x y : ℕ). (sl.rs + sl.rb + x + y) * s.fixed.area) i-is g-is

  pub t_fits : (sl.rs + sl.rb + ti + tg) * s.fixed.area ≤ 2 ^ 47
  t_fits = omega (arith, t_is, total_fits s.fixed.reach s sl dr (record_limits s.fixed.reach s allowed) direct drains)

  pub leaving_fits : leaving s.line ((sl.rs + sl.rb + ti + tg) * s.fixed.area) ≤ 2 ^ 50
  leaving_fits = leaving_le s.line _ (2 ^ 50) (omega (arith, t_fits)) (record_limits s.fixed.reach s allowed).in_line

pub ruleset route_laws = (route_in, t_fits, leaving_fits)
