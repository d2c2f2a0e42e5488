-- A step on the ground in two halves: the soil's water as depths, the stages' laws added up; and the stores, the line and the channel.
-- Assumes nothing.
use mathlib.Core.Path.{◌≡◌, refl, ap, ◌∙◌}
use Prim.Native.Nat.{ℕ, ◌+◌, ◌*◌, ◌≤◌}
use native.Mathlib.Omega.{arith}
use Rattle.common.specs.declared.weather.Weather.{Weather}
use Rattle.common.specs.Weather.{WeatherIn}
use Rattle.subbasin.specs.declared.record.SubBasin.{SubBasin}
use Rattle.subbasin.specs.declared.record.Sender.{Sender}
use Rattle.subbasin.specs.declared.soil.Evaporated.{Evaporated}
use Rattle.subbasin.specs.declared.slices.Sliced.{Sliced}
use Rattle.subbasin.specs.declared.free_water.Drained.{Drained}
use Rattle.subbasin.specs.Record.{words}
use Rattle.subbasin.specs.Workers.{SoilIn, LayersIn, FreeIn}
use Rattle.subbasin.specs.Soil.{ep, evaporated}
use Rattle.subbasin.specs.FreeWater.{drained}
use Rattle.subbasin.specs.Slices.{sliced}
use Rattle.subbasin.specs.Lag.{leaving, entered}
use Rattle.subbasin.specs.Step.{Stepped, layers_of, let_go, holds, evaporated_of, with_drained, with_slices, with_evaporated, on_ground}
use Rattle.common.proofs.Limits.{Within}
use Rattle.subbasin.proofs.soil.SoilLaws.{soil_in, layers_in, Evaporates, evaporation, evaporation_in, ep_most}
use Rattle.subbasin.proofs.free_water.FreeWaterLaws.{free_in, g_in, Drains, drained_drains}
use Rattle.subbasin.proofs.slices.SlicesLaws.{Falls, sliced_falls}

-- the stages in a chain
pub chained : (s : SubBasin) (w : Weather) {ev : Evaporated} {sl : Sliced} {dr : Drained} → ev ≡ evaporated_of s w
    → sl ≡ sliced s.fixed ev.layers s.contents.g ev.pe → dr ≡ drained s.fixed sl.kept → with_drained s ev sl dr ≡ on_ground s w
unfolding on_ground
chained s w {ev} {sl} ev-is sl-is dr-is =
    ap (λ (x : Drained). with_drained s ev sl x) dr-is ∙ ap (λ (x : Sliced). with_slices s ev x) sl-is ∙ ap (λ (x : Evaporated). with_evaporated s x) ev-is

-- Rain and the soil's water are evapotranspiration, runoff (RB + RS + RI + RG) and the soil's water after; depths in µm.
pub record Depths (s : SubBasin) (w : Weather) (st : Stepped) : Type 0 where
  pub balance : w.rain + (s.contents.wu + s.contents.wl + s.contents.wd + s.contents.g)
      ≡ st.eu + st.el + st.ed + (st.rb + st.rs + st.ri + st.rg) + (st.after.contents.wu + st.after.contents.wl + st.after.contents.wd + st.after.contents.g)
  pub evaporated_most : st.eu + st.el + st.ed ≤ 200000
  pub direct_most : st.rb + st.rs ≤ w.rain + s.contents.g
  pub slow_most : st.ri + st.rg ≤ s.fixed.sm
  pub wu_most : st.after.contents.wu ≤ s.fixed.um
  pub wl_most : st.after.contents.wl ≤ s.fixed.lm
  pub wd_most : st.after.contents.wd ≤ s.fixed.dm
  pub g_most : st.after.contents.g ≤ s.fixed.sm

pub depths : (m : ℕ) (v : Sender) (s : SubBasin) (w : Weather) → Within (words m v s) → WeatherIn w → Depths s w (on_ground s w)
unfolding on_ground
depths m v s weather h k =
    let p = s.fixed in
    let w = layers_of s.contents in
    let rain = weather.rain in
    let e = ep p weather.pan in
    let ev = evaporated p w rain e in
    let sl = sliced p ev.layers s.contents.g ev.pe in
    let soil : SoilIn p = soil_in m v s h in
    let free : FreeIn p = free_in m v s h in
    let fits : LayersIn p w = layers_in m v s h in
    let a : Evaporates w rain e ev = evaporation p w soil fits rain e in
    let b : Falls p ev.layers s.contents.g ev.pe sl = sliced_falls p ev.layers s.contents.g soil (evaporation_in p w soil fits rain e) (g_in m v s h) ev.pe in
    let c : Drains sl.kept (drained p sl.kept) = drained_drains p sl.kept free in
    omega (arith, ep_most p soil weather.pan k.pan_most)

-- T, the amount that enters the lag line, from the parts of the step's answer
abbrev pub amount : SubBasin → Stepped → ℕ
amount s st =
    (st.rs + st.rb + let_go s.fixed.ci s.contents.vi st.ri + let_go s.fixed.cg s.contents.vg st.rg) * s.fixed.area

-- where runoff goes: RI and RG into their stores, T into the line, what leaves the line through the channel
pub record Routes (s : SubBasin) (st : Stepped) : Type 0 where
  pub fixed_kept : st.after.fixed ≡ s.fixed
  pub sn_kept : st.after.contents.sn ≡ s.contents.sn
  pub vi_after : st.after.contents.vi ≡ holds s.fixed.ci s.contents.vi st.ri
  pub vg_after : st.after.contents.vg ≡ holds s.fixed.cg s.contents.vg st.rg
  pub line_after : st.after.line ≡ entered s.line (amount s st)
  pub channel_after : st.after.channel ≡ holds s.fixed.cs s.channel (leaving s.line (amount s st))
  pub q_is : st.q ≡ let_go s.fixed.cs s.channel (leaving s.line (amount s st))

pub routes : (s : SubBasin) (w : Weather) → Routes s (on_ground s w)
unfolding on_ground
routes s w = record { fixed_kept = refl; sn_kept = refl; vi_after = refl; vg_after = refl; line_after = refl; channel_after = refl; q_is = refl }
