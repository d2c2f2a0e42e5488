-- Document 01, "One sub-basin, one step" and "The store law", with net rain as document 02, No. 3, has it, and snow, No. 8: one step of a
-- sub-basin, and the sub-basin call.
use Rattle.std.specs.Prelude.{◌≡◌, ℕ, ◌+◌, ◌-◌, ◌*◌, ◌≤◌, Bool, cond, ◌&&◌, leb, int_le, Result, Ok, Err}
use Rattle.common.specs.Shares.{one}
use Rattle.common.specs.declared.weather.Weather.{Weather}
use Rattle.common.specs.declared.refusal.Refusal.{Refusal}
use Rattle.common.specs.Refusals.{number_of}
use Rattle.common.specs.Weather.{most_rain, most_pan, least_temperature, most_temperature}
use Rattle.curve.specs.Store.{outflow, content}
use Rattle.subbasin.specs.declared.record.Contents.{Contents}
use Rattle.subbasin.specs.declared.record.LagLine.{LagLine}
use Rattle.subbasin.specs.declared.record.SubBasin.{SubBasin}
use Rattle.subbasin.specs.declared.step.Flows.{Flows}
use Rattle.subbasin.specs.Record.{record_in}
use Rattle.subbasin.specs.declared.snow.Snow.{Snow}
use Rattle.subbasin.specs.declared.soil.Layers.{Layers}
use Rattle.subbasin.specs.declared.soil.Evaporated.{Evaporated}
use Rattle.subbasin.specs.declared.free_water.Drained.{Drained}
use Rattle.subbasin.specs.declared.slices.Sliced.{Sliced}
use Rattle.subbasin.specs.Snow.{snow}
use Rattle.subbasin.specs.Soil.{ep, evaporated}
use Rattle.subbasin.specs.FreeWater.{drained}
use Rattle.subbasin.specs.Slices.{sliced, unsliced}
use Rattle.subbasin.specs.Lag.{leaving, entered}

-- What a step of a sub-basin gives: number and place are 0 where it is accepted. Depths in µm, q in m³.
pub record Stepped : Type 0 where
  pub number : ℕ
  pub place : ℕ
  pub after : SubBasin
  pub eu : ℕ
  pub el : ℕ
  pub ed : ℕ
  pub rb : ℕ
  pub r : ℕ
  pub rs : ℕ
  pub ri : ℕ
  pub rg : ℕ
  pub q : ℕ

abbrev pub layers_of : Contents → Layers
layers_of w = record { wu = w.wu; wl = w.wl; wd = w.wd }

-- "a = g = 65,536 − CI (or CG)", and CS
abbrev pub rest : ℕ → ℕ
rest share = one - share

-- TI, TG: what a slow store with recession `share` and content v lets go of its inflow; and what it then holds
abbrev pub let_go : ℕ → ℕ → ℕ → ℕ
let_go share v i = outflow (rest share) (rest share) v i

abbrev pub holds : ℕ → ℕ → ℕ → ℕ
holds share v i = content (rest share) (rest share) v i

-- "T = (RS + RB + TI + TG) × area"
abbrev pub total : SubBasin → Sliced → Drained → ℕ
total s sl dr =
    (sl.rs + sl.rb + let_go s.fixed.ci s.contents.vi dr.ri + let_go s.fixed.cg s.contents.vg dr.rg) * s.fixed.area

-- the answer, from what each stage gave, what VI, VG, the lag line and the channel are then, and Q
abbrev pub gathered : SubBasin → Evaporated → Sliced → Drained → ℕ → ℕ → LagLine → ℕ → ℕ → Stepped
gathered s ev sl dr vi vg line channel q =
    record {
      number = 0;
      place = 0;
      after =
          record {
            fixed = s.fixed;
            contents = record { wu = sl.layers.wu; wl = sl.layers.wl; wd = sl.layers.wd; g = dr.g; vi = vi; vg = vg; sn = s.contents.sn };
            line = line;
            channel = channel;
          };
      eu = ev.eu;
      el = ev.el;
      ed = ev.ed;
      rb = sl.rb;
      r = sl.r;
      rs = sl.rs;
      ri = dr.ri;
      rg = dr.rg;
      q = q;
    }

-- "TI comes from store VI with inflow RI, TG from VG with RG"; T, the amount t, "enters the lag line", and what leaves it "goes through
-- the CS store to give Q"
abbrev pub with_total : SubBasin → Evaporated → Sliced → Drained → ℕ → Stepped
with_total s ev sl dr t =
    gathered s ev sl dr
    (holds s.fixed.ci s.contents.vi dr.ri)
    (holds s.fixed.cg s.contents.vg dr.rg)
    (entered s.line t)
    (holds s.fixed.cs s.channel (leaving s.line t))
    (let_go s.fixed.cs s.channel (leaving s.line t))

-- the stages in order
abbrev pub with_drained : SubBasin → Evaporated → Sliced → Drained → Stepped
with_drained s ev sl dr = with_total s ev sl dr (total s sl dr)

-- "KI and KG drain once, after the last slice, from the last keep"
abbrev pub with_slices : SubBasin → Evaporated → Sliced → Stepped
with_slices s ev sl = with_drained s ev sl (drained s.fixed sl.kept)

-- EU, EL, ED and PE, and the layers they leave
abbrev pub evaporated_of : SubBasin → Weather → Evaporated
evaporated_of s w = evaporated s.fixed (layers_of s.contents) w.rain (ep s.fixed w.pan)

abbrev pub with_evaporated : SubBasin → Evaporated → Stepped
with_evaporated s ev = with_slices s ev (sliced s.fixed ev.layers s.contents.g ev.pe)

-- the step on the ground, where P is the weather's rain
unfoldable pub on_ground : SubBasin → Weather → Stepped
on_ground s w = with_evaporated s (evaporated_of s w)

-- the same with PE in one, as document 01 has it
unfoldable pub on_ground_whole : SubBasin → Weather → Stepped
on_ground_whole s w =
    let ev = evaporated_of s w in
    with_slices s ev (unsliced s.fixed ev.layers s.contents.g ev.pe)

-- ---- snow comes first

abbrev pub snow_of : SubBasin → Weather → Snow
snow_of s w = snow s.fixed s.contents.sn w.rain w.temperature

-- the record with the snow that then lies, and the weather with P as its rain
abbrev pub lying : SubBasin → Snow → SubBasin
lying s n =
    let v = s.contents in
    record {
      fixed = s.fixed;
      contents = record { wu = v.wu; wl = v.wl; wd = v.wd; g = v.g; vi = v.vi; vg = v.vg; sn = n.sn };
      line = s.line;
      channel = s.channel;
    }

abbrev pub reaching : Weather → Snow → Weather
reaching w n = record { rain = n.p; pan = w.pan; temperature = w.temperature }

unfoldable pub stepped : SubBasin → Weather → Stepped
stepped s w = on_ground (lying s (snow_of s w)) (reaching w (snow_of s w))

unfoldable pub stepped_whole : SubBasin → Weather → Stepped
stepped_whole s w = on_ground_whole (lying s (snow_of s w)) (reaching w (snow_of s w))

-- PE
unfoldable pub pe_of : SubBasin → Weather → ℕ
pe_of s w = (evaporated_of (lying s (snow_of s w)) (reaching w (snow_of s w))).pe

-- ---- the call

-- 10, place 0, the record as it was, all else 0
abbrev pub returned : SubBasin → Stepped
returned s =
    record
    { number = 10; place = 0; after = s; eu = 0; el = 0; ed = 0; rb = 0; r = 0; rs = 0; ri = 0; rg = 0; q = 0 }

-- what a call's answer stands for, with the record as it then is
abbrev pub as_stepped : SubBasin → Result Flows Refusal → Stepped
as_stepped s (Ok f) =
    record {
      number = 0;
      place = 0;
      after = s;
      eu = f.eu;
      el = f.el;
      ed = f.ed;
      rb = f.rb;
      r = f.r;
      rs = f.rs;
      ri = f.ri;
      rg = f.rg;
      q = f.q;
    }
as_stepped s (Err why) =
    record
    { number = number_of why; place = 0; after = s; eu = 0; el = 0; ed = 0; rb = 0; r = 0; rs = 0; ri = 0; rg = 0; q = 0 }

-- "for a record that 9 would refuse (REACH isn't judged), rain above 1,000,000 or pan above 100,000", and for a temperature "outside
-- −80,000..60,000"
unfoldable pub call_in : SubBasin → Weather → Bool
call_in s w =
    record_in s.fixed.reach s && leb w.rain most_rain && leb w.pan most_pan
    && int_le least_temperature w.temperature && int_le w.temperature most_temperature

-- the sub-basin call
unfoldable pub sub_call : SubBasin → Weather → Stepped
sub_call s w = cond (call_in s w) (stepped s w) (returned s)

-- and with PE in one: document 02, No. 3, "A step with PE of 5,000 or less answers as before"
unfoldable pub whole_call : SubBasin → Weather → Stepped
whole_call s w = cond (call_in s w) (stepped_whole s w) (returned s)

abbrev pub AsBefore : SubBasin → Weather → Stepped → Type 0
AsBefore s w r = pe_of s w ≤ 5000 → r ≡ whole_call s w
