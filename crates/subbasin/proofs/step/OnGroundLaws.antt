-- A step on the ground, the snow left aside: it balances, keeps what no step changes, and stays bounded. Assumes nothing.
use mathlib.Core.Path.{◌≡◌, refl, ap}
use Prim.Native.Nat.{ℕ, ◌+◌, ◌-◌, ◌*◌, ◌^◌, ◌≤◌}
use native.Mathlib.Nat.{le_trans, mul-le-mul, mul-le-mul_right}
use native.Mathlib.Omega.{arith}
use lib.ListN.{length, drop, replicate}
use Rattle.common.specs.Shares.{one}
use Rattle.curve.proofs.store.StoreLaws.{slack, store_within, store_conserves, store_bounded, store_passes, store_ceiling}
use Rattle.subbasin.specs.declared.record.Parameters.{Parameters}
use Rattle.common.specs.declared.weather.Weather.{Weather}
use Rattle.common.specs.Weather.{WeatherIn}
use Rattle.subbasin.specs.declared.record.SubBasin.{SubBasin}
use Rattle.subbasin.specs.declared.record.Sender.TheVariants.{Author, Host}
use Rattle.subbasin.specs.Record.{words, most_slow, snow_mark}
use Rattle.subbasin.specs.declared.slices.Sliced.{Sliced}
use Rattle.subbasin.specs.declared.free_water.Drained.{Drained}
use Rattle.subbasin.specs.Lag.{in_use, most_waiting, leaving, entered}
use Rattle.subbasin.specs.Step.{Stepped, rest, let_go, holds, total, on_ground}
use Rattle.common.specs.Amounts.{sum}
use Rattle.subbasin.specs.Content.{water_depth, water}
use Rattle.common.proofs.Limits.{Within}
use Rattle.common.proofs.amounts.AmountLaws.{UpTo, up_to_more, up_to_zeros, up_to_drop, sum_most}
use Rattle.subbasin.proofs.record.RecordLaws.{RecordIn, words_with}
use Rattle.subbasin.proofs.lag.LagLaws.{LineIn, lag_kept, line_conserves, line_keeps, line_bounded, line_sum_most}
use Rattle.subbasin.proofs.step.StageLaws.{Depths, depths, amount, Routes, routes}

-- a store holds afterwards what it held and got, less what it let go
slow_conserves : (share v i : ℕ) → holds share v i + let_go share v i ≡ v + i
slow_conserves share = store_conserves {a = rest share} {g = rest share} (omega arith) (omega arith)

pub slow_within : (share v i : ℕ) → let_go share v i ≤ v + i
slow_within share = store_within {a = rest share} {g = rest share} (omega arith) (omega arith)

pub line_in_lem : (m : ℕ) (s : SubBasin) → RecordIn m s → length s.line.waiting ≡ 15 → LineIn s.line
line_in_lem m s h n = let ws = h.in_words in record { lag_most = omega arith; places = n; unused = h.unused }

-- the depths' balance times the area, with the stores and the line beside it
scaled : (area w w' rain e b i g vi vi' ti vg vg' tg sn wait wait' out chan chan' q : ℕ)
    → rain + w ≡ e + (b + i + g) + w' → vi' + ti ≡ vi + i → vg' + tg ≡ vg + g → wait + (b + ti + tg) * area ≡ wait' + out → chan' + q ≡ chan + out
    → area * (w + vi + vg + sn) + wait + chan + area * rain ≡ area * (w' + vi' + vg' + sn) + wait' + chan' + area * e + q
scaled area w w' rain e b i g vi vi' ti vg vg' tg sn wait wait' out chan chan' q depth hi hg line channel =
    let all : rain + w + vi + vg + sn ≡ e + b + ti + tg + w' + vi' + vg' + sn = omega arith in
    omega (arith, ap (λ (x : ℕ). area * x) all)

balances : (s : SubBasin) (w : Weather) (st : Stepped) → LineIn s.line → Depths s w st → Routes s st
    → water s + s.fixed.area * w.rain ≡ water st.after + s.fixed.area * (st.eu + st.el + st.ed) + st.q
unfolding water
balances s weather st line d r =
    let p = s.fixed in
    let v = s.contents in
    let w = st.after.contents in
    let t : ℕ = amount s st in
    let out : ℕ = leaving s.line t in
    rw (r.fixed_kept, r.sn_kept, r.line_after)
    (scaled p.area (v.wu + v.wl + v.wd + v.g) (w.wu + w.wl + w.wd + w.g) weather.rain (st.eu + st.el + st.ed) (st.rs + st.rb) st.ri st.rg
    v.vi w.vi (let_go p.ci v.vi st.ri) v.vg w.vg (let_go p.cg v.vg st.rg) v.sn
    (sum s.line.waiting) (sum (entered s.line t).waiting) out s.channel st.after.channel st.q
    (omega (arith, d.balance))
    (omega (arith, r.vi_after, slow_conserves p.ci v.vi st.ri))
    (omega (arith, r.vg_after, slow_conserves p.cg v.vg st.rg))
    (line_conserves s.line line t)
    (omega (arith, r.channel_after, r.q_is, slow_conserves p.cs s.channel out)))

-- what a step keeps: the words that no step changes, the lag, 15 places, and the layers and free water inside their capacities
pub record Kept (s after : SubBasin) : Type 0 where
  pub fixed_kept : after.fixed ≡ s.fixed
  pub lag_same : after.line.lag ≡ s.line.lag
  pub places : length after.line.waiting ≡ 15
  pub wu_most : after.contents.wu ≤ s.fixed.um
  pub wl_most : after.contents.wl ≤ s.fixed.lm
  pub wd_most : after.contents.wd ≤ s.fixed.dm
  pub g_most : after.contents.g ≤ s.fixed.sm

keeps : (s : SubBasin) (w : Weather) (st : Stepped) → LineIn s.line → Depths s w st → Routes s st → Kept s st.after
keeps s w st line d r =
    record {
      fixed_kept = r.fixed_kept;
      lag_same = rw r.line_after (lag_kept s.line (amount s st));
      places = rw r.line_after (line_keeps s.line line (amount s st)).places;
      wu_most = d.wu_most;
      wl_most = d.wl_most;
      wd_most = d.wd_most;
      g_most = d.g_most;
    }

-- T, for a record that 9 allows: x of direct runoff, i and g that drain
inflow_fits : (m : ℕ) (s : SubBasin) (x i g : ℕ) → RecordIn m s → x ≤ 1100000 → i + g ≤ 100000
    → (x + let_go s.fixed.ci s.contents.vi i + let_go s.fixed.cg s.contents.vg g) * s.fixed.area ≤ 2 ^ 47
inflow_fits m s x i g h hx hd =
    let ti : ℕ = let_go s.fixed.ci s.contents.vi i in
    let tg : ℕ = let_go s.fixed.cg s.contents.vg g in
    let ti-le : ti ≤ s.contents.vi + i = slow_within s.fixed.ci s.contents.vi i in
    let tg-le : tg ≤ s.contents.vg + g = slow_within s.fixed.cg s.contents.vg g in
    let ws = h.in_words in
    le_trans (mul-le-mul {n₁ = x + ti + tg} {m₁ = s.fixed.area} {n₂ = 2 ^ 34 + 1200000} {m₂ = 5000} (omega arith) (omega arith)) (omega arith)

pub total_fits : (m : ℕ) (s : SubBasin) (sl : Sliced) (dr : Drained) → RecordIn m s → sl.rs + sl.rb ≤ 1100000 → dr.ri + dr.rg ≤ 100000
    → total s sl dr ≤ 2 ^ 47
total_fits m s sl dr = inflow_fits m s (sl.rs + sl.rb) dr.ri dr.rg

module _ (m : ℕ) (s : SubBasin) (w : Weather) (h : RecordIn m s) (k : WeatherIn w) where
  step_depths : Depths s w (on_ground s w)
  step_depths = depths m Host s w h.in_words k

  module _ (n : length s.line.waiting ≡ 15) where
    pub ground_balances : water s + s.fixed.area * w.rain
        ≡ water (on_ground s w).after + s.fixed.area * ((on_ground s w).eu + (on_ground s w).el + (on_ground s w).ed) + (on_ground s w).q
    ground_balances = balances s w (on_ground s w) (line_in_lem m s h n) step_depths (routes s w)

    pub ground_keeps : Kept s (on_ground s w).after
    ground_keeps = keeps s w (on_ground s w) (line_in_lem m s h n) step_depths (routes s w)

  -- T enters the line
  pub amount_fits : amount s (on_ground s w) ≤ 2 ^ 47
  amount_fits =
      let st = on_ground s w in
      let d : Depths s w st = step_depths in
      let ws = h.in_words in
      inflow_fits m s (st.rs + st.rb) st.ri st.rg h (omega arith) (omega arith)

  -- what leaves the line, the inflow of the channel
  pub leaving_fits : leaving s.line (amount s (on_ground s w)) ≤ 2 ^ 50
  leaving_fits = (line_bounded s.line (amount s (on_ground s w)) (2 ^ 50) (omega (arith, amount_fits)) h.in_line).0

  pub ground_q_fits : (on_ground s w).q ≤ 2 ^ 56 + 2 ^ 50
  ground_q_fits =
      let out : ℕ = leaving s.line (amount s (on_ground s w)) in
      omega (arith, leaving_fits, (routes s w).q_is, slow_within s.fixed.cs s.channel out, h.in_channel)

  pub ground_evaporated_fits : s.fixed.area * ((on_ground s w).eu + (on_ground s w).el + (on_ground s w).ed) ≤ 2 ^ 30
  ground_evaporated_fits =
      let d : Depths s w (on_ground s w) = step_depths in
      let ws = h.in_words in
      le_trans (mul-le-mul {n₂ = 5000} {m₂ = 200000} (omega arith) d.evaporated_most) (omega arith)

  -- what it then holds
  soil_fits : s.fixed.area * water_depth (on_ground s w).after.contents ≤ 2 ^ 53
  soil_fits =
      let st = on_ground s w in
      let v = st.after.contents in
      let r : Routes s st = routes s w in
      let d : Depths s w st = step_depths in
      let ws = h.in_words in
      le_trans
      (mul-le-mul {n₁ = s.fixed.area} {m₁ = water_depth v} {n₂ = 5000} {m₂ = snow_mark + 2 ^ 34 + 1000000} (omega arith)
      (omega (arith, r.vi_after, r.vg_after, r.sn_kept, slow_conserves s.fixed.ci s.contents.vi st.ri, slow_conserves s.fixed.cg s.contents.vg st.rg))) (omega arith)

  pub ground_water_after_fits : water (on_ground s w).after ≤ 2 ^ 57
  unfolding water
  ground_water_after_fits =
      let st = on_ground s w in
      let r : Routes s st = routes s w in
      let t : ℕ = amount s st in
      let ws = h.in_words in
      let lag : s.line.lag ≤ 15 = omega arith in
      rw (r.fixed_kept, r.line_after)
      (omega (
        arith,
        soil_fits,
        line_sum_most s.line t (2 ^ 50) lag (omega (arith, amount_fits)) h.in_line,
        r.channel_after,
        slow_conserves s.fixed.cs s.channel (leaving s.line t),
        leaving_fits,
        h.in_channel,
      ))

-- what a record that 9 allows holds, before its step
pub water_fits : (m : ℕ) (s : SubBasin) → RecordIn m s → length s.line.waiting ≡ 15 → water s ≤ 2 ^ 57
unfolding water
water_fits m s h n =
    let ws = h.in_words in
    let soil : s.fixed.area * water_depth s.contents ≤ 2 ^ 53 =
    le_trans (mul-le-mul {n₁ = s.fixed.area} {m₁ = water_depth s.contents} {n₂ = 5000} {m₂ = snow_mark + 2 ^ 34 + 1000000} (omega arith) (omega arith)) (omega arith)
    in
    omega (arith, soil, sum_most most_waiting s.line.waiting h.in_line, ap (λ (k : ℕ). k * most_waiting) n, h.in_channel)

-- What is true of every record that steps lead to from a file's, REACH apart: stronger than 9, so no step meets it.
pub record Sound (s : SubBasin) : Type 0 where
  pub in_words : Within (words s.fixed.reach Host s)
  pub interflow : rest s.fixed.ci * s.contents.vi ≤ one * most_slow Author
  pub ground : rest s.fixed.cg * s.contents.vg ≤ one * most_slow Author
  pub places : length s.line.waiting ≡ 15
  pub in_line : UpTo (2 ^ 34) s.line.waiting
  pub unused : UpTo 0 (drop (in_use s.line) s.line.waiting)
  pub in_channel : rest s.fixed.cs * s.channel ≤ (one - rest s.fixed.cs) * 2 ^ 34 + slack

rest_le : (share v b : ℕ) → v ≤ b → rest share * v ≤ one * b
rest_le share v b h = mul-le-mul {n₁ = rest share} {m₁ = v} {n₂ = one} {m₂ = b} (omega arith) h

-- a record of the file: VI and VG up to 1,000,000, the line and the channel empty
pub sound_file : (m : ℕ) (s : SubBasin) → Within (words m Author s) → s.line.waiting ≡ replicate 15 0 → s.channel ≡ 0
    → Sound s
sound_file m s h e z =
    record {
      in_words = words_with m s.fixed.reach Author Host s s h refl refl (omega arith) (omega arith);
      interflow = rest_le s.fixed.ci s.contents.vi (most_slow Author) (omega arith);
      ground = rest_le s.fixed.cg s.contents.vg (most_slow Author) (omega arith);
      places = rw e;
      in_line = rw e (up_to_zeros (2 ^ 34) 15);
      unused = rw e (up_to_drop 0 (in_use s.line) (replicate 15 0) (up_to_zeros 0 15));
      in_channel = rw z (omega arith);
    }

pub sound_in : (m : ℕ) (s : SubBasin) → Sound s → s.fixed.reach ≤ m → RecordIn m s
sound_in m s h l =
    let ws = h.in_words in
    record {
      in_words = words_with s.fixed.reach m Host Host s s ws refl refl l (omega arith);
      in_line = up_to_more (2 ^ 34) (2 ^ 50) s.line.waiting (omega arith) h.in_line;
      unused = h.unused;
      in_channel = omega (arith, h.in_channel, mul-le-mul_right {m = 1} {n = rest s.fixed.cs} s.channel (omega arith));
    }

-- a slow store that never gets more than 100,000
record Slow (share v i : ℕ) : Type 0 where
  ceiling : holds share v i ≤ most_slow Host
  held_down : rest share * holds share v i ≤ one * most_slow Author
  lets_go : let_go share v i ≤ 1100000

slow : (share v i : ℕ) → share ≤ 65535 → i ≤ 100000 → v ≤ most_slow Host → rest share * v ≤ one * most_slow Author → Slow share v i
slow share v i hs hi hv hb =
    let b = store_bounded {a = rest share} {g = rest share} (omega arith) (omega arith) v i 100000 (one * most_slow Author) hi hb (omega arith) in
    record {
      ceiling = store_ceiling {a = rest share} {g = rest share} (omega arith) (omega arith) v i 100000 (most_slow Host) (omega arith) (omega arith) hi hv (omega arith);
      held_down = b.0;
      lets_go = omega arith;
    }

module _ (s : SubBasin) (w : Weather) (h : Sound s) (k : WeatherIn w) where
  sound_depths : Depths s w (on_ground s w)
  sound_depths = depths s.fixed.reach Host s w h.in_words k

  interflow_slow : Slow s.fixed.ci s.contents.vi (on_ground s w).ri
  interflow_slow =
      let ws = h.in_words in
      let d = sound_depths in
      slow s.fixed.ci s.contents.vi (on_ground s w).ri (omega arith) (omega arith) (omega arith) h.interflow

  ground_slow : Slow s.fixed.cg s.contents.vg (on_ground s w).rg
  ground_slow =
      let ws = h.in_words in
      let d = sound_depths in
      slow s.fixed.cg s.contents.vg (on_ground s w).rg (omega arith) (omega arith) (omega arith) h.ground

  sound_total : amount s (on_ground s w) ≤ 2 ^ 34
  sound_total =
      let ws = h.in_words in
      let d = sound_depths in
      let i = interflow_slow in
      let g = ground_slow in
      le_trans (mul-le-mul {n₂ = 3300000} {m₂ = 5000} (omega arith) (omega arith)) (omega arith)

  sound_line : LineIn s.line
  sound_line = let ws = h.in_words in record { lag_most = omega arith; places = h.places; unused = h.unused }

  -- a channel that never gets more than 2^34
  sound_channel : (rest s.fixed.cs * (on_ground s w).after.channel ≤ (one - rest s.fixed.cs) * 2 ^ 34 + slack) × ((on_ground s w).q ≤ 2 ^ 34)
  sound_channel =
      let t : ℕ = amount s (on_ground s w) in
      rw ((routes s w).channel_after, (routes s w).q_is)
      (store_passes {a = rest s.fixed.cs} {g = rest s.fixed.cs} (omega arith) (omega arith) s.channel (leaving s.line t) (2 ^ 34)
      (line_bounded s.line t (2 ^ 34) sound_total h.in_line).0 h.in_channel)

  pub ground_sound_q : (on_ground s w).q ≤ 2 ^ 34
  ground_sound_q = sound_channel.1

  pub ground_sound : Sound (on_ground s w).after
  ground_sound =
      let st = on_ground s w in
      let r : Routes s st = routes s w in
      let d : Depths s w st = sound_depths in
      let kept : Kept s st.after = keeps s w st sound_line d r in
      let t : ℕ = amount s st in
      let i = interflow_slow in
      let g = ground_slow in
      record {
        in_words =
            (words_with s.fixed.reach st.after.fixed.reach Host Host s st.after h.in_words r.fixed_kept kept.lag_same (omega (arith, ap (λ (p : Parameters). p.reach) r.fixed_kept)) (omega arith));
        interflow = rw (r.fixed_kept, r.vi_after) i.held_down;
        ground = rw (r.fixed_kept, r.vg_after) g.held_down;
        places = kept.places;
        in_line = rw r.line_after (line_bounded s.line t (2 ^ 34) sound_total h.in_line).1;
        unused = rw r.line_after (line_keeps s.line sound_line t).unused;
        in_channel = rw r.fixed_kept sound_channel.0;
      }
