-- An accepted step of the basin: it balances, and changes contents alone. Assumes nothing.
use mathlib.Core.Path.{◌≡◌, refl, ap, ◌∙◌}
use mathlib.Core.List.{List}
use Prim.Native.Nat.{ℕ, zero, suc, ◌+◌, ◌*◌, ◌≤◌, ◌<◌}
use native.Mathlib.Decide.{dec_le}
use native.Mathlib.Omega.{arith}
use lib.ListN.{length, get_or}
use Rattle.common.specs.declared.weather.Weather.{Weather}
use Rattle.common.specs.Weather.{calm}
use Rattle.common.specs.Amounts.{sum}
use Rattle.common.specs.Loops.{run, sum_of}
use Rattle.common.proofs.amounts.AmountLaws.{sum_zeros, get_or_repeat}
use Rattle.common.proofs.Loops.{filled_length, filled_in, filled_past, sum_same}
use Rattle.forcing.specs.declared.list.Line.{Line}
use Rattle.forcing.specs.List.{Forcing, reading}
use Rattle.forcing.proofs.list.ReadLaws.{weather_length, weather_in}
use Rattle.subbasin.specs.declared.record.SubBasin.{SubBasin}
use Rattle.subbasin.specs.Record.{blank_sub}
use Rattle.subbasin.specs.Content.{water}
use Rattle.subbasin.proofs.step.StepLaws.{Kept, step_keeps, step_balances}
use Rattle.basin.specs.declared.state.Basin.{Basin}
use Rattle.basin.specs.State.{sub_at, reach_at, content_of, SameWords, Unchanged}
use Rattle.basin.specs.Step.{step_of, sent_by, basin_after, rain_volume, loss_volume, outlet_volume}
use Rattle.basin.specs.Workers.{Weathers, Shaped}
use Rattle.basin.proofs.limits.LimitsLaws.{BasinIn}
use Rattle.basin.proofs.network.NetworkLaws.{Clear, send_length, send_sum, send_clear, network_conserves, after_length, after_in, after_past}

pub reading_weathers : (lines : List Line) (count n : ℕ) → Weathers (reading lines count n).weather
reading_weathers lines count n = record { long = weather_length lines count n; each = weather_in lines count n }

pub weathers_of : (lines : List Line) (count n : ℕ) {f : Forcing} → f ≡ reading lines count n → Weathers f.weather
weathers_of lines count n e = rw e (reading_weathers lines count n)

-- ---- what the first k sub-basins have sent

module _ (b : Basin) (ws : List Weather) where
  pub sent_length : (k : ℕ) → length (sent_by b ws k) ≡ 32
  unfolding sent_by run
  sent_length zero = refl
  sent_length (suc k) = send_length (sent_by b ws k) (sub_at b k).fixed.reach (step_of b ws k).q ∙ sent_length k

  module _ (few : b.m ≤ 31) (to : (i : ℕ) → i < b.n → (sub_at b i).fixed.reach ≤ b.m) where
    sent_sum : (k : ℕ) → k ≤ b.n → sum (sent_by b ws k) ≡ sum_of (λ i. (step_of b ws i).q) k
    unfolding sent_by run sum_of
    sent_sum zero h = sum_zeros 32
    sent_sum (suc k) h =
        send_sum (sent_by b ws k) (sub_at b k).fixed.reach (step_of b ws k).q (omega (arith, to k (omega arith), sent_length k))
        ∙ ap (λ (x : ℕ). x + (step_of b ws k).q) (sent_sum k (omega arith))

    sent_clear : (k : ℕ) → k ≤ b.n → Clear b.m 1 (sent_by b ws k)
    unfolding sent_by run
    sent_clear zero h = record { before = λ k z l. absurd (omega arith); past = λ k l. get_or_repeat 0 32 k }
    sent_clear (suc k) h = send_clear b.m (sent_by b ws k) (sub_at b k).fixed.reach (step_of b ws k).q (to k (omega arith)) (sent_clear k (omega arith))

-- ---- the sub-basins after a step

module _ (b : Basin) (ws : List Weather) (long : length b.subs ≡ 32) (few : b.n ≤ 32) where
  sub_filled : (i : ℕ) → i < b.n → sub_at (basin_after b ws) i ≡ (step_of b ws i).after
  unfolding basin_after
  sub_filled i l = filled_in (λ i. (step_of b ws i).after) b.n b.subs blank_sub i l (omega arith)

  pub waters_after : sum_of (λ i. water (sub_at (basin_after b ws) i)) b.n ≡ sum_of (λ i. water (step_of b ws i).after) b.n
  waters_after = sum_same (λ i. water (sub_at (basin_after b ws) i)) (λ i. water (step_of b ws i).after) b.n (λ i l. ap water (sub_filled i l))

-- the content after, by parts
pub content_after : (b : Basin) (ws : List Weather)
    → content_of (basin_after b ws) ≡ sum_of (λ i. water (sub_at (basin_after b ws) i)) b.n + sum_of (λ j. (reach_at (basin_after b ws) j).content) b.m
unfolding content_of basin_after
content_after b ws = refl

-- ---- the step

module _ (b : Basin) (ws : List Weather) (h : BasinIn b) (sh : Shaped b) (k : Weathers ws) where
  reach_most : (i : ℕ) → i < b.n → (sub_at b i).fixed.reach ≤ b.m
  reach_most i l = let words = (h.used_subs i l).in_words in omega arith

  -- sub-basin i after its step, and one that is not in use as it was
  pub sub_after : (i : ℕ) → i < b.n → sub_at (basin_after b ws) i ≡ (step_of b ws i).after
  sub_after = sub_filled b ws sh.subs_length h.n_most

  pub sub_past : (i : ℕ) → b.n ≤ i → sub_at (basin_after b ws) i ≡ sub_at b i
  unfolding basin_after
  sub_past i l = filled_past (λ i. (step_of b ws i).after) b.n b.subs blank_sub i l

  pub sub_keeps : (i : ℕ) → i < b.n → Kept (sub_at b i) (sub_at (basin_after b ws) i)
  sub_keeps i l = rw (sub_after i l) (step_keeps b.m (sub_at b i) (get_or ws i calm) (h.used_subs i l) (k.each i) (sh.places i l))

  -- the balances of the sub-basins, added up
  subs_balance : (j : ℕ) → j ≤ b.n
      → sum_of (λ i. water (sub_at b i)) j + sum_of (λ i. (sub_at b i).fixed.area * (get_or ws i calm).rain) j
      ≡ sum_of (λ i. water (step_of b ws i).after) j
      + sum_of (λ i. (sub_at b i).fixed.area * ((step_of b ws i).eu + (step_of b ws i).el + (step_of b ws i).ed)) j
      + sum_of (λ i. (step_of b ws i).q) j
  unfolding sum_of
  subs_balance zero l = refl
  subs_balance (suc j) l =
      omega (
        arith,
        subs_balance j (omega arith),
        step_balances b.m (sub_at b j) (get_or ws j calm) (h.used_subs j l) (k.each j) (sh.places j l),
      )

  reaches_balance : outlet_volume b ws + sum_of (λ j. (reach_at (basin_after b ws) j).content) b.m
      ≡ sum_of (λ i. (step_of b ws i).q) b.n + sum_of (λ j. (reach_at b j).content) b.m
  unfolding outlet_volume basin_after
  reaches_balance =
      let sent : List ℕ = sent_by b ws b.n in
      omega (
        arith,
        network_conserves b.reaches sent b.m (λ j l. (h.used_reaches j l).in_words) (omega (arith, sent_length b ws b.n, h.m_most))
            (omega (arith, sh.reaches_length, h.m_most)) (sent_clear b ws h.m_most reach_most b.n (omega arith)),
        sent_sum b ws h.m_most reach_most b.n (omega arith),
      )

  -- content before and rain are content after, evapotranspiration and outlet volume
  pub step_balance : content_of b + rain_volume b ws ≡ content_of (basin_after b ws) + loss_volume b ws + outlet_volume b ws
  unfolding content_of rain_volume loss_volume
  step_balance = omega (arith, content_after b ws, waters_after b ws sh.subs_length h.n_most, subs_balance b.n (omega arith), reaches_balance)

  pub after_shaped : Shaped (basin_after b ws)
  unfolding basin_after
  after_shaped =
      record {
        subs_length = filled_length (λ i. (step_of b ws i).after) b.n b.subs ∙ sh.subs_length;
        reaches_length = after_length b.reaches (sent_by b ws b.n) b.m ∙ sh.reaches_length;
        places = λ i l. (sub_keeps i l).places;
      }

  pub after_unchanged : Unchanged b (basin_after b ws)
  unfolding basin_after
  after_unchanged =
      record {
        n_same = refl;
        m_same = refl;
        fixed_same = λ i. fixed i (dec_le b.n i);
        words_same = λ j. words j (dec_le b.m j);
      }
    where
      fixed : (i : ℕ) → Dec (b.n ≤ i) → (sub_at (basin_after b ws) i).fixed ≡ (sub_at b i).fixed
      fixed i (yes l) = ap (λ (s : SubBasin). s.fixed) (sub_past i l)
      fixed i (no n) = (sub_keeps i (omega arith)).fixed_kept

      words : (j : ℕ) → Dec (b.m ≤ j) → SameWords (reach_at b j) (reach_at (basin_after b ws) j)
      words j (yes l) = rw (after_past b.reaches (sent_by b ws b.n) b.m j l) (record { c0_same = refl; c1_same = refl; next_same = refl })
      words j (no n) =
          rw (after_in b.reaches (sent_by b ws b.n) b.m j (omega arith) (omega (arith, sh.reaches_length, h.m_most)))
          (record { c0_same = refl; c1_same = refl; next_same = refl })
