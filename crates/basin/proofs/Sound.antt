-- What is true of every basin that steps lead to from a file's: stronger than 9, so no step meets it. Assumes nothing.
use mathlib.Core.Path.{◌≡◌, ap, ◌∙◌}
use mathlib.Core.Bool.{true}
use mathlib.Core.List.{List}
use Prim.Native.Nat.{ℕ, suc, ◌≤◌, ◌<◌}
use native.Mathlib.Omega.{arith}
use lib.ListN.{length, get_or}
use Rattle.common.specs.declared.weather.Weather.{Weather}
use Rattle.common.specs.Weather.{calm}
use Rattle.subbasin.specs.declared.record.Parameters.{Parameters}
use Rattle.subbasin.specs.Record.{is_blank}
use Rattle.subbasin.proofs.step.StepLaws.{Sound, sound_in, sound_step, sound_q}
use Rattle.basin.specs.declared.reach.Reach.{Reach}
use Rattle.basin.specs.declared.state.Basin.{Basin}
use Rattle.basin.specs.Reach.{is_blank_reach}
use Rattle.basin.specs.State.{most_subs, most_reaches, sub_at, reach_at, SameWords, Unchanged}
use Rattle.basin.specs.Limits.{basin_in}
use Rattle.basin.specs.Step.{step_of, sent_by, basin_after}
use Rattle.basin.specs.Workers.{Weathers, Shaped}
use Rattle.basin.proofs.reach.ReachLaws.{ReachWords}
use Rattle.basin.proofs.limits.LimitsLaws.{BasinIn, basin_in_lem}
use Rattle.basin.proofs.network.NetworkLaws.{after_past}
use Rattle.basin.proofs.network.CapLaws.{caps_of, caps_same, caps_most, sent_below, HeldDown, held_after, held_content}
use Rattle.basin.proofs.step.StepLaws.{sub_after, sub_past, after_shaped, after_unchanged}

-- the caps of what can come to the reaches, from where the sub-basins send
abbrev pub caps_in : Basin → List ℕ
caps_in b = caps_of (λ i. (sub_at b i).fixed.reach) b.n

pub record SoundBasin (b : Basin) : Type 0 where
  pub n_least : 1 ≤ b.n
  pub n_most : b.n ≤ most_subs
  pub m_most : b.m ≤ most_reaches
  pub subs_length : length b.subs ≡ 32
  pub reaches_length : length b.reaches ≡ 31
  pub sound_subs : (i : ℕ) → i < b.n → Sound (sub_at b i)
  pub reach_most : (i : ℕ) → i < b.n → (sub_at b i).fixed.reach ≤ b.m
  pub blank_subs : (i : ℕ) → b.n ≤ i → i < most_subs → is_blank (sub_at b i) ≡ true
  pub reach_words : (j : ℕ) → j < b.m → ReachWords b.m (suc j) (reach_at b j)
  pub blank_reaches : (j : ℕ) → b.m ≤ j → j < most_reaches → is_blank_reach (reach_at b j) ≡ true
  pub held_down : HeldDown b.m b.reaches (caps_in b)

module _ (b : Basin) (h : SoundBasin b) where
  -- 9 allows it
  pub sound_basin_in : BasinIn b
  sound_basin_in =
      record {
        n_least = h.n_least;
        n_most = h.n_most;
        m_most = h.m_most;
        used_subs = λ i l. sound_in b.m (sub_at b i) (h.sound_subs i l) (h.reach_most i l);
        blank_subs = h.blank_subs;
        used_reaches =
            λ j l.
            record {
              in_words = h.reach_words j l;
              content_most =
                  held_content b.m b.reaches h.reach_words (caps_in b) (caps_most (λ i. (sub_at b i).fixed.reach) b.n h.n_most) h.held_down j l;
            };
        blank_reaches = h.blank_reaches;
      }

  pub sound_allowed : basin_in b ≡ true
  sound_allowed = basin_in_lem b sound_basin_in

  pub sound_shaped : Shaped b
  sound_shaped = record { subs_length = h.subs_length; reaches_length = h.reaches_length; places = λ i l. (h.sound_subs i l).places }

words_kept : {m j : ℕ} {before after : Reach} → ReachWords m j before → SameWords before after → ReachWords m j after
words_kept w s =
    record {
      c0_most = omega arith;
      shares_least = omega arith;
      shares_most = omega arith;
      next_after = λ n. rw s.next_same (w.next_after (λ e. n (s.next_same ∙ e)));
      next_most = omega arith;
    }

-- kept by every accepted step
module _ (b : Basin) (ws : List Weather) (h : SoundBasin b) (k : Weathers ws) where
  abbrev same : Unchanged b (basin_after b ws)
  same = after_unchanged b ws (sound_basin_in b h) (sound_shaped b h) k

  same_caps : caps_in (basin_after b ws) ≡ caps_in b
  unfolding basin_after
  same_caps =
      caps_same (λ i. (sub_at (basin_after b ws) i).fixed.reach) (λ i. (sub_at b i).fixed.reach) b.n (λ i. ap (λ (p : Parameters). p.reach) (same.fixed_same i))

  held_down_after : HeldDown b.m (basin_after b ws).reaches (caps_in b)
  unfolding basin_after sent_by
  held_down_after =
      held_after b.m b.reaches h.reach_words (caps_in b) h.held_down (sent_by b ws b.n)
      (sent_below (λ i. (sub_at b i).fixed.reach) (λ i. (step_of b ws i).q) b.n (λ i l. sound_q (sub_at b i) (get_or ws i calm) (h.sound_subs i l) (k.each i)))
      (omega (arith, h.reaches_length, h.m_most))

  pub sound_after : SoundBasin (basin_after b ws)
  unfolding basin_after
  sound_after =
      let shaped = after_shaped b ws (sound_basin_in b h) (sound_shaped b h) k in
      record {
        n_least = h.n_least;
        n_most = h.n_most;
        m_most = h.m_most;
        subs_length = shaped.subs_length;
        reaches_length = shaped.reaches_length;
        sound_subs =
            λ i l. rw (sub_after b ws (sound_basin_in b h) (sound_shaped b h) k i l) (sound_step (sub_at b i) (get_or ws i calm) (h.sound_subs i l) (k.each i));
        reach_most = λ i l. rw (ap (λ (p : Parameters). p.reach) (same.fixed_same i)) (h.reach_most i l);
        blank_subs = λ i l d. rw (sub_past b ws (sound_basin_in b h) (sound_shaped b h) k i l) (h.blank_subs i l d);
        reach_words = λ j l. words_kept (h.reach_words j l) (same.words_same j);
        blank_reaches = λ j l d. rw (after_past b.reaches (sent_by b ws b.n) b.m j l) (h.blank_reaches j l d);
        held_down = rw same_caps held_down_after;
      }
