-- The lines of a step: accepted exactly where they are inside the limits, and what is then known of the weather.
-- `reading`, `weather_of` and `line_inside` can stay shut. Assumes nothing.
use mathlib.Core.Path.{◌≡◌, refl, sym, ap, ◌∙◌}
use mathlib.Core.Bool.{Bool, true, false, true≢false, cond}
use mathlib.Core.List.{List}
use Prim.Native.Nat.{ℕ, zero, suc, ◌-◌, ◌≤◌, ◌<◌}
use native.Mathlib.Nat.{le_refl}
use native.Mathlib.Decide.{dec_le, ℕ_discrete}
use native.Mathlib.Omega.{arith}
use borrow.Author.Tests.{eq-eqb, ne_eqb, eqb-true, eqb-false}
use lib.Dec.{eqb}
use lib.ListN.{length, get_or, replicate, get_or-eq_default}
use lib.Ieee.{binary32, of_bits}
use Rattle.std.proofs.lemmas.Bool.Decides.{nat_tests}
use Rattle.std.proofs.lemmas.Int.{ints}
use Rattle.std.proofs.Common.{Option, Some, None, Bor}
use Rattle.std.specs.Option.{UnwrapsOrElse, option_copied}
use Rattle.std.specs.Slice.{IsItemAt}
use Rattle.common.specs.declared.weather.Weather.{Weather}
use Rattle.common.specs.Weather.{calm, WeatherIn}
use Rattle.common.specs.Loops.{table, every, first_bad}
use Rattle.common.proofs.Limits.{by_test, both, parts}
use Rattle.common.proofs.amounts.AmountLaws.{get_or_repeat}
use Rattle.common.proofs.Loops.{table_length, table_in, table_past, filled_same, sum_same, sum_bound, every_in, every_at, first_bad_same, first_bad_found}
use Rattle.forcing.specs.declared.list.Reading.TheVariants.{Missing}
use Rattle.forcing.specs.declared.list.Line.{Line}
use Rattle.forcing.specs.List.{Forcing}
use Rattle.forcing.specs.List.{blank, line_at, weather_of, line_inside, Inside, is_inside, estimated_of}
use Rattle.forcing.specs.List.{line_number, first_bad_line, accepted, refusal, judged_lines, reading, ForFirstBad, JudgedList}
use Rattle.forcing.proofs.list.LineLaws.{estimated_one, line_test, in_order, line_weather}

-- ---- where there is no line

pub default_blank : {l : Line} → (l.rain ≡ Missing) × ((l.pan ≡ of_bits binary32 0) × (l.temperature ≡ of_bits binary32 0)) → l ≡ blank
default_blank h = rw (h.0, h.1.0, h.1.1)

-- a line that is read by its number, and the default past the end
pub line_read : (lines : List Line) (k : ℕ) {l : Line} (r : Option (Bor Line)) {o : Option Line}
    → UnwrapsOrElse o (λ l. (l.rain ≡ Missing) × ((l.pan ≡ of_bits binary32 0) × (l.temperature ≡ of_bits binary32 0))) l → o ≡ option_copied r → IsItemAt lines k r → l ≡ line_at lines k
line_read lines k None u e h = default_blank (rw e at u) ∙ h.4 (le_refl k) blank
line_read lines k (Some x) u e h = rw e at u ∙ h.4 (le_refl k) blank

-- ---- inside the limits

-- a line is bad exactly where not every line is inside
lines_test : (lines : List Line) (n : ℕ) → eqb (first_bad_line lines n).0 0 ≡ every (λ k. line_inside (line_at lines k)) n
unfolding first_bad every
lines_test lines zero = refl
lines_test lines (suc n) = rw (← (line_test (line_at lines n)), ← (lines_test lines n)) (grind (arith, nat_tests))

module _ {lines : List Line} {count n : ℕ} where
  pub test_inside : is_inside lines count n ≡ true → Inside lines count n
  unfolding is_inside
  test_inside h =
      let p = parts (eqb count n) (every (λ k. line_inside (line_at lines k)) n) h in
      record { counted = eqb-true count n p.0; each = every_at (λ k. line_inside (line_at lines k)) n p.1 }

  pub inside_test : Inside lines count n → is_inside lines count n ≡ true
  unfolding is_inside
  inside_test i = both (eq-eqb count n i.counted) (every_in (λ k. line_inside (line_at lines k)) n i.each)

-- ---- what a step's forcing is: accepted and inside the limits, or refused with zeros

pub reading_cases : (P : Forcing → Type 0) (lines : List Line) (count n : ℕ)
    → (Inside lines count n → P (accepted lines n))
    → (is_inside lines count n ≡ false → (number place : ℕ) → (number ≡ 0 → ⊥) → P (refusal number place))
    → P (reading lines count n)
unfolding reading judged_lines is_inside
reading_cases P lines count n taken left = counting (eqb count n) refl
  where
    lining : (t : Bool) → eqb (first_bad_line lines n).0 0 ≡ t → eqb count n ≡ true
        → P (cond t (accepted lines n) (refusal (first_bad_line lines n).0 (first_bad_line lines n).1))
    lining true h c = taken (test_inside (unfold is_inside in rw (c, ← (lines_test lines n)) h))
    lining false h c =
        left (rw (c, ← (lines_test lines n)) h) (first_bad_line lines n).0 (first_bad_line lines n).1 (eqb-false (first_bad_line lines n).0 0 h)

    counting : (t : Bool) → eqb count n ≡ t
        → P (cond t (cond (eqb (first_bad_line lines n).0 0) (accepted lines n) (refusal (first_bad_line lines n).0 (first_bad_line lines n).1)) (refusal 5 0))
    counting true h = lining (eqb (first_bad_line lines n).0 0) refl h
    counting false h = left (rw h) 5 0 (λ e. omega arith)

module _ (lines : List Line) (count n : ℕ) where
  -- accepted exactly where the forcing is inside the limits
  pub accepted_inside : (reading lines count n).number ≡ 0 → Inside lines count n
  accepted_inside =
      reading_cases (λ (r : Forcing). r.number ≡ 0 → Inside lines count n) lines count n
      (λ i e. i)
      (λ t number place h e. absurd (h e))

  pub inside_accepted : Inside lines count n → (reading lines count n).number ≡ 0
  inside_accepted i =
      reading_cases (λ (r : Forcing). r.number ≡ 0) lines count n
      (λ j. refl)
      (λ t number place h. absurd (true≢false (sym (inside_test i) ∙ t)))

  -- the same as an equation of tests
  pub accepted_test : eqb (reading lines count n).number 0 ≡ is_inside lines count n
  accepted_test =
      reading_cases (λ (r : Forcing). eqb r.number 0 ≡ is_inside lines count n) lines count n
      (λ i. sym (inside_test i))
      (λ t number place h. ne_eqb number 0 h ∙ sym t)

  -- the whole answer
  pub accepted_is : (reading lines count n).number ≡ 0 → reading lines count n ≡ accepted lines n
  accepted_is =
      reading_cases (λ (r : Forcing). r.number ≡ 0 → r ≡ accepted lines n) lines count n
      (λ i e. refl)
      (λ t number place h e. absurd (h e))

  -- no more lines are estimated than there are
  pub estimated_most : (reading lines count n).estimated ≤ n
  estimated_most =
      reading_cases (λ (r : Forcing). r.estimated ≤ n) lines count n
      (λ i. omega (arith, sum_bound (λ k. estimated_of (line_at lines k).rain) 1 n (λ k l. estimated_one (line_at lines k).rain)))
      (λ t number place h. omega arith)

  -- ---- the weather

  abbrev here : ℕ → Weather
  here k = weather_of (line_at lines k)

  pub weather_length : length (reading lines count n).weather ≡ 32
  weather_length =
      reading_cases (λ (r : Forcing). length r.weather ≡ 32) lines count n (λ i. table_length here calm 32 n) (λ t number place h. refl)

  -- within the limits at every place, in a refused answer too
  pub weather_in : (i : ℕ) → WeatherIn (get_or (reading lines count n).weather i calm)
  weather_in i =
      reading_cases (λ (r : Forcing). WeatherIn (get_or r.weather i calm)) lines count n
      (λ j. go (dec_le (suc i) n) (dec_le (suc i) 32) (j.each i))
      (λ t number place h. rw (get_or_repeat calm 32 i) none)
    where
      none : WeatherIn calm
      none = record { rain_most = omega arith; pan_most = omega arith; temperature_least = omega (arith, ints); temperature_most = omega (arith, ints) }

      go : Dec (i < n) → Dec (i < 32) → (i < n → line_inside (line_at lines i) ≡ true) → WeatherIn (get_or (table here calm n 32) i calm)
      go (yes l) (yes k) each = rw (table_in here calm 32 n i k l) (line_weather (line_at lines i) (each l))
      go (yes l) (no k) each = rw (get_or-eq_default (table here calm n 32) calm {n = i} (omega (arith, table_length here calm 32 n))) none
      go (no l) k each = rw (table_past here calm 32 n i (omega arith)) none

  -- the depths of each line's own numbers
  pub weather_at : n ≤ 32 → (reading lines count n).number ≡ 0 → (i : ℕ) → i < n
      → get_or (reading lines count n).weather i calm ≡ weather_of (line_at lines i)
  weather_at l e i p = ap (λ (r : Forcing). get_or r.weather i calm) (accepted_is e) ∙ table_in here calm 32 n i (omega arith) p

-- "lines past the count aren't looked at"
pub reading_same : (lines other : List Line) (count n : ℕ) → ((k : ℕ) → k < n → line_at lines k ≡ line_at other k)
    → reading lines count n ≡ reading other count n
unfolding reading judged_lines
reading_same lines other count n same =
    rw (
      first_bad_same (λ k. line_number (line_at lines k)) (λ k. line_number (line_at other k)) n (λ k p. ap line_number (same k p)),
      sum_same (λ k. estimated_of (line_at lines k).rain) (λ k. estimated_of (line_at other k).rain) n (λ k p. ap (λ (l : Line). estimated_of l.rain) (same k p)),
      filled_same (λ k. weather_of (line_at lines k)) (λ k. weather_of (line_at other k)) n (replicate 32 calm) (λ k p. ap weather_of (same k p)),
    )

-- ---- what document 01 says of it, in the contract of `read`

pub miscounted : (lines : List Line) (count n : ℕ) → (count ≡ n → ⊥) → reading lines count n ≡ refusal 5 0
unfolding reading
miscounted lines count n h = rw (ne_eqb count n h)

module _ (lines : List Line) (count n : ℕ) where
  -- the first bad line's number and place
  found : ((first_bad_line lines n).0 ≡ 0 → ⊥) → ForFirstBad lines n (refusal (first_bad_line lines n).0 (first_bad_line lines n).1)
  found bad =
      let l = line_at lines ((first_bad_line lines n).1 - 1) in
      let f = first_bad_found (λ k. line_number (line_at lines k)) n bad in
      record {
        place_least = f.place_least;
        place_most = f.place_most;
        before = λ k p. sym (line_test (line_at lines k)) ∙ eq-eqb (line_number (line_at lines k)) 0 (f.before k p);
        itself = sym (line_test l) ∙ ne_eqb (line_number l) 0 (λ z. bad (f.number_is ∙ z));
        number_is = rw f.number_is (in_order l);
        zeros = refl;
      }

  finds : count ≡ n → ((reading lines count n).number ≡ 0 → ⊥) → ForFirstBad lines n (reading lines count n)
  unfolding reading judged_lines
  finds e =
      rw (eq-eqb count n e)
      (by_test (λ (r : Forcing). (r.number ≡ 0 → ⊥) → ForFirstBad lines n r) (eqb (first_bad_line lines n).0 0)
      (λ t bad. absurd (bad refl))
      (λ t. found))

  looks : (other : List Line) → ((k : ℕ) → k < count → line_at other k ≡ line_at lines k) → reading other count n ≡ reading lines count n
  looks other same = go (ℕ_discrete count n)
    where
      go : Dec (count ≡ n) → reading other count n ≡ reading lines count n
      go (yes e) = reading_same other lines count n (λ k p. same k (omega arith))
      go (no e) = miscounted other count n e ∙ sym (miscounted lines count n e)

  pub reading_judged : JudgedList lines count n (reading lines count n)
  reading_judged =
      record {
        accepts = (accepted_inside lines count n, inside_accepted lines count n);
        counts = miscounted lines count n;
        finds = finds;
        looks = looks;
      }
