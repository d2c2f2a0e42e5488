-- A temperature: it is rounded to the nearest thousandth, halves up, and stays in its range; and a number is refused exactly where it is none.
-- Assumes nothing.
use mathlib.Core.Path.{◌≡◌, refl, sym, ap, ◌∙◌}
use mathlib.Core.Bool.{Bool, true, false, cond, true≢false}
use Prim.Native.Nat.{ℕ, ◌+◌, ◌*◌, ◌≤◌, ◌<◌}
use native.Mathlib.Nat.{mul-le-mul_right, mul-lt-mul_of_pos_right, le_of_mul-le-mul_right, lt_of_mul-lt-mul_right, div-add-mod', mod-lt}
use native.Mathlib.Omega.{arith}
use lib.Dec.{eqb}
use lib.IntN.{ℤ, pos, negsuc, neg_ℤ, ◌+ℤ◌, ◌-ℤ◌, ◌*ℤ◌}
use lib.Signed.{◌≤ℤ◌, ◌<ℤ◌, le_z}
use lib.Ieee.{Float, nan, inf, fin}
use lib.Ieee.Fits.{down_pos}
use borrow.Author.Differences.{up, down, product_is}
use Rattle.std.proofs.lemmas.Int.{ints, by_lt_z}
use Rattle.common.specs.Weather.{least_temperature, most_temperature}
use Rattle.common.proofs.Limits.{by_test, refuted, both, parts}
use Rattle.forcing.specs.Depth.{denominator}
use Rattle.forcing.specs.Temperature.{whole, in_range, is_temperature, floor, nearest_whole, thousandths, temperature_number}
use Rattle.forcing.specs.Temperature.{Temperature, answer, temperature_call, NearestUp, JudgedTemperature}

-- ---- rounding

-- q is z / d, rounded down
pub record Floored (z : ℤ) (d : ℕ) (q : ℤ) : Type 0 where
  pub least : up q * d + down z ≤ up z + down q * d
  pub most : up z + down q * d < down z + up q * d + d

pub floored : (z : ℤ) (d : ℕ) → 0 < d → Floored z d (floor z d)
floored (pos a) d p = record { least = omega (arith, div-add-mod' a d, mod-lt a p); most = omega (arith, div-add-mod' a d, mod-lt a p) }
floored (negsuc a) d p = record { least = omega (arith, div-add-mod' a d, mod-lt a p); most = omega (arith, div-add-mod' a d, mod-lt a p) }

by_floor : (P : ℤ → Type 0) (z : ℤ) (d : ℕ) → 0 < d → (Floored z d (floor z d) → P (floor z d)) → P (floor z d)
by_floor P z d p f = f (floored z d p)

-- the number n - m, times b
times_is : (z : ℤ) (b m n : ℕ) → up z + m ≡ down z + n → up (z *ℤ pos b) + m * b ≡ down (z *ℤ pos b) + n * b
times_is z b m n e =
    let t = ap (λ (k : ℕ). k * b) e in
    let p = product_is z (pos b) in
    omega arith

-- that t is the nearest, over natural numbers
pub record Near (x : ℤ) (b : ℕ) (t : ℤ) : Type 0 where
  pub least : 2 * (up t * b) + 2000 * down x ≤ 2000 * up x + 2 * (down t * b) + b
  pub most : 2000 * up x + 2 * (down t * b) < 2000 * down x + 2 * (up t * b) + b

module _ (t : ℤ) (b : ℕ) where
  below_is : up ((pos 2 *ℤ t -ℤ pos 1) *ℤ pos b) + (2 * down t + 1) * b ≡ down ((pos 2 *ℤ t -ℤ pos 1) *ℤ pos b) + 2 * up t * b
  below_is = times_is (pos 2 *ℤ t -ℤ pos 1) b (2 * down t + 1) (2 * up t) (omega (arith, ints))

  above_is : up ((pos 2 *ℤ t +ℤ pos 1) *ℤ pos b) + 2 * down t * b ≡ down ((pos 2 *ℤ t +ℤ pos 1) *ℤ pos b) + (2 * up t + 1) * b
  above_is = times_is (pos 2 *ℤ t +ℤ pos 1) b (2 * down t) (2 * up t + 1) (omega (arith, ints))

near_out : {x : ℤ} {b : ℕ} {t : ℤ} → NearestUp x b t → Near x b t
near_out {x} {b} {t} n =
    let l = below_is t b in
    let m = above_is t b in
    record { least = omega (arith, ints); most = omega (arith, ints) }

pub near_in : {x : ℤ} {b : ℕ} {t : ℤ} → Near x b t → NearestUp x b t
near_in {x} {b} {t} n =
    let l = below_is t b in
    let m = above_is t b in
    record { least = omega (arith, ints); most = omega (arith, ints) }

pub nearest_up : (x : ℤ) (b : ℕ) → 0 < b → NearestUp x b (nearest_whole x b)
unfolding nearest_whole
nearest_up x b p =
    by_floor (NearestUp x b) _ (2 * b) (omega arith) (λ f. near_in (record { least = grind (arith, ints); most = grind (arith, ints) }))

-- only one number is
nearest_below : {x : ℤ} {b : ℕ} {s t : ℤ} → Near x b s → Near x b t → s <ℤ t → ⊥
nearest_below {x} {b} {s} {t} p q l =
    let m = mul-le-mul_right {m = up s + down t + 1} {n = up t + down s} b (omega (arith, ints)) in
    omega arith

nearest_one : {x : ℤ} {b : ℕ} {s t : ℤ} → NearestUp x b s → NearestUp x b t → s ≡ t
nearest_one {x} {b} {s} {t} p q =
    by_lt_z s t (λ l. absurd (nearest_below (near_out p) (near_out q) l))
    (λ l. by_lt_z t s (λ m. absurd (nearest_below (near_out q) (near_out p) m)) (λ m. omega (arith, ints)))

pub nearest_is : {x : ℤ} {b : ℕ} {t : ℤ} → 0 < b → NearestUp x b t → nearest_whole x b ≡ t
nearest_is {x} {b} p n = nearest_one (nearest_up x b p) n

-- ---- the range

-- as facts over natural numbers
pub record InRange (x : ℤ) (b : ℕ) : Type 0 where
  pub least : down x ≤ up x + 80 * b
  pub most : up x ≤ down x + 60 * b

module _ {x : ℤ} {b : ℕ} where
  pub range_out : in_range x b ≡ true → InRange x b
  unfolding in_range
  range_out h =
      let p = parts (le_z (neg_ℤ (pos 80) *ℤ pos b) x) (le_z x (pos 60 *ℤ pos b)) h in
      record { least = omega (arith, ints); most = omega (arith, ints) }

  pub range_in : InRange x b → in_range x b ≡ true
  unfolding in_range
  range_in r =
      both {a = le_z (neg_ℤ (pos 80) *ℤ pos b) x} {b = le_z x (pos 60 *ℤ pos b)} (sym (omega (arith, ints))) (sym (omega (arith, ints)))

  pub range_not : (InRange x b → ⊥) → in_range x b ≡ false
  range_not n = refuted (in_range x b) (λ t. n (range_out t))

  -- what is in the range stays in it
  pub nearest_least : 0 < b → InRange x b → least_temperature ≤ℤ nearest_whole x b
  nearest_least p r =
      let t = nearest_whole x b in
      let n = near_out (nearest_up x b p) in
      by_lt_z t least_temperature
      (λ l. let m = mul-le-mul_right {m = up t + 80001} {n = down t} b (omega (arith, ints)) in absurd (omega arith))
      (λ l. l)

  pub nearest_most : 0 < b → InRange x b → nearest_whole x b ≤ℤ most_temperature
  nearest_most p r =
      let t = nearest_whole x b in
      let n = near_out (nearest_up x b p) in
      by_lt_z most_temperature t
      (λ l. let m = mul-le-mul_right {m = down t + 60001} {n = up t} b (omega (arith, ints)) in absurd (omega arith))
      (λ l. l)

-- ---- equal fractions

pub record Same (x : ℤ) (b : ℕ) (y : ℤ) (c : ℕ) : Type 0 where
  pub first : 0 < b
  pub second : 0 < c
  pub crossed : up x * c + down y * b ≡ up y * b + down x * c

same_sym : {x y : ℤ} {b c : ℕ} → Same x b y c → Same y c x b
same_sym s = record { first = s.second; second = s.first; crossed = omega arith }

module _ {x y : ℤ} {b c : ℕ} (s : Same x b y c) where
  range_from : InRange y c → InRange x b
  range_from r =
      record {
        least = le_of_mul-le-mul_right {k = c} (omega (arith, s.crossed, mul-le-mul_right b r.least)) s.second;
        most = le_of_mul-le-mul_right {k = c} (omega (arith, s.crossed, mul-le-mul_right b r.most)) s.second;
      }

  near_from : {t : ℤ} → Near y c t → Near x b t
  near_from {t} n =
      record {
        least = le_of_mul-le-mul_right {k = c} (omega (arith, s.crossed, mul-le-mul_right b n.least)) s.second;
        most = lt_of_mul-lt-mul_right c (omega (arith, s.crossed, mul-lt-mul_of_pos_right n.most s.first));
      }

  pub nearest_same : nearest_whole x b ≡ nearest_whole y c
  nearest_same = nearest_is s.first (near_in (near_from (near_out (nearest_up y c s.second))))

pub range_same : {x y : ℤ} {b c : ℕ} → Same x b y c → in_range x b ≡ in_range y c
range_same {x} {y} {b} {c} s = go (in_range y c) refl
  where
    go : (t : Bool) → in_range y c ≡ t → in_range x b ≡ t
    go true h = range_in (range_from s (range_out h))
    go false h = range_not (λ r. true≢false (sym (range_in (range_from (same_sym s) r)) ∙ h))

-- ---- one number

pub denominator_pos : (x : Float) → 0 < denominator x
unfolding denominator
denominator_pos nan = omega arith
denominator_pos (inf s) = omega arith
denominator_pos (fin s m e) = down_pos e

module _ (x : Float) where
  pub temperature_test : eqb (temperature_number x) 0 ≡ is_temperature x
  unfolding temperature_number
  temperature_test = by_test (λ (n : ℕ). eqb n 0 ≡ is_temperature x) (is_temperature x) (λ t. sym t) (λ f. sym f)

  pub call_number : (temperature_call x).number ≡ temperature_number x
  unfolding temperature_call temperature_number
  call_number = by_test (λ (r : Temperature). r.number ≡ cond (is_temperature x) 0 14) (is_temperature x) (λ t. rw t) (λ f. rw f)

  pub call_temperature : {t : ℤ} → answer 0 t ≡ temperature_call x → t ≡ thousandths x
  unfolding temperature_call
  call_temperature {t} =
      by_test (λ (r : Temperature). answer 0 t ≡ r → t ≡ thousandths x) (is_temperature x)
      (λ _ e. ap (λ (r : Temperature). r.temperature) e)
      (λ _ e. absurd (omega (arith, ap (λ (r : Temperature). r.number) e)))

number_in_range : (x : Float) → is_temperature x ≡ true → InRange (whole x) (denominator x)
unfolding is_temperature denominator
number_in_range nan h = absurd (true≢false (sym h))
number_in_range (inf s) h = absurd (true≢false (sym h))
number_in_range (fin s m e) h = range_out h

module _ (x : Float) where
  pub thousandths_least : is_temperature x ≡ true → least_temperature ≤ℤ thousandths x
  unfolding thousandths
  thousandths_least h = nearest_least (denominator_pos x) (number_in_range x h)

  pub thousandths_most : is_temperature x ≡ true → thousandths x ≤ℤ most_temperature
  unfolding thousandths
  thousandths_most h = nearest_most (denominator_pos x) (number_in_range x h)

  -- what the documents say of it, in the contract of `temperature_of`
  pub temperature_judged : JudgedTemperature x (temperature_call x)
  unfolding temperature_call thousandths
  temperature_judged =
      by_test (JudgedTemperature x) (is_temperature x)
      (λ t. record {
        accepted = (λ _. t, λ _. refl);
        rounded = λ _. nearest_up (whole x) (denominator x) (denominator_pos x);
        least = λ _. thousandths_least t;
        most = λ _. thousandths_most t;
        refused = λ n. absurd (n refl);
      })
      (λ f. record {
        accepted = (λ e. absurd (omega arith), λ t. absurd (true≢false (sym t ∙ f)));
        rounded = λ e. absurd (omega arith);
        least = λ e. absurd (omega arith);
        most = λ e. absurd (omega arith);
        refused = λ _. refl;
      })
