-- From a number's 32 bits, and from the fraction that it stands for, to a temperature, by the shifts of the code.
-- Assumes nothing.
use mathlib.Core.Path.{◌≡◌, refl, sym, ap, ◌∙◌}
use mathlib.Core.Bool.{Bool, true, false, cond}
use Prim.Native.Nat.{ℕ, suc, pred, ◌+◌, ◌-◌, ◌*◌, ◌/◌, ◌%◌, ◌^◌, ◌≤◌, ◌<◌}
use native.Mathlib.Nat.{pow-succ'}
use native.Mathlib.Decide.{ℕ_discrete}
use native.Mathlib.Omega.{arith}
use lib.Dec.{leb, eqb}
use lib.Pow.{pow_pos, pow_mono}
use lib.Bits.{bit_and}
use lib.IntN.{ℤ, pos, negsuc, ◌+ℤ◌, ◌*ℤ◌, nat_abs}
use lib.Signed.{shr_z, mag_shr}
use lib.Ieee.{Float, nan, inf, fin, binary32, up as up_of, of_fields, of_bits, is_nan}
use lib.Ieee.Fits.{down_pos}
use lib.Ieee.Exact.{HasValue}
use borrow.Author.Differences.{up, down, neg_is}
use mir.Syntax.{w64}
use mir.Val.{SFits, to_z, of_z}
use Rattle.std.proofs.lemmas.Int.{ints, to_z-of_z}
use Rattle.forcing.specs.Depth.{numerator, denominator}
use Rattle.forcing.specs.Temperature.{signed, whole, is_temperature, floor, thousandths, answer, temperature_call}
use Rattle.forcing.specs.Workers.{of_whole_fraction}
use Rattle.forcing.proofs.BitsLaws.{digits, exponent, fraction, number, value, subnormal_value, normal_value, large_digits}
use Rattle.forcing.proofs.temperature.TemperatureLaws.{Near, InRange, Same, floored, near_in, nearest_is, nearest_same, range_in, range_not, range_same}

-- ---- in the range and outside, where the value is x / b

module _ (x : ℤ) (b : ℕ) where
  inside : {t : ℤ} → 0 < b → InRange x b → Near x b t → of_whole_fraction x b ≡ answer 0 t
  inside p r n = rw (range_in r, nearest_is p (near_in n))

  outside : (InRange x b → ⊥) → of_whole_fraction x b ≡ answer 14 (pos 0)
  outside n = rw (range_not n)

fraction_same : {x y : ℤ} {b c : ℕ} → Same x b y c → of_whole_fraction x b ≡ of_whole_fraction y c
fraction_same s = rw (range_same s, nearest_same s)

-- ---- a number and its fraction

signed_same : (s : Bool) (m a : ℕ) {b c : ℕ} → 0 < b → 0 < c → m * c ≡ a * b → Same (signed s m) b (signed s a) c
signed_same true m a p q e =
    let u = neg_is (pos m) in
    let v = neg_is (pos a) in
    record { first = p; second = q; crossed = rw (u.0, u.1, v.0, v.1) (omega arith) }
signed_same false m a p q e = record { first = p; second = q; crossed = omega arith }

number_fraction : (x : Float) (s : Bool) (a c : ℕ) → 0 < c → HasValue x s a c → temperature_call x ≡ of_whole_fraction (signed s a) c
unfolding temperature_call is_temperature thousandths whole numerator denominator
number_fraction nan s a c p v = absurd v
number_fraction (inf t) s a c p v = absurd v
number_fraction (fin t m e) s a c p v = rw v.0 (fraction_same (signed_same s (m * up_of e) a (down_pos e) p v.1))

-- ---- a pattern of exponent 255, with the sign s and the fraction t

field_none : (s : Bool) (t : ℕ) → temperature_call (of_fields binary32 s 255 t) ≡ answer 14 (pos 0)
unfolding of_fields temperature_call is_temperature
field_none s t = go (eqb t 0)
  where
    go : (b : Bool) → temperature_call (cond b (inf s) nan) ≡ answer 14 (pos 0)
    go true = refl
    go false = refl

-- ---- from the 32 bits

far_outside : (s : Bool) (a c : ℕ) → 0 < c → 1024 * c ≤ a → InRange (signed s a) c → ⊥
far_outside true a c p h r = omega (arith, ints, r.least)
far_outside false a c p h r = omega (arith, ints, r.most)

module _ (b : ℕ) where
  abbrev below : Bool
  below = leb 2147483648 b

  pub subnormal_bits : bit_and (b / 8388608) 255 ≡ 0
      → temperature_call (number b) ≡ of_whole_fraction (signed below (bit_and b 8388607)) (2 ^ 149)
  subnormal_bits h = number_fraction (number b) below (bit_and b 8388607) (2 ^ 149) (pow_pos 149) (subnormal_value b below refl h)

  pub normal_bits : (bit_and (b / 8388608) 255 ≡ 0 → ⊥) → bit_and (b / 8388608) 255 ≤ 136
      → temperature_call (number b) ≡ of_whole_fraction (signed below (8388608 + bit_and b 8388607)) (2 ^ (150 - bit_and (b / 8388608) 255))
  normal_bits p h =
      let places = 150 - bit_and (b / 8388608) 255 in
      number_fraction (number b) below (8388608 + bit_and b 8388607) (2 ^ places) (pow_pos places) (normal_value b below refl p h)

  -- 14, of an infinity, of no number, and of an exponent that no number in the range has
  pub large_bits : 136 < bit_and (b / 8388608) 255 → temperature_call (number b) ≡ answer 14 (pos 0)
  unfolding of_bits
  large_bits h = go (ℕ_discrete (exponent b) 255)
    where
      go : Dec (exponent b ≡ 255) → temperature_call (number b) ≡ answer 14 (pos 0)
      go (yes e) = rw e (field_none below (fraction b))
      go (no n) =
          let a = digits (exponent b) (fraction b) * 2 ^ pred (exponent b) in
          number_fraction (number b) below a (2 ^ 149) (pow_pos 149) (value b below refl n)
          ∙ outside (signed below a) (2 ^ 149) (far_outside below a (2 ^ 149) (pow_pos 149) (large_digits b h))

-- the ways out of `judge_bits`
pub ruleset bits_laws = (subnormal_bits, large_bits, normal_bits)

-- ---- the shifts

pub small_fraction : (x : ℤ) (p : ℕ) → 34 < p → nat_abs x < 16777216 → answer 0 (pos 0) ≡ of_whole_fraction x (2 ^ p)
small_fraction x p hp hx =
    let b : 34359738368 ≤ 2 ^ p = pow_mono {i = 35} hp in
    sym (
    inside x (2 ^ p) (omega arith)
    (record { least = omega (arith, ints); most = omega (arith, ints) })
    (record { least = omega (arith, ints); most = omega (arith, ints) })
    )

-- half of the number 2^p that stands for a degree
pub half_le : (p : ℕ) → p ≤ 34 → 2 ^ (p - 1) ≤ 17179869184
half_le p most = pow_mono {j = 34} (omega arith)

pub half_is : (p : ℕ) → p ≤ 34 → to_z w64 (1 * 2 ^ (p - 1) % 2 ^ 64) ≡ pos (2 ^ (p - 1))
half_is p most = let l = half_le p most in omega (arith, ints)

-- a thousand times the number, and half a degree, as the code's casts leave it
pub sum_is : (x : ℤ) (p : ℕ) → p ≤ 34 → nat_abs x < 16777216
    → to_z w64 (of_z w64 (to_z w64 (of_z w64 (pos 1000 *ℤ to_z w64 (of_z w64 x))) +ℤ to_z w64 (1 * 2 ^ (p - 1) % 2 ^ 64)))
    ≡ pos 1000 *ℤ x +ℤ pos (2 ^ (p - 1))
sum_is x p most digits =
    let l = half_le p most in
    let a =
    ap (λ (z : ℤ). to_z w64 (of_z w64 (pos 1000 *ℤ z))) (to_z-of_z w64 x (omega (arith, ints)))
    ∙ to_z-of_z w64 (pos 1000 *ℤ x) (omega (arith, ints)) in
    (λ i. to_z w64 (of_z w64 (a i +ℤ half_is p most i))) ∙ to_z-of_z w64 (pos 1000 *ℤ x +ℤ pos (2 ^ (p - 1))) (omega (arith, ints))

degree_is : (p : ℕ) → 1 ≤ p → 2 ^ p ≡ 2 * 2 ^ (p - 1)
degree_is p some = let e : suc (p - 1) ≡ p = omega arith in ap (λ (k : ℕ). 2 ^ k) (sym e) ∙ pow-succ' 2 (p - 1)

-- a shift rounds down
shift_floor : (z : ℤ) (d : ℕ) → shr_z z d ≡ floor z d
shift_floor (pos a) d = refl
shift_floor (negsuc a) d = refl

pub shift_fits : {z : ℤ} (d : ℕ) → SFits w64 z → SFits w64 (shr_z z d)
shift_fits {z} d f = record { sfits = omega (arith, mag_shr z d, f.sfits) }

module _ (x : ℤ) (p : ℕ) (some : 1 ≤ p) where
  abbrev half : ℕ
  half = 2 ^ (p - 1)

  pub below_range : up x + 160 * half < down x → answer 14 (pos 0) ≡ of_whole_fraction x (2 ^ p)
  below_range h = sym (outside x (2 ^ p) (λ r. omega (arith, r.least, degree_is p some)))

  pub above_range : down x + 120 * half < up x → answer 14 (pos 0) ≡ of_whole_fraction x (2 ^ p)
  above_range h = sym (outside x (2 ^ p) (λ r. omega (arith, r.most, degree_is p some)))

  pub within_range : {n t : ℤ} → down x ≤ up x + 160 * half → up x ≤ down x + 120 * half → n ≡ pos 1000 *ℤ x +ℤ pos half → t ≡ shr_z n (2 ^ p)
      → answer 0 t ≡ of_whole_fraction x (2 ^ p)
  within_range {n} {t} l h e f =
      let d = degree_is p some in
      let b = rw (← (f ∙ shift_floor n (2 ^ p)), d) at (floored n (2 ^ p) (pow_pos p)) in
      sym (rw d (inside x (2 * half) (omega (arith, pow_pos (p - 1)))
      (record { least = omega arith; most = omega arith })
      (record { least = omega (arith, ints); most = omega (arith, ints) })))

-- the sums and products of `scaled`
pub ruleset scaled_laws = (ints, half_le, half_is, small_fraction)

-- ---- not a number

pub nan_answer : (x : Float) → true ≡ is_nan x → temperature_call x ≡ answer 14 (pos 0)
unfolding temperature_call is_temperature is_nan
nan_answer nan h = refl
nan_answer (inf s) h = cc
nan_answer (fin s m e) h = cc
