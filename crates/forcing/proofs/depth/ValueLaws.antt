-- From a number's 32 bits to the fraction that it stands for, and what judging and rounding make of either.
-- Assumes nothing.
use mathlib.Core.Path.{◌≡◌, refl, sym, ◌∙◌}
use mathlib.Core.Bool.{Bool, true, false, cond, true≢false}
use Prim.Native.Nat.{ℕ, zero, suc, pred, ◌+◌, ◌-◌, ◌*◌, ◌/◌, ◌^◌, ◌≤◌, ◌<◌, zero-le}
use native.Mathlib.Nat.{mul-pos}
use native.Mathlib.Nat.{mul-le-mul_right, mul-lt-mul_of_pos_right, le_of_mul-le-mul_right, lt_of_mul-lt-mul_right}
use native.Mathlib.Omega.{arith}
use borrow.Author.Tests.{le-leb, lt-leb, lt-ltb, le-ltb, ltb-true, ltb-false}
use lib.Dec.{ltb, leb, eqb}
use lib.Pow.{pow_pos}
use lib.Bits.{bit_and}
use lib.Ieee.{Float, nan, inf, fin, binary32, up, down, of_fields, of_bits, is_nan}
use lib.Ieee.Fits.{down_pos}
use lib.Ieee.Exact.{HasValue}
use lib.Ieee.Nearest.{div_same}
use Rattle.forcing.specs.declared.depth.Gauge.{Gauge}
use Rattle.forcing.specs.Depth.{numerator, denominator, nearest, depth_of, limit_of, above_limit, number_of, answer, answer_by, depth_call}
use Rattle.forcing.specs.Workers.{of_fraction}
use Rattle.forcing.proofs.BitsLaws.{digits, exponent, fraction, number, masked_exponent, value, subnormal_value, normal_value, large_digits}
use Rattle.forcing.proofs.depth.FractionLaws.{limit_bounds, is_above, not_above}

-- ---- equal fractions

module _ (x d a c : ℕ) (dp : 0 < d) (cp : 0 < c) (e : x * c ≡ a * d) where
  above_same : (limit : ℕ) → above_limit limit x d ≡ above_limit limit a c
  unfolding above_limit
  above_same limit = go (ltb (limit * d) x) refl
    where
      go : (t : Bool) → ltb (limit * d) x ≡ t → t ≡ ltb (limit * c) a
      go true h = sym (lt-ltb (limit * c) a (lt_of_mul-lt-mul_right d (omega (arith, e, mul-lt-mul_of_pos_right (ltb-true (limit * d) x h) cp))))
      go false h = sym (le-ltb (limit * c) a (le_of_mul-le-mul_right (omega (arith, e, mul-le-mul_right c (ltb-false (limit * d) x h))) dp))

  nearest_same : nearest x d ≡ nearest a c
  unfolding nearest
  nearest_same = div_same (2 * (1000 * x) + d) (2 * d) (2 * (1000 * a) + c) (2 * c) (omega arith) (omega arith) (omega (arith, e))

  fraction_same : (limit : ℕ) → of_fraction limit x d ≡ of_fraction limit a c
  fraction_same limit = rw (above_same limit, nearest_same)

-- ---- above any limit

exceeds : (limit a c : ℕ) → limit ≤ 1000 → 0 < c → 1024 * c ≤ a → limit * c < a
exceeds limit a c l p h = omega (arith, mul-le-mul_right c l)

-- ---- a number and its fraction

number_fraction : (x : Float) (said : Gauge) (a c : ℕ) → 0 < c → HasValue x false a c → depth_call x said ≡ of_fraction (limit_of said) a c
unfolding depth_call number_of depth_of numerator denominator
number_fraction nan said a c cp v = absurd v
number_fraction (inf s) said a c cp v = absurd v
number_fraction (fin true m e) said a c cp v = absurd (true≢false v.0)
number_fraction (fin false m e) said a c cp v = fraction_same (m * up e) (down e) a c (down_pos e) cp v.1 (limit_of said)

-- ---- a number below zero

negative : (x : Float) (said : Gauge) (a c : ℕ) → 0 < a → HasValue x true a c → depth_call x said ≡ answer 7 0
unfolding depth_call number_of answer_by
negative nan said a c p v = absurd v
negative (inf s) said a c p v = absurd v
negative (fin false m e) said a c p v = absurd (true≢false (sym v.0))
negative (fin true zero e) said a c p v = absurd (none v.1 (mul-pos p (down_pos e)))
  where
    none : 0 * up e * c ≡ a * down e → 0 < a * down e → ⊥
    none h k = omega arith
negative (fin true (suc m) e) said a c p v = rw (lt-ltb 0 (suc m) (omega arith))

-- ---- a pattern of exponent 255, with the sign s and the fraction t

field_infinite : (s : Bool) (t : ℕ) (said : Gauge) → is_nan (of_fields binary32 s 255 t) ≡ false
    → depth_call (of_fields binary32 s 255 t) said ≡ answer 13 0
unfolding of_fields is_nan depth_call number_of answer_by
field_infinite s t said = go (eqb t 0)
  where
    go : (b : Bool) → is_nan (cond b (inf s) nan) ≡ false → depth_call (cond b (inf s) nan) said ≡ answer 13 0
    go true h = refl
    go false h = absurd (true≢false h)

-- ---- from the 32 bits

module _ (b : ℕ) (said : Gauge) (fits : b < 2 ^ 32) where
  -- 13: a number of exponent 255 is an infinity
  pub infinite_bits : is_nan (number b) ≡ false → bit_and (b / 8388608) 255 ≡ 255 → depth_call (number b) said ≡ answer 13 0
  unfolding of_bits
  infinite_bits n h = rw (sym (masked_exponent b) ∙ h) (field_infinite (leb 2147483648 b) (fraction b) said (rw (sym (masked_exponent b) ∙ h) at n))

  pub minus_zero_bits : b ≡ 2147483648 → depth_call (number b) said ≡ answer 0 0
  unfolding of_bits number_of depth_of numerator denominator nearest answer_by depth_call
  minus_zero_bits h = rw (h, not_above (limit_of said) 0 1 zero-le)

  module _ (finite : bit_and (b / 8388608) 255 ≡ 255 → ⊥) where
    known : exponent b ≡ 255 → ⊥
    known h = finite (masked_exponent b ∙ h)

    -- 7, below zero
    pub negative_bits : (b ≡ 2147483648 → ⊥) → b / 2147483648 ≡ 1 → depth_call (number b) said ≡ answer 7 0
    negative_bits h s =
        negative (number b) said (digits (exponent b) (fraction b) * 2 ^ pred (exponent b)) (2 ^ 149)
        (mul-pos (some (exponent b) refl) (pow_pos (pred (exponent b))))
        (value b true (le-leb 2147483648 b (omega arith)) known)
      where
        some : (x : ℕ) → exponent b ≡ x → 0 < digits x (fraction b)
        some zero e = omega arith
        some (suc x) e = omega arith

    module _ (plus : b / 2147483648 ≡ 1 → ⊥) where
      sign : leb 2147483648 b ≡ false
      sign = lt-leb 2147483648 b (omega arith)

      pub subnormal_bits : bit_and (b / 8388608) 255 ≡ 0 → depth_call (number b) said ≡ of_fraction (limit_of said) (bit_and b 8388607) (2 ^ 149)
      subnormal_bits h = number_fraction (number b) said (bit_and b 8388607) (2 ^ 149) (pow_pos 149) (subnormal_value b false sign h)

      -- 8, of an exponent that no number within any limit has
      pub large_bits : 136 < bit_and (b / 8388608) 255 → depth_call (number b) said ≡ answer 8 0
      unfolding answer_by
      large_bits h =
          let a = digits (exponent b) (fraction b) * 2 ^ pred (exponent b) in
          number_fraction (number b) said a (2 ^ 149) (pow_pos 149) (value b false sign known)
          ∙ rw (is_above (limit_of said) a (2 ^ 149) (exceeds (limit_of said) a (2 ^ 149) (limit_bounds said).1 (pow_pos 149) (large_digits b h)))

      pub normal_bits : (bit_and (b / 8388608) 255 ≡ 0 → ⊥) → bit_and (b / 8388608) 255 ≤ 136
          → depth_call (number b) said ≡ of_fraction (limit_of said) (8388608 + bit_and b 8388607) (2 ^ (150 - bit_and (b / 8388608) 255))
      normal_bits p h =
          let places = 150 - bit_and (b / 8388608) 255 in
          number_fraction (number b) said (8388608 + bit_and b 8388607) (2 ^ places) (pow_pos places) (normal_value b false sign p h)

-- the ways out of `judge_bits`
pub ruleset bits_laws = (infinite_bits, minus_zero_bits, negative_bits, subnormal_bits, large_bits, normal_bits)

-- ---- not a number

pub nan_answer : (x : Float) (said : Gauge) → true ≡ is_nan x → depth_call x said ≡ answer 12 0
unfolding depth_call number_of answer_by is_nan
nan_answer nan said h = refl
nan_answer (inf s) said h = cc
nan_answer (fin s m e) said h = cc
