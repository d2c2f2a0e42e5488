-- From a number's 32 bits to the fraction that it stands for, by the masks and shifts of the code. Assumes nothing.
use mathlib.Core.Path.{◌≡◌, refl, sym, ap, subst, ◌∙◌}
use mathlib.Core.Bool.{Bool, true}
use Prim.Native.Nat.{ℕ, zero, suc, pred, ◌+◌, ◌-◌, ◌*◌, ◌/◌, ◌%◌, ◌^◌, ◌≤◌, ◌<◌}
use native.Mathlib.Nat.{mul-one, mul_assoc, mul_right_comm, eq_of_mul-eq-mul_right, not-suc-le-zero, le_of_suc-le-suc, mul-le-mul_left}
use native.Mathlib.Omega.{arith}
use borrow.Author.Tests.{ne_eqb}
use lib.Dec.{T, leb}
use lib.Pow.{pow_pos, pow-add, pow_mono, field}
use lib.Bits.{bit_and, and_mask}
use lib.Ieee.{Float, nan, inf, fin, binary32, fits, up, down, of_fields, of_bits, to_bits}
use lib.Ieee.Bits.{of_bits-to_bits}
use lib.Ieee.Exact.{HasValue, odd_sign}

-- a number that the format holds, as owning an `f32` tells, is what its bits stand for
pub of_its_bits : (x : Float) → fits binary32 x ≡ true → of_bits binary32 (to_bits binary32 x) ≡ x
of_its_bits x h = of_bits-to_bits binary32 x (subst T (sym h) tt)

-- from a fraction to an equal one
value_same : (x : Float) (s : Bool) (w l a c : ℕ) → 0 < l → w * c ≡ a * l → HasValue x s w l → HasValue x s a c
value_same nan s w l a c p h v = v
value_same (inf t) s w l a c p h v = v
value_same (fin t m e) s w l a c p h v = (
  v.0,
  eq_of_mul-eq-mul_right l p (m * up e * c) (a * down e)
      (mul_right_comm (m * up e) c l ∙ ap (λ (n : ℕ). n * c) v.1 ∙ mul_right_comm w (down e) c ∙ ap (λ (n : ℕ). n * down e) h ∙ mul_right_comm a l (down e)),
)

-- ---- the fields of a pattern: the sign s, the exponent x and the fraction t

-- the digits that the fields give, and the exponent of 2
abbrev pub digits : ℕ → ℕ → ℕ
digits zero t = t
digits (suc x) t = 8388608 + t

field_value : (s : Bool) (x t : ℕ) → (x ≡ 255 → ⊥) → HasValue (of_fields binary32 s x t) s (digits x t * 2 ^ pred x) (2 ^ 149)
unfolding of_fields
field_value s zero t h = odd_sign 24 s t 0 149
field_value s (suc x) t h = rw (ne_eqb (suc x) 255 h) (odd_sign 24 s (8388608 + t) x 149)

-- q * 2^k / 2^149 is q / 2^(149 - k)
field_scaled : (x t : ℕ) → (x ≡ 0 → ⊥) → x ≤ 136 → digits x t * 2 ^ pred x * 2 ^ (150 - x) ≡ (8388608 + t) * 2 ^ 149
field_scaled zero t p h = absurd (p refl)
field_scaled (suc k) t p h =
    let q = 8388608 + t in
    let places = 150 - suc k in
    let e : k + places ≡ 149 = omega arith in
    mul_assoc q (2 ^ k) (2 ^ places) ∙ ap (λ (n : ℕ). q * n) (sym (pow-add 2 k places) ∙ ap (λ (n : ℕ). 2 ^ n) e)

-- 2^149 is 8192 * 2^136
field_large : (x t : ℕ) → 136 < x → 1024 * 2 ^ 149 ≤ digits x t * 2 ^ pred x
field_large zero t h = absurd (not-suc-le-zero h)
field_large (suc k) t h = from (2 ^ 136) (2 ^ k) (pow_mono (le_of_suc-le-suc h))
  where
    from : (u w : ℕ) → u ≤ w → 1024 * (8192 * u) ≤ (8388608 + t) * w
    from u w p = omega (arith, mul-le-mul_left t p)

-- ---- from the 32 bits

module _ (b : ℕ) where
  abbrev pub exponent : ℕ
  exponent = b % 2147483648 / 8388608

  abbrev pub fraction : ℕ
  fraction = b % 8388608

  abbrev pub number : Float
  number = of_bits binary32 b

  -- the exponent and the fraction as the code masks them
  pub masked_exponent : bit_and (b / 8388608) 255 ≡ exponent
  masked_exponent = and_mask (b / 8388608) 8 ∙ sym (field b 8 23)

  pub masked_fraction : bit_and b 8388607 ≡ fraction
  masked_fraction = and_mask b 23

  module _ (s : Bool) (sign : leb 2147483648 b ≡ s) where
    pub value : (exponent ≡ 255 → ⊥) → HasValue number s (digits exponent fraction * 2 ^ pred exponent) (2 ^ 149)
    unfolding of_bits
    value h = rw sign (field_value s exponent fraction h)

    pub subnormal_value : bit_and (b / 8388608) 255 ≡ 0 → HasValue number s (bit_and b 8388607) (2 ^ 149)
    subnormal_value h =
        let e : exponent ≡ 0 = sym masked_exponent ∙ h in
        rw masked_fraction (rw mul-one at (rw e at (value (λ z. omega (arith, e, z)))))

    pub normal_value : (bit_and (b / 8388608) 255 ≡ 0 → ⊥) → bit_and (b / 8388608) 255 ≤ 136
        → HasValue number s (8388608 + bit_and b 8388607) (2 ^ (150 - bit_and (b / 8388608) 255))
    normal_value p h =
        rw (masked_fraction, masked_exponent)
        (value_same number s (digits exponent fraction * 2 ^ pred exponent) (2 ^ 149) (8388608 + fraction) (2 ^ (150 - exponent)) (pow_pos 149)
        (field_scaled exponent fraction (λ z. p (masked_exponent ∙ z)) (rw masked_exponent at h)) (value (λ z. omega (arith, masked_exponent, z))))

  -- from 2^10 on
  pub large_digits : 136 < bit_and (b / 8388608) 255 → 1024 * 2 ^ 149 ≤ digits exponent fraction * 2 ^ pred exponent
  large_digits h = field_large exponent fraction (rw masked_exponent at h)
