-- Judging and rounding the number q / 2^p, as `scaled` does it with shifts.
-- Assumes nothing.
use mathlib.Core.Path.{◌≡◌, sym, ap, ◌∙◌}
use mathlib.Core.Bool.{true, false}
use Prim.Native.Nat.{ℕ, suc, ◌+◌, ◌-◌, ◌*◌, ◌/◌, ◌%◌, ◌^◌, ◌≤◌, ◌<◌}
use native.Mathlib.Nat.{mul-le-mul, one-mul, div-eq_of_lt, mul-div-mul_left, pow-succ'}
use native.Mathlib.Omega.{arith}
use borrow.Author.Tests.{lt-ltb, le-ltb}
use lib.Dec.{lit<}
use lib.Pow.{pow_pos, pow_mono, shl_exact}
use Rattle.forcing.specs.declared.depth.Gauge.{Gauge}
use Rattle.forcing.specs.declared.depth.Gauge.TheVariants.{Rain, Pan}
use Rattle.forcing.specs.Depth.{limit_of, above_limit, nearest, answer, answer_by}
use Rattle.forcing.specs.Workers.{of_fraction}

pub limit_bounds : (said : Gauge) → (1 ≤ limit_of said) × (limit_of said ≤ 1000)
limit_bounds Rain = omega arith
limit_bounds Pan = omega arith

-- ---- the test and the rounding

pub is_above : (limit a b : ℕ) → limit * b < a → above_limit limit a b ≡ true
unfolding above_limit
is_above limit a b h = lt-ltb (limit * b) a h

pub not_above : (limit a b : ℕ) → a ≤ limit * b → above_limit limit a b ≡ false
unfolding above_limit
not_above limit a b h = le-ltb (limit * b) a h

-- less than half a micrometre
nearest_small : (a b : ℕ) → 2 * (1000 * a) < b → nearest a b ≡ 0
unfolding nearest
nearest_small a b h = div-eq_of_lt (omega arith)

-- half of an even denominator is added before the division
nearest_half : (a h : ℕ) → 0 < h → nearest a (2 * h) ≡ (1000 * a + h) / (2 * h)
unfolding nearest
nearest_half a h p = rw twice (mul-div-mul_left (1000 * a + h) (2 * h) (lit< tt))
  where
    twice : 2 * (1000 * a) + 2 * h ≡ 2 * (1000 * a + h)
    twice = omega arith

-- ---- the three answers, and the shifts, which lose nothing

module _ (said : Gauge) (q p : ℕ) where
  pub small_fraction : 34 < p → q < 16777216 → of_fraction (limit_of said) q (2 ^ p) ≡ answer 0 0
  unfolding answer_by
  small_fraction hp hq =
      let b : 34359738368 ≤ 2 ^ p = pow_mono {i = 35} hp in
      rw (
        not_above (limit_of said) q (2 ^ p) (omega (arith, mul-le-mul (limit_bounds said).0 b)),
        nearest_small q (2 ^ p) (omega arith),
      )

  module _ (hp : p ≤ 34) where
    limit_shift : (limit_of said * 2 ^ p) % 2 ^ 64 ≡ limit_of said * 2 ^ p
    limit_shift = shl_exact 10 p 64 (omega (arith, limit_bounds said)) (omega arith)

    half_shift : (1 * 2 ^ (p - 1)) % 2 ^ 64 ≡ 2 ^ (p - 1)
    half_shift = shl_exact 1 (p - 1) 64 (omega arith) (omega arith) ∙ one-mul (2 ^ (p - 1))

    pub half_le : (1 * 2 ^ (p - 1)) % 2 ^ 64 ≤ 17179869184
    half_le = rw half_shift (pow_mono {j = 34} (omega arith))

    pub over_limit : (limit_of said * 2 ^ p) % 2 ^ 64 < q → of_fraction (limit_of said) q (2 ^ p) ≡ answer 8 0
    unfolding answer_by
    over_limit h = rw (is_above (limit_of said) q (2 ^ p) (rw limit_shift at h))

    pub within_limit : 1 ≤ p → q ≤ (limit_of said * 2 ^ p) % 2 ^ 64
        → of_fraction (limit_of said) q (2 ^ p) ≡ answer 0 ((1000 * q + (1 * 2 ^ (p - 1)) % 2 ^ 64) / 2 ^ p)
    unfolding answer_by
    within_limit some h =
        let half = 2 ^ (p - 1) in
        let e : suc (p - 1) ≡ p = omega arith in
        let d : 2 ^ p ≡ 2 * half = ap (λ (k : ℕ). 2 ^ k) (sym e) ∙ pow-succ' 2 (p - 1) in
        rw (half_shift, not_above (limit_of said) q (2 ^ p) (rw limit_shift at h))
        (ap (answer 0) (ap (nearest q) d ∙ nearest_half q half (pow_pos (p - 1)) ∙ ap (λ (k : ℕ). (1000 * q + half) / k) (sym d)))

-- the ways out of `scaled`
pub ruleset scaled_laws = (small_fraction, over_limit, within_limit, half_le)
