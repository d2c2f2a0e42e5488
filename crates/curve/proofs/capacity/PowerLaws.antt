-- Power: it grows with t, is 0 at 0 and 65,536 at 65,536, and so never more. Assumes nothing.
use mathlib.Core.Path.{◌≡◌, refl, ◌∙◌}
use mathlib.Core.Bool.{Bool, true, false, cond}
use Prim.Native.Nat.{ℕ, zero, suc, ◌+◌, ◌/◌, ◌%◌, ◌≤◌, ◌<◌}
use native.Mathlib.Nat.{le_refl, mul-le-mul}
use native.Mathlib.Numerals.{add-one}
use native.Mathlib.Omega.{arith}
use lib.Dec.{eqb}
use borrow.Author.Tests.{ne_eqb}
use Rattle.common.specs.Shares.{one}
use Rattle.common.specs.Loops.{run}
use Rattle.curve.specs.Capacity.{root, by, whole, part, power, least_e}
use Rattle.curve.proofs.capacity.RootLaws.{root_mono, root_one}

by_mono : {x y r s : ℕ} → x ≤ y → r ≤ s → by x r ≤ by y s
by_mono {x} {y} {r} {s} h k = omega (arith, mul-le-mul {n₁ = x} {m₁ = r} {n₂ = y} {m₂ = s} h k)

pub whole_none : (t : ℕ) → whole t 0 ≡ one
unfolding whole run
whole_none t = refl

pub whole_more : (t k : ℕ) → whole t (k + 1) ≡ by (whole t k) t
unfolding whole run
whole_more t k = rw (add-one k) refl

whole_mono : {s t : ℕ} (k : ℕ) → s ≤ t → whole s k ≤ whole t k
unfolding whole run
whole_mono zero h = le_refl one
whole_mono (suc k) h = by_mono (whole_mono k h) h

part_mono : (e b : ℕ) {x y r s : ℕ} → r ≤ s → x ≤ y → part e b r x ≤ part e b s y
unfolding part
part_mono e b {x} {y} {r} {s} k h = go (eqb (e % 16 / b % 2) 1)
  where
    go : (t : Bool) → cond t (by x r) x ≤ cond t (by y s) y
    go true = by_mono h k
    go false = h

pub power_mono : {s t : ℕ} (e : ℕ) → s ≤ t → power s e ≤ power t e
unfolding power
power_mono e h =
    part_mono e 1 (root_mono (root_mono (root_mono (root_mono h))))
    (part_mono e 2 (root_mono (root_mono (root_mono h)))
    (part_mono e 4 (root_mono (root_mono h))
    (part_mono e 8 (root_mono h)
    (whole_mono (e / 16) h))))

whole_zero : (k : ℕ) → 0 < k → whole 0 k ≡ 0
unfolding whole run
whole_zero zero h = omega arith
whole_zero (suc k) h = omega arith

part_zero : (e b r : ℕ) → part e b r 0 ≡ 0
unfolding part
part_zero e b r = go (eqb (e % 16 / b % 2) 1)
  where
    go : (t : Bool) → cond t (by 0 r) 0 ≡ 0
    go true = omega arith
    go false = refl

pub power_zero : (e : ℕ) → least_e ≤ e → power 0 e ≡ 0
unfolding power
power_zero e h = simp (whole_zero (e / 16) (omega arith), part_zero)

whole_one : (k : ℕ) → whole one k ≡ one
unfolding whole run
whole_one zero = refl
whole_one (suc k) = rw (whole_one k) refl

part_one : (e b : ℕ) → part e b one one ≡ one
unfolding part
part_one e b = go (eqb (e % 16 / b % 2) 1)
  where
    go : (t : Bool) → cond t (by one one) one ≡ one
    go true = refl
    go false = refl

pub power_one : (e : ℕ) → power one e ≡ one
unfolding power
power_one e = simp (root_one, whole_one, part_one)

-- where the lower bits of e are 0, the parts that they stand for change nothing
part_out : (e b r x : ℕ) → ¬ (e % 16 / b % 2 ≡ 1) → part e b r x ≡ x
unfolding part
part_out e b r x n = rw (ne_eqb (e % 16 / b % 2) 1 n)

module _ (t e : ℕ) where
  pub all_bits : power t e ≡ part e 1 (root (root (root (root t)))) (part e 2 (root (root (root t))) (part e 4 (root (root t)) (part e 8 (root t) (whole t (e / 16)))))
  unfolding power
  all_bits = refl

  pub bits_2 : e % 2 ≡ 0 → power t e ≡ part e 2 (root (root (root t))) (part e 4 (root (root t)) (part e 8 (root t) (whole t (e / 16))))
  bits_2 h = all_bits ∙ part_out e 1 _ _ (omega arith)

  pub bits_4 : e % 4 ≡ 0 → power t e ≡ part e 4 (root (root t)) (part e 8 (root t) (whole t (e / 16)))
  bits_4 h = bits_2 (omega arith) ∙ part_out e 2 _ _ (omega arith)

  pub bits_8 : e % 8 ≡ 0 → power t e ≡ part e 8 (root t) (whole t (e / 16))
  bits_8 h = bits_4 (omega arith) ∙ part_out e 4 _ _ (omega arith)

  pub no_bits : e % 16 ≡ 0 → power t e ≡ whole t (e / 16)
  no_bits h = bits_8 (omega arith) ∙ part_out e 8 _ _ (omega arith)

pub ruleset bits = (all_bits, bits_2, bits_4, bits_8, no_bits)
