-- Held and Ordinate: Held goes up from 0 to c, and Ordinate is the greatest point that holds at most w. Assumes nothing.
use mathlib.Core.Path.{◌≡◌, refl, ap, ◌∙◌}
use Prim.Native.Nat.{ℕ, ◌+◌, ◌-◌, ◌*◌, ◌/◌, ◌≤◌, ◌<◌, min}
use native.Mathlib.Nat.{le_trans, mul-le-mul_left, min-eq_left, min-eq_right, mul-div_right, zero-div, div-mul-le_self, le-div_iff_mul-le}
use native.Mathlib.Decide.{dec_le}
use native.Mathlib.Omega.{arith}
use lib.Dec.{leb}
use borrow.Author.Tests.{le-leb, lt-leb, leb-false}
use Rattle.common.specs.Shares.{one}
use Rattle.common.proofs.Greatest.{greatest_le, greatest_above, greatest_is}
use Rattle.curve.specs.Capacity.{share_above, held, held_at, ordinate, rise, least_e}
use Rattle.curve.proofs.capacity.PowerLaws.{power_mono, power_zero, power_one}

share_above_mono : (m : ℕ) {a b : ℕ} → 0 < m → a ≤ b → share_above m b ≤ share_above m a
unfolding share_above
share_above_mono m {a} {b} z h =
    (le-div_iff_mul-le z).1 (le_trans (div-mul-le_self ((m - b) * one) m) (omega (arith, h)))

sub_zero_mul : (m : ℕ) → (m - 0) * one ≡ m * one
sub_zero_mul m = omega arith

sub_self_mul : (m : ℕ) → (m - m) * one ≡ 0
sub_self_mul m = omega arith

share_above_zero : (m : ℕ) → 0 < m → share_above m 0 ≡ one
unfolding share_above
share_above_zero m z = ap (λ (x : ℕ). x / m) (sub_zero_mul m) ∙ mul-div_right one z

share_above_top : (m : ℕ) → share_above m m ≡ 0
unfolding share_above
share_above_top m = ap (λ (x : ℕ). x / m) (sub_self_mul m) ∙ zero-div m

-- by the share above: the greater it is, the less is held
pub held_at_mono : (c e : ℕ) {s t : ℕ} → s ≤ t → held_at c e t ≤ held_at c e s
unfolding held_at
held_at_mono c e h = omega (arith, mul-le-mul_left c (power_mono e h))

pub held_at_one : (c e : ℕ) → held_at c e one ≡ 0
unfolding held_at
held_at_one c e = rw (power_one e) (omega arith)

pub held_at_zero : (c e : ℕ) → least_e ≤ e → held_at c e 0 ≡ c
unfolding held_at
held_at_zero c e h = rw (power_zero e h) (omega arith)

pub held_is : (c m e a : ℕ) → held c m e a ≡ held_at c e (share_above m a)
unfolding held held_at
held_is c m e a = refl

pub held_le : (c m e a : ℕ) → held c m e a ≤ c
unfolding held
held_le c m e a = omega arith

pub held_mono : (c m e : ℕ) {a b : ℕ} → 0 < m → a ≤ b → held c m e a ≤ held c m e b
held_mono c m e {a} {b} z h = rw (held_is c m e a, held_is c m e b) (held_at_mono c e (share_above_mono m z h))

pub held_zero : (c m e : ℕ) → 0 < m → held c m e 0 ≡ 0
held_zero c m e z = held_is c m e 0 ∙ ap (held_at c e) (share_above_zero m z) ∙ held_at_one c e

pub held_top : (c m e : ℕ) → least_e ≤ e → held c m e m ≡ c
held_top c m e h = held_is c m e m ∙ ap (held_at c e) (share_above_top m) ∙ held_at_zero c e h

pub ordinate_le : (c m e w : ℕ) → ordinate c m e w ≤ m
unfolding ordinate
ordinate_le c m e w = greatest_le (λ a. leb (held c m e a) w) m

-- at any point above the ordinate, up to m, more than w is held
pub ordinate_above : (c m e w a : ℕ) → ordinate c m e w < a → a ≤ m → w < held c m e a
unfolding ordinate
ordinate_above c m e w a h k = leb-false _ _ (greatest_above (λ a. leb (held c m e a) w) m a h k)

-- a point that holds at most w, when the next one is past m or holds more, is the ordinate
pub ordinate_is : (c m e w a : ℕ) → 0 < m → a ≤ m → held c m e a ≤ w → (a < m → w < held c m e (a + 1)) → ordinate c m e w ≡ a
unfolding ordinate
ordinate_is c m e w a z h l u =
    greatest_is (λ a. leb (held c m e a) w) m a h (le-leb _ _ l)
    (λ j i k. lt-leb (held c m e j) w (omega (arith, u (omega arith), held_mono c m e {a = a + 1} {b = j} z (omega arith))))

-- net rain on top of w: no more than c is held, and no less than w
pub rise_le : (c m e w pe : ℕ) → rise c m e w pe ≤ c
unfolding rise
rise_le c m e w pe = held_le c m e (min (ordinate c m e w + pe) m)

pub le_rise : (c m e w pe : ℕ) → least_e ≤ e → w ≤ c → 0 < pe → w ≤ rise c m e w pe
unfolding rise
le_rise c m e w pe he hw hp =
    elim (dec_le (ordinate c m e w + pe) m) as (λ _. w ≤ held c m e (min (ordinate c m e w + pe) m)) [
      | yes l ↦ rw (min-eq_left l) (omega (arith, ordinate_above c m e w (ordinate c m e w + pe) (omega arith) l))
      | no n ↦ rw (min-eq_right {n = m} {m = ordinate c m e w + pe} (omega arith), held_top c m e he) hw
    ]
