-- "Smallest": what is known of it, and the one way to show that a number is it. Assumes nothing.
use mathlib.Core.Path.{◌≡◌, refl, ap}
use mathlib.Core.Bool.{Bool, true, false, cond}
use Prim.Native.Nat.{ℕ, zero, suc, ◌≤◌, ◌<◌}
use native.Mathlib.Nat.{le_refl}
use native.Mathlib.Omega.{arith}
use Rattle.common.specs.Loops.{smallest}

pub smallest_le : (p : ℕ → Bool) (n : ℕ) → smallest p n ≤ n
unfolding smallest
smallest_le p zero = le_refl 0
smallest_le p (suc n) = go (p zero) (smallest_le (λ k. p (suc k)) n)
  where
    go : (b : Bool) → smallest (λ k. p (suc k)) n ≤ n → cond b zero (suc (smallest (λ k. p (suc k)) n)) ≤ suc n
    go true h = omega arith
    go false h = omega arith

pub smallest_holds : (p : ℕ → Bool) (n : ℕ) → p n ≡ true → p (smallest p n) ≡ true
unfolding smallest
smallest_holds p zero h = h
smallest_holds p (suc n) h = go (p zero) refl (smallest_holds (λ k. p (suc k)) n h)
  where
    go : (b : Bool) → p zero ≡ b → p (suc (smallest (λ k. p (suc k)) n)) ≡ true → p (cond b zero (suc (smallest (λ k. p (suc k)) n))) ≡ true
    go true e _ = e
    go false e t = t

pub smallest_below : (p : ℕ → Bool) (n j : ℕ) → j < smallest p n → p j ≡ false
unfolding smallest
smallest_below p zero j l = absurd (omega arith)
smallest_below p (suc n) j l = go (p zero) refl j l (smallest_below (λ k. p (suc k)) n)
  where
    go : (b : Bool) → p zero ≡ b → (j : ℕ) → j < cond b zero (suc (smallest (λ k. p (suc k)) n)) → ((i : ℕ) → i < smallest (λ k. p (suc k)) n → p (suc i) ≡ false) → p j ≡ false
    go true e j l f = absurd (omega arith)
    go false e zero l f = e
    go false e (suc j) l f = f j (omega arith)

-- a number that has p, when no smaller one has it, is the smallest
pub smallest_is : (p : ℕ → Bool) (n k : ℕ) → k ≤ n → p k ≡ true → ((j : ℕ) → j < k → p j ≡ false) → smallest p n ≡ k
unfolding smallest
smallest_is p zero k h t f = omega arith
smallest_is p (suc n) zero h t f = rw t refl
smallest_is p (suc n) (suc k) h t f =
    rw (f zero (omega arith)) (ap (λ (x : ℕ). suc x) (smallest_is (λ k. p (suc k)) n k (omega arith) t (λ j l. f (suc j) (omega arith))))
