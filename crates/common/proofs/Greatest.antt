-- "Greatest": what is known of it, the one way to show that a number is it, and a way to compute it. Assumes nothing.
use mathlib.Core.Path.{◌≡◌, refl, sym, ap, ◌∙◌}
use mathlib.Core.Bool.{Bool, true, false, true≢false, cond, ◌&&◌}
use mathlib.Core.Logic.{◌⊎◌, inl, inr, ⊎_elim}
use Prim.Native.Nat.{ℕ, zero, suc, ◌+◌, ◌^◌, ◌≤◌, ◌<◌}
use native.Mathlib.Nat.{le_refl, eq-or-lt_of_le}
use native.Mathlib.Omega.{arith}
use lib.Dec.{leb}
use lib.Ieee.{size}
use lib.Ieee.Digits.{size-lt}
use borrow.Author.Tests.{le-leb, lt-leb, leb-true}
use Rattle.common.specs.Loops.{greatest}
use Rattle.common.proofs.Limits.{refuted, both, parts}

module _ (p : ℕ → Bool) where
  pub greatest_le : (n : ℕ) → greatest p n ≤ n
  unfolding greatest
  greatest_le zero = le_refl 0
  greatest_le (suc n) = go (p (suc n)) (greatest_le n)
    where
      go : (b : Bool) → greatest p n ≤ n → cond b (suc n) (greatest p n) ≤ suc n
      go true h = le_refl (suc n)
      go false h = omega arith

  pub greatest_holds : (n : ℕ) → p 0 ≡ true → p (greatest p n) ≡ true
  unfolding greatest
  greatest_holds zero z = z
  greatest_holds (suc n) z = go (p (suc n)) refl (greatest_holds n z)
    where
      go : (b : Bool) → p (suc n) ≡ b → p (greatest p n) ≡ true → p (cond b (suc n) (greatest p n)) ≡ true
      go true e h = e
      go false e h = h

  pub greatest_above : (n j : ℕ) → greatest p n < j → j ≤ n → p j ≡ false
  unfolding greatest
  greatest_above zero j l h = absurd (omega arith)
  greatest_above (suc n) j l h = go (p (suc n)) refl l (greatest_above n j)
    where
      go : (b : Bool) → p (suc n) ≡ b → cond b (suc n) (greatest p n) < j → (greatest p n < j → j ≤ n → p j ≡ false) → p j ≡ false
      go true e l' f = absurd (omega arith)
      go false e l' f = ⊎_elim (λ q. ap p q ∙ e) (λ q. f l' (omega arith)) (eq-or-lt_of_le h)

  -- a number that has p, when no greater one up to the bound has it, is the greatest
  pub greatest_is : (n k : ℕ) → k ≤ n → p k ≡ true → ((j : ℕ) → k < j → j ≤ n → p j ≡ false) → greatest p n ≡ k
  unfolding greatest
  greatest_is zero k h t f = omega arith
  greatest_is (suc n) k h t f =
      go (p (suc n)) refl (eq-or-lt_of_le h) (λ l. greatest_is n k l t (λ j a b. f j a (omega arith)))
    where
      go : (b : Bool) → p (suc n) ≡ b → (k ≡ suc n) ⊎ (k < suc n) → (k ≤ n → greatest p n ≡ k) → cond b (suc n) (greatest p n) ≡ k
      go true e (inl q) rest = sym q
      go true e (inr q) rest = cc (f (suc n) q (le_refl (suc n)))
      go false e (inl q) rest = cc
      go false e (inr q) rest = rest (omega arith)

-- from x up: each of the k binary places, from the top, is taken where the test holds with it
climbed : (ℕ → Bool) → ℕ → ℕ → ℕ
climbed q zero x = x
climbed q (suc k) x = climbed q k (cond (q (x + 2 ^ k)) (x + 2 ^ k) x)

climbed_holds : (q : ℕ → Bool) (k x : ℕ) → q x ≡ true → q (climbed q k x) ≡ true
unfolding climbed
climbed_holds q zero x h = h
climbed_holds q (suc k) x h = climbed_holds q k _ (go (q (x + 2 ^ k)) refl)
  where
    go : (b : Bool) → q (x + 2 ^ k) ≡ b → q (cond b (x + 2 ^ k) x) ≡ true
    go true e = e
    go false e = h

climbed_next : (q : ℕ → Bool) (k x : ℕ) → q (x + 2 ^ k) ≡ false → q (climbed q k x + 1) ≡ false
unfolding climbed
climbed_next q zero x h = h
climbed_next q (suc k) x h = climbed_next q k _ (go (q (x + 2 ^ k)) refl)
  where
    twice : x + 2 ^ k + 2 ^ k ≡ x + 2 ^ suc k
    twice = omega arith

    go : (b : Bool) → q (x + 2 ^ k) ≡ b → q (cond b (x + 2 ^ k) x + 2 ^ k) ≡ false
    go true e = ap q twice ∙ h
    go false e = e

-- the greatest in as many turns as the bound has binary places, to compute with
unfoldable pub fast_greatest : (ℕ → Bool) → ℕ → ℕ
unfolding climbed size
fast_greatest p n = climbed (λ x. leb x n && p x) (size n) 0

-- it is the greatest, for a test that stays false once it is false
pub greatest_fast : (p : ℕ → Bool) (n : ℕ) → p 0 ≡ true → ((i j : ℕ) → i ≤ j → j ≤ n → p j ≡ true → p i ≡ true) → greatest p n ≡ fast_greatest p n
unfolding fast_greatest
greatest_fast p n z down =
    let q : ℕ → Bool = λ x. leb x n && p x in
    let k : ℕ = climbed q (size n) 0 in
    let in-k = parts (leb k n) (p k) (climbed_holds q (size n) 0 (both (le-leb 0 n (omega arith)) z)) in
    let past : q (0 + 2 ^ size n) ≡ false = rw (lt-leb (0 + 2 ^ size n) n (omega (arith, size-lt n))) in
    let next : q (k + 1) ≡ false = climbed_next q (size n) 0 past in
    greatest_is p n k (leb-true k n in-k.0) in-k.1
    (λ j l h. refuted (p j) (λ t. true≢false (sym (both (le-leb (k + 1) n (omega arith)) (down (k + 1) j (omega arith) h t)) ∙ next)))
