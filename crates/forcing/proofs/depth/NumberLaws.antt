-- A number's refusal: there is one exactly where it is not from 0 to its limit, and it tells one below zero, no number and an infinity apart.
-- Assumes nothing.
use mathlib.Core.Path.{◌≡◌, refl}
use mathlib.Core.Logic.{◌↔◌, ◌⊎◌, inl, inr}
use mathlib.Core.Bool.{Bool, true, false}
use Prim.Native.Nat.{ℕ, ◌≤◌}
use native.Mathlib.Omega.{arith}
use lib.Dec.{eqb}
use lib.IntN.{ℤ}
use lib.Ieee.{Float, nan, inf, fin}
use Rattle.std.proofs.lemmas.Bool.Decides.{nat_tests}
use Rattle.forcing.specs.Depth.{from_zero_to, above_limit, number_of, below_zero}

module _ (limit : ℕ) where
  pub number_test : (x : Float) → eqb (number_of limit x) 0 ≡ from_zero_to limit x
  unfolding number_of above_limit from_zero_to
  number_test nan = refl
  number_test (inf s) = refl
  number_test (fin s m e) = grind (arith, nat_tests)

  -- of a finite number
  finite_le : (s : Bool) (m : ℕ) (e : ℤ) → number_of limit (fin s m e) ≤ 8
  unfolding number_of
  finite_le s m e = grind (arith, nat_tests)

  pub seven : (x : Float) → (number_of limit x ≡ 7) ↔ (below_zero x ≡ true)
  unfolding number_of below_zero
  seven nan = (λ e. absurd (omega arith), λ e. cc)
  seven (inf s) = (λ e. absurd (omega arith), λ e. cc)
  seven (fin s m e) = (λ h. grind (arith, nat_tests), λ h. rw h)

  pub twelve : (x : Float) → (number_of limit x ≡ 12) ↔ (x ≡ nan)
  unfolding number_of
  twelve nan = (λ _. refl, λ _. refl)
  twelve (inf s) = (λ e. absurd (omega arith), λ e. cc)
  twelve (fin s m e) = (λ h. absurd (omega (arith, h, finite_le s m e)), λ h. cc)

  pub thirteen : (x : Float) → (number_of limit x ≡ 13) ↔ ((x ≡ inf true) ⊎ (x ≡ inf false))
  unfolding number_of
  thirteen nan = (λ e. absurd (omega arith), λ e. elim e [ inl h ↦ cc | inr h ↦ cc ])
  thirteen (inf true) = (λ _. inl refl, λ _. refl)
  thirteen (inf false) = (λ _. inr refl, λ _. refl)
  thirteen (fin s m e) = (λ h. absurd (omega (arith, h, finite_le s m e)), λ e. elim e [ inl h ↦ cc | inr h ↦ cc ])
