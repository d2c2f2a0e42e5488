-- A number in decimal, as std writes it; numbers that are put one by one. Assumes nothing.
use mathlib.Core.Path.{◌≡◌, refl, sym, ap, ◌∙◌}
use mathlib.Core.List.{List, [], ◌∷◌, ◌++◌, append_assoc}
use Prim.Native.Nat.{ℕ, zero, suc, ◌+◌, ◌/◌, ◌%◌, ◌^◌, ◌≤◌, ◌<◌}
use native.Mathlib.Nat.{pow-suc}
use native.Mathlib.Decide.{dec_le}
use native.Mathlib.Omega.{arith}
use borrow.Author.Tests.{lt-ltb, le-ltb}
use Rattle.std.specs.Fmt.{decimal as written}
use Rattle.std.proofs.lemmas.Fmt.{decimal_digit, decimal_step}
use Rattle.std.proofs.lemmas.List.{drop_more, drop_all}
use lib.ListN.{length, get_or, drop, length-append}
use Rattle.program.specs.Print.{decimal_of, decimal, blank, newline}
use Rattle.program.specs.Workers.{numbers_text}

-- below 10 there is one digit
last : (most n : ℕ) → n < 10 → decimal_of most n ≡ (48 + n) ∷ []
unfolding decimal_of
last zero n h = refl
last (suc most) n h = rw (lt-ltb n 10 h, decimal_of) refl

-- from 10 on there are the tenth's digits, and one
first : (most n : ℕ) → 10 ≤ n → decimal_of (suc most) n ≡ decimal_of most (n / 10) ++ ((48 + n % 10) ∷ [])
unfolding decimal_of
first most n h = rw (le-ltb n 10 h, decimal_of) refl

-- any `most` that is no less than n will do
enough : (most more n : ℕ) → n ≤ most → n ≤ more → decimal_of most n ≡ decimal_of more n
enough zero more n h g = last zero n (omega arith) ∙ sym (last more n (omega arith))
enough (suc most) zero n h g = last (suc most) n (omega arith) ∙ sym (last zero n (omega arith))
enough (suc most) (suc more) n h g =
    elim (dec_le 10 n) [
      | yes p ↦
          first most n p
          ∙ ap (λ (l : List ℕ). l ++ ((48 + n % 10) ∷ [])) (enough most more (n / 10) (omega arith) (omega arith))
          ∙ sym (first more n p)
      | no p ↦ last (suc most) n (omega arith) ∙ sym (last (suc more) n (omega arith))
    ]

pub one_digit : (n : ℕ) → n < 10 → decimal n ≡ (48 + n) ∷ []
unfolding decimal
one_digit n h = last n n h

-- all digits but the last are those of the tenth
pub more_digits : (n : ℕ) → 10 ≤ n → decimal n ≡ decimal (n / 10) ++ ((48 + n % 10) ∷ [])
unfolding decimal
more_digits n h =
    enough n (suc n) n (omega arith) (omega arith)
    ∙ first n n h
    ∙ ap (λ (l : List ℕ). l ++ ((48 + n % 10) ∷ [])) (enough n (n / 10) (n / 10) (omega arith) (omega arith))

digits_below : (k n : ℕ) → n < 10 ^ suc k → length (decimal n) ≤ suc k
digits_below zero n h = let e = ap length (one_digit n (omega arith)) in omega (arith, e)
digits_below (suc k) n h =
    elim (dec_le 10 n) [
      | yes p ↦
          let e = ap length (more_digits n p) ∙ length-append (decimal (n / 10)) ((48 + n % 10) ∷ []) in
          omega (arith, e, digits_below k (n / 10) (omega (arith, pow-suc 10 (suc k))))
      | no p ↦ let e = ap length (one_digit n (omega arith)) in omega (arith, e)
    ]

-- a u64 has at most 20 digits
pub digits_most : (n : ℕ) → n < 2 ^ 64 → length (decimal n) ≤ 20
digits_most n h = digits_below 19 n (omega arith)

-- std writes those digits
written_of : (most n : ℕ) → n ≤ most → n < 2 ^ 64 → written n ≡ decimal n
written_of zero n h fits = decimal_digit n (omega arith) ∙ sym (one_digit n (omega arith))
written_of (suc most) n h fits =
    elim (dec_le 10 n) [
      | yes p ↦
          decimal_step n p fits
          ∙ ap (λ (l : List ℕ). l ++ ((48 + n % 10) ∷ [])) (written_of most (n / 10) (omega arith) (omega arith))
          ∙ sym (more_digits n p)
      | no p ↦ decimal_digit n (omega arith) ∙ sym (one_digit n (omega arith))
    ]

pub written_is : (n : ℕ) → n < 2 ^ 64 → written n ≡ decimal n
written_is n fits = written_of n n (omega arith) fits

-- what is put and what is still to come is the whole
module _ (numbers : List ℕ) (i : ℕ) (out : List ℕ) {whole : List ℕ} where
  pub numbers_turn : i < length numbers
      → out ++ numbers_text (drop i numbers) ≡ whole
      → {out₁ out₂ : List ℕ}
      → out₁ ≡ out ++ blank
      → out₂ ≡ out₁ ++ decimal (get_or numbers i 0)
      → out₂ ++ numbers_text (drop (i + 1) numbers) ≡ whole
  numbers_turn h so_far e f =
      let n = get_or numbers i 0 in
      let left = numbers_text (drop (i + 1) numbers) in
      ap (λ (l : List ℕ). l ++ left) (f ∙ ap (λ (l : List ℕ). l ++ decimal n) e)
      ∙ append_assoc (out ++ blank) (decimal n) left
      ∙ append_assoc out blank (decimal n ++ left)
      ∙ ap (λ (l : List ℕ). out ++ numbers_text l) (sym (drop_more numbers i 0 h))
      ∙ so_far

  pub numbers_end : length numbers ≤ i → out ++ numbers_text (drop i numbers) ≡ whole → out ++ newline ≡ whole
  numbers_end h so_far = ap (λ (l : List ℕ). out ++ numbers_text l) (sym (drop_all i numbers h)) ∙ so_far
