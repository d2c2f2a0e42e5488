-- What is said of the numbers 0, 1, .. below a count, one for each kind of loop; and "greatest" and "smallest".
use Rattle.std.specs.Prelude.{ℕ, zero, suc, ◌+◌, Bool, true, cond, ◌&&◌, List, eqb, set, replicate}

-- Carried state: s after turns 0 .. n − 1
unfoldable pub run : {S : Type 0} → (ℕ → S → S) → ℕ → S → S
run turn zero s = s
run turn (suc n) s = turn n (run turn n s)

-- Fill: the list with x 0 .. x (n − 1) in its first n places
unfoldable pub filled : {A : Type 0} → (ℕ → A) → ℕ → List A → List A
filled x zero l = l
filled x (suc n) l = set (filled x n l) n (x n)

-- a list of `many` entries: x k where k is below n, and z past it
abbrev pub table : {A : Type 0} → (ℕ → A) → A → ℕ → ℕ → List A
table x z n many = filled x n (replicate many z)

-- Sum: f 0 + .. + f (n − 1)
unfoldable pub sum_of : (ℕ → ℕ) → ℕ → ℕ
sum_of f zero = 0
sum_of f (suc n) = sum_of f n + f n

-- All: p holds of 0 .. n − 1
unfoldable pub every : (ℕ → Bool) → ℕ → Bool
every p zero = true
every p (suc n) = every p n && p n

-- First that fails: of 0 .. n − 1 the first whose number is not 0, as that number and its place, counted from 1; zeros where there is none
unfoldable pub first_bad : (ℕ → ℕ) → ℕ → ℕ × ℕ
first_bad number zero = (0, 0)
first_bad number (suc n) =
    let before = first_bad number n in
    cond (eqb before.0 0) (cond (eqb (number n) 0) (0, 0) (number n, suc n)) before

-- the greatest whole number up to the bound at which p holds, and 0 where there is none
unfoldable pub greatest : (ℕ → Bool) → ℕ → ℕ
greatest p zero = zero
greatest p (suc n) = cond (p (suc n)) (suc n) (greatest p n)

-- the smallest whole number up to the bound at which p holds, and the bound where there is none
unfoldable pub smallest : (ℕ → Bool) → ℕ → ℕ
smallest p zero = zero
smallest p (suc n) = cond (p zero) zero (suc (smallest (λ k. p (suc k)) n))
