-- A table whose rows all compute agrees by one computation. Assumes nothing.
use mathlib.Core.Path.{◌≡◌, ap}
use mathlib.Core.List.{List, [], ◌∷◌, map}
use Prim.Native.Nat.{ℕ}
use Rattle.common.specs.Cases.{Row, Agree}

abbrev first : List ℕ → ℕ
first [] = 0
first (x ∷ xs) = x

abbrev others : List ℕ → List ℕ
others [] = []
others (x ∷ xs) = xs

pub agree_all : (rows : List Row) → map (λ (r : Row). r.gives) rows ≡ map (λ (r : Row). r.says) rows → Agree rows
agree_all [] e = tt
agree_all (r ∷ rows) e = (ap first e, agree_all rows (ap others e))
