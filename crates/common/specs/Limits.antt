-- Ranges, and words with their ranges.
use Rattle.std.specs.Prelude.{ℕ, suc, Bool, true, cond, ◌&&◌, List, [], ◌∷◌, leb}

-- lo ≤ x ≤ hi, as a test
abbrev pub within : ℕ → ℕ → ℕ → Bool
within lo x hi = leb lo x && leb x hi

-- a word and its range
pub record Word : Type 0 where
  pub lo : ℕ
  pub value : ℕ
  pub hi : ℕ

abbrev pub word : ℕ → ℕ → ℕ → Word
word lo x hi = record { lo = lo; value = x; hi = hi }

-- the words without their ranges
abbrev pub values : List Word → List ℕ
values [] = []
values (w ∷ ws) = w.value ∷ values ws

-- every word is inside its range
unfoldable pub words_in : List Word → Bool
words_in [] = true
words_in (w ∷ ws) = within w.lo w.value w.hi && words_in ws

-- the number of the first word outside its range, counted from 0, and how many there are where none is
unfoldable pub first_out : List Word → ℕ
first_out [] = 0
first_out (w ∷ ws) = cond (within w.lo w.value w.hi) (suc (first_out ws)) 0
