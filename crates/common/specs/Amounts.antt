-- Lists of amounts: their sum, and a bound on all of them.
use Rattle.std.specs.Prelude.{ℕ, ◌+◌, ◌-◌, ◌^◌, min, Bool, true, ◌&&◌, List, [], ◌∷◌, leb}

unfoldable pub sum : List ℕ → ℕ
sum [] = 0
sum (x ∷ xs) = x + sum xs

-- no amount is above the bound
unfoldable pub all_up_to : ℕ → List ℕ → Bool
all_up_to b [] = true
all_up_to b (x ∷ xs) = leb x b && all_up_to b xs

-- what 64 bits hold: the number itself, and 2^64 − 1 for a greater one
abbrev pub capped : ℕ → ℕ
capped x = min x (2 ^ 64 - 1)
