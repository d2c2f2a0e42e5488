-- Document 01, "Proved cases": "One theorem holds these, as a table over the definitions".
use Rattle.std.specs.Prelude.{◌≡◌, List, [], ◌∷◌, ℕ}

-- what a definition gives, and what the document says
pub record Row : Type 0 where
  pub gives : ℕ
  pub says : ℕ

abbrev pub row : ℕ → ℕ → Row
row x y = record { gives = x; says = y }

-- every row of a table agrees
abbrev pub Agree : List Row → Type 0
Agree [] = Unit {0}
Agree (r ∷ rs) = (r.gives ≡ r.says) × Agree rs
