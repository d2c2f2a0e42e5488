-- Worked examples: lines, and how they are spelt.
use Rattle.std.specs.Prelude.{◌≡◌, List, [], ◌∷◌, ℕ}
use Rattle.program.specs.Print.{load_text, step_text, short_text}

-- what a definition gives, and the bytes that it should be
abbrev pub Spelt : List (List ℕ × List ℕ) → Type 0
Spelt [] = Unit {0}
Spelt (r ∷ rs) = (r.0 ≡ r.1) × Spelt rs

-- two lines that document 01 prints, "1 ok 135000 0 26666 108334 0" and "2 refused 6 1", and "load 4 12" and "short 7"
abbrev pub line_cases : List (List ℕ × List ℕ)
line_cases = (
  step_text 1 0 0 (record { rain = 135000; evapotranspiration = 0; outlet = 26666; content = 108334; estimated = 0 }),
  49 ∷ 32 ∷ 111 ∷ 107 ∷ 32 ∷ 49 ∷ 51 ∷ 53 ∷ 48 ∷ 48 ∷ 48 ∷ 32 ∷ 48 ∷ 32 ∷ 50 ∷ 54 ∷ 54 ∷ 54 ∷ 54 ∷ 32 ∷ 49 ∷ 48 ∷ 56 ∷ 51 ∷ 51 ∷ 52 ∷ 32 ∷ 48 ∷ 10 ∷ [],
)
    ∷ (
      step_text 2 6 1 (record { rain = 0; evapotranspiration = 0; outlet = 0; content = 0; estimated = 0 }),
      50 ∷ 32 ∷ 114 ∷ 101 ∷ 102 ∷ 117 ∷ 115 ∷ 101 ∷ 100 ∷ 32 ∷ 54 ∷ 32 ∷ 49 ∷ 10 ∷ [],
    )
    ∷ (load_text 4 12, 108 ∷ 111 ∷ 97 ∷ 100 ∷ 32 ∷ 52 ∷ 32 ∷ 49 ∷ 50 ∷ 10 ∷ [])
    ∷ (short_text 7, 115 ∷ 104 ∷ 111 ∷ 114 ∷ 116 ∷ 32 ∷ 55 ∷ 10 ∷ [])
    ∷ []
