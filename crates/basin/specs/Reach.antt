-- A reach and its limits: document 01, "The basin file" and 9 of "Who sent it".
use Rattle.std.specs.Prelude.{ℕ, suc, ◌+◌, Bool, cond, ◌&&◌, List, [], ◌∷◌, leb, eqb}
use Rattle.common.specs.Shares.{one}
use Rattle.common.specs.Limits.{Word, word, words_in}
use Rattle.common.specs.Amounts.{all_up_to}
use Rattle.subbasin.specs.Record.{most_stored}
use Rattle.basin.specs.declared.reach.Reach.{Reach}

-- "3 a reach"
abbrev pub reach_word_count : ℕ
reach_word_count = 3

-- "c0 0..65,536; c1 with c0 + c1 1..65,536; next, 0 or above the reach's own number and at most M"; j is its number, from 1
abbrev pub reach_words : ℕ → ℕ → Reach → List Word
reach_words m j r = word 0 r.c0 one ∷ word 1 (r.c0 + r.c1) one ∷ word (cond (eqb r.next 0) 0 (suc j)) r.next m ∷ []

-- the same without their ranges, as the file has them
abbrev pub reach_words_of : Reach → List ℕ
reach_words_of r = r.c0 ∷ r.c1 ∷ r.next ∷ []

-- a reach that 9 allows
unfoldable pub reach_in : ℕ → ℕ → Reach → Bool
reach_in m j r = words_in (reach_words m j r) && leb r.content most_stored

-- all zeros, as a record and as a test
abbrev pub blank_reach : Reach
blank_reach = record { c0 = 0; c1 = 0; next = 0; content = 0 }

unfoldable pub is_blank_reach : Reach → Bool
is_blank_reach r = all_up_to 0 (r.c0 ∷ r.c1 ∷ r.next ∷ r.content ∷ [])
