-- Document 02, No. 9, highest outlet of late: a window's record, and what making one and an arrival into it answer.
use Rattle.std.specs.Prelude.{ℕ, ◌+◌, ◌-◌, Bool, true, cond, ◌&&◌, eqb, ltb, leb, List, [], ◌∷◌, ◌++◌, map, length, get_or, take, drop, replicate, filter, Result, Ok, Err}
use Rattle.std.specs.List.{list_all}
use Rattle.common.specs.declared.refusal.Refusal.{Refusal}
use Rattle.common.specs.Refusals.{number_of}
use Rattle.common.specs.Limits.{within}
use Rattle.window.specs.declared.Kept.{Kept}
use Rattle.window.specs.declared.Window.{Window}

-- "n 1..64"
abbrev pub most : ℕ
most = 64

-- ---- a window's record

-- a place that is not in use
abbrev pub blank : Kept
blank = record { volume = 0; age = 0 }

-- the window for n steps that keeps these, the oldest first
abbrev pub keeping : ℕ → List Kept → Window
keeping n l = record { n = n; count = length l; kept = l ++ replicate (most - length l) blank }

-- what it keeps
abbrev pub kept_of : Window → List Kept
kept_of w = take w.count w.kept

abbrev pub volumes : List Kept → List ℕ
volumes l = map (λ k. k.volume) l

abbrev pub first_of : Window → Kept
first_of w = get_or w.kept 0 blank

-- "the answer is the oldest kept", "and 0 for none"
unfoldable pub highest_of : Window → ℕ
highest_of w = (first_of w).volume

-- ---- what a call answers

-- Number and place are 0 where it is accepted.
pub record Answer : Type 0 where
  pub window : Window
  pub number : ℕ
  pub place : ℕ
  pub highest : ℕ

abbrev pub answered : Window → Answer
answered w = record { window = w; number = 0; place = 0; highest = highest_of w }

-- 15, "with place and answer 0"
abbrev pub refused : Window → Answer
refused w = record { window = w; number = 15; place = 0; highest = 0 }

-- what a window and a result stand for
abbrev pub as_answer : Window → Result ℕ Refusal → Answer
as_answer w (Ok highest) = record { window = w; number = 0; place = 0; highest = highest }
as_answer w (Err why) = record { window = w; number = number_of why; place = 0; highest = 0 }

-- ---- making

-- "15 stands for n outside 1..64, asked when the window is made; such a window is empty"
unfoldable pub making : ℕ → Answer
making n = cond (within 1 n most) (answered (keeping n [])) (refused (keeping n []))

-- ---- an arrival

-- one that is kept, a step later
abbrev pub older : Kept → Kept
older k = record { volume = k.volume; age = k.age + 1 }

-- whether it stays as a volume arrives: it is one of the last n, and the volume neither "equals or exceeds" it
unfoldable pub stays : ℕ → ℕ → Kept → Bool
stays n volume k = ltb (k.age + 1) n && ltb volume k.volume

-- "Steps arrive and the oldest leave"
unfoldable pub arrived : ℕ → List Kept → ℕ → List Kept
arrived n l volume = map older (filter (stays n volume) l) ++ (record { volume = volume; age = 0 } ∷ [])

-- n in its range, a count of places, and the oldest kept one of the last n
unfoldable pub counts_fit : Window → Bool
counts_fit w = within 1 w.n most && leb w.count most && ltb (first_of w).age w.n

-- places that are not in use are zero
unfoldable pub is_blank : Kept → Bool
is_blank k = eqb k.volume 0 && eqb k.age 0

unfoldable pub others_blank : Window → Bool
others_blank w = list_all is_blank (drop w.count w.kept)

unfoldable pub fits : Window → Bool
fits w = counts_fit w && others_blank w

-- volumes and ages fall, the ages to 0
unfoldable pub falls : List Kept → Bool
falls [] = true
falls (k ∷ []) = eqb k.age 0
falls (k ∷ (next ∷ l)) = ltb next.volume k.volume && ltb next.age k.age && falls (next ∷ l)

-- whether makings and arrivals leave the record, as a test: that it decides this is in every arrival's promise (`Arrives`)
unfoldable pub is_reached : Window → Bool
is_reached w = fits w && falls (kept_of w)

-- "each arrival into it gives 15 again", and "A window handed in with a record that no making and arrivals leave also gets 15 .. and comes back
-- unchanged"
unfoldable pub arrival : Window → ℕ → Answer
arrival w volume = cond (is_reached w) (answered (keeping w.n (arrived w.n (kept_of w) volume))) (refused w)
