-- Document 01, "The store law": the lag line.
use Rattle.std.specs.Prelude.{ℕ, ◌-◌, ◌^◌, ◌≡◌, Bool, ◌&&◌, List, [], ◌∷◌, ◌++◌, get_or, take, drop, replicate}
use Rattle.common.specs.Amounts.{all_up_to}
use Rattle.subbasin.specs.declared.record.LagLine.{LagLine}

-- how many amounts wait in a line: those that entered less than L steps ago
abbrev pub in_use : LagLine → ℕ
in_use line = line.lag

-- "a waiting amount above 2^50 or unused and not zero" is outside
abbrev pub most_waiting : ℕ
most_waiting = 2 ^ 50

unfoldable pub line_in : LagLine → Bool
line_in line = all_up_to most_waiting line.waiting && all_up_to 0 (drop (in_use line) line.waiting)

-- what leaves when the amount t enters: the oldest
unfoldable pub leaving : LagLine → ℕ → ℕ
leaving line t = get_or (t ∷ line.waiting) (in_use line) 0

-- what waits then, the newest first; the other places are zero
unfoldable pub waiting_after : LagLine → ℕ → List ℕ
waiting_after line t = take (in_use line) (t ∷ line.waiting) ++ replicate (15 - in_use line) 0

unfoldable pub entered : LagLine → ℕ → LagLine
entered line t = record { lag = line.lag; waiting = waiting_after line t }

-- "Lag lines .. start empty"
abbrev pub empty : ℕ → LagLine
empty lag = record { lag = lag; waiting = replicate 15 0 }

-- a line that started empty, once amounts have entered it one a step; the list has the newest first
unfoldable pub fed : ℕ → List ℕ → LagLine
fed lag [] = empty lag
fed lag (t ∷ ts) = entered (fed lag ts) t

-- what entered so many steps ago, 0 steps being now, and 0 where that is before the first
abbrev pub steps_ago : ℕ → List ℕ → ℕ
steps_ago many ts = get_or ts many 0

-- "what leaves is what entered L steps ago (L = 0: itself)": where t enters after the amounts ts
abbrev pub Lagged : LagLine → ℕ → ℕ → Type 0
Lagged line t out = (ts : List ℕ) → line ≡ fed line.lag ts → out ≡ steps_ago line.lag (t ∷ ts)
