-- Document 02, No. 9, of whole lists: what a window keeps and answers after any arrivals, and which records makings and arrivals leave.
use Rattle.std.specs.Prelude.{◌≡◌, ◌↔◌, ℕ, ◌-◌, ◌^◌, ◌≤◌, max, true, cond, ltb, List, [], ◌∷◌, ◌++◌, length, drop}
use Rattle.std.specs.List.{list_all}
use Rattle.common.specs.Amounts.{all_up_to}
use Rattle.window.specs.declared.Window.{Window}
use Rattle.window.specs.Window.{most, keeping, kept_of, volumes, Answer, making, arrival}

-- ---- lists of volumes, the oldest first

-- "the last n volumes, or .. all while fewer have come"
abbrev pub last : ℕ → List ℕ → List ℕ
last n l = drop (length l - n) l

-- those "that no later one equals or exceeds"
unfoldable pub unexceeded : List ℕ → List ℕ
unexceeded [] = []
unexceeded (x ∷ l) = cond (list_all (λ later. ltb later x) l) (x ∷ unexceeded l) (unexceeded l)

-- "the greatest of" them, "and 0 for none"
unfoldable pub greatest_of : List ℕ → ℕ
greatest_of [] = 0
greatest_of (x ∷ l) = max x (greatest_of l)

-- ---- arrivals

-- the answer after these arrivals, one after the other, where `a` is the answer before
unfoldable pub arrivals : Answer → List ℕ → Answer
arrivals a [] = a
arrivals a (x ∷ l) = arrivals (arrival a.window x) l

-- What is right of the answer after the arrivals l into a window just made for n.
pub record Keeps (n : ℕ) (l : List ℕ) (a : Answer) : Type 0 where
  pub accepted : a.number ≡ 0
  pub no_place : a.place ≡ 0
  -- "the window keeps exactly those of the last n volumes that no later one equals or exceeds"
  pub keeps : volumes (kept_of a.window) ≡ unexceeded (last n l)
  pub nothing_else : a.window ≡ keeping n (kept_of a.window)
  -- the answer "equals the greatest of the last n volumes, or of all while fewer have come, and 0 for none"
  pub highest : a.highest ≡ greatest_of (last n l)

-- What is right of a refusal that hands back the window w: 15, "with place and answer 0".
pub record Refuses (w : Window) (a : Answer) : Type 0 where
  pub number_is : a.number ≡ 15
  pub no_place : a.place ≡ 0
  pub no_highest : a.highest ≡ 0
  pub window_is : a.window ≡ w

-- What is right of a making's answer, "For every list of arrivals", the empty one too.
pub record MadeFor (n : ℕ) (a : Answer) : Type 0 where
  pub inside : 1 ≤ n → n ≤ most → (l : List ℕ) → Keeps n l (arrivals a l)
  -- "such a window is empty and stays so, and each arrival into it gives 15 again"
  pub outside : (1 ≤ n → n ≤ most → ⊥) → (l : List ℕ) → Refuses (keeping n []) (arrivals a l)

-- A record that making and arrivals leave: there are n in its range, and arrivals of 64 bits, that leave it.
pub record Reached (w : Window) : Type 0 where
  pub n : ℕ
  pub n_least : 1 ≤ n
  pub n_most : n ≤ most
  pub came : List ℕ
  pub came_fit : all_up_to (2 ^ 64 - 1) came ≡ true
  pub leave : w ≡ (arrivals (making n) came).window

-- What is right of an arrival's answer, of the window w that was handed in.
pub record Arrives (w : Window) (volume : ℕ) (a : Answer) : Type 0 where
  pub keeps : (n : ℕ) → 1 ≤ n → n ≤ most → (l : List ℕ) → w ≡ (arrivals (making n) l).window → Keeps n (l ++ (volume ∷ [])) a
  pub accepted : (a.number ≡ 0) ↔ Reached w
  pub unchanged : (Reached w → ⊥) → Refuses w a
