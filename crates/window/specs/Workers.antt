-- What the private functions require and answer: no part of document 02.
use Rattle.std.specs.Prelude.{◌≡◌, ℕ, false, Result, Ok, Err}
use Rattle.common.specs.declared.refusal.Refusal.{Refusal}
use Rattle.common.specs.declared.refusal.Refusal.TheVariants.{BadWindow}
use Rattle.window.specs.declared.Window.{Window}
use Rattle.window.specs.Window.{keeping, kept_of, arrived, is_reached}
use Rattle.window.specs.Arrivals.{Reached}

-- the window after a volume, or why there is none
abbrev pub After : Window → ℕ → Result Window Refusal → Type 0
After w volume (Ok after) = Reached w × (after ≡ keeping w.n (arrived w.n (kept_of w) volume))
After w volume (Err why) = (is_reached w ≡ false) × (why ≡ BadWindow)
