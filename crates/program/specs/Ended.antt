-- How a run ends, and the exit status of that: no part of document 01.
use Rattle.std.specs.Prelude.{◌≡◌, ℕ, Bool, cond, eqb, Result, Ok, Err}
use Rattle.program.specs.declared.Ended.{Ended}
use Rattle.program.specs.declared.Ended.TheVariants.{All, NotAll, Failed}

abbrev pub status_of : Ended → ℕ
status_of All = 0
status_of NotAll = 1
status_of Failed = 3

-- How a run ends that keeps so many bytes of a part step: Failed where a read or a write failed, else All where there are none, else
-- NotAll.
abbrev pub ended_of : Bool → ℕ → Ended
ended_of failed kept = cond failed Failed (cond (eqb kept 0) All NotAll)

pub record Ends (kept : ℕ) (ended : Ended) : Type 0 where
  pub failed : Bool
  pub ended_is : ended ≡ ended_of failed kept

-- how a run ends whose parts hand on an Err where it ends too soon
abbrev pub ended_in : {T : Type 0} → Result T Ended → Ended
ended_in (Ok _) = All
ended_in (Err ended) = ended
