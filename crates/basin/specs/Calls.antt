-- Calls of the step, one after the other.
use Rattle.std.specs.Prelude.{ℕ, List, [], ◌∷◌}
use Rattle.forcing.specs.declared.list.Line.{Line}
use Rattle.basin.specs.declared.state.Basin.{Basin}
use Rattle.basin.specs.Step.{Outcome}
use Rattle.basin.specs.Step.{step_call}

-- "The list holds calls of the step, each with its own lines and count"
pub record Call : Type 0 where
  pub lines : List Line
  pub count : ℕ

-- what each call hands back: "The first step gets the basin that the load handed back, each later one the basin that the step
-- before it handed back"
unfoldable pub results : Basin → List Call → List Outcome
results b [] = []
results b (c ∷ cs) = step_call b c.lines c.count ∷ results (step_call b c.lines c.count).basin cs

-- "the basin last handed back (the load's, for an empty list)"
unfoldable pub last_basin : Basin → List Call → Basin
last_basin b [] = b
last_basin b (c ∷ cs) = last_basin (step_call b c.lines c.count).basin cs
