-- Document 02, No. 2: the week in one call.
use Rattle.std.specs.Prelude.{◌≡◌, ℕ, zero, suc, ◌+◌, ◌*◌, ◌/◌, ◌%◌, Bool, true, false, cond, ◌&&◌, List, [], ◌∷◌, eqb, leb, length, drop, Option, Some, None}
use Rattle.common.specs.declared.refusal.Refused.{Refused}
use Rattle.common.specs.Refusals.{number_of}
use Rattle.common.specs.Loops.{table}
use Rattle.forcing.specs.declared.list.Line.{Line}
use Rattle.forcing.specs.List.{blank, line_at}
use Rattle.basin.specs.declared.state.Basin.{Basin}
use Rattle.basin.specs.declared.step.Report.{Report}
use Rattle.basin.specs.declared.week.Week.{Week}
use Rattle.basin.specs.State.{content_of}
use Rattle.basin.specs.Limits.{basin_in}
use Rattle.basin.specs.Step.{Outcome, zeros, step_call}
use Rattle.basin.specs.Calls.{Call, results}

-- ---- the list: "one list of forcing lines for many steps, N lines each"

-- "At most 1,000 steps fit in a call"
abbrev pub most_steps : ℕ
most_steps = 1000

-- "whole steps that fit"; the others: "A list that is longer, or not a multiple of N lines"
unfoldable pub fits : ℕ → ℕ → Bool
fits n long = leb long (most_steps * n) && eqb (long % n) 0

-- the first n lines, in the 32 places of a step
abbrev pub step_lines : ℕ → List Line → List Line
step_lines n lines = table (λ k. line_at lines k) blank n 32

-- the calls of the first k steps of a list
unfoldable pub calls_of : ℕ → ℕ → List Line → List Call
calls_of n zero lines = []
calls_of n (suc k) lines = record { lines = step_lines n lines; count = n } ∷ calls_of n k (drop n lines)

-- of all its steps
unfoldable pub week_calls : ℕ → List Line → List Call
week_calls n lines = calls_of n (length lines / n) lines

-- "takes steps in order up to the first that is refused", and that one
unfoldable pub up_to_refused : Basin → List Call → List Call
up_to_refused b [] = []
up_to_refused b (c ∷ cs) =
    c ∷ cond (eqb (step_call b c.lines c.count).number 0) (up_to_refused (step_call b c.lines c.count).basin cs) []

-- ---- the answer: "the basin then reached, the count of accepted steps, the summed rain, evapotranspiration and outlet volumes, and that refusal"

pub record Ran : Type 0 where
  pub number : ℕ
  pub place : ℕ
  pub basin : Basin
  pub count : ℕ
  pub report : Report

-- what an answer stands for, with the basin as it then is: number and place are 0 where no step was refused
abbrev pub ran_of : Basin → ℕ → Report → Option Refused → Ran
ran_of b count report None = record { number = 0; place = 0; basin = b; count = count; report = report }
ran_of b count report (Some r) = record { number = number_of r.why; place = r.place; basin = b; count = count; report = report }

abbrev pub as_ran : Basin → Week → Ran
as_ran b w = ran_of b w.count w.report w.refusal

-- summed reports; the content is the later one's
abbrev pub joined : Report → Report → Report
joined sums r =
    record {
      rain = sums.rain + r.rain;
      evapotranspiration = sums.evapotranspiration + r.evapotranspiration;
      outlet = sums.outlet + r.outlet;
      content = r.content;
      estimated = sums.estimated + r.estimated;
    }

-- one more accepted step, and the refused one
abbrev pub one_more : Ran → Outcome → Ran
one_more w o = record { number = 0; place = 0; basin = o.basin; count = suc w.count; report = joined w.report o.report }

abbrev pub stopped : Ran → Outcome → Ran
stopped w o = record { number = o.number; place = o.place; basin = w.basin; count = w.count; report = w.report }

unfoldable pub after : Ran → Outcome → Ran
after w o = cond (eqb o.number 0) (one_more w o) (stopped w o)

-- "what these handed back last and reported together"
unfoldable pub together : Ran → List Outcome → Ran
together w [] = w
together w (o ∷ os) = together (after w o) os

-- "leaves the basin unchanged", "count and sums are then 0"; with number 0, a week that has taken no step yet
abbrev pub untaken : Basin → ℕ → Ran
untaken b number = record { number = number; place = 0; basin = b; count = 0; report = zeros }

-- "All of it equals taking the steps singly"
unfoldable pub week_taken : Basin → List Line → Ran
week_taken b lines = together (untaken b 0) (results b (up_to_refused b (week_calls b.n lines)))

-- "refused by 5 with place 0", "9 is judged first", "an empty one gets 9 too where a step would"
unfoldable pub week_call : Basin → List Line → Ran
week_call b lines = cond (basin_in b) (cond (fits b.n (length lines)) (week_taken b lines) (untaken b 5)) (untaken b 9)

-- ---- what is said of the answer w, beside this rule, of any basin, loaded or handed in by a host

pub record WeekJudged (b : Basin) (lines : List Line) (w : Ran) : Type 0 where
  -- "9 is judged first", for a list of any length
  pub nine_first : basin_in b ≡ false → w ≡ untaken b 9
  pub length_next : basin_in b ≡ true → fits b.n (length lines) ≡ false → w ≡ untaken b 5
  -- an empty list is accepted: nothing taken, nothing summed
  pub none : basin_in b ≡ true → lines ≡ [] → w ≡ untaken b 0
  -- no more can leave than was there and rained
  pub balance : content_of w.basin + (w.report.evapotranspiration + w.report.outlet) ≡ content_of b + w.report.rain
