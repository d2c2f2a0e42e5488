-- Demand 3: the water account of a whole list of steps and week calls.
use Rattle.std.specs.Prelude.{◌≡◌, ℕ, ◌+◌, ◌*◌, ◌≤◌, ◌<◌, true, false, cond, List, [], ◌∷◌, ◌++◌, map, ◌↔◌, length}
use Rattle.common.specs.Loops.{sum_of}
use Rattle.forcing.specs.declared.list.Line.{Line}
use Rattle.forcing.specs.List.{Forcing}
use Rattle.forcing.specs.List.{line_at, weather_of, reading, is_inside}
use Rattle.subbasin.specs.declared.record.SubBasin.{SubBasin}
use Rattle.subbasin.specs.Record.{snow_mark}
use Rattle.basin.specs.declared.state.Basin.{Basin}
use Rattle.basin.specs.declared.step.Report.{Report}
use Rattle.basin.specs.Step.{Outcome}
use Rattle.basin.specs.Week.{Ran}
use Rattle.basin.specs.State.{sub_at, content_of, Unchanged}
use Rattle.basin.specs.File.{Loaded, file_n, file_sub, file_basin}
use Rattle.basin.specs.Step.{taken, refused_step, step_call, Refused}
use Rattle.basin.specs.Calls.{Call, results, last_basin}
use Rattle.basin.specs.Week.{fits, week_calls, together, untaken, week_call}

-- An entry of the list: a call of the step, or of the week with its lines.
pub data Entry : Type 0 where
  step : Call → Entry
  week : List Line → Entry

-- ---- the single steps that a list stands for, of N and the lines alone

-- the calls inside the limits up to the first that is not, and that one
unfoldable pub up_to_outside : ℕ → List Call → List Call
up_to_outside n [] = []
up_to_outside n (c ∷ cs) = c ∷ cond (is_inside c.lines c.count n) (up_to_outside n cs) []

-- "a week call counts as the steps that it took in order, with the refused one, if any, at its end", "one refused for its length counts as none"
unfoldable pub steps_of : ℕ → Entry → List Call
steps_of n (step c) = c ∷ []
steps_of n (week lines) = cond (fits n (length lines)) (up_to_outside n (week_calls n lines)) []

unfoldable pub singles : ℕ → List Entry → List Call
singles n [] = []
singles n (e ∷ es) = steps_of n e ++ singles n es

-- ---- what the entries hand back

-- the basin, and the report: a week's "basin and sums stand for what these handed back last and reported together"
unfoldable pub handed : Basin → Entry → Basin
handed b (step c) = (step_call b c.lines c.count).basin
handed b (week lines) = (week_call b lines).basin

unfoldable pub tells : Basin → Entry → Report
tells b (step c) = (step_call b c.lines c.count).report
tells b (week lines) = (week_call b lines).report

-- each entry gets the basin that the one before it handed back; the basin last handed back is the load's for an empty list
unfoldable pub last_handed : Basin → List Entry → Basin
last_handed b [] = b
last_handed b (e ∷ es) = last_handed (handed b e) es

unfoldable pub reports : Basin → List Entry → List Report
reports b [] = []
reports b (e ∷ es) = tells b e ∷ reports (handed b e) es

-- the losses that they tell
unfoldable pub losses : List Report → ℕ
losses [] = 0
losses (r ∷ rs) = r.evapotranspiration + r.outlet + losses rs

-- ---- rain

-- Rain, of the file and the lists of lines alone: "area × the rain depth in µm of the sub-basin's line", "summed over sub-basins 1..N"
unfoldable pub rain_of_lines : List ℕ → List Line → ℕ
rain_of_lines f lines = sum_of (λ i. (file_sub f i).fixed.area * (weather_of (line_at lines i)).rain) (file_n f)

-- of the calls whose forcing is inside the limits
unfoldable pub rains : List ℕ → List Call → ℕ
rains f [] = 0
rains f (c ∷ cs) = cond (is_inside c.lines c.count (file_n f)) (rain_of_lines f c.lines) 0 + rains f cs

-- what the lines of a call say to a basin of n sub-basins
abbrev pub reading_of : ℕ → Call → Forcing
reading_of n c = reading c.lines c.count n

-- ---- document 01's rule, run beside

-- "a step with forcing outside the limits leaves that basin as it was, any other carries it on"
unfoldable pub rule_after : Basin → Call → Basin
rule_after b c = cond (is_inside c.lines c.count b.n) (taken b (reading_of b.n c)).basin b

-- One result beside the rule: accepted exactly when inside the limits; then it is the rule's basin and report, and otherwise the basin that
-- the step got, zeros, and the number and place that the lines give.
pub record Follows (rule got : Basin) (c : Call) (o : Outcome) : Type 0 where
  pub accepted : (o.number ≡ 0) ↔ (is_inside c.lines c.count rule.n ≡ true)
  pub as_ruled : is_inside c.lines c.count rule.n ≡ true → o ≡ taken rule (reading_of rule.n c)
  pub refused : is_inside c.lines c.count rule.n ≡ false → Refused got o
  pub told : is_inside c.lines c.count rule.n ≡ false → (o.number ≡ (reading_of rule.n c).number) × (o.place ≡ (reading_of rule.n c).place)

-- what the rule makes of single steps, and of a week as the steps that it stands for
unfoldable pub rule_call : Basin → Call → Outcome
rule_call b c =
    cond (is_inside c.lines c.count b.n) (taken b (reading_of b.n c))
    (refused_step b (reading_of b.n c).number (reading_of b.n c).place)

unfoldable pub rule_results : Basin → List Call → List Outcome
rule_results b [] = []
rule_results b (c ∷ cs) = rule_call b c ∷ rule_results (rule_after b c) cs

unfoldable pub rule_week : Basin → List Line → Ran
rule_week b lines = cond (fits b.n (length lines)) (together (untaken b 0) (rule_results b (steps_of b.n (week lines)))) (untaken b 5)

-- every entry of the list beside the rule
abbrev pub AllFollow : Basin → Basin → List Entry → Type 0
AllFollow rule got [] = Unit {0}
AllFollow rule got (step c ∷ es) = Follows rule got c (step_call got c.lines c.count) × AllFollow (rule_after rule c) (handed got (step c)) es
AllFollow rule got (week lines ∷ es) = (week_call got lines ≡ rule_week rule lines) × AllFollow (rule_week rule lines).basin (handed got (week lines)) es

-- ---- the account

-- each soil store of sub-basin i at most the file's capacity, and "SN stays within its mark"
pub record Capacities (file now : SubBasin) : Type 0 where
  pub wu_most : now.contents.wu ≤ file.fixed.um
  pub wl_most : now.contents.wl ≤ file.fixed.lm
  pub wd_most : now.contents.wd ≤ file.fixed.dm
  pub g_most : now.contents.g ≤ file.fixed.sm
  pub sn_most : now.contents.sn ≤ snow_mark

-- The account of a list of entries from the basin that a load of the file f handed back.
pub record Accounted (f : List ℕ) (loaded : Basin) (entries : List Entry) : Type 0 where
  pub balance : content_of (last_handed loaded entries) + losses (reports loaded entries) ≡ content_of (file_basin f) + rains f (singles (file_n f) entries)
  pub throughout : Unchanged (file_basin f) (last_handed loaded entries)
  pub capacities : (i : ℕ) → i < file_n f → Capacities (file_sub f i) (sub_at (last_handed loaded entries) i)
  pub follows : AllFollow (file_basin f) loaded entries

-- Demand 3, of a file and what its load handed back: "Start from any basin file that a load accepts and take any list of steps", which may
-- mix "week calls with single steps".
abbrev pub Demand3 : List ℕ → Loaded → Type 0
Demand3 f loaded = loaded.number ≡ 0 → (entries : List Entry) → Accounted f loaded.basin entries

-- The same of single steps alone.
abbrev pub EachFollows : Basin → Basin → List Call → List Outcome → Type 0
EachFollows rule got [] [] = Unit {0}
EachFollows rule got [] (o ∷ os) = ⊥
EachFollows rule got (c ∷ cs) [] = ⊥
EachFollows rule got (c ∷ cs) (o ∷ os) = Follows rule got c o × EachFollows (rule_after rule c) o.basin cs os

pub record StepsAccounted (f : List ℕ) (loaded : Basin) (calls : List Call) : Type 0 where
  pub balance : content_of (last_basin loaded calls) + losses (map (λ o. o.report) (results loaded calls)) ≡ content_of (file_basin f) + rains f calls
  pub throughout : Unchanged (file_basin f) (last_basin loaded calls)
  pub capacities : (i : ℕ) → i < file_n f → Capacities (file_sub f i) (sub_at (last_basin loaded calls) i)
  pub follows : EachFollows (file_basin f) loaded calls (results loaded calls)
