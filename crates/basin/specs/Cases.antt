-- Document 01, "What the program prints" and "Proved cases": case A's file and calls, all proved cases as one table, and what demand 3
-- says of case A and of a second case, in figures. Those of a step are the second model's, by document 02, Nos. 3, 6 and 8.
use Rattle.std.specs.Prelude.{◌≡◌, List, [], ◌∷◌, ◌++◌, map, ℕ, suc, ◌+◌, ◌≤◌, ◌^◌, replicate}
use Rattle.std.specs.Float.{binary32}
use Rattle.std.specs.Float.Ieee.{of_bits}
use Rattle.common.specs.Bytes.{bytes_of}
use Rattle.common.specs.Cases.{Row, row}
use Rattle.curve.specs.Cases.{curve_cases}
use Rattle.forcing.specs.declared.list.Reading.TheVariants.{Measured, Estimated}
use Rattle.forcing.specs.declared.list.Line.{Line}
use Rattle.forcing.specs.Depth.{depth_of}
use Rattle.forcing.specs.List.{blank}
use Rattle.subbasin.specs.declared.record.SubBasin.{SubBasin}
use Rattle.subbasin.specs.Cases.{words_a, step_cases}
use Rattle.basin.specs.declared.state.Basin.{Basin}
use Rattle.basin.specs.declared.step.Report.{Report}
use Rattle.basin.specs.Step.{Outcome}
use Rattle.basin.specs.Week.{Ran}
use Rattle.basin.specs.State.{sub_at, content_of}
use Rattle.basin.specs.File.{Loaded, file_n, file_basin, load_call}
use Rattle.basin.specs.Step.{step_call}
use Rattle.basin.specs.Calls.{Call, results, last_basin}
use Rattle.basin.specs.Week.{week_call}
use Rattle.basin.specs.Account.{Entry, step, week, singles, handed, last_handed, reports, losses, rains, Demand3}

-- N 1, M 0, then the sub-basin's words, as bytes
abbrev pub file_a : List ℕ
file_a = bytes_of (1 ∷ 0 ∷ words_a)

-- a line by its numbers' bits, and the three calls of case A: rain 135 pan 0; missing; rain 0 pan 10; all at 0 °C; a list that asks for these three
-- as a week, and for the third again as a single step
abbrev pub measured : ℕ → ℕ → ℕ → Line
measured rain pan temperature =
    record { rain = Measured (of_bits binary32 rain); pan = of_bits binary32 pan; temperature = of_bits binary32 temperature }

abbrev pub estimated : ℕ → ℕ → ℕ → Line
estimated rain pan temperature =
    record { rain = Estimated (of_bits binary32 rain); pan = of_bits binary32 pan; temperature = of_bits binary32 temperature }

abbrev pub called : Line → Call
called l = record { lines = l ∷ replicate 31 blank; count = 1 }

abbrev pub line_1 : Line
line_1 = measured 0x4307_0000 0 0

abbrev pub line_3 : Line
line_3 = measured 0 0x4120_0000 0

abbrev pub call_1 : Call
call_1 = called line_1

abbrev pub call_2 : Call
call_2 = called blank

abbrev pub call_3 : Call
call_3 = called line_3

abbrev pub calls_a : List Call
calls_a = call_1 ∷ call_2 ∷ call_3 ∷ []

abbrev pub week_a : List Line
week_a = line_1 ∷ blank ∷ line_3 ∷ []

abbrev pub entries_a : List Entry
entries_a = week week_a ∷ step call_3 ∷ []

-- "0.0625 mm = 63"
abbrev pub depth_cases : List Row
depth_cases = row (depth_of (of_bits binary32 0x3d80_0000)) 63 ∷ []

-- "case A's first step", by slices: `1 ok 135000 0 22678 112322 0`
abbrev pub first_outcome : Outcome
first_outcome = step_call (load_call file_a).basin call_1.lines 1

abbrev pub outcome_cases : List Row
outcome_cases =
    row first_outcome.report.rain 135000
    ∷ row first_outcome.report.evapotranspiration 0
    ∷ row first_outcome.report.outlet 22678
    ∷ row first_outcome.report.content 112322
    ∷ row first_outcome.report.estimated 0
    ∷ []

-- all proved cases
abbrev pub proved_cases : List Row
proved_cases = curve_cases ++ depth_cases ++ step_cases ++ outcome_cases

-- ---- demand 3 in figures

-- a sub-basin's area and capacities
pub record Bounds : Type 0 where
  pub area : ℕ
  pub um : ℕ
  pub lm : ℕ
  pub dm : ℕ
  pub sm : ℕ

-- how a week ended
pub record Ending : Type 0 where
  pub number : ℕ
  pub place : ℕ
  pub count : ℕ

-- the file's water, the rain of the lines, what was reported as lost and the water at the end, in m³; each outcome of the single calls; what
-- the entries of the mixed list told, and how its weeks ended; each sub-basin's bounds
pub record Figures : Type 0 where
  pub started : ℕ
  pub rained : ℕ
  pub lost : ℕ
  pub left : ℕ
  pub numbers : List ℕ
  pub places : List ℕ
  pub reports : List Report
  pub told : List Report
  pub endings : List Ending
  pub bounds : List Bounds

-- a sub-basin has this area, its soil stores hold at most these capacities, and its snow is within its mark
pub record HeldTo (x : Bounds) (s : SubBasin) : Type 0 where
  pub area_is : s.fixed.area ≡ x.area
  pub wu_most : s.contents.wu ≤ x.um
  pub wl_most : s.contents.wl ≤ x.lm
  pub wd_most : s.contents.wd ≤ x.dm
  pub g_most : s.contents.g ≤ x.sm
  pub sn_most : s.contents.sn ≤ 2 ^ 40

-- and so of sub-basins i, i + 1, ..
abbrev pub Bounded : List Bounds → ℕ → Basin → Type 0
Bounded [] i b = Unit {0}
Bounded (x ∷ xs) i b = HeldTo x (sub_at b i) × Bounded xs (suc i) b

-- what is said of a file, a list of calls and the basin that the load handed back
pub record Says (f : List ℕ) (calls : List Call) (x : Figures) (loaded : Basin) : Type 0 where
  pub balanced : x.left + x.lost ≡ x.started + x.rained
  pub started_is : content_of (file_basin f) ≡ x.started
  pub rained_is : rains f calls ≡ x.rained
  pub lost_is : losses (map (λ o. o.report) (results loaded calls)) ≡ x.lost
  pub left_is : content_of (last_basin loaded calls) ≡ x.left
  pub numbers_are : map (λ o. o.number) (results loaded calls) ≡ x.numbers
  pub places_are : map (λ o. o.place) (results loaded calls) ≡ x.places
  pub reports_are : map (λ o. o.report) (results loaded calls) ≡ x.reports

-- what the weeks of a list answered
unfoldable pub weeks : Basin → List Entry → List Ran
weeks b [] = []
weeks b (step c ∷ es) = weeks (handed b (step c)) es
weeks b (week lines ∷ es) = week_call b lines ∷ weeks (handed b (week lines)) es

abbrev pub ends : ℕ → ℕ → ℕ → Ending
ends number place count = record { number = number; place = place; count = count }

-- of a list that mixes weeks with single steps, and stands for the same single calls
pub record SaysMixed (f : List ℕ) (entries : List Entry) (x : Figures) (loaded : Basin) : Type 0 where
  pub rained_is : rains f (singles (file_n f) entries) ≡ x.rained
  pub lost_is : losses (reports loaded entries) ≡ x.lost
  pub left_is : content_of (last_handed loaded entries) ≡ x.left
  pub told_are : reports loaded entries ≡ x.told
  pub endings_are : map (λ w. ends w.number w.place w.count) (weeks loaded entries) ≡ x.endings

-- and of every list of entries from that basin, the empty one too: the balance from the file's water, the areas and the capacities
pub record Always (f : List ℕ) (x : Figures) (loaded : Basin) (entries : List Entry) : Type 0 where
  pub balance_is : content_of (last_handed loaded entries) + losses (reports loaded entries) ≡ x.started + rains f (singles (file_n f) entries)
  pub within_bounds : Bounded x.bounds 0 (last_handed loaded entries)

-- The file is accepted, these figures are those of its load, and they follow from demand 3 alone, whatever answer it is said of: a statement
-- that says less doesn't give them.
pub record Gives (f : List ℕ) (calls : List Call) (entries : List Entry) (x : Figures) : Type 0 where
  pub accepted : (load_call f).number ≡ 0
  pub says : Says f calls x (load_call f).basin
  pub says_mixed : SaysMixed f entries x (load_call f).basin
  pub follows : (loaded : Loaded) → Demand3 f loaded → loaded.number ≡ 0
      → Says f calls x loaded.basin × (SaysMixed f entries x loaded.basin × ((others : List Entry) → Always f x loaded.basin others))

abbrev pub reported : ℕ → ℕ → ℕ → ℕ → ℕ → Report
reported rain evapotranspiration outlet content estimated =
    record { rain = rain; evapotranspiration = evapotranspiration; outlet = outlet; content = content; estimated = estimated }

-- case A
abbrev pub figures_a : Figures
figures_a =
    record {
      started = 0;
      rained = 135000;
      lost = 35108;
      left = 99892;
      numbers = 0 ∷ 6 ∷ 0 ∷ [];
      places = 0 ∷ 1 ∷ 0 ∷ [];
      reports = reported 135000 0 22678 112322 0 ∷ reported 0 0 0 0 0 ∷ reported 0 10000 2430 99892 0 ∷ [];
      told = reported 135000 0 22678 112322 0 ∷ reported 0 10000 2430 99892 0 ∷ [];
      endings = ends 6 1 1 ∷ [];
      bounds = record { area = 1; um = 20000; lm = 60000; dm = 40000; sm = 20000 } ∷ [];
    }

-- Case B: two sub-basins, the first above a reach, both with snow, and no two shares alike; its figures come from the second model.
abbrev pub words_b1 : List ℕ
words_b1 =
    7 ∷ 52429 ∷ 12000 ∷ 80000 ∷ 45000 ∷ 13107 ∷ 20 ∷ 6554 ∷ 18000 ∷ 26 ∷ 16384 ∷ 11469 ∷ 36045 ∷ 60293 ∷ 29491 ∷ 1 ∷ 1
    ∷ 9000 ∷ 1000 ∷ 30000 ∷ 2500 ∷ 1200 ∷ 3400 ∷ 4500 ∷ 750 ∷ 26000 ∷ []

abbrev pub words_b2 : List ℕ
words_b2 =
    3 ∷ 58982 ∷ 15000 ∷ 70000 ∷ 50000 ∷ 8520 ∷ 22 ∷ 3277 ∷ 25000 ∷ 28 ∷ 9830 ∷ 22938 ∷ 49152 ∷ 63570 ∷ 19661 ∷ 2 ∷ 0
    ∷ 5000 ∷ 30000 ∷ 20000 ∷ 1000 ∷ 700 ∷ 900 ∷ 3000 ∷ 1250 ∷ 0 ∷ []

abbrev pub file_b : List ℕ
file_b = bytes_of (2 ∷ 1 ∷ words_b1 ++ words_b2 ++ (14418 ∷ 32768 ∷ 0 ∷ []))

abbrev pub both_called : List Line → Call
both_called ls = record { lines = ls ++ replicate 30 blank; count = 2 }

-- rain 1 pan 30 at -3.5 °C and rain 120.5 pan 3 at 2.0625; rain 12 pan 1 at 0.5 and a missing one; estimated 140 pan 4 at 6.25 and rain 1.5
-- pan 40 at -0.0625; rain 0 pan 2.5 at 11.5 and estimated 25.25 pan 0.5 at 3.125
abbrev pub lines_b1 : List Line
lines_b1 = measured 0x3f80_0000 0x41f0_0000 0xc060_0000 ∷ measured 0x42f1_0000 0x4040_0000 0x4004_0000 ∷ []

abbrev pub lines_b2 : List Line
lines_b2 = measured 0x4140_0000 0x3f80_0000 0x3f00_0000 ∷ blank ∷ []

abbrev pub lines_b3 : List Line
lines_b3 = estimated 0x430c_0000 0x4080_0000 0x40c8_0000 ∷ measured 0x3fc0_0000 0x4220_0000 0xbd80_0000 ∷ []

abbrev pub lines_b4 : List Line
lines_b4 = measured 0 0x4020_0000 0x4138_0000 ∷ estimated 0x41ca_0000 0x3f00_0000 0x4048_0000 ∷ []

abbrev pub call_b1 : Call
call_b1 = both_called lines_b1

abbrev pub call_b2 : Call
call_b2 = both_called lines_b2

abbrev pub call_b3 : Call
call_b3 = both_called lines_b3

abbrev pub call_b4 : Call
call_b4 = both_called lines_b4

abbrev pub calls_b : List Call
calls_b = call_b1 ∷ call_b2 ∷ call_b3 ∷ call_b4 ∷ []

-- these as weeks, and between them three lines, which are no whole steps
abbrev pub week_b1 : List Line
week_b1 = lines_b1 ++ lines_b2

abbrev pub week_b2 : List Line
week_b2 = blank ∷ lines_b3

abbrev pub week_b3 : List Line
week_b3 = lines_b3 ++ lines_b4

abbrev pub entries_b : List Entry
entries_b = week week_b1 ∷ week week_b2 ∷ week week_b3 ∷ []

abbrev pub figures_b : Figures
figures_b =
    record {
      started = 684500;
      rained = 1428750;
      lost = 342908;
      left = 1770342;
      numbers = 0 ∷ 6 ∷ 0 ∷ 0 ∷ [];
      places = 0 ∷ 2 ∷ 0 ∷ 0 ∷ [];
      reports =
          reported 368500 92090 0 960910 0
          ∷ reported 0 0 0 0 0
          ∷ reported 984500 130397 955 1814058 1
          ∷ reported 75750 15347 104119 1770342 1
          ∷ [];
      told = reported 368500 92090 0 960910 0 ∷ reported 0 0 0 0 0 ∷ reported 1060250 145744 105074 1770342 2 ∷ [];
      endings = ends 6 2 1 ∷ ends 5 0 0 ∷ ends 0 0 2 ∷ [];
      bounds =
          record { area = 7; um = 12000; lm = 80000; dm = 45000; sm = 18000 }
          ∷ record { area = 3; um = 15000; lm = 70000; dm = 50000; sm = 25000 }
          ∷ [];
    }
