-- Case A of document 01: its file is accepted, and from demand 3 follow the lines that the document prints and the figures of the account. So
-- demand 3 is about something. Then the table of all proved cases. Assumes nothing.
use mathlib.Core.Path.{◌≡◌, refl, ap, ◌∙◌}
use mathlib.Core.List.{List, [], ◌∷◌, ◌++◌, map}
use Prim.Native.Nat.{ℕ, ◌+◌}
use native.Mathlib.Omega.{arith}
use lib.IntN.{pos}
use lib.ListN.{replicate}
use Rattle.common.specs.Limits.{first_out}
use Rattle.common.specs.Amounts.{sum}
use Rattle.common.specs.Loops.{run, filled, sum_of}
use Rattle.common.specs.Bytes.{word_at}
use Rattle.common.specs.Weather.{calm}
use Rattle.common.specs.Cases.{Row, Agree}
use Rattle.curve.specs.Cases.{curve_cases}
use Rattle.curve.proofs.Cases.{curve_cases_lem}
use Rattle.forcing.specs.List.{Forcing}
use Rattle.forcing.specs.List.{refusal, reading}
use Rattle.forcing.proofs.OnWords.{lines_on_words}
use Rattle.forcing.proofs.Cases.{sixteenth}
use Rattle.subbasin.specs.declared.record.SubBasin.{SubBasin}
use Rattle.subbasin.specs.Record.{blank_sub}
use Rattle.subbasin.specs.Content.{water}
use Rattle.subbasin.specs.Step.{stepped}
use Rattle.subbasin.specs.Cases.{case_a, step_cases}
use Rattle.subbasin.proofs.step.FastLaws.{fast_stepped, stepped_fast}
use Rattle.subbasin.proofs.Cases.{step_a, step_cases_lem}
use Rattle.basin.specs.declared.state.Basin.{Basin}
use Rattle.basin.specs.declared.step.Report.{Report}
use Rattle.basin.specs.Step.{Outcome}
use Rattle.basin.specs.Week.{Ran}
use Rattle.basin.specs.Reach.{blank_reach}
use Rattle.basin.specs.State.{content_of}
use Rattle.basin.specs.File.{file_n, file_sub, file_reach, file_basin, sub_words, reaches_words, load_words, load_length, load_counts, load_call}
use Rattle.basin.specs.Network.{send, flows, reaches_after}
use Rattle.basin.specs.Step.{sent_by, basin_after, rain_volume, loss_volume, outlet_volume, taken, step_call}
use Rattle.basin.specs.Calls.{Call, results}
use Rattle.basin.specs.Week.{fits, calls_of, week_calls, after, together}
use Rattle.basin.specs.Account.{Entry, step, week, up_to_outside, steps_of, singles, handed, tells, reports, losses, rain_of_lines, rains}
use Rattle.basin.specs.Account.{rule_results, rule_week, Accounted, StepsAccounted}
use Rattle.basin.specs.Cases.{file_a, call_1, call_2, call_3, calls_a, week_a, entries_a, depth_cases, outcome_cases, proved_cases, reported}
use Rattle.basin.specs.Cases.{weeks, Says, SaysMixed, Always, Gives, figures_a}
use Rattle.basin.proofs.Account.{steps_account}
use Rattle.basin.proofs.CaseSteps.{inside_known, outside_known, ruled_accepted, ruled_refused, accepted_next, refused_next, step_next, week_next}
use Rattle.basin.proofs.CaseSteps.{week_is, held_to, said_mixed, said, of_load}

-- the sub-basin after the first step, and after the third
abbrev after_1 : SubBasin
after_1 =
    record {
      fixed = case_a.fixed;
      contents = record { wu = 20000; wl = 60000; wd = 25030; g = 4862; vi = 1215; vg = 1215; sn = 0 };
      line = case_a.line;
      channel = 0;
    }

abbrev after_3 : SubBasin
after_3 =
    record {
      fixed = case_a.fixed;
      contents = record { wu = 10000; wl = 60000; wd = 25030; g = 2432; vi = 1215; vg = 1215; sn = 0 };
      line = case_a.line;
      channel = 0;
    }

-- the basin with this sub-basin
abbrev basin_of : SubBasin → Basin
basin_of s = record { n = 1; m = 0; subs = s ∷ replicate 31 blank_sub; reaches = replicate 31 blank_reach }

load_a : (load_call file_a).number ≡ 0
unfolding load_call load_counts load_length load_words first_out file_basin filled file_sub file_reach sub_words reaches_words word_at
load_a = refl

file_basin_a : file_basin file_a ≡ basin_of case_a
unfolding file_basin filled file_sub file_reach word_at
file_basin_a = refl

file_sub_a : file_sub file_a 0 ≡ case_a
unfolding file_sub filled word_at
file_sub_a = refl

file_n_a : file_n file_a ≡ 1
unfolding word_at
file_n_a = refl

-- ---- the three calls

abbrev forcing_1 : Forcing
forcing_1 = record { number = 0; place = 0; estimated = 0; weather = record { rain = 135000; pan = 0; temperature = pos 0 } ∷ replicate 31 calm }

abbrev forcing_3 : Forcing
forcing_3 = record { number = 0; place = 0; estimated = 0; weather = record { rain = 0; pan = 10000; temperature = pos 0 } ∷ replicate 31 calm }

reading_1 : reading call_1.lines 1 1 ≡ forcing_1
unfolding lines_on_words
reading_1 = refl

reading_2 : reading call_2.lines 1 1 ≡ refusal 6 1
unfolding lines_on_words
reading_2 = refl

reading_3 : reading call_3.lines 1 1 ≡ forcing_3
unfolding lines_on_words
reading_3 = refl

-- rain falls short of EP: 10,000 come out of the upper layer, and only the slow stores flow
step_3 : stepped after_1 (record { rain = 0; pan = 10000; temperature = pos 0 })
    ≡ record {
      number = 0;
      place = 0;
      after = after_3;
      eu = 10000;
      el = 0;
      ed = 0;
      rb = 0;
      r = 0;
      rs = 0;
      ri = 1215;
      rg = 1215;
      q = 2430;
    }
unfolding fast_stepped
step_3 = stepped_fast _ _

-- ---- what the calls hand back: `1 ok 135000 0 22678 112322 0`, `2 refused 6 1`, `3 ok 0 10000 2430 99892 0`

abbrev outcome_1 : Outcome
outcome_1 = record { number = 0; place = 0; basin = basin_of after_1; report = reported 135000 0 22678 112322 0 }

abbrev outcome_2 : Outcome
outcome_2 = record { number = 6; place = 1; basin = basin_of after_1; report = reported 0 0 0 0 0 }

abbrev outcome_3 : Outcome
outcome_3 = record { number = 0; place = 0; basin = basin_of after_3; report = reported 0 10000 2430 99892 0 }

taken_1 : taken (basin_of case_a) forcing_1 ≡ outcome_1
unfolding taken basin_after sent_by rain_volume loss_volume outlet_volume content_of run filled sum_of send flows reaches_after water sum
taken_1 = rw step_a

taken_3 : taken (basin_of after_1) forcing_3 ≡ outcome_3
unfolding taken basin_after sent_by rain_volume loss_volume outlet_volume content_of run filled sum_of send flows reaches_after water sum
taken_3 = rw step_3

results_a : (b : Basin) → StepsAccounted file_a b calls_a → results b calls_a ≡ outcome_1 ∷ outcome_2 ∷ outcome_3 ∷ []
unfolding results
results_a b h =
    let o1 : Outcome = step_call b call_1.lines 1 in
    let o2 : Outcome = step_call o1.basin call_2.lines 1 in
    let o3 : Outcome = step_call o2.basin call_3.lines 1 in
    let first =
    accepted_next (basin_of case_a) b call_1 (call_2 ∷ call_3 ∷ []) o1 (o2 ∷ o3 ∷ []) (rw (← file_basin_a) h.follows) forcing_1 reading_1 refl outcome_1
    taken_1
    in
    let second = refused_next (basin_of after_1) (basin_of after_1) call_2 (call_3 ∷ []) o2 (o3 ∷ []) first.1 6 1 reading_2 refl in
    let third = accepted_next (basin_of after_1) (basin_of after_1) call_3 [] o3 [] second.1 forcing_3 reading_3 refl outcome_3 taken_3 in
    ap (λ (o : Outcome). o ∷ o2 ∷ o3 ∷ []) first.0
    ∙ ap (λ (o : Outcome). outcome_1 ∷ o ∷ o3 ∷ []) second.0
    ∙ ap (λ (o : Outcome). outcome_1 ∷ outcome_2 ∷ o ∷ []) third.0

-- ---- the week, which the missing line stops, and the single step after it

steps_a : steps_of 1 (week week_a) ≡ call_1 ∷ call_2 ∷ []
unfolding steps_of fits week_calls calls_of up_to_outside filled
steps_a = rw (inside_known 1 call_1 forcing_1 reading_1 refl, outside_known 1 call_2 6 1 reading_2 refl)

singles_a : singles (file_n file_a) entries_a ≡ calls_a
unfolding singles steps_of
singles_a = rw file_n_a (ap (λ (cs : List Call). cs ++ (call_3 ∷ [])) steps_a)

abbrev ran_a : Ran
ran_a = record { number = 6; place = 1; basin = basin_of after_1; count = 1; report = reported 135000 0 22678 112322 0 }

ruled_a : rule_week (basin_of case_a) week_a ≡ ran_a
unfolding fits together after rule_results
ruled_a =
    week_is (basin_of case_a) week_a (call_1 ∷ call_2 ∷ []) (outcome_1 ∷ outcome_2 ∷ []) refl steps_a
    (ruled_accepted (basin_of case_a) call_1 forcing_1 reading_1 refl outcome_1 taken_1 (call_2 ∷ []) (outcome_2 ∷ [])
    (ruled_refused (basin_of after_1) call_2 6 1 reading_2 refl [] [] refl))

told_a : (b : Basin) → Accounted file_a b entries_a → (reports b entries_a ≡ figures_a.told) × (weeks b entries_a ≡ ran_a ∷ [])
unfolding reports tells handed weeks
told_a b h =
    let first = week_next (basin_of case_a) b week_a (step call_3 ∷ []) (rw (← file_basin_a) h.follows) ran_a ruled_a in
    let second = step_next (basin_of after_1) (basin_of after_1) call_3 [] first.1 forcing_3 reading_3 refl outcome_3 taken_3 in (
      ap (λ (w : Ran). w.report ∷ (step_call w.basin call_3.lines 1).report ∷ []) first.0
          ∙ ap (λ (o : Outcome). ran_a.report ∷ o.report ∷ []) second.0,
      ap (λ (w : Ran). w ∷ []) first.0,
    )

-- ---- the figures

started_a : content_of (file_basin file_a) ≡ 0
unfolding content_of sum_of water sum
started_a = rw file_basin_a

rained_a : rains file_a calls_a ≡ 135000
unfolding rains rain_of_lines lines_on_words file_sub word_at
rained_a = refl

-- 99,892 + 35,108 = 0 + 135,000
figures_said : (b : Basin) → StepsAccounted file_a b calls_a → Says file_a calls_a figures_a b
unfolding losses
figures_said b h =
    said file_a calls_a b h figures_a (outcome_1 ∷ outcome_2 ∷ outcome_3 ∷ []) (results_a b h) refl started_a rained_a refl refl refl refl

mixed_said : (b : Basin) → Accounted file_a b entries_a → SaysMixed file_a entries_a figures_a b
unfolding losses
mixed_said b h =
    said_mixed file_a entries_a b h figures_a calls_a (ran_a ∷ []) refl started_a singles_a rained_a (told_a b h).0 refl (told_a b h).1 refl

always_a : (b : Basin) (entries : List Entry) → Accounted file_a b entries → Always file_a figures_a b entries
always_a b entries h =
    record {
      balance_is = h.balance ∙ ap (λ (k : ℕ). k + rains file_a (singles (file_n file_a) entries)) started_a;
      within_bounds = (held_to file_a entries b h 0 (omega (arith, file_n_a)) case_a file_sub_a (rw file_basin_a), tt);
    }

pub account_a : Gives file_a calls_a entries_a figures_a
account_a =
    of_load file_a calls_a entries_a figures_a load_a
    (λ loaded d z.
    let b = loaded.basin in
    (figures_said b (steps_account file_a b calls_a (d z (map step calls_a))), (mixed_said b (d z entries_a), λ entries. always_a b entries (d z entries))))

-- ---- the table of document 01's proved cases

agree_append : (xs ys : List Row) → Agree xs → Agree ys → Agree (xs ++ ys)
agree_append [] ys h k = k
agree_append (x ∷ xs) ys h k = (h.0, agree_append xs ys h.1 k)

first_reported : (step_call (load_call file_a).basin call_1.lines 1).report ≡ reported 135000 0 22678 112322 0
unfolding results
first_reported = ap first account_a.says.reports_are
  where
    first : List Report → Report
    first [] = reported 0 0 0 0 0
    first (r ∷ rs) = r

outcome_cases_lem : Agree outcome_cases
outcome_cases_lem = rw first_reported (refl, (refl, (refl, (refl, (refl, tt)))))

pub proved_cases_lem : Agree proved_cases
proved_cases_lem =
    agree_append (curve_cases ++ depth_cases ++ step_cases) outcome_cases
    (agree_append (curve_cases ++ depth_cases) step_cases (agree_append curve_cases depth_cases curve_cases_lem (sixteenth, tt)) step_cases_lem) outcome_cases_lem
