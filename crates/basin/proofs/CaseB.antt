-- Case B: two sub-basins, the first above a reach, both with snow, and no two shares alike. From demand 3 follow its figures, which the second model gave. Assumes
-- nothing.
use mathlib.Core.Path.{◌≡◌, refl, ap, ◌∙◌}
use mathlib.Core.List.{List, [], ◌∷◌, map}
use Prim.Native.Nat.{ℕ, ◌+◌}
use native.Mathlib.Omega.{arith}
use lib.IntN.{ℤ, pos, neg_ℤ}
use lib.ListN.{replicate}
use Rattle.common.specs.declared.weather.Weather.{Weather}
use Rattle.common.specs.Limits.{first_out}
use Rattle.common.specs.Amounts.{sum}
use Rattle.common.specs.Loops.{run, filled, sum_of}
use Rattle.common.specs.Bytes.{word_at}
use Rattle.common.specs.Weather.{calm}
use Rattle.curve.specs.Store.{outflow, content}
use Rattle.forcing.specs.List.{Forcing}
use Rattle.forcing.specs.List.{refusal, reading}
use Rattle.forcing.proofs.OnWords.{lines_on_words}
use Rattle.subbasin.specs.declared.record.Contents.{Contents}
use Rattle.subbasin.specs.declared.record.SubBasin.{SubBasin}
use Rattle.subbasin.specs.Step.{Stepped}
use Rattle.subbasin.specs.Record.{of_words, blank_sub}
use Rattle.subbasin.specs.Content.{water}
use Rattle.subbasin.specs.Step.{stepped}
use Rattle.subbasin.proofs.step.FastLaws.{fast_stepped, stepped_fast}
use Rattle.basin.specs.declared.state.Basin.{Basin}
use Rattle.basin.specs.Step.{Outcome}
use Rattle.basin.specs.Week.{Ran}
use Rattle.basin.specs.Reach.{blank_reach}
use Rattle.basin.specs.State.{content_of}
use Rattle.basin.specs.File.{file_n, file_sub, file_reach, file_basin, sub_words, reaches_words, load_words, load_length, load_counts, load_call}
use Rattle.basin.specs.Network.{send, flows, reaches_after}
use Rattle.basin.specs.Step.{sent_by, basin_after, rain_volume, loss_volume, outlet_volume, taken, step_call}
use Rattle.basin.specs.Calls.{results}
use Rattle.basin.specs.Week.{fits, calls_of, week_calls, after, together, week_call}
use Rattle.basin.specs.Account.{Entry, step, week, up_to_outside, steps_of, singles, handed, tells, reports, losses, rain_of_lines, rains}
use Rattle.basin.specs.Account.{rule_results, rule_week, Accounted, StepsAccounted}
use Rattle.basin.specs.Cases.{words_b1, words_b2, file_b, call_b1, call_b2, call_b3, call_b4, calls_b, week_b1, week_b2, week_b3, entries_b}
use Rattle.basin.specs.Cases.{reported, weeks, Says, SaysMixed, Always, Gives, figures_b}
use Rattle.basin.proofs.Account.{steps_account}
use Rattle.basin.proofs.CaseSteps.{inside_known, outside_known, ruled_accepted, ruled_refused, accepted_next, refused_next, week_next}
use Rattle.basin.proofs.CaseSteps.{week_is, week_outside, held_to, said_mixed, said, of_load}

-- ---- the basin, and its states after the accepted calls

abbrev sub_1 : SubBasin
sub_1 = of_words words_b1

abbrev sub_2 : SubBasin
sub_2 = of_words words_b2

-- with other contents, waiting amounts and channel
abbrev with_contents : SubBasin → Contents → List ℕ → ℕ → SubBasin
with_contents s held waiting channel =
    record { fixed = s.fixed; contents = held; line = record { lag = s.line.lag; waiting = waiting }; channel = channel }

abbrev basin_of : SubBasin → SubBasin → ℕ → Basin
basin_of s t held =
    record {
      n = 2;
      m = 1;
      subs = s ∷ t ∷ replicate 30 blank_sub;
      reaches = record { c0 = 14418; c1 = 32768; next = 0; content = held } ∷ replicate 30 blank_reach;
    }

abbrev sub_1_a : SubBasin
sub_1_a = with_contents sub_1 (record { wu = 0; wl = 0; wd = 28001; g = 1438; vi = 1004; vg = 3530; sn = 27000 }) (7896 ∷ replicate 14 0) 0

abbrev sub_2_a : SubBasin
sub_2_a = with_contents sub_2 (record { wu = 15000; wl = 70000; wd = 45769; g = 6765; vi = 2046; vg = 5465; sn = 0 }) (91068 ∷ replicate 14 0) 0

abbrev sub_1_c : SubBasin
sub_1_c = with_contents sub_1 (record { wu = 12000; wl = 80000; wd = 45000; g = 6878; vi = 2196; vg = 5172; sn = 2250 }) (309939 ∷ replicate 14 0) 3553

abbrev sub_2_c : SubBasin
sub_2_c = with_contents sub_2 (record { wu = 0; wl = 49001; wd = 45769; g = 3384; vi = 2295; vg = 7597; sn = 1500 }) (3000 ∷ 91068 ∷ replicate 13 0) 0

abbrev sub_1_d : SubBasin
sub_1_d = with_contents sub_1 (record { wu = 12000; wl = 80000; wd = 45000; g = 4059; vi = 2178; vg = 5894; sn = 0 }) (16555 ∷ replicate 14 0) 141070

abbrev sub_2_d : SubBasin
sub_2_d = with_contents sub_2 (record { wu = 15000; wl = 50781; wd = 45769; g = 3951; vi = 2609; vg = 10051; sn = 0 }) (18558 ∷ 3000 ∷ replicate 13 0) 27321

file_basin_b : file_basin file_b ≡ basin_of sub_1 sub_2 0
unfolding file_basin filled file_sub file_reach word_at
file_basin_b = refl

file_sub_1 : file_sub file_b 0 ≡ sub_1
unfolding file_sub filled word_at
file_sub_1 = refl

file_sub_2 : file_sub file_b 1 ≡ sub_2
unfolding file_sub filled word_at
file_sub_2 = refl

file_n_b : file_n file_b ≡ 2
unfolding word_at
file_n_b = refl

load_b : (load_call file_b).number ≡ 0
unfolding load_call load_counts load_length load_words first_out file_basin filled file_sub file_reach sub_words reaches_words word_at
load_b = refl

-- ---- the four calls

abbrev fallen : ℕ → ℕ → ℤ → Weather
fallen rain pan temperature = record { rain = rain; pan = pan; temperature = temperature }

abbrev forcing_of : ℕ → Weather → Weather → Forcing
forcing_of estimated w v = record { number = 0; place = 0; estimated = estimated; weather = w ∷ v ∷ replicate 30 calm }

abbrev forcing_b1 : Forcing
forcing_b1 = forcing_of 0 (fallen 1000 30000 (neg_ℤ (pos 3500))) (fallen 120500 3000 (pos 2063))

reading_b1 : reading call_b1.lines 2 2 ≡ forcing_b1
unfolding lines_on_words
reading_b1 = refl

reading_b2 : reading call_b2.lines 2 2 ≡ refusal 6 2
unfolding lines_on_words
reading_b2 = refl

abbrev forcing_b3 : Forcing
forcing_b3 = forcing_of 1 (fallen 140000 4000 (pos 6250)) (fallen 1500 40000 (neg_ℤ (pos 62)))

reading_b3 : reading call_b3.lines 2 2 ≡ forcing_b3
unfolding lines_on_words
reading_b3 = refl

abbrev forcing_b4 : Forcing
forcing_b4 = forcing_of 1 (fallen 0 2500 (pos 11500)) (fallen 25250 500 (pos 3125))

reading_b4 : reading call_b4.lines 2 2 ≡ forcing_b4
unfolding lines_on_words
reading_b4 = refl

-- ---- the sub-basins' steps

abbrev after_step : SubBasin → ℕ → ℕ → ℕ → ℕ → ℕ → ℕ → ℕ → ℕ → ℕ → Stepped
after_step s eu el ed rb r rs ri rg q =
    record { number = 0; place = 0; after = s; eu = eu; el = el; ed = ed; rb = rb; r = r; rs = rs; ri = ri; rg = rg; q = q }

step_1_a : stepped sub_1 (fallen 1000 30000 (neg_ℤ (pos 3500))) ≡ after_step sub_1_a 9000 1000 1999 0 0 0 625 437 0
unfolding fast_stepped
step_1_a = stepped_fast _ _

step_2_a : stepped sub_2 (fallen 120500 3000 (pos 2063)) ≡ after_step sub_2_a 2699 0 0 5890 36142 23615 2028 4734 0
unfolding fast_stepped
step_2_a = stepped_fast _ _

step_1_c : stepped sub_1_a (fallen 140000 4000 (pos 6250)) ≡ after_step sub_1_c 3200 0 0 16155 36396 25875 2989 2092 4343
unfolding fast_stepped
step_1_c = stepped_fast _ _

step_2_c : stepped sub_2_a (fallen 1500 40000 (neg_ℤ (pos 62))) ≡ after_step sub_2_c 15000 20999 0 0 0 0 1014 2367 0
unfolding fast_stepped
step_2_c = stepped_fast _ _

step_1_d : stepped sub_1_c (fallen 0 2500 (pos 11500)) ≡ after_step sub_1_d 2000 0 0 25 225 45 1764 1235 172422
unfolding fast_stepped
step_1_d = stepped_fast _ _

step_2_d : stepped sub_2_c (fallen 25250 500 (pos 3125)) ≡ after_step sub_2_d 449 0 0 1315 8206 3690 1184 2765 63747
unfolding fast_stepped
step_2_d = stepped_fast _ _

-- ---- what the calls hand back

abbrev outcome_1 : Outcome
outcome_1 = record { number = 0; place = 0; basin = basin_of sub_1_a sub_2_a 0; report = reported 368500 92090 0 960910 0 }

abbrev outcome_2 : Outcome
outcome_2 = record { number = 6; place = 2; basin = basin_of sub_1_a sub_2_a 0; report = reported 0 0 0 0 0 }

abbrev outcome_3 : Outcome
outcome_3 = record { number = 0; place = 0; basin = basin_of sub_1_c sub_2_c 3388; report = reported 984500 130397 955 1814058 1 }

abbrev outcome_4 : Outcome
outcome_4 = record { number = 0; place = 0; basin = basin_of sub_1_d sub_2_d 135438; report = reported 75750 15347 104119 1770342 1 }

taken_1 : taken (basin_of sub_1 sub_2 0) forcing_b1 ≡ outcome_1
unfolding taken basin_after sent_by rain_volume loss_volume outlet_volume content_of run filled sum_of send flows reaches_after water sum outflow content
taken_1 = rw (step_1_a, step_2_a)

taken_3 : taken (basin_of sub_1_a sub_2_a 0) forcing_b3 ≡ outcome_3
unfolding taken basin_after sent_by rain_volume loss_volume outlet_volume content_of run filled sum_of send flows reaches_after water sum outflow content
taken_3 = rw (step_1_c, step_2_c)

taken_4 : taken (basin_of sub_1_c sub_2_c 3388) forcing_b4 ≡ outcome_4
unfolding taken basin_after sent_by rain_volume loss_volume outlet_volume content_of run filled sum_of send flows reaches_after water sum outflow content
taken_4 = rw (step_1_d, step_2_d)

results_b : (b : Basin) → StepsAccounted file_b b calls_b → results b calls_b ≡ outcome_1 ∷ outcome_2 ∷ outcome_3 ∷ outcome_4 ∷ []
unfolding results
results_b b h =
    let o1 : Outcome = step_call b call_b1.lines 2 in
    let o2 : Outcome = step_call o1.basin call_b2.lines 2 in
    let o3 : Outcome = step_call o2.basin call_b3.lines 2 in
    let o4 : Outcome = step_call o3.basin call_b4.lines 2 in
    let b1 = outcome_1.basin in
    let first =
    accepted_next (basin_of sub_1 sub_2 0) b call_b1 (call_b2 ∷ call_b3 ∷ call_b4 ∷ []) o1 (o2 ∷ o3 ∷ o4 ∷ []) (rw (← file_basin_b) h.follows) forcing_b1
    reading_b1 refl outcome_1 taken_1
    in
    let second = refused_next b1 b1 call_b2 (call_b3 ∷ call_b4 ∷ []) o2 (o3 ∷ o4 ∷ []) first.1 6 2 reading_b2 refl in
    let third = accepted_next b1 b1 call_b3 (call_b4 ∷ []) o3 (o4 ∷ []) second.1 forcing_b3 reading_b3 refl outcome_3 taken_3 in
    let fourth = accepted_next outcome_3.basin outcome_3.basin call_b4 [] o4 [] third.1 forcing_b4 reading_b4 refl outcome_4 taken_4 in
    ap (λ (o : Outcome). o ∷ o2 ∷ o3 ∷ o4 ∷ []) first.0
    ∙ ap (λ (o : Outcome). outcome_1 ∷ o ∷ o3 ∷ o4 ∷ []) second.0
    ∙ ap (λ (o : Outcome). outcome_1 ∷ outcome_2 ∷ o ∷ o4 ∷ []) third.0
    ∙ ap (λ (o : Outcome). outcome_1 ∷ outcome_2 ∷ outcome_3 ∷ o ∷ []) fourth.0

-- ---- the same as weeks: one that the missing line stops, one of three lines, and one that is taken whole

steps_1 : steps_of 2 (week week_b1) ≡ call_b1 ∷ call_b2 ∷ []
unfolding steps_of fits week_calls calls_of up_to_outside filled
steps_1 = rw (inside_known 2 call_b1 forcing_b1 reading_b1 refl, outside_known 2 call_b2 6 2 reading_b2 refl)

steps_2 : steps_of 2 (week week_b2) ≡ []
unfolding steps_of fits
steps_2 = refl

steps_3 : steps_of 2 (week week_b3) ≡ call_b3 ∷ call_b4 ∷ []
unfolding steps_of fits week_calls calls_of up_to_outside filled
steps_3 = rw (inside_known 2 call_b3 forcing_b3 reading_b3 refl, inside_known 2 call_b4 forcing_b4 reading_b4 refl)

singles_b : singles (file_n file_b) entries_b ≡ calls_b
unfolding singles
singles_b = rw (file_n_b, steps_1, steps_2, steps_3)

abbrev ran_1 : Ran
ran_1 = record { number = 6; place = 2; basin = outcome_1.basin; count = 1; report = reported 368500 92090 0 960910 0 }

abbrev ran_2 : Ran
ran_2 = record { number = 5; place = 0; basin = outcome_1.basin; count = 0; report = reported 0 0 0 0 0 }

abbrev ran_3 : Ran
ran_3 = record { number = 0; place = 0; basin = outcome_4.basin; count = 2; report = reported 1060250 145744 105074 1770342 2 }

ruled_1 : rule_week (basin_of sub_1 sub_2 0) week_b1 ≡ ran_1
unfolding fits together after rule_results
ruled_1 =
    week_is (basin_of sub_1 sub_2 0) week_b1 (call_b1 ∷ call_b2 ∷ []) (outcome_1 ∷ outcome_2 ∷ []) refl steps_1
    (ruled_accepted (basin_of sub_1 sub_2 0) call_b1 forcing_b1 reading_b1 refl outcome_1 taken_1 (call_b2 ∷ []) (outcome_2 ∷ [])
    (ruled_refused outcome_1.basin call_b2 6 2 reading_b2 refl [] [] refl))

ruled_2 : rule_week outcome_1.basin week_b2 ≡ ran_2
unfolding fits
ruled_2 = week_outside outcome_1.basin week_b2 refl

ruled_3 : rule_week outcome_1.basin week_b3 ≡ ran_3
unfolding fits together after rule_results
ruled_3 =
    week_is outcome_1.basin week_b3 (call_b3 ∷ call_b4 ∷ []) (outcome_3 ∷ outcome_4 ∷ []) refl steps_3
    (ruled_accepted outcome_1.basin call_b3 forcing_b3 reading_b3 refl outcome_3 taken_3 (call_b4 ∷ []) (outcome_4 ∷ [])
    (ruled_accepted outcome_3.basin call_b4 forcing_b4 reading_b4 refl outcome_4 taken_4 [] [] refl))

weeks_b : (b : Basin) → Accounted file_b b entries_b → weeks b entries_b ≡ ran_1 ∷ ran_2 ∷ ran_3 ∷ []
unfolding handed weeks
weeks_b b h =
    let b1 = outcome_1.basin in
    let first = week_next (basin_of sub_1 sub_2 0) b week_b1 (week week_b2 ∷ week week_b3 ∷ []) (rw (← file_basin_b) h.follows) ran_1 ruled_1 in
    let second = week_next b1 b1 week_b2 (week week_b3 ∷ []) first.1 ran_2 ruled_2 in
    let third = week_next b1 b1 week_b3 [] second.1 ran_3 ruled_3 in
    ap (λ (w : Ran). w ∷ week_call w.basin week_b2 ∷ week_call (week_call w.basin week_b2).basin week_b3 ∷ []) first.0
    ∙ ap (λ (w : Ran). ran_1 ∷ w ∷ week_call w.basin week_b3 ∷ []) second.0
    ∙ ap (λ (w : Ran). ran_1 ∷ ran_2 ∷ w ∷ []) third.0

-- each entry is a week, and tells its report
told_b : (b : Basin) → Accounted file_b b entries_b → reports b entries_b ≡ figures_b.told
unfolding reports tells handed weeks
told_b b h = ap (map (λ (w : Ran). w.report)) (weeks_b b h)

-- ---- the figures

started_b : content_of (file_basin file_b) ≡ 684500
unfolding content_of sum_of water sum
started_b = rw file_basin_b

rained_b : rains file_b calls_b ≡ 1428750
unfolding rains rain_of_lines lines_on_words file_sub word_at
rained_b = refl

-- 1,770,342 + 342,908 = 684,500 + 1,428,750
figures_said : (b : Basin) → StepsAccounted file_b b calls_b → Says file_b calls_b figures_b b
unfolding losses
figures_said b h =
    said file_b calls_b b h figures_b (outcome_1 ∷ outcome_2 ∷ outcome_3 ∷ outcome_4 ∷ []) (results_b b h) refl started_b rained_b refl refl refl refl

mixed_said : (b : Basin) → Accounted file_b b entries_b → SaysMixed file_b entries_b figures_b b
unfolding losses
mixed_said b h =
    said_mixed file_b entries_b b h figures_b calls_b (ran_1 ∷ ran_2 ∷ ran_3 ∷ []) refl started_b singles_b rained_b (told_b b h) refl (weeks_b b h) refl

always_b : (b : Basin) (entries : List Entry) → Accounted file_b b entries → Always file_b figures_b b entries
always_b b entries h =
    record {
      balance_is = h.balance ∙ ap (λ (k : ℕ). k + rains file_b (singles (file_n file_b) entries)) started_b;
      within_bounds = (
        held_to file_b entries b h 0 (omega (arith, file_n_b)) sub_1 file_sub_1 (rw file_basin_b),
        (held_to file_b entries b h 1 (omega (arith, file_n_b)) sub_2 file_sub_2 (rw file_basin_b), tt),
      );
    }

pub account_b : Gives file_b calls_b entries_b figures_b
account_b =
    of_load file_b calls_b entries_b figures_b load_b
    (λ loaded d z.
    let b = loaded.basin in
    (figures_said b (steps_account file_b b calls_b (d z (map step calls_b))), (mixed_said b (d z entries_b), λ entries. always_b b entries (d z entries))))
