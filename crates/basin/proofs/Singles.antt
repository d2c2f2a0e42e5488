-- Single steps from a sound basin: their rain, one call, and a list of calls. Assumes nothing.
use mathlib.Core.Path.{◌≡◌, refl, sym, ap, ◌∙◌}
use mathlib.Core.Bool.{Bool, true, false, cond, true≢false}
use mathlib.Core.List.{List, [], ◌∷◌, ◌++◌, map}
use Prim.Native.Nat.{ℕ, ◌+◌, ◌*◌}
use native.Mathlib.Omega.{arith}
use lib.Dec.{eqb}
use lib.ListN.{get_or}
use borrow.Author.Tests.{eqb-false}
use Rattle.common.specs.Weather.{calm}
use Rattle.common.specs.declared.weather.Weather.{Weather}
use Rattle.common.specs.Loops.{sum_of}
use Rattle.common.proofs.Loops.{sum_same}
use Rattle.forcing.specs.declared.list.Line.{Line}
use Rattle.forcing.specs.List.{line_at, weather_of, reading, is_inside, Inside}
use Rattle.forcing.proofs.list.ReadLaws.{accepted_test, inside_accepted, test_inside, inside_test, weather_at}
use Rattle.subbasin.specs.declared.record.Parameters.{Parameters}
use Rattle.subbasin.specs.declared.record.SubBasin.{SubBasin}
use Rattle.basin.specs.declared.state.Basin.{Basin}
use Rattle.basin.specs.Step.{Outcome}
use Rattle.basin.specs.State.{sub_at, content_of, Unchanged}
use Rattle.basin.specs.File.{file_n, file_sub, file_basin, FileIn}
use Rattle.basin.specs.Step.{rain_volume, taken, refused_step, step_call}
use Rattle.basin.specs.Calls.{Call, results, last_basin}
use Rattle.basin.specs.Week.{up_to_refused}
use Rattle.basin.specs.Account.{up_to_outside, losses, rain_of_lines, rains, reading_of, rule_after, rule_call, rule_results, Follows}
use Rattle.basin.proofs.file.LoadedLaws.{file_sub_lem}
use Rattle.basin.proofs.step.JudgedLaws.{call_inside, call_outside}
use Rattle.basin.proofs.step.StepLaws.{reading_weathers, step_balance, after_unchanged}
use Rattle.basin.proofs.Sound.{SoundBasin, sound_allowed, sound_basin_in, sound_shaped, sound_after}

-- ---- rain

-- by a basin's own areas
unfoldable pub rain_over : Basin → List Line → ℕ
rain_over b lines = sum_of (λ i. (sub_at b i).fixed.area * (weather_of (line_at lines i)).rain) b.n

unfoldable pub rains_over : Basin → List Call → ℕ
rains_over b [] = 0
rains_over b (c ∷ cs) = cond (is_inside c.lines c.count b.n) (rain_over b c.lines) 0 + rains_over b cs

-- the reported rain is that of the lines' own numbers
rain_reported : (b : Basin) → SoundBasin b → (lines : List Line) (count : ℕ) → Inside lines count b.n
    → rain_volume b (reading lines count b.n).weather ≡ rain_over b lines
unfolding rain_volume rain_over
rain_reported b h lines count i =
    sum_same (λ k. (sub_at b k).fixed.area * (get_or (reading lines count b.n).weather k calm).rain) (λ k. (sub_at b k).fixed.area * (weather_of (line_at lines k)).rain) b.n
    (λ k l.
    ap (λ (w : Weather). (sub_at b k).fixed.area * w.rain) (weather_at lines count b.n h.n_most (inside_accepted lines count b.n i) k l))

-- rain goes by the areas, which no step changes
rain_same : (b b' : Basin) → Unchanged b b' → (lines : List Line) → rain_over b' lines ≡ rain_over b lines
unfolding rain_over
rain_same b b' u lines =
    rw u.n_same
    (sum_same (λ i. (sub_at b' i).fixed.area * (weather_of (line_at lines i)).rain) (λ i. (sub_at b i).fixed.area * (weather_of (line_at lines i)).rain) b.n
    (λ i l. ap (λ (p : Parameters). p.area * (weather_of (line_at lines i)).rain) (u.fixed_same i)))

rains_same : (b b' : Basin) → Unchanged b b' → (calls : List Call) → rains_over b' calls ≡ rains_over b calls
unfolding rains_over
rains_same b b' u [] = refl
rains_same b b' u (c ∷ cs) = rw (rain_same b b' u c.lines, rains_same b b' u cs, u.n_same)

-- the areas of the basin that the file's words give are the file's
rain_of_file : (f : List ℕ) → FileIn f → (lines : List Line) → rain_over (file_basin f) lines ≡ rain_of_lines f lines
unfolding rain_over rain_of_lines file_basin
rain_of_file f h lines =
    sum_same (λ i. (sub_at (file_basin f) i).fixed.area * (weather_of (line_at lines i)).rain) (λ i. (file_sub f i).fixed.area * (weather_of (line_at lines i)).rain) (file_n f)
    (λ i l. ap (λ (s : SubBasin). s.fixed.area * (weather_of (line_at lines i)).rain) (file_sub_lem f i l h.n_most))

pub rains_of_file : (f : List ℕ) → FileIn f → (calls : List Call) → rains_over (file_basin f) calls ≡ rains f calls
unfolding rains_over rains file_basin
rains_of_file f h [] = refl
rains_of_file f h (c ∷ cs) = rw (rain_of_file f h c.lines, rains_of_file f h cs)

-- ---- one call

-- its outcome, where the forcing is inside the limits and where it is not; 9 is never met
call_cases : (P : Outcome → Type 0) (b : Basin) → SoundBasin b → (lines : List Line) (count : ℕ)
    → (Inside lines count b.n → P (taken b (reading lines count b.n)))
    → (is_inside lines count b.n ≡ false → ((reading lines count b.n).number ≡ 0 → ⊥)
    → P (refused_step b (reading lines count b.n).number (reading lines count b.n).place))
    → P (step_call b lines count)
call_cases P b h lines count accepted refused = go (is_inside lines count b.n) refl
  where
    go : (t : Bool) → is_inside lines count b.n ≡ t → P (step_call b lines count)
    go true i = rw (call_inside b lines count (sound_allowed b h) i) (accepted (test_inside i))
    go false i =
        rw (call_outside b lines count (sound_allowed b h) i)
        (refused i (eqb-false (reading lines count b.n).number 0 (accepted_test lines count b.n ∙ i)))

-- what one call leaves: a basin that 9 allows and that has the same words, the balance, and the rule's own outcome, accepted where the forcing
-- is inside the limits
pub record OneCall (b : Basin) (c : Call) (o : Outcome) : Type 0 where
  pub follows : Follows b b c o
  pub kept : SoundBasin o.basin
  pub unchanged : Unchanged b o.basin
  pub balance : content_of o.basin + (o.report.evapotranspiration + o.report.outlet)
      ≡ content_of b + cond (is_inside c.lines c.count b.n) (rain_over b c.lines) 0
  pub ruled : rule_after b c ≡ o.basin
  pub whole : o ≡ rule_call b c
  pub told_by : eqb o.number 0 ≡ is_inside c.lines c.count b.n

unchanged_refl : (b : Basin) → Unchanged b b
unchanged_refl b =
    record {
      n_same = refl;
      m_same = refl;
      fixed_same = λ i. refl;
      words_same = λ j. record { c0_same = refl; c1_same = refl; next_same = refl };
    }

unchanged_trans : {a b c : Basin} → Unchanged a b → Unchanged b c → Unchanged a c
unchanged_trans u v =
    record {
      n_same = v.n_same ∙ u.n_same;
      m_same = v.m_same ∙ u.m_same;
      fixed_same = λ i. v.fixed_same i ∙ u.fixed_same i;
      words_same =
          λ j.
          record {
            c0_same = (v.words_same j).c0_same ∙ (u.words_same j).c0_same;
            c1_same = (v.words_same j).c1_same ∙ (u.words_same j).c1_same;
            next_same = (v.words_same j).next_same ∙ (u.words_same j).next_same;
          };
    }

one_accepted : (b : Basin) → SoundBasin b → (c : Call) → Inside c.lines c.count b.n → OneCall b c (taken b (reading_of b.n c))
unfolding rule_after rule_call taken
one_accepted b h c i =
    let ws = (reading c.lines c.count b.n).weather in
    let k = reading_weathers c.lines c.count b.n in
    record {
      follows =
          record {
            accepted = (λ e. inside_test i, λ t. refl);
            as_ruled = λ t. refl;
            refused = λ t. absurd (true≢false (sym (inside_test i) ∙ t));
            told = λ t. absurd (true≢false (sym (inside_test i) ∙ t));
          };
      kept = sound_after b ws h k;
      unchanged = after_unchanged b ws (sound_basin_in b h) (sound_shaped b h) k;
      balance =
          rw (inside_test i) (omega (arith, step_balance b ws (sound_basin_in b h) (sound_shaped b h) k, rain_reported b h c.lines c.count i));
      ruled = rw (inside_test i);
      whole = rw (inside_test i);
      told_by = sym (inside_test i);
    }

one_refused : (b : Basin) → SoundBasin b → (c : Call) → is_inside c.lines c.count b.n ≡ false → ((reading_of b.n c).number ≡ 0 → ⊥)
    → OneCall b c (refused_step b (reading_of b.n c).number (reading_of b.n c).place)
unfolding rule_after rule_call
one_refused b h c t n =
    record {
      follows =
          record {
            accepted = (λ e. absurd (n e), λ u. absurd (true≢false (sym u ∙ t)));
            as_ruled = λ u. absurd (true≢false (sym u ∙ t));
            refused = λ u. record { unchanged = refl; reports_zeros = refl };
            told = λ u. (refl, refl);
          };
      kept = h;
      unchanged = unchanged_refl b;
      balance = rw t (omega arith);
      ruled = rw t;
      whole = rw t;
      told_by = accepted_test c.lines c.count b.n;
    }

pub one_call : (b : Basin) → SoundBasin b → (c : Call) → OneCall b c (step_call b c.lines c.count)
one_call b h c = call_cases (OneCall b c) b h c.lines c.count (one_accepted b h c) (one_refused b h c)

-- ---- a list of calls

pub sound_last : (b : Basin) → SoundBasin b → (calls : List Call) → SoundBasin (last_basin b calls)
unfolding last_basin
sound_last b h [] = h
sound_last b h (c ∷ cs) = sound_last (step_call b c.lines c.count).basin (one_call b h c).kept cs

pub unchanged_last : (b : Basin) → SoundBasin b → (calls : List Call) → Unchanged b (last_basin b calls)
unfolding last_basin
unchanged_last b h [] = unchanged_refl b
unchanged_last b h (c ∷ cs) =
    let t = one_call b h c in
    unchanged_trans t.unchanged (unchanged_last (step_call b c.lines c.count).basin t.kept cs)

-- the losses that they report
abbrev pub lost : Basin → List Call → ℕ
lost b calls = losses (map (λ (o : Outcome). o.report) (results b calls))

pub list_balances : (b : Basin) → SoundBasin b → (calls : List Call) → content_of (last_basin b calls) + lost b calls ≡ content_of b + rains_over b calls
unfolding last_basin results losses rains_over
list_balances b h [] = refl
list_balances b h (c ∷ cs) =
    let t = one_call b h c in
    let after : Basin = (step_call b c.lines c.count).basin in
    omega (arith, t.balance, list_balances after t.kept cs, rains_same b after t.unchanged cs)

-- one list after another
pub last_append : (b : Basin) (xs ys : List Call) → last_basin b (xs ++ ys) ≡ last_basin (last_basin b xs) ys
unfolding last_basin
last_append b [] ys = refl
last_append b (c ∷ cs) ys = last_append (step_call b c.lines c.count).basin cs ys

pub lost_append : (b : Basin) (xs ys : List Call) → lost b (xs ++ ys) ≡ lost b xs + lost (last_basin b xs) ys
unfolding last_basin results losses
lost_append b [] ys = omega arith
lost_append b (c ∷ cs) ys = omega (arith, lost_append (step_call b c.lines c.count).basin cs ys)

-- the results are the rule's
pub results_ruled : (b : Basin) → SoundBasin b → (calls : List Call) → results b calls ≡ rule_results b calls
unfolding results rule_results
results_ruled b h [] = refl
results_ruled b h (c ∷ cs) =
    let t = one_call b h c in
    rw (t.ruled, ← t.whole, results_ruled (step_call b c.lines c.count).basin t.kept cs)

-- and the first that is refused is the first whose lines are outside the limits
pub up_to_outside_lem : (b : Basin) → SoundBasin b → (calls : List Call) → up_to_refused b calls ≡ up_to_outside b.n calls
unfolding up_to_refused up_to_outside
up_to_outside_lem b h [] = refl
up_to_outside_lem b h (c ∷ cs) =
    let t = one_call b h c in
    rw (t.told_by, up_to_outside_lem (step_call b c.lines c.count).basin t.kept cs, t.unchanged.n_same)
