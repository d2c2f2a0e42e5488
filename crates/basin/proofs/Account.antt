-- Demand 3: the account of every list of single steps and week calls from every file that a load accepts. Assumes nothing.
use mathlib.Core.Path.{◌≡◌, refl, sym, ap, ◌∙◌}
use mathlib.Core.Bool.{Bool, true, false}
use mathlib.Core.List.{List, [], ◌∷◌, map}
use Prim.Native.Nat.{ℕ, suc, ◌+◌, ◌<◌}
use native.Mathlib.Omega.{arith}
use lib.Dec.{eqb}
use lib.ListN.{length}
use borrow.Author.Tests.{eqb-false}
use Rattle.common.proofs.Limits.{by_test}
use Rattle.forcing.specs.declared.list.Line.{Line}
use Rattle.subbasin.specs.declared.record.SubBasin.{SubBasin}
use Rattle.subbasin.proofs.record.RecordLaws.{blank_blank}
use Rattle.subbasin.proofs.step.StepLaws.{Sound, sound_file}
use Rattle.basin.specs.declared.reach.Reach.{Reach}
use Rattle.basin.specs.declared.state.Basin.{Basin}
use Rattle.basin.specs.Step.{Outcome}
use Rattle.basin.specs.Week.{Ran}
use Rattle.basin.specs.State.{sub_at, reach_at, content_of}
use Rattle.basin.specs.File.{Loaded, file_n, file_m, file_sub, file_reach, file_basin, load_call, FileIn}
use Rattle.basin.specs.Step.{step_call, Judged}
use Rattle.basin.specs.Calls.{Call, results, last_basin}
use Rattle.basin.specs.Week.{fits, week_calls, after, together, untaken, week_taken, week_call}
use Rattle.basin.specs.Account.{rule_after, Entry, step, week, steps_of, singles, handed, tells, last_handed, reports, losses, rule_week, AllFollow, Capacities}
use Rattle.basin.specs.Account.{Accounted, Demand3, EachFollows, StepsAccounted}
use Rattle.basin.proofs.reach.ReachLaws.{ReachWords, blank_reach_blank}
use Rattle.basin.proofs.file.LoadedLaws.{load_limits, load_holds_file, file_sub_words, file_reach_words, file_subs_length, file_reaches_length}
use Rattle.basin.proofs.file.LoadedLaws.{file_sub_lem, file_sub_past, file_reach_lem, file_reach_past, file_sub_empty, file_reach_empty}
use Rattle.basin.proofs.network.CapLaws.{held_empty}
use Rattle.basin.proofs.step.JudgedLaws.{answers}
use Rattle.basin.proofs.Sound.{caps_in, SoundBasin, sound_allowed}
use Rattle.basin.proofs.Singles.{rains_of_file, one_call, sound_last, unchanged_last, lost, list_balances, last_append, lost_append, results_ruled, up_to_outside_lem}

-- ---- what the calls of a week come to together, of any basin

-- a refused step hands back its basin and reports zeros, so both kinds count alike
module _ (w : Ran) (b : Basin) (lines : List Line) (count : ℕ) where
  abbrev out : Outcome
  out = step_call b lines count

  abbrev judged : Judged b lines count out
  judged = (answers b lines count refl).judges

  after_basin : w.basin ≡ b → (after w out).basin ≡ out.basin
  unfolding after
  after_basin e =
      by_test (λ (v : Ran). v.basin ≡ out.basin) (eqb out.number 0) (λ t. refl)
      (λ t. e ∙ sym (judged.refused (eqb-false out.number 0 t)).unchanged)

  after_lost : (after w out).report.evapotranspiration + (after w out).report.outlet
      ≡ w.report.evapotranspiration + w.report.outlet + (out.report.evapotranspiration + out.report.outlet)
  unfolding after
  after_lost =
      by_test
      (λ (v : Ran).
      v.report.evapotranspiration + v.report.outlet
      ≡ w.report.evapotranspiration + w.report.outlet + (out.report.evapotranspiration + out.report.outlet))
      (eqb out.number 0) (λ t. omega arith) (λ t. rw (judged.refused (eqb-false out.number 0 t)).reports_zeros (omega arith))

pub together_basin : (w : Ran) (b : Basin) (calls : List Call) → w.basin ≡ b → (together w (results b calls)).basin ≡ last_basin b calls
unfolding together results last_basin
together_basin w b [] e = e
together_basin w b (c ∷ cs) e =
    together_basin (after w (step_call b c.lines c.count)) (step_call b c.lines c.count).basin cs (after_basin w b c.lines c.count e)

pub together_lost : (w : Ran) (b : Basin) (calls : List Call)
    → (together w (results b calls)).report.evapotranspiration + (together w (results b calls)).report.outlet
    ≡ w.report.evapotranspiration + w.report.outlet + lost b calls
unfolding together results losses
together_lost w b [] = omega arith
together_lost w b (c ∷ cs) =
    let o : Outcome = step_call b c.lines c.count in
    omega (arith, together_lost (after w o) o.basin cs, after_lost w b c.lines c.count)

-- ---- one entry

module _ (b : Basin) (h : SoundBasin b) (lines : List Line) where
  week_taken_lem : fits b.n (length lines) ≡ true → week_call b lines ≡ together (untaken b 0) (results b (steps_of b.n (week lines)))
  unfolding week_call week_taken steps_of
  week_taken_lem t = rw (sound_allowed b h, t, up_to_outside_lem b h (week_calls b.n lines))

  week_refused : fits b.n (length lines) ≡ false → week_call b lines ≡ untaken b 5
  unfolding week_call
  week_refused t = rw (sound_allowed b h, t)

  week_ruled : week_call b lines ≡ rule_week b lines
  unfolding rule_week
  week_ruled =
      by_test (λ (w : Ran). week_call b lines ≡ w) (fits b.n (length lines))
      (λ t. week_taken_lem t ∙ ap (together (untaken b 0)) (results_ruled b h (steps_of b.n (week lines)))) week_refused

-- what was handed back last and reported together is that of these single steps
record Stands (b : Basin) (calls : List Call) (last : Basin) (told : ℕ) : Type 0 where
  last_is : last ≡ last_basin b calls
  lost_is : told ≡ lost b calls

entry_stands : (b : Basin) → SoundBasin b → (e : Entry)
    → Stands b (steps_of b.n e) (handed b e) ((tells b e).evapotranspiration + (tells b e).outlet)
unfolding steps_of handed tells last_basin results losses
entry_stands b h (step c) = record { last_is = refl; lost_is = omega arith }
entry_stands b h (week lines) = go (fits b.n (length lines)) refl
  where
    go : (t : Bool) → fits b.n (length lines) ≡ t
        → Stands b (steps_of b.n (week lines)) (week_call b lines).basin ((week_call b lines).report.evapotranspiration + (week_call b lines).report.outlet)
    go true t =
        rw (week_taken_lem b h lines t)
        (record {
          last_is = together_basin (untaken b 0) b (steps_of b.n (week lines)) refl;
          lost_is = omega (arith, together_lost (untaken b 0) b (steps_of b.n (week lines)));
        })
    go false t = rw (week_refused b h lines t, t) (record { last_is = refl; lost_is = refl })

-- ---- a list of entries

list_stands : (n : ℕ) (b : Basin) → b.n ≡ n → SoundBasin b → (entries : List Entry)
    → Stands b (singles n entries) (last_handed b entries) (losses (reports b entries))
unfolding singles last_handed reports losses
list_stands n b same h [] = unfold last_basin results in record { last_is = refl; lost_is = refl }
list_stands n b same h (e ∷ es) =
    let steps = steps_of n e in
    let others = singles n es in
    let reached : Basin = last_basin b steps in
    let one : Stands b steps (handed b e) ((tells b e).evapotranspiration + (tells b e).outlet) = rw (← same) (entry_stands b h e) in
    let next = list_stands n reached ((unchanged_last b h steps).n_same ∙ same) (sound_last b h steps) es in
    record {
      last_is = ap (λ (x : Basin). last_handed x es) one.last_is ∙ next.last_is ∙ sym (last_append b steps others);
      lost_is =
          omega (arith, one.lost_is, next.lost_is, ap (λ (x : Basin). losses (reports x es)) one.last_is, lost_append b steps others);
    }

list_follows : (b : Basin) → SoundBasin b → (entries : List Entry) → AllFollow b b entries
unfolding handed
list_follows b h [] = tt
list_follows b h (step c ∷ es) =
    let t = one_call b h c in
    (t.follows, rw t.ruled (list_follows (step_call b c.lines c.count).basin t.kept es))
list_follows b h (week lines ∷ es) =
    let kept : SoundBasin (week_call b lines).basin = rw (entry_stands b h (week lines)).last_is (sound_last b h (steps_of b.n (week lines))) in
    (week_ruled b h lines, rw (← (week_ruled b h lines)) (list_follows (week_call b lines).basin kept es))

capacities_of : (file now : SubBasin) → now.fixed ≡ file.fixed → Sound now → Capacities file now
capacities_of file now e h =
    let ws = h.in_words in
    let um : now.fixed.um ≡ file.fixed.um = ap (λ p. p.um) e in
    let lm : now.fixed.lm ≡ file.fixed.lm = ap (λ p. p.lm) e in
    let dm : now.fixed.dm ≡ file.fixed.dm = ap (λ p. p.dm) e in
    let sm : now.fixed.sm ≡ file.fixed.sm = ap (λ p. p.sm) e in
    omega arith

-- ---- the file

file_sound : (f : List ℕ) → FileIn f → SoundBasin (file_basin f)
unfolding file_basin
file_sound f h =
    let sub : (i : ℕ) → i < file_n f → sub_at (file_basin f) i ≡ file_sub f i = λ i l. file_sub_lem f i l h.n_most in
    let reach : (j : ℕ) → j < file_m f → reach_at (file_basin f) j ≡ file_reach f (file_n f) j = λ j l. file_reach_lem f j l h.m_most in
    let words : (j : ℕ) → j < file_m f → ReachWords (file_m f) (suc j) (reach_at (file_basin f) j) = λ j l. rw (reach j l) (file_reach_words f h j l) in
    record {
      n_least = h.n_least;
      n_most = h.n_most;
      m_most = h.m_most;
      subs_length = file_subs_length f;
      reaches_length = file_reaches_length f;
      sound_subs =
          λ i l. rw (sub i l) (sound_file (file_m f) (file_sub f i) (file_sub_words f h i l) (file_sub_empty f i).0 (file_sub_empty f i).1);
      reach_most = λ i l. rw (sub i l) (let ws = file_sub_words f h i l in omega arith);
      blank_subs = λ i l d. rw (file_sub_past f i l) blank_blank;
      reach_words = words;
      blank_reaches = λ j l d. rw (file_reach_past f j l) blank_reach_blank;
      held_down =
          held_empty (file_m f) (file_basin f).reaches words (caps_in (file_basin f))
          (λ j l. ap (λ (r : Reach). r.content) (reach j l) ∙ file_reach_empty f (file_n f) j);
    }

-- a list of entries from the file's basin, as the single steps that it stands for
file_stands : (f : List ℕ) → FileIn f → (entries : List Entry)
    → Stands (file_basin f) (singles (file_n f) entries) (last_handed (file_basin f) entries) (losses (reports (file_basin f) entries))
unfolding file_basin
file_stands f limits entries = list_stands (file_n f) (file_basin f) refl (file_sound f limits) entries

list_capacities : (f : List ℕ) → FileIn f → (calls : List Call) (i : ℕ) → i < file_n f → Capacities (file_sub f i) (sub_at (last_basin (file_basin f) calls) i)
unfolding file_basin
list_capacities f limits calls i l =
    let h = file_sound f limits in
    let u = unchanged_last (file_basin f) h calls in
    capacities_of (file_sub f i) (sub_at (last_basin (file_basin f) calls) i)
    (u.fixed_same i ∙ ap (λ (s : SubBasin). s.fixed) (file_sub_lem f i l limits.n_most))
    ((sound_last (file_basin f) h calls).sound_subs i (omega (arith, u.n_same)))

-- demand 3, of any file and the answer of its load
pub demand_3 : (f : List ℕ) {loaded : Loaded} → loaded ≡ load_call f → Demand3 f loaded
demand_3 f {loaded} e z entries =
    let accepted : (load_call f).number ≡ 0 = sym (ap (λ (l : Loaded). l.number) e) ∙ z in
    let limits = load_limits f accepted in
    let h = file_sound f limits in
    let calls = singles (file_n f) entries in
    let stands = file_stands f limits entries in
    rw (e, load_holds_file f accepted)
    (record {
      balance =
          rw (stands.last_is, stands.lost_is)
          (list_balances (file_basin f) h calls ∙ ap (λ (rain : ℕ). content_of (file_basin f) + rain) (rains_of_file f limits calls));
      throughout = rw stands.last_is (unchanged_last (file_basin f) h calls);
      capacities = λ i l. rw stands.last_is (list_capacities f limits calls i l);
      follows = list_follows (file_basin f) h entries;
    })

-- ---- single steps alone

singles_of_steps : (n : ℕ) (calls : List Call) → singles n (map step calls) ≡ calls
unfolding singles steps_of
singles_of_steps n [] = refl
singles_of_steps n (c ∷ cs) = rw (singles_of_steps n cs)

last_of_steps : (b : Basin) (calls : List Call) → last_handed b (map step calls) ≡ last_basin b calls
unfolding last_handed handed last_basin
last_of_steps b [] = refl
last_of_steps b (c ∷ cs) = last_of_steps (step_call b c.lines c.count).basin cs

reports_of_steps : (b : Basin) (calls : List Call) → reports b (map step calls) ≡ map (λ (o : Outcome). o.report) (results b calls)
unfolding reports handed tells results
reports_of_steps b [] = refl
reports_of_steps b (c ∷ cs) = rw (reports_of_steps (step_call b c.lines c.count).basin cs)

each_follows : (rule got : Basin) (calls : List Call) → AllFollow rule got (map step calls) → EachFollows rule got calls (results got calls)
unfolding handed results
each_follows rule got [] h = tt
each_follows rule got (c ∷ cs) h = (h.0, each_follows (rule_after rule c) (step_call got c.lines c.count).basin cs h.1)

-- the account of single steps follows from the statement at once
pub steps_account : (f : List ℕ) (b : Basin) (calls : List Call) → Accounted f b (map step calls) → StepsAccounted f b calls
steps_account f b calls h =
    record {
      balance = rw (← (last_of_steps b calls), ← (reports_of_steps b calls)) (h.balance ∙ rw (singles_of_steps (file_n f) calls));
      throughout = rw (← (last_of_steps b calls)) h.throughout;
      capacities = λ i l. rw (← (last_of_steps b calls)) (h.capacities i l);
      follows = each_follows (file_basin f) b calls h.follows;
    }
