-- What demand 3 says of a list call by call and week by week, for the cases that compute. Assumes nothing.
use mathlib.Core.Path.{◌≡◌, refl, sym, ap, ◌∙◌}
use mathlib.Core.Bool.{true, false}
use mathlib.Core.List.{List, ◌∷◌, map}
use Prim.Native.Nat.{ℕ, ◌+◌, ◌<◌}
use native.Mathlib.Omega.{arith}
use lib.Dec.{eqb}
use lib.ListN.{length}
use borrow.Author.Tests.{eq-eqb}
use Rattle.forcing.specs.declared.list.Line.{Line}
use Rattle.forcing.specs.List.{Forcing}
use Rattle.forcing.specs.List.{refusal, is_inside}
use Rattle.forcing.proofs.list.ReadLaws.{accepted_test}
use Rattle.subbasin.specs.declared.record.Parameters.{Parameters}
use Rattle.subbasin.specs.declared.record.SubBasin.{SubBasin}
use Rattle.basin.specs.declared.state.Basin.{Basin}
use Rattle.basin.specs.declared.step.Report.{Report}
use Rattle.basin.specs.Step.{Outcome}
use Rattle.basin.specs.Week.{Ran}
use Rattle.basin.specs.State.{sub_at, content_of}
use Rattle.basin.specs.File.{Loaded, file_n, file_sub, file_basin, load_call}
use Rattle.basin.specs.Step.{taken, refused_step, step_call}
use Rattle.basin.specs.Calls.{Call, results}
use Rattle.basin.specs.Week.{fits, together, untaken, week_call}
use Rattle.basin.specs.Account.{Entry, step, week, steps_of, singles, handed, last_handed, reports, losses, rains, reading_of, rule_after, rule_call}
use Rattle.basin.specs.Account.{rule_results, rule_week, Follows, AllFollow, Accounted, Demand3, EachFollows, StepsAccounted}
use Rattle.basin.specs.Cases.{Bounds, HeldTo, Figures, ends, weeks, Says, SaysMixed, Always, Gives}
use Rattle.basin.proofs.Account.{demand_3}

-- ---- one call of which the reading is known

module _ (n : ℕ) (c : Call) where
  inside_is : (f : Forcing) → reading_of n c ≡ f → is_inside c.lines c.count n ≡ eqb f.number 0
  inside_is f r = sym (accepted_test c.lines c.count n) ∙ ap (λ (x : Forcing). eqb x.number 0) r

  pub inside_known : (f : Forcing) → reading_of n c ≡ f → f.number ≡ 0 → is_inside c.lines c.count n ≡ true
  inside_known f r z = inside_is f r ∙ eq-eqb f.number 0 z

  pub outside_known : (number place : ℕ) → reading_of n c ≡ refusal number place → eqb number 0 ≡ false → is_inside c.lines c.count n ≡ false
  outside_known number place r t = inside_is (refusal number place) r ∙ t

-- what the rule makes of it
module _ (rule : Basin) (c : Call) where
  module _ (f : Forcing) (r : reading_of rule.n c ≡ f) (z : f.number ≡ 0) (out : Outcome) (t : taken rule f ≡ out) where
    accepted_call : rule_call rule c ≡ out
    unfolding rule_call
    accepted_call = rw (inside_known rule.n c f r z) (ap (taken rule) r ∙ t)

    accepted_after : rule_after rule c ≡ out.basin
    unfolding rule_after
    accepted_after = rw (inside_known rule.n c f r z) (ap (λ (x : Forcing). (taken rule x).basin) r ∙ ap (λ (x : Outcome). x.basin) t)

    pub ruled_accepted : (cs : List Call) (os : List Outcome) → rule_results out.basin cs ≡ os → rule_results rule (c ∷ cs) ≡ out ∷ os
    unfolding rule_results
    ruled_accepted cs os e = rw (accepted_call, accepted_after, e)

  module _ (number place : ℕ) (r : reading_of rule.n c ≡ refusal number place) (n : eqb number 0 ≡ false) where
    refused_call : rule_call rule c ≡ refused_step rule number place
    unfolding rule_call
    refused_call = rw (outside_known rule.n c number place r n, r)

    refused_after : rule_after rule c ≡ rule
    unfolding rule_after
    refused_after = rw (outside_known rule.n c number place r n)

    pub ruled_refused : (cs : List Call) (os : List Outcome) → rule_results rule cs ≡ os → rule_results rule (c ∷ cs) ≡ refused_step rule number place ∷ os
    unfolding rule_results
    ruled_refused cs os e = rw (refused_call, refused_after, e)

-- and what demand 3 says of its outcome
module _ (rule got : Basin) (c : Call) (o : Outcome) (h : Follows rule got c o) where
  accepted_is : (f : Forcing) → reading_of rule.n c ≡ f → f.number ≡ 0 → (out : Outcome) → taken rule f ≡ out → o ≡ out
  accepted_is f r z out t = h.as_ruled (inside_known rule.n c f r z) ∙ ap (taken rule) r ∙ t

  refused_is : (number place : ℕ) → reading_of rule.n c ≡ refusal number place → eqb number 0 ≡ false → o ≡ refused_step got number place
  refused_is number place r n =
      let outside = outside_known rule.n c number place r n in
      let left = h.refused outside in
      let told = h.told outside in
      rw (← (told.0 ∙ ap (λ (x : Forcing). x.number) r), ← (told.1 ∙ ap (λ (x : Forcing). x.place) r), ← left.unchanged, ← left.reports_zeros)

-- ---- the next of a list of calls

moved : (a a' b b' : Basin) (cs : List Call) (os : List Outcome) → a ≡ a' → b ≡ b' → EachFollows a b cs os → EachFollows a' b' cs os
moved a a' b b' cs os e d h = rw (← e, ← d) h

module _ (rule got : Basin) (c : Call) (cs : List Call) (o : Outcome) (os : List Outcome) (h : EachFollows rule got (c ∷ cs) (o ∷ os)) where
  pub accepted_next : (f : Forcing) → reading_of rule.n c ≡ f → f.number ≡ 0 → (out : Outcome) → taken rule f ≡ out
      → (o ≡ out) × EachFollows out.basin out.basin cs os
  accepted_next f r z out t =
      let here = accepted_is rule got c o h.0 f r z out t in
      (here, moved _ out.basin o.basin out.basin cs os (accepted_after rule c f r z out t) (ap (λ (x : Outcome). x.basin) here) h.1)

  pub refused_next : (number place : ℕ) → reading_of rule.n c ≡ refusal number place → eqb number 0 ≡ false
      → (o ≡ refused_step got number place) × EachFollows rule got cs os
  refused_next number place r n =
      let here = refused_is rule got c o h.0 number place r n in
      (here, moved _ rule o.basin got cs os (refused_after rule c number place r n) (ap (λ (x : Outcome). x.basin) here) h.1)

-- ---- the next of a list of entries

entries_moved : (a a' b b' : Basin) (es : List Entry) → a ≡ a' → b ≡ b' → AllFollow a b es → AllFollow a' b' es
entries_moved a a' b b' es e d h = rw (← e, ← d) h

pub step_next : (rule got : Basin) (c : Call) (es : List Entry) → AllFollow rule got (step c ∷ es)
    → (f : Forcing) → reading_of rule.n c ≡ f → f.number ≡ 0 → (out : Outcome) → taken rule f ≡ out
    → (step_call got c.lines c.count ≡ out) × AllFollow out.basin out.basin es
unfolding handed
step_next rule got c es h f r z out t =
    let here = accepted_is rule got c (step_call got c.lines c.count) h.0 f r z out t in
    (here, entries_moved _ out.basin _ out.basin es (accepted_after rule c f r z out t) (ap (λ (x : Outcome). x.basin) here) h.1)

-- a week whose answer by the rule is known
pub week_next : (rule got : Basin) (lines : List Line) (es : List Entry) → AllFollow rule got (week lines ∷ es) → (w : Ran) → rule_week rule lines ≡ w
    → (week_call got lines ≡ w) × AllFollow w.basin w.basin es
unfolding handed
week_next rule got lines es h w e =
    let here : week_call got lines ≡ w = h.0 ∙ e in
    let basin : Ran → Basin = λ x. x.basin in
    (here, entries_moved _ w.basin _ w.basin es (ap basin e) (ap basin here) h.1)

-- its answer, where the steps that it stands for and their results are known
pub week_is : (rule : Basin) (lines : List Line) (cs : List Call) (os : List Outcome) → fits rule.n (length lines) ≡ true
    → steps_of rule.n (week lines) ≡ cs → rule_results rule cs ≡ os → rule_week rule lines ≡ together (untaken rule 0) os
unfolding rule_week
week_is rule lines cs os t e d = rw (t, e, d)

pub week_outside : (rule : Basin) (lines : List Line) → fits rule.n (length lines) ≡ false → rule_week rule lines ≡ untaken rule 5
unfolding rule_week
week_outside rule lines t = rw t

-- ---- the figures

abbrev bounds_of : SubBasin → Bounds
bounds_of s = record { area = s.fixed.area; um = s.fixed.um; lm = s.fixed.lm; dm = s.fixed.dm; sm = s.fixed.sm }

module _ (f : List ℕ) (entries : List Entry) (b : Basin) (h : Accounted f b entries) where
  -- the area and the capacities of a sub-basin whose words are known
  pub held_to : (i : ℕ) → i < file_n f → (s : SubBasin) → file_sub f i ≡ s → sub_at (file_basin f) i ≡ s → HeldTo (bounds_of s) (sub_at (last_handed b entries) i)
  held_to i l s word here =
      let most = rw word at (h.capacities i l) in
      record {
        area_is = ap (λ (p : Parameters). p.area) (h.throughout.fixed_same i) ∙ ap (λ (x : SubBasin). x.fixed.area) here;
        wu_most = most.wu_most;
        wl_most = most.wl_most;
        wd_most = most.wd_most;
        g_most = most.g_most;
        sn_most = most.sn_most;
      }

  -- all that is said of a mixed list, where what it stands for, its reports and its weeks are known
  pub said_mixed : (x : Figures) (calls : List Call) (ws : List Ran) → x.left + x.lost ≡ x.started + x.rained → content_of (file_basin f) ≡ x.started
      → singles (file_n f) entries ≡ calls → rains f calls ≡ x.rained → reports b entries ≡ x.told → losses x.told ≡ x.lost → weeks b entries ≡ ws
      → map (λ (w : Ran). ends w.number w.place w.count) ws ≡ x.endings
      → SaysMixed f entries x b
  said_mixed x calls ws sum started stand rained told lost are endings =
      let rained_is : rains f (singles (file_n f) entries) ≡ x.rained = ap (rains f) stand ∙ rained in
      let lost_is : losses (reports b entries) ≡ x.lost = ap losses told ∙ lost in
      record {
        rained_is = rained_is;
        lost_is = lost_is;
        left_is = omega (arith, h.balance, started, rained_is, lost_is, sum);
        told_are = told;
        endings_are = ap (map (λ (w : Ran). ends w.number w.place w.count)) are ∙ endings;
      }

-- all that is said of single calls, where the outcomes are known
module _ (f : List ℕ) (calls : List Call) (b : Basin) (h : StepsAccounted f b calls) (x : Figures) (os : List Outcome) (are : results b calls ≡ os) where
  abbrev reports_of : List Outcome → List Report
  reports_of = map (λ (o : Outcome). o.report)

  pub said : x.left + x.lost ≡ x.started + x.rained → content_of (file_basin f) ≡ x.started → rains f calls ≡ x.rained → losses x.reports ≡ x.lost
      → map (λ (o : Outcome). o.number) os ≡ x.numbers
      → map (λ (o : Outcome). o.place) os ≡ x.places
      → reports_of os ≡ x.reports
      → Says f calls x b
  said sum started rained lost numbers places reported =
      let reports_are : reports_of (results b calls) ≡ x.reports = ap reports_of are ∙ reported in
      let lost_is : losses (reports_of (results b calls)) ≡ x.lost = ap losses reports_are ∙ lost in
      record {
        balanced = sum;
        started_is = started;
        rained_is = rained;
        lost_is = lost_is;
        left_is = omega (arith, h.balance, started, rained, lost_is);
        numbers_are = ap (map (λ (o : Outcome). o.number)) are ∙ numbers;
        places_are = ap (map (λ (o : Outcome). o.place)) are ∙ places;
        reports_are = reports_are;
      }

-- what follows from demand 3 of any answer is so of the load's own
pub of_load : (f : List ℕ) (calls : List Call) (entries : List Entry) (x : Figures) → (load_call f).number ≡ 0
    → ((loaded : Loaded) → Demand3 f loaded → loaded.number ≡ 0
    → Says f calls x loaded.basin × (SaysMixed f entries x loaded.basin × ((others : List Entry) → Always f x loaded.basin others)))
    → Gives f calls entries x
of_load f calls entries x good follows =
    let own = follows (load_call f) (demand_3 f refl) good in
    record { accepted = good; says = own.0; says_mixed = own.1.0; follows = follows }
