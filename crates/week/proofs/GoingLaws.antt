-- A week on its way, and how it comes to the definition's answer. Assumes nothing.
use mathlib.Core.Path.{◌≡◌, refl, sym, ap, subst, ◌∙◌}
use mathlib.Core.Bool.{Bool, true, false}
use mathlib.Core.List.{List, [], ◌∷◌, ◌++◌}
use Prim.Native.Nat.{ℕ, zero, suc, ◌+◌, ◌*◌, ◌/◌, ◌^◌, ◌≤◌, ◌<◌}
use native.Mathlib.Nat.{add-div_left, div-eq_of_lt, div-le_of_le-mul}
use native.Mathlib.Numerals.{add-one}
use native.Mathlib.Omega.{arith}
use lib.Dec.{eqb}
use lib.ListN.{length, drop, replicate}
use lib.Seq.{drop-append_seam}
use Rattle.std.proofs.Common.{length-append, None, Ok, Err}
use borrow.Author.Tests.{eq-eqb, ne_eqb}
use Rattle.common.specs.declared.refusal.Refusal.{Refusal}
use Rattle.common.specs.declared.refusal.Refused.{Refused}
use Rattle.common.specs.Refusals.{number_of}
use Rattle.common.proofs.Refusals.{number_some}
use Rattle.common.proofs.Loops.{filled_same}
use Rattle.forcing.specs.declared.list.Line.{Line}
use Rattle.forcing.specs.List.{blank, line_at}
use Rattle.basin.specs.declared.state.Basin.{Basin}
use Rattle.basin.specs.declared.step.Report.{Report}
use Rattle.basin.specs.declared.week.Week.{Week}
use Rattle.basin.specs.State.{content_of}
use Rattle.basin.specs.Limits.{basin_in}
use Rattle.basin.specs.Step.{Outcome, zeros, as_outcome, step_call}
use Rattle.basin.specs.Calls.{Call, results}
use Rattle.basin.specs.Week.{Ran, most_steps, step_lines, calls_of, week_calls, up_to_refused, joined, as_ran, one_more, stopped, together, untaken, week_call, WeekJudged}
use Rattle.basin.specs.Workers.{Shaped}
use Rattle.basin.proofs.week.WeekLaws.{count_in, content_most, reported, after_accepted, after_refused, week_nine, week_length, week_taken_lem, fitting, week_judged}
use Rattle.week.specs.Workers.{Fits, Refuses, SumsFit}

-- the answer of a week that goes on from here, with the lines `rest` to come
abbrev finish : ℕ → List Line → Ran → Ran
finish n rest w = together w (results w.basin (up_to_refused w.basin (week_calls n rest)))

pub record Along (b : Basin) (lines : List Line) (n : ℕ) (rest : List Line) (w : Ran) : Type 0 where
  pub answer : finish n rest w ≡ week_call b lines
  pub some : 1 ≤ n
  pub few : n ≤ 32
  pub short : w.count + length rest / n ≤ most_steps
  pub rain_most : w.report.rain ≤ w.count * 2 ^ 38
  pub estimated_few : w.report.estimated ≤ w.count * 32
  pub balance : content_of w.basin + (w.report.evapotranspiration + w.report.outlet) ≡ content_of b + w.report.rain
  pub start_most : content_of b ≤ 2 ^ 63

line_of_both : (here after : List Line) (k : ℕ) → k < length here → line_at (here ++ after) k ≡ line_at here k
line_of_both [] after k l = absurd (omega arith)
line_of_both (x ∷ here) after zero l = refl
line_of_both (x ∷ here) after (suc k) l = line_of_both here after k (omega arith)

-- the calls of whole steps: the first one's, and those of the rest
module _ {n : ℕ} (here after : List Line) (some : 1 ≤ n) (long : length here ≡ n) where
  together_long : length (here ++ after) ≡ n + length after
  together_long = omega (arith, length-append here after, long)

  one_step : length (here ++ after) / n ≡ suc (length after / n)
  one_step = ap (λ k. k / n) together_long ∙ add-div_left (length after) some ∙ add-one (length after / n)

  same_lines : step_lines n (here ++ after) ≡ step_lines n here
  same_lines = filled_same (line_at (here ++ after)) (line_at here) n (replicate 32 blank) (λ k l. line_of_both here after k (omega (arith, long, l)))

  calls_parted : week_calls n (here ++ after) ≡ record { lines = step_lines n here; count = n } ∷ week_calls n after
  unfolding week_calls calls_of
  calls_parted =
      let rest : drop n (here ++ after) ≡ after = ap (λ k. drop k (here ++ after)) (sym long) ∙ drop-append_seam here after in
      rw (one_step, same_lines, rest)

-- the first of some calls
module _ (w : Ran) (c : Call) (cs : List Call) where
  abbrev first : Outcome
  first = step_call w.basin c.lines c.count

  one_taken : eqb first.number 0 ≡ true
      → together w (results w.basin (up_to_refused w.basin (c ∷ cs))) ≡ together (one_more w first) (results first.basin (up_to_refused first.basin cs))
  unfolding up_to_refused results together
  one_taken t = rw (t, after_accepted w first t)

  one_refused : eqb first.number 0 ≡ false → together w (results w.basin (up_to_refused w.basin (c ∷ cs))) ≡ stopped w first
  unfolding up_to_refused results together
  one_refused t = rw t (after_refused w first t)

-- one step on
module _ {b : Basin} {lines : List Line} {n : ℕ} {rest : List Line} {w : Ran} (h : Along b lines n rest w)
    (here after : List Line) (parted : rest ≡ here ++ after) (long : length here ≡ n) (sh : Shaped w.basin)
    {o : Outcome} (is : o ≡ step_call w.basin (step_lines n here) n) where
  left : length rest / n ≡ suc (length after / n)
  left = ap (λ l. length l / n) parted ∙ one_step here after h.some long

  calls : week_calls n rest ≡ record { lines = step_lines n here; count = n } ∷ week_calls n after
  calls = ap (week_calls n) parted ∙ calls_parted here after h.some long

  abbrev call : Call
  call = record { lines = step_lines n here; count = n }

  from_here : finish n rest w ≡ together w (results w.basin (up_to_refused w.basin (call ∷ week_calls n after)))
  from_here = ap (λ cs. together w (results w.basin (up_to_refused w.basin cs))) calls

  pub on_accepted : o.number ≡ 0 → Along b lines n after (one_more w o)
  on_accepted z =
      let r = reported w.basin (step_lines n here) n sh is z in
      let t : eqb o.number 0 ≡ true = eq-eqb o.number 0 z in
      record {
        answer = sym (from_here ∙ one_taken w call (week_calls n after) (ap (λ (p : Outcome). eqb p.number 0) (sym is) ∙ t) ∙ ap (λ (p : Outcome). together (one_more w p) (results p.basin (up_to_refused p.basin (week_calls n after)))) (sym is)) ∙ h.answer;
        some = h.some;
        few = h.few;
        short = omega (arith, h.short, left);
        rain_most = omega (arith, h.rain_most, r.rain_most);
        estimated_few = omega (arith, h.estimated_few, r.estimated_few);
        balance = omega (arith, h.balance, r.balance);
        start_most = h.start_most;
      }

  pub on_refused : (o.number ≡ 0 → ⊥) → (stopped w o ≡ week_call b lines) × WeekJudged b lines (stopped w o)
  on_refused z =
      let t : eqb o.number 0 ≡ false = ne_eqb o.number 0 z in
      week_judged b lines (sym (from_here ∙ one_refused w call (week_calls n after) (ap (λ (p : Outcome). eqb p.number 0) (sym is) ∙ t) ∙ ap (stopped w) (sym is)) ∙ h.answer) h.balance

  pub count_less : w.count < most_steps
  count_less = omega (arith, h.short, left)

  pub sums_fit : o.number ≡ 0 → SumsFit w.report o.report
  sums_fit z =
      let r = reported w.basin (step_lines n here) n sh is z in
      record {
        rain_fits = omega (arith, h.rain_most, h.short, r.rain_most);
        evapotranspiration_fits = omega (arith, h.balance, h.start_most, h.rain_most, h.short, r.rain_most, r.balance);
        outlet_fits = omega (arith, h.balance, h.start_most, h.rain_most, h.short, r.rain_most, r.balance);
        estimated_fits = omega (arith, h.estimated_few, h.short, r.estimated_few);
      }

-- after the last step
pub along_end : {b : Basin} {lines : List Line} {n : ℕ} {rest : List Line} {w : Ran} → Along b lines n rest w → length rest < n
    → (w ≡ week_call b lines) × WeekJudged b lines w
unfolding week_calls calls_of up_to_refused results together
along_end {b} {lines} {n} {rest} h few =
    let none : length rest / n ≡ 0 = div-eq_of_lt few in
    week_judged b lines (sym (rw none) ∙ h.answer) h.balance

-- before the first
module _ {b : Basin} {lines : List Line} where
  pub begun_along : Fits b (length lines) → Along b lines b.n lines (untaken b 0)
  unfolding week_calls
  begun_along f =
      let n-in = count_in b f.allowed in
      let whole = fitting b.n (length lines) f.fitting in
      record {
        answer = sym (week_taken_lem b lines f.allowed f.fitting);
        some = n-in.0;
        few = n-in.1;
        short = omega (arith, div-le_of_le-mul b.n {m = length lines} {n = most_steps} (omega (arith, whole.most)));
        rain_most = omega arith;
        estimated_few = omega arith;
        balance = omega arith;
        start_most = content_most b f.allowed f.shaped;
      }

  pub begun_refused : {why : Refusal} → Refuses b (length lines) why
      → (untaken b (number_of why) ≡ week_call b lines) × WeekJudged b lines (untaken b (number_of why))
  begun_refused {why} r = week_judged b lines (by_test' (basin_in b) refl) (omega arith)
    where
      by_test' : (t : Bool) → basin_in b ≡ t → untaken b (number_of why) ≡ week_call b lines
      by_test' false e = ap (untaken b) (r.nine e) ∙ week_nine b lines e
      by_test' true e = ap (untaken b) (r.five e).1 ∙ week_length b lines e (r.five e).0

-- ---- the week in the code

-- a week that has refused no step
abbrev so_far : Basin → Week → Ran
so_far b w = record { number = 0; place = 0; basin = b; count = w.count; report = w.report }

-- between two steps, where the iterator's parts are of this size and `rest` is to come
pub record Going (b : Basin) (lines : List Line) (n size : ℕ) (rest : List Line) (now : Basin) (w : Week) : Type 0 where
  pub along : Along b lines n rest (so_far now w)
  pub none : w.refusal ≡ None
  pub size_is : size ≡ n
  pub shaped : Shaped now

-- what a derived default says
pub default_week : (w : Week)
    → (w.count ≡ 0)
    × (((w.report.rain ≡ 0) × ((w.report.evapotranspiration ≡ 0) × ((w.report.outlet ≡ 0) × ((w.report.content ≡ 0) × (w.report.estimated ≡ 0)))))
    × (w.refusal ≡ None))
    → w ≡ record { count = 0; report = zeros; refusal = None }
default_week w h = let r = h.1.0 in rw (h.0, r.0, r.1.0, r.1.1.0, r.1.1.1.0, r.1.1.1.1, h.1.1)

pub going_begun : {b : Basin} {lines rest : List Line} {size : ℕ} → Fits b (length lines) → size ≡ b.n → rest ≡ lines
    → Going b lines b.n size rest b (record { count = 0; report = zeros; refusal = None })
going_begun {b} {lines} f s r =
    record { along = subst (λ l. Along b lines b.n l (untaken b 0)) (sym r) (begun_along f); none = refl; size_is = s; shaped = f.shaped }

-- the iterator's next part
module _ {b : Basin} {lines : List Line} {n size : ℕ} {rest : List Line} {now : Basin} {w : Week} (g : Going b lines n size rest now w)
    (here after : List Line) (parted : (rest ≡ here ++ after) × (length here ≡ size)) where
  abbrev at : Outcome
  at = step_call now (step_lines n here) n

  long : length here ≡ n
  long = parted.1 ∙ g.size_is

  pub going_few : length here ≤ 32
  going_few = omega (arith, long, g.along.few)

  pub going_count : w.count < most_steps
  going_count = count_less g.along here after parted.0 long g.shaped refl

  module _ {l : List Line} (read : l ≡ step_lines (length here) here) where
    same_call : step_call now l n ≡ at
    same_call = ap (λ k. step_call now k n) (read ∙ ap (λ k. step_lines k here) long)

    pub going_fits : {then : Basin} {report : Report} → as_outcome then (Ok report) ≡ step_call now l n → SumsFit w.report report
    going_fits e = sums_fit g.along here after parted.0 long g.shaped (e ∙ same_call) refl

    pub going_on : {then : Basin} {report sums : Report} {next : ℕ} → as_outcome then (Ok report) ≡ step_call now l n → sums ≡ joined w.report report → next ≡ size
        → Going b lines n next after then (record { count = w.count + 1; report = sums; refusal = w.refusal })
    going_on {then} e j s =
        record {
          along = rw (j, add-one w.count) (on_accepted g.along here after parted.0 long g.shaped (e ∙ same_call) refl);
          none = g.none;
          size_is = s ∙ g.size_is;
          shaped = (reported now (step_lines n here) n g.shaped (e ∙ same_call) refl).shaped;
        }

    pub going_stopped : {then : Basin} (e : Refused) → as_outcome then (Err e) ≡ step_call now l n → then ≡ now
        → record {
          answers : record { number = number_of e.why; place = e.place; basin = then; count = w.count; report = w.report } ≡ week_call b lines;
          judges : WeekJudged b lines (record { number = number_of e.why; place = e.place; basin = then; count = w.count; report = w.report });
        }
    going_stopped {then} e is same =
        let h = on_refused g.along here after parted.0 long g.shaped (is ∙ same_call) (λ z. omega (arith, z, number_some e.why)) in
        rw same (record { answers = h.0; judges = h.1 })

pub going_end : {b : Basin} {lines : List Line} {n size : ℕ} {rest : List Line} {now : Basin} {w : Week} → Going b lines n size rest now w → length rest < size
    → record { answers : as_ran now w ≡ week_call b lines; judges : WeekJudged b lines (as_ran now w) }
going_end g few = let h = along_end g.along (omega (arith, few, g.size_is)) in rw g.none (record { answers = h.0; judges = h.1 })

pub going_refused : {b : Basin} {lines : List Line} {e : Refused} {why : Refusal} → Refuses b (length lines) why → e ≡ record { why = why; place = 0 }
    → record {
      answers : record { number = number_of e.why; place = e.place; basin = b; count = 0; report = zeros } ≡ week_call b lines;
      judges : WeekJudged b lines (record { number = number_of e.why; place = e.place; basin = b; count = 0; report = zeros });
    }
going_refused r e = let h = begun_refused r in rw e (record { answers = h.0; judges = h.1 })
