-- The step call: what its parts come to is the definition's outcome. Assumes nothing.
use mathlib.Core.Path.{◌≡◌, sym, ap, ◌∙◌}
use mathlib.Core.Bool.{true, false, cond}
use mathlib.Core.List.{List}
use Prim.Native.Nat.{ℕ, ◌+◌}
use native.Mathlib.Numerals.{add-one}
use native.Mathlib.Omega.{arith}
use lib.ListN.{get_or}
use borrow.Author.Tests.{eq-eqb, ne_eqb}
use Rattle.std.proofs.Common.{Result, Ok, Err, IsErr, IsErrAnd}
use Rattle.common.specs.declared.refusal.Refusal.{Refusal}
use Rattle.common.specs.declared.refusal.Refusal.TheVariants.{BadBasin}
use Rattle.common.specs.declared.refusal.Refused.{Refused}
use Rattle.common.specs.Loops.{sum_of}
use Rattle.forcing.specs.declared.list.Line.{Line}
use Rattle.forcing.specs.List.{Forcing}
use Rattle.forcing.specs.List.{reading}
use Rattle.basin.specs.declared.reach.Reach.{Reach}
use Rattle.basin.specs.declared.state.Basin.{Basin}
use Rattle.subbasin.specs.declared.record.SubBasin.{SubBasin}
use Rattle.basin.specs.declared.step.Report.{Report}
use Rattle.basin.specs.declared.step.Subs.{Subs}
use Rattle.basin.specs.Reach.{blank_reach}
use Rattle.basin.specs.State.{reach_at, content_of}
use Rattle.basin.specs.Limits.{subs_used, others_in, basin_in}
use Rattle.basin.specs.Network.{reaches_after}
use Rattle.basin.specs.Step.{Outcome, sent_by, basin_after, rain_volume, loss_volume, outlet_volume, taken, refused_step, as_outcome, answered, step_call}
use Rattle.basin.specs.Workers.{subs_only, SubsDone, Flowing, Flowed}
use Rattle.basin.proofs.reach.ReachLaws.{reach_in_lem}
use Rattle.basin.proofs.limits.LimitsLaws.{OthersIn, others_limits, basin_used}
use Rattle.basin.proofs.step.StepLaws.{waters_after, content_after}

-- the code's refusal of a basin that 9 doesn't allow
pub nine_told : (b : Basin) {w : Refused} → w ≡ record { why = BadBasin; place = 0 } → as_outcome b (Err w) ≡ refused_step b 9 0
nine_told b e = ap (λ (w : Refused). as_outcome b (Err w)) e

-- ---- a step whose forcing is accepted

-- its answer, by 9
abbrev pub by_nine : Basin → Forcing → Outcome
by_nine b f = cond (basin_in b) (taken b f) (refused_step b 9 0)

module _ (b : Basin) (f : Forcing) (y : others_in b ≡ true) where
  pub subs_refuse : subs_used b.m b.n b.subs ≡ false → {why : Refusal} → why ≡ BadBasin → (r : Result Report Refused)
      → IsErr r × IsErrAnd r (λ e. e ≡ record { why = why; place = 0 }) → as_outcome b r ≡ by_nine b f
  subs_refuse n {why} is (Ok x) h = cc
  subs_refuse n {why} is (Err e) h =
      nine_told b (h.1 ∙ ap (λ (r : Refusal). record { why = r; place = 0 }) is) ∙ sym (rw (basin_used b y ∙ n))

module _ (b : Basin) (f : Forcing) (y : others_in b ≡ true) {subs : List SubBasin} {s : Subs} (done : SubsDone (subs_only b.n b.m b.subs) f.weather subs s) where
  abbrev others : OthersIn b
  others = others_limits b y

  pub flowing : Flowing b.m b.reaches s.sent
  flowing =
      record {
        m_most = others.m_most;
        allowed = λ j l. rw (add-one j) (reach_in_lem b.m _ (reach_at b j) (others.used_reaches j l));
        sent_most = done.sent_most;
      }

  allowed : basin_in b ≡ true
  allowed = basin_used b y ∙ done.allowed

  module _ {after : List Reach} {outlet held : ℕ} (r : Flowed b.m b.reaches s.sent after outlet held) where
    sent_is : s.sent ≡ sent_by b f.weather b.n
    unfolding sent_by
    sent_is = done.sent_is

    basin_is : ◌≡◌ {A = Basin} (record { n = b.n; m = b.m; subs = subs; reaches = after }) (basin_after b f.weather)
    unfolding basin_after
    basin_is = rw (done.subs_are, r.routed, sent_is)

    content_is : s.held + held ≡ content_of (basin_after b f.weather)
    unfolding basin_after
    content_is =
        omega (
          arith,
          done.held_is,
          r.held_is,
          ap (λ (p : List ℕ). sum_of (λ j. (get_or (reaches_after b.reaches b.m p) j blank_reach).content) b.m) sent_is,
          waters_after b f.weather done.long others.n_most,
          content_after b f.weather,
        )

    rain_is : s.rain ≡ rain_volume b f.weather
    unfolding rain_volume
    rain_is = done.rain_is

    loss_is : s.loss ≡ loss_volume b f.weather
    unfolding loss_volume
    loss_is = done.loss_is

    outlet_is : outlet ≡ outlet_volume b f.weather
    unfolding outlet_volume
    outlet_is = r.came ∙ rw sent_is

    pub taken_is : ◌≡◌ {A = Outcome}
        (record {
          number = 0;
          place = 0;
          basin = record { n = b.n; m = b.m; subs = subs; reaches = after };
          report = record { rain = s.rain; evapotranspiration = s.loss; outlet = outlet; content = s.held + held; estimated = f.estimated };
        })
        (by_nine b f)
    unfolding taken
    taken_is = rw (basin_is, content_is, rain_is, loss_is, outlet_is, allowed)

-- ---- the call

module _ (b : Basin) (lines : List Line) (count : ℕ) {f : Forcing} (read : f ≡ reading lines count b.n) where
  pub call_accepted : f.number ≡ 0 → by_nine b f ≡ step_call b lines count
  unfolding step_call answered
  call_accepted z = rw (← read, eq-eqb f.number 0 z)

  pub call_refused : (f.number ≡ 0 → ⊥) → cond (basin_in b) (refused_step b f.number f.place) (refused_step b 9 0) ≡ step_call b lines count
  unfolding step_call answered
  call_refused n = rw (← read, ne_eqb f.number 0 n)
