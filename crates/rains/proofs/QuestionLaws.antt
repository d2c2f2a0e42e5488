-- A question about rains: whose turn a refusal is, and that the sub-basin's own call refuses none that a basin lets pass. Assumes nothing.
use mathlib.Core.Path.{◌≡◌, sym, ap, ◌∙◌}
use mathlib.Core.Bool.{true, false}
use Prim.Native.Nat.{ℕ, ◌-◌, ◌≤◌, ◌<◌}
use native.Mathlib.Nat.{le_refl}
use native.Mathlib.Omega.{arith}
use lib.Ieee.{Float}
use lib.ListN.{get_or}
use Rattle.common.specs.Limits.{within}
use Rattle.common.proofs.Limits.{by_test, within_in, within_limits, within_not}
use Rattle.forcing.specs.declared.depth.Gauge.TheVariants.{Pan}
use Rattle.forcing.specs.Depth.{Depth, answer, depth_call}
use Rattle.forcing.proofs.depth.DepthLaws.{call_depth_le}
use Rattle.subbasin.specs.declared.record.SubBasin.{SubBasin}
use Rattle.subbasin.specs.Yields.{Answer, yield, Answers, refused, own_refusal}
use Rattle.subbasin.proofs.record.RecordLaws.{record_in_lem, record_other}
use Rattle.subbasin.proofs.yields.YieldsLaws.{refuses, own_none}
use Rattle.basin.specs.declared.state.Basin.{Basin}
use Rattle.basin.specs.State.{most_subs, sub_at}
use Rattle.basin.specs.Limits.{basin_in}
use Rattle.basin.proofs.state.StateLaws.{allowed_n, allowed_sub, allowed_read}
use Rattle.rains.specs.Question.{asked, yield_of, RainFor, Turns}

module _ (b : Basin) (number : ℕ) (pan : Float) where
  pub asked_nine : basin_in b ≡ false → asked b number pan ≡ answer 9 0
  unfolding asked
  asked_nine t = rw t

  pub asked_eleven : basin_in b ≡ true → (1 ≤ number → number ≤ b.n → ⊥) → asked b number pan ≡ answer 11 0
  unfolding asked
  asked_eleven t n = rw (t, within_not 1 number b.n n)

  pub asked_pan : basin_in b ≡ true → 1 ≤ number → number ≤ b.n → asked b number pan ≡ depth_call pan Pan
  unfolding asked
  asked_pan t l h = rw (t, within_in 1 number b.n l h)

  turns : Turns b number pan (asked b number pan).number
  turns =
      record {
        nine = λ t. ap (λ (r : Depth). r.number) (asked_nine t);
        eleven = λ t n. ap (λ (r : Depth). r.number) (asked_eleven t n);
        pans = λ t l h. ap (λ (r : Depth). r.number) (asked_pan t l h);
      }

  -- a question that is not refused
  record Inside : Type 0 where
    allowed : basin_in b ≡ true
    least : 1 ≤ number
    most : number ≤ b.n
    depth_most : (asked b number pan).depth ≤ 100000

  inside_limits : basin_in b ≡ true → within 1 number b.n ≡ true → (depth_call pan Pan).number ≡ 0 → Inside
  inside_limits t i z =
      let l = within_limits 1 number b.n i in
      record { allowed = t; least = l.0; most = l.1; depth_most = rw (asked_pan t l.0 l.1) (call_depth_le pan Pan z) }

  inside : (asked b number pan).number ≡ 0 → Inside
  unfolding asked
  inside =
      by_test (λ (r : Depth). r.number ≡ 0 → Inside) (basin_in b)
      (λ t. by_test (λ (r : Depth). r.number ≡ 0 → Inside) (within 1 number b.n) (inside_limits t) (λ _ z. absurd (omega arith)))
      (λ _ z. absurd (omega arith))

  -- its sub-basin
  module _ (h : Inside) where
    in_use_lem : number - 1 < b.n
    in_use_lem = omega (arith, h.least, h.most)

    own_accepts : own_refusal (sub_at b (number - 1)) (asked b number pan).depth ≡ 0
    own_accepts =
        let s = sub_at b (number - 1) in
        let own = record_other b.m s.fixed.reach s (allowed_sub b h.allowed (number - 1) in_use_lem) (le_refl s.fixed.reach) in
        own_none s (asked b number pan).depth (record_in_lem s.fixed.reach s own) h.depth_most

  -- what is right of an answer tells whose turn it was
  told : (wanted : ℕ) {a : Answer} → RainFor b number pan wanted a → record { answers : RainFor b number pan wanted a; judges : Turns b number pan a.number }
  told wanted h = record { answers = h; judges = rw h.number_is turns }

  module _ {given : Depth} (is : given ≡ asked b number pan) where
    number_is : (asked b number pan).number ≡ given.number
    number_is = ap (λ (r : Depth). r.number) (sym is)

    pub number_in : given.number ≡ 0 → (1 ≤ number) × (number ≤ most_subs)
    number_in z =
        let here = inside (number_is ∙ z) in
        (here.least, omega (arith, here.most, allowed_n b here.allowed))

    module _ (wanted : ℕ) {a : Answer} where
      pub question_refused : (given.number ≡ 0 → ⊥) → a ≡ refused given.number → record { answers : RainFor b number pan wanted a; judges : Turns b number pan a.number }
      question_refused n e = told wanted (rw is at (refuses (yield_of b number pan) wanted given.number n e))

      pub question_answered : {s : SubBasin} (d : SubBasin) → given.number ≡ 0 → s ≡ get_or b.subs (number - 1) d
          → Answers (own_refusal s given.depth) (yield s given.depth) wanted a → record { answers : RainFor b number pan wanted a; judges : Turns b number pan a.number }
      question_answered {s} d z e h =
          let accepted = number_is ∙ z in
          let here = inside accepted in
          let same : s ≡ sub_at b (number - 1) = e ∙ allowed_read b here.allowed (number - 1) (in_use_lem here) d in
          told wanted (rw accepted (rw (own_accepts here) at (rw (same, is) at h)))

-- by which a question is judged
pub ruleset whose_turn = (asked_nine, asked_eleven, asked_pan)
