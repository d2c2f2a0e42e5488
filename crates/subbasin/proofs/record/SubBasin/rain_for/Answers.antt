-- `subbasin::record::SubBasin::rain_for` meets its contract: what the walk leaves of each rain is what it yields. Assumes nothing.
use mathlib.Core.Path.{◌≡◌, refl, sym, ap, ◌∙◌}
use mathlib.Core.Bool.{true}
use Prim.Native.Nat.{ℕ}
use native.Mathlib.Omega.{arith}
use Rattle.subbasin.specs.declared.record.Parameters.{Parameters}
use Rattle.subbasin.specs.declared.record.SubBasin.{SubBasin}
use Rattle.subbasin.specs.declared.record.Sender.TheVariants.{Host}
use Rattle.subbasin.specs.Soil.{tension, ep}
use Rattle.subbasin.specs.Step.{layers_of, call_in}
use Rattle.subbasin.specs.Yields.{Answer, raining, yield, Answers, refused, own_refusal}
use Rattle.subbasin.specs.Workers.{unsoaked}
use Rattle.subbasin.proofs.record.RecordLaws.{record_limits}
use Rattle.subbasin.proofs.step.CallLaws.{called}
use Rattle.subbasin.proofs.walk.WalkLaws.{yield_is}
use Rattle.subbasin.proofs.yields.YieldsLaws.{refuses, answers_same, own_zero, own_ten}
use Rattle.subbasin.proofs.record.SubBasin.rain_for.Goals as goal

refused_by : (s : SubBasin) (pan wanted : ℕ) {a : Answer} → own_refusal s pan ≡ 10 → a ≡ refused 10 → Answers (own_refusal s pan) (yield s pan) wanted a
refused_by s pan wanted ten e = rw ten (refuses (yield s pan) wanted 10 (λ z. omega arith) e)

accepted : (s : SubBasin) (pan wanted : ℕ) {p : Parameters} {w e : ℕ} (a : Answer) → call_in s (raining s 0 pan) ≡ true → p ≡ s.fixed → w ≡ tension (layers_of s.contents) → e ≡ ep p pan
    → Answers 0 (unsoaked p w e) wanted a → Answers (own_refusal s pan) (yield s pan) wanted a
accepted s pan wanted a t p-is w-is e-is h =
    rw (own_zero s pan t)
    (answers_same 0 _ (yield s pan) wanted a
    (λ k l. rw (e-is, p-is, w-is) (sym (yield_is _ Host s pan k l (record_limits _ _ (called s (raining s 0 pan) t).allowed).in_words))) h)

pub returns-then-not-answers : goal.returns-then-not-answers
returns-then-not-answers c = refused_by _ _ _ (own_ten _ _ (sym c.answers.ensures ∙ c.if-not-answers.true)) refl

pub returns : goal.returns
returns c =
    accepted _ _ _ _ (sym c.answers.ensures ∙ c.if-not-answers.false) c.of-ground.ensures.words (c.tension-w.ensures ∙ ap tension c.from.ensures) c.ep.ensures.answered c.search.ensures
