-- What is right of an answer: a rain that does, none, or a refusal; and of two ways to say what the rains yield. Assumes nothing.
use mathlib.Core.Path.{◌≡◌, refl, sym, ◌∙◌}
use mathlib.Core.Bool.{true, false, true≢false, ◌&&◌}
use Prim.Native.Nat.{ℕ, ◌≤◌, ◌<◌}
use native.Mathlib.Omega.{arith}
use Rattle.std.proofs.lemmas.Int.{ints}
use Rattle.std.specs.Prelude.{ℤ, pos, ◌≤ℤ◌}
use Rattle.common.specs.Weather.{most_pan, least_temperature, most_temperature}
use Rattle.common.specs.declared.weather.Weather.{Weather}
use Rattle.subbasin.specs.declared.record.SubBasin.{SubBasin}
use Rattle.subbasin.specs.Record.{record_in}
use Rattle.std.specs.Cmp.{both_ways}
use lib.Dec.{leb}
use borrow.Author.Tests.{le-leb, leb-true}
use Rattle.common.proofs.Limits.{both, parts}
use Rattle.subbasin.specs.Step.{call_in}
use Rattle.subbasin.specs.Yields.{Answer, most_millimetres, raining, Answers, refused, own_refusal}
use Rattle.subbasin.proofs.record.RecordLaws.{record_limits}
use Rattle.subbasin.proofs.step.CallLaws.{called, call_in_lem}

module _ (f : ℕ → ℕ) (wanted : ℕ) where
  pub found : (k : ℕ) → k ≤ most_millimetres → wanted ≤ f k → Answers 0 f wanted (record { number = 0; place = 0; none = false; rain = k })
  found k l h =
      record {
        number_is = refl;
        place_is = refl;
        rain_does = λ _ _. (l, h);
        none_is = (λ e. absurd (true≢false (sym e)), λ n. absurd (omega (arith, h, n.1 k l)));
        none_rain = λ e. absurd (true≢false (sym e));
        refused_rain = λ n. absurd (n refl);
      }

  pub none_found : ((k : ℕ) → k ≤ most_millimetres → f k < wanted) → Answers 0 f wanted (record { number = 0; place = 0; none = true; rain = 0 })
  none_found h =
      record {
        number_is = refl;
        place_is = refl;
        rain_does = λ _ e. absurd (true≢false e);
        none_is = (λ _. (refl, h), λ _. refl);
        none_rain = λ _. refl;
        refused_rain = λ _. refl;
      }

  pub refuses : (number : ℕ) {a : Answer} → (number ≡ 0 → ⊥) → a ≡ refused number → Answers number f wanted a
  refuses number n e =
      rw e
      (record {
        number_is = refl;
        place_is = refl;
        rain_does = λ z. absurd (n z);
        none_is = (λ t. absurd (true≢false (sym t)), λ z. absurd (n z.0));
        none_rain = λ _. refl;
        refused_rain = λ _. refl;
      })

-- where the rains yield the same
pub answers_same : (refusal : ℕ) (f g : ℕ → ℕ) (wanted : ℕ) (a : Answer) → ((k : ℕ) → k ≤ most_millimetres → f k ≡ g k) → Answers refusal f wanted a → Answers refusal g wanted a
answers_same refusal f g wanted a same h =
    record {
      number_is = h.number_is;
      place_is = h.place_is;
      rain_does = λ z n. let d = h.rain_does z n in (d.0, omega (arith, d.1, same a.rain d.0));
      none_is =
          (λ t. let d = h.none_is.0 t in (d.0, λ k l. omega (arith, d.1 k l, same k l)), λ d. h.none_is.1 (d.0, λ k l. omega (arith, d.1 k l, same k l)));
      none_rain = h.none_rain;
      refused_rain = h.refused_rain;
    }

-- ---- the sub-basin's own refusal

module _ (s : SubBasin) (pan : ℕ) where
  -- without rain record and pan decide alone, at any temperature that is inside its limits where 9 allows the record
  by_record_and_pan : (t : ℤ) → (record_in s.fixed.reach s ≡ true → (least_temperature ≤ℤ t) × (t ≤ℤ most_temperature))
      → call_in s (record { rain = 0; pan = pan; temperature = t }) ≡ record_in s.fixed.reach s && leb pan most_pan
  by_record_and_pan t inside =
      let w : Weather = record { rain = 0; pan = pan; temperature = t } in
      both_ways (call_in s w) (record_in s.fixed.reach s && leb pan most_pan)
      (λ y. let c = called s w y in both c.allowed (le-leb pan most_pan c.pan_most))
      (λ y. let a = parts (record_in s.fixed.reach s) (leb pan most_pan) y in
      let r = inside a.0 in
      call_in_lem s w a.0 (record { rain_most = omega arith; pan_most = leb-true pan most_pan a.1; temperature_least = r.0; temperature_most = r.1 }))

  -- at the threshold, which is a temperature
  pub question_in : call_in s (raining s 0 pan) ≡ record_in s.fixed.reach s && leb pan most_pan
  question_in =
      by_record_and_pan (pos s.fixed.threshold)
      (λ r. let ws = (record_limits s.fixed.reach s r).in_words in (omega (arith, ints), omega (arith, ints)))

  -- and so as at 0 °C
  pub question_judged : call_in s (record { rain = 0; pan = pan; temperature = pos 0 }) ≡ call_in s (raining s 0 pan)
  question_judged = by_record_and_pan (pos 0) (λ _. (omega (arith, ints), omega (arith, ints))) ∙ sym question_in

  own_in : record_in s.fixed.reach s ≡ true → pan ≤ most_pan → call_in s (raining s 0 pan) ≡ true
  own_in r h = question_in ∙ both r (le-leb pan most_pan h)

  pub question_allowed : call_in s (raining s 0 pan) ≡ true → (record_in s.fixed.reach s ≡ true) × (pan ≤ most_pan)
  question_allowed t = let c = called s (raining s 0 pan) t in (c.allowed, c.pan_most)

  pub own_none : record_in s.fixed.reach s ≡ true → pan ≤ most_pan → own_refusal s pan ≡ 0
  unfolding own_refusal
  own_none r h = rw (own_in r h)

  pub own_zero : call_in s (raining s 0 pan) ≡ true → own_refusal s pan ≡ 0
  unfolding own_refusal
  own_zero t = rw t

  pub own_ten : call_in s (raining s 0 pan) ≡ false → own_refusal s pan ≡ 10
  unfolding own_refusal
  own_ten n = rw n
