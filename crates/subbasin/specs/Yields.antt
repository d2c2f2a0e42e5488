-- Document 02, No. 5: which rain would do it? With the temperature of No. 8.
use Rattle.std.specs.Prelude.{◌≡◌, Bool, true, false, cond, ◌↔◌, ℕ, ◌+◌, ◌*◌, ◌≤◌, ◌<◌, pos, Option, Some, None, Result, Ok, Err}
use Rattle.common.specs.declared.weather.Weather.{Weather}
use Rattle.common.specs.declared.refusal.Refusal.{Refusal}
use Rattle.common.specs.Refusals.{number_of}
use Rattle.subbasin.specs.declared.record.SubBasin.{SubBasin}
use Rattle.subbasin.specs.Step.{stepped, call_in}

-- "a whole number of millimetres, 0..1,000"
abbrev pub most_millimetres : ℕ
most_millimetres = 1000

-- a line's weather with a rain of k millimetres, in µm: "the line's temperature is taken as the threshold"
abbrev pub raining : SubBasin → ℕ → ℕ → Weather
raining s k pan = record { rain = 1000 * k; pan = pan; temperature = pos s.fixed.threshold }

-- "RB + R of that sub-basin's next step"
unfoldable pub yield : SubBasin → ℕ → ℕ → ℕ
yield s pan k = (stepped s (raining s k pan)).rb + (stepped s (raining s k pan)).r

-- A rain that does, or none. Number and place are 0 where the question is accepted; rain is 0 where there is none, or it is refused.
pub record Answer : Type 0 where
  pub number : ℕ
  pub place : ℕ
  pub none : Bool
  pub rain : ℕ

-- What is right of an answer, where the refusal whose turn it is has this number, 0 for none, and a rain of k millimetres yields f k. Which
-- rain is named is the program's choice: all that may be named have `rain_does` in common, and the rest is settled.
pub record Answers (refusal : ℕ) (f : ℕ → ℕ) (wanted : ℕ) (a : Answer) : Type 0 where
  pub number_is : a.number ≡ refusal
  pub place_is : a.place ≡ 0
  -- "answers with a whole number of millimetres, 0..1,000, for which RB + R .. is at least the wanted depth"
  pub rain_does : refusal ≡ 0 → a.none ≡ false → (a.rain ≤ most_millimetres) × (wanted ≤ f a.rain)
  -- "answers "none" exactly when none of the 1,001 rains does so"
  pub none_is : (a.none ≡ true) ↔ ((refusal ≡ 0) × ((k : ℕ) → k ≤ most_millimetres → f k < wanted))
  -- rain is 0 then, and "each of these has place 0, with rain 0"
  pub none_rain : a.none ≡ true → a.rain ≡ 0
  pub refused_rain : (refusal ≡ 0 → ⊥) → a.rain ≡ 0

-- an answer that is a refusal
abbrev pub refused : ℕ → Answer
refused number = record { number = number; place = 0; none = false; rain = 0 }

-- what a call's answer stands for
abbrev pub as_answer : Result (Option ℕ) Refusal → Answer
as_answer (Ok (Some k)) = record { number = 0; place = 0; none = false; rain = k }
as_answer (Ok None) = record { number = 0; place = 0; none = true; rain = 0 }
as_answer (Err why) = refused (number_of why)

-- the sub-basin's own: 10 where its call has it, whatever the rain
unfoldable pub own_refusal : SubBasin → ℕ → ℕ
own_refusal s pan = cond (call_in s (raining s 0 pan)) 0 10
