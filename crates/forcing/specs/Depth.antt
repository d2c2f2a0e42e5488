-- One number in millimetres: document 01, "The forcing list", and the depth call of "Who sent it", with document 02, No. 7. Depths are in µm.
use Rattle.std.specs.Prelude.{ℕ, ◌+◌, ◌*◌, ◌/◌, ◌≡◌, Bool, true, false, cond, not, ◌&&◌, ◌⊎◌, ◌↔◌, ltb, leb, eqb, ℤ, List, codes, Float, Result, Ok, Err}
use Rattle.std.specs.Float.{nan, inf, fin}
use Rattle.std.specs.Float.Ieee.{up, down}
use Rattle.common.specs.declared.refusal.Refusal.{Refusal}
use Rattle.common.specs.Refusals.{number_of as refusal_number}
use Rattle.forcing.specs.declared.depth.Gauge.{Gauge}
use Rattle.forcing.specs.declared.depth.Gauge.TheVariants.{Rain, Pan}

-- ---- "The forcing list": depths

-- "the number's exact value", but for its sign, is the fraction numerator / denominator
unfoldable pub numerator : Float → ℕ
numerator nan = 0
numerator (inf s) = 0
numerator (fin s m e) = m * up e

unfoldable pub denominator : Float → ℕ
denominator nan = 1
denominator (inf s) = 1
denominator (fin s m e) = down e

-- "1000 times the number's exact value, to nearest, halves up", where that value is a / b
unfoldable pub nearest : ℕ → ℕ → ℕ
nearest a b = (2 * (1000 * a) + b) / (2 * b)

-- "Depth in µm", of a number that is from 0 to its limit
unfoldable pub depth_of : Float → ℕ
depth_of x = nearest (numerator x) (denominator x)

-- "Limits, judged before rounding: rain 1,000, pan 100"
abbrev pub limit_of : Gauge → ℕ
limit_of Rain = 1000
limit_of Pan = 100

-- "from 0 to their limits": finite, not below zero ("Minus zero is zero"), and the exact value at most the limit
unfoldable pub from_zero_to : ℕ → Float → Bool
from_zero_to limit nan = false
from_zero_to limit (inf s) = false
from_zero_to limit (fin s m e) = not (s && ltb 0 m) && leb (m * up e) (limit * down e)

-- ---- "Who sent it": gauge readers, and the depth call

-- "said to be rain or pan"
abbrev pub gauge_text : Gauge → List ℕ
gauge_text Rain = codes "rain"
gauge_text Pan = codes "pan"

-- "8 above its limit", where the exact value is a / b
unfoldable pub above_limit : ℕ → ℕ → ℕ → Bool
above_limit limit a b = ltb (limit * b) a

-- the number's refusal, 0 where there is none: "7 means a finite number below zero only", "Not a number gives 12 and an infinity of either
-- sign gives 13"
unfoldable pub number_of : ℕ → Float → ℕ
number_of limit nan = 12
number_of limit (inf s) = 13
number_of limit (fin s m e) = cond (s && ltb 0 m) 7 (cond (above_limit limit (m * up e) (down e)) 8 0)

-- a depth call's answer, the depth in µm: number and place are 0 where it is accepted
pub record Depth : Type 0 where
  pub number : ℕ
  pub place : ℕ
  pub depth : ℕ

abbrev pub answer : ℕ → ℕ → Depth
answer number depth = record { number = number; place = 0; depth = depth }

-- the depth of a number that is not refused, and "place 0, depth 0" of one that is
unfoldable pub answer_by : ℕ → ℕ → Depth
answer_by number depth = cond (eqb number 0) (answer 0 depth) (answer number 0)

-- "A depth call on one number, said to be rain or pan, gives 7, or 8 by that one's limit", and 12 and 13 "where 7 was, in the depth call
-- on one number too"
unfoldable pub depth_call : Float → Gauge → Depth
depth_call x said = answer_by (number_of (limit_of said) x) (depth_of x)

-- the number, place and depth that a call's result stands for
abbrev pub as_depth : Result ℕ Refusal → Depth
as_depth (Ok depth) = answer 0 depth
as_depth (Err why) = answer (refusal_number why) 0

-- "a finite number below zero"
unfoldable pub below_zero : Float → Bool
below_zero nan = false
below_zero (inf s) = false
below_zero (fin s m e) = s && ltb 0 m

-- what the documents say of the answer r, beside this rule
pub record JudgedNumber (x : Float) (said : Gauge) (r : Depth) : Type 0 where
  -- accepted exactly where the number is "from 0 to" its limit
  pub accepted : (r.number ≡ 0) ↔ (from_zero_to (limit_of said) x ≡ true)
  -- "Minus zero is zero": no digits, with either sign, are depth 0
  pub either_zero : (s : Bool) (e : ℤ) → x ≡ fin s 0 e → r ≡ answer 0 0
  -- "7 means a finite number below zero only"
  pub seven : (r.number ≡ 7) ↔ (below_zero x ≡ true)
  -- "Not a number gives 12"
  pub twelve : (r.number ≡ 12) ↔ (x ≡ nan)
  -- "and an infinity of either sign gives 13"
  pub thirteen : (r.number ≡ 13) ↔ ((x ≡ inf true) ⊎ (x ≡ inf false))
  -- "place 0, depth 0"
  pub refused : (r.number ≡ 0 → ⊥) → r ≡ answer r.number 0
