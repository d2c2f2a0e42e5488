-- An air temperature in degrees Celsius: document 02, No. 8. It is kept in thousandths of a degree, a whole number of either sign.
use Rattle.std.specs.Prelude.{ℕ, ◌*◌, ◌/◌, ◌≡◌, Bool, true, false, cond, ◌&&◌, ◌↔◌, ℤ, pos, negsuc, neg_ℤ, ◌+ℤ◌, ◌-ℤ◌, ◌*ℤ◌, ◌≤ℤ◌, ◌<ℤ◌, int_le, Float, Result, Ok, Err}
use Rattle.std.specs.Float.{nan, inf, fin}
use Rattle.std.specs.Float.Ieee.{down}
use Rattle.common.specs.declared.refusal.Refusal.{Refusal}
use Rattle.common.specs.Refusals.{number_of as refusal_number}
use Rattle.common.specs.Weather.{least_temperature, most_temperature}
use Rattle.forcing.specs.Depth.{numerator, denominator}

-- a number's sign: of one below zero, and of minus zero
abbrev pub sign_of : Float → Bool
sign_of nan = false
sign_of (inf s) = s
sign_of (fin s m e) = s

-- n, or −n where it is below zero
abbrev pub signed : Bool → ℕ → ℤ
signed below n = cond below (neg_ℤ (pos n)) (pos n)

-- "the exact value" is the fraction whole / denominator
unfoldable pub whole : Float → ℤ
whole x = signed (sign_of x) (numerator x)

-- "from −80 to 60 judged before rounding", where that value is x / b
unfoldable pub in_range : ℤ → ℕ → Bool
in_range x b = int_le (neg_ℤ (pos 80) *ℤ pos b) x && int_le x (pos 60 *ℤ pos b)

-- "no number, infinite or outside its range" is none
unfoldable pub is_temperature : Float → Bool
is_temperature nan = false
is_temperature (inf s) = false
is_temperature (fin s m e) = in_range (whole (fin s m e)) (down e)

-- a whole number of either sign over d, rounded down: −(a + 1) over d is −(a / d + 1)
abbrev pub floor : ℤ → ℕ → ℤ
floor (pos a) d = pos (a / d)
floor (negsuc a) d = negsuc (a / d)

-- "turned into thousandths to nearest, halves up", where the value is x / b
unfoldable pub nearest_whole : ℤ → ℕ → ℤ
nearest_whole x b = floor (pos 2 *ℤ (pos 1000 *ℤ x) +ℤ pos b) (2 * b)

-- of a number that is a temperature
unfoldable pub thousandths : Float → ℤ
thousandths x = nearest_whole (whole x) (denominator x)

-- its refusal, 0 where there is none: "gives 14"
unfoldable pub temperature_number : Float → ℕ
temperature_number x = cond (is_temperature x) 0 14

-- a temperature call's answer: number and place are 0 where it is accepted
pub record Temperature : Type 0 where
  pub number : ℕ
  pub place : ℕ
  pub temperature : ℤ

abbrev pub answer : ℕ → ℤ → Temperature
answer number temperature = record { number = number; place = 0; temperature = temperature }

-- the temperature call
unfoldable pub temperature_call : Float → Temperature
temperature_call x = cond (is_temperature x) (answer 0 (thousandths x)) (answer 14 (pos 0))

-- the number, place and temperature that a call's result stands for
abbrev pub as_temperature : Result ℤ Refusal → Temperature
as_temperature (Ok t) = answer 0 t
as_temperature (Err why) = answer (refusal_number why) (pos 0)

-- t is the whole number nearest to 1000 times x / b, of two that are as near the upper: t − 1/2 ≤ 1000 × x / b < t + 1/2
pub record NearestUp (x : ℤ) (b : ℕ) (t : ℤ) : Type 0 where
  pub least : ((pos 2 *ℤ t -ℤ pos 1) *ℤ pos b) ≤ℤ (pos 2000 *ℤ x)
  pub most : (pos 2000 *ℤ x) <ℤ ((pos 2 *ℤ t +ℤ pos 1) *ℤ pos b)

-- what document 02 says of the answer r, beside this rule
pub record JudgedTemperature (x : Float) (r : Temperature) : Type 0 where
  pub accepted : (r.number ≡ 0) ↔ (is_temperature x ≡ true)
  -- "to nearest, halves up", on both sides of zero
  pub rounded : r.number ≡ 0 → NearestUp (whole x) (denominator x) r.temperature
  -- what is in the range stays in it
  pub least : r.number ≡ 0 → least_temperature ≤ℤ r.temperature
  pub most : r.number ≡ 0 → r.temperature ≤ℤ most_temperature
  -- "no number, infinite or outside its range gives 14"
  pub refused : (r.number ≡ 0 → ⊥) → r ≡ answer 14 (pos 0)
