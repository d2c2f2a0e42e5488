-- Document 01, "The capacity curve", and its calls in "Who sent it".
use Rattle.std.specs.Prelude.{Bool, cond, ◌&&◌, List, Result, Ok, Err, ℕ, ◌+◌, ◌-◌, ◌*◌, ◌/◌, ◌%◌, min, leb, eqb}
use Rattle.common.specs.Shares.{one}
use Rattle.common.specs.Limits.{within}
use Rattle.common.specs.Loops.{run, table, greatest, smallest}
use Rattle.common.specs.Refusals.{number_of}
use Rattle.common.specs.declared.refusal.Refusal.{Refusal}

-- "greatest whole r with r × r ≤ t × 65,536"; such an r is at most t × 65,536 itself
unfoldable pub root : ℕ → ℕ
root t = greatest (λ r. leb (r * r) (t * one)) (t * one)

-- Document 02, No. 1: "1,024 roots: entry k, for k 0..1,023, is the greatest whole r with r × r ≤ k × 65,536"
unfoldable pub printed_roots : List ℕ
printed_roots = table root 0 1024 1024

-- "multiply by r and divide by 65,536"
abbrev pub by : ℕ → ℕ → ℕ
by x r = x * r / one

-- "Begin with 65,536. Multiply by t and divide by 65,536", k times
unfoldable pub whole : ℕ → ℕ → ℕ
whole t k = run (λ i x. by x t) k one

-- "where e mod 16 holds the bit b, multiply by r and divide by 65,536"
unfoldable pub part : ℕ → ℕ → ℕ → ℕ → ℕ
part e b r x = cond (eqb (e % 16 / b % 2) 1) (by x r) x

-- Power(t, e), with r1 = root of t, r2 = root of r1, r3 = root of r2, r4 = root of r3
unfoldable pub power : ℕ → ℕ → ℕ
power t e =
    part e 1 (root (root (root (root t))))
    (part e 2 (root (root (root t)))
    (part e 4 (root (root t))
    (part e 8 (root t)
    (whole t (e / 16)))))

-- the share (m − a) × 65,536 / m
unfoldable pub share_above : ℕ → ℕ → ℕ
share_above m a = (m - a) * one / m

-- Held(a) = c − c × Power((m − a) × 65,536 / m, e) / 65,536
unfoldable pub held : ℕ → ℕ → ℕ → ℕ → ℕ
held c m e a = c - c * power (share_above m a) e / one

-- Ordinate(w) is the greatest a with Held(a) ≤ w
unfoldable pub ordinate : ℕ → ℕ → ℕ → ℕ → ℕ
ordinate c m e w = greatest (λ a. leb (held c m e a) w) m

-- Document 02, No. 4: "c − c × Power(t, e) / 65,536", what is held below an ordinate with the share t above it
unfoldable pub held_at : ℕ → ℕ → ℕ → ℕ
held_at c e t = c - c * power t e / one

-- "t the least for which" that "is at most w"
unfoldable pub least_share : ℕ → ℕ → ℕ → ℕ
least_share c e w = smallest (λ t. leb (held_at c e t) w) one

-- "m less t × m / 65,536, this last division rounded up"
unfoldable pub last_above : ℕ → ℕ → ℕ
last_above m t = m - (t * m + (one - 1)) / one

-- "Held(min(Ordinate(w) + PE, m))": what is held once PE has come on top of w
unfoldable pub rise : ℕ → ℕ → ℕ → ℕ → ℕ → ℕ
rise c m e w pe = held c m e (min (ordinate c m e w + pe) m)

-- what a call answers: number and place are 0 where it is accepted
pub record Answer : Type 0 where
  pub number : ℕ
  pub place : ℕ
  pub value : ℕ

-- an accepted call
abbrev pub value : ℕ → Answer
value v = record { number = 0; place = 0; value = v }

-- 10, place 0; "Curve refusals report 0"
abbrev pub refused : Answer
refused = record { number = 10; place = 0; value = 0 }

-- the number, place and value that an answer stands for
abbrev pub as_answer : Result ℕ Refusal → Answer
as_answer (Ok v) = value v
as_answer (Err why) = record { number = number_of why; place = 0; value = 0 }

-- the calls: "t, e, a, w, c or m outside 0..65,536, 16..48, 0..m, 0..c, 1..500,000, 1..2,000,000"
abbrev pub least_e : ℕ
least_e = 16

abbrev pub most_e : ℕ
most_e = 48

abbrev pub most_c : ℕ
most_c = 500000

abbrev pub most_m : ℕ
most_m = 2000000

unfoldable pub root_call : ℕ → Answer
root_call t = cond (within 0 t one) (value (root t)) refused

unfoldable pub power_call : ℕ → ℕ → Answer
power_call t e = cond (within 0 t one && within least_e e most_e) (value (power t e)) refused

-- c, m and e inside their limits
unfoldable pub curve_in : ℕ → ℕ → ℕ → Bool
curve_in c m e = within 1 c most_c && within 1 m most_m && within least_e e most_e

unfoldable pub held_call : ℕ → ℕ → ℕ → ℕ → Answer
held_call c m e a = cond (curve_in c m e && within 0 a m) (value (held c m e a)) refused

unfoldable pub ordinate_call : ℕ → ℕ → ℕ → ℕ → Answer
ordinate_call c m e w = cond (curve_in c m e && within 0 w c) (value (ordinate c m e w)) refused
