-- A number is refused exactly where it is not from 0 to its limit, and what it comes to otherwise.
-- Assumes nothing.
use mathlib.Core.Path.{◌≡◌, refl, sym, ap, ◌∙◌}
use mathlib.Core.Bool.{Bool, true, false, not, ◌&&◌, true≢false}
use Prim.Native.Nat.{ℕ, zero, suc, ◌+◌, ◌*◌, ◌/◌, ◌≤◌, ◌<◌}
use native.Mathlib.Nat.{le_of_suc-le-suc, div-lt_iff_lt-mul, div-eq_of_lt, mul-pos}
use native.Mathlib.Omega.{arith}
use borrow.Author.Tests.{leb-true, le-leb, eq-eqb}
use lib.Dec.{ltb, leb, eqb-suc-zero}
use lib.IntN.{ℤ}
use lib.Ieee.{Float, nan, inf, fin, up, down}
use lib.Ieee.Fits.{down_pos}
use Rattle.common.proofs.Limits.{refuted, parts}
use Rattle.forcing.specs.declared.depth.Gauge.{Gauge}
use Rattle.forcing.specs.Depth.{Depth, numerator, denominator, nearest, depth_of, limit_of, from_zero_to}
use Rattle.forcing.specs.Depth.{number_of, answer, answer_by, depth_call, JudgedNumber}
use Rattle.forcing.proofs.depth.NumberLaws.{number_test, seven, twelve, thirteen}

-- 1000 times a value up to the limit, to nearest, is at most 1000 times the limit
pub depth_le : (limit : ℕ) (x : Float) → from_zero_to limit x ≡ true → depth_of x ≤ 1000 * limit
unfolding depth_of nearest numerator denominator from_zero_to
depth_le limit nan h = absurd (true≢false (sym h))
depth_le limit (inf s) h = absurd (true≢false (sym h))
depth_le limit (fin s m e) h =
    let most = (parts (not (s && ltb 0 m)) (leb (m * up e) (limit * down e)) h).1 in
    le_of_suc-le-suc
    ((div-lt_iff_lt-mul (mul-pos {m = 2} (omega arith) (down_pos e))).1
    (bound (m * up e) (down e) (leb-true (m * up e) (limit * down e) most) (down_pos e)))
  where
    bound : (a d : ℕ) → a ≤ limit * d → 0 < d → 2 * (1000 * a) + d < suc (1000 * limit) * (2 * d)
    bound a d l p = omega arith

-- ---- the parts of an answer

pub answer_number : {p : Depth} (number depth : ℕ) → p ≡ answer_by number depth → p.number ≡ number
unfolding answer_by
answer_number zero depth e = ap (λ (p : Depth). p.number) e
answer_number (suc number) depth e = ap (λ (p : Depth). p.number) e ∙ rw (eqb-suc-zero number)

pub answer_depth : {p : Depth} (number depth : ℕ) → p ≡ answer_by number depth → p.number ≡ 0 → p.depth ≡ depth
unfolding answer_by
answer_depth number depth e h = ap (λ (p : Depth). p.depth) e ∙ rw (sym (answer_number number depth e) ∙ h)

-- ---- the depth call, on a number from 0 to its limit and on any other

module _ (x : Float) (said : Gauge) where
  pub depth_call_accepted : from_zero_to (limit_of said) x ≡ true → depth_call x said ≡ answer 0 (depth_of x)
  unfolding depth_call answer_by
  depth_call_accepted h = rw (number_test (limit_of said) x, h)

  pub depth_call_refused : from_zero_to (limit_of said) x ≡ false → depth_call x said ≡ answer (number_of (limit_of said) x) 0
  unfolding depth_call answer_by
  depth_call_refused h = rw (number_test (limit_of said) x, h)

-- "Minus zero is zero"
zero_inside : (limit : ℕ) (s : Bool) (e : ℤ) → from_zero_to limit (fin s 0 e) ≡ true
unfolding from_zero_to
zero_inside limit true e = le-leb (0 * up e) (limit * down e) (omega arith)
zero_inside limit false e = le-leb (0 * up e) (limit * down e) (omega arith)

zero_depth : (s : Bool) (e : ℤ) → depth_of (fin s 0 e) ≡ 0
unfolding depth_of nearest numerator denominator
zero_depth s e = none (down e) (down_pos e)
  where
    none : (d : ℕ) → 0 < d → (2 * (1000 * (0 * up e)) + d) / (2 * d) ≡ 0
    none d p = div-eq_of_lt (omega arith)

zero_call : (said : Gauge) (s : Bool) (e : ℤ) → depth_call (fin s 0 e) said ≡ answer 0 0
zero_call said s e = depth_call_accepted (fin s 0 e) said (zero_inside (limit_of said) s e) ∙ ap (answer 0) (zero_depth s e)

-- what the documents say of it, in the contract of `depth_of`
module _ (x : Float) (said : Gauge) where
  pub call_number : (depth_call x said).number ≡ number_of (limit_of said) x
  unfolding depth_call
  call_number = answer_number (number_of (limit_of said) x) (depth_of x) refl

  pub call_depth : {d : ℕ} → answer 0 d ≡ depth_call x said → d ≡ depth_of x
  unfolding depth_call
  call_depth e = answer_depth (number_of (limit_of said) x) (depth_of x) e refl

  call_zeros : ((depth_call x said).number ≡ 0 → ⊥) → depth_call x said ≡ answer (depth_call x said).number 0
  call_zeros h =
      depth_call_refused x said
      (refuted (from_zero_to (limit_of said) x) (λ t. h (ap (λ (p : Depth). p.number) (depth_call_accepted x said t))))
      ∙ ap (λ (number : ℕ). answer number 0) (sym call_number)

  pub call_judged : JudgedNumber x said (depth_call x said)
  call_judged =
      record {
        accepted = (
          λ h. sym (number_test (limit_of said) x) ∙ eq-eqb (number_of (limit_of said) x) 0 (sym call_number ∙ h),
          λ h. ap (λ (p : Depth). p.number) (depth_call_accepted x said h),
        );
        either_zero = λ s e z. rw z (zero_call said s e);
        seven = rw call_number (seven (limit_of said) x);
        twelve = rw call_number (twelve (limit_of said) x);
        thirteen = rw call_number (thirteen (limit_of said) x);
        refused = call_zeros;
      }

  -- an accepted depth is at most its limit
  pub call_depth_le : (depth_call x said).number ≡ 0 → (depth_call x said).depth ≤ 1000 * limit_of said
  call_depth_le z =
      let inside = call_judged.accepted.0 z in
      rw (depth_call_accepted x said inside) (depth_le (limit_of said) x inside)
