-- The root: it is the greatest, it is unique, it grows with t; and Newton's step towards it from above. Assumes nothing.
use mathlib.Core.Path.{◌≡◌, sym, subst}
use Prim.Native.Nat.{ℕ, zero, suc, ◌+◌, ◌-◌, ◌*◌, ◌/◌, ◌≤◌, ◌<◌}
use native.Mathlib.Nat.{mul-div_cancel, mul-le-mul, mul-le-mul_left, lt-mul-div-succ, div-lt_iff_lt-mul}
use native.Mathlib.Decide.{dec_le}
use native.Mathlib.Omega.{arith}
use lib.Dec.{leb}
use borrow.Author.Tests.{le-leb, leb-true, leb-false}
use Rattle.common.specs.Shares.{one}
use Rattle.common.proofs.Greatest.{greatest_holds, greatest_above}
use Rattle.curve.specs.Capacity.{root}

-- the square of the root is at most t × 65,536
pub root_square : (t : ℕ) → root t * root t ≤ t * one
unfolding root
root_square t =
    leb-true _ _ (greatest_holds (λ r. leb (r * r) (t * one)) (t * one) (le-leb 0 (t * one) (omega arith)))

-- and the square of any greater number is more
pub root_above : (t j : ℕ) → root t < j → t * one < j * j
unfolding root
root_above t j h =
    elim (dec_le j (t * one)) as (λ _. t * one < j * j) [
      | yes l ↦ leb-false _ _ (greatest_above (λ r. leb (r * r) (t * one)) (t * one) j h l)
      | no n ↦ omega (arith, mul-le-mul_left {m = 1} {n = j} j (omega arith))
    ]

-- so nothing else is the root
pub root_unique : (t r : ℕ) → r * r ≤ t * one → t * one < (r + 1) * (r + 1) → root t ≡ r
root_unique t r h k =
    let less : ¬ (root t < r) = λ l. omega (arith, root_above t r l) in
    let square : r + 1 ≤ root t → (r + 1) * (r + 1) ≤ root t * root t = λ l. mul-le-mul l l in
    let more : ¬ (r < root t) = λ l. omega (arith, root_square t, square (omega arith)) in
    omega arith

-- what a square says of it
pub root_least : (t r : ℕ) → t * one < (r + 1) * (r + 1) → root t ≤ r
root_least t r h =
    let square : r + 1 ≤ root t → (r + 1) * (r + 1) ≤ root t * root t = λ l. mul-le-mul l l in
    let more : ¬ (r + 1 ≤ root t) = λ l. omega (arith, h, root_square t, square l) in
    omega arith

pub root_most : (t r : ℕ) → r * r ≤ t * one → r ≤ root t
root_most t r h =
    let less : ¬ (root t < r) = λ l. omega (arith, h, root_above t r l) in
    omega arith

pub root_mono : {s t : ℕ} → s ≤ t → root s ≤ root t
root_mono {s} {t} h = root_most t (root s) (omega (arith, h, root_square s))

-- of four times t it is twice as great
pub root_half : (t : ℕ) → root (t * 4) / 2 ≡ root t
root_half t =
    let r : ℕ = root (t * 4) in
    let h : ℕ = r / 2 in
    let even : 2 * h * (2 * h) ≤ r * r = mul-le-mul {n₁ = 2 * h} {m₁ = 2 * h} {n₂ = r} {m₂ = r} (omega arith) (omega arith) in
    let odd : (r + 1) * (r + 1) ≤ (2 * h + 2) * (2 * h + 2) =
    mul-le-mul {n₁ = r + 1} {m₁ = r + 1} {n₂ = 2 * h + 2} {m₂ = 2 * h + 2} (omega arith) (omega arith) in
    sym (root_unique t h (omega (arith, even, root_square (t * 4))) (omega (arith, odd, root_above (t * 4) (r + 1) (omega arith))))

pub root_one : root one ≡ one
root_one = root_unique one one (omega arith) (omega arith)

pub root_le_one : {t : ℕ} → t ≤ one → root t ≤ one
root_le_one h = omega (arith, root_mono h, root_one)

-- what has a number below its square is not 0
pub square_positive : (n r : ℕ) → n < r * r → 0 < r
square_positive n zero h = omega arith
square_positive n (suc r) h = omega arith

-- the arithmetic mean is at least the geometric one
pub mean : (x y : ℕ) → 4 * (x * y) ≤ (x + y) * (x + y)
mean x y =
    elim (dec_le x y) as (λ _. 4 * (x * y) ≤ (x + y) * (x + y)) [
      | yes l ↦ apart x (y - x) y (omega arith)
      | no n ↦ omega (arith, apart y (x - y) x (omega arith))
    ]
  where
    apart : (a d b : ℕ) → b ≡ a + d → 4 * (a * b) ≤ (a + b) * (a + b)
    apart a d b e = rw e (omega arith)

-- Newton's step from any r above 0 ends with its successor's square above n
pub newton_above : (n r : ℕ) → 0 < r → n < ((r + n / r) / 2 + 1) * ((r + n / r) / 2 + 1)
newton_above n r h =
    let q : ℕ = n / r in
    let s : ℕ = (r + q) / 2 in
    let below : n < r * (q + 1) = lt-mul-div-succ n h in
    omega (arith, mean r (q + 1), mul-le-mul {n₁ = r + (q + 1)} {m₁ = r + (q + 1)} {n₂ = 2 * (s + 1)} {m₂ = 2 * (s + 1)} (omega arith) (omega arith))

-- so does the first guess, the mean of t and 65,536, which is Newton's step from 65,536
pub newton_begins : (t : ℕ) → t * one < ((one + t) / 2 + 1) * ((one + t) / 2 + 1)
newton_begins t =
    subst (λ (q : ℕ). t * one < ((one + q) / 2 + 1) * ((one + q) / 2 + 1)) (mul-div_cancel t {n = one} (omega arith))
    (newton_above (t * one) one (omega arith))

-- and from one whose square is above n it goes down
pub newton_less : (n r : ℕ) → 0 < r → n < r * r → (r + n / r) / 2 < r
newton_less n r z h =
    let q : n / r < r = (div-lt_iff_lt-mul z).1 h in
    omega arith

-- what Newton's steps from the first guess need
pub ruleset newton = (root_unique, square_positive, newton_above, newton_begins, newton_less)
