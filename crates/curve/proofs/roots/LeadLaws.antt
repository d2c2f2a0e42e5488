-- The printed table and where it leads: each entry is the root of its place, and Newton's step from eight times an entry comes to the
-- root or to one more. Assumes nothing.
use mathlib.Core.Path.{◌≡◌, refl, sym, ap, subst, ◌∙◌}
use mathlib.Core.Bool.{Bool, true, ◌&&◌}
use mathlib.Core.List.{List}
use Prim.Native.Nat.{ℕ, suc, ◌+◌, ◌-◌, ◌*◌, ◌/◌, ◌≤◌, ◌<◌}
use native.Mathlib.Nat.{mul-le-mul, mul-le-mul_right, div-mul-le_self, le-div_iff_mul-le}
use native.Mathlib.Omega.{arith}
use lib.Dec.{leb}
use lib.ListN.{length, get_or}
use borrow.Author.Tests.{leb-true}
use Rattle.std.specs.Prelude.{Option, Some, None, IsSome}
use Rattle.common.specs.Shares.{one}
use Rattle.common.proofs.Limits.{parts}
use Rattle.common.proofs.Loops.{table_in}
use Rattle.common.proofs.Tables.{passes, passes_at, table_is}
use Rattle.curve.specs.Capacity.{root, printed_roots}
use Rattle.curve.specs.Workers.{Leads}
use Rattle.curve.proofs.capacity.RootLaws.{root_one, root_le_one, root_square, root_above, root_unique, root_least, root_most, square_positive, newton_above}

-- the table's rule: r is the greatest with r × r ≤ k × 65,536
abbrev pub right : ℕ → ℕ → Bool
right k r = leb (r * r) (k * one) && leb (suc (k * one)) ((r + 1) * (r + 1))

pub printed_is : (l : List ℕ) → length l ≡ 1024 → passes right 0 l ≡ true → l ≡ printed_roots
unfolding printed_roots
printed_is l e p =
    let entry : (k : ℕ) → k < 1024 → get_or l k 0 ≡ root k =
    λ k h. let r : ℕ = get_or l k 0 in
    let b = parts (leb (r * r) (k * one)) (leb (suc (k * one)) ((r + 1) * (r + 1))) (passes_at right l p k (omega (arith, e, h))) in
    sym (root_unique k r (leb-true _ _ b.0) (leb-true _ _ b.1)) in
    table_is root 1024 l e entry

pub printed_at : {l : List ℕ} → l ≡ printed_roots → (k : ℕ) → k < 1024 → get_or l k 0 ≡ root k
unfolding printed_roots
printed_at e k h = ap (λ (l : List ℕ). get_or l k 0) e ∙ table_in root 0 1024 1024 k h h

pub entry_most : (k : ℕ) → k < 1024 → root k < 8192
entry_most k h =
    let more : ¬ (8192 ≤ root k) = λ l. omega (arith, h, root_square k, mul-le-mul {n₁ = 8192} {m₁ = 8192} {n₂ = root k} {m₂ = root k} l l) in
    omega arith

pub entry_least : (k : ℕ) → 64 ≤ k → 2048 ≤ root k
entry_least k h = root_most k 2048 (omega (arith, h))

-- the square of what is one less than the mean of two near numbers is at most their product
near_mean : (lo d x : ℕ) → 16384 ≤ lo → d ≤ 300 → 2 * x + 2 ≤ 2 * lo + d → x * x ≤ lo * (lo + d)
near_mean lo d x l f h =
    let y : ℕ = 2 * lo + d - 2 in
    let sum : y + 2 ≡ 2 * lo + d = omega arith in
    let square : (y + 2) * (y + 2) ≡ (2 * lo + d) * (2 * lo + d) = ap (λ (n : ℕ). n * n) sum in
    let less : 2 * x * (2 * x) ≤ y * y = mul-le-mul {n₁ = 2 * x} {m₁ = 2 * x} {n₂ = y} {m₂ = y} (omega arith) (omega arith) in
    omega (arith, square, less, mul-le-mul {n₁ = d} {m₁ = d} {n₂ = 300} {m₂ = 300} f f)

-- t is one of the 64 arguments that entry k leads, k is 64 at least, and Newton's step is from r, eight times the entry
module _ (t k r : ℕ) (least : 64 * k ≤ t) (most : t < 64 * k + 64) (from : 64 ≤ k) (start : r ≡ root k * 8) where
  leads : 2048 ≤ root k
  leads = entry_least k from

  square : r * r ≡ 64 * (root k * root k)
  square = rw start (omega arith)

  abbrev q : ℕ
  q = t * one / r

  product : q * r ≤ t * one
  product = div-mul-le_self (t * one) r

  quotient_least : r ≤ q
  quotient_least = (le-div_iff_mul-le {k = r} {x = r} {y = t * one} (omega (arith, start, leads))).1 (omega (arith, least, square, root_square k))

  quotient_most : q ≤ r + 300
  quotient_most =
      let below : k * one < (root k + 1) * (root k + 1) = root_above k (root k + 1) (omega arith) in
      let more : ¬ (r + 301 ≤ q) =
      λ l. omega (arith, most, leads, below, start, square, product, mul-le-mul_right {m = r + 301} {n = q} r l) in
      omega (arith, more)

  pub step_least : root t ≤ (r + q) / 2
  step_least = root_least t ((r + q) / 2) (newton_above (t * one) r (omega (arith, start, leads)))

  pub step_most : (r + q) / 2 ≤ root t + 1
  step_most =
      let x : ℕ = (r + q) / 2 - 1 in
      let d : ℕ = q - r in
      let apart : q ≡ r + d = omega (arith, quotient_least) in
      let mean : x * x ≤ r * (r + d) =
      near_mean r d x (omega (arith, start, leads)) (omega (arith, quotient_most)) (omega (arith, start, leads, apart)) in
      let at_most : x ≤ root t = root_most t x (omega (arith, mean, product, ap (λ (n : ℕ). n * r) apart)) in
      omega (arith, at_most)

-- the printed table leads, to the root or one more
pub leads_some : (t : ℕ) (o : Option ℕ) {l : List ℕ} → Leads l t o → l ≡ printed_roots → IsSome o
leads_some t (Some r) h e = refl
leads_some t None h e = absurd (h e)

pub leads_to : (t : ℕ) {o : Option ℕ} {l : List ℕ} {r : ℕ} → Leads l t o → l ≡ printed_roots → o ≡ Some r → (root t ≤ r) × (r ≤ root t + 1)
leads_to t {l = l} h e is = (subst (λ (o : Option ℕ). Leads l t o) is h).1 e

-- what is the root or one more: its square tells which
module _ (t r : ℕ) (h : (root t ≤ r) × (r ≤ root t + 1)) where
  pub one_too_great : t * one < r * r → r - 1 ≡ root t
  one_too_great l =
      let other : ¬ (r ≡ root t) = λ e. omega (arith, root_square t, subst (λ (x : ℕ). t * one < x * x) e l) in
      omega (arith, h, other)

  pub not_too_great : r * r ≤ t * one → r ≡ root t
  not_too_great l = omega (arith, h, root_most t r l)

-- the number before one whose square is too great
pub root_before : (t r : ℕ) → (r - 1) * (r - 1) ≤ t * one → t * one < r * r → root t ≡ r - 1
root_before t r h l =
    let positive = square_positive (t * one) r l in
    let back : r ≡ r - 1 + 1 = omega (arith, positive) in
    root_unique t (r - 1) h (subst (λ (x : ℕ). t * one < x * x) back l)

-- what the way by the printed table needs
pub ruleset led = (root_one, root_le_one, leads_some, leads_to, one_too_great, not_too_great)
