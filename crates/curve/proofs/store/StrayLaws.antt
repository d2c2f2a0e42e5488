-- How far a store strays from the store law without rounding, once for all shares. Assumes nothing.
use mathlib.Core.Path.{◌≡◌, refl, ap}
use Prim.Native.Nat.{ℕ, ◌+◌, ◌-◌, ◌*◌, ◌^◌, ◌≤◌, ◌<◌}
use native.Mathlib.Nat.{mul-sub, mul-le-mul_left, mul-le-mul_right, pow-succ', pow-le-pow_left}
use native.Mathlib.Omega.{arith}
use Rattle.std.specs.Prelude.{List, [], ◌∷◌, length}
use Rattle.std.specs.Int.{abs_diff}
use Rattle.common.specs.Shares.{one}
use Rattle.curve.specs.declared.store.Store.{Store}
use Rattle.curve.specs.Store.{outflow, content, most_content, store_in, store_call}
use Rattle.curve.specs.Stray.{after, RefusesNone, numerator, distance, Bounded, bound, Nears, Strays}
use Rattle.curve.proofs.store.StoreLaws.{half, slack, store_rounds}
use Rattle.curve.proofs.store.InflowLaws.{accepted}
use Rattle.curve.proofs.store.NearLaws.{level_of, filling, filled}

-- ---- one inflow, over plain numbers, a' and g' being the rest of the shares

-- N(k + 1) over 65,536^(k + 1) is V + I − (a × I + g × V) / 65,536, V being N(k) over 65,536^k
unrounded_is : (a a' g g' n i p : ℕ) → a + a' ≡ one → g + g' ≡ one → n * g' + i * a' * p + (a * (i * p) + g * n) ≡ one * (n + i * p)
unrounded_is a a' g g' n i p ea eg = omega (arith, ap (λ (x : ℕ). x * (i * p)) ea, ap (λ (x : ℕ). x * n) eg)

-- of a difference x - y a step keeps g' parts of 65,536 and adds b of them at most: g times it stays within b
drift : (g g' x y x' y' b : ℕ) → g + g' ≡ one → x' + g' * y ≤ y' + g' * x + b → g * x ≤ g * y + b → g * x' ≤ g * y' + one * b
drift g g' x y x' y' b eg step before = omega (arith, mul-le-mul_left g step, mul-le-mul_left g' before, ap (λ (n : ℕ). n * b) eg)

-- ---- a list of inflows

-- how far the content is below the unrounded one, and how far above
record Sides (s : Store) (l : List ℕ) : Type 0 where
  below : s.g * numerator s l ≤ s.g * ((after s l).content * one ^ length l) + half * one ^ length l
  above : s.g * ((after s l).content * one ^ length l) ≤ s.g * numerator s l + slack * one ^ length l

sides : (s : Store) (l : List ℕ) → RefusesNone s l → Sides s l
unfolding RefusesNone after numerator
sides s [] _ = record { below = omega arith; above = omega arith }
sides s (i ∷ l) (before, last) =
    let h = sides s l before in
    let taken = accepted s i l last in
    let v = (after s l).content in
    let v' = content s.a s.g v i in
    let n = numerator s l in
    let p = one ^ length l in
    let n' = n * (one - s.g) + i * (one - s.a) * p in
    let eg : s.g + (one - s.g) ≡ one = omega (arith, taken.g_in) in
    let r = store_rounds taken.a_in taken.g_in v i in
    let less = drift s.g _ n (v * p) n' (v' * (one * p)) (half * p) eg (omega (arith, mul-le-mul_right p r.0)) (omega (arith, h.below)) in
    let more = drift s.g _ (v * p) n (v' * (one * p)) n' (slack * p) eg (omega (arith, mul-le-mul_right p r.1)) (omega (arith, h.above)) in
    let power = pow-succ' one (length l) in
    record { below = rw (taken.content_is, power) (omega (arith, less)); above = rw (taken.content_is, power) (omega (arith, more)) }

-- both together are the bound
at_most : (g x y b : ℕ) → g * x ≤ g * y + b → g * y ≤ g * x + b → g * abs_diff x y ≤ b
at_most g x y b hx hy = omega (arith, mul-sub g x y, mul-sub g y x, hx, hy)

stray_bounded : (s : Store) (l : List ℕ) → RefusesNone s l → Bounded bound s l
stray_bounded s l none = let h = sides s l none in at_most s.g _ _ (bound * one ^ length l) (omega (arith, h.above)) (omega (arith, h.below))

-- ---- how near it comes

-- a store that comes as far as the bound by one inflow of 1
abbrev furthest : Store
furthest = record { a = 32768; g = 65536; content = 0 }

furthest_none : RefusesNone furthest (1 ∷ [])
unfolding RefusesNone after store_call store_in
furthest_none = (tt, refl)

furthest_strays : furthest.g * distance furthest (1 ∷ []) ≡ bound * one ^ 1
unfolding after store_call store_in content outflow numerator
furthest_strays = refl

bound_least : (b : ℕ) → ((t : Store) (l : List ℕ) → t.a ≤ t.g → 1 ≤ t.g → t.g ≤ one → RefusesNone t l → Bounded b t l) → bound ≤ b
bound_least b all = omega (arith, all furthest (1 ∷ []) (omega arith) (omega arith) (omega arith) furthest_none, furthest_strays)

-- and how near one comes by k inflows, where both shares are 65,536 less one recession of 1..65,535
comes_near : (s : Store) → s.a ≡ s.g → 1 ≤ s.g → s.g < one → s.content ≤ most_content → (k : ℕ) → Nears s k
comes_near s same some below fits k =
    let v = level_of s.g s.content refl some below in
    let l = filling s v.level k in
    let h = filled s same some below fits v k in
    let x = (after s l).content * one ^ length l in
    let y = numerator s l in
    let less : (one - s.g) ^ length l ≤ one ^ length l = pow-le-pow_left (omega arith) (length l) in
    let comes : s.g * distance s l + bound * (one - s.g) ^ length l ≡ bound * one ^ length l = omega (arith, mul-sub s.g x y, mul-sub s.g y x, h.comes, less) in
    record { inflows = l; many = h.many; none = h.none; comes = comes }

pub strays : (s : Store) → Strays s
unfolding numerator
strays s =
    record {
      unrounded = λ i l a_in g_in. unrounded_is s.a _ s.g _ (numerator s l) i (one ^ length l) (omega (arith, a_in)) (omega (arith, g_in));
      bounded = stray_bounded s;
      least = bound_least;
      nears = comes_near s;
    }
