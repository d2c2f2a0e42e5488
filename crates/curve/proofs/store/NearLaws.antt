-- How near a store comes to the bound, where both shares are 65,536 less one recession of 1..65,535: each inflow fills it up to a level of
-- which the share is a half above a whole number, so that every outflow is a half too great. Assumes nothing.
use mathlib.Core.Path.{◌≡◌, refl, ap}
use Prim.Native.Nat.{ℕ, zero, suc, ◌+◌, ◌-◌, ◌*◌, ◌/◌, ◌%◌, ◌^◌, ◌≤◌, ◌<◌}
use native.Mathlib.Nat.{mul-le-mul_right, pow-zero, pow-succ'}
use native.Mathlib.Decide.{ℕ_discrete}
use native.Mathlib.Omega.{arith}
use Rattle.std.specs.Prelude.{List, [], ◌∷◌, length}
use Rattle.common.specs.Shares.{one}
use Rattle.curve.specs.declared.store.Store.{Store}
use Rattle.curve.specs.Store.{content, most_content, Released}
use Rattle.curve.specs.Stray.{after, RefusesNone, numerator}
use Rattle.curve.proofs.store.StoreLaws.{StoreIn, half, store_rounds, store_accepts}
use Rattle.curve.proofs.store.InflowLaws.{after_shares, accepted}

-- ---- the level

-- an amount of which the share g, in parts of 2^(n + 1), is a half above a whole number
record HalfAbove (n g : ℕ) : Type 0 where
  amount : ℕ
  whole : ℕ
  amount_le : amount ≤ 2 ^ n
  is : g * amount ≡ 2 * 2 ^ n * whole + 2 ^ n

half_above : (n g : ℕ) → 1 ≤ g → g < 2 * 2 ^ n → HalfAbove n g
half_above zero g some below = record { amount = 1; whole = 0; amount_le = omega arith; is = omega arith }
half_above (suc n) g some below = go (half_above n (g / 2)) (ℕ_discrete (g % 2) 0)
  where
    power : 2 ^ suc n ≡ 2 * 2 ^ n
    power = pow-succ' 2 n

    go : (1 ≤ g / 2 → g / 2 < 2 * 2 ^ n → HalfAbove n (g / 2)) → Dec (g % 2 ≡ 0) → HalfAbove (suc n) g
    go of_half (yes even) =
        let h = of_half (omega (arith, even)) (omega (arith, power, below)) in
        let g-is : g ≡ 2 * (g / 2) = omega (arith, even) in
        record {
          amount = h.amount;
          whole = h.whole;
          amount_le = omega (arith, power, h.amount_le);
          is = omega (arith, h.is, power, ap (λ (x : ℕ). x * h.whole) power, ap (λ (x : ℕ). x * h.amount) g-is);
        }
    go _ (no odd) =
        let g-is : g ≡ 2 * (g / 2) + 1 = omega (arith, odd) in
        record { amount = 2 ^ suc n; whole = g / 2; amount_le = omega arith; is = omega (arith, ap (λ (x : ℕ). x * 2 ^ suc n) g-is) }

-- and one that is no less than the content v
pub record Level (g v : ℕ) : Type 0 where
  pub level : ℕ
  out : ℕ
  above : v ≤ level
  near : level ≤ v + one + half
  is : g * level + half ≡ one * out

pub level_of : (g v : ℕ) → half ≡ 2 ^ 15 → 1 ≤ g → g < one → Level g v
level_of g v half_is some below =
    let h = half_above 15 g some below in
    record {
      level = h.amount + one * (v / one + 1);
      out = h.whole + 1 + g * (v / one + 1);
      above = omega arith;
      near = omega (arith, h.amount_le, half_is);
      is = omega (arith, h.is, half_is);
    }

-- ---- the inflows

-- k inflows, each of which fills the content up to the level
pub filling : Store → ℕ → ℕ → List ℕ
filling s level zero = []
filling s level (suc k) = let l = filling s level k in (level - (after s l).content) ∷ l

-- over plain numbers, a' and g' being the rest of the shares and c the content after: g times the difference is the half less what x stands for
nearer : (g a' g' v i c n p x : ℕ) → a' ≡ g' → g + g' ≡ one → one * c + half ≡ g' * (v + i) → g * (v * p) + half * p ≡ g * n + half * x
    → g * (c * (one * p)) + half * (one * p) ≡ g * (n * g' + i * a' * p) + half * (g' * x)
nearer g a' g' v i c n p x same eg kept before =
    omega (arith, ap (λ (y : ℕ). g' * y) before, ap (λ (y : ℕ). g * p * y) kept, ap (λ (y : ℕ). y * (g * i * p)) same, ap (λ (y : ℕ). y * p) eg)

-- What is right of k such inflows l.
pub record Filled (s : Store) (level k : ℕ) (l : List ℕ) : Type 0 where
  pub many : length l ≡ k
  pub none : RefusesNone s l
  low : (after s l).content ≤ level
  inside : (after s l).content ≤ most_content
  pub comes : s.g * ((after s l).content * one ^ length l) + half * one ^ length l ≡ s.g * numerator s l + half * (one - s.g) ^ length l

module _ (s : Store) (same : s.a ≡ s.g) (some : 1 ≤ s.g) (below : s.g < one) (fits : s.content ≤ most_content) where
  pub filled : (v : Level s.g s.content) (k : ℕ) → Filled s v.level k (filling s v.level k)
  unfolding filling RefusesNone after numerator
  filled v zero = record { many = refl; none = tt; low = v.above; inside = fits; comes = omega (arith, pow-zero one, pow-zero (one - s.g)) }
  filled v (suc k) =
      let l = filling s v.level k in
      let h = filled v k in
      let t = after s l in
      let i = v.level - t.content in
      let shares = after_shares s l in
      let inside : StoreIn t i = record { a_in = omega (arith, shares.0, same, below); g_in = omega (arith, shares.1, below); inflow_in = omega (arith, v.near, fits); content_in = h.inside } in
      let none = ap (λ (r : Released). r.number) (store_accepts t i inside) in
      let taken = accepted s i l none in
      let r = store_rounds taken.a_in taken.g_in t.content i in
      let eg : s.g + (one - s.g) ≡ one = omega (arith, below) in
      let parts = ap (λ (x : ℕ). x * v.level) eg in
      let full : t.content + i ≡ v.level = omega (arith, h.low) in
      let share = ap (λ (x : ℕ). (one - s.g) * x) full in
      let kept : one * content s.a s.g t.content i + half ≡ (one - s.g) * (t.content + i) = omega (arith, r.0, r.1, v.is, parts, share, ap (λ (x : ℕ). (one - x) * i) same) in
      record {
        many = ap suc h.many;
        none = (h.none, none);
        low = omega (arith, taken.content_is, kept, parts, share);
        inside = omega (arith, taken.content_is, kept, parts, share, v.near, fits, mul-le-mul_right v.level some);
        comes = rw (taken.content_is, pow-succ' one (length l), pow-succ' (one - s.g) (length l))
            (nearer s.g _ _ t.content i _ (numerator s l) (one ^ length l) ((one - s.g) ^ length l) (omega (arith, same)) eg kept h.comes);
      }
