-- The curve at numbers: each definition beside one that computes in a moment, and the law that both are one. A proof that opens the
-- fast one and rewrites by the law is a computation. Assumes nothing.
use mathlib.Core.Path.{◌≡◌, refl, ◌∙◌}
use mathlib.Core.Bool.{Bool, cond, ◌&&◌}
use Prim.Native.Nat.{ℕ, zero, suc, ◌+◌, ◌-◌, ◌*◌, ◌/◌, ◌<◌, min}
use native.Mathlib.Nat.{mul-le-mul}
use native.Mathlib.Omega.{arith}
use lib.Dec.{leb, ltb}
use borrow.Author.Tests.{le-leb, leb-true, ltb-true}
use Rattle.common.specs.Shares.{one}
use Rattle.common.specs.Loops.{run, greatest}
use Rattle.common.proofs.Limits.{by_test, parts}
use Rattle.common.proofs.Greatest.{fast_greatest, greatest_fast}
use Rattle.curve.specs.Capacity.{root, whole, part, power, share_above, held, ordinate, rise}
use Rattle.curve.proofs.capacity.RootLaws.{root_unique}
use Rattle.curve.proofs.capacity.HeldLaws.{held_mono, held_zero}

-- Newton's steps from r down to the root of n, k of them at most
newton : ℕ → ℕ → ℕ → ℕ
newton zero n r = r
newton (suc k) n r = cond (leb (r * r) n) r (newton k n ((r + n / r) / 2))

-- whether r is the root of t: the squares tell
is_root : ℕ → ℕ → Bool
is_root t r = leb (r * r) (t * one) && ltb (t * one) ((r + 1) * (r + 1))

-- by Newton's steps, and where they don't end, by halving
unfoldable pub fast_root : ℕ → ℕ
unfolding newton is_root fast_greatest
fast_root t =
    let r = newton 20 (t * one) ((one + t) / 2) in
    cond (is_root t r) r (fast_greatest (λ x. leb (x * x) (t * one)) (t * one))

pub root_fast : (t : ℕ) → root t ≡ fast_root t
unfolding root fast_root is_root
root_fast t =
    let r : ℕ = newton 20 (t * one) ((one + t) / 2) in
    by_test (λ (x : ℕ). root t ≡ x) (is_root t r)
    (λ h.
    let both = parts (leb (r * r) (t * one)) (ltb (t * one) ((r + 1) * (r + 1))) h in
    root_unique t r (leb-true (r * r) (t * one) both.0) (ltb-true (t * one) ((r + 1) * (r + 1)) both.1))
    (λ _.
    greatest_fast (λ x. leb (x * x) (t * one)) (t * one) (le-leb 0 (t * one) (omega arith))
    (λ i j l _ k. le-leb (i * i) (t * one) (omega (arith, leb-true (j * j) (t * one) k, mul-le-mul {n₁ = i} {m₁ = i} {n₂ = j} {m₂ = j} l l))))

unfoldable pub fast_power : ℕ → ℕ → ℕ
unfolding fast_root part whole run
fast_power t e =
    let r1 = fast_root t in
    let r2 = fast_root r1 in
    let r3 = fast_root r2 in
    part e 1 (fast_root r3) (part e 2 r3 (part e 4 r2 (part e 8 r1 (whole t (e / 16)))))

pub power_fast : (t e : ℕ) → power t e ≡ fast_power t e
unfolding power fast_power
power_fast t e = simp root_fast

unfoldable pub fast_held : ℕ → ℕ → ℕ → ℕ → ℕ
unfolding fast_power share_above
fast_held c m e a = c - c * fast_power (share_above m a) e / one

pub held_fast : (c m e a : ℕ) → held c m e a ≡ fast_held c m e a
unfolding held fast_held
held_fast c m e a = rw power_fast

unfoldable pub fast_ordinate : ℕ → ℕ → ℕ → ℕ → ℕ
unfolding fast_greatest fast_held
fast_ordinate c m e w = fast_greatest (λ a. leb (fast_held c m e a) w) m

pub ordinate_fast : (c m e w : ℕ) → ordinate c m e w ≡ fast_ordinate c m e w
unfolding ordinate fast_ordinate greatest
ordinate_fast c zero e w = refl
ordinate_fast c (suc n) e w =
    let m : ℕ = suc n in
    let z : 0 < m = omega arith in
    greatest_fast (λ a. leb (held c m e a) w) m (le-leb (held c m e 0) w (omega (arith, held_zero c m e z)))
    (λ i j l _ h. le-leb (held c m e i) w (omega (arith, leb-true (held c m e j) w h, held_mono c m e {a = i} {b = j} z l)))
    ∙ simp held_fast

unfoldable pub fast_rise : ℕ → ℕ → ℕ → ℕ → ℕ → ℕ
unfolding fast_ordinate
fast_rise c m e w pe = fast_held c m e (min (fast_ordinate c m e w + pe) m)

pub rise_fast : (c m e w pe : ℕ) → rise c m e w pe ≡ fast_rise c m e w pe
unfolding rise fast_rise
rise_fast c m e w pe = simp (ordinate_fast, held_fast)
