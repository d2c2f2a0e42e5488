-- Snow: rain and the snow that lay are P and the snow that lies; P and the snow stay within their marks; and at the threshold the rain is all
-- of P. Assumes nothing.
use mathlib.Core.Bool.{false}
use mathlib.Core.Path.{◌≡◌}
use Prim.Native.Nat.{ℕ, ◌+◌, ◌≤◌}
use native.Mathlib.Omega.{arith}
use lib.IntN.{ℤ, pos}
use Rattle.std.specs.Prelude.{int_lt, nat_abs, ◌-ℤ◌}
use Rattle.std.proofs.lemmas.Int.{ints}
use Rattle.common.specs.Weather.{most_rain}
use Rattle.common.proofs.Limits.{by_test}
use Rattle.subbasin.specs.declared.record.Parameters.{Parameters}
use Rattle.subbasin.specs.declared.snow.Snow.{Snow}
use Rattle.subbasin.specs.Record.{snow_mark}
use Rattle.subbasin.specs.Snow.{joined, melt, melted, most_p, snow}

-- nothing is lost, and P and SN stay within their marks
pub record Snows (sn rain : ℕ) (n : Snow) : Type 0 where
  pub balance : sn + rain ≡ n.sn + n.p
  pub p_most : n.p ≤ most_p
  pub sn_most : n.sn ≤ snow_mark

pub snows : (p : Parameters) (sn rain : ℕ) (t : ℤ) → sn ≤ snow_mark → rain ≤ most_rain → Snows sn rain (snow p sn rain t)
unfolding snow joined melt melted
snows p sn rain t l h = by_test (Snows sn rain) (int_lt t (pos p.threshold)) (λ _. omega arith) (λ _. omega arith)

-- neither snow falls nor any melts
same : {p p' sn sn' : ℕ} → p ≡ p' → sn ≡ sn' → ◌≡◌ {A = Snow} (record { p = p; sn = sn }) (record { p = p'; sn = sn' })
same a b = rw (a, b)

pub snow_none : (p : Parameters) (sn rain : ℕ) → rain ≤ most_rain → snow p sn rain (pos p.threshold) ≡ record { p = rain; sn = sn }
unfolding snow melt melted
snow_none p sn rain h =
    let none : nat_abs (pos p.threshold -ℤ pos p.threshold) ≡ 0 = omega (arith, ints) in
    let not_below : int_lt (pos p.threshold) (pos p.threshold) ≡ false = grind (arith, ints) in
    rw (not_below, none) (same (omega arith) (omega arith))
