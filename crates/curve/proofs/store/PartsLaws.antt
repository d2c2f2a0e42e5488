-- The outflow as the code works it out, in numbers of 64 bits, whatever is added before the division. Assumes nothing.
use mathlib.Core.Path.{◌≡◌, ap}
use Prim.Native.Nat.{ℕ, ◌+◌, ◌*◌, ◌/◌, ◌%◌}
use native.Mathlib.Nat.{div-add-mod}
use native.Mathlib.Omega.{arith}
use Rattle.common.specs.Shares.{one}

-- with i and v parted at 16 bits: the high parts are whole multiples of 65,536, so dividing the rest divides the whole
pub outflow_parted : (a g v i h : ℕ) → a * (i / one) + g * (v / one) + (a * (i % one) + g * (v % one) + h) / one ≡ (a * i + g * v + h) / one
outflow_parted a g v i h = omega (arith, ap (λ (x : ℕ). a * x) (div-add-mod i one), ap (λ (x : ℕ). g * x) (div-add-mod v one))
