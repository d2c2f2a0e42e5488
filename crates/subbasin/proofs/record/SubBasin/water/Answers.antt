-- `subbasin::record::SubBasin::water` meets its contract: a sum of sums that stop at 2^64 − 1 stops there too. Assumes nothing.
use mathlib.Core.Path.{◌≡◌, ap, ◌∙◌}
use mathlib.Core.List.{[], ◌∷◌}
use Prim.Native.Nat.{ℕ, zero, suc, ◌-◌, ◌*◌, ◌^◌, ◌≤◌}
use native.Mathlib.Decide.{dec_le}
use native.Mathlib.Nat.{mul-le-mul_right}
use native.Mathlib.Omega.{arith}
use Rattle.common.specs.Amounts.{sum, capped}
use Rattle.subbasin.specs.declared.record.SubBasin.{SubBasin}
use Rattle.subbasin.specs.Content.{water_depth, water}
use Rattle.subbasin.proofs.record.SubBasin.water.Goals as goal

times_capped : (a b : ℕ) {x r : ℕ} → x ≡ capped b → r ≡ capped (a * x) → r ≡ capped (a * b)
times_capped zero b e f = omega arith
times_capped (suc a) b {x} {r} e f = go (dec_le b (2 ^ 64 - 1))
  where
    go : Dec (b ≤ 2 ^ 64 - 1) → r ≡ capped (suc a * b)
    go (yes l) = let same : x ≡ b = omega arith in f ∙ ap (λ (y : ℕ). capped (suc a * y)) same
    go (no n) =
        let most : x ≡ 2 ^ 64 - 1 = omega arith in
        omega (arith, mul-le-mul_right {m = 1} {n = suc a} x (omega arith), mul-le-mul_right {m = 1} {n = suc a} b (omega arith))

whole : (s : SubBasin) {d soil wait all : ℕ} → d ≡ capped (water_depth s.contents) → soil ≡ capped (s.fixed.area * d) → wait ≡ capped (sum s.line.waiting)
    → all ≡ capped (sum (soil ∷ wait ∷ s.channel ∷ [])) → all ≡ capped (water s)
unfolding sum water
whole s ed es ew ea = omega (arith, times_capped s.fixed.area (water_depth s.contents) ed es)

pub returns : goal.returns
returns c = whole _ c.depth.ensures c.saturating_mul-soil.ensures c.total.ensures c.total-2.ensures
