-- Document 01, "One sub-basin, one step": free water, what is kept of it and what drains.
use Rattle.std.specs.Prelude.{ℕ, ◌+◌, ◌-◌, ◌*◌, ◌/◌, min, cond, ltb}
use Rattle.common.specs.Shares.{one}
use Rattle.curve.specs.Capacity.{rise}
use Rattle.subbasin.specs.declared.record.Parameters.{Parameters}
use Rattle.subbasin.specs.declared.free_water.Drained.{Drained}

-- "m = MS = SM × XN / 16"
unfoldable pub ms : Parameters → ℕ
ms p = p.sm * p.xn / 16

-- "S = min(SM, G × PE / R)"
unfoldable pub level : Parameters → ℕ → ℕ → ℕ → ℕ
level p g pe r = min p.sm (g * pe / r)

-- "R > 0: S2 = Held(min(Ordinate(S) + PE, MS)), keep = min(G + R, S2 × R / PE). If R = 0, keep = G"
unfoldable pub keep : Parameters → ℕ → ℕ → ℕ → ℕ
keep p g pe r = cond (ltb 0 r) (min (g + r) (rise p.sm (ms p) p.xn (level p g pe r) pe * r / pe)) g

-- "RI = KI × keep / 65,536, RG likewise with KG; G becomes keep − RI − RG"
unfoldable pub drained : Parameters → ℕ → Drained
drained p kept =
    record {
      ri = p.ki * kept / one;
      rg = p.kg * kept / one;
      g = kept - p.ki * kept / one - p.kg * kept / one;
    }
