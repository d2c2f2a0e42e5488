-- Document 02, No. 8: snow. Depths in µm, temperatures in thousandths of a degree Celsius.
use Rattle.std.specs.Prelude.{ℕ, ◌+◌, ◌-◌, ◌*◌, ◌/◌, min, cond, ℤ, pos, ◌-ℤ◌, nat_abs, int_lt}
use Rattle.subbasin.specs.declared.record.Parameters.{Parameters}
use Rattle.subbasin.specs.declared.snow.Snow.{Snow}
use Rattle.subbasin.specs.Record.{snow_mark}

-- "Below the threshold rain joins SN and P is 0"; "SN holds at most 2^40: below the threshold, rain that no longer fits joins P"
unfoldable pub joined : ℕ → ℕ → Snow
joined sn rain =
    let joins = min rain (snow_mark - sn) in
    record { p = rain - joins; sn = sn + joins }

-- "melt is min(SN, F × (temperature − threshold) / 1,000)"
unfoldable pub melt : Parameters → ℕ → ℤ → ℕ
melt p sn t = min sn (p.f * nat_abs (t -ℤ pos p.threshold) / 1000)

-- "P is rain plus melt, of which at most 1,000,000 µm is taken; melt beyond that stays in SN"
abbrev pub most_p : ℕ
most_p = 1000000

unfoldable pub melted : ℕ → ℕ → ℕ → Snow
melted sn rain melt =
    let p = min (rain + melt) most_p in
    record { p = p; sn = sn - (p - rain) }

-- "Below the threshold", and "At or above it"
unfoldable pub snow : Parameters → ℕ → ℕ → ℤ → Snow
snow p sn rain t = cond (int_lt t (pos p.threshold)) (joined sn rain) (melted sn rain (melt p sn t))
