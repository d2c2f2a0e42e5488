-- What a sub-basin holds: document 01, "The store law", with document 02, No. 8.
use Rattle.std.specs.Prelude.{ℕ, ◌+◌, ◌*◌}
use Rattle.common.specs.Amounts.{sum}
use Rattle.subbasin.specs.declared.record.Contents.{Contents}
use Rattle.subbasin.specs.declared.record.SubBasin.{SubBasin}

-- "WU + WL + WD + G + VI + VG", and "Content includes SN"
abbrev pub water_depth : Contents → ℕ
water_depth w = w.wu + w.wl + w.wd + w.g + w.vi + w.vg + w.sn

-- area × waterDepth "plus all waiting amounts, CS stores", in m³
unfoldable pub water : SubBasin → ℕ
water s = s.fixed.area * water_depth s.contents + sum s.line.waiting + s.channel
