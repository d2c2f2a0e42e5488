-- Worked examples as rows over the definitions. A number is given by its 32 bits.
use Rattle.std.specs.Prelude.{ℕ, List, [], ◌∷◌, ◌++◌, get_or, ℤ, pos, neg_ℤ, unsigned_abs}
use Rattle.std.specs.Int.{from_bool, is_negative}
use Rattle.std.specs.Float.{binary32}
use Rattle.std.specs.Float.Ieee.{of_bits}
use Rattle.common.specs.Weather.{calm}
use Rattle.common.specs.Cases.{Row, row}
use Rattle.forcing.specs.declared.depth.Gauge.{Gauge}
use Rattle.forcing.specs.declared.depth.Gauge.TheVariants.{Rain, Pan}
use Rattle.forcing.specs.declared.list.Line.{Line}
use Rattle.forcing.specs.Depth.{depth_call}
use Rattle.forcing.specs.Temperature.{temperature_call}
use Rattle.forcing.specs.List.{Forcing, reading}
use Rattle.forcing.specs.File.{line_of}

-- ---- the depth call

-- its number and its depth
abbrev pub judges : ℕ → Gauge → ℕ → ℕ → List Row
judges bits said number depth =
    row (depth_call (of_bits binary32 bits) said).number number ∷ row (depth_call (of_bits binary32 bits) said).depth depth ∷ []

-- 0.0625, minus zero, the least number above 0, 1000 and the next number above it, 100 and the next number above it as pan and as rain,
-- the greatest number below 0, the least and the greatest of all, the infinities, and two patterns of no number
abbrev pub depth_calls : List Row
depth_calls =
    judges 0x3d80_0000 Rain 0 63
    ++ judges 0x8000_0000 Pan 0 0
    ++ judges 0x0000_0001 Rain 0 0
    ++ judges 0x447a_0000 Rain 0 1000000
    ++ judges 0x447a_0001 Rain 8 0
    ++ judges 0x42c8_0000 Pan 0 100000
    ++ judges 0x42c8_0001 Pan 8 0
    ++ judges 0x42c8_0001 Rain 0 100000
    ++ judges 0x8000_0001 Pan 7 0
    ++ judges 0xff7f_ffff Rain 7 0
    ++ judges 0x7f7f_ffff Pan 8 0
    ++ judges 0x7f80_0000 Rain 13 0
    ++ judges 0xff80_0000 Pan 13 0
    ++ judges 0x7fc0_0000 Pan 12 0
    ++ judges 0xff80_0001 Rain 12 0

-- ---- the temperature call

-- a whole number of either sign: its size, and whether it is below zero
abbrev pub whole_rows : ℤ → ℤ → List Row
whole_rows x y = row (unsigned_abs x) (unsigned_abs y) ∷ row (from_bool (is_negative x)) (from_bool (is_negative y)) ∷ []

-- its number and its temperature
abbrev pub degrees : ℕ → ℕ → ℤ → List Row
degrees bits number temperature =
    row (temperature_call (of_bits binary32 bits)).number number ∷ whole_rows (temperature_call (of_bits binary32 bits)).temperature temperature

-- 0.0625 and minus 0.0625, whose halves both go up, minus zero, minus 80 and the next number below it, 60 and the next number above it,
-- the greatest number below 0, the infinities, and no number
abbrev pub temperature_calls : List Row
temperature_calls =
    degrees 0x3d80_0000 0 (pos 63)
    ++ degrees 0xbd80_0000 0 (neg_ℤ (pos 62))
    ++ degrees 0x8000_0000 0 (pos 0)
    ++ degrees 0xc2a0_0000 0 (neg_ℤ (pos 80000))
    ++ degrees 0xc2a0_0001 14 (pos 0)
    ++ degrees 0x4270_0000 0 (pos 60000)
    ++ degrees 0x4270_0001 14 (pos 0)
    ++ degrees 0x8000_0001 0 (pos 0)
    ++ degrees 0x7f80_0000 14 (pos 0)
    ++ degrees 0xff80_0000 14 (pos 0)
    ++ degrees 0x7fc0_0000 14 (pos 0)

-- ---- lists of lines, by their four words

-- rain 135, pan 10 and 0 degrees; the same estimated, at minus 0.0625 degrees; and a missing one
abbrev pub lines : List Line
lines =
    line_of 1 0x4307_0000 0x4120_0000 0
    ∷ line_of 2 0x4307_0000 0x4120_0000 0xbd80_0000
    ∷ line_of 0 0x4307_0000 0x4120_0000 0
    ∷ []

-- the first of these, and then a line of other words
abbrev pub second : ℕ → ℕ → ℕ → ℕ → List Line
second kind rain pan temperature = line_of 1 0x4307_0000 0x4120_0000 0 ∷ line_of kind rain pan temperature ∷ []

-- number, place and estimated lines, and the second line's weather
abbrev pub reads : Forcing → ℕ → ℕ → ℕ → ℕ → ℕ → ℤ → List Row
reads f number place estimated rain pan temperature =
    row f.number number
    ∷ row f.place place
    ∷ row f.estimated estimated
    ∷ row (get_or f.weather 1 calm).rain rain
    ∷ row (get_or f.weather 1 calm).pan pan
    ∷ whole_rows (get_or f.weather 1 calm).temperature temperature

-- a list whose second line is refused
abbrev pub refuses : List Line → ℕ → List Row
refuses l number = reads (reading l 2 2) number 2 0 0 0 (pos 0)

-- the first two, and all three; then no number beside minus infinity, minus 1 beside no number, and minus infinity alone; then, with a
-- temperature that is none, that alone, pan minus 1, and rain missing
abbrev pub list_calls : List Row
list_calls =
    reads (reading lines 2 2) 0 0 1 135000 10000 (neg_ℤ (pos 62))
    ++ reads (reading lines 3 3) 6 3 0 0 0 (pos 0)
    ++ refuses (second 1 0x7fc0_0000 0xff80_0000 0) 12
    ++ refuses (second 2 0xbf80_0000 0x7fc0_0000 0) 7
    ++ refuses (second 1 0x4307_0000 0xff80_0000 0) 13
    ++ refuses (second 1 0x4307_0000 0x4120_0000 0x4270_0001) 14
    ++ refuses (second 1 0x4307_0000 0xbf80_0000 0x7f80_0000) 7
    ++ refuses (second 0 0x4307_0000 0x4120_0000 0x7fc0_0000) 6

abbrev pub forcing_cases : List Row
forcing_cases = depth_calls ++ temperature_calls ++ list_calls
