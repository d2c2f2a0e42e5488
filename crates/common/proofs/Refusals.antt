-- The refusals' numbers: none is 0. Assumes nothing.
use Rattle.std.proofs.Common.{◌<◌, arith}
use Rattle.common.specs.declared.refusal.Refusal.{Refusal}
use Rattle.common.specs.declared.refusal.Refusal.TheVariants.{FewBytes, Counts, Length, Word, LineCount, RainMissing, BelowZero, AboveLimit, BadBasin, OutOfRange, NoSuchSubBasin, NotANumber, Infinite, BadTemperature, BadWindow}
use Rattle.common.specs.Refusals.{number_of}

pub number_some : (r : Refusal) → 0 < number_of r
number_some FewBytes = omega arith
number_some Counts = omega arith
number_some Length = omega arith
number_some Word = omega arith
number_some LineCount = omega arith
number_some RainMissing = omega arith
number_some BelowZero = omega arith
number_some AboveLimit = omega arith
number_some BadBasin = omega arith
number_some OutOfRange = omega arith
number_some NoSuchSubBasin = omega arith
number_some NotANumber = omega arith
number_some Infinite = omega arith
number_some BadTemperature = omega arith
number_some BadWindow = omega arith
