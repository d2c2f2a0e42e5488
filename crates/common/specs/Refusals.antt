-- The refusals' numbers: document 01, "Who sent it", and document 02; and what they say, in words of ours.
use Rattle.std.specs.Prelude.{ℕ, Bool, true, false, cond, List, ◌++◌, codes}
use Rattle.std.specs.Fmt.{decimal}
use Rattle.common.specs.declared.refusal.Refused.{Refused}
use Rattle.common.specs.declared.refusal.Refusal.{Refusal}
use Rattle.common.specs.declared.refusal.Refusal.TheVariants.{FewBytes, Counts, Length, Word, LineCount, RainMissing, BelowZero, AboveLimit, BadBasin, OutOfRange, NoSuchSubBasin, NotANumber, Infinite, BadTemperature, BadWindow}

abbrev pub number_of : Refusal → ℕ
number_of FewBytes = 1
number_of Counts = 2
number_of Length = 3
number_of Word = 4
number_of LineCount = 5
number_of RainMissing = 6
number_of BelowZero = 7
number_of AboveLimit = 8
number_of BadBasin = 9
number_of OutOfRange = 10
number_of NoSuchSubBasin = 11
number_of NotANumber = 12
number_of Infinite = 13
number_of BadTemperature = 14
number_of BadWindow = 15

-- what a refusal says
abbrev pub refusal_text : Refusal → List ℕ
refusal_text FewBytes = codes "a file of fewer than 8 bytes"
refusal_text Counts = codes "N or M outside its range"
refusal_text Length = codes "a file whose length does not fit N and M"
refusal_text Word = codes "a word outside its range"
refusal_text LineCount = codes "a count of lines that does not fit N"
refusal_text RainMissing = codes "rain missing"
refusal_text BelowZero = codes "below zero"
refusal_text AboveLimit = codes "above its limit"
refusal_text BadBasin = codes "a basin that is not allowed"
refusal_text OutOfRange = codes "an argument outside its range"
refusal_text NoSuchSubBasin = codes "no such sub-basin"
refusal_text NotANumber = codes "not a number"
refusal_text Infinite = codes "infinite"
refusal_text BadTemperature = codes "a temperature outside its range"
refusal_text BadWindow = codes "a window that is not allowed"

-- whether it has a place of its own: a word of the file, or a line
abbrev pub is_placed : Refusal → Bool
is_placed Counts = true
is_placed Word = true
is_placed RainMissing = true
is_placed BelowZero = true
is_placed AboveLimit = true
is_placed NotANumber = true
is_placed Infinite = true
is_placed BadTemperature = true
is_placed _ = false

-- and what it says with its place
abbrev pub refused_text : Refused → List ℕ
refused_text r = cond (is_placed r.why) (refusal_text r.why ++ codes ", at place " ++ decimal r.place) (refusal_text r.why)
