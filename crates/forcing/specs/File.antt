-- The forcing file: document 01, "What the program prints", with document 02, No. 8.
use Rattle.std.specs.Prelude.{ℕ, ◌+◌, ◌*◌, cond, List, eqb, Float}
use Rattle.std.specs.Float.{binary32}
use Rattle.std.specs.Float.Ieee.{of_bits}
use Rattle.common.specs.Bytes.{word_at}
use Rattle.common.specs.Loops.{table}
use Rattle.forcing.specs.declared.list.Reading.{Reading}
use Rattle.forcing.specs.declared.list.Reading.TheVariants.{Measured, Estimated, Missing}
use Rattle.forcing.specs.declared.list.Line.{Line}

-- "kind (1 measured, 2 estimated, other missing)"
abbrev pub reading_of : ℕ → Float → Reading
reading_of kind rain = cond (eqb kind 1) (Measured rain) (cond (eqb kind 2) (Estimated rain) Missing)

-- "kind .., rain bits, pan bits", and a temperature's "bits as a fourth word of the line"; a pattern that is a NaN's stands for the one NaN
unfoldable pub line_of : ℕ → ℕ → ℕ → ℕ → Line
line_of kind rain pan temperature =
    record { rain = reading_of kind (of_bits binary32 rain); pan = of_bits binary32 pan; temperature = of_bits binary32 temperature }

-- how many words that are
abbrev pub line_words : ℕ
line_words = 4

-- line k of a step's bytes, with k counted from 0
unfoldable pub file_line : List ℕ → ℕ → Line
file_line f k =
    line_of (word_at f (line_words * k)) (word_at f (line_words * k + 1)) (word_at f (line_words * k + 2)) (word_at f (line_words * k + 3))

-- the n lines of a step's bytes, at most 32, and past them, where no step looks, lines of zeros
unfoldable pub lines_of : List ℕ → ℕ → List Line
lines_of f n = table (file_line f) (line_of 0 0 0 0) n 32
