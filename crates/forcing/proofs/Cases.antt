-- Worked examples, by computation over the definitions. Assumes nothing.
use mathlib.Core.Path.{◌≡◌, refl}
use lib.Ieee.{binary32, of_bits}
use Rattle.common.specs.Cases.{Agree}
use Rattle.common.proofs.Cases.{agree_all}
use Rattle.forcing.specs.Depth.{depth_of}
use Rattle.forcing.specs.Cases.{forcing_cases}
use Rattle.forcing.proofs.OnWords.{lines_on_words}

pub sixteenth : depth_of (of_bits binary32 0x3d80_0000) ≡ 63
unfolding lines_on_words
sixteenth = refl

pub forcing_cases_lem : Agree forcing_cases
unfolding lines_on_words
forcing_cases_lem = agree_all forcing_cases refl
