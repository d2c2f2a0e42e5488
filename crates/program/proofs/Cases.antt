-- Worked examples, by computation over the definitions. Assumes nothing.
use mathlib.Core.Path.{refl}
use Rattle.program.specs.Print.{decimal_of, decimal, load_text, accepted_text, refused_text, step_text, short_text}
use Rattle.program.specs.Cases.{Spelt, line_cases}

pub line_cases_lem : Spelt line_cases
unfolding decimal_of decimal load_text accepted_text refused_text step_text short_text
line_cases_lem = (refl, (refl, (refl, (refl, tt))))
