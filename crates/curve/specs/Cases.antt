-- Document 01, "Proved cases": the rows of the curve, as a table over the definitions.
use Rattle.std.specs.Prelude.{List, [], ◌∷◌}
use Rattle.common.specs.Cases.{Row, row}
use Rattle.curve.specs.Capacity.{power, held, ordinate}

abbrev pub curve_cases : List Row
curve_cases =
    row (power 32768 24) 23170
    ∷ row (power 16384 24) 8192
    ∷ row (power 4096 20) 2048
    ∷ row (power 1 16) 1
    ∷ row (power 1 17) 0
    ∷ row (power 65536 48) 65536
    ∷ row (held 120000 180000 24 135000) 105000
    ∷ row (held 120000 180000 24 0) 0
    ∷ row (ordinate 120000 180000 24 0) 0
    ∷ []
