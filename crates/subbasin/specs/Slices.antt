-- Document 02, No. 3: net rain in slices of 5 mm. The rule for one slice is document 01's (Soil, FreeWater).
use Rattle.std.specs.Prelude.{ℕ, ◌+◌, ◌-◌, ◌*◌, ◌/◌, min}
use Rattle.common.specs.Loops.{run}
use Rattle.subbasin.specs.declared.record.Parameters.{Parameters}
use Rattle.subbasin.specs.declared.soil.Layers.{Layers}
use Rattle.subbasin.specs.declared.soil.Runoff.{Runoff}
use Rattle.subbasin.specs.declared.slices.Sliced.{Sliced}
use Rattle.subbasin.specs.Soil.{runoff}
use Rattle.subbasin.specs.FreeWater.{keep}

-- "slices of 5,000 µm"
abbrev pub most_slice : ℕ
most_slice = 5000

-- "PE is cut into slices of 5,000 µm, the last being the rest": how many, and the slice in place i, counted from 0
unfoldable pub slices : ℕ → ℕ
slices pe = (pe + (most_slice - 1)) / most_slice

unfoldable pub slice : ℕ → ℕ → ℕ
slice pe i = min most_slice (pe - i * most_slice)

-- no slice yet: RB = R = RS = 0, keep = G
abbrev pub no_slice : Layers → ℕ → Sliced
no_slice w g = record { rb = 0; r = 0; rs = 0; layers = w; kept = g }

-- "RB, R and RS of the step are the sums"; of this slice RS = G + R − keep, where "G is the former keep"
abbrev pub added : Sliced → Runoff → ℕ → Sliced
added s ro kept =
    record { rb = s.rb + ro.rb; r = s.r + ro.r; rs = s.rs + (s.kept + ro.r - kept); layers = ro.layers; kept = kept }

-- "For each slice in turn RB, X, gain, R, S, S2, keep and RS are worked out with the slice in place of PE, and G is the former keep. The
-- gain fills the layers after each slice"
unfoldable pub after_slice : Parameters → ℕ → Sliced → Sliced
after_slice p pe s = added s (runoff p s.layers pe) (keep p s.kept pe (runoff p s.layers pe).r)

unfoldable pub sliced : Parameters → Layers → ℕ → ℕ → Sliced
sliced p w g pe = run (λ i s. after_slice p (slice pe i) s) (slices pe) (no_slice w g)

-- document 01's own rule, PE in one: "RS = G + R − keep"
unfoldable pub unsliced : Parameters → Layers → ℕ → ℕ → Sliced
unsliced p w g pe =
    let ro = runoff p w pe in
    let kept = keep p g pe ro.r in
    record { rb = ro.rb; r = ro.r; rs = g + ro.r - kept; layers = ro.layers; kept = kept }
