-- What the private functions require and answer: no part of document 02.
use Rattle.std.specs.Prelude.{◌≡◌, true, false, ℕ, ◌+◌, ◌^◌, ◌<◌}
use Rattle.common.specs.declared.refusal.Refusal.{Refusal}
use Rattle.common.specs.Refusals.{number_of}
use Rattle.basin.specs.declared.state.Basin.{Basin}
use Rattle.basin.specs.declared.step.Report.{Report}
use Rattle.basin.specs.Limits.{basin_in}
use Rattle.basin.specs.Week.{fits}
use Rattle.basin.specs.Workers.{Shaped}

-- a basin and a length of list that a week is taken of
pub record Fits (b : Basin) (long : ℕ) : Type 0 where
  pub allowed : basin_in b ≡ true
  pub fitting : fits b.n long ≡ true
  pub shaped : Shaped b

-- why none is: "9 is judged first"
pub record Refuses (b : Basin) (long : ℕ) (why : Refusal) : Type 0 where
  pub nine : basin_in b ≡ false → number_of why ≡ 9
  pub five : basin_in b ≡ true → (fits b.n long ≡ false) × (number_of why ≡ 5)

-- reports whose sums fit 64 bits
pub record SumsFit (sums last : Report) : Type 0 where
  pub rain_fits : sums.rain + last.rain < 2 ^ 64
  pub evapotranspiration_fits : sums.evapotranspiration + last.evapotranspiration < 2 ^ 64
  pub outlet_fits : sums.outlet + last.outlet < 2 ^ 64
  pub estimated_fits : sums.estimated + last.estimated < 2 ^ 64
