-- 9's limits of a basin: document 01, "Who sent it".
use Rattle.std.specs.Prelude.{◌≡◌, ℕ, suc, ◌+◌, ◌-◌, ◌≤◌, ◌<◌, Bool, true, ◌&&◌, List, get_or}
use Rattle.common.specs.Limits.{within}
use Rattle.common.specs.Loops.{every}
use Rattle.subbasin.specs.declared.record.SubBasin.{SubBasin}
use Rattle.subbasin.specs.Record.{record_in, is_blank, blank_sub}
use Rattle.basin.specs.declared.reach.Reach.{Reach}
use Rattle.basin.specs.declared.state.Basin.{Basin}
use Rattle.basin.specs.Reach.{reach_in, is_blank_reach, blank_reach}
use Rattle.basin.specs.State.{most_subs, most_reaches, sub_at, reach_at}

-- "N 1..32, M 0..31"
unfoldable pub counts_in : ℕ → ℕ → Bool
counts_in n m = within 1 n most_subs && within 0 m most_reaches

-- of n sub-basins and m reaches: those in use, and those that are not: "an unused record not zero"
unfoldable pub subs_used : ℕ → ℕ → List SubBasin → Bool
subs_used m n subs = every (λ i. record_in m (get_or subs i blank_sub)) n

unfoldable pub subs_blank : ℕ → List SubBasin → Bool
subs_blank n subs = every (λ k. is_blank (get_or subs (n + k) blank_sub)) (most_subs - n)

-- the reaches likewise; reach j, counted from 0, has the number j + 1
unfoldable pub reaches_used : ℕ → List Reach → Bool
reaches_used m reaches = every (λ j. reach_in m (suc j) (get_or reaches j blank_reach)) m

unfoldable pub reaches_blank : ℕ → List Reach → Bool
reaches_blank m reaches = every (λ k. is_blank_reach (get_or reaches (m + k) blank_reach)) (most_reaches - m)

-- all but the sub-basins in use
unfoldable pub others_in : Basin → Bool
others_in b = counts_in b.n b.m && subs_blank b.n b.subs && reaches_used b.m b.reaches && reaches_blank b.m b.reaches

-- A basin that 9 allows.
unfoldable pub basin_in : Basin → Bool
basin_in b = others_in b && subs_used b.m b.n b.subs

-- What it says of the records past N and M: "an unused record not zero" is outside.
pub record Unused (b : Basin) : Type 0 where
  pub subs_zero : (i : ℕ) → b.n ≤ i → i < most_subs → is_blank (sub_at b i) ≡ true
  pub reaches_zero : (j : ℕ) → b.m ≤ j → j < most_reaches → is_blank_reach (reach_at b j) ≡ true
