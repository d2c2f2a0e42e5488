-- What 9 says of a basin that it allows, for the crates above. Assumes nothing.
use mathlib.Core.Path.{◌≡◌, refl, sym}
use mathlib.Core.Bool.{true, true≢false}
use mathlib.Core.List.{List, [], ◌∷◌}
use Prim.Native.Nat.{ℕ, zero, suc, ◌≤◌, ◌<◌}
use lib.ListN.{get_or}
use Rattle.common.specs.Limits.{words_in}
use Rattle.subbasin.specs.declared.record.SubBasin.{SubBasin}
use Rattle.subbasin.specs.Record.{record_in, blank_sub}
use Rattle.subbasin.proofs.record.RecordLaws.{RecordIn, record_in_lem}
use Rattle.basin.specs.declared.state.Basin.{Basin}
use Rattle.basin.specs.State.{most_subs, sub_at}
use Rattle.basin.specs.Limits.{basin_in}
use Rattle.basin.proofs.limits.LimitsLaws.{basin_limits}

-- a record inside its limits is none that stands for the end of the list
not_past : (m : ℕ) (d : SubBasin) (l : List SubBasin) (i : ℕ) → record_in m (get_or l i blank_sub) ≡ true → get_or l i d ≡ get_or l i blank_sub
unfolding record_in words_in
not_past m d [] i t = absurd (true≢false (sym t))
not_past m d (s ∷ l) zero t = refl
not_past m d (s ∷ l) (suc i) t = not_past m d l i t

module _ (b : Basin) (h : basin_in b ≡ true) where
  pub allowed_n : b.n ≤ most_subs
  allowed_n = (basin_limits b h).n_most

  module _ (i : ℕ) (l : i < b.n) where
    pub allowed_sub : RecordIn b.m (sub_at b i)
    allowed_sub = (basin_limits b h).used_subs i l

    -- whatever is read past the end
    pub allowed_read : (d : SubBasin) → get_or b.subs i d ≡ sub_at b i
    allowed_read d = not_past b.m d b.subs i (record_in_lem b.m (sub_at b i) allowed_sub)
