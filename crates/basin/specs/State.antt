-- The basin and its content: document 01, "The store law".
use Rattle.std.specs.Prelude.{◌≡◌, ℕ, ◌+◌, get_or, replicate}
use Rattle.common.specs.Loops.{sum_of}
use Rattle.subbasin.specs.declared.record.SubBasin.{SubBasin}
use Rattle.subbasin.specs.Record.{blank_sub}
use Rattle.subbasin.specs.Content.{water}
use Rattle.basin.specs.declared.reach.Reach.{Reach}
use Rattle.basin.specs.declared.state.Basin.{Basin}
use Rattle.basin.specs.Reach.{blank_reach}

-- N at most 32, M at most 31
abbrev pub most_subs : ℕ
most_subs = 32

abbrev pub most_reaches : ℕ
most_reaches = 31

-- sub-basin i and reach j, counted from 0
abbrev pub sub_at : Basin → ℕ → SubBasin
sub_at b i = get_or b.subs i blank_sub

abbrev pub reach_at : Basin → ℕ → Reach
reach_at b j = get_or b.reaches j blank_reach

-- "Content is area × (WU + WL + WD + G + VI + VG) of every sub-basin plus all waiting amounts, CS stores and reaches"; it "includes SN"
unfoldable pub content_of : Basin → ℕ
content_of b = sum_of (λ i. water (sub_at b i)) b.n + sum_of (λ j. (reach_at b j).content) b.m

-- "the empty basin, all zeros"
abbrev pub empty_basin : Basin
empty_basin = record { n = 0; m = 0; subs = replicate most_subs blank_sub; reaches = replicate most_reaches blank_reach }

-- the same in all words but the contents: "Areas and capacities are the file's throughout"
pub record SameWords (before after : Reach) : Type 0 where
  pub c0_same : after.c0 ≡ before.c0
  pub c1_same : after.c1 ≡ before.c1
  pub next_same : after.next ≡ before.next

pub record Unchanged (before after : Basin) : Type 0 where
  pub n_same : after.n ≡ before.n
  pub m_same : after.m ≡ before.m
  pub fixed_same : (i : ℕ) → (sub_at after i).fixed ≡ (sub_at before i).fixed
  pub words_same : (j : ℕ) → SameWords (reach_at before j) (reach_at after j)
