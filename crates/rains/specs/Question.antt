-- Document 02, No. 5: which rain would do it, asked of a basin.
use Rattle.std.specs.Prelude.{◌≡◌, true, false, cond, ℕ, ◌-◌, ◌≤◌, Float}
use Rattle.common.specs.Limits.{within}
use Rattle.forcing.specs.declared.depth.Gauge.TheVariants.{Pan}
use Rattle.forcing.specs.Depth.{Depth, answer, depth_call}
use Rattle.subbasin.specs.Yields.{Answer, yield, Answers}
use Rattle.basin.specs.declared.state.Basin.{Basin}
use Rattle.basin.specs.State.{sub_at}
use Rattle.basin.specs.Limits.{basin_in}

-- the pan's depth, or the refusal: "11 stands for a sub-basin number outside 1..N, judged after 9 and before the pan's 7 and 8; each of these
-- has place 0", and so 12 and 13, "each judged where 7 was"
unfoldable pub asked : Basin → ℕ → Float → Depth
asked b number pan = cond (basin_in b) (cond (within 1 number b.n) (depth_call pan Pan) (answer 11 0)) (answer 9 0)

-- what a rain of k millimetres yields of the sub-basin with that number, counted from 1
abbrev pub yield_of : Basin → ℕ → Float → ℕ → ℕ
yield_of b number pan = yield (sub_at b (number - 1)) (asked b number pan).depth

-- the call
abbrev pub RainFor : Basin → ℕ → Float → ℕ → Answer → Type 0
RainFor b number pan = Answers (asked b number pan).number (yield_of b number pan)

-- whose turn it is, of a basin and a sub-basin number inside their limits and outside
pub record Turns (b : Basin) (number : ℕ) (pan : Float) (refusal : ℕ) : Type 0 where
  pub nine : basin_in b ≡ false → refusal ≡ 9
  pub eleven : basin_in b ≡ true → (1 ≤ number → number ≤ b.n → ⊥) → refusal ≡ 11
  pub pans : basin_in b ≡ true → 1 ≤ number → number ≤ b.n → refusal ≡ (depth_call pan Pan).number
