-- `forcing::list::read` meets its contract: three loops in one, that fills in the weather, seeks a bad line and adds up the marks.
-- Assumes nothing.
use mathlib.Core.List.{List}
use Prim.Native.Nat.{ℕ}
use lib.ListN.{replicate}
use Rattle.common.specs.declared.weather.Weather.{Weather}
use Rattle.common.specs.Weather.{calm}
use Rattle.common.proofs.Loops.{Filling, Seeking}
use Rattle.common.proofs.Loops.{Adding}
use Rattle.forcing.specs.declared.list.Line.{Line}
use Rattle.forcing.specs.List.{line_at, weather_of, estimated_of, line_number}
use Rattle.forcing.proofs.list.read.Given as goal

-- lines 1..at are not bad
pub record Before (lines : List Line) (n : ℕ) (weather : List Weather) (estimated at : ℕ) : Type 0 where
  pub filling : Filling (λ k. weather_of (line_at lines k)) (replicate 32 calm) n at weather
  pub seeking : Seeking (λ k. line_number (line_at lines k)) n at
  pub adding : Adding (λ k. estimated_of (line_at lines k).rain) n at estimated

abbrev pub invariant-loop-at : goal.invariant-loop-at
invariant-loop-at l = Before l.lines l.n l.weather l.estimated l.at
