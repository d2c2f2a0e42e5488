-- `forcing::depth::depth_of` meets its contract: only a NaN has no bits, and any other number is what its bits stand for.
-- Assumes nothing.
use mathlib.Core.Path.{◌≡◌, sym, ap, ◌∙◌}
use lib.Ieee.{Float, is_nan}
use Rattle.forcing.specs.declared.depth.Gauge.{Gauge}
use Rattle.forcing.specs.Depth.{Depth, depth_call, JudgedNumber}
use Rattle.forcing.proofs.BitsLaws.{of_its_bits}
use Rattle.forcing.proofs.depth.DepthLaws.{call_judged}
use Rattle.forcing.proofs.depth.ValueLaws.{nan_answer}
use Rattle.forcing.proofs.depth.depth_of.Goals as goal

-- the answer's equation, and with it what the documents say of it
answered : (x : Float) (said : Gauge) {d : Depth} → depth_call x said ≡ d
    → record { answered : d ≡ depth_call x said; judged : JudgedNumber x said d }
answered x said e = record { answered = sym e; judged = rw (← e) (call_judged x said) }

pub returns-then-is_nan : goal.returns-then-is_nan
returns-then-is_nan c = answered _ _ (nan_answer c.args.x c.args.said c.if-is_nan.ensures.value)

pub judge_bits-requires : goal.judge_bits-requires
judge_bits-requires c = ap is_nan (of_its_bits c.args.x c.well_formed.0.1) ∙ sym c.if-is_nan.ensures.value

pub returns : goal.returns
returns c = answered _ _ (ap (λ (y : Float). depth_call y c.args.said) (sym (of_its_bits c.args.x c.well_formed.0.1)) ∙ sym c.judge_bits.ensures)
