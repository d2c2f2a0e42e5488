-- `basin::state::Basin::allowed` meets its contract. Assumes nothing.
use mathlib.Core.Path.{◌≡◌, sym, ◌∙◌}
use mathlib.Core.Bool.{Bool, true}
use Rattle.basin.specs.declared.state.Basin.{Basin}
use Rattle.basin.specs.Limits.{basin_in, Unused}
use Rattle.basin.proofs.limits.LimitsLaws.{others_counts, basin_limits, basin_used, basin_others}
use Rattle.basin.proofs.state.Basin.allowed.Goals as goal

-- the answer's equation, and what it says of the records past N and M
answered : (b : Basin) {r : Bool} → r ≡ basin_in b → record { answers : r ≡ basin_in b; judges : r ≡ true → Unused b }
answered b e =
    record {
      answers = e;
      judges = λ t. let h = basin_limits b (sym e ∙ t) in record { subs_zero = h.blank_subs; reaches_zero = h.blank_reaches };
    }

pub subs_used-requires : goal.subs_used-requires
subs_used-requires c = others_counts _ (sym c.others_allowed.ensures ∙ c.if-others_allowed.true)

pub returns-then-others_allowed : goal.returns-then-others_allowed
returns-then-others_allowed c = answered _ (c.subs_used.ensures ∙ sym (basin_used _ (sym c.others_allowed.ensures ∙ c.if-others_allowed.true)))

pub returns-else-others_allowed : goal.returns-else-others_allowed
returns-else-others_allowed c =
    answered _ (c.if-others_allowed.false ∙ sym (basin_others _ (sym c.others_allowed.ensures ∙ c.if-others_allowed.false)))
