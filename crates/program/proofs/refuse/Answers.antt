-- `program::refuse` meets its contract: the line of a refused load is all that is printed. Assumes nothing.
use Rattle.std.proofs.Common.{ap, ◌∙◌, [], arith, rules}
use Rattle.basin.specs.File.{Loaded}
use Rattle.common.proofs.Refusals.{number_some}
use Rattle.program.specs.Workers.{of_load}
use Rattle.program.proofs.run.PrintedLaws.{printed_all, printed_start}
use Rattle.program.proofs.refuse.Goals as goal

pub print-printed-requires-clause-lines : goal.print-printed-requires-clause-lines
print-printed-requires-clause-lines g c =
    of_load _ [] (λ z. omega (arith, z, ap (λ (l : Loaded). l.number) c.requires, number_some c.args.refused.why))
    (c.set_load.ensures ∙ printed_all _ [] _ c.requires)

pub returns-in_err-printed-clause-whole : goal.returns-in_err-printed-clause-whole
returns-in_err-printed-clause-whole g c = printed_start _ c.requires (search rules)

pub returns-in_err-start-clause-whole : goal.returns-in_err-start-clause-whole
returns-in_err-start-clause-whole g c = printed_start _ c.requires (search rules)

pub returns-clause-whole : goal.returns-clause-whole
returns-clause-whole g c = printed_start _ c.requires (search rules)
