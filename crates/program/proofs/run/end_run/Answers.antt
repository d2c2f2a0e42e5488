-- `program::run::end_run` meets its contract: a part step is printed where some of it has come. Assumes nothing.
use Rattle.std.proofs.Common.{arith}
use Rattle.program.specs.Workers.{of_part}
use Rattle.program.proofs.run.end_run.Goals as goal

pub print-printed-requires-clause-lines : goal.print-printed-requires-clause-lines
print-printed-requires-clause-lines g c = of_part c.args.kept (omega (arith, c.if-kept-eq0.false)) c.set_short.ensures
