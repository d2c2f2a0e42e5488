-- `week::lines_of` meets its contract. Assumes nothing.
use Rattle.std.proofs.Common.{rules, tests, length}
use Rattle.common.proofs.Tables.{table_made}
use Rattle.forcing.specs.List.{blank, line_at}
use Rattle.forcing.proofs.list.ReadLaws.{default_blank}
use Rattle.week.proofs.lines_of.Goals as goal

pub returns : goal.returns
returns c = table_made (line_at c.args.step.now) blank (length c.args.step.now) c.from_fn.ensures.items (λ k y q called. search (rules, tests, default_blank c.default-none.ensures))
