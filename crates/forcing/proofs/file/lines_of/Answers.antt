-- `forcing::file::lines_of` meets its contract. Assumes nothing.
use Rattle.std.proofs.Common.{rules, tests}
use Rattle.common.proofs.Tables.{table_made}
use Rattle.forcing.specs.File.{line_of, file_line, lines_of}
use Rattle.forcing.proofs.list.ReadLaws.{default_blank}
use Rattle.forcing.proofs.file.lines_of.Goals as goal

pub returns : goal.returns
unfolding lines_of line_of
returns c = table_made (file_line c.args.bytes.now) (line_of 0 0 0 0) c.args.n c.from_fn.ensures.items (λ k y q called. search (rules, tests, default_blank c.default-none.ensures))
