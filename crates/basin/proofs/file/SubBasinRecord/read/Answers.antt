-- A sub-basin's `read` meets its contract. Assumes nothing.
use Rattle.std.proofs.Common.{ap, ◌∙◌, ◌+◌, rules, tests}
use Rattle.common.specs.Bytes.{word_at}
use Rattle.common.proofs.Tables.{table_full}
use Rattle.subbasin.specs.Record.{of_words}
use Rattle.basin.proofs.file.SubBasinRecord.read.Goals as goal

pub returns : goal.returns
returns c =
    c.into.ensures
    ∙ ap of_words (table_full (λ k. word_at c.args.bytes.now (c.args.start + k)) 0 c.from_fn-words.ensures.items (λ k y q called. search (rules, tests)))
