-- `subbasin::record::SubBasin::first_outside` meets its contract. Assumes nothing.
use Rattle.std.proofs.Common.{rules, tests}
use Rattle.std.proofs.lemmas.Iterator.{YieldsList-from_slice}
use Rattle.std.proofs.lemmas.Iterator.Search.{position_from_yields_List}
use Rattle.subbasin.specs.Record.{words}
use Rattle.subbasin.proofs.record.RecordLaws.{triples, out_of_range, numbered}
use Rattle.subbasin.proofs.record.SubBasin.first_outside.Goals as goal

pub returns-clause-numbered : goal.returns-clause-numbered
returns-clause-numbered c =
    let ws = triples (words c.args.m c.args.sender c.args.self.now) in
    numbered _ _ _
    (position_from_yields_List out_of_range _ _ _ c.position.ensures.ran
    (YieldsList-from_slice ws (rw (← c.saturating_sub.ensures, ← c.most_slow-slow.ensures, ← c.most_snow-snow.ensures) c.iter.ensures.rest)) (λ x b q k. search (rules, tests)))
