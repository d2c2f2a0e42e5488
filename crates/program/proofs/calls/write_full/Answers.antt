use Rattle.std.proofs.Common.{ap, ◌∙◌, ◌≡◌, List, ℕ, ◌++◌, ◌+◌, ◌-◌, rules, drop, length, take, sym}
use lib.Seq.{take-add}
use Rattle.std.proofs.lemmas.List.{take_rest}
use Rattle.std.proofs.KnownBytes.{Appends-trans}
use Rattle.program.proofs.calls.write_full.Goals as goal

pub loop-count-preserved : goal.loop-count-preserved
loop-count-preserved g c =
    let bytes = c.args.bytes.now in
    let count = c.loop-count.count in
    let more = c.in-Ok.more in
    let joined : take (count + more) bytes ≡ take count bytes ++ take more (take (length bytes - count) (drop count bytes)) =
    take-add count more bytes ∙ ap (λ (l : List ℕ). take count bytes ++ take more l) (sym (take_rest bytes count)) in
    record {
      most = search rules;
      appended = rw joined (Appends-trans _ _ _ _ _ c.loop-count.invariant.appended c.in-Ok.ensures.bytes);
    }
