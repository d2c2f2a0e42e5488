use Rattle.std.proofs.Common.{arith, ap, ◌∙◌, ◌≡◌, ◌+◌}
use Rattle.std.specs.Iterator.Adapters.{enumerate_source, enumerate_count}
use Rattle.std.specs.Slice.Iter.{chunks_exact_rest, chunks_exact_size}
use Rattle.program.proofs.run.TakeLaws.{take_begin, take_turn, take_end}
use Rattle.program.proofs.run.take_steps.Goals as goal

pub loop-k-init : goal.loop-k-init
loop-k-init c =
    let from = ap enumerate_source c.into_iter-k-iterator.ensures.into_iter_gives ∙ c.enumerate-k-items.ensures.source in
    let none = ap enumerate_count c.into_iter-k-iterator.ensures.into_iter_gives ∙ c.enumerate-k-items.ensures.count in
    rw (c.clear.ensures, none)
    (record {
      size_is = ap chunks_exact_size from ∙ c.chunks_exact.ensures.size;
      taking = take_begin _ _ _ (ap chunks_exact_rest from ∙ c.chunks_exact.ensures.rest);
    })

pub loop-k-preserved : goal.loop-k-preserved
loop-k-preserved c =
    let at = c.loop-k.invariant in
    let next = c.in-Some.ensures.steps.0 in
    let number : c.args.done + c.in-Some.k + 1 ≡ c.args.done + (enumerate_count c.loop-k.k-iterator + 1) = omega (arith, c.in-Some.ensures.steps.1) in
    rw (c.in-Some.ensures.steps.2)
    (record {
      size_is = next.0 ∙ at.size_is;
      taking =
          take_turn at.taking c.requires.0 c.requires.2 _ _ next.1.0 (next.1.1 ∙ at.size_is) _ c.lines_of.ensures c.step_with-outcome.ensures.answers
          c.put_step.ensures.len
          (rw number at c.put_step.ensures.text);
    })

pub returns : goal.returns
returns c =
    let at = c.loop-k.invariant in
    take_end at.taking c.requires.0 c.requires.2 (omega (arith, at.size_is, c.in-None.ensures.steps.0.1.0))
