use Rattle.std.proofs.Common.{arith, refl, rules, ◌∙◌, [], ◌++◌, ◌+◌, ◌≤◌, length}
use Rattle.std.proofs.KnownBytes.{Appends-nil, Appends-trans}
use Rattle.program.specs.Workers.{of_steps}
use Rattle.program.proofs.run.RunLaws.{run_begin, run_turn, run_end, run_failed}
use Rattle.program.proofs.run.run.Goals as goal

pub loop-init : goal.loop-init
loop-init g c = record {
  input_long = refl;
  done_most = omega arith;
  lines = [];
  running = run_begin _ _ _ c.requires.0 refl;
  same_reference = refl;
  printed = Appends-nil _;
}

pub returns-in-Err-clause-run : goal.returns-in-Err-clause-run
returns-in-Err-clause-run g c = run_failed c.loop.invariant.running refl refl

pub print-requires-clause-lines : goal.print-requires-clause-lines
print-requires-clause-lines g c = of_steps _ _ _ refl c.take_steps-steps.ensures.lines_are

pub returns-in_err-print-clause-run : goal.returns-in_err-print-clause-run
returns-in_err-print-clause-run g c =
    let at = c.loop.invariant in
    let read = c.read_after in
    let room : c.loop.kept + c.in-Ok.count ≤ length read.new.input = omega (arith, c.in-Ok.ensures.count_bound, read.auto.input, at.input_long, c.requires.1) in
    run_failed
    (run_turn at.running read.new.input c.in-Ok.count read.ensures.input_unchanged room c.take_steps-steps.ensures c.copy_within.ensures.after)
    refl
    (search rules)

pub loop-preserved : goal.loop-preserved
loop-preserved g c =
    let at = c.loop.invariant in
    let read = c.read_after in
    let room : c.loop.kept + c.in-Ok.count ≤ length read.new.input = omega (arith, c.in-Ok.ensures.count_bound, read.auto.input, at.input_long, c.requires.1) in
    record {
      input_long = omega (arith, at.input_long, read.auto.input, c.copy_within.ensures.len);
      done_most = omega (arith, at.done_most, c.take_steps-steps.ensures.few);
      lines = at.lines ++ c.take_steps-steps.new.out;
      running =
          run_turn at.running read.new.input c.in-Ok.count read.ensures.input_unchanged room c.take_steps-steps.ensures c.copy_within.ensures.after;
      same_reference = c.in_ok-print.ensures.same_reference ∙ at.same_reference;
      printed = Appends-trans _ _ _ _ _ at.printed (c.in_ok-print.ensures.printed);
    }

pub returns-clause-run : goal.returns-clause-run
returns-clause-run g c =
    let at = c.loop.invariant in
    let ended = c.end_run.ensures in
    run_end at.running refl ended.ends (λ h. ended.part_put) (λ h. Appends-trans _ _ _ _ _ at.printed (ended.printed h))
