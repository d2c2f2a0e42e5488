-- `program::print_files` meets its contract: what is printed is what document 01 has for the files. Assumes nothing.
use Rattle.std.proofs.Common.{rules, [], sym, subst, take, ◌∙◌}
use Rattle.std.specs.Io.KnownBytes.{Appends}
use Rattle.std.proofs.KnownBytes.{Appends-nil}
use Rattle.program.specs.Print.{printed}
use Rattle.program.proofs.run.PrintedLaws.{printed_all, printed_accepted, run_nothing, loaded_some}
use Rattle.program.proofs.print_files.Goals as goal

pub returns-in-Err : goal.returns-in-Err
returns-in-Err g c =
    let bytes = take c.unwrap_or-size.result c.read_start-start.new.bytes in
    record {
      basin = bytes;
      forcing = [];
      all_printed =
          λ h.
          let put : Appends (g.W.Write.contents c.args.to.now) (g.W.Write.contents c.refuse.new.streams.to.now) (printed bytes []) =
          subst (Appends _ _) (printed_all bytes [] _ c.in-Err.ensures.answers) (c.refuse.ensures.printed h) in
          search (rules, put);
    }

pub returns-in_err-file : goal.returns-in_err-file
returns-in_err-file g c =
    let bytes = take c.unwrap_or-size.result c.read_start-start.new.bytes in
    let load = c.in-Ok.ensures.answers in
    record {
      basin = bytes;
      forcing = [];
      all_printed = λ h. subst (Appends (g.W.Write.contents c.args.to.now) (g.W.Write.contents c.args.to.now)) (sym (run_nothing _ (loaded_some bytes load)) ∙ printed_accepted bytes [] load) (Appends-nil _);
    }

pub returns : goal.returns
returns g c =
    let bytes = take c.unwrap_or-size.result c.read_start-start.new.bytes in
    record {
      basin = bytes;
      forcing = c.run.ensures.run.bytes;
      all_printed =
          λ h.
          let put : Appends (g.W.Write.contents c.args.to.now) (g.W.Write.contents c.run.new.streams.to.now) (printed bytes c.run.ensures.run.bytes) =
          subst (Appends _ _) (printed_accepted bytes c.run.ensures.run.bytes c.in-Ok.ensures.answers) (c.run.ensures.run.printed h) in
          search (rules, put);
    }
