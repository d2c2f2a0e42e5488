-- What the private functions require and answer: no part of document 01.
use Rattle.std.specs.Prelude.{◌≡◌, Result, Ok, Err, Option, List, [], ◌∷◌, ◌++◌, ℕ, ◌+◌, ◌*◌, ◌≤◌, ◌<◌, length, take}
use Rattle.std.specs.Io.KnownBytes.{Appends}
use Rattle.common.specs.declared.refusal.Refused.{Refused}
use Rattle.common.specs.Refusals.{number_of}
use Rattle.basin.specs.declared.state.Basin.{Basin}
use Rattle.basin.specs.declared.step.Report.{Report}
use Rattle.basin.specs.File.{load_call}
use Rattle.basin.specs.Calls.{Call, last_basin}
use Rattle.program.specs.declared.Ended.{Ended}
use Rattle.program.specs.declared.Ended.TheVariants.{Failed}
use Rattle.program.specs.Ended.{Ends}
use Rattle.program.specs.Print.{decimal, blank, newline, accepted_text, refused_text}
use Rattle.program.specs.Print.{short_text, part_text, step_bytes, whole_steps, part_bytes, calls_of, steps_text, run_text, printed}

-- the rest of a line: numbers with a blank before each, and the line's end
abbrev pub numbers_text : List ℕ → List ℕ
numbers_text [] = newline
numbers_text (n ∷ ns) = blank ++ (decimal n ++ numbers_text ns)

-- the line of a step that came out like this
abbrev pub outcome_text : ℕ → Result Report Refused → List ℕ
outcome_text step (Ok report) = accepted_text step report
outcome_text step (Err refused) = refused_text step (number_of refused.why) refused.place

-- Lines that may be written, the first of them as line `first`: all that is printed where the load is refused, those of steps, that of a part
-- step.
pub data Lines (first : ℕ) (lines : List ℕ) : Type 0 where
  of_load : (basin forcing : List ℕ) → ((load_call basin).number ≡ 0 → ⊥) → lines ≡ printed basin forcing → Lines first lines
  of_steps : (b : Basin) (done : ℕ) (calls : List Call) → first ≡ done + 1 → lines ≡ steps_text b done calls → Lines first lines
  of_part : (count : ℕ) → 1 ≤ count → lines ≡ short_text count → Lines first lines

-- Bytes, and what taking their whole steps leaves: the steps taken one after the other from basin b, when `done` steps had been taken,
-- and their lines in the output.
pub record Stepped (b : Basin) (n done : ℕ) (bytes : List ℕ) (after : Basin) (steps : ℕ) (out : List ℕ) : Type 0 where
  pub few : steps ≤ 64
  pub used_most : steps * step_bytes n ≤ length bytes
  pub rest_short : length bytes < steps * step_bytes n + step_bytes n
  pub steps_is : steps ≡ whole_steps n bytes
  pub after_is : after ≡ last_basin b (calls_of n bytes)
  pub lines_are : out ≡ steps_text b done (calls_of n bytes)

-- A run of the program: where no read or write failed, a writer whose bytes are known has all that document 01 has for two files, and nothing
-- besides. Of what a read brings nothing can be said, so the files are some files.
pub record Prints (ended : Ended) (old new : Option (List ℕ)) : Type 0 where
  pub basin : List ℕ
  pub forcing : List ℕ
  pub all_printed : (ended ≡ Failed → ⊥) → Appends old new (printed basin forcing)

-- the bytes that are read of a file: no more than 4,096
abbrev pub StartOf : List ℕ → List ℕ → Type 0
StartOf file bytes = bytes ≡ take 4096 file

-- A run from a basin: there are bytes, all that the reads brought, whose whole steps were taken one after the other, and of whose rest the
-- line is left where no read or write failed; and then a writer whose bytes are known has their lines, and nothing besides. Of what a read
-- brings nothing can be said, so the bytes are some bytes.
pub record RunOf (first : Basin) (ended : Ended) (last : Basin) (out : List ℕ) (old new : Option (List ℕ)) : Type 0 where
  pub bytes : List ℕ
  pub last_is : last ≡ last_basin first (calls_of first.n bytes)
  pub ends : Ends (part_bytes first.n bytes) ended
  pub part_put : (ended ≡ Failed → ⊥) → out ≡ part_text (part_bytes first.n bytes)
  pub printed : (ended ≡ Failed → ⊥) → Appends old new (run_text first bytes)
