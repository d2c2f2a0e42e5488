-- Document 01: "What the program prints", as ASCII codes.
use Rattle.std.specs.Prelude.{ℕ, zero, suc, ◌+◌, ◌*◌, ◌/◌, ◌%◌, true, false, cond, List, [], ◌∷◌, ◌++◌, eqb, ltb, length, take, drop}
use Rattle.forcing.specs.File.{line_words, lines_of}
use Rattle.basin.specs.declared.state.Basin.{Basin}
use Rattle.basin.specs.declared.step.Report.{Report}
use Rattle.basin.specs.Calls.{Call}
use Rattle.basin.specs.Step.{step_call}
use Rattle.basin.specs.File.{load_call}

-- ---- numbers and words

-- a number below 10 is its one digit, any other the digits of its tenth and then its last digit; `most` is no less than n
unfoldable pub decimal_of : ℕ → ℕ → List ℕ
decimal_of zero n = (48 + n) ∷ []
decimal_of (suc most) n = elim (ltb n 10) [ true ↦ (48 + n) ∷ [] | false ↦ decimal_of most (n / 10) ++ ((48 + n % 10) ∷ []) ]

unfoldable pub decimal : ℕ → List ℕ
decimal n = decimal_of n n

-- "load"
abbrev pub load : List ℕ
load = 108 ∷ 111 ∷ 97 ∷ 100 ∷ []

-- "ok"
abbrev pub ok : List ℕ
ok = 111 ∷ 107 ∷ []

-- "refused"
abbrev pub refused : List ℕ
refused = 114 ∷ 101 ∷ 102 ∷ 117 ∷ 115 ∷ 101 ∷ 100 ∷ []

-- "short"
abbrev pub short : List ℕ
short = 115 ∷ 104 ∷ 111 ∷ 114 ∷ 116 ∷ []

abbrev pub blank : List ℕ
blank = 32 ∷ []

abbrev pub newline : List ℕ
newline = 10 ∷ []

-- ---- the lines

-- "Load refused: `load number place`"
unfoldable pub load_text : ℕ → ℕ → List ℕ
load_text number place = load ++ blank ++ decimal number ++ blank ++ decimal place ++ newline

-- "Accepted step: step number, `ok`, rain, evapotranspiration, outlet volume, content (all m³), estimated lines"
unfoldable pub accepted_text : ℕ → Report → List ℕ
accepted_text step report =
    decimal step
    ++ blank ++ ok
    ++ blank ++ decimal report.rain
    ++ blank ++ decimal report.evapotranspiration
    ++ blank ++ decimal report.outlet
    ++ blank ++ decimal report.content
    ++ blank ++ decimal report.estimated
    ++ newline

-- "Refused: step number, `refused`, number, place"
unfoldable pub refused_text : ℕ → ℕ → ℕ → List ℕ
refused_text step number place = decimal step ++ blank ++ refused ++ blank ++ decimal number ++ blank ++ decimal place ++ newline

-- the line of a step's outcome, accepted where its number is 0
unfoldable pub step_text : ℕ → ℕ → ℕ → Report → List ℕ
step_text step number place report = cond (eqb number 0) (accepted_text step report) (refused_text step number place)

-- "A part step at the end: `short` and its byte count"
unfoldable pub short_text : ℕ → List ℕ
short_text count = short ++ blank ++ decimal count ++ newline

-- nothing where no bytes of a part step are left
unfoldable pub part_text : ℕ → List ℕ
part_text count = cond (eqb count 0) [] (short_text count)

-- ---- the forcing file

-- "a step has three words a line", and a temperature's bits "as a fourth word of the line": the bytes of a step of n lines
abbrev pub step_bytes : ℕ → ℕ
step_bytes n = 4 * line_words * n

-- step k, counted from 0
unfoldable pub call_at : ℕ → List ℕ → ℕ → Call
call_at n bytes k = record { lines = lines_of (take (step_bytes n) (drop (k * step_bytes n) bytes)) n; count = n }

-- the first k steps
unfoldable pub calls_in : ℕ → List ℕ → ℕ → List Call
calls_in n bytes zero = []
calls_in n bytes (suc k) = calls_in n bytes k ++ (call_at n bytes k ∷ [])

-- how many whole steps there are
unfoldable pub whole_steps : ℕ → List ℕ → ℕ
whole_steps n bytes = length bytes / step_bytes n

-- how many bytes of a part step at the end
unfoldable pub part_bytes : ℕ → List ℕ → ℕ
part_bytes n bytes = length bytes % step_bytes n

-- the whole steps
unfoldable pub calls_of : ℕ → List ℕ → List Call
calls_of n bytes = calls_in n bytes (whole_steps n bytes)

-- ---- the whole

-- the lines of steps that are taken one after the other from a basin, when `done` steps have been taken
unfoldable pub steps_text : Basin → ℕ → List Call → List ℕ
steps_text b done [] = []
steps_text b done (c ∷ cs) =
    let o = step_call b c.lines c.count in
    step_text (suc done) o.number o.place o.report ++ steps_text o.basin (suc done) cs

-- the lines of a forcing file on a basin
unfoldable pub run_text : Basin → List ℕ → List ℕ
run_text b bytes = steps_text b 0 (calls_of b.n bytes) ++ part_text (part_bytes b.n bytes)

-- What the program prints of its two files. "Load refused: `load number place`, and it stops"; "No header"
unfoldable pub printed : List ℕ → List ℕ → List ℕ
printed basin forcing =
    let loaded = load_call basin in
    cond (eqb loaded.number 0) (run_text loaded.basin forcing) (load_text loaded.number loaded.place)
