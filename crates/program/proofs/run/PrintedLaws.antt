-- The lines of a run, read by read, are what the program prints, however the reads cut the bytes. Assumes nothing.
use mathlib.Core.Path.{◌≡◌, refl, sym, ap, ◌∙◌}
use mathlib.Core.List.{List, [], ◌∷◌, ◌++◌, append_assoc, append-nil, flatten}
use Prim.Native.Nat.{ℕ, ◌+◌, ◌*◌, ◌-◌, ◌≤◌, ◌<◌}
use native.Mathlib.Nat.{add-mul}
use native.Mathlib.Omega.{arith}
use lib.ListN.{length, drop, length-append, length-drop}
use lib.Seq.{drop-nil, drop-drop}
use borrow.Author.Tests.{eq-eqb, ne_eqb}
use Rattle.std.proofs.Common.{Ok, Err}
use Rattle.common.specs.declared.refusal.Refused.{Refused}
use Rattle.common.specs.Refusals.{number_of}
use Rattle.common.proofs.Refusals.{number_some}
use Rattle.basin.specs.declared.state.Basin.{Basin}
use Rattle.basin.specs.File.{Loaded, as_loaded, load_call}
use Rattle.basin.specs.Calls.{last_basin}
use Rattle.basin.proofs.file.LoadedLaws.{start_loads, accepted_within, words_loaded, loaded_n}
use Rattle.program.specs.Print.{step_bytes, calls_in, whole_steps, part_bytes, calls_of, load_text, steps_text, part_text, run_text, printed}
use Rattle.program.specs.Workers.{StartOf}
use Rattle.program.proofs.run.CallsLaws.{last_append, text_append, calls_length}
use Rattle.program.proofs.run.CallsLaws.{whole_is, part_is, whole_least, whole_most, rest_more, calls_rest}

-- What a run puts into its output, read by read: the lines of the whole steps of what was kept and what a read brings, as `take_steps`
-- puts them, and at the end that of the part step that is kept. `done` steps were taken, and left basin b.
unfoldable pub reads_text : ℕ → Basin → ℕ → List ℕ → List (List ℕ) → List ℕ
reads_text n b done kept [] = part_text (length kept)
reads_text n b done kept (more ∷ reads) =
    let block = kept ++ more in
    let steps = whole_steps n block in
    steps_text b done (calls_of n block) ++ reads_text n (last_basin b (calls_of n block)) (done + steps) (drop (steps * step_bytes n) block) reads

module _ (n : ℕ) (some : 1 ≤ n) (first : Basin) where
  -- all that the bytes that have come make a run print
  abbrev whole : List ℕ → List ℕ
  whole bytes = steps_text first 0 (calls_of n bytes) ++ part_text (part_bytes n bytes)

  reads_from : (reads : List (List ℕ)) (bytes : List ℕ) (done : ℕ) → done * step_bytes n ≤ length bytes
      → length bytes < done * step_bytes n + step_bytes n
      → steps_text first 0 (calls_in n bytes done)
      ++ reads_text n (last_basin first (calls_in n bytes done)) done (drop (done * step_bytes n) bytes) reads
      ≡ whole (bytes ++ flatten reads)
  unfolding flatten reads_text calls_of
  reads_from [] bytes done past short =
      let kept = length (drop (done * step_bytes n) bytes) in
      let came : length bytes ≡ done * step_bytes n + kept = omega (arith, length-drop (done * step_bytes n) bytes) in
      ap (λ (k : ℕ). steps_text first 0 (calls_in n bytes k) ++ part_text kept) (whole_is n bytes done kept came (omega arith))
      ∙ ap (λ (k : ℕ). steps_text first 0 (calls_in n bytes (whole_steps n bytes)) ++ part_text k) (part_is n bytes done kept came (omega arith))
      ∙ ap whole (sym (append-nil bytes))
  reads_from (more ∷ reads) bytes done past short =
      let size = step_bytes n in
      let block = drop (done * size) bytes ++ more in
      let steps = whole_steps n block in
      let taken = calls_in n bytes done in
      let next = calls_in n block steps in
      let b = last_basin first taken in
      let all = calls_in n (bytes ++ more) (done + steps) in
      let left = drop (steps * size) block in
      let counted : done ≡ 0 + length taken = omega (arith, calls_length n bytes done) in
      let long : length block ≡ length bytes - done * size + length more =
      length-append (drop (done * size) bytes) more ∙ ap (λ (k : ℕ). k + length more) (length-drop (done * size) bytes) in
      let as-all : taken ++ next ≡ all = calls_rest n bytes more done past steps in
      let lines : steps_text first 0 taken ++ steps_text b done next ≡ steps_text first 0 all =
      ap (λ (k : ℕ). steps_text first 0 taken ++ steps_text b k next) counted
      ∙ sym (text_append next first 0 taken)
      ∙ ap (steps_text first 0) as-all in
      let basin : last_basin b next ≡ last_basin first all = sym (last_append next first taken) ∙ ap (last_basin first) as-all in
      let rest : left ≡ drop ((done + steps) * size) (bytes ++ more) =
      ap (drop (steps * size)) (rest_more n bytes more done past)
      ∙ drop-drop (steps * size) (done * size) (bytes ++ more)
      ∙ ap (λ (k : ℕ). drop k (bytes ++ more)) (sym (add-mul done steps size)) in
      sym (append_assoc (steps_text first 0 taken) (steps_text b done next) (reads_text n (last_basin b next) (done + steps) left reads))
      ∙ ap (λ (l : List ℕ). l ++ reads_text n (last_basin b next) (done + steps) left reads) lines
      ∙ ap (λ (x : Basin). steps_text first 0 all ++ reads_text n x (done + steps) left reads) basin
      ∙ ap (λ (l : List ℕ). steps_text first 0 all ++ reads_text n (last_basin first all) (done + steps) l reads) rest
      ∙ reads_from reads (bytes ++ more) (done + steps)
      (omega (arith, long, length-append bytes more, whole_least n block, add-mul done steps size))
      (omega (arith, long, length-append bytes more, whole_most n some block, add-mul done steps size))
      ∙ ap whole (append_assoc bytes more (flatten reads))

  reads_text_lem : (reads : List (List ℕ)) → reads_text n first 0 [] reads ≡ whole (flatten reads)
  unfolding calls_in last_basin steps_text
  reads_text_lem reads =
      ap (λ (l : List ℕ). reads_text n first 0 l reads) (sym (drop-nil (0 * step_bytes n))) ∙ reads_from reads [] 0 (omega arith) (omega arith)

-- ---- all that is printed

pub printed_refused : (basin forcing : List ℕ) → ((load_call basin).number ≡ 0 → ⊥)
    → printed basin forcing ≡ load_text (load_call basin).number (load_call basin).place
unfolding printed
printed_refused basin forcing bad = rw (ne_eqb (load_call basin).number 0 bad)

-- the line of a refused load is all that is printed
pub printed_all : (basin forcing : List ℕ) (e : Refused) → as_loaded (Err e) ≡ load_call basin → load_text (number_of e.why) e.place ≡ printed basin forcing
printed_all basin forcing e is =
    let bad : (load_call basin).number ≡ 0 → ⊥ = λ z. omega (arith, z, ap (λ (l : Loaded). l.number) is, number_some e.why) in
    ap (λ (l : Loaded). load_text l.number l.place) is ∙ sym (printed_refused basin forcing bad)

-- and so it is of every file with this start
pub printed_start : {bytes : List ℕ} (e : Refused) {out : List ℕ} → as_loaded (Err e) ≡ load_call bytes → out ≡ load_text (number_of e.why) e.place
    → (file forcing : List ℕ) → StartOf file bytes → out ≡ printed file forcing
printed_start e is text file forcing start = text ∙ printed_all file forcing e (is ∙ ap load_call start ∙ start_loads 4096 (omega arith) file)

pub loaded_some : (basin : List ℕ) {b : Basin} → as_loaded (Ok b) ≡ load_call basin → 1 ≤ b.n
loaded_some basin is = (loaded_n ((accepted_within basin is).0 refl) (words_loaded basin is refl)).0

-- of a load that is accepted the steps are printed
pub printed_accepted : (basin forcing : List ℕ) {b : Basin} → as_loaded (Ok b) ≡ load_call basin → run_text b forcing ≡ printed basin forcing
unfolding printed
printed_accepted basin forcing is = ap (λ (l : Loaded). run_text l.basin forcing) is ∙ sym (rw (eq-eqb (load_call basin).number 0 (ap (λ (l : Loaded). l.number) (sym is))) refl)

-- and nothing where there are none
pub run_nothing : (b : Basin) → 1 ≤ b.n → run_text b [] ≡ []
unfolding calls_in calls_of steps_text part_text run_text
run_nothing b some =
    let none : whole_steps b.n [] ≡ 0 = sym (whole_is b.n [] 0 0 (omega arith) (omega arith)) in
    let left : part_bytes b.n [] ≡ 0 = sym (part_is b.n [] 0 0 (omega arith) (omega arith)) in
    rw (none, left) refl

pub printed_by_reads : (basin : List ℕ) → (load_call basin).number ≡ 0 → (reads : List (List ℕ))
    → reads_text (load_call basin).basin.n (load_call basin).basin 0 [] reads ≡ printed basin (flatten reads)
unfolding run_text printed
printed_by_reads basin good reads =
    rw (eq-eqb (load_call basin).number 0 good)
    (reads_text_lem (load_call basin).basin.n (loaded_n ((accepted_within basin refl).0 good) (words_loaded basin refl good)).0 (load_call basin).basin reads)
