-- The text of a line is a word and numbers after it. Assumes nothing.
use mathlib.Core.Path.{◌≡◌, refl}
use mathlib.Core.List.{List, [], ◌∷◌, ◌++◌, append_assoc}
use Prim.Native.Nat.{ℕ}
use borrow.Author.Tests.{eq-eqb, ne_eqb}
use Rattle.std.proofs.Common.{Option}
use Rattle.std.specs.Io.KnownBytes.{Appends}
use Rattle.std.proofs.KnownBytes.{Appends-nil}
use Rattle.basin.specs.declared.step.Report.{Report}
use Rattle.basin.specs.Step.{numbers_of}
use Rattle.program.specs.Print.{decimal, load, ok, refused, short, blank}
use Rattle.program.specs.Print.{load_text, accepted_text, refused_text, short_text, part_text}
use Rattle.program.specs.Workers.{numbers_text}

module _ {out out₁ : List ℕ} (empty : out ≡ []) where
  pub short_put : (count : ℕ) → out₁ ≡ out ++ (short ++ numbers_text (count ∷ [])) → out₁ ≡ short_text count
  unfolding short_text
  short_put count e = rw (e, empty) (simp append_assoc)

  pub load_put : (number place : ℕ) → out₁ ≡ out ++ (load ++ numbers_text (number ∷ place ∷ [])) → out₁ ≡ load_text number place
  unfolding load_text
  load_put number place e = rw (e, empty) (simp append_assoc)

module _ (out : List ℕ) {out₁ out₂ : List ℕ} (step : ℕ) (put : out₁ ≡ out ++ decimal step) where
  pub accepted_put : (report : Report)
      → out₂ ≡ out₁ ++ ((blank ++ ok) ++ numbers_text (numbers_of report))
      → out₂ ≡ out ++ accepted_text step report
  unfolding accepted_text
  accepted_put report e = rw (e, put) (simp append_assoc)

  pub refused_put : (number place : ℕ)
      → out₂ ≡ out₁ ++ ((blank ++ refused) ++ numbers_text (number ∷ place ∷ []))
      → out₂ ≡ out ++ refused_text step number place
  unfolding refused_text
  refused_put number place e = rw (e, put) (simp append_assoc)

-- a part step's line where there is one, and nothing where there is none
pub no_part : {count : ℕ} → count ≡ 0 → [] ≡ part_text count
unfolding part_text
no_part {count} e = rw (eq-eqb count 0 e) refl

pub some_part : {count : ℕ} → (count ≡ 0 → ⊥) → short_text count ≡ part_text count
unfolding part_text
some_part {count} h = rw (ne_eqb count 0 h)

pub nothing_printed : {count : ℕ} → count ≡ 0 → (known : Option (List ℕ)) → Appends known known (part_text count)
unfolding part_text
nothing_printed {count} e known = rw (eq-eqb count 0 e) (Appends-nil known)
