-- What `map_err` leaves, where it is known whether there is an error. Assumes nothing.
use mathlib.Core.Path.{◌≡◌, refl, sym, ap}
use mathlib.Core.Bool.{true, false, true≢false}
use Rattle.std.proofs.Common.{Result, Ok, Err, is_ok}
use Rattle.std.specs.Result.{MatchResult, result_unwrap_or}

-- D is the error that it makes
pub mapped_ok : {T E : Type 0} (D : Type 0) (r : Result T E) (Q : E → Type 0) {x : T} → true ≡ is_ok r
    → MatchResult r (λ y. ◌≡◌ {A = Result T D} (Ok x) (Ok y)) Q → r ≡ Ok x
mapped_ok D (Ok y) Q {x} t e = ap Ok (sym (ap (λ r. result_unwrap_or r x) e))
mapped_ok D (Err d) Q t e = absurd (true≢false t)

pub mapped_err : {T E : Type 0} (r : Result T E) (P : T → Type 0) (Q : E → Type 0) → false ≡ is_ok r → MatchResult r P Q
    → (e : E) × (r ≡ Err e) × Q e
mapped_err (Ok y) P Q t e = absurd (true≢false (sym t))
mapped_err (Err d) P Q t e = (d, refl, e)
