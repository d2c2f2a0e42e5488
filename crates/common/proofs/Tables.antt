-- A constant table: its rule is one test, computed over the whole table and lifted to each entry; and a table that a closure makes. Assumes nothing.
use mathlib.Core.Path.{◌≡◌, refl, sym, ap, subst, ◌∙◌}
use mathlib.Core.Bool.{Bool, true, cond, ◌&&◌}
use mathlib.Core.List.{List, [], ◌∷◌}
use Prim.Native.Nat.{ℕ, zero, suc, ◌+◌, ◌<◌}
use native.Mathlib.Omega.{arith}
use lib.Dec.{ltb}
use borrow.Author.Tests.{ltb-true, ltb-false}
use lib.ListN.{length, get_or}
use denote.Param.Members.{Mut, Called}
use Rattle.std.specs.Array.{IsFromFnResult, IsFromFnResultFrom}
use Rattle.common.specs.Loops.{table}
use Rattle.common.proofs.Limits.{parts, by_test}
use Rattle.common.proofs.Loops.{table_length, table_in, table_past}

-- the test passes at each entry and its place, counted from i
abbrev pub passes : (ℕ → ℕ → Bool) → ℕ → List ℕ → Bool
passes test i [] = true
passes test i (x ∷ l) = test i x && passes test (i + 1) l

module _ (test : ℕ → ℕ → Bool) where
  lift : (i : ℕ) (l : List ℕ) → passes test i l ≡ true → (k j : ℕ) → j ≡ i + k → k < length l → test j (get_or l k 0) ≡ true
  lift i [] p k j e h = absurd (omega arith)
  lift i (x ∷ l) p zero j e h = subst (λ (n : ℕ). test n x ≡ true) (omega arith) (parts (test i x) (passes test (i + 1) l) p).0
  lift i (x ∷ l) p (suc k) j e h = lift (i + 1) l (parts (test i x) (passes test (i + 1) l) p).1 k j (omega arith) (omega arith)

  pub passes_at : (l : List ℕ) → passes test 0 l ≡ true → (k : ℕ) → k < length l → test k (get_or l k 0) ≡ true
  passes_at l p k h = lift 0 l p k k (omega arith) h

entries_same : {A : Type 0} (d : A) (l m : List A) → length l ≡ length m → ((k : ℕ) → k < length l → get_or l k d ≡ get_or m k d) → l ≡ m
entries_same d [] [] e h = refl
entries_same d [] (y ∷ m) e h = absurd (omega (arith, e))
entries_same d (x ∷ l) [] e h = absurd (omega (arith, e))
entries_same d (x ∷ l) (y ∷ m) e h =
    let head : x ≡ y = h 0 (omega arith) in
    let tail : l ≡ m = entries_same d l m (omega (arith, e)) (λ k b. h (suc k) (omega (arith, b))) in
    ap (λ z. z ∷ l) head ∙ ap (λ t. y ∷ t) tail

-- a list of n entries, of which each is x of its place
pub table_is : (x : ℕ → ℕ) (n : ℕ) (l : List ℕ) → length l ≡ n → ((k : ℕ) → k < n → get_or l k 0 ≡ x k) → l ≡ table x 0 n n
table_is x n l e h =
    entries_same 0 l (table x 0 n n) (e ∙ sym (table_length x 0 n n))
    (λ k b. h k (omega (arith, e, b)) ∙ sym (table_in x 0 n n k (omega (arith, e, b)) (omega (arith, e, b))))

-- ---- an array made by a closure of the place, which leaves the closure as it was

module _ {F A : Type 0} (g : Mut F (ℕ × Unit {0}) A) {f : F} (h : ℕ → A) (gives : (k : ℕ) (y : A) (q : F) → Called g f (k, tt) y q → (q ≡ f) × (y ≡ h k)) where
  made_at : (ys : List A) (i n : ℕ) (d : A) → IsFromFnResultFrom g f ys i n → (k j : ℕ) → k < n → j ≡ i + k → get_or ys j d ≡ h j
  made_at ys i zero d r k j b e = absurd (omega arith)
  made_at ys i (suc n) d (q, y, at, called, more) zero j b e = let here : j ≡ i = omega (arith, e) in rw here (at.1 d ∙ (gives i y q called).1)
  made_at ys i (suc n) d (q, y, at, called, more) (suc k) j b e = made_at ys (i + 1) n d (subst (λ p. IsFromFnResultFrom g p ys (i + 1) n) (gives i y q called).0 more) k j (omega arith) (omega (arith, e))

-- a table, where the closure has x k below n and z past it
pub table_made : {F A : Type 0} {g : Mut F (ℕ × Unit {0}) A} {f : F} (x : ℕ → A) (z : A) (n : ℕ) {many : ℕ} {ys : List A} → IsFromFnResult g f ys many → ((k : ℕ) (y : A) (q : F) → Called g f (k, tt) y q → (q ≡ f) × (y ≡ cond (ltb k n) (x k) z)) → ys ≡ table x z n many
table_made {g = g} x z n {many} {ys} made gives =
    entries_same z ys (table x z n many) (made.long ∙ sym (table_length x z many n))
    (λ k b. made_at g (λ k. cond (ltb k n) (x k) z) gives ys 0 many z made.each k k (omega (arith, b, made.long)) (omega arith) ∙ at k (omega (arith, b, made.long)))
  where
    at : (k : ℕ) → k < many → cond (ltb k n) (x k) z ≡ get_or (table x z n many) k z
    at k l =
        by_test (λ y. y ≡ get_or (table x z n many) k z) (ltb k n)
        (λ t. sym (table_in x z many n k l (ltb-true k n t)))
        (λ t. sym (table_past x z many n k (ltb-false k n t)))

-- the same where it has x k everywhere
pub table_full : {F A : Type 0} {g : Mut F (ℕ × Unit {0}) A} {f : F} (x : ℕ → A) (z : A) {many : ℕ} {ys : List A} → IsFromFnResult g f ys many
    → ((k : ℕ) (y : A) (q : F) → Called g f (k, tt) y q → (q ≡ f) × (y ≡ x k)) → ys ≡ table x z many many
table_full {g = g} x z {many} {ys} made gives =
    entries_same z ys (table x z many many) (made.long ∙ sym (table_length x z many many))
    (λ k b. made_at g x gives ys 0 many z made.each k k (omega (arith, b, made.long)) (omega arith)
    ∙ sym (table_in x z many many k (omega (arith, b, made.long)) (omega (arith, b, made.long))))
