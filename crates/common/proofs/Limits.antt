-- Tests and ranges: what they say, both ways; and the search for the first word outside its range. Assumes nothing.
use mathlib.Core.Path.{◌≡◌, refl, sym, ap, ◌∙◌}
use mathlib.Core.Bool.{Bool, true, false, cond, ◌&&◌, and-eq-true_iff}
use mathlib.Core.List.{List, [], ◌∷◌, ◌++◌}
use Prim.Native.Nat.{ℕ, zero, suc, ◌+◌, ◌-◌, ◌*◌, ◌≤◌, ◌<◌}
use native.Mathlib.Nat.{sub-zero}
use native.Mathlib.Numerals.{add-one}
use native.Mathlib.Omega.{arith}
use lib.Dec.{leb}
use lib.ListN.{length, take, drop, length-append}
use borrow.Author.Tests.{le-leb, leb-true}
use Rattle.common.specs.Limits.{within, Word, words_in, first_out}

-- ---- tests

-- what holds of both answers of a test
pub by_test : {A : Type 0} (P : A → Type 0) (b : Bool) {x y : A} → (b ≡ true → P x) → (b ≡ false → P y) → P (cond b x y)
by_test P true yea nay = yea refl
by_test P false yea nay = nay refl

-- a test that can't hold is false
pub refuted : (b : Bool) → (b ≡ true → ⊥) → b ≡ false
refuted true n = absurd (n refl)
refuted false n = refl

pub both : {a b : Bool} → a ≡ true → b ≡ true → a && b ≡ true
both {a} {b} p q = (and-eq-true_iff a b).1 (p, q)

pub parts : (a b : Bool) → a && b ≡ true → (a ≡ true) × (b ≡ true)
parts a b = (and-eq-true_iff a b).0

-- ---- ranges

pub within_in : (lo x hi : ℕ) → lo ≤ x → x ≤ hi → within lo x hi ≡ true
within_in lo x hi l h = both (le-leb lo x l) (le-leb x hi h)

pub within_limits : (lo x hi : ℕ) → within lo x hi ≡ true → (lo ≤ x) × (x ≤ hi)
within_limits lo x hi t =
    let b = parts (leb lo x) (leb x hi) t in
    (leb-true lo x b.0, leb-true x hi b.1)

pub within_not : (lo x hi : ℕ) → (lo ≤ x → x ≤ hi → ⊥) → within lo x hi ≡ false
within_not lo x hi n = refuted (within lo x hi) (λ t. n (within_limits lo x hi t).0 (within_limits lo x hi t).1)

-- ---- words inside their ranges

-- as facts
abbrev pub Within : List Word → Type 0
Within [] = Unit {0}
Within (w ∷ ws) = (w.lo ≤ w.value) × (w.value ≤ w.hi) × Within ws

pub words_limits : (ws : List Word) → words_in ws ≡ true → Within ws
unfolding words_in
words_limits [] t = tt
words_limits (w ∷ ws) t =
    let b = parts (within w.lo w.value w.hi) (words_in ws) t in
    let l = within_limits w.lo w.value w.hi b.0 in
    (l.0, l.1, words_limits ws b.1)

pub words_in_lem : (ws : List Word) → Within ws → words_in ws ≡ true
unfolding words_in
words_in_lem [] h = refl
words_in_lem (w ∷ ws) h = both (within_in w.lo w.value w.hi h.0 h.1) (words_in_lem ws h.2)

pub within_append : (xs ys : List Word) → Within (xs ++ ys) → Within xs × Within ys
within_append [] ys h = (tt, h)
within_append (x ∷ xs) ys h = let r = within_append xs ys h.2 in ((h.0, h.1, r.0), r.1)

-- a long list in two parts
pub within_join : (n : ℕ) (ws : List Word) → Within (take n ws) → Within (drop n ws) → Within ws
within_join zero ws h k = k
within_join (suc n) [] h k = tt
within_join (suc n) (w ∷ ws) h k = (h.0, h.1, within_join n ws h.2 k)

-- ---- the first word outside

module _ (w : Word) (ws : List Word) where
  first_inside : w.lo ≤ w.value → w.value ≤ w.hi → first_out (w ∷ ws) ≡ suc (first_out ws)
  unfolding first_out
  first_inside l h = rw (within_in w.lo w.value w.hi l h)

  first_outside_lem : (w.lo ≤ w.value → w.value ≤ w.hi → ⊥) → first_out (w ∷ ws) ≡ 0
  unfolding first_out
  first_outside_lem n = rw (within_not w.lo w.value w.hi n)

  -- the search at its first word
  first_cases : (P : ℕ → Type 0) → (w.lo ≤ w.value → w.value ≤ w.hi → P (suc (first_out ws))) → P 0 → P (first_out (w ∷ ws))
  unfolding first_out
  first_cases P yea nay =
      by_test P (within w.lo w.value w.hi)
      (λ t. yea (within_limits w.lo w.value w.hi t).0 (within_limits w.lo w.value w.hi t).1) (λ _. nay)

-- the first of the words is outside
abbrev pub Outside : List Word → Type 0
Outside [] = ⊥
Outside (w ∷ ws) = w.lo ≤ w.value → w.value ≤ w.hi → ⊥

-- so many inside, and then one outside
pub first_at : (ws : List Word) (k : ℕ) → Within (take k ws) → Outside (drop k ws) → k ≡ first_out ws
first_at [] zero h n = absurd n
first_at [] (suc k) h n = absurd n
first_at (w ∷ ws) zero h n = sym (first_outside_lem w ws n)
first_at (w ∷ ws) (suc k) h n = ap suc (first_at ws k h.2 n) ∙ sym (first_inside w ws h.0 h.1)

pub first_all : (ws : List Word) → Within ws → first_out ws ≡ length ws
unfolding first_out
first_all [] h = refl
first_all (w ∷ ws) h = first_inside w ws h.0 h.1 ∙ ap suc (first_all ws h.2)

-- none is outside exactly when every word is inside
pub first_none : (ws : List Word) → first_out ws ≡ length ws → Within ws
first_none [] e = tt
first_none (w ∷ ws) e =
    first_cases w ws (λ (k : ℕ). k ≡ suc (length ws) → (first_out ws ≡ length ws → Within ws) → Within (w ∷ ws))
    (λ l h g f. (l, h, f (omega arith))) (λ g f. absurd (omega arith)) e (first_none ws)

pub first_le : (ws : List Word) → first_out ws ≤ length ws
unfolding first_out
first_le [] = omega arith
first_le (w ∷ ws) =
    first_cases w ws (λ (k : ℕ). first_out ws ≤ length ws → k ≤ suc (length ws)) (λ l h f. omega arith) (λ f. omega arith) (first_le ws)

-- none in the first list: the search goes on in the second
pub first_skip : (ws vs : List Word) → first_out ws ≡ length ws → first_out (ws ++ vs) ≡ length ws + first_out vs
first_skip ws vs e = go ws (first_none ws e)
  where
    go : (ws : List Word) → Within ws → first_out (ws ++ vs) ≡ length ws + first_out vs
    go [] h = omega arith
    go (w ∷ ws) h = omega (arith, first_inside w (ws ++ vs) h.0 h.1, go ws h.2)

-- one in the first list: it is the answer
pub first_stop : (ws vs : List Word) → (first_out ws ≡ length ws → ⊥) → first_out (ws ++ vs) ≡ first_out ws
unfolding first_out
first_stop [] vs n = absurd (n refl)
first_stop (w ∷ ws) vs n = go (within w.lo w.value w.hi) n (first_stop ws vs)
  where
    go : (b : Bool) → (cond b (suc (first_out ws)) 0 ≡ suc (length ws) → ⊥) → ((first_out ws ≡ length ws → ⊥) → first_out (ws ++ vs) ≡ first_out ws)
        → cond b (suc (first_out (ws ++ vs))) 0 ≡ cond b (suc (first_out ws)) 0
    go true n f = ap suc (f (λ e. n (ap suc e)))
    go false n f = refl

-- ---- the same over words that come in parts of one size: `all i left` is the parts i, i + 1, .., so many as are left

pub record InParts (size : ℕ) (part : ℕ → List Word) (all : ℕ → ℕ → List Word) : Type 0 where
  pub none : (i : ℕ) → all i 0 ≡ []
  pub some : (i left : ℕ) → all i (suc left) ≡ part i ++ all (suc i) left
  pub sized : (i : ℕ) → length (part i) ≡ size

-- the search at part i of n: the rest of it gives the answer
pub record Searching (size : ℕ) (all : ℕ → ℕ → List Word) (n i : ℕ) : Type 0 where
  pub place : i ≤ n
  pub answer : size * i + first_out (all i (n - i)) ≡ first_out (all 0 n)

module _ {size : ℕ} {part : ℕ → List Word} {all : ℕ → ℕ → List Word} (p : InParts size part all) where
  pub parts_length : (i left : ℕ) → length (all i left) ≡ size * left
  parts_length i zero = rw (p.none i) (omega arith)
  parts_length i (suc left) =
      rw (p.some i left, length-append (part i) (all (suc i) left), p.sized i, parts_length (suc i) left) (omega arith)

  pub parts_le : (n : ℕ) → first_out (all 0 n) ≤ size * n
  parts_le n = omega (arith, first_le (all 0 n), parts_length 0 n)

  -- part t of those from i on
  pub parts_in : (i left : ℕ) → Within (all i left) → (k t : ℕ) → t ≡ i + k → k < left → Within (part t)
  parts_in i zero h k t e l = absurd (omega arith)
  parts_in i (suc left) h zero t e l =
      let same : t ≡ i = omega arith in
      rw same (within_append (part i) (all (suc i) left) (rw (p.some i left) at h)).0
  parts_in i (suc left) h (suc k) t e l =
      parts_in (suc i) left (within_append (part i) (all (suc i) left) (rw (p.some i left) at h)).1 k t (omega arith) (omega arith)

  pub search_begin : (n : ℕ) → Searching size all n 0
  search_begin n = record { place = omega arith; answer = rw (sub-zero n) (omega arith) }

  module _ {n i : ℕ} (s : Searching size all n i) where
    search_next : i < n → all i (n - i) ≡ part i ++ all (i + 1) (n - (i + 1))
    search_next h =
        let left : n - i ≡ suc (n - (i + 1)) = omega arith in
        rw (left, p.some i (n - (i + 1)), add-one i)

    module _ {k : ℕ} (h : i < n) (e : k ≡ first_out (part i)) where
      pub search_turn : k ≡ size → Searching size all n (i + 1)
      search_turn q =
          record {
            place = omega arith;
            answer =
                omega (
                  arith,
                  s.answer,
                  ap first_out (search_next h),
                  first_skip (part i) (all (i + 1) (n - (i + 1))) (sym e ∙ q ∙ sym (p.sized i)),
                  p.sized i,
                );
          }

      pub search_found : (k ≡ size → ⊥) → size * i + k ≡ first_out (all 0 n)
      search_found q =
          omega (
            arith,
            s.answer,
            ap first_out (search_next h),
            first_stop (part i) (all (i + 1) (n - (i + 1))) (λ g. q (e ∙ g ∙ p.sized i)),
            e,
          )

    pub search_none : n ≤ i → size * n ≡ first_out (all 0 n)
    unfolding first_out
    search_none h =
        let end : i ≡ n = omega (arith, s.place) in
        let done : n - i ≡ 0 = omega arith in
        omega (arith, rw (done, p.none i) at s.answer, ap (λ (a : ℕ). size * a) end)
