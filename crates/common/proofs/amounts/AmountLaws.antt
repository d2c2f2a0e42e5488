-- Lists of amounts: bounds and sums, and the loops over them. Assumes nothing.
use mathlib.Core.Path.{◌≡◌, refl, sym, ap, ◌∙◌}
use mathlib.Core.Bool.{true, false, ◌&&◌}
use mathlib.Core.List.{List, [], ◌∷◌, ◌++◌}
use Prim.Native.Nat.{ℕ, zero, suc, ◌+◌, ◌*◌, ◌≤◌, ◌<◌}
use native.Mathlib.Nat.{le_of_suc-le-suc, not-suc-le-zero}
use native.Mathlib.Numerals.{add-one}
use native.Mathlib.Omega.{arith}
use lib.Dec.{leb}
use lib.ListN.{length, get_or, set, take, drop, replicate, drop_of_length-le}
use lib.Seq.{drop-cons, take_all}
use borrow.Author.Tests.{le-leb, lt-leb, leb-true}
use Rattle.std.specs.List.{list_all}
use Rattle.common.specs.Amounts.{sum, all_up_to, capped}
use Rattle.common.proofs.Limits.{both, parts}

-- the default does not matter within a list
pub get_or_within : {A : Type 0} (l : List A) (i : ℕ) (d e : A) → i < length l → get_or l i d ≡ get_or l i e
get_or_within [] i d e h = absurd (not-suc-le-zero h)
get_or_within (x ∷ l) zero d e h = refl
get_or_within (x ∷ l) (suc i) d e h = get_or_within l i d e (le_of_suc-le-suc h)

pub get_or_repeat : {A : Type 0} (z : A) (n i : ℕ) → get_or (replicate n z) i z ≡ z
get_or_repeat z zero i = refl
get_or_repeat z (suc n) zero = refl
get_or_repeat z (suc n) (suc i) = get_or_repeat z n i

pub length_take_most : (n : ℕ) (l : List ℕ) → length (take n l) ≤ n
length_take_most zero l = omega arith
length_take_most (suc n) [] = omega arith
length_take_most (suc n) (x ∷ l) = omega (arith, length_take_most n l)

-- the n elements from the i-th on, one by one
abbrev pub listed : List ℕ → ℕ → ℕ → List ℕ
listed l i zero = []
listed l i (suc n) = get_or l i 0 ∷ listed l (suc i) n

pub listed_take : (l : List ℕ) (i n : ℕ) → i + n ≤ length l → listed l i n ≡ take n (drop i l)
listed_take l i zero h = refl
listed_take l i (suc n) h = rw (drop-cons l i 0 (omega arith)) (ap (λ (xs : List ℕ). get_or l i 0 ∷ xs) (listed_take l (suc i) n (omega arith)))

-- ---- no amount above a bound, as facts

abbrev pub UpTo : ℕ → List ℕ → Type 0
UpTo b [] = Unit {0}
UpTo b (x ∷ xs) = (x ≤ b) × UpTo b xs

pub all_limits : (b : ℕ) (xs : List ℕ) → all_up_to b xs ≡ true → UpTo b xs
unfolding all_up_to
all_limits b [] t = tt
all_limits b (x ∷ xs) t =
    let p = parts (leb x b) (all_up_to b xs) t in
    (leb-true x b p.0, all_limits b xs p.1)

pub all_in : (b : ℕ) (xs : List ℕ) → UpTo b xs → all_up_to b xs ≡ true
unfolding all_up_to
all_in b [] h = refl
all_in b (x ∷ xs) h = both (le-leb x b h.0) (all_in b xs h.1)

pub up_to_copies : (b v n : ℕ) → v ≤ b → UpTo b (replicate n v)
up_to_copies b v zero h = tt
up_to_copies b v (suc n) h = (h, up_to_copies b v n h)

pub up_to_zeros : (b n : ℕ) → UpTo b (replicate n 0)
up_to_zeros b n = up_to_copies b 0 n (omega arith)

pub up_to_append : (b : ℕ) (xs ys : List ℕ) → UpTo b xs → UpTo b ys → UpTo b (xs ++ ys)
up_to_append b [] ys h k = k
up_to_append b (x ∷ xs) ys h k = (h.0, up_to_append b xs ys h.1 k)

pub up_to_take : (b n : ℕ) (xs : List ℕ) → UpTo b xs → UpTo b (take n xs)
up_to_take b zero xs h = tt
up_to_take b (suc n) [] h = tt
up_to_take b (suc n) (x ∷ xs) h = (h.0, up_to_take b n xs h.1)

pub up_to_drop : (b n : ℕ) (xs : List ℕ) → UpTo b xs → UpTo b (drop n xs)
up_to_drop b zero xs h = h
up_to_drop b (suc n) [] h = tt
up_to_drop b (suc n) (x ∷ xs) h = up_to_drop b n xs h.1

pub up_to_at : (b : ℕ) (xs : List ℕ) (n : ℕ) → UpTo b xs → get_or xs n 0 ≤ b
up_to_at b [] n h = omega arith
up_to_at b (x ∷ xs) zero h = h.0
up_to_at b (x ∷ xs) (suc n) h = up_to_at b xs n h.1

pub up_to_more : (b d : ℕ) (xs : List ℕ) → b ≤ d → UpTo b xs → UpTo d xs
up_to_more b d [] l h = tt
up_to_more b d (x ∷ xs) l h = (omega arith, up_to_more b d xs l h.1)

-- the test as the library's `all` has it
pub all_listed : (b : ℕ) (xs : List ℕ) → list_all (λ x. leb x b) xs ≡ all_up_to b xs
unfolding all_up_to
all_listed b [] = refl
all_listed b (x ∷ xs) = ap (λ t. leb x b && t) (all_listed b xs)

-- and as a loop by index looks over the amounts from a place on: the rest of it gives the answer
pub record Looking (b : ℕ) (xs : List ℕ) (from i : ℕ) : Type 0 where
  pub answer : all_up_to b (drop i xs) ≡ all_up_to b (drop from xs)

module _ {b : ℕ} {xs : List ℕ} {from : ℕ} where
  pub look_begin : Looking b xs from from
  look_begin = record { answer = refl }

  module _ {i : ℕ} (s : Looking b xs from i) where
    pub look_turn : i < length xs → get_or xs i 0 ≤ b → Looking b xs from (i + 1)
    unfolding all_up_to
    look_turn l h = record { answer = sym (rw (drop-cons xs i 0 l, le-leb (get_or xs i 0) b h, add-one i)) ∙ s.answer }

    pub look_stop : i < length xs → b < get_or xs i 0 → false ≡ all_up_to b (drop from xs)
    unfolding all_up_to
    look_stop l h = sym (rw (drop-cons xs i 0 l, lt-leb (get_or xs i 0) b h)) ∙ s.answer

    pub look_end : length xs ≤ i → true ≡ all_up_to b (drop from xs)
    unfolding all_up_to
    look_end h = sym (rw (drop_of_length-le xs {i = i} h)) ∙ s.answer

-- ---- sums

pub sum_append : (xs ys : List ℕ) → sum (xs ++ ys) ≡ sum xs + sum ys
unfolding sum
sum_append [] ys = omega arith
sum_append (x ∷ xs) ys = rw (sum_append xs ys) (omega arith)

pub sum_most : (b : ℕ) (xs : List ℕ) → UpTo b xs → sum xs ≤ length xs * b
unfolding sum
sum_most b [] h = omega arith
sum_most b (x ∷ xs) h = omega (arith, sum_most b xs h.1)

pub sum_zeros : (n : ℕ) → sum (replicate n 0) ≡ 0
sum_zeros n = omega (arith, sum_most 0 (replicate n 0) (up_to_zeros 0 n))

-- one amount is at most the sum
pub at_most_sum : (l : List ℕ) (i : ℕ) → get_or l i 0 ≤ sum l
unfolding sum
at_most_sum [] i = omega arith
at_most_sum (x ∷ l) zero = omega arith
at_most_sum (x ∷ l) (suc i) = omega (arith, at_most_sum l i)

-- an amount put in the place of another
pub sum_set : (l : List ℕ) (i v : ℕ) → i < length l → sum (set l i v) + get_or l i 0 ≡ sum l + v
unfolding sum
sum_set [] i v h = omega arith
sum_set (x ∷ l) zero v h = omega arith
sum_set (x ∷ l) (suc i) v h = omega (arith, sum_set l i v (omega arith))

-- past the end nothing is put
pub sum_set_most : (l : List ℕ) (i v : ℕ) → sum (set l i v) + get_or l i 0 ≤ sum l + v
unfolding sum
sum_set_most [] i v = omega arith
sum_set_most (x ∷ l) zero v = omega arith
sum_set_most (x ∷ l) (suc i) v = omega (arith, sum_set_most l i v)

-- an amount taken away
pub sum_clear : (l : List ℕ) (i : ℕ) → sum (set l i 0) + get_or l i 0 ≡ sum l
unfolding sum
sum_clear [] i = omega arith
sum_clear (x ∷ l) zero = omega arith
sum_clear (x ∷ l) (suc i) = omega (arith, sum_clear l i)

pub clear_same : (l : List ℕ) (i : ℕ) → get_or (set l i 0) i 0 ≡ 0
clear_same [] i = refl
clear_same (x ∷ l) zero = refl
clear_same (x ∷ l) (suc i) = clear_same l i

-- what is zero at every place but the first is its first amount
pub sum_first : (l : List ℕ) → ((k : ℕ) → get_or l (suc k) 0 ≡ 0) → sum l ≡ get_or l 0 0
unfolding sum
sum_first [] h = refl
sum_first (x ∷ l) h = omega (arith, none l h)
  where
    none : (l : List ℕ) → ((k : ℕ) → get_or l k 0 ≡ 0) → sum l ≡ 0
    none [] h = refl
    none (x ∷ l) h = omega (arith, h 0, none l (λ k. h (suc k)))

sum_next : (l : List ℕ) (i : ℕ) → i < length l → sum (take (suc i) l) ≡ sum (take i l) + get_or l i 0
unfolding sum
sum_next [] i h = absurd (omega arith)
sum_next (x ∷ l) zero h = omega arith
sum_next (x ∷ l) (suc i) h = omega (arith, sum_next l i (omega arith))

-- the sum as a loop makes it, i of the amounts done, as far as 64 bits hold it
pub record Totalling (l : List ℕ) (i all : ℕ) : Type 0 where
  pub so_far : all ≡ capped (sum (take i l))

module _ {l : List ℕ} where
  pub total_begin : Totalling l 0 0
  unfolding sum
  total_begin = record { so_far = refl }

  module _ {i all : ℕ} (s : Totalling l i all) where
    pub total_turn : {next : ℕ} → i < length l → next ≡ capped (all + get_or l i 0) → Totalling l (i + 1) next
    total_turn h e = record { so_far = rw (add-one i) (omega (arith, s.so_far, sum_next l i h)) }

    pub total_end : length l ≤ i → all ≡ capped (sum l)
    total_end h = s.so_far ∙ ap (λ (k : List ℕ). capped (sum k)) (take_all i l h)
