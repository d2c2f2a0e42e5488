-- A window's record: what it keeps, what its test asks of it, both ways, and arrivals that leave one that passes. Assumes nothing.
use mathlib.Core.Path.{◌≡◌, refl, sym, ap, ◌∙◌}
use mathlib.Core.Bool.{Bool, true, ◌&&◌, and-true}
use mathlib.Core.List.{List, [], ◌∷◌, ◌++◌}
use Prim.Native.Nat.{ℕ, zero, suc, ◌+◌, ◌-◌, ◌≤◌, ◌<◌}
use native.Mathlib.Numerals.{add-one}
use native.Mathlib.Omega.{arith}
use lib.Dec.{ltb, eqb}
use lib.ListN.{length, get_or, drop, replicate, length-append, length-replicate, length-take, length-drop}
use lib.Seq.{drop-cons, take-append_seam, drop-append_seam}
use borrow.Author.Tests.{lt-ltb, le-ltb, ltb-true}
use Rattle.std.specs.List.{list_all}
use Rattle.std.proofs.lemmas.List.{take-append-drop, get_or-take, drop_all}
use Rattle.std.proofs.lemmas.List.Folds.{list_all-append}
use Rattle.common.proofs.Limits.{both, parts}
use Rattle.common.proofs.amounts.AmountLaws.{UpTo, up_to_copies, up_to_append}
use Rattle.window.specs.declared.Kept.{Kept}
use Rattle.window.specs.declared.Window.{Window}
use Rattle.window.specs.Window.{most, blank, is_blank, keeping, kept_of, volumes, first_of, highest_of, falls, counts_fit, others_blank, fits, is_reached}
use Rattle.window.proofs.UnexceededLaws.{below, at_age, aged}

-- ---- the counts

pub record CountsIn (w : Window) : Type 0 where
  pub n_least : 1 ≤ w.n
  pub n_most : w.n ≤ most
  pub count_most : w.count ≤ most
  pub first_young : (first_of w).age < w.n

module _ (w : Window) where
  pub counts_limits : counts_fit w ≡ true → CountsIn w
  unfolding counts_fit
  counts_limits t = record { n_least = grind arith; n_most = grind arith; count_most = grind arith; first_young = grind arith }

  counts_in_lem : CountsIn w → counts_fit w ≡ true
  unfolding counts_fit
  counts_in_lem h = grind (arith, h.n_least, h.n_most, h.count_most, h.first_young)

-- ---- a record that is made

module _ (n : ℕ) (l : List Kept) where
  pub kept_keeping : kept_of (keeping n l) ≡ l
  kept_keeping = take-append_seam l (replicate (most - length l) blank)

  pub first_keeping : first_of (keeping n l) ≡ get_or l 0 blank
  first_keeping = go l
    where
      go : (l : List Kept) → get_or (l ++ replicate (most - length l) blank) 0 blank ≡ get_or l 0 blank
      go [] = refl
      go (k ∷ l) = refl

  pub highest_keeping : highest_of (keeping n l) ≡ (get_or l 0 blank).volume
  unfolding highest_of
  highest_keeping = ap (λ (k : Kept). k.volume) first_keeping

all_copies : {A : Type 0} (p : A → Bool) (x : A) → p x ≡ true → (m : ℕ) → list_all p (replicate m x) ≡ true
all_copies p x t zero = refl
all_copies p x t (suc m) = both t (all_copies p x t m)

blank_blank : is_blank blank ≡ true
unfolding is_blank
blank_blank = refl

pub keeping_passes : (n : ℕ) (l : List Kept) → 1 ≤ n → n ≤ most → length l ≤ most → (get_or l 0 blank).age < n → falls l ≡ true → is_reached (keeping n l) ≡ true
unfolding is_reached fits others_blank
keeping_passes n l least range long young fall =
    let unused = ap (list_all is_blank) (drop-append_seam l (replicate (most - length l) blank)) ∙ all_copies is_blank blank blank_blank (most - length l) in
    let counts : CountsIn (keeping n l) = record { n_least = least; n_most = range; count_most = long; first_young = rw (first_keeping n l) young } in
    both (both (counts_in_lem (keeping n l) counts) unused) (ap falls (kept_keeping n l) ∙ fall)

-- ---- a record that passes

module _ (k : Kept) (t : is_blank k ≡ true) where
  volume_blank : k.volume ≡ 0
  unfolding is_blank
  volume_blank = grind arith

  age_blank : k.age ≡ 0
  unfolding is_blank
  age_blank = grind arith

  blank_is : k ≡ blank
  blank_is = rw (volume_blank, age_blank)

blanks_are : (l : List Kept) → list_all is_blank l ≡ true → l ≡ replicate (length l) blank
blanks_are [] t = refl
blanks_are (k ∷ l) t =
    let p = parts (is_blank k) (list_all is_blank l) t in
    rw (blank_is k p.0) (ap (λ (r : List Kept). blank ∷ r) (blanks_are l p.1))

pub fits_limits : (w : Window) → fits w ≡ true → CountsIn w
unfolding fits
fits_limits w t = counts_limits w (parts (counts_fit w) (others_blank w) t).0

module _ (w : Window) (long : length w.kept ≡ most) (t : fits w ≡ true) where
  pub count_is : length (kept_of w) ≡ w.count
  count_is = omega (arith, length-take w.count w.kept, (fits_limits w t).count_most, long)

  others : list_all is_blank (drop w.count w.kept) ≡ true
  unfolding fits others_blank
  others = (parts (counts_fit w) (others_blank w) t).1

  pub keeping_is : w ≡ keeping w.n (kept_of w)
  keeping_is =
      let past : length (drop w.count w.kept) ≡ most - w.count = omega (arith, length-drop w.count w.kept) in
      let unused = ap (λ (m : ℕ). replicate m blank) past in
      rw count_is
      (ap (λ (l : List Kept). record { n = w.n; count = w.count; kept = l })
      (sym (take-append-drop w.count w.kept) ∙ ap (λ (l : List Kept). kept_of w ++ l) (blanks_are (drop w.count w.kept) others ∙ unused)))

  pub kept_young : (get_or (kept_of w) 0 blank).age < w.n
  kept_young = rw (ap first_of keeping_is ∙ first_keeping w.n (kept_of w)) at (fits_limits w t).first_young

-- ---- one place and the next

module _ (w : Window) (range : w.count ≤ most) (long : length w.kept ≡ most) where
  at_place : (i : ℕ) → i < w.count → drop i (kept_of w) ≡ get_or w.kept i blank ∷ drop (suc i) (kept_of w)
  at_place i here =
      drop-cons (kept_of w) i blank (omega (arith, length-take w.count w.kept))
      ∙ ap (λ (k : Kept). k ∷ drop (suc i) (kept_of w)) (get_or-take w.count w.kept i blank here)

  module _ (i : ℕ) where
    pub falls_last : i + 1 ≡ w.count → falls (drop i (kept_of w)) ≡ eqb (get_or w.kept i blank).age 0 && falls (drop (i + 1) (kept_of w))
    unfolding falls
    falls_last e =
        let none : drop (suc i) (kept_of w) ≡ [] = drop_all (suc i) (kept_of w) (omega (arith, length-take w.count w.kept)) in
        rw (add-one i, none)
        (ap falls (at_place i (omega arith) ∙ ap (λ (l : List Kept). get_or w.kept i blank ∷ l) none) ∙ sym (and-true (eqb (get_or w.kept i blank).age 0)))

    pub falls_next : i + 1 < w.count
        → falls (drop i (kept_of w))
        ≡ ltb (get_or w.kept (i + 1) blank).volume (get_or w.kept i blank).volume && ltb (get_or w.kept (i + 1) blank).age (get_or w.kept i blank).age && falls (drop (i + 1) (kept_of w))
    unfolding falls
    falls_next h =
        let k = get_or w.kept i blank in
        let next = get_or w.kept (suc i) blank in
        let after = at_place (suc i) (omega arith) in
        rw (add-one i)
        (ap falls (at_place i (omega arith) ∙ ap (λ (l : List Kept). k ∷ l) after)
        ∙ ap (λ (l : List Kept). ltb next.volume k.volume && ltb next.age k.age && falls l) (sym after))

-- ---- arrivals that leave what falls

-- each one that is kept comes as often as there are steps to it from the age before
unfoldable pub history : ℕ → List Kept → List ℕ
history before [] = []
history before (k ∷ l) = replicate (before - k.age) k.volume ++ history k.age l

below_more : (v x : ℕ) (l : List ℕ) → below v l ≡ true → v < x → below x l ≡ true
below_more v x [] t h = refl
below_more v x (y ∷ l) t h =
    let p = parts (ltb y v) (below v l) t in
    both (lt-ltb y x (omega (arith, ltb-true y v p.0))) (below_more v x l p.1 h)

aged_copies : (x m : ℕ) (l : List ℕ) → below x l ≡ true → aged (replicate (suc m) x ++ l) ≡ at_age x (length l) ∷ aged l
unfolding aged
aged_copies x zero l t = rw t
aged_copies x (suc m) l t = rw (le-ltb x x (omega arith)) (aged_copies x m l t)

-- What is right of the arrivals after k, where l comes after it.
record Rest (k : Kept) (l : List Kept) : Type 0 where
  so_many : length (history k.age l) ≡ k.age
  kept : aged (history k.age l) ≡ l
  lower : below k.volume (history k.age l) ≡ true

-- And of those that begin with k, as often as it comes.
record Whole (before : ℕ) (k : Kept) (l : List Kept) : Type 0 where
  so_many : length (history before (k ∷ l)) ≡ before
  kept : aged (history before (k ∷ l)) ≡ k ∷ l
  lower : (x : ℕ) → k.volume < x → below x (history before (k ∷ l)) ≡ true

history_more : (before : ℕ) (k : Kept) (l : List Kept) → history before (k ∷ l) ≡ replicate (before - k.age) k.volume ++ history k.age l
unfolding history
history_more before k l = refl

put_before : (before : ℕ) (k : Kept) (l : List Kept) → Rest k l → k.age < before → Whole before k l
put_before before k l a h =
    let copies = replicate (before - k.age) k.volume in
    let some : before - k.age ≡ suc (before - suc k.age) = omega arith in
    let long : length copies + length (history k.age l) ≡ before = omega (arith, length-replicate (before - k.age) k.volume, a.so_many) in
    record {
      so_many = ap length (history_more before k l) ∙ length-append copies (history k.age l) ∙ long;
      kept =
          ap aged (history_more before k l) ∙ ap (λ (m : ℕ). aged (replicate m k.volume ++ history k.age l)) some
          ∙ aged_copies k.volume (before - suc k.age) (history k.age l) a.lower ∙ rw (a.so_many, a.kept);
      lower =
          λ x u. ap (below x) (history_more before k l) ∙ list_all-append (λ later. ltb later x) copies (history k.age l)
          ∙ both (all_copies (λ later. ltb later x) k.volume (lt-ltb k.volume x u) (before - k.age)) (below_more k.volume x (history k.age l) a.lower u);
    }

newest : (k : Kept) → falls (k ∷ []) ≡ true → k.age ≡ 0
unfolding falls
newest k t = grind arith

module _ (k next : Kept) (l : List Kept) (t : falls (k ∷ (next ∷ l)) ≡ true) where
  next_lower : next.volume < k.volume
  unfolding falls
  next_lower = grind arith

  next_younger : next.age < k.age
  unfolding falls
  next_younger = grind arith

  rest_falls : falls (next ∷ l) ≡ true
  unfolding falls
  rest_falls = grind arith

rest : (k : Kept) (l : List Kept) → falls (k ∷ l) ≡ true → Rest k l
unfolding history aged
rest k [] t = record { so_many = sym (newest k t); kept = refl; lower = refl }
rest k (next ∷ l) t =
    let b = put_before k.age next l (rest next l (rest_falls k next l t)) (next_younger k next l t) in
    record { so_many = b.so_many; kept = b.kept; lower = b.lower k.volume (next_lower k next l t) }

-- all of them
unfoldable pub whole_history : List Kept → List ℕ
whole_history l = history (suc (get_or l 0 blank).age) l

pub record Leaves (n : ℕ) (l : List Kept) : Type 0 where
  pub so_many : length (whole_history l) ≤ n
  pub kept : aged (whole_history l) ≡ l

pub history_leaves : (n : ℕ) (l : List Kept) → (get_or l 0 blank).age < n → falls l ≡ true → Leaves n l
unfolding whole_history history aged
history_leaves n [] h t = record { so_many = omega arith; kept = refl }
history_leaves n (k ∷ l) h t =
    let b = put_before (suc k.age) k l (rest k l t) (omega arith) in
    record { so_many = omega (arith, b.so_many); kept = b.kept }

pub history_fits : (b before : ℕ) (l : List Kept) → UpTo b (volumes l) → UpTo b (history before l)
unfolding history
history_fits b before [] h = tt
history_fits b before (k ∷ l) h =
    up_to_append b (replicate (before - k.age) k.volume) (history k.age l) (up_to_copies b k.volume (before - k.age) h.0) (history_fits b k.age l h.1)
