-- One law for each kind of loop: how it begins, what a turn does, what it comes to. Assumes nothing.
use mathlib.Core.Path.{◌≡◌, refl, sym, ap, ◌∙◌}
use mathlib.Core.Bool.{Bool, true, false, cond, ◌&&◌, and-false}
use mathlib.Core.List.{List, [], ◌∷◌, ◌++◌, map}
use Prim.Native.Nat.{ℕ, zero, suc, ◌+◌, ◌-◌, ◌*◌, ◌≤◌, ◌<◌}
use native.Mathlib.Decide.{ℕ_discrete}
use native.Mathlib.Numerals.{add-one}
use native.Mathlib.Omega.{arith}
use lib.ListN.{length, get_or, take, drop, set, replicate, length-append, length-set, length-replicate}
use lib.Seq.{get_or-set_same, get_or-set_other}
use borrow.Author.Tests.{eq-eqb, ne_eqb}
use Rattle.std.specs.List.{filter}
use Rattle.std.proofs.lemmas.List.{append-nil, map-append, take_all, drop_all}
use Rattle.std.proofs.lemmas.List.Elements.{filter_more}
use Rattle.common.specs.Loops.{run, filled, table, sum_of, every, first_bad}
use Rattle.common.proofs.Limits.{both, parts}
use Rattle.common.proofs.amounts.AmountLaws.{get_or_repeat}

-- ---- carried state

-- two that turn alike
pub run_same : {S : Type 0} (f g : ℕ → S → S) (n : ℕ) (s : S) → ((k : ℕ) → k < n → (t : S) → f k t ≡ g k t) → run f n s ≡ run g n s
unfolding run
run_same f g zero s h = refl
run_same f g (suc n) s h = ap (f n) (run_same f g n s (λ k l. h k (omega arith))) ∙ h n (omega arith) (run g n s)

pub record Carrying {S : Type 0} (turn : ℕ → S → S) (s₀ : S) (n i : ℕ) (s : S) : Type 0 where
  pub place : i ≤ n
  pub so_far : s ≡ run turn i s₀

module _ {S : Type 0} {turn : ℕ → S → S} {s₀ : S} {n : ℕ} where
  pub carry_begin : Carrying turn s₀ n 0 s₀
  unfolding run
  carry_begin = record { place = omega arith; so_far = refl }

  module _ {i : ℕ} {s : S} (c : Carrying turn s₀ n i s) where
    pub carry_turn : {t : S} → i < n → t ≡ turn i s → Carrying turn s₀ n (i + 1) t
    unfolding run
    carry_turn h e = record { place = omega arith; so_far = rw (add-one i) (e ∙ ap (turn i) c.so_far) }

    pub carry_end : n ≤ i → s ≡ run turn n s₀
    carry_end h = let all : i ≡ n = omega (arith, c.place) in c.so_far ∙ ap (λ (k : ℕ). run turn k s₀) all

-- ---- fill

module _ {A : Type 0} (x : ℕ → A) where
  pub filled_length : (n : ℕ) (l : List A) → length (filled x n l) ≡ length l
  unfolding filled
  filled_length zero l = refl
  filled_length (suc n) l = length-set (filled x n l) n (x n) ∙ filled_length n l

  -- entry k is new below n, and as it was from there on
  pub filled_in : (n : ℕ) (l : List A) (d : A) (k : ℕ) → k < n → k < length l → get_or (filled x n l) k d ≡ x k
  unfolding filled
  filled_in zero l d k h b = absurd (omega arith)
  filled_in (suc n) l d k h b = go (ℕ_discrete k n) (filled_in n l d k)
    where
      go : Dec (k ≡ n) → (k < n → k < length l → get_or (filled x n l) k d ≡ x k) → get_or (set (filled x n l) n (x n)) k d ≡ x k
      go (yes e) f = rw e (get_or-set_same (filled x n l) n (x n) d (omega (arith, filled_length n l)))
      go (no ne) f = get_or-set_other (filled x n l) n k (x n) d ne ∙ f (omega arith) b

  pub filled_past : (n : ℕ) (l : List A) (d : A) (k : ℕ) → n ≤ k → get_or (filled x n l) k d ≡ get_or l k d
  unfolding filled
  filled_past zero l d k h = refl
  filled_past (suc n) l d k h = get_or-set_other (filled x n l) n k (x n) d (λ e. omega arith) ∙ filled_past n l d k (omega arith)

  module _ (z : A) (many n : ℕ) where
    pub table_length : length (table x z n many) ≡ many
    table_length = filled_length n (replicate many z) ∙ length-replicate many z

    pub table_in : (k : ℕ) → k < many → k < n → get_or (table x z n many) k z ≡ x k
    table_in k l h = filled_in n (replicate many z) z k h (omega (arith, length-replicate many z))

    pub table_past : (k : ℕ) → n ≤ k → get_or (table x z n many) k z ≡ z
    table_past k h = filled_past n (replicate many z) z k h ∙ get_or_repeat z many k

-- two that are filled alike
pub filled_same : {A : Type 0} (x y : ℕ → A) (n : ℕ) (l : List A) → ((k : ℕ) → k < n → x k ≡ y k) → filled x n l ≡ filled y n l
unfolding filled
filled_same x y zero l h = refl
filled_same x y (suc n) l h = rw (filled_same x y n l (λ k b. h k (omega arith)), h n (omega arith))

pub record Filling {A : Type 0} (x : ℕ → A) (l₀ : List A) (n i : ℕ) (l : List A) : Type 0 where
  pub place : i ≤ n
  pub so_far : l ≡ filled x i l₀

module _ {A : Type 0} {x : ℕ → A} {l₀ : List A} {n : ℕ} where
  pub fill_begin : Filling x l₀ n 0 l₀
  unfolding filled
  fill_begin = record { place = omega arith; so_far = refl }

  module _ {i : ℕ} {l : List A} (s : Filling x l₀ n i l) where
    pub fill_turn : {y : A} → i < n → y ≡ x i → Filling x l₀ n (i + 1) (set l i y)
    unfolding filled
    fill_turn h e = record { place = omega arith; so_far = rw (add-one i, s.so_far, e) }

    pub fill_end : n ≤ i → l ≡ filled x n l₀
    fill_end h = let all : i ≡ n = omega (arith, s.place) in s.so_far ∙ ap (λ (k : ℕ). filled x k l₀) all

    -- the entry that is next is as it was
    pub fill_here : (d : A) → get_or l i d ≡ get_or l₀ i d
    fill_here d = ap (λ (k : List A). get_or k i d) s.so_far ∙ filled_past x i l₀ d i (omega arith)

-- ---- judge: a test that goes over a list, place by place

pub record Judging {A : Type 0} (t : List A → Bool) (l : List A) (i : ℕ) : Type 0 where
  pub so_far : t l ≡ t (drop i l)

module _ {A : Type 0} {t : List A → Bool} {l : List A} where
  pub judge_begin : Judging t l 0
  judge_begin = record { so_far = refl }

  module _ {i : ℕ} (s : Judging t l i) where
    module _ {r : Bool} (e : t (drop i l) ≡ r && t (drop (i + 1) l)) where
      pub judge_turn : r ≡ true → Judging t l (i + 1)
      judge_turn good = record { so_far = s.so_far ∙ e ∙ rw good }

      pub judge_stop : r ≡ false → t l ≡ false
      judge_stop bad = s.so_far ∙ e ∙ rw bad

    pub judge_end : length l ≤ i → t [] ≡ true → t l ≡ true
    judge_end h none = s.so_far ∙ ap t (drop_all i l h) ∙ none

-- ---- gather: the entries of a list that pass a test, each changed, in their order

pub record Gathering {A B : Type 0} (p : A → Bool) (f : A → B) (l : List A) (i : ℕ) (g : List B) : Type 0 where
  pub place : i ≤ length l
  pub few : length g ≤ i
  pub so_far : g ≡ map f (filter p (take i l))

module _ {A B : Type 0} {p : A → Bool} {f : A → B} {l : List A} where
  pub gather_begin : Gathering p f l 0 []
  gather_begin = record { place = omega arith; few = omega arith; so_far = refl }

  module _ {i : ℕ} {g : List B} (s : Gathering p f l i g) where
    module _ {x : A} (h : i < length l) (e : x ≡ get_or l i x) where
      more : filter p (take (i + 1) l) ≡ filter p (take i l) ++ cond (p x) (x ∷ []) []
      more = filter_more p l i x h ∙ ap (λ (y : A). filter p (take i l) ++ cond (p y) (y ∷ []) []) (sym e)

      pub gather_take : p x ≡ true → Gathering p f l (i + 1) (g ++ f x ∷ [])
      gather_take t =
          let taken : filter p (take (i + 1) l) ≡ filter p (take i l) ++ x ∷ [] = rw t at more in
          record {
            place = omega arith;
            few = omega (arith, length-append g (f x ∷ []), s.few);
            so_far = ap (λ (k : List B). k ++ f x ∷ []) s.so_far ∙ sym (map-append f (filter p (take i l)) (x ∷ [])) ∙ ap (map f) (sym taken);
          }

      pub gather_leave : p x ≡ false → Gathering p f l (i + 1) g
      gather_leave t =
          let left : filter p (take (i + 1) l) ≡ filter p (take i l) ++ [] = rw t at more in
          record { place = omega arith; few = omega (arith, s.few); so_far = s.so_far ∙ ap (map f) (sym (left ∙ append-nil (filter p (take i l)))) }

    pub gather_end : length l ≤ i → g ≡ map f (filter p l)
    gather_end h = s.so_far ∙ ap (λ (k : List A). map f (filter p k)) (take_all i l h)

-- ---- sum

pub sum_same : (f g : ℕ → ℕ) (n : ℕ) → ((k : ℕ) → k < n → f k ≡ g k) → sum_of f n ≡ sum_of g n
unfolding sum_of
sum_same f g zero h = refl
sum_same f g (suc n) h = omega (arith, sum_same f g n (λ k b. h k (omega arith)), h n (omega arith))

pub sum_bound : (f : ℕ → ℕ) (b n : ℕ) → ((k : ℕ) → k < n → f k ≤ b) → sum_of f n ≤ n * b
unfolding sum_of
sum_bound f b zero h = omega arith
sum_bound f b (suc n) h = omega (arith, sum_bound f b n (λ k l. h k (omega arith)), h n (omega arith))

pub record Adding (f : ℕ → ℕ) (n i all : ℕ) : Type 0 where
  pub place : i ≤ n
  pub so_far : all ≡ sum_of f i

module _ {f : ℕ → ℕ} {n : ℕ} where
  pub add_begin : Adding f n 0 0
  unfolding sum_of
  add_begin = record { place = omega arith; so_far = refl }

  module _ {i all : ℕ} (s : Adding f n i all) where
    pub add_turn : {y : ℕ} → i < n → y ≡ f i → Adding f n (i + 1) (all + y)
    unfolding sum_of
    add_turn h e = record { place = omega arith; so_far = rw (add-one i) (omega (arith, s.so_far)) }

    pub add_end : n ≤ i → all ≡ sum_of f n
    add_end h = let end : i ≡ n = omega (arith, s.place) in s.so_far ∙ ap (sum_of f) end

-- ---- all

pub every_in : (p : ℕ → Bool) (n : ℕ) → ((k : ℕ) → k < n → p k ≡ true) → every p n ≡ true
unfolding every
every_in p zero h = refl
every_in p (suc n) h = both (every_in p n (λ k l. h k (omega arith))) (h n (omega arith))

pub every_at : (p : ℕ → Bool) (n : ℕ) → every p n ≡ true → (k : ℕ) → k < n → p k ≡ true
unfolding every
every_at p zero h k l = absurd (omega arith)
every_at p (suc n) h k l = go (ℕ_discrete k n) (every_at p n (parts (every p n) (p n) h).0 k)
  where
    go : Dec (k ≡ n) → (k < n → p k ≡ true) → p k ≡ true
    go (yes e) f = rw e (parts (every p n) (p n) h).1
    go (no ne) f = f (omega arith)

pub every_fails : (p : ℕ → Bool) (n k : ℕ) → k < n → p k ≡ false → every p n ≡ false
unfolding every
every_fails p zero k l h = absurd (omega arith)
every_fails p (suc n) k l h = go (ℕ_discrete k n) (λ b. every_fails p n k b h)
  where
    go : Dec (k ≡ n) → (k < n → every p n ≡ false) → every p n && p n ≡ false
    go (yes e) f = rw (← e, h, and-false)
    go (no ne) f = rw (f (omega arith))

pub record Trying (p : ℕ → Bool) (n i : ℕ) : Type 0 where
  pub place : i ≤ n
  pub so_far : every p i ≡ true

module _ {p : ℕ → Bool} {n : ℕ} where
  pub try_begin : Trying p n 0
  unfolding every
  try_begin = record { place = omega arith; so_far = refl }

  module _ {i : ℕ} (s : Trying p n i) where
    pub try_turn : i < n → p i ≡ true → Trying p n (i + 1)
    unfolding every
    try_turn h e = record { place = omega arith; so_far = rw (add-one i) (both s.so_far e) }

    pub try_stop : i < n → p i ≡ false → false ≡ every p n
    try_stop h e = sym (every_fails p n i h e)

    pub try_end : n ≤ i → true ≡ every p n
    try_end h = let end : i ≡ n = omega (arith, s.place) in sym (ap (every p) (sym end) ∙ s.so_far)

-- ---- first that fails

pub first_bad_same : (f g : ℕ → ℕ) (n : ℕ) → ((k : ℕ) → k < n → f k ≡ g k) → first_bad f n ≡ first_bad g n
unfolding first_bad
first_bad_same f g zero h = refl
first_bad_same f g (suc n) h = rw (first_bad_same f g n (λ k b. h k (omega arith)), h n (omega arith))

-- what the first one's number and place say
pub record Found (f : ℕ → ℕ) (n number place : ℕ) : Type 0 where
  pub place_least : 1 ≤ place
  pub place_most : place ≤ n
  pub number_is : number ≡ f (place - 1)
  pub before : (k : ℕ) → k + 1 < place → f k ≡ 0

module _ (f : ℕ → ℕ) where
  none_bad : (n : ℕ) → (first_bad f n).0 ≡ 0 → (k : ℕ) → k < n → f k ≡ 0
  unfolding first_bad
  none_bad zero h k l = absurd (omega arith)
  none_bad (suc n) h k l = go (ℕ_discrete (first_bad f n).0 0) (ℕ_discrete (f n) 0) (none_bad n)
    where
      go : Dec ((first_bad f n).0 ≡ 0) → Dec (f n ≡ 0) → ((first_bad f n).0 ≡ 0 → (k : ℕ) → k < n → f k ≡ 0) → f k ≡ 0
      go (yes e) (yes z) r = at (ℕ_discrete k n)
        where
          at : Dec (k ≡ n) → f k ≡ 0
          at (yes same) = ap f same ∙ z
          at (no other) = r e k (omega arith)
      go (yes e) (no z) r = absurd (z (rw (eq-eqb _ 0 e, ne_eqb (f n) 0 z) at h))
      go (no e) d r = absurd (e (rw (ne_eqb _ 0 e) at h))

  pub first_bad_found : (n : ℕ) → ((first_bad f n).0 ≡ 0 → ⊥) → Found f n (first_bad f n).0 (first_bad f n).1
  unfolding first_bad
  first_bad_found zero h = absurd (h refl)
  first_bad_found (suc n) h = go (ℕ_discrete (first_bad f n).0 0) (ℕ_discrete (f n) 0) (first_bad_found n)
    where
      go : Dec ((first_bad f n).0 ≡ 0) → Dec (f n ≡ 0) → (((first_bad f n).0 ≡ 0 → ⊥) → Found f n (first_bad f n).0 (first_bad f n).1)
          → Found f (suc n) (first_bad f (suc n)).0 (first_bad f (suc n)).1
      go (yes e) (yes z) r = absurd (h (rw (eq-eqb _ 0 e, eq-eqb _ 0 z)))
      go (yes e) (no z) r =
          let last : n ≡ suc n - 1 = omega arith in
          rw (eq-eqb _ 0 e, ne_eqb (f n) 0 z)
          (record { place_least = omega arith; place_most = omega arith; number_is = ap f last; before = λ k l. none_bad n e k (omega arith) })
      go (no e) d r =
          let b = r e in
          rw (ne_eqb _ 0 e)
          (record { place_least = b.place_least; place_most = omega arith; number_is = b.number_is; before = b.before })

-- none has failed
pub record Seeking (f : ℕ → ℕ) (n i : ℕ) : Type 0 where
  pub place : i ≤ n
  pub so_far : first_bad f i ≡ (0, 0)

module _ {f : ℕ → ℕ} {n : ℕ} where
  pub seek_begin : Seeking f n 0
  unfolding first_bad
  seek_begin = record { place = omega arith; so_far = refl }

  module _ {i : ℕ} (s : Seeking f n i) where
    pub seek_turn : i < n → f i ≡ 0 → Seeking f n (i + 1)
    unfolding first_bad
    seek_turn h e = record { place = omega arith; so_far = rw (add-one i, s.so_far, e) }

    pub seek_found : i < n → (f i ≡ 0 → ⊥) → first_bad f n ≡ (f i, suc i)
    unfolding first_bad
    seek_found h ne = stays n h
      where
        stays : (n : ℕ) → i < n → first_bad f n ≡ (f i, suc i)
        stays zero l = absurd (omega arith)
        stays (suc n) l = go (ℕ_discrete i n) (stays n)
          where
            go : Dec (i ≡ n) → (i < n → first_bad f n ≡ (f i, suc i)) → first_bad f (suc n) ≡ (f i, suc i)
            go (yes e) g = rw (← e, s.so_far, ne_eqb (f i) 0 ne)
            go (no d) g = rw (g (omega arith), ne_eqb (f i) 0 ne)

    pub seek_end : n ≤ i → first_bad f n ≡ (0, 0)
    seek_end h = let end : i ≡ n = omega (arith, s.place) in ap (first_bad f) (sym end) ∙ s.so_far
