-- The basin file's words, the search among them and the load call, case by case. Assumes nothing.
use mathlib.Core.Path.{◌≡◌, refl, sym, ap, ◌∙◌}
use mathlib.Core.List.{List, ◌++◌}
use Prim.Native.Nat.{ℕ, zero, suc, ◌+◌, ◌*◌, ◌≤◌, ◌<◌}
use native.Mathlib.Numerals.{add-one}
use native.Mathlib.Omega.{arith}
use Rattle.std.proofs.Math.Nat.{mul-le-mul_left}
use borrow.Author.Tests.{lt-ltb, le-ltb, eq-eqb, ne_eqb}
use lib.ListN.{length, set, replicate, length-append}
use Rattle.std.proofs.Common.{Err}
use Rattle.common.specs.declared.refusal.Refusal.TheVariants.{Word as BadWord}
use Rattle.common.specs.declared.refusal.Refused.{Refused}
use Rattle.common.specs.Limits.{Word, first_out}
use Rattle.common.specs.Loops.{filled, table}
use Rattle.common.proofs.Limits.{within_in, within_not, first_skip, first_stop, InParts, parts_length, parts_le, Searching, search_begin, search_turn, search_found, search_none}
use Rattle.common.proofs.Loops.{Filling, fill_begin, fill_turn, fill_end}
use Rattle.subbasin.specs.declared.record.SubBasin.{SubBasin}
use Rattle.subbasin.specs.declared.record.Sender.TheVariants.{Author}
use Rattle.subbasin.specs.Record.{word_count, words, blank_sub}
use Rattle.basin.specs.declared.reach.Reach.{Reach}
use Rattle.basin.specs.Reach.{reach_word_count, reach_words, blank_reach}
use Rattle.basin.specs.State.{most_subs, most_reaches}
use Rattle.basin.specs.File.{file_n, file_m, file_sub, file_reach, file_basin, sub_words, reaches_words, all_words, file_words}
use Rattle.basin.specs.Workers.{sub_stored, reach_stored, parts}
use Rattle.basin.specs.File.{least_bytes, refused_load, as_loaded, accepted_load, load_words, load_length, load_counts, load_call}

-- ---- records that are read one after the other

pub in_parts : {size : ℕ} (part : ℕ → List Word) → ((i : ℕ) → length (part i) ≡ size) → InParts size part (parts part)
unfolding parts
in_parts part sized = record { none = λ i. refl; some = λ i left. refl; sized = sized }

-- record i as the code reads it: w is the count of its words, under the name that the code has for it
module _ {R : Type 0} (stored : List ℕ → ℕ → R) (f : List ℕ) (start i : ℕ) {w size : ℕ} (wide : w ≡ size) {r : R} (is : r ≡ stored f (start + w * i)) where
  pub record_read : r ≡ stored f (start + size * i)
  record_read = is ∙ rw wide

  pub part_read : (ranges : ℕ → ℕ → R → List Word) (m : ℕ) {k : ℕ} → k ≡ first_out (ranges m (i + 1) r) → k ≡ first_out (ranges m (suc i) (stored f (start + size * i)))
  part_read ranges m e = e ∙ rw (record_read, add-one i)

pub place_read : (start i k : ℕ) {w size out : ℕ} → w ≡ size → size * i + k ≡ out → start + w * i + k ≡ start + out
place_read start i k wide e = rw wide (omega arith)

-- i of n are in their places, and no word of theirs is outside its range
pub record Reading {R : Type 0} (size : ℕ) (x : ℕ → R) (part : ℕ → List Word) (n : ℕ) (before : List R) (i : ℕ) (now : List R) : Type 0 where
  pub filling : Filling x before n i now
  pub searching : Searching size (parts part) n i

module _ {R : Type 0} {size : ℕ} {x : ℕ → R} {part : ℕ → List Word} (sized : (i : ℕ) → length (part i) ≡ size) {n : ℕ} {before : List R} where
  pub reading_begin : Reading size x part n before 0 before
  reading_begin = record { filling = fill_begin; searching = search_begin (in_parts part sized) n }

  module _ {i : ℕ} {now : List R} (s : Reading size x part n before i now) where
    module _ (more : i < n) {k : ℕ} (is : k ≡ first_out (part i)) where
      pub reading_turn : {r : R} → r ≡ x i → k ≡ size → Reading size x part n before (i + 1) (set now i r)
      reading_turn e none =
          record { filling = fill_turn s.filling more e; searching = search_turn (in_parts part sized) s.searching more is none }

      pub reading_stop : k < size → size * i + k ≡ first_out (parts part 0 n)
      reading_stop l = search_found (in_parts part sized) s.searching more is (λ e. omega arith)

      pub reading_short : k < size → first_out (parts part 0 n) ≡ size * n → ⊥
      reading_short l e = let rest : size * (i + 1) ≤ size * n = mul-le-mul_left size (omega arith) in omega (arith, reading_stop l)

    pub reading_none : n ≤ i → first_out (parts part 0 n) ≡ size * n
    reading_none h = sym (search_none (in_parts part sized) s.searching h)

    pub reading_all : n ≤ i → now ≡ filled x n before
    reading_all h = fill_end s.filling h

-- ---- the words of sub-basin i and of reach j, counted from 0

abbrev pub sub_part : List ℕ → ℕ → ℕ → List Word
sub_part f m i = words m Author (file_sub f i)

abbrev pub reach_part : List ℕ → ℕ → ℕ → ℕ → List Word
reach_part f n m j = reach_words m (suc j) (file_reach f n j)

pub in_subs : (f : List ℕ) (m : ℕ) → InParts word_count (sub_part f m) (sub_words f m)
unfolding sub_words
in_subs f m = record { none = λ i. refl; some = λ i left. refl; sized = λ i. refl }

pub in_reaches : (f : List ℕ) (n m : ℕ) → InParts reach_word_count (reach_part f n m) (reaches_words f n m)
unfolding reaches_words
in_reaches f n m = record { none = λ j. refl; some = λ j left. refl; sized = λ j. refl }

-- as they are read
abbrev pub sub_read : List ℕ → ℕ → ℕ → List Word
sub_read f m i = words m Author (sub_stored f (2 + word_count * i))

abbrev pub reach_read : List ℕ → ℕ → ℕ → ℕ → List Word
reach_read f n m j = reach_words m (suc j) (reach_stored f (2 + word_count * n + reach_word_count * j))

subs_read : (f : List ℕ) (m i left : ℕ) → parts (sub_read f m) i left ≡ sub_words f m i left
unfolding parts sub_words file_sub
subs_read f m i zero = refl
subs_read f m i (suc left) = ap (λ (ws : List Word). sub_part f m i ++ ws) (subs_read f m (suc i) left)

reaches_read : (f : List ℕ) (n m j left : ℕ) → parts (reach_read f n m) j left ≡ reaches_words f n m j left
unfolding parts reaches_words file_reach
reaches_read f n m j zero = refl
reaches_read f n m j (suc left) = ap (λ (ws : List Word). reach_part f n m j ++ ws) (reaches_read f n m (suc j) left)

-- ---- all words

pub all_length : (f : List ℕ) (n m : ℕ) → length (all_words f n m) ≡ word_count * n + reach_word_count * m
all_length f n m =
    rw (length-append (sub_words f m 0 n) (reaches_words f n m 0 m), parts_length (in_subs f m) 0 n, parts_length (in_reaches f n m) 0 m)

-- one outside among the sub-basins' words, and none there but one among the reaches'
module _ (f : List ℕ) (n m : ℕ) where
  out_sub : (first_out (sub_words f m 0 n) ≡ word_count * n → ⊥) → first_out (sub_words f m 0 n) ≡ first_out (all_words f n m)
  out_sub h = sym (first_stop (sub_words f m 0 n) (reaches_words f n m 0 m) (λ g. h (g ∙ parts_length (in_subs f m) 0 n)))

  out_reach : first_out (sub_words f m 0 n) ≡ word_count * n → word_count * n + first_out (reaches_words f n m 0 m) ≡ first_out (all_words f n m)
  out_reach h =
      let all = parts_length (in_subs f m) 0 n in
      omega (arith, first_skip (sub_words f m 0 n) (reaches_words f n m 0 m) (h ∙ sym all), all)

-- ---- the load call

pub load_short : (f : List ℕ) → length f < least_bytes → refused_load 1 0 ≡ load_call f
unfolding load_call
load_short f h = rw (lt-ltb (length f) least_bytes h)

module _ (f : List ℕ) {n : ℕ} (long : least_bytes ≤ length f) (is-n : n ≡ file_n f) where
  pub load_n : (1 ≤ n → n ≤ most_subs → ⊥) → refused_load 2 0 ≡ load_call f
  unfolding load_call load_counts
  load_n h = rw (le-ltb (length f) least_bytes long, ← is-n, within_not 1 n most_subs h)

  module _ {m : ℕ} (n_least : 1 ≤ n) (n_most : n ≤ most_subs) (is_m : m ≡ file_m f) where
    pub load_m : most_reaches < m → refused_load 2 1 ≡ load_call f
    unfolding load_call load_counts
    load_m h = rw (le-ltb (length f) least_bytes long, ← is-n, within_in 1 n most_subs n_least n_most, ← is_m, within_not 0 m most_reaches (λ _ g. omega arith))

    module _ (m_most : m ≤ most_reaches) where
      counted : load_length f ≡ load_call f
      unfolding load_call load_counts
      counted = rw (le-ltb (length f) least_bytes long, ← is-n, within_in 1 n most_subs n_least n_most, ← is_m, within_in 0 m most_reaches (omega arith) m_most)

      pub load_size : (length f ≡ 4 * (2 + (word_count * n + reach_word_count * m)) → ⊥) → refused_load 3 0 ≡ load_call f
      unfolding load_length
      load_size h =
          rw (← counted, ne_eqb (length f) (4 * (2 + word_count * file_n f + reach_word_count * file_m f)) (λ e. h (omega (arith, e, is-n, is_m))))

      module _ (whole : length f ≡ 4 * (2 + (word_count * n + reach_word_count * m))) {out : ℕ} (is-out : out ≡ first_out (all_words f n m)) where
        sized : load_words f ≡ load_call f
        unfolding load_length
        sized = rw (← counted, eq-eqb (length f) (4 * (2 + word_count * file_n f + reach_word_count * file_m f)) (omega (arith, whole, is-n, is_m)))

        all : out ≡ first_out (file_words f)
        all = is-out ∙ rw (is-n, is_m)

        many : length (file_words f) ≡ word_count * n + reach_word_count * m
        many = omega (arith, all_length f (file_n f) (file_m f), is-n, is_m)

        load_word : (out ≡ word_count * n + reach_word_count * m → ⊥) → refused_load 4 (2 + out) ≡ load_call f
        unfolding load_words
        load_word h = rw (← sized, ← all, ne_eqb out (length (file_words f)) (λ e. h (e ∙ many)))

        accepted : out ≡ word_count * n + reach_word_count * m → accepted_load f ≡ load_call f
        unfolding load_words
        accepted e = rw (← sized, ← all, eq-eqb out (length (file_words f)) (e ∙ sym many))

      module _ (whole : length f ≡ 4 * (2 + word_count * n + reach_word_count * m)) where
        size_is : length f ≡ 4 * (2 + (word_count * n + reach_word_count * m))
        size_is = omega arith

        -- a word of a sub-basin is outside, or one of a reach, or none
        pub load_sub : (w : Refused)
            → (first_out (parts (sub_read f m) 0 n) ≡ word_count * n → ⊥) × (w ≡ record { why = BadWord; place = 2 + first_out (parts (sub_read f m) 0 n) })
            → as_loaded (Err w) ≡ load_call f
        load_sub w h =
            rw (h.1, subs_read f m 0 n)
            (load_word size_is (out_sub f n m (rw (subs_read f m 0 n) at h.0)) (λ e. h.0 (rw (subs_read f m 0 n) (omega (arith, parts_le (in_subs f m) n)))))

        module _ (subs_in : first_out (parts (sub_read f m) 0 n) ≡ word_count * n) where
          none : first_out (sub_words f m 0 n) ≡ word_count * n
          none = rw (subs_read f m 0 n) at subs_in

          pub load_reach : (w : Refused)
              → (first_out (parts (reach_read f n m) 0 m) ≡ reach_word_count * m → ⊥)
              × (w ≡ record { why = BadWord; place = 2 + word_count * n + first_out (parts (reach_read f n m) 0 m) })
              → as_loaded (Err w) ≡ load_call f
          load_reach w h =
              let out = first_out (reaches_words f n m 0 m) in
              let place : 2 + word_count * n + out ≡ 2 + (word_count * n + out) = omega arith in
              rw (h.1, reaches_read f n m 0 m, place)
              (load_word size_is (out_reach f n m none) (λ e. h.0 (rw (reaches_read f n m 0 m) (omega arith))))

          pub load_all : first_out (parts (reach_read f n m) 0 m) ≡ reach_word_count * m → {ss : List SubBasin} {rs : List Reach}
              → ss ≡ table (file_sub f) blank_sub n most_subs → rs ≡ table (file_reach f n) blank_reach m most_reaches
              → record { number = 0; place = 0; basin = record { n = n; m = m; subs = ss; reaches = rs } } ≡ load_call f
          unfolding file_basin
          load_all e es er =
              let all : word_count * n + first_out (reaches_words f n m 0 m) ≡ word_count * n + reach_word_count * m = omega (arith, rw (reaches_read f n m 0 m) at e) in
              rw (← (accepted size_is (out_reach f n m none) all), es, er, is-n, is_m)

-- ---- what is read stands in its place, the others are zero

pub subs_table : (f : List ℕ) (n : ℕ) {z : SubBasin} {ss : List SubBasin} → z ≡ blank_sub → ss ≡ filled (λ i. sub_stored f (2 + word_count * i)) n (replicate most_subs z)
    → ss ≡ table (file_sub f) blank_sub n most_subs
unfolding file_sub
subs_table f n e is = is ∙ rw e

pub reaches_table : (f : List ℕ) (n m : ℕ) (z : Reach) {rs : List Reach} → (z.c0 ≡ 0) × ((z.c1 ≡ 0) × ((z.next ≡ 0) × (z.content ≡ 0)))
    → rs ≡ filled (λ j. reach_stored f (2 + word_count * n + reach_word_count * j)) m (replicate most_reaches z) → rs ≡ table (file_reach f n) blank_reach m most_reaches
unfolding file_reach
reaches_table f n m z e is =
    let blank : ◌≡◌ {A = Reach} (record { c0 = z.c0; c1 = z.c1; next = z.next; content = z.content }) blank_reach = rw (e.0, e.1.0, e.1.1.0, e.1.1.1) in
    is ∙ ap (λ (r : Reach). filled (λ j. reach_stored f (2 + word_count * n + reach_word_count * j)) m (replicate most_reaches r)) blank
