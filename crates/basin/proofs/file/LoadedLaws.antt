-- What an accepted load says of the file, and that its basin holds the file's words. Assumes nothing.
use mathlib.Core.Path.{◌≡◌, refl, sym, ap, ◌∙◌}
use mathlib.Core.Bool.{Bool, true, false, cond}
use mathlib.Core.List.{List}
use mathlib.Core.Logic.{◌↔◌}
use Prim.Native.Nat.{ℕ, suc, ◌+◌, ◌*◌, ◌≤◌, ◌<◌}
use native.Mathlib.Nat.{add-zero}
use native.Mathlib.Decide.{dec_le}
use native.Mathlib.Omega.{arith}
use lib.Dec.{ltb, eqb}
use lib.ListN.{length, get_or, take, replicate}
use lib.Seq.{get_or-take, take_all, length-take-le}
use borrow.Author.Tests.{le-ltb, eq-eqb, ne_eqb, eqb-true}
use Rattle.std.proofs.Common.{Result, Ok, Err, IsOk, IfOk}
use Rattle.common.specs.declared.refusal.Refused.{Refused}
use Rattle.common.proofs.Refusals.{number_some}
use Rattle.common.specs.Limits.{within, first_out}
use Rattle.common.specs.Loops.{filled, table}
use Rattle.common.specs.Bytes.{word_at}
use Rattle.common.proofs.Limits.{within_in, within_limits, Within, words_limits, words_in_lem, within_append, first_all, first_none, parts_in}
use Rattle.common.proofs.Loops.{table_length, table_in, table_past}
use Rattle.subbasin.specs.declared.record.Sender.TheVariants.{Author}
use Rattle.subbasin.specs.Record.{word_count, words, words_of, blank_sub}
use Rattle.subbasin.proofs.record.RecordLaws.{words_read_back}
use Rattle.basin.specs.declared.state.Basin.{Basin}
use Rattle.basin.specs.Reach.{reach_word_count, reach_words_of, blank_reach}
use Rattle.basin.specs.State.{most_subs, most_reaches, sub_at, reach_at}
use Rattle.basin.specs.File.{Loaded, file_n, file_m, sub_start, reach_start, file_sub, file_reach, file_basin, sub_words, reaches_words, file_words}
use Rattle.basin.specs.File.{least_bytes, refused_load, accepted_load, as_loaded, load_words, load_length, load_counts, load_call, FileIn, Holds}
use Rattle.basin.proofs.reach.ReachLaws.{ReachWords, reach_words_lem}
use Rattle.basin.proofs.file.FileLaws.{in_subs, in_reaches}

-- ---- the limits 1 to 4

-- the one of two answers that is accepted
passed_test : (b : Bool) (x y : Loaded) → (y.number ≡ 0 → ⊥) → (cond b x y).number ≡ 0 → (b ≡ true) × (x.number ≡ 0)
passed_test true x y n e = (refl, e)
passed_test false x y n e = absurd (n e)

module _ (f : List ℕ) where
  words_passed : (load_words f).number ≡ 0 → Within (file_words f)
  unfolding load_words
  words_passed e =
      let out = first_out (file_words f) in
      let t = passed_test (eqb out (length (file_words f))) (accepted_load f) (refused_load 4 (2 + out)) (λ z. omega arith) e in
      first_none (file_words f) (eqb-true out (length (file_words f)) t.0)

  length_passed : (load_length f).number ≡ 0 → (length f ≡ 4 * (2 + word_count * file_n f + reach_word_count * file_m f)) × Within (file_words f)
  unfolding load_length
  length_passed e =
      let size = 4 * (2 + word_count * file_n f + reach_word_count * file_m f) in
      let t = passed_test (eqb (length f) size) (load_words f) (refused_load 3 0) (λ z. omega arith) e in
      (eqb-true (length f) size t.0, words_passed t.1)

  counts_passed : (load_counts f).number ≡ 0 → FileIn f
  unfolding load_counts
  counts_passed e =
      let m-in = within 0 (file_m f) most_reaches in
      let t = passed_test (within 1 (file_n f) most_subs) (cond m-in (load_length f) (refused_load 2 1)) (refused_load 2 0) (λ z. omega arith) e in
      let u = passed_test m-in (load_length f) (refused_load 2 1) (λ z. omega arith) t.1 in
      let n-in = within_limits 1 (file_n f) most_subs t.0 in
      let r = length_passed u.1 in
      record { n_least = n-in.0; n_most = n-in.1; m_most = (within_limits 0 (file_m f) most_reaches u.0).1; bytes = r.0; in_words = words_in_lem (file_words f) r.1 }

  -- accepted exactly inside the limits
  pub load_limits : (load_call f).number ≡ 0 → FileIn f
  unfolding load_call
  load_limits e = go (ltb (length f) least_bytes) e
    where
      go : (b : Bool) → (cond b (refused_load 1 0) (load_counts f)).number ≡ 0 → FileIn f
      go true e = absurd (omega arith)
      go false e = counts_passed e

  pub load_accepts : FileIn f → load_call f ≡ accepted_load f
  unfolding load_call load_counts load_length load_words
  load_accepts h =
      rw (
        le-ltb (length f) least_bytes (omega arith),
        within_in 1 (file_n f) most_subs h.n_least h.n_most,
        within_in 0 (file_m f) most_reaches (omega arith) h.m_most,
        eq-eqb (length f) (4 * (2 + word_count * file_n f + reach_word_count * file_m f)) h.bytes,
        eq-eqb (first_out (file_words f)) (length (file_words f)) (first_all (file_words f) (words_limits (file_words f) h.in_words)),
      )

  pub load_holds_file : (load_call f).number ≡ 0 → (load_call f).basin ≡ file_basin f
  load_holds_file e = ap (λ l. l.basin) (load_accepts (load_limits e))

  -- each record's words inside their ranges
  module _ (h : FileIn f) where
    split_words : Within (sub_words f (file_m f) 0 (file_n f)) × Within (reaches_words f (file_n f) (file_m f) 0 (file_m f))
    split_words =
        within_append (sub_words f (file_m f) 0 (file_n f)) (reaches_words f (file_n f) (file_m f) 0 (file_m f)) (words_limits (file_words f) h.in_words)

    pub file_sub_words : (i : ℕ) → i < file_n f → Within (words (file_m f) Author (file_sub f i))
    file_sub_words i l = parts_in (in_subs f (file_m f)) 0 (file_n f) split_words.0 i i (omega arith) l

    pub file_reach_words : (j : ℕ) → j < file_m f → ReachWords (file_m f) (suc j) (file_reach f (file_n f) j)
    file_reach_words j l =
        reach_words_lem (file_m f) (suc j) (file_reach f (file_n f) j)
        (parts_in (in_reaches f (file_n f) (file_m f)) 0 (file_m f) split_words.1 j j (omega arith) l)

-- ---- the basin of the file's words

module _ (f : List ℕ) where
  pub file_subs_length : length (file_basin f).subs ≡ most_subs
  unfolding file_basin
  file_subs_length = table_length (file_sub f) blank_sub most_subs (file_n f)

  pub file_reaches_length : length (file_basin f).reaches ≡ most_reaches
  unfolding file_basin
  file_reaches_length = table_length (file_reach f (file_n f)) blank_reach most_reaches (file_m f)

  pub file_sub_lem : (i : ℕ) → i < file_n f → file_n f ≤ most_subs → sub_at (file_basin f) i ≡ file_sub f i
  unfolding file_basin
  file_sub_lem i l h = table_in (file_sub f) blank_sub most_subs (file_n f) i (omega arith) l

  pub file_sub_past : (i : ℕ) → file_n f ≤ i → sub_at (file_basin f) i ≡ blank_sub
  unfolding file_basin
  file_sub_past i l = table_past (file_sub f) blank_sub most_subs (file_n f) i l

  pub file_reach_lem : (j : ℕ) → j < file_m f → file_m f ≤ most_reaches → reach_at (file_basin f) j ≡ file_reach f (file_n f) j
  unfolding file_basin
  file_reach_lem j l h = table_in (file_reach f (file_n f)) blank_reach most_reaches (file_m f) j (omega arith) l

  pub file_reach_past : (j : ℕ) → file_m f ≤ j → reach_at (file_basin f) j ≡ blank_reach
  unfolding file_basin
  file_reach_past j l = table_past (file_reach f (file_n f)) blank_reach most_reaches (file_m f) j l

  -- "Lag lines, CS stores and reaches start empty"
  pub file_sub_empty : (i : ℕ) → ((file_sub f i).line.waiting ≡ replicate 15 0) × ((file_sub f i).channel ≡ 0)
  unfolding file_sub
  file_sub_empty i = (refl, refl)

  pub file_reach_empty : (n j : ℕ) → (file_reach f n j).content ≡ 0
  unfolding file_reach
  file_reach_empty n j = refl

  -- the words of each record, in the file's order
  abbrev pub sub_values : ℕ → List ℕ
  sub_values i = table (λ k. word_at f (sub_start i + k)) 0 word_count word_count

  abbrev pub reach_values : ℕ → List ℕ
  reach_values j = table (λ k. word_at f (reach_start (file_n f) j + k)) 0 reach_word_count reach_word_count

  pub words_held : (i : ℕ) → i < file_n f → file_n f ≤ most_subs → words_of (sub_at (file_basin f) i) ≡ sub_values i
  unfolding file_sub
  words_held i l h = rw (file_sub_lem i l h) (words_read_back (sub_values i) (table_length (λ k. word_at f (sub_start i + k)) 0 word_count word_count))

  pub reach_words_held : (j : ℕ) → j < file_m f → file_m f ≤ most_reaches → reach_words_of (reach_at (file_basin f) j) ≡ reach_values j
  unfolding file_reach filled
  reach_words_held j l h = rw (file_reach_lem j l h, add-zero (reach_start (file_n f) j))

-- ---- the contract of a load, from its equation

module _ (f : List ℕ) {loaded : Loaded} (e : loaded ≡ load_call f) where
  accepted : loaded.number ≡ 0 → (load_call f).number ≡ 0
  accepted z = sym (ap (λ (l : Loaded). l.number) e) ∙ z

  pub accepted_within : (loaded.number ≡ 0) ↔ FileIn f
  accepted_within = (λ z. load_limits f (accepted z), λ h. ap (λ (l : Loaded). l.number) (e ∙ load_accepts f h))

  module _ (z : loaded.number ≡ 0) where
    basin_is : loaded.basin ≡ file_basin f
    basin_is = ap (λ (l : Loaded). l.basin) e ∙ load_holds_file f (accepted z)

    -- "An accepted load holds exactly the file's words"
    pub words_loaded : Holds f loaded.basin
    unfolding file_basin
    words_loaded =
        record {
          n_held = ap (λ (b : Basin). b.n) basin_is;
          m_held = ap (λ (b : Basin). b.m) basin_is;
          sub_held =
              λ i k l b.
              ap (λ (c : Basin). get_or (words_of (sub_at c i)) k 0) basin_is
              ∙ ap (λ (v : List ℕ). get_or v k 0) (words_held f i l (load_limits f (accepted z)).n_most)
              ∙ table_in (λ k. word_at f (sub_start i + k)) 0 word_count word_count k b b;
          reach_held =
              λ j k l b.
              ap (λ (c : Basin). get_or (reach_words_of (reach_at c j)) k 0) basin_is
              ∙ ap (λ (v : List ℕ). get_or v k 0) (reach_words_held f j l (load_limits f (accepted z)).m_most)
              ∙ table_in (λ k. word_at f (reach_start (file_n f) j + k)) 0 reach_word_count reach_word_count k b b;
        }

-- ---- the code's answer, by its equation

module _ (f : List ℕ) where
  pub accepts : (r : Result Basin Refused) → as_loaded r ≡ load_call f → IsOk r ↔ FileIn f
  accepts (Ok b) e = (λ _. (accepted_within f e).0 refl, λ _. refl)
  accepts (Err w) e = (λ n. cc, λ i. absurd (omega (arith, (accepted_within f e).1 i, number_some w.why)))

  pub holds : (r : Result Basin Refused) → as_loaded r ≡ load_call f → IfOk r (Holds f)
  holds (Ok b) e = words_loaded f e refl
  holds (Err w) e = tt

-- of the basin of an accepted load: "N 1..32"
pub loaded_n : {f : List ℕ} {b : Basin} → FileIn f → Holds f b → (1 ≤ b.n) × (b.n ≤ most_subs)
loaded_n limits held = rw held.n_held (limits.n_least, limits.n_most)

-- ---- a file that is longer than any legal one is refused as its start is

word_start : (k : ℕ) (f : List ℕ) (i : ℕ) → 4 * i + 3 < k → word_at (take k f) i ≡ word_at f i
unfolding word_at
word_start k f i h =
    rw (
      get_or-take k f (4 * i) 0 (omega arith),
      get_or-take k f (4 * i + 1) 0 (omega arith),
      get_or-take k f (4 * i + 2) 0 (omega arith),
      get_or-take k f (4 * i + 3) 0 (omega arith),
    )

-- by N and M alone
abbrev too_long : ℕ → ℕ → Loaded
too_long n m = cond (within 1 n most_subs) (cond (within 0 m most_reaches) (refused_load 3 0) (refused_load 2 1)) (refused_load 2 0)

abbrev pub most_bytes : ℕ
most_bytes = 4 * (2 + word_count * most_subs + reach_word_count * most_reaches)

long_is : (f : List ℕ) → most_bytes < length f → load_call f ≡ too_long (file_n f) (file_m f)
unfolding load_call load_counts load_length
long_is f h = rw (le-ltb (length f) least_bytes (omega arith)) (go (within 1 (file_n f) most_subs) (within 0 (file_m f) most_reaches) refl refl)
  where
    go : (t u : Bool) → within 1 (file_n f) most_subs ≡ t → within 0 (file_m f) most_reaches ≡ u
        → cond t (cond u (load_length f) (refused_load 2 1)) (refused_load 2 0) ≡ cond t (cond u (refused_load 3 0) (refused_load 2 1)) (refused_load 2 0)
    go false u e d = refl
    go true false e d = refl
    go true true e d =
        let n = within_limits 1 (file_n f) most_subs e in
        let m = within_limits 0 (file_m f) most_reaches d in
        rw (ne_eqb (length f) (4 * (2 + word_count * file_n f + reach_word_count * file_m f)) (λ s. omega (arith, n, m, s)))

pub start_loads : (k : ℕ) → most_bytes < k → (f : List ℕ) → load_call (take k f) ≡ load_call f
start_loads k h f = go (dec_le (length f) k)
  where
    go : Dec (length f ≤ k) → load_call (take k f) ≡ load_call f
    go (yes l) = ap load_call (take_all k f l)
    go (no l) =
        long_is (take k f) (omega (arith, length-take-le k f (omega arith)))
        ∙ rw (word_start k f 0 (omega arith), word_start k f 1 (omega arith)) (sym (long_is f (omega arith)))
