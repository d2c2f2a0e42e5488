-- Document 01, "The basin file", and 1 to 4 of "Who sent it".
use Rattle.std.specs.Prelude.{◌≡◌, ℕ, zero, suc, ◌+◌, ◌*◌, ◌≤◌, ◌<◌, true, cond, List, [], ◌++◌, ltb, eqb, length, get_or, Result, Ok, Err}
use Rattle.common.specs.Limits.{within, Word, words_in, first_out}
use Rattle.common.specs.Loops.{table}
use Rattle.common.specs.Bytes.{word_at}
use Rattle.common.specs.declared.refusal.Refused.{Refused}
use Rattle.common.specs.Refusals.{number_of}
use Rattle.subbasin.specs.declared.record.SubBasin.{SubBasin}
use Rattle.subbasin.specs.declared.record.Sender.TheVariants.{Author}
use Rattle.subbasin.specs.Record.{word_count, words, of_words, words_of, blank_sub}
use Rattle.basin.specs.declared.reach.Reach.{Reach}
use Rattle.basin.specs.declared.state.Basin.{Basin}
use Rattle.basin.specs.Reach.{reach_word_count, reach_words, reach_words_of, blank_reach}
use Rattle.basin.specs.State.{most_subs, most_reaches, sub_at, reach_at, empty_basin}

-- "N, M, then 23 words a sub-basin", 26 with document 02, No. 8, "then 3 a reach"
abbrev pub file_n : List ℕ → ℕ
file_n f = word_at f 0

abbrev pub file_m : List ℕ → ℕ
file_m f = word_at f 1

abbrev pub sub_start : ℕ → ℕ
sub_start i = 2 + word_count * i

abbrev pub reach_start : ℕ → ℕ → ℕ
reach_start n j = 2 + word_count * n + reach_word_count * j

-- sub-basin i, counted from 0
unfoldable pub file_sub : List ℕ → ℕ → SubBasin
file_sub f i = of_words (table (λ k. word_at f (sub_start i + k)) 0 word_count word_count)

-- reach j, counted from 0, after n sub-basins: "reaches start empty"
unfoldable pub file_reach : List ℕ → ℕ → ℕ → Reach
file_reach f n j =
    record { c0 = word_at f (reach_start n j); c1 = word_at f (reach_start n j + 1); next = word_at f (reach_start n j + 2); content = 0 }

-- the basin of the file's words
unfoldable pub file_basin : List ℕ → Basin
file_basin f =
    record {
      n = file_n f;
      m = file_m f;
      subs = table (file_sub f) blank_sub (file_n f) most_subs;
      reaches = table (file_reach f (file_n f)) blank_reach (file_m f) most_reaches;
    }

-- the words of sub-basins i, i + 1, .. and of reaches j, j + 1, .., so many as are left, with their ranges
unfoldable pub sub_words : List ℕ → ℕ → ℕ → ℕ → List Word
sub_words f m i zero = []
sub_words f m i (suc left) = words m Author (file_sub f i) ++ sub_words f m (suc i) left

unfoldable pub reaches_words : List ℕ → ℕ → ℕ → ℕ → ℕ → List Word
reaches_words f n m j zero = []
reaches_words f n m j (suc left) = reach_words m (suc j) (file_reach f n j) ++ reaches_words f n m (suc j) left

-- all words after N and M, in order, of n sub-basins and m reaches
abbrev pub all_words : List ℕ → ℕ → ℕ → List Word
all_words f n m = sub_words f m 0 n ++ reaches_words f n m 0 m

abbrev pub file_words : List ℕ → List Word
file_words f = all_words f (file_n f) (file_m f)

-- what a load hands back: number and place are 0 where the file is accepted
pub record Loaded : Type 0 where
  pub number : ℕ
  pub place : ℕ
  pub basin : Basin

-- "a refused load hands back the empty basin"
abbrev pub refused_load : ℕ → ℕ → Loaded
refused_load number place = record { number = number; place = place; basin = empty_basin }

abbrev pub accepted_load : List ℕ → Loaded
accepted_load f = record { number = 0; place = 0; basin = file_basin f }

-- the number, place and basin that an answer stands for
abbrev pub as_loaded : Result Basin Refused → Loaded
as_loaded (Ok b) = record { number = 0; place = 0; basin = b }
as_loaded (Err r) = refused_load (number_of r.why) r.place

-- "4 the first word outside its range (place its word number)"
unfoldable pub load_words : List ℕ → Loaded
load_words f = cond (eqb (first_out (file_words f)) (length (file_words f))) (accepted_load f) (refused_load 4 (2 + first_out (file_words f)))

-- "3 length not 4 × (2 + 23N + 3M) (place 0)", where "the length rule counts 26 words"
unfoldable pub load_length : List ℕ → Loaded
load_length f = cond (eqb (length f) (4 * (2 + word_count * file_n f + reach_word_count * file_m f))) (load_words f) (refused_load 3 0)

-- "2 N or M outside its range (place 0 or 1, N first)"
unfoldable pub load_counts : List ℕ → Loaded
load_counts f = cond (within 1 (file_n f) most_subs) (cond (within 0 (file_m f) most_reaches) (load_length f) (refused_load 2 1)) (refused_load 2 0)

-- "1 under 8 bytes (place 0)"; "A load checks in this order"
abbrev pub least_bytes : ℕ
least_bytes = 8

unfoldable pub load_call : List ℕ → Loaded
load_call f = cond (ltb (length f) least_bytes) (refused_load 1 0) (load_counts f)

-- ---- what an accepted load says

-- a file inside all limits: the only one that is accepted
pub record FileIn (f : List ℕ) : Type 0 where
  pub n_least : 1 ≤ file_n f
  pub n_most : file_n f ≤ most_subs
  pub m_most : file_m f ≤ most_reaches
  pub bytes : length f ≡ 4 * (2 + word_count * file_n f + reach_word_count * file_m f)
  pub in_words : words_in (file_words f) ≡ true

-- "An accepted load holds exactly the file's words", word k of sub-basin i and of reach j
pub record Holds (f : List ℕ) (b : Basin) : Type 0 where
  pub n_held : b.n ≡ word_at f 0
  pub m_held : b.m ≡ word_at f 1
  pub sub_held : (i k : ℕ) → i < file_n f → k < word_count → get_or (words_of (sub_at b i)) k 0 ≡ word_at f (sub_start i + k)
  pub reach_held : (j k : ℕ) → j < file_m f → k < reach_word_count → get_or (reach_words_of (reach_at b j)) k 0 ≡ word_at f (reach_start (file_n f) j + k)
