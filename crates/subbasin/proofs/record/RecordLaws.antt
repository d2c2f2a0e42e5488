-- What the limits of a record say, both ways. Assumes nothing.
use mathlib.Core.Path.{◌≡◌, refl, sym, ap, ap₂, ◌∙◌}
use mathlib.Core.Bool.{Bool, true, false, cond, not, ◌&&◌, ◌||◌, and-true, and-false, true≢false}
use mathlib.Core.List.{List, [], ◌∷◌}
use Rattle.std.specs.Prelude.{Option, Some, None, IfSome, unwrap_or}
use Rattle.std.specs.Array.{AllOfLen}
use Rattle.std.specs.Cmp.{both_ways}
use Rattle.std.specs.List.{position, position_or_len}
use Rattle.std.specs.Option.{is_some}
use Prim.Native.Nat.{ℕ, suc, ◌≤◌, ◌<◌}
use native.Mathlib.Decide.{dec_le}
use native.Mathlib.Omega.{arith}
use lib.Dec.{eqb, leb, ltb}
use lib.Pointwise.{pointwise, bytes_decides}
use lib.ListN.{length, get_or, drop, replicate}
use lib.Seq.{take_all}
use borrow.Author.Tests.{eqb-true, le-leb, lt-leb, leb-true, le-ltb, lt-ltb, ltb-false}
use Rattle.common.specs.Limits.{within, Word, words_in, first_out}
use Rattle.common.specs.Amounts.{all_up_to}
use Rattle.common.proofs.Limits.{both, parts, refuted, Within, words_limits, words_in_lem, within_join, first_none, first_all, first_le}
use Rattle.common.proofs.amounts.AmountLaws.{UpTo, all_limits, all_in, listed_take, up_to_zeros}
use Rattle.subbasin.specs.declared.record.Parameters.{Parameters}
use Rattle.subbasin.specs.declared.record.Contents.{Contents}
use Rattle.subbasin.specs.declared.record.SubBasin.{SubBasin}
use Rattle.subbasin.specs.declared.record.Sender.{Sender}
use Rattle.subbasin.specs.declared.record.Sender.TheVariants.{Host}
use Rattle.subbasin.specs.Lag.{in_use, most_waiting, line_in}
use Rattle.subbasin.specs.Record.{words, first_outside, words_of, of_words, word_count, most_slow, most_snow, most_stored, record_in, is_blank, blank_sub}

-- ---- the first word outside, as it is looked for: a place among triples of least, value and most

abbrev pub triples : List Word → List (ℕ × ℕ × ℕ)
triples [] = []
triples (w ∷ ws) = (w.lo, w.value, w.hi) ∷ triples ws

abbrev pub out_of_range : ℕ × ℕ × ℕ → Bool
out_of_range t = ltb t.1 t.0 || ltb t.2 t.1

in_range : (lo x hi : ℕ) → not (ltb x lo || ltb hi x) ≡ within lo x hi
in_range lo x hi = go (dec_le lo x) (dec_le x hi)
  where
    go : Dec (lo ≤ x) → Dec (x ≤ hi) → not (ltb x lo || ltb hi x) ≡ within lo x hi
    go (yes l) (yes h) = rw (le-ltb x lo l, le-ltb hi x h, le-leb lo x l, le-leb x hi h)
    go (yes l) (no h) = rw (le-ltb x lo l, lt-ltb hi x (omega arith), le-leb lo x l, lt-leb x hi (omega arith))
    go (no l) _ = rw (lt-ltb x lo (omega arith), lt-leb lo x (omega arith))

first_place : (ws : List Word) → position_or_len out_of_range (triples ws) ≡ first_out ws
unfolding first_out
first_place [] = refl
first_place (w ∷ ws) = rw (in_range w.lo w.value w.hi, first_place ws) (ap (λ (k : ℕ). cond (within w.lo w.value w.hi) k 0) (omega arith))

-- and as its answer: a number, or none where none is outside
module _ (m : ℕ) (v : Sender) (s : SubBasin) where
  first_most : first_outside m v s ≤ word_count
  unfolding first_outside
  first_most = first_le (words m v s)

  numbered_by : (n : ℕ) → n ≡ first_outside m v s → unwrap_or (cond (ltb n word_count) (Some n) None) word_count ≡ first_outside m v s
  numbered_by n e = go (ltb n word_count) refl
    where
      go : (b : Bool) → ltb n word_count ≡ b → unwrap_or (cond b (Some n) None) word_count ≡ first_outside m v s
      go true t = e
      go false t = omega (arith, e, first_most, ltb-false n word_count t)

  pub numbered : {r : Option ℕ} → r ≡ position out_of_range (triples (words m v s)) → unwrap_or r word_count ≡ first_outside m v s
  unfolding first_outside
  numbered h = rw h (numbered_by _ (first_place (words m v s)))

pub some_number : (r : Option ℕ) → IfSome r (λ k. k < word_count) → true ≡ is_some r → unwrap_or r word_count ≡ word_count → ⊥
some_number (Some k) h t e = omega (arith, h)
some_number None h t e = true≢false t

pub none_number : (r : Option ℕ) → false ≡ is_some r → unwrap_or r word_count ≡ word_count
none_number (Some k) t = absurd (true≢false (sym t))
none_number None t = refl

-- ---- what 9 allows

-- a record that 9 allows, with REACH up to m
pub record RecordIn (m : ℕ) (s : SubBasin) : Type 0 where
  pub in_words : Within (words m Host s)
  pub in_line : UpTo most_waiting s.line.waiting
  pub unused : UpTo 0 (drop (in_use s.line) s.line.waiting)
  pub in_channel : s.channel ≤ most_stored

module _ (m : ℕ) (s : SubBasin) where
  pub record_limits : record_in m s ≡ true → RecordIn m s
  unfolding record_in line_in
  record_limits t =
      let us = all_up_to most_waiting s.line.waiting in
      let zs = all_up_to 0 (drop (in_use s.line) s.line.waiting) in
      let a = parts (words_in (words m Host s) && (us && zs)) (leb s.channel most_stored) t in
      let b = parts (words_in (words m Host s)) (us && zs) a.0 in
      let l = parts us zs b.1 in
      record {
        in_words = words_limits (words m Host s) b.0;
        in_line = all_limits most_waiting s.line.waiting l.0;
        unused = all_limits 0 (drop (in_use s.line) s.line.waiting) l.1;
        in_channel = leb-true s.channel most_stored a.1;
      }

  pub record_in_lem : RecordIn m s → record_in m s ≡ true
  unfolding record_in line_in
  record_in_lem h =
      both
      (both
      (words_in_lem (words m Host s) h.in_words)
      (both (all_in most_waiting s.line.waiting h.in_line) (all_in 0 (drop (in_use s.line) s.line.waiting) h.unused)))
      (le-leb s.channel most_stored h.in_channel)

  -- the tests of a record, one after the other
  pub words_fail : {n : ℕ} → n ≡ first_outside m Host s → (n ≡ word_count → ⊥) → false ≡ record_in m s
  unfolding record_in first_outside
  words_fail f h = sym (rw (refuted (words_in (words m Host s)) (λ t. h (f ∙ first_all (words m Host s) (words_limits (words m Host s) t)))))

  pub channel_fails : most_stored < s.channel → false ≡ record_in m s
  unfolding record_in
  channel_fails h = sym (rw (lt-leb s.channel most_stored h, and-false))

  pub only_line : {n : ℕ} → n ≡ first_outside m Host s → n ≡ word_count → s.channel ≤ most_stored → line_in s.line ≡ record_in m s
  unfolding record_in first_outside
  only_line f h c =
      sym (rw (words_in_lem (words m Host s) (first_none (words m Host s) (sym f ∙ h)), le-leb s.channel most_stored c, and-true))

pub ruleset record_tests = (some_number, none_number, words_fail, channel_fails, only_line)

-- REACH apart, the limits are the same for every m
pub record_other : (m m' : ℕ) (s : SubBasin) → RecordIn m s → s.fixed.reach ≤ m' → RecordIn m' s
record_other m m' s h r =
    let ws = h.in_words in
    record { in_words = within_join 17 (words m' Host s) (omega arith) (omega arith); in_line = h.in_line; unused = h.unused; in_channel = h.in_channel }

-- contents inside their ranges
pub record ContentsIn (v : Sender) (p : Parameters) (w : Contents) : Type 0 where
  pub wu_most : w.wu ≤ p.um
  pub wl_most : w.wl ≤ p.lm
  pub wd_most : w.wd ≤ p.dm
  pub g_most : w.g ≤ p.sm
  pub vi_most : w.vi ≤ most_slow v
  pub vg_most : w.vg ≤ most_slow v
  pub sn_most : w.sn ≤ most_snow v

-- the words of a record that has other contents, REACH and its range apart
pub words_with : (m m' : ℕ) (v v' : Sender) (s s' : SubBasin) → Within (words m v s) → s'.fixed ≡ s.fixed → s'.line.lag ≡ s.line.lag → s.fixed.reach ≤ m'
    → ContentsIn v' s.fixed s'.contents → Within (words m' v' s')
words_with m m' v v' s s' h f l r c = within_join 17 (words m' v' s') (rw (f, l) (omega arith)) (rw f (omega arith))

-- ---- all zeros

pub blank_blank : is_blank blank_sub ≡ true
unfolding is_blank all_up_to
blank_blank = refl

zeros_are : (xs : List ℕ) → UpTo 0 xs → xs ≡ replicate (length xs) 0
zeros_are [] h = refl
zeros_are (x ∷ xs) h = let z : x ≡ 0 = omega (arith, h.0) in rw z (ap (λ (ys : List ℕ). 0 ∷ ys) (zeros_are xs h.1))

zeros_by : (xs : List ℕ) → ((i : ℕ) (d : ℕ) → i < length xs → get_or xs i d ≡ 0) → UpTo 0 xs
zeros_by [] h = tt
zeros_by (x ∷ xs) h = (omega (arith, h 0 0 (omega arith)), zeros_by xs (λ i d l. h (suc i) d (omega (arith, l))))

blank_is : (s : SubBasin) → length s.line.waiting ≡ 15 → UpTo 0 (words_of s) → UpTo 0 s.line.waiting → s.channel ≡ 0 → s ≡ blank_sub
blank_is s long h k c =
    let waits : s.line.waiting ≡ replicate 15 0 = zeros_are s.line.waiting k ∙ ap (λ (n : ℕ). replicate n 0) long in
    let whole : s ≡ of_words (words_of s) = ap₂ (λ (ws : List ℕ) (x : ℕ). record { fixed = s.fixed; contents = s.contents; line = record { lag = s.line.lag; waiting = ws }; channel = x }) waits c in
    whole ∙ ap of_words (zeros_are (words_of s) h)

-- words that are zero, one after the other, as a derived Default and a derived == have them
abbrev pub Zeros : List ℕ → Type 0
Zeros [] = Unit {0}
Zeros (x ∷ []) = x ≡ 0
Zeros (x ∷ y ∷ ys) = (x ≡ 0) × Zeros (y ∷ ys)

abbrev pub zeros : List ℕ → Bool
zeros [] = true
zeros (x ∷ []) = eqb x 0
zeros (x ∷ y ∷ ys) = eqb x 0 && zeros (y ∷ ys)

abbrev pub words_fixed : Parameters → List ℕ
words_fixed p = p.area ∷ p.k ∷ p.um ∷ p.lm ∷ p.dm ∷ p.c ∷ p.bn ∷ p.im ∷ p.sm ∷ p.xn ∷ p.ki ∷ p.kg ∷ p.ci ∷ p.cg ∷ p.cs ∷ p.reach ∷ p.f ∷ p.threshold ∷ []

abbrev pub words_held : Contents → List ℕ
words_held w = w.wu ∷ w.wl ∷ w.wd ∷ w.g ∷ w.vi ∷ w.vg ∷ w.sn ∷ []

-- what the derived Default makes
abbrev pub IsDefault : SubBasin → Type 0
IsDefault s =
    Zeros (words_fixed s.fixed)
    × (Zeros (words_held s.contents) × (((s.line.lag ≡ 0) × AllOfLen (λ x. x ≡ 0) s.line.waiting 15) × (s.channel ≡ 0)))

pub default_blank : (s : SubBasin) → IsDefault s → s ≡ blank_sub
default_blank s h =
    let waits = h.1.1.0.1 in
    blank_is s waits.long (omega arith) (zeros_by s.line.waiting (λ i d l. waits.at i d (omega (arith, l, waits.long)))) h.1.1.1

zeros_limits : (xs : List ℕ) → zeros xs ≡ true → UpTo 0 xs
zeros_limits [] t = tt
zeros_limits (x ∷ []) t = (omega (arith, eqb-true x 0 t), tt)
zeros_limits (x ∷ y ∷ ys) t = let p = parts (eqb x 0) (zeros (y ∷ ys)) t in (omega (arith, eqb-true x 0 p.0), zeros_limits (y ∷ ys) p.1)

-- and its comparison with a record
abbrev pub is_zero : SubBasin → Bool
is_zero s =
    zeros (words_fixed s.fixed)
    && (zeros (words_held s.contents) && ((eqb s.line.lag 0 && pointwise eqb s.line.waiting (replicate 15 0)) && eqb s.channel 0))

module _ (s : SubBasin) (long : length s.line.waiting ≡ 15) where
  zero_blank : is_zero s ≡ true → s ≡ blank_sub
  zero_blank t =
      let a = parts (zeros (words_fixed s.fixed)) _ t in
      let b = parts (zeros (words_held s.contents)) _ a.1 in
      let c = parts _ (eqb s.channel 0) b.1 in
      let d = parts (eqb s.line.lag 0) _ c.0 in
      let fixed = zeros_limits (words_fixed s.fixed) a.0 in
      let held = zeros_limits (words_held s.contents) b.0 in
      let waits : s.line.waiting ≡ replicate 15 0 = (bytes_decides s.line.waiting (replicate 15 0)).0 d.1 in
      blank_is s long (omega (arith, eqb-true s.line.lag 0 d.0)) (rw waits (up_to_zeros 0 15)) (eqb-true s.channel 0 c.1)

  limits_blank : is_blank s ≡ true → s ≡ blank_sub
  unfolding is_blank
  limits_blank t =
      let a = parts (all_up_to 0 s.line.waiting && eqb s.channel 0) (all_up_to 0 (words_of s)) t in
      let b = parts (all_up_to 0 s.line.waiting) (eqb s.channel 0) a.0 in
      blank_is s long (all_limits 0 (words_of s) a.1) (all_limits 0 s.line.waiting b.0) (eqb-true s.channel 0 b.1)

  pub zero_is_blank : is_zero s ≡ is_blank s
  zero_is_blank = both_ways (is_zero s) (is_blank s) (λ t. rw (zero_blank t) blank_blank) (λ t. rw (limits_blank t) refl)

-- "An accepted load holds exactly the file's words"
pub words_read_back : (v : List ℕ) → length v ≡ word_count → words_of (of_words v) ≡ v
words_read_back v h = listed_take v 0 word_count (omega arith) ∙ take_all word_count v (omega arith)
