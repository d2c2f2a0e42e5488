-- What 9's limits of a basin say, both ways, and their tests one after the other. Assumes nothing.
use mathlib.Core.Path.{◌≡◌, refl, sym, ap, ◌∙◌}
use mathlib.Core.Bool.{Bool, true, false, ◌&&◌}
use mathlib.Core.List.{List, [], ◌∷◌}
use Prim.Native.Nat.{ℕ, zero, suc, ◌+◌, ◌-◌, ◌≤◌, ◌<◌}
use native.Mathlib.Omega.{arith}
use native.Mathlib.Numerals.{add-one}
use lib.ListN.{length, get_or, take, drop, length-take}
use lib.Seq.{take_all}
use Rattle.std.specs.List.{list_all, enumerate_from}
use Rattle.std.proofs.lemmas.List.FromFn.{get_or-enumerate_from, length-enumerate_from}
use Rattle.std.proofs.lemmas.List.{get_or-take, get_or-drop}
use Rattle.std.proofs.lemmas.List.Folds.{list_all_more}
use Rattle.common.specs.Limits.{within, words_in}
use Rattle.common.specs.Loops.{every}
use Rattle.common.proofs.Limits.{both, parts, within_in, within_limits}
use Rattle.common.proofs.Loops.{every_in, every_at}
use Rattle.subbasin.specs.declared.record.SubBasin.{SubBasin}
use Rattle.subbasin.specs.Record.{record_in, is_blank, blank_sub}
use Rattle.subbasin.proofs.record.RecordLaws.{RecordIn, record_limits, record_in_lem}
use Rattle.basin.specs.declared.state.Basin.{Basin}
use Rattle.basin.specs.Reach.{reach_in, is_blank_reach}
use Rattle.basin.specs.State.{most_subs, most_reaches, sub_at, reach_at}
use Rattle.basin.specs.Limits.{counts_in, subs_used, subs_blank, reaches_used, reaches_blank, others_in, basin_in}
use Rattle.basin.specs.Workers.{CountsIn, records_in}
use Rattle.basin.proofs.reach.ReachLaws.{ReachIn, reach_limits, reach_in_lem}

-- ---- the counts

module _ (n m : ℕ) where
  pub counts_limits : counts_in n m ≡ true → CountsIn n m
  unfolding counts_in
  counts_limits t =
      let p = parts (within 1 n most_subs) (within 0 m most_reaches) t in
      let l = within_limits 1 n most_subs p.0 in
      record { n_least = l.0; n_most = l.1; m_most = (within_limits 0 m most_reaches p.1).1 }

  pub counts_in_lem : CountsIn n m → counts_in n m ≡ true
  unfolding counts_in
  counts_in_lem h = both (within_in 1 n most_subs h.n_least h.n_most) (within_in 0 m most_reaches (omega arith) h.m_most)

-- ---- a test of the first n records of a list, and of those from the n-th on

module _ {A : Type 0} (p : A → Bool) (d : A) (l : List A) where
  pub all_taken : (n : ℕ) → n ≤ length l → list_all p (take n l) ≡ every (λ k. p (get_or l k d)) n
  unfolding every
  all_taken zero h = refl
  all_taken (suc n) h = rw (← (add-one n)) (list_all_more p l n d (omega arith) ∙ ap (λ b. b && p (get_or l n d)) (all_taken n (omega arith)))

  pub all_left : (n j : ℕ) → j ≤ length (drop n l) → list_all p (take j (drop n l)) ≡ every (λ k. p (get_or l (n + k) d)) j
  unfolding every
  all_left n zero h = refl
  all_left n (suc j) h =
      rw (← (add-one j))
      (list_all_more p (drop n l) j d (omega arith) ∙ rw (get_or-drop n l j d) (ap (λ b. b && p (get_or l (n + j) d)) (all_left n j (omega arith))))

-- and of each with its number, from 1
module _ {A : Type 0} (p : ℕ → A → Bool) (d : A) (l : List A) (m : ℕ) (long : m ≤ length l) where
  numbered : (n : ℕ) → n ≤ m → list_all (λ (t : ℕ × A). p (t.0 + 1) t.1) (take n (enumerate_from 0 (take m l))) ≡ every (λ k. p (suc k) (get_or l k d)) n
  unfolding every
  numbered zero h = refl
  numbered (suc n) h =
      let from_zero : 0 + n ≡ n = omega arith in
      let here : p (n + 1) (get_or l n d) ≡ p (suc n) (get_or l n d) = rw (add-one n) in
      rw (← (add-one n))
      (list_all_more (λ (t : ℕ × A). p (t.0 + 1) t.1) (enumerate_from 0 (take m l)) n (0, d) (omega (arith, length-enumerate_from 0 (take m l), length-take m l))
      ∙ rw (get_or-enumerate_from 0 (take m l) n (0, d) (omega (arith, length-take m l)), from_zero, get_or-take m l n d (omega arith), here)
      (ap (λ b. b && p (suc n) (get_or l n d)) (numbered n (omega arith))))

  pub all_numbered : list_all (λ (t : ℕ × A). p (t.0 + 1) t.1) (enumerate_from 0 (take m l)) ≡ every (λ k. p (suc k) (get_or l k d)) m
  all_numbered =
      rw (take_all m (enumerate_from 0 (take m l)) (omega (arith, length-enumerate_from 0 (take m l), length-take m l))) at (numbered m (omega arith))

-- ---- the records

-- past the end of an array of records code may read another record than the definitions do; no test of 9 tells them apart
abbrev pub no_sub : SubBasin
no_sub = record { fixed = blank_sub.fixed; contents = blank_sub.contents; line = record { lag = 0; waiting = [] }; channel = 0 }

pub used_read : (m : ℕ) (l : List SubBasin) (i : ℕ) → record_in m (get_or l i no_sub) ≡ record_in m (get_or l i blank_sub)
unfolding record_in words_in
used_read m [] i = refl
used_read m (s ∷ l) zero = refl
used_read m (s ∷ l) (suc i) = used_read m l i

-- all is inside its limits but the sub-basins in use
pub record OthersIn (b : Basin) : Type 0 where
  pub n_least : 1 ≤ b.n
  pub n_most : b.n ≤ most_subs
  pub m_most : b.m ≤ most_reaches
  pub blank_subs : (i : ℕ) → b.n ≤ i → i < most_subs → is_blank (sub_at b i) ≡ true
  pub used_reaches : (j : ℕ) → j < b.m → ReachIn b.m (suc j) (reach_at b j)
  pub blank_reaches : (j : ℕ) → b.m ≤ j → j < most_reaches → is_blank_reach (reach_at b j) ≡ true

-- a basin that 9 allows
pub record BasinIn (b : Basin) : Type 0 where
  pub n_least : 1 ≤ b.n
  pub n_most : b.n ≤ most_subs
  pub m_most : b.m ≤ most_reaches
  pub used_subs : (i : ℕ) → i < b.n → RecordIn b.m (sub_at b i)
  pub blank_subs : (i : ℕ) → b.n ≤ i → i < most_subs → is_blank (sub_at b i) ≡ true
  pub used_reaches : (j : ℕ) → j < b.m → ReachIn b.m (suc j) (reach_at b j)
  pub blank_reaches : (j : ℕ) → b.m ≤ j → j < most_reaches → is_blank_reach (reach_at b j) ≡ true

module _ (b : Basin) where
  pub others_limits : others_in b ≡ true → OthersIn b
  unfolding others_in subs_blank reaches_used reaches_blank
  others_limits t =
      let p = parts (counts_in b.n b.m && subs_blank b.n b.subs && reaches_used b.m b.reaches) (reaches_blank b.m b.reaches) t in
      let q = parts (counts_in b.n b.m && subs_blank b.n b.subs) (reaches_used b.m b.reaches) p.0 in
      let r = parts (counts_in b.n b.m) (subs_blank b.n b.subs) q.0 in
      let c = counts_limits b.n b.m r.0 in
      record {
        n_least = c.n_least;
        n_most = c.n_most;
        m_most = c.m_most;
        blank_subs =
            λ i l h.
            let back : b.n + (i - b.n) ≡ i = omega arith in
            rw back at (every_at (λ k. is_blank (sub_at b (b.n + k))) (most_subs - b.n) r.1 (i - b.n) (omega arith));
        used_reaches = λ j l. reach_limits b.m (suc j) (reach_at b j) (every_at (λ k. reach_in b.m (suc k) (reach_at b k)) b.m q.1 j l);
        blank_reaches =
            λ j l h.
            let back : b.m + (j - b.m) ≡ j = omega arith in
            rw back at (every_at (λ k. is_blank_reach (reach_at b (b.m + k))) (most_reaches - b.m) p.1 (j - b.m) (omega arith));
      }

  others_in_lem : OthersIn b → others_in b ≡ true
  unfolding others_in subs_blank reaches_used reaches_blank
  others_in_lem h =
      both
      (both
      (both
      (counts_in_lem b.n b.m (record { n_least = h.n_least; n_most = h.n_most; m_most = h.m_most }))
      (every_in (λ k. is_blank (sub_at b (b.n + k))) (most_subs - b.n) (λ k l. h.blank_subs (b.n + k) (omega arith) (omega arith))))
      (every_in (λ j. reach_in b.m (suc j) (reach_at b j)) b.m (λ j l. reach_in_lem b.m (suc j) (reach_at b j) (h.used_reaches j l))))
      (every_in (λ k. is_blank_reach (reach_at b (b.m + k))) (most_reaches - b.m) (λ k l. h.blank_reaches (b.m + k) (omega arith) (omega arith)))

  pub others_counts : others_in b ≡ true → CountsIn b.n b.m
  others_counts t = let o = others_limits t in record { n_least = o.n_least; n_most = o.n_most; m_most = o.m_most }

  -- the sub-basins in use decide of a basin whose others are inside
  pub basin_used : others_in b ≡ true → basin_in b ≡ subs_used b.m b.n b.subs
  unfolding basin_in
  basin_used t = rw t

  pub basin_others : others_in b ≡ false → basin_in b ≡ false
  unfolding basin_in
  basin_others t = rw t

  pub basin_limits : basin_in b ≡ true → BasinIn b
  unfolding basin_in subs_used
  basin_limits t =
      let p = parts (others_in b) (subs_used b.m b.n b.subs) t in
      let o = others_limits p.0 in
      record {
        n_least = o.n_least;
        n_most = o.n_most;
        m_most = o.m_most;
        used_subs = λ i l. record_limits b.m (sub_at b i) (every_at (λ k. record_in b.m (sub_at b k)) b.n p.1 i l);
        blank_subs = o.blank_subs;
        used_reaches = o.used_reaches;
        blank_reaches = o.blank_reaches;
      }

  pub basin_in_lem : BasinIn b → basin_in b ≡ true
  unfolding basin_in subs_used
  basin_in_lem h =
      both
      (others_in_lem
      (record {
        n_least = h.n_least;
        n_most = h.n_most;
        m_most = h.m_most;
        blank_subs = h.blank_subs;
        used_reaches = h.used_reaches;
        blank_reaches = h.blank_reaches;
      }))
      (every_in (λ i. record_in b.m (sub_at b i)) b.n (λ i l. record_in_lem b.m (sub_at b i) (h.used_subs i l)))

  -- the tests of the others: the counts, and then the records
  module _ {c : Bool} (is_c : c ≡ counts_in b.n b.m) where
    pub counts_fail : c ≡ false → c ≡ others_in b
    unfolding others_in
    counts_fail n = n ∙ sym (rw (sym is_c ∙ n))

    pub counts_pass : {r : Bool} → c ≡ true → r ≡ records_in b → r ≡ others_in b
    unfolding others_in records_in
    counts_pass y e = e ∙ sym (rw (sym is_c ∙ y))
