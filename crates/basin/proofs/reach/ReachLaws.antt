-- What the limits of a reach say, both ways, and its tests one after the other. Assumes nothing.
use mathlib.Core.Path.{◌≡◌, refl, sym, ◌∙◌}
use mathlib.Core.Bool.{Bool, true, false, cond, ◌&&◌, and-true}
use Prim.Native.Nat.{ℕ, zero, suc, ◌+◌, ◌≤◌, ◌<◌}
use native.Mathlib.Omega.{arith}
use lib.Dec.{leb, eqb}
use borrow.Author.Tests.{le-leb, lt-leb, leb-true, ne_eqb, eqb-false}
use Rattle.std.proofs.Common.{Option, Some, None, IfSome, unwrap_or}
use Rattle.std.specs.Option.{is_some}
use Rattle.common.specs.Shares.{one}
use Rattle.common.specs.Limits.{words_in, first_out}
use Rattle.common.specs.Amounts.{all_up_to}
use Rattle.common.proofs.Limits.{both, parts, refuted, Within, words_limits, words_in_lem, first_all, first_none}
use Rattle.subbasin.specs.Record.{most_stored}
use Rattle.basin.specs.declared.reach.Reach.{Reach}
use Rattle.basin.specs.Network.{g_of}
use Rattle.basin.specs.Reach.{reach_word_count, reach_words, reach_in, blank_reach, is_blank_reach}

-- ---- a reach's words

pub record ReachWords (m j : ℕ) (r : Reach) : Type 0 where
  pub c0_most : r.c0 ≤ one
  pub shares_least : 1 ≤ r.c0 + r.c1
  pub shares_most : r.c0 + r.c1 ≤ one
  pub next_after : (r.next ≡ 0 → ⊥) → j < r.next
  pub next_most : r.next ≤ m

-- g, the share that a reach lets go of its content: at most the whole, and never nothing, so that no reach fills without end
pub g_most : {m j : ℕ} {r : Reach} → ReachWords m j r → g_of r ≤ one
g_most w = omega (arith, w.shares_most)

pub g_least : {m j : ℕ} {r : Reach} → ReachWords m j r → 1 ≤ g_of r
g_least w = omega (arith, w.shares_least)

-- next is 0 or above the reach's own number
pub next_limits : {next : ℕ} (j : ℕ) → (next ≡ 0 → ⊥) → cond (eqb next 0) 0 (suc j) ≤ next → j < next
next_limits {next} j n h = rw (ne_eqb next 0 n) at h

pub next_in : (next j : ℕ) → ((next ≡ 0 → ⊥) → j < next) → cond (eqb next 0) 0 (suc j) ≤ next
next_in next j h = go (eqb next 0) refl
  where
    go : (b : Bool) → eqb next 0 ≡ b → cond b 0 (suc j) ≤ next
    go true e = omega arith
    go false e = h (eqb-false next 0 e)

module _ (m j : ℕ) (r : Reach) where
  pub reach_words_lem : Within (reach_words m j r) → ReachWords m j r
  reach_words_lem w =
      record {
        c0_most = w.1;
        shares_least = w.2.0;
        shares_most = w.2.1;
        next_after = λ n. next_limits j n w.2.2.0;
        next_most = w.2.2.1;
      }

  pub words_reach : ReachWords m j r → Within (reach_words m j r)
  words_reach w =
      (omega arith, w.c0_most, (w.shares_least, w.shares_most, (next_in r.next j w.next_after, w.next_most, tt)))

-- ---- a reach that 9 allows

pub record ReachIn (m j : ℕ) (r : Reach) : Type 0 where
  pub in_words : ReachWords m j r
  pub content_most : r.content ≤ most_stored

module _ (m j : ℕ) (r : Reach) where
  pub reach_limits : reach_in m j r ≡ true → ReachIn m j r
  unfolding reach_in
  reach_limits t =
      let b = parts (words_in (reach_words m j r)) (leb r.content most_stored) t in
      record { in_words = reach_words_lem m j r (words_limits (reach_words m j r) b.0); content_most = leb-true r.content most_stored b.1 }

  pub reach_in_lem : ReachIn m j r → reach_in m j r ≡ true
  unfolding reach_in
  reach_in_lem h = both (words_in_lem (reach_words m j r) (words_reach m j r h.in_words)) (le-leb r.content most_stored h.content_most)

  -- its tests, one after the other: a word outside, and then the content
  module _ (o : Option ℕ) (is : unwrap_or o reach_word_count ≡ first_out (reach_words m j r)) (one : IfSome o (λ k. k < reach_word_count)) where
    pub words_outside : is_some o ≡ true → false ≡ reach_in m j r
    unfolding reach_in
    words_outside t =
        sym
        (refuted (words_in (reach_words m j r) && leb r.content most_stored)
        (λ h. some_less o one t (is ∙ first_all (reach_words m j r) (words_limits (reach_words m j r) (parts (words_in (reach_words m j r)) (leb r.content most_stored) h).0))))
      where
        some_less : (o : Option ℕ) → IfSome o (λ k. k < reach_word_count) → is_some o ≡ true → unwrap_or o reach_word_count ≡ reach_word_count → ⊥
        some_less (Some k) l s e = omega arith
        some_less None l s e = cc

    pub words_inside : is_some o ≡ false → leb r.content most_stored ≡ reach_in m j r
    unfolding reach_in
    words_inside t = rw (words_in_lem (reach_words m j r) (first_none (reach_words m j r) (sym is ∙ none_all o t)))
      where
        none_all : (o : Option ℕ) → is_some o ≡ false → unwrap_or o reach_word_count ≡ reach_word_count
        none_all (Some k) s = cc
        none_all None s = refl

-- ---- all zeros

zero_test : (x : ℕ) → eqb x 0 ≡ leb x 0
zero_test zero = refl
zero_test (suc x) = rw (lt-leb (suc x) 0 (omega arith), ne_eqb (suc x) 0 (λ e. omega arith))

-- as the comparison with a record of zeros has it
pub zeros_blank : (r : Reach) → eqb r.c0 0 && (eqb r.c1 0 && (eqb r.next 0 && eqb r.content 0)) ≡ is_blank_reach r
unfolding is_blank_reach all_up_to
zeros_blank r = rw (zero_test r.c0, zero_test r.c1, zero_test r.next, zero_test r.content, and-true)

pub blank_reach_blank : is_blank_reach blank_reach ≡ true
unfolding is_blank_reach all_up_to
blank_reach_blank = refl
