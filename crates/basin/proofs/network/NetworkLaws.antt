-- The volumes on their way through the reaches: nothing is lost, and all that is on its way comes to the outlet. Assumes nothing.
use mathlib.Core.Path.{◌≡◌, refl, ap, ◌∙◌}
use mathlib.Core.List.{List}
use Prim.Native.Nat.{ℕ, zero, suc, ◌+◌, ◌≤◌, ◌<◌}
use native.Mathlib.Decide.{ℕ_discrete, dec_le}
use native.Mathlib.Omega.{arith}
use lib.ListN.{length, get_or, set, length-set}
use lib.Seq.{get_or-set_other}
use Rattle.common.specs.Amounts.{sum}
use Rattle.common.specs.Loops.{run, sum_of}
use Rattle.common.proofs.amounts.AmountLaws.{sum_set, sum_set_most, sum_clear, clear_same, sum_first}
use Rattle.common.proofs.Loops.{filled_length, filled_in, filled_past, sum_same}
use Rattle.curve.proofs.store.StoreLaws.{store_conserves}
use Rattle.basin.specs.declared.reach.Reach.{Reach}
use Rattle.basin.specs.Reach.{blank_reach}
use Rattle.basin.specs.Network.{send, reach_out, reach_after, passed, flows, inflow, reaches_after}
use Rattle.basin.proofs.reach.ReachLaws.{ReachWords, g_most}

-- ---- an amount sent to a place

module _ (l : List ℕ) (i a : ℕ) where
  pub send_length : length (send l i a) ≡ length l
  unfolding send
  send_length = length-set l i (get_or l i 0 + a)

  pub send_sum : i < length l → sum (send l i a) ≡ sum l + a
  unfolding send
  send_sum h = omega (arith, sum_set l i (get_or l i 0 + a) h)

  pub send_sum_most : sum (send l i a) ≤ sum l + a
  unfolding send
  send_sum_most = omega (arith, sum_set_most l i (get_or l i 0 + a))

  pub send_other : (k : ℕ) → (k ≡ i → ⊥) → get_or (send l i a) k 0 ≡ get_or l k 0
  unfolding send
  send_other k n = get_or-set_other l i k (get_or l i 0 + a) 0 n

-- ---- nothing is on its way to a reach before number j, nor to one past m

pub record Clear (m j : ℕ) (p : List ℕ) : Type 0 where
  pub before : (k : ℕ) → 0 < k → k < j → get_or p k 0 ≡ 0
  pub past : (k : ℕ) → m < k → get_or p k 0 ≡ 0

pub send_clear : (m : ℕ) (p : List ℕ) (i a : ℕ) → i ≤ m → Clear m 1 p → Clear m 1 (send p i a)
send_clear m p i a h c =
    record { before = λ k z l. absurd (omega arith); past = λ k l. send_other p i a k (λ e. omega arith) ∙ c.past k l }

-- zero but for place j, and j taken away
cleared : (p : List ℕ) (j k : ℕ) → ((k ≡ j → ⊥) → get_or p k 0 ≡ 0) → get_or (set p j 0) k 0 ≡ 0
cleared p j k h = go (ℕ_discrete k j)
  where
    go : Dec (k ≡ j) → get_or (set p j 0) k 0 ≡ 0
    go (yes e) = rw e (clear_same p j)
    go (no n) = get_or-set_other p j k 0 0 n ∙ h n

-- ---- one reach's turn

module _ {m j : ℕ} {r : Reach} (w : ReachWords m j r) where
  -- content after and outflow are content before and inflow
  pub reach_conserves : (i : ℕ) → (reach_after r i).content + reach_out r i ≡ r.content + i
  reach_conserves i = store_conserves w.c0_most (g_most w) r.content i

  pub pass_conserves : (p : List ℕ) → m < length p → sum (passed j r p) + (reach_after r (get_or p j 0)).content ≡ sum p + r.content
  pass_conserves p h =
      let i : ℕ = get_or p j 0 in
      let fits : r.next < length (set p j 0) = rw (length-set p j 0) (omega (arith, w.next_most)) in
      omega (arith, send_sum (set p j 0) r.next (reach_out r i) fits, sum_clear p j, reach_conserves i)

  pass_clears : (p : List ℕ) → j ≤ m → Clear m j p → Clear m (suc j) (passed j r p)
  pass_clears p l c =
      record {
        before =
            λ k z h.
            send_other (set p j 0) r.next (reach_out r (get_or p j 0)) k (λ e. let n : j < r.next = w.next_after (λ y. omega arith) in omega arith)
            ∙ cleared p j k (λ n. c.before k z (omega arith));
        past =
            λ k h.
            send_other (set p j 0) r.next (reach_out r (get_or p j 0)) k (λ e. omega (arith, w.next_most))
            ∙ cleared p j k (λ n. c.past k h);
      }

pass_length : (j : ℕ) (r : Reach) (p : List ℕ) → length (passed j r p) ≡ length p
pass_length j r p = send_length (set p j 0) r.next (reach_out r (get_or p j 0)) ∙ length-set p j 0

-- ---- the first k reaches

module _ (rs : List Reach) (p : List ℕ) where
  pub flows_length : (k : ℕ) → length (flows rs k p) ≡ length p
  unfolding flows run
  flows_length zero = refl
  flows_length (suc k) = pass_length (suc k) (get_or rs k blank_reach) (flows rs k p) ∙ flows_length k

  module _ (m : ℕ) where
    pub after_length : length (reaches_after rs m p) ≡ length rs
    unfolding reaches_after
    after_length = filled_length (λ k. reach_after (get_or rs k blank_reach) (inflow rs p k)) m rs

    pub after_in : (k : ℕ) → k < m → m ≤ length rs → get_or (reaches_after rs m p) k blank_reach ≡ reach_after (get_or rs k blank_reach) (inflow rs p k)
    unfolding reaches_after
    after_in k h l = filled_in (λ k. reach_after (get_or rs k blank_reach) (inflow rs p k)) m rs blank_reach k h (omega arith)

    pub after_past : (k : ℕ) → m ≤ k → get_or (reaches_after rs m p) k blank_reach ≡ get_or rs k blank_reach
    unfolding reaches_after
    after_past k h = filled_past (λ k. reach_after (get_or rs k blank_reach) (inflow rs p k)) m rs blank_reach k h

module _ (rs : List Reach) (p : List ℕ) (m : ℕ) (w : (k : ℕ) → k < m → ReachWords m (suc k) (get_or rs k blank_reach)) (wide : m < length p) where
  -- what is on its way and what the reaches hold, after the first k turns
  flows_conserve : (k : ℕ) → k ≤ m
      → sum (flows rs k p) + sum_of (λ i. (reach_after (get_or rs i blank_reach) (inflow rs p i)).content) k ≡ sum p + sum_of (λ i. (get_or rs i blank_reach).content) k
  unfolding flows run sum_of
  flows_conserve zero h = refl
  flows_conserve (suc k) h =
      omega (
        arith,
        flows_conserve k (omega arith),
        pass_conserves (w k (omega arith)) (flows rs k p) (omega (arith, flows_length rs p k)),
      )

  -- so neither part of it is ever more than all that there was
  pub flows_most : (k : ℕ) → k ≤ m → sum (flows rs k p) ≤ sum p + sum_of (λ i. (get_or rs i blank_reach).content) k
  flows_most k h = omega (arith, flows_conserve k h)

  pub contents_most : (k : ℕ) → k ≤ m
      → sum_of (λ i. (reach_after (get_or rs i blank_reach) (inflow rs p i)).content) k ≤ sum p + sum_of (λ i. (get_or rs i blank_reach).content) k
  contents_most k h = omega (arith, flows_conserve k h)

  module _ (long : m ≤ length rs) where
    pub after_same : sum_of (λ j. (get_or (reaches_after rs m p) j blank_reach).content) m ≡ sum_of (λ i. (reach_after (get_or rs i blank_reach) (inflow rs p i)).content) m
    after_same =
        sum_same (λ j. (get_or (reaches_after rs m p) j blank_reach).content) (λ i. (reach_after (get_or rs i blank_reach) (inflow rs p i)).content) m
        (λ k h. ap (λ (r : Reach). r.content) (after_in rs p m k h long))

    pub after_holds : sum (flows rs m p) + sum_of (λ j. (get_or (reaches_after rs m p) j blank_reach).content) m ≡ sum p + sum_of (λ j. (get_or rs j blank_reach).content) m
    after_holds = omega (arith, flows_conserve m (omega arith), after_same)

    module _ (c : Clear m 1 p) where
      flows_clear : (k : ℕ) → k ≤ m → Clear m (suc k) (flows rs k p)
      unfolding flows run
      flows_clear zero h = c
      flows_clear (suc k) h = pass_clears (w k (omega arith)) (flows rs k p) (omega arith) (flows_clear k (omega arith))

      -- what is on its way after all reaches is at the outlet
      flows_end : sum (flows rs m p) ≡ get_or (flows rs m p) 0 0
      flows_end = sum_first (flows rs m p) (λ k. go k (dec_le (suc k) m))
        where
          go : (k : ℕ) → Dec (suc k ≤ m) → get_or (flows rs m p) (suc k) 0 ≡ 0
          go k (yes h) = (flows_clear m (omega arith)).before (suc k) (omega arith) (omega arith)
          go k (no h) = (flows_clear m (omega arith)).past (suc k) (omega arith)

      -- the outlet volume and the reaches' contents after are what was sent and the reaches' contents before
      pub network_conserves : get_or (flows rs m p) 0 0 + sum_of (λ j. (get_or (reaches_after rs m p) j blank_reach).content) m
          ≡ sum p + sum_of (λ j. (get_or rs j blank_reach).content) m
      network_conserves = omega (arith, flows_end, after_holds)
