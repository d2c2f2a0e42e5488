-- The most that can come to each reach: every sub-basin sends it at most 2^34 in a step, and a reach passes on at most what came.
-- The contents that steps lead to stay below what this allows. Assumes nothing.
use mathlib.Core.Path.{◌≡◌, refl, ap}
use mathlib.Core.List.{List, [], ◌∷◌}
use Prim.Native.Nat.{ℕ, zero, suc, ◌+◌, ◌-◌, ◌*◌, ◌^◌, ◌≤◌, ◌<◌}
use native.Mathlib.Nat.{mul-le-mul, mul-le-mul_right}
use native.Mathlib.Decide.{dec_le}
use native.Mathlib.Omega.{arith}
use lib.ListN.{length, get_or, set, replicate}
use Rattle.common.specs.Shares.{one}
use Rattle.common.specs.Amounts.{sum}
use Rattle.common.specs.Loops.{run}
use Rattle.common.proofs.amounts.AmountLaws.{at_most_sum, sum_clear, sum_zeros}
use Rattle.curve.proofs.store.StoreLaws.{slack, store_passes}
use Rattle.subbasin.specs.Record.{most_stored}
use Rattle.basin.specs.declared.reach.Reach.{Reach}
use Rattle.basin.specs.Reach.{blank_reach}
use Rattle.basin.specs.Network.{g_of, send, reach_out, reach_after, flows, inflow, reaches_after}
use Rattle.basin.proofs.reach.ReachLaws.{ReachWords, g_most, g_least}
use Rattle.basin.proofs.network.NetworkLaws.{send_sum_most, after_in, after_past}

-- ---- the caps

-- 2^34 to the place of each of the first n sub-basins
unfoldable pub caps_of : (ℕ → ℕ) → ℕ → List ℕ
caps_of to n = run (λ i p. send p (to i) (2 ^ 34)) n (replicate 32 0)

pub caps_same : (to to' : ℕ → ℕ) (n : ℕ) → ((i : ℕ) → to i ≡ to' i) → caps_of to n ≡ caps_of to' n
unfolding caps_of run
caps_same to to' zero h = refl
caps_same to to' (suc n) h = rw (caps_same to to' n h, h n)

-- a reach's turn, where all that came goes on
abbrev passed_on : ℕ → Reach → List ℕ → List ℕ
passed_on j r caps = send (set caps j 0) r.next (get_or caps j 0)

unfoldable pub cap_flows : List Reach → ℕ → List ℕ → List ℕ
cap_flows rs k caps = run (λ i p. passed_on (suc i) (get_or rs i blank_reach) p) k caps

-- the caps go by where reaches flow alone
cap_flows_same : (rs rs' : List Reach) (k : ℕ) (caps : List ℕ) → ((i : ℕ) → (get_or rs' i blank_reach).next ≡ (get_or rs i blank_reach).next)
    → cap_flows rs' k caps ≡ cap_flows rs k caps
unfolding cap_flows run
cap_flows_same rs rs' zero caps h = refl
cap_flows_same rs rs' (suc k) caps h = rw (cap_flows_same rs rs' k caps h, h k)

caps_sum : (to : ℕ → ℕ) (n : ℕ) → sum (caps_of to n) ≤ n * 2 ^ 34
unfolding caps_of run
caps_sum to zero = omega (arith, sum_zeros 32)
caps_sum to (suc n) = omega (arith, caps_sum to n, send_sum_most (caps_of to n) (to n) (2 ^ 34))

pub caps_most : (to : ℕ → ℕ) (n : ℕ) → n ≤ 32 → sum (caps_of to n) ≤ 2 ^ 39
caps_most to n h = omega (arith, caps_sum to n)

cap_flows_sum : (rs : List Reach) (k : ℕ) (caps : List ℕ) → sum (cap_flows rs k caps) ≤ sum caps
unfolding cap_flows run
cap_flows_sum rs zero caps = omega arith
cap_flows_sum rs (suc k) caps =
    let before : List ℕ = cap_flows rs k caps in
    omega (
      arith,
      cap_flows_sum rs k caps,
      send_sum_most (set before (suc k) 0) (get_or rs k blank_reach).next (get_or before (suc k) 0),
      sum_clear before (suc k),
    )

-- ---- place by place at most

abbrev pub Below : List ℕ → List ℕ → Type 0
Below [] [] = Unit {0}
Below [] (y ∷ ys) = ⊥
Below (x ∷ xs) [] = ⊥
Below (x ∷ xs) (y ∷ ys) = (x ≤ y) × Below xs ys

below_refl : (xs : List ℕ) → Below xs xs
below_refl [] = tt
below_refl (x ∷ xs) = (omega arith, below_refl xs)

below_at : (xs ys : List ℕ) (i : ℕ) → Below xs ys → get_or xs i 0 ≤ get_or ys i 0
below_at [] [] i h = omega arith
below_at [] (y ∷ ys) i h = absurd h
below_at (x ∷ xs) [] i h = absurd h
below_at (x ∷ xs) (y ∷ ys) zero h = h.0
below_at (x ∷ xs) (y ∷ ys) (suc i) h = below_at xs ys i h.1

below_set : (xs ys : List ℕ) (i a b : ℕ) → Below xs ys → a ≤ b → Below (set xs i a) (set ys i b)
below_set [] [] i a b h l = tt
below_set [] (y ∷ ys) i a b h l = absurd h
below_set (x ∷ xs) [] i a b h l = absurd h
below_set (x ∷ xs) (y ∷ ys) zero a b h l = (l, h.1)
below_set (x ∷ xs) (y ∷ ys) (suc i) a b h l = (h.0, below_set xs ys i a b h.1 l)

below_send : (xs ys : List ℕ) (i a b : ℕ) → Below xs ys → a ≤ b → Below (send xs i a) (send ys i b)
unfolding send
below_send xs ys i a b h l = below_set xs ys i (get_or xs i 0 + a) (get_or ys i 0 + b) h (omega (arith, below_at xs ys i h))

-- what sub-basins send is below the caps of their reaches
pub sent_below : (to q : ℕ → ℕ) (n : ℕ) → ((i : ℕ) → i < n → q i ≤ 2 ^ 34) → Below (run (λ i p. send p (to i) (q i)) n (replicate 32 0)) (caps_of to n)
unfolding caps_of run
sent_below to q zero h = below_refl (replicate 32 0)
sent_below to q (suc n) h = below_send _ (caps_of to n) (to n) (q n) (2 ^ 34) (sent_below to q n (λ i l. h i (omega arith))) (h n (omega arith))

-- ---- each of the first m reaches held down by what can come to it

abbrev pub HeldDown : ℕ → List Reach → List ℕ → Type 0
HeldDown m rs caps =
    (k : ℕ) → k < m
    → g_of (get_or rs k blank_reach) * (get_or rs k blank_reach).content
    ≤ (one - (get_or rs k blank_reach).c0) * get_or (cap_flows rs k caps) (suc k) 0 + slack

module _ (m : ℕ) (rs : List Reach) (w : (k : ℕ) → k < m → ReachWords m (suc k) (get_or rs k blank_reach)) (caps : List ℕ) where
  module _ (h : HeldDown m rs caps) (p : List ℕ) (below : Below p caps) where
    -- a reach whose inflow is below its cap stays held down, and lets out at most the cap
    passes : (k : ℕ) → k < m → Below (flows rs k p) (cap_flows rs k caps)
        → (g_of (get_or rs k blank_reach) * (reach_after (get_or rs k blank_reach) (inflow rs p k)).content
        ≤ (one - (get_or rs k blank_reach).c0) * get_or (cap_flows rs k caps) (suc k) 0 + slack)
        × (reach_out (get_or rs k blank_reach) (inflow rs p k) ≤ get_or (cap_flows rs k caps) (suc k) 0)
    passes k l b =
        let r = get_or rs k blank_reach in
        store_passes (w k l).c0_most (g_most (w k l)) r.content (inflow rs p k) (get_or (cap_flows rs k caps) (suc k) 0)
        (below_at (flows rs k p) (cap_flows rs k caps) (suc k) b) (h k l)

    flows_below : (k : ℕ) → k ≤ m → Below (flows rs k p) (cap_flows rs k caps)
    unfolding flows cap_flows run
    flows_below zero l = below
    flows_below (suc k) l =
        let b = flows_below k (omega arith) in
        below_send (set (flows rs k p) (suc k) 0) (set (cap_flows rs k caps) (suc k) 0) (get_or rs k blank_reach).next _ (get_or (cap_flows rs k caps) (suc k) 0)
        (below_set (flows rs k p) (cap_flows rs k caps) (suc k) 0 0 b (omega arith)) (passes k l b).1

    -- and so after every step whose inflows are below the caps
    pub held_after : m ≤ length rs → HeldDown m (reaches_after rs m p) caps
    held_after long k l =
        rw (cap_flows_same rs (reaches_after rs m p) k caps (λ i. next_same i (dec_le m i)), after_in rs p m k l long) (passes k l (flows_below k (omega arith))).0
      where
        next_same : (i : ℕ) → Dec (m ≤ i) → (get_or (reaches_after rs m p) i blank_reach).next ≡ (get_or rs i blank_reach).next
        next_same i (yes d) = ap (λ (r : Reach). r.next) (after_past rs p m i d)
        next_same i (no d) = ap (λ (r : Reach). r.next) (after_in rs p m i (omega arith) long)

  -- no cap is above 2^39, so no content is above 2^56
  pub held_content : sum caps ≤ 2 ^ 39 → HeldDown m rs caps → (k : ℕ) → k < m → (get_or rs k blank_reach).content ≤ most_stored
  held_content b h k l =
      let r = get_or rs k blank_reach in
      let cap : ℕ = get_or (cap_flows rs k caps) (suc k) 0 in
      omega (
        arith,
        h k l,
        mul-le-mul {n₁ = one - r.c0} {m₁ = cap} {n₂ = one} {m₂ = 2 ^ 39} (omega arith)
            (omega (arith, at_most_sum (cap_flows rs k caps) (suc k), cap_flows_sum rs k caps)),
        mul-le-mul_right {m = 1} {n = g_of r} r.content (g_least (w k l)),
      )

  -- an empty reach is held down
  pub held_empty : ((k : ℕ) → k < m → (get_or rs k blank_reach).content ≡ 0) → HeldDown m rs caps
  held_empty h k l = rw (h k l) (omega arith)
