-- The reaches' turns, one after the other: what holds before each, and what they come to. Assumes nothing.
use mathlib.Core.Path.{◌≡◌, sym, ap, ◌∙◌}
use mathlib.Core.List.{List}
use Prim.Native.Nat.{ℕ, suc, ◌+◌, ◌^◌, ◌≤◌, ◌<◌}
use native.Mathlib.Numerals.{add-one}
use native.Mathlib.Omega.{arith}
use lib.ListN.{length, get_or, set}
use Rattle.common.specs.Amounts.{sum}
use Rattle.common.specs.Loops.{sum_of}
use Rattle.common.proofs.amounts.AmountLaws.{get_or_within, at_most_sum, sum_clear}
use Rattle.common.proofs.Loops.{Filling, fill_begin, fill_turn, fill_end, fill_here, Carrying, carry_begin, carry_turn, carry_end}
use Rattle.common.proofs.Loops.{Adding, add_begin, add_turn, add_end, sum_bound}
use Rattle.curve.proofs.store.StoreLaws.{store_within}
use Rattle.subbasin.specs.Record.{most_stored}
use Rattle.basin.specs.declared.reach.Reach.{Reach}
use Rattle.basin.specs.Reach.{blank_reach}
use Rattle.basin.specs.Network.{send, reach_out, reach_after, passed, flows, inflow, reaches_after}
use Rattle.basin.specs.Workers.{Passing, Flowing, Flowed}
use Rattle.basin.proofs.reach.ReachLaws.{ReachIn, g_most, reach_limits}
use Rattle.basin.proofs.network.NetworkLaws.{flows_most, contents_most, after_same}

-- i reaches have had their turn
pub record Routing (m : ℕ) (rs : List Reach) (p : List ℕ) (i : ℕ) (after : List Reach) (pending : List ℕ) (held : ℕ) : Type 0 where
  pub flowing : Flowing m rs p
  pub long : length rs ≡ 31
  pub wide : length p ≡ 32
  pub filling : Filling (λ k. reach_after (get_or rs k blank_reach) (inflow rs p k)) rs m i after
  pub carrying : Carrying (λ k q. passed (suc k) (get_or rs k blank_reach) q) p m i pending
  pub holding : Adding (λ k. (reach_after (get_or rs k blank_reach) (inflow rs p k)).content) m i held

module _ (m : ℕ) (rs : List Reach) (p : List ℕ) where
  pub routing_begin : Flowing m rs p → length rs ≡ 31 → length p ≡ 32 → Routing m rs p 0 rs p 0
  routing_begin f l w = record { flowing = f; long = l; wide = w; filling = fill_begin; carrying = carry_begin; holding = add_begin }

  module _ (f : Flowing m rs p) (wide : length p ≡ 32) where
    reach_in_lem : (k : ℕ) → k < m → ReachIn m (suc k) (get_or rs k blank_reach)
    reach_in_lem k l = rw (add-one k) at (reach_limits m (k + 1) (get_or rs k blank_reach) (f.allowed k l))

    -- all that is on its way and in the reaches
    all_most : (k : ℕ) → k ≤ m → sum p + sum_of (λ i. (get_or rs i blank_reach).content) k ≤ 2 ^ 62
    all_most k h =
        omega (arith, f.sent_most, f.m_most, sum_bound (λ i. (get_or rs i blank_reach).content) most_stored k (λ i l. (reach_in_lem i (omega arith)).content_most))

    pending_most : (k : ℕ) → k ≤ m → sum (flows rs k p) ≤ 2 ^ 62
    pending_most k h = omega (arith, all_most k h, flows_most rs p m (λ i l. (reach_in_lem i l).in_words) (omega (arith, wide, f.m_most)) k h)

    held_most : (k : ℕ) → k ≤ m → sum_of (λ i. (reach_after (get_or rs i blank_reach) (inflow rs p i)).content) k ≤ 2 ^ 62
    held_most k h = omega (arith, all_most k h, contents_most rs p m (λ i l. (reach_in_lem i l).in_words) (omega (arith, wide, f.m_most)) k h)

  module _ {i : ℕ} {after : List Reach} {pending : List ℕ} {held : ℕ} (s : Routing m rs p i after pending held) where
    pending_is : pending ≡ flows rs i p
    unfolding flows
    pending_is = s.carrying.so_far

    module _ (more : i < m) (d : Reach) where
      -- the reach that is next is as it was
      here : get_or after i d ≡ get_or rs i blank_reach
      here = fill_here s.filling d ∙ get_or_within rs i d blank_reach (omega (arith, s.long, s.flowing.m_most))

      in_here : ReachIn m (suc i) (get_or after i d)
      in_here = rw here (reach_in_lem s.flowing s.wide i more)

      inflow_here : get_or pending (i + 1) 0 ≡ inflow rs p i
      inflow_here = rw (add-one i, pending_is)

      pub passing_here : Passing (get_or after i d) (get_or pending (i + 1) 0)
      passing_here =
          record {
            c0_most = in_here.in_words.c0_most;
            g_most = g_most in_here.in_words;
            content_most = in_here.content_most;
            inflow_most = omega (arith, at_most_sum pending (i + 1), ap sum pending_is, pending_most s.flowing s.wide i (omega arith));
          }

      module _ {r : Reach} {out : ℕ} (of : (r ≡ reach_after (get_or after i d) (get_or pending (i + 1) 0)) × (out ≡ reach_out (get_or after i d) (get_or pending (i + 1) 0))) where
        reach_is : r ≡ reach_after (get_or rs i blank_reach) (inflow rs p i)
        reach_is = of.0 ∙ rw (here, inflow_here)

        out_is : out ≡ reach_out (get_or rs i blank_reach) (inflow rs p i)
        out_is = of.1 ∙ rw (here, inflow_here)

        -- it still flows where it did
        next_is : r.next ≡ (get_or after i d).next
        next_is = ap (λ (x : Reach). x.next) of.0

        pub next_here : r.next < 32
        next_here = omega (arith, next_is, in_here.in_words.next_most, s.flowing.m_most)

        pub sent_fits : get_or (set pending (i + 1) 0) r.next 0 + out ≤ 2 ^ 63
        sent_fits =
            omega (
              arith,
              at_most_sum (set pending (i + 1) 0) r.next,
              sum_clear pending (i + 1),
              ap sum pending_is,
              pending_most s.flowing s.wide i (omega arith),
              of.1,
              store_within passing_here.c0_most passing_here.g_most (get_or after i d).content (get_or pending (i + 1) 0),
              passing_here.content_most,
              passing_here.inflow_most,
            )

        holding_next : Adding (λ k. (reach_after (get_or rs k blank_reach) (inflow rs p k)).content) m (i + 1) (held + r.content)
        holding_next = add_turn s.holding more (ap (λ (r : Reach). r.content) reach_is)

        pub held_fits : held + r.content ≤ 2 ^ 62
        held_fits = omega (arith, holding_next.so_far, held_most s.flowing s.wide (i + 1) (omega arith))

        pub routing_turn : Routing m rs p (i + 1) (set after i r)
            (set (set pending (i + 1) 0) r.next (get_or (set pending (i + 1) 0) r.next 0 + out)) (held + r.content)
        unfolding send
        routing_turn =
            record {
              flowing = s.flowing;
              long = s.long;
              wide = s.wide;
              filling = fill_turn s.filling more reach_is;
              carrying = carry_turn s.carrying more (rw (next_is, out_is, here, ← inflow_here, add-one i));
              holding = holding_next;
            }

    pub routing_end : m ≤ i → Flowed m rs p after (get_or pending 0 0) held
    unfolding reaches_after flows
    routing_end h =
        let f = s.flowing in
        let all : held ≡ sum_of (λ k. (reach_after (get_or rs k blank_reach) (inflow rs p k)).content) m = add_end s.holding h in
        record {
          routed = fill_end s.filling h;
          came = ap (λ (l : List ℕ). get_or l 0 0) (carry_end s.carrying h);
          held_is =
              all
              ∙ sym
              (after_same rs p m (λ k l. (reach_in_lem f s.wide k l).in_words) (omega (arith, s.wide, f.m_most)) (omega (arith, s.long, f.m_most)));
          held_most = omega (arith, all, held_most f s.wide m (omega arith));
        }
