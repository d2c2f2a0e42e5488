-- Document 01, "The store law": the sub-basins' volumes on their way through the reaches to the outlet.
use Rattle.std.specs.Prelude.{ℕ, suc, ◌+◌, List, get_or, set}
use Rattle.common.specs.Loops.{run, filled}
use Rattle.curve.specs.Store.{outflow, content}
use Rattle.basin.specs.declared.reach.Reach.{Reach}
use Rattle.basin.specs.Reach.{blank_reach}

-- What is on its way: entry 0 holds what was sent to the outlet, entry j what was sent to reach j and not yet taken by it.
-- An amount sent to a place:
unfoldable pub send : List ℕ → ℕ → ℕ → List ℕ
send pending at amount = set pending at (get_or pending at 0 + amount)

-- "Muskingum with a = c0, g = c0 + c1"
abbrev pub g_of : Reach → ℕ
g_of r = r.c0 + r.c1

-- a reach's outflow and the reach after, from its inflow
abbrev pub reach_out : Reach → ℕ → ℕ
reach_out r i = outflow r.c0 (g_of r) r.content i

abbrev pub reach_after : Reach → ℕ → Reach
reach_after r i = record { c0 = r.c0; c1 = r.c1; next = r.next; content = content r.c0 (g_of r) r.content i }

-- "inflow is the Q sent there plus outflows of reaches whose next names it": reach j takes all that was sent to it, and sends
-- its outflow to the next, a greater number, or to the outlet
abbrev pub passed : ℕ → Reach → List ℕ → List ℕ
passed j r pending = send (set pending j 0) r.next (reach_out r (get_or pending j 0))

-- "Reaches run 1..M": what is on its way after the first k of them
unfoldable pub flows : List Reach → ℕ → List ℕ → List ℕ
flows rs k pending = run (λ i p. passed (suc i) (get_or rs i blank_reach) p) k pending

-- the inflow of reach k, counted from 0, and so the first m reaches after it
abbrev pub inflow : List Reach → List ℕ → ℕ → ℕ
inflow rs pending k = get_or (flows rs k pending) (suc k) 0

unfoldable pub reaches_after : List Reach → ℕ → List ℕ → List Reach
reaches_after rs m pending = filled (λ k. reach_after (get_or rs k blank_reach) (inflow rs pending k)) m rs
