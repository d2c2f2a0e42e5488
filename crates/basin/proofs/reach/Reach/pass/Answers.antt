-- `basin::reach::Reach::pass` meets its contract: the store call is inside its limits. Assumes nothing.
use mathlib.Core.Path.{◌≡◌, ap}
use Prim.Native.Nat.{ℕ}
use Rattle.curve.specs.declared.store.Store.{Store}
use Rattle.curve.specs.declared.store.Taken.{Taken}
use Rattle.curve.specs.Store.{as_released, store_call}
use Rattle.curve.proofs.capacity.CallLaws.{unwraps, unwrapped}
use Rattle.curve.proofs.store.StoreLaws.{taken, store_takes}
use Rattle.basin.specs.declared.reach.Reach.{Reach}
use Rattle.basin.specs.Network.{g_of}
use Rattle.basin.specs.Workers.{Passing}
use Rattle.basin.proofs.reach.Reach.pass.Goals as goal

abbrev store_of : Reach → Store
store_of r = record { a = r.c0; g = g_of r; content = r.content }

takes : (r : Reach) (i : ℕ) → Passing r i → {t : Taken} → as_released t ≡ store_call (store_of r) i → t ≡ taken (store_of r) i
takes r i h = store_takes (store_of r) i (record { a_in = h.c0_most; g_in = h.g_most; inflow_in = h.inflow_most; content_in = h.content_most })

pub unwrap-requires : goal.unwrap-requires
unwrap-requires c = unwraps (ap (λ (t : Taken). t.outflow) (takes _ _ c.requires c.take-taken.ensures.answers))

pub returns : goal.returns
returns c =
    let is = takes _ _ c.requires c.take-taken.ensures.answers in
    let r = c.args.self.now in
    let out = unwrapped (ap (λ (t : Taken). t.outflow) is) c.unwrap.ensures in
    (ap (λ (t : Taken). record { c0 = r.c0; c1 = r.c1; next = r.next; content = t.store.content }) is, out)
