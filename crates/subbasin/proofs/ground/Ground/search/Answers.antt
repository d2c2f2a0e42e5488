use mathlib.Core.Path.{◌≡◌, sym, ap, ◌∙◌}
use mathlib.Core.Bool.{true, false}
use Prim.Native.Nat.{ℕ, ◌+◌, ◌-◌, ◌≤◌, ◌<◌}
use native.Mathlib.Omega.{arith}
use lib.Dec.{ltb}
use borrow.Author.Tests.{lt-ltb, ltb-true}
use Rattle.common.specs.Loops.{run}
use Rattle.common.proofs.Loops.{carry_begin, carry_turn, try_begin, try_turn, try_end, every_at}
use Rattle.subbasin.specs.declared.record.Parameters.{Parameters}
use Rattle.subbasin.specs.declared.walk.Walk.{Walk}
use Rattle.subbasin.specs.Soil.{wm}
use Rattle.subbasin.specs.Yields.{Answers}
use Rattle.subbasin.specs.Workers.{SoilIn, unwalked, walk_at, walked_to, net_rain, unsoaked}
use Rattle.subbasin.proofs.walk.WalkLaws.{walked, walked_at, walked_in, walk_most}
use Rattle.subbasin.proofs.yields.YieldsLaws.{found, none_found}
use Rattle.subbasin.proofs.ground.Ground.search.Invariants.{Searching}
use Rattle.subbasin.proofs.ground.Ground.search.Goals as goal

begins : (p : Parameters) (w e wanted : ℕ) (from : Walk) {k : ℕ} → k ≡ 0 → Searching p w e wanted from k from
begins p w e wanted from first = rw first (record { walking = carry_begin; trying = try_begin })

module _ (p : Parameters) (w e wanted k : ℕ) (soil : SoilIn p) (fits : w ≤ wm p) {from walk : Walk} (start : from ≡ unwalked w)
    (h : Searching p w e wanted from k walk) where
  so_far : walk ≡ walked p w e k
  so_far = h.walking.so_far ∙ ap (λ (x : Walk). run (λ i y. walked_to p (net_rain e i) y) k x) start

  whole_in : walk.whole ≤ wm p
  whole_in = rw so_far (walked_in p w e k fits)

  module _ {next : Walk} {mm : ℕ} (here : mm ≡ k) (on : next ≡ walked_to p (net_rain e mm) walk) where
    on_here : next ≡ walked_to p (net_rain e k) walk
    on_here = rw (← here) on

    next_is : next ≡ walk_at p w (net_rain e k)
    unfolding run
    next_is = on_here ∙ ap (walked_to p (net_rain e k)) so_far ∙ walked_at p w e k

    pe_fits : k ≤ 1000 → next.pe + w ≤ 1500000
    pe_fits l = rw next_is (omega (arith, soil))

    w_fits : next.w ≤ next.pe + w
    w_fits = rw next_is (walk_most p w (net_rain e k) fits)

    left_is : next.pe + w - next.w ≡ unsoaked p w e k
    unfolding unsoaked
    left_is = rw next_is

    again : {j : ℕ} → k < 1001 → next.pe + w - next.w < wanted → j ≡ k + 1 → Searching p w e wanted from j next
    again l less on-by-one =
        rw on-by-one
        (record {
          walking = carry_turn h.walking l on_here;
          trying = try_turn h.trying l (lt-ltb (unsoaked p w e k) wanted (omega (arith, left_is, less)));
        })

    does : k ≤ 1000 → wanted ≤ next.pe + w - next.w → Answers 0 (unsoaked p w e) wanted (record { number = 0; place = 0; none = false; rain = k })
    does l enough = found (unsoaked p w e) wanted k l (omega (arith, left_is, enough))

  none_does : 1001 ≤ k → Answers 0 (unsoaked p w e) wanted (record { number = 0; place = 0; none = true; rain = 0 })
  none_does l =
      none_found (unsoaked p w e) wanted
      (λ j b. ltb-true _ _ (every_at (λ i. ltb (unsoaked p w e i) wanted) 1001 (sym (try_end h.trying l)) j (omega arith)))

pub loop-k-init : goal.loop-k-init
loop-k-init c = begins _ _ _ _ _ (omega arith)

pub go_on-walk-requires : goal.go_on-walk-requires
go_on-walk-requires c = (
  whole_in _ _ _ _ _ c.args.self.now.soil_in c.requires c.begin-walk.ensures c.loop-k.invariant,
  omega (arith, c.loop-k-test.true),
)

pub overflow_add-walk : goal.overflow_add-walk
overflow_add-walk c =
    omega (
      arith,
      pe_fits _ _ _ _ _ c.args.self.now.soil_in c.requires c.begin-walk.ensures c.loop-k.invariant (omega arith) c.go_on-walk.ensures
          (omega (arith, c.loop-k-test.true)),
    )

pub overflow_sub-walk : goal.overflow_sub-walk
overflow_sub-walk c =
    w_fits _ _ _ _ _ c.args.self.now.soil_in c.requires c.begin-walk.ensures c.loop-k.invariant
    (omega arith) c.go_on-walk.ensures

pub returns-then-wanted-walk : goal.returns-then-wanted-walk
returns-then-wanted-walk c =
    does _ _ _ _ _ c.args.self.now.soil_in c.requires c.begin-walk.ensures c.loop-k.invariant
    (omega arith) c.go_on-walk.ensures (omega (arith, c.loop-k-test.true)) c.if-wanted-walk.true

pub loop-k-preserved : goal.loop-k-preserved
loop-k-preserved c =
    again _ _ _ _ _ c.args.self.now.soil_in c.requires c.begin-walk.ensures c.loop-k.invariant
    (omega arith) c.go_on-walk.ensures (omega (arith, c.loop-k-test.true)) c.if-wanted-walk.false (omega arith)

pub returns : goal.returns
returns c =
    none_does _ _ _ _ _ c.args.self.now.soil_in c.requires c.begin-walk.ensures c.loop-k.invariant (omega (arith, c.loop-k-test.false))
