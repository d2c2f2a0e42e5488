-- The store law: it conserves, and the bounds that it keeps, once for all shares; its call is accepted inside its limits and refused
-- outside. Assumes nothing.
use mathlib.Core.Path.{◌≡◌, ap, ◌∙◌}
use mathlib.Core.Bool.{true, ◌&&◌}
use Prim.Native.Nat.{ℕ, ◌+◌, ◌-◌, ◌*◌, ◌≤◌, ◌<◌}
use native.Mathlib.Nat.{le_refl, mul-le-mul_left, mul-le-mul_right}
use native.Mathlib.Omega.{arith}
use lib.Dec.{leb}
use borrow.Author.Tests.{le-leb, leb-true}
use Rattle.std.specs.Prelude.{Result, Ok, Err}
use Rattle.common.specs.Shares.{one}
use Rattle.common.specs.declared.refusal.Refusal.{Refusal}
use Rattle.common.proofs.Limits.{refuted, parts}
use Rattle.common.proofs.Refusals.{number_some}
pub use Rattle.curve.specs.Workers.{StoreIn}
use Rattle.curve.specs.declared.store.Store.{Store}
use Rattle.curve.specs.declared.store.Taken.{Taken}
use Rattle.curve.specs.Store.{outflow, content, most_inflow, most_content, store_in, Released, released, kept, released_of, as_released, store_call}

module _ {a g : ℕ} (a-le : a ≤ one) (g-le : g ≤ one) where
  -- a store lets out no more than it has
  pub store_within : (v i : ℕ) → outflow a g v i ≤ v + i
  unfolding outflow
  store_within v i = omega (arith, mul-le-mul_right i a-le, mul-le-mul_right v g-le)

  -- content after and outflow are content before and inflow
  pub store_conserves : (v i : ℕ) → content a g v i + outflow a g v i ≡ v + i
  unfolding content
  store_conserves v i = omega (arith, store_within v i)

-- the number added before the division, so that it goes to nearest with halves up
abbrev pub half : ℕ
half = 32768

-- the two sides of the division
record Rounded (a g v i o : ℕ) : Type 0 where
  lower : one * o ≤ a * i + g * v + half
  upper : a * i + g * v + half < one * o + one

rounded : (a g v i : ℕ) → Rounded a g v i (outflow a g v i)
unfolding outflow
rounded a g v i = omega arith

-- what the rounding can leave behind, in parts of 65,536
abbrev pub slack : ℕ
slack = 65535 - half

-- over plain numbers, with a' and g' the rest of the shares
bounded : (a a' g g' v i o v' j b : ℕ) → g + g' ≡ one → one * v' ≤ g' * v + a' * i + slack → Rounded a g v i o → i ≤ j → g * v ≤ b → a' * j + slack ≤ b
    → (g * v' ≤ b) × (one * o ≤ a * j + b + half)
bounded a a' g g' v i o v' j b eg left r hi hv hb =
    let inflow : a' * i ≤ a' * j = mul-le-mul_left a' hi in
    let scaled : g * (one * v') ≤ g * (g' * v + b) = mul-le-mul_left g (omega arith) in
    let stock : g' * (g * v) ≤ g' * b = mul-le-mul_left g' hv in
    (omega (arith, ap (λ (x : ℕ). x * b) eg), omega (arith, r.lower, mul-le-mul_left a hi))

shares : (a a' j : ℕ) → a + a' ≡ one → a * j + a' * j ≡ one * j
shares a a' j e = omega (arith, ap (λ (x : ℕ). x * j) e)

module _ {a g : ℕ} (a-le : a ≤ one) (g-le : g ≤ one) where
  -- a store keeps the rest of its shares, but for what the rounding adds or takes
  pub store_rounds : (v i : ℕ) → ((one - g) * v + (one - a) * i ≤ one * content a g v i + half) × (one * content a g v i ≤ (one - g) * v + (one - a) * i + slack)
  store_rounds v i =
      let r = rounded a g v i in
      let keeps = store_conserves a-le g-le v i in
      let ea : a + (one - a) ≡ one = omega (arith, a-le) in
      let eg : g + (one - g) ≡ one = omega (arith, g-le) in
      (omega (arith, r.lower, keeps, ap (λ (x : ℕ). x * i) ea, ap (λ (x : ℕ). x * v) eg), omega (arith, r.upper, keeps, ap (λ (x : ℕ). x * i) ea, ap (λ (x : ℕ). x * v) eg))

  -- the store lemma: while no inflow is above J, a bound B on g × V that covers J stays, and holds the outflow down
  pub store_bounded : (v i j b : ℕ) → i ≤ j → g * v ≤ b → (one - a) * j + slack ≤ b
      → (g * content a g v i ≤ b) × (one * outflow a g v i ≤ a * j + b + half)
  store_bounded v i j b =
      bounded a (one - a) g (one - g) v i (outflow a g v i) (content a g v i) j b (omega arith)
      (store_rounds v i).1 (rounded a g v i)

  -- with the least such B a store never lets out more than the most that came in
  pub store_passes : (v i j : ℕ) → i ≤ j → g * v ≤ (one - a) * j + slack
      → (g * content a g v i ≤ (one - a) * j + slack) × (outflow a g v i ≤ j)
  store_passes v i j hi hv =
      let r = store_bounded v i j ((one - a) * j + slack) hi hv (le_refl ((one - a) * j + slack)) in
      (r.0, omega (arith, r.1, shares a (one - a) j (omega arith)))

  -- where both shares are above 0, a content that is once at most 65,536 × J never rises above that
  pub store_ceiling : (v i j b : ℕ) → 0 < a → 0 < g → i ≤ j → v ≤ b → one * j ≤ b → content a g v i ≤ b
  store_ceiling v i j b za zg hi hv hb =
      let r = rounded a g v i in
      let more : ¬ (b < content a g v i) =
      λ l. omega (arith, r.upper, store_conserves a-le g-le v i, mul-le-mul_right {m = 1} {n = a} i za, mul-le-mul_right {m = 1} {n = g} v zg) in
      omega arith

pub store_accepts : (s : Store) (i : ℕ) → StoreIn s i → store_call s i ≡ released s i
unfolding store_call store_in
store_accepts s i h = simp (le-leb _ _ h.a_in, le-leb _ _ h.g_in, le-leb _ _ h.inflow_in, le-leb _ _ h.content_in)

pub store_limits : (s : Store) (i : ℕ) → store_in s i ≡ true → StoreIn s i
unfolding store_in
store_limits s i h =
    let d = parts (leb s.a one && leb s.g one && leb i most_inflow) (leb s.content most_content) h in
    let c = parts (leb s.a one && leb s.g one) (leb i most_inflow) d.0 in
    let b = parts (leb s.a one) (leb s.g one) c.0 in
    record { a_in = leb-true _ _ b.0; g_in = leb-true _ _ b.1; inflow_in = leb-true _ _ c.1; content_in = leb-true _ _ d.1 }

pub store_refuses : (s : Store) (i : ℕ) → (StoreIn s i → ⊥) → store_call s i ≡ kept s
unfolding store_call
store_refuses s i n = rw (refuted (store_in s i) (λ h. n (store_limits s i h)))

-- an accepted answer: the store after its inflow, and its outflow as Ok
abbrev pub taken : Store → ℕ → Taken
taken s i = record { store = (released s i).store; outflow = Ok (released s i).outflow }

pub store_takes : (s : Store) (i : ℕ) {t : Taken} → StoreIn s i → as_released t ≡ store_call s i → t ≡ taken s i
store_takes s i {t} h called = go t.store t.outflow (called ∙ store_accepts s i h)
  where
    go : (st : Store) (o : Result ℕ Refusal) → released_of st o ≡ released s i → ◌≡◌ {A = Taken} (record { store = st; outflow = o }) (taken s i)
    go st (Ok o) is = ap (λ (r : Released). record { store = r.store; outflow = Ok r.outflow }) is
    go st (Err why) is = absurd (omega (arith, number_some why, ap (λ (r : Released). r.number) is))
