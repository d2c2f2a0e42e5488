-- Lists of inflows into one store: its shares stay, and what an inflow that is not refused finds and leaves. Assumes nothing.
use mathlib.Core.Path.{◌≡◌, refl, ap, ◌∙◌}
use Prim.Native.Nat.{ℕ, ◌≤◌}
use native.Mathlib.Omega.{arith}
use Rattle.std.specs.Prelude.{List, [], ◌∷◌}
use Rattle.common.specs.Shares.{one}
use Rattle.common.proofs.Limits.{by_test}
use Rattle.curve.specs.declared.store.Store.{Store}
use Rattle.curve.specs.Store.{content, store_in, Released, store_call}
use Rattle.curve.specs.Stray.{after}
use Rattle.curve.proofs.store.StoreLaws.{StoreIn, store_accepts, store_limits}

not_refused : (t : Store) (i : ℕ) → (store_call t i).number ≡ 0 → StoreIn t i
unfolding store_call
not_refused t i = by_test (λ (r : Released). r.number ≡ 0 → StoreIn t i) (store_in t i) (λ is _. store_limits t i is) (λ _ h. absurd (omega (arith, h)))

call_shares : (t : Store) (i : ℕ) → ((store_call t i).store.a ≡ t.a) × ((store_call t i).store.g ≡ t.g)
unfolding store_call
call_shares t i = by_test (λ (r : Released). (r.store.a ≡ t.a) × (r.store.g ≡ t.g)) (store_in t i) (λ _. (refl, refl)) (λ _. (refl, refl))

pub after_shares : (s : Store) (l : List ℕ) → ((after s l).a ≡ s.a) × ((after s l).g ≡ s.g)
unfolding after
after_shares s [] = (refl, refl)
after_shares s (i ∷ l) =
    let c = call_shares (after s l) i in
    let before = after_shares s l in
    (c.0 ∙ before.0, c.1 ∙ before.1)

-- What is right of an inflow i, after the inflows l, that is not refused.
pub record Accepted (s : Store) (i : ℕ) (l : List ℕ) : Type 0 where
  pub a_in : s.a ≤ one
  pub g_in : s.g ≤ one
  pub content_is : (after s (i ∷ l)).content ≡ content s.a s.g (after s l).content i

pub accepted : (s : Store) (i : ℕ) (l : List ℕ) → (store_call (after s l) i).number ≡ 0 → Accepted s i l
unfolding after
accepted s i l none =
    let t = after s l in
    let shares = after_shares s l in
    let inside = not_refused t i none in
    record {
      a_in = omega (arith, inside.a_in, shares.0);
      g_in = omega (arith, inside.g_in, shares.1);
      content_is = ap (λ (r : Released). r.store.content) (store_accepts t i inside)
          ∙ ap (λ (a : ℕ). content a t.g t.content i) shares.0
          ∙ ap (λ (g : ℕ). content s.a g t.content i) shares.1;
    }
