-- Volumes that no later one equals or exceeds, each with its age: what one more makes of them, which are of the last n, and that the first is
-- the greatest of all. Assumes nothing.
use mathlib.Core.Path.{◌≡◌, refl, sym, ap, ◌∙◌}
use mathlib.Core.Bool.{Bool, true, false, true≢false, cond, ◌&&◌}
use mathlib.Core.List.{List, [], ◌∷◌, ◌++◌, map}
use Prim.Native.Nat.{ℕ, suc, ◌+◌, ◌-◌, ◌≤◌, ◌<◌, max}
use native.Mathlib.Omega.{arith}
use lib.Dec.{ltb}
use lib.ListN.{length, get_or, length-append}
use borrow.Author.Tests.{lt-ltb, eq-eqb, ltb-true, ltb-false}
use Rattle.std.specs.Cmp.{both_ways}
use Rattle.std.specs.List.{list_all, filter}
use Rattle.std.proofs.lemmas.List.{drop_all}
use Rattle.std.proofs.lemmas.List.Folds.{list_all-append}
use Rattle.common.proofs.Limits.{both, parts}
use Rattle.window.specs.declared.Kept.{Kept}
use Rattle.window.specs.Window.{blank, volumes, older, stays, arrived, falls}
use Rattle.window.specs.Arrivals.{last, unexceeded, greatest_of}

-- every volume is below this one
abbrev pub below : ℕ → List ℕ → Bool
below x l = list_all (λ later. ltb later x) l

abbrev pub at_age : ℕ → ℕ → Kept
at_age x age = record { volume = x; age = age }

-- the age is the number of later ones
unfoldable pub aged : List ℕ → List Kept
aged [] = []
aged (x ∷ l) = cond (below x l) (at_age x (length l) ∷ aged l) (aged l)

pub aged_volumes : (l : List ℕ) → volumes (aged l) ≡ unexceeded l
unfolding aged unexceeded
aged_volumes [] = refl
aged_volumes (x ∷ l) = go (below x l) (aged_volumes l)
  where
    go : (b : Bool) → volumes (aged l) ≡ unexceeded l
        → volumes (cond b (at_age x (length l) ∷ aged l) (aged l)) ≡ cond b (x ∷ unexceeded l) (unexceeded l)
    go true e = ap (λ (r : List ℕ). x ∷ r) e
    go false e = e

-- ---- one more

aged_more : (l : List ℕ) (v : ℕ) → aged (l ++ (v ∷ [])) ≡ map older (filter (λ k. ltb v k.volume) (aged l)) ++ (at_age v 0 ∷ [])
unfolding aged
aged_more [] v = refl
aged_more (x ∷ l) v =
    rw (list_all-append (λ later. ltb later x) l (v ∷ []), length-append l (v ∷ []))
    (go (below x l) (ltb v x) refl (aged_more l v))
  where
    go : (b c : Bool) → ltb v x ≡ c → aged (l ++ (v ∷ [])) ≡ map older (filter (λ k. ltb v k.volume) (aged l)) ++ (at_age v 0 ∷ [])
        → cond (b && (c && true)) (at_age x (length l + 1) ∷ aged (l ++ (v ∷ []))) (aged (l ++ (v ∷ [])))
        ≡ map older (filter (λ k. ltb v k.volume) (cond b (at_age x (length l) ∷ aged l) (aged l))) ++ (at_age v 0 ∷ [])
    go true true e h = rw (e, h)
    go true false e h = rw (e, h)
    go false c e h = h

-- ---- the last n

aged_last : (n : ℕ) (l : List ℕ) → filter (λ k. ltb k.age n) (aged l) ≡ aged (last n l)
unfolding aged
aged_last n [] = ap aged (sym (drop_all (0 - n) [] (omega arith)))
aged_last n (x ∷ l) = go (ltb (length l) n) refl (below x l) refl (aged_last n l)
  where
    go : (c : Bool) → ltb (length l) n ≡ c → (b : Bool) → below x l ≡ b → filter (λ k. ltb k.age n) (aged l) ≡ aged (last n l)
        → filter (λ k. ltb k.age n) (cond b (at_age x (length l) ∷ aged l) (aged l)) ≡ aged (last n (x ∷ l))
    go true e b be h =
        let all : suc (length l) - n ≡ 0 = omega (arith, ltb-true (length l) n e) in
        let rest : length l - n ≡ 0 = omega (arith, ltb-true (length l) n e) in
        rw (all, be) (within b (rw rest at h))
      where
        within : (b : Bool) → filter (λ k. ltb k.age n) (aged l) ≡ aged l
            → filter (λ k. ltb k.age n) (cond b (at_age x (length l) ∷ aged l) (aged l)) ≡ cond b (at_age x (length l) ∷ aged l) (aged l)
        within true h = rw (e, h)
        within false h = h
    go false e b be h =
        let past : suc (length l) - n ≡ suc (length l - n) = omega (arith, ltb-false (length l) n e) in
        rw past (left b h)
      where
        left : (b : Bool) → filter (λ k. ltb k.age n) (aged l) ≡ aged (last n l)
            → filter (λ k. ltb k.age n) (cond b (at_age x (length l) ∷ aged l) (aged l)) ≡ aged (last n l)
        left true h = rw e h
        left false h = h

-- ---- what stays as a volume arrives

module _ (n v : ℕ) where
  module _ (k : Kept) where
    pub stays_young : stays n v k ≡ true → k.age + 1 < n
    unfolding stays
    stays_young t = grind arith

    pub stays_above : stays n v k ≡ true → v < k.volume
    unfolding stays
    stays_above t = grind arith

    stays_in : k.age + 1 < n → v < k.volume → stays n v k ≡ true
    unfolding stays
    stays_in y a = grind arith

    stays_is : stays n v k ≡ ltb (k.age + 1) n && ltb v k.volume
    stays_is =
        both_ways (stays n v k) (ltb (k.age + 1) n && ltb v k.volume)
        (λ t. both (lt-ltb (k.age + 1) n (stays_young t)) (lt-ltb v k.volume (stays_above t)))
        (λ t. let p = parts (ltb (k.age + 1) n) (ltb v k.volume) t in stays_in (ltb-true (k.age + 1) n p.0) (ltb-true v k.volume p.1))

module _ (n v : ℕ) (some : 1 ≤ n) where
  -- it is the same whether the oldest leave before or after
  leaving : (l : List Kept)
      → map older (filter (stays n v) (filter (λ k. ltb k.age n) l)) ++ (at_age v 0 ∷ [])
      ≡ filter (λ k. ltb k.age n) (map older (filter (λ k. ltb v k.volume) l) ++ (at_age v 0 ∷ []))
  leaving [] = rw (lt-ltb 0 n (omega arith))
  leaving (k ∷ l) = go (ltb k.age n) refl (ltb v k.volume) refl (ltb (k.age + 1) n) refl (leaving l)
    where
      go : (a : Bool) → ltb k.age n ≡ a → (b : Bool) → ltb v k.volume ≡ b → (c : Bool) → ltb (k.age + 1) n ≡ c
          → map older (filter (stays n v) (filter (λ k. ltb k.age n) l)) ++ (at_age v 0 ∷ [])
          ≡ filter (λ k. ltb k.age n) (map older (filter (λ k. ltb v k.volume) l) ++ (at_age v 0 ∷ []))
          → map older (filter (stays n v) (filter (λ k. ltb k.age n) (k ∷ l))) ++ (at_age v 0 ∷ [])
          ≡ filter (λ k. ltb k.age n) (map older (filter (λ k. ltb v k.volume) (k ∷ l)) ++ (at_age v 0 ∷ []))
      go true p true q true r h = rw (p, stays_is n v k, q, r, h)
      go true p true q false r h = rw (p, stays_is n v k, q, r, h)
      go true p false q true r h = rw (p, stays_is n v k, q, r, h)
      go true p false q false r h = rw (p, stays_is n v k, q, r, h)
      go false p true q true r h = absurd (omega (arith, ltb-true (k.age + 1) n r, ltb-false k.age n p))
      go false p true q false r h = rw (p, q, r, h)
      go false p false q c r h = rw (p, q, h)

  pub arrived_aged : (l : List ℕ) → arrived n (aged (last n l)) v ≡ aged (last n (l ++ (v ∷ [])))
  unfolding arrived
  arrived_aged l =
      rw (← (aged_last n l)) (leaving (aged l) ∙ ap (filter (λ k. ltb k.age n)) (sym (aged_more l v)) ∙ aged_last n (l ++ (v ∷ [])))

-- ---- the greatest

below_greatest : (x : ℕ) (l : List ℕ) → below x l ≡ true → greatest_of l ≤ x
unfolding greatest_of
below_greatest x [] t = omega arith
below_greatest x (y ∷ l) t =
    let p = parts (ltb y x) (below x l) t in
    omega (arith, ltb-true y x p.0, below_greatest x l p.1)

not_below : (x : ℕ) (l : List ℕ) → below x l ≡ false → x ≤ greatest_of l
unfolding greatest_of
not_below x [] t = absurd (true≢false t)
not_below x (y ∷ l) t = go (ltb y x) refl t (not_below x l)
  where
    go : (b : Bool) → ltb y x ≡ b → b && below x l ≡ false → (below x l ≡ false → x ≤ greatest_of l) → x ≤ max y (greatest_of l)
    go true e t h = omega (arith, h t)
    go false e t h = omega (arith, ltb-false y x e)

pub first_greatest : (l : List ℕ) → get_or (unexceeded l) 0 0 ≡ greatest_of l
unfolding unexceeded greatest_of
first_greatest [] = refl
first_greatest (x ∷ l) = go (below x l) refl (first_greatest l)
  where
    go : (b : Bool) → below x l ≡ b → get_or (unexceeded l) 0 0 ≡ greatest_of l → get_or (cond b (x ∷ unexceeded l) (unexceeded l)) 0 0 ≡ max x (greatest_of l)
    go true e h = omega (arith, below_greatest x l e)
    go false e h = omega (arith, not_below x l e, h)

-- ---- they fall

-- of the first of them, where there is one
abbrev Leading : List ℕ → List Kept → Type 0
Leading l [] = length l ≡ 0
Leading l (k ∷ r) = (k.age < length l) × ((x : ℕ) → below x l ≡ true → k.volume < x)

below_none : (x : ℕ) (l : List ℕ) → length l ≡ 0 → below x l ≡ true
below_none x [] h = refl
below_none x (y ∷ l) h = absurd (omega arith)

leading : (l : List ℕ) → Leading l (aged l)
unfolding aged
leading [] = refl
leading (x ∷ l) = go (below x l) refl (aged l) (leading l)
  where
    go : (b : Bool) → below x l ≡ b → (m : List Kept) → Leading l m → Leading (x ∷ l) (cond b (at_age x (length l) ∷ m) m)
    go true e m h = (omega arith, λ y t. ltb-true x y (parts (ltb x y) (below y l) t).0)
    go false e [] h = absurd (true≢false (sym (below_none x l h) ∙ e))
    go false e (k ∷ r) h = (omega (arith, h.0), λ y t. h.1 y (parts (ltb x y) (below y l) t).1)

pub falls_aged : (l : List ℕ) → falls (aged l) ≡ true
unfolding aged falls
falls_aged [] = refl
falls_aged (x ∷ l) = go (below x l) refl (aged l) (leading l) (falls_aged l)
  where
    go : (b : Bool) → below x l ≡ b → (m : List Kept) → Leading l m → falls m ≡ true → falls (cond b (at_age x (length l) ∷ m) m) ≡ true
    go true e [] h f = eq-eqb (length l) 0 h
    go true e (k ∷ r) h f = both (both (lt-ltb k.volume x (h.1 x e)) (lt-ltb k.age (length l) h.0)) f
    go false e m h f = f

pub aged_young : (n : ℕ) (l : List ℕ) → 1 ≤ n → length l ≤ n → (get_or (aged l) 0 blank).age < n
aged_young n l some h = go (aged l) (leading l)
  where
    go : (m : List Kept) → Leading l m → (get_or m 0 blank).age < n
    go [] e = omega arith
    go (k ∷ r) e = omega (arith, e.0)

pub aged_most : (l : List ℕ) → length (aged l) ≤ length l
unfolding aged
aged_most [] = omega arith
aged_most (x ∷ l) = go (below x l) (aged_most l)
  where
    go : (b : Bool) → length (aged l) ≤ length l → length (cond b (at_age x (length l) ∷ aged l) (aged l)) ≤ suc (length l)
    go true h = omega arith
    go false h = omega arith
