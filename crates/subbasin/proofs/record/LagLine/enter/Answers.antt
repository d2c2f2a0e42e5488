-- `subbasin::record::LagLine::enter` meets its contract: what is filled up with zeros is t and the first 14 of the amounts. Assumes nothing.
use mathlib.Core.Path.{◌≡◌, ap, ◌∙◌}
use mathlib.Core.List.{List, [], ◌∷◌, ◌++◌}
use Prim.Native.Nat.{ℕ, ◌-◌, ◌≤◌}
use native.Mathlib.Omega.{arith}
use lib.ListN.{length, set, take, drop, replicate, length-drop, drop_of_length-le}
use lib.Seq.{length-take-le, take-take}
use borrow.Rule.Slice.PartMut.{post_of, put_mid, Post-is}
use Rattle.std.proofs.Common.{append-nil}
use Rattle.std.specs.List.{copy_within}
use Rattle.subbasin.specs.declared.record.LagLine.{LagLine}
use Rattle.subbasin.specs.Lag.{waiting_after, entered}
use Rattle.subbasin.proofs.record.LagLine.enter.Goals as goal

-- one place on, with t before them
moved : (w : List ℕ) (t : ℕ) → length w ≡ 15 → set (copy_within w 0 14 1) 0 t ≡ take 15 (t ∷ w)
moved [] t n = absurd (omega (arith, n))
moved (x ∷ w) t n = rw (drop_of_length-le (x ∷ w) {i = 15} (omega (arith, n))) (append-nil (take 15 (t ∷ x ∷ w)))

-- nothing stands past the zeros
no_more : (a : ℕ) (xs : List ℕ) → a ≤ 15 → length xs ≡ 15 → post_of a (15 - a) xs ≡ []
no_more a xs h n = Post-is a 15 xs h ∙ drop_of_length-le xs {i = 15} (omega arith)

module _ (w : List ℕ) (t a : ℕ) (h : a ≤ 15) (n : length w ≡ 15) where
  long : length (take 15 (t ∷ w)) ≡ 15
  long = length-take-le 15 (t ∷ w) (omega (arith, n))

  rest : length (take (15 - a) (drop a (take 15 (t ∷ w)))) ≡ 15 - a
  rest = length-take-le (15 - a) (drop a (take 15 (t ∷ w))) (omega (arith, length-drop a (take 15 (t ∷ w)), long))

  filled : {ys zeros : List ℕ} → ys ≡ copy_within w 0 14 1 → zeros ≡ replicate (length (take (15 - a) (drop a (set ys 0 t)))) 0
      → put_mid a (15 - a) (set ys 0 t) zeros ≡ take a (t ∷ w) ++ replicate (15 - a) 0
  filled is e =
      rw (e, is, moved w t n, no_more a (take 15 (t ∷ w)) h long, append-nil, rest)
      (ap (λ (xs : List ℕ). xs ++ replicate (15 - a) 0) (take-take a 15 (t ∷ w) h))

made : (line : LagLine) (t : ℕ) {waits : List ℕ} → waits ≡ waiting_after line t → ◌≡◌ {A = LagLine} (record { lag = line.lag; waiting = waits }) (entered line t)
unfolding entered
made line t e = rw e

pub returns : goal.returns
unfolding waiting_after
returns c = made _ _ (filled _ _ _ (omega (arith, c.requires)) (search) c.copy_within.ensures.after (c.fill.ensures.after (λ y e. e)))
