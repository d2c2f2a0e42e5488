-- The lag line: nothing is lost in it, and what enters leaves L steps later. Assumes nothing.
use mathlib.Core.Path.{◌≡◌, refl, ap, ◌∙◌}
use mathlib.Core.List.{List, [], ◌∷◌}
use Prim.Native.Nat.{ℕ, zero, suc, ◌+◌, ◌-◌, ◌*◌, ◌≤◌, ◌<◌}
use native.Mathlib.Nat.{mul-le-mul_right}
use native.Mathlib.Omega.{arith}
use lib.ListN.{length, get_or, take, drop, replicate, length-append, length-replicate, get_or-append}
use lib.Seq.{length-take-le, split_at, drop_at, get_or-take}
use Rattle.subbasin.specs.declared.record.LagLine.{LagLine}
use Rattle.subbasin.specs.Lag.{in_use, leaving, waiting_after, entered, empty, fed, steps_ago, Lagged}
use Rattle.common.specs.Amounts.{sum}
use Rattle.common.proofs.amounts.AmountLaws.{UpTo, get_or_repeat, length_take_most, sum_append, sum_most, sum_zeros}
use Rattle.common.proofs.amounts.AmountLaws.{up_to_zeros, up_to_append, up_to_take, up_to_drop, up_to_at}

-- a line as 9 allows it: 15 places, and those past the lag are zero
pub record LineIn (line : LagLine) : Type 0 where
  pub lag_most : line.lag ≤ 15
  pub places : length line.waiting ≡ 15
  pub unused : UpTo 0 (drop (in_use line) line.waiting)

pub lag_kept : (line : LagLine) (t : ℕ) → (entered line t).lag ≡ line.lag
unfolding entered
lag_kept line t = refl

-- what leaves and what waits stays below a bound on what entered; and there are never more than 15 amounts
module _ (line : LagLine) (t : ℕ) where
  pub line_bounded : (b : ℕ) → t ≤ b → UpTo b line.waiting → (leaving line t ≤ b) × UpTo b (entered line t).waiting
  unfolding leaving entered waiting_after
  line_bounded b l k = (
    up_to_at b (t ∷ line.waiting) (in_use line) (l, k),
    up_to_append b (take (in_use line) (t ∷ line.waiting)) (replicate (15 - in_use line) 0)
        (up_to_take b (in_use line) (t ∷ line.waiting) (l, k)) (up_to_zeros b (15 - in_use line)),
  )

  pub line_sum_most : (b : ℕ) → line.lag ≤ 15 → t ≤ b → UpTo b line.waiting → sum (entered line t).waiting ≤ 15 * b
  unfolding entered waiting_after
  line_sum_most b k l h =
      let used : List ℕ = take (in_use line) (t ∷ line.waiting) in
      let few : in_use line ≤ 15 = omega arith in
      omega (
        arith,
        sum_append used (replicate (15 - in_use line) 0),
        sum_zeros (15 - in_use line),
        sum_most b used (up_to_take b (in_use line) (t ∷ line.waiting) (l, h)),
        mul-le-mul_right b (length_take_most (in_use line) (t ∷ line.waiting)),
        mul-le-mul_right b few,
      )

module _ (line : LagLine) (h : LineIn line) (t : ℕ) where
  used_length : length (take (in_use line) (t ∷ line.waiting)) ≡ in_use line
  used_length = length-take-le (in_use line) (t ∷ line.waiting) (omega arith)

  pub line_conserves : sum line.waiting + t ≡ sum (entered line t).waiting + leaving line t
  unfolding sum leaving entered waiting_after
  line_conserves =
      let w : List ℕ = line.waiting in
      let l : ℕ = in_use line in
      omega (
        arith,
        ap sum (split_at (t ∷ w) l 0 (omega arith)),
        sum_append (take l (t ∷ w)) (get_or (t ∷ w) l 0 ∷ drop l w),
        sum_most 0 (drop l w) h.unused,
        sum_append (take l (t ∷ w)) (replicate (15 - l) 0),
        sum_most 0 (replicate (15 - l) 0) (up_to_zeros 0 (15 - l)),
      )

  pub line_keeps : LineIn (entered line t)
  unfolding entered waiting_after
  line_keeps =
      let l : ℕ = in_use line in
      record {
        lag_most = h.lag_most;
        places = rw (length-append, used_length, length-replicate) (omega arith);
        unused = rw (drop_at (take l (t ∷ line.waiting)) (replicate (15 - l) 0) l used_length) (up_to_zeros 0 (15 - l));
      }

  -- the places in use hold the amount, then the former amounts
  after_place : (i : ℕ) → i < in_use line → get_or (entered line t).waiting i 0 ≡ get_or (t ∷ line.waiting) i 0
  unfolding entered waiting_after
  after_place i k =
      let l : ℕ = in_use line in
      get_or-append (take l (t ∷ line.waiting)) (replicate (15 - l) 0) 0 i (omega (arith, used_length)) ∙ get_or-take l (t ∷ line.waiting) i 0 k

pub empty_in : (lag : ℕ) → lag ≤ 15 → LineIn (empty lag)
empty_in lag h = record { lag_most = h; places = refl; unused = up_to_drop 0 (in_use (empty lag)) (replicate 15 0) (up_to_zeros 0 15) }

module _ (lag : ℕ) (h : lag ≤ 15) where
  fed_lag : (ts : List ℕ) → (fed lag ts).lag ≡ lag
  unfolding fed entered
  fed_lag [] = refl
  fed_lag (t ∷ ts) = fed_lag ts

  fed_in : (ts : List ℕ) → LineIn (fed lag ts)
  unfolding fed
  fed_in [] = empty_in lag h
  fed_in (t ∷ ts) = line_keeps (fed lag ts) (fed_in ts) t

  -- the places in use hold the amounts that entered, the newest first
  fed_place : (ts : List ℕ) (i : ℕ) → i < in_use (fed lag ts) → get_or (fed lag ts).waiting i 0 ≡ steps_ago i ts
  unfolding fed entered
  fed_place [] i k = get_or_repeat 0 15 i
  fed_place (t ∷ ts) zero k = after_place (fed lag ts) (fed_in ts) t 0 k
  fed_place (t ∷ ts) (suc i) k = after_place (fed lag ts) (fed_in ts) t (suc i) k ∙ fed_place ts i (omega arith)

  oldest_leaves : (t : ℕ) (ts : List ℕ) → leaving (fed lag ts) t ≡ steps_ago (in_use (fed lag ts)) (t ∷ ts)
  unfolding leaving
  oldest_leaves t ts = go (in_use (fed lag ts)) refl
    where
      go : (n : ℕ) → in_use (fed lag ts) ≡ n → get_or (t ∷ (fed lag ts).waiting) n 0 ≡ steps_ago n (t ∷ ts)
      go zero e = refl
      go (suc i) e = fed_place ts i (omega arith)

-- "what leaves is what entered L steps ago (L = 0: itself)"
pub leaves_after_lag : (line : LagLine) (t : ℕ) → line.lag ≤ 15 → Lagged line t (leaving line t)
leaves_after_lag line t h ts e =
    ap (λ (x : LagLine). leaving x t) e ∙ oldest_leaves line.lag h t ts ∙ ap (λ (n : ℕ). steps_ago n (t ∷ ts)) (fed_lag line.lag h ts)
