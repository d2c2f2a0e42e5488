-- An arrival: what holds before each place that is kept is looked at, and what it comes to. Assumes nothing.
use mathlib.Core.Path.{◌≡◌, refl, sym, ap, ◌∙◌}
use mathlib.Core.Bool.{Bool, true, false, ◌&&◌}
use mathlib.Core.List.{List, [], ◌∷◌, ◌++◌, map}
use Prim.Native.Nat.{ℕ, suc, ◌+◌, ◌-◌, ◌^◌, ◌≤◌, ◌<◌}
use native.Mathlib.Omega.{arith}
use lib.ListN.{length, get_or, set, take, drop, replicate, length-append}
use lib.Seq.{set-append_seam}
use Rattle.std.specs.List.{filter}
use Rattle.std.proofs.lemmas.List.{append_assoc, map-append, take_all, take_more, get_or-take}
use Rattle.common.proofs.Limits.{both}
use Rattle.common.proofs.amounts.AmountLaws.{UpTo, up_to_append, get_or_within}
use Rattle.common.proofs.Loops.{Judging, judge_begin, judge_turn, judge_stop, judge_end, Gathering, gather_begin, gather_take, gather_leave, gather_end}
use Rattle.window.specs.declared.Kept.{Kept}
use Rattle.window.specs.declared.Window.{Window}
use Rattle.window.specs.Window.{most, blank, keeping, kept_of, volumes, older, stays, arrived, falls, fits, is_reached}
use Rattle.window.specs.Arrivals.{Reached}
use Rattle.window.proofs.UnexceededLaws.{at_age}
use Rattle.window.proofs.RecordLaws.{CountsIn, kept_keeping, fits_limits, count_is, kept_young}
use Rattle.window.proofs.ArrivalLaws.{arrived_most, passes_reached}

-- ---- one more

-- with one more
abbrev pub added : Window → Kept → Window
added w k = record { n = w.n; count = w.count + 1; kept = set w.kept w.count k }

added_keeping : (n : ℕ) (l : List Kept) (k : Kept) → length l < most → added (keeping n l) k ≡ keeping n (l ++ (k ∷ []))
added_keeping n l k h =
    let one : length (l ++ (k ∷ [])) ≡ length l + 1 = length-append l (k ∷ []) in
    let free : most - length l ≡ suc (most - (length l + 1)) = omega arith in
    rw (one, free)
    (ap (λ (m : List Kept). record { n = n; count = length l + 1; kept = m })
    (set-append_seam l blank (replicate (most - (length l + 1)) blank) k ∙ sym (append_assoc l (k ∷ []) (replicate (most - (length l + 1)) blank))))

-- ---- the places in turn

-- i of those kept have been looked at
pub record Arriving (w : Window) (v i : ℕ) (next : Window) : Type 0 where
  pub long : length w.kept ≡ most
  pub fitting : fits w ≡ true
  pub judging : Judging falls (kept_of w) i
  pub gathering : Gathering (stays w.n v) older (kept_of w) i (kept_of next)
  pub shaped : next ≡ keeping w.n (kept_of next)
  pub volumes_fit : UpTo (2 ^ 64 - 1) (volumes (take i (kept_of w)))

module _ {w : Window} {v : ℕ} where
  pub arriving_begin : {next : Window} → length w.kept ≡ most → fits w ≡ true → next ≡ keeping w.n [] → Arriving w v 0 next
  arriving_begin long t e = rw e (record { long = long; fitting = t; judging = judge_begin; gathering = gather_begin; shaped = refl; volumes_fit = tt })

  module _ {i : ℕ} {next : Window} (s : Arriving w v i next) where
    pub counts : CountsIn w
    counts = fits_limits w s.fitting

    count_below : length (kept_of next) < most → next.count < most
    count_below h = rw s.shaped h

    module _ (more : i < w.count) where
      here : i < length (kept_of w)
      here = omega (arith, count_is w s.long s.fitting)

      pub free : next.count < most
      free = count_below (omega (arith, counts.count_most, s.gathering.few))

      module _ {r : Bool} (e : falls (drop i (kept_of w)) ≡ r && falls (drop (i + 1) (kept_of w))) where
        pub arriving_stop : r ≡ false → is_reached w ≡ false
        unfolding is_reached
        arriving_stop f = rw (s.fitting, judge_stop s.judging e f)

        module _ {k : Kept} (is : k ≡ get_or w.kept i blank) (t : r ≡ true) (fit : k.volume < 2 ^ 64) where
          place_is : k ≡ get_or (kept_of w) i k
          place_is = is ∙ get_or_within w.kept i blank k (omega (arith, s.long, counts.count_most)) ∙ sym (get_or-take w.count w.kept i k more)

          one_fits : UpTo (2 ^ 64 - 1) (volumes (take (i + 1) (kept_of w)))
          one_fits =
              let l = kept_of w in
              let more_of = take_more l i k here ∙ ap (λ (x : Kept). take i l ++ (x ∷ [])) (sym place_is) in
              rw (ap volumes more_of ∙ map-append (λ (x : Kept). x.volume) (take i l) (k ∷ []))
              (up_to_append (2 ^ 64 - 1) (volumes (take i l)) (k.volume ∷ []) s.volumes_fit (omega arith, tt))

          pub arriving_take : {after : Window} → stays w.n v k ≡ true → after ≡ added next (older k) → Arriving w v (i + 1) after
          arriving_take {after} u a =
              let is : after ≡ keeping w.n (kept_of next ++ (older k ∷ [])) =
              a ∙ ap (λ (x : Window). added x (older k)) s.shaped ∙ added_keeping w.n (kept_of next) (older k) (omega (arith, s.gathering.few, here, count_is w s.long s.fitting, counts.count_most)) in
              rw is
              (record {
                long = s.long;
                fitting = s.fitting;
                judging = judge_turn s.judging e t;
                gathering = rw (kept_keeping w.n (kept_of next ++ (older k ∷ []))) (gather_take s.gathering here place_is u);
                shaped = rw (kept_keeping w.n (kept_of next ++ (older k ∷ []))) refl;
                volumes_fit = one_fits;
              })

          pub arriving_leave : stays w.n v k ≡ false → Arriving w v (i + 1) next
          arriving_leave u =
              record { long = s.long; fitting = s.fitting; judging = judge_turn s.judging e t; gathering = gather_leave s.gathering here place_is u; shaped = s.shaped; volumes_fit = one_fits }

    -- all have been looked at
    module _ (all : w.count ≤ i) where
      falls_all : falls (kept_of w) ≡ true
      unfolding falls
      falls_all = judge_end s.judging (omega (arith, count_is w s.long s.fitting)) refl

      passes : is_reached w ≡ true
      unfolding is_reached
      passes = both s.fitting falls_all

      pub arriving_reached : Reached w
      arriving_reached =
          passes_reached w s.long (rw (take_all i (kept_of w) (omega (arith, count_is w s.long s.fitting))) at s.volumes_fit) passes

      -- the new one is put behind them
      kept_is : kept_of next ≡ map older (filter (stays w.n v) (kept_of w))
      kept_is = gather_end s.gathering (omega (arith, count_is w s.long s.fitting))

      room : length (kept_of next) < most
      unfolding arrived
      room =
          let few = arrived_most w.n v (kept_of w) counts.n_least (kept_young w s.long s.fitting) falls_all in
          omega (arith, ap length kept_is, counts.n_most, few, length-append (map older (filter (stays w.n v) (kept_of w))) (at_age v 0 ∷ []))

      pub last_free : next.count < most
      last_free = count_below room

      pub arriving_end : {after : Window} → after ≡ added next (at_age v 0) → after ≡ keeping w.n (arrived w.n (kept_of w) v)
      unfolding arrived
      arriving_end {after} a =
          a ∙ ap (λ (x : Window). added x (at_age v 0)) s.shaped ∙ added_keeping w.n (kept_of next) (at_age v 0) room
          ∙ ap (λ (l : List Kept). keeping w.n (l ++ (at_age v 0 ∷ []))) kept_is
