-- Arrivals into a window just made: what it then keeps and answers, and that the test of a record decides whether making and arrivals leave it.
-- Assumes nothing.
use mathlib.Core.Path.{◌≡◌, refl, sym, ap, ◌∙◌}
use mathlib.Core.Bool.{true, false, true≢false}
use mathlib.Core.List.{List, [], ◌∷◌, ◌++◌}
use Prim.Native.Nat.{ℕ, suc, ◌-◌, ◌^◌, ◌≤◌, ◌<◌}
use native.Mathlib.Omega.{arith}
use lib.ListN.{length, get_or, drop, length-drop}
use Rattle.std.proofs.lemmas.List.{append-nil, append_assoc, drop_all}
use Rattle.std.specs.Prelude.{Ok, Err}
use Rattle.common.specs.declared.refusal.Refusal.{Refusal}
use Rattle.common.specs.declared.refusal.Refusal.TheVariants.{BadWindow}
use Rattle.common.proofs.Limits.{within_not, parts}
use Rattle.common.proofs.amounts.AmountLaws.{UpTo, all_in}
use Rattle.window.specs.declared.Kept.{Kept}
use Rattle.window.specs.declared.Window.{Window}
use Rattle.window.specs.Window.{most, blank, keeping, kept_of, volumes, highest_of, Answer, answered, refused, as_answer, making, arrived, counts_fit, fits, falls, is_reached, arrival}
use Rattle.window.specs.Arrivals.{last, arrivals, Keeps, Refuses, MadeFor, Reached, Arrives}
use Rattle.window.proofs.UnexceededLaws.{aged, aged_volumes, arrived_aged, first_greatest, falls_aged, aged_young, aged_most}
use Rattle.window.proofs.RecordLaws.{kept_keeping, highest_keeping, keeping_passes, keeping_is, kept_young, fits_limits, whole_history, history_leaves, history_fits}

-- ---- of n in its range

-- the window that keeps what no later one equals or exceeds
abbrev pub after : ℕ → List ℕ → Window
after n l = keeping n (aged (last n l))

last_most : (n : ℕ) (l : List ℕ) → length (last n l) ≤ n
last_most n l = omega (arith, length-drop (length l - n) l)

none_before : {n m : ℕ} → m ≤ n → m - n ≡ 0
none_before h = omega arith

last_all : (n : ℕ) (l : List ℕ) → length l ≤ n → last n l ≡ l
last_all n l h = ap (λ (m : ℕ). drop m l) (none_before h)

-- so there is a place for each
pub arrived_most : (n v : ℕ) (l : List Kept) → 1 ≤ n → (get_or l 0 blank).age < n → falls l ≡ true → length (arrived n l v) ≤ n
arrived_most n v l least young t =
    let h = history_leaves n l young t in
    let volumes = whole_history l in
    let before : l ≡ aged (last n volumes) = sym h.kept ∙ ap aged (sym (last_all n volumes h.so_many)) in
    rw (ap (λ (k : List Kept). arrived n k v) before ∙ arrived_aged n v least volumes)
    (omega (arith, aged_most (last n (volumes ++ (v ∷ []))), last_most n (volumes ++ (v ∷ []))))

module _ (n : ℕ) (least : 1 ≤ n) (range : n ≤ most) where
  pub after_reached : (l : List ℕ) → is_reached (after n l) ≡ true
  after_reached l =
      keeping_passes n (aged (last n l)) least range (omega (arith, aged_most (last n l), last_most n l)) (aged_young n (last n l) least (last_most n l))
      (falls_aged (last n l))

  pub making_in : making n ≡ answered (keeping n [])
  unfolding making
  making_in = grind arith

  making_after : making n ≡ answered (after n [])
  unfolding aged
  making_after = making_in ∙ rw (drop_all {X = ℕ} (0 - n) [] (omega arith))

  arrival_after : (l : List ℕ) (v : ℕ) → arrival (after n l) v ≡ answered (after n (l ++ (v ∷ [])))
  unfolding arrival
  arrival_after l v =
      rw (after_reached l)
      (ap (λ (k : List Kept). answered (keeping n (arrived n k v))) (kept_keeping n (aged (last n l))) ∙ ap (λ (k : List Kept). answered (keeping n k)) (arrived_aged n v least l))

  arrivals_after : (l m : List ℕ) → arrivals (answered (after n l)) m ≡ answered (after n (l ++ m))
  unfolding arrivals
  arrivals_after l [] = ap (λ (k : List ℕ). answered (after n k)) (sym (append-nil l))
  arrivals_after l (v ∷ m) =
      ap (λ (a : Answer). arrivals a m) (arrival_after l v) ∙ arrivals_after (l ++ (v ∷ [])) m
      ∙ ap (λ (k : List ℕ). answered (after n k)) (append_assoc l (v ∷ []) m)

  pub made_after : (l : List ℕ) → arrivals (making n) l ≡ answered (after n l)
  made_after l = ap (λ (a : Answer). arrivals a l) making_after ∙ arrivals_after [] l

  pub keeps_after : (l : List ℕ) → Keeps n l (answered (after n l))
  keeps_after l =
      let k = aged (last n l) in
      record {
        accepted = refl;
        no_place = refl;
        keeps = ap volumes (kept_keeping n k) ∙ aged_volumes (last n l);
        nothing_else = ap (keeping n) (sym (kept_keeping n k));
        highest = highest_keeping n k ∙ volume_of k ∙ ap (λ (v : List ℕ). get_or v 0 0) (aged_volumes (last n l)) ∙ first_greatest (last n l);
      }
    where
      volume_of : (k : List Kept) → (get_or k 0 blank).volume ≡ get_or (volumes k) 0 0
      volume_of [] = refl
      volume_of (x ∷ k) = refl

-- ---- the test of a record, both ways

pub reached_passes : (w : Window) → Reached w → is_reached w ≡ true
reached_passes w h =
    ap is_reached (h.leave ∙ ap (λ (a : Answer). a.window) (made_after h.n h.n_least h.n_most h.came)) ∙ after_reached h.n h.n_least h.n_most h.came

module _ (w : Window) (long : length w.kept ≡ most) (fit : UpTo (2 ^ 64 - 1) (volumes (kept_of w))) where
  pub passes_reached : is_reached w ≡ true → Reached w
  unfolding is_reached whole_history
  passes_reached t =
      let p = parts (fits w) (falls (kept_of w)) t in
      let f = fits_limits w p.0 in
      let k = kept_of w in
      let h = history_leaves w.n k (kept_young w long p.0) p.1 in
      let before = whole_history k in
      record {
        n = w.n;
        n_least = f.n_least;
        n_most = f.n_most;
        came = before;
        came_fit = all_in (2 ^ 64 - 1) before (history_fits (2 ^ 64 - 1) (suc (get_or k 0 blank).age) k fit);
        leave =
            keeping_is w long p.0 ∙ ap (keeping w.n) (sym h.kept ∙ ap aged (sym (last_all w.n before h.so_many)))
            ∙ sym (ap (λ (a : Answer). a.window) (made_after w.n f.n_least f.n_most before));
      }

-- ---- what making and arriving promise

refuses : {w : Window} {a : Answer} → a ≡ refused w → Refuses w a
refuses {w} e = rw e (record { number_is = refl; no_place = refl; no_highest = refl; window_is = refl })

-- n outside
module _ (n : ℕ) (out : 1 ≤ n → n ≤ most → ⊥) where
  pub making_out : making n ≡ refused (keeping n [])
  unfolding making
  making_out = grind arith

  arrival_out : (v : ℕ) → arrival (keeping n []) v ≡ refused (keeping n [])
  unfolding arrival is_reached fits counts_fit
  arrival_out v = rw (within_not 1 n most out)

  arrivals_out : (l : List ℕ) → arrivals (refused (keeping n [])) l ≡ refused (keeping n [])
  unfolding arrivals
  arrivals_out [] = refl
  arrivals_out (v ∷ l) = ap (λ (a : Answer). arrivals a l) (arrival_out v) ∙ arrivals_out l

pub made_for : (n : ℕ) {a : Answer} → a ≡ making n → MadeFor n a
made_for n e =
    rw e
    (record {
      inside = λ least range l. rw (made_after n least range l) (keeps_after n least range l);
      outside = λ out l. refuses (ap (λ (a : Answer). arrivals a l) (making_out n out) ∙ arrivals_out n out l);
    })

module _ (w : Window) (v : ℕ) where
  pub arrival_in : is_reached w ≡ true → arrival w v ≡ answered (keeping w.n (arrived w.n (kept_of w) v))
  unfolding arrival
  arrival_in t = rw t

  pub arrival_not : is_reached w ≡ false → arrival w v ≡ refused w
  unfolding arrival
  arrival_not t = rw t

  pub arrival_taken : {after : Window} → Reached w → after ≡ keeping w.n (arrived w.n (kept_of w) v) → {highest : ℕ} → highest ≡ highest_of after
      → as_answer after (Ok highest) ≡ arrival w v
  arrival_taken {after} h e is = ap (λ (x : ℕ). as_answer after (Ok x)) is ∙ ap answered e ∙ sym (arrival_in (reached_passes w h))

  pub arrival_refused : {why : Refusal} → is_reached w ≡ false → why ≡ BadWindow → as_answer w (Err why) ≡ arrival w v
  arrival_refused t e = ap (λ (r : Refusal). as_answer w (Err r)) e ∙ sym (arrival_not t)

  keeps_more : (n : ℕ) → 1 ≤ n → n ≤ most → (l : List ℕ) → w ≡ (arrivals (making n) l).window → Keeps n (l ++ (v ∷ [])) (arrival w v)
  keeps_more n least range l e =
      let here : w ≡ after n l = e ∙ ap (λ (a : Answer). a.window) (made_after n least range l) in
      rw (ap (λ (x : Window). arrival x v) here ∙ arrival_after n least range l v) (keeps_after n least range (l ++ (v ∷ [])))

  module _ {a : Answer} (is : a ≡ arrival w v) where
    pub arrives_in : Reached w → Arrives w v a
    arrives_in h =
        let zero_number = ap (λ (x : Answer). x.number) (is ∙ arrival_in (reached_passes w h)) in
        record { keeps = rw is keeps_more; accepted = (λ _. h, λ _. zero_number); unchanged = λ out. absurd (out h) }

    pub arrives_not : is_reached w ≡ false → Arrives w v a
    arrives_not t =
        let out : Reached w → ⊥ = λ h. true≢false (sym (reached_passes w h) ∙ t) in
        let fifteen = ap (λ (x : Answer). x.number) (is ∙ arrival_not t) in
        record { keeps = rw is keeps_more; accepted = (λ z. absurd (omega arith), λ h. absurd (out h)); unchanged = λ _. refuses (is ∙ arrival_not t) }
