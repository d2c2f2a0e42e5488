-- The calls of the curve: accepted inside their limits, and refused outside; and a rise made of two of them. Assumes nothing.
use mathlib.Core.Path.{◌≡◌, refl, sym, ap, ◌∙◌}
use mathlib.Core.Bool.{true, false, ◌&&◌}
use Prim.Native.Nat.{ℕ, ◌+◌, ◌≤◌, min}
use native.Mathlib.Omega.{arith}
use Rattle.std.specs.Prelude.{Result, Ok, Err, IsOk}
use Rattle.common.specs.declared.refusal.Refusal.{Refusal}
use Rattle.common.specs.Shares.{one}
use Rattle.common.specs.Limits.{within}
use Rattle.common.proofs.Limits.{refuted, both, parts, within_in, within_limits}
use Rattle.common.proofs.Refusals.{number_some}
pub use Rattle.curve.specs.Workers.{CurveIn}
use Rattle.curve.specs.Capacity.{root, power, held, ordinate, rise, Answer, as_answer, value, refused, least_e, most_e, most_c, most_m, curve_in, root_call, power_call, held_call, ordinate_call}
use Rattle.curve.proofs.capacity.HeldLaws.{ordinate_le}

-- an accepted answer is Ok: no refusal has the number 0
pub accepted : (r : Result ℕ Refusal) {v : ℕ} → as_answer r ≡ value v → r ≡ Ok v
accepted (Ok x) h = ap (λ (x : ℕ). Ok x) (ap (λ (a : Answer). a.value) h)
accepted (Err why) h = absurd (omega (arith, number_some why, ap (λ (a : Answer). a.number) h))

pub root_accepts : (t : ℕ) → t ≤ one → root_call t ≡ value (root t)
unfolding root_call
root_accepts t h = rw (within_in 0 t one (omega arith) h)

pub root_refuses : (t : ℕ) → (t ≤ one → ⊥) → root_call t ≡ refused
unfolding root_call
root_refuses t n = rw (refuted (within 0 t one) (λ h. n (within_limits 0 t one h).1))

-- the limits of Power
pub record PowerIn (t e : ℕ) : Type 0 where
  pub t_most : t ≤ one
  pub e_least : least_e ≤ e
  pub e_most : e ≤ most_e

pub power_accepts : (t e : ℕ) → PowerIn t e → power_call t e ≡ value (power t e)
unfolding power_call
power_accepts t e h = rw (both (within_in 0 t one (omega arith) h.t_most) (within_in least_e e most_e h.e_least h.e_most))

pub power_refuses : (t e : ℕ) → (PowerIn t e → ⊥) → power_call t e ≡ refused
unfolding power_call
power_refuses t e n = rw (refuted (within 0 t one && within least_e e most_e) (λ h. n (limits h)))
  where
    limits : within 0 t one && within least_e e most_e ≡ true → PowerIn t e
    limits h =
        let b = parts (within 0 t one) (within least_e e most_e) h in
        let t-in = within_limits 0 t one b.0 in
        let e-in = within_limits least_e e most_e b.1 in
        record { t_most = t-in.1; e_least = e-in.0; e_most = e-in.1 }

pub curve_in_lem : (c m e : ℕ) → CurveIn c m e → curve_in c m e ≡ true
unfolding curve_in
curve_in_lem c m e h =
    both
    (both (within_in 1 c most_c h.c_least h.c_most) (within_in 1 m most_m h.m_least h.m_most))
    (within_in least_e e most_e h.e_least h.e_most)

pub curve_limits : (c m e : ℕ) → curve_in c m e ≡ true → CurveIn c m e
unfolding curve_in
curve_limits c m e h =
    let b = parts (within 1 c most_c && within 1 m most_m) (within least_e e most_e) h in
    let d = parts (within 1 c most_c) (within 1 m most_m) b.0 in
    let c-in = within_limits 1 c most_c d.0 in
    let m-in = within_limits 1 m most_m d.1 in
    let e-in = within_limits least_e e most_e b.1 in
    record { c_least = c-in.0; c_most = c-in.1; m_least = m-in.0; m_most = m-in.1; e_least = e-in.0; e_most = e-in.1 }

module _ (c m e : ℕ) where
  point_in : (x hi : ℕ) → CurveIn c m e → x ≤ hi → curve_in c m e && within 0 x hi ≡ true
  point_in x hi h k = both (curve_in_lem c m e h) (within_in 0 x hi (omega arith) k)

  point_out : (x hi : ℕ) → (CurveIn c m e → x ≤ hi → ⊥) → curve_in c m e && within 0 x hi ≡ false
  point_out x hi n =
      refuted (curve_in c m e && within 0 x hi)
      (λ h. let b = parts (curve_in c m e) (within 0 x hi) h in n (curve_limits c m e b.0) (within_limits 0 x hi b.1).1)

  pub held_accepts : (a : ℕ) → CurveIn c m e → a ≤ m → held_call c m e a ≡ value (held c m e a)
  unfolding held_call
  held_accepts a h k = rw (point_in a m h k)

  pub held_refuses : (a : ℕ) → (CurveIn c m e → a ≤ m → ⊥) → held_call c m e a ≡ refused
  unfolding held_call
  held_refuses a n = rw (point_out a m n)

  pub ordinate_accepts : (w : ℕ) → CurveIn c m e → w ≤ c → ordinate_call c m e w ≡ value (ordinate c m e w)
  unfolding ordinate_call
  ordinate_accepts w h k = rw (point_in w c h k)

  pub ordinate_refuses : (w : ℕ) → (CurveIn c m e → w ≤ c → ⊥) → ordinate_call c m e w ≡ refused
  unfolding ordinate_call
  ordinate_refuses w n = rw (point_out w c n)

  -- and their answers there
  pub held_ok : (a : ℕ) {r : Result ℕ Refusal} → CurveIn c m e → a ≤ m → as_answer r ≡ held_call c m e a → r ≡ Ok (held c m e a)
  held_ok a {r} h k called = accepted r (called ∙ held_accepts a h k)

  pub ordinate_ok : (w : ℕ) {r : Result ℕ Refusal} → CurveIn c m e → w ≤ c → as_answer r ≡ ordinate_call c m e w → r ≡ Ok (ordinate c m e w)
  ordinate_ok w {r} h k called = accepted r (called ∙ ordinate_accepts w h k)

-- so it can be unwrapped, to one value
pub unwraps : {r : Result ℕ Refusal} {v : ℕ} → r ≡ Ok v → IsOk r
unwraps is = rw is refl

pub unwrapped : {r : Result ℕ Refusal} {x v : ℕ} → r ≡ Ok v → r ≡ Ok x → x ≡ v
unwrapped is got = ap (λ (r : Result ℕ Refusal). (as_answer r).value) (sym got ∙ is)

-- a rise by two calls: from the ordinate of w up by net rain, and what is held there
module _ {c m e w : ℕ} {from : Answer} (curve : CurveIn c m e) (below : w ≤ c) (called : from ≡ ordinate_call c m e w) where
  from_is : from.value ≡ ordinate c m e w
  from_is = ap (λ (a : Answer). a.value) (called ∙ ordinate_accepts c m e w curve below)

  pub from_le : from.value ≤ m
  from_le = omega (arith, from_is, ordinate_le c m e w)

  pub risen : (pe : ℕ) {k : ℕ} {to : Answer} → k ≡ min (from.value + pe) m → to ≡ held_call c m e k → to.value ≡ rise c m e w pe
  unfolding rise
  risen pe {k} at asked =
      let up : k ≡ min (ordinate c m e w + pe) m = at ∙ ap (λ (x : ℕ). min (x + pe) m) from_is in
      ap (λ (a : Answer). a.value) (asked ∙ held_accepts c m e k curve (omega (arith, at))) ∙ ap (held c m e) up

-- the same of the two values, unwrapped
module _ {c m e w from : ℕ} {r : Result ℕ Refusal} (curve : CurveIn c m e) (below : w ≤ c) (called : as_answer r ≡ ordinate_call c m e w) (got : r ≡ Ok from) where
  value_is : (as_answer r).value ≡ from
  value_is = ap (λ (r : Result ℕ Refusal). (as_answer r).value) got

  pub ok_le : from ≤ m
  ok_le = omega (arith, value_is, from_le curve below called)

  pub ok_risen : (pe : ℕ) {k to : ℕ} {s : Result ℕ Refusal} → k ≡ min (from + pe) m → as_answer s ≡ held_call c m e k → s ≡ Ok to → to ≡ rise c m e w pe
  ok_risen pe at asked there =
      sym (ap (λ (s : Result ℕ Refusal). (as_answer s).value) there)
      ∙ risen curve below called pe (at ∙ ap (λ (x : ℕ). min (x + pe) m) (sym value_is)) asked
