-- The least share with which at most w is held, and the ordinate by it: document 02, No. 4. Assumes nothing.
use mathlib.Core.Path.{◌≡◌, sym, subst}
use Prim.Native.Nat.{ℕ, ◌+◌, ◌-◌, ◌*◌, ◌/◌, ◌≤◌, ◌<◌}
use native.Mathlib.Nat.{mul-le-mul_right, le-div_iff_mul-le, div-lt_iff_lt-mul}
use native.Mathlib.Omega.{arith}
use lib.Dec.{leb}
use borrow.Author.Tests.{le-leb, lt-leb, leb-true, leb-false}
use Rattle.common.specs.Shares.{one}
use Rattle.common.proofs.Smallest.{smallest_le, smallest_holds, smallest_below, smallest_is}
use Rattle.curve.specs.Capacity.{least_e, share_above, held_at, ordinate, least_share, last_above}
use Rattle.curve.proofs.capacity.HeldLaws.{held_at_mono, held_at_zero, held_at_one, held_is, ordinate_is}

module _ (c e w : ℕ) where
  pub least_share_le : least_share c e w ≤ one
  unfolding least_share
  least_share_le = smallest_le (λ t. leb (held_at c e t) w) one

  -- from the least share on at most w is held, and below it more
  at_least : {t : ℕ} → least_share c e w ≤ t → held_at c e t ≤ w
  unfolding least_share
  at_least {t} h =
      let top = le-leb (held_at c e one) w (omega (arith, held_at_one c e)) in
      omega (arith, leb-true (held_at c e (least_share c e w)) w (smallest_holds (λ t. leb (held_at c e t) w) one top), held_at_mono c e h)

  below : {t : ℕ} → t < least_share c e w → w < held_at c e t
  unfolding least_share
  below {t} h = leb-false _ _ (smallest_below (λ t. leb (held_at c e t) w) one t h)

  -- a share with which at most w is held, when with the one below it more is, is the least
  pub least_share_is : (t : ℕ) → t ≤ one → held_at c e t ≤ w → (0 < t → w < held_at c e (t - 1)) → least_share c e w ≡ t
  unfolding least_share
  least_share_is t h l u =
      smallest_is (λ t. leb (held_at c e t) w) one t h (le-leb _ _ l)
      (λ j i. lt-leb (held_at c e j) w (omega (arith, u (omega arith), held_at_mono c e {s = j} {t = t - 1} (omega arith))))

  -- the same of an interval that is narrowed to one share
  pub narrowed : (lo hi : ℕ) → lo < hi → hi ≤ one → w < held_at c e lo → held_at c e hi ≤ w → hi - lo ≤ 1 → hi ≡ least_share c e w
  narrowed lo hi l m a b h =
      let next : lo ≡ hi - 1 = omega arith in
      sym (least_share_is hi m b (λ _. subst (λ (t : ℕ). w < held_at c e t) next a))

  -- "with t the least for which c − c × Power(t, e) / 65,536 is at most w, the ordinate is m less t × m / 65,536, this last division
  -- rounded up", for every m above 0
  pub ordinate_by_share : (m : ℕ) → 0 < m → ordinate c m e w ≡ last_above m (least_share c e w)
  unfolding last_above share_above
  ordinate_by_share m z =
      ordinate_is c m e w a z (omega arith) (rw (held_is c m e a) (at_least enough)) (λ l. rw (held_is c m e (a + 1)) (below (short l)))
    where
      t : ℕ
      t = least_share c e w

      up : ℕ
      up = (t * m + (one - 1)) / one

      a : ℕ
      a = m - up

      up_le : up ≤ m
      up_le = omega (arith, mul-le-mul_right m least_share_le)

      enough : t ≤ share_above m a
      enough = (le-div_iff_mul-le z).1 (omega (arith, up_le))

      short : a < m → share_above m (a + 1) < t
      short l = (div-lt_iff_lt-mul z).1 (omega (arith, up_le, l))

-- with nothing above an ordinate all is held
pub least_share_full : (c e : ℕ) → least_e ≤ e → least_share c e c ≡ 0
least_share_full c e h = least_share_is c e c 0 (omega arith) (omega (arith, held_at_zero c e h)) (λ l. absurd (omega arith))

-- what the search of a least share needs
pub ruleset search_laws = (held_at_one, held_at_zero, narrowed, least_share_full)
