-- The lengths of a basin's arrays, out of its type. Assumes nothing.
use mathlib.Core.Path.{◌≡◌}
use mathlib.Core.List.{List, [], ◌∷◌}
use Prim.Native.Nat.{ℕ, zero, suc, ◌≤◌, ◌<◌}
use native.Mathlib.Decide.{dec_le}
use native.Mathlib.Omega.{arith}
use lib.ListN.{length, get_or, get_or-eq_default}
use mir.Val.{Val}
use denote.Array.{each}
use denote.RattleType.{RattleType}
use denote.Laws.{Is}
use denote.Shadow.{shadow}
use denote.Struct.Laws as LL
use Rattle.subbasin.specs.declared.record.SubBasin.{SubBasin}
use Rattle.subbasin.specs.Record.{blank_sub}
use Rattle.subbasin.specs.contracts.record.SubBasin as S
use Rattle.subbasin.proofs.record.SubBasin.TheLaws as S'
use Rattle.subbasin.specs.contracts.record.LagLine as L
use Rattle.subbasin.proofs.record.LagLine.TheLaws as L'
use Rattle.basin.specs.declared.state.Basin.{Basin}
use Rattle.basin.specs.State.{sub_at}
use Rattle.basin.specs.Workers.{Shaped}
use Rattle.basin.specs.contracts.state.Basin as B
use Rattle.basin.proofs.state.Basin.TheLaws as B'

-- an element of an array is of its type
each_at : (R : RattleType) (xs : List R.Denot) (us : List Val) → shadow (each R.Denot R.own_val xs us)
    → (i : ℕ) (d : R.Denot) → i < length xs → (u : Val) × Is R (get_or xs i d) (u ∷ [])
each_at R [] us s i d l = absurd (omega arith)
each_at R (x ∷ xs) [] s i d l = absurd s
each_at R (x ∷ xs) (u ∷ us) s zero d l = (u, s.0)
each_at R (x ∷ xs) (u ∷ us) s (suc i) d l = each_at R xs us s.1 i d (omega arith)

sub_places : (s : SubBasin) (vs : List Val) → Is S.the_row s vs → length s.line.waiting ≡ 15
sub_places s vs is =
    let line = (LL.owed S.the_type S'.the_laws s vs is).1.1.0 in
    let waiting = (LL.owed L.the_type L'.the_laws s.line _ line).1.0 in
    waiting.1.0.1

module _ (b : Basin) (vs : List Val) (is : Is B.the_row b vs) where
  subs_long : length b.subs ≡ 32
  subs_long = (LL.owed B.the_type B'.the_laws b vs is).1.1.0.1.0.1

  reaches_long : length b.reaches ≡ 31
  reaches_long = (LL.owed B.the_type B'.the_laws b vs is).1.1.1.0.1.0.1

  waiting_long : (i : ℕ) → Dec (length b.subs ≤ i) → length (sub_at b i).line.waiting ≡ 15
  waiting_long i (yes l) = rw (get_or-eq_default b.subs blank_sub l)
  waiting_long i (no l) =
      let s = each_at S.the_row b.subs _ (LL.owed B.the_type B'.the_laws b vs is).1.1.0.1.1 i blank_sub (omega arith) in
      sub_places (sub_at b i) (s.0 ∷ []) s.1

  pub basin_shaped : Shaped b
  basin_shaped = record { subs_length = subs_long; reaches_length = reaches_long; places = λ i l. waiting_long i (dec_le (length b.subs) i) }
