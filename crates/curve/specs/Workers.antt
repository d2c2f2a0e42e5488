-- What the private functions of this crate leave.
use Rattle.std.specs.Prelude.{◌≡◌, List, Option, Some, None, Result, Ok, Err, ℕ, ◌+◌, ◌^◌, ◌≤◌, ◌<◌}
use Rattle.common.specs.Shares.{one}
use Rattle.common.specs.declared.refusal.Refusal.{Refusal}
use Rattle.common.specs.declared.refusal.Refusal.TheVariants.{OutOfRange}
use Rattle.curve.specs.declared.store.Store.{Store}
use Rattle.curve.specs.Store.{most_inflow, most_content}
use Rattle.curve.specs.Capacity.{root, printed_roots, least_e, most_e, most_c, most_m}

-- where a table leads, if anywhere: by the printed one to the root of t or to one more
abbrev pub Leads : List ℕ → ℕ → Option ℕ → Type 0
Leads roots t (Some r) = (r + 1 < 2 ^ 32) × (roots ≡ printed_roots → (root t ≤ r) × (r ≤ root t + 1))
Leads roots t None = ¬ (roots ≡ printed_roots)

-- an entry of a table, if it is one that leads: of the printed one the root of its place
abbrev pub Enters : List ℕ → ℕ → Option ℕ → Type 0
Enters roots k (Some r) = (r < 8192) × (roots ≡ printed_roots → r ≡ root k)
Enters roots k None = ¬ (roots ≡ printed_roots)

-- the limits of a curve
pub record CurveIn (c m e : ℕ) : Type 0 where
  pub c_least : 1 ≤ c
  pub c_most : c ≤ most_c
  pub m_least : 1 ≤ m
  pub m_most : m ≤ most_m
  pub e_least : least_e ≤ e
  pub e_most : e ≤ most_e

-- the limits of the store call
pub record StoreIn (s : Store) (i : ℕ) : Type 0 where
  pub a_in : s.a ≤ one
  pub g_in : s.g ≤ one
  pub inflow_in : i ≤ most_inflow
  pub content_in : s.content ≤ most_content

-- logarithms are in parts of 2^24
abbrev pub log : ℕ
log = 16777216

-- a number taken as a share, or refused
abbrev pub IsShare : ℕ → Result ℕ Refusal → Type 0
IsShare n (Ok t) = (t ≡ n) × (n ≤ one)
IsShare n (Err why) = (why ≡ OutOfRange) × (one < n)
