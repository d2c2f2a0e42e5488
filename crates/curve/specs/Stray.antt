-- Document 02, No. 10, how far the stores stray: a list of inflows into one store, by the store call and without any rounding.
use Rattle.std.specs.Prelude.{◌≡◌, ⊤, ℕ, ◌+◌, ◌-◌, ◌*◌, ◌^◌, ◌≤◌, ◌<◌, List, [], ◌∷◌, length}
use Rattle.std.specs.Int.{abs_diff}
use Rattle.common.specs.Shares.{one}
use Rattle.curve.specs.declared.store.Store.{Store}
use Rattle.curve.specs.Store.{most_content, store_call}

-- Lists of inflows, the latest first: i ∷ l are the inflows l and then i.

-- the store after them, taken one after the other
unfoldable pub after : Store → List ℕ → Store
after s [] = s
after s (i ∷ l) = (store_call (after s l) i).store

-- "of which the store call refuses none"
unfoldable pub RefusesNone : Store → List ℕ → Type 0
RefusesNone s [] = ⊤
RefusesNone s (i ∷ l) = RefusesNone s l × ((store_call (after s l) i).number ≡ 0)

-- "The unrounded content is a whole number over 65,536 to the power of the list's length": that number, N(k). N(0) is the content, and N(k + 1)
-- is N(k) × (65,536 − g) + I(k + 1) × (65,536 − a) × 65,536^k: over 65,536^(k + 1) this is V + I − (a × I + g × V) / 65,536, V being N(k) over
-- 65,536^k (`unrounded` of `Strays`).
unfoldable pub numerator : Store → List ℕ → ℕ
numerator s [] = s.content
numerator s (i ∷ l) = numerator s l * (one - s.g) + i * (one - s.a) * one ^ length l

-- "the difference" of the program's content and the unrounded one, over 65,536^k
abbrev pub distance : Store → List ℕ → ℕ
distance s l = abs_diff ((after s l).content * one ^ length l) (numerator s l)

-- "g times the difference is at most" b
abbrev pub Bounded : ℕ → Store → List ℕ → Type 0
Bounded b s l = s.g * distance s l ≤ b * one ^ length l

-- "at most 32,768"
abbrev pub bound : ℕ
bound = 32768

-- k inflows that bring a store near the bound: g times the difference is 32,768 × (65,536^k − (65,536 − g)^k), over 65,536^k
pub record Nears (s : Store) (k : ℕ) : Type 0 where
  pub inflows : List ℕ
  pub many : length inflows ≡ k
  pub none : RefusesNone s inflows
  pub comes : s.g * distance s inflows + bound * (one - s.g) ^ length inflows ≡ bound * one ^ length inflows

-- What is right of a store and of every list of inflows into it.
pub record Strays (s : Store) : Type 0 where
  -- N(k + 1) over 65,536^(k + 1) is V + I − (a × I + g × V) / 65,536, V being N(k) over 65,536^k: put times 65,536^(k + 1), with what goes out
  -- on the left
  pub unrounded : (i : ℕ) (l : List ℕ) → s.a ≤ one → s.g ≤ one
      → numerator s (i ∷ l) + (s.a * (i * one ^ length l) + s.g * numerator s l) ≡ one * (numerator s l + i * one ^ length l)
  -- "differ by so little that g times the difference is at most 32,768", whatever the shares
  pub bounded : (l : List ℕ) → RefusesNone s l → Bounded bound s l
  -- no lesser number would do for "0 ≤ a ≤ g and g 1..65,536"
  pub least : (b : ℕ) → ((t : Store) (l : List ℕ) → t.a ≤ t.g → 1 ≤ t.g → t.g ≤ one → RefusesNone t l → Bounded b t l)
      → bound ≤ b
  -- and where both shares are 65,536 less one recession of 1..65,535, every store that the call takes comes as near to it as one likes
  pub nears : s.a ≡ s.g → 1 ≤ s.g → s.g < one → s.content ≤ most_content → (k : ℕ) → Nears s k
