-- Document 01, "The store law", with the rounding of document 02, No. 6, and the store call in "Who sent it".
use Rattle.std.specs.Prelude.{Bool, cond, ◌&&◌, Result, Ok, Err, ℕ, ◌+◌, ◌-◌, ◌*◌, ◌/◌, ◌^◌, leb}
use Rattle.common.specs.Shares.{one}
use Rattle.common.specs.Refusals.{number_of}
use Rattle.common.specs.declared.refusal.Refusal.{Refusal}
use Rattle.curve.specs.declared.store.Store.{Store}
use Rattle.curve.specs.declared.store.Taken.{Taken}

-- "O becomes (a × I + g × V + 32,768) / 65,536, rounded down, so that outflow goes to nearest with halves up"
unfoldable pub outflow : ℕ → ℕ → ℕ → ℕ → ℕ
outflow a g v i = (a * i + g * v + 32768) / one

-- "V becomes V + I − O"
unfoldable pub content : ℕ → ℕ → ℕ → ℕ → ℕ
content a g v i = v + i - outflow a g v i

-- outside are "a or g above 65,536, inflow above 2^62 or content above 2^56"
abbrev pub most_inflow : ℕ
most_inflow = 2 ^ 62

abbrev pub most_content : ℕ
most_content = 2 ^ 56

unfoldable pub store_in : Store → ℕ → Bool
store_in s i = leb s.a one && leb s.g one && leb i most_inflow && leb s.content most_content

-- what a store answers: number and place are 0 where it is accepted
pub record Released : Type 0 where
  pub number : ℕ
  pub place : ℕ
  pub store : Store
  pub outflow : ℕ

-- the store after its inflow, and its outflow
abbrev pub released : Store → ℕ → Released
released s i =
    record {
      number = 0;
      place = 0;
      store = record { a = s.a; g = s.g; content = content s.a s.g s.content i };
      outflow = outflow s.a s.g s.content i;
    }

-- 10, place 0, the store as it was, outflow 0
abbrev pub kept : Store → Released
kept s = record { number = 10; place = 0; store = s; outflow = 0 }

-- the number, place, store and outflow that an answer stands for
abbrev pub released_of : Store → Result ℕ Refusal → Released
released_of s (Ok o) = record { number = 0; place = 0; store = s; outflow = o }
released_of s (Err why) = record { number = number_of why; place = 0; store = s; outflow = 0 }

abbrev pub as_released : Taken → Released
as_released t = released_of t.store t.outflow

unfoldable pub store_call : Store → ℕ → Released
store_call s i = cond (store_in s i) (released s i) (kept s)
