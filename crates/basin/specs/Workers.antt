-- What the private functions require and answer: no part of document 01.
use Rattle.std.specs.Prelude.{◌≡◌, Bool, true, false, ◌&&◌, Result, Ok, Err, List, [], ◌++◌, ℕ, zero, suc, ◌+◌, ◌*◌, ◌^◌, ◌≤◌, ◌<◌, length, get_or}
use Rattle.common.specs.declared.weather.Weather.{Weather}
use Rattle.common.specs.declared.refusal.Refusal.{Refusal}
use Rattle.common.specs.declared.refusal.Refusal.TheVariants.{BadBasin, Word as BadWord}
use Rattle.common.specs.declared.refusal.Refused.{Refused}
use Rattle.common.specs.Limits.{Word, first_out}
use Rattle.common.specs.Bytes.{word_at}
use Rattle.common.specs.Shares.{one}
use Rattle.common.specs.Weather.{calm, WeatherIn}
use Rattle.common.specs.Amounts.{sum}
use Rattle.common.specs.Loops.{filled, table, sum_of}
use Rattle.subbasin.specs.declared.record.SubBasin.{SubBasin}
use Rattle.subbasin.specs.Record.{word_count, of_words, most_stored, record_in}
use Rattle.subbasin.specs.Content.{water}
use Rattle.subbasin.specs.Step.{stepped}
use Rattle.basin.specs.declared.reach.Reach.{Reach}
use Rattle.basin.specs.declared.state.Basin.{Basin}
use Rattle.basin.specs.declared.step.Subs.{Subs}
use Rattle.basin.specs.declared.step.Turn.{Turn}
use Rattle.basin.specs.Reach.{blank_reach, reach_in}
use Rattle.basin.specs.State.{most_subs, most_reaches, sub_at}
use Rattle.basin.specs.Limits.{subs_used, subs_blank, reaches_used, reaches_blank}
use Rattle.basin.specs.Network.{g_of, flows, reaches_after}
use Rattle.basin.specs.Step.{step_of, sent_by, rain_volume, loss_volume}

-- 32 lines' weather, each inside its limits
pub record Weathers (ws : List Weather) : Type 0 where
  pub long : length ws ≡ 32
  pub each : (i : ℕ) → WeatherIn (get_or ws i calm)

-- ---- records that are read from a file

-- a sub-basin and a reach from their first word on
abbrev pub sub_stored : List ℕ → ℕ → SubBasin
sub_stored f start = of_words (table (λ k. word_at f (start + k)) 0 word_count word_count)

abbrev pub reach_stored : List ℕ → ℕ → Reach
reach_stored f start = record { c0 = word_at f start; c1 = word_at f (start + 1); next = word_at f (start + 2); content = 0 }

-- the words of the parts i, i + 1, .., so many as are left
unfoldable pub parts : (ℕ → List Word) → ℕ → ℕ → List Word
parts part i zero = []
parts part i (suc left) = part i ++ parts part (suc i) left

-- n records of `size` words, from word `start` on: either all are inside their ranges, and in their places, or the first word that is not is told
abbrev pub ReadOf : {R : Type 0} → ℕ → ℕ → (ℕ → R) → (ℕ → List Word) → ℕ → List R → List R → Result (Unit {0}) Refused → Type 0
ReadOf start size x part n before after (Ok u) = (first_out (parts part 0 n) ≡ size * n) × (after ≡ filled x n before)
ReadOf start size x part n before after (Err w) = (first_out (parts part 0 n) ≡ size * n → ⊥) × (w ≡ record { why = BadWord; place = start + first_out (parts part 0 n) })

-- ---- a sub-basin's turn

-- the most that one sends, 2^56 + 2^50
abbrev pub most_sent : ℕ
most_sent = most_stored + 2 ^ 50

pub record Turned (m : ℕ) (s : SubBasin) (w : Weather) (after : SubBasin) (t : Turn) : Type 0 where
  pub allowed : record_in m s ≡ true
  pub after_is : after ≡ (stepped s w).after
  pub to_is : t.to ≡ s.fixed.reach
  pub q_is : t.q ≡ (stepped s w).q
  pub rain_is : t.rain ≡ s.fixed.area * w.rain
  pub loss_is : t.loss ≡ s.fixed.area * ((stepped s w).eu + (stepped s w).el + (stepped s w).ed)
  pub held_is : t.held ≡ water (stepped s w).after
  pub to_most : t.to ≤ m
  pub q_most : t.q ≤ most_sent
  pub rain_most : t.rain ≤ 2 ^ 33
  pub loss_most : t.loss ≤ 2 ^ 30
  pub held_most : t.held ≤ 2 ^ 57

-- 9 for a record that it doesn't allow
abbrev pub TurnOf : ℕ → SubBasin → Weather → SubBasin → Result Turn Refusal → Type 0
TurnOf m s w after (Ok t) = Turned m s w after t
TurnOf m s w after (Err why) = (record_in m s ≡ false) × (why ≡ BadBasin)

-- ---- the sub-basins' turns

-- the sub-basins as a basin without reaches
abbrev pub subs_only : ℕ → ℕ → List SubBasin → Basin
subs_only n m subs = record { n = n; m = m; subs = subs; reaches = [] }

pub record SubsDone (b : Basin) (ws : List Weather) (after : List SubBasin) (r : Subs) : Type 0 where
  pub allowed : subs_used b.m b.n b.subs ≡ true
  pub long : length b.subs ≡ 32
  pub subs_are : after ≡ filled (λ i. (step_of b ws i).after) b.n b.subs
  pub sent_is : r.sent ≡ sent_by b ws b.n
  pub rain_is : r.rain ≡ rain_volume b ws
  pub loss_is : r.loss ≡ loss_volume b ws
  pub held_is : r.held ≡ sum_of (λ i. water (step_of b ws i).after) b.n
  pub sent_most : sum r.sent ≤ 32 * most_sent
  pub held_most : r.held ≤ 2 ^ 62

abbrev pub SubsOf : Basin → List Weather → List SubBasin → Result Subs Refusal → Type 0
SubsOf b ws after (Ok r) = SubsDone b ws after r
SubsOf b ws after (Err why) = (subs_used b.m b.n b.subs ≡ false) × (why ≡ BadBasin)

-- ---- the reaches' turns

-- a reach whose store call is accepted
pub record Passing (r : Reach) (i : ℕ) : Type 0 where
  pub c0_most : r.c0 ≤ one
  pub g_most : g_of r ≤ one
  pub content_most : r.content ≤ most_stored
  pub inflow_most : i ≤ 2 ^ 62

-- m reaches that 9 allows, and what was sent
pub record Flowing (m : ℕ) (rs : List Reach) (sent : List ℕ) : Type 0 where
  pub m_most : m ≤ 31
  pub allowed : (j : ℕ) → j < m → reach_in m (j + 1) (get_or rs j blank_reach) ≡ true
  pub sent_most : sum sent ≤ 32 * most_sent

pub record Flowed (m : ℕ) (rs : List Reach) (sent : List ℕ) (after : List Reach) (outlet held : ℕ) : Type 0 where
  pub routed : after ≡ reaches_after rs m sent
  pub came : outlet ≡ get_or (flows rs m sent) 0 0
  pub held_is : held ≡ sum_of (λ j. (get_or (reaches_after rs m sent) j blank_reach).content) m
  pub held_most : held ≤ 2 ^ 62

-- ---- the basin

-- the counts are inside their limits
pub record CountsIn (n m : ℕ) : Type 0 where
  pub n_least : 1 ≤ n
  pub n_most : n ≤ most_subs
  pub m_most : m ≤ most_reaches

-- 9 but for the counts and the sub-basins in use
unfoldable pub records_in : Basin → Bool
records_in b = subs_blank b.n b.subs && reaches_used b.m b.reaches && reaches_blank b.m b.reaches

-- the lengths that a basin's type gives
pub record Shaped (b : Basin) : Type 0 where
  pub subs_length : length b.subs ≡ 32
  pub reaches_length : length b.reaches ≡ 31
  pub places : (i : ℕ) → i < b.n → length (sub_at b i).line.waiting ≡ 15
