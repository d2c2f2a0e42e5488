-- The sub-basins' turns, one after the other: what holds before each, and what they come to. Assumes nothing.
use mathlib.Core.Path.{◌≡◌, sym, ap, ◌∙◌}
use mathlib.Core.Bool.{false}
use mathlib.Core.List.{List}
use Prim.Native.Nat.{ℕ, ◌+◌, ◌*◌, ◌^◌, ◌≤◌, ◌<◌}
use native.Mathlib.Omega.{arith}
use lib.ListN.{length, get_or, set, replicate}
use Rattle.std.proofs.Common.{Result, Ok, Err, IsErr, IsErrAnd}
use Rattle.common.specs.declared.refusal.Refusal.{Refusal}
use Rattle.common.specs.declared.refusal.Refusal.TheVariants.{BadBasin}
use Rattle.common.specs.declared.weather.Weather.{Weather}
use Rattle.common.specs.Weather.{calm}
use Rattle.common.specs.Amounts.{sum}
use Rattle.common.proofs.amounts.AmountLaws.{get_or_within, at_most_sum, sum_zeros}
use Rattle.common.proofs.Loops.{Trying, try_begin, try_turn, try_stop, try_end}
use Rattle.common.proofs.Loops.{Filling, fill_begin, fill_turn, fill_end, fill_here, Carrying, carry_begin, carry_turn, carry_end}
use Rattle.common.proofs.Loops.{Adding, add_begin, add_turn, add_end}
use Rattle.subbasin.specs.declared.record.SubBasin.{SubBasin}
use Rattle.subbasin.specs.Record.{blank_sub, record_in}
use Rattle.subbasin.specs.Content.{water}
use Rattle.basin.specs.declared.state.Basin.{Basin}
use Rattle.basin.specs.declared.step.Subs.{Subs}
use Rattle.basin.specs.declared.step.Turn.{Turn}
use Rattle.basin.specs.State.{sub_at}
use Rattle.basin.specs.Limits.{subs_used}
use Rattle.basin.specs.Network.{send}
use Rattle.basin.specs.Step.{step_of, sent_by, rain_volume, loss_volume}
use Rattle.basin.specs.Workers.{Weathers, most_sent, Turned, SubsDone, SubsOf}
use Rattle.basin.proofs.network.NetworkLaws.{send_sum_most}
use Rattle.basin.proofs.step.StepLaws.{sent_length}

-- i sub-basins have had their turn
pub record Stepping (b : Basin) (ws : List Weather) (i : ℕ) (subs : List SubBasin) (sent : List ℕ) (rain loss held : ℕ) : Type 0 where
  pub n_most : b.n ≤ 32
  pub m_most : b.m ≤ 31
  pub long : length b.subs ≡ 32
  pub weathers : Weathers ws
  pub judging : Trying (λ k. record_in b.m (sub_at b k)) b.n i
  pub filling : Filling (λ k. (step_of b ws k).after) b.subs b.n i subs
  pub sending : Carrying (λ k p. send p (sub_at b k).fixed.reach (step_of b ws k).q) (replicate 32 0) b.n i sent
  pub raining : Adding (λ k. (sub_at b k).fixed.area * (get_or ws k calm).rain) b.n i rain
  pub losing : Adding (λ k. (sub_at b k).fixed.area * ((step_of b ws k).eu + (step_of b ws k).el + (step_of b ws k).ed)) b.n i loss
  pub holding : Adding (λ k. water (step_of b ws k).after) b.n i held
  pub sent_most : sum sent ≤ i * most_sent
  pub rain_most : rain ≤ i * 2 ^ 33
  pub loss_most : loss ≤ i * 2 ^ 30
  pub held_most : held ≤ i * 2 ^ 57

-- the sums of a turn fit
pub record Fitting (sent : List ℕ) (rain loss held : ℕ) (t : Turn) : Type 0 where
  pub to_in : t.to < 32
  pub sent_fits : get_or sent t.to 0 + t.q ≤ 2 ^ 63
  pub rain_fits : rain + t.rain ≤ 2 ^ 63
  pub loss_fits : loss + t.loss ≤ 2 ^ 63
  pub held_fits : held + t.held ≤ 2 ^ 63

module _ (b : Basin) (ws : List Weather) where
  pub stepping_begin : b.n ≤ 32 → b.m ≤ 31 → length b.subs ≡ 32 → Weathers ws → Stepping b ws 0 b.subs (replicate 32 0) 0 0 0
  stepping_begin n m l k =
      record {
        n_most = n;
        m_most = m;
        long = l;
        weathers = k;
        judging = try_begin;
        filling = fill_begin;
        sending = carry_begin;
        raining = add_begin;
        losing = add_begin;
        holding = add_begin;
        sent_most = omega (arith, sum_zeros 32);
        rain_most = omega arith;
        loss_most = omega arith;
        held_most = omega arith;
      }

  module _ {i : ℕ} {subs : List SubBasin} {sent : List ℕ} {rain loss held : ℕ} (s : Stepping b ws i subs sent rain loss held) where
    pub sent_wide : length sent ≡ 32
    unfolding sent_by
    sent_wide = ap length s.sending.so_far ∙ sent_length b ws i

    module _ (more : i < b.n) where
      -- the sub-basin that is next is as it was, and has its own line's weather
      here : (d : SubBasin) → get_or subs i d ≡ sub_at b i
      here d = fill_here s.filling d ∙ get_or_within b.subs i d blank_sub (omega (arith, s.long, s.n_most))

      sky : (d : Weather) → get_or ws i d ≡ get_or ws i calm
      sky d = get_or_within ws i d calm (omega (arith, s.weathers.long, s.n_most))

      pub stepping_stop : (d : SubBasin) → record_in b.m (get_or subs i d) ≡ false → subs_used b.m b.n b.subs ≡ false
      unfolding subs_used
      stepping_stop d n = sym (try_stop s.judging more (rw (here d) at n))

      module _ (d : SubBasin) (e : Weather) {after : SubBasin} {t : Turn} (of : Turned b.m (get_or subs i d) (get_or ws i e) after t) where
        turned : Turned b.m (sub_at b i) (get_or ws i calm) after t
        turned = rw (here d, sky e) at of

        pub stepping_fits : Fitting sent rain loss held t
        stepping_fits =
            record {
              to_in = omega (arith, turned.to_most, s.m_most, sent_wide);
              sent_fits = omega (arith, at_most_sum sent t.to, s.sent_most, turned.q_most, s.n_most);
              rain_fits = omega (arith, s.rain_most, turned.rain_most, s.n_most);
              loss_fits = omega (arith, s.loss_most, turned.loss_most, s.n_most);
              held_fits = omega (arith, s.held_most, turned.held_most, s.n_most);
            }

        pub stepping_turn : Stepping b ws (i + 1) (set subs i after) (set sent t.to (get_or sent t.to 0 + t.q)) (rain + t.rain) (loss + t.loss) (held + t.held)
        unfolding send
        stepping_turn =
            record {
              n_most = s.n_most;
              m_most = s.m_most;
              long = s.long;
              weathers = s.weathers;
              judging = try_turn s.judging more turned.allowed;
              filling = fill_turn s.filling more turned.after_is;
              sending = carry_turn s.sending more (rw (turned.to_is, turned.q_is));
              raining = add_turn s.raining more turned.rain_is;
              losing = add_turn s.losing more turned.loss_is;
              holding = add_turn s.holding more turned.held_is;
              sent_most = omega (arith, s.sent_most, send_sum_most sent t.to t.q, turned.q_most);
              rain_most = omega (arith, s.rain_most, turned.rain_most);
              loss_most = omega (arith, s.loss_most, turned.loss_most);
              held_most = omega (arith, s.held_most, turned.held_most);
            }

    pub stepping_end : b.n ≤ i → SubsDone b ws subs (record { sent = sent; rain = rain; loss = loss; held = held })
    unfolding subs_used sent_by rain_volume loss_volume
    stepping_end h =
        record {
          allowed = sym (try_end s.judging h);
          long = s.long;
          subs_are = fill_end s.filling h;
          sent_is = carry_end s.sending h;
          rain_is = add_end s.raining h;
          loss_is = add_end s.losing h;
          held_is = add_end s.holding h;
          sent_most = omega (arith, s.sent_most, s.n_most, s.judging.place);
          held_most = omega (arith, s.held_most, s.n_most, s.judging.place);
        }

  -- one that is refused ends them, and its refusal is handed on
  module _ (after : List SubBasin) (why : Refusal) (n : subs_used b.m b.n b.subs ≡ false) (is : why ≡ BadBasin) where
    pub refused_so : (r : Result Subs Refusal) → IsErr r × IsErrAnd r (λ e. e ≡ why) → SubsOf b ws after r
    refused_so (Ok x) h = cc
    refused_so (Err e) h = (n, h.1 ∙ is)
