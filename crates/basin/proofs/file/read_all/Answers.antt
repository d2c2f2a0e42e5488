use mathlib.Core.Path.{◌≡◌, refl, ap}
use mathlib.Core.List.{List}
use Prim.Native.Nat.{ℕ, suc, ◌+◌, ◌*◌}
use native.Mathlib.Omega.{arith}
use lib.ListN.{length}
use Rattle.common.specs.declared.refusal.Refusal.TheVariants.{Word as OutWord}
use Rattle.common.specs.Limits.{Word, first_out}
use Rattle.basin.specs.Workers.{parts}
use Rattle.basin.proofs.file.FileLaws.{record_read, part_read, place_read, reading_begin, reading_turn, reading_stop, reading_short, reading_none, reading_all}
use Rattle.basin.proofs.file.read_all.Goals as goal

pub loop-i-init : goal.loop-i-init
loop-i-init g c = reading_begin (λ i. g.met.R.Record.sized _ _ _)

pub loop-i-preserved : goal.loop-i-preserved
loop-i-preserved g c =
    let r = g.R.Record in
    let part : ℕ → List Word = λ i. r.words c.args.m (suc i) (r.stored c.args.bytes.now (c.args.start + r.WORDS * i)) in
    reading_turn {part = part} (λ i. g.met.R.Record.sized _ _ _) c.loop-i.invariant c.loop-i-test.true
    (part_read r.stored _ _ _ c.WORDS.ensures c.read-record.ensures r.words _ c.in_default.ensures.numbered)
    (record_read r.stored _ _ _ c.WORDS.ensures c.read-record.ensures) refl

pub returns-in-Some : goal.returns-in-Some
returns-in-Some g c =
    let r = g.R.Record in
    let part : ℕ → List Word = λ i. r.words c.args.m (suc i) (r.stored c.args.bytes.now (c.args.start + r.WORDS * i)) in
    let sized : (i : ℕ) → length (part i) ≡ r.WORDS = λ i. g.met.R.Record.sized c.args.m (suc i) (r.stored c.args.bytes.now (c.args.start + r.WORDS * i)) in
    let found = c.in-Some.ensures in
    let out : c.in-Some.k ≡ first_out (part c.loop-i.i) = part_read r.stored _ _ _ c.WORDS.ensures c.read-record.ensures r.words _ found.numbered in
    let place : r.WORDS * c.loop-i.i + c.in-Some.k ≡ first_out (parts part 0 c.args.n) =
    reading_stop {part = part} sized c.loop-i.invariant c.loop-i-test.true out found.a_word in (
      reading_short {part = part} sized c.loop-i.invariant c.loop-i-test.true out found.a_word,
      ap (λ (p : ℕ). record { why = OutWord; place = p }) (place_read _ _ _ c.WORDS.ensures place),
    )

pub returns : goal.returns
returns g c =
    let r = g.R.Record in
    let part : ℕ → List Word = λ i. r.words c.args.m (suc i) (r.stored c.args.bytes.now (c.args.start + r.WORDS * i)) in
    let all = c.loop-i.invariant in (
      reading_none {part = part} (λ i. g.met.R.Record.sized _ _ _) all (omega arith),
      reading_all {part = part} (λ i. g.met.R.Record.sized _ _ _) all (omega arith),
    )
