-- `basin::file::load` meets its contract: each way out is a law of the load call. Assumes nothing.
use mathlib.Core.Path.{◌≡◌, ap, ◌∙◌}
use mathlib.Core.List.{List}
use mathlib.Core.Logic.{◌↔◌}
use Prim.Native.Nat.{ℕ}
use native.Mathlib.Omega.{arith}
use Rattle.std.proofs.Common.{Result, Ok, Err, IsOk, IfOk, IsErr, IsErrAnd}
use Rattle.common.specs.declared.refusal.Refusal.TheVariants.{Counts}
use Rattle.common.specs.declared.refusal.Refused.{Refused}
use Rattle.basin.specs.declared.state.Basin.{Basin}
use Rattle.basin.specs.File.{as_loaded, load_call, FileIn, Holds}
use Rattle.basin.specs.Account.{Demand3}
use Rattle.basin.proofs.Account.{demand_3}
use Rattle.basin.proofs.file.FileLaws.{load_short, load_n, load_m, load_size, load_sub, load_reach, load_all, subs_table, reaches_table}
use Rattle.basin.proofs.file.LoadedLaws.{accepts, holds}
use Rattle.subbasin.proofs.record.RecordLaws.{default_blank}
use Rattle.basin.proofs.file.load.Goals as goal

-- the answer's equation, and with it all that the contract says
answered : (f : List ℕ) (r : Result Basin Refused) → as_loaded r ≡ load_call f
    → record { answers : as_loaded r ≡ load_call f; accepts : IsOk r ↔ FileIn f; holds : IfOk r (Holds f); accounts : Demand3 f (as_loaded r) }
answered f r e = record { answers = e; accepts = accepts f r e; holds = holds f r e; accounts = demand_3 f e }

-- what a refusal stands for, made here or handed on
stands : {x y : Refused} → x ≡ y → as_loaded (Err x) ≡ as_loaded (Err y)
stands e = ap (λ (w : Refused). as_loaded (Err w)) e

handed : (w : Refused) (r : Result Basin Refused) → IsErr r × IsErrAnd r (λ e. e ≡ w) → as_loaded r ≡ as_loaded (Err w)
handed w (Ok b) h = cc
handed w (Err e) h = stands h.1

pub returns-then-size-lt-LEAST_BYTES : goal.returns-then-size-lt-LEAST_BYTES
returns-then-size-lt-LEAST_BYTES c = answered _ (Err _) (stands c.into.ensures ∙ load_short _ c.if-size-lt-LEAST_BYTES.true)

pub returns-then-n-lt1 : goal.returns-then-n-lt1
returns-then-n-lt1 c =
    answered _ (Err _)
    (stands c.into-then-n-lt1.ensures ∙ load_n _ c.if-size-lt-LEAST_BYTES.false c.word-n.ensures.0 (λ l h. omega (arith, c.then-n-lt1.either)))

pub returns-then-m-gt-MOST_REACHES : goal.returns-then-m-gt-MOST_REACHES
returns-then-m-gt-MOST_REACHES c =
    answered _ (Err (record { why = Counts; place = 1 }))
    (load_m _ c.if-size-lt-LEAST_BYTES.false c.word-n.ensures.0 (omega arith) (omega arith) c.word-m.ensures.0 c.if-m-gt-MOST_REACHES.true)

pub returns-then-size-after_subs : goal.returns-then-size-after_subs
returns-then-size-after_subs c =
    answered _ (Err _)
    (stands c.into-then-size-after_subs.ensures
    ∙ load_size _ c.if-size-lt-LEAST_BYTES.false c.word-n.ensures.0 (omega arith) (omega arith) c.word-m.ensures.0 (omega arith) (λ e. c.if-size-after_subs.true (omega arith)))

pub returns-in_err-read_all : goal.returns-in_err-read_all
returns-in_err-read_all c =
    answered _ _
    (handed _ _ c.from_residual.ensures
    ∙ load_sub _ c.if-size-lt-LEAST_BYTES.false c.word-n.ensures.0 (omega arith) (omega arith) c.word-m.ensures.0 (omega arith)
    c.if-size-after_subs.false _ c.in_err-read_all.ensures)

pub returns-in_err-read_all-2 : goal.returns-in_err-read_all-2
returns-in_err-read_all-2 c =
    answered _ _
    (handed _ _ c.from_residual-in_err-read_all-2.ensures
    ∙ load_reach _ c.if-size-lt-LEAST_BYTES.false c.word-n.ensures.0 (omega arith) (omega arith) c.word-m.ensures.0 (omega arith)
    c.if-size-after_subs.false c.in_ok-read_all.ensures.0 _ c.in_err-read_all-2.ensures)

pub returns : goal.returns
returns c =
    let subs = c.in_ok-read_all.ensures in
    let reaches = c.in_ok-read_all-2.ensures in
    answered _ (Ok _)
    (load_all _ c.if-size-lt-LEAST_BYTES.false c.word-n.ensures.0 (omega arith) (omega arith) c.word-m.ensures.0 (omega arith)
    c.if-size-after_subs.false subs.0 reaches.0 (subs_table _ _ (default_blank _ c.default-subs.ensures) subs.1) (reaches_table _ _ _ _ c.default-reaches.ensures reaches.1))
