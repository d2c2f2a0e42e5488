-- `curve::roots::near` meets its contract: by the printed table r is not 0. Assumes nothing.
use mathlib.Core.Path.{◌≡◌}
use Prim.Native.Nat.{◌*◌, ◌/◌}
use native.Mathlib.Nat.{div-le_self}
use native.Mathlib.Omega.{arith}
use Rattle.common.specs.Shares.{one}
use Rattle.curve.specs.Capacity.{root}
use Rattle.curve.proofs.roots.LeadLaws.{entry_least, step_least, step_most}
use Rattle.curve.proofs.roots.near.Goals as goal

pub returns-in_err-q : goal.returns-in_err-q
returns-in_err-q c =
    rw c.from_residual-in_err-q.ensures
    (λ e. c.in_err-q.ensures (omega (arith, c.in_ok-r.ensures.1 e, entry_least (c.args.t / 64) (omega arith))))

pub returns : goal.returns
returns c =
    let t = c.args.t in
    let k = t / 64 in
    let r = c.in_ok-r.field-0 * 8 in
    let q : c.in_ok-q.q ≡ t * one / r = c.in_ok-q.ensures.1 in (
      omega (arith, q, div-le_self (t * one) r, c.in_ok-r.ensures),
      λ e. let start : r ≡ root k * 8 = omega (arith, c.in_ok-r.ensures.1 e) in (
        omega (arith, q, step_least t k r (omega arith) (omega arith) (omega arith) start),
        omega (arith, q, step_most t k r (omega arith) (omega arith) (omega arith) start),
      ),
    )
