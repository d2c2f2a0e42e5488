-- `curve::roots::lead` meets its contract. Assumes nothing.
use native.Mathlib.Omega.{arith}
use Rattle.curve.proofs.capacity.RootLaws.{root_half}
use Rattle.curve.proofs.roots.lead.Goals as goal

pub returns-then-t-ge-ENTRIES : goal.returns-then-t-ge-ENTRIES
returns-then-t-ge-ENTRIES c =
    let near = c.in_ok-near.ensures in
    (omega (arith, near), λ e. omega (arith, near.1 e, root_half c.args.t))
