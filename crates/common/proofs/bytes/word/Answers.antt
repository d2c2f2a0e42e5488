-- `common::bytes::word` meets its contract. Assumes nothing.
use mathlib.Core.Path.{◌≡◌, ap, ◌∙◌}
use mathlib.Core.List.{List}
use Prim.Native.Nat.{ℕ, ◌+◌, ◌*◌, ◌/◌, ◌^◌, ◌<◌}
use native.Mathlib.Omega.{arith}
use lib.ListN.{length, get_or, get_or-eq_default}
use Rattle.std.proofs.Common.{rules, tests}
use Rattle.std.specs.Int.{w32, from_le_bytes}
use Rattle.common.specs.Loops.{filled, table}
use Rattle.common.specs.Bytes.{word_at}
use Rattle.common.proofs.Tables.{table_full}
use Rattle.common.proofs.bytes.word.Goals as goal

-- no byte of the word is there
past : (f : List ℕ) (i : ℕ) → length f / 4 < i → (0 ≡ word_at f i) × (0 < 2 ^ 32)
unfolding word_at
past f i h =
    rw (
      get_or-eq_default f 0 {n = 4 * i} (omega arith),
      get_or-eq_default f 0 {n = 4 * i + 1} (omega arith),
      get_or-eq_default f 0 {n = 4 * i + 2} (omega arith),
      get_or-eq_default f 0 {n = 4 * i + 3} (omega arith),
    )
    (omega arith)

-- its four bytes make it
of_bytes : (f : List ℕ) (i : ℕ) {b : List ℕ} → b ≡ table (λ k. get_or f (4 * i + k) 0) 0 4 4 → from_le_bytes w32 b ≡ word_at f i
unfolding word_at filled
of_bytes f i e =
    let b : ℕ → ℕ = λ k. get_or f (4 * i + k) 0 in
    let first : b 0 ≡ get_or f (4 * i) 0 = ap (λ (at : ℕ). get_or f at 0) (omega arith) in
    let sum : b 0 + b 1 * 256 + b 2 * 65536 + b 3 * 16777216 ≡ word_at f i = omega (arith, first) in
    ap (from_le_bytes w32) e ∙ sum

pub returns-then-bytes-i : goal.returns-then-bytes-i
returns-then-bytes-i c = past _ _ c.if-bytes-i.true

pub returns : goal.returns
returns c =
    let bytes = table_full (λ k. get_or c.args.bytes.now (4 * c.args.i + k) 0) 0 c.from_fn-word.ensures.items (λ k y q called. search (rules, tests)) in
    omega (arith, of_bytes c.args.bytes.now c.args.i bytes)
