-- The calls that bytes hold, and the basin and the lines of calls that are taken one after the other. Assumes nothing.
use mathlib.Core.Path.{◌≡◌, refl, sym, ap, ◌∙◌}
use mathlib.Core.List.{List, [], ◌∷◌, ◌++◌, append_assoc, append-nil}
use Prim.Native.Nat.{ℕ, zero, suc, ◌+◌, ◌*◌, ◌%◌, ◌≤◌, ◌<◌}
use native.Mathlib.Nat.{add-zero, add-suc, suc-mul, add-mul}
use native.Mathlib.Nat.{div-eq_of_lt-le, div-mul-le_self, lt-div-mul-add, mod-eq_of_lt, mul-add-mod_self_right}
use native.Mathlib.Omega.{arith}
use lib.ListN.{length, take, drop, length-append, length-drop}
use lib.Seq.{drop-drop, drop-append-le, take-append-le}
use Rattle.forcing.specs.File.{lines_of}
use Rattle.basin.specs.declared.state.Basin.{Basin}
use Rattle.basin.specs.Calls.{Call, last_basin}
use Rattle.basin.specs.Step.{step_call}
use Rattle.program.specs.Print.{step_bytes, call_at, calls_in, whole_steps, part_bytes, step_text, steps_text}

-- ---- calls taken one after the other

module _ (ds : List Call) where
  pub last_append : (b : Basin) (cs : List Call) → last_basin b (cs ++ ds) ≡ last_basin (last_basin b cs) ds
  unfolding last_basin
  last_append b [] = refl
  last_append b (c ∷ cs) = last_append (step_call b c.lines c.count).basin cs

  pub text_append : (b : Basin) (done : ℕ) (cs : List Call)
      → steps_text b done (cs ++ ds) ≡ steps_text b done cs ++ steps_text (last_basin b cs) (done + length cs) ds
  unfolding last_basin steps_text
  text_append b done [] = ap (λ (k : ℕ). steps_text b k ds) (sym (add-zero done))
  text_append b done (c ∷ cs) =
      let o = step_call b c.lines c.count in
      let line = step_text (suc done) o.number o.place o.report in
      let e : suc done + length cs ≡ done + suc (length cs) = omega arith in
      ap (λ (l : List ℕ). line ++ l)
      (text_append o.basin (suc done) cs
      ∙ ap (λ (k : ℕ). steps_text o.basin (suc done) cs ++ steps_text (last_basin o.basin cs) k ds) e)
      ∙ sym (append_assoc line (steps_text o.basin (suc done) cs) (steps_text (last_basin o.basin cs) (done + suc (length cs)) ds))

-- ---- the calls that bytes hold

module _ (n : ℕ) where
  pub calls_length : (bytes : List ℕ) (k : ℕ) → length (calls_in n bytes k) ≡ k
  unfolding calls_in
  calls_length bytes zero = refl
  calls_length bytes (suc k) = length-append (calls_in n bytes k) (call_at n bytes k ∷ []) ∙ omega (arith, calls_length bytes k)

  -- those from step k on are the calls of what lies past it
  call_past : (bytes : List ℕ) (k j : ℕ) → call_at n bytes (k + j) ≡ call_at n (drop (k * step_bytes n) bytes) j
  unfolding call_at
  call_past bytes k j = rw (drop-drop (j * step_bytes n) (k * step_bytes n) bytes, add-mul k j (step_bytes n))

  pub calls_past : (bytes : List ℕ) (k j : ℕ)
      → calls_in n bytes (k + j) ≡ calls_in n bytes k ++ calls_in n (drop (k * step_bytes n) bytes) j
  unfolding calls_in
  calls_past bytes k zero = rw (add-zero k) (sym (append-nil (calls_in n bytes k)))
  calls_past bytes k (suc j) =
      rw (add-suc k j, calls_past bytes k j, call_past bytes k j)
      (append_assoc (calls_in n bytes k) (calls_in n (drop (k * step_bytes n) bytes) j) (call_at n (drop (k * step_bytes n) bytes) j ∷ []))

  -- a step that has come whole is the same whatever comes after it
  call_more : (bytes more : List ℕ) (k : ℕ) → suc k * step_bytes n ≤ length bytes → call_at n (bytes ++ more) k ≡ call_at n bytes k
  unfolding call_at
  call_more bytes more k h =
      let enough = suc-mul k (step_bytes n) in
      ap (λ (l : List ℕ). record { lines = lines_of l n; count = n })
      (ap (take (step_bytes n)) (drop-append-le (k * step_bytes n) bytes more (omega arith))
      ∙ take-append-le (step_bytes n) (drop (k * step_bytes n) bytes) more (omega (arith, length-drop (k * step_bytes n) bytes)))

  pub calls_more : (bytes more : List ℕ) (k : ℕ) → k * step_bytes n ≤ length bytes → calls_in n (bytes ++ more) k ≡ calls_in n bytes k
  unfolding calls_in
  calls_more bytes more zero h = refl
  calls_more bytes more (suc k) h =
      rw (call_more bytes more k h, calls_more bytes more k (omega (arith, suc-mul k (step_bytes n))))

  -- ---- whole steps and a rest

  module _ (bytes : List ℕ) (done kept : ℕ) (came : length bytes ≡ done * step_bytes n + kept) (short : kept < step_bytes n) where
    pub whole_is : done ≡ whole_steps n bytes
    unfolding whole_steps
    whole_is = sym (div-eq_of_lt-le (step_bytes n) (omega arith) (omega (arith, suc-mul done (step_bytes n))))

    pub part_is : kept ≡ part_bytes n bytes
    unfolding part_bytes
    part_is =
        sym (ap (λ (k : ℕ). k % step_bytes n) came ∙ mul-add-mod_self_right done (step_bytes n) kept ∙ mod-eq_of_lt short)

  pub whole_least : (bytes : List ℕ) → whole_steps n bytes * step_bytes n ≤ length bytes
  unfolding whole_steps
  whole_least bytes = div-mul-le_self (length bytes) (step_bytes n)

  pub whole_most : 1 ≤ n → (bytes : List ℕ) → length bytes < whole_steps n bytes * step_bytes n + step_bytes n
  unfolding whole_steps
  whole_most some bytes = lt-div-mul-add (omega arith)

  module _ (bytes more : List ℕ) (done : ℕ) (past : done * step_bytes n ≤ length bytes) where
    -- the rest, and what comes after it, are what lies past the whole steps
    pub rest_more : drop (done * step_bytes n) bytes ++ more ≡ drop (done * step_bytes n) (bytes ++ more)
    rest_more = sym (drop-append-le (done * step_bytes n) bytes more past)

    -- the whole steps, and then those of the rest with what comes after it
    pub calls_rest : (steps : ℕ)
        → calls_in n bytes done ++ calls_in n (drop (done * step_bytes n) bytes ++ more) steps ≡ calls_in n (bytes ++ more) (done + steps)
    calls_rest steps = sym (calls_past (bytes ++ more) done steps ∙ rw (calls_more bytes more done past, ← rest_more))
