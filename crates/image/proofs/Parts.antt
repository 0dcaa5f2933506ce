-- The parts of a decoded program, by the records of its image. Assumes nothing.
use Prim.Native.Nat.{ℕ, zero, suc, ◌+◌, ◌≤◌, ◌<◌}
use mathlib.Core.Path.{◌≡◌, refl, sym, ◌∙◌, ap}
use mathlib.Core.List.{List}
use mathlib.Core.Logic.{⊎_elim}
use native.Mathlib.Nat.{zero-add, add-zero, add-suc, suc-add, eq-or-lt_of_le, le_of_suc-le-suc, not-suc-le-zero}
use native.Mathlib.Omega.{arith}
use lib.ListN.{length, get_or, get_or-eq_default}
use Rattle.image.specs.Records.{header_of, function_no, RecordLayout, instr_no, start_of}
use Rattle.image.specs.WellFormed.{WellFormed}
use Rattle.image.specs.Program.{listed, function_of, decode, no_instr, no_function, function_in, instr_in}

listed_length : {A : Type 0} (f : ℕ → A) (i n : ℕ) → length (listed f i n) ≡ n
unfolding listed
listed_length f i zero = refl
listed_length f i (suc n) = ap suc (listed_length f (suc i) n)

listed_at : {A : Type 0} (f : ℕ → A) (i n k : ℕ) (d : A) → k < n → get_or (listed f i n) k d ≡ f (i + k)
unfolding listed
listed_at f i zero k d q = absurd (not-suc-le-zero q)
listed_at f i (suc n) zero d q = ap f (sym (add-zero i))
listed_at f i (suc n) (suc k) d q = listed_at f (suc i) n k d (le_of_suc-le-suc q) ∙ ap f (suc-add i k ∙ sym (add-suc i k))

module _ (L : RecordLayout) (s : List ℕ) where
  pub entry_is : (decode L s).entry ≡ (header_of s).entry
  unfolding decode
  entry_is = refl

  pub functions_length : length (decode L s).functions ≡ (header_of s).functions
  unfolding decode
  functions_length = listed_length (function_of L s) 0 (header_of s).functions

  pub function_in_lem : (k : ℕ) → k < (header_of s).functions → function_in (decode L s) k ≡ function_of L s k
  unfolding decode
  function_in_lem k q = listed_at (function_of L s) 0 (header_of s).functions k no_function q ∙ ap (function_of L s) (zero-add k)

  pub function_out : (k : ℕ) → (header_of s).functions ≤ k → function_in (decode L s) k ≡ no_function
  unfolding decode
  function_out k q = get_or-eq_default (decode L s).functions no_function (rw (functions_length) q)

  pub regs_is : (k : ℕ) → (function_of L s k).regs ≡ (function_no s k).regs
  unfolding function_of
  regs_is k = refl

  pub code_length : (k : ℕ) → length (function_of L s k).code ≡ (function_no s k).count
  unfolding function_of
  code_length k = listed_length (instr_no L s) (function_no s k).first (function_no s k).count

  pub code_at : (k j : ℕ) → j < (function_no s k).count → instr_in (function_of L s k) j ≡ instr_no L s ((function_no s k).first + j)
  unfolding function_of
  code_at k j q = listed_at (instr_no L s) (function_no s k).first (function_no s k).count j no_instr q

  -- in a well-formed image each function's instructions lie among all
  module _ (W : WellFormed L s) where
    grows : (m n : ℕ) → m ≤ n → start_of s m ≤ start_of s n
    unfolding start_of
    grows m zero l = let z : m ≡ zero = omega arith in rw z (omega arith)
    grows m (suc n) l =
        ⊎_elim (λ q. rw q (omega arith))
        (λ q. omega (arith, grows m n (le_of_suc-le-suc q))) (eq-or-lt_of_le l)

    pub inside : (k : ℕ) → k < (header_of s).functions → (function_no s k).first + (function_no s k).count ≤ (header_of s).instructions
    unfolding start_of
    inside k q = omega (arith, grows (suc k) (header_of s).functions q, W.sum, W.joins k q)
