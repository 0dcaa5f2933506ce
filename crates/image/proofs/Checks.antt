-- What each step of the check comes to, over plain numbers. Assumes nothing.
use Prim.Native.Nat.{ℕ, ◌+◌, ◌≤◌, ◌<◌}
use mathlib.Core.Bool.{true, false}
use mathlib.Core.Path.{◌≡◌, refl, sym, ◌∙◌, ap}
use mathlib.Core.List.{List, [], ◌∷◌}
use lib.ListN.{length}
use native.Mathlib.Numerals.{add-one}
use borrow.Author.Tests.{eq-eqb, ne_eqb, le-leb, lt-leb}
use Rattle.basis.specs.Answers.{is_fine, or_else, first_of}
use Rattle.basis.proofs.First.{first_more, first_here}
use Rattle.basis.proofs.Says.{tests_both, tests_eq}
use Rattle.instr.specs.declared.Instr.{Instr}
use Rattle.image.specs.Records.{header_of, function_no, RecordLayout, function_place, instr_place, instr_no, start_of}
use Rattle.image.specs.Image.{fault_numbers, layout_holds, row_fault, table_fault, record_holds, record_fault, image_fault}
use Rattle.image.specs.declared.record.Header.{Header}
use Rattle.image.specs.declared.record.FunctionRecord.{FunctionRecord}
use Rattle.image.specs.declared.ImageFault.{ImageFault}
use Rattle.image.specs.declared.ImageFault.TheVariants.{Short, Form, Layout, FunctionTable, Instruction}

-- where the layout holds, the records end where the bytes do
pub layout_ends : (L : RecordLayout) (h : Header) (len : ℕ) → true ≡ layout_holds L h len → len ≡ instr_place L h.functions h.instructions
unfolding layout_holds
layout_ends L h len e =
    let end = instr_place L h.functions h.instructions in
    let t = tests_both _ _ (tests_eq h.table (function_place 0)) (tests_both _ _ (tests_eq h.code (function_place h.functions)) (tests_both _ _ (tests_eq h.total end) (tests_eq len end))) in
    (t.0 (sym e)).1.1.1

-- ---- a turn of the loop over instructions
module _ (instr : ℕ → Instr) (k : ℕ) (i : Instr) (e : i ≡ instr k) (none : first_of (record_fault instr) k ≡ []) where
  pub record_right : record_holds i ≡ true → first_of (record_fault instr) (k + 1) ≡ []
  unfolding record_fault
  record_right h = first_more (record_fault instr) k none (rw (← e, h))

  pub record_wrong : (n : ℕ) → k < n → record_holds i ≡ false → 5 ∷ k ∷ [] ≡ first_of (record_fault instr) n
  unfolding record_fault
  record_wrong n l h = sym (first_here (record_fault instr) k n 5 (k ∷ []) l none (rw (← e, h)))

-- ---- the loop over functions: its start, and a turn
pub start_none : (s : List ℕ) → 0 ≡ start_of s 0
unfolding start_of
start_none s = refl

module _ (s : List ℕ) (k start : ℕ) (f : FunctionRecord) (e : f ≡ function_no s k) (at : start ≡ start_of s k) (none : first_of (row_fault s) k ≡ []) where
  pub row_right : f.zero ≡ 0 → f.first ≡ start → first_of (row_fault s) (k + 1) ≡ []
  unfolding row_fault
  row_right z j = first_more (row_fault s) k none (rw (← e, ← at, eq-eqb _ _ z, eq-eqb _ _ j))

  pub start_next : f.first ≡ start → start + f.count ≡ start_of s (k + 1)
  unfolding start_of
  start_next j = rw (add-one, ← e, at)

  pub row_spare : (n total : ℕ) → k < n → (f.zero ≡ 0 → ⊥) → 4 ∷ k ∷ [] ≡ table_fault s n total
  unfolding table_fault row_fault
  row_spare n total l z = rw (first_here (row_fault s) k n 4 (k ∷ []) l none (rw (← e, ne_eqb _ _ z)))

  pub row_apart : (n total : ℕ) → k < n → f.zero ≡ 0 → (f.first ≡ start → ⊥) → 4 ∷ k ∷ [] ≡ table_fault s n total
  unfolding table_fault row_fault
  row_apart n total l z j =
      rw (first_here (row_fault s) k n 4 (k ∷ []) l none (rw (← e, ← at, eq-eqb _ _ z, ne_eqb _ _ j)))

-- ---- the sum of the counts
module _ (s : List ℕ) (n total start : ℕ) (at : start ≡ start_of s n) (none : first_of (row_fault s) n ≡ []) where
  pub sum_wrong : (start ≡ total → ⊥) → 4 ∷ n ∷ [] ≡ table_fault s n total
  unfolding table_fault
  sum_wrong h = rw (none, ← at, ne_eqb _ _ h)

  pub sum_right : start ≡ total → [] ≡ table_fault s n total
  unfolding table_fault
  sum_right h = rw (none, ← at, eq-eqb _ _ h)

-- ---- the whole
pub fault_first : (f : ImageFault) (b : List ℕ) → or_else (fault_numbers f) b ≡ fault_numbers f
fault_first Short b = refl
fault_first Form b = refl
fault_first Layout b = refl
fault_first (FunctionTable k) b = refl
fault_first (Instruction k) b = refl

pub fault_unfine : (f : ImageFault) → false ≡ is_fine (fault_numbers f)
fault_unfine Short = refl
fault_unfine Form = refl
fault_unfine Layout = refl
fault_unfine (FunctionTable k) = refl
fault_unfine (Instruction k) = refl

module _ (L : RecordLayout) (s : List ℕ) where
  pub at_short : length s < 24 → fault_numbers Short ≡ image_fault L s
  unfolding image_fault
  at_short l = rw (lt-leb _ _ l)

  module _ (long : 24 ≤ length s) (h : Header) (e : h ≡ header_of s) where
    pub at_form : (h.form ≡ L.form → ⊥) → fault_numbers Form ≡ image_fault L s
    unfolding image_fault
    at_form n = rw (le-leb _ _ long, ← e, ne_eqb _ _ n)

    module _ (form : h.form ≡ L.form) where
      pub at_layout : layout_holds L h (length s) ≡ false → fault_numbers Layout ≡ image_fault L s
      unfolding image_fault
      at_layout t = rw (le-leb _ _ long, ← e, eq-eqb _ _ form, t)

      module _ (fits : layout_holds L h (length s) ≡ true) where
        pub at_table : (f : ImageFault) → fault_numbers f ≡ table_fault s h.functions h.instructions → fault_numbers f ≡ image_fault L s
        unfolding image_fault
        at_table f t = rw (le-leb _ _ long, ← e, eq-eqb _ _ form, fits, ← t, fault_first)

        to_records : [] ≡ table_fault s h.functions h.instructions → image_fault L s ≡ first_of (record_fault (instr_no L s)) h.instructions
        unfolding image_fault
        to_records t = rw (le-leb _ _ long, ← e, eq-eqb _ _ form, fits, ← t)

        pub at_records : [] ≡ table_fault s h.functions h.instructions → (ns : List ℕ) → ns ≡ first_of (record_fault (λ (k : ℕ). L.instr_at s (instr_place L h.functions k))) h.instructions → ns ≡ image_fault L s
        at_records t ns q =
            q
            ∙ (ap (λ (g : Header). first_of (record_fault (λ (k : ℕ). L.instr_at s (instr_place L g.functions k))) h.instructions) e
            ∙ sym (to_records t))
