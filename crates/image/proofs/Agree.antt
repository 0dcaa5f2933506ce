-- The check finds no fault exactly in the well-formed, whatever the layout of records. Assumes nothing.
use Prim.Native.Nat.{ℕ, ◌≤◌, ◌<◌}
use mathlib.Core.Path.{◌≡◌}
use mathlib.Core.List.{List, [], ◌∷◌}
use mathlib.Core.Logic.{◌↔◌}
use lib.ListN.{length}
use Rattle.basis.proofs.Says.{Says, Tests, says_demand, says_both, says_each, tests_both, tests_lt, tests_le, tests_eq}
use Rattle.instr.specs.declared.Instr.{Instr}
use Rattle.image.specs.Fields.{most, fields_of}
use Rattle.image.specs.Records.{header_of, function_no, RecordLayout, function_place, instr_place, instr_no, start_of}
use Rattle.image.specs.Image.{layout_holds, row_fault, table_fault, within, record_holds, record_fault, image_fault}
use Rattle.image.specs.WellFormed.{Lawful, WellFormed}

tests_record : (i : Instr) → Tests (record_holds i) (Lawful i)
unfolding record_holds within
tests_record i =
    let u = fields_of i.op in
    let t = tests_both _ _ (tests_lt i.op 56) (tests_both _ _ (tests_le i.small (most u.small)) (tests_both _ _ (tests_le i.a (most u.a)) (tests_both _ _ (tests_le i.b (most u.b)) (tests_both _ _ (tests_le i.c (most u.c)) (tests_le i.w (most u.w)))))) in (
      λ e. let x = t.0 e in record { opcode = x.0; small = x.1.0; a = x.1.1.0; b = x.1.1.1.0; c = x.1.1.1.1.0; w = x.1.1.1.1.1 },
      λ r. t.1 (r.opcode, (r.small, (r.a, (r.b, (r.c, r.w))))),
    )

module _ (L : RecordLayout) (s : List ℕ) where
  says_function : (k : ℕ) → Says (row_fault s k) (((function_no s k).zero ≡ 0) × ((function_no s k).first ≡ start_of s k))
  unfolding row_fault
  says_function k = says_demand _ _ _ (tests_both _ _ (tests_eq _ _) (tests_eq _ _))

  says_record : (k : ℕ) → Says (record_fault (instr_no L s) k) (Lawful (instr_no L s k))
  unfolding record_fault
  says_record k = says_demand _ _ _ (tests_record (instr_no L s k))

  -- the rules of the image in the order of the check
  abbrev Rules : Type 0
  Rules =
      let h = header_of s in
      let end = instr_place L h.functions h.instructions in
      (24 ≤ length s)
      × ((h.form ≡ L.form)
      × (((h.table ≡ function_place 0) × ((h.code ≡ function_place h.functions) × ((h.total ≡ end) × (length s ≡ end))))
      × ((((k : ℕ) → k < h.functions → ((function_no s k).zero ≡ 0) × ((function_no s k).first ≡ start_of s k)) × (start_of s h.functions ≡ h.instructions))
      × ((k : ℕ) → k < h.instructions → Lawful (instr_no L s k)))))

  says_rules : Says (image_fault L s) Rules
  unfolding image_fault table_fault layout_holds
  says_rules =
      let h = header_of s in
      let end = instr_place L h.functions h.instructions in
      let layout = says_demand _ 3 (0 ∷ []) (tests_both _ _ (tests_eq h.table (function_place 0)) (tests_both _ _ (tests_eq h.code (function_place h.functions)) (tests_both _ _ (tests_eq h.total end) (tests_eq (length s) end)))) in
      let functions = says_each (row_fault s) _ h.functions says_function in
      let sum = says_demand _ 4 (h.functions ∷ []) (tests_eq (start_of s h.functions) h.instructions) in
      let records = says_each (record_fault (instr_no L s)) _ h.instructions says_record in
      says_both _ _ (says_demand _ 1 (0 ∷ []) (tests_le 24 (length s)))
      (says_both _ _ (says_demand _ 2 (0 ∷ []) (tests_eq h.form L.form))
      (says_both _ _ layout (says_both _ _ (says_both _ _ functions sum) records)))

  pub well_formed : (image_fault L s ≡ []) ↔ WellFormed L s
  well_formed = (
    λ e.
        let x = says_rules.0 e in
        record {
          long = x.0;
          form = x.1.0;
          table = x.1.1.0.0;
          code = x.1.1.0.1.0;
          total = x.1.1.0.1.1.0;
          size = x.1.1.0.1.1.1;
          zeros = λ k q. (x.1.1.1.0.0 k q).0;
          joins = λ k q. (x.1.1.1.0.0 k q).1;
          sum = x.1.1.1.0.1;
          records = x.1.1.1.1;
        },
    λ W.
        says_rules.1 (
          W.long,
          (
            W.form,
            ((W.table, (W.code, (W.total, W.size))), (((λ k q. (W.zeros k q, W.joins k q), W.sum)), W.records)),
          ),
        ),
  )
