-- An instruction that is read and charged for. Assumes nothing.
use Prim.Native.Nat.{ℕ, ◌+◌, ◌*◌, ◌-◌, ◌≤◌, ◌<◌}
use mathlib.Core.Path.{◌≡◌, ap}
use mathlib.Core.List.{List}
use Rattle.instr.specs.declared.Instr.{Instr}
use Rattle.image.specs.Records.{header_of, function_no, form1, form1_instr, instr_place}
use Rattle.image.specs.WellFormed.{WellFormed}
use Rattle.image.specs.Program.{decode}
use Rattle.image.specs.declared.record.FunctionRecord.{FunctionRecord}
use Rattle.exec.specs.Price.{unit}
use Rattle.exec.proofs.Bursts.{Paid}
use Rattle.exec.proofs.Facts.{count_is, instr_is}

module _ (s : List ℕ) (W : WellFormed form1 s) (k : ℕ) (h : k < (header_of s).functions) (f : FunctionRecord) (e : f ≡ function_no s k)
    (code : ℕ) (c : code ≡ instr_place form1 (header_of s).functions f.first) (place left : ℕ) (inside : place < f.count)
    (i : Instr) (q : i ≡ form1_instr s (code + 12 * place)) (cost : ℕ) (z : cost ≡ unit i.op) where
  pub paid : cost ≤ left → Paid (decode form1 s) unit k place left i (left - cost)
  paid l = record {
    instr = instr_is s W k h f e code place i c inside q;
    inside = rw (count_is s W k h f e) at inside;
    fits = rw z at l;
    rest = ap (λ (n : ℕ). left - n) z;
  }
