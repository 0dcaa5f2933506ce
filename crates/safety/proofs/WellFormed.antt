-- What an execution of a well-formed image hands back is a value, whatever the fuel, the depth limit and the lent words. Assumes nothing.
use Prim.Native.Nat.{ℕ, ◌+◌, ◌<◌}
use mathlib.Core.Path.{◌≡◌, refl, ap, subst}
use mathlib.Core.List.{List}
use native.Mathlib.Omega.{arith}
use native.Mathlib.Nat.{not-suc-le-zero}
use lib.Dec.{ltb}
use mathlib.Core.Bool.{Bool, true, false}
use borrow.Author.Tests.{ltb-true, ltb-false}
use lib.ListN.{length}
use Rattle.value.specs.Value.{HoldsValue}
use Rattle.image.specs.Records.{RecordLayout, header_of, function_no, instr_no}
use Rattle.image.specs.WellFormed.{WellFormed}
use Rattle.image.specs.Program.{Function, decode}
use Rattle.operate.specs.Values.{LoadsValue}
use Rattle.image.specs.Parts.{length_of, code_of}
use Rattle.image.proofs.Parts.{function_out, inside}
use Rattle.image.proofs.Numbers.{length-in, code_in}
use Rattle.exec.specs.declared.Ending.TheVariants.{Returned}
use Rattle.exec.specs.Price.{Price, Fair}
use Rattle.exec.specs.Execute.{entered}
use Rattle.safety.proofs.Loads.{lawful_loads}
use Rattle.safety.proofs.Values.{LoadsValues, EndsValued, returns_value}

module _ (L : RecordLayout) (s : List ℕ) (W : WellFormed L s) where
  loads_values : LoadsValues (decode L s)
  loads_values k j l = go (ltb k (header_of s).functions) refl
    where
      go : (b : Bool) → ltb k (header_of s).functions ≡ b → LoadsValue (code_of (decode L s) k j).op (code_of (decode L s) k j)
      go true e =
          let q : k < (header_of s).functions = ltb-true _ _ e in
          let m : j < (function_no s k).count = rw (length-in L s k q) at l in
          rw (code_in L s k q j m) (lawful_loads (instr_no L s ((function_no s k).first + j)) (W.records ((function_no s k).first + j) (omega (arith, inside L s W k q))))
      go false e =
          let none : length_of (decode L s) k ≡ 0 = ap (λ (f : Function). length f.code) (function_out L s k (ltb-false _ _ e)) in
          absurd (not-suc-le-zero (rw none at l))

  pub value_returned : (price : Price) → Fair price → (most fuel : ℕ) (fr rg : List ℕ) (v : ℕ) → (entered (decode L s) price most fuel fr rg).what ≡ Returned v → HoldsValue v
  value_returned price fair most fuel fr rg v e = subst EndsValued e (returns_value (decode L s) price fair most fuel loads_values fr rg)
