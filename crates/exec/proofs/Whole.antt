-- What the public functions answer, by what the functions below them do. Assumes nothing.
use Prim.Native.Nat.{ℕ, ◌+◌, ◌<◌}
use mathlib.Core.Path.{◌≡◌, refl, sym, ap, ◌∙◌}
use mathlib.Core.Bool.{true, false, ◌&&◌}
use mathlib.Core.List.{List, [], ◌∷◌}
use native.Mathlib.Omega.{arith}
use lib.Dec.{eqb, ltb}
use lib.ListN.{length, get_or, take}
use borrow.Author.Tests.{lt-ltb}
use Rattle.std.specs.Prelude.{Some, None, Result, Ok, Err, IsErrAnd}
use Rattle.basis.specs.Choice.{pick}
use Rattle.runtime.specs.Trap.{trap_code}
use Rattle.value.specs.declared.result.CoreStatus.{CoreStatus}
use Rattle.value.specs.declared.result.CoreStatus.TheVariants as status
use Rattle.value.specs.declared.result.CoreResult.{CoreResult}
use Rattle.image.specs.Records.{form1}
use Rattle.image.specs.Image.{fault_numbers, image_fault}
use Rattle.image.specs.Program.{decode}
use Rattle.image.specs.declared.ImageFault.{ImageFault}
use Rattle.image.specs.declared.ImageFault.TheVariants.{Short, Form, Layout, FunctionTable, Instruction}
use Rattle.image.proofs.Checks.{fault_unfine}
use Rattle.exec.specs.declared.Ending.{Ending}
use Rattle.exec.specs.declared.Refusal.{Refusal}
use Rattle.exec.specs.declared.Refusal.TheVariants.{Image, FrameRoom, RegisterRoom}
use Rattle.exec.specs.Price.{unit}
use Rattle.exec.specs.Lent.{state}
use Rattle.exec.specs.Step.{stepped, stands, round, found, step_found}
use Rattle.exec.specs.Run.{final}
use Rattle.exec.specs.Execute.{result_numbers, outcome_numbers, outcome_of, entered, executed, ended, execution, by_status, settled, execution_numbers, trap_alone}

module _ (s : List ℕ) where
  -- ---- one step
  module _ (most : ℕ) (fr rg : List ℕ) (d : ℕ) where
    pub found_fault : (f : ImageFault) → fault_numbers f ≡ image_fault form1 s → found None fr rg ≡ step_found form1 s most (state fr rg d)
    unfolding step_found
    found_fault f e = rw (← e, ← fault_unfine f)

    pub found_none : [] ≡ image_fault form1 s → stands (decode form1 s) fr (length rg) d ≡ false → found None fr rg ≡ step_found form1 s most (state fr rg d)
    unfolding step_found
    found_none e h = rw (← e, h)

    pub found_step : [] ≡ image_fault form1 s → stands (decode form1 s) fr (length rg) d ≡ true → (x : Result ℕ Ending) (fr' rg' : List ℕ)
        → stepped x fr' rg' ≡ round (decode form1 s) most (state fr rg d) → found (Some x) fr' rg' ≡ step_found form1 s most (state fr rg d)
    unfolding step_found
    found_step e h x fr' rg' q = rw (← e, h, ← q)

  -- ---- an execution
  module _ (most fuel : ℕ) (fr rg : List ℕ) where
    pub ends_fault : (f : ImageFault) → fault_numbers f ≡ image_fault form1 s → executed (fault_numbers f) fr rg ≡ execution form1 unit s most fuel fr rg
    unfolding execution
    ends_fault f e = rw (← e, ← fault_unfine f)

    -- as `?` refuses it
    pub ends_refused : (f : ImageFault) → fault_numbers f ≡ image_fault form1 s → (o : Result CoreResult Refusal) → IsErrAnd o (λ r. r ≡ Image f)
        → executed (outcome_numbers o) fr rg ≡ execution form1 unit s most fuel fr rg
    ends_refused f e (Ok r) none = absurd none
    ends_refused f e (Err r) of = rw of (ends_fault f e)

    pub fine_run : [] ≡ image_fault form1 s → ended (entered (decode form1 s) unit most fuel fr rg) ≡ execution form1 unit s most fuel fr rg
    unfolding execution
    fine_run e = sym (rw (← e))

    pub ends_run : [] ≡ image_fault form1 s → (o : Result CoreResult Refusal) (what : Ending) (used : ℕ) (fr' rg' : List ℕ) → o ≡ outcome_of what used
        → final what used fr' rg' ≡ entered (decode form1 s) unit most fuel fr rg → executed (outcome_numbers o) fr' rg' ≡ execution form1 unit s most fuel fr rg
    ends_run e o what used fr' rg' a q = ap (λ (x : Result CoreResult Refusal). executed (outcome_numbers x) fr' rg') a ∙ (ap ended q ∙ fine_run e)

-- ---- a trap by itself
abbrev alone : List ℕ → List ℕ
alone ns = pick (eqb (get_or ns 0 0) 0 && ltb 0 (get_or ns 1 0)) (take 2 ns) ns

result_alone : (r : CoreResult) (st : CoreStatus) → r.status ≡ st → execution_numbers (Ok (by_status st r)) ≡ alone (0 ∷ result_numbers r)
result_alone r status.Returned e = rw e
result_alone r (status.Trapped t) e = let l : 0 < 1 + trap_code t = omega arith in rw (e, lt-ltb 0 (1 + trap_code t) l)

fault_alone : (f : ImageFault) → fault_numbers f ≡ alone (fault_numbers f)
fault_alone Short = refl
fault_alone Form = refl
fault_alone Layout = refl
fault_alone (FunctionTable k) = refl
fault_alone (Instruction k) = refl

numbers_alone : (o : Result CoreResult Refusal) → execution_numbers (settled o) ≡ alone (outcome_numbers o)
unfolding settled
numbers_alone (Ok r) = result_alone r r.status refl
numbers_alone (Err (Image fault)) = fault_alone fault
numbers_alone (Err (FrameRoom used)) = refl
numbers_alone (Err (RegisterRoom used)) = refl

pub settled_alone : (o : Result CoreResult Refusal) (fr rg : List ℕ) → executed (execution_numbers (settled o)) fr rg ≡ trap_alone (executed (outcome_numbers o) fr rg)
settled_alone o fr rg = ap (λ (ns : List ℕ). executed ns fr rg) (numbers_alone o)
