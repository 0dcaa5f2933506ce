-- The way back from the paper's numbers to outcomes: one outcome only has each list of them. Assumes nothing.
use Prim.Native.Nat.{ℕ, ◌+◌, ◌-◌}
use mathlib.Core.Path.{◌≡◌, refl, sym, ap, ◌∙◌}
use mathlib.Core.Bool.{Bool, false}
use mathlib.Core.List.{List}
use native.Mathlib.Omega.{arith}
use lib.Dec.{eqb}
use lib.ListN.{length, get_or}
use Rattle.basis.specs.Choice.{pick}
use Rattle.runtime.specs.declared.CoreTrap.TheVariants.{InvalidPc, InvalidRegister, TypeMismatch, DivisionByZero, IntegerOverflow, FuelExceeded, CallDepthExceeded, InvalidFunction, AssertFailed, ExplicitTrap}
use Rattle.runtime.specs.Trap.{trap_code}
use Rattle.runtime.proofs.Unique.{trap_at, trap_back}
use Rattle.value.specs.declared.result.CoreStatus.{CoreStatus}
use Rattle.value.specs.declared.result.CoreStatus.TheVariants.{Returned, Trapped}
use Rattle.value.specs.declared.result.CoreResult.{CoreResult}
use Rattle.value.specs.Value.{register, value_at, word_of}
use Rattle.value.specs.Result.{status_word}
use Rattle.value.proofs.Words as words
use Rattle.image.specs.declared.ImageFault.TheVariants.{Short, Form, Layout, FunctionTable, Instruction}
use Rattle.image.proofs.Unique.{fault_of}
use Rattle.exec.specs.declared.Refusal.{Refusal}
use Rattle.exec.specs.declared.Refusal.TheVariants.{Image, FrameRoom, RegisterRoom}
use Rattle.runtime.specs.declared.CoreTrap.{CoreTrap}
use Rattle.std.specs.Prelude.{Result, Ok, Err}
use Rattle.firm.specs.Firm.{HeldResult, HeldOutcome, HeldExecution}
use Rattle.exec.specs.Execute.{refusal_numbers, outcome_numbers, value_in, execution_numbers}

-- ---- traps, statuses, results
status_at : ℕ → CoreStatus
status_at n = pick (eqb n 0) Returned (Trapped (trap_at (n - 1)))

status_back : (s : CoreStatus) → status_at (status_word s) ≡ s
unfolding status_at trap_at
status_back Returned = refl
status_back (Trapped InvalidPc) = refl
status_back (Trapped InvalidRegister) = refl
status_back (Trapped TypeMismatch) = refl
status_back (Trapped DivisionByZero) = refl
status_back (Trapped IntegerOverflow) = refl
status_back (Trapped FuelExceeded) = refl
status_back (Trapped CallDepthExceeded) = refl
status_back (Trapped InvalidFunction) = refl
status_back (Trapped AssertFailed) = refl
status_back (Trapped ExplicitTrap) = refl

-- a result by its status, kind, payload and fuel, which stand after an answer's number
result_at : List ℕ → CoreResult
result_at ns =
    record {
      status = status_at (get_or ns 1 0);
      return_value = value_in (value_at (register (get_or ns 2 0) (get_or ns 3 0)));
      fuel_used = get_or ns 4 0;
    }

-- a refusal by its number and what it answers with
refusal_at : List ℕ → Refusal
refusal_at ns =
    let is : ℕ → Bool = λ k. eqb (get_or ns 0 0) k in
    pick (is 6) (FrameRoom (get_or ns 1 0)) (pick (is 7) (RegisterRoom (get_or ns 1 0)) (Image (fault_of ns)))

outcome_at : List ℕ → Result CoreResult Refusal
outcome_at ns = pick (eqb (get_or ns 0 0) 0) (Ok (result_at ns)) (Err (refusal_at ns))

value_back : (r : CoreResult) → HeldResult r → value_in (value_at (word_of r.return_value)) ≡ r.return_value
unfolding value_in
value_back r h = rw (words.found r.return_value h)

refusal_back : (r : Refusal) → refusal_at (refusal_numbers r) ≡ r
unfolding refusal_at fault_of
refusal_back (Image Short) = refl
refusal_back (Image Form) = refl
refusal_back (Image Layout) = refl
refusal_back (Image (FunctionTable k)) = refl
refusal_back (Image (Instruction k)) = refl
refusal_back (FrameRoom used) = refl
refusal_back (RegisterRoom used) = refl

-- no refusal has the number 0
refusal_number : (r : Refusal) → eqb (get_or (refusal_numbers r) 0 0) 0 ≡ false
refusal_number (Image Short) = refl
refusal_number (Image Form) = refl
refusal_number (Image Layout) = refl
refusal_number (Image (FunctionTable k)) = refl
refusal_number (Image (Instruction k)) = refl
refusal_number (FrameRoom used) = refl
refusal_number (RegisterRoom used) = refl

outcome_back : (o : Result CoreResult Refusal) → HeldOutcome o → outcome_at (outcome_numbers o) ≡ o
unfolding outcome_at result_at word_of
outcome_back (Ok r) h = rw (status_back r.status, value_back r h)
outcome_back (Err r) h = rw (refusal_number r) (ap Err (refusal_back r))

pub outcome_unique : (a b : Result CoreResult Refusal) → HeldOutcome a → HeldOutcome b → outcome_numbers a ≡ outcome_numbers b → a ≡ b
outcome_unique a b h k e = sym (outcome_back a h) ∙ ap outcome_at e ∙ outcome_back b k

-- `execute` the same; a trap has two numbers, a result five
execution_at : List ℕ → Result (Result CoreResult CoreTrap) Refusal
execution_at ns =
    pick (eqb (get_or ns 0 0) 0) (Ok (pick (eqb (length ns) 2) (Err (trap_at (get_or ns 1 0 - 1))) (Ok (result_at ns)))) (Err (refusal_at ns))

execution_back : (o : Result (Result CoreResult CoreTrap) Refusal) → HeldExecution o → execution_at (execution_numbers o) ≡ o
unfolding execution_at result_at word_of
execution_back (Ok (Ok r)) h = rw (status_back r.status, value_back r h)
execution_back (Ok (Err t)) h = let e : 1 + trap_code t - 1 ≡ trap_code t = omega arith in rw e (ap (λ u. Ok (Err u)) (trap_back t))
execution_back (Err r) h = rw (refusal_number r) (ap Err (refusal_back r))

pub execution_unique : (a b : Result (Result CoreResult CoreTrap) Refusal) → HeldExecution a → HeldExecution b → execution_numbers a ≡ execution_numbers b → a ≡ b
execution_unique a b h k e = sym (execution_back a h) ∙ ap execution_at e ∙ execution_back b k
