-- An accepted program's run is safe, whatever the price, the fuel, the depth limit and the lent words. Assumes nothing.
use Prim.Native.Nat.{ℕ, zero, suc, ◌+◌, ◌-◌, ◌≤◌, ◌<◌}
use mathlib.Core.Path.{◌≡◌, refl, sym, ap, ◌∙◌, subst}
use mathlib.Core.List.{List, []}
use mathlib.Core.Logic.{◌≢◌}
use native.Mathlib.Nat.{not-suc-le-zero, le_of_suc-le-suc}
use native.Mathlib.Omega.{arith}
use lib.ListN.{length}
use Rattle.runtime.specs.declared.CoreTrap.{CoreTrap}
use Rattle.runtime.specs.declared.CoreTrap.TheVariants.{InvalidPc, InvalidRegister, FuelExceeded, InvalidFunction}
use Rattle.runtime.specs.declared.CoreAdmissionProfile.{CoreAdmissionProfile}
use Rattle.runtime.specs.Trap.{trap_code}
use Rattle.image.specs.Records.{RecordLayout, header_of, function_no}
use Rattle.image.specs.WellFormed.{WellFormed}
use Rattle.image.specs.Program.{Program, decode}
use Rattle.image.specs.Parts.{functions_of, regs_of, length_of}
use Rattle.image.proofs.Parts.{functions_length, inside}
use Rattle.image.proofs.Numbers.{length-in, code_in}
use Rattle.admission.specs.Verdict.{verdict}
use Rattle.admission.specs.Admissible.{Admissible}
use Rattle.admission.proofs.Agree.{admitted}
use Rattle.exec.specs.declared.Ending.{Ending}
use Rattle.exec.specs.declared.Ending.TheVariants.{Trapped, FrameRoom, RegisterRoom}
use Rattle.exec.specs.Price.{Price, Fair}
use Rattle.exec.specs.Lent.{State, top_at}
use Rattle.exec.specs.Step.{stops, step, Inside}
use Rattle.exec.specs.Run.{final, run}
use Rattle.exec.specs.Execute.{entry_state, entered}
use Rattle.exec.proofs.Entry.{entry_stands}
use Rattle.course.specs.Course.{after, charged, Refused, Stop, Course}
use Rattle.course.specs.Course.Stop.{past, dry, acts}
use Rattle.course.proofs.Courses.{end_code, run_course}
use Rattle.course.proofs.Words.{entry_function, entry_place}
use Rattle.course.proofs.Entered.{entered_cases}
use Rattle.course.proofs.Along.{along, at_end}
use Rattle.safety.specs.Safe.{Safe}
use Rattle.safety.proofs.Linked.{Sure, Linked, SoundEnd, step_linked}
use Rattle.std.specs.Prelude.{Result, Ok, Err, Option, Some, None}

-- two endings told apart by their codes
unlike : (e f : Ending) → (end_code e ≡ end_code f → ⊥) → e ≢ f
unlike e f h q = h (ap end_code q)

-- every function has an instruction
abbrev Peopled : Program → Type 0
Peopled p = (k : ℕ) → k < functions_of p → 1 ≤ length_of p k

module _ (p : Program) (price : Price) (fair : Fair price) (most fuel : ℕ) (sure : Sure p) where
  module _ (s : State) (h : Linked p s) where
    c : Course p price most fuel s (run p price most fuel s)
    c = run_course p price most fair fuel s

    -- where its steps lead
    abbrev last : State
    last = after p most c.steps s

    abbrev AtLast : Type 0
    AtLast = Stop p price most (fuel - charged p price most c.steps s) last (run p price most fuel s).what c.last

    last_linked : Linked p last
    last_linked = along p most (Linked p) SoundEnd (λ t l i. step_linked p sure t l i most) c.steps s c.leads h

    last_sound : Inside p last → step p most last ≡ stops last (Err (run p price most fuel s).what) → SoundEnd (run p price most fuel s).what
    last_sound i q = at_end p most (Linked p) SoundEnd (λ t l i. step_linked p sure t l i most) last (run p price most fuel s).what last_linked i q

    -- a trap that neither a step of it nor the run itself has
    never : (t : CoreTrap) → (SoundEnd (Trapped t) → ⊥) → trap_code t ≢ trap_code InvalidPc → trap_code t ≢ trap_code FuelExceeded → (run p price most fuel s).what ≢ Trapped t
    never t strange a b e = go c.stop
      where
        go : AtLast → ⊥
        go (past w z l) = a (ap end_code (sym e ∙ w))
        go (dry w z i l) = b (ap end_code (sym e ∙ w))
        go (acts z i l q) = strange (subst SoundEnd e (last_sound i q))

    -- InvalidPc is met at the length
    length-met : (run p price most fuel s).what ≡ Trapped InvalidPc → (top_at p last).place ≡ length_of p (top_at p last).function
    length-met e = go c.stop
      where
        go : AtLast → (top_at p last).place ≡ length_of p (top_at p last).function
        go (past w z l) =
            let some = last_linked.good.some in
            let m : (top_at p last).place ≤ length_of p (top_at p last).function = last_linked.places (last.depth - 1) (omega arith) in
            omega arith
        go (dry w z i l) = absurd (unlike (Trapped FuelExceeded) (Trapped InvalidPc) (λ q. omega arith) (sym w ∙ e))
        go (acts z i l q) = absurd (subst SoundEnd e (last_sound i q))

    -- and not at the start of a function that has an instruction
    begun : (n : ℕ) → (top_at p s).place ≡ 0 → 1 ≤ length_of p (top_at p s).function
        → (top_at p (after p most n s)).place ≡ length_of p (top_at p (after p most n s)).function → 1 ≤ n
    unfolding after
    begun zero z l e = absurd (omega arith)
    begun (suc n) z l e = omega arith

    run_safe : (top_at p s).place ≡ 0 → 1 ≤ length_of p (top_at p s).function → Safe p most s (run p price most fuel s)
    run_safe z l = record {
      registers = never InvalidRegister (λ x. x) (λ q. omega arith) (λ q. omega arith);
      functions = never InvalidFunction (λ x. x) (λ q. omega arith) (λ q. omega arith);
      places = λ e. record {
        steps = c.steps;
        some = begun c.steps z l (length-met e);
        leads = c.leads;
        place = length-met e;
        frames = c.frames;
        regs = c.regs;
      };
    }

  -- ---- from the entry frame
  module _ (fr rg : List ℕ) (known : p.entry < functions_of p) (room : 4 ≤ length fr) (space : regs_of p p.entry ≤ length rg) where
    entry_linked : Linked p (entry_state p fr rg)
    entry_linked = record {
      good = entry_stands p fr rg p.entry refl known room (regs_of p p.entry) refl space;
      places = λ k l. let e : k ≡ 0 = omega arith in rw (e, entry_place fr p.entry room) (omega arith);
      dsts = λ k l. absurd (not-suc-le-zero (le_of_suc-le-suc l));
    }

    pub entry_safe : Peopled p → Safe p most (entry_state p fr rg) (run p price most fuel (entry_state p fr rg))
    entry_safe peopled =
        run_safe (entry_state p fr rg) entry_linked (entry_place fr p.entry room) (rw (entry_function fr p.entry room) (peopled p.entry known))

-- ---- of an accepted image
module _ (L : RecordLayout) (b : List ℕ) (profile : CoreAdmissionProfile) (W : WellFormed L b) (A : Admissible profile (decode L b)) where
  sure : Sure (decode L b)
  sure = record {
    opcode = λ k j l m.
        let q : k < (header_of b).functions = rw (functions_length L b) at l in
        let n : j < (function_no b k).count = rw (length-in L b k q) at m in
        rw (code_in L b k q j n) (W.records ((function_no b k).first + j) (omega (arith, inside L b W k q))).opcode;
    operands = λ k j l m. (A.each k l).operands j m;
  }

  peopled : Peopled (decode L b)
  peopled k l = let r = (A.each k l).returns in omega (arith, r.1)

  -- an entry that does not exist is no accepted program's, and a refusal is no trap
  rules_safe : (price : Price) → Fair price → (most fuel : ℕ) (fr rg : List ℕ) → Safe (decode L b) most (entry_state (decode L b) fr rg) (entered (decode L b) price most fuel fr rg)
  rules_safe price fair most fuel fr rg =
      let p : Program = decode L b in
      entered_cases p price most fuel fr rg (Safe p most (entry_state p fr rg)) (record {
        unknown = λ l. absurd (omega (arith, A.entry));
        frames = λ _ _. refused FrameRoom (λ t e. subst Refused e tt);
        registers = λ _ _ _. refused RegisterRoom (λ t e. subst Refused e tt);
        runs = λ known room space. entry_safe p price fair most fuel sure fr rg known room space peopled;
      })
    where
      refused : (what : Ending) → ((t : CoreTrap) → what ≢ Trapped t) → Safe (decode L b) most (entry_state (decode L b) fr rg) (final what 0 fr rg)
      refused what h = record { registers = h InvalidRegister; functions = h InvalidFunction; places = λ e. absurd (h InvalidPc e) }

-- the verdict alone tells it
pub accepted_safe : (L : RecordLayout) (b : List ℕ) (profile : CoreAdmissionProfile) → verdict L b profile ≡ []
    → (price : Price) → Fair price → (most fuel : ℕ) (fr rg : List ℕ) → Safe (decode L b) most (entry_state (decode L b) fr rg) (entered (decode L b) price most fuel fr rg)
accepted_safe L b profile v price fair most fuel fr rg =
    let r = (admitted L b profile).0 v in
    rules_safe L b profile r.0 r.1 price fair most fuel fr rg
