-- The numbers that an execution answers with can be relied on, as they stand and as they cross the C boundary. Assumes nothing.
use Prim.Native.Nat.{ℕ, ◌≤◌}
use mathlib.Core.Path.{◌≡◌, refl, sym, ap, ◌∙◌, subst}
use mathlib.Core.List.{List, [], ◌∷◌}
use native.Mathlib.Omega.{arith}
use borrow.Author.Tests.{ne_eqb}
use Rattle.basis.specs.Choice.{pick}
use Rattle.basis.specs.Answers.{is_fine}
use Rattle.runtime.specs.declared.CoreTrap.{CoreTrap}
use Rattle.runtime.specs.declared.CoreTrap.TheVariants.{InvalidPc, InvalidRegister, FuelExceeded, InvalidFunction}
use Rattle.runtime.proofs.Unique.{trap_unique}
use Rattle.value.specs.declared.result.CoreStatus.TheVariants as status
use Rattle.value.specs.Result.{status_word}
use Rattle.image.specs.Records.{form1}
use Rattle.image.specs.Image.{image_fault}
use Rattle.image.specs.Program.{decode}
use Rattle.exec.specs.declared.Ending.{Ending}
use Rattle.exec.specs.declared.Ending.TheVariants.{Returned, Trapped, FrameRoom, RegisterRoom}
use Rattle.exec.specs.Price.{unit}
use Rattle.exec.specs.Run.{Final}
use Rattle.exec.specs.Execute.{outcome_numbers, outcome_of, executed, ended, execution}
use Rattle.capi.specs.Boundary.{number_of, words_of, with_digest}
use Rattle.course.specs.Course.{Refused}
use Rattle.assurance.specs.Acceptance.{runs}
use Rattle.assurance.specs.Callers.{number_in, status_in, used_in, Reliable}
use Rattle.assurance.proofs.Numbered.{Numbered, image_numbered}
use Rattle.assurance.proofs.Acceptance.{acceptance}

-- ---- what the numbers of a run's answer say of how it ended
record Says (what : Ending) (used : ℕ) (ns : List ℕ) : Type 0 where
  fuel : used_in ns ≡ used
  trap : (t : CoreTrap) → number_in ns ≡ 0 → status_in ns ≡ status_word (status.Trapped t) → what ≡ Trapped t
  frames : number_in ns ≡ 6 → Refused what
  regs : number_in ns ≡ 7 → Refused what

outcome_says : (what : Ending) (used : ℕ) → Says what used (outcome_numbers (outcome_of what used))
outcome_says (Returned word) used = record { fuel = refl; trap = λ t n s. absurd (omega arith); frames = λ n. absurd (omega arith); regs = λ n. absurd (omega arith) }
outcome_says (Trapped u) used = record { fuel = refl; trap = λ t n s. ap Trapped (trap_unique u t (omega arith)); frames = λ n. absurd (omega arith); regs = λ n. absurd (omega arith) }
outcome_says FrameRoom used = record { fuel = refl; trap = λ t n s. absurd (omega arith); frames = λ n. tt; regs = λ n. tt }
outcome_says RegisterRoom used = record { fuel = refl; trap = λ t n s. absurd (omega arith); frames = λ n. tt; regs = λ n. tt }

-- the number returned and the words written
abbrev pub across : List ℕ → List ℕ
across ns = number_of (with_digest ns) ∷ words_of (with_digest ns)

across_says : (what : Ending) (used : ℕ) → Says what used (across (outcome_numbers (outcome_of what used)))
unfolding number_of words_of with_digest
across_says (Returned word) used = record { fuel = refl; trap = λ t n s. absurd (omega arith); frames = λ n. absurd (omega arith); regs = λ n. absurd (omega arith) }
across_says (Trapped u) used = record { fuel = refl; trap = λ t n s. ap Trapped (trap_unique u t (omega arith)); frames = λ n. absurd (omega arith); regs = λ n. absurd (omega arith) }
across_says FrameRoom used = record { fuel = refl; trap = λ t n s. absurd (omega arith); frames = λ n. tt; regs = λ n. tt }
across_says RegisterRoom used = record { fuel = refl; trap = λ t n s. absurd (omega arith); frames = λ n. tt; regs = λ n. tt }

-- a fault of the image keeps its number
across_fault : (n : ℕ) (ns : List ℕ) → 1 ≤ n → number_in (across (n ∷ ns)) ≡ n
unfolding number_of with_digest
across_fault n ns l = rw (ne_eqb n 0 (λ e. omega arith))

run_number : (what : Ending) (used : ℕ) → number_in (across (outcome_numbers (outcome_of what used))) ≡ number_in (outcome_numbers (outcome_of what used))
unfolding number_of with_digest
run_number (Returned word) used = refl
run_number (Trapped t) used = refl
run_number FrameRoom used = refl
run_number RegisterRoom used = refl

-- ---- what follows from that, and of a fault of the image
module _ (bytes : List ℕ) (most fuel : ℕ) (fr rg : List ℕ) where
  abbrev f : Final
  f = runs (decode form1 bytes) most fuel fr rg

  run_reliable : (ns : List ℕ) → Says f.what f.used ns → Reliable bytes most fuel fr rg ns
  run_reliable ns h =
      let k = acceptance.fuelled (decode form1 bytes) most fuel fr rg in
      record {
        within = λ r. subst (λ (n : ℕ). n ≤ fuel) (sym h.fuel) k.within;
        counts = λ r m. h.fuel ∙ (k.counted m).counts;
        none = λ r n. h.fuel ∙ k.none n;
        whole = λ n s. h.fuel ∙ k.whole (h.trap FuelExceeded n s);
        room = λ e. record {
          frames = λ n. acceptance.roomy (decode form1 bytes) most fuel fr rg e (h.frames n);
          regs = λ n. acceptance.roomy (decode form1 bytes) most fuel fr rg e (h.regs n);
        };
        registers = λ profile v n s. (acceptance.safe form1 bytes profile v most fuel fr rg).registers (h.trap InvalidRegister n s);
        functions = λ profile v n s. (acceptance.safe form1 bytes profile v most fuel fr rg).functions (h.trap InvalidFunction n s);
        places = λ profile v n s. (acceptance.safe form1 bytes profile v most fuel fr rg).places (h.trap InvalidPc n s);
      }

  fault_reliable : (ns : List ℕ) → 1 ≤ number_in ns → number_in ns ≤ 5 → Reliable bytes most fuel fr rg ns
  fault_reliable ns l h =
      record {
        within = λ r. absurd (r l h);
        counts = λ r m. absurd (r l h);
        none = λ r n. absurd (r l h);
        whole = λ n s. absurd (omega arith);
        room = λ e. record { frames = λ n. omega arith; regs = λ n. omega arith };
        registers = λ profile v n s. omega arith;
        functions = λ profile v n s. omega arith;
        places = λ profile v n s. absurd (omega arith);
      }

  pub answer_reliable : Reliable bytes most fuel fr rg (execution form1 unit bytes most fuel fr rg).answer
  unfolding execution
  answer_reliable = go (image_fault form1 bytes) (image_numbered form1 bytes)
    where
      go : (fault : List ℕ) → Numbered 5 fault → Reliable bytes most fuel fr rg (pick (is_fine fault) (ended f) (executed fault fr rg)).answer
      go [] h = run_reliable (outcome_numbers (outcome_of f.what f.used)) (outcome_says f.what f.used)
      go (n ∷ ns) h = fault_reliable (n ∷ ns) h.0 h.1

  pub across_reliable : Reliable bytes most fuel fr rg (across (execution form1 unit bytes most fuel fr rg).answer)
  unfolding execution
  across_reliable = go (image_fault form1 bytes) (image_numbered form1 bytes)
    where
      go : (fault : List ℕ) → Numbered 5 fault → Reliable bytes most fuel fr rg (across (pick (is_fine fault) (ended f) (executed fault fr rg)).answer)
      go [] h = run_reliable (across (outcome_numbers (outcome_of f.what f.used))) (across_says f.what f.used)
      go (n ∷ ns) h =
          let e : number_in (across (n ∷ ns)) ≡ n = across_fault n ns h.0 in
          fault_reliable (across (n ∷ ns)) (omega (arith, h.0)) (omega (arith, h.1))

  -- the number that crosses is the answer's
  pub number_across : number_in (across (execution form1 unit bytes most fuel fr rg).answer) ≡ number_in (execution form1 unit bytes most fuel fr rg).answer
  unfolding execution
  number_across = go (image_fault form1 bytes) (image_numbered form1 bytes)
    where
      go : (fault : List ℕ) → Numbered 5 fault
          → number_in (across (pick (is_fine fault) (ended f) (executed fault fr rg)).answer) ≡ number_in (pick (is_fine fault) (ended f) (executed fault fr rg)).answer
      go [] h = run_number f.what f.used
      go (n ∷ ns) h = across_fault n ns h.0
