-- The fuel that a run uses: never above the limit, the whole limit where it is FuelExceeded, and one unit for each instruction begun,
-- which are the steps themselves. Assumes nothing.
use Prim.Native.Nat.{ℕ, zero, suc, ◌-◌, ◌≤◌}
use mathlib.Core.Path.{◌≡◌, refl, sym, ap, ◌∙◌, subst}
use mathlib.Core.Bool.{Bool, true, false}
use mathlib.Core.List.{List, [], ◌∷◌}
use mathlib.Core.Logic.{◌≢◌}
use native.Mathlib.Omega.{arith}
use lib.Dec.{ltb}
use lib.ListN.{length}
use borrow.Author.Tests.{leb-false}
use Rattle.basis.specs.Choice.{pick}
use Rattle.runtime.specs.declared.CoreTrap.{CoreTrap}
use Rattle.runtime.specs.declared.CoreTrap.TheVariants.{InvalidPc, InvalidRegister, TypeMismatch, DivisionByZero, IntegerOverflow, FuelExceeded, CallDepthExceeded, InvalidFunction, AssertFailed, ExplicitTrap}
use Rattle.runtime.specs.Trap.{trap_code}
use Rattle.image.specs.Program.{Program}
use Rattle.exec.specs.declared.Ending.{Ending}
use Rattle.exec.specs.declared.Ending.TheVariants.{Returned, Trapped, FrameRoom, RegisterRoom}
use Rattle.exec.specs.Price.{Price, Fair, unit}
use Rattle.exec.specs.Lent.{State, state}
use Rattle.exec.specs.Step.{Stepped, stepped, stops, next_instr, step, is_past, Inside}
use Rattle.exec.specs.Run.{Final, final, cost_at, run}
use Rattle.exec.specs.Begun.{begun_after, begun_for, begun}
use Rattle.exec.specs.Execute.{entry_state, entered}
use Rattle.exec.proofs.Runs.{unit_fair}
use Rattle.course.specs.Course.{ahead, next, after, trail, GoesOn, Leads, Begin, charged, Stop, Course, Counted, Made, Fuelled}
use Rattle.course.specs.Course.Stop.{past, dry, acts}
use Rattle.course.proofs.Cases.{step_cases, went_at, window}
use Rattle.course.proofs.Courses.{end_code, run_course}
use Rattle.course.proofs.Traps.{Own, OwnWay, straight_own}
use Rattle.course.proofs.Along.{Keeps}
use Rattle.course.proofs.Counts.{used_begun}
use Rattle.course.proofs.Entered.{entered_cases}
use Rattle.std.specs.Prelude.{Result, Ok, Err}

-- ---- neither InvalidPc nor FuelExceeded comes out of a step
abbrev pub OfStep : Ending → Type 0
OfStep (Returned v) = Unit {0}
OfStep (Trapped t) = (t ≢ InvalidPc) × (t ≢ FuelExceeded)
OfStep FrameRoom = Unit {0}
OfStep RegisterRoom = Unit {0}

-- two traps told apart by their codes
other : (t u : CoreTrap) → (trap_code t ≡ trap_code u → ⊥) → t ≢ u
other t u h e = h (ap trap_code e)

own_step : (t : CoreTrap) → Own (Unit {0}) t → OfStep (Trapped t)
own_step InvalidPc h = absurd h
own_step InvalidRegister h = (other _ _ (λ e. omega arith), other _ _ (λ e. omega arith))
own_step TypeMismatch h = (other _ _ (λ e. omega arith), other _ _ (λ e. omega arith))
own_step DivisionByZero h = (other _ _ (λ e. omega arith), other _ _ (λ e. omega arith))
own_step IntegerOverflow h = (other _ _ (λ e. omega arith), other _ _ (λ e. omega arith))
own_step FuelExceeded h = absurd h
own_step CallDepthExceeded h = absurd h
own_step InvalidFunction h = absurd h
own_step AssertFailed h = (other _ _ (λ e. omega arith), other _ _ (λ e. omega arith))
own_step ExplicitTrap h = (other _ _ (λ e. omega arith), other _ _ (λ e. omega arith))

pub step_own : (p : Program) (most : ℕ) (s : State) → Keeps (λ t. Unit {0}) OfStep (step p most s)
step_own p most s =
    let way : OwnWay (Unit {0}) (next_instr p s) (went_at p s) = straight_own (Unit {0}) (window p s) (next_instr p s) (record { a = λ e l. tt; b = λ e l. tt; c = λ e l. tt }) in
    let register : OfStep (Trapped InvalidRegister) = own_step InvalidRegister tt in
    step_cases p most s (Keeps (λ t. Unit {0}) OfStep) (record {
      on = λ _ _. tt;
      to = λ _ _ _. tt;
      fails = λ x e. own_step x (subst (OwnWay (Unit {0}) (next_instr p s)) e way);
      deep = λ _ _ _. (other _ _ (λ e. omega arith), other _ _ (λ e. omega arith));
      unknown = λ _ _ _ _. (other _ _ (λ e. omega arith), other _ _ (λ e. omega arith));
      misfits = λ _ _ _ _ _. register;
      frames = λ _ _. tt;
      registers = λ _ _ _. tt;
      pushes = λ _ _ _. tt;
      lacks = λ _ _ _. register;
      returns = λ _ _. tt;
      hands = λ _ _ _. tt;
      nowhere = λ _ _ _. register;
    })

-- so a step that ends the run is no case of either
ends_own : (p : Program) (most : ℕ) (s : State) (e : Ending) → step p most s ≡ stops s (Err e) → OfStep e
ends_own p most s e q = subst (λ (o : Stepped). Keeps (λ t. Unit {0}) OfStep o) q (step_own p most s)

module _ (p : Program) (price : Price) (most fuel : ℕ) (s : State) (f : Final) (c : Course p price most fuel s f) where
  abbrev before : ℕ
  before = charged p price most c.steps s

  -- never above the limit
  within : f.used ≤ fuel
  within = go c.stop
    where
      go : Stop p price most (fuel - before) (after p most c.steps s) f.what c.last → f.used ≤ fuel
      go (past w z h) = omega (arith, c.used, c.affords)
      go (dry w z i h) = omega (arith, c.used, c.affords)
      go (acts z i a q) = omega (arith, c.used, c.affords)

  -- FuelExceeded uses the whole limit
  whole : f.what ≡ Trapped FuelExceeded → f.used ≡ fuel
  whole e = go c.stop
    where
      go : Stop p price most (fuel - before) (after p most c.steps s) f.what c.last → f.used ≡ fuel
      go (past w z h) = let q : end_code (Trapped InvalidPc) ≡ end_code (Trapped FuelExceeded) = ap end_code (sym w ∙ e) in absurd (omega arith)
      go (dry w z i h) = omega (arith, c.used, c.affords)
      go (acts z i a q) = absurd ((subst OfStep e (ends_own p most (after p most c.steps s) f.what q)).1 refl)

module _ (p : Program) (price : Price) (fair : Fair price) (most fuel : ℕ) (s : State) where
  pub never_above : (run p price most fuel s).used ≤ fuel
  never_above = within p price most fuel s (run p price most fuel s) (run_course p price most fair fuel s)

  pub whole_limit : (run p price most fuel s).what ≡ Trapped FuelExceeded → (run p price most fuel s).used ≡ fuel
  whole_limit = whole p price most fuel s (run p price most fuel s) (run_course p price most fair fuel s)

-- ---- the instructions begun are the steps
module _ (p : Program) (price : Price) (most : ℕ) where
  after_trail : (s : State) (x : Result ℕ Ending) (fr rg : List ℕ) (k : State → List State) → ((t : State) → k t ≡ trail p most (length (k t)) t)
      → begun_after x fr rg k ≡ trail p most (length (begun_after x fr rg k)) (ahead s x fr rg)
  unfolding trail
  after_trail s (Ok d) fr rg k h = h (state fr rg d)
  after_trail s (Err e) fr rg k h = refl

  for_trail : (n left : ℕ) (s : State) → begun_for p price most n left s ≡ trail p most (length (begun_for p price most n left s)) s
  unfolding begun_for trail
  for_trail zero left s = refl
  for_trail (suc n) left s =
      go (is_past p s) (ltb left (cost_at p price s))
      (after_trail s (step p most s).answer (step p most s).frames (step p most s).regs (λ t. begun_for p price most n (left - cost_at p price s) t) (λ t. for_trail n (left - cost_at p price s) t))
    where
      later : List State
      later = begun_after (step p most s).answer (step p most s).frames (step p most s).regs (λ t. begun_for p price most n (left - cost_at p price s) t)

      go : (b c : Bool) → later ≡ trail p most (length later) (next p most s) → pick b [] (pick c [] (s ∷ later)) ≡ trail p most (length (pick b [] (pick c [] (s ∷ later)))) s
      go true c h = refl
      go false true h = refl
      go false false h = ap (λ (l : List State). s ∷ l) h

  pub begun_steps : (fuel : ℕ) (s : State) → begun p price most fuel s ≡ trail p most (length (begun p price most fuel s)) s
  begun_steps fuel s = for_trail fuel fuel s

-- ---- and at each an instruction begins
module _ (p : Program) (price : Price) (most : ℕ) where
  -- one more before them
  grow : (s : State) → Inside p s → GoesOn (step p most s).answer → (n : ℕ) → Begin p most n (next p most s) → Begin p most (suc n) s
  unfolding Begin Leads after
  grow s i g zero h = (tt, i)
  grow s i g (suc n) h = ((i, (g, h.0)), h.1)

  lone : (s : State) → Inside p s → Begin p most 1 s
  unfolding Begin Leads after
  lone s i = (tt, i)

  after_begin : (s : State) → Inside p s → (x : Result ℕ Ending) (fr rg : List ℕ) (k : State → List State) → step p most s ≡ stepped x fr rg
      → ((t : State) → Begin p most (length (k t)) t) → Begin p most (suc (length (begun_after x fr rg k))) s
  after_begin s i (Ok d) fr rg k e h =
      let t : next p most s ≡ state fr rg d = ap (λ (o : Stepped). ahead s o.answer o.frames o.regs) e in
      grow s i (subst GoesOn (sym (ap (λ (o : Stepped). o.answer) e)) tt) (length (k (state fr rg d)))
      (subst (Begin p most (length (k (state fr rg d)))) (sym t) (h (state fr rg d)))
  after_begin s i (Err x) fr rg k e h = lone s i

  for_begin : (n left : ℕ) (s : State) → Begin p most (length (begun_for p price most n left s)) s
  unfolding begun_for Begin
  for_begin zero left s = tt
  for_begin (suc n) left s =
      go (is_past p s) refl (ltb left (cost_at p price s))
      (λ i. after_begin s i (step p most s).answer (step p most s).frames (step p most s).regs (λ t. begun_for p price most n (left - cost_at p price s) t) refl (λ t. for_begin n (left - cost_at p price s) t))
    where
      later : List State
      later = begun_after (step p most s).answer (step p most s).frames (step p most s).regs (λ t. begun_for p price most n (left - cost_at p price s) t)

      go : (b : Bool) → is_past p s ≡ b → (c : Bool) → (Inside p s → Begin p most (suc (length later)) s) → Begin p most (length (pick b [] (pick c [] (s ∷ later)))) s
      go true e c h = tt
      go false e true h = tt
      go false e false h = h (leb-false _ _ e)

  pub begun_begin : (fuel : ℕ) (s : State) → Begin p most (length (begun p price most fuel s)) s
  begun_begin fuel s = for_begin fuel fuel s

-- ---- an execution
pub counted : (p : Program) (most fuel : ℕ) (s : State) → Counted p most fuel s (run p unit most fuel s)
counted p most fuel s = record {
  counts = used_begun p most fuel s;
  steps = begun_steps p unit most fuel s;
  begin = begun_begin p unit most fuel s;
  course = run_course p unit most unit_fair fuel s;
}

-- one whose entry frame is not made uses nothing
unmade : (p : Program) (most fuel : ℕ) (fr rg : List ℕ) (e : Ending) → (end_code e ≡ end_code (Trapped FuelExceeded) → ⊥) → (Made p fr rg → ⊥) → Fuelled p most fuel fr rg (final e 0 fr rg)
unmade p most fuel fr rg e unlike missing =
    record { within = omega arith; whole = λ q. absurd (unlike (ap end_code q)); counted = λ m. absurd (missing m); none = λ n. refl }

pub fuelled : (p : Program) (most fuel : ℕ) (fr rg : List ℕ) → Fuelled p most fuel fr rg (entered p unit most fuel fr rg)
fuelled p most fuel fr rg =
    entered_cases p unit most fuel fr rg (Fuelled p most fuel fr rg) (record {
      unknown = λ l. unmade p most fuel fr rg (Trapped InvalidFunction) (λ q. omega arith) (λ m. omega (arith, m.known));
      frames = λ _ l. unmade p most fuel fr rg FrameRoom (λ q. omega arith) (λ m. omega (arith, m.room));
      registers = λ _ _ l. unmade p most fuel fr rg RegisterRoom (λ q. omega arith) (λ m. omega (arith, m.space));
      runs = λ known room space. record {
        within = never_above p unit unit_fair most fuel (entry_state p fr rg);
        whole = whole_limit p unit unit_fair most fuel (entry_state p fr rg);
        counted = λ m. counted p most fuel (entry_state p fr rg);
        none = λ n. absurd (n (record { known = known; room = room; space = space }));
      };
    })
