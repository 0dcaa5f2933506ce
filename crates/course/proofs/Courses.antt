-- Every run is a number of steps and an end. Assumes nothing.
use Prim.Native.Nat.{ℕ, zero, suc, ◌+◌, ◌-◌, ◌≤◌, ◌<◌}
use mathlib.Core.Path.{◌≡◌, refl, sym, ap, ◌∙◌, subst}
use mathlib.Core.Bool.{Bool, true, false}
use mathlib.Core.List.{List}
use native.Mathlib.Omega.{arith}
use lib.Dec.{ltb}
use borrow.Author.Tests.{leb-true, leb-false, ltb-true, ltb-false}
use Rattle.runtime.specs.Trap.{trap_code}
use Rattle.image.specs.Program.{Program}
use Rattle.image.specs.Parts.{length_of}
use Rattle.exec.specs.declared.Ending.{Ending}
use Rattle.exec.specs.declared.Ending.TheVariants.{Returned, Trapped, FrameRoom, RegisterRoom}
use Rattle.exec.specs.Price.{Price, Fair}
use Rattle.exec.specs.Lent.{State, state, top_at}
use Rattle.exec.specs.Step.{Stepped, stepped, stops, next_instr, step, is_past, Inside}
use Rattle.exec.specs.Run.{Final, final, later, onward, past_end, out_of_fuel, cost_at, run_for, run}
use Rattle.exec.proofs.Runs.{later_zero, later_later, onward_same, for_past, for_dry, for_step, enough}
use Rattle.exec.proofs.Outer.{going}
use Rattle.course.specs.Course.{ahead, next, after, GoesOn, Leads, charged, Stop, Course}
use Rattle.course.specs.Course.Stop.{past, dry, acts}
use Rattle.course.proofs.Cases.{step_cases}
use Rattle.std.specs.Prelude.{Result, Ok, Err}

-- endings told apart
abbrev pub end_code : Ending → ℕ
end_code (Returned v) = 10
end_code (Trapped t) = trap_code t
end_code FrameRoom = 11
end_code RegisterRoom = 12

-- ---- a step that ends the run writes nothing
abbrev Quiet : State → Stepped → Type 0
Quiet s o = (e : Ending) → o.answer ≡ Err e → o ≡ stops s (Err e)

pub ends_quietly : (p : Program) (most : ℕ) (s : State) → Quiet s (step p most s)
ends_quietly p most s =
    let stop : (e : Ending) → Quiet s (stops s (Err e)) = λ e x q. ap (stops s) q in
    step_cases p most s (Quiet s) (record {
      on = λ _ _ e q. absurd (going _ e q);
      to = λ _ _ _ e q. absurd (going _ e q);
      fails = λ x _. stop _;
      deep = λ _ _ _. stop _;
      unknown = λ _ _ _ _. stop _;
      misfits = λ _ _ _ _ _. stop _;
      frames = λ _ _. stop _;
      registers = λ _ _ _. stop _;
      pushes = λ _ _ _ e q. absurd (going _ e q);
      lacks = λ _ _ _. stop _;
      returns = λ _ _. stop _;
      hands = λ _ _ _ e q. absurd (going _ e q);
      nowhere = λ _ _ _. stop _;
    })

-- ---- the whole run
module _ (p : Program) (price : Price) (most : ℕ) where
  -- one that is over at once
  over : (fuel : ℕ) (s : State) (f : Final) (last : ℕ) → Stop p price most fuel s f.what last → f.used ≡ last → f.frames ≡ s.frames → f.regs ≡ s.regs
      → Course p price most fuel s f
  unfolding after Leads charged
  over fuel s f last stop used fr rg =
      let e : fuel ≡ fuel - 0 = omega arith in
      record {
        steps = 0;
        leads = tt;
        affords = omega arith;
        last = last;
        stop = subst (λ (n : ℕ). Stop p price most n s f.what last) e stop;
        used = omega arith;
        frames = fr;
        regs = rg;
      }

  -- one step more before it
  further : (fuel : ℕ) (s : State) (f : Final) → Inside p s → GoesOn (step p most s).answer → cost_at p price s ≤ fuel
      → Course p price most (fuel - cost_at p price s) (next p most s) f
      → Course p price most fuel s (final f.what (cost_at p price s + f.used) f.frames f.regs)
  unfolding after Leads charged
  further fuel s f i g a c =
      let rest : ℕ = charged p price most c.steps (next p most s) in
      let e : fuel - (cost_at p price s + rest) ≡ fuel - cost_at p price s - rest = omega arith in
      record {
        steps = suc c.steps;
        leads = (i, (g, c.leads));
        affords = omega (arith, c.affords);
        last = c.last;
        stop = subst (λ (n : ℕ). Stop p price most n (after p most c.steps (next p most s)) f.what c.last) (sym e) c.stop;
        used = omega (arith, c.used);
        frames = c.frames;
        regs = c.regs;
      }

  -- the step of an instruction that is paid for
  acting : (left : ℕ) (s : State) (k : State → Final) (x : Result ℕ Ending) (fr rg : List ℕ) → step p most s ≡ stepped x fr rg → Inside p s → cost_at p price s ≤ left
      → ((t : State) → Course p price most (left - cost_at p price s) t (k t)) → Course p price most left s (onward (cost_at p price s) x fr rg k)
  acting left s k (Ok d) fr rg e i a h =
      let t : next p most s ≡ state fr rg d = ap (λ (o : Stepped). ahead s o.answer o.frames o.regs) e in
      further left s (k (state fr rg d)) i (subst GoesOn (sym (ap (λ (o : Stepped). o.answer) e)) tt) a
      (subst (λ (u : State). Course p price most (left - cost_at p price s) u (k (state fr rg d))) (sym t) (h (state fr rg d)))
  acting left s k (Err x) fr rg e i a h =
      let q : step p most s ≡ stops s (Err x) = ends_quietly p most s x (ap (λ (o : Stepped). o.answer) e) in
      over left s (final x (cost_at p price s) fr rg) (cost_at p price s) (acts refl i a q) refl
      (ap (λ (o : Stepped). o.frames) (sym e ∙ q)) (ap (λ (o : Stepped). o.regs) (sym e ∙ q))

  module _ (fair : Fair price) where
    at_end : (n left : ℕ) (s : State) → length_of p (top_at p s).function ≤ (top_at p s).place → Course p price most left s (run_for p price most n left s)
    at_end n left s h = subst (Course p price most left s) (sym (for_past p price most n left s h)) (over left s (past_end s) 0 (past refl refl h) refl refl refl)

    unpaid : (n left : ℕ) (s : State) → Inside p s → left < cost_at p price s → Course p price most left s (run_for p price most n left s)
    unpaid n left s i h =
        subst (Course p price most left s) (sym (for_dry p price most n left s i h)) (over left s (out_of_fuel left s) left (dry refl refl i h) refl refl refl)

    -- one round, by its tests
    round : (n left : ℕ) (s : State) (b c : Bool) → is_past p s ≡ b → ltb left (cost_at p price s) ≡ c → left ≤ suc n
        → ((m : ℕ) (t : State) → m ≤ n → Course p price most m t (run_for p price most n m t)) → Course p price most left s (run_for p price most (suc n) left s)
    round n left s true c e q bound h = at_end (suc n) left s (leb-true _ _ e)
    round n left s false true e q bound h = unpaid (suc n) left s (leb-false _ _ e) (ltb-true _ _ q)
    round n left s false false e q bound h =
        let cost : 1 ≤ cost_at p price s = fair.some (next_instr p s).op in
        let o : Stepped = step p most s in
        subst (Course p price most left s)
        (sym (for_step p price most n left s o.answer o.frames o.regs (leb-false _ _ e) (ltb-false _ _ q) refl))
        (acting left s (λ t. run_for p price most n (left - cost_at p price s) t) o.answer o.frames o.regs refl (leb-false _ _ e) (ltb-false _ _ q)
        (λ t. h (left - cost_at p price s) t (omega arith)))

    for_course : (n left : ℕ) (s : State) → left ≤ n → Course p price most left s (run_for p price most n left s)
    for_course zero left s bound = none (is_past p s) refl
      where
        none : (b : Bool) → is_past p s ≡ b → Course p price most left s (run_for p price most zero left s)
        none true e = at_end zero left s (leb-true _ _ e)
        none false e = unpaid zero left s (leb-false _ _ e) (omega (arith, fair.some (next_instr p s).op))
    for_course (suc n) left s bound = round n left s (is_past p s) (ltb left (cost_at p price s)) refl refl bound (λ m t k. for_course n m t k)

    pub run_course : (fuel : ℕ) (s : State) → Course p price most fuel s (run p price most fuel s)
    run_course fuel s = for_course fuel fuel s (omega arith)

    -- ---- a run goes on from where its steps lead
    pub run_step : (fuel : ℕ) (s : State) → Inside p s → cost_at p price s ≤ fuel
        → run p price most fuel s ≡ onward (cost_at p price s) (step p most s).answer (step p most s).frames (step p most s).regs (λ t. run p price most (fuel - cost_at p price s) t)
    run_step fuel s i a =
        let o : Stepped = step p most s in
        enough p price most fair fuel (suc fuel) fuel s (omega arith) (omega arith)
        ∙ for_step p price most fuel fuel s o.answer o.frames o.regs i a refl
        ∙ onward_same (cost_at p price s) o.answer o.frames o.regs _ _
        (λ t. enough p price most fair fuel (fuel - cost_at p price s) (fuel - cost_at p price s) t (omega arith) (omega arith))

    goes_ahead : (c : ℕ) (s : State) (x : Result ℕ Ending) (fr rg : List ℕ) (k : State → Final) → GoesOn x → onward c x fr rg k ≡ later c (k (ahead s x fr rg))
    goes_ahead c s (Ok d) fr rg k g = refl
    goes_ahead c s (Err e) fr rg k g = absurd g

    pub run_next : (fuel : ℕ) (s : State) → Inside p s → cost_at p price s ≤ fuel → GoesOn (step p most s).answer
        → run p price most fuel s ≡ later (cost_at p price s) (run p price most (fuel - cost_at p price s) (next p most s))
    run_next fuel s i a g =
        run_step fuel s i a
        ∙ goes_ahead (cost_at p price s) s (step p most s).answer (step p most s).frames (step p most s).regs (λ t. run p price most (fuel - cost_at p price s) t) g

    pub run_after : (n fuel : ℕ) (s : State) → Leads p most n s → charged p price most n s ≤ fuel
        → run p price most fuel s ≡ later (charged p price most n s) (run p price most (fuel - charged p price most n s) (after p most n s))
    unfolding after Leads charged
    run_after zero fuel s l a = let e : fuel - 0 ≡ fuel = omega arith in rw e (sym (later_zero (run p price most fuel s)))
    run_after (suc n) fuel s l a =
        let c : ℕ = cost_at p price s in
        let rest : ℕ = charged p price most n (next p most s) in
        let e : fuel - c - rest ≡ fuel - (c + rest) = omega arith in
        run_next fuel s l.0 (omega arith) l.1.0
        ∙ ap (later c) (run_after n (fuel - c) (next p most s) l.1.1 (omega arith))
        ∙ later_later c rest (run p price most (fuel - c - rest) (after p most n (next p most s)))
        ∙ ap (λ (m : ℕ). later (c + rest) (run p price most m (after p most n (next p most s)))) e
