-- Two runs from machines that are alike. Assumes nothing.
use Prim.Native.Nat.{ℕ, zero, suc, ◌+◌, ◌-◌, ◌≤◌, ◌<◌}
use mathlib.Core.Path.{◌≡◌, refl, sym, ap, ◌∙◌, subst}
use mathlib.Core.List.{List}
use native.Mathlib.Omega.{arith}
use Rattle.runtime.specs.declared.CoreTrap.TheVariants.{InvalidPc, FuelExceeded}
use Rattle.image.specs.Program.{Program}
use Rattle.image.specs.Parts.{length_of, code_of}
use Rattle.exec.specs.declared.frame.Top.{Top}
use Rattle.exec.specs.declared.Ending.{Ending}
use Rattle.exec.specs.declared.Ending.TheVariants.{Trapped, FrameRoom}
use Rattle.exec.specs.Price.{Price, Fair}
use Rattle.exec.specs.Lent.{State, state, top_of, top_at}
use Rattle.exec.specs.Step.{Stepped, stops, step, Inside}
use Rattle.exec.specs.Run.{Final, final, later, onward, cost_at, run}
use Rattle.exec.proofs.Runs.{for_past, for_dry}
use Rattle.course.specs.Course.{ahead, next, after, GoesOn, Leads, charged, Refused, Stop, Course}
use Rattle.course.specs.Course.Stop.{past, dry, acts}
use Rattle.course.proofs.Courses.{ends_quietly, run_course, run_step, run_next, run_after}
use Rattle.twins.specs.Twins.{Agree, Alike, SameEnd, Abreast, UpTo}
use Rattle.twins.proofs.Agrees.{less}
use Rattle.twins.proofs.Steps.{Together, step_both, top_same}
use Rattle.twins.proofs.Steps.Together.{on, ends, first_refused, second_refused}
use Rattle.std.specs.Prelude.{Result, Ok, Err}

-- ---- any two that are alike
module _ (p : Program) (k m : ℕ) (s t : State) (h : Alike p k m s t) where
  -- as many frames by the same number
  level : Alike p k m (state s.frames s.regs s.depth) (state t.frames t.regs s.depth)
  level = record { depth = refl; some = h.some; frames = h.frames; regs = h.regs; records = h.records; windows = h.windows }

  pub top_alike : top_at p t ≡ top_at p s
  top_alike = subst (λ (d : ℕ). top_of p t.frames d ≡ top_at p s) (sym h.depth) (top_same p 0 k m s.frames s.regs t.frames t.regs s.depth level)

  pub inside_alike : Inside p s → Inside p t
  inside_alike i = subst (λ (x : Top). x.place < length_of p x.function) (sym top_alike) i

  pub cost_alike : (price : Price) → cost_at p price t ≡ cost_at p price s
  cost_alike price = ap (λ (x : Top). price (code_of p x.function x.place).op) top_alike

  pub step_alike : (most : ℕ) → Together p k m (step p most s) (step p most t)
  step_alike most =
      subst (λ (d : ℕ). Together p k m (step p most s) (step p most (state t.frames t.regs d))) (sym h.depth)
      (step_both p most k m s.frames s.regs t.frames t.regs s.depth level)

ended_on : (x : Result ℕ Ending) (e : Ending) → x ≡ Err e → GoesOn x → ⊥
ended_on x e q g = subst GoesOn q g

-- what a step ends with
abbrev end_of : Result ℕ Ending → Ending
end_of (Ok d) = FrameRoom
end_of (Err e) = e

gone : (x : Result ℕ Ending) (d : ℕ) → x ≡ Ok d → GoesOn x
gone x d q = subst GoesOn (sym q) tt

led : (s : State) (x : Result ℕ Ending) (fr rg : List ℕ) (d : ℕ) → x ≡ Ok d → ahead s x fr rg ≡ state fr rg d
led s x fr rg d e = ap (λ (y : Result ℕ Ending). ahead s y fr rg) e

module _ (p : Program) (price : Price) (fair : Fair price) (most : ℕ) where
  -- a run whose step is refused is refused
  refused_run : (fuel : ℕ) (t : State) (e : Ending) → Inside p t → cost_at p price t ≤ fuel → (step p most t).answer ≡ Err e → (run p price most fuel t).what ≡ e
  refused_run fuel t e i a q =
      ap (λ (f : Final). f.what) (run_step p price most fair fuel t i a)
      ∙ ap (λ (x : Result ℕ Ending). (onward (cost_at p price t) x (step p most t).frames (step p most t).regs (λ u. run p price most (fuel - cost_at p price t) u)).what) q

  pub follows : (n fuel k m : ℕ) (s t : State) → Alike p k m s t → Leads p most n s → charged p price most n s ≤ fuel → (Refused (run p price most fuel t).what → ⊥)
      → Abreast p price most k m n s t
  unfolding after Leads charged
  follows zero fuel k m s t h l a r = record { first = tt; second = tt; charge = refl; frames_to = k; regs_to = m; frames = omega arith; regs = omega arith; alike = h }
  follows (suc n) fuel k m s t h l a r = go (step_alike p k m s t h most) (λ K M x. follows n (fuel - cost_at p price s) K M (next p most s) (next p most t) x l.1.1 (omega arith))
    where
      here : cost_at p price t ≡ cost_at p price s
      here = cost_alike p k m s t h price

      go : Together p k m (step p most s) (step p most t)
          → ((K M : ℕ) → Alike p K M (next p most s) (next p most t) → (Refused (run p price most (fuel - cost_at p price s) (next p most t)).what → ⊥) → Abreast p price most K M n (next p most s) (next p most t))
          → Abreast p price most k m (suc n) s t
      go (on d K M b c x y z) f =
          let i : Inside p t = inside_alike p k m s t h l.0 in
          let g : GoesOn (step p most t).answer = gone (step p most t).answer d y in
          let ns : next p most s ≡ state (step p most s).frames (step p most s).regs d = led s (step p most s).answer (step p most s).frames (step p most s).regs d x in
          let nt : next p most t ≡ state (step p most t).frames (step p most t).regs d = led t (step p most t).answer (step p most t).frames (step p most t).regs d y in
          let q : Alike p K M (next p most s) (next p most t) =
          subst (λ (u : State). Alike p K M u (next p most t)) (sym ns) (subst (λ (u : State). Alike p K M (state (step p most s).frames (step p most s).regs d) u) (sym nt) z) in
          let w : (run p price most fuel t).what ≡ (run p price most (fuel - cost_at p price s) (next p most t)).what =
          ap (λ (v : Final). v.what) (run_next p price most fair fuel t i (omega (arith, here)) g)
          ∙ ap (λ (c : ℕ). (run p price most (fuel - c) (next p most t)).what) here in
          let rest = f K M q (λ v. r (subst Refused (sym w) v)) in
          record {
            first = l;
            second = (i, (g, rest.second));
            charge = omega (arith, here, rest.charge);
            frames_to = rest.frames_to;
            regs_to = rest.regs_to;
            frames = omega (arith, rest.frames);
            regs = omega (arith, rest.regs);
            alike = rest.alike;
          }
      go (ends e x y) f = absurd (ended_on (step p most s).answer e x l.1.0)
      go (first_refused e x y) f = absurd (ended_on (step p most s).answer e x l.1.0)
      go (second_refused e x y) f = absurd (r (subst Refused (sym (refused_run fuel t e (inside_alike p k m s t h l.0) (omega (arith, here)) x)) y))

  -- ---- two runs with the same fuel, of which the second is not refused
  module _ (fuel k m : ℕ) (s t : State) (h : Alike p k m s t) (served : Refused (run p price most fuel t).what → ⊥) where
    abbrev f : Final
    f = run p price most fuel s

    abbrev g : Final
    g = run p price most fuel t

    c : Course p price most fuel s (run p price most fuel s)
    c = run_course p price most fair fuel s

    w : Abreast p price most k m c.steps s t
    w = follows c.steps fuel k m s t h c.leads c.affords served

    abbrev u : State
    u = after p most c.steps s

    abbrev v : State
    v = after p most c.steps t

    abbrev left : ℕ
    left = fuel - charged p price most c.steps s

    -- where the second goes on from
    second : run p price most fuel t ≡ later (charged p price most c.steps s) (run p price most left v)
    second =
        run_after p price most fair c.steps fuel t w.second (omega (arith, w.charge, c.affords))
        ∙ ap (λ (n : ℕ). later n (run p price most (fuel - n) v)) w.charge

    -- the first is refused at a step that the second takes
    pub up_to : Refused (run p price most fuel s).what → UpTo p price most fuel k m s t (run p price most fuel s) (run p price most fuel t)
    up_to r = record {
      steps = c.steps;
      abreast = w;
      refuses = refusing c.stop;
      frames = c.frames;
      regs = c.regs;
      used = spent c.stop;
      goes_on = run_after p price most fair c.steps fuel t w.second (omega (arith, w.charge, c.affords));
    }
      where
        refusing : Stop p price most left u f.what c.last → step p most u ≡ stops u (Err f.what)
        refusing (past e z l) = absurd (subst Refused e r)
        refusing (dry e z i l) = absurd (subst Refused e r)
        refusing (acts z i l q) = q

        spent : Stop p price most left u f.what c.last → f.used ≡ charged p price most c.steps t + cost_at p price v
        spent (past e z l) = absurd (subst Refused e r)
        spent (dry e z i l) = absurd (subst Refused e r)
        spent (acts z i l q) = omega (arith, c.used, w.charge, cost_alike p w.frames_to w.regs_to u v w.alike price)

    -- ---- neither is refused
    module _ (kept : Refused (run p price most fuel s).what → ⊥) where
      -- the second ends as x where v stands, with the charge that the first has there
      ending : (x : Ending) (charge : ℕ) → run p price most left v ≡ final x charge v.frames v.regs → f.what ≡ x → c.last ≡ charge → SameEnd k m f g
      ending x charge e what last = record {
        what = ap (λ (y : Final). y.what) (second ∙ ap (later (charged p price most c.steps s)) e) ∙ sym what;
        used = ap (λ (y : Final). y.used) (second ∙ ap (later (charged p price most c.steps s)) e) ∙ ap (λ (n : ℕ). charged p price most c.steps s + n) (sym last) ∙ sym c.used;
        frames = subst (λ (l : List ℕ). Agree k l g.frames) (sym c.frames) (subst (λ (l : List ℕ). Agree k u.frames l) (sym (ap (λ (y : Final). y.frames) (second ∙ ap (later (charged p price most c.steps s)) e))) (less w.frames_to k u.frames v.frames w.frames w.alike.frames));
        regs = subst (λ (l : List ℕ). Agree m l g.regs) (sym c.regs) (subst (λ (l : List ℕ). Agree m u.regs l) (sym (ap (λ (y : Final). y.regs) (second ∙ ap (later (charged p price most c.steps s)) e))) (less w.regs_to m u.regs v.regs w.regs w.alike.regs));
      }

      cost_here : cost_at p price v ≡ cost_at p price u
      cost_here = cost_alike p w.frames_to w.regs_to u v w.alike price

      -- both steps end the run
      acting : Inside p v → cost_at p price v ≤ left → step p most u ≡ stops u (Err f.what) → c.last ≡ cost_at p price u → Together p w.frames_to w.regs_to (step p most u) (step p most v) → SameEnd k m f g
      acting i a q z (on d K M b e x y al) = absurd (ended_on (step p most u).answer f.what (ap (λ (o : Stepped). o.answer) q) (gone (step p most u).answer d x))
      acting i a q z (ends e x y) =
          ending e (cost_at p price v)
          (run_step p price most fair left v i a
          ∙ ap (λ (o : Stepped). onward (cost_at p price v) o.answer o.frames o.regs (λ n. run p price most (left - cost_at p price v) n)) (ends_quietly p most v e y))
          (ap end_of (sym (ap (λ (o : Stepped). o.answer) q) ∙ x)) (z ∙ sym cost_here)
      acting i a q z (first_refused e x r) = absurd (kept (subst Refused (ap end_of (sym x ∙ ap (λ (o : Stepped). o.answer) q)) r))
      acting i a q z (second_refused e y r) =
          absurd (served (subst Refused (sym (ap (λ (n : Final). n.what) second ∙ refused_run left v e i a y)) r))

      stopping : Stop p price most left u f.what c.last → SameEnd k m f g
      stopping (past e z l) =
          ending (Trapped InvalidPc) 0 (for_past p price most left left v (subst (λ (x : Top). length_of p x.function ≤ x.place) (sym (top_alike p w.frames_to w.regs_to u v w.alike)) l)) e z
      stopping (dry e z i l) =
          ending (Trapped FuelExceeded) left (for_dry p price most left left v (inside_alike p w.frames_to w.regs_to u v w.alike i) (omega (arith, cost_here))) e z
      stopping (acts z i l q) = acting (inside_alike p w.frames_to w.regs_to u v w.alike i) (omega (arith, cost_here)) q z (step_alike p w.frames_to w.regs_to u v w.alike most)

      pub same_end : SameEnd k m (run p price most fuel s) (run p price most fuel t)
      same_end = stopping c.stop
