-- The entry frame, test by test; where it is made it stands. Assumes nothing.
use Prim.Native.Nat.{ℕ, ◌≤◌, ◌<◌}
use mathlib.Core.Path.{◌≡◌, refl, sym, ap, ◌∙◌, subst}
use mathlib.Core.Bool.{Bool, true, false}
use mathlib.Core.List.{List}
use native.Mathlib.Omega.{arith}
use lib.Dec.{ltb, leb}
use lib.ListN.{length, get_or, set, replicate, length-set}
use lib.Seq.{sets, get_or-set_other, get_or-set_same, length-sets}
use borrow.Author.Count.{below_more, below_none}
use borrow.Author.Tests.{le-leb, lt-leb, le-ltb, lt-ltb, ltb-true, ltb-false, leb-true, leb-false}
use Rattle.std.specs.Prelude.{Result, Ok, Err}
use Rattle.basis.specs.Choice.{pick}
use Rattle.runtime.specs.declared.CoreTrap.TheVariants.{InvalidFunction}
use Rattle.image.specs.Program.{Program}
use Rattle.image.specs.Parts.{functions_of, regs_of}
use Rattle.exec.specs.declared.Ending.{Ending}
use Rattle.exec.specs.declared.Ending.TheVariants.{Trapped, FrameRoom, RegisterRoom}
use Rattle.exec.specs.Price.{Price}
use Rattle.lent.specs.Records.{record_of}
use Rattle.exec.specs.Lent.{unit_word, state}
use Rattle.exec.specs.Step.{Stepped, stepped, goes}
use Rattle.exec.specs.Run.{final, run}
use Rattle.exec.specs.Execute.{entry_state, made, started, entered}
use Rattle.exec.specs.Burst.{Frame, Good}

module _ (p : Program) (fr rg : List ℕ) (entry : ℕ) (e : entry ≡ p.entry) where
  pub made_none : functions_of p ≤ entry → stepped (Err (Trapped InvalidFunction)) fr rg ≡ made p fr rg
  unfolding made
  made_none h = let k : functions_of p ≤ p.entry = rw e at h in rw (le-leb _ _ k)

  module _ (known : entry < functions_of p) where
    exists : p.entry < functions_of p
    exists = rw e at known

    pub made_frames : length fr < 4 → stepped (Err FrameRoom) fr rg ≡ made p fr rg
    unfolding made
    made_frames h = rw (lt-leb _ _ exists, lt-ltb _ _ h)

    module _ (room : 4 ≤ length fr) (n : ℕ) (q : n ≡ regs_of p entry) where
      pub made_registers : length rg < n → stepped (Err RegisterRoom) fr rg ≡ made p fr rg
      unfolding made
      made_registers h = let k : length rg < regs_of p p.entry = rw (q, e) at h in rw (lt-leb _ _ exists, le-ltb _ _ room, lt-ltb _ _ k)

      module _ (fits : n ≤ length rg) where
        pub made_frame : stepped (Ok 1) (sets fr 0 (record_of entry 0 0 0)) (sets rg 0 (replicate n unit_word)) ≡ made p fr rg
        unfolding made
        made_frame =
            let k : regs_of p p.entry ≤ length rg = rw (q, e) at fits in
            let same : goes (state (sets fr 0 (record_of entry 0 0 0)) (sets rg 0 (replicate n unit_word)) 1) ≡ goes (entry_state p fr rg) = rw (q, e) in
            same ∙ sym (rw (lt-leb _ _ exists, le-ltb _ _ room, le-ltb _ _ k))

        pub entry_stands : Good p (sets fr 0 (record_of entry 0 0 0)) (length (sets rg 0 (replicate n unit_word))) 1
        entry_stands =
            let f1 : List ℕ = set fr 0 entry in
            let f2 : List ℕ = set f1 1 0 in
            let f3 : List ℕ = set f2 2 0 in
            let f : get_or (set f3 3 0) 0 0 ≡ entry =
            get_or-set_other f3 3 0 0 0 (λ e. omega arith) ∙ get_or-set_other f2 2 0 0 0 (λ e. omega arith) ∙ get_or-set_other f1 1 0 0 0 (λ e. omega arith)
            ∙ get_or-set_same fr 0 entry 0 (omega arith) in
            let g : get_or (set f3 3 0) 3 0 ≡ 0 = get_or-set_same f3 3 0 0 (simp length-set (omega arith)) in
            let bottom : Frame p (set f3 3 0) (length rg) 0 = record { function = rw f known; registers = rw (f, g, ← q) (omega arith) } in
            record {
              some = omega arith;
              room = simp length-set (omega arith);
              each = λ k h. rw length-sets (below_more (λ (k : ℕ). Frame p (set f3 3 0) (length rg) k) 0 (below_none _) bottom k h);
            }

-- ---- by its tests
pub record EntryCases (p : Program) (fr rg : List ℕ) (Q : Stepped → Type 0) : Type 0 where
  pub unknown : functions_of p ≤ p.entry → Q (stepped (Err (Trapped InvalidFunction)) fr rg)
  pub frames : p.entry < functions_of p → length fr < 4 → Q (stepped (Err FrameRoom) fr rg)
  pub registers : p.entry < functions_of p → 4 ≤ length fr → length rg < regs_of p p.entry → Q (stepped (Err RegisterRoom) fr rg)
  pub goes_on : p.entry < functions_of p → 4 ≤ length fr → regs_of p p.entry ≤ length rg → Q (goes (entry_state p fr rg))

by : (Q : Stepped → Type 0) (b : Bool) (x y : Stepped) → (b ≡ true → Q x) → (b ≡ false → Q y) → Q (pick b x y)
by Q true x y f g = f refl
by Q false x y f g = g refl

pub made_cases : (p : Program) (fr rg : List ℕ) (Q : Stepped → Type 0) → EntryCases p fr rg Q → Q (made p fr rg)
unfolding made
made_cases p fr rg Q c =
    by Q (leb (functions_of p) p.entry) _ _ (λ e. c.unknown (leb-true _ _ e)) (λ known.
    by Q (ltb (length fr) 4) _ _ (λ e. c.frames (leb-false _ _ known) (ltb-true _ _ e)) (λ room.
    by Q (ltb (length rg) (regs_of p p.entry)) _ _ (λ e. c.registers (leb-false _ _ known) (ltb-false _ _ room) (ltb-true _ _ e)) (λ space.
    c.goes_on (leb-false _ _ known) (ltb-false _ _ room) (ltb-false _ _ space))))

-- ---- where it is made it is the only frame, and stands
abbrev Alone : Program → Result ℕ Ending → List ℕ → List ℕ → Type 0
Alone p (Ok d) fr rg = Good p fr (length rg) 1 × (d ≡ 1)
Alone p (Err e) fr rg = Unit

pub made_alone : (p : Program) (fr rg : List ℕ) (d : ℕ) (fr' rg' : List ℕ) → stepped (Ok d) fr' rg' ≡ made p fr rg → Good p fr' (length rg') 1 × (d ≡ 1)
made_alone p fr rg d fr' rg' e =
    subst (λ (o : Stepped). Alone p o.answer o.frames o.regs) (sym e)
    (made_cases p fr rg (λ o. Alone p o.answer o.frames o.regs) (record {
      unknown = λ _. tt;
      frames = λ _ _. tt;
      registers = λ _ _ _. tt;
      goes_on = λ known room fits. (entry_stands p fr rg p.entry refl known room _ refl fits, refl);
    }))

-- ---- the execution from there
module _ (p : Program) (price : Price) (most fuel : ℕ) (fr rg : List ℕ) (fr' rg' : List ℕ) where
  pub enter_refused : (e : Ending) → stepped (Err e) fr' rg' ≡ made p fr rg → final e 0 fr' rg' ≡ entered p price most fuel fr rg
  unfolding entered
  enter_refused e q = ap (λ (o : Stepped). started o.answer o.frames o.regs (λ s. run p price most fuel s)) q

  pub enter_run : (d : ℕ) → stepped (Ok d) fr' rg' ≡ made p fr rg → run p price most fuel (state fr' rg' 1) ≡ entered p price most fuel fr rg
  unfolding entered
  enter_run d q =
      ap (λ (k : ℕ). run p price most fuel (state fr' rg' k)) (sym (made_alone p fr rg d fr' rg' q).1)
      ∙ ap (λ (o : Stepped). started o.answer o.frames o.regs (λ s. run p price most fuel s)) q
