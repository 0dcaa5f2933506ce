-- One program executed in two lent memories: neither their contents nor their sizes change status, value and fuel, unless one is
-- refused for room. Assumes nothing.
use Prim.Native.Nat.{ℕ, ◌+◌, ◌≤◌, max}
use mathlib.Core.Path.{◌≡◌, refl, subst}
use mathlib.Core.Bool.{Bool, true, false}
use mathlib.Core.List.{List}
use native.Mathlib.Omega.{arith}
use lib.ListN.{length, replicate, length-replicate}
use lib.Seq.{sets}
use Rattle.basis.specs.Choice.{pick}
use Rattle.basis.specs.Answers.{is_fine}
use Rattle.runtime.specs.declared.CoreTrap.TheVariants.{InvalidFunction}
use Rattle.image.specs.Records.{RecordLayout}
use Rattle.image.specs.Image.{image_fault}
use Rattle.image.specs.Program.{Program, decode}
use Rattle.image.specs.Parts.{regs_of}
use Rattle.exec.specs.declared.Ending.{Ending}
use Rattle.exec.specs.declared.Ending.TheVariants.{Returned, Trapped, FrameRoom, RegisterRoom}
use Rattle.exec.specs.Price.{Price, Fair}
use Rattle.lent.specs.Records.{record_of}
use Rattle.exec.specs.Lent.{unit_word}
use Rattle.exec.specs.Run.{Final, final, run}
use Rattle.exec.specs.Execute.{outcome_numbers, outcome_of, entry_state, entered, executed, ended, execution}
use Rattle.course.specs.Course.{Refused, Made}
use Rattle.course.proofs.Words.{entry_function, entry_first}
use Rattle.course.proofs.Entered.{entered_cases}
use Rattle.twins.specs.Twins.{Agree, Alike, SameEnd, UpTo, Refusal, NoRoom}
use Rattle.twins.specs.Twins.Refusal.{at_entry, at_call}
use Rattle.twins.proofs.Agrees.{less, sets_agree}
use Rattle.twins.proofs.Runs.{same_end, up_to}

-- no word has to agree
pub nothing : (xs ys : List ℕ) → Agree 0 xs ys
nothing xs ys = record { left = omega arith; right = omega arith; words = λ j l. absurd (omega arith) }

fewer : (K M k m : ℕ) (f g : Final) → k ≤ K → m ≤ M → SameEnd K M f g → SameEnd k m f g
fewer K M k m f g a b h = record {
  what = h.what;
  used = h.used;
  frames = less K k f.frames g.frames a h.frames;
  regs = less M m f.regs g.regs b h.regs;
}

module _ (p : Program) (k m : ℕ) (fr rg fr' rg' : List ℕ) (hf : Agree k fr fr') (hr : Agree m rg rg') where
  abbrev n : ℕ
  n = regs_of p p.entry

  entry_alike : 4 ≤ length fr → 4 ≤ length fr' → n ≤ length rg → n ≤ length rg' → Alike p (max k 4) (max m n) (entry_state p fr rg) (entry_state p fr' rg')
  entry_alike a b c d =
      let z : 0 + length (replicate n unit_word) ≡ n = rw length-replicate (omega arith) in
      record {
        depth = refl;
        some = omega arith;
        frames = sets_agree k fr fr' 0 (record_of p.entry 0 0 0) hf (omega arith) a b;
        regs =
            subst (λ (x : ℕ). Agree (max m x) (sets rg 0 (replicate n unit_word)) (sets rg' 0 (replicate n unit_word))) z
            (sets_agree m rg rg' 0 (replicate n unit_word) hr (omega arith) (rw z c) (rw z d));
        records = omega arith;
        windows = λ j l. let e : j ≡ 0 = omega arith in rw (e, entry_first fr p.entry a, entry_function fr p.entry a) (omega arith);
      }

  module _ (price : Price) (fair : Fair price) (most fuel : ℕ) where
    abbrev run_first : Final
    run_first = run p price most fuel (entry_state p fr rg)

    abbrev run_second : Final
    run_second = run p price most fuel (entry_state p fr' rg')

    -- two executions: the entry exists for neither, or one is refused for it, or both run
    record Twice (Q : Final → Final → Type 0) : Type 0 where
      unknown : Q (final (Trapped InvalidFunction) 0 fr rg) (final (Trapped InvalidFunction) 0 fr' rg')
      first : (e : Ending) (g : Final) → Refused e → (Made p fr rg → ⊥) → Q (final e 0 fr rg) g
      second : (f : Final) (e : Ending) → Refused e → Q f (final e 0 fr' rg')
      runs : Alike p (max k 4) (max m n) (entry_state p fr rg) (entry_state p fr' rg') → Q run_first run_second

    twice : (Q : Final → Final → Type 0) → Twice Q → Q (entered p price most fuel fr rg) (entered p price most fuel fr' rg')
    twice Q c =
        entered_cases p price most fuel fr rg (λ f. Q f (entered p price most fuel fr' rg')) (record {
          unknown = λ l. entered_cases p price most fuel fr' rg' (Q (final (Trapped InvalidFunction) 0 fr rg)) (record {
            unknown = λ _. c.unknown;
            frames = λ q _. absurd (omega arith);
            registers = λ q _ _. absurd (omega arith);
            runs = λ q _ _. absurd (omega arith);
          });
          frames = λ _ l. c.first FrameRoom (entered p price most fuel fr' rg') tt (λ m. omega (arith, m.room));
          registers = λ _ _ l. c.first RegisterRoom (entered p price most fuel fr' rg') tt (λ m. omega (arith, m.space));
          runs = λ known x y. entered_cases p price most fuel fr' rg' (Q run_first) (record {
            unknown = λ q. absurd (omega arith);
            frames = λ _ _. c.second run_first FrameRoom tt;
            registers = λ _ _ _. c.second run_first RegisterRoom tt;
            runs = λ _ v w. c.runs (entry_alike x v y w);
          });
        })

    pub independent : (Refused (entered p price most fuel fr rg).what → ⊥) → (Refused (entered p price most fuel fr' rg').what → ⊥)
        → SameEnd k m (entered p price most fuel fr rg) (entered p price most fuel fr' rg')
    independent =
        twice (λ f g. (Refused f.what → ⊥) → (Refused g.what → ⊥) → SameEnd k m f g) (record {
          unknown = λ _ _. record { what = refl; used = refl; frames = hf; regs = hr };
          first = λ e g r _ kept _. absurd (kept r);
          second = λ f e r _ served. absurd (served r);
          runs = λ a kept served.
              fewer (max k 4) (max m n) k m run_first run_second (omega arith) (omega arith)
              (same_end p price fair most fuel (max k 4) (max m n) (entry_state p fr rg) (entry_state p fr' rg') a served kept);
        })

    pub refused_up_to : Refused (entered p price most fuel fr rg).what → (Refused (entered p price most fuel fr' rg').what → ⊥)
        → Refusal p price most fuel k m fr rg fr' rg' (entered p price most fuel fr rg) (entered p price most fuel fr' rg')
    refused_up_to =
        twice (λ f g. Refused f.what → (Refused g.what → ⊥) → Refusal p price most fuel k m fr rg fr' rg' f g) (record {
          unknown = λ r _. absurd r;
          first = λ e g r unmade _ _. at_entry unmade refl refl refl;
          second = λ f e r _ served. absurd (served r);
          runs = λ a r served. at_call (nearer (up_to p price fair most fuel (max k 4) (max m n) (entry_state p fr rg) (entry_state p fr' rg') a served r));
        })
      where
        nearer : UpTo p price most fuel (max k 4) (max m n) (entry_state p fr rg) (entry_state p fr' rg') run_first run_second
            → UpTo p price most fuel k m (entry_state p fr rg) (entry_state p fr' rg') run_first run_second
        nearer u = record {
          steps = u.steps;
          abreast = record {
            first = u.abreast.first;
            second = u.abreast.second;
            charge = u.abreast.charge;
            frames_to = u.abreast.frames_to;
            regs_to = u.abreast.regs_to;
            frames = omega (arith, u.abreast.frames);
            regs = omega (arith, u.abreast.regs);
            alike = u.abreast.alike;
          };
          refuses = u.refuses;
          frames = u.frames;
          regs = u.regs;
          used = u.used;
          goes_on = u.goes_on;
        }

-- ---- the answer: the lent words' contents and sizes do not occur in it
-- how a run that is refused is numbered
refused_number : (what : Ending) (used : ℕ) → NoRoom (outcome_numbers (outcome_of what used)) → Refused what → ⊥
refused_number (Returned word) used h r = r
refused_number (Trapped t) used h r = r
refused_number FrameRoom used h r = h.frames refl
refused_number RegisterRoom used h r = h.regs refl

pub same_answer : (L : RecordLayout) (b : List ℕ) (price : Price) → Fair price → (most fuel : ℕ) (fr rg fr' rg' : List ℕ)
    → NoRoom (execution L price b most fuel fr rg).answer → NoRoom (execution L price b most fuel fr' rg').answer
    → (execution L price b most fuel fr' rg').answer ≡ (execution L price b most fuel fr rg).answer
unfolding execution
same_answer L b price fair most fuel fr rg fr' rg' = go (is_fine (image_fault L b))
  where
    F : Final
    F = entered (decode L b) price most fuel fr rg

    G : Final
    G = entered (decode L b) price most fuel fr' rg'

    go : (c : Bool) → NoRoom (pick c (ended F) (executed (image_fault L b) fr rg)).answer → NoRoom (pick c (ended G) (executed (image_fault L b) fr' rg')).answer
        → (pick c (ended G) (executed (image_fault L b) fr' rg')).answer ≡ (pick c (ended F) (executed (image_fault L b) fr rg)).answer
    go true kept served =
        let same : SameEnd 0 0 F G = independent (decode L b) 0 0 fr rg fr' rg' (nothing fr fr') (nothing rg rg') price fair most fuel (refused_number F.what F.used kept) (refused_number G.what G.used served) in
        λ i. outcome_numbers (outcome_of (same.what i) (same.used i))
    go false kept served = refl
