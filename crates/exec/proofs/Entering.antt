-- The entry frame, made on a record of its own, is the entry frame on the lent records. Assumes nothing.
use Prim.Native.Nat.{ℕ, ◌*◌, ◌≤◌, ◌<◌}
use mathlib.Core.Path.{◌≡◌, refl, sym, ap, ◌∙◌, subst}
use mathlib.Core.Bool.{Bool, true, false}
use mathlib.Core.List.{List, ◌++◌}
use native.Mathlib.Omega.{arith}
use native.Mathlib.Nat.{sub_self, zero-add}
use lib.Dec.{eqb}
use lib.ListN.{length, get_or, set, take, replicate, get_or-append}
use lib.Seq.{sets, length-sets, length-take-le}
use borrow.Author.Tests.{eqb-true, eqb-false}
use Rattle.std.specs.Prelude.{Result, Ok, Err}
use Rattle.basis.specs.Choice.{pick}
use Rattle.image.specs.Records.{form1}
use Rattle.image.specs.WellFormed.{WellFormed}
use Rattle.image.specs.Program.{Program, decode}
use Rattle.image.specs.Parts.{regs_of}
use Rattle.lent.specs.declared.FrameRecord.{FrameRecord}
use Rattle.lent.specs.Records.{record_words, words_of}
use Rattle.lent.proofs.Words.{length-words, sets_record}
use Rattle.exec.specs.declared.Ending.{Ending}
use Rattle.exec.specs.declared.in_frames.Machine.{Machine}
use Rattle.exec.specs.Price.{unit}
use Rattle.exec.specs.Lent.{record_in, unit_word, state}
use Rattle.exec.specs.Step.{Stepped, stepped}
use Rattle.exec.specs.Run.{later, run}
use Rattle.exec.specs.Execute.{made}
use Rattle.exec.specs.InFrames.{comes_to, Enters}
use Rattle.exec.proofs.Lists.{get_or-sets_in}
use Rattle.exec.proofs.Runs.{later_zero}
use Rattle.exec.proofs.Entry.{made_none, made_frames, made_registers, made_frame, made_cases, made_alone, enter_refused, enter_run}

-- the words lent: a record if there is one
abbrev room_for : ℕ → ℕ
room_for records = pick (eqb records 0) 0 1

abbrev blank : ℕ → List ℕ
blank n = take (4 * n) (replicate 4 0)

pub blank_length : (n : ℕ) → n ≤ 1 → length (blank n) ≡ 4 * n
blank_length n h = length-take-le (4 * n) (replicate 4 0) (omega arith)

-- there is room for a record in both, or in neither
blank_room : (records n : ℕ) → n ≡ room_for records → (4 * n < 4 → 4 * records < 4) × (4 ≤ 4 * n → 4 ≤ 4 * records)
blank_room records n e = go (eqb records 0) refl
  where
    go : (b : Bool) → eqb records 0 ≡ b → (4 * n < 4 → 4 * records < 4) × (4 ≤ 4 * n → 4 ≤ 4 * records)
    go true q = let z : records ≡ 0 = eqb-true records 0 q in let o : n ≡ 0 = rw q at e in (λ h. omega arith, λ h. omega arith)
    go false q = let o : n ≡ 1 = rw q at e in (λ h. omega arith, λ h. omega (arith, eqb-false records 0 q))

-- the record is read back
read_back : (w rest : List ℕ) (r : FrameRecord) → 4 ≤ length w → record_in (sets w 0 (record_words r) ++ rest) 0 ≡ r
read_back w rest r h = λ i. record { function = word 0 (omega arith) i; place = word 1 (omega arith) i; dst = word 2 (omega arith) i; first = word 3 (omega arith) i }
  where
    word : (j : ℕ) → j < 4 → get_or (sets w 0 (record_words r) ++ rest) j 0 ≡ get_or (record_words r) j 0
    word j l =
        get_or-append (sets w 0 (record_words r)) rest 0 j (rw (length-sets w 0 (record_words r)) (omega arith))
        ∙ ap (λ (k : ℕ). get_or (sets w 0 (record_words r)) k 0) (sym (zero-add j))
        ∙ get_or-sets_in w 0 (record_words r) j (omega arith) l

module _ (p : Program) (records n : ℕ) (rg : List ℕ) (e : n ≡ room_for records) (small : n ≤ 1) (frames : List FrameRecord) (many : length frames ≡ records) (rest : List ℕ) where
  -- what is so of the lent records after the same step
  abbrev Follows : Result ℕ Ending → List ℕ → List ℕ → Type 0
  Follows (Ok j) w rg' = stepped (Ok 1) (words_of (set frames 0 (record_in (w ++ rest) 0))) rg' ≡ made p (words_of frames) rg
  Follows (Err x) w rg' = stepped (Err x) (words_of frames) rg' ≡ made p (words_of frames) rg

  -- the entry frame's record
  abbrev first : FrameRecord
  first = record { function = p.entry; place = 0; dst = 0; first = 0 }

  words_long : length (words_of frames) ≡ 4 * records
  words_long = length-words frames ∙ ap (λ (k : ℕ). 4 * k) many

  roomy : 4 ≤ length (blank n) → 4 ≤ length (words_of frames)
  roomy h = rw words_long ((blank_room records n e).1 (rw (blank_length n small) at h))

  pub made_follows : (x : Result ℕ Ending) (w rg' : List ℕ) → stepped x w rg' ≡ made p (blank n) rg → Follows x w rg'
  made_follows x w rg' q =
      subst (λ (o : Stepped). Follows o.answer o.frames o.regs) (sym q)
      (made_cases p (blank n) rg (λ o. Follows o.answer o.frames o.regs) (record {
        unknown = λ h. made_none p (words_of frames) rg p.entry refl h;
        frames = λ known h. made_frames p (words_of frames) rg p.entry refl known (rw words_long ((blank_room records n e).0 (rw (blank_length n small) at h)));
        registers = λ known room h. made_registers p (words_of frames) rg p.entry refl known (roomy room) _ refl h;
        goes_on = λ known room fits.
            ap (λ (r : FrameRecord). stepped (Ok 1) (words_of (set frames 0 r)) (sets rg 0 (replicate (regs_of p p.entry) unit_word))) (read_back (blank n) rest first room)
            ∙ ap (λ (l : List ℕ). stepped (Ok 1) l (sets rg 0 (replicate (regs_of p p.entry) unit_word))) (sym (sets_record frames 0 first))
            ∙ made_frame p (words_of frames) rg p.entry refl known (roomy room) _ refl fits;
      }))

-- ---- the machine that begins
module _ (bytes : List ℕ) (most fuel records n : ℕ) (rg w rg' rest : List ℕ) (e : n ≡ room_for records) (small : n ≤ 1) where
  abbrev p : Program
  p = decode form1 bytes

  pub refused_enters : (x : Ending) → stepped (Err x) w rg' ≡ made p (blank n) rg → Enters bytes most fuel records rg (Err (record { what = x; used = 0 })) rg'
  unfolding comes_to
  refused_enters x q frames many =
      (tt, enter_refused p unit most fuel (words_of frames) rg (words_of frames) rg' x (made_follows p records n rg e small frames many rest (Err x) w rg' q))

  abbrev begun : FrameRecord → Machine
  begun top = record { depth = 1; records = records; most = most; fuel = fuel; left = fuel; top = top }

  pub made_enters : WellFormed form1 bytes → (j : ℕ) → stepped (Ok j) w rg' ≡ made p (blank n) rg
      → Enters bytes most fuel records rg (Ok (begun (record_in (w ++ rest) 0))) rg'
  unfolding comes_to
  made_enters wf j q frames many =
      let top : FrameRecord = record_in (w ++ rest) 0 in
      let f : stepped (Ok 1) (words_of (set frames 0 top)) rg' ≡ made p (words_of frames) rg = made_follows p records n rg e small frames many rest (Ok j) w rg' q in (
        record {
          well_formed = wf;
          good = (made_alone p (words_of frames) rg 1 (words_of (set frames 0 top)) rg' f).0;
          records = sym many;
          fuel = omega arith;
        },
        ap (λ (k : ℕ). later k (run p unit most fuel (state (words_of (set frames 0 top)) rg' 1))) (sub_self fuel)
            ∙ later_zero (run p unit most fuel (state (words_of (set frames 0 top)) rg' 1)) ∙ enter_run p unit most fuel (words_of frames) rg (words_of (set frames 0 top)) rg' 1 f,
      )
