-- A step keeps the running frame within the depth limit, and each frame's registers within as many times the largest count. Assumes
-- nothing.
use Prim.Native.Nat.{ℕ, zero, suc, ◌+◌, ◌*◌, ◌-◌, ◌≤◌, ◌<◌}
use mathlib.Core.Path.{◌≡◌, refl, ap, ◌∙◌, subst}
use mathlib.Core.Bool.{Bool, true, false}
use mathlib.Core.List.{List, [], ◌∷◌}
use native.Mathlib.Nat.{le_trans, le-max_left, le-max_right, mul-le-mul_right, suc-mul}
use native.Mathlib.Omega.{arith}
use lib.Dec.{ltb}
use lib.ListN.{length, get_or, set, length-set}
use lib.Seq.{length-sets}
use borrow.Author.Tests.{ltb-true, ltb-false}
use Rattle.image.specs.Program.{Function, Program, no_function}
use Rattle.image.specs.Parts.{regs_of}
use Rattle.exec.specs.declared.Ending.{Ending}
use Rattle.exec.specs.Lent.{first_word, State, state, top_at}
use Rattle.exec.specs.Step.{moved, pushed_frames, pushed_regs, next_instr, step}
use Rattle.exec.proofs.Parts.{length_part, length-put}
use Rattle.exec.proofs.Keeps.{GoodIn, moved_good, push_keeps}
use Rattle.course.proofs.Cases.{window, regs_at, source, below_at, dst_at, Calls, step_cases}
use Rattle.course.proofs.Words.{moved_first, old_first, new_first}
use Rattle.course.specs.Course.{Refused}
use Rattle.course.proofs.Along.{Keeps}
use Rattle.room.specs.Room.{records, largest, words, Enough}

-- no function has more registers than the largest
listed_most : (fs : List Function) (k : ℕ) → (get_or fs k no_function).regs ≤ largest fs
unfolding largest
listed_most [] k = omega arith
listed_most (f ∷ fs) zero = le-max_left f.regs (largest fs)
listed_most (f ∷ fs) (suc k) = le_trans (listed_most fs k) (le-max_right f.regs (largest fs))

module _ (p : Program) (most : ℕ) where
  abbrev pub each : ℕ
  each = largest p.functions

  pub regs_most : (k : ℕ) → regs_of p k ≤ each
  regs_most k = listed_most p.functions k

  -- the frames are no more than the limit allows, and the registers of those below record k no more than k times the largest count
  pub record Roomy (s : State) : Type 0 where
    pub good : GoodIn p s
    pub low : s.depth ≤ records most
    pub firsts : (k : ℕ) → k < s.depth → first_word s.frames k ≤ k * each
    pub room : Enough p most s.frames s.regs

  -- not refused
  abbrev pub Served : Ending → Type 0
  Served e = Refused e → ⊥

  module _ (s : State) (h : Roomy s) where
    some : 1 ≤ s.depth
    some = h.good.some

    fits : (top_at p s).first + (top_at p s).limit ≤ length s.regs
    fits = (h.good.each (s.depth - 1) (omega (arith, some))).registers

    -- the registers of d frames
    end_low : (top_at p s).first + (top_at p s).limit ≤ s.depth * each
    end_low =
        let e : suc (s.depth - 1) ≡ s.depth = omega (arith, some) in
        let m : suc (s.depth - 1) * each ≡ (s.depth - 1) * each + each = suc-mul (s.depth - 1) each in
        subst (λ (d : ℕ). (top_at p s).first + (top_at p s).limit ≤ d * each) e
        (omega (arith, m, h.firsts (s.depth - 1) (omega (arith, some)), regs_most (top_at p s).function))

    moved_roomy : (n : ℕ) (w : List ℕ) → length w ≡ (top_at p s).limit → Roomy (moved s (top_at p s) n w)
    moved_roomy n w e = record {
      good = moved_good p s n w h.good e;
      low = h.low;
      firsts = λ k l. rw (moved_first s.frames s.depth n k) (h.firsts k l);
      room = record {
        frames = rw length-set h.room.frames;
        regs = rw (length-put s.regs (top_at p s).first (top_at p s).limit fits w e) h.room.regs;
      };
    }

    -- ---- Call, below the depth limit
    module _ (shallow : s.depth < most) where
      deeper : s.depth + 1 ≤ records most
      unfolding records
      deeper = omega arith

      record_left : 4 * (s.depth + 1) ≤ length s.frames
      record_left = omega (arith, deeper, h.room.frames)

      words_left : (top_at p s).first + (top_at p s).limit + regs_of p (next_instr p s).b ≤ length s.regs
      unfolding words
      words_left =
          let e : s.depth + 1 ≡ suc s.depth = omega arith in
          let m : suc s.depth * each ≡ s.depth * each + each = suc-mul s.depth each in
          let n : (s.depth + 1) * each ≤ records most * each = mul-le-mul_right each deeper in
          let o : suc s.depth * each ≤ records most * each = subst (λ (d : ℕ). d * each ≤ records most * each) e n in
          omega (arith, end_low, regs_most (next_instr p s).b, h.room.regs)

    module _ (c : Calls p most s) where
      abbrev frames' : List ℕ
      frames' = pushed_frames s.frames s.depth (top_at p s) (next_instr p s)

      abbrev regs' : List ℕ
      regs' = pushed_regs s.regs (top_at p s) (next_instr p s) (regs_of p (next_instr p s).b)

      pushed_firsts : (k : ℕ) → k < s.depth + 1 → first_word frames' k ≤ k * each
      pushed_firsts k q = go (ltb k s.depth) refl
        where
          go : (b : Bool) → ltb k s.depth ≡ b → first_word frames' k ≤ k * each
          go true x = rw (old_first s.frames s.depth (top_at p s) (next_instr p s) k (ltb-true _ _ x)) (h.firsts k (ltb-true _ _ x))
          go false x =
              let l : s.depth ≤ k = ltb-false _ _ x in
              let e : k ≡ s.depth = omega arith in
              rw (e, new_first s.frames s.depth (top_at p s) (next_instr p s) some (record_left c.shallow)) end_low

      pushed_room : Enough p most frames' regs'
      unfolding pushed_frames pushed_regs
      pushed_room = record { frames = simp (length-sets, length-set) h.room.frames; regs = rw length-sets h.room.regs }

      pushed_roomy : Roomy (state frames' regs' (s.depth + 1))
      pushed_roomy = record {
        good = push_keeps p s (top_at p s) (next_instr p s) h.good c.known (record_left c.shallow) (words_left c.shallow);
        low = deeper c.shallow;
        firsts = pushed_firsts;
        room = pushed_room;
      }

    -- ---- Ret
    handed_roomy : (j v : ℕ) → 1 < s.depth → Roomy (state s.frames (set s.regs j v) (s.depth - 1))
    handed_roomy j v deep = record {
      good = rw length-set (record { some = omega arith; room = omega (arith, h.good.room); each = λ k l. h.good.each k (omega arith) });
      low = omega (arith, h.low);
      firsts = λ k l. h.firsts k (omega arith);
      room = record { frames = h.room.frames; regs = rw length-set h.room.regs };
    }

    -- ---- any instruction
    wide : length (window p s) ≡ (top_at p s).limit
    wide = length_part s.regs (top_at p s).first (top_at p s).limit fits

    pub step_roomy : Keeps Roomy Served (step p most s)
    step_roomy =
        step_cases p most s (Keeps Roomy Served) (record {
          on = λ e l. moved_roomy ((top_at p s).place + 1) (regs_at p s) (l ∙ wide);
          to = λ n e l. moved_roomy n (regs_at p s) (ap length l ∙ wide);
          fails = λ _ _ r. r;
          deep = λ _ _ _ r. r;
          unknown = λ _ _ _ _ r. r;
          misfits = λ _ _ _ _ _ r. r;
          frames = λ c l r. omega (arith, record_left c.shallow);
          registers = λ c _ l r. omega (arith, words_left c.shallow);
          pushes = λ c _ _. pushed_roomy c;
          lacks = λ _ _ _ r. r;
          returns = λ _ _ r. r;
          hands = λ _ deep _. handed_roomy ((below_at p s).first + dst_at s) (source p s) deep;
          nowhere = λ _ _ _ r. r;
        })
