-- With a record for each frame that the depth limit allows no frame is refused for want of one, whatever registers are lent. Assumes
-- nothing.
use Prim.Native.Nat.{ℕ, ◌*◌, ◌-◌, ◌≤◌}
use mathlib.Core.Path.{subst}
use mathlib.Core.List.{List}
use native.Mathlib.Omega.{arith}
use lib.ListN.{length, length-set}
use lib.Seq.{length-sets}
use Rattle.image.specs.Program.{Program}
use Rattle.exec.specs.declared.Ending.{Ending}
use Rattle.exec.specs.Price.{Price, Fair}
use Rattle.lent.specs.Records.{frame_words}
use Rattle.exec.specs.Lent.{State}
use Rattle.exec.specs.Step.{pushed_frames, step}
use Rattle.exec.specs.Run.{run}
use Rattle.exec.specs.Execute.{entry_state, entered}
use Rattle.course.specs.Course.{after, charged, Stop, Course}
use Rattle.course.specs.Course.Stop.{past, dry, acts}
use Rattle.course.proofs.Cases.{step_cases}
use Rattle.course.proofs.Courses.{run_course}
use Rattle.course.proofs.Entered.{entered_cases}
use Rattle.course.proofs.Along.{Keeps, along, at_end}
use Rattle.room.specs.Room.{records, WantsRecord}

module _ (p : Program) (price : Price) (fair : Fair price) (most fuel : ℕ) where
  -- the frames are no more than the limit allows, and all of those have their records
  record Recorded (s : State) : Type 0 where
    low : s.depth ≤ records most
    room : frame_words * records most ≤ length s.frames

  abbrev Kept : Ending → Type 0
  Kept e = WantsRecord e → ⊥

  step_recorded : (s : State) → Recorded s → Keeps Recorded Kept (step p most s)
  unfolding records pushed_frames
  step_recorded s h =
      step_cases p most s (Keeps Recorded Kept) (record {
        on = λ e l. record { low = h.low; room = rw length-set h.room };
        to = λ n e l. record { low = h.low; room = rw length-set h.room };
        fails = λ _ _ r. r;
        deep = λ _ _ _ r. r;
        unknown = λ _ _ _ _ r. r;
        misfits = λ _ _ _ _ _ r. r;
        frames = λ c l r. omega (arith, c.shallow, h.room);
        registers = λ _ _ _ r. r;
        pushes = λ c _ _. record { low = omega (arith, c.shallow); room = simp (length-sets, length-set) h.room };
        lacks = λ _ _ _ r. r;
        returns = λ _ _ r. r;
        hands = λ _ deep _. record { low = omega (arith, h.low); room = h.room };
        nowhere = λ _ _ _ r. r;
      })

  run_recorded : (s : State) → Recorded s → WantsRecord (run p price most fuel s).what → ⊥
  run_recorded s h = go c.stop
    where
      c : Course p price most fuel s (run p price most fuel s)
      c = run_course p price most fair fuel s

      go : Stop p price most (fuel - charged p price most c.steps s) (after p most c.steps s) (run p price most fuel s).what c.last
          → WantsRecord (run p price most fuel s).what → ⊥
      go (past w z l) r = subst WantsRecord w r
      go (dry w z i l) r = subst WantsRecord w r
      go (acts z i l q) r =
          let k : Recorded (after p most c.steps s) = along p most Recorded Kept (λ t x y. step_recorded t x) c.steps s c.leads h in
          at_end p most Recorded Kept (λ t x y. step_recorded t x) (after p most c.steps s) (run p price most fuel s).what k i q r

  module _ (fr rg : List ℕ) (enough : frame_words * records most ≤ length fr) where
    one : 1 ≤ records most
    unfolding records
    one = omega arith

    pub records_enough : WantsRecord (entered p price most fuel fr rg).what → ⊥
    records_enough =
        entered_cases p price most fuel fr rg (λ f. WantsRecord f.what → ⊥) (record {
          unknown = λ _ r. r;
          frames = λ _ l r. omega (arith, one, enough);
          registers = λ _ _ _ r. r;
          runs = λ _ _ _. run_recorded (entry_state p fr rg) (record { low = one; room = simp length-set enough });
        })
