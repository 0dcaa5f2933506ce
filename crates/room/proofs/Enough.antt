-- With the room that document 01 names no run is refused for room, of any program, admitted or not. Assumes nothing.
use Prim.Native.Nat.{ℕ, ◌*◌, ◌-◌, ◌≤◌, ◌<◌}
use mathlib.Core.Path.{◌≡◌, refl, subst}
use mathlib.Core.List.{List}
use native.Mathlib.Nat.{mul-le-mul_right}
use native.Mathlib.Omega.{arith}
use lib.ListN.{length, length-set}
use lib.Seq.{length-sets}
use Rattle.image.specs.Program.{Program}
use Rattle.image.specs.Parts.{functions_of, regs_of}
use Rattle.exec.specs.Price.{Price, Fair}
use Rattle.exec.specs.Lent.{State}
use Rattle.exec.specs.Run.{run}
use Rattle.exec.specs.Execute.{entry_state, entered}
use Rattle.exec.proofs.Entry.{entry_stands}
use Rattle.course.specs.Course.{after, charged, Refused, Stop, Course}
use Rattle.course.specs.Course.Stop.{past, dry, acts}
use Rattle.course.proofs.Courses.{run_course}
use Rattle.course.proofs.Words.{entry_first}
use Rattle.course.proofs.Entered.{entered_cases}
use Rattle.course.proofs.Along.{along, at_end}
use Rattle.room.specs.Room.{records, largest, words, Enough}
use Rattle.room.proofs.Roomy.{regs_most, Roomy, Served, step_roomy}

module _ (p : Program) (price : Price) (fair : Fair price) (most fuel : ℕ) where
  run_served : (s : State) → Roomy p most s → Refused (run p price most fuel s).what → ⊥
  run_served s h = go c.stop
    where
      c : Course p price most fuel s (run p price most fuel s)
      c = run_course p price most fair fuel s

      go : Stop p price most (fuel - charged p price most c.steps s) (after p most c.steps s) (run p price most fuel s).what c.last
          → Refused (run p price most fuel s).what → ⊥
      go (past w z l) r = subst Refused w r
      go (dry w z i l) r = subst Refused w r
      go (acts z i l q) r =
          let k : Roomy p most (after p most c.steps s) = along p most (Roomy p most) (Served p most) (λ t x y. step_roomy p most t x) c.steps s c.leads h in
          at_end p most (Roomy p most) (Served p most) (λ t x y. step_roomy p most t x) (after p most c.steps s) (run p price most fuel s).what k i q r

  module _ (fr rg : List ℕ) (enough : Enough p most fr rg) where
    one : 1 ≤ records most
    unfolding records
    one = omega arith

    entry_record : 4 ≤ length fr
    entry_record = omega (arith, one, enough.frames)

    entry_words : regs_of p p.entry ≤ length rg
    unfolding words
    entry_words =
        let m : 1 * largest p.functions ≤ records most * largest p.functions = mul-le-mul_right (largest p.functions) one in
        omega (arith, regs_most p most p.entry, enough.regs)

    entry_roomy : p.entry < functions_of p → Roomy p most (entry_state p fr rg)
    entry_roomy known = record {
      good = entry_stands p fr rg p.entry refl known entry_record (regs_of p p.entry) refl entry_words;
      low = one;
      firsts = λ k l. let e : k ≡ 0 = omega arith in rw (e, entry_first fr p.entry entry_record) (omega arith);
      room = record { frames = simp length-set enough.frames; regs = rw length-sets enough.regs };
    }

    pub room_enough : Refused (entered p price most fuel fr rg).what → ⊥
    room_enough =
        entered_cases p price most fuel fr rg (λ f. Refused f.what → ⊥) (record {
          unknown = λ _ r. r;
          frames = λ _ l r. omega (arith, entry_record);
          registers = λ _ _ l r. omega (arith, entry_words);
          runs = λ known _ _. run_served (entry_state p fr rg) (entry_roomy known);
        })
