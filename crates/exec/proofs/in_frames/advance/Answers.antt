use native.Mathlib.Omega.{arith}
use Rattle.exec.proofs.Advanced.{on_size, over_fuel, on_onward, over_onward}
use Rattle.exec.proofs.in_frames.advance.Goals as goal
use Rattle.exec.proofs.in_frames.advance.Goals.{in-Ok, in-Err}

pub overflow_add-next : goal.overflow_add-next
overflow_add-next c = rw c.shown-k.ensures.value (omega (arith, (on_size _ _ _ _ _ _ _ c.requires.frames c.requires.stands c.requires.found _ (rw c.in-Ok.is at c.turn_in_window-t.ensures)).2, c.well_formed))

pub overflow_sub-j : goal.overflow_sub-j
overflow_sub-j c = (on_size _ _ _ _ _ _ _ c.requires.frames c.requires.stands c.requires.found _ (rw c.in-Ok.is at c.turn_in_window-t.ensures)).0

pub load_record-requires : goal.load_record-requires
load_record-requires c = omega (arith, on_size _ _ _ _ _ _ _ c.requires.frames c.requires.stands c.requires.found _ (rw c.in-Ok.is at c.turn_in_window-t.ensures))

pub overflow_sub-next-in-Err : goal.overflow_sub-next-in-Err
overflow_sub-next-in-Err c = over_fuel _ _ _ _ _ _ _ c.requires.frames c.requires.stands c.requires.found _ (rw c.in-Err.is at c.turn_in_window-t.ensures)

pub returns : goal.returns
returns c frames s found = elim c.match-t.branch [
  | in-Ok w ↦ rw (w.next-is, w.load_record.ensures, c.load_record-stored.ensures, c.shown-k.ensures.value) (on_onward _ _ _ _ _ _ _ frames s found _ (rw w.in-Ok.is at c.turn_in_window-t.ensures))
  | in-Err w ↦ rw (w.next-is, c.load_record-stored.ensures, c.shown-k.ensures.value) (over_onward _ _ _ _ _ _ _ frames s found _ (rw w.in-Err.is at c.turn_in_window-t.ensures))
]
