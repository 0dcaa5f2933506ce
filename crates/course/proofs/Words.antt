-- The words of records after a step: one that stays in its frame changes the running record's place, and a Call makes a record more.
-- Assumes nothing.
use Prim.Native.Nat.{ℕ, suc, ◌+◌, ◌*◌, ◌-◌, ◌≤◌, ◌<◌}
use mathlib.Core.Path.{◌≡◌, ◌∙◌, subst}
use mathlib.Core.List.{List}
use mathlib.Core.Logic.{◌≢◌}
use native.Mathlib.Omega.{arith}
use lib.ListN.{length, get_or, set, length-set}
use lib.Seq.{sets, get_or-set_same, get_or-set_other}
use Rattle.instr.specs.declared.Instr.{Instr}
use Rattle.exec.specs.declared.frame.Top.{Top}
use Rattle.lent.specs.Records.{record_of}
use Rattle.exec.specs.Lent.{function_word, place_word, dst_word, first_word}
use Rattle.exec.specs.Step.{pushed_frames}
use Rattle.exec.proofs.Lists.{get_or-sets_below, get_or-sets_in}

-- ---- the record at depth d moved to the place n
module _ (fr : List ℕ) (d n : ℕ) where
  abbrev moved_frames : List ℕ
  moved_frames = set fr (4 * (d - 1) + 1) n

  pub moved_function : (k : ℕ) → function_word moved_frames k ≡ function_word fr k
  moved_function k = get_or-set_other fr (4 * (d - 1) + 1) (4 * k) n 0 (λ e. omega arith)

  pub moved_dst : (k : ℕ) → dst_word moved_frames k ≡ dst_word fr k
  moved_dst k = get_or-set_other fr (4 * (d - 1) + 1) (4 * k + 2) n 0 (λ e. omega arith)

  pub moved_first : (k : ℕ) → first_word moved_frames k ≡ first_word fr k
  moved_first k = get_or-set_other fr (4 * (d - 1) + 1) (4 * k + 3) n 0 (λ e. omega arith)

  pub moved_place : (k : ℕ) → k ≢ d - 1 → place_word moved_frames k ≡ place_word fr k
  moved_place k h = get_or-set_other fr (4 * (d - 1) + 1) (4 * k + 1) n 0 (λ e. h (omega arith))

  pub moved_top : 1 ≤ d → 4 * d ≤ length fr → place_word moved_frames (d - 1) ≡ n
  moved_top some room = get_or-set_same fr (4 * (d - 1) + 1) n 0 (omega arith)

-- ---- a record pushed on the d that there are
module _ (fr : List ℕ) (d : ℕ) (t : Top) (i : Instr) where
  -- the words below it, but for the caller's place
  pub pushed_old : (j : ℕ) → j < 4 * d → j ≢ 4 * (d - 1) + 1 → get_or (pushed_frames fr d t i) j 0 ≡ get_or fr j 0
  unfolding pushed_frames
  pushed_old j l n =
      get_or-sets_below (set fr (4 * (d - 1) + 1) (t.place + 1)) (4 * d) j (record_of i.b 0 i.a (t.first + t.limit)) l
      ∙ get_or-set_other fr (4 * (d - 1) + 1) j (t.place + 1) 0 n

  module _ (k : ℕ) (l : k < d) where
    pub old_function : function_word (pushed_frames fr d t i) k ≡ function_word fr k
    old_function = pushed_old (4 * k) (omega arith) (λ e. omega arith)

    pub old_dst : dst_word (pushed_frames fr d t i) k ≡ dst_word fr k
    old_dst = pushed_old (4 * k + 2) (omega arith) (λ e. omega arith)

    pub old_first : first_word (pushed_frames fr d t i) k ≡ first_word fr k
    old_first = pushed_old (4 * k + 3) (omega arith) (λ e. omega arith)

    pub old_place : suc k < d → place_word (pushed_frames fr d t i) k ≡ place_word fr k
    old_place q = pushed_old (4 * k + 1) (omega arith) (λ e. omega arith)

  module _ (some : 1 ≤ d) (room : 4 * (d + 1) ≤ length fr) where
    -- the caller goes on after the Call
    pub caller_place : place_word (pushed_frames fr d t i) (d - 1) ≡ t.place + 1
    unfolding pushed_frames
    caller_place =
        get_or-sets_below (set fr (4 * (d - 1) + 1) (t.place + 1)) (4 * d) (4 * (d - 1) + 1) (record_of i.b 0 i.a (t.first + t.limit)) (omega arith)
        ∙ get_or-set_same fr (4 * (d - 1) + 1) (t.place + 1) 0 (omega arith)

    -- the new record's words
    new_word : (m : ℕ) → m < 4 → get_or (pushed_frames fr d t i) (4 * d + m) 0 ≡ get_or (record_of i.b 0 i.a (t.first + t.limit)) m 0
    unfolding pushed_frames
    new_word m l =
        get_or-sets_in (set fr (4 * (d - 1) + 1) (t.place + 1)) (4 * d) (record_of i.b 0 i.a (t.first + t.limit)) m (rw length-set (omega arith)) l

    pub new_function : function_word (pushed_frames fr d t i) d ≡ i.b
    new_function = let e : 4 * d + 0 ≡ 4 * d = omega arith in rw (← e) (new_word 0 (omega arith))

    pub new_place : place_word (pushed_frames fr d t i) d ≡ 0
    new_place = new_word 1 (omega arith)

    pub new_dst : dst_word (pushed_frames fr d t i) d ≡ i.a
    new_dst = new_word 2 (omega arith)

    pub new_first : first_word (pushed_frames fr d t i) d ≡ t.first + t.limit
    new_first = new_word 3 (omega arith)

-- ---- the entry frame's record
module _ (fr : List ℕ) (entry : ℕ) (room : 4 ≤ length fr) where
  entry_word : (m : ℕ) → m < 4 → get_or (sets fr 0 (record_of entry 0 0 0)) m 0 ≡ get_or (record_of entry 0 0 0) m 0
  entry_word m l =
      let e : 0 + m ≡ m = omega arith in
      subst (λ (x : ℕ). get_or (sets fr 0 (record_of entry 0 0 0)) x 0 ≡ get_or (record_of entry 0 0 0) m 0) e (get_or-sets_in fr 0 (record_of entry 0 0 0) m room l)

  pub entry_function : function_word (sets fr 0 (record_of entry 0 0 0)) 0 ≡ entry
  entry_function = entry_word 0 (omega arith)

  pub entry_place : place_word (sets fr 0 (record_of entry 0 0 0)) 0 ≡ 0
  entry_place = entry_word 1 (omega arith)

  pub entry_first : first_word (sets fr 0 (record_of entry 0 0 0)) 0 ≡ 0
  entry_first = entry_word 3 (omega arith)
