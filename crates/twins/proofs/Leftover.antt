-- Lent words left over after the last whole record: an execution is the same without them, refused or not, and they stay as they are.
-- Assumes nothing.
use Prim.Native.Nat.{ℕ, zero, suc, ◌+◌, ◌*◌, ◌-◌, ◌≤◌, ◌<◌}
use mathlib.Core.Path.{◌≡◌, refl, sym, ap, ◌∙◌}
use mathlib.Core.Bool.{Bool, true, false}
use mathlib.Core.List.{List, [], ◌∷◌, ◌++◌}
use native.Mathlib.Omega.{arith}
use lib.Dec.{ltb, leb, eqb}
use lib.ListN.{length, get_or, set, length-set, length-append, get_or-append}
use lib.Seq.{sets, length-sets, set-append_left}
use borrow.Author.Tests.{ltb-true, ltb-false, lt-ltb, le-ltb}
use Rattle.basis.specs.Choice.{pick}
use Rattle.basis.specs.Answers.{is_fine}
use Rattle.instr.specs.declared.Instr.{Instr}
use Rattle.image.specs.Records.{RecordLayout}
use Rattle.image.specs.Image.{image_fault}
use Rattle.image.specs.Program.{Program, decode}
use Rattle.image.specs.Parts.{functions_of, regs_of, Call}
use Rattle.straight.specs.declared.Went.{Went}
use Rattle.straight.specs.declared.Went.TheVariants.{On, To, Leaves}
use Rattle.straight.specs.Straight.{straight}
use Rattle.lent.specs.declared.FrameRecord.{FrameRecord}
use Rattle.lent.specs.Records.{record_of, words_of, records_of, left_over}
use Rattle.lent.proofs.Words.{length-words, left_few, words_left, words_whole, records_left}
use Rattle.exec.specs.declared.frame.Top.{Top}
use Rattle.exec.specs.declared.Ending.{Ending}
use Rattle.exec.specs.Price.{Price}
use Rattle.exec.specs.Lent.{part, State, state, dst_word, top_of, top_at}
use Rattle.exec.specs.Step.{Stepped, stepped, stops, goes, moved, landed, too_deep, window_fits, pushed_frames, called, handed, returned, left, acted, next_instr, step, is_past}
use Rattle.exec.specs.Run.{Final, final, later, onward, cost_at, run_for, run}
use Rattle.exec.specs.Execute.{made, started, entered, Executed, executed, ended, execution}
use Rattle.std.specs.Prelude.{Result, Ok, Err}
use Rattle.runtime.specs.declared.CoreTrap.{CoreTrap}

-- the same with t after its frames: an end, and an execution
abbrev pub beside : List ℕ → Final → Final
beside t f = final f.what f.used (f.frames ++ t) f.regs

abbrev pub next_to : List ℕ → Executed → Executed
next_to t o = executed o.answer (o.frames ++ t) o.regs

-- stores that end before t
sets_left : (vs fr t : List ℕ) (i : ℕ) → i + length vs ≤ length fr → sets (fr ++ t) i vs ≡ sets fr i vs ++ t
sets_left [] fr t i h = refl
sets_left (v ∷ vs) fr t i h = ap (λ (l : List ℕ). sets l (suc i) vs) (set-append_left fr t i v (omega arith)) ∙ sets_left vs (set fr i v) t (suc i) (rw length-set (omega arith))

-- by a test that comes out the same
by : {A : Type 0} {x y v w : A} (Q : A → A → Type 0) (b : Bool) → (b ≡ true → Q x v) → (b ≡ false → Q y w) → Q (pick b x y) (pick b v w)
by Q true f g = f refl
by Q false f g = g refl

-- ---- m records, and t after them
module _ (t : List ℕ) (few : length t < 4) (m : ℕ) where
  -- the first d of the records are frames
  record Whole (fr : List ℕ) (d : ℕ) : Type 0 where
    some : 1 ≤ d
    room : d ≤ m
    size : length fr ≡ 4 * m

  abbrev After : Result ℕ Ending → List ℕ → Type 0
  After (Ok d) fr = Whole fr d
  After (Err e) fr = length fr ≡ 4 * m

  -- two steps, two runs and two executions, the second with t
  record Along (o u : Stepped) : Type 0 where
    whole : After o.answer o.frames
    same : u ≡ stepped o.answer (o.frames ++ t) o.regs

  record Beside (f g : Final) : Type 0 where
    size : length f.frames ≡ 4 * m
    same : g ≡ beside t f

  record NextTo (o u : Executed) : Type 0 where
    size : length o.frames ≡ 4 * m
    same : u ≡ next_to t o

  -- t makes no room for one record more
  room_same : (fr : List ℕ) (k : ℕ) → length fr ≡ 4 * m → ltb (length (fr ++ t)) (4 * k) ≡ ltb (length fr) (4 * k)
  room_same fr k e = rw (length-append, e) (go (ltb (4 * m) (4 * k)) refl)
    where
      go : (b : Bool) → ltb (4 * m) (4 * k) ≡ b → ltb (4 * m + length t) (4 * k) ≡ b
      go true q = lt-ltb (4 * m + length t) (4 * k) (omega (arith, few, ltb-true (4 * m) (4 * k) q))
      go false q = le-ltb (4 * m + length t) (4 * k) (omega (arith, ltb-false (4 * m) (4 * k) q))

  -- ---- one step
  module _ (p : Program) (most : ℕ) (fr rg : List ℕ) (d : ℕ) (h : Whole fr d) where
    abbrev s : State
    s = state fr rg d

    abbrev r : State
    r = state (fr ++ t) rg d

    word : (j : ℕ) → j < 4 * d → get_or (fr ++ t) j 0 ≡ get_or fr j 0
    word j l = get_or-append fr t 0 j (omega (arith, h.size, h.room))

    function_same : get_or (fr ++ t) (4 * (d - 1)) 0 ≡ get_or fr (4 * (d - 1)) 0
    function_same = word (4 * (d - 1)) (omega (arith, h.some))

    place_same : get_or (fr ++ t) (4 * (d - 1) + 1) 0 ≡ get_or fr (4 * (d - 1) + 1) 0
    place_same = word (4 * (d - 1) + 1) (omega (arith, h.some))

    stopped : (e : Ending) → Along (stops s (Err e)) (stops r (Err e))
    stopped e = record { whole = h.size; same = refl }

    moved_on : (q : Top) (n : ℕ) (w : List ℕ) → Along (goes (moved s q n w)) (goes (moved r q n w))
    moved_on q n w = record {
      whole = record { some = h.some; room = h.room; size = rw length-set h.size };
      same = rw (set-append_left fr t (4 * (d - 1) + 1) n (omega (arith, h.some, h.room, h.size)));
    }

    landed_along : (q : Top) (x y : Stepped) (a : Result Went CoreTrap) (w : List ℕ) → Along x y → Along (landed s q x a w) (landed r q y a w)
    landed_along q x y (Ok On) w b = moved_on q (q.place + 1) w
    landed_along q x y (Ok (To n)) w b = moved_on q n w
    landed_along q x y (Err c) w b = stopped _
    landed_along q x y (Ok Leaves) w b = b

    handed_along : (v : ℕ) → 1 < d → Along (handed p s v) (handed p r v)
    unfolding handed
    handed_along v deep =
        rw (word (4 * (d - 1) + 2) (omega arith), word (4 * (d - 1 - 1)) (omega arith), word (4 * (d - 1 - 1) + 3) (omega arith))
        (by Along (ltb (dst_word fr (d - 1)) (top_of p fr (d - 1)).limit)
        (λ _. record { whole = record { some = omega arith; room = omega (arith, h.room); size = h.size }; same = refl })
        (λ _. stopped _))

    returned_along : (q : Top) (i : Instr) → Along (returned p s q i) (returned p r q i)
    unfolding returned
    returned_along q i =
        by Along (ltb i.a q.limit) (λ _. by Along (ltb 1 d) (λ e. handed_along _ (ltb-true 1 d e)) (λ _. stopped _)) (λ _. stopped _)

    pushed_same : (q : Top) (i : Instr) → 4 * (d + 1) ≤ length fr → pushed_frames (fr ++ t) d q i ≡ pushed_frames fr d q i ++ t
    unfolding pushed_frames
    pushed_same q i l =
        rw (set-append_left fr t (4 * (d - 1) + 1) (q.place + 1) (omega arith))
        (sets_left (record_of i.b 0 i.a (q.first + q.limit)) (set fr (4 * (d - 1) + 1) (q.place + 1)) t (4 * d) (rw length-set (omega arith)))

    pushed_size : (q : Top) (i : Instr) → length (pushed_frames fr d q i) ≡ 4 * m
    unfolding pushed_frames
    pushed_size q i = simp length-set h.size

    called_along : (q : Top) (i : Instr) → Along (called p most s q i) (called p most r q i)
    unfolding called
    called_along q i =
        rw (room_same fr (d + 1) h.size)
        (by Along (too_deep most d) (λ _. stopped _) (λ _.
        by Along (leb (functions_of p) i.b) (λ _. stopped _) (λ _.
        by Along (window_fits q.limit (regs_of p i.b) i) (λ _.
        by Along (ltb (length fr) (4 * (d + 1))) (λ _. stopped _) (λ e.
        by Along (ltb (length rg) (q.first + q.limit + regs_of p i.b)) (λ _. stopped _) (λ _.
        let l : 4 * (d + 1) ≤ length fr = ltb-false _ _ e in
        record { whole = record { some = omega arith; room = omega (arith, h.size); size = pushed_size q i }; same = rw (pushed_same q i l) })))
        (λ _. stopped _))))

    step_along : Along (step p most s) (step p most r)
    unfolding step acted left
    step_along =
        let q : Top = top_at p s in
        let i : Instr = next_instr p s in
        rw (function_same, place_same, word (4 * (d - 1) + 3) (omega (arith, h.some)))
        (landed_along q _ _ (straight i (part rg q.first q.limit)).went (straight i (part rg q.first q.limit)).regs
        (by Along (eqb i.op Call) (λ _. called_along q i) (λ _. returned_along q i)))

  module _ (p : Program) (price : Price) (most : ℕ) where
    -- ---- a run
    onward_beside : (c : ℕ) (x : Result ℕ Ending) (fr rg : List ℕ) (k l : State → Final) → After x fr
        → ((d : ℕ) → Whole fr d → Beside (k (state fr rg d)) (l (state (fr ++ t) rg d))) → Beside (onward c x fr rg k) (onward c x (fr ++ t) rg l)
    onward_beside c (Ok d) fr rg k l w h = record { size = (h d w).size; same = ap (later c) (h d w).same }
    onward_beside c (Err e) fr rg k l w h = record { size = w; same = refl }

    for_beside : (n units : ℕ) (fr rg : List ℕ) (d : ℕ) → Whole fr d → Beside (run_for p price most n units (state fr rg d)) (run_for p price most n units (state (fr ++ t) rg d))
    unfolding run_for
    for_beside zero units fr rg d h =
        rw (function_same p most fr rg d h, place_same p most fr rg d h)
        (by Beside (is_past p (state fr rg d)) (λ _. record { size = h.size; same = refl }) (λ _. record { size = h.size; same = refl }))
    for_beside (suc n) units fr rg d h =
        let c : ℕ = cost_at p price (state fr rg d) in
        let o : Stepped = step p most (state fr rg d) in
        let a : Along o (step p most (state (fr ++ t) rg d)) = step_along p most fr rg d h in
        rw (function_same p most fr rg d h, place_same p most fr rg d h, a.same)
        (by Beside (is_past p (state fr rg d)) (λ _. record { size = h.size; same = refl }) (λ _.
        by Beside (ltb units c) (λ _. record { size = h.size; same = refl }) (λ _.
        onward_beside c o.answer o.frames o.regs _ _ a.whole (λ e w. for_beside n (units - c) o.frames o.regs e w))))

    -- ---- from the entry frame on
    made_along : (fr rg : List ℕ) → length fr ≡ 4 * m → Along (made p fr rg) (made p (fr ++ t) rg)
    unfolding made
    made_along fr rg e =
        rw (room_same fr 1 e)
        (by Along (leb (functions_of p) p.entry) (λ _. record { whole = e; same = refl }) (λ _.
        by Along (ltb (length fr) 4) (λ _. record { whole = e; same = refl }) (λ q.
        by Along (ltb (length rg) (regs_of p p.entry)) (λ _. record { whole = e; same = refl }) (λ _.
        let l : 4 ≤ length fr = ltb-false (length fr) 4 q in
        record { whole = record { some = omega arith; room = omega arith; size = rw length-sets e }; same = rw (sets_left (record_of p.entry 0 0 0) fr t 0 l) }))))

    started_beside : (x : Result ℕ Ending) (fr rg : List ℕ) (k : State → Final) → After x fr
        → ((d : ℕ) → Whole fr d → Beside (k (state fr rg d)) (k (state (fr ++ t) rg d))) → Beside (started x fr rg k) (started x (fr ++ t) rg k)
    started_beside (Ok d) fr rg k w h = h d w
    started_beside (Err e) fr rg k w h = record { size = w; same = refl }

    entered_beside : (fuel : ℕ) (fr rg : List ℕ) → length fr ≡ 4 * m → Beside (entered p price most fuel fr rg) (entered p price most fuel (fr ++ t) rg)
    unfolding entered
    entered_beside fuel fr rg e =
        let o : Stepped = made p fr rg in
        let a : Along o (made p (fr ++ t) rg) = made_along fr rg e in
        rw a.same (started_beside o.answer o.frames o.regs (λ u. run p price most fuel u) a.whole (λ d w. for_beside fuel fuel o.frames o.regs d w))

  execution_next : (L : RecordLayout) (price : Price) (bytes : List ℕ) (most fuel : ℕ) (fr rg : List ℕ) → length fr ≡ 4 * m
      → NextTo (execution L price bytes most fuel fr rg) (execution L price bytes most fuel (fr ++ t) rg)
  unfolding execution
  execution_next L price bytes most fuel fr rg e =
      let h = entered_beside (decode L bytes) price most fuel fr rg e in
      by NextTo (is_fine (image_fault L bytes)) (λ _. record { size = h.size; same = ap ended h.same }) (λ _. record { size = e; same = refl })

-- ---- fewer words than a record has change nothing and are not changed
module _ (L : RecordLayout) (price : Price) (bytes : List ℕ) (most fuel : ℕ) where
  pub execution_left : (zs : List FrameRecord) (t rg : List ℕ) → length t < 4
      → execution L price bytes most fuel (words_of zs ++ t) rg ≡ next_to t (execution L price bytes most fuel (words_of zs) rg)
  execution_left zs t rg few = (execution_next t few (length zs) L price bytes most fuel (words_of zs) rg (length-words zs)).same

  -- any lent words: all of them, and those of their records alone
  module _ (fr rg : List ℕ) where
    abbrev o : Executed
    o = execution L price bytes most fuel fr rg

    abbrev q : Executed
    q = execution L price bytes most fuel (words_of (records_of fr)) rg

    pub any_left : o ≡ next_to (left_over fr) q
    any_left = ap (λ (l : List ℕ). execution L price bytes most fuel l rg) (sym (words_left fr)) ∙ execution_left (records_of fr) (left_over fr) rg (left_few fr)

    pub same_records : (o.answer ≡ q.answer) × (o.regs ≡ q.regs) × (records_of o.frames ≡ records_of q.frames)
    same_records =
        let n : ℕ = length (records_of fr) in
        let size : length q.frames ≡ 4 * n = (execution_next [] (omega arith) n L price bytes most fuel (words_of (records_of fr)) rg (length-words (records_of fr))).size in
        let whole : words_of (records_of q.frames) ≡ q.frames = words_whole n q.frames size in (
          ap (λ (e : Executed). e.answer) any_left,
          ap (λ (e : Executed). e.regs) any_left,
          ap (λ (e : Executed). records_of e.frames) any_left
              ∙ ap (λ (l : List ℕ). records_of (l ++ left_over fr)) (sym whole)
              ∙ records_left (records_of q.frames) (left_over fr) (left_few fr),
        )
