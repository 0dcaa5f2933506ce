-- A run is the burst of the running frame, and then the run of what is left; for every fair price. Assumes nothing.
use Prim.Native.Nat.{ℕ, zero, suc, ◌+◌, ◌*◌, ◌-◌, ◌≤◌, ◌<◌}
use mathlib.Core.Path.{◌≡◌, refl, sym, ap, ◌∙◌, subst}
use mathlib.Core.Bool.{Bool, true, false}
use mathlib.Core.List.{List}
use native.Mathlib.Omega.{arith}
use native.Mathlib.Nat.{sub_self}
use lib.ListN.{length}
use lib.Seq.{get_or-set_same, get_or-set_other, set-set, set-get_or}
use lib.Dec.{leb, ltb}
use borrow.Author.Tests.{leb-true, leb-false, ltb-true, ltb-false}
use Rattle.std.specs.Prelude.{Result, Ok, Err}
use Rattle.runtime.specs.declared.CoreTrap.{CoreTrap}
use Rattle.basis.specs.Choice.{pick}
use Rattle.runtime.specs.declared.CoreTrap.TheVariants.{InvalidPc, FuelExceeded}
use Rattle.instr.specs.declared.Instr.{Instr}
use Rattle.image.specs.Program.{Program}
use Rattle.image.specs.Parts.{length_of, code_of}
use Rattle.straight.specs.declared.Went.{Went}
use Rattle.straight.specs.declared.Went.TheVariants as went
use Rattle.straight.specs.Straight.{Local, straight}
use Rattle.straight.proofs.Stays.{Stays, straight_stays}
use Rattle.exec.specs.declared.Ending.{Ending}
use Rattle.exec.specs.declared.frame.Top.{Top}
use Rattle.exec.specs.declared.burst.Why.{Why}
use Rattle.exec.specs.declared.burst.Why.TheVariants.{Past, Dry, Fails, Leaves}
use Rattle.exec.specs.declared.Ending.TheVariants.{Trapped}
use Rattle.exec.specs.Price.{Price, Fair}
use Rattle.exec.specs.Lent.{part, State, state, top_of, top_at}
use Rattle.exec.specs.Step.{Stepped, goes, stops, moved, landed, left, acted, step, next_instr, Inside}
use Rattle.exec.specs.Run.{Final, final, later, cost_at, run_for, run}
use Rattle.exec.specs.Burst.{Halted, halted, further, burst, stretch, Ready}
use Rattle.exec.proofs.Parts.{length_part, part_put, put_put, put_part}
use Rattle.exec.proofs.Bursts.{burst_past, burst_dry, burst_step}
use Rattle.exec.proofs.Runs.{after_charge, for_past, for_dry, for_step, enough, onward_later, onward_same, later_later}

-- ---- what is known where a burst stops
-- at an instruction that leaves: it is there, and it was charged
abbrev pub Stop : Program → ℕ → Why → ℕ → ℕ → List ℕ → ℕ → Type 0
Stop p f Past place left w n = Unit
Stop p f Dry place left w n = Unit
Stop p f (Fails t) place left w n = Unit
Stop p f Leaves place left w n = (place < length_of p f) × ((straight (code_of p f place) w).went ≡ Ok went.Leaves) × (left < n)

-- of a burst that began with n units and the registers w
pub record Sound (p : Program) (f n : ℕ) (w : List ℕ) (h : Halted) : Type 0 where
  pub fuel : h.left ≤ n
  pub long : length h.regs ≡ length w
  pub stop : Stop p f h.why h.place h.left h.regs n

-- it is so with more units
stop_more : (p : Program) (f : ℕ) (y : Why) (place left : ℕ) (w : List ℕ) (m n : ℕ) → m ≤ n → Stop p f y place left w m → Stop p f y place left w n
stop_more p f Past place left w m n h s = tt
stop_more p f Dry place left w m n h s = tt
stop_more p f (Fails t) place left w m n h s = tt
stop_more p f Leaves place left w m n h s = (s.0, s.1, omega (arith, s.2))

-- after one instruction that left m of n units
module _ (p : Program) (f n m place : ℕ) (w : List ℕ) (inside : place < length_of p f) (less : m < n) where
  sound_more : (h : Halted) (v : List ℕ) → Sound p f m v h → length v ≡ length w → Sound p f n w h
  sound_more h v s e = record {
    fuel = omega (arith, s.fuel);
    long = s.long ∙ e;
    stop = stop_more p f h.why h.place h.left h.regs m n (omega arith) s.stop;
  }

  further_sound : (a : Result Went CoreTrap) (v : List ℕ) (k : ℕ → List ℕ → Halted) → (straight (code_of p f place) w).went ≡ a → Stays w a v
      → ((q : ℕ) (u : List ℕ) → Sound p f m u (k q u)) → Sound p f n w (further a v place m k)
  further_sound (Ok went.On) v k g e ih = sound_more (k (place + 1) v) v (ih (place + 1) v) e
  further_sound (Ok (went.To q)) v k g e ih = sound_more (k q v) v (ih q v) (ap length e)
  further_sound (Err t) v k g e ih = record { fuel = omega arith; long = ap length e; stop = tt }
  further_sound (Ok went.Leaves) v k g e ih =
      record { fuel = omega arith; long = ap length e; stop = (inside, rw e g, less) }

pub burst_sound : (p : Program) (price : Price) → Fair price → (f n left place : ℕ) (w : List ℕ) → Sound p f left w (burst p price f n left place w)
unfolding burst
burst_sound p price fair f zero left place w = go (leb (length_of p f) place)
  where
    go : (b : Bool) → Sound p f left w (pick b (halted Past place left w) (halted Dry place 0 w))
    go true = record { fuel = omega arith; long = refl; stop = tt }
    go false = record { fuel = omega arith; long = refl; stop = tt }
burst_sound p price fair f (suc n) left place w =
    go (leb (length_of p f) place) refl (ltb left (price (code_of p f place).op)) refl (λ k q u. burst_sound p price fair f n k q u)
  where
    go : (x : Bool) → leb (length_of p f) place ≡ x → (y : Bool) → ltb left (price (code_of p f place).op) ≡ y
        → ((k q : ℕ) (u : List ℕ) → Sound p f k u (burst p price f n k q u))
        → Sound p f left w (pick x (halted Past place left w) (pick y (halted Dry place 0 w)
        (further (straight (code_of p f place) w).went (straight (code_of p f place) w).regs place (left - price (code_of p f place).op)
        (λ q v. burst p price f n (left - price (code_of p f place).op) q v))))
    go true e y g ih = record { fuel = omega arith; long = refl; stop = tt }
    go false e true g ih = record { fuel = omega arith; long = refl; stop = tt }
    go false e false g ih =
        let l : Local = straight (code_of p f place) w in
        let c : ℕ = price (code_of p f place).op in
        let some : 1 ≤ c = fair.some (code_of p f place).op in
        let fits : c ≤ left = ltb-false _ _ g in
        further_sound p f left (left - c) place w (leb-false _ _ e) (omega arith) l.went l.regs _ refl (straight_stays (code_of p f place) w)
        (λ q u. ih (left - c) q u)

-- ---- the machine where a burst stands
-- what a stopped burst makes of a run with n units
abbrev pub resume : Program → Price → ℕ → ℕ → ℕ → Why → ℕ → List ℕ → List ℕ → Final
resume p price most n d Past left fr rg = final (Trapped InvalidPc) (n - left) fr rg
resume p price most n d Dry left fr rg = final (Trapped FuelExceeded) (n - left) fr rg
resume p price most n d (Fails t) left fr rg = final (Trapped t) (n - left) fr rg
resume p price most n d Leaves left fr rg = later (n - left) (after_charge p price most left (state fr rg d))

pub resume_later : (p : Program) (price : Price) (most c n m d : ℕ) (y : Why) (left : ℕ) (fr rg : List ℕ) → left ≤ n → c + n ≡ m
    → later c (resume p price most n d y left fr rg) ≡ resume p price most m d y left fr rg
resume_later p price most c n m d Past left fr rg h e = let k : c + (n - left) ≡ m - left = omega arith in rw k
resume_later p price most c n m d Dry left fr rg h e = let k : c + (n - left) ≡ m - left = omega arith in rw k
resume_later p price most c n m d (Fails t) left fr rg h e = let k : c + (n - left) ≡ m - left = omega arith in rw k
resume_later p price most c n m d Leaves left fr rg h e =
    let k : c + (n - left) ≡ m - left = omega arith in
    later_later c (n - left) _ ∙ ap (λ (k : ℕ). later k (after_charge p price most left (state fr rg d))) k

-- the running frame t at another place
abbrev pub placed : Top → ℕ → Top
placed t n = record { function = t.function; place = n; first = t.first; limit = t.limit }

-- the state in a burst of the running frame: at the place n, with the registers w
abbrev pub at : Program → List ℕ → List ℕ → ℕ → ℕ → List ℕ → State
at p fr rg d n w = moved (state fr rg d) (top_of p fr d) n w

abbrev resumed : Program → Price → ℕ → ℕ → List ℕ → List ℕ → ℕ → Halted → Final
resumed p price most n fr rg d h = resume p price most n d h.why h.left (at p fr rg d h.place h.regs).frames (at p fr rg d h.place h.regs).regs

-- what an instruction does there
abbrev pub lands : Program → List ℕ → List ℕ → ℕ → ℕ → List ℕ → Stepped → Result Went CoreTrap → List ℕ → Stepped
lands p fr rg d n w l (Ok went.On) v = goes (at p fr rg d (n + 1) v)
lands p fr rg d n w l (Ok (went.To q)) v = goes (at p fr rg d q v)
lands p fr rg d n w l (Err t) v = stops (at p fr rg d n w) (Err (Trapped t))
lands p fr rg d n w l (Ok went.Leaves) v = l

module _ (p : Program) (most : ℕ) (fr rg : List ℕ) (d : ℕ) (g : Ready p fr (length rg) d) where
  fits : (top_of p fr d).first + (top_of p fr d).limit ≤ length rg
  fits = g.top.registers

  pub top_at_lem : (n : ℕ) (w : List ℕ) → top_at p (at p fr rg d n w) ≡ placed (top_of p fr d) n
  top_at_lem n w =
      rw (
        get_or-set_other fr (4 * (d - 1) + 1) (4 * (d - 1)) n 0 (λ e. omega arith),
        get_or-set_same fr (4 * (d - 1) + 1) n 0 (omega (arith, g.some, g.room)),
        get_or-set_other fr (4 * (d - 1) + 1) (4 * (d - 1) + 3) n 0 (λ e. omega arith),
      )

  pub at_start : at p fr rg d (top_of p fr d).place (part rg (top_of p fr d).first (top_of p fr d).limit) ≡ state fr rg d
  at_start = rw (set-get_or fr (4 * (d - 1) + 1) 0, put_part rg (top_of p fr d).first (top_of p fr d).limit)

  pub inside_at : (n : ℕ) (w : List ℕ) → n < length_of p (top_of p fr d).function → Inside p (at p fr rg d n w)
  inside_at n w h = subst (λ (t : Top). t.place < length_of p t.function) (sym (top_at_lem n w)) h

  pub past_at : (n : ℕ) (w : List ℕ) → length_of p (top_of p fr d).function ≤ n → length_of p (top_at p (at p fr rg d n w)).function ≤ (top_at p (at p fr rg d n w)).place
  past_at n w h = subst (λ (t : Top). length_of p t.function ≤ t.place) (sym (top_at_lem n w)) h

  cost_at_lem : (price : Price) (n : ℕ) (w : List ℕ) → cost_at p price (at p fr rg d n w) ≡ price (code_of p (top_of p fr d).function n).op
  cost_at_lem price n w = ap (λ (t : Top). price (code_of p t.function t.place).op) (top_at_lem n w)

  landed_at : (n : ℕ) (w : List ℕ) (l : Stepped) (a : Result Went CoreTrap) (v : List ℕ) → length w ≡ (top_of p fr d).limit
      → landed (at p fr rg d n w) (placed (top_of p fr d) n) l a v ≡ lands p fr rg d n w l a v
  landed_at n w l (Ok went.On) v e = rw (set-set fr (4 * (d - 1) + 1) n (n + 1), put_put rg (top_of p fr d).first (top_of p fr d).limit fits w v e)
  landed_at n w l (Ok (went.To q)) v e = rw (set-set fr (4 * (d - 1) + 1) n q, put_put rg (top_of p fr d).first (top_of p fr d).limit fits w v e)
  landed_at n w l (Err t) v e = refl
  landed_at n w l (Ok went.Leaves) v e = refl

  -- what a step there does that leaves the frame
  abbrev pub leaves_at : ℕ → List ℕ → Stepped
  leaves_at n w = left p most (at p fr rg d n w) (placed (top_of p fr d) n) (code_of p (top_of p fr d).function n)

  pub step_at : (n : ℕ) (w : List ℕ) → length w ≡ (top_of p fr d).limit
      → step p most (at p fr rg d n w)
      ≡ lands p fr rg d n w (leaves_at n w) (straight (code_of p (top_of p fr d).function n) w).went (straight (code_of p (top_of p fr d).function n) w).regs
  unfolding step acted
  step_at n w e =
      let l : Local = straight (code_of p (top_of p fr d).function n) w in
      ap (λ (t : Top). acted p most (at p fr rg d n w) t (code_of p t.function t.place)) (top_at_lem n w)
      ∙ rw (part_put rg (top_of p fr d).first (top_of p fr d).limit fits w e) (landed_at n w (leaves_at n w) l.went l.regs e)

-- one turn of the burst
module _ (p : Program) (price : Price) (fair : Fair price) (most : ℕ) (fr rg : List ℕ) (d : ℕ) (g : Ready p fr (length rg) d) where
  -- a charge before an instruction that leaves
  leave_at : (n left : ℕ) (s : State) (c : ℕ) → Inside p s → cost_at p price s ≡ c → c ≤ left → left ≤ suc n
      → run_for p price most (suc n) left s ≡ later (left - (left - c)) (after_charge p price most (left - c) s)
  leave_at n left s c h k l b =
      let z : left - (left - c) ≡ c = omega arith in
      let some : 1 ≤ c = rw (← k) (fair.some (next_instr p s).op) in
      let x : Result ℕ Ending = (step p most s).answer in
      let fr' : List ℕ = (step p most s).frames in
      let rg' : List ℕ = (step p most s).regs in
      for_step p price most n left s x fr' rg' h (rw k l) refl
      ∙ rw (k, z) (onward_same c x fr' rg' _ _ (λ t. enough p price most fair n (left - c) (left - c) t (omega arith) (omega arith))
      ∙ onward_later c x fr' rg' (λ t. run p price most (left - c) t))

  -- the rest of a burst, c units later
  rest_at : (c n left q : ℕ) (v : List ℕ) → c ≤ left
      → later c (resumed p price most (left - c) fr rg d (burst p price (top_of p fr d).function n (left - c) q v))
      ≡ resumed p price most left fr rg d (burst p price (top_of p fr d).function n (left - c) q v)
  rest_at c n left q v l =
      let b : Halted = burst p price (top_of p fr d).function n (left - c) q v in
      resume_later p price most c (left - c) left d b.why b.left (at p fr rg d b.place b.regs).frames (at p fr rg d b.place b.regs).regs
      (burst_sound p price fair (top_of p fr d).function n (left - c) q v).fuel (omega arith)

  turn_at : (n left place : ℕ) (w : List ℕ) (c : ℕ) (x : Stepped) (a : Result Went CoreTrap) (v : List ℕ) → length w ≡ (top_of p fr d).limit → Inside p (at p fr rg d place w)
      → cost_at p price (at p fr rg d place w) ≡ c → c ≤ left → left ≤ suc n → lands p fr rg d place w x a v ≡ step p most (at p fr rg d place w) → Stays w a v
      → ((q : ℕ) (u : List ℕ) → length u ≡ (top_of p fr d).limit
      → run_for p price most n (left - c) (at p fr rg d q u) ≡ resumed p price most (left - c) fr rg d (burst p price (top_of p fr d).function n (left - c) q u))
      → run_for p price most (suc n) left (at p fr rg d place w)
      ≡ resumed p price most left fr rg d (further a v place (left - c) (λ q u. burst p price (top_of p fr d).function n (left - c) q u))
  turn_at n left place w c x (Ok went.On) v e h k l m s y ih =
      for_step p price most n left (at p fr rg d place w) (Ok d) _ _ h (rw k l) s
      ∙ rw k (ap (later c) (ih (place + 1) v (y ∙ e)) ∙ rest_at c n left (place + 1) v l)
  turn_at n left place w c x (Ok (went.To q)) v e h k l m s y ih =
      for_step p price most n left (at p fr rg d place w) (Ok d) _ _ h (rw k l) s
      ∙ rw k (ap (later c) (ih q v (ap length y ∙ e)) ∙ rest_at c n left q v l)
  turn_at n left place w c x (Err t) v e h k l m s y ih =
      let z : left - (left - c) ≡ c = omega arith in
      for_step p price most n left (at p fr rg d place w) (Err (Trapped t)) _ _ h (rw k l) s
      ∙ rw (k, y, z)
  turn_at n left place w c x (Ok went.Leaves) v e h k l m s y ih = rw y (leave_at n left (at p fr rg d place w) c h k l m)

  past_burst : (n left place : ℕ) (w : List ℕ) → length_of p (top_of p fr d).function ≤ place
      → run_for p price most n left (at p fr rg d place w) ≡ resumed p price most left fr rg d (burst p price (top_of p fr d).function n left place w)
  past_burst n left place w q =
      rw (for_past p price most n left (at p fr rg d place w) (past_at p most fr rg d g place w q), burst_past p price (top_of p fr d).function place w n left q, sub_self)

  dry_burst : (n left place : ℕ) (w : List ℕ) → place < length_of p (top_of p fr d).function → left < price (code_of p (top_of p fr d).function place).op
      → run_for p price most n left (at p fr rg d place w) ≡ resumed p price most left fr rg d (burst p price (top_of p fr d).function n left place w)
  dry_burst n left place w q dry =
      let z : left - 0 ≡ left = omega arith in
      rw (
        for_dry p price most n left (at p fr rg d place w) (inside_at p most fr rg d g place w q) (rw (cost_at_lem p most fr rg d g price place w) dry),
        burst_dry p price (top_of p fr d).function place w n left q dry,
        z,
      )

  pub run_burst : (n left place : ℕ) (w : List ℕ) → left ≤ n → length w ≡ (top_of p fr d).limit
      → run_for p price most n left (at p fr rg d place w) ≡ resumed p price most left fr rg d (burst p price (top_of p fr d).function n left place w)
  run_burst zero left place w b e = go (leb (length_of p (top_of p fr d).function) place) refl
    where
      go : (x : Bool) → leb (length_of p (top_of p fr d).function) place ≡ x
          → run_for p price most 0 left (at p fr rg d place w) ≡ resumed p price most left fr rg d (burst p price (top_of p fr d).function 0 left place w)
      go true q = past_burst 0 left place w (leb-true _ _ q)
      go false q = dry_burst 0 left place w (leb-false _ _ q) (omega (arith, fair.some (code_of p (top_of p fr d).function place).op))
  run_burst (suc n) left place w b e =
      go (leb (length_of p (top_of p fr d).function) place) refl (ltb left (price (code_of p (top_of p fr d).function place).op)) refl (λ k q u h l. run_burst n k q u h l)
    where
      go : (x : Bool) → leb (length_of p (top_of p fr d).function) place ≡ x → (y : Bool) → ltb left (price (code_of p (top_of p fr d).function place).op) ≡ y
          → ((k q : ℕ) (u : List ℕ) → k ≤ n → length u ≡ (top_of p fr d).limit
          → run_for p price most n k (at p fr rg d q u) ≡ resumed p price most k fr rg d (burst p price (top_of p fr d).function n k q u))
          → run_for p price most (suc n) left (at p fr rg d place w) ≡ resumed p price most left fr rg d (burst p price (top_of p fr d).function (suc n) left place w)
      go true q y z ih = past_burst (suc n) left place w (leb-true _ _ q)
      go false q true z ih = dry_burst (suc n) left place w (leb-false _ _ q) (ltb-true _ _ z)
      go false q false z ih =
          let i : Instr = code_of p (top_of p fr d).function place in
          let l : Local = straight i w in
          let c : ℕ = price i.op in
          let some : 1 ≤ c = fair.some i.op in
          rw (burst_step p price (top_of p fr d).function place w n left l.went l.regs (leb-false _ _ q) (ltb-false _ _ z) refl)
          (turn_at n left place w c (leaves_at p most fr rg d g place w) l.went l.regs e (inside_at p most fr rg d g place w (leb-false _ _ q)) (cost_at_lem p most fr rg d g price place w) (ltb-false _ _ z) b
          (sym (step_at p most fr rg d g place w e)) (straight_stays i w)
          (λ v x y. ih (left - c) v x (omega arith) y))

  -- a run is the running frame's burst, and then the run of what is left
  pub run_stretch : (n : ℕ) → run p price most n (state fr rg d)
      ≡ resume p price most n d (stretch p price n (state fr rg d)).why (stretch p price n (state fr rg d)).left (stretch p price n (state fr rg d)).frames (stretch p price n (state fr rg d)).regs
  unfolding stretch
  run_stretch n =
      ap (run p price most n) (sym (at_start p most fr rg d g))
      ∙ run_burst n n (top_of p fr d).place (part rg (top_of p fr d).first (top_of p fr d).limit) (omega arith) (length_part rg (top_of p fr d).first (top_of p fr d).limit (fits p most fr rg d g))
