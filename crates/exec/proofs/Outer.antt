-- The outer loop: a turn is a stretch of the running frame, and Call or Ret where it stops. Assumes nothing.
use Prim.Native.Nat.{ℕ, ◌+◌, ◌*◌, ◌-◌, ◌≤◌, ◌<◌}
use mathlib.Core.Path.{◌≡◌, refl, sym, ap, ◌∙◌, subst}
use mathlib.Core.List.{List}
use native.Mathlib.Omega.{arith}
use native.Mathlib.Nat.{add-zero, zero-add}
use lib.ListN.{length, set}
use Rattle.std.specs.Prelude.{Result, Ok, Err}
use Rattle.image.specs.Program.{Program}
use Rattle.image.specs.Parts.{length_of, code_of}
use Rattle.straight.specs.declared.Went.TheVariants as went
use Rattle.straight.specs.Straight.{straight}
use Rattle.exec.specs.declared.frame.Top.{Top}
use Rattle.exec.specs.declared.burst.Why.{Why}
use Rattle.exec.specs.declared.burst.Why.TheVariants.{Past, Dry, Fails, Leaves}
use Rattle.exec.specs.declared.Ending.{Ending}
use Rattle.exec.specs.Price.{Price, Fair}
use Rattle.exec.specs.Lent.{part, put, state, top_of}
use Rattle.exec.specs.Step.{Stepped, stepped, step}
use Rattle.exec.specs.Run.{Final, final, later, onward, run}
use Rattle.exec.specs.Burst.{Halted, burst, Paused, paused, stretch, Turned, turned, acting, turn, Ready, Good, AtLeave}
use Rattle.exec.proofs.Parts.{length_part, part_put}
use Rattle.exec.proofs.Runs.{later_later, Running}
use Rattle.exec.proofs.Keeps.{good_ready, moved_good, moved_ready, step_keeps}
use Rattle.exec.proofs.Stretches.{Stop, burst_sound, resume, placed, top_at_lem, run_stretch}

-- ---- what a stretch leaves
module _ (p : Program) (price : Price) (fair : Fair price) (n : ℕ) (fr rg : List ℕ) (d : ℕ) (g : Ready p fr (length rg) d) where
  abbrev top : Top
  top = top_of p fr d

  abbrev halt : Halted
  halt = burst p price top.function n n top.place (part rg top.first top.limit)

  long : length halt.regs ≡ top.limit
  long = (burst_sound p price fair top.function n n top.place (part rg top.first top.limit)).long ∙ length_part rg top.first top.limit g.top.registers

  module _ (y : Why) (m : ℕ) (fr' rg' : List ℕ) (e : paused y m fr' rg' ≡ stretch p price n (state fr rg d)) where
    frames_are : fr' ≡ set fr (4 * (d - 1) + 1) halt.place
    unfolding stretch
    frames_are = ap (λ (x : Paused). x.frames) e

    regs_are : rg' ≡ put rg top.first top.limit halt.regs
    unfolding stretch
    regs_are = ap (λ (x : Paused). x.regs) e

    left_is : m ≡ halt.left
    unfolding stretch
    left_is = ap (λ (x : Paused). x.left) e

    why_is : y ≡ halt.why
    unfolding stretch
    why_is = ap (λ (x : Paused). x.why) e

    pub stretch_fuel : m ≤ n
    stretch_fuel = rw left_is (burst_sound p price fair top.function n n top.place (part rg top.first top.limit)).fuel

    pub stretch_top : top_of p fr' d ≡ placed top halt.place
    stretch_top = ap (λ (x : List ℕ). top_of p x d) frames_are ∙ top_at_lem p 0 fr rg d g halt.place halt.regs

    pub stretch_good : Good p fr (length rg) d → Good p fr' (length rg') d
    stretch_good h = rw (frames_are, regs_are) (moved_good p (state fr rg d) halt.place halt.regs h long)

    pub stretch_ready : Ready p fr' (length rg') d
    stretch_ready = rw (frames_are, regs_are) (moved_ready p (state fr rg d) halt.place halt.regs g long)

  -- where it stops at Call or Ret
  module _ (m : ℕ) (fr' rg' : List ℕ) (e : paused Leaves m fr' rg' ≡ stretch p price n (state fr rg d)) where
    stopped : Stop p top.function Leaves halt.place halt.left halt.regs n
    stopped =
        subst (λ (x : Why). Stop p top.function x halt.place halt.left halt.regs n) (sym (why_is Leaves m fr' rg' e))
        (burst_sound p price fair top.function n n top.place (part rg top.first top.limit)).stop

    pub stretch_less : m < n
    stretch_less = rw (left_is Leaves m fr' rg' e) stopped.2

    window : part rg' top.first top.limit ≡ halt.regs
    window = ap (λ (x : List ℕ). part x top.first top.limit) (regs_are Leaves m fr' rg' e) ∙ part_put rg top.first top.limit g.top.registers halt.regs long

    pub stretch_leaves : AtLeave p fr' rg' d
    stretch_leaves =
        let u : top_of p fr' d ≡ placed top halt.place = stretch_top Leaves m fr' rg' e in
        record {
          inside = subst (λ (t : Top). t.place < length_of p t.function) (sym u) stopped.0;
          leaves =
              subst (λ (t : Top). (straight (code_of p t.function t.place) (part rg' t.first t.limit)).went ≡ Ok went.Leaves) (sym u)
              (subst (λ (w : List ℕ). (straight (code_of p top.function halt.place) w).went ≡ Ok went.Leaves) (sym window) stopped.1);
        }

-- ---- a turn
-- the fuel that is left is what the stretch left
acting_left : (p : Program) (most d : ℕ) (y : Why) (m : ℕ) (fr rg : List ℕ) → (acting p most d y m fr rg).left ≡ m
acting_left p most d Past m fr rg = refl
acting_left p most d Dry m fr rg = refl
acting_left p most d (Fails t) m fr rg = refl
acting_left p most d Leaves m fr rg = refl

module _ (p : Program) (price : Price) (most n : ℕ) (fr rg : List ℕ) (d : ℕ) where
  pub turn_by : (y : Why) (m : ℕ) (fr' rg' : List ℕ) → paused y m fr' rg' ≡ stretch p price n (state fr rg d) → acting p most d y m fr' rg' ≡ turn p price most n (state fr rg d)
  unfolding turn
  turn_by y m fr' rg' e = ap (λ (x : Paused). acting p most d x.why x.left x.frames x.regs) e

  pub turn_leaves : (m : ℕ) (fr' rg' : List ℕ) → paused Leaves m fr' rg' ≡ stretch p price n (state fr rg d) → (x : Result ℕ Ending) (fr'' rg'' : List ℕ)
      → stepped x fr'' rg'' ≡ step p most (state fr' rg' d) → turned m x fr'' rg'' ≡ turn p price most n (state fr rg d)
  turn_leaves m fr' rg' e x fr'' rg'' q = ap (λ (o : Stepped). turned m o.answer o.frames o.regs) q ∙ turn_by Leaves m fr' rg' e

-- what is left to run after a turn, of a run with so much fuel
abbrev pub after_turn : Program → Price → ℕ → ℕ → Turned → Final
after_turn p price most fuel t = later (fuel - t.left) (onward 0 t.answer t.frames t.regs (λ s. run p price most t.left s))

resumed : (p : Program) (price : Price) (most fuel d : ℕ) (y : Why) (m : ℕ) (fr rg : List ℕ)
    → resume p price most fuel d y m fr rg ≡ after_turn p price most fuel (acting p most d y m fr rg)
resumed p price most fuel d Past m fr rg = rw add-zero
resumed p price most fuel d Dry m fr rg = rw add-zero
resumed p price most fuel d (Fails t) m fr rg = rw add-zero
resumed p price most fuel d Leaves m fr rg = refl

-- two answers told apart
abbrev Goes : Result ℕ Ending → Type 0
Goes (Ok n) = Unit
Goes (Err x) = ⊥

pub going : (d : ℕ) (e : Ending) → Ok d ≡ Err e → ⊥
going d e q = subst Goes q tt

-- ---- a turn where all frames stand
module _ (p : Program) (price : Price) (fair : Fair price) (most n : ℕ) (fr rg : List ℕ) (d : ℕ) (good : Good p fr (length rg) d) where
  ready : Ready p fr (length rg) d
  ready = good_ready p fr (length rg) d good

  -- where its stretch stopped
  abbrev stop : Paused
  stop = stretch p price n (state fr rg d)

  stop_fuel : stop.left ≤ n
  stop_fuel = stretch_fuel p price fair n fr rg d ready stop.why stop.left stop.frames stop.regs refl

  -- the run, seen from the turn's end
  pub run_turn : run p price most n (state fr rg d) ≡ after_turn p price most n (turn p price most n (state fr rg d))
  unfolding turn
  run_turn = run_stretch p price fair most fr rg d ready n ∙ resumed p price most n d stop.why stop.left stop.frames stop.regs

  module _ (m : ℕ) (x : Result ℕ Ending) (fr' rg' : List ℕ) (q : turned m x fr' rg' ≡ turn p price most n (state fr rg d)) where
    left_is_stop : m ≡ stop.left
    unfolding turn
    left_is_stop = ap (λ (t : Turned). t.left) q ∙ acting_left p most d stop.why stop.left stop.frames stop.regs

    pub turn_fuel : m ≤ n
    turn_fuel = omega (arith, left_is_stop, stop_fuel)

  -- it goes on after a Call or Ret: all frames stand, and it took fuel
  module _ (m d' : ℕ) (fr' rg' : List ℕ) (q : turned m (Ok d') fr' rg' ≡ turn p price most n (state fr rg d)) where
    gone : (y : Why) (k : ℕ) (fr₁ rg₁ : List ℕ) → paused y k fr₁ rg₁ ≡ stop → turned m (Ok d') fr' rg' ≡ acting p most d y k fr₁ rg₁ → Good p fr' (length rg') d' × (k < n)
    gone Past k fr₁ rg₁ e h = absurd (going _ _ (ap (λ (t : Turned). t.answer) h))
    gone Dry k fr₁ rg₁ e h = absurd (going _ _ (ap (λ (t : Turned). t.answer) h))
    gone (Fails t) k fr₁ rg₁ e h = absurd (going _ _ (ap (λ (t : Turned). t.answer) h))
    gone Leaves k fr₁ rg₁ e h = (
      step_keeps p most fr₁ rg₁ d fr' rg' d' (stretch_good p price fair n fr rg d ready Leaves k fr₁ rg₁ e good) (ap (λ (t : Turned). stepped t.answer t.frames t.regs) h),
      stretch_less p price fair n fr rg d ready k fr₁ rg₁ e,
    )

    at_stop : Good p fr' (length rg') d' × (stop.left < n)
    unfolding turn
    at_stop = gone stop.why stop.left stop.frames stop.regs refl q

    pub turn_good : Good p fr' (length rg') d'
    turn_good = at_stop.0

    pub turn_less : m < n
    turn_less = omega (arith, left_is_stop m (Ok d') fr' rg' q, at_stop.1)

-- of a run that has used fuel before
pub after_later : (p : Program) (price : Price) (most fuel n m : ℕ) (x : Result ℕ Ending) (fr rg : List ℕ) → m ≤ n → n ≤ fuel
    → later (fuel - n) (after_turn p price most n (turned m x fr rg)) ≡ after_turn p price most fuel (turned m x fr rg)
after_later p price most fuel n m x fr rg a b =
    let e : fuel - n + (n - m) ≡ fuel - m = omega arith in
    later_later (fuel - n) (n - m) _ ∙ ap (λ (k : ℕ). later k (onward 0 x fr rg (λ s. run p price most m s))) e

-- its end, or where it goes on
pub turn_over : (p : Program) (price : Price) (most fuel m : ℕ) (x : Ending) (fr rg : List ℕ) → after_turn p price most fuel (turned m (Err x) fr rg) ≡ final x (fuel - m) fr rg
turn_over p price most fuel m x fr rg = rw add-zero

pub turn_on : (p : Program) (price : Price) (most fuel m d : ℕ) (fr rg : List ℕ)
    → after_turn p price most fuel (turned m (Ok d) fr rg) ≡ later (fuel - m) (run p price most m (state fr rg d))
turn_on p price most fuel m d fr rg = rw zero-add

-- ---- one turn of the loop
module _ (p : Program) (price : Price) (fair : Fair price) (most fuel : ℕ) (fr₀ rg₀ fr rg : List ℕ) (d left : ℕ) (r : Running p price most fuel fr₀ rg₀ fr rg d left)
    (m : ℕ) (fr' rg' : List ℕ) where
  abbrev Came : Result ℕ Ending → Type 0
  Came x = turned m x fr' rg' ≡ turn p price most left (state fr rg d)

  whole : (x : Result ℕ Ending) → Came x → run p price most fuel (state fr₀ rg₀ 1) ≡ after_turn p price most fuel (turned m x fr' rg')
  whole x q =
      r.runs
      ∙ ap (later (fuel - left)) (run_turn p price fair most left fr rg d r.good ∙ ap (after_turn p price most left) (sym q))
      ∙ after_later p price most fuel left m x fr' rg' (turn_fuel p price fair most left fr rg d r.good m x fr' rg' q) r.fuel_left

  pub turn_within : (x : Result ℕ Ending) → Came x → m ≤ fuel
  turn_within x q = omega (arith, turn_fuel p price fair most left fr rg d r.good m x fr' rg' q, r.fuel_left)

  pub turn_ends : (x : Ending) → Came (Err x) → final x (fuel - m) fr' rg' ≡ run p price most fuel (state fr₀ rg₀ 1)
  turn_ends x q = sym (whole (Err x) q ∙ turn_over p price most fuel m x fr' rg')

  pub turn_again : (d' : ℕ) → Came (Ok d') → length fr' ≡ length fr → length rg' ≡ length rg → Running p price most fuel fr₀ rg₀ fr' rg' d' m
  turn_again d' q lf lr = record {
    good = turn_good p price fair most left fr rg d r.good m d' fr' rg' q;
    fuel_left = turn_within (Ok d') q;
    frames_length = lf ∙ r.frames_length;
    regs_length = lr ∙ r.regs_length;
    runs = whole (Ok d') q ∙ turn_on p price most fuel m d' fr' rg';
  }
