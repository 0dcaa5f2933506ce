-- A burst, turn by turn: what the inner loop is proved with, for every fair price. Assumes nothing.
use Prim.Native.Nat.{ℕ, zero, suc, ◌+◌, ◌-◌, ◌≤◌, ◌<◌}
use mathlib.Core.Path.{◌≡◌, sym, ap, ◌∙◌}
use mathlib.Core.List.{List}
use lib.ListN.{length}
use native.Mathlib.Omega.{arith}
use borrow.Author.Tests.{le-leb, lt-leb, lt-ltb, le-ltb}
use Rattle.std.specs.Prelude.{Result, Ok, Err}
use Rattle.runtime.specs.declared.CoreTrap.{CoreTrap}
use Rattle.instr.specs.declared.Instr.{Instr}
use Rattle.image.specs.Program.{Program}
use Rattle.image.specs.Parts.{length_of, code_of}
use Rattle.straight.specs.declared.Went.{Went}
use Rattle.straight.specs.declared.Went.TheVariants as went
use Rattle.straight.specs.Straight.{straight, local}
use Rattle.exec.specs.declared.burst.Why.TheVariants.{Past, Dry, Fails, Leaves}
use Rattle.exec.specs.Price.{Price, Fair}
use Rattle.exec.specs.Burst.{halted, further, burst}

-- one round, by its tests
module _ (p : Program) (price : Price) (f place : ℕ) (w : List ℕ) where
  pub burst_past : (n left : ℕ) → length_of p f ≤ place → burst p price f n left place w ≡ halted Past place left w
  unfolding burst
  burst_past zero left h = rw (le-leb _ _ h)
  burst_past (suc n) left h = rw (le-leb _ _ h)

  pub burst_dry : (n left : ℕ) → place < length_of p f → left < price (code_of p f place).op → burst p price f n left place w ≡ halted Dry place 0 w
  unfolding burst
  burst_dry zero left h c = rw (lt-leb _ _ h)
  burst_dry (suc n) left h c = rw (lt-leb _ _ h, lt-ltb _ _ c)

  pub burst_step : (n left : ℕ) (a : Result Went CoreTrap) (v : List ℕ) → place < length_of p f → price (code_of p f place).op ≤ left → local a v ≡ straight (code_of p f place) w
      → burst p price f (suc n) left place w ≡ further a v place (left - price (code_of p f place).op) (λ q v. burst p price f n (left - price (code_of p f place).op) q v)
  unfolding burst
  burst_step n left a v h c e = rw (lt-leb _ _ h, le-ltb _ _ c, ← e)

-- what the loop keeps: what is left of the burst, for some bound on instructions that is enough, is the whole
pub record Bursting (p : Program) (price : Price) (f fuel from : ℕ) (w₀ w : List ℕ) (place left : ℕ) : Type 0 where
  pub bound : ℕ
  pub enough : left ≤ bound
  pub same : burst p price f fuel fuel from w₀ ≡ burst p price f bound left place w
  pub long : length w ≡ length w₀

-- an instruction that is read and paid: m units are left then
pub record Paid (p : Program) (price : Price) (f place left : ℕ) (i : Instr) (m : ℕ) : Type 0 where
  pub instr : i ≡ code_of p f place
  pub inside : place < length_of p f
  pub fits : price i.op ≤ left
  pub rest : m ≡ left - price i.op

module _ (p : Program) (price : Price) (fair : Fair price) (f fuel from : ℕ) (w₀ w : List ℕ) (place left : ℕ) (b : Bursting p price f fuel from w₀ w place left) where
  pub stop_past : length_of p f ≤ place → halted Past place left w ≡ burst p price f fuel fuel from w₀
  stop_past h = sym (b.same ∙ burst_past p price f place w b.bound left h)

  pub stop_dry : (i : Instr) (c : ℕ) → i ≡ code_of p f place → place < length_of p f → c ≡ price i.op → left < c → halted Dry place 0 w ≡ burst p price f fuel fuel from w₀
  stop_dry i c e h k n = sym (b.same ∙ burst_dry p price f place w b.bound left h (rw (k, e) at n))

  module _ (i : Instr) (m : ℕ) (h : Paid p price f place left i m) where
    more : b.bound ≡ suc (b.bound - 1)
    more = omega (arith, fair.some i.op, h.fits, b.enough)

    rest : m ≡ left - price (code_of p f place).op
    rest = h.rest ∙ ap (λ (j : Instr). left - price j.op) h.instr

    one : (a : Result Went CoreTrap) (v : List ℕ) → local a v ≡ straight i w
        → burst p price f fuel fuel from w₀ ≡ further a v place m (λ q v. burst p price f (b.bound - 1) m q v)
    one a v l =
        b.same ∙ ap (λ (k : ℕ). burst p price f k left place w) more
        ∙ burst_step p price f place w (b.bound - 1) left a v h.inside (rw h.instr at h.fits) (rw h.instr at l)
        ∙ ap (λ (k : ℕ). further a v place k (λ q v. burst p price f (b.bound - 1) k q v)) (sym rest)

    pub stop_fails : (t : CoreTrap) (v : List ℕ) → local (Err t) v ≡ straight i w → halted (Fails t) place m v ≡ burst p price f fuel fuel from w₀
    stop_fails t v l = sym (one (Err t) v l)

    pub stop_leave : (v : List ℕ) → local (Ok went.Leaves) v ≡ straight i w → halted Leaves place m v ≡ burst p price f fuel fuel from w₀
    stop_leave v l = sym (one (Ok went.Leaves) v l)

    turned : (q : ℕ) (v : List ℕ) → burst p price f fuel fuel from w₀ ≡ burst p price f (b.bound - 1) m q v → length v ≡ length w → Bursting p price f fuel from w₀ v q m
    turned q v e k = record {
      bound = b.bound - 1;
      enough = omega (arith, fair.some i.op, h.rest, h.fits, b.enough);
      same = e;
      long = k ∙ b.long;
    }

    pub turn_on : (v : List ℕ) → local (Ok went.On) v ≡ straight i w → length v ≡ length w → Bursting p price f fuel from w₀ v (place + 1) m
    turn_on v l k = turned (place + 1) v (one (Ok went.On) v l) k

    pub turn_to : (q : ℕ) (v : List ℕ) → local (Ok (went.To q)) v ≡ straight i w → length v ≡ length w → Bursting p price f fuel from w₀ v q m
    turn_to q v l k = turned q v (one (Ok (went.To q)) v l) k

    -- the fuel falls
    pub fuel_less : m < left
    fuel_less = omega (arith, fair.some i.op, h.rest, h.fits)
