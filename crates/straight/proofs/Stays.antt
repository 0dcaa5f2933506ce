-- What an instruction leaves of its frame's registers: as many, and the same ones where it traps or leaves the frame. Assumes nothing.
use Rattle.std.specs.Prelude.{Result, Ok, Err}
use Prim.Native.Nat.{ℕ}
use mathlib.Core.Path.{◌≡◌, refl}
use mathlib.Core.Bool.{Bool, true, false}
use mathlib.Core.List.{List}
use lib.ListN.{length, set, length-set}
use lib.Dec.{ltb}
use Rattle.basis.specs.Choice.{pick}
use Rattle.runtime.specs.declared.CoreTrap.{CoreTrap}
use Rattle.runtime.specs.declared.CoreTrap.TheVariants.{InvalidRegister}
use Rattle.instr.specs.declared.Instr.{Instr}
use Rattle.straight.specs.declared.Deed.{Deed}
use Rattle.straight.specs.declared.Deed.TheVariants.{Put, Next, Jump, Leave}
use Rattle.straight.specs.declared.Went.{Went}
use Rattle.straight.specs.declared.Went.TheVariants.{On, To, Leaves}
use Rattle.straight.specs.Straight.{asks, Local, local, stored, done, straight}

abbrev pub Stays : List ℕ → Result Went CoreTrap → List ℕ → Type 0
Stays w (Ok On) v = length v ≡ length w
Stays w (Ok (To place)) v = v ≡ w
Stays w (Ok Leaves) v = v ≡ w
Stays w (Err t) v = v ≡ w

abbrev Fine : List ℕ → Local → Type 0
Fine w l = Stays w l.went l.regs

done_stays : (d : Result Deed CoreTrap) (dst : ℕ) (w : List ℕ) → Fine w (done d dst w)
unfolding done stored
done_stays (Ok (Put v)) dst w = go (ltb dst (length w))
  where
    go : (b : Bool) → Fine w (pick b (local (Ok On) (set w dst v)) (local (Err InvalidRegister) w))
    go true = length-set w dst v
    go false = refl
done_stays (Ok Next) dst w = refl
done_stays (Ok (Jump place)) dst w = refl
done_stays (Ok Leave) dst w = refl
done_stays (Err t) dst w = refl

pub straight_stays : (i : Instr) (w : List ℕ) → Stays w (straight i w).went (straight i w).regs
unfolding straight
straight_stays i w = done_stays (asks i.op i w) i.a w
