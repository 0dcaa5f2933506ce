-- An instruction leaves values in registers that hold values. Assumes nothing.
use Rattle.std.specs.Prelude.{Some, None, Result, Ok, Err}
use Prim.Native.Nat.{ℕ, ◌<◌}
use mathlib.Core.Path.{◌≡◌, refl}
use mathlib.Core.Bool.{Bool, true, false}
use mathlib.Core.List.{List}
use lib.Dec.{ltb, eqb}
use lib.ListN.{length, get_or, set, length-set}
use lib.Seq.{get_or-set_same, get_or-set_other}
use borrow.Author.Tests.{ltb-true, eqb-true, eqb-false}
use Rattle.basis.specs.Choice.{pick}
use Rattle.runtime.specs.declared.CoreTrap.{CoreTrap}
use Rattle.runtime.specs.declared.CoreTrap.TheVariants.{InvalidRegister, AssertFailed}
use Rattle.value.specs.Value.{bool_kind, HoldsValue}
use Rattle.instr.specs.declared.Instr.{Instr}
use Rattle.operate.specs.Rule.{Outcome}
use Rattle.operate.specs.Operate.{read_as, operated}
use Rattle.operate.specs.Values.{HoldValues, LoadsValue}
use Rattle.operate.proofs.Values.{computes_values}
use Rattle.straight.specs.Flow.{Flow, flow_of}
use Rattle.straight.specs.Flow.Flow.{computes, goes_on, ends, asserts, jumps, jumps_if, leaves}
use Rattle.straight.specs.declared.Deed.{Deed}
use Rattle.straight.specs.declared.Deed.TheVariants.{Put, Next, Jump, Leave}
use Rattle.straight.specs.declared.Went.TheVariants.{On}
use Rattle.straight.specs.Straight.{storing, tested, on_condition, asked, local, stored, done, straight}

-- what is to be stored is a value
abbrev PutsValue : Result Deed CoreTrap → Type 0
PutsValue (Ok (Put v)) = HoldsValue v
PutsValue (Ok Next) = Unit {0}
PutsValue (Ok (Jump place)) = Unit {0}
PutsValue (Ok Leave) = Unit {0}
PutsValue (Err t) = Unit {0}

storing_puts : (o : Outcome) → ((w : ℕ) → o ≡ Ok (Some w) → HoldsValue w) → PutsValue (storing o)
unfolding storing
storing_puts (Ok (Some v)) h = h v refl
storing_puts (Ok None) h = tt
storing_puts (Err t) h = tt

tested_puts : (r : Result ℕ CoreTrap) (next : ℕ → Result Deed CoreTrap) → ((b : ℕ) → PutsValue (next b)) → PutsValue (tested r next)
tested_puts (Ok b) next h = h b
tested_puts (Err t) next h = tt

either_puts : (b : Bool) (x y : Result Deed CoreTrap) → PutsValue x → PutsValue y → PutsValue (pick b x y)
either_puts true x y h k = h
either_puts false x y h k = k

module _ (op : ℕ) (i : Instr) (w : List ℕ) (loads : LoadsValue op i) (held : HoldValues w) where
  asked_puts : (f : Flow) → PutsValue (asked f op i w)
  unfolding asked on_condition
  asked_puts computes = storing_puts (operated op i w) (computes_values op i w loads held)
  asked_puts goes_on = tt
  asked_puts (ends t) = tt
  asked_puts asserts = tested_puts (read_as bool_kind w i.a) _ (λ b. either_puts (eqb b 0) (Err AssertFailed) (Ok Next) tt tt)
  asked_puts jumps = tt
  asked_puts (jumps_if truth) = tested_puts (read_as bool_kind w i.a) _ (λ b. either_puts (eqb b truth) (Ok (Jump i.w)) (Ok Next) tt tt)
  asked_puts leaves = tt

-- one register more that holds a value
pub set_holds : (w : List ℕ) (dst v : ℕ) → dst < length w → HoldValues w → HoldsValue v → HoldValues (set w dst v)
set_holds w dst v inside held h r l = go (eqb r dst) refl
  where
    go : (b : Bool) → eqb r dst ≡ b → HoldsValue (get_or (set w dst v) r 0)
    go true e = rw (eqb-true r dst e, get_or-set_same w dst v 0 inside) h
    go false e = rw (get_or-set_other w dst r v 0 (eqb-false r dst e)) (held r (rw (length-set w dst v) at l))

module _ (w : List ℕ) (held : HoldValues w) where
  done_holds : (d : Result Deed CoreTrap) (dst : ℕ) → PutsValue d → HoldValues (done d dst w).regs
  unfolding done stored
  done_holds (Ok (Put v)) dst h = go (ltb dst (length w)) refl
    where
      go : (b : Bool) → ltb dst (length w) ≡ b → HoldValues (pick b (local (Ok On) (set w dst v)) (local (Err InvalidRegister) w)).regs
      go true e = set_holds w dst v (ltb-true dst (length w) e) held h
      go false e = held
  done_holds (Ok Next) dst h = held
  done_holds (Ok (Jump place)) dst h = held
  done_holds (Err t) dst h = held
  done_holds (Ok Leave) dst h = held

  pub straight_holds : (i : Instr) → LoadsValue i.op i → HoldValues (straight i w).regs
  unfolding straight
  straight_holds i loads = done_holds (asked (flow_of i.op) i.op i w) i.a (asked_puts i.op i w loads held (flow_of i.op))
