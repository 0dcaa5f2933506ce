-- Registers hold values: what the rules compute from values is a value again, so no other word ever stands in a register that
-- started as one.
use Rattle.std.specs.Prelude.{ℕ, ◌^◌, ◌<◌, ◌≡◌, List, length, get_or}
use Rattle.value.specs.Value.{HoldsValue}
use Rattle.instr.specs.declared.Instr.{Instr}

-- every register of a window holds a value
abbrev pub HoldValues : List ℕ → Type 0
HoldValues win = (r : ℕ) → r < length win → HoldsValue (get_or win r 0)

-- what an instruction loads is a payload of its kind: LoadQuad, 4, has small below 4, LoadBool, 5, below 2, and w has 32 bits
pub record LoadsValue (op : ℕ) (i : Instr) : Type 0 where
  pub quad : op ≡ 4 → i.small < 4
  pub bool : op ≡ 5 → i.small < 2
  pub wide : i.w < 2 ^ 32
