-- What an instruction is charged, by its opcode's number. Runs are defined for every price, and what is said of them is proved for
-- every fair one.
use Rattle.std.specs.Prelude.{ℕ, ◌≤◌}

abbrev pub Price : Type 0
Price = ℕ → ℕ

-- an instruction costs something, so fuel bounds how many there are
pub record Fair (price : Price) : Type 0 where
  pub some : (op : ℕ) → 1 ≤ price op

-- one unit for every instruction
unfoldable pub unit : Price
unit op = 1
