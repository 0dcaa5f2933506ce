-- What a lawful instruction loads is a value: the image check lets no other load through. Assumes nothing.
use Prim.Native.Nat.{◌^◌, ◌≤◌, ◌<◌}
use mathlib.Core.Path.{◌≡◌}
use native.Mathlib.Omega.{arith}
use Rattle.instr.specs.declared.Instr.{Instr}
use Rattle.image.specs.Fields.{Use, most, forms, fields_of}
use Rattle.image.specs.Fields.Use.{unused, register, quad, bool, signed, unsigned, target, callee, arg_base, arg_count}
use Rattle.image.specs.WellFormed.{Lawful}
use Rattle.operate.specs.Values.{LoadsValue}

-- no use lets a field have more than 32 bits
most_fits : (u : Use) → most u < 2 ^ 32
most_fits unused = omega arith
most_fits register = omega arith
most_fits quad = omega arith
most_fits bool = omega arith
most_fits signed = omega arith
most_fits unsigned = omega arith
most_fits target = omega arith
most_fits callee = omega arith
most_fits arg_base = omega arith
most_fits arg_count = omega arith

module _ (i : Instr) (law : Lawful i) where
  small_quad : i.op ≡ 4 → i.small ≤ 3
  unfolding forms fields_of
  small_quad e = rw e at law.small

  small_bool : i.op ≡ 5 → i.small ≤ 1
  unfolding forms fields_of
  small_bool e = rw e at law.small

  pub lawful_loads : LoadsValue i.op i
  lawful_loads =
      record {
        quad = λ e. omega (arith, small_quad e);
        bool = λ e. omega (arith, small_bool e);
        wide = omega (arith, law.w, most_fits (fields_of i.op).w);
      }
