-- What a comparison of numbers answers, as the tests that the rules make. Assumes nothing.
use Rattle.std.specs.Ordering.{is_lt, is_le, is_gt, is_ge, nat_cmp, int_cmp}
use Rattle.std.specs.Prelude.{cond}
use Rattle.std.specs.declared.cmp.Ordering.{Ordering}
use Rattle.std.specs.declared.cmp.Ordering.TheVariants.{Less, Equal, Greater}
use Rattle.std.proofs.lemmas.Bool.Decides.{nat_tests}
use Prim.Native.Nat.{ℕ}
use mathlib.Core.Bool.{Bool, true, false}
use mathlib.Core.Path.{◌≡◌, refl, ap}
use native.Mathlib.Omega.{arith}
use lib.Dec.{ltb, leb}
use lib.IntN.{ℤ, pos, negsuc}
use lib.Signed.{lt_z, le_z}
use Rattle.basis.specs.Choice.{pick}
use Rattle.basis.proofs.Ranges.{◌&◌}
use Rattle.value.specs.Fixed.{ordered}
use Rattle.operate.specs.Rule.{bool_result}

module _ (x y : ℕ) where
  nat_lt_is : is_lt (nat_cmp x y) ≡ ltb x y
  nat_lt_is = grind (arith, nat_tests)

  nat_le_is : is_le (nat_cmp x y) ≡ leb x y
  nat_le_is = grind (arith, nat_tests)

  nat_gt_is : is_gt (nat_cmp x y) ≡ ltb y x
  nat_gt_is = grind (arith, nat_tests)

  nat_ge_is : is_ge (nat_cmp x y) ≡ leb y x
  nat_ge_is = grind (arith, nat_tests)

int_lt_is : (x y : ℤ) → is_lt (int_cmp x y) ≡ lt_z x y
int_lt_is (pos x) (pos y) = grind (arith, nat_tests)
int_lt_is (pos x) (negsuc y) = refl
int_lt_is (negsuc x) (pos y) = refl
int_lt_is (negsuc x) (negsuc y) = grind (arith, nat_tests)

int_le_is : (x y : ℤ) → is_le (int_cmp x y) ≡ le_z x y
int_le_is (pos x) (pos y) = grind (arith, nat_tests)
int_le_is (pos x) (negsuc y) = refl
int_le_is (negsuc x) (pos y) = refl
int_le_is (negsuc x) (negsuc y) = grind (arith, nat_tests)

int_gt_is : (x y : ℤ) → is_gt (int_cmp x y) ≡ lt_z y x
int_gt_is (pos x) (pos y) = grind (arith, nat_tests)
int_gt_is (pos x) (negsuc y) = refl
int_gt_is (negsuc x) (pos y) = refl
int_gt_is (negsuc x) (negsuc y) = grind (arith, nat_tests)

int_ge_is : (x y : ℤ) → is_ge (int_cmp x y) ≡ le_z y x
int_ge_is (pos x) (pos y) = grind (arith, nat_tests)
int_ge_is (pos x) (negsuc y) = refl
int_ge_is (negsuc x) (pos y) = refl
int_ge_is (negsuc x) (negsuc y) = grind (arith, nat_tests)

-- the four tests, in the order of the opcodes
abbrev Tests : Ordering → Bool → Bool → Bool → Bool → Type 0
Tests o lt le gt ge =
    (bool_result (is_lt o) ≡ bool_result lt)
    × ((bool_result (is_le o) ≡ bool_result le) × ((bool_result (is_gt o) ≡ bool_result gt) × ((bool_result (is_ge o) ≡ bool_result ge) × Unit {0})))

pub unsigned_tests : (x y : ℕ) → Tests (nat_cmp x y) (ltb x y) (leb x y) (ltb y x) (leb y x)
unsigned_tests x y = ap bool_result (nat_lt_is x y) & ap bool_result (nat_le_is x y) & ap bool_result (nat_gt_is x y) & ap bool_result (nat_ge_is x y) & tt

pub signed_tests : (x y : ℤ) → Tests (int_cmp x y) (lt_z x y) (le_z x y) (lt_z y x) (le_z y x)
signed_tests x y = ap bool_result (int_lt_is x y) & ap bool_result (int_le_is x y) & ap bool_result (int_gt_is x y) & ap bool_result (int_ge_is x y) & tt

-- the order of Fx is that of its raw units
pub ordered_is : (x y : ℤ) → ordered x y ≡ int_cmp x y
ordered_is x y = by (lt_z x y) (lt_z y x)
  where
    by : (a b : Bool) → pick a Less (pick b Greater Equal) ≡ cond a Less (cond b Greater Equal)
    by true b = refl
    by false true = refl
    by false false = refl
