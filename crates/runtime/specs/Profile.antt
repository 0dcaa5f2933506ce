-- When an admission profile may be used at all.
use Rattle.std.specs.Prelude.{ℕ, suc, ◌≤◌, ◌<◌, Bool, List, [], ◌∷◌, ltb, eqb, Result, Ok, Err}
use Rattle.basis.specs.Choice.{pick}
use Rattle.basis.specs.Answers.{or_else, under}
use Rattle.runtime.specs.declared.CoreAdmissionProfile.{CoreAdmissionProfile}
use Rattle.runtime.specs.declared.ProfileField.{ProfileField}
use Rattle.runtime.specs.declared.ProfileField.TheVariants.{MaxRegisters, MaxFunctions, MaxCallDepth, MaxInstrsPerFunction, MaxFuel}
use Rattle.runtime.specs.declared.CoreProfileError.{CoreProfileError}
use Rattle.runtime.specs.declared.CoreProfileError.TheVariants.{ZeroLimit, UnboundedLimit}

-- a field's value and the most that it may be
pub record Limit : Type 0 where
  pub value : ℕ
  pub bound : ℕ

abbrev pub limit : ℕ → ℕ → Limit
limit v b = record { value = v; bound = b }

-- the five limits in the order of the fields, which are numbered from 1
abbrev pub limits : CoreAdmissionProfile → List Limit
limits p =
    limit p.max_registers 16384
    ∷ limit p.max_functions 4096
    ∷ limit p.max_call_depth 1024
    ∷ limit p.max_instrs_per_function 1000000
    ∷ limit p.max_fuel 1000000000
    ∷ []

abbrev pub is_zero : Limit → Bool
is_zero l = eqb l.value 0

abbrev pub is_unbounded : Limit → Bool
is_unbounded l = ltb l.bound l.value

-- the number of the first limit that the test finds, where n is the number of the first of all
abbrev pub first_number : (Limit → Bool) → ℕ → List Limit → List ℕ
first_number found n [] = []
first_number found n (l ∷ ls) = pick (found l) (n ∷ []) (first_number found (suc n) ls)

-- all five fields are tested for zero before any is held to its bound: 0 and the field, or 1 and the field
unfoldable pub profile_fault : CoreAdmissionProfile → List ℕ
profile_fault p =
    or_else (under 0 (first_number is_zero 1 (limits p))) (under 1 (first_number is_unbounded 1 (limits p)))

-- the numbers of the fields, in their order
abbrev pub field_number : ProfileField → ℕ
field_number MaxRegisters = 1
field_number MaxFunctions = 2
field_number MaxCallDepth = 3
field_number MaxInstrsPerFunction = 4
field_number MaxFuel = 5

abbrev pub error_numbers : CoreProfileError → List ℕ
error_numbers (ZeroLimit field) = 0 ∷ field_number field ∷ []
error_numbers (UnboundedLimit field) = 1 ∷ field_number field ∷ []

abbrev pub profile_numbers : Result Unit CoreProfileError → List ℕ
profile_numbers (Ok u) = []
profile_numbers (Err e) = error_numbers e

-- the profile that configurations start from
abbrev pub safe_profile : CoreAdmissionProfile
safe_profile =
    record { max_registers = 256; max_functions = 256; max_call_depth = 64; max_instrs_per_function = 8192; max_fuel = 1000000 }

-- the same rule without the order of the tests: each limit is at least 1 and at most its bound
abbrev pub InBounds : List Limit → Type 0
InBounds [] = Unit {0}
InBounds (l ∷ ls) = ((0 < l.value) × (l.value ≤ l.bound)) × InBounds ls

abbrev pub Usable : CoreAdmissionProfile → Type 0
Usable p = InBounds (limits p)
