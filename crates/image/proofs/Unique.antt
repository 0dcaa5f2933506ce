-- One answer only has each of the paper's numbers, so a promise made through them fixes the answer. Assumes nothing.
use Prim.Native.Nat.{ℕ}
use mathlib.Core.Path.{◌≡◌, refl, sym, ap, ◌∙◌}
use mathlib.Core.Bool.{Bool}
use mathlib.Core.List.{List, []}
use native.Mathlib.Omega.{arith}
use lib.ListN.{get_or}
use lib.Dec.{eqb}
use Rattle.basis.specs.Choice.{pick}
use Rattle.image.specs.Records.{RecordLayout, form1}
use Rattle.image.specs.Image.{fault_numbers, check_numbers, image_fault}
use Rattle.image.specs.declared.ImageFault.{ImageFault}
use Rattle.image.specs.declared.ImageFault.TheVariants.{Short, Form, Layout, FunctionTable, Instruction}
use Rattle.std.specs.Prelude.{Result, Ok, Err, IfOk, OnOk, IfErr}
use Rattle.std.specs.Borrow.{Bor}
use Rattle.image.specs.declared.program.Image.{Image}

-- the fault that has these numbers
unfoldable pub fault_of : List ℕ → ImageFault
fault_of ns =
    let is : ℕ → Bool = λ n. eqb (get_or ns 0 0) n in
    pick (is 1) Short
    (pick (is 2) Form (pick (is 3) Layout (pick (is 4) (FunctionTable (get_or ns 1 0)) (Instruction (get_or ns 1 0)))))

check_of : List ℕ → Result Unit ImageFault
check_of ns = pick (eqb (get_or ns 0 0) 0) (Ok tt) (Err (fault_of ns))

check_back : (a : Result Unit ImageFault) → check_of (check_numbers a) ≡ a
unfolding check_of fault_of
check_back (Ok u) = refl
check_back (Err Short) = refl
check_back (Err Form) = refl
check_back (Err Layout) = refl
check_back (Err (FunctionTable k)) = refl
check_back (Err (Instruction k)) = refl

pub check_unique : (a b : Result Unit ImageFault) → check_numbers a ≡ check_numbers b → a ≡ b
check_unique a b e = sym (check_back a) ∙ ap check_of e ∙ check_back b

-- just one answer meets the promise of `check_image`
pub one_check : (L : RecordLayout) (s : List ℕ) (a b : Result Unit ImageFault) → check_numbers a ≡ image_fault L s → check_numbers b ≡ image_fault L s → a ≡ b
one_check L s a b p q = check_unique a b (p ∙ sym q)

fault_back : (f : ImageFault) → fault_of (fault_numbers f) ≡ f
unfolding fault_of
fault_back Short = refl
fault_back Form = refl
fault_back Layout = refl
fault_back (FunctionTable k) = refl
fault_back (Instruction k) = refl

-- a fault has numbers
none_fault : (f : ImageFault) → fault_numbers f ≡ [] → ⊥
none_fault f e = let z : ◌≡◌ {A = ℕ} 0 1 = by f e in omega arith
  where
    by : (g : ImageFault) → fault_numbers g ≡ [] → ◌≡◌ {A = ℕ} 0 1
    by Short h = cc
    by Form h = cc
    by Layout h = cc
    by (FunctionTable k) h = cc
    by (Instruction k) h = cc

-- nor does more than one answer meet the promise of `Image::of`: the image refers to the very bytes that were given
abbrev Of : List ℕ → Bor (List ℕ) → Result Image ImageFault → Type 0
Of s b r = IfOk r (λ image. image.bytes ≡ b) × OnOk r (image_fault form1 s ≡ []) × IfErr r (λ fault. fault_numbers fault ≡ image_fault form1 s)

-- what an answer refers to, without the fact that stands beside the reference
abbrev pub referred : Result Image ImageFault → Result (Bor (List ℕ)) ImageFault
referred (Ok image) = Ok image.bytes
referred (Err fault) = Err fault

pub image_unique : (s : List ℕ) (b : Bor (List ℕ)) (x y : Result Image ImageFault) → Of s b x → Of s b y → referred x ≡ referred y
image_unique s b (Ok i) (Ok j) p q = ap Ok (p.0 ∙ sym q.0)
image_unique s b (Ok i) (Err f) p q = absurd (none_fault f (q.2 ∙ p.1))
image_unique s b (Err f) (Ok j) p q = absurd (none_fault f (p.2 ∙ q.1))
image_unique s b (Err f) (Err g) p q = ap Err (sym (fault_back f) ∙ ap fault_of (p.2 ∙ sym q.2) ∙ fault_back g)
