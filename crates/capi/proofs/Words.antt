-- What crosses the boundary, by the answer's number and words. Assumes nothing.
use Prim.Native.Nat.{ℕ, ◌+◌, ◌≤◌, ◌<◌}
use mathlib.Core.Path.{◌≡◌, subst, refl, ap, ◌∙◌}
use mathlib.Core.List.{List, [], ◌∷◌}
use lib.ListN.{length, get_or, set}
use lib.Seq.{paste}
use native.Mathlib.Nat.{zero-add}
use Rattle.std.proofs.lemmas.List.Edits.{paste_more}
use native.Mathlib.Omega.{arith}
use Rattle.image.specs.declared.ImageFault.TheVariants.{Short, Form, Layout, FunctionTable, Instruction}
use Rattle.exec.specs.declared.Refusal.{Refusal}
use Rattle.exec.specs.declared.Refusal.TheVariants.{Image, FrameRoom, RegisterRoom}
use Rattle.exec.specs.Execute.{Executed, executed, refusal_numbers}
use Rattle.text.specs.Identifier.{Identified, identified}
use Rattle.capi.specs.Boundary.{words_of, answer_of, with_digest, crossing, crossed, naming, named}
use Rattle.capi.specs.declared.Answer.{Answer}

-- an answer's words before any value is put there
abbrev pub zeros : List ℕ
zeros = 0 ∷ 0 ∷ 0 ∷ 0 ∷ 0 ∷ []

-- one more value
pub value_more : (ns : List ℕ) (i : ℕ) → i < 5 → i < length ns → set (paste zeros 0 ns i) i (get_or ns i 0) ≡ paste zeros 0 ns (i + 1)
value_more ns i h l =
    subst (λ (j : ℕ). set (paste zeros 0 ns i) j (get_or ns i 0) ≡ paste zeros 0 ns (i + 1)) (zero-add i) (paste_more zeros 0 ns i 0 (omega arith) l)

-- up to five values, and zeros after them
pub values_in : (n k : ℕ) (ns : List ℕ) → length ns ≤ 5 → k ≡ length ns → paste zeros 0 ns k ≡ words_of (n ∷ ns)
unfolding words_of
values_in n k [] h e = rw e
values_in n k (a ∷ []) h e = rw e
values_in n k (a ∷ b ∷ []) h e = rw e
values_in n k (a ∷ b ∷ c ∷ []) h e = rw e
values_in n k (a ∷ b ∷ c ∷ d ∷ []) h e = rw e
values_in n k (a ∷ b ∷ c ∷ d ∷ f ∷ []) h e = rw e
values_in n k (a ∷ b ∷ c ∷ d ∷ f ∷ x ∷ xs) h e = absurd (omega arith)

-- a refusal has no digest
pub refusal_alone : (r : Refusal) → refusal_numbers r ≡ with_digest (refusal_numbers r)
unfolding with_digest
refusal_alone (Image Short) = refl
refusal_alone (Image Form) = refl
refusal_alone (Image Layout) = refl
refusal_alone (Image (FunctionTable k)) = refl
refusal_alone (Image (Instruction k)) = refl
refusal_alone (FrameRoom used) = refl
refusal_alone (RegisterRoom used) = refl

pub crosses : (r : Answer) (ns fr rg : List ℕ) (e : Executed) → r ≡ answer_of (with_digest ns) → executed ns fr rg ≡ e → crossing r.number r.words fr rg ≡ crossed e
unfolding crossed
crosses r ns fr rg e q h = ap (λ (a : Answer). crossing a.number a.words fr rg) q ∙ ap crossed h

pub names : (r : Answer) (ns out : List ℕ) (i : Identified) → r ≡ answer_of ns → identified ns out ≡ i → naming r.number r.words out ≡ named i
unfolding named
names r ns out i q h = ap (λ (a : Answer). naming a.number a.words out) q ∙ ap named h
