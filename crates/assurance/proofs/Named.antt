-- What a call that writes an event identifier has written. Assumes nothing.
use Prim.Native.Nat.{ℕ}
use mathlib.Core.Bool.{Bool, true, false}
use mathlib.Core.Path.{◌≡◌, sym, ap, ◌∙◌, subst}
use mathlib.Core.List.{List, [], ◌∷◌, ◌++◌}
use native.Mathlib.Omega.{arith}
use lib.Dec.{ltb}
use lib.ListN.{length, take, drop}
use lib.Seq.{take-append_seam}
use Rattle.basis.specs.Choice.{pick}
use Rattle.text.specs.Identifier.{identifier, identified, identification}
use Rattle.text.proofs.Apart.{identifiers_apart}
use Rattle.text.proofs.Texts.{length-identifier}
use Rattle.capi.specs.Boundary.{number_of, words_of, Naming, naming, named}
use Rattle.assurance.specs.Callers.{KnitEventIdApart}

-- by whether the room was too short
front : (short : Bool) (lesson digest n : ℕ) (out words o : List ℕ) → n ≡ 0
    → naming n words o ≡ named (pick short (identified (9 ∷ 0 ∷ []) out) (identified (0 ∷ 25 ∷ []) (identifier lesson digest ++ drop 25 out)))
    → take 25 o ≡ identifier lesson digest
unfolding named number_of words_of
front true lesson digest n out words o none told = let nine : n ≡ 9 = ap (λ (x : Naming). x.number) told in absurd (omega arith)
front false lesson digest n out words o none told =
    ap (λ (x : Naming). take 25 x.out) told
    ∙ subst (λ (k : ℕ). take k (identifier lesson digest ++ drop 25 out) ≡ identifier lesson digest) (length-identifier lesson digest) (take-append_seam (identifier lesson digest) (drop 25 out))

written : (lesson digest n : ℕ) (out words o : List ℕ) → n ≡ 0 → naming n words o ≡ named (identification lesson digest out) → take 25 o ≡ identifier lesson digest
unfolding identification
written lesson digest n out words o none told = front (ltb (length out) 25) lesson digest n out words o none told

pub knit_event_id_apart : KnitEventIdApart
knit_event_id_apart κs a n e κt b m f told also none none' hl hd hl' hd' =
    let one : take 25 e.1.1.0.now ≡ identifier a.0 a.1.0 = written a.0 a.1.0 n a.1.1.0.now e.1.1.1.0.now e.1.1.0.now none told in
    let two : take 25 f.1.1.0.now ≡ identifier b.0 b.1.0 = written b.0 b.1.0 m b.1.1.0.now f.1.1.1.0.now f.1.1.0.now none' also in
    let apart = identifiers_apart a.0 a.1.0 b.0 b.1.0 hl hd hl' hd' in
    (λ same. apart.0 (sym one ∙ same ∙ two), λ both. one ∙ apart.1 both ∙ sym two)
