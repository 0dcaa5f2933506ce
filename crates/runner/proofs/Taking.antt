-- Known bytes that are taken part by part.
use Rattle.std.proofs.Common.{◌≡◌, ℕ, ◌+◌, List, ◌++◌, None, Some, Option, take, drop, sym, ap, ◌∙◌, append_assoc}
use Rattle.std.proofs.Math.Seq.{take-add}
use Rattle.std.specs.Io.KnownBytes.{Consumes, Keeps}

-- one part after another
pub taken_then : (a b c : Option (List ℕ)) (bs cs : List ℕ) → Consumes a b bs → Consumes b c cs → Consumes a c (bs ++ cs)
taken_then None b c bs cs p q = tt
taken_then (Some x) None c bs cs p q = absurd p
taken_then (Some x) (Some y) None bs cs p q = absurd q
taken_then (Some x) (Some y) (Some z) bs cs p q = p ∙ ap (λ l. bs ++ l) q ∙ sym (append_assoc bs cs z)

-- what lies in a buffer, and n bytes behind it
pub taken_more : (a b c : Option (List ℕ)) (old new : List ℕ) (count n : ℕ) → Consumes a b (take count old) → take count new ≡ take count old
    → Consumes b c (take n (drop count new)) → Consumes a c (take (count + n) new)
taken_more a b c old new count n p same q =
    rw take-add (taken_then a b c (take count new) (take n (drop count new)) (rw same p) q)

-- what lies in a buffer, where the input stays as it is
pub taken_no_more : (a b c : Option (List ℕ)) (old new : List ℕ) (count : ℕ) → Consumes a b (take count old) → take count new ≡ take count old
    → Keeps b c → Consumes a c (take count new)
taken_no_more None b c old new count p same q = tt
taken_no_more (Some x) None c old new count p same q = absurd p
taken_no_more (Some x) (Some y) None old new count p same q = absurd q
taken_no_more (Some x) (Some y) (Some z) old new count p same q = rw (same, q) p
