-- The line that is written for known bytes.
use Rattle.std.proofs.Common.{◌≡◌, ℕ, ◌<◌, ◌↔◌, Bool, nat_lt, IsTrue, arith, List, None, Some, Option, Ok, Err, is_ok, IfOk, MatchResult, rules, OnOk, Result, IfSome, length, take, subst}
use Rattle.std.proofs.lemmas.Bool.Decides.{nat_tests}
use Rattle.std.specs.Io.KnownBytes.{Appends}
use Rattle.text.specs.Line.{printed}
use Rattle.runner.specs.Reading.{IsHeld}
use Rattle.runner.specs.declared.Held.{Held}

test_of : (b : Bool) (m n : ℕ) → IsTrue b ↔ (m < n) → b ≡ nat_lt m n
test_of b m n h = grind (arith, nat_tests)

-- a line that was put for what is held of the bytes, in an image with room for so many
held_line : (known before after : Option (List ℕ)) (held : Held) (image line : List ℕ) (count room : ℕ) → length image ≡ room
    → IfSome known (λ xs. IsHeld xs image held) → take count line ≡ printed (take held.count image) held.more
    → Appends before after (take count line) → IfSome known (λ xs. Appends before after (printed (take room xs) (nat_lt room (length xs))))
held_line None before after held image line count room long is e put = tt
held_line (Some xs) before after held image line count room long is e put =
    let more : held.more ≡ nat_lt room (length xs) = rw (← long) (test_of held.more (length image) (length xs) is.more) in
    let bytes : take held.count image ≡ take room xs = rw (← long) is.bytes in
    subst (Appends before after) (rw (← bytes, ← more) e) put

-- the same of a line that a write put, as far as it did not fail
pub line_of_bytes : (known before after : Option (List ℕ)) (held : Held) (image line : List ℕ) (count room next : ℕ) (E F : Type 0)
    (put : Result (Unit {0}) E) (answered : Result (Unit {0}) F) → length image ≡ room → 0 < next
    → (0 < next → IfSome known (λ xs. IsHeld xs image held)) → take count line ≡ printed (take held.count image) held.more
    → OnOk put (Appends before after (take count line)) → is_ok answered ≡ is_ok put
    → OnOk answered (IfSome known (λ xs. Appends before after (printed (take room xs) (nat_lt room (length xs)))))
line_of_bytes known before after held image line count room next E F put (Err f) long some is e appends same = tt
line_of_bytes known before after held image line count room next E F (Err x) (Ok y) long some is e appends same = absurd (search rules)
line_of_bytes known before after held image line count room next E F (Ok x) (Ok y) long some is e appends same =
    held_line known before after held image line count room long (is some) e appends

-- what is said of a value stays true where only the error is turned to another
pub of_mapped : (T E F : Type 0) (P : T → Type 0) (Q : E → Type 0) (read : Result T E) (turned : Result T F) (x : T)
    → MatchResult read (λ y. turned ≡ Ok y) Q → is_ok turned ≡ is_ok read → turned ≡ Ok x → IfOk read P → P x
of_mapped T E F P Q (Ok y) turned x same variant is holds = grind arith
of_mapped T E F P Q (Err e) turned x same variant is holds = absurd (grind arith)
