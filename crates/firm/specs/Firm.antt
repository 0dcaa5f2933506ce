-- How firm a contract is. `tells x e` is what a contract tells of the answer x and of the parameters at exit e, for given arguments,
-- as the toolchain reads it off the function's own text; for four functions as specs/Walked has it.
use Rattle.std.specs.Prelude.{◌≡◌, Result, Ok, Err}
use Rattle.value.specs.declared.result.CoreResult.{CoreResult}
use Rattle.value.specs.Value.{Held}
use Rattle.runtime.specs.declared.CoreTrap.{CoreTrap}
use Rattle.exec.specs.declared.Refusal.{Refusal}

-- just one answer meets it
abbrev pub One : {X E : Type 0} → (X → E → Type 0) → Type 0
One {X} {E} tells = (x y : X) (e f : E) → tells x e → tells y f → x ≡ y

-- and one content of all that is lent
abbrev pub OneAnd : {X E L : Type 0} → (E → L) → (X → E → Type 0) → Type 0
OneAnd {X} {E} {L} lent tells = (x y : X) (e f : E) → tells x e → tells y f → (x ≡ y) × (lent e ≡ lent f)

-- so among the answers that hold only what their types can: the contract speaks of a value by its kind and its payload of 32 bits,
-- and those do not tell a number from one that no i32 is
abbrev pub OneHeld : {X E L : Type 0} → (X → Type 0) → (E → L) → (X → E → Type 0) → Type 0
OneHeld {X} {E} {L} Fits lent tells = (x y : X) (e f : E) → Fits x → Fits y → tells x e → tells y f → (x ≡ y) × (lent e ≡ lent f)

-- so of an answer that keeps a fact beside what it refers to: just one is seen of those that meet it
abbrev pub OneSeen : {X E S : Type 0} → (X → S) → (X → E → Type 0) → Type 0
OneSeen {X} {E} {S} seen tells = (x y : X) (e f : E) → tells x e → tells y f → seen x ≡ seen y

-- the values of a result are those that the engine's types hold
abbrev pub HeldResult : CoreResult → Type 0
HeldResult r = Held r.return_value

abbrev pub HeldOutcome : Result CoreResult Refusal → Type 0
HeldOutcome (Ok r) = HeldResult r
HeldOutcome (Err refusal) = Unit {0}

abbrev pub HeldExecution : Result (Result CoreResult CoreTrap) Refusal → Type 0
HeldExecution (Ok (Ok r)) = HeldResult r
HeldExecution (Ok (Err t)) = Unit {0}
HeldExecution (Err refusal) = Unit {0}
