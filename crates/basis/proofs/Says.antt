-- When an answer finds nothing wrong: how a rule that gives answers in an order is tied to a statement without any order.
-- Assumes nothing.
use Prim.Native.Nat.{ℕ, ◌≤◌, ◌<◌}
use mathlib.Core.Bool.{Bool, true, false, ◌&&◌}
use mathlib.Core.Path.{◌≡◌, refl}
use mathlib.Core.List.{List, [], ◌∷◌}
use mathlib.Core.Logic.{◌↔◌}
use native.Mathlib.Omega.{arith}
use borrow.Author.Tests.{lt-ltb, ltb-true, le-leb, leb-true, eq-eqb, eqb-true}
use lib.Dec.{ltb, leb, eqb}
use Rattle.basis.specs.Answers.{demand, or_else, first_of}
use Rattle.basis.proofs.First.{or_split, first_each, first_all}

-- the answer finds nothing wrong exactly where P holds
abbrev pub Says : List ℕ → Type 0 → Type 0
Says answer P = (answer ≡ []) ↔ P

-- the test passes exactly where P holds
abbrev pub Tests : Bool → Type 0 → Type 0
Tests test P = (test ≡ true) ↔ P

pub says_always : Says [] (Unit {0})
says_always = (λ e. tt, λ t. refl)

pub says_demand : (test : Bool) (n : ℕ) (ns : List ℕ) {P : Type 0} → Tests test P → Says (demand test (n ∷ ns)) P
says_demand true n ns p = (λ e. p.0 refl, λ x. refl)
says_demand false n ns p =
    (λ e. let z : ◌≡◌ {A = ℕ} 0 1 = cc in absurd (omega arith), λ x. let z = p.1 x in cc)

pub says_both : (a b : List ℕ) {P Q : Type 0} → Says a P → Says b Q → Says (or_else a b) (P × Q)
says_both a b p q = (λ e. let h = or_split a b e in (p.0 h.0, q.0 h.1), λ x. rw (p.1 x.0) (q.1 x.1))

-- in a row: exactly where each place obeys
pub says_each : (f : ℕ → List ℕ) (P : ℕ → Type 0) (n : ℕ) → ((k : ℕ) → Says (f k) (P k)) → Says (first_of f n) ((k : ℕ) → k < n → P k)
says_each f P n h = (λ e k l. (h k).0 (first_each f n e k l), λ g. first_all f n (λ k l. (h k).1 (g k l)))

pub tests_both : (s t : Bool) {P Q : Type 0} → Tests s P → Tests t Q → Tests (s && t) (P × Q)
tests_both true t p q = (λ e. (p.0 refl, q.0 e), λ x. q.1 x.1)
tests_both false t p q =
    (λ e. let z : ◌≡◌ {A = ℕ} 0 1 = cc in absurd (omega arith), λ x. p.1 x.0)

pub tests_lt : (a b : ℕ) → Tests (ltb a b) (a < b)
tests_lt a b = (ltb-true a b, lt-ltb a b)

pub tests_le : (a b : ℕ) → Tests (leb a b) (a ≤ b)
tests_le a b = (leb-true a b, le-leb a b)

pub tests_eq : (a b : ℕ) → Tests (eqb a b) (a ≡ b)
tests_eq a b = (eqb-true a b, eq-eqb a b)
