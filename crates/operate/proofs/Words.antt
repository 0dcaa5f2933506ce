-- The words of a kind lie side by side from the kind's first word on. Assumes nothing.
use Rattle.std.specs.Prelude.{Ok, Err}
use Prim.Native.Nat.{ℕ, ◌-◌, ◌*◌, ◌/◌, ◌%◌, ◌^◌, ◌≤◌, ◌<◌}
use mathlib.Core.Path.{◌≡◌, sym, ap, subst}
use mathlib.Core.Bool.{true, false, ◌&&◌}
use mathlib.Core.List.{List}
use native.Mathlib.Omega.{arith}
use native.Mathlib.Decide.{ℕ_discrete}
use lib.Dec.{ltb, eqb}
use lib.ListN.{length, get_or}
use borrow.Author.Tests.{lt-ltb, le-ltb, le-leb, lt-leb, eq-eqb, ne_eqb}
use Rattle.runtime.specs.declared.CoreTrap.TheVariants.{InvalidRegister, TypeMismatch}
use Rattle.basis.specs.Choice.{pick}
use Rattle.value.specs.declared.word.CoreValue.{CoreValue}
use Rattle.value.specs.Value.{payloads, kind_of, payload_of, word_of, Held}
use Rattle.value.proofs.Words.{payload_within, kind_of_word, payload_of_word}
use Rattle.operate.specs.Operate.{is_of, read_as}

below_is : (kind word : ℕ) → word < kind * 2 ^ 32 → is_of kind word ≡ false
below_is kind word h = rw (ne_eqb (word / 2 ^ 32) kind (λ e. omega arith))

module _ (kind word n : ℕ) (p : payloads kind ≡ n) (m : n ≤ 2 ^ 32) where
  inside_is : kind * 2 ^ 32 ≤ word → word - kind * 2 ^ 32 < n → is_of kind word ≡ true
  inside_is l h = rw (p, eq-eqb (word / 2 ^ 32) kind (omega arith), lt-ltb (word % 2 ^ 32) n (omega arith))

  above_is : kind * 2 ^ 32 ≤ word → n ≤ word - kind * 2 ^ 32 → is_of kind word ≡ false
  above_is l h = by (ℕ_discrete (word / 2 ^ 32) kind)
    where
      by : Dec (word / 2 ^ 32 ≡ kind) → is_of kind word ≡ false
      by (yes e) = rw (p, eq-eqb (word / 2 ^ 32) kind e, le-ltb (word % 2 ^ 32) n (omega arith))
      by (no f) = rw (ne_eqb (word / 2 ^ 32) kind f)

-- ---- a register read as a kind, by where its word lies
module _ (kind : ℕ) (win : List ℕ) (r : ℕ) where
  pub read_missing : length win ≤ r → Err InvalidRegister ≡ read_as kind win r
  unfolding read_as
  read_missing h = rw (le-leb (length win) r h)

  pub read_below : r < length win → get_or win r 0 < kind * 2 ^ 32 → Err TypeMismatch ≡ read_as kind win r
  unfolding read_as
  read_below i h = rw (lt-leb (length win) r i, below_is kind (get_or win r 0) h)

  pub read_inside : (n : ℕ) → n ≡ payloads kind → n ≤ 2 ^ 32 → r < length win → kind * 2 ^ 32 ≤ get_or win r 0
      → get_or win r 0 - kind * 2 ^ 32 < n → Ok (get_or win r 0 - kind * 2 ^ 32) ≡ read_as kind win r
  unfolding read_as
  read_inside n p m i l h =
      rw (lt-leb (length win) r i, inside_is kind (get_or win r 0) n (sym p) m l h)
      (ap Ok (let e : get_or win r 0 - kind * 2 ^ 32 ≡ get_or win r 0 % 2 ^ 32 = omega arith in e))

  pub read_above : (n : ℕ) → n ≡ payloads kind → n ≤ 2 ^ 32 → r < length win → kind * 2 ^ 32 ≤ get_or win r 0
      → n ≤ get_or win r 0 - kind * 2 ^ 32 → Err TypeMismatch ≡ read_as kind win r
  unfolding read_as
  read_above n p m i l h = rw (lt-leb (length win) r i, above_is kind (get_or win r 0) n (sym p) m l h)

-- ---- a register that holds a value is read as the value's own kind, and as no other: the Rust's `as_quad`, `as_bool` and so on
pub reads_value : (kind : ℕ) (win : List ℕ) (r : ℕ) (v : CoreValue) → Held v → r < length win → get_or win r 0 ≡ word_of v
    → read_as kind win r ≡ pick (eqb (kind_of v) kind) (Ok (payload_of v)) (Err TypeMismatch)
unfolding read_as
reads_value kind win r v h i e =
    rw (lt-leb (length win) r i, e, kind_of_word v h, payload_of_word v h) (by (ℕ_discrete (kind_of v) kind))
  where
    by : Dec (kind_of v ≡ kind)
        → pick (eqb (kind_of v) kind && ltb (payload_of v) (payloads kind)) (Ok (payload_of v)) (Err TypeMismatch)
        ≡ pick (eqb (kind_of v) kind) (Ok (payload_of v)) (Err TypeMismatch)
    by (yes q) =
        rw (eq-eqb (kind_of v) kind q, lt-ltb (payload_of v) (payloads kind) (subst (λ k. payload_of v < payloads k) q (payload_within v h)))
    by (no f) = rw (ne_eqb (kind_of v) kind f)
