-- Over a run of opcodes with equal limits the rule of their records is one: a test that is computed once over the table of forms, and
-- the law that turns it into the rule at each of the opcodes. Assumes nothing.
use Prim.Native.Nat.{ℕ, ◌+◌, ◌≤◌, ◌<◌}
use mathlib.Core.Bool.{Bool, true, false, ◌&&◌}
use mathlib.Core.Path.{◌≡◌, ◌∙◌}
use mathlib.Core.List.{List, [], ◌∷◌}
use lib.Dec.{T, eqb, ltb, eqb→eq, ltb→lt}
use native.Mathlib.Omega.{arith}
use native.Mathlib.Decide.{dec_le}
use borrow.Author.Tests.{lt-ltb, le-ltb}
use Rattle.basis.proofs.Ranges.{Passes, passes, both_true}
use Rattle.instr.specs.declared.Instr.{Instr}
use lib.ListN.{get_or-eq_default}
use Rattle.image.specs.Fields.{Use, use_discrete, Fields, bare, most, forms, fields_of}
use Rattle.image.specs.Image.{within, record_holds}

-- a decision as a test, and back
abbrev is_yes : {A : Type 0} → Dec A → Bool
is_yes (yes a) = true
is_yes (no n) = false

yes_is : {A : Type 0} (d : Dec A) → T (is_yes d) → A
yes_is (yes a) t = a
yes_is (no n) t = absurd t

abbrev fields : Use → Use → Use → Use → Use → Fields
fields small a b c w = record { small = small; a = a; b = b; c = c; w = w }

together : {s a b c w s' a' b' c' w' : Use} → s ≡ s' → a ≡ a' → b ≡ b' → c ≡ c' → w ≡ w' → fields s a b c w ≡ fields s' a' b' c' w'
together e0 e1 e2 e3 e4 = cc

-- ---- the numbers of an arm: runs of numbers one after the other, each by its first and how many there are
pub record Run : Type 0 where
  pub first : ℕ
  pub many : ℕ

abbrev pub span : ℕ → ℕ → Run
span lo n = record { first = lo; many = n }

-- past the end of one run a number lies in the next
abbrev Onward : ℕ → Run → List Run → Type 0
Onward op r [] = op < r.first + r.many
Onward op r (q ∷ rs) = (r.first + r.many ≤ op → q.first ≤ op) × Onward op q rs

abbrev pub Among : ℕ → Run → List Run → Type 0
Among op r rs = (r.first ≤ op) × Onward op r rs

-- a test computed at each of the numbers
abbrev pub AllPass : (ℕ → Bool) → Run → List Run → Bool
AllPass test r [] = Passes test r.first r.many
AllPass test r (q ∷ rs) = Passes test r.first r.many && AllPass test q rs

pub by_end : {A : Type 0} (a b : ℕ) → Dec (a ≤ b) → (b < a → A) → (a ≤ b → A) → A
by_end a b (yes h) f g = g h
by_end a b (no h) f g = f (omega arith)

-- one that passes at each passes at any one of them
among : (test : ℕ → Bool) (op : ℕ) (r : Run) (rs : List Run) → T (AllPass test r rs) → r.first ≤ op → Onward op r rs → T (test op)
among test op r [] t l o = passes test r.first r.many op t l o
among test op r (q ∷ rs) t l o =
    let h = both_true (Passes test r.first r.many) _ t in
    by_end (r.first + r.many) op (dec_le (r.first + r.many) op) (λ e. passes test r.first r.many op h.0 l e)
    (λ e. among test op q rs h.1 (o.0 e) o.1)

-- ---- how far fields may go
-- this is an opcode, and its fields may go as far as this
unfoldable pub reach : ℕ → ℕ → ℕ → ℕ → ℕ → ℕ → Bool
reach small a b c w op =
    let u = fields_of op in
    ltb op 56 && (eqb (most u.small) small && (eqb (most u.a) a && (eqb (most u.b) b && (eqb (most u.c) c && eqb (most u.w) w))))

module _ (i : Instr) where
  reached : (small a b c w : ℕ) → T (reach small a b c w i.op) → within i small a b c w ≡ record_holds i
  unfolding reach record_holds
  reached small a b c w t =
      let u = fields_of i.op in
      let t0 = both_true (ltb i.op 56) _ t in
      let t1 = both_true (eqb (most u.small) small) _ t0.1 in
      let t2 = both_true (eqb (most u.a) a) _ t1.1 in
      let t3 = both_true (eqb (most u.b) b) _ t2.1 in
      let t4 = both_true (eqb (most u.c) c) _ t3.1 in
      let e0 : most u.small ≡ small = eqb→eq _ _ t1.0 in
      let e1 : most u.a ≡ a = eqb→eq _ _ t2.0 in
      let e2 : most u.b ≡ b = eqb→eq _ _ t3.0 in
      let e3 : most u.c ≡ c = eqb→eq _ _ t4.0 in
      let e4 : most u.w ≡ w = eqb→eq _ _ t4.1 in
      rw (lt-ltb i.op 56 (ltb→lt _ _ t0.0), e0, e1, e2, e3, e4)

  -- the opcodes of an arm, of which one was held to these limits
  pub run : (r : Run) (rs : List Run) (small a b c w : ℕ) (v : Bool) → v ≡ within i small a b c w → T (AllPass (reach small a b c w) r rs) → Among i.op r rs → v ≡ record_holds i
  run r rs small a b c w v h t o = h ∙ reached small a b c w (among (reach small a b c w) i.op r rs t o.0 o.1)

  pub beyond : 56 ≤ i.op → false ≡ record_holds i
  unfolding record_holds
  beyond h = rw (le-ltb i.op 56 h)

-- ---- the same for the uses of the fields
abbrev same : Use → Use → Bool
same x y = is_yes (use_discrete x y)

-- the opcode takes this form
unfoldable pub takes : Fields → ℕ → Bool
takes u op =
    let v = fields_of op in
    same v.small u.small && (same v.a u.a && (same v.b u.b && (same v.c u.c && same v.w u.w)))

same_is : (x y : Use) → T (same x y) → x ≡ y
same_is x y t = yes_is (use_discrete x y) t

taken : (u : Fields) (op : ℕ) → T (takes u op) → fields_of op ≡ u
unfolding takes
taken u op t =
    let v = fields_of op in
    let t0 = both_true (same v.small u.small) _ t in
    let t1 = both_true (same v.a u.a) _ t0.1 in
    let t2 = both_true (same v.b u.b) _ t1.1 in
    let t3 = both_true (same v.c u.c) _ t2.1 in
    let e0 : (fields_of op).small ≡ u.small = same_is _ _ t0.0 in
    let e1 : (fields_of op).a ≡ u.a = same_is _ _ t1.0 in
    let e2 : (fields_of op).b ≡ u.b = same_is _ _ t2.0 in
    let e3 : (fields_of op).c ≡ u.c = same_is _ _ t3.0 in
    let e4 : (fields_of op).w ≡ u.w = same_is _ _ t3.1 in
    together e0 e1 e2 e3 e4

-- the opcodes of an arm take one form
pub form_run : (u : Fields) (r : Run) (rs : List Run) (op : ℕ) → T (AllPass (takes u) r rs) → Among op r rs → fields_of op ≡ u
form_run u r rs op t o = taken u op (among (takes u) op r rs t o.0 o.1)

-- what is no opcode takes none
pub no_form : (op : ℕ) → 56 ≤ op → fields_of op ≡ bare
unfolding fields_of forms
no_form op h = get_or-eq_default forms bare h
