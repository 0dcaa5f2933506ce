-- Texts put together piece by piece. Assumes nothing.
use Prim.Native.Nat.{ℕ, ◌+◌, ◌-◌, ◌<◌, ◌≤◌}
use mathlib.Core.Bool.{Bool, true, false}
use mathlib.Core.Path.{◌≡◌, refl, sym, ap, ◌∙◌}
use mathlib.Core.List.{List, [], ◌∷◌, ◌++◌, append_assoc}
use borrow.Author.Tests.{lt-ltb, le-ltb, ne_eqb}
use borrow.Rule.Slice.PartMut.{put_mid, mid_of}
use native.Mathlib.Omega.{arith}
use lib.ListN.{length, get_or, set, take, drop, length-append, length-drop}
use lib.Seq.{take-append_seam, drop-cons, length-take-le}
use Rattle.std.proofs.lemmas.List.{set_at, take_at, drop_at, drop-drop, drop_all}
use Rattle.std.proofs.lemmas.Slice.{take-put_mid}
use native.Mathlib.Numerals.{add-one}
use Rattle.image.specs.Records.{form1}
use Rattle.image.specs.declared.ImageFault.TheVariants.{Short, Form, Layout, FunctionTable, Instruction}
use Rattle.exec.specs.Price.{unit}
use Rattle.exec.specs.declared.Refusal.{Refusal}
use Rattle.exec.specs.declared.Refusal.TheVariants.{Image, FrameRoom, RegisterRoom}
use Rattle.exec.specs.declared.config.CoreConfig.{CoreConfig}
use Rattle.exec.specs.Config.{default_config}
use Rattle.exec.specs.Execute.{executed, execution, refusal_numbers}
use Rattle.text.specs.Ascii.{ascii}
use Rattle.text.specs.Digits.{digits, width_of, decimal}
use Rattle.text.specs.Identifier.{identifier, identified, identification}
use Rattle.text.specs.Line.{fields, line_of, ran, Replied, replied, reply_to}
use Rattle.text.proofs.Stores.{length_digits}

pub length-identifier : (lesson digest : ℕ) → length (identifier lesson digest) ≡ 25
unfolding identifier
length-identifier lesson digest =
    length-append (digits 16 8 lesson) (ascii "-" ++ digits 16 16 digest) ∙ rw (length_digits 16 8 lesson, length_digits 16 16 digest)

pub id_none : (l : List ℕ) (lesson digest : ℕ) → length l < 25 → identified (9 ∷ 0 ∷ []) l ≡ identification lesson digest l
unfolding identification
id_none l lesson digest h = rw (lt-ltb (length l) 25 h)

-- both numbers and the sign between them, put into what was lent one after the other
pub id_put : (l m o : List ℕ) (lesson digest : ℕ) → 25 ≤ length l
    → m ≡ digits 16 (length (take 8 l)) lesson → o ≡ digits 16 (length (take 16 (drop 9 (set (m ++ drop 8 l) 8 45)))) digest
    → identified (0 ∷ 25 ∷ []) (put_mid 9 16 (set (m ++ drop 8 l) 8 45) o) ≡ identification lesson digest l
unfolding identifier identification
id_put l m o lesson digest fits first last =
    let short : length (take 8 l) ≡ 8 = length-take-le 8 l (omega arith) in
    let eight : m ≡ digits 16 8 lesson = rw short at first in
    let long : length (digits 16 8 lesson) ≡ 8 = length_digits 16 8 lesson in
    let next : drop 8 l ≡ get_or l 8 0 ∷ drop 9 l = drop-cons l 8 0 (omega arith) in
    let sign : set (m ++ drop 8 l) 8 45 ≡ (digits 16 8 lesson ++ (45 ∷ [])) ++ drop 9 l =
    rw (eight, next, set_at (digits 16 8 lesson) (get_or l 8 0) (drop 9 l) 45 8 long, append_assoc) in
    let nine : length (digits 16 8 lesson ++ (45 ∷ [])) ≡ 9 = rw (length-append, long) in
    let room : length (take 16 (drop 9 l)) ≡ 16 = length-take-le 16 (drop 9 l) (simp length-drop (omega arith)) in
    let rest : drop 9 (set (m ++ drop 8 l) 8 45) ≡ drop 9 l = rw sign (drop_at (digits 16 8 lesson ++ (45 ∷ [])) (drop 9 l) 9 nine) in
    let sixteen : o ≡ digits 16 16 digest = rw (rest, room) at last in
    rw (le-ltb (length l) 25 fits, rest, sixteen, sign, take_at (digits 16 8 lesson ++ (45 ∷ [])) (drop 9 l) 9 nine, drop-drop 16 9 l, append_assoc, append_assoc)

-- a number's digits right after what is written
pub decimal_put : (bytes part : List ℕ) (at w n : ℕ) → at + w ≤ length bytes → w ≡ width_of n
    → part ≡ digits 10 (length (mid_of at (at + w - at) bytes)) n
    → take (at + w) (put_mid at (at + w - at) bytes part) ≡ take at bytes ++ decimal n
unfolding decimal
decimal_put bytes part at w n fits is e =
    let same : at + w - at ≡ w = omega arith in
    let room : length (take w (drop at bytes)) ≡ w = length-take-le w (drop at bytes) (simp length-drop (omega arith)) in
    let put : part ≡ digits 10 w n = rw (same, room) at e in
    rw (same, put, ← is) (take-put_mid at w bytes (digits 10 w n) (at + w) (rw length_digits) (omega arith))

-- a space and a number after what is written of a line, and the line's end
module _ (line numbers : List ℕ) (i : ℕ) where
  pub field_put : (spaced put : List ℕ) → i < length numbers → spaced ≡ line ++ (32 ∷ []) → put ≡ spaced ++ decimal (get_or numbers i 0)
      → put ++ fields (drop (i + 1) numbers) ≡ line ++ fields (drop i numbers)
  unfolding fields
  field_put spaced put l a b = rw (drop-cons numbers i 0 l, b, a, add-one) (simp append_assoc)

  pub end_put : length numbers ≤ i → line ++ (10 ∷ []) ≡ line ++ fields (drop i numbers)
  unfolding fields
  end_put l = rw (drop_all i numbers l)

pub refused_line : (number answer : ℕ) → 1 ≤ number → ascii "refused" ++ fields (number ∷ answer ∷ []) ≡ line_of (number ∷ answer ∷ [])
unfolding line_of
refused_line number answer some = rw (ne_eqb number 0 (λ e. omega arith))

-- no refusal has the number of a result
pub some_number : (r : Refusal) (number answer : ℕ) → refusal_numbers r ≡ number ∷ answer ∷ [] → 1 ≤ number
some_number (Image Short) number answer e = let n : 1 ≡ number = cc in omega arith
some_number (Image Form) number answer e = let n : 2 ≡ number = cc in omega arith
some_number (Image Layout) number answer e = let n : 3 ≡ number = cc in omega arith
some_number (Image (FunctionTable k)) number answer e = let n : 4 ≡ number = cc in omega arith
some_number (Image (Instruction k)) number answer e = let n : 5 ≡ number = cc in omega arith
some_number (FrameRoom used) number answer e = let n : 6 ≡ number = cc in omega arith
some_number (RegisterRoom used) number answer e = let n : 7 ≡ number = cc in omega arith

-- ---- the reply
pub ran_long : (bytes frames regs : List ℕ) → ran bytes true frames regs ≡ executed (8 ∷ 0 ∷ []) frames regs
unfolding ran
ran_long bytes frames regs = refl

pub ran_run : (k : CoreConfig) (bytes frames regs fr rg numbers : List ℕ) → k ≡ default_config
    → executed numbers fr rg ≡ execution form1 unit bytes k.max_call_depth k.fuel frames regs
    → ran bytes false frames regs ≡ executed numbers fr rg
unfolding ran
ran_run k bytes frames regs fr rg numbers is e = sym (rw is at e)

-- the line that a reply puts is the one for its answer
pub reply_line : (bytes : List ℕ) (more : Bool) (frames regs l o fr rg : List ℕ) (r : ℕ) → replied r o fr rg ≡ reply_to bytes more frames regs l
    → take r o ≡ line_of (ran bytes more frames regs).answer
unfolding reply_to
reply_line bytes more frames regs l o fr rg r e =
    let text : List ℕ = line_of (ran bytes more frames regs).answer in
    let count : r ≡ length text = ap (λ (x : Replied). x.count) e in
    let line : o ≡ text ++ drop (length text) l = ap (λ (x : Replied). x.line) e in
    rw (count, line) (take-append_seam text (drop (length text) l))
