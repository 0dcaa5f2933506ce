-- Texts of hexadecimal digits, one digit or one pair after the other. Assumes nothing.
use Rattle.std.proofs.Common.{ℕ, zero, suc, ◌≡◌, refl, sym, ap, ◌∙◌, ◌+◌, ◌*◌, ◌/◌, ◌%◌, ◌^◌, ◌<◌, List, [], ◌∷◌, ◌++◌, length, take, drop, get_or}
use native.Mathlib.Numerals.{add-one}
use native.Mathlib.Omega.{arith}
use mathlib.Core.List.{append_assoc}
use Rattle.std.specs.Simd.{first_chunks}
use native.Mathlib.Nat.{pow-succ'}
use Rattle.std.proofs.lemmas.Nat.{div-mul-add, mod-mul-add, mul-add-lt}
use Rattle.std.proofs.lemmas.List.{take_more, append-nil, length-take-le, length-drop, drop-drop, take_all}
use Rattle.std.proofs.Math.Seq.{take-add}
use Rattle.text.specs.Digits.{digit, digits}
use Rattle.replay.specs.Fields.{pairs}

-- no digit is 0
pub no_digit : [] ≡ digits 16 0 0
unfolding digits
no_digit = refl

-- one more digit
pub digit_more : (xs : List ℕ) (i n d : ℕ) → i < length xs → d < 16 → get_or xs i 0 ≡ digit d → take i xs ≡ digits 16 i n
    → take (i + 1) xs ≡ digits 16 (i + 1) (n * 16 + d)
unfolding digits
digit_more xs i n d h small is e = rw (take_more xs i 0 h, e, is, add-one, div-mul-add n 16 d small, mod-mul-add n 16 d small) refl

-- a number of i digits is below 16 ^ i, and with one more digit below 16 ^ (i + 1)
pub weight_more : (i n d : ℕ) → d < 16 → n < 16 ^ i → n * 16 + d < 16 ^ (i + 1)
weight_more i n d small h = rw (add-one, pow-succ' 16 i) (mul-add-lt n 16 d (16 ^ i) h small)

-- the two digits of a byte
two_digits : (h l : ℕ) → h < 16 → l < 16 → digits 16 2 (h * 16 + l) ≡ digit h ∷ digit l ∷ []
unfolding digits
two_digits h l hh hl =
    let low : h % 16 ≡ h = omega arith in
    rw (div-mul-add h 16 l hl, mod-mul-add h 16 l hl, low) refl

-- no pair is of no byte
pub no_pair : [] ≡ pairs []
unfolding pairs
no_pair = refl

-- the pair of one more byte
pairs_more : (xs : List ℕ) (b : ℕ) → pairs (xs ++ b ∷ []) ≡ pairs xs ++ digits 16 2 b
unfolding pairs
pairs_more [] b = append-nil (digits 16 2 b)
pairs_more (x ∷ xs) b = rw (pairs_more xs b, append_assoc) refl

-- a chunk of two by its number
chunk_at : (k i : ℕ) (xs : List ℕ) → i < k → get_or (first_chunks 2 k xs) i [] ≡ take 2 (drop (2 * i) xs)
chunk_at zero i xs h = absurd (omega arith)
chunk_at (suc k) zero xs h = refl
chunk_at (suc k) (suc i) xs h =
    let place : 2 * suc i ≡ 2 + 2 * i = omega arith in
    chunk_at k i (drop 2 xs) (omega arith) ∙ ap (take 2) (drop-drop (2 * i) 2 xs) ∙ ap (λ (n : ℕ). take 2 (drop n xs)) (sym place)

two : (c : List ℕ) → length c ≡ 2 → c ≡ get_or c 0 0 ∷ get_or c 1 0 ∷ []
two [] e = absurd (omega arith)
two (x ∷ []) e = absurd (omega arith)
two (x ∷ y ∷ []) e = refl
two (x ∷ y ∷ z ∷ c) e = absurd (omega arith)

-- one more byte: the chunk at its place holds its two digits
pub byte_more : (text items next : List ℕ) (ps : List (List ℕ)) (i h l : ℕ) → ps ≡ first_chunks 2 (length text / 2) text → length ps ≡ length text / 2
    → i < length ps → (h < 16) × (get_or (get_or ps i []) 0 0 ≡ digit h) → (l < 16) × (get_or (get_or ps i []) 1 0 ≡ digit l)
    → next ≡ items ++ (h * 16 + l) ∷ [] → take (2 * i) text ≡ pairs items → take (2 * (i + 1)) text ≡ pairs next
byte_more text items next ps i h l front many here high low is e =
    let at : get_or ps i [] ≡ take 2 (drop (2 * i) text) = ap (λ (q : List (List ℕ)). get_or q i []) front ∙ chunk_at (length text / 2) i text (omega arith) in
    let long : length (take 2 (drop (2 * i) text)) ≡ 2 = length-take-le 2 (drop (2 * i) text) (rw (length-drop (2 * i) text) (omega arith)) in
    let chunk : get_or ps i [] ≡ digit h ∷ digit l ∷ [] = two (get_or ps i []) (ap length at ∙ long) ∙ rw (high.1, low.1) refl in
    let more : 2 * (i + 1) ≡ 2 * i + 2 = omega arith in
    rw (more, take-add (2 * i) 2 text, e, is, pairs_more items (h * 16 + l), two_digits h l high.0 low.0, sym at, chunk) refl

-- all bytes
pub bytes_all : (text items : List ℕ) (n : ℕ) → n ≡ length text / 2 → length text % 2 ≡ 0 → take (2 * n) text ≡ pairs items → text ≡ pairs items
bytes_all text items n half even e = sym (take_all (2 * n) text (omega arith)) ∙ e
