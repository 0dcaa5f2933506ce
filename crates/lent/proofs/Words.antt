-- The words of records, record by record. Assumes nothing.
use Prim.Native.Nat.{ℕ, zero, suc, ◌+◌, ◌*◌, ◌<◌}
use mathlib.Core.Path.{◌≡◌, refl, sym, ap, ◌∙◌}
use mathlib.Core.List.{List, [], ◌∷◌, ◌++◌}
use native.Mathlib.Omega.{arith}
use native.Mathlib.Nat.{zero-add}
use lib.ListN.{length, get_or, set, take}
use lib.Seq.{sets, take-nil}
use Rattle.lent.specs.declared.FrameRecord.{FrameRecord}
use Rattle.lent.specs.Records.{record_words, no_record, record_at, words_of, records_of, left_over}

-- ---- there and back
pub records_words : (rs : List FrameRecord) → records_of (words_of rs) ≡ rs
unfolding words_of records_of
records_words [] = refl
records_words (r ∷ rs) = ap (λ (l : List FrameRecord). r ∷ l) (records_words rs)

pub words_unique : (rs qs : List FrameRecord) → words_of rs ≡ words_of qs → rs ≡ qs
words_unique rs qs e = sym (records_words rs) ∙ ap records_of e ∙ records_words qs

pub length-words : (rs : List FrameRecord) → length (words_of rs) ≡ 4 * length rs
unfolding words_of
length-words [] = refl
length-words (r ∷ rs) = let h = length-words rs in omega (arith, h)

-- ---- with words left over
pub left_few : (xs : List ℕ) → length (left_over xs) < 4
unfolding left_over
left_few [] = omega arith
left_few (a ∷ []) = omega arith
left_few (a ∷ b ∷ []) = omega arith
left_few (a ∷ b ∷ c ∷ []) = omega arith
left_few (a ∷ b ∷ c ∷ d ∷ xs) = left_few xs

pub words_left : (xs : List ℕ) → words_of (records_of xs) ++ left_over xs ≡ xs
unfolding words_of records_of left_over
words_left [] = refl
words_left (a ∷ []) = refl
words_left (a ∷ b ∷ []) = refl
words_left (a ∷ b ∷ c ∷ []) = refl
words_left (a ∷ b ∷ c ∷ d ∷ xs) = ap (λ (l : List ℕ). a ∷ b ∷ c ∷ d ∷ l) (words_left xs)

no_records : (t : List ℕ) → length t < 4 → records_of t ≡ []
unfolding records_of
no_records [] h = refl
no_records (a ∷ []) h = refl
no_records (a ∷ b ∷ []) h = refl
no_records (a ∷ b ∷ c ∷ []) h = refl
no_records (a ∷ b ∷ c ∷ d ∷ t) h = absurd (omega arith)

pub records_left : (rs : List FrameRecord) (t : List ℕ) → length t < 4 → records_of (words_of rs ++ t) ≡ rs
unfolding words_of records_of
records_left [] t h = no_records t h
records_left (r ∷ rs) t h = ap (λ (l : List FrameRecord). r ∷ l) (records_left rs t h)

-- words that are as many as n records have are whole records
pub words_whole : (n : ℕ) (xs : List ℕ) → length xs ≡ 4 * n → words_of (records_of xs) ≡ xs
unfolding words_of records_of
words_whole n [] e = refl
words_whole n (a ∷ []) e = absurd (omega arith)
words_whole n (a ∷ b ∷ []) e = absurd (omega arith)
words_whole n (a ∷ b ∷ c ∷ []) e = absurd (omega arith)
words_whole zero (a ∷ b ∷ c ∷ d ∷ xs) e = absurd (omega arith)
words_whole (suc n) (a ∷ b ∷ c ∷ d ∷ xs) e = ap (λ (l : List ℕ). a ∷ b ∷ c ∷ d ∷ l) (words_whole n xs (omega arith))

-- ---- record i
at : (i j : ℕ) → 4 * suc i + j ≡ suc (suc (suc (suc (4 * i + j))))
at i j = omega arith

at0 : (i : ℕ) → 4 * suc i ≡ suc (suc (suc (suc (4 * i))))
at0 i = omega arith

pub function_word_lem : (rs : List FrameRecord) (i : ℕ) → get_or (words_of rs) (4 * i) 0 ≡ (record_at rs i).function
unfolding words_of
function_word_lem [] i = refl
function_word_lem (r ∷ rs) zero = refl
function_word_lem (r ∷ rs) (suc i) = ap (λ (k : ℕ). get_or (words_of (r ∷ rs)) k 0) (at0 i) ∙ function_word_lem rs i

module _ (field : FrameRecord → ℕ) (j : ℕ) (none : field no_record ≡ 0) (first : (r : FrameRecord) (xs : List ℕ) → get_or (record_words r ++ xs) j 0 ≡ field r) where
  word : (rs : List FrameRecord) (i : ℕ) → get_or (words_of rs) (4 * i + j) 0 ≡ field (record_at rs i)
  unfolding words_of
  word [] i = sym none
  word (r ∷ rs) zero = ap (λ (k : ℕ). get_or (words_of (r ∷ rs)) k 0) (zero-add j) ∙ first r (words_of rs)
  word (r ∷ rs) (suc i) = ap (λ (k : ℕ). get_or (words_of (r ∷ rs)) k 0) (at i j) ∙ word rs i

pub place_word_lem : (rs : List FrameRecord) (i : ℕ) → get_or (words_of rs) (4 * i + 1) 0 ≡ (record_at rs i).place
place_word_lem = word (λ r. r.place) 1 refl (λ r xs. refl)

pub dst_word_lem : (rs : List FrameRecord) (i : ℕ) → get_or (words_of rs) (4 * i + 2) 0 ≡ (record_at rs i).dst
dst_word_lem = word (λ r. r.dst) 2 refl (λ r xs. refl)

pub first_word : (rs : List FrameRecord) (i : ℕ) → get_or (words_of rs) (4 * i + 3) 0 ≡ (record_at rs i).first
first_word = word (λ r. r.first) 3 refl (λ r xs. refl)

-- ---- stores
-- the same record, at another place
abbrev pub placed_at : FrameRecord → ℕ → FrameRecord
placed_at r n = record { function = r.function; place = n; dst = r.dst; first = r.first }

pub set_place : (rs : List FrameRecord) (i n : ℕ) → set (words_of rs) (4 * i + 1) n ≡ words_of (set rs i (placed_at (record_at rs i) n))
unfolding words_of
set_place [] i n = refl
set_place (r ∷ rs) zero n = refl
set_place (r ∷ rs) (suc i) n = ap (λ (k : ℕ). set (words_of (r ∷ rs)) k n) (at i 1) ∙ ap (λ (l : List ℕ). record_words r ++ l) (set_place rs i n)

pub sets_record : (rs : List FrameRecord) (i : ℕ) (q : FrameRecord) → sets (words_of rs) (4 * i) (record_words q) ≡ words_of (set rs i q)
unfolding words_of
sets_record [] i q = refl
sets_record (r ∷ rs) zero q = refl
sets_record (r ∷ rs) (suc i) q = ap (λ (k : ℕ). sets (words_of (r ∷ rs)) k (record_words q)) (at0 i) ∙ ap (λ (l : List ℕ). record_words r ++ l) (sets_record rs i q)

-- ---- the first n records
pub take_words : (rs : List FrameRecord) (n : ℕ) → take (4 * n) (words_of rs) ≡ words_of (take n rs)
unfolding words_of
take_words [] n = take-nil (4 * n) ∙ sym (ap words_of (take-nil n))
take_words (r ∷ rs) zero = refl
take_words (r ∷ rs) (suc n) = ap (λ (k : ℕ). take k (words_of (r ∷ rs))) (at0 n) ∙ ap (λ (l : List ℕ). record_words r ++ l) (take_words rs n)
