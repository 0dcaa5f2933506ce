-- A frame's record, as words and as a struct.
use Rattle.std.specs.Prelude.{ℕ, List, [], ◌∷◌, ◌++◌, get_or}
use Rattle.lent.specs.declared.FrameRecord.{FrameRecord}

-- ---- as words
-- a frame's function, the place of its next instruction, the register of the frame below that takes what it returns (0 for the entry
-- frame), and the index of its first register
abbrev pub record_of : ℕ → ℕ → ℕ → ℕ → List ℕ
record_of function place dst first = function ∷ place ∷ dst ∷ first ∷ []

-- as many words; fewer, left over at the end of the lent words, are no record
abbrev pub frame_words : ℕ
frame_words = 4

-- ---- as a struct
abbrev pub record_words : FrameRecord → List ℕ
record_words r = record_of r.function r.place r.dst r.first

-- what is read where there is no record
abbrev pub no_record : FrameRecord
no_record = record { function = 0; place = 0; dst = 0; first = 0 }

abbrev pub record_at : List FrameRecord → ℕ → FrameRecord
record_at rs k = get_or rs k no_record

-- ---- the two forms of lent records
-- the words of the records, one record after the other
unfoldable pub words_of : List FrameRecord → List ℕ
words_of [] = []
words_of (r ∷ rs) = record_words r ++ words_of rs

-- the words read four at a time; fewer are no record
unfoldable pub records_of : List ℕ → List FrameRecord
records_of [] = []
records_of (a ∷ []) = []
records_of (a ∷ b ∷ []) = []
records_of (a ∷ b ∷ c ∷ []) = []
records_of (a ∷ b ∷ c ∷ d ∷ words) = record { function = a; place = b; dst = c; first = d } ∷ records_of words

-- the words after the last whole record
unfoldable pub left_over : List ℕ → List ℕ
left_over [] = []
left_over (a ∷ []) = a ∷ []
left_over (a ∷ b ∷ []) = a ∷ b ∷ []
left_over (a ∷ b ∷ c ∷ []) = a ∷ b ∷ c ∷ []
left_over (a ∷ b ∷ c ∷ d ∷ words) = left_over words
