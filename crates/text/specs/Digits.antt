-- Numbers as ASCII text.
use Rattle.std.specs.Prelude.{ℕ, zero, suc, ◌/◌, ◌%◌, List, [], ◌∷◌, ◌++◌, ltb, get_or}
use Rattle.basis.specs.Choice.{pick}
use Rattle.text.specs.Ascii.{ascii}

abbrev pub digit : ℕ → ℕ
digit d = get_or (ascii "0123456789abcdef") d 0

-- the last k digits of n in a base, the greatest first
unfoldable pub digits : ℕ → ℕ → ℕ → List ℕ
digits base zero n = []
digits base (suc k) n = digits base k (n / base) ++ (digit (n % base) ∷ [])

-- how many decimal digits a number has that has at most k + 1: a number below ten has one, any other one more than its tenth
unfoldable pub width_within : ℕ → ℕ → ℕ
width_within zero n = 1
width_within (suc k) n = pick (ltb n 10) 1 (suc (width_within k (n / 10)))

-- a number of 64 bits has at most 20
unfoldable pub width_of : ℕ → ℕ
width_of n = width_within 19 n

-- a number in decimal, without leading zeros
unfoldable pub decimal : ℕ → List ℕ
decimal n = digits 10 (width_of n) n
