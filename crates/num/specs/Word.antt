-- A word of four bytes in a list of bytes, lowest byte first.
use Rattle.std.specs.Prelude.{ℕ, ◌+◌, ◌*◌, ◌/◌, ◌%◌, ◌<◌, List, get_or, set}

-- The number of four bytes.
abbrev pub word4 : ℕ → ℕ → ℕ → ℕ → ℕ
word4 a b c d = a + (b + (c + d * 256) * 256) * 256

-- The word at an index.
unfoldable pub word_at : List ℕ → ℕ → ℕ
word_at s at = word4 (get_or s at 0) (get_or s (at + 1) 0) (get_or s (at + 2) 0) (get_or s (at + 3) 0)

-- The list with the word x at an index, in place of the four bytes there.
unfoldable pub put_word : List ℕ → ℕ → ℕ → List ℕ
put_word s at x =
    set
    (set (set (set s at (x % 256)) (at + 1) (x / 256 % 256)) (at + 2) (x / 256 / 256 % 256))
    (at + 3)
    (x / 256 / 256 / 256 % 256)

-- Each number of the list is a byte.
abbrev pub Bytes : List ℕ → Type 0
Bytes s = (k : ℕ) → get_or s k 0 < 256
