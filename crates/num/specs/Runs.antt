-- Runs of bytes: the four bytes of a number, the bytes of a list of words, and a list with some of its bytes replaced.
use Rattle.std.specs.Prelude.{ℕ, ◌/◌, ◌%◌, Bool, true, ◌&&◌, List, [], ◌∷◌, ◌++◌, eqb}
use Rattle.std.proofs.lemmas.List.Edits.{sets}

-- The four bytes of a number, lowest first.
unfoldable pub le4 : ℕ → List ℕ
le4 x = x % 256 ∷ x / 256 % 256 ∷ x / 256 / 256 % 256 ∷ x / 256 / 256 / 256 % 256 ∷ []

-- The bytes of a list of words.
unfoldable pub flat : List ℕ → List ℕ
flat [] = []
flat (x ∷ xs) = le4 x ++ flat xs

-- The list l with its bytes from index i on replaced by vs.
unfoldable pub splice : List ℕ → ℕ → List ℕ → List ℕ
splice l i vs = sets l i vs

-- Every byte of a list is zero.
unfoldable pub all_zero : List ℕ → Bool
all_zero [] = true
all_zero (x ∷ xs) = eqb x 0 && all_zero xs
