-- The pieces of a run of records: the length of a record, what begins at a place, and the walk from piece to piece.
use Rattle.std.specs.Prelude.{ℕ, zero, suc, ◌+◌, ◌-◌, cond, ◌&&◌, List, [], ◌∷◌, ◌++◌, leb, ltb, length, get_or, take, drop}
use Rattle.std.specs.Borrow.{Bor}
use Rattle.records.specs.declared.Reader.{Reader}
use Rattle.records.specs.declared.Piece.{Piece}
use Rattle.records.specs.declared.Piece.TheVariants.{Record, Short, End}

-- The length of a record of that kind.
unfoldable pub length_of : ℕ → ℕ
length_of kind = 24

-- The length of the record that begins at a place, by its kind, the third byte.
abbrev pub length_at : List ℕ → ℕ → ℕ
length_at s at = length_of (get_or s (at + 2) 0)

-- What begins at a place, and where it ends: nothing at the end of the run or past it, a whole record, or the short last piece.
unfoldable pub piece_at : List ℕ → ℕ → Piece
piece_at s at =
    cond (leb (length s) at) End
    (cond (leb (at + length_at s at) (length s)) (Record (at + length_at s at)) (Short (length s)))

-- A reader of a lent run at a place.
abbrev pub reader_at : Bor (List ℕ) → ℕ → Reader
reader_at run at = record { run = run; at = at }

-- ---- the walk

-- Where the piece that begins at `at` ends; `at` itself if nothing begins there.
abbrev pub end_of : Piece → ℕ → ℕ
end_of (Record to) at = to
end_of (Short to) at = to
end_of End at = at

-- The place after n pieces.
unfoldable pub walked : ℕ → List ℕ → ℕ → ℕ
walked zero s at = at
walked (suc n) s at = walked n s (end_of (piece_at s at) at)

-- ---- the pieces

-- From one place up to another.
pub record Span : Type 0 where
  pub from : ℕ
  pub to : ℕ

abbrev pub span : ℕ → ℕ → Span
span from to = record { from = from; to = to }

-- The piece that begins at `at`, then what `more` gives from its end on.
abbrev pub onwards : Piece → ℕ → (ℕ → List Span) → List Span
onwards (Record to) at more = span at to ∷ more to
onwards (Short to) at more = span at to ∷ more to
onwards End at more = []

-- The first n pieces from a place on.
unfoldable pub spans_from : ℕ → List ℕ → ℕ → List Span
spans_from zero s at = []
spans_from (suc n) s at = onwards (piece_at s at) at (spans_from n s)

-- All pieces of a run; there are at most as many as bytes.
abbrev pub spans : List ℕ → List Span
spans s = spans_from (length s) s 0

-- The bytes of a piece.
abbrev pub bytes_of : List ℕ → Span → List ℕ
bytes_of s p = take (p.to - p.from) (drop p.from s)

-- The bytes of the pieces, joined.
unfoldable pub joined : List ℕ → List Span → List ℕ
joined s [] = []
joined s (p ∷ ps) = bytes_of s p ++ joined s ps

-- How many of the pieces contain the byte at index i.
unfoldable pub having : ℕ → List Span → ℕ
having i [] = 0
having i (p ∷ ps) = cond (leb p.from i && ltb i p.to) (suc (having i ps)) (having i ps)
