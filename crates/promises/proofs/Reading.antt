-- The reader of a run of records: its pieces together are the run, the walk over them ends, and how the desk treats each piece.
use Rattle.std.specs.Prelude.{ℕ, ◌+◌, ◌-◌, ◌≤◌, ◌<◌, List, ◌≡◌, refl, length, get_or, drop}
use Rattle.std.proofs.Common.{⊎_elim, sym, ap, ◌∙◌, eq-zero-or-pos, arith, eq-eqb, ne_eqb, length-take, length-drop, get_or-take, get_or-drop}
use Rattle.std.specs.Borrow.{Bor}
use Rattle.std.proofs.Math.ListN.{get_or-eq_default}
use Rattle.answer.specs.Answers.{answer_size}
use Rattle.desk.specs.Record.{kind_byte, record_bytes, well_formed}
use Rattle.desk.specs.Board.{board_bytes}
use Rattle.desk.specs.Step.{effect_of, step_of}
use Rattle.records.specs.declared.Reader.{Reader}
use Rattle.records.specs.declared.Piece.{Piece}
use Rattle.records.specs.declared.Piece.TheVariants.{Record, Short, End}
use Rattle.records.specs.Pieces.{length_of, length_at, piece_at, reader_at, walked, span, spans, bytes_of, joined, having}
use Rattle.records.specs.PieceLaws.{length_least, piece_end, whole_is, short_is, walked_to_end, joined_from, having_one}
use Rattle.promises.proofs.Unique.{unique}

-- ---- the pieces of a run

-- The pieces, joined, are the run.
pub pieces_join : (s : List ℕ) → joined s (spans s) ≡ s
pieces_join s = joined_from (length s) s 0 (omega arith)

-- Every byte is in exactly one piece.
pub byte_once : (s : List ℕ) (i : ℕ) → i < length s → having i (spans s) ≡ 1
byte_once s i h = having_one (length s) i s 0 (omega arith) (omega arith) h

-- From any place the walk ends, after at most as many pieces as the run has bytes.
pub walk_ends : (s : List ℕ) (at : ℕ) → piece_at s (walked (length s) s at) ≡ End
walk_ends s at = piece_end s (walked (length s) s at) (walked_to_end (length s) s at (omega arith))

-- No piece begins at the end of the run or past it.
pub past_end : (s : List ℕ) (at : ℕ) → length s ≤ at → piece_at s at ≡ End
past_end s at h = piece_end s at h

-- A short piece is the last, and has fewer bytes than a record of its kind.
pub short_last : (s : List ℕ) (at to : ℕ) → piece_at s at ≡ Short to → (to ≡ length s) × ((at < to) × (to < at + length_at s at))
short_last s at to e = short_is s at to e

-- ---- how the desk treats a piece

-- The reader's length for a kind is the length that the desk asks for.
pub same_length : (kind : ℕ) → length_of kind ≡ record_bytes kind
unfolding length_of
same_length kind = refl

-- The number of bytes of a piece, and its kind.
module _ (s : List ℕ) (at to : ℕ) (h : to ≤ length s) where
  piece_size : length (bytes_of s (span at to)) ≡ to - at
  piece_size = simp (length-take, length-drop) (omega arith)

  piece_kind : at + 2 < to → kind_byte (bytes_of s (span at to)) ≡ get_or s (at + 2) 0
  piece_kind l = get_or-take (to - at) (drop at s) 2 0 (omega arith) ∙ get_or-drop at s 2 0

-- A whole record has the length that the desk asks for its kind.
pub whole_fits : (s : List ℕ) (at to : ℕ) → piece_at s at ≡ Record to →
    length (bytes_of s (span at to)) ≡ record_bytes (kind_byte (bytes_of s (span at to)))
whole_fits s at to e =
    let h = whole_is s at to e in
    let k = length_least (get_or s (at + 2) 0) in
    let n : to - at ≡ length_of (get_or s (at + 2) 0) = omega (arith, h.0) in
    piece_size s at to h.1
    ∙ n
    ∙ ap length_of (sym (piece_kind s at to h.1 (omega (arith, h.0))))
    ∙ same_length (kind_byte (bytes_of s (span at to)))

-- The kind of a piece that reaches the end of the run; past the end both sides are 0.
last_kind : (s : List ℕ) (at : ℕ) → kind_byte (bytes_of s (span at (length s))) ≡ get_or s (at + 2) 0
last_kind s at =
    ⊎_elim
    (λ (e : length s - (at + 2) ≡ 0).
    get_or-eq_default (bytes_of s (span at (length s))) 0 {n = 2} (omega (arith, piece_size s at (length s) (omega arith)))
    ∙ sym (get_or-eq_default s 0 {n = at + 2} (omega arith)))
    (λ (l : 0 < length s - (at + 2)). piece_kind s at (length s) (omega arith) (omega arith))
    (eq-zero-or-pos (length s - (at + 2)))

-- A record whose length is not that of its kind is refused 10.
other_length : (b r a : List ℕ) → (length r ≡ record_bytes (kind_byte r) → ⊥) → length b ≡ board_bytes → length a ≡ answer_size →
    (step_of b r a).code ≡ 10
unfolding step_of effect_of well_formed
other_length b r a n whole size =
    rw (eq-eqb (length b) board_bytes whole, eq-eqb (length a) answer_size size, ne_eqb (length r) (record_bytes (kind_byte r)) n)

-- A short last piece is refused 10.
pub short_refused : (b s a : List ℕ) (at to : ℕ) → piece_at s at ≡ Short to → length b ≡ board_bytes → length a ≡ answer_size →
    (step_of b (bytes_of s (span at to)) a).code ≡ 10
short_refused b s a at to e whole size =
    let h = short_is s at to e in
    rw h.0
    (other_length b (bytes_of s (span at (length s))) a
    (λ q.
    omega (
      arith,
      h.0,
      h.1.0,
      h.1.1,
      q,
      piece_size s at (length s) (omega arith),
      ap record_bytes (last_kind s at),
      same_length (get_or s (at + 2) 0),
    ))
    whole
    size)

-- ---- any two results are equal

-- The piece at a place (`next`, `piece_in`).
pub piece_unique : (s : List ℕ) (at : ℕ) {p q : Piece} → p ≡ piece_at s at → q ≡ piece_at s at → p ≡ q
piece_unique s at p q = unique p q

-- A reader at a place (`new`, `moved`).
pub reader_unique : (run : Bor (List ℕ)) (at : ℕ) {r q : Reader} → r ≡ reader_at run at → q ≡ reader_at run at → r ≡ q
reader_unique run at p q = unique p q

-- The length for a kind (`length_of`).
pub length_unique : (kind : ℕ) {n m : ℕ} → n ≡ length_of kind → m ≡ length_of kind → n ≡ m
length_unique kind p q = unique p q
