-- Laws of pieces: what begins at a place; every piece moves forward; the pieces together are the run.
use Rattle.std.specs.Prelude.{ℕ, zero, suc, ◌+◌, ◌-◌, ◌≤◌, ◌<◌, List, ◌∷◌, ◌++◌, ◌⊎◌, ◌≡◌, refl, length, get_or, drop}
use Rattle.std.proofs.Common.{inl, inr, ⊎_elim, sym, ap, ◌∙◌, eq-zero-or-pos, arith, take-append-drop, drop_of_length-le, drop-drop}
use borrow.Author.Tests.{le-leb, lt-leb, lt-ltb, le-ltb}
use Rattle.records.specs.declared.Piece.TheVariants.{Record, Short, End}
use Rattle.records.specs.Pieces.{length_of, length_at, piece_at, end_of, walked, Span, span, onwards, spans_from, bytes_of, joined, having}

-- A record is long enough to have its kind, the third byte.
pub length_least : (kind : ℕ) → 3 ≤ length_of kind
unfolding length_of
length_least kind = omega arith

-- ---- what begins at a place

module _ (s : List ℕ) (at : ℕ) where
  pub piece_end : length s ≤ at → piece_at s at ≡ End
  unfolding piece_at
  piece_end h = rw (le-leb _ _ h)

  pub piece_short : at < length s → length s < at + length_at s at → piece_at s at ≡ Short (length s)
  unfolding piece_at
  piece_short h l = rw (lt-leb _ _ h, lt-leb _ _ l)

  pub piece_whole : at < length s → at + length_at s at ≤ length s → piece_at s at ≡ Record (at + length_at s at)
  unfolding piece_at
  piece_whole h l = rw (lt-leb _ _ h, le-leb _ _ l)

-- The three cases.
pub data Begins (s : List ℕ) (at : ℕ) : Type 0 where
  none : length s ≤ at → piece_at s at ≡ End → Begins s at
  whole : at + length_at s at ≤ length s → piece_at s at ≡ Record (at + length_at s at) → Begins s at
  short : at < length s → length s < at + length_at s at → piece_at s at ≡ Short (length s) → Begins s at

module _ (s : List ℕ) (at : ℕ) where
  begun : at < length s → Begins s at
  begun h =
      ⊎_elim
      (λ (e : at + length_at s at - length s ≡ 0). whole (omega arith) (piece_whole s at h (omega arith)))
      (λ (l : 0 < at + length_at s at - length s). short h (omega arith) (piece_short s at h (omega arith)))
      (eq-zero-or-pos (at + length_at s at - length s))

  pub begins : Begins s at
  begins =
      ⊎_elim
      (λ (e : length s - at ≡ 0). none (omega arith) (piece_end s at (omega arith)))
      (λ (h : 0 < length s - at). begun (omega arith))
      (eq-zero-or-pos (length s - at))

  -- A whole record has the length of its kind and ends within the run.
  pub whole_is : (to : ℕ) → piece_at s at ≡ Record to → (to ≡ at + length_at s at) × (to ≤ length s)
  whole_is to e = by_case begins
    where
      by_case : Begins s at → (to ≡ at + length_at s at) × (to ≤ length s)
      by_case (none l h) = let z : ◌≡◌ {A = ℕ} 0 1 = cc in absurd (omega arith)
      by_case (whole l h) = let q : to ≡ at + length_at s at = cc in (q, omega arith)
      by_case (short l k h) = let z : ◌≡◌ {A = ℕ} 0 1 = cc in absurd (omega arith)

  -- A short piece is all that is left, fewer bytes than a record of its kind.
  pub short_is : (to : ℕ) → piece_at s at ≡ Short to → (to ≡ length s) × ((at < to) × (to < at + length_at s at))
  short_is to e = by_case begins
    where
      by_case : Begins s at → (to ≡ length s) × ((at < to) × (to < at + length_at s at))
      by_case (none l h) = let z : ◌≡◌ {A = ℕ} 0 1 = cc in absurd (omega arith)
      by_case (whole l h) = let z : ◌≡◌ {A = ℕ} 0 1 = cc in absurd (omega arith)
      by_case (short l k h) = let q : to ≡ length s = cc in (q, (omega arith, omega arith))

-- A piece begins at `at`: it ends further on, within the run, and the next piece begins at its end.
record Moves (s : List ℕ) (at : ℕ) : Type 0 where
  to : ℕ
  forward : at < to
  within : to ≤ length s
  ends : end_of (piece_at s at) at ≡ to
  goes : (more : ℕ → List Span) → onwards (piece_at s at) at more ≡ span at to ∷ more to

-- Either the run has ended, or a piece begins.
moves : (s : List ℕ) (at : ℕ) → Begins s at → (length s ≤ at) ⊎ Moves s at
moves s at (none l e) = inl l
moves s at (whole l e) =
    inr
    (record {
      to = at + length_at s at;
      forward = omega (arith, length_least (get_or s (at + 2) 0));
      within = l;
      ends = rw e;
      goes = λ more. rw e;
    })
moves s at (short l k e) = inr (record { to = length s; forward = l; within = omega arith; ends = rw e; goes = λ more. rw e })

-- ---- the walk ends

-- After as many pieces as there are bytes left, the run has ended.
pub walked_to_end : (n : ℕ) (s : List ℕ) (at : ℕ) → length s ≤ at + n → length s ≤ walked n s at
unfolding walked
walked_to_end zero s at h = omega arith
walked_to_end (suc n) s at h =
    ⊎_elim
    (λ (e : length s ≤ at). walked_to_end n s (end_of (piece_at s at) at) (rw (piece_end s at e) (omega arith)))
    (λ (m : Moves s at). walked_to_end n s (end_of (piece_at s at) at) (rw m.ends (omega (arith, m.forward))))
    (moves s at (begins s at))

-- ---- the pieces of a run, joined

-- A piece joined with the rest behind it.
apart : (s : List ℕ) (at to : ℕ) → at ≤ to → bytes_of s (span at to) ++ drop to s ≡ drop at s
apart s at to h =
    let e : at + (to - at) ≡ to = omega arith in
    ap (λ (k : ℕ). bytes_of s (span at to) ++ drop k s) (sym e)
    ∙ ap (λ (r : List ℕ). bytes_of s (span at to) ++ r) (sym (drop-drop (to - at) at s))
    ∙ take-append-drop (to - at) (drop at s)

pub joined_from : (n : ℕ) (s : List ℕ) (at : ℕ) → length s ≤ at + n → joined s (spans_from n s at) ≡ drop at s
unfolding spans_from joined
joined_from zero s at h = sym (drop_of_length-le s {i = at} (omega arith))
joined_from (suc n) s at h =
    ⊎_elim
    (λ (e : length s ≤ at). rw (piece_end s at e) (sym (drop_of_length-le s {i = at} e)))
    (λ (m : Moves s at).
    ap (joined s) (m.goes (spans_from n s))
    ∙ ap (λ (r : List ℕ). bytes_of s (span at m.to) ++ r) (joined_from n s m.to (omega (arith, m.forward)))
    ∙ apart s at m.to (omega (arith, m.forward)))
    (moves s at (begins s at))

-- ---- every byte is in one piece

-- No piece from a place on contains a byte before that place.
having_none : (n i : ℕ) (s : List ℕ) (at : ℕ) → i < at → having i (spans_from n s at) ≡ 0
unfolding spans_from having
having_none zero i s at h = refl
having_none (suc n) i s at h =
    ⊎_elim (λ (e : length s ≤ at). rw (piece_end s at e))
    (λ (m : Moves s at).
    ap (having i) (m.goes (spans_from n s))
    ∙ rw (lt-leb at i h) (having_none n i s m.to (omega (arith, m.forward))))
    (moves s at (begins s at))

pub having_one : (n i : ℕ) (s : List ℕ) (at : ℕ) → length s ≤ at + n → at ≤ i → i < length s → having i (spans_from n s at) ≡ 1
unfolding spans_from having
having_one zero i s at h l k = absurd (omega arith)
having_one (suc n) i s at h l k =
    ⊎_elim (λ (e : length s ≤ at). absurd (omega arith))
    (λ (m : Moves s at).
    ap (having i) (m.goes (spans_from n s))
    ∙ rw (le-leb at i l)
    (⊎_elim
    (λ (e : i + 1 - m.to ≡ 0).
    rw (lt-ltb i m.to (omega arith), having_none n i s m.to (omega arith)))
    (λ (b : 0 < i + 1 - m.to).
    rw (le-ltb i m.to (omega arith)) (having_one n i s m.to (omega (arith, m.forward)) (omega arith) k))
    (eq-zero-or-pos (i + 1 - m.to))))
    (moves s at (begins s at))
