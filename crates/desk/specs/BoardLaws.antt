-- Laws of the board: the part that is written is the part read back, no other part moves, no other bit moves.
use Rattle.std.specs.Prelude.{ℕ, ◌+◌, ◌-◌, ◌/◌, ◌≤◌, ◌<◌, Bool, true, false, List, ◌++◌, ◌≢◌, ◌≡◌, refl, ltb, length, take, drop, get_or}
use Rattle.std.proofs.Common.{⊎_elim, sym, ap, ◌∙◌, eq-zero-or-pos, arith, ltb-true, ltb-false, length-append, length-drop, take-append-drop, length-take-le, take_at, drop_at, drop-drop, get_or-take, get_or-drop, get_or-append-add, ext_get_or, drop-set-lt}
use Rattle.std.proofs.Math.ListN.{get_or-append}
use Rattle.num.specs.Word.{Bytes}
use Rattle.num.specs.Opened.{open_at, set_open}
use Rattle.part.specs.Layout.{part_bytes}
use Rattle.desk.specs.Board.{disks, part_at, board_bytes, part_of, with_part}

module _ (b : List ℕ) (d : ℕ) (whole : length b ≡ board_bytes) (known : d < disks) where
  front : length (take (part_at d) b) ≡ part_at d
  front = length-take-le (part_at d) b (omega (arith, whole, known))

  -- The part put back as it was.
  pub with_same : with_part b d (part_of b d) ≡ b
  with_same =
      ap (λ (r : List ℕ). take (part_at d) b ++ (part_of b d ++ r)) (sym (drop-drop part_bytes (part_at d) b))
      ∙ ap (λ (r : List ℕ). take (part_at d) b ++ r) (take-append-drop part_bytes (drop (part_at d) b))
      ∙ take-append-drop (part_at d) b

  module _ (p : List ℕ) (full : length p ≡ part_bytes) where
    pub length_with : length (with_part b d p) ≡ board_bytes
    length_with =
        omega (
          arith,
          whole,
          known,
          full,
          front,
          length-append (take (part_at d) b) (p ++ drop (part_at d + part_bytes) b),
          length-append p (drop (part_at d + part_bytes) b),
          length-drop (part_at d + part_bytes) b,
        )

    pub part_same : part_of (with_part b d p) d ≡ p
    part_same =
        ap (take part_bytes) (drop_at (take (part_at d) b) (p ++ drop (part_at d + part_bytes) b) (part_at d) front)
        ∙ take_at p (drop (part_at d + part_bytes) b) part_bytes full

    -- A byte before the part, and one behind it.
    pub byte_before : (k : ℕ) → k < part_at d → get_or (with_part b d p) k 0 ≡ get_or b k 0
    byte_before k h =
        get_or-append (take (part_at d) b) (p ++ drop (part_at d + part_bytes) b) 0 k (omega (arith, front))
        ∙ get_or-take (part_at d) b k 0 h

    pub byte_behind : (k : ℕ) → part_at d + part_bytes ≤ k → get_or (with_part b d p) k 0 ≡ get_or b k 0
    byte_behind k h =
        let j = k - (part_at d + part_bytes) in
        let e : k ≡ length (take (part_at d) b) + (length p + j) = omega (arith, front, full) in
        let f : part_at d + part_bytes + j ≡ k = omega arith in
        ap (λ (i : ℕ). get_or (with_part b d p) i 0) e
        ∙ get_or-append-add (take (part_at d) b) (p ++ drop (part_at d + part_bytes) b) (length p + j) 0
        ∙ get_or-append-add p (drop (part_at d + part_bytes) b) j 0
        ∙ get_or-drop (part_at d + part_bytes) b j 0
        ∙ ap (λ (i : ℕ). get_or b i 0) f

    -- The other parts are as they were.
    pub part_other : (e : ℕ) → e < disks → e ≢ d → part_of (with_part b d p) e ≡ part_of b e
    part_other e h n =
        ext_get_or 0 (part_of (with_part b d p) e) (part_of b e)
        (length-take-le part_bytes (drop (part_at e) (with_part b d p))
        (omega (arith, length_with, h, length-drop (part_at e) (with_part b d p)))
        ∙ sym (length-take-le part_bytes (drop (part_at e) b) (omega (arith, whole, h, length-drop (part_at e) b))))
        (λ i l. at i (omega (
          arith,
          l,
          length-take-le part_bytes (drop (part_at e) (with_part b d p))
              (omega (arith, length_with, h, length-drop (part_at e) (with_part b d p))),
        )))
      where
        byte : (i : ℕ) → i < part_bytes → get_or (with_part b d p) (part_at e + i) 0 ≡ get_or b (part_at e + i) 0
        byte i l = go (ltb e d) refl
          where
            go : (w : Bool) → ltb e d ≡ w → get_or (with_part b d p) (part_at e + i) 0 ≡ get_or b (part_at e + i) 0
            go true w = byte_before (part_at e + i) (omega (arith, ltb-true e d w))
            go false w = byte_behind (part_at e + i) (omega (arith, ltb-false e d w, away n (ltb-false e d w)))
              where
                away : e ≢ d → d ≤ e → d < e
                away n l = ⊎_elim (λ (z : e - d ≡ 0). absurd (n (omega arith))) (λ (z : 0 < e - d). omega arith) (eq-zero-or-pos (e - d))

        at : (i : ℕ) → i < part_bytes → get_or (part_of (with_part b d p) e) i 0 ≡ get_or (part_of b e) i 0
        at i l =
            get_or-take part_bytes (drop (part_at e) (with_part b d p)) i 0 l
            ∙ get_or-drop (part_at e) (with_part b d p) i 0
            ∙ byte i l
            ∙ sym (get_or-drop (part_at e) b i 0)
            ∙ sym (get_or-take part_bytes (drop (part_at e) b) i 0 l)

    -- The open bits are as they were.
    pub open_with : (e : ℕ) → e < disks → open_at (with_part b d p) e ≡ open_at b e
    unfolding open_at
    open_with e h = rw (byte_before (e / 8) (omega arith))

    pub bytes_with : Bytes b → Bytes p → Bytes (with_part b d p)
    bytes_with x y k = go (ltb k (part_at d)) refl (ltb k (part_at d + part_bytes)) refl
      where
        go : (v : Bool) → ltb k (part_at d) ≡ v → (w : Bool) → ltb k (part_at d + part_bytes) ≡ w → get_or (with_part b d p) k 0 < 256
        go true v w u = rw (byte_before k (ltb-true k (part_at d) v)) (x k)
        go false v true u =
            let i = k - part_at d in
            let h : part_at d ≤ k = ltb-false k (part_at d) v in
            let l : k < part_at d + part_bytes = ltb-true k (part_at d + part_bytes) u in
            let e : length (take (part_at d) b) + i ≡ k = omega (arith, front) in
            let q : get_or (with_part b d p) k 0 ≡ get_or p i 0 =
            ap (λ (j : ℕ). get_or (with_part b d p) j 0) (sym e)
            ∙ get_or-append-add (take (part_at d) b) (p ++ drop (part_at d + part_bytes) b) i 0
            ∙ get_or-append p (drop (part_at d + part_bytes) b) 0 i (omega (arith, full)) in
            rw q (y i)
        go false v false u = rw (byte_behind k (ltb-false k (part_at d + part_bytes) u)) (x k)

-- An open sets one bit of the head: no part moves.
pub part_open : (b : List ℕ) (d e : ℕ) → d < disks → part_of (set_open b d) e ≡ part_of b e
unfolding set_open
part_open b d e h = ap (take part_bytes) (drop-set-lt (part_at e) b (d / 8) _ (omega arith))
