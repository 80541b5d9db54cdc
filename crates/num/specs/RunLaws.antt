-- Laws of runs of bytes: a run put behind another run, over a whole list, or into a lent part of it.
use Rattle.std.specs.Prelude.{ℕ, suc, ◌+◌, ◌*◌, ◌^◌, ◌≤◌, ◌<◌, List, [], ◌∷◌, ◌++◌, ◌≡◌, refl, length, take, drop, set}
use Rattle.std.proofs.Common.{append_assoc, append-nil, sym, ap, ◌∙◌, add-one, arith, length-append, length-set, drop_of_length-le}
use Rattle.std.proofs.lemmas.List.Edits.{sets, sets-eq}
use Rattle.std.proofs.Math.Seq.{length-sets}
use Rattle.std.proofs.lemmas.List.{set-append_left}
use Rattle.num.specs.Word.{word_at, put_word}
use Rattle.num.specs.Runs.{le4, flat, splice}

-- ---- lengths

pub length_le4 : (x : ℕ) → length (le4 x) ≡ 4
unfolding le4
length_le4 x = refl

pub length_flat : (xs : List ℕ) → length (flat xs) ≡ 4 * length xs
unfolding flat
length_flat [] = refl
length_flat (x ∷ xs) = omega (arith, length-append (le4 x) (flat xs), length_le4 x, length_flat xs)

pub length_splice : (l : List ℕ) (i : ℕ) (vs : List ℕ) → length (splice l i vs) ≡ length l
unfolding splice
length_splice l i vs = length-sets l i vs

-- ---- the bytes of words

pub flat_append : (xs ys : List ℕ) → flat (xs ++ ys) ≡ flat xs ++ flat ys
unfolding flat
flat_append [] ys = refl
flat_append (x ∷ xs) ys = ap (λ (r : List ℕ). le4 x ++ r) (flat_append xs ys) ∙ sym (append_assoc (le4 x) (flat xs) (flat ys))

pub flat_one : (x : ℕ) → flat (x ∷ []) ≡ le4 x
unfolding flat
flat_one x = append-nil (le4 x)

-- A number below 2 ^ 32 is the word of its bytes, whatever follows them.
pub word_le4 : (x : ℕ) (rest : List ℕ) → x < 2 ^ 32 → word_at (le4 x ++ rest) 0 ≡ x
unfolding word_at le4
word_le4 x rest h = omega arith

-- ---- runs put into a list

-- Putting a word is putting its four bytes.
pub put_splice : (s : List ℕ) (at x : ℕ) → put_word s at x ≡ splice s at (le4 x)
unfolding put_word splice le4
put_splice s at x =
    let h2 : at + 2 ≡ suc (suc at) = omega arith in
    let h3 : at + 3 ≡ suc (suc (suc at)) = omega arith in
    rw (add-one at, h2, h3)

pub splice_none : (l : List ℕ) (i : ℕ) → splice l i [] ≡ l
unfolding splice
splice_none l i = refl

sets_sets : (xs : List ℕ) (l : List ℕ) (i : ℕ) (ys : List ℕ) → sets (sets l i xs) (i + length xs) ys ≡ sets l i (xs ++ ys)
sets_sets [] l i ys = ap (λ (k : ℕ). sets l k ys) (omega arith)
sets_sets (x ∷ xs) l i ys =
    let h : i + length (x ∷ xs) ≡ suc i + length xs = omega arith in
    ap (λ (k : ℕ). sets (sets (set l i x) (suc i) xs) k ys) h ∙ sets_sets xs (set l i x) (suc i) ys

-- Two runs, the second right behind the first, are one run.
pub splice_splice : (l : List ℕ) (i m : ℕ) (xs ys : List ℕ) → i + length xs ≡ m →
    splice (splice l i xs) m ys ≡ splice l i (xs ++ ys)
unfolding splice
splice_splice l i m xs ys h = ap (λ (k : ℕ). sets (sets l i xs) k ys) (sym h) ∙ sets_sets xs l i ys

-- The list with a run put into it: what was before it, the run, what was behind it.
pub splice_eq : (l : List ℕ) (i : ℕ) (vs : List ℕ) → i + length vs ≤ length l →
    splice l i vs ≡ take i l ++ (vs ++ drop (i + length vs) l)
unfolding splice
splice_eq l i vs h = sets-eq vs l i h ∙ append_assoc (take i l) vs (drop (i + length vs) l)

-- A run put over the whole list is the whole list.
pub splice_whole : (l vs : List ℕ) → length l ≡ length vs → splice l 0 vs ≡ vs
splice_whole l vs h =
    splice_eq l 0 vs (omega arith)
    ∙ ap (λ (r : List ℕ). vs ++ r) (drop_of_length-le l {i = 0 + length vs} (omega arith))
    ∙ append-nil vs

-- ---- runs put into a list of two pieces

sets_behind : (vs : List ℕ) (y : ℕ) (l : List ℕ) (j : ℕ) → sets (y ∷ l) (suc j) vs ≡ y ∷ sets l j vs
sets_behind [] y l j = refl
sets_behind (v ∷ vs) y l j = sets_behind vs y (set l j v) (suc j)

-- A run put behind the first piece is put into the second.
pub splice_second : (h z : List ℕ) (i : ℕ) (vs : List ℕ) → splice (h ++ z) (length h + i) vs ≡ h ++ splice z i vs
unfolding splice
splice_second [] z i vs = ap (λ (k : ℕ). sets z k vs) (omega arith)
splice_second (y ∷ h) z i vs =
    let e : length (y ∷ h) + i ≡ suc (length h + i) = omega arith in
    ap (λ (k : ℕ). sets (y ∷ (h ++ z)) k vs) e
    ∙ sets_behind vs y (h ++ z) (length h + i)
    ∙ ap {B = List ℕ} (λ r. y ∷ r) (splice_second h z i vs)

-- A run put within the first piece leaves the second as it was.
pub splice_first : (h z : List ℕ) (i : ℕ) (vs : List ℕ) → i + length vs ≤ length h → splice (h ++ z) i vs ≡ splice h i vs ++ z
unfolding splice
splice_first h z i [] l = refl
splice_first h z i (v ∷ vs) l =
    ap (λ (r : List ℕ). sets r (suc i) vs) (set-append_left h z i v (omega arith))
    ∙ splice_first (set h i v) z (suc i) vs (omega (arith, length-set h i v))
