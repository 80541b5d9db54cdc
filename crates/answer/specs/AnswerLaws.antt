-- Laws of the answers: the numbers of the refusals, the buffer has 144 bytes, and one more grant is one more item.
use Rattle.std.specs.Prelude.{ℕ, zero, suc, ◌+◌, ◌*◌, ◌-◌, ◌≤◌, ◌<◌, true, List, [], ◌∷◌, ◌++◌, ◌≡◌, refl, leb, length, drop, replicate}
use Rattle.std.proofs.Common.{append_assoc, append-nil, ⊎_elim, sym, ap, ◌∙◌, eq-or-lt_of_le, arith, leb-true, length-append, take_at, drop_at}
use Rattle.std.proofs.lemmas.List.{length-replicate, replicate-append-replicate}
use Rattle.std.proofs.Math.Seq.{drop-append-add}
use Rattle.num.specs.Word.{word_at}
use Rattle.num.specs.Signed.{word_of}
use Rattle.num.specs.Runs.{flat, splice}
use Rattle.num.specs.RunLaws.{length_flat, splice_eq, word_le4}
use Rattle.answer.specs.declared.Refusal.{Refusal}
use Rattle.answer.specs.declared.Refusal.TheVariants as R
use Rattle.answer.specs.declared.Answer.{Answer}
use Rattle.answer.specs.declared.Answer.TheVariants as A
use Rattle.answer.specs.Answers.{
  number_of,
  refusal_of,
  code_of,
  ticket_of,
  told_of,
  amount_of,
  item_bytes,
  items_bytes,
  answer_bytes,
}

-- ---- refusals and their numbers

-- The number of each refusal is 9 to 21.
each : (r : Refusal) → (leb 9 (number_of r) ≡ true) × (leb (number_of r) 21 ≡ true)
each R.Length = (refl, refl)
each R.Record = (refl, refl)
each R.Disk = (refl, refl)
each R.Open = (refl, refl)
each R.Closed = (refl, refl)
each R.Unsound = (refl, refl)
each R.Clock = (refl, refl)
each R.Method = (refl, refl)
each R.Field = (refl, refl)
each R.OwnError = (refl, refl)
each R.NoTicket = (refl, refl)
each R.Full = (refl, refl)
each R.Ticket = (refl, refl)

pub number_range : (r : Refusal) → (9 ≤ number_of r) × (number_of r ≤ 21)
number_range r = (leb-true 9 (number_of r) (each r).0, leb-true (number_of r) 21 (each r).1)

-- The first n numbers from 9 on are the numbers of the refusals that they give.
abbrev Back : ℕ → Type 0
Back zero = Unit
Back (suc n) = (number_of (refusal_of (9 + n)) ≡ 9 + n) × Back n

back_at : (n k : ℕ) → Back n → k < n → number_of (refusal_of (9 + k)) ≡ 9 + k
back_at zero k b h = absurd (omega arith)
back_at (suc n) k b h =
    ⊎_elim (λ (e : k ≡ n). rw e b.0) (λ (l : k < n). back_at n k b.1 l) (eq-or-lt_of_le (omega arith))

all_back : Back 13
unfolding refusal_of
all_back = (refl, (refl, (refl, (refl, (refl, (refl, (refl, (refl, (refl, (refl, (refl, (refl, (refl, tt)))))))))))))

pub refusal_number : (n : ℕ) → 9 ≤ n → n ≤ 21 → number_of (refusal_of n) ≡ n
refusal_number n h g =
    let e : 9 + (n - 9) ≡ n = omega arith in
    rw e at (back_at 13 (n - 9) all_back (omega arith))

-- ---- lengths

pub length_item : (a : Answer) → length (item_bytes a) ≡ 16
unfolding item_bytes
length_item a = length_flat (code_of a ∷ ticket_of a ∷ word_of (told_of a) ∷ amount_of a ∷ [])

pub length_items : (gs : List Answer) → length (items_bytes gs) ≡ 16 * length gs
unfolding items_bytes
length_items [] = refl
length_items (g ∷ gs) = omega (arith, length-append (item_bytes g) (items_bytes gs), length_item g, length_items gs)

length_front : (a : Answer) (gs : List Answer) → length (item_bytes a ++ items_bytes gs) ≡ 16 + 16 * length gs
length_front a gs = omega (arith, length-append (item_bytes a) (items_bytes gs), length_item a, length_items gs)

pub length_answer : (a : Answer) (gs : List Answer) → length gs ≤ 8 → length (answer_bytes a gs) ≡ 144
unfolding answer_bytes
length_answer a gs h =
    let unused : List ℕ = replicate (128 - 16 * length gs) 0 in
    let rest : length unused ≡ 128 - 16 * length gs = length-replicate {A = ℕ} (128 - 16 * length gs) 0 in
    rw (← append_assoc (item_bytes a) (items_bytes gs) unused)
    (omega (arith, length-append (item_bytes a ++ items_bytes gs) unused, length_front a gs))

-- ---- a grant more

pub items_append : (gs hs : List Answer) → items_bytes (gs ++ hs) ≡ items_bytes gs ++ items_bytes hs
unfolding items_bytes
items_append [] hs = refl
items_append (g ∷ gs) hs =
    ap (λ (r : List ℕ). item_bytes g ++ r) (items_append gs hs)
    ∙ sym (append_assoc (item_bytes g) (items_bytes gs) (items_bytes hs))

items_more : (gs : List Answer) (g : Answer) → items_bytes (gs ++ (g ∷ [])) ≡ items_bytes gs ++ item_bytes g
unfolding items_bytes
items_more gs g = items_append gs (g ∷ []) ∙ ap (λ (r : List ℕ). items_bytes gs ++ r) (append-nil (item_bytes g))

drop_zeros : (m n : ℕ) → drop {A = ℕ} m (replicate (m + n) 0) ≡ replicate n 0
drop_zeros m n =
    ap (drop {A = ℕ} m) (sym (replicate-append-replicate m n 0))
    ∙ drop_at (replicate m 0) (replicate n 0) m (length-replicate {A = ℕ} m 0)

-- Bytes put over the first of the zeros behind a front leave the other zeros.
over_zeros : (front vs : List ℕ) (i n : ℕ) → length front ≡ i →
    splice (front ++ replicate (length vs + n) 0) i vs ≡ front ++ (vs ++ replicate n 0)
over_zeros front vs i n h =
    let zs : List ℕ = replicate (length vs + n) 0 in
    let all : length zs ≡ length vs + n = length-replicate {A = ℕ} (length vs + n) 0 in
    let fits : i + length vs ≤ length (front ++ zs) = omega (arith, length-append front zs) in
    let behind : drop (length front + length vs) (front ++ zs) ≡ replicate n 0 = drop-append-add front zs (length vs) ∙ drop_zeros (length vs) n in
    rw (splice_eq (front ++ zs) i vs fits, take_at front zs i h, ← h, behind)

-- An item put into a buffer of zeros is an answer without grants.
pub alone : (a : Answer) → splice (replicate 144 0) 0 (item_bytes a) ≡ answer_bytes a []
unfolding items_bytes answer_bytes
alone a =
    let wide : length (item_bytes a) + 128 ≡ 144 = omega (arith, length_item a) in
    rw wide at (over_zeros [] (item_bytes a) 0 128 refl)

-- The next grant is put right behind the grants that are there.
pub one_more : (a : Answer) (gs : List Answer) (g : Answer) → length gs < 8 →
    splice (answer_bytes a gs) (16 + 16 * length gs) (item_bytes g) ≡ answer_bytes a (gs ++ (g ∷ []))
unfolding answer_bytes
one_more a gs g h =
    let front : List ℕ = item_bytes a ++ items_bytes gs in
    let left : ℕ = 128 - 16 * length (gs ++ (g ∷ [])) in
    let wide : 128 - 16 * length gs ≡ length (item_bytes g) + left = omega (arith, length-append gs (g ∷ []), length_item g) in
    let zs : List ℕ = replicate (length (item_bytes g) + left) 0 in
    let front_is : length front ≡ 16 + 16 * length gs = length_front a gs in
    rw (wide, items_more gs g, ← append_assoc (item_bytes a) (items_bytes gs) zs, over_zeros front (item_bytes g) (16 + 16 * length gs) left front_is)
    (simp append_assoc)

-- ---- an item says its code

pub code_most : (a : Answer) → code_of a ≤ 21
code_most (A.Granted t z m) = omega arith
code_most (A.Waits t) = omega arith
code_most (A.Released t) = omega arith
code_most A.Opened = omega arith
code_most (A.Refused r) = (number_range r).1

-- The code of an item is its first word.
pub item_code : (a : Answer) → word_at (item_bytes a) 0 ≡ code_of a
unfolding item_bytes flat
item_code a =
    word_le4 (code_of a) (flat (ticket_of a ∷ word_of (told_of a) ∷ amount_of a ∷ [])) (omega (arith, code_most a))
