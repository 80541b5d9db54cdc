-- Laws of items in the answer buffer: what was put there is read back.
use Rattle.std.specs.Prelude.{ℕ, zero, suc, ◌+◌, ◌*◌, ◌-◌, ◌^◌, ◌≤◌, ◌<◌, ◌≡◌, get_or}
use mathlib.Core.List.{List, [], ◌∷◌, ◌++◌, append_assoc}
use Rattle.std.proofs.Math.Path.{refl}
use Rattle.std.proofs.Common.{sym, ap, ◌∙◌, arith, length-append, get_or-append-add}
use borrow.Author.Tests.{eq-eqb, le-leb}
use Rattle.std.proofs.Math.ListN.{length, replicate}
use Rattle.std.specs.Int.Signed.{mag}
use Rattle.num.specs.Word.{word_at}
use Rattle.num.specs.Signed.{signed_of, word_of, signed_at, signed_word, word_fits}
use Rattle.num.specs.Runs.{le4, flat}
use Rattle.answer.specs.declared.Answer.{Answer}
use Rattle.answer.specs.declared.Shown.{Shown}
use Rattle.answer.specs.Answers.{code_of, ticket_of, told_of, amount_of, answer_size, item_bytes, items_bytes, answer_bytes, shown_of, shown_at}
use Rattle.answer.specs.AnswerLaws.{code_most, length_item, length_answer}

-- The figures of an answer fit an item of 16 bytes.
pub record ItemFits (x : Answer) : Type 0 where
  pub ticket : ticket_of x < 2 ^ 32
  pub told : mag (told_of x) < 2 ^ 31
  pub amount : amount_of x < 2 ^ 32

-- The words behind a run of bytes.
pub word_behind : (xs ys : List ℕ) (n j : ℕ) → length xs ≡ n → word_at (xs ++ ys) (n + j) ≡ word_at ys j
unfolding word_at
word_behind xs ys n j h =
    let first : get_or (xs ++ ys) (n + j) 0 ≡ get_or ys j 0 = ap (λ m. get_or (xs ++ ys) (m + j) 0) (sym h) ∙ get_or-append-add xs ys j 0 in
    rw (first, byte 1, byte 2, byte 3)
  where
    byte : (i : ℕ) → get_or (xs ++ ys) (n + j + i) 0 ≡ get_or ys (j + i) 0
    byte i =
        let e : n + j + i ≡ length xs + (j + i) = omega arith in
        ap (λ m. get_or (xs ++ ys) m 0) e ∙ get_or-append-add xs ys (j + i) 0

four_words : (c t w m : ℕ) (rest : List ℕ) → c < 2 ^ 32 → t < 2 ^ 32 → w < 2 ^ 32 → m < 2 ^ 32 →
    (word_at (flat (c ∷ t ∷ w ∷ m ∷ []) ++ rest) 0 ≡ c)
    × (word_at (flat (c ∷ t ∷ w ∷ m ∷ []) ++ rest) 4 ≡ t)
    × (word_at (flat (c ∷ t ∷ w ∷ m ∷ []) ++ rest) 8 ≡ w)
    × (word_at (flat (c ∷ t ∷ w ∷ m ∷ []) ++ rest) 12 ≡ m)
unfolding flat le4 word_at
four_words c t w m rest hc ht hw hm = (omega arith, omega arith, omega arith, omega arith)

-- An answer's item stands behind k others.
module _ (k : ℕ) (front : List ℕ) (h : length front ≡ 16 * k) (x : Answer) (rest : List ℕ) (f : ItemFits x) where
  abbrev whole : List ℕ
  whole = front ++ (item_bytes x ++ rest)

  item_words :
      (word_at (item_bytes x ++ rest) 0 ≡ code_of x)
      × (word_at (item_bytes x ++ rest) 4 ≡ ticket_of x)
      × (word_at (item_bytes x ++ rest) 8 ≡ word_of (told_of x))
      × (word_at (item_bytes x ++ rest) 12 ≡ amount_of x)
  unfolding item_bytes
  item_words =
      four_words (code_of x) (ticket_of x) (word_of (told_of x)) (amount_of x) rest
      (omega (arith, code_most x)) f.ticket (word_fits (told_of x) f.told) f.amount

  pub code_there : word_at whole (16 * k) ≡ code_of x
  code_there =
      let e : 16 * k ≡ 16 * k + 0 = omega arith in
      ap (word_at whole) e ∙ (word_behind front (item_bytes x ++ rest) (16 * k) 0 h ∙ item_words.0)

  pub ticket_there : word_at whole (16 * k + 4) ≡ ticket_of x
  ticket_there = word_behind front (item_bytes x ++ rest) (16 * k) 4 h ∙ item_words.1

  pub told_there : signed_at whole (16 * k + 8) ≡ told_of x
  told_there =
      ap signed_of (word_behind front (item_bytes x ++ rest) (16 * k) 8 h ∙ item_words.2) ∙ signed_word (told_of x) f.told

  pub amount_there : word_at whole (16 * k + 12) ≡ amount_of x
  amount_there = word_behind front (item_bytes x ++ rest) (16 * k) 12 h ∙ item_words.3

  -- All four.
  pub item_there : shown_of x ≡ record { code = word_at whole (16 * k); ticket = word_at whole (16 * k + 4); told = signed_at whole (16 * k + 8); amount = word_at whole (16 * k + 12) }
  item_there = rw (code_there, ticket_there, told_there, amount_there)

-- ---- the whole buffer

-- The figures of item k of these bytes.
abbrev words_at : List ℕ → ℕ → Shown
words_at s k = record { code = word_at s (16 * k); ticket = word_at s (16 * k + 4); told = signed_at s (16 * k + 8); amount = word_at s (16 * k + 12) }

-- Of items that stand behind k others.
items_there : (gs : List Answer) (k : ℕ) (front rest : List ℕ) → length front ≡ 16 * k → (none : Answer) →
    ((i : ℕ) → i < length gs → ItemFits (get_or gs i none)) → (j : ℕ) → j < length gs →
    words_at (front ++ (items_bytes gs ++ rest)) (k + j) ≡ shown_of (get_or gs j none)
unfolding items_bytes
items_there [] k front rest h none fs j l = absurd (omega arith)
items_there (g ∷ gs) k front rest h none fs zero l =
    ap (λ (s : List ℕ). words_at (front ++ s) (k + 0)) (append_assoc (item_bytes g) (items_bytes gs) rest)
    ∙ ap (words_at (front ++ (item_bytes g ++ (items_bytes gs ++ rest)))) zero_more
    ∙ sym (item_there k front h g (items_bytes gs ++ rest) (fs 0 (omega arith)))
  where
    zero_more : k + 0 ≡ k
    zero_more = omega arith
items_there (g ∷ gs) k front rest h none fs (suc j) l =
    ap (λ (s : List ℕ). words_at (front ++ s) (k + suc j)) (append_assoc (item_bytes g) (items_bytes gs) rest)
    ∙ ap (λ (s : List ℕ). words_at s (k + suc j)) (sym (append_assoc front (item_bytes g) (items_bytes gs ++ rest)))
    ∙ ap (words_at ((front ++ item_bytes g) ++ (items_bytes gs ++ rest))) one_more
    ∙ items_there gs (k + 1) (front ++ item_bytes g) rest (omega (arith, length-append front (item_bytes g), length_item g, h)) none (λ i m. fs (suc i) (omega arith)) j (omega arith)
  where
    one_more : k + suc j ≡ k + 1 + j
    one_more = omega arith

-- Item 0 shows the call's own answer, and item 1 + j its grant j.
module _ (own : Answer) (grants : List Answer) (few : length grants ≤ 8) where
  pub shown_own : ItemFits own → shown_at (answer_bytes own grants) 0 ≡ shown_of own
  unfolding shown_at answer_bytes
  shown_own f =
      rw (eq-eqb (length (answer_bytes own grants)) answer_size (length_answer own grants few))
      (sym (item_there 0 [] refl own (items_bytes grants ++ replicate (128 - 16 * length grants) 0) f))

  pub shown_grant : ((i : ℕ) → i < length grants → ItemFits (get_or grants i own)) → (j : ℕ) → j < length grants → shown_at (answer_bytes own grants) (1 + j) ≡ shown_of (get_or grants j own)
  unfolding shown_at answer_bytes
  shown_grant fs j l =
      rw (eq-eqb (length (answer_bytes own grants)) answer_size (length_answer own grants few), le-leb (1 + j) 8 (omega arith))
      (items_there grants 1 (item_bytes own) (replicate (128 - 16 * length grants) 0) (length_item own) own fs j l)
