-- Laws of lines: texts put one behind the other, how long a line can be, and that the lines are those of the answer and its grants.
use Prim.Native.Nat.{ℕ, zero, suc, ◌+◌, ◌-◌, ◌*◌, ◌^◌, ◌≤◌, ◌<◌}
use Rattle.std.specs.Prelude.{true, false, List, [], ◌∷◌, ◌++◌, ◌≡◌, ltb, ℤ, pos, negsuc, get_or, replicate}
use Rattle.std.proofs.Common.{append_assoc, ⊎_elim, sym, ap, ◌∙◌, eq-zero-or-pos}
use Rattle.std.proofs.Math.Path.{refl}
use native.Mathlib.Omega.{arith}
use borrow.Author.Tests.{lt-ltb, le-ltb, ne_eqb}
use Rattle.std.proofs.Math.ListN.{length, length-append}
use Rattle.std.specs.Int.Signed.{nat_abs-le}
use Rattle.num.specs.Word.{Bytes, word_at}
use Rattle.num.specs.WordLaws.{word_at_fits}
use Rattle.num.specs.Signed.{signed_at, signed_fits}
use Rattle.num.specs.Metric.{size}
use Rattle.num.specs.Runs.{splice}
use Rattle.num.specs.RunLaws.{length_splice, splice_splice}
use Rattle.law.specs.Base.{All}
use Rattle.law.specs.Lists.{never_true, get_d_filled}
use Rattle.law.specs.Says.{by_test}
use Rattle.answer.specs.declared.Answer.{Answer}
use Rattle.answer.specs.Answers.{ticket_of, item_bytes, items_bytes, answer_bytes}
use Rattle.answer.specs.AnswerLaws.{length_item}
use Rattle.answer.specs.ItemLaws.{ItemFits, word_behind, code_there, ticket_there, told_there, amount_there}
use Rattle.stopblocker.specs.Text.{decimal, signed_text}
use Rattle.stopblocker.specs.TextLaws.{length_decimal, places_most, places_bound}
use Rattle.stopblocker.specs.Lines.{next, figures, item_text, line_of, is_grant, grant_lines, lines_of, answer_line, plus_lines}

-- ---- one text behind another

-- `text` was put into l at `at`: `to` is the place behind it, `out` the bytes after it.
abbrev pub IsPut : List ℕ → ℕ → List ℕ → ℕ → List ℕ → Type 0
IsPut l at text to out = (to ≡ at + length text) × (out ≡ splice l at text)

-- Putting a text keeps the length.
pub put_size : (l : List ℕ) (at : ℕ) (text : List ℕ) {to : ℕ} {out : List ℕ} → IsPut l at text to out → length out ≡ length l
put_size l at text h = ap length h.1 ∙ length_splice l at text

-- Two texts, the second put where the first ends, are one text.
pub behind : (l : List ℕ) (at : ℕ) (x y : List ℕ) {m to : ℕ} {o out : List ℕ} → IsPut l at x m o → IsPut o m y to out →
    IsPut l at (x ++ y) to out
behind l at x y {m} h k = (
  omega (arith, h.0, k.0, length-append x y),
  k.1 ∙ (ap (λ o. splice o m y) h.1 ∙ splice_splice l at m x y (sym h.0)),
)

-- ---- how long texts are

module _ (code ticket : ℕ) (told : ℤ) (amount : ℕ) where
  abbrev last : List ℕ
  last = next amount ++ (10 ∷ [])

  pub length_figures :
      length (figures code ticket told amount)
      ≡ length (next code) + (length (next ticket) + (length (32 ∷ signed_text told) + length (next amount ++ (10 ∷ []))))
  unfolding figures
  length_figures =
      omega (
        arith,
        length-append (next code) (next ticket ++ ((32 ∷ signed_text told) ++ last)),
        length-append (next ticket) ((32 ∷ signed_text told) ++ last),
        length-append (32 ∷ signed_text told) last,
      )

pub length_line : (number disk : ℕ) (a : List ℕ) (k : ℕ) →
    length (line_of number disk a k) ≡ length (decimal number) + (length (next disk) + length (item_text a k))
unfolding line_of
length_line number disk a k =
    omega (arith, length-append (decimal number) (next disk ++ item_text a k), length-append (next disk) (item_text a k))

-- ---- the lines of grants

pub grant_most : (a : List ℕ) (k : ℕ) → is_grant a k ≡ true → k ≤ 8
unfolding is_grant
grant_most a k h =
    ⊎_elim (λ (e : k - 8 ≡ 0). omega arith)
    (λ (l : 0 < k - 8). never_true (k ≤ 8) (rw (lt-ltb 8 k (omega arith)) at h))
    (eq-zero-or-pos (k - 8))

module _ (number disk : ℕ) (a : List ℕ) where
  pub grants_none : (most k : ℕ) → is_grant a k ≡ false → grant_lines most number disk a k ≡ []
  unfolding grant_lines
  grants_none zero k h = refl
  grants_none (suc most) k h = rw h

  grants_next : (most k : ℕ) → is_grant a k ≡ true →
      grant_lines (suc most) number disk a k ≡ (43 ∷ line_of number disk a k) ++ grant_lines most number disk a (k + 1)
  unfolding grant_lines
  grants_next most k h = rw h

  pub grants_more : (k : ℕ) → is_grant a k ≡ true →
      grant_lines (9 - k) number disk a k ≡ (43 ∷ line_of number disk a k) ++ grant_lines (9 - (k + 1)) number disk a (k + 1)
  unfolding grant_lines
  grants_more k h =
      let l = grant_most a k h in
      let e : 9 - k ≡ suc (9 - (k + 1)) = omega arith in
      rw (e, h)

-- ---- a line has at most 72 bytes, and nine lines 648

next_most : (k n : ℕ) → n < 10 ^ suc k → length (next n) ≤ k + 2
next_most k n h = omega (arith, length_decimal n, places_most k n h)

-- A word has at most ten digits.
word_most : (a : List ℕ) (i : ℕ) → Bytes a → length (next (word_at a i)) ≤ 11
word_most a i b = next_most 9 (word_at a i) (omega (arith, word_at_fits a i b))

signed_most : (z : ℤ) → size z ≤ 2_147_483_648 → length (signed_text z) ≤ 11
unfolding signed_text
signed_most (pos n) h = omega (arith, length_decimal n, places_most 9 n (omega arith))
signed_most (negsuc n) h = omega (arith, length_decimal (suc n), places_most 9 (suc n) (omega arith))

told_most : (a : List ℕ) (i : ℕ) → Bytes a → length (signed_text (signed_at a i)) ≤ 11
told_most a i b =
    signed_most (signed_at a i) (nat_abs-le (signed_at a i) (signed_fits (word_at a i) (word_at_fits a i b)))

line_most : (number disk : ℕ) (a : List ℕ) (k : ℕ) → disk < 256 → Bytes a → length (line_of number disk a k) ≤ 71
line_most number disk a k h b =
    omega (
      arith,
      length_line number disk a k,
      length_decimal number,
      places_bound number,
      next_most 2 disk (omega arith),
      length_figures (word_at a (16 * k)) (word_at a (16 * k + 4)) (signed_at a (16 * k + 8)) (word_at a (16 * k + 12)),
      word_most a (16 * k) b,
      word_most a (16 * k + 4) b,
      told_most a (16 * k + 8) b,
      word_most a (16 * k + 12) b,
      length-append (next (word_at a (16 * k + 12))) (10 ∷ []),
    )

pub length_lines : (number disk : ℕ) (a : List ℕ) →
    length (lines_of number disk a) ≡ length (line_of number disk a 0) + length (grant_lines 8 number disk a 1)
unfolding lines_of
length_lines number disk a = length-append (line_of number disk a 0) (grant_lines 8 number disk a 1)

module _ (number disk : ℕ) (a : List ℕ) (h : disk < 256) (b : Bytes a) where
  grants_most : (most k : ℕ) → length (grant_lines most number disk a k) ≤ 72 * most
  unfolding grant_lines
  grants_most zero k = omega arith
  grants_most (suc most) k =
      by_test (λ l. length l ≤ 72 * suc most) (is_grant a k)
      {x = (43 ∷ line_of number disk a k) ++ grant_lines most number disk a (k + 1)} {y = []}
      (λ e.
      omega (
        arith,
        length-append (43 ∷ line_of number disk a k) (grant_lines most number disk a (k + 1)),
        line_most number disk a k h b,
        grants_most most (k + 1),
      ))
      (λ e. omega arith)

  pub lines_most : length (lines_of number disk a) ≤ 648
  lines_most = omega (arith, length_lines number disk a, line_most number disk a 0 h b, grants_most 8 1)

-- ---- the lines are those of the answer and its grants

-- A grant's ticket is 1 or more.
abbrev pub GrantFits : Answer → Type 0
GrantFits x = ItemFits x × (1 ≤ ticket_of x)

-- A word of zeros is 0, also past their end.
word_zeros : (n j : ℕ) → word_at (replicate n 0) j ≡ 0
unfolding word_at
word_zeros n j = rw (byte j, byte (j + 1), byte (j + 2), byte (j + 3))
  where
    byte : (i : ℕ) → get_or {A = ℕ} (replicate n 0) i 0 ≡ 0
    byte i = get_d_filled n i 0

-- An answer's item stands behind k others.
module _ (k : ℕ) (front : List ℕ) (h : length front ≡ 16 * k) (x : Answer) (rest : List ℕ) (f : ItemFits x) where
  abbrev whole : List ℕ
  whole = front ++ (item_bytes x ++ rest)

  line_shown : (number disk : ℕ) → line_of number disk whole k ≡ answer_line number disk x
  unfolding line_of answer_line
  line_shown number disk = rw (code_there k front h x rest f, ticket_there k front h x rest f, told_there k front h x rest f, amount_there k front h x rest f)

  grant_shown : k ≤ 8 → 1 ≤ ticket_of x → is_grant whole k ≡ true
  unfolding is_grant
  grant_shown l t = rw (le-ltb 8 k l, ticket_there k front h x rest f, ne_eqb (ticket_of x) 0 (λ e. omega arith))

-- Behind the last grant the buffer is zero: no line.
none_shown : (k : ℕ) (front : List ℕ) → length front ≡ 16 * k → (n : ℕ) → is_grant (front ++ replicate n 0) k ≡ false
unfolding is_grant
none_shown k front h n =
    rw (word_behind front (replicate n 0) (16 * k) 4 h, word_zeros n 4) (by_test (λ t. t ≡ false) (ltb 8 k) (λ e. refl) (λ e. refl))

grants_shown : (number disk : ℕ) (gs : List Answer) (most k : ℕ) (front : List ℕ) (n : ℕ) → length front ≡ 16 * k → length gs ≤ most →
    k + most ≤ 9 → All GrantFits gs →
    grant_lines most number disk (front ++ (items_bytes gs ++ replicate n 0)) k ≡ plus_lines number disk gs
unfolding items_bytes plus_lines
grants_shown number disk [] most k front n h l m fs = grants_none number disk (front ++ replicate n 0) most k (none_shown k front h n)
grants_shown number disk (g ∷ gs) zero k front n h l m fs = absurd (omega arith)
grants_shown number disk (g ∷ gs) (suc most) k front n h l m fs =
    let rest : List ℕ = items_bytes gs ++ replicate n 0 in
    let all : List ℕ = front ++ (item_bytes g ++ rest) in
    let more : grant_lines most number disk all (k + 1) ≡ plus_lines number disk gs =
    ap (λ (s : List ℕ). grant_lines most number disk s (k + 1)) (sym (append_assoc front (item_bytes g) rest))
    ∙ grants_shown number disk gs most (k + 1) (front ++ item_bytes g) n
    (omega (arith, length-append front (item_bytes g), length_item g)) (omega arith) (omega arith) fs.1 in
    ap (λ (s : List ℕ). grant_lines (suc most) number disk (front ++ s) k) (append_assoc (item_bytes g) (items_bytes gs) (replicate n 0))
    ∙ (grants_next number disk all most k (grant_shown k front h g rest fs.0.0 (omega arith) fs.0.1)
    ∙ rw (line_shown k front h g rest fs.0.0 number disk, more))

-- The lines of an answer and at most 8 grants: the answer's line, then one line for each grant, in order, with its figures.
pub lines_shown : (number disk : ℕ) (own : Answer) (grants : List Answer) → ItemFits own → length grants ≤ 8 → All GrantFits grants →
    lines_of number disk (answer_bytes own grants) ≡ answer_line number disk own ++ plus_lines number disk grants
unfolding lines_of answer_bytes
lines_shown number disk own grants f l fs =
    rw (
      line_shown 0 [] refl own (items_bytes grants ++ replicate (128 - 16 * length grants) 0) f number disk,
      grants_shown number disk grants 8 1 (item_bytes own) (128 - 16 * length grants) (length_item own) l (omega arith) fs,
    )
