-- The items of an answer buffer as they are read, and what the loop over the grants keeps.
use Rattle.std.proofs.Common.{ℕ, ◌+◌, ◌-◌, ◌*◌, ◌≤◌, ◌<◌, true, false, List, [], ◌∷◌, ◌++◌, ◌≡◌, sym, ap, ◌∙◌, not, eqb, length}
use Rattle.std.proofs.Common.{arith, append_assoc, append-nil, eq-eqb, ne_eqb, le-leb, le-ltb}
use Rattle.answer.specs.declared.Shown.{Shown}
use Rattle.answer.specs.Answers.{shown_at}
use Rattle.stopblocker.specs.Text.{decimal}
use Rattle.stopblocker.specs.Lines.{next, figures, line_of, is_grant, grant_lines, lines_of}
use Rattle.stopblocker.specs.LineLaws.{grants_none, grants_more}

module _ (start : List ℕ) (number disk : ℕ) (a : List ℕ) where
  -- The line of an item that was read.
  abbrev line : Shown → List ℕ
  line s = decimal number ++ (next disk ++ figures s.code s.ticket s.told s.amount)

  abbrev rest : ℕ → List ℕ
  rest k = grant_lines (9 - k) number disk a k

  -- The text so far, and behind it the lines of the grants from item k on, is all that is to be there.
  pub record Going (text : List ℕ) (k : ℕ) : Type 0 where
    pub whole : text ++ rest k ≡ start ++ lines_of number disk a
    pub room : length text ≤ length start + 72 * k

  module _ (size : length a ≡ 144) where
    line_read : (k : ℕ) → k ≤ 8 → line (shown_at a k) ≡ line_of number disk a k
    unfolding shown_at line_of
    line_read k h = rw (eq-eqb (length a) 144 size, le-leb k 8 h)

    grant_read : (k : ℕ) → k ≤ 8 → is_grant a k ≡ not (eqb (shown_at a k).ticket 0)
    unfolding shown_at is_grant
    grant_read k h = rw (eq-eqb (length a) 144 size, le-leb k 8 h, le-ltb 8 k h)

    pub begun : (text : List ℕ) → text ≡ start ++ line (shown_at a 0) → length text ≤ length start + 72 → Going text 1
    unfolding lines_of
    begun text e l =
        record {
          whole =
              ap (λ x. x ++ rest 1) (e ∙ ap (λ x. start ++ x) (line_read 0 (omega arith)))
              ∙ append_assoc start (line_of number disk a 0) (rest 1);
          room = omega arith;
        }

    pub again : (text : List ℕ) (k : ℕ) → Going text k → k ≤ 8 → 0 < (shown_at a k).ticket → (text' : List ℕ) →
        text' ≡ (text ++ (43 ∷ [])) ++ line (shown_at a k) → length text' ≤ length text + 72 → Going text' (k + 1)
    again text k g h t text' e l =
        let is : is_grant a k ≡ true = grant_read k h ∙ ap not (ne_eqb (shown_at a k).ticket 0 (omega arith)) in
        record {
          whole =
              ap (λ x. x ++ rest (k + 1)) (e ∙ ap (λ x. (text ++ (43 ∷ [])) ++ x) (line_read k h))
              ∙ (simp append_assoc (ap (λ x. text ++ x) (sym (grants_more number disk a k is))) ∙ g.whole);
          room = omega (arith, g.room);
        }

    pub no_more : (text : List ℕ) (k : ℕ) → Going text k → k ≤ 8 → (shown_at a k).ticket ≡ 0 →
        text ≡ start ++ lines_of number disk a
    no_more text k g h t =
        let is : is_grant a k ≡ false = grant_read k h ∙ ap not (eq-eqb (shown_at a k).ticket 0 t) in
        sym (append-nil text) ∙ (ap (λ x. text ++ x) (sym (grants_none number disk a (9 - k) k is)) ∙ g.whole)

  pub last : (text : List ℕ) → Going text 9 → text ≡ start ++ lines_of number disk a
  unfolding grant_lines
  last text g = sym (append-nil text) ∙ g.whole
