-- Each word keeps the length, so all four are within; one behind the other they are the item's run.
use Rattle.std.proofs.Common.{ℕ, ◌+◌, List, [], ◌∷◌, ◌++◌, ◌≡◌, refl, rules}
use mir.Facts.{to_z-of_z}
use mir.Syntax.{w32}
use mir.Val.{SFits}
use Rattle.num.specs.Word.{put_word}
use Rattle.num.specs.Runs.{le4, flat, splice}
use Rattle.num.specs.RunLaws.{put_splice, splice_splice}
use Rattle.num.specs.Signed.{word_of}
use Rattle.answer.proofs.put_item.Goals as goal

-- Four words, one right behind the other, are one run.
four_words : (l : List ℕ) (at x y z w : ℕ) →
    put_word (put_word (put_word (put_word l at x) (at + 4) y) (at + 8) z) (at + 12) w
    ≡ splice l at (flat (x ∷ y ∷ z ∷ w ∷ []))
unfolding le4 flat
four_words l at x y z w =
    simp put_splice (rw (
      splice_splice l at (at + 4) (le4 x) (le4 y) refl,
      splice_splice l at (at + 8) (le4 x ++ le4 y) (le4 z) refl,
      splice_splice l at (at + 12) (le4 x ++ le4 y ++ le4 z) (le4 w) refl,
    ))

pub returns : goal.returns
returns c =
    let told : SFits w32 c.args.item.told = search rules in
    rw (
      c.put_word-4.ensures,
      c.put_word-3.ensures,
      c.put_word-2.ensures,
      c.put_word.ensures,
      c.to_word.ensures,
      to_z-of_z told,
    ) (four_words c.args.out.now c.args.at c.args.item.code c.args.item.ticket (word_of c.args.item.told) c.args.item.amount)
