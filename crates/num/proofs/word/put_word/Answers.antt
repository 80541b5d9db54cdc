-- The four bytes copied over the part are those that the definition puts one by one.
use Rattle.std.proofs.Common.{ℕ, ◌+◌, ◌/◌, ◌≤◌, List, ◌≡◌, length, ◌∙◌, arith, drop-drop}
use Rattle.std.specs.Int.{w32, to_le_bytes}
use borrow.Rule.Slice.PartMut.{put_mid}
use Rattle.num.specs.Word.{put_word}
use Rattle.num.specs.Runs.{le4}
use Rattle.num.specs.RunLaws.{put_splice, splice_eq, length_le4}
use Rattle.num.proofs.word.put_word.Goals as goal

-- std's bytes of a number are those that repeated division gives.
std_bytes : (x : ℕ) → to_le_bytes w32 x ≡ le4 x
unfolding le4
std_bytes x =
    let second : x / 256 / 256 ≡ x / 65536 = omega arith in
    let third : x / 65536 / 256 ≡ x / 16777216 = omega arith in
    rw (second, third)

-- A part of four that is overwritten with the bytes of a word is the word put there.
put_over :
    (s : List ℕ) (at n x : ℕ) (part : List ℕ) → at + 4 ≤ length s → n ≡ 4 → part ≡ le4 x → put_mid at n s part ≡ put_word s at x
put_over s at n x part within four bytes =
    let fits : at + length (le4 x) ≤ length s = omega (arith, length_le4 x) in
    rw (bytes, four, drop-drop 4 at s, put_splice s at x, splice_eq s at (le4 x) fits, length_le4 x)

pub returns : goal.returns
returns c =
    let bytes = c.copy_from_slice.ensures.after ∙ c.to_le_bytes.ensures ∙ std_bytes c.args.x in
    put_over _ _ _ _ _ c.requires (omega arith) bytes
