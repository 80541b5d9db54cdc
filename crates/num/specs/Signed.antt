-- Signed words: a figure in four bytes, in two's complement, with its laws.
use Rattle.std.specs.Prelude.{ℕ, ◌^◌, ◌<◌, List, ◌≡◌, ℤ}
use Rattle.std.specs.Int.Signed.{mag}
use Rattle.std.specs.Int.{w32}
use Rattle.std.proofs.Common.{to_z, of_z}
use mir.ValLaws.{to_z-of_z, of_z-to_z, to_z-Fits, of_z_fits}
use Rattle.num.specs.Word.{word_at, put_word}

-- The figure that a word stands for.
unfoldable pub signed_of : ℕ → ℤ
signed_of x = to_z w32 x

-- The word that stands for a figure.
unfoldable pub word_of : ℤ → ℕ
word_of z = of_z w32 z

-- The figure at an index of a list of bytes.
abbrev pub signed_at : List ℕ → ℕ → ℤ
signed_at s at = signed_of (word_at s at)

-- The list with the figure z at an index.
abbrev pub put_signed : List ℕ → ℕ → ℤ → List ℕ
put_signed s at z = put_word s at (word_of z)

-- A figure from −2147483648 to 2147483647 is read back from its word.
pub signed_word : (z : ℤ) → mag z < 2 ^ 31 → signed_of (word_of z) ≡ z
unfolding signed_of word_of
signed_word z h = to_z-of_z w32 z (record { sfits = h })

pub word_signed : (x : ℕ) → x < 2 ^ 32 → word_of (signed_of x) ≡ x
unfolding signed_of word_of
word_signed x h = of_z-to_z w32 x (record { fits = h })

pub word_fits : (z : ℤ) → mag z < 2 ^ 31 → word_of z < 2 ^ 32
unfolding word_of
word_fits z h = (of_z_fits w32 z (record { sfits = h })).fits

pub signed_fits : (x : ℕ) → x < 2 ^ 32 → mag (signed_of x) < 2 ^ 31
unfolding signed_of
signed_fits x h = (to_z-Fits w32 x (record { fits = h })).sfits
