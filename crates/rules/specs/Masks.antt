-- The masks of what a method sets, adds to and reads, and what they say of another method. (TotalsLaws: what the table says.)
use Rattle.std.specs.Prelude.{ℕ, ◌+◌, ◌*◌}
use Rattle.std.specs.Int.Bits.{bit_and, bit_or}
use Rattle.law.specs.Types.{a2}
use Rattle.rules.specs.declared.method.Masks.{Masks}
use Rattle.rules.specs.Methods.{mask_of, set_mask, add_mask, read_mask}

-- Three masks in one number: what is set in bits 0 to 2, what is added to in bits 3 to 5, what is read in bits 6 to 8.
abbrev pub word_of : ℕ → ℕ → ℕ → ℕ
word_of s a r = s + 8 * a + 64 * r

-- The masks of a method that sets s, adds to a and reads r. A claim has an entry other than A with it if it sets what the method
-- touches, adds to what the method sets or reads, or reads what the method writes. It has entry N if of the two one adds to what the
-- other sets; or if both touch the state, and one sets it.
unfoldable pub masks_by : ℕ → ℕ → ℕ → Masks
masks_by s a r =
    record {
      sets = s;
      adds = a;
      reads = r;
      does = word_of s a r;
      say = word_of (bit_or (bit_or s a) r) (bit_or s r) (bit_or s a);
      out = word_of (bit_or a (bit_and (mask_of a2) (bit_or s r))) s (bit_and (mask_of a2) s);
    }

unfoldable pub masks_of : ℕ → Masks
masks_of m = masks_by (set_mask m) (add_mask m) (read_mask m)
