-- The open word: eight bytes, one bit for each disk, set if the disk is open. Disk d is bit d mod 8 of byte d div 8.
use Rattle.std.specs.Prelude.{ℕ, ◌+◌, ◌*◌, ◌/◌, ◌%◌, ◌^◌, Bool, List, get_or, set}
use Rattle.std.specs.Int.Bits.{bit_or}
use Rattle.num.specs.Bits.{has_bit}
use Rattle.num.specs.Count.{count_to}
use Rattle.num.specs.Word.{word_at}

-- Whether a disk is open.
unfoldable pub open_at : List ℕ → ℕ → Bool
open_at s d = has_bit (get_or s (d / 8) 0) (d % 8)

-- The bytes with the disk's bit set.
unfoldable pub set_open : List ℕ → ℕ → List ℕ
set_open s d = set s (d / 8) (bit_or (get_or s (d / 8) 0) (2 ^ (d % 8)))

-- How many of the 64 disks are open.
unfoldable pub open_count : List ℕ → ℕ
open_count s = count_to (open_at s) 64

-- The eight bytes as one number, lowest byte first.
unfoldable pub open_word : List ℕ → ℕ
open_word s = word_at s 0 + word_at s 4 * 4294967296
