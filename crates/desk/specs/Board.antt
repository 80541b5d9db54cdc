-- The board: a head of 64 bytes whose first eight say what disks are open, then a part of 768 bytes for each of 64 disks.
use Rattle.std.specs.Prelude.{ℕ, ◌+◌, ◌*◌, List, ◌++◌, take, drop}
use Rattle.part.specs.Layout.{part_bytes}

abbrev pub head_bytes : ℕ
head_bytes = 64

abbrev pub disks : ℕ
disks = 64

-- Where the part of a disk begins.
abbrev pub part_at : ℕ → ℕ
part_at d = head_bytes + part_bytes * d

abbrev pub board_bytes : ℕ
board_bytes = part_at disks

-- The part of a disk.
abbrev pub part_of : List ℕ → ℕ → List ℕ
part_of b d = take part_bytes (drop (part_at d) b)

-- The board with another part of a disk.
abbrev pub with_part : List ℕ → ℕ → List ℕ → List ℕ
with_part b d p = take (part_at d) b ++ (p ++ drop (part_at d + part_bytes) b)
