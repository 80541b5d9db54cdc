-- A part and the disk of the law that it holds.
use Rattle.std.specs.Prelude.{ℕ, Bool, true, ◌&&◌, List, ◌≡◌, length}
use Rattle.law.specs.Types.{Disk as LawDisk}
use Rattle.law.specs.Sound.{sound, Sound}
use Rattle.law.specs.DiskType.{disk_table}
use Rattle.rules.specs.Disks.{disk_of, by_value}
use Rattle.part.specs.Layout.{part_bytes, decode, encode, decodes}

-- The disk that a part holds.
abbrev pub held : List ℕ → LawDisk
held p = disk_of (decode p)

-- The part that holds a disk.
unfoldable pub part_for : LawDisk → List ℕ
part_for d = encode (by_value d)

-- A part is sound: it decodes, and the disk that it holds is sound.
unfoldable pub sound_part : List ℕ → Bool
sound_part p = decodes p && sound disk_table (held p)

-- A lent part that holds a disk: it has a part's length, and it decodes.
pub record HoldsDisk (s : List ℕ) : Type 0 where
  pub long : length s ≡ part_bytes
  pub whole : decodes s ≡ true

-- A lent part that holds a sound disk.
pub record HoldsSound (s : List ℕ) : Type 0 where
  pub disk : HoldsDisk s
  pub sound : Sound disk_table (held s)
