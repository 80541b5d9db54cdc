-- What holds of every board that calls from the empty one leave: its open parts are sound.
use Rattle.std.specs.Prelude.{ℕ, ◌<◌, true, List, ◌≡◌}
use Rattle.num.specs.Opened.{open_at}
use Rattle.law.specs.Base.{All}
use Rattle.desk.specs.Board.{disks, part_of}
use Rattle.promises.specs.Histories.{BoardCall, BytesIn, begun, lived}
use Rattle.promises.specs.Sentences.{SoundPart}
use Rattle.promises.proofs.RefusalLaws.{says_sound_part}
use Rattle.promises.proofs.LifeLaws.{open_sound}

-- Every open part is sound.
pub open_parts_sound : (ks : List BoardCall) → All BytesIn ks → (d : ℕ) → d < disks → open_at (lived begun ks).board d ≡ true →
    SoundPart (part_of (lived begun ks).board d)
open_parts_sound ks bs d h o = (says_sound_part (part_of (lived begun ks).board d)).0 (open_sound ks bs d h o)
