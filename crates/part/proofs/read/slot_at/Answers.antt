-- The slot at its place behind those before it, of the active claims as of those that wait.
use Rattle.std.proofs.Common.{ℕ, ◌+◌, ◌*◌, ◌<◌, List, ◌≡◌, take, drop, get_or, sym, arith}
use Rattle.rules.specs.Rows.{no_claim}
use Rattle.part.specs.declared.status.Status.{Status}
use Rattle.part.specs.declared.status.Status.TheVariants.{Active, Waiting}
use Rattle.part.specs.Layout.{claim_in, decode}
use Rattle.part.specs.SlotLaws.{slot_behind}
use Rattle.part.specs.Status.{slots_of, places_in}
use Rattle.part.proofs.read.slot_at.Goals as goal

slot_of : (status : Status) (s : List ℕ) (i : ℕ) → i < 8 →
    claim_in (take 44 (drop (slots_of status + 44 * i) s)) ≡ get_or (places_in status (decode s)) i no_claim
unfolding decode
slot_of Active s i h = sym (slot_behind 64 s i h)
slot_of Waiting s i h = sym (slot_behind 416 s i h)

pub returns : goal.returns
returns c = grind (arith, slot_of)
