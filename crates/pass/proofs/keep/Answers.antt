-- A claim put where it stands changes nothing; elsewhere its slot is put, as the disk's is.
use Rattle.std.proofs.Common.{ℕ, List, ◌≡◌, arith, rules, set, take, drop}
use lib.Seq.{set-get_or}
use borrow.Rule.Slice.PartMut.{put_mid}
use Rattle.num.specs.Word.{Bytes}
use Rattle.law.specs.declared.Claim.{Claim}
use Rattle.rules.specs.Rows.{no_claim}
use Rattle.rules.specs.RowLaws.{store_row}
use Rattle.rules.specs.declared.disk.Disk.{Disk}
use Rattle.part.specs.Layout.{slots, decode}
use Rattle.part.specs.PartLaws.{disk_good}
use Rattle.part.specs.Held.{HoldsDisk}
use Rattle.slots.specs.Slots.{Slots}
use Rattle.change.specs.Holding.{Holds}
use Rattle.change.specs.HoldingLaws.{disk_holds, holds_disk, holds_decode, waiting_slots, waiting_lent, waiting_back}
use Rattle.pass.specs.Turns.{tried, kept_at}
use Rattle.pass.proofs.keep.Goals as goal

-- A claim put where it stands.
stays : (d : Disk) (i k : ℕ) → k ≡ i → d ≡ kept_at d i k
stays d i k e = rw (e, set-get_or d.waiting i no_claim)

-- The part that the slot put leaves.
moved : {s row : List ℕ} (i k : ℕ) {c : Claim} → HoldsDisk s → Bytes s → Slots row → c ≡ tried (decode s) i →
    slots 8 row ≡ set (slots 8 (take 352 (drop 416 s))) k c → Holds (put_mid 416 352 s row) (kept_at (decode s) i k)
moved i k h b back e put = rw (put, waiting_slots (disk_holds h b), e) at (waiting_back (disk_holds h b) back)

pub returns-then-k-i-clause-s_after : goal.returns-then-k-i-clause-s_after
returns-then-k-i-clause-s_after c = stays (decode c.args.s.now) c.args.i c.args.k c.if-k-i.true

pub put_slot-requires-clause-slots : goal.put_slot-requires-clause-slots
put_slot-requires-clause-slots c =
    let b : Bytes c.args.s.now = λ k. search rules in
    waiting_lent (disk_holds c.requires.holds_disk b)

pub returns-clause-holds_disk_2 : goal.returns-clause-holds_disk_2
returns-clause-holds_disk_2 c =
    let b : Bytes c.args.s.now = λ k. search rules in
    let good = disk_good c.requires.holds_disk in
    let put = c.put_slot.ensures in
    holds_disk (moved c.args.i c.args.k c.requires.holds_disk b put.slots_2 c.slot_at-c.ensures put.row_after)
    (record { active = good.active; waiting = store_row good.waiting c.args.k (tried (decode c.args.s.now) c.args.i) (omega arith) })

pub returns-clause-s_after : goal.returns-clause-s_after
returns-clause-s_after c =
    let b : Bytes c.args.s.now = λ k. search rules in
    let put = c.put_slot.ensures in
    holds_decode (moved c.args.i c.args.k c.requires.holds_disk b put.slots_2 c.slot_at-c.ensures put.row_after)
