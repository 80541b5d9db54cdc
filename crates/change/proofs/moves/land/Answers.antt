-- Each write to the head is one of its figures; a reading leaves all.
use Rattle.std.proofs.Common.{◌≡◌, ◌+ℤ◌, FitsSigned, w32, to_z-of_z, arith, rules}
use borrow.Author.Rules.{sfits_of}
use Rattle.std.proofs.lemmas.Int.{ints}
use Rattle.law.specs.Types.{a0, a1, a2}
use Rattle.part.specs.Layout.{decode}
use Rattle.change.specs.HoldingLaws.{disk_holds}
use Rattle.change.proofs.MoveLaws.{set_lands, add_lands, none_lands}
use Rattle.change.proofs.moves.land.Goals as goal

pub returns-then-share : goal.returns-then-share
returns-then-share c =
    set_lands (disk_holds c.requires.holds_disk c.fits-s) c.args.w a0 (cc) (search rules) (search rules) c.store.ensures

pub returns-then-share-2 : goal.returns-then-share-2
returns-then-share-2 c =
    set_lands (disk_holds c.requires.holds_disk c.fits-s) c.args.w a1 (cc) (search rules) (search rules) c.store-then-share-2.ensures

pub returns-then-share-3 : goal.returns-then-share-3
returns-then-share-3 c =
    set_lands (disk_holds c.requires.holds_disk c.fits-s) c.args.w a2 (cc) (search rules) (search rules) c.store-then-share-3.ensures

pub returns-then-share-4 : goal.returns-then-share-4
returns-then-share-4 c =
    let value : FitsSigned w32 c.args.w.value = search rules in
    let had : FitsSigned w32 c.figures_at.result.promised.value = search rules in
    let sum : c.narrow.result ≡ (decode c.args.s.now).promised.value +ℤ c.args.w.value = grind (arith, ints, to_z-of_z) in
    add_lands (disk_holds c.requires.holds_disk c.fits-s) c.args.w (cc) (sfits_of c.narrow.type_inv) sum c.put_signed.ensures

pub returns-else-share-4 : goal.returns-else-share-4
returns-else-share-4 c = none_lands (disk_holds c.requires.holds_disk c.fits-s) c.args.w (cc) (cc) (cc) (cc)
