-- The set bits of the open word are the open disks.
use Rattle.num.specs.OpenedLaws.{ones_open}
use Rattle.num.specs.Word.{Bytes}
use Rattle.num.proofs.opened.open_count.Goals as goal

pub returns-clause-value : goal.returns-clause-value
returns-clause-value c =
    let bytes : Bytes c.args.s.now = λ k. (c.type_inv.s k).fits in
    rw (c.open_word.ensures, ones_open c.args.s.now bytes)
