-- The first bit of the method's mask tells the attribute.
use Rattle.rules.specs.Methods.{in_law}
use Rattle.rules.proofs.MethodLaws.{written_of}
use Rattle.rules.proofs.figures.Figures.written.Goals as goal

pub returns-then-bit : goal.returns-then-bit
returns-then-bit c =
    let f = in_law c.args.self.now in
    rw (← c.writes-mask.ensures, ← c.bit.ensures, c.if-bit.true) at (written_of f c.args.m)

pub returns-then-bit-2 : goal.returns-then-bit-2
returns-then-bit-2 c =
    let f = in_law c.args.self.now in
    rw (← c.writes-mask.ensures, ← c.bit.ensures, c.if-bit.false, ← c.bit-2.ensures, c.if-bit-2.true) at (written_of f c.args.m)

pub returns : goal.returns
returns c =
    let f = in_law c.args.self.now in
    rw (← c.writes-mask.ensures, ← c.bit.ensures, c.if-bit.false, ← c.bit-2.ensures, c.if-bit-2.false) at (written_of f c.args.m)
