-- One shifted left by less than 8 is that power of 2, and loses no bit.
use Rattle.std.proofs.Common.{◌%◌, arith}
use native.Mathlib.Nat.{one-mul}
use lib.Dec.{lit<}
use lib.Pow.{shl_exact}
use Rattle.num.specs.Opened.{set_open}
use Rattle.num.proofs.opened.set_open.Goals as goal

pub returns : goal.returns
unfolding set_open
returns c =
    let power = shl_exact {a = 1} 1 (c.args.d % 8) 8 (lit< tt) (omega arith) in
    rw (power, one-mul)
