-- The lowest bit of the shifted mask is its remainder by 2.
use Rattle.std.proofs.Common.{ap, ℕ, ◌/◌, ◌^◌, nat_eq}
use lib.Bits.{and_mask}
use Rattle.num.specs.Bits.{has_bit}
use Rattle.num.proofs.bits.bit.Goals as goal

pub returns : goal.returns
unfolding has_bit
returns c = ap (λ (x : ℕ). nat_eq x 1) (and_mask (c.args.mask / 2 ^ c.args.a) 1)
