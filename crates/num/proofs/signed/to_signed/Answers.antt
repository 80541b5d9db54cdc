use Rattle.std.proofs.Common.{rules}
use Rattle.num.specs.Signed.{signed_of}
use Rattle.num.proofs.signed.to_signed.Goals as goal

pub returns : goal.returns
unfolding signed_of
returns c = search rules
