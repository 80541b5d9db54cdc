-- The length is the one that the definition has.
use Rattle.std.proofs.Common.{rules}
use Rattle.records.specs.Pieces.{length_of}
use Rattle.records.proofs.length_of.Goals as goal

pub returns : goal.returns
unfolding length_of
returns c = search rules
