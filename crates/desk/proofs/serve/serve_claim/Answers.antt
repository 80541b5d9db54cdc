-- A grant takes and tells what the law's grant does.
use Rattle.std.proofs.Common.{ap, ◌∙◌, arith, w32}
use Rattle.std.proofs.lemmas.Int.{to_z-of_z}
use Rattle.num.specs.Fits.{size_fits}
use Rattle.num.specs.Metric.{size}
use Rattle.desk.proofs.ServeLaws.{claim_grants}
use Rattle.desk.proofs.serve.serve_claim.Goals as goal

pub grant_new-requires-clause-takes_grant : goal.grant_new-requires-clause-takes_grant
grant_new-requires-clause-takes_grant c =
    let g =
    claim_grants c.args.part.now c.args.second c.args.c c.requires.holds_sound c.requires.new_on c.in-Granted.ensures in
    g.takes

pub grant_new-requires-clause-told_value : goal.grant_new-requires-clause-told_value
grant_new-requires-clause-told_value c =
    let g =
    claim_grants c.args.part.now c.args.second c.args.c c.requires.holds_sound c.requires.new_on c.in-Granted.ensures in
    to_z-of_z w32 c.in-Granted.told (size_fits w32 c.in-Granted.told (omega (arith, ap size g.tells, g.takes.told))) ∙ g.tells
