-- The answer's item, put into the cleared buffer, is the answer with zeros behind it.
use Rattle.std.proofs.Common.{◌≡◌, replicate, rules}
use Rattle.answer.specs.Answers.{item_bytes}
use Rattle.answer.specs.AnswerLaws.{alone}
use Rattle.answer.proofs.put_answer.Goals as goal

pub returns-clause-out_after : goal.returns-clause-out_after
unfolding item_bytes
returns-clause-out_after c =
    let cleared : c.fill.new.self ≡ replicate 144 0 = search rules in
    rw (c.put_item.ensures, c.from-item.ensures, cleared) (alone c.args.a)
