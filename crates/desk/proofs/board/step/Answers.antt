-- An answer buffer of another length: 9, and both buffers are as they were.
use Rattle.std.proofs.Common.{◌≡◌, length, rules}
use mathlib.Core.Bool.{and-false}
use borrow.Author.Tests.{ne_eqb}
use Rattle.desk.specs.Step.{step_of}
use Rattle.desk.proofs.board.step.Goals as goal

pub returns-in_default-as_mut_array : goal.returns-in_default-as_mut_array
unfolding step_of
returns-in_default-as_mut_array c =
    let w : c.in-Some.board.now ≡ c.args.board.now = search rules in
    rw (
      w,
      c.from-in_default-as_mut_array.ensures,
      ne_eqb (length c.args.answer.now) 144 c.in_default-as_mut_array.ensures.cases,
      and-false,
    )
