-- What is pushed, piece by piece, is the line; std's text of each number is its decimal text.
use Rattle.std.proofs.Common.{append_assoc, arith, rules, w32}
use Rattle.std.proofs.lemmas.Int.{ints}
use mir.Facts.{to_z-of_z}
use mir.Val.{SFits}
use Rattle.stopblocker.specs.Lines.{figures}
use Rattle.stopblocker.proofs.DecimalLaws.{decimal_same, signed_same}
use Rattle.stopblocker.proofs.lines.put_line.Goals as goal

pub returns-clause-after : goal.returns-clause-after
unfolding figures
returns-clause-after c =
    let a = c.args in
    let fits : SFits w32 a.item.told = search rules in
    let told = rw (to_z-of_z fits) at c.format-5.ensures.text in
    rw (
      c.push_str-12.ensures.bytes,
      c.push_str-11.ensures.bytes,
      c.push_str-10.ensures.bytes,
      c.push_str-9.ensures.bytes,
      c.push_str-8.ensures.bytes,
      c.push_str-7.ensures.bytes,
      c.push_str-6.ensures.bytes,
      c.push_str-5.ensures.bytes,
      c.push_str-4.ensures.bytes,
      c.push_str-3.ensures.bytes,
      c.push_str-2.ensures.bytes,
      c.push_str.ensures.bytes,
      c.format.ensures.text,
      c.format-2.ensures.text,
      c.format-3.ensures.text,
      c.format-4.ensures.text,
      told,
      c.format-6.ensures.text,
      decimal_same a.number (omega arith),
      decimal_same a.disk (omega arith),
      decimal_same a.item.code (omega arith),
      decimal_same a.item.ticket (omega arith),
      signed_same a.item.told (omega (arith, ints)),
      decimal_same a.item.amount (omega arith),
    )
    (simp append_assoc)
