-- Each value counts where its bit is in the mask of what the method reads; 64 bits hold the sum of three figures of 32.
use Rattle.std.proofs.Common.{◌≡◌, ◌≤◌, ◌<◌, ℤ, pos, negsuc, ◌+ℤ◌, to_z, of_z, w32, w64, arith, rules}
use Rattle.std.specs.Int.Signed.{mag}
use mir.Facts.{to_z-of_z}
use mir.Val.{SFits}
use Rattle.num.specs.Fits.{size_fits}
use Rattle.num.specs.Metric.{size, size_add}
use Rattle.rules.specs.Methods.{in_law}
use Rattle.rules.proofs.MethodLaws.{told_of_lem}
use Rattle.rules.proofs.figures.Figures.told.Goals as goal

fits : (z : ℤ) → size z ≤ 6442450944 → SFits w64 z
fits z h = size_fits w64 z (omega (arith, h))

-- A figure of 32 bits is the same in 64.
size_of : (z : ℤ) → mag z < 2147483648 → size z ≤ 2147483648
size_of (pos n) h = omega (arith, h)
size_of (negsuc n) h = omega (arith, h)

widened : {z y : ℤ} → z ≡ to_z w32 (of_z w32 y) → mag y < 2147483648 → z ≡ y
widened {y = y} e h = let f : SFits w32 y = record { sfits = h } in rw (to_z-of_z f) at e

-- Three of them are added without overflow.
module _ (a b d : ℤ) (p : size a ≤ 2147483648) (q : size b ≤ 2147483648) (r : size d ≤ 2147483648) where
  two : size (a +ℤ b) ≤ 4294967296
  two = omega (arith, p, q, size_add a b)

  small : size (a +ℤ b +ℤ d) ≤ 6442450944
  small = omega (arith, r, two, size_add (a +ℤ b) d)

  added : to_z w64 (of_z w64 (to_z w64 (of_z w64 (to_z w64 (of_z w64 a) +ℤ to_z w64 (of_z w64 b))) +ℤ to_z w64 (of_z w64 d)))
      ≡ a +ℤ b +ℤ d
  added =
      rw (
        to_z-of_z (fits a (omega (arith, p))),
        to_z-of_z (fits b (omega (arith, q))),
        to_z-of_z (fits (a +ℤ b) (omega (arith, two))),
        to_z-of_z (fits d (omega (arith, r))),
        to_z-of_z (fits (a +ℤ b +ℤ d) small),
      )

pub returns-clause-value : goal.returns-clause-value
returns-clause-value c =
    let e = widened {y = c.if_read.result} c.from.ensures c.if_read.type_inv in
    let f = widened {y = c.if_read-2.result} c.from-2.ensures c.if_read-2.type_inv in
    let g = widened {y = c.if_read-3.result} c.from-3.ensures c.if_read-3.type_inv in
    let u : SFits w32 c.args.self.now.used.value = search rules in
    let p : SFits w32 c.args.self.now.promised.value = search rules in
    let s : SFits w32 c.args.self.now.state.value = search rules in
    let h = added c.if_read.result c.if_read-2.result c.if_read-3.result
    (size_of c.if_read.result c.if_read.type_inv)
    (size_of c.if_read-2.result c.if_read-2.type_inv)
    (size_of c.if_read-3.result c.if_read-3.type_inv)
    in
    rw (
      e,
      f,
      g,
      h,
      c.if_read.ensures,
      to_z-of_z u,
      c.bit.ensures,
      c.if_read-2.ensures,
      to_z-of_z p,
      c.bit-2.ensures,
      c.if_read-3.ensures,
      to_z-of_z s,
      c.bit-3.ensures,
      c.reads-mask.ensures,
    )
    (told_of_lem (in_law c.args.self.now) c.args.m)

pub returns-clause-result_bound : goal.returns-clause-result_bound
returns-clause-result_bound c =
    let e = widened {y = c.if_read.result} c.from.ensures c.if_read.type_inv in
    let f = widened {y = c.if_read-2.result} c.from-2.ensures c.if_read-2.type_inv in
    let g = widened {y = c.if_read-3.result} c.from-3.ensures c.if_read-3.type_inv in
    let a = size_of c.if_read.result c.if_read.type_inv in
    let b = size_of c.if_read-2.result c.if_read-2.type_inv in
    let d = size_of c.if_read-3.result c.if_read-3.type_inv in
    let h = added c.if_read.result c.if_read-2.result c.if_read-3.result a b d in
    rw (e, f, g, h)
    (small c.if_read.result c.if_read-2.result c.if_read-3.result a b d)
