-- Laws of the test whether a part decodes: the ranges that it looks at are those of the slots.
use Prim.Native.Nat.{ℕ, ◌+◌, ◌*◌, ◌-◌, ◌≤◌, ◌<◌}
use mathlib.Core.Bool.{false, ◌&&◌, and-true}
use mathlib.Core.List.{List}
use mathlib.Core.Path.{◌≡◌, refl, ap, ◌∙◌}
use native.Mathlib.Omega.{arith}
use borrow.Author.Tests.{lt-leb, le-leb}
use Rattle.part.specs.Layout.{zero_at, spare_zero, slots_whole}
use Rattle.part.specs.ByteLaws.{zero_split}

module _ (s : List ℕ) (at : ℕ) where
  -- Behind n claims, the bytes up to the end e of the slots are a range that is to be zero.
  pub n_claims : (n e : ℕ) → n ≤ 8 → e ≡ at + 352 →
      (spare_zero s at n && zero_at s (at + 44 * n) (e - (at + 44 * n))) ≡ slots_whole s at n
  unfolding slots_whole
  n_claims n e few end =
      let size : e - (at + 44 * n) ≡ 44 * (8 - n) = omega arith in
      rw (le-leb n 8 few, and-true, size)

  -- Where no slot holds a claim, all are one range.
  pub no_claim_lem : (e : ℕ) → e ≡ at + 352 → zero_at s at (e - at) ≡ slots_whole s at 0
  unfolding spare_zero
  no_claim_lem e end =
      let first : at ≡ at + 44 * 0 = omega arith in
      ap (λ (p : ℕ). zero_at s p (e - p)) first ∙ n_claims 0 e (omega arith) end

  -- There are no more than eight.
  pub too_many : (n : ℕ) → 8 < n → false ≡ slots_whole s at n
  unfolding slots_whole
  too_many n h = rw (lt-leb n 8 h)

-- Where neither the active nor the waiting slots hold a claim, all are one range.
pub no_claims : (s : List ℕ) → zero_at s 64 704 ≡ (slots_whole s 64 0 && slots_whole s 416 0)
no_claims s = zero_split s 64 352 352 ∙ rw (no_claim_lem s 64 416 refl, no_claim_lem s 416 768 refl)
