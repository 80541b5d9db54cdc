-- Laws of the tickets' marks: where no bit is met again, no two tickets are the same.
use Prim.Native.Nat.{ℕ, ◌^◌}
use mathlib.Core.Bool.{Bool, true, false, cond}
use Rattle.std.specs.Prelude.{Option, Some, None}
use mathlib.Core.List.{List, [], ◌∷◌, ◌++◌}
use mathlib.Core.Path.{◌≡◌, refl, sym, ap, ◌∙◌}
use Rattle.std.proofs.lemmas.Bool.Decides.{nat_tests}
use lib.Bits.{bit_and, bit_or, and_comm}
use native.Mathlib.Omega.{arith}
use Rattle.num.specs.Bits.{has_bit, bit_set, bit_set_other, or_none, apart_bits}
use Rattle.law.specs.declared.Claim.{Claim}
use Rattle.law.specs.Base.{every_of, every_pair, All, Pairs}
use Rattle.law.specs.Lists.{all_say, never_true}
use Rattle.sound.specs.declared.tickets.Marks.{Marks}
use Rattle.sound.specs.Tests.{apart}
use Rattle.sound.specs.Seen.{bit_of, with_ticket, marks_from, marks_of}
use Rattle.sound.proofs.WalkLaws.{says_two_by_two}

pub marks_append : (m : Marks) (xs ys : List Claim) → marks_from m (xs ++ ys) ≡ marks_from (marks_from m xs) ys
unfolding marks_from
marks_append m [] ys = refl
marks_append m (x ∷ xs) ys = marks_append (with_ticket m x) xs ys

-- ---- the walk over claims that pass p, which adds their marks

unfoldable pub marked : (Claim → Bool) → Marks → List Claim → Option Marks
marked p m xs = cond (every_of p xs) (Some (marks_from m xs)) None

-- A turn of it, with the claim x; and the end.
module _ (p : Claim → Bool) (m : Marks) {xs rest : List Claim} {x : Claim} (e : xs ≡ x ∷ rest) where
  pub marked_on : p x ≡ true → marked p (with_ticket m x) rest ≡ marked p m xs
  unfolding marked marks_from
  marked_on h = rw (e, h)

  pub marked_not : p x ≡ false → None ≡ marked p m xs
  unfolding marked
  marked_not h = rw (e, h)

pub marked_end : (p : Claim → Bool) (m : Marks) {xs : List Claim} → xs ≡ [] → Some m ≡ marked p m xs
unfolding marked marks_from
marked_end p m e = rw e

-- ---- marks and tickets

-- A bit that is not set beside that of c is not c's, and was not set before.
module _ (mask : ℕ) (c x : Claim) (h : has_bit (bit_or mask (2 ^ bit_of c)) (bit_of x) ≡ false) where
  unlike : bit_of c ≡ bit_of x → ⊥
  unlike e = never_true ⊥ (sym h ∙ ap (has_bit (bit_or mask (2 ^ bit_of c))) (sym e) ∙ bit_set mask (bit_of c))

  unset : has_bit mask (bit_of x) ≡ false
  unset = sym (bit_set_other mask (bit_of c) (bit_of x) unlike) ∙ h

  differs : apart c x ≡ true
  differs = grind (arith, nat_tests, unlike)

-- A mask that shares nothing with a power of 2 does not have its bit.
bit_unmet : (mask a : ℕ) → bit_and mask (2 ^ a) ≡ 0 → has_bit mask a ≡ false
bit_unmet mask a h = apart_bits (2 ^ a) mask a (and_comm (2 ^ a) mask ∙ h) (bit_set 0 a)

-- So where nothing is met again, nothing had been, none of the claims has a bit met before, and any two differ.
marks_say : (m : Marks) (cs : List Claim) → (marks_from m cs).again ≡ 0 →
    (m.again ≡ 0) × All (λ c. has_bit m.met (bit_of c) ≡ false) cs × Pairs (λ x y. apart x y ≡ true) cs
unfolding marks_from with_ticket
marks_say m [] h = (h, tt, tt)
marks_say m (c ∷ cs) h =
    let t = marks_say (with_ticket m c) cs h in
    let o = or_none m.again (bit_and m.met (2 ^ bit_of c)) t.0 in
    let Unset : Claim → Type 0 = λ x. has_bit (bit_or m.met (2 ^ bit_of c)) (bit_of x) ≡ false in (
      o.0,
      (bit_unmet m.met (bit_of c) o.1, all_say Unset (λ x. has_bit m.met (bit_of x) ≡ false) (unset m.met c) cs t.1),
      (all_say Unset (λ x. apart c x ≡ true) (differs m.met c) cs t.1, t.2),
    )

pub marks_apart : (cs : List Claim) → (marks_of cs).again ≡ 0 → every_pair apart cs ≡ true
marks_apart cs h = (says_two_by_two apart cs).1 (marks_say _ cs h).2
