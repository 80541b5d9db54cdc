-- Laws of the walks: tests of every claim, the turns of a walk over neighbours; and that claims of which each stands before its
-- neighbour stand in the pass's order.
use Prim.Native.Nat.{ℕ, ◌+◌, ◌-◌, ◌≤◌, ◌<◌}
use mathlib.Core.Bool.{Bool, true, ◌&&◌}
use mathlib.Core.List.{List, [], ◌∷◌, ◌++◌, map}
use mathlib.Core.Path.{◌≡◌, refl, ap, ◌∙◌}
use native.Mathlib.Omega.{arith}
use Rattle.std.proofs.lemmas.Bool.Decides.{nat_tests}
use lib.ListN.{length, take, drop, get_or, length-drop}
use Rattle.law.specs.declared.Claim.{Claim}
use Rattle.law.specs.Base.{all_true, every_of, every_pair, Pairs}
use Rattle.law.specs.Calls.{before}
use Rattle.law.specs.Lists.{all_say, and_left, and_right}
use Rattle.law.specs.Says.{Says, says_pairs, says_self}
use Rattle.rules.specs.Rows.{no_claim, Row}
use Rattle.rules.specs.RowLaws.{row_length, left_on}

-- Two tests of which each passes where the other does are equal.
pub same_test : (a b : Bool) → (a ≡ true → b ≡ true) → (b ≡ true → a ≡ true) → a ≡ b
same_test a b f g = grind arith

-- ---- tests of every claim

pub every_true : (xs : List Claim) → every_of (λ x. true) xs ≡ true
every_true [] = refl
every_true (x ∷ xs) = every_true xs

pub every_and : (p q : Claim → Bool) (xs : List Claim) → every_of (λ x. p x && q x) xs ≡ (every_of p xs && every_of q xs)
every_and p q [] = refl
every_and p q (x ∷ xs) = grind (arith, every_and p q xs)

-- Tests that each claim passes in a row, every claim passes one by one.
pub rows : (ps : List (Claim → Bool)) (xs : List Claim) →
    every_of (λ x. all_true (map (λ p. p x) ps)) xs ≡ all_true (map (λ p. every_of p xs) ps)
rows [] xs = every_true xs
rows (p ∷ ps) xs = every_and p (λ x. all_true (map (λ q. q x) ps)) xs ∙ ap (λ (b : Bool). every_of p xs && b) (rows ps xs)

-- Two lists pass where both do.
pub every_join : (p : Claim → Bool) (xs ys : List Claim) → (every_of p xs && every_of p ys) ≡ every_of p (xs ++ ys)
every_join p [] ys = refl
every_join p (x ∷ xs) ys = grind (arith, every_join p xs ys)

-- ---- what they say

pub says_two_by_two : {A : Type 0} (r : A → A → Bool) (xs : List A) → Says (every_pair r xs) (Pairs (λ x y. r x y ≡ true) xs)
says_two_by_two r xs = says_pairs {r = r} {R = λ x y. r x y ≡ true} (λ x y. says_self (r x y)) xs

-- ---- neighbours

-- Each claim passes r with the one behind it.
unfoldable pub neighbours : (Claim → Claim → Bool) → List Claim → Bool
neighbours r [] = true
neighbours r (x ∷ []) = true
neighbours r (x ∷ y ∷ zs) = r x y && neighbours r (y ∷ zs)

-- A turn of a walk over a row, at the two claims on either side of i; and the end, since the last claim, and none, have no neighbour.
module _ (p : Claim → Claim → Bool) {a : List Claim} {n : ℕ} (r : Row a n) (i : ℕ) (from_one : 1 ≤ i) where
  pub next_turn : i < n →
      neighbours p (drop (i - 1) (take n a))
      ≡ (p (get_or a (i - 1) no_claim) (get_or a i no_claim) && neighbours p (drop i (take n a)))
  unfolding neighbours
  next_turn h =
      let back : i - 1 + 1 ≡ i = omega arith in
      rw (left_on r (i - 1) (omega arith), back, left_on r i h)

  pub next_end : n ≤ i → neighbours p (drop (i - 1) (take n a)) ≡ true
  unfolding neighbours
  next_end h = go (drop (i - 1) (take n a)) (length-drop (i - 1) (take n a))
    where
      go : (xs : List Claim) → length xs ≡ length (take n a) - (i - 1) → neighbours p xs ≡ true
      go [] q = refl
      go (x ∷ []) q = refl
      go (x ∷ y ∷ ys) q = absurd (omega (arith, row_length r))

-- ---- the pass's order

abbrev Before : Claim → Claim → Type 0
Before x y = before x y ≡ true

before_trans : (x y z : Claim) → Before x y → Before y z → Before x z
before_trans x y z h k = grind (arith, nat_tests)

order_of : (x : Claim) (xs : List Claim) → neighbours before (x ∷ xs) ≡ true → Pairs Before (x ∷ xs)
unfolding neighbours
order_of x [] h = (tt, tt)
order_of x (y ∷ ys) h =
    let first = and_left (before x y) (neighbours before (y ∷ ys)) h in
    let rest = order_of y ys (and_right (before x y) (neighbours before (y ∷ ys)) h) in
    ((first, all_say (Before y) (Before x) (λ z e. before_trans x y z first e) ys rest.0), rest)

of_order : (xs : List Claim) → Pairs Before xs → neighbours before xs ≡ true
unfolding neighbours
of_order [] h = refl
of_order (x ∷ []) h = refl
of_order (x ∷ y ∷ zs) h = rw h.0.0 (of_order (y ∷ zs) h.1)

ordered : (xs : List Claim) → neighbours before xs ≡ true → Pairs Before xs
ordered [] h = tt
ordered (x ∷ xs) h = order_of x xs h

-- Neighbours in order are all in order.
pub order_is : (xs : List Claim) → neighbours before xs ≡ every_pair before xs
order_is xs =
    let says = says_two_by_two before xs in
    same_test (neighbours before xs) (every_pair before xs) (λ e. says.1 (ordered xs e)) (λ e. of_order xs (says.0 e))
