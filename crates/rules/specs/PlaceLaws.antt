-- Laws of places in a list: the first that passes a test, one removed, one put in; and how law's `without` and
-- `queue` are these.
use Rattle.std.specs.Prelude.{ℕ, zero, suc, ◌+◌, ◌≤◌, ◌<◌, Bool, true, false, cond, not, ◌||◌, List, [], ◌∷◌, ◌++◌, ◌≡◌, refl, ltb, length, get_or, take, set}
use Rattle.std.proofs.Common.{ap, add-one, arith, lt-ltb, eqb-true}
use Rattle.std.proofs.Math.Dec.{leb-suc-suc}
use Rattle.law.specs.declared.Claim.{Claim}
use Rattle.law.specs.Base.{any_of}
use Rattle.law.specs.Says.{by_test}
use Rattle.law.specs.Calls.{has_ticket, without, before, queue}
use Rattle.rules.specs.Rows.{no_claim, first_of, place_of, remove_at, insert_at}

-- ---- the first that passes

module _ {A : Type 0} (p : A → Bool) where
  -- Where there is one, it passes.
  pub first_passes : (l : List A) (d : A) → first_of p l < length l → p (get_or l (first_of p l) d) ≡ true
  first_passes [] d h = absurd (omega arith)
  first_passes (x ∷ l) d h =
      by_test (λ i. i < suc (length l) → p (get_or (x ∷ l) i d) ≡ true) (p x) (λ e k. e) (λ e k. first_passes l d (omega arith)) h

  -- There is one where its place is one of the list's.
  pub any_first : (l : List A) → any_of p l ≡ ltb (first_of p l) (length l)
  any_first [] = refl
  any_first (x ∷ l) = go (p x) (any_first l)
    where
      go : (b : Bool) → any_of p l ≡ ltb (first_of p l) (length l) →
          (b || any_of p l) ≡ ltb (cond b 0 (suc (first_of p l))) (suc (length l))
      go true h = rw (lt-ltb 0 (suc (length l)) (omega arith))
      go false h = rw h (rw (leb-suc-suc (suc (first_of p l)) (length l)))

-- ---- removing, putting in: a step of a loop that stores in place, and its end

module _ {A : Type 0} where
  -- The one behind stored at i: then it's the one behind that goes.
  remove_on : (l : List A) (i : ℕ) (d : A) → suc i < length l → remove_at (suc i) (set l i (get_or l (suc i) d)) ≡ remove_at i l
  remove_on [] i d h = absurd (omega arith)
  remove_on (x ∷ []) zero d h = absurd (omega arith)
  remove_on (x ∷ y ∷ l) zero d h = refl
  remove_on (x ∷ l) (suc i) d h = ap {B = List A} (λ r. x ∷ r) (remove_on l i d (omega arith))

  pub remove_step : (l : List A) (i : ℕ) (d : A) → i + 1 < length l → remove_at (i + 1) (set l i (get_or l (i + 1) d)) ≡ remove_at i l
  remove_step l i d h = rw add-one (remove_on l i d (omega arith))

  pub remove_last : (l : List A) (i : ℕ) → length l ≤ i + 1 → remove_at i l ≡ take i l
  remove_last [] zero h = refl
  remove_last [] (suc i) h = refl
  remove_last (x ∷ []) zero h = refl
  remove_last (x ∷ y ∷ l) zero h = absurd (omega arith)
  remove_last (x ∷ l) (suc i) h = ap {B = List A} (λ r. x ∷ r) (remove_last l i (omega arith))

  -- y stored at i: then what stood there is to go in behind it.
  insert_on : (l : List A) (i : ℕ) (y d : A) → i < length l → insert_at (suc i) (get_or l i d) (set l i y) ≡ insert_at i y l
  insert_on [] i y d h = absurd (omega arith)
  insert_on (x ∷ l) zero y d h = refl
  insert_on (x ∷ l) (suc i) y d h = ap {B = List A} (λ r. x ∷ r) (insert_on l i y d (omega arith))

  pub insert_step : (l : List A) (i : ℕ) (y d : A) → i < length l → insert_at (i + 1) (get_or l i d) (set l i y) ≡ insert_at i y l
  insert_step l i y d h = rw add-one (insert_on l i y d h)

  pub insert_last : (l : List A) (i : ℕ) (y : A) → length l ≤ i → insert_at i y l ≡ l ++ (y ∷ [])
  insert_last [] zero y h = refl
  insert_last [] (suc i) y h = refl
  insert_last (x ∷ l) zero y h = absurd (omega arith)
  insert_last (x ∷ l) (suc i) y h = ap {B = List A} (λ r. x ∷ r) (insert_last l i y (omega arith))

-- ---- claims

pub place_ticket : (n : ℕ) (ws : List Claim) → place_of n ws < length ws → (get_or ws (place_of n ws) no_claim).ticket ≡ n
place_ticket n ws h = eqb-true _ n (first_passes (has_ticket n) ws no_claim h)

pub without_place : (n : ℕ) (ws : List Claim) → without n ws ≡ remove_at (place_of n ws) ws
without_place n [] = refl
without_place n (w ∷ ws) = go (has_ticket n w) (without_place n ws)
  where
    go : (b : Bool) → without n ws ≡ remove_at (place_of n ws) ws →
        cond b ws (w ∷ without n ws) ≡ remove_at (cond b 0 (suc (place_of n ws))) (w ∷ ws)
    go true h = refl
    go false h = ap {B = List Claim} (λ r. w ∷ r) h

-- A claim goes in at the first that isn't before it.
pub queue_place : (c : Claim) (ws : List Claim) → queue c ws ≡ insert_at (first_of (λ w. not (before w c)) ws) c ws
queue_place c [] = refl
queue_place c (w ∷ ws) = go (before w c) (queue_place c ws)
  where
    go : (b : Bool) → queue c ws ≡ insert_at (first_of (λ v. not (before v c)) ws) c ws →
        cond b (w ∷ queue c ws) (c ∷ w ∷ ws) ≡ insert_at (cond (not b) 0 (suc (first_of (λ v. not (before v c)) ws))) c (w ∷ ws)
    go true h = ap {B = List Claim} (λ r. w ∷ r) h
    go false h = refl
