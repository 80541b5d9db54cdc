-- A list of at most eight claims, as an array of eight with a count: what the code keeps, and the list that it stands for.
use Rattle.std.specs.Prelude.{ℕ, zero, suc, ◌≤◌, Bool, cond, Option, Some, None, List, [], ◌∷◌, ◌≡◌, ltb, pos, length, take, get_or}
use Rattle.law.specs.declared.Claim.{Claim}
use Rattle.law.specs.Calls.{has_ticket}

-- What stands in a place that holds no claim.
abbrev pub no_claim : Claim
no_claim =
    record {
      ticket = 0;
      method = 0;
      priority = 0;
      flag = 0;
      measured = 0;
      value = pos 0;
      error = 0;
      told = pos 0;
      amount = 0;
    }

-- Eight places of which the first n hold claims; the others are clear, so that a list has one array only.
pub record Row (a : List Claim) (n : ℕ) : Type 0 where
  pub room : length a ≡ 8
  pub few : n ≤ 8
  pub clear : (k : ℕ) → n ≤ k → get_or a k no_claim ≡ no_claim

-- Such an array, whose first n claims are the list l.
pub record RowIs (a : List Claim) (n : ℕ) (l : List Claim) : Type 0 where
  pub row : Row a n
  pub list : take n a ≡ l

-- The place of the first element that passes p; the length where none does.
abbrev pub first_of : {A : Type 0} → (A → Bool) → List A → ℕ
first_of p [] = 0
first_of p (x ∷ xs) = cond (p x) 0 (suc (first_of p xs))

-- The place of the claim of ticket n.
abbrev pub place_of : ℕ → List Claim → ℕ
place_of n ws = first_of (has_ticket n) ws

-- That place, if a claim has the ticket.
abbrev pub found_in : ℕ → List Claim → Option ℕ
found_in n ws = cond (ltb (place_of n ws) (length ws)) (Some (place_of n ws)) None

-- The list without what stands at a place.
abbrev pub remove_at : {A : Type 0} → ℕ → List A → List A
remove_at i [] = []
remove_at zero (x ∷ xs) = xs
remove_at (suc i) (x ∷ xs) = x ∷ remove_at i xs

-- The list with y put in at a place.
abbrev pub insert_at : {A : Type 0} → ℕ → A → List A → List A
insert_at zero y xs = y ∷ xs
insert_at (suc i) y [] = y ∷ []
insert_at (suc i) y (x ∷ xs) = x ∷ insert_at i y xs
