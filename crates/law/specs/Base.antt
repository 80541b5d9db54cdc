-- The vocabulary of the rules and statements: tests, sums and facts over a list.
use Rattle.std.specs.Prelude.{ℕ, ◌+◌, Bool, true, false, ◌&&◌, ◌||◌, ◌⊎◌, List, [], ◌∷◌}

-- Every test of a list passes.
abbrev pub all_true : List Bool → Bool
all_true [] = true
all_true (b ∷ bs) = b && all_true bs

-- The test p passes for every element.
abbrev pub every_of : {A : Type 0} → (A → Bool) → List A → Bool
every_of p [] = true
every_of p (x ∷ xs) = p x && every_of p xs

-- The test p passes for some element.
abbrev pub any_of : {A : Type 0} → (A → Bool) → List A → Bool
any_of p [] = false
any_of p (x ∷ xs) = p x || any_of p xs

-- The test r passes for every two elements, the earlier one first.
abbrev pub every_pair : {A : Type 0} → (A → A → Bool) → List A → Bool
every_pair r [] = true
every_pair r (x ∷ xs) = every_of (r x) xs && every_pair r xs

-- The sum of f over the elements.
abbrev pub sum_of : {A : Type 0} → (A → ℕ) → List A → ℕ
sum_of f [] = 0
sum_of f (x ∷ xs) = f x + sum_of f xs

-- P holds of every element.
abbrev pub All : {A : Type 0} → (A → Type 0) → List A → Type 0
All P [] = Unit {0}
All P (x ∷ xs) = P x × All P xs

-- P holds of some element.
abbrev pub Some : {A : Type 0} → (A → Type 0) → List A → Type 0
Some P [] = ⊥
Some P (x ∷ xs) = P x ⊎ Some P xs

-- R holds of every two elements, the earlier one first.
abbrev pub Pairs : {A : Type 0} → (A → A → Type 0) → List A → Type 0
Pairs R [] = Unit {0}
Pairs R (x ∷ xs) = All (R x) xs × Pairs R xs

-- R x y holds for every x of the first list and every y of the second.
abbrev pub Cross : {A : Type 0} → (A → A → Type 0) → List A → List A → Type 0
Cross R xs ys = All (λ x. All (R x) ys) xs
