-- Laws of lists: facts that hold of every element or of every two elements, and how they follow from the tests and sums of Base.
use Rattle.std.specs.Prelude.{ℕ, zero, suc, ◌+◌, ◌<◌, Bool, true, false, cond, ◌&&◌, ◌||◌, List, [], ◌∷◌, ◌++◌, map, ◌≡◌, refl, length, get_or, replicate}
use Rattle.std.proofs.Common.{ap, ◌∙◌, subst, arith}
use Rattle.law.specs.Base.{all_true, every_of, any_of, sum_of, All, Pairs, Cross}

-- ---- a false test is not a true one

pub never_true : (X : Type 0) → false ≡ true → X
never_true X e = absurd (subst (λ (b : Bool). cond b ⊥ Unit) e tt)

-- ---- All

module _ {A : Type 0} (P Q : A → Type 0) where
  pub all_say : ((x : A) → P x → Q x) → (xs : List A) → All P xs → All Q xs
  all_say f [] h = tt
  all_say f (x ∷ xs) h = (f x h.0, all_say f xs h.1)

module _ {A : Type 0} (P Q R : A → Type 0) where
  pub all_both : ((x : A) → P x → Q x → R x) → (xs : List A) → All P xs → All Q xs → All R xs
  all_both f [] h k = tt
  all_both f (x ∷ xs) h k = (f x h.0 k.0, all_both f xs h.1 k.1)

module _ {A : Type 0} (P : A → Type 0) where
  pub all_true_lem : ((x : A) → P x) → (xs : List A) → All P xs
  all_true_lem f [] = tt
  all_true_lem f (x ∷ xs) = (f x, all_true_lem f xs)

  pub all_append : (xs ys : List A) → All P xs → All P ys → All P (xs ++ ys)
  all_append [] ys h k = k
  all_append (x ∷ xs) ys h k = (h.0, all_append xs ys h.1 k)

  pub all_left : (xs ys : List A) → All P (xs ++ ys) → All P xs
  all_left [] ys h = tt
  all_left (x ∷ xs) ys h = (h.0, all_left xs ys h.1)

  pub all_right : (xs ys : List A) → All P (xs ++ ys) → All P ys
  all_right [] ys h = h
  all_right (x ∷ xs) ys h = all_right xs ys h.1

  -- From a list with y in the middle: the fact of y, and the facts of the others.
  pub all_there : (xs : List A) (y : A) (ys : List A) → All P (xs ++ (y ∷ ys)) → P y
  all_there xs y ys h = (all_right xs (y ∷ ys) h).0

  pub all_less : (xs : List A) (y : A) (ys : List A) → All P (xs ++ (y ∷ ys)) → All P (xs ++ ys)
  all_less [] y ys h = h.1
  all_less (x ∷ xs) y ys h = (h.0, all_less xs y ys h.1)

-- The fact of the element at index i.
pub all_at : {A : Type 0} (P : A → Type 0) (xs : List A) (d : A) (i : ℕ) → i < length xs → All P xs → P (get_or xs i d)
all_at P [] d i h k = absurd (omega arith)
all_at P (x ∷ xs) d zero h k = k.0
all_at P (x ∷ xs) d (suc i) h k = all_at P xs d i (omega arith) k.1

pub all_map : {A B : Type 0} (P : B → Type 0) (f : A → B) (xs : List A) → All (λ x. P (f x)) xs → All P (map f xs)
all_map P f [] h = tt
all_map P f (x ∷ xs) h = (h.0, all_map P f xs h.1)

-- ---- Pairs

module _ {A : Type 0} (R : A → A → Type 0) where
  pub pairs_join : (xs ys : List A) → Pairs R xs → Pairs R ys → Cross R xs ys → Pairs R (xs ++ ys)
  pairs_join [] ys h k x = k
  pairs_join (x ∷ xs) ys h k c = (all_append (R x) xs ys h.0 c.0, pairs_join xs ys h.1 k c.1)

  pub pairs_left : (xs ys : List A) → Pairs R (xs ++ ys) → Pairs R xs
  pairs_left [] ys h = tt
  pairs_left (x ∷ xs) ys h = (all_left (R x) xs ys h.0, pairs_left xs ys h.1)

  pub pairs_right : (xs ys : List A) → Pairs R (xs ++ ys) → Pairs R ys
  pairs_right [] ys h = h
  pairs_right (x ∷ xs) ys h = pairs_right xs ys h.1

  pub pairs_cross : (xs ys : List A) → Pairs R (xs ++ ys) → Cross R xs ys
  pairs_cross [] ys h = tt
  pairs_cross (x ∷ xs) ys h = (all_right (R x) xs ys h.0, pairs_cross xs ys h.1)

  pub pairs_less : (xs : List A) (y : A) (ys : List A) → Pairs R (xs ++ (y ∷ ys)) → Pairs R (xs ++ ys)
  pairs_less [] y ys h = h.1
  pairs_less (x ∷ xs) y ys h = (all_less (R x) xs y ys h.0, pairs_less xs y ys h.1)

  -- One more element at the end.
  pub pairs_last : (xs : List A) (y : A) → Pairs R xs → All (λ x. R x y) xs → Pairs R (xs ++ (y ∷ []))
  pairs_last [] y h k = (tt, tt)
  pairs_last (x ∷ xs) y h k = (all_append (R x) xs (y ∷ []) h.0 (k.0, tt), pairs_last xs y h.1 k.1)

pub pairs_map : {A B : Type 0} (R : A → A → Type 0) (S : B → B → Type 0) (f : A → B) → ((x y : A) → R x y → S (f x) (f y)) → (xs : List A) → Pairs R xs → Pairs S (map f xs)
pairs_map R S f g [] h = tt
pairs_map R S f g (x ∷ xs) h =
    (all_map (S (f x)) f xs (all_say (R x) (λ y. S (f x) (f y)) (g x) xs h.0), pairs_map R S f g xs h.1)

-- ---- tests

-- Both halves of a test joined by &&.
pub and_left : (a b : Bool) → (a && b) ≡ true → a ≡ true
and_left true b h = refl
and_left false b h = h

pub and_right : (a b : Bool) → (a && b) ≡ true → b ≡ true
and_right true b h = h
and_right false b h = never_true (b ≡ true) h

and_both : (a b : Bool) → a ≡ true → b ≡ true → (a && b) ≡ true
and_both true b h k = k
and_both false b h k = h

-- Every test of a list has passed.
abbrev pub Passed : List Bool → Type 0
Passed [] = Unit {0}
Passed (b ∷ bs) = (b ≡ true) × Passed bs

pub passed : (bs : List Bool) → all_true bs ≡ true → Passed bs
passed [] h = tt
passed (b ∷ bs) h = (and_left b (all_true bs) h, passed bs (and_right b (all_true bs) h))

pub all_passed : (bs : List Bool) → Passed bs → all_true bs ≡ true
all_passed [] h = refl
all_passed (b ∷ bs) h = and_both b (all_true bs) h.0 (all_passed bs h.1)

-- If P implies that the test passes, every element passes; if P implies that it fails, none does.
module _ {A : Type 0} (p : A → Bool) (P : A → Type 0) where
  pub every_tests : ((x : A) → P x → p x ≡ true) → (xs : List A) → All P xs → every_of p xs ≡ true
  every_tests f [] h = refl
  every_tests f (x ∷ xs) h = and_both (p x) (every_of p xs) (f x h.0) (every_tests f xs h.1)

  pub none_tests : ((x : A) → P x → p x ≡ false) → (xs : List A) → All P xs → any_of p xs ≡ false
  none_tests f [] h = refl
  none_tests f (x ∷ xs) h = ap (λ (b : Bool). b || any_of p xs) (f x h.0) ∙ none_tests f xs h.1

-- ---- sums

module _ {A : Type 0} (f : A → ℕ) where
  pub sum-append : (xs ys : List A) → sum_of f (xs ++ ys) ≡ sum_of f xs + sum_of f ys
  sum-append [] ys = omega arith
  sum-append (x ∷ xs) ys = omega (arith, sum-append xs ys)

  pub sum-zero : (xs : List A) → All (λ x. f x ≡ 0) xs → sum_of f xs ≡ 0
  sum-zero [] h = refl
  sum-zero (x ∷ xs) h = omega (arith, h.0, sum-zero xs h.1)

pub sum-map : {A : Type 0} (f : A → ℕ) (g : A → A) → ((x : A) → f (g x) ≡ f x) → (xs : List A) → sum_of f (map g xs) ≡ sum_of f xs
sum-map f g e [] = refl
sum-map f g e (x ∷ xs) = omega (arith, e x, sum-map f g e xs)

pub length_grown : {A : Type 0} (g : A → A) (xs : List A) (y : A) → length (map g xs ++ (y ∷ [])) ≡ suc (length xs)
length_grown g [] y = refl
length_grown g (x ∷ xs) y = ap suc (length_grown g xs y)

-- ---- one more, one fewer

module _ {A : Type 0} (P : A → Type 0) where
  pub all_more : (xs : List A) (y : A) (ys : List A) → P y → All P (xs ++ ys) → All P (xs ++ (y ∷ ys))
  all_more [] y ys h k = (h, k)
  all_more (x ∷ xs) y ys h k = (k.0, all_more xs y ys h k.1)

module _ {A : Type 0} (R : A → A → Type 0) where
  pub pairs_more : (xs : List A) (y : A) (ys : List A) → All (λ x. R x y) (xs ++ ys) → All (R y) (xs ++ ys) → Pairs R (xs ++ ys) →
      Pairs R (xs ++ (y ∷ ys))
  pairs_more [] y ys h k p = (k, p)
  pairs_more (x ∷ xs) y ys h k p = (all_more (R x) xs y ys h.0 p.0, pairs_more xs y ys h.1 k.1 p.1)

  -- A fact Q of all elements but y: of those before y by `R x y`, of those behind y by `R y x`.
  pub pairs_around : (Q : A → Type 0) (xs : List A) (y : A) (ys : List A) → ((x : A) → R x y → Q x) → ((x : A) → R y x → Q x) →
      Pairs R (xs ++ (y ∷ ys)) → All Q (xs ++ ys)
  pairs_around Q [] y ys f g p = all_say (R y) Q g ys p.0
  pairs_around Q (x ∷ xs) y ys f g p = (f x (all_there (R x) xs y ys p.0), pairs_around Q xs y ys f g p.1)

pub sum_there : {A : Type 0} (f : A → ℕ) (xs : List A) (y : A) (ys : List A) → sum_of f (xs ++ (y ∷ ys)) ≡ f y + sum_of f (xs ++ ys)
sum_there f xs y ys = omega (arith, sum-append f xs (y ∷ ys), sum-append f xs ys)

pub length_more : {A : Type 0} (xs : List A) (y : A) (ys : List A) → length (xs ++ (y ∷ ys)) ≡ suc (length (xs ++ ys))
length_more [] y ys = refl
length_more (x ∷ xs) y ys = ap suc (length_more xs y ys)

-- ---- each changed, and one more at the end

module _ {A : Type 0} (g : A → A) (xs : List A) (y : A) where
  pub all_grown : (P : A → Type 0) → All (λ x. P (g x)) xs → P y → All P (map g xs ++ (y ∷ []))
  all_grown P h k = all_append P (map g xs) (y ∷ []) (all_map P g xs h) (k, tt)

  pub pairs_grown : (R : A → A → Type 0) → ((x z : A) → R x z → R (g x) (g z)) → Pairs R xs → All (λ x. R (g x) y) xs →
      Pairs R (map g xs ++ (y ∷ []))
  pairs_grown R same h k = pairs_last R (map g xs) y (pairs_map R R g same xs h) (all_map (λ x. R x y) g xs k)

-- A list of n copies of x has x at every index, also past its end if x is the default.
pub get_d_filled : {A : Type 0} (n i : ℕ) (x : A) → get_or (replicate n x) i x ≡ x
get_d_filled zero i x = refl
get_d_filled (suc n) zero x = refl
get_d_filled (suc n) (suc i) x = get_d_filled n i x
