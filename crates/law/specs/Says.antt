-- Laws of tests: which proposition a test decides, and which one a combination of tests decides.
use Rattle.std.specs.Prelude.{ℕ, zero, suc, ◌≤◌, ◌<◌, Bool, true, false, cond, not, ◌&&◌, ◌||◌, List, [], ◌∷◌, ◌↔◌, ◌≡◌, refl, leb, ltb, eqb, get_or}
use Rattle.std.proofs.lemmas.Bool.{false≢true, lt-leb, not-true}
use Rattle.std.proofs.Common.{true≢false, ap, ltb-true, leb-true, leb-false, eqb-true, lt-ltb, le-leb, eq-eqb}
use Rattle.law.specs.Base.{all_true, every_of, any_of, every_pair, All, Pairs}
use Rattle.law.specs.Lists.{and_left, and_right}

-- The test passes exactly if P holds.
abbrev pub Says : Bool → Type 0 → Type 0
Says b P = (b ≡ true) ↔ P

-- A fact of both branches is a fact of the branch that the test selects.
pub by_test : {X : Type 0} (P : X → Type 0) (b : Bool) {x y : X} → (b ≡ true → P x) → (b ≡ false → P y) → P (cond b x y)
by_test P true holds fails = holds refl
by_test P false holds fails = fails refl

-- ---- tests of numbers

pub says_le : (m n : ℕ) → Says (leb m n) (m ≤ n)
says_le m n = (leb-true m n, le-leb m n)

pub says_lt : (m n : ℕ) → Says (ltb m n) (m < n)
says_lt m n = (ltb-true m n, lt-ltb m n)

pub says_eq : (m n : ℕ) → Says (eqb m n) (m ≡ n)
says_eq m n = (eqb-true m n, eq-eqb m n)

pub says_over : (m n : ℕ) → Says (not (leb m n)) (n < m)
says_over m n = (λ e. leb-false m n (not-true (leb m n) e), λ h. rw (lt-leb m n h))

-- ---- tests made of tests

pub says_true : Says true (Unit {0})
says_true = (λ e. tt, λ u. refl)

pub says_false : Says false ⊥
says_false = (false≢true, λ no. absurd no)

-- A test fails exactly if its proposition does not hold.
pub fails : (b : Bool) {P : Type 0} → Says b P → (b ≡ false) ↔ (P → ⊥)
fails true s = (λ e. absurd (true≢false e), λ no. absurd (no (s.0 refl)))
fails false s = (λ e p. false≢true (s.1 p), λ no. refl)

pub says_not : (b : Bool) {P : Type 0} → Says b P → Says (not b) (P → ⊥)
says_not true s = (λ e. absurd (false≢true e), λ no. absurd (no (s.0 refl)))
says_not false s = (λ e p. false≢true (s.1 p), λ no. refl)

pub says_and : (b c : Bool) {P Q : Type 0} → Says b P → Says c Q → Says (b && c) (P × Q)
says_and true c s u = (λ e. (s.0 refl, u.0 e), λ h. u.1 h.1)
says_and false c s u = (λ e. absurd (false≢true e), λ h. absurd (false≢true (s.1 h.0)))

pub says_neither : (b c : Bool) {P Q : Type 0} → Says (not b) P → Says (not c) Q → Says (not (b || c)) (P × Q)
says_neither true c s u = (λ e. absurd (false≢true e), λ h. s.1 h.0)
says_neither false c s u = (λ e. (s.0 refl, u.0 e), λ h. u.1 h.1)

-- Two, three and four tests in a list.
pub says_two : (b c : Bool) {P Q : Type 0} → Says b P → Says c Q → Says (all_true (b ∷ c ∷ [])) (P × Q)
says_two b c {P} {Q} s u = (λ e. ((h.0 e).0, (h.0 e).1.0), λ x. h.1 (x.0, (x.1, tt)))
  where
    h : Says (b && (c && true)) (P × (Q × Unit {0}))
    h = says_and b (c && true) s (says_and c true u says_true)

pub says_three : (b c d : Bool) {P Q R : Type 0} → Says b P → Says c Q → Says d R →
    Says (all_true (b ∷ c ∷ d ∷ [])) (P × Q × R)
says_three b c d {P} {Q} {R} s u v = (λ e. ((h.0 e).0, (h.0 e).1.0, (h.0 e).1.1), λ x. h.1 (x.0, (x.1, x.2)))
  where
    h : Says (b && all_true (c ∷ d ∷ [])) (P × (Q × R))
    h = says_and b (all_true (c ∷ d ∷ [])) s (says_two c d u v)

pub says_four : (b c d e : Bool) {P Q R S : Type 0} → Says b P → Says c Q → Says d R → Says e S →
    Says (all_true (b ∷ c ∷ d ∷ e ∷ [])) (P × Q × R × S)
says_four b c d e {P} {Q} {R} {S} s u v w =
    (λ x. ((h.0 x).0, (h.0 x).1.0, (h.0 x).1.1, (h.0 x).1.2), λ x. h.1 (x.0, (x.1, x.2, x.3)))
  where
    h : Says (b && all_true (c ∷ d ∷ e ∷ [])) (P × (Q × R × S))
    h = says_and b (all_true (c ∷ d ∷ e ∷ [])) s (says_three c d e u v w)

-- Any number of tests in a list, and the propositions they decide.
infixr 20 ◌⊳◌
pub data Tests : List Bool → Type 0 → Type 1 where
  none : Tests [] (Unit {0})
  ◌⊳◌ : {b : Bool} {bs : List Bool} {P Q : Type 0} → Says b P → Tests bs Q → Tests (b ∷ bs) (P × Q)

pub says_tests : {bs : List Bool} {P : Type 0} → Tests bs P → Says (all_true bs) P
says_tests none = says_true
says_tests (◌⊳◌ {b = b} {bs = bs} s r) = says_and b (all_true bs) s (says_tests r)

-- Tests of every element, of no element, of every two elements.
pub says_every : {A : Type 0} {p : A → Bool} {P : A → Type 0} → ((x : A) → Says (p x) (P x)) → (xs : List A) →
    Says (every_of p xs) (All P xs)
says_every s [] = says_true
says_every {p = p} s (x ∷ xs) = says_and (p x) (every_of p xs) (s x) (says_every s xs)

pub says_none : {A : Type 0} (p : A → Bool) {P : A → Type 0} → ((x : A) → Says (not (p x)) (P x)) → (xs : List A) →
    Says (not (any_of p xs)) (All P xs)
says_none p s [] = says_true
says_none p s (x ∷ xs) = says_neither (p x) (any_of p xs) (s x) (says_none p s xs)

pub says_pairs : {A : Type 0} {r : A → A → Bool} {R : A → A → Type 0} → ((x y : A) → Says (r x y) (R x y)) → (xs : List A) →
    Says (every_pair r xs) (Pairs R xs)
says_pairs s [] = says_true
says_pairs {r = r} s (x ∷ xs) = says_and (every_of (r x) xs) (every_pair r xs) (says_every (s x) xs) (says_pairs s xs)

-- A test decides that it passes; its negation decides that it fails.
pub says_self : (b : Bool) → Says b (b ≡ true)
says_self b = (λ e. e, λ e. e)

pub says_fails : (b : Bool) → Says (not b) (b ≡ false)
says_fails b = (not-true b, λ e. ap not e)

-- A test that every element and the default pass is passed at every index.
module _ {A : Type 0} (p : A → Bool) (default : A) (fits : p default ≡ true) where
  pub every_at : (xs : List A) → every_of p xs ≡ true → (k : ℕ) → p (get_or xs k default) ≡ true
  every_at [] h k = fits
  every_at (x ∷ xs) h zero = and_left (p x) (every_of p xs) h
  every_at (x ∷ xs) h (suc k) = every_at xs (and_right (p x) (every_of p xs) h) k

-- Writes the facts of a `Tests` or `All` one after the other; the last one is tt.
infixr 10 ◌and◌
pub ◌and◌ : {A B : Type 0} → A → B → A × B
a and b = (a, b)
