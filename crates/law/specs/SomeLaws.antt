-- Laws of lists: a fact of some element.
use Rattle.std.proofs.Common.{inl, inr, ⊎_elim, eqb-true}
use Rattle.std.specs.Prelude.{ℕ, Bool, true, false, cond, List, [], ◌∷◌, ◌++◌, map, ◌≡◌, refl}
use Rattle.law.specs.declared.Claim.{Claim}
use Rattle.law.specs.Base.{All, Some}
use Rattle.law.specs.Calls.{has_ticket, without}

pub some_left : {A : Type 0} (P : A → Type 0) (xs ys : List A) → Some P xs → Some P (xs ++ ys)
some_left P [] ys s = absurd s
some_left P (x ∷ xs) ys (inl h) = inl h
some_left P (x ∷ xs) ys (inr h) = inr (some_left P xs ys h)

pub some_right : {A : Type 0} (P : A → Type 0) (xs ys : List A) → Some P ys → Some P (xs ++ ys)
some_right P [] ys s = s
some_right P (x ∷ xs) ys s = inr (some_right P xs ys s)

pub some_say : {A : Type 0} {P Q : A → Type 0} → ((x : A) → P x → Q x) → (xs : List A) → Some P xs → Some Q xs
some_say f [] s = s
some_say f (x ∷ xs) (inl h) = inl (f x h)
some_say f (x ∷ xs) (inr h) = inr (some_say f xs h)

pub some_map : {A B : Type 0} (P : B → Type 0) (f : A → B) (xs : List A) → Some (λ x. P (f x)) xs → Some P (map f xs)
some_map P f [] s = s
some_map P f (x ∷ xs) (inl h) = inl h
some_map P f (x ∷ xs) (inr h) = inr (some_map P f xs h)

-- One element fewer, of which P does not hold; and one more.
pub some_less : {A : Type 0} (P : A → Type 0) (xs : List A) (y : A) (ys : List A) → (P y → ⊥) → Some P (xs ++ (y ∷ ys)) → Some P (xs ++ ys)
some_less P [] y ys apart s = ⊎_elim (λ h. absurd (apart h)) (λ h. h) s
some_less P (x ∷ xs) y ys apart s = ⊎_elim inl (λ h. inr (some_less P xs y ys apart h)) s

pub some_more : {A : Type 0} (P : A → Type 0) (xs : List A) (y : A) (ys : List A) → Some P (xs ++ ys) → Some P (xs ++ (y ∷ ys))
some_more P [] y ys s = inr s
some_more P (x ∷ xs) y ys s = ⊎_elim inl (λ h. inr (some_more P xs y ys h)) s

-- What holds of all holds of the one.
pub some_all : {A : Type 0} {P Q R : A → Type 0} → ((x : A) → P x → Q x → R x) → (xs : List A) → Some P xs → All Q xs → Some R xs
some_all f [] s a = s
some_all f (x ∷ xs) (inl h) a = inl (f x h a.0)
some_all f (x ∷ xs) (inr h) a = inr (some_all f xs h a.1)

-- What follows from P of any element follows from P of some.
pub some_then : {A : Type 0} {P : A → Type 0} {X : Type 0} (xs : List A) → Some P xs → ((x : A) → P x → X) → X
some_then [] s f = absurd s
some_then (x ∷ xs) (inl h) f = f x h
some_then (x ∷ xs) (inr h) f = some_then xs h f

-- Without the claim with ticket n, if P holds of none with that ticket.
pub some_without : (P : Claim → Type 0) (n : ℕ) (ws : List Claim) → ((w : Claim) → P w → w.ticket ≡ n → ⊥) → Some P ws → Some P (without n ws)
some_without P n [] apart s = s
some_without P n (w ∷ ws) apart s = go (has_ticket n w) refl (some_without P n ws apart) s
  where
    go : (b : Bool) → has_ticket n w ≡ b → (Some P ws → Some P (without n ws)) → Some P (w ∷ ws) → Some P (cond b ws (w ∷ without n ws))
    go true e rest (inl h) = absurd (apart w h (eqb-true w.ticket n e))
    go true e rest (inr h) = h
    go false e rest (inl h) = inl h
    go false e rest (inr h) = inr (rest h)
