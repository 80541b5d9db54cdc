-- Laws of the lists that an end and a wait leave. Each compares `xs ++ ys` with `xs ++ (c ∷ ys)`, so a fact need only be shown
-- for that. And the pass's order: inserting a new claim keeps it.
use Rattle.std.specs.Prelude.{ℕ, ◌≤◌, ◌<◌, Bool, true, false, cond, ◌||◌, List, [], ◌∷◌, ◌++◌, ◌≡◌, refl, ltb, eqb}
use Rattle.std.proofs.Common.{sym, arith, ltb-true, ltb-false, lt-ltb, eqb-true}
use Rattle.std.proofs.lemmas.Bool.{eqb-false}
use Rattle.law.specs.declared.Claim.{Claim}
use Rattle.law.specs.Base.{All, Pairs}
use Rattle.law.specs.Lists.{all_more, never_true, all_say}
use Rattle.law.specs.Says.{by_test}
use Rattle.law.specs.Types.{Table, Figures}
use Rattle.law.specs.Calls.{has_ticket, without, land_by, landed, before, queue}
use Rattle.law.specs.Entries.{kind_of}

-- ---- the end of a claim

-- Two cases: no claim ends, or one does; then its kind lands, and the list is without it.
pub ended_cases : (t : Table) (P : List Claim → Figures → List Claim → Type 0) (f : Figures) (n : ℕ) →
    ((ws : List Claim) → P ws f ws) →
    ((xs : List Claim) (w : Claim) (ys : List Claim) → P (xs ++ (w ∷ ys)) (land_by f (kind_of t w) w) (xs ++ ys)) →
    (ws : List Claim) → P ws (landed t f n ws) (without n ws)
ended_cases t P f n none one [] = none []
ended_cases t P f n none one (w ∷ ws) =
    go (has_ticket n w)
    (ended_cases t (λ vs g us. P (w ∷ vs) g (w ∷ us)) f n (λ vs. none (w ∷ vs)) (λ xs v ys. one (w ∷ xs) v ys) ws)
  where
    go : (b : Bool) → P (w ∷ ws) (landed t f n ws) (w ∷ without n ws) →
        P (w ∷ ws) (cond b (land_by f (kind_of t w) w) (landed t f n ws)) (cond b ws (w ∷ without n ws))
    go true h = one [] w ws
    go false h = h

-- A fact of all claims is a fact of all that are left.
pub all_without : (P : Claim → Type 0) (n : ℕ) (ws : List Claim) → All P ws → All P (without n ws)
all_without P n [] h = tt
all_without P n (w ∷ ws) h = by_test (All P) (has_ticket n w) (λ e. h.1) (λ e. (h.0, all_without P n ws h.1))

-- ---- inserting a claim in the pass's order

pub queue_cases : (P : List Claim → List Claim → Type 0) (c : Claim) →
    ((xs ys : List Claim) → P (xs ++ ys) (xs ++ (c ∷ ys))) → (ws : List Claim) → P ws (queue c ws)
queue_cases P c one [] = one [] []
queue_cases P c one (w ∷ ws) =
    by_test (P (w ∷ ws)) (before w c) (λ e. queue_cases (λ vs us. P (w ∷ vs) (w ∷ us)) c (λ xs ys. one (w ∷ xs) ys) ws)
    (λ e. one [] (w ∷ ws))

pub all_queued : (P : Claim → Type 0) (c : Claim) → P c → (ws : List Claim) → All P ws → All P (queue c ws)
all_queued P c h = queue_cases (λ vs us. All P vs → All P us) c (λ xs ys. all_more P xs c ys h)

abbrev pub Before : Claim → Claim → Type 0
Before x y = before x y ≡ true

-- The claim before has at least the other's priority; and a higher priority puts a claim before the other.
before_says : (x y : Claim) → Before x y → y.priority ≤ x.priority
before_says x y h = go (ltb y.priority x.priority) (eqb x.priority y.priority) refl refl h
  where
    go : (p q : Bool) → ltb y.priority x.priority ≡ p → eqb x.priority y.priority ≡ q →
        (p || (cond q (ltb x.ticket y.ticket) false)) ≡ true → y.priority ≤ x.priority
    go true q e k h = omega (arith, ltb-true y.priority x.priority e)
    go false true e k h = omega (arith, eqb-true x.priority y.priority k)
    go false false e k h = never_true (y.priority ≤ x.priority) h

before_tests : (x y : Claim) → y.priority < x.priority → Before x y
before_tests x y h = rw (lt-ltb y.priority x.priority h) refl

-- A claim with a lower ticket that isn't before the other has a lower priority.
before_fails : (w c : Claim) → w.ticket < c.ticket → before w c ≡ false → w.priority < c.priority
before_fails w c h e = go (ltb c.priority w.priority) (eqb w.priority c.priority) refl refl e
  where
    go : (p q : Bool) → ltb c.priority w.priority ≡ p → eqb w.priority c.priority ≡ q →
        (p || (cond q (ltb w.ticket c.ticket) false)) ≡ false → w.priority < c.priority
    go true q i k l = never_true (w.priority < c.priority) (sym l)
    go false true i k l = omega (arith, ltb-false w.ticket c.ticket l)
    go false false i k l =
        let unlike : w.priority ≡ c.priority → ⊥ = eqb-false w.priority c.priority k in
        omega (arith, ltb-false c.priority w.priority i)

-- A claim with the latest ticket is inserted behind all claims that are before it, so the list stays in order.
pub queue_ordered : (c : Claim) (ws : List Claim) → All (λ w. w.ticket < c.ticket) ws → Pairs Before ws → Pairs Before (queue c ws)
queue_ordered c [] h p = (tt, tt)
queue_ordered c (w ∷ ws) h p =
    by_test (Pairs Before) (before w c) (λ e. (all_queued (Before w) c e ws p.0, queue_ordered c ws h.1 p.1))
    (λ e.
    let lower : w.priority < c.priority = before_fails w c h.0 e in
    let behind : All (Before c) ws = all_say (Before w) _ (λ y i. before_tests c y (omega (arith, before_says w y i))) ws p.0 in
    ((before_tests c w lower, behind), p))
