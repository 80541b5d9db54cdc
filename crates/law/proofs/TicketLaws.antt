-- Laws of the tickets on a disk: each claim has its own, below the next. A new claim takes the next; grants and ends move
-- claims but change no ticket.
use Rattle.std.specs.Prelude.{ℕ, ◌+◌, ◌<◌, List, [], ◌∷◌, ◌++◌, map, ◌≡◌, ℤ}
use Rattle.std.proofs.Common.{sym, arith}
use Rattle.law.specs.declared.Claim.{Claim}
use Rattle.law.specs.Base.{All, Pairs, Cross}
use Rattle.law.specs.Lists.{all_say, all_both, all_there, all_less, pairs_less, all_more, pairs_more, pairs_around, all_grown, pairs_grown}
use Rattle.law.specs.Granting.{put_told}

-- The two claims have different tickets.
abbrev pub Apart : Claim → Claim → Type 0
Apart x y = x.ticket ≡ y.ticket → ⊥

-- The tickets of the active claims vs and the waiting claims ws are below next and all different.
pub record Ticketed (next : ℕ) (vs ws : List Claim) : Type 0 where
  pub below_active : All (λ c. c.ticket < next) vs
  pub below_waiting : All (λ c. c.ticket < next) ws
  pub apart_active : Pairs Apart vs
  pub apart_waiting : Pairs Apart ws
  pub apart_both : Cross Apart vs ws

-- Without one active claim.
pub ticketed_end : {next : ℕ} (xs : List Claim) (w : Claim) (ys : List Claim) {ws : List Claim} →
    Ticketed next (xs ++ (w ∷ ys)) ws → Ticketed next (xs ++ ys) ws
ticketed_end xs w ys h =
    record {
      below_active = all_less _ xs w ys h.below_active;
      below_waiting = h.below_waiting;
      apart_active = pairs_less Apart xs w ys h.apart_active;
      apart_waiting = h.apart_waiting;
      apart_both = all_less _ xs w ys h.apart_both;
    }

-- Without one waiting claim.
pub ticketed_leave : {next : ℕ} {vs : List Claim} (xs : List Claim) (w : Claim) (ys : List Claim) →
    Ticketed next vs (xs ++ (w ∷ ys)) → Ticketed next vs (xs ++ ys)
ticketed_leave {vs} xs w ys h =
    record {
      below_active = h.below_active;
      below_waiting = all_less _ xs w ys h.below_waiting;
      apart_active = h.apart_active;
      apart_waiting = pairs_less Apart xs w ys h.apart_waiting;
      apart_both = all_say (λ x. All (Apart x) (xs ++ (w ∷ ys))) _ (λ x. all_less (Apart x) xs w ys) vs h.apart_both;
    }

-- With a new claim that takes the next ticket; all others are below it.
pub ticketed_new : {next : ℕ} {vs : List Claim} (xs ys : List Claim) (c : Claim) → c.ticket ≡ next →
    Ticketed next vs (xs ++ ys) → Ticketed (next + 1) vs (xs ++ (c ∷ ys))
ticketed_new {next} {vs} xs ys c e h =
    record {
      below_active = later vs h.below_active;
      below_waiting = all_more _ xs c ys (omega arith) (later (xs ++ ys) h.below_waiting);
      apart_active = h.apart_active;
      apart_waiting =
          pairs_more Apart xs c ys
          (all_say (λ x. x.ticket < next) _ unlike (xs ++ ys) h.below_waiting)
          (all_say (λ x. x.ticket < next) _ (λ x k i. unlike x k (sym i)) (xs ++ ys) h.below_waiting)
          h.apart_waiting;
      apart_both =
          all_both (λ x. x.ticket < next) (λ x. All (Apart x) (xs ++ ys)) _
          (λ x k. all_more (Apart x) xs c ys (unlike x k)) vs h.below_active h.apart_both;
    }
  where
    later : (ws : List Claim) → All (λ x. x.ticket < next) ws → All (λ x. x.ticket < next + 1) ws
    later ws = all_say (λ x. x.ticket < next) _ (λ x k. omega arith) ws

    unlike : (x : Claim) → x.ticket < next → Apart x c
    unlike x l i = omega arith

-- A waiting claim becomes active, and other claims' amounts grow.
pub ticketed_grant : {next : ℕ} {vs : List Claim} (xs : List Claim) (c : Claim) (ys : List Claim) (told : ℤ) (amount : ℕ)
    (growth : Claim → ℕ) → Ticketed next vs (xs ++ (c ∷ ys)) →
    Ticketed next (map (λ w. put_told w w.told (w.amount + growth w)) vs ++ (put_told c told amount ∷ [])) (xs ++ ys)
ticketed_grant {next} {vs} xs c ys told amount growth h =
    let rest : Ticketed next vs (xs ++ ys) = ticketed_leave xs c ys h in
    record {
      below_active = all_grown _ vs _ _ h.below_active (all_there (λ x. x.ticket < next) xs c ys h.below_waiting);
      below_waiting = rest.below_waiting;
      apart_active =
          pairs_grown _ vs _ Apart (λ x y i. i) h.apart_active
          (all_say (λ x. All (Apart x) (xs ++ (c ∷ ys))) _ (λ x. all_there (Apart x) xs c ys) vs h.apart_both);
      apart_waiting = rest.apart_waiting;
      apart_both =
          all_grown _ vs _ _ rest.apart_both
          (pairs_around Apart (Apart c) xs c ys (λ x i j. i (sym j)) (λ x i. i) h.apart_waiting);
    }
