-- Laws of the walks: what a test or a sum over the active claims, taken in one walk, says of the law's tests and sums.
use Prim.Native.Nat.{ℕ, ◌+◌, ◌≤◌, ◌<◌}
use mathlib.Core.Bool.{Bool, true, false, cond, not, ◌&&◌}
use mathlib.Core.List.{List, [], ◌∷◌}
use mathlib.Core.Path.{◌≡◌, refl, sym, ap, ◌∙◌}
use native.Mathlib.Numerals.{add-one}
use native.Mathlib.Omega.{arith}
use lib.Dec.{leb}
use lib.ListN.{length, take, drop, get_or}
use lib.Seq.{length-take-le, drop-cons, get_or-take}
use Rattle.std.specs.Prelude.{Option, Some, None}
use Rattle.std.proofs.lemmas.Option.{cond_some, none-some}
use Rattle.num.specs.Metric.{dist}
use Rattle.law.specs.declared.Claim.{Claim}
use Rattle.law.specs.declared.Entry.{Entry}
use Rattle.law.specs.declared.Entry.TheVariants.{A, N, D, G}
use Rattle.law.specs.Base.{all_true, every_of, any_of, sum_of, All}
use Rattle.law.specs.Types.{Kind, sets, adds, reads, Figures}
use Rattle.law.specs.Entries.{kind_of, entry, is_always, is_never}
use Rattle.law.specs.Lists.{all_say, never_true, sum-zero}
use Rattle.law.specs.Granting.{gap_by, cost_by, raises_by, start, limit, cost, stays, total, lock_step}
use Rattle.law.specs.DiskType.{disk_table}
use Rattle.rules.specs.Rows.{no_claim}
use Rattle.rules.specs.Methods.{is_reading}
use Rattle.rules.specs.Totals.{totals_of, have_say}
use Rattle.rules.specs.Pairs.{core_of, lets_by, cost_on, cost_between, raise_of, bars_by}
use Rattle.rules.proofs.TotalsLaws.{all_always}
use Rattle.judge.specs.Decisions.{lets_of, cost_of, bars_at, bars_of, locked}

-- What answers nothing has not passed its test.
pub cond_none : (b : Bool) (n : ℕ) → None ≡ cond b (Some n) None → b ≡ false
cond_none true n e = absurd (none-some n e)
cond_none false n e = refl

-- ---- tests and sums of two functions that agree

module _ {X : Type 0} where
  sum_same : (f g : X → ℕ) → ((x : X) → f x ≡ g x) → (xs : List X) → sum_of f xs ≡ sum_of g xs
  sum_same f g e [] = refl
  sum_same f g e (x ∷ xs) = omega (arith, e x, sum_same f g e xs)

  pub any_same : (p q : X → Bool) → ((x : X) → p x ≡ q x) → (xs : List X) → any_of p xs ≡ any_of q xs
  any_same p q e [] = refl
  any_same p q e (x ∷ xs) = rw (e x, any_same p q e xs)

  -- A joint test of every element is the two tests of every element.
  every_both : (p q r : X → Bool) → ((x : X) → r x ≡ (p x && q x)) → (xs : List X) →
      every_of r xs ≡ (every_of p xs && every_of q xs)
  every_both p q r e [] = refl
  every_both p q r e (x ∷ xs) = rw (e x, every_both p q r e xs) (four (p x) (q x) (every_of p xs) (every_of q xs))
    where
      four : (a b c d : Bool) → ((a && b) && (c && d)) ≡ ((a && c) && (b && d))
      four false b c d = refl
      four true false false d = refl
      four true false true d = refl
      four true true c d = refl

-- ---- the lock step

lets_by_lem : (e : Entry) (k : Kind) (amount most raise : ℕ) →
    lets_by e (is_reading k) amount most raise
    ≡ (not (is_never e) && cond (raises_by e k) (leb (amount + cond (raises_by e k) raise 0) most) true)
lets_by_lem A k amount most raise = refl
lets_by_lem N k amount most raise = refl
lets_by_lem D k amount most raise = refl
lets_by_lem G (sets a) amount most raise = refl
lets_by_lem G (adds a) amount most raise = refl
lets_by_lem G (reads m) amount most raise = refl

cost_by_lem : (e : Entry) (k : Kind) (d g : ℕ) → cost_on e (is_reading k) d g ≡ cost_by e k d g
cost_by_lem A k d g = refl
cost_by_lem N k d g = refl
cost_by_lem D k d g = refl
cost_by_lem G (sets a) d g = refl
cost_by_lem G (adds a) d g = refl
cost_by_lem G (reads m) d g = refl

-- The test of the total stands between the two tests of the active claims, and comes last in the walk.
in_turn : (a t b : Bool) → ((a && b) && t) ≡ all_true (a ∷ t ∷ b ∷ [])
in_turn false t b = refl
in_turn true false false = refl
in_turn true false true = refl
in_turn true true false = refl
in_turn true true true = refl

module _ (f : Figures) (c : Claim) (ws : List Claim) where
  cost_is : (w : Claim) → cost_of f c w ≡ cost disk_table (core_of f 0 ws) c w
  unfolding cost_of
  cost_is w =
      cost_by_lem (entry disk_table w c) (kind_of disk_table c) (dist c.value w.value) (gap_by f (kind_of disk_table w) w.value)

  lets_is : (w : Claim) → lets_of f c w ≡ (not (is_never (entry disk_table w c)) && stays disk_table (core_of f 0 ws) c w)
  unfolding lets_of
  lets_is w =
      lets_by_lem (entry disk_table w c) (kind_of disk_table c) w.amount w.error (c.error + gap_by f (kind_of disk_table c) c.value)

  -- The starting amount and what each active claim adds.
  total_is : start disk_table (core_of f 0 ws) c + sum_of (cost_of f c) ws ≡ total disk_table (core_of f 0 ws) c
  unfolding total
  total_is = rw (sum_same (cost_of f c) (cost disk_table (core_of f 0 ws) c) cost_is ws)

  abbrev within_limit : Bool
  within_limit = leb (total disk_table (core_of f 0 ws) c) (limit disk_table (core_of f 0 ws) c)

  pub lock_is : ((every_of (λ w. not (is_never (entry disk_table w c))) ws && every_of (stays disk_table (core_of f 0 ws) c) ws)
      && within_limit)
      ≡ lock_step disk_table (core_of f 0 ws) c
  unfolding lock_step
  lock_is =
      in_turn (every_of (λ w. not (is_never (entry disk_table w c))) ws) within_limit
      (every_of (stays disk_table (core_of f 0 ws) c) ws)

  every_is : every_of (lets_of f c) ws
      ≡ (every_of (λ w. not (is_never (entry disk_table w c))) ws && every_of (stays disk_table (core_of f 0 ws) c) ws)
  every_is = every_both (λ w. not (is_never (entry disk_table w c))) (stays disk_table (core_of f 0 ws) c) (lets_of f c) lets_is ws

  -- One active claim stops it.
  pub lock_not : None ≡ locked f c ws → false ≡ lock_step disk_table (core_of f 0 ws) c
  unfolding locked
  lock_not h =
      let stopped = cond_none (every_of (lets_of f c) ws) (sum_of (cost_of f c) ws) h in
      ap (λ (b : Bool). b && within_limit) (sym stopped ∙ every_is) ∙ lock_is

  -- None does: then what they add makes the total, which decides.
  module _ {sum : ℕ} (h : Some sum ≡ locked f c ws) where
    walked : (every_of (lets_of f c) ws ≡ true) × (sum_of (cost_of f c) ws ≡ sum)
    unfolding locked
    walked = cond_some (every_of (lets_of f c) ws) (sum_of (cost_of f c) ws) sum (sym h)

    pub total_by : start disk_table (core_of f 0 ws) c + sum ≡ total disk_table (core_of f 0 ws) c
    total_by = rw (← walked.1) total_is

    pub lock_by : leb (start disk_table (core_of f 0 ws) c + sum) (limit disk_table (core_of f 0 ws) c)
        ≡ lock_step disk_table (core_of f 0 ws) c
    lock_by = rw total_by (ap (λ (b : Bool). b && within_limit) (sym walked.0 ∙ every_is) ∙ lock_is)

-- ---- the walk of the lock step

-- What the lock step comes to from a sum on, over the active claims that are left.
abbrev pub locked_from : Figures → Claim → ℕ → List Claim → Option ℕ
locked_from f c n ws = cond (every_of (lets_of f c) ws) (Some (n + sum_of (cost_of f c) ws)) None

module _ (f : Figures) (c : Claim) where
  -- All are left.
  pub locked_first : (ws : List Claim) → locked_from f c 0 ws ≡ locked f c ws
  unfolding locked
  locked_first ws = let none : 0 + sum_of (cost_of f c) ws ≡ sum_of (cost_of f c) ws = omega arith in rw none

  -- A turn, at which the claim x is the next: it lets c pass, or not.
  module _ (n : ℕ) {ws rest : List Claim} {x : Claim} (left : ws ≡ x ∷ rest) where
    pub locked_on : {m : ℕ} → lets_of f c x ≡ true → m ≡ cost_of f c x → locked_from f c (n + m) rest ≡ locked_from f c n ws
    locked_on {m} h e =
        let more : n + m + sum_of (cost_of f c) rest ≡ n + (cost_of f c x + sum_of (cost_of f c) rest) = omega arith in
        rw (left, h, more)

    pub locked_not : lets_of f c x ≡ false → None ≡ locked_from f c n ws
    locked_not h = rw (left, h)

-- ---- a walk of the first n of an array

module _ (a : List Claim) (n : ℕ) (fits : n ≤ length a) (p : Claim → Bool) (i : ℕ) where
  first_length : length (take n a) ≡ n
  first_length = length-take-le n a fits

  first_left : i < n → drop i (take n a) ≡ get_or a i no_claim ∷ drop (i + 1) (take n a)
  first_left h = drop-cons (take n a) i no_claim (omega (arith, first_length)) ∙ rw (get_or-take n a i no_claim h, add-one i)

  pub first_any_on : i < n → p (get_or a i no_claim) ≡ false → any_of p (drop (i + 1) (take n a)) ≡ any_of p (drop i (take n a))
  first_any_on h e = rw (first_left h, e)

  pub first_any_here : i < n → p (get_or a i no_claim) ≡ true → true ≡ any_of p (drop i (take n a))
  first_any_here h e = rw (first_left h, e)

-- ---- what the leaves say of one claim

-- By figures that are those of the disk, of a claim that stands there.
module _ {f g : Figures} (same : g ≡ f) (c : Claim) {w v : Claim} (there : v ≡ w) {e : Entry} (h : e ≡ entry disk_table v c) where
  pub bars_read : (now sum : ℕ) {b : Bool} → b ≡ bars_by g now sum c.priority e v → b ≡ bars_of f now sum c w
  unfolding bars_at
  bars_read now sum b = rw (← there, ← same, ← h) b

  module _ {reading : Bool} (r : reading ≡ is_reading (kind_of disk_table c)) where
    pub lets_read : {raise : ℕ} {b : Bool} → raise ≡ raise_of g c → b ≡ lets_by e reading v.amount v.error raise → b ≡ lets_of f c w
    unfolding lets_of
    lets_read n b = rw (← there, ← same, ← h, ← r, ← n) b

    pub cost_read : {n : ℕ} → n ≡ cost_between g e reading c v → n ≡ cost_of f c w
    unfolding cost_of
    cost_read n = rw (← there, ← same, ← h, ← r) n

-- Claims whose entry with c is A let it pass, and add nothing.
module _ (f : Figures) (c : Claim) where
  lets_always : (w : Claim) → is_always (entry disk_table w c) ≡ true → lets_of f c w ≡ true
  unfolding lets_of
  lets_always w h = by_entry (entry disk_table w c) h
    where
      by_entry : (e : Entry) → is_always e ≡ true →
          lets_by e (is_reading (kind_of disk_table c)) w.amount w.error (raise_of f c) ≡ true
      by_entry A h = refl
      by_entry N h = h
      by_entry D h = refl
      by_entry G h = never_true (lets_by G (is_reading (kind_of disk_table c)) w.amount w.error (raise_of f c) ≡ true) h

  cost_always : (w : Claim) → is_always (entry disk_table w c) ≡ true → cost_of f c w ≡ 0
  unfolding cost_of
  cost_always w h = by_entry (entry disk_table w c) h
    where
      by_entry : (e : Entry) → is_always e ≡ true → cost_between f e (is_reading (kind_of disk_table c)) c w ≡ 0
      by_entry A h = refl
      by_entry N h = refl
      by_entry D h = never_true (cost_between f D (is_reading (kind_of disk_table c)) c w ≡ 0) h
      by_entry G h = never_true (cost_between f G (is_reading (kind_of disk_table c)) c w ≡ 0) h

  module _ (ws : List Claim) (e : have_say (totals_of ws) c.method ≡ false) where
    all_let : true ≡ every_of (lets_of f c) ws
    all_let = every_let ws (all_always c ws e)
      where
        every_let : (vs : List Claim) → All (λ w. is_always (entry disk_table w c) ≡ true) vs → true ≡ every_of (lets_of f c) vs
        every_let [] h = refl
        every_let (v ∷ vs) h = rw (lets_always v h.0) (every_let vs h.1)

    none_cost : 0 ≡ sum_of (cost_of f c) ws
    none_cost =
        let each = all_say (λ w. is_always (entry disk_table w c) ≡ true) (λ w. cost_of f c w ≡ 0) cost_always ws (all_always c ws e) in
        sym (sum-zero (cost_of f c) ws each)

    -- The lock step over them.
    pub none_say : Some 0 ≡ locked f c ws
    unfolding locked
    none_say = rw (← all_let, ← none_cost)
