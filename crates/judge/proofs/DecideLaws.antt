-- Laws of the decision: the four tests, with the sum of the active adds taken once and the lock step at clock 0, are the law's.
use Prim.Native.Nat.{ℕ, ◌+◌, ◌≤◌, ◌<◌}
use mathlib.Core.Bool.{Bool, true, false, cond, not}
use mathlib.Core.List.{List, [], ◌∷◌}
use mathlib.Core.Path.{◌≡◌, refl, sym, ◌∙◌}
use borrow.Author.Tests.{lt-ltb, le-ltb, lt-leb, le-leb}
use Rattle.std.specs.Prelude.{Option, Some, None}
use Rattle.std.specs.Option.{is_some, unwrap_or}
use Rattle.std.proofs.lemmas.Option.{cond_some}
use lib.Dec.{ltb, leb}
use lib.ListN.{length}
use Rattle.law.specs.declared.Claim.{Claim}
use Rattle.law.specs.Base.{all_true, any_of, every_of}
use Rattle.law.specs.Lists.{never_true}
use Rattle.law.specs.Types.{a1, Figures, Core}
use Rattle.law.specs.Entries.{entry, is_never}
use Rattle.law.specs.Granting.{adds_on, start, limit, total, lock_step, bars, granted}
use Rattle.law.specs.DiskType.{disk_table}
use Rattle.rules.specs.Methods.{pre_of}
use Rattle.rules.specs.Pairs.{core_of, bars_by}
use Rattle.rules.proofs.RuleLaws.{pre_is}
use Rattle.judge.specs.Decisions.{bars_at, bars_of, locked, decided, DecidedIs}
use Rattle.judge.proofs.WalkLaws.{cond_none, any_same, lock_is, lock_not, lock_by, total_by}

-- A test that fails, whatever the others answer.
second_fails : (a c d : Bool) → false ≡ all_true (a ∷ false ∷ c ∷ d ∷ [])
second_fails true c d = refl
second_fails false c d = refl

third_fails : (a b d : Bool) → false ≡ all_true (a ∷ b ∷ false ∷ d ∷ [])
third_fails true true d = refl
third_fails true false d = refl
third_fails false b d = refl

last_fails : (a b c : Bool) → false ≡ all_true (a ∷ b ∷ c ∷ false ∷ [])
last_fails true true true = refl
last_fails true true false = refl
last_fails true false c = refl
last_fails false b c = refl

module _ (f : Figures) (now : ℕ) (ws ahead : List Claim) (c : Claim) where
  -- The clock makes no difference to the lock step and its total.
  same_total : total disk_table (core_of f 0 ws) c ≡ total disk_table (core_of f now ws) c
  unfolding total
  same_total = refl

  same_lock : lock_step disk_table (core_of f 0 ws) c ≡ lock_step disk_table (core_of f now ws) c
  unfolding lock_step total
  same_lock = refl

  bars_by_law : (w : Claim) → bars_of f now (adds_on disk_table a1 ws) c w ≡ bars disk_table (core_of f now ws) c w
  unfolding bars_at bars_by bars
  bars_by_law w = rw (pre_is (core_of f now ws) w)

  abbrev fitting : Bool
  fitting = pre_of f now (adds_on disk_table a1 ws) c

  abbrev barred : Bool
  barred = any_of (bars_of f now (adds_on disk_table a1 ws) c) ahead

  abbrev locks : Bool
  locks = lock_step disk_table (core_of f 0 ws) c

  abbrev place : Bool
  place = ltb (length ws) 8

  granted_is : all_true (fitting ∷ not barred ∷ locks ∷ place ∷ []) ≡ granted disk_table (core_of f now ws) ahead c
  unfolding granted
  granted_is =
      rw (
        pre_is (core_of f now ws) c,
        same_lock,
        any_same (bars_of f now (adds_on disk_table a1 ws) c) (bars disk_table (core_of f now ws) c) bars_by_law ahead,
      )

  -- ---- one test that fails is enough, whatever else holds

  -- With eight active, or one active whose entry with it is N, it is not granted.
  pub full_waits : 8 ≤ length ws → false ≡ granted disk_table (core_of f now ws) ahead c
  full_waits l = rw (← granted_is, le-ltb (length ws) 8 l) (last_fails fitting (not barred) locks)

  lock_fails : false ≡ locks → false ≡ granted disk_table (core_of f now ws) ahead c
  lock_fails h = rw (← granted_is, ← h) (third_fails fitting (not barred) place)

  pub never_waits : every_of (λ w. not (is_never (entry disk_table w c))) ws ≡ false → false ≡ granted disk_table (core_of f now ws) ahead c
  never_waits h = lock_fails (rw h at (lock_is f c ws))

  -- A claim that is not granted has no total.
  pub waits : false ≡ granted disk_table (core_of f now ws) ahead c → None ≡ decided (core_of f now ws) ahead c
  unfolding decided
  waits h = rw (← h)

  -- One active claim stops it.
  pub stuck : None ≡ locked f c ws → None ≡ decided (core_of f now ws) ahead c
  stuck h = waits (lock_fails (lock_not f c ws h))

  -- None does: then the total is the law's, and the limit decides.
  module _ {sum from most : ℕ} (h : Some sum ≡ locked f c ws) (b : from ≡ start disk_table (core_of f now ws) c)
      (l : most ≡ limit disk_table (core_of f now ws) c) where
    whole : from + sum ≡ total disk_table (core_of f now ws) c
    whole = rw b (total_by f c ws h ∙ same_total)

    locks_by : leb (from + sum) most ≡ locks
    locks_by = rw (b, l) (lock_by f c ws h)

    pub too_much : most < from + sum → None ≡ decided (core_of f now ws) ahead c
    too_much o = waits (lock_fails (sym (lt-leb (from + sum) most o) ∙ locks_by))

  -- With the sum of the active adds handed in: a precondition fails, or one ahead bars it.
  module _ {adds : ℕ} (e : adds ≡ adds_on disk_table a1 ws) where
    pub not_fit : pre_of f now adds c ≡ false → None ≡ decided (core_of f now ws) ahead c
    not_fit h = waits (rw (← granted_is, ← e, h))

    pub not_free : any_of (bars_of f now adds c) ahead ≡ true → None ≡ decided (core_of f now ws) ahead c
    not_free h = waits (rw (← granted_is, ← e, h) (second_fails (pre_of f now adds c) locks place))

    -- All four pass.
    pub grants : length ws < 8 → pre_of f now adds c ≡ true → any_of (bars_of f now adds c) ahead ≡ false →
        {sum from most : ℕ} → Some sum ≡ locked f c ws → from ≡ start disk_table (core_of f now ws) c →
        most ≡ limit disk_table (core_of f now ws) c → from + sum ≤ most → Some (from + sum) ≡ decided (core_of f now ws) ahead c
    unfolding decided
    grants few p g {sum} {from} {most} h b l o =
        let lock : locks ≡ true = sym (locks_by h b l) ∙ le-leb (from + sum) most o in
        let all : granted disk_table (core_of f now ws) ahead c ≡ true =
        rw (← granted_is, ← e, p, g, lock, lt-ltb (length ws) 8 few) in
        rw (all, whole h b l)

-- What the decision says.
module _ (s : Core) (ahead : List Claim) (c : Claim) where
  pub says_granted : {sum : ℕ} → Some sum ≡ decided s ahead c → (granted disk_table s ahead c ≡ true) × (total disk_table s c ≡ sum)
  unfolding decided
  says_granted {sum} h = cond_some (granted disk_table s ahead c) (total disk_table s c) sum (sym h)

  pub says_waits : None ≡ decided s ahead c → granted disk_table s ahead c ≡ false
  unfolding decided
  says_waits h = cond_none (granted disk_table s ahead c) (total disk_table s c) h

-- The same in the two values of `DecidedIs`.
pub decided_is : (s : Core) (ahead : List Claim) (c : Claim) →
    DecidedIs (is_some (decided s ahead c)) (unwrap_or (decided s ahead c) 0) s ahead c
unfolding decided
decided_is s ahead c = go (granted disk_table s ahead c) refl
  where
    go : (b : Bool) → b ≡ granted disk_table s ahead c →
        let o : Option ℕ = cond b (Some (total disk_table s c)) None in DecidedIs (is_some o) (unwrap_or o 0) s ahead c
    go true e = record { says = e; counts = λ q. refl; fails = λ q. never_true (total disk_table s c ≡ 0) (sym q) }
    go false e = record { says = e; counts = λ q. never_true (0 ≡ total disk_table s c) q; fails = λ q. refl }
