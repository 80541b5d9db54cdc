-- Laws of a grant: which tests it has passed; the starting amount is within its limit; the lock step is 01's walk claim by
-- claim; an answer shows the amount at that grant, whatever the pass grants after it.
use Prim.Native.Nat.{ℕ, ◌+◌, ◌≤◌}
use Rattle.std.specs.Prelude.{Bool, true, false, cond, not, ◌&&◌, ◌≡◌, length, leb}
use Rattle.std.proofs.Math.Bool.{and-false}
use Rattle.std.proofs.Common.{true≢false, ◌∙◌, arith}
use mathlib.Core.List.{List, [], ◌∷◌, ◌++◌, map, append_assoc, append-nil}
use Rattle.std.proofs.Math.Path.{refl, sym, ap}
use borrow.Author.Tests.{leb-true, leb-false, le-leb, lt-leb, ltb-true}
use Rattle.num.specs.Metric.{size, dist}
use Rattle.law.specs.declared.Claim.{Claim}
use Rattle.law.specs.declared.Entry.{Entry}
use Rattle.law.specs.declared.Entry.TheVariants.{A, N, D, G}
use Rattle.law.specs.Base.{all_true, every_of, sum_of}
use Rattle.law.specs.Lists.{never_true, sum-append, sum-map, passed}
use Rattle.law.specs.Says.{by_test, says_every, says_self, says_fails}
use Rattle.law.specs.Types.{places, Attribute, a0, a1, a2, Kind, sets, adds, reads, Table, Figures, attr, put_attr, Core, Item}
use Rattle.law.specs.Granting.{adds_to, start_by, limit_by, cost_by, amount_by, with_amount, note_by, adds_on, addable, bearable, precondition_tests, preconditions, start, limit, gap, cost, total, stays, lock_tests, lock_step, grant_tests, granted, raised, as_granted, grant, grant_item}
use Rattle.law.specs.Calls.{Passing, turn, pass_over}
use Rattle.law.specs.Fields.{OwnFits}
use Rattle.law.specs.MayGrant.{MayGrant}
use Rattle.law.specs.Entries.{is_never, kind_of, entry}
use Rattle.law.specs.Readings.{carried}

-- Under D, and under G if a reading is requested, the active claim adds to the total.
abbrev pub counts : Entry → Kind → Bool
counts A k = false
counts N k = false
counts D k = true
counts G (sets a) = false
counts G (adds a) = false
counts G (reads m) = true

cost_none : (e : Entry) (k : Kind) (d g : ℕ) → counts e k ≡ false → cost_by e k d g ≡ 0
cost_none A k d g h = refl
cost_none N k d g h = refl
cost_none D k d g h = never_true (d ≡ 0) (sym h)
cost_none G (sets a) d g h = refl
cost_none G (adds a) d g h = refl
cost_none G (reads m) d g h = never_true (g ≡ 0) (sym h)

cond-true : (b : Bool) → cond b true true ≡ true
cond-true true = refl
cond-true false = refl

amount_put : (f : Figures) (a : Attribute) (n : ℕ) → (attr (put_attr f a (with_amount (attr f a) n)) a).amount ≡ n
amount_put f a0 n = refl
amount_put f a1 n = refl
amount_put f a2 n = refl

module _ (t : Table) where
  -- ---- which tests a grant has passed, and what it adds

  pub grant_says : (s : Core) (ahead : List Claim) (c : Claim) → granted t s ahead c ≡ true → MayGrant t s c
  unfolding granted preconditions lock_step
  grant_says s ahead c g =
      let tests = passed (grant_tests t s ahead c) g in
      let lock = passed (lock_tests t s c) tests.1.1.0 in
      record {
        in_range = (passed (precondition_tests t s c) tests.0).1.1.1.0;
        no_never = (says_every (λ w. says_fails (is_never (entry t w c))) s.active).0 lock.0;
        in_limit = leb-true (total t s c) (limit t s c) lock.1.0;
        all_stay = (says_every (λ w. says_self (stays t s c w)) s.active).0 lock.1.1.0;
        place = ltb-true (length s.active) places tests.1.1.1.0;
      }

  -- What a claim adds to the sum of attribute a.
  abbrev pub adding : Attribute → Claim → ℕ
  adding a c = cond (adds_to a (kind_of t c)) (size c.value) 0

  -- The sum of the adds after a grant: the sum before it, plus what the granted claim adds.
  pub adds_grown : (a : Attribute) (s : Core) (c : Claim) (ws : List Claim) →
      adds_on t a (map (raised t s c) ws ++ (as_granted t s c ∷ [])) ≡ adds_on t a ws + adding a c
  adds_grown a s c ws =
      omega (arith, sum-append (adding a) (map (raised t s c) ws) (as_granted t s c ∷ []), sum-map (adding a) (raised t s c) (λ w. refl) ws)

  -- ---- the start and the walk

  -- A claim that passes 18 and whose preconditions hold starts within its limit.
  start_by_lem : (s : Core) (k : Kind) (own : ℕ) → OwnFits s.figures k own → addable t s k own ≡ true → bearable t s k own ≡ true →
      start_by s.figures k own ≤ limit_by s.figures k own
  start_by_lem s (sets a) own h b c = h
  start_by_lem s (adds a) own h b c = leb-true ((attr s.figures a).amount + own) (attr s.figures a).limit b
  start_by_lem s (reads m) own h b c = leb-true (carried s.figures m) own c

  pub start_within : (s : Core) (c : Claim) → OwnFits s.figures (kind_of t c) c.error → preconditions t s c ≡ true →
      start t s c ≤ limit t s c
  unfolding preconditions
  start_within s c own pre =
      let p = passed (precondition_tests t s c) pre in
      start_by_lem s (kind_of t c) c.error own p.1.0 p.1.1.0

  -- A reading starts at the error that the figures carry.
  pub start_reads : (s : Core) (c : Claim) (m : ℕ) → kind_of t c ≡ reads m → start t s c ≡ carried s.figures m
  start_reads s c m p = rw p

  -- 01's lock step word by word: take each active claim in turn, and test the total n wherever something was added to it.
  unfoldable pub walked : Core → Claim → ℕ → List Claim → Bool
  walked s c n [] = true
  walked s c n (w ∷ ws) =
      all_true
      (not (is_never (entry t w c))
      ∷ cond (counts (entry t w c) (kind_of t c)) (leb (n + cost t s c w) (limit t s c)) true
      ∷ stays t s c w
      ∷ [])
      && walked s c (n + cost t s c w) ws

  -- The three tests of the lock step, over the remaining claims.
  left : Core → Claim → ℕ → List Claim → Bool
  left s c n ws =
      all_true
      (every_of (λ w. not (is_never (entry t w c))) ws
      ∷ leb (n + sum_of (cost t s c) ws) (limit t s c)
      ∷ every_of (stays t s c) ws
      ∷ [])

  walk_left : (s : Core) (c : Claim) (n : ℕ) (ws : List Claim) → n ≤ limit t s c → walked s c n ws ≡ left s c n ws
  unfolding walked left
  walk_left s c n [] h = sym (ap (λ (b : Bool). b && true) (le-leb (n + 0) (limit t s c) (omega arith)))
  walk_left s c n (w ∷ ws) h =
      go (not (is_never (entry t w c))) (stays t s c w) (counts (entry t w c) (kind_of t c)) (leb (n + x) l) refl refl
      (λ k. walk_left s c (n + x) ws k)
    where
      l : ℕ
      l = limit t s c

      x : ℕ
      x = cost t s c w

      rest : ℕ
      rest = sum_of (cost t s c) ws

      nevers : Bool
      nevers = every_of (λ y. not (is_never (entry t y c))) ws

      stay : Bool
      stay = every_of (stays t s c) ws

      -- if n + x is over the limit, w has added something, and the whole sum is over it too
      passes : (b : Bool) → counts (entry t w c) (kind_of t c) ≡ b → leb (n + x) l ≡ false → b ≡ true
      passes true p r = refl
      passes false p r =
          absurd
          (omega (
            arith,
            leb-false (n + x) l r,
            cost_none (entry t w c) (kind_of t c) (dist c.value w.value) (gap t s w) p,
          ))

      go : (a e b q : Bool) → counts (entry t w c) (kind_of t c) ≡ b → leb (n + x) l ≡ q →
          (n + x ≤ l → walked s c (n + x) ws ≡ left s c (n + x) ws) →
          (all_true (a ∷ cond b q true ∷ e ∷ []) && walked s c (n + x) ws)
          ≡ all_true ((a && nevers) ∷ leb (n + (x + rest)) l ∷ (e && stay) ∷ [])
      go false e b q p r ih = refl
      go true false b q p r ih =
          ap (λ (y : Bool). y && walked s c (n + x) ws) (and-false (cond b q true))
          ∙ sym (ap (λ (y : Bool). nevers && y) (and-false (leb (n + (x + rest)) l)) ∙ and-false nevers)
      go true true b true p r ih =
          ap (λ (y : Bool). (y && true) && walked s c (n + x) ws) (cond-true b)
          ∙ ih (leb-true (n + x) l r)
          ∙ ap (λ (k : ℕ). nevers && (leb k l && (stay && true))) (omega arith)
      go true true b false p r ih =
          ap (λ (y : Bool). (cond y false true && true) && walked s c (n + x) ws) (passes b p r)
          ∙ sym
          (ap (λ (y : Bool). nevers && (y && (stay && true)))
          (lt-leb (n + (x + rest)) l (omega (arith, leb-false (n + x) l r)))
          ∙ and-false nevers)

  pub lock_in_turn : (s : Core) (c : Claim) → start t s c ≤ limit t s c → walked s c (start t s c) s.active ≡ lock_step t s c
  unfolding lock_step left total
  lock_in_turn s c h = walk_left s c (start t s c) s.active h

  -- ---- answers

  -- A write's answer shows the attribute's amount after the grant; a reading's shows its own amount.
  pub set_shows : (s : Core) (c : Claim) (a : Attribute) → kind_of t c ≡ sets a → (attr (grant t s c).figures a).amount ≡ (grant_item t s c).amount
  unfolding grant grant_item
  set_shows s c a p = ap (λ (k : Kind). (attr (note_by s.figures k (total t s c)) a).amount) p ∙ amount_put s.figures a (total t s c)

  pub add_shows : (s : Core) (c : Claim) (a : Attribute) → kind_of t c ≡ adds a → (attr (grant t s c).figures a).amount ≡ (grant_item t s c).amount
  unfolding grant grant_item
  add_shows s c a p = ap (λ (k : Kind). (attr (note_by s.figures k (total t s c)) a).amount) p ∙ amount_put s.figures a (total t s c)

  pub reading_shows : (s : Core) (c : Claim) (m : ℕ) → kind_of t c ≡ reads m →
      ((as_granted t s c).amount ≡ (grant_item t s c).amount) × ((as_granted t s c).told ≡ (grant_item t s c).told)
  unfolding grant_item
  reading_shows s c m p = (ap (λ (k : Kind). amount_by k (total t s c)) p, refl)

  -- A turn of the pass grants its claim or leaves it waiting.
  pub by_turn : (P : Passing → Type 0) (p : Passing) (c : Claim) →
      (granted t p.core p.ahead c ≡ true →
      P (record { core = grant t p.core c; ahead = p.ahead; items = p.items ++ (grant_item t p.core c ∷ []) })) →
      (granted t p.core p.ahead c ≡ false → P (record { core = p.core; ahead = p.ahead ++ (c ∷ []); items = p.items })) →
      P (turn t p c)
  unfolding turn
  by_turn P p c grants waits = by_test P (granted t p.core p.ahead c) grants waits

  -- A turn that grants appends the answer of that grant.
  pub turn_answers : (p : Passing) (c : Claim) → granted t p.core p.ahead c ≡ true →
      (turn t p c).items ≡ p.items ++ (grant_item t p.core c ∷ [])
  turn_answers p c h =
      by_turn (λ q. q.items ≡ p.items ++ (grant_item t p.core c ∷ [])) p c (λ e. refl) (λ e. absurd (true≢false (sym h ∙ e)))

  turn_extends : (p : Passing) (c : Claim) → (new : List Item) × ((turn t p c).items ≡ p.items ++ new)
  turn_extends p c =
      by_turn (λ q. (new : List Item) × (q.items ≡ p.items ++ new)) p c (λ e. (grant_item t p.core c ∷ [], refl))
      (λ e. ([], sym (append-nil p.items)))

  -- Later turns only append: the answers so far stay in front, unchanged.
  pub answers_stay : (p : Passing) (cs : List Claim) → (new : List Item) × ((pass_over t p cs).items ≡ p.items ++ new)
  unfolding pass_over
  answers_stay p [] = ([], sym (append-nil p.items))
  answers_stay p (c ∷ cs) =
      let one = turn_extends p c in
      let more = answers_stay (turn t p c) cs in
      (one.0 ++ more.0, more.1 ∙ ap (λ (l : List Item). l ++ more.0) one.1 ∙ append_assoc p.items one.0 more.0)
