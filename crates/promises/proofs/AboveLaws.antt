-- Laws for what a product above the desk relies on: what an accepted call does to the tickets, the waiting claims and the values of one
-- disk; and the call that was served on a lent board.
use Rattle.std.specs.Prelude.{ℕ, suc, ◌+◌, ◌≤◌, Bool, true, false, cond, ◌||◌, ◌⊎◌, ◌≡◌, refl, eqb, length}
use mathlib.Core.List.{List, [], ◌∷◌, ◌++◌, map}
use Rattle.std.proofs.Math.Logic.{inl, inr}
use Rattle.std.proofs.Common.{⊎_elim, sym, ap, ◌∙◌, arith, eq-eqb, eqb-true, le-ltb, length-append}
use Rattle.std.proofs.lemmas.Bool.{eqb-false}
use Rattle.std.proofs.lemmas.List.{length-map}
use Rattle.law.specs.declared.Attr.{Attr}
use Rattle.law.specs.declared.Claim.{Claim}
use Rattle.law.specs.Base.{All, Some, Pairs, any_of}
use Rattle.law.specs.Lists.{never_true, all_say, all_append, all_there, all_less, all_grown, pairs_left, pairs_right, length_more}
use Rattle.law.specs.SomeLaws.{some_left, some_right, some_map, some_less, some_more, some_without}
use Rattle.law.specs.Types.{Figures, Kind, sets, adds, reads, Attribute, attr, Core, Disk as LawDisk, Asked, accepted}
use Rattle.law.specs.Entries.{kind_of}
use Rattle.law.specs.Granting.{total, grant, grant_item, raised, as_granted}
use Rattle.law.specs.Calls.{land_by, landed, has_ticket, without, queue, item, asked, at, claim, finish, let_go, release, with_end}
use Rattle.law.specs.Sound.{claims_on, Sound}
use Rattle.law.proofs.AttributeLaws.{note_same}
use Rattle.law.proofs.QueueLaws.{queue_cases}
use Rattle.law.proofs.Events.{After, claim_after, release_after, pass_keeps}
use Rattle.law.specs.History.{Call, claims, releases, answered}
use Rattle.law.specs.DiskType.{disk_table}
use Rattle.rules.specs.Answers.{answer_of}
use Rattle.rules.specs.Methods.{is_reading}
use Rattle.desk.specs.Step.{accepts, grants_of}

-- A claim with ticket n; a claim with another.
abbrev pub Has : ℕ → Claim → Type 0
Has n w = w.ticket ≡ n

abbrev pub Other : ℕ → Claim → Type 0
Other n w = w.ticket ≡ n → ⊥

some_split : {A : Type 0} (P : A → Type 0) (xs ys : List A) → Some P (xs ++ ys) → Some P xs ⊎ Some P ys
some_split P [] ys s = inr s
some_split P (x ∷ xs) ys s = ⊎_elim (λ h. inl (inl h)) (λ h. ⊎_elim (λ k. inl (inr k)) inr (some_split P xs ys h)) s

-- ---- a claim takes the next ticket, and stands

pub claim_stands : (d : LawDisk) (q : Asked) → After (λ e items. Some (Has d.next) (claims_on e)) (claim disk_table d q)
unfolding grant
claim_stands d q =
    let c = asked d q in
    let s = at d q.now in
    claim_after disk_table (λ e items. Some (Has d.next) (claims_on e)) d q
    (λ ok g.
    some_left (Has d.next) (map (raised disk_table s c) d.core.active ++ (as_granted disk_table s c ∷ [])) d.waiting
    (some_right (Has d.next) (map (raised disk_table s c) d.core.active) (as_granted disk_table s c ∷ []) (inl refl)))
    (λ ok g.
    some_right (Has d.next) d.core.active (queue c d.waiting)
    (queue_cases (λ ws vs. Some (Has d.next) vs) c (λ xs ys. some_right (Has d.next) xs (c ∷ ys) (inl refl)) d.waiting))

-- ---- every call but its own release leaves a claim there

-- The call is not the release of ticket n.
abbrev pub NotOf : ℕ → Call → Type 0
NotOf n (claims q) = Unit {0}
NotOf n (releases now m) = m ≡ n → ⊥

module _ (n : ℕ) where
  -- Among the active claims or among those that wait.
  abbrev Either : Core → List Claim → Type 0
  Either s ws = Some (Has n) s.active ⊎ Some (Has n) ws

  -- After a grant of c: those active before stay so.
  raised_has : (s : Core) (c : Claim) → Some (Has n) s.active → Some (Has n) (grant disk_table s c).active
  unfolding grant
  raised_has s c h =
      some_left (Has n) (map (raised disk_table s c) s.active) (as_granted disk_table s c ∷ [])
      (some_map (Has n) (raised disk_table s c) s.active h)

  new_has : (s : Core) (c : Claim) → c.ticket ≡ n → Some (Has n) (grant disk_table s c).active
  unfolding grant
  new_has s c e = some_right (Has n) (map (raised disk_table s c) s.active) (as_granted disk_table s c ∷ []) (inl e)

  -- A waiting claim c is granted: it is active, the others wait on.
  grant_has : (s : Core) (ahead : List Claim) (c : Claim) (rest : List Claim) → Either s (ahead ++ (c ∷ rest)) → Either (grant disk_table s c) (ahead ++ rest)
  grant_has s ahead c rest h =
      ⊎_elim (λ x. inl (raised_has s c x))
      (λ x. go (eqb c.ticket n) refl x) h
    where
      go : (b : Bool) → eqb c.ticket n ≡ b → Some (Has n) (ahead ++ (c ∷ rest)) → Either (grant disk_table s c) (ahead ++ rest)
      go true e x = inl (new_has s c (eqb-true c.ticket n e))
      go false e x = inr (some_less (Has n) ahead c rest (eqb-false c.ticket n e) x)

  joined : (s : Core) (ws : List Claim) → Either s ws → Some (Has n) (s.active ++ ws)
  joined s ws h = ⊎_elim (some_left (Has n) s.active ws) (some_right (Has n) s.active ws) h

  pub call_keeps : (d : LawDisk) (k : Call) → NotOf n k → Some (Has n) (claims_on d) → After (λ e items. Some (Has n) (claims_on e)) (answered disk_table d k)
  unfolding finish
  call_keeps d (claims q) u h =
      let c = asked d q in
      let s = at d q.now in
      claim_after disk_table (λ e items. Some (Has n) (claims_on e)) d q
      (λ ok g. joined (grant disk_table s c) d.waiting (⊎_elim (λ x. inl (raised_has s c x)) inr (some_split (Has n) d.core.active d.waiting h)))
      (λ ok g.
      joined s (queue c d.waiting)
      (⊎_elim inl
      (λ x. inr (queue_cases (λ ws vs. Some (Has n) ws → Some (Has n) vs) c (λ xs ys. some_more (Has n) xs c ys) d.waiting x))
      (some_split (Has n) d.core.active d.waiting h)))
  call_keeps d (releases now m) u h =
      let apart : (w : Claim) → Has n w → w.ticket ≡ m → ⊥ = λ w x y. u (sym y ∙ x) in
      release_after disk_table (λ e items. Some (Has n) (claims_on e)) d now m
      (λ ok.
      joined (let_go disk_table d now m).core (let_go disk_table d now m).ahead
      (pass_keeps disk_table (λ s ws items. Either s ws) (λ s ahead c rest items g x. grant_has s ahead c rest x)
      (record { core = finish disk_table (at d now) m; ahead = []; items = [] })
      (without m d.waiting)
      (⊎_elim (λ x. inl (some_without (Has n) m d.core.active apart x)) (λ x. inr (some_without (Has n) m d.waiting apart x))
      (some_split (Has n) d.core.active d.waiting h))))

-- ---- a release takes its claim away, and goes through

without_gone : (n : ℕ) (ws : List Claim) → Pairs (λ x y. x.ticket ≡ y.ticket → ⊥) ws → All (Other n) (without n ws)
without_gone n [] p = tt
without_gone n (w ∷ ws) p = go (has_ticket n w) refl (without_gone n ws p.1)
  where
    go : (b : Bool) → has_ticket n w ≡ b → All (Other n) (without n ws) → All (Other n) (cond b ws (w ∷ without n ws))
    go true e rest = all_say (λ y. w.ticket ≡ y.ticket → ⊥) (Other n) (λ y x z. x (eqb-true w.ticket n e ∙ sym z)) ws p.0
    go false e rest = (eqb-false w.ticket n e, rest)

pub release_gone : (d : LawDisk) (now n : ℕ) → Sound disk_table d → After (λ e items. All (Other n) (claims_on e)) (release disk_table d now n)
unfolding grant finish
release_gone d now n s =
    release_after disk_table (λ e items. All (Other n) (claims_on e)) d now n
    (λ ok.
    let p =
    pass_keeps disk_table (λ u ws items. All (Other n) u.active × All (Other n) ws)
    (λ u ahead c rest items g k. (
      all_grown (raised disk_table u c) u.active (as_granted disk_table u c) (Other n) k.0 (all_there (Other n) ahead c rest k.1),
      all_less (Other n) ahead c rest k.1,
    ))
    (record { core = finish disk_table (at d now) n; ahead = []; items = [] })
    (without n d.waiting) (
      without_gone n d.core.active (pairs_left (λ x y. x.ticket ≡ y.ticket → ⊥) d.core.active d.waiting s.distinct),
      without_gone n d.waiting (pairs_right (λ x y. x.ticket ≡ y.ticket → ⊥) d.core.active d.waiting s.distinct),
    ) in
    all_append (Other n) (let_go disk_table d now n).core.active (let_go disk_table d now n).ahead p.0 p.1)

any_has : (n : ℕ) (ws : List Claim) → Some (Has n) ws → any_of (has_ticket n) ws ≡ true
any_has n [] s = absurd s
any_has n (w ∷ ws) (inl h) = rw (eq-eqb w.ticket n h)
any_has n (w ∷ ws) (inr h) = go (has_ticket n w) (any_has n ws h)
  where
    go : (b : Bool) → any_of (has_ticket n) ws ≡ true → (b || any_of (has_ticket n) ws) ≡ true
    go true e = refl
    go false e = e

pub release_goes_on : (d : LawDisk) (now n : ℕ) → d.core.clock ≤ now → Some (Has n) (claims_on d) →
    release disk_table d now n ≡ accepted (with_end disk_table d now n) (item 2 n ∷ (let_go disk_table d now n).items)
unfolding release
release_goes_on d now n early h = rw (le-ltb now d.core.clock early, there)
  where
    there : (any_of (has_ticket n) d.core.active || any_of (has_ticket n) d.waiting) ≡ true
    there = ⊎_elim (λ x. rw (any_has n d.core.active x)) (λ x. go (any_of (has_ticket n) d.core.active) (any_has n d.waiting x)) (some_split (Has n) d.core.active d.waiting h)
      where
        go : (b : Bool) → any_of (has_ticket n) d.waiting ≡ true → (b || any_of (has_ticket n) d.waiting) ≡ true
        go true e = refl
        go false e = e

-- ---- the grants of a pass and those that still wait are those that waited

pub pass_all : (d : LawDisk) (now n : ℕ) →
    After (λ e items. length (grants_of (accepts items)) + length e.waiting ≡ length (without n d.waiting)) (release disk_table d now n)
pass_all d now n =
    release_after disk_table (λ e items. length (grants_of (accepts items)) + length e.waiting ≡ length (without n d.waiting)) d now n
    (λ ok.
    let p : length (let_go disk_table d now n).items + length (let_go disk_table d now n).ahead ≡ length (without n d.waiting) =
    pass_keeps disk_table (λ u ws items. length items + length ws ≡ length (without n d.waiting))
    (λ u ahead c rest items g k.
    omega (arith, k, length-append items (grant_item disk_table u c ∷ []), length_more ahead c rest))
    (record { core = finish disk_table (at d now) n; ahead = []; items = [] })
    (without n d.waiting) (omega arith) in
    omega (arith, p, length-map (let_go disk_table d now n).items answer_of))

pub fewer_without : (n : ℕ) (ws : List Claim) → length (without n ws) ≤ length ws
fewer_without n [] = omega arith
fewer_without n (w ∷ ws) = go (has_ticket n w) (fewer_without n ws)
  where
    go : (b : Bool) → length (without n ws) ≤ length ws → length (cond b ws (w ∷ without n ws)) ≤ suc (length ws)
    go true h = omega arith
    go false h = omega (arith, h)

-- ---- a claim changes no value

pub claim_values : (d : LawDisk) (q : Asked) (x : Attribute) →
    After (λ e items. (attr e.core.figures x).value ≡ (attr d.core.figures x).value) (claim disk_table d q)
unfolding grant
claim_values d q x =
    claim_after disk_table (λ e items. (attr e.core.figures x).value ≡ (attr d.core.figures x).value) d q
    (λ ok g.
    note_same (λ (y : Attr). y.value) (λ y n. refl) d.core.figures (kind_of disk_table (asked d q)) (total disk_table (at d q.now) (asked d q)) x)
    (λ ok g. refl)

-- ---- nor does the release of a reading or of a waiting claim

land_reading : (f : Figures) (w : Claim) (k : Kind) → is_reading k ≡ true → land_by f k w ≡ f
land_reading f w (sets a) e = never_true _ e
land_reading f w (adds a) e = never_true _ e
land_reading f w (reads m) e = refl

landed_keeps : (f : Figures) (n : ℕ) (ws : List Claim) → All (λ w. w.ticket ≡ n → is_reading (kind_of disk_table w) ≡ true) ws → landed disk_table f n ws ≡ f
landed_keeps f n [] h = refl
landed_keeps f n (w ∷ ws) h = go (has_ticket n w) refl (landed_keeps f n ws h.1)
  where
    go : (b : Bool) → has_ticket n w ≡ b → landed disk_table f n ws ≡ f → cond b (land_by f (kind_of disk_table w) w) (landed disk_table f n ws) ≡ f
    go true e rest = land_reading f w (kind_of disk_table w) (h.0 (eqb-true w.ticket n e))
    go false e rest = rest

pub release_values : (d : LawDisk) (now n : ℕ) (x : Attribute) →
    All (λ w. w.ticket ≡ n → is_reading (kind_of disk_table w) ≡ true) d.core.active →
    After (λ e items. (attr e.core.figures x).value ≡ (attr d.core.figures x).value) (release disk_table d now n)
unfolding grant finish
release_values d now n x h =
    release_after disk_table (λ e items. (attr e.core.figures x).value ≡ (attr d.core.figures x).value) d now n
    (λ ok.
    pass_keeps disk_table (λ u ws items. (attr u.figures x).value ≡ (attr d.core.figures x).value)
    (λ u ahead c rest items g k. note_same (λ (y : Attr). y.value) (λ y m. refl) u.figures (kind_of disk_table c) (total disk_table u c) x ∙ k)
    (record { core = finish disk_table (at d now) n; ahead = []; items = [] })
    (without n d.waiting)
    (ap (λ (f : Figures). (attr f x).value) (landed_keeps d.core.figures n d.core.active h)))
