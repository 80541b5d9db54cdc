-- Laws of one attribute under a reading that was told z of it: the present value, and every value that the active claims can
-- still bring, are at most `share` away from z. A grant widens the share by the write's gap; an end does not widen it.
use Rattle.std.specs.Prelude.{ℕ, ◌+◌, ◌≤◌, Bool, false, cond, ◌≡◌, refl, ℤ, ◌+ℤ◌}
use Rattle.std.proofs.Math.Bool.{true}
use mathlib.Core.List.{List, [], ◌∷◌, ◌++◌, map}
use Rattle.std.proofs.Common.{ap}
use native.Mathlib.Omega.{arith}
use Rattle.num.specs.Metric.{size, dist, dist_self, dist_sym, dist_triangle, dist_add}
use Rattle.law.specs.declared.Claim.{Claim}
use Rattle.law.specs.Base.{sum_of, All}
use Rattle.law.specs.Lists.{all_say, all_there, all_less, never_true, sum_there, all_grown}
use Rattle.law.specs.Types.{Attribute, same, Kind, sets, adds, reads, Table, Figures, attr, Core}
use Rattle.law.specs.Granting.{adds_to, gap_by, adds_on, raised, as_granted}
use Rattle.law.specs.Calls.{without, land_by, landed}
use Rattle.law.proofs.AttributeLaws.{put_all, same_all, same_self}
use Rattle.law.proofs.QueueLaws.{ended_cases}
use Rattle.law.proofs.GrantLaws.{adding, adds_grown}
use Rattle.law.specs.Entries.{kind_of}

abbrev pub sets_to : Attribute → Kind → Bool
sets_to a (sets b) = same a b
sets_to a (adds b) = false
sets_to a (reads m) = false

abbrev pub writes_to : Attribute → Kind → Bool
writes_to a (sets b) = same a b
writes_to a (adds b) = same a b
writes_to a (reads m) = false

-- What a write adds to an attribute's share: its gap, if it writes that attribute.
abbrev pub gap_on : Figures → Attribute → Kind → ℤ → ℕ
gap_on f a k z = cond (writes_to a k) (gap_by f k z) 0

add_within : (f : Figures) (a : Attribute) (k : Kind) (z : ℤ) → cond (adds_to a k) (size z) 0 ≤ gap_on f a k z
add_within f a (sets b) z = omega arith
add_within f a (adds b) z = omega arith
add_within f a (reads m) z = omega arith

set_adds_none : (a : Attribute) (k : Kind) (z : ℤ) → sets_to a k ≡ true → cond (adds_to a k) (size z) 0 ≡ 0
set_adds_none a (sets b) z h = refl
set_adds_none a (adds b) z h = never_true (cond (same a b) (size z) 0 ≡ 0) h
set_adds_none a (reads m) z h = refl

set_gap : (f : Figures) (a : Attribute) (k : Kind) (z : ℤ) → sets_to a k ≡ true → gap_on f a k z ≡ dist z (attr f a).value
set_gap f a (sets b) z h =
    same_all (λ x p. p ≡ true → cond p (dist z (attr f b).value) 0 ≡ dist z (attr f x).value) b
    (λ e. refl)
    (λ x e. never_true (0 ≡ dist z (attr f x).value) e)
    a h
set_gap f a (adds b) z h = never_true (gap_on f a (adds b) z ≡ dist z (attr f a).value) h
set_gap f a (reads m) z h = never_true (0 ≡ dist z (attr f a).value) h

-- A landed set's value was within the share before; an add moves the value by as much as it takes from the sum of adds.
land_stands : (f : Figures) (z : ℤ) (share k : ℕ) (kind : Kind) (w : Claim) (a : Attribute) →
    dist z (attr f a).value + (cond (adds_to a kind) (size w.value) 0 + k) ≤ share →
    (sets_to a kind ≡ true → dist z w.value + k ≤ share) →
    dist z (attr (land_by f kind w) a).value + k ≤ share
land_stands f z share k (sets b) w =
    put_all
    (λ a x. dist z (attr f a).value + (0 + k) ≤ share → (same a b ≡ true → dist z w.value + k ≤ share) → dist z x.value + k ≤ share)
    f b _
    (λ h set. set (same_self b))
    (λ a h set. omega arith)
land_stands f z share k (adds b) w =
    put_all
    (λ a x.
    dist z (attr f a).value + (cond (same a b) (size w.value) 0 + k) ≤ share → (false ≡ true → dist z w.value + k ≤ share) →
    dist z x.value + k ≤ share)
    f b _
    (λ h set.
    omega (
      arith,
      ap (λ (p : Bool). cond p (size w.value) 0) (same_self b),
      dist_triangle z (attr f b).value ((attr f b).value +ℤ w.value),
      dist_add (attr f b).value w.value,
    ))
    (λ a h set. omega arith)
land_stands f z share k (reads m) w = λ a h set. omega arith

module _ (t : Table) (a : Attribute) where
  -- The distance from z to the present value v, and to each active set's value, is at most the share, even with all active adds on top.
  pub record Near (z : ℤ) (share : ℕ) (v : ℤ) (ws : List Claim) : Type 0 where
    pub stands : dist z v + adds_on t a ws ≤ share
    pub coming : All (λ w. sets_to a (kind_of t w) ≡ true → dist z w.value + adds_on t a ws ≤ share) ws

  -- ---- a grant

  pub near_grant : (s : Core) (c : Claim) (z : ℤ) (share : ℕ) (ws : List Claim) →
      Near z share (attr s.figures a).value ws →
      Near z (share + gap_on s.figures a (kind_of t c) c.value) (attr s.figures a).value (map (raised t s c) ws ++ (as_granted t s c ∷ []))
  near_grant s c z share ws n =
      record {
        stands = omega (arith, n.stands, sum, more);
        coming =
            all_grown (raised t s c) ws (as_granted t s c) Comes
            (all_say Came (λ w. Comes (raised t s c w)) (λ w h e. omega (arith, h e, sum, more)) ws n.coming)
            (λ e.
            omega (
              arith,
              n.stands,
              sum,
              set_adds_none a (kind_of t c) c.value e,
              set_gap s.figures a (kind_of t c) c.value e,
              dist_triangle z (attr s.figures a).value c.value,
              dist_sym (attr s.figures a).value c.value,
            ));
      }
    where
      after : List Claim
      after = map (raised t s c) ws ++ (as_granted t s c ∷ [])

      sum : adds_on t a after ≡ adds_on t a ws + adding t a c
      sum = adds_grown t a s c ws

      more : adding t a c ≤ gap_on s.figures a (kind_of t c) c.value
      more = add_within s.figures a (kind_of t c) c.value

      Came : Claim → Type 0
      Came w = sets_to a (kind_of t w) ≡ true → dist z w.value + adds_on t a ws ≤ share

      Comes : Claim → Type 0
      Comes w =
          sets_to a (kind_of t w) ≡ true → dist z w.value + adds_on t a after ≤ share + gap_on s.figures a (kind_of t c) c.value

  -- ---- the grant of the reading itself: each share is the sum of the gaps of the active writes

  unfoldable pub share_of : Figures → List Claim → ℕ
  share_of f ws = sum_of (λ w. gap_on f a (kind_of t w) w.value) ws

  adds_shared : (f : Figures) (ws : List Claim) → adds_on t a ws ≤ share_of f ws
  unfolding share_of
  adds_shared f [] = omega arith
  adds_shared f (w ∷ ws) = omega (arith, adds_shared f ws, add_within f a (kind_of t w) w.value)

  -- The distance to an active set plus all active adds is at most the sum of the gaps.
  sets_shared : (f : Figures) (ws : List Claim) →
      All (λ w. sets_to a (kind_of t w) ≡ true → dist (attr f a).value w.value + adds_on t a ws ≤ share_of f ws) ws
  unfolding share_of
  sets_shared f [] = tt
  sets_shared f (x ∷ ws) = (
    λ e.
        omega (
          arith,
          adds_shared f ws,
          set_adds_none a (kind_of t x) x.value e,
          set_gap f a (kind_of t x) x.value e,
          dist_sym (attr f a).value x.value,
        ),
    all_say
        (λ w. sets_to a (kind_of t w) ≡ true → dist (attr f a).value w.value + adds_on t a ws ≤ share_of f ws)
        (λ w. sets_to a (kind_of t w) ≡ true → dist (attr f a).value w.value + adds_on t a (x ∷ ws) ≤ share_of f (x ∷ ws))
        (λ w h e. omega (arith, h e, add_within f a (kind_of t x) x.value))
        ws
        (sets_shared f ws),
  )

  pub near_start : (f : Figures) (ws : List Claim) → Near (attr f a).value (share_of f ws) (attr f a).value ws
  near_start f ws =
      record { stands = omega (arith, dist_self (attr f a).value, adds_shared f ws); coming = sets_shared f ws }

  -- ---- an end

  pub near_end : (f : Figures) (n : ℕ) (z : ℤ) (share : ℕ) (ws : List Claim) →
      Near z share (attr f a).value ws → Near z share (attr (landed t f n ws) a).value (without n ws)
  near_end f n z share ws =
      ended_cases t (λ us g vs. Near z share (attr f a).value us → Near z share (attr g a).value vs) f n (λ us h. h) one ws
    where
      Comes : List Claim → Claim → Type 0
      Comes us w = sets_to a (kind_of t w) ≡ true → dist z w.value + adds_on t a us ≤ share

      one : (xs : List Claim) (w : Claim) (ys : List Claim) → Near z share (attr f a).value (xs ++ (w ∷ ys)) →
          Near z share (attr (land_by f (kind_of t w) w) a).value (xs ++ ys)
      one xs w ys h =
          let sum = sum_there (adding t a) xs w ys in
          let fewer = all_say (Comes (xs ++ (w ∷ ys))) (Comes (xs ++ ys)) (λ v k e. omega (arith, k e)) (xs ++ (w ∷ ys)) h.coming in
          record {
            stands =
                land_stands f z share (adds_on t a (xs ++ ys)) (kind_of t w) w a
                (omega (arith, h.stands))
                (all_there (Comes (xs ++ ys)) xs w ys fewer);
            coming = all_less (Comes (xs ++ ys)) xs w ys fewer;
          }
