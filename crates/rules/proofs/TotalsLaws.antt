-- Laws of the totals: their sum is that of the adds; and what their masks say of the entries with a method is what the table says,
-- computed for all kinds of two methods and carried over a list of claims.
use Prim.Native.Nat.{ℕ, ◌+◌, ◌≤◌}
use mathlib.Core.Bool.{Bool, true, false, not, ◌&&◌, ◌||◌}
use mathlib.Core.List.{List, [], ◌∷◌, ◌++◌}
use mathlib.Core.Path.{◌≡◌, refl, sym, ap, ◌∙◌}
use native.Mathlib.Omega.{arith}
use Rattle.num.specs.Bits.{has_bit, shares, shares_either}
use Rattle.law.specs.declared.Claim.{Claim}
use Rattle.law.specs.declared.Entry.{Entry}
use Rattle.law.specs.Base.{every_of, any_of, sum_of, All}
use Rattle.law.specs.Lists.{never_true}
use Rattle.law.specs.Types.{a0, a1, a2, Kind, sets, adds, reads}
use Rattle.law.specs.Entries.{is_always, is_never, entry_by, entry, kind_at}
use Rattle.law.specs.DiskType.{disk_table}
use Rattle.rules.specs.declared.method.Masks.{Masks}
use Rattle.rules.specs.declared.totals.Totals.{Totals}
use Rattle.rules.specs.Methods.{sets_by, adds_by, reads_by, set_mask, add_mask, read_mask}
use Rattle.rules.specs.Masks.{masks_by, masks_of}
use Rattle.rules.specs.Pairs.{add_of}
use Rattle.rules.specs.Totals.{no_totals, with_claim, totals_from, totals_of, have_say, keep_out}
use Rattle.rules.proofs.EntryLaws.{each_kind}

-- ---- the sum

sum_from : (t : Totals) (ws : List Claim) → (totals_from t ws).sum ≡ t.sum + sum_of add_of ws
unfolding totals_from with_claim
sum_from t [] = omega arith
sum_from t (w ∷ ws) = omega (arith, sum_from (with_claim t w) ws)

pub sum_is : (ws : List Claim) → (totals_of ws).sum ≡ sum_of add_of ws
sum_is ws = omega (arith, sum_from no_totals ws)

-- The totals so far are within those of all.
pub sum_within : (t : Totals) (ws : List Claim) → t.sum ≤ (totals_from t ws).sum
sum_within t ws = omega (arith, sum_from t ws)

-- ---- one claim more

pub totals_last : (t : Totals) (ws : List Claim) (c : Claim) → totals_from t (ws ++ (c ∷ [])) ≡ with_claim (totals_from t ws) c
unfolding totals_from
totals_last t [] c = refl
totals_last t (w ∷ ws) c = totals_last (with_claim t w) ws c

-- A turn of a walk over claims, of which x is the next, and its end.
pub totals_on : (t : Totals) {u : Totals} {ws rest : List Claim} {x : Claim} → ws ≡ x ∷ rest → u ≡ with_claim t x → totals_from u rest ≡ totals_from t ws
unfolding totals_from
totals_on t e h = rw (e, h)

pub totals_end : (t : Totals) {ws : List Claim} → ws ≡ [] → t ≡ totals_from t ws
unfolding totals_from
totals_end t e = rw e

-- ---- two methods, by their kinds

abbrev masks_in : Kind → Masks
masks_in k = masks_by (sets_by k) (adds_by k) (reads_by k)

-- What the masks of a kind say of the entry with another kind, and what the table says: it is not A, and it is N.
abbrev mask_says : Kind → Kind → Bool × Bool
mask_says w c = (shares (masks_in w).does (masks_in c).say, shares (masks_in w).does (masks_in c).out)

abbrev table_says : Kind → Kind → Bool × Bool
table_says w c = (not (is_always (entry_by w c)), is_never (entry_by w c))

module _ (m : ℕ) where
  -- Of one kind, with each of the eight kinds that a method may have.
  row : (w : Kind) →
      let P : Kind → Type 0 = λ c. mask_says w c ≡ table_says w c in
      P (sets a0) → P (adds a1) → P (sets a1) → P (sets a2) → P (reads 1) → P (reads 3) → P (reads 4) → P (reads 0) → P (kind_at disk_table m)
  row w p0 p1 p2 p3 p4 p5 p6 p7 = each_kind (λ c. mask_says w c ≡ table_says w c) p0 p1 p2 p3 p4 p5 p6 p7 m

  -- All pairs, computed.
  pair : (r : ℕ) → mask_says (kind_at disk_table r) (kind_at disk_table m) ≡ table_says (kind_at disk_table r) (kind_at disk_table m)
  unfolding masks_by has_bit
  pair =
      each_kind (λ w. mask_says w (kind_at disk_table m) ≡ table_says w (kind_at disk_table m))
      (row (sets a0) refl refl refl refl refl refl refl refl)
      (row (adds a1) refl refl refl refl refl refl refl refl)
      (row (sets a1) refl refl refl refl refl refl refl refl)
      (row (sets a2) refl refl refl refl refl refl refl refl)
      (row (reads 1) refl refl refl refl refl refl refl refl)
      (row (reads 3) refl refl refl refl refl refl refl refl)
      (row (reads 4) refl refl refl refl refl refl refl refl)
      (row (reads 0) refl refl refl refl refl refl refl refl)

say_pair : (m r : ℕ) → shares (masks_of r).does (masks_of m).say ≡ not (is_always (entry_by (kind_at disk_table r) (kind_at disk_table m)))
unfolding masks_of set_mask add_mask read_mask
say_pair m r = ap (λ (x : Bool × Bool). x.0) (pair m r)

out_pair : (m r : ℕ) → shares (masks_of r).does (masks_of m).out ≡ is_never (entry_by (kind_at disk_table r) (kind_at disk_table m))
unfolding masks_of set_mask add_mask read_mask
out_pair m r = ap (λ (x : Bool × Bool). x.1) (pair m r)

-- ---- over a list of claims

-- What one of the words of c's method says of each other method, the totals say of a list of claims: P holds of the entry of one.
module _ (f : Masks → ℕ) (P : Entry → Bool) (c : Claim)
    (says : (r : ℕ) → shares (masks_of r).does (f (masks_of c.method)) ≡ P (entry_by (kind_at disk_table r) (kind_at disk_table c.method))) where
  abbrev own : ℕ
  own = f (masks_of c.method)

  abbrev one : List Claim → Bool
  one = any_of (λ w. P (entry disk_table w c))

  says_from : (t : Totals) (ws : List Claim) → shares (totals_from t ws).does own ≡ (shares t.does own || one ws)
  unfolding totals_from with_claim
  says_from t [] = none (shares t.does own)
    where
      none : (b : Bool) → b ≡ (b || false)
      none true = refl
      none false = refl
  says_from t (w ∷ ws) =
      says_from (with_claim t w) ws
      ∙ ap (λ (b : Bool). b || one ws)
      (shares_either t.does (masks_of w.method).does own ∙ ap (λ (b : Bool). shares t.does own || b) (says w.method))
      ∙ group (shares t.does own) (P (entry disk_table w c)) (one ws)
    where
      group : (x y z : Bool) → ((x || y) || z) ≡ (x || (y || z))
      group true y z = refl
      group false y z = refl

-- The entry of the claim w with c is not A; it is N.
abbrev pub not_always : Claim → Claim → Bool
not_always c w = not (is_always (entry disk_table w c))

abbrev pub never : Claim → Claim → Bool
never c w = is_never (entry disk_table w c)

module _ (c : Claim) where
  -- What the masks say of a list of claims is what the table says of each of them.
  pub say_is : (ws : List Claim) → have_say (totals_of ws) c.method ≡ any_of (not_always c) ws
  unfolding have_say
  say_is = says_from (λ k. k.say) (λ e. not (is_always e)) c (say_pair c.method) no_totals

  pub out_is : (ws : List Claim) → keep_out (totals_of ws) c.method ≡ any_of (never c) ws
  unfolding keep_out
  out_is = says_from (λ k. k.out) is_never c (out_pair c.method) no_totals

  -- Where the masks say that every entry is A, it is so of each claim; where they say that one is N, not every claim lets c pass.
  pub all_always : (ws : List Claim) → have_say (totals_of ws) c.method ≡ false → All (λ w. is_always (entry disk_table w c) ≡ true) ws
  all_always ws h = go ws (sym (say_is ws) ∙ h)
    where
      one : (b o : Bool) → (not b || o) ≡ false → (b ≡ true) × (o ≡ false)
      one true o e = (refl, e)
      one false o e = never_true _ (sym e)

      go : (ws : List Claim) → any_of (not_always c) ws ≡ false → All (λ w. is_always (entry disk_table w c) ≡ true) ws
      go [] e = tt
      go (w ∷ ws) e = let o = one (is_always (entry disk_table w c)) (any_of (not_always c) ws) e in (o.0, go ws o.1)

  pub one_never : (ws : List Claim) → keep_out (totals_of ws) c.method ≡ true → every_of (λ w. not (is_never (entry disk_table w c))) ws ≡ false
  one_never ws h = go ws (sym (out_is ws) ∙ h)
    where
      one : (b o e : Bool) → (b || o) ≡ true → (o ≡ true → e ≡ false) → (not b && e) ≡ false
      one true o e g k = refl
      one false o e g k = k g

      go : (ws : List Claim) → any_of (never c) ws ≡ true → every_of (λ w. not (is_never (entry disk_table w c))) ws ≡ false
      go [] e = sym e
      go (w ∷ ws) e = one (never c w) (any_of (never c) ws) (every_of (λ v. not (is_never (entry disk_table v c))) ws) e (go ws)
