-- Laws of the active claims two by two: none is kept out by the totals of those before it exactly where no two have entry N. And of
-- the walk over them.
use Prim.Native.Nat.{ℕ, ◌+◌}
use mathlib.Core.Bool.{Bool, true, false, cond, not, ◌&&◌, ◌||◌, and-false}
use mathlib.Core.List.{List, [], ◌∷◌, ◌++◌}
use mathlib.Core.Path.{◌≡◌, refl, ap, ◌∙◌}
use native.Mathlib.Omega.{arith}
use lib.Dec.{leb}
use Rattle.std.specs.Prelude.{Option, Some, None}
use Rattle.law.specs.declared.Claim.{Claim}
use Rattle.law.specs.Base.{all_true, every_of, every_pair, any_of}
use Rattle.law.specs.Types.{most_value}
use Rattle.rules.specs.declared.totals.Totals.{Totals}
use Rattle.rules.specs.Pairs.{add_of}
use Rattle.rules.specs.Totals.{no_totals, with_claim, totals_from, totals_of, keep_out}
use Rattle.rules.proofs.EntryLaws.{last_test}
use Rattle.rules.proofs.TotalsLaws.{never, out_is, totals_last}
use Rattle.sound.specs.declared.active.Walked.{Walked}
use Rattle.sound.specs.Tests.{meets}
use Rattle.sound.specs.Seen.{no_marks, with_ticket, marks_from}
use Rattle.sound.proofs.WalkLaws.{every_true, every_and}

-- None of the claims is kept out by the totals of those before it, which begin with t.
unfoldable pub meet_from : Totals → List Claim → Bool
meet_from t [] = true
meet_from t (c ∷ cs) = not (keep_out t c.method) && meet_from (with_claim t c) cs

pub sum_more : (t : Totals) (c : Claim) → (with_claim t c).sum ≡ t.sum + add_of c
unfolding with_claim
sum_more t c = refl

-- A turn of the walk, with the claim x.
module _ (t : Totals) {u : Totals} {xs rest : List Claim} {x : Claim} (e : xs ≡ x ∷ rest) (w : u ≡ with_claim t x) where
  pub sum_on : u.sum ≡ t.sum + add_of x
  unfolding with_claim
  sum_on = ap (λ (v : Totals). v.sum) w

  pub totals_on : totals_from u rest ≡ totals_from t xs
  unfolding totals_from
  totals_on = rw (e, w)

  pub meet_on : keep_out t x.method ≡ false → meet_from u rest ≡ meet_from t xs
  unfolding meet_from
  meet_on h = rw (e, w, h)

pub meet_not : (t : Totals) {xs rest : List Claim} {x : Claim} → xs ≡ x ∷ rest → keep_out t x.method ≡ true → meet_from t xs ≡ false
unfolding meet_from
meet_not t e h = rw (e, h)

-- No claim of vs has entry N with c.
abbrev let_in : List Claim → Claim → Bool
let_in vs c = not (any_of (never c) vs)

let_more : (c w : Claim) (vs : List Claim) → let_in (vs ++ (w ∷ [])) c ≡ (let_in vs c && meets w c)
let_more c w [] = last (never c w)
  where
    last : (b : Bool) → not (b || false) ≡ not b
    last true = refl
    last false = refl
let_more c w (v ∷ vs) = first (never c v) (any_of (never c) (vs ++ (w ∷ []))) (any_of (never c) vs) (let_more c w vs)
  where
    first : (b x y : Bool) → not x ≡ (not y && meets w c) → not (b || x) ≡ (not (b || y) && meets w c)
    first true x y e = refl
    first false x y e = e

every_more : (w : Claim) (vs cs : List Claim) → every_of (let_in (vs ++ (w ∷ []))) cs ≡ (every_of (let_in vs) cs && every_of (meets w) cs)
every_more w vs cs = (λ i. every_of (λ c. let_more c w vs i) cs) ∙ every_and (let_in vs) (meets w) cs

meet_from_lem : (vs ws : List Claim) → meet_from (totals_of vs) ws ≡ (every_of (let_in vs) ws && every_pair meets ws)
unfolding meet_from
meet_from_lem vs [] = refl
meet_from_lem vs (w ∷ ws) =
    rw (out_is w vs, ← totals_last no_totals vs w, meet_from_lem (vs ++ (w ∷ [])) ws, every_more w vs ws)
    (grind arith)

pub meets_is : (ws : List Claim) → meet_from no_totals ws ≡ every_pair meets ws
unfolding totals_from
meets_is ws = meet_from_lem [] ws ∙ ap (λ (b : Bool). b && every_pair meets ws) (every_true ws)

-- ---- the walk over the active claims, each of which passes p, with a size of promised

-- What has been seen before the first claim.
pub seen_none : (w : Walked) → ((w.totals.sum ≡ 0) × (w.totals.does ≡ 0)) × ((w.marks.met ≡ 0) × (w.marks.again ≡ 0)) →
    w ≡ record { totals = no_totals; marks = no_marks }
seen_none w h = λ i. record { totals = record { sum = h.0.0 i; does = h.0.1 i }; marks = record { met = h.1.0 i; again = h.1.1 i } }

-- What it comes to, from what it has seen on.
unfoldable pub walked : (Claim → Bool) → ℕ → Walked → List Claim → Option Walked
walked p size w xs =
    cond
    (all_true (every_of p xs ∷ meet_from w.totals xs ∷ leb (size + (totals_from w.totals xs).sum) most_value ∷ []))
    (Some (record { totals = totals_from w.totals xs; marks = marks_from w.marks xs }))
    None

-- A turn of it, with the claim x; and the end.
module _ (p : Claim → Bool) (size : ℕ) (w : Walked) {xs rest : List Claim} {x : Claim} (e : xs ≡ x ∷ rest) where
  pub walked_on : p x ≡ true → keep_out w.totals x.method ≡ false →
      walked p size (record { totals = with_claim w.totals x; marks = with_ticket w.marks x }) rest ≡ walked p size w xs
  unfolding walked meet_from totals_from marks_from
  walked_on h k = rw (e, h, k)

  pub unfit : p x ≡ false → None ≡ walked p size w xs
  unfolding walked
  unfit h = rw (e, h)

  pub kept_out : keep_out w.totals x.method ≡ true → None ≡ walked p size w xs
  unfolding walked meet_from
  kept_out k = rw (e, k, and-false (every_of p (x ∷ rest)))

pub walked_end : (p : Claim → Bool) (size : ℕ) (w : Walked) {xs : List Claim} → xs ≡ [] →
    cond (leb (size + w.totals.sum) most_value) (Some w) None ≡ walked p size w xs
unfolding walked meet_from totals_from marks_from
walked_end p size w e = rw (e, ← last_test (leb (size + w.totals.sum) most_value))
