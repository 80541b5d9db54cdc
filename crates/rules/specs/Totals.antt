-- What claims come to together, and what their masks say of their entries with a method. (TotalsLaws: what the table says.)
use Rattle.std.specs.Prelude.{ℕ, ◌+◌, Bool, List, [], ◌∷◌}
use Rattle.std.specs.Int.Bits.{bit_or}
use Rattle.num.specs.Bits.{shares}
use Rattle.law.specs.declared.Claim.{Claim}
use Rattle.rules.specs.declared.totals.Totals.{Totals}
use Rattle.rules.specs.Masks.{masks_of}
use Rattle.rules.specs.Pairs.{add_of}

-- The totals of no claims.
abbrev pub no_totals : Totals
no_totals = record { sum = 0; does = 0 }

-- The totals with one claim more: the sum of |d| over the adds, and the masks of what the claims set, add to and read.
unfoldable pub with_claim : Totals → Claim → Totals
with_claim t c = record { sum = t.sum + add_of c; does = bit_or t.does (masks_of c.method).does }

-- The totals of claims, added to others.
unfoldable pub totals_from : Totals → List Claim → Totals
totals_from t [] = t
totals_from t (c ∷ cs) = totals_from (with_claim t c) cs

-- The totals of claims.
abbrev pub totals_of : List Claim → Totals
totals_of cs = totals_from no_totals cs

-- One of the claims has an entry other than A with method m.
unfoldable pub have_say : Totals → ℕ → Bool
have_say t m = shares t.does (masks_of m).say

-- One of the claims has entry N with method m.
unfoldable pub keep_out : Totals → ℕ → Bool
keep_out t m = shares t.does (masks_of m).out
