-- What the tests of a granted claim say: what a grant may rely on.
use Rattle.std.specs.Prelude.{◌≤◌, ◌<◌, true, false, ◌≡◌, length}
use Rattle.law.specs.declared.Claim.{Claim}
use Rattle.law.specs.Base.{All}
use Rattle.law.specs.Types.{places, Table, Core}
use Rattle.law.specs.Entries.{is_never, kind_of, entry}
use Rattle.law.specs.Granting.{ranged, total, limit, stays}

module _ (t : Table) where
  -- The entry of the two claims isn't N.
  abbrev pub NotNever : Claim → Claim → Type 0
  NotNever x y = is_never (entry t x y) ≡ false

  pub record MayGrant (s : Core) (c : Claim) : Type 0 where
    pub in_range : ranged t s (kind_of t c) c.value ≡ true
    pub no_never : All (λ w. NotNever w c) s.active
    pub in_limit : total t s c ≤ limit t s c
    pub all_stay : All (λ w. stays t s c w ≡ true) s.active
    pub place : length s.active < places
