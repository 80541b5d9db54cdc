-- Laws of ranges: what a sound disk holds has a place in a part.
use Rattle.std.specs.Prelude.{ℕ, ◌^◌, ◌≤◌, ◌<◌, List, [], ◌∷◌, ◌≡◌, refl, ℤ, length}
use Rattle.std.proofs.Common.{ap, arith}
use Rattle.std.specs.Int.Signed.{mag}
use Rattle.std.specs.Int.{w32}
use Rattle.num.specs.Metric.{size}
use Rattle.num.specs.Fits.{size_fits}
use Rattle.law.specs.declared.Claim.{Claim}
use Rattle.law.specs.Base.{All}
use Rattle.law.specs.Lists.{all_left, all_right}
use Rattle.law.specs.Types.{most_error, Attribute, Kind, sets, adds, reads, attr, Disk as LawDisk}
use Rattle.law.specs.Entries.{kind_of}
use Rattle.law.specs.Sound.{Bare, BareBy, ReadingBy, Formed, Passes, Sound}
use Rattle.law.specs.DiskType.{disk_table}
use Rattle.rules.proofs.RangeLaws.{limit_most, error_most, value_size, fields_size}
use Rattle.part.specs.Layout.{ClaimFits, AttrFits}

-- A figure of at most 2,000,000,000 has a place.
placed : (z : ℤ) → size z ≤ most_error → mag z < 2 ^ 31
placed z h = (size_fits w32 z (omega arith)).sfits

methods : length disk_table.kinds ≡ 7
unfolding disk_table
methods = refl

-- Told and amount of a claim are in range.
pub record Reads (c : Claim) : Type 0 where
  pub told : size c.told ≤ most_error
  pub amount : c.amount ≤ most_error

bare_reads : (c : Claim) → Bare c → Reads c
bare_reads c b = record { told = omega (arith, ap size b.0); amount = omega (arith, b.1) }

active_reads : (now : ℕ) (k : Kind) (c : Claim) → BareBy k c → ReadingBy k c → c.error ≤ most_error → Reads c
active_reads now (sets a) c b r e = bare_reads c b
active_reads now (adds a) c b r e = bare_reads c b
active_reads now (reads m) c b r e = record { told = r.0; amount = omega (arith, r.1) }

module _ (d : LawDisk) (s : Sound disk_table d) (t : d.core.clock < 2 ^ 32) where
  -- A claim of the disk has a place, if told and amount have.
  claim_fits : (c : Claim) → Formed c → c.measured ≤ d.core.clock → c.ticket < d.next →
      Passes disk_table d.core.figures d.core.clock c → Reads c → ClaimFits c
  claim_fits c f m n p r =
      record {
        ticket = omega (arith, n, s.next_last);
        method = omega (arith, p.method, methods);
        priority = omega (arith, f.0);
        flag = omega (arith, f.1);
        measured = omega (arith, m, t);
        value = placed c.value (omega (arith, fields_size d.core.clock (kind_of disk_table c) c p.fields));
        error = omega (arith, error_most d.core.clock (kind_of disk_table c) c p.fields);
        told = placed c.told r.told;
        amount = omega (arith, r.amount);
      }

  -- So have lists of such claims.
  all_fit : (cs : List Claim) → All Formed cs → All (λ c. c.measured ≤ d.core.clock) cs → All (λ c. c.ticket < d.next) cs →
      All (Passes disk_table d.core.figures d.core.clock) cs → All Reads cs → All ClaimFits cs
  all_fit [] f m n p r = tt
  all_fit (c ∷ cs) f m n p r =
      (claim_fits c f.0 m.0 n.0 p.0 r.0, all_fit cs f.1 m.1 n.1 p.1 r.1)

  pub active_fits_lem : All ClaimFits d.core.active
  active_fits_lem =
      all_fit d.core.active
      (all_left _ d.core.active d.waiting s.all_formed)
      (all_left _ d.core.active d.waiting s.seconds)
      (all_left _ d.core.active d.waiting s.ticket_below)
      (all_left _ d.core.active d.waiting s.all_pass)
      (read d.core.active s.bare_active s.readings (all_left _ d.core.active d.waiting s.all_pass))
    where
      read : (cs : List Claim) → All (λ c. BareBy (kind_of disk_table c) c) cs → All (λ c. ReadingBy (kind_of disk_table c) c) cs →
          All (Passes disk_table d.core.figures d.core.clock) cs → All Reads cs
      read [] b r p = tt
      read (c ∷ cs) b r p = (
        active_reads d.core.clock (kind_of disk_table c) c b.0 r.0
            (error_most d.core.clock (kind_of disk_table c) c p.0.fields),
        read cs b.1 r.1 p.1,
      )

  pub waiting_fits_lem : All ClaimFits d.waiting
  waiting_fits_lem =
      all_fit d.waiting
      (all_right _ d.core.active d.waiting s.all_formed)
      (all_right _ d.core.active d.waiting s.seconds)
      (all_right _ d.core.active d.waiting s.ticket_below)
      (all_right _ d.core.active d.waiting s.all_pass)
      (read d.waiting s.bare_waiting)
    where
      read : (cs : List Claim) → All Bare cs → All Reads cs
      read [] b = tt
      read (c ∷ cs) b = (bare_reads c b.0, read cs b.1)

  -- And each attribute.
  pub attr_fits : (a : Attribute) → AttrFits (attr d.core.figures a)
  attr_fits a =
      record {
        value = placed (attr d.core.figures a).value (omega (arith, value_size a (attr d.core.figures a).value (s.values a)));
        stamp = omega (arith, s.stamps a, t);
        amount = omega (arith, s.amounts a, limit_most a (attr d.core.figures a).limit (s.limits a));
        limit = omega (arith, limit_most a (attr d.core.figures a).limit (s.limits a));
      }
