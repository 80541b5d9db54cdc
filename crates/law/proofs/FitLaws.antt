-- Laws of soundness in the middle of a call: what the figures and claims of a disk meet, with the waiting claims in any order.
-- A later clock, a new claim, a grant and an end each keep it; calls are made of these.
use Rattle.std.specs.Prelude.{ℕ, ◌+◌, ◌≤◌, Bool, true, cond, List, ◌∷◌, ◌++◌, ◌≡◌, refl, length}
use Rattle.std.proofs.Common.{ap, subst, arith}
use Rattle.num.specs.Metric.{size}
use Rattle.law.specs.declared.Claim.{Claim}
use Rattle.law.specs.Base.{All, Pairs}
use Rattle.law.specs.Lists.{all_both, all_there, all_less, pairs_less, sum-zero, length_grown, length_more, all_more, pairs_around, sum_there, all_grown, pairs_grown}
use Rattle.law.specs.Types.{last_ticket, places, Attribute, sets, Table, Proper, attr, Core}
use Rattle.law.specs.Granting.{told_by, amount_by, adds_on, total, gap, growth, stays, granted, raised, as_granted, grant}
use Rattle.law.specs.Calls.{land_by, set_clock, finish}
use Rattle.law.specs.Sound.{Bare, Formed, Passes}
use Rattle.law.proofs.AttributeLaws.{sum_less}
use Rattle.law.proofs.QueueLaws.{ended_cases}
use Rattle.law.proofs.ClaimLaws.{ClaimsFit, note_limits, land_limits, claims_kept, claims_end, claims_leave, claims_new, claims_grant}
use Rattle.law.proofs.FigureLaws.{AttrFits, attr_kept, grant_sum, note_attrs, land_attrs, ActiveFits, raised_fits, granted_fits, no_add_behind, no_add_before}
use Rattle.law.proofs.ProperLaws.{proper_kind_lem}
use Rattle.law.specs.MayGrant.{NotNever}
use Rattle.law.proofs.GrantLaws.{grant_says, adding, adds_grown}
use Rattle.law.specs.Entries.{kind_of}

module _ (t : Table) where
  -- Everything in Sound except the number and order of the waiting claims.
  pub record Fit (s : Core) (ws : List Claim) (next : ℕ) : Type 0 where
    pub attrs : (a : Attribute) → AttrFits s.clock a (attr s.figures a) (adds_on t a s.active)
    pub actives : All (λ c. ActiveFits (kind_of t c) c) s.active
    pub no_never : Pairs (NotNever t) s.active
    pub few : length s.active ≤ places
    pub bare : All Bare ws
    pub claims : ClaimsFit t s.figures s.clock next s.active ws

  -- ---- a later clock, a new claim, a waiting claim that ends

  pub fit_clock : {s : Core} {ws : List Claim} {next : ℕ} (now : ℕ) → s.clock ≤ now → Fit s ws next → Fit (set_clock now s) ws next
  fit_clock now l h =
      record {
        attrs = λ a. attr_kept (h.attrs a) l (h.attrs a).sum;
        actives = h.actives;
        no_never = h.no_never;
        few = h.few;
        bare = h.bare;
        claims = claims_kept t (λ a. refl) l h.claims;
      }

  pub fit_new : {s : Core} {next : ℕ} (xs ys : List Claim) (c : Claim) → c.ticket ≡ next → next ≤ last_ticket → Bare c → Formed c →
      Passes t s.figures s.clock c → Fit s (xs ++ ys) next → Fit s (xs ++ (c ∷ ys)) (next + 1)
  fit_new xs ys c e room bare formed passes h =
      record {
        attrs = h.attrs;
        actives = h.actives;
        no_never = h.no_never;
        few = h.few;
        bare = all_more Bare xs c ys bare h.bare;
        claims = claims_new t xs ys c e room formed passes h.claims;
      }

  pub fit_leave : {s : Core} {next : ℕ} (xs : List Claim) (w : Claim) (ys : List Claim) → Fit s (xs ++ (w ∷ ys)) next → Fit s (xs ++ ys) next
  fit_leave xs w ys h =
      record {
        attrs = h.attrs;
        actives = h.actives;
        no_never = h.no_never;
        few = h.few;
        bare = all_less Bare xs w ys h.bare;
        claims = claims_leave t xs w ys h.claims;
      }

  -- ---- an active claim that ends

  module _ (proper : Proper t) where
    fit_end : (s : Core) {ws : List Claim} {next : ℕ} (xs : List Claim) (w : Claim) (ys : List Claim) →
        Fit (record { clock = s.clock; figures = s.figures; active = xs ++ (w ∷ ys) }) ws next →
        Fit (record { clock = s.clock; figures = land_by s.figures (kind_of t w) w; active = xs ++ ys }) ws next
    fit_end s xs w ys h =
        record {
          attrs =
              land_attrs s.figures (λ a. adds_on t a (xs ++ ys)) (kind_of t w) w (proper_kind_lem t proper w.method)
              (all_there _ xs w ys h.claims.active).passes.fields
              none
              (λ a. subst (AttrFits s.clock a (attr s.figures a)) (sum_there (adding t a) xs w ys) (h.attrs a));
          actives = all_less _ xs w ys h.actives;
          no_never = pairs_less (NotNever t) xs w ys h.no_never;
          few = omega (arith, length_more xs w ys, h.few);
          bare = h.bare;
          claims = claims_kept t (land_limits s.figures (kind_of t w) w) (omega arith) (claims_end t xs w ys h.claims);
        }
      where
        -- if the claim is a set, none of the others adds to its attribute
        none : (a : Attribute) → kind_of t w ≡ sets a → adds_on t a (xs ++ ys) ≡ 0
        none a e =
            sum-zero (adding t a) (xs ++ ys)
            (pairs_around (NotNever t) (λ v. adding t a v ≡ 0) xs w ys
            (λ v i. ap (λ (p : Bool). cond p (size v.value) 0) (no_add_before a (kind_of t v) (rw e at i)))
            (λ v i. ap (λ (p : Bool). cond p (size v.value) 0) (no_add_behind a (kind_of t v) (rw e at i)))
            h.no_never)

    -- The claim with ticket n ends, if it is active.
    pub fit_finish : {s : Core} {ws : List Claim} {next : ℕ} (n : ℕ) → Fit s ws next → Fit (finish t s n) ws next
    unfolding finish
    fit_finish {s} {ws} {next} n h =
        ended_cases t
        (λ us f vs.
        Fit (record { clock = s.clock; figures = s.figures; active = us }) ws next →
        Fit (record { clock = s.clock; figures = f; active = vs }) ws next)
        s.figures n (λ us k. k) (λ xs w ys. fit_end s xs w ys) s.active h

  -- ---- a grant

  pub fit_grant : Proper t → {s : Core} {next : ℕ} (ahead : List Claim) (c : Claim) (xs ys : List Claim) → granted t s ahead c ≡ true →
      Fit s (xs ++ (c ∷ ys)) next → Fit (grant t s c) (xs ++ ys) next
  unfolding grant
  fit_grant proper {s} ahead c xs ys g h =
      let may = grant_says t s ahead c g in
      record {
        attrs =
            note_attrs s.figures _ (kind_of t c) c.error (total t s c) may.in_limit
            (λ a.
            attr_kept (h.attrs a) (omega arith)
            (sum_less a _ _ (omega (arith, adds_grown t a s c s.active))
            (grant_sum t s (kind_of t c) c.value may.in_range (λ b. (h.attrs b).sum) a)));
        actives =
            all_grown (raised t s c) s.active (as_granted t s c) (λ w. ActiveFits (kind_of t w) w)
            (all_both (λ w. stays t s c w ≡ true) (λ w. ActiveFits (kind_of t w) w) _
            (λ w. raised_fits (kind_of t w) (kind_of t c) w (c.error + gap t s c)) s.active may.all_stay h.actives)
            (granted_fits s.figures (kind_of t c) c (total t s c) (proper_kind_lem t proper c.method) (λ a. (h.attrs a).value) may.in_limit);
        no_never = pairs_grown (raised t s c) s.active (as_granted t s c) (NotNever t) (λ x y e. e) h.no_never may.no_never;
        few = omega (arith, length_grown (raised t s c) s.active (as_granted t s c), may.place);
        bare = all_less Bare xs c ys h.bare;
        claims =
            claims_kept t (note_limits s.figures (kind_of t c) (total t s c)) (omega arith)
            (claims_grant t xs c ys (told_by s.figures (kind_of t c)) (amount_by (kind_of t c) (total t s c)) (growth t s c) h.claims);
      }
