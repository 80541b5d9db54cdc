-- Laws of figures and active claims by the kind of a method: figures and claims stay in range after a grant (amounts noted and raised,
-- sums told) and after an end (values landed). The lock step's tests bound the amounts, the preconditions bound the sums.
use Rattle.std.specs.Prelude.{ℕ, ◌+◌, ◌≤◌, Bool, true, false, cond, ◌≡◌, refl, leb, ℤ, ◌+ℤ◌}
use Rattle.std.proofs.Common.{ap, ◌∙◌, arith, leb-true}
use Rattle.num.specs.Metric.{size, size_add}
use Rattle.law.specs.declared.Attr.{Attr}
use Rattle.law.specs.declared.Claim.{Claim}
use Rattle.law.specs.declared.Entry.{Entry}
use Rattle.law.specs.declared.Entry.TheVariants.{A, N, D, G}
use Rattle.law.specs.Types.{most_value, Attribute, metric, same, Kind, sets, adds, reads, proper_kind, Figures, attr, put_attr, Table, Core}
use Rattle.law.specs.Granting.{adds_to, limit_by, raises_by, with_amount, note_by, told_by, amount_by, put_told, adds_on, ranged}
use Rattle.law.specs.Calls.{land_by}
use Rattle.law.specs.Sound.{BareBy, ReadingBy, LimitFits, SumFits}
use Rattle.law.specs.Fields.{ValueFits, FieldsFit}
use Rattle.law.proofs.AttributeLaws.{put_all, same_all, same_self, same_turned, sum_less, sum_most, value_sum, sum_value, told_range}
use Rattle.law.specs.Entries.{entry_by, is_never}

-- ---- attributes

-- What an attribute meets, if the active adds to it sum to `adding`.
pub record AttrFits (now : ℕ) (a : Attribute) (x : Attr) (adding : ℕ) : Type 0 where
  pub value : ValueFits a x.value
  pub limit : LimitFits a x.limit
  pub amount : x.amount ≤ x.limit
  pub stamp : x.stamp ≤ now
  pub sum : SumFits a (size x.value + adding)

-- The same at a later second, with another sum of adds.
pub attr_kept : {now later : ℕ} {a : Attribute} {x : Attr} {n m : ℕ} → AttrFits now a x n → now ≤ later → SumFits a (size x.value + m) →
    AttrFits later a x m
attr_kept h l e =
    record { value = h.value; limit = h.limit; amount = h.amount; stamp = omega (arith, h.stamp); sum = e }

-- What a claim of kind k and value z adds to the sum of attribute a.
abbrev pub adds_by : Attribute → Kind → ℤ → ℕ
adds_by a k z = cond (adds_to a k) (size z) 0

-- If (d) holds for an add, the sum with it is in range.
pub grant_sum : (t : Table) (s : Core) (k : Kind) (z : ℤ) → ranged t s k z ≡ true →
    ((a : Attribute) → SumFits a (size (attr s.figures a).value + adds_on t a s.active)) →
    (a : Attribute) → SumFits a (size (attr s.figures a).value + (adds_on t a s.active + adds_by a k z))
grant_sum t s (sets b) z r h = λ a. sum_less a _ _ (omega arith) (h a)
grant_sum t s (adds b) z r h =
    same_all
    (λ a p. SumFits a (size (attr s.figures a).value + (adds_on t a s.active + cond p (size z) 0)))
    b
    (sum_most b _ (omega (arith, leb-true (size (attr s.figures b).value + adds_on t b s.active + size z) most_value r)))
    (λ a. sum_less a _ _ (omega arith) (h a))
grant_sum t s (reads m) z r h = λ a. sum_less a _ _ (omega arith) (h a)

module _ (f : Figures) {now : ℕ} (adding : Attribute → ℕ) where
  -- Noting a total that is within the limit.
  amount_attrs : (b : Attribute) (n : ℕ) → n ≤ (attr f b).limit → ((a : Attribute) → AttrFits now a (attr f a) (adding a)) →
      (a : Attribute) → AttrFits now a (attr (put_attr f b (with_amount (attr f b) n)) a) (adding a)
  amount_attrs b n l h =
      put_all (λ a x. AttrFits now a x (adding a)) f b _
      (record { value = (h b).value; limit = (h b).limit; amount = l; stamp = (h b).stamp; sum = (h b).sum })
      h

  pub note_attrs : (k : Kind) (own n : ℕ) → n ≤ limit_by f k own → ((a : Attribute) → AttrFits now a (attr f a) (adding a)) →
      (a : Attribute) → AttrFits now a (attr (note_by f k n) a) (adding a)
  note_attrs (sets b) own n l h = amount_attrs b n l h
  note_attrs (adds b) own n l h = amount_attrs b n l h
  note_attrs (reads m) own n l h = h

  -- The same with fewer adds.
  attrs_less : (more : Attribute → ℕ) → ((a : Attribute) → AttrFits now a (attr f a) (more a + adding a)) →
      (a : Attribute) → AttrFits now a (attr f a) (adding a)
  attrs_less more h a = attr_kept (h a) (omega arith) (sum_less a _ _ (omega arith) (h a).sum)

  -- A set's value lands only where no add is active; an add's value moves from the sum of adds into the attribute.
  pub land_attrs : (k : Kind) (w : Claim) → proper_kind k ≡ true → FieldsFit now k w → ((a : Attribute) → k ≡ sets a → adding a ≡ 0) →
      ((a : Attribute) → AttrFits now a (attr f a) (adds_by a k w.value + adding a)) →
      (a : Attribute) → AttrFits now a (attr (land_by f k w) a) (adding a)
  land_attrs (sets b) w proper fields none h =
      put_all (λ a x. AttrFits now a x (adding a)) f b _
      (record {
        value = fields.0;
        limit = (h b).limit;
        amount = (h b).amount;
        stamp = fields.2;
        sum = value_sum b w.value (adding b) (none b refl) fields.0;
      })
      (attrs_less (λ a. adds_by a (sets b) w.value) h)
  land_attrs (adds b) w proper fields none h =
      put_all (λ a x. AttrFits now a x (adding a)) f b _
      (record {
        value = sum_value b ((attr f b).value +ℤ w.value) (adding b) proper sum;
        limit = (h b).limit;
        amount = (h b).amount;
        stamp = (h b).stamp;
        sum = sum;
      })
      (attrs_less (λ a. adds_by a (adds b) w.value) h)
    where
      moved : adds_by b (adds b) w.value ≡ size w.value
      moved = ap (λ (p : Bool). cond p (size w.value) 0) (same_self b)

      sum : SumFits b (size ((attr f b).value +ℤ w.value) + adding b)
      sum = sum_less b _ _ (omega (arith, moved, size_add (attr f b).value w.value)) (h b).sum
  land_attrs (reads m) w proper fields none h = attrs_less (λ a. adds_by a (reads m) w.value) h

-- ---- active claims

-- What an active claim of kind k meets.
pub record ActiveFits (k : Kind) (c : Claim) : Type 0 where
  pub bare : BareBy k c
  pub reading : ReadingBy k c

-- A requested reading raises no amount, and no request raises an active write's.
raises_asked : (e : Entry) (m : ℕ) → raises_by e (reads m) ≡ false
raises_asked A m = refl
raises_asked N m = refl
raises_asked D m = refl
raises_asked G m = refl

raises_never : (p : Bool) (k : Kind) → raises_by (cond p N A) k ≡ false
raises_never true k = refl
raises_never false k = refl

raises_set : (a : Attribute) (k : Kind) → raises_by (entry_by (sets a) k) k ≡ false
raises_set a (sets b) = go (same a b) (metric a)
  where
    go : (p q : Bool) → raises_by (cond p (cond q D N) A) (sets b) ≡ false
    go true true = refl
    go true false = refl
    go false q = refl
raises_set a (adds b) = raises_never (same a b) (adds b)
raises_set a (reads m) = raises_asked (entry_by (sets a) (reads m)) m

raises_add : (a : Attribute) (k : Kind) → raises_by (entry_by (adds a) k) k ≡ false
raises_add a (sets b) = raises_never (same a b) (sets b)
raises_add a (adds b) = refl
raises_add a (reads m) = raises_asked (entry_by (adds a) (reads m)) m

-- An active claim whose growth passes the test still fits.
pub raised_fits : (k r : Kind) (w : Claim) (more : ℕ) →
    cond (raises_by (entry_by k r) r) (leb (w.amount + cond (raises_by (entry_by k r) r) more 0) w.error) true ≡ true →
    ActiveFits k w → ActiveFits k (put_told w w.told (w.amount + cond (raises_by (entry_by k r) r) more 0))
raised_fits (sets a) r w more e h = record { bare = (h.bare.0, rw (raises_set a r) (omega (arith, h.bare.1))); reading = tt }
raised_fits (adds a) r w more e h = record { bare = (h.bare.0, rw (raises_add a r) (omega (arith, h.bare.1))); reading = tt }
raised_fits (reads m) r w more e h = record { bare = tt; reading = (h.reading.0, go (raises_by (entry_by (reads m) r) r) e) }
  where
    go : (p : Bool) → cond p (leb (w.amount + cond p more 0) w.error) true ≡ true → w.amount + cond p more 0 ≤ w.error
    go true e = leb-true (w.amount + more) w.error e
    go false e = omega (arith, h.reading.1)

-- A granted reading is told a sum in range, and its total is within its limit; a granted write has told and amount 0.
pub granted_fits : (f : Figures) (k : Kind) (c : Claim) (n : ℕ) → proper_kind k ≡ true → ((a : Attribute) → ValueFits a (attr f a).value) →
    n ≤ limit_by f k c.error → ActiveFits k (put_told c (told_by f k) (amount_by k n))
granted_fits f (sets a) c n proper h l = record { bare = (refl, refl); reading = tt }
granted_fits f (adds a) c n proper h l = record { bare = (refl, refl); reading = tt }
granted_fits f (reads m) c n proper h l = record { bare = tt; reading = (told_range f m proper h, l) }

-- ---- no add is active beside a set of the same attribute

never_off : (p : Bool) → is_never (cond p N A) ≡ false → p ≡ false
never_off true e = e
never_off false e = refl

pub no_add_behind : (a : Attribute) (k : Kind) → is_never (entry_by (sets a) k) ≡ false → adds_to a k ≡ false
no_add_behind a (sets b) e = refl
no_add_behind a (adds b) e = never_off (same a b) e
no_add_behind a (reads m) e = refl

pub no_add_before : (a : Attribute) (k : Kind) → is_never (entry_by k (sets a)) ≡ false → adds_to a k ≡ false
no_add_before a (sets b) e = refl
no_add_before a (adds b) e = same_turned a b ∙ never_off (same b a) e
no_add_before a (reads m) e = refl
