-- Laws: on any board, the items that a call says fit the answer buffer, and a pass grants at most 8 claims, each with a ticket.
use Rattle.std.specs.Prelude.{ℕ, ◌+◌, ◌^◌, ◌≤◌, ◌<◌, true, List, [], ◌∷◌, ◌++◌, ◌≡◌, refl, length}
use Rattle.std.proofs.Common.{arith, ltb-false, length-append}
use Rattle.std.proofs.lemmas.List.{length-map}
use Rattle.std.specs.Int.Signed.{mag}
use Rattle.std.specs.Int.{w32}
use Rattle.num.specs.Word.{Bytes}
use Rattle.num.specs.WordLaws.{word_at_fits}
use Rattle.num.specs.Fits.{size_fits}
use Rattle.law.specs.declared.Claim.{Claim}
use Rattle.law.specs.Base.{All}
use Rattle.law.specs.Lists.{all_say, all_append, all_there, all_map, length_more}
use Rattle.law.specs.Types.{Attribute, Kind, attr, Core, Disk as LawDisk, Item, Outcome, refused, accepted}
use Rattle.law.specs.Fields.{ValueFits}
use Rattle.law.specs.Sound.{LimitFits, Sound}
use Rattle.law.specs.Entries.{kind_of}
use Rattle.law.specs.Granting.{told_by, granted, grant_item}
use Rattle.law.specs.Calls.{item, at, asked, opened, open_refusals, open_disk, finish, without}
use Rattle.law.specs.History.{Call as LawCall, claims, releases, answered}
use Rattle.law.proofs.Events.{After, by_rules, claim_after, release_after, pass_keeps}
use Rattle.law.proofs.GrantLaws.{grant_says}
use Rattle.law.proofs.FitLaws.{Fit, fit_grant}
use Rattle.law.proofs.SoundKept.{sound_fit, sound_finish}
use Rattle.law.proofs.ProperLaws.{proper_kind_lem, disk_proper}
use Rattle.law.specs.DiskType.{disk_table}
use Rattle.rules.proofs.RangeLaws.{limit_most, error_most, limit_range, told_most}
use Rattle.rules.specs.Answers.{answer_of}
use Rattle.part.specs.Held.{held}
use Rattle.part.specs.PartLaws.{sound_held}
use Rattle.answer.specs.declared.Answer.{Answer}
use Rattle.answer.specs.declared.Answer.TheVariants as A
use Rattle.answer.specs.Answers.{code_of, ticket_of}
use Rattle.desk.specs.Record.{disk_number, now_of, asked_in, call_of, used_limit, promised_limit}
use Rattle.desk.specs.Board.{part_of}
use Rattle.desk.specs.Step.{Said, refuses, accepts, own_of, grants_of, settled, serve_of, opening, effect_of}
use Rattle.desk.specs.StepLaws.{by_answer, by_call, by_serve, by_effect}
use Rattle.answer.specs.ItemLaws.{ItemFits}
use Rattle.stopblocker.specs.LineLaws.{GrantFits}

-- ---- items

-- The figures of an item fit their four bytes.
pub record Fits (i : Item) : Type 0 where
  pub ticket : i.ticket < 2 ^ 32
  pub told : mag i.told < 2 ^ 31
  pub amount : i.amount < 2 ^ 32

-- The item grants a claim, with a ticket of at least 1, and its figures fit.
pub record Grants (i : Item) : Type 0 where
  pub granting : i.code ≡ 0
  pub first : 1 ≤ i.ticket
  pub fits : Fits i

-- An item with a ticket alone fits.
alone_fits_lem : (code ticket : ℕ) → ticket < 2 ^ 32 → Fits (item code ticket)
alone_fits_lem code ticket h = record { ticket = h; told = omega arith; amount = omega arith }

-- ---- a grant

grant_fits : (s : Core) (ahead : List Claim) (c : Claim) → granted disk_table s ahead c ≡ true →
    ((a : Attribute) → ValueFits a (attr s.figures a).value) → ((a : Attribute) → LimitFits a (attr s.figures a).limit) →
    c.error < 2 ^ 32 → 1 ≤ c.ticket → c.ticket < 2 ^ 32 → Grants (grant_item disk_table s c)
unfolding grant_item
grant_fits s ahead c g values limits e first below =
    record {
      granting = refl;
      first = first;
      fits =
          record {
            ticket = below;
            told = (size_fits w32 (told_by s.figures k) (omega (arith, told_most s.figures k (proper_kind_lem disk_table disk_proper c.method) values))).sfits;
            amount =
                omega (
                  arith,
                  (grant_says disk_table s ahead c g).in_limit,
                  limit_range s.figures k c.error 4_294_967_295 (λ a. omega (arith, limit_most a (attr s.figures a).limit (limits a))) (omega arith),
                );
          };
    }
  where
    k : Kind
    k = kind_of disk_table c

-- ---- a pass

-- In a pass: the state fits, each item so far grants, and items and waiting claims together are at most 8.
abbrev PassFits : ℕ → Core → List Claim → List Item → Type 0
PassFits next s ws items = Fit disk_table s ws next × All Grants items × (length items + length ws ≤ 8)

turn_fits : (next : ℕ) (s : Core) (ahead : List Claim) (c : Claim) (rest : List Claim) (items : List Item) →
    granted disk_table s ahead c ≡ true → PassFits next s (ahead ++ (c ∷ rest)) items → Grants (grant_item disk_table s c)
turn_fits next s ahead c rest items g h =
    let fits = all_there _ ahead c rest h.0.claims.waiting in
    grant_fits s ahead c g (λ a. (h.0.attrs a).value) (λ a. (h.0.attrs a).limit)
    (omega (arith, error_most s.clock (kind_of disk_table c) c fits.passes.fields))
    fits.first
    (omega (arith, all_there (λ x. x.ticket < next) ahead c rest h.0.claims.tickets.below_waiting, h.0.claims.next_last))

-- ---- a call on one disk

-- The items of a call fit: its own, and the grants of its pass.
abbrev pub ItemsFit : List Item → Type 0
ItemsFit [] = Unit {0}
ItemsFit (i ∷ items) = Fits i × All Grants items × (length items ≤ 8)

-- A claim's own error or stated limit, or a release's ticket, fits four bytes.
abbrev CallFits : LawCall → Type 0
CallFits (claims q) = q.error < 2 ^ 32
CallFits (releases now n) = n < 2 ^ 32

call_fits : (d : LawDisk) (k : LawCall) → Sound disk_table d → CallFits k → After (λ e items. ItemsFit items) (answered disk_table d k)
call_fits d (claims q) h f =
    claim_after disk_table (λ e items. ItemsFit items) d q
    (λ ok g.
    ((grant_fits (at d q.now) d.waiting (asked d q) g h.values h.limits f h.next_first (omega (arith, h.next_last))).fits, tt, omega arith))
    (λ ok g. (alone_fits_lem 1 d.next (omega (arith, h.next_last)), tt, omega arith))
call_fits d (releases now n) h f =
    release_after disk_table (λ e items. ItemsFit items) d now n
    (λ ok.
    let left : Sound disk_table (record { core = finish disk_table (at d now) n; waiting = without n d.waiting; next = d.next }) =
    sound_finish disk_table disk_proper d now n (ltb-false now d.core.clock ok.0) h in
    let passed =
    pass_keeps disk_table (PassFits d.next)
    (λ s ahead c rest items g k. (
      fit_grant disk_table disk_proper ahead c ahead rest g k.0,
      all_append Grants items (grant_item disk_table s c ∷ []) k.1 (turn_fits d.next s ahead c rest items g k, tt),
      omega (arith, length-append items (grant_item disk_table s c ∷ []), length_more ahead c rest, k.2),
    ))
    (record { core = finish disk_table (at d now) n; ahead = []; items = [] })
    (without n d.waiting)
    (sound_fit disk_table left, tt, omega (arith, left.few_waiting)) in
    (alone_fits_lem 2 n f, passed.1, omega (arith, passed.2)))

-- ---- a call on a board

abbrev pub SaidFits : Said → Type 0
SaidFits (refuses x) = Unit {0}
SaidFits (accepts items) = ItemsFit items

settled_fits : (p : List ℕ) (o : Outcome) → After (λ e items. ItemsFit items) o → SaidFits (settled p o).said
settled_fits p (refused n) h = tt
settled_fits p (accepted e items) h = h

opening_fits : (b : List ℕ) (d : ℕ) (o : Outcome) → After (λ e items. ItemsFit items) o → SaidFits (opening b d o).said
opening_fits b d (refused n) h = tt
opening_fits b d (accepted e items) h = h

open_fits : (now l0 l1 : ℕ) → After (λ e items. ItemsFit items) (open_disk now l0 l1)
unfolding open_disk
open_fits now l0 l1 =
    by_rules (After (λ e items. ItemsFit items)) (open_refusals l0 l1) (accepted (opened now l0 l1) (item 3 0 ∷ [])) (λ n. tt)
    (λ ok. (alone_fits_lem 3 0 (omega arith), tt, omega arith))

module _ (b r : List ℕ) (bs : Bytes r) where
  record_fits : CallFits (call_of r)
  unfolding asked_in
  record_fits = by_call CallFits r (word_at_fits r 20 bs) (word_at_fits r 12 bs)

  serve_fits : (p : List ℕ) → SaidFits (serve_of p (call_of r)).said
  serve_fits p =
      by_serve (λ t. SaidFits t.said) p (call_of r) tt
      (λ s. settled_fits p (answered disk_table (held p) (call_of r)) (call_fits (held p) (call_of r) (sound_held p s) record_fits))

  pub told_fits : SaidFits (effect_of b r).said
  told_fits =
      by_effect (λ t. SaidFits t.said) b r (λ x. tt)
      (λ w known o.
      opening_fits b (disk_number r) (open_disk (now_of r) (used_limit r) (promised_limit r)) (open_fits (now_of r) (used_limit r) (promised_limit r)))
      (λ w known o. serve_fits (part_of b (disk_number r)))

-- ---- the items as answers

item_fits : (i : Item) → Fits i → ItemFits (answer_of i)
item_fits i f =
    by_answer ItemFits i (record { ticket = f.ticket; told = f.told; amount = f.amount })
    (record { ticket = f.ticket; told = omega arith; amount = omega arith })
    (record { ticket = f.ticket; told = omega arith; amount = omega arith })
    (record { ticket = omega arith; told = omega arith; amount = omega arith })

-- The answer of an item that grants.
answer_is : (i : Item) → i.code ≡ 0 → answer_of i ≡ A.Granted i.ticket i.told i.amount
unfolding answer_of
answer_is i e = rw e

-- The answer grants, with a ticket of at least 1.
abbrev pub Granting : Answer → Type 0
Granting x = (code_of x ≡ 0) × (1 ≤ ticket_of x)

granting : (i : Item) → Grants i → Granting (answer_of i)
granting i g = rw (answer_is i g.granting) (refl, g.first)

-- The call's own answer fits; there are at most 8 grants, and each fits and grants.
pub record Shows (s : Said) : Type 0 where
  pub own : ItemFits (own_of s)
  pub few : length (grants_of s) ≤ 8
  pub fit : All GrantFits (grants_of s)
  pub grant : All Granting (grants_of s)

pub shows : (s : Said) → SaidFits s → Shows s
shows (refuses x) h =
    record {
      own = record { ticket = omega arith; told = omega arith; amount = omega arith };
      few = omega arith;
      fit = tt;
      grant = tt;
    }
shows (accepts []) h =
    record {
      own = record { ticket = omega arith; told = omega arith; amount = omega arith };
      few = omega arith;
      fit = tt;
      grant = tt;
    }
shows (accepts (i ∷ items)) h =
    record {
      own = item_fits i h.0;
      few = omega (arith, length-map items answer_of, h.2);
      fit =
          all_map GrantFits answer_of items
          (all_say Grants (λ j. GrantFits (answer_of j)) (λ j g. (item_fits j g.fits, (granting j g).1)) items h.1);
      grant = all_map Granting answer_of items (all_say Grants (λ j. Granting (answer_of j)) granting items h.1);
    }
