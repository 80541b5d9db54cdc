-- Any two results that a promise admits are equal.
use Rattle.std.specs.Prelude.{ℕ, Bool, true, false, Option, Result, List, ◌≡◌, refl}
use Rattle.std.proofs.Common.{sym, ap, ◌∙◌}
use Rattle.num.specs.Word.{Bytes}
use Rattle.law.specs.declared.Claim.{Claim}
use Rattle.law.specs.Types.{Core, Disk as LawDisk}
use Rattle.rules.specs.Rows.{RowIs}
use Rattle.rules.specs.DiskLaws.{row_padded}
use Rattle.rules.specs.Disks.{DiskIs}
use Rattle.part.specs.Layout.{slots, in_slots, decode}
use Rattle.part.specs.Held.{HoldsDisk}
use Rattle.slots.specs.Slots.{Slots}
use Rattle.sound.specs.Seen.{seen_of}
use Rattle.judge.specs.Decisions.{DecidedIs}
use Rattle.answer.specs.declared.Answer.{Answer}
use Rattle.answer.specs.declared.Refusal.{Refusal}
use Rattle.rules.specs.declared.totals.Totals.{Totals}
use Rattle.answer.specs.Answers.{OwnOnly, Behind}
use Rattle.change.specs.HoldingLaws.{disk_holds, holds_part}
use Rattle.desk.specs.Counts.{count_of}
use Rattle.desk.specs.Step.{Stepped, stepped, step_of}

-- One law for every function whose promise is an equation.
pub unique : {A : Type 0} {x y z : A} → x ≡ z → y ≡ z → x ≡ y
unique p q = p ∙ sym q

-- ---- the call

-- The code, and the board and answer buffer at the end.
pub step_unique : (b r a : List ℕ) {n m : ℕ} {c d e f : List ℕ} → stepped n c e ≡ step_of b r a → stepped m d f ≡ step_of b r a →
    (n ≡ m) × ((c ≡ d) × (e ≡ f))
step_unique b r a p q = (
  ap (λ (s : Stepped). s.code) (unique p q),
  (ap (λ (s : Stepped). s.bytes) (unique p q), ap (λ (s : Stepped). s.answer) (unique p q)),
)

-- The number of open disks.
pub count_unique : (b : List ℕ) {n m : Result ℕ Refusal} → n ≡ count_of b → m ≡ count_of b → n ≡ m
count_unique b p q = unique p q

-- ---- the decision

-- Whether the claim is granted, and its total.
pub decided_unique : {ok yes : Bool} {n m : ℕ} {s : Core} {ahead : List Claim} {c : Claim} → DecidedIs ok n s ahead c → DecidedIs yes m s ahead c →
    (ok ≡ yes) × (n ≡ m)
decided_unique {ok} {yes} {n} {m} x y = (unique x.says y.says, total ok refl)
  where
    total : (v : Bool) → ok ≡ v → n ≡ m
    total true e = unique (x.counts e) (y.counts (unique y.says x.says ∙ e))
    total false e = unique (x.fails e) (y.fails (unique y.says x.says ∙ e))

-- ---- the soundness test

-- Whether a disk is sound, and the totals handed on.
pub seen_unique : (d : LawDisk) {x y : Option Totals} → x ≡ seen_of d → y ≡ seen_of d → x ≡ y
seen_unique d p q = unique p q

-- ---- bytes that are stated by what they hold

-- Eight slots, stated by their claims.
pub slots_unique : {r s : List ℕ} {cs : List Claim} → Slots r → slots 8 r ≡ cs → Slots s → slots 8 s ≡ cs → r ≡ s
slots_unique k p l q = sym k.canonical ∙ ap in_slots (unique p q) ∙ l.canonical

-- Eight slots, stated by a list of claims and its length.
pub row_unique : {r s : List ℕ} {n : ℕ} {ws : List Claim} → Slots r → RowIs (slots 8 r) n ws → Slots s → RowIs (slots 8 s) n ws → r ≡ s
row_unique k p l q = slots_unique k (row_padded p.row p.list ∙ sym (row_padded q.row q.list)) l refl

-- A part, which is bytes, stated by the law's disk that it holds.
pub part_unique : {p q : List ℕ} {d : LawDisk} → Bytes p → HoldsDisk p → DiskIs (decode p) d → Bytes q → HoldsDisk q → DiskIs (decode q) d → p ≡ q
part_unique b h x c k y = unique (holds_part (disk_holds h b) x) (holds_part (disk_holds k c) y)

-- The answer buffer, stated by the grants behind the one answer that it held.
pub behind_unique : (grants : List Answer) {a b c : List ℕ} → OwnOnly a → Behind a grants b → Behind a grants c → b ≡ c
behind_unique grants o p q = unique (p o.own o.is) (q o.own o.is)
