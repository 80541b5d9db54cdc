-- Refusals 15 to 21 as 01's sentences, in its words and numbers, in the order they apply.
use Rattle.std.specs.Prelude.{ℕ, ◌≤◌, ◌<◌, false, List, [], ◌∷◌, ◌⊎◌, ◌≡◌, length}
use Rattle.law.specs.declared.Claim.{Claim}
use Rattle.law.specs.Fields.{FieldsFit, OwnExceeds}
use Rattle.law.specs.Types.{Table, Disk, Asked}
use Rattle.law.specs.Calls.{asked, granted_at_once}
use Rattle.law.specs.History.{Call, claims, releases}
use Rattle.law.specs.Base.{All}
use Rattle.law.specs.Entries.{kind_at}

-- A refusal's number, and when it is given.
pub record Sentence : Type 1 where
  pub number : ℕ
  pub says : Type 0

-- Sentence n holds, and no sentence before it does.
abbrev pub FirstHolds : ℕ → List Sentence → Type 0
FirstHolds n [] = ⊥
FirstHolds n (r ∷ rs) = (r.says × (r.number ≡ n)) ⊎ ((r.says → ⊥) × FirstHolds n rs)

-- No claim of the list has ticket n.
abbrev pub Lacks : ℕ → List Claim → Type 0
Lacks n ws = All (λ w. w.ticket ≡ n → ⊥) ws

-- An open: a limit out of range.
abbrev pub open_sentences : ℕ → ℕ → List Sentence
open_sentences l0 l1 = record { number = 17; says = (l0 ≤ 2_000_000_000) × (l1 ≤ 2_000_000_000) → ⊥ } ∷ []

-- A claim: now below the disk's clock; an unknown method; a field out of range; a write's own error over its attribute's limit;
-- no ticket left; it would wait while 8 wait.
abbrev pub claim_sentences : Table → Disk → Asked → List Sentence
claim_sentences t d q =
    record { number = 15; says = q.now < d.core.clock }
    ∷ record { number = 16; says = length t.kinds ≤ q.method }
    ∷ record { number = 17; says = FieldsFit q.now (kind_at t q.method) (asked d q) → ⊥ }
    ∷ record { number = 18; says = OwnExceeds d.core.figures (kind_at t q.method) q.error }
    ∷ record { number = 19; says = 999_999 < d.next }
    ∷ record { number = 20; says = (granted_at_once t d q ≡ false) × (8 ≤ length d.waiting) }
    ∷ []

-- A release: now below the disk's clock; a ticket neither active nor waiting.
abbrev pub release_sentences : Disk → ℕ → ℕ → List Sentence
release_sentences d now n =
    record { number = 15; says = now < d.core.clock }
    ∷ record { number = 21; says = Lacks n d.core.active × Lacks n d.waiting }
    ∷ []

-- The sentences of a call on an open disk.
abbrev pub sentences_of : Table → Disk → Call → List Sentence
sentences_of t d (claims q) = claim_sentences t d q
sentences_of t d (releases now n) = release_sentences d now n
