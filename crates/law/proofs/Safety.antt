-- Laws of safety: 000's two lemmas on how much imprecision the locking allows, in its words, for a disk. Both are clauses of
-- Sound, so every accepted call keeps them, and they hold after any calls on an opened disk.
use Rattle.std.specs.Prelude.{ℕ, ◌≤◌, List, ◌≡◌}
use Rattle.std.proofs.Common.{subst}
use Rattle.law.specs.Base.{All}
use Rattle.law.specs.Lists.{all_say}
use Rattle.law.specs.Types.{most_error, Attribute, Kind, reads, Table, Proper, attr, Disk, Outcome, refused, accepted}
use Rattle.law.specs.Sound.{ReadingBy, Sound}
use Rattle.law.specs.History.{Call, answered, begun, lived}
use Rattle.law.proofs.Events.{After}
use Rattle.law.proofs.SoundKept.{ReadableCall, sound_kept, lived_sound}
use Rattle.law.specs.Entries.{kind_of}

-- 000: "Object-Safety_o ≡ ∀ a ∈ o_A (a.ImpAmt ≤ data_ε_a)". On a disk, ImpAmt is an attribute's amount and data_ε its limit.
abbrev pub ObjectSafe : Disk → Type 0
ObjectSafe d = (a : Attribute) → (attr d.core.figures a).amount ≤ (attr d.core.figures a).limit

-- 000: "OT-Safety_t,o ≡ ∀ m ∈ (t_MI ⊓ o_M) ∀ r ∈ ReturnArgs(m) (r.ImpAmt ≤ importLimit_r)". On a disk, the invocations are the
-- active claims, those that return something are the readings, ImpAmt is a reading's amount and importLimit its stated limit.
-- 000's other half, about input arguments, has no limit: "regardless of the value of i.ImpAmt, OT safety is invariant".
abbrev pub ReadingSafe : Table → Disk → Type 0
ReadingSafe t d = All (λ c. (m : ℕ) → kind_of t c ≡ reads m → c.amount ≤ c.error) d.core.active

module _ (t : Table) where
  pub sound_object_safe : (d : Disk) → Sound t d → ObjectSafe d
  sound_object_safe d h = h.amounts

  pub sound_reading_safe : (d : Disk) → Sound t d → ReadingSafe t d
  sound_reading_safe d h =
      all_say (λ c. ReadingBy (kind_of t c) c) _ (λ c k m e. (subst (λ (x : Kind). ReadingBy x c) e k).1) d.core.active h.readings

  after_sound : (P : Disk → Type 0) → ((d : Disk) → Sound t d → P d) → (o : Outcome) → After (λ e items. Sound t e) o →
      After (λ e items. P e) o
  after_sound P f (refused n) h = tt
  after_sound P f (accepted d items) h = f d h

  module _ (proper : Proper t) where
    -- 000's Lemma 1: "If the restricted semantic locking technique is used, then Object-Safety_o is invariant for every object o."
    pub object_safety : (now l0 l1 : ℕ) → l0 ≤ most_error → l1 ≤ most_error → (ks : List Call) → All ReadableCall ks →
        ObjectSafe (lived t (begun now l0 l1) ks).disk
    object_safety now l0 l1 h0 h1 ks readable =
        sound_object_safe (lived t (begun now l0 l1) ks).disk (lived_sound t proper now l0 l1 h0 h1 ks readable)

    pub object_safety_kept : (d : Disk) (k : Call) → ReadableCall k → Sound t d → After (λ e items. ObjectSafe e) (answered t d k)
    object_safety_kept d k readable h =
        after_sound ObjectSafe sound_object_safe (answered t d k) (sound_kept t proper d k readable h)

    -- 000's Lemma 2: "If the restricted semantic locking technique is used, then OT-Safety_t,o is invariant for every
    -- transaction t with respect to every object o."
    pub reading_safety : (now l0 l1 : ℕ) → l0 ≤ most_error → l1 ≤ most_error → (ks : List Call) → All ReadableCall ks →
        ReadingSafe t (lived t (begun now l0 l1) ks).disk
    reading_safety now l0 l1 h0 h1 ks readable =
        sound_reading_safe (lived t (begun now l0 l1) ks).disk (lived_sound t proper now l0 l1 h0 h1 ks readable)

    pub reading_safety_kept : (d : Disk) (k : Call) → ReadableCall k → Sound t d → After (λ e items. ReadingSafe t e) (answered t d k)
    reading_safety_kept d k readable h =
        after_sound (ReadingSafe t) sound_reading_safe (answered t d k) (sound_kept t proper d k readable h)
