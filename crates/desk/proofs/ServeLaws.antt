-- Laws of a call on a part: what the answer to a claim says of the law's outcome, the grants of a pass, and the part that the end of a
-- claim leaves.
use Rattle.std.specs.Prelude.{ℕ, ◌^◌, ◌<◌, true, cond, ◌&&◌, Some, None, List, [], ◌∷◌, map, ◌≡◌, refl, ℤ, length}
use Rattle.std.proofs.Common.{sym, ap, ◌∙◌, arith}
use Rattle.law.specs.declared.Claim.{Claim}
use Rattle.law.specs.Base.{All}
use Rattle.law.specs.Lists.{all_append}
use Rattle.law.specs.Types.{Core, Disk as LawDisk, Item as LawItem, Outcome}
use Rattle.law.specs.Granting.{grant_item}
use Rattle.law.specs.Calls.{pass, claim}
use Rattle.law.specs.History.{Call, answered}
use Rattle.law.specs.Sound.{sound}
use Rattle.law.specs.DiskType.{disk_table}
use Rattle.law.proofs.SoundTest.{says_sound}
use Rattle.law.proofs.Events.{pass_keeps}
use Rattle.rules.specs.Answers.{answer_of, answer_by, NewOn, request_of}
use Rattle.rules.proofs.CallLaws.{Says, answer_says, IsGranted, IsWaiting, IsRefused}
use Rattle.rules.specs.Totals.{totals_of}
use Rattle.part.specs.Layout.{decode, decodes}
use Rattle.part.specs.Held.{held, part_for, sound_part, HoldsSound}
use Rattle.part.specs.PartLaws.{disk_good, held_part, part_sound, sound_decodes, length_part_for}
use Rattle.answer.specs.declared.Answer.{Answer}
use Rattle.answer.specs.declared.Answer.TheVariants as A
use Rattle.answer.specs.declared.Refusal.{Refusal}
use Rattle.answer.specs.declared.Refusal.TheVariants as R
use Rattle.answer.specs.Answers.{refusal_of}
use Rattle.sound.specs.Seen.{seen_of}
use Rattle.pass.specs.Turns.{grant_answer}
use Rattle.desk.specs.Step.{refusing, settled, serve_of}
use Rattle.desk.proofs.ReleaseLaws.{Leaves, release_early, leaves_active, leaves_waiting, release_lost}

-- A part that decodes, and whose disk is seen to be sound, holds a sound disk.
pub holds : (p : List ℕ) → length p ≡ 768 → decodes p ≡ true → sound disk_table (held p) ≡ true → HoldsSound p
holds p long whole h = record { disk = record { long = long; whole = whole }; sound = (says_sound disk_table (held p)).0 h }

-- What is seen of a disk.
pub seen_is : (d : LawDisk) → seen_of d ≡ cond (sound disk_table d) (Some (totals_of d.core.active)) None
unfolding seen_of
seen_is d = refl

-- What a call on a part comes to, by the tests that the code makes.
pub serve_is : (p : List ℕ) (k : Call) →
    serve_of p k
    ≡ cond (decodes p && sound disk_table (held p)) (settled p (answered disk_table (held p) k)) (refusing p R.Unsound)
unfolding serve_of sound_part
serve_is p k = refl

pub ruleset served = (holds, seen_is, serve_is)

-- ---- a claim

-- The law's outcome for a claim on a part.
abbrev outcome : List ℕ → ℕ → Claim → Outcome
outcome p now c = claim disk_table (held p) (request_of now c)

-- What the answer to a new claim on a sound part says of that outcome.
module _ (p : List ℕ) (now : ℕ) (c : Claim) (holds : HoldsSound p) (new : NewOn (held p) c) where
  says : {a : Answer} → a ≡ answer_by (outcome p now c) → Says (decode p) now c (outcome p now c) a
  says e = answer_says (decode p) now c new (disk_good holds.disk) holds.sound e

  pub claim_grants : {t m : ℕ} {z : ℤ} → A.Granted t z m ≡ answer_by (outcome p now c) → IsGranted (decode p) now c z m (outcome p now c)
  claim_grants e = says e

  pub claim_waits : {t : ℕ} → A.Waits t ≡ answer_by (outcome p now c) → IsWaiting (decode p) now c (outcome p now c)
  claim_waits e = says e

  pub claim_refuses : {r : Refusal} → A.Refused r ≡ answer_by (outcome p now c) → refusing p r ≡ settled p (outcome p now c)
  claim_refuses {r} e =
      let o : IsRefused (outcome p now c) = says e in
      let same : A.Refused r ≡ A.Refused (refusal_of o.number) = rw o.is at e in
      rw o.is (cc)

  -- A claim is never released or opened.
  pub never_released : {t : ℕ} → A.Released t ≡ answer_by (outcome p now c) → ⊥
  never_released e = says e

  pub never_opened : A.Opened ≡ answer_by (outcome p now c) → ⊥
  never_opened e = says e

pub ruleset claim_answers = (claim_grants, claim_waits, claim_refuses, never_released, never_opened)

-- ---- the grants of a pass

-- The answer of an item of code 0.
grant_answer_lem : (i : LawItem) → i.code ≡ 0 → answer_of i ≡ grant_answer i
unfolding answer_of
grant_answer_lem i e = rw e

grants_answers : (l : List LawItem) → All (λ i. i.code ≡ 0) l → map grant_answer l ≡ map answer_of l
grants_answers [] h = refl
grants_answers (i ∷ l) h =
    ap {B = List Answer} (λ a. a ∷ map grant_answer l) (sym (grant_answer_lem i h.0))
    ∙ ap {B = List Answer} (λ r. answer_of i ∷ r) (grants_answers l h.1)

-- The items of a pass are grants.
pub pass_answers : (s : Core) (ws : List Claim) → map grant_answer (pass disk_table s ws).items ≡ map answer_of (pass disk_table s ws).items
unfolding grant_item
pass_answers s ws =
    grants_answers (pass disk_table s ws).items
    (pass_keeps disk_table (λ u vs items. All (λ i. i.code ≡ 0) items)
    (λ u ahead c rest items g h. all_append _ items (grant_item disk_table u c ∷ []) h (refl, tt))
    (record { core = s; ahead = []; items = [] }) ws tt)

-- ---- what the end of a claim leaves

module _ {d e : LawDisk} {now n : ℕ} (left : Leaves d now n e) (small : now < 2 ^ 32) where
  clock_fits : e.core.clock < 2 ^ 32
  clock_fits = omega (arith, left.clock, small)

  -- The part of a sound disk holds it.
  pub left_held : held (part_for e) ≡ e
  left_held = held_part e left.sound clock_fits

  pub left_sound : HoldsSound (part_for e)
  left_sound =
      record {
        disk =
            record {
              long = length_part_for e left.sound.few_active left.sound.few_waiting;
              whole = sound_decodes (part_for e) (part_sound e left.sound clock_fits);
            };
        sound = rw left_held left.sound;
      }

pub ruleset releases = (release_early, leaves_active, leaves_waiting, release_lost, left_held)
