-- Laws: a call on a board of the right length is refused and leaves it, or opens a disk, or is served by the law on a sound part.
use Rattle.std.specs.Prelude.{ℕ, ◌≤◌, ◌<◌, ◌^◌, true, false, List, [], ◌∷◌, ◌≡◌, refl, length}
use Rattle.std.proofs.Common.{ap, subst, ◌∙◌, arith, leb-true}
use Rattle.std.proofs.lemmas.Bool.{not-false}
use Rattle.std.proofs.Math.Dec.{leb}
use Rattle.num.specs.Word.{Bytes}
use Rattle.num.specs.WordLaws.{word_at_fits}
use Rattle.num.specs.Opened.{open_at, set_open}
use Rattle.law.specs.Lists.{passed}
use Rattle.law.specs.Types.{most_error, Disk as LawDisk, Item, Outcome, refused, accepted}
use Rattle.law.specs.Granting.{grant}
use Rattle.law.specs.Calls.{item, at, opened, open_refusals, open_disk, finish, without}
use Rattle.law.proofs.Events.{After, by_rules, claim_after, release_after, pass_keeps}
use Rattle.law.specs.History.{Call, claims, releases, answered}
use Rattle.law.specs.Sound.{Sound}
use Rattle.law.proofs.SoundKept.{ReadableCall, sound_kept, sound_opened}
use Rattle.law.proofs.ProperLaws.{disk_proper}
use Rattle.law.specs.DiskType.{disk_table}
use Rattle.answer.specs.declared.Refusal.{Refusal}
use Rattle.answer.specs.declared.Refusal.TheVariants as R
use Rattle.answer.specs.Answers.{refusal_of}
use Rattle.desk.specs.Record.{well_formed, disk_number, now_of, asked_in, call_of, used_limit, promised_limit}
use Rattle.desk.specs.Board.{disks, board_bytes, part_of, with_part}
use Rattle.desk.specs.BoardLaws.{with_same}
use Rattle.part.specs.Held.{held, part_for, sound_part}
use Rattle.part.specs.PartLaws.{sound_held, held_part, length_part_for}
use Rattle.promises.proofs.RefusalLaws.{says_formed}
use Rattle.desk.specs.Step.{accepts, effect, refusing, settled, serve_of, on_part, opening, effect_of}
use Rattle.desk.specs.StepLaws.{by_call, by_serve, by_effect}

-- ---- the cases

pub data Case (b r : List ℕ) : Type 0 where
  is_refused : (x : Refusal) → effect_of b r ≡ refusing b x → Case b r
  is_opened : well_formed r ≡ true → disk_number r < disks → open_at b (disk_number r) ≡ false → used_limit r ≤ most_error → promised_limit r ≤ most_error →
      effect_of b r
      ≡ effect (set_open (with_part b (disk_number r) (part_for (opened (now_of r) (used_limit r) (promised_limit r)))) (disk_number r))
      (accepts (item 3 0 ∷ [])) →
      Case b r
  is_served : well_formed r ≡ true → disk_number r < disks → open_at b (disk_number r) ≡ true → sound_part (part_of b (disk_number r)) ≡ true →
      (e : LawDisk) (items : List Item) → answered disk_table (held (part_of b (disk_number r))) (call_of r) ≡ accepted e items →
      effect_of b r ≡ effect (with_part b (disk_number r) (part_for e)) (accepts items) → Case b r

module _ (b r : List ℕ) (whole : length b ≡ board_bytes) where
  abbrev d : ℕ
  d = disk_number r

  -- A refusal leaves the part, and so the board.
  part_refused : d < disks → (x : Refusal) → on_part b d (refusing (part_of b d) x) ≡ refusing b x
  part_refused known x = ap (λ (c : List ℕ). refusing c x) (with_same b d whole known)

  open_case : well_formed r ≡ true → d < disks → open_at b d ≡ false →
      effect_of b r ≡ opening b d (open_disk (now_of r) (used_limit r) (promised_limit r)) → Case b r
  unfolding open_disk
  open_case w known o =
      by_rules (λ z. effect_of b r ≡ opening b d z → Case b r) (open_refusals (used_limit r) (promised_limit r))
      (accepted (opened (now_of r) (used_limit r) (promised_limit r)) (item 3 0 ∷ [])) (λ n e. is_refused (refusal_of n) e)
      (λ ok e.
      let p = passed (leb (used_limit r) most_error ∷ leb (promised_limit r) most_error ∷ []) (not-false _ ok.0) in
      is_opened w known o (leb-true (used_limit r) most_error p.0) (leb-true (promised_limit r) most_error p.1.0) e)

  serve_case : well_formed r ≡ true → d < disks → open_at b d ≡ true →
      effect_of b r ≡ on_part b d (serve_of (part_of b d) (call_of r)) → Case b r
  serve_case w known o =
      by_serve (λ t. effect_of b r ≡ on_part b d t → Case b r) (part_of b d) (call_of r)
      (λ e. is_refused R.Unsound (e ∙ part_refused known R.Unsound))
      (λ s. served s (answered disk_table (held (part_of b d)) (call_of r)) refl)
    where
      served : sound_part (part_of b d) ≡ true → (z : Outcome) → answered disk_table (held (part_of b d)) (call_of r) ≡ z →
          effect_of b r ≡ on_part b d (settled (part_of b d) z) → Case b r
      served s (refused n) q e = is_refused (refusal_of n) (e ∙ part_refused known (refusal_of n))
      served s (accepted f items) q e = is_served w known o s f items q e

  pub effect_case : Case b r
  effect_case = by_effect (λ t. effect_of b r ≡ t → Case b r) b r is_refused open_case serve_case refl

-- ---- a well-formed record holds a readable call

pub call_readable : (r : List ℕ) → Bytes r → well_formed r ≡ true → ReadableCall (call_of r)
unfolding asked_in
call_readable r bs w =
    by_call ReadableCall r (record { priority = omega (arith, bs 5); flag = ((says_formed r).0 w).flag }) tt

-- ---- an accepted call sets the clock to now

abbrev pub now_in : Call → ℕ
now_in (claims q) = q.now
now_in (releases now n) = now

pub clock_set : (d : LawDisk) (k : Call) → After (λ e items. e.core.clock ≡ now_in k) (answered disk_table d k)
unfolding grant finish
clock_set d (claims q) = claim_after disk_table (λ e items. e.core.clock ≡ q.now) d q (λ ok g. refl) (λ ok g. refl)
clock_set d (releases now n) =
    release_after disk_table (λ e items. e.core.clock ≡ now) d now n
    (λ ok.
    pass_keeps disk_table (λ u vs items. u.clock ≡ now) (λ u ahead c rest items g h. h)
    (record { core = finish disk_table (at d now) n; ahead = []; items = [] })
    (without n d.waiting) refl)

pub call_now : (r : List ℕ) → now_in (call_of r) ≡ now_of r
unfolding asked_in
call_now r = by_call (λ k. now_in k ≡ now_of r) r refl refl

pub now_fits : (r : List ℕ) → Bytes r → now_of r < 2 ^ 32
now_fits r bs = word_at_fits r 8 bs

-- ---- the disk that an accepted call leaves

-- An opened disk is sound, and its clock is now.
pub opened_sound : (r : List ℕ) → used_limit r ≤ 2_000_000_000 → promised_limit r ≤ 2_000_000_000 →
    Sound disk_table (opened (now_of r) (used_limit r) (promised_limit r))
opened_sound r f0 f1 = sound_opened disk_table (now_of r) (used_limit r) (promised_limit r) f0 f1

pub opened_held : (r : List ℕ) → Bytes r → used_limit r ≤ 2_000_000_000 → promised_limit r ≤ 2_000_000_000 →
    held (part_for (opened (now_of r) (used_limit r) (promised_limit r))) ≡ opened (now_of r) (used_limit r) (promised_limit r)
unfolding opened
opened_held r bs f0 f1 = held_part (opened (now_of r) (used_limit r) (promised_limit r)) (opened_sound r f0 f1) (now_fits r bs)

pub opened_now : (r : List ℕ) → (opened (now_of r) (used_limit r) (promised_limit r)).core.clock ≡ now_of r
unfolding opened
opened_now r = refl

-- A served disk is sound, and its clock is now.
module _ (p r : List ℕ) (bs : Bytes r) (w : well_formed r ≡ true) (s : sound_part p ≡ true) (f : LawDisk) (items : List Item)
    (q : answered disk_table (held p) (call_of r) ≡ accepted f items) where
  pub served_sound : Sound disk_table f
  served_sound =
      subst (After (λ g xs. Sound disk_table g)) q
      (sound_kept disk_table disk_proper (held p) (call_of r) (call_readable r bs w) (sound_held p s))

  pub served_now : f.core.clock ≡ now_of r
  served_now = subst (After (λ g xs. g.core.clock ≡ now_in (call_of r))) q (clock_set (held p) (call_of r)) ∙ call_now r

  pub served_held : held (part_for f) ≡ f
  served_held = held_part f served_sound (omega (arith, served_now, now_fits r bs))

  pub served_size : length (part_for f) ≡ 768
  served_size = length_part_for f served_sound.few_active served_sound.few_waiting

pub opened_size : (r : List ℕ) → length (part_for (opened (now_of r) (used_limit r) (promised_limit r))) ≡ 768
unfolding opened
opened_size r = length_part_for (opened (now_of r) (used_limit r) (promised_limit r)) (omega arith) (omega arith)
