-- Laws of what a call comes to, by its cases: what holds of all that an answer, a call or a board can be holds of it.
use Rattle.std.specs.Prelude.{ℕ, ◌<◌, true, false, List, ◌≡◌, leb, eqb}
use borrow.Author.Tests.{leb-false}
use Rattle.num.specs.Word.{word_at}
use Rattle.num.specs.Opened.{open_at}
use Rattle.law.specs.Says.{by_test}
use Rattle.law.specs.Types.{Item}
use Rattle.law.specs.Calls.{open_disk}
use Rattle.law.specs.History.{Call, claims, releases, answered}
use Rattle.law.specs.DiskType.{disk_table}
use Rattle.rules.specs.Answers.{answer_of}
use Rattle.part.specs.Held.{held, sound_part}
use Rattle.answer.specs.declared.Answer.{Answer}
use Rattle.answer.specs.declared.Answer.TheVariants as A
use Rattle.answer.specs.declared.Refusal.{Refusal}
use Rattle.answer.specs.declared.Refusal.TheVariants as R
use Rattle.desk.specs.Record.{well_formed, kind_byte, disk_number, now_of, asked_in, call_of, used_limit, promised_limit}
use Rattle.desk.specs.Board.{disks, part_of}
use Rattle.desk.specs.Step.{Effect, refusing, settled, serve_of, on_part, opening, on_board, effect_of}

-- The answer of an item.
pub by_answer : (P : Answer → Type 0) (i : Item) → P (A.Granted i.ticket i.told i.amount) → P (A.Waits i.ticket) →
    P (A.Released i.ticket) → P A.Opened → P (answer_of i)
unfolding answer_of
by_answer P i granted waits released opened =
    by_test P (eqb i.code 0) (λ e. granted)
    (λ e. by_test P (eqb i.code 1) (λ e. waits) (λ e. by_test P (eqb i.code 2) (λ e. released) (λ e. opened)))

-- The call of a record.
pub by_call : (P : Call → Type 0) (r : List ℕ) → P (claims (asked_in r)) → P (releases (now_of r) (word_at r 12)) → P (call_of r)
by_call P r claim release = by_test P (eqb (kind_byte r) 2) (λ e. claim) (λ e. release)

-- A call on the part of an open disk.
pub by_serve : (P : Effect → Type 0) (p : List ℕ) (k : Call) → P (refusing p R.Unsound) →
    (sound_part p ≡ true → P (settled p (answered disk_table (held p) k))) → P (serve_of p k)
unfolding serve_of
by_serve P p k unsound served = by_test P (sound_part p) served (λ e. unsound)

-- A call on a board: it refuses, or opens its disk, or is served on its disk's part.
module _ (P : Effect → Type 0) (b r : List ℕ) (refuses : (x : Refusal) → P (refusing b x)) where
  pub by_effect :
      (well_formed r ≡ true → disk_number r < disks → open_at b (disk_number r) ≡ false →
      P (opening b (disk_number r) (open_disk (now_of r) (used_limit r) (promised_limit r)))) →
      (well_formed r ≡ true → disk_number r < disks → open_at b (disk_number r) ≡ true →
      P (on_part b (disk_number r) (serve_of (part_of b (disk_number r)) (call_of r)))) →
      P (effect_of b r)
  unfolding effect_of on_board
  by_effect opens serves =
      by_test P (well_formed r)
      (λ w.
      by_test P (leb disks (disk_number r)) (λ f. refuses R.Disk)
      (λ f.
      let known = leb-false disks (disk_number r) f in
      by_test P (eqb (kind_byte r) 1) (λ k. by_test P (open_at b (disk_number r)) (λ o. refuses R.Open) (opens w known))
      (λ k. by_test P (open_at b (disk_number r)) (serves w known) (λ o. refuses R.Closed))))
      (λ w. refuses R.Record)
