-- Demand 3 over bytes: a reading can rely on what it was told, and no reader pays for another's limit.
use Rattle.std.specs.Prelude.{ℕ, ◌<◌, Bool, false, List, [], ◌∷◌, map, ◌≡◌, refl, eqb, length}
use Rattle.std.proofs.Math.Bool.{true}
use Rattle.std.proofs.Common.{true≢false, sym, ◌∙◌, subst, eq-eqb}
use Rattle.std.proofs.Math.Path.{ap}
use Rattle.std.proofs.lemmas.Bool.{lt-leb}
use Rattle.num.specs.Opened.{open_at}
use Rattle.law.specs.declared.Claim.{Claim}
use Rattle.law.specs.Base.{All, Pairs}
use Rattle.law.specs.Lists.{all_say, all_left}
use Rattle.law.specs.Types.{Disk as LawDisk, Item, accepted}
use Rattle.law.specs.Readings.{present, carried}
use Rattle.law.specs.Calls.{with_grant}
use Rattle.law.specs.Sound.{claims_on}
use Rattle.law.specs.History.{answered, Once, EndsGrant, EndsWait, Lasting, StandsActive, StandsWaiting}
use Rattle.law.specs.Conditions.{Reading, Free, reading_item}
use Rattle.law.proofs.GrantedAtOnce.{granted_at_once_lem as law_granted_at_once}
use Rattle.law.proofs.ReaderBound.{Bounded, reader_bound, granted_once as law_granted_once}
use Rattle.law.proofs.Stays.{lasting_all, granted_stays, waiting_stays}
use Rattle.law.specs.DiskType.{disk_table}
use Rattle.rules.specs.Answers.{answer_of}
use Rattle.answer.specs.declared.Answer.TheVariants as A
use Rattle.answer.specs.Answers.{code_of, answer_bytes, answer_size}
use Rattle.desk.specs.Record.{kind_byte, disk_number, asked_in, call_of}
use Rattle.desk.specs.Board.{disks, board_bytes, part_of, with_part}
use Rattle.part.specs.Held.{held, part_for, sound_part}
use Rattle.desk.specs.Step.{own_of, grants_of, accepts, effect, serve_of, on_board, effect_of, Stepped, written, step_of}
use Rattle.promises.proofs.RefusalLaws.{says_formed}
use Rattle.promises.specs.Histories.{BoardCall, BytesIn, step_by, said_by, begun, lived}
use Rattle.promises.proofs.LifeLaws.{empty_shut, whole_begun, whole_lived, by_life, shut_silent, open_sound}
use Rattle.promises.specs.Asks.{claimed, took, AsAsked, Stated, WasGranted, Relies, AsksReading}
use Rattle.promises.proofs.RelyLaws.{item_relies}
use Rattle.law.specs.SomeLaws.{some_say}
use Rattle.promises.proofs.AskedLaws.{lived_asked}
use Rattle.promises.proofs.ToldLaws.{lived_granted}
use Rattle.promises.proofs.TakenLaws.{took_rises, claimed_rises}

-- ---- from its grant to its release

-- After any calls from the empty board, refused ones and calls on other disks included: a claim that was granted, and that no later item
-- released, is active, with what it was told; and a claim that waits, and that no later item granted or released, waits.
pub grants_last : (ks : List BoardCall) → All BytesIn ks → (d : ℕ) → d < disks →
    Lasting EndsGrant (StandsActive (held (part_of (lived begun ks).board d)).core.active) ((lived begun ks).past d)
grants_last ks bs d h =
    by_life ks bs d h (λ e past. Lasting EndsGrant (StandsActive e.core.active) past) (λ o e. tt)
    (λ l. granted_stays disk_table l.now l.limit0 l.limit1 l.calls)

pub waits_last : (ks : List BoardCall) → All BytesIn ks → (d : ℕ) → d < disks →
    Lasting EndsWait (StandsWaiting (held (part_of (lived begun ks).board d)).waiting) ((lived begun ks).past d)
waits_last ks bs d h =
    by_life ks bs d h (λ e past. Lasting EndsWait (StandsWaiting e.waiting) past) (λ o e. tt)
    (λ l. waiting_stays disk_table l.now l.limit0 l.limit1 l.calls)

-- ---- the limit that it stated

-- After any calls from the empty board, every claim of an open disk, active or waiting, was claimed by some record: it has the
-- ticket taken then, and all but told and amount is as that record asks.
pub claims_as_asked : (ks : List BoardCall) → All BytesIn ks → (d : ℕ) → d < disks → open_at (lived begun ks).board d ≡ true →
    All (AsAsked (claimed begun ks d)) (claims_on (held (part_of (lived begun ks).board d)))
claims_as_asked ks bs =
    lived_asked begun ks bs whole_begun (λ d. []) (λ d l o. absurd (true≢false (sym o ∙ empty_shut d l)))

-- ---- first half: a reading can rely on what it was told, from its grant to its release

-- After any calls from the empty board, refused ones and calls on other disks included: for every grant that was said on disk d, and that
-- no later item released, the told sum and the present sum of the same figures differ by at most the limit that its own record states
-- less the error that those figures carried at that grant (`Relies` in Asks; `claims_rise`: no other record took its ticket).
pub told_bound : (ks : List BoardCall) → All BytesIn ks → (d : ℕ) → d < disks →
    Lasting EndsGrant (Relies (part_of (lived begun ks).board d) (claimed begun ks d)) ((lived begun ks).past d)
told_bound ks bs d h = go (open_at (lived begun ks).board d) refl
  where
    p : List ℕ
    p = part_of (lived begun ks).board d

    go : (v : Bool) → open_at (lived begun ks).board d ≡ v → Lasting EndsGrant (Relies p (claimed begun ks d)) ((lived begun ks).past d)
    go false o = subst (Lasting EndsGrant (Relies p (claimed begun ks d))) (sym (shut_silent ks bs d h o)) tt
    go true o =
        lasting_all EndsGrant
        (λ i.
        item_relies p (claimed begun ks d) i
        (all_left (AsAsked (claimed begun ks d)) (held p).core.active (held p).waiting (claims_as_asked ks bs d h o)))
        ((lived begun ks).past d) (grants_last ks bs d h)
        (by_life ks bs d h (λ e past. All (Bounded disk_table e.core) past) (λ x e. tt)
        (λ l. reader_bound disk_table l.now l.limit0 l.limit1 l.calls))

-- Disk and ticket identify a reading for all time: no ticket of a disk is granted twice.
pub granted_once : (ks : List BoardCall) → All BytesIn ks → (d : ℕ) → d < disks → Pairs Once ((lived begun ks).past d)
granted_once ks bs d h =
    by_life ks bs d h (λ e past. Pairs Once past) (λ o e. tt) (λ l. law_granted_once disk_table l.now l.limit0 l.limit1 l.calls)

-- All claims take different tickets: of any two calls whose own answer on a disk grants a claim or
-- lets it wait, the later one took the higher ticket.
pub tickets_once : (ks : List BoardCall) → All BytesIn ks → (d : ℕ) → d < disks → Pairs ◌<◌ (took begun ks d)
tickets_once ks bs d h = (took_rises begun ks bs whole_begun d h).apart

-- So do the claims that were made, by their records: the record with a ticket is the only one with it.
pub claims_rise : (ks : List BoardCall) → All BytesIn ks → (d : ℕ) → d < disks → Pairs ◌<◌ (map (λ x. x.ticket) (claimed begun ks d))
claims_rise ks bs d h = (claimed_rises begun ks bs whole_begun d h).apart

-- Every active claim was granted by an item that was said, with the told sum that stands on
-- the board: no active claim is left out.
pub readings_told : (ks : List BoardCall) → All BytesIn ks → (d : ℕ) → d < disks → open_at (lived begun ks).board d ≡ true →
    All (WasGranted ((lived begun ks).past d)) (held (part_of (lived begun ks).board d)).core.active
readings_told ks bs d h on =
    by_life ks bs d h (λ e past. All (WasGranted past) e.core.active) (λ off e. absurd (true≢false (sym on ∙ off)))
    (λ l. lived_granted l.now l.limit0 l.limit1 l.calls)

-- So the own error or stated limit of every claim on the board is the one that its own record states in bytes 20–23.
pub limit_stated : (ks : List BoardCall) → All BytesIn ks → (d : ℕ) → d < disks → open_at (lived begun ks).board d ≡ true →
    All (Stated (claimed begun ks d)) (claims_on (held (part_of (lived begun ks).board d)))
unfolding asked_in
limit_stated ks bs d l o =
    all_say (AsAsked (claimed begun ks d)) (Stated (claimed begun ks d))
    (λ c h. some_say (λ x q. (ap (λ (e : Claim). e.ticket) q, ap (λ (e : Claim). e.error) q)) (claimed begun ks d) h)
    (claims_on (held (part_of (lived begun ks).board d)))
    (claims_as_asked ks bs d l o)

-- ---- what was said is what the answer buffer shows

-- The call returns its own answer's code. The buffer shows its own answer, then the grants of its pass, all else zero.
pub answer_shows : (b : List ℕ) (k : BoardCall) → length b ≡ board_bytes → length k.buffer ≡ answer_size →
    ((step_by b k).code ≡ code_of (own_of (said_by b k)))
    × ((step_by b k).answer ≡ answer_bytes (own_of (said_by b k)) (grants_of (said_by b k)))
unfolding step_of said_by
answer_shows b k n m = rw (eq-eqb (length b) board_bytes n, eq-eqb (length k.buffer) answer_size m) (refl, refl)

-- An item that grants is shown with its ticket, told sum and amount.
pub grant_shows : (i : Item) → i.code ≡ 0 → answer_of i ≡ A.Granted i.ticket i.told i.amount
unfolding answer_of
grant_shows i e = rw e

-- An item that lets a claim wait is shown with its ticket.
pub wait_shows : (i : Item) → i.code ≡ 1 → answer_of i ≡ A.Waits i.ticket
unfolding answer_of
wait_shows i e = rw e

-- ---- second half: no reader pays for another's limit

-- Such a record, decoded, is a well-formed reading in the law's sense.
asks : (r : List ℕ) (m : ℕ) → AsksReading r m → Reading disk_table (asked_in r) m
unfolding asked_in disk_table
asks r m h = record { method = h.method; kind = h.reading; value = h.value; measured = h.measured; stated = h.stated }

-- After any calls ks from the empty board comes the call k, a reading on an open disk. Under exactly the mission's conditions
-- (`Free` in law's Conditions: the clock, a ticket, a place, no writer of what it reads active or waiting at its priority or
-- above, a carried error within its limit, fresh figures if it asked for that) it is granted in its own call: code 0, told the
-- present sum, its amount the error that the figures carry.
module _ (ks : List BoardCall) (bs : All BytesIn ks) (k : BoardCall) (room : length k.buffer ≡ 144) where
  -- The board that the calls left, the record, and the record's disk as the board holds it.
  abbrev b : List ℕ
  b = (lived begun ks).board

  abbrev r : List ℕ
  r = k.asks

  abbrev d : LawDisk
  d = held (part_of b (disk_number r))

  pub granted_at_once : (m : ℕ) → AsksReading r m → open_at b (disk_number r) ≡ true → Free disk_table d (asked_in r) m →
      ((step_by b k).code ≡ 0)
      × ((step_by b k).answer
      ≡ answer_bytes (A.Granted d.next (present d.core.figures m) (carried d.core.figures m)) [])
  unfolding step_of effect_of on_board serve_of answer_of
  granted_at_once m q o c =
      (ap (λ (s : Stepped). s.code) step, ap (λ (s : Stepped). s.answer) step)
    where
      sound : sound_part (part_of b (disk_number r)) ≡ true
      sound = open_sound ks bs (disk_number r) q.disk o

      outcome : answered disk_table d (call_of r) ≡ accepted (with_grant disk_table d (asked_in r)) (reading_item d m ∷ [])
      outcome = rw (eq-eqb (kind_byte r) 2 q.claims) (law_granted_at_once disk_table d (asked_in r) m (asks r m (q)) c)

      not_open : eqb (kind_byte r) 1 ≡ false
      not_open = rw q.claims

      told : effect_of b r ≡ effect (with_part b (disk_number r) (part_for (with_grant disk_table d (asked_in r)))) (accepts (reading_item d m ∷ []))
      told = rw ((says_formed r).1 q.formed, lt-leb disks (disk_number r) q.disk, not_open, o, sound, outcome)

      step : step_by b k ≡ written (effect (with_part b (disk_number r) (part_for (with_grant disk_table d (asked_in r)))) (accepts (reading_item d m ∷ [])))
      step =
          rw (eq-eqb (length b) board_bytes (whole_lived begun ks bs whole_begun).size, eq-eqb (length k.buffer) answer_size room)
          (ap written told)
