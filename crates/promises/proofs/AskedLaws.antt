-- Laws of claims: grants, ends, waits and passes change nothing in a claim but told and amount, so each claim stays as its record asked.
use Rattle.std.specs.Prelude.{ℕ, ◌<◌, Bool, cond, ◌≡◌, refl, eqb}
use Rattle.std.proofs.Math.Bool.{true, false}
use mathlib.Core.List.{List, [], ◌∷◌, ◌++◌, append_assoc, append-nil}
use Rattle.std.proofs.Common.{inl, sym, ap, ◌∙◌, eq-eqb}
use Rattle.std.proofs.Math.Path.{subst}
use Rattle.num.specs.Word.{word_at}
use Rattle.num.specs.Opened.{open_at}
use Rattle.law.specs.declared.Claim.{Claim}
use Rattle.law.specs.Base.{All}
use Rattle.law.specs.Lists.{all_say, all_append, all_left, all_right, all_there, all_less, all_grown}
use Rattle.law.specs.Types.{Core, Disk as LawDisk, claim_of}
use Rattle.law.specs.Granting.{grant, grant_item, raised, as_granted}
use Rattle.law.specs.Calls.{without, queue, opened, asked, at, finish, let_go, with_end}
use Rattle.law.specs.Sound.{claims_on}
use Rattle.law.proofs.QueueLaws.{all_without, all_queued}
use Rattle.law.proofs.Events.{After, claim_after, release_after, pass_keeps}
use Rattle.law.specs.History.{claims, releases, answered}
use Rattle.law.specs.DiskType.{disk_table}
use Rattle.desk.specs.Record.{kind_byte, disk_number, now_of, asked_in}
use Rattle.desk.specs.Board.{disks, part_of}
use Rattle.part.specs.Held.{held}
use Rattle.desk.specs.Step.{Said, accepts}
use Rattle.promises.specs.Histories.{BoardCall, BytesIn, step_by, said_by, History, after, lived}
use Rattle.promises.specs.Asks.{as_asked, Claimed, taken_by, taken, claimed_on, claimed, AsAsked}
use Rattle.law.specs.SomeLaws.{some_left, some_right}
use Rattle.promises.proofs.CaseLaws.{opened_held, served_held}
use Rattle.promises.proofs.LifeLaws.{Whole, whole_after}
use Rattle.promises.proofs.TurnLaws.{Turn, stays, opens, serves, turn}

-- ---- one call on one disk

module _ (past : List Claimed) where
  -- All these claims are as asked.
  abbrev Asks : List Claim → Type 0
  Asks ws = All (AsAsked past) ws

  grant_asked : (s : Core) (c : Claim) → AsAsked past c → Asks s.active → Asks (grant disk_table s c).active
  unfolding grant
  grant_asked s c q h = all_grown (raised disk_table s c) s.active (as_granted disk_table s c) (AsAsked past) h q

  -- A release and its pass bring no new claim.
  end_asked : (d : LawDisk) (now n : ℕ) → Asks (claims_on d) → Asks (claims_on (with_end disk_table d now n))
  unfolding finish
  end_asked d now n h =
      let p =
      pass_keeps disk_table (λ s ws items. Asks s.active × Asks ws)
      (λ s ahead c rest items g k.
      (grant_asked s c (all_there (AsAsked past) ahead c rest k.1) k.0, all_less (AsAsked past) ahead c rest k.1))
      (record { core = finish disk_table (at d now) n; ahead = []; items = [] })
      (without n d.waiting) (
        all_without (AsAsked past) n d.core.active (all_left (AsAsked past) d.core.active d.waiting h),
        all_without (AsAsked past) n d.waiting (all_right (AsAsked past) d.core.active d.waiting h),
      ) in
      all_append (AsAsked past) (let_go disk_table d now n).core.active (let_go disk_table d now n).ahead p.0 p.1

-- Claims as asked stay so when more is claimed.
more_asked : (past new : List Claimed) (ws : List Claim) → All (AsAsked past) ws → All (AsAsked (past ++ new)) ws
more_asked past new ws h =
    all_say (AsAsked past) (AsAsked (past ++ new))
    (λ c. some_left (λ x. as_asked c ≡ claim_of (asked_in x.asks) x.ticket) past new) ws h

-- A claim adds itself, with the next ticket; a release adds nothing.
module _ (past : List Claimed) (d : LawDisk) (r : List ℕ) (h : All (AsAsked past) (claims_on d)) where
  abbrev c : Claim
  c = asked d (asked_in r)

  abbrev own : List Claimed
  own = record { ticket = d.next; asks = r } ∷ []

  active : All (AsAsked (past ++ own)) d.core.active
  active = all_left (AsAsked (past ++ own)) d.core.active d.waiting (more_asked past own (claims_on d) h)

  waiting : All (AsAsked (past ++ own)) d.waiting
  waiting = all_right (AsAsked (past ++ own)) d.core.active d.waiting (more_asked past own (claims_on d) h)

  new : AsAsked (past ++ own) c
  new = some_right (λ x. as_asked c ≡ claim_of (asked_in x.asks) x.ticket) past own (inl refl)

  call_asked : (v : Bool) →
      After (λ e items. All (AsAsked (past ++ taken_by v items r)) (claims_on e))
      (answered disk_table d (cond v (claims (asked_in r)) (releases (now_of r) (word_at r 12))))
  unfolding grant_item
  call_asked true =
      claim_after disk_table (λ e items. All (AsAsked (past ++ taken_by true items r)) (claims_on e)) d (asked_in r)
      (λ ok g.
      all_append (AsAsked (past ++ own)) (grant disk_table (at d (asked_in r).now) c).active d.waiting
      (grant_asked (past ++ own) (at d (asked_in r).now) c new active)
      waiting)
      (λ ok g.
      all_append (AsAsked (past ++ own)) d.core.active (queue c d.waiting) active
      (all_queued (AsAsked (past ++ own)) c new d.waiting waiting))
  call_asked false =
      release_after disk_table (λ e items. All (AsAsked (past ++ taken_by false items r)) (claims_on e)) d (now_of r) (word_at r 12)
      (λ ok. end_asked (past ++ []) d (now_of r) (word_at r 12) (more_asked past [] (claims_on d) h))

-- ---- one call on a board

-- On every open disk all claims are as asked.
abbrev pub EachAsked : List ℕ → (ℕ → List Claimed) → Type 0
EachAsked b past = (d : ℕ) → d < disks → open_at b d ≡ true → All (AsAsked (past d)) (claims_on (held (part_of b d)))

module _ (h : History) (k : BoardCall) (w : Whole h) (bs : BytesIn k) (past : ℕ → List Claimed) (kept : EachAsked h.board past) where
  abbrev b : List ℕ
  b = h.board

  abbrev r : List ℕ
  r = k.asks

  abbrev dk : ℕ
  dk = disk_number k.asks

  abbrev later : ℕ → List Claimed
  later d = past d ++ claimed_on h.board k d

  -- What the call claimed on its own disk, by what it said.
  own_taken : (x : Said) → said_by b k ≡ x → claimed_on b k dk ≡ taken x r
  own_taken x i = rw (eq-eqb dk dk refl) (ap (λ (y : Said). taken y r) i)

  step_asked : EachAsked (step_by b k).bytes later
  unfolding opened
  step_asked d l o = go (turn b k w.size bs d l) l o
    where
      go : {d : ℕ} → Turn b k d → d < disks → open_at (step_by b k).bytes d ≡ true →
          All (AsAsked (later d)) (claims_on (held (part_of (step_by b k).bytes d)))
      go {d} (stays q p i) l o =
          subst (λ (s : List ℕ). All (AsAsked (later d)) (claims_on (held s))) (sym p)
          (more_asked (past d) (claimed_on b k d) (claims_on (held (part_of b d))) (kept d l (sym q ∙ o)))
      go (opens off f0 f1 on p i) l o =
          subst (λ (x : LawDisk). All (AsAsked (later dk)) (claims_on x)) (sym (ap held p ∙ opened_held r bs f0 f1)) tt
      go (serves f was s g items a on p i) l o =
          subst (λ (x : LawDisk). All (AsAsked (later dk)) (claims_on x)) (sym (ap held p ∙ served_held (part_of b dk) r bs f s g items a))
          (subst (λ (x : List Claimed). All (AsAsked (past dk ++ x)) (claims_on g)) (sym (own_taken (accepts items) i))
          (subst (After (λ x ys. All (AsAsked (past dk ++ taken_by (eqb (kind_byte r) 2) ys r)) (claims_on x))) a
          (call_asked (past dk) (held (part_of b dk)) r (kept dk l was) (eqb (kind_byte r) 2))))

-- ---- any calls

pub lived_asked : (h : History) (ks : List BoardCall) → All BytesIn ks → Whole h → (past : ℕ → List Claimed) → EachAsked h.board past →
    EachAsked (lived h ks).board (λ d. past d ++ claimed h ks d)
unfolding lived claimed
lived_asked h [] bs w past kept d l o =
    subst (λ (x : List Claimed). All (AsAsked x) (claims_on (held (part_of h.board d)))) (sym (append-nil (past d))) (kept d l o)
lived_asked h (k ∷ ks) bs w past kept d l o =
    subst
    (λ (x : List Claimed). All (AsAsked x) (claims_on (held (part_of (lived (after h k) ks).board d))))
    (append_assoc (past d) (claimed_on h.board k d) (claimed (after h k) ks d))
    (lived_asked (after h k) ks bs.1 (whole_after h k w bs.0) (λ e. past e ++ claimed_on h.board k e)
    (step_asked h k w bs.0 past kept) d l o)
