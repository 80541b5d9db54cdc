-- Laws of tickets over bytes: a claim takes the next ticket of its disk, every other call takes none, and the next ticket never falls.
use Rattle.std.specs.Prelude.{ℕ, ◌+◌, ◌≤◌, ◌<◌, Bool, true, false, cond, ◌≡◌, refl, eqb}
use mathlib.Core.List.{List, [], ◌∷◌, ◌++◌, map, map-append}
use Rattle.std.proofs.Math.Path.{ap}
use Rattle.std.proofs.Common.{subst, ◌∙◌, arith}
use Rattle.num.specs.Word.{word_at}
use Rattle.num.specs.Opened.{open_at}
use Rattle.law.specs.Base.{All, Pairs}
use Rattle.law.specs.Lists.{all_say, all_append, pairs_join}
use Rattle.law.specs.Types.{Disk as LawDisk, Item}
use Rattle.law.specs.Granting.{grant_item}
use Rattle.law.specs.Calls.{item, opened}
use Rattle.law.proofs.Events.{After, claim_after, release_after}
use Rattle.law.specs.History.{Call, claims, releases, answered}
use Rattle.law.specs.DiskType.{disk_table}
use Rattle.desk.specs.Record.{kind_byte, disk_number, now_of, asked_in, call_of}
use Rattle.desk.specs.Step.{Said, refuses, accepts}
use Rattle.desk.specs.Board.{disks, part_of}
use Rattle.part.specs.Held.{held}
use Rattle.promises.specs.Histories.{BoardCall, BytesIn, step_by, said_by, items_in, items_on, History, after, lived}
use Rattle.promises.specs.Asks.{Claimed, taken_by, taken, claimed_on, claimed, took_by, took_on, took}
use Rattle.promises.proofs.CaseLaws.{opened_held, served_held}
use Rattle.promises.proofs.LifeLaws.{Whole, whole_after}
use Rattle.promises.proofs.TurnLaws.{Turn, stays, opens, serves, turn, own_items}

-- ---- tickets that rise

-- The tickets ts were taken while the next ticket went from m to n, each higher than the one before it.
pub record Rises (m : ℕ) (ts : List ℕ) (n : ℕ) : Type 0 where
  pub above : All (λ t. m ≤ t) ts
  pub below : All (λ t. t < n) ts
  pub apart : Pairs ◌<◌ ts
  pub grows : m ≤ n

rises_none : {m n : ℕ} → m ≤ n → Rises m [] n
rises_none l = record { above = tt; below = tt; apart = tt; grows = l }

rises_one : (m : ℕ) → Rises m (m ∷ []) (m + 1)
rises_one m = record { above = (omega arith, tt); below = (omega arith, tt); apart = (tt, tt); grows = omega arith }

rises_join : {m n o : ℕ} (ts us : List ℕ) → Rises m ts n → Rises n us o → Rises m (ts ++ us) o
rises_join {m} {n} {o} ts us h k =
    record {
      above =
          all_append (λ t. m ≤ t) ts us h.above (all_say (λ t. n ≤ t) (λ t. m ≤ t) (λ t l. omega (arith, h.grows)) us k.above);
      below =
          all_append (λ t. t < o) ts us (all_say (λ t. t < n) (λ t. t < o) (λ t l. omega (arith, k.grows)) ts h.below) k.below;
      apart =
          pairs_join ◌<◌ ts us h.apart k.apart
          (all_say (λ t. t < n) (λ t. All (λ u. t < u) us)
          (λ t l. all_say (λ u. n ≤ u) (λ u. t < u) (λ u i. omega arith) us k.above) ts h.below);
      grows = omega (arith, h.grows, k.grows);
    }

-- ---- the tickets of calls

-- The next ticket of an open disk; 0 for a shut one.
abbrev next_on : List ℕ → ℕ → ℕ
next_on b d = cond (open_at b d) (held (part_of b d)).next 0

-- Tickets named by the items and the record of a call, in any way by which they rise with the next ticket, rise over any calls.
module _ (taking : List Item → List ℕ → List ℕ) (none : (r : List ℕ) → taking [] r ≡ [])
    (opening : (r : List ℕ) → Rises 0 (taking (item 3 0 ∷ []) r) 1)
    (calling : (d : LawDisk) (r : List ℕ) → After (λ e items. Rises d.next (taking items r) e.next) (answered disk_table d (call_of r)))
    (tickets : History → List BoardCall → ℕ → List ℕ) (start : (h : History) (d : ℕ) → tickets h [] d ≡ [])
    (more : (h : History) (k : BoardCall) (ks : List BoardCall) (d : ℕ) →
    tickets h (k ∷ ks) d ≡ taking (items_on h.board k d) k.asks ++ tickets (after h k) ks d) where
  module _ (h : History) (k : BoardCall) (w : Whole h) (bs : BytesIn k) where
    abbrev b : List ℕ
    b = h.board

    abbrev r : List ℕ
    r = k.asks

    abbrev dk : ℕ
    dk = disk_number k.asks

    abbrev c : List ℕ
    c = (step_by h.board k).bytes

    step_rises : (d : ℕ) → d < disks → Rises (next_on b d) (taking (items_on b k d) r) (next_on c d)
    unfolding opened
    step_rises d l = go (turn b k w.size bs d l)
      where
        go : {d : ℕ} → Turn b k d → Rises (next_on b d) (taking (items_on b k d) r) (next_on c d)
        go (stays o p i) = rw (i, p, o, none r) (rises_none (omega arith))
        go (opens off f0 f1 on p i) =
            let next : (held (part_of c dk)).next ≡ 1 = ap (λ (x : LawDisk). x.next) (ap held p ∙ opened_held r bs f0 f1) in
            rw (own_items b k, i, off, on, next) (opening r)
        go (serves f was s g items a on p i) =
            let next : (held (part_of c dk)).next ≡ g.next =
            ap (λ (x : LawDisk). x.next) (ap held p ∙ served_held (part_of b dk) r bs f s g items a) in
            rw (own_items b k, i, was, on, next)
            (subst (After (λ x ys. Rises (held (part_of b dk)).next (taking ys r) x.next)) a (calling (held (part_of b dk)) r))

  lived_rises : (h : History) (ks : List BoardCall) → All BytesIn ks → Whole h → (d : ℕ) → d < disks →
      Rises (next_on h.board d) (tickets h ks d) (next_on (lived h ks).board d)
  unfolding lived
  lived_rises h [] bs w d l = rw (start h d) (rises_none (omega arith))
  lived_rises h (k ∷ ks) bs w d l =
      rw (more h k ks d)
      (rises_join (taking (items_on h.board k d) k.asks) (tickets (after h k) ks d) (step_rises h k w bs.0 d l)
      (lived_rises (after h k) ks bs.1 (whole_after h k w bs.0) d l))

-- ---- by the calls' own answers

call_took : (d : LawDisk) (k : Call) → After (λ e items. Rises d.next (took_by items) e.next) (answered disk_table d k)
unfolding grant_item
call_took d (claims q) =
    claim_after disk_table (λ e items. Rises d.next (took_by items) e.next) d q
    (λ ok g. rises_one d.next)
    (λ ok g. rises_one d.next)
call_took d (releases now n) =
    release_after disk_table (λ e items. Rises d.next (took_by items) e.next) d now n (λ ok. rises_none (omega arith))

-- The tickets taken on a disk, by the items said on it.
took_items : (b : List ℕ) (k : BoardCall) (d : ℕ) → took_on b k d ≡ took_by (items_on b k d)
took_items b k d = go (eqb d (disk_number k.asks))
  where
    go : (v : Bool) → cond v (took_by (items_in (said_by b k))) [] ≡ took_by (cond v (items_in (said_by b k)) [])
    go true = refl
    go false = refl

took_start : (h : History) (d : ℕ) → took h [] d ≡ []
unfolding took
took_start h d = refl

took_more : (h : History) (k : BoardCall) (ks : List BoardCall) (d : ℕ) →
    took h (k ∷ ks) d ≡ took_by (items_on h.board k d) ++ took (after h k) ks d
unfolding took
took_more h k ks d = ap (λ (ts : List ℕ). ts ++ took (after h k) ks d) (took_items h.board k d)

pub took_rises : (h : History) (ks : List BoardCall) → All BytesIn ks → Whole h → (d : ℕ) → d < disks →
    Rises (next_on h.board d) (took h ks d) (next_on (lived h ks).board d)
took_rises =
    lived_rises (λ items r. took_by items) (λ r. refl) (λ r. rises_none (omega arith)) (λ d r. call_took d (call_of r)) took took_start took_more

-- ---- by the records of the claims made

abbrev tickets_in : List Claimed → List ℕ
tickets_in xs = map (λ (x : Claimed). x.ticket) xs

abbrev made : List Item → List ℕ → List ℕ
made items r = tickets_in (taken_by (eqb (kind_byte r) 2) items r)

call_made : (d : LawDisk) (r : List ℕ) (v : Bool) →
    After (λ e items. Rises d.next (tickets_in (taken_by v items r)) e.next)
    (answered disk_table d (cond v (claims (asked_in r)) (releases (now_of r) (word_at r 12))))
unfolding grant_item
call_made d r true =
    claim_after disk_table (λ e items. Rises d.next (tickets_in (taken_by true items r)) e.next) d (asked_in r)
    (λ ok g. rises_one d.next)
    (λ ok g. rises_one d.next)
call_made d r false =
    release_after disk_table (λ e items. Rises d.next (tickets_in (taken_by false items r)) e.next) d (now_of r) (word_at r 12)
    (λ ok. rises_none (omega arith))

open_made : (r : List ℕ) (v : Bool) → Rises 0 (tickets_in (taken_by v (item 3 0 ∷ []) r)) 1
open_made r true = rises_one 0
open_made r false = rises_none (omega arith)

-- The claims made on a disk, by the items said on it.
made_items : (b : List ℕ) (k : BoardCall) (d : ℕ) → tickets_in (claimed_on b k d) ≡ made (items_on b k d) k.asks
made_items b k d = go (eqb d (disk_number k.asks)) (said_by b k)
  where
    go : (v : Bool) (x : Said) → tickets_in (cond v (taken x k.asks) []) ≡ made (cond v (items_in x) []) k.asks
    go true (refuses n) = refl
    go true (accepts items) = refl
    go false x = refl

made_start : (h : History) (d : ℕ) → tickets_in (claimed h [] d) ≡ []
unfolding claimed
made_start h d = refl

made_more : (h : History) (k : BoardCall) (ks : List BoardCall) (d : ℕ) →
    tickets_in (claimed h (k ∷ ks) d) ≡ made (items_on h.board k d) k.asks ++ tickets_in (claimed (after h k) ks d)
unfolding claimed
made_more h k ks d =
    map-append (λ (x : Claimed). x.ticket) (claimed_on h.board k d) (claimed (after h k) ks d)
    ∙ ap (λ (ts : List ℕ). ts ++ tickets_in (claimed (after h k) ks d)) (made_items h.board k d)

pub claimed_rises : (h : History) (ks : List BoardCall) → All BytesIn ks → Whole h → (d : ℕ) → d < disks →
    Rises (next_on h.board d) (tickets_in (claimed h ks d)) (next_on (lived h ks).board d)
claimed_rises =
    lived_rises made (λ r. refl) (λ r. open_made r (eqb (kind_byte r) 2)) (λ d r. call_made d r (eqb (kind_byte r) 2))
    (λ h ks d. tickets_in (claimed h ks d)) made_start made_more
