-- Laws of disks by value: a disk of the law has exactly one.
use Rattle.std.specs.Prelude.{ℕ, ◌+◌, ◌-◌, ◌≤◌, ◌<◌, Bool, true, false, List, ◌≡◌, refl, ltb, length, take, get_or, replicate}
use Rattle.std.proofs.Common.{sym, ap, ◌∙◌, arith, length-append, get_or-take, get_or-append-add, ext_get_or, ltb-true, ltb-false}
use Rattle.std.proofs.lemmas.List.{length-replicate}
use Rattle.std.proofs.Math.ListN.{get_or-append}
use Rattle.law.specs.declared.Claim.{Claim}
use Rattle.law.specs.Lists.{get_d_filled}
use Rattle.law.specs.Types.{Disk as LawDisk}
use Rattle.rules.specs.Rows.{Row, no_claim}
use Rattle.rules.specs.RowLaws.{row_length}
use Rattle.rules.specs.declared.disk.Disk.{Disk}
use Rattle.rules.specs.Disks.{DiskIs, padded, by_value}

-- An array is its claims, and clear places behind them.
pub row_padded : {a : List Claim} {n : ℕ} {l : List Claim} → Row a n → take n a ≡ l → a ≡ padded l
row_padded {a} {n} {l} r e =
    ext_get_or no_claim a (padded l)
    (omega (arith, r.room, r.few, k, length-append l (replicate (8 - length l) no_claim), length-replicate (8 - length l) no_claim))
    (λ i h. go i (ltb i n) refl)
  where
    k : length l ≡ n
    k = sym (ap length e) ∙ row_length r

    go : (i : ℕ) (b : Bool) → ltb i n ≡ b → get_or a i no_claim ≡ get_or (padded l) i no_claim
    go i true w =
        let h : i < n = ltb-true i n w in
        sym (get_or-take n a i no_claim h)
        ∙ ap (λ (s : List Claim). get_or s i no_claim) e
        ∙ sym (get_or-append l (replicate (8 - length l) no_claim) no_claim i (omega (arith, k)))
    go i false w =
        let h : n ≤ i = ltb-false i n w in
        let j : i ≡ length l + (i - length l) = omega (arith, k) in
        r.clear i h
        ∙ sym (get_d_filled (8 - length l) (i - length l) no_claim)
        ∙ sym (get_or-append-add l (replicate (8 - length l) no_claim) (i - length l) no_claim)
        ∙ ap (λ (m : ℕ). get_or (padded l) m no_claim) (sym j)

-- The disk of these parts.
abbrev parts_of : LawDisk → ℕ → ℕ → List Claim → List Claim → Disk
parts_of f actives waitings active waiting =
    record {
      clock = f.core.clock;
      next = f.next;
      actives = actives;
      waitings = waitings;
      used = f.core.figures.f0;
      promised = f.core.figures.f1;
      state = f.core.figures.f2;
      active = active;
      waiting = waiting;
    }

-- What stands for a disk of the law is its disk by value.
pub by_value_lem : {e : Disk} {f : LawDisk} → DiskIs e f → e ≡ by_value f
unfolding by_value
by_value_lem {e} {f} x =
    let g = x.good in
    let act : take e.actives e.active ≡ f.core.active = ap (λ (l : LawDisk). l.core.active) x.is in
    let wait : take e.waitings e.waiting ≡ f.waiting = ap (λ (l : LawDisk). l.waiting) x.is in
    ap (λ (l : LawDisk). parts_of l e.actives e.waitings e.active e.waiting) x.is
    ∙ ap (λ (k : ℕ). parts_of f k e.waitings e.active e.waiting) (sym (row_length g.active) ∙ ap length act)
    ∙ ap (λ (k : ℕ). parts_of f (length f.core.active) k e.active e.waiting) (sym (row_length g.waiting) ∙ ap length wait)
    ∙ ap (λ (l : List Claim). parts_of f (length f.core.active) (length f.waiting) l e.waiting) (row_padded g.active act)
    ∙ ap (λ (l : List Claim). parts_of f (length f.core.active) (length f.waiting) (padded f.core.active) l) (row_padded g.waiting wait)
