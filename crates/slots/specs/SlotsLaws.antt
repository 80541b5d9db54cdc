-- Laws of eight slots: a claim or an amount put into one of them, what is raised, and the first elements of a list changed in place.
use Rattle.std.specs.Prelude.{ℕ, zero, suc, ◌+◌, ◌*◌, ◌^◌, ◌≤◌, ◌<◌, List, [], ◌∷◌, ◌++◌, map, ◌≡◌, refl, length, take, get_or, set}
use Rattle.std.proofs.Common.{append-nil, sym, ap, ◌∙◌, add-one, arith, length-set}
use Rattle.num.specs.Word.{put_word, Bytes}
use Rattle.num.specs.Runs.{le4, flat, splice}
use Rattle.num.specs.RunLaws.{length_le4, put_splice, splice_first, splice_second}
use Rattle.law.specs.declared.Claim.{Claim}
use Rattle.law.specs.declared.Entry.{Entry}
use Rattle.law.specs.declared.Entry.TheVariants.{A, N, D, G}
use Rattle.law.specs.Granting.{put_told}
use Rattle.rules.specs.Rows.{no_claim, Row}
use Rattle.part.specs.Layout.{claim_words, slots, in_slots, ClaimFits, ClaimsFit}
use Rattle.part.specs.SlotLaws.{length_slots, length_slot, length_in_slots, slots_back, slots_fit, put_in_slot}
use Rattle.slots.specs.Slots.{Slots, raise_by, map_to}

-- The bytes of eight claims that have a place hold them.
slots_in : (cs : List Claim) → ClaimsFit cs → slots 8 (in_slots cs) ≡ cs
slots_in cs f =
    ap (slots 8) (sym (append-nil (in_slots cs)))
    ∙ ap (λ (k : ℕ). slots k (in_slots cs ++ [])) (sym f.room)
    ∙ slots_back cs [] f.each

pub put_in : {row : List ℕ} {cs : List Claim} → ClaimsFit cs → row ≡ in_slots cs → Slots row × (slots 8 row ≡ cs)
put_in {row} {cs} f e =
    let read : slots 8 row ≡ cs = ap (slots 8) e ∙ slots_in cs f in
    let long : length row ≡ 352 = omega (arith, ap length e, length_in_slots cs, f.room) in
    (record { long = long; canonical = ap in_slots read ∙ sym e }, read)

-- ---- what has a place

set_each : (cs : List Claim) (i : ℕ) (c : Claim) → ((k : ℕ) → ClaimFits (get_or cs k no_claim)) → ClaimFits c →
    (k : ℕ) → ClaimFits (get_or (set cs i c) k no_claim)
set_each [] i c f g k = f k
set_each (x ∷ cs) zero c f g zero = g
set_each (x ∷ cs) zero c f g (suc k) = f (suc k)
set_each (x ∷ cs) (suc i) c f g zero = f zero
set_each (x ∷ cs) (suc i) c f g (suc k) = set_each cs i c (λ j. f (suc j)) g k

-- The claims of bytes have one, with a claim that has one stored among them.
pub set_fits : (row : List ℕ) → Bytes row → (i : ℕ) (c : Claim) → ClaimFits c → ClaimsFit (set (slots 8 row) i c)
set_fits row b i c g =
    record { room = length-set (slots 8 row) i c ∙ length_slots 8 row; each = set_each (slots 8 row) i c (slots_fit 8 row b) g }

-- So has one with another amount.
pub amount_fits : (c : Claim) (x : ℕ) → ClaimFits c → x < 2 ^ 32 → ClaimFits (put_told c c.told x)
amount_fits c x f h =
    record {
      ticket = f.ticket;
      method = f.method;
      priority = f.priority;
      flag = f.flag;
      measured = f.measured;
      value = f.value;
      error = f.error;
      told = f.told;
      amount = h;
    }

-- ---- what is put

pub put_claim_in : (row : List ℕ) → Slots row → (i : ℕ) (c : Claim) → i < 8 →
    splice row (44 * i) (flat (claim_words c)) ≡ in_slots (set (slots 8 row) i c)
put_claim_in row eight i c h =
    ap (λ (r : List ℕ). splice r (44 * i) (flat (claim_words c))) (sym eight.canonical)
    ∙ put_in_slot (slots 8 row) i c (omega (arith, length_slots 8 row))

-- The ninth word of a slot is the amount.
amount_word : (c : Claim) (x : ℕ) → splice (flat (claim_words c)) 32 (le4 x) ≡ flat (claim_words (put_told c c.told x))
unfolding splice flat claim_words le4
amount_word c x = refl

amount_slot : (cs : List Claim) (i x : ℕ) → i < length cs →
    splice (in_slots cs) (44 * i + 32) (le4 x) ≡ in_slots (set cs i (put_told (get_or cs i no_claim) (get_or cs i no_claim).told x))
unfolding in_slots
amount_slot [] i x h = absurd (omega arith)
amount_slot (c ∷ cs) zero x h =
    splice_first (flat (claim_words c)) (in_slots cs) 32 (le4 x) (omega (arith, length_slot c, length_le4 x))
    ∙ ap (λ (r : List ℕ). r ++ in_slots cs) (amount_word c x)
amount_slot (c ∷ cs) (suc i) x h =
    let e : 44 * suc i + 32 ≡ length (flat (claim_words c)) + (44 * i + 32) = omega (arith, length_slot c) in
    ap (λ (k : ℕ). splice (flat (claim_words c) ++ in_slots cs) k (le4 x)) e
    ∙ splice_second (flat (claim_words c)) (in_slots cs) (44 * i + 32) (le4 x)
    ∙ ap (λ (r : List ℕ). flat (claim_words c) ++ r) (amount_slot cs i x (omega arith))

pub put_amount_in : (row : List ℕ) → Slots row → (i x : ℕ) → i < 8 →
    put_word row (44 * i + 32) x
    ≡ in_slots (set (slots 8 row) i (put_told (get_or (slots 8 row) i no_claim) (get_or (slots 8 row) i no_claim).told x))
put_amount_in row eight i x h =
    put_splice row (44 * i + 32) x
    ∙ ap (λ (r : List ℕ). splice r (44 * i + 32) (le4 x)) (sym eight.canonical)
    ∙ amount_slot (slots 8 row) i x (omega (arith, length_slots 8 row))

-- ---- what is raised

-- A claim with the amount of the raised one is the raised one.
pub raise_amount : (x : Claim) (e : Entry) (raise : ℕ) → put_told x x.told (raise_by x e raise).amount ≡ raise_by x e raise
raise_amount x A raise = refl
raise_amount x N raise = refl
raise_amount x D raise = refl
raise_amount x G raise = refl

-- ---- the first of a list changed

module _ {X : Type 0} (f : X → X) where
  to_on : (l : List X) (i : ℕ) (d : X) → i < length l → set (map_to i f l) i (f (get_or (map_to i f l) i d)) ≡ map_to (suc i) f l
  to_on [] i d h = absurd (omega arith)
  to_on (x ∷ l) zero d h = refl
  to_on (x ∷ l) (suc i) d h = ap {B = List X} (λ r. f x ∷ r) (to_on l i d (omega arith))

  -- The one at i changed where it stands.
  pub to_step : (l : List X) (i : ℕ) (d : X) → i < length l → set (map_to i f l) i (f (get_or (map_to i f l) i d)) ≡ map_to (i + 1) f l
  to_step l i d h = rw add-one (to_on l i d h)

  -- From there on each stands as it was.
  pub to_back : (l : List X) (i k : ℕ) (d : X) → i ≤ k → get_or (map_to i f l) k d ≡ get_or l k d
  to_back [] zero k d h = refl
  to_back [] (suc i) k d h = refl
  to_back (x ∷ l) zero k d h = refl
  to_back (x ∷ l) (suc i) zero d h = absurd (omega arith)
  to_back (x ∷ l) (suc i) (suc k) d h = to_back l i k d (omega arith)

  to_length : (l : List X) (i : ℕ) → length (map_to i f l) ≡ length l
  to_length [] zero = refl
  to_length [] (suc i) = refl
  to_length (x ∷ l) zero = refl
  to_length (x ∷ l) (suc i) = ap suc (to_length l i)

  pub to_front : (l : List X) (i : ℕ) → take i (map_to i f l) ≡ map f (take i l)
  to_front [] zero = refl
  to_front [] (suc i) = refl
  to_front (x ∷ l) zero = refl
  to_front (x ∷ l) (suc i) = ap {B = List X} (λ r. f x ∷ r) (to_front l i)

-- The first n changed: the places behind them stay clear.
pub to_row : (f : Claim → Claim) (a : List Claim) (n : ℕ) → Row a n → Row (map_to n f a) n
to_row f a n r =
    record {
      room = to_length f a n ∙ r.room;
      few = r.few;
      clear = λ k h. to_back f a n k no_claim h ∙ r.clear k h;
    }
