-- Laws of slots: one more claim read from a run of slots and one more put behind others, claims read back from their slots and
-- slots put back as they stood, and slots that hold no claim.
use Prim.Native.Nat.{ℕ, zero, suc, ◌+◌, ◌*◌, ◌-◌, ◌^◌, ◌≤◌, ◌<◌}
use Rattle.std.proofs.Math.Bool.{true}
use Rattle.std.specs.Prelude.{◌&&◌, ◌≡◌, leb, take, set, replicate}
use mathlib.Core.List.{List, [], ◌∷◌, ◌++◌, append_assoc, append-nil}
use Rattle.std.proofs.Math.Path.{refl, ap}
use Rattle.std.proofs.Common.{sym, ◌∙◌, add-one, arith, length-append, drop-cons, drop-drop, take-suc, length-take-le, take_at, drop_at, take_all, take-add, get_or-take, le-leb}
use Rattle.std.proofs.Math.ListN.{length, drop, get_or, length-drop}
use Rattle.std.proofs.Math.Seq.{get_or-drop}
use Rattle.num.specs.Word.{word_at, Bytes}
use Rattle.num.specs.WordLaws.{word_at_fits}
use Rattle.num.specs.Signed.{signed_of, word_of, signed_word, word_signed, word_fits, signed_fits}
use Rattle.num.specs.Runs.{le4, flat, splice, all_zero}
use Rattle.num.specs.RunLaws.{length_flat, flat_append, flat_one, splice_first, splice_second, splice_whole, splice_splice}
use Rattle.law.specs.declared.Claim.{Claim}
use Rattle.law.specs.Lists.{and_left, and_right, all_passed}
use Rattle.rules.specs.Rows.{no_claim, Row}
use Rattle.part.specs.Layout.{claim_in, claim_words, slots, in_slots, zero_at, spare_zero, slots_whole, ClaimFits}
use Rattle.part.specs.ByteLaws.{words_from, flat_words, word_flat, bytes_append, bytes_take, bytes_drop, bytes_flat, zero_append, zero_in, zero_byte, word_none}

-- ---- lengths

pub length_slots : (n : ℕ) (s : List ℕ) → length (slots n s) ≡ n
unfolding slots
length_slots zero s = refl
length_slots (suc n) s = ap suc (length_slots n (drop 44 s))

pub length_slot : (c : Claim) → length (flat (claim_words c)) ≡ 44
unfolding claim_words
length_slot c = length_flat (claim_words c)

pub length_in_slots : (cs : List Claim) → length (in_slots cs) ≡ 44 * length cs
unfolding in_slots
length_in_slots [] = refl
length_in_slots (c ∷ cs) =
    omega (arith, length-append (flat (claim_words c)) (in_slots cs), length_slot c, length_in_slots cs)

-- ---- one more slot

pub slots_more : (n : ℕ) (s : List ℕ) → slots (suc n) s ≡ slots n s ++ (claim_in (take 44 (drop (44 * n) s)) ∷ [])
unfolding slots
slots_more zero s = refl
slots_more (suc n) s =
    let next : 44 + 44 * n ≡ 44 * suc n = omega arith in
    ap (λ (l : List Claim). claim_in (take 44 s) ∷ l) (slots_more n (drop 44 s) ∙ rw (drop-drop (44 * n) 44 s, next))

pub in_slots_append : (cs ds : List Claim) → in_slots (cs ++ ds) ≡ in_slots cs ++ in_slots ds
unfolding in_slots
in_slots_append [] ds = refl
in_slots_append (c ∷ cs) ds =
    ap (λ (r : List ℕ). flat (claim_words c) ++ r) (in_slots_append cs ds)
    ∙ sym (append_assoc (flat (claim_words c)) (in_slots cs) (in_slots ds))

pub in_slots_one : (c : Claim) → in_slots (c ∷ []) ≡ flat (claim_words c)
unfolding in_slots
in_slots_one c = append-nil (flat (claim_words c))

-- ---- a turn of a loop

-- The next word, put behind those that stand.
pub put_more : (s : List ℕ) (at j : ℕ) (xs : List ℕ) → j < length xs →
    splice (splice s at (flat (take j xs))) (at + 4 * j) (le4 (get_or xs j 0)) ≡ splice s at (flat (take (j + 1) xs))
put_more s at j xs h =
    let place : at + length (flat (take j xs)) ≡ at + 4 * j =
    omega (arith, length_flat (take j xs), length-take-le j xs (omega arith)) in
    splice_splice s at (at + 4 * j) (flat (take j xs)) (le4 (get_or xs j 0)) place
    ∙ rw (add-one j, take-suc xs j 0 h, flat_append (take j xs) (get_or xs j 0 ∷ []), flat_one (get_or xs j 0))

-- The next claim, put behind those that stand.
pub put_slot : (s : List ℕ) (at i : ℕ) (cs : List Claim) → i < length cs →
    splice (splice s at (in_slots (take i cs))) (at + 44 * i) (flat (claim_words (get_or cs i no_claim)))
    ≡ splice s at (in_slots (take (i + 1) cs))
put_slot s at i cs h =
    let c = get_or cs i no_claim in
    let place : at + length (in_slots (take i cs)) ≡ at + 44 * i =
    omega (arith, length_in_slots (take i cs), length-take-le i cs (omega arith)) in
    splice_splice s at (at + 44 * i) (in_slots (take i cs)) (flat (claim_words c)) place
    ∙ rw (add-one i, take-suc cs i no_claim h, in_slots_append (take i cs) (c ∷ []), in_slots_one c)

-- ---- claims read back from their slots

-- A claim that fits is read back from its slot.
pub claim_back : (c : Claim) → ClaimFits c → claim_in (flat (claim_words c)) ≡ c
unfolding claim_in claim_words
claim_back c fits =
    let ws = claim_words c in
    let at : (k : ℕ) → k < length ws → get_or ws k 0 < 2 ^ 32 → word_at (flat ws) (4 * k) ≡ get_or ws k 0 =
    λ k h f. ap (λ (r : List ℕ). word_at r (4 * k)) (sym (append-nil (flat ws))) ∙ word_flat ws [] k h f in
    rw (
      at 0 (omega arith) fits.ticket,
      at 1 (omega arith) fits.method,
      at 2 (omega arith) fits.priority,
      at 3 (omega arith) fits.flag,
      at 4 (omega arith) fits.measured,
      at 5 (omega arith) (word_fits c.value fits.value),
      at 6 (omega arith) fits.error,
      at 7 (omega arith) (word_fits c.told fits.told),
      at 8 (omega arith) fits.amount,
      signed_word c.value fits.value,
      signed_word c.told fits.told,
    )

-- So are claims one behind the other, whatever stands behind them.
pub slots_back : (cs : List Claim) (rest : List ℕ) → ((k : ℕ) → ClaimFits (get_or cs k no_claim)) →
    slots (length cs) (in_slots cs ++ rest) ≡ cs
unfolding slots in_slots
slots_back [] rest fits = refl
slots_back (c ∷ cs) rest fits =
    rw (
      append_assoc (flat (claim_words c)) (in_slots cs) rest,
      take_at (flat (claim_words c)) (in_slots cs ++ rest) 44 (length_slot c),
      drop_at (flat (claim_words c)) (in_slots cs ++ rest) 44 (length_slot c),
      claim_back c (fits zero),
      slots_back cs rest (λ k. fits (suc k)),
    )

-- ---- slots put back as they stood

-- The words of the claim that a slot holds are the slot's, where the last two are zero.
claim_words_lem : (x : List ℕ) → Bytes x → word_at x 36 ≡ 0 → word_at x 40 ≡ 0 → claim_words (claim_in x) ≡ words_from 11 0 x
unfolding claim_in claim_words
claim_words_lem x b h g =
    rw (h, g, word_signed (word_at x 20) (word_at_fits x 20 b), word_signed (word_at x 28) (word_at_fits x 28 b))

-- A slot of which the two words behind the figures are zero is that of its claim.
pub slot_whole : (s : List ℕ) (at : ℕ) → Bytes s → at + 44 ≤ length s → zero_at s (at + 36) 8 ≡ true →
    flat (claim_words (claim_in (take 44 (drop at s)))) ≡ take 44 (drop at s)
slot_whole s at b h z =
    let x = take 44 (drop at s) in
    let bx = bytes_take 44 (drop at s) (bytes_drop at s b) in
    let size : length x ≡ 44 = length-take-le 44 (drop at s) (omega (arith, length-drop at s)) in
    let spare : (k : ℕ) → 36 ≤ k → k < 44 → get_or x k 0 ≡ 0 =
    λ k l u.
    get_or-take 44 (drop at s) k 0 u
    ∙ get_or-drop at s k 0
    ∙ zero_byte s (at + 36) 8 z (at + k) (omega arith) (omega arith) in
    ap flat (claim_words_lem x bx (word_none x 36 (λ k l u. spare k l (omega arith))) (word_none x 40 (λ k l u. spare k (omega arith) u)))
    ∙ flat_words 11 0 x bx (omega arith)
    ∙ take_all 44 x (omega arith)

no_slots : (s : List ℕ) → in_slots (slots zero s) ≡ []
unfolding slots in_slots
no_slots s = refl

-- So are slots one behind the other.
pub slots_whole_lem : (s : List ℕ) (at n : ℕ) → Bytes s → at + 44 * n ≤ length s → spare_zero s at n ≡ true →
    in_slots (slots n (drop at s)) ≡ take (44 * n) (drop at s)
unfolding spare_zero
slots_whole_lem s at zero b h z = no_slots (drop at s)
slots_whole_lem s at (suc n) b h z =
    let size : 44 * n + 44 ≡ 44 * suc n = omega arith in
    let place = at + 44 * n in
    let claims = slots n (drop at s) in
    let slot = take 44 (drop place s) in
    let before : spare_zero s at n ≡ true = and_left (spare_zero s at n) (zero_at s (place + 36) 8) z in
    let spare : zero_at s (place + 36) 8 ≡ true = and_right (spare_zero s at n) (zero_at s (place + 36) 8) z in
    rw (slots_more n (drop at s), drop-drop (44 * n) at s, in_slots_append claims (claim_in slot ∷ []), in_slots_one (claim_in slot))
    (ap (λ (r : List ℕ). in_slots claims ++ r) (slot_whole s place b (omega arith) spare)
    ∙ ap (λ (r : List ℕ). r ++ slot) (slots_whole_lem s at n b (omega arith) before)
    ∙ ap (λ (r : List ℕ). take (44 * n) (drop at s) ++ take 44 r) (sym (drop-drop (44 * n) at s))
    ∙ sym (take-add (44 * n) 44 (drop at s))
    ∙ ap (λ (k : ℕ). take k (drop at s)) size)

-- ---- slots that hold no claim

pub claim_none : (x : List ℕ) → ((k : ℕ) → get_or x k 0 ≡ 0) → claim_in x ≡ no_claim
unfolding claim_in signed_of
claim_none x h =
    let none : (at : ℕ) → word_at x at ≡ 0 = λ at. word_none x at (λ k l u. h k) in
    rw (none 0, none 4, none 8, none 12, none 16, none 20, none 24, none 28, none 32)

-- Slots of zero bytes hold no claims.
pub slots_none : (n : ℕ) (s : List ℕ) → all_zero (take (44 * n) s) ≡ true → slots n s ≡ replicate n no_claim
unfolding slots
slots_none zero s z = refl
slots_none (suc n) s z =
    let size : 44 * suc n ≡ 44 + 44 * n = omega arith in
    let first = take 44 s in
    let others = take (44 * n) (drop 44 s) in
    let both : (all_zero first && all_zero others) ≡ true =
    sym (zero_append first others) ∙ ap all_zero (sym (take-add 44 (44 * n) s) ∙ ap (λ (k : ℕ). take k s) (sym size)) ∙ z in
    rw (
      claim_none first (zero_in first (and_left (all_zero first) (all_zero others) both)),
      slots_none n (drop 44 s) (and_right (all_zero first) (all_zero others) both),
    )

pub none_at : (n k : ℕ) → get_or (replicate n no_claim) k no_claim ≡ no_claim
none_at zero k = refl
none_at (suc n) zero = refl
none_at (suc n) (suc k) = none_at n k

-- No claims make zero bytes.
pub none_zero : (cs : List Claim) → ((k : ℕ) → get_or cs k no_claim ≡ no_claim) → all_zero (in_slots cs) ≡ true
unfolding all_zero in_slots claim_words word_of flat le4
none_zero [] h = refl
none_zero (c ∷ cs) h = rw (h zero) (none_zero cs (λ k. h (suc k)))

pub slots_append : (n m : ℕ) (s : List ℕ) → slots (n + m) s ≡ slots n s ++ slots m (drop (44 * n) s)
unfolding slots
slots_append zero m s =
    let size : 0 + m ≡ m = omega arith in
    ap (λ (k : ℕ). slots k s) size
slots_append (suc n) m s =
    let size : suc n + m ≡ suc (n + m) = omega arith in
    let next : 44 + 44 * n ≡ 44 * suc n = omega arith in
    rw size
    (ap (λ (l : List Claim). claim_in (take 44 s) ∷ l) (slots_append n m (drop 44 s) ∙ rw (drop-drop (44 * n) 44 s, next)))

-- ---- the bytes of claims, as tests see them

-- Behind the figures of a slot stand zeros.
zero_spare : (c : Claim) (rest : List ℕ) → all_zero (take 8 (drop 36 (flat (claim_words c) ++ rest))) ≡ true
unfolding claim_words flat le4 all_zero
zero_spare c rest = refl

-- So many slots of a run left out.
slots_behind : (k : ℕ) (cs : List Claim) (rest : List ℕ) → k ≤ length cs → drop (44 * k) (in_slots cs ++ rest) ≡ in_slots (drop k cs) ++ rest
unfolding in_slots
slots_behind zero cs rest h = refl
slots_behind (suc k) [] rest h = absurd (omega arith)
slots_behind (suc k) (c ∷ cs) rest h =
    let size : 44 * suc k ≡ 44 + 44 * k = omega arith in
    rw (size, ← drop-drop (44 * k) 44 ((flat (claim_words c) ++ in_slots cs) ++ rest))
    (ap (drop (44 * k))
    (ap (drop 44) (append_assoc (flat (claim_words c)) (in_slots cs) rest)
    ∙ drop_at (flat (claim_words c)) (in_slots cs ++ rest) 44 (length_slot c))
    ∙ slots_behind k cs rest (omega arith))

module _ (s : List ℕ) (at : ℕ) (cs : List Claim) (rest : List ℕ) (here : drop at s ≡ in_slots cs ++ rest) where
  drop_slots : (k : ℕ) → k ≤ length cs → drop (at + 44 * k) s ≡ in_slots (drop k cs) ++ rest
  drop_slots k h = sym (drop-drop (44 * k) at s) ∙ ap (drop (44 * k)) here ∙ slots_behind k cs rest h

  spare_at : (k : ℕ) → k < length cs → zero_at s (at + 44 * k + 36) 8 ≡ true
  unfolding in_slots
  spare_at k h =
      let c = get_or cs k no_claim in
      let others = in_slots (drop (suc k) cs) in
      let claims : in_slots (drop k cs) ≡ flat (claim_words c) ++ others = ap in_slots (drop-cons cs k no_claim h) in
      let bytes : drop (at + 44 * k) s ≡ flat (claim_words c) ++ (others ++ rest) =
      drop_slots k (omega arith)
      ∙ ap (λ (r : List ℕ). r ++ rest) claims
      ∙ append_assoc (flat (claim_words c)) others rest in
      ap (λ (r : List ℕ). all_zero (take 8 r)) (sym (drop-drop 36 (at + 44 * k) s) ∙ ap (drop 36) bytes)
      ∙ zero_spare c (others ++ rest)

  put_spare : (k : ℕ) → k ≤ length cs → spare_zero s at k ≡ true
  unfolding spare_zero
  put_spare zero h = refl
  put_spare (suc k) h = rw (put_spare k (omega arith), spare_at k (omega arith))

  -- The slots of a row are whole.
  pub put_whole : (n : ℕ) → Row cs n → slots_whole s at n ≡ true
  unfolding slots_whole
  put_whole n row =
      let none = drop n cs in
      let size : length (in_slots none) ≡ 44 * (8 - n) = omega (arith, length_in_slots none, length-drop n cs, row.room) in
      let zeros : zero_at s (at + 44 * n) (44 * (8 - n)) ≡ true =
      ap (λ (r : List ℕ). all_zero (take (44 * (8 - n)) r)) (drop_slots n (omega (arith, row.room, row.few)))
      ∙ ap all_zero (take_at (in_slots none) rest (44 * (8 - n)) size)
      ∙ none_zero none (λ k. get_or-drop n cs k no_claim ∙ row.clear (n + k) (omega arith)) in
      all_passed
      (leb n 8 ∷ spare_zero s at n ∷ zero_at s (at + 44 * n) (44 * (8 - n)) ∷ [])
      (le-leb n 8 row.few, (put_spare n (omega (arith, row.room, row.few)), (zeros, tt)))

pub bytes_slots : (cs : List Claim) → Bytes (in_slots cs)
unfolding in_slots
bytes_slots [] k = omega arith
bytes_slots (c ∷ cs) k = bytes_append (flat (claim_words c)) (in_slots cs) (bytes_flat (claim_words c)) (bytes_slots cs) k

-- ---- what is read has a place

claim_fits : (x : List ℕ) → Bytes x → ClaimFits (claim_in x)
unfolding claim_in
claim_fits x b =
    record {
      ticket = word_at_fits x 0 b;
      method = word_at_fits x 4 b;
      priority = word_at_fits x 8 b;
      flag = word_at_fits x 12 b;
      measured = word_at_fits x 16 b;
      value = signed_fits (word_at x 20) (word_at_fits x 20 b);
      error = word_at_fits x 24 b;
      told = signed_fits (word_at x 28) (word_at_fits x 28 b);
      amount = word_at_fits x 32 b;
    }

pub none_fits : ClaimFits no_claim
none_fits =
    record {
      ticket = omega arith;
      method = omega arith;
      priority = omega arith;
      flag = omega arith;
      measured = omega arith;
      value = omega arith;
      error = omega arith;
      told = omega arith;
      amount = omega arith;
    }

pub slots_fit : (n : ℕ) (s : List ℕ) → Bytes s → (k : ℕ) → ClaimFits (get_or (slots n s) k no_claim)
unfolding slots
slots_fit zero s b k = none_fits
slots_fit (suc n) s b zero = claim_fits (take 44 s) (bytes_take 44 s b)
slots_fit (suc n) s b (suc k) = slots_fit n (drop 44 s) (bytes_drop 44 s b) k

-- ---- one slot put among others

pub put_in_slot : (cs : List Claim) (i : ℕ) (c : Claim) → i < length cs →
    splice (in_slots cs) (44 * i) (flat (claim_words c)) ≡ in_slots (set cs i c)
unfolding in_slots
put_in_slot [] i c h = absurd (omega arith)
put_in_slot (x ∷ cs) zero c h =
    splice_first (flat (claim_words x)) (in_slots cs) 0 (flat (claim_words c)) (omega (arith, length_slot x, length_slot c))
    ∙ ap (λ (r : List ℕ). r ++ in_slots cs)
    (splice_whole (flat (claim_words x)) (flat (claim_words c)) (omega (arith, length_slot x, length_slot c)))
put_in_slot (x ∷ cs) (suc i) c h =
    let e : 44 * suc i ≡ length (flat (claim_words x)) + 44 * i = omega (arith, length_slot x) in
    ap (λ (k : ℕ). splice (flat (claim_words x) ++ in_slots cs) k (flat (claim_words c))) e
    ∙ splice_second (flat (claim_words x)) (in_slots cs) (44 * i) (flat (claim_words c))
    ∙ ap (λ (r : List ℕ). flat (claim_words x) ++ r) (put_in_slot cs i c (omega arith))

-- ---- one slot read among others

pub slot_at : (n : ℕ) (s : List ℕ) (i : ℕ) → i < n → get_or (slots n s) i no_claim ≡ claim_in (take 44 (drop (44 * i) s))
unfolding slots
slot_at zero s i h = absurd (omega arith)
slot_at (suc n) s zero h = refl
slot_at (suc n) s (suc i) h =
    let e : 44 + 44 * i ≡ 44 * suc i = omega arith in
    slot_at n (drop 44 s) i (omega arith) ∙ ap (λ (r : List ℕ). claim_in (take 44 r)) (drop-drop (44 * i) 44 s ∙ ap (λ (k : ℕ). drop k s) e)

-- The same behind so many bytes.
pub slot_behind : (at : ℕ) (s : List ℕ) (i : ℕ) → i < 8 → get_or (slots 8 (drop at s)) i no_claim ≡ claim_in (take 44 (drop (at + 44 * i) s))
slot_behind at s i h = slot_at 8 (drop at s) i h ∙ ap (λ (r : List ℕ). claim_in (take 44 r)) (drop-drop (44 * i) at s)
