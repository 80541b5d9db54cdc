-- Laws of the layout: a disk put into a part is read back, a part that decodes is put back as it stood, and what decodes is good
-- and fits.
use Rattle.std.specs.Prelude.{ℕ, zero, suc, ◌+◌, ◌*◌, ◌-◌, ◌^◌, ◌≤◌, ◌<◌, true, ◌≡◌, leb, take, drop, get_or, set, replicate}
use mathlib.Core.List.{List, [], ◌∷◌, ◌++◌, append_assoc, append-nil}
use Rattle.std.proofs.Math.Path.{refl, sym, ap}
use Rattle.std.proofs.Common.{◌∙◌, length-drop, take-append-drop, length-take-le, drop-drop, take-add, take_all, get_or-append-add, leb-true}
use native.Mathlib.Omega.{arith}
use Rattle.std.proofs.Math.ListN.{length, length-append}
use Rattle.std.proofs.lemmas.List.{length-replicate}
use Rattle.std.proofs.Math.Seq.{drop_at}
use Rattle.num.specs.Word.{word_at, put_word, Bytes}
use Rattle.num.specs.WordLaws.{word_at_fits}
use Rattle.num.specs.Signed.{signed_of, word_of, signed_word, word_signed, word_fits, signed_fits}
use Rattle.num.specs.Runs.{le4, flat, splice, all_zero}
use Rattle.num.specs.RunLaws.{length_le4, length_flat, put_splice, splice_first, splice_second, splice_splice, splice_whole}
use Rattle.law.specs.declared.Attr.{Attr}
use Rattle.law.specs.declared.Claim.{Claim}
use Rattle.law.specs.Lists.{Passed, passed, all_passed}
use Rattle.rules.specs.Rows.{no_claim, Row}
use Rattle.rules.specs.declared.disk.Disk.{Disk}
use Rattle.rules.specs.Disks.{Good}
use Rattle.part.specs.Layout.{slots, in_slots, attr_at, state_in, head_words, decode, encode, zero_at, spare_zero, slots_whole, decodes, AttrFits, StateFits, ClaimsFit, DiskFits}
use Rattle.part.specs.ByteLaws.{words_from, flat_words, word_flat, bytes_append, bytes_drop, bytes_flat, zero_byte, zero_same, word_none}
use Rattle.part.specs.SlotLaws.{length_slots, length_in_slots, slots_append, slots_back, slots_whole_lem, slots_none, none_at, none_zero, in_slots_append, put_whole, bytes_slots, slots_fit}

-- ---- lengths

pub length_head : (d : Disk) → length (flat (head_words d)) ≡ 64
unfolding head_words
length_head d = length_flat (head_words d)

module _ (d : Disk) (active : length d.active ≡ 8) (waiting : length d.waiting ≡ 8) where
  pub length_encode : length (encode d) ≡ 768
  unfolding encode
  length_encode = omega (
    arith,
    length-append (flat (head_words d)) (in_slots d.active ++ in_slots d.waiting),
    length-append (in_slots d.active) (in_slots d.waiting),
    length_head d,
    length_in_slots d.active,
    length_in_slots d.waiting,
  )

  -- The head and both runs of slots, put one behind the other over a whole part.
  pub put_all : (s : List ℕ) → length s ≡ 768 →
      splice (splice (splice s 0 (flat (head_words d))) 64 (in_slots d.active)) 416 (in_slots d.waiting) ≡ encode d
  unfolding encode
  put_all s h =
      let a = flat (head_words d) in
      let b = in_slots d.active in
      let e = in_slots d.waiting in
      let place : 0 + length (a ++ b) ≡ 416 =
      omega (arith, length-append a b, length_head d, length_in_slots d.active) in
      ap (λ (r : List ℕ). splice r 416 e) (splice_splice s 0 64 a b (omega (arith, length_head d)))
      ∙ splice_splice s 0 416 (a ++ b) e place
      ∙ ap (splice s 0) (append_assoc a b e)
      ∙ splice_whole s (a ++ (b ++ e)) (h ∙ sym length_encode)

-- ---- what a part that decodes holds

module _ (s : List ℕ) (at n : ℕ) (whole : slots_whole s at n ≡ true) where
  tests : Passed (leb n 8 ∷ spare_zero s at n ∷ zero_at s (at + 44 * n) (44 * (8 - n)) ∷ [])
  unfolding slots_whole
  tests = passed (leb n 8 ∷ spare_zero s at n ∷ zero_at s (at + 44 * n) (44 * (8 - n)) ∷ []) whole

  few : n ≤ 8
  few = leb-true n 8 tests.0

  -- Behind the claims there are none.
  clear_slots : slots 8 (drop at s) ≡ slots n (drop at s) ++ replicate (8 - n) no_claim
  clear_slots =
      let size : 8 ≡ n + (8 - n) = omega (arith, few) in
      ap (λ (k : ℕ). slots k (drop at s)) size
      ∙ slots_append n (8 - n) (drop at s)
      ∙ ap (λ (r : List Claim). slots n (drop at s) ++ r)
      (slots_none (8 - n) (drop (44 * n) (drop at s)) (rw (drop-drop (44 * n) at s) tests.1.1.0))

  clear : (k : ℕ) → n ≤ k → get_or (slots 8 (drop at s)) k no_claim ≡ no_claim
  clear k h =
      let claims = slots n (drop at s) in
      let place : k ≡ length claims + (k - n) = omega (arith, length_slots n (drop at s)) in
      ap (λ (r : List Claim). get_or r k no_claim) clear_slots
      ∙ ap (λ (i : ℕ). get_or (claims ++ replicate (8 - n) no_claim) i no_claim) place
      ∙ get_or-append-add claims (replicate (8 - n) no_claim) (k - n) no_claim
      ∙ none_at (8 - n) (k - n)

  whole_row : Row (slots 8 (drop at s)) n
  whole_row = record { room = length_slots 8 (drop at s); few = few; clear = clear }

  -- The slots of its claims are those that stand there.
  whole_slots : Bytes s → at + 352 ≤ length s → in_slots (slots 8 (drop at s)) ≡ take 352 (drop at s)
  whole_slots b h =
      let l = drop at s in
      let claims = slots n l in
      let none = replicate (8 - n) no_claim in
      let left = take (44 * (8 - n)) (drop (44 * n) l) in
      let size : 44 * n + 44 * (8 - n) ≡ 352 = omega (arith, few) in
      let zeros : all_zero left ≡ true = rw (drop-drop (44 * n) at s) tests.1.1.0 in
      let long : length left ≡ 44 * (8 - n) =
      length-take-le (44 * (8 - n)) (drop (44 * n) l) (omega (arith, few, length-drop at s, length-drop (44 * n) l)) in
      let same : in_slots none ≡ left =
      zero_same
      (in_slots none)
      left
      (omega (arith, length_in_slots none, length-replicate (8 - n) no_claim))
      (none_zero none (none_at (8 - n)))
      zeros in
      ap in_slots clear_slots
      ∙ in_slots_append claims none
      ∙ ap (λ (r : List ℕ). r ++ in_slots none) (slots_whole_lem s at n b (omega (arith, few)) tests.1.0)
      ∙ ap (λ (r : List ℕ). take (44 * n) l ++ r) same
      ∙ sym (take-add (44 * n) (44 * (8 - n)) l)
      ∙ ap (λ (k : ℕ). take k l) size

module _ (s : List ℕ) (decode_s : decodes s ≡ true) where
  all_tests : Passed (zero_at s 56 8 ∷ slots_whole s 64 (word_at s 8) ∷ slots_whole s 416 (word_at s 12) ∷ [])
  unfolding decodes
  all_tests = passed (zero_at s 56 8 ∷ slots_whole s 64 (word_at s 8) ∷ slots_whole s 416 (word_at s 12) ∷ []) decode_s

-- Behind their counts both arrays are clear.
pub decode_good : (s : List ℕ) → length s ≡ 768 → decodes s ≡ true → Good (decode s)
unfolding decode
decode_good s h z =
    let t = all_tests s z in
    record { active = whole_row s 64 (word_at s 8) t.1.0; waiting = whole_row s 416 (word_at s 12) t.1.1.0 }

-- The head's words are those that stand there.
head_words_lem : (s : List ℕ) → Bytes s → zero_at s 56 8 ≡ true → head_words (decode s) ≡ words_from 16 0 s
unfolding head_words decode attr_at state_in
head_words_lem s b z =
    let zeros : (k : ℕ) → 56 ≤ k → k < 64 → get_or s k 0 ≡ 0 = zero_byte s 56 8 z in
    let signed : (at : ℕ) → word_of (signed_of (word_at s at)) ≡ word_at s at =
    λ at. word_signed (word_at s at) (word_at_fits s at b) in
    rw (
      word_none s 56 (λ k l u. zeros k l (omega arith)),
      word_none s 60 (λ k l u. zeros k (omega arith) u),
      signed 16,
      signed 32,
      signed 48,
    )

-- A part that decodes is that of its disk.
pub encode_decode : (s : List ℕ) → Bytes s → length s ≡ 768 → decodes s ≡ true → encode (decode s) ≡ s
unfolding encode decode
encode_decode s b h z =
    let t = all_tests s z in
    let active = in_slots (slots 8 (drop 64 s)) in
    let waiting = in_slots (slots 8 (drop 416 s)) in
    let head : flat (head_words (decode s)) ≡ take 64 s = ap flat (head_words_lem s b t.0) ∙ flat_words 16 0 s b (omega arith) in
    let last : waiting ≡ drop 352 (drop 64 s) =
    whole_slots s 416 (word_at s 12) t.1.1.0 b (omega arith)
    ∙ take_all 352 (drop 416 s) (omega (arith, length-drop 416 s))
    ∙ sym (drop-drop 352 64 s) in
    ap (λ (r : List ℕ). r ++ (active ++ waiting)) head
    ∙ ap (λ (r : List ℕ). take 64 s ++ (r ++ waiting)) (whole_slots s 64 (word_at s 8) t.1.0 b (omega arith))
    ∙ ap (λ (r : List ℕ). take 64 s ++ (take 352 (drop 64 s) ++ r)) last
    ∙ ap (λ (r : List ℕ). take 64 s ++ r) (take-append-drop 352 (drop 64 s))
    ∙ take-append-drop 64 s

-- ---- what the part of a disk holds

module _ (d : Disk) where
  behind_head : drop 64 (encode d) ≡ in_slots d.active ++ in_slots d.waiting
  unfolding encode
  behind_head = drop_at (flat (head_words d)) (in_slots d.active ++ in_slots d.waiting) 64 (length_head d)

  behind_active : length d.active ≡ 8 → drop 416 (encode d) ≡ in_slots d.waiting ++ []
  behind_active h =
      sym (drop-drop 352 64 (encode d))
      ∙ ap (drop 352) behind_head
      ∙ drop_at (in_slots d.active) (in_slots d.waiting) 352 (omega (arith, length_in_slots d.active))
      ∙ sym (append-nil (in_slots d.waiting))

  head_zero : zero_at (encode d) 56 8 ≡ true
  unfolding encode head_words flat le4 all_zero
  head_zero = refl

  head_word : (k : ℕ) → k < 16 → get_or (head_words d) k 0 < 2 ^ 32 → word_at (encode d) (4 * k) ≡ get_or (head_words d) k 0
  unfolding encode head_words
  head_word k h fits = word_flat (head_words d) (in_slots d.active ++ in_slots d.waiting) k h fits

-- The eight claims put from an index on are read back.
slots_there : (s : List ℕ) (at : ℕ) (cs : List Claim) (rest : List ℕ) → drop at s ≡ in_slots cs ++ rest → ClaimsFit cs → slots 8 (drop at s) ≡ cs
slots_there s at cs rest here fits =
    ap (slots 8) here
    ∙ ap (λ (k : ℕ). slots k (in_slots cs ++ rest)) (sym fits.room)
    ∙ slots_back cs rest fits.each

-- The state's amount and limit are 0.
state_is : (a : Attr) → a.amount ≡ 0 → a.limit ≡ 0 → record { value = a.value; stamp = a.stamp; amount = 0; limit = 0 } ≡ a
state_is a h g =
    let with : ℕ → ℕ → Attr = λ x y. record { value = a.value; stamp = a.stamp; amount = x; limit = y } in
    ap (λ (x : ℕ). with x 0) (sym h) ∙ ap (λ (y : ℕ). with a.amount y) (sym g)

-- A disk that fits is read back from its part.
pub decode_encode : (d : Disk) → DiskFits d → decode (encode d) ≡ d
unfolding decode head_words attr_at state_in
decode_encode d f =
    let word = head_word d in
    rw (
      word 0 (omega arith) f.clock,
      word 1 (omega arith) f.next,
      word 2 (omega arith) f.actives,
      word 3 (omega arith) f.waitings,
      word 4 (omega arith) (word_fits d.used.value f.used.value),
      word 5 (omega arith) f.used.stamp,
      word 6 (omega arith) f.used.amount,
      word 7 (omega arith) f.used.limit,
      word 8 (omega arith) (word_fits d.promised.value f.promised.value),
      word 9 (omega arith) f.promised.stamp,
      word 10 (omega arith) f.promised.amount,
      word 11 (omega arith) f.promised.limit,
      word 12 (omega arith) (word_fits d.state.value f.state.value),
      word 13 (omega arith) f.state.stamp,
      signed_word d.used.value f.used.value,
      signed_word d.promised.value f.promised.value,
      signed_word d.state.value f.state.value,
      state_is d.state f.state.amount f.state.limit,
      slots_there (encode d) 64 d.active (in_slots d.waiting) (behind_head d) f.active,
      slots_there (encode d) 416 d.waiting [] (behind_active d f.active.room) f.waiting,
    )

-- The part of a good disk that fits decodes.
pub encode_decodes : (d : Disk) → Good d → DiskFits d → decodes (encode d) ≡ true
unfolding decodes head_words
encode_decodes d good f =
    let s = encode d in
    let active : slots_whole s 64 (word_at s 8) ≡ true =
    rw (head_word d 2 (omega arith) f.actives)
    (put_whole s 64 d.active (in_slots d.waiting) (behind_head d) d.actives good.active) in
    let waiting : slots_whole s 416 (word_at s 12) ≡ true =
    rw (head_word d 3 (omega arith) f.waitings)
    (put_whole s 416 d.waiting [] (behind_active d f.active.room) d.waitings good.waiting) in
    all_passed (zero_at s 56 8 ∷ slots_whole s 64 (word_at s 8) ∷ slots_whole s 416 (word_at s 12) ∷ []) (head_zero d, (active, (waiting, tt)))

-- A part holds bytes.
pub encode_bytes : (d : Disk) → Bytes (encode d)
unfolding encode
encode_bytes d =
    bytes_append
    (flat (head_words d))
    (in_slots d.active ++ in_slots d.waiting)
    (bytes_flat (head_words d))
    (bytes_append (in_slots d.active) (in_slots d.waiting) (bytes_slots d.active) (bytes_slots d.waiting))

-- What is read from bytes has a place in a part.
attr_fits : (s : List ℕ) (at : ℕ) → Bytes s → AttrFits (attr_at s at)
unfolding attr_at
attr_fits s at b =
    record {
      value = signed_fits (word_at s at) (word_at_fits s at b);
      stamp = word_at_fits s (at + 4) b;
      amount = word_at_fits s (at + 8) b;
      limit = word_at_fits s (at + 12) b;
    }

state_fits : (s : List ℕ) (at : ℕ) → Bytes s → StateFits (state_in s at)
unfolding state_in
state_fits s at b =
    record {
      value = signed_fits (word_at s at) (word_at_fits s at b);
      stamp = word_at_fits s (at + 4) b;
      amount = refl;
      limit = refl;
    }

claims_fit : (s : List ℕ) → Bytes s → ClaimsFit (slots 8 s)
claims_fit s b = record { room = length_slots 8 s; each = slots_fit 8 s b }

pub decode_fits : (s : List ℕ) → Bytes s → DiskFits (decode s)
unfolding decode
decode_fits s b =
    record {
      clock = word_at_fits s 0 b;
      next = word_at_fits s 4 b;
      actives = word_at_fits s 8 b;
      waitings = word_at_fits s 12 b;
      used = attr_fits s 16 b;
      promised = attr_fits s 32 b;
      state = state_fits s 48 b;
      active = claims_fit (drop 64 s) (bytes_drop 64 s b);
      waiting = claims_fit (drop 416 s) (bytes_drop 416 s b);
    }

-- ---- a word of the head, and the active claims, put into the part of a disk

-- A word put among words.
put_in_words : (ws : List ℕ) (i x : ℕ) → i < length ws → splice (flat ws) (4 * i) (le4 x) ≡ flat (set ws i x)
unfolding flat
put_in_words [] i x h = absurd (omega arith)
put_in_words (w ∷ ws) zero x h =
    splice_first (le4 w) (flat ws) 0 (le4 x) (omega (arith, length_le4 w, length_le4 x))
    ∙ ap (λ (r : List ℕ). r ++ flat ws) (splice_whole (le4 w) (le4 x) (length_le4 w ∙ sym (length_le4 x)))
put_in_words (w ∷ ws) (suc i) x h =
    let e : 4 * suc i ≡ length (le4 w) + 4 * i = omega (arith, length_le4 w) in
    ap (λ (k : ℕ). splice (le4 w ++ flat ws) k (le4 x)) e
    ∙ splice_second (le4 w) (flat ws) (4 * i) (le4 x)
    ∙ ap (λ (r : List ℕ). le4 w ++ r) (put_in_words ws i x (omega arith))

-- The part of these words and lists.
abbrev pub part_with : List ℕ → List Claim → List Claim → List ℕ
part_with ws active waiting = flat ws ++ (in_slots active ++ in_slots waiting)

pub put_head_word : (ws : List ℕ) (active waiting : List Claim) (i x : ℕ) → i < length ws →
    put_word (part_with ws active waiting) (4 * i) x ≡ part_with (set ws i x) active waiting
put_head_word ws active waiting i x h =
    put_splice (part_with ws active waiting) (4 * i) x
    ∙ splice_first (flat ws) (in_slots active ++ in_slots waiting) (4 * i) (le4 x) (omega (arith, length_flat ws, length_le4 x))
    ∙ ap (λ (r : List ℕ). r ++ (in_slots active ++ in_slots waiting)) (put_in_words ws i x h)
