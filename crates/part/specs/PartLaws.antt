-- Laws of parts: a sound disk has a part, which holds it; a sound part is that of the disk that it holds.
use Rattle.std.specs.Prelude.{ℕ, zero, suc, ◌+◌, ◌-◌, ◌*◌, ◌^◌, ◌≤◌, ◌<◌, Bool, true, false, cond, List, [], ◌∷◌, ◌≡◌, refl, ltb, ℤ, pos, negsuc, length, take, get_or, replicate}
use Rattle.std.proofs.Common.{sym, ◌∙◌, arith, ltb-true, ltb-false, length-append, get_or-append-add}
use Rattle.std.proofs.Math.Path.{ap}
use Rattle.std.proofs.lemmas.List.{length-replicate, get_or-replicate}
use Rattle.std.proofs.Math.ListN.{get_or-append, get_or-eq_default}
use Rattle.std.proofs.Math.Seq.{take-append_seam}
use Rattle.std.specs.Int.Signed.{mag}
use Rattle.num.specs.Metric.{size}
use Rattle.num.specs.Word.{Bytes}
use Rattle.rules.specs.Rows.{Row, no_claim}
use Rattle.law.specs.declared.Claim.{Claim}
use Rattle.law.specs.Base.{sum_of, All}
use Rattle.law.specs.Lists.{all_at, and_left, and_right}
use Rattle.law.specs.Types.{a0, a1, a2, places, Disk as LawDisk}
use Rattle.law.specs.Entries.{kind_at}
use Rattle.law.specs.Granting.{adds_to}
use Rattle.law.specs.Sound.{Sound, sound}
use Rattle.law.proofs.SoundTest.{says_sound}
use Rattle.law.specs.DiskType.{disk_table}
use Rattle.rules.specs.declared.disk.Disk.{Disk}
use Rattle.rules.specs.Disks.{disk_of, Good, DiskIs, padded, by_value}
use Rattle.rules.specs.Pairs.{add_of}
use Rattle.rules.specs.DiskLaws.{by_value_lem}
use Rattle.part.specs.Layout.{part_bytes, decode, encode, decodes, ClaimFits, ClaimsFit, DiskFits}
use Rattle.part.specs.SlotLaws.{none_fits}
use Rattle.part.specs.LayoutLaws.{length_encode, decode_encode, encode_decode, decode_good, encode_decodes, encode_bytes, decode_fits}
use Rattle.part.specs.Held.{held, part_for, sound_part, HoldsDisk}
use Rattle.part.specs.RangeLaws.{active_fits_lem, waiting_fits_lem, attr_fits}

-- ---- a list of at most eight claims in its array

module _ (ws : List Claim) (few : length ws ≤ places) where
  pub length_padded : length (padded ws) ≡ 8
  length_padded = omega (arith, few, length-append ws (replicate (8 - length ws) no_claim), length-replicate (8 - length ws) no_claim)

  -- A place behind the claims is clear.
  behind : (k : ℕ) → length ws ≤ k → get_or (padded ws) k no_claim ≡ no_claim
  behind k h =
      let j = k - length ws in
      let e : length ws + j ≡ k = omega arith in
      ap (λ (i : ℕ). get_or (padded ws) i no_claim) (sym e)
      ∙ get_or-append-add ws (replicate (8 - length ws) no_claim) j no_claim
      ∙ go j (ltb j (8 - length ws)) refl
    where
      go : (j : ℕ) (b : Bool) → ltb j (8 - length ws) ≡ b → get_or (replicate (8 - length ws) no_claim) j no_claim ≡ no_claim
      go j true e = get_or-replicate (8 - length ws) j no_claim no_claim (ltb-true j (8 - length ws) e)
      go j false e =
          get_or-eq_default (replicate (8 - length ws) no_claim) no_claim {n = j}
          (omega (arith, ltb-false j (8 - length ws) e, length-replicate (8 - length ws) no_claim))

  padded_row : Row (padded ws) (length ws)
  padded_row = record { room = length_padded; few = few; clear = behind }

  padded_fits : All ClaimFits ws → ClaimsFit (padded ws)
  padded_fits h = record { room = length_padded; each = λ k. go k (ltb k (length ws)) refl }
    where
      go : (k : ℕ) (b : Bool) → ltb k (length ws) ≡ b → ClaimFits (get_or (padded ws) k no_claim)
      go k true e =
          rw (get_or-append ws (replicate (8 - length ws) no_claim) no_claim k (ltb-true k (length ws) e))
          (all_at ClaimFits ws no_claim k (ltb-true k (length ws) e) h)
      go k false e = rw (behind k (ltb-false k (length ws) e)) none_fits

-- ---- a disk that has a part

-- A disk of at most eight active and eight waiting claims is that of its disk by value.
pub value_is : (d : LawDisk) → length d.core.active ≤ places → length d.waiting ≤ places → DiskIs (by_value d) d
unfolding by_value
value_is d a w =
    record {
      good = record { active = padded_row d.core.active a; waiting = padded_row d.waiting w };
      is =
          λ i.
          record {
            core =
                record {
                  clock = d.core.clock;
                  figures = d.core.figures;
                  active = take-append_seam d.core.active (replicate (8 - length d.core.active) no_claim) i;
                };
            waiting = take-append_seam d.waiting (replicate (8 - length d.waiting) no_claim) i;
            next = d.next;
          };
    }

module _ (d : LawDisk) (s : Sound disk_table d) (t : d.core.clock < 2 ^ 32) where
  value_fits_lem : DiskFits (by_value d)
  unfolding by_value
  value_fits_lem =
      record {
        clock = t;
        next = omega (arith, s.next_last);
        actives = omega (arith, s.few_active);
        waitings = omega (arith, s.few_waiting);
        used = attr_fits d s t a0;
        promised = attr_fits d s t a1;
        state =
            record {
              value = (attr_fits d s t a2).value;
              stamp = (attr_fits d s t a2).stamp;
              amount = omega (arith, s.amounts a2, s.limits a2);
              limit = s.limits a2;
            };
        active = padded_fits d.core.active s.few_active (active_fits_lem d s t);
        waiting = padded_fits d.waiting s.few_waiting (waiting_fits_lem d s t);
      }

  -- The part of a sound disk holds it, and is sound.
  pub held_part : held (part_for d) ≡ d
  unfolding part_for
  held_part =
      ap (λ (e : Disk). disk_of e) (decode_encode (by_value d) value_fits_lem) ∙ (value_is d s.few_active s.few_waiting).is

  pub part_sound : sound_part (part_for d) ≡ true
  unfolding part_for sound_part
  part_sound =
      rw (encode_decodes (by_value d) (value_is d s.few_active s.few_waiting).good value_fits_lem, held_part)
      ((says_sound disk_table d).1 s)

-- ---- a sound part

-- A part is sound exactly if it decodes and the disk that it holds is sound.
pub sound_decodes : (p : List ℕ) → sound_part p ≡ true → decodes p ≡ true
unfolding sound_part
sound_decodes p h = and_left (decodes p) (sound disk_table (held p)) h

pub sound_held : (p : List ℕ) → sound_part p ≡ true → Sound disk_table (held p)
unfolding sound_part
sound_held p h = (says_sound disk_table (held p)).0 (and_right (decodes p) (sound disk_table (held p)) h)

pub sound_part_lem : (p : List ℕ) → decodes p ≡ true → Sound disk_table (held p) → sound_part p ≡ true
unfolding sound_part
sound_part_lem p h s = rw h ((says_sound disk_table (held p)).1 s)

-- It is the part of the disk that it holds.
pub part_held : (p : List ℕ) → Bytes p → length p ≡ part_bytes → sound_part p ≡ true → part_for (held p) ≡ p
unfolding part_for
part_held p b n h =
    ap encode (sym (by_value_lem {e = decode p} {f = held p} (record { good = decode_good p n (sound_decodes p h); is = refl })))
    ∙ encode_decode p b n (sound_decodes p h)

-- ---- any part that is made

pub length_part_for : (d : LawDisk) → length d.core.active ≤ places → length d.waiting ≤ places → length (part_for d) ≡ part_bytes
unfolding part_for by_value
length_part_for d a w = length_encode (by_value d) (length_padded d.core.active a) (length_padded d.waiting w)

pub bytes_part_for : (d : LawDisk) → Bytes (part_for d)
unfolding part_for
bytes_part_for d = encode_bytes (by_value d)

-- ---- a lent part that holds a disk

pub disk_good : {s : List ℕ} → HoldsDisk s → Good (decode s)
disk_good {s} h = decode_good s h.long h.whole

-- Its claims, counted by a number that is read.
pub active_row_lem : {s : List ℕ} {n : ℕ} → HoldsDisk s → n ≡ (decode s).actives → Row (decode s).active n
active_row_lem h e = rw e (disk_good h).active

pub waiting_row_lem : {s : List ℕ} {n : ℕ} → HoldsDisk s → n ≡ (decode s).waitings → Row (decode s).waiting n
waiting_row_lem h e = rw e (disk_good h).waiting

-- The |d| of the adds among the first n active claims: each value is one of 32 bits.
size_most : (z : ℤ) → mag z < 2 ^ 31 → size z ≤ 2_147_483_648
size_most (pos n) h = omega (arith, h)
size_most (negsuc n) h = omega (arith, h)

sum_most : (n : ℕ) (cs : List Claim) → ((k : ℕ) → mag (get_or cs k no_claim).value < 2 ^ 31) → sum_of add_of (take n cs) ≤ n * 2_147_483_648
unfolding add_of
sum_most zero cs h = omega arith
sum_most (suc n) [] h = omega arith
sum_most (suc n) (c ∷ cs) h = omega (arith, one (adds_to a1 (kind_at disk_table c.method)), sum_most n cs (λ k. h (suc k)))
  where
    one : (b : Bool) → cond b (size c.value) 0 ≤ 2_147_483_648
    one true = size_most c.value (h 0)
    one false = omega arith

pub adds_most : {s : List ℕ} → Bytes s → HoldsDisk s → sum_of add_of (take (decode s).actives (decode s).active) ≤ 17_179_869_184
adds_most {s} b h =
    omega (arith, sum_most (decode s).actives (decode s).active (λ k. ((decode_fits s b).active.each k).value), (disk_good h).active.few)
