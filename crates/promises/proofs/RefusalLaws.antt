-- Laws of refusals: each test of a call decides its sentence, the code is the number of the first
-- test that refuses, and a refusal changes no byte.
use Rattle.std.specs.Prelude.{ℕ, suc, ◌+◌, ◌≤◌, ◌<◌, Bool, cond, not, ◌&&◌, List, [], ◌∷◌, ◌++◌, ◌↔◌, ◌⊎◌, ◌≡◌, leb, eqb, length, take, drop, get_or, replicate}
use Rattle.std.proofs.Math.Bool.{true, false}
use Rattle.std.proofs.lemmas.Bool.{false≢true, eqb-false}
use Rattle.std.proofs.Common.{inl, inr, ⊎_elim, sym, ap, ◌∙◌, arith, leb-true, eqb-true, eq-eqb, length-take, get_or-take, get_or-drop}
use Rattle.std.proofs.Math.Path.{refl}
use Rattle.num.specs.Opened.{open_at}
use Rattle.num.specs.Signed.{word_of}
use Rattle.num.specs.Runs.{le4, flat, all_zero}
use Rattle.law.specs.Base.{all_true}
use Rattle.law.specs.Types.{most_flag, Disk, Item, Outcome, refused, accepted}
use Rattle.law.specs.Lists.{and_left, and_right}
use Rattle.law.specs.Calls.{Rule, open_disk}
use Rattle.law.specs.History.{Call, claims, releases, answered}
use Rattle.law.specs.DiskType.{disk_table}
use Rattle.law.specs.Says.{by_test, Says, fails, says_le, says_eq, says_not, says_and, says_two, says_fails, says_self, none, ◌⊳◌ as ◌then◌, says_tests, ◌and◌}
use Rattle.law.specs.Sentences.{Sentence, FirstHolds, open_sentences, sentences_of}
use Rattle.law.proofs.Refusals.{Matches, done, ◌⊳◌, open_refused_by_rule, refused_exactly}
use Rattle.rules.specs.Answers.{answer_of}
use Rattle.part.specs.ByteLaws.{zero_byte}
use Rattle.answer.specs.declared.Answer.{Answer}
use Rattle.answer.specs.declared.Answer.TheVariants as A
use Rattle.answer.specs.declared.Refusal.TheVariants as R
use Rattle.answer.specs.Answers.{number_of, refusal_of, code_of, item_bytes, items_bytes, answer_bytes, answer_size}
use Rattle.answer.specs.AnswerLaws.{refusal_number, number_range}
use Rattle.desk.specs.Record.{byte_at, kind_byte, disk_number, now_of, call_of, used_limit, promised_limit, unused, kind_fits, well_formed}
use Rattle.desk.specs.Board.{disks, board_bytes, part_of, with_part}
use Rattle.desk.specs.BoardLaws.{with_same}
use Rattle.part.specs.PartLaws.{sound_decodes, sound_held, sound_part_lem}
use Rattle.part.specs.Held.{held, sound_part}
use Rattle.desk.specs.Step.{Said, refuses, accepts, own_of, grants_of, Effect, refusing, settled, serve_of, on_part, opening, on_board, effect_of, Stepped, stepped, written, step_of}
use Rattle.desk.specs.StepLaws.{by_answer, by_serve, by_effect}
use Rattle.promises.specs.Sentences.{Unused, KindFits, WellFormed, SoundPart, rule_sentences, sentences}

-- ---- 10: the test of a record says that it is well formed

-- A list whose bytes are all zero passes the test.
zero_all : (l : List ℕ) → ((k : ℕ) → k < length l → get_or l k 0 ≡ 0) → all_zero l ≡ true
unfolding all_zero
zero_all [] h = refl
zero_all (x ∷ l) h = rw (eq-eqb x 0 (h 0 (omega arith))) (zero_all l (λ k u. h (suc k) (omega arith)))

says_unused : (r : List ℕ) (at n : ℕ) → Says (unused r at n) (Unused r at (at + n))
says_unused r at n = (
  zero_byte r at n,
  λ h. zero_all (take n (drop at r)) (λ k u. byte h k (omega (arith, length-take n (drop at r)))),
)
  where
    byte : Unused r at (at + n) → (k : ℕ) → k < n → get_or (take n (drop at r)) k 0 ≡ 0
    byte h k u = get_or-take n (drop at r) k 0 u ∙ get_or-drop at r k 0 ∙ h (at + k) (omega arith) (omega arith)

says_kind : (r : List ℕ) → Says (kind_fits r (kind_byte r)) (KindFits r)
says_kind r = go (eqb k 1) refl (eqb k 2) refl (eqb k 3) refl
  where
    k : ℕ
    k = kind_byte r

    opens : Says (all_true (unused r 4 3 ∷ unused r 12 4 ∷ [])) (Unused r 4 7 × Unused r 12 16)
    opens = says_two (unused r 4 3) (unused r 12 4) (says_unused r 4 3) (says_unused r 12 4)

    frees : Says (all_true (unused r 4 3 ∷ unused r 16 8 ∷ [])) (Unused r 4 7 × Unused r 16 24)
    frees = says_two (unused r 4 3) (unused r 16 8) (says_unused r 4 3) (says_unused r 16 8)

    go : (u : Bool) → eqb k 1 ≡ u → (v : Bool) → eqb k 2 ≡ v → (w : Bool) → eqb k 3 ≡ w →
        Says
        (cond u (all_true (unused r 4 3 ∷ unused r 12 4 ∷ []))
        (cond v true (cond w (all_true (unused r 4 3 ∷ unused r 16 8 ∷ [])) false)))
        (KindFits r)
    go true u v ev w ew =
        let one : k ≡ 1 = eqb-true k 1 u in (
          λ e. inl (one, (opens.0 e).0, (opens.0 e).1),
          ⊎_elim (λ h. opens.1 (h.1, h.2)) (⊎_elim (λ (h : k ≡ 2). absurd (omega arith)) (λ h. absurd (omega (arith, h.0)))),
        )
    go false u true ev w ew = (λ e. inr (inl (eqb-true k 2 ev)), λ h. refl)
    go false u false ev true ew = (
      λ e. inr (inr (eqb-true k 3 ew, (frees.0 e).0, (frees.0 e).1)),
      ⊎_elim (λ h. absurd (eqb-false k 1 u h.0)) (⊎_elim (λ h. absurd (eqb-false k 2 ev h)) (λ h. frees.1 (h.1, h.2))),
    )
    go false u false ev false ew = (
      λ e. absurd (false≢true e),
      ⊎_elim (λ h. absurd (eqb-false k 1 u h.0))
          (⊎_elim (λ h. absurd (eqb-false k 2 ev h)) (λ h. absurd (eqb-false k 3 ew h.0))),
    )

pub says_formed : (r : List ℕ) → Says (well_formed r) (WellFormed r)
unfolding well_formed
says_formed r =
    let all =
    says_tests
    (says_eq (length r) 24
    then says_eq (byte_at r 0) 0x52
    then says_eq (byte_at r 1) 0x42
    then says_eq (byte_at r 7) 0
    then says_le (byte_at r 6) most_flag
    then says_kind r
    then none) in (
      λ e.
          let h = all.0 e in
          record {
            size = h.0;
            mark = (h.1.0, h.1.1.0);
            kind = h.1.1.1.1.1.0;
            flag = h.1.1.1.1.0;
            zero = h.1.1.1.0;
          },
      λ w. all.1 (w.size and w.mark.0 and w.mark.1 and w.zero and w.flag and w.kind and tt),
    )

-- ---- 14: the test of a part says that it is sound

pub says_sound_part : (p : List ℕ) → Says (sound_part p) (SoundPart p)
says_sound_part p = (
  λ e. record { whole = sound_decodes p e; holds = sound_held p e },
  λ s. sound_part_lem p s.whole s.holds,
)

-- ---- the numbers behind 9

-- The numbers of all sentences of a list are 10 to 21.
abbrev numbered : List Sentence → Bool
numbered [] = true
numbered (s ∷ ss) = (leb 10 s.number && leb s.number 21) && numbered ss

first_number : (n : ℕ) (ss : List Sentence) → numbered ss ≡ true → FirstHolds n ss → (10 ≤ n) × (n ≤ 21)
first_number n [] k f = absurd f
first_number n (s ∷ ss) k (inl h) =
    let m = s.number in
    let both : (leb 10 m && leb m 21) ≡ true = and_left (leb 10 m && leb m 21) (numbered ss) k in
    let low : 10 ≤ m = leb-true 10 m (and_left (leb 10 m) (leb m 21) both) in
    let high : m ≤ 21 = leb-true m 21 (and_right (leb 10 m) (leb m 21) both) in
    (omega (arith, h.1), omega (arith, h.1))
first_number n (s ∷ ss) k (inr h) =
    first_number n ss (and_right (leb 10 s.number && leb s.number 21) (numbered ss) k) h.1

call_numbered : (d : Disk) (k : Call) → numbered (sentences_of disk_table d k) ≡ true
call_numbered d (claims q) = refl
call_numbered d (releases now n) = refl

rule_numbered : (b r : List ℕ) → numbered (rule_sentences b r) ≡ true
rule_numbered b r = go (eqb (kind_byte r) 1)
  where
    d : Disk
    d = held (part_of b (disk_number r))

    go : (w : Bool) →
        numbered (cond w (open_sentences (used_limit r) (promised_limit r)) (sentences_of disk_table d (call_of r))) ≡ true
    go true = refl
    go false = call_numbered d (call_of r)

abbrev behind : List Sentence → List Sentence
behind [] = []
behind (s ∷ ss) = ss

-- Only the first sentence has number 9, and 9 is the least number.
pub nine_only : (b r a : List ℕ) → FirstHolds 9 (sentences b r a) → (length b ≡ 49_216) × (length a ≡ 144) → ⊥
nine_only b r a (inl h) w = h.0 w
nine_only b r a (inr h) w = omega (arith, (first_number 9 (behind (sentences b r a)) (rule_numbered b r) h.1).0)

pub first_least : (b r a : List ℕ) (n : ℕ) → FirstHolds n (sentences b r a) → 9 ≤ n
first_least b r a n (inl h) = omega (arith, h.1)
first_least b r a n (inr h) = omega (arith, (first_number n (behind (sentences b r a)) (rule_numbered b r) h.1).0)

-- ---- codes

item_accepted : (i : Item) → code_of (answer_of i) ≤ 3
item_accepted i = by_answer (λ a. code_of a ≤ 3) i (omega arith) (omega arith) (omega arith) (omega arith)

-- The code of an accepted call is at most 3.
told_accepted : (items : List Item) → code_of (own_of (accepts items)) ≤ 3
told_accepted [] = omega arith
told_accepted (i ∷ items) = item_accepted i

pub answer_ends : (a : Answer) → (code_of a ≤ 3) ⊎ ((9 ≤ code_of a) × (code_of a ≤ 21))
answer_ends (A.Granted t z m) = inl (omega arith)
answer_ends (A.Waits t) = inl (omega arith)
answer_ends (A.Released t) = inl (omega arith)
answer_ends A.Opened = inl (omega arith)
answer_ends (A.Refused r) = inr (number_range r)

-- The code of an outcome of the law.
abbrev pub outcome_code : Outcome → ℕ
outcome_code (refused n) = number_of (refusal_of n)
outcome_code (accepted d items) = code_of (own_of (accepts items))

-- If an outcome is refused m exactly if m's sentence is the first that holds, its code is the number of that sentence.
outcome_exactly : (n : ℕ) → 9 ≤ n → (o : Outcome) (ss : List Sentence) → numbered ss ≡ true →
    ((m : ℕ) → (o ≡ refused m) ↔ FirstHolds m ss) → (outcome_code o ≡ n) ↔ FirstHolds n ss
outcome_exactly n l (refused m) ss k by =
    let range : (10 ≤ m) × (m ≤ 21) = first_number m ss k ((by m).0 refl) in
    let same : number_of (refusal_of m) ≡ m = refusal_number m (omega (arith, range.0)) range.1 in (
      λ e. (by n).0 (ap refused (sym same ∙ e)),
      λ f. let e : refused m ≡ refused n = (by n).1 f in let g : m ≡ n = cc in same ∙ g,
    )
outcome_exactly n l (accepted d items) ss k by = (
  λ e. absurd (omega (arith, told_accepted items)),
  λ f. let e : accepted d items ≡ refused n = (by n).1 f in let z : ◌≡◌ {A = ℕ} 0 1 = cc in absurd (omega arith),
)

-- ---- the first test that refuses

-- The number of the first test that passes, or x if none does.
abbrev pub first_of : List Rule → ℕ → ℕ
first_of [] x = x
first_of (t ∷ ts) x = cond t.when t.number (first_of ts x)

-- It is the number of the first sentence that holds.
first_exactly : (n x : ℕ) {ts : List Rule} {ss : List Sentence} (more : List Sentence) → Matches ts ss →
    (x ≡ n) ↔ FirstHolds n more → (first_of ts x ≡ n) ↔ FirstHolds n (ss ++ more)
first_exactly n x more done rest = rest
first_exactly n x more (◌⊳◌ {n = m} {b = w} {P = P} {rs = ts} {ps = ss} s match) rest =
    go w s (first_exactly n x more match rest)
  where
    go : (w : Bool) → Says w P → (first_of ts x ≡ n) ↔ FirstHolds n (ss ++ more) →
        (cond w m (first_of ts x) ≡ n) ↔ (P × (m ≡ n)) ⊎ ((P → ⊥) × FirstHolds n (ss ++ more))
    go true s rest = (λ e. inl (s.0 refl, e), ⊎_elim (λ h. h.1) (λ h. absurd (h.0 (s.0 refl))))
    go false s rest = (
      λ e. inr ((fails false s).0 refl, rest.0 e),
      ⊎_elim (λ h. absurd (false≢true (s.1 h.0))) (λ h. rest.1 h.1),
    )

opening_code : (b : List ℕ) (d : ℕ) (o : Outcome) → (written (opening b d o)).code ≡ outcome_code o
opening_code b d (refused n) = refl
opening_code b d (accepted e items) = refl

settled_code : (b p : List ℕ) (d : ℕ) (o : Outcome) → (written (on_part b d (settled p o))).code ≡ outcome_code o
settled_code b p d (refused n) = refl
settled_code b p d (accepted e items) = refl

-- Refusals 9 to 14 by six facts of a call: the lengths are right, the record is well formed, the disk is above 63, the call is
-- an open, the disk is open, its part is sound.
abbrev pub tests : (whole formed far opens is_open sound : Bool) → List Rule
tests whole formed far opens is_open sound =
    record { number = 9; when = not whole }
    ∷ record { number = 10; when = not formed }
    ∷ record { number = 11; when = far }
    ∷ record { number = 12; when = opens && is_open }
    ∷ record { number = 13; when = not opens && not is_open }
    ∷ record { number = 14; when = not opens && not sound }
    ∷ []

module _ (b r a : List ℕ) where
  -- Names: the call's disk and its part; the law's outcome of an open and of any other call on it; the test of the lengths.
  abbrev d : ℕ
  d = disk_number r

  abbrev p : List ℕ
  p = part_of b (disk_number r)

  abbrev pub opened : Outcome
  opened = open_disk (now_of r) (used_limit r) (promised_limit r)

  abbrev pub served : Outcome
  served = answered disk_table (held (part_of b (disk_number r))) (call_of r)

  abbrev pub lengths : Bool
  lengths = eqb (length b) board_bytes && eqb (length a) answer_size

  -- A call's code is the number of the first test that refuses it, otherwise the code of the law's outcome.
  pub code_by : (step_of b r a).code
      ≡ first_of (tests lengths (well_formed r) (leb disks d) (eqb (kind_byte r) 1) (open_at b d) (sound_part p))
      (cond (eqb (kind_byte r) 1) (outcome_code opened) (outcome_code served))
  unfolding step_of effect_of on_board serve_of
  code_by = go lengths (well_formed r) (leb disks d) (eqb (kind_byte r) 1) (open_at b d) (sound_part p)
    where
      go : (whole formed far opens is_open sound : Bool) →
          (cond whole
          (written (cond formed
          (cond far (refusing b R.Disk)
          (cond opens (cond is_open (refusing b R.Open) (opening b d opened))
          (cond is_open (on_part b d (cond sound (settled p served) (refusing p R.Unsound))) (refusing b R.Closed))))
          (refusing b R.Record)))
          (stepped 9 b a)
          ).code
          ≡ first_of (tests whole formed far opens is_open sound) (cond opens (outcome_code opened) (outcome_code served))
      go false formed far opens is_open sound = refl
      go true false far opens is_open sound = refl
      go true true true opens is_open sound = refl
      go true true false true true sound = refl
      go true true false true false sound = opening_code b d opened
      go true true false false false sound = refl
      go true true false false true true = settled_code b p d served
      go true true false false true false = refl

  rule_exactly : (n : ℕ) → 9 ≤ n →
      (cond (eqb (kind_byte r) 1) (outcome_code opened) (outcome_code served) ≡ n) ↔ FirstHolds n (rule_sentences b r)
  rule_exactly n l = go (eqb (kind_byte r) 1)
    where
      go : (w : Bool) →
          (cond w (outcome_code opened) (outcome_code served) ≡ n)
          ↔ FirstHolds n (cond w (open_sentences (used_limit r) (promised_limit r)) (sentences_of disk_table (held p) (call_of r)))
      go true =
          outcome_exactly n l opened (open_sentences (used_limit r) (promised_limit r)) refl
          (λ m. open_refused_by_rule m (now_of r) (used_limit r) (promised_limit r))
      go false =
          outcome_exactly n l served (sentences_of disk_table (held p) (call_of r)) (call_numbered (held p) (call_of r))
          (λ m. refused_exactly disk_table m (held p) (call_of r))

  says_lengths : Says lengths ((length b ≡ 49_216) × (length a ≡ 144))
  says_lengths =
      says_and (eqb (length b) board_bytes) (eqb (length a) answer_size) (says_eq (length b) board_bytes) (says_eq (length a) answer_size)

  pub code_exactly : (n : ℕ) → 9 ≤ n → ((step_of b r a).code ≡ n) ↔ FirstHolds n (sentences b r a)
  code_exactly n l =
      let opens : Says (eqb (kind_byte r) 1) (kind_byte r ≡ 1) = says_eq (kind_byte r) 1 in
      let row : Matches (tests lengths (well_formed r) (leb disks d) (eqb (kind_byte r) 1) (open_at b d) (sound_part p)) _ =
      says_not lengths says_lengths
      ⊳ says_not (well_formed r) (says_formed r)
      ⊳ says_le disks d
      ⊳ says_and (eqb (kind_byte r) 1) (open_at b d) opens (says_self (open_at b d))
      ⊳ says_and (not (eqb (kind_byte r) 1)) (not (open_at b d)) (says_not (eqb (kind_byte r) 1) opens) (says_fails (open_at b d))
      ⊳ says_and (not (eqb (kind_byte r) 1)) (not (sound_part p)) (says_not (eqb (kind_byte r) 1) opens)
      (says_not (sound_part p) (says_sound_part p))
      ⊳ done in
      rw code_by
      (first_exactly n (cond (eqb (kind_byte r) 1) (outcome_code opened) (outcome_code served)) (rule_sentences b r) row
      (rule_exactly n l))

-- ---- what a refusal leaves and answers

-- Two cases: lengths that 9 does not refuse, and 9.
pub by_lengths : (b r a : List ℕ) (P : Stepped → Type 0) →
    (length b ≡ board_bytes → length a ≡ answer_size → P (written (effect_of b r))) → P (stepped 9 b a) → P (step_of b r a)
unfolding step_of
by_lengths b r a P past nine =
    by_test P (lengths b r a) (λ e. let h = (says_lengths b r a).0 e in past h.0 h.1) (λ e. nine)

-- A refusal leaves the bytes as they were.
abbrev Leaves : List ℕ → Effect → Type 0
Leaves b t = 9 ≤ code_of (own_of t.said) → t.bytes ≡ b

opening_leaves : (b : List ℕ) (d : ℕ) (o : Outcome) → Leaves b (opening b d o)
opening_leaves b d (refused n) h = refl
opening_leaves b d (accepted e items) h = absurd (omega (arith, told_accepted items))

settled_leaves : (p : List ℕ) (o : Outcome) → Leaves p (settled p o)
settled_leaves p (refused n) h = refl
settled_leaves p (accepted e items) h = absurd (omega (arith, told_accepted items))

serve_leaves : (p : List ℕ) (k : Call) → Leaves p (serve_of p k)
serve_leaves p k = by_serve (Leaves p) p k (λ h. refl) (λ s. settled_leaves p (answered disk_table (held p) k))

pub effect_leaves : (b r : List ℕ) → length b ≡ board_bytes → Leaves b (effect_of b r)
effect_leaves b r whole =
    by_effect (Leaves b) b r (λ x h. refl)
    (λ w known o. opening_leaves b (disk_number r) (open_disk (now_of r) (used_limit r) (promised_limit r)))
    (λ w known o h.
    ap (with_part b (disk_number r)) (serve_leaves (part_of b (disk_number r)) (call_of r) h) ∙ with_same b (disk_number r) whole known)

-- A refusal's number, then zeros.
pub said_answers : (s : Said) → 9 ≤ code_of (own_of s) →
    answer_bytes (own_of s) (grants_of s) ≡ le4 (code_of (own_of s)) ++ replicate 140 0
unfolding answer_bytes items_bytes item_bytes flat le4 word_of
said_answers (refuses r) h = refl
said_answers (accepts items) h = absurd (omega (arith, told_accepted items))
