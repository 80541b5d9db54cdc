-- Laws of rows: what a loop by direct index learns at each turn and at its end, and what a store leaves.
use Rattle.std.specs.Prelude.{ℕ, suc, ◌+◌, ◌≤◌, ◌<◌, Bool, true, false, cond, ◌&&◌, List, [], ◌∷◌, ◌++◌, ◌≡◌, refl, ltb, length, take, drop, get_or, set}
use Rattle.std.proofs.Common.{ap, ◌∙◌, add-one, arith, length-set, drop_of_length-le, length-take-le, drop-cons, get_or-take, get_or-set_same, get_or-set_other, take-suc-set, drop-set-lt, take-take, ltb-true, ltb-false}
use Rattle.std.proofs.Math.Seq.{take-set-lt}
use Rattle.std.proofs.lemmas.List.{take-set-le}
use Rattle.law.specs.declared.Claim.{Claim}
use Rattle.law.specs.Base.{every_of, sum_of}
use Rattle.rules.specs.Rows.{no_claim, Row, RowIs, first_of, remove_at, insert_at}
use Rattle.rules.specs.PlaceLaws.{remove_step, remove_last, insert_step, insert_last}

module _ {a : List Claim} {n : ℕ} (r : Row a n) where
  pub row_length : length (take n a) ≡ n
  row_length = length-take-le n a (omega (arith, r.room, r.few))

  -- ---- what is left of the list at place i

  pub left_on : (i : ℕ) → i < n → drop i (take n a) ≡ get_or a i no_claim ∷ drop (i + 1) (take n a)
  left_on i h =
      drop-cons (take n a) i no_claim (omega (arith, row_length)) ∙ rw (get_or-take n a i no_claim h, add-one i)

  pub left_end : (i : ℕ) → n ≤ i → drop i (take n a) ≡ []
  left_end i h = drop_of_length-le (take n a) {i = i} (omega (arith, row_length))

  pub sum_turn : (f : Claim → ℕ) (i : ℕ) → i < n → sum_of f (drop i (take n a)) ≡ f (get_or a i no_claim) + sum_of f (drop (i + 1) (take n a))
  sum_turn f i h = ap (sum_of f) (left_on i h)

  pub sum_end : (f : Claim → ℕ) (i : ℕ) → n ≤ i → sum_of f (drop i (take n a)) ≡ 0
  sum_end f i h = ap (sum_of f) (left_end i h)

  -- A turn of a test; then, by what the claim at i answers, what the test of what is left becomes. The sides stand so that an
  -- invariant `test of what is left ≡ test of the list` goes behind each: `every_on r p i h e ∙ inv`.
  module _ (p : Claim → Bool) (i : ℕ) where
    every_turn : i < n → every_of p (drop i (take n a)) ≡ (p (get_or a i no_claim) && every_of p (drop (i + 1) (take n a)))
    every_turn h = ap (every_of p) (left_on i h)

    pub every_on : i < n → p (get_or a i no_claim) ≡ true → every_of p (drop (i + 1) (take n a)) ≡ every_of p (drop i (take n a))
    every_on h e = rw (every_turn h, e)

    pub every_not : i < n → p (get_or a i no_claim) ≡ false → false ≡ every_of p (drop i (take n a))
    every_not h e = rw (every_turn h, e)

    pub every_end : n ≤ i → true ≡ every_of p (drop i (take n a))
    every_end h = rw (left_end i h)

    first_turn : i < n → first_of p (drop i (take n a)) ≡ cond (p (get_or a i no_claim)) 0 (suc (first_of p (drop (i + 1) (take n a))))
    first_turn h = ap (first_of p) (left_on i h)

    pub first_on : i < n → p (get_or a i no_claim) ≡ false → i + 1 + first_of p (drop (i + 1) (take n a)) ≡ i + first_of p (drop i (take n a))
    first_on h e = rw (first_turn h, e) (omega arith)

    pub first_here : i < n → p (get_or a i no_claim) ≡ true → i ≡ i + first_of p (drop i (take n a))
    first_here h e = rw (first_turn h, e) (omega arith)

    pub first_end : n ≤ i → i ≡ i + first_of p (drop i (take n a))
    first_end h = rw (left_end i h) (omega arith)

  -- ---- stores

  -- One more at the end.
  pub store_last : (c : Claim) → n < 8 → RowIs (set a n c) (n + 1) (take n a ++ (c ∷ []))
  store_last c h =
      record {
        row =
            record {
              room = length-set a n c ∙ r.room;
              few = omega arith;
              clear = λ k g. get_or-set_other a n k c no_claim (λ e. omega arith) ∙ r.clear k (omega arith);
            };
        list = rw add-one (take-suc-set a n c (omega (arith, r.room)));
      }

  -- Another in a place that holds one.
  pub store_row : (i : ℕ) (c : Claim) → i < n → Row (set a i c) n
  store_row i c h =
      record {
        room = length-set a i c ∙ r.room;
        few = r.few;
        clear = λ k g. get_or-set_other a i k c no_claim (λ e. omega arith) ∙ r.clear k g;
      }

  pub store_list : (i : ℕ) (c : Claim) → i < n → take n (set a i c) ≡ set (take n a) i c
  store_list i c h = take-set-lt n a i c h

  -- The front grown by one, and what is left behind it, which does not see the store.
  pub store_front : (k : ℕ) (c : Claim) → k < n → take (k + 1) (set a k c) ≡ take k a ++ (c ∷ [])
  store_front k c h = rw add-one (take-suc-set a k c (omega (arith, r.room, r.few)))

  pub store_left : (k i : ℕ) (c : Claim) → k < i → k < n → drop i (take n (set a k c)) ≡ drop i (take n a)
  store_left k i c g h = ap (drop i) (take-set-lt n a k c h) ∙ drop-set-lt i (take n a) k c g

  -- The last one cleared.
  pub clear_last : (k : ℕ) → k < n → n ≤ k + 1 → RowIs (set a k no_claim) k (take k a)
  clear_last k g h =
      record {
        row =
            record {
              room = length-set a k no_claim ∙ r.room;
              few = omega (arith, r.few);
              clear = λ j l. go j l (ltb k j) refl;
            };
        list = take-set-le k a k no_claim (omega arith);
      }
    where
      go : (j : ℕ) → k ≤ j → (b : Bool) → ltb k j ≡ b → get_or (set a k no_claim) j no_claim ≡ no_claim
      go j l true e =
          let m : k < j = ltb-true k j e in
          get_or-set_other a k j no_claim no_claim (λ q. omega arith) ∙ r.clear j (omega arith)
      go j l false e =
          let m : j ≡ k = omega (arith, ltb-false k j e) in
          rw m (get_or-set_same a k no_claim no_claim (omega (arith, r.room, r.few)))

  -- ---- turns of a loop that stores in place, and their ends

  pub remove_turn : (i : ℕ) → i + 1 < n → remove_at (i + 1) (take n (set a i (get_or a (i + 1) no_claim))) ≡ remove_at i (take n a)
  remove_turn i h =
      rw (store_list i _ (omega arith), ← get_or-take n a (i + 1) no_claim h) (remove_step (take n a) i no_claim (omega (arith, row_length)))

  pub remove_end : (i : ℕ) → i ≤ n → n ≤ i + 1 → remove_at i (take n a) ≡ take i a
  remove_end i g h = remove_last (take n a) i (omega (arith, row_length)) ∙ take-take i n a g

  pub insert_turn : (i : ℕ) (y : Claim) → i < n → insert_at (i + 1) (get_or a i no_claim) (take n (set a i y)) ≡ insert_at i y (take n a)
  insert_turn i y h =
      rw (store_list i y h, ← get_or-take n a i no_claim h) (insert_step (take n a) i y no_claim (omega (arith, row_length)))

  pub insert_end : (i : ℕ) (y : Claim) → n ≤ i → insert_at i y (take n a) ≡ take n a ++ (y ∷ [])
  insert_end i y h = insert_last (take n a) i y (omega (arith, row_length))
