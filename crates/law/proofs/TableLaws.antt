-- Laws of the disk's table: the constant of 49 entries equals the rule by kinds, and it is symmetric.
use Rattle.std.specs.Prelude.{ℕ, zero, suc, ◌+◌, ◌<◌, List, [], ◌∷◌, map, ◌≡◌, refl, get_or, length}
use Rattle.std.proofs.Common.{le_of_suc-le-suc, not-suc-le-zero, zero-add, arith, ap, ◌∙◌}
use Rattle.num.specs.Bits.{has_bit}
use Rattle.law.specs.declared.Entry.{Entry}
use Rattle.law.specs.declared.Entry.TheVariants.{A}
use Rattle.law.specs.Types.{reads}
use Rattle.law.specs.DiskType.{disk_table, disk_entries, entry_at}
use Rattle.law.specs.Entries.{entry_by, kind_at}

-- Methods 0 to 6.
pub disk_methods : length disk_table.kinds ≡ 7
unfolding disk_table
disk_methods = refl

-- ---- the two computed tests of the whole table

-- The table by the rule: a row for each active method, in it an entry for each requested one.
abbrev pub by_kinds : List (List Entry)
by_kinds = map (λ active. map (entry_by active) disk_table.kinds) disk_table.kinds

-- The constant equals the rule by kinds, for all 49 pairs.
pub table_by_kinds : disk_entries ≡ by_kinds
unfolding disk_entries disk_table has_bit
table_by_kinds = refl

-- The n numbers from k on.
abbrev numbers : ℕ → ℕ → List ℕ
numbers k zero = []
numbers k (suc n) = k ∷ numbers (suc k) n

-- The columns of the table, each as a row.
abbrev pub columns : List (List Entry)
columns = map (λ requested. map (λ row. get_or row requested A) disk_entries) (numbers 0 7)

-- The table is symmetric.
pub table_symmetric : disk_entries ≡ columns
unfolding disk_entries
table_symmetric = refl

-- ---- what they say of each entry

-- An element of a mapped list is the mapped element.
get_d_map : {X Y : Type 0} (f : X → Y) (xs : List X) (i : ℕ) (x : X) (y : Y) → i < length xs →
    get_or (map f xs) i y ≡ f (get_or xs i x)
get_d_map f [] i x y h = absurd (not-suc-le-zero h)
get_d_map f (z ∷ zs) zero x y h = refl
get_d_map f (z ∷ zs) (suc i) x y h = get_d_map f zs i x y (le_of_suc-le-suc h)

-- The number at index i is k + i.
number_at : (k n i : ℕ) → i < n → get_or (numbers k n) i 0 ≡ k + i
number_at k zero i h = absurd (not-suc-le-zero h)
number_at k (suc n) zero h = omega arith
number_at k (suc n) (suc i) h = omega (arith, number_at (suc k) n i (le_of_suc-le-suc h))

-- Each entry is what the rule gives for the kinds of its two methods.
pub disk_entry : (m n : ℕ) → m < 7 → n < 7 → entry_at m n ≡ entry_by (kind_at disk_table m) (kind_at disk_table n)
unfolding disk_table
disk_entry m n hm hn =
    ap (λ (rows : List (List Entry)). get_or (get_or rows m []) n A) table_by_kinds
    ∙ ap (λ (row : List Entry). get_or row n A)
    (get_d_map (λ active. map (entry_by active) disk_table.kinds) disk_table.kinds m (reads 0) [] hm)
    ∙ get_d_map (entry_by (kind_at disk_table m)) disk_table.kinds n (reads 0) A hn

-- It makes no difference which of the two methods is active and which is requested.
pub disk_symmetric : (m n : ℕ) → m < 7 → n < 7 → entry_at m n ≡ entry_at n m
unfolding disk_entries
disk_symmetric m n hm hn =
    ap (λ (rows : List (List Entry)). get_or (get_or rows m []) n A) table_symmetric
    ∙ ap (λ (row : List Entry). get_or row n A)
    (get_d_map (λ requested. map (λ row. get_or row requested A) disk_entries) (numbers 0 7) m 0 [] hm)
    ∙ get_d_map (λ row. get_or row (get_or (numbers 0 7) m 0) A) disk_entries n [] A hn
    ∙ ap (λ (i : ℕ). get_or (get_or disk_entries n []) i A) (number_at 0 7 m hm ∙ zero-add m)
