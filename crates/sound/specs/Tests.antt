-- What the code tests of a disk, in its own order: its figures, its active claims, its waiting ones. The tests of single
-- claims and attributes are the law's.
use Rattle.std.specs.Prelude.{ℕ, ◌+◌, ◌<◌, Bool, cond, not, List, [], ◌∷◌, ◌++◌, map, ◌≡◌, leb, ltb, eqb, ℤ, length, get_or}
use Rattle.num.specs.Metric.{size}
use Rattle.num.specs.Signed.{word_of}
use Rattle.law.specs.declared.Attr.{Attr}
use Rattle.law.specs.declared.Claim.{Claim}
use Rattle.law.specs.Base.{all_true, every_of, every_pair, sum_of}
use Rattle.law.specs.Types.{most_value, most_error, most_state, most_priority, most_flag, last_ticket, Attribute, a0, a1, a2, Kind, sets, adds, reads, Figures, attr, Disk as LawDisk}
use Rattle.law.specs.Entries.{kind_at, kind_of, entry, is_never}
use Rattle.law.specs.Calls.{value_fits, before}
use Rattle.law.specs.Sound.{bare, bare_by, reading_by, limit_fits, formed, passes, claims_on}
use Rattle.law.specs.DiskType.{disk_table}
use Rattle.rules.specs.Methods.{is_reading, sets_state}
use Rattle.rules.specs.Pairs.{add_of}

-- ---- figures

-- An attribute by itself: value and limit in range, amount ≤ limit; then stamp ≤ clock.
abbrev pub figure_front : Attribute → Attr → List Bool
figure_front a x = value_fits a x.value ∷ limit_fits a x.limit ∷ leb x.amount x.limit ∷ []

abbrev pub figure_tests : Attribute → ℕ → Attr → List Bool
figure_tests a now x = figure_front a x ++ (leb x.stamp now ∷ [])

unfoldable pub figure_fits : Attribute → ℕ → Attr → Bool
figure_fits a now x = all_true (figure_tests a now x)

-- The next ticket and the three attributes.
abbrev pub figures_front : Figures → ℕ → ℕ → List Bool
figures_front f now next =
    leb 1 next ∷ leb next (last_ticket + 1) ∷ figure_fits a0 now f.f0 ∷ figure_fits a1 now f.f1 ∷ []

abbrev pub figures_tests : Figures → ℕ → ℕ → List Bool
figures_tests f now next = figures_front f now next ++ (figure_fits a2 now f.f2 ∷ [])

unfoldable pub figures_fit : Figures → ℕ → ℕ → Bool
figures_fit f now next = all_true (figures_tests f now next)

-- ---- a claim by itself, as the law tests it: in rows, one test behind the other

-- Wherever it stands, 16 to 18 last.
abbrev pub everywhere : Figures → ℕ → ℕ → List (Claim → Bool)
everywhere f now next =
    formed
    ∷ (λ c. leb c.measured now)
    ∷ (λ c. leb 1 c.ticket)
    ∷ (λ c. ltb c.ticket next)
    ∷ passes disk_table f now
    ∷ []

-- An active claim, with its told and amount, and a waiting one, which has neither.
abbrev pub active_row : Figures → ℕ → ℕ → List (Claim → Bool)
active_row f now next = (λ c. bare_by (kind_of disk_table c) c) ∷ (λ c. reading_by (kind_of disk_table c) c) ∷ everywhere f now next

abbrev pub waiting_row : Figures → ℕ → ℕ → List (Claim → Bool)
waiting_row f now next = bare ∷ everywhere f now next

unfoldable pub active_fits : Figures → ℕ → ℕ → Claim → Bool
active_fits f now next c = all_true (map (λ p. p c) (active_row f now next))

unfoldable pub waiting_fits : Figures → ℕ → ℕ → Claim → Bool
waiting_fits f now next c = all_true (map (λ p. p c) (waiting_row f now next))

-- ---- a claim by itself as the code tests it: each field against the most that its kind may have

-- One number of a reading, another of a write.
abbrev pub if_reading : Kind → ℕ → ℕ → ℕ
if_reading k reading write = cond (is_reading k) reading write

-- How large its value may be; a reading has none.
abbrev pub most_value_by : Kind → ℕ
most_value_by k = cond (is_reading k) 0 (cond (sets_state k) most_state most_value)

-- How large its value is: a state as its word, so that a negative one is far above any state.
abbrev pub value_size_by : Kind → ℤ → ℕ
value_size_by k z = cond (sets_state k) (word_of z) (size z)

-- Its value is in range, as 17 has it. (AloneLaws: of 32 bits, where it is not larger than it may be.)
abbrev pub value_in : Kind → ℤ → Bool
value_in (sets a) z = value_fits a z
value_in (adds a) z = leb (size z) most_value
value_in (reads m) z = eqb (size z) 0

-- Rows of bounds by method, as long as five, of which those of values, flags and told sums are the same on every disk.
pub record Bounds (most : List ℕ) : Type 0 where
  pub long : length most ≡ 35
  pub values : (m : ℕ) → m < 7 → get_or most m 0 ≡ most_value_by (kind_at disk_table m)
  pub flags : (m : ℕ) → m < 7 → get_or most (21 + m) 0 ≡ if_reading (kind_at disk_table m) most_flag 0
  pub tolds : (m : ℕ) → m < 7 → get_or most (28 + m) 0 ≡ if_reading (kind_at disk_table m) most_error 0

-- What an active claim and a waiting one both pass where its error may be so large and its second of measuring so late, 16 to 18 among
-- it (AloneLaws); then the fresh flag.
abbrev pub alone_front : ℕ → ℕ → ℕ → Kind → Claim → List Bool
alone_front most last next k c =
    ltb c.method 7
    ∷ leb 1 c.ticket
    ∷ ltb c.ticket next
    ∷ leb c.priority most_priority
    ∷ value_in k c.value
    ∷ leb c.error most
    ∷ leb c.measured last
    ∷ []

abbrev pub flag_test : Kind → Claim → Bool
flag_test k c = leb c.flag (if_reading k most_flag 0)

abbrev pub alone_tests : ℕ → ℕ → ℕ → Kind → Claim → List Bool
alone_tests most last next k c = alone_front most last next k c ++ (flag_test k c ∷ [])

-- By the rows of bounds.
unfoldable pub alone_fits : List ℕ → ℕ → Claim → Bool
alone_fits most next c = all_true (alone_tests (get_or most (7 + c.method) 0) (get_or most (14 + c.method) 0) next (kind_of disk_table c) c)

-- An active claim: that, and its told; then its amount.
abbrev pub active_front : List ℕ → ℕ → Claim → List Bool
active_front most next c =
    alone_fits most next c ∷ leb (size c.told) (if_reading (kind_of disk_table c) most_error 0) ∷ []

abbrev pub amount_test : Claim → Bool
amount_test c = leb c.amount (if_reading (kind_of disk_table c) c.error 0)

unfoldable pub active_by : List ℕ → ℕ → Claim → Bool
active_by most next c = all_true (active_front most next c ++ (amount_test c ∷ []))

-- A waiting claim: both are 0.
abbrev pub waiting_front : List ℕ → ℕ → Claim → List Bool
waiting_front most next c = alone_fits most next c ∷ eqb (size c.told) 0 ∷ []

unfoldable pub waiting_by : List ℕ → ℕ → Claim → Bool
waiting_by most next c = all_true (waiting_front most next c ++ (eqb c.amount 0 ∷ []))

-- ---- two claims

-- Their tickets differ.
abbrev pub apart : Claim → Claim → Bool
apart x y = not (eqb x.ticket y.ticket)

-- Two active claims: their entry is not N.
abbrev pub meets : Claim → Claim → Bool
meets x y = not (is_never (entry disk_table x y))

-- ---- the figures and the claims of a disk

abbrev pub figures_on : LawDisk → Bool
figures_on d = figures_fit d.core.figures d.core.clock d.next

-- Each active claim by itself, and with each behind it; then |promised| with the |d| of the active adds.
abbrev pub each_active : LawDisk → Bool
each_active d = every_of (active_fits d.core.figures d.core.clock d.next) d.core.active

abbrev pub every_meets : LawDisk → Bool
every_meets d = every_pair meets d.core.active

abbrev pub sum_test : LawDisk → Bool
sum_test d = leb (size (attr d.core.figures a1).value + sum_of add_of d.core.active) most_value

abbrev pub actives_front : LawDisk → List Bool
actives_front d = each_active d ∷ every_meets d ∷ []

abbrev pub actives_tests : LawDisk → List Bool
actives_tests d = actives_front d ++ (sum_test d ∷ [])

abbrev pub actives_fit : LawDisk → Bool
actives_fit d = all_true (actives_tests d)

-- Each waiting claim by itself.
abbrev pub waitings_fit : LawDisk → Bool
waitings_fit d = every_of (waiting_fits d.core.figures d.core.clock d.next) d.waiting

-- The tickets of all of them.
abbrev pub tickets_differ : LawDisk → Bool
tickets_differ d = every_pair apart (claims_on d)

-- ---- the whole

-- Behind the active claims: the waiting ones, each by itself and in the pass's order; then the tickets of all.
abbrev pub rest_front : LawDisk → List Bool
rest_front d = waitings_fit d ∷ every_pair before d.waiting ∷ []

abbrev pub rest_tests : LawDisk → List Bool
rest_tests d = rest_front d ++ (tickets_differ d ∷ [])

-- The figures, the active claims, and the rest. (SoundLaws: these together are the law's "Sound".)
abbrev pub code_tests : LawDisk → List Bool
code_tests d = figures_on d ∷ actives_fit d ∷ all_true (rest_tests d) ∷ []
