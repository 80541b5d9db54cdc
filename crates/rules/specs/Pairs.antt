-- What two claims have to do with each other, over the law's definitions.
use Rattle.std.specs.Prelude.{ℕ, ◌+◌, Bool, true, false, cond, not, List, [], ◌∷◌, leb}
use Rattle.num.specs.Metric.{size, dist}
use Rattle.law.specs.declared.Claim.{Claim}
use Rattle.law.specs.declared.Entry.{Entry}
use Rattle.law.specs.declared.Entry.TheVariants.{A, N, D, G}
use Rattle.law.specs.Base.{all_true}
use Rattle.law.specs.Types.{a1, Figures, Core}
use Rattle.law.specs.Entries.{is_always, kind_at}
use Rattle.law.specs.Granting.{adds_to, gap_by}
use Rattle.law.specs.DiskType.{disk_table}
use Rattle.rules.specs.Methods.{pre_of}

-- A disk as a decision sees it.
abbrev pub core_of : Figures → ℕ → List Claim → Core
core_of f now ws = record { clock = now; figures = f; active = ws }

-- What a claim counts in the sum of the active adds.
unfoldable pub add_of : Claim → ℕ
add_of w = cond (adds_to a1 (kind_at disk_table w.method)) (size w.value) 0

-- An active claim of so much amount and limit lets the requested one pass: not under N, and under G, where a write is requested,
-- only where the amount so raised stays within the limit.
abbrev pub lets_by : Entry → Bool → ℕ → ℕ → ℕ → Bool
lets_by A reading amount most raise = true
lets_by N reading amount most raise = false
lets_by D reading amount most raise = true
lets_by G reading amount most raise = cond reading true (leb (amount + raise) most)

-- What it adds to the total: the distance d under D; the gap g under G, where a reading is requested.
abbrev pub cost_on : Entry → Bool → ℕ → ℕ → ℕ
cost_on A reading d g = 0
cost_on N reading d g = 0
cost_on D reading d g = d
cost_on G reading d g = cond reading g 0

-- What the active claim w costs the requested claim c, by their entry.
abbrev pub cost_between : Figures → Entry → Bool → Claim → Claim → ℕ
cost_between f e reading c w =
    cost_on e reading (dist c.value w.value) (gap_by f (kind_at disk_table w.method) w.value)

-- How much the requested claim c raises the amount of an active reading: its own error and its gap.
abbrev pub raise_of : Figures → Claim → ℕ
raise_of f c = c.error + gap_by f (kind_at disk_table c.method) c.value

-- The waiting claim w bars one of a priority by their entry, with the sum of the active adds handed in.
unfoldable pub bars_by : Figures → ℕ → ℕ → ℕ → Entry → Claim → Bool
bars_by f now sum priority e w = all_true (leb priority w.priority ∷ not (is_always e) ∷ pre_of f now sum w ∷ [])
