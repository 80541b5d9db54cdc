-- Laws of the whole: what the code tests of a disk in its own order is the law's "Sound". Both pass together: the code tests each
-- claim in a row, the law tests every claim one by one.
use Prim.Native.Nat.{ℕ, ◌+◌, ◌≤◌}
use mathlib.Core.Bool.{Bool, true, cond}
use mathlib.Core.List.{List, [], ◌∷◌, ◌++◌, map}
use mathlib.Core.Path.{◌≡◌, refl, sym, ◌∙◌}
use native.Mathlib.Omega.{arith}
use borrow.Author.Tests.{leb-true, le-leb}
use lib.Dec.{leb}
use lib.ListN.{length}
use Rattle.num.specs.Metric.{size}
use Rattle.law.specs.declared.Claim.{Claim}
use Rattle.law.specs.Base.{all_true, every_of}
use Rattle.law.specs.Lists.{all_true_lem, and_left, and_right, Passed, passed, all_passed, sum-zero}
use Rattle.law.specs.Types.{most_value, places, last_ticket, Attribute, a0, a1, a2, Figures, attr, Disk}
use Rattle.law.specs.Entries.{kind_of}
use Rattle.law.specs.Granting.{adds_to, adds_on}
use Rattle.law.specs.Calls.{value_fits}
use Rattle.law.specs.Sound.{each_attribute, limit_fits, sum_fits, claims_on, sound_tests, sound}
use Rattle.law.specs.Says.{◌and◌}
use Rattle.law.specs.DiskType.{disk_table}
use Rattle.rules.specs.Pairs.{add_of}
use Rattle.rules.proofs.EntryLaws.{each_kind}
use Rattle.sound.specs.Tests.{figure_tests, figure_fits, figures_tests, figures_fit, everywhere, active_row, waiting_row, active_fits, waiting_fits, each_active, actives_tests, waitings_fit, rest_tests, code_tests}
use Rattle.sound.proofs.WalkLaws.{same_test, rows, every_join}

-- ---- the three attributes

each : (p : Attribute → Bool) → p a0 ≡ true → p a1 ≡ true → p a2 ≡ true → each_attribute p ≡ true
each p x y z = all_passed (p a0 ∷ p a1 ∷ p a2 ∷ []) (x, (y, (z, tt)))

of_each : (p : Attribute → Bool) → each_attribute p ≡ true → (p a0 ≡ true) × (p a1 ≡ true) × (p a2 ≡ true)
of_each p h =
    let t = passed (p a0 ∷ p a1 ∷ p a2 ∷ []) h in
    (t.0, t.1.0, t.1.1.0)

-- ---- tests that all claims pass are those that the active and the waiting ones pass

abbrev Rows : List (Claim → Bool) → List Claim → Type 0
Rows ps xs = Passed (map (λ p. every_of p xs) ps)

split : (ps : List (Claim → Bool)) (xs ys : List Claim) → Rows ps (xs ++ ys) → Rows ps xs × Rows ps ys
split [] xs ys h = (tt, tt)
split (p ∷ ps) xs ys h =
    let t = split ps xs ys h.1 in
    let both = every_join p xs ys ∙ h.0 in
    ((and_left (every_of p xs) (every_of p ys) both, t.0), (and_right (every_of p xs) (every_of p ys) both, t.1))

join : (ps : List (Claim → Bool)) (xs ys : List Claim) → Rows ps xs → Rows ps ys → Rows ps (xs ++ ys)
join [] xs ys h k = tt
join (p ∷ ps) xs ys h k = (sym (every_join p xs ys) ∙ rw (h.0, k.0), join ps xs ys h.1 k.1)

-- ---- the sums: no method adds to used

no_adds : (ws : List Claim) → adds_on disk_table a0 ws ≡ 0
no_adds ws =
    sum-zero (λ w. cond (adds_to a0 (kind_of disk_table w)) (size w.value) 0) ws
    (all_true_lem (λ w. cond (adds_to a0 (kind_of disk_table w)) (size w.value) 0 ≡ 0)
    (λ w. each_kind (λ k. cond (adds_to a0 k) (size w.value) 0 ≡ 0) refl refl refl refl refl refl refl refl w.method) ws)

-- ---- the whole

module _ (d : Disk) (few : length d.core.active ≤ places) (few_waits : length d.waiting ≤ places) where
  abbrev f : Figures
  f = d.core.figures

  abbrev now : ℕ
  now = d.core.clock

  abbrev ws : List Claim
  ws = d.core.active

  abbrev vs : List Claim
  vs = d.waiting

  abbrev ps : List (Claim → Bool)
  ps = everywhere f now d.next

  -- Each claim passes its row where every claim passes each test of it.
  active_rows : each_active d ≡ all_true (map (λ p. every_of p ws) (active_row f now d.next))
  unfolding active_fits
  active_rows = rows (active_row f now d.next) ws

  waiting_rows : waitings_fit d ≡ all_true (map (λ p. every_of p vs) (waiting_row f now d.next))
  unfolding waiting_fits
  waiting_rows = rows (waiting_row f now d.next) vs

  -- The tests of the law over the attributes.
  abbrev value_test : Attribute → Bool
  value_test a = value_fits a (attr f a).value

  abbrev limit_test : Attribute → Bool
  limit_test a = limit_fits a (attr f a).limit

  abbrev amount_test : Attribute → Bool
  amount_test a = leb (attr f a).amount (attr f a).limit

  abbrev stamp_test : Attribute → Bool
  stamp_test a = leb (attr f a).stamp now

  abbrev sums_test : Attribute → Bool
  sums_test a = sum_fits a (size (attr f a).value + adds_on disk_table a ws)

  -- What the code tests gives what the law tests.
  module _ (h : Passed (code_tests d)) where
    figures : Passed (figures_tests f now d.next)
    unfolding figures_fit
    figures = passed (figures_tests f now d.next) h.0

    used : Passed (figure_tests a0 now f.f0)
    unfolding figure_fits
    used = passed (figure_tests a0 now f.f0) figures.1.1.0

    promised : Passed (figure_tests a1 now f.f1)
    unfolding figure_fits
    promised = passed (figure_tests a1 now f.f1) figures.1.1.1.0

    state : Passed (figure_tests a2 now f.f2)
    unfolding figure_fits
    state = passed (figure_tests a2 now f.f2) figures.1.1.1.1.0

    actives : Passed (actives_tests d)
    actives = passed (actives_tests d) h.1.0

    rest : Passed (rest_tests d)
    rest = passed (rest_tests d) h.1.1.0

    walked : Rows (active_row f now d.next) ws
    walked = passed (map (λ p. every_of p ws) (active_row f now d.next)) (sym active_rows ∙ actives.0)

    waited : Rows (waiting_row f now d.next) vs
    waited = passed (map (λ p. every_of p vs) (waiting_row f now d.next)) (sym waiting_rows ∙ rest.0)

    all : Rows ps (claims_on d)
    all = join ps ws vs walked.1.1 waited.1

    sum_used : sums_test a0 ≡ true
    sum_used =
        le-leb (size (attr f a0).value + adds_on disk_table a0 ws) most_value
        (omega (arith, no_adds ws, leb-true (size (attr f a0).value) most_value used.0))

    sum_promised : sums_test a1 ≡ true
    unfolding add_of
    sum_promised = actives.1.1.0

    code_sound : sound disk_table d ≡ true
    unfolding sound sound_tests
    code_sound =
        all_passed (sound_tests disk_table d)
        (walked.0
        and waited.0
        and each value_test used.0 promised.0 state.0
        and each limit_test used.1.0 promised.1.0 state.1.0
        and all.0
        and each amount_test used.1.1.0 promised.1.1.0 state.1.1.0
        and each stamp_test used.1.1.1.0 promised.1.1.1.0 state.1.1.1.0
        and all.1.0
        and figures.0
        and figures.1.0
        and le-leb (length ws) places few
        and le-leb (length vs) places few_waits
        and rest.1.1.0
        and all.1.1.0
        and all.1.1.1.0
        and all.1.1.1.1.0
        and walked.1.0
        and each sums_test sum_used sum_promised refl
        and actives.1.0
        and rest.1.0
        and tt)

  -- What the law tests gives what the code tests.
  law_figures : leb 1 d.next ≡ true → leb d.next (last_ticket + 1) ≡ true → each_attribute value_test ≡ true →
      each_attribute limit_test ≡ true → each_attribute amount_test ≡ true → each_attribute stamp_test ≡ true →
      figures_fit f now d.next ≡ true
  unfolding figures_fit figure_fits
  law_figures first last values limits amounts stamps =
      let v = of_each value_test values in
      let l = of_each limit_test limits in
      let m = of_each amount_test amounts in
      let s = of_each stamp_test stamps in
      all_passed (figures_tests f now d.next)
      (first
      and last
      and all_passed (figure_tests a0 now f.f0) (v.0 and l.0 and m.0 and s.0 and tt)
      and all_passed (figure_tests a1 now f.f1) (v.1 and l.1 and m.1 and s.1 and tt)
      and all_passed (figure_tests a2 now f.f2) (v.2 and l.2 and m.2 and s.2 and tt)
      and tt)

  law_code : sound disk_table d ≡ true → Passed (code_tests d)
  unfolding sound sound_tests add_of
  law_code h =
      let t = passed (sound_tests disk_table d) h in
      -- from the values, from the next ticket, from the tickets and from the active readings on
      let u = t.1.1 in
      let v = u.1.1.1.1.1.1 in
      let w = v.1.1.1.1 in
      let x = w.1.1.1.1 in
      let l = split ps ws vs (u.1.1.0 and u.1.1.1.1.1.0 and w.1.0 and w.1.1.0 and w.1.1.1.0 and tt) in
      let walked = active_rows ∙ all_passed (map (λ p. every_of p ws) (active_row f now d.next)) (t.0 and x.0 and l.0) in
      let waited = waiting_rows ∙ all_passed (map (λ p. every_of p vs) (waiting_row f now d.next)) (t.1.0 and l.1) in
      law_figures v.0 v.1.0 u.0 u.1.0 u.1.1.1.0 u.1.1.1.1.0
      and all_passed (actives_tests d) (walked and x.1.1.0 and (of_each sums_test x.1.0).1 and tt)
      and all_passed (rest_tests d) (waited and x.1.1.1.0 and w.0 and tt)
      and tt

  pub sound_is : all_true (code_tests d) ≡ sound disk_table d
  sound_is =
      same_test (all_true (code_tests d)) (sound disk_table d) (λ e. code_sound (passed (code_tests d) e))
      (λ e. all_passed (code_tests d) (law_code e))
