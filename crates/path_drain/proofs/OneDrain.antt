-- No other events than those of a drain are clean, early, and lead to where it is over.

use Rattle.std.proofs.Common.{◌≡◌, ℕ, ◌<◌, Bool, true, false, List, [], ◌∷◌, length, Option}
use Rattle.std.proofs.Common.{None, Some, refl, sym, ◌∙◌, ap, arith, subst, nat_lt, if◌then◌else◌}
use Rattle.std.proofs.lemmas.Bool.Decides.{nat_tests}
use Rattle.std.specs.List.{AllByRecursion}
use Rattle.std.specs.Option.{option_map}
use Rattle.path_drain.specs.Clean.{IsPathDrained, PathCleanRun, path_clean_event}
use Rattle.path_drain.specs.Clean.{path_deadline, path_passed, path_passed_after}
use Rattle.path_laws.specs.Path.{Path, PathEvent, PathSetup, clock_shows, delivers, path_run}
use Rattle.path_laws.specs.Path.{path_step, sends, starts_path}
use Rattle.path_drain.specs.Drained.{CleanRunsAreOne, DrainsAreOne, EndsBy, drain_events}
use Rattle.path_drain.specs.Left.{IsBefore, IsOverBy}
use Rattle.path_drain.proofs.PathEnds.{drains-are-made}

-- ---- event by event

-- where it is over no early event follows
goes-no-further : (top : ℕ) (o : Option PathEvent) (event : PathEvent) → IsOverBy top o
    → o ≡ Some event → IsBefore top event → ⊥
goes-no-further top None event over is early = absurd (cc)
goes-no-further top (Some (sends end block)) event over is early = over
goes-no-further top (Some (delivers k)) event over is early = over
goes-no-further top (Some (clock_shows now)) event over is early =
    let same : clock_shows now ≡ event = cc in
    let before : now < top = subst (IsBefore top) (sym same) early in
    absurd (omega (arith, over, before))

-- what comes after an event of a drain is one too
ends-on : (top : ℕ) (s : PathSetup) (w : Path) (c : ℕ) (event : PathEvent) (rest : List PathEvent)
    → EndsBy top s w c (event ∷ rest)
    → EndsBy top s (path_step s w event).path (path_passed_after c event) rest
unfolding path_run
ends-on top s w c event rest ends = record {
  clean = ends.clean.1;
  early = ends.early.1;
  over = ends.over;
}

no-more : (top : ℕ) (s : PathSetup) (w : Path) (c : ℕ) (event : PathEvent) (rest : List PathEvent)
    → EndsBy top s w c [] → EndsBy top s w c (event ∷ rest) → ⊥
unfolding path_run
no-more top s w c event rest over ends =
    goes-no-further top (path_clean_event w c) event over.over ends.clean.0 ends.early.0

one-drain : (top : ℕ) (s : PathSetup) (w : Path) (c : ℕ) (xs ys : List PathEvent)
    → EndsBy top s w c xs → EndsBy top s w c ys → xs ≡ ys
one-drain top s w c [] [] first second = refl
one-drain top s w c [] (y ∷ ys) first second = absurd (no-more top s w c y ys first second)
one-drain top s w c (x ∷ xs) [] first second = absurd (no-more top s w c x xs second first)
one-drain top s w c (x ∷ xs) (y ∷ ys) first second =
    let same : y ≡ x = some-is (sym second.clean.0 ∙ first.clean.0) in
    let on : EndsBy top s (path_step s w x).path (path_passed_after c x) ys =
    subst (λ z. EndsBy top s (path_step s w z).path (path_passed_after c z) ys) same
    (ends-on top s w c y ys second) in
    let rest = one-drain top s (path_step s w x).path (path_passed_after c x) xs ys
    (ends-on top s w c x xs first) on in
    rw (same, rest) refl
  where
    some-is : {a b : PathEvent} → Some a ≡ Some b → a ≡ b
    some-is is = cc

pub drains-are-one : DrainsAreOne
drains-are-one s start most c top events made timed ends =
    one-drain top s (path_run s (starts_path s start) events) c made
    (drain_events most top s (path_run s (starts_path s start) events) c) ends
    (drains-are-made s start most c top events timed)

-- ---- until nothing is left to do

is-drained : (w : Path) (c : ℕ) → IsPathDrained w c → path_clean_event w c ≡ None
is-drained w c drained = by_test (nat_lt c (length w.sent)) (passed c (length w.sent) drained.delivered)
    (path_deadline w) drained.no_timer
  where
    passed : (a b : ℕ) → a ≡ b → nat_lt a b ≡ false
    passed a b same = grind (arith, nat_tests)

    by_test : (b : Bool) → b ≡ false → (o : Option ℕ) → o ≡ None
        → (if b then Some (delivers c) else option_map clock_shows o) ≡ None
    by_test true is o none = absurd (cc)
    by_test false is o none = rw none refl

run-ends : (top : ℕ) (s : PathSetup) (w : Path) (n : ℕ) (v : Path) (run : PathCleanRun s w n v)
    → AllByRecursion (IsBefore top) run.events → EndsBy top s w (length w.sent) run.events
run-ends top s w n v run early = record {
  clean = run.clean;
  early = early;
  over = subst (IsOverBy top) (sym (ap (λ x. path_clean_event x
      (path_passed (length w.sent) run.events)) run.leads
      ∙ is-drained v (path_passed (length w.sent) run.events) run.drained)) tt;
}

pub clean-runs-are-one : CleanRunsAreOne
clean-runs-are-one s start most top n events v timed run early =
    drains-are-one s start most (length (path_run s (starts_path s start) events).sent) top events
    run.events timed
    (run-ends top s (path_run s (starts_path s start) events) n v run early)
