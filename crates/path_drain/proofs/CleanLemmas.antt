-- Clean events of a path, one more and none more.

use Rattle.std.proofs.Common.{◌≡◌, ℕ, ◌≤◌, Bool, true, false, List, [], ◌∷◌, ◌++◌}
use Rattle.std.proofs.Common.{length, Option, None, Some, refl, ap, arith, subst, nat_lt}
use Rattle.std.proofs.Common.{if◌then◌else◌}
use Rattle.std.proofs.lemmas.Bool.{ltb-false, ltb-true}
use Rattle.std.specs.Option.{option_map}
use Rattle.path_laws.specs.Path.{PathSetup, Path, SentFrom, PathEvent, clock_shows, delivers}
use Rattle.path_laws.specs.Path.{path_run, path_step}
use Rattle.path_drain.specs.Clean.{AreCleanOnPath, AreCleanOnPathFrom, IsPathDrained}
use Rattle.path_drain.specs.Clean.{path_clean_event, path_deadline, path_passed}
use Rattle.path_drain.specs.Clean.{path_passed_after}
use Rattle.path_drain.proofs.PathLists.{step-sends}

pub clean-more : (s : PathSetup) (w : Path) (c : ℕ) (events : List PathEvent) (event : PathEvent)
    → AreCleanOnPath s w c events
    → path_clean_event (path_run s w events) (path_passed c events) ≡ Some event
    → AreCleanOnPath s w c (events ++ event ∷ [])
unfolding path_run
clean-more s w c [] event clean next = (next, tt)
clean-more s w c (first ∷ events) event clean next = (
  clean.0,
  clean-more s (path_step s w first).path (path_passed_after c first) events event clean.1 next,
)

length-more : (xs ys : List SentFrom) → length xs ≤ length (xs ++ ys)
length-more [] ys = omega arith
length-more (x ∷ xs) ys = omega (arith, length-more xs ys)

-- no segment is lost from the list
pub sent-more : (s : PathSetup) (w : Path) (event : PathEvent)
    → length w.sent ≤ length (path_step s w event).path.sent
sent-more s w event = omega (
  arith,
  ap length (step-sends s w event),
  length-more w.sent (path_step s w event).effects.sent,
)

-- no more segments are delivered than there are
pub step-within : (s : PathSetup) (w : Path) (c : ℕ) (event : PathEvent) → c ≤ length w.sent
    → path_clean_event w c ≡ Some event
    → path_passed_after c event ≤ length (path_step s w event).path.sent
step-within s w c event within clean = by_test (nat_lt c (length w.sent)) refl clean
  where
    Goal : PathEvent → Type 0
    Goal event = path_passed_after c event ≤ length (path_step s w event).path.sent

    by_deadline : (x : Option ℕ) → option_map clock_shows x ≡ Some event → Goal event
    by_deadline None clean = absurd (cc)
    by_deadline (Some now) clean =
        let one : clock_shows now ≡ event = cc in
        subst Goal one (omega (arith, within, sent-more s w (clock_shows now)))

    by_test : (b : Bool) → nat_lt c (length w.sent) ≡ b
        → (if b then Some (delivers c) else option_map clock_shows (path_deadline w)) ≡ Some event
        → Goal event
    by_test true is clean =
        let one : delivers c ≡ event = cc in
        subst Goal one (omega (
          arith,
          ltb-true c (length w.sent) is,
          sent-more s w (delivers c),
        ))
    by_test false is clean = by_deadline (path_deadline w) clean

run-within : (s : PathSetup) (events : List PathEvent) (w : Path) (c : ℕ) → c ≤ length w.sent
    → AreCleanOnPath s w c events
    → path_passed c events ≤ length (path_run s w events).sent
unfolding path_run
run-within s [] w c within clean = within
run-within s (event ∷ events) w c within clean =
    run-within s events (path_step s w event).path (path_passed_after c event)
    (step-within s w c event within clean.0) clean.1

pub over-drained : (w : Path) (c : ℕ) → c ≤ length w.sent → path_clean_event w c ≡ None
    → IsPathDrained w c
over-drained w c within none = by_test (nat_lt c (length w.sent)) refl none
  where
    by_deadline : (x : Option ℕ) → path_deadline w ≡ x → option_map clock_shows x ≡ None
        → path_deadline w ≡ None
    by_deadline None is none = is
    by_deadline (Some now) is none = absurd (cc)

    by_test : (b : Bool) → nat_lt c (length w.sent) ≡ b
        → (if b then Some (delivers c) else option_map clock_shows (path_deadline w)) ≡ None
        → IsPathDrained w c
    by_test true is none = absurd (cc)
    by_test false is none = record {
      delivered = omega (arith, within, ltb-false c (length w.sent) is);
      no_timer = by_deadline (path_deadline w) refl none;
    }

pub none-left : (s : PathSetup) (w : Path) (events : List PathEvent)
    → AreCleanOnPathFrom s w events
    → path_clean_event (path_run s w events) (path_passed (length w.sent) events) ≡ None
    → IsPathDrained (path_run s w events) (path_passed (length w.sent) events)
none-left s w events clean none =
    over-drained (path_run s w events) (path_passed (length w.sent) events)
    (run-within s events w (length w.sent) (omega arith) clean) none
