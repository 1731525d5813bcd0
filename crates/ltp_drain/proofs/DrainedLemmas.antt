-- Where no clean event can follow, nothing is left to do.

use Rattle.std.proofs.Common.{◌≡◌, ℕ, ◌≤◌, Bool, true, false, List, [], ◌∷◌, ◌++◌, length, Option}
use Rattle.std.proofs.Common.{None, Some, refl, sym, ap, arith, subst, nat_lt, if◌then◌else◌}
use Rattle.std.proofs.lemmas.Bool.{ltb-true}
use Rattle.std.specs.List.{slice_get}
use Rattle.std.specs.Option.{option_map}
use Rattle.ltp_session.specs.Engine.{Party}
use Rattle.ltp_session.specs.World.{Event, Sent, World, clock, deliver, delivered, first_end}
use Rattle.ltp_session.specs.World.{happens, other, run, second_end, ticks}
use Rattle.ltp_drain.specs.Clean.{AreClean, AreCleanFrom, IsDrained, clean_event, link_deadline}
use Rattle.ltp_drain.specs.Clean.{passed, passed_after}
use Rattle.ltp_drain.specs.Draining.{since}
use Rattle.ltp_drain.proofs.CleanSteps.{since-arrival}
use Rattle.ltp_drain.proofs.CompletionLemmas.{over-drained}
use Rattle.ltp_drain.proofs.DrainRun.{sent-ticked, ticked-new, ticks-are}

length-more : (xs ys : List Sent) → length xs ≤ length (xs ++ ys)
length-more [] ys = omega arith
length-more (x ∷ xs) ys = omega (arith, length-more xs ys)

-- no segment is lost from the list
delivered-more : (parties : Party × Party) (w : World) (d : Option Sent)
    → length w.sent ≤ length (delivered parties w d).sent
delivered-more parties w None = omega arith
delivered-more parties w (Some d) = omega (
  arith,
  ap length (since-arrival parties w (other d.from) d.segment),
  length-more w.sent (since w (delivered parties w (Some d))),
)

clock-more : (parties : Party × Party) (w : World) (now : ℕ)
    → length w.sent ≤ length (happens parties w (clock now)).sent
clock-more parties w now = by_test (nat_lt now w.now)
  where
    by_test : (b : Bool) → length w.sent ≤ length
        (if b then w else ticks parties now second_end (ticks parties now first_end w)).sent
    by_test true = omega arith
    by_test false = subst (λ (w' : World). length w.sent ≤ length w'.sent)
        (sym (ticks-are parties w now))
        (omega (
          arith,
          ap length (sent-ticked parties w now),
          length-more w.sent
              (ticked-new parties w now),
        ))

-- no more segments are delivered than there are
step-within : (parties : Party × Party) (w : World) (c : ℕ) (event : Event) → c ≤ length w.sent
    → clean_event w c ≡ Some event
    → passed_after c event ≤ length (happens parties w event).sent
step-within parties w c event within clean = by_test (nat_lt c (length w.sent)) refl clean
  where
    Goal : Event → Type 0
    Goal event = passed_after c event ≤ length (happens parties w event).sent

    by_deadline : (x : Option ℕ) → option_map clock x ≡ Some event → Goal event
    by_deadline None clean = absurd (cc)
    by_deadline (Some now) clean =
        let one : clock now ≡ event = cc in subst Goal one
        (omega (arith, within, clock-more parties w now))

    by_test : (b : Bool) → nat_lt c (length w.sent) ≡ b
        → (if b then Some (deliver c) else option_map clock (link_deadline w)) ≡ Some event
        → Goal event
    by_test true is clean =
        let one : deliver c ≡ event = cc in
        subst Goal one (omega (
          arith,
          ltb-true c (length w.sent) is,
          delivered-more parties w
              (slice_get w.sent c),
        ))
    by_test false is clean = by_deadline (link_deadline w) clean

run-within : (parties : Party × Party) (events : List Event) (w : World) (c : ℕ)
    → c ≤ length w.sent → AreClean parties w c events
    → passed c events ≤ length (run parties w events).sent
run-within parties [] w c within clean = within
run-within parties (event ∷ events) w c within clean =
    run-within parties events (happens parties w event) (passed_after c event)
    (step-within parties w c event within clean.0) clean.1

pub none-left : (parties : Party × Party) (w : World) (events : List Event)
    → AreCleanFrom parties w events
    → clean_event (run parties w events) (passed (length w.sent) events) ≡ None
    → IsDrained (run parties w events) (passed (length w.sent) events)
none-left parties w events clean none =
    over-drained (run parties w events) (passed (length w.sent) events)
    (run-within parties events w (length w.sent) (omega arith) clean) none
