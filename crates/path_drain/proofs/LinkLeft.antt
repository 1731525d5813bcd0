-- What is left on a link falls with a delivery, and doesn't rise with the submits after it.

use Rattle.std.proofs.Common.{◌≡◌, ℕ, suc, ◌<◌, ◌≤◌, List, [], ◌∷◌, length, Some}
use Rattle.std.proofs.Common.{sym, ap, arith, subst}
use Rattle.std.specs.List.{AllByRecursion, slice_get}
use Rattle.std.proofs.lemmas.List.{length-append}
use Rattle.std.proofs.lemmas.Option.{slice_get_within}
use Rattle.ltp_session.specs.Engine.{Party}
use Rattle.ltp_session.specs.World.{End, Event, Sent, World, arrival, at_end, clock, deliver, delivered}
use Rattle.ltp_session.specs.World.{first_end, happens, other, run, second_end, submit}
use Rattle.ltp_drain.specs.Draining.{since}
use Rattle.ltp_drain.specs.Hopeful.{IsReached}
use Rattle.ltp_drain.specs.Left.{AreTimed, link_left}
use Rattle.ltp_drain.proofs.CleanSteps.{reached-more, since-arrival}
use Rattle.ltp_drain.proofs.DrainRun.{arrival-next}
use Rattle.ltp_drain.proofs.LeftLemmas.{delivery-falls}
use Rattle.ltp_drain.proofs.RankSteps.{submitted-grows}
use Rattle.ltp_drain.proofs.WearLemmas.{reached-tame}
use Rattle.path_drain.specs.Left.{all_left}
use Rattle.path_drain.proofs.SubmitLemmas.{submit-left}

-- ---- a delivery

same-numbers : (most : ℕ) (w w' : World) (k k' : ℕ)
    → ((o : End) → (at_end w'.engines o).next ≡ (at_end w.engines o).next)
    → link_left w' k' < link_left w k → all_left most w' k' < all_left most w k
same-numbers most w w' k k' next falls =
    rw (next first_end, next second_end) (omega (arith, falls))

pub delivery-left : (parties : Party × Party) (w : World) (k most : ℕ) (d : Sent)
    → AreTimed parties → IsReached parties w → slice_get w.sent k ≡ Some d
    → all_left most (happens parties w (deliver k)) (suc k) < all_left most w k
delivery-left parties w k most d timed reached got =
    subst (λ o. all_left most (delivered parties w o) (suc k) < all_left most w k) (sym got)
    (same-numbers most w (delivered parties w (Some d)) k (suc k)
    (λ o. arrival-next parties w (other d.from) d.segment o)
    (delivery-falls parties w k d (reached-tame parties w timed reached) got))

-- ---- submits

abbrev pub IsSubmit : Event → Type 0
IsSubmit (submit end block red) = Unit {0}
IsSubmit (deliver k) = ⊥
IsSubmit (clock now) = ⊥

-- more was sent, and no more is left
pub record StaysLeft (parties : Party × Party) (w w' : World) (k most : ℕ) : Type 0 where
  pub left : all_left most w' k ≤ all_left most w k
  pub sent : length w.sent ≤ length w'.sent

submit-stays : (parties : Party × Party) (w : World) (k most : ℕ) (event : Event)
    → AreTimed parties → IsReached parties w → ((o : End) → (at_end parties o).most ≤ most)
    → k ≤ length w.sent → IsSubmit event
    → StaysLeft parties w (happens parties w event) k most
submit-stays parties w k most (submit end block red) timed reached fits low is = record {
  left = submit-left parties w k most end block red fits
      (reached-tame parties w timed reached).ascending low;
  sent =
      let more = ap length (submitted-grows parties w end block red).sent in
      let all = length-append w.sent (since w (happens parties w (submit end block red))) in
      omega (arith, more, all);
}
submit-stays parties w k most (deliver j) timed reached fits low is = absurd is
submit-stays parties w k most (clock now) timed reached fits low is = absurd is

pub submits-stay : (parties : Party × Party) (w : World) (k most : ℕ) (events : List Event)
    → AreTimed parties → IsReached parties w → ((o : End) → (at_end parties o).most ≤ most)
    → k ≤ length w.sent → AllByRecursion IsSubmit events
    → all_left most (run parties w events) k ≤ all_left most w k
submits-stay parties w k most [] timed reached fits low all = omega arith
submits-stay parties w k most (event ∷ events) timed reached fits low all =
    let first = submit-stays parties w k most event timed reached fits low all.0 in
    let rest = submits-stay parties (happens parties w event) k most events timed
    (reached-more parties w event reached) fits (omega (arith, low, first.sent)) all.1 in
    omega (arith, first.left, rest)

-- ---- a delivery, and submits after it

delivered-more : (parties : Party × Party) (w : World) (k : ℕ) (d : Sent)
    → slice_get w.sent k ≡ Some d → suc k ≤ length (happens parties w (deliver k)).sent
delivered-more parties w k d got =
    subst (λ o. suc k ≤ length (delivered parties w o).sent) (sym got)
    (let low = slice_get_within w.sent k d got in
    let more = ap length (since-arrival parties w (other d.from) d.segment) in
    let all = length-append w.sent (since w (arrival parties w (other d.from) d.segment)) in
    omega (arith, low, more, all))

pub delivers-left : (parties : Party × Party) (w : World) (k most : ℕ) (d : Sent)
    (events : List Event) → AreTimed parties → IsReached parties w
    → ((o : End) → (at_end parties o).most ≤ most) → slice_get w.sent k ≡ Some d
    → AllByRecursion IsSubmit events
    → all_left most (run parties w (deliver k ∷ events)) (suc k) < all_left most w k
delivers-left parties w k most d events timed reached fits got all =
    let falls = delivery-left parties w k most d timed reached got in
    let rest = submits-stay parties (happens parties w (deliver k)) (suc k) most events timed
    (reached-more parties w (deliver k) reached) fits (delivered-more parties w k d got) all in
    omega (arith, falls, rest)
