-- Every clean event wears a drain out.

use Rattle.std.proofs.Common.{◌≡◌, ℕ, suc, ◌<◌, Bool, true, false, length, Option, None, Some}
use Rattle.std.proofs.Common.{refl, sym, ◌∙◌, ap, subst, nat_lt, if◌then◌else◌}
use Rattle.std.proofs.Math.Numerals.{add-one}
use Rattle.std.proofs.lemmas.Bool.{ltb-true}
use Rattle.std.specs.List.{slice_get}
use Rattle.std.specs.Option.{option_map}
use Rattle.ltp_session.specs.Engine.{Party}
use Rattle.ltp_session.specs.World.{Event, World, clock, deliver, delivered}
use Rattle.ltp_drain.specs.Clean.{clean_event, link_deadline}
use Rattle.ltp_drain.specs.Hopeful.{IsReached}
use Rattle.ltp_drain.specs.Left.{AreTimed, WearsOut, link_left}
use Rattle.ltp_drain.proofs.CleanSteps.{taken}
use Rattle.ltp_drain.proofs.LeftLemmas.{AreTame, deadline-ahead, delivery-falls, runs-are-tame}

pub reached-tame : (parties : Party × Party) (w : World) → AreTimed parties
    → IsReached parties w → AreTame w
reached-tame parties w timed reached = subst AreTame reached.leads
    (runs-are-tame parties reached.events timed.peers timed.first_small timed.second_small)

pub reached-ahead : (parties : Party × Party) (w : World) → AreTimed parties
    → IsReached parties w → (deadline : ℕ) → link_deadline w ≡ Some deadline → w.now < deadline
reached-ahead parties w timed reached deadline due =
    subst (λ (v : World). v.now < deadline) reached.leads
    (deadline-ahead parties reached.events timed.peers timed.first_waits timed.second_waits
    deadline (ap link_deadline reached.leads ∙ due))

deliver-wears : (parties : Party × Party) (w : World) (c : ℕ) → AreTimed parties
    → IsReached parties w → c < length w.sent → WearsOut parties w c (deliver c)
deliver-wears parties w c timed reached low =
    let t = taken w.sent c low in
    subst (λ n. link_left (delivered parties w (slice_get w.sent c)) n < link_left w c)
    (sym (add-one c))
    (subst (λ o. link_left (delivered parties w o) (suc c) < link_left w c) (sym t.got)
    (delivery-falls parties w c t.x (reached-tame parties w timed reached) t.got))

pub drains-wear-out : (parties : Party × Party) (w : World) (c : ℕ) (event : Event)
    → AreTimed parties → IsReached parties w → clean_event w c ≡ Some event
    → WearsOut parties w c event
drains-wear-out parties w c event timed reached is =
    by_test (nat_lt c (length w.sent)) refl (link_deadline w) refl is
  where
    by_test : (b : Bool) → nat_lt c (length w.sent) ≡ b → (o : Option ℕ) → link_deadline w ≡ o
        → (if b then Some (deliver c) else option_map clock o) ≡ Some event
        → WearsOut parties w c event
    by_test true low o due is =
        let same : deliver c ≡ event = cc in
        subst (WearsOut parties w c) same
        (deliver-wears parties w c timed reached (ltb-true c (length w.sent) low))
    by_test false low None due is = absurd (cc)
    by_test false low (Some now) due is =
        let same : clock now ≡ event = cc in
        subst (WearsOut parties w c) same (reached-ahead parties w timed reached now due)
