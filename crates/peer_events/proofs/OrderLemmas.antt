-- What is told after others.

use Rattle.std.proofs.Common.{◌≡◌, ℕ, Bool, true, false, ◌&&◌, not, List, [], ◌∷◌, ◌++◌, Option, None, Some, refl, sym, ap, ◌∙◌}
use Rattle.std.specs.List.{cons_option, list_all}
use Rattle.gate_cases.specs.declared.case.GateCase.{GateCase}
use Rattle.gate_cases.specs.declared.case.GateCase.TheVariants as cases
use Rattle.gate_cases.specs.declared.face.Face.{Face}
use Rattle.gate_log.specs.declared.event.Event.{Event}
use Rattle.gate_log.specs.declared.subject.Subject.{Subject}
use Rattle.gate_events.specs.Own.{OpenAt}
use Rattle.peer_gateway.specs.Gate.{Told, FaceTold, told_engine, told_forgotten, told_green, told_began, told_bundle, told_case, told_left, told_reported, told_unreported, told_end}
use Rattle.peer_events.specs.declared.own.OwnBlock.{OwnBlock}
use Rattle.peer_events.specs.Events.{about_after, case_event, event_of, events_from, events_of, own_after, own_left}
use Rattle.peer_events.specs.Heads.{under}
use Rattle.peer_events.specs.Laws.{HasSubject, IsSaid, LastNamedIsSaid, is_about, is_bundle, is_name, named_at}

-- the bundle that was named last in what was told
unfoldable pub about_left : Option Subject → List FaceTold → Option Subject
about_left about [] = about
about_left about (t ∷ more) = about_left (about_after t.told about) more

-- ---- one after the other

cons_option-append : {X : Type 0} (o : Option X) (xs ys : List X) → cons_option o xs ++ ys ≡ cons_option o (xs ++ ys)
cons_option-append None xs ys = refl
cons_option-append (Some x) xs ys = refl

events_from-append : (is_open : OpenAt) (own : List OwnBlock) (about : Option Subject) (before later : List FaceTold)
    → events_from is_open own about (before ++ later)
    ≡ events_from is_open own about before ++ events_from is_open (own_left is_open own before) (about_left about before) later
unfolding events_from own_left about_left
events_from-append is_open own about [] later = refl
events_from-append is_open own about (t ∷ before) later =
    let rest = events_from-append is_open (own_after is_open t.face t.told own) (about_after t.told about) before later in
    ap (cons_option (event_of is_open own about t.face t.told)) rest
    ∙ sym (cons_option-append (event_of is_open own about t.face t.told)
    (events_from is_open (own_after is_open t.face t.told own) (about_after t.told about) before) _)

-- what has an event is said after what was told before
pub said-after : (is_open : OpenAt) (own : List OwnBlock) (before later : List FaceTold) (t : FaceTold) (Says : Event → Type 0) (event : Event)
    → event_of is_open (own_left is_open own before) (about_left None before) t.face t.told ≡ Some event → Says event
    → IsSaid is_open own before t later Says
unfolding events_from
said-after is_open own before later t Says event is says = record {
  event = event;
  more = events_from is_open (own_after is_open t.face t.told (own_left is_open own before)) (about_after t.told (about_left None before)) later;
  in_order = events_from-append is_open own None before (t ∷ later)
      ∙ ap (λ o. events_of is_open own before
      ++ cons_option o (events_from is_open (own_after is_open t.face t.told (own_left is_open own before)) (about_after t.told (about_left None before)) later)) is;
  says = says;
}

-- ---- the bundle that was named last

about_left-append : (about : Option Subject) (before later : List FaceTold)
    → about_left about (before ++ later) ≡ about_left (about_left about before) later
unfolding about_left
about_left-append about [] later = refl
about_left-append about (t ∷ before) later = about_left-append (about_after t.told about) before later

about-stays : (told : Told) (about : Option Subject) → not (is_name told) ≡ true → about_after told about ≡ about
about-stays (told_engine note) about is = refl
about-stays (told_forgotten runs) about is = refl
about-stays (told_green green) about is = refl
about-stays (told_began pieces octets session) about is = refl
about-stays (told_bundle subject) about is = absurd (cc)
about-stays (told_case index session case pieces first) about is = refl
about-stays (told_left index session left) about is = refl
about-stays (told_reported index session report) about is = refl
about-stays (told_unreported index session) about is = refl
about-stays (told_end index session end) about is = refl

both : (a b : Bool) → (a && b) ≡ true → (a ≡ true) × (b ≡ true)
both true true is = (refl, refl)
both true false is = absurd (cc)
both false b is = absurd (cc)

none-named : (about : Option Subject) (told : List FaceTold) → list_all (λ (t : FaceTold). not (is_name t.told)) told ≡ true
    → about_left about told ≡ about
unfolding about_left
none-named about [] is = refl
none-named about (t ∷ more) is =
    let parts = both (not (is_name t.told)) (list_all (λ (u : FaceTold). not (is_name u.told)) more) is in
    none-named (about_after t.told about) more parts.1 ∙ about-stays t.told about parts.0

last-named : (earlier between : List FaceTold) (face : Face) (subject : Option Subject)
    → list_all (λ (t : FaceTold). not (is_name t.told)) between ≡ true
    → about_left None (earlier ++ named_at face subject ∷ between) ≡ subject
unfolding about_left
last-named earlier between face subject is =
    about_left-append None earlier (named_at face subject ∷ between) ∙ none-named subject between is

-- ---- a line about a bundle

abbrev HasEvent : Option Subject → Option Event → Type 0
HasEvent about o = (event : Event) × (o ≡ Some event) × HasSubject about event

case-subject : (face : Face) (index : Option ℕ) (session : ℕ) (about : Option Subject) (case : GateCase) (pieces : ℕ) (first : Option ℕ)
    → is_bundle case ≡ true → HasSubject about (case_event face index session about case pieces first)
unfolding under
case-subject face index session about (cases.BadBundle at cause) pieces first is = absurd (cc)
case-subject face None session about (cases.Untranslated cause) pieces first is = refl
case-subject face (Some i) session about (cases.Untranslated cause) pieces first is = refl
case-subject face None session about cases.Expired pieces first is = refl
case-subject face (Some i) session about cases.Expired pieces first is = refl
case-subject face None session about cases.HopLimit pieces first is = refl
case-subject face (Some i) session about cases.HopLimit pieces first is = refl
case-subject face None session about cases.Storage pieces first is = refl
case-subject face (Some i) session about cases.Storage pieces first is = refl
case-subject face None session about cases.Passed pieces None is = refl
case-subject face None session about cases.Passed pieces (Some n) is = refl
case-subject face (Some i) session about cases.Passed pieces None is = refl
case-subject face (Some i) session about cases.Passed pieces (Some n) is = refl

about-event : (is_open : OpenAt) (own : List OwnBlock) (about : Option Subject) (face : Face) (told : Told) → is_about told ≡ true
    → HasEvent about (event_of is_open own about face told)
unfolding under
about-event is_open own about face (told_engine note) is = absurd (cc)
about-event is_open own about face (told_forgotten runs) is = absurd (cc)
about-event is_open own about face (told_green green) is = absurd (cc)
about-event is_open own about face (told_began pieces octets session) is = absurd (cc)
about-event is_open own about face (told_bundle subject) is = absurd (cc)
about-event is_open own about face (told_case index session case pieces first) is =
    (case_event face index session about case pieces first, refl, case-subject face index session about case pieces first is)
about-event is_open own about face (told_left None session left) is = (_, refl, refl)
about-event is_open own about face (told_left (Some i) session left) is = (_, refl, refl)
about-event is_open own about face (told_reported None session None) is = (_, refl, refl)
about-event is_open own about face (told_reported None session (Some n)) is = (_, refl, refl)
about-event is_open own about face (told_reported (Some i) session None) is = (_, refl, refl)
about-event is_open own about face (told_reported (Some i) session (Some n)) is = (_, refl, refl)
about-event is_open own about face (told_unreported None session) is = (_, refl, refl)
about-event is_open own about face (told_unreported (Some i) session) is = (_, refl, refl)
about-event is_open own about face (told_end index session end) is = absurd (cc)

pub last-named-said : LastNamedIsSaid
last-named-said is_open own earlier between later face subject t between_is about_is =
    let before : List FaceTold = earlier ++ named_at face subject ∷ between in
    let (event, is, has) = about-event is_open (own_left is_open own before) subject t.face t.told about_is in
    said-after is_open own before later t (HasSubject subject) event
    (ap (λ about. event_of is_open (own_left is_open own before) about t.face t.told) (last-named earlier between face subject between_is) ∙ is)
    has
