-- What is sent at a face: what its sessions say, and else no report.

use Rattle.std.proofs.Common.{◌≡◌, List, [], ◌∷◌, ◌⊎◌, inl, inr, refl}
use Rattle.std.specs.List.{AllByRecursion}
use Rattle.ltp_segment.specs.Values.{ContentValue, SegmentValue}
use Rattle.ltp_session.specs.declared.name.SessionName.{SessionName}
use Rattle.ltp_session.specs.Views.{headed_all}
use Rattle.ltp_laws.specs.View.{IsIn}
use Rattle.gate_cases.specs.declared.face.Face.{Face}
use Rattle.gate_cases.specs.declared.face.Face.TheVariants.{Old, New}
use Rattle.gateway_core.specs.Gate.{if_same, RoutedValue}
use Rattle.peer_gateway.specs.Gate.{routed_at}
use Rattle.gate_records.proofs.ReportLemmas.{IsOther}
use Rattle.peer_session_laws.proofs.SaidLemmas.{AllOther}

-- it is no report
abbrev pub IsOtherOut : RoutedValue → Type 0
IsOtherOut r = IsOther r.segment.content

-- where it is at the face, it is no report, or one of those that its sessions said
abbrev pub IsOutOf : Face → List SegmentValue → RoutedValue → Type 0
IsOutOf at said r = r.face ≡ at → IsOther r.segment.content ⊎ IsIn r.segment said

pub routed-other : (face : Face) (name : SessionName) (contents : List ContentValue) → AllOther contents → AllByRecursion IsOtherOut (routed_at face (headed_all name contents))
routed-other face name [] all = tt
routed-other face name (content ∷ more) all = (all.0, routed-other face name more all.1)

pub other-out : (at : Face) (said : List SegmentValue) (out : List RoutedValue) → AllByRecursion IsOtherOut out → AllByRecursion (IsOutOf at said) out
other-out at said [] all = tt
other-out at said (r ∷ out) all = (λ here. inl all.0, other-out at said out all.1)

routed-in : (at face : Face) (said segments : List SegmentValue) → ((x : SegmentValue) → IsIn x segments → IsIn x said) → AllByRecursion (IsOutOf at said) (routed_at face segments)
routed-in at face said [] among = tt
routed-in at face said (segment ∷ more) among = (λ here. inr (among segment (inl refl)), routed-in at face said more (λ x is. among x (inr is)))

routed-off : (at face : Face) (segments : List SegmentValue) → (face ≡ at → ⊥) → AllByRecursion (IsOutOf at []) (routed_at face segments)
routed-off at face [] apart = tt
routed-off at face (segment ∷ more) apart = (λ here. absurd (apart here), routed-off at face more apart)

pub routed-out : (at face : Face) (segments : List SegmentValue) → AllByRecursion (IsOutOf at (if_same face at segments [])) (routed_at face segments)
routed-out Old Old segments = routed-in Old Old segments segments (λ x is. is)
routed-out New New segments = routed-in New New segments segments (λ x is. is)
routed-out New Old segments = routed-off New Old segments (λ same. absurd (cc same))
routed-out Old New segments = routed-off Old New segments (λ same. absurd (cc same))
