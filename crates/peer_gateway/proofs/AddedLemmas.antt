-- Pieces of a bundle that goes on can be added.

use Rattle.std.proofs.Common.{◌≡◌, ℕ, ◌-◌, ◌^◌, ◌<◌, ◌≤◌, Bool, true, false, not, ◌&&◌, if◌then◌else◌, List, [], ◌∷◌, ◌++◌, map, length, Option, Some, None, refl, sym, ap, subst, ◌∙◌, arith}
use Rattle.std.specs.List.{All, list_all}
use Rattle.std.specs.Option.{option_map}
use Rattle.std.proofs.lemmas.Bool.{and_parts}
use Rattle.std.proofs.lemmas.List.Elements.{All-nil, All-cons, All-head, All-tail}
use Rattle.wire_fields.specs.Reading.{IsOctets}
use Rattle.bundle_meaning.specs.declared.full.Full.{Full}
use Rattle.bundle_meaning.specs.Valid.{IsValid}
use Rattle.fragments.specs.Cutting.{octets_of, is_longer, must_not, how_many, pieces, pieces_from}
use Rattle.fragments.proofs.ValidLemmas.{valid-pieces}
use Rattle.translate.specs.declared.refused.Refused.{Refused}
use Rattle.translate.specs.declared.refused.Refused.TheVariants.{TooManyBlocks}
use Rattle.translate.specs.Refusals.{first_that_holds}
use Rattle.translate.specs.Reading6.{full6_of}
use Rattle.translate.specs.Reading7.{full7_of, Reads7}
use Rattle.translate.specs.Sound.{IsSound}
use Rattle.translate.specs.View6.{view6_of}
use Rattle.translate.specs.View7.{view7_of}
use Rattle.translate.proofs.ReadLemmas.{read7-is}
use Rattle.translate.proofs.Legal6Lemmas.{view6-legal}
use Rattle.translate.proofs.Legal7Lemmas.{view7-legal}
use Rattle.translate.proofs.Residue6Lemmas.{residue6-back}
use Rattle.translate.proofs.Back6Lemmas.{exts6-back}
use Rattle.translate.proofs.View6Laws.{shared6-back, extra6-back}
use Rattle.translate.proofs.SpelledLemmas.{canon-sized, octets7-sized}
use Rattle.gate_cases.specs.declared.case.GateCase.{GateCase}
use Rattle.gate_cases.specs.declared.case.GateCase.TheVariants.{BadBundle, Untranslated, Expired, HopLimit, Storage, Passed}
use Rattle.gate_cases.specs.declared.face.Face.{Face}
use Rattle.gate_cases.specs.declared.face.Face.TheVariants as faces
use Rattle.gate_cases.specs.Faces.{other_of, fits_at}
use Rattle.gate_cases.specs.Passage.{passage, pieces_on, has_no_hop_left}
use Rattle.gate_cases.specs.Cases.{untranslated, records_of, or_passed}
use Rattle.gate_cases.proofs.PassageLemmas.{passage-sound}
use Rattle.gate_cases.proofs.PieceLemmas.{sound-pieces}
use Rattle.block_types.specs.Relabelled.{relabelled6, relabelled7}
use Rattle.block_types.proofs.RelabelLaws.{relabelled_twice, relabelled_is_legal}
use Rattle.bundle_age.specs.Raised.{raised_by}
use Rattle.bundle_age.proofs.ViewLemmas.{raised_in_views, stays_add_up}
use Rattle.face_room.specs.declared.bounds.TheConstants.{BLOCK_MAX}
use Rattle.peer_cases.specs.declared.decision.Decision.{Decision}
use Rattle.peer_cases.specs.declared.room.FaceRoom.{FaceRoom}
use Rattle.peer_cases.specs.declared.settings.PeerSettings.{PeerSettings}
use Rattle.peer_cases.specs.Arrivals.{Came}
use Rattle.peer_cases.specs.Cases.{case_of, decision_in, decided}
use Rattle.peer_cases.specs.Pieces.{wire_octets, greatest_size, piece_of}
use Rattle.peer_cases.specs.Promises.{IsSmall, AreSmall, IsSendable}
use Rattle.peer_cases.specs.Rows.{came_in, decided_in}
use Rattle.peer_cases.proofs.WireLemmas.{size-kept, size-oldest}
use Rattle.peer_gateway.specs.Gate.{PeerMoments}
use Rattle.peer_gateway.specs.Going.{piece_at}
use Rattle.peer_gateway.specs.Laws.{IsSizedAt}
use Rattle.peer_gateway.specs.Ties.{CanBeAdded}
use Rattle.peer_gateway.proofs.AgeLemmas.{came-old-in, came-new-in}
use Rattle.peer_gateway.proofs.SizedLemmas.{AgesWithin, ReadsWithin, sized-at, longest, wire-some}
use Rattle.peer_gateway.proofs.CameLemmas.{can-come}

-- ---- what a record's octets read as

-- without regard to its lifetime
full6-back : (full : Full) → IsSound full → full6_of (view6_of full) ≡ full
full6-back full sound =
    rw (shared6-back full sound, extra6-back full sound, residue6-back full sound.valid, exts6-back full sound.valid.exts) refl

-- they read as the record
abbrev pub SeenAs : Full → Option Came → Type 0
SeenAs full None = ⊥
SeenAs full (Some came) = (came.arrival).full ≡ full

pub seen-as : (s : PeerSettings) (to : Face) (full : Full) → IsSound full → fits_at to full ≡ true → length (wire_octets s to full) < 2 ^ 64
    → SeenAs full (came_in s to (wire_octets s to full))
unfolding wire_octets
seen-as s faces.Old full sound fits few =
    let b = relabelled6 s.types (view6_of full) in
    let sized = canon-sized b few in
    let plain = canon-sized (view6_of full) (omega (arith, few, ((relabelled_is_legal s.types).1 (view6_of full)).size)) in
    let legal = ((relabelled_is_legal s.types).1 (view6_of full)).legal (view6-legal full sound fits plain.0) in
    subst (SeenAs full) (sym (came-old-in s b legal sized.1))
    (ap full6_of ((relabelled_twice s.types).six (view6_of full)) ∙ full6-back full sound)
seen-as s faces.New full sound fits few =
    let b = relabelled7 s.types (view7_of full) in
    let plain = octets7-sized (view7_of full) (omega (arith, few, ((relabelled_is_legal s.types).0 (view7_of full)).size)) in
    let legal = ((relabelled_is_legal s.types).0 (view7_of full)).legal (view7-legal full sound fits plain) in
    let same : raised_by 0 full ≡ full = (stays_add_up full sound).none in
    let reads = subst (λ (f : Full). Reads7 (view7_of f) f) same (raised_in_views full 0 sound).seven in
    subst (SeenAs full) (sym (came-new-in s b legal))
    (ap full7_of ((relabelled_twice s.types).seven (view7_of full)) ∙ read7-is (view7_of full) full reads)

-- ---- a piece of a record

record-within : (s : PeerSettings) (to : Face) (full : Full) (octets : List ℕ) (came : Option Came) → IsSound full → fits_at to full ≡ true
    → greatest_size s to full ≤ BLOCK_MAX → s.raises ≡ true → octets ≡ wire_octets s to full → SeenAs full came
    → ReadsWithin s to octets (greatest_size s to full) came
record-within s to full octets None sound fits small raises is seen = absurd seen
record-within s to full octets (Some came) sound fits small raises is seen =
    let most = size-oldest s to full (raised_by (2 ^ 64 - 1) full) raises refl in
    let none : raised_by 0 full ≡ full = (stays_add_up full sound).none in
    let now = longest s to 0 full sound fits (omega arith) (omega (arith, most, small)) in
    let same = ap (λ (f : Full). length (wire_octets s to f)) none in (
      λ ages. subst (AgesWithin s to (greatest_size s to full)) (sym seen) (record { sound = sound; fits = fits; few = omega (arith, most) }),
      λ kept. omega (arith, ap length is, now, same, most),
    )

pub record-added : (s : PeerSettings) (to : Face) (full : Full) → IsSound full → fits_at to full ≡ true → greatest_size s to full ≤ BLOCK_MAX
    → CanBeAdded s to (piece_of s to full)
record-added s to full sound fits small = record { small = small; sized = λ m leaves early. at m leaves early }
  where
    octets : List ℕ
    octets = wire_octets s to full

    few : s.raises ≡ true → length octets ≤ greatest_size s to full
    few raises =
        let most = size-oldest s to full (raised_by (2 ^ 64 - 1) full) raises refl in
        let none : raised_by 0 full ≡ full = (stays_add_up full sound).none in
        let now = longest s to 0 full sound fits (omega arith) (omega (arith, most, small)) in
        let same = ap (λ (f : Full). length (wire_octets s to f)) none in
        omega (arith, now, same, most)

    at : (m : PeerMoments) (leaves : ℕ) → leaves < 2 ^ 64 → IsSizedAt s to leaves (piece_at m to (piece_of s to full))
    at m leaves early =
        sized-at s to leaves (piece_at m to (piece_of s to full)) (wire-some s to full) small early
        (λ kept. omega (arith, size-kept s to full kept))
        (λ raises. record-within s to full octets (came_in s to octets) sound fits small raises refl
        (seen-as s to full sound fits (omega (arith, few raises, small))))

-- ---- the records that go on

valid-all : (full : Full) (size : ℕ) → IsValid full → All IsValid (pieces full size)
valid-all full size valid = by (is_longer full size) refl
  where
    count : ℕ
    count = how_many size (octets_of full.shared.content)

    by : (t : Bool) → is_longer full size ≡ t → All IsValid (if t then pieces_from full size 0 count else full ∷ [])
    by true longer = valid-pieces full size 0 count valid longer (omega arith)
    by false longer = All-cons IsValid full [] valid (All-nil IsValid)

pieces-sound : (full : Full) (cut : ℕ) → IsSound full → All IsSound (pieces_on full cut)
pieces-sound full cut sound = by (is_longer full cut && must_not full.shared)
  where
    by : (t : Bool) → All IsSound (if t then full ∷ [] else pieces full cut)
    by true = All-cons IsSound full [] sound (All-nil IsSound)
    by false = sound-pieces full cut sound (valid-all full cut sound.valid)

-- nothing stops a bundle
pub record NothingStops (s : PeerSettings) (to : Face) (came : Came) (cut : ℕ) : Type 0 where
  pub unrefused : first_that_holds (came.arrival).refusals ≡ None
  pub hop : has_no_hop_left (came.onward).exts ≡ false
  pub fits : list_all (fits_at to) (records_of came.onward cut) ≡ true

none-refused : (refusals : List (Refused × Bool)) (others : List (GateCase × Bool))
    → or_passed (first_that_holds (map untranslated refusals ++ others)) ≡ Passed
    → (first_that_holds refusals ≡ None) × (or_passed (first_that_holds others) ≡ Passed)
none-refused [] others is = (refl, is)
none-refused ((refused, holds) ∷ refusals) others is = by holds is (λ rest. none-refused refusals others rest)
  where
    by : (t : Bool) → or_passed (if t then Some (Untranslated refused) else first_that_holds (map untranslated refusals ++ others)) ≡ Passed
        → (or_passed (first_that_holds (map untranslated refusals ++ others)) ≡ Passed
        → (first_that_holds refusals ≡ None) × (or_passed (first_that_holds others) ≡ Passed))
        → ((if t then Some refused else first_that_holds refusals) ≡ None) × (or_passed (first_that_holds others) ≡ Passed)
    by true is rest = absurd (cc)
    by false is rest = rest is

hop-and-fits : (a b c d : Bool)
    → or_passed (first_that_holds ((Expired, a) ∷ (HopLimit, b) ∷ (Untranslated TooManyBlocks, not c) ∷ (Storage, d) ∷ [])) ≡ Passed
    → (b ≡ false) × (c ≡ true)
hop-and-fits true b c d is = absurd (cc)
hop-and-fits false true c d is = absurd (cc)
hop-and-fits false false true d is = (refl, refl)
hop-and-fits false false false d is = absurd (cc)

nothing-stops : (s : PeerSettings) (to : Face) (came : Came) (now cut : ℕ) (room : FaceRoom) → case_of s to came now cut room ≡ Passed
    → NothingStops s to came cut
unfolding case_of
nothing-stops s to came now cut room is =
    let first = none-refused (came.arrival).refusals _ is in
    let rest = hop-and-fits _ (has_no_hop_left (came.onward).exts) (list_all (fits_at to) (records_of came.onward cut)) _ first.1 in
    record { unrefused = first.0; hop = rest.0; fits = rest.1 }

-- ---- all pieces of a decision

each-added : (s : PeerSettings) (to : Face) (records : List Full) → All IsSound records → list_all (fits_at to) records ≡ true
    → AreSmall (map (piece_of s to) records) → All (CanBeAdded s to) (map (piece_of s to) records)
each-added s to [] sound fits small = All-nil (CanBeAdded s to)
each-added s to (full ∷ records) sound fits small =
    let both = and_parts (fits_at to full) (list_all (fits_at to) records) fits in
    All-cons (CanBeAdded s to) (piece_of s to full) (map (piece_of s to) records)
    (record-added s to full (All-head IsSound full records sound) both.0 (All-head IsSmall (piece_of s to full) (map (piece_of s to) records) small))
    (each-added s to records (All-tail IsSound full records sound) both.1 (All-tail IsSmall (piece_of s to full) (map (piece_of s to) records) small))

in-case : (s : PeerSettings) (to : Face) (came : Came) (cut : ℕ) (room : FaceRoom) (case : GateCase) → (case ≡ Passed → NothingStops s to came cut)
    → (NothingStops s to came cut → IsSound came.onward) → IsSendable room (decision_in s to came cut case)
    → All (CanBeAdded s to) (decision_in s to came cut case).pieces
in-case s to came cut room (BadBundle at cause) passes sound sendable = All-nil (CanBeAdded s to)
in-case s to came cut room (Untranslated cause) passes sound sendable = All-nil (CanBeAdded s to)
in-case s to came cut room Expired passes sound sendable = All-nil (CanBeAdded s to)
in-case s to came cut room HopLimit passes sound sendable = All-nil (CanBeAdded s to)
in-case s to came cut room Storage passes sound sendable = All-nil (CanBeAdded s to)
in-case s to came cut room Passed passes sound sendable =
    let none = passes refl in
    each-added s to (records_of came.onward cut)
    (pieces-sound (passage came.onward) cut (passage-sound came.onward (sound none) none.hop)) none.fits sendable.small

decided-one : (s : PeerSettings) (face : Face) (octets : List ℕ) (now cut : ℕ) (room : FaceRoom) (d : Decision) (came : Option Came)
    → IsOctets octets → came_in s face octets ≡ came
    → option_map (λ (c : Came). decided s face c now cut room) came ≡ Some d → IsSendable room d → All (CanBeAdded s (other_of face)) d.pieces
unfolding decided
decided-one s face octets now cut room d None fits is gives sendable = absurd (cc)
decided-one s face octets now cut room d (Some came) fits is gives sendable =
    let to = other_of face in
    let case = case_of s to came now cut room in
    let same : decision_in s to came cut case ≡ d = cc in
    subst (λ (x : Decision). All (CanBeAdded s to) x.pieces) same
    (in-case s to came cut room case (nothing-stops s to came now cut room)
    (λ none. (can-come s face octets came fits is none.unrefused).onward) (subst (IsSendable room) (sym same) sendable))

-- a session carries each piece of what is decided about octets, whenever it goes
pub decided-added : (s : PeerSettings) (face : Face) (octets : List ℕ) (now cut : ℕ) (room : FaceRoom) (d : Decision) → IsOctets octets
    → decided_in s face octets now cut room ≡ Some d → IsSendable room d → All (CanBeAdded s (other_of face)) d.pieces
unfolding decided_in
decided-added s face octets now cut room d fits gives sendable =
    decided-one s face octets now cut room d (came_in s face octets) fits refl gives sendable
