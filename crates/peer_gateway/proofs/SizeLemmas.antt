-- A piece has as many octets when it goes as its size says, whatever the stay.

use Rattle.std.proofs.Common.{◌≡◌, ℕ, ◌+◌, ◌-◌, ◌^◌, ◌<◌, ◌≤◌, Bool, true, false, ◌&&◌, if◌then◌else◌, List, length, Option, Some, None, refl, sym, ap, subst, ◌∙◌, arith}
use Rattle.std.specs.Option.{is_none}
use Rattle.bundle_meaning.specs.declared.full.Full.{Full}
use Rattle.translate.specs.Refusals.{first_that_holds}
use Rattle.translate.specs.View6.{view6_of}
use Rattle.translate.specs.View7.{view7_of}
use Rattle.gate_cases.specs.declared.face.Face.{Face}
use Rattle.gate_cases.specs.declared.face.Face.TheVariants as faces
use Rattle.gate_cases.specs.Faces.{octets_at}
use Rattle.block_types.proofs.LegalLemmas6.{length-relabelled6}
use Rattle.block_types.proofs.LegalLemmas7.{length-relabelled7}
use Rattle.bundle_age.specs.Raised.{raised_by, has_age}
use Rattle.bundle_age.proofs.ViewLemmas.{raised_in_views, stays_add_up}
use Rattle.peer_cases.specs.declared.settings.PeerSettings.{PeerSettings}
use Rattle.peer_cases.specs.Arrivals.{Came}
use Rattle.peer_cases.specs.Pieces.{wire_octets, greatest_size}
use Rattle.peer_cases.specs.Rows.{came_in}
use Rattle.peer_cases.proofs.WireLemmas.{fits-raised, size-kept, size-ageless, size-oldest}
use Rattle.peer_gateway.specs.Going.{stay_of, raised_octets}
use Rattle.peer_gateway.specs.Laws.{CanGo, ReadAs, SizedForAnyStay}
use Rattle.peer_gateway.proofs.AgeLemmas.{IsRead, wire-read}
use Rattle.peer_gateway.proofs.LengthLemmas.{new-grows, old-grows}

-- as many as with the gateway's own types
pub length-wire : (s : PeerSettings) (face : Face) (full : Full) → length (wire_octets s face full) ≡ length (octets_at face full)
unfolding wire_octets
length-wire s faces.Old full = length-relabelled6 s.types (view6_of full)
length-wire s faces.New full = length-relabelled7 s.types (view7_of full)

grows : (s : PeerSettings) (face : Face) (stay more : ℕ) (full : Full) → CanGo s face stay full
    → length (octets_at face (raised_by stay full)) ≤ length (octets_at face (raised_by more (raised_by stay full)))
grows s faces.Old stay more full can =
    old-grows more (raised_by stay full) (raised_in_views full stay can.sound).sound
grows s faces.New stay more full can =
    new-grows more (raised_by stay full) (raised_in_views full stay can.sound).sound (fits-raised faces.New stay full ∙ can.fits) can.counted

-- after the longest stay it has the most
longest : (s : PeerSettings) (face : Face) (stay : ℕ) (full : Full) → CanGo s face stay full → s.raises ≡ true → stay < 2 ^ 64
    → length (wire_octets s face (raised_by stay full)) ≤ greatest_size s face full
longest s face stay full can raises short =
    let more = 2 ^ 64 - 1 - stay in
    let whole : stay + more ≡ 2 ^ 64 - 1 = omega (arith, short) in
    let all : raised_by more (raised_by stay full) ≡ raised_by (2 ^ 64 - 1) full =
    (stays_add_up full can.sound).sum stay more ∙ ap (λ (n : ℕ). raised_by n full) whole in
    let up = grows s face stay more full can in
    let last : length (octets_at face (raised_by more (raised_by stay full))) ≡ length (octets_at face (raised_by (2 ^ 64 - 1) full)) =
    ap (λ (f : Full). length (octets_at face f)) all in
    let most = size-oldest s face full (raised_by (2 ^ 64 - 1) full) raises refl in
    omega (arith, length-wire s face (raised_by stay full), length-wire s face (raised_by (2 ^ 64 - 1) full), up, last, most)

-- a record's octets read as it
full-read : (s : PeerSettings) (face : Face) (full : Full) → CanGo s face 0 full → ReadAs s face (wire_octets s face full) full
full-read s face full can =
    let same : raised_by 0 full ≡ full = (stays_add_up full can.sound).none in
    subst (λ (f : Full). ReadAs s face (wire_octets s face f) f) same (wire-read s face 0 full can)

raised-few : (s : PeerSettings) (face : Face) (stay : ℕ) (octets : List ℕ) (full : Full) (came : Option Came) → CanGo s face stay full
    → s.raises ≡ true → stay < 2 ^ 64 → octets ≡ wire_octets s face full → IsRead full came
    → length (raised_octets s face stay octets came) ≤ greatest_size s face full
raised-few s face stay octets full None can raises short is reads = absurd (let never = reads.1 in cc)
raised-few s face stay octets full (Some came) can raises short is reads =
    by (is_none (first_that_holds (came.arrival).refusals)) (has_age (came.arrival).full) (ap is_none reads.0.0) refl
  where
    by : (t u : Bool) → t ≡ true → has_age (came.arrival).full ≡ u
        → length (if t && u then wire_octets s face (raised_by stay (came.arrival).full) else octets) ≤ greatest_size s face full
    by false u so age = absurd (cc)
    by true true so age =
        subst (λ (f : Full). length (wire_octets s face (raised_by stay f)) ≤ greatest_size s face full) (sym reads.0.1)
        (longest s face stay full can raises short)
    by true false so age =
        let ageless : has_age full ≡ false = ap has_age (sym reads.0.1) ∙ age in
        omega (arith, ap length is, size-ageless s face full ageless)

pub sized_for_any_stay : SizedForAnyStay
sized_for_any_stay s face full piece leaves can is size early = by s.raises refl
  where
    stay : ℕ
    stay = stay_of leaves piece

    by : (t : Bool) → s.raises ≡ t
        → length (if t then raised_octets s face stay piece.octets (came_in s face piece.octets) else piece.octets) ≤ piece.size
    by false kept = omega (arith, size, ap length is, size-kept s face full kept)
    by true raises =
        let reads = subst (λ (w : List ℕ). IsRead full (came_in s face w)) (sym is) (full-read s face full (can 0)) in
        let few = raised-few s face stay piece.octets full (came_in s face piece.octets) (can stay) raises (omega (arith, early)) is reads in
        omega (arith, few, size)
