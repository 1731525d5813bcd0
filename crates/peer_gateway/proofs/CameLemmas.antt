-- What octets read as is a sound record, where it isn't refused; and pieces of an earlier run can go.

use Rattle.std.proofs.Common.{◌≡◌, ℕ, ◌-◌, ◌^◌, ◌<◌, ◌≤◌, Bool, true, false, nat_le, if◌then◌else◌, List, [], ◌∷◌, length, take, drop, Option, Some, None, Result, Ok, Err, refl, sym, subst, ◌∙◌, arith}
use Rattle.std.specs.Option.{option_map, is_none}
use Rattle.std.specs.Result.{result_ok}
use Rattle.std.proofs.lemmas.Bool.{and_parts, leb-true}
use Rattle.std.proofs.lemmas.List.{take-append-drop}
use Rattle.wire_fields.specs.Format.{Spells}
use Rattle.wire_fields.specs.Reading.{IsOctets, read}
use Rattle.wire_fields.specs.Refusal.{Stop}
use Rattle.wire_fields.proofs.ReadLemmas.{read-found}
use Rattle.wire_fields.proofs.StayLemmas.{octets-parts}
use Rattle.bundle6.specs.declared.fault.Cause6.{Cause6}
use Rattle.bundle6.specs.declared.bundle.Bundle6.{Bundle6}
use Rattle.bundle6.specs.Table as table6
use Rattle.bundle6.proofs.LegalLemmas.{spelled-legal}
use Rattle.bundle7.specs.declared.fault.Cause7.{Cause7}
use Rattle.bundle7.specs.declared.bundle.Bundle7.{Bundle7}
use Rattle.bundle7.specs.Table as table7
use Rattle.bundle7.proofs.BlockLaws.{bundle-spelled}
use Rattle.bundle_meaning.specs.declared.full.Full.{Full}
use Rattle.translate.specs.declared.refused.Refused.{Refused}
use Rattle.translate.specs.Refusals.{first_that_holds}
use Rattle.translate.specs.Reading6.{full6_of}
use Rattle.translate.specs.Sound.{IsSound}
use Rattle.translate.proofs.Sound6Lemmas.{sound6}
use Rattle.translate.proofs.Sound7Lemmas.{sound7}
use Rattle.translate.proofs.BackLaws.{fits-own6, fits-own7}
use Rattle.translate.proofs.SpelledLemmas.{spelled-octets6, spelled-octets7}
use Rattle.gate_cases.specs.declared.face.Face.{Face}
use Rattle.gate_cases.specs.declared.face.Face.TheVariants as faces
use Rattle.gate_cases.specs.Faces.{fits_at}
use Rattle.block_types.specs.Bare.{bare_of}
use Rattle.block_types.specs.Relabelled.{relabelled6, relabelled7}
use Rattle.block_types.proofs.BareLemmas.{bare-sound}
use Rattle.block_types.proofs.RelabelLaws.{relabelled_is_legal}
use Rattle.bundle_age.specs.Raised.{raised_by, has_age}
use Rattle.face_room.specs.declared.bounds.Bounds.{Bounds}
use Rattle.face_room.specs.declared.bounds.TheConstants.{BLOCK_MAX}
use Rattle.face_room.specs.declared.load.Load.{Load}
use Rattle.face_room.specs.Loads.{has_room}
use Rattle.face_room.proofs.RoomLemmas.{room-parts}
use Rattle.piece_gathering.specs.declared.piece.Piece.{Piece}
use Rattle.peer_cases.specs.declared.settings.PeerSettings.{PeerSettings}
use Rattle.peer_cases.specs.Arrivals.{Came, came6, came7}
use Rattle.peer_cases.specs.Pieces.{wire_octets}
use Rattle.peer_cases.specs.Rows.{came_in}
use Rattle.peer_gateway.specs.Going.{raised_octets, stayed_size}
use Rattle.peer_gateway.specs.Faces.{IsSized}
use Rattle.peer_gateway.proofs.SizedLemmas.{raises_of, AgesWithin, ReadsWithin, sized-at}

-- ---- what is read

-- a record that came is sound and has room for its blocks; and so is the one that is to go on
pub record IsGood (face : Face) (came : Came) : Type 0 where
  pub sound : IsSound (came.arrival).full
  pub fits : fits_at face (came.arrival).full ≡ true
  pub onward : IsSound came.onward

abbrev pub CanCome : Face → Came → Type 0
CanCome face came = first_that_holds (came.arrival).refusals ≡ None → IsGood face came

bare-if : (bare : Bool) (full : Full) → IsSound full → IsSound (if bare then bare_of full else full)
bare-if true full sound = bare-sound full sound
bare-if false full sound = sound

octets-front : (n : ℕ) (w : List ℕ) → IsOctets w → IsOctets (take n w)
octets-front n w fits = (octets-parts w (take n w) (drop n w) (sym (take-append-drop n w)) fits).0

spelled-old : (s : PeerSettings) (w : List ℕ) (b : Bundle6) → IsOctets w → Spells (table6.bundle 64) [] w b → CanCome faces.Old (came6 s b)
spelled-old s w b fits spells = λ none.
    let stays = (relabelled_is_legal s.types).1 b in
    let legal = stays.legal (spelled-legal w b fits spells) in
    let sound = sound6 (relabelled6 s.types b) legal (stays.octets (spelled-octets6 w b fits spells)) none in
    record { sound = sound; fits = fits-own6 (relabelled6 s.types b) legal none; onward = bare-if s.bare (full6_of (relabelled6 s.types b)) sound }

spelled-new : (s : PeerSettings) (w : List ℕ) (b : Bundle7) → IsOctets w → Spells (table7.bundle 64) [] w b → CanCome faces.New (came7 s b)
spelled-new s w b fits spells = λ none.
    let stays = (relabelled_is_legal s.types).0 b in
    let legal = stays.legal ((bundle-spelled 64 w b spells).0 fits) in
    let sound = sound7 (relabelled7 s.types b) legal (stays.octets (spelled-octets7 w b fits spells)) none in
    record { sound = sound; fits = fits-own7 (relabelled7 s.types b) legal none; onward = sound }

came-old : (s : PeerSettings) (w : List ℕ) (came : Came) (r : Result (Bundle6 × ℕ) (ℕ × Stop Cause6)) → IsOctets w
    → read (table6.bundle 64) w 0 ≡ r → option_map (λ (x : Bundle6 × ℕ). came6 s x.0) (result_ok r) ≡ Some came → CanCome faces.Old came
came-old s w came (Err e) fits reads is = absurd (cc)
came-old s w came (Ok x) fits reads is =
    let there = read-found (table6.bundle 64) w 0 x.0 x.1 fits (omega arith) reads in
    let same : came6 s x.0 ≡ came = cc in
    subst (CanCome faces.Old) same (spelled-old s (take (x.1 - 0) w) x.0 (octets-front (x.1 - 0) w fits) there.spells)

came-new : (s : PeerSettings) (w : List ℕ) (came : Came) (r : Result (Bundle7 × ℕ) (ℕ × Stop Cause7)) → IsOctets w
    → read (table7.bundle 64) w 0 ≡ r → option_map (λ (x : Bundle7 × ℕ). came7 s x.0) (result_ok r) ≡ Some came → CanCome faces.New came
came-new s w came (Err e) fits reads is = absurd (cc)
came-new s w came (Ok x) fits reads is =
    let there = read-found (table7.bundle 64) w 0 x.0 x.1 fits (omega arith) reads in
    let same : came7 s x.0 ≡ came = cc in
    subst (CanCome faces.New) same (spelled-new s (take (x.1 - 0) w) x.0 (octets-front (x.1 - 0) w fits) there.spells)

pub can-come : (s : PeerSettings) (face : Face) (w : List ℕ) (came : Came) → IsOctets w → came_in s face w ≡ Some came → CanCome face came
unfolding came_in
can-come s faces.Old w came fits is = came-old s w came (read (table6.bundle 64) w 0) fits refl is
can-come s faces.New w came fits is = came-new s w came (read (table7.bundle 64) w 0) fits refl is

-- ---- a piece of an earlier run

none-of : (refused : Option Refused) → is_none refused ≡ true → refused ≡ None
none-of None is = refl
none-of (Some cause) is = absurd (cc)

kept-within : (s : PeerSettings) (face : Face) (octets : List ℕ) (size : ℕ) (came : Option Came) → IsOctets octets → came_in s face octets ≡ came
    → size ≡ length (raised_octets s face (2 ^ 64 - 1) octets came) → ReadsWithin s face octets size came
kept-within s face octets size None fits is most = omega (arith, most)
kept-within s face octets size (Some came) fits is most =
    (λ raises. ages raises (raises_of came) refl most, λ kept. few kept (raises_of came) refl most)
  where
    full : Full
    full = (came.arrival).full

    most_by : Bool → ℕ
    most_by t = length (if t then wire_octets s face (raised_by (2 ^ 64 - 1) full) else octets)

    ages : raises_of came ≡ true → (t : Bool) → raises_of came ≡ t → size ≡ most_by t → AgesWithin s face size full
    ages raises false so most = absurd (cc)
    ages raises true so most =
        let parts = and_parts (is_none (first_that_holds (came.arrival).refusals)) (has_age full) raises in
        let can = can-come s face octets came fits is (none-of (first_that_holds (came.arrival).refusals) parts.0) in
        record { sound = can.sound; fits = can.fits; few = omega (arith, most) }

    few : raises_of came ≡ false → (t : Bool) → raises_of came ≡ t → size ≡ most_by t → length octets ≤ size
    few kept false so most = omega (arith, most)
    few kept true so most = absurd (cc)

pub kept-sized : (s : PeerSettings) (face : Face) (piece : Piece) → IsOctets piece.octets → 0 < length piece.octets
    → piece.size ≡ stayed_size s face piece.octets → piece.size ≤ BLOCK_MAX → IsSized s face piece
kept-sized s face piece fits some size small = by s.raises refl size
  where
    by : (t : Bool) → s.raises ≡ t
        → piece.size ≡ length (if t then raised_octets s face (2 ^ 64 - 1) piece.octets (came_in s face piece.octets) else piece.octets)
        → IsSized s face piece
    by false is size = λ leaves early. sized-at s face leaves piece some small early (λ kept. omega (arith, size)) (λ raises. absurd (cc))
    by true is size = λ leaves early. sized-at s face leaves piece some small early (λ kept. absurd (cc))
        (λ raises. kept-within s face piece.octets piece.size (came_in s face piece.octets) fits refl size)

-- where a face has room for a piece, a session carries it
pub kept-small : (b : Bounds) (l : Load) (size : ℕ) (t : Bool) → t ≡ has_room b l (size ∷ []) → t ≡ true → size ≤ BLOCK_MAX
kept-small b l size t is so =
    let fits = (room-parts b l (size ∷ []) (sym is ∙ so)).0 in
    leb-true size BLOCK_MAX (and_parts (nat_le size BLOCK_MAX) true fits).0
