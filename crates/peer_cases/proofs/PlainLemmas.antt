-- With the gateway's own types, nothing left out and no age raised, bundles and pieces are as before.

use Rattle.std.proofs.Common.{◌≡◌, ℕ, ◌+◌, ◌≤◌, ◌==◌, Bool, true, false, not, ◌&&◌, ◌||◌, nat_le, nat_lt, if◌then◌else◌, List, [], ◌∷◌, map, length, Some, None, Result, Ok, Err, refl, ap, ◌∙◌, arith}
use Rattle.std.specs.List.{list_all, list_any, sum_by}
use Rattle.std.specs.Option.{option_map}
use Rattle.std.specs.Result.{result_ok}
use Rattle.std.proofs.lemmas.Bool.{lt-ltb, le-ltb, le-leb, leb-true, leb-false}
use Rattle.std.proofs.lemmas.List.{length-map}
use Rattle.wire_fields.specs.Refusal.{Stop}
use Rattle.bundle6.specs.declared.fault.Cause6.{Cause6}
use Rattle.bundle6.specs.declared.bundle.Bundle6.{Bundle6}
use Rattle.bundle6.specs.Spelling.{canon6}
use Rattle.bundle7.specs.declared.fault.Cause7.{Cause7}
use Rattle.bundle7.specs.declared.bundle.Bundle7.{Bundle7}
use Rattle.bundle7.specs.Spelling.{octets7}
use Rattle.bundle_meaning.specs.declared.full.Full.{Full}
use Rattle.translate.specs.View6.{view6_of}
use Rattle.translate.specs.View7.{view7_of}
use Rattle.gate_cases.specs.declared.case.TheConstants as before
use Rattle.gate_cases.specs.declared.cause.BadCause.TheVariants.{Trailing}
use Rattle.gate_cases.specs.declared.face.Face.{Face}
use Rattle.gate_cases.specs.declared.face.Face.TheVariants.{Old, New}
use Rattle.gate_cases.specs.Faces.{octets_at}
use Rattle.gate_cases.specs.Blocks.{Arrival, Found, one, bad, arrival6, arrival7, found6, found7}
use Rattle.gate_cases.specs.Cases.{is_short}
use Rattle.block_types.specs.Relabelled.{relabelled6, relabelled7}
use Rattle.block_types.proofs.RelabelLaws.{nothing_relabelled}
use Rattle.face_room.specs.declared.bounds.TheConstants.{BLOCK_MAX, NUMBERS}
use Rattle.face_room.specs.Bounds.{need, for_pieces}
use Rattle.face_room.specs.Loads.{has_room}
use Rattle.face_room.proofs.RoomLemmas.{alone_each}
use Rattle.peer_cases.specs.declared.settings.PeerSettings.{PeerSettings}
use Rattle.peer_cases.specs.Arrivals.{Came, came_as, came6, came7}
use Rattle.peer_cases.specs.Pieces.{wire_octets, oldest, greatest_size, piece_of}
use Rattle.peer_cases.specs.declared.room.FaceRoom.{FaceRoom}
use Rattle.peer_cases.specs.Laws.{IsPlain, IsAlone, room_as_before, octets_of_piece}

-- ---- a bundle that came

abbrev pub plainly : Arrival → Came
plainly arrival = record { arrival = arrival; onward = arrival.full; left = None }

came-plain : (bare : Bool) (arrival : Arrival) → bare ≡ false → came_as bare arrival ≡ plainly arrival
came-plain bare arrival is = ap (λ (t : Bool). came_as t arrival) is

came6-plain : (s : PeerSettings) (b : Bundle6) → IsPlain s → came6 s b ≡ plainly (arrival6 b)
came6-plain s b plain =
    came-plain s.bare (arrival6 (relabelled6 s.types b)) plain.whole
    ∙ ap (λ (v : Bundle6). plainly (arrival6 v)) ((nothing_relabelled s.types plain.residue plain.wrap).1 b)

came7-plain : (s : PeerSettings) (b : Bundle7) → IsPlain s → came7 s b ≡ plainly (arrival7 b)
came7-plain s b plain =
    came-plain false (arrival7 (relabelled7 s.types b)) refl
    ∙ ap (λ (v : Bundle7). plainly (arrival7 v)) ((nothing_relabelled s.types plain.residue plain.wrap).0 b)

abbrev arrival_or : Arrival → Found → Arrival
arrival_or other (one arrival) = arrival
arrival_or other (bad at cause) = other

-- a bundle that is the whole block is what was found
alone-one : (whole : Bool) (at : ℕ) (arrival other : Arrival) → (if whole then one arrival else bad at Trailing) ≡ one other → arrival ≡ other
alone-one true at arrival other is = ap (arrival_or arrival) is
alone-one false at arrival other is = absurd (cc)

pub old-one : (s : PeerSettings) (size : ℕ) (r : Result (Bundle6 × ℕ) (ℕ × Stop Cause6)) (arrival : Arrival) → IsPlain s
    → found6 size r ≡ one arrival
    → option_map (λ (x : Bundle6 × ℕ). came6 s x.0) (result_ok r) ≡ Some (plainly arrival)
old-one s size (Ok x) arrival plain is =
    ap Some (came6-plain s x.0 plain ∙ ap plainly (alone-one (x.1 == size) x.1 (arrival6 x.0) arrival is))
old-one s size (Err stop) arrival plain is = absurd (cc)

pub new-one : (s : PeerSettings) (size : ℕ) (r : Result (Bundle7 × ℕ) (ℕ × Stop Cause7)) (arrival : Arrival) → IsPlain s
    → found7 size r ≡ one arrival
    → option_map (λ (x : Bundle7 × ℕ). came7 s x.0) (result_ok r) ≡ Some (plainly arrival)
new-one s size (Ok x) arrival plain is =
    ap Some (came7-plain s x.0 plain ∙ ap plainly (alone-one (x.1 == size) x.1 (arrival7 x.0) arrival is))
new-one s size (Err stop) arrival plain is = absurd (cc)

-- ---- pieces

wire-plain : (s : PeerSettings) (to : Face) (full : Full) → IsPlain s → wire_octets s to full ≡ octets_at to full
unfolding wire_octets
wire-plain s Old full plain = ap canon6 ((nothing_relabelled s.types plain.residue plain.wrap).1 (view6_of full))
wire-plain s New full plain = ap octets7 ((nothing_relabelled s.types plain.residue plain.wrap).0 (view7_of full))

oldest-plain : (s : PeerSettings) (full : Full) → IsPlain s → oldest s full ≡ full
unfolding oldest
oldest-plain s full plain = rw plain.ageless refl

size-plain : (s : PeerSettings) (to : Face) (full : Full) → IsPlain s → greatest_size s to full ≡ length (octets_at to full)
size-plain s to full plain =
    ap (λ (f : Full). length (wire_octets s to f)) (oldest-plain s full plain) ∙ ap length (wire-plain s to full plain)

-- the octets of each
abbrev pub lengths : List (List ℕ) → List ℕ
lengths pieces = map (λ (piece : List ℕ). length piece) pieces

pub sizes-plain : (s : PeerSettings) (to : Face) (records : List Full) → IsPlain s
    → map (greatest_size s to) records ≡ lengths (map (octets_at to) records)
sizes-plain s to [] plain = refl
sizes-plain s to (full ∷ records) plain =
    ap (λ (n : ℕ). n ∷ map (greatest_size s to) records) (size-plain s to full plain)
    ∙ ap (λ (ns : List ℕ). length (octets_at to full) ∷ ns) (sizes-plain s to records plain)

pub pieces-plain : (s : PeerSettings) (to : Face) (records : List Full) → IsPlain s
    → map octets_of_piece (map (piece_of s to) records) ≡ map (octets_at to) records
pieces-plain s to [] plain = refl
pieces-plain s to (full ∷ records) plain =
    ap (λ (w : List ℕ). w ∷ map octets_of_piece (map (piece_of s to) records)) (wire-plain s to full plain)
    ∙ ap (λ (ws : List (List ℕ)). octets_at to full ∷ ws) (pieces-plain s to records plain)

-- ---- room

not-le : (a b : ℕ) → nat_lt b a ≡ not (nat_le a b)
not-le a b = by (nat_le a b) refl
  where
    by : (t : Bool) → nat_le a b ≡ t → nat_lt b a ≡ not t
    by true is = le-ltb b a (leb-true a b is)
    by false is = lt-ltb b a (omega (arith, leb-false a b is))

any-large : (pieces : List (List ℕ))
    → list_any (λ (piece : List ℕ). nat_lt before.BLOCK_MAX (length piece)) pieces ≡ not (list_all (λ (n : ℕ). nat_le n BLOCK_MAX) (lengths pieces))
any-large [] = refl
any-large (piece ∷ pieces) =
    rw (not-le (length piece) BLOCK_MAX, any-large pieces) (by (nat_le (length piece) BLOCK_MAX) (list_all (λ (n : ℕ). nat_le n BLOCK_MAX) (lengths pieces)))
  where
    by : (a b : Bool) → (not a || not b) ≡ not (a && b)
    by true b = refl
    by false b = refl

pub short-is : (sending : ℕ) (room : FaceRoom) (pieces : List (List ℕ)) → IsAlone room
    → (room.load).kept + sum_by (need (room.bounds).segment) (lengths pieces) ≤ for_pieces room.bounds
    → sending + length pieces ≤ before.SENDING_MAX
    → not (has_room room.bounds room.load (lengths pieces)) ≡ is_short (room_as_before sending room) pieces
short-is sending room pieces alone octets sessions =
    let count : length (lengths pieces) ≡ length pieces = length-map pieces (λ (piece : List ℕ). length piece) in
    let each = alone_each room.bounds room.load (lengths pieces) alone.waiting (λ k d inside. omega (arith, alone.wanted)) in
    let kept : nat_le ((room.load).kept + sum_by (need (room.bounds).segment) (lengths pieces)) (for_pieces room.bounds) ≡ true =
    le-leb ((room.load).kept + sum_by (need (room.bounds).segment) (lengths pieces)) (for_pieces room.bounds) octets in
    rw (
      each,
      kept,
      count,
      le-ltb before.SENDING_MAX (sending + length pieces) sessions,
      any-large pieces,
      not-le ((room.load).next_session + length pieces) before.NUMBERS,
    ) (by (list_all (λ (n : ℕ). nat_le n BLOCK_MAX) (lengths pieces)) (nat_le ((room.load).next_session + length pieces) NUMBERS))
  where
    by : (all numbers : Bool) → not (all && (numbers && true)) ≡ (not all || not numbers)
    by true true = refl
    by true false = refl
    by false numbers = refl
