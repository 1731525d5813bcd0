-- A block that goes isn't refused.

use Rattle.std.proofs.Common.{◌≡◌, ℕ, ◌<◌, ◌≤◌, ◌^◌, Bool, true, false, ◌||◌, nat_lt, if◌then◌else◌, List, [], ◌∷◌, length, take, None, All, refl, arith, length-append}
use Rattle.std.specs.List.{flat_map}
use Rattle.std.proofs.lemmas.Bool.{and_parts, ltb-true, ne_eqb, le-ltb, lt-leb}
use Rattle.std.proofs.lemmas.List.{length-take-le}
use Rattle.std.proofs.lemmas.List.Elements.{All-head, All-tail, All-take}
use Rattle.std.proofs.lemmas.List.Sums.{sum_by-cons}
use Rattle.ltp_session.specs.Engine.{Party, Engine, submit_fault}
use Rattle.piece_gathering.specs.declared.piece.Piece.{Piece}
use Rattle.piece_gathering.specs.Gathered.{GatheringValue, sizes, front_in, is_complete, is_late, ready, going}
use Rattle.piece_gathering.specs.Fronts.{AreWithin}
use Rattle.piece_gathering.proofs.FrontLemmas.{is-front}
use Rattle.gate_cases.specs.declared.face.Face.{Face}
use Rattle.face_room.specs.declared.bounds.TheConstants.{BLOCK_MAX, NUMBERS}
use Rattle.gateway_core.specs.Gate.{at_face}
use Rattle.peer_cases.specs.declared.settings.PeerSettings.{PeerSettings}
use Rattle.peer_gateway.specs.Going.{going_octets, block_of}
use Rattle.peer_gateway.specs.Laws.{IsSizedAt, NothingRefused}
use Rattle.peer_gateway.proofs.GoingLemmas.{ready-few, go-next}

-- ---- the octets of a block

abbrev pub together : PeerSettings → Face → ℕ → List Piece → List ℕ
together s face leaves pieces = flat_map (going_octets s face leaves) pieces

pub octets-few : (s : PeerSettings) (face : Face) (leaves : ℕ) (pieces : List Piece) → All (IsSizedAt s face leaves) pieces
    → length (together s face leaves pieces) ≤ sizes pieces
octets-few s face leaves [] sized = omega arith
octets-few s face leaves (piece ∷ pieces) sized =
    omega (
      arith,
      length-append (going_octets s face leaves piece) (together s face leaves pieces),
      octets-few s face leaves pieces (All-tail (IsSizedAt s face leaves) piece pieces sized),
      sum_by-cons (λ (p : Piece). p.size) piece pieces,
      (All-head (IsSizedAt s face leaves) piece pieces sized).few,
    )

pub octets-some : (s : PeerSettings) (face : Face) (leaves : ℕ) (pieces : List Piece) → All (IsSizedAt s face leaves) pieces
    → 0 < length pieces → 0 < length (together s face leaves pieces)
octets-some s face leaves [] sized some = absurd (omega (arith, some))
octets-some s face leaves (piece ∷ pieces) sized some =
    omega (
      arith,
      length-append (going_octets s face leaves piece) (together s face leaves pieces),
      (All-head (IsSizedAt s face leaves) piece pieces sized).some,
    )

-- the pieces that go together fit into a block
pub going-few : (g : GatheringValue) (now : ℕ) → AreWithin g.waiting → sizes (going g now) ≤ BLOCK_MAX
unfolding ready
going-few g now within = by (is_complete g || is_late g.wait_ms now g.waiting)
  where
    by : (t : Bool) → sizes (take (if t then (front_in g).count else 0) g.waiting) ≤ BLOCK_MAX
    by true =
        let front = is-front g.wanted g.waiting in
        omega (arith, front.size, front.fits within)
    by false = omega arith

-- ---- the engine takes it

no-fault : (p : Party) (e : Engine) (block : List ℕ) → 0 < length block → length block ≤ p.most → e.next < 2 ^ 32
    → length e.senders < p.sessions → submit_fault p e block ≡ None
no-fault p e block some few number free =
    rw (
      ne_eqb (length block) 0 (λ is. absurd (omega (arith, is, some))),
      le-ltb p.most (length block) few,
      lt-leb (2 ^ 32) e.next number,
      lt-leb p.sessions (length e.senders) free,
    ) refl

pub nothing_refused : NothingRefused
nothing_refused s face m until f keys sized some =
    let k = at_face s.keys face in
    let next = go-next k until f some in
    let count = ready f.gathering until in
    let free = and_parts (nat_lt (length ((f.sessions).engine).senders) (k.bounds).sessions) (nat_lt ((f.sessions).engine).next NUMBERS) next.free in
    let session = ltb-true (length ((f.sessions).engine).senders) (k.bounds).sessions free.0 in
    let number = ltb-true ((f.sessions).engine).next NUMBERS free.1 in
    let those = All-take (IsSizedAt s.settings face (m.leaves face)) count (f.gathering).waiting sized in
    let few = octets-few s.settings face (m.leaves face) (take count (f.gathering).waiting) those in
    let fits = going-few f.gathering until (λ n d inside. (sized n d inside).within) in
    let taken = length-take-le count (f.gathering).waiting (ready-few f.gathering until) in
    let octet = octets-some s.settings face (m.leaves face) (take count (f.gathering).waiting) those (omega (arith, taken, next.some)) in
    record {
      free = session;
      number = number;
      small = omega (arith, few, fits);
      fault = no-fault k.party (f.sessions).engine (block_of s face m until f) octet (omega (arith, few, fits, keys.most))
          (omega (arith, number)) (omega (arith, session, keys.sessions));
    }
