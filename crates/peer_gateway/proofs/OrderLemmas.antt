-- Pieces go in order, each once.

use Rattle.std.proofs.Common.{◌≡◌, ◌≢◌, ℕ, ◌<◌, ◌≤◌, Bool, List, [], ◌∷◌, ◌++◌, map, length, take, drop, refl, sym, ap, subst, ◌∙◌, arith, append_assoc, length-append}
use Rattle.std.specs.List.{flat_map, filter}
use Rattle.std.proofs.lemmas.List.{append-nil, map-append, take-append-le, drop-append-le}
use Rattle.std.proofs.lemmas.List.Elements.{filter-append}
use Rattle.piece_gathering.specs.declared.piece.Piece.{Piece}
use Rattle.piece_gathering.specs.Gathered.{ready}
use Rattle.gate_cases.specs.declared.face.Face.{Face}
use Rattle.gate_cases.specs.declared.face.Face.TheVariants as faces
use Rattle.gateway_core.specs.Gate.{at_face}
use Rattle.peer_cases.specs.declared.settings.PeerSettings.{PeerSettings}
use Rattle.peer_sessions.specs.Sessions.{SessionsStep}
use Rattle.peer_gateway.specs.Keys.{PeerSetup}
use Rattle.peer_gateway.specs.Gate.{PeerMoments, PeerFace, PeerGate, PeerStep, AddedAt, BegunAt, and_then, is_at}
use Rattle.peer_gateway.specs.Going.{going_octets, next_count, block_of, go, waits_too}
use Rattle.peer_gateway.specs.Steps.{does_at}
use Rattle.peer_gateway.specs.Laws.{AreBlocksOf, begun_at, added_at, waiting_at, GoInOrder, PiecesInOrder}
use Rattle.peer_gateway.proofs.GoingLemmas.{ready-few, go-next}
use Rattle.peer_gateway.proofs.StepLemmas.{IsKept, all-steps}

-- ---- blocks of pieces

-- pieces that come after those of some blocks
blocks-then : (s : PeerSettings) (face : Face) (leaves : ℕ) (first more : List BegunAt) (pieces middle added left : List Piece)
    → AreBlocksOf s face leaves first pieces middle → AreBlocksOf s face leaves more (middle ++ added) left
    → AreBlocksOf s face leaves (first ++ more) (pieces ++ added) left
unfolding AreBlocksOf
blocks-then s face leaves [] more pieces middle added left is after =
    subst (λ (all : List Piece). AreBlocksOf s face leaves more (all ++ added) left) is after
blocks-then s face leaves (b ∷ first) more pieces middle added left (some, few, block, rest) after =
    let taken : take b.pieces (pieces ++ added) ≡ take b.pieces pieces = take-append-le b.pieces pieces added few in
    let dropped : drop b.pieces (pieces ++ added) ≡ drop b.pieces pieces ++ added = drop-append-le b.pieces pieces added few in
    let next = blocks-then s face leaves first more (drop b.pieces pieces) middle added left rest after in (
      some,
      omega (arith, few, length-append pieces added),
      block ∙ sym (ap (flat_map (going_octets s face leaves)) taken),
      subst (λ (all : List Piece). AreBlocksOf s face leaves (first ++ more) all left) (sym dropped) next,
    )

-- none began, and none was added
none-went : (s : PeerSettings) (face : Face) (leaves : ℕ) (pieces : List Piece) → AreBlocksOf s face leaves [] (pieces ++ []) pieces
unfolding AreBlocksOf
none-went s face leaves pieces = sym (append-nil pieces)

-- some were added
some-added : (s : PeerSettings) (face : Face) (leaves : ℕ) (pieces added : List Piece)
    → AreBlocksOf s face leaves [] (pieces ++ added) (pieces ++ added)
unfolding AreBlocksOf
some-added s face leaves pieces added = refl

-- one block began
one-went : (s : PeerSettings) (face : Face) (leaves : ℕ) (b : BegunAt) (pieces : List Piece) → 0 < b.pieces → b.pieces ≤ length pieces
    → b.block ≡ flat_map (going_octets s face leaves) (take b.pieces pieces)
    → AreBlocksOf s face leaves (b ∷ []) (pieces ++ []) (drop b.pieces pieces)
unfolding AreBlocksOf
one-went s face leaves b pieces some few block =
    subst (λ (all : List Piece). AreBlocksOf s face leaves (b ∷ []) all (drop b.pieces pieces)) (sym (append-nil pieces))
    (some, few, block, refl)

-- ---- small steps

order-both : (s : PeerSetup) (m : PeerMoments) (face : Face) (g : PeerGate) (first : PeerStep) (next : PeerGate → PeerStep)
    → GoInOrder s m face g first → GoInOrder s m face first.gate (next first.gate) → GoInOrder s m face g (and_then first next)
unfolding and_then
order-both s m face g first next one more =
    let second = next first.gate in
    let here = λ (a : AddedAt). is_at face a.face in
    let begun = filter-append (λ (b : BegunAt). is_at face b.face) (first.effects).begun (second.effects).begun in
    let added : added_at face ((first.effects).added ++ (second.effects).added)
    ≡ added_at face (first.effects).added ++ added_at face (second.effects).added =
    ap (map (λ (a : AddedAt). a.piece)) (filter-append here (first.effects).added (second.effects).added)
    ∙ map-append (λ (a : AddedAt). a.piece) (filter here (first.effects).added) (filter here (second.effects).added) in
    let all : waiting_at face g ++ added_at face ((first.effects).added ++ (second.effects).added)
    ≡ (waiting_at face g ++ added_at face (first.effects).added) ++ added_at face (second.effects).added =
    ap (λ (more : List Piece). waiting_at face g ++ more) added
    ∙ sym (append_assoc (waiting_at face g) (added_at face (first.effects).added) (added_at face (second.effects).added)) in
    let is = blocks-then s.settings face (m.leaves face) (begun_at face (first.effects).begun) (begun_at face (second.effects).begun)
    (waiting_at face g ++ added_at face (first.effects).added) (waiting_at face first.gate)
    (added_at face (second.effects).added) (waiting_at face second.gate) one more in
    subst (λ (b : List BegunAt). AreBlocksOf s.settings face (m.leaves face) b
    (waiting_at face g ++ added_at face ((first.effects).added ++ (second.effects).added)) (waiting_at face second.gate)) (sym begun)
    (subst (λ (w : List Piece). AreBlocksOf s.settings face (m.leaves face)
    (begun_at face (first.effects).begun ++ begun_at face (second.effects).begun) w (waiting_at face second.gate)) (sym all) is)

order-hearing : (s : PeerSetup) (m : PeerMoments) (face at : Face) (step : SessionsStep) (g : PeerGate)
    → GoInOrder s m face g (does_at s at g step)
order-hearing s m faces.Old faces.Old step g = none-went s.settings faces.Old (m.leaves faces.Old) (waiting_at faces.Old g)
order-hearing s m faces.Old faces.New step g = none-went s.settings faces.Old (m.leaves faces.Old) (waiting_at faces.Old g)
order-hearing s m faces.New faces.Old step g = none-went s.settings faces.New (m.leaves faces.New) (waiting_at faces.New g)
order-hearing s m faces.New faces.New step g = none-went s.settings faces.New (m.leaves faces.New) (waiting_at faces.New g)

order-waiting : (s : PeerSetup) (m : PeerMoments) (face at : Face) (piece : Piece) (is_report : Bool) (g : PeerGate)
    → GoInOrder s m face g (waits_too at piece is_report g)
order-waiting s m faces.Old faces.Old piece is_report g =
    some-added s.settings faces.Old (m.leaves faces.Old) (waiting_at faces.Old g) (piece ∷ [])
order-waiting s m faces.Old faces.New piece is_report g =
    none-went s.settings faces.Old (m.leaves faces.Old) (waiting_at faces.Old g)
order-waiting s m faces.New faces.Old piece is_report g =
    none-went s.settings faces.New (m.leaves faces.New) (waiting_at faces.New g)
order-waiting s m faces.New faces.New piece is_report g =
    some-added s.settings faces.New (m.leaves faces.New) (waiting_at faces.New g) (piece ∷ [])

abbrev begun-of : (s : PeerSetup) (m : PeerMoments) (face : Face) (until : ℕ) (f : PeerFace) → BegunAt
begun-of s m face until f = record {
  face = face;
  session = ((f.sessions).engine).next;
  block = block_of s face m until f;
  pieces = ready f.gathering until;
}

gone-one : (s : PeerSetup) (m : PeerMoments) (face : Face) (until : ℕ) (f : PeerFace) → next_count (at_face s.keys face) until f ≢ 0
    → AreBlocksOf s.settings face (m.leaves face) (begun-of s m face until f ∷ []) ((f.gathering).waiting ++ [])
    (drop (ready f.gathering until) (f.gathering).waiting)
gone-one s m face until f some =
    one-went s.settings face (m.leaves face) (begun-of s m face until f) (f.gathering).waiting
    (go-next (at_face s.keys face) until f some).some (ready-few f.gathering until) refl

order-going : (s : PeerSetup) (m : PeerMoments) (face at : Face) (until : ℕ) (g : PeerGate)
    → next_count (at_face s.keys at) until (at_face g.faces at) ≢ 0 → GoInOrder s m face g (go s at m until g)
unfolding go
order-going s m faces.Old faces.Old until g some = gone-one s m faces.Old until g.faces.0 some
order-going s m faces.Old faces.New until g some = none-went s.settings faces.Old (m.leaves faces.Old) (waiting_at faces.Old g)
order-going s m faces.New faces.Old until g some = none-went s.settings faces.New (m.leaves faces.New) (waiting_at faces.New g)
order-going s m faces.New faces.New until g some = gone-one s m faces.New until g.faces.1 some

order-kept : (s : PeerSetup) (m : PeerMoments) (face : Face) → IsKept s m (GoInOrder s m face)
order-kept s m face = record {
  nothing = λ g. none-went s.settings face (m.leaves face) (waiting_at face g);
  both = order-both s m face;
  telling = λ at told g. none-went s.settings face (m.leaves face) (waiting_at face g);
  hearing = λ at step g. order-hearing s m face at step g;
  waiting = λ at piece is_report g. order-waiting s m face at piece is_report g;
  going = λ at until g some. order-going s m face at until g some;
  counting = λ g step is. is;
}

pub pieces_in_order : PiecesInOrder
pieces_in_order s event m face g = all-steps s m (GoInOrder s m face) (order-kept s m face) event g
