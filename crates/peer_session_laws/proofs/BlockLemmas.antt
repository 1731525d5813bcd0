-- Each block that begins has an octet, where each piece of an earlier run has one.

use Rattle.std.proofs.Common.{◌≡◌, ℕ, zero, suc, ◌<◌, ◌≤◌, ◌&&◌, Bool, true, false, List, [], ◌∷◌, ◌++◌, length, map, take, drop, Option, None, Some, refl, sym, ap, subst, arith, if◌then◌else◌}
use Rattle.std.specs.List.{AllByRecursion, filter, flat_map}
use Rattle.std.specs.Option.{is_none}
use Rattle.std.proofs.lemmas.List.{length-append}
use Rattle.translate.specs.Refusals.{first_that_holds}
use Rattle.bundle_age.specs.Raised.{has_age, raised_by}
use Rattle.piece_gathering.specs.declared.piece.Piece.{Piece}
use Rattle.gate_cases.specs.declared.face.Face.{Face}
use Rattle.gate_cases.specs.declared.face.Face.TheVariants.{Old, New}
use Rattle.peer_cases.specs.declared.settings.PeerSettings.{PeerSettings}
use Rattle.peer_cases.specs.Arrivals.{Came}
use Rattle.peer_cases.specs.Pieces.{wire_octets}
use Rattle.peer_cases.specs.Rows.{came_in}
use Rattle.peer_gateway.specs.Gate.{AddedAt, BegunAt, PeerGate, is_at}
use Rattle.peer_gateway.specs.Going.{going_octets, raised_octets, stay_of}
use Rattle.peer_gateway.specs.Laws.{AreBlocksOf, PiecesInOrder, added_at, begun_at, waiting_at}
use Rattle.peer_gateway.specs.Steps.{peer_gate_after, peer_step, with_outboxes}
use Rattle.peer_gateway.proofs.SizedLemmas.{wire-some}
use Rattle.peer_half.specs.Runs.{EventIn}
use Rattle.peer_session_laws.specs.Events.{Beginning, gate_after, step_with}
use Rattle.peer_session_laws.specs.Own.{IsSomePiece}
use Rattle.peer_session_laws.proofs.GoLemmas.{HasOctets}
use Rattle.peer_session_laws.proofs.NumberLemmas.{HasOctet}
use Rattle.peer_session_laws.proofs.EndLemmas.{event-does}

abbrev PieceSome : Piece → Type 0
PieceSome piece = 0 < length piece.octets

-- ---- blocks of pieces

going-some : (s : PeerSettings) (face : Face) (leaves : ℕ) (piece : Piece) → PieceSome piece → 0 < length (going_octets s face leaves piece)
going-some s face leaves piece some = by s.raises (came_in s face piece.octets) where
  stays : ℕ
  stays = stay_of leaves piece

  raised : (came : Option Came) → 0 < length (raised_octets s face stays piece.octets came)
  raised None = some
  raised (Some came) = by_test (is_none (first_that_holds came.arrival.refusals) && has_age came.arrival.full) where
    by_test : (t : Bool) → 0 < length (if t then wire_octets s face (raised_by stays came.arrival.full) else piece.octets)
    by_test true = wire-some s face (raised_by stays came.arrival.full)
    by_test false = some

  by : (t : Bool) (came : Option Came) → 0 < length (if t then raised_octets s face stays piece.octets came else piece.octets)
  by true came = raised came
  by false came = some

block-some : (s : PeerSettings) (face : Face) (leaves n : ℕ) (pieces : List Piece) → 0 < n → n ≤ length pieces → AllByRecursion PieceSome pieces
    → 0 < length (flat_map (going_octets s face leaves) (take n pieces))
block-some s face leaves zero pieces some few all = absurd (omega (arith, some))
block-some s face leaves (suc n) [] some few all = absurd (omega (arith, few))
block-some s face leaves (suc n) (piece ∷ pieces) some few all =
    omega (arith, length-append (going_octets s face leaves piece) (flat_map (going_octets s face leaves) (take n pieces)), going-some s face leaves piece all.0)

all-drop : (n : ℕ) (pieces : List Piece) → AllByRecursion PieceSome pieces → AllByRecursion PieceSome (drop n pieces)
all-drop zero pieces all = all
all-drop (suc n) [] all = tt
all-drop (suc n) (piece ∷ pieces) all = all-drop n pieces all.1

abbrev BlockSome : BegunAt → Type 0
BlockSome b = 0 < length b.block

blocks-some : (s : PeerSettings) (face : Face) (leaves : ℕ) (begun : List BegunAt) (pieces left : List Piece) → AreBlocksOf s face leaves begun pieces left
    → AllByRecursion PieceSome pieces → AllByRecursion BlockSome begun × AllByRecursion PieceSome left
unfolding AreBlocksOf
blocks-some s face leaves [] pieces left same all = (tt, subst (λ (ps : List Piece). AllByRecursion PieceSome ps) (sym same) all)
blocks-some s face leaves (b ∷ begun) pieces left (some, few, block, are) all =
    let rest = blocks-some s face leaves begun (drop b.pieces pieces) left are (all-drop b.pieces pieces all) in
    ((omega (arith, ap length block, block-some s face leaves b.pieces pieces some few all), rest.0), rest.1)

-- ---- those of a face

is-here : (face : Face) → is_at face face ≡ true
is-here Old = refl
is-here New = refl

begun-some : (at : Face) (begun : List BegunAt) → AllByRecursion BlockSome (begun_at at begun) → AllByRecursion (HasOctet at) begun
begun-some at [] all = tt
begun-some at (b ∷ begun) all = by (λ rest. begun-some at begun rest) (is_at at b.face) refl all where
  by : (AllByRecursion BlockSome (begun_at at begun) → AllByRecursion (HasOctet at) begun) → (t : Bool) → is_at at b.face ≡ t → AllByRecursion BlockSome (if t then b ∷ begun_at at begun else begun_at at begun)
      → AllByRecursion (HasOctet at) (b ∷ begun)
  by later true is all = (λ here. all.0, later all.1)
  by later false is all = (λ here. absurd (cc (is, ap (is_at at) here, is-here at)), later all)

added-some : (at : Face) (added : List AddedAt) → AllByRecursion HasOctets added → AllByRecursion PieceSome (added_at at added)
added-some at [] all = tt
added-some at (a ∷ added) all = by (is_at at a.face) (added-some at added all.1) where
  by : (t : Bool) → AllByRecursion PieceSome (added_at at added)
      → AllByRecursion PieceSome (map (λ (x : AddedAt). x.piece) (if t then a ∷ filter (λ (x : AddedAt). is_at at x.face) added else filter (λ (x : AddedAt). is_at at x.face) added))
  by true rest = (all.0, rest)
  by false rest = rest

both-some : (xs ys : List Piece) → AllByRecursion PieceSome xs → AllByRecursion PieceSome ys → AllByRecursion PieceSome (xs ++ ys)
both-some [] ys first more = more
both-some (x ∷ xs) ys first more = (first.0, both-some xs ys first.1 more)

-- ---- events

waits-same : (at : Face) (octets : ℕ × ℕ) (g : PeerGate) → waiting_at at (with_outboxes octets g) ≡ waiting_at at g
waits-same Old octets g = refl
waits-same New octets g = refl

begins-empty : (b : Beginning) (at : Face) → waiting_at at (gate_after b []) ≡ []
unfolding peer_gate_after
begins-empty b Old = refl
begins-empty b New = refl

abbrev pub AreSome : List EventIn → Type 0
AreSome events = AllByRecursion (λ (event : EventIn). IsSomePiece event.0) events

step-some : PiecesInOrder → (b : Beginning) (at : Face) (event : EventIn) (earlier : List EventIn) → IsSomePiece event.0 → AllByRecursion PieceSome (waiting_at at (gate_after b earlier))
    → AllByRecursion BlockSome (begun_at at (step_with b event earlier).effects.begun) × AllByRecursion PieceSome (waiting_at at (gate_after b (event ∷ earlier)))
unfolding peer_gate_after peer_step
step-some law b at event earlier some waits =
    let m = event.1.0 in
    let g = with_outboxes event.1.1 (gate_after b earlier) in
    let added = (event-does b at 0 event earlier).added some in
    blocks-some b.setup.settings at (m.leaves at) (begun_at at (step_with b event earlier).effects.begun)
    (waiting_at at g ++ added_at at (step_with b event earlier).effects.added) (waiting_at at (gate_after b (event ∷ earlier)))
    (law b.setup event.0 m at g)
    (both-some (waiting_at at g) (added_at at (step_with b event earlier).effects.added)
    (subst (λ (ps : List Piece). AllByRecursion PieceSome ps) (sym (waits-same at event.1.1 (gate_after b earlier))) waits)
    (added-some at (step_with b event earlier).effects.added added))

waits-some : PiecesInOrder → (b : Beginning) (at : Face) (events : List EventIn) → AreSome events → AllByRecursion PieceSome (waiting_at at (gate_after b events))
waits-some law b at [] all = subst (λ (ps : List Piece). AllByRecursion PieceSome ps) (sym (begins-empty b at)) tt
waits-some law b at (event ∷ earlier) all = (step-some law b at event earlier all.0 (waits-some law b at earlier all.1)).1

pub begins-some : PiecesInOrder → (b : Beginning) (at : Face) (event : EventIn) (earlier : List EventIn) → AreSome (event ∷ earlier)
    → AllByRecursion (HasOctet at) (step_with b event earlier).effects.begun
begins-some law b at event earlier all =
    begun-some at (step_with b event earlier).effects.begun (step-some law b at event earlier all.0 (waits-some law b at earlier all.1)).0
