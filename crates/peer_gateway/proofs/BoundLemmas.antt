-- A block that goes leaves its face within half of the memory, and its datagrams are put.

use Rattle.std.proofs.Common.{◌≡◌, ◌≢◌, ℕ, ◌+◌, ◌<◌, ◌≤◌, ◌==◌, nat_le, nat_lt, Bool, true, false, if◌then◌else◌, List, [], ◌∷◌, length, take, drop, Option, Some, None, All, refl, ap, ◌∙◌, arith}
use Rattle.std.specs.List.{sum_by}
use Rattle.std.proofs.lemmas.List.{drop-map, take-map}
use Rattle.std.proofs.lemmas.List.Elements.{All-take}
use Rattle.std.proofs.lemmas.List.Sums.{sum_by-cons, sum_by-take-drop}
use Rattle.ltp_segment.specs.Policy.{PolicyValue}
use Rattle.ltp_segment.specs.Spelling.{segment_octets}
use Rattle.ltp_segment.specs.Values.{PieceValue, SegmentValue}
use Rattle.ltp_session.specs.Engine.{Engine, EngineStep}
use Rattle.ltp_session.specs.Sender.{Sending, begin, last_segment, opened}
use Rattle.ltp_session.specs.Table.{put, settled}
use Rattle.piece_gathering.specs.declared.piece.Piece.{Piece}
use Rattle.piece_gathering.specs.Gathered.{ready, sizes}
use Rattle.gate_cases.specs.declared.face.Face.{Face}
use Rattle.gate_cases.specs.declared.face.Face.TheVariants as faces
use Rattle.face_room.specs.Bounds.{need}
use Rattle.face_room.specs.Faces.{sizes_of, total}
use Rattle.face_room.specs.Queues.{puts}
use Rattle.face_room.proofs.NeedLemmas.{need-less, need-total}
use Rattle.face_room.proofs.QueueLemmas.{queues_within}
use Rattle.gateway_core.specs.Gate.{at_face}
use Rattle.peer_sessions.specs.Keys.{FaceKeys}
use Rattle.peer_sessions.specs.Sessions.{block_begins, blocks_in}
use Rattle.peer_gateway.specs.Keys.{AreKeys, PeerSetup}
use Rattle.peer_gateway.specs.Gate.{PeerFace, PeerMoments, kept_inside, may_queue, octets_out, sizes_out, with_queued}
use Rattle.peer_gateway.specs.Going.{block_of, go, next_count, with_block}
use Rattle.peer_gateway.specs.Laws.{FirstsArePut, IsSizedAt, IsWithin}
use Rattle.peer_gateway.proofs.BlockLemmas.{nothing_refused, octets-few}
use Rattle.peer_gateway.proofs.HeadLemmas.{heads_are_small}

-- ---- the blocks that are being sent

pub total-cons : (n : ℕ) (ns : List ℕ) → total (n ∷ ns) ≡ n + total ns
total-cons n ns = sum_by-cons (λ (m : ℕ). m) n ns

put-total : (n : ℕ) (s : Sending) (es : List (ℕ × Sending)) → total (blocks_in (put n s es)) ≤ total (blocks_in es) + length s.block
unfolding put
put-total n s [] = let one = total-cons (length s.block) [] in omega (arith, one)
put-total n s (e ∷ es) = by (e.0 == n) (nat_lt n e.0) (put-total n s es)
  where
    by : (same less : Bool) → total (blocks_in (put n s es)) ≤ total (blocks_in es) + length s.block
        → total (blocks_in (if same then (n, s) ∷ es else if less then (n, s) ∷ (e ∷ es) else e ∷ put n s es)) ≤ total (blocks_in (e ∷ es)) + length s.block
    by true less rest = let new = total-cons (length s.block) (blocks_in es) in let old = total-cons (length e.1.block) (blocks_in es) in omega (arith, new, old)
    by false true rest = let new = total-cons (length s.block) (blocks_in (e ∷ es)) in omega (arith, new)
    by false false rest =
        let new = total-cons (length e.1.block) (blocks_in (put n s es)) in
        let old = total-cons (length e.1.block) (blocks_in es) in
        omega (arith, new, old, rest)

opened-total : (policy : PolicyValue) (n : ℕ) (block : List ℕ) (now : ℕ) (checkpoint : ℕ × List ℕ → PieceValue) (last : Option (ℕ × List ℕ)) (es : List (ℕ × Sending))
    → total (blocks_in (settled n (opened policy block (length block) now checkpoint last) es)) ≤ total (blocks_in es) + length block
opened-total policy n block now checkpoint None es = omega arith
opened-total policy n block now checkpoint (Some segment) es = put-total n _ es

pub begun-total : (k : FaceKeys) (e : Engine) (block : List ℕ) (now : ℕ)
    → total (blocks_in ((block_begins k e block now).engine).senders) ≤ total (blocks_in e.senders) + length block
unfolding begin
begun-total k e block now = opened-total (k.party).policy e.next block now _ (last_segment _) e.senders

-- ---- what waiting pieces need

total-sizes : (pieces : List Piece) → total (sizes_of pieces) ≡ sizes pieces
total-sizes [] = refl
total-sizes (piece ∷ pieces) =
    let rest = total-sizes pieces in
    let one = total-cons piece.size (sizes_of pieces) in
    let two = sum_by-cons (λ (p : Piece). p.size) piece pieces in
    omega (arith, rest, one, two)

-- once the first of them went as a block that has no more octets than they
needs-gone : (segment count size : ℕ) (pieces : List Piece) → 0 < segment → size ≤ sizes (take count pieces)
    → need segment size + sum_by (need segment) (sizes_of (drop count pieces)) ≤ sum_by (need segment) (sizes_of pieces)
needs-gone segment count size pieces some few =
    let all = sum_by-take-drop (need segment) (sizes_of pieces) count in
    let after : sum_by (need segment) (drop count (sizes_of pieces)) ≡ sum_by (need segment) (sizes_of (drop count pieces)) =
    ap (sum_by (need segment)) (drop-map (λ (piece : Piece). piece.size) count pieces) in
    let before : sum_by (need segment) (take count (sizes_of pieces)) ≡ sum_by (need segment) (sizes_of (take count pieces)) =
    ap (sum_by (need segment)) (take-map (λ (piece : Piece). piece.size) count pieces) in
    let front = need-total segment (sizes_of (take count pieces)) some in
    let same = total-sizes (take count pieces) in
    let less = need-less size (total (sizes_of (take count pieces))) segment some (omega (arith, few, same)) in
    omega (arith, all, after, before, front, less)

-- ---- a block goes

total-out : (out : List SegmentValue) → total (sizes_out out) ≡ octets_out out
total-out [] = refl
total-out (s ∷ out) =
    let rest = total-out out in
    let one = total-cons (length (segment_octets s)) (sizes_out out) in
    let two = sum_by-cons (λ (segment : SegmentValue). length (segment_octets segment)) s out in
    omega (arith, rest, one, two)

-- its octets, its datagrams, and what the others need, are no more than what all needed before
pub record Lessens (k : FaceKeys) (f after : PeerFace) (out : List SegmentValue) : Type 0 where
  pub kept : kept_inside k after + total (sizes_out out) ≤ kept_inside k f

pub go-lessens : (s : PeerSetup) (face : Face) (m : PeerMoments) (until : ℕ) (f : PeerFace) (block : List ℕ) (step : EngineStep) → AreKeys (at_face s.keys face)
    → All (IsSizedAt s.settings face (m.leaves face)) (f.gathering).waiting → next_count (at_face s.keys face) until f ≢ 0
    → block ≡ block_of s face m until f → step ≡ block_begins (at_face s.keys face) (f.sessions).engine block (m.at face)
    → Lessens (at_face s.keys face) f (with_block f until step) (step.effects).out
go-lessens s face m until f block step keys sized some block_is step_is =
    let k = at_face s.keys face in
    let taken = nothing_refused s face m until f keys sized some in
    let small : length block ≤ 4194304 = omega (arith, ap length block_is, taken.small) in
    let heads = (heads_are_small k (f.sessions).engine block (m.at face) keys taken.number small).all in
    let out : octets_out (step.effects).out ≡ octets_out ((block_begins k (f.sessions).engine block (m.at face)).effects).out =
    ap (λ (x : EngineStep). octets_out (x.effects).out) step_is in
    let blocks = begun-total k (f.sessions).engine block (m.at face) in
    let senders : total (blocks_in (step.engine).senders) ≡ total (blocks_in ((block_begins k (f.sessions).engine block (m.at face)).engine).senders) =
    ap (λ (x : EngineStep). total (blocks_in (x.engine).senders)) step_is in
    let count = ready f.gathering until in
    let those = All-take (IsSizedAt s.settings face (m.leaves face)) count (f.gathering).waiting sized in
    let few : length block ≤ sizes (take count (f.gathering).waiting) =
    omega (arith, ap length block_is, octets-few s.settings face (m.leaves face) (take count (f.gathering).waiting) those) in
    let needs = needs-gone (k.bounds).segment count (length block) (f.gathering).waiting keys.some few in
    let sum = total-out (step.effects).out in
    record { kept = omega (arith, heads, out, blocks, senders, needs, sum) }

goes-face : (k : FaceKeys) (f after : PeerFace) (out : List SegmentValue) → Lessens k f after out → after.queued ≡ f.queued → IsWithin k f
    → IsWithin k (with_queued k after out)
    × (puts (may_queue k after) after.queued (sizes_out out) ≡ puts (λ octets. nat_le octets (k.bounds).outbox) f.queued (sizes_out out))
goes-face k f after out less same within =
    let all = queues_within k.bounds (kept_inside k after) after.queued (sizes_out out) in
    let fewer = less.kept in (
      all.within (omega (arith, fewer, same, within)),
      all.alone (omega (arith, fewer, same, within)) ∙ ap (λ (n : ℕ). puts (λ octets. nat_le octets (k.bounds).outbox) n (sizes_out out)) same,
    )

pub firsts_are_put : FirstsArePut
unfolding go
firsts_are_put s faces.Old m until g keys sized some within =
    let f = g.faces.0 in
    let block = block_of s faces.Old m until f in
    let step = block_begins s.keys.0 (f.sessions).engine block (m.at faces.Old) in
    let goes = goes-face s.keys.0 f (with_block f until step) (step.effects).out (go-lessens s faces.Old m until f block step keys sized some refl refl) refl within in
    record { stays = goes.0; put = goes.1 }
firsts_are_put s faces.New m until g keys sized some within =
    let f = g.faces.1 in
    let block = block_of s faces.New m until f in
    let step = block_begins s.keys.1 (f.sessions).engine block (m.at faces.New) in
    let goes = goes-face s.keys.1 f (with_block f until step) (step.effects).out (go-lessens s faces.New m until f block step keys sized some refl refl) refl within in
    record { stays = goes.0; put = goes.1 }
