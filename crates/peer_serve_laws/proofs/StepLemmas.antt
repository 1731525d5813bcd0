-- Each step sends the same.

use Rattle.std.proofs.Common.{◌≡◌, ℕ, suc, ◌+◌, ◌<◌, ◌≤◌, ◌^◌, Bool, true, false, not, ◌&&◌, ◌||◌, nat_lt, nat_le, if◌then◌else◌, List, [], ◌∷◌, ◌++◌, length, map, Option, None, Some, Result, refl, sym, ◌∙◌, ap, subst, arith, inl, inr, ◌⊎◌}
use Rattle.std.proofs.lemmas.Bool.Decides.{nat_tests}
use Rattle.std.proofs.lemmas.List.{append-nil, length-append, length-map}
use Rattle.std.proofs.lemmas.List.Elements.{All-head, All-tail}
use Rattle.std.specs.List.{All, AllByRecursion}
use Rattle.bundle6.specs.Spelling as six
use Rattle.bundle7.specs.Spelling as seven
use Rattle.endpoint.specs.declared.name.Endpoint.{Endpoint}
use Rattle.ltp_segment.specs.declared.fault.SegmentCause.{SegmentCause}
use Rattle.ltp_segment.specs.Values.{SegmentValue}
use Rattle.ltp_session.specs.Step.{Change, stays, keeps, ends}
use Rattle.ltp_session.specs.Sender.{Sending, begin}
use Rattle.ltp_session.specs.Table.{settled}
use Rattle.ltp_session.specs.Engine.{EffectsValue, Engine, EngineStep, Party, UpValue, datagram_step, tick_step}
use Rattle.ltp_engine.proofs.KeepLemmas.{length-put, length-without}
use Rattle.piece_gathering.specs.declared.piece.Piece.{Piece}
use Rattle.piece_gathering.specs.Gathered.{GatheringValue}
use Rattle.gate_cases.specs.declared.case.GateCase.{GateCase}
use Rattle.gate_cases.specs.declared.case.GateCase.TheVariants as cases
use Rattle.gate_cases.specs.declared.case.Room.{Room}
use Rattle.gate_cases.specs.declared.face.Face.{Face}
use Rattle.gate_cases.specs.declared.face.Face.TheVariants as faces
use Rattle.gate_cases.specs.declared.judged.Judged.{Judged}
use Rattle.gate_cases.specs.declared.report.AskedReport.{AskedReport}
use Rattle.gate_cases.specs.declared.report.Creation.{Creation}
use Rattle.gate_cases.specs.declared.report.Creation.TheVariants.{Six, Seven}
use Rattle.gate_cases.specs.Blocks.{Arrival, Found, bad, one, found_at}
use Rattle.gate_cases.specs.Bundles.{status_bundle, status_octets}
use Rattle.gate_cases.specs.Cases as before
use Rattle.gate_cases.specs.Cases.{judged}
use Rattle.gate_cases.specs.Faces.{other_of}
use Rattle.gate_cases.specs.Promises.{HaveRoom, IsBlock}
use Rattle.gate_cases.proofs.PromiseLemmas.{pieces-have-room}
use Rattle.block_types.specs.declared.losing.LeftOut.{LeftOut}
use Rattle.bundle_rows.specs.declared.next.End.{End}
use Rattle.bundle_rows.specs.Rows.{Extent, row_of}
use Rattle.bundle_rows.proofs.RowLemmas.{reads_as_one}
use Rattle.face_room.specs.Faces.{sizes_of}
use Rattle.face_room.specs.Loads.{has_room, is_within, no_blocks, with_pieces, with_sizes}
use Rattle.gateway_core.specs.declared.note.GateNote.TheVariants as notes
use Rattle.gateway_core.specs.Gate as serve
use Rattle.gateway_core.specs.Gate.{Gate, GateSetup, GateStep, answers_at, arrives_at, at_face, case_note, decides_at, does_at, noted_at, sends_at, ticks_gate}
use Rattle.peer_cases.specs.declared.decision.Decision.{Decision}
use Rattle.peer_cases.specs.declared.pieces.SizedPiece.{SizedPiece}
use Rattle.peer_cases.specs.declared.room.FaceRoom.{FaceRoom}
use Rattle.peer_cases.specs.Arrivals.{Came}
use Rattle.peer_cases.specs.Cases.{is_unreported}
use Rattle.peer_cases.specs.Laws.{IsAlone, judgement_of, octets_of_piece}
use Rattle.peer_cases.specs.Rows.{Item, a_bundle, an_end, came_in, items_of}
use Rattle.peer_cases.proofs.BeforeLemmas.{decided_as_before, finds}
use Rattle.peer_cases.proofs.PlainLemmas.{plainly}
use Rattle.peer_sessions.specs.Keys.{FaceKeys}
use Rattle.peer_sessions.specs.Sessions.{SessionsStep, ticks}
use Rattle.peer_gateway.specs.Keys.{PeerSetup}
use Rattle.peer_gateway.specs.Gate.{AddedAt, FaceTold, PeerGate, PeerMoments, PeerStep, and_then, in_turn, room_at, stays_so, tells, told_unreported}
use Rattle.peer_gateway.specs.Going.{adds, due, go_on, piece_at}
use Rattle.peer_gateway.specs.Steps as steps
use Rattle.peer_gateway.specs.Steps.{adds_all, answers, arrives_peer, arrives_with, decided_at, decides, due_if, has_ended, hears_at, next_if, passes, passes_came, passes_item, report_piece, reports, tells_left, ticks_face, ticks_peer}
use Rattle.peer_serve_laws.specs.Sessions.{HasPlace, HearsFreely, IsSmall, PassesFreely, StepsAlike, party_with}
use Rattle.peer_serve_laws.specs.Steps.{AllTaken, AreOneMoment, ComesFreely, HaveSessions, IsFaceOf, IsGateOf, IsOneOrNone, IsPlainFace, IsPlainSetup, IsTaken, IsTakenCase, PassFreely, SendsAlike, StepsSendAlike, plain_setup}
use Rattle.peer_serve_laws.proofs.SessionLemmas.{sessions-alike}
use Rattle.peer_serve_laws.proofs.DecisionLemmas.{also-taken, decision-same, nothing-left, reads-one, room-number}
use Rattle.peer_serve_laws.proofs.SendLemmas.{IsOpen, adds-alike, adds-one, begun_by, fault-none, sends-is}

-- ---- one step, and then another

then-alike : (s : PeerSetup) (first : PeerStep) (next : PeerGate → PeerStep) (its : GateStep) (later : Gate → GateStep) → SendsAlike s first its
    → SendsAlike s (next first.gate) (later its.gate) → SendsAlike s (and_then first next) (serve.and_then its later)
unfolding and_then serve.and_then
then-alike s first next its later mine more = record { out = rw (mine.out, more.out) refl; gate = more.gate }

-- what is told with both was told with each
all-parts : {X : Type 0} (P : X → Type 0) (xs ys : List X) → AllByRecursion P (xs ++ ys) → AllByRecursion P xs × AllByRecursion P ys
all-parts P [] ys all = (tt, all)
all-parts P (x ∷ xs) ys (here, all) = let rest = all-parts P xs ys all in ((here, rest.0), rest.1)

told-parts : (xs ys : List FaceTold) → AllTaken (xs ++ ys) → AllTaken xs × AllTaken ys
told-parts xs ys all = all-parts (λ (t : FaceTold). IsTaken t.told) xs ys all

-- ---- sessions

-- at each face of the gate of `serve` sessions are free for so many pieces
abbrev HaveFree : Gate → ℕ → Type 0
HaveFree h pieces = (at : Face) → length (at_face h.engines at).senders + pieces ≤ 64

-- no more sessions are being sent than by so many
abbrev GrowsBy : ℕ → Gate → Gate → Type 0
GrowsBy pieces before after_it = (at : Face) → length (at_face after_it.engines at).senders ≤ length (at_face before.engines at).senders + pieces

free-first : (h : Gate) (m n : ℕ) → HaveFree h (m + n) → HaveFree h m
free-first h m n free at = let is = free at in omega (arith, is)

free-then : (h k : Gate) (m n : ℕ) → GrowsBy m h k → HaveFree h (m + n) → HaveFree k n
free-then h k m n grows free at = let is = free at in let few = grows at in omega (arith, is, few)

free-same : (h : Gate) (m n : ℕ) → m ≡ n → HaveFree h m → HaveFree h n
free-same h m n same free = subst (HaveFree h) same free

grows-not : (h : Gate) → GrowsBy 0 h h
grows-not h at = omega arith

grows-both : (h k l : Gate) (m n : ℕ) → GrowsBy m h k → GrowsBy n k l → GrowsBy (m + n) h l
grows-both h k l m n before later at = let first = before at in let second = later at in omega (arith, first, second)

-- a step sends the same, and no more sessions than it adds pieces
record Goes (s : PeerSetup) (h : Gate) (step : PeerStep) (its : GateStep) : Type 0 where
  alike : SendsAlike s step its
  grows : GrowsBy (length step.effects.added) h its.gate

-- ---- pieces

-- an engine has sessions and numbers for so many blocks more
record HasOpen (e : Engine) (more : ℕ) : Type 0 where
  sessions : length e.senders + more ≤ 64
  numbers : e.next + more ≤ 2 ^ 32

grows : (n : ℕ) (change : Change Sending) (senders : List (ℕ × Sending)) → length (settled n change senders) ≤ length senders + 1
grows n stays senders = omega arith
grows n (keeps sending) senders = length-put n sending senders
grows n ends senders = omega (arith, length-without n senders)

open-then : (s : PeerSetup) (k : FaceKeys) (face : Face) (now : ℕ) (block : List ℕ) (h : Gate) (more : ℕ) → at_face (plain_setup s).parties face ≡ party_with k 65536 → IsPlainFace k
    → IsBlock block → HasOpen (at_face h.engines face) (suc more) → HasOpen (at_face (sends_at (plain_setup s) face now block h).gate.engines face) more
open-then s k face now block h more party plain is open_is =
    subst (λ (step : GateStep). HasOpen (at_face step.gate.engines face) more)
    (sym (sends-is (plain_setup s) k 65536 face now block h party
    (fault-none k 65536 (at_face h.engines face) block plain (record { sessions = omega (arith, open_is.sessions); number = omega (arith, open_is.numbers) }) is)))
    (by face open_is)
  where
    by : (f : Face) → HasOpen (at_face h.engines f) (suc more) → HasOpen (at_face (does_at f h (begun_by k (at_face h.engines f) block now)).gate.engines f) more
    by faces.Old open_so = record {
      sessions = let few = grows h.engines.0.next (begin (k.party).policy h.engines.0.next block (length block) now).next h.engines.0.senders in omega (arith, few, open_so.sessions);
      numbers = omega (arith, open_so.numbers);
    }
    by faces.New open_so = record {
      sessions = let few = grows h.engines.1.next (begin (k.party).policy h.engines.1.next block (length block) now).next h.engines.1.senders in omega (arith, few, open_so.sessions);
      numbers = omega (arith, open_so.numbers);
    }

grows-done : (k : FaceKeys) (face : Face) (block : List ℕ) (now : ℕ) (h : Gate) → GrowsBy 1 h (does_at face h (begun_by k (at_face h.engines face) block now)).gate
grows-done k faces.Old block now h faces.Old = grows h.engines.0.next (begin (k.party).policy h.engines.0.next block (length block) now).next h.engines.0.senders
grows-done k faces.Old block now h faces.New = omega arith
grows-done k faces.New block now h faces.Old = omega arith
grows-done k faces.New block now h faces.New = grows h.engines.1.next (begin (k.party).policy h.engines.1.next block (length block) now).next h.engines.1.senders

grows-sent : (s : PeerSetup) (k : FaceKeys) (face : Face) (now : ℕ) (block : List ℕ) (h : Gate) → at_face (plain_setup s).parties face ≡ party_with k 65536 → IsPlainFace k
    → IsBlock block → IsOpen (at_face h.engines face) → GrowsBy 1 h (sends_at (plain_setup s) face now block h).gate
grows-sent s k face now block h party plain is open_is =
    subst (λ (step : GateStep). GrowsBy 1 h step.gate)
    (sym (sends-is (plain_setup s) k 65536 face now block h party (fault-none k 65536 (at_face h.engines face) block plain open_is is)))
    (grows-done k face block now h)

-- who is at a face
plain-at : (s : PeerSetup) (face : Face) → IsPlainSetup s → IsPlainFace (at_face s.keys face)
plain-at s faces.Old plain = plain.old
plain-at s faces.New plain = plain.new

party-at : (s : PeerSetup) (face : Face) → at_face (plain_setup s).parties face ≡ party_with (at_face s.keys face) 65536
party-at s faces.Old = refl
party-at s faces.New = refl

record PiecesGo (s : PeerSetup) (face : Face) (m : PeerMoments) (now : ℕ) (pieces : List SizedPiece) (g : PeerGate) (h : Gate) : Type 0 where
  alike : SendsAlike s (adds_all s face m pieces g) (serve.in_turn (sends_at (plain_setup s) face now) (map octets_of_piece pieces) h)
  grows_by : GrowsBy (length pieces) h (serve.in_turn (sends_at (plain_setup s) face now) (map octets_of_piece pieces) h).gate

pieces-alike : (s : PeerSetup) (face : Face) (m : PeerMoments) (now : ℕ) (pieces : List SizedPiece) (g : PeerGate) (h : Gate) → IsPlainSetup s → AreOneMoment m now → IsGateOf s h g
    → HasOpen (at_face h.engines face) (length pieces) → All IsBlock (map octets_of_piece pieces) → PiecesGo s face m now pieces g h
unfolding in_turn serve.in_turn serve.and_then
pieces-alike s face m now [] g h plain moment of open_is blocks = record { alike = record { out = refl; gate = of }; grows_by = grows-not h }
pieces-alike s face m now (piece ∷ pieces) g h plain moment of open_is blocks =
    let block : IsBlock piece.octets = All-head IsBlock piece.octets (map octets_of_piece pieces) blocks in
    let one : IsOpen (at_face h.engines face) = record { sessions = omega (arith, open_is.sessions); number = omega (arith, open_is.numbers) } in
    let first = adds-alike s face m now false (piece_at m face piece) g h plain moment of one block in
    let sent : Gate = (sends_at (plain_setup s) face now piece.octets h).gate in
    let rest = pieces-alike s face m now pieces (adds s face m false (piece_at m face piece) g).gate sent plain moment first.gate
    (open-then s (at_face s.keys face) face now piece.octets h (length pieces) (party-at s face) (plain-at s face plain) block open_is)
    (All-tail IsBlock piece.octets (map octets_of_piece pieces) blocks) in
    let grown = grows-sent s (at_face s.keys face) face now piece.octets h (party-at s face) (plain-at s face plain) block one in
    record {
      alike = then-alike s (adds s face m false (piece_at m face piece) g) (adds_all s face m pieces) (sends_at (plain_setup s) face now piece.octets h)
          (serve.in_turn (sends_at (plain_setup s) face now) (map octets_of_piece pieces)) first rest.alike;
      grows_by = λ at. let first_is = grown at in let more = rest.grows_by at in omega (arith, first_is, more);
    }

-- as many are added as there are
pieces-added : (s : PeerSetup) (face : Face) (m : PeerMoments) (pieces : List SizedPiece) (g : PeerGate) → length (adds_all s face m pieces g).effects.added ≡ length pieces
unfolding in_turn and_then
pieces-added s face m [] g = refl
pieces-added s face m (piece ∷ pieces) g =
    let rest = pieces-added s face m pieces (adds s face m false (piece_at m face piece) g).gate in
    length-append (adds s face m false (piece_at m face piece) g).effects.added (adds_all s face m pieces (adds s face m false (piece_at m face piece) g).gate).effects.added
    ∙ (ap (λ (n : ℕ). n + length (adds_all s face m pieces (adds s face m false (piece_at m face piece) g).gate).effects.added) (adds-one s face m false (piece_at m face piece) g)
    ∙ (ap (λ (n : ℕ). 1 + n) rest ∙ omega arith))

-- ---- a report

report-some : (gate : Endpoint) (counter now : ℕ) (asked : AskedReport) → 0 < length (status_bundle gate counter now asked)
unfolding status_bundle six.canon6 six.primary_octets seven.octets7
report-some gate counter now asked = by asked.creation where
  by : (creation : Creation) → 0 < length (status_octets gate counter now asked creation)
  by (Six subject) = omega arith
  by (Seven subject) = omega arith

report-small : (room : FaceRoom) (size : ℕ) → has_room room.bounds room.load (size ∷ []) ≡ true → size ≤ 4194304
unfolding has_room
report-small room size is = by (nat_le size 4194304) refl is where
  by : (t : Bool) → nat_le size 4194304 ≡ t → ((t && true) && is_within room.bounds (with_pieces room.bounds room.load (size ∷ []))) ≡ true → size ≤ 4194304
  by true low is = grind (arith, nat_tests)
  by false high is = absurd (cc (is))

-- a face at which no piece waits
room-alone : (s : PeerSetup) (face : Face) (g : PeerGate) (h : Gate) → IsPlainSetup s → IsGateOf s h g → IsAlone (room_at (at_face s.keys face) (at_face g.faces face))
unfolding with_sizes
room-alone s faces.Old g h plain of = record {
  wanted = plain.old.alone;
  waiting = ap (λ (x : GatheringValue). with_sizes (s.keys.0.bounds).wanted no_blocks (sizes_of x.waiting)) of.old.pieces;
}
room-alone s faces.New g h plain of = record {
  wanted = plain.new.alone;
  waiting = ap (λ (x : GatheringValue). with_sizes (s.keys.1.bounds).wanted no_blocks (sizes_of x.waiting)) of.new.pieces;
}

next-same : (s : PeerSetup) (face : Face) (g : PeerGate) (h : Gate) → IsGateOf s h g → (((at_face g.faces face).sessions).engine).next ≡ (at_face h.engines face).next
next-same s faces.Old g h of = ap (λ (e : Engine). e.next) of.old.sessions.engine
next-same s faces.New g h of = ap (λ (e : Engine). e.next) of.new.sessions.engine

-- where this gate has room for a report, and a session is free, the gate of `serve` has too
record CanReport (h : Gate) (face : Face) (now size : ℕ) : Type 0 where
  reported : serve.is_unreported face now h ≡ false
  open_is : IsOpen (at_face h.engines face)
  small : size ≤ 4194304

above : (a b : ℕ) → b < a → nat_le a b ≡ false
above a b few = grind (arith, nat_tests)

can-report : (s : PeerSetup) (face : Face) (size wall now : ℕ) (g : PeerGate) (h : Gate) → IsPlainSetup s → IsGateOf s h g → wall ≡ now
    → is_unreported (room_at (at_face s.keys face) (at_face g.faces face)) size wall g.counter ≡ false → length (at_face h.engines face).senders + 1 ≤ 64
    → CanReport h face now size
can-report s face size wall now g h plain of same is few =
    let room = room_at (at_face s.keys face) (at_face g.faces face) in
    by (has_room room.bounds room.load (size ∷ [])) refl (nat_lt wall 1000) refl (nat_le 4294967296 g.counter) refl is
  where
    by : (r : Bool) → has_room (room_at (at_face s.keys face) (at_face g.faces face)).bounds (room_at (at_face s.keys face) (at_face g.faces face)).load (size ∷ []) ≡ r
        → (early : Bool) → nat_lt wall 1000 ≡ early → (spent : Bool) → nat_le 4294967296 g.counter ≡ spent → (not r || early || spent) ≡ false → CanReport h face now size
    by true has false early false spent is =
        let number = room-number (room_at (at_face s.keys face) (at_face g.faces face)) size (room-alone s face g h plain of) has in
        let next : (at_face h.engines face).next + 1 ≤ 4294967296 = subst (λ (n : ℕ). n + 1 ≤ 4294967296) (next-same s face g h of) number in
        record {
          reported = rw (
            above 64 (length (at_face h.engines face).senders) (omega (arith, few)),
            above (2 ^ 32) (at_face h.engines face).next (omega (arith, next)),
            subst (λ (t : ℕ). nat_lt t 1000 ≡ false) same early,
            subst (λ (n : ℕ). nat_le 4294967296 n ≡ false) of.counter spent,
          ) refl;
          open_is = record { sessions = omega (arith, few); number = omega (arith, next) };
          small = report-small (room_at (at_face s.keys face) (at_face g.faces face)) size has;
        }
    by true has false early true spent is = absurd (cc (is))
    by true has true early spent_is spent is = absurd (cc (is))
    by false has early_is early spent_is spent is = absurd (cc (is))

reports-one : (s : PeerSetup) (face : Face) (m : PeerMoments) (index : Option ℕ) (session : ℕ) (piece : SizedPiece) (g : PeerGate)
    → length (reports s face m index session piece g).effects.added ≡ 1
unfolding and_then
reports-one s face m index session piece g =
    let first = adds s face m true (piece_at m face piece) (record g { counter = g.counter + 1 }) in
    ap (λ (added : List AddedAt). length added) (append-nil first.effects.added) ∙ adds-one s face m true (piece_at m face piece) (record g { counter = g.counter + 1 })

reports-alike : (s : PeerSetup) (face : Face) (m : PeerMoments) (now : ℕ) (index : Option ℕ) (session : ℕ) (asked : AskedReport) (g : PeerGate) (h : Gate) → IsPlainSetup s
    → AreOneMoment m now → IsGateOf s h g → IsOpen (at_face h.engines face) → length (status_bundle s.gate g.counter m.wall asked) ≤ 4194304
    → Goes s h (reports s face m index session (report_piece s m asked g) g) (serve.reports_at (plain_setup s) face now session asked h)
unfolding and_then serve.and_then
reports-alike s face m now index session asked g h plain moment of open_is small =
    let block : List ℕ = status_bundle s.gate g.counter m.wall asked in
    let same : block ≡ status_bundle s.gate h.counter now asked =
    ap (λ (n : ℕ). status_bundle s.gate n m.wall asked) of.counter ∙ ap (λ (t : ℕ). status_bundle s.gate h.counter t asked) moment.wall in
    let mine : PeerGate = record g { counter = g.counter + 1 } in
    let its : Gate = record h { counter = h.counter + 1 } in
    let piece : Piece = piece_at m face (report_piece s m asked g) in
    let fits : IsBlock block = record { some = report-some s.gate g.counter m.wall asked; small = small } in
    let sent : SendsAlike s (adds s face m true piece mine) (sends_at (plain_setup s) face now (status_bundle s.gate h.counter now asked) its) =
    subst (λ (b : List ℕ). SendsAlike s (adds s face m true piece mine) (sends_at (plain_setup s) face now b its)) same
    (adds-alike s face m now true piece mine its plain moment
    (record { old = record { sessions = of.old.sessions; pieces = of.old.pieces }; new = record { sessions = of.new.sessions; pieces = of.new.pieces }; counter = ap (λ (n : ℕ). n + 1) of.counter })
    (by-face face open_is) fits) in
    let grown : GrowsBy 1 its (sends_at (plain_setup s) face now (status_bundle s.gate h.counter now asked) its).gate =
    grows-sent s (at_face s.keys face) face now (status_bundle s.gate h.counter now asked) its (party-at s face) (plain-at s face plain) (subst IsBlock same fits) (by-face face open_is) in
    let count : length ((adds s face m true piece mine).effects.added ++ []) ≡ 1 =
    ap (λ (added : List AddedAt). length added) (append-nil (adds s face m true piece mine).effects.added) ∙ adds-one s face m true piece mine in
    record {
      alike = record { out = ap (λ (out : List serve.RoutedValue). out ++ []) sent.out; gate = sent.gate };
      grows = λ at. let few = by-grown at (grown at) in omega (arith, few, count);
    }
  where
    by-face : (f : Face) → IsOpen (at_face h.engines f) → IsOpen (at_face (record h { counter = h.counter + 1 }).engines f)
    by-face f open_so = open_so

    by-grown : {n : ℕ} (f : Face) → n ≤ length (at_face (record h { counter = h.counter + 1 }).engines f).senders + 1 → n ≤ length (at_face h.engines f).senders + 1
    by-grown f few = few

answers-alike : (s : PeerSetup) (face : Face) (m : PeerMoments) (now : ℕ) (index : Option ℕ) (session : ℕ) (report : Option AskedReport) (g : PeerGate) (h : Gate) → IsPlainSetup s
    → AreOneMoment m now → IsGateOf s h g → AllTaken (answers s face m index session report g).effects.told
    → HaveFree h (length (answers s face m index session report g).effects.added)
    → Goes s h (answers s face m index session report g) (serve.answers_at (plain_setup s) face now session report h)
unfolding answers answers_at
answers-alike s face m now index session None g h plain moment of told free = record { alike = record { out = refl; gate = of }; grows = grows-not h }
answers-alike s face m now index session (Some asked) g h plain moment of told free =
    by (is_unreported (room_at (at_face s.keys face) (at_face g.faces face)) (report_piece s m asked g).size m.wall g.counter) refl told free
  where
    piece : SizedPiece
    piece = report_piece s m asked g

    its : Bool → GateStep
    its unreported = if unreported then noted_at face (notes.Unreported session) h else serve.reports_at (plain_setup s) face now session asked h

    count : length (reports s face m index session piece g).effects.added ≡ 1
    count = reports-one s face m index session piece g

    by : (mine : Bool) → is_unreported (room_at (at_face s.keys face) (at_face g.faces face)) piece.size m.wall g.counter ≡ mine
        → AllTaken (if mine then tells face (told_unreported index session) g else reports s face m index session piece g).effects.told
        → HaveFree h (length (if mine then tells face (told_unreported index session) g else reports s face m index session piece g).effects.added)
        → Goes s h (if mine then tells face (told_unreported index session) g else reports s face m index session piece g) (its (serve.is_unreported face now h))
    by true is told free = absurd told.0
    by false is told free =
        let can = can-report s face piece.size m.wall now g h plain of moment.wall is (let room = free face in omega (arith, room, count)) in
        subst (λ (unreported : Bool). Goes s h (reports s face m index session piece g) (its unreported)) (sym can.reported)
        (reports-alike s face m now index session asked g h plain moment of can.open_is can.small)

-- ---- what is decided

pieces-none : (s : PeerSetup) (face : Face) (m : PeerMoments) (now : ℕ) (pieces : List SizedPiece) (g : PeerGate) (h : Gate) → IsGateOf s h g → map octets_of_piece pieces ≡ []
    → PiecesGo s face m now pieces g h
unfolding in_turn serve.in_turn
pieces-none s face m now [] g h of none = record { alike = record { out = refl; gate = of }; grows_by = grows-not h }
pieces-none s face m now (piece ∷ pieces) g h of none = absurd (cc (none))

-- none goes on, or there is a session for each
abbrev CanGoOn : Engine → List SizedPiece → Type 0
CanGoOn e pieces = (map octets_of_piece pieces ≡ []) ⊎ (HasOpen e (length pieces) × All IsBlock (map octets_of_piece pieces))

pieces-go : (s : PeerSetup) (face : Face) (m : PeerMoments) (now : ℕ) (pieces : List SizedPiece) (g : PeerGate) (h : Gate) → IsPlainSetup s → AreOneMoment m now → IsGateOf s h g
    → CanGoOn (at_face h.engines face) pieces → PiecesGo s face m now pieces g h
pieces-go s face m now pieces g h plain moment of (inl none) = pieces-none s face m now pieces g h of none
pieces-go s face m now pieces g h plain moment of (inr can) = pieces-alike s face m now pieces g h plain moment of can.0 can.1

abbrev decision_of : GateCase → List SizedPiece → Option AskedReport → Decision
decision_of case pieces report = record { case = case; pieces = pieces; report = report; left = None }

abbrev judgement_with : GateCase → List SizedPiece → Option AskedReport → Judged
judgement_with case pieces report = record { case = case; pieces = map octets_of_piece pieces; report = report }

-- what a decision adds: its pieces, and its report
record DecisionAdds (s : PeerSetup) (face : Face) (m : PeerMoments) (index : Option ℕ) (session : ℕ) (d : Decision) (g : PeerGate) : Type 0 where
  after_pieces : PeerGate
  is : after_pieces ≡ (adds_all s (other_of face) m d.pieces g).gate
  count : length (decides s face m index session d g).effects.added ≡ length d.pieces + length (answers s face m index session d.report after_pieces).effects.added

decision-adds : (s : PeerSetup) (face : Face) (m : PeerMoments) (index : Option ℕ) (session : ℕ) (case : GateCase) (pieces : List SizedPiece) (report : Option AskedReport) (g : PeerGate)
    → DecisionAdds s face m index session (decision_of case pieces report) g
unfolding decides and_then
decision-adds s face m index session case pieces report g =
    let first = adds_all s (other_of face) m pieces g in
    let last = answers s face m index session report first.gate in
    record {
      after_pieces = first.gate;
      is = refl;
      count = length-append first.effects.added last.effects.added
          ∙ ap (λ (n : ℕ). n + length last.effects.added) (pieces-added s (other_of face) m pieces g);
    }

decides-alike : (s : PeerSetup) (face : Face) (m : PeerMoments) (now : ℕ) (index : Option ℕ) (session : ℕ) (case : GateCase) (pieces : List SizedPiece) (report : Option AskedReport)
    → (g : PeerGate) (h : Gate) → IsPlainSetup s → AreOneMoment m now → IsGateOf s h g → CanGoOn (at_face h.engines (other_of face)) pieces
    → AllTaken (decides s face m index session (decision_of case pieces report) g).effects.told
    → HaveFree h (length (decides s face m index session (decision_of case pieces report) g).effects.added)
    → Goes s h (decides s face m index session (decision_of case pieces report) g) (serve.decides_at (plain_setup s) face now session (judgement_with case pieces report) h)
unfolding decides decides_at and_then serve.and_then
decides-alike s face m now index session case pieces report g h plain moment of can told free =
    let to : Face = other_of face in
    let first = pieces-go s to m now pieces g h plain moment of can in
    let adds_both = adds_all s to m pieces g in
    let g1 : PeerGate = adds_both.gate in
    let h1 : Gate = (serve.in_turn (sends_at (plain_setup s) to now) (map octets_of_piece pieces) h).gate in
    let reporting = answers s face m index session report g1 in
    let told_then = told-parts adds_both.effects.told _ told in
    let count : length (adds_both.effects.added ++ reporting.effects.added) ≡ length pieces + length reporting.effects.added =
    length-append adds_both.effects.added reporting.effects.added ∙ ap (λ (n : ℕ). n + length reporting.effects.added) (pieces-added s to m pieces g) in
    let free_both : HaveFree h (length pieces + length reporting.effects.added) =
    free-same h (length (adds_both.effects.added ++ reporting.effects.added)) (length pieces + length reporting.effects.added) count free in
    let last = answers-alike s face m now index session report g1 h1 plain moment first.alike.gate told_then.1.1
    (free-then h h1 (length pieces) (length reporting.effects.added) first.grows_by free_both) in
    record {
      alike = record { out = rw (first.alike.out, last.alike.out) refl; gate = last.alike.gate };
      grows = λ at. let all = grows-both h h1 (serve.answers_at (plain_setup s) face now session report h1).gate (length pieces) (length reporting.effects.added) first.grows_by last.grows at in omega (arith, all, count);
    }

-- ---- a block

passed-or-none : (face : Face) (block : List ℕ) (now cut : ℕ) (room : Room) → ((judged face block now cut room).case ≡ cases.Passed) ⊎ ((judged face block now cut room).pieces ≡ [])
unfolding judged
passed-or-none face block now cut room = by (found_at face block) (before.case_of face (found_at face block) now cut room) where
  by : (found : Found) (case : GateCase) → ((before.judgement_of face found cut case).case ≡ cases.Passed) ⊎ ((before.judgement_of face found cut case).pieces ≡ [])
  by (bad at cause) case = inr refl
  by (one arrival) (cases.BadBundle at cause) = inr refl
  by (one arrival) (cases.Untranslated cause) = inr refl
  by (one arrival) cases.Expired = inr refl
  by (one arrival) cases.HopLimit = inr refl
  by (one arrival) cases.Storage = inr refl
  by (one arrival) cases.Passed = inl refl

-- what is judged about a block
abbrev judgement : PeerSetup → Face → ℕ → List ℕ → Gate → Judged
judgement s face now block h = judged face block now s.cut (serve.room_of (at_face h.engines (other_of face)))

can-go : (s : PeerSetup) (face : Face) (now : ℕ) (block : List ℕ) (h : Gate) (pieces : List SizedPiece) → map octets_of_piece pieces ≡ (judgement s face now block h).pieces
    → CanGoOn (at_face h.engines (other_of face)) pieces
can-go s face now block h pieces same = by (passed-or-none face block now s.cut (serve.room_of (at_face h.engines (other_of face)))) where
  e : Engine
  e = at_face h.engines (other_of face)

  count : length (map octets_of_piece pieces) ≡ length pieces
  count = length-map pieces octets_of_piece

  by : ((judgement s face now block h).case ≡ cases.Passed) ⊎ ((judgement s face now block h).pieces ≡ []) → CanGoOn e pieces
  by (inr none) = inl (same ∙ none)
  by (inl passed) =
      let room = pieces-have-room face block now s.cut (serve.room_of e) passed in
      let as_mine : HaveRoom (serve.room_of e) (map octets_of_piece pieces) = subst (λ (ps : List (List ℕ)). HaveRoom (serve.room_of e) ps) (sym same) room in
      inr (record { sessions = omega (arith, as_mine.sessions, count); numbers = omega (arith, as_mine.numbers, count) }, as_mine.blocks)

case-told : (s : PeerSetup) (face : Face) (m : PeerMoments) (index : Option ℕ) (session : ℕ) (d : Decision) (g : PeerGate)
    → AllTaken (decides s face m index session (decision_of d.case d.pieces d.report) g).effects.told → IsTakenCase d.case
unfolding decides and_then
case-told s face m index session d g told = (told-parts (adds_all s (other_of face) m d.pieces g).effects.told _ told).1.0

-- about a bundle
bundle-alike : (s : PeerSetup) (face : Face) (m : PeerMoments) (now : ℕ) (index : Option ℕ) (session : ℕ) (block : List ℕ) (arrival : Arrival) (g : PeerGate) (h : Gate) → IsPlainSetup s
    → AreOneMoment m now → IsGateOf s h g → found_at face block ≡ one arrival
    → AllTaken (decides s face m index session (decided_at s face m (plainly arrival) g) g).effects.told
    → HaveFree h (length (decides s face m index session (decided_at s face m (plainly arrival) g) g).effects.added)
    → Goes s h (decides s face m index session (decided_at s face m (plainly arrival) g) g) (serve.decides_at (plain_setup s) face now session (judgement s face now block h) h)
bundle-alike s face m now index session block arrival g h plain moment of found told free =
    let d : Decision = decided_at s face m (plainly arrival) g in
    let j : Judged = judgement s face now block h in
    let bare : d ≡ decision_of d.case d.pieces d.report = ap (λ (left : Option LeftOut). record d { left = left }) (nothing-left s.settings face arrival m.wall s.cut _) in
    let told_so : AllTaken (decides s face m index session (decision_of d.case d.pieces d.report) g).effects.told =
    subst (λ (x : Decision). AllTaken (decides s face m index session x g).effects.told) bare told in
    let free_so : HaveFree h (length (decides s face m index session (decision_of d.case d.pieces d.report) g).effects.added) =
    subst (λ (x : Decision). HaveFree h (length (decides s face m index session x g).effects.added)) bare free in
    let adds_so = decision-adds s face m index session d.case d.pieces d.report g in
    let fits : length (at_face h.engines (other_of face)).senders + length d.pieces ≤ 64 = (let room = free_so (other_of face) in let count = adds_so.count in omega (arith, room, count)) in
    let same : judgement_of d ≡ j = same-here (case-told s face m index session d g told_so) fits in
    let can = can-go s face now block h d.pieces (ap (λ (x : Judged). x.pieces) same) in
    subst (λ (x : Decision). Goes s h (decides s face m index session x g) (serve.decides_at (plain_setup s) face now session j h)) (sym bare)
    (subst (λ (x : Judged). Goes s h (decides s face m index session (decision_of d.case d.pieces d.report) g) (serve.decides_at (plain_setup s) face now session x h)) same
    (decides-alike s face m now index session d.case d.pieces d.report g h plain moment of can told_so free_so))
  where
    to : Face
    to = other_of face

    room : FaceRoom
    room = room_at (at_face s.keys to) (at_face g.faces to)

    same-here : IsTakenCase (decided_at s face m (plainly arrival) g).case → length (at_face h.engines to).senders + length (decided_at s face m (plainly arrival) g).pieces ≤ 64
        → judgement_of (decided_at s face m (plainly arrival) g) ≡ judgement s face now block h
    same-here mine few =
        let also = also-taken s.settings face block m.wall s.cut (length (at_face h.engines to).senders) room arrival plain.settings (room-alone s to g h plain of) found mine few in
        let at_room : IsTakenCase (judgement s face m.wall block h).case =
        subst (λ (n : ℕ). IsTakenCase (judged face block m.wall s.cut (record { sending = length (at_face h.engines to).senders; next_session = n })).case) (next-same s to g h of) also in
        decision-same s.settings face block m.wall s.cut room (serve.room_of (at_face h.engines to)) arrival plain.settings found mine at_room
        ∙ ap (λ (t : ℕ). judgement s face t block h) moment.wall

-- a face at which pieces go alone, and none waits
abbrev alone_room : FaceKeys → FaceRoom
alone_room k = record { bounds = k.bounds; load = record { next_session = 0; kept = 0; waiting = no_blocks } }

is-alone : (k : FaceKeys) → IsPlainFace k → IsAlone (alone_room k)
is-alone k plain = record { wanted = plain.alone; waiting = refl }

-- what stands in a block
item-one : (s : PeerSetup) (face : Face) (up : UpValue) (extent : Extent) → IsPlainSetup s → IsOneOrNone face up → row_of face up.body ≡ record { bundles = extent ∷ []; end = None }
    → items_of face up.body ≡ a_bundle None up.body ∷ []
item-one s face up extent plain block is =
    ((decided_as_before s.settings face up.body 0 0 (alone_room s.keys.0) 0 plain.settings (is-alone s.keys.0 plain.old) block.octets block.some).one extent is).0

item-none : (s : PeerSetup) (face : Face) (up : UpValue) (end : End) → IsPlainSetup s → IsOneOrNone face up → row_of face up.body ≡ record { bundles = []; end = Some end }
    → items_of face up.body ≡ an_end None end ∷ []
item-none s face up end plain block is =
    ((decided_as_before s.settings face up.body 0 0 (alone_room s.keys.0) 0 plain.settings (is-alone s.keys.0 plain.old) block.octets block.some).none end is).0

-- a block of a bundle, by which pieces go, and one of none
passes-one : (s : PeerSetup) (face : Face) (m : PeerMoments) (now : ℕ) (session : ℕ) (block : List ℕ) (arrival : Arrival) (g : PeerGate) (h : Gate) → IsPlainSetup s → AreOneMoment m now
    → IsGateOf s h g → found_at face block ≡ one arrival
    → AllTaken (in_turn (passes_item s face m session) (a_bundle None block ∷ []) g).effects.told
    → HaveFree h (length (in_turn (passes_item s face m session) (a_bundle None block ∷ []) g).effects.added)
    → Goes s h (in_turn (passes_item s face m session) (a_bundle None block ∷ []) g) (serve.decides_at (plain_setup s) face now session (judgement s face now block h) h)
unfolding in_turn and_then
passes-one s face m now session block arrival g h plain moment of found told free =
    let read = reads-one s.settings face block arrival plain.settings found in
    let step : Option Came → PeerStep = λ came. passes_came s face m None session came g in
    let its : GateStep = serve.decides_at (plain_setup s) face now session (judgement s face now block h) h in
    let whole = append-nil (step (came_in s.settings face block)).effects.added in
    let told_so : AllTaken (step (Some (plainly arrival))).effects.told =
    subst (λ (came : Option Came). AllTaken (step came).effects.told) read (told-parts (step (came_in s.settings face block)).effects.told [] told.1).0 in
    let free_so : HaveFree h (length (step (Some (plainly arrival))).effects.added) =
    subst (λ (came : Option Came). HaveFree h (length (step came).effects.added)) read (subst (λ (added : List AddedAt). HaveFree h (length added)) whole free) in
    let done = bundle-alike s face m now None session block arrival g h plain moment of found told_so free_so in
    let back = subst (λ (came : Option Came). Goes s h (step came) its) (sym read) done in
    record {
      alike = record { out = append-nil (step (came_in s.settings face block)).effects.out ∙ back.alike.out; gate = back.alike.gate };
      grows = subst (λ (added : List AddedAt). GrowsBy (length added) h its.gate) (sym whole) back.grows;
    }

bad-judged : (face : Face) (block : List ℕ) (now cut : ℕ) (room : Room) (end : End) → found_at face block ≡ bad end.at end.cause
    → judged face block now cut room ≡ record { case = cases.BadBundle end.at end.cause; pieces = []; report = None }
unfolding judged before.case_of
bad-judged face block now cut room end is = rw is refl

passes-none : (s : PeerSetup) (face : Face) (m : PeerMoments) (now : ℕ) (session : ℕ) (block : List ℕ) (end : End) (g : PeerGate) (h : Gate) → IsGateOf s h g
    → found_at face block ≡ bad end.at end.cause
    → Goes s h (in_turn (passes_item s face m session) (an_end None end ∷ []) g) (serve.decides_at (plain_setup s) face now session (judgement s face now block h) h)
unfolding in_turn and_then decides_at answers_at serve.in_turn serve.and_then
passes-none s face m now session block end g h of found =
    subst (λ (j : Judged). Goes s h (in_turn (passes_item s face m session) (an_end None end ∷ []) g) (serve.decides_at (plain_setup s) face now session j h))
    (sym (bad-judged face block now s.cut (serve.room_of (at_face h.engines (other_of face))) end found)) (record { alike = record { out = refl; gate = of }; grows = grows-not h })

block-alike : (s : PeerSetup) (face : Face) (m : PeerMoments) (now : ℕ) (up : UpValue) (g : PeerGate) (h : Gate) → IsPlainSetup s → AreOneMoment m now → IsGateOf s h g
    → IsOneOrNone face up → AllTaken (passes s face m up g).effects.told → HaveFree h (length (passes s face m up g).effects.added)
    → Goes s h (passes s face m up g) (serve.passes_at (plain_setup s) face now up h)
block-alike s face m now up g h plain moment of block told free = by block.row where
  found : finds face up.body (row_of face up.body)
  found = reads_as_one face up.body block.octets block.some

  its : GateStep
  its = serve.passes_at (plain_setup s) face now up h

  turn : List Item → PeerStep
  turn items = in_turn (passes_item s face m up.session) items g

  by : ((extent : Extent) × (row_of face up.body ≡ record { bundles = extent ∷ []; end = None })) ⊎ ((end : End) × (row_of face up.body ≡ record { bundles = []; end = Some end }))
      → Goes s h (turn (items_of face up.body)) its
  by (inl (extent, is)) =
      let items = item-one s face up extent plain block is in
      let (arrival, one_is) = subst (finds face up.body) is found in
      subst (λ (l : List Item). Goes s h (turn l) its) (sym items)
      (passes-one s face m now up.session up.body arrival g h plain moment of one_is (subst (λ (l : List Item). AllTaken (turn l).effects.told) items told)
      (subst (λ (l : List Item). HaveFree h (length (turn l).effects.added)) items free))
  by (inr (end, is)) =
      let items = item-none s face up end plain block is in
      subst (λ (l : List Item). Goes s h (turn l) its) (sym items)
      (passes-none s face m now up.session up.body end g h of (subst (finds face up.body) is found))

blocks-alike : (s : PeerSetup) (face : Face) (m : PeerMoments) (now : ℕ) (ups : List UpValue) (g : PeerGate) (h : Gate) → IsPlainSetup s → AreOneMoment m now → IsGateOf s h g
    → AllByRecursion (IsOneOrNone face) ups → AllTaken (in_turn (passes s face m) ups g).effects.told → HaveFree h (length (in_turn (passes s face m) ups g).effects.added)
    → SendsAlike s (in_turn (passes s face m) ups g) (serve.in_turn (serve.passes_at (plain_setup s) face now) ups h)
unfolding in_turn serve.in_turn and_then serve.and_then
blocks-alike s face m now [] g h plain moment of blocks told free = record { out = refl; gate = of }
blocks-alike s face m now (up ∷ ups) g h plain moment of (block, blocks) told free =
    let one = passes s face m up g in
    let later = in_turn (passes s face m) ups one.gate in
    let its : Gate = (serve.passes_at (plain_setup s) face now up h).gate in
    let told_both = told-parts one.effects.told later.effects.told told in
    let free_both : HaveFree h (length one.effects.added + length later.effects.added) =
    free-same h (length (one.effects.added ++ later.effects.added)) (length one.effects.added + length later.effects.added) (length-append one.effects.added later.effects.added) free in
    let first = block-alike s face m now up g h plain moment of block told_both.0 (free-first h (length one.effects.added) (length later.effects.added) free_both) in
    let rest = blocks-alike s face m now ups one.gate its plain moment first.alike.gate blocks told_both.1
    (free-then h its (length one.effects.added) (length later.effects.added) first.grows free_both) in
    record { out = rw (first.alike.out, rest.out) refl; gate = rest.gate }

-- ---- events

-- what sessions did is done at their face
sessions-done : (s : PeerSetup) (face : Face) (step : SessionsStep) (its : EngineStep) (g : PeerGate) (h : Gate) → IsGateOf s h g → StepsAlike step its
    → SendsAlike s (steps.does_at s face g step) (does_at face h its)
sessions-done s faces.Old step its g h of same = record {
  out = ap (λ (e : EffectsValue). map (serve.segment_at faces.Old) e.out) same.effects;
  gate = record { old = record { sessions = same.sessions; pieces = of.old.pieces }; new = record { sessions = of.new.sessions; pieces = of.new.pieces }; counter = of.counter };
}
sessions-done s faces.New step its g h of same = record {
  out = ap (λ (e : EffectsValue). map (serve.segment_at faces.New) e.out) same.effects;
  gate = record { old = record { sessions = of.old.sessions; pieces = of.old.pieces }; new = record { sessions = same.sessions; pieces = of.new.pieces }; counter = of.counter };
}

face-of : (s : PeerSetup) (face : Face) (g : PeerGate) (h : Gate) → IsGateOf s h g → IsFaceOf (at_face s.keys face) (at_face h.engines face) (at_face g.faces face)
face-of s faces.Old g h of = of.old
face-of s faces.New g h of = of.new

-- no piece waits, so none is due
none-due : (s : PeerSetup) (m : PeerMoments) (face : Face) (g : PeerGate) (h : Gate) → IsGateOf s h g → due s m face g ≡ stays_so g
unfolding go_on
none-due s m face g h of =
    ap (λ (x : GatheringValue). go_on s face m (m.at face) (length x.waiting) g) (face-of s face g h of).pieces

none-due-if : (ended : Bool) (s : PeerSetup) (m : PeerMoments) (face : Face) (g : PeerGate) (h : Gate) → IsGateOf s h g → due_if ended s m face g ≡ stays_so g
none-due-if true s m face g h of = none-due s m face g h of
none-due-if false s m face g h of = refl

-- as the gate has it
free-of : (s : PeerSetup) (g : PeerGate) (h : Gate) (added : List AddedAt) → IsGateOf s h g → HaveSessions g added → HaveFree h (length added)
free-of s g h added of free faces.Old = subst (λ (e : Engine). length e.senders + length added ≤ 64) of.old.sessions.engine (free faces.Old)
free-of s g h added of free faces.New = subst (λ (e : Engine). length e.senders + length added ≤ 64) of.new.sessions.engine (free faces.New)

arrives-alike : (s : PeerSetup) (face : Face) (m : PeerMoments) (now : ℕ) (step : SessionsStep) (its : EngineStep) (g : PeerGate) (h : Gate) → IsPlainSetup s → AreOneMoment m now
    → IsGateOf s h g → StepsAlike step its → AllByRecursion (IsOneOrNone face) (step.effects).ups
    → AllTaken (arrives_with s face m g step).effects.told
    → HaveSessions (steps.does_at s face g step).gate (arrives_with s face m g step).effects.added
    → SendsAlike s (arrives_with s face m g step) (serve.and_then (does_at face h its) (serve.in_turn (serve.passes_at (plain_setup s) face now) its.effects.ups))
unfolding and_then serve.and_then
arrives-alike s face m now step its g h plain moment of same blocks told sending =
    let first = sessions-done s face step its g h of same in
    let g1 : PeerGate = (steps.does_at s face g step).gate in
    let h1 : Gate = (does_at face h its).gate in
    let passed_step = in_turn (passes s face m) (step.effects).ups g1 in
    let ups_same : (step.effects).ups ≡ its.effects.ups = ap (λ (e : EffectsValue). e.ups) same.effects in
    let told_then = told-parts (steps.does_at s face g step).effects.told _ told in
    let told_ups = told-parts passed_step.effects.told _ told_then.1 in
    let due_step = due_if (has_ended (at_face g.faces face).sessions step) s m face passed_step.gate in
    let free : HaveFree h1 (length (passed_step.effects.added ++ due_step.effects.added)) = free-of s g1 h1 (passed_step.effects.added ++ due_step.effects.added) first.gate sending in
    let free_both : HaveFree h1 (length passed_step.effects.added + length due_step.effects.added) =
    free-same h1 (length (passed_step.effects.added ++ due_step.effects.added)) (length passed_step.effects.added + length due_step.effects.added)
    (length-append passed_step.effects.added due_step.effects.added) free in
    let passed = blocks-alike s face m now (step.effects).ups g1 h1 plain moment first.gate blocks told_ups.0
    (free-first h1 (length passed_step.effects.added) (length due_step.effects.added) free_both) in
    let due_none = none-due-if (has_ended (at_face g.faces face).sessions step) s m face passed_step.gate (serve.in_turn (serve.passes_at (plain_setup s) face now) (step.effects).ups h1).gate passed.gate in
    subst (λ (ups : List UpValue). SendsAlike s (arrives_with s face m g step) (serve.and_then (does_at face h its) (serve.in_turn (serve.passes_at (plain_setup s) face now) ups))) ups_same
    (record {
      out = rw (first.out, passed.out, due_none, append-nil) refl;
      gate = subst (λ (x : PeerStep). IsGateOf s (serve.in_turn (serve.passes_at (plain_setup s) face now) (step.effects).ups h1).gate x.gate) (sym due_none) passed.gate;
    })

heard-at : (s : PeerSetup) (face : Face) (read : Result SegmentValue (ℕ × SegmentCause)) (m : PeerMoments) (now : ℕ) (g : PeerGate) (h : Gate) → AreOneMoment m now → IsGateOf s h g
    → IsSmall read → HearsFreely (at_face s.keys face) (at_face g.faces face).sessions read (m.at face) → HasPlace (at_face (plain_setup s).parties face) (at_face h.engines face)
    → StepsAlike (hears_at s face g read (m.at face)) (serve.hears_at (plain_setup s) face h read now)
heard-at s face read m now g h moment of small free place =
    subst (λ (p : Party). StepsAlike (hears_at s face g read (m.at face)) (datagram_step p (at_face h.engines face) read now)) (sym (party-at s face))
    (subst (λ (t : ℕ). StepsAlike (hears_at s face g read (m.at face)) (datagram_step (party_with (at_face s.keys face) 65536) (at_face h.engines face) read t)) (moment.at face)
    (sessions-alike.heard (at_face s.keys face) 65536 (at_face g.faces face).sessions (at_face h.engines face) read (m.at face) (face-of s face g h of).sessions small free
    (subst (λ (p : Party). HasPlace p (at_face h.engines face)) (party-at s face) place)))

ticked-at : (s : PeerSetup) (face : Face) (m : PeerMoments) (now : ℕ) (g : PeerGate) (h : Gate) → AreOneMoment m now → IsGateOf s h g
    → PassesFreely (at_face s.keys face) (at_face g.faces face).sessions (m.at face)
    → StepsAlike (ticks (at_face s.keys face) (at_face g.faces face).sessions (m.at face)) (tick_step (at_face (plain_setup s).parties face) (at_face h.engines face) now)
ticked-at s face m now g h moment of free =
    subst (λ (p : Party). StepsAlike (ticks (at_face s.keys face) (at_face g.faces face).sessions (m.at face)) (tick_step p (at_face h.engines face) now)) (sym (party-at s face))
    (subst (λ (t : ℕ). StepsAlike (ticks (at_face s.keys face) (at_face g.faces face).sessions (m.at face)) (tick_step (party_with (at_face s.keys face) 65536) (at_face h.engines face) t)) (moment.at face)
    (sessions-alike.ticked (at_face s.keys face) 65536 (at_face g.faces face).sessions (at_face h.engines face) (m.at face) (face-of s face g h of).sessions free))

-- a face ticks, and nothing is due
record TicksAlike (s : PeerSetup) (m : PeerMoments) (now : ℕ) (face : Face) (g : PeerGate) (h : Gate) : Type 0 where
  sends : SendsAlike s (ticks_face s m face g) (serve.ticks_at (plain_setup s) now face h)
  gate_is : (ticks_face s m face g).gate ≡ (steps.does_at s face g (ticks (at_face s.keys face) (at_face g.faces face).sessions (m.at face))).gate

face-ticks : (s : PeerSetup) (face : Face) (m : PeerMoments) (now : ℕ) (g : PeerGate) (h : Gate) → AreOneMoment m now → IsGateOf s h g
    → PassesFreely (at_face s.keys face) (at_face g.faces face).sessions (m.at face) → TicksAlike s m now face g h
unfolding and_then
face-ticks s face m now g h moment of free =
    let step : SessionsStep = ticks (at_face s.keys face) (at_face g.faces face).sessions (m.at face) in
    let its : EngineStep = tick_step (at_face (plain_setup s).parties face) (at_face h.engines face) now in
    let done = sessions-done s face step its g h of (ticked-at s face m now g h moment of free) in
    let none = none-due s m face (steps.does_at s face g step).gate (does_at face h its).gate done.gate in
    record {
      sends = record {
        out = ap (λ (x : PeerStep). (steps.does_at s face g step).effects.out ++ x.effects.out) none ∙ (append-nil (steps.does_at s face g step).effects.out ∙ done.out);
        gate = subst (λ (x : PeerStep). IsGateOf s (does_at face h its).gate x.gate) (sym none) done.gate;
      };
      gate_is = ap (λ (x : PeerStep). x.gate) none;
    }

arrival-alike : (s : PeerSetup) (face : Face) (read : Result SegmentValue (ℕ × SegmentCause)) (m : PeerMoments) (now : ℕ) (g : PeerGate) (h : Gate) → IsPlainSetup s → AreOneMoment m now
    → IsGateOf s h g → ComesFreely s face read m g h → SendsAlike s (arrives_peer s face read m g) (serve.arrives_at (plain_setup s) face read now h)
unfolding arrives_peer arrives_at
arrival-alike s face read m now g h plain moment of free =
    arrives-alike s face m now (hears_at s face g read (m.at face)) (serve.hears_at (plain_setup s) face h read now) g h plain moment of
    (heard-at s face read m now g h moment of free.small free.sessions free.place) free.blocks free.told free.sending

tick-alike : (s : PeerSetup) (m : PeerMoments) (now : ℕ) (g : PeerGate) (h : Gate) → IsPlainSetup s → AreOneMoment m now → IsGateOf s h g → PassFreely s m g
    → SendsAlike s (ticks_peer s m g) (ticks_gate (plain_setup s) now h)
unfolding ticks_peer ticks_gate
tick-alike s m now g h plain moment of free =
    let first = face-ticks s faces.Old m now g h moment of free.old in
    let g1 : PeerGate = (ticks_face s m faces.Old g).gate in
    let free_new : PassesFreely s.keys.1 (g1.faces.1).sessions (m.at faces.New) =
    subst (λ (x : PeerGate). PassesFreely s.keys.1 (x.faces.1).sessions (m.at faces.New)) (sym first.gate_is) free.new in
    let second = face-ticks s faces.New m now g1 (serve.ticks_at (plain_setup s) now faces.Old h).gate moment first.sends.gate free_new in
    then-alike s (ticks_face s m faces.Old g) (ticks_face s m faces.New) (serve.ticks_at (plain_setup s) now faces.Old h) (serve.ticks_at (plain_setup s) now faces.New) first.sends second.sends

pub steps-send-alike : StepsSendAlike
steps-send-alike = record { arrival = arrival-alike; tick = tick-alike }
