-- A piece that is added goes at once, where a session is free.

use Rattle.std.proofs.Common.{◌≡◌, ℕ, zero, suc, ◌+◌, ◌<◌, ◌≤◌, ◌^◌, ◌==◌, Bool, true, false, ◌&&◌, nat_lt, nat_le, if◌then◌else◌, List, [], ◌∷◌, ◌++◌, length, take, drop, Option, None, refl, sym, ◌∙◌, ap, subst, arith}
use Rattle.std.proofs.lemmas.Bool.{lt-ltb, le-leb}
use Rattle.std.proofs.lemmas.Bool.Decides.{nat_tests}
use Rattle.std.proofs.lemmas.List.{append-nil}
use Rattle.std.specs.List.{flat_map}
use Rattle.ltp_session.specs.Sender.{begin}
use Rattle.ltp_session.specs.Engine.{Engine, EngineStep, Party, SubmitFault, begun, replied, submit_fault, submits, submits_unless, submit_step}
use Rattle.piece_gathering.specs.declared.piece.Piece.{Piece}
use Rattle.piece_gathering.specs.Gathered.{GatheringValue, added_to, front_from, going, gone_from, ready}
use Rattle.gate_cases.specs.declared.face.Face.{Face}
use Rattle.gate_cases.specs.declared.face.Face.TheVariants as faces
use Rattle.gate_cases.specs.Promises.{IsBlock}
use Rattle.gateway_core.specs.Gate.{Gate, GateSetup, GateStep, at_face, does_at, sends_at, sends_unless}
use Rattle.peer_cases.specs.declared.settings.PeerSettings.{PeerSettings}
use Rattle.peer_cases.specs.Laws.{IsPlain}
use Rattle.peer_cases.specs.Rows.{came_in}
use Rattle.peer_sessions.specs.Keys.{FaceKeys}
use Rattle.peer_sessions.specs.Sessions.{block_begins}
use Rattle.peer_gateway.specs.Keys.{PeerSetup, gathers_from}
use Rattle.peer_gateway.specs.Gate.{AddedAt, PeerFace, PeerGate, PeerMoments, PeerStep, and_then, routed_at, stays_so}
use Rattle.peer_gateway.specs.Going.{adds, after_block, block_of, go, go_on, going_octets, next_count, no_time, raised_octets, stay_of, waits_too}
use Rattle.peer_serve_laws.specs.Sessions.{closing_only, party_with}
use Rattle.peer_serve_laws.specs.Steps.{AreOneMoment, IsFaceOf, IsGateOf, IsPlainFace, IsPlainSetup, SendsAlike, plain_setup}

-- ---- one piece waits

ready-one : (k : FaceKeys) (piece : Piece) → (k.bounds).wanted ≡ 0 → ready (added_to (gathers_from k) piece) no_time ≡ 1
unfolding ready front_from
ready-one k piece alone =
    let there : nat_le (k.bounds).wanted (0 + piece.size) ≡ true = le-leb (k.bounds).wanted (0 + piece.size) (omega (arith, alone)) in
    rw there refl

ready-in : (k : FaceKeys) (g : GatheringValue) (piece : Piece) → (k.bounds).wanted ≡ 0 → g ≡ gathers_from k → ready (added_to g piece) no_time ≡ 1
ready-in k g piece alone is = ap (λ (x : GatheringValue). ready (added_to x piece) no_time) is ∙ ready-one k piece alone

goes-alone : (k : FaceKeys) (g : GatheringValue) (piece : Piece) → (k.bounds).wanted ≡ 0 → g ≡ gathers_from k → going (added_to g piece) no_time ≡ piece ∷ []
goes-alone k g piece alone is =
    ap (λ (n : ℕ). take n (g.waiting ++ piece ∷ [])) (ready-in k g piece alone is)
    ∙ ap (λ (x : GatheringValue). take 1 (x.waiting ++ piece ∷ [])) is

none-left : (k : FaceKeys) (g : GatheringValue) (piece : Piece) → (k.bounds).wanted ≡ 0 → g ≡ gathers_from k → gone_from (added_to g piece) no_time ≡ gathers_from k
none-left k g piece alone is =
    ap (λ (n : ℕ). record (added_to g piece) { waiting = drop n (g.waiting ++ piece ∷ []) }) (ready-in k g piece alone is)
    ∙ ap (λ (x : GatheringValue). record (added_to x piece) { waiting = drop 1 (x.waiting ++ piece ∷ []) }) is

-- as it was made
goes-plain : (s : PeerSettings) (face : Face) (leaves : ℕ) (piece : Piece) → IsPlain s → going_octets s face leaves piece ≡ piece.octets
goes-plain s face leaves piece plain =
    ap (λ (t : Bool). if t then raised_octets s face (stay_of leaves piece) piece.octets (came_in s face piece.octets) else piece.octets) plain.ageless

-- a face once the piece waits
abbrev with_waiting : Piece → PeerFace → PeerFace
with_waiting piece f = record f { gathering = added_to f.gathering piece }

block-is : (s : PeerSetup) (face : Face) (m : PeerMoments) (k : FaceKeys) (f : PeerFace) (piece : Piece) → IsPlain s.settings → (k.bounds).wanted ≡ 0
    → f.gathering ≡ gathers_from k → block_of s face m no_time (with_waiting piece f) ≡ piece.octets
block-is s face m k f piece plain alone is =
    ap (λ (pieces : List Piece). flat_map (going_octets s.settings face (m.leaves face)) pieces) (goes-alone k f.gathering piece alone is)
    ∙ (append-nil (going_octets s.settings face (m.leaves face) piece) ∙ goes-plain s.settings face (m.leaves face) piece plain)

-- ---- a session is free for it

-- an engine has a session and a number for one block more
pub record IsOpen (e : Engine) : Type 0 where
  pub sessions : length e.senders < 64
  pub number : e.next < 2 ^ 32

count-is : (k : FaceKeys) (e : Engine) (f : PeerFace) (piece : Piece) → IsPlainFace k → IsFaceOf k e f → IsOpen e → next_count k no_time (with_waiting piece f) ≡ 1
count-is k e f piece plain of open_is =
    ap (λ (x : Engine). if nat_lt (length x.senders) (k.bounds).sessions && nat_lt x.next 4294967296 then ready (added_to f.gathering piece) no_time else 0) of.sessions.engine
    ∙ (rw (lt-ltb (length e.senders) (k.bounds).sessions (subst (λ n. length e.senders < n) (sym plain.sessions) open_is.sessions), lt-ltb e.next 4294967296 (omega (arith, open_is.number)))
    (ready-in k f.gathering piece plain.alone of.pieces))

-- then the engine doesn't refuse it
pub fault-none : (k : FaceKeys) (runs : ℕ) (e : Engine) (block : List ℕ) → IsPlainFace k → IsOpen e → IsBlock block → submit_fault (party_with k runs) e block ≡ None
fault-none k runs e block plain open_is is = rw (
  not-zero (length block) is.some,
  not-below (k.party).most (length block) (subst (λ n. length block ≤ n) (sym plain.most) is.small),
  not-up-to (2 ^ 32) e.next open_is.number,
  not-up-to (k.bounds).sessions (length e.senders) (subst (λ n. length e.senders < n) (sym plain.sessions) open_is.sessions),
) refl where
  not-zero : (n : ℕ) → 0 < n → (n == 0) ≡ false
  not-zero n some = grind (arith, nat_tests)

  not-below : (a b : ℕ) → b ≤ a → nat_lt a b ≡ false
  not-below a b few = grind (arith, nat_tests)

  not-up-to : (a b : ℕ) → b < a → nat_le a b ≡ false
  not-up-to a b few = grind (arith, nat_tests)

-- what the engine does about it
abbrev pub begun_by : FaceKeys → Engine → List ℕ → ℕ → EngineStep
begun_by k e block now =
    replied (record { originator = (k.party).own; number = e.next }) (begun e (begin (k.party).policy e.next block (length block) now))

pub sends-is : (s : GateSetup) (k : FaceKeys) (runs : ℕ) (face : Face) (now : ℕ) (block : List ℕ) (h : Gate) → at_face s.parties face ≡ party_with k runs
    → submit_fault (party_with k runs) (at_face h.engines face) block ≡ None
    → sends_at s face now block h ≡ does_at face h (begun_by k (at_face h.engines face) block now)
unfolding sends_at submits
sends-is s k runs face now block h party none =
    ap (λ (p : Party). sends_unless face h (submit_step p (at_face h.engines face) (submits_unless (submit_fault p (at_face h.engines face) block) p (at_face h.engines face) block (length block) now))) party
    ∙ ap (λ (fault : Option SubmitFault). sends_unless face h (submit_step (party_with k runs) (at_face h.engines face)
    (submits_unless fault (party_with k runs) (at_face h.engines face) block (length block) now))) none

-- ---- and is so at the face

begins-same : (k : FaceKeys) (x e : Engine) (block octets : List ℕ) (at now : ℕ) → x ≡ closing_only [] e → block ≡ octets → at ≡ now
    → block_begins k x block at ≡ record { engine = closing_only [] (begun_by k e octets now).engine; effects = (begun_by k e octets now).effects }
begins-same k x e block octets at now is same when =
    ap (λ (y : Engine). block_begins k y block at) is
    ∙ (ap (λ (b : List ℕ). block_begins k (closing_only [] e) b at) same ∙ ap (λ (t : ℕ). block_begins k (closing_only [] e) octets t) when)

face-went : (k : FaceKeys) (e : Engine) (f : PeerFace) (piece : Piece) (step : EngineStep) (octets : List ℕ) (now : ℕ) → IsPlainFace k → IsFaceOf k e f
    → step.engine ≡ closing_only [] (begun_by k e octets now).engine
    → IsFaceOf k (begun_by k e octets now).engine (after_block k (with_waiting piece f) no_time step)
face-went k e f piece step octets now plain of is = record {
  sessions = record {
    engine = is;
    over = of.sessions.over;
    set = of.sessions.set;
    numbers = of.sessions.numbers;
  };
  pieces = none-left k f.gathering piece plain.alone of.pieces;
}

one-waits : (k : FaceKeys) (f : PeerFace) (piece : Piece) → f.gathering ≡ gathers_from k → length ((with_waiting piece f).gathering).waiting ≡ suc zero
one-waits k f piece is = ap (λ (x : GatheringValue). length (x.waiting ++ piece ∷ [])) is

pub adds-alike : (s : PeerSetup) (face : Face) (m : PeerMoments) (now : ℕ) (is_report : Bool) (piece : Piece) (g : PeerGate) (h : Gate) → IsPlainSetup s → AreOneMoment m now
    → IsGateOf s h g → IsOpen (at_face h.engines face) → IsBlock piece.octets
    → SendsAlike s (adds s face m is_report piece g) (sends_at (plain_setup s) face now piece.octets h)
unfolding adds and_then go_on go
adds-alike s faces.Old m now is_report piece g h plain one of open_is block =
    subst (λ (n : ℕ). SendsAlike s (and_then waiting (go_on s faces.Old m no_time n)) (sends_at (plain_setup s) faces.Old now piece.octets h)) (sym (one-waits s.keys.0 g.faces.0 piece of.old.pieces))
    (subst (λ (step : GateStep). SendsAlike s (and_then waiting (go_on s faces.Old m no_time (suc zero))) step)
    (sym (sends-is (plain_setup s) s.keys.0 65536 faces.Old now piece.octets h refl (fault-none s.keys.0 65536 h.engines.0 piece.octets plain.old open_is block)))
    (by (next_count s.keys.0 no_time (with_waiting piece g.faces.0) == 0) (ap (λ (n : ℕ). n == 0) (count-is s.keys.0 h.engines.0 g.faces.0 piece plain.old of.old open_is))))
  where
    waiting : PeerStep
    waiting = waits_too faces.Old piece is_report g

    its : EngineStep
    its = begun_by s.keys.0 h.engines.0 piece.octets now

    mine : EngineStep
    mine = block_begins s.keys.0 g.faces.0.sessions.engine (block_of s faces.Old m no_time (with_waiting piece g.faces.0)) (m.at faces.Old)

    same : mine ≡ record { engine = closing_only [] its.engine; effects = its.effects }
    same = begins-same s.keys.0 g.faces.0.sessions.engine h.engines.0 (block_of s faces.Old m no_time (with_waiting piece g.faces.0)) piece.octets (m.at faces.Old) now of.old.sessions.engine
        (block-is s faces.Old m s.keys.0 g.faces.0 piece plain.settings plain.old.alone of.old.pieces) (one.at faces.Old)

    by : (t : Bool) → t ≡ false
        → SendsAlike s (and_then waiting (λ w. if t then stays_so w else and_then (go s faces.Old m no_time w) (go_on s faces.Old m no_time zero))) (does_at faces.Old h its)
    by true is = absurd (cc (is))
    by false is = record {
      out = append-nil (routed_at faces.Old mine.effects.out)
          ∙ ap (λ (step : EngineStep). routed_at faces.Old step.effects.out) same;
      gate = record {
        old = face-went s.keys.0 h.engines.0 g.faces.0 piece mine piece.octets now plain.old of.old (ap (λ (step : EngineStep). step.engine) same);
        new = record { sessions = of.new.sessions; pieces = of.new.pieces };
        counter = of.counter;
      };
    }
adds-alike s faces.New m now is_report piece g h plain one of open_is block =
    subst (λ (n : ℕ). SendsAlike s (and_then waiting (go_on s faces.New m no_time n)) (sends_at (plain_setup s) faces.New now piece.octets h)) (sym (one-waits s.keys.1 g.faces.1 piece of.new.pieces))
    (subst (λ (step : GateStep). SendsAlike s (and_then waiting (go_on s faces.New m no_time (suc zero))) step)
    (sym (sends-is (plain_setup s) s.keys.1 65536 faces.New now piece.octets h refl (fault-none s.keys.1 65536 h.engines.1 piece.octets plain.new open_is block)))
    (by (next_count s.keys.1 no_time (with_waiting piece g.faces.1) == 0) (ap (λ (n : ℕ). n == 0) (count-is s.keys.1 h.engines.1 g.faces.1 piece plain.new of.new open_is))))
  where
    waiting : PeerStep
    waiting = waits_too faces.New piece is_report g

    its : EngineStep
    its = begun_by s.keys.1 h.engines.1 piece.octets now

    mine : EngineStep
    mine = block_begins s.keys.1 g.faces.1.sessions.engine (block_of s faces.New m no_time (with_waiting piece g.faces.1)) (m.at faces.New)

    same : mine ≡ record { engine = closing_only [] its.engine; effects = its.effects }
    same = begins-same s.keys.1 g.faces.1.sessions.engine h.engines.1 (block_of s faces.New m no_time (with_waiting piece g.faces.1)) piece.octets (m.at faces.New) now of.new.sessions.engine
        (block-is s faces.New m s.keys.1 g.faces.1 piece plain.settings plain.new.alone of.new.pieces) (one.at faces.New)

    by : (t : Bool) → t ≡ false
        → SendsAlike s (and_then waiting (λ w. if t then stays_so w else and_then (go s faces.New m no_time w) (go_on s faces.New m no_time zero))) (does_at faces.New h its)
    by true is = absurd (cc (is))
    by false is = record {
      out = append-nil (routed_at faces.New mine.effects.out)
          ∙ ap (λ (step : EngineStep). routed_at faces.New step.effects.out) same;
      gate = record {
        old = record { sessions = of.old.sessions; pieces = of.old.pieces };
        new = face-went s.keys.1 h.engines.1 g.faces.1 piece mine piece.octets now plain.new of.new (ap (λ (step : EngineStep). step.engine) same);
        counter = of.counter;
      };
    }

-- ---- what is added

none-added : (s : PeerSetup) (face : Face) (m : PeerMoments) (until n : ℕ) (g : PeerGate) → (go_on s face m until n g).effects.added ≡ []
unfolding go_on go and_then
none-added s face m until zero g = refl
none-added s face m until (suc n) g =
    by (next_count (at_face s.keys face) until (at_face g.faces face) == 0) (none-added s face m until n (go s face m until g).gate)
  where
    by : (t : Bool) → (go_on s face m until n (go s face m until g).gate).effects.added ≡ []
        → (if t then stays_so g else and_then (go s face m until g) (go_on s face m until n)).effects.added ≡ []
    by true rest = refl
    by false rest = rest

pub adds-one : (s : PeerSetup) (face : Face) (m : PeerMoments) (is_report : Bool) (piece : Piece) (g : PeerGate) → length (adds s face m is_report piece g).effects.added ≡ 1
unfolding adds and_then
adds-one s face m is_report piece g =
    ap (λ (added : List AddedAt). length (record { face = face; piece = piece; is_report = is_report } ∷ added))
    (none-added s face m no_time (length (at_face (waits_too face piece is_report g).gate.faces face).gathering.waiting) (waits_too face piece is_report g).gate)
