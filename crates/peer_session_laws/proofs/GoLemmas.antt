-- Blocks begin at the faces of a gate, one after the other.

use Rattle.std.proofs.Common.{◌≡◌, ℕ, zero, suc, ◌<◌, ◌==◌, Bool, true, false, if◌then◌else◌, List, [], ◌∷◌, ◌++◌, length, refl, subst}
use Rattle.std.specs.List.{AllByRecursion}
use Rattle.piece_gathering.specs.declared.piece.Piece.{Piece}
use Rattle.ltp_session.specs.Sender.{begin}
use Rattle.ltp_laws.proofs.ListLemmas.{all-append}
use Rattle.gate_cases.specs.declared.face.Face.{Face}
use Rattle.gate_cases.specs.declared.face.Face.TheVariants.{Old, New}
use Rattle.gateway_core.specs.Gate.{if_same, at_face}
use Rattle.peer_sessions.specs.Keys.{FaceKeys}
use Rattle.peer_sessions.specs.Sessions.{Sessions, block_begins, with_begun}
use Rattle.peer_gateway.specs.Keys.{PeerSetup}
use Rattle.peer_gateway.specs.Gate.{AddedAt, BegunAt, PeerGate, PeerMoments, PeerStep, Told, and_then, in_turn, routed_at, stays_so, tells}
use Rattle.peer_gateway.specs.Going.{adds, block_of, go, go_all, go_on, next_count, no_time, waits_too}
use Rattle.peer_session_laws.proofs.OutLemmas.{IsOtherOut, routed-other}
use Rattle.peer_session_laws.proofs.SaidLemmas.{begin-says}

-- ---- a face

-- sessions once a block began
abbrev pub begins : FaceKeys → ℕ → List ℕ → Sessions → Sessions
begins k now block s = with_begun s (block_begins k s.engine block now)

-- Sessions of a face have gone on to others by the blocks that began there, of those that began, each with the next
-- number.
unfoldable pub GoOn : FaceKeys → ℕ → Face → List BegunAt → Sessions → Sessions → Type 0
GoOn k now at [] s t = t ≡ s
GoOn k now at (b ∷ more) s t =
    (b.face ≡ at → b.session ≡ s.engine.next)
    × GoOn k now at more (if_same b.face at (begins k now b.block s) s) t

pub go-then : (k : FaceKeys) (now : ℕ) (at : Face) (xs ys : List BegunAt) (s t u : Sessions) → GoOn k now at xs s t → GoOn k now at ys t u
    → GoOn k now at (xs ++ ys) s u
unfolding GoOn
go-then k now at [] ys s t u same more = subst (λ (x : Sessions). GoOn k now at ys x u) same more
go-then k now at (b ∷ xs) ys s t u (number, first) more =
    (number, go-then k now at xs ys (if_same b.face at (begins k now b.block s) s) t u first more)

-- ---- a gate

abbrev sessions_at : Face → PeerGate → Sessions
sessions_at at g = (at_face g.faces at).sessions

-- it has an octet
abbrev pub HasOctets : AddedAt → Type 0
HasOctets a = 0 < length a.piece.octets

-- Those of a face have gone on with a step. Each piece that the step added has an octet, where so much is given; and
-- it sends no report.
pub record Goes (s : PeerSetup) (m : PeerMoments) (at : Face) (Given : Type 0) (g : PeerGate) (step : PeerStep) : Type 0 where
  pub sessions : GoOn (at_face s.keys at) (m.at at) at step.effects.begun (sessions_at at g) (sessions_at at step.gate)
  pub added : Given → AllByRecursion HasOctets step.effects.added
  pub out : AllByRecursion IsOtherOut step.effects.out

pub goes-not : (s : PeerSetup) (m : PeerMoments) (at : Face) (Given : Type 0) (g : PeerGate) → Goes s m at Given g (stays_so g)
unfolding GoOn
goes-not s m at Given g = record { sessions = refl; added = λ given. tt; out = tt }

pub goes-tells : (s : PeerSetup) (m : PeerMoments) (at : Face) (Given : Type 0) (face : Face) (told : Told) (g : PeerGate) → Goes s m at Given g (tells face told g)
unfolding GoOn
goes-tells s m at Given face told g = record { sessions = refl; added = λ given. tt; out = tt }

pub added-both : (xs ys : List AddedAt) → AllByRecursion HasOctets xs → AllByRecursion HasOctets ys → AllByRecursion HasOctets (xs ++ ys)
added-both [] ys first more = more
added-both (x ∷ xs) ys first more = (first.0, added-both xs ys first.1 more)

pub goes-both : (s : PeerSetup) (m : PeerMoments) (at : Face) (Given : Type 0) (g : PeerGate) (first : PeerStep) (next : PeerGate → PeerStep)
    → Goes s m at Given g first → Goes s m at Given first.gate (next first.gate) → Goes s m at Given g (and_then first next)
unfolding and_then
goes-both s m at Given g first next one more = record {
  sessions = go-then (at_face s.keys at) (m.at at) at first.effects.begun (next first.gate).effects.begun
      (sessions_at at g) (sessions_at at first.gate) (sessions_at at (next first.gate).gate) one.sessions more.sessions;
  added = λ given. added-both first.effects.added (next first.gate).effects.added (one.added given) (more.added given);
  out = all-append IsOtherOut first.effects.out (next first.gate).effects.out one.out more.out;
}

goes-waits : (s : PeerSetup) (m : PeerMoments) (at : Face) (Given : Type 0) (face : Face) (piece : Piece) (is_report : Bool) (g : PeerGate)
    → (Given → 0 < length piece.octets) → Goes s m at Given g (waits_too face piece is_report g)
unfolding GoOn
goes-waits s m Old Given Old piece is_report g some = record { sessions = refl; added = λ given. (some given, tt); out = tt }
goes-waits s m Old Given New piece is_report g some = record { sessions = refl; added = λ given. (some given, tt); out = tt }
goes-waits s m New Given Old piece is_report g some = record { sessions = refl; added = λ given. (some given, tt); out = tt }
goes-waits s m New Given New piece is_report g some = record { sessions = refl; added = λ given. (some given, tt); out = tt }

-- a block's segments are no reports
block-out : (k : FaceKeys) (s : Sessions) (block : List ℕ) (now : ℕ) (face : Face)
    → AllByRecursion IsOtherOut (routed_at face (block_begins k s.engine block now).effects.out)
block-out k s block now face =
    routed-other face (record { originator = k.party.own; number = s.engine.next }) (begin k.party.policy s.engine.next block (length block) now).out
    (begin-says k.party.policy s.engine.next block (length block) now)

goes-block : (s : PeerSetup) (m : PeerMoments) (at : Face) (Given : Type 0) (face : Face) (until : ℕ) (g : PeerGate) → Goes s m at Given g (go s face m until g)
unfolding GoOn go
goes-block s m Old Given Old until g = record { sessions = (λ here. refl, refl); added = λ given. tt; out = block-out s.keys.0 g.faces.0.sessions (block_of s Old m until g.faces.0) (m.at Old) Old }
goes-block s m Old Given New until g = record { sessions = (λ here. absurd (cc here), refl); added = λ given. tt; out = block-out s.keys.1 g.faces.1.sessions (block_of s New m until g.faces.1) (m.at New) New }
goes-block s m New Given Old until g = record { sessions = (λ here. absurd (cc here), refl); added = λ given. tt; out = block-out s.keys.0 g.faces.0.sessions (block_of s Old m until g.faces.0) (m.at Old) Old }
goes-block s m New Given New until g = record { sessions = (λ here. refl, refl); added = λ given. tt; out = block-out s.keys.1 g.faces.1.sessions (block_of s New m until g.faces.1) (m.at New) New }

goes-on : (s : PeerSetup) (m : PeerMoments) (at : Face) (Given : Type 0) (face : Face) (until n : ℕ) (g : PeerGate) → Goes s m at Given g (go_on s face m until n g)
unfolding go_on
goes-on s m at Given face until zero g = goes-not s m at Given g
goes-on s m at Given face until (suc n) g =
    by (next_count (at_face s.keys face) until (at_face g.faces face) == 0) (goes-on s m at Given face until n (go s face m until g).gate)
  where
    by : (t : Bool) → Goes s m at Given (go s face m until g).gate (go_on s face m until n (go s face m until g).gate)
        → Goes s m at Given g (if t then stays_so g else and_then (go s face m until g) (go_on s face m until n))
    by true rest = goes-not s m at Given g
    by false rest = goes-both s m at Given g (go s face m until g) (go_on s face m until n) (goes-block s m at Given face until g) rest

pub goes-all : (s : PeerSetup) (m : PeerMoments) (at : Face) (Given : Type 0) (face : Face) (until : ℕ) (g : PeerGate) → Goes s m at Given g (go_all s face m until g)
goes-all s m at Given face until g = goes-on s m at Given face until (length (at_face g.faces face).gathering.waiting) g

pub goes-adds : (s : PeerSetup) (m : PeerMoments) (at : Face) (Given : Type 0) (face : Face) (is_report : Bool) (piece : Piece) (g : PeerGate)
    → (Given → 0 < length piece.octets) → Goes s m at Given g (adds s face m is_report piece g)
unfolding adds
goes-adds s m at Given face is_report piece g some =
    let first = waits_too face piece is_report g in
    goes-both s m at Given g first (go_all s face m no_time) (goes-waits s m at Given face piece is_report g some) (goes-all s m at Given face no_time first.gate)

pub goes-turn : {X : Type 0} (s : PeerSetup) (m : PeerMoments) (at : Face) (Given : Type 0) (step : X → PeerGate → PeerStep)
    → ((x : X) (g : PeerGate) → Goes s m at Given g (step x g)) → (xs : List X) (g : PeerGate) → Goes s m at Given g (in_turn step xs g)
unfolding in_turn
goes-turn s m at Given step each [] g = goes-not s m at Given g
goes-turn s m at Given step each (x ∷ xs) g =
    let rest = goes-turn s m at Given step each xs (step x g).gate in
    goes-both s m at Given g (step x g) (in_turn step xs) (each x g) rest

-- ---- blocks of the old face, at the new one

-- they change no sessions of the new face, and none of them begins there
pub record Passes (k : FaceKeys) (now : ℕ) (g : PeerGate) (step : PeerStep) : Type 0 where
  pub same : sessions_at New step.gate ≡ sessions_at New g
  pub none : (s : Sessions) → GoOn k now New step.effects.begun s s

pub old-passes : (s : PeerSetup) (m : PeerMoments) (k : FaceKeys) (now until n : ℕ) (g : PeerGate) → Passes k now g (go_on s Old m until n g)
unfolding go_on and_then go GoOn
old-passes s m k now until zero g = record { same = refl; none = λ t. refl }
old-passes s m k now until (suc n) g =
    by (next_count s.keys.0 until g.faces.0 == 0) (old-passes s m k now until n (go s Old m until g).gate)
  where
    by : (t : Bool) → Passes k now (go s Old m until g).gate (go_on s Old m until n (go s Old m until g).gate)
        → Passes k now g (if t then stays_so g else and_then (go s Old m until g) (go_on s Old m until n))
    by true rest = record { same = refl; none = λ t. refl }
    by false rest = record { same = rest.same; none = λ t. (λ here. absurd (cc here), rest.none t) }
