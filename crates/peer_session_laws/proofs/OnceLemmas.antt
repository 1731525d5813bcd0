-- What holds of one face's sessions holds of each face in a run.

use Rattle.std.proofs.Common.{◌≡◌, ℕ, ◌^◌, ◌<◌, ◌≤◌, ◌==◌, ◌||◌, Bool, true, false, List, [], ◌∷◌, ◌++◌, map, Option, None, Some, IfSome, if◌then◌else◌, refl, sym, subst, eqb-true}
use Rattle.std.specs.List.{filter, list_any}
use Rattle.ltp_session.specs.Engine.{UpValue, is_closed}
use Rattle.gate_cases.specs.declared.face.Face.{Face}
use Rattle.gate_cases.specs.declared.face.Face.TheVariants.{Old, New}
use Rattle.gateway_core.specs.Gate.{at_face}
use Rattle.gate_records.specs.Keeping.{is_young}
use Rattle.journal_file.specs.declared.kept.Mark.{Mark}
use Rattle.journal_file.specs.Keeping.{same_face}
use Rattle.journal_file.specs.Legal.{AreSmall, IsLegal}
use Rattle.journal_file.specs.Values.{KeptValue}
use Rattle.peer_sessions.specs.Runs as faces
use Rattle.peer_sessions.specs.Sessions.{Sessions, hears}
use Rattle.peer_once.specs.Runs.{TimedEvent, AreInOrder, sessions_in}
use Rattle.peer_once.specs.Laws.{HandedUpApart, HandedUpOnceInTime, NoneOfTheMarked}
use Rattle.peer_once.specs.Uses.{HandedUpAsSent, UsedOnce}
use Rattle.peer_gateway.specs.Gate.{PeerGate, PeerMoments}
use Rattle.peer_gateway.specs.Steps.{PeerEvent, a_datagram, a_kept_piece, a_tick, with_outboxes}
use Rattle.peer_half.specs.Journals.{marked_each, starts_journal}
use Rattle.peer_half.specs.Setup.{IsRunnable}
use Rattle.peer_half.specs.Runs.{Run, marked_before}
use Rattle.peer_session_laws.specs.Events.{Beginning, events_at, face_of, gate_after, passed_on}
use Rattle.peer_session_laws.specs.Runs.{IsPast, beginning_of, face_in}
use Rattle.peer_session_laws.specs.Once.{HandedUpApartInRuns, HandedUpAsSentInRuns, HandedUpOnceInRuns, MomentsInOrder, NoneOfTheMarkedInRuns, UsedOnceInRuns}
use Rattle.peer_session_laws.proofs.FaceLemmas.{are-of-their-faces}

-- ---- in order

order-past : (later events : List TimedEvent) → AreInOrder (later ++ events) → AreInOrder events
order-past [] events order = order
order-past (e ∷ later) events order = order-past later events order.1

past-order : MomentsInOrder → (r : Run) (at : Face) (events : List TimedEvent) → IsPast r at events → AreInOrder events
past-order order r at events (later, is) = order-past later events (subst AreInOrder is (order r at))

some-sessions : (r : Run) (at : Face) → IsRunnable r.file → 1 ≤ (face_in r at).keys.bounds.sessions
some-sessions r Old runnable = runnable.old.sessions_least
some-sessions r New runnable = runnable.new.sessions_least

pub handed-up-once-in-runs : MomentsInOrder → HandedUpOnceInTime → HandedUpOnceInRuns
handed-up-once-in-runs order law r at n second first between earlier most runnable past up again =
    law (face_in r at) n second first between earlier most (some-sessions r at runnable) (past-order order r at (second ∷ (between ++ (first ∷ earlier))) past) up again

pub handed-up-apart-in-runs : MomentsInOrder → HandedUpApart → HandedUpApartInRuns
handed-up-apart-in-runs order law r at n second first between earlier most past none up again =
    law (face_in r at) n second first between earlier most (past-order order r at (second ∷ (between ++ (first ∷ earlier))) past) none up again

pub used-once-in-runs : MomentsInOrder → UsedOnce → UsedOnceInRuns
used-once-in-runs order law r at n u second first between earlier most past none short from to up again =
    law (face_in r at) n u second first between earlier most (past-order order r at (second ∷ (between ++ (first ∷ earlier))) past) none short from to up again

pub handed-up-as-sent-in-runs : MomentsInOrder → HandedUpAsSent → HandedUpAsSentInRuns
handed-up-as-sent-in-runs order law r at n now u read earlier body runnable past all from up =
    law (face_in r at) n now u read earlier body (some-sessions r at runnable) (past-order order r at ((now, faces.a_datagram read) ∷ earlier) past) all from up

-- ---- sessions that are marked

-- their numbers have 64 bits
small-closed : (p q : Mark → Bool) (n : ℕ) (marks : List Mark) → AreSmall marks
    → is_closed n (map (λ (mark : Mark). mark.session) (filter p (filter q marks))) ≡ true → n < 2 ^ 64
small-closed p q n [] small is = absurd (cc is)
small-closed p q n (m ∷ marks) small is = by (q m) (small-closed p q n marks small.2) is where
  here : (b : Bool) → (m.session == n) ≡ b → (is_closed n (map (λ (mark : Mark). mark.session) (filter p (filter q marks))) ≡ true → n < 2 ^ 64)
      → (b || is_closed n (map (λ (mark : Mark). mark.session) (filter p (filter q marks)))) ≡ true → n < 2 ^ 64
  here true same rest there = subst (λ k. k < 2 ^ 64) (eqb-true m.session n same) small.0
  here false apart rest there = rest there

  mine : (t : Bool) → (is_closed n (map (λ (mark : Mark). mark.session) (filter p (filter q marks))) ≡ true → n < 2 ^ 64)
      → is_closed n (map (λ (mark : Mark). mark.session) (if t then m ∷ filter p (filter q marks) else filter p (filter q marks))) ≡ true → n < 2 ^ 64
  mine true rest there = here (m.session == n) refl rest there
  mine false rest there = rest there

  by : (young : Bool) → (is_closed n (map (λ (mark : Mark). mark.session) (filter p (filter q marks))) ≡ true → n < 2 ^ 64)
      → is_closed n (map (λ (mark : Mark). mark.session) (filter p (if young then m ∷ filter q marks else filter q marks))) ≡ true → n < 2 ^ 64
  by true rest there = mine (p m) rest there
  by false rest there = rest there

pub small-marked : (r : Run) (at : Face) (n : ℕ) → IfSome r.kept IsLegal → is_closed n (at_face (marked_before r) at) ≡ true → n < 2 ^ 64
small-marked r at n legal is = by r.kept at legal is where
  by : (kept : Option KeptValue) (at : Face) → IfSome kept IsLegal → is_closed n (at_face (marked_each (starts_journal r.file r.wall kept)) at) ≡ true → n < 2 ^ 64
  by None Old legal is = absurd (cc is)
  by None New legal is = absurd (cc is)
  by (Some kept) Old legal is = small-closed (λ (mark : Mark). same_face mark.face Old) (is_young r.wall) n kept.marks legal.marks.small is
  by (Some kept) New legal is = small-closed (λ (mark : Mark). same_face mark.face New) (is_young r.wall) n kept.marks legal.marks.small is

abbrev IsOf : ℕ → UpValue → Bool
IsOf n up = up.session == n

-- what is passed on is what the face's sessions hand up
none-passed : NoneOfTheMarked → (b : Beginning) (at : Face) (n : ℕ) (event : PeerEvent) (m : PeerMoments) (octets : ℕ × ℕ) (g : PeerGate) (earlier : List TimedEvent)
    → (at_face g.faces at).sessions ≡ sessions_in (face_of b at) earlier → n < 2 ^ 64 → is_closed n (at_face b.marks at) ≡ true
    → list_any (IsOf n) (passed_on b.setup at event m (with_outboxes octets g)) ≡ false
none-passed law b Old n (a_datagram Old read) m octets g earlier same most marked =
    subst (λ (t : Sessions). list_any (IsOf n) (hears b.setup.keys.0 t read (m.at Old)).effects.ups ≡ false) (sym same)
    (law (face_of b Old) n (m.at Old, faces.a_datagram read) earlier most marked)
none-passed law b New n (a_datagram New read) m octets g earlier same most marked =
    subst (λ (t : Sessions). list_any (IsOf n) (hears b.setup.keys.1 t read (m.at New)).effects.ups ≡ false) (sym same)
    (law (face_of b New) n (m.at New, faces.a_datagram read) earlier most marked)
none-passed law b New n (a_datagram Old read) m octets g earlier same most marked = refl
none-passed law b Old n (a_datagram New read) m octets g earlier same most marked = refl
none-passed law b at n a_tick m octets g earlier same most marked = refl
none-passed law b at n (a_kept_piece face piece came) m octets g earlier same most marked = refl

pub none-of-the-marked-in-runs : NoneOfTheMarked → NoneOfTheMarkedInRuns
none-of-the-marked-in-runs law r at n event earlier legal marked =
    let b = beginning_of r in
    none-passed law b at n event.0 event.1.0 event.1.1 (gate_after b earlier) (events_at b at earlier) (are-of-their-faces b at earlier)
    (small-marked r at n legal marked) marked
