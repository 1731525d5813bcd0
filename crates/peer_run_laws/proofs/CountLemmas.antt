-- What is sent at a face and not put there is counted.

use Rattle.std.proofs.Common.{◌≡◌, ℕ, zero, suc, ◌+◌, ◌-◌, ◌≤◌, ◌^◌, min, Bool, true, false, if◌then◌else◌, List, [], ◌∷◌, ◌++◌, length, map, Option, refl, ap, ◌∙◌, sym, arith, length-append}
use Rattle.std.proofs.lemmas.Bool.{le-leb}
use Rattle.std.proofs.lemmas.List.{length-map, map-append}
use Rattle.gate_cases.specs.declared.face.Face.{Face}
use Rattle.gate_cases.specs.declared.face.Face.TheVariants as faces
use Rattle.gateway_core.specs.declared.effects.Routed.{Routed}
use Rattle.gateway_core.specs.Gate.{if_same, at_face}
use Rattle.gateway_core.specs.Effects.{routed_of}
use Rattle.outbox.specs.declared.reading.Reading.{Reading}
use Rattle.outbox.specs.Laws.{GoesOutInOrder}
use Rattle.outbox.specs.Outbox.{OutboxValue, fits, octets_in}
use Rattle.outbox.specs.Run as box
use Rattle.outbox.specs.Run.{sends}
use Rattle.gate_face.specs.Faces.{FaceStanding}
use Rattle.peer_gateway.specs.Keys.{PeerSetup}
use Rattle.peer_gateway.specs.Gate.{PeerGate, routed_at, starts_out, starts_puts}
use Rattle.peer_gateway.specs.Laws.{put_at}
use Rattle.peer_gateway.specs.Steps.{PeerEvent, peer_gate_after, peer_step, with_outboxes}
use Rattle.peer_gateway.proofs.PutLemmas.{queued_is_put}
use Rattle.peer_gateway.specs.Answers.{answer_of}
use Rattle.peer_half.specs.Journals.{Journalled}
use Rattle.peer_half.specs.Standing.{Standing, face_of, starts_empty}
use Rattle.peer_half.specs.Starts.{cancels_in, starts_at}
use Rattle.peer_half.specs.Steps.{putting_all, putting_if, step_of}
use Rattle.peer_half.specs.Half.{Came, answers}
use Rattle.peer_half.specs.Parts.{reading_clocks}
use Rattle.peer_half.specs.Runs.{EventIn, Run, begins_at, event_at, events_of, first_gate, marked_before, setup_of}
use Rattle.peer_half.specs.Laws.{IsFitted, datagrams_at, dropped_in, waits_in}
use Rattle.peer_half.proofs.PutLemmas.{after-puts, here-waits, limit-all, limit-at, octets-append, put_here, putting_at}
use Rattle.peer_half.proofs.StandingLemmas.{after_event}
use Rattle.peer_run_laws.specs.Faces.{CountsDropped, cancels_at, put_first, put_into, put_over, put_with, sent_in, sent_over, sent_with, starts_with, step_with}
use Rattle.peer_run_laws.proofs.WalkLemmas.{KeepsHalves, keeps-halves}
use Rattle.peer_run_laws.proofs.BoxLemmas.{Box, many_sends, sent-answers}
use Rattle.peer_run_laws.proofs.GateLemmas.{IsGateOf, gate-begins, gate-event, gate-halves, gate-keeps}
use Rattle.peer_run_laws.proofs.OrderLemmas.{cancels-are, first-few, fitted-answers, fitted-begins, fitted-quiet, fitted-read, limit-setup, limit-starts, limit_of, starts-length}

-- ---- how many aren't put

abbrev lost_one : Face → Bool → Routed → ℕ
lost_one at true routed = 0
lost_one at false routed = if_same routed.face at 1 0

unfoldable lost_of : Face → List Bool → List Routed → ℕ
lost_of at [] out = 0
lost_of at (is_put ∷ puts) [] = 0
lost_of at (is_put ∷ puts) (routed ∷ out) = lost_one at is_put routed + lost_of at puts out

one-or-put : (at face : Face) (is_put : Bool) (datagram : List ℕ) (puts : List Bool) (out : List Routed)
    → lost_of at puts out + length (put_at at puts out) ≡ length (datagrams_at at out)
    → lost_one at is_put (record { face = face; datagram = datagram }) + lost_of at puts out
    + length (put_here at is_put (record { face = face; datagram = datagram }) ++ put_at at puts out)
    ≡ length (datagrams_at at (record { face = face; datagram = datagram } ∷ out))
one-or-put faces.Old faces.Old true datagram puts out rest = omega (arith, rest)
one-or-put faces.Old faces.Old false datagram puts out rest = omega (arith, rest)
one-or-put faces.Old faces.New true datagram puts out rest = omega (arith, rest)
one-or-put faces.Old faces.New false datagram puts out rest = omega (arith, rest)
one-or-put faces.New faces.Old true datagram puts out rest = omega (arith, rest)
one-or-put faces.New faces.Old false datagram puts out rest = omega (arith, rest)
one-or-put faces.New faces.New true datagram puts out rest = omega (arith, rest)
one-or-put faces.New faces.New false datagram puts out rest = omega (arith, rest)

lost-or-put : (at : Face) (puts : List Bool) (out : List Routed) → length puts ≡ length out
    → lost_of at puts out + length (put_at at puts out) ≡ length (datagrams_at at out)
unfolding lost_of put_at
lost-or-put at [] [] same = refl
lost-or-put at [] (routed ∷ out) same = absurd (omega (arith, same))
lost-or-put at (is_put ∷ puts) [] same = absurd (omega (arith, same))
lost-or-put at (is_put ∷ puts) (routed ∷ out) same =
    one-or-put at routed.face is_put routed.datagram puts out (lost-or-put at puts out (omega (arith, same)))

-- ---- each of them is counted

abbrev most : ℕ
most = 2 ^ 64 - 1

one-more : (count greatest : ℕ) → min (min count greatest + 1) greatest ≡ min (count + 1) greatest
one-more count greatest = omega arith

none-more : (count greatest : ℕ) → min count greatest ≡ min (count + 0) greatest
none-more count greatest = omega arith

-- a datagram is put where it finds room, or dropped
counts-one : (is_put : Bool) (datagram : List ℕ) (count : ℕ) (f : FaceStanding)
    → (is_put ≡ true → octets_in (f.outbox).waiting + length datagram ≤ limit_of f) → (f.outbox).dropped ≡ min count most
    → ((putting_if is_put datagram f).outbox).dropped ≡ min (count + (if is_put then 0 else 1)) most
counts-one true datagram count f few is =
    let fit : fits f.outbox datagram ≡ true = le-leb (octets_in (f.outbox).waiting + length datagram) (limit_of f) (few refl) in
    rw fit (is ∙ none-more count most)
counts-one false datagram count f few is = ap (λ (n : ℕ). min (n + 1) most) is ∙ one-more count most

counts-at : (at face : Face) (is_put : Bool) (datagram : List ℕ) (count : ℕ) (fs : FaceStanding × FaceStanding)
    → octets_in (waits_in at fs) + octets_in (put_here at is_put (record { face = face; datagram = datagram })) ≤ limit_of (at_face fs at)
    → dropped_in at fs ≡ min count most
    → dropped_in at (putting_at is_put (record { face = face; datagram = datagram }) fs) ≡ min (count + lost_one at is_put (record { face = face; datagram = datagram })) most
counts-at faces.Old faces.Old true datagram count fs few is = counts-one true datagram count fs.0 (λ put. omega (arith, few)) is
counts-at faces.Old faces.Old false datagram count fs few is = counts-one false datagram count fs.0 (λ put. absurd (cc)) is
counts-at faces.Old faces.New true datagram count fs few is = is ∙ none-more count most
counts-at faces.Old faces.New false datagram count fs few is = is ∙ none-more count most
counts-at faces.New faces.Old true datagram count fs few is = is ∙ none-more count most
counts-at faces.New faces.Old false datagram count fs few is = is ∙ none-more count most
counts-at faces.New faces.New true datagram count fs few is = counts-one true datagram count fs.1 (λ put. omega (arith, few)) is
counts-at faces.New faces.New false datagram count fs few is = counts-one false datagram count fs.1 (λ put. absurd (cc)) is

counts-all : (at : Face) (puts : List Bool) (out : List Routed) (count : ℕ) (fs : FaceStanding × FaceStanding)
    → octets_in (waits_in at fs) + octets_in (put_at at puts out) ≤ limit_of (at_face fs at) → dropped_in at fs ≡ min count most
    → dropped_in at (putting_all puts out fs) ≡ min (count + lost_of at puts out) most
unfolding putting_all put_at lost_of
counts-all at [] out count fs few is = is ∙ none-more count most
counts-all at (is_put ∷ puts) [] count fs few is = is ∙ none-more count most
counts-all at (is_put ∷ puts) (routed ∷ out) count fs few is =
    let next = putting_at is_put routed fs in
    let here = put_here at is_put routed in
    let parts = octets-append here (put_at at puts out) in
    let low : octets_in (waits_in at fs) + octets_in here ≤ limit_of (at_face fs at) = omega (arith, few, parts) in
    let now = ap octets_in (here-waits at routed.face is_put routed.datagram fs low) ∙ octets-append (waits_in at fs) here in
    let limit = limit-at at routed.face is_put routed.datagram fs in
    counts-all at puts out (count + lost_one at is_put routed) next (omega (arith, few, parts, now, limit))
    (counts-at at routed.face is_put routed.datagram count fs low is)
    ∙ ap (λ (n : ℕ). min n most) (joined count (lost_one at is_put routed) (lost_of at puts out))
  where
    joined : (a b c : ℕ) → a + b + c ≡ a + (b + c)
    joined a b c = omega arith

-- ---- with events

abbrev lost_with : PeerSetup → Face → PeerGate → EventIn → ℕ
lost_with s at g event =
    lost_of at (answer_of (step_with s g event).effects).puts (answer_of (step_with s g event).effects).out

unfoldable lost_over : PeerSetup → Face → PeerGate → List EventIn → ℕ
lost_over s at g [] = 0
lost_over s at g (event ∷ earlier) = lost_over s at g earlier + lost_with s at (peer_gate_after s g earlier) event

-- of each datagram it is said whether it is put
told-each : (s : PeerSetup) (at : Face) (g : PeerGate) (event : EventIn)
    → length (answer_of (step_with s g event).effects).puts ≡ length (answer_of (step_with s g event).effects).out
unfolding peer_step
told-each s at g event =
    (queued_is_put s event.0 event.1.0 at (with_outboxes event.1.1 g)).each ∙ sym (length-map _ routed_of)

over-or-put : (s : PeerSetup) (at : Face) (g : PeerGate) (events : List EventIn)
    → lost_over s at g events + length (put_over s at g events) ≡ length (sent_over s at g events)
unfolding lost_over put_over sent_over
over-or-put s at g [] = refl
over-or-put s at g (event ∷ earlier) =
    let now = peer_gate_after s g earlier in
    let answer = answer_of (step_with s now event).effects in
    let rest = over-or-put s at g earlier in
    let here = lost-or-put at answer.puts answer.out (told-each s at now event) in
    let put = length-append (put_over s at g earlier) (put_with s at now event) in
    let sent = length-append (sent_over s at g earlier) (sent_with s at now event) in
    omega (arith, rest, here, put, sent)

-- ---- a run

record IsCounted (setup : PeerSetup) (at : Face) (start : PeerGate) (first : ℕ) (s : Standing) (events : List EventIn) : Type 0 where
  of_gate : IsGateOf setup start s events
  fitted : IsFitted at s
  dropped_is : dropped_in at s.faces ≡ min (first + lost_over setup at start events) most

counted-event : (setup : PeerSetup) (at : Face) (start : PeerGate) (first : ℕ) (event : PeerEvent) (journal : Option Journalled) (s : Standing) (earlier : List EventIn)
    → IsCounted setup at start first s earlier → IsCounted setup at start first (after_event event journal s) (event_at event s ∷ earlier)
unfolding lost_over
counted-event setup at start first event journal s earlier so =
    let t = after_event event journal s in
    let here = after-puts event s t at so.fitted refl refl refl in
    let answer = answer_of (step_of event s).effects in
    let g = peer_gate_after setup start earlier in
    let octets = ap octets_in here.waits ∙ octets-append (waits_in at s.faces) (put_at at answer.puts answer.out) in
    let limit = limit-all at answer.puts answer.out s.faces in
    let is : lost_with s.setup at s.gate (event_at event s) ≡ lost_with setup at g (event_at event s) =
    ap (λ (t : PeerSetup). lost_with t at s.gate (event_at event s)) (so.of_gate).setup_is
    ∙ ap (λ (x : PeerGate). lost_with setup at x (event_at event s)) (so.of_gate).gate_is in
    record {
      of_gate = gate-event setup start event journal s earlier so.of_gate;
      fitted = here.fitted;
      dropped_is = counts-all at answer.puts answer.out (first + lost_over setup at start earlier) s.faces
          (omega (arith, octets, here.fitted.within, limit)) so.dropped_is
          ∙ ap (λ (n : ℕ). min n most) (ap (λ (n : ℕ). first + lost_over setup at start earlier + n) is
          ∙ joined first (lost_over setup at start earlier) (lost_with setup at g (event_at event s)));
    }
  where
    joined : (a b c : ℕ) → a + b + c ≡ a + (b + c)
    joined a b c = omega arith

dropped-sends : (n : ℕ) (b : OutboxValue) → (box.run b (many_sends n)).dropped ≡ b.dropped
dropped-sends zero b = refl
dropped-sends (suc n) b = dropped-sends n (box.after_call b sends)

dropped-answers : (at : Face) (board : Bool) (came : Came) (s : Standing) → dropped_in at (answers board came s).standing.faces ≡ dropped_in at s.faces
dropped-answers at board came s =
    let sent = sent-answers at board came s in
    ap (λ (x : Box). x.0.dropped) sent.box_is ∙ dropped-sends sent.count (face_of at s).outbox

dropped-read : (at : Face) (now : Reading) (s : Standing) → dropped_in at (reading_clocks now s).faces ≡ dropped_in at s.faces
dropped-read faces.Old now s = refl
dropped-read faces.New now s = refl

counted-halves : GoesOutInOrder → (setup : PeerSetup) (at : Face) (start : PeerGate) (first : ℕ) → KeepsHalves (IsCounted setup at start first)
counted-halves law setup at start first = record {
  events = record {
    quiet = λ s t earlier same so. record {
      of_gate = (gate-keeps setup start).quiet s t earlier same so.of_gate;
      fitted = fitted-quiet at s t same so.fitted;
      dropped_is = ap (λ (x : Standing). dropped_in at x.faces) (sym same) ∙ so.dropped_is;
    };
    event = counted-event setup at start first;
  };
  reads = λ now s earlier so. record {
    of_gate = (gate-halves setup start).reads now s earlier so.of_gate;
    fitted = fitted-read at now s so.fitted;
    dropped_is = dropped-read at now s ∙ so.dropped_is;
  };
  answers = λ board came s earlier so. record {
    of_gate = (gate-halves setup start).answers board came s earlier so.of_gate;
    fitted = fitted-answers law at board came s so.fitted;
    dropped_is = dropped-answers at board came s ∙ so.dropped_is;
  };
}

-- the cancels that aren't put
abbrev first_lost : Run → Face → ℕ
first_lost r at = lost_of at (starts_with r).puts (starts_with r).out

none-starts : (r : Run) (at : Face) → (dropped_in at (starts_empty r.file r.kept r.wall).faces ≡ 0) × (octets_in (waits_in at (starts_empty r.file r.kept r.wall).faces) ≡ 0)
none-starts r faces.Old = (refl, refl)
none-starts r faces.New = (refl, refl)

counted-begins : (r : Run) (at : Face) → IsCounted (setup_of r) at (first_gate r) (first_lost r at) (begins_at r) []
unfolding starts_at lost_over
counted-begins r at =
    let s = starts_empty r.file r.kept r.wall in
    let none = none-starts r at in
    record {
      of_gate = gate-begins r;
      fitted = fitted-begins r at;
      dropped_is = counts-all at (cancels_in s).puts (cancels_in s).out 0 s.faces
          (omega (arith, first-few r at, none.1, limit-starts r at, limit-setup r at)) (none.0 ∙ zero-is most)
          ∙ ap (λ (n : ℕ). min n most) (plain (first_lost r at));
    }
  where
    zero-is : (greatest : ℕ) → 0 ≡ min 0 greatest
    zero-is greatest = omega arith

    plain : (n : ℕ) → 0 + n ≡ n + 0
    plain n = omega arith

first-each : (r : Run) → length (starts_with r).puts ≡ length (starts_with r).out
first-each r =
    let s = setup_of r in
    let marks = marked_before r in
    let old = routed_at faces.Old (starts_out s.keys.0 marks.0) in
    let new = routed_at faces.New (starts_out s.keys.1 marks.1) in
    let puts = length-append (starts_puts s.keys.0 marks.0) (starts_puts s.keys.1 marks.1) in
    let out = ap length (map-append routed_of old new) ∙ length-append (map routed_of old) (map routed_of new) in
    let one = starts-length s.keys.0 faces.Old marks.0 in
    let two = starts-length s.keys.1 faces.New marks.1 in
    omega (arith, puts, out, one, two)

pub counts-dropped : GoesOutInOrder → CountsDropped
counts-dropped law r at =
    let setup = setup_of r in
    let start = first_gate r in
    let events = events_of r in
    let all = keeps-halves (IsCounted setup at start (first_lost r at)) (counted-halves law setup at start (first_lost r at)) r.board faces.Old r.comes (begins_at r) [] (counted-begins r at) in
    let first = lost-or-put at (starts_with r).puts (starts_with r).out (first-each r) in
    let cancels = ap length (cancels-are r at) in
    let rest = over-or-put setup at start events in
    let sent = length-append (cancels_at at r) (sent_over setup at start events) in
    let put = length-append (put_first at r) (put_over setup at start events) in
    let count : first_lost r at + lost_over setup at start events ≡ length (sent_in at r) - length (put_into at r) = omega (arith, first, cancels, rest, sent, put) in
    all.dropped_is ∙ ap (λ (n : ℕ). min n most) count
