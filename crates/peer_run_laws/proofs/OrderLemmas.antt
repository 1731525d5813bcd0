-- What goes out at a face in a run is what was put there, in order.

use Rattle.std.proofs.Common.{◌≡◌, ℕ, zero, suc, ◌≤◌, Bool, List, [], ◌∷◌, ◌++◌, length, map, Option, refl, ap, ◌∙◌, sym, subst, arith, append_assoc}
use Rattle.std.proofs.lemmas.List.{append-nil, length-map, map-append}
use Rattle.ltp_segment.specs.Spelling.{segment_octets}
use Rattle.ltp_segment.specs.Values.{SegmentValue}
use Rattle.gate_cases.specs.declared.face.Face.{Face}
use Rattle.gate_cases.specs.declared.face.Face.TheVariants as faces
use Rattle.gate_cases.specs.Faces.{other_of}
use Rattle.gateway_core.specs.Effects.{routed_of}
use Rattle.gateway_core.specs.Gate.{RoutedValue, at_face, if_same}
use Rattle.outbox.specs.declared.reading.Reading.{Reading}
use Rattle.outbox.specs.Laws.{GoesOutInOrder}
use Rattle.outbox.specs.Outbox.{OutboxValue, octets_in}
use Rattle.outbox.specs.Run as box
use Rattle.outbox.specs.Run.{Call, datagrams_of, puts, reads, refuses, sends}
use Rattle.gate_face.specs.Faces.{FaceStanding}
use Rattle.face_room.specs.Queues.{may_wait}
use Rattle.face_room.proofs.QueueLemmas.{length-puts, queues_within}
use Rattle.peer_sessions.specs.Keys.{FaceKeys}
use Rattle.peer_gateway.specs.Keys.{PeerSetup}
use Rattle.peer_gateway.specs.Gate.{PeerGate, routed_at, sizes_out, starts_out, starts_puts}
use Rattle.peer_gateway.specs.Laws.{put_at}
use Rattle.peer_gateway.proofs.PutLemmas.{made_at, put-append, put-here, put-none}
use Rattle.peer_gateway.specs.Steps.{PeerEvent, peer_gate_after}
use Rattle.peer_half.specs.Journals.{Journalled, kept_in}
use Rattle.peer_half.specs.Standing.{Standing, face_of, starts_empty}
use Rattle.peer_half.specs.Starts.{cancels_in, starts_at}
use Rattle.peer_half.specs.Acts.{Acted}
use Rattle.peer_half.specs.Parts.{reading_clocks}
use Rattle.peer_half.specs.Half.{Came, answers, half, hears}
use Rattle.peer_half.specs.Run.{halves, recovers}
use Rattle.peer_half.specs.Runs.{EventIn, Run, acts_of, after_events, after_halves, begins_at, event_at, events_in, first_gate, marked_before, setup_of, stands_at}
use Rattle.peer_half.specs.Laws.{IsFitted, datagrams_at, tried_at, waiting_at}
use Rattle.peer_half.proofs.PutLemmas.{after-puts, all-wait, limit-all, octets-append, octets-same}
use Rattle.peer_half.proofs.StandingLemmas.{after_event, quiet_of}
use Rattle.peer_run_laws.specs.Faces.{GoesOnceInOrder, IsFittedInRuns, cancels_at, config_of, put_by, put_first, put_over, put_with}
use Rattle.peer_run_laws.proofs.WalkLemmas.{Core, Keeps, core-answers, keeps-hears}
use Rattle.peer_run_laws.proofs.BoxLemmas.{Box, many_sends, none-installed, sent-answers, tried-append}
use Rattle.peer_run_laws.proofs.GateLemmas.{IsGateOf, gate-begins, gate-event, gate-halves, gate-keeps}

-- ---- what is put

abbrev pub limit_of : FaceStanding → ℕ
limit_of f = (f.outbox).limit

abbrev pub waits_at : FaceStanding → List (List ℕ)
waits_at f = (f.outbox).waiting

-- ---- with the events of a half

-- what waits is what waited first and what was put since, of which some went before
pub record IsPut (setup : PeerSetup) (at : Face) (start : PeerGate) (first before : List (List ℕ)) (s : Standing) (events : List EventIn) : Type 0 where
  pub of_gate : IsGateOf setup start s events
  pub fitted : IsFitted at s
  pub waits : before ++ waiting_at at s ≡ first ++ put_over setup at start events

put-step : (setup : PeerSetup) (at : Face) (start : PeerGate) (first before : List (List ℕ)) (event : PeerEvent) (journal : Option Journalled) (s : Standing) (earlier : List EventIn)
    → IsPut setup at start first before s earlier → IsPut setup at start first before (after_event event journal s) (event_at event s ∷ earlier)
unfolding put_over
put-step setup at start first before event journal s earlier so =
    let t = after_event event journal s in
    let here = after-puts event s t at so.fitted refl refl refl in
    let g = peer_gate_after setup start earlier in
    let more = put_with setup at g (event_at event s) in
    let is : put_with s.setup at s.gate (event_at event s) ≡ more =
    ap (λ (t : PeerSetup). put_with t at s.gate (event_at event s)) (so.of_gate).setup_is
    ∙ ap (λ (x : PeerGate). put_with setup at x (event_at event s)) (so.of_gate).gate_is in
    record {
      of_gate = gate-event setup start event journal s earlier so.of_gate;
      fitted = here.fitted;
      waits = ap (λ ds. before ++ ds) (here.waits ∙ ap (λ ds. waiting_at at s ++ ds) is)
          ∙ (sym (append_assoc before (waiting_at at s) more)
          ∙ (ap (λ ds. ds ++ more) so.waits ∙ append_assoc first (put_over setup at start earlier) more));
    }

pub fitted-quiet : (at : Face) (s t : Standing) → quiet_of s ≡ quiet_of t → IsFitted at s → IsFitted at t
fitted-quiet at s t same fitted =
    let limit = ap (λ (x : Standing). limit_of (face_of at x)) same in
    let octets = ap (λ (x : Standing). octets_in (waiting_at at x)) same in
    record {
      limit = sym limit ∙ (fitted.limit ∙ ap (λ (x : Standing). (at_face x.setup.keys at).bounds.outbox) same);
      within = omega (arith, fitted.within, limit, octets);
    }

put-keeps : (setup : PeerSetup) (at : Face) (start : PeerGate) (first before : List (List ℕ)) → Keeps (IsPut setup at start first before)
put-keeps setup at start first before = record {
  quiet = λ s t earlier same so. record {
    of_gate = (gate-keeps setup start).quiet s t earlier same so.of_gate;
    fitted = fitted-quiet at s t same so.fitted;
    waits = ap (λ (x : Standing). before ++ waiting_at at x) (sym same) ∙ so.waits;
  };
  event = put-step setup at start first before;
}

-- the clocks are read
pub limit-read : (at : Face) (now : Reading) (s : Standing) → limit_of (face_of at (reading_clocks now s)) ≡ limit_of (face_of at s)
limit-read faces.Old now s = refl
limit-read faces.New now s = refl

waits-read : (at : Face) (came : Came) (s : Standing) → waiting_at at (reading_clocks came.reading s) ≡ waiting_at at s
waits-read faces.Old came s = refl
waits-read faces.New came s = refl

pub fitted-read : (at : Face) (now : Reading) (s : Standing) → IsFitted at s → IsFitted at (reading_clocks now s)
fitted-read faces.Old now s fitted = record { limit = fitted.limit; within = fitted.within }
fitted-read faces.New now s fitted = record { limit = fitted.limit; within = fitted.within }

put-hears : (setup : PeerSetup) (at : Face) (start : PeerGate) (first before : List (List ℕ)) (face : Face) (came : Came) (s : Standing) (earlier : List EventIn)
    → IsPut setup at start first before s earlier → IsPut setup at start first before (hears face came s) (after_events (events_in face came s) earlier)
put-hears setup at start first before face came s earlier so =
    keeps-hears (IsPut setup at start first before) (put-keeps setup at start first before) face came s earlier (record {
      of_gate = record { setup_is = (so.of_gate).setup_is; gate_is = (so.of_gate).gate_is };
      fitted = fitted-read at came.reading s so.fitted;
      waits = ap (λ ds. before ++ ds) (waits-read at came s) ∙ so.waits;
    })

-- ---- what goes out

limit-sends : (n : ℕ) (b : OutboxValue) → (box.run b (many_sends n)).limit ≡ b.limit
limit-sends zero b = refl
limit-sends (suc n) b = limit-sends n (box.after_call b sends)

kept-sends : (n : ℕ) (b : OutboxValue) → box.kept b (many_sends n) ≡ []
kept-sends zero b = refl
kept-sends (suc n) b = kept-sends n (box.after_call b sends)

pub order-answers : GoesOutInOrder → (at : Face) (board : Bool) (came : Came) (s : Standing)
    → tried_at at (answers board came s).acts ++ waiting_at at (answers board came s).standing ≡ waiting_at at s
order-answers law at board came s =
    let sent = sent-answers at board came s in
    let b : OutboxValue = (face_of at s).outbox in
    ap (λ ds. ds ++ waiting_at at (answers board came s).standing) sent.tried_is
    ∙ (ap (λ (x : Box). datagrams_of (box.tried b (many_sends sent.count)) ++ x.0.waiting) sent.box_is
    ∙ (law b (many_sends sent.count)
    ∙ (ap (λ ds. b.waiting ++ ds) (kept-sends sent.count b) ∙ append-nil b.waiting)))

pub limit-answers : (at : Face) (board : Bool) (came : Came) (s : Standing) → limit_of (face_of at (answers board came s).standing) ≡ limit_of (face_of at s)
limit-answers at board came s =
    let sent = sent-answers at board came s in
    ap (λ (x : Box). x.0.limit) sent.box_is ∙ limit-sends sent.count (face_of at s).outbox

-- when faces send, no more wait than did
pub fitted-answers : GoesOutInOrder → (at : Face) (board : Bool) (came : Came) (s : Standing) → IsFitted at s → IsFitted at (answers board came s).standing
fitted-answers law at board came s fitted =
    let after = (answers board came s).standing in
    let tried = tried_at at (answers board came s).acts in
    let limit = limit-answers at board came s in
    let all = ap octets_in (order-answers law at board came s) in
    let parts = octets-append tried (waiting_at at after) in
    record {
      limit = limit ∙ (fitted.limit ∙ ap (λ (c : Core). (at_face c.setup.keys at).bounds.outbox) (sym (core-answers board came s)));
      within = omega (arith, fitted.within, limit, all, parts);
    }

put-half : GoesOutInOrder → (setup : PeerSetup) (at : Face) (start : PeerGate) (first before : List (List ℕ)) (board : Bool) (face : Face) (came : Came) (s : Standing) (earlier : List EventIn)
    → IsPut setup at start first before s earlier
    → IsPut setup at start first (before ++ tried_at at (half board face came s).acts) (half board face came s).standing (after_events (events_in face came s) earlier)
unfolding half
put-half law setup at start first before board face came s earlier so =
    let h = hears face came s in
    let heard = put-hears setup at start first before face came s earlier so in
    record {
      of_gate = (gate-halves setup start).answers board came h (after_events (events_in face came s) earlier) heard.of_gate;
      fitted = fitted-answers law at board came h heard.fitted;
      waits = append_assoc before (tried_at at (answers board came h).acts) (waiting_at at (answers board came h).standing)
          ∙ (ap (λ ds. before ++ ds) (order-answers law at board came h) ∙ heard.waits);
    }

put-halves : GoesOutInOrder → (setup : PeerSetup) (at : Face) (start : PeerGate) (first before : List (List ℕ)) (board : Bool) (face : Face) (comes : List Came) (s : Standing) (earlier : List EventIn)
    → IsPut setup at start first before s earlier
    → IsPut setup at start first (before ++ tried_at at (halves board face comes s).acts) (halves board face comes s).standing (after_halves board face comes s earlier)
unfolding halves after_halves
put-halves law setup at start first before board face [] s earlier so =
    subst (λ (ds : List (List ℕ)). IsPut setup at start first ds s earlier) (sym (append-nil before)) so
put-halves law setup at start first before board face (came ∷ more) s earlier so =
    let now : Acted = half board face came s in
    let later : Acted = halves board (other_of face) more now.standing in
    let events = after_events (events_in face came s) earlier in
    let rest = put-halves law setup at start first (before ++ tried_at at now.acts) board (other_of face) more now.standing events
    (put-half law setup at start first before board face came s earlier so) in
    subst (λ (ds : List (List ℕ)). IsPut setup at start first ds later.standing (after_halves board (other_of face) more now.standing events))
    (append_assoc before (tried_at at now.acts) (tried_at at later.acts) ∙ ap (λ ds. before ++ ds) (sym (tried-append at now.acts later.acts))) rest

-- ---- before the first half

at-same : (at : Face) (segments : List SegmentValue) → datagrams_at at (map routed_of (routed_at at segments)) ≡ map segment_octets segments
at-same faces.Old [] = refl
at-same faces.New [] = refl
at-same faces.Old (segment ∷ more) = ap (λ ds. segment_octets segment ∷ ds) (at-same faces.Old more)
at-same faces.New (segment ∷ more) = ap (λ ds. segment_octets segment ∷ ds) (at-same faces.New more)

pub at-other : (at : Face) (segments : List SegmentValue) → datagrams_at at (map routed_of (routed_at (other_of at) segments)) ≡ []
at-other faces.Old [] = refl
at-other faces.New [] = refl
at-other faces.Old (segment ∷ more) = at-other faces.Old more
at-other faces.New (segment ∷ more) = at-other faces.New more

-- of both faces, the old one first
pub at-both : (at : Face) (xs ys : List RoutedValue) → datagrams_at at (map routed_of (xs ++ ys)) ≡ datagrams_at at (map routed_of xs) ++ datagrams_at at (map routed_of ys)
at-both at [] ys = refl
at-both at (x ∷ xs) ys =
    ap (λ ds. if_same x.face at (segment_octets x.segment ∷ []) [] ++ ds) (at-both at xs ys)
    ∙ sym (append_assoc (if_same x.face at (segment_octets x.segment ∷ []) []) (datagrams_at at (map routed_of xs)) (datagrams_at at (map routed_of ys)))

pub cancels-are : (r : Run) (at : Face) → datagrams_at at (cancels_in (starts_empty r.file r.kept r.wall)).out ≡ cancels_at at r
cancels-are r faces.Old =
    let old = starts_out (setup_of r).keys.0 (marked_before r).0 in
    let new = starts_out (setup_of r).keys.1 (marked_before r).1 in
    at-both faces.Old (routed_at faces.Old old) (routed_at faces.New new)
    ∙ (ap (λ ds. datagrams_at faces.Old (map routed_of (routed_at faces.Old old)) ++ ds) (at-other faces.Old new)
    ∙ (append-nil (datagrams_at faces.Old (map routed_of (routed_at faces.Old old))) ∙ at-same faces.Old old))
cancels-are r faces.New =
    let old = starts_out (setup_of r).keys.0 (marked_before r).0 in
    let new = starts_out (setup_of r).keys.1 (marked_before r).1 in
    at-both faces.New (routed_at faces.Old old) (routed_at faces.New new)
    ∙ (ap (λ ds. ds ++ datagrams_at faces.New (map routed_of (routed_at faces.New new))) (at-other faces.New old)
    ∙ at-same faces.New new)

pub limit-setup : (r : Run) (at : Face) → (config_of r at).outbox ≡ (at_face (setup_of r).keys at).bounds.outbox
limit-setup r faces.Old = refl
limit-setup r faces.New = refl

pub limit-starts : (r : Run) (at : Face) → limit_of (face_of at (starts_empty r.file r.kept r.wall)) ≡ (config_of r at).outbox
limit-starts r faces.Old = refl
limit-starts r faces.New = refl

none-starts : (r : Run) (at : Face) → waiting_at at (starts_empty r.file r.kept r.wall) ≡ []
none-starts r faces.Old = refl
none-starts r faces.New = refl

pub starts-length : (k : FaceKeys) (face : Face) (marks : List ℕ) → length (starts_puts k marks) ≡ length (made_at face (starts_out k marks))
starts-length k face marks =
    let out = starts_out k marks in
    length-puts (may_wait k.bounds 0) 0 (sizes_out out)
    ∙ (length-map out _ ∙ sym (length-map (routed_at face out) routed_of ∙ length-map out _))

-- those that are put at a face are those of its own
pub starts-put : (s : PeerSetup) (marks : List ℕ × List ℕ) (at : Face)
    → put_at at (starts_puts s.keys.0 marks.0 ++ starts_puts s.keys.1 marks.1)
    (map routed_of (routed_at faces.Old (starts_out s.keys.0 marks.0) ++ routed_at faces.New (starts_out s.keys.1 marks.1)))
    ≡ put_at at (starts_puts (at_face s.keys at) (at_face marks at)) (made_at at (starts_out (at_face s.keys at) (at_face marks at)))
starts-put s marks at = parts at ∙ by at
  where
    old : List SegmentValue
    old = starts_out s.keys.0 marks.0

    new : List SegmentValue
    new = starts_out s.keys.1 marks.1

    parts : (at : Face) → put_at at (starts_puts s.keys.0 marks.0 ++ starts_puts s.keys.1 marks.1) (map routed_of (routed_at faces.Old old ++ routed_at faces.New new))
        ≡ put_at at (starts_puts s.keys.0 marks.0) (made_at faces.Old old) ++ put_at at (starts_puts s.keys.1 marks.1) (made_at faces.New new)
    parts at =
        ap (put_at at (starts_puts s.keys.0 marks.0 ++ starts_puts s.keys.1 marks.1)) (map-append routed_of (routed_at faces.Old old) (routed_at faces.New new))
        ∙ put-append at (starts_puts s.keys.0 marks.0) (starts_puts s.keys.1 marks.1) (made_at faces.Old old) (made_at faces.New new) (starts-length s.keys.0 faces.Old marks.0)

    by : (at : Face) → put_at at (starts_puts s.keys.0 marks.0) (made_at faces.Old old) ++ put_at at (starts_puts s.keys.1 marks.1) (made_at faces.New new)
        ≡ put_at at (starts_puts (at_face s.keys at) (at_face marks at)) (made_at at (starts_out (at_face s.keys at) (at_face marks at)))
    by faces.Old =
        let here = put_at faces.Old (starts_puts s.keys.0 marks.0) (made_at faces.Old old) in
        ap (λ ds. here ++ ds) (put-none faces.Old faces.New (starts_puts s.keys.1 marks.1) new (λ e. absurd (cc))) ∙ append-nil here
    by faces.New =
        let here = put_at faces.New (starts_puts s.keys.1 marks.1) (made_at faces.New new) in
        ap (λ ds. ds ++ here) (put-none faces.New faces.Old (starts_puts s.keys.0 marks.0) old (λ e. absurd (cc)))

-- they have as many octets as may wait at most
starts-few : (k : FaceKeys) (face : Face) (marks : List ℕ) → octets_in (put_at face (starts_puts k marks) (made_at face (starts_out k marks))) ≤ k.bounds.outbox
starts-few k face marks =
    let out = starts_out k marks in
    let here = put-here face (may_wait k.bounds 0) 0 out in
    let low = (queues_within k.bounds 0 0 (sizes_out out)).waits (omega arith) in
    let same = octets-same (put_at face (starts_puts k marks) (made_at face out)) in
    omega (arith, here, low, same)

pub first-few : (r : Run) (at : Face) → octets_in (put_first at r) ≤ (at_face (setup_of r).keys at).bounds.outbox
first-few r at =
    let is = ap octets_in (starts-put (setup_of r) (marked_before r) at) in
    let few = starts-few (at_face (setup_of r).keys at) at (at_face (marked_before r) at) in
    omega (arith, is, few)

pub first-waits : (r : Run) (at : Face) → waiting_at at (begins_at r) ≡ put_first at r
unfolding starts_at
first-waits r at =
    let s = starts_empty r.file r.kept r.wall in
    let none = none-starts r at in
    all-wait at (cancels_in s).puts (cancels_in s).out s.faces
    (omega (arith, first-few r at, ap octets_in none, limit-starts r at, limit-setup r at))
    ∙ ap (λ ds. ds ++ put_first at r) none

pub fitted-begins : (r : Run) (at : Face) → IsFitted at (begins_at r)
unfolding starts_at
fitted-begins r at =
    let s = starts_empty r.file r.kept r.wall in
    let limit = limit-all at (cancels_in s).puts (cancels_in s).out s.faces ∙ limit-starts r at in
    record {
      limit = limit ∙ limit-setup r at;
      within = omega (arith, limit, limit-setup r at, first-few r at, ap octets_in (first-waits r at));
    }

pub limit-begins : (r : Run) (at : Face) → limit_of (face_of at (begins_at r)) ≡ (config_of r at).outbox
unfolding starts_at
limit-begins r at =
    let s = starts_empty r.file r.kept r.wall in
    limit-all at (cancels_in s).puts (cancels_in s).out s.faces ∙ limit-starts r at

-- ---- a run

tried-acts : (r : Run) (at : Face) → tried_at at (acts_of r) ≡ tried_at at (halves r.board faces.Old r.comes (begins_at r)).acts
tried-acts r at =
    tried-append at (recovers r.file r.kept r.wall).acts (halves r.board faces.Old r.comes (begins_at r)).acts
    ∙ ap (λ ds. ds ++ tried_at at (halves r.board faces.Old r.comes (begins_at r)).acts) (none-installed at (kept_in (starts_at r.file r.kept r.wall).journal))

put-begins : (r : Run) (at : Face) → IsPut (setup_of r) at (first_gate r) (put_first at r) [] (begins_at r) []
unfolding put_over
put-begins r at = record {
  of_gate = gate-begins r;
  fitted = fitted-begins r at;
  waits = first-waits r at ∙ sym (append-nil (put_first at r));
}

pub goes-once-in-order : GoesOutInOrder → GoesOnceInOrder
goes-once-in-order law r at =
    ap (λ ds. ds ++ waiting_at at (stands_at r)) (tried-acts r at)
    ∙ (put-halves law (setup_of r) at (first_gate r) (put_first at r) [] r.board faces.Old r.comes (begins_at r) [] (put-begins r at)).waits

pub fitted-in-runs : GoesOutInOrder → IsFittedInRuns
fitted-in-runs law r at = (
  fitted-begins r at,
  (put-halves law (setup_of r) at (first_gate r) (put_first at r) [] r.board faces.Old r.comes (begins_at r) [] (put-begins r at)).fitted,
)

-- ---- a half alone

alone : (at : Face) (s : Standing) → IsFitted at s → IsPut s.setup at s.gate (waiting_at at s) [] s []
unfolding put_over peer_gate_after
alone at s fitted = record {
  of_gate = record { setup_is = refl; gate_is = refl };
  fitted = fitted;
  waits = sym (append-nil (waiting_at at s));
}

pub half-puts : (at face : Face) (came : Came) (s : Standing) → IsFitted at s → waiting_at at (hears face came s) ≡ waiting_at at s ++ put_by at face came s
half-puts at face came s fitted = (put-hears s.setup at s.gate (waiting_at at s) [] face came s [] (alone at s fitted)).waits

pub fitted-half : GoesOutInOrder → (board : Bool) (at face : Face) (came : Came) (s : Standing) → IsFitted at s → IsFitted at (half board face came s).standing
fitted-half law board at face came s fitted = (put-half law s.setup at s.gate (waiting_at at s) [] board face came s [] (alone at s fitted)).fitted
