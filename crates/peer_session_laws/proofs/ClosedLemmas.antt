-- No report on a session that is marked goes out in a run.

use Rattle.std.proofs.Common.{◌≡◌, ℕ, zero, suc, ◌+◌, ◌≤◌, Bool, true, false, List, [], ◌∷◌, ◌++◌, map, Option, None, Some, ◌⊎◌, inl, inr, if◌then◌else◌, refl, sym, ◌∙◌, subst, arith}
use Rattle.std.specs.List.{AllByRecursion}
use Rattle.ltp_segment.specs.Spelling.{segment_octets}
use Rattle.ltp_segment.specs.Values.{SegmentValue, a_receiver_cancel}
use Rattle.ltp_session.specs.Engine.{is_closed}
use Rattle.ltp_session.specs.Step.{by_system}
use Rattle.ltp_laws.specs.View.{IsIn}
use Rattle.ltp_laws.proofs.ListLemmas.{all-append}
use Rattle.gate_cases.specs.declared.face.Face.{Face}
use Rattle.gate_cases.specs.declared.face.Face.TheVariants.{Old, New}
use Rattle.gate_cases.specs.Faces.{other_of}
use Rattle.gateway_core.specs.declared.effects.Routed.{Routed}
use Rattle.gateway_core.specs.Gate.{RoutedValue, at_face, if_same}
use Rattle.gateway_core.specs.Effects.{routed_of}
use Rattle.gate_records.specs.Happened.{reports_on}
use Rattle.gate_records.proofs.ReportLemmas.{AreSmall, IfRead, IsOther, other-reports, small-read}
use Rattle.journal_file.specs.declared.kept.Pending.{Pending}
use Rattle.peer_sessions.specs.Keys.{FaceKeys}
use Rattle.peer_sessions.specs.Runs as faces
use Rattle.peer_sessions.specs.Sessions.{Sessions, hears, ticks}
use Rattle.peer_sessions.proofs.MemoryLemmas.{LAST}
use Rattle.peer_once.specs.Runs.{TimedEvent, sessions_in}
use Rattle.peer_gateway.specs.Gate.{BegunAt, PeerGate, PeerMoments, starts_out}
use Rattle.peer_gateway.specs.Laws.{put_at}
use Rattle.peer_gateway.specs.Steps.{PeerEvent, a_datagram, a_kept_piece, a_tick, peer_gate_after, with_outboxes}
use Rattle.peer_half.specs.Half.{Came, half}
use Rattle.peer_half.specs.Laws.{datagrams_at, tried_at, waiting_at}
use Rattle.peer_half.specs.Parts as parts
use Rattle.peer_half.specs.Runs.{EventIn, acts_of, after_events, after_halves, arrived_in, begins_at, event_at, events_in, events_of, first_gate, marked_before, resumed_each, resumed_in, setup_of, stands_at}
use Rattle.peer_half.specs.Standing.{Standing}
use Rattle.peer_run_laws.specs.Faces.{GoesOnceInOrder, put_first, put_over, starts_with}
use Rattle.peer_run_laws.proofs.OrderLemmas.{cancels-are}
use Rattle.peer_session_laws.specs.Events.{Beginning, events_at, face_of, gate_after, heard_first, step_with, with_begun}
use Rattle.peer_session_laws.specs.Runs.{beginning_of}
use Rattle.peer_session_laws.specs.Closed.{MarkedStayClosed, NoneReports}
use Rattle.peer_session_laws.proofs.FaceLemmas.{are-of-their-faces, with-outboxes}
use Rattle.peer_session_laws.proofs.OnceLemmas.{small-marked}
use Rattle.peer_session_laws.proofs.OutLemmas.{IsOutOf}
use Rattle.peer_session_laws.proofs.EndLemmas.{event-does}
use Rattle.peer_session_laws.proofs.PassLemmas.{said}
use Rattle.peer_session_laws.proofs.SaidLemmas.{AreQuiet, IsQuiet}
use Rattle.peer_session_laws.proofs.QuietLemmas.{IsSmallEvent, quiet-event}

-- ---- the events of a run have numbers of 64 bits

abbrev IsSmallIn : PeerEvent → Type 0
IsSmallIn (a_datagram face read) = IfRead AreSmall read
IsSmallIn a_tick = Unit {0}
IsSmallIn (a_kept_piece face octets came) = Unit {0}

abbrev AreSmallIn : List EventIn → Type 0
AreSmallIn events = AllByRecursion (λ (event : EventIn). IsSmallIn event.0) events

small-after : (more earlier : List EventIn) → AreSmallIn more → AreSmallIn earlier → AreSmallIn (after_events more earlier)
small-after [] earlier first all = all
small-after (event ∷ more) earlier first all = small-after more (event ∷ earlier) first.1 (first.0, all)

small-where : (next : Option Pending) (begins : Pending → List EventIn) → ((p : Pending) → AreSmallIn (begins p)) → AreSmallIn (parts.where_some next begins [])
small-where None begins each = tt
small-where (Some p) begins each = each p

small-if : (t : Bool) (more : List EventIn) → AreSmallIn more → AreSmallIn (if t then more else [])
small-if true more all = all
small-if false more all = tt

small-resumed : (n : ℕ) (face : Face) (s : Standing) → AreSmallIn (resumed_in n face s)
unfolding resumed_in
small-resumed zero face s = tt
small-resumed (suc n) face s =
    small-where (parts.next_resumed face s) (λ p. event_at (parts.begin_of p) s ∷ (if parts.is_added p s then resumed_in n face (parts.resumed p s) else []))
    (λ p. (tt, small-if (parts.is_added p s) (resumed_in n face (parts.resumed p s)) (small-resumed n face (parts.resumed p s))))

small-arrived : (face : Face) (datagrams : List (List ℕ)) (s : Standing) → AreSmallIn (arrived_in face datagrams s)
unfolding arrived_in
small-arrived face [] s = tt
small-arrived face (datagram ∷ more) s = (small-read datagram, small-arrived face more (parts.arrives face datagram s))

small-half : (face : Face) (came : Came) (s : Standing) → AreSmallIn (events_in face came s)
small-half face came s =
    let r = parts.reads came.reading s in
    let old = parts.resumes_at Old r in
    let t = parts.resumes r in
    all-append (λ (event : EventIn). IsSmallIn event.0) (resumed_each r) (event_at a_tick t ∷ arrived_in face came.datagrams (parts.ticks t))
    (all-append (λ (event : EventIn). IsSmallIn event.0) (resumed_in (parts.pending_in r.journal) Old r) (resumed_in (parts.pending_in old.journal) New old)
    (small-resumed (parts.pending_in r.journal) Old r) (small-resumed (parts.pending_in old.journal) New old))
    (tt, small-arrived face came.datagrams (parts.ticks t))

small-halves : (board : Bool) (face : Face) (comes : List Came) (s : Standing) (earlier : List EventIn) → AreSmallIn earlier
    → AreSmallIn (after_halves board face comes s earlier)
unfolding after_halves
small-halves board face [] s earlier all = all
small-halves board face (came ∷ more) s earlier all =
    small-halves board (other_of face) more (half board face came s).standing (after_events (events_in face came s) earlier)
    (small-after (events_in face came s) earlier (small-half face came s) all)

-- ---- and so have those of a face

small-same : (face at : Face) (event : TimedEvent) (events : List TimedEvent) → IsSmallEvent event → AllByRecursion IsSmallEvent events
    → AllByRecursion IsSmallEvent (if_same face at (event ∷ events) events)
small-same Old Old event events small all = (small, all)
small-same Old New event events small all = all
small-same New Old event events small all = all
small-same New New event events small all = (small, all)

small-begun : (at : Face) (now : ℕ) (begun : List BegunAt) (events : List TimedEvent) → AllByRecursion IsSmallEvent events → AllByRecursion IsSmallEvent (with_begun at now begun events)
unfolding with_begun
small-begun at now [] events all = all
small-begun at now (b ∷ more) events all =
    small-begun at now more (if_same b.face at ((now, faces.a_block b.block) ∷ events) events) (small-same b.face at (now, faces.a_block b.block) events tt all)

small-heard : (at : Face) (event : PeerEvent) (now : ℕ) (events : List TimedEvent) → IsSmallIn event → AllByRecursion IsSmallEvent events
    → AllByRecursion IsSmallEvent (heard_first at event now events)
small-heard at (a_datagram face read) now events small all = small-same face at (now, faces.a_datagram read) events small all
small-heard at a_tick now events small all = (tt, all)
small-heard at (a_kept_piece face octets came) now events small all = all

small-events : (b : Beginning) (at : Face) (events : List EventIn) → AreSmallIn events → AllByRecursion IsSmallEvent (events_at b at events)
unfolding events_at
small-events b at [] all = tt
small-events b at (event ∷ earlier) all =
    small-begun at (event.1.0.at at) (step_with b event earlier).effects.begun (heard_first at event.0 (event.1.0.at at) (events_at b at earlier))
    (small-heard at event.0 (event.1.0.at at) (events_at b at earlier) all.0 (small-events b at earlier all.1))

-- ---- what a face's sessions say with an event

said-quiet : (b : Beginning) (at : Face) (n : ℕ) (event : PeerEvent) (m : PeerMoments) (octets : ℕ × ℕ) (g : PeerGate) (earlier : List TimedEvent) → n ≤ LAST
    → is_closed n (at_face b.marks at) ≡ true → (at_face g.faces at).sessions ≡ sessions_in (face_of b at) earlier → IsSmallIn event → AllByRecursion IsSmallEvent earlier
    → AreQuiet n (said b.setup at event m (with_outboxes octets g))
said-quiet b Old n (a_datagram Old read) m octets g earlier most marked same small all =
    subst (λ (t : Sessions). AreQuiet n (hears b.setup.keys.0 t read (m.at Old)).effects.out) (sym same)
    (quiet-event (face_of b Old) n (m.at Old, faces.a_datagram read) earlier most marked (small, all))
said-quiet b New n (a_datagram New read) m octets g earlier most marked same small all =
    subst (λ (t : Sessions). AreQuiet n (hears b.setup.keys.1 t read (m.at New)).effects.out) (sym same)
    (quiet-event (face_of b New) n (m.at New, faces.a_datagram read) earlier most marked (small, all))
said-quiet b New n (a_datagram Old read) m octets g earlier most marked same small all = tt
said-quiet b Old n (a_datagram New read) m octets g earlier most marked same small all = tt
said-quiet b at n a_tick m octets g earlier most marked same small all =
    subst (λ (t : Sessions). AreQuiet n (ticks (at_face b.setup.keys at) t (m.at at)).effects.out) (sym (with-outboxes at octets g ∙ same))
    (quiet-event (face_of b at) n (m.at at, faces.a_tick) earlier most marked (tt, all))
said-quiet b at n (a_kept_piece face piece came) m octets g earlier most marked same small all = tt

-- ---- datagrams

quiet-in : (n : ℕ) (segment : SegmentValue) (segments : List SegmentValue) → AreQuiet n segments → IsIn segment segments → IsQuiet n segment
quiet-in n segment [] all among = absurd among
quiet-in n segment (s ∷ segments) all (inl same) = subst (IsQuiet n) same all.0
quiet-in n segment (s ∷ segments) all (inr among) = quiet-in n segment segments all.1 among

other-quiet : (n : ℕ) (segment : SegmentValue) → IsOther segment.content → IsQuiet n segment
other-quiet n segment other is = let none = other-reports segment.originator segment.session segment.content other in absurd (cc (none, is))

out-quiet : (at : Face) (n : ℕ) (segments : List SegmentValue) (out : List RoutedValue) → AreQuiet n segments → AllByRecursion (IsOutOf at segments) out
    → NoneReports n (datagrams_at at (map routed_of out))
out-quiet at n segments [] quiet all = tt
out-quiet at n segments (r ∷ out) quiet all = by r.face at all.0 (out-quiet at n segments out quiet all.1) where
  one : IsOther r.segment.content ⊎ IsIn r.segment segments → IsQuiet n r.segment
  one (inl other) = other-quiet n r.segment other
  one (inr among) = quiet-in n r.segment segments quiet among

  by : (face at : Face) → (face ≡ at → IsOther r.segment.content ⊎ IsIn r.segment segments) → NoneReports n (datagrams_at at (map routed_of out))
      → NoneReports n (if_same face at (segment_octets r.segment ∷ []) [] ++ datagrams_at at (map routed_of out))
  by Old Old is rest = (one (is refl), rest)
  by Old New is rest = rest
  by New Old is rest = rest
  by New New is rest = (one (is refl), rest)

-- of those some are put
put-quiet : (at : Face) (n : ℕ) (puts : List Bool) (out : List Routed) → NoneReports n (datagrams_at at out) → NoneReports n (put_at at puts out)
unfolding put_at
put-quiet at n [] out all = tt
put-quiet at n (is_put ∷ puts) [] all = tt
put-quiet at n (is_put ∷ puts) (r ∷ out) all = by is_put r.face at all (λ rest. put-quiet at n puts out rest)
  where
    by : (is_put : Bool) (face at : Face) → NoneReports n (if_same face at (r.datagram ∷ []) [] ++ datagrams_at at out)
        → (NoneReports n (datagrams_at at out) → NoneReports n (put_at at puts out))
        → NoneReports n ((if is_put then if_same face at (r.datagram ∷ []) [] else []) ++ put_at at puts out)
    by true Old Old all rest = (all.0, rest all.1)
    by true Old New all rest = rest all
    by true New Old all rest = rest all
    by true New New all rest = (all.0, rest all.1)
    by false Old Old all rest = rest all.1
    by false Old New all rest = rest all
    by false New Old all rest = rest all
    by false New New all rest = rest all.1

over-quiet : (b : Beginning) (at : Face) (n : ℕ) (events : List EventIn) → n ≤ LAST → is_closed n (at_face b.marks at) ≡ true → AreSmallIn events
    → NoneReports n (put_over b.setup at (gate_after b []) events)
unfolding put_over peer_gate_after
over-quiet b at n [] most marked all = tt
over-quiet b at n (event ∷ earlier) most marked all =
    let step = step_with b event earlier in
    let segments = said b.setup at event.0 event.1.0 (with_outboxes event.1.1 (gate_after b earlier)) in
    all-append (λ (datagram : List ℕ). reports_on datagram ≡ Some n → ⊥) (put_over b.setup at (gate_after b []) earlier) _
    (over-quiet b at n earlier most marked all.1)
    (put-quiet at n step.effects.puts (map routed_of step.effects.out)
    (out-quiet at n segments step.effects.out
    (said-quiet b at n event.0 event.1.0 event.1.1 (gate_after b earlier) (events_at b at earlier) most marked (are-of-their-faces b at earlier) all.0 (small-events b at earlier all.1))
    (event-does b at n event earlier).out))

cancels-quiet : (k : FaceKeys) (n : ℕ) (marks : List ℕ) → NoneReports n (map segment_octets (starts_out k marks))
cancels-quiet k n [] = tt
cancels-quiet k n (mark ∷ marks) =
    (other-quiet n (record { originator = k.party.peer; session = mark; content = a_receiver_cancel by_system }) tt, cancels-quiet k n marks)

none-first : (n : ℕ) (xs ys : List (List ℕ)) → NoneReports n (xs ++ ys) → NoneReports n xs × NoneReports n ys
none-first n [] ys all = (tt, all)
none-first n (x ∷ xs) ys all = let rest = none-first n xs ys all.1 in ((all.0, rest.0), rest.1)

pub marked-stay-closed : GoesOnceInOrder → MarkedStayClosed
unfolding peer_gate_after
marked-stay-closed law r at n legal marked =
    let b = beginning_of r in
    let most = small-marked r at n legal marked in
    let all = all-append (λ (datagram : List ℕ). reports_on datagram ≡ Some n → ⊥) (put_first at r) (put_over (setup_of r) at (first_gate r) (events_of r))
    (put-quiet at n (starts_with r).puts (starts_with r).out
    (subst (NoneReports n) (sym (cancels-are r at)) (cancels-quiet (at_face (setup_of r).keys at) n (at_face (marked_before r) at))))
    (over-quiet b at n (events_of r) (omega (arith, most)) marked (small-halves r.board Old r.comes (begins_at r) [] tt)) in
    let both = none-first n (tried_at at (acts_of r)) (waiting_at at (stands_at r)) (subst (NoneReports n) (sym (law r at)) all) in
    record { reports = both.0; waiting = both.1 }
