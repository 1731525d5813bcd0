-- The numbers of an end's sends, and that no two blocks at an end have one origin.

use Rattle.std.proofs.Common.{◌≡◌, ℕ, ◌+◌, ◌==◌, length, List, [], ◌∷◌, ◌++◌, Option, None, Some, Result, Ok, Err, refl, sym, ◌∙◌, ap, subst, inl, inr, nat_lt, if◌then◌else◌}
use Rattle.std.specs.List.{AllByRecursion, slice_get}
use Rattle.std.proofs.lemmas.List.{append_assoc}
use Rattle.ltp_segment.specs.declared.fault.SegmentCause.{SegmentCause}
use Rattle.ltp_segment.specs.Values.{SegmentValue}
use Rattle.ltp_session.specs.declared.name.SessionName.{SessionName}
use Rattle.ltp_session.specs.Step.{StepValue}
use Rattle.ltp_session.specs.Step.{ends as over}
use Rattle.ltp_session.specs.Sender.{Sending, sender_answers}
use Rattle.ltp_session.specs.Receiver.{Receiving, receiver_answers}
use Rattle.ltp_session.specs.Table.{find}
use Rattle.ltp_session.specs.Engine.{Party, Engine, EngineStep, Reply, SubmitFault, UpValue, submit_fault, submits_unless, submits, submit_step, is_used, sender_replies, evicted_by, without_evicted, receiver_replies, admission_of, to_sender, to_receiver, arrives, replied_or_stranger, datagram_step, tick_step}
use Rattle.ltp_laws.specs.View.{IsIn}
use Rattle.ltp_laws.proofs.FrameLemmas.{next-with_receiver}
use Rattle.ltp_laws.proofs.ListLemmas.{both_arms}
use Rattle.gate_cases.specs.declared.face.Face.{Face}
use Rattle.gateway_core.specs.Gate.{Gate, GateSetup, does_at, hears_at, judged_at, sends_at, in_turn, passes_at}
use Rattle.gate_cases.specs.declared.judged.Judged.{Judged}
use Rattle.gate_cases.specs.Faces.{other_of}
use Rattle.path_laws.specs.declared.effects.UpAt.{UpAt}
use Rattle.path_laws.specs.declared.places.PathEnd.{PathEnd}
use Rattle.path_laws.specs.declared.places.PathEnd.TheVariants as ends
use Rattle.path_laws.specs.Places.{end_of, node_place, across, Stand, at_node, at_gate, stand_of}
use Rattle.path_laws.specs.Path.{PathSetup, Path, PathStep, SentFrom, PathEvent, sends, delivers, clock_shows, at_path_end, node_does, sends_block, sent_unless, comes_to, delivers_if, all_tick, nothing_done, then_does, path_step, starts_path}
use Rattle.path_laws.specs.Log.{Begun, a_send, a_piece, a_report, begun_unless, pieces_begun, report_begun, decided_begun, passed_begun, come_begun, delivered_begun, begun_at, begun_in}
use Rattle.path_laws.specs.Laws.{IsSameUp, IsSameOrigin, NoTwo, ShareOrigin, send_of, sends_of, CountFrom}
use Rattle.path_laws.proofs.ChunkLemmas.{begun_as}
use Rattle.path_laws.proofs.LogLemmas.{all-of, all-in, all-more}
use Rattle.path_laws.proofs.OriginLemmas.{pieces-all, report-all}

-- ---- no two blocks at an end have one origin

pub no-two-weaker : {X : Type 0} (R S : X → X → Type 0) → ((x y : X) → R x y → S x y) → (xs : List X) → NoTwo S xs → NoTwo R xs
no-two-weaker R S gives [] none = tt
no-two-weaker R S gives (x ∷ xs) none =
    (all-of (λ y. R x y → ⊥) xs (λ y is related. all-in (λ z. S x z → ⊥) xs none.0 y is (gives x y related)), no-two-weaker R S gives xs none.1)

-- two sessions of one origin are one
one-session : (begun : List Begun) → NoTwo IsSameOrigin begun → (b c : Begun) → IsIn b begun → IsIn c begun → b.origin ≡ c.origin → b ≡ c
one-session [] none b c in_b in_c same = absurd in_b
one-session (z ∷ begun) none b c (inl is_b) (inl is_c) same = sym is_b ∙ is_c
one-session (z ∷ begun) none b c (inl is_b) (inr in_c) same =
    absurd (all-in (λ y. IsSameOrigin z y → ⊥) begun none.0 c in_c (ap (λ (x : Begun). x.origin) is_b ∙ same))
one-session (z ∷ begun) none b c (inr in_b) (inl is_c) same =
    absurd (all-in (λ y. IsSameOrigin z y → ⊥) begun none.0 b in_b (ap (λ (x : Begun). x.origin) is_c ∙ sym same))
one-session (z ∷ begun) none b c (inr in_b) (inr in_c) same = one-session begun none.1 b c in_b in_c same

pub all-different : (begun : List Begun) (ups : List UpAt) → NoTwo IsSameOrigin begun → NoTwo IsSameUp ups → NoTwo (ShareOrigin begun) ups
all-different begun ups origins once =
    no-two-weaker (ShareOrigin begun) IsSameUp
    (λ u v share. record {
      place = share.first_place ∙ sym share.second_place;
      session = sym share.first_number
          ∙ (ap (λ (x : Begun). x.session) (one-session begun origins share.first share.second share.first_among share.second_among share.same)
          ∙ share.second_number);
    }) ups once

-- ---- the next number of an engine

abbrev ok_step : EngineStep → Result EngineStep SubmitFault
ok_step step = Ok step

-- a block that is sent takes one
takes-one : (p : Party) (e : Engine) (block : List ℕ) (red now : ℕ) (step : EngineStep) → submit_step p e (submits p e block red now) ≡ Ok step → step.engine.next ≡ e.next + 1
unfolding submits
takes-one p e block red now step is = by (submit_fault p e block) is where
  from-ok : (x step : EngineStep) → x.engine.next ≡ e.next + 1 → ok_step x ≡ ok_step step → step.engine.next ≡ e.next + 1
  from-ok x step one is = let same : x ≡ step = cc in subst (λ (t : EngineStep). t.engine.next ≡ e.next + 1) same one

  by : (fault : Option SubmitFault) → submit_step p e (submits_unless fault p e block red now) ≡ Ok step → step.engine.next ≡ e.next + 1
  by (Some fault) is = absurd (cc)
  by None is = from-ok _ step refl is

abbrev Keeps : Engine → SessionName → Option Reply → Type 0
Keeps e name reply = (replied_or_stranger e name reply).engine.next ≡ e.next

sender-keeps : (e : Engine) (name : SessionName) (n : ℕ) (step : Option (StepValue Sending)) → Keeps e name (sender_replies e n step)
sender-keeps e name n None = refl
sender-keeps e name n (Some step) = refl

receiver-keeps : (p : Party) (e : Engine) (name : SessionName) (n : ℕ) (step : Option (StepValue Receiving)) → Keeps e name (receiver_replies p e n step)
receiver-keeps p e name n None = refl
receiver-keeps p e name n (Some step) =
    next-with_receiver (without_evicted e (evicted_by p e (find n e.receivers) step.next)) n step.next ∙ by (evicted_by p e (find n e.receivers) step.next)
  where
    by : (gone : Option ℕ) → (without_evicted e gone).next ≡ e.next
    by None = refl
    by (Some m) = next-with_receiver e m over

hearing-keeps : (p : Party) (e : Engine) (read : Result SegmentValue (ℕ × SegmentCause)) (now : ℕ) → (datagram_step p e read now).engine.next ≡ e.next
unfolding datagram_step arrives
hearing-keeps p e (Err refusal) now = refl
hearing-keeps p e (Ok s) now =
    both_arms (Keeps e name) (s.originator == p.own) (if is_used p e s.session then to_sender p e s now else None) (if s.originator == p.peer then to_receiver p e s now else None)
    (both_arms (Keeps e name) (is_used p e s.session) (to_sender p e s now) None (sender-keeps e name s.session (sender_answers p.policy (find s.session e.senders) s.content now)) refl)
    (both_arms (Keeps e name) (s.originator == p.peer) (to_receiver p e s now) None
    (receiver-keeps p e name s.session (receiver_answers p.policy (admission_of p e s.session) (find s.session e.receivers) s.content now)) refl)
  where
    name : SessionName
    name = record { originator = s.originator; number = s.session }

-- ---- the sends of an end

-- none at the gate
abbrev IsNoSend : PathEnd → Begun → Type 0
IsNoSend end b = send_of end b.origin ≡ []

none-of : (end : PathEnd) (begun : List Begun) → AllByRecursion (IsNoSend end) begun → sends_of end begun ≡ []
unfolding sends_of
none-of end [] all = refl
none-of end (b ∷ begun) all = rw all.0 (none-of end begun all.1)

piece-none : (end from : PathEnd) (n i : ℕ) → send_of end (a_piece from n i) ≡ []
piece-none ends.Old from n i = refl
piece-none ends.New from n i = refl

report-none : (end from : PathEnd) (n : ℕ) → send_of end (a_report from n) ≡ []
report-none ends.Old from n = refl
report-none ends.New from n = refl

passed-none : (end : PathEnd) (s : GateSetup) (face : Face) (now : ℕ) (ups : List UpValue) (g : Gate) → AllByRecursion (IsNoSend end) (passed_begun s face now ups g)
unfolding passed_begun
passed-none end s face now [] g = tt
passed-none end s face now (up ∷ ups) g =
    let j : Judged = judged_at s face now up.body g in
    all-more (IsNoSend end) (decided_begun s face now up.session j g) (passed_begun s face now ups (passes_at s face now up g).gate)
    (all-more (IsNoSend end) (pieces_begun s (other_of face) now (end_of face) up.session 0 j.pieces g)
    (report_begun s face now (end_of face) up.session j.report (in_turn (sends_at s (other_of face) now) j.pieces g).gate)
    (pieces-all (IsNoSend end) s (other_of face) now (end_of face) up.session 0 j.pieces g (λ k piece session is. piece-none end (end_of face) up.session (0 + k)))
    (report-all (IsNoSend end) s face now (end_of face) up.session j.report (in_turn (sends_at s (other_of face) now) j.pieces g).gate (λ asked session is. report-none end (end_of face) up.session)))
    (passed-none end s face now ups (passes_at s face now up g).gate)

-- an event's numbers, and the next one after it
record Counts (end : PathEnd) (old new : Path) (begun : List Begun) : Type 0 where
  numbers : (more : List ℕ) → CountFrom (at_path_end new.nodes end).next more → CountFrom (at_path_end old.nodes end).next (sends_of end begun ++ more)

count-same : (end : PathEnd) (old new : Path) (begun : List Begun) → sends_of end begun ≡ [] → (at_path_end new.nodes end).next ≡ (at_path_end old.nodes end).next → Counts end old new begun
count-same end old new begun none same = record {
  numbers = λ more counts. subst (λ l. CountFrom (at_path_end old.nodes end).next (l ++ more)) (sym none) (subst (λ n. CountFrom n more) same counts);
}

none-begun : (end : PathEnd) → sends_of end [] ≡ []
unfolding sends_of
none-begun end = refl

count-come : (end : PathEnd) (s : PathSetup) (w : Path) (stand : Stand) (segment : SegmentValue) → Counts end w (comes_to s w stand segment).path (come_begun s w stand segment)
count-come end s w (at_gate face) segment =
    count-same end w (comes_to s w (at_gate face) segment).path (come_begun s w (at_gate face) segment)
    (none-of end (come_begun s w (at_gate face) segment) (passed-none end s.gate face w.now (hears_at s.gate face w.gate (Ok segment) w.now).effects.ups (does_at face w.gate (hears_at s.gate face w.gate (Ok segment) w.now)).gate)) refl
count-come ends.Old s w (at_node ends.Old) segment = count-same ends.Old w (comes_to s w (at_node ends.Old) segment).path [] (none-begun ends.Old) (hearing-keeps s.nodes.0 w.nodes.0 (Ok segment) w.now)
count-come ends.New s w (at_node ends.Old) segment = count-same ends.New w (comes_to s w (at_node ends.Old) segment).path [] (none-begun ends.New) refl
count-come ends.Old s w (at_node ends.New) segment = count-same ends.Old w (comes_to s w (at_node ends.New) segment).path [] (none-begun ends.Old) refl
count-come ends.New s w (at_node ends.New) segment = count-same ends.New w (comes_to s w (at_node ends.New) segment).path [] (none-begun ends.New) (hearing-keeps s.nodes.1 w.nodes.1 (Ok segment) w.now)

count-tick : (end : PathEnd) (s : PathSetup) (w : Path) (now : ℕ) → (at_path_end (all_tick s now w).path.nodes end).next ≡ (at_path_end w.nodes end).next
unfolding then_does tick_step
count-tick ends.Old s w now = refl
count-tick ends.New s w now = refl

count-sent : (end from : PathEnd) (s : PathSetup) (w : Path) (block : List ℕ)
    → Counts end w (sent_unless from w (sends_block s w from block)).path (begun_at s w (sends from block))
unfolding sends_of
count-sent end from s w block = by end from (sends_block s w from block) refl where
  by : (end from : PathEnd) (r : Result EngineStep SubmitFault) → sends_block s w from block ≡ r
      → Counts end w (sent_unless from w r).path (begun_unless (begun_as (node_place from) (at_path_end w.nodes from).next block (a_send from (at_path_end w.nodes from).next)) r)
  by end from (Err fault) is = count-same end w w [] (none-begun end) refl
  by ends.Old ends.Old (Ok step) is = record {
    numbers = λ more counts. (refl, subst (λ n. CountFrom n more) (takes-one s.nodes.0 w.nodes.0 block (length block) w.now step is) counts);
  }
  by ends.New ends.New (Ok step) is = record {
    numbers = λ more counts. (refl, subst (λ n. CountFrom n more) (takes-one s.nodes.1 w.nodes.1 block (length block) w.now step is) counts);
  }
  by ends.Old ends.New (Ok step) is = count-same ends.Old w (node_does ends.New w step).path (begun_as (node_place ends.New) w.nodes.1.next block (a_send ends.New w.nodes.1.next) ∷ []) refl refl
  by ends.New ends.Old (Ok step) is = count-same ends.New w (node_does ends.Old w step).path (begun_as (node_place ends.Old) w.nodes.0.next block (a_send ends.Old w.nodes.0.next) ∷ []) refl refl

count-step : (end : PathEnd) (s : PathSetup) (w : Path) (event : PathEvent) → Counts end w (path_step s w event).path (begun_at s w event)
unfolding path_step
count-step end s w (sends from block) = count-sent end from s w block
count-step end s w (delivers k) = by (slice_get w.sent k) where
  by : (got : Option SentFrom) → Counts end w (delivers_if s w got).path (delivered_begun s w got)
  by None = count-same end w w [] (none-begun end) refl
  by (Some d) = count-come end s w (stand_of (across d.from)) d.segment
count-step end s w (clock_shows now) =
    count-same end w (if nat_lt now w.now then stay else all_tick s now w).path [] (none-begun end)
    (both_arms (λ (t : PathStep). (at_path_end t.path.nodes end).next ≡ (at_path_end w.nodes end).next) (nat_lt now w.now) stay (all_tick s now w) refl (count-tick end s w now))
  where
    stay : PathStep
    stay = record { path = w; effects = nothing_done }

sends-append : (end : PathEnd) (bs cs : List Begun) → sends_of end (bs ++ cs) ≡ sends_of end bs ++ sends_of end cs
unfolding sends_of
sends-append end [] cs = refl
sends-append end (b ∷ bs) cs =
    ap (λ rest. send_of end b.origin ++ rest) (sends-append end bs cs) ∙ sym (append_assoc (send_of end b.origin) (sends_of end bs) (sends_of end cs))

pub all-count : (end : PathEnd) (s : PathSetup) (w : Path) (events : List PathEvent) → CountFrom (at_path_end w.nodes end).next (sends_of end (begun_in s w events))
unfolding begun_in sends_of
all-count end s w [] = tt
all-count end s w (event ∷ events) =
    subst (λ l. CountFrom (at_path_end w.nodes end).next l) (sym (sends-append end (begun_at s w event) (begun_in s (path_step s w event).path events)))
    ((count-step end s w event).numbers (sends_of end (begun_in s (path_step s w event).path events)) (all-count end s (path_step s w event).path events))

pub all-count-start : (end : PathEnd) (s : PathSetup) (start : ℕ) (events : List PathEvent) → CountFrom (at_path_end s.nodes end).first (sends_of end (begun_in s (starts_path s start) events))
all-count-start ends.Old s start events = all-count ends.Old s (starts_path s start) events
all-count-start ends.New s start events = all-count ends.New s (starts_path s start) events
