-- In every run a delivery leaves less to do, and every deadline is ahead.

use Rattle.std.proofs.Common.{◌≡◌, ℕ, zero, suc, ◌+◌, ◌^◌, ◌<◌, ◌≤◌, Bool, true, false, ◌==◌, List, [], ◌∷◌, ◌++◌, length, drop, Option, None, Some, refl, sym, ◌∙◌, ap, arith, subst, inl, inr, if◌then◌else◌}
use Rattle.std.specs.List.{slice_get}
use Rattle.std.specs.Option.{option_map}
use Rattle.std.proofs.lemmas.Bool.{eqb-true}
use Rattle.std.proofs.lemmas.List.{drop-append-le}
use Rattle.std.proofs.lemmas.Option.{slice_get_within}
use Rattle.ltp_segment.specs.Kinds.{is_checkpoint}
use Rattle.ltp_segment.specs.Legal.{AreSerials, IsContent}
use Rattle.ltp_segment.specs.Values.{PieceValue, ContentValue, SegmentValue, a_piece, a_report, a_report_ack, a_sender_cancel, a_sender_cancel_ack, a_receiver_cancel, a_receiver_cancel_ack}
use Rattle.ltp_session.specs.declared.name.SessionName.{SessionName}
use Rattle.ltp_session.specs.declared.timer.Timer.{Timer}
use Rattle.ltp_session.specs.Step.{ends, StepValue}
use Rattle.ltp_session.specs.Table.{find, AreAscending}
use Rattle.ltp_session.specs.Views.{headed_all}
use Rattle.ltp_session.specs.Sender.{Sending, SendingPhase, sender_open, sender_cancelling, sender_answers, sender_deadline}
use Rattle.ltp_session.specs.Receiver.{Receiving, ReceivingPhase, receiver_open, receiver_cancelling, receiver_answers, receiver_deadline, receiving_timer}
use Rattle.ltp_session.specs.Engine.{Party, Engine, Reply, sender_replies, receiver_replies, with_receiver, without_evicted, evicted_by, arrives, to_sender, to_receiver, is_used, admission_of, earlier, least_deadline, next_deadline}
use Rattle.ltp_session.specs.World.{End, first_end, second_end, other, at_end, Sent, World, Event, sent_by, replies, delivered, run, starts_world, ArePeers}
use Rattle.ltp_laws.specs.Checkpoints.{IsCurrent, HasAsked}
use Rattle.ltp_laws.specs.Deadlines.{Waits, SenderAhead, ReceiverAhead, PhaseAhead}
use Rattle.ltp_laws.specs.Facts.{SessionFacts}
use Rattle.ltp_laws.specs.Kept.{IfKept}
use Rattle.ltp_laws.specs.Log.{HasFactsBy, submissions}
use Rattle.ltp_laws.specs.View.{IsIn, View, view, said, is_of}
use Rattle.ltp_laws.specs.Writable.{HasSmallNumbers}
use Rattle.ltp_laws.proofs.DeadlineLemmas.{deadlines_are_ahead}
use Rattle.ltp_laws.proofs.FactLemmas.{session-keep}
use Rattle.ltp_laws.proofs.FrameLemmas.{senders-with_receiver}
use Rattle.ltp_laws.proofs.ListLemmas.{both_arms, answered}
use Rattle.ltp_laws.proofs.LogLemmas.{every_submitted, engines_are_well_formed}
use Rattle.ltp_laws.proofs.TableLemmas.{self_eqb, find_below}
use Rattle.ltp_laws.proofs.WritableLemmas.{segments_can_be_written}
use Rattle.ltp_drain.specs.Clean.{link_deadline}
use Rattle.ltp_drain.specs.Left.{burden, senders_left, sent_burden, link_left}
use Rattle.ltp_drain.proofs.FallLemmas.{contents_burden, HasSerial, KeptHasSerial, sender-falls, receiver-lighter, left-settled}

-- ---- an engine

abbrev ReplyFalls : Engine → ℕ → Reply → Type 0
ReplyFalls e came r = senders_left r.engine.senders + contents_burden r.out < senders_left e.senders + came

abbrev AnswerFalls : Engine → ℕ → Option Reply → Type 0
AnswerFalls e came None = Unit {0}
AnswerFalls e came (Some r) = ReplyFalls e came r

sender-replies : (p : Party) (e : Engine) (s : SegmentValue) (now : ℕ) → AreAscending 0 e.senders → KeptHasSerial (find s.session e.senders)
    → AnswerFalls e (burden s.content) (to_sender p e s now)
sender-replies p e s now ascending serial = by_step (sender_answers p.policy (find s.session e.senders) s.content now) refl
  where
    by_step : (o : Option (StepValue Sending)) → sender_answers p.policy (find s.session e.senders) s.content now ≡ o
        → AnswerFalls e (burden s.content) (sender_replies e s.session o)
    by_step None is = tt
    by_step (Some t) is =
        let falls = sender-falls p.policy (find s.session e.senders) s.content now t serial is in
        let settled = left-settled s.session t.next e.senders ascending in
        omega (arith, falls, settled)

senders-without_evicted : (e : Engine) (gone : Option ℕ) → (without_evicted e gone).senders ≡ e.senders
senders-without_evicted e None = refl
senders-without_evicted e (Some n) = senders-with_receiver e n ends

receiver-replies : (p : Party) (e : Engine) (s : SegmentValue) (now : ℕ) → AnswerFalls e (burden s.content) (to_receiver p e s now)
receiver-replies p e s now = by_step (receiver_answers p.policy (admission_of p e s.session) (find s.session e.receivers) s.content now) refl
  where
    by_step : (o : Option (StepValue Receiving)) → receiver_answers p.policy (admission_of p e s.session) (find s.session e.receivers) s.content now ≡ o
        → AnswerFalls e (burden s.content) (receiver_replies p e s.session o)
    by_step None is = tt
    by_step (Some t) is =
        let lighter = receiver-lighter p.policy (admission_of p e s.session) (find s.session e.receivers) s.content now t is in
        let gone : Option ℕ = evicted_by p e (find s.session e.receivers) t.next in
        let same : senders_left (with_receiver (without_evicted e gone) s.session t.next).senders ≡ senders_left e.senders =
        ap senders_left (senders-with_receiver (without_evicted e gone) s.session t.next ∙ senders-without_evicted e gone) in
        omega (arith, lighter, same)

arrival-falls : (p : Party) (e : Engine) (s : SegmentValue) (now : ℕ) → AreAscending 0 e.senders → KeptHasSerial (find s.session e.senders)
    → AnswerFalls e (burden s.content) (arrives p e s now)
unfolding arrives
arrival-falls p e s now ascending serial =
    both_arms (AnswerFalls e (burden s.content)) (s.originator == p.own) _ _
    (both_arms (AnswerFalls e (burden s.content)) (is_used p e s.session) _ _ (sender-replies p e s now ascending serial) tt)
    (both_arms (AnswerFalls e (burden s.content)) (s.originator == p.peer) _ _ (receiver-replies p e s now) tt)

-- ---- a link

got-drop : {X : Type 0} (xs : List X) (k : ℕ) (x : X) → slice_get xs k ≡ Some x → drop k xs ≡ x ∷ drop (suc k) xs
got-drop [] k x is = absurd (cc)
got-drop (y ∷ xs) zero x is = answered (λ z. y ∷ xs ≡ z ∷ xs) y x is refl
got-drop (y ∷ xs) (suc k) x is = got-drop xs k x is

pub sent_burden-append : (xs ys : List Sent) → sent_burden (xs ++ ys) ≡ sent_burden xs + sent_burden ys
unfolding sent_burden
sent_burden-append [] ys = omega arith
sent_burden-append (x ∷ xs) ys = let rest = sent_burden-append xs ys in omega (arith, rest)

pub sent_burden-by : (end : End) (name : SessionName) (cs : List ContentValue) → sent_burden (sent_by end (headed_all name cs)) ≡ contents_burden cs
unfolding sent_burden contents_burden
sent_burden-by end name [] = refl
sent_burden-by end name (c ∷ cs) = ap (λ n. burden c + n) (sent_burden-by end name cs)

burden-some : (c : ContentValue) → 0 < burden c
burden-some (a_piece q) = omega arith
burden-some (a_report x) = omega arith
burden-some (a_report_ack serial) = omega arith
burden-some (a_sender_cancel reason) = omega arith
burden-some a_sender_cancel_ack = omega arith
burden-some (a_receiver_cancel reason) = omega arith
burden-some a_receiver_cancel_ack = omega arith

-- the engines' senders are in order, and their serials are bounded
pub record AreTame (w : World) : Type 0 where
  pub ascending : (o : End) → AreAscending 0 (at_end w.engines o).senders
  pub serials : (o : End) (n : ℕ) → KeptHasSerial (find n (at_end w.engines o).senders)

reply-falls : (w : World) (end : End) (name : SessionName) (k : ℕ) (d : Sent) (reply : Option Reply) → slice_get w.sent k ≡ Some d
    → AnswerFalls (at_end w.engines end) (burden d.segment.content) reply
    → link_left (replies w end name reply) (suc k) < link_left w k
unfolding sent_burden
reply-falls w end name k d None got falls =
    let some = burden-some d.segment.content in
    let here = ap sent_burden (got-drop w.sent k d got) in
    omega (arith, some, here)
reply-falls w end name k d (Some r) got falls = by_end end falls
  where
    here : sent_burden (drop k w.sent) ≡ burden d.segment.content + sent_burden (drop (suc k) w.sent)
    here = ap sent_burden (got-drop w.sent k d got)

    within : suc k ≤ length w.sent
    within = let low = slice_get_within w.sent k d got in omega (arith, low)

    more : (end : End) → sent_burden (drop (suc k) (w.sent ++ sent_by end (headed_all name r.out))) ≡ sent_burden (drop (suc k) w.sent) + contents_burden r.out
    more end = ap sent_burden (drop-append-le (suc k) w.sent (sent_by end (headed_all name r.out)) within)
        ∙ (sent_burden-append (drop (suc k) w.sent) (sent_by end (headed_all name r.out)) ∙ ap (λ n. sent_burden (drop (suc k) w.sent) + n) (sent_burden-by end name r.out))

    by_end : (end : End) → ReplyFalls (at_end w.engines end) (burden d.segment.content) r
        → link_left (replies w end name (Some r)) (suc k) < link_left w k
    by_end first_end falls = let before = here in let after = more first_end in omega (arith, before, after, falls)
    by_end second_end falls = let before = here in let after = more second_end in omega (arith, before, after, falls)

pub delivery-falls : (parties : Party × Party) (w : World) (k : ℕ) (d : Sent) → AreTame w → slice_get w.sent k ≡ Some d
    → link_left (delivered parties w (Some d)) (suc k) < link_left w k
delivery-falls parties w k d tame got =
    reply-falls w (other d.from) _ k d (arrives (at_end parties (other d.from)) (at_end w.engines (other d.from)) d.segment w.now) got
    (arrival-falls (at_end parties (other d.from)) (at_end w.engines (other d.from)) d.segment w.now (tame.ascending (other d.from)) (tame.serials (other d.from) d.segment.session))

-- ---- a run

record Found (c : ContentValue) (sent : List Sent) : Type 0 where
  k : ℕ
  d : Sent
  got : slice_get sent k ≡ Some d
  same : d.segment.content ≡ c

found-later : (c : ContentValue) (d : Sent) (sent : List Sent) → Found c sent → Found c (d ∷ sent)
found-later c d sent found = record { k = suc found.k; d = found.d; got = found.got; same = found.same }

said-found : (from : End) (originator n : ℕ) (sent : List Sent) (c : ContentValue) → IsIn c (said from originator n sent) → Found c sent
unfolding said
said-found from originator n [] c among = absurd among
said-found from originator n (d ∷ sent) c among = by_test (is_of from originator n d) (λ later. found-later c d sent (said-found from originator n sent c later)) among
  where
    by_test : (mine : Bool) → (IsIn c (said from originator n sent) → Found c (d ∷ sent))
        → IsIn c (if mine then d.segment.content ∷ said from originator n sent else said from originator n sent) → Found c (d ∷ sent)
    by_test true later (inl is) = record { k = 0; d = d; got = refl; same = is }
    by_test true later (inr among) = later among
    by_test false later among = later among

checkpoint-serial : (q : PieceValue) → is_checkpoint q.kind ≡ true → AreSerials (is_checkpoint q.kind) q.checkpoint q.report → q.checkpoint < 2 ^ 64
checkpoint-serial q asks serials = (subst (λ b. AreSerials b q.checkpoint q.report) asks serials).1

-- what is kept of a session's sender in a run
sender-serial : (parties : Party × Party) (events : List Event) → ArePeers parties → HasSmallNumbers parties.0 → HasSmallNumbers parties.1 → (o : End) (n : ℕ)
    → KeptHasSerial (find n (at_end (run parties (starts_world parties) events).engines o).senders)
sender-serial parties events peers first second o n = by_used v.used refl (every_submitted SessionFacts session-keep parties events peers o n)
  where
    w : World
    w = run parties (starts_world parties) events

    v : View
    v = view parties (run parties (starts_world parties) events) o n

    legal : (q : PieceValue) → IsIn (a_piece q) v.by_sender → IsContent (a_piece q)
    legal q among =
        let found = said-found o (at_end parties o).own n w.sent (a_piece q) among in
        subst IsContent found.same (segments_can_be_written parties events peers first second found.k found.d found.got).content

    by_phase : (phase : SendingPhase) → ((q : PieceValue) (timer : Timer) → phase ≡ sender_open q timer → IsCurrent v.by_sender q) → HasSerial phase
    by_phase (sender_open q timer) current =
        let is = current q timer refl in
        checkpoint-serial q is.asks (legal q is.among).serials
    by_phase (sender_cancelling reason timer) current = tt

    by_kept : (kept : Option Sending) → IfKept (HasAsked v.by_sender v.by_receiver) kept → KeptHasSerial kept
    by_kept None has = tt
    by_kept (Some s) has = by_phase s.phase has.current

    by_used : (used : Bool) → v.used ≡ used → HasFactsBy SessionFacts (submissions parties (starts_world parties) events) o n used v
        → KeptHasSerial (find n (at_end (run parties (starts_world parties) events).engines o).senders)
    by_used false unused none = subst KeptHasSerial (sym none.sender) tt
    by_used true used has = by_kept v.sender has.facts.asks.sender

pub runs-are-tame : (parties : Party × Party) (events : List Event) → ArePeers parties → HasSmallNumbers parties.0 → HasSmallNumbers parties.1
    → AreTame (run parties (starts_world parties) events)
runs-are-tame parties events peers first second = record {
  ascending = λ o. (engines_are_well_formed parties events peers o).senders;
  serials = sender-serial parties events peers first second;
}

-- ---- deadlines

-- where there is a deadline, it is after this moment
abbrev Ahead : ℕ → Option ℕ → Type 0
Ahead now None = Unit {0}
Ahead now (Some deadline) = now < deadline

earlier-ahead : (now : ℕ) (a b : Option ℕ) → Ahead now a → Ahead now b → Ahead now (earlier a b)
earlier-ahead now None b first second = second
earlier-ahead now (Some x) None first second = first
earlier-ahead now (Some x) (Some y) first second = omega (arith, first, second)

least-ahead : {S : Type 0} (deadline : S → Option ℕ) (now low : ℕ) (es : List (ℕ × S)) → AreAscending low es
    → ((n : ℕ) → IfKept (λ s. Ahead now (deadline s)) (find n es)) → Ahead now (least_deadline deadline es)
unfolding least_deadline find
least-ahead deadline now low [] is each = tt
least-ahead deadline now low (e ∷ es) is each =
    earlier-ahead now (deadline e.1) (least_deadline deadline es) here (least-ahead deadline now (e.0 + 1) es is.1 rest)
  where
    here : Ahead now (deadline e.1)
    here = subst (λ b. IfKept (λ s. Ahead now (deadline s)) (if b then Some e.1 else find e.0 es)) (self_eqb e.0) (each e.0)

    rest : (n : ℕ) → IfKept (λ s. Ahead now (deadline s)) (find n es)
    rest n = by_test (e.0 == n) refl (each n)
      where
        by_test : (same : Bool) → (e.0 == n) ≡ same → IfKept (λ s. Ahead now (deadline s)) (if same then Some e.1 else find n es)
            → IfKept (λ s. Ahead now (deadline s)) (find n es)
        by_test true same ahead =
            let here : e.0 ≡ n = eqb-true e.0 n same in
            subst (IfKept (λ s. Ahead now (deadline s))) (sym (find_below n (e.0 + 1) es (omega (arith, here)) is.1)) tt
        by_test false same ahead = ahead

kept-weaker : {S : Type 0} (P Q : S → Type 0) → ((s : S) → P s → Q s) → (kept : Option S) → IfKept P kept → IfKept Q kept
kept-weaker P Q gives None is = tt
kept-weaker P Q gives (Some s) is = gives s is

phase-ahead : (now : ℕ) (phase : ReceivingPhase) → PhaseAhead now phase → Ahead now (option_map (λ timer. timer.deadline) (receiving_timer phase))
phase-ahead now (receiver_open None) ahead = tt
phase-ahead now (receiver_open (Some p)) ahead = ahead
phase-ahead now (receiver_cancelling reason timer) ahead = ahead

pub deadline-ahead : (parties : Party × Party) (events : List Event) → ArePeers parties → Waits parties.0.policy → Waits parties.1.policy
    → (deadline : ℕ) → link_deadline (run parties (starts_world parties) events) ≡ Some deadline → (run parties (starts_world parties) events).now < deadline
deadline-ahead parties events peers first second deadline is =
    subst (Ahead w.now) is (earlier-ahead w.now (next_deadline w.engines.0) (next_deadline w.engines.1) (at_first first_end) (at_first second_end))
  where
    w : World
    w = run parties (starts_world parties) events

    senders : (o : End) (n : ℕ) → IfKept (λ s. Ahead (run parties (starts_world parties) events).now (sender_deadline s)) (find n (at_end (run parties (starts_world parties) events).engines o).senders)
    senders o n = kept-weaker (SenderAhead w.now) (λ s. Ahead w.now (sender_deadline s)) (λ s ahead. ahead) _ (deadlines_are_ahead parties events peers first second o n).sender

    receivers : (o : End) (n : ℕ) → IfKept (λ r. Ahead (run parties (starts_world parties) events).now (receiver_deadline r)) (find n (at_end (run parties (starts_world parties) events).engines (other o)).receivers)
    receivers o n = kept-weaker (ReceiverAhead w.now) (λ r. Ahead w.now (receiver_deadline r)) (λ r ahead. phase-ahead w.now r.phase ahead) _ (deadlines_are_ahead parties events peers first second o n).receiver

    received : (o : End) (n : ℕ) → IfKept (λ r. Ahead (run parties (starts_world parties) events).now (receiver_deadline r)) (find n (at_end (run parties (starts_world parties) events).engines o).receivers)
    received first_end n = receivers second_end n
    received second_end n = receivers first_end n

    at_first : (o : End) → Ahead (run parties (starts_world parties) events).now (next_deadline (at_end (run parties (starts_world parties) events).engines o))
    at_first o = earlier-ahead w.now _ _
        (least-ahead sender_deadline w.now 0 (at_end w.engines o).senders (engines_are_well_formed parties events peers o).senders (senders o))
        (least-ahead receiver_deadline w.now 0 (at_end w.engines o).receivers (engines_are_well_formed parties events peers o).receivers (received o))
