-- What is handed up is what was sent.

use Rattle.std.proofs.Common.{◌≡◌, ℕ, Bool, true, false, not, ◌==◌, ◌||◌, List, []}
use Rattle.std.proofs.Common.{◌++◌, length, Option, None, Some, is_some, refl, sym, ◌∙◌, ap, subst}
use Rattle.std.proofs.Common.{nat_lt, if◌then◌else◌}
use Rattle.std.specs.Prelude.{slice_index}
use Rattle.std.proofs.lemmas.Bool.{eqb-true}
use Rattle.ltp_segment.specs.Kinds.{is_red, is_checkpoint, ends_red_part}
use Rattle.ltp_segment.specs.Policy.{PolicyValue}
use Rattle.ltp_segment.specs.Values.{PieceValue, ContentValue, a_piece, a_report, a_report_ack}
use Rattle.ltp_segment.specs.Values.{a_sender_cancel, a_sender_cancel_ack, a_receiver_cancel}
use Rattle.ltp_segment.specs.Values.{a_receiver_cancel_ack, SegmentValue}
use Rattle.ltp_session.specs.Cells.{cell, octet_in, filled, all_octets, length_after, whole_part}
use Rattle.ltp_session.specs.Claims.{is_whole_claim}
use Rattle.ltp_session.specs.Engine.{Party, Engine, Reply, is_used, admission_of, sender_replies}
use Rattle.ltp_session.specs.Engine.{receiver_replies, arrives}
use Rattle.ltp_session.specs.Receiver.{Receiving, ReceivingPhase, receiver_open}
use Rattle.ltp_session.specs.Receiver.{receiver_cancelling, Admission, fresh, piece_stop, is_outside}
use Rattle.ltp_session.specs.Receiver.{is_miscoloured, with_red, red_part, with_handed_up}
use Rattle.ltp_session.specs.Receiver.{piece_step, acknowledged_in, acknowledged, is_cancelling}
use Rattle.ltp_session.specs.Receiver.{piece_for, receiver_answers, receiver_tick}
use Rattle.ltp_session.specs.Sender.{begin, sender_tick, sender_answers, Sending}
use Rattle.ltp_session.specs.Step.{StepValue, Change, after, stays, keeps, ends}
use Rattle.ltp_session.specs.Table.{find}
use Rattle.ltp_session.specs.Timer.{is_past_serials}
use Rattle.ltp_session.specs.World.{End, Sent}
use Rattle.ltp_laws.specs.HandUps.{up_of}
use Rattle.ltp_laws.specs.Kept.{IfKept, IfKeeps, KeepsOrEnds}
use Rattle.ltp_laws.specs.Runs.{KeepsUnder}
use Rattle.ltp_laws.specs.Spelling.{Holds, Ends, HoldsCells, HeldFacts, IsRedPart}
use Rattle.ltp_laws.specs.Steps.{HandsUp, ReceiverStep, idle, over, turns, again, fills}
use Rattle.ltp_laws.specs.Steps.{reports_on}
use Rattle.ltp_laws.specs.View.{said, view_by, View, IsIn}
use Rattle.cells.specs.Cells.{or_else}
use Rattle.cells.proofs.CellLemmas.{cell-filled, all_octets-length, all_octets-cell}
use Rattle.ltp_laws.proofs.ListLemmas.{both_arms, by_arms, answered}
use Rattle.ltp_laws.proofs.SerialLemmas.{among-left}
use Rattle.ltp_laws.proofs.StepLemmas.{met, hears-form, tick-form}

-- ---- what a receiver holds was sent

more-holds : (said out : List ContentValue) (cells : List (Option ℕ)) (known : Option ℕ)
    → HoldsCells said cells known → HoldsCells (said ++ out) cells known
more-holds said out cells known holds = record {
  octets = λ k octet is. let h = holds.octets k octet is in
      record {
        piece = h.piece;
        among = among-left (a_piece h.piece) said out h.among;
        has = h.has;
      };
  ends_where = λ end is. let h = holds.ends_where end is in
      record {
        piece = h.piece;
        among = among-left (a_piece h.piece) said out h.among;
        ends_there = h.ends_there;
        place = h.place;
      };
}

pub filled-holds : (said : List ContentValue) (r : Receiving) (q : PieceValue)
    → IsIn (a_piece q) said → HoldsCells said r.cells r.length
    → HoldsCells said (filled r.cells q.offset q.body) (length_after r.length
    (ends_red_part q.kind) (piece_stop q))
filled-holds said r q among holds = record {
  octets = λ k octet is. by_first k octet (cell r.cells k) refl
      (sym (cell-filled r.cells q.offset q.body k) ∙ is);
  ends_where = λ end is. by_known end r.length refl is;
}
  where
    by_first : (k octet : ℕ) (first : Option ℕ) → cell r.cells k ≡ first
        → or_else first (octet_in q.offset q.body k) ≡ Some octet → Holds said k octet
    by_first k octet None none now = record { piece = q; among = among; has = now }
    by_first k octet (Some x) some now = holds.octets k octet (some ∙ now)

    by_end : (end : ℕ) (last : Bool) → ends_red_part q.kind ≡ last
        → (if last then Some (piece_stop q) else None) ≡ Some end → Ends said end
    by_end end true last is =
        record { piece = q; among = among; ends_there = last; place = cc (is) }
    by_end end false last is = absurd (cc)

    by_known : (end : ℕ) (known : Option ℕ) → r.length ≡ known
        → length_after known (ends_red_part q.kind) (piece_stop q) ≡ Some end → Ends said end
    by_known end (Some old) some is = holds.ends_where end (some ∙ is)
    by_known end None none is = by_end end (ends_red_part q.kind) refl is

fresh-holds : (said : List ContentValue) (session : ℕ) → HoldsCells said (fresh session).cells
    (fresh session).length
fresh-holds said session =
    record { octets = λ k octet is. absurd (none k octet is); ends_where = λ end is. absurd (cc) }
  where
    none : (k octet : ℕ) → cell [] k ≡ Some octet → ⊥
    none k octet is = cc

abbrev pub HeldBy : List ContentValue → Receiving → Type 0
HeldBy said r = HoldsCells said r.cells r.length

step-holds : (said : List ContentValue) (content : ContentValue) (r : Receiving)
    (t : StepValue Receiving) → ((q : PieceValue) → content ≡ a_piece q → IsIn (a_piece q) said)
    → HeldBy said r → ReceiverStep content r t → IfKeeps (HeldBy said) t.next
step-holds said content r t heard holds (idle next none) =
    subst (IfKeeps (HeldBy said)) (sym next) tt
step-holds said content r t heard holds (over next none) =
    subst (IfKeeps (HeldBy said)) (sym next) tt
step-holds said content r t heard holds (turns r' next turned none) =
    subst (IfKeeps (HeldBy said)) (sym next) (rw (turned.cells, turned.known) holds)
step-holds said content r t heard holds (again p timer pending next out) =
    subst (IfKeeps (HeldBy said)) (sym next) holds
step-holds said content r t heard holds (fills q r' is_piece red_kind next filling none) =
    subst (IfKeeps (HeldBy said)) (sym next) (rw (filling.cells, filling.known)
    (filled-holds said r q (heard q is_piece) holds))
step-holds said content r t heard holds (reports_on q r' is_piece red_kind checkpoint next
    reporting out) =
    subst (IfKeeps (HeldBy said)) (sym next) (rw (reporting.cells, reporting.known)
    (filled-holds said r q (heard q is_piece) holds))

kept-held : (v : View) (t : StepValue Receiving) → HeldFacts [] 0 v
    → IfKeeps (HeldBy v.by_sender) t.next → IfKept (HeldBy v.by_sender) (after t.next v.receiver)
kept-held v t facts change = go t.next change
  where
    go : (c : Change Receiving) → IfKeeps (HeldBy v.by_sender) c
        → IfKept (HeldBy v.by_sender) (after c v.receiver)
    go stays is = facts.held
    go (keeps r) is = is
    go ends is = tt

met-holds : (said : List ContentValue) (session : ℕ) (kept : Option Receiving)
    → IfKept (HeldBy said) kept → HeldBy said (met session kept)
met-holds said session None is = fresh-holds said session
met-holds said session (Some r) is = is

more-kept : (said out : List ContentValue) (kept : Option Receiving) → IfKept (HeldBy said) kept
    → IfKept (HeldBy (said ++ out)) kept
more-kept said out None is = tt
more-kept said out (Some r) is = more-holds said out r.cells r.length is

pub held-keep : {F : List ℕ → ℕ → View → Type 0} → KeepsUnder F HeldFacts
held-keep = record {
  begins = λ policy n block red now v cuts within unused _.
      record {
        held = subst (IfKept (HeldBy (v.by_sender ++ (begin policy n block red now).out)))
            (sym unused.receiver) tt;
      };
  sender = λ block red policy v content now t among hears f f' facts.
      record { held = more-kept v.by_sender t.out v.receiver facts.held };
  receiver = λ block red policy place v content now t closed among hears f f' facts.
      let h = hears-form policy place v.receiver content now t hears in
      record {
        held = kept-held v t (record { held = facts.held })
            (step-holds v.by_sender content _ t (λ q is. subst (λ c. IsIn c v.by_sender) is among)
            (met-holds v.by_sender place.session v.receiver facts.held) h.form);
      };
  sender_tick = λ block red policy now v s is f f' facts. record {
    held = more-kept v.by_sender
        (sender_tick policy s now).out v.receiver facts.held;
  };
  receiver_tick = λ block red policy now v r is f f' facts.
      record {
        held = kept-held v (receiver_tick policy r now) (record { held = facts.held })
            (step-holds v.by_sender a_sender_cancel_ack r _ (λ q h. absurd (cc))
            (subst (IfKept (HeldBy v.by_sender)) is facts.held)
            (tick-form a_sender_cancel_ack policy now r));
      };
  evicted = λ block red v r is f f' facts. record { held = tt };
}

-- ---- a step that hands up

abbrev Ups : ContentValue → Receiving → StepValue Receiving → Type 0
Ups content r t = (body : List ℕ) → t.up ≡ Some body → HandsUp content r t body

no-up : (content : ContentValue) (r : Receiving) (t : StepValue Receiving) → t.up ≡ None
    → Ups content r t
no-up content r t none body is = absurd (cc)

piece-ups : (policy : PolicyValue) (r : Receiving) (q : PieceValue) (now : ℕ)
    → Ups (a_piece q) r (piece_step policy r q now)
unfolding piece_step
piece-ups policy r q now =
    both_arms (Ups (a_piece q) r) (is_outside r q) _ _ (no-up _ _ _ refl)
    (both_arms (Ups (a_piece q) r) (is_miscoloured r q) _ _ (no-up _ _ _ refl)
    (by_arms (Ups (a_piece q) r) (is_red q.kind) _ _
    (λ red_kind. both_arms (Ups (a_piece q) r) (is_checkpoint q.kind) _ _
    (both_arms (Ups (a_piece q) r) (is_past_serials r.serial) _ _ (up red_kind _ _ refl refl refl)
    (up red_kind _ _ refl refl refl))
    (up red_kind _ _ refl refl refl))
    (λ green_kind. no-up _ _ _ refl)))
  where
    or_later : (a b : Bool) → b ≡ true → (a || b) ≡ true
    or_later true b is = refl
    or_later false b is = is

    up : is_red q.kind ≡ true → (t : StepValue Receiving) (r' : Receiving)
        → t.up ≡ red_part (with_red r q) → t.next ≡ keeps r'
        → r'.handed_up ≡ (with_handed_up (with_red r q)).handed_up → Ups (a_piece q) r t
    up red_kind t r' is next handed_now body some = by_handed r.handed_up refl (sym is ∙ some)
      where
        kept : KeepsOrEnds (λ s. s.handed_up ≡ true) t.next
        kept = subst (KeepsOrEnds (λ s. s.handed_up ≡ true)) (sym next)
            (handed_now ∙ or_later r.handed_up (is_some (red_part (with_red r q)))
            (ap is_some (sym is ∙ some)))

        by_handed : (handed : Bool) → r.handed_up ≡ handed
            → (if handed then None else whole_part (filled r.cells q.offset q.body)
            (length_after r.length (ends_red_part q.kind) (piece_stop q))) ≡ Some body → HandsUp
            (a_piece q) r t body
        by_handed true handed some = absurd (cc)
        by_handed false handed some =
            record {
              piece = q;
              is_piece = refl;
              red_kind = red_kind;
              whole = some;
              before = handed;
              kept = kept;
            }

acknowledged-ups : (r : Receiving) (serial : ℕ)
    → Ups (a_report_ack serial) r (acknowledged r serial)
unfolding acknowledged
acknowledged-ups r serial = by_phase r.phase
  where
    by_phase : (phase : ReceivingPhase)
        → Ups (a_report_ack serial) r (acknowledged_in r phase serial)
    by_phase (receiver_open None) = no-up _ _ _ refl
    by_phase (receiver_open (Some pending)) =
        both_arms (Ups (a_report_ack serial) r) (pending.report.serial == serial) _ _
        (both_arms (Ups (a_report_ack serial) r) (is_whole_claim r.length pending.report.claims) _
        _ (no-up _ _ _ refl) (no-up _ _ _ refl))
        (no-up _ _ _ refl)
    by_phase (receiver_cancelling reason timer) = no-up _ _ _ refl

pub hears-ups : (policy : PolicyValue) (place : Admission) (kept : Option Receiving)
    (content : ContentValue) (now : ℕ) (t : StepValue Receiving)
    → receiver_answers policy place kept content now ≡ Some t
    → Ups content (met place.session kept) t
unfolding receiver_answers
hears-ups policy place kept (a_piece q) now t hears =
    answered (Ups (a_piece q) (met place.session kept)) _ t hears
    (both_arms (Ups (a_piece q) (met place.session kept)) (not (q.service == 1)) _ _
    (no-up _ _ _ refl)
    (both_arms (Ups (a_piece q) (met place.session kept))
    ((length q.body == 0) || nat_lt place.most (piece_stop q)) _ _ (no-up _ _ _ refl)
    (by_kept kept)))
  where
    by_kept : (kept : Option Receiving) → Ups (a_piece q) (met place.session kept)
        (piece_for policy place kept q now)
    by_kept None =
        both_arms (Ups (a_piece q) (fresh place.session)) (not (is_red q.kind)) _ _
        (no-up _ _ _ refl)
        (both_arms (Ups (a_piece q) (fresh place.session)) place.closed _ _ (no-up _ _ _ refl)
        (both_arms (Ups (a_piece q) (fresh place.session)) place.full _ _ (no-up _ _ _ refl)
        (piece-ups policy (fresh place.session) q now)))
    by_kept (Some r) = both_arms (Ups (a_piece q) r) (is_cancelling r.phase) _ _ (no-up _ _ _ refl)
        (piece-ups policy r q now)
hears-ups policy place None (a_report_ack serial) now t hears =
    answered (Ups _ _) _ t hears (no-up _ _ _ refl)
hears-ups policy place (Some r) (a_report_ack serial) now t hears =
    answered (Ups _ _) _ t hears (acknowledged-ups r serial)
hears-ups policy place None (a_sender_cancel reason) now t hears =
    answered (Ups _ _) _ t hears (no-up _ _ _ refl)
hears-ups policy place (Some r) (a_sender_cancel reason) now t hears =
    answered (Ups _ _) _ t hears (no-up _ _ _ refl)
hears-ups policy place None a_receiver_cancel_ack now t hears =
    answered (Ups _ _) _ t hears (no-up _ _ _ refl)
hears-ups policy place (Some r) a_receiver_cancel_ack now t hears =
    answered (Ups a_receiver_cancel_ack r) _ t hears (both_arms (Ups a_receiver_cancel_ack r)
    (is_cancelling r.phase) _ _ (no-up _ _ _ refl) (no-up _ _ _ refl))
hears-ups policy place kept (a_report r) now t hears = absurd (cc)
hears-ups policy place kept (a_receiver_cancel reason) now t hears = absurd (cc)
hears-ups policy place kept a_sender_cancel_ack now t hears = absurd (cc)

-- ---- a whole part

pub whole-is : (said : List ContentValue) (cells : List (Option ℕ)) (known : Option ℕ)
    (body : List ℕ) → whole_part cells known ≡ Some body → HoldsCells said cells known
    → IsRedPart said body
whole-is said cells None body is holds = absurd (cc)
whole-is said cells (Some end) body is holds = by_test (end == length cells) refl is
  where
    by_test : (all : Bool) → (end == length cells) ≡ all → (if all then all_octets cells else None)
        ≡ Some body → IsRedPart said body
    by_test true same is = record {
      octets = λ k low. holds.octets k (slice_index body k) (all_octets-cell cells body is k low);
      ends_where =
          subst (Ends said) (eqb-true end (length cells) same ∙ sym
          (all_octets-length cells body is)) (holds.ends_where end refl);
    }
    by_test false same is = absurd (cc)

-- what a session hands up was sent
pub hands-up : (said : List ContentValue) (policy : PolicyValue) (place : Admission)
    (kept : Option Receiving) (content : ContentValue) (now : ℕ) (t : StepValue Receiving)
    (body : List ℕ)
    → IsIn content said → IfKept (HeldBy said) kept → receiver_answers policy place kept content
    now ≡ Some t → t.up ≡ Some body → IsRedPart said body
hands-up said policy place kept content now t body among held hears up =
    let h = hears-ups policy place kept content now t hears body up in
    let there : IsIn (a_piece h.piece) said = subst (λ c. IsIn c said) h.is_piece among in
    whole-is said _ _ body h.whole (filled-holds said (met place.session kept) h.piece there
    (met-holds said place.session kept held))

-- ---- in every run

abbrev pub UpIsSent : List ContentValue → Option Reply → Type 0
UpIsSent said o = (body : List ℕ) → up_of o ≡ Some body → IsRedPart said body

pub arrival-up : (me you : End) (p q : Party) (e f : Engine) (sent : List Sent) (s : SegmentValue)
    (now : ℕ) → p.peer ≡ q.own
    → IsIn s.content (said you s.originator s.session sent)
    → IfKept (HeldBy (view_by you me q f e sent s.session).by_sender) (find s.session e.receivers)
    → UpIsSent (said you s.originator s.session sent) (arrives p e s now)
unfolding arrives
arrival-up me you p q e f sent s now peer among held =
    both_arms (UpIsSent (said you s.originator s.session sent)) (s.originator == p.own) _ _
    (both_arms (UpIsSent (said you s.originator s.session sent)) (is_used p e s.session) _ _
    (by_own (sender_answers p.policy (find s.session e.senders) s.content now))
    (λ body is. absurd (cc)))
    (by_arms (UpIsSent (said you s.originator s.session sent)) (s.originator == p.peer) _ _
    (λ is_peer. by_peer (eqb-true s.originator p.peer is_peer ∙ peer) (receiver_answers p.policy
    (admission_of p e s.session) (find s.session e.receivers) s.content now) refl)
    (λ stranger body is. absurd (cc)))
  where
    by_own : (o : Option (StepValue Sending)) → UpIsSent (said you s.originator s.session sent)
        (sender_replies e s.session o)
    by_own None body is = absurd (cc)
    by_own (Some t) body is = absurd (cc)

    by_peer : s.originator ≡ q.own → (o : Option (StepValue Receiving))
        → receiver_answers p.policy (admission_of p e s.session) (find s.session e.receivers)
        s.content now ≡ o
        → UpIsSent (said you s.originator s.session sent) (receiver_replies p e s.session o)
    by_peer own None hears body is = absurd (cc)
    by_peer own (Some t) hears body is =
        hands-up (said you s.originator s.session sent) p.policy (admission_of p e s.session)
        (find s.session e.receivers) s.content now t body among
        (subst (λ o. IfKept (HeldBy (said you o s.session sent)) (find s.session e.receivers))
        (sym own) held) hears is
