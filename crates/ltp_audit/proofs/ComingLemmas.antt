-- What a recording tells of an engine as it begins, and once a datagram came.

use Rattle.std.proofs.Common.{◌≡◌, ℕ, ◌≤◌, ◌^◌, Bool, true, false, not, ◌==◌, ◌&&◌, ◌||◌}
use Rattle.std.proofs.Common.{List, [], ◌∷◌, Option, None, Some, Result, Ok, Err, refl, sym, ◌∙◌, ap, subst, if◌then◌else◌}
use Rattle.std.specs.List.{AllByRecursion}
use Rattle.std.proofs.lemmas.Bool.{eqb-true, eq-eqb}
use Rattle.ltp_segment.specs.declared.fault.SegmentCause.{SegmentCause}
use Rattle.ltp_segment.specs.Reading.{segment_of}
use Rattle.ltp_segment.specs.Values.{ContentValue, a_piece, a_report, a_report_ack}
use Rattle.ltp_segment.specs.Values.{a_sender_cancel, a_sender_cancel_ack, a_receiver_cancel}
use Rattle.ltp_segment.specs.Values.{a_receiver_cancel_ack, SegmentValue}
use Rattle.ltp_session.specs.Table.{find}
use Rattle.ltp_session.specs.Sender.{Sending}
use Rattle.ltp_session.specs.Receiver.{Receiving}
use Rattle.ltp_session.specs.Engine.{Party, Engine, starts}
use Rattle.ltp_laws.specs.Kept.{IfKept}
use Rattle.ltp_audit.specs.declared.entry.Entry.{Entry}
use Rattle.ltp_audit.specs.Sides.{is_of_sender, is_on_its_side}
use Rattle.ltp_audit.specs.Recorded.{segment_in, if_on_its_side, said_in}
use Rattle.ltp_audit.specs.Recording.{came}
use Rattle.ltp_audit.specs.Knows.{IsOfBlock, IsNoPiece, Sends, Receives, Knows}
use Rattle.ltp_audit.proofs.SaidLemmas.{said-here, said-there, said-nowhere}
use Rattle.ltp_audit.proofs.ReceiverSays.{known-still}

-- ---- an engine that begins

pub knows-starts : (p : Party) → p.first ≤ 2 ^ 32 → Knows p (starts p) []
unfolding find said_in
knows-starts p first = record {
  senders = λ n. tt;
  receivers = λ n. tt;
  fresh = λ n above. (refl, tt);
  numbers = first;
  own_ascend = tt;
  others_ascend = tt;
}

-- ---- a datagram comes

-- what stands on its side as it comes in
comes-from : (own peer : ℕ) (s : SegmentValue) → is_on_its_side own peer false s ≡ true → s.originator ≡ own → is_of_sender s.content ≡ false
comes-from own peer s side is = by (is_of_sender s.content) refl side where
  by : (t : Bool) → is_of_sender s.content ≡ t
      → (((s.originator == own) || (s.originator == peer)) && not (if t then s.originator == own else not (s.originator == own))) ≡ true → t ≡ false
  by false sends on = refl
  by true sends on = absurd (let same = eq-eqb s.originator own is in go (s.originator == own) (s.originator == peer) same on) where
    go : (a b : Bool) → a ≡ true → ((a || b) && not a) ≡ true → ⊥
    go true true is on = absurd (cc)
    go true false is on = absurd (cc)
    go false b is on = absurd (cc)

no-piece : (content : ContentValue) → is_of_sender content ≡ false → IsNoPiece content
no-piece (a_piece piece) is = absurd (cc)
no-piece (a_report report) is = tt
no-piece (a_report_ack serial) is = tt
no-piece (a_sender_cancel reason) is = tt
no-piece a_sender_cancel_ack is = tt
no-piece (a_receiver_cancel reason) is = tt
no-piece a_receiver_cancel_ack is = tt

pub of-block : (block : List ℕ) (content : ContentValue) → IsNoPiece content → IsOfBlock block content
of-block block (a_piece piece) none = absurd none
of-block block (a_report report) none = tt
of-block block (a_report_ack serial) none = tt
of-block block (a_sender_cancel reason) none = tt
of-block block a_sender_cancel_ack none = tt
of-block block (a_receiver_cancel reason) none = tt
of-block block a_receiver_cancel_ack none = tt

sends-more : (n : ℕ) (said : List ContentValue) (content : ContentValue) → IsNoPiece content → (o : Option Sending)
    → IfKept (Sends n said) o → IfKept (Sends n (content ∷ said)) o
sends-more n said content none None is = tt
sends-more n said content none (Some s) is = (
  is.0,
  record {
    small = is.1.small;
    awaits = is.1.awaits;
    pieces = (of-block s.block content none, is.1.pieces);
  },
)

receives-more : (n : ℕ) (said : List ContentValue) (content : ContentValue) (o : Option Receiving)
    → IfKept (Receives n said) o → IfKept (Receives n (content ∷ said)) o
receives-more n said content None is = tt
receives-more n said content (Some r) is = (is.0, known-still content said r is.1)

-- what was said in a session as an entry came: as before, or one content more
data Came (own peer : ℕ) (datagram : List ℕ) (history : List Entry) (o n : ℕ) : Type 0 where
  same_said : said_in own peer (came datagram ∷ history) o n ≡ said_in own peer history o n → Came own peer datagram history o n
  more_said : (s : SegmentValue) → is_on_its_side own peer false s ≡ true → s.originator ≡ o
      → said_in own peer (came datagram ∷ history) o n ≡ s.content ∷ said_in own peer history o n → Came own peer datagram history o n

both-true : (a b : Bool) → (a && b) ≡ true → (a ≡ true) × (b ≡ true)
both-true true true is = (refl, refl)
both-true true false is = absurd (cc)
both-true false b is = absurd (cc)

pub on-side-in : (own peer : ℕ) (datagram : List ℕ) (s : SegmentValue) → segment_of datagram ≡ Ok s → is_on_its_side own peer false s ≡ true
    → segment_in own peer (came datagram) ≡ Some s
unfolding segment_in
on-side-in own peer datagram s is side = ap (if_on_its_side own peer false) is ∙ rw side refl

off-side-in : (own peer : ℕ) (datagram : List ℕ) (s : SegmentValue) → segment_of datagram ≡ Ok s → is_on_its_side own peer false s ≡ false
    → segment_in own peer (came datagram) ≡ None
unfolding segment_in
off-side-in own peer datagram s is side = ap (if_on_its_side own peer false) is ∙ rw side refl

bad-in : (own peer : ℕ) (datagram : List ℕ) (refusal : ℕ × SegmentCause) → segment_of datagram ≡ Err refusal
    → segment_in own peer (came datagram) ≡ None
unfolding segment_in
bad-in own peer datagram refusal is = ap (if_on_its_side own peer false) is

came-said : (own peer : ℕ) (datagram : List ℕ) (history : List Entry) (o n : ℕ) → Came own peer datagram history o n
came-said own peer datagram history o n = by (segment_of datagram) refl where
  by : (r : Result SegmentValue (ℕ × SegmentCause)) → segment_of datagram ≡ r → Came own peer datagram history o n
  by (Err refusal) is = same_said (said-nowhere own peer (came datagram) history o n (bad-in own peer datagram refusal is))
  by (Ok s) is = by_side (is_on_its_side own peer false s) refl where
    by_side : (side : Bool) → is_on_its_side own peer false s ≡ side → Came own peer datagram history o n
    by_side false side = same_said (said-nowhere own peer (came datagram) history o n (off-side-in own peer datagram s is side))
    by_side true side = by_name ((s.originator == o) && (s.session == n)) refl where
      by_name : (here : Bool) → ((s.originator == o) && (s.session == n)) ≡ here → Came own peer datagram history o n
      by_name true here = more_said s side (eqb-true s.originator o (both-true _ _ here).0)
          (said-here own peer (came datagram) history s o n (on-side-in own peer datagram s is side) here)
      by_name false there = same_said (said-there own peer (came datagram) history s o n (on-side-in own peer datagram s is side) there)

pub knows-came : (p : Party) (e : Engine) (datagram : List ℕ) (history : List Entry) → Knows p e history → Knows p e (came datagram ∷ history)
knows-came p e datagram history knows = record {
  senders = λ n. senders n (came-said p.own p.peer datagram history p.own n);
  receivers = λ n. receivers n (came-said p.own p.peer datagram history p.peer n);
  fresh = λ n above. ((knows.fresh n above).0, fresh n (knows.fresh n above).1 (came-said p.own p.peer datagram history p.own n));
  numbers = knows.numbers;
  own_ascend = knows.own_ascend;
  others_ascend = knows.others_ascend;
} where
  senders : (n : ℕ) → Came p.own p.peer datagram history p.own n
      → IfKept (Sends n (said_in p.own p.peer (came datagram ∷ history) p.own n)) (find n e.senders)
  senders n (same_said is) = subst (λ (said : List ContentValue). IfKept (Sends n said) (find n e.senders)) (sym is) (knows.senders n)
  senders n (more_said s side of is) =
      subst (λ (said : List ContentValue). IfKept (Sends n said) (find n e.senders)) (sym is)
      (sends-more n _ s.content (no-piece s.content (comes-from p.own p.peer s side of)) (find n e.senders) (knows.senders n))

  receivers : (n : ℕ) → Came p.own p.peer datagram history p.peer n
      → IfKept (Receives n (said_in p.own p.peer (came datagram ∷ history) p.peer n)) (find n e.receivers)
  receivers n (same_said is) = subst (λ (said : List ContentValue). IfKept (Receives n said) (find n e.receivers)) (sym is) (knows.receivers n)
  receivers n (more_said s side of is) =
      subst (λ (said : List ContentValue). IfKept (Receives n said) (find n e.receivers)) (sym is)
      (receives-more n _ s.content (find n e.receivers) (knows.receivers n))

  fresh : (n : ℕ) → AllByRecursion IsNoPiece (said_in p.own p.peer history p.own n) → Came p.own p.peer datagram history p.own n
      → AllByRecursion IsNoPiece (said_in p.own p.peer (came datagram ∷ history) p.own n)
  fresh n none (same_said is) = subst (λ (said : List ContentValue). AllByRecursion IsNoPiece said) (sym is) none
  fresh n none (more_said s side of is) =
      subst (λ (said : List ContentValue). AllByRecursion IsNoPiece said) (sym is) (no-piece s.content (comes-from p.own p.peer s side of), none)
