-- What an arrival does on a link that drains.

use Rattle.std.proofs.Common.{◌≡◌, ℕ, ◌+◌, ◌<◌, Bool, true, false, not, ◌&&◌, is_some, ◌++◌}
use Rattle.std.proofs.Common.{length, Option, None, Some, refl, sym, ◌∙◌, ap, subst}
use Rattle.std.specs.Option.{option_map}
use Rattle.ltp_segment.specs.declared.session.Note.TheVariants as notes
use Rattle.ltp_session.specs.Engine.{Engine, Party, Reply, arrives, closed_runs, evicted_by}
use Rattle.ltp_session.specs.Engine.{is_closed, list_of, notes_of, without_evicted}
use Rattle.ltp_session.specs.Engine.{receiver_replies, with_receiver}
use Rattle.ltp_session.specs.Receiver.{Receiving}
use Rattle.ltp_session.specs.Sender.{Sending}
use Rattle.ltp_session.specs.Step.{StepValue, ends}
use Rattle.ltp_session.specs.Table.{find}
use Rattle.ltp_session.specs.World.{End, World, arrival, at_end, first_end, other, replies}
use Rattle.ltp_session.specs.World.{second_end, with_end}
use Rattle.ltp_laws.specs.Facts.{SessionFacts}
use Rattle.ltp_laws.specs.View.{closed_after, session_of}
use Rattle.ltp_laws.proofs.FrameLemmas.{closed-with_receiver}
use Rattle.ltp_laws.proofs.RunLemmas.{linked-at, two_ends}
use Rattle.ltp_drain.specs.Draining.{Draining, Oldest, oldest, since}
use Rattle.ltp_drain.specs.Hopeful.{IsKeptSender}
use Rattle.ltp_drain.specs.Standing.{IsRoomy, NextOf}
use Rattle.ltp_drain.proofs.DrainRun.{all-stand, delivery-next}
use Rattle.ltp_drain.proofs.RoomSteps.{Comes_to}
use Rattle.ltp_drain.proofs.StartLemmas.{session-gives}
use Rattle.path_drain.proofs.Arrivals.{Arrived, LinkDrains, arrives-form, unclosed-in}

-- ---- on a link

at-set : {X : Type 0} (pair : X × X) (me : End) (x : X) → at_end (with_end pair me x) me ≡ x
at-set pair first_end x = refl
at-set pair second_end x = refl

at-other : {X : Type 0} (pair : X × X) (me : End) (x : X)
    → at_end (with_end pair me x) (other me) ≡ at_end pair (other me)
at-other pair first_end x = refl
at-other pair second_end x = refl

-- the reply of a receiver that ends closes the number
record Closing (p : Party) (e : Engine) (n : ℕ) (t : StepValue Receiving) : Type 0 where
  reply : Reply
  is : receiver_replies p e n (Some t) ≡ Some reply
  closed : t.next ≡ ends → is_closed n (reply.engine).closed ≡ true

closing : (p : Party) (e : Engine) (n : ℕ) (t : StepValue Receiving) → Closing p e n t
closing p e n t = record {
  reply = record {
    engine = with_receiver g n t.next;
    out = t.out;
    up = t.up;
    green = t.green;
    notes = list_of (option_map notes.Evicted (evicted_by p e (find n e.receivers) t.next))
        ++ notes_of n t;
  };
  is = refl;
  closed = λ ended. closed-with_receiver g n t.next
      ∙ ap (λ c. closed_after c (is_closed n g.closed)) ended;
}
  where
    g : Engine
    g = without_evicted e (evicted_by p e (find n e.receivers) t.next)

-- a receiver ends only after its sender
gone-late : (parties : Party × Party) (d : Draining) (rank : End → ℕ → ℕ) (me : End) (o : Oldest)
    → LinkDrains parties d rank → oldest (other me) d.new ≡ Some o → (t : StepValue Receiving)
    → arrives (at_end parties me) (at_end (d.world).engines me) o.first.segment (d.world).now
    ≡ receiver_replies (at_end parties me) (at_end (d.world).engines me) (o.first.segment).session
    (Some t)
    → t.next ≡ ends
    → find (o.first.segment).session (at_end (d.world).engines (other me)).senders ≡ None
gone-late parties d rank me o link is t replied ended =
    by_sender (find n (at_end (d.world).engines (other me)).senders) refl
  where
    n : ℕ
    n = (o.first.segment).session

    c : Closing (at_end parties me) (at_end (d.world).engines me) (o.first.segment).session t
    c = closing (at_end parties me) (at_end (d.world).engines me) (o.first.segment).session t

    w' : World
    w' = arrival parties d.world me o.first.segment

    next : NextOf SessionFacts parties d (record {
      world = arrival parties d.world me o.first.segment;
      new = o.others ++ since d.world (arrival parties d.world me o.first.segment);
    }) rank (o.first.segment).originator (o.first.segment).session
    next = delivery-next SessionFacts session-gives parties d rank me o link.peers link.holds
        link.room is

    engines : (arrival parties d.world me o.first.segment).engines
        ≡ with_end (d.world).engines me (c.reply).engine
    engines = ap (λ x. (replies d.world me (session_of (o.first.segment).originator
        (o.first.segment).session) x).engines) (replied ∙ c.is)

    by_sender : (x : Option Sending)
        → find (o.first.segment).session (at_end (d.world).engines (other me)).senders ≡ x
        → find (o.first.segment).session (at_end (d.world).engines (other me)).senders ≡ None
    by_sender None none = none
    by_sender (Some s) some = absurd (
        let kept : find (o.first.segment).session
        (at_end (arrival parties d.world me o.first.segment).engines (other me)).senders ≡ Some s =
        ap (λ (es : Engine × Engine). find (o.first.segment).session (at_end es (other me)).senders)
        engines
        ∙ ap (λ (e : Engine). find (o.first.segment).session e.senders)
        (at-other (d.world).engines me (c.reply).engine) ∙ some in
        let unclosed : is_closed (o.first.segment).session
        (at_end (arrival parties d.world me o.first.segment).engines me).closed ≡ false =
        unclosed-in parties _ _ me (next.next).holds (o.first.segment).session s kept in
        let closed : is_closed (o.first.segment).session
        (at_end (arrival parties d.world me o.first.segment).engines me).closed ≡ true =
        ap (λ (es : Engine × Engine). is_closed (o.first.segment).session (at_end es me).closed)
        engines
        ∙ ap (λ (e : Engine). is_closed (o.first.segment).session e.closed)
        (at-set (d.world).engines me (c.reply).engine) ∙ c.closed ended in
        cc)

is-coming : (e f : Engine) (n : ℕ) → Comes_to e f n
    → IsKeptSender (find n f.senders) × (find n e.receivers ≡ None) × (is_closed n e.closed ≡ false)
is-coming e f n c =
    let of = by_kept (find n e.receivers) (is_closed n e.closed) c.unknown in
    (subst IsKeptSender (sym c.kept) tt, of.0, of.1)
  where
    by_kept : (kept : Option Receiving) (closed : Bool) → (not (is_some kept) && not closed) ≡ true
        → (kept ≡ None) × (closed ≡ false)
    by_kept None false is = (refl, refl)
    by_kept None true is = absurd (cc)
    by_kept (Some r) closed is = absurd (cc)

-- there is room for each session that comes
room-at : (parties : Party × Party) (w : World) (me : End) → IsRoomy parties w → (n : ℕ)
    → Comes_to (at_end w.engines me) (at_end w.engines (other me)) n
    → (length (at_end w.engines me).receivers < (at_end parties me).sessions)
    × (closed_runs (at_end w.engines me).closed + length (at_end w.engines me).receivers
    < (at_end parties me).history)
room-at parties w first_end room n c = room.room second_end n (is-coming w.engines.0 w.engines.1 n c)
room-at parties w second_end room n c = room.room first_end n (is-coming w.engines.1 w.engines.0 n c)

pub arrival-form : (parties : Party × Party) (d : Draining) (rank : End → ℕ → ℕ) (me : End)
    (o : Oldest) → LinkDrains parties d rank → oldest (other me) d.new ≡ Some o
    → Arrived (at_end (d.world).engines me) (at_end (d.world).engines (other me))
    (o.first.segment).session
    (arrives (at_end parties me) (at_end (d.world).engines me) o.first.segment (d.world).now)
arrival-form parties d rank me o link is =
    arrives-form me (other me) (at_end parties me) (at_end parties (other me))
    (at_end (d.world).engines me) (at_end (d.world).engines (other me)) (d.world).sent d.new
    (rank me) (rank (other me)) o (d.world).now (record {
      both = two_ends me;
      linked = linked-at parties me link.peers;
      all = all-stand SessionFacts parties d rank me link.holds;
      is = is;
      room = room-at parties d.world me link.room;
      unclosed = link.unclosed me;
    }) (gone-late parties d rank me o link is)
