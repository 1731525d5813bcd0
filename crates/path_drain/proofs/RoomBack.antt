-- A submit takes room and gives none back, so that where a link has room after some submits, it had
-- room before each.

use Rattle.std.proofs.Common.{◌≡◌, ℕ, suc, ◌+◌, ◌≤◌, Bool, true, false, ◌==◌, List, [], ◌∷◌}
use Rattle.std.proofs.Common.{length, Option, None, Some, ◌⊎◌, inl, inr, refl, arith, subst}
use Rattle.std.proofs.Common.{nat_lt, nat_le, if◌then◌else◌}
use Rattle.std.specs.Prelude.{cond}
use Rattle.std.proofs.lemmas.Bool.{eqb-true}
use Rattle.ltp_segment.specs.Policy.{PolicyValue}
use Rattle.ltp_session.specs.declared.name.SessionName.{SessionName}
use Rattle.ltp_session.specs.Engine.{Engine, Party, Reply, SubmitFault, begun as begun_engine}
use Rattle.ltp_session.specs.Engine.{submit_fault, submits, submits_unless}
use Rattle.ltp_segment.specs.Values.{PieceValue}
use Rattle.ltp_session.specs.Sender.{Sending, begin, checkpoint_at, last_segment, opened}
use Rattle.ltp_session.specs.Sender.{red_segments}
use Rattle.ltp_session.specs.Timer.{first_serial}
use Rattle.ltp_session.specs.Step.{Change, StepValue, ends, keeps, stays}
use Rattle.ltp_session.specs.Table.{put, settled}
use Rattle.ltp_session.specs.World.{End, Event, World, at_end, clock, deliver, first_end, happens}
use Rattle.ltp_session.specs.World.{replies, run, second_end, submit, submit_reply, submitted}
use Rattle.ltp_session.specs.World.{unless_refused}
use Rattle.ltp_drain.specs.Hopeful.{HasRoom, Room, coming, is_unknown}
use Rattle.ltp_drain.proofs.RoomLemmas.{how_many}
use Rattle.ltp_drain.proofs.RoomSteps.{coming-is}
use Rattle.path_drain.specs.RoomKept.{IsRoomyThrough}
use Rattle.path_drain.proofs.SubmitSteps.{with_begun}

-- ---- a session that begins is one more, or none

length-put_most : {S : Type 0} (n : ℕ) (s : S) (es : List (ℕ × S)) → length es ≤ length (put n s es)
unfolding put
length-put_most n s [] = omega arith
length-put_most n s (e ∷ es) = by_test (e.0 == n) (nat_lt n e.0) (length-put_most n s es)
  where
    by_test : (same less : Bool) → length es ≤ length (put n s es)
        → suc (length es) ≤ length (if same then (n, s) ∷ es else if less then (n, s) ∷ (e ∷ es)
        else e ∷ put n s es)
    by_test true less rest = omega arith
    by_test false true rest = omega arith
    by_test false false rest = omega (arith, rest)

many-put_most : {S : Type 0} (p : ℕ → Bool) (n : ℕ) (s : S) (es : List (ℕ × S))
    → how_many (λ e. p e.0) es ≤ how_many (λ e. p e.0) (put n s es)
unfolding put
many-put_most p n s [] = omega arith
many-put_most p n s (e ∷ es) = by_test (e.0 == n) refl (nat_lt n e.0) (many-put_most p n s es)
  where
    more : (b : Bool) (k : ℕ) → k ≤ cond b (1 + k) k
    more true k = omega arith
    more false k = omega arith

    under : (b : Bool) (j k : ℕ) → j ≤ k → cond b (1 + j) j ≤ cond b (1 + k) k
    under true j k most = omega arith
    under false j k most = most

    by_test : (same : Bool) → (e.0 == n) ≡ same → (less : Bool)
        → how_many (λ e. p e.0) es ≤ how_many (λ e. p e.0) (put n s es)
        → cond (p e.0) (1 + how_many (λ e. p e.0) es) (how_many (λ e. p e.0) es)
        ≤ how_many (λ e. p e.0) (if same then (n, s) ∷ es else if less then (n, s) ∷ (e ∷ es)
        else e ∷ put n s es)
    by_test true is less rest = rw (eqb-true e.0 n is) (omega arith)
    by_test false is true rest = more (p n) _
    by_test false is false rest = under (p e.0) _ _ rest

-- what is kept of a new session, or nothing
abbrev StartsIn : Change Sending → Type 0
StartsIn c = c ≡ ends → ⊥

begin-starts : (policy : PolicyValue) (n : ℕ) (block : List ℕ) (red now : ℕ)
    → StartsIn (begin policy n block red now).next
unfolding begin
begin-starts policy n block red now =
    by (checkpoint_at (length block) red (first_serial n) 0)
    (last_segment (red_segments policy block red))
  where
    by : (c : ℕ × List ℕ → PieceValue) (o : Option (ℕ × List ℕ))
        → StartsIn (opened policy block red now c o)
    by c None = λ is. absurd (cc)
    by c (Some segment) = λ is. absurd (cc)

length-settled : (n : ℕ) (c : Change Sending) (es : List (ℕ × Sending)) → StartsIn c
    → length es ≤ length (settled n c es)
length-settled n stays es starts = omega arith
length-settled n (keeps s) es starts = length-put_most n s es
length-settled n ends es starts = absurd (starts refl)

many-settled : (p : ℕ → Bool) (n : ℕ) (c : Change Sending) (es : List (ℕ × Sending)) → StartsIn c
    → how_many (λ e. p e.0) es ≤ how_many (λ e. p e.0) (settled n c es)
many-settled p n stays es starts = omega arith
many-settled p n (keeps s) es starts = many-put_most p n s es
many-settled p n ends es starts = absurd (starts refl)

own-back : (e f : Engine) (t : StepValue Sending) → StartsIn t.next → HasRoom (with_begun e t) f
    → HasRoom e f
own-back e f t starts room = record {
  senders = omega (arith, room.senders, length-settled e.next t.next e.senders starts);
  receivers = room.receivers;
  numbers = room.numbers;
}

peer-back : (e f : Engine) (t : StepValue Sending) → StartsIn t.next → HasRoom f (with_begun e t)
    → HasRoom f e
peer-back e f t starts room = record {
  senders = room.senders;
  receivers = omega (arith, room.receivers, fewer);
  numbers = omega (arith, room.numbers, fewer);
}
  where
    fewer : coming f e ≤ coming f (with_begun e t)
    fewer = omega (
      arith,
      coming-is f (with_begun e t),
      coming-is f e,
      many-settled (is_unknown f) e.next t.next e.senders starts,
    )

-- ---- a submit

submit-form : (p : Party) (e : Engine) (block : List ℕ) (red now : ℕ)
    → (unless_refused (submits p e block red now) ≡ None)
    ⊎ (unless_refused (submits p e block red now)
    ≡ Some (begun_engine e (begin p.policy e.next block red now)))
unfolding submits
submit-form p e block red now = by (submit_fault p e block)
  where
    by : (o : Option SubmitFault)
        → (unless_refused (submits_unless o p e block red now) ≡ None)
        ⊎ (unless_refused (submits_unless o p e block red now)
        ≡ Some (begun_engine e (begin p.policy e.next block red now)))
    by None = inr refl
    by (Some fault) = inl refl

reply-back : (w : World) (end : End) (name : SessionName) (t : StepValue Sending)
    → StartsIn t.next
    → Room (replies w end name (Some (begun_engine (at_end w.engines end) t))) → Room w
reply-back w first_end name t starts room = record {
  first = own-back w.engines.0 w.engines.1 t starts room.first;
  second = peer-back w.engines.0 w.engines.1 t starts room.second;
}
reply-back w second_end name t starts room = record {
  first = peer-back w.engines.1 w.engines.0 t starts room.first;
  second = own-back w.engines.1 w.engines.0 t starts room.second;
}

submit-back : (parties : Party × Party) (w : World) (end : End) (block : List ℕ) (red : ℕ)
    → Room (happens parties w (submit end block red)) → Room w
unfolding submitted
submit-back parties w end block red room = by_length (nat_le red (length block)) room
  where
    by_reply : (o : Option Reply)
        → (o ≡ None) ⊎ (o ≡ Some (begun_engine (at_end w.engines end)
        (begin (at_end parties end).policy (at_end w.engines end).next block red w.now)))
        → Room (replies w end (record {
          originator = (at_end parties end).own;
          number = (at_end w.engines end).next;
        }) o) → Room w
    by_reply o (inl none) room = subst (λ o. Room (replies w end (record {
      originator = (at_end parties end).own;
      number = (at_end w.engines end).next;
    }) o)) none room
    by_reply o (inr some) room = reply-back w end (record {
      originator = (at_end parties end).own;
      number = (at_end w.engines end).next;
    }) (begin (at_end parties end).policy (at_end w.engines end).next block red w.now)
        (begin-starts (at_end parties end).policy (at_end w.engines end).next block red w.now)
        (subst (λ o. Room (replies w end (record {
          originator = (at_end parties end).own;
          number = (at_end w.engines end).next;
        }) o)) some room)

    by_length : (fits : Bool)
        → Room (if fits then replies w end (record {
          originator = (at_end parties end).own;
          number = (at_end w.engines end).next;
        }) (submit_reply parties w end block red) else w) → Room w
    by_length true room = by_reply _
        (submit-form (at_end parties end) (at_end w.engines end) block red w.now) room
    by_length false room = room

-- ---- submits

abbrev pub AreSubmits : List Event → Type 0
AreSubmits [] = Unit {0}
AreSubmits (submit end block red ∷ events) = AreSubmits events
AreSubmits (deliver k ∷ events) = ⊥
AreSubmits (clock now ∷ events) = ⊥

submits-back : (parties : Party × Party) (w : World) (events : List Event) → AreSubmits events
    → Room (run parties w events) → Room w
submits-back parties w [] are room = room
submits-back parties w (submit end block red ∷ events) are room =
    submit-back parties w end block red
    (submits-back parties (happens parties w (submit end block red)) events are room)
submits-back parties w (deliver k ∷ events) are room = absurd are
submits-back parties w (clock now ∷ events) are room = absurd are

pub roomy-through : (parties : Party × Party) (w : World) (events : List Event) → AreSubmits events
    → Room (run parties w events) → IsRoomyThrough parties w events
roomy-through parties w [] are room = tt
roomy-through parties w (submit end block red ∷ events) are room = (
  submits-back parties (happens parties w (submit end block red)) events are room,
  roomy-through parties (happens parties w (submit end block red)) events are room,
)
roomy-through parties w (deliver k ∷ events) are room = absurd are
roomy-through parties w (clock now ∷ events) are room = absurd are
