-- Blocks that are submitted on a link of a path that drains, all of them red: each begins a session,
-- which is open, and costs what it takes; or it is refused.

use Rattle.std.proofs.Common.{◌≡◌, ◌≢◌, ℕ, suc, ◌+◌, ◌^◌, ◌<◌, ◌≤◌, Bool, true, false, ◌==◌, List, []}
use Rattle.std.proofs.Common.{◌∷◌, ◌++◌, length, drop, Option, None, Some, ◌⊎◌, inl, inr}
use Rattle.std.proofs.Common.{refl, sym, ◌∙◌, ap, arith, subst, nat_lt, nat_le, if◌then◌else◌}
use Rattle.std.proofs.lemmas.Bool.{eqb-false, eqb-true, leb-false}
use Rattle.std.proofs.lemmas.Bool.Decides.{nat_tests}
use Rattle.std.proofs.lemmas.List.{drop-append-le}
use Rattle.ltp_segment.specs.Policy.{PolicyValue}
use Rattle.ltp_segment.specs.Values.{ContentValue}
use Rattle.ltp_session.specs.Engine.{Party, begun as begun_engine}
use Rattle.ltp_session.specs.Engine.{block_empty, block_too_large, numbers_spent, senders_busy}
use Rattle.ltp_session.specs.Engine.{submits, submits_unless}
use Rattle.ltp_session.specs.Sender.{Sending, begin, checkpoint_at, last_segment, opened}
use Rattle.ltp_session.specs.Sender.{red_segments, segments_from}
use Rattle.ltp_session.specs.Step.{Change, StepValue, after, keeps}
use Rattle.ltp_session.specs.Timer.{first_serial}
use Rattle.ltp_session.specs.Views.{headed_all}
use Rattle.ltp_session.specs.World.{ArePeers, End, Event, Sent, World, at_end, first_end}
use Rattle.ltp_session.specs.World.{clock, deliver, other, replies, run, second_end, sent_by, submit}
use Rattle.ltp_session.specs.World.{submit_reply, submitted, unless_refused, with_end}
use Rattle.ltp_laws.specs.Facts.{SessionFacts}
use Rattle.ltp_laws.specs.Log.{Submission, submission_of, submissions, submissions_at}
use Rattle.ltp_laws.specs.View.{IsIn, View, begins, session_of, view}
use Rattle.ltp_laws.proofs.FrameLemmas.{begun-here, begun-others, next-unused, peers-stay}
use Rattle.ltp_laws.proofs.RunLemmas.{linked-at, two_ends}
use Rattle.ltp_laws.proofs.WritableLemmas.{cuts-at}
use Rattle.ltp_drain.specs.Draining.{since}
use Rattle.ltp_drain.specs.Effects.{EndEffects}
use Rattle.ltp_drain.specs.Hopeful.{AreAlike, IsHanded, IsKeptSender, IsReached, Room, different}
use Rattle.ltp_drain.specs.Hopeful.{offsets_of, session_cost}
use Rattle.ltp_drain.specs.Standing.{AfterSubmit, AllAdvance, DrainHolds, begun_rank}
use Rattle.ltp_drain.proofs.CleanSteps.{IsGoing, reached-more}
use Rattle.ltp_drain.proofs.DrainBegins.{AfterBlock, left_alone, one_more, submit-next}
use Rattle.ltp_drain.proofs.DrainRun.{all-still}
use Rattle.ltp_drain.proofs.OffsetLemmas.{begin-differ}
use Rattle.ltp_drain.proofs.RankSteps.{Grows, submitted-grows}
use Rattle.ltp_drain.proofs.StartLemmas.{session-gives}
use Rattle.path_drain.specs.RoomKept.{IsRoomyThrough}
use Rattle.path_drain.proofs.AdvanceLemmas.{advances-both, in-either, none-handed, none-noted}
use Rattle.path_drain.proofs.AdvanceLemmas.{open-stays}
use Rattle.path_drain.proofs.LinkMoves.{EndMoves, Moves, both-move, end-more, end-same}
use Rattle.path_drain.proofs.LinkMoves.{moves-none, moves-then}

-- ---- one block

-- the step that begins the next session of an end
abbrev pub begins_with : Party × Party → World → End → List ℕ → StepValue Sending
begins_with parties w me block =
    begin (at_end parties me).policy (at_end w.engines me).next block (length block) w.now

-- the world after it
abbrev pub begun_world : Party × Party → World → End → StepValue Sending → World
begun_world parties w me t = record {
  engines = with_end w.engines me (begun_engine (at_end w.engines me) t).engine;
  sent = w.sent ++ sent_by me
      (headed_all (session_of (at_end parties me).own (at_end w.engines me).next) t.out);
  now = w.now;
}

-- a block is refused, or begins a session; so the log says
pub data SubmitIs (parties : Party × Party) (w : World) (me : End) (block : List ℕ) (w' : World)
    (log : List Submission) : Type 0 where
  refused_so : w' ≡ w → log ≡ [] → SubmitIs parties w me block w' log
  begins_so : 1 ≤ length block → (at_end w.engines me).next < 2 ^ 32
      → w' ≡ begun_world parties w me (begins_with parties w me block)
      → log ≡ record {
        from = me;
        session = (at_end w.engines me).next;
        block = block;
        red = length block;
      } ∷ []
      → SubmitIs parties w me block w' log

pub submit-is : (parties : Party × Party) (w : World) (me : End) (block : List ℕ)
    → SubmitIs parties w me block (submitted parties w me block (length block))
    (submissions_at parties w (submit me block (length block)))
unfolding submitted submits
submit-is parties w me block = by_length (nat_le (length block) (length block)) whole
  where
    whole : nat_le (length block) (length block) ≡ true
    whole = itself (length block)
      where
        itself : (n : ℕ) → nat_le n n ≡ true
        itself n = grind (arith, nat_tests)

    is_some_octet : (block : List ℕ) → (length block == 0) ≡ false → 1 ≤ length block
    is_some_octet [] is = absurd (cc)
    is_some_octet (x ∷ block) is = omega arith

    by_tests : (empty : Bool) → (length block == 0) ≡ empty → (large spent : Bool)
        → nat_le (2 ^ 32) (at_end w.engines me).next ≡ spent → (busy : Bool)
        → SubmitIs parties w me block
        (replies w me (session_of (at_end parties me).own (at_end w.engines me).next)
        (unless_refused (submits_unless (if empty then Some block_empty else if large
        then Some block_too_large else if spent then Some numbers_spent else if busy
        then Some senders_busy else None) (at_end parties me) (at_end w.engines me) block
        (length block) w.now)))
        (submission_of me (at_end w.engines me).next block (length block)
        (unless_refused (submits_unless (if empty then Some block_empty else if large
        then Some block_too_large else if spent then Some numbers_spent else if busy
        then Some senders_busy else None) (at_end parties me) (at_end w.engines me) block
        (length block) w.now)))
    by_tests true is large spent is_spent busy = refused_so refl refl
    by_tests false is true spent is_spent busy = refused_so refl refl
    by_tests false is false true is_spent busy = refused_so refl refl
    by_tests false is false false is_spent true = refused_so refl refl
    by_tests false is false false is_spent false = begins_so (is_some_octet block is)
        (leb-false (2 ^ 32) (at_end w.engines me).next is_spent) refl refl

    by_length : (fits : Bool) → fits ≡ true → SubmitIs parties w me block
        (if fits then replies w me
        (session_of (at_end parties me).own (at_end w.engines me).next)
        (submit_reply parties w me block (length block)) else w)
        (if fits then submission_of me (at_end w.engines me).next block (length block)
        (submit_reply parties w me block (length block)) else [])
    by_length false is = absurd (cc)
    by_length true is = by_tests (length block == 0) refl
        (nat_lt (at_end parties me).most (length block))
        (nat_le (2 ^ 32) (at_end w.engines me).next) refl
        (nat_le (at_end parties me).sessions (length (at_end w.engines me).senders))

-- ---- numbers

ends-two : (me o : End) → (o ≡ me) ⊎ (o ≡ other me)
ends-two first_end first_end = inl refl
ends-two first_end second_end = inr refl
ends-two second_end first_end = inr refl
ends-two second_end second_end = inl refl

begun-next-here : (parties : Party × Party) (w : World) (me : End) (t : StepValue Sending)
    → (at_end (begun_world parties w me t).engines me).next ≡ suc (at_end w.engines me).next
begun-next-here parties w first_end t = omega arith
begun-next-here parties w second_end t = omega arith

begun-next-there : (parties : Party × Party) (w : World) (me : End) (t : StepValue Sending)
    → (at_end (begun_world parties w me t).engines (other me)).next
    ≡ (at_end w.engines (other me)).next
begun-next-there parties w first_end t = refl
begun-next-there parties w second_end t = refl

-- ---- views

-- what a session that begins leaves of all views
record BegunViews (parties : Party × Party) (w : World) (me : End) (t : StepValue Sending) : Type 0
  where
    here : view parties (begun_world parties w me t) me (at_end w.engines me).next ≡
        begins (view parties w me (at_end w.engines me).next) t
    others : (n : ℕ) → (at_end w.engines me).next ≢ n
        → view parties (begun_world parties w me t) me n ≡ view parties w me n
    there : (n : ℕ) → view parties (begun_world parties w me t) (other me) n ≡ view parties w
        (other me) n

begun-views : (parties : Party × Party) (w : World) (me : End) (t : StepValue Sending)
    → ArePeers parties → (at_end parties me).first ≤ (at_end w.engines me).next
    → BegunViews parties w me t
begun-views parties w first_end t peers low = record {
  here = begun-here first_end second_end parties.0 w.engines.0 w.engines.1 w.sent t
      (two_ends first_end) low;
  others = λ n apart. begun-others first_end second_end parties.0 w.engines.0 w.engines.1 w.sent n
      t (two_ends first_end) apart;
  there = λ n. peers-stay first_end second_end parties.1 w.engines.1 w.engines.0
      (begun_engine w.engines.0 t).engine w.sent parties.0.own w.engines.0.next n t.out
      (two_ends first_end) (linked-at parties first_end peers).apart refl refl;
}
begun-views parties w second_end t peers low = record {
  here = begun-here second_end first_end parties.1 w.engines.1 w.engines.0 w.sent t
      (two_ends second_end) low;
  others = λ n apart. begun-others second_end first_end parties.1 w.engines.1 w.engines.0 w.sent
      n t (two_ends second_end) apart;
  there = λ n. peers-stay second_end first_end parties.0 w.engines.0 w.engines.1
      (begun_engine w.engines.1 t).engine w.sent parties.1.own w.engines.1.next n t.out
      (two_ends second_end) (linked-at parties second_end peers).apart refl refl;
}

-- a block of an octet at least has a last segment, so that its sender is kept
has-last : (p : ℕ × List ℕ) (ps : List (ℕ × List ℕ)) → last_segment (p ∷ ps) ≡ None → ⊥
unfolding last_segment
has-last p [] none = cc
has-last p (q ∷ qs) none = has-last q qs none

-- it keeps a sender
record Keeps (c : Change Sending) : Type 0 where
  s : Sending
  is : c ≡ keeps s

begin-keeps : (policy : PolicyValue) (n now : ℕ) (block : List ℕ) → 1 ≤ length block
    → Keeps (begin policy n block (length block) now).next
unfolding begin segments_from
begin-keeps policy n now [] low = absurd (omega (arith, low))
begin-keeps policy n now (x ∷ block) low =
    by_last (last_segment (red_segments policy (x ∷ block) (length (x ∷ block)))) (has-last _ _)
  where
    by_last : (last : Option (ℕ × List ℕ)) → (last ≡ None → ⊥)
        → Keeps (opened policy (x ∷ block) (length (x ∷ block)) now
        (checkpoint_at (length (x ∷ block)) (length (x ∷ block)) (first_serial n) 0) last)
    by_last None some = absurd (some refl)
    by_last (Some part) some = record { s = _; is = refl }

open-after : (c : Change Sending) (o : Option Sending) → Keeps c → IsKeptSender (after c o)
open-after c o kept = subst (λ (c : Change Sending). IsKeptSender (after c o)) (sym kept.is) tt

-- what is open, and what has been handed up, stays so
advances-same : (parties : Party × Party) (w w' : World) (es : List EndEffects)
    → ((o : End) (n : ℕ) → IsKeptSender (view parties w o n).sender → IsKeptSender (view parties w' o n).sender)
    → ((o : End) (n : ℕ) → (view parties w' o n).receiver ≡ (view parties w o n).receiver)
    → AllAdvance parties w w' es
advances-same parties w w' es still same o n = record {
  sender = λ is_open. inl (still o n is_open);
  receiver = λ handed. inl (subst IsHanded (same o n) handed);
}

-- what a session that begins leaves
record Begins (parties : Party × Party) (w : World) (me : End) (t : StepValue Sending) : Type 0
  where
    advances : AllAdvance parties w (begun_world parties w me t) []
    opens : IsKeptSender (view parties (begun_world parties w me t) me (at_end w.engines me).next).sender

begins-all : (parties : Party × Party) (w : World) (me : End) (t : StepValue Sending)
    → BegunViews parties w me t → Keeps t.next → Begins parties w me t
begins-all parties w me t views kept = record {
  advances = advances-same parties w (begun_world parties w me t) [] (λ o n is_open.
      by_end o n (ends-two me o) is_open) (λ o n. receivers o n (ends-two me o));
  opens = opens;
}
  where
    opens : IsKeptSender (view parties (begun_world parties w me t) me (at_end w.engines me).next).sender
    opens = subst (λ (v : View). IsKeptSender v.sender) (sym views.here)
        (open-after t.next (view parties w me (at_end w.engines me).next).sender kept)

    at_me : (n : ℕ) (b : Bool) → ((at_end w.engines me).next == n) ≡ b
        → IsKeptSender (view parties w me n).sender
        → IsKeptSender (view parties (begun_world parties w me t) me n).sender
    at_me n true is is_open = subst (λ (n : ℕ). IsKeptSender
        (view parties (begun_world parties w me t) me n).sender)
        (eqb-true (at_end w.engines me).next n is) opens
    at_me n false is is_open = subst (λ (v : View). IsKeptSender v.sender)
        (sym (views.others n (eqb-false (at_end w.engines me).next n is))) is_open

    by_end : (o : End) (n : ℕ) → (o ≡ me) ⊎ (o ≡ other me) → IsKeptSender (view parties w o n).sender
        → IsKeptSender (view parties (begun_world parties w me t) o n).sender
    by_end o n (inl here) is_open = subst (λ (o : End). IsKeptSender (view parties w o n).sender
        → IsKeptSender (view parties (begun_world parties w me t) o n).sender) (sym here)
        (at_me n ((at_end w.engines me).next == n) refl) is_open
    by_end o n (inr there) is_open = subst (λ (o : End). IsKeptSender (view parties w o n).sender
        → IsKeptSender (view parties (begun_world parties w me t) o n).sender) (sym there)
        (λ is_open. subst (λ (v : View). IsKeptSender v.sender) (sym (views.there n)) is_open) is_open

    at_mine : (n : ℕ) (b : Bool) → ((at_end w.engines me).next == n) ≡ b
        → (view parties (begun_world parties w me t) me n).receiver ≡ (view parties w me n).receiver
    at_mine n true is = subst (λ (n : ℕ). (view parties (begun_world parties w me t) me n).receiver
        ≡ (view parties w me n).receiver) (eqb-true (at_end w.engines me).next n is)
        (ap (λ (v : View). v.receiver) views.here)
    at_mine n false is = ap (λ (v : View). v.receiver)
        (views.others n (eqb-false (at_end w.engines me).next n is))

    receivers : (o : End) (n : ℕ) → (o ≡ me) ⊎ (o ≡ other me)
        → (view parties (begun_world parties w me t) o n).receiver ≡ (view parties w o n).receiver
    receivers o n (inl here) = subst (λ (o : End). (view parties (begun_world parties w me t) o
        n).receiver ≡ (view parties w o n).receiver) (sym here)
        (at_mine n ((at_end w.engines me).next == n) refl)
    receivers o n (inr there) = subst (λ (o : End). (view parties (begun_world parties w me t) o
        n).receiver ≡ (view parties w o n).receiver) (sym there)
        (ap (λ (v : View). v.receiver) (views.there n))

-- ---- what a submit leaves

-- the sessions of this log are open, and their numbers are new
pub record AreBegun (parties : Party × Party) (w w' : World) (log : List Submission) : Type 0 where
  pub opens : (p : Submission) → IsIn p log → IsKeptSender (view parties w' p.from p.session).sender
  pub fresh : (p : Submission) → IsIn p log → (at_end w.engines p.from).next ≤ p.session

pub record SubmitMoves (parties : Party × Party) (w0 w : World) (c : ℕ) (rank : End → ℕ → ℕ)
    (w' : World) (log : List Submission) : Type 0 where
  pub moves : Moves parties w0 w rank 0 w' c
  pub advances : AllAdvance parties w w' []
  pub begun : AreBegun parties w w' log

-- a block that is refused
refused-moves : (parties : Party × Party) (w0 w : World) (c : ℕ) (rank : End → ℕ → ℕ)
    → IsGoing parties w c rank → SubmitMoves parties w0 w c rank w []
refused-moves parties w0 w c rank going = record {
  moves = moves-none parties w0 w c rank going;
  advances = all-still parties w [];
  begun = record { opens = λ p is. absurd is; fresh = λ p is. absurd is };
}

-- the ranks after a block that begins a session
begun-moves : (parties : Party × Party) (w0 w : World) (c : ℕ) (rank : End → ℕ → ℕ) (me : End)
    (block : List ℕ) → ArePeers parties → IsGoing parties w c rank
    → ((o : End) → (at_end w0.engines o).next ≤ (at_end w.engines o).next)
    → (at_end w.engines me).next < 2 ^ 32
    → Grows w (begun_world parties w me (begins_with parties w me block))
    → Room (begun_world parties w me (begins_with parties w me block))
    → IsReached parties (begun_world parties w me (begins_with parties w me block))
    → (view parties (begun_world parties w me (begins_with parties w me block)) me
    (at_end w.engines me).next).used ≡ true
    → (view parties (begun_world parties w me (begins_with parties w me block)) me
    (at_end w.engines me).next).by_sender ≡ (begins_with parties w me block).out
    → AfterSubmit SessionFacts parties (record { world = w; new = drop c w.sent }) rank me
    (begun_rank ((at_end parties me).policy).segment block (length block))
    (record {
      world = begun_world parties w me (begins_with parties w me block);
      new = drop c w.sent ++ since w (begun_world parties w me (begins_with parties w me block));
    })
    → Moves parties w0 w rank 0 (begun_world parties w me (begins_with parties w me block)) c
begun-moves parties w0 w c rank me block peers going before below grows room reached used said more =
    record {
      rank' = more.rank';
      going = record {
        holds = subst (λ new. DrainHolds SessionFacts parties
            (record { world = w'; new = new }) more.rank') (sym new-is) more.holds;
        room = room;
        within = omega (arith, going.within, ap length grows.sent, length-more w.sent (since w w'));
        reached = reached;
      };
      next = grows.next;
      bound = omega (arith, both-move parties w0 w w' rank more.rank' me here there);
      falls = λ same. absurd (omega (
        arith,
        same me,
        begun-next-here parties w me (begins_with parties w me block),
      ));
      numbers = numbers;
    }
  where
    w' : World
    w' = begun_world parties w me (begins_with parties w me block)

    numbers : ((o : End) → (at_end w.engines o).next ≤ 2 ^ 32) → (o : End)
        → (at_end (begun_world parties w me (begins_with parties w me block)).engines o).next ≤ 2
        ^ 32
    numbers low o = by (ends-two me o)
      where
        by : (o ≡ me) ⊎ (o ≡ other me) → (at_end (begun_world parties w me
            (begins_with parties w me block)).engines o).next ≤ 2 ^ 32
        by (inl here) = subst (λ (o : End). (at_end (begun_world parties w me
            (begins_with parties w me block)).engines o).next ≤ 2 ^ 32) (sym here)
            (omega (arith, below, begun-next-here parties w me (begins_with parties w me block)))
        by (inr there) = subst (λ (o : End). (at_end (begun_world parties w me
            (begins_with parties w me block)).engines o).next ≤ 2 ^ 32) (sym there)
            (omega (
              arith,
              low (other me),
              begun-next-there parties w me (begins_with parties w me block),
            ))

    length-more : (xs ys : List Sent) → length xs ≤ length (xs ++ ys)
    length-more [] ys = omega arith
    length-more (x ∷ xs) ys = omega (arith, length-more xs ys)

    new-is : drop c (begun_world parties w me (begins_with parties w me block)).sent ≡ drop c w.sent
        ++ since w (begun_world parties w me (begins_with parties w me block))
    new-is = ap (drop c) grows.sent
        ∙ drop-append-le c w.sent
        (since w (begun_world parties w me (begins_with parties w me block))) going.within

    apart : (n : ℕ) → n < (at_end w.engines me).next → n ≢ (at_end w.engines me).next
    apart n low same = omega (arith, low, same)

    new-cost : more.rank' me (at_end w.engines me).next ≤ session_cost parties w0
        (begun_world parties w me (begins_with parties w me block)) me (at_end w.engines me).next
    new-cost =
        let old : nat_lt (at_end w.engines me).next (at_end w0.engines me).next ≡ false =
        not-lt (at_end w.engines me).next (at_end w0.engines me).next (before me) in
        rw (old, used) (omega (
          arith,
          more.begun,
          begin-differ (at_end parties me).policy (at_end w.engines me).next block (length block)
              w.now (cuts-at parties me peers) (omega arith),
          ap (λ (cs : List ContentValue). different [] (offsets_of cs)) said,
        ))
      where
        not-lt : (a b : ℕ) → b ≤ a → nat_lt a b ≡ false
        not-lt a b low = grind (arith, nat_tests)

    here : EndMoves parties w0 w rank
        (begun_world parties w me (begins_with parties w me block)) more.rank' me
    here = end-more parties w0 w (begun_world parties w me (begins_with parties w me block)) rank
        more.rank' me grows (begun-next-here parties w me (begins_with parties w me block))
        (λ n low. omega (arith, more.same me n (λ same. apart n low))) new-cost

    there : EndMoves parties w0 w rank
        (begun_world parties w me (begins_with parties w me block)) more.rank' (other me)
    there = end-same parties w0 w (begun_world parties w me (begins_with parties w me block)) rank
        more.rank' (other me) grows
        (begun-next-there parties w me (begins_with parties w me block))
        (λ n low. omega (arith, more.same (other me) n (λ same. absurd (other-apart me same))))
      where
        other-apart : (me : End) → other me ≡ me → ⊥
        other-apart first_end same = cc
        other-apart second_end same = cc

pub submit-moves : (parties : Party × Party) (w0 w : World) (c : ℕ) (rank : End → ℕ → ℕ)
    (me : End) (block : List ℕ) → ArePeers parties → AreAlike parties → IsGoing parties w c rank
    → ((o : End) → (at_end w0.engines o).next ≤ (at_end w.engines o).next)
    → Room (submitted parties w me block (length block))
    → SubmitMoves parties w0 w c rank (submitted parties w me block (length block))
    (submissions_at parties w (submit me block (length block)))
submit-moves parties w0 w c rank me block peers alike going before room =
    go (submit-next SessionFacts session-gives parties (record { world = w; new = drop c w.sent })
    rank me block (length block) peers alike going.holds) (submit-is parties w me block)
  where
    To : World → List Submission → Type 0
    To w' log = SubmitMoves parties w0 w c rank w' log

    t : StepValue Sending
    t = begins_with parties w me block

    unused : (view parties w me (at_end w.engines me).next).used ≡ false
    unused = next-unused (at_end parties me) (at_end w.engines me)

    begins_one : 1 ≤ length block
        → Grows w (begun_world parties w me (begins_with parties w me block))
        → Moves parties w0 w rank 0
        (begun_world parties w me (begins_with parties w me block)) c
        → SubmitMoves parties w0 w c rank
        (begun_world parties w me (begins_with parties w me block))
        (record {
          from = me;
          session = (at_end w.engines me).next;
          block = block;
          red = length block;
        } ∷ [])
    begins_one some grows moves =
        let all = begins-all parties w me (begins_with parties w me block)
        (begun-views parties w me (begins_with parties w me block) peers (going.holds.next me))
        (begin-keeps (at_end parties me).policy (at_end w.engines me).next w.now block some) in
        record {
          moves = moves;
          advances = all.advances;
          begun = record { opens = opens all.opens; fresh = fresh };
        }
      where
        first : Submission
        first = record {
          from = me;
          session = (at_end w.engines me).next;
          block = block;
          red = length block;
        }

        opens : IsKeptSender (view parties (begun_world parties w me (begins_with parties w me block)) me
            (at_end w.engines me).next).sender → (p : Submission)
            → IsIn p (record {
              from = me;
              session = (at_end w.engines me).next;
              block = block;
              red = length block;
            } ∷ [])
            → IsKeptSender (view parties (begun_world parties w me (begins_with parties w me block))
            p.from p.session).sender
        opens is_open p (inl same) = subst (λ (p : Submission). IsKeptSender
            (view parties (begun_world parties w me (begins_with parties w me block)) p.from
            p.session).sender) same is_open
        opens is_open p (inr none) = absurd none

        fresh : (p : Submission) → IsIn p (record {
          from = me;
          session = (at_end w.engines me).next;
          block = block;
          red = length block;
        } ∷ []) → (at_end w.engines p.from).next ≤ p.session
        fresh p (inl same) = subst (λ (p : Submission). (at_end w.engines p.from).next ≤ p.session)
            same (omega arith)
        fresh p (inr none) = absurd none

    go : AfterBlock SessionFacts parties (record { world = w; new = drop c w.sent }) rank me block
        (length block) (submitted parties w me block (length block))
        → SubmitIs parties w me block (submitted parties w me block (length block))
        (submissions_at parties w (submit me block (length block)))
        → SubmitMoves parties w0 w c rank (submitted parties w me block (length block))
        (submissions_at parties w (submit me block (length block)))
    go x (refused_so same none) = subst (λ (w' : World). To w' (submissions_at parties w
        (submit me block (length block)))) (sym same)
        (subst (λ (log : List Submission). To w log) (sym none)
        (refused-moves parties w0 w c rank going))
    go (left_alone left) (begins_so some below same log) = absurd (
        let one : suc (at_end w.engines me).next ≡ (at_end w.engines me).next =
        sym (begun-next-here parties w me (begins_with parties w me block))
        ∙ ap (λ (w : World). (at_end w.engines me).next) (sym same ∙ left) in
        omega (arith, one))
    go (one_more fits used said more) (begins_so some below same log) =
        subst (λ (w' : World). To w' (submissions_at parties w
        (submit me block (length block)))) (sym same)
        (subst (λ (log : List Submission). To (begun_world parties w me
        (begins_with parties w me block)) log) (sym log) (begins_one some grows
        (begun-moves parties w0 w c rank me block peers going before below grows
        (subst Room same room)
        (subst (IsReached parties) same
        (reached-more parties w (submit me block (length block)) going.reached))
        (subst (λ (w' : World). (view parties w' me (at_end w.engines me).next).used ≡ true) same
        used)
        (subst (λ (w' : World). (view parties w' me (at_end w.engines me).next).by_sender ≡ t.out)
        same said)
        (subst (λ (w' : World). AfterSubmit SessionFacts parties
        (record { world = w; new = drop c w.sent }) rank me
        (begun_rank ((at_end parties me).policy).segment block (length block))
        (record { world = w'; new = drop c w.sent ++ since w w' })) same more))))
      where
        grows : Grows w (begun_world parties w me (begins_with parties w me block))
        grows = subst (Grows w) same (submitted-grows parties w me block (length block))

-- ---- blocks, one after the other

-- these are blocks, all of them red
abbrev pub AreBlocks : List Event → Type 0
AreBlocks [] = Unit {0}
AreBlocks (submit end block red ∷ events) = (red ≡ length block) × AreBlocks events
AreBlocks (deliver k ∷ events) = ⊥
AreBlocks (clock now ∷ events) = ⊥

-- one after another
submit-then : (parties : Party × Party) (w0 w v x : World) (c : ℕ) (rank : End → ℕ → ℕ)
    (log more : List Submission) → (first : SubmitMoves parties w0 w c rank v log)
    → SubmitMoves parties w0 v c (first.moves).rank' x more
    → SubmitMoves parties w0 w c rank x (log ++ more)
submit-then parties w0 w v x c rank log more first later = record {
  moves = moves-then parties w0 w v x rank 0 c 0 c first.moves later.moves;
  advances = λ o n. advances-both (view parties w o n) (view parties v o n) (view parties x o n) _ _
      _ _ _ _ (λ s. s) (λ s. s) (λ u. u) (λ u. u) (first.advances o n) (later.advances o n);
  begun = record {
    opens = λ p is. opens p (in-either p log more is);
    fresh = λ p is. fresh p (in-either p log more is);
  };
}
  where
    opens : (p : Submission) → IsIn p log ⊎ IsIn p more
        → IsKeptSender (view parties x p.from p.session).sender
    opens p (inl is) = open-stays (view parties v p.from p.session)
        (view parties x p.from p.session) _ _ (none-noted p.from _)
        (later.advances p.from p.session) ((first.begun).opens p is)
    opens p (inr is) = (later.begun).opens p is

    fresh : (p : Submission) → IsIn p log ⊎ IsIn p more → (at_end w.engines p.from).next ≤ p.session
    fresh p (inl is) = (first.begun).fresh p is
    fresh p (inr is) = omega (arith, (first.moves).next p.from, (later.begun).fresh p is)

pub submits-moves : (parties : Party × Party) (w0 : World) → ArePeers parties → AreAlike parties
    → (events : List Event) (w : World) (c : ℕ) (rank : End → ℕ → ℕ) → AreBlocks events
    → IsRoomyThrough parties w events → IsGoing parties w c rank
    → ((o : End) → (at_end w0.engines o).next ≤ (at_end w.engines o).next)
    → SubmitMoves parties w0 w c rank (run parties w events) (submissions parties w events)
unfolding submissions
submits-moves parties w0 peers alike [] w c rank blocks room going before =
    refused-moves parties w0 w c rank going
submits-moves parties w0 peers alike (submit end block red ∷ events) w c rank blocks room going
    before =
    subst To (sym blocks.0) (
    let first = submit-moves parties w0 w c rank end block peers alike going before
    (subst (λ (red : ℕ). Room (submitted parties w end block red)) blocks.0 room.0) in
    let rest = submits-moves parties w0 peers alike events
    (submitted parties w end block (length block)) c (first.moves).rank' blocks.1
    (subst (λ (red : ℕ). IsRoomyThrough parties (submitted parties w end block red) events)
    blocks.0 room.1) (first.moves).going
    (λ o. omega (arith, before o, (first.moves).next o)) in
    submit-then parties w0 w (submitted parties w end block (length block))
    (run parties (submitted parties w end block (length block)) events) c rank
    (submissions_at parties w (submit end block (length block)))
    (submissions parties (submitted parties w end block (length block)) events) first rest)
  where
    To : ℕ → Type 0
    To red = SubmitMoves parties w0 w c rank (run parties (submitted parties w end block red) events)
        (submissions_at parties w (submit end block red)
        ++ submissions parties (submitted parties w end block red) events)
submits-moves parties w0 peers alike (deliver k ∷ events) w c rank blocks room going before =
    absurd blocks
submits-moves parties w0 peers alike (clock now ∷ events) w c rank blocks room going before =
    absurd blocks

-- ---- an event that comes first, and blocks

pub record EventMoves (parties : Party × Party) (w0 w : World) (rank : End → ℕ → ℕ) (k : ℕ)
    (w' : World) (c' : ℕ) (es : List EndEffects) (log : List Submission) : Type 0 where
  pub moves : Moves parties w0 w rank k w' c'
  pub advances : AllAdvance parties w w' es
  pub begun : AreBegun parties w w' log

pub event-moves : (parties : Party × Party) (w0 w v : World) (rank : End → ℕ → ℕ) (k c : ℕ)
    (es : List EndEffects) (blocks : List Event) → ArePeers parties → AreAlike parties
    → ((o : End) → (at_end w0.engines o).next ≤ (at_end w.engines o).next)
    → Moves parties w0 w rank k v c → AllAdvance parties w v es → AreBlocks blocks
    → IsRoomyThrough parties v blocks
    → EventMoves parties w0 w rank k (run parties v blocks) c es (submissions parties v blocks)
event-moves parties w0 w v rank k c es blocks peers alike before first advances are room =
    let rest = submits-moves parties w0 peers alike blocks v c first.rank' are room first.going
    (λ o. omega (arith, before o, first.next o)) in
    record {
      moves = with_none (moves-then parties w0 w v (run parties v blocks) rank k c 0 c first
          rest.moves);
      advances = λ o n. advances-both (view parties w o n) (view parties v o n)
          (view parties (run parties v blocks) o n) _ _ _ _ _ _ (λ s. s)
          (λ s. absurd (none-noted o _ s)) (λ u. u) (λ u. absurd (none-handed (other o) n u))
          (advances o n) (rest.advances o n);
      begun = record {
        opens = (rest.begun).opens;
        fresh = λ p is. omega (arith, first.next p.from, (rest.begun).fresh p is);
      };
    }
  where
    with_none : Moves parties w0 w rank (k + 0) (run parties v blocks) c
        → Moves parties w0 w rank k (run parties v blocks) c
    with_none m = record {
      rank' = m.rank';
      going = m.going;
      next = m.next;
      bound = omega (arith, m.bound);
      falls = λ same. omega (arith, m.falls same);
      numbers = m.numbers;
    }
