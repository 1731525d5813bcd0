-- A drain from a hopeful world has no more events than its sessions' ranks.

use Rattle.std.proofs.Common.{◌≡◌, ◌≢◌, ℕ, ◌+◌, ◌<◌, ◌≤◌, Bool, true, false, ◌==◌, ◌&&◌, List, []}
use Rattle.std.proofs.Common.{◌∷◌, ◌++◌, length, drop, Option, None, Some, is_some, Ok, ◌⊎◌, inl}
use Rattle.std.proofs.Common.{inr, refl, sym, ◌∙◌, ap, arith, subst, append_assoc, nat_lt, nat_le}
use Rattle.std.proofs.Common.{if◌then◌else◌}
use Rattle.std.proofs.lemmas.Bool.{eqb-true, eqb-false, eq-eqb, ltb-true}
use Rattle.std.proofs.lemmas.List.{append-nil}
use Rattle.std.specs.Option.{option_map}
use Rattle.ltp_segment.specs.Values.{ContentValue, SegmentValue, a_piece}
use Rattle.ltp_segment.specs.declared.session.Note.TheVariants as notes
use Rattle.ltp_session.specs.Engine.{UpValue, datagram_step, list_of, replied}
use Rattle.ltp_session.specs.Engine.{replied_or_stranger, sender_changes, receiver_changes}
use Rattle.ltp_session.specs.Engine.{Engine, Party, Reply, arrives, closed_runs, is_used}
use Rattle.ltp_session.specs.Engine.{admission_of, receiver_replies, receiver_ticks, sender_replies}
use Rattle.ltp_session.specs.Engine.{sender_ticks, tick_engine, tick_out, tick_segments}
use Rattle.ltp_session.specs.Receiver.{Pending, Receiving, receiver_answers}
use Rattle.ltp_session.specs.Sender.{Sending, sender_answers, sending_timer}
use Rattle.ltp_session.specs.Step.{StepValue}
use Rattle.ltp_session.specs.Table.{AreAscending, find}
use Rattle.ltp_session.specs.Views.{headed_all}
use Rattle.ltp_session.specs.World.{ArePeers, End, Sent, World, arrival, at_end, first_end, other}
use Rattle.ltp_session.specs.World.{replies, second_end, sent_by, ticks, with_end}
use Rattle.ltp_session.specs.declared.name.SessionName.{SessionName}
use Rattle.ltp_laws.specs.Serials.{pending_of}
use Rattle.ltp_laws.specs.View.{session_of, IsIn, View, said, same_end, view, view_by}
use Rattle.ltp_laws.proofs.FrameLemmas.{roomy-received, sent_by-append}
use Rattle.ltp_laws.proofs.ListLemmas.{both_arms}
use Rattle.ltp_laws.proofs.RunLemmas.{Linked, linked-at, two_ends}
use Rattle.ltp_laws.proofs.TableLemmas.{ascending-settled, ascending-ticked}
use Rattle.ltp_drain.specs.Calm.{AreFit, Calm, IsComing, Advances}
use Rattle.ltp_drain.specs.Draining.{Draining, Oldest, oldest, since}
use Rattle.ltp_drain.specs.Effects.{EndEffects, IsHandedUp, IsNoted}
use Rattle.ltp_drain.specs.Hopeful.{IsHanded, IsKeptSender, sum_below}
use Rattle.ltp_drain.specs.Rank.{IsAskedOn, IsReportedOn}
use Rattle.ltp_drain.specs.Standing.{NextOf, TickedTo, AreKnown, AllAdvance, DrainHolds, IsRoomy}
use Rattle.ltp_drain.specs.Standing.{IsDueOf, Next, Stands, due_receiver, due_sender, setting}
use Rattle.ltp_drain.specs.Standing.{setting_by}
use Rattle.ltp_drain.proofs.DrainFrame.{AdvancesOn, ReplyAdvances, arrival-advances, was_begun}
use Rattle.ltp_drain.proofs.DrainFrame.{never_begun, AllStand, Begun, Gives, ReplyTouches}
use Rattle.ltp_drain.proofs.DrainFrame.{Touches, arrival-touches, is-begun, is-of, own_session}
use Rattle.ltp_drain.proofs.DrainFrame.{peer_session, stands-so}
use Rattle.ltp_drain.proofs.DrainLists.{Finds, at_once, drop-front, finds, later, nothing-oldest}
use Rattle.ltp_drain.proofs.DrainLists.{said-none, said-take, sum-less, sum-most}
use Rattle.ltp_drain.proofs.DrainStarts.{none-asked, none-reported}
use Rattle.ltp_drain.proofs.TickFrame.{TickLower, own-receiver-says, own-sender-says, own-ticks}
use Rattle.ltp_drain.proofs.TickFrame.{own-ticks-advance, peer-receiver-says, peer-sender-says}
use Rattle.ltp_drain.proofs.TickFrame.{peer-ticks, peer-ticks-advance}

-- ---- what an arrival leaves of the engine

record Kept (e e' : Engine) : Type 0 where
  next : e'.next ≡ e.next
  senders : AreAscending 0 e.senders → AreAscending 0 e'.senders
  receivers : AreAscending 0 e.receivers → AreAscending 0 e'.receivers

abbrev ReplyKept : Engine → Option Reply → Type 0
ReplyKept e None = Unit {0}
ReplyKept e (Some r) = Kept e r.engine

arrives-kept : (p : Party) (e : Engine) (s : SegmentValue) (now : ℕ)
    → ReplyKept e (arrives p e s now)
unfolding arrives
arrives-kept p e s now =
    both_arms (ReplyKept e) (s.originator == p.own) _ _
    (both_arms (ReplyKept e) (is_used p e s.session) _ _
    (own (sender_answers p.policy (find s.session e.senders) s.content now)) tt)
    (both_arms (ReplyKept e) (s.originator == p.peer) _ _
    (peer (receiver_answers p.policy (admission_of p e s.session) (find s.session e.receivers)
    s.content now)) tt)
  where
    own : (x : Option (StepValue Sending)) → ReplyKept e (sender_replies e s.session x)
    own None = tt
    own (Some t) = record {
      next = refl;
      senders = λ ascending. ascending-settled s.session 0
          t.next e.senders (omega arith) ascending;
      receivers = λ ascending. ascending;
    }

    peer : (x : Option (StepValue Receiving)) → ReplyKept e (receiver_replies p e s.session x)
    peer None = tt
    peer (Some t) =
        let roomy = roomy-received p e s.session t.next in
        record {
          next = roomy.next;
          senders = λ ascending. subst (AreAscending 0)
              (sym roomy.senders) ascending;
          receivers = roomy.receivers;
        }

replies-next : (w : World) (me : End) (name : SessionName) (x : Option Reply)
    → ReplyKept (at_end w.engines me) x → (o : End)
    → (at_end (replies w me name x).engines o).next ≡ (at_end w.engines o).next
replies-next w me name None kept o = refl
replies-next w first_end name (Some r) kept first_end = kept.next
replies-next w first_end name (Some r) kept second_end = refl
replies-next w second_end name (Some r) kept first_end = refl
replies-next w second_end name (Some r) kept second_end = kept.next

-- a delivery begins no session
pub arrival-next : (parties : Party × Party) (w : World) (me : End) (s : SegmentValue) (o : End)
    → (at_end (arrival parties w me s).engines o).next ≡ (at_end w.engines o).next
arrival-next parties w me s o = replies-next w me (session_of s.originator s.session) _
    (arrives-kept (at_end parties me) (at_end w.engines me) s w.now) o

-- ---- originators

abbrev pub IsKnown : Party × Party → ℕ → Type 0
IsKnown parties origin = (origin ≡ (parties.0).own) ⊎ (origin ≡ (parties.1).own)

pub known-append : (parties : Party × Party) (xs ys : List Sent) → AreKnown parties xs
    → AreKnown parties ys → AreKnown parties (xs ++ ys)
known-append parties [] ys all_xs all_ys = all_ys
known-append parties (x ∷ xs) ys all_xs all_ys =
    (all_xs.0, known-append parties xs ys all_xs.1 all_ys)

pub known-headed : (parties : Party × Party) (from : End) (origin n : ℕ) (out : List ContentValue)
    → IsKnown parties origin → AreKnown parties
    (sent_by from (headed_all (session_of origin n) out))
known-headed parties from origin n [] is = tt
known-headed parties from origin n (c ∷ cs) is = (is, known-headed parties from origin n cs is)

known-ticks : {S : Type 0} (parties : Party × Party) (from : End) (tick : S → StepValue S)
    (origin : ℕ) (es : List (ℕ × S)) → IsKnown parties origin
    → AreKnown parties (sent_by from (tick_segments tick origin es))
unfolding tick_segments
known-ticks parties from tick origin [] is = tt
known-ticks parties from tick origin (e ∷ es) is =
    subst (AreKnown parties) (sym (sent_by-append from
    (headed_all (session_of origin e.0) (tick e.1).out) (tick_segments tick origin es)))
    (known-append parties _ _ (known-headed parties from origin e.0 (tick e.1).out is)
    (known-ticks parties from tick origin es is))

pub known-out : (parties : Party × Party) (from : End) (p : Party) (e : Engine) (now : ℕ)
    → IsKnown parties p.own → IsKnown parties p.peer
    → AreKnown parties (sent_by from (tick_out p e now))
known-out parties from p e now own peer =
    subst (AreKnown parties) (sym (sent_by-append from
    (tick_segments (sender_ticks p now) p.own e.senders)
    (tick_segments (receiver_ticks p now) p.peer e.receivers)))
    (known-append parties _ _ (known-ticks parties from (sender_ticks p now) p.own e.senders own)
    (known-ticks parties from (receiver_ticks p now) p.peer e.receivers peer))

record KnownOldest (parties : Party × Party) (o : Oldest) : Type 0 where
  first : IsKnown parties (o.first.segment).originator
  others : AreKnown parties o.others

known-oldest : (parties : Party × Party) (from : End) (new : List Sent) (o : Oldest)
    → oldest from new ≡ Some o → AreKnown parties new → KnownOldest parties o
known-oldest parties from [] o is all = absurd (nothing-oldest from is)
known-oldest parties from (d ∷ ds) o is all =
    go (finds from d ds o is) (λ x found. known-oldest parties from ds x found all.1)
  where
    go : Finds from d ds o → ((x : Oldest) → oldest from ds ≡ Some x → KnownOldest parties x)
        → KnownOldest parties o
    go (at_once mine found) deeper = subst (KnownOldest parties) found
        (record { first = all.0; others = all.1 })
    go (later apart x some found) deeper =
        let rest = deeper x some in
        subst (KnownOldest parties) found (record
        { first = rest.first; others = (all.0, rest.others) })

-- a new segment is of a session of one of the two
pub of-known : (parties : Party × Party) (from : End) (new : List Sent) (o : Oldest)
    → oldest from new ≡ Some o → AreKnown parties new
    → IsKnown parties o.first.segment.originator
of-known parties from new o is known = (known-oldest parties from new o is known).first

-- ---- ranks after an event

unfoldable pub changed : ℕ → ℕ → (ℕ → ℕ) → ℕ → ℕ
changed n left f m = if n == m then left else f m

pub changed-holds : (P : ℕ → ℕ → Type 0) (n left : ℕ) (f : ℕ → ℕ) → P n left
    → ((m : ℕ) → n ≢ m → P m (f m)) → (m : ℕ) → P m (changed n left f m)
unfolding changed
changed-holds P n left f here others m = by_test (n == m) refl
  where
    by_test : (same : Bool) → (n == m) ≡ same → P m (if same then left else f m)
    by_test true is = subst (λ k. P k left) (eqb-true n m is) here
    by_test false is = others m (eqb-false n m is)

changed-most : (n left : ℕ) (f : ℕ → ℕ) → left < f n → (m : ℕ) → changed n left f m ≤ f m
unfolding changed
changed-most n left f less m = by_test (n == m) refl
  where
    by_test : (same : Bool) → (n == m) ≡ same → (if same then left else f m) ≤ f m
    by_test true is = subst (λ k. left ≤ f k) (eqb-true n m is) (omega (arith, less))
    by_test false is = omega arith

changed-sum : (N n left : ℕ) (f : ℕ → ℕ) → n < N → left < f n
    → sum_below N (changed n left f) < sum_below N f
unfolding changed
changed-sum N n left f low less = sum-less N (changed n left f) f (changed-most n left f less) n
    low (rw (eq-eqb n n refl) less)

unfoldable pub pick : (ℕ → ℕ) → (ℕ → ℕ) → End → ℕ → ℕ
pick f g first_end = f
pick f g second_end = g

pub used-low : (p : Party) (e : Engine) (n : ℕ) → is_used p e n ≡ true → n < e.next
used-low p e n is = by (nat_le p.first n) (nat_lt n e.next) refl is
  where
    by : (a b : Bool) → nat_lt n e.next ≡ b → (a && b) ≡ true → n < e.next
    by true true low h = ltb-true n e.next low
    by true false low h = absurd (cc)
    by false b low h = absurd (cc)

pick-most : (f g : ℕ → ℕ) (rank : End → ℕ → ℕ) → ((n : ℕ) → f n ≤ rank first_end n)
    → ((n : ℕ) → g n ≤ rank second_end n) → (o : End) (n : ℕ) → pick f g o n ≤ rank o n
unfolding pick
pick-most f g rank most_f most_g first_end n = most_f n
pick-most f g rank most_f most_g second_end n = most_g n

same-most : (f : ℕ → ℕ) (n : ℕ) → f n ≤ f n
same-most f n = omega arith

changed-low : (n left : ℕ) (f : ℕ → ℕ) (k : ℕ) → k ≡ n → left < f n → changed n left f k < f k
unfolding changed
changed-low n left f k is less = rw (eq-eqb n k (sym is)) (subst (λ m. left < f m) (sym is) less)

touched-next : (F : List ℕ → ℕ → View → Type 0) (parties : Party × Party) (d : Draining)
    (rank : End → ℕ → ℕ) (me : End) (e' : Engine) (sent' new' : List Sent) (origin n : ℕ)
    → ArePeers parties → DrainHolds F parties d rank → Kept (at_end (d.world).engines me) e'
    → AreKnown parties new'
    → Touches F me (other me) (at_end parties me) (at_end parties (other me))
    (at_end (d.world).engines me) (at_end (d.world).engines (other me)) (rank me)
    (rank (other me)) e' sent' new' origin n
    → NextOf F parties d (record {
      world = record {
        engines = with_end (d.world).engines me e';
        sent = sent';
        now = (d.world).now;
      };
      new = new';
    }) rank origin n
unfolding pick
touched-next F parties d rank first_end e' sent' new' origin k peers holds kept known touches =
    go touches
  where
    senders : (o : End) → AreAscending 0 (at_end (e', (d.world).engines.1) o).senders
    senders first_end = kept.senders (holds.senders first_end)
    senders second_end = holds.senders second_end

    receivers : (o : End) → AreAscending 0 (at_end (e', (d.world).engines.1) o).receivers
    receivers first_end = kept.receivers (holds.receivers first_end)
    receivers second_end = holds.receivers second_end

    next : (o : End) → (at_end parties o).first ≤ (at_end (e', (d.world).engines.1) o).next
    next first_end = omega (arith, holds.next first_end, kept.next)
    next second_end = holds.next second_end

    peer_apart : parties.0.own ≢ parties.1.own
    peer_apart = peers.differ

    To : Type 0
    To = NextOf F parties d (record {
      world = record {
        engines = (e', (d.world).engines.1);
        sent = sent';
        now = (d.world).now;
      };
      new = new';
    }) rank origin k

    go : Touches F first_end second_end parties.0 parties.1 (d.world).engines.0
        (d.world).engines.1 (rank first_end) (rank second_end) e' sent' new' origin k → To
    go (own_session n is_origin is_n low others peers) = record {
      next = record {
        rank' = pick (changed n low.left (rank first_end)) (rank second_end);
        never_up = pick-most (changed n low.left (rank first_end)) (rank second_end) rank
            (changed-most n low.left (rank first_end) low.less) (same-most (rank second_end));
        holds = record {
          session = session;
          senders = senders;
          receivers = receivers;
          next = next;
          known = known;
        };
        falls = omega (
          arith,
          changed-sum (d.world).engines.0.next n low.left (rank first_end)
              (omega (arith, used-low parties.0 e' n low.used, kept.next)) low.less,
          ap (λ k. sum_below k (changed n low.left (rank first_end))) kept.next,
        );
      };
      named = named;
    }
      where
        named : (o : End) → (at_end parties o).own ≡ origin
            → pick (changed n low.left (rank first_end)) (rank second_end) o k < rank o k
        named first_end own = changed-low n low.left (rank first_end) k is_n low.less
        named second_end own = absurd (peer_apart (sym (own ∙ is_origin)))

        session : (o : End) (m : ℕ) → Stands F (setting parties o m)
            (view parties (record {
              engines = (e', (d.world).engines.1);
              sent = sent';
              now = (d.world).now;
            }) o m)
            (said o (at_end parties o).own m new') (said (other o) (at_end parties o).own m new')
            (pick (changed n low.left (rank first_end)) (rank second_end) o m)
        session first_end m = changed-holds (λ m k. Stands F (setting_by parties.0 parties.1 m)
            (view_by first_end second_end parties.0 e' (d.world).engines.1 sent' m)
            (said first_end (parties.0).own m new') (said second_end (parties.0).own m new') k)
            n low.left (rank first_end) low.stands others m
        session second_end m = peers m
    go (peer_session n is_origin is_n low others owns) = record {
      next = record {
        rank' = pick (rank first_end) (changed n low.left (rank second_end));
        never_up = pick-most (rank first_end) (changed n low.left (rank second_end)) rank
            (same-most (rank first_end)) (changed-most n low.left (rank second_end) low.less);
        holds = record {
          session = session;
          senders = senders;
          receivers = receivers;
          next = next;
          known = known;
        };
        falls = omega (
          arith,
          changed-sum (d.world).engines.1.next n low.left (rank second_end)
              (used-low parties.1 (d.world).engines.1 n low.used) low.less,
          ap (λ k. sum_below k (rank first_end)) kept.next,
        );
      };
      named = named;
    }
      where
        named : (o : End) → (at_end parties o).own ≡ origin
            → pick (rank first_end) (changed n low.left (rank second_end)) o k < rank o k
        named first_end own = absurd (peer_apart (own ∙ is_origin))
        named second_end own = changed-low n low.left (rank second_end) k is_n low.less

        session : (o : End) (m : ℕ) → Stands F (setting parties o m)
            (view parties (record {
              engines = (e', (d.world).engines.1);
              sent = sent';
              now = (d.world).now;
            }) o m)
            (said o (at_end parties o).own m new') (said (other o) (at_end parties o).own m new')
            (pick (rank first_end) (changed n low.left (rank second_end)) o m)
        session first_end m = owns m
        session second_end m = changed-holds (λ m k. Stands F (setting_by parties.1 parties.0 m)
            (view_by second_end first_end parties.1 (d.world).engines.1 e' sent' m)
            (said second_end (parties.1).own m new') (said first_end (parties.1).own m new') k)
            n low.left (rank second_end) low.stands others m
touched-next F parties d rank second_end e' sent' new' origin k peers holds kept known touches =
    go touches
  where
    senders : (o : End) → AreAscending 0 (at_end ((d.world).engines.0, e') o).senders
    senders first_end = holds.senders first_end
    senders second_end = kept.senders (holds.senders second_end)

    receivers : (o : End) → AreAscending 0 (at_end ((d.world).engines.0, e') o).receivers
    receivers first_end = holds.receivers first_end
    receivers second_end = kept.receivers (holds.receivers second_end)

    next : (o : End) → (at_end parties o).first ≤ (at_end ((d.world).engines.0, e') o).next
    next first_end = holds.next first_end
    next second_end = omega (arith, holds.next second_end, kept.next)

    peer_apart : parties.0.own ≢ parties.1.own
    peer_apart = peers.differ

    To : Type 0
    To = NextOf F parties d (record {
      world = record {
        engines = ((d.world).engines.0, e');
        sent = sent';
        now = (d.world).now;
      };
      new = new';
    }) rank origin k

    go : Touches F second_end first_end parties.1 parties.0 (d.world).engines.1
        (d.world).engines.0 (rank second_end) (rank first_end) e' sent' new' origin k → To
    go (own_session n is_origin is_n low others peers) = record {
      next = record {
        rank' = pick (rank first_end) (changed n low.left (rank second_end));
        never_up = pick-most (rank first_end) (changed n low.left (rank second_end)) rank
            (same-most (rank first_end)) (changed-most n low.left (rank second_end) low.less);
        holds = record {
          session = session;
          senders = senders;
          receivers = receivers;
          next = next;
          known = known;
        };
        falls = omega (
          arith,
          changed-sum (d.world).engines.1.next n low.left (rank second_end)
              (omega (arith, used-low parties.1 e' n low.used, kept.next)) low.less,
          ap (λ k. sum_below k (changed n low.left (rank second_end))) kept.next,
        );
      };
      named = named;
    }
      where
        named : (o : End) → (at_end parties o).own ≡ origin
            → pick (rank first_end) (changed n low.left (rank second_end)) o k < rank o k
        named first_end own = absurd (peer_apart (own ∙ is_origin))
        named second_end own = changed-low n low.left (rank second_end) k is_n low.less

        session : (o : End) (m : ℕ) → Stands F (setting parties o m)
            (view parties (record {
              engines = ((d.world).engines.0, e');
              sent = sent';
              now = (d.world).now;
            }) o m)
            (said o (at_end parties o).own m new') (said (other o) (at_end parties o).own m new')
            (pick (rank first_end) (changed n low.left (rank second_end)) o m)
        session first_end m = peers m
        session second_end m = changed-holds (λ m k. Stands F (setting_by parties.1 parties.0 m)
            (view_by second_end first_end parties.1 e' (d.world).engines.0 sent' m)
            (said second_end (parties.1).own m new') (said first_end (parties.1).own m new') k)
            n low.left (rank second_end) low.stands others m
    go (peer_session n is_origin is_n low others owns) = record {
      next = record {
        rank' = pick (changed n low.left (rank first_end)) (rank second_end);
        never_up = pick-most (changed n low.left (rank first_end)) (rank second_end) rank
            (changed-most n low.left (rank first_end) low.less) (same-most (rank second_end));
        holds = record {
          session = session;
          senders = senders;
          receivers = receivers;
          next = next;
          known = known;
        };
        falls = omega (
          arith,
          changed-sum (d.world).engines.0.next n low.left (rank first_end)
              (used-low parties.0 (d.world).engines.0 n low.used) low.less,
          ap (λ k. sum_below k (rank second_end)) kept.next,
        );
      };
      named = named;
    }
      where
        named : (o : End) → (at_end parties o).own ≡ origin
            → pick (changed n low.left (rank first_end)) (rank second_end) o k < rank o k
        named first_end own = changed-low n low.left (rank first_end) k is_n low.less
        named second_end own = absurd (peer_apart (sym (own ∙ is_origin)))

        session : (o : End) (m : ℕ) → Stands F (setting parties o m)
            (view parties (record {
              engines = ((d.world).engines.0, e');
              sent = sent';
              now = (d.world).now;
            }) o m)
            (said o (at_end parties o).own m new') (said (other o) (at_end parties o).own m new')
            (pick (changed n low.left (rank first_end)) (rank second_end) o m)
        session first_end m = changed-holds (λ m k. Stands F (setting_by parties.0 parties.1 m)
            (view_by first_end second_end parties.0 (d.world).engines.0 e' sent' m)
            (said first_end (parties.0).own m new') (said second_end (parties.0).own m new') k)
            n low.left (rank first_end) low.stands others m
        session second_end m = owns m

-- ---- a delivery

pub drop-all : {X : Type 0} (xs : List X) → drop (length xs) xs ≡ []
drop-all [] = refl
drop-all (x ∷ xs) = drop-all xs

-- the sessions, as an end sees them that gets something
pub all-stand : (F : List ℕ → ℕ → View → Type 0) (parties : Party × Party) (d : Draining)
    (rank : End → ℕ → ℕ) (me : End) → DrainHolds F parties d rank
    → AllStand F me (other me) (at_end parties me) (at_end parties (other me))
    (at_end (d.world).engines me) (at_end (d.world).engines (other me)) (d.world).sent d.new
    (rank me) (rank (other me))
all-stand F parties d rank first_end holds = record {
  own = λ n. holds.session first_end n;
  peer = λ n. holds.session second_end n;
}
all-stand F parties d rank second_end holds =
    record { own = λ n. holds.session second_end n; peer = λ n. holds.session first_end n }

flip_known : (parties : Party × Party) (me : End) (origin : ℕ) → IsKnown parties origin
    → (origin ≡ (at_end parties me).own) ⊎ (origin ≡ (at_end parties (other me)).own)
flip_known parties first_end origin is = is
flip_known parties second_end origin (inl is) = inr is
flip_known parties second_end origin (inr is) = inl is

drain-fit : (F : List ℕ → ℕ → View → Type 0) (parties : Party × Party) (d : Draining) (rank : End
    → ℕ → ℕ) → DrainHolds F parties d rank → (o : End) (n : ℕ)
    → AreFit (at_end parties (other o)).most (view parties d.world o n).by_sender
drain-fit F parties d rank holds o n = go (is-begun F (setting parties o n)
    (view parties d.world o n) _ _ (rank o n) (holds.session o n))
  where
    go : Begun F (setting parties o n) (view parties d.world o n)
        (said o (at_end parties o).own n d.new) (said (other o) (at_end parties o).own n d.new)
        (rank o n) → AreFit (at_end parties (other o)).most (view parties d.world o n).by_sender
    go (was_begun used st) = (st.drains).fit
    go (never_begun unused idle) = λ q among. absurd
        (subst (IsIn (a_piece q)) (idle.unused).by_sender among)

fit-own : (parties : Party × Party) (w : World) (me : End)
    → ((o : End) (n : ℕ) → AreFit (at_end parties (other o)).most (view parties w o n).by_sender)
    → (n : ℕ) → AreFit (at_end parties (other me)).most
    (view_by me (other me) (at_end parties me) (at_end w.engines me) (at_end w.engines (other me))
    w.sent n).by_sender
fit-own parties w me fit n = fit me n

fit-peer : (parties : Party × Party) (w : World) (me : End)
    → ((o : End) (n : ℕ) → AreFit (at_end parties (other o)).most (view parties w o n).by_sender)
    → (n : ℕ) → AreFit (at_end parties me).most
    (view_by (other me) me (at_end parties (other me)) (at_end w.engines (other me))
    (at_end w.engines me) w.sent n).by_sender
fit-peer parties w first_end fit n = fit second_end n
fit-peer parties w second_end fit n = fit first_end n

room-peer : (parties : Party × Party) (w : World) (me : End) → IsRoomy parties w → (n : ℕ)
    → IsComing (view_by (other me) me (at_end parties (other me)) (at_end w.engines (other me))
    (at_end w.engines me) w.sent n)
    → (length (at_end w.engines me).receivers < (at_end parties me).sessions)
    × (closed_runs (at_end w.engines me).closed + length (at_end w.engines me).receivers <
    (at_end parties me).history)
room-peer parties w first_end room n = room.room second_end n
room-peer parties w second_end room n = room.room first_end n

pub set-same : {X : Type 0} (x : X × X) (me : End) → with_end x me (at_end x me) ≡ x
set-same x first_end = refl
set-same x second_end = refl

pub delivery-next : (F : List ℕ → ℕ → View → Type 0) → Gives F
    → (parties : Party × Party) (d : Draining) (rank : End → ℕ → ℕ) (me : End) (o : Oldest)
    → ArePeers parties
    → DrainHolds F parties d rank → IsRoomy parties d.world → oldest (other me) d.new ≡ Some o
    → NextOf F parties d (record {
      world = arrival parties d.world me o.first.segment;
      new = o.others ++ since d.world (arrival parties d.world me o.first.segment);
    }) rank (o.first.segment).originator (o.first.segment).session
delivery-next F gives parties d rank me o peers holds room is =
    by_reply (arrives (at_end parties me) (at_end (d.world).engines me) o.first.segment
    (d.world).now)
    (arrival-touches F gives me (other me) (at_end parties me) (at_end parties (other me))
    (at_end (d.world).engines me) (at_end (d.world).engines (other me)) (d.world).sent d.new
    (rank me) (rank (other me)) o (d.world).now
    (two_ends me) (linked-at parties me peers) (all-stand F parties d rank me holds) is
    (flip_known parties me (o.first.segment).originator known.first)
    (room-peer parties d.world me room) (fit-own parties d.world me
    (drain-fit F parties d rank holds)) (fit-peer parties d.world me
    (drain-fit F parties d rank holds)))
    (arrives-kept (at_end parties me) (at_end (d.world).engines me) o.first.segment (d.world).now)
  where
    known : KnownOldest parties o
    known = known-oldest parties (other me) d.new o is holds.known

    by_reply : (x : Option Reply)
        → ReplyTouches F me (other me) (at_end parties me) (at_end parties (other me))
        (at_end (d.world).engines me) (at_end (d.world).engines (other me)) (d.world).sent
        (rank me) (rank (other me)) o x
        → ReplyKept (at_end (d.world).engines me) x
        → NextOf F parties d (record {
          world = replies d.world me
              (session_of (o.first.segment).originator (o.first.segment).session) x;
          new =
              o.others ++ since d.world (replies d.world me
              (session_of (o.first.segment).originator (o.first.segment).session) x);
        }) rank (o.first.segment).originator (o.first.segment).session
    by_reply None touches kept =
        let next = touched-next F parties d rank me (at_end (d.world).engines me)
        (d.world).sent o.others (o.first.segment).originator (o.first.segment).session peers holds
        (record {
          next = refl;
          senders = λ h. h;
          receivers = λ h. h;
        }) known.others touches in
        let same : o.others ≡ o.others ++ since d.world d.world =
        sym (ap (λ (ds : List Sent). o.others ++ ds) (drop-all (d.world).sent)
        ∙ append-nil o.others) in
        subst (λ ds. NextOf F parties d (record { world = d.world; new = ds }) rank
        (o.first.segment).originator (o.first.segment).session) same
        (subst (λ es. NextOf F parties d (record {
          world = record { engines = es; sent = (d.world).sent; now = (d.world).now };
          new = o.others;
        }) rank (o.first.segment).originator (o.first.segment).session)
        (set-same (d.world).engines me) next)
    by_reply (Some r) touches kept =
        let added : List Sent = sent_by me (headed_all
        (session_of (o.first.segment).originator (o.first.segment).session) r.out) in
        subst (λ ds. NextOf F parties d (record {
          world = record {
            engines = with_end (d.world).engines me r.engine;
            sent = (d.world).sent ++ added;
            now = (d.world).now;
          };
          new = o.others ++ ds;
        }) rank (o.first.segment).originator (o.first.segment).session)
        (sym (drop-front (d.world).sent added))
        (touched-next F parties d rank me r.engine ((d.world).sent ++ added) (o.others ++ added)
        (o.first.segment).originator (o.first.segment).session peers holds kept
        (known-append parties o.others added known.others
        (known-headed parties me (o.first.segment).originator (o.first.segment).session r.out
        known.first)) touches)

-- ---- a tick

pub stands-idle : (F : List ℕ → ℕ → View → Type 0) (parties : Party × Party) (d : Draining)
    (rank : End → ℕ → ℕ) → DrainHolds F parties d rank → d.new ≡ []
    → (o : End) (n : ℕ) → Stands F (setting parties o n) (view parties d.world o n) [] []
    (rank o n)
stands-idle F parties d rank holds none o n =
    stands-so F (setting parties o n) (view parties d.world o n) (view parties d.world o n) _ _ []
    [] (rank o n) refl
    (sym (ap (said o (at_end parties o).own n) none ∙ said-none o (at_end parties o).own n))
    (sym (ap (said (other o) (at_end parties o).own n) none
    ∙ said-none (other o) (at_end parties o).own n)) (holds.session o n)

-- a session of which something is new
record Speaks (parties : Party × Party) (new : List Sent) : Type 0 where
  o : End
  n : ℕ
  some : 1 ≤ length (said o (at_end parties o).own n new) + length
      (said (other o) (at_end parties o).own n new)

ends-differ : (a b : End) → same_end a b ≡ false → a ≡ other b
ends-differ first_end first_end is = absurd (cc)
ends-differ second_end second_end is = absurd (cc)
ends-differ first_end second_end is = refl
ends-differ second_end first_end is = refl

same_end-self : (a b : End) → a ≡ b → same_end a b ≡ true
same_end-self first_end first_end is = refl
same_end-self second_end second_end is = refl
same_end-self first_end second_end is = absurd (cc)
same_end-self second_end first_end is = absurd (cc)

speaks : (parties : Party × Party) (new : List Sent) → AreKnown parties new → new ≢ []
    → Speaks parties new
speaks parties [] known some = absurd (some refl)
speaks parties (d ∷ ds) known some = by_party known.0
  where
    spoken : (o : End) → (d.segment).originator ≡ (at_end parties o).own → Speaks parties (d ∷ ds)
    spoken o own = by_from (same_end d.from o) refl
      where
        by_from : (mine : Bool) → same_end d.from o ≡ mine → Speaks parties (d ∷ ds)
        by_from true mine = record {
          o = o;
          n = (d.segment).session;
          some = omega (
            arith,
            ap length (said-take o (at_end parties o).own (d.segment).session d ds
                (is-of o (at_end parties o).own (d.segment).session d mine own refl)),
          );
        }
        by_from false apart = record {
          o = o;
          n = (d.segment).session;
          some = omega (
            arith,
            ap length (said-take (other o) (at_end parties o).own (d.segment).session d ds
                (is-of (other o) (at_end parties o).own (d.segment).session d
                (same_end-self d.from (other o) (ends-differ d.from o apart)) own refl)),
          );
        }

    by_party : IsKnown parties (d.segment).originator → Speaks parties (d ∷ ds)
    by_party (inl own) = spoken first_end own
    by_party (inr own) = spoken second_end own

nothing-said : (xs ys : List ContentValue) → xs ≡ [] → ys ≡ [] → 1 ≤ length xs + length ys → ⊥
nothing-said xs ys is_xs is_ys some = omega (arith, ap length is_xs, ap length is_ys, some)

-- what the ticks of both ends leave
unfoldable pub ticked-world : Party × Party → World → ℕ → World
ticked-world parties w now = record {
  engines = (tick_engine parties.0 w.engines.0 now, tick_engine parties.1 w.engines.1 now);
  sent = (w.sent ++ sent_by first_end (tick_out parties.0 w.engines.0 now)) ++ sent_by second_end
      (tick_out parties.1 w.engines.1 now);
  now = now;
}

pub ticks-are : (parties : Party × Party) (w : World) (now : ℕ)
    → ticks parties now second_end (ticks parties now first_end w) ≡ ticked-world parties w now
unfolding ticks ticked-world
ticks-are parties w now = refl

unfoldable pub ticked-new : Party × Party → World → ℕ → List Sent
ticked-new parties w now = sent_by first_end (tick_out parties.0 w.engines.0 now) ++ sent_by
    second_end (tick_out parties.1 w.engines.1 now)

pub since-ticks : (parties : Party × Party) (w : World) (now : ℕ)
    → since w (ticked-world parties w now) ≡ ticked-new parties w now
unfolding ticked-world ticked-new
since-ticks parties w now =
    ap (drop (length w.sent)) (append_assoc w.sent
    (sent_by first_end (tick_out parties.0 w.engines.0 now))
    (sent_by second_end (tick_out parties.1 w.engines.1 now)))
    ∙ drop-front w.sent (sent_by first_end (tick_out parties.0 w.engines.0 now) ++ sent_by
    second_end (tick_out parties.1 w.engines.1 now))

-- ticks begin none
pub ticked-next : (parties : Party × Party) (w : World) (now : ℕ) (o : End)
    → (at_end (ticked-world parties w now).engines o).next ≡ (at_end w.engines o).next
unfolding ticked-world
ticked-next parties w now first_end = refl
ticked-next parties w now second_end = refl

-- nor do they change the order of what is kept
pub ticked-senders : (parties : Party × Party) (w : World) (now : ℕ)
    → ((o : End) → AreAscending 0 (at_end w.engines o).senders)
    → (o : End) → AreAscending 0 (at_end (ticked-world parties w now).engines o).senders
unfolding ticked-world
ticked-senders parties w now ascending first_end =
    ascending-ticked (sender_changes parties.0 now) 0 w.engines.0.senders (ascending first_end)
ticked-senders parties w now ascending second_end =
    ascending-ticked (sender_changes parties.1 now) 0 w.engines.1.senders (ascending second_end)

pub ticked-receivers : (parties : Party × Party) (w : World) (now : ℕ)
    → ((o : End) → AreAscending 0 (at_end w.engines o).receivers)
    → (o : End) → AreAscending 0 (at_end (ticked-world parties w now).engines o).receivers
unfolding ticked-world
ticked-receivers parties w now ascending first_end =
    ascending-ticked (receiver_changes parties.0 now) 0 w.engines.0.receivers
    (ascending first_end)
ticked-receivers parties w now ascending second_end =
    ascending-ticked (receiver_changes parties.1 now) 0 w.engines.1.receivers
    (ascending second_end)

pub sent-ticked : (parties : Party × Party) (w : World) (now : ℕ)
    → (ticked-world parties w now).sent ≡ w.sent ++ ticked-new parties w now
unfolding ticked-world ticked-new
sent-ticked parties w now = append_assoc w.sent
    (sent_by first_end (tick_out parties.0 w.engines.0 now))
    (sent_by second_end (tick_out parties.1 w.engines.1 now))

pub tick-holds : (F : List ℕ → ℕ → View → Type 0) → Gives F
    → (parties : Party × Party) (d : Draining) (rank : End → ℕ → ℕ) (now : ℕ) → ArePeers parties
    → DrainHolds F parties d rank → d.new ≡ []
    → TickedTo F parties (record {
      world = ticked-world parties d.world now;
      new = ticked-new parties d.world now;
    }) rank
unfolding ticked-world ticked-new pick
tick-holds F gives parties d rank now peers holds none = record {
  rank' = rank';
  holds = record {
    session = session;
    senders = ticked-senders parties d.world now holds.senders;
    receivers = ticked-receivers parties d.world now holds.receivers;
    next = next;
    known = known;
  };
  less = less;
}
  where
    e : Engine
    e = (d.world).engines.0

    f : Engine
    f = (d.world).engines.1

    new' : List Sent
    new' = sent_by first_end (tick_out parties.0 (d.world).engines.0 now) ++ sent_by second_end
        (tick_out parties.1 (d.world).engines.1 now)

    one_two : Linked parties.0 parties.1
    one_two = linked-at parties first_end peers

    two_one : Linked parties.1 parties.0
    two_one = linked-at parties second_end peers

    low_one : (n : ℕ) → TickLower F (setting_by parties.0 parties.1 n)
        (view parties (record {
          engines = (
            tick_engine parties.0 (d.world).engines.0 now,
            tick_engine parties.1 (d.world).engines.1 now,
          );
          sent = ((d.world).sent ++ sent_by first_end
              (tick_out parties.0 (d.world).engines.0 now))
              ++ sent_by second_end (tick_out parties.1 (d.world).engines.1 now);
          now = now;
        }) first_end
        n)
        (said first_end (parties.0).own n new') (said second_end (parties.0).own n new')
        (rank first_end n)
    low_one n = own-ticks F gives first_end second_end parties.0 parties.1 e f
        (d.world).sent n now (rank first_end n) (two_ends first_end) one_two two_one
        (holds.senders first_end) (holds.receivers second_end)
        (drain-fit F parties d rank holds first_end n)
        (stands-idle F parties d rank holds none first_end n)

    low_two : (n : ℕ) → TickLower F (setting_by parties.1 parties.0 n)
        (view parties (record {
          engines = (
            tick_engine parties.0 (d.world).engines.0 now,
            tick_engine parties.1 (d.world).engines.1 now,
          );
          sent = ((d.world).sent ++ sent_by first_end
              (tick_out parties.0 (d.world).engines.0 now))
              ++ sent_by second_end (tick_out parties.1 (d.world).engines.1 now);
          now = now;
        })
        second_end n)
        (said second_end (parties.1).own n new') (said first_end (parties.1).own n new')
        (rank second_end n)
    low_two n = peer-ticks F gives first_end second_end parties.0 parties.1 e f
        (d.world).sent n now (rank second_end n) (two_ends first_end) one_two two_one
        (holds.senders second_end) (holds.receivers first_end)
        (drain-fit F parties d rank holds second_end n)
        (stands-idle F parties d rank holds none second_end n)

    rank' : End → ℕ → ℕ
    rank' = pick (λ n. (low_one n).left) (λ n. (low_two n).left)

    session : (o : End) (n : ℕ) → Stands F (setting parties o n)
        (view parties (record {
          engines = (
            tick_engine parties.0 (d.world).engines.0 now,
            tick_engine parties.1 (d.world).engines.1 now,
          );
          sent = ((d.world).sent ++ sent_by first_end
              (tick_out parties.0 (d.world).engines.0 now))
              ++ sent_by second_end (tick_out parties.1 (d.world).engines.1 now);
          now = now;
        }) o n)
        (said o (at_end parties o).own n new') (said (other o) (at_end parties o).own n new')
        (pick (λ n. (low_one n).left) (λ n. (low_two n).left) o n)
    session first_end n = (low_one n).stands
    session second_end n = (low_two n).stands

    next : (o : End) → (at_end parties o).first ≤
        (at_end (
          tick_engine parties.0 (d.world).engines.0 now,
          tick_engine parties.1
              (d.world).engines.1 now,
        ) o).next
    next first_end = holds.next first_end
    next second_end = holds.next second_end

    known : AreKnown parties new'
    known = known-append parties _ _ (known-out parties first_end parties.0 e now (inl refl)
        (inr one_two.knows)) (known-out parties second_end parties.1 f now (inr refl)
        (inl two_one.knows))

    less : (o : End) (n : ℕ) → pick (λ n. (low_one n).left) (λ n. (low_two n).left) o n
        + length (said o (at_end parties o).own n new')
        + length (said (other o) (at_end parties o).own n new') ≤ rank o n
    less first_end n = (low_one n).less
    less second_end n = (low_two n).less

tick-falls : (F : List ℕ → ℕ → View → Type 0) (parties : Party × Party) (d : Draining) (rank : End
    → ℕ → ℕ) (now : ℕ)
    → TickedTo F parties (record {
      world = ticked-world parties d.world now;
      new = ticked-new parties d.world now;
    }) rank
    → Speaks parties (ticked-new parties d.world now)
    → Next F parties d (record {
      world = ticked-world parties d.world now;
      new = ticked-new parties d.world now;
    }) rank
unfolding ticked-world
tick-falls F parties d rank now t talks = record {
  rank' = t.rank';
  holds = t.holds;
  falls = by_end talks.o talks.n talks.some;
  never_up = most;
}
  where
    most : (o : End) (n : ℕ) → t.rank' o n ≤ rank o n
    most o n = omega (arith, t.less o n)

    e : Engine
    e = (d.world).engines.0

    f : Engine
    f = (d.world).engines.1

    used : (o : End) (n : ℕ) → 1 ≤ length (said o (at_end parties o).own n
        (ticked-new parties d.world now))
        + length (said (other o) (at_end parties o).own n (ticked-new parties d.world now))
        → n < (at_end (
          tick_engine parties.0 (d.world).engines.0 now,
          tick_engine parties.1
              (d.world).engines.1 now,
        ) o).next
    used o n talk = go (is-begun F (setting parties o n) _ _ _ (t.rank' o n)
        ((t.holds).session o n))
      where
        go : Begun F (setting parties o n) (view parties (ticked-world parties d.world now) o n)
            (said o (at_end parties o).own n (ticked-new parties d.world now))
            (said (other o) (at_end parties o).own n (ticked-new parties d.world now))
            (t.rank' o n)
            → n < (at_end (
              tick_engine parties.0 (d.world).engines.0 now,
              tick_engine parties.1
                  (d.world).engines.1 now,
            ) o).next
        go (was_begun used standing) = used-low (at_end parties o)
            (at_end (
              tick_engine parties.0 (d.world).engines.0 now,
              tick_engine parties.1
                  (d.world).engines.1 now,
            ) o) n used
        go (never_begun unused idle) = absurd (nothing-said _ _ idle.none_s idle.none_r talk)

    by_end : (o : End) (n : ℕ) → 1 ≤ length (said o (at_end parties o).own n
        (ticked-new parties d.world now))
        + length (said (other o) (at_end parties o).own n (ticked-new parties d.world now))
        → sum_below e.next (t.rank' first_end) + sum_below f.next (t.rank' second_end)
        < sum_below e.next (rank first_end) + sum_below f.next (rank second_end)
    by_end first_end n talk = omega (
      arith,
      sum-less e.next (t.rank' first_end) (rank first_end) (most first_end) n
          (used first_end n talk)
          (omega (arith, t.less first_end n, talk)),
      sum-most f.next (t.rank' second_end) (rank second_end) (most second_end),
    )
    by_end second_end n talk = omega (
      arith,
      sum-less f.next (t.rank' second_end) (rank second_end) (most second_end) n
          (used second_end n talk)
          (omega (arith, t.less second_end n, talk)),
      sum-most e.next (t.rank' first_end) (rank first_end) (most first_end),
    )

pub tick-next : (F : List ℕ → ℕ → View → Type 0) → Gives F
    → (parties : Party × Party) (d : Draining) (rank : End → ℕ → ℕ) (now : ℕ) → ArePeers parties
    → DrainHolds F parties d rank → d.new ≡ [] → ticked-new parties d.world now ≢ []
    → Next F parties d (record {
      world = ticked-world parties d.world now;
      new = ticked-new parties d.world now;
    }) rank
tick-next F gives parties d rank now peers holds none some =
    let t = tick-holds F gives parties d rank now peers holds none in
    tick-falls F parties d rank now t (speaks parties (ticked-new parties d.world now)
    (t.holds).known some)

-- ---- a drain

pub other_other : (o : End) → other (other o) ≡ o
other_other first_end = refl
other_other second_end = refl

pub same_draining : (d d' : Draining) → d'.world ≡ d.world → d'.new ≡ d.new → d' ≡ d
same_draining d d' world new = λ i. record { world = world i; new = new i }

idle-asked : {X : Type 0} (c : ℕ) → IsAskedOn c [] [] ⊎ X → X
idle-asked c (inl on) = absurd (none-asked c on)
idle-asked c (inr x) = x

idle-reported : {X : Type 0} (serial : ℕ) → IsReportedOn serial [] [] ⊎ X → X
idle-reported serial (inl on) = absurd (none-reported serial on)
idle-reported serial (inr x) = x

-- ---- what becomes of open senders, and of red parts

advances-weaker : (S S' U U' : Type 0) (v v' : View) → (S → S') → (U → U') → Advances v v' S U
    → Advances v v' S' U'
advances-weaker S S' U U' v v' sent up on = record {
  sender = λ is_open. by_sender (on.sender is_open);
  receiver = λ handed. by_receiver (on.receiver handed);
}
  where
    by_receiver : IsHanded v.receiver ⊎ U → IsHanded v.receiver ⊎ U'
    by_receiver (inl before) = inl before
    by_receiver (inr now) = inr (up now)

    by_sender : IsKeptSender v'.sender ⊎ (S × (IsHanded v.receiver ⊎ U)) → IsKeptSender v'.sender
        ⊎ (S' × (IsHanded v.receiver ⊎ U'))
    by_sender (inl still) = inl still
    by_sender (inr done) = inr (sent done.0, by_receiver done.1)

noted-in : (me : End) (name : SessionName) (r : Reply) (m : ℕ) → IsIn (notes.Sent m) r.notes
    → IsNoted (record { end = me; effects = (replied name r).effects } ∷ []) me (notes.Sent m)
noted-in me name r m among = record {
  of = record
      { end = me; effects = (replied name r).effects };
  among = inl refl;
  by = refl;
  noted = among;
}

handed-in : (me : End) (name : SessionName) (r : Reply) (m : ℕ) → name.number ≡ m
    → is_some r.up ≡ true → IsHandedUp (record { end = me; effects = (replied name r).effects } ∷
    []) me m
handed-in me name r m is some = by_up r.up refl
  where
    by_up : (up : Option (List ℕ)) → r.up ≡ up
        → IsHandedUp (record { end = me; effects = (replied name r).effects } ∷ []) me m
    by_up None none = absurd (let no : is_some r.up ≡ false = ap
        (λ (o : Option (List ℕ)). is_some o) none in cc)
    by_up (Some body) is_body = record {
      of = record { end = me; effects = (replied name r).effects };
      among = inl refl;
      by = refl;
      up = record { session = name.number; body = body };
      handed = subst (λ (o : Option (List ℕ)). IsIn {X = UpValue}
          (record { session = name.number; body = body })
          (list_of (option_map (λ body. record { session = name.number; body = body }) o)))
          (sym is_body) (inl refl);
      session = is;
    }

touched-advances : (parties : Party × Party) (w : World) (me : End) (origin n : ℕ) (r : Reply)
    → AdvancesOn me (other me) (at_end parties me) (at_end parties (other me))
    (at_end w.engines me) (at_end w.engines (other me)) w.sent origin n r
    → AllAdvance parties w (record {
      engines = with_end w.engines me r.engine;
      sent = w.sent ++ sent_by me (headed_all (session_of origin n) r.out);
      now = w.now;
    })
    (record { end = me; effects = (replied (session_of origin n) r).effects } ∷ [])
touched-advances parties w first_end origin n r on first_end m =
    advances-weaker _ _ _ _ _ _ (noted-in first_end (session_of origin n) r m)
    (λ none. absurd none) (on.own m)
touched-advances parties w first_end origin n r on second_end m =
    advances-weaker _ _ _ _ _ _ (λ none. absurd none)
    (λ up. handed-in first_end (session_of origin n) r m up.1 up.2) (on.peer m)
touched-advances parties w second_end origin n r on first_end m =
    advances-weaker _ _ _ _ _ _ (λ none. absurd none)
    (λ up. handed-in second_end (session_of origin n) r m up.1 up.2) (on.peer m)
touched-advances parties w second_end origin n r on second_end m =
    advances-weaker _ _ _ _ _ _ (noted-in second_end (session_of origin n) r m)
    (λ none. absurd none) (on.own m)

pub all-still : (parties : Party × Party) (w : World) (es : List EndEffects)
    → AllAdvance parties w w es
all-still parties w es o n = record {
  sender = λ is_open. inl is_open;
  receiver = λ handed. inl handed;
}

pub delivery-advances : (F : List ℕ → ℕ → View → Type 0) → Gives F
    → (parties : Party × Party) (d : Draining) (rank : End → ℕ → ℕ) (me : End) (o : Oldest)
    → ArePeers parties
    → DrainHolds F parties d rank → oldest (other me) d.new ≡ Some o
    → AllAdvance parties d.world (arrival parties d.world me o.first.segment)
    (record {
      end = me;
      effects = (datagram_step (at_end parties me) (at_end (d.world).engines me)
          (Ok (o.first.segment)) (d.world).now).effects;
    } ∷ [])
unfolding datagram_step
delivery-advances F gives parties d rank me o peers holds is =
    by_reply (arrives (at_end parties me) (at_end (d.world).engines me) o.first.segment
    (d.world).now)
    (arrival-advances F gives me (other me) (at_end parties me) (at_end parties (other me))
    (at_end (d.world).engines me) (at_end (d.world).engines (other me)) (d.world).sent d.new
    (rank me) (rank (other me)) o (d.world).now
    (two_ends me) (linked-at parties me peers) (all-stand F parties d rank me holds) is
    (fit-own parties d.world me (drain-fit F parties d rank holds)))
  where
    by_reply : (x : Option Reply)
        → ReplyAdvances me (other me) (at_end parties me) (at_end parties (other me))
        (at_end (d.world).engines me) (at_end (d.world).engines (other me)) (d.world).sent
        (o.first.segment).originator (o.first.segment).session x
        → AllAdvance parties d.world (replies d.world me
        (session_of (o.first.segment).originator (o.first.segment).session) x)
        (record {
          end = me;
          effects = (replied_or_stranger (at_end (d.world).engines me)
              (session_of (o.first.segment).originator (o.first.segment).session) x).effects;
        } ∷ [])
    by_reply None on = all-still parties d.world _
    by_reply (Some r) on = touched-advances parties d.world me (o.first.segment).originator
        (o.first.segment).session r on

pub tick-advances : (F : List ℕ → ℕ → View → Type 0) → Gives F
    → (parties : Party × Party) (d : Draining) (rank : End → ℕ → ℕ) (now : ℕ)
    (es : List EndEffects) → ArePeers parties
    → DrainHolds F parties d rank → d.new ≡ []
    → AllAdvance parties d.world (ticked-world parties d.world now) es
unfolding ticked-world
tick-advances F gives parties d rank now es peers holds none first_end n =
    advances-weaker _ _ _ _ _ _ (λ none. absurd none) (λ none. absurd none)
    (own-ticks-advance F gives first_end second_end parties.0 parties.1 (d.world).engines.0
    (d.world).engines.1 (d.world).sent n now (rank first_end n) (two_ends first_end)
    (linked-at parties first_end peers) (linked-at parties second_end peers)
    (holds.senders first_end) (holds.receivers second_end)
    (stands-idle F parties d rank holds none first_end n))
tick-advances F gives parties d rank now es peers holds none second_end n =
    advances-weaker _ _ _ _ _ _ (λ none. absurd none) (λ none. absurd none)
    (peer-ticks-advance F gives first_end second_end parties.0 parties.1 (d.world).engines.0
    (d.world).engines.1 (d.world).sent n now (rank second_end n) (two_ends first_end)
    (linked-at parties first_end peers) (linked-at parties second_end peers)
    (holds.senders second_end) (holds.receivers first_end)
    (stands-idle F parties d rank holds none second_end n))

-- ---- a clock at which a deadline is over is a clean event

pub due-says : (F : List ℕ → ℕ → View → Type 0) → Gives F
    → (parties : Party × Party) (d : Draining) (rank : End → ℕ → ℕ) (now : ℕ) → ArePeers parties
    → DrainHolds F parties d rank → d.new ≡ [] → (o : End) (n : ℕ)
    → IsDueOf parties d.world now o n
    → 1 ≤ length (said o (at_end parties o).own n (ticked-new parties d.world now))
    + length (said (other o) (at_end parties o).own n (ticked-new parties d.world now))
unfolding ticked-new
due-says F gives parties d rank now peers holds none o n due = go o n due
  where
    one_two : Linked parties.0 parties.1
    one_two = linked-at parties first_end peers

    two_one : Linked parties.1 parties.0
    two_one = linked-at parties second_end peers

    Says : End → ℕ → Type 0
    Says o n = 1 ≤ length (said o (at_end parties o).own n
        (sent_by first_end (tick_out parties.0 (d.world).engines.0 now) ++ sent_by second_end
        (tick_out parties.1 (d.world).engines.1 now)))
        + length (said (other o) (at_end parties o).own n
        (sent_by first_end (tick_out parties.0 (d.world).engines.0 now) ++ sent_by second_end
        (tick_out parties.1 (d.world).engines.1 now)))

    stands : (o : End) (n : ℕ) → Begun F (setting parties o n) (view parties d.world o n) [] []
        (rank o n)
    stands o n = is-begun F (setting parties o n) (view parties d.world o n) [] [] (rank o n)
        (stands-idle F parties d rank holds none o n)

    sends : (o : End) (n : ℕ) (s : Sending) → (view parties d.world o n).sender ≡ Some s
        → (sending_timer s.phase).deadline ≤ now
        → Calm ((at_end parties o).policy).limit ((at_end parties (other o)).policy).limit
        (view parties d.world o n) [] [] → Says o n
    sends first_end n s is over calm =
        let waits = calm.sending s is in
        omega (
          arith,
          ap length (own-sender-says F gives first_end second_end parties.0 parties.1
              (d.world).engines.0
              (d.world).engines.1 (d.world).sent n now (two_ends first_end) one_two two_one
              (holds.senders first_end) (holds.receivers second_end) calm
              s waits.checkpoint waits.timer is waits.is
              (idle-asked (waits.checkpoint).checkpoint
              (calm.asking s waits.checkpoint waits.timer is waits.is))
              (subst (λ phase. (sending_timer phase).deadline ≤ now) waits.is over)),
        )
    sends second_end n s is over calm =
        let waits = calm.sending s is in
        omega (
          arith,
          ap length (peer-sender-says F gives first_end second_end parties.0 parties.1
              (d.world).engines.0
              (d.world).engines.1 (d.world).sent n now (two_ends first_end) one_two two_one
              (holds.senders second_end) (holds.receivers first_end) calm
              s waits.checkpoint waits.timer is waits.is
              (idle-asked (waits.checkpoint).checkpoint
              (calm.asking s waits.checkpoint waits.timer is waits.is))
              (subst (λ phase. (sending_timer phase).deadline ≤ now) waits.is over)),
        )

    tells : (o : End) (n : ℕ) (r : Receiving) (p : Pending)
        → (view parties d.world o n).receiver ≡ Some r → pending_of r.phase ≡ Some p
        → (p.timer).deadline ≤ now
        → Calm ((at_end parties o).policy).limit ((at_end parties (other o)).policy).limit
        (view parties d.world o n) [] [] → Says o n
    tells first_end n r p is waits over calm =
        omega (
          arith,
          ap length (own-receiver-says F gives first_end second_end parties.0
              parties.1 (d.world).engines.0
              (d.world).engines.1 (d.world).sent n now (two_ends first_end) one_two two_one
              (holds.senders first_end) (holds.receivers second_end) calm
              r p is waits (idle-reported (p.report).serial (calm.reporting r p is waits)) over),
        )
    tells second_end n r p is waits over calm =
        omega (
          arith,
          ap length (peer-receiver-says F gives first_end second_end parties.0
              parties.1 (d.world).engines.0
              (d.world).engines.1 (d.world).sent n now (two_ends first_end) one_two two_one
              (holds.senders second_end) (holds.receivers first_end) calm
              r p is waits (idle-reported (p.report).serial (calm.reporting r p is waits)) over),
        )

    by_sender : (o : End) (n : ℕ) (s : Sending) → (view parties d.world o n).sender ≡ Some s
        → (sending_timer s.phase).deadline ≤ now
        → Begun F (setting parties o n) (view parties d.world o n) [] [] (rank o n) → Says o n
    by_sender o n s is over (was_begun used st) = sends o n s is over (st.drains).calm
    by_sender o n s is over (never_begun unused idle) =
        absurd (let nobody : (view parties d.world o n).sender ≡ None = (idle.unused).sender in
        cc)

    by_receiver : (o : End) (n : ℕ) (r : Receiving) (p : Pending)
        → (view parties d.world o n).receiver ≡ Some r → pending_of r.phase ≡ Some p
        → (p.timer).deadline ≤ now → Begun F (setting parties o n) (view parties d.world o n) []
        [] (rank o n) → Says o n
    by_receiver o n r p is waits over (was_begun used st) =
        tells o n r p is waits over (st.drains).calm
    by_receiver o n r p is waits over (never_begun unused idle) =
        absurd (let nobody : (view parties d.world o n).receiver ≡ None = (idle.unused).receiver
        in cc)

    go : (o : End) (n : ℕ) → IsDueOf parties d.world now o n → Says o n
    go o n (due_sender s is over) = by_sender o n s is over (stands o n)
    go o n (due_receiver r p is waits over) = by_receiver o n r p is waits over (stands o n)

pub due-fires : (F : List ℕ → ℕ → View → Type 0) → Gives F
    → (parties : Party × Party) (d : Draining) (rank : End → ℕ → ℕ) (now : ℕ) → ArePeers parties
    → DrainHolds F parties d rank → d.new ≡ [] → (o : End) (n : ℕ)
    → IsDueOf parties d.world now o n
    → ticked-new parties d.world now ≢ []
due-fires F gives parties d rank now peers holds none o n due empty =
    nothing-said _ _ (ap (said o (at_end parties o).own n) empty
    ∙ said-none o (at_end parties o).own n)
    (ap (said (other o) (at_end parties o).own n) empty
    ∙ said-none (other o) (at_end parties o).own n)
    (due-says F gives parties d rank now peers holds none o n due)
