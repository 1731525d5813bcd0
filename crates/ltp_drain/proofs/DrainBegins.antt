-- A block that is submitted in a drain begins one session, and leaves the others.

use Rattle.std.proofs.Common.{◌≡◌, ◌≢◌, ℕ, ◌+◌, ◌^◌, ◌<◌, ◌≤◌, Bool, true, false, ◌==◌, ◌&&◌}
use Rattle.std.proofs.Common.{List, [], ◌++◌, length, take, drop, Option, None, Some, inl, inr}
use Rattle.std.proofs.Common.{refl, sym, ◌∙◌, ap, arith, subst, nat_lt, nat_le, if◌then◌else◌}
use Rattle.std.proofs.lemmas.Bool.{ne_eqb, leb-true, ltb-false}
use Rattle.std.proofs.lemmas.Bool.Decides.{nat_tests}
use Rattle.std.proofs.lemmas.List.{length-take, length-drop}
use Rattle.ltp_segment.specs.Values.{ContentValue}
use Rattle.ltp_session.specs.Engine.{Engine, Party, Reply, begun as begun_engine, is_used}
use Rattle.ltp_session.specs.Engine.{block_empty, block_too_large, numbers_spent, senders_busy}
use Rattle.ltp_session.specs.Engine.{submits, submits_unless}
use Rattle.ltp_session.specs.Sender.{Sending, begin, segments_of}
use Rattle.ltp_session.specs.Step.{StepValue}
use Rattle.ltp_session.specs.Table.{AreAscending}
use Rattle.ltp_session.specs.Timer.{first_serial}
use Rattle.ltp_session.specs.Views.{headed_all}
use Rattle.ltp_session.specs.World.{ArePeers, End, Sent, World, at_end, first_end, other, replies}
use Rattle.ltp_session.specs.World.{second_end, sent_by, submit_reply, submitted, unless_refused}
use Rattle.ltp_session.specs.World.{with_end}
use Rattle.ltp_laws.specs.View.{session_of, View, begins, said, view, view_by}
use Rattle.ltp_laws.proofs.FrameLemmas.{said-append, said-headed, AreTwo, begun-here}
use Rattle.ltp_laws.proofs.FrameLemmas.{begun-others, next-unused, peers-stay}
use Rattle.ltp_laws.proofs.RunLemmas.{Linked, linked-at, two_ends}
use Rattle.ltp_laws.proofs.TableLemmas.{ascending-settled, self_eqb}
use Rattle.ltp_drain.specs.Draining.{Draining, since}
use Rattle.ltp_drain.specs.Hopeful.{AreAlike}
use Rattle.ltp_drain.specs.Standing.{AfterSubmit, AreKnown, DrainHolds, Idle, Stands, StandsBy}
use Rattle.ltp_drain.specs.Standing.{begun_rank, setting, setting_by}
use Rattle.ltp_drain.proofs.DrainFrame.{AllStand, Gives, stands-so, stands-used}
use Rattle.ltp_drain.proofs.DrainLists.{drop-front, new-none, new-said}
use Rattle.ltp_drain.proofs.DrainRun.{changed, IsKnown, all-stand, changed-holds, known-append}
use Rattle.ltp_drain.proofs.DrainRun.{known-headed, pick}
use Rattle.ltp_drain.proofs.DrainStarts.{drain-begins}
use Rattle.ltp_drain.proofs.StartLemmas.{few-parts, cuts-two, most-at, most-low}

begun-low : (z : ℕ) (block : List ℕ) (red n : ℕ) → 2 ≤ z → red ≤ length block
    → length block ≤ 2 ^ 22
    → first_serial n + (length (segments_of z 0 (take red block)) + length
    (segments_of z red (drop red block)) + 2) < 2 ^ 32
begun-low z block red n cuts within size =
    omega (
      arith,
      few-parts z (length (take red block)) 0 (take red block) cuts,
      few-parts z (length (drop red block)) red (drop red block) cuts,
      length-take red block,
      length-drop red block,
      size,
    )

-- what a submit at `me` leaves of all sessions
record Begins (F : List ℕ → ℕ → View → Type 0) (me you : End) (p q : Party) (e f : Engine)
    (rank_p rank_q : ℕ → ℕ) (k : ℕ) (e' : Engine) (sent' new' : List Sent) : Type 0 where
  first : Stands F (setting_by p q e.next) (view_by me you p e' f sent' e.next)
      (said me p.own e.next new') (said you p.own e.next new') k
  own : (m : ℕ) → e.next ≢ m → Stands F (setting_by p q m) (view_by me you p e' f sent' m)
      (said me p.own m new') (said you p.own m new') (rank_p m)
  peer : (m : ℕ) → Stands F (setting_by q p m) (view_by you me q f e' sent' m)
      (said you q.own m new') (said me q.own m new') (rank_q m)

begun-stands : (F : List ℕ → ℕ → View → Type 0) → Gives F
    → (me you : End) (p q : Party) (e f : Engine) (sent new : List Sent) (rank_p rank_q : ℕ
    → ℕ) (block : List ℕ) (red now : ℕ)
    → AreTwo me you → Linked p q → AllStand F me you p q e f sent new rank_p rank_q
    → p.first ≤ e.next → 2 ≤ (p.policy).segment → red ≤ length block → length block ≤ 2 ^ 22
    → length block ≤ q.most
    → Begins F me you p q e f rank_p rank_q (begun_rank (p.policy).segment block red)
    (begun_engine e (begin p.policy e.next block red now)).engine
    (sent ++ sent_by me (headed_all (session_of p.own e.next)
    (begin p.policy e.next block red now).out))
    (new ++ sent_by me (headed_all (session_of p.own e.next)
    (begin p.policy e.next block red now).out))
begun-stands F gives me you p q e f sent new rank_p rank_q block red now both linked all low cuts
    within size fits = record { first = first; own = own; peer = peer }
  where
    t : StepValue Sending
    t = begin p.policy e.next block red now

    v : View
    v = view_by me you p e f sent e.next

    added : List Sent
    added = sent_by me (headed_all (session_of p.own e.next)
        (begin p.policy e.next block red now).out)

    idle : Idle v (said me p.own e.next new) (said you p.own e.next new)
    idle = subst (λ b. StandsBy F (setting_by p q e.next) b v (said me p.own e.next new)
        (said you p.own e.next new) (rank_p e.next)) (next-unused p e) (all.own e.next)

    here : view_by me you p (begun_engine e (begin p.policy e.next block red now)).engine f
        (sent ++ sent_by me (headed_all (session_of p.own e.next)
        (begin p.policy e.next block red now).out)) e.next
        ≡ begins (view_by me you p e f sent e.next) (begin p.policy e.next block red now)
    here = begun-here me you p e f sent t both low

    first : Stands F (setting_by p q e.next) (view_by me you p
        (begun_engine e (begin p.policy e.next block red now)).engine f
        (sent ++ sent_by me (headed_all (session_of p.own e.next)
        (begin p.policy e.next block red now).out)) e.next)
        (said me p.own e.next (new ++ added)) (said you p.own e.next (new ++ added))
        (length (segments_of (p.policy).segment 0 (take red block)) + length
        (segments_of (p.policy).segment red (drop red block)) + 2)
    first = stands-so F (setting_by p q e.next) (begins v t) _ t.out [] _ _ _ here
        (new-said me p.own e.next sent new added t.out (ap (λ (v : View). v.by_sender) here)
        ∙ ap (λ (cs : List ContentValue). cs ++ t.out) idle.none_s)
        (new-none you p.own e.next sent new added (ap (λ (v : View). v.by_receiver) here)
        ∙ idle.none_r)
        (stands-used F (setting_by p q e.next) (begins v t) t.out [] _ refl (record {
          block = block;
          red = red;
          facts = (gives.keeps_on).begins p.policy e.next block red now
              v linked.cuts within idle.unused tt;
          drains = drain-begins (q.policy).limit q.most p.policy e.next block red now v
              linked.cuts within fits idle.unused
              (begun-low (p.policy).segment block red e.next cuts within size);
        }))

    own : (m : ℕ) → e.next ≢ m → Stands F (setting_by p q m)
        (view_by me you p (begun_engine e (begin p.policy e.next block red now)).engine f
        (sent ++ sent_by me (headed_all (session_of p.own e.next)
        (begin p.policy e.next block red now).out)) m)
        (said me p.own m (new ++ added)) (said you p.own m (new ++ added)) (rank_p m)
    own m apart =
        let same = begun-others me you p e f sent m t both apart in
        stands-so F (setting_by p q m) (view_by me you p e f sent m) _ (said me p.own m new)
        (said you p.own m new) _ _ (rank_p m) same
        (new-none me p.own m sent new added (ap (λ (v : View). v.by_sender) same))
        (new-none you p.own m sent new added (ap (λ (v : View). v.by_receiver) same))
        (all.own m)

    peer : (m : ℕ) → Stands F (setting_by q p m)
        (view_by you me q f (begun_engine e (begin p.policy e.next block red now)).engine
        (sent ++ sent_by me (headed_all (session_of p.own e.next)
        (begin p.policy e.next block red now).out)) m)
        (said you q.own m (new ++ added)) (said me q.own m (new ++ added)) (rank_q m)
    peer m =
        let same = peers-stay me you q f e (begun_engine e
        (begin p.policy e.next block red now)).engine sent p.own e.next m t.out both
        linked.apart refl refl in
        stands-so F (setting_by q p m) (view_by you me q f e sent m) _ (said you q.own m new)
        (said me q.own m new) _ _ (rank_q m) same
        (new-none you q.own m sent new added (ap (λ (v : View). v.by_sender) same))
        (new-none me q.own m sent new added (ap (λ (v : View). v.by_receiver) same))
        (all.peer m)

-- ---- the world

changed-here : (n k : ℕ) (f : ℕ → ℕ) → changed n k f n ≡ k
unfolding changed
changed-here n k f = rw (self_eqb) refl

changed-away : (n k : ℕ) (f : ℕ → ℕ) (m : ℕ) → m ≢ n → changed n k f m ≡ f m
unfolding changed
changed-away n k f m apart = rw (ne_eqb n m (λ h. apart (sym h))) refl

begun-next : (F : List ℕ → ℕ → View → Type 0) (parties : Party × Party) (d : Draining) (rank : End
    → ℕ → ℕ) (me : End) (k : ℕ) (e' : Engine) (sent' new' : List Sent)
    → DrainHolds F parties d rank → e'.next ≡ (at_end (d.world).engines me).next + 1
    → (AreAscending 0 (at_end (d.world).engines me).senders → AreAscending 0 e'.senders)
    → e'.receivers ≡ (at_end (d.world).engines me).receivers
    → AreKnown parties new'
    → Begins F me (other me) (at_end parties me) (at_end parties (other me))
    (at_end (d.world).engines me) (at_end (d.world).engines (other me)) (rank me)
    (rank (other me)) k e' sent' new'
    → AfterSubmit F parties d rank me k (record {
      world = record {
        engines = with_end (d.world).engines me e';
        sent = sent';
        now = (d.world).now;
      };
      new = new';
    })
unfolding pick
begun-next F parties d rank first_end k e' sent' new' holds next ascending same known begins =
    record {
      rank' = pick (changed (d.world).engines.0.next k (rank first_end)) (rank second_end);
      holds = record {
        session = session;
        senders = senders;
        receivers = receivers;
        next = low;
        known = known;
      };
      same = kept;
      begun = omega (arith, changed-here (d.world).engines.0.next k (rank first_end));
    }
  where
    session : (o : End) (m : ℕ) → Stands F (setting parties o m)
        (view parties (record {
          engines = (e', (d.world).engines.1);
          sent = sent';
          now = (d.world).now;
        }) o m)
        (said o (at_end parties o).own m new') (said (other o) (at_end parties o).own m new')
        (pick (changed (d.world).engines.0.next k (rank first_end)) (rank second_end) o m)
    session first_end m = changed-holds (λ m r. Stands F (setting_by parties.0 parties.1 m)
        (view_by first_end second_end parties.0 e' (d.world).engines.1 sent' m)
        (said first_end (parties.0).own m new') (said second_end (parties.0).own m new') r)
        (d.world).engines.0.next k (rank first_end) begins.first begins.own m
    session second_end m = begins.peer m

    senders : (o : End) → AreAscending 0 (at_end (e', (d.world).engines.1) o).senders
    senders first_end = ascending (holds.senders first_end)
    senders second_end = holds.senders second_end

    receivers : (o : End) → AreAscending 0 (at_end (e', (d.world).engines.1) o).receivers
    receivers first_end = subst (AreAscending 0) (sym same) (holds.receivers first_end)
    receivers second_end = holds.receivers second_end

    low : (o : End) → (at_end parties o).first ≤ (at_end (e', (d.world).engines.1) o).next
    low first_end = omega (arith, next, holds.next first_end)
    low second_end = holds.next second_end

    kept : (o : End) (n : ℕ) → (o ≡ first_end → n ≢ (d.world).engines.0.next)
        → pick (changed (d.world).engines.0.next k (rank first_end)) (rank second_end) o n ≡ rank
        o n
    kept first_end n apart = changed-away (d.world).engines.0.next k (rank first_end) n
        (apart refl)
    kept second_end n apart = refl
begun-next F parties d rank second_end k e' sent' new' holds next ascending same known begins =
    record {
      rank' = pick (rank first_end) (changed (d.world).engines.1.next k (rank second_end));
      holds = record {
        session = session;
        senders = senders;
        receivers = receivers;
        next = low;
        known = known;
      };
      same = kept;
      begun = omega (arith, changed-here (d.world).engines.1.next k (rank second_end));
    }
  where
    session : (o : End) (m : ℕ) → Stands F (setting parties o m)
        (view parties (record {
          engines = ((d.world).engines.0, e');
          sent = sent';
          now = (d.world).now;
        }) o m)
        (said o (at_end parties o).own m new') (said (other o) (at_end parties o).own m new')
        (pick (rank first_end) (changed (d.world).engines.1.next k (rank second_end)) o m)
    session first_end m = begins.peer m
    session second_end m = changed-holds (λ m r. Stands F (setting_by parties.1 parties.0 m)
        (view_by second_end first_end parties.1 e' (d.world).engines.0 sent' m)
        (said second_end (parties.1).own m new') (said first_end (parties.1).own m new') r)
        (d.world).engines.1.next k (rank second_end) begins.first begins.own m

    senders : (o : End) → AreAscending 0 (at_end ((d.world).engines.0, e') o).senders
    senders first_end = holds.senders first_end
    senders second_end = ascending (holds.senders second_end)

    receivers : (o : End) → AreAscending 0 (at_end ((d.world).engines.0, e') o).receivers
    receivers first_end = holds.receivers first_end
    receivers second_end = subst (AreAscending 0) (sym same) (holds.receivers second_end)

    low : (o : End) → (at_end parties o).first ≤ (at_end ((d.world).engines.0, e') o).next
    low first_end = holds.next first_end
    low second_end = omega (arith, next, holds.next second_end)

    kept : (o : End) (n : ℕ) → (o ≡ second_end → n ≢ (d.world).engines.1.next)
        → pick (rank first_end) (changed (d.world).engines.1.next k (rank second_end)) o n ≡ rank
        o n
    kept first_end n apart = refl
    kept second_end n apart = changed-away (d.world).engines.1.next k (rank second_end) n
        (apart refl)

-- the new session's segments are all that its sender said
begun-said : (F : List ℕ → ℕ → View → Type 0) (parties : Party × Party) (d : Draining) (rank : End
    → ℕ → ℕ) (me : End)
    → DrainHolds F parties d rank → (out : List ContentValue)
    → said me (at_end parties me).own (at_end (d.world).engines me).next
    ((d.world).sent ++ sent_by me (headed_all
    (session_of (at_end parties me).own (at_end (d.world).engines me).next) out)) ≡ out
begun-said F parties d rank me holds out =
    said-append me (at_end parties me).own (at_end (d.world).engines me).next (d.world).sent _
    ∙ ap (λ (cs : List ContentValue). said me (at_end parties me).own
    (at_end (d.world).engines me).next (d.world).sent ++ cs)
    (said-headed me (at_end parties me).own (at_end (d.world).engines me).next out)
    ∙ ap (λ (cs : List ContentValue). cs ++ out) nothing
  where
    nothing : said me (at_end parties me).own (at_end (d.world).engines me).next
        (d.world).sent ≡ []
    nothing = (idle.unused).by_sender
      where
        idle : Idle (view parties d.world me (at_end (d.world).engines me).next)
            (said me (at_end parties me).own (at_end (d.world).engines me).next d.new)
            (said (other me) (at_end parties me).own (at_end (d.world).engines me).next d.new)
        idle = subst (λ b. StandsBy F (setting parties me (at_end (d.world).engines me).next) b
            (view parties d.world me (at_end (d.world).engines me).next)
            (said me (at_end parties me).own (at_end (d.world).engines me).next d.new)
            (said (other me) (at_end parties me).own (at_end (d.world).engines me).next d.new)
            (rank me (at_end (d.world).engines me).next))
            (next-unused (at_end parties me) (at_end (d.world).engines me))
            (holds.session me (at_end (d.world).engines me).next)

known-own : (parties : Party × Party) (me : End) → IsKnown parties (at_end parties me).own
known-own parties first_end = inl refl
known-own parties second_end = inr refl

at-set : {X : Type 0} (pair : X × X) (me : End) (x : X) → at_end (with_end pair me x) me ≡ x
at-set pair first_end x = refl
at-set pair second_end x = refl

used-next : (p : Party) (n : ℕ) → p.first ≤ n → (nat_le p.first n && nat_lt n (n + 1)) ≡ true
used-next p n low = grind (arith, nat_tests)

-- a submit is refused, or accepted
pub data Submits (p : Party) (e : Engine) (block : List ℕ) (red now : ℕ) (x : Option Reply) : Type 0
  where
    refuses : x ≡ None → Submits p e block red now x
    accepts : length block ≤ p.most → x ≡ Some (begun_engine e
        (begin p.policy e.next block red now)) → Submits p e block red now x

pub submits-is : (p : Party) (e : Engine) (block : List ℕ) (red now : ℕ)
    → Submits p e block red now (unless_refused (submits p e block red now))
unfolding submits
submits-is p e block red now =
    by_tests (length block == 0) (nat_lt p.most (length block)) refl (nat_le (2 ^ 32) e.next)
    (nat_le p.sessions (length e.senders))
  where
    by_tests : (empty large : Bool) → nat_lt p.most (length block) ≡ large → (spent busy : Bool)
        → Submits p e block red now (unless_refused
        (submits_unless (if empty then Some block_empty else if large
        then Some block_too_large else if spent then Some numbers_spent else if busy
        then Some senders_busy else None) p e block red now))
    by_tests true large is_large spent busy = refuses refl
    by_tests false true is_large spent busy = refuses refl
    by_tests false false is_large true busy = refuses refl
    by_tests false false is_large false true = refuses refl
    by_tests false false is_large false false = accepts (ltb-false p.most (length block) is_large)
        refl

-- what a submit leaves: a world as it was, or one more session
pub data AfterBlock (F : List ℕ → ℕ → View → Type 0) (parties : Party × Party) (d : Draining)
    (rank : End → ℕ → ℕ) (me : End) (block : List ℕ) (red : ℕ) (w' : World) : Type 0 where
  left_alone : w' ≡ d.world → AfterBlock F parties d rank me block red w'
  one_more : red ≤ length block → (view parties w' me (at_end (d.world).engines me).next).used ≡
      true
      → (view parties w' me (at_end (d.world).engines me).next).by_sender ≡
      (begin (at_end parties me).policy (at_end (d.world).engines me).next block red
      (d.world).now).out
      → AfterSubmit F parties d rank me (begun_rank ((at_end parties me).policy).segment block
      red) (record { world = w'; new = d.new ++ since d.world w' })
      → AfterBlock F parties d rank me block red w'

pub submit-next : (F : List ℕ → ℕ → View → Type 0) → Gives F
    → (parties : Party × Party) (d : Draining) (rank : End → ℕ → ℕ) (me : End) (block : List ℕ)
    (red : ℕ) → ArePeers parties → AreAlike parties
    → DrainHolds F parties d rank → AfterBlock F parties d rank me block red
    (submitted parties d.world me block red)
unfolding submitted
submit-next F gives parties d rank me block red peers alike holds =
    by_length (nat_le red (length block)) refl
  where
    e : Engine
    e = at_end (d.world).engines me

    r : Reply
    r = begun_engine (at_end (d.world).engines me)
        (begin (at_end parties me).policy (at_end (d.world).engines me).next block red
        (d.world).now)

    added : List Sent
    added = sent_by me (headed_all (session_of (at_end parties me).own
        (at_end (d.world).engines me).next) (begin (at_end parties me).policy
        (at_end (d.world).engines me).next block red (d.world).now).out)

    w' : World
    w' = record {
      engines = with_end (d.world).engines me r.engine;
      sent = (d.world).sent ++ added;
      now = (d.world).now;
    }

    After : World → Type 0
    After w' = AfterSubmit F parties d rank me
        (begun_rank ((at_end parties me).policy).segment block red)
        (record { world = w'; new = d.new ++ since d.world w' })

    accepted : red ≤ length block → length block ≤ (at_end parties me).most → After w'
    accepted within low =
        subst (λ ds. AfterSubmit F parties d rank me
        (begun_rank ((at_end parties me).policy).segment block red)
        (record { world = w'; new = d.new ++ ds })) (sym (drop-front (d.world).sent added))
        (begun-next F parties d rank me (begun_rank ((at_end parties me).policy).segment block
        red) r.engine ((d.world).sent ++ added) (d.new ++ added) holds refl
        (λ ascending. ascending-settled e.next 0
        (begin (at_end parties me).policy e.next block red (d.world).now).next e.senders
        (omega arith) ascending) refl
        (known-append parties d.new added holds.known
        (known-headed parties me (at_end parties me).own e.next r.out
        (known-own parties me)))
        (begun-stands F gives me (other me) (at_end parties me) (at_end parties (other me))
        (at_end (d.world).engines me) (at_end (d.world).engines (other me))
        (d.world).sent d.new (rank me) (rank (other me)) block red (d.world).now
        (two_ends me) (linked-at parties me peers) (all-stand F parties d rank me holds)
        (holds.next me) (cuts-two parties alike me) within
        (omega (arith, low, most-low parties alike me))
        (omega (arith, low, most-at parties alike me))))

    used-here : (view parties w' me (at_end (d.world).engines me).next).used ≡ true
    used-here = subst (λ (g : Engine). is_used (at_end parties me) g
        (at_end (d.world).engines me).next ≡ true) (sym (at-set (d.world).engines me r.engine))
        (used-next (at_end parties me) (at_end (d.world).engines me).next (holds.next me))

    said-here : (view parties w' me (at_end (d.world).engines me).next).by_sender ≡
        (begin (at_end parties me).policy (at_end (d.world).engines me).next block red
        (d.world).now).out
    said-here = begun-said F parties d rank me holds
        (begin (at_end parties me).policy (at_end (d.world).engines me).next block red
        (d.world).now).out

    by_reply : red ≤ length block → (x : Option Reply)
        → Submits (at_end parties me) (at_end (d.world).engines me) block red (d.world).now x
        → AfterBlock F parties d rank me block red
        (replies d.world me (session_of (at_end parties me).own
        (at_end (d.world).engines me).next) x)
    by_reply within x (refuses is) = subst (λ x. AfterBlock F parties d rank me block red
        (replies d.world me (session_of (at_end parties me).own
        (at_end (d.world).engines me).next) x)) (sym is) (left_alone refl)
    by_reply within x (accepts low is) = subst
        (λ x. AfterBlock F parties d rank me block red
        (replies d.world me (session_of (at_end parties me).own
        (at_end (d.world).engines me).next) x)) (sym is)
        (one_more within used-here said-here (accepted within low))

    by_length : (fits : Bool) → nat_le red (length block) ≡ fits
        → AfterBlock F parties d rank me block red
        (if fits then replies d.world me (session_of (at_end parties me).own
        (at_end (d.world).engines me).next) (submit_reply parties d.world me block red) else
        d.world)
    by_length false is = left_alone refl
    by_length true is = by_reply (leb-true red (length block) is) _
        (submits-is (at_end parties me) (at_end (d.world).engines me) block red (d.world).now)
