-- Each segment is of a session that was begun.

use Rattle.std.proofs.Common.{length, nat_le, ◌≡◌, ℕ, zero, suc, Bool, true, false, List, [], ◌∷◌}
use Rattle.std.proofs.Common.{Option, None, Some, refl, subst, nat_lt}
use Rattle.std.specs.List.{AllByRecursion, slice_get}
use Rattle.ltp_segment.specs.Values.{ContentValue}
use Rattle.ltp_session.specs.Engine.{Party, Engine, Reply, sender_ticks, receiver_ticks}
use Rattle.ltp_session.specs.Engine.{tick_segments}
use Rattle.ltp_session.specs.Step.{StepValue}
use Rattle.ltp_session.specs.Views.{headed_all}
use Rattle.ltp_session.specs.World.{End, first_end, second_end, other, at_end, World, Sent}
use Rattle.ltp_session.specs.World.{sent_by, Event, submit, deliver, clock, replies, submitted}
use Rattle.ltp_session.specs.World.{delivered, ticks, happens, run, starts_world, ArePeers}
use Rattle.ltp_laws.specs.Blocks.{BlockFacts}
use Rattle.ltp_laws.specs.Log.{HasSession, submissions, HasFactsBy}
use Rattle.ltp_laws.specs.View.{session_of, view, said, Unused, IsIn}
use Rattle.ltp_laws.proofs.FactLemmas.{facts-keep}
use Rattle.ltp_laws.proofs.FrameLemmas.{sent_by-append}
use Rattle.ltp_laws.proofs.ListLemmas.{both_arms, by_arms, all-append}
use Rattle.ltp_laws.proofs.LogLemmas.{every_submitted}
use Rattle.ltp_laws.proofs.RunLemmas.{sent-among, among_none}

abbrev IsOwn : Party × Party → ℕ → Type 0
IsOwn parties o = (from : End) × (o ≡ (at_end parties from).own)

abbrev AllOwn : Party × Party → List Sent → Type 0
AllOwn parties sent = AllByRecursion (λ d. IsOwn parties d.segment.originator) sent

headed-own : (parties : Party × Party) (end : End) (o n : ℕ) (out : List ContentValue)
    → IsOwn parties o → AllOwn parties (sent_by end (headed_all (session_of o n) out))
headed-own parties end o n [] own = tt
headed-own parties end o n (c ∷ cs) own = (own, headed-own parties end o n cs own)

ticked-own : (parties : Party × Party) (end : End) {S : Type 0} (tick : S → StepValue S) (o : ℕ)
    (es : List (ℕ × S)) → IsOwn parties o → AllOwn parties (sent_by end (tick_segments tick o es))
unfolding tick_segments
ticked-own parties end tick o [] own = tt
ticked-own parties end tick o (e ∷ es) own =
    let rest = ticked-own parties end tick o es own in
    rw (sent_by-append end (headed_all (session_of o e.0) (tick e.1).out)
    (tick_segments tick o es)) (all-append _ _ _ (headed-own parties end o e.0
    (tick e.1).out own) rest)

replies-own : (parties : Party × Party) (w : World) (end : End) (o n : ℕ) (reply : Option Reply)
    → IsOwn parties o → AllOwn parties w.sent
    → AllOwn parties (replies w end (session_of o n) reply).sent
replies-own parties w end o n None own all = all
replies-own parties w end o n (Some r) own all =
    all-append _ w.sent _ all (headed-own parties end o n r.out own)

peer-own : (parties : Party × Party) (end : End) → ArePeers parties
    → IsOwn parties (at_end parties end).peer
peer-own parties first_end peers = (second_end, peers.first_knows)
peer-own parties second_end peers = (first_end, peers.second_knows)

ticks-own : (parties : Party × Party) (now : ℕ) (end : End) (w : World) → ArePeers parties
    → AllOwn parties w.sent → AllOwn parties (ticks parties now end w).sent
unfolding ticks
ticks-own parties now end w peers all =
    let p : Party = at_end parties end in
    let e : Engine = at_end w.engines end in
    all-append _ w.sent _ all
    (rw (sent_by-append end (tick_segments (sender_ticks (at_end parties end) now)
    (at_end parties end).own (at_end w.engines end).senders)
    (tick_segments (receiver_ticks (at_end parties end) now) (at_end parties end).peer
    (at_end w.engines end).receivers))
    (all-append _ _ _ (ticked-own parties end (sender_ticks (at_end parties end) now)
    (at_end parties end).own (at_end w.engines end).senders (end, refl))
    (ticked-own parties end (receiver_ticks (at_end parties end) now) (at_end parties end).peer
    (at_end w.engines end).receivers (peer-own parties end peers))))

got-own : (parties : Party × Party) (sent : List Sent) (k : ℕ) (d : Sent)
    → slice_get sent k ≡ Some d → AllOwn parties sent → IsOwn parties d.segment.originator
got-own parties [] k d is all = absurd (cc)
got-own parties (x ∷ xs) zero d is all = let here : x ≡ d =
    cc (is) in subst (λ (y : Sent). IsOwn parties (y.segment).originator) here all.0
got-own parties (x ∷ xs) (suc k) d is all = got-own parties xs k d is all.1

happens-own : (parties : Party × Party) (w : World) (event : Event) → ArePeers parties
    → AllOwn parties w.sent → AllOwn parties (happens parties w event).sent
unfolding submitted
happens-own parties w (submit end block red) peers all =
    both_arms (λ (x : World). AllOwn parties x.sent) (nat_le red (length block)) _ w
    (replies-own parties w end _ _ _ (end, refl) all) all
happens-own parties w (deliver k) peers all = by_got (slice_get w.sent k) refl
  where
    by_got : (got : Option Sent) → slice_get w.sent k ≡ got
        → AllOwn parties (delivered parties w got).sent
    by_got None is = all
    by_got (Some d) is =
        replies-own parties w (other d.from) _ _ _ (got-own parties w.sent k d is all) all
happens-own parties w (clock now) peers all =
    by_arms (λ (x : World). AllOwn parties x.sent) (nat_lt now w.now) w _ (λ past. all)
    (λ later. ticks-own parties now second_end _ peers
    (ticks-own parties now first_end w peers all))

run-own : (parties : Party × Party) (events : List Event) (w : World) → ArePeers parties
    → AllOwn parties w.sent → AllOwn parties (run parties w events).sent
run-own parties [] w peers all = all
run-own parties (event ∷ events) w peers all =
    run-own parties events (happens parties w event) peers (happens-own parties w event peers all)

-- what was said in a session was said in one that was begun
said-used : (parties : Party × Party) (w : World) (from of : End) (n : ℕ) (content : ContentValue)
    → IsIn content (said from (at_end parties of).own n w.sent) → Unused (view parties w of n) → ⊥
said-used parties w first_end first_end n content among unused =
    among_none content _ among unused.by_sender
said-used parties w second_end first_end n content among unused =
    among_none content _ among unused.by_receiver
said-used parties w first_end second_end n content among unused =
    among_none content _ among unused.by_receiver
said-used parties w second_end second_end n content among unused =
    among_none content _ among unused.by_sender

pub segments_have_sessions : (parties : Party × Party) (events : List Event) → ArePeers parties
    → (k : ℕ) (d : Sent)
    → slice_get (run parties (starts_world parties) events).sent k ≡ Some d
    → HasSession parties (run parties (starts_world parties) events) d
segments_have_sessions parties events peers k d is =
    by_own (got-own parties (run parties (starts_world parties) events).sent k d is
    (run-own parties events (starts_world parties) peers tt))
  where
    w : World
    w = run parties (starts_world parties) events

    by_own : IsOwn parties (d.segment).originator
        → HasSession parties (run parties (starts_world parties) events) d
    by_own (of, own) =
        record {
          of = of;
          originator = own;
          used = by_used
              (view parties w of (d.segment).session).used refl
              (every_submitted BlockFacts facts-keep parties events peers of (d.segment).session);
        }
      where
        by_used : (used : Bool) → (view parties w of (d.segment).session).used ≡ used
            → HasFactsBy BlockFacts (submissions parties (starts_world parties) events) of
            (d.segment).session used (view parties w of (d.segment).session)
            → (view parties w of (d.segment).session).used ≡ true
        by_used true is_used planned = is_used
        by_used false is_used unused =
            absurd (said-used parties w d.from of (d.segment).session (d.segment).content
            (subst (λ o. IsIn (d.segment).content (said d.from o (d.segment).session w.sent)) own
            (sent-among w.sent k d is)) unused)
