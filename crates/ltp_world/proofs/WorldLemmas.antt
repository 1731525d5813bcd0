-- A call of a world is one event of every run where it stands.

use Rattle.std.proofs.Common.{◌≡◌, ℕ, ◌<◌, ◌≤◌, ◌^◌, Bool, true, false, ◌||◌, List, [], ◌∷◌, ◌++◌, length, map, Option, None, Some, Result, Ok, Err, refl, sym, ◌∙◌, ap, arith, subst, nat_lt, nat_le}
use Rattle.std.specs.List.{slice_get}
use Rattle.std.specs.Option.{option_map}
use Rattle.std.proofs.lemmas.Bool.Decides.{nat_tests}
use Rattle.std.proofs.lemmas.List.{append-nil}
use Rattle.ltp_segment.specs.declared.fault.SegmentCause.{SegmentCause}
use Rattle.ltp_segment.specs.Reading.{segment_of}
use Rattle.ltp_segment.specs.Spelling.{segment_octets}
use Rattle.ltp_segment.specs.Values.{SegmentValue}
use Rattle.ltp_segment.proofs.WritingLemmas.{segment-again}
use Rattle.ltp_session.specs.declared.name.SessionName.{SessionName}
use Rattle.ltp_session.specs.Table.{ticked, ended}
use Rattle.ltp_session.specs.Views.{headed_all}
use Rattle.ltp_session.specs.Engine.{Party, Engine, EngineStep, Reply, SubmitFault, UpValue, submits, submit_step, arrives, datagram_step, replied_or_stranger, tick_step, tick_engine, tick_out, tick_segments, starts, list_of}
use Rattle.ltp_session.specs.World.{first_end, second_end, other, at_end, Event, World, replies, unless_refused, submitted, delivered, ticks, happens, starts_world, submit, deliver, clock, ArePeers}
use Rattle.ltp_session.specs.World.{End as LinkEnd}
use Rattle.ltp_session.specs.World.{Sent as LinkSent}
use Rattle.ltp_engine.specs.declared.effects.Effects.{Effects}
use Rattle.ltp_engine.specs.declared.refused.SubmitRefused.{SubmitRefused}
use Rattle.ltp_engine.specs.declared.refused.SubmitRefused.TheVariants as causes
use Rattle.ltp_engine.specs.Effects.{effects_of, nothing_done, up_of}
use Rattle.ltp_laws.specs.HandUps.{up_of as reply_up}
use Rattle.ltp_engine.specs.Values.{EngineValue}
use Rattle.ltp_engine.specs.Shows.{Shows}
use Rattle.ltp_engine.specs.Steps.{Steps, IsSent, IsFault, IsNoFault}
use Rattle.ltp_laws.specs.Log.{hand_ups_by, hand_up_of}
use Rattle.ltp_drain.specs.Hopeful.{AreAlike}
use Rattle.ltp_laws.proofs.WritableLemmas.{segments_can_be_written}
use Rattle.ltp_world.specs.declared.ends.End.{End}
use Rattle.ltp_world.specs.declared.ends.End.TheVariants as ends
use Rattle.ltp_world.specs.declared.sent.Sent.{Sent}
use Rattle.ltp_world.specs.declared.effects.EndEffects.{EndEffects}
use Rattle.ltp_world.specs.Ends.{link_end, named, other_end}
use Rattle.ltp_world.specs.Values.{WorldValue, parties_of, sent_from, both_ends}
use Rattle.ltp_world.specs.Shows.{IsNew, spelled, ShowsLink, ShowsRun, Stands, link_after}
use Rattle.ltp_world.specs.Steps.{Happens, submission_at, AreEffects, Submits, AreEffectsOf, Delivers, Ticks}
use Rattle.ltp_world.specs.RedParts.{HandsUpFronts, as_up}
use Rattle.ltp_world.specs.Ties.{made_world, IsSound, SubmitsAt, HearsAt}
use Rattle.ltp_world.proofs.LinkLemmas.{shows-more, link-step, got-spelled}
use Rattle.ltp_world.proofs.FrontLemmas.{delivers-fronts}

-- ---- ends

named-end : (end : End) → named (link_end end) ≡ end
named-end ends.First = refl
named-end ends.Second = refl

other-named : (end : LinkEnd) → other_end (named end) ≡ named (other end)
other-named first_end = refl
other-named second_end = refl

link-named : (end : LinkEnd) → link_end (named end) ≡ end
link-named first_end = refl
link-named second_end = refl

shows-at : (end : LinkEnd) (v : WorldValue) (w : World) → ShowsLink v w → Shows (at_end v.engines end) (at_end w.engines end)
shows-at first_end v w shows = shows.first
shows-at second_end v w shows = shows.second

party-at : (end : LinkEnd) (v : WorldValue) → at_end (parties_of v) end ≡ (at_end v.engines end).party
party-at first_end v = refl
party-at second_end v = refl

same-pair : {X : Type 0} (end : LinkEnd) (x y : X × X) → at_end x end ≡ at_end y end → at_end x (other end) ≡ at_end y (other end) → x ≡ y
same-pair first_end x y here there = rw (here, there) refl
same-pair second_end x y here there = rw (here, there) refl

same-parties : (end : LinkEnd) (old new : WorldValue) → (at_end new.engines end).party ≡ (at_end old.engines end).party
    → at_end new.engines (other end) ≡ at_end old.engines (other end) → parties_of new ≡ parties_of old
same-parties first_end old new here there = rw (here, there) refl
same-parties second_end old new here there = rw (here, there) refl

spent-at : (end : LinkEnd) (engines : EngineValue × EngineValue) → (at_end engines end).spent ≡ true → (engines.0.spent || engines.1.spent) ≡ true
spent-at first_end engines is = rw is refl
spent-at second_end engines is = rw is (or_true engines.0.spent) where
  or_true : (b : Bool) → (b || true) ≡ true
  or_true true = refl
  or_true false = refl

-- ---- a block is submitted

sent-no-fault : (v : EngineValue) (effects : Effects) (r : Result EngineStep SubmitFault) → IsSent v effects r → IsNoFault r
sent-no-fault v effects (Ok step) sent = tt
sent-no-fault v effects (Err fault) sent = absurd sent

sent-effects : (v : EngineValue) (effects : Effects) (r : Result EngineStep SubmitFault) → IsSent v effects r → AreEffects effects r
sent-effects v effects (Ok step) sent = sent.1
sent-effects v effects (Err fault) sent = absurd sent

-- what the engine promises of each engine that it stands for, at the link's end and clock
at-link : (P : Result EngineStep SubmitFault → Type 0) (end : LinkEnd) (v : WorldValue) (w : World) (block : List ℕ) (red : ℕ) → ShowsLink v w
    → ((e : Engine) → Shows (at_end v.engines end) e → P (submit_step (at_end v.engines end).party e (submits (at_end v.engines end).party e block red v.moment)))
    → P (submission_at (parties_of v) w end block red)
at-link P end v w block red shows each =
    subst (λ p. P (submit_step p (at_end w.engines end) (submits p (at_end w.engines end) block red w.now))) (sym (party-at end v))
    (subst (λ now. P (submit_step (at_end v.engines end).party (at_end w.engines end) (submits (at_end v.engines end).party (at_end w.engines end) block red now))) (sym shows.now)
    (each (at_end w.engines end) (shows-at end v w shows)))

submit-link : (end : LinkEnd) (old new : WorldValue) (w : World) (block : List ℕ) (red : ℕ) (effects : Effects) → ShowsLink old w → red ≤ length block
    → at_end new.engines (other end) ≡ at_end old.engines (other end)
    → IsSent (at_end new.engines end) effects (submission_at (parties_of old) w end block red)
    → new.sent ≡ old.sent ++ sent_from (named end) effects.out → new.moment ≡ old.moment
    → ShowsLink new (submitted (parties_of old) w end block red)
unfolding submitted
submit-link end old new w block red effects shows within there sent more same =
    rw (low red (length block) within) (by_reply (submits (at_end (parties_of old) end) (at_end w.engines end) block red w.now) sent)
  where
    low : (a b : ℕ) → a ≤ b → nat_le a b ≡ true
    low a b is = grind (arith, nat_tests)

    name : SessionName
    name = record { originator = (at_end (parties_of old) end).own; number = (at_end w.engines end).next }

    by_reply : (r : Result Reply SubmitFault) → IsSent (at_end new.engines end) effects (submit_step (at_end (parties_of old) end) (at_end w.engines end) r)
        → ShowsLink new (replies w end (record { originator = (at_end (parties_of old) end).own; number = (at_end w.engines end).next }) (unless_refused r))
    by_reply (Err fault) sent = absurd sent
    by_reply (Ok reply) sent =
        link-step end old new w reply.engine (headed_all name reply.out) effects.out w.now shows
        (record { here = sent.0; there = there }) (ap (λ (e : Effects). e.out) sent.1) more (shows.now ∙ sym same)

pub submit-sent : (end : End) (old new : WorldValue) (block : List ℕ) (red : ℕ) (effects : Effects) → SubmitsAt end old.engines new.engines block red old.moment (Ok effects)
    → red ≤ length block → new.spent ≡ false → new.sent ≡ old.sent ++ sent_from end effects.out → new.moment ≡ old.moment → Submits old new end block red (Ok effects)
submit-sent end old new block red effects does within whole more same = (
  record {
    whole = whole;
    parties = parties;
    run = λ events shows. shows-more old new events (submit (link_end end) block red) shows parties
        (submit-link (link_end end) old new (link_after old events) block red effects shows.link within does.0
        (at-link (IsSent (at_end new.engines (link_end end)) effects) (link_end end) old (link_after old events) block red shows.link does.1.next)
        (subst (λ e. new.sent ≡ old.sent ++ sent_from e effects.out) (sym (named-end end)) more) same);
  },
  λ events shows. at-link (AreEffects effects) (link_end end) old (link_after old events) block red shows.link
      (λ e shown. sent-effects (at_end new.engines (link_end end)) effects _ (does.1.next e shown)),
) where
  parties : parties_of new ≡ parties_of old
  parties = same-parties (link_end end) old new does.1.party does.0

-- what was sent couldn't be kept
pub submit-unkept : (end : End) (old new : WorldValue) (news : EngineValue × EngineValue) (block : List ℕ) (red : ℕ) (effects : Effects)
    → SubmitsAt end old.engines news block red old.moment (Ok effects) → new.spent ≡ true → Submits old new end block red (Err causes.Memory)
submit-unkept end old new news block red effects does spent = (
  spent,
  λ events shows. at-link IsNoFault (link_end end) old (link_after old events) block red shows.link
      (λ e shown. sent-no-fault (at_end news (link_end end)) effects _ (does.1.next e shown)),
)

pub submit-refused : (end : End) (olds news : EngineValue × EngineValue) (sent : List Sent) (now : ℕ) (block : List ℕ) (red : ℕ) (refusal : SubmitRefused)
    → SubmitsAt end olds news block red now (Err refusal)
    → Submits (made_world false olds sent now) (made_world false news sent now) end block red (Err refusal)
submit-refused end olds news sent now block red causes.Memory does = (
  spent-at (link_end end) news does.1.0,
  λ events shows. at-link IsNoFault (link_end end) (made_world false olds sent now) (link_after (made_world false olds sent now) events) block red shows.link does.1.1,
)
submit-refused end olds news sent now block red causes.Empty does = (
  ap (λ es. made_world false es sent now) (same-pair (link_end end) news olds does.1.0 does.0),
  λ events shows. at-link (IsFault causes.Empty) (link_end end) (made_world false olds sent now) (link_after (made_world false olds sent now) events) block red shows.link does.1.1,
)
submit-refused end olds news sent now block red causes.TooLarge does = (
  ap (λ es. made_world false es sent now) (same-pair (link_end end) news olds does.1.0 does.0),
  λ events shows. at-link (IsFault causes.TooLarge) (link_end end) (made_world false olds sent now) (link_after (made_world false olds sent now) events) block red shows.link does.1.1,
)
submit-refused end olds news sent now block red causes.NumbersSpent does = (
  ap (λ es. made_world false es sent now) (same-pair (link_end end) news olds does.1.0 does.0),
  λ events shows. at-link (IsFault causes.NumbersSpent) (link_end end) (made_world false olds sent now) (link_after (made_world false olds sent now) events) block red shows.link does.1.1,
)
submit-refused end olds news sent now block red causes.Busy does = (
  ap (λ es. made_world false es sent now) (same-pair (link_end end) news olds does.1.0 does.0),
  λ events shows. at-link (IsFault causes.Busy) (link_end end) (made_world false olds sent now) (link_after (made_world false olds sent now) events) block red shows.link does.1.1,
)

-- ---- a datagram is delivered

-- what a datagram that was sent is read as
pub read-back : (v : WorldValue) (events : List Event) (k : ℕ) (d : LinkSent) → ShowsRun v events → slice_get (link_after v events).sent k ≡ Some d
    → segment_of (segment_octets d.segment) ≡ Ok d.segment
read-back v events k d shows is =
    segment-again d.segment (segments_can_be_written (parties_of v) events shows.peers shows.first_small shows.second_small k d is)

-- a reply, or none, at an end
hear-link : (end : LinkEnd) (old new : WorldValue) (w : World) (name : SessionName) (reply : Option Reply) (effects : Effects) → ShowsLink old w
    → at_end new.engines (other end) ≡ at_end old.engines (other end)
    → Shows (at_end new.engines end) (replied_or_stranger (at_end w.engines end) name reply).engine
    → effects ≡ effects_of (replied_or_stranger (at_end w.engines end) name reply).effects
    → new.sent ≡ old.sent ++ sent_from (named end) effects.out → new.moment ≡ old.moment
    → ShowsLink new (replies w end name reply)
hear-link end old new w name None effects shows there here told more same = record {
  first = (by_end end there here).0;
  second = (by_end end there here).1;
  sent = more ∙ (ap (λ (e : Effects). old.sent ++ sent_from (named end) e.out) told ∙ (append-nil old.sent ∙ shows.sent));
  now = shows.now ∙ sym same;
} where
  by_end : (end : LinkEnd) → at_end new.engines (other end) ≡ at_end old.engines (other end) → Shows (at_end new.engines end) (at_end w.engines end)
      → Shows new.engines.0 w.engines.0 × Shows new.engines.1 w.engines.1
  by_end first_end there here = (here, subst (λ v. Shows v w.engines.1) (sym there) shows.second)
  by_end second_end there here = (subst (λ v. Shows v w.engines.0) (sym there) shows.first, here)
hear-link end old new w name (Some reply) effects shows there here told more same =
    link-step end old new w reply.engine (headed_all name reply.out) effects.out w.now shows
    (record { here = here; there = there }) (ap (λ (e : Effects). e.out) told) more (shows.now ∙ sym same)

-- the engine's step on what datagram k is read as
abbrev HearsLink : LinkEnd → WorldValue → WorldValue → World → LinkSent → Effects → Type 0
HearsLink end old new w d effects =
    Shows (at_end new.engines end) (datagram_step (at_end (parties_of old) end) (at_end w.engines end) (Ok d.segment) w.now).engine
    × (effects ≡ effects_of (datagram_step (at_end (parties_of old) end) (at_end w.engines end) (Ok d.segment) w.now).effects)

hears : (end : LinkEnd) (old new : WorldValue) (w : World) (d : LinkSent) (datagram : List ℕ) (effects : Effects) → ShowsLink old w
    → segment_of datagram ≡ Ok d.segment
    → Steps (at_end old.engines end) (at_end new.engines end) (λ e. datagram_step (at_end old.engines end).party e (segment_of datagram) old.moment) effects
    → HearsLink end old new w d effects
hears end old new w d datagram effects shows read steps =
    subst (λ p. Hears p w.now (Ok d.segment)) (sym (party-at end old))
    (subst (λ now. Hears (at_end old.engines end).party now (Ok d.segment)) (sym shows.now)
    (subst (Hears (at_end old.engines end).party old.moment) read
    (steps.next (at_end w.engines end) (shows-at end old w shows), steps.effects_are (at_end w.engines end) (shows-at end old w shows))))
  where
    Hears : Party → ℕ → Result SegmentValue (ℕ × SegmentCause) → Type 0
    Hears p now r = Shows (at_end new.engines end) (datagram_step p (at_end w.engines end) r now).engine
        × (effects ≡ effects_of (datagram_step p (at_end w.engines end) r now).effects)

-- in every run where the old world stands, datagram k is this one
record Gets (v : WorldValue) (events : List Event) (k : ℕ) (item : Sent) : Type 0 where
  d : LinkSent
  is : slice_get (link_after v events).sent k ≡ Some d
  same : item ≡ spelled d

gets : (v : WorldValue) (events : List Event) (k : ℕ) (item : Sent) → ShowsRun v events → slice_get v.sent k ≡ Some item → Gets v events k item
gets v events k item shows found =
    let (d, is, got) = got-spelled (link_after v events).sent k item (subst (λ sent. slice_get sent k ≡ Some item) shows.link.sent found) in
    record { d = d; is = is; same = got }

-- all that a delivery does in a run
record DeliversIn (old new : WorldValue) (events : List Event) (k : ℕ) (told : EndEffects) : Type 0 where
  d : LinkSent
  is : slice_get (link_after old events).sent k ≡ Some d
  end_is : told.end ≡ named (other d.from)
  step : HearsLink (other d.from) old new (link_after old events) d told.effects
  link : ShowsLink new (delivered (parties_of old) (link_after old events) (Some d))

delivers-in : (old new : WorldValue) (events : List Event) (k : ℕ) (item : Sent) (effects : Effects) → ShowsRun old events → slice_get old.sent k ≡ Some item
    → HearsAt (other_end item.from) old.engines new.engines item.datagram old.moment effects
    → new.sent ≡ old.sent ++ sent_from (other_end item.from) effects.out → new.moment ≡ old.moment
    → DeliversIn old new events k (record { end = other_end item.from; effects = effects })
unfolding datagram_step
delivers-in old new events k item effects shows found heard more same =
    let got = gets old events k item shows found in
    at_it got.d got.is got.same heard more
  where
    w : World
    w = link_after old events

    at_it : (d : LinkSent) → slice_get (link_after old events).sent k ≡ Some d → item ≡ spelled d
        → HearsAt (other_end item.from) old.engines new.engines item.datagram old.moment effects
        → new.sent ≡ old.sent ++ sent_from (other_end item.from) effects.out
        → DeliversIn old new events k (record { end = other_end item.from; effects = effects })
    at_it d is it heard more =
        let end_is : other_end item.from ≡ named (other d.from) = ap (λ (i : Sent). other_end i.from) it ∙ other-named d.from in
        let read : segment_of item.datagram ≡ Ok d.segment = ap (λ (i : Sent). segment_of i.datagram) it ∙ read-back old events k d shows is in
        let there : HearsAt (named (other d.from)) old.engines new.engines item.datagram old.moment effects = subst (λ e. HearsAt e old.engines new.engines item.datagram old.moment effects) end_is heard in
        let at_end_is : link_end (named (other d.from)) ≡ other d.from = link-named (other d.from) in
        let step : HearsLink (other d.from) old new (link_after old events) d effects =
        hears (other d.from) old new (link_after old events) d item.datagram effects shows.link read
        (subst (λ e. Steps (at_end old.engines e) (at_end new.engines e) (λ x. datagram_step (at_end old.engines e).party x (segment_of item.datagram) old.moment) effects) at_end_is there.1) in
        record {
          d = d;
          is = is;
          end_is = end_is;
          step = step;
          link = hear-link (other d.from) old new (link_after old events) (record { originator = d.segment.originator; number = d.segment.session })
              (arrives (at_end (parties_of old) (other d.from)) (at_end (link_after old events).engines (other d.from)) d.segment (link_after old events).now) effects shows.link
              (subst (λ e. at_end new.engines (other e) ≡ at_end old.engines (other e)) at_end_is there.0) step.0 step.1
              (subst (λ e. new.sent ≡ old.sent ++ sent_from e effects.out) end_is more) same;
        }

pub deliver-done : (old new : WorldValue) (k : ℕ) (item : Sent) (effects : Effects) → k < length old.sent → slice_get old.sent k ≡ Some item
    → HearsAt (other_end item.from) old.engines new.engines item.datagram old.moment effects → new.spent ≡ false
    → new.sent ≡ old.sent ++ sent_from (other_end item.from) effects.out → new.moment ≡ old.moment
    → Delivers old new k (Ok (record { end = other_end item.from; effects = effects }))
deliver-done old new k item effects low found heard whole more same = (
  low,
  record {
    whole = whole;
    parties = parties;
    run = λ events shows.
        let all = delivers-in old new events k item effects shows found heard more same in
        shows-more old new events (deliver k) shows parties (subst (λ got. ShowsLink new (delivered (parties_of old) (link_after old events) got)) (sym all.is) all.link);
  },
  λ events shows.
      let all = delivers-in old new events k item effects shows found heard more same in
      subst (AreEffectsOf (parties_of old) (link_after old events) (record { end = other_end item.from; effects = effects })) (sym all.is) (all.end_is, all.step.1),
) where
  parties : parties_of new ≡ parties_of old
  parties = same-parties (link_end (other_end item.from)) old new heard.1.party heard.0

-- what it hands up
pub deliver-fronts : (old : WorldValue) (k : ℕ) (told : EndEffects)
    → ((events : List Event) → ShowsRun old events → AreEffectsOf (parties_of old) (link_after old events) told (slice_get (link_after old events).sent k))
    → (events : List Event) → ShowsRun old events → HandsUpFronts old events (deliver k) told.effects.ups
unfolding datagram_step
deliver-fronts old k told are events shows = record {
  ups = by_got (slice_get (link_after old events).sent k) (are events shows);
  fronts = delivers-fronts old events k shows;
} where
  w : World
  w = link_after old events

  up_value : ℕ → List ℕ → UpValue
  up_value n body = record { session = n; body = body }

  by_up : (d : LinkSent) (up : Option (List ℕ))
      → map up_of (list_of (option_map (λ body. up_value (d.segment).session body) up)) ≡ map as_up (hand_up_of d up)
  by_up d None = refl
  by_up d (Some body) = refl

  by_reply : (d : LinkSent) (reply : Option Reply)
      → told.effects ≡ effects_of (replied_or_stranger (at_end (link_after old events).engines (other d.from)) (record { originator = d.segment.originator; number = d.segment.session }) reply).effects
      → told.effects.ups ≡ map as_up (hand_up_of d (reply_up reply))
  by_reply d None is = ap (λ (e : Effects). e.ups) is
  by_reply d (Some reply) is = ap (λ (e : Effects). e.ups) is ∙ by_up d reply.up

  by_got : (got : Option LinkSent) → AreEffectsOf (parties_of old) (link_after old events) told got
      → told.effects.ups ≡ map as_up (hand_ups_by (parties_of old) (link_after old events) got)
  by_got None are = absurd are
  by_got (Some d) are = by_reply d (arrives (at_end (parties_of old) (other d.from)) (at_end (link_after old events).engines (other d.from)) d.segment (link_after old events).now) are.1

-- ---- the clock is set

ticks-link : (end : LinkEnd) (old new : WorldValue) (w : World) (effects : Effects) (now before : ℕ) → ShowsLink old w
    → at_end new.engines (other end) ≡ at_end old.engines (other end)
    → Steps (at_end old.engines end) (at_end new.engines end) (λ e. tick_step (at_end old.engines end).party e now) effects
    → new.sent ≡ old.sent ++ sent_from (named end) effects.out → now ≡ new.moment → (parties : Party × Party) → at_end parties end ≡ (at_end old.engines end).party
    → ShowsLink new (ticks parties now end w)
unfolding ticks tick_step
ticks-link end old new w effects now before shows there steps more at parties party =
    let e = at_end w.engines end in
    let shown = shows-at end old w shows in
    link-step end old new w (tick_engine (at_end parties end) (at_end w.engines end) now) (tick_out (at_end parties end) (at_end w.engines end) now) effects.out now shows
    (record {
      here = subst (λ p. Shows (at_end new.engines end) (tick_engine p (at_end w.engines end) now)) (sym party) (steps.next (at_end w.engines end) shown);
      there = there;
    })
    (subst (λ p. effects.out ≡ map segment_octets (tick_out p (at_end w.engines end) now)) (sym party) (ap (λ (e : Effects). e.out) (steps.effects_are (at_end w.engines end) shown)))
    more at

-- both engines tick
pub clock-done : (broken : Bool) (olds news : EngineValue × EngineValue) (sent : List Sent) (was now : ℕ) (first second : Effects) → was ≤ now
    → Steps olds.0 news.0 (λ e. tick_step olds.0.party e now) first → Steps olds.1 news.1 (λ e. tick_step olds.1.party e now) second
    → (new : WorldValue) → new ≡ made_world false news ((sent ++ sent_from ends.First first.out) ++ sent_from ends.Second second.out) now
    → Ticks (made_world broken olds sent was) new now (both_ends first second)
clock-done broken olds news sent was now first second later first_steps second_steps new new_is =
    subst (λ v. Ticks (made_world broken olds sent was) v now (both_ends first second)) (sym new_is) (
      record {
        whole = rw (first_steps.whole, second_steps.whole) refl;
        parties = rw (first_steps.party, second_steps.party) refl;
        run = λ events shows. shows-more old after_it events (clock now) shows (rw (first_steps.party, second_steps.party) refl)
            (rw (not_back (link_after old events) shows.link) (ticks-link second_end between after_it (ticks (parties_of old) now first_end (link_after old events)) second now was
            (ticks-link first_end old between (link_after old events) first now was shows.link refl first_steps refl refl (parties_of old) refl)
            refl second_steps refl refl (parties_of old) refl));
      },
      λ events shows. rw (not_back (link_after old events) shows.link)
          (ap (λ f. both_ends f second) (first_steps.effects_are (link_after old events).engines.0 shows.link.first)
          ∙ ap (λ s. both_ends (effects_of (tick_step olds.0.party (link_after old events).engines.0 now).effects) s) (second_steps.effects_are (link_after old events).engines.1 shows.link.second)),
    )
  where
    old : WorldValue
    old = made_world broken olds sent was

    between : WorldValue
    between = made_world false (news.0, olds.1) (sent ++ sent_from ends.First first.out) now

    after_it : WorldValue
    after_it = made_world false news ((sent ++ sent_from ends.First first.out) ++ sent_from ends.Second second.out) now

    not_less : (a b : ℕ) → b ≤ a → nat_lt a b ≡ false
    not_less a b is = grind (arith, nat_tests)

    not_back : (w : World) → ShowsLink (made_world broken olds sent was) w → nat_lt now w.now ≡ false
    not_back w shows = not_less now w.now (omega (arith, shows.now, later))

-- a clock that would go back stays
pub clock-stays : (old : WorldValue) (now : ℕ) → old.spent ≡ false → now < old.moment → Ticks old old now (both_ends nothing_done nothing_done)
clock-stays old now whole back = (
  record {
    whole = whole;
    parties = refl;
    run = λ events shows. shows-more old old events (clock now) shows refl (rw (goes_back (link_after old events) shows.link) shows.link);
  },
  λ events shows. rw (goes_back (link_after old events) shows.link) refl,
) where
  less : (a b : ℕ) → a < b → nat_lt a b ≡ true
  less a b is = grind (arith, nat_tests)

  goes_back : (w : World) → ShowsLink old w → nat_lt now w.now ≡ true
  goes_back w shows = less now w.now (omega (arith, shows.now, back))

-- ---- the beginning

start-link : (parties : Party × Party) (now : ℕ)
    → happens parties (starts_world parties) (clock now) ≡ record { engines = (starts parties.0, starts parties.1); sent = []; now = now }
unfolding ticks tick_segments ticked ended
start-link parties now = rw (never now) refl where
  never : (n : ℕ) → nat_lt n 0 ≡ false
  never n = grind (arith, nat_tests)

pub new-run : (first second : EngineValue) (now : ℕ) → IsNew first → IsNew second → ArePeers (first.party, second.party) → AreAlike (first.party, second.party)
    → ShowsRun (made_world false (first, second) [] now) (clock now ∷ [])
new-run first second now first_new second_new peers alike = record {
  peers = peers;
  alike = alike;
  first_small = first_new.small;
  second_small = second_new.small;
  link = subst (ShowsLink (made_world false (first, second) [] now)) (sym (start-link (first.party, second.party) now)) (record {
    first = first_new.shows;
    second = second_new.shows;
    sent = refl;
    now = refl;
  });
}

pub new-sound : (first second : EngineValue) (now : ℕ) → IsNew first → IsNew second → ArePeers (first.party, second.party) → AreAlike (first.party, second.party) → now < 2 ^ 62
    → IsSound (made_world false (first, second) [] now)
new-sound first second now first_new second_new peers alike below = record {
  moment = below;
  stands = λ _. record { events = clock now ∷ []; shows = new-run first second now first_new second_new peers alike };
}

-- ---- where a world stands

pub happens-stands : (old new : WorldValue) (event : Event) → Stands old → Happens old new event → Stands new
happens-stands old new event stands happens = record {
  events = stands.events ++ event ∷ [];
  shows = happens.run stands.events stands.shows;
}

-- a refusal that leaves the world whole leaves it where it stands
pub refused-stands : (old new : WorldValue) (end : End) (block : List ℕ) (red : ℕ) (refusal : SubmitRefused) → Submits old new end block red (Err refusal)
    → Stands old → new.spent ≡ false → Stands new
refused-stands old new end block red causes.Memory does stands whole = absurd (let spent = does.0 in cc)
refused-stands old new end block red causes.Empty does stands whole = subst Stands (sym does.0) stands
refused-stands old new end block red causes.TooLarge does stands whole = subst Stands (sym does.0) stands
refused-stands old new end block red causes.NumbersSpent does stands whole = subst Stands (sym does.0) stands
refused-stands old new end block red causes.Busy does stands whole = subst Stands (sym does.0) stands

-- a world in which memory ran out may stand anywhere
pub broken-sound : (engines : EngineValue × EngineValue) (sent : List Sent) (now : ℕ) → now < 2 ^ 62 → IsSound (made_world true engines sent now)
broken-sound engines sent now below = record { moment = below; stands = λ whole. absurd (cc) }

pub spent-sound : (v : WorldValue) → v.moment < 2 ^ 62 → v.spent ≡ true → IsSound v
spent-sound v below spent = record { moment = below; stands = λ whole. absurd (cc) }

pub happens-sound : (old new : WorldValue) (event : Event) → IsSound old → old.spent ≡ false → Happens old new event → new.moment < 2 ^ 62 → IsSound new
happens-sound old new event sound whole happens below = record {
  moment = below;
  stands = λ _. happens-stands old new event (sound.stands whole) happens;
}

pub refused-sound : (old new : WorldValue) (end : End) (block : List ℕ) (red : ℕ) (refusal : SubmitRefused) → Submits old new end block red (Err refusal)
    → IsSound old → old.spent ≡ false → new.moment < 2 ^ 62 → IsSound new
refused-sound old new end block red refusal does sound whole below = record {
  moment = below;
  stands = λ still. refused-stands old new end block red refusal does (sound.stands whole) still;
}

-- a world that is whole, and was marked as broken for a while
pub unbroken : (broken : Bool) (engines : EngineValue × EngineValue) (sent : List Sent) (now : ℕ) (u : WorldValue) → made_world broken engines sent now ≡ u → u.spent ≡ false
    → made_world false engines sent now ≡ u
unbroken broken engines sent now u is whole =
    subst (λ b. made_world b engines sent now ≡ u) (or_left broken (engines.0.spent || engines.1.spent) (ap (λ (v : WorldValue). v.spent) is ∙ whole)) is
  where
    or_left : (a b : Bool) → (a || b) ≡ false → a ≡ false
    or_left false b is = refl
    or_left true b is = absurd (cc)

-- ---- as the code has it

or_false : (a b c : Bool) → (a || (b || c)) ≡ false → (b ≡ false) × (c ≡ false)
or_false false false false is = (refl, refl)
or_false false false true is = absurd (cc)
or_false false true c is = absurd (cc)
or_false true b c is = absurd (cc)

-- a step at one end leaves both engines whole
whole-now : (end : LinkEnd) (broken : Bool) (olds news : EngineValue × EngineValue) → (broken || (olds.0.spent || olds.1.spent)) ≡ false
    → at_end news (other end) ≡ at_end olds (other end) → (at_end news end).spent ≡ false → (news.0.spent || news.1.spent) ≡ false
whole-now first_end broken olds news whole there here =
    let was : (olds.0.spent ≡ false) × (olds.1.spent ≡ false) = or_false broken olds.0.spent olds.1.spent whole in
    rw (here, ap (λ (v : EngineValue). v.spent) there ∙ was.1) refl
whole-now second_end broken olds news whole there here =
    let was : (olds.0.spent ≡ false) × (olds.1.spent ≡ false) = or_false broken olds.0.spent olds.1.spent whole in
    rw (here, ap (λ (v : EngineValue). v.spent) there ∙ was.0) refl

pub submit-answer : (broken : Bool) (olds news : EngineValue × EngineValue) (sent kept : List Sent) (was : ℕ) (u : WorldValue) (end : End) (block : List ℕ) (red : ℕ) (effects : Effects) (out : List (List ℕ))
    → made_world broken olds sent was ≡ u → u.spent ≡ false → SubmitsAt end olds news block red was (Ok effects) → red ≤ length block
    → kept ≡ sent ++ sent_from end out → out ≡ effects.out
    → Submits u (made_world false news kept was) end block red (Ok effects)
submit-answer broken olds news sent kept was u end block red effects out is whole does within keeps_it outs =
    subst (λ v. Submits v (made_world false news kept was) end block red (Ok effects)) is
    (submit-sent end (made_world broken olds sent was) (made_world false news kept was) block red effects does within
    (whole-now (link_end end) broken olds news (ap (λ (v : WorldValue). v.spent) is ∙ whole) does.0 does.1.whole)
    (keeps_it ∙ ap (λ o. sent ++ sent_from end o) outs) refl)

pub deliver-answer : (broken : Bool) (olds news : EngineValue × EngineValue) (sent kept : List Sent) (was k : ℕ) (u : WorldValue) (item : Sent) (end : End) (datagram : List ℕ) (effects : Effects) (out : List (List ℕ))
    → made_world broken olds sent was ≡ u → u.spent ≡ false → k < length sent → slice_get sent k ≡ Some item → end ≡ other_end item.from → datagram ≡ item.datagram
    → HearsAt end olds news datagram was effects → kept ≡ sent ++ sent_from end out → out ≡ effects.out
    → Delivers u (made_world false news kept was) k (Ok (record { end = end; effects = effects }))
deliver-answer broken olds news sent kept was k u item end datagram effects out is whole low found end_is datagram_is heard keeps_it outs =
    subst (λ e. Delivers u (made_world false news kept was) k (Ok (record { end = e; effects = effects }))) (sym end_is)
    (subst (λ v. Delivers v (made_world false news kept was) k (Ok (record { end = other_end item.from; effects = effects }))) is
    (deliver-done (made_world broken olds sent was) (made_world false news kept was) k item effects low found here
    (whole-now (link_end (other_end item.from)) broken olds news (ap (λ (v : WorldValue). v.spent) is ∙ whole) here.0 here.1.whole)
    (subst (λ e. kept ≡ sent ++ sent_from e effects.out) end_is (keeps_it ∙ ap (λ o. sent ++ sent_from end o) outs)) refl)) where
      here : HearsAt (other_end item.from) olds news item.datagram was effects
      here = subst (λ e. HearsAt e olds news item.datagram was effects) end_is (subst (λ d. HearsAt end olds news d was effects) datagram_is heard)

pub clock-answer : (broken : Bool) (olds news : EngineValue × EngineValue) (sent kept more : List Sent) (was now : ℕ) (u : WorldValue) (first second : Effects) (out out' : List (List ℕ)) (told : List EndEffects)
    → made_world broken olds sent was ≡ u → was ≤ now
    → Steps olds.0 news.0 (λ e. tick_step olds.0.party e now) first → Steps olds.1 news.1 (λ e. tick_step olds.1.party e now) second
    → kept ≡ sent ++ sent_from ends.First out → out ≡ first.out → more ≡ kept ++ sent_from ends.Second out' → out' ≡ second.out → told ≡ both_ends first second
    → Ticks u (made_world false news more now) now told
clock-answer broken olds news sent kept more was now u first second out out' told is later first_steps second_steps keeps_it outs keeps_more outs' tells =
    subst (λ v. Ticks v (made_world false news more now) now told) is
    (subst (λ t. Ticks (made_world broken olds sent was) (made_world false news more now) now t) (sym tells)
    (clock-done broken olds news sent was now first second later first_steps second_steps (made_world false news more now)
    (ap (λ s. made_world false news s now) (keeps_more ∙ (ap (λ o. kept ++ sent_from ends.Second o) outs'
    ∙ ap (λ s. s ++ sent_from ends.Second second.out) (keeps_it ∙ ap (λ o. sent ++ sent_from ends.First o) outs))))))
