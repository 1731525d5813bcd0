-- What a drain hands up is the front of a block that was submitted, once.

use Rattle.std.proofs.Common.{◌≡◌, ℕ, Bool, true, false, List, [], ◌∷◌, ◌++◌, length, map, Option, None, Some, Ok, sym, refl, ◌∙◌, ap, subst, nat_lt, if◌then◌else◌}
use Rattle.std.specs.List.{AllByRecursion, flat_map, slice_get}
use Rattle.std.specs.Option.{option_map}
use Rattle.std.proofs.lemmas.List.{append-nil, append_assoc, map-append}
use Rattle.ltp_session.specs.Engine.{Party, Reply, UpValue, arrives, datagram_step, list_of, replied_or_stranger, tick_step}
use Rattle.ltp_session.specs.World.{Event, World, at_end, clock, deliver, first_end, happens, other, run, second_end, starts_world, submit}
use Rattle.ltp_session.specs.World.{Sent as LinkSent}
use Rattle.ltp_laws.specs.HandUps.{up_of as reply_up}
use Rattle.ltp_laws.specs.Log.{HandsUpFronts, IsFront, hand_up_of, hand_ups, hand_ups_at, hand_ups_by, submissions, submissions_at}
use Rattle.ltp_laws.proofs.LogLemmas.{red_parts_are_fronts}
use Rattle.ltp_drain.specs.Clean.{AreClean, clean_event, link_deadline, passed_after}
use Rattle.ltp_drain.specs.Effects.{deliver_effects, effects_at}
use Rattle.ltp_engine.specs.declared.effects.Up.{Up}
use Rattle.ltp_engine.specs.Effects.{up_of}
use Rattle.ltp_world.specs.declared.effects.Drained.{Drained}
use Rattle.ltp_world.specs.Drain.{Drains, DrainsAll, done_in, told_of}
use Rattle.ltp_world.specs.Ends.{named}
use Rattle.ltp_world.specs.RedParts.{DrainHandsUpFronts, HandsUpFrontsIn, as_told, ups_in, ups_of}
use Rattle.ltp_world.specs.Shows.{ShowsRun, link_after}
use Rattle.ltp_world.specs.Values.{WorldValue, parties_of}
use Rattle.ltp_world.proofs.FrontLemmas.{all-right}

-- ---- a clean event submits nothing

abbrev pub NoSubmit : Event → Type 0
NoSubmit (submit end block red) = ⊥
NoSubmit (deliver k) = Unit {0}
NoSubmit (clock now) = Unit {0}

clean-no-submit : (w : World) (c : ℕ) (event : Event) → clean_event w c ≡ Some event
    → NoSubmit event
clean-no-submit w c event is = by_test (nat_lt c (length w.sent)) (link_deadline w) is
  where
    by_test : (b : Bool) (o : Option ℕ)
        → (if b then Some (deliver c) else option_map clock o) ≡ Some event → NoSubmit event
    by_test true o is = let same : deliver c ≡ event = cc in subst NoSubmit same tt
    by_test false None is = absurd (cc)
    by_test false (Some now) is = let same : clock now ≡ event = cc in subst NoSubmit same tt

none-submitted : (parties : Party × Party) (w : World) (event : Event) → NoSubmit event
    → submissions_at parties w event ≡ []
none-submitted parties w (submit end block red) none = absurd none
none-submitted parties w (deliver k) none = refl
none-submitted parties w (clock now) none = refl

no-submissions : (parties : Party × Party) (w : World) (events : List Event)
    → AllByRecursion NoSubmit events → submissions parties w events ≡ []
unfolding submissions
no-submissions parties w [] none = refl
no-submissions parties w (event ∷ events) none =
    rw (
      none-submitted parties w event none.0,
      no-submissions parties (happens parties w event) events none.1,
    ) refl

clean-none : (parties : Party × Party) (w : World) (c : ℕ) (events : List Event)
    → AreClean parties w c events → AllByRecursion NoSubmit events
clean-none parties w c [] clean = tt
clean-none parties w c (event ∷ events) clean = (
  clean-no-submit w c event clean.0,
  clean-none parties (happens parties w event) (passed_after c event) events clean.1,
)

-- ---- what is told of an event

abbrev up_value : ℕ → List ℕ → UpValue
up_value n body = record { session = n; body = body }

told-up : (d : LinkSent) (up : Option (List ℕ))
    → map (λ (u : Up). (named (other d.from), u))
    (map up_of (list_of (option_map (λ body. up_value (d.segment).session body) up)))
    ≡ map as_told (hand_up_of d up)
told-up d None = refl
told-up d (Some body) = refl

deliver-ups : (parties : Party × Party) (w : World) (got : Option LinkSent)
    → flat_map ups_of (map told_of (deliver_effects parties w got))
    ≡ map as_told (hand_ups_by parties w got)
unfolding datagram_step
deliver-ups parties w None = refl
deliver-ups parties w (Some d) =
    by_reply (arrives (at_end parties (other d.from)) (at_end w.engines (other d.from)) d.segment
    w.now)
  where
    by_reply : (reply : Option Reply)
        → map (λ (u : Up). (named (other d.from), u))
        (map up_of (replied_or_stranger (at_end w.engines (other d.from))
        (record { originator = d.segment.originator; number = d.segment.session })
        reply).effects.ups) ++ []
        ≡ map as_told (hand_up_of d (reply_up reply))
    by_reply None = refl
    by_reply (Some reply) = append-nil _ ∙ told-up d reply.up

event-ups : (parties : Party × Party) (w : World) (event : Event) → NoSubmit event
    → flat_map ups_of (map told_of (effects_at parties w event))
    ≡ map as_told (hand_ups_at parties w event)
unfolding tick_step
event-ups parties w (submit end block red) none = absurd none
event-ups parties w (deliver k) none = deliver-ups parties w (slice_get w.sent k)
event-ups parties w (clock now) none = by_test (nat_lt now w.now)
  where
    by_test : (b : Bool)
        → flat_map ups_of (map told_of (if b then [] else
        record { end = first_end; effects = (tick_step parties.0 w.engines.0 now).effects }
        ∷ record { end = second_end; effects = (tick_step parties.1 w.engines.1 now).effects }
        ∷ [])) ≡ []
    by_test true = refl
    by_test false = refl

done-ups : (parties : Party × Party) (w : World) (events : List Event)
    → AllByRecursion NoSubmit events
    → ups_in (done_in parties w events) ≡ map as_told (hand_ups parties w events)
unfolding done_in hand_ups
done-ups parties w [] none = refl
done-ups parties w (event ∷ events) none =
    rw (
      event-ups parties w event none.0,
      done-ups parties (happens parties w event) events none.1,
    )
    (sym (map-append as_told (hand_ups_at parties w event)
    (hand_ups parties (happens parties w event) events)))

-- ---- a run, and more of it

hand_ups-append : (parties : Party × Party) (w : World) (xs ys : List Event)
    → hand_ups parties w (xs ++ ys) ≡ hand_ups parties w xs ++ hand_ups parties (run parties w xs) ys
unfolding hand_ups
hand_ups-append parties w [] ys = refl
hand_ups-append parties w (x ∷ xs) ys =
    ap (λ rest. hand_ups_at parties w x ++ rest)
    (hand_ups-append parties (happens parties w x) xs ys)
    ∙ sym (append_assoc (hand_ups_at parties w x) (hand_ups parties (happens parties w x) xs)
    (hand_ups parties (run parties (happens parties w x) xs) ys))

submissions-append : (parties : Party × Party) (w : World) (xs ys : List Event)
    → submissions parties w (xs ++ ys)
    ≡ submissions parties w xs ++ submissions parties (run parties w xs) ys
unfolding submissions
submissions-append parties w [] ys = refl
submissions-append parties w (x ∷ xs) ys =
    ap (λ rest. submissions_at parties w x ++ rest)
    (submissions-append parties (happens parties w x) xs ys)
    ∙ sym (append_assoc (submissions_at parties w x) (submissions parties (happens parties w x) xs)
    (submissions parties (run parties (happens parties w x) xs) ys))

-- ---- a drain

pub made-fronts : (v : WorldValue) (events made : List Event) → ShowsRun v events
    → AllByRecursion NoSubmit made
    → HandsUpFrontsIn v events (done_in (parties_of v) (link_after v events) made)
made-fronts v events made shows none = record {
  handed = hand_ups (parties_of v) (link_after v events) made;
  told = done-ups (parties_of v) (link_after v events) made none;
  fronts = all-right (IsFront (parties_of v) (submissions (parties_of v) (starts_world (parties_of v)) events))
      (hand_ups (parties_of v) (starts_world (parties_of v)) events)
      (hand_ups (parties_of v) (link_after v events) made) fronts;
  once = law.once;
}
  where
    law : HandsUpFronts (parties_of v)
        (submissions (parties_of v) (starts_world (parties_of v)) (events ++ made))
        (hand_ups (parties_of v) (starts_world (parties_of v)) events
        ++ hand_ups (parties_of v) (link_after v events) made)
    law = subst (λ us. HandsUpFronts (parties_of v)
        (submissions (parties_of v) (starts_world (parties_of v)) (events ++ made)) us)
        (hand_ups-append (parties_of v) (starts_world (parties_of v)) events made)
        (red_parts_are_fronts (parties_of v) (events ++ made) shows.peers)

    same : submissions (parties_of v) (starts_world (parties_of v)) (events ++ made)
        ≡ submissions (parties_of v) (starts_world (parties_of v)) events
    same = submissions-append (parties_of v) (starts_world (parties_of v)) events made
        ∙ (ap (λ more. submissions (parties_of v) (starts_world (parties_of v)) events ++ more)
        (no-submissions (parties_of v) (link_after v events) made none)
        ∙ append-nil (submissions (parties_of v) (starts_world (parties_of v)) events))

    fronts : AllByRecursion
        (IsFront (parties_of v) (submissions (parties_of v) (starts_world (parties_of v)) events))
        (hand_ups (parties_of v) (starts_world (parties_of v)) events
        ++ hand_ups (parties_of v) (link_after v events) made)
    fronts = subst (λ s. AllByRecursion (IsFront (parties_of v) s)
        (hand_ups (parties_of v) (starts_world (parties_of v)) events
        ++ hand_ups (parties_of v) (link_after v events) made)) same law.fronts

pub clean-fronts : (v : WorldValue) (events made : List Event) (c : ℕ) → ShowsRun v events
    → AreClean (parties_of v) (link_after v events) c made
    → HandsUpFrontsIn v events (done_in (parties_of v) (link_after v events) made)
clean-fronts v events made c shows clean = made-fronts v events made shows
    (clean-none (parties_of v) (link_after v events) c made clean)

pub drain-fronts : (old new : WorldValue) (drained : Drained) → Drains old new (Ok drained)
    → DrainHandsUpFronts old drained.effects
drain-fronts old new drained drains events shows = by_run (drains.run events shows)
  where
    by_run : DrainsAll old new drained events → HandsUpFrontsIn old events drained.effects
    by_run all = subst (HandsUpFrontsIn old events) (sym all.told)
        (clean-fronts old events (all.clean).events (length (link_after old events).sent) shows
        (all.clean).clean)
