-- What is submitted on a link is what lines send, and a drain submits nothing.

use Rattle.std.proofs.Common.{◌≡◌, ℕ, Bool, true, false, nat_lt, nat_le, List, [], ◌∷◌, ◌++◌, length, Option, None, Some, refl, sym, ap, ◌∙◌, inl, inr, subst, append_assoc, if◌then◌else◌}
use Rattle.std.proofs.lemmas.List.{map-append}
use Rattle.std.specs.List.{AllByRecursion}
use Rattle.std.specs.Option.{option_map}
use Rattle.ltp_session.specs.Engine.{Party, Reply}
use Rattle.ltp_session.specs.World.{Event, World, clock, deliver, happens, run, starts_world, submit, submit_reply}
use Rattle.ltp_laws.specs.Log.{Submission, submission_of, submissions, submissions_at}
use Rattle.ltp_laws.proofs.ListLemmas.{all-append}
use Rattle.ltp_drain.specs.Clean.{AreClean, clean_event, link_deadline, passed_after}
use Rattle.ltp_picks.specs.Picks.{AreNext, Crossing, Pick, Turn as PickTurn, after_pick, after_picks, after_turn as after_picked, as_turns, crosses_at, events_of, is_old, old_copy, oldest_of, pick_turn, picked_turns}
use Rattle.ltp_picks.proofs.CrossingSteps.{IsNewTurn, next-turn, oldest-turn, sets_to, takes_new}
use Rattle.ltp_world.specs.Ends.{link_end}
use Rattle.contact_plan.specs.Windows.{elapsed, is_open}
use Rattle.replay_script.specs.declared.link.LinkEvent.{LinkEvent}
use Rattle.replay_script.specs.declared.link.LinkEvent.TheVariants as events
use Rattle.link_run.specs.Law.{DrainMakes, IsSent, made_by, makes, moment_after, script_events}
use Rattle.link_run.specs.Link.{LinkSetup, end_named}
use Rattle.link_run.specs.Picks.{said_picks}

abbrev pub AreSent : List LinkEvent → List Submission → Type 0
AreSent said all = AllByRecursion (IsSent said) all

sent-more : (e : LinkEvent) (said : List LinkEvent) (all : List Submission) → AreSent said all → AreSent (e ∷ said) all
sent-more e said [] sent = tt
sent-more e said (p ∷ ps) sent = ((sent.0.0, inr sent.0.1, sent.0.2, sent.0.3), sent-more e said ps sent.1)

pub submissions-append : (parties : Party × Party) (w : World) (xs ys : List Event)
    → submissions parties w (xs ++ ys) ≡ submissions parties w xs ++ submissions parties (run parties w xs) ys
unfolding submissions
submissions-append parties w [] ys = refl
submissions-append parties w (x ∷ xs) ys =
    ap (λ rest. submissions_at parties w x ++ rest) (submissions-append parties (happens parties w x) xs ys)
    ∙ sym (append_assoc (submissions_at parties w x) (submissions parties (happens parties w x) xs) (submissions parties (run parties (happens parties w x) xs) ys))

line-sent : (s : LinkSetup) (w : World) (moment : ℕ) (e : LinkEvent) (said : List LinkEvent) → AreSent (e ∷ said) (submissions s.parties w (makes s moment e))
unfolding submissions
line-sent s w moment (events.Send first body) said = by_open (is_open s.plan moment)
  where
    by_reply : (reply : Option Reply) (n : ℕ) → AreSent (events.Send first body ∷ said) (submission_of (link_end (end_named first)) n body (length body) reply ++ [])
    by_reply None n = tt
    by_reply (Some reply) n = ((first, inl refl, refl, refl), tt)

    by_red : (b : Bool) (n : ℕ) (reply : Option Reply) → AreSent (events.Send first body ∷ said) ((if b then submission_of (link_end (end_named first)) n body (length body) reply else []) ++ [])
    by_red true n reply = by_reply reply n
    by_red false n reply = tt

    by_open : (b : Bool) → AreSent (events.Send first body ∷ said) (submissions s.parties w (if b then submit (link_end (end_named first)) body (length body) ∷ [] else []))
    by_open true = by_red (nat_le (length body) (length body)) _ (submit_reply s.parties w (link_end (end_named first)) body (length body))
    by_open false = tt
line-sent s w moment (events.Deliver k) said = by_open (is_open s.plan moment)
  where
    by_open : (b : Bool) → AreSent (events.Deliver k ∷ said) (submissions s.parties w (if b then deliver k ∷ [] else []))
    by_open true = tt
    by_open false = tt
line-sent s w moment (events.Clock now) said = by_back (nat_lt now moment)
  where
    by_back : (b : Bool) → AreSent (events.Clock now ∷ said) (submissions s.parties w (if b then [] else clock (elapsed s.plan now) ∷ []))
    by_back true = tt
    by_back false = tt
line-sent s w moment (events.Link segment timeout limit cap start) said = tt
line-sent s w moment (events.Window from to) said = tt
line-sent s w moment events.Drain said = tt
line-sent s w moment (events.DrainBy picks) said = tt

all-sent : (s : LinkSetup) (w : World) (moment : ℕ) (said : List LinkEvent) → AreSent said (submissions s.parties w (made_by s moment said))
unfolding made_by submissions
all-sent s w moment [] = tt
all-sent s w moment (e ∷ said) =
    subst (AreSent (e ∷ said)) (sym (submissions-append s.parties w (makes s moment e) (made_by s (moment_after moment e) said)))
    (all-append (IsSent (e ∷ said)) (submissions s.parties w (makes s moment e)) _ (line-sent s w moment e said)
    (sent-more e said _ (all-sent s (run s.parties w (makes s moment e)) (moment_after moment e) said)))

-- of the clock that is set first nothing is submitted
pub first-sent : (s : LinkSetup) (now : ℕ) (said : List LinkEvent) → AreSent said (submissions s.parties (starts_world s.parties) (script_events s now said))
unfolding submissions
first-sent s now said = all-sent s (happens s.parties (starts_world s.parties) (clock (elapsed s.plan now))) now said

-- ---- a drain submits nothing

abbrev Quiet : Event → Type 0
Quiet (submit end block red) = ⊥
Quiet (deliver k) = Unit {0}
Quiet (clock now) = Unit {0}

pub quiet-none : (parties : Party × Party) (w : World) (made : List Event) → AllByRecursion Quiet made → submissions parties w made ≡ []
unfolding submissions
quiet-none parties w [] all = refl
quiet-none parties w (submit end block red ∷ made) all = absurd all.0
quiet-none parties w (deliver k ∷ made) all = quiet-none parties (happens parties w (deliver k)) made all.1
quiet-none parties w (clock now ∷ made) all = quiet-none parties (happens parties w (clock now)) made all.1

clean-quiet : (w : World) (c : ℕ) (event : Event) → clean_event w c ≡ Some event → Quiet event
clean-quiet w c event is = by_test (nat_lt c (length w.sent)) (link_deadline w) is
  where
    by_test : (b : Bool) (due : Option ℕ) → (if b then Some (deliver c) else option_map clock due) ≡ Some event → Quiet event
    by_test true due is = let same : deliver c ≡ event = cc in subst Quiet same tt
    by_test false None is = absurd (cc)
    by_test false (Some now) is = let same : clock now ≡ event = cc in subst Quiet same tt

all-clean : (parties : Party × Party) (w : World) (c : ℕ) (made : List Event) → AreClean parties w c made → AllByRecursion Quiet made
all-clean parties w c [] clean = tt
all-clean parties w c (x ∷ xs) clean = (clean-quiet w c x clean.0, all-clean parties (happens parties w x) (passed_after c x) xs clean.1)

new-quiet : (d : Crossing) (t : PickTurn) → IsNewTurn d t → Quiet t.event
new-quiet d t (takes_new from takes) = subst Quiet (sym takes.event) tt
new-quiet d t (sets_to now none due is) = subst (λ (x : PickTurn). Quiet x.event) is tt

next-quiet : (parties : Party × Party) (d : Crossing) (turns : List PickTurn) → AreNext parties d turns → AllByRecursion Quiet (events_of turns)
next-quiet parties d [] next = tt
next-quiet parties d (t ∷ ts) next = (new-quiet d t (next-turn d t next.0), next-quiet parties (after_picked parties d t) ts next.1)

pick-quiet : (parties : Party × Party) (d : Crossing) (picks : List Pick) → AllByRecursion Quiet (events_of (picked_turns parties d picks))
unfolding picked_turns
pick-quiet parties d [] = tt
pick-quiet parties d (oldest_of from ∷ picks) =
    by_turn (pick_turn d (oldest_of from)) refl (pick-quiet parties (after_pick parties d (pick_turn d (oldest_of from))) picks)
  where
    by_turn : (o : Option PickTurn) → pick_turn d (oldest_of from) ≡ o
        → AllByRecursion Quiet (events_of (picked_turns parties (after_pick parties d o) picks))
        → AllByRecursion Quiet (events_of (as_turns o ++ picked_turns parties (after_pick parties d o) picks))
    by_turn None is rest = rest
    by_turn (Some t) is rest = (new-quiet d t (oldest-turn d from t is), rest)
pick-quiet parties d (old_copy k ∷ picks) = by_test (is_old d k) (pick-quiet parties (after_pick parties d (pick_turn d (old_copy k))) picks)
  where
    by_test : (b : Bool)
        → AllByRecursion Quiet (events_of (picked_turns parties (after_pick parties d (if b then Some (record { event = deliver k; left = d.new }) else None)) picks))
        → AllByRecursion Quiet (events_of (as_turns (if b then Some (record { event = deliver k; left = d.new }) else None)
        ++ picked_turns parties (after_pick parties d (if b then Some (record { event = deliver k; left = d.new }) else None)) picks))
    by_test true rest = (tt, rest)
    by_test false rest = rest

pub drain-quiet : (s : LinkSetup) (w : World) (drain : Option LinkEvent) (made : List Event) → DrainMakes s w drain made → AllByRecursion Quiet made
drain-quiet s w None made is = subst (AllByRecursion Quiet) (sym is) tt
drain-quiet s w (Some events.Drain) made ends = all-clean s.parties w (length w.sent) made ends.clean
drain-quiet s w (Some (events.DrainBy words)) made drain =
    subst (AllByRecursion Quiet)
    (sym (drain.events ∙ map-append (λ (t : PickTurn). t.event) (picked_turns s.parties (crosses_at w) (said_picks words)) drain.run.rest))
    (all-append Quiet (events_of (picked_turns s.parties (crosses_at w) (said_picks words))) (events_of drain.run.rest)
    (pick-quiet s.parties (crosses_at w) (said_picks words))
    (next-quiet s.parties (after_picks s.parties (crosses_at w) (said_picks words)) drain.run.rest drain.run.goes_on))
drain-quiet s w (Some (events.Link segment timeout limit cap start)) made none = absurd none
drain-quiet s w (Some (events.Window from to)) made none = absurd none
drain-quiet s w (Some (events.Send first body)) made none = absurd none
drain-quiet s w (Some (events.Deliver k)) made none = absurd none
drain-quiet s w (Some (events.Clock now)) made none = absurd none
