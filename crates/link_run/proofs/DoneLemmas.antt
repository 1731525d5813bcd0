-- What a refused event does, and what is told of a drain.

use Rattle.std.proofs.Common.{◌≡◌, ℕ, Bool, true, false, nat_le, List, [], ◌∷◌, ◌++◌, length, codes, Option, None, Some, Result, Ok, Err, refl, sym, ap, ◌∙◌, arith, if◌then◌else◌}
use Rattle.std.proofs.lemmas.Bool.Decides.{nat_tests}
use Rattle.std.proofs.lemmas.List.{append-nil, length-append, length-map, map-append}
use Rattle.std.specs.Option.{option_map}
use Rattle.std.specs.Fmt.{decimal}
use Rattle.command_frame.specs.InputLines.{ended_part}
use Rattle.ltp_session.specs.Engine.{Party, Reply, SubmitFault, submit_step, submits}
use Rattle.ltp_session.specs.World.{End as LinkEnd}
use Rattle.ltp_session.specs.World.{Event, World, at_end, clock, happens, replies, run, submit, submitted as submitted_world, unless_refused}
use Rattle.ltp_drain.specs.Clean.{link_deadline}
use Rattle.ltp_drain.specs.Effects.{effects_at}
use Rattle.ltp_drain.specs.Hopeful.{IsReached}
use Rattle.ltp_drain.specs.Left.{AreTimed}
use Rattle.ltp_picks.specs.Picks.{Crossing, Pick, Placed, Turn as PickTurn, after_pick, after_picks, after_turns, as_turns, crosses_at, events_of, next_turn, pick_turn, picked_turns}
use Rattle.ltp_picks.specs.PickedRuns.{run_events}
use Rattle.ltp_world.specs.Drain.{done_in}
use Rattle.ltp_world.specs.Steps.{submission_at}
use Rattle.ltp_world.proofs.DrainLemmas.{run-append}
use Rattle.ltp_world.proofs.RestLemmas.{turns-world}
use Rattle.node_run.proofs.PlainLemmas.{decimal-plain}
use Rattle.link_run.specs.Law.{end_text, stop_text, IsPickedDrain}
use Rattle.link_run.specs.Link.{LinkSetup, ats_of, no_moment}
use Rattle.link_run.specs.Picks.{EndsTurns, turns_after}
use Rattle.link_run.specs.WrittenLines.{at_line, end_line, steps_text, stop_line, timed_text}
use Rattle.link_run.proofs.PicksMade.{turns-made}
use Rattle.link_run.proofs.PickedLemmas.{goes-at}
use Rattle.link_run.proofs.TellLemmas.{end-line-has, stop-line-has, with_ends, HasLines, Told, and_then, both-have, event-has, none-has, nothing, other-line, told-more, told-none, told_in}
use Rattle.link_run.proofs.TellLemmas.{told-one}

-- ---- an event that is refused does nothing

pub refused-stays : (parties : Party × Party) (w : World) (end : LinkEnd) (block : List ℕ) (fault : SubmitFault)
    → submission_at parties w end block (length block) ≡ Err fault
    → (happens parties w (submit end block (length block)) ≡ w) × (effects_at parties w (submit end block (length block)) ≡ [])
unfolding submitted_world
refused-stays parties w end block fault is =
    let all : nat_le (length block) (length block) ≡ true = grind (arith, nat_tests) in
    (rw all (by_reply (submits (at_end parties end) (at_end w.engines end) block (length block) w.now) is), rw (all, is) refl)
  where
    by_reply : (r : Result Reply SubmitFault) → submit_step (at_end parties end) (at_end w.engines end) r ≡ Err fault
        → replies w end (record { originator = (at_end parties end).own; number = (at_end w.engines end).next }) (unless_refused r) ≡ w
    by_reply (Ok reply) is = absurd (cc)
    by_reply (Err fault) is = refl

pub quiet-told : (parties : Party × Party) (w : World) (end : LinkEnd) (block : List ℕ) → effects_at parties w (submit end block (length block)) ≡ []
    → told_in parties w (submit end block (length block) ∷ []) ≡ nothing
quiet-told parties w end block is = told-one parties w (submit end block (length block)) ∙ rw is refl

-- ---- the texts of a drain

ending-plain : ended_part (codes "end") ≡ []
unfolding ended_part
ending-plain = refl

stopping-plain : ended_part (codes "stop") ≡ []
unfolding ended_part
stopping-plain = refl

moving-plain : ended_part (codes "at") ≡ []
unfolding ended_part
moving-plain = refl

pub end-has : (n : ℕ) → HasLines (end_line n) (with_ends nothing (end_text n ∷ []) [])
end-has n = end-line-has (codes "end" ∷ decimal n ∷ []) (ending-plain, (decimal-plain n, tt)) refl refl refl refl

pub stop-has : (n : ℕ) → HasLines (stop_line n) (with_ends nothing [] (stop_text n ∷ []))
stop-has n = stop-line-has (codes "stop" ∷ decimal n ∷ []) (stopping-plain, (decimal-plain n, tt)) refl refl refl refl

-- after what a drain did
pub then-ends : (a : Told) (ends stops : List (List ℕ)) → a.ends ≡ [] → a.stops ≡ [] → and_then a (with_ends nothing ends stops) ≡ with_ends a ends stops
then-ends a ends stops none never = rw (append-nil a.ups, append-nil a.notes, none, never) refl

pub moved-has : (windows same : Bool) (now : ℕ) → HasLines (if windows then (if same then [] else at_line now) else []) nothing
moved-has true true now = none-has
moved-has true false now = other-line (codes "at" ∷ decimal now ∷ []) (moving-plain, (decimal-plain now, tt)) refl refl refl refl
moved-has false same now = none-has

pub timed-has : (s : LinkSetup) (w : World) (made : List Event) (windows : Bool) (moment k : ℕ)
    → HasLines (timed_text windows moment k (ats_of s w made)) (told_in s.parties w made)
unfolding ats_of timed_text
timed-has s w [] windows moment k = rw (told-none s.parties w) none-has
timed-has s w (x ∷ xs) windows moment k =
    rw (told-more s.parties w x xs)
    (both-have _ _ _ _
    (both-have _ _ nothing _ (moved-has windows _ _) (event-has s.parties w x k))
    (timed-has s (happens s.parties w x) xs windows _ _))

pub steps-has : (parties : Party × Party) (w : World) (made : List Event) (k : ℕ) → HasLines (steps_text k (done_in parties w made)) (told_in parties w made)
unfolding done_in steps_text
steps-has parties w [] k = rw (told-none parties w) none-has
steps-has parties w (x ∷ xs) k =
    rw (told-more parties w x xs) (both-have _ _ _ _ (event-has parties w x k) (steps-has parties (happens parties w x) xs _))

-- ---- the runs of a drain with picks

picks-world : (parties : Party × Party) (d : Crossing) (picks : List Pick) → (after_picks parties d picks).world ≡ run parties d.world (events_of (picked_turns parties d picks))
unfolding after_picks picked_turns
picks-world parties d [] = refl
picks-world parties d (pick ∷ picks) = by_turn (pick_turn d pick) (picks-world parties (after_pick parties d (pick_turn d pick)) picks)
  where
    by_turn : (o : Option PickTurn)
        → (after_picks parties (after_pick parties d o) picks).world
        ≡ run parties (after_pick parties d o).world (events_of (picked_turns parties (after_pick parties d o) picks))
        → (after_picks parties (after_pick parties d o) picks).world
        ≡ run parties d.world (events_of (as_turns o ++ picked_turns parties (after_pick parties d o) picks))
    by_turn None rest = rest
    by_turn (Some t) rest = rest

over-of : (w : World) (new : List Placed) → next_turn w new ≡ None → (new ≡ []) × (link_deadline w ≡ None)
over-of w [] none = (refl, by_due (link_deadline w) refl none)
  where
    by_due : (due : Option ℕ) → link_deadline w ≡ due → option_map {U = PickTurn} (λ now. record { event = clock now; left = [] }) due ≡ None → link_deadline w ≡ None
    by_due None is none = is
    by_due (Some now) is none = absurd (cc)
over-of w (e ∷ es) none = absurd (cc)

module _ (s : LinkSetup) (w : World) (picks : List Pick) (timed : AreTimed s.parties) (reached : IsReached s.parties w) where
  abbrev rest : List PickTurn
  rest = turns_after no_moment s.parties (after_picks s.parties (crosses_at w) picks)

  ends : EndsTurns no_moment s.parties (after_picks s.parties (crosses_at w) picks) (turns_after no_moment s.parties (after_picks s.parties (crosses_at w) picks))
  ends = turns-made no_moment s.parties (after_picks s.parties (crosses_at w) picks) timed (goes-at s.parties w picks reached)

  leads-to : (after_turns s.parties (after_picks s.parties (crosses_at w) picks) (turns_after no_moment s.parties (after_picks s.parties (crosses_at w) picks))).world
      ≡ run s.parties w (run_events s.parties w picks (turns_after no_moment s.parties (after_picks s.parties (crosses_at w) picks)))
  leads-to =
      turns-world s.parties (after_picks s.parties (crosses_at w) picks) rest
      ∙ (ap (λ (x : World). run s.parties x (events_of rest)) (picks-world s.parties (crosses_at w) picks)
      ∙ (sym (run-append s.parties w (events_of (picked_turns s.parties (crosses_at w) picks)) (events_of rest))
      ∙ ap (run s.parties w) (sym (map-append (λ (t : PickTurn). t.event) (picked_turns s.parties (crosses_at w) picks) rest))))

  pub picked-drain : next_turn (after_turns s.parties (after_picks s.parties (crosses_at w) picks) (turns_after no_moment s.parties (after_picks s.parties (crosses_at w) picks))).world
      (after_turns s.parties (after_picks s.parties (crosses_at w) picks) (turns_after no_moment s.parties (after_picks s.parties (crosses_at w) picks))).new ≡ None
      → IsPickedDrain s.parties w picks (run_events s.parties w picks (turns_after no_moment s.parties (after_picks s.parties (crosses_at w) picks)))
  picked-drain none =
      let over = over-of (after_turns s.parties (after_picks s.parties (crosses_at w) picks) rest).world (after_turns s.parties (after_picks s.parties (crosses_at w) picks) rest).new none in
      record {
        run = record {
          rest = turns_after no_moment s.parties (after_picks s.parties (crosses_at w) picks);
          goes_on = ends.next;
          count = sym (length-append (picked_turns s.parties (crosses_at w) picks) rest)
              ∙ sym (length-map (picked_turns s.parties (crosses_at w) picks ++ rest) (λ (t : PickTurn). t.event));
          over = record { none_new = over.0; no_timer = over.1 };
          leads = leads-to;
        };
        events = refl;
      }
