-- What `world` answers to an input, by what its lines say.
use Rattle.std.proofs.Common.{◌≡◌, ℕ, Bool, true, false, ◌||◌, ◌≤◌, nat_lt, nat_le, List, [], ◌∷◌, ◌++◌, length, map, take, codes, Some, Result, Ok, Err, refl, sym, subst, ap, ◌∙◌, arith, inl, inr, if◌then◌else◌}
use Rattle.std.proofs.lemmas.List.{append-nil}
use Rattle.std.proofs.lemmas.Bool.Decides.{nat_tests}
use Rattle.edge_traits.specs.declared.status.Status.{Status}
use Rattle.edge_traits.specs.declared.status.Status.TheVariants as statuses
use Rattle.edge_traits.specs.Settled.{at_end, goes_on as going_on, Settled}
use Rattle.command_frame.specs.InputLines.{lines_of, ended_part, lines_within}
use Rattle.command_frame.specs.Lines.{Turn, passes, ends_run, turn_at, after_turn, lines_settle, lines_from}
use Rattle.command_frame.specs.Within.{within, or_limit}
use Rattle.command_frame.proofs.FrontLemmas.{from-end, from-limit}
use Rattle.replay_script.specs.declared.fault.LineFault.{LineFault}
use Rattle.path_laws.specs.Path.{PathSetup, Path, PathEvent, starts_path, path_run}
use Rattle.path_laws.specs.Log.{ups_in}
use Rattle.path_laws.specs.Laws.{ReceivedAsSent}
use Rattle.path_drain.specs.Effects.{notes_in}
use Rattle.path_drain.specs.Hopeful.{IsFitPath, IsPathReached, PathsAreFit}
use Rattle.path_drain.specs.Arrival.{WhatPassesArrives}
use Rattle.path_drain.specs.CarriedOut.{DecisionsAreCarriedOut, TakesBlocks}
use Rattle.path_drain.specs.Decided.{BegunAreDecided}
use Rattle.path_drain.specs.WholeRun.{WholeRunsComplete, run_path}
use Rattle.path_drain.specs.Drained.{DrainsAreMade, PathsAreTimed}
use Rattle.world_run.specs.World.{PathStart, WorldState, no_path, on_path, start_in, no_moment, start_turn, world_rules, settles}
use Rattle.world_run.specs.Headline.{DrainMakes, DrainCompletes, datagram_lines, datagram_texts, IsPastLines, PassesFirst, note_lines, join_lines, end_lines, up_text, note_text, join_text, joins_in, end_texts, PlaysScript, ClosesFirst, EndsLawfully, WorldsKeepHeadline}
use Rattle.world_run.proofs.StartLemmas.{starts_fit, starts_named, starts_takes, starts_timed}
use Rattle.world_run.proofs.PlayLemmas.{Plays, EndsLines, plays_from, past-lines, within-lines}
use Rattle.node_run.specs.TextLines.{up_lines}
use Rattle.node_run.proofs.TextLineLemmas.{alone}
use Rattle.world_run.proofs.LineLemmas.{HasLines, nothing, and_then, sent_in, told_in, told_if, both-have, events-have, drained-have, closing-has, sents-append, ups-append, joins-append, notes-append}
use Rattle.world_run.proofs.JoinerLemmas.{all_joined}
use Rattle.world_run.proofs.SendLemmas.{all_send, is_done, up_octets}

-- what some lines settle from the first on
data Settles (longer : Bool) (lines : List (List ℕ)) (settled : Settled) : Type 0 where
  on_a_path : (ending : Status) → settled.ends ≡ Some ending → PlaysScript longer lines settled.text ending → Settles longer lines settled
  on_none : (ending : Status) → settled.ends ≡ Some ending → ClosesFirst longer ending lines settled.text → Settles longer lines settled

-- what is proved of a path, and of drains of it
record Laws : Type 0 where
  received : ReceivedAsSent
  fit : PathsAreFit
  timed : PathsAreTimed
  made : DrainsAreMade
  carried_out : DecisionsAreCarriedOut
  decided : BegunAreDecided
  complete : WholeRunsComplete
  arrives : WhatPassesArrives

-- ---- a path is set up

module _ (longer : Bool) (s : PathSetup) (w : Path) (n : ℕ) (lines : List (List ℕ)) (settled : Settled) (plays : Plays longer s w n lines settled) where
  all-have : HasLines settled.text (and_then (told_in s w plays.events)
      (and_then (told_if plays.drains s (path_run s w plays.events) plays.made) nothing))
  all-have =
      rw plays.written
      (both-have _ _ _ _ (events-have s w plays.events)
      (both-have _ _ _ _ (drained-have plays.drains s (path_run s w plays.events) plays.made plays.drain)
      (closing-has longer s (path_run s w plays.events) plays.ending plays.drains _ plays.left plays.closing plays.closes)))

  sents-are : w.sent ≡ [] → datagram_lines settled.text ≡ datagram_texts 0 (path_run s w (plays.events ++ plays.made)).sent
  sents-are none =
      alone (codes "sent ") settled.text _ all-have.sents
      ∙ (ap (λ ls. datagram_texts (length w.sent) (sent_in s w plays.events) ++ ls) (append-nil _) ∙ sents-append s w plays.events plays.made none)

  ups-are : up_lines settled.text ≡ map up_text (ups_in s w (plays.events ++ plays.made))
  ups-are =
      alone (codes "up ") settled.text _ all-have.ups
      ∙ (ap (λ ls. map up_text (ups_in s w plays.events) ++ ls) (append-nil _) ∙ ups-append s w plays.events plays.made)

  joins-are : join_lines settled.text ≡ map join_text (joins_in s w (plays.events ++ plays.made))
  joins-are =
      alone (codes "join ") settled.text _ all-have.joins
      ∙ (ap (λ ls. map join_text (joins_in s w plays.events) ++ ls) (append-nil _) ∙ joins-append s w plays.events plays.made)

  notes-are : note_lines settled.text ≡ map note_text (notes_in s w (plays.events ++ plays.made))
  notes-are =
      alone (codes "note ") settled.text _ all-have.notes
      ∙ (ap (λ ls. map note_text (notes_in s w plays.events) ++ ls) (append-nil _) ∙ notes-append s w plays.events plays.made)

  end-is : end_lines settled.text ≡ end_texts plays.drains (length plays.made)
  end-is = alone (codes "end ") settled.text _ all-have.ends ∙ append-nil (end_texts plays.drains (length plays.made))

module _ (longer : Bool) (laws : Laws) where
  completes : (drains : Bool) (s : PathSetup) (start : ℕ) (events made : List PathEvent) → IsFitPath s → TakesBlocks s
      → DrainMakes drains s (run_path s start events) made → DrainCompletes drains s start events made
  completes true s start events made fit takes (clean, early, none) = λ hopeful room.
      let sessions = laws.complete s start events made fit.linked fit.alike hopeful room clean none in
      record { sessions = sessions; arrives = laws.arrives s start events made takes sessions }
  completes false s start events made fit takes makes = tt

  played : (first : List ℕ) (lines : List (List ℕ)) (start : PathStart) (settled : Settled) → start_in first ≡ Ok start → (PassesFirst first → ⊥)
      → Plays longer start.setup (starts_path start.setup start.now) 2 lines settled → Settles longer (first ∷ lines) settled
  played first lines start settled said within plays =
      let fit = starts_fit first start said laws.fit in
      on_a_path plays.ending plays.ends (record {
        start = start;
        events = plays.events;
        drains = plays.drains;
        left = plays.left;
        says = record {
          first = first;
          later = plays.later;
          lines_are = ap (λ ls. first ∷ ls) plays.lines_are;
          sets_up = said;
          says = plays.said;
        };
        made = plays.made;
        drain = plays.drain;
        closing = plays.closing;
        closes = plays.closes;
        first_within = within;
        none_before = plays.none_before;
        written = plays.written;
        sents = sents-are longer start.setup (starts_path start.setup start.now) 2 lines settled plays refl;
        ups = ups-are longer start.setup (starts_path start.setup start.now) 2 lines settled plays;
        notes = notes-are longer start.setup (starts_path start.setup start.now) 2 lines settled plays;
        joins = joins-are longer start.setup (starts_path start.setup start.now) 2 lines settled plays;
        joined = all_joined start.setup start.now (plays.events ++ plays.made);
        end = end-is longer start.setup (starts_path start.setup start.now) 2 lines settled plays;
        hands_on = λ earlier later is. laws.received start.setup start.now earlier fit.linked;
        carried_out = λ face up among at.
            is_done start.setup (starts_path start.setup start.now) (plays.events ++ plays.made) face up (starts_named first start said)
            (up_octets start.setup start.now (plays.events ++ plays.made) face up laws.decided
            (laws.received start.setup start.now (plays.events ++ plays.made) fit.linked)
            (all_send plays.later plays.events plays.made plays.drains start.setup
            (run_path start.setup start.now plays.events) plays.said plays.drain) among at)
            (laws.carried_out start.setup (starts_path start.setup start.now) (plays.events ++ plays.made) face up
            (starts_takes first start said) among at);
        decided = laws.decided start.setup (starts_path start.setup start.now) (plays.events ++ plays.made);
        completes = completes plays.drains start.setup start.now plays.events plays.made fit
            (starts_takes first start said) plays.drain;
      })

-- ---- from the first line on

limited : (longer : Bool) (first : List ℕ) (lines : List (List ℕ)) → PassesFirst first
    → Settles longer (first ∷ lines) (record { text = []; ends = Some statuses.Limit })
limited longer first lines past = on_none statuses.Limit refl (past, refl)

within-most : (a b : ℕ) → nat_le a b ≡ true → a ≤ b
within-most a b is = grind (arith, nat_tests, is)

not-within : (a b : ℕ) → nat_le a b ≡ false → a ≤ b → ⊥
not-within a b is low = grind (arith, nat_tests, is, low)

-- the moment at which the clock of a path begins, where a line sets one up
abbrev now-of : Result PathStart LineFault → ℕ
now-of (Ok start) = start.now
now-of (Err fault) = 0

-- a line that sets up a path passes no limit
first-within : (first : List ℕ) (start : PathStart) → start_in first ≡ Ok start → (IsPastLines 1 first → ⊥)
    → nat_le no_moment start.now ≡ false → PassesFirst first → ⊥
first-within first start said within early (inl past) = within past
first-within first start said within early (inr (other, reads, late)) =
    not-within no_moment start.now early (subst (λ (n : ℕ). no_moment ≤ n) (ap now-of (sym reads ∙ said)) late)

-- nothing happened yet
reached-first : (s : PathSetup) (now : ℕ) → IsPathReached s (starts_path s now)
unfolding path_run
reached-first s now = record { start = now; events = []; leads = refl }

module _ (longer : Bool) (laws : Laws) (ending : WorldState → Settled) (last : EndsLines longer ending) where
  module _ (first : List ℕ) (lines : List (List ℕ)) (inside : IsPastLines 1 first → ⊥) where
    started : (start : PathStart) → start_in first ≡ Ok start
        → Settles longer (first ∷ lines) (after_turn (start_turn 1 (Ok start)) (λ now. lines_settle world_rules 2 now lines ending))
    started start said = by_late (nat_le no_moment start.now) refl
      where
        turn_by : Bool → Turn WorldState
        turn_by t = if t then ends_run [] statuses.Limit else passes [] (on_path start.setup (starts_path start.setup start.now))

        by_late : (t : Bool) → nat_le no_moment start.now ≡ t → Settles longer (first ∷ lines)
            (after_turn (turn_by t) (λ now. lines_settle world_rules 2 now lines ending))
        by_late true late = limited longer first lines (inr (start, said, within-most no_moment start.now late))
        by_late false early =
            played longer laws first lines start _ said (first-within first start said inside early)
            (plays_from laws.made longer ending last start.setup (starts_path start.setup start.now) 2 lines
            (starts_timed first start said laws.timed) (reached-first start.setup start.now))

    first_turned : (said : Result PathStart LineFault) → start_in first ≡ said
        → Settles longer (first ∷ lines) (after_turn (start_turn 1 said) (λ now. lines_settle world_rules 2 now lines ending))
    first_turned (Ok start) said = started start said
    first_turned (Err fault) said = on_none statuses.Refused refl (inside, (fault, said, refl))

  module _ (first : List ℕ) (lines : List (List ℕ)) where
    first_answered : Settles longer (first ∷ lines) (lines_settle world_rules 1 no_path (first ∷ lines) ending)
    unfolding lines_settle turn_at
    first_answered = by_past (nat_lt world_rules.lines 1 || nat_lt world_rules.octets (length first)) refl
      where
        turn_by : Bool → Turn WorldState
        turn_by t = if t then ends_run [] statuses.Limit else start_turn 1 (start_in first)

        by_past : (t : Bool) → (nat_lt world_rules.lines 1 || nat_lt world_rules.octets (length first)) ≡ t
            → Settles longer (first ∷ lines) (after_turn (turn_by t) (λ now. lines_settle world_rules 2 now lines ending))
        by_past true past = limited longer first lines (inl (past-lines 1 first past))
        by_past false inside = first_turned first lines (within-lines 1 first inside) (start_in first) refl

  all_settled : (lines : List (List ℕ)) → Settles longer [] (ending no_path) → Settles longer lines (lines_settle world_rules 1 no_path lines ending)
  unfolding lines_settle
  all_settled [] none = none
  all_settled (first ∷ lines) none = first_answered first lines

-- ---- an input

-- a longer input than may be ends the run after its last whole line
abbrev past_end : WorldState → Settled
past_end now = record { text = []; ends = Some statuses.Limit }

past-ends : EndsLines true past_end
past-ends = record { last = statuses.Limit; none_left = λ s w over n. (refl, refl); on = λ s w. refl; after = refl }

input-ends : EndsLines false world_rules.finish
input-ends = record { last = statuses.Done; none_left = λ s w over n. (refl, refl, refl); on = λ s w. refl; after = refl }

-- what `world` answers to an input
kept : (most : ℕ) (input : List ℕ) → Settles (nat_lt most (length input)) (lines_within most input) (within most settles at_end input) → EndsLawfully most input
kept most input (on_a_path ending ends plays) = record { ending = ending; ends = ends; law = inl plays }
kept most input (on_none ending ends closes) = record { ending = ending; ends = ends; law = inr closes }

pub keep_headline : ReceivedAsSent → PathsAreFit → PathsAreTimed → DrainsAreMade → DecisionsAreCarriedOut → BegunAreDecided
    → WholeRunsComplete → WhatPassesArrives → WorldsKeepHeadline
unfolding within lines_within
keep_headline received fit timed made carried_out decided complete arrives most input = kept most input (by_test (nat_lt most (length input)))
  where
    laws : Laws
    laws = record { received = received; fit = fit; timed = timed; made = made; carried_out = carried_out; decided = decided; complete = complete; arrives = arrives }

    by_test : (t : Bool) → Settles t (if t then lines_of (ended_part (take most input)) else lines_of input)
        (if t then or_limit (lines_from world_rules 1 no_path going_on (take most input)) else lines_from world_rules 1 no_path at_end input)
    by_test true =
        rw (from-limit world_rules 1 no_path (take most input))
        (all_settled true laws past_end past-ends (lines_of (ended_part (take most input))) (on_none statuses.Limit refl (refl, refl)))
    by_test false =
        rw (from-end world_rules 1 no_path input)
        (all_settled false laws world_rules.finish input-ends (lines_of input) (on_none statuses.Refused refl (refl, refl)))
