-- What `link` answers to an input, by what its lines say.

use Rattle.std.proofs.Common.{◌≡◌, ◌≢◌, ℕ, ◌≤◌, Bool, true, false, ◌||◌, nat_lt, nat_le, List, [], ◌∷◌, ◌++◌, length, map, take, codes, Some, Result, Ok, Err, refl, sym, ap, ◌∙◌, inl, inr, arith, subst, if◌then◌else◌}
use Rattle.std.proofs.lemmas.List.{append-nil}
use Rattle.std.specs.List.{flat_map}
use Rattle.edge_traits.specs.declared.status.Status.{Status}
use Rattle.edge_traits.specs.declared.status.Status.TheVariants as statuses
use Rattle.edge_traits.specs.Settled.{at_end, goes_on as going_on, Settled}
use Rattle.command_frame.specs.InputLines.{lines_of, ended_part, lines_within}
use Rattle.command_frame.specs.Lines.{passes, ends_run, turn_at, after_turn, lines_settle, lines_from}
use Rattle.command_frame.specs.Within.{within, or_limit}
use Rattle.command_frame.proofs.FrontLemmas.{from-end, from-limit}
use Rattle.ltp_segment.specs.Policy.{PolicyValue}
use Rattle.ltp_session.specs.Engine.{Party, tick_remarks, tick_step}
use Rattle.ltp_session.specs.World.{ArePeers, Event, clock, first_end, happens, second_end, starts_world}
use Rattle.ltp_laws.specs.Log.{submissions}
use Rattle.ltp_laws.proofs.LogLemmas.{red_parts_are_fronts}
use Rattle.ltp_drain.proofs.CompletionLemmas.{clean-completes, clean-few}
use Rattle.ltp_drain.proofs.DrainedLemmas.{none-left}
use Rattle.ltp_drain.specs.Hopeful.{AreAlike, IsReached}
use Rattle.ltp_drain.specs.Left.{AreTimed}
use Rattle.ltp_picks.proofs.CopyEnds.{copied-completes, copied-costs, copied-few}
use Rattle.ltp_picks.proofs.CrossingRuns.{crossing-completes, crossing-few}
use Rattle.contact_plan.specs.Windows.{elapsed}
use Rattle.replay_script.specs.declared.fault.LineFault.{LineFault}
use Rattle.replay_script.specs.declared.fault.LineFault.TheVariants as faults
use Rattle.replay_script.specs.declared.link.LinkEvent.{LinkEvent}
use Rattle.replay_script.specs.declared.link.LinkEvent.TheVariants as events
use Rattle.node_run.proofs.TextLineLemmas.{alone}
use Rattle.link_run.specs.Law.{TellsEnd, stop_lines_in, EndsLawfully, LinksKeepLaw, PlaysNothing, PlaysScript, link_by, made_by, note_text, notes_of, script_events, up_text}
use Rattle.link_run.specs.Link.{LinkStart, LinkState, first_said, link_parties, link_rules, link_setup, no_link, no_moment, planned, settles, start_in, start_said, start_turn}
use Rattle.link_run.specs.WrittenLines.{refusal_line}
use Rattle.link_run.proofs.SetupLemmas.{parties-are}
use Rattle.link_run.proofs.StartLemmas.{SoundLink, sound_said}
use Rattle.link_run.proofs.TellLemmas.{with_ends, HasLines, and_then, told_at, none-has, nothing, refusal-has, told-more, told_in}
use Rattle.link_run.proofs.PlansLemmas.{EndsLines, Plans, plans_from}
use Rattle.link_run.proofs.SentLemmas.{AreSent, drain-quiet, first-sent, quiet-none, submissions-append}
use Rattle.link_run.proofs.TimeLemmas.{Laws, completes}

-- ---- the first line sets up engines that fit each other

record FitParties (parties : Party × Party) : Type 0 where
  peers : ArePeers parties
  alike : AreAlike parties
  timed : AreTimed parties

fit : (policy : PolicyValue) → 2 ≤ policy.segment → 1 ≤ policy.timeout → 1 ≤ policy.cap → FitParties (link_parties policy)
fit policy segment timeout longest = record {
  peers = peers;
  alike = record {
    same_most = refl;
    most = omega arith;
    first_cuts = segment;
    second_cuts = segment;
    first_waits = (timeout, longest);
    second_waits = (timeout, longest);
    first_ample = record { sessions = omega arith; history = omega arith };
    second_ample = record { sessions = omega arith; history = omega arith };
  };
  timed = record {
    peers = peers;
    first_small = record { own = omega arith; first = omega arith; most = omega arith };
    second_small = record { own = omega arith; first = omega arith; most = omega arith };
    first_waits = (timeout, longest);
    second_waits = (timeout, longest);
  };
} where
  peers : ArePeers (link_parties policy)
  peers = record { differ = λ same. absurd (omega (arith, same)); first_knows = refl; second_knows = refl; first_cuts = omega (arith, segment); second_cuts = omega (arith, segment) }

fit-start : (line : List ℕ) (start : LinkStart) → start_in line ≡ Ok start → FitParties (link_parties start.policy)
unfolding start_in
fit-start line start is = by_said (first_said line) refl is
  where
    by_said : (said : Result LinkEvent LineFault) → first_said line ≡ said → start_said said ≡ Ok start → FitParties (link_parties start.policy)
    by_said (Ok (events.Link segment timeout limit cap moment)) said is =
        let sound : SoundLink segment timeout limit cap = sound_said segment timeout limit cap moment line said in
        let policy : PolicyValue = record { segment = segment; timeout = timeout; limit = limit; cap = cap } in
        let same : record { policy = record { segment = segment; timeout = timeout; limit = limit; cap = cap }; now = moment } ≡ start = cc in
        subst (λ (x : LinkStart). FitParties (link_parties x.policy)) same
        (fit (record { segment = segment; timeout = timeout; limit = limit; cap = cap })
        (let low = sound.segments.0 in omega (arith, low)) sound.timeouts.0
        (let low = sound.timeouts.0 in let high = sound.caps.0 in omega (arith, low, high)))
    by_said (Ok (events.Window from to)) said is = absurd (cc)
    by_said (Ok (events.Send first body)) said is = absurd (cc)
    by_said (Ok (events.Deliver k)) said is = absurd (cc)
    by_said (Ok (events.Clock now)) said is = absurd (cc)
    by_said (Ok events.Drain) said is = absurd (cc)
    by_said (Ok (events.DrainBy picks)) said is = absurd (cc)
    by_said (Err fault) said is = absurd (cc)

-- ---- a link is set up

-- what some lines settle from the first on
data Settles (lines : List (List ℕ)) (settled : Settled) : Type 0 where
  on_a_link : (ending : Status) → settled.ends ≡ Some ending → PlaysScript lines settled.text ending → Settles lines settled
  on_none : (ending : Status) → settled.ends ≡ Some ending → PlaysNothing settled.text ending → Settles lines settled

tells-nothing : (text : List ℕ) (ending : Status) → ending ≢ statuses.Done → HasLines text nothing → PlaysNothing text ending
tells-nothing text ending undone has = record {
  undone = undone;
  ups = alone (codes "up ") text [] has.ups;
  notes = alone (codes "note ") text [] has.notes;
  ends = alone (codes "end ") text [] has.ends;
  stops = alone (codes "stop ") text [] has.stops;
}

-- engines at their beginning do nothing when their clock is set
quiet-start : (parties : Party × Party) (now : ℕ) → told_at parties (starts_world parties) (clock now) ≡ nothing
unfolding tick_step tick_remarks
quiet-start parties now = by_test (nat_lt now (starts_world parties).now)
  where
    by_test : (b : Bool) → record {
      ups = map up_text [];
      notes = map note_text (flat_map notes_of (if b then [] else
          record { end = first_end; effects = (tick_step parties.0 (starts_world parties).engines.0 now).effects }
          ∷ record { end = second_end; effects = (tick_step parties.1 (starts_world parties).engines.1 now).effects } ∷ []));
      ends = [];
      stops = [];
    } ≡ nothing
    by_test true = refl
    by_test false = refl

told-clock : (parties : Party × Party) (now : ℕ) (made : List Event)
    → told_in parties (happens parties (starts_world parties) (clock now)) made ≡ told_in parties (starts_world parties) (clock now ∷ made)
told-clock parties now made =
    sym (told-more parties (starts_world parties) (clock now) made ∙ (ap (λ a. and_then a (told_in parties (happens parties (starts_world parties) (clock now)) made)) (quiet-start parties now) ∙ refl))

module _ (laws : Laws) where
  played : (first : List ℕ) (lines : List (List ℕ)) (start : LinkStart) (settled : Settled) → start_in first ≡ Ok start
      → Plans start [] lines settled → Settles (first ∷ lines) settled
  played first lines start settled is plans =
      on_a_link plans.plays.ending plans.plays.ends (record {
        start = start;
        windows = plans.more;
        said = plans.plays.said;
        drain = plans.plays.drain;
        left = plans.plays.left;
        says = record {
          first = first;
          given = plans.given;
          later = plans.plays.later;
          lines_are = ap (λ ls. first ∷ ls) (plans.lines_are ∙ ap (λ ls. plans.given ++ ls) plans.plays.lines_are);
          sets_up = is;
          gives = plans.gives;
          says = plans.plays.says;
          are_events = plans.plays.are_events;
        };
        all = plans.plays.all;
        made = plans.plays.made;
        drains = plans.plays.drains;
        ups = alone (codes "up ") settled.text _ has.ups;
        notes = alone (codes "note ") settled.text _ has.notes;
        end = subst (λ ls. TellsEnd (link_setup start plans.more) (link_by (link_setup start plans.more) (script_events (link_setup start plans.more) start.now plans.plays.said))
            plans.plays.drain plans.plays.made ls (stop_lines_in settled.text)) (sym (alone (codes "end ") settled.text plans.plays.ends_in has.ends))
            (subst (λ ls. TellsEnd (link_setup start plans.more) (link_by (link_setup start plans.more) (script_events (link_setup start plans.more) start.now plans.plays.said))
            plans.plays.drain plans.plays.made plans.plays.ends_in ls) (sym (alone (codes "stop ") settled.text plans.plays.stops_in has.stops)) plans.plays.tells);
        fronts = laws.fronts (link_setup start plans.more).parties (script_events (link_setup start plans.more) start.now plans.plays.said ++ plans.plays.made) fits.peers;
        sent = sent;
        completes = completes laws (link_setup start plans.more) _ fits.peers fits.alike reached plans.plays.drain plans.plays.made plans.plays.few plans.plays.drains;
      })
    where
      fits : FitParties (link_setup start plans.more).parties
      fits = subst FitParties (sym (parties-are start plans.more)) (fit-start first start is)

      reached : IsReached (link_setup start plans.more).parties (link_by (link_setup start plans.more) (script_events (link_setup start plans.more) start.now plans.plays.said))
      reached = record { events = script_events (link_setup start plans.more) start.now plans.plays.said; leads = refl }

      has : HasLines settled.text (with_ends (told_in (link_setup start plans.more).parties (starts_world (link_setup start plans.more).parties)
          (script_events (link_setup start plans.more) start.now plans.plays.said ++ plans.plays.made)) plans.plays.ends_in plans.plays.stops_in)
      has = subst (λ a. HasLines settled.text (with_ends a plans.plays.ends_in plans.plays.stops_in)) (told-clock (link_setup start plans.more).parties (elapsed (link_setup start plans.more).plan start.now) (made_by (link_setup start plans.more) start.now plans.plays.said ++ plans.plays.made)) plans.plays.has

      sent : AreSent plans.plays.said (submissions (link_setup start plans.more).parties (starts_world (link_setup start plans.more).parties)
          (script_events (link_setup start plans.more) start.now plans.plays.said ++ plans.plays.made))
      sent = subst (AreSent plans.plays.said)
          (sym (submissions-append (link_setup start plans.more).parties (starts_world (link_setup start plans.more).parties) (script_events (link_setup start plans.more) start.now plans.plays.said) plans.plays.made
          ∙ (ap (λ more. submissions (link_setup start plans.more).parties (starts_world (link_setup start plans.more).parties) (script_events (link_setup start plans.more) start.now plans.plays.said) ++ more)
          (quiet-none (link_setup start plans.more).parties _ plans.plays.made (drain-quiet (link_setup start plans.more) _ plans.plays.drain plans.plays.made plans.plays.drains))
          ∙ append-nil _)))
          (first-sent (link_setup start plans.more) start.now plans.plays.said)

-- ---- from the first line on

module _ (laws : Laws) (ending : LinkState → Settled) (last : EndsLines ending) where
  module _ (first : List ℕ) (lines : List (List ℕ)) where
    started : (start : LinkStart) → start_in first ≡ Ok start
        → Settles (first ∷ lines) (after_turn (start_turn 1 (Ok start)) (λ now. lines_settle link_rules 2 now lines ending))
    started start said = by_late (nat_le no_moment start.now)
      where
        by_late : (t : Bool) → Settles (first ∷ lines) (after_turn (if t then ends_run [] statuses.Limit else passes [] (planned start []))
            (λ now. lines_settle link_rules 2 now lines ending))
        by_late true = on_none statuses.Limit refl (tells-nothing [] statuses.Limit (λ done. absurd (cc)) none-has)
        by_late false = played laws first lines start _ said (plans_from ending last start (fit-start first start said).timed [] 2 lines)

    first_turned : (said : Result LinkStart LineFault) → start_in first ≡ said
        → Settles (first ∷ lines) (after_turn (start_turn 1 said) (λ now. lines_settle link_rules 2 now lines ending))
    first_turned (Ok start) said = started start said
    first_turned (Err fault) said = on_none statuses.Refused refl (tells-nothing (refusal_line 1 fault) statuses.Refused (λ done. absurd (cc)) (refusal-has 1 fault))

    first_answered : Settles (first ∷ lines) (lines_settle link_rules 1 no_link (first ∷ lines) ending)
    unfolding lines_settle turn_at
    first_answered = by_past (nat_lt link_rules.lines 1 || nat_lt link_rules.octets (length first))
      where
        by_past : (t : Bool) → Settles (first ∷ lines) (after_turn (if t then ends_run [] statuses.Limit else start_turn 1 (start_in first))
            (λ now. lines_settle link_rules 2 now lines ending))
        by_past true = on_none statuses.Limit refl (tells-nothing [] statuses.Limit (λ done. absurd (cc)) none-has)
        by_past false = first_turned (start_in first) refl

  all_settled : (lines : List (List ℕ)) → Settles [] (ending no_link) → Settles lines (lines_settle link_rules 1 no_link lines ending)
  unfolding lines_settle
  all_settled [] none = none
  all_settled (first ∷ lines) none = first_answered first lines

-- ---- an input

-- a longer input than may be ends the run after its last whole line
abbrev past_end : LinkState → Settled
past_end now = record { text = []; ends = Some statuses.Limit }

past-ends : EndsLines past_end
past-ends = record { last = statuses.Limit; on = λ s c. refl; before = λ start windows. refl; after = refl }

input-ends : EndsLines link_rules.finish
input-ends = record { last = statuses.Done; on = λ s c. refl; before = λ start windows. refl; after = refl }

-- what `link` answers to an input
kept : (most : ℕ) (input : List ℕ) → Settles (lines_within most input) (within most settles at_end input) → EndsLawfully most input
kept most input (on_a_link ending ends plays) = record { ending = ending; ends = ends; law = inl plays }
kept most input (on_none ending ends nothing_told) = record { ending = ending; ends = ends; law = inr nothing_told }

keep_law : Laws → LinksKeepLaw
unfolding within lines_within
keep_law laws most input = kept most input (by_test (nat_lt most (length input)))
  where
    by_test : (t : Bool) → Settles (if t then lines_of (ended_part (take most input)) else lines_of input)
        (if t then or_limit (lines_from link_rules 1 no_link going_on (take most input)) else lines_from link_rules 1 no_link at_end input)
    by_test true =
        rw (from-limit link_rules 1 no_link (take most input))
        (all_settled laws past_end past-ends (lines_of (ended_part (take most input))) (on_none statuses.Limit refl (tells-nothing [] statuses.Limit (λ done. absurd (cc)) none-has)))
    by_test false =
        rw (from-end link_rules 1 no_link input)
        (all_settled laws link_rules.finish input-ends (lines_of input) (on_none statuses.Refused refl (tells-nothing (refusal_line 1 faults.Word) statuses.Refused (λ done. absurd (cc)) (refusal-has 1 faults.Word))))

pub links-keep-law : LinksKeepLaw
links-keep-law = keep_law (record {
  fronts = red_parts_are_fronts;
  few = clean-few;
  complete = clean-completes;
  drained = none-left;
  crossing_few = crossing-few;
  crossing_complete = crossing-completes;
  three = copied-few;
  theirs = copied-costs;
  copied_complete = copied-completes;
})
