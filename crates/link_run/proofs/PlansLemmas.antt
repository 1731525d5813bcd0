-- What the lines after the first settle, windows and events, one after another.

use Rattle.std.proofs.Common.{◌≡◌, ℕ, ◌+◌, Bool, true, false, ◌||◌, nat_lt, List, [], ◌∷◌, ◌++◌, length, map, codes, Option, None, Some, Result, Ok, Err, refl, sym, ap, subst, append_assoc, if◌then◌else◌}
use Rattle.std.proofs.lemmas.List.{append-nil}
use Rattle.edge_traits.specs.declared.status.Status.{Status}
use Rattle.edge_traits.specs.declared.status.Status.TheVariants as statuses
use Rattle.edge_traits.specs.Settled.{Settled}
use Rattle.command_frame.specs.Lines.{ends_run, turn_at, after_turn, lines_settle}
use Rattle.ltp_session.specs.Engine.{Party}
use Rattle.ltp_session.specs.World.{clock, happens, starts_world}
use Rattle.ltp_drain.specs.Hopeful.{IsReached}
use Rattle.ltp_drain.specs.Left.{AreTimed}
use Rattle.contact_plan.specs.declared.fault.PlanFault.{PlanFault}
use Rattle.contact_plan.specs.declared.window.Window.{Window}
use Rattle.contact_plan.specs.Fault.{plan_fault}
use Rattle.contact_plan.specs.Windows.{elapsed}
use Rattle.replay_script.specs.declared.fault.LineFault.{LineFault}
use Rattle.replay_script.specs.declared.link.LinkEvent.{LinkEvent}
use Rattle.replay_script.specs.declared.link.LinkEvent.TheVariants as events
use Rattle.link_run.specs.Law.{says_window}
use Rattle.link_run.specs.Link.{LinkCourse, LinkSetup, LinkStart, LinkState, are_given, drained, later_said, link_course, link_line, link_parties, link_rules, link_setup, on_link, planned, planned_line, window_turn, without_picks}
use Rattle.link_run.specs.WrittenLines.{refused_line}
use Rattle.link_run.proofs.PlayLemmas.{Closes, Plays, line_turned, said-later, stops, turned}
use Rattle.link_run.proofs.SetupLemmas.{parties-are}
use Rattle.link_run.proofs.TellLemmas.{HasLines, late-plain, none-has, nothing, refused-has, window-plain}

-- how the run ends after the last line, wherever that leaves the link
pub record EndsLines (ending : LinkState → Settled) : Type 0 where
  pub last : Status
  pub on : (s : LinkSetup) (c : LinkCourse) → ending (on_link s c) ≡ record { text = []; ends = Some last }
  pub before : (start : LinkStart) (windows : List Window) → ending (planned start windows) ≡ record { text = []; ends = Some last }
  pub after : ending drained ≡ record { text = []; ends = Some last }

-- ---- after a drain

module _ (ending : LinkState → Settled) (last : EndsLines ending) where
  closes_from : (n : ℕ) (lines : List (List ℕ)) → Closes lines (lines_settle link_rules n drained lines ending)
  unfolding lines_settle turn_at
  closes_from n [] = rw last.after (record { ending = last.last; ends = refl; all = λ done. refl; has = none-has })
  closes_from n (line ∷ lines) = by_past (nat_lt link_rules.lines n || nat_lt link_rules.octets (length line))
    where
      by_past : (t : Bool) → Closes (line ∷ lines) (after_turn (if t then ends_run [] statuses.Limit else ends_run (refused_line n (codes "AfterDrain")) statuses.Refused)
          (λ now. lines_settle link_rules (n + 1) now lines ending))
      by_past true = record { ending = statuses.Limit; ends = refl; all = λ done. absurd (cc); has = none-has }
      by_past false = record { ending = statuses.Refused; ends = refl; all = λ done. absurd (cc); has = refused-has n (codes "AfterDrain") late-plain }

  -- ---- events

  pub plays_from : (s : LinkSetup) (c : LinkCourse) (n : ℕ) (lines : List (List ℕ)) → AreTimed s.parties → IsReached s.parties c.world
      → Plays s c.world c.moment lines (lines_settle link_rules n (on_link s c) lines ending)
  unfolding lines_settle
  plays_from s c n [] timed reached = rw (last.on s c) (stops s c.world c.moment [] [] last.last (λ done. refl) none-has)
  plays_from s c n (line ∷ lines) timed reached =
      line_turned s c n line lines (λ now. lines_settle link_rules (n + 1) now lines ending) timed reached
      (λ d led. plays_from s d (n + 1) lines timed led) (closes_from (n + 1) lines)

-- ---- windows

-- what some lines settle where these windows were given
pub record Plans (start : LinkStart) (windows : List Window) (lines : List (List ℕ)) (settled : Settled) : Type 0 where
  pub more : List Window
  pub given : List (List ℕ)
  pub others : List (List ℕ)
  pub lines_are : lines ≡ given ++ others
  pub gives : map later_said given ≡ map says_window more
  pub plays : Plays (link_setup start (windows ++ more)) (link_course (link_setup start (windows ++ more)) start.now).world start.now others settled

plans_here : (start : LinkStart) (windows : List Window) (lines : List (List ℕ)) (settled : Settled)
    → Plays (link_setup start windows) (link_course (link_setup start windows) start.now).world start.now lines settled → Plans start windows lines settled
plans_here start windows lines settled plays = record {
  more = [];
  given = [];
  others = lines;
  lines_are = refl;
  gives = refl;
  plays = rw (append-nil windows) plays;
}

plans_more : (start : LinkStart) (windows : List Window) (window : Window) (line : List ℕ) (lines : List (List ℕ)) (settled : Settled)
    → later_said line ≡ says_window window → Plans start (windows ++ window ∷ []) lines settled → Plans start windows (line ∷ lines) settled
plans_more start windows window line lines settled is rest = record {
  more = window ∷ rest.more;
  given = line ∷ rest.given;
  others = rest.others;
  lines_are = ap (λ ls. line ∷ ls) rest.lines_are;
  gives = rw (is, rest.gives) refl;
  plays = subst (λ (ws : List Window). Plays (link_setup start ws) (link_course (link_setup start ws) start.now).world start.now rest.others settled)
      (append_assoc windows (window ∷ []) rest.more) rest.plays;
}

begins-reached : (parties : Party × Party) (now : ℕ) → IsReached parties (happens parties (starts_world parties) (clock now))
begins-reached parties now = record { events = clock now ∷ []; leads = refl }

module _ (ending : LinkState → Settled) (last : EndsLines ending) (start : LinkStart) (timed : AreTimed (link_parties start.policy)) where
  timed-on : (windows : List Window) → AreTimed (link_setup start windows).parties
  timed-on windows = subst AreTimed (sym (parties-are start windows)) timed

  module _ (windows : List Window) (n : ℕ) (line : List ℕ) (lines : List (List ℕ))
      (later : (w : Window) → Plans start (windows ++ w ∷ []) lines (lines_settle link_rules (n + 1) (planned start (windows ++ w ∷ [])) lines ending)) where
    abbrev settle : LinkState → Settled
    settle = λ now. lines_settle link_rules (n + 1) now lines ending

    stopped : (text : List ℕ) (status : Status) → (status ≡ statuses.Done → line ∷ lines ≡ []) → HasLines text nothing → Plans start windows (line ∷ lines) (record { text = text; ends = Some status })
    stopped text status all has =
        plans_here start windows (line ∷ lines) _
        (stops (link_setup start windows) (link_course (link_setup start windows) start.now).world start.now (line ∷ lines) text status all has)

    by_fault : (window : Window) → later_said line ≡ says_window window → (fault : Option PlanFault)
        → Plans start windows (line ∷ lines) (after_turn (window_turn n start (windows ++ window ∷ []) fault) (λ now. lines_settle link_rules (n + 1) now lines ending))
    by_fault window is None = plans_more start windows window line lines _ is (later window)
    by_fault window is (Some fault) = stopped (refused_line n (codes "Window")) statuses.Refused (λ done. absurd (cc)) (refused-has n (codes "Window") window-plain)

    others_turned : (said : Result LinkEvent LineFault) → ((e : LinkEvent) → said ≡ Ok e → later_said line ≡ Ok e)
        → Plans start windows (line ∷ lines) (after_turn (link_line n (link_setup start windows) (link_course (link_setup start windows) start.now) said)
        (λ now. lines_settle link_rules (n + 1) now lines ending))
    others_turned said is =
        plans_here start windows (line ∷ lines) _
        (turned (link_setup start windows) (link_course (link_setup start windows) start.now) n line lines (λ now. lines_settle link_rules (n + 1) now lines ending)
        (timed-on windows) (begins-reached (link_setup start windows).parties (elapsed (link_setup start windows).plan start.now))
        (λ d led. plays_from ending last (link_setup start windows) d (n + 1) lines (timed-on windows) led) (closes_from ending last (n + 1) lines) said is)

    said_turned : (said : Result LinkEvent LineFault) → ((e : LinkEvent) → said ≡ Ok e → later_said line ≡ Ok e)
        → Plans start windows (line ∷ lines) (after_turn (planned_line n start windows said) (λ now. lines_settle link_rules (n + 1) now lines ending))
    said_turned (Ok (events.Window from to)) is =
        by_fault (record { from = from; to = to }) (is (events.Window from to) refl) (plan_fault (windows ++ record { from = from; to = to } ∷ []))
    said_turned (Ok (events.Link segment timeout limit cap moment)) is = others_turned (Ok (events.Link segment timeout limit cap moment)) is
    said_turned (Ok (events.Send first body)) is = others_turned (Ok (events.Send first body)) is
    said_turned (Ok (events.Deliver k)) is = others_turned (Ok (events.Deliver k)) is
    said_turned (Ok (events.Clock now)) is = others_turned (Ok (events.Clock now)) is
    said_turned (Ok events.Drain) is = others_turned (Ok events.Drain) is
    said_turned (Ok (events.DrainBy picks)) is = others_turned (Ok (events.DrainBy picks)) is
    said_turned (Err fault) is = others_turned (Err fault) is

    planned_turned : Plans start windows (line ∷ lines) (after_turn (turn_at link_rules n (planned start windows) line) (λ now. lines_settle link_rules (n + 1) now lines ending))
    unfolding turn_at
    planned_turned = by_past (nat_lt link_rules.lines n || nat_lt link_rules.octets (length line))
      where
        by_past : (t : Bool) → Plans start windows (line ∷ lines) (after_turn (if t then ends_run [] statuses.Limit
            else planned_line n start windows (without_picks (are_given windows) line (later_said line))) (λ now. lines_settle link_rules (n + 1) now lines ending))
        by_past true = stopped [] statuses.Limit (λ done. absurd (cc)) none-has
        by_past false = said_turned (without_picks (are_given windows) line (later_said line)) (λ e is. said-later (are_given windows) line (later_said line) e is)

  pub plans_from : (windows : List Window) (n : ℕ) (lines : List (List ℕ)) → Plans start windows lines (lines_settle link_rules n (planned start windows) lines ending)
  unfolding lines_settle
  plans_from windows n [] =
      rw (last.before start windows)
      (plans_here start windows [] _ (stops (link_setup start windows) (link_course (link_setup start windows) start.now).world start.now [] [] last.last (λ done. refl) none-has))
  plans_from windows n (line ∷ lines) = planned_turned windows n line lines (λ w. plans_from (windows ++ w ∷ []) (n + 1) lines)
