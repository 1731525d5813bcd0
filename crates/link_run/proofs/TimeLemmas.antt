-- A drain completes the sessions in time.

use Rattle.std.proofs.Common.{◌≡◌, ℕ, ◌≤◌, Bool, true, false, nat_lt, List, length, Option, None, Some, refl, sym, subst, if◌then◌else◌}
use Rattle.std.specs.Option.{option_map}
use Rattle.ltp_session.specs.Engine.{Party}
use Rattle.ltp_session.specs.World.{ArePeers, Event, World, clock, deliver, run}
use Rattle.ltp_laws.specs.Laws.{RedPartsAreFronts}
use Rattle.ltp_drain.specs.Clean.{AreCleanFrom, IsDrained, clean_event, link_deadline, passed}
use Rattle.ltp_drain.specs.Completion.{CleanEventsAreFew, CleanRunsComplete, IsComplete, IsReady}
use Rattle.ltp_drain.specs.Effects.{effects_in}
use Rattle.ltp_drain.specs.Hopeful.{AreAlike, Hopeful, IsReached, Room}
use Rattle.ltp_picks.specs.CopyCosts.{CopiesCostTheirSessions}
use Rattle.ltp_picks.specs.PickedRuns.{CopiedRunsComplete, CopiesCostThree, CrossingEventsAreFew, CrossingRunsComplete, IsCopiedRun, NoneTurnedAway}
use Rattle.ltp_picks.specs.Picks.{Pick, copies, crosses_at}
use Rattle.contact_plan.specs.Windows.{total}
use Rattle.replay_script.specs.declared.link.LinkEvent.{LinkEvent}
use Rattle.replay_script.specs.declared.link.LinkEvent.TheVariants as events
use Rattle.window_world.specs.Made.{EndsBy, IsOverBy}
use Rattle.link_run.specs.Law.{CompletesByPicks, CompletesInTime, DrainCompletes, DrainMakes, IsPickedDrain}
use Rattle.link_run.specs.Link.{LinkSetup}
use Rattle.link_run.specs.Picks.{said_picks}
use Rattle.link_run.proofs.FewLemmas.{said-few}
use Rattle.link_run.proofs.PlayLemmas.{HasFewPicks}

-- what is proved of a link, and of drains of it
pub record Laws : Type 0 where
  pub fronts : RedPartsAreFronts
  pub few : CleanEventsAreFew
  pub complete : CleanRunsComplete
  pub drained : (parties : Party × Party) (w : World) (events : List Event) → AreCleanFrom parties w events
      → clean_event (run parties w events) (passed (length w.sent) events) ≡ None → IsDrained (run parties w events) (passed (length w.sent) events)
  pub crossing_few : CrossingEventsAreFew
  pub crossing_complete : CrossingRunsComplete
  pub three : CopiesCostThree
  pub theirs : CopiesCostTheirSessions
  pub copied_complete : CopiedRunsComplete

-- where a drain is over and no timer runs, no clean event can follow
none-clean : (w : World) (c top : ℕ) → IsOverBy top (clean_event w c) → link_deadline w ≡ None → clean_event w c ≡ None
none-clean w c top over none = by_test (nat_lt c (length w.sent)) over
  where
    by_test : (b : Bool) → IsOverBy top (if b then Some (deliver c) else option_map clock (link_deadline w)) → (if b then Some (deliver c) else option_map clock (link_deadline w)) ≡ None
    by_test true over = absurd over
    by_test false over = rw none refl

module _ (laws : Laws) (s : LinkSetup) (w : World) (peers : ArePeers s.parties) (alike : AreAlike s.parties) (reached : IsReached s.parties w) where
  ready : Hopeful s.parties w → Room w → IsReady s.parties w
  ready hopeful room = record { peers = peers; alike = alike; reached = reached; hopeful = hopeful; room = room }

  in_time : (made : List Event) → EndsBy (total s.plan) s.parties w (length w.sent) made → Hopeful s.parties w → Room w → CompletesInTime s w made
  in_time made ends hopeful room = record {
    bound = laws.few s.parties w made (ready hopeful room) ends.clean;
    complete = λ none. laws.complete s.parties w (length made) (run s.parties w made) (ready hopeful room) (record {
      events = made;
      count = refl;
      clean = ends.clean;
      leads = refl;
      drained = laws.drained s.parties w made ends.clean (none-clean (run s.parties w made) (passed (length w.sent) made) (total s.plan) ends.over none);
    });
  }

  by_picks : (picks : List Pick) (made : List Event) → copies s.parties (crosses_at w) picks ≤ 100000 → IsPickedDrain s.parties w picks made → Hopeful s.parties w → Room w → CompletesByPicks s w picks made
  by_picks picks made few drain hopeful room = record {
    crossing = λ new. (
      laws.crossing_few s.parties w picks (length made) (run s.parties w made) (ready hopeful room) new drain.run,
      subst (λ (x : List Event). IsComplete s.parties w x (run s.parties w made)) (sym drain.events)
          (laws.crossing_complete s.parties w picks (length made) (run s.parties w made) (ready hopeful room) new drain.run),
    );
    tight = λ spared. (
      laws.three s.parties w picks (length made) (run s.parties w made) (ready hopeful room) (copied spared),
      subst (λ (x : List Event). IsComplete s.parties w x (run s.parties w made)) (sym drain.events)
          (laws.copied_complete s.parties w picks (length made) (run s.parties w made) (ready hopeful room) (copied spared)),
    );
    wide = λ spared. laws.theirs s.parties w picks (length made) (run s.parties w made) (ready hopeful room) (copied spared);
  } where
    copied : NoneTurnedAway (effects_in s.parties w made) → IsCopiedRun s.parties w picks (length made) (run s.parties w made)
    copied spared = record {
      run = drain.run;
      few = few;
      spared = subst (λ (x : List Event). NoneTurnedAway (effects_in s.parties w x)) drain.events spared;
    }

  pub completes : (drain : Option LinkEvent) (made : List Event) → HasFewPicks drain → DrainMakes s w drain made → DrainCompletes s w drain made
  completes None made few makes_made = tt
  completes (Some events.Drain) made few makes_made = λ hopeful room. in_time made makes_made hopeful room
  completes (Some (events.DrainBy words)) made few makes_made = λ hopeful room. by_picks (said_picks words) made (said-few s.parties (crosses_at w) words few) makes_made hopeful room
  completes (Some (events.Link segment timeout limit cap start)) made few makes_made = tt
  completes (Some (events.Window from to)) made few makes_made = tt
  completes (Some (events.Send first body)) made few makes_made = tt
  completes (Some (events.Deliver k)) made few makes_made = tt
  completes (Some (events.Clock now)) made few makes_made = tt
