-- What the code comes to is the definition's answer.
use Rattle.std.proofs.Common.{◌≡◌, ℕ, ◌+◌, true, false, List, [], ◌++◌, length, Result, Ok, Err, IsErrAnd, String, inl, inr, refl, sym, ap, ◌∙◌, arith}
use Rattle.std.proofs.Math.Path.{subst}
use Rattle.std.proofs.lemmas.List.{append-nil}
use Rattle.edge_traits.specs.declared.status.Status.TheVariants as statuses
use Rattle.edge_traits.specs.Settled.{Settled}
use Rattle.edge_traits.specs.Outcome.{SinkTells}
use Rattle.edge_traits.proofs.ContentLemmas.{Gains-none}
use Rattle.edge_traits.proofs.FaultsLemmas.{NoneFailed-same}
use Rattle.endpoint.specs.declared.name.Endpoint.TheVariants.{Ipn}
use Rattle.ltp_segment.specs.declared.session.TheConstants.{BLOCK_MAX}
use Rattle.path_laws.specs.Path.{PathSetup, Path, PathEvent, path_run, starts_path}
use Rattle.path_drain.specs.Left.{IsTimed}
use Rattle.path_drain.proofs.TimedLemmas.{paths-are-timed}
use Rattle.path_world.specs.Values.{PathValue, setup_of}
use Rattle.path_world.specs.Shows.{ShowsRun}
use Rattle.world_run.specs.Shows.{StandsOn}
use Rattle.path_laws.specs.Log.{ups_in}
use Rattle.world_run.specs.World.{says_drain, octets_sent, events_text, drain_text, drain_made, drains_by}
use Rattle.world_run.specs.Wanted.{MayWant}
use Rattle.world_run.proofs.StepLemmas.{run-append}
use Rattle.make_run.specs.declared.making.Making.{Making}
use Rattle.make_run.specs.declared.stop.Stop.{Stop}
use Rattle.make_run.specs.declared.stop.Stop.TheVariants as stops
use Rattle.make_run.specs.Script.{the_setup, the_start, plans, events_of, script_of}
use Rattle.make_run.specs.Making.{is_over, is_past, sum_after, count_at_ends, done_by, made_line, answer_to, answer_of}
use Rattle.make_run.specs.Runs.{RanMade}
use Rattle.make_run.specs.Wanted.{RunsOut}
use Rattle.make_run.specs.Ties.{SoFar, Leaves, PlaysUpTo, Drained, MadeAs, with_line, past_limit, done_so}
use Rattle.make_run.proofs.RunLemmas.{sum-append, ups-append}
use Rattle.make_run.proofs.PlayLemmas.{count-append}
use Rattle.make_run.proofs.DrainLemmas.{going-text}

-- ---- the beginning, and the end

timed : IsTimed the_setup BLOCK_MAX
unfolding the_setup
timed = paths-are-timed (Ipn 9 0) 512 10000 100 10000 4096
    (record { segment = 512; timeout = 10000; limit = 100; cap = 10000 }) refl

stands-at-start : (v : PathValue) (s : PathSetup) → IsTimed s BLOCK_MAX → v.spent ≡ false → setup_of v ≡ s → ShowsRun v 1000000 []
    → StandsOn v s (path_run s (starts_path s 1000000) [])
unfolding path_run octets_sent
stands-at-start v s timed whole setup run = record {
  whole = whole;
  setup = sym setup;
  timed = timed;
  start = 1000000;
  events = [];
  run = run;
  path = ap (λ (x : PathSetup). starts_path x 1000000) (sym setup);
  few = omega arith;
}

pub begins : (m : Making) → m.path.spent ≡ false → setup_of m.path ≡ the_setup → ShowsRun m.path 1000000 [] → m.sum ≡ 0 → m.ups ≡ 0
    → SoFar the_setup the_start [] m
unfolding the_start is_past events_text ups_in sum_after
begins m whole setup run sum ups = record {
  stands = stands-at-start m.path the_setup timed whole setup run;
  fits = refl;
  sum = sum;
  ups = ups;
}

pub leaves-all : (seed count : ℕ) (m : Making) → SoFar the_setup the_start [] m
    → Leaves the_setup the_start (script_of seed count) (plans count 0 seed) m
unfolding path_run
leaves-all seed count m begins = record { played = []; so_far = begins; goes_on = refl }

leaves-none : (s : PathSetup) (w : Path) (script : List PathEvent) (m : Making) → Leaves s w script [] m → SoFar s w script m
unfolding events_of
leaves-none s w script m leaves =
    subst (λ events. SoFar s w events m) (sym (leaves.goes_on ∙ append-nil leaves.played)) leaves.so_far

-- ---- the answer

module _ (s : PathSetup) (w : Path) (count : ℕ) (script made : List PathEvent) where
  pub past-script : is_past s w script ≡ true → answer_to s w count script made ≡ past_limit
  unfolding answer_to
  past-script past = rw past refl

  module _ (old : Making) (so_far : SoFar s w script old) where
    pub past-drain : is_over (drains_by s (path_run s w script) made) ≡ true → answer_to s w count script made ≡ past_limit
    unfolding answer_to
    past-drain past = rw (so_far.fits, past) refl

    module _ (new : Making) (events : ℕ) (done : Drained s (path_run s w script) made old new events) where
      sent-is : length (path_run s w (script ++ made)).sent ≡ length new.path.sent
      sent-is = ap (λ (x : Path). length x.sent) (run-append s w script made) ∙ sym done.sent

      ups-is : count_at_ends (ups_in s w (script ++ made)) ≡ new.ups
      ups-is =
          ap count_at_ends (ups-append s w script made)
          ∙ (count-append (ups_in s w script) (ups_in s (path_run s w script) made)
          ∙ (ap (λ n. n + count_at_ends (ups_in s (path_run s w script) made)) (sym so_far.ups) ∙ sym done.takes.ups))

      sum-is : sum_after 0 (events_text s w script ++ drain_text s (path_run s w script) made) ≡ new.sum
      sum-is =
          sum-append 0 (events_text s w script) (drain_text s (path_run s w script) made)
          ∙ (ap (λ n. sum_after n (drain_text s (path_run s w script) made)) (sym so_far.sum) ∙ sym done.takes.sum)

      done-is : done_by s w script made ≡ done_so new events
      unfolding done_by
      done-is = rw (sent-is, ups-is, sum-is, ← done.events_are) refl

      pub made-so : answer_to s w count script made
          ≡ with_line (made_line count (done_so new events))
      unfolding answer_to
      made-so = rw (so_far.fits, done.goes_on, done-is) refl

-- ---- of the command

module _ (seed count : ℕ) (m : Making) where
  pub script-past : PlaysUpTo the_setup the_start (script_of seed count) [] m (Err stops.Limit) → answer_of seed count ≡ past_limit
  unfolding answer_of
  script-past past =
      past-script the_setup the_start count (script_of seed count)
      (drain_made the_setup (path_run the_setup the_start (script_of seed count))) past

  module _ (leaves : Leaves the_setup the_start (script_of seed count) [] m) where
    pub script-played : SoFar the_setup the_start (script_of seed count) m
    script-played = leaves-none the_setup the_start (script_of seed count) m leaves

    pub drained-past : is_over (drains_by the_setup (path_run the_setup the_start (script_of seed count))
        (drain_made the_setup (path_run the_setup the_start (script_of seed count)))) ≡ true
        → answer_of seed count ≡ past_limit
    unfolding answer_of
    drained-past over =
        past-drain the_setup the_start count (script_of seed count)
        (drain_made the_setup (path_run the_setup the_start (script_of seed count))) m script-played over

    pub drained-so : (new : Making) (events : ℕ)
        → Drained the_setup (path_run the_setup the_start (script_of seed count))
        (drain_made the_setup (path_run the_setup the_start (script_of seed count))) m new events
        → answer_of seed count ≡ with_line (made_line count (done_so new events))
    unfolding answer_of
    drained-so new events done =
        made-so the_setup the_start count (script_of seed count)
        (drain_made the_setup (path_run the_setup the_start (script_of seed count))) m script-played new events done

    -- memory ran out in the drain, or for what is written of it
    pub drained-out : MayWant m.path says_drain (drains_by the_setup (path_run the_setup the_start (script_of seed count))
        (drain_made the_setup (path_run the_setup the_start (script_of seed count)))) → RunsOut seed count
    drained-out wants = inr (record {
      fits = script-played.fits;
      path = m.path;
      stands = script-played.stands;
      wants = wants;
    })

    pub line-out : (new : Making) (events : ℕ)
        → Drained the_setup (path_run the_setup the_start (script_of seed count))
        (drain_made the_setup (path_run the_setup the_start (script_of seed count))) m new events
        → RunsOut seed count
    line-out new events done =
        drained-out (inl (going-text the_setup (path_run the_setup the_start (script_of seed count))
        (drain_made the_setup (path_run the_setup the_start (script_of seed count))) done.goes_on))

-- ---- where it stops

pub made-stops : {A : Type 0} (seed count : ℕ) (stop : Stop) → (stop ≡ stops.Limit → answer_of seed count ≡ past_limit)
    → (stop ≡ stops.Memory → RunsOut seed count)
    → (result : Result (String A) Stop) → IsErrAnd result (λ other. other ≡ stop) → MadeAs seed count result
made-stops seed count stop limit memory (Ok line) is = absurd is
made-stops seed count stop limit memory (Err stops.Limit) is = limit (sym is)
made-stops seed count stop limit memory (Err stops.Memory) is = memory (sym is)

-- ---- nothing is written

pub ran-limit : (due : Settled) (sink : SinkTells) → due ≡ past_limit → RanMade due statuses.Limit sink sink
ran-limit due sink is = rw is (record { wrote = (refl, Gains-none sink.held); writes = NoneFailed-same sink.calls })

pub ran-memory : (due : Settled) (sink : SinkTells) → RanMade due statuses.Memory sink sink
ran-memory due sink = record { wrote = Gains-none sink.held; writes = NoneFailed-same sink.calls }
