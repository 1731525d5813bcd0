-- A drain with old copies from a hopeful world with room: its events, and its end.

use Rattle.std.proofs.Common.{◌≡◌, ℕ, ◌+◌, ◌*◌, ◌≤◌, ◌^◌, Bool, true, false, List, [], ◌∷◌, ◌++◌, length, take}
use Rattle.std.proofs.Common.{drop, Option, None, Some, inr, refl, ap, arith, subst}
use Rattle.std.proofs.lemmas.List.{length-drop, length-take}
use Rattle.std.specs.List.{slice_get}
use Rattle.ltp_segment.specs.Policy.{PolicyValue}
use Rattle.ltp_segment.specs.Values.{ContentValue}
use Rattle.ltp_session.specs.Engine.{Party}
use Rattle.ltp_session.specs.Receiver.{Receiving}
use Rattle.ltp_session.specs.Sender.{Sending}
use Rattle.ltp_session.specs.World.{End, Sent, World, at_end, other, starts_world}
use Rattle.ltp_laws.specs.Blocks.{IsSenderOf}
use Rattle.ltp_laws.specs.Facts.{SessionFacts}
use Rattle.ltp_laws.specs.Kept.{IfKept}
use Rattle.ltp_laws.specs.Log.{HasFacts, HasFactsBy, submissions}
use Rattle.ltp_laws.specs.View.{View, said, view}
use Rattle.ltp_laws.proofs.FactLemmas.{session-keep}
use Rattle.ltp_laws.proofs.LogLemmas.{every_submitted}
use Rattle.ltp_drain.specs.Calm.{HasSerials}
use Rattle.ltp_drain.specs.Completion.{IsComplete, IsReady}
use Rattle.ltp_drain.specs.Hopeful.{IsHopefulReceiver, IsHopefulSender, IsHopefulSending, cost}
use Rattle.ltp_drain.specs.Hopeful.{kept_cost, limit_at, segment_count}
use Rattle.ltp_drain.specs.Standing.{DrainHolds, Stands, setting}
use Rattle.ltp_drain.proofs.CompletionLemmas.{first-low, first_rank, starts, starts-low}
use Rattle.ltp_drain.proofs.SizeLemmas.{submitted-within}
use Rattle.ltp_drain.proofs.StartLemmas.{cuts-two, few-parts, most-low}
use Rattle.ltp_picks.specs.Asking.{IsOldOf}
use Rattle.ltp_picks.specs.CopyCosts.{copies_cost, copy_cost, segment_cost}
use Rattle.ltp_picks.specs.Picks.{Crossing, Pick, Placed, Turn, after_pick, after_picks, after_turn}
use Rattle.ltp_picks.specs.Picks.{after_turns, copies, copies_of, crosses_at, old_copy, oldest_of}
use Rattle.ltp_picks.specs.Picks.{pick_turn, picked_turns}
use Rattle.ltp_picks.specs.PickedRuns.{IsCopiedRun, run_events}
use Rattle.ltp_picks.proofs.CopyLinks.{Keeping}
use Rattle.ltp_picks.proofs.CopyRuns.{CarriesTo, picks-carry}
use Rattle.ltp_picks.proofs.CopyTicks.{idle-holds}
use Rattle.ltp_picks.proofs.CopyComes.{Carries}
use Rattle.ltp_picks.proofs.CrossingLemmas.{sent_of}
use Rattle.ltp_picks.proofs.CrossingRuns.{length-both, over-completes}
use Rattle.ltp_picks.proofs.EchoLemmas.{echoes, plain}

-- ---- the ranks where it begins are low

-- the segments of a block that isn't longer than the greatest
few-segments : (policy : PolicyValue) (s : Sending) → 2 ≤ policy.segment → length s.block ≤ 2 ^ 22
    → 2 * segment_count policy s ≤ 2 ^ 22 + 2
few-segments policy s cuts short = omega (
  arith,
  few-parts policy.segment (length (take s.red s.block)) 0 (take s.red s.block) cuts,
  few-parts policy.segment (length (drop s.red s.block)) s.red (drop s.red s.block) cuts,
  length-take s.red s.block,
  length-drop s.red s.block,
  short,
)

low-rank : (parties : Party × Party) (w : World) (o : End) (n : ℕ) → IsReady parties w
    → first_rank parties w o n ≤ 2 ^ 21 + 20
low-rank parties w o n ready =
    omega (
      arith,
      first-low parties w o n,
      by_both (view parties w o n).sender
          (view parties w o n).receiver short,
    )
  where
    short : (s : Sending) → (view parties w o n).sender ≡ Some s → length s.block ≤ 2 ^ 22
    short s kept = by_used (view parties w o n).used
        (subst (λ (w : World). HasFacts SessionFacts
        (submissions parties (starts_world parties) ready.reached.events) o n (view parties w o n))
        ready.reached.leads
        (every_submitted SessionFacts session-keep parties ready.reached.events ready.peers o n))
      where
        by_used : (used : Bool) → HasFactsBy SessionFacts
            (submissions parties (starts_world parties) ready.reached.events) o n used
            (view parties w o n) → length s.block ≤ 2 ^ 22
        by_used false unused = absurd (
            let none : (view parties w o n).sender ≡ None = unused.sender in cc)
        by_used true has =
            let of = subst (IfKept (IsSenderOf has.submission.block has.submission.red)) kept
            has.facts.basic.sender in
            omega (
              arith,
              ap length of.same_block,
              submitted-within parties (starts_world parties) ready.reached.events has.submission
                  has.among,
              most-low parties ready.alike has.submission.from,
            )

    by_both : (s : Option Sending) (r : Option Receiving)
        → ((kept : Sending) → s ≡ Some kept → length kept.block ≤ 2 ^ 22)
        → kept_cost (at_end parties o).policy s r ≤ 2 ^ 21 + 20
    by_both (Some s) r low = omega (
      arith,
      few-segments (at_end parties o).policy s (cuts-two parties ready.alike o) (low s refl),
    )
    by_both None (Some r) low = omega arith
    by_both None None low = omega arith

-- as many serials are left as old copies can spend
start-slack : (parties : Party × Party) (w : World) (o : End) (n k : ℕ) → IsReady parties w
    → k ≤ 100000 → HasSerials n (view parties w o n) (first_rank parties w o n + 3 * k)
start-slack parties w o n k ready few = record {
  sender = λ s c timer kept waits. omega (
    arith,
    few,
    low-rank parties w o n ready,
    (subst (IsHopefulSending (limit_at parties o)) waits
        (subst (IfKept (IsHopefulSender (limit_at parties o) (view parties w o n).closed)) kept
        (ready.hopeful.sessions o n).sender).phase).1,
  );
  receiver = λ r kept. omega (
    arith,
    few,
    low-rank parties w o n ready,
    (subst (IfKept (IsHopefulReceiver (limit_at parties (other o)))) kept
        (ready.hopeful.sessions o n).receiver).serial,
  );
  fresh = omega (arith, few, low-rank parties w o n ready);
}

-- ---- where it begins

starts-keeping : (parties : Party × Party) (m k n : ℕ) (Old : ContentValue → Type 0) (o : End)
    (v : View)
    → Stands SessionFacts (setting parties o n) v (said o (at_end parties o).own n [])
    (said (other o) (at_end parties o).own n []) m
    → HasSerials n v (m + 3 * k) → Keeping parties k Old [] m o n v
unfolding said plain echoes
starts-keeping parties m k n Old o v stands slack = record {
  left = m;
  stands = stands;
  count = omega arith;
  slack = slack;
  asks = λ s c timer kept waits. inr (λ q among. absurd among);
}

starts-carrying : (parties : Party × Party) (w : World) (k : ℕ) → IsReady parties w → k ≤ 100000
    → Carries parties k (crosses_at w) (first_rank parties w)
starts-carrying parties w k ready few = record {
  keeps = λ o n. starts-keeping parties (first_rank parties w o n) k n
      (IsOldOf (crosses_at w) o (at_end parties o).own n) o (view parties w o n)
      (start.session o n) (start-slack parties w o n k ready few);
  formed = record {
    senders = start.senders;
    receivers = start.receivers;
    next = start.next;
  };
  reached = ready.reached;
  placed = λ e among. absurd among;
}
  where
    start : DrainHolds SessionFacts parties (record { world = w; new = [] })
        (first_rank parties w)
    start = starts parties w ready

run-carries : (parties : Party × Party) (w : World) (picks : List Pick) (n : ℕ) (v : World)
    → IsReady parties w → (drain : IsCopiedRun parties w picks n v)
    → CarriesTo parties (copies parties (crosses_at w) picks) 0 (crosses_at w)
    (first_rank parties w) (picked_turns parties (crosses_at w) picks ++ drain.run.rest)
    (after_turns parties (after_picks parties (crosses_at w) picks) drain.run.rest)
run-carries parties w picks n v ready drain =
    picks-carry parties ready.peers ready.alike picks drain.run.rest (crosses_at w)
    (first_rank parties w) drain.run.goes_on drain.spared
    (starts-carrying parties w (copies parties (crosses_at w) picks) ready drain.few)

-- ---- its events, and its end

pub copied-few : (parties : Party × Party) (w : World) (picks : List Pick) (n : ℕ) (v : World)
    → IsReady parties w → IsCopiedRun parties w picks n v
    → n ≤ cost parties w v + 3 * copies parties (crosses_at w) picks
copied-few parties w picks n v ready drain =
    let on = run-carries parties w picks n v ready drain in
    subst (λ (v : World). n ≤ cost parties w v + 3 * copies parties (crosses_at w) picks)
    drain.run.leads
    (omega (
      arith,
      drain.run.count,
      length-both (picked_turns parties (crosses_at w) picks) drain.run.rest,
      on.bound,
      starts-low parties w
          (after_turns parties (after_picks parties (crosses_at w) picks) drain.run.rest).world
          on.next,
    ))

pub copied-completes : (parties : Party × Party) (w : World) (picks : List Pick) (n : ℕ)
    (v : World) → IsReady parties w → (drain : IsCopiedRun parties w picks n v)
    → IsComplete parties w (run_events parties w picks drain.run.rest) v
copied-completes parties w picks n v ready drain =
    let on = run-carries parties w picks n v ready drain in
    subst (λ (v : World). IsComplete parties w (run_events parties w picks drain.run.rest) v)
    drain.run.leads
    (over-completes parties w last.world [] on.rank' (run_events parties w picks drain.run.rest)
    (idle-holds parties last.world 0 (λ o n. IsOldOf last o (at_end parties o).own n) on.rank'
    on.carries.formed
    (λ o n. subst (λ (new : List Placed). Keeping parties 0
    (IsOldOf last o (at_end parties o).own n) (sent_of new) (on.rank' o n) o n
    (view parties last.world o n)) drain.run.over.none_new (on.carries.keeps o n)))
    drain.run.over.no_timer on.advances)
  where
    last : Crossing
    last = after_turns parties (after_picks parties (crosses_at w) picks) drain.run.rest

-- ---- by the session of each old segment

three-each : (parties : Party × Party) (w : World) (picks : List Pick) (d : Crossing)
    → 3 * copies parties d picks ≤ copies_cost parties w d picks
unfolding copies copies_cost
three-each parties w [] d = omega arith
three-each parties w (pick ∷ picks) d = by_turn pick (pick_turn d pick)
    (λ d'. three-each parties w picks d')
  where
    at-least : (o : Option Sent) → 3 ≤ segment_cost parties w o
    at-least None = omega arith
    at-least (Some x) = omega arith

    by_turn : (pick : Pick) (x : Option Turn)
        → ((d' : Crossing) → 3 * copies parties d' picks ≤ copies_cost parties w d' picks)
        → 3 * (copies_of pick x + copies parties (after_pick parties d x) picks)
        ≤ copy_cost parties w d pick x + copies_cost parties w (after_pick parties d x) picks
    by_turn (oldest_of from) x rest = omega (arith, rest (after_pick parties d x))
    by_turn (old_copy k) None rest = omega (arith, rest d)
    by_turn (old_copy k) (Some t) rest = omega (
      arith,
      rest (after_turn parties d t),
      at-least (slice_get d.world.sent k),
    )

pub copied-costs : (parties : Party × Party) (w : World) (picks : List Pick) (n : ℕ) (v : World)
    → IsReady parties w → IsCopiedRun parties w picks n v
    → n ≤ cost parties w v + copies_cost parties w (crosses_at w) picks
copied-costs parties w picks n v ready drain =
    omega (
      arith,
      copied-few parties w picks n v ready drain,
      three-each parties w picks (crosses_at w),
    )
