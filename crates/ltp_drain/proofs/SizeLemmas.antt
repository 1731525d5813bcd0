-- In every run each piece that was sent has an octet, and each block is no longer than its
-- engine's greatest.

use Rattle.std.proofs.Common.{◌≡◌, ℕ, zero, suc, ◌+◌, ◌≤◌, ◌^◌, Bool, true, false, ◌==◌, List, []}
use Rattle.std.proofs.Common.{◌∷◌, ◌++◌, length, take, drop, Option, None, Some, refl}
use Rattle.std.proofs.Common.{arith, subst, nat_lt, nat_le, if◌then◌else◌}
use Rattle.std.proofs.lemmas.Bool.Decides.{nat_tests}
use Rattle.std.proofs.lemmas.List.{length-take}
use Rattle.std.specs.List.{AllByRecursion}
use Rattle.ltp_segment.specs.Policy.{PolicyValue}
use Rattle.ltp_segment.specs.Values.{ContentValue, PieceValue, ReportValue, a_piece}
use Rattle.ltp_segment.specs.Values.{a_receiver_cancel, a_receiver_cancel_ack, a_report}
use Rattle.ltp_segment.specs.Values.{a_report_ack, a_sender_cancel, a_sender_cancel_ack}
use Rattle.ltp_session.specs.Claims.{with_claims}
use Rattle.ltp_session.specs.Engine.{Engine, Party, Reply, block_empty, block_too_large}
use Rattle.ltp_session.specs.Engine.{numbers_spent, senders_busy, submits, submits_unless}
use Rattle.ltp_session.specs.Sender.{Sending, SendingPhase, begin, checkpoint_at, ends_cancelling}
use Rattle.ltp_session.specs.Sender.{green_pieces, is_all_claimed, last_segment, opened}
use Rattle.ltp_session.specs.Sender.{red_pieces, red_segments, report_step, segments_from}
use Rattle.ltp_session.specs.Sender.{sender_answers, sender_cancelling, sender_due, sender_open}
use Rattle.ltp_session.specs.Sender.{sender_tick, sending_timer, sends_again, takes_report}
use Rattle.ltp_session.specs.Sender.{unclaimed as parts_left}
use Rattle.ltp_session.specs.Step.{Change, StepValue, after, ends, keeps, stays}
use Rattle.ltp_session.specs.Timer.{first_serial, is_past_serials}
use Rattle.ltp_session.specs.World.{ArePeers, Event, World, at_end, clock, deliver}
use Rattle.ltp_session.specs.World.{happens, run, starts_world, submit}
use Rattle.ltp_session.specs.World.{submit_reply, unless_refused}
use Rattle.ltp_laws.specs.Kept.{IfKept, IfKeeps}
use Rattle.ltp_laws.specs.Log.{Submission, submission_of, submissions, submissions_at}
use Rattle.ltp_laws.specs.Runs.{HoldsIn, IsInvariant}
use Rattle.ltp_laws.specs.View.{IsIn, View}
use Rattle.ltp_laws.proofs.ListLemmas.{all-append, answered, both_arms}
use Rattle.ltp_laws.proofs.RunLemmas.{holds-run, holds-start, no_submissions}
use Rattle.ltp_laws.proofs.SenderLemmas.{last-part, unclaimed-parts}
use Rattle.ltp_laws.proofs.WritableLemmas.{Cuts, cuts-at, in-all}

-- ---- a part, a piece, a sender with an octet

abbrev HasOctet : ℕ × List ℕ → Type 0
HasOctet part = 1 ≤ length part.1

abbrev pub SaysOctets : ContentValue → Type 0
SaysOctets (a_piece q) = 1 ≤ length q.body
SaysOctets (a_report x) = Unit {0}
SaysOctets (a_report_ack serial) = Unit {0}
SaysOctets (a_sender_cancel reason) = Unit {0}
SaysOctets a_sender_cancel_ack = Unit {0}
SaysOctets (a_receiver_cancel reason) = Unit {0}
SaysOctets a_receiver_cancel_ack = Unit {0}

abbrev WaitsOnOctets : SendingPhase → Type 0
WaitsOnOctets (sender_open c timer) = 1 ≤ length c.body
WaitsOnOctets (sender_cancelling reason timer) = Unit {0}

abbrev IsOfOctets : Sending → Type 0
IsOfOctets s = WaitsOnOctets s.phase

pub record AreOctets (v : View) : Type 0 where
  pub said : AllByRecursion SaysOctets v.by_sender
  pub sender : IfKept (λ s. WaitsOnOctets s.phase) v.sender

cut-octets : (z n at : ℕ) (octets : List ℕ) → 1 ≤ z
    → AllByRecursion HasOctet (segments_from z n at octets)
unfolding segments_from
cut-octets z zero at octets cuts = tt
cut-octets z (suc n) at [] cuts = tt
cut-octets z (suc n) at (octet ∷ octets) cuts = (
  omega (arith, length-take z (octet ∷ octets), cuts),
  cut-octets z n (at + z) (drop z (octet ∷ octets)) cuts,
)

red-octets : (last : ℕ × List ℕ → PieceValue)
    → ((part : ℕ × List ℕ) → HasOctet part → 1 ≤ length (last part).body)
    → (parts : List (ℕ × List ℕ)) → AllByRecursion HasOctet parts
    → AllByRecursion SaysOctets (red_pieces last parts)
unfolding red_pieces
red-octets last of [] all = tt
red-octets last of (part ∷ []) all = (of part all.0, tt)
red-octets last of (part ∷ next ∷ parts) all = (all.0, red-octets last of (next ∷ parts) all.1)

green-octets : (parts : List (ℕ × List ℕ)) → AllByRecursion HasOctet parts
    → AllByRecursion SaysOctets (green_pieces parts)
unfolding green_pieces
green-octets [] all = tt
green-octets (part ∷ []) all = (all.0, tt)
green-octets (part ∷ next ∷ parts) all = (all.0, green-octets (next ∷ parts) all.1)

-- ---- a sender's steps

abbrev StepOctets : StepValue Sending → Type 0
StepOctets t = AllByRecursion SaysOctets t.out × IfKeeps IsOfOctets t.next

report-octets : (policy : PolicyValue) (s : Sending) (x : ReportValue) (now : ℕ)
    → 1 ≤ policy.segment
    → IsOfOctets s → StepOctets (report_step policy s x now)
unfolding report_step
report-octets policy s x now cuts of =
    both_arms StepOctets (nat_lt s.red x.upper) _ _ (tt, tt) (by_phase s.phase of)
  where
    parts : AllByRecursion HasOctet (parts_left (with_claims x.lower x.claims s.claimed)
        (red_segments policy s.block s.red))
    parts = unclaimed-parts HasOctet (with_claims x.lower x.claims s.claimed) _
        (cut-octets policy.segment (length (take s.red s.block)) 0 (take s.red s.block) cuts)

    by_last : (c : PieceValue) → WaitsOnOctets s.phase → (o : Option (ℕ × List ℕ))
        → IfKept HasOctet o
        → StepOctets (sends_again policy (record s
        { claimed = with_claims x.lower x.claims s.claimed }) now
        (parts_left (with_claims x.lower x.claims s.claimed) (red_segments policy s.block s.red))
        (checkpoint_at (length s.block) s.red (c.checkpoint + 1) x.serial) o
        (a_report_ack x.serial ∷ []))
    by_last c was None is = ((tt, tt), was)
    by_last c was (Some part) is = ((tt, red-octets _ (λ p some. some) _ parts), is)

    by_phase : (phase : SendingPhase) → WaitsOnOctets phase
        → StepOctets (takes_report policy s phase x now (a_report_ack x.serial ∷ []))
    by_phase (sender_cancelling reason timer) is = ((tt, tt), tt)
    by_phase (sender_open c timer) is =
        both_arms StepOctets (is_all_claimed (with_claims x.lower x.claims s.claimed)) _ _
        ((tt, tt), tt)
        (both_arms StepOctets (x.checkpoint == c.checkpoint) _ _
        (both_arms StepOctets (is_past_serials (c.checkpoint + 1)) _ _ ((tt, (tt, tt)), tt)
        (by_last c of _ (last-part HasOctet _ parts)))
        ((tt, tt), of))

tick-octets : (policy : PolicyValue) (now : ℕ) (s : Sending) → IsOfOctets s
    → StepOctets (sender_tick policy s now)
unfolding sender_tick
tick-octets policy now s of =
    both_arms StepOctets (nat_le (sending_timer s.phase).deadline now) _ _ (by_phase s.phase of)
    (tt, tt)
  where
    by_phase : (phase : SendingPhase) → WaitsOnOctets phase
        → StepOctets (sender_due policy s phase now)
    by_phase (sender_open c timer) is =
        both_arms StepOctets (nat_lt timer.times policy.limit) _ _ ((is, tt), is) ((tt, tt), tt)
    by_phase (sender_cancelling reason timer) is =
        both_arms StepOctets (nat_lt timer.times policy.limit) _ _ ((tt, tt), tt) (tt, tt)

hears-octets : (policy : PolicyValue) (kept : Option Sending) (content : ContentValue) (now : ℕ)
    (t : StepValue Sending)
    → 1 ≤ policy.segment → IfKept IsOfOctets kept
    → sender_answers policy kept content now ≡ Some t → StepOctets t
unfolding sender_answers
hears-octets policy None (a_report x) now t cuts of hears =
    answered StepOctets _ t hears ((tt, tt), tt)
hears-octets policy (Some s) (a_report x) now t cuts of hears =
    answered StepOctets _ t hears (report-octets policy s x now cuts of)
hears-octets policy None (a_receiver_cancel reason) now t cuts of hears =
    answered StepOctets _ t hears ((tt, tt), tt)
hears-octets policy (Some s) (a_receiver_cancel reason) now t cuts of hears =
    answered StepOctets _ t hears ((tt, tt), tt)
hears-octets policy None a_sender_cancel_ack now t cuts of hears =
    answered StepOctets _ t hears (tt, tt)
hears-octets policy (Some s) a_sender_cancel_ack now t cuts of hears =
    answered StepOctets _ t hears (by_phase s.phase)
  where
    by_phase : (phase : SendingPhase) → StepOctets (ends_cancelling phase)
    by_phase (sender_open c timer) = (tt, tt)
    by_phase (sender_cancelling reason timer) = (tt, tt)
hears-octets policy kept (a_piece q) now t cuts of hears = absurd (cc)
hears-octets policy kept (a_report_ack n) now t cuts of hears = absurd (cc)
hears-octets policy kept (a_sender_cancel n) now t cuts of hears = absurd (cc)
hears-octets policy kept a_receiver_cancel_ack now t cuts of hears = absurd (cc)

begin-octets : (policy : PolicyValue) (n : ℕ) (block : List ℕ) (red now : ℕ) → 1 ≤ policy.segment
    → StepOctets (begin policy n block red now)
unfolding begin
begin-octets policy n block red now cuts = (
  all-append SaysOctets _ _ (red-octets _ (λ p some. some) _ parts)
      (green-octets _ (cut-octets policy.segment (length (drop red block)) red
      (drop red block) cuts)),
  by_last (last_segment (red_segments policy block red)) (last-part HasOctet _ parts),
)
  where
    parts : AllByRecursion HasOctet (red_segments policy block red)
    parts = cut-octets policy.segment (length (take red block)) 0 (take red block) cuts

    by_last : (o : Option (ℕ × List ℕ)) → IfKept HasOctet o
        → IfKeeps IsOfOctets (opened policy block red now
        (checkpoint_at (length block) red (first_serial n) 0) o)
    by_last None is = tt
    by_last (Some part) is = is

-- ---- every run

kept-octets : (c : Change Sending) (kept : Option Sending) → IfKept IsOfOctets kept
    → IfKeeps IsOfOctets c
    → IfKept IsOfOctets (after c kept)
kept-octets stays kept of next = of
kept-octets (keeps s) kept of next = next
kept-octets ends kept of next = tt

moves-octets : (v : View) (t : StepValue Sending) → StepOctets t → AreOctets v
    → (AllByRecursion SaysOctets (v.by_sender ++ t.out))
    × IfKept IsOfOctets (after t.next v.sender)
moves-octets v t step of = (
  all-append SaysOctets v.by_sender t.out of.said step.0,
  kept-octets t.next v.sender of.sender
      step.1,
)

octets-invariant : IsInvariant Cuts no_submissions (λ o n. AreOctets)
octets-invariant = record {
  begins = λ o policy n block red now v cuts told _ within unused of.
      let step = moves-octets v (begin policy n block red now)
      (begin-octets policy n block red now cuts) of in
      record { said = step.0; sender = step.1 };
  sender = λ o n policy v content now t cuts among hears of.
      let step = moves-octets v t (hears-octets policy v.sender content now t cuts of.sender
      hears) of in
      record { said = step.0; sender = step.1 };
  receiver = λ o n policy place v content now t cuts closed among hears of. record
      { said = of.said; sender = of.sender };
  sender_tick = λ o n policy now v s cuts is of.
      let step = moves-octets v (sender_tick policy s now)
      (tick-octets policy now s (subst (IfKept IsOfOctets) is of.sender)) of in
      record { said = step.0; sender = step.1 };
  receiver_tick = λ o n policy now v r cuts is of. record { said = of.said; sender = of.sender };
  evicted = λ o n v r is of. record { said = of.said; sender = of.sender };
}

pub run-octets : (parties : Party × Party) (events : List Event) → ArePeers parties
    → HoldsIn (λ o n. AreOctets) parties (run parties (starts_world parties) events)
run-octets parties events peers =
    holds-run Cuts no_submissions (λ o n. AreOctets) octets-invariant parties
    (starts_world parties) events
    (λ end now. cuts-at parties end peers) peers (λ plan among. tt)
    (holds-start (λ o n. AreOctets) (λ o n. record { said = tt; sender = tt }) parties)

-- ---- blocks that are submitted

pub accepted-length : (p : Party) (e : Engine) (block : List ℕ) (red now : ℕ) (r : Reply)
    → unless_refused (submits p e block red now) ≡ Some r → length block ≤ p.most
unfolding submits
accepted-length p e block red now r is =
    by_tests (length block == 0) (nat_lt p.most (length block)) refl (nat_le (2 ^ 32) e.next)
    (nat_le p.sessions (length e.senders)) is
  where
    by_tests : (empty large : Bool) → nat_lt p.most (length block) ≡ large → (spent busy : Bool)
        → unless_refused (submits_unless (if empty then Some block_empty else if large
        then Some block_too_large else if spent then Some numbers_spent else if busy
        then Some senders_busy else None) p e block red now) ≡ Some r
        → length block ≤ p.most
    by_tests true large is_large spent busy is = absurd (cc)
    by_tests false true is_large spent busy is = absurd (cc)
    by_tests false false is_large true busy is = absurd (cc)
    by_tests false false is_large false true is = absurd (cc)
    by_tests false false is_large false false is = grind (arith, nat_tests)

abbrev IsWithin : Party × Party → Submission → Type 0
IsWithin parties plan = length plan.block ≤ (at_end parties plan.from).most

event-within : (parties : Party × Party) (w : World) (event : Event)
    → AllByRecursion (IsWithin parties) (submissions_at parties w event)
event-within parties w (submit end block red) =
    both_arms (AllByRecursion (IsWithin parties)) (nat_le red (length block)) _ _
    (by_reply (submit_reply parties w end block red) refl) tt
  where
    by_reply : (o : Option Reply) → submit_reply parties w end block red ≡ o
        → AllByRecursion (IsWithin parties) (submission_of end (at_end w.engines end).next block
        red o)
    by_reply None is = tt
    by_reply (Some r) is = (
      accepted-length (at_end parties end) (at_end w.engines end) block red
          w.now r is,
      tt,
    )
event-within parties w (deliver k) = tt
event-within parties w (clock now) = tt

run-within : (parties : Party × Party) (w : World) (events : List Event)
    → AllByRecursion (IsWithin parties) (submissions parties w events)
unfolding submissions
run-within parties w [] = tt
run-within parties w (event ∷ events) =
    all-append (IsWithin parties) (submissions_at parties w event)
    (submissions parties (happens parties w event) events)
    (event-within parties w event) (run-within parties (happens parties w event) events)

pub submitted-within : (parties : Party × Party) (w : World) (events : List Event)
    (plan : Submission)
    → IsIn plan (submissions parties w events)
    → length plan.block ≤ (at_end parties plan.from).most
submitted-within parties w events plan among =
    in-all (IsWithin parties) plan (submissions parties w events) (run-within parties w events)
    among
