-- A clock that is set to the contact time that it shows does nothing.

use Rattle.std.proofs.Common.{◌≡◌, ℕ, zero, suc, ◌<◌, false, List, [], ◌∷◌, Option, None, Some, refl, sym, ◌∙◌, arith, subst, nat_le, nat_lt, inl, inr}
use Rattle.std.proofs.lemmas.Bool.{cases_lt}
use Rattle.std.proofs.lemmas.Bool.Decides.{nat_tests}
use Rattle.std.specs.Option.{option_map}
use Rattle.ltp_segment.specs.Policy.{PolicyValue}
use Rattle.ltp_session.specs.Engine.{Engine, Party, earlier, least_deadline, next_deadline, receiver_ticks, sender_ticks, tick_remarks, tick_segments, tick_step}
use Rattle.ltp_session.specs.Receiver.{Receiving, ReceivingPhase, receiver_cancelling, receiver_deadline, receiver_due, receiver_open, receiver_tick, receiving_timer}
use Rattle.ltp_session.specs.Sender.{Sending, sender_deadline, sender_tick}
use Rattle.ltp_session.specs.Step.{StepValue, sending, stays}
use Rattle.ltp_session.specs.World.{World}
use Rattle.ltp_drain.specs.Clean.{link_deadline}
use Rattle.ltp_engine.specs.Effects.{effects_of, nothing_done}
use Rattle.ltp_world.specs.declared.effects.EndEffects.{EndEffects}
use Rattle.ltp_world.specs.Clean.{deadline_in}
use Rattle.ltp_world.specs.Shows.{Stands, link_after}
use Rattle.ltp_world.specs.Steps.{ticks_of}
use Rattle.ltp_world.specs.Steps.{Ticks as LinkTicks}
use Rattle.ltp_world.specs.Values.{WorldValue, parties_of}
use Rattle.ltp_world.proofs.DrainLemmas.{due-ahead, link-deadline}
use Rattle.contact_plan.proofs.ContactLemmas.{closed-stands}
use Rattle.window_world.specs.Quiet.{GapsStandStill, both_quiet}

-- a moment is before a deadline, where there is one
abbrev pub IsBeforeAny : ℕ → Option ℕ → Type 0
IsBeforeAny now None = Unit {0}
IsBeforeAny now (Some deadline) = now < deadline

-- ---- one session

not-yet : (now deadline : ℕ) → now < deadline → nat_le deadline now ≡ false
not-yet now deadline before = grind (arith, nat_tests)

quiet-sender : (policy : PolicyValue) (now : ℕ) (s : Sending) → IsBeforeAny now (sender_deadline s) → sender_tick policy s now ≡ sending stays []
unfolding sender_tick
quiet-sender policy now s before = rw (not-yet now _ before) refl

quiet-receiver : (policy : PolicyValue) (now : ℕ) (r : Receiving) → IsBeforeAny now (receiver_deadline r) → receiver_tick policy r now ≡ sending stays []
unfolding receiver_tick
quiet-receiver policy now r before = by_phase r.phase before
  where
    by_phase : (phase : ReceivingPhase) → IsBeforeAny now (option_map (λ timer. timer.deadline) (receiving_timer phase))
        → receiver_due policy r phase now ≡ sending stays []
    by_phase (receiver_open None) before = refl
    by_phase (receiver_open (Some pending)) before = rw (not-yet now _ before) refl
    by_phase (receiver_cancelling reason timer) before = rw (not-yet now _ before) refl

-- ---- all of them

before-both : (now : ℕ) (a b : Option ℕ) → IsBeforeAny now (earlier a b) → IsBeforeAny now a × IsBeforeAny now b
before-both now None b before = (tt, before)
before-both now (Some a) None before = (before, tt)
before-both now (Some a) (Some b) before = (omega (arith, before), omega (arith, before))

record IsQuiet {S : Type 0} (tick : S → StepValue S) (o : ℕ) (es : List (ℕ × S)) : Type 0 where
  segments : tick_segments tick o es ≡ []
  remarks : tick_remarks tick es ≡ []

quiet-table : {S : Type 0} (tick : S → StepValue S) (deadline : S → Option ℕ) (now o : ℕ) → ((s : S) → IsBeforeAny now (deadline s) → tick s ≡ sending stays [])
    → (es : List (ℕ × S)) → IsBeforeAny now (least_deadline deadline es) → IsQuiet tick o es
unfolding least_deadline tick_segments tick_remarks
quiet-table tick deadline now o quiet [] before = record { segments = refl; remarks = refl }
quiet-table tick deadline now o quiet (e ∷ es) before =
    let both = before-both now (deadline e.1) (least_deadline deadline es) before in
    let here = quiet e.1 both.0 in
    let rest = quiet-table tick deadline now o quiet es both.1 in
    record { segments = rw (here, rest.segments) refl; remarks = rw (here, rest.remarks) refl }

-- ---- an engine

quiet-engine : (p : Party) (e : Engine) (now : ℕ) → IsBeforeAny now (next_deadline e) → effects_of (tick_step p e now).effects ≡ nothing_done
unfolding tick_step
quiet-engine p e now before = rw (senders.segments, receivers.segments, senders.remarks, receivers.remarks) refl
  where
    both : IsBeforeAny now (least_deadline sender_deadline e.senders) × IsBeforeAny now (least_deadline receiver_deadline e.receivers)
    both = before-both now (least_deadline sender_deadline e.senders) (least_deadline receiver_deadline e.receivers) before

    senders : IsQuiet (sender_ticks p now) p.own e.senders
    senders = quiet-table (sender_ticks p now) sender_deadline now p.own (λ s early. quiet-sender p.policy now s early) e.senders both.0

    receivers : IsQuiet (receiver_ticks p now) p.peer e.receivers
    receivers = quiet-table (receiver_ticks p now) receiver_deadline now p.peer (λ r early. quiet-receiver p.policy now r early) e.receivers both.1

-- ---- a link

quiet-ticks : (parties : Party × Party) (w : World) (now : ℕ) → now ≡ w.now → IsBeforeAny now (link_deadline w) → ticks_of parties w now ≡ both_quiet
quiet-ticks parties w now same before =
    let both = before-both now (next_deadline w.engines.0) (next_deadline w.engines.1) before in
    let shown : nat_lt now w.now ≡ false = grind (arith, nat_tests) in
    rw (shown, quiet-engine parties.0 w.engines.0 now both.0, quiet-engine parties.1 w.engines.1 now both.1) refl

ahead-of-all : (v : WorldValue) (o : Option ℕ) → Stands v → deadline_in v ≡ o → IsBeforeAny v.moment o
ahead-of-all v None stands is = tt
ahead-of-all v (Some deadline) stands is = due-ahead v deadline stands is

pub quiet-clock : (old new : WorldValue) (contact : ℕ) (told : List EndEffects) → Stands old → contact ≡ old.moment → LinkTicks old new contact told → told ≡ both_quiet
quiet-clock old new contact told stands same does =
    let shows = stands.shows in
    let w : World = link_after old stands.events in
    let now : contact ≡ (link_after old stands.events).now = same ∙ sym shows.link.now in
    does.1 stands.events shows
    ∙ quiet-ticks (parties_of old) (link_after old stands.events) contact now
    (subst (λ (o : Option ℕ). IsBeforeAny contact o) (sym (link-deadline old (link_after old stands.events) shows.link))
    (subst (λ (n : ℕ). IsBeforeAny n (deadline_in old)) (sym same) (ahead-of-all old (deadline_in old) stands refl)))

-- ---- a gap

pub gaps-stand-still : GapsStandStill
gaps-stand-still plan t zero le closed = let same : t ≡ 0 = omega (arith, le) in rw same refl
gaps-stand-still plan t (suc u) le closed = elim (cases_lt t (suc u)) [
  | inl low ↦ (
      closed-stands plan u (closed u (omega (arith, low)) (omega arith))
      ∙ gaps-stand-still plan t u (omega (arith, low)) (λ m from to. closed m from (omega (arith, to)))
      )
  | inr high ↦ (let same : t ≡ suc u = omega (arith, le, high) in rw same refl)
]
