-- Each line is answered as the definition has it.

use Rattle.std.proofs.Common.{◌≡◌, ℕ, zero, suc, ◌+◌, ◌-◌, ◌<◌, ◌≤◌, ◌^◌, Bool, true, false, not, ◌&&◌, List, [], ◌∷◌, ◌++◌, length, map, Option, None, Some, Result, Ok, Err, IfOk, if◌then◌else◌, nat_lt, nat_le, refl, sym, ◌∙◌, ap, arith, subst}
use Rattle.std.proofs.lemmas.Bool.Decides.{nat_tests}
use Rattle.std.proofs.lemmas.List.{append-nil}
use Rattle.std.specs.List.{slice_get}
use Rattle.edge_traits.specs.declared.status.Status.{Status}
use Rattle.edge_traits.specs.declared.status.Status.TheVariants as statuses
use Rattle.command_frame.specs.Lines.{Turn, TurnsAs, ends_run}
use Rattle.ltp_session.specs.Engine.{EngineStep, Party, SubmitFault}
use Rattle.ltp_session.specs.World.{Sent as LinkSent}
use Rattle.ltp_session.specs.World.{World, clock, deliver, run, submit}
use Rattle.ltp_drain.specs.Clean.{link_deadline}
use Rattle.ltp_drain.specs.Effects.{effects_at}
use Rattle.ltp_drain.specs.Left.{AreTimed}
use Rattle.ltp_engine.specs.declared.effects.Effects.{Effects}
use Rattle.ltp_engine.specs.declared.refused.SubmitRefused.{SubmitRefused}
use Rattle.ltp_engine.specs.declared.refused.SubmitRefused.TheVariants as causes
use Rattle.ltp_engine.specs.Effects.{effects_of}
use Rattle.ltp_engine.specs.Refused.{submit_word as engine_word}
use Rattle.ltp_engine.specs.Steps.{IsFault}
use Rattle.ltp_world.specs.declared.effects.EndEffects.{EndEffects}
use Rattle.ltp_world.specs.declared.ends.End.{End}
use Rattle.ltp_world.specs.declared.ends.End.TheVariants as ends
use Rattle.ltp_world.specs.declared.refused.DeliverRefused.TheVariants as refused
use Rattle.ltp_world.specs.Drain.{told_of}
use Rattle.ltp_world.specs.Ends.{link_end, named}
use Rattle.ltp_world.specs.Shows.{link_after}
use Rattle.ltp_world.specs.Steps.{AreEffects, AreEffectsOf, Happens, submission_at}
use Rattle.ltp_world.specs.Values.{parties_of}
use Rattle.ltp_world.proofs.DrainLemmas.{hears-told, length-sent, link-on, ticks-told}
use Rattle.contact_plan.specs.Windows.{elapsed, is_open, total}
use Rattle.contact_plan.proofs.ContactLemmas.{elapsed-up}
use Rattle.window_world.specs.declared.effects.At.{At}
use Rattle.window_world.specs.declared.effects.WindowDrained.{WindowDrained}
use Rattle.window_world.specs.declared.refused.WindowDeliver.{WindowDeliver}
use Rattle.window_world.specs.declared.refused.WindowDeliver.TheVariants as deliveries
use Rattle.window_world.specs.declared.refused.WindowSubmit.{WindowSubmit}
use Rattle.window_world.specs.declared.refused.WindowSubmit.TheVariants as submits
use Rattle.window_world.specs.Drain.{Drains, EndsAt}
use Rattle.window_world.specs.Made.{drain_events}
use Rattle.window_world.specs.Refused.{submit_word}
use Rattle.window_world.specs.Steps.{Delivers, Submits, Ticks}
use Rattle.window_world.specs.Values.{RunsOnContact, WindowValue, later_of}
use Rattle.link_run.specs.Link.{LinkCourse, LinkSetup, LinkState, ats_of, delivered, delivers, drain_text, drained, drains, drains_by, if_kept, passes_to, sends, submitted}
use Rattle.link_run.specs.Shows.{StandsOn, Stood, TellsUndelivered, capped, is_memory}
use Rattle.link_run.specs.WrittenLines.{count_sent, count_timed, last_line, octets_sent, octets_timed, send_refusal, timed_text, told_text}
use Rattle.link_run.proofs.DrainLemmas.{ats-are, made-is}
use Rattle.link_run.proofs.StepLemmas.{done_turn, events-count}

-- ---- what stands

opens-same : (v : WindowValue) (octets : ℕ) (s : LinkSetup) (c : LinkCourse) → StandsOn v octets s c → is_open s.plan c.moment ≡ is_open v.plan v.moment
opens-same v octets s c stands = ap (λ p. is_open p c.moment) stands.plan ∙ ap (is_open v.plan) stands.moment

same-on : (v v' : WindowValue) (octets : ℕ) (s : LinkSetup) (c : LinkCourse) → StandsOn v octets s c → v' ≡ v → StandsOn v' octets s c
same-on v v' octets s c stands same = subst (λ (x : WindowValue). StandsOn x octets s c) (sym same) stands

-- what tells of an event
abbrev pub Tells : (E : Type 0) → ℕ → ℕ → List EndEffects → Result (Option Status) E → List ℕ → List ℕ → Type 0
Tells E octets sent tolds result before now =
    (state : LinkState) → count_sent tolds ≤ sent
    → IfOk result (TurnsAs (λ x. x ≡ state) (if_kept (octets + octets_sent tolds) (told_text (sent - count_sent tolds) tolds) state) before now)

-- ---- a block

named-end : (end : End) → named (link_end end) ≡ end
named-end ends.First = refl
named-end ends.Second = refl

all-of : (n : ℕ) → nat_le n n ≡ true
all-of n = grind (arith, nat_tests)

told-sent : (parties : Party × Party) (w : World) (end : End) (block : List ℕ) (effects : Effects) (step : EngineStep)
    → submission_at parties w (link_end end) block (length block) ≡ Ok step → effects ≡ effects_of step.effects
    → record { end = end; effects = effects } ∷ [] ≡ map told_of (effects_at parties w (submit (link_end end) block (length block)))
told-sent parties w end block effects step is same = rw (all-of (length block), is, same, named-end end) refl

module _ (E : Type 0) (v v' : WindowValue) (octets octets' : ℕ) (s : LinkSetup) (c : LinkCourse) (end : End) (block : List ℕ) (before now : List ℕ)
    (stands : StandsOn v octets s c) where
  submission-is : submission_at s.parties c.world (link_end end) block (length block)
      ≡ submission_at (parties_of v.link) (link_after v.link stands.events) (link_end end) block (length block)
  submission-is =
      ap (λ (ps : Party × Party). submission_at ps c.world (link_end end) block (length block)) stands.parties
      ∙ ap (λ (w : World). submission_at (parties_of v.link) w (link_end end) block (length block)) stands.world

  pub sent_turn : (effects : Effects) (sent : ℕ) (result : Result (Option Status) E) → Submits v v' end block (length block) (Ok effects) → RunsOnContact v' → sent ≡ length v'.link.sent
      → octets' ≡ capped (octets + octets_sent (record { end = end; effects = effects } ∷ []))
      → Tells E octets sent (record { end = end; effects = effects } ∷ []) result before now
      → IfOk result (TurnsAs (Stood v' octets') (sends s c end block) before now)
  sent_turn effects sent result does contact sent_is counted told =
      rw (opens-same v octets s c stands ∙ does.0)
      (by_step (submission_at s.parties c.world (link_end end) block (length block)) refl
      (subst (AreEffects effects) (sym submission-is) (does.2.1 stands.events stands.shows)))
    where
      by_step : (r : Result EngineStep SubmitFault) → submission_at s.parties c.world (link_end end) block (length block) ≡ r → AreEffects effects r
          → IfOk result (TurnsAs (Stood v' octets') (submitted s c end block r) before now)
      by_step (Ok step) is are =
          done_turn E v v' octets octets' s c (submit (link_end end) block (length block)) c.moment sent (record { end = end; effects = effects } ∷ []) result before now stands
          does.2.0 does.1.whole contact does.1.plan (does.1.moment ∙ sym stands.moment) sent_is
          (told-sent s.parties c.world end block effects step is are) counted told
      by_step (Err fault) is are = absurd are

  unsent-by : (cause : SubmitRefused) → is_open v.plan v.moment ≡ true → v' ≡ v
      → IsFault cause (submission_at s.parties c.world (link_end end) block (length block))
      → now ≡ before ++ send_refusal end (engine_word cause) → TurnsAs (Stood v' octets) (sends s c end block) before now None
  unsent-by cause opens same fault added =
      rw (opens-same v octets s c stands ∙ opens) (by_step (submission_at s.parties c.world (link_end end) block (length block)) fault)
    where
      by_step : (r : Result EngineStep SubmitFault) → IsFault cause r → TurnsAs (Stood v' octets) (submitted s c end block r) before now None
      by_step (Ok step) is = absurd is
      by_step (Err fault) is = (added ∙ ap (λ (x : SubmitRefused). before ++ send_refusal end (engine_word x)) is, same-on v v' octets s c stands same)

  fault-here : (cause : SubmitRefused) → IsFault cause (submission_at (parties_of v.link) (link_after v.link stands.events) (link_end end) block (length block))
      → IsFault cause (submission_at s.parties c.world (link_end end) block (length block))
  fault-here cause fault = subst (IsFault cause) (sym submission-is) fault

  pub unsent_turn : (cause : WindowSubmit) → Submits v v' end block (length block) (Err cause) → is_memory cause ≡ false
      → now ≡ before ++ send_refusal end (submit_word cause) → TurnsAs (Stood v' octets) (sends s c end block) before now None
  unsent_turn submits.Closed does memory added = rw (opens-same v octets s c stands ∙ does.0) (added, same-on v v' octets s c stands does.1)
  unsent_turn (submits.Refused causes.Empty) does memory added = unsent-by causes.Empty does.0 does.1 (fault-here causes.Empty (does.2.1 stands.events stands.shows)) added
  unsent_turn (submits.Refused causes.TooLarge) does memory added = unsent-by causes.TooLarge does.0 does.1 (fault-here causes.TooLarge (does.2.1 stands.events stands.shows)) added
  unsent_turn (submits.Refused causes.NumbersSpent) does memory added =
      unsent-by causes.NumbersSpent does.0 does.1 (fault-here causes.NumbersSpent (does.2.1 stands.events stands.shows)) added
  unsent_turn (submits.Refused causes.Busy) does memory added = unsent-by causes.Busy does.0 does.1 (fault-here causes.Busy (does.2.1 stands.events stands.shows)) added
  unsent_turn (submits.Refused causes.Memory) does memory added = absurd (cc)

  pub unsent_all : (cause : WindowSubmit) (result : Result (Option Status) E) → Submits v v' end block (length block) (Err cause)
      → IfOk result (λ due. (due ≡ None) × (is_memory cause ≡ false) × (now ≡ before ++ send_refusal end (submit_word cause)))
      → IfOk result (TurnsAs (Stood v' octets) (sends s c end block) before now)
  unsent_all cause (Err e) does told = tt
  unsent_all cause (Ok due) does told = subst (λ d. TurnsAs (Stood v' octets) (sends s c end block) before now d) (sym told.0) (unsent_turn cause does told.1 told.2)

-- ---- a datagram

module _ (E : Type 0) (v v' : WindowValue) (octets octets' : ℕ) (s : LinkSetup) (c : LinkCourse) (k : ℕ) (before now : List ℕ) (stands : StandsOn v octets s c) where
  pub delivered_turn : (told : EndEffects) (sent : ℕ) (result : Result (Option Status) E) → Delivers v v' k (Ok told) → RunsOnContact v' → sent ≡ length v'.link.sent
      → octets' ≡ capped (octets + octets_sent (told ∷ [])) → Tells E octets sent (told ∷ []) result before now
      → IfOk result (TurnsAs (Stood v' octets') (delivers s c k) before now)
  delivered_turn told sent result does contact sent_is counted tells =
      rw (opens-same v octets s c stands ∙ does.0) (by_got (slice_get c.world.sent k) refl are)
    where
      are : AreEffectsOf s.parties c.world told (slice_get c.world.sent k)
      are =
          subst (λ (ps : Party × Party). AreEffectsOf ps c.world told (slice_get c.world.sent k)) (sym stands.parties)
          (subst (λ (w : World). AreEffectsOf (parties_of v.link) w told (slice_get w.sent k)) (sym stands.world) (does.2.2 stands.events stands.shows))

      by_got : (got : Option LinkSent) → slice_get c.world.sent k ≡ got → AreEffectsOf s.parties c.world told got
          → IfOk result (TurnsAs (Stood v' octets') (delivered s c k got) before now)
      by_got None is are_now = absurd are_now
      by_got (Some d) is are_now =
          done_turn E v v' octets octets' s c (deliver k) c.moment sent (told ∷ []) result before now stands
          does.2.1 does.1.whole contact does.1.plan (does.1.moment ∙ sym stands.moment) sent_is
          (hears-told s.parties c.world told (slice_get c.world.sent k) are) counted tells

  pub undelivered_turn : (cause : WindowDeliver) → Delivers v v' k (Err cause) → TellsUndelivered cause before now → TurnsAs (Stood v' octets) (delivers s c k) before now None
  undelivered_turn deliveries.Closed does added = rw (opens-same v octets s c stands ∙ does.0) (added, same-on v v' octets s c stands does.1)
  undelivered_turn (deliveries.Refused refused.NoSuchDatagram) does added =
      rw (opens-same v octets s c stands ∙ does.0, none) (added, same-on v v' octets s c stands does.1)
    where
      past : {X : Type 0} (xs : List X) (i : ℕ) → length xs ≤ i → slice_get xs i ≡ None
      past [] i le = refl
      past (x ∷ xs) zero le = absurd (omega (arith, le))
      past (x ∷ xs) (suc i) le = past xs i (omega (arith, le))

      none : slice_get c.world.sent k ≡ None
      none = past c.world.sent k
          (let few = does.2.0 in let same = length-sent v.link (link_after v.link stands.events) stands.shows.link in let is = ap (λ (w : World). length w.sent) stands.world in omega (arith, few, same, is))
  undelivered_turn (deliveries.Refused refused.Memory) does added = absurd added

  pub undelivered_all : (cause : WindowDeliver) (result : Result (Option Status) E) → Delivers v v' k (Err cause)
      → IfOk result (λ due. (due ≡ None) × TellsUndelivered cause before now)
      → IfOk result (TurnsAs (Stood v' octets) (delivers s c k) before now)
  undelivered_all cause (Err e) does told = tt
  undelivered_all cause (Ok due) does told = subst (λ d. TurnsAs (Stood v' octets) (delivers s c k) before now d) (sym told.0) (undelivered_turn cause does told.1)

-- ---- a clock

module _ (E : Type 0) (v v' : WindowValue) (octets octets' : ℕ) (s : LinkSetup) (c : LinkCourse) (moment : ℕ) (before now : List ℕ) (stands : StandsOn v octets s c)
    (early : moment < 2 ^ 62) where
  on-time : nat_le (2 ^ 62) moment ≡ false
  on-time = grind (arith, nat_tests)

  pub back_turn : moment < v.moment → TurnsAs (Stood v octets) (passes_to s c moment) before before None
  back_turn low =
      let is : nat_lt moment c.moment ≡ true = let at = stands.moment in grind (arith, nat_tests) in
      rw (on-time, is) (sym (append-nil before), stands)

  pub passed_turn : (tolds : List EndEffects) (sent : ℕ) (result : Result (Option Status) E) → v.moment ≤ moment → Ticks v v' moment tolds → RunsOnContact v'
      → sent ≡ length v'.link.sent
      → octets' ≡ capped (octets + octets_sent tolds) → Tells E octets sent tolds result before now
      → IfOk result (TurnsAs (Stood v' octets') (passes_to s c moment) before now)
  passed_turn tolds sent result later does contact sent_is counted tells =
      let is : nat_lt moment c.moment ≡ false = let at = stands.moment in grind (arith, nat_tests) in
      rw (on-time, is)
      (done_turn E v v' octets octets' s c (clock (elapsed s.plan moment)) moment sent tolds result before now stands
      (subst (λ p. Happens v.link v'.link (clock (elapsed p moment))) (sym stands.plan) does.link.0) does.whole contact does.plan
      (does.moment ∙ not-back) sent_is tolds_are counted tells)
    where
      not-back : later_of v.moment moment ≡ moment
      not-back = let is : nat_lt moment v.moment ≡ false = grind (arith, nat_tests) in rw is refl

      ahead : nat_lt (elapsed v.plan moment) (link_after v.link stands.events).now ≡ false
      ahead =
          let up = elapsed-up v.plan v.moment moment later in
          let at = stands.shows.link.now in
          let here = stands.contact in
          grind (arith, nat_tests)

      tolds_are : tolds ≡ map told_of (effects_at s.parties c.world (clock (elapsed s.plan moment)))
      tolds_are =
          does.link.1 stands.events stands.shows
          ∙ (ticks-told (parties_of v.link) (link_after v.link stands.events) (elapsed v.plan moment) ahead
          ∙ (ap (λ (w : World). map told_of (effects_at (parties_of v.link) w (clock (elapsed v.plan moment)))) (sym stands.world)
          ∙ (ap (λ (ps : Party × Party). map told_of (effects_at ps c.world (clock (elapsed v.plan moment)))) (sym stands.parties)
          ∙ ap (λ p. map told_of (effects_at s.parties c.world (clock (elapsed p moment)))) (sym stands.plan))))

-- ---- a drain

pub setup-is : (v : WindowValue) (octets : ℕ) (s : LinkSetup) (c : LinkCourse) → StandsOn v octets s c
    → record { parties = parties_of v.link; windows = s.windows; plan = v.plan } ≡ s
setup-is v octets s c stands = rw (← stands.parties, ← stands.plan) refl

pub course-is : (v : WindowValue) (octets : ℕ) (s : LinkSetup) (c : LinkCourse) (stands : StandsOn v octets s c)
    → record { world = link_after v.link stands.events; moment = v.moment; octets = octets } ≡ c
course-is v octets s c stands = rw (← stands.world, ← stands.moment, ← stands.sent) refl

-- which turn it is, by whether windows were given
by-windows : (E : Type 0) (result : Result (Option Status) E) (before now : List ℕ) (w b : Bool) (given other : Turn LinkState) → w ≡ b
    → IfOk result (TurnsAs (λ x. x ≡ drained) (if b then given else other) before now) → IfOk result (TurnsAs (λ x. x ≡ drained) (if w then given else other) before now)
by-windows E result before now w b given other is due = subst (λ (x : Bool). IfOk result (TurnsAs (λ state. state ≡ drained) (if x then given else other) before now)) (sym is) due

stops-by : (before : List ℕ) (w : Bool) (given : Turn LinkState) → w ≡ false
    → TurnsAs (λ x. x ≡ drained) (if w then given else ends_run [] statuses.Limit) before before (Some statuses.Limit)
stops-by before true given is = absurd (cc)
stops-by before false given is = (sym (append-nil before), refl)

-- what tells of a drain
abbrev pub TellsDrain : (E : Type 0) → Bool → ℕ → ℕ → ℕ → WindowDrained → Result (Option Status) E → List ℕ → List ℕ → Type 0
TellsDrain E windows moment octets sent done result before now =
    count_timed done.effects ≤ sent
    → IfOk result (TurnsAs (λ x. x ≡ drained) (if_kept (octets + octets_timed done.effects)
    (timed_text windows moment (sent - count_timed done.effects) done.effects ++ last_line done.plan_ends done.events) drained) before now)

module _ (E : Type 0) (v v' : WindowValue) (octets : ℕ) (s : LinkSetup) (c : LinkCourse) (stands : StandsOn v octets s c) (done : WindowDrained)
    (does : Drains v v' done) where
  abbrev setup : LinkSetup
  setup = record { parties = parties_of v.link; windows = s.windows; plan = v.plan }

  abbrev course : LinkCourse
  course = record { world = link_after v.link stands.events; moment = v.moment; octets = octets }

  made : (does.run.run stands.events stands.shows).made ≡ drain_events (total v.plan) (parties_of v.link) (link_after v.link stands.events) (length (link_after v.link stands.events).sent)
  made = made-is v v' done stands.events stands.is_plan (subst AreTimed stands.parties stands.timed) stands.shows (does.run.run stands.events stands.shows)

  ats : done.effects ≡ ats_of setup (link_after v.link stands.events) (does.run.run stands.events stands.shows).made
  ats = ats-are setup (link_after v.link stands.events) (does.run.run stands.events stands.shows).made done.effects stands.is_plan (does.run.run stands.events stands.shows).moments

  counts : length v'.link.sent ≡ length (link_after v.link stands.events).sent + count_timed done.effects
  counts =
      length-sent v'.link (link_after v'.link (stands.events ++ (does.run.run stands.events stands.shows).made)) (does.run.run stands.events stands.shows).shows.link
      ∙ (ap (λ (l : World). length l.sent) (link-on v.link v'.link stands.events (does.run.run stands.events stands.shows).made does.run.parties)
      ∙ events-count v.plan (parties_of v.link) (link_after v.link stands.events) (does.run.run stands.events stands.shows).made done.effects (does.run.run stands.events stands.shows).moments)

  -- what is written of it
  abbrev Writes : Result (Option Status) E → List ℕ → List ℕ → Bool → ℕ → List At → Bool → ℕ → Type 0
  Writes result before now windows n es plan_ends k =
      IfOk result (TurnsAs (λ x. x ≡ drained) (if_kept (octets + octets_timed es) (timed_text windows v.moment n es ++ last_line plan_ends k) drained) before now)

  told-as : (windows : Bool) (result : Result (Option Status) E) (before now : List ℕ) → s.windows ≡ windows
      → TellsDrain E windows v.moment octets (length v'.link.sent) done result before now → (plan_ends : Bool) → done.plan_ends ≡ plan_ends
      → IfOk result (TurnsAs (λ x. x ≡ drained)
      (if_kept (octets + octets_timed (ats_of setup (link_after v.link stands.events) (does.run.run stands.events stands.shows).made))
      (drain_text setup course (does.run.run stands.events stands.shows).made plan_ends) drained) before now)
  told-as windows result before now given tells plan_ends ends =
      let few : count_timed done.effects ≤ length v'.link.sent = let is = counts in omega (arith, is) in
      let left : length v'.link.sent - count_timed done.effects ≡ length (link_after v.link stands.events).sent = let is = counts in omega (arith, is) in
      subst (λ x. Writes result before now x (length (link_after v.link stands.events).sent)
      (ats_of setup (link_after v.link stands.events) (does.run.run stands.events stands.shows).made) plan_ends (length (does.run.run stands.events stands.shows).made)) (sym given)
      (subst (λ k. Writes result before now windows (length (link_after v.link stands.events).sent)
      (ats_of setup (link_after v.link stands.events) (does.run.run stands.events stands.shows).made) plan_ends k) (sym (does.run.run stands.events stands.shows).count)
      (subst (λ b. Writes result before now windows (length (link_after v.link stands.events).sent)
      (ats_of setup (link_after v.link stands.events) (does.run.run stands.events stands.shows).made) b done.events) ends
      (subst (λ es. Writes result before now windows (length (link_after v.link stands.events).sent) es done.plan_ends done.events) ats
      (subst (λ n. Writes result before now windows n done.effects done.plan_ends done.events) left (tells few)))))

  -- by how it ended
  ended : (windows : Bool) (result : Result (Option Status) E) (before now : List ℕ) → s.windows ≡ windows
      → (done.plan_ends && not windows) ≡ false
      → TellsDrain E windows v.moment octets (length v'.link.sent) done result before now
      → (plan_ends : Bool) → done.plan_ends ≡ plan_ends → (due : Option ℕ) → link_deadline (run (parties_of v.link) (link_after v.link stands.events) (does.run.run stands.events stands.shows).made) ≡ due
      → EndsAt v.plan plan_ends due
      → IfOk result (TurnsAs (λ x. x ≡ drained) (drains_by setup course (does.run.run stands.events stands.shows).made due) before now)
  ended windows result before now given goes tells false ends None due_is by = told-as windows result before now given tells false ends
  ended windows result before now given goes tells false ends (Some due) due_is by = absurd (cc)
  ended windows result before now given goes tells true ends None due_is by = absurd by
  ended true result before now given goes tells true ends (Some due) due_is by =
      by-windows E result before now s.windows true _ _ given (told-as true result before now given tells true ends)
  ended false result before now given goes tells true ends (Some due) due_is by = absurd (let is : (done.plan_ends && not false) ≡ true = rw ends refl in cc)

  -- the definition's drain, by the events that were made
  drains-are : drains setup course ≡ drains_by setup course (does.run.run stands.events stands.shows).made
      (link_deadline (run (parties_of v.link) (link_after v.link stands.events) (does.run.run stands.events stands.shows).made))
  drains-are = ap (λ m. drains_by setup course m (link_deadline (run (parties_of v.link) (link_after v.link stands.events) m))) (sym made)

  here : drains setup course ≡ drains s c
  here = ap (λ x. drains x course) (setup-is v octets s c stands) ∙ ap (λ x. drains s x) (course-is v octets s c stands)

  pub drained_turn : (windows : Bool) (result : Result (Option Status) E) (before now : List ℕ) → s.windows ≡ windows → (done.plan_ends && not windows) ≡ false
      → TellsDrain E windows v.moment octets (length v'.link.sent) done result before now
      → IfOk result (TurnsAs (λ x. x ≡ drained) (drains s c) before now)
  drained_turn windows result before now given goes tells =
      subst (λ turn. IfOk result (TurnsAs (λ x. x ≡ drained) turn before now)) (sym drains-are ∙ here)
      (ended windows result before now given goes tells done.plan_ends refl
      (link_deadline (run (parties_of v.link) (link_after v.link stands.events) (does.run.run stands.events stands.shows).made)) refl (does.run.run stands.events stands.shows).ends)

  stopped : (windows : Bool) (before : List ℕ) → s.windows ≡ windows → (plan_ends : Bool) → (plan_ends && not windows) ≡ true → (due : Option ℕ) → EndsAt v.plan plan_ends due
      → TurnsAs (λ x. x ≡ drained) (drains_by setup course (does.run.run stands.events stands.shows).made due) before before (Some statuses.Limit)
  stopped windows before given false is due by = absurd (cc)
  stopped windows before given true is None by = absurd by
  stopped true before given true is (Some due) by = absurd (cc)
  stopped false before given true is (Some due) by = stops-by before s.windows _ given

  pub limited_turn : (windows : Bool) (before : List ℕ) → s.windows ≡ windows → (done.plan_ends && not windows) ≡ true
      → TurnsAs (λ x. x ≡ drained) (drains s c) before before (Some statuses.Limit)
  limited_turn windows before given is =
      subst (λ turn. TurnsAs (λ x. x ≡ drained) turn before before (Some statuses.Limit)) (sym drains-are ∙ here)
      (stopped windows before given done.plan_ends is
      (link_deadline (run (parties_of v.link) (link_after v.link stands.events) (does.run.run stands.events stands.shows).made)) (does.run.run stands.events stands.shows).ends)
