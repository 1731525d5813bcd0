-- Each event of a drain leaves less to do, or is later.

use Rattle.std.proofs.Common.{◌≡◌, ℕ, zero, suc, ◌+◌, ◌<◌, ◌≤◌, ◌^◌, Bool, true, false, List, [], ◌∷◌, ◌++◌, length, map, drop, Option, None, Some, Ok, IfSome, refl, sym, ◌∙◌, ap, arith, subst}
use Rattle.std.proofs.lemmas.List.{length-append}
use Rattle.std.specs.List.{AllByRecursion, slice_get}
use Rattle.gate_cases.specs.declared.face.Face.{Face}
use Rattle.gate_cases.specs.declared.face.Face.TheVariants as faces
use Rattle.ltp_segment.specs.Reading.{segment_of}
use Rattle.ltp_segment.specs.Spelling.{segment_octets}
use Rattle.ltp_session.specs.Engine.{Engine}
use Rattle.ltp_session.specs.World.{End, at_end, first_end, second_end}
use Rattle.ltp_engine.specs.Shows.{Shows}
use Rattle.ltp_engine.specs.Values.{EngineValue}
use Rattle.path_laws.specs.declared.effects.PathEffects.{PathEffects}
use Rattle.path_laws.specs.Links.{link_parties}
use Rattle.path_laws.specs.Path.{Path, PathEvent, PathSetup, SentFrom, clock_shows, delivers, path_run, path_step}
use Rattle.path_drain.proofs.PathLists.{step-sends}
use Rattle.path_drain.specs.Left.{IsTimed, engine_left, path_burden, path_left}
use Rattle.path_drain.proofs.PathEnds.{clock-now, deliver-now}
use Rattle.path_drain.proofs.PathWears.{path-clock, path-drains-wear-out, runs-reach}
use Rattle.path_world.specs.declared.parts.Parts.{Parts}
use Rattle.path_world.specs.Clean.{LeadsOn}
use Rattle.path_world.specs.Shows.{AreBounded, IsSmallSetup, ShowsPath, ShowsRun, Stands, path_after}
use Rattle.path_world.specs.Steps.{Happens}
use Rattle.path_world.specs.Ties.{IsWhole, value_of}
use Rattle.path_world.specs.Values.{PathValue, path_deadline, setup_of, spelled}
use Rattle.path_world.specs.Work.{datagrams_burden, left_of, most_of, value_left}
use Rattle.path_world.proofs.CallLemmas.{kept-bounded}
use Rattle.path_world.proofs.RunLemmas.{read-back}
use Rattle.path_world.proofs.DrainLemmas.{advance-deliver, advance-tick, clean-delivery, length-sent, path-on, shown-deadline}

-- ---- what is left to deliver

value-left : (most : ℕ) (v : EngineValue) (e : Engine) → Shows v e
    → value_left most v ≡ engine_left most e
value-left most v e shows = rw (shows.next, shows.senders) refl

all-got : {X : Type 0} (P : X → Type 0) (xs : List X)
    → ((k : ℕ) (x : X) → slice_get xs k ≡ Some x → P x) → AllByRecursion P xs
all-got P [] each = tt
all-got P (x ∷ xs) each = (each 0 x refl, all-got P xs (λ k y is. each (suc k) y is))

datagrams-burden : (sent : List SentFrom) (k : ℕ)
    → AllByRecursion (λ (d : SentFrom). segment_of (segment_octets d.segment) ≡ Ok d.segment) sent
    → datagrams_burden (drop k (map spelled sent)) ≡ path_burden (drop k sent)
unfolding datagrams_burden path_burden
datagrams-burden [] zero read = refl
datagrams-burden [] (suc k) read = refl
datagrams-burden (d ∷ sent) zero read = rw (read.0, datagrams-burden sent zero read.1) refl
datagrams-burden (d ∷ sent) (suc k) read = datagrams-burden sent k read.1

left-is : (v : PathValue) (start : ℕ) (events : List PathEvent) (k : ℕ) → ShowsRun v start events
    → left_of v k ≡ path_left (most_of (setup_of v)) (path_after v start events) k
left-is v start events k shows =
    by (path_after v start events) shows.path (most_of (setup_of v)) (all-got
    (λ (d : SentFrom). segment_of (segment_octets d.segment) ≡ Ok d.segment)
    (path_after v start events).sent (λ i d is. read-back v start events i d shows is))
  where
    by : (w : Path) → ShowsPath v w → (most : ℕ)
        → AllByRecursion
        (λ (d : SentFrom). segment_of (segment_octets d.segment) ≡ Ok d.segment) w.sent
        → value_left most v.nodes.0 + value_left most v.gate.engines.0
        + value_left most v.gate.engines.1 + value_left most v.nodes.1
        + datagrams_burden (drop k v.sent) ≡ path_left most w k
    by w shown most read =
        let first = value-left most v.nodes.0 w.nodes.0 shown.old_node in
        let second = value-left most v.gate.engines.0 w.gate.engines.0 shown.gate.old_face in
        let third = value-left most v.gate.engines.1 w.gate.engines.1 shown.gate.new_face in
        let last = value-left most v.nodes.1 w.nodes.1 shown.new_node in
        let sent : datagrams_burden (drop k v.sent) ≡ path_burden (drop k w.sent) =
        ap (λ ds. datagrams_burden (drop k ds)) shown.sent ∙ datagrams-burden w.sent k read in
        omega (arith, first, second, third, last, sent)

-- ---- what ends it

timed : (s : PathSetup) → IsSmallSetup s → IsTimed s (most_of s)
timed s small = record {
  links = λ face. record {
    peers = small.linked.each face;
    first_small = small.first_small face;
    second_small = small.second_small face;
    first_waits = (small.alike.each face).first_waits;
    second_waits = (small.alike.each face).second_waits;
  };
  fits = fits;
}
  where
    fits : (face : Face) (o : End) → (at_end (link_parties s face) o).most ≤ most_of s
    fits faces.Old first_end = omega arith
    fits faces.Old second_end = omega arith
    fits faces.New first_end = omega arith
    fits faces.New second_end = omega arith

-- a step after a run
one-more : (old new : PathValue) (event : PathEvent) (effects : PathEffects) (start : ℕ)
    (events : List PathEvent) → Happens old new event effects
    → path_after new start (events ++ event ∷ [])
    ≡ (path_step (setup_of old) (path_after old start events) event).path
unfolding path_run
one-more old new event effects start events happens =
    path-on old new start events (event ∷ []) happens.setup

pub step-falls : (old new : PathValue) (k : ℕ) (effects : PathEffects) → Stands old
    → k < length old.sent → Happens old new (delivers k) effects
    → left_of new (k + 1) < left_of old k
step-falls old new k effects stands there happens =
    by stands.start stands.events stands.shows
  where
    by : (start : ℕ) (events : List PathEvent) → ShowsRun old start events
        → left_of new (k + 1) < left_of old k
    by start events shows =
        let falls = path-drains-wear-out (setup_of old) start (most_of (setup_of old)) k events
        (delivers k) (timed (setup_of old) shows.setup) (clean-delivery old k there start events shows)
        in
        let before = left-is old start events k shows in
        let since : left_of new (k + 1) ≡ path_left (most_of (setup_of old))
        (path_step (setup_of old) (path_after old start events) (delivers k)).path (k + 1) =
        left-is new start (events ++ delivers k ∷ []) (k + 1) (happens.run start events shows)
        ∙ (ap (λ (s : PathSetup). path_left (most_of s)
        (path_after new start (events ++ delivers k ∷ [])) (k + 1)) happens.setup
        ∙ ap (λ (w : Path). path_left (most_of (setup_of old)) w (k + 1))
        (one-more old new (delivers k) effects start events happens)) in
        subst (λ n. n < left_of old k) (sym since)
        (subst (λ n. path_left (most_of (setup_of old))
        (path_step (setup_of old) (path_after old start events) (delivers k)).path (k + 1) < n)
        (sym before) falls)

-- ---- the clock, and how much was sent

-- at an event that leaves the clock at this moment
after-step : (old new : PathValue) (event : PathEvent) (effects : PathEffects) (moment : ℕ)
    → Stands old → Happens old new event effects
    → ((w : Path) → w.now ≡ old.moment
    → ((path_step (setup_of old) w event).path).now ≡ moment)
    → (new.moment ≡ moment) × (length old.sent ≤ length new.sent)
after-step old new event effects moment stands happens now =
    by stands.start stands.events stands.shows
  where
    by : (start : ℕ) (events : List PathEvent) → ShowsRun old start events
        → (new.moment ≡ moment) × (length old.sent ≤ length new.sent)
    by start events shows =
        let w : Path = path_after old start events in
        let next = happens.run start events shows in
        let at = one-more old new event effects start events happens in (
          sym (next.path).now ∙ (ap (λ (w : Path). w.now) at
              ∙ now (path_after old start events) (shows.path).now),
          let before = length-sent old (path_after old start events) shows.path in
              let since = length-sent new (path_after new start (events ++ event ∷ [])) next.path in
              let same = ap (λ (w : Path). length w.sent) at in
              let sent = ap length (step-sends (setup_of old) (path_after old start events) event) in
              let more = length-append (path_after old start events).sent
              (path_step (setup_of old) (path_after old start events) event).effects.sent in
              omega (arith, before, since, same, sent, more),
        )

pub deliver-clock : (old new : PathValue) (k : ℕ) (effects : PathEffects) → Stands old
    → Happens old new (delivers k) effects
    → (new.moment ≡ old.moment) × (length old.sent ≤ length new.sent)
deliver-clock old new k effects stands happens =
    after-step old new (delivers k) effects old.moment stands happens
    (λ w now. deliver-now (setup_of old) w k ∙ now)

pub tick-clock : (old new : PathValue) (now : ℕ) (effects : PathEffects) → Stands old
    → Happens old new (clock_shows now) effects → old.moment < now
    → (new.moment ≡ now) × (length old.sent ≤ length new.sent)
tick-clock old new now effects stands happens later =
    after-step old new (clock_shows now) effects now stands happens
    (λ w same. clock-now (setup_of old) w now (omega (arith, same, later)))

-- a deadline is after the clock
due-ahead : (v : PathValue) (deadline : ℕ) → Stands v → path_deadline v ≡ Some deadline
    → v.moment < deadline
due-ahead v deadline stands due = by stands.start stands.events stands.shows
  where
    by : (start : ℕ) (events : List PathEvent) → ShowsRun v start events → v.moment < deadline
    by start events shows =
        let ahead = path-clock (setup_of v) (path_after v start events) (most_of (setup_of v))
        deadline (timed (setup_of v) shows.setup) (runs-reach (setup_of v) start events)
        (shown-deadline v (path_after v start events) shows.path ∙ due) in
        let now = (shows.path).now in
        omega (arith, ahead, now)

pub all-ahead : (v : PathValue) (due : Option ℕ) → Stands v → due ≡ path_deadline v
    → IfSome due (λ deadline. v.moment < deadline)
all-ahead v None stands is = tt
all-ahead v (Some deadline) stands is = due-ahead v deadline stands (sym is)

-- ---- as the code has it

-- a world in which memory hasn't run out stands where some run leads
pub live-stands : (spent : Bool) (p : Parts) (v : PathValue) → value_of spent p ≡ v
    → v.spent ≡ false → (spent ≡ false → IsWhole p) → Stands v
live-stands false p v is whole sound = subst Stands is (sound refl).stands
live-stands true p v is whole sound = let no : true ≡ false = ap (λ (v : PathValue). v.spent) is ∙ whole in absurd (cc)

-- and is the same where it is marked so again
pub unspent : (spent : Bool) (p : Parts) (v : PathValue) → value_of spent p ≡ v → v.spent ≡ false
    → value_of false p ≡ v
unspent false p v is whole = is
unspent true p v is whole = let no : true ≡ false = ap (λ (v : PathValue). v.spent) is ∙ whole in absurd (cc)

-- a step is told of, and the world is as the call left it
pub deliver-told : (old mid new : PathValue) (k : ℕ) (effects : PathEffects)
    (before now : List PathEffects) → k < length old.sent → Happens old mid (delivers k) effects
    → new ≡ mid → now ≡ before ++ effects ∷ [] → LeadsOn old new k (k + 1) before now
deliver-told old mid new k effects before now there happens same told =
    subst (λ (v : PathValue). LeadsOn old v k (k + 1) before now) (sym same)
    (subst (λ (steps : List PathEffects). LeadsOn old mid k (k + 1) before steps) (sym told)
    (advance-deliver old mid k effects before there happens))

pub tick-told : (old mid new : PathValue) (deadline : ℕ) (effects : PathEffects)
    (before now : List PathEffects) → Happens old mid (clock_shows deadline) effects
    → deadline < 2 ^ 62 → path_deadline old ≡ Some deadline → new ≡ mid
    → now ≡ before ++ effects ∷ []
    → LeadsOn old new (length old.sent) (length old.sent) before now
tick-told old mid new deadline effects before now happens below due same told =
    subst (λ (v : PathValue). LeadsOn old v (length old.sent) (length old.sent) before now)
    (sym same)
    (subst (λ (steps : List PathEffects). LeadsOn old mid (length old.sent) (length old.sent) before
    steps) (sym told) (advance-tick old mid deadline effects before happens below due))

pub live-bounded : (spent : Bool) (p : Parts) (v : PathValue) → value_of spent p ≡ v
    → v.spent ≡ false → (spent ≡ false → IsWhole p) → AreBounded v
live-bounded false p v is whole sound = subst AreBounded is (kept-bounded false p (sound refl).kept)
live-bounded true p v is whole sound = let no : true ≡ false = ap (λ (v : PathValue). v.spent) is ∙ whole in absurd (cc)
