-- What happens to a path world is one event of every run where it stands.

use Rattle.std.proofs.Common.{◌≡◌, ℕ, zero, suc, ◌<◌, ◌≤◌, false, true, List, [], ◌∷◌, ◌++◌, length, map, take, None, Some, Ok, refl, sym, ap, ◌∙◌, subst, arith, nat_lt}
use Rattle.std.proofs.lemmas.Bool.Decides.{nat_tests}
use Rattle.std.proofs.lemmas.List.{append-nil, append_assoc, length-map}
use Rattle.std.specs.List.{slice_get}
use Rattle.gate_cases.specs.declared.face.Face.{Face}
use Rattle.ltp_laws.proofs.WritableLemmas.{segments_can_be_written}
use Rattle.ltp_segment.specs.Reading.{segment_of}
use Rattle.ltp_segment.specs.Spelling.{segment_octets}
use Rattle.ltp_segment.specs.Values.{SegmentValue}
use Rattle.ltp_segment.proofs.WritingLemmas.{segment-again}
use Rattle.ltp_session.specs.World.{World, clock}
use Rattle.path_laws.specs.declared.effects.PathEffects.{PathEffects}
use Rattle.path_laws.specs.Laws.{ReceivedAsSent}
use Rattle.path_laws.specs.Links.{link_parties, link_sent, sent_on, link_events}
use Rattle.path_laws.specs.Log.{ups_in}
use Rattle.path_laws.specs.Path.{Path, PathSetup, PathStep, PathEvent, SentFrom, delivers, clock_shows, comes_to, delivers_if, nothing_done, path_step, path_run, starts_path}
use Rattle.path_laws.specs.Places.{Stand, at_node, at_gate, across, link_of, stand_of}
use Rattle.path_laws.proofs.RunLemmas.{got-on, whole-chunk}
use Rattle.path_world.specs.declared.parts.Parts.{Parts}
use Rattle.path_world.specs.declared.sent.Sent.{Sent}
use Rattle.path_world.specs.HandedUp.{AsSent}
use Rattle.path_world.specs.Shows.{ShowsPath, IsSmallSetup, ShowsRun, Stands, path_after}
use Rattle.path_world.specs.Steps.{Happens, Stays}
use Rattle.path_world.specs.Ties.{live, setup_in, IsKept, IsWhole, Does, Did, hears_as}
use Rattle.path_world.specs.Values.{PathValue, setup_of, spelled, numbered, effects_told, nothing_told}

-- ---- one more event

run-more : (s : PathSetup) (w : Path) (events : List PathEvent) (event : PathEvent)
    → path_run s w (events ++ event ∷ []) ≡ (path_step s (path_run s w events) event).path
unfolding path_run
run-more s w [] event = refl
run-more s w (e ∷ events) event = run-more s (path_step s w e).path events event

ups-more : (s : PathSetup) (w : Path) (events : List PathEvent) (event : PathEvent)
    → ups_in s w (events ++ event ∷ []) ≡ ups_in s w events ++ (path_step s (path_run s w events) event).effects.ups
unfolding path_run ups_in
ups-more s w [] event = append-nil (path_step s w event).effects.ups
ups-more s w (e ∷ events) event =
    ap (λ us. (path_step s w e).effects.ups ++ us) (ups-more s (path_step s w e).path events event)
    ∙ sym (append_assoc (path_step s w e).effects.ups (ups_in s (path_step s w e).path events) (path_step s (path_run s (path_step s w e).path events) event).effects.ups)

-- what a new value shows of an event's step, wherever the old one stands
pub record StepShown (old new : PathValue) (step : PathStep) (effects : PathEffects) : Type 0 where
  pub shows : ShowsPath new step.path
  pub told : effects ≡ effects_told (length old.sent) step.effects

pub happens-by : (old new : PathValue) (event : PathEvent) (effects : PathEffects) → new.spent ≡ false → setup_of new ≡ setup_of old
    → ((start : ℕ) (events : List PathEvent) → ShowsRun old start events → StepShown old new (path_step (setup_of old) (path_after old start events) event) effects)
    → Happens old new event effects
happens-by old new event effects whole same each = record {
  whole = whole;
  setup = same;
  run = λ start events shows. record {
    setup = subst IsSmallSetup (sym same) shows.setup;
    path = subst (λ s. ShowsPath new (path_run s (starts_path s start) (events ++ event ∷ []))) (sym same)
        (subst (ShowsPath new) (sym (run-more (setup_of old) (starts_path (setup_of old) start) events event)) (each start events shows).shows);
  };
  told = λ start events shows. (each start events shows).told;
}

-- ---- nothing happens

pub none-told : (k : ℕ) → nothing_told ≡ effects_told k nothing_done
unfolding numbered
none-told k = refl

pub stays-by : (v : PathValue) (event : PathEvent) → v.spent ≡ false
    → ((start : ℕ) (events : List PathEvent) → ShowsRun v start events
    → path_step (setup_of v) (path_after v start events) event ≡ record { path = path_after v start events; effects = nothing_done })
    → Stays v v event
stays-by v event whole same = record {
  same = refl;
  happens = happens-by v v event nothing_told whole refl (λ start events shows. subst (λ step. StepShown v v step nothing_told) (sym (same start events shows))
      (record { shows = shows.path; told = none-told (length v.sent) }));
}

-- there are as many segments as datagrams
same-length : (v : PathValue) (w : Path) → ShowsPath v w → length w.sent ≡ length v.sent
same-length v w shows = sym (ap (λ (ds : List Sent). length ds) shows.sent ∙ length-map w.sent spelled)

get-none : {X : Type 0} (xs : List X) (k : ℕ) → length xs ≤ k → slice_get xs k ≡ None
get-none [] k past = refl
get-none (x ∷ xs) zero past = absurd (omega (arith, past))
get-none (x ∷ xs) (suc k) past = get-none xs k (omega (arith, past))

pub no-datagram : (v : PathValue) (k : ℕ) → v.spent ≡ false → length v.sent ≤ k → Stays v v (delivers k)
unfolding path_step
no-datagram v k whole past = stays-by v (delivers k) whole (λ start events shows.
    ap (λ got. delivers_if (setup_of v) (path_after v start events) got)
    (get-none (path_after v start events).sent k (subst (λ n. n ≤ k) (sym (same-length v (path_after v start events) shows.path)) past)))

less : (a b : ℕ) → a < b → nat_lt a b ≡ true
less a b is = grind (arith, nat_tests)

not_less : (a b : ℕ) → b ≤ a → nat_lt a b ≡ false
not_less a b is = grind (arith, nat_tests)

pub clock-stays : (v : PathValue) (now : ℕ) → v.spent ≡ false → now < v.moment → Stays v v (clock_shows now)
unfolding path_step
clock-stays v now whole back = stays-by v (clock_shows now) whole (λ start events shows.
    rw (less now (path_after v start events).now (subst (λ n. now < n) (sym shows.path.now) back)) refl)

-- ---- a step happened

did-stands : (old new : PathValue) (event : PathEvent) (effects : PathEffects) → Stands old → Happens old new event effects → Stands new
did-stands old new event effects stands happens = record {
  start = stands.start;
  events = stands.events ++ event ∷ [];
  shows = happens.run stands.start stands.events stands.shows;
}

pub did-so : (a c : Parts) (event : PathEvent) (effects : PathEffects) → IsWhole a → IsKept c → Happens (live a) (live c) event effects → Did a c event effects
did-so a c event effects whole kept happens = record {
  whole = record { kept = kept; stands = did-stands (live a) (live c) event effects whole.stands happens };
  happens = happens;
}

-- where the step of the definition is one that the parts did
pub does-happen : (a c : Parts) (step : Path → PathStep) (event : PathEvent) (effects : PathEffects) → Does a c step effects
    → ((start : ℕ) (events : List PathEvent) → ShowsRun (live a) start events → step (path_after (live a) start events) ≡ path_step (setup_in a) (path_after (live a) start events) event)
    → Happens (live a) (live c) event effects
does-happen a c step event effects does same =
    happens-by (live a) (live c) event effects refl does.setup (λ start events shows.
    subst (λ st. StepShown (live a) (live c) st effects) (same start events shows) (record {
      shows = does.next (path_after (live a) start events) shows.path;
      told = does.told (path_after (live a) start events) shows.path;
    }))

-- ---- a datagram is read back

got-spelled : (sent : List SentFrom) (k : ℕ) (item : Sent) → slice_get (map spelled sent) k ≡ Some item → (d : SentFrom) × (slice_get sent k ≡ Some d) × (item ≡ spelled d)
got-spelled [] k item is = absurd (cc)
got-spelled (d ∷ sent) zero item is = (d, refl, cc)
got-spelled (d ∷ sent) (suc k) item is = got-spelled sent k item is

pub read-back : (v : PathValue) (start : ℕ) (events : List PathEvent) (k : ℕ) (d : SentFrom) → ShowsRun v start events → slice_get (path_after v start events).sent k ≡ Some d
    → segment_of (segment_octets d.segment) ≡ Ok d.segment
read-back v start events k d shows is =
    let face : Face = link_of d.from in
    let s : PathSetup = setup_of v in
    let there = got-on (link_of d.from) (path_after v start events).sent k d is refl in
    segment-again d.segment
    (segments_can_be_written (link_parties s face) (clock start ∷ link_events face s (starts_path s start) events) (shows.setup.linked.each face)
    (shows.setup.first_small face) (shows.setup.second_small face) (length (sent_on face (take k (path_after v start events).sent))) (link_sent d)
    (subst (λ (w : World). slice_get w.sent (length (sent_on (link_of d.from) (take k (path_after v start events).sent))) ≡ Some (link_sent d)) (whole-chunk (link_of d.from) (setup_of v) start events).runs there))

comes-as : (s : PathSetup) (w : Path) (stand : Stand) (segment : SegmentValue) → hears_as s stand (Ok segment) w ≡ comes_to s w stand segment
comes-as s w (at_node end) segment = refl
comes-as s w (at_gate face) segment = refl

pub delivered : (a c : Parts) (k : ℕ) (item : Sent) (effects : PathEffects) → IsWhole a → slice_get a.sent k ≡ Some item
    → Does a c (hears_as (setup_in a) (stand_of (across item.from)) (segment_of item.datagram)) effects → Did a c (delivers k) effects
unfolding path_step
delivered a c k item effects whole is does =
    did-so a c (delivers k) effects whole does.kept
    (does-happen a c (hears_as (setup_in a) (stand_of (across item.from)) (segment_of item.datagram)) (delivers k) effects does each)
  where
    each : (start : ℕ) (events : List PathEvent) → ShowsRun (live a) start events
        → hears_as (setup_in a) (stand_of (across item.from)) (segment_of item.datagram) (path_after (live a) start events)
        ≡ path_step (setup_in a) (path_after (live a) start events) (delivers k)
    each start events shows =
        let w : Path = path_after (live a) start events in
        let found : slice_get (map spelled w.sent) k ≡ Some item = subst (λ ds. slice_get ds k ≡ Some item) shows.path.sent is in
        let (d, got, same) = got-spelled (path_after (live a) start events).sent k item found in
        ap (λ (i : Sent). hears_as (setup_in a) (stand_of (across i.from)) (segment_of i.datagram) (path_after (live a) start events)) same
        ∙ (ap (λ read. hears_as (setup_in a) (stand_of (across d.from)) read (path_after (live a) start events)) (read-back (live a) start events k d shows got)
        ∙ (comes-as (setup_in a) (path_after (live a) start events) (stand_of (across d.from)) d.segment
        ∙ ap (λ got. delivers_if (setup_in a) (path_after (live a) start events) got) (sym got)))

-- ---- what is handed up

pub sent-once : ReceivedAsSent → (old new : PathValue) (event : PathEvent) (effects : PathEffects) → Happens old new event effects → AsSent old event effects.ups
sent-once law old new event effects happens start events shows = record {
  more =
      ups-more (setup_of old) (starts_path (setup_of old) start) events event
      ∙ ap (λ us. ups_in (setup_of old) (starts_path (setup_of old) start) events ++ us) (sym (ap (λ (e : PathEffects). e.ups) (happens.told start events shows)));
  hands_on = law (setup_of old) start (events ++ event ∷ []) shows.setup.linked;
}
