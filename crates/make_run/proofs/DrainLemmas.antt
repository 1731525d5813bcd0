-- A drain that the code plays is that of the definition.
use Rattle.std.proofs.Common.{◌≡◌, ℕ, ◌<◌, ◌≤◌, Bool, true, false, nat_lt, List, [], ◌∷◌, ◌++◌, length, None, Ok, Err, Result, IsErrAnd, refl, sym, ap, ◌∙◌, arith, if◌then◌else◌}
use Rattle.std.proofs.lemmas.Bool.Decides.{nat_tests}
use Rattle.std.proofs.lemmas.List.{length-map}
use Rattle.std.proofs.lemmas.List.Concat.{flat_map-cons}
use Rattle.edge_traits.specs.declared.status.Status.TheVariants as statuses
use Rattle.command_frame.specs.Lines.{passes, ends_run}
use Rattle.path_laws.specs.declared.effects.PathEffects.{PathEffects}
use Rattle.path_laws.specs.Path.{PathSetup, Path, PathEvent, path_step, path_run, starts_path}
use Rattle.path_laws.specs.Log.{ups_in}
use Rattle.path_drain.specs.Clean.{path_clean_event, path_passed}
use Rattle.path_drain.specs.Drained.{EndsBy, DrainsAreOne}
use Rattle.path_world.specs.declared.drained.PathDrained.{PathDrained}
use Rattle.path_world.specs.Drain.{DrainsAll, DrainsUntilLate, done_in, ups_told}
use Rattle.path_world.specs.Shows.{path_after}
use Rattle.path_world.specs.Values.{PathValue, setup_of, octets_in, spelled, effects_told}
use Rattle.world_run.specs.WrittenLines.{end_words, end_line}
use Rattle.node_run.specs.Wanted.{HasText}
use Rattle.node_run.proofs.TextLineLemmas.{line-some, some-after}
use Rattle.world_run.specs.Wanted.{MayWant}
use Rattle.world_run.specs.World.{says_drain, is_late_if_any, if_kept, drained, no_moment, octets_sent, most_sent, events_text, clean_after, drain_made, drain_text, drains_by}
use Rattle.world_run.specs.Shows.{StandsOn, steps_text}
use Rattle.world_run.proofs.StepLemmas.{run-append}
use Rattle.world_run.proofs.DrainLemmas.{late_turn, clean-text, none-follows, made-is, drained_octets}
use Rattle.make_run.specs.declared.making.Making.{Making}
use Rattle.make_run.specs.declared.stop.Stop.{Stop}
use Rattle.make_run.specs.declared.stop.Stop.TheVariants as stops
use Rattle.make_run.specs.Making.{is_over, count_at_ends}
use Rattle.make_run.specs.Ties.{Takes, Drained}
use Rattle.make_run.specs.Ties.{Drains as DrainsTo}

-- what is told of events are their blocks
ups-told : (s : PathSetup) (w : Path) (events : List PathEvent) → ups_told (done_in s w events) ≡ ups_in s w events
unfolding done_in ups_in
ups-told s w [] = refl
ups-told s w (event ∷ events) =
    flat_map-cons (λ (e : PathEffects). e.ups) (effects_told (length w.sent) (path_step s w event).effects) (done_in s (path_step s w event).path events)
    ∙ ap (λ ups. (path_step s w event).effects.ups ++ ups) (ups-told s (path_step s w event).path events)

-- events of a drain whose clean end is reached, by what the code has of them
pub record Told (done : PathDrained) (after : PathValue) (s : PathSetup) (w : Path) (made : List PathEvent) : Type 0 where
  pub events : done.events ≡ length made
  pub none : clean_after s w made ≡ None
  pub text : steps_text done.effects ++ end_line done.events ≡ drain_text s w made
  pub ups : ups_told done.effects ≡ ups_in s w made
  pub octets : octets_in after.sent ≡ octets_sent (path_run s w made).sent
  pub sent : length after.sent ≡ length (path_run s w made).sent

moved : (P : PathSetup → Path → List PathEvent → Type 0) (s r : PathSetup) (w v : Path) (xs ys : List PathEvent)
    → s ≡ r → w ≡ v → xs ≡ ys → P r v ys → P s w xs
moved P s r w v xs ys setup path events holds = rw (setup, path, events) holds

module _ (one : DrainsAreOne) (old new : PathValue) (s : PathSetup) (w : Path) (stands : StandsOn old s w)
    (same : setup_of new ≡ setup_of old) (done : PathDrained) (all : DrainsAll done old new stands.start stands.events) where
  abbrev begins : Path
  begins = path_after old stands.start stands.events

  abbrev made : List PathEvent
  made = all.clean.events

  none-after : clean_after (setup_of old) begins made ≡ None
  none-after =
      ap (λ x. path_clean_event x (path_passed (length begins.sent) made)) all.clean.leads
      ∙ none-follows all.end (path_passed (length begins.sent) made) all.clean.drained

  sent-are : length new.sent ≡ length (path_run (setup_of old) begins made).sent
  sent-are =
      ap length all.shows.path.sent
      ∙ (length-map (path_after new stands.start (stands.events ++ made)).sent spelled
      ∙ (ap (λ (x : PathSetup). length (path_run x (starts_path x stands.start) (stands.events ++ made)).sent) same
      ∙ ap (λ (x : Path). length x.sent) (run-append (setup_of old) (starts_path (setup_of old) stands.start) stands.events made)))

  told-there : Told done new (setup_of old) begins made
  told-there = record {
    events = sym all.clean.count;
    none = none-after;
    text =
        ap (λ t. steps_text t ++ end_line done.events) all.told
        ∙ (ap (λ t. t ++ end_line done.events) (clean-text (setup_of old) begins (length begins.sent) made all.clean.clean)
        ∙ ap (λ n. events_text (setup_of old) begins made ++ end_line n) (sym all.clean.count));
    ups = ap ups_told all.told ∙ ups-told (setup_of old) begins made;
    octets = drained_octets one old new s w stands same made all.shows;
    sent = sent-are;
  }

  pub told-so : Told done new s w (drain_made s w)
  told-so =
      let ends : EndsBy no_moment (setup_of old) begins (length begins.sent) made =
      record { clean = all.clean.clean; early = all.early; over = rw none-after tt } in
      moved (Told done new) s (setup_of old) w begins (drain_made s w) made stands.setup stands.path
      (made-is one old new s w stands same made ends) told-there

-- ---- what is written of it

-- where the run goes on there is
pub going-text : (s : PathSetup) (w : Path) (made : List PathEvent) → is_over (drains_by s w made) ≡ false → HasText (drains_by s w made)
going-text s w made = by_late (is_late_if_any (clean_after s w made))
  where
    by_most : (t : Bool) → is_over (if t then ends_run [] statuses.Limit else passes (drain_text s w made) drained) ≡ false
        → HasText (if t then ends_run [] statuses.Limit else passes (drain_text s w made) drained)
    by_most true on = absurd (cc)
    by_most false on = some-after (events_text s w made) (end_line (length made)) (line-some (end_words (length made)))

    by_late : (t : Bool)
        → is_over (if t then ends_run [] statuses.Limit else if_kept (drain_text s w made) (path_run s w made) drained) ≡ false
        → HasText (if t then ends_run [] statuses.Limit else if_kept (drain_text s w made) (path_run s w made) drained)
    by_late true on = absurd (cc)
    by_late false on = by_most (nat_lt most_sent (octets_sent (path_run s w made).sent)) on

-- ---- what the code takes of it

module _ (old mid new : Making) (s : PathSetup) (w : Path) (made : List PathEvent) (done : PathDrained)
    (told : Told done mid.path s w made) (sum : mid.sum ≡ old.sum) (ups : mid.ups ≡ old.ups) where
  over-by : is_over (drains_by s w made) ≡ nat_lt most_sent (octets_sent (path_run s w made).sent)
  over-by = rw told.none (by_test (nat_lt most_sent (octets_sent (path_run s w made).sent)))
    where
      by_test : (t : Bool)
          → is_over (if t then ends_run [] statuses.Limit else passes (drain_text s w made) drained) ≡ t
      by_test true = refl
      by_test false = refl

  pub drain-past : most_sent < octets_in mid.path.sent → is_over (drains_by s w made) ≡ true
  drain-past past =
      let high : most_sent < octets_sent (path_run s w made).sent = rw told.octets at past in
      over-by ∙ grind (arith, nat_tests, high)

  -- there are its lines to write
  pub drain-has : octets_in mid.path.sent ≤ most_sent → HasText (drains_by s w made)
  drain-has few =
      let low : octets_sent (path_run s w made).sent ≤ most_sent = rw told.octets at few in
      going-text s w made (over-by ∙ grind (arith, nat_tests, low))

  pub drain-done : octets_in mid.path.sent ≤ most_sent
      → Takes mid new (steps_text done.effects ++ end_line done.events) (count_at_ends (ups_told done.effects))
      → new.path ≡ mid.path → Drained s w made old new done.events
  drain-done few takes path =
      let low : octets_sent (path_run s w made).sent ≤ most_sent = rw told.octets at few in
      record {
        events_are = told.events;
        goes_on = over-by ∙ grind (arith, nat_tests, low);
        takes = record {
          sum = rw (← sum, ← told.text) takes.sum;
          ups = rw (← ups, ← told.ups) takes.ups;
        };
        sent = rw path told.sent;
      }

-- the clock would have passed the last moment
pub drain-late : (one : DrainsAreOne) (old new : PathValue) (s : PathSetup) (w : Path) (stands : StandsOn old s w)
    → setup_of new ≡ setup_of old → DrainsUntilLate old new stands.start stands.events
    → is_over (drains_by s w (drain_made s w)) ≡ true
drain-late one old new s w stands same late =
    late_turn one old new s w stands same late (λ turn. is_over turn ≡ true) refl

-- it stops there
pub drain-stops : (s : PathSetup) (w : Path) (made : List PathEvent) (old new : Making) (stop : Stop)
    → stop ≡ stops.Limit → is_over (drains_by s w made) ≡ true
    → (result : Result ℕ Stop) → IsErrAnd result (λ other. other ≡ stop) → DrainsTo s w made old new result
drain-stops s w made old new stop limit over (Ok events) is = absurd is
drain-stops s w made old new stop limit over (Err stops.Limit) is = over
drain-stops s w made old new stop limit over (Err stops.Memory) is = absurd (cc)

-- memory ran out where it may be wanted
pub drain-out : (s : PathSetup) (w : Path) (made : List PathEvent) (old new : Making) → MayWant old.path says_drain (drains_by s w made)
    → (result : Result ℕ Stop) → IsErrAnd result (λ other. other ≡ stops.Memory) → DrainsTo s w made old new result
drain-out s w made old new wants (Ok events) is = absurd is
drain-out s w made old new wants (Err stops.Limit) is = absurd (cc)
drain-out s w made old new wants (Err stops.Memory) is = wants
