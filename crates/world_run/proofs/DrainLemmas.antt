-- A drain that the code makes is that of the definition.
use Rattle.std.proofs.Common.{◌≡◌, ℕ, ◌<◌, Bool, true, false, nat_lt, List, [], ◌∷◌, ◌++◌, length, Option, None, Some, refl, sym, ap, ◌∙◌, arith, if◌then◌else◌}
use Rattle.std.proofs.lemmas.Bool.Decides.{nat_tests}
use Rattle.std.proofs.Math.Path.{subst}
use Rattle.std.proofs.lemmas.List.Concat.{flat_map-cons}
use Rattle.std.specs.Option.{option_map}
use Rattle.edge_traits.specs.declared.status.Status.TheVariants as statuses
use Rattle.command_frame.specs.Lines.{Turn, passes, ends_run}
use Rattle.ltp_segment.specs.declared.session.TheConstants.{BLOCK_MAX}
use Rattle.path_laws.specs.Path.{PathSetup, Path, PathEvent, sends, delivers, clock_shows, path_step, path_run, starts_path}
use Rattle.path_drain.specs.Clean.{AreCleanOnPath, IsPathDrained, path_clean_event, path_deadline, path_passed, path_passed_after}
use Rattle.path_drain.specs.Left.{IsOverBy, IsTimed}
use Rattle.path_drain.specs.Drained.{EndsBy, DrainsAreOne}
use Rattle.path_world.specs.declared.drained.PathDrained.{PathDrained}
use Rattle.path_world.specs.Drain.{DrainsAll, DrainsUntilLate, IsLate, done_in}
use Rattle.path_world.specs.Shows.{ShowsRun, path_after}
use Rattle.path_world.specs.Values.{PathValue, setup_of, octets_in, effects_told}
use Rattle.world_run.specs.WrittenLines.{end_line}
use Rattle.world_run.specs.World.{WorldState, drained, no_moment, octets_sent, most_sent, unless_there, refused_text, event_text, events_text, clean_after, is_late_if_any, drain_made, drain_text, drains_by}
use Rattle.world_run.specs.Shows.{StandsOn, steps_text, told_text}
use Rattle.world_run.proofs.StepLemmas.{run-append, spelled-octets, there, told-text}

-- ---- what a clean event writes

-- it is done
module _ (s : PathSetup) (w : Path) (event : PathEvent) where
  by_deadline : (due : Option ℕ) → option_map clock_shows due ≡ Some event → refused_text s w event ≡ []
  by_deadline None is = absurd (cc)
  by_deadline (Some now) is =
      let same : clock_shows now ≡ event = cc in
      subst (λ e. refused_text s w e ≡ []) same refl

  delivered : (c : ℕ) → c < length w.sent → Some (delivers c) ≡ Some event → refused_text s w event ≡ []
  delivered c inside is =
      let (d, found) = there w.sent c inside in
      let same : delivers c ≡ event = cc in
      subst (λ e. refused_text s w e ≡ []) same (ap unless_there found)

  pub clean-done : (c : ℕ) → path_clean_event w c ≡ Some event → refused_text s w event ≡ []
  clean-done c is = by_test (nat_lt c (length w.sent)) refl is
    where
      by_test : (t : Bool) → nat_lt c (length w.sent) ≡ t
          → (if t then Some (delivers c) else option_map clock_shows (path_deadline w)) ≡ Some event
          → refused_text s w event ≡ []
      by_test true low is = delivered c (grind (arith, nat_tests, low)) is
      by_test false low is = by_deadline (path_deadline w) is

-- so its lines are those of what it does
pub clean-text : (s : PathSetup) (w : Path) (c : ℕ) (events : List PathEvent) → AreCleanOnPath s w c events
    → steps_text (done_in s w events) ≡ events_text s w events
unfolding done_in events_text event_text
clean-text s w c [] clean = refl
clean-text s w c (event ∷ events) clean =
    let rest = clean-text s (path_step s w event).path (path_passed_after c event) events clean.1 in
    rw (
      flat_map-cons told_text (effects_told (length w.sent) (path_step s w event).effects) (done_in s (path_step s w event).path events),
      told-text (length w.sent) (path_step s w event).effects,
      clean-done s w event c clean.0,
      rest,
    )
    refl

-- ---- where a drain ends

pub none-follows : (w : Path) (c : ℕ) → IsPathDrained w c → path_clean_event w c ≡ None
none-follows w c drained_so =
    let past : nat_lt c (length w.sent) ≡ false = grind (arith, nat_tests, drained_so.delivered) in
    rw (past, drained_so.no_timer) refl

late-over : (next : Option PathEvent) → IsLate next → IsOverBy no_moment next
late-over None late = absurd late
late-over (Some (sends end block)) late = absurd late
late-over (Some (delivers k)) late = absurd late
late-over (Some (clock_shows now)) late = late

late-next : (next : Option PathEvent) → IsLate next → is_late_if_any next ≡ true
late-next None late = absurd late
late-next (Some (sends end block)) late = absurd late
late-next (Some (delivers k)) late = absurd late
late-next (Some (clock_shows now)) late = grind (arith, nat_tests, late)

-- ---- the drain

module _ (one : DrainsAreOne) (old new : PathValue) (s : PathSetup) (w : Path) (stands : StandsOn old s w)
    (same : setup_of new ≡ setup_of old) where
  abbrev begins : Path
  begins = path_after old stands.start stands.events

  timed : IsTimed (setup_of old) BLOCK_MAX
  timed = subst (λ x. IsTimed x BLOCK_MAX) stands.setup stands.timed

  -- the events that were made are those of the definition
  module _ (made : List PathEvent) (ends : EndsBy no_moment (setup_of old) begins (length begins.sent) made) where
    pub made-is : drain_made s w ≡ made
    made-is =
        rw (stands.path, stands.setup)
        (sym (one (setup_of old) stands.start BLOCK_MAX (length begins.sent) no_moment stands.events made timed ends))

    by-made : (P : Turn WorldState → Type 0) → P (drains_by (setup_of old) begins made) → P (drains_by s w (drain_made s w))
    by-made P holds = rw (made-is, stands.path, stands.setup) holds

  pub drained_octets : (made : List PathEvent) → ShowsRun new stands.start (stands.events ++ made)
      → octets_in new.sent ≡ octets_sent (path_run (setup_of old) begins made).sent
  drained_octets made shows =
      ap octets_in shows.path.sent
      ∙ (spelled-octets (path_after new stands.start (stands.events ++ made)).sent
      ∙ (ap (λ (x : PathSetup). octets_sent (path_run x (starts_path x stands.start) (stands.events ++ made)).sent) same
      ∙ ap (λ (x : Path). octets_sent x.sent) (run-append (setup_of old) (starts_path (setup_of old) stands.start) stands.events made)))

  -- nothing was left to do, and what was done was written unless it passed the limit
  module _ (done : PathDrained) (all : DrainsAll done old new stands.start stands.events) where
    abbrev made : List PathEvent
    made = all.clean.events

    none : clean_after (setup_of old) begins made ≡ None
    none =
        ap (λ x. path_clean_event x (path_passed (length begins.sent) made)) all.clean.leads
        ∙ none-follows all.end (path_passed (length begins.sent) made) all.clean.drained

    text : steps_text done.effects ++ end_line done.events ≡ drain_text (setup_of old) begins made
    text =
        ap (λ t. steps_text t ++ end_line done.events) all.told
        ∙ (ap (λ t. t ++ end_line done.events) (clean-text (setup_of old) begins (length begins.sent) made all.clean.clean)
        ∙ ap (λ n. events_text (setup_of old) begins made ++ end_line n) (sym all.clean.count))

    turn : (if nat_lt most_sent (octets_in new.sent) then ends_run [] statuses.Limit
        else passes (steps_text done.effects ++ end_line done.events) drained)
        ≡ drains_by (setup_of old) begins made
    turn = rw (none, text, drained_octets made all.shows) refl

    pub drained_turn : (P : Turn WorldState → Type 0)
        → P (if nat_lt most_sent (octets_in new.sent) then ends_run [] statuses.Limit
        else passes (steps_text done.effects ++ end_line done.events) drained)
        → P (drains_by s w (drain_made s w))
    drained_turn P told =
        let ends : EndsBy no_moment (setup_of old) begins (length begins.sent) made =
        record { clean = all.clean.clean; early = all.early; over = rw none tt } in
        by-made made ends P (subst P turn told)

  -- the clock would have passed the last moment
  pub late_turn : DrainsUntilLate old new stands.start stands.events → (P : Turn WorldState → Type 0)
      → P (ends_run [] statuses.Limit) → P (drains_by s w (drain_made s w))
  late_turn late P told =
      let next = late-next (clean_after (setup_of old) begins late.made) late.late in
      let over = late-over (clean_after (setup_of old) begins late.made) late.late in
      by-made late.made (record { clean = late.clean; early = late.early; over = over }) P (rw next told)
