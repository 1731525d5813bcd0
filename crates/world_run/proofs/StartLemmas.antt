-- What the first line of a script says, where it sets up a path.
use Rattle.std.proofs.Common.{◌≡◌, ℕ, ◌≤◌, Bool, true, false, List, Result, Ok, Err, inl, inr, refl, sym, ap, arith, if◌then◌else◌}
use Rattle.std.proofs.lemmas.Bool.{le-leb}
use Rattle.endpoint.specs.declared.name.Endpoint.{Endpoint}
use Rattle.endpoint.specs.Endpoints.{IsEndpoint}
use Rattle.ltp_segment.specs.declared.session.TheConstants.{BLOCK_MAX}
use Rattle.ltp_segment.specs.Policy.{PolicyValue, is_between, policy_of}
use Rattle.replay_script.specs.declared.event.Event.{Event}
use Rattle.replay_script.specs.declared.event.Event.TheVariants as events
use Rattle.replay_script.specs.declared.fault.LineFault.{LineFault}
use Rattle.replay_script.specs.declared.fault.LineFault.TheVariants as faults
use Rattle.replay_script.specs.Events.{event_of, is_path_line, Reads}
use Rattle.replay_script.specs.Laws.{IsSoundPath}
use Rattle.replay_script.proofs.PathLemmas.{path_sound}
use Rattle.gate_cases.specs.declared.face.Face.{Face}
use Rattle.gate_cases.specs.declared.face.Face.TheVariants as faces
use Rattle.gateway_core.specs.Gate.{at_face}
use Rattle.path_laws.specs.Path.{path_setup}
use Rattle.path_drain.specs.Hopeful.{IsFitPath, PathsAreFit}
use Rattle.path_drain.specs.CarriedOut.{TakesBlocks}
use Rattle.path_drain.specs.Drained.{PathsAreTimed}
use Rattle.path_drain.specs.Left.{IsTimed}
use Rattle.world_run.specs.World.{PathStart, first_said, start_said, start_in}

-- what was read as a path is one, and the first line says it
module _ (line : List ℕ) (gate : Endpoint) (segment timeout limit cut moment longest : ℕ) where
  abbrev path : Event
  path = events.Path gate segment timeout limit cut moment longest

  first_event : first_said line ≡ Ok path → event_of line ≡ Ok path
  first_event is = by_test (is_path_line line) is
    where
      by_test : (t : Bool) → (if t then event_of line else Err faults.Word) ≡ Ok path → event_of line ≡ Ok path
      by_test true is = is
      by_test false is = absurd (cc)

  pub was_said : Reads (first_said line) (Ok path) → first_said line ≡ Ok path
  was_said (inl is) = sym is
  was_said (inr (memory, some)) = absurd (cc)

  pub read_sound : Reads (first_said line) (Ok path) → IsSoundPath gate segment timeout limit cut longest
  read_sound reads = path_sound line gate segment timeout limit cut moment longest (first_event (was_said reads))

-- the name and the numbers that a line says
pub record StartSays (line : List ℕ) (start : PathStart) : Type 0 where
  pub gate : Endpoint
  pub policy : PolicyValue
  pub cut : ℕ
  pub sound : IsSoundPath gate policy.segment policy.timeout policy.limit cut policy.cap
  pub start_is : start ≡ record { setup = path_setup gate policy cut; now = start.now }

module _ (line : List ℕ) (start : PathStart) where
  by_event : (said : Result Event LineFault) → event_of line ≡ said → start_said said ≡ Ok start → StartSays line start
  by_event (Ok (events.Path gate segment timeout limit cut moment longest)) said is =
      let sound = path_sound line gate segment timeout limit cut moment longest said in
      let same : record {
        setup = path_setup gate (record { segment = segment; timeout = timeout; limit = limit; cap = longest }) cut;
        now = moment;
      } ≡ start = cc in
      rw (sym same) (record {
        gate = gate;
        policy = record { segment = segment; timeout = timeout; limit = limit; cap = longest };
        cut = cut;
        sound = sound;
        start_is = refl;
      })
  by_event (Ok (events.Send old body)) said is = absurd (cc)
  by_event (Ok (events.Deliver k)) said is = absurd (cc)
  by_event (Ok (events.Clock now)) said is = absurd (cc)
  by_event (Ok events.Drain) said is = absurd (cc)
  by_event (Err fault) said is = absurd (cc)

  pub start_says : start_in line ≡ Ok start → StartSays line start
  unfolding start_in
  start_says is = by_test (is_path_line line) is
    where
      by_test : (t : Bool) → start_said (if t then event_of line else Err faults.Word) ≡ Ok start → StartSays line start
      by_test true is = by_event (event_of line) refl is
      by_test false is = absurd (cc)

-- ---- a policy

between : (least most n : ℕ) → (least ≤ n) × (n ≤ most) → is_between least most n ≡ true
between least most n inside = rw (le-leb least n inside.0, le-leb n most inside.1) refl

-- numbers in their ranges are those of a policy
policy-is : (line : List ℕ) (start : PathStart) → (says : StartSays line start)
    → policy_of says.policy.segment says.policy.timeout says.policy.limit says.policy.cap ≡ Ok says.policy
policy-is line start says =
    rw (
      between 512 8192 says.policy.segment says.sound.segments,
      between 1 3600000 says.policy.timeout says.sound.timeouts,
      between 1 100 says.policy.limit says.sound.limits,
      between says.policy.timeout 3600000 says.policy.cap says.sound.caps,
    )
    refl

module _ (line : List ℕ) (start : PathStart) (said : start_in line ≡ Ok start) where
  says : StartSays line start
  says = start_says line start said

  setup-is : start.setup ≡ path_setup says.gate says.policy says.cut
  setup-is = ap (λ (s : PathStart). s.setup) says.start_is

  -- the engines of each link name each other, and are alike
  pub starts_fit : PathsAreFit → IsFitPath start.setup
  starts_fit fit =
      rw setup-is
      (fit says.gate says.policy.segment says.policy.timeout says.policy.limit says.policy.cap says.cut says.policy
      (policy-is line start says))

  -- the gate's take blocks of the greatest length
  pub starts_takes : TakesBlocks start.setup
  starts_takes = rw setup-is (record { each = takes; places = places })
    where
      takes : (face : Face) → (at_face (path_setup says.gate says.policy says.cut).gate.parties face).most ≡ BLOCK_MAX
      takes faces.Old = refl
      takes faces.New = refl

      places : (face : Face) → 64 ≤ (at_face (path_setup says.gate says.policy says.cut).gate.parties face).sessions
      places faces.Old = omega arith
      places faces.New = omega arith

  -- the gate's name has a text
  pub starts_named : IsEndpoint start.setup.gate.gate
  starts_named = rw setup-is says.sound.legal

  -- and every drain of the path ends
  pub starts_timed : PathsAreTimed → IsTimed start.setup BLOCK_MAX
  starts_timed timed =
      rw setup-is
      (timed says.gate says.policy.segment says.policy.timeout says.policy.limit says.policy.cap says.cut says.policy
      (policy-is line start says))
