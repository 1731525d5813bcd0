-- How a gateway among other implementations is set up by its file.

use Rattle.std.specs.Prelude.{◌≡◌, ◌≢◌, ℕ, ◌/◌, ◌%◌, ◌+◌, ◌-◌, ◌^◌, ◌<◌, ◌≤◌, nat_le, Bool, true, false, Option, None, Some, IfSome, if◌then◌else◌, refl}
use Rattle.ltp_segment.specs.Policy.{PolicyValue}
use Rattle.ltp_session.specs.Engine.{Party}
use Rattle.ltp_engine.specs.Steps.{wide_party}
use Rattle.block_types.specs.declared.types.BlockTypes.{BlockTypes}
use Rattle.block_types.specs.Pair.{IsPair}
use Rattle.gate_cases.specs.declared.face.Face.{Face}
use Rattle.gate_cases.specs.declared.face.Face.TheVariants as faces
use Rattle.gate_config.specs.declared.file.Age.{Age}
use Rattle.gate_config.specs.declared.file.Age.TheVariants as ages
use Rattle.gate_config.specs.declared.file.BlocksConfig.{BlocksConfig}
use Rattle.gate_config.specs.declared.file.FaceConfig.{FaceConfig}
use Rattle.gate_config.specs.declared.file.ForeignBlocks.{ForeignBlocks}
use Rattle.gate_config.specs.declared.file.ForeignBlocks.TheVariants as blocks
use Rattle.gate_config.specs.declared.file.GateFile.{GateFile}
use Rattle.journal_file.specs.Values.{KeptValue}
use Rattle.gateway_core.specs.Config.{IsGateConfig}
use Rattle.face_room.specs.declared.bounds.Bounds.{Bounds}
use Rattle.gate_face.specs.Schedules.{HasPlan}
use Rattle.gate_records.specs.Keeping.{first_of}
use Rattle.peer_cases.specs.declared.settings.PeerSettings.{PeerSettings}
use Rattle.peer_sessions.specs.Keys.{FaceKeys}
use Rattle.peer_gateway.specs.Keys.{PeerSetup}
use Rattle.peer_half.specs.Types.{is_pair, pair_of}

-- ---- who is at a face, and what it may keep

abbrev pub policy_in : FaceConfig → PolicyValue
policy_in c = record {
  segment = c.segment;
  timeout = c.timeout_ms;
  limit = c.limit;
  cap = c.cap_ms;
}

-- the number of a face's first session: as the file says it, or else by the seconds of the first
-- reading of the wall clock
abbrev pub first_session : Option ℕ → ℕ → ℕ
first_session (Some number) wall = number
first_session None wall = wall / 1000 % 2 ^ 31 + 1

-- where earlier runs reserved the numbers below this one, it is no less
abbrev pub first_in : FaceConfig → Option ℕ → ℕ → ℕ
first_in c None wall = first_session c.first_session wall
first_in c (Some reserved) wall = first_of (first_session c.first_session wall) reserved

-- The engines of both ends, and as many sessions each way as the file says. How many runs of closed numbers an
-- engine keeps isn't looked at here: they are remembered beside it.
abbrev pub party_in : FaceConfig → Option ℕ → ℕ → Party
party_in c reserved wall =
    wide_party c.engine c.peer_engine (first_in c reserved wall) (policy_in c) c.sessions (2 ^ 32 - 1)

abbrev pub bounds_in : FaceConfig → Bounds
bounds_in c = record {
  sessions = c.sessions;
  memory = c.memory;
  wanted = c.aggregate;
  segment = c.segment;
  outbox = c.outbox;
}

abbrev pub keys_in : FaceConfig → Option ℕ → ℕ → FaceKeys
keys_in c reserved wall = record {
  party = party_in c reserved wall;
  bounds = bounds_in c;
  wait_ms = c.aggregate_ms;
  remember = c.remember;
  remember_ms = c.remember_ms;
}

-- ---- what is done with bundles

-- Residues and wraps have these types on the wires, where they may; a file says no others, and with others
-- they would have the usual ones.
unfoldable pub types_where : (residue wrap : ℕ) (may : Bool) → is_pair residue wrap ≡ may → BlockTypes
types_where residue wrap true may = record { residue = residue; wrap = wrap; pair = pair_of residue wrap may }
types_where residue wrap false may = record { residue = 192; wrap = 193; pair = pair_of 192 193 refl }

abbrev pub types_in : BlocksConfig → BlockTypes
types_in b = types_where b.residue_block b.wrap_block (is_pair b.residue_block b.wrap_block) refl

-- whether what only version 6 says is left out
abbrev pub leaves_out : ForeignBlocks → Bool
leaves_out blocks.Wrap = false
leaves_out blocks.Drop = true

-- whether the age of a bundle is raised by its stay
abbrev pub raises_age : Age → Bool
raises_age ages.Raise = true
raises_age ages.Keep = false

abbrev pub settings_in : GateFile → PeerSettings
settings_in file = record {
  types = types_in file.blocks;
  bare = leaves_out (file.blocks).foreign_blocks;
  raises = raises_age (file.gateway).age;
}

-- ---- the gateway

-- the numbers that earlier runs reserved, where a journal is kept
abbrev pub old_reserved : Option KeptValue → Option ℕ
old_reserved None = None
old_reserved (Some kept) = Some kept.old_reserved

abbrev pub new_reserved : Option KeptValue → Option ℕ
new_reserved None = None
new_reserved (Some kept) = Some kept.new_reserved

-- by its file, by what earlier runs kept, where a journal is kept, and by the first reading of the wall
-- clock
abbrev pub setup_in : GateFile → Option KeptValue → ℕ → PeerSetup
setup_in file kept wall = record {
  keys = (keys_in file.old (old_reserved kept) wall, keys_in file.new (new_reserved kept) wall);
  settings = settings_in file;
  gate = (file.gateway).endpoint;
  cut = (file.gateway).cut;
}

-- at which face earlier runs have used all session numbers, the old one first
abbrev pub used_up : GateFile → Option KeptValue → ℕ → Option Face
used_up file kept wall =
    if nat_le (2 ^ 32) (first_in file.old (old_reserved kept) wall) then Some faces.Old
    else if nat_le (2 ^ 32) (first_in file.new (new_reserved kept) wall) then Some faces.New
    else None

-- ---- a file by which a gateway can be set up

pub record IsFace (c : FaceConfig) : Type 0 where
  pub apart : c.engine ≢ c.peer_engine
  pub segment_least : 512 ≤ c.segment
  pub segment_most : c.segment ≤ 8192
  pub timeout_least : 1 ≤ c.timeout_ms
  pub limit_least : 1 ≤ c.limit
  pub limit_most : c.limit ≤ 100
  pub cap_least : c.timeout_ms ≤ c.cap_ms
  pub cap_most : c.cap_ms ≤ 3600000
  pub first : IfSome c.first_session (λ number. (1 ≤ number) × (number < 2 ^ 32))
  pub sessions_least : 1 ≤ c.sessions
  pub sessions_most : c.sessions ≤ 1024
  pub memory_least : 33554432 ≤ c.memory
  pub memory_most : c.memory ≤ 2 ^ 40
  pub aggregate_most : c.aggregate ≤ 4194304
  pub aggregate_ms_least : 1 ≤ c.aggregate_ms
  pub aggregate_ms_most : c.aggregate_ms ≤ 60000
  pub remember_least : 4096 ≤ c.remember
  pub remember_most : c.remember ≤ 16777216
  pub remember_ms_least : 1000 ≤ c.remember_ms
  pub remember_ms_most : c.remember_ms ≤ 604800000
  pub plan : HasPlan c

pub record IsRunnable (file : GateFile) : Type 0 where
  pub gateway : IsGateConfig (file.gateway).endpoint (file.gateway).cut
  pub old : IsFace file.old
  pub new : IsFace file.new
  pub blocks : IsPair (file.blocks).residue_block (file.blocks).wrap_block
