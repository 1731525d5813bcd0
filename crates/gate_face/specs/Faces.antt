-- How a face of a run stands.

use Rattle.std.specs.Prelude.{ℕ, Option, None}
use Rattle.gate_config.specs.declared.file.FaceConfig.{FaceConfig}
use Rattle.outbox.specs.Outbox.{OutboxValue, starts}
use Rattle.outbox.specs.FaceTime.{FaceMoment}
use Rattle.gate_face.specs.Schedules.{schedule_in}

pub record FaceStanding : Type 0 where
  -- the datagrams that wait
  pub outbox : OutboxValue
  -- its own time; none before the first reading of the clocks
  pub time : Option FaceMoment
  -- how many datagrams had been dropped before this half
  pub dropped : ℕ
  -- how many sends failed in this half
  pub lost : ℕ

-- before the first half
abbrev pub starts_face : FaceConfig → FaceStanding
starts_face c = record {
  outbox = starts (schedule_in c) c.outbox;
  time = None;
  dropped = 0;
  lost = 0;
}
