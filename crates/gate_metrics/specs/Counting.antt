-- What is counted at a face: what each thing that happens adds to which counter.

use Rattle.std.specs.Prelude.{ℕ, ◌+◌, ◌-◌, ◌^◌, min}
use Rattle.gate_cases.specs.declared.face.Face.{Face}
use Rattle.gate_cases.specs.declared.face.Face.TheVariants.{Old, New}
use Rattle.gate_cases.specs.declared.case.GateCase.{GateCase}
use Rattle.gate_cases.specs.declared.case.GateCase.TheVariants as cases
use Rattle.gate_metrics.specs.declared.counters.Counted.{Counted}
use Rattle.gate_metrics.specs.declared.counters.Counted.TheVariants as things
use Rattle.gate_metrics.specs.declared.counters.Ended.{Ended}
use Rattle.gate_metrics.specs.declared.counters.Ended.TheVariants as ends
use Rattle.gate_metrics.specs.declared.counters.BlockCounters.{BlockCounters}
use Rattle.gate_metrics.specs.declared.counters.EndCounters.{EndCounters}
use Rattle.gate_metrics.specs.declared.counters.FaceCounters.{FaceCounters}
use Rattle.gate_metrics.specs.declared.counters.Counters.{Counters}

-- a counter with so many more; the greatest number that it can hold stays
abbrev pub more : ℕ → ℕ → ℕ
more count number = min (count + number) (2 ^ 64 - 1)

-- ---- nothing happened

abbrev pub no_blocks : BlockCounters
no_blocks = record {
  passed = 0;
  bad_bundle = 0;
  untranslated = 0;
  expired = 0;
  hop_limit = 0;
  storage = 0;
}

abbrev pub no_ends : EndCounters
no_ends = record { sent = 0; failed = 0; cancelled = 0 }

abbrev pub none_at : FaceCounters
none_at = record {
  blocks = no_blocks;
  datagrams_received = 0;
  octets_received = 0;
  datagrams_sent = 0;
  octets_sent = 0;
  datagrams_dropped = 0;
  sessions_begun = 0;
  sessions_ended = no_ends;
  polls_failed = 0;
  sends_failed = 0;
  foreign_datagrams = 0;
  green_octets = 0;
}

abbrev pub none_counted : Counters
none_counted = record { old = none_at; new = none_at }

-- ---- something happened

-- a block came whole, and became this
abbrev pub block_after : GateCase → BlockCounters → BlockCounters
block_after cases.Passed c = record c { passed = more c.passed 1 }
block_after (cases.BadBundle at cause) c = record c { bad_bundle = more c.bad_bundle 1 }
block_after (cases.Untranslated cause) c = record c { untranslated = more c.untranslated 1 }
block_after cases.Expired c = record c { expired = more c.expired 1 }
block_after cases.HopLimit c = record c { hop_limit = more c.hop_limit 1 }
block_after cases.Storage c = record c { storage = more c.storage 1 }

-- a sending session ended so
abbrev pub end_after : Ended → EndCounters → EndCounters
end_after ends.Sent c = record c { sent = more c.sent 1 }
end_after ends.Failed c = record c { failed = more c.failed 1 }
end_after ends.Cancelled c = record c { cancelled = more c.cancelled 1 }

abbrev pub counters_after : Counted → FaceCounters → FaceCounters
counters_after (things.Block case) c = record c { blocks = block_after case c.blocks }
counters_after (things.Received octets) c = record c {
  datagrams_received = more c.datagrams_received 1;
  octets_received = more c.octets_received octets;
}
counters_after (things.Sent octets) c = record c {
  datagrams_sent = more c.datagrams_sent 1;
  octets_sent = more c.octets_sent octets;
}
counters_after (things.Dropped datagrams) c =
    record c { datagrams_dropped = more c.datagrams_dropped datagrams }
counters_after (things.Begun sessions) c =
    record c { sessions_begun = more c.sessions_begun sessions }
counters_after (things.Ended how) c =
    record c { sessions_ended = end_after how c.sessions_ended }
counters_after things.PollFailed c = record c { polls_failed = more c.polls_failed 1 }
counters_after things.SendFailed c = record c { sends_failed = more c.sends_failed 1 }
counters_after (things.Foreign datagrams) c =
    record c { foreign_datagrams = more c.foreign_datagrams datagrams }
counters_after (things.Green octets) c =
    record c { green_octets = more c.green_octets octets }

-- it happened at a face
abbrev pub counted_at : Face → Counted → Counters → Counters
counted_at Old what c = record c { old = counters_after what c.old }
counted_at New what c = record c { new = counters_after what c.new }
