-- What stands in a block that was handed up at a face: exactly one bundle of the face's version, or the
-- first thing that is wrong.
use Rattle.std.specs.Prelude.{ℕ, ◌==◌, Bool, true, List, codes, length, Option, Some, None, Result, Ok, Err, if◌then◌else◌}
use Rattle.endpoint.specs.declared.extent.Fragment.{Fragment}
use Rattle.endpoint.specs.declared.name.Endpoint.{Endpoint}
use Rattle.wire_fields.specs.Refusal.{Stop, truncated, because}
use Rattle.wire_fields.specs.Reading.{read}
use Rattle.bundle6.specs.declared.fault.Cause6.{Cause6}
use Rattle.bundle6.specs.declared.fault.Cause6.TheVariants as six
use Rattle.bundle6.specs.declared.bundle.Bundle6.{Bundle6}
use Rattle.bundle6.specs.Bits.{has_bit}
use Rattle.bundle6.specs.Cause as cause6
use Rattle.bundle6.specs.Table as table6
use Rattle.bundle7.specs.declared.fault.Cause7.{Cause7}
use Rattle.bundle7.specs.declared.fault.Cause7.TheVariants as seven
use Rattle.bundle7.specs.declared.bundle.Bundle7.{Bundle7}
use Rattle.bundle7.specs.Cause as cause7
use Rattle.bundle7.specs.Table as table7
use Rattle.bundle_meaning.specs.declared.full.Full.{Full}
use Rattle.bundle_meaning.specs.declared.report.Part.{Part}
use Rattle.translate.specs.declared.refused.Refused.{Refused}
use Rattle.translate.specs.Reading6.{refusals6, full6_of, payload_in}
use Rattle.translate.specs.Reading7.{refusals7, full7_of}
use Rattle.gate_cases.specs.declared.cause.BadCause.{BadCause}
use Rattle.gate_cases.specs.declared.cause.BadCause.TheVariants.{Six, Seven, Trailing}
use Rattle.gate_cases.specs.declared.face.Face.{Face}
use Rattle.gate_cases.specs.declared.face.Face.TheVariants.{Old, New}
use Rattle.gate_cases.specs.declared.report.Creation.{Creation}
use Rattle.gate_cases.specs.declared.report.Creation.TheVariants as creations

-- ---- causes

abbrev pub word_of : BadCause → List ℕ
word_of (Six cause) = cause6.word_of cause
word_of (Seven cause) = cause7.word_of cause
word_of Trailing = codes "Trailing"

-- octets that end inside a field have a cause of their own
abbrev pub cause6_of : Stop Cause6 → Cause6
cause6_of truncated = six.Truncated
cause6_of (because cause) = cause

abbrev pub cause7_of : Stop Cause7 → Cause7
cause7_of truncated = seven.Truncated
cause7_of (because cause) = cause

-- ---- a bundle

-- What a report says of its subject, the bundle, and what it needs to know of it. All of it is read from
-- the bundle's own fields, so that there is a report also on a bundle that isn't translated.
pub record Subject : Type 0 where
  pub flags : ℕ
  pub report_to : Endpoint
  pub source : Endpoint
  pub creation : Creation
  pub fragment : Option Part
  -- the times of statuses are given
  pub timed : Bool

-- the part of the whole that a payload of so many octets is
abbrev pub part_of : Option Fragment → ℕ → Option Part
part_of None size = None
part_of (Some fragment) size = Some (record { offset = fragment.offset; length = size })

-- in version 6 times are always given
abbrev pub subject6 : Bundle6 → Subject
subject6 b = record {
  flags = b.primary.flags;
  report_to = b.primary.report_to;
  source = b.primary.source;
  creation = creations.Six (record { seconds = b.primary.seconds; sequence = b.primary.sequence });
  fragment = part_of b.primary.fragment (length (payload_in b.blocks).body);
  timed = true;
}

-- in version 7 where flag bit 6 asks for them (RFC 9171, section 4.2.3)
abbrev pub subject7 : Bundle7 → Subject
subject7 b = record {
  flags = b.primary.flags;
  report_to = b.primary.report_to;
  source = b.primary.source;
  creation = creations.Seven (record { millis = b.primary.millis; sequence = b.primary.sequence });
  fragment = part_of b.primary.fragment (length b.payload.body);
  timed = has_bit 6 b.primary.flags;
}

-- A bundle as the gateway sees it: why it isn't translated, each cause with its condition; the record
-- that it stands for; and what a report says of it.
pub record Arrival : Type 0 where
  pub refusals : List (Refused × Bool)
  pub full : Full
  pub subject : Subject

abbrev pub arrival6 : Bundle6 → Arrival
arrival6 b = record { refusals = refusals6 b; full = full6_of b; subject = subject6 b }

abbrev pub arrival7 : Bundle7 → Arrival
arrival7 b = record { refusals = refusals7 b; full = full7_of b; subject = subject7 b }

-- ---- the block

-- exactly one bundle; or a place, and what is wrong there
pub data Found : Type 0 where
  one : Arrival → Found
  bad : ℕ → BadCause → Found

-- a bundle that ends at a place is the whole block, or octets follow it
abbrev pub alone : ℕ → ℕ → Arrival → Found
alone size end arrival = if end == size then one arrival else bad end Trailing

abbrev pub found6 : ℕ → Result (Bundle6 × ℕ) (ℕ × Stop Cause6) → Found
found6 size (Ok x) = alone size x.1 (arrival6 x.0)
found6 size (Err stop) = bad stop.0 (Six (cause6_of stop.1))

abbrev pub found7 : ℕ → Result (Bundle7 × ℕ) (ℕ × Stop Cause7) → Found
found7 size (Ok x) = alone size x.1 (arrival7 x.0)
found7 size (Err stop) = bad stop.0 (Seven (cause7_of stop.1))

-- what the table of the face's version reads, with at most 64 blocks beside the payload
unfoldable pub found_at : Face → List ℕ → Found
found_at Old block = found6 (length block) (read (table6.bundle 64) block 0)
found_at New block = found7 (length block) (read (table7.bundle 64) block 0)
