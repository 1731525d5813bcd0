-- The bundle in which a status report goes back: made by the gate, at a moment, with a number.
use Rattle.std.specs.Prelude.{ℕ, ◌+◌, ◌*◌, ◌/◌, ◌%◌, Bool, if◌then◌else◌, List, [], ◌∷◌, None}
use Rattle.endpoint.specs.declared.name.Endpoint.{Endpoint}
use Rattle.endpoint.specs.declared.name.Endpoint.TheVariants.{Null}
use Rattle.endpoint.specs.Endpoints.{is_singleton}
use Rattle.bundle6.specs.declared.bundle.Bundle6.{Bundle6}
use Rattle.bundle6.specs.Spelling.{canon6}
use Rattle.bundle7.specs.declared.bundle.Bundle7.{Bundle7}
use Rattle.bundle7.specs.Spelling.{octets7}
use Rattle.bundle_meaning.specs.declared.creation.Id6.{Id6}
use Rattle.bundle_meaning.specs.declared.creation.Id7.{Id7}
use Rattle.bundle_meaning.specs.declared.report.Stamp.{Stamp}
use Rattle.bundle_meaning.specs.declared.report.Stamp.TheVariants.{No, Yes, At}
use Rattle.bundle_meaning.specs.Creation.{id6_of}
use Rattle.status_reports.specs.declared.report6.Report6.{Report6}
use Rattle.status_reports.specs.declared.report6.Time6.{Time6}
use Rattle.status_reports.specs.declared.report7.Report7.{Report7}
use Rattle.status_reports.specs.Spelling.{report6_octets, report7_octets}
use Rattle.status_reports.specs.Table6.{zero_time}
use Rattle.gate_cases.specs.declared.report.AskedReport.{AskedReport}
use Rattle.gate_cases.specs.declared.report.Creation.{Creation}
use Rattle.gate_cases.specs.declared.report.Creation.TheVariants.{Six, Seven}
use Rattle.gate_cases.specs.declared.report.Statuses.{Statuses}

-- ---- version 6 (RFC 5050, section 6.1.1)

-- a moment in seconds and nanoseconds
abbrev pub time6_of : ℕ → Time6
time6_of now = record { seconds = now / 1000; nanos = now % 1000 * 1000000 }

-- the moment, where the status is set
abbrev pub time6_if : Bool → ℕ → Time6
time6_if set now = if set then time6_of now else zero_time

-- 1 received, 4 forwarded, 16 deleted
abbrev pub status_octet : Statuses → ℕ
status_octet statuses =
    (if statuses.received then 1 else 0) + (if statuses.forwarded then 4 else 0)
    + (if statuses.deleted then 16 else 0)

-- nothing is ever delivered here
abbrev pub times6_of : Statuses → ℕ → List Time6
times6_of statuses now =
    time6_if statuses.received now ∷ time6_if statuses.forwarded now ∷ zero_time
    ∷ time6_if statuses.deleted now ∷ []

abbrev pub report6_of : AskedReport → Id6 → ℕ → Report6
report6_of asked subject now = record {
  status = status_octet asked.statuses;
  reason = asked.reason;
  fragment = asked.fragment;
  times = times6_of asked.statuses now;
  seconds = subject.seconds;
  sequence = subject.sequence;
  source = asked.source;
}

-- The bundle with a report's octets. Own rule: administrative, with priority normal, for a day. The creation timestamp is the counterpart of
-- the moment and the number.
abbrev pub bundle6_with : Endpoint → ℕ → ℕ → AskedReport → List ℕ → Bundle6
bundle6_with gate counter now asked body = record {
  primary = record {
    flags = 0x82 + (if is_singleton asked.report_to then 0x10 else 0);
    destination = asked.report_to;
    source = gate;
    report_to = Null;
    custodian = Null;
    seconds = (id6_of now counter).seconds;
    sequence = (id6_of now counter).sequence;
    lifetime = 86400;
    fragment = None;
  };
  blocks = record {
    kind = 1;
    flags = 0;
    refs = [];
    body = body;
  } ∷ [];
}

abbrev pub bundle6_of : Endpoint → ℕ → ℕ → AskedReport → Id6 → Bundle6
bundle6_of gate counter now asked subject =
    bundle6_with gate counter now asked (report6_octets (report6_of asked subject now))

-- ---- version 7 (RFC 9171, section 6.1.1)

-- a status, with the moment where times are given
abbrev pub stamp_if : Bool → Bool → ℕ → Stamp
stamp_if set timed now = if set then (if timed then At now else Yes) else No

abbrev pub stamps_of : Statuses → Bool → ℕ → List Stamp
stamps_of statuses timed now =
    stamp_if statuses.received timed now ∷ stamp_if statuses.forwarded timed now ∷ No
    ∷ stamp_if statuses.deleted timed now ∷ []

abbrev pub report7_of : AskedReport → Id7 → ℕ → Report7
report7_of asked subject now = record {
  stamps = stamps_of asked.statuses asked.timed now;
  reason = asked.reason;
  source = asked.source;
  millis = subject.millis;
  sequence = subject.sequence;
  fragment = asked.fragment;
}

-- Own rule: administrative, with CRC-16 on the primary block alone, for a day.
abbrev pub bundle7_with : Endpoint → ℕ → ℕ → AskedReport → List ℕ → Bundle7
bundle7_with gate counter now asked body = record {
  primary = record {
    flags = 0x02;
    crc = 1;
    destination = asked.report_to;
    source = gate;
    report_to = Null;
    millis = now;
    sequence = counter;
    lifetime = 86400000;
    fragment = None;
  };
  exts = [];
  payload = record {
    kind = 1;
    number = 1;
    flags = 0;
    crc = 0;
    body = body;
  };
}

abbrev pub bundle7_of : Endpoint → ℕ → ℕ → AskedReport → Id7 → Bundle7
bundle7_of gate counter now asked subject =
    bundle7_with gate counter now asked (report7_octets (report7_of asked subject now))

-- ---- its octets, in the subject's version

abbrev pub status_octets : Endpoint → ℕ → ℕ → AskedReport → Creation → List ℕ
status_octets gate counter now asked (Six subject) = canon6 (bundle6_of gate counter now asked subject)
status_octets gate counter now asked (Seven subject) = octets7 (bundle7_of gate counter now asked subject)

unfoldable pub status_bundle : Endpoint → ℕ → ℕ → AskedReport → List ℕ
status_bundle gate counter now asked = status_octets gate counter now asked asked.creation
