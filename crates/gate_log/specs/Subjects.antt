-- Which bundle a block is: the one that is its front, as its own version names it.

use Rattle.std.specs.Prelude.{ℕ, ◌==◌, List, [], ◌∷◌, length, Option, Some, None, Result, Ok, Err}
use Rattle.std.specs.Prelude.{if◌then◌else◌}
use Rattle.endpoint.specs.Endpoints.{IsEndpoint}
use Rattle.wire_fields.specs.Refusal.{Stop}
use Rattle.wire_fields.specs.Reading.{read}
use Rattle.bundle6.specs.declared.bundle.Bundle6.{Bundle6}
use Rattle.bundle6.specs.Table as table6
use Rattle.bundle7.specs.declared.bundle.Bundle7.{Bundle7}
use Rattle.bundle7.specs.Table as table7
use Rattle.translate.specs.Reading6.{payload_in}
use Rattle.gate_cases.specs.declared.report.Creation.TheVariants as creations
use Rattle.gate_log.specs.declared.subject.Subject.{Subject}

abbrev pub subject6 : Bundle6 → Subject
subject6 b = record {
  creation = creations.Six (record { seconds = b.primary.seconds; sequence = b.primary.sequence });
  destination = b.primary.destination;
  fragment = b.primary.fragment;
  payload = length (payload_in b.blocks).body;
  source = b.primary.source;
}

abbrev pub subject7 : Bundle7 → Subject
subject7 b = record {
  creation = creations.Seven (record { millis = b.primary.millis; sequence = b.primary.sequence });
  destination = b.primary.destination;
  fragment = b.primary.fragment;
  payload = length b.payload.body;
  source = b.primary.source;
}

-- what a version's table reads; octets may follow the bundle
abbrev pub read_as : {B C : Type 0} → (B → Subject) → Result (B × ℕ) (ℕ × Stop C) → Option Subject
read_as subject (Ok x) = Some (subject x.0)
read_as subject (Err stop) = None

abbrev pub front6 : List ℕ → Option Subject
front6 block = read_as subject6 (read (table6.bundle 64) block 0)

abbrev pub front7 : List ℕ → Option Subject
front7 block = read_as subject7 (read (table7.bundle 64) block 0)

abbrev pub first_octet : List ℕ → ℕ
first_octet [] = 0
first_octet (octet ∷ octets) = octet

-- the first octet names the version: 6, and else the one that begins a bundle of version 7
unfoldable pub subject_of : List ℕ → Option Subject
subject_of block = if first_octet block == 6 then front6 block else front7 block

-- one whose names have texts
abbrev pub IsSubject : Subject → Type 0
IsSubject s = IsEndpoint s.destination × IsEndpoint s.source
