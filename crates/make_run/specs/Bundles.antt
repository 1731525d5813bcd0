-- The bundles that `make` sends: the old node one of version 6 (RFC 5050) to the new node, and the new
-- node one of version 7 (RFC 9171) to the old one, in turn.
use Rattle.std.specs.Prelude.{ℕ, ◌+◌, ◌%◌, ◌==◌, List, [], ◌∷◌, None, replicate, if◌then◌else◌}
use Rattle.endpoint.specs.declared.name.Endpoint.TheVariants.{Null, Ipn}
use Rattle.bundle6.specs.declared.bundle.Bundle6.{Bundle6}
use Rattle.bundle6.specs.Spelling.{canon6}
use Rattle.bundle7.specs.declared.bundle.Bundle7.{Bundle7}
use Rattle.bundle7.specs.Spelling.{octets7}
use Rattle.path_laws.specs.declared.places.PathEnd.{PathEnd}
use Rattle.path_laws.specs.declared.places.PathEnd.TheVariants as ends

-- so many octets, each the lowest one of the bundle's number
abbrev pub payload_of : ℕ → ℕ → List ℕ
payload_of i size = replicate size (i % 256)

-- a bundle to a singleton, of normal priority, which lives for a million seconds
unfoldable pub old_bundle : ℕ → ℕ → Bundle6
old_bundle i size = record {
  primary = record {
    flags = 0x90;
    destination = Ipn 2 1;
    source = Ipn 1 1;
    report_to = Null;
    custodian = Null;
    seconds = 1000;
    sequence = i;
    lifetime = 1000000;
    fragment = None;
  };
  blocks = record { kind = 1; flags = 0; refs = []; body = payload_of i size } ∷ [];
}

-- a bundle with a CRC-16 on its primary block, which lives for a thousand million milliseconds, as
-- long
unfoldable pub new_bundle : ℕ → ℕ → Bundle7
new_bundle i size = record {
  primary = record {
    flags = 0;
    crc = 1;
    destination = Ipn 1 1;
    source = Ipn 2 1;
    report_to = Null;
    millis = 1000000 + i;
    sequence = 0;
    lifetime = 1000000000;
    fragment = None;
  };
  exts = [];
  payload = record { kind = 1; number = 1; flags = 0; crc = 0; body = payload_of i size };
}

-- the end that sends the i-th bundle, from 0: the old one, and then each in its turn
abbrev pub sender_of : ℕ → PathEnd
sender_of i = if i % 2 == 0 then ends.Old else ends.New

-- its octets: in version 6 the canonical spelling, and in version 7 the one that there is
abbrev pub octets_by : PathEnd → ℕ → ℕ → List ℕ
octets_by ends.Old i size = canon6 (old_bundle i size)
octets_by ends.New i size = octets7 (new_bundle i size)

unfoldable pub bundle_octets : ℕ → ℕ → List ℕ
bundle_octets i size = octets_by (sender_of i) i size
