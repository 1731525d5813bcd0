-- What a stream of bundles tells, in whatever pieces it comes: what `wire_fields` says of any format.

use Rattle.std.specs.Prelude.{ℕ}
use Rattle.wire_fields.specs.Cutting as cuts
use Rattle.bundle6.specs.Streaming.{bundles}

-- Pieces tell what all their octets tell as one.
abbrev pub TellAsOne : ℕ → Type 0
TellAsOne longest = cuts.TellAsOne bundles longest

-- The same octets in other pieces tell the same.
abbrev pub TellTheSame : ℕ → Type 0
TellTheSame longest = cuts.TellTheSame bundles longest
