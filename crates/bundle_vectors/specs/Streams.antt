-- A reader of a stream that may be fed: how far it came.

use Rattle.std.specs.Prelude.{◌≡◌, ℕ, ◌+◌, ◌≤◌, false, length, None}
use Rattle.bundle6.specs.Streaming.{Reading}

-- it has refused nothing, and took no more than the octets before a place
pub record IsAt6 (reader : Reading) (place : ℕ) : Type 0 where
  pub whole : reader.spent ≡ false
  pub fresh : reader.refused ≡ None
  pub taken : reader.stream.before + length reader.stream.kept ≤ place
