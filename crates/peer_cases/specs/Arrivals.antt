-- A bundle that came at a face, as the gateway sees it: with its own block types, and with the record that
-- is to go on.

use Rattle.std.specs.Prelude.{Bool, false, ◌||◌, nat_lt, if◌then◌else◌, length, Option, Some, None}
use Rattle.bundle6.specs.declared.bundle.Bundle6.{Bundle6}
use Rattle.bundle7.specs.declared.bundle.Bundle7.{Bundle7}
use Rattle.bundle_meaning.specs.declared.full.Full.{Full}
use Rattle.translate.specs.View7.{needs_residue7}
use Rattle.gate_cases.specs.Blocks.{Arrival, arrival6, arrival7}
use Rattle.block_types.specs.declared.losing.LeftOut.{LeftOut}
use Rattle.block_types.specs.Relabelled.{relabelled6, relabelled7}
use Rattle.block_types.specs.Bare.{bare_of, kinds_left}
use Rattle.peer_cases.specs.declared.settings.PeerSettings.{PeerSettings}

-- the bundle, with the types that the gateway knows; the record that is to go on; and what that lacks of
-- the bundle's
pub record Came : Type 0 where
  pub arrival : Arrival
  pub onward : Full
  pub left : Option LeftOut

-- ---- version 6

-- what a record loses where it is made bare, if that is anything
abbrev pub loses : Full → Option LeftOut
loses full =
    if nat_lt 0 (length (kinds_left full.exts)) || needs_residue7 full
    then Some (record { kinds = kinds_left full.exts; residue = needs_residue7 full })
    else None

-- a bundle of version 6 goes on bare, where blocks of the gateway's own are dropped
abbrev pub came_as : Bool → Arrival → Came
came_as bare arrival = record {
  arrival = arrival;
  onward = if bare then bare_of arrival.full else arrival.full;
  left = if bare then loses arrival.full else None;
}

abbrev pub came6 : PeerSettings → Bundle6 → Came
came6 s b = came_as s.bare (arrival6 (relabelled6 s.types b))

-- ---- version 7: it goes on whole

abbrev pub came7 : PeerSettings → Bundle7 → Came
came7 s b = came_as false (arrival7 (relabelled7 s.types b))
