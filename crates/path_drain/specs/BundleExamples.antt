-- A bundle on a path that a script can set up: its first segment is lost, and a drain takes it to
-- the new node.

use Rattle.std.specs.Prelude.{ℕ, List, [], ◌∷◌}
use Rattle.endpoint.specs.declared.name.Endpoint.TheVariants.{Ipn}
use Rattle.ltp_segment.specs.Policy.{PolicyValue}
use Rattle.path_laws.specs.declared.places.PathEnd.TheVariants as ends
use Rattle.path_laws.specs.Path.{Path, PathEvent, PathSetup, clock_shows, delivers, path_run}
use Rattle.path_laws.specs.Path.{path_setup, sends}
use Rattle.path_drain.specs.Runs.{run_path}

-- segments have at most 1,024 octets, and an answer is waited for ten seconds, ten times at most
abbrev pub bundle_policy : PolicyValue
bundle_policy = record { segment = 1024; timeout = 10000; limit = 10; cap = 10000 }

-- the gate is ipn:9.0, and cuts payloads at 65,536 octets
abbrev pub bundle_setup : PathSetup
bundle_setup = path_setup (Ipn 9 0) bundle_policy 65536

-- a bundle of version 6 from ipn:1.1 to ipn:2.1, with the payload abc: it was made in second 1,000,
-- and lives for 60
abbrev pub old_bundle : List ℕ
old_bundle =
    0x06 ∷ 0x81 ∷ 0x10 ∷ 0x0D ∷ 0x02 ∷ 0x01 ∷ 0x01 ∷ 0x01 ∷ 0x00 ∷ 0x00 ∷ 0x00 ∷ 0x00 ∷ 0x87 ∷ 0x68
    ∷ 0x05 ∷ 0x3C ∷ 0x00 ∷ 0x01 ∷ 0x08 ∷ 0x03 ∷ 0x61 ∷ 0x62 ∷ 0x63 ∷ []

-- the same bundle in version 7
abbrev pub new_bundle : List ℕ
new_bundle =
    0x9F ∷ 0x89 ∷ 0x07 ∷ 0x00 ∷ 0x01 ∷ 0x82 ∷ 0x02 ∷ 0x82 ∷ 0x02 ∷ 0x01 ∷ 0x82 ∷ 0x02 ∷ 0x82 ∷ 0x01
    ∷ 0x01 ∷ 0x82 ∷ 0x01 ∷ 0x00 ∷ 0x82 ∷ 0x1A ∷ 0x00 ∷ 0x0F ∷ 0x42 ∷ 0x45 ∷ 0x00 ∷ 0x19 ∷ 0xEA
    ∷ 0x5B ∷ 0x42 ∷ 0x5A ∷ 0x46 ∷ 0x85 ∷ 0x01 ∷ 0x01 ∷ 0x00 ∷ 0x00 ∷ 0x43 ∷ 0x61 ∷ 0x62 ∷ 0x63
    ∷ 0xFF ∷ []

-- the clock shows second 1,010 as the old node sends it
abbrev pub bundle_start : ℕ
bundle_start = 1010000

abbrev pub sends_bundle : List PathEvent
sends_bundle = sends ends.Old old_bundle ∷ []

-- Its segment is sent again after ten seconds, and comes. The gate's old face reports on it, and its
-- new face sends the bundle on in one segment. Both come; and so do the acknowledgement of that
-- report, the new node's report, and the acknowledgement of this one.
abbrev pub drains_bundle : List PathEvent
drains_bundle =
    clock_shows 1020000 ∷ delivers 1 ∷ delivers 2 ∷ delivers 3 ∷ delivers 4 ∷ delivers 5
    ∷ delivers 6 ∷ []

-- the path after the one and after the other
abbrev pub bundle_lost : Path
bundle_lost = run_path bundle_setup bundle_start sends_bundle

abbrev pub bundle_drained : Path
bundle_drained = path_run bundle_setup bundle_lost drains_bundle
