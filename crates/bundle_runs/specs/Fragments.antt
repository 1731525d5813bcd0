-- What `cut` and `join` say of a bundle of either version (RFC 5050, RFC 9171, sections 5.8 and 5.9).
use Rattle.std.specs.Prelude.{ℕ, zero, suc, List, Option, None, Some}
use Rattle.translate.specs.declared.refused.Refused.{Refused}
use Rattle.translate.specs.Refusals.{first_that_holds}
use Rattle.translate.specs.Reading6.{refusals6, full6_of}
use Rattle.translate.specs.Reading7.{refusals7, full7_of}
use Rattle.fragments.specs.declared.join.Join.{Join}
use Rattle.fragments.specs.Again.{after}
use Rattle.fragment_lines.specs.Said.{Said}
use Rattle.fragment_lines.specs.Cut.{cut6, cut7}
use Rattle.fragment_lines.specs.Joins.{join6, join7}
use Rattle.bundle_runs.specs.declared.front.Bundle.{Bundle}
use Rattle.bundle_runs.specs.declared.front.Bundle.TheVariants as bundles

-- a piece has an octet at least: 0 is taken for 1
abbrev pub piece_size : ℕ → ℕ
piece_size zero = 1
piece_size (suc more) = suc more

-- the pieces with so many octets of the payload
abbrev pub pieces_said : ℕ → Bundle → Said (Unit {0})
pieces_said size (bundles.Six bundle) = cut6 (piece_size size) bundle
pieces_said size (bundles.Seven bundle) = cut7 (piece_size size) bundle

-- what comes of a bundle beside the fragments that came before it
abbrev pub join_said : List Join → Bundle → Said (List Join)
join_said joins (bundles.Six bundle) = join6 joins bundle
join_said joins (bundles.Seven bundle) = join7 joins bundle

-- A bundle that isn't translated leaves the joins; any other was taken beside them.
abbrev pub unless_unread : Option Refused → (before taken : List Join) → List Join
unless_unread None before taken = taken
unless_unread (Some cause) before taken = before

-- the joins after a bundle, also where it is refused since there is no room for the blocks of the whole that
-- it completes: the pieces of that are gone
abbrev pub joins_left : List Join → Bundle → List Join
joins_left joins (bundles.Six bundle) =
    unless_unread (first_that_holds (refusals6 bundle)) joins (after joins (full6_of bundle))
joins_left joins (bundles.Seven bundle) =
    unless_unread (first_that_holds (refusals7 bundle)) joins (after joins (full7_of bundle))
