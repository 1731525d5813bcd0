-- Legal bundles, and what spells them.

use Rattle.std.specs.Prelude.{◌≡◌, ℕ, ◌+◌, ◌^◌, ◌<◌, ◌≤◌, true, false, List, [], ◌++◌, length, Ok, Option, Some, None, is_some}
use Rattle.std.specs.List.{All, count_by}
use Rattle.endpoint.specs.declared.extent.Fragment.{Fragment}
use Rattle.endpoint.specs.Endpoints.{IsEndpoint}
use Rattle.wire_fields.specs.Format.{Spells}
use Rattle.wire_fields.specs.Reading.{read, IsOctets}
use Rattle.wire_fields.specs.Refusal.{Stop, Refusal}
use Rattle.bundle6.specs.declared.fault.Cause6.{Cause6}
use Rattle.bundle6.specs.declared.primary.Primary6.{Primary6}
use Rattle.bundle6.specs.declared.block.Block6.{Block6}
use Rattle.bundle6.specs.declared.bundle.Bundle6.{Bundle6}
use Rattle.bundle6.specs.Bits.{has_bit}
use Rattle.bundle6.specs.Table.{is_payload, others, bundle}

-- the numbers of a fragment
abbrev pub IsPart : Option Fragment → Type 0
IsPart None = Unit {0}
IsPart (Some part) = (part.offset < 2 ^ 64) × (part.total < 2 ^ 64)

pub record IsLegalPrimary (primary : Primary6) : Type 0 where
  pub flags : primary.flags < 2 ^ 64
  pub destination : IsEndpoint primary.destination
  pub source : IsEndpoint primary.source
  pub report_to : IsEndpoint primary.report_to
  pub custodian : IsEndpoint primary.custodian
  pub seconds : primary.seconds < 2 ^ 64
  pub sequence : primary.sequence < 2 ^ 64
  pub lifetime : primary.lifetime < 2 ^ 64
  -- bit 0 stands if and only if it is a fragment
  pub fragment_bit : has_bit 0 primary.flags ≡ is_some primary.fragment
  pub fragment : IsPart primary.fragment

pub record IsLegalBlock (block : Block6) : Type 0 where
  pub kind : block.kind < 256
  pub flags : block.flags < 2 ^ 64
  -- the marks of the last block and of references stand in no value
  pub last_bit : has_bit 3 block.flags ≡ false
  pub refs_bit : has_bit 6 block.flags ≡ false
  pub refs : All IsEndpoint block.refs
  -- numbers say how many references and octets there are
  pub count : length block.refs < 2 ^ 64
  pub size : length block.body < 2 ^ 64

-- the block's octets lie within the whole of which it is a fragment
abbrev pub IsWithin : Option Fragment → Block6 → Type 0
IsWithin None block = Unit {0}
IsWithin (Some part) block = is_payload block ≡ true → part.offset + length block.body ≤ part.total

-- A legal bundle: one that has a spelling.
pub record IsLegal (b : Bundle6) : Type 0 where
  pub primary : IsLegalPrimary b.primary
  pub blocks : All IsLegalBlock b.blocks
  pub one_payload : count_by is_payload b.blocks ≡ 1
  pub others_are_few : others b.blocks ≤ 64
  pub within : All (IsWithin b.primary.fragment) b.blocks

-- The octets w spell the legal bundle b. What the table spells is legal (`OnlyLegal`); it is stated for
-- those who need it.
pub record Spells6 (b : Bundle6) (w : List ℕ) : Type 0 where
  pub legal : IsLegal b
  pub spelled : Spells (bundle 64) [] w b

-- the octets w are refused at a place: those before it spell the earlier fields, and the next isn't there
abbrev pub Refusal6 : List ℕ → ℕ → Stop Cause6 → Type 0
Refusal6 w at reason = Refusal (bundle 64) [] w at reason

-- the octets w are read as the bundle b, whatever follows them
abbrev pub IsReadAgain : Bundle6 → List ℕ → Type 0
IsReadAgain b w = (more : List ℕ) → read (bundle 64) (w ++ more) 0 ≡ Ok (b, length w)

-- what octets spell is a legal bundle
abbrev pub OnlyLegal : Type 0
OnlyLegal = (b : Bundle6) (w : List ℕ) → IsOctets w → Spells (bundle 64) [] w b → IsLegal b
