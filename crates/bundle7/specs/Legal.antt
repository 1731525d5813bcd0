-- Legal bundles, and what spells them.
use Rattle.std.specs.Prelude.{◌≡◌, ℕ, ◌^◌, ◌<◌, ◌≤◌, true, false, ◌&&◌, List, [], ◌∷◌, ◌++◌, length, Ok, Option, Some, None, is_some}
use Rattle.endpoint.specs.declared.extent.Fragment.{Fragment}
use Rattle.endpoint.specs.Endpoints.{IsEndpoint}
use Rattle.wire_fields.specs.Format.{Spells}
use Rattle.wire_fields.specs.Reading.{read}
use Rattle.wire_fields.specs.Refusal.{Stop, Refusal}
use Rattle.bundle7.specs.declared.fault.Cause7.{Cause7}
use Rattle.bundle7.specs.declared.primary.Primary7.{Primary7}
use Rattle.bundle7.specs.declared.block.Block7.{Block7}
use Rattle.bundle7.specs.declared.bundle.Bundle7.{Bundle7}
use Rattle.bundle7.specs.Body.{IsBody}
use Rattle.bundle7.specs.declared.seen.Seen.{Seen}
use Rattle.bundle7.specs.Table.{bundle, is_fragment, is_single, seen_of, has, is_number, is_within}

-- the numbers of a fragment
abbrev pub IsPart : Option Fragment → Type 0
IsPart None = Unit {0}
IsPart (Some part) = (part.offset < 2 ^ 64) × (part.total < 2 ^ 64)

pub record IsLegalPrimary (p : Primary7) : Type 0 where
  pub flags : p.flags < 2 ^ 64
  pub crc : p.crc < 3
  pub destination : IsEndpoint p.destination
  pub source : IsEndpoint p.source
  pub report_to : IsEndpoint p.report_to
  pub millis : p.millis < 2 ^ 64
  pub sequence : p.sequence < 2 ^ 64
  pub lifetime : p.lifetime < 2 ^ 64
  -- flag bit 0 stands if and only if there is a fragment
  pub fragment_bit : is_fragment p.flags ≡ is_some p.fragment
  pub fragment : IsPart p.fragment

-- a block after the earlier ones, in a bundle that may be a fragment
pub record IsLegalBlock (part : Option Fragment) (earlier : Seen) (b : Block7) : Type 0 where
  pub kind : b.kind < 2 ^ 64
  -- previous node, bundle age and hop count stand at most once
  pub once : (is_single b.kind && has b.kind earlier.kinds) ≡ false
  -- 1 for the payload, and else at least 2 and new
  pub number : is_number b.kind earlier b.number ≡ true
  pub number_fits : b.number < 2 ^ 64
  pub flags : b.flags < 2 ^ 64
  pub crc : b.crc < 3
  pub size : length b.body < 2 ^ 64
  -- the payload of a fragment lies within the whole
  pub within : is_within part b.kind (length b.body) ≡ true
  pub body : IsBody b.kind b.body

-- extension blocks after the earlier ones
abbrev pub AreLegal : Option Fragment → List Block7 → List Block7 → Type 0
AreLegal part earlier [] = Unit {0}
AreLegal part earlier (b ∷ more) =
    IsLegalBlock part (seen_of earlier) b × ((b.kind ≡ 1 → ⊥) × AreLegal part (earlier ++ b ∷ []) more)

pub record IsLegal (most : ℕ) (b : Bundle7) : Type 0 where
  pub primary : IsLegalPrimary b.primary
  pub few : length b.exts ≤ most
  pub exts : AreLegal b.primary.fragment [] b.exts
  pub payload : IsLegalBlock b.primary.fragment (seen_of b.exts) b.payload
  pub payload_kind : b.payload.kind ≡ 1

-- A legal bundle has at most 64 extension blocks.
abbrev pub IsLegal7 : Bundle7 → Type 0
IsLegal7 b = IsLegal 64 b

-- the octets w spell the bundle b
abbrev pub Spells7 : Bundle7 → List ℕ → Type 0
Spells7 b w = Spells (bundle 64) [] w b

-- the octets w are refused at a place: those before it spell the earlier fields, and the next isn't there
abbrev pub Refusal7 : List ℕ → ℕ → Stop Cause7 → Type 0
Refusal7 w at reason = Refusal (bundle 64) [] w at reason

-- the octets w are read as the bundle b, whatever follows them
abbrev pub IsReadAgain : Bundle7 → List ℕ → Type 0
IsReadAgain b w = (more : List ℕ) → read (bundle 64) (w ++ more) 0 ≡ Ok (b, length w)
