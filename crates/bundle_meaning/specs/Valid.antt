-- Valid records: those that both versions can say.

use Rattle.std.specs.Prelude.{◌≡◌, ◌+◌, ◌^◌, ◌<◌, ◌≤◌, true, length, Option, Some, None, is_some}
use Rattle.std.specs.List.{All}
use Rattle.endpoint.specs.declared.extent.Fragment.{Fragment}
use Rattle.endpoint.specs.Endpoints.{IsEndpoint}
use Rattle.bundle_meaning.specs.declared.shared.Content.{Content}
use Rattle.bundle_meaning.specs.declared.shared.Content.TheVariants as contents
use Rattle.bundle_meaning.specs.declared.shared.Shared.{Shared}
use Rattle.bundle_meaning.specs.declared.extra.Extra6.{Extra6}
use Rattle.bundle_meaning.specs.declared.extra.Extra7.{Extra7}
use Rattle.bundle_meaning.specs.declared.full.Full.{Full}
use Rattle.bundle_meaning.specs.Bits.{has_bit, is_within, is_without, common, block_common, not_own6, block_not_own6}
use Rattle.bundle_meaning.specs.Blocks.{IsExt, sevens, are_apart}
use Rattle.bundle_meaning.specs.Creation.{id6_of}
use Rattle.bundle_meaning.specs.Reports.{is_report, IsReport}

-- ---- the shared part

-- a fragment's octets lie within the whole
abbrev pub IsFragment : Option Fragment → Content → Type 0
IsFragment None content = Unit {0}
IsFragment (Some part) (contents.Bytes octets) =
    (part.total < 2 ^ 64) × (part.offset + length octets ≤ part.total)
-- a report is no fragment
IsFragment (Some part) (contents.Report report) = ⊥

abbrev pub IsContent : Content → Type 0
IsContent (contents.Bytes octets) = length octets < 2 ^ 64
IsContent (contents.Report report) = IsReport report

pub record IsShared (shared : Shared) : Type 0 where
  pub destination : IsEndpoint shared.destination
  pub source : IsEndpoint shared.source
  pub report_to : IsEndpoint shared.report_to
  -- the bundle was made by a clock: not within the first second of the year 2000
  pub clock : 1000 ≤ shared.millis
  pub millis : shared.millis < 2 ^ 64
  -- the creation timestamp has a counterpart in version 6
  pub counterpart : (id6_of shared.millis shared.sequence).sequence < 2 ^ 64
  -- the lifetime in milliseconds is a number above 0
  pub lives : shared.millis < shared.expiry
  pub lifetime : shared.expiry < shared.millis + 2 ^ 64
  -- the shared part has the common flags and no other
  pub flags : is_within common shared.flags ≡ true
  pub payload_flags : is_within block_common shared.payload_flags ≡ true
  -- flag bit 0 stands exactly with a fragment, and bit 1 exactly with a report
  pub fragment_bit : has_bit 0 shared.flags ≡ is_some shared.fragment
  pub report_bit : has_bit 1 shared.flags ≡ is_report shared.content
  pub fragment : IsFragment shared.fragment shared.content
  pub content : IsContent shared.content

-- ---- what one version says alone

pub record IsExtra6 (extra : Extra6) : Type 0 where
  pub custodian : IsEndpoint extra.custodian
  -- no common flag, and no custody
  pub flags : is_without not_own6 extra.flags ≡ true
  pub flags_fit : extra.flags < 2 ^ 64
  pub payload_flags : is_without block_not_own6 extra.payload_flags ≡ true
  pub payload_flags_fit : extra.payload_flags < 2 ^ 64
  pub after_fits : extra.after < 2 ^ 64

pub record IsExtra7 (extra : Extra7) : Type 0 where
  pub flags : is_without common extra.flags ≡ true
  pub flags_fit : extra.flags < 2 ^ 64
  pub crc : extra.crc < 3
  pub payload_crc : extra.payload_crc < 3
  pub payload_flags : is_without block_common extra.payload_flags ≡ true
  pub payload_flags_fit : extra.payload_flags < 2 ^ 64

-- ---- the record

pub record IsValid (full : Full) : Type 0 where
  pub shared : IsShared full.shared
  pub extra6 : IsExtra6 full.extra6
  pub extra7 : IsExtra7 full.extra7
  pub exts : All IsExt full.exts
  pub few : length full.exts ≤ 64
  pub after : full.extra6.after ≤ length full.exts
  -- no two of version 7 have one number, or one type that stands once
  pub apart : are_apart (sevens full.exts) ≡ true
