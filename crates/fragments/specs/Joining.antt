-- Joining fragments (RFC 5050, section 5.9; RFC 9171, section 5.9).

use Rattle.std.specs.Prelude.{◌≡◌, ℕ, ◌-◌, ◌%◌, ◌==◌, ◌&&◌, ◌||◌, not, Bool, true, false, nat_lt, nat_le, if◌then◌else◌, List, [], ◌∷◌, ◌++◌, length, Option, Some, None, is_some, Result, Ok, Err, IsOkAnd}
use Rattle.std.specs.List.{position_or_len, remove, slice_get}
use Rattle.std.specs.Option.{option_map}
use Rattle.std.specs.Str.{bytes_eq}
use Rattle.endpoint.specs.declared.extent.Fragment.{Fragment}
use Rattle.endpoint.specs.declared.name.Endpoint.{Endpoint}
use Rattle.endpoint.specs.declared.name.Endpoint.TheVariants.{Null, Ipn, Dtn}
use Rattle.bundle_meaning.specs.declared.shared.Content.TheVariants.{Bytes}
use Rattle.bundle_meaning.specs.declared.shared.Shared.{Shared}
use Rattle.bundle_meaning.specs.declared.full.Full.{Full}
use Rattle.fragments.specs.declared.limits.TheConstants.{TOTAL_MAX, NAMES_MAX}
use Rattle.fragments.specs.declared.fault.JoinRefused.{JoinRefused}
use Rattle.fragments.specs.declared.fault.JoinRefused.TheVariants as refusals
use Rattle.fragments.specs.declared.join.Join.{Join}
use Rattle.fragments.specs.declared.join.Finished.{Finished}
use Rattle.fragments.specs.declared.join.Finished.TheVariants as ends
use Rattle.fragments.specs.declared.joining.Joined.{Joined}
use Rattle.fragments.specs.declared.joining.Joined.TheVariants as answers
use Rattle.fragments.specs.Cells.{with_octets, has_all, whole_octets}
use Rattle.fragments.specs.Cutting.{octets_of}

-- A joiner: the joins that are open, and whether memory ran out. A join has the bundle's name (source,
-- millisecond, sequence), how many octets the whole has, those that came, place by place, and the first
-- fragment that came with offset 0.
pub record Joining : Type 0 where
  pub joins : List Join
  pub spent : Bool

-- ---- names

abbrev pub same_endpoint : Endpoint → Endpoint → Bool
same_endpoint Null Null = true
same_endpoint (Ipn node service) (Ipn node2 service2) = node == node2 && service == service2
same_endpoint (Dtn ssp) (Dtn ssp2) = bytes_eq ssp ssp2
same_endpoint _ _ = false

-- a record has the name of a join
abbrev pub is_named : Shared → Join → Bool
is_named shared join =
    shared.millis == join.millis && shared.sequence == join.sequence
    && same_endpoint shared.source join.source

-- the place of the first join with a record's name, or how many joins there are
abbrev pub index_of : Shared → List Join → ℕ
index_of shared joins = position_or_len (is_named shared) joins

-- that join
abbrev pub open_join : Shared → List Join → Option Join
open_join shared joins = slice_get joins (index_of shared joins)

abbrev pub open_total : Shared → List Join → Option ℕ
open_total shared joins = option_map (λ join. join.total) (open_join shared joins)

-- the joins without it
abbrev pub others : Shared → List Join → List Join
others shared joins =
    if nat_lt (index_of shared joins) (length joins)
    then remove joins (index_of shared joins) else joins

-- ---- what is taken

-- The fragment of a record, beside so many joins and the total of the one with its name: it has to be that
-- total, or another name has to have room.
abbrev pub fits : Fragment → ℕ → Option ℕ → Result Fragment JoinRefused
fits part count (Some total) = if total == part.total then Ok part else Err refusals.TotalDiffers
fits part count None = if nat_le NAMES_MAX count then Err refusals.NoRoom else Ok part

abbrev pub accepted_as : Option Fragment → ℕ → Option ℕ → Result Fragment JoinRefused
accepted_as None count total = Err refusals.NotFragment
accepted_as (Some part) count total =
    if nat_lt TOTAL_MAX part.total then Err refusals.TooLarge else fits part count total

-- where a record's payload lies in the whole, if it is taken
abbrev pub accepted : List Join → Shared → Result Fragment JoinRefused
accepted joins shared = accepted_as shared.fragment (length joins) (open_total shared joins)

-- ---- what a fragment does

-- nothing came yet of a whole with a record's name
abbrev pub new_join : Shared → ℕ → Join
new_join shared total = record {
  source = shared.source;
  millis = shared.millis;
  sequence = shared.sequence;
  total = total;
  cells = [];
  head = None;
}

abbrev pub started : Option Join → Shared → ℕ → Join
started (Some join) shared total = join
started None shared total = new_join shared total

-- the record with this payload
abbrev pub with_payload : Full → List ℕ → Full
with_payload full octets = record {
  shared = record {
    destination = full.shared.destination;
    source = full.shared.source;
    report_to = full.shared.report_to;
    millis = full.shared.millis;
    sequence = full.shared.sequence;
    expiry = full.shared.expiry;
    flags = full.shared.flags;
    fragment = full.shared.fragment;
    payload_flags = full.shared.payload_flags;
    content = Bytes octets;
  };
  extra6 = full.extra6;
  extra7 = full.extra7;
  exts = full.exts;
}

-- a fragment as a whole, with flag bit 0 clear, and its payload left out
abbrev pub unfragmented : Full → Full
unfragmented full = record {
  shared = record {
    destination = full.shared.destination;
    source = full.shared.source;
    report_to = full.shared.report_to;
    millis = full.shared.millis;
    sequence = full.shared.sequence;
    expiry = full.shared.expiry;
    flags = full.shared.flags - full.shared.flags % 2;
    fragment = None;
    payload_flags = full.shared.payload_flags;
    content = Bytes [];
  };
  extra6 = full.extra6;
  extra7 = full.extra7;
  exts = full.exts;
}

-- the first that came with offset 0, also where it filled no place
abbrev pub head_with : Option Full → Full → ℕ → Option Full
head_with (Some head) full offset = Some head
head_with None full offset = if offset == 0 then Some (unfragmented full) else None

-- a join with a fragment more: its octets fill empty places alone
abbrev pub grown : Join → Full → ℕ → Join
grown join full offset = record {
  source = join.source;
  millis = join.millis;
  sequence = join.sequence;
  total = join.total;
  cells = with_octets join.cells offset (octets_of full.shared.content);
  head = head_with join.head full offset;
}

-- the whole, once each place below the total has an octet: the first fragment with offset 0, made whole,
-- with all octets
abbrev pub whole_with : Option (List ℕ) → Option Full → Option Full
whole_with (Some octets) (Some head) = Some (with_payload head octets)
whole_with (Some octets) None = None
whole_with None head = None

abbrev pub whole_of : Join → Option Full
whole_of join = whole_with (whole_octets join.cells join.total) join.head

-- a name was open, and no octet of a fragment is new
abbrev pub is_repeat : Option Join → ℕ → List ℕ → Bool
is_repeat (Some join) offset octets = has_all join.cells offset octets
is_repeat None offset octets = false

-- A fragment brings what isn't kept: it is the first of its name, or the first with offset 0, or one of
-- its octets is for a place that has none.
abbrev pub brings_new : Option Join → ℕ → List ℕ → Bool
brings_new (Some join) offset octets =
    not (has_all join.cells offset octets) || offset == 0 && not (is_some join.head)
brings_new None offset octets = true

-- so it is with a record that is taken beside these joins
abbrev pub BringsNew : List Join → Full → Type 0
BringsNew joins full =
    IsOkAnd (accepted joins full.shared)
    (λ part. brings_new (open_join full.shared joins) part.offset (octets_of full.shared.content) ≡ true)

-- the join of a fragment once it came
abbrev pub joined_with : List Join → Full → Fragment → Join
joined_with joins full part =
    grown (started (open_join full.shared joins) full.shared part.total) full part.offset

-- ---- one step

-- what is answered, and the joins then: a whole is forgotten
abbrev pub answered : Option Full → Bool → Joined
answered (Some whole) repeats = answers.Whole whole
answered None repeats = if repeats then answers.Repeat else answers.Waiting

abbrev pub kept_after : Option Full → List Join → Join → List Join
kept_after (Some whole) joins join = joins
kept_after None joins join = joins ++ join ∷ []

abbrev pub answer_to : List Join → Full → Fragment → Joined
answer_to joins full part =
    answered (whole_of (joined_with joins full part))
    (is_repeat (open_join full.shared joins) part.offset (octets_of full.shared.content))

abbrev pub joins_after : List Join → Full → Fragment → List Join
joins_after joins full part =
    kept_after (whole_of (joined_with joins full part)) (others full.shared joins)
    (joined_with joins full part)

abbrev pub TakesIn : List Join → Full → Fragment → Joined → List Join → Type 0
TakesIn joins full part joined new =
    (joined ≡ answer_to joins full part) × (new ≡ joins_after joins full part)

-- the whole isn't there yet
abbrev pub IsOpen : Join → Type 0
IsOpen join = whole_of join ≡ None

-- what a join came to
abbrev pub Finishes : Join → Finished → Type 0
Finishes join (ends.Whole whole) = whole_of join ≡ Some whole
Finishes join (ends.Open same) = (whole_of join ≡ None) × (same ≡ join)

-- a fragment was refused, for want of memory only where it was taken
abbrev pub Turns : List Join → Full → JoinRefused → Joining → Type 0
Turns joins full refusals.Memory new = (part : Fragment) × (accepted joins full.shared ≡ Ok part) × (new.spent ≡ true)
Turns joins full refused new =
    (accepted joins full.shared ≡ Err refused) × (new ≡ record { joins = joins; spent = false })

-- What is answered to a fragment, and what is kept then.
abbrev pub Adds : List Join → Full → Result Joined JoinRefused → Joining → Type 0
Adds joins full (Ok joined) new =
    (part : Fragment) × (accepted joins full.shared ≡ Ok part)
    × (joined ≡ answer_to joins full part)
    × (new ≡ record { joins = joins_after joins full part; spent = false })
Adds joins full (Err refused) new = Turns joins full refused new
