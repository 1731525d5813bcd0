-- What a reader of a stream keeps, and what the octets that it has give.

use Rattle.std.specs.Prelude.{◌≡◌, ℕ, ◌+◌, ◌^◌, ◌<◌, ◌≤◌, Bool, false, List, length, Option, Some, None, Result, Ok, Err}
use Rattle.wire_fields.specs.Reading.{IsOctets}
use Rattle.wire_fields.specs.Streaming as streams
use Rattle.wire_fields.specs.Holding as holding
pub use Rattle.wire_fields.specs.Holding.{text_of}
use Rattle.bundle7.specs.declared.fault.Cause7.{Cause7}
use Rattle.bundle7.specs.declared.fault.Refused7.{Refused7}
use Rattle.bundle7.specs.declared.fault.Fail7.{Fail7}
use Rattle.bundle7.specs.declared.bundle.Bundle7.{Bundle7}
use Rattle.bundle7.specs.declared.pass.Pass.{Pass}
use Rattle.bundle7.specs.declared.reader.Held.{Held}
use Rattle.bundle7.specs.Passing.{Fits, Stands, IsFresh}
use Rattle.bundle7.specs.Streaming.{Stream, bundles, IsOpen, fault}

abbrev pub stream_of : Held → Stream
stream_of h = record { before = h.before; kept = h.kept.items }

-- the octets of one unfinished bundle, and a pass that stands for them
pub record IsHeld (h : Held) : Type 0 where
  pub fits : Fits 64 h.kept.items h.pass
  pub stands : Stands 64 h.kept.items h.pass
  pub begun : IsOpen h.kept.items
  pub octets : IsOctets h.kept.items
  pub counted : h.before + length h.kept.items < 2 ^ 64

abbrev pub IsRefused : List ℕ → Bool → ℕ → Cause7 → Type 0
IsRefused text cut at cause = holding.IsRefused bundles text cut at cause

abbrev pub IsWhole : List ℕ → Bundle7 → ℕ → Type 0
IsWhole text b k = holding.IsWhole bundles text b k

-- octets that end inside a bundle, and a pass that stands for them
pub record Waits (text : List ℕ) (cut : Bool) (pass : Pass) : Type 0 where
  pub last : cut ≡ false
  pub begun : IsOpen text
  pub octets : IsOctets text
  pub fits : Fits 64 text pass
  pub stands : Stands 64 text pass

-- what a pass over some octets tells; where they end no bundle inside, it begins anew
abbrev pub Gains : List ℕ → Bool → Result (Option ℕ) Refused7 → Pass → Type 0
Gains text cut (Ok (Some k)) pass = ((b : Bundle7) × IsWhole text b k) × IsFresh pass
Gains text cut (Ok None) pass = Waits text cut pass
Gains text cut (Err e) pass = (e.at ≤ length text) × IsRefused text cut e.at e.cause × IsFresh pass

-- what a pass over a piece answered: a failure as a refusal, or none where memory ran out
abbrev pub passed : Result (Option ℕ) Fail7 → Result (Option ℕ) (Option (ℕ × Cause7))
passed (Ok end) = Ok end
passed (Err fail) = Err (fault fail)

-- after a bundle the pass begins anew, and else it stands for the octets kept
abbrev pub KeepsPass : Result (Option ℕ) Fail7 → Held → Type 0
KeepsPass (Ok (Some k)) new = IsFresh new.pass
KeepsPass result new = IsHeld new

-- what a pass over a piece tells, after which no more may follow where it is cut
abbrev pub PassesOver : Held → List ℕ → Bool → Result (Option ℕ) Fail7 → Held → Type 0
PassesOver old piece cut result new =
    holding.PassesOver bundles (stream_of old) piece cut (passed result) (stream_of new)
    × KeepsPass result new

-- the end of the stream as a refusal
abbrev pub Ends : Stream → Option Refused7 → Type 0
Ends stream None = streams.Finishes bundles stream None
Ends stream (Some refused) = streams.Finishes bundles stream (Some (refused.at, refused.cause))
