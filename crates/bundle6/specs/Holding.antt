-- What a reader of a stream keeps, and what the octets that it has give.

use Rattle.std.specs.Prelude.{◌≡◌, ℕ, ◌+◌, ◌^◌, ◌<◌, ◌≤◌, Bool, false, List, length, Option, Some, None, Result, Ok, Err}
use Rattle.wire_fields.specs.Reading.{IsOctets}
use Rattle.wire_fields.specs.Streaming as streams
use Rattle.wire_fields.specs.Holding as holding
pub use Rattle.wire_fields.specs.Holding.{text_of}
use Rattle.bundle6.specs.declared.fault.Cause6.{Cause6}
use Rattle.bundle6.specs.declared.fault.Refused6.{Refused6}
use Rattle.bundle6.specs.declared.fault.Fail6.{Fail6}
use Rattle.bundle6.specs.declared.bundle.Bundle6.{Bundle6}
use Rattle.bundle6.specs.declared.pass.Pass.{Pass}
use Rattle.bundle6.specs.declared.reader.Held.{Held}
use Rattle.bundle6.specs.declared.reader.Gained.{Gained}
use Rattle.bundle6.specs.declared.reader.Gained.TheVariants.{Whole, Open}
use Rattle.bundle6.specs.Passing.{Fits, Stands}
use Rattle.bundle6.specs.Streaming.{Stream, bundles, IsOpen, fault}

abbrev pub stream_of : Held → Stream
stream_of h = record { before = h.before; kept = h.kept.items }

-- the octets of one unfinished bundle, and a pass that stands for them
pub record IsHeld (h : Held) : Type 0 where
  pub fits : Fits 64 h.kept.items h.pass
  pub stands : Stands 64 h.kept.items h.pass
  pub begun : IsOpen h.kept.items
  pub octets : IsOctets h.kept.items
  pub counted : h.before + length h.kept.items < 2 ^ 64

abbrev pub IsRefused : List ℕ → Bool → ℕ → Cause6 → Type 0
IsRefused text cut at cause = holding.IsRefused bundles text cut at cause

abbrev pub IsWhole : List ℕ → Bundle6 → ℕ → Type 0
IsWhole text b k = holding.IsWhole bundles text b k

-- octets that end inside a bundle, and a pass that stands for them
pub record Waits (text : List ℕ) (cut : Bool) (pass : Pass) : Type 0 where
  pub last : cut ≡ false
  pub begun : IsOpen text
  pub octets : IsOctets text
  pub fits : Fits 64 text pass
  pub stands : Stands 64 text pass

abbrev pub Gains : List ℕ → Bool → Result Gained Refused6 → Type 0
Gains text cut (Ok (Whole k)) = (b : Bundle6) × IsWhole text b k
Gains text cut (Ok (Open pass)) = Waits text cut pass
Gains text cut (Err e) = (e.at ≤ length text) × IsRefused text cut e.at e.cause

-- what a pass over a piece answered: a failure as a refusal, or none where memory ran out
abbrev pub passed : Result (Option ℕ) Fail6 → Result (Option ℕ) (Option (ℕ × Cause6))
passed (Ok end) = Ok end
passed (Err fail) = Err (fault fail)

-- after a bundle the pass is as it was, and else it stands for the octets kept
abbrev pub KeepsPass : Held → Result (Option ℕ) Fail6 → Held → Type 0
KeepsPass old (Ok (Some k)) new = new.pass ≡ old.pass
KeepsPass old result new = IsHeld new

-- what a pass over a piece tells, after which no more may follow where it is cut
abbrev pub PassesOver : Held → List ℕ → Bool → Result (Option ℕ) Fail6 → Held → Type 0
PassesOver old piece cut result new =
    holding.PassesOver bundles (stream_of old) piece cut (passed result) (stream_of new)
    × KeepsPass old result new

-- the end of the stream as a refusal
abbrev pub Ends : Stream → Option Refused6 → Type 0
Ends stream None = streams.Finishes bundles stream None
Ends stream (Some refused) = streams.Finishes bundles stream (Some (refused.at, refused.cause))
