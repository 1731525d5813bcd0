-- Reading a stream of bundles in pieces: what `wire_fields` says of a stream of any format.

use Rattle.std.specs.Prelude.{ℕ, List, Option, Some, None, Result, Ok, Err}
use Rattle.wire_fields.specs.Streaming as streams
use Rattle.wire_fields.specs.Streaming.{Streamed, Answer, took, failed}
pub use Rattle.wire_fields.specs.Streaming.{Stream, near}
use Rattle.bundle7.specs.declared.fault.Cause7.{Cause7}
use Rattle.bundle7.specs.declared.fault.Cause7.TheVariants.{Truncated, TooLong}
use Rattle.bundle7.specs.declared.fault.Refused7.{Refused7}
use Rattle.bundle7.specs.declared.fault.Fail7.{Fail7}
use Rattle.bundle7.specs.declared.fault.Fail7.TheVariants.{Refused, Memory}
use Rattle.bundle7.specs.declared.bundle.Bundle7.{Bundle7}
use Rattle.bundle7.specs.declared.reader.Fed7.{Fed7}
use Rattle.bundle7.specs.declared.reader.Judged7.{Judged7}
use Rattle.bundle7.specs.Table.{bundle}
use Rattle.bundle7.specs.Legal.{IsLegal7}

-- what comes in the stream: bundles as the table has them, those that are legal, and the causes where one is
-- cut short and where one is longer than the longest
abbrev pub bundles : Streamed Cause7 Bundle7
bundles = record { format = bundle 64; legal = IsLegal7; cut_short = Truncated; too_long = TooLong }

-- ---- what the calls answer

-- a failure as a refusal at a place for a cause; want of memory is none
abbrev pub fault : Fail7 → Option (ℕ × Cause7)
fault (Refused at cause) = Some (at, cause)
fault Memory = None

-- the answer of `feed` to a piece
abbrev pub fed_of : Result Fed7 Fail7 → Answer Cause7 Bundle7
fed_of (Ok fed) = took fed.used fed.bundle
fed_of (Err fail) = failed (fault fail)

-- the answer of `judge` to a piece
abbrev pub judged_of : Result Judged7 Fail7 → Answer Cause7 ℕ
judged_of (Ok judged) = took judged.used judged.whole
judged_of (Err fail) = failed (fault fail)

-- ---- pieces

abbrev pub IsOpen : List ℕ → Type 0
IsOpen text = streams.IsOpen bundles text

abbrev pub Takes : ℕ → Stream → List ℕ → ℕ → Option Bundle7 → Stream → Type 0
Takes longest old piece used found new = streams.Takes bundles longest old piece used found new

abbrev pub TakesSize : ℕ → Stream → List ℕ → ℕ → Option ℕ → Stream → Type 0
TakesSize longest old piece used size new = streams.TakesSize bundles longest old piece used size new

abbrev pub Refuses : ℕ → Stream → List ℕ → ℕ → Cause7 → Type 0
Refuses longest old piece at cause = streams.Refuses bundles longest old piece at cause

abbrev pub BeginsOpen : ℕ → List ℕ → Type 0
BeginsOpen longest piece = streams.BeginsOpen bundles longest piece

-- what a piece gives
abbrev pub Feeds : ℕ → Stream → List ℕ → Result Fed7 Fail7 → Stream → Type 0
Feeds longest old piece result new = streams.Feeds bundles longest old piece (fed_of result) new

-- what a piece gives where no bundle is wanted
abbrev pub JudgesPiece : ℕ → Stream → List ℕ → Result Judged7 Fail7 → Stream → Type 0
JudgesPiece longest old piece result new = streams.JudgesPiece bundles longest old piece (judged_of result) new

-- The end of the stream; it takes no memory.
abbrev pub Finishes : Stream → Result (Unit {0}) Fail7 → Type 0
Finishes old (Ok x) = streams.Finishes bundles old None
Finishes old (Err (Refused at cause)) = streams.Finishes bundles old (Some (at, cause))
Finishes old (Err Memory) = ⊥

-- ---- what a reader remembers

abbrev pub Reading : Type 0
Reading = streams.Reading Refused7

-- the refusal of a failure
abbrev pub refused_of : Fail7 → Option Refused7
refused_of (Refused at cause) = Some (record { at = at; cause = cause })
refused_of Memory = None

abbrev pub RemembersFail : Fail7 → Reading → Type 0
RemembersFail fail new = streams.RemembersFail (refused_of fail) new

abbrev pub Remembers : {A : Type 0} → Result A Fail7 → Reading → Type 0
Remembers result new = streams.Remembers refused_of result new

abbrev pub AnswersAgain : {A : Type 0} → Refused7 → Reading → Result A Fail7 → Reading → Type 0
AnswersAgain refused old result new =
    streams.AnswersAgain (λ (r : Refused7). Refused r.at r.cause) refused old result new

-- ---- laws of what `fed_of` shows

-- A piece has one answer, or memory is wanted.
abbrev pub HaveOneAnswer : ℕ → Type 0
HaveOneAnswer longest = streams.HaveOneAnswer bundles longest

-- A piece that completes nothing, and another after it, give what both give as one piece.
abbrev pub CutsAlike : ℕ → Type 0
CutsAlike longest = streams.CutsAlike bundles longest
