-- The bundle that has begun and is to be shown: for a reading that keeps all octets.
use Rattle.std.specs.Prelude.{◌≡◌, ℕ, ◌+◌, ◌≤◌, List, [], length, Option, None, Some, false}
use Rattle.bundle7.specs.Streaming.{Reading}
use Rattle.bundle_judges.specs.Judging6.{Judging}
use Rattle.bundle_runs.specs.declared.front.Bundle.{Bundle}
use Rattle.bundle_runs.specs.declared.given.Given.{Given}
use Rattle.bundle_runs.specs.declared.given.Given.TheVariants.{Whole, Part, Refused}
use Rattle.bundle_runs.specs.declared.unfinished.Unfinished.{Unfinished}
use Rattle.bundle_runs.specs.declared.unfinished.Unfinished.TheVariants.{Seven}
use Rattle.bundle_runs.specs.declared.begun.Begun.TheVariants as begins
use Rattle.bundle_runs.specs.declared.coming.Coming.{Coming}
use Rattle.bundle_runs.specs.declared.coming.Coming.TheVariants as comings
use Rattle.bundle_runs.specs.declared.bundle_reader.Standing.{Standing}
use Rattle.bundle_runs.specs.Front.{version_of}
use Rattle.bundle_runs.specs.Given.{IsRead}
use Rattle.bundle_runs.specs.Taking.{kept_of, IsReady, HasBegunWith, Takes, Took}
use Rattle.bundle_runs.specs.Checking.{StandsFor, IfPart}

-- a bundle of version 6 is told out of its octets, and one of version 7 is built
abbrev pub IsShown : Bundle → Option Bundle → Type 0
IsShown bundle None = version_of bundle ≡ 6
IsShown bundle (Some read) = (version_of bundle ≡ 7) × IsRead bundle read

-- what is given of a bundle of version 6
abbrev pub shown6 : Given ℕ → Given (Option Bundle)
shown6 (Whole version used) = Whole None used
shown6 Part = Part
shown6 (Refused at cause) = Refused at cause

-- or of one of version 7
abbrev pub shown7 : Given Bundle → Given (Option Bundle)
shown7 (Whole bundle used) = Whole (Some bundle) used
shown7 Part = Part
shown7 (Refused at cause) = Refused at cause

-- where octets gave a bundle
abbrev pub IfWhole : {A : Type 0} → Given A → Type 0 → Type 0
IfWhole (Whole wanted used) fact = fact
IfWhole Part fact = Unit {0}
IfWhole (Refused at cause) fact = Unit {0}

-- a reader of version 7 took nothing
abbrev pub TookNone : Reading → Type 0
TookNone reader = reader ≡ record { stream = record { before = 0; kept = [] }; refused = None; spent = false }

-- what takes the bundle took the octets that a reader keeps: a judge, or the reader of version 7
abbrev pub ComesFor : Coming → Reading → Unfinished → Type 0
ComesFor (comings.Six judge) reader bundle = StandsFor (begins.Six judge) bundle × TookNone reader
ComesFor comings.Seven reader bundle = bundle ≡ Seven reader

abbrev pub ComesForAny : Option Coming → Reading → Option Unfinished → Type 0
ComesForAny None reader None = TookNone reader
ComesForAny None reader (Some bundle) = ⊥
ComesForAny (Some coming) reader None = ⊥
ComesForAny (Some coming) reader (Some bundle) = ComesFor coming reader bundle

-- a judge took octets that begin a bundle of version 6 and don't end it
abbrev pub BeginsSix : List ℕ → Coming → Type 0
BeginsSix octets coming =
    (judge : Judging) × (coming ≡ comings.Six judge)
    × ((bundle : Unfinished) × StandsFor (begins.Six judge) bundle × HasBegunWith octets bundle)

-- it may take a piece
abbrev pub MayCome : Coming → Reading → List ℕ → Unfinished → Type 0
MayCome coming reader piece bundle =
    ComesFor coming reader bundle × IsReady bundle × (length (kept_of bundle) + length piece ≤ 67108864)

-- the reader of version 7 took a piece, and let go of a bundle that is whole
pub record ReadsOn (old : Reading) (piece : List ℕ) (new : Reading) (given : Given Bundle) : Type 0 where
  pub later : Reading
  pub takes : Takes IsRead (Seven old) piece (Seven later) given
  pub part : IfPart given (new ≡ later)
  pub rests : IfWhole given (TookNone new)

-- a piece was taken, as a reader would have taken it
pub record ComesMore (old : Unfinished) (piece : List ℕ) (new : Coming) (reader : Reading) (given : Given (Option Bundle)) : Type 0 where
  pub later : Unfinished
  pub takes : Takes IsShown old piece later given
  pub part : IfPart given (ComesFor new reader later)
  pub rests : IfWhole given (TookNone reader)

-- octets of one bundle were taken, as a reading that keeps them would have taken them
pub record JudgedSo (old : Standing) (left : List ℕ) (coming : Option Coming) (reader : Reading) (given : Given (Option Bundle)) : Type 0 where
  pub mid : Standing
  pub took : Took IsShown old left mid given
  pub part : IfPart given (ComesForAny coming reader mid.unfinished)
  pub rests : IfWhole given (TookNone reader)
