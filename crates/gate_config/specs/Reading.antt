-- What a file means, from its octets, and why it is refused.

use Rattle.std.specs.Prelude.{◌≡◌, ◌<◌, ◌≤◌, ◌+◌, ◌==◌, ℕ, List, length, Some, None, IsUtf8}
use Rattle.std.specs.Prelude.{Option, Result, Ok, Err}
use Rattle.std.specs.List.{count_by}
use Rattle.toml.specs.Data.{Data, table, Members}
use Rattle.toml.specs.Parse.{parse_document}
use Rattle.toml.specs.Errors.{IsBlank}
use Rattle.gate_config.specs.declared.fault.Refusal.{Refusal}
use Rattle.gate_config.specs.declared.fault.Refusal.TheVariants as refusals
use Rattle.gate_config.specs.declared.fault.ConfigFault.{ConfigFault}
use Rattle.gate_config.specs.declared.fault.ConfigFault.TheVariants as faults
use Rattle.gate_config.specs.declared.file.GateFile.{GateFile}
use Rattle.gate_config.specs.Meaning.{refusal_of, file_of}

-- the most octets of a file
abbrev pub most_octets : ℕ
most_octets = 1_048_576

-- a text means this: it is a TOML document of which nothing is refused, and these are the
-- document's values with the defaults filled in
pub record MeansText (text : List ℕ) (file : GateFile) : Type 0 where
  pub document : Members
  pub read : parse_document text ≡ Some document
  pub kept : refusal_of (Some (table document)) ≡ None
  pub values : file ≡ file_of (Some (table document))

-- a file means this: it has at most so many octets, and they are UTF-8
pub record MeansWithin (most : ℕ) (octets : List ℕ) (file : GateFile) : Type 0 where
  pub short : length octets ≤ most
  pub utf8 : IsUtf8 octets
  pub means : MeansText octets file

abbrev pub Means : List ℕ → GateFile → Type 0
Means = MeansWithin most_octets

-- no octets mean two things
abbrev pub HaveOneMeaning : Type 0
HaveOneMeaning =
    (octets : List ℕ) (one other : GateFile) → Means octets one → Means octets other → one ≡ other

-- ---- refusals

-- the text is a TOML document, of which this is the first refusal
pub record RefusedBy (text : List ℕ) (refusal : Refusal) : Type 0 where
  pub document : Members
  pub read : parse_document text ≡ Some document
  pub refused : refusal_of (Some (table document)) ≡ Some refusal

abbrev pub RefusedText : List ℕ → Refusal → Type 0
RefusedText text refusals.Size = ⊥
RefusedText text refusals.Utf8 = ⊥
RefusedText text (refusals.Toml line) = parse_document text ≡ None
RefusedText text (refusals.NoKey within key) = RefusedBy text (refusals.NoKey within key)
RefusedText text (refusals.Wrong within key wanted) =
    RefusedBy text (refusals.Wrong within key wanted)

-- a file is refused for this reason, and for none before it in the order
abbrev pub RefusedWithin : ℕ → List ℕ → Refusal → Type 0
RefusedWithin most octets refusals.Size = most < length octets
RefusedWithin most octets refusals.Utf8 = (length octets ≤ most) × (IsUtf8 octets → ⊥)
RefusedWithin most octets (refusals.Toml line) =
    (length octets ≤ most) × IsUtf8 octets × RefusedText octets (refusals.Toml line)
RefusedWithin most octets (refusals.NoKey within key) =
    (length octets ≤ most) × IsUtf8 octets × RefusedText octets (refusals.NoKey within key)
RefusedWithin most octets (refusals.Wrong within key wanted) =
    (length octets ≤ most) × IsUtf8 octets × RefusedText octets (refusals.Wrong within key wanted)

-- ---- how a read fails: by a refusal, or for want of memory, which only a text wants that has
-- more than white space and comments

abbrev pub FailsText : List ℕ → ConfigFault → Type 0
FailsText text (faults.Refused refusal) = RefusedText text refusal
FailsText text faults.Memory = IsBlank text → ⊥

abbrev pub FailsWithin : ℕ → List ℕ → ConfigFault → Type 0
FailsWithin most octets (faults.Refused refusal) = RefusedWithin most octets refusal
FailsWithin most octets faults.Memory =
    (length octets ≤ most) × IsUtf8 octets × FailsText octets faults.Memory

abbrev pub Fails : List ℕ → ConfigFault → Type 0
Fails = FailsWithin most_octets

-- the line, from 1, in which the place after these octets lies
abbrev pub line_of : List ℕ → ℕ
line_of before = count_by (λ octet. octet == 10) before + 1

-- ---- what is answered of a document

-- a refusal of keys is answered as it is; only one that has octets of a key may want memory
abbrev pub IsOwned : Refusal → ConfigFault → Type 0
IsOwned (refusals.NoKey within key) (faults.Refused answered) = answered ≡ refusals.NoKey within key
IsOwned (refusals.NoKey within key) faults.Memory = Unit {0}
IsOwned (refusals.Wrong within key wanted) (faults.Refused answered) =
    answered ≡ refusals.Wrong within key wanted
IsOwned (refusals.Wrong within key wanted) faults.Memory = ⊥
IsOwned refusals.Size fault = ⊥
IsOwned refusals.Utf8 fault = ⊥
IsOwned (refusals.Toml line) fault = ⊥

abbrev pub AnswersRefusal : Data → Option Refusal → Result GateFile ConfigFault → Type 0
AnswersRefusal document None (Ok file) = file ≡ file_of (Some document)
AnswersRefusal document None (Err fault) = fault ≡ faults.Memory
AnswersRefusal document (Some refusal) (Ok file) = ⊥
AnswersRefusal document (Some refusal) (Err fault) = IsOwned refusal fault

-- a document that isn't refused is read, unless memory runs out, and else its refusal is answered
abbrev pub AnswersDocument : Data → Result GateFile ConfigFault → Type 0
AnswersDocument document result = AnswersRefusal document (refusal_of (Some document)) result
