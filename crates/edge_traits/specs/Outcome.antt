-- How a run ends, and what that says of the octets written and of the calls made.
use Rattle.std.specs.Prelude.{◌≡◌, ℕ, ◌<◌, ◌+◌, List, ◌++◌, length, Bool, Option, None, Some, Result, Ok, Err, IfSome, IsSomeAnd}
use Rattle.std.specs.Io.KnownBytes.{IsAtEnd}
use Rattle.edge_traits.specs.declared.status.Status.{Status}
use Rattle.edge_traits.specs.declared.status.Status.TheVariants.{Done, Refused, Usage, ReadFault, WriteFault, Limit, Memory}
use Rattle.edge_traits.specs.declared.input.ReadRefused.{ReadRefused}
use Rattle.edge_traits.specs.declared.input.ReadRefused.TheVariants.{Fault, NoMemory}
use Rattle.edge_traits.specs.Content.{Gains, GainsFront}
use Rattle.edge_traits.specs.Faults.{Calls, calls_of, NoneFailed, LastFailed}
use Rattle.edge_traits.specs.Settled.{Ends, at_end, goes_on, Settled}

-- the program's exit status
abbrev pub code_of : Status → ℕ
code_of Done = 0
code_of Refused = 1
code_of Usage = 2
code_of ReadFault = 3
code_of WriteFault = 4
code_of Limit = 6
code_of Memory = 7

-- an answer ends a run so: by itself no answer is a fault, a wrong call or want of memory
abbrev pub IsAnswer : Status → Type 0
IsAnswer Done = Unit {0}
IsAnswer Refused = Unit {0}
IsAnswer Limit = Unit {0}
IsAnswer Usage = ⊥
IsAnswer ReadFault = ⊥
IsAnswer WriteFault = ⊥
IsAnswer Memory = ⊥

-- ---- what source and sink tell at a moment

-- the octets that are left, and the calls
pub record SourceTells : Type 0 where
  pub left : Option (List ℕ)
  pub calls : Calls

-- the octets that are held, and the calls
pub record SinkTells : Type 0 where
  pub held : Option (List ℕ)
  pub calls : Calls

-- what a source tells, and a sink, by the three words of its kind
abbrev pub source_tells : {S : Type 0} → (S → Option (List ℕ)) → (S → ℕ) → (S → Option (List Bool)) → S → SourceTells
source_tells left faults failing source = record { left = left source; calls = calls_of faults failing source }

abbrev pub sink_tells : {K : Type 0} → (K → Option (List ℕ)) → (K → ℕ) → (K → Option (List Bool)) → K → SinkTells
sink_tells held faults failing sink = record { held = held sink; calls = calls_of faults failing sink }

-- ---- a run

-- the run ended with the status that is settled, and exactly the text that is settled was written
abbrev pub EndsAs : Settled → Status → Option (List ℕ) → Option (List ℕ) → Type 0
EndsAs due status before now = (due.ends ≡ Some status) × Gains before now due.text

-- what was written by a run that ended so, of a command whose octets settle this: the input, what
-- is left of it, and what the sink held before and holds now
abbrev pub Wrote : (Ends → List ℕ → Settled) → Status → List ℕ → Option (List ℕ) → Option (List ℕ) → Option (List ℕ) → Type 0
Wrote settles Done input left before now = EndsAs (settles at_end input) Done before now
Wrote settles Refused input left before now = EndsAs (settles at_end input) Refused before now
Wrote settles Limit input left before now = EndsAs (settles at_end input) Limit before now
-- after a failed read, exactly what the octets settle that were read, and they settle no end
Wrote settles ReadFault input left before now = IsSomeAnd left (λ rest. (taken : List ℕ)
    × (input ≡ taken ++ rest) × ((settles goes_on taken).ends ≡ None) × Gains before now (settles goes_on taken).text)
-- after a failed write, or for want of memory, a front of what the input settles
Wrote settles WriteFault input left before now = GainsFront before now (settles at_end input).text
-- memory is wanted only where octets came, or where text is due
Wrote settles Memory input left before now =
    (0 < length input + length (settles at_end input).text) × GainsFront before now (settles at_end input).text
Wrote settles Usage input left before now = ⊥

-- the reads of a run that ended so; no command's run ends as wrong usage
abbrev pub WentReading : Status → Calls → Calls → Type 0
WentReading ReadFault before now = LastFailed before now
WentReading Done before now = NoneFailed before now
WentReading Refused before now = NoneFailed before now
WentReading Usage before now = ⊥
WentReading WriteFault before now = NoneFailed before now
WentReading Limit before now = NoneFailed before now
WentReading Memory before now = NoneFailed before now

-- the writes of a run that ended so
abbrev pub WentWriting : Status → Calls → Calls → Type 0
WentWriting WriteFault before now = LastFailed before now
WentWriting Done before now = NoneFailed before now
WentWriting Refused before now = NoneFailed before now
WentWriting Usage before now = ⊥
WentWriting ReadFault before now = NoneFailed before now
WentWriting Limit before now = NoneFailed before now
WentWriting Memory before now = NoneFailed before now

-- how a run went of a command whose octets settle this, by what source and sink told before it and
-- tell after it
pub record Ran (settles : Ends → List ℕ → Settled) (status : Status) (source source_now : SourceTells) (sink sink_now : SinkTells) : Type 0 where
  pub wrote : IfSome source.left (λ input. Wrote settles status input source_now.left sink.held sink_now.held)
  pub reads : WentReading status source.calls source_now.calls
  pub writes : WentWriting status sink.calls sink_now.calls
  pub to_end : status ≡ Done → IsAtEnd source_now.left

-- ---- reading an input to its end, and writing an answer

-- the reads of an input that was read, or was not
abbrev pub WentTo : {T : Type 0} → Result T ReadRefused → Calls → Calls → Type 0
WentTo (Ok input) before now = NoneFailed before now
WentTo (Err Fault) before now = LastFailed before now
WentTo (Err NoMemory) before now = NoneFailed before now

-- what was written of an answer by a call that ended so
abbrev pub WroteAnswer : Settled → Status → Option (List ℕ) → Option (List ℕ) → Type 0
WroteAnswer due Done before now = EndsAs due Done before now
WroteAnswer due Refused before now = EndsAs due Refused before now
WroteAnswer due Limit before now = EndsAs due Limit before now
WroteAnswer due WriteFault before now = GainsFront before now due.text
WroteAnswer due Usage before now = ⊥
WroteAnswer due ReadFault before now = ⊥
WroteAnswer due Memory before now = ⊥
