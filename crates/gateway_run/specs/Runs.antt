-- How a run went of the command that words name, by the outside before it and after it: whatever
-- they tell.
use Rattle.std.specs.Prelude.{ℕ, List, [], ◌++◌, Bool, true, false, Option, None, Some, IfSome, IsSomeAnd, ◌≡◌, ◌⊎◌}
use Rattle.edge_traits.specs.declared.status.Status.{Status}
use Rattle.edge_traits.specs.declared.status.Status.TheVariants as statuses
use Rattle.edge_traits.specs.Settled.{at_end, Settled}
use Rattle.edge_traits.specs.Outcome.{IsAnswer, Ran, SourceTells, SinkTells}
use Rattle.command_frame.specs.Task.{Settling}
use Rattle.command_frame.specs.Limits.{Limiting}
use Rattle.bundle_runs.specs.Laws.{EarliestOctetDecides}
use Rattle.make_run.specs.Runs.{RanMade}
use Rattle.serve_run.specs.Serve.{Serving}
use Rattle.serve_run.specs.Turns.{Act}
use Rattle.serve_run.specs.Tells.{RanTurns}
use Rattle.gateway_run.specs.declared.commands.command.Command.{Command}
use Rattle.gateway_run.specs.declared.commands.decoding.Decoding.{Decoding}
use Rattle.gateway_run.specs.declared.commands.passed.Ended.{Ended}
use Rattle.gateway_run.specs.declared.commands.passed.Passed.{Passed}
use Rattle.gateway_run.specs.declared.commands.passed.Passed.TheVariants as passed
use Rattle.gateway_run.specs.Rules.{Rules, reads, writes, acts}
use Rattle.gateway_run.specs.Passed.{named_by, NamesOnLines}
use Rattle.gateway_run.specs.Commands.{Law, no_law, keeps, keeps_acting, decoding_of, decodes, decoding_limits, rules_of, law_of, limit_of}
use Rattle.gateway_run.specs.Edge.{Edge, KeepsLinks, HasNoFault}

-- ---- how a run went

-- of a command that reads, as its octets settle; links and clock are as before
pub record RanReading {S K L C : Type 0} (settles : Settling) (status : Status) (before now : Edge S K L C) : Type 0 where
  pub ran : Ran settles status before.reads now.reads before.writes now.writes
  pub links : KeepsLinks before now

-- of one that writes an answer of its own; nothing was read, and links and clock are as before
pub record RanWriting {S K L C : Type 0} (due : Settled) (status : Status) (before now : Edge S K L C) : Type 0 where
  pub made : RanMade due status before.writes now.writes
  pub unread : now.source ≡ before.source
  pub links : KeepsLinks before now

-- of one that acts over links and clock; nothing was read
pub record RanActing {S K L C : Type 0} (act : Act Serving) (status : Status) (before now : Edge S K L C) : Type 0 where
  pub acted : RanTurns act status before.links now.links before.writes now.writes
  pub unread : now.source ≡ before.source

abbrev pub RanBy : {S K L C : Type 0} → Rules → Status → Edge S K L C → Edge S K L C → Type 0
RanBy (reads settles) status before now = RanReading settles status before now
RanBy (writes due) status before now = RanWriting due status before now
RanBy (acts act) status before now = RanActing act status before now

-- Where words name no command, the run ends as wrong usage: nothing was read or written, and all of
-- the outside is as before.
abbrev pub RanNamed : {S K L C : Type 0} → Option Command → Status → Edge S K L C → Edge S K L C → Type 0
RanNamed None status before now = (status ≡ statuses.Usage) × (now ≡ before)
RanNamed (Some command) status before now = RanBy (rules_of command) status before now

-- the words name a command that decodes
abbrev pub decoding_named : Option Command → Option Decoding
decoding_named None = None
decoding_named (Some command) = decoding_of command

-- of one that decodes, as its octets settle, and with the limit that they pass
pub record Decoded (decoding : Decoding) (ended : Ended) (source source_now : SourceTells) (sink sink_now : SinkTells) : Type 0 where
  pub ran : Ran (decodes decoding) ended.status source source_now sink sink_now
  pub named : NamesOnLines (decoding_limits decoding) source.left ended.status ended.passed

-- where the words name one that decodes it is run, and else nothing is
abbrev pub DecodedNamed : Option Decoding → Option Ended → (source source_now : SourceTells) (sink sink_now : SinkTells) → Type 0
DecodedNamed None None source source_now sink sink_now = Unit {0}
DecodedNamed None (Some ended) source source_now sink sink_now = ⊥
DecodedNamed (Some decoding) None source source_now sink sink_now = ⊥
DecodedNamed (Some decoding) (Some ended) source source_now sink sink_now = Decoded decoding ended source source_now sink sink_now

-- ---- how it ends where nothing failed

-- as the answer has it, or for want of memory
abbrev pub EndsDue : Settled → Status → Type 0
EndsDue due status = (due.ends ≡ Some status) ⊎ (status ≡ statuses.Memory)

-- by what the input settles, where it is told; a command that acts is done
abbrev pub CompletesBy : Rules → Option (List ℕ) → Status → Type 0
CompletesBy (reads settles) left status = IfSome left (λ input. EndsDue (settles at_end input) status)
CompletesBy (writes due) left status = EndsDue due status
CompletesBy (acts act) left status = (status ≡ statuses.Done) ⊎ (status ≡ statuses.Memory)

abbrev pub Completes : {S K L C : Type 0} → Option Command → Status → Edge S K L C → Edge S K L C → Type 0
Completes named status before now =
    HasNoFault before now → IfSome named (λ command. CompletesBy (rules_of command) before.reads.left status)

-- ---- the laws

-- after what was held stands a text that keeps a law, whole where the run answered the input, and
-- else a front of one
pub record WritesLawfully (Law : List ℕ → Status → Type 0) (status : Status) (held after : List ℕ) : Type 0 where
  pub text : List ℕ
  pub ending : Status
  pub law : Law text ending
  pub written : List ℕ
  pub rest : List ℕ
  pub front : text ≡ written ++ rest
  pub after_is : after ≡ held ++ written
  pub whole : IsAnswer status → (rest ≡ []) × (ending ≡ status)

-- what was written keeps the law; where a run ended early, it is a front of such a text
abbrev pub IsLawful : (List ℕ → Status → Type 0) → Status → Option (List ℕ) → Option (List ℕ) → Type 0
IsLawful Law status before now =
    IfSome now (λ after. IsSomeAnd before (λ held. WritesLawfully Law status held after))

-- of a text, where source and sink tell what they hold; of a command that acts, whatever is told
abbrev pub KeepsBy : {S K L C : Type 0} → Law → Status → Edge S K L C → Edge S K L C → Type 0
KeepsBy no_law status before now = Unit {0}
KeepsBy (keeps Law) status before now =
    IfSome before.reads.left (λ input. IsLawful (Law input) status before.writes.held now.writes.held)
KeepsBy (keeps_acting Law) status before now = Law status before.links now.links before.writes now.writes

-- the law of the command
abbrev pub KeepsLaw : {S K L C : Type 0} → Option Command → Status → Edge S K L C → Edge S K L C → Type 0
KeepsLaw named status before now = IfSome named (λ command. KeepsBy (law_of command) status before now)

-- ---- the earliest place decides

-- of a command that reads: what the octets read settle is a front of what they settle with any
-- after them
abbrev pub DecidesEarliest : Rules → Type 0
DecidesEarliest (reads settles) = EarliestOctetDecides settles
DecidesEarliest (writes due) = Unit {0}
DecidesEarliest (acts act) = Unit {0}

-- ---- limits

-- the limits that a command may pass: one that reads those on its input and on its lines, and one
-- that writes an answer of its own those of its own; one that acts passes none
abbrev pub may_pass : Rules → Passed → Bool
may_pass (reads settles) passed.Size = true
may_pass (reads settles) passed.Lines = true
may_pass (reads settles) (passed.LineLength line) = true
may_pass (reads settles) (passed.Own line) = true
may_pass (reads settles) passed.Script = false
may_pass (writes due) passed.Size = false
may_pass (writes due) passed.Lines = false
may_pass (writes due) (passed.LineLength line) = false
may_pass (writes due) (passed.Own line) = false
may_pass (writes due) passed.Script = true
may_pass (acts act) limit = false

-- the limit that ended a run: the command may pass it, and where the source told its input, it is the
-- one that this passes
pub record IsPassed (command : Command) (left : Option (List ℕ)) (limit : Passed) : Type 0 where
  pub may : may_pass (rules_of command) limit ≡ true
  pub by_input : IfSome left (λ input. limit_of command input ≡ Some limit)

-- a limit is named if and only if the run ended with one, and it is the one that was passed
abbrev pub NamesPassed : Option Command → Option (List ℕ) → Status → Option Passed → Type 0
NamesPassed named left statuses.Limit (Some limit) = IsSomeAnd named (λ command. IsPassed command left limit)
NamesPassed named left statuses.Limit None = ⊥
NamesPassed named left statuses.Done limit = limit ≡ None
NamesPassed named left statuses.Refused limit = limit ≡ None
NamesPassed named left statuses.Usage limit = limit ≡ None
NamesPassed named left statuses.ReadFault limit = limit ≡ None
NamesPassed named left statuses.WriteFault limit = limit ≡ None
NamesPassed named left statuses.Memory limit = limit ≡ None

-- ---- what only ties code to these

-- how the run of a command names a limit, by what it does
abbrev pub NamesBy : Rules → Limiting → Option (List ℕ) → Status → Option Passed → Type 0
NamesBy (reads settles) limits left status limit = NamesOnLines limits left status limit
NamesBy (writes due) limits left status limit = limit ≡ named_by status passed.Script
NamesBy (acts act) limits left status limit = limit ≡ None
