-- The commands: the words that name each, what it does, and the law that it keeps.
use Rattle.std.specs.Prelude.{ℕ, ◌-◌, ◌^◌, ◌≤◌, ◌≢◌, Bool, ◌&&◌, ◌==◌, nat_eq, nat_lt, nat_le, List, [], ◌∷◌, length, codes, Option, None, Some, if◌then◌else◌}
use Rattle.std.specs.Cmp.Lexicographic.{pointwise}
use Rattle.endpoint.specs.declared.name.Endpoint.{Endpoint}
use Rattle.edge_traits.specs.Content.{most_input}
use Rattle.edge_traits.specs.Outcome.{SinkTells}
use Rattle.edge_traits.specs.declared.status.Status.{Status}
use Rattle.command_frame.specs.Task.{Settling}
use Rattle.command_frame.specs.Within.{within}
use Rattle.command_frame.specs.Limits.{Limiting, limits_by_lines}
use Rattle.replay_script.specs.Events.{gate_of, number_in}
use Rattle.bundle_runs.specs.declared.commands.command.Command.TheVariants.{Check, Show, Convert, Cut, Join, KeepConverting, KeepCutting, KeepJoining}
use Rattle.bundle_runs.specs.declared.commands.command.Command as bundle_commands
use Rattle.bundle_runs.specs.Answering as bundles
use Rattle.node_run.specs.Node.{node_rules, begins, node_party}
use Rattle.node_run.specs.Node as node
use Rattle.node_run.specs.RedParts.{AnswersLines}
use Rattle.audit_run.specs.Audited.{audit_rules}
use Rattle.audit_run.specs.Audited as audit
use Rattle.record_run.specs.Record.{record_rules}
use Rattle.record_run.specs.Record as recording
use Rattle.record_run.specs.Exchange.{AreEngines, WritesExchange}
use Rattle.link_run.specs.Law.{KeepsLinkLaw}
use Rattle.link_run.specs.Link.{link_rules, no_link}
use Rattle.link_run.specs.Link as link
use Rattle.world_run.specs.World.{world_rules, no_path}
use Rattle.world_run.specs.World as world
use Rattle.world_run.specs.Headline.{KeepsHeadline}
use Rattle.make_run.specs.Making as make
use Rattle.serve_run.specs.Serve.{serve_turns}
use Rattle.serve_run.specs.Tells.{OutsideTells}
use Rattle.serve_run.specs.Events.{Served}
use Rattle.gateway_run.specs.declared.commands.command.Command.{Command}
use Rattle.gateway_run.specs.declared.commands.command.Command.TheVariants as commands
use Rattle.gateway_run.specs.declared.commands.decoding.Decoding.{Decoding}
use Rattle.gateway_run.specs.declared.commands.decoding.Decoding.TheVariants as decodings
use Rattle.receive_run.specs.Receive as receive
use Rattle.receive_run.specs.Receive.{the_limits, receive_rules}
use Rattle.receive_run.specs.KeepReceiving.{keep_receiving_rules, nothing_received}
use Rattle.receive_run.specs.KeepReceiving as keep_receiving
use Rattle.receive_run.specs.ReceiverLaw.{KeepsReceiverLaw}
use Rattle.gateway_run.specs.Rules.{Rules, reads, writes, acts}
use Rattle.gateway_run.specs.declared.commands.passed.Passed.{Passed}
use Rattle.gateway_run.specs.Passed.{no_limits, input_limit, script_limit}

-- ---- words

abbrev pub is_word : List ℕ → List ℕ → Bool
is_word word text = pointwise nat_eq word text

-- a command on bundles
abbrev pub of_bundles : bundle_commands.Command → Command
of_bundles command = commands.Decodes (decodings.Bundles command)

-- the command of a single word
abbrev pub one_word : List ℕ → Option Command
one_word word =
    if is_word word (codes "receive") then Some (commands.Decodes decodings.Receive)
    else if is_word word (codes "check") then Some (of_bundles Check)
    else if is_word word (codes "show") then Some (of_bundles Show)
    else if is_word word (codes "convert") then Some (of_bundles Convert)
    else if is_word word (codes "join") then Some (of_bundles Join)
    else if is_word word (codes "link") then Some commands.Link
    else if is_word word (codes "world") then Some commands.World
    else None

-- The commands on bundles go on after a bundle that they refuse where this is the last word. `show` refuses
-- none.
abbrev pub is_keep_going : List ℕ → Bool
is_keep_going word = is_word word (codes "--keep-going")

abbrev pub keeping_of : List ℕ → Option Command
keeping_of word =
    if is_word word (codes "receive") then Some (commands.Decodes decodings.KeepReceiving)
    else if is_word word (codes "show") then Some (of_bundles Show)
    else if is_word word (codes "convert") then Some (of_bundles KeepConverting)
    else if is_word word (codes "join") then Some (of_bundles KeepJoining)
    else None

-- the sizes of the pieces of `cut` are from 1 to 4,194,304
abbrev pub pieces_of : (ℕ → bundle_commands.Command) → Option ℕ → Option Command
pieces_of cut None = None
pieces_of cut (Some size) = Some (of_bundles (cut size))

abbrev pub cut_of : (size : List ℕ) → Option Command
cut_of size = pieces_of Cut (number_in 1 4194304 size)

abbrev pub keep_cutting_of : (size last : List ℕ) → Option Command
keep_cutting_of size last = if is_keep_going last then pieces_of KeepCutting (number_in 1 4194304 size) else None

-- two different numbers, from 1 to 4,294,967,295, are those of the two ends of a link
abbrev pub two_ends : (ℕ → ℕ → Command) → Option ℕ → Option ℕ → Option Command
two_ends command None peer = None
two_ends command (Some own) None = None
two_ends command (Some own) (Some peer) = if own == peer then None else Some (command own peer)

abbrev pub ends_of : (ℕ → ℕ → Command) → (own peer : List ℕ) → Option Command
ends_of command own peer =
    two_ends command (number_in 1 4294967295 own) (number_in 1 4294967295 peer)

-- `node` and `record` are one end of a link, and `audit` judges what came to one and left it
abbrev pub node_of : (own peer : List ℕ) → Option Command
node_of own peer = ends_of commands.Node own peer

abbrev pub record_of : (own peer : List ℕ) → Option Command
record_of own peer = ends_of commands.Record own peer

abbrev pub audit_of : (own peer : List ℕ) → Option Command
audit_of own peer = ends_of commands.Audit own peer

-- the seed of `make` is a number of 64 bits, and 1 to 1,000 bundles are sent
abbrev pub seed_and_count : Option ℕ → Option ℕ → Option Command
seed_and_count None count = None
seed_and_count (Some seed) None = None
seed_and_count (Some seed) (Some count) = Some (commands.Make seed count)

abbrev pub make_of : (seed count : List ℕ) → Option Command
make_of seed count = seed_and_count (number_in 0 (2 ^ 64 - 1) seed) (number_in 1 1000 count)

-- an address of `serve` has 1 to 64 octets; whether it can be used is seen when a socket is bound
abbrev pub is_address : List ℕ → Bool
is_address word = nat_lt 0 (length word) && nat_le (length word) 64

-- its gateway has a name other than the null endpoint's, and makes 1 to 1,000,000,000 turns
abbrev pub gate_and_count : Option Endpoint → Option ℕ → Option Command
gate_and_count None count = None
gate_and_count (Some gate) None = None
gate_and_count (Some gate) (Some count) = Some (commands.Serve gate count)

abbrev pub serve_of : (gate old_bind old_peer new_bind new_peer count : List ℕ) → Option Command
serve_of gate old_bind old_peer new_bind new_peer count =
    if is_address old_bind && is_address old_peer && is_address new_bind && is_address new_peer
    then gate_and_count (gate_of gate) (number_in 1 1000000000 count) else None

-- the commands of two words, of three and of seven
abbrev pub two_words : (word second : List ℕ) → Option Command
two_words word second =
    if is_keep_going second then keeping_of word
    else if is_word word (codes "cut") then cut_of second
    else None

abbrev pub three_words : (word second third : List ℕ) → Option Command
three_words word second third =
    if is_word word (codes "cut") then keep_cutting_of second third
    else if is_word word (codes "node") then node_of second third
    else if is_word word (codes "record") then record_of second third
    else if is_word word (codes "audit") then audit_of second third
    else if is_word word (codes "make") then make_of second third
    else None

abbrev pub seven_words : (word gate old_bind old_peer new_bind new_peer count : List ℕ) → Option Command
seven_words word gate old_bind old_peer new_bind new_peer count =
    if is_word word (codes "serve") then serve_of gate old_bind old_peer new_bind new_peer count else None

-- the command that the words name
abbrev pub command_of : List (List ℕ) → Option Command
command_of [] = None
command_of (word ∷ []) = one_word word
command_of (word ∷ a ∷ []) = two_words word a
command_of (word ∷ a ∷ b ∷ []) = three_words word a b
command_of (word ∷ a ∷ b ∷ c ∷ []) = None
command_of (word ∷ a ∷ b ∷ c ∷ d ∷ []) = None
command_of (word ∷ a ∷ b ∷ c ∷ d ∷ e ∷ []) = None
command_of (word ∷ a ∷ b ∷ c ∷ d ∷ e ∷ f ∷ []) = seven_words word a b c d e f
command_of (word ∷ a ∷ b ∷ c ∷ d ∷ e ∷ f ∷ more ∷ words) = None

-- the command decodes what it reads, and this is how
abbrev pub decoding_of : Command → Option Decoding
decoding_of (commands.Decodes decoding) = Some decoding
decoding_of (commands.Node own peer) = None
decoding_of (commands.Record own peer) = None
decoding_of (commands.Audit own peer) = None
decoding_of commands.Link = None
decoding_of commands.World = None
decoding_of (commands.Make seed count) = None
decoding_of (commands.Serve gate count) = None

-- ---- what a command does

-- what the octets settle of a command that decodes
abbrev pub decodes : Decoding → Settling
decodes decodings.Receive = within most_input (receive.settles the_limits)
decodes decodings.KeepReceiving = within most_input (keep_receiving.settles the_limits)
decodes (decodings.Bundles command) = bundles.settles command

abbrev pub rules_of : Command → Rules
rules_of (commands.Decodes decoding) = reads (decodes decoding)
rules_of (commands.Node own peer) = reads (within most_input (node.settles own peer))
rules_of (commands.Record own peer) = reads (within most_input (recording.settles own peer))
rules_of (commands.Audit own peer) = reads (within most_input (audit.settles own peer))
rules_of commands.Link = reads (within most_input link.settles)
rules_of commands.World = reads (within most_input world.settles)
rules_of (commands.Make seed count) = writes (make.answer_of seed count)
rules_of (commands.Serve gate count) = acts (serve_turns gate count)

-- ---- the limits of a command

-- which limit on lines the octets pass that a command decodes; where they are bundles, there is no such
-- limit
abbrev pub decoding_limits : Decoding → Limiting
decoding_limits decodings.Receive = limits_by_lines (receive_rules the_limits) []
decoding_limits decodings.KeepReceiving = limits_by_lines (keep_receiving_rules the_limits) nothing_received
decoding_limits (decodings.Bundles command) = no_limits

-- the same of any command; where it reads nothing, there is no such limit
abbrev pub limits_of : Command → Limiting
limits_of (commands.Decodes decoding) = decoding_limits decoding
limits_of (commands.Node own peer) = limits_by_lines node_rules (begins (node_party own peer))
limits_of (commands.Record own peer) = limits_by_lines record_rules (begins (node_party own peer))
limits_of (commands.Audit own peer) = limits_by_lines audit_rules (audit.begins own peer)
limits_of commands.Link = limits_by_lines link_rules no_link
limits_of commands.World = limits_by_lines world_rules no_path
limits_of (commands.Make seed count) = no_limits
limits_of (commands.Serve gate count) = no_limits

-- by what a command does: its input passes a limit, or a script that it makes itself
abbrev pub limit_in : Rules → Limiting → List ℕ → Option Passed
limit_in (reads settles) limits input = input_limit most_input limits input
limit_in (writes due) limits input = script_limit due.ends
limit_in (acts act) limits input = None

-- Which limit an input passes first, and where: the number of its lines, the length of a line, a
-- limit of the command's own at a line; or else its size. Nothing where it passes none.
abbrev pub limit_of : Command → List ℕ → Option Passed
limit_of command input = limit_in (rules_of command) (limits_of command) input

-- ---- the law of a command

-- What is said of a run beside its rules: of the input, of the text that a command writes of it, and
-- of how the run ends; or of how the run ends, and of what links, clock and sink tell before it and
-- after it; or nothing is.
pub data Law : Type 1 where
  no_law : Law
  keeps : (List ℕ → List ℕ → Status → Type 0) → Law
  keeps_acting : (Status → OutsideTells → OutsideTells → SinkTells → SinkTells → Type 0) → Law

-- Of `receive` the receiver's law. Of `node` that the events which its first lines say are
-- answered, and that its `up` lines are exactly the red parts which become whole with these events, no
-- session's twice. Of `record` that its lines are those of a recording in which no entry that went out breaks a rule. Of `link` that
-- its `up` lines are blocks that its lines send, whole and once, and that a drain from a link that is
-- hopeful and has room completes the sessions in time, where neither the plan ends it nor an old
-- datagram has somebody turned away. Of `world` that the events of its script are answered, and those of a drain; that its `up` lines are blocks that came whole, as
-- they were sent, and once; and that a drain from a path that is hopeful and has room completes the
-- sessions. Of `serve` that its run goes as the events have it that its calls are, by which the
-- receiver's law holds at each face.
abbrev pub law_of : Command → Law
law_of (commands.Decodes decodings.Receive) = keeps (KeepsReceiverLaw the_limits most_input)
law_of (commands.Decodes decodings.KeepReceiving) = no_law
law_of (commands.Decodes (decodings.Bundles command)) = no_law
law_of (commands.Node own peer) = keeps (AnswersLines (node_party own peer) most_input)
law_of (commands.Record own peer) =
    keeps (λ input text ending. AreEngines own peer → WritesExchange own peer text)
law_of (commands.Audit own peer) = no_law
law_of commands.Link = keeps (KeepsLinkLaw most_input)
law_of commands.World = keeps (KeepsHeadline most_input)
law_of (commands.Make seed count) = no_law
law_of (commands.Serve gate count) = keeps_acting (Served gate count)

-- ---- what only ties code to these

-- what the words leave of the ranges of numbers, and of a name
abbrev pub IsSound : Command → Type 0
IsSound (commands.Decodes decoding) = Unit {0}
IsSound (commands.Node own peer) = own ≢ peer
IsSound (commands.Record own peer) = own ≢ peer
IsSound (commands.Audit own peer) = own ≢ peer
IsSound commands.Link = Unit {0}
IsSound commands.World = Unit {0}
IsSound (commands.Make seed count) = count ≤ 1000
IsSound (commands.Serve gate count) = Unit {0}
