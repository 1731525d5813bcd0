-- How a run went, by its command.
use Rattle.std.proofs.Common.{◌≡◌, ◌↔◌, ℕ, ◌+◌, ◌-◌, ◌<◌, ◌^◌, min, inl, inr, List, [], ◌++◌, Option, None, Some, IfSome, refl, sym, subst, ◌∙◌, arith}
use Rattle.std.proofs.lemmas.List.{append-nil}
use Rattle.edge_traits.specs.declared.status.Status.{Status}
use Rattle.edge_traits.specs.declared.status.Status.TheVariants as statuses
use Rattle.edge_traits.specs.Content.{GainsFront, most_input}
use Rattle.edge_traits.specs.Outcome.{EndsAs, Wrote, WentReading, WentWriting, IsAnswer}
use Rattle.edge_traits.specs.Settled.{at_end, Settled, EarliestDecides}
use Rattle.command_frame.specs.Task.{Settling}
use Rattle.command_frame.specs.Within.{within}
use Rattle.command_frame.specs.Lines.{LineRules, by_lines}
use Rattle.command_frame.specs.Limits.{limits_by_lines}
use Rattle.command_frame.proofs.WithinLemmas.{within-front}
use Rattle.command_frame.proofs.FrontLemmas.{lines_from-front}
use Rattle.command_frame.proofs.DriveLemmas.{fault-front}
use Rattle.bundle_runs.proofs.LawLemmas.{earliest_decides}
use Rattle.node_run.specs.Node.{node_rules, begins, node_party}
use Rattle.node_run.specs.Node as node
use Rattle.record_run.specs.Record.{record_rules}
use Rattle.record_run.specs.Record as recording
use Rattle.record_run.specs.Exchange.{AreEngines, WritesExchange}
use Rattle.record_run.proofs.ExchangeLemmas.{writes_exchange}
use Rattle.audit_run.specs.Audited.{audit_rules}
use Rattle.audit_run.specs.Audited as audit
use Rattle.node_run.specs.RedParts.{AnswersLines, AnswersEvents}
use Rattle.link_run.specs.Link.{link_rules, no_link}
use Rattle.link_run.specs.Link as link
use Rattle.link_run.specs.Law.{KeepsLinkLaw}
use Rattle.link_run.proofs.LawLemmas.{links-keep-law}
use Rattle.world_run.specs.World.{world_rules, no_path}
use Rattle.world_run.specs.World as world
use Rattle.world_run.specs.Headline.{KeepsHeadline, WorldsKeepHeadline}
use Rattle.make_run.specs.Making as make
use Rattle.make_run.specs.Runs.{WroteMade}
use Rattle.serve_run.specs.Serve.{Serving, serve_turns}
use Rattle.serve_run.specs.Turns.{Act}
use Rattle.serve_run.specs.Tells.{OutsideTells, RanTurns}
use Rattle.serve_run.specs.Events.{RunsKeepLaw}
use Rattle.gateway_run.specs.declared.commands.command.Command.{Command}
use Rattle.gateway_run.specs.declared.commands.command.Command.TheVariants as commands
use Rattle.gateway_run.specs.declared.commands.decoding.Decoding.TheVariants as decodings
use Rattle.receive_run.specs.Receive.{Limits, the_limits, receive_rules}
use Rattle.receive_run.specs.Receive as receive
use Rattle.receive_run.specs.KeepReceiving.{keep_receiving_rules, nothing_received}
use Rattle.receive_run.specs.KeepReceiving as keep_receiving
use Rattle.receive_run.specs.ReceiverLaw.{KeepsReceiverLaw}
use Rattle.gateway_run.specs.Rules.{Rules, reads, writes, acts}
use Rattle.gateway_run.specs.Commands.{rules_of, limits_of}
use Rattle.gateway_run.specs.Edge.{Edge, HasNoFault}
use Rattle.gateway_run.specs.declared.commands.passed.Passed.{Passed}
use Rattle.gateway_run.specs.declared.commands.passed.Passed.TheVariants as passed
use Rattle.gateway_run.specs.Passed.{passed_on_lines, input_limit, NamesOnLines}
use Rattle.gateway_run.specs.Runs.{RanReading, RanBy, RanNamed, EndsDue, CompletesBy, Completes, KeepsLaw, WritesLawfully, IsLawful, DecidesEarliest, NamesPassed, NamesBy}
use Rattle.receive_run.proofs.TranscriptLemmas.{received-law}
use Rattle.gateway_run.proofs.NamedLemmas.{names-passed, names-none, reads-named, lines-pass, keep_receiving-free, link-free, world-free, bundles-pass, script-passes, acting-limit}

-- ---- fronts

pub receive-front : (limits : Limits) (most : ℕ) → EarliestDecides (within most (receive.settles limits))
receive-front limits most = within-front most (receive.settles limits) (lines_from-front (receive_rules limits) 1 [])

keep_receiving-front : EarliestDecides (within most_input (keep_receiving.settles the_limits))
keep_receiving-front =
    within-front most_input (keep_receiving.settles the_limits) (lines_from-front (keep_receiving_rules the_limits) 1 nothing_received)

node-front : (own peer : ℕ) → EarliestDecides (within most_input (node.settles own peer))
node-front own peer =
    within-front most_input (node.settles own peer) (lines_from-front node_rules 1 (begins (node_party own peer)))

record-front : (own peer : ℕ) → EarliestDecides (within most_input (recording.settles own peer))
record-front own peer =
    within-front most_input (recording.settles own peer) (lines_from-front record_rules 1 (begins (node_party own peer)))

audit-front : (own peer : ℕ) → EarliestDecides (within most_input (audit.settles own peer))
audit-front own peer =
    within-front most_input (audit.settles own peer) (lines_from-front audit_rules 1 (audit.begins own peer))

link-front : EarliestDecides (within most_input link.settles)
link-front = within-front most_input link.settles (lines_from-front link_rules 1 no_link)

world-front : EarliestDecides (within most_input world.settles)
world-front = within-front most_input world.settles (lines_from-front world_rules 1 no_path)

pub command-front : (command : Command) → DecidesEarliest (rules_of command)
command-front (commands.Decodes decodings.Receive) = λ ends taken more octets. receive-front the_limits most_input ends taken more
command-front (commands.Decodes decodings.KeepReceiving) = λ ends taken more octets. keep_receiving-front ends taken more
command-front (commands.Decodes (decodings.Bundles command)) = earliest_decides command
command-front (commands.Node own peer) = λ ends taken more octets. node-front own peer ends taken more
command-front (commands.Record own peer) = λ ends taken more octets. record-front own peer ends taken more
command-front (commands.Audit own peer) = λ ends taken more octets. audit-front own peer ends taken more
command-front commands.Link = λ ends taken more octets. link-front ends taken more
command-front commands.World = λ ends taken more octets. world-front ends taken more
command-front (commands.Make seed count) = tt
command-front (commands.Serve gate count) = tt

-- ---- the laws

-- what a command's octets settle keeps a law
module _ (settling : Settling) (decides : EarliestDecides settling) (input : List ℕ) (Law : List ℕ → Status → Type 0)
    (ending : Status) (is : (settling at_end input).ends ≡ Some ending) (law : Law (settling at_end input).text ending) where
  whole_text : (status : Status) (held after : List ℕ) → (settling at_end input).ends ≡ Some status
      → after ≡ held ++ (settling at_end input).text → WritesLawfully Law status held after
  whole_text status held after due gained = record {
    text = (settling at_end input).text;
    ending = ending;
    law = law;
    written = (settling at_end input).text;
    rest = [];
    front = sym (append-nil (settling at_end input).text);
    after_is = gained;
    whole = λ answer. let same : Some ending ≡ Some status = sym is ∙ due in (refl, cc);
  }

  front_text : (status : Status) (held after written rest : List ℕ) → (IsAnswer status → ⊥)
      → (settling at_end input).text ≡ written ++ rest → after ≡ held ++ written → WritesLawfully Law status held after
  front_text status held after written rest early parts gained = record {
    text = (settling at_end input).text;
    ending = ending;
    law = law;
    written = written;
    rest = rest;
    front = parts;
    after_is = gained;
    whole = λ answer. absurd (early answer);
  }

  whole_gains : (status : Status) (before now : Option (List ℕ)) → EndsAs (settling at_end input) status before now
      → IsLawful Law status before now
  whole_gains status before None ends = tt
  whole_gains status None (Some after) ends = absurd ends.1
  whole_gains status (Some held) (Some after) ends = whole_text status held after ends.0 ends.1

  front_gains : (status : Status) (before now : Option (List ℕ)) → (IsAnswer status → ⊥) → GainsFront before now (settling at_end input).text
      → IsLawful Law status before now
  front_gains status before None early gains = tt
  front_gains status None (Some after) early gains = absurd gains
  front_gains status (Some held) (Some after) early gains =
      let (written, rest, parts, gained) = gains in front_text status held after written rest early parts gained

  lawful : (status : Status) (left before now : Option (List ℕ)) → Wrote settling status input left before now → IsLawful Law status before now
  lawful statuses.Done left before now wrote = whole_gains statuses.Done before now wrote
  lawful statuses.Refused left before now wrote = whole_gains statuses.Refused before now wrote
  lawful statuses.Limit left before now wrote = whole_gains statuses.Limit before now wrote
  lawful statuses.Usage left before now wrote = absurd wrote
  lawful statuses.ReadFault left before now wrote =
      front_gains statuses.ReadFault before now (λ no_answer. no_answer) (fault-front settling decides input left before now wrote)
  lawful statuses.WriteFault left before now wrote = front_gains statuses.WriteFault before now (λ no_answer. no_answer) wrote
  lawful statuses.Memory left before now wrote = front_gains statuses.Memory before now (λ no_answer. no_answer) wrote.1

-- what is said of every text is said of one that is told
on-told : (told : Option (List ℕ)) (P Q : List ℕ → Type 0) → ((text : List ℕ) → P text → Q text) → IfSome told P → IfSome told Q
on-told None P Q step holds = tt
on-told (Some text) P Q step holds = step text holds

receive-keeps : (status : Status) (left before now : Option (List ℕ)) (input : List ℕ)
    → Wrote (within most_input (receive.settles the_limits)) status input left before now
    → IsLawful (KeepsReceiverLaw the_limits most_input input) status before now
receive-keeps status left before now input =
    let received = received-law the_limits most_input input in
    lawful (within most_input (receive.settles the_limits)) (receive-front the_limits most_input) input
    (KeepsReceiverLaw the_limits most_input input) received.status received.is received.law status left before now

node-keeps : AnswersEvents → (own peer : ℕ) (status : Status) (left before now : Option (List ℕ)) (input : List ℕ)
    → Wrote (within most_input (node.settles own peer)) status input left before now
    → IsLawful (AnswersLines (node_party own peer) most_input input) status before now
node-keeps answers own peer status left before now input =
    let answered = answers own peer most_input input in
    lawful (within most_input (node.settles own peer)) (node-front own peer) input
    (AnswersLines (node_party own peer) most_input input) answered.ending answered.ends answered.law
    status left before now

record-keeps : (own peer : ℕ) (status : Status) (left before now : Option (List ℕ)) (input : List ℕ)
    → Wrote (within most_input (recording.settles own peer)) status input left before now
    → IsLawful (λ text ending. AreEngines own peer → WritesExchange own peer text) status before now
record-keeps own peer status left before now input =
    let written = writes_exchange own peer most_input input in
    lawful (within most_input (recording.settles own peer)) (record-front own peer) input
    (λ text ending. AreEngines own peer → WritesExchange own peer text) written.status written.is written.law
    status left before now

world-keeps : WorldsKeepHeadline → (status : Status) (left before now : Option (List ℕ)) (input : List ℕ)
    → Wrote (within most_input world.settles) status input left before now → IsLawful (KeepsHeadline most_input input) status before now
world-keeps headline status left before now input =
    let played = headline most_input input in
    lawful (within most_input world.settles) world-front input (KeepsHeadline most_input input) played.ending played.ends played.law
    status left before now

link-keeps : (status : Status) (left before now : Option (List ℕ)) (input : List ℕ)
    → Wrote (within most_input link.settles) status input left before now → IsLawful (KeepsLinkLaw most_input input) status before now
link-keeps status left before now input =
    let played = links-keep-law most_input input in
    lawful (within most_input link.settles) link-front input (KeepsLinkLaw most_input input) played.ending played.ends played.law
    status left before now

-- the laws that calls of empty bodies tell
pub record LawsTold : Type 0 where
  pub node : AnswersEvents
  pub world : WorldsKeepHeadline
  pub serve : RunsKeepLaw

command-keeps : {S K L C : Type 0} → LawsTold → (command : Command) (status : Status) (before now : Edge S K L C)
    → RanBy (rules_of command) status before now → KeepsLaw (Some command) status before now
command-keeps told (commands.Decodes decodings.Receive) status before now ran =
    on-told before.reads.left _ _ (receive-keeps status now.reads.left before.writes.held now.writes.held) ran.ran.wrote
command-keeps told (commands.Decodes decodings.KeepReceiving) status before now ran = tt
command-keeps told (commands.Decodes (decodings.Bundles command)) status before now ran = tt
command-keeps told (commands.Node own peer) status before now ran =
    on-told before.reads.left _ _ (node-keeps told.node own peer status now.reads.left before.writes.held now.writes.held) ran.ran.wrote
command-keeps told (commands.Record own peer) status before now ran =
    on-told before.reads.left _ _ (record-keeps own peer status now.reads.left before.writes.held now.writes.held) ran.ran.wrote
command-keeps told (commands.Audit own peer) status before now ran = tt
command-keeps told commands.Link status before now ran =
    on-told before.reads.left _ _ (link-keeps status now.reads.left before.writes.held now.writes.held) ran.ran.wrote
command-keeps told commands.World status before now ran =
    on-told before.reads.left _ _ (world-keeps told.world status now.reads.left before.writes.held now.writes.held) ran.ran.wrote
command-keeps told (commands.Make seed count) status before now ran = tt
command-keeps told (commands.Serve gate count) status before now ran =
    record { ran = ran.acted; law = told.serve gate count ran.acted.outside }

pub named-keeps : {S K L C : Type 0} → LawsTold → (named : Option Command) (status : Status) (before now : Edge S K L C)
    → RanNamed named status before now → KeepsLaw named status before now
named-keeps told None status before now ran = tt
named-keeps told (Some command) status before now ran = command-keeps told command status before now ran

-- ---- how a run ends where nothing failed

-- a count that rose isn't what it was
rises : (n most : ℕ) → n < most → n ≡ min (n + 1) most → ⊥
rises n most below is = omega arith

module _ {S K L C : Type 0} (before now : Edge S K L C) (fault : HasNoFault before now) where
  no_read_failed : before.reads.calls.faults ≡ min (before.reads.calls.faults + 1) (2 ^ 64 - 1) → ⊥
  no_read_failed = rises before.reads.calls.faults (2 ^ 64 - 1) fault.reads_may

  no_write_failed : before.writes.calls.faults ≡ min (before.writes.calls.faults + 1) (2 ^ 64 - 1) → ⊥
  no_write_failed = rises before.writes.calls.faults (2 ^ 64 - 1) fault.writes_may

  reading-ends : (settles : Settling) (status : Status) (left held after : Option (List ℕ)) (input : List ℕ)
      → WentReading status before.reads.calls now.reads.calls → WentWriting status before.writes.calls now.writes.calls
      → Wrote settles status input left held after → EndsDue (settles at_end input) status
  reading-ends settles statuses.Done left held after input went gone wrote = inl wrote.0
  reading-ends settles statuses.Refused left held after input went gone wrote = inl wrote.0
  reading-ends settles statuses.Limit left held after input went gone wrote = inl wrote.0
  reading-ends settles statuses.Usage left held after input went gone wrote = absurd wrote
  reading-ends settles statuses.ReadFault left held after input went gone wrote =
      absurd (no_read_failed (sym fault.reads ∙ went.count))
  reading-ends settles statuses.WriteFault left held after input went gone wrote =
      absurd (no_write_failed (sym fault.writes ∙ gone.count))
  reading-ends settles statuses.Memory left held after input went gone wrote = inr refl

  writing-ends : (due : Settled) (status : Status) → WroteMade due status before.writes.held now.writes.held
      → WentWriting status before.writes.calls now.writes.calls → EndsDue due status
  writing-ends due statuses.Done wrote gone = inl wrote.0
  writing-ends due statuses.Limit wrote gone = inl wrote.0
  writing-ends due statuses.WriteFault wrote gone = absurd (no_write_failed (sym fault.writes ∙ gone.count))
  writing-ends due statuses.Memory wrote gone = inr refl
  writing-ends due statuses.Refused wrote gone = absurd wrote
  writing-ends due statuses.Usage wrote gone = absurd wrote
  writing-ends due statuses.ReadFault wrote gone = absurd wrote

  acting-ends : (act : Act Serving) (status : Status) (links links_now : OutsideTells)
      → RanTurns act status links links_now before.writes now.writes → CompletesBy (acts act) before.reads.left status
  acting-ends act statuses.Done links links_now ran = inl refl
  acting-ends act statuses.WriteFault links links_now ran = absurd (no_write_failed (sym fault.writes ∙ ran.writes.count))
  acting-ends act statuses.Memory links links_now ran = inr refl
  acting-ends act statuses.Refused links links_now ran = absurd ran.went
  acting-ends act statuses.Usage links links_now ran = absurd ran.went
  acting-ends act statuses.ReadFault links links_now ran = absurd ran.went
  acting-ends act statuses.Limit links links_now ran = absurd ran.went

  rules-complete : (rules : Rules) (status : Status) → RanBy rules status before now → CompletesBy rules before.reads.left status
  rules-complete (reads settles) status ran =
      on-told before.reads.left _ _ (λ input.
      reading-ends settles status now.reads.left before.writes.held now.writes.held input ran.ran.reads ran.ran.writes) ran.ran.wrote
  rules-complete (writes due) status ran = writing-ends due status ran.made.wrote ran.made.writes
  rules-complete (acts act) status ran = acting-ends act status before.links now.links ran.acted

pub named-completes : {S K L C : Type 0} → (named : Option Command) (status : Status) (before now : Edge S K L C)
    → RanNamed named status before now → Completes named status before now
named-completes None status before now ran = λ fault. tt
named-completes (Some command) status before now ran = λ fault. rules-complete before now fault (rules_of command) status ran

-- ---- wrong usage

-- the run of a command doesn't end as wrong usage
rules-usage : {S K L C : Type 0} → (rules : Rules) (before now : Edge S K L C) → RanBy rules statuses.Usage before now → ⊥
rules-usage (reads settles) before now ran = ran.ran.reads
rules-usage (writes due) before now ran = ran.made.wrote
rules-usage (acts act) before now ran = ran.acted.went

pub named-usage : {S K L C : Type 0} → (named : Option Command) (status : Status) (before now : Edge S K L C)
    → RanNamed named status before now → (status ≡ statuses.Usage) ↔ (named ≡ None)
named-usage None status before now ran = (λ is. refl, λ is. ran.0)
named-usage (Some command) status before now ran =
    (λ is. absurd (rules-usage (rules_of command) before now (subst (λ (s : Status). RanBy (rules_of command) s before now) is ran)), λ is. absurd (cc))

-- ---- limits

-- the limit that a run names is the one that its input passes

module _ {S K L C : Type 0} (status : Status) (before now : Edge S K L C) (named : Option Passed) where
  lines-names : {T : Type 0} (rules : LineRules T) → ((state : T) → (rules.finish state).ends ≡ Some statuses.Limit → ⊥) → (start : T)
      → RanReading (within most_input (by_lines rules start)) status before now
      → (names : NamesOnLines (limits_by_lines rules start) before.reads.left status named)
      → status ≡ statuses.Limit
      → IfSome before.reads.left (λ input. input_limit most_input (limits_by_lines rules start) input ≡ Some (passed_on_lines names.lines_pass))
  lines-names rules free start ran names =
      lines-pass rules free start most_input before.reads now.reads before.writes now.writes status named ran.ran names refl

  command-names : (command : Command) → RanBy (rules_of command) status before now
      → NamesBy (rules_of command) (limits_of command) before.reads.left status named → NamesPassed (Some command) before.reads.left status named
  command-names (commands.Decodes decodings.Receive) ran names =
      reads-named (commands.Decodes decodings.Receive) _ refl before.reads.left status named names
      (lines-names (receive_rules the_limits) (λ kept is. cc) [] ran names)
  command-names (commands.Decodes decodings.KeepReceiving) ran names =
      reads-named (commands.Decodes decodings.KeepReceiving) _ refl before.reads.left status named names
      (lines-names (keep_receiving_rules the_limits) keep_receiving-free nothing_received ran names)
  command-names (commands.Decodes (decodings.Bundles command)) ran names =
      reads-named (commands.Decodes (decodings.Bundles command)) _ refl before.reads.left status named names
      (bundles-pass most_input command before.reads now.reads before.writes now.writes status ran.ran names.lines_pass names.by_input)
  command-names (commands.Node own peer) ran names =
      reads-named (commands.Node own peer) _ refl before.reads.left status named names
      (lines-names node_rules (λ node is. cc) (begins (node_party own peer)) ran names)
  command-names (commands.Record own peer) ran names =
      reads-named (commands.Record own peer) _ refl before.reads.left status named names
      (lines-names record_rules (λ node is. cc) (begins (node_party own peer)) ran names)
  command-names (commands.Audit own peer) ran names =
      reads-named (commands.Audit own peer) _ refl before.reads.left status named names
      (lines-names audit_rules (λ a is. cc) (audit.begins own peer) ran names)
  command-names commands.Link ran names =
      reads-named commands.Link _ refl before.reads.left status named names
      (lines-names link_rules link-free no_link ran names)
  command-names commands.World ran names =
      reads-named commands.World _ refl before.reads.left status named names
      (lines-names world_rules world-free no_path ran names)
  command-names (commands.Make seed count) ran names =
      names-passed (commands.Make seed count) before.reads.left status named passed.Script names refl
      (script-passes (make.answer_of seed count) status before.reads.left before.writes now.writes ran.made)
  command-names (commands.Serve gate count) ran names =
      names-none (commands.Serve gate count) before.reads.left status named names
      (acting-limit (serve_turns gate count) status before.links now.links before.writes now.writes ran.acted)

pub named-names : {S K L C : Type 0} (command : Command) (status : Status) (before now : Edge S K L C) (named : Option Passed)
    → RanNamed (Some command) status before now → NamesBy (rules_of command) (limits_of command) before.reads.left status named
    → NamesPassed (Some command) before.reads.left status named
named-names command status before now named ran names = command-names status before now named command ran names
