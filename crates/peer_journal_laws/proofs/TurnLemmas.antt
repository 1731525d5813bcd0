-- The steps of a run are all that changes what it knows of its journal.

use Rattle.std.proofs.Common.{List, [], ◌∷◌, Option, None, Some, IfSome, ap, ◌∙◌}
use Rattle.std.specs.Prelude.{IsSomeAnd}
use Rattle.journal_file.specs.Values.{KeptValue}
use Rattle.peer_records.specs.Keeping.{PeerKeeping}
use Rattle.peer_half.specs.Journals.{Journalled}
use Rattle.peer_half.specs.Half.{hears}
use Rattle.peer_half.specs.Parts.{reserves}
use Rattle.peer_half.specs.Runs.{begins_at, stands_at}
use Rattle.peer_journal_laws.specs.Steps.{InTurn, JournalStep, KnowSame, StepsInTurn, known_then, steps_of}
use Rattle.peer_journal_laws.proofs.GoneLemmas.{moves-greatest}
use Rattle.peer_journal_laws.proofs.MarkLemmas.{reserved-still, still-marks}
use Rattle.peer_journal_laws.proofs.PieceLemmas.{moves-pending}
use Rattle.peer_journal_laws.proofs.StepLemmas.{Chain, Moves, Over, keeping_of, over-run}

moves-same : (from to : PeerKeeping) → Moves from to → KnowSame from to
moves-same from to so = record {
  pending = moves-pending from to so;
  marks = ap (λ (k : KeptValue). k.marks) so.kept_is ∙ still-marks from.kept so.records (reserved-still so.records so.reserved);
  greatest = moves-greatest from to so;
  waiting = so.waiting_is;
  named = so.named_is;
}

chain-turn : (from to : PeerKeeping) (steps : List JournalStep) → Chain from steps to → InTurn from steps to
chain-turn from to [] so = moves-same from to so
chain-turn from to (step ∷ more) so = (moves-same from step.keeping so.0, chain-turn (known_then step) to more so.1.1)

over-turn : (from to : Option Journalled) (steps : List JournalStep) → Over from steps to
    → IfSome from (λ first. IsSomeAnd to (λ last. InTurn (keeping_of first) steps (keeping_of last)))
over-turn None to steps over = tt
over-turn (Some j) None steps over = absurd over
over-turn (Some j) (Some i) steps over = chain-turn (keeping_of j) (keeping_of i) steps over

pub steps-in-turn : StepsInTurn
steps-in-turn r face came = over-turn (begins_at r).journal (reserves (hears face came (stands_at r))).journal (steps_of face came r) (over-run r face came)
