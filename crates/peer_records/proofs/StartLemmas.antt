-- A start, and marks, as `gate_records` has them.
use Rattle.std.proofs.Common.{◌≡◌, ℕ, true, false, List, [], ◌∷◌, ◌++◌, Some, arith}
use Rattle.gateway_core.specs.declared.effects.Routed.{Routed}
use Rattle.journal_file.specs.declared.kept.Mark.{Mark}
use Rattle.journal_file.specs.Values.{KeptValue}
use Rattle.journal_file.specs.Legal.{IsLegal}
use Rattle.gate_records.specs.Happened.{reports_on}
use Rattle.gate_records.specs.Records.{is_marked, marks_after}
use Rattle.gate_records.proofs.StartLemmas as below
use Rattle.gate_records.proofs.MarkLemmas as marks
use Rattle.peer_records.specs.Happened.{PeerHappened, marking}
use Rattle.peer_records.specs.Keeping.{times}
use Rattle.peer_records.specs.Laws.{Recovers}

pub recovers-what-is-legal : (wall old_first new_first : ℕ) (kept : KeptValue) → IsLegal kept → Recovers wall old_first new_first kept
unfolding times
recovers-what-is-legal wall old_first new_first kept legal =
    let there = below.recovers-what-is-legal wall old_first new_first kept legal in record {
      sound = there.sound;
      pending = there.pending;
      old = there.old;
      new = there.new;
      keeping = record { legal = there.legal; held_once = λ id. omega arith };
    }

pub report-is-marked : (h : PeerHappened) (ms : List Mark) (before : List Routed) (routed : Routed) (session : ℕ)
    → reports_on routed.datagram ≡ Some session → h.is_handed_up routed.face session ≡ false
    → is_marked routed.face session (marks_after (marking h) (before ++ routed ∷ []) ms) ≡ true
report-is-marked h ms before routed session reports not_up = marks.report-is-marked (marking h) ms before routed session reports not_up
