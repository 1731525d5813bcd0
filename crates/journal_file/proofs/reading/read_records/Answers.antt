-- Each way out of the loop, by the step that it is.
use Rattle.std.proofs.Common.{length, arith}
use Rattle.wire_fields.specs.Reading.{read}
use Rattle.wire_fields.proofs.FrontLemmas.{gives-fault}
use Rattle.journal_file.specs.Values.{nothing_kept}
use Rattle.journal_file.specs.Table.{records}
use Rattle.journal_file.specs.Ties.{refusal, refused, fault_of, kept_of, record_of}
use Rattle.journal_file.proofs.RecordLemmas.{is-shut, is-open, so_far-start, so_far-next, so_far-closed, so_far-gate, so_far-entry, so_far-ends}
use Rattle.journal_file.specs.Keeping.{kept_with}
use Rattle.journal_file.proofs.WantsLemmas.{passed-start, passed-next, passed-some, some-after}
use Rattle.journal_file.proofs.reading.read_records.Goals as goal

pub returns-in_err-gate-clause-exact : goal.returns-in_err-gate-clause-exact
returns-in_err-gate-clause-exact c =
    gives-fault kept_of refusal c.from_residual.result (fault_of c.in_err-gate.field-0.0) (read (records (length c.args.text.now) nothing_kept) c.args.text.now c.args.at)
    c.from_residual.ensures.1
    (so_far-gate c.args.text.now c.records.book c.records.after (refused c.in_err-gate.field-0.0)
    (read (records (length c.args.text.now) nothing_kept) c.args.text.now c.args.at)
    c.records.invariant.place.within c.in_err-gate.ensures.exact c.records.invariant.so_far)

pub returns-then-is_closed-clause-exact : goal.returns-then-is_closed-clause-exact
returns-then-is_closed-clause-exact c =
    rw c.in_ok-kept.ensures.kept (so_far-closed c.args.text.now c.records.book c.in_ok-gate.gate c.records.after c.in_ok-gate.next
    (read (records (length c.args.text.now) nothing_kept) c.args.text.now c.args.at)
    c.records.invariant.place.within c.in_ok-gate.ensures.exact (is-shut c.in_ok-gate.gate c.if-is_closed.ensures) c.records.invariant.so_far)

pub returns-in_err-record-clause-exact : goal.returns-in_err-record-clause-exact
returns-in_err-record-clause-exact c =
    gives-fault kept_of refusal c.from_residual-in_err-record.result (fault_of c.in_err-record.field-0.0) (read (records (length c.args.text.now) nothing_kept) c.args.text.now c.args.at)
    c.from_residual-in_err-record.ensures.1
    (so_far-entry c.args.text.now c.records.book c.records.after c.in_ok-gate.next (refused c.in_err-record.field-0.0)
    (read (records (length c.args.text.now) nothing_kept) c.args.text.now c.args.at)
    c.records.invariant.place.within (rw (is-open c.in_ok-gate.gate c.if-is_closed.ensures) at c.in_ok-gate.ensures.exact) c.in_err-record.ensures.exact c.records.invariant.so_far)

pub records-preserved : goal.records-preserved
records-preserved c = record {
  place = record {
    behind = omega (arith, c.records.invariant.place.behind, c.in_ok-gate.ensures.within.behind, c.in_ok-record.ensures.within.behind);
    within = c.in_ok-record.ensures.within.within;
  };
  so_far = rw c.in_ok-take.ensures.ok
      (so_far-next c.args.text.now c.records.book (record_of c.in_ok-record.record) c.records.after c.in_ok-gate.next c.in_ok-record.next
      (read (records (length c.args.text.now) nothing_kept) c.args.text.now c.args.at)
      c.records.invariant.place.within (omega (arith, c.in_ok-gate.ensures.one, c.in_ok-record.ensures.within.behind))
      (rw (is-open c.in_ok-gate.gate c.if-is_closed.ensures) at c.in_ok-gate.ensures.exact) c.in_ok-record.ensures.exact c.records.invariant.so_far);
  passed = rw c.in_ok-take.ensures.ok
      (passed-next c.args.text.now c.records.after c.in_ok-gate.next c.in_ok-record.next c.records.book (record_of c.in_ok-record.record)
      (λ i. omega (arith, c.type_inv.text i)) c.records.invariant.place.within c.in_ok-gate.ensures.within.within
      (rw (is-open c.in_ok-gate.gate c.if-is_closed.ensures) at c.in_ok-gate.ensures.exact) c.in_ok-record.ensures.exact c.records.invariant.passed);
}

pub returns-clause-exact : goal.returns-clause-exact
returns-clause-exact c =
    rw (c.from.ensures, c.at.ensures) (so_far-ends c.args.text.now c.records.book c.records.after
    (read (records (length c.args.text.now) nothing_kept) c.args.text.now c.args.at)
    c.records.invariant.place.within (omega (arith, c.records-test.false)) c.records.invariant.so_far)

pub records-init : goal.records-init
records-init c = record {
  place = record { behind = omega arith; within = c.requires.place };
  so_far = so_far-start c.args.text.now c.args.at c.new-book.result c.requires.behind c.new-book.ensures;
  passed = passed-start c.args.text.now c.args.at c.new-book.result c.requires.start c.new-book.ensures;
}

pub returns-in_err-kept-clause-memory : goal.returns-in_err-kept-clause-memory
returns-in_err-kept-clause-memory c = λ no.
    passed-some c.args.text.now c.records.after c.records.book c.records.invariant.passed c.in_err-kept.ensures.memory

pub returns-in_err-take-clause-memory : goal.returns-in_err-take-clause-memory
returns-in_err-take-clause-memory c = λ no.
    let book = kept_with c.records.book (record_of c.in_ok-record.record) in
    passed-some c.args.text.now c.in_ok-record.next book
    (passed-next c.args.text.now c.records.after c.in_ok-gate.next c.in_ok-record.next c.records.book (record_of c.in_ok-record.record)
    (λ i. omega (arith, c.type_inv.text i)) c.records.invariant.place.within c.in_ok-gate.ensures.within.within
    (rw (is-open c.in_ok-gate.gate c.if-is_closed.ensures) at c.in_ok-gate.ensures.exact) c.in_ok-record.ensures.exact c.records.invariant.passed)
    (some-after c.records.book (record_of c.in_ok-record.record) c.in_err-take.ensures.memory)
