use Rattle.std.proofs.Common.{sym, ap, ◌∙◌}
use Rattle.journal_file.specs.Values.{KeptValue}
use Rattle.journal_file.specs.Ties.{kept_of, record_of}
use Rattle.gate_records.specs.Keeping.{octets_of}
use Rattle.gate_records.proofs.RecordedLemmas.{same-pending}
use Rattle.peer_records.proofs.said.Said.change.Goals as goal

pub invariant_of-self : goal.invariant_of-self
invariant_of-self c =
    c.self.invariant
    ∙ ap octets_of (sym (ap (λ (k : KeptValue). k.pending) c.in-Ok.ensures.ok ∙ same-pending (kept_of c.self.inside.kept) (record_of c.args.said.now) c.requires))

pub invariant_of-self-in-Err : goal.invariant_of-self-in-Err
unfolding octets_of
invariant_of-self-in-Err c = sym (ap octets_of c.clear.ensures.items)
