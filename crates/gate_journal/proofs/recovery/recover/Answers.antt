use Rattle.journal_file.specs.Ties.{kept_of}
use Rattle.gate_journal.proofs.RecoverLemmas.{told-only, told-refuses}
use Rattle.gate_journal.proofs.recovery.recover.Goals as goal

pub returns-clause-only : goal.returns-clause-only
returns-clause-only g c =
    told-only (g.S.Store.seen c.args.store.now) c.in_ok-octets.octets.items c.as_slice.result.now (kept_of c.in_ok-kept.kept) c.as_slice.ensures.value
    c.in_ok-octets.ensures.octets c.in_ok-kept.ensures.only

pub returns-clause-refuses : goal.returns-clause-refuses
returns-clause-refuses g c =
    told-refuses (g.S.Store.seen c.args.store.now) c.in_ok-octets.octets.items c.as_slice.result.now (kept_of c.in_ok-kept.kept) c.as_slice.ensures.value
    c.in_ok-octets.ensures.octets c.in_ok-kept.ensures.refuses
