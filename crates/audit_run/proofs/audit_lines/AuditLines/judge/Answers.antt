use Rattle.std.proofs.Common.{subst, Err}
use Rattle.ltp_audit.specs.declared.fault.AuditFault.TheVariants as faults
use Rattle.ltp_audit.specs.Adding.{Adds}
use Rattle.ltp_audit.specs.Shows.{Shows}
use Rattle.audit_run.proofs.AuditedLemmas.{refuses-if, no-form, no-rule}
use Rattle.audit_run.proofs.audit_lines.AuditLines.judge.Goals as goal

pub returns-in-Err-Form-clause-turn : goal.returns-in-Err-Form-clause-turn
returns-in-Err-Form-clause-turn c = λ a shows.
    refuses-if (Shows c.add.new.self a.own a.peer) _ a c.args.number c.args.entry (faults.Form c.in-Err-Form.at c.in-Err-Form.cause) _ _ c.refuse.result
    (subst (λ d. Adds (Shows c.add.new.self a.own a.peer) a.own a.peer a.history (record { out = c.args.entry.out; datagram = d })
    (Err (faults.Form c.in-Err-Form.at c.in-Err-Form.cause))) c.as_slice.ensures
    (subst (λ f. Adds (Shows c.add.new.self a.own a.peer) a.own a.peer a.history
    (record { out = c.args.entry.out; datagram = c.as_slice.result.now }) (Err f)) c.in-Err-Form.field-0-is
    (c.in-Err-Form.ensures a.own a.peer a.history shows.audit)))
    (no-form c.in-Err-Form.at c.in-Err-Form.cause) c.refuse.ensures.ends c.refuse.ensures.text

pub returns-clause-turn : goal.returns-clause-turn
returns-clause-turn c = λ a shows.
    refuses-if (Shows c.add.new.self a.own a.peer) _ a c.args.number c.args.entry (faults.Broken c.in-Err-Broken.rule) _ _ c.refuse-in-Err-Broken.result
    (subst (λ d. Adds (Shows c.add.new.self a.own a.peer) a.own a.peer a.history (record { out = c.args.entry.out; datagram = d })
    (Err (faults.Broken c.in-Err-Broken.rule))) c.as_slice.ensures
    (subst (λ f. Adds (Shows c.add.new.self a.own a.peer) a.own a.peer a.history
    (record { out = c.args.entry.out; datagram = c.as_slice.result.now }) (Err f)) c.in-Err-Broken.field-0-is
    (c.in-Err-Broken.ensures a.own a.peer a.history shows.audit)))
    (no-rule c.in-Err-Broken.rule) c.refuse-in-Err-Broken.ensures.ends c.refuse-in-Err-Broken.ensures.text
