use Rattle.std.proofs.Common.{sym, subst, ◌∙◌, Err}
use Rattle.ltp_segment.specs.Views.{segment_value}
use Rattle.ltp_engine.proofs.LegalLemmas.{segment-fit}
use Rattle.ltp_audit.specs.Adding.{Adds}
use Rattle.ltp_audit.specs.Shows.{Shows}
use Rattle.ltp_audit.proofs.AuditLemmas.{answers-form, answers-broken, answers-kept, answers-memory, shows-more}
use Rattle.ltp_audit.proofs.audit.Audit.add.Goals as goal

pub returns-in-Err : goal.returns-in-Err
returns-in-Err c = λ own peer history shows.
    subst (λ fault. Adds (Shows c.args.self.now own peer) own peer history
    (record { out = c.args.out; datagram = c.args.datagram.now }) (Err fault)) (sym c.form_of.ensures)
    (answers-form (Shows c.args.self.now own peer) own peer history (record { out = c.args.out; datagram = c.args.datagram.now })
    c.in-Err.fault.at c.in-Err.fault.cause (sym c.in-Err.ensures.exact) shows)

pub broken_by-requires : goal.broken_by-requires
broken_by-requires c = segment-fit (segment_value c.in-Ok.segment) c.args.datagram.now c.in-Ok.ensures.found

pub returns-in-Some : goal.returns-in-Some
returns-in-Some c = λ own peer history shows.
    answers-broken (Shows c.args.self.now own peer) own peer history _ (segment_value c.in-Ok.segment) c.in-Some.rule
    (sym c.in-Ok.ensures.exact) (sym c.in-Some.is ∙ c.broken_by.ensures own peer history shows) shows

pub keep-requires : goal.keep-requires
keep-requires c = segment-fit (segment_value c.in-Ok.segment) c.args.datagram.now c.in-Ok.ensures.found

pub returns-in-Ok-keep : goal.returns-in-Ok-keep
returns-in-Ok-keep c = λ own peer history shows.
    let none = sym c.in_default.is ∙ c.broken_by.ensures own peer history shows in
    answers-kept (Shows c.keep.new.self own peer) own peer history (record { out = c.args.out; datagram = c.args.datagram.now })
    (segment_value c.in-Ok.segment) (sym c.in-Ok.ensures.exact) none
    (shows-more c.args.self.now c.keep.new.self own peer history (record { out = c.args.out; datagram = c.args.datagram.now })
    (segment_value c.in-Ok.segment) shows (sym c.in-Ok.ensures.exact) (sym none) c.in-Ok-keep.ensures.kept)

pub returns-in-Err-keep : goal.returns-in-Err-keep
returns-in-Err-keep c = λ own peer history shows.
    answers-memory (Shows c.keep.new.self own peer) own peer history (record { out = c.args.out; datagram = c.args.datagram.now })
    (segment_value c.in-Ok.segment) (sym c.in-Ok.ensures.exact)
    (sym c.in_default.is ∙ c.broken_by.ensures own peer history shows) c.in-Err-keep.ensures.memory
