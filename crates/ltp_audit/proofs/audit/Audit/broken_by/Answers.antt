use Rattle.std.proofs.Common.{sym, ◌∙◌, true, false}
use Rattle.ltp_segment.specs.Views.{segment_value}
use Rattle.ltp_audit.proofs.AuditLemmas.{side-is, broken-side, broken-claim, broken-checkpoint, broken-ack, broken-octets, broken-last}
use Rattle.ltp_audit.proofs.audit.Audit.broken_by.Goals as goal

pub returns-then-not-is_on_its_side : goal.returns-then-not-is_on_its_side
returns-then-not-is_on_its_side c = λ own peer history shows. broken-side _ _ _
    (side-is c.args.self.now own peer history c.args.out (segment_value c.args.segment.now) c.is_on_its_side.result false shows
    c.is_on_its_side.ensures c.if-not-is_on_its_side.true)

pub returns-then-claims_unseen : goal.returns-then-claims_unseen
returns-then-claims_unseen c = λ own peer history shows.
    let keeps = shows.each c.args.segment.now.originator c.args.segment.now.session in
    broken-claim _ _ _
    (side-is c.args.self.now own peer history c.args.out (segment_value c.args.segment.now) c.is_on_its_side.result true shows
    c.is_on_its_side.ensures c.if-not-is_on_its_side.false)
    (sym (c.claims_unseen.ensures _ keeps) ∙ c.if-claims_unseen.true)

pub returns-then-answers_unseen : goal.returns-then-answers_unseen
returns-then-answers_unseen c = λ own peer history shows.
    let keeps = shows.each c.args.segment.now.originator c.args.segment.now.session in
    broken-checkpoint _ _ _
    (side-is c.args.self.now own peer history c.args.out (segment_value c.args.segment.now) c.is_on_its_side.result true shows
    c.is_on_its_side.ensures c.if-not-is_on_its_side.false)
    (sym (c.claims_unseen.ensures _ keeps) ∙ c.if-claims_unseen.false)
    (sym (c.answers_unseen.ensures _ keeps) ∙ c.if-answers_unseen.true)

pub returns-then-acknowledges_unseen : goal.returns-then-acknowledges_unseen
returns-then-acknowledges_unseen c = λ own peer history shows.
    let keeps = shows.each c.args.segment.now.originator c.args.segment.now.session in
    broken-ack _ _ _
    (side-is c.args.self.now own peer history c.args.out (segment_value c.args.segment.now) c.is_on_its_side.result true shows
    c.is_on_its_side.ensures c.if-not-is_on_its_side.false)
    (sym (c.claims_unseen.ensures _ keeps) ∙ c.if-claims_unseen.false)
    (sym (c.answers_unseen.ensures _ keeps) ∙ c.if-answers_unseen.false)
    (sym (c.acknowledges_unseen.ensures _ keeps) ∙ c.if-acknowledges_unseen.true)

pub returns-then-differs : goal.returns-then-differs
returns-then-differs c = λ own peer history shows.
    let keeps = shows.each c.args.segment.now.originator c.args.segment.now.session in
    broken-octets _ _ _
    (side-is c.args.self.now own peer history c.args.out (segment_value c.args.segment.now) c.is_on_its_side.result true shows
    c.is_on_its_side.ensures c.if-not-is_on_its_side.false)
    (sym (c.claims_unseen.ensures _ keeps) ∙ c.if-claims_unseen.false)
    (sym (c.answers_unseen.ensures _ keeps) ∙ c.if-answers_unseen.false)
    (sym (c.acknowledges_unseen.ensures _ keeps) ∙ c.if-acknowledges_unseen.false)
    (sym (c.differs.ensures _ keeps) ∙ c.if-differs.true)

pub returns-then-cancel_unseen : goal.returns-then-cancel_unseen
returns-then-cancel_unseen c = λ own peer history shows.
    let keeps = shows.each c.args.segment.now.originator c.args.segment.now.session in
    broken-last _ _ _ true
    (side-is c.args.self.now own peer history c.args.out (segment_value c.args.segment.now) c.is_on_its_side.result true shows
    c.is_on_its_side.ensures c.if-not-is_on_its_side.false)
    (sym (c.claims_unseen.ensures _ keeps) ∙ c.if-claims_unseen.false)
    (sym (c.answers_unseen.ensures _ keeps) ∙ c.if-answers_unseen.false)
    (sym (c.acknowledges_unseen.ensures _ keeps) ∙ c.if-acknowledges_unseen.false)
    (sym (c.differs.ensures _ keeps) ∙ c.if-differs.false)
    (sym (c.cancel_unseen.ensures _ keeps) ∙ c.if-cancel_unseen.true)

pub returns-else-cancel_unseen : goal.returns-else-cancel_unseen
returns-else-cancel_unseen c = λ own peer history shows.
    let keeps = shows.each c.args.segment.now.originator c.args.segment.now.session in
    broken-last _ _ _ false
    (side-is c.args.self.now own peer history c.args.out (segment_value c.args.segment.now) c.is_on_its_side.result true shows
    c.is_on_its_side.ensures c.if-not-is_on_its_side.false)
    (sym (c.claims_unseen.ensures _ keeps) ∙ c.if-claims_unseen.false)
    (sym (c.answers_unseen.ensures _ keeps) ∙ c.if-answers_unseen.false)
    (sym (c.acknowledges_unseen.ensures _ keeps) ∙ c.if-acknowledges_unseen.false)
    (sym (c.differs.ensures _ keeps) ∙ c.if-differs.false)
    (sym (c.cancel_unseen.ensures _ keeps) ∙ c.if-cancel_unseen.false)
