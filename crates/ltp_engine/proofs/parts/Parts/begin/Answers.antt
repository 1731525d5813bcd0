use Rattle.ltp_engine.specs.Ties.{party_of}
use Rattle.ltp_engine.proofs.BeginLemmas.{begun-kept, begun-whole, begun-steps}
use Rattle.ltp_engine.proofs.parts.Parts.begin.Goals as goal

pub returns-clause-whole : goal.returns-clause-whole
returns-clause-whole c = begun-whole (party_of c.args.self.now) c.args.self.now.next c.args.block.now c.args.red c.args.now c.args.self.now.senders.entries c.keep.new.senders.entries c.args.self.now.inbound
    c.requires.whole c.requires.room c.requires.numbers c.requires.most
    (begun-kept (party_of c.args.self.now) c.args.self.now.next c.args.block.now c.args.red c.args.now c.args.self.now.senders.entries c.keep.new.senders.entries c.in_ok-begun.begun.sender
    c.requires.whole.own c.in_ok-begun.ensures.sender c.in_ok-keep.ensures)

pub returns-clause-done : goal.returns-clause-done
returns-clause-done c = begun-steps (party_of c.args.self.now) c.args.self.now.next c.args.block.now c.args.red c.args.now c.args.self.now.senders.entries c.keep.new.senders.entries c.args.self.now.inbound
    c.in_ok-begun.begun.out c.sent_note.result c.in_ok-effects.effects
    (begun-kept (party_of c.args.self.now) c.args.self.now.next c.args.block.now c.args.red c.args.now c.args.self.now.senders.entries c.keep.new.senders.entries c.in_ok-begun.begun.sender
    c.requires.whole.own c.in_ok-begun.ensures.sender c.in_ok-keep.ensures)
    c.in_ok-begun.ensures.out c.sent_note.ensures c.in_ok-effects.ensures.effects
