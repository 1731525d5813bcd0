use Rattle.ltp_segment.specs.Views.{content_value}
use Rattle.ltp_engine.specs.Ties.{party_of}
use Rattle.ltp_engine.proofs.HearLemmas.{own-whole, own-steps, at_least, less}
use Rattle.endpoint.proofs.PlacesLemmas.{on_err}
use Rattle.ltp_engine.proofs.WantLemmas.{own-wants, own-hands}
use Rattle.ltp_engine.proofs.parts.Parts.hear_own.Goals as goal

pub returns-clause-whole : goal.returns-clause-whole
returns-clause-whole c = own-whole (party_of c.args.self.now) c.args.self.now.next c.args.n c.args.now (content_value c.args.content) c.args.self.now.senders.entries c.to_sender.new.senders.entries c.args.self.now.inbound
    c.in_ok-told.told c.requires.whole c.in_ok-told.ensures.does

pub returns-clause-done : goal.returns-clause-done
returns-clause-done c = own-steps (party_of c.args.self.now) c.args.self.now.next c.args.n c.args.now (content_value c.args.content) c.args.self.now.senders.entries c.to_sender.new.senders.entries c.args.self.now.inbound
    c.in_ok-told.told c.in_ok-effects.effects (at_least c.args.self.now.first c.args.n c.if-n-self.false) (less c.args.n c.args.self.now.next c.if-n-self-2.false) c.in_ok-told.ensures.does c.in_ok-effects.ensures.effects

pub returns-in_err-told-clause-wanted : goal.returns-in_err-told-clause-wanted
returns-in_err-told-clause-wanted c = on_err _ (own-wants (party_of c.args.self.now) c.args.self.now.next c.args.n c.args.now (content_value c.args.content) c.args.self.now.senders.entries c.args.self.now.inbound
    (at_least c.args.self.now.first c.args.n c.if-n-self.false) (less c.args.n c.args.self.now.next c.if-n-self-2.false) c.in_err-told.ensures.wanted)

pub returns-in_err-effects-clause-wanted : goal.returns-in_err-effects-clause-wanted
returns-in_err-effects-clause-wanted c = absurd (own-hands (party_of c.args.self.now) c.args.n c.args.now (content_value c.args.content) c.args.self.now.senders.entries c.to_sender.new.senders.entries
    c.in_ok-told.told c.in_ok-told.ensures.does c.in_err-effects.ensures.wanted)
