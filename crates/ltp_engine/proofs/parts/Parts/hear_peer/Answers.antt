use Rattle.std.proofs.Common.{rules, refl}
use Rattle.ltp_segment.specs.Views.{content_value}
use Rattle.ltp_engine.specs.Ties.{party_of}
use Rattle.ltp_engine.proofs.HearLemmas.{peer-whole, peer-steps}
use Rattle.endpoint.proofs.PlacesLemmas.{on_err}
use Rattle.ltp_engine.proofs.WantLemmas.{peer-wants, peer-hands}
use Rattle.ltp_engine.proofs.parts.Parts.hear_peer.Goals as goal

pub returns-clause-whole : goal.returns-clause-whole
returns-clause-whole c = peer-whole (party_of c.args.self.now) c.args.self.now.next c.args.n c.args.now (content_value c.args.content) c.args.self.now.senders.entries c.args.self.now.inbound c.to_receiver.new.inbound
    c.in_ok-told.told refl (search rules) c.requires.whole c.in_ok-told.ensures.does

pub returns-clause-done : goal.returns-clause-done
returns-clause-done c = peer-steps (party_of c.args.self.now) c.args.self.now.next c.args.n c.args.now (content_value c.args.content) c.args.self.now.senders.entries c.args.self.now.inbound c.to_receiver.new.inbound
    c.in_ok-told.told c.in_ok-effects.effects refl (search rules) c.requires.whole c.in_ok-told.ensures.does c.in_ok-effects.ensures.effects

pub returns-in_err-told-clause-wanted : goal.returns-in_err-told-clause-wanted
returns-in_err-told-clause-wanted c = on_err _ (peer-wants (party_of c.args.self.now) c.args.self.now.next c.args.n c.args.now (content_value c.args.content) c.args.self.now.senders.entries c.args.self.now.inbound
    refl c.in_err-told.ensures.wanted)

pub returns-in_err-effects-clause-wanted : goal.returns-in_err-effects-clause-wanted
returns-in_err-effects-clause-wanted c = on_err _ (peer-hands (party_of c.args.self.now) c.args.self.now.next c.args.n c.args.now (content_value c.args.content) c.args.self.now.senders.entries c.args.self.now.inbound c.to_receiver.new.inbound
    c.in_ok-told.told refl c.in_ok-told.ensures.does c.in_err-effects.ensures.wanted)
