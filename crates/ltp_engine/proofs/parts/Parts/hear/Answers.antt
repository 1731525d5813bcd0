use Rattle.std.proofs.Common.{false, refl}
use Rattle.ltp_segment.specs.Views.{content_value}
use Rattle.ltp_segment.specs.declared.session.Note.TheVariants as notes
use Rattle.ltp_session.specs.Engine.{noted}
use Rattle.ltp_engine.specs.Ties.{party_of, value_of}
use Rattle.ltp_engine.proofs.HearLemmas.{steps-as, datagram-own, datagram-peer, datagram-stranger, steps-noted}
use Rattle.endpoint.proofs.PlacesLemmas.{on_err}
use Rattle.ltp_engine.proofs.WantLemmas.{never-as}
use Rattle.ltp_engine.proofs.parts.Parts.hear.Goals as goal

pub returns-then-originator-self-clause-done : goal.returns-then-originator-self-clause-done
returns-then-originator-self-clause-done c = steps-as (value_of false c.args.self.now) (value_of false c.hear_own.new.self) _ _ c.in_ok-effects.effects c.in_ok-effects.ensures.done
    (λ e. datagram-own (party_of c.args.self.now) c.args.segment.originator c.args.segment.session c.args.now (content_value c.args.segment.content) e c.if-originator-self.true)

pub returns-then-originator-self-2-clause-done : goal.returns-then-originator-self-2-clause-done
returns-then-originator-self-2-clause-done c = steps-as (value_of false c.args.self.now) (value_of false c.hear_peer.new.self) _ _ c.in_ok-effects-2.effects c.in_ok-effects-2.ensures.done
    (λ e. datagram-peer (party_of c.args.self.now) c.args.segment.originator c.args.segment.session c.args.now (content_value c.args.segment.content) e c.if-originator-self.false c.if-originator-self-2.true)

pub returns-clause-done : goal.returns-clause-done
returns-clause-done c = steps-as (value_of false c.args.self.now) (value_of false c.args.self.now) (λ e. noted e notes.Stranger) _ c.noted.result
    (steps-noted (value_of false c.args.self.now) notes.Stranger c.noted.result refl c.noted.ensures)
    (λ e. datagram-stranger (party_of c.args.self.now) c.args.segment.originator c.args.segment.session c.args.now (content_value c.args.segment.content) e c.if-originator-self.false c.if-originator-self-2.false)

pub returns-in_err-effects-clause-wanted : goal.returns-in_err-effects-clause-wanted
returns-in_err-effects-clause-wanted c = on_err _ (never-as (value_of false c.args.self.now) _ _ c.in_err-effects.ensures.wanted
    (λ e. datagram-own (party_of c.args.self.now) c.args.segment.originator c.args.segment.session c.args.now (content_value c.args.segment.content) e c.if-originator-self.true))

pub returns-in_err-effects-2-clause-wanted : goal.returns-in_err-effects-2-clause-wanted
returns-in_err-effects-2-clause-wanted c = on_err _ (never-as (value_of false c.args.self.now) _ _ c.in_err-effects-2.ensures.wanted
    (λ e. datagram-peer (party_of c.args.self.now) c.args.segment.originator c.args.segment.session c.args.now (content_value c.args.segment.content) e c.if-originator-self.false c.if-originator-self-2.true))
