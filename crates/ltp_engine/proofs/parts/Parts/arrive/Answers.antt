use Rattle.std.proofs.Common.{rules, false, refl}
use Rattle.ltp_segment.specs.declared.session.Note.TheVariants as notes
use Rattle.ltp_segment.specs.Views.{segment_value}
use Rattle.ltp_segment.specs.Reading.{segment_of}
use Rattle.ltp_session.specs.Engine.{noted}
use Rattle.ltp_engine.specs.Ties.{party_of, value_of}
use Rattle.ltp_engine.proofs.LegalLemmas.{segment-fit}
use Rattle.ltp_engine.proofs.HearLemmas.{steps-as, steps-noted, datagram-refused}
use Rattle.endpoint.proofs.PlacesLemmas.{on_err}
use Rattle.ltp_engine.proofs.WantLemmas.{never-as}
use Rattle.ltp_engine.proofs.HearLemmas.{datagram-read}
use Rattle.ltp_engine.proofs.parts.Parts.arrive.Goals as goal

pub hear-requires : goal.hear-requires
hear-requires c = record {
  whole = c.requires.whole;
  fit = segment-fit (segment_value c.in-Ok.segment) c.args.datagram.now c.in-Ok.ensures.found;
  moment = c.requires.moment;
}

pub returns-in-Err-clause-done : goal.returns-in-Err-clause-done
returns-in-Err-clause-done c = steps-as (value_of false c.args.self.now) (value_of false c.args.self.now) (λ e. noted e (notes.BadSegment c.in-Err.fault.at c.in-Err.fault.cause)) _ c.noted.result
    (steps-noted (value_of false c.args.self.now) (notes.BadSegment c.in-Err.fault.at c.in-Err.fault.cause) c.noted.result refl (search rules))
    (λ e. datagram-refused (party_of c.args.self.now) c.in-Err.fault.at c.args.now c.in-Err.fault.cause (segment_of c.args.datagram.now) e c.in-Err.ensures.exact)

pub returns-in_err-effects-in-Ok-clause-wanted : goal.returns-in_err-effects-in-Ok-clause-wanted
returns-in_err-effects-in-Ok-clause-wanted c = on_err _ (never-as (value_of false c.args.self.now) _ _ c.in_err-effects-in-Ok.ensures.wanted
    (λ e. datagram-read (party_of c.args.self.now) (segment_value c.in-Ok.segment) c.args.now (segment_of c.args.datagram.now) e c.in-Ok.ensures.exact))
