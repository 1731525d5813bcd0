use Rattle.std.proofs.Common.{◌∙◌, ap}
use Rattle.ltp_segment.specs.Reading.{seen}
use Rattle.peer_sessions.specs.Views.{face_keys}
use Rattle.peer_sessions.specs.Ties.{state_of, keys_in}
use Rattle.peer_sessions.proofs.HearLemmas.{trims}
use Rattle.peer_sessions.proofs.parts.Parts.hear.Goals as goal

pub returns : goal.returns
returns c =
    let heard = c.in_ok-heard.ensures in
    let trimmed = c.in_ok-trimmed.ensures in
    let done = trims (keys_in c.args.self.now) (keys_in c.answer.new.self) (state_of c.args.self.now) (state_of c.answer.new.self) (state_of c.trim.new.self) (seen c.args.read) c.args.now
    c.in_ok-trimmed.trimmed.items c.as_slice.result.now c.in_ok-heard.heard.effects c.in_ok-then_evicted.field-0 (ap face_keys (heard.after).keys) (heard.after).is trimmed.gone c.as_slice.ensures.value
    (trimmed.after).is heard.effects c.in_ok-then_evicted.ensures in
    record {
      after = record { whole = (trimmed.after).whole; keys = (trimmed.after).keys ∙ (heard.after).keys; is = done.sessions };
      forgotten = heard.forgotten;
      effects = done.effects;
    }
