use Rattle.std.proofs.Common.{sym, ◌∙◌}
use Rattle.ltp_segment.specs.Views.{segment_value}
use Rattle.peer_sessions.specs.Ties.{keys_in}
use Rattle.peer_sessions.proofs.HearLemmas.{hears-over}
use Rattle.peer_sessions.proofs.parts.Parts.hear_met.Goals as goal

pub returns-then-has : goal.returns-then-has
returns-then-has c =
    let touched = c.in_ok-heard.ensures in
    let over = hears-over (keys_in c.args.self.now) c.args.self.now.engine c.args.self.now.memory c.args.self.now.moments (segment_value c.args.segment) c.args.now c.requires.met
    (sym c.has.ensures.exact ∙ c.if-has.true) ((c.requires.whole).whole).kept in
    record {
      after = record { whole = (touched.after).whole; keys = (touched.after).keys; is = (touched.after).is ∙ over.sessions };
      forgotten = touched.forgotten ∙ over.forgotten;
      effects = touched.effects ∙ over.effects;
    }
