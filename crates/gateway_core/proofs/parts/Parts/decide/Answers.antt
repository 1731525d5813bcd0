use Rattle.gateway_core.proofs.SendLemmas.{decided}
use Rattle.gateway_core.proofs.parts.Parts.decide.Goals as goal

pub returns : goal.returns
returns c = decided c.args.self.now c.send_all.new.self c.answer.new.self c.args.face c.other.result c.args.now c.args.session c.len.result c.args.judged c.as_slice.result.now c.case_note-note.result
    c.in_ok-sent.sent c.noted-noted.result c.in_ok-answered.answered c.in_ok-after.after c.followed_by-2.result c.in_ok-sent.ensures.whole c.other.ensures c.as_slice.ensures c.len.ensures c.case_note-note.ensures
    c.in_ok-sent.ensures c.noted-noted.ensures c.in_ok-answered.ensures c.in_ok-after.ensures.joined c.followed_by-2.ensures.joined
