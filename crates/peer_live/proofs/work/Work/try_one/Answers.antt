use Rattle.std.proofs.Common.{ap, ◌∙◌}
use Rattle.gate_log.specs.Subjects.{subject_of}
use Rattle.peer_gateway.specs.Views.{moments_of}
use Rattle.peer_half.specs.Parts.{any_added, begin_of}
use Rattle.peer_live.proofs.ShowsLemmas.{named-after}
use Rattle.peer_live.proofs.ResumeLemmas.{does-one}
use Rattle.peer_live.proofs.work.Work.try_one.Goals as goal

pub settle-requires-clause-named : goal.settle-requires-clause-named
settle-requires-clause-named c =
    named-after (c.args.self.now).gate c.add_kept.new.self (begin_of c.args.pending) (moments_of (c.args.self.now).moments) c.octets-octets.result c.in_ok-answer.answer c.in_ok-answer.ensures.done

pub returns-clause-does : goal.returns-clause-does
returns-clause-does c =
    does-one c.args.self.now c.settle.new.self c.add_kept.new.self c.say_if.new.self c.args.pending c.octets-octets.result c.in_ok-answer.answer c.in_ok-session.session
    c.in_ok-subject_of.field-0 c.added_event-event.result c.is_any-added.result c.requires c.octets-octets.ensures c.in_ok-answer.ensures.done c.in_ok-session.ensures
    (c.in_ok-subject_of.ensures.exact ∙ ap subject_of c.as_slice.ensures) c.added_event-event.ensures.event (c.is_any-added.ensures ∙ ap any_added c.added.ensures)
    c.in_ok-settle.ensures c.in_ok-say_if.ensures.after
