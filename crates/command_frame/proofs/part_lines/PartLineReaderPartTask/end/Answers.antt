use Rattle.std.proofs.Common.{rules, ◌≡◌, length, [], ap, refl, ◌∙◌}
use Rattle.command_frame.proofs.LinesLemmas.{finished-done}
use Rattle.command_frame.proofs.PartLinesLemmas.{ends-on, ends-told, in_line-as}
use Rattle.command_frame.proofs.LimitsLemmas.{done-within, if-ended}
use Rattle.command_frame.proofs.part_lines.PartLineReaderPartTask.end.Goals as goal

pub returns-then-is_empty-clause-finished : goal.returns-then-is_empty-clause-finished
returns-then-is_empty-clause-finished g c = λ settles stands.
    let none : length c.args.self.now.rest.items ≡ 0 = search rules in
    finished-done g.L.PartLineStep.rules (g.L.PartLineStep.Shows c.args.self.now.step []) (g.L.PartLineStep.Shows c.args.self.now.step []) c.args.self.now.number c.args.self.now.rest.items settles stands
    _ _ c.finish.result none c.finish.ensures.finished

pub returns-in-Ends-clause-finished : goal.returns-in-Ends-clause-finished
returns-in-Ends-clause-finished g c = λ settles stands. rw c.in-Ends.is at (c.in_ok-status.ensures.ended settles stands)

pub returns-in-Passes-clause-finished : goal.returns-in-Passes-clause-finished
returns-in-Passes-clause-finished g c = λ settles stands.
    ends-on _ settles _ _ _ c.finish-in-Passes.result (rw c.in-Passes.is at (c.in_ok-status.ensures.ended settles stands))
    (λ later there.
    finished-done g.L.PartLineStep.rules (g.L.PartLineStep.Shows c.last_line.new.reader.step []) (g.L.PartLineStep.Shows c.last_line.new.reader.step [])
    c.last_line.new.reader.number c.last_line.new.reader.rest.items later there
    _ _ c.finish-in-Passes.result (ap length c.in_ok-status.ensures.none_kept) c.finish-in-Passes.ensures.finished)

pub returns-in_ok-tell_whole-in-Owes-clause-finished :
    goal.returns-in_ok-tell_whole-in-Owes-clause-finished
returns-in_ok-tell_whole-in-Owes-clause-finished g c = λ settles stands.
    let (same, (due, on)) = rw c.in-Owes.is at (c.in_ok-status.ensures.ended settles stands) in
    let told = c.in_ok-tell_whole-in-Owes.ensures due in
    ends-on _ settles _ _ _ c.finish-in-Owes.result
    (ends-told _ _ settles due _ _ on (rw same at (told on.stands.state on.stands.shows).0)
    (λ later there.
    in_line-as g.L.PartLineStep.rules (g.L.PartLineStep.Shows c.last_line.new.reader.step due) (g.L.PartLineStep.Shows c.tell_whole.new.step [])
    c.last_line.new.reader.number c.last_line.new.reader.rest.items later (λ state shows. (told state shows).1) there))
    (λ later there.
    finished-done g.L.PartLineStep.rules (g.L.PartLineStep.Shows c.tell_whole.new.step []) (g.L.PartLineStep.Shows c.tell_whole.new.step [])
    c.last_line.new.reader.number c.last_line.new.reader.rest.items later there
    _ _ c.finish-in-Owes.result (ap length c.in_ok-status.ensures.none_kept) c.finish-in-Owes.ensures.finished)

-- ---- the limits on lines

pub returns-then-is_empty-clause-within : goal.returns-then-is_empty-clause-within
returns-then-is_empty-clause-within g c = λ limits awaits.
    let none : length c.args.self.now.rest.items ≡ 0 = search rules in
    if-ended c.finish.result
    (done-within g.L.PartLineStep.rules _ c.args.self.now.number c.args.self.now.rest.items c.args.self.now.passed limits awaits none c.args.self.now.passed refl)

pub returns-in-Ends-clause-within : goal.returns-in-Ends-clause-within
returns-in-Ends-clause-within g c = λ limits awaits. rw c.in-Ends.is at (c.in_ok-status.ensures.within limits awaits)

pub returns-in-Passes-clause-within : goal.returns-in-Passes-clause-within
returns-in-Passes-clause-within g c = λ limits awaits.
    let on = rw c.in-Passes.is at (c.in_ok-status.ensures.within limits awaits) in
    if-ended c.finish-in-Passes.result
    (on.ends ∙ done-within g.L.PartLineStep.rules _ c.last_line.new.reader.number c.last_line.new.reader.rest.items c.last_line.new.reader.passed on.later on.awaits
    (ap length c.in_ok-status.ensures.none_kept) c.last_line.new.reader.passed refl)

pub returns-in_ok-tell_whole-in-Owes-clause-within : goal.returns-in_ok-tell_whole-in-Owes-clause-within
returns-in_ok-tell_whole-in-Owes-clause-within g c = λ limits awaits.
    let (due, on) = rw c.in-Owes.is at (c.in_ok-status.ensures.within limits awaits) in
    if-ended c.finish-in-Owes.result
    (on.ends ∙ done-within g.L.PartLineStep.rules _ c.last_line.new.reader.number c.last_line.new.reader.rest.items c.last_line.new.reader.passed on.later on.awaits
    (ap length c.in_ok-status.ensures.none_kept) c.last_line.new.reader.passed refl)
