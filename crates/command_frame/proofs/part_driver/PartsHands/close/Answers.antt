use Rattle.std.proofs.Common.{◌≡◌, [], ◌∙◌}
use Rattle.edge_traits.specs.Outcome.{sink_tells}
use Rattle.edge_traits.specs.Settled.{at_end}
use Rattle.command_frame.proofs.HandingLemmas.{closed-memory, closed-more, closed-told, closed-owed, front-settled}
use Rattle.command_frame.proofs.part_driver.PartsHands.close.Goals as goal

pub returns-in_default-clause-ended : goal.returns-in_default-clause-ended
returns-in_default-clause-ended g c = λ settles stands. closed-memory _ settles _ c.in_default.ensures.memory

-- ---- text is due

pub returns-in-Some-clause-ended : goal.returns-in-Some-clause-ended
returns-in-Some-clause-ended g c = λ settles stands.
    let (same, (due, on)) = rw c.in-Owes.is at (c.in-Ok.ensures.ended settles stands) in
    closed-told _ (g.T.PartTask.Stands c.last.new.self) (g.T.PartTask.Stands c.tell_all.new.task []) settles due on
    (sink_tells g.K.Sink.held g.K.Sink.faults g.K.Sink.failing c.args.sink.now) (sink_tells g.K.Sink.held g.K.Sink.faults g.K.Sink.failing c.tell_all.new.sink)
    c.tell_all.result c.tell_all.ensures.told c.in-Some.status c.in-Some.is (rw c.in-Owes.is at c.in-Ok.ensures.began)

pub returns-in-None-clause-ended : goal.returns-in-None-clause-ended
returns-in-None-clause-ended g c = λ settles stands.
    let (same, (due, on)) = rw c.in-Owes.is at (c.in-Ok.ensures.ended settles stands) in
    closed-owed _ (g.T.PartTask.Stands c.last.new.self) (g.T.PartTask.Stands c.tell_all.new.task []) settles due on _ _ c.tell_all.result c.tell_all.ensures.told
    c.in-None.is (rw c.in-Owes.is at c.in-Ok.ensures.began) _ _ c.end_whole.result c.end_whole.ensures.ended

-- ---- none is

pub returns-in-Ok-write_all-clause-ended : goal.returns-in-Ok-write_all-clause-ended
returns-in-Ok-write_all-clause-ended g c = λ settles stands.
    let on = rw c.in-Passes.is at (c.in-Ok.ensures.ended settles stands) in
    let text : c.as_bytes.result.now ≡ on.text = c.as_bytes.ensures.value ∙ (rw c.clear.ensures.bytes at on.added) in
    closed-more _ _ settles on.later on.text on.ends _ _ _ (rw text at c.in-Ok-write_all.ensures.ok) c.in-Ok-write_all.ensures.calls
    (rw c.in-Passes.is at c.in-Ok.ensures.began) c.end_whole-in-Ok-write_all.result (c.end_whole-in-Ok-write_all.ensures.ended on.later on.stands)

pub returns-in-Err-clause-ended : goal.returns-in-Err-clause-ended
returns-in-Err-clause-ended g c = λ settles stands.
    let on = rw c.in-Passes.is at (c.in-Ok.ensures.ended settles stands) in
    let text : c.as_bytes.result.now ≡ on.text = c.as_bytes.ensures.value ∙ (rw c.clear.ensures.bytes at on.added) in
    (front-settled _ _ on.text (settles at_end []) (on.later at_end []) (rw text at c.in-Err.ensures.err) on.ends, c.in-Err.ensures.calls)

-- ---- which limit was passed

pub returns-in-Some-clause-within : goal.returns-in-Some-clause-within
returns-in-Some-clause-within g c = λ limits awaits is. absurd (rw (c.in-Some.is, is) at c.tell_all.ensures.fault)

pub returns-in-None-clause-within : goal.returns-in-None-clause-within
returns-in-None-clause-within g c = λ limits awaits is.
    let (due, on) = rw c.in-Owes.is at (c.in-Ok.ensures.within limits awaits) in
    on.ends ∙ c.end_whole.ensures.within on.later (c.tell_all.ensures.within due on.later on.awaits c.in-None.is) is

pub returns-in-Ok-write_all-clause-within : goal.returns-in-Ok-write_all-clause-within
returns-in-Ok-write_all-clause-within g c = λ limits awaits is.
    let on = rw c.in-Passes.is at (c.in-Ok.ensures.within limits awaits) in
    on.ends ∙ c.end_whole-in-Ok-write_all.ensures.within on.later on.awaits is
