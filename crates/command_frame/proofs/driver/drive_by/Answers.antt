use Rattle.std.proofs.Common.{arith, take, drop}
use Rattle.edge_traits.specs.Content.{most_input}
use Rattle.command_frame.proofs.DriveLemmas.{going-start, ran-fault, ran-handed, ran-limit, ran-closed, goes-on, came-more, read-end}
use Rattle.command_frame.proofs.LimitsRunLemmas.{going-within, on-within, closed-within, over-within, full-within}
use Rattle.command_frame.proofs.driver.drive_by.Goals as goal

pub reading-init : goal.reading-init
reading-init g c = record {
  going = λ settles stands quiet. going-start _ _ settles _ _ stands quiet (c.requires.fresh settles stands);
  within = λ limits within. going-within _ _ limits _ within;
  ready = c.requires.ready;
  low = omega arith;
}

pub returns-in-Err-clause-ran : goal.returns-in-Err-clause-ran
returns-in-Err-clause-ran g c = λ settles stands quiet.
    ran-fault most_input _ _ settles _ _ _ _ c.reading.taken (c.reading.invariant.going settles stands quiet) c.reading.invariant.low _
    c.in-Err.ensures.kept c.in-Err.ensures.calls

pub returns-then-n-eq0-clause-ran : goal.returns-then-n-eq0-clause-ran
returns-then-n-eq0-clause-ran g c = λ settles stands quiet.
    let going = c.reading.invariant.going settles stands quiet in
    let ended = read-end _ _ _ going.came c.read_once.new.buffer c.in-Ok.n c.if-n-eq0.true going.read c.in-Ok.ensures.took in
    ran-closed most_input _ _ settles _ _ _ _ c.reading.taken going c.reading.invariant.low _ ended.0 ended.1 c.in-Ok.ensures.calls
    _ c.close.result (c.close.ensures.ended going.later going.stands)

-- ---- octets came

pub returns-in-Some-clause-ran : goal.returns-in-Some-clause-ran
returns-in-Some-clause-ran g c = λ settles stands quiet.
    let going = c.reading.invariant.going settles stands quiet in
    let more = came-more most_input _ _ _ going.came c.read_once.new.buffer c.in-Ok.n c.min-size.result c.reading.taken c.reading.invariant.low
    going.size c.min-size.ensures c.in-Ok.ensures.bound.0 going.read c.in-Ok.ensures.took.read in
    ran-handed most_input _ _ settles _ _ _ _ c.reading.taken going c.reading.invariant.low _
    (take c.min-size.result c.read_once.new.buffer) (drop c.min-size.result (take c.in-Ok.n c.read_once.new.buffer))
    more.fits more.read c.in-Ok.ensures.calls (g.H.Hands.Stands c.hand.new.task) _ c.in-Some.status (more.some (omega (arith, c.if-n-eq0.false)))
    (rw c.in-Some.is at (c.hand.ensures.handed going.later going.stands going.quiet))

pub returns-in-None-clause-ran : goal.returns-in-None-clause-ran
returns-in-None-clause-ran g c = λ settles stands quiet.
    let going = c.reading.invariant.going settles stands quiet in
    let more = came-more most_input _ _ _ going.came c.read_once.new.buffer c.in-Ok.n c.min-size.result c.reading.taken c.reading.invariant.low
    going.size c.min-size.ensures c.in-Ok.ensures.bound.0 going.read c.in-Ok.ensures.took.read in
    let handed = rw c.in-None.is at (c.hand.ensures.handed going.later going.stands going.quiet) in
    ran-limit most_input _ _ settles _ _ _ _ c.reading.taken going c.reading.invariant.low _
    (take c.min-size.result c.read_once.new.buffer) (drop c.min-size.result (take c.in-Ok.n c.read_once.new.buffer))
    more.fits more.read c.in-Ok.ensures.calls handed.0 _ handed.2 handed.3 _ handed.1 (more.full c.if-size-n.true) (more.cut c.if-size-n.true)

pub reading-preserved : goal.reading-preserved
reading-preserved g c = record {
  going = λ settles stands quiet.
      let going = c.reading.invariant.going settles stands quiet in
      let more = came-more most_input _ _ _ going.came c.read_once.new.buffer c.in-Ok.n c.min-size.result c.reading.taken c.reading.invariant.low
      going.size c.min-size.ensures c.in-Ok.ensures.bound.0 going.read c.in-Ok.ensures.took.read in
      let handed = rw c.in-None-2.is at (c.hand.ensures.handed going.later going.stands going.quiet) in
      goes-on most_input _ _ settles _ _ _ _ c.reading.taken going c.reading.invariant.low _
      (take c.min-size.result c.read_once.new.buffer) (drop c.min-size.result (take c.in-Ok.n c.read_once.new.buffer))
      more.fits more.read c.in-Ok.ensures.calls handed.0 _ handed.2 handed.3 _ handed.1 (more.none (omega (arith, c.if-size-n.false))) _ more.counted _
      (omega (arith, c.min-size.ensures, c.if-size-n.false, c.if-n-eq0.false));
  within = λ limits within.
      let going = c.reading.invariant.within limits within in
      let more = came-more most_input _ _ _ going.came c.read_once.new.buffer c.in-Ok.n c.min-size.result c.reading.taken c.reading.invariant.low
      going.size c.min-size.ensures c.in-Ok.ensures.bound.0 going.read c.in-Ok.ensures.took.read in
      on-within most_input _ _ limits _ _ c.reading.taken going _
      (take c.min-size.result c.read_once.new.buffer) (drop c.min-size.result (take c.in-Ok.n c.read_once.new.buffer)) more.read
      _ _ (rw c.in-None-2.is at (c.hand.ensures.within going.leads.later going.leads.within))
      (more.none (omega (arith, c.if-size-n.false))) _ more.counted;
  ready = c.hand.ensures.ready c.in-None-2.is;
  low = omega (arith, c.min-size.ensures, c.reading.invariant.low);
}

-- ---- which limit was passed

pub returns-then-n-eq0-clause-passed : goal.returns-then-n-eq0-clause-passed
returns-then-n-eq0-clause-passed g c = λ limits within is.
    let going = c.reading.invariant.within limits within in
    let ended = read-end _ _ _ going.came c.read_once.new.buffer c.in-Ok.n c.if-n-eq0.true going.read c.in-Ok.ensures.took in
    closed-within most_input _ _ limits _ _ c.reading.taken going _ _ c.reading.invariant.low ended.0 ended.1
    (c.close.ensures.within going.leads.later going.leads.within.awaits is)

pub returns-in-Some-clause-passed : goal.returns-in-Some-clause-passed
returns-in-Some-clause-passed g c = λ limits within is.
    let going = c.reading.invariant.within limits within in
    let more = came-more most_input _ _ _ going.came c.read_once.new.buffer c.in-Ok.n c.min-size.result c.reading.taken c.reading.invariant.low
    going.size c.min-size.ensures c.in-Ok.ensures.bound.0 going.read c.in-Ok.ensures.took.read in
    over-within most_input _ _ limits _ _ c.reading.taken going _
    (take c.min-size.result c.read_once.new.buffer) (drop c.min-size.result (take c.in-Ok.n c.read_once.new.buffer)) more.read
    _ more.fits (rw (c.in-Some.is, is) at (c.hand.ensures.within going.leads.later going.leads.within))

pub returns-in-None-clause-passed : goal.returns-in-None-clause-passed
returns-in-None-clause-passed g c = λ limits within is.
    let going = c.reading.invariant.within limits within in
    let more = came-more most_input _ _ _ going.came c.read_once.new.buffer c.in-Ok.n c.min-size.result c.reading.taken c.reading.invariant.low
    going.size c.min-size.ensures c.in-Ok.ensures.bound.0 going.read c.in-Ok.ensures.took.read in
    full-within most_input _ _ limits _ _ c.reading.taken going _
    (take c.min-size.result c.read_once.new.buffer) (drop c.min-size.result (take c.in-Ok.n c.read_once.new.buffer)) more.read
    _ _ (rw c.in-None.is at (c.hand.ensures.within going.leads.later going.leads.within)) (more.full c.if-size-n.true) (more.cut c.if-size-n.true)
