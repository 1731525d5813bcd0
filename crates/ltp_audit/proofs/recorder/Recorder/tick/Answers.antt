use Rattle.std.proofs.Common.{rules, ◌≡◌, ◌++◌, map, refl}
use Rattle.ltp_audit.specs.Recording.{went}
use Rattle.ltp_audit.proofs.RecorderLemmas.{IsKept, kept-tick}
use Rattle.ltp_audit.proofs.recorder.Recorder.tick.Goals as goal

pub invariant_of-self-2 : goal.invariant_of-self-2
invariant_of-self-2 c whole =
    let kept : IsKept c.self.inside.engine c.self.inside.entries.items = c.self.invariant (search rules) in
    let grew : c.record_sent.new.entries.items ≡ c.self.inside.entries.items ++ map went c.in_ok-effects.effects.out = search rules in
    kept-tick c.self.inside.engine c.tick.new.self c.self.inside.entries.items c.record_sent.new.entries.items c.args.now
    c.in_ok-effects.effects kept c.in_ok-effects.ensures.done grew

pub returns-clause-rules : goal.returns-clause-rules
returns-clause-rules c = (invariant_of-self-2 c refl).1.rules
