use Rattle.std.proofs.Common.{rules, ◌≡◌, ◌++◌, ◌∷◌, [], map, arith, refl}
use Rattle.ltp_audit.specs.Recording.{came, went}
use Rattle.ltp_audit.proofs.RecorderLemmas.{IsKept, kept-arrive}
use Rattle.ltp_audit.proofs.recorder.Recorder.arrive.Goals as goal

pub invariant_of-self-2 : goal.invariant_of-self-2
invariant_of-self-2 c whole =
    let kept : IsKept c.self.inside.engine c.self.inside.entries.items = c.self.invariant (search rules) in
    let grew : c.record_sent.new.entries.items
    ≡ (c.self.inside.entries.items ++ came c.args.datagram.now ∷ []) ++ map went c.in_ok-effects.effects.out = search rules in
    kept-arrive c.self.inside.engine c.arrive.new.self c.self.inside.entries.items c.record_sent.new.entries.items c.args.datagram.now c.args.now
    c.in_ok-effects.effects kept (λ i. omega (arith, c.type_inv.datagram i)) c.in_ok-effects.ensures.done grew

pub returns-clause-rules : goal.returns-clause-rules
returns-clause-rules c = (invariant_of-self-2 c refl).1.rules
