use Rattle.std.proofs.Common.{sym, subst, ◌≡◌, [], ◌⊎◌}
use Rattle.gate_cases.specs.declared.case.GateCase.TheVariants as cases
use Rattle.gate_cases.specs.declared.judged.Judged.{Judged}
use Rattle.gateway_core.proofs.SendLemmas.{passed, passed-or-none, pieces-fit}
use Rattle.gateway_core.proofs.parts.Parts.pass.Goals as goal

pub decide-requires-clause-blocks : goal.decide-requires-clause-blocks
decide-requires-clause-blocks c = (pieces-fit c.args.self.now c.args.face c.other.result c.room-room.result c.in_ok-judged.judged c.requires.whole c.other.ensures c.room-room.ensures c.in_ok-judged.ensures.room
    (subst (λ (j : Judged). (j.case ≡ cases.Passed) ⊎ (j.pieces ≡ [])) (sym c.in_ok-judged.ensures.exact)
    (passed-or-none c.args.face c.args.block.now c.args.now c.args.self.now.cut c.room-room.result))).0

pub decide-requires-clause-room : goal.decide-requires-clause-room
decide-requires-clause-room c = (pieces-fit c.args.self.now c.args.face c.other.result c.room-room.result c.in_ok-judged.judged c.requires.whole c.other.ensures c.room-room.ensures c.in_ok-judged.ensures.room
    (subst (λ (j : Judged). (j.case ≡ cases.Passed) ⊎ (j.pieces ≡ [])) (sym c.in_ok-judged.ensures.exact)
    (passed-or-none c.args.face c.args.block.now c.args.now c.args.self.now.cut c.room-room.result))).1

pub returns : goal.returns
returns c = passed c.args.self.now c.decide.new.self c.args.face c.args.now c.args.session c.args.block.now c.other.result c.room-room.result c.in_ok-judged.judged c.decide.result
    c.other.ensures c.room-room.ensures c.in_ok-judged.ensures.exact c.decide.ensures
