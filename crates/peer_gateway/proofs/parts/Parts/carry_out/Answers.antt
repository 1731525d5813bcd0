use Rattle.std.proofs.Common.{sym, subst}
use Rattle.std.specs.List.{All}
use Rattle.gate_cases.specs.declared.face.Face.{Face}
use Rattle.peer_gateway.specs.Views.{moments_of}
use Rattle.peer_gateway.specs.Ties.{CanBeAdded}
use Rattle.peer_gateway.proofs.PassLemmas.{decides-so}
use Rattle.peer_gateway.proofs.parts.Parts.carry_out.Goals as goal

pub add_all-requires-clause-pieces : goal.add_all-requires-clause-pieces
add_all-requires-clause-pieces c =
    subst (λ (f : Face). All (CanBeAdded c.args.self.now.settings f) c.args.decision.pieces) (sym c.other-to.ensures) c.requires.pieces

pub returns : goal.returns
returns c =
    decides-so c.args.self.now c.add_all.new.self c.answer.new.self c.args.answer.now c.add_all.new.answer c.tell.new.self c.tell_left.new.answer
    c.answer.new.answer c.args.face c.other-to.result (moments_of c.args.moments) c.args.index c.args.session c.len-count.result c.in_ok-first.first
    c.args.decision c.answer.result c.other-to.ensures c.in_ok-first.ensures c.len-count.ensures c.in_ok-add_all.ensures c.in_ok-tell.ensures
    c.in_ok-tell_left.ensures c.answer.ensures
