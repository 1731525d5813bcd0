use Rattle.std.proofs.Common.{◌+◌, ap, ◌∙◌}
use Rattle.std.proofs.lemmas.Result.{on_ok_weaker}
use Rattle.peer_gateway.specs.Answers.{added_seen}
use Rattle.peer_records.specs.Said.{SaidValue}
use Rattle.peer_records.proofs.SaidLemmas.{piece-begun}
use Rattle.peer_records.proofs.said.Said.begin.Goals as goal

pub returns : goal.returns
returns c =
    on_ok_weaker c.put.result
    (λ is. is ∙ piece-begun (added_seen c.args.added.now) c.args.self.now c.in_ok-id.id c.in_ok-pending.pending c.requires.piece
    (c.in_ok-id.ensures.id ∙ ap (λ (s : SaidValue). (s.kept).greatest + 1) c.self.view_is) c.in_ok-pending.ensures)
    c.put.ensures
