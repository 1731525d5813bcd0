use Rattle.std.proofs.Common.{List, ap, ◌∙◌}
use Rattle.gate_records.specs.Ties.{may_be_over}
use Rattle.peer_gateway.specs.Gate.{FaceTold}
use Rattle.peer_records.specs.Happened.{notes_in, ups_in}
use Rattle.peer_records.proofs.ToldLemmas.{may-all}
use Rattle.peer_records.proofs.step.StepDone.may_be_over.Goals as goal

pub returns : goal.returns
returns c =
    c.may_be_over.ensures ∙ may-all c.told.result.now ∙ ap (λ (ts : List FaceTold). may_be_over (ups_in ts) (notes_in ts)) c.told.ensures
