use Rattle.std.proofs.Common.{◌∙◌, option_map, refl}
use Rattle.journal_file.specs.Ties.{kept_of}
use Rattle.peer_gateway.specs.Views.{setup_with}
use Rattle.peer_live.proofs.StartLemmas.{begins-at, cancels-are, marks-are, shows-begun}
use Rattle.peer_live.proofs.work.Work.empty.Goals as goal

pub returns-clause-shows : goal.returns-clause-shows
returns-clause-shows c =
    shows-begun _ (setup_with c.in_ok-config.config) (c.as_slice.result.now, c.as_slice-2.result.now) c.args.file.now (option_map kept_of c.args.kept) c.args.wall
    (c.in_ok-gate.ensures.value ∙ begins-at c.same-moments.result (setup_with c.in_ok-config.config) c.args.wall (c.as_slice.result.now, c.as_slice-2.result.now) c.same-moments.ensures.moments)
    c.in_ok-config.ensures.setup
    (marks-are c.as_slice.result.now c.as_slice-2.result.now c.in_ok-journal.journal (c.as_slice.ensures.value ∙ c.in_ok-old_marks.ensures) (c.as_slice-2.ensures.value ∙ c.in_ok-new_marks.ensures))
    c.in_ok-journal.ensures c.same-moments.ensures.moments c.in_ok-kept.ensures refl refl refl refl

pub returns-clause-cancels : goal.returns-clause-cancels
returns-clause-cancels c =
    cancels-are c.in_ok-gate.cancels (setup_with c.in_ok-config.config) (c.as_slice.result.now, c.as_slice-2.result.now) c.in_ok-journal.journal c.args.file.now (option_map kept_of c.args.kept) c.args.wall
    c.in_ok-gate.ensures.cancels c.in_ok-config.ensures.setup
    (marks-are c.as_slice.result.now c.as_slice-2.result.now c.in_ok-journal.journal (c.as_slice.ensures.value ∙ c.in_ok-old_marks.ensures) (c.as_slice-2.ensures.value ∙ c.in_ok-new_marks.ensures))
    c.in_ok-journal.ensures
