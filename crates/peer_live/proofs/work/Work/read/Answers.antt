use Rattle.std.proofs.Common.{◌∙◌}
use Rattle.std.proofs.lemmas.Result.{on_ok_weaker, on_err_weaker}
use Rattle.endpoint.proofs.PlacesLemmas.{on_err}
use Rattle.peer_live.proofs.QuietLemmas.{none-told-new, none-told-old}
use Rattle.peer_live.proofs.ShowsLemmas.{does-reads}
use Rattle.peer_live.proofs.work.Work.read.Goals as goal

pub start-requires : goal.start-requires
start-requires c = c.in_ok-read_clocks.ensures.after.whole

pub returns-in_err-read_clocks-clause-wanted : goal.returns-in_err-read_clocks-clause-wanted
returns-in_err-read_clocks-clause-wanted c = on_err c.from_residual.result (λ s shows quiet.
    c.in_err-read_clocks.ensures.wanted (none-told-old c.args.self.now c.args.reading s shows quiet) (none-told-new c.args.self.now c.args.reading s shows quiet))

pub returns-clause-after : goal.returns-clause-after
returns-clause-after c =
    on_ok_weaker c.start.result (does-reads c.args.self.now c.read_clocks.new.self c.start.new.self c.args.reading c.in_ok-read_clocks.ensures.after) c.start.ensures.after

pub returns-clause-wanted : goal.returns-clause-wanted
returns-clause-wanted c =
    on_err_weaker c.start.result (λ said. λ s shows quiet. said (c.in_ok-read_clocks.ensures.started ∙ (shows.started ∙ quiet.started))) c.start.ensures.wanted
