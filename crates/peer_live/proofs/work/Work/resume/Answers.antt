use Rattle.std.proofs.lemmas.Result.{on_ok_weaker, on_err_weaker}
use Rattle.endpoint.proofs.PlacesLemmas.{on_err}
use Rattle.gate_cases.specs.declared.face.Face.TheVariants as faces
use Rattle.peer_half.specs.Parts.{resumes_at}
use Rattle.peer_live.proofs.QuietLemmas.{none-kept, none-kept-then}
use Rattle.peer_live.proofs.ShowsLemmas.{does-then}
use Rattle.peer_live.proofs.work.Work.resume.Goals as goal

pub returns-in_err-resume_if-clause-wanted : goal.returns-in_err-resume_if-clause-wanted
returns-in_err-resume_if-clause-wanted c =
    on_err c.from_residual.result (λ s shows quiet. c.in_err-resume_if.ensures.wanted (none-kept c.args.self.now faces.Old s shows quiet))

pub returns-clause-after : goal.returns-clause-after
returns-clause-after c =
    on_ok_weaker c.resume_if-2.result (does-then c.args.self.now c.resume_if.new.self c.resume_if-2.new.self (resumes_at faces.Old) (resumes_at faces.New) c.in_ok-resume_if.ensures.after)
    c.resume_if-2.ensures.after

pub returns-clause-wanted : goal.returns-clause-wanted
returns-clause-wanted c =
    on_err_weaker c.resume_if-2.result (λ some. λ s shows quiet. some (none-kept-then c.args.self.now c.resume_if.new.self faces.Old faces.New s c.in_ok-resume_if.ensures.after shows quiet))
    c.resume_if-2.ensures.wanted
