use Rattle.gateway_core.proofs.DidLemmas.{arrived}
use Rattle.std.proofs.lemmas.Result.{on_err_weaker}
use Rattle.endpoint.proofs.PlacesLemmas.{on_err}
use Rattle.gateway_core.proofs.WantLemmas.{told-wants, ups-wants, passed-wants}
use Rattle.gateway_core.proofs.parts.Parts.arrive.Goals as goal

pub returns-clause-did : goal.returns-clause-did
returns-clause-did c = arrived c.args.self.now c.hear.new.self c.pass_all.new.self c.args.face c.args.datagram.now c.args.now c.in_ok-told.told c.as_slice.result.now c.in_ok-passed.passed c.in_ok-heard.heard c.followed_by.result
    c.in_ok-told.ensures.did c.as_slice.ensures c.in_ok-passed.ensures.did c.in_ok-heard.ensures.routed c.followed_by.ensures.joined

pub returns-in_err-passed-clause-wanted : goal.returns-in_err-passed-clause-wanted
returns-in_err-passed-clause-wanted c = on_err _ (ups-wants c.args.self.now c.hear.new.self c.args.face _ c.in_ok-told.told c.as_slice.result.now
    c.in_ok-told.ensures.did c.as_slice.ensures c.in_err-passed.ensures.wanted)

pub returns-in_err-heard-clause-wanted : goal.returns-in_err-heard-clause-wanted
returns-in_err-heard-clause-wanted c = on_err _ (told-wants c.args.self.now c.hear.new.self c.args.face _ c.in_ok-told.told
    c.in_ok-told.ensures.did c.in_err-heard.ensures.wanted)

pub returns-clause-wanted : goal.returns-clause-wanted
returns-clause-wanted c = on_err_weaker c.followed_by.result
    (passed-wants c.args.self.now c.hear.new.self c.pass_all.new.self c.args.face c.args.now _ c.in_ok-told.told c.as_slice.result.now c.in_ok-passed.passed
    c.in_ok-told.ensures.did c.as_slice.ensures c.in_ok-passed.ensures.did)
    c.followed_by.ensures.wanted
