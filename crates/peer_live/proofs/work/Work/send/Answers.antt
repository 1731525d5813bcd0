use Rattle.std.proofs.lemmas.Result.{on_ok_weaker}
use Rattle.peer_live.proofs.StartLemmas.{does-send-out}
use Rattle.peer_live.proofs.work.Work.send.Goals as goal

pub returns : goal.returns
returns c = on_ok_weaker c.put_all.result (λ put. does-send-out c.args.self.now c.put_all.new.self c.args.answer c.requires put) c.put_all.ensures.after
