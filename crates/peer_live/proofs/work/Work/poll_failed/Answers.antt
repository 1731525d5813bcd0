use Rattle.std.proofs.lemmas.Result.{on_ok_weaker}
use Rattle.gate_log.specs.declared.event.Event.TheVariants as events
use Rattle.gate_log.specs.declared.event.LinkEvent.TheVariants as links
use Rattle.peer_live.proofs.PartLemmas.{does-says}
use Rattle.peer_live.proofs.work.Work.poll_failed.Goals as goal

pub returns : goal.returns
returns c = on_ok_weaker c.say.result (does-says c.args.self.now c.say.new.self (events.Link c.args.face links.PollFailed) c.requires) c.say.ensures
