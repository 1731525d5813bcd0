use Rattle.std.proofs.Common.{rules, arith}
use Rattle.ltp_engine.proofs.ElsewhereLemmas.{adding-more, adding-end}
use Rattle.ltp_engine.proofs.closed.add_run.Goals as goal

pub adding-preserved : goal.adding-preserved
adding-preserved c = adding-more c.adding.numbers.items c.push.new.self.items _ c.adding.n c.args.run.to (search rules) (omega (arith)) c.adding.invariant

pub returns : goal.returns
returns c = adding-end c.adding.numbers.items _ c.adding.n c.args.run.to (omega (arith)) c.adding.invariant
