use Rattle.std.proofs.Common.{refl}
use Rattle.link_run.proofs.LineLemmas.{fault-is}
use Rattle.link_run.proofs.link.add.Goals as goal

pub returns-in_ok-write_refused_line-in_default : goal.returns-in_ok-write_refused_line-in_default
returns-in_ok-write_refused_line-in_default c = record {
  stops = tt;
  turn = λ start windows planned.
      rw (fault-is c.args.planned.plan c.add.new.self windows c.args.window c.in-Err.fault c.in-Err.ensures.does c.in_default.not-Memory planned.plan)
      (c.in_ok-write_refused_line-in_default.ensures, refl);
}
