-- A body follows.
use Rattle.std.proofs.Common.{take, ap}
use Rattle.bundle_judges.proofs.StandLemmas7.{passes-front}
use Rattle.bundle_judges.proofs.stand7.Stand.fronted.Goals as goal

pub returns : goal.returns
returns c = λ text small passes.
    rw (c.go.ensures.step, c.go.ensures.stand, c.body_stage.ensures, c.with-sum.ensures, c.new.ensures)
    (passes-front text _ c.args.self.now small c.args.front c.args.end c.args.more passes (ap (take c.args.end) c.as_slice.ensures))
