use Rattle.std.specs.String.{string_bytes}
use Rattle.link_run.specs.Link.{drains}
use Rattle.link_run.proofs.LineLemmas.{drained-on}
use Rattle.link_run.proofs.link.drain.Goals as goal

pub returns-clause-turn : goal.returns-clause-turn
returns-clause-turn c = λ s lc runs.
    drained-on (drains s lc) (string_bytes c.args.text.now) (string_bytes c.drain.new.text) c.in_ok-ends.ends (c.in_ok-ends.ensures.turn s lc runs.stands runs.windows)
