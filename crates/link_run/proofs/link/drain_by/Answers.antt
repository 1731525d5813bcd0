use Rattle.std.specs.String.{string_bytes}
use Rattle.link_run.specs.Link.{drains_by_picks}
use Rattle.link_run.specs.Picks.{said_picks}
use Rattle.link_run.proofs.LineLemmas.{drained-on}
use Rattle.link_run.proofs.link.drain_by.Goals as goal

pub returns-clause-turn : goal.returns-clause-turn
returns-clause-turn c = λ s lc runs.
    drained-on (drains_by_picks s lc (said_picks c.args.picks.now)) (string_bytes c.args.text.now) (string_bytes c.drain_by.new.text) c.in_ok-ends.ends
    (c.in_ok-ends.ensures.turn s lc runs.stands)
