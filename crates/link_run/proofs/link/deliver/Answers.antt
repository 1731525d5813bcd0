use Rattle.std.specs.String.{string_bytes}
use Rattle.link_run.specs.Link.{delivers}
use Rattle.link_run.proofs.LineLemmas.{delivers-keeps, runs-on}
use Rattle.link_run.proofs.link.deliver.Goals as goal

pub returns-clause-turn : goal.returns-clause-turn
returns-clause-turn c = λ s lc runs.
    runs-on _ s (delivers s lc c.args.k) (string_bytes c.args.text.now) (string_bytes c.deliver.new.text) c.in_ok-ends.ends
    (delivers-keeps s lc c.args.k) runs.windows (c.in_ok-ends.ensures.turn s lc runs.stands)
