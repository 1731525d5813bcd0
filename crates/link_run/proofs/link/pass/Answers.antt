use Rattle.std.specs.String.{string_bytes}
use Rattle.link_run.specs.Link.{passes_to}
use Rattle.link_run.proofs.LineLemmas.{passes-keeps, runs-on}
use Rattle.link_run.proofs.link.pass.Goals as goal

pub returns-clause-turn : goal.returns-clause-turn
returns-clause-turn c = λ s lc runs.
    runs-on _ s (passes_to s lc c.args.now) (string_bytes c.args.text.now) (string_bytes c.pass.new.text) c.in_ok-ends.ends
    (passes-keeps s lc c.args.now) runs.windows (c.in_ok-ends.ensures.turn s lc runs.stands)
