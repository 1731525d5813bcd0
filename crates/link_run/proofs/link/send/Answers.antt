use Rattle.std.specs.String.{string_bytes}
use Rattle.link_run.specs.Link.{sends}
use Rattle.link_run.proofs.LineLemmas.{runs-on, sends-keeps}
use Rattle.link_run.proofs.link.send.Goals as goal

pub returns-clause-turn : goal.returns-clause-turn
returns-clause-turn c = λ s lc runs.
    runs-on _ s (sends s lc c.args.end c.args.block.now) (string_bytes c.args.text.now) (string_bytes c.send.new.text) c.in_ok-ends.ends
    (sends-keeps s lc c.args.end c.args.block.now) runs.windows (c.in_ok-ends.ensures.turn s lc runs.stands)
