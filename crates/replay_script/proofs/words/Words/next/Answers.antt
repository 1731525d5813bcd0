use Rattle.std.proofs.Common.{◌+◌, sym, ap, ◌∙◌}
use Rattle.std.proofs.lemmas.List.{take_rest}
use Rattle.replay_script.specs.Ties.{words_left}
use Rattle.replay_script.proofs.WordLemmas.{words-some, words-none}
use Rattle.replay_script.proofs.words.Words.next.Goals as goal

pub returns-in_default-clause-some : goal.returns-in_default-clause-some
returns-in_default-clause-some c =
    sym c.self.view_is ∙ ap words_left c.in_ok-rest.was ∙ words-none c.in_ok-rest.rest.now (sym c.space_in.ensures ∙ c.in_default.is)

pub returns-clause-some : goal.returns-clause-some
returns-clause-some c =
    rw (take_rest c.in_ok-rest.rest.now (c.in-Some.at + 1))
    (sym c.self.view_is ∙ ap words_left c.in_ok-rest.was ∙ words-some c.in_ok-rest.rest.now c.in-Some.at (sym c.space_in.ensures ∙ c.in-Some.is))
