use Rattle.std.proofs.Common.{Some, ap, sym, ◌∙◌}
use Rattle.replay_script.specs.LinkEvents.{picks_of}
use Rattle.replay_script.proofs.PickLemmas.{picks_after, picks-end, picks-more, picks-start}
use Rattle.replay_script.proofs.picks.picks_in.Goals as goal

pub words-init : goal.words-init
words-init c = ap (λ before. picks_after before (picks_of c.of-words.result)) c.new-picks.ensures.items ∙ (picks-start c.of-words.result ∙ ap picks_of c.of-words.ensures)

pub words-preserved : goal.words-preserved
words-preserved c =
    ap (λ before. picks_after before (picks_of c.next.new.self)) c.in_ok-push.ensures.items
    ∙ (picks-more c.words.picks.items c.in-Some.word.now c.next.new.self c.in-Some-pick.pick (sym c.pick.ensures ∙ c.in-Some-pick.is)
    ∙ (ap (λ ws. picks_after c.words.picks.items (picks_of ws)) (sym c.in-Some.ensures.some) ∙ c.words.invariant))

pub returns : goal.returns
returns c = sym c.words.invariant ∙ (picks-end c.words.picks.items c.words.words c.in_default.ensures.none ∙ ap Some (sym c.from_vec.ensures))
