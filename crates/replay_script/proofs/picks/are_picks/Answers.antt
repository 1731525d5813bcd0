use Rattle.std.proofs.Common.{is_some, ap, sym, ◌∙◌}
use Rattle.replay_script.specs.LinkEvents.{picks_of}
use Rattle.replay_script.proofs.PickLemmas.{picks-none, picks-some}
use Rattle.replay_script.proofs.picks.are_picks.Goals as goal

pub returns-then-not-is_pick : goal.returns-then-not-is_pick
returns-then-not-is_pick c =
    sym (picks-none c.in-Some.word.now c.next.new.self (sym c.is_pick.ensures ∙ c.if-not-is_pick.true))
    ∙ (ap (λ ws. is_some (picks_of ws)) (sym c.in-Some.ensures.some) ∙ c.words.invariant)

pub words-preserved : goal.words-preserved
words-preserved c =
    picks-some c.in-Some.word.now c.next.new.self (sym c.is_pick.ensures ∙ c.if-not-is_pick.false)
    ∙ (ap (λ ws. is_some (picks_of ws)) (sym c.in-Some.ensures.some) ∙ c.words.invariant)

pub returns : goal.returns
unfolding picks_of
returns c = ap (λ ws. is_some (picks_of ws)) (sym c.in_default.ensures.none) ∙ c.words.invariant
