use Rattle.std.proofs.Common.{ap, sym, ◌∙◌, arith}
use Rattle.std.proofs.lemmas.List.{take_all}
use Rattle.std.specs.List.{list_any}
use Rattle.peer_events.specs.Own.{is_of}
use Rattle.peer_events.proofs.OwnLemmas.{found-at, nowhere}
use Rattle.peer_events.proofs.own.place_of.Goals as goal

pub returns-then-is_of : goal.returns-then-is_of
returns-then-is_of c =
    found-at c.args.face c.args.session c.args.own.now c.looking.place c.index-own-place.result c.looking-test.true c.looking.invariant
    (ap (is_of c.args.face c.args.session) (sym c.index-own-place.is) ∙ (sym c.is_of.ensures ∙ c.if-is_of.true))

pub returns : goal.returns
returns c =
    nowhere c.args.face c.args.session c.args.own.now
    (ap (list_any (is_of c.args.face c.args.session)) (sym (take_all c.looking.place c.args.own.now (omega (arith, c.looking-test.false)))) ∙ c.looking.invariant)
