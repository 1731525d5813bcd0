use Rattle.std.proofs.Common.{ℕ, List, ap, ◌∙◌}
use Rattle.peer_records.proofs.TiedLemmas.{old-out, new-out}
use Rattle.peer_records.proofs.to_add.ToAdd.remove.Goals as goal

pub returns-then-take_first : goal.returns-then-take_first
returns-then-take_first c =
    old-out c.args.id c.self.inside.at_old.items c.self.inside.at_new.items c.take_first.new.ids.items c.args.self.now c.self.view_is (c.take_first.ensures.first c.if-take_first.true)

pub returns-then-take_first-2 : goal.returns-then-take_first-2
returns-then-take_first-2 c =
    new-out c.args.id c.take_first.new.ids.items c.self.inside.at_new.items c.take_first-2.new.ids.items c.args.self.now
    (ap (λ (l : List ℕ). (l, c.self.inside.at_new.items)) (c.take_first.ensures.other c.if-take_first.false) ∙ c.self.view_is) (c.take_first-2.ensures.first c.if-take_first-2.true)
