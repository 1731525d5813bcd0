use Rattle.std.proofs.Common.{arith, rules, ap, sym, ◌≡◌, ◌∙◌, length}
use Rattle.piece_gathering.specs.Gathered.{front_of}
use Rattle.piece_gathering.specs.Fronts.{front_after}
use Rattle.piece_gathering.proofs.FrontLemmas.{is-front, front-push, within-push}
use Rattle.piece_gathering.proofs.gathering.Gathering.add.Goals as goal

pub front_with-front-requires-clause-counted : goal.front_with-front-requires-clause-counted
front_with-front-requires-clause-counted c =
    omega (arith, ap (λ f. f.count) c.self.invariant.0, (is-front c.self.inside.wanted c.self.inside.waiting.items).within)

pub front_with-front-requires-clause-summed : goal.front_with-front-requires-clause-summed
front_with-front-requires-clause-summed c =
    omega (arith, ap (λ f. f.size) c.self.invariant.0, (is-front c.self.inside.wanted c.self.inside.waiting.items).fits c.self.invariant.1)

pub invariant_of-self-2 : goal.invariant_of-self-2
invariant_of-self-2 c =
    let items = c.self.inside.waiting.items in
    let front = c.front_with-front.ensures in
    let before = c.self.invariant.0 in
    let size : c.len.result ≡ length items = search rules in (
      rw c.in_ok-push_back.ensures.items
          (front ∙ (ap (λ f. front_after c.self.inside.wanted f c.len.result c.args.piece.size) before
          ∙ (ap (λ n. front_after c.self.inside.wanted (front_of c.self.inside.wanted items) n c.args.piece.size) size
          ∙ sym (front-push c.self.inside.wanted items c.args.piece)))),
      rw c.in_ok-push_back.ensures.items (within-push items c.args.piece c.self.invariant.1 c.requires),
    )
