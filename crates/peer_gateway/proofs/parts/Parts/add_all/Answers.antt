use Rattle.std.proofs.Common.{rules, refl, ap, sym, subst, ◌∙◌}
use Rattle.std.specs.List.{All}
use Rattle.std.proofs.lemmas.List.{nil_from_length}
use Rattle.peer_cases.specs.declared.settings.PeerSettings.{PeerSettings}
use Rattle.peer_gateway.specs.Keys.{PeerSetup}
use Rattle.peer_gateway.specs.Faces.{IsSized}
use Rattle.peer_gateway.specs.Ties.{CanBeAdded}
use Rattle.peer_gateway.proofs.PassLemmas.{turns-begin, turns-done, next-sized, next-small, others-can, adds_one, pieces-next}
use Rattle.peer_gateway.proofs.parts.Parts.add_all.Goals as goal

pub adding-init : goal.adding-init
adding-init c =
    let all = c.into_iter-sized-iterator.ensures.into_iter_gives.0 ∙ c.into_vec-sized-items.ensures in (
      turns-begin (adds_one c.args.face c.args.moments) c.args.self.now c.args.answer.now c.args.pieces c.into_iter-sized-iterator.result.rest.items all
          c.requires.whole,
      refl,
      subst (All (CanBeAdded c.args.self.now.settings c.args.face)) (sym all) c.requires.pieces,
    )

pub add-requires-clause-whole : goal.add-requires-clause-whole
add-requires-clause-whole c = (c.adding.invariant.0).whole

pub add-requires-clause-size : goal.add-requires-clause-size
add-requires-clause-size c =
    next-small c.args.self.now.settings c.args.face c.adding.sized-iterator.rest.items c.next.new.self.rest.items c.in-Some.sized (search rules)
    c.adding.invariant.2

pub add-requires-clause-sized : goal.add-requires-clause-sized
add-requires-clause-sized c =
    subst (λ (s : PeerSettings). IsSized s c.args.face
    (record {
      octets = c.in-Some.sized.octets;
      size = c.in-Some.sized.size;
      came = c.args.moments.wall;
      added = c.of-added.result.at;
      is_dated = c.in-Some.sized.is_dated;
    }))
    (sym c.adding.invariant.1)
    (next-sized c.args.self.now.settings c.args.face c.args.moments c.adding.sized-iterator.rest.items c.next.new.self.rest.items c.in-Some.sized
    c.of-added.result (search rules) c.of-added.ensures c.adding.invariant.2)

pub adding-preserved : goal.adding-preserved
adding-preserved c = (
  pieces-next c.args.face c.args.moments c.args.self.now c.adding.self c.add.new.self c.args.answer.now c.adding.answer c.add.new.answer c.args.pieces
      c.adding.sized-iterator.rest.items c.next.new.self.rest.items c.in-Some.sized c.of-added.result (search rules) c.of-added.ensures c.adding.invariant.0
      c.in_ok-add.ensures,
  ap (λ (s : PeerSetup). s.settings) (c.in_ok-add.ensures).setup ∙ c.adding.invariant.1,
  others-can c.args.self.now.settings c.args.face c.adding.sized-iterator.rest.items c.next.new.self.rest.items c.in-Some.sized (search rules)
      c.adding.invariant.2,
)

pub returns : goal.returns
returns c =
    turns-done (adds_one c.args.face c.args.moments) c.args.self.now c.adding.self c.args.answer.now c.adding.answer c.args.pieces
    c.adding.sized-iterator.rest.items
    (nil_from_length c.adding.sized-iterator.rest.items (sym c.adding.sized-iterator.rest.ok.0 ∙ c.in-None.ensures.steps.0)) c.adding.invariant.0
