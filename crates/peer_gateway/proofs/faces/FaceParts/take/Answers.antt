use Rattle.std.proofs.Common.{nat_lt, ap, ◌∙◌}
use Rattle.peer_gateway.proofs.FaceLemmas.{going-within, going-known, took}
use Rattle.peer_gateway.proofs.WaitLemmas.{needs_of}
use Rattle.peer_gateway.proofs.faces.FaceParts.take.Goals as goal

pub needs_in-requires-clause-within : goal.needs_in-requires-clause-within
needs_in-requires-clause-within c =
    going-within c.args.self.now c.args.until c.as_slice.result.now c.requires.whole (c.as_slice.ensures.value ∙ c.in_ok-pieces.ensures.taken)

pub after-self-requires-clause-needs : goal.after-self-requires-clause-needs
after-self-requires-clause-needs c =
    (going-known c.args.self.now c.args.until c.in_ok-needs.needs c.as_slice.result.now c.requires.whole c.requires.some
    (c.as_slice.ensures.value ∙ c.in_ok-pieces.ensures.taken) c.in_ok-needs.ensures).few

pub after-self-requires-clause-blocks : goal.after-self-requires-clause-blocks
after-self-requires-clause-blocks c =
    (going-known c.args.self.now c.args.until c.in_ok-needs.needs c.as_slice.result.now c.requires.whole c.requires.some
    (c.as_slice.ensures.value ∙ c.in_ok-pieces.ensures.taken) c.in_ok-needs.ensures).some

pub returns : goal.returns
returns c =
    took c.args.self.now c.args.until c.in_ok-needs.needs c.in_ok-pieces.pieces.items c.take.new.self c.after-self.result (nat_lt 0 c.len.result) c.requires.whole
    c.requires.some c.in_ok-pieces.ensures.taken c.in_ok-pieces.ensures.left
    (c.in_ok-needs.ensures ∙ ap (needs_of c.args.self.now.bounds) c.as_slice.ensures.value) (ap (nat_lt 0) c.len.ensures) c.after-self.ensures
