use Rattle.std.proofs.Common.{◌<◌, ◌^◌, ℕ, arith, sym, ◌∙◌, ap, subst}
use Rattle.peer_sessions.proofs.KeptBlockLemmas.{octets-same, octets-fit}
use Rattle.peer_sessions.proofs.parts.Parts.block_octets.Goals as goal

pub octets-requires : goal.octets-requires
octets-requires c =
    let whole = (c.requires).whole in
    let places = (whole.fit).places in
    let few = (whole.fit).few in
    subst (λ (n : ℕ). n < 2 ^ 64) (sym (octets-same c.args.self.now.engine.senders c.args.self.now.blocks ((c.requires).blocks).are))
    (octets-fit c.args.self.now.engine c.args.self.now.keys.bounds.sessions whole.bounded (ap (λ p. p.sessions) whole.party) (omega (arith, places, few)))

pub returns : goal.returns
returns c = c.octets.ensures ∙ octets-same c.args.self.now.engine.senders c.args.self.now.blocks ((c.requires).blocks).are
