use Rattle.std.proofs.Common.{◌≡◌, false, nat_le, sym, ◌∙◌, subst, arith}
use Rattle.face_room.specs.Bounds.{half}
use Rattle.peer_sessions.proofs.TrimLemmas.{trims-none, trims-first}
use Rattle.peer_sessions.proofs.parts.Parts.first_to_trim.Goals as goal

pub returns-then-is_within-clause-first : goal.returns-then-is_within-clause-first
returns-then-is_within-clause-first c =
    trims-none (half c.args.self.now.keys.bounds) c.args.self.now.at_most c.args.self.now.engine.inbound.touched c.args.self.now.engine.inbound.receivers (c.requires).cells (sym c.is_within.ensures ∙ c.if-is_within.true)

pub returns-then-is_within-2-clause-first : goal.returns-then-is_within-2-clause-first
returns-then-is_within-2-clause-first c =
    let counted = c.octets-self.ensures in
    trims-none (half c.args.self.now.keys.bounds) c.octets-self.result c.args.self.now.engine.inbound.touched c.args.self.now.engine.inbound.receivers (omega (arith, counted)) (sym c.is_within-2.ensures ∙ c.if-is_within-2.true)

pub returns-clause-first : goal.returns-clause-first
returns-clause-first c =
    c.longest_untouched.ensures.first
    ∙ trims-first (half c.args.self.now.keys.bounds) c.args.self.now.engine.inbound.touched c.args.self.now.engine.inbound.receivers c.longest_untouched.ensures.order
    (subst (λ n. nat_le n (half c.args.self.now.keys.bounds) ≡ false) c.octets-self.ensures (sym c.is_within-2.ensures ∙ c.if-is_within-2.false))
