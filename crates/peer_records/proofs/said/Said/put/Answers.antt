use Rattle.std.proofs.Common.{◌+◌, length, sym, ap, ◌∙◌}
use Rattle.gate_records.specs.Keeping.{octets_of}
use Rattle.peer_records.specs.Said.{SaidValue}
use Rattle.gate_records.proofs.PlaceLemmas.{octets-begin}
use Rattle.peer_records.proofs.said.Said.put.Goals as goal

pub invariant_of-self-2 : goal.invariant_of-self-2
invariant_of-self-2 c =
    c.requires.octets ∙ ap (λ (r : SaidValue). octets_of (r.kept).pending + length c.args.pending.block) (sym c.self.view_is)
    ∙ octets-begin c.self.inside.kept.pending.items c.push-2.new.self.items c.args.pending c.in_ok-push-2.ensures.items
