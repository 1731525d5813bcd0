use Rattle.std.proofs.Common.{length, sym, ap, ◌∙◌}
use Rattle.gate_cases.specs.Faces.{fits_at}
use Rattle.peer_cases.proofs.WireLemmas.{fits-raised, size-kept, size-ageless, size-oldest}
use Rattle.peer_cases.proofs.wire.greatest_size.Goals.{then-not-settings-via-then-not-settings, then-not-settings-via-else-not-settings+then-not-has_age}
use Rattle.peer_cases.proofs.wire.greatest_size.Goals as goal

pub returns-then-not-settings : goal.returns-then-not-settings
returns-then-not-settings c = elim c.then-not-settings.branch [
  | then-not-settings-via-then-not-settings w ↦
      c.requires.size ∙ sym (size-kept c.args.settings c.args.to c.args.full w.if-not-settings.true)
  | then-not-settings-via-else-not-settings+then-not-has_age w ↦
      c.requires.size ∙ sym (size-ageless c.args.settings c.args.to c.args.full (sym w.has_age.ensures ∙ w.if-not-has_age.true))
]

pub wire_octets-requires-clause-fits : goal.wire_octets-requires-clause-fits
wire_octets-requires-clause-fits c =
    ap (fits_at c.args.to) c.in_ok-oldest.ensures.exact ∙ (fits-raised c.args.to _ c.args.full ∙ c.requires.fits)

pub returns : goal.returns
returns c =
    c.len-2.ensures ∙ (ap length c.in_ok-wire_octets.ensures
    ∙ size-oldest c.args.settings c.args.to c.args.full c.in_ok-oldest.oldest c.if-not-settings.false c.in_ok-oldest.ensures.exact)
