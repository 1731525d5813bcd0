use Rattle.std.proofs.Common.{Some, sym, ap, ◌∙◌}
use Rattle.audit_run.proofs.HexLemmas.{hex-is, hex-octets}
use Rattle.audit_run.proofs.entry_line.octets_in.Goals as goal

pub octets_of-requires : goal.octets_of-requires
octets_of-requires c = hex-is c.args.text.now ∙ c.requires

pub returns : goal.returns
returns c = hex-octets c.args.text.now _ c.in_ok-octets.ensures ∙ ap Some (sym c.from_vec.ensures)
