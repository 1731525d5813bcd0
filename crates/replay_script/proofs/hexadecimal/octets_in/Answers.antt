use Rattle.std.proofs.Common.{Some, ap, sym, ◌∙◌}
use Rattle.replay_script.proofs.FieldLemmas.{hex-is, hex-octets}
use Rattle.replay_script.proofs.hexadecimal.octets_in.Goals as goal

pub octets_of-requires : goal.octets_of-requires
octets_of-requires c = hex-is c.args.text.now ∙ c.requires

pub returns : goal.returns
returns c = hex-octets c.args.text.now c.in_ok-octets.octets.items c.in_ok-octets.ensures ∙ ap Some (sym c.from_vec.ensures)
