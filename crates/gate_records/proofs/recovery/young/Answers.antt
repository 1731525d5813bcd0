use Rattle.std.proofs.Common.{rules}
use Rattle.std.proofs.lemmas.Fn.{filter_same}
use Rattle.gate_records.specs.Keeping.{is_young}
use Rattle.gate_records.proofs.recovery.young.Goals as goal

pub returns : goal.returns
returns c = filter_same _ (is_young c.args.wall) _ (λ x b f' k. search rules) _ _ c.retain.ensures.filtered
