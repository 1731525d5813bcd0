use Rattle.std.proofs.Common.{rules, not}
use Rattle.std.proofs.lemmas.Fn.{filter_same}
use Rattle.peer_records.specs.Said.{is_among}
use Rattle.peer_records.proofs.pending.drop_ended.Goals as goal

pub returns : goal.returns
returns c = λ rise. filter_same _ (λ p. not (is_among c.args.ids.now p.id)) _ (λ x b f' k. search (rules, rise)) _ _ c.retain.ensures.filtered
