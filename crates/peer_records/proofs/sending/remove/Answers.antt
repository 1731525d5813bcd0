use Rattle.std.proofs.Common.{rules, not, ap, ◌∙◌, List}
use Rattle.std.proofs.lemmas.Fn.{filter_same}
use Rattle.peer_records.specs.declared.sending.Sending.{Sending}
use Rattle.peer_records.specs.Ties.{named_all}
use Rattle.peer_records.proofs.SessionLemmas.{is_it, removed}
use Rattle.peer_records.proofs.sending.remove.Goals as goal

pub returns : goal.returns
returns c =
    ap (λ (l : List Sending). named_all l)
    (filter_same _ (λ (s : Sending). not (is_it c.args.face c.args.session s)) _ (λ x b f' k. search rules) _ _ c.retain.ensures.filtered)
    ∙ removed c.args.face c.args.session c.args.sessions.now.items
