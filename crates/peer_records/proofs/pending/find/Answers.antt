use Rattle.std.proofs.Common.{rules}
use Rattle.std.proofs.lemmas.List.Sorted.{answers_always}
use Rattle.peer_records.proofs.FindLemmas.{found-id, missed-id}
use Rattle.peer_records.proofs.pending.find.Goals as goal

-- the closure gives a piece's id
pub returns-in-Ok-clause-id : goal.returns-in-Ok-clause-id
returns-in-Ok-clause-id c =
    found-id c.args.pending.now c.args.id c.in-Ok.at c.index-pending-at.result
    (c.in-Ok.ensures.position (λ p. p.id) (answers_always _ _ _ (λ f a r g called. search rules))) c.index-pending-at.is

pub returns-in-Err-clause-none : goal.returns-in-Err-clause-none
returns-in-Err-clause-none c =
    missed-id 0 c.args.pending.now c.args.id c.in-Err.field-0
    (c.in-Err.ensures.position (λ p. p.id) (answers_always _ _ _ (λ f a r g called. search rules)))
