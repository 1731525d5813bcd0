use Rattle.std.proofs.Common.{◌≡◌, ◌∙◌, []}
use Rattle.edge_traits.proofs.ContentLemmas.{Gains-none}
use Rattle.edge_traits.proofs.FaultsLemmas.{NoneFailed-same}
use Rattle.command_frame.proofs.HandingLemmas.{first-none, first-fed}
use Rattle.command_frame.proofs.driver.WholeHands.hand.Goals as goal

pub returns-in_default-clause-handed : goal.returns-in_default-clause-handed
returns-in_default-clause-handed g c = λ settles stands quiet.
    ([], first-none settles c.args.piece.now, Gains-none _, NoneFailed-same _)

pub returns-in-Err-clause-handed : goal.returns-in-Err-clause-handed
returns-in-Err-clause-handed g c = λ settles stands quiet.
    let fed = c.in-Ok.ensures.fed settles stands in
    let text : c.as_bytes.result.now ≡ fed.text = c.as_bytes.ensures.value ∙ (rw c.clear.ensures.bytes at fed.added) in
    (fed.text, first-fed _ settles c.args.piece.now fed.text c.in-Ok.ends fed.takes, rw text at c.in-Err.ensures.err, c.in-Err.ensures.calls)
