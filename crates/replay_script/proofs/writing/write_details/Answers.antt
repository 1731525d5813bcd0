use Rattle.std.proofs.lemmas.Result.{on_ok_weaker}
use Rattle.replay_script.proofs.LineLemmas.{after_both}
use Rattle.replay_script.proofs.writing.write_details.Goals as goal

pub returns : goal.returns
returns c = on_ok_weaker c.write_word.result (λ h. after_both _ _ _ _ _ c.in_ok-write_numbers.ensures h) c.write_word.ensures
