use Rattle.std.proofs.lemmas.Result.{on_ok_weaker}
use Rattle.replay_script.proofs.LineLemmas.{line-pushed}
use Rattle.replay_script.proofs.writing.push_line.Goals as goal

pub returns : goal.returns
returns c =
    on_ok_weaker c.write.result
    (λ h. line-pushed c.args.line.now _ _ _ _ _ c.octets.ensures c.in_ok-write_head.ensures c.in_ok-write_octets.ensures h)
    c.write.ensures.bytes
