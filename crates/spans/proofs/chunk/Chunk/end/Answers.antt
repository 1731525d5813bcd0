use Rattle.std.proofs.Common.{◌≡◌, List, subst, ◌∙◌}
use Rattle.spans.specs.declared.range.Run.{Run}
use Rattle.spans.specs.Runs.{end_after}
use Rattle.spans.proofs.Apart.{end_after-read}
use Rattle.spans.proofs.chunk.Chunk.end.Goals as goal

pub returns-in-Some : goal.returns-in-Some
returns-in-Some c =
    subst (λ (runs : List Run). c.in-Some.run'.now.to ≡ end_after 0 runs) (c.deref.ensures.value ∙ c.self.view_is)
    (end_after-read c.deref.result.now c.in-Some.run'.now c.in-Some.ensures.value)
