use Rattle.std.proofs.Common.{◌≡◌, List, subst, ◌∙◌}
use Rattle.spans.specs.declared.range.Run.{Run}
use Rattle.spans.specs.Runs.{last_begin}
use Rattle.spans.proofs.Apart.{last_begin-read}
use Rattle.spans.proofs.chunk.Chunk.last_begin.Goals as goal

pub returns-in-Some : goal.returns-in-Some
returns-in-Some c =
    subst (λ (runs : List Run). c.in-Some.run'.now.from ≡ last_begin 0 runs) (c.deref.ensures.value ∙ c.self.view_is)
    (last_begin-read c.deref.result.now c.in-Some.run'.now c.in-Some.ensures.value)
