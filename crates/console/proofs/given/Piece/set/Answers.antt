use Rattle.std.proofs.Common.{ℕ, take, ◌∙◌, ap}
use Rattle.std.proofs.lemmas.List.{take_min}
use Rattle.console.proofs.given.Piece.set.Goals as goal

pub returns : goal.returns
returns c =
    c.fill.ensures ∙ ap (λ (n : ℕ). take n c.args.octets.now) c.min-n.ensures
    ∙ take_min 8192 c.args.octets.now
