-- The bundle ends in the piece.
use Rattle.std.proofs.Common.{◌≡◌, ℕ, Bool, List, Ok, ◌++◌, ◌∙◌, refl, subst}
use Rattle.bundle6.specs.declared.reader.Gained.{Gained}
use Rattle.bundle6.specs.Holding.{IsWhole, Gains}
use Rattle.bundle6.proofs.ReaderLemmas.{ended-late}
use Rattle.bundle6.proofs.reader.Held.go_on.Goals as goal

abbrev Gains_of : List ℕ → Bool → Gained → Type 0
Gains_of text cut gained = Gains text cut (Ok gained)

pub returns-in-Ok-Whole : goal.returns-in-Ok-Whole
returns-in-Ok-Whole c =
    let same : c.as_slice.result.now ≡ c.args.self.now.kept.items ++ c.args.piece.now =
    c.as_slice.ensures.value ∙ c.in_ok-extend_from_slice.ensures.items in
    let gains = subst (Gains_of c.as_slice.result.now c.args.cut) c.in-Ok-Whole.field-0-is c.in-Ok-Whole.ensures in
    ended-late c.args.self.now c.args.piece.now c.in-Ok-Whole.end
    (record { before = c.args.self.now.before; kept = c.extend_from_slice.new.self; pass = c.args.self.now.pass }) gains.0
    (subst (λ t. IsWhole t gains.0 c.in-Ok-Whole.end) same gains.1)
    c.requires.held.begun c.requires.some c.in_ok-extend_from_slice.ensures.items refl refl
