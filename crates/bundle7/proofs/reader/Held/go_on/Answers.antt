-- What the pass tells of the octets kept and the piece.
use Rattle.std.proofs.Common.{◌≡◌, ◌++◌, ◌∙◌, Ok, Err, refl, subst}
use Rattle.bundle7.specs.Holding.{Gains}
use Rattle.wire_fields.proofs.StreamLemmas.{take-front}
use Rattle.bundle7.proofs.ReaderLemmas.{passed-late, turned-late}
use Rattle.bundle7.proofs.reader.Held.go_on.Goals as goal

pub returns-in-Ok : goal.returns-in-Ok
returns-in-Ok c =
    let same : c.as_slice.result.now ≡ c.args.self.now.kept.items ++ c.args.piece.now =
    c.as_slice.ensures.value ∙ c.in_ok-extend_from_slice.ensures.items in
    passed-late c.args.self.now c.args.piece.now c.args.cut _ c.in-Ok.end c.requires.held c.requires.some c.requires.counted
    c.in_ok-extend_from_slice.ensures.items refl
    (subst (λ t. Gains t c.args.cut (Ok c.in-Ok.end) c.look.new.pass) same c.in-Ok.ensures)

pub returns-in-Err : goal.returns-in-Err
returns-in-Err c =
    let same : c.as_slice.result.now ≡ c.args.self.now.kept.items ++ c.args.piece.now =
    c.as_slice.ensures.value ∙ c.in_ok-extend_from_slice.ensures.items in
    turned-late c.args.self.now c.args.piece.now c.args.cut _ c.in-Err.refused c.after.result c.into.result c.requires.held
    (rw (c.truncate.ensures.items, c.as_slice-held.ensures.value, c.in_ok-extend_from_slice.ensures.items)
    (take-front c.args.self.now.kept.items c.args.piece.now))
    refl (subst (λ t. Gains t c.args.cut (Err c.in-Err.refused) c.look.new.pass) same c.in-Err.ensures)
    c.after.ensures c.into.ensures
