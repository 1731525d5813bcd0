use Rattle.std.proofs.Common.{refl, sym, subst}
use Rattle.gate_cases.specs.declared.face.Face.TheVariants as faces
use Rattle.path_world.specs.Ties.{NodeSubmitsAt}
use Rattle.path_world.proofs.node.submit_at.Goals as goal

pub returns-in-Old : goal.returns-in-Old
returns-in-Old c =
    subst (λ end. NodeSubmitsAt end (c.args.old.now, c.args.new.now) (c.submit.new.self, c.args.new.now) c.args.bundle.now c.args.now c.submit.result) (sym c.in-Old.is)
    (record { other = refl; submits = c.submit.ensures faces.Old c.requires.old })

pub returns-in-New : goal.returns-in-New
returns-in-New c =
    subst (λ end. NodeSubmitsAt end (c.args.old.now, c.args.new.now) (c.args.old.now, c.submit-in-New.new.self) c.args.bundle.now c.args.now c.submit-in-New.result) (sym c.in-New.is)
    (record { other = refl; submits = c.submit-in-New.ensures faces.New c.requires.new })
