use Rattle.std.proofs.Common.{refl, sym, ◌∙◌, Some, None}
use Rattle.ltp_audit.specs.Pages.{cell_on}
use Rattle.ltp_audit.proofs.RedPartLemmas.{page-agrees, agrees-none}
use Rattle.ltp_audit.proofs.red_parts.RedParts.agrees_on_page.Goals as goal

pub returns-in-Some : goal.returns-in-Some
returns-in-Some c = c.agrees.ensures
    ∙ sym (page-agrees c.args.self.now c.args.name.originator c.args.name.number c.args.at c.args.part.now
    (Some c.in-Some.page) (sym c.in-Some.is ∙ c.page.ensures) c.requires)

pub returns-in-None : goal.returns-in-None
returns-in-None c =
    sym (page-agrees c.args.self.now c.args.name.originator c.args.name.number c.args.at c.args.part.now
    None (sym c.in-None.is ∙ c.page.ensures) c.requires
    ∙ agrees-none (cell_on None) _ c.args.part.now (λ k. refl))
