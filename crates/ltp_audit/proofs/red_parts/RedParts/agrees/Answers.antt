use Rattle.std.proofs.Common.{sym, ◌∙◌, arith}
use Rattle.ltp_audit.specs.Pages.{octet_at}
use Rattle.ltp_audit.proofs.RedPartLemmas.{agrees-not, agrees-more, parts-of}
use Rattle.ltp_audit.proofs.red_parts.RedParts.agrees.Goals as goal

pub returns-then-not-agrees_on_page : goal.returns-then-not-agrees_on_page
returns-then-not-agrees_on_page c =
    agrees-not (octet_at c.args.self.now c.args.name.originator c.args.name.number) c.comparing.at _ _ _ _
    (parts-of _ _ _ _ c.split_at.ensures.front c.split_at.ensures.back)
    (sym c.agrees_on_page.ensures ∙ c.if-not-agrees_on_page.true) c.comparing.invariant.1

pub comparing-preserved : goal.comparing-preserved
comparing-preserved c = (
  omega (arith, c.comparing.invariant.0, c.split_at.ensures.front_len, c.split_at.ensures.back_len),
  agrees-more (octet_at c.args.self.now c.args.name.originator c.args.name.number) c.comparing.at _ _ _ _
      (parts-of _ _ _ _ c.split_at.ensures.front c.split_at.ensures.back)
      (sym c.agrees_on_page.ensures ∙ c.if-not-agrees_on_page.false) c.comparing.invariant.1,
)
