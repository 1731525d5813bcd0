use Rattle.ltp_audit.proofs.RedPartLemmas.{lays-page}
use Rattle.ltp_audit.proofs.red_parts.RedParts.lay_on_page.Goals as goal

pub returns-clause-octets : goal.returns-clause-octets
returns-clause-octets c = lays-page c.args.self.now _ c.args.name.originator c.args.name.number c.args.at c.args.part.now
    c.page_or_empty-page.result c.with-page.result c.requires c.page_or_empty-page.ensures c.with-page.ensures
    c.in_ok-insert.ensures.updates.0
