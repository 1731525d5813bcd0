use Rattle.status_reports.proofs.SpellLemmas6.{report6-spells}
use Rattle.status_reports.proofs.SpellLemmas7.{report7-spells}
use Rattle.status_reports.proofs.SpelledLemmas6.{report6-spelled}
use Rattle.status_reports.proofs.SpelledLemmas7.{report7-spelled}
use Rattle.status_reports.proofs.laws.one_spelling.Goals as goal

pub returns-clause-old : goal.returns-clause-old
returns-clause-old c = report6-spells

pub returns-clause-old_only : goal.returns-clause-old_only
returns-clause-old_only c = λ body report octets spells.
    let is = report6-spelled body report octets spells in (is.legal, is.octets)

pub returns-clause-new : goal.returns-clause-new
returns-clause-new c = report7-spells

pub returns-clause-new_only : goal.returns-clause-new_only
returns-clause-new_only c = λ body report spells.
    let is = report7-spelled body report spells in (is.legal, is.octets)
