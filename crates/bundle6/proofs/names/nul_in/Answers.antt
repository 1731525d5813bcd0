use Rattle.std.proofs.Common.{arith, sym, ◌∙◌}
use Rattle.bundle6.proofs.NamesLemmas.{nul-near}
use Rattle.bundle6.proofs.names.nul_in.Goals as goal

pub returns-in-Some : goal.returns-in-Some
returns-in-Some c =
    nul-near c.args.text.now _ c.in-Some.end (omega (arith, c.min.ensures)) (sym c.near_nul.ensures ∙ c.in-Some.is)
