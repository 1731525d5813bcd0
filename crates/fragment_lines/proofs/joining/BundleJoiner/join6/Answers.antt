use Rattle.fragment_lines.proofs.JoinLemmas.{join-none6}
use Rattle.fragment_lines.proofs.joining.BundleJoiner.join6.Goals as goal

pub returns-in-None-clause-said : goal.returns-in-None-clause-said
returns-in-None-clause-said c =
    join-none6 c.args.self.now.joins c.args.bundle c.refusal6.result _ _ c.write_no_fragment.result
    c.in-None.is c.refusal6.ensures.exact c.write_no_fragment.ensures.said
