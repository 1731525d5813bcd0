use Rattle.fragment_lines.proofs.JoinLemmas.{join-none7}
use Rattle.fragment_lines.proofs.joining.BundleJoiner.join7.Goals as goal

pub returns-in-None-clause-said : goal.returns-in-None-clause-said
returns-in-None-clause-said c =
    join-none7 c.args.self.now.joins c.args.bundle c.refusal7.result _ _ c.write_no_fragment.result
    c.in-None.is c.refusal7.ensures.exact c.write_no_fragment.ensures.said
