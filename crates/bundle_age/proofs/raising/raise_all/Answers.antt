use Rattle.std.proofs.Common.{ap, ◌∙◌, get_or, set}
use Rattle.translate.proofs.MapLemmas.{become-next, become-more, become-all}
use Rattle.bundle_age.specs.Raised.{raised_ext}
use Rattle.bundle_age.proofs.raising.raise_all.Goals as goal

-- the block at the index becomes what it is to become
pub raising-preserved : goal.raising-preserved
raising-preserved c =
    let at = c.raising.ext-index in
    let item = c.ext-item.result in
    let each = raised_ext c.args.stay in
    let next = ap (λ exts. get_or exts at item) c.raising.invariant ∙ become-next each c.args.exts.now at item c.raising-test.true in
    ap (λ exts. set exts at c.raise.new.ext) c.raising.invariant
    ∙ become-more each c.args.exts.now at c.raise.new.ext item c.raising-test.true (c.in_ok-raise.ensures ∙ ap each next)

pub returns : goal.returns
returns c = c.raising.invariant ∙ become-all (raised_ext c.args.stay) c.args.exts.now c.raising.ext-index c.raising-test.false
