use Rattle.std.proofs.Common.{◌∙◌, sym}
use Rattle.ltp_receiver.proofs.KeptLemmas.{acknowledged-other, acknowledged-whole, acknowledged-part}
use Rattle.ltp_receiver.proofs.kept.Kept.acknowledged.Goals as goal

pub returns-then-not-awaits : goal.returns-then-not-awaits
returns-then-not-awaits c = acknowledged-other _ c.args.serial (sym c.awaits.ensures ∙ c.if-not-awaits.true)

pub returns-then-is_claimed : goal.returns-then-is_claimed
returns-then-is_claimed c =
    acknowledged-whole _ c.args.serial (sym c.awaits.ensures ∙ c.if-not-awaits.false) (sym c.is_claimed.ensures ∙ c.if-is_claimed.true)

pub returns : goal.returns
returns c =
    acknowledged-part _ c.args.serial (sym c.awaits.ensures ∙ c.if-not-awaits.false) (sym c.is_claimed.ensures ∙ c.if-is_claimed.false)
