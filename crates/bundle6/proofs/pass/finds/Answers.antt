-- A text that was missed names nothing.
use Rattle.std.proofs.Common.{sym, ap, inl, inr}
use Rattle.std.specs.Prelude.{is_some}
use Rattle.bundle6.proofs.NamesLemmas.{resolve-misses}
use Rattle.bundle6.proofs.pass.finds.Goals as goal

pub returns-in_default : goal.returns-in_default
returns-in_default c =
    sym (ap is_some (resolve-misses c.args.dictionary.now c.args.pair c.requires
    (inl c.in_default.ensures)))

pub returns-in_default-text_in : goal.returns-in_default-text_in
returns-in_default-text_in c =
    sym (ap is_some (resolve-misses c.args.dictionary.now c.args.pair c.requires
    (inr c.in_default-text_in.ensures)))
