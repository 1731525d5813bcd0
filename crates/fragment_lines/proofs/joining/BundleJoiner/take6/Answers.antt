use Rattle.fragment_lines.proofs.JoinLemmas.{join-read6, join-unread6, took-read, unread-none}
use Rattle.fragment_lines.proofs.joining.BundleJoiner.take6.Goals as goal

pub returns-in_ok-add-in-Ok-clause-said : goal.returns-in_ok-add-in-Ok-clause-said
returns-in_ok-add-in-Ok-clause-said c =
    join-read6 c.args.self.now.joins c.args.bundle c.in-Ok.full c.in_ok-add-in-Ok.field-0 c.add.new.self _ _ c.write_joined6.result
    (rw c.in-Ok.is at c.in_ok-full.ensures.exact) c.in_ok-add-in-Ok.ensures.answer c.in_ok-add-in-Ok.ensures.after c.write_joined6.ensures

pub returns-in-Err-clause-said : goal.returns-in-Err-clause-said
returns-in-Err-clause-said c =
    join-unread6 c.args.self.now.joins c.args.bundle _ c.in-Err.cause (rw c.in-Err.is at c.in_ok-full.ensures.exact)

pub returns-in_ok-add-in-Ok-clause-taken : goal.returns-in_ok-add-in-Ok-clause-taken
returns-in_ok-add-in-Ok-clause-taken c =
    took-read c.write_joined6.result _ _ c.in-Ok.full c.args.self.now.joins c.add.new.self
    (rw c.in-Ok.is at c.in_ok-full.ensures.exact) c.in_ok-add-in-Ok.ensures.after

pub returns-in-Err-clause-taken : goal.returns-in-Err-clause-taken
returns-in-Err-clause-taken c = λ none. unread-none _ c.in-Err.cause (rw c.in-Err.is at c.in_ok-full.ensures.exact) none
