use Rattle.std.proofs.Common.{rules, false, refl, arith}
use Rattle.ltp_engine.specs.Ties.{party_of, value_of}
use Rattle.ltp_engine.proofs.BeginLemmas.{refuses-empty, refuses-large, refuses-spent, refuses-busy, submit-sent, submit-begins, submit-wanted}
use Rattle.ltp_engine.proofs.engine.Engine.submit.Goals as goal

pub returns-then-is_empty-clause-does : goal.returns-then-is_empty-clause-does
returns-then-is_empty-clause-does c = refuses-empty c.args.self.now c.args.block.now c.args.red c.args.now (search rules)

pub returns-then-block-gt-BLOCK_MAX-clause-does : goal.returns-then-block-gt-BLOCK_MAX-clause-does
returns-then-block-gt-BLOCK_MAX-clause-does c = refuses-large (value_of c.self.inside.spent c.self.inside.parts) c.args.self.now c.args.block.now c.args.red c.args.now c.self.view_is (search rules) (search rules)

pub returns-then-next-ge-NUMBERS-clause-does : goal.returns-then-next-ge-NUMBERS-clause-does
returns-then-next-ge-NUMBERS-clause-does c = refuses-spent (value_of c.self.inside.spent c.self.inside.parts) c.args.self.now c.args.block.now c.args.red c.args.now c.self.view_is (search rules)
    c.if-block-gt-BLOCK_MAX.false c.if-next-ge-NUMBERS.true

pub returns-then-sending-most-clause-does : goal.returns-then-sending-most-clause-does
returns-then-sending-most-clause-does c = refuses-busy (value_of c.self.inside.spent c.self.inside.parts) c.args.self.now c.args.block.now c.args.red c.args.now c.self.view_is (search rules)
    c.if-block-gt-BLOCK_MAX.false c.if-next-ge-NUMBERS.false (omega (arith, c.if-sending-most.true, c.sending-sending.ensures))

pub returns-clause-does : goal.returns-clause-does
returns-clause-does c = submit-sent c.self.inside.spent (party_of c.self.inside.parts) c.self.inside.parts.next c.self.inside.parts.senders.entries c.self.inside.parts.inbound c.args.self.now (value_of false c.begin.new.self)
    c.args.block.now c.args.red c.args.now c.in_ok-effects.effects c.self.view_is (search rules)
    c.if-block-gt-BLOCK_MAX.false c.if-next-ge-NUMBERS.false (omega (arith, c.if-sending-most.false, c.sending-sending.ensures)) c.in_ok-effects.ensures.done

pub returns-in_err-effects-clause-does : goal.returns-in_err-effects-clause-does
returns-in_err-effects-clause-does c = submit-wanted c.args.self.now _ _ c.from_residual.result c.from_residual.ensures refl
    (submit-begins (value_of c.self.inside.spent c.self.inside.parts) c.args.self.now c.args.block.now c.args.red c.args.now c.self.view_is (search rules)
    c.if-block-gt-BLOCK_MAX.false c.if-next-ge-NUMBERS.false (omega (arith, c.if-sending-most.false, c.sending-sending.ensures)))
