-- Each way out of the loop, by the step that it is.
use Rattle.std.proofs.Common.{ℕ, ◌+◌, arith, [], ◌∷◌, length-append, ap, ◌∙◌}
use Rattle.std.proofs.lemmas.Bool.{eq-eqb, ne_eqb}
use Rattle.wire_fields.specs.Reading.{read}
use Rattle.wire_fields.proofs.FrontLemmas.{gives-fault}
use Rattle.bundle7.specs.Cause.{refusal, refused}
use Rattle.bundle7.specs.Table.{blocks}
use Rattle.bundle7.specs.declared.seen.Seen.{Seen}
use Rattle.bundle7.specs.Seen.{seen_with}
use Rattle.bundle7.proofs.JudgingLemmas.{seen-more}
use Rattle.bundle7.proofs.BlocksLemmas.{blocks-step, blocks-last, blocks-fails, blocks-end, blocks-none}
use Rattle.bundle7.proofs.KnownLemmas.{knows-next, knows-last}
use Rattle.bundle7.proofs.reading.blocks_at.Goals as goal

pub block_at-requires-clause-knows : goal.block_at-requires-clause-knows
block_at-requires-clause-knows c =
    knows-next c.args.checks c.args.fragment c.args.text.now c.args.most c.extensions.i c.extensions.exts.items c.extensions.seen c.extensions.next
    (read (blocks c.args.fragment c.args.most []) c.args.text.now c.args.at) c.extensions-test.true c.extensions.invariant.shows
    c.extensions.invariant.rest c.requires.knows

pub block_at-requires-2-clause-knows : goal.block_at-requires-2-clause-knows
block_at-requires-2-clause-knows c =
    knows-last c.args.checks c.args.fragment c.args.text.now c.args.most c.extensions.i c.extensions.exts.items c.extensions.seen c.extensions.next
    (read (blocks c.args.fragment c.args.most []) c.args.text.now c.args.at) c.extensions-test.false c.extensions.invariant.shows
    c.extensions.invariant.rest c.requires.knows

pub returns-in_err-lent-clause-exact : goal.returns-in_err-lent-clause-exact
returns-in_err-lent-clause-exact c =
    gives-fault (λ b. (b.0.items, b.1)) refusal c.from_residual.result _ (read (blocks c.args.fragment c.args.most []) c.args.text.now c.args.at)
    c.from_residual.ensures.1
    (blocks-fails c.args.fragment c.args.text.now c.args.most c.extensions.i c.extensions.exts.items c.extensions.next (refused c.in_err-lent.field-0.0)
    (read (blocks c.args.fragment c.args.most []) c.args.text.now c.args.at) c.extensions-test.true (rw c.extensions.invariant.shows at c.in_err-lent.ensures.exact) c.extensions.invariant.rest)

pub returns-then-block-eq-PAYLOAD-clause-exact : goal.returns-then-block-eq-PAYLOAD-clause-exact
returns-then-block-eq-PAYLOAD-clause-exact c =
    blocks-last c.args.fragment c.args.text.now c.args.most c.extensions.i c.extensions.exts.items c.in_ok-block.block c.extensions.next c.in_ok-lent.after
    (read (blocks c.args.fragment c.args.most []) c.args.text.now c.args.at) c.extensions-test.true
    (rw (c.in_ok-block.ensures) (rw c.extensions.invariant.shows at c.in_ok-lent.ensures.exact))
    (eq-eqb c.in_ok-block.block.kind 1 c.if-block-eq-PAYLOAD.true) c.extensions.invariant.rest

pub extensions-preserved : goal.extensions-preserved
extensions-preserved c = record {
  place = record { behind = omega (arith, c.extensions.invariant.place.behind, c.in_ok-lent.ensures.within.behind); within = c.in_ok-lent.ensures.within.within };
  shows = rw c.in_ok-push.ensures.items
      (c.push.ensures ∙ ap (λ (s : Seen). seen_with s c.in_ok-block.block.kind c.in_ok-block.block.number) c.extensions.invariant.shows
      ∙ seen-more c.extensions.exts.items c.in_ok-block.block);
  count = rw c.in_ok-push.ensures.items
      (length-append c.extensions.exts.items (c.in_ok-block.block ∷ []) ∙ ap (λ (k : ℕ). k + 1) c.extensions.invariant.count);
  rest = rw c.in_ok-push.ensures.items
      (blocks-step c.args.fragment c.args.text.now c.args.most c.extensions.i c.extensions.exts.items c.in_ok-block.block c.extensions.next c.in_ok-lent.after
      (read (blocks c.args.fragment c.args.most []) c.args.text.now c.args.at) c.extensions-test.true
      (rw (c.in_ok-block.ensures) (rw c.extensions.invariant.shows at c.in_ok-lent.ensures.exact))
      (ne_eqb c.in_ok-block.block.kind 1 c.if-block-eq-PAYLOAD.false) c.extensions.invariant.rest);
}

pub returns-in_err-lent-2-clause-exact : goal.returns-in_err-lent-2-clause-exact
returns-in_err-lent-2-clause-exact c =
    gives-fault (λ b. (b.0.items, b.1)) refusal c.from_residual-in_err-lent-2.result _ (read (blocks c.args.fragment c.args.most []) c.args.text.now c.args.at)
    c.from_residual-in_err-lent-2.ensures.1
    (blocks-none c.args.fragment c.args.text.now c.args.most c.extensions.i c.extensions.exts.items c.extensions.next (refused c.in_err-lent-2.field-0.0)
    (read (blocks c.args.fragment c.args.most []) c.args.text.now c.args.at) c.extensions-test.false (rw c.extensions.invariant.shows at c.in_err-lent-2.ensures.exact) c.extensions.invariant.rest)

pub returns-clause-exact : goal.returns-clause-exact
returns-clause-exact c =
    blocks-end c.args.fragment c.args.text.now c.args.most c.extensions.i c.extensions.exts.items c.in_ok-owned.field-0 c.extensions.next c.in_ok-lent-2.end
    (read (blocks c.args.fragment c.args.most []) c.args.text.now c.args.at) c.extensions-test.false
    (rw (c.in_ok-owned.ensures) (rw c.extensions.invariant.shows at c.in_ok-lent-2.ensures.exact))
    c.extensions.invariant.rest
