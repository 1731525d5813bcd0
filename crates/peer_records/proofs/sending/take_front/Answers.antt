use Rattle.std.proofs.Common.{ap, ◌∙◌, drop}
use Rattle.std.proofs.lemmas.List.{drop-drop}
use Rattle.peer_records.proofs.SessionLemmas.{taken-more}
use Rattle.peer_records.proofs.sending.take_front.Goals as goal

pub taking-preserved : goal.taking-preserved
taking-preserved c = record {
  taken = taken-more c.taking.counter c.args.ids.now.items c.args.waiting.now.items c.taking.waiting.items c.taking.ids.items c.take_one.new.ids.items
      c.taking.invariant.left c.taking.invariant.taken c.in_ok-take_one.ensures.taken;
  left = c.in_ok-take_one.ensures.left ∙ (ap (drop 1) c.taking.invariant.left ∙ drop-drop 1 c.taking.counter c.args.waiting.now.items);
}
