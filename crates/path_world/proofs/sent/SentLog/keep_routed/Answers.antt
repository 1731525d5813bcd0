use Rattle.std.proofs.Common.{[], ◌∷◌, sym, subst, rules}
use Rattle.std.proofs.lemmas.List.{map-append}
use Rattle.path_world.specs.Ties.{routed_from}
use Rattle.path_world.proofs.SentLemmas.{KeptSo, kept-none, kept-more}
use Rattle.path_world.proofs.sent.SentLog.keep_routed.Goals as goal

pub keeping-init : goal.keeping-init
keeping-init c = subst (KeptSo c.args.self.now c.args.self.now []) (sym c.new-told.ensures.items) (kept-none c.args.self.now)

pub keeping-preserved : goal.keeping-preserved
keeping-preserved c =
    kept-more c.args.self.now c.keeping.self c.keep.new.self _ _ (routed_from c.in-Some.routed) c.keeping.told.items c.push.new.self.items c.in_ok-keep.field-0
    c.keeping.invariant (search rules) (search rules) c.in_ok-push.ensures.items (map-append routed_from c.keeping.yielded (c.in-Some.routed ∷ []))
