use Rattle.std.proofs.Common.{refl, ◌∷◌, [], ◌≡◌, ◌+◌, ℕ, List, get_or, drop, subst, sym, ◌∙◌}
use Rattle.std.proofs.lemmas.List.{drop_all, drop_more}
use Rattle.peer_sessions.specs.Sessions.{closes}
use Rattle.peer_sessions.specs.Ties.{state_of}
use Rattle.peer_sessions.proofs.StepLemmas.{AreKept, Closing, closing-start, closing-more, closing-end}
use Rattle.peer_sessions.proofs.parts.Parts.let_go_all.Goals as goal

pub closing-init : goal.closing-init
closing-init c = (refl, (c.requires.whole).cells, (c.requires.whole).blocks, closing-start c.args.self.now.keys c.args.self.now.engine c.args.self.now.memory c.args.self.now.moments c.args.numbers.now (c.requires.whole).whole c.requires.kept c.requires.once)

pub let_go-requires-clause-whole : goal.let_go-requires-clause-whole
let_go-requires-clause-whole c = record { whole = (c.closing.invariant.3).whole; cells = c.closing.invariant.1; blocks = c.closing.invariant.2 }

pub let_go-requires-clause-kept : goal.let_go-requires-clause-kept
let_go-requires-clause-kept c = (subst (λ (ns : List ℕ). AreKept c.closing.self.engine.inbound.receivers ns) (drop_more c.args.numbers.now c.closing.n-index 0 c.closing-test.true) (c.closing.invariant.3).kept).0

pub closing-preserved : goal.closing-preserved
closing-preserved c =
    let s = c.in_ok-let_go.ensures in
    let all = closes c.args.numbers.now (state_of c.args.self.now) in
    let before = subst (λ (ns : List ℕ). Closing c.closing.self.keys c.closing.self.engine c.closing.self.memory c.closing.self.moments ns all) (drop_more c.args.numbers.now c.closing.n-index 0 c.closing-test.true) c.closing.invariant.3 in (
      s.keys ∙ c.closing.invariant.0,
      (s.whole).cells,
      (s.whole).blocks,
      closing-more c.let_go.new.self.keys c.closing.self.engine c.let_go.new.self.engine c.closing.self.memory c.let_go.new.self.memory c.closing.self.moments c.let_go.new.self.moments
          (get_or c.args.numbers.now c.closing.n-index 0) (drop (c.closing.n-index + 1) c.args.numbers.now) all
          (subst (λ k. Closing k c.closing.self.engine c.closing.self.memory c.closing.self.moments (get_or c.args.numbers.now c.closing.n-index 0 ∷ drop (c.closing.n-index + 1) c.args.numbers.now) all) (sym s.keys) before) (s.whole).whole s.is,
    )

pub returns : goal.returns
returns c =
    let none : drop c.closing.n-index c.args.numbers.now ≡ [] = drop_all c.closing.n-index c.args.numbers.now c.closing-test.false in
    record {
      whole = record { whole = (c.closing.invariant.3).whole; cells = c.closing.invariant.1; blocks = c.closing.invariant.2 };
      keys = c.closing.invariant.0;
      is = closing-end c.closing.self.keys c.closing.self.engine c.closing.self.memory c.closing.self.moments _
          (subst (λ (ns : List ℕ). Closing c.closing.self.keys c.closing.self.engine c.closing.self.memory c.closing.self.moments ns (closes c.args.numbers.now (state_of c.args.self.now))) none c.closing.invariant.3);
    }
