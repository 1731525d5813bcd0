use Rattle.std.proofs.Common.{◌≡◌, ◌==◌, ◌∷◌, ◌++◌, [], ℕ, List, not, rules, subst, sym, ap, ◌∙◌}
use Rattle.std.proofs.lemmas.Fn.{filter_same}
use Rattle.ltp_session.specs.Table.{without}
use Rattle.peer_sessions.proofs.StepLemmas.{without-filter}
use Rattle.peer_sessions.proofs.moments.Moments.touch.Goals as goal

pub returns : goal.returns
returns c =
    let kept : c.retain.new.self.items ≡ without c.args.n c.args.self.now = subst (λ moments. c.retain.new.self.items ≡ without c.args.n moments) c.self.view_is
    (filter_same _ (λ (entry : ℕ × ℕ). not (entry.0 == c.args.n)) _ (λ x b f' k. search rules) _ _ c.retain.ensures.filtered ∙ sym (without-filter c.args.n c.self.inside.touches.items)) in
    let added : c.push.new.self.items ≡ c.retain.new.self.items ++ (c.args.n, c.args.now) ∷ [] = search rules in
    added ∙ ap (λ (moments : List (ℕ × ℕ)). moments ++ (c.args.n, c.args.now) ∷ []) kept
