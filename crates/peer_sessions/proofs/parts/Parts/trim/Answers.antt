use Rattle.std.proofs.Common.{◌≡◌, rules, sym, ◌∙◌, ap, subst}
use Rattle.ltp_session.specs.Step.{ends}
use Rattle.ltp_session.specs.Engine.{with_receiver}
use Rattle.peer_sessions.specs.Sessions.{Sessions, left_by, closes, to_trim}
use Rattle.peer_sessions.specs.Views.{face_keys}
use Rattle.peer_sessions.specs.Ties.{state_of, keys_in}
use Rattle.peer_sessions.proofs.TrimLemmas.{TrimsOne, trims-one, trims-fewer, trims-end, trim-gone, trim-goes-on, closes-none}
use Rattle.peer_sessions.proofs.parts.Parts.trim.Goals as goal

pub trimming-smaller : goal.trimming-smaller
trimming-smaller c =
    let left = subst (λ (s : Sessions). state_of c.let_go.new.self ≡ left_by (with_receiver s.engine c.in-Some.n ends) s.memory s.moments) (c.in-Some.ensures.same).is (c.in_ok-let_go.ensures).is in
    trims-fewer (state_of c.trimming.self) (state_of c.let_go.new.self) c.in-Some.n c.in-Some.ensures.kept left

pub trimming-preserved : goal.trimming-preserved
trimming-preserved c =
    let left = subst (λ (s : Sessions). state_of c.let_go.new.self ≡ left_by (with_receiver s.engine c.in-Some.n ends) s.memory s.moments) (c.in-Some.ensures.same).is (c.in_ok-let_go.ensures).is in
    let one : TrimsOne (keys_in c.trimming.self) (state_of c.trimming.self) (state_of c.let_go.new.self) c.in-Some.n =
    trims-one (keys_in c.trimming.self) (state_of c.trimming.self) (state_of c.let_go.new.self) c.in-Some.n c.in-Some.ensures.first c.in-Some.ensures.once left in
    let keys = (c.in_ok-let_go.ensures).keys ∙ (c.in-Some.ensures.same).keys in (
      (c.in_ok-let_go.ensures).whole,
      keys ∙ c.trimming.invariant.1,
      trim-gone (keys_in c.trimming.self) (keys_in c.let_go.new.self) (state_of c.trimming.self) (state_of c.let_go.new.self) c.in-Some.n c.trimming.gone.items c.push.new.self.items
          (to_trim (keys_in c.args.self.now) (state_of c.args.self.now)) (ap face_keys keys) one (search rules) c.trimming.invariant.2,
      trim-goes-on (keys_in c.trimming.self) (keys_in c.let_go.new.self) (state_of c.trimming.self) (state_of c.let_go.new.self)
          (closes (to_trim (keys_in c.args.self.now) (state_of c.args.self.now)) (state_of c.args.self.now)) c.in-Some.n (ap face_keys keys) one c.trimming.invariant.3,
    )

pub returns-clause-after : goal.returns-clause-after
returns-clause-after c =
    let none = trims-end (keys_in c.trimming.self) (state_of c.trimming.self) c.in_default.ensures.first in
    record {
      whole = (c.in_default.ensures.same).whole;
      keys = (c.in_default.ensures.same).keys ∙ c.trimming.invariant.1;
      is = (c.in_default.ensures.same).is ∙ (sym (closes-none (to_trim (keys_in c.trimming.self) (state_of c.trimming.self)) (state_of c.trimming.self) none) ∙ c.trimming.invariant.3);
    }
