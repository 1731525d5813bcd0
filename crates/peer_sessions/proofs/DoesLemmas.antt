-- What the parts did is what the definition does.

use Rattle.std.proofs.Common.{◌≡◌, ℕ, false, [], None, Result, ◌∙◌, ap}
use Rattle.ltp_segment.specs.declared.fault.SegmentCause.{SegmentCause}
use Rattle.ltp_segment.specs.Values.{SegmentValue}
use Rattle.ltp_session.specs.Engine.{tick_step}
use Rattle.ltp_engine.specs.Effects.{effects_of}
use Rattle.peer_sessions.specs.declared.sessions.Told.{Told}
use Rattle.peer_sessions.specs.Sessions.{Sessions, left_by, stale, passes, hears, hears_after, ticks}
use Rattle.peer_sessions.specs.Views.{PeerSessionsValue}
use Rattle.peer_sessions.specs.Ties.{Does}

pub does-tick : (old new : PeerSessionsValue) (first : Sessions) (now : ℕ) (told : Told) → new.spent ≡ false → new.keys ≡ old.keys → first ≡ passes old.keys now old.sessions
    → (told.gone).items ≡ stale old.keys now old.sessions → told.forgotten ≡ None → told.effects ≡ effects_of (tick_step (old.keys).party first.engine now).effects
    → new.sessions ≡ left_by (tick_step (old.keys).party first.engine now).engine first.memory first.moments
    → Does old new (ticks old.keys old.sessions now) told
unfolding ticks
does-tick old new first now told whole keys passed gone forgotten effects sessions = record {
  whole = whole;
  keys = keys;
  sessions = sessions ∙ ap (λ (s : Sessions). left_by (tick_step (old.keys).party s.engine now).engine s.memory s.moments) passed;
  gone = gone;
  forgotten = forgotten;
  effects = effects ∙ ap (λ (s : Sessions). effects_of (tick_step (old.keys).party s.engine now).effects) passed;
}

pub does-hear : (old new : PeerSessionsValue) (first : Sessions) (read : Result SegmentValue (ℕ × SegmentCause)) (now : ℕ) (told : Told) → new.spent ≡ false → new.keys ≡ old.keys
    → first ≡ passes old.keys now old.sessions → (told.gone).items ≡ stale old.keys now old.sessions
    → told.forgotten ≡ (hears_after old.keys [] first read now).forgotten → told.effects ≡ effects_of (hears_after old.keys [] first read now).effects
    → new.sessions ≡ (hears_after old.keys [] first read now).sessions
    → Does old new (hears old.keys old.sessions read now) told
unfolding hears
does-hear old new first read now told whole keys passed gone forgotten effects sessions = record {
  whole = whole;
  keys = keys;
  sessions = sessions ∙ ap (λ (s : Sessions). (hears_after old.keys [] s read now).sessions) passed;
  gone = gone;
  forgotten = forgotten ∙ ap (λ (s : Sessions). (hears_after old.keys [] s read now).forgotten) passed;
  effects = effects ∙ ap (λ (s : Sessions). effects_of (hears_after old.keys [] s read now).effects) passed;
}
