-- What a recorder keeps: its recording tells of its engine, and what went out breaks no rule.

use Rattle.std.proofs.Common.{◌≡◌, ◌≢◌, ℕ, ◌<◌, ◌≤◌, ◌^◌, false, List, [], ◌∷◌, ◌++◌, map, Result, Ok, Err, OnOk, refl, sym, ◌∙◌, ap, arith, subst}
use Rattle.wire_fields.specs.Reading.{IsOctets}
use Rattle.ltp_segment.specs.Policy.{PolicyValue}
use Rattle.ltp_segment.specs.Reading.{segment_of}
use Rattle.ltp_session.specs.Engine.{Party, Engine, EngineStep, SubmitFault, starts, datagram_step, submits, submit_step, tick_step}
use Rattle.ltp_engine.specs.declared.effects.Effects.{Effects}
use Rattle.ltp_engine.specs.declared.refused.SubmitRefused.{SubmitRefused}
use Rattle.ltp_engine.specs.declared.refused.SubmitRefused.TheVariants as causes
use Rattle.ltp_engine.specs.Effects.{effects_of}
use Rattle.ltp_engine.specs.Values.{EngineValue}
use Rattle.ltp_engine.specs.Shows.{Shows}
use Rattle.ltp_engine.specs.Steps.{new_engine, Steps, Sends as SendsBlock, IsSent, Submits}
use Rattle.ltp_audit.specs.declared.entry.Entry.{Entry}
use Rattle.ltp_audit.specs.Recording.{came, went, outs_of, ran_out}
use Rattle.ltp_audit.specs.Keeping.{followed_by, KeepsRules}
use Rattle.ltp_audit.specs.Knows.{IsParty, Knows, Records}
use Rattle.ltp_audit.proofs.KnowsLemmas.{sent, followed-append, rules-append}
use Rattle.ltp_audit.proofs.ToldLemmas.{segment-told}
use Rattle.ltp_audit.proofs.ComingLemmas.{knows-starts}
use Rattle.ltp_audit.proofs.EngineSays.{GoesWell, datagram-well, submit-well, tick-well}

-- a recorder at its beginning
pub records-new : (own peer first : ℕ) (policy : PolicyValue) → own ≢ peer → own < 2 ^ 64 → peer < 2 ^ 64 → first ≤ 2 ^ 32
    → Shows (new_engine own peer first policy) (starts (new_engine own peer first policy).party)
    → Records (new_engine own peer first policy) []
records-new own peer first policy apart own_fits peer_fits fits shows = record {
  party = record { apart = apart; own = own_fits; peer = peer_fits; most = omega arith };
  engine = starts (new_engine own peer first policy).party;
  shows = shows;
  rules = tt;
  knows = knows-starts (new_engine own peer first policy).party fits;
}

-- a step that goes well after some entries
more-records : (v v' : EngineValue) (entries more after out : List Entry) (step : EngineStep) → v'.party ≡ v.party → Shows v' step.engine
    → IsParty v.party → KeepsRules v.party.own v.party.peer [] (entries ++ more)
    → GoesWell v.party (followed_by [] (entries ++ more)) step → out ≡ sent step.effects.out → after ≡ (entries ++ more) ++ out → Records v' after
more-records v v' entries more after out step same shows party kept goes is grew = record {
  party = subst IsParty (sym same) party;
  engine = step.engine;
  shows = shows;
  rules =
      subst (λ (p : Party). KeepsRules p.own p.peer [] after) (sym same)
      (subst (KeepsRules v.party.own v.party.peer []) (sym (grew ∙ ap (λ (es : List Entry). (entries ++ more) ++ es) is))
      (rules-append v.party.own v.party.peer [] (entries ++ more) (sent step.effects.out) kept goes.rules));
  knows =
      subst (λ (p : Party). Knows p step.engine (followed_by [] after)) (sym same)
      (subst (λ (es : List Entry). Knows v.party step.engine es)
      (sym (ap (followed_by []) (grew ∙ ap (λ (es : List Entry). (entries ++ more) ++ es) is)
      ∙ followed-append [] (entries ++ more) (sent step.effects.out))) goes.knows);
}

out-is : (effects : Effects) (step : EngineStep) → effects ≡ effects_of step.effects → map went effects.out ≡ sent step.effects.out
out-is effects step is = ap (λ (e : Effects). map went e.out) is

pub records-arrive : (v v' : EngineValue) (entries after : List Entry) (datagram : List ℕ) (now : ℕ) (effects : Effects) → Records v entries
    → IsOctets datagram → Steps v v' (λ e. datagram_step v.party e (segment_of datagram) now) effects
    → after ≡ (entries ++ came datagram ∷ []) ++ map went effects.out → Records v' after
records-arrive v v' entries after datagram now effects records fits steps grew =
    let e : Engine = records.engine in
    let step : EngineStep = datagram_step v.party e (segment_of datagram) now in
    more-records v v' entries (came datagram ∷ []) after (map went effects.out) step steps.party (steps.next e records.shows) records.party
    (rules-append v.party.own v.party.peer [] entries (came datagram ∷ []) records.rules ((λ out. absurd (cc)), tt))
    (subst (λ (h : List Entry). GoesWell v.party h step) (sym (followed-append [] entries (came datagram ∷ [])))
    (datagram-well v.party e datagram (followed_by [] entries) now records.party records.knows (λ s is. segment-told datagram s fits is)))
    (out-is effects step (steps.effects_are e records.shows)) grew

none-more : (entries : List Entry) → entries ++ [] ≡ entries
none-more [] = refl
none-more (x ∷ xs) = ap (λ (es : List Entry). x ∷ es) (none-more xs)

pub records-tick : (v v' : EngineValue) (entries after : List Entry) (now : ℕ) (effects : Effects) → Records v entries
    → Steps v v' (λ e. tick_step v.party e now) effects → after ≡ entries ++ map went effects.out → Records v' after
records-tick v v' entries after now effects records steps grew =
    let e : Engine = records.engine in
    let step : EngineStep = tick_step v.party e now in
    let same = sym (none-more entries) in
    more-records v v' entries [] after (map went effects.out) step steps.party (steps.next e records.shows) records.party
    (subst (KeepsRules v.party.own v.party.peer []) same records.rules)
    (subst (λ (es : List Entry). GoesWell v.party (followed_by [] es) step) same (tick-well v.party e now (followed_by [] entries) records.party records.knows))
    (out-is effects step (steps.effects_are e records.shows)) (grew ∙ ap (λ (es : List Entry). es ++ map went effects.out) same)

pub records-submit : (v v' : EngineValue) (entries after : List Entry) (block : List ℕ) (red now : ℕ) (effects : Effects) → Records v entries
    → SendsBlock v v' (λ e. submit_step v.party e (submits v.party e block red now)) effects
    → after ≡ entries ++ map went effects.out → Records v' after
records-submit v v' entries after block red now effects records sends grew =
    by (submit_step v.party e (submits v.party e block red now)) refl (sends.next e records.shows)
  where
    e : Engine
    e = records.engine

    by : (r : Result EngineStep SubmitFault) → submit_step v.party records.engine (submits v.party records.engine block red now) ≡ r → IsSent v' effects r → Records v' after
    by (Err fault) is went_out = absurd went_out
    by (Ok step) is went_out =
        let same = sym (none-more entries) in
        more-records v v' entries [] after (map went effects.out) step sends.party went_out.0 records.party
        (subst (KeepsRules v.party.own v.party.peer []) same records.rules)
        (subst (λ (es : List Entry). GoesWell v.party (followed_by [] es) step) same
        (submit-well v.party records.engine block red now (followed_by [] entries) step records.party records.knows is))
        (out-is effects step went_out.1) (grew ∙ ap (λ (es : List Entry). es ++ map went effects.out) same)

-- what a recorder that isn't spent keeps
abbrev pub IsKept : EngineValue → List Entry → Type 0
IsKept v entries = (v.spent ≡ false) × Records v entries

pub kept-new : (v : EngineValue) (entries : List Entry) (own peer first : ℕ) (policy : PolicyValue) → v ≡ new_engine own peer first policy
    → Shows v (starts v.party) → entries ≡ [] → own ≢ peer → own < 2 ^ 64 → peer < 2 ^ 64 → first ≤ 2 ^ 32 → IsKept v entries
kept-new v entries own peer first policy is shows none apart own_fits peer_fits fits = (
  ap (λ (x : EngineValue). x.spent) is,
  subst (λ (es : List Entry). Records v es) (sym none)
      (subst (λ (x : EngineValue). Records x []) (sym is)
      (records-new own peer first policy apart own_fits peer_fits fits (subst (λ (x : EngineValue). Shows x (starts x.party)) is shows))),
)

pub kept-arrive : (v v' : EngineValue) (entries after : List Entry) (datagram : List ℕ) (now : ℕ) (effects : Effects) → IsKept v entries
    → IsOctets datagram → Steps v v' (λ e. datagram_step v.party e (segment_of datagram) now) effects
    → after ≡ (entries ++ came datagram ∷ []) ++ map went effects.out → IsKept v' after
kept-arrive v v' entries after datagram now effects kept fits steps grew =
    (steps.whole, records-arrive v v' entries after datagram now effects kept.1 fits steps grew)

pub kept-tick : (v v' : EngineValue) (entries after : List Entry) (now : ℕ) (effects : Effects) → IsKept v entries
    → Steps v v' (λ e. tick_step v.party e now) effects → after ≡ entries ++ map went effects.out → IsKept v' after
kept-tick v v' entries after now effects kept steps grew =
    (steps.whole, records-tick v v' entries after now effects kept.1 steps grew)

-- a refusal leaves all as it was
unchanged : (v v' : EngineValue) (entries after : List Entry) → v' ≡ v → after ≡ entries ++ [] → IsKept v entries → IsKept v' after
unchanged v v' entries after same grew kept =
    subst (λ (x : EngineValue). IsKept x after) (sym same) (subst (λ (es : List Entry). IsKept v es) (sym (grew ∙ none-more entries)) kept)

pub kept-submit : (v v' : EngineValue) (entries after : List Entry) (block : List ℕ) (red now : ℕ) (submitted : Result Effects SubmitRefused)
    → IsKept v entries → Submits v v' (λ e. submit_step v.party e (submits v.party e block red now)) submitted
    → after ≡ entries ++ map went (outs_of submitted) → ran_out submitted ≡ false → IsKept v' after
kept-submit v v' entries after block red now (Ok effects) kept sends grew whole =
    (sends.whole, records-submit v v' entries after block red now effects kept.1 sends grew)
kept-submit v v' entries after block red now (Err causes.Memory) kept sends grew whole = absurd (cc)
kept-submit v v' entries after block red now (Err causes.Empty) kept sends grew whole = unchanged v v' entries after sends.0 grew kept
kept-submit v v' entries after block red now (Err causes.TooLarge) kept sends grew whole = unchanged v v' entries after sends.0 grew kept
kept-submit v v' entries after block red now (Err causes.NumbersSpent) kept sends grew whole = unchanged v v' entries after sends.0 grew kept
kept-submit v v' entries after block red now (Err causes.Busy) kept sends grew whole = unchanged v v' entries after sends.0 grew kept

pub submit-rules : (v v' : EngineValue) (entries after : List Entry) (block : List ℕ) (red now : ℕ) (submitted : Result Effects SubmitRefused)
    → IsKept v entries → Submits v v' (λ e. submit_step v.party e (submits v.party e block red now)) submitted
    → after ≡ entries ++ map went (outs_of submitted) → OnOk submitted (KeepsRules v'.party.own v'.party.peer [] after)
submit-rules v v' entries after block red now (Ok effects) kept sends grew =
    (kept-submit v v' entries after block red now (Ok effects) kept sends grew refl).1.rules
submit-rules v v' entries after block red now (Err refused) kept sends grew = tt
