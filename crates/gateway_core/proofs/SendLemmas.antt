-- A block that a face has room for is sent; a report; and what is decided about a block.

use Rattle.std.proofs.Common.{◌≡◌, ℕ, ◌+◌, ◌-◌, ◌<◌, ◌≤◌, ◌^◌, Bool, true, false, ◌||◌, nat_lt, nat_le, ◌==◌, List, [], ◌∷◌, ◌++◌, length, take, get_or, Option, None, Some, Result, Ok, Err, IfOk, OnOk, ◌⊎◌, inl, inr, refl, sym, ◌∙◌, ap, arith, subst, if◌then◌else◌}
use Rattle.std.proofs.lemmas.Bool.Decides.{nat_tests}
use Rattle.std.proofs.lemmas.List.{take_more}
use Rattle.std.proofs.lemmas.List.Elements.{All-nil}
use Rattle.std.proofs.lemmas.Result.{IfOk-weaker}
use Rattle.std.specs.declared.alloc.AllocError.{AllocError}
use Rattle.std.specs.List.{All}
use Rattle.ltp_segment.specs.declared.session.TheConstants.{BLOCK_MAX}
use Rattle.ltp_session.specs.Step.{Change, stays, keeps, ends}
use Rattle.ltp_session.specs.Sender.{Sending, begin}
use Rattle.ltp_session.specs.Table.{put, without, settled}
use Rattle.ltp_session.specs.Engine.{Engine, EngineStep, SubmitFault, submits, submits_unless, submit_fault, submit_step}
use Rattle.ltp_engine.specs.declared.effects.Effects.{Effects}
use Rattle.ltp_engine.specs.declared.refused.SubmitRefused.{SubmitRefused}
use Rattle.ltp_engine.specs.declared.refused.SubmitRefused.TheVariants as causes
use Rattle.ltp_engine.specs.Bounds.{IsBounded}
use Rattle.ltp_engine.specs.Shows.{Shows}
use Rattle.ltp_engine.specs.Steps.{Submits, Sends, IsSent, IsFault}
use Rattle.ltp_engine.specs.Values.{EngineValue}
use Rattle.gate_cases.specs.declared.case.GateCase.{GateCase}
use Rattle.gate_cases.specs.declared.case.GateCase.TheVariants as cases
use Rattle.gate_cases.specs.declared.case.Room.{Room}
use Rattle.gate_cases.specs.declared.face.Face.{Face}
use Rattle.gate_cases.specs.declared.face.Face.TheVariants as faces
use Rattle.gate_cases.specs.declared.judged.Judged.{Judged}
use Rattle.gate_cases.specs.declared.report.AskedReport.{AskedReport}
use Rattle.gate_cases.specs.Blocks.{Found, one, bad, found_at}
use Rattle.gate_cases.specs.Cases.{judged, judgement_of, case_of}
use Rattle.gate_cases.specs.Faces.{other_of}
use Rattle.gate_cases.specs.Promises.{IsBlock, HaveRoom}
use Rattle.gate_cases.specs.Bundles.{status_bundle}
use Rattle.gateway_core.specs.declared.effects.GateEffects.{GateEffects}
use Rattle.gateway_core.specs.declared.note.GateNote.{GateNote}
use Rattle.gateway_core.specs.declared.note.GateNote.TheVariants as notes
use Rattle.gateway_core.specs.declared.parts.Parts.{Parts}
use Rattle.gateway_core.specs.Gate.{Gate, GateStep, at_face, and_then, in_turn, noted_at, submission_at, sends_unless, sends_at, room_of, case_note, is_unreported, reports_at, answers_at, decides_at, passes_at}
use Rattle.gateway_core.specs.Effects.{gate_effects_of, nothing_routed, only_noted_at, routed_at, joined_with}
use Rattle.gateway_core.specs.Values.{GatewayValue}
use Rattle.gateway_core.specs.Shows.{ShowsGate}
use Rattle.gateway_core.specs.Ties.{live, setup_in, IsWhole, Did, SentAt, SameBut, HasRoom, TakesRoom, IsUnrefused, engine_at, room_in, cannot_report}
use Rattle.gateway_core.proofs.GateLemmas.{spelled-at}
use Rattle.gateway_core.proofs.DidLemmas.{whole-after, setup-after, did-nothing, did-note, did-same, did-then, did-more, did-none-yet, did-result, EndsIn}

-- ---- no fault

not_zero : (n : ℕ) → 0 < n → (n == 0) ≡ false
not_zero n is = grind (arith, nat_tests)

not_below : (a b : ℕ) → b ≤ a → nat_lt a b ≡ false
not_below a b is = grind (arith, nat_tests)

not_up_to : (a b : ℕ) → b < a → nat_le a b ≡ false
not_up_to a b is = grind (arith, nat_tests)

no-fault : (v : EngineValue) (e : Engine) (block : List ℕ) → v.party.most ≡ BLOCK_MAX → v.party.sessions ≡ 64 → IsBlock block → HasRoom v 1 → Shows v e → submit_fault v.party e block ≡ None
no-fault v e block most usual is room shows = rw (
  not_zero (length block) is.some,
  not_below v.party.most (length block) (subst (λ n. length block ≤ n) (sym most) is.small),
  not_up_to (2 ^ 32) e.next (subst (λ n. n < 2 ^ 32) (sym shows.next) (less v.next (2 ^ 32) room.numbers)),
  not_up_to v.party.sessions (length e.senders) (subst (λ n. length e.senders < n) (sym usual)
      (subst (λ s. length s < 64) (sym shows.senders) (less (length v.senders) 64 room.sending))),
) refl where
  less : (a b : ℕ) → a + 1 ≤ b → a < b
  less a b is = omega (arith, is)

never-fault : (v : EngineValue) (e : Engine) (block : List ℕ) (red now : ℕ) (refused : SubmitRefused) → submit_fault v.party e block ≡ None
    → IsFault refused (submit_step v.party e (submits v.party e block red now)) → ⊥
unfolding submits
never-fault v e block red now refused none fault = subst (λ f. IsFault refused (submit_step v.party e (submits_unless f v.party e block red now))) none fault

pub unrefused : (v w : EngineValue) (block : List ℕ) (now : ℕ) (r : Result Effects SubmitRefused)
    → Submits v w (λ e. submit_step v.party e (submits v.party e block (length block) now)) r
    → v.party.most ≡ BLOCK_MAX → v.party.sessions ≡ 64 → IsBlock block → HasRoom v 1 → (e : Engine) → Shows v e → IsUnrefused r
unrefused v w block now (Ok told) does most usual is room e shows = tt
unrefused v w block now (Err causes.Memory) does most usual is room e shows = tt
unrefused v w block now (Err causes.Empty) does most usual is room e shows =
    never-fault v e block (length block) now causes.Empty (no-fault v e block most usual is room shows) (does.1 e shows)
unrefused v w block now (Err causes.TooLarge) does most usual is room e shows =
    never-fault v e block (length block) now causes.TooLarge (no-fault v e block most usual is room shows) (does.1 e shows)
unrefused v w block now (Err causes.NumbersSpent) does most usual is room e shows =
    never-fault v e block (length block) now causes.NumbersSpent (no-fault v e block most usual is room shows) (does.1 e shows)
unrefused v w block now (Err causes.Busy) does most usual is room e shows =
    never-fault v e block (length block) now causes.Busy (no-fault v e block most usual is room shows) (does.1 e shows)

-- ---- one session more

length-put : (n : ℕ) (s : Sending) (es : List (ℕ × Sending)) → length (put n s es) ≤ length es + 1
unfolding put
length-put n s [] = omega arith
length-put n s (e ∷ es) = let rest = length-put n s es in by_same rest (e.0 == n) where
  by_less : length (put n s es) ≤ length es + 1 → (less : Bool) → length (if less then (n, s) ∷ (e ∷ es) else e ∷ put n s es) ≤ length (e ∷ es) + 1
  by_less rest true = omega arith
  by_less rest false = omega (arith, rest)

  by_same : length (put n s es) ≤ length es + 1 → (same : Bool)
      → length (if same then (n, s) ∷ es else if nat_lt n e.0 then (n, s) ∷ (e ∷ es) else e ∷ put n s es) ≤ length (e ∷ es) + 1
  by_same rest true = omega arith
  by_same rest false = by_less rest (nat_lt n e.0)

length-without : (n : ℕ) (es : List (ℕ × Sending)) → length (without n es) ≤ length es
unfolding without
length-without n [] = omega arith
length-without n (e ∷ es) = let rest = length-without n es in by_same rest (e.0 == n) where
  by_same : length (without n es) ≤ length es → (same : Bool) → length (if same then without n es else e ∷ without n es) ≤ length (e ∷ es)
  by_same rest true = omega (arith, rest)
  by_same rest false = omega (arith, rest)

length-settled : (n : ℕ) (change : Change Sending) (es : List (ℕ × Sending)) → length (settled n change es) ≤ length es + 1
length-settled n stays es = omega arith
length-settled n (keeps s) es = length-put n s es
length-settled n ends es = omega (arith, length-without n es)

pub takes-room : (v w : EngineValue) (block : List ℕ) (now : ℕ) (told : Effects) (e : Engine) → Shows v e
    → IsSent w told (submit_step v.party e (submits v.party e block (length block) now)) → TakesRoom v w
unfolding submits
takes-room v w block now told e shows sent = by_fault (submit_fault v.party e block) sent where
  by_fault : (fault : Option SubmitFault) → IsSent w told (submit_step v.party e (submits_unless fault v.party e block (length block) now)) → TakesRoom v w
  by_fault (Some fault) sent = absurd sent
  by_fault None sent = record {
    sending = subst (λ s. length s ≤ length v.senders + 1) sent.0.senders
        (subst (λ s. length (settled e.next (begin v.party.policy e.next block (length block) now).next e.senders) ≤ length s + 1) shows.senders
        (length-settled e.next (begin v.party.policy e.next block (length block) now).next e.senders));
    numbers = sym sent.0.next ∙ ap (λ n. n + 1) shows.next;
  }

-- ---- as a step of the gate

abbrev SendsAt : Face → Parts → Parts → List ℕ → ℕ → Effects → Type 0
SendsAt face a b block now told =
    Sends (engine_at a face) (engine_at b face)
    (λ e. submit_step (engine_at a face).party e (submits (engine_at a face).party e block (length block) now)) told

-- what is sent is the step of every gate that the parts stand for
record IsStep (b : Parts) (told : Effects) (step : GateStep) (face : Face) : Type 0 where
  shows : ShowsGate (live b) step.gate
  told_is : routed_at face told ≡ gate_effects_of step.effects

step-of : (face : Face) (a b : Parts) (told : Effects) → SameBut face a b → (g : Gate) → ShowsGate (live a) g → (r : Result EngineStep SubmitFault)
    → IsSent (engine_at b face) told r → IsStep b told (sends_unless face g r) face
step-of faces.Old a b told same g shows (Ok step) sent = record {
  shows = record {
    old_face = sent.0;
    new_face = subst (λ v. Shows v g.engines.1) (sym same.other) shows.new_face;
    counter = shows.counter ∙ sym same.counter;
  };
  told_is = ap (routed_at faces.Old) sent.1 ∙ spelled-at faces.Old step;
}
step-of faces.New a b told same g shows (Ok step) sent = record {
  shows = record {
    old_face = subst (λ v. Shows v g.engines.0) (sym same.other) shows.old_face;
    new_face = sent.0;
    counter = shows.counter ∙ sym same.counter;
  };
  told_is = ap (routed_at faces.New) sent.1 ∙ spelled-at faces.New step;
}
step-of face a b told same g shows (Err fault) sent = absurd sent

step-at : (face : Face) (a b : Parts) (block : List ℕ) (now : ℕ) (told : Effects) → SameBut face a b → SendsAt face a b block now told
    → (g : Gate) → ShowsGate (live a) g → IsStep b told (sends_at (setup_in a) face now block g) face
unfolding sends_at
step-at faces.Old a b block now told same sends g shows =
    step-of faces.Old a b told same g shows (submission_at (setup_in a) faces.Old now block g) (sends.next g.engines.0 shows.old_face)
step-at faces.New a b block now told same sends g shows =
    step-of faces.New a b told same g shows (submission_at (setup_in a) faces.New now block g) (sends.next g.engines.1 shows.new_face)

pub sent-at : (face : Face) (a b : Parts) (block : List ℕ) (now : ℕ) (told : Effects) → IsWhole a → SameBut face a b → SendsAt face a b block now told → IsBounded (engine_at b face)
    → SentAt a b face block now told
sent-at face a b block now told whole same sends bounds = record {
  whole = whole-after face a b whole same sends.whole sends.party bounds
      (sends_at (setup_in a) face now block whole.gate).gate (step-at face a b block now told same sends whole.gate whole.shows).shows;
  setup = setup-after face a b same sends.party;
  next = λ g shows. (step-at face a b block now told same sends g shows).shows;
  told_is = λ g shows. (step-at face a b block now told same sends g shows).told_is;
}

pub did-send : (a b : Parts) (face : Face) (block : List ℕ) (now : ℕ) (told : Effects) → SentAt a b face block now told
    → Did a b (sends_at (setup_in a) face now block) (routed_at face told)
did-send a b face block now told sent = record {
  whole = sent.whole;
  steps = record { whole = refl; setup = sent.setup; next = sent.next; effects_are = sent.told_is };
}

-- ---- as the code has it

abbrev SubmitsAt : Face → Parts → Parts → List ℕ → ℕ → Result Effects SubmitRefused → Type 0
SubmitsAt face a b block now submitted =
    Submits (engine_at a face) (engine_at b face)
    (λ e. submit_step (engine_at a face).party e (submits (engine_at a face).party e block (length block) now)) submitted

pub unrefused-at : (at face : Face) (a b : Parts) (block : List ℕ) (now : ℕ) (submitted : Result Effects SubmitRefused) → at ≡ face → SubmitsAt face a b block now submitted
    → IsWhole a → IsBlock block → HasRoom (engine_at a at) 1 → IsUnrefused submitted
unrefused-at at faces.Old a b block now submitted is does whole block_is room =
    unrefused a.old_face b.old_face block now submitted does whole.old_most whole.old_sessions block_is (subst (λ f. HasRoom (engine_at a f) 1) is room) whole.gate.engines.0 whole.shows.old_face
unrefused-at at faces.New a b block now submitted is does whole block_is room =
    unrefused a.new_face b.new_face block now submitted does whole.new_most whole.new_sessions block_is (subst (λ f. HasRoom (engine_at a f) 1) is room) whole.gate.engines.1 whole.shows.new_face

pub submitted-at : (at face : Face) (a b : Parts) (block : List ℕ) (now : ℕ) (submitted : Result Effects SubmitRefused) (r : Result Effects AllocError) → at ≡ face
    → SubmitsAt face a b block now submitted → OnOk submitted (IsBounded (engine_at b face)) → IfOk r (λ told. submitted ≡ Ok told) → IsWhole a → SameBut face a b
    → IfOk r (SentAt a b at block now)
submitted-at at face a b block now submitted (Err e) is does bounds ok whole same = tt
submitted-at at face a b block now submitted (Ok told) is does bounds ok whole same =
    subst (λ f. SentAt a b f block now told) (sym is)
    (sent-at face a b block now told whole same (subst (SubmitsAt face a b block now) ok does) (subst (λ s. OnOk s (IsBounded (engine_at b face))) ok bounds))

pub room-taken : (at face : Face) (a b : Parts) (block : List ℕ) (now : ℕ) (submitted : Result Effects SubmitRefused) (r : Result Effects AllocError) → at ≡ face
    → SubmitsAt face a b block now submitted → IfOk r (λ told. submitted ≡ Ok told) → IsWhole a → OnOk r (TakesRoom (engine_at a at) (engine_at b at))
room-taken at face a b block now submitted (Err e) is does ok whole = tt
room-taken at faces.Old a b block now submitted (Ok told) is does ok whole =
    let sends = subst (SubmitsAt faces.Old a b block now) ok does in
    subst (λ f. TakesRoom (engine_at a f) (engine_at b f)) (sym is)
    (takes-room a.old_face b.old_face block now told whole.gate.engines.0 whole.shows.old_face (sends.next whole.gate.engines.0 whole.shows.old_face))
room-taken at faces.New a b block now submitted (Ok told) is does ok whole =
    let sends = subst (SubmitsAt faces.New a b block now) ok does in
    subst (λ f. TakesRoom (engine_at a f) (engine_at b f)) (sym is)
    (takes-room a.new_face b.new_face block now told whole.gate.engines.1 whole.shows.new_face (sends.next whole.gate.engines.1 whole.shows.new_face))

-- blocks are sent, one after the other
pub sends-none : (face : Face) (now : ℕ) (a : Parts) (blocks : List (List ℕ)) (e : GateEffects) → IsWhole a → e ≡ nothing_routed → HasRoom (engine_at a face) (length blocks)
    → Did a a (in_turn (sends_at (setup_in a) face now) []) e × HasRoom (engine_at a face) (length blocks - 0)
sends-none face now a blocks e whole is room = (
  did-none-yet (sends_at (setup_in a) face now) a e whole is,
  record { sending = omega (arith, room.sending); numbers = omega (arith, room.numbers) },
)

pub sends-more : (face : Face) (now : ℕ) (a b c : Parts) (blocks : List (List ℕ)) (i : ℕ) (item block : List ℕ) (sent more all : GateEffects)
    → i < length blocks → item ≡ get_or blocks i item → block ≡ item
    → Did a b (in_turn (sends_at (setup_in a) face now) (take i blocks)) sent × HasRoom (engine_at b face) (length blocks - i)
    → Did b c (sends_at (setup_in b) face now block) more → TakesRoom (engine_at b face) (engine_at c face)
    → all ≡ joined_with sent more
    → Did a c (in_turn (sends_at (setup_in a) face now) (take (i + 1) blocks)) all × HasRoom (engine_at c face) (length blocks - (i + 1))
sends-more face now a b c blocks i item block sent more all inside is block_is first second takes joined = (
  subst (Did a c (in_turn (sends_at (setup_in a) face now) (take (i + 1) blocks))) (sym joined)
      (subst (λ bs. Did a c (in_turn (sends_at (setup_in a) face now) bs) (joined_with sent more)) (sym taken)
      (did-more (λ s. sends_at s face now) a b c (take i blocks) item sent more first.0
      (subst (λ x. Did b c (sends_at (setup_in b) face now x) more) block_is second))),
  record {
    sending = omega (arith, first.1.sending, takes.sending, inside);
    numbers = omega (arith, first.1.numbers, takes.numbers, inside);
  },
) where
  taken : take (i + 1) blocks ≡ take i blocks ++ item ∷ []
  taken = take_more blocks i item inside ∙ ap (λ x. take i blocks ++ x ∷ []) (sym is)

-- ---- reports

unreported-same : (face : Face) (now : ℕ) (v : GatewayValue) (g : Gate) → ShowsGate v g → is_unreported face now g ≡ cannot_report face now v
unreported-same faces.Old now v g shows = rw (shows.old_face.senders, shows.old_face.next, shows.counter) refl
unreported-same faces.New now v g shows = rw (shows.new_face.senders, shows.new_face.next, shows.counter) refl

pub none-asked : (a : Parts) (face : Face) (now session : ℕ) (report : Option AskedReport) (e : GateEffects) → IsWhole a → report ≡ None → e ≡ nothing_routed
    → Did a a (answers_at (setup_in a) face now session report) e
unfolding answers_at
none-asked a face now session report e whole is nothing =
    subst (Did a a (answers_at (setup_in a) face now session report)) (sym nothing)
    (subst (λ r. Did a a (answers_at (setup_in a) face now session r) nothing_routed) (sym is) (did-nothing a whole))

-- which of two steps is done about a report that is asked for
chosen : (a : Parts) (face : Face) (now session : ℕ) (asked : AskedReport) (cannot : Bool) → cannot_report face now (live a) ≡ cannot
    → (g : Gate) → ShowsGate (live a) g
    → (if cannot then noted_at face (notes.Unreported session) g else reports_at (setup_in a) face now session asked g) ≡ answers_at (setup_in a) face now session (Some asked) g
unfolding answers_at
chosen a face now session asked cannot is g shows =
    ap (λ t. if t then noted_at face (notes.Unreported session) g else reports_at (setup_in a) face now session asked g) (sym is ∙ sym (unreported-same face now (live a) g shows))

pub unreported : (a : Parts) (face : Face) (now session : ℕ) (report : Option AskedReport) (asked : AskedReport) (r : Result GateEffects AllocError) → IsWhole a → report ≡ Some asked
    → cannot_report face now (live a) ≡ true → IfOk r (λ e. e ≡ only_noted_at face (notes.Unreported session))
    → EndsIn a a (answers_at (setup_in a) face now session report) r
unreported a face now session report asked r whole is cannot noted =
    subst (λ p. EndsIn a a (answers_at (setup_in a) face now session p) r) (sym is)
    (did-result a a (answers_at (setup_in a) face now session (Some asked)) (only_noted_at face (notes.Unreported session)) r
    (did-same a a (noted_at face (notes.Unreported session)) (answers_at (setup_in a) face now session (Some asked)) (only_noted_at face (notes.Unreported session))
    (chosen a face now session asked true cannot) (did-note a face (notes.Unreported session) whole)) noted)

pub answered : (a b : Parts) (face : Face) (now session : ℕ) (report : Option AskedReport) (asked : AskedReport) (r : Result GateEffects AllocError) → report ≡ Some asked
    → cannot_report face now (live a) ≡ false → EndsIn a b (reports_at (setup_in a) face now session asked) r
    → EndsIn a b (answers_at (setup_in a) face now session report) r
answered a b face now session report asked (Err e) is can did = tt
answered a b face now session report asked (Ok e) is can did =
    subst (λ p. Did a b (answers_at (setup_in a) face now session p) e) (sym is)
    (did-same a b (reports_at (setup_in a) face now session asked) (answers_at (setup_in a) face now session (Some asked)) e (chosen a face now session asked false can) did)

-- the parts once the counter rose
abbrev pub counted : Parts → Parts
counted a = record a { counter = a.counter + 1 }

or-false : (a b c d : Bool) → (a || b || c || d) ≡ false → d ≡ false
or-false false false false d is = is
or-false false false true d is = absurd (cc)
or-false false true c d is = absurd (cc)
or-false true b c d is = absurd (cc)

pub whole-counted : (a : Parts) (face : Face) (now : ℕ) → IsWhole a → cannot_report face now (live a) ≡ false → IsWhole (counted a)
whole-counted a face now whole can = record {
  old_face = whole.old_face;
  new_face = whole.new_face;
  old_most = whole.old_most;
  new_most = whole.new_most;
  old_sessions = whole.old_sessions;
  new_sessions = whole.new_sessions;
  config = whole.config;
  bounds = record {
    old_face = whole.bounds.old_face;
    new_face = whole.bounds.new_face;
    counter = below a.counter (2 ^ 32) (or-false (nat_le 64 (length (engine_at a face).senders)) (nat_le (2 ^ 32) (engine_at a face).next) (nat_lt now 1000) (nat_le (2 ^ 32) a.counter) can);
  };
  gate = record whole.gate { counter = whole.gate.counter + 1 };
  shows = record { old_face = whole.shows.old_face; new_face = whole.shows.new_face; counter = ap (λ n. n + 1) whole.shows.counter };
} where
  below : (n m : ℕ) → nat_le m n ≡ false → n + 1 ≤ m
  below n m is = grind (arith, nat_tests)

pub reported : (a c : Parts) (face : Face) (now session : ℕ) (asked : AskedReport) (block : List ℕ) (octets : List ℕ) (sent noted : GateEffects) (r : Result GateEffects AllocError)
    → octets ≡ status_bundle a.gate a.counter now asked → block ≡ octets
    → Did (counted a) c (sends_at (setup_in (counted a)) face now block) sent → noted ≡ only_noted_at face (notes.Reported session)
    → IfOk r (λ all. all ≡ joined_with sent noted) → EndsIn a c (reports_at (setup_in a) face now session asked) r
reported a c face now session asked block octets sent noted r octets_are block_is did note_is all =
    did-result a c (reports_at (setup_in a) face now session asked) (joined_with sent (only_noted_at face (notes.Reported session))) r
    (did-then a c c sent_step (λ s. noted_at face (notes.Reported session)) sent (only_noted_at face (notes.Reported session)) sent_did (did-note c face (notes.Reported session) did.whole))
    (IfOk-weaker r (λ all. all ≡ joined_with sent noted) (λ all. all ≡ joined_with sent (only_noted_at face (notes.Reported session))) (λ all eq. eq ∙ ap (joined_with sent) note_is) all)
  where
    sent_step : Gate → GateStep
    sent_step g = sends_at (setup_in a) face now (status_bundle a.gate g.counter now asked) (record g { counter = g.counter + 1 })

    block_of : (g : Gate) → ShowsGate (live a) g → block ≡ status_bundle a.gate g.counter now asked
    block_of g shows = block_is ∙ (octets_are ∙ ap (λ n. status_bundle a.gate n now asked) (sym shows.counter))

    shown : (g : Gate) → ShowsGate (live a) g → ShowsGate (live (counted a)) (record g { counter = g.counter + 1 })
    shown g shows = record { old_face = shows.old_face; new_face = shows.new_face; counter = ap (λ n. n + 1) shows.counter }

    sent_did : Did a c sent_step sent
    sent_did = record {
      whole = did.whole;
      steps = record {
        whole = refl;
        setup = did.steps.setup;
        next = λ g shows. subst (λ x. ShowsGate (live c) (sends_at (setup_in a) face now x (record g { counter = g.counter + 1 })).gate) (block_of g shows)
            (did.steps.next (record g { counter = g.counter + 1 }) (shown g shows));
        effects_are = λ g shows. did.steps.effects_are (record g { counter = g.counter + 1 }) (shown g shows)
            ∙ ap (λ x. gate_effects_of (sends_at (setup_in a) face now x (record g { counter = g.counter + 1 })).effects) (block_of g shows);
      };
    }

-- ---- what is decided

pub decided : (a b c : Parts) (face to : Face) (now session count : ℕ) (j : Judged) (pieces : List (List ℕ)) (note : GateNote) (sent noted answer after : GateEffects) (r : Result GateEffects AllocError)
    → IsWhole b → to ≡ other_of face → pieces ≡ j.pieces → count ≡ length j.pieces → note ≡ case_note session count j.case
    → Did a b (in_turn (sends_at (setup_in a) to now) pieces) sent
    → noted ≡ only_noted_at face note → Did b c (answers_at (setup_in b) face now session j.report) answer → after ≡ joined_with noted answer
    → IfOk r (λ all. all ≡ joined_with sent after) → EndsIn a c (decides_at (setup_in a) face now session j) r
unfolding decides_at
decided a b c face to now session count j pieces note sent noted answer after r whole to_is pieces_are counts note_is did noted_is answers after_is all =
    did-result a c (decides_at (setup_in a) face now session j) (joined_with sent (joined_with (only_noted_at face the_note) answer)) r
    (did-then a b c (in_turn (sends_at (setup_in a) (other_of face) now) j.pieces)
    (λ s h. and_then (noted_at face the_note h) (answers_at s face now session j.report)) sent (joined_with (only_noted_at face the_note) answer)
    (subst (λ f. Did a b (in_turn (sends_at (setup_in a) f now) j.pieces) sent) to_is (subst (λ ps. Did a b (in_turn (sends_at (setup_in a) to now) ps) sent) pieces_are did))
    (did-then b b c (noted_at face the_note) (λ s. answers_at s face now session j.report) (only_noted_at face the_note) answer (did-note b face the_note whole) answers))
    (IfOk-weaker r (λ all. all ≡ joined_with sent after) (λ all. all ≡ joined_with sent (joined_with (only_noted_at face the_note) answer))
    (λ all eq. eq ∙ ap (joined_with sent) (after_is ∙ ap (λ n. joined_with n answer) (noted_is ∙ ap (only_noted_at face) (note_is ∙ ap (λ n. case_note session n j.case) counts)))) all)
  where
    the_note : GateNote
    the_note = case_note session (length j.pieces) j.case

room-same : (face : Face) (a : Parts) (g : Gate) → ShowsGate (live a) g → room_of (at_face g.engines face) ≡ room_in (engine_at a face)
room-same faces.Old a g shows = rw (shows.old_face.senders, shows.old_face.next) refl
room-same faces.New a g shows = rw (shows.new_face.senders, shows.new_face.next) refl

pub passed : (a b : Parts) (face : Face) (now session : ℕ) (block : List ℕ) (to : Face) (room : Room) (j : Judged) (r : Result GateEffects AllocError)
    → to ≡ other_of face → room ≡ room_in (engine_at a to) → j ≡ judged face block now a.cut room
    → EndsIn a b (decides_at (setup_in a) face now session j) r
    → EndsIn a b (passes_at (setup_in a) face now (record { session = session; body = block })) r
passed a b face now session block to room j (Err e) to_is room_is is did = tt
passed a b face now session block to room j (Ok e) to_is room_is is did =
    did-same a b (decides_at (setup_in a) face now session j) (passes_at (setup_in a) face now (record { session = session; body = block })) e
    (λ g shows. ap (λ x. decides_at (setup_in a) face now session x g)
    (is ∙ ap (judged face block now a.cut) (room_is ∙ (ap (λ f. room_in (engine_at a f)) to_is ∙ sym (room-same (other_of face) a g shows))))) did

-- only what passed goes on
pub passed-or-none : (face : Face) (block : List ℕ) (now cut : ℕ) (room : Room)
    → ((judged face block now cut room).case ≡ cases.Passed) ⊎ ((judged face block now cut room).pieces ≡ [])
unfolding judged
passed-or-none face block now cut room = by_found (found_at face block) (case_of face (found_at face block) now cut room) where
  by_found : (found : Found) (case : GateCase) → ((judgement_of face found cut case).case ≡ cases.Passed) ⊎ ((judgement_of face found cut case).pieces ≡ [])
  by_found (bad at cause) case = inr refl
  by_found (one arrival) (cases.BadBundle at cause) = inr refl
  by_found (one arrival) (cases.Untranslated cause) = inr refl
  by_found (one arrival) cases.Expired = inr refl
  by_found (one arrival) cases.HopLimit = inr refl
  by_found (one arrival) cases.Storage = inr refl
  by_found (one arrival) cases.Passed = inl refl

-- the blocks that go on are ones that there is room for
pub pieces-fit : (a : Parts) (face to : Face) (room : Room) (j : Judged) → IsWhole a → to ≡ other_of face → room ≡ room_in (engine_at a to)
    → (j.case ≡ cases.Passed → HaveRoom room j.pieces) → (j.case ≡ cases.Passed) ⊎ (j.pieces ≡ [])
    → All IsBlock j.pieces × HasRoom (engine_at a (other_of face)) (length j.pieces)
pieces-fit a face to room j whole to_is room_is fits (inl passed) = (
  (fits passed).blocks,
  subst (λ f. HasRoom (engine_at a f) (length j.pieces)) to_is (record {
    sending = subst (λ (x : Room). x.sending + length j.pieces ≤ 64) room_is (fits passed).sessions;
    numbers = subst (λ (x : Room). x.next_session + length j.pieces ≤ 2 ^ 32) room_is (fits passed).numbers;
  }),
)
pieces-fit a face to room j whole to_is room_is fits (inr none) = (
  subst (All IsBlock) (sym none) no_blocks,
  subst (λ ps. HasRoom (engine_at a (other_of face)) (length ps)) (sym none) (bounded (other_of face)),
) where
  no_blocks : All IsBlock []
  no_blocks = All-nil IsBlock

  bounded : (f : Face) → HasRoom (engine_at a f) 0
  bounded faces.Old = record { sending = omega (arith, whole.old_sessions, whole.bounds.old_face.senders); numbers = omega (arith, whole.bounds.old_face.numbers) }
  bounded faces.New = record { sending = omega (arith, whole.new_sessions, whole.bounds.new_face.senders); numbers = omega (arith, whole.bounds.new_face.numbers) }
