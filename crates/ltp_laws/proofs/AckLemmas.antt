-- What is acknowledged was reported, and is claimed; and a cancel is sent by a sender that gives
-- up.

use Rattle.std.proofs.Common.{◌≡◌, ℕ, zero, suc, ◌+◌, ◌<◌, ◌≤◌, Bool, true, false, ◌==◌, ◌||◌}
use Rattle.std.proofs.Common.{List, [], ◌∷◌, ◌++◌, length, replicate, Option, None, Some, ◌⊎◌, inl}
use Rattle.std.proofs.Common.{inr, refl, sym, ◌∙◌, ap, arith, subst, nat_lt, nat_le}
use Rattle.std.specs.Prelude.{slice_index_or}
use Rattle.std.specs.List.{AllByRecursion}
use Rattle.std.proofs.lemmas.Bool.{le-leb, lt-ltb}
use Rattle.ltp_segment.specs.declared.segment.Claim.{Claim}
use Rattle.ltp_segment.specs.Policy.{PolicyValue}
use Rattle.ltp_segment.specs.Values.{PieceValue, ReportValue, ContentValue, a_piece, a_report}
use Rattle.ltp_segment.specs.Values.{a_report_ack, a_sender_cancel, a_sender_cancel_ack}
use Rattle.ltp_segment.specs.Values.{a_receiver_cancel, a_receiver_cancel_ack}
use Rattle.ltp_session.specs.Claims.{with_range, with_claims}
use Rattle.ltp_session.specs.Sender.{Sending, SendingPhase, sender_open, sender_cancelling}
use Rattle.ltp_session.specs.Sender.{checkpoint_at, red_pieces, green_pieces, opened, begin}
use Rattle.ltp_session.specs.Sender.{sends_again, takes_report, report_step, sender_due}
use Rattle.ltp_session.specs.Sender.{sender_tick, sending_timer, ends_cancelling, sender_answers}
use Rattle.ltp_session.specs.Sender.{is_all_claimed}
use Rattle.ltp_session.specs.Step.{StepValue, Change, after, stays, keeps, ends}
use Rattle.ltp_session.specs.Timer.{first_serial, is_past_serials}
use Rattle.ltp_session.specs.declared.timer.Timer.{Timer}
use Rattle.ltp_laws.specs.Acknowledgements.{HasClaims, IsAnswered, AckFacts, IsSenderCancelling}
use Rattle.ltp_laws.specs.Claims.{HasPlace, AreApart, IsReportOf, ClaimFacts}
use Rattle.ltp_laws.specs.Kept.{IfKept, IfKeeps, KeepsOrEnds}
use Rattle.ltp_laws.specs.Runs.{KeepsUnder}
use Rattle.ltp_laws.specs.SenderSteps.{Adds, SenderStep, rests, leaves, continues, rounds}
use Rattle.ltp_laws.specs.View.{View, sender_moves, IsIn}
use Rattle.ltp_laws.proofs.CheckpointLemmas.{begin-next}
use Rattle.ltp_laws.proofs.HandUpLemmas.{kept-on}
use Rattle.ltp_laws.proofs.ListLemmas.{both_arms, all-append, answered}
use Rattle.ltp_laws.proofs.SenderStepLemmas.{listens-form, sender_tick-form}
use Rattle.ltp_laws.proofs.SerialLemmas.{among-append, among-left, all-among}

-- ---- claimed places

length-places : (k from to : ℕ) (places : List Bool) → length (with_range k from to places)
    ≡ length places
unfolding with_range
length-places k from to [] = refl
length-places k from to (b ∷ bs) = omega (arith, length-places (k + 1) from to bs)

pub length-claims : (lower : ℕ) (cs : List Claim) (places : List Bool)
    → length (with_claims lower cs places) ≡ length places
unfolding with_claims
length-claims lower [] places = refl
length-claims lower (c ∷ cs) places = length-claims lower cs _ ∙ length-places 0 (lower + c.offset)
    (lower + c.offset + c.length) places

places-keep : (k from to : ℕ) (places : List Bool) (i : ℕ) → slice_index_or places i false ≡ true
    → slice_index_or (with_range k from to places) i false ≡ true
unfolding with_range
places-keep k from to [] i is = is
places-keep k from to (b ∷ bs) zero is = rw is refl
places-keep k from to (b ∷ bs) (suc i) is = places-keep (k + 1) from to bs i is

claims-keep : (lower : ℕ) (cs : List Claim) (places : List Bool) (i : ℕ)
    → slice_index_or places i false ≡ true → slice_index_or (with_claims lower cs places)
    i false ≡ true
unfolding with_claims
claims-keep lower [] places i is = is
claims-keep lower (c ∷ cs) places i is =
    claims-keep lower cs _ i (places-keep 0 (lower + c.offset)
    (lower + c.offset + c.length) places i is)

or_true : (b : Bool) → (b || true) ≡ true
or_true true = refl
or_true false = refl

places-true : (k from to : ℕ) (places : List Bool) (i : ℕ) → from ≤ k + i → k + i < to
    → i < length places → slice_index_or (with_range k from to places) i false ≡ true
unfolding with_range
places-true k from to [] i low high inside = absurd (omega arith)
places-true k from to (b ∷ bs) zero low high inside =
    rw (le-leb from k (omega arith), lt-ltb k to (omega arith)) (or_true b)
places-true k from to (b ∷ bs) (suc i) low high inside =
    places-true (k + 1) from to bs i (omega arith) (omega arith) (omega arith)

pub claims-true : (lower : ℕ) (cs : List Claim) (places : List Bool) (i : ℕ) → HasPlace lower cs i
    → i < length places → slice_index_or (with_claims lower cs places) i false ≡ true
unfolding with_claims
claims-true lower [] places i has inside = absurd has
claims-true lower (c ∷ cs) places i (inl within) inside =
    claims-keep lower cs _ i (places-true 0 (lower + c.offset) (lower + c.offset + c.length) places
    i (omega (arith, within.0)) (omega (arith, within.1)) inside)
claims-true lower (c ∷ cs) places i (inr has) inside =
    claims-true lower cs _ i has (omega (
      arith,
      length-places 0 (lower + c.offset)
          (lower + c.offset + c.length) places,
    ))

-- a claimed place is below the upper bound
place-below : (lower low most : ℕ) (cs : List Claim) (k : ℕ) → lower ≡ 0 → AreApart low most cs
    → HasPlace lower cs k → k < most
place-below lower low most [] k zero_low apart has = absurd has
place-below lower low most (c ∷ cs) k zero_low apart (inl within) =
    omega (arith, within.1, zero_low, apart.2)
place-below lower low most (c ∷ cs) k zero_low apart (inr has) =
    place-below lower (c.offset + c.length + 1) most cs k zero_low apart.3 has

pub reported-below : (red : ℕ) (x : ReportValue) (k : ℕ) → IsReportOf red x
    → HasPlace x.lower x.claims k → k < red
reported-below red x k of has =
    omega (arith, place-below x.lower 0 x.upper x.claims k of.lower of.apart has, of.upper)

-- ---- what a sender's step says beside pieces

abbrev Takes : Sending → ReportValue → Sending → Type 0
Takes s x s' = IsSenderCancelling s'.phase ⊎ (s'.claimed ≡ with_claims x.lower x.claims s.claimed)

abbrev Says : ContentValue → Sending → Change Sending → ContentValue → Type 0
Says told s next (a_report_ack n) = (x : ReportValue) × (told ≡ a_report x) × (x.serial ≡ n)
    × IfKept (Takes s x) (after next (Some s))
Says told s next (a_sender_cancel n) = KeepsOrEnds (λ s'. IsSenderCancelling s'.phase) next
Says told s next content = Unit {0}

abbrev SaysAll : ContentValue → Sending → StepValue Sending → Type 0
SaysAll told s t = AllByRecursion (Says told s t.next) t.out

pub red-all : (P : ContentValue → Type 0) → ((q : PieceValue) → P (a_piece q))
    → (last : ℕ × List ℕ → PieceValue) (parts : List (ℕ × List ℕ))
    → AllByRecursion P (red_pieces last parts)
unfolding red_pieces
red-all P of last [] = tt
red-all P of last (part ∷ []) = (of _, tt)
red-all P of last (part ∷ next ∷ parts) = (of _, red-all P of last (next ∷ parts))

pub green-all : (P : ContentValue → Type 0) → ((q : PieceValue) → P (a_piece q))
    → (parts : List (ℕ × List ℕ)) → AllByRecursion P (green_pieces parts)
unfolding green_pieces
green-all P of [] = tt
green-all P of (part ∷ []) = (of _, tt)
green-all P of (part ∷ next ∷ parts) = (of _, green-all P of (next ∷ parts))

report-says : (policy : PolicyValue) (s : Sending) (x : ReportValue) (now : ℕ)
    → SaysAll (a_report x) s (report_step policy s x now)
unfolding report_step
report-says policy s x now = both_arms Form (nat_lt s.red x.upper) _ _ tt (by_phase s.phase refl)
  where
    Form : StepValue Sending → Type 0
    Form = SaysAll (a_report x) s

    by_last : (c : PieceValue) (parts : List (ℕ × List ℕ)) (o : Option (ℕ × List ℕ))
        → Form (sends_again policy (record s {
          claimed = (with_claims x.lower x.claims s.claimed);
        }) now parts (checkpoint_at (length s.block) s.red (c.checkpoint + 1) x.serial) o
        (a_report_ack x.serial ∷ []))
    by_last c parts None = ((x, refl, refl, inr refl), tt)
    by_last c parts (Some part) = ((x, refl, refl, inr refl), red-all _ (λ q. tt) _ parts)

    by_phase : (phase : SendingPhase) → s.phase ≡ phase
        → Form (takes_report policy s phase x now (a_report_ack x.serial ∷ []))
    by_phase (sender_cancelling reason timer) is =
        ((x, refl, refl, inl (subst IsSenderCancelling (sym is) tt)), tt)
    by_phase (sender_open c timer) is =
        both_arms Form (is_all_claimed (with_claims x.lower x.claims s.claimed)) _ _
        ((x, refl, refl, tt), tt)
        (both_arms Form (x.checkpoint == c.checkpoint) _ _
        (both_arms Form (is_past_serials (c.checkpoint + 1)) _ _ (
          (x, refl, refl, inl tt),
          (tt, tt),
        ) (by_last c _ _))
        ((x, refl, refl, inr refl), tt))

tick-says : (policy : PolicyValue) (now : ℕ) (s : Sending)
    → SaysAll a_sender_cancel_ack s (sender_tick policy s now)
unfolding sender_tick
tick-says policy now s = both_arms Form (nat_le (sending_timer s.phase).deadline now) _ _
    (by_phase s.phase) tt
  where
    Form : StepValue Sending → Type 0
    Form = SaysAll a_sender_cancel_ack s

    by_phase : (phase : SendingPhase) → Form (sender_due policy s phase now)
    by_phase (sender_open c timer) = both_arms Form (nat_lt timer.times policy.limit) _ _
        (tt, tt) (tt, tt)
    by_phase (sender_cancelling reason timer) =
        both_arms Form (nat_lt timer.times policy.limit) _ _ (tt, tt) tt

hears-says : (policy : PolicyValue) (s : Sending) (content : ContentValue) (now : ℕ)
    (t : StepValue Sending) → sender_answers policy (Some s) content now ≡ Some t
    → SaysAll content s t
unfolding sender_answers
hears-says policy s (a_report x) now t hears =
    answered (SaysAll (a_report x) s) _ t hears (report-says policy s x now)
hears-says policy s (a_receiver_cancel reason) now t hears =
    answered (SaysAll (a_receiver_cancel reason) s) _ t hears (tt, tt)
hears-says policy s a_sender_cancel_ack now t hears =
    answered (SaysAll a_sender_cancel_ack s) _ t hears (by_phase s.phase)
  where
    by_phase : (phase : SendingPhase) → SaysAll a_sender_cancel_ack s (ends_cancelling phase)
    by_phase (sender_open c timer) = tt
    by_phase (sender_cancelling reason timer) = tt
hears-says policy s (a_piece q) now t hears = absurd (cc)
hears-says policy s (a_report_ack n) now t hears = absurd (cc)
hears-says policy s (a_sender_cancel n) now t hears = absurd (cc)
hears-says policy s a_receiver_cancel_ack now t hears = absurd (cc)

-- of a session of which no sender is kept
abbrev Echoes : ContentValue → ContentValue → Type 0
Echoes told (a_report_ack n) = (x : ReportValue) × (told ≡ a_report x) × (x.serial ≡ n)
Echoes told content = Unit {0}

none-says : (policy : PolicyValue) (content : ContentValue) (now : ℕ) (t : StepValue Sending)
    → sender_answers policy None content now ≡ Some t → AllByRecursion (Echoes content) t.out
unfolding sender_answers
none-says policy (a_report x) now t hears =
    answered (λ (u : StepValue Sending). AllByRecursion (Echoes (a_report x)) u.out) _ t hears
    ((x, refl, refl), tt)
none-says policy (a_receiver_cancel reason) now t hears =
    answered (λ (u : StepValue Sending). AllByRecursion (Echoes (a_receiver_cancel reason)) u.out)
    _ t hears (tt, tt)
none-says policy a_sender_cancel_ack now t hears =
    answered (λ (u : StepValue Sending). AllByRecursion (Echoes a_sender_cancel_ack) u.out) _ t
    hears tt
none-says policy (a_piece q) now t hears = absurd (cc)
none-says policy (a_report_ack n) now t hears = absurd (cc)
none-says policy (a_sender_cancel n) now t hears = absurd (cc)
none-says policy a_receiver_cancel_ack now t hears = absurd (cc)

-- ---- a sender's step keeps what it has

by_phases : (P : SendingPhase → Type 0) (phase : SendingPhase)
    → ((c : PieceValue) (timer : Timer) → phase ≡ sender_open c timer → P phase)
    → (IsSenderCancelling phase → P phase) → P phase
by_phases P (sender_open c timer) awaiting giving = awaiting c timer refl
by_phases P (sender_cancelling reason timer) awaiting giving = giving tt

not_both : (phase : SendingPhase) (c : PieceValue) (timer : Timer) → phase ≡ sender_open c timer
    → IsSenderCancelling phase → ⊥
not_both phase c timer is giving = subst IsSenderCancelling is giving

adds-has : (content : ContentValue) (s s' : Sending) (x : ReportValue) → Adds content s s'
    → HasClaims s x → HasClaims s' x
adds-has content s s' x adds has k place =
    subst (λ (places : List Bool). slice_index_or places k false ≡ true) (sym adds.claimed)
    (claims-keep (adds.report).lower (adds.report).claims s.claimed k (has k place))

step-has : (content : ContentValue) (s : Sending) (t : StepValue Sending) (x : ReportValue)
    → SenderStep content s t
    → IsSenderCancelling s.phase ⊎ HasClaims s x
    → IfKeeps (λ s'. IsSenderCancelling s'.phase ⊎ HasClaims s' x) t.next
step-has content s t x (rests next none) has =
    subst (IfKeeps (λ s'. IsSenderCancelling s'.phase ⊎ HasClaims s' x)) (sym next) tt
step-has content s t x (leaves next none) has =
    subst (IfKeeps (λ s'. IsSenderCancelling s'.phase ⊎ HasClaims s' x)) (sym next) tt
step-has content s t x (continues s' next on) has =
    subst (IfKeeps (λ s'. IsSenderCancelling s'.phase ⊎ HasClaims s' x)) (sym next)
    (by_phases (λ phase. IsSenderCancelling phase ⊎ HasClaims s' x) s'.phase
    (λ c timer waits. let was = on.waits c timer waits in inr (go has was.0 was.1 on.claimed))
    (λ giving. inl giving))
  where
    go : IsSenderCancelling s.phase ⊎ HasClaims s x → (before : Timer) {c : PieceValue}
        → s.phase ≡ sender_open c before → (s'.claimed ≡ s.claimed) ⊎ Adds content s s'
        → HasClaims s' x
    go (inl giving) before waited claimed = absurd (not_both s.phase _ before waited giving)
    go (inr had) before waited (inl same) =
        λ k place. subst (λ (places : List Bool). slice_index_or places k false ≡ true)
        (sym same) (had k place)
    go (inr had) before waited (inr adds) = adds-has content s s' x adds had
step-has content s t x (rounds s' next on) has =
    subst (IfKeeps (λ s'. IsSenderCancelling s'.phase ⊎ HasClaims s' x)) (sym next) (go has)
  where
    go : IsSenderCancelling s.phase ⊎ HasClaims s x → IsSenderCancelling s'.phase ⊎ HasClaims s' x
    go (inl giving) = absurd (not_both s.phase on.c on.timer on.waited giving)
    go (inr had) = inr (adds-has content s s' x on.adds had)

step-gives : (content : ContentValue) (s : Sending) (t : StepValue Sending)
    → SenderStep content s t → IsSenderCancelling s.phase
    → IfKeeps (λ s'. IsSenderCancelling s'.phase) t.next
step-gives content s t (rests next none) giving =
    subst (IfKeeps (λ s'. IsSenderCancelling s'.phase)) (sym next) tt
step-gives content s t (leaves next none) giving =
    subst (IfKeeps (λ s'. IsSenderCancelling s'.phase)) (sym next) tt
step-gives content s t (continues s' next on) giving =
    subst (IfKeeps (λ s'. IsSenderCancelling s'.phase)) (sym next)
    (by_phases IsSenderCancelling s'.phase (λ c timer waits. let was = on.waits c timer waits in
    absurd (not_both s.phase c was.0 was.1 giving)) (λ h. h))
step-gives content s t (rounds s' next on) giving =
    absurd (not_both s.phase on.c on.timer on.waited giving)

adds-size : (content : ContentValue) (red : ℕ) (s s' : Sending) → Adds content s s'
    → length s.claimed ≡ red → length s'.claimed ≡ red
adds-size content red s s' adds size = ap length adds.claimed ∙ length-claims (adds.report).lower
    (adds.report).claims s.claimed ∙ size

step-size : (content : ContentValue) (red : ℕ) (s : Sending) (t : StepValue Sending)
    → SenderStep content s t → length s.claimed ≡ red
    → IfKeeps (λ s'. length s'.claimed ≡ red) t.next
step-size content red s t (rests next none) size =
    subst (IfKeeps (λ s'. length s'.claimed ≡ red)) (sym next) tt
step-size content red s t (leaves next none) size =
    subst (IfKeeps (λ s'. length s'.claimed ≡ red)) (sym next) tt
step-size content red s t (continues s' next on) size =
    subst (IfKeeps (λ s'. length s'.claimed ≡ red)) (sym next) (go on.claimed)
  where
    go : (s'.claimed ≡ s.claimed) ⊎ Adds content s s' → length s'.claimed ≡ red
    go (inl same) = ap length same ∙ size
    go (inr adds) = adds-size content red s s' adds size
step-size content red s t (rounds s' next on) size =
    subst (IfKeeps (λ s'. length s'.claimed ≡ red)) (sym next)
    (adds-size content red s s' on.adds size)

-- ---- the facts, once a sender's step was made

some-moved : (block : List ℕ) (red : ℕ) (v : View) (s : Sending) (content : ContentValue)
    (t : StepValue Sending) → v.sender ≡ Some s
    → ((x : ReportValue) → content ≡ a_report x → IsIn (a_report x) v.by_receiver)
    → ((x : ReportValue) → IsIn (a_report x) v.by_receiver → IsReportOf red x)
    → SenderStep content s t → SaysAll content s t → AckFacts block red v
    → AckFacts block red (sender_moves v t)
some-moved block red v s content t is heard told form says facts = record {
  size = kept-on (λ s'. length s'.claimed ≡ red) t.next v.sender facts.size
      (step-size content red s t form size);
  acks = λ serial among. acks serial (among-append (a_report_ack serial) v.by_sender t.out among);
  cancels = λ reason among. cancels reason
      (among-append (a_sender_cancel reason) v.by_sender t.out among);
}
  where
    size : length s.claimed ≡ red
    size = subst (IfKept (λ s'. length s'.claimed ≡ red)) is facts.size

    moved : (P : Sending → Type 0) (c : Change Sending) → KeepsOrEnds P c
        → IfKept P (after c v.sender)
    moved P stays is_moved = absurd is_moved
    moved P (keeps s') is_moved = is_moved
    moved P ends is_moved = tt

    weaker : (x : ReportValue) → IsReportOf red x → (o : Option Sending) → IfKept (Takes s x) o
        → IfKept (λ s'. IsSenderCancelling s'.phase ⊎ HasClaims s' x) o
    weaker x of None is_kept = tt
    weaker x of (Some s') (inl giving) = inl giving
    weaker x of (Some s') (inr claimed) =
        inr (λ k place. subst (λ (places : List Bool). slice_index_or places k false
        ≡ true) (sym claimed)
        (claims-true x.lower x.claims s.claimed k place
        (omega (arith, size, reported-below red x k of place))))

    acks : (serial : ℕ) → IsIn (a_report_ack serial) v.by_sender ⊎ IsIn (a_report_ack serial) t.out
        → IsAnswered (sender_moves v t) serial
    acks serial (inl before) =
        let was = facts.acks serial before in
        record {
          report = was.report;
          among = was.among;
          named = was.named;
          taken = kept-on (λ s'. IsSenderCancelling s'.phase ⊎ HasClaims s' was.report) t.next
              v.sender was.taken
              (step-has content s t was.report form
              (subst (IfKept (λ s'. IsSenderCancelling s'.phase ⊎ HasClaims s' was.report))
              is was.taken));
        }
    acks serial (inr now) =
        let (x, is_told, named, is_kept) =
        all-among (Says content s t.next) (a_report_ack serial) t.out says now in
        record {
          report = x;
          among = heard x is_told;
          named = named;
          taken = subst (λ o. IfKept (λ s'. IsSenderCancelling s'.phase ⊎ HasClaims s' x)
              (after t.next o)) (sym is) (weaker x (told x (heard x is_told))
              (after t.next (Some s)) is_kept);
        }

    cancels : (reason : ℕ) → IsIn (a_sender_cancel reason) v.by_sender ⊎ IsIn
        (a_sender_cancel reason) t.out → IfKept (λ s'. IsSenderCancelling s'.phase)
        (after t.next v.sender)
    cancels reason (inl before) =
        let was = facts.cancels reason before in
        kept-on (λ s'. IsSenderCancelling s'.phase) t.next v.sender was
        (step-gives content s t form (subst (IfKept (λ s'. IsSenderCancelling s'.phase)) is was))
    cancels reason (inr now) =
        moved (λ s'. IsSenderCancelling s'.phase) t.next (all-among (Says content s t.next)
        (a_sender_cancel reason) t.out says now)

none-moved : (block : List ℕ) (red : ℕ) (v : View) (content : ContentValue) (t : StepValue Sending)
    → v.sender ≡ None → t.next ≡ stays
    → ((x : ReportValue) → content ≡ a_report x → IsIn (a_report x) v.by_receiver)
    → AllByRecursion (Echoes content) t.out → AckFacts block red v
    → AckFacts block red (sender_moves v t)
none-moved block red v content t is next heard says facts = record {
  size = any (λ s. length s.claimed ≡ red);
  acks = λ serial among. acks serial (among-append (a_report_ack serial) v.by_sender t.out among);
  cancels = λ reason among. any (λ s. IsSenderCancelling s.phase);
}
  where
    any : (P : Sending → Type 0) → IfKept P (after t.next v.sender)
    any P = subst (λ c. IfKept P (after c v.sender)) (sym next) (subst (IfKept P) (sym is) tt)

    acks : (serial : ℕ) → IsIn (a_report_ack serial) v.by_sender ⊎ IsIn (a_report_ack serial) t.out
        → IsAnswered (sender_moves v t) serial
    acks serial (inl before) = let was = facts.acks serial before in
        record { report = was.report; among = was.among; named = was.named; taken = any _ }
    acks serial (inr now) =
        let (x, is_told, named) =
        all-among (Echoes content) (a_report_ack serial) t.out says now in
        record { report = x; among = heard x is_told; named = named; taken = any _ }

hears-acks : (block : List ℕ) (red : ℕ) (policy : PolicyValue) (v : View) (content : ContentValue)
    (now : ℕ) (t : StepValue Sending) (kept : Option Sending) → v.sender ≡ kept
    → ((x : ReportValue) → content ≡ a_report x → IsIn (a_report x) v.by_receiver)
    → ((x : ReportValue) → IsIn (a_report x) v.by_receiver → IsReportOf red x)
    → sender_answers policy kept content now ≡ Some t → AckFacts block red v
    → AckFacts block red (sender_moves v t)
hears-acks block red policy v content now t None is heard told hears facts =
    none-moved block red v content t is ((listens-form policy None content now t hears).none
    refl).0 heard (none-says policy content now t hears) facts
hears-acks block red policy v content now t (Some s) is heard told hears facts =
    some-moved block red v s content t is heard told
    ((listens-form policy (Some s) content now t hears).form s refl)
    (hears-says policy s content now t hears) facts

-- ---- the facts of a session that begins

abbrev IsAPiece : ContentValue → Type 0
IsAPiece (a_piece q) = Unit {0}
IsAPiece content = ⊥

begin-pieces : (policy : PolicyValue) (n : ℕ) (block : List ℕ) (red now : ℕ)
    → AllByRecursion IsAPiece (begin policy n block red now).out
unfolding begin
begin-pieces policy n block red now = all-append IsAPiece _ _ (red-all IsAPiece (λ q. tt) _ _)
    (green-all IsAPiece (λ q. tt) _)

length-false : (n : ℕ) → length (replicate n false) ≡ n
length-false zero = refl
length-false (suc n) = omega (arith, length-false n)

begin-size : (policy : PolicyValue) (n : ℕ) (block : List ℕ) (red now : ℕ)
    → IfKeeps (λ s. length s.claimed ≡ red) (begin policy n block red now).next
begin-size policy n block red now =
    subst (IfKeeps (λ s. length s.claimed ≡ red)) (sym (begin-next policy n block red now)) (go _)
  where
    go : (o : Option (ℕ × List ℕ)) → IfKeeps (λ s. length s.claimed ≡ red)
        (opened policy block red now (checkpoint_at (length block) red (first_serial n) 0) o)
    go None = tt
    go (Some part) = length-false red

pub acks-keep : KeepsUnder ClaimFacts AckFacts
acks-keep = record {
  begins = λ policy n block red now v cuts within unused _.
      let only : (c : ContentValue) → IsIn c (v.by_sender ++ (begin policy n block red now).out)
      → IsAPiece c =
      λ c among. all-among IsAPiece c (begin policy n block red now).out
      (begin-pieces policy n block red now)
      (subst (λ said. IsIn c (said ++ (begin policy n block red now).out))
      unused.by_sender among) in
      record {
        size = kept-on (λ s. length s.claimed ≡ red) (begin policy n block red now).next v.sender
            (subst (IfKept (λ s. length s.claimed ≡ red)) (sym unused.sender) tt)
            (begin-size policy n block red now);
        acks = λ serial among. absurd (only (a_report_ack serial) among);
        cancels = λ reason among. absurd (only (a_sender_cancel reason) among);
      };
  sender = λ block red policy v content now t among hears f f' facts.
      hears-acks block red policy v content now t v.sender refl
      (λ x is. subst (λ c. IsIn c v.by_receiver) is among) f.told hears facts;
  receiver = λ block red policy place v content now t closed among hears f f' facts. record {
    size = facts.size;
    acks = λ serial among. let was = facts.acks serial among in
        record {
          report = was.report;
          among = among-left (a_report was.report) v.by_receiver t.out was.among;
          named = was.named;
          taken = was.taken;
        };
    cancels = facts.cancels;
  };
  sender_tick = λ block red policy now v s is f f' facts.
      some-moved block red v s a_sender_cancel_ack (sender_tick policy s now) is
      (λ x h. absurd (cc)) f.told (sender_tick-form a_sender_cancel_ack policy now s)
      (tick-says policy now s) facts;
  receiver_tick = λ block red policy now v r is f f' facts. record {
    size = facts.size;
    acks = λ serial among. let was = facts.acks serial among in
        record {
          report = was.report;
          among = among-left (a_report was.report) v.by_receiver _ was.among;
          named = was.named;
          taken = was.taken;
        };
    cancels = facts.cancels;
  };
  evicted = λ block red v r is f f' facts. record {
    size = facts.size;
    acks = λ serial among.
        let was = facts.acks serial among in
        record { report = was.report; among = was.among; named = was.named; taken = was.taken };
    cancels =
        facts.cancels;
  };
}
