-- What an engine wants memory for: for no quiet step.

use Rattle.std.proofs.Common.{◌≡◌, ℕ, Bool, true, false, not, ◌==◌, ◌||◌, nat_lt, nat_le, nat_eq, List, [], ◌∷◌, map, Option, None, Some, is_some, refl, sym, ◌∙◌, ap, subst}
use Rattle.std.specs.Prelude.{IsSomeAnd}
use Rattle.std.specs.Option.{option_map}
use Rattle.std.specs.Map.{lookup}
use Rattle.std.specs.Ordering.{nat_cmp}
use Rattle.std.specs.BTreeMap.{is_at}
use Rattle.ltp_segment.specs.declared.session.Step.{Step}
use Rattle.ltp_segment.specs.declared.session.TheConstants.{BLOCK_MAX}
use Rattle.ltp_segment.specs.Kinds.{is_red}
use Rattle.ltp_segment.specs.Policy.{PolicyValue}
use Rattle.ltp_segment.specs.Values.{PieceValue, ContentValue, a_receiver_cancel}
use Rattle.ltp_session.specs.declared.name.SessionName.{SessionName}
use Rattle.ltp_session.specs.Cells.{is_no_part}
use Rattle.ltp_session.specs.Step.{Change, stays, keeps, ends, after, StepValue, Sends, noting, note_refused, unreachable}
use Rattle.ltp_session.specs.Sender.{Sending, sender_answers, on_receiver_cancel}
use Rattle.ltp_session.specs.Receiver.{Receiving, Admission, receiver_answers, piece_step, first_piece, on_piece, on_sender_cancel, fresh, hands_up_green}
use Rattle.ltp_session.specs.Table.{find}
use Rattle.ltp_session.specs.Engine.{Party, Engine, EngineStep, replied_or_stranger, sender_replies, receiver_replies, with_receiver, without_evicted, evicted_by, list_of}
use Rattle.ltp_session.specs.Views.{SessionValue, changed, headed, green_view}
use Rattle.ltp_laws.proofs.TableLemmas.{find-put, find-without}
use Rattle.ltp_receiver.specs.Quiet.{kept_cells, IsQuietStep}
use Rattle.ltp_engine.specs.declared.inbound.Inbound.{Inbound}
use Rattle.ltp_engine.specs.Values.{InboundValue, EngineValue}
use Rattle.ltp_engine.specs.Tables.{table_of, AreLive, is_ended}
use Rattle.ltp_engine.specs.Inbound.{inbound_of, admission_in, evicted_for, kept_piece, TakesNext}
use Rattle.ltp_engine.specs.Sides.{SenderDoes, ReceiverDoes}
use Rattle.ltp_engine.specs.Shows.{Shows}
use Rattle.ltp_engine.specs.Quiet.{cells_at, IsQuiet, IsNeverQuiet}
use Rattle.ltp_engine.specs.Wants.{WantsNext, WantsReceived, WantsSent}
use Rattle.ltp_engine.specs.Ties.{made_of, own_step, peer_step}
use Rattle.ltp_engine.proofs.TableLemmas.{found-live, absent-live}
use Rattle.ltp_engine.proofs.OrderLemmas.{looked-up, find-by_number}
use Rattle.ltp_engine.proofs.ChangeLemmas.{over-kept}
use Rattle.ltp_engine.proofs.InboundLemmas.{opens, kept_step, absent-next}
use Rattle.ltp_engine.proofs.HearLemmas.{sender-hands, own-reply, peer-reply}

-- ---- a session that is over, or opens, or sends

ended-loud : (kept : Option Receiving) (step : StepValue Receiving) → is_some kept ≡ true → is_ended step.next ≡ true → IsQuietStep kept step → ⊥
ended-loud kept step some over quiet = by_change step.next kept some over quiet.octets where
  by_change : (change : Change Receiving) (kept : Option Receiving) → is_some kept ≡ true → is_ended change ≡ true → kept_cells (after change kept) ≡ kept_cells kept → ⊥
  by_change stays kept some over same = absurd (cc)
  by_change (keeps r) kept some over same = absurd (cc)
  by_change ends None some over same = absurd (cc)
  by_change ends (Some r) some over same = absurd (cc)

pub over-loud : (o : ℕ) (p : PolicyValue) (n : ℕ) (f : PolicyValue → Option Receiving → StepValue Receiving) (old : Inbound)
    (v w : SessionValue Receiving) (over : Bool) → AreLive o p old.receivers.entries → lookup (nat_eq n) old.receivers.entries ≡ Some v
    → w ≡ changed v (f v.policy v.kept).next → over ≡ not (is_some w.kept) → over ≡ true
    → IsQuietStep (find n (inbound_of old).receivers) (f p (find n (inbound_of old).receivers)) → ⊥
over-loud o p n f old v w over are_live holds moved_to is_over ended =
    let found = found-live o p n old.receivers.entries v are_live (looked-up n old.receivers.entries ∙ holds) in
    ended-loud (find n (inbound_of old).receivers) (f p (find n (inbound_of old).receivers))
    (ap (λ k. is_some k) (find-by_number n (table_of old.receivers.entries) ∙ found.found))
    (sym (over-kept o p n f old.receivers.entries v w over are_live holds moved_to is_over) ∙ ended)

pub opens-loud : (n : ℕ) (p : PolicyValue) (piece : PieceValue) (now : ℕ) → IsQuietStep None (piece_step p (fresh n) piece now) → ⊥
opens-loud n p piece now quiet =
    let (r, keeping) = opens n p piece now in
    some-none (subst (λ c. kept_cells (after c None) ≡ None) keeping quiet.octets) where
      some-none : {X : Type 0} {x : X} → Some x ≡ None → ⊥
      some-none is = cc

pub cancel-loud : (kept : Option Receiving) (reason : ℕ) → IsQuietStep kept (on_sender_cancel kept reason) → ⊥
cancel-loud None reason quiet = let h = quiet.out in absurd (cc)
cancel-loud (Some r) reason quiet = let h = quiet.out in absurd (cc)

-- ---- a piece

pub first-loud : (p : PolicyValue) (place : Admission) (piece : PieceValue) (now : ℕ) → is_red piece.kind ≡ true → place.closed ≡ false → place.full ≡ false
    → IsQuietStep None (first_piece p place piece now) → ⊥
first-loud p place piece now red open_is room quiet =
    let step : first_piece p place piece now ≡ piece_step p (fresh place.session) piece now = rw (red, open_is, room) refl in
    opens-loud place.session p piece now (subst (λ s. IsQuietStep None s) step quiet)

pub green-loud : (p : PolicyValue) (place : Admission) (piece : PieceValue) (now : ℕ) → is_red piece.kind ≡ false
    → IsQuietStep None (first_piece p place piece now) → ⊥
green-loud p place piece now green quiet =
    let step : first_piece p place piece now ≡ hands_up_green stays piece = rw green refl in
    some-none (sym (ap (λ (s : StepValue Receiving). s.green) step) ∙ quiet.green) where
      some-none : {X : Type 0} {x : X} → Some x ≡ None → ⊥
      some-none is = cc

pub refused-loud : (p : PolicyValue) (place : Admission) (kept : Option Receiving) (piece : PieceValue) (now : ℕ) → (piece.service == 1) ≡ false
    → IsQuietStep kept (on_piece p place kept piece now) → ⊥
refused-loud p place kept piece now other quiet =
    let step : on_piece p place kept piece now ≡ noting stays (a_receiver_cancel unreachable ∷ []) (note_refused piece.service) = rw other refl in
    some-none (sym (ap (λ (s : StepValue Receiving). s.out) step) ∙ quiet.out) where
      some-none : {X : Type 0} {x : X} {xs : List X} → x ∷ xs ≡ [] → ⊥
      some-none is = cc

pub next-loud : (p : PolicyValue) (place : Admission) (kept : Option Receiving) (piece : PieceValue) (now : ℕ) → (piece.service == 1) ≡ true
    → is_no_part place.most piece.offset piece.body ≡ false → WantsNext p piece now kept
    → IsQuietStep kept (on_piece p place kept piece now) → ⊥
next-loud p place None piece now served fits wants quiet = wants
next-loud p place (Some r) piece now served fits wants quiet =
    let step : on_piece p place (Some r) piece now ≡ kept_piece p r piece now = rw (served, fits) refl in
    wants (subst (λ s. IsQuietStep (Some r) s) step quiet)

pub absent-loud : (o : ℕ) (p : PolicyValue) (n : ℕ) (piece : PieceValue) (now most history : ℕ) (old mid : Inbound)
    → (piece.service == 1) ≡ true → is_no_part most piece.offset piece.body ≡ false → TakesNext o p n piece now old mid None
    → (IsQuietStep None (first_piece p (admission_in (inbound_of mid) most history n) piece now) → ⊥)
    → IsQuietStep (find n (inbound_of old).receivers) (on_piece p (admission_in (inbound_of old) most history n) (find n (inbound_of old).receivers) piece now) → ⊥
absent-loud o p n piece now most history old mid served fits takes loud quiet =
    let (absent, keep) = absent-next o p n piece now old mid takes in
    let step : on_piece p (admission_in (inbound_of old) most history n) None piece now ≡ first_piece p (admission_in (inbound_of old) most history n) piece now = rw (served, fits) refl in
    loud (subst (λ i. IsQuietStep None (first_piece p (admission_in i most history n) piece now)) (sym keep.is)
    (subst (λ s. IsQuietStep None s) step
    (subst (λ kept. IsQuietStep kept (on_piece p (admission_in (inbound_of old) most history n) kept piece now)) absent quiet)))

-- a session that is kept wants what its step is for
pub kept-loud : (o : ℕ) (p : PolicyValue) (n : ℕ) (piece : PieceValue) (now : ℕ) (old : Inbound) (v : SessionValue Receiving)
    → AreLive o p old.receivers.entries → lookup (nat_eq n) old.receivers.entries ≡ Some v
    → (IsQuietStep v.kept (kept_step v.policy v.kept piece now) → ⊥) → WantsNext p piece now (find n (inbound_of old).receivers)
kept-loud o p n piece now old v are_live holds loud =
    let found = found-live o p n old.receivers.entries v are_live (looked-up n old.receivers.entries ∙ holds) in
    subst (λ kept. WantsNext p piece now kept) (sym (find-by_number n (table_of old.receivers.entries) ∙ found.found))
    (subst (λ (x : SessionValue Receiving). IsQuietStep x.kept (kept_step x.policy x.kept piece now) → ⊥) found.is loud)

pub over-next : (o : ℕ) (p : PolicyValue) (n : ℕ) (piece : PieceValue) (now : ℕ) (old : Inbound) (v w : SessionValue Receiving) (over : Bool)
    → AreLive o p old.receivers.entries → lookup (nat_eq n) old.receivers.entries ≡ Some v
    → w ≡ changed v (kept_step v.policy v.kept piece now).next → over ≡ not (is_some w.kept) → over ≡ true
    → WantsNext p piece now (find n (inbound_of old).receivers)
over-next o p n piece now old v w over are_live holds moved_to is_over ended =
    let found = found-live o p n old.receivers.entries v are_live (looked-up n old.receivers.entries ∙ holds) in
    let at = find-by_number n (table_of old.receivers.entries) ∙ found.found in
    subst (λ kept. WantsNext p piece now kept) (sym at)
    (subst (λ kept. IsQuietStep kept (kept_step p kept piece now) → ⊥) at
    (over-loud o p n (λ q kept. kept_step q kept piece now) old v w over are_live holds moved_to is_over ended))

-- ---- a sending session

pub sends-kept : (o : ℕ) (p : PolicyValue) (n : ℕ) (f : PolicyValue → Option Sending → StepValue Sending) (old : List (ℕ × SessionValue Sending))
    (v : SessionValue Sending) → AreLive o p old → lookup (is_at (nat_cmp n)) old ≡ Some v → Sends (f v.policy v.kept) → Sends (f p (find n (table_of old)))
sends-kept o p n f old v are_live holds sends =
    let found = found-live o p n old v are_live holds in
    subst (λ kept. Sends (f p kept)) (sym found.found) (subst (λ (x : SessionValue Sending). Sends (f x.policy x.kept)) found.is sends)

pub sends-absent : (o : ℕ) (p : PolicyValue) (n : ℕ) (f : PolicyValue → Option Sending → StepValue Sending) (old : List (ℕ × SessionValue Sending))
    → AreLive o p old → lookup (is_at (nat_cmp n)) old ≡ None → Sends (f p None) → Sends (f p (find n (table_of old)))
sends-absent o p n f old are_live holds sends = subst (λ kept. Sends (f p kept)) (sym (absent-live o p n old are_live holds)) sends

pub cancel-sends : (kept : Option Sending) (reason : ℕ) → Sends (on_receiver_cancel kept reason)
cancel-sends None reason is = absurd (cc)
cancel-sends (Some s) reason is = absurd (cc)

pub some-sends : {X : Type 0} (x : X) (xs : List X) → x ∷ xs ≡ [] → ⊥
some-sends x xs is = cc

-- ---- a session's step, and the engine's

no-map : {X Y : Type 0} (f : X → Y) (xs : List X) → map f xs ≡ [] → xs ≡ []
no-map f [] is = refl
no-map f (x ∷ xs) is = absurd (cc)

no-list : {X Y : Type 0} (f : X → Y) (o : Option X) → list_of (option_map f o) ≡ [] → o ≡ None
no-list f None is = refl
no-list f (Some x) is = absurd (cc)

quiet-received : (p : Party) (e : Engine) (n : ℕ) (name : SessionName) (step : StepValue Receiving)
    → IsQuiet e (replied_or_stranger e name (receiver_replies p e n (Some step))) → IsQuietStep (find n e.receivers) step
unfolding with_receiver
quiet-received p e n name step quiet = record {
  out = no-map (headed name) step.out quiet.out;
  up = no-list _ step.up quiet.ups;
  green = no-list (green_view name.number) step.green quiet.greens;
  octets = by_change step.next (quiet.octets n);
} where
  by_change : (change : Change Receiving) → cells_at n (with_receiver (without_evicted e (evicted_by p e (find n e.receivers) change)) n change) ≡ cells_at n e
      → kept_cells (after change (find n e.receivers)) ≡ kept_cells (find n e.receivers)
  by_change stays same = refl
  by_change (keeps r) same = sym (ap (λ k. kept_cells k) (find-put n r _)) ∙ same
  by_change ends same = sym (ap (λ k. kept_cells k) (find-without n _)) ∙ same

quiet-sent : (e : Engine) (n : ℕ) (name : SessionName) (step : StepValue Sending)
    → IsQuiet e (replied_or_stranger e name (sender_replies e n (Some step))) → Sends step → ⊥
quiet-sent e n name step quiet sends = sends (no-map (headed name) step.out quiet.out)

pub never-as : (v : EngineValue) (f g : Engine → EngineStep) → IsNeverQuiet v f → ((e : Engine) → f e ≡ g e) → IsNeverQuiet v g
never-as v f g never same e shows quiet = never e shows (subst (λ s. IsQuiet e s) (sym (same e)) quiet)

-- ---- a segment of a session that the engine began

pub own-wants : (p : Party) (next n now : ℕ) (content : ContentValue) (senders : List (ℕ × SessionValue Sending)) (inbound : Inbound)
    → nat_le p.first n ≡ true → nat_lt n next ≡ true → WantsSent (sender_answers p.policy (find n (table_of senders)) content now)
    → IsNeverQuiet (made_of false p next senders inbound) (λ e. own_step p e n content now)
own-wants p next n now content senders inbound low below wants e shows quiet = by_answer (sender_answers p.policy (find n (table_of senders)) content now) refl wants where
  by_answer : (answer : Option (StepValue Sending)) → sender_answers p.policy (find n (table_of senders)) content now ≡ answer → WantsSent answer → ⊥
  by_answer None is wants = wants
  by_answer (Some step) is wants = quiet-sent e n _ step
      (subst (λ s. IsQuiet e s) (own-reply p next n now content senders inbound (Some step) e low below is shows) quiet) wants

-- a sender hands nothing up
pub own-hands : (p : Party) (n now : ℕ) (content : ContentValue) (senders senders' : List (ℕ × SessionValue Sending)) (told : Option Step)
    → SenderDoes p.own p.policy n (sender_answers p.policy (find n (table_of senders)) content now) senders senders' told
    → IsSomeAnd told (λ step. (is_some step.up || is_some step.green) ≡ true) → ⊥
own-hands p n now content senders senders' told does = by_answer (sender_answers p.policy (find n (table_of senders)) content now) refl told does where
  by_answer : (answer : Option (StepValue Sending)) → sender_answers p.policy (find n (table_of senders)) content now ≡ answer → (told : Option Step)
      → SenderDoes p.own p.policy n answer senders senders' told → IsSomeAnd told (λ step. (is_some step.up || is_some step.green) ≡ true) → ⊥
  by_answer None is None does some = some
  by_answer None is (Some t) does some = absurd does
  by_answer (Some step) is None does some = some
  by_answer (Some step) is (Some t) does some =
      let (no_up, no_green) = sender-hands p.policy (find n (table_of senders)) content now step is in
      let none : (is_some t.up || is_some t.green) ≡ false = rw (does.says, no_up, no_green) refl in
      absurd (cc)

-- ---- a segment of a session that the peer began

never-peer : (p : Party) (next n now : ℕ) (content : ContentValue) (senders : List (ℕ × SessionValue Sending)) (old : Inbound) (step : StepValue Receiving) (e : Engine)
    → p.most ≡ BLOCK_MAX → receiver_answers p.policy (admission_in (inbound_of old) BLOCK_MAX p.history n) (find n (inbound_of old).receivers) content now ≡ Some step
    → Shows (made_of false p next senders old) e → IsQuiet e (peer_step p e n content now) → IsQuietStep (find n (inbound_of old).receivers) step
never-peer p next n now content senders old step e greatest is shows quiet =
    subst (λ kept. IsQuietStep kept step) (ap (λ t. find n t) shows.inbound.receivers)
    (quiet-received p e n _ step (subst (λ s. IsQuiet e s) (peer-reply p next n now content senders old (Some step) e greatest is shows) quiet))

pub peer-wants : (p : Party) (next n now : ℕ) (content : ContentValue) (senders : List (ℕ × SessionValue Sending)) (old : Inbound)
    → p.most ≡ BLOCK_MAX
    → WantsReceived (find n (inbound_of old).receivers) (receiver_answers p.policy (admission_in (inbound_of old) BLOCK_MAX p.history n) (find n (inbound_of old).receivers) content now)
    → IsNeverQuiet (made_of false p next senders old) (λ e. peer_step p e n content now)
peer-wants p next n now content senders old greatest wants e shows quiet =
    by_answer (receiver_answers p.policy (admission_in (inbound_of old) BLOCK_MAX p.history n) (find n (inbound_of old).receivers) content now) refl wants where
      by_answer : (answer : Option (StepValue Receiving)) → receiver_answers p.policy (admission_in (inbound_of old) BLOCK_MAX p.history n) (find n (inbound_of old).receivers) content now ≡ answer
          → WantsReceived (find n (inbound_of old).receivers) answer → ⊥
      by_answer None is wants = wants
      by_answer (Some step) is wants = wants (never-peer p next n now content senders old step e greatest is shows quiet)

-- a quiet step evicts no session
none-evicted : (sessions : ℕ) (i : InboundValue) (kept : Option Receiving) (step : StepValue Receiving) → IsQuietStep kept step
    → evicted_for sessions i kept step.next ≡ None
none-evicted sessions i (Some r) step quiet = refl
none-evicted sessions i None step quiet = by_change step.next quiet.octets where
  by_change : (change : Change Receiving) → kept_cells (after change None) ≡ None → evicted_for sessions i None change ≡ None
  by_change stays same = refl
  by_change (keeps r) same = absurd (cc)
  by_change ends same = refl

pub peer-hands : (p : Party) (next n now : ℕ) (content : ContentValue) (senders : List (ℕ × SessionValue Sending)) (old new : Inbound) (told : Option (Option ℕ × Step))
    → p.most ≡ BLOCK_MAX
    → ReceiverDoes p.peer p.policy p.sessions n (receiver_answers p.policy (admission_in (inbound_of old) BLOCK_MAX p.history n) (find n (inbound_of old).receivers) content now) old new told
    → IsSomeAnd told (λ t. (is_some t.0 || (is_some t.1.up || is_some t.1.green)) ≡ true)
    → IsNeverQuiet (made_of false p next senders old) (λ e. peer_step p e n content now)
peer-hands p next n now content senders old new told greatest does some e shows quiet =
    by_answer (receiver_answers p.policy (admission_in (inbound_of old) BLOCK_MAX p.history n) (find n (inbound_of old).receivers) content now) refl told does some where
      by_answer : (answer : Option (StepValue Receiving)) → receiver_answers p.policy (admission_in (inbound_of old) BLOCK_MAX p.history n) (find n (inbound_of old).receivers) content now ≡ answer
          → (told : Option (Option ℕ × Step)) → ReceiverDoes p.peer p.policy p.sessions n answer old new told
          → IsSomeAnd told (λ t. (is_some t.0 || (is_some t.1.up || is_some t.1.green)) ≡ true) → ⊥
      by_answer None is None does some = some
      by_answer None is (Some t) does some = absurd does
      by_answer (Some step) is None does some = some
      by_answer (Some step) is (Some t) does some =
          let own = never-peer p next n now content senders old step e greatest is shows quiet in
          let none : (is_some t.0 || (is_some t.1.up || is_some t.1.green)) ≡ false =
          rw (does.gone, none-evicted p.sessions (inbound_of old) (find n (inbound_of old).receivers) step own, does.says, own.up, own.green) refl in
          absurd (cc)
