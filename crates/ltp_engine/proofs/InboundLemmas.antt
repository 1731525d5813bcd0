-- The receiving side after a step of a session.

use Rattle.std.proofs.Common.{◌≡◌, ℕ, ◌<◌, ◌≤◌, Bool, true, false, not, ◌==◌, List, [], ◌∷◌, ◌++◌, Option, None, Some, is_some, refl, sym, ◌∙◌, ap, arith, subst, if◌then◌else◌}
use Rattle.std.specs.Ordering.{nat_cmp}
use Rattle.std.specs.BTreeMap.{is_at}
use Rattle.indexmap.specs.IndexMap.{insert_entry}
use Rattle.indexmap.proofs.CallerLemmas.{insert_entry-new}
use Rattle.std.specs.Map.{lookup, set_value, remove_entry, keys_of}
use Rattle.std.specs.List.{IsDistinct}
use Rattle.std.proofs.lemmas.Bool.{eqb-true, eq-eqb}
use Rattle.std.proofs.lemmas.List.{map-append}
use Rattle.ltp_segment.specs.declared.session.Step.{Step}
use Rattle.ltp_segment.specs.Policy.{PolicyValue}
use Rattle.ltp_segment.specs.Values.{ReportValue, PieceValue}
use Rattle.ltp_session.specs.Step.{Change, stays, keeps, ends, StepValue, sending, noting, note_bad_bounds, miscoloured, by_system}
use Rattle.ltp_session.specs.Receiver.{Receiving, piece_stop, is_outside, is_miscoloured, takes_red, takes_checkpoint, takes_green, rejects, reports, report_of, with_red, with_handed_up, red_part, piece_step, fresh, on_report_ack, on_piece, piece_for, first_piece, ReceivingPhase, receiver_open, receiver_cancelling, settles, acknowledged_in, acknowledged, on_receiver_cancel_ack, on_sender_cancel, is_cancelling}
use Rattle.ltp_session.specs.Claims.{is_whole_claim}
use Rattle.ltp_session.specs.Cells.{is_no_part}
use Rattle.ltp_segment.specs.declared.session.Note.TheVariants as notes
use Rattle.ltp_engine.specs.Values.{InboundValue}
use Rattle.ltp_session.specs.Table.{find, without}
use Rattle.ltp_laws.proofs.TableLemmas.{find-without, find-without_other}
use Rattle.ltp_session.specs.Views.{SessionValue, changed, answer_of, note_of}
use Rattle.ltp_session.specs.Engine.{longest_untouched}
use Rattle.ltp_session.specs.Timer.{is_past_serials}
use Rattle.ltp_segment.specs.Kinds.{is_red, is_checkpoint, ends_red_part}
use Rattle.ltp_receiver.specs.Receiver.{on_open_piece, is_kept_cancelling, new_session, IsOpen}
use Rattle.ltp_engine.specs.Notes.{is_taken}
use Rattle.std.specs.Option.{option_map}
use Rattle.std.proofs.Common.{length, slice_get, remove, suc, nat_eq, nat_le, nat_lt, ◌&&◌, ◌||◌}
use Rattle.std.proofs.lemmas.Bool.Decides.{nat_tests}
use Rattle.ltp_engine.specs.Closed.{also_closed}
use Rattle.ltp_engine.specs.Tables.{table_of, by_number, live, live_entry, live_all, AreLive}
use Rattle.ltp_engine.specs.Inbound.{inbound_of, Keeps, settled_in, Receives, evicted_in, evicted_for, with_room, Takes, TakesKept, TakesNext, kept_piece, admission_in}
use Rattle.ltp_engine.specs.declared.inbound.Inbound.{Inbound}
use Rattle.ltp_engine.proofs.TableLemmas.{found-live, lookup-live_all}
use Rattle.ltp_engine.proofs.OrderLemmas.{looked-up, found-first, find-by_number, by_number-last, keys-last, removed-absent, length-by_number, first-removed}
use Rattle.ltp_engine.proofs.ChangeLemmas.{Touches, live-of, distinct-live, Changed, changed-gone, keeps-changed, receives-kept, absent-of, keeps-same_entries}

-- ---- which steps touch a session

settles-touches : (r : Receiving) (report : ReportValue) → Touches (settles r report).next true
settles-touches r report = by_test (is_whole_claim r.length report.claims) where
  by_test : (whole : Bool) → Touches (if whole then sending ends [] else sending (keeps (record r { phase = receiver_open None })) []).next true
  by_test true = tt
  by_test false = refl

pub acknowledged-touches : (r : Receiving) (serial : ℕ) → Touches (acknowledged r serial).next true
unfolding acknowledged
acknowledged-touches r serial = by_phase r.phase where
  by_phase : (phase : ReceivingPhase) → Touches (acknowledged_in r phase serial).next true
  by_phase (receiver_open None) = refl
  by_phase (receiver_open (Some pending)) = by_test (pending.report.serial == serial) where
    by_test : (same : Bool) → Touches (if same then settles r pending.report else sending (keeps r) []).next true
    by_test true = settles-touches r pending.report
    by_test false = refl
  by_phase (receiver_cancelling reason timer) = refl

pub cancel-touches : (r : Receiving) → Touches (on_receiver_cancel_ack (Some r)).next false
cancel-touches r = by_test (is_cancelling r.phase) where
  by_test : (cancelling : Bool) → Touches (if cancelling then sending ends [] else sending stays []).next false
  by_test true = tt
  by_test false = refl

-- ---- what acknowledgements answer: nothing

abbrev pub silent : Step
silent = record { out = []; up = None; green = None; note = None }

record IsQuiet (step : StepValue Receiving) : Type 0 where
  pub out : step.out ≡ []
  pub up : step.up ≡ None
  pub green : step.green ≡ None
  pub note : step.note ≡ None

quiet : (change : Change Receiving) → IsQuiet (sending change [])
quiet change = record { out = refl; up = refl; green = refl; note = refl }

settles-quiet : (r : Receiving) (report : ReportValue) → IsQuiet (settles r report)
settles-quiet r report = by_test (is_whole_claim r.length report.claims) where
  by_test : (whole : Bool) → IsQuiet (if whole then sending ends [] else sending (keeps (record r { phase = receiver_open None })) [])
  by_test true = quiet ends
  by_test false = quiet (keeps (record r { phase = receiver_open None }))

acknowledged-quiet : (r : Receiving) (serial : ℕ) → IsQuiet (acknowledged r serial)
unfolding acknowledged
acknowledged-quiet r serial = by_phase r.phase where
  by_phase : (phase : ReceivingPhase) → IsQuiet (acknowledged_in r phase serial)
  by_phase (receiver_open None) = quiet (keeps r)
  by_phase (receiver_open (Some pending)) = by_test (pending.report.serial == serial) where
    by_test : (same : Bool) → IsQuiet (if same then settles r pending.report else sending (keeps r) [])
    by_test true = settles-quiet r pending.report
    by_test false = quiet (keeps r)
  by_phase (receiver_cancelling reason timer) = quiet (keeps r)

quiet-silent : (o n : ℕ) (step : StepValue Receiving) → IsQuiet step → silent ≡ answer_of (record { originator = o; number = n }) step
quiet-silent o n step is = rw (is.out, is.up, is.green, is.note) refl

pub ack-silent : (o n : ℕ) (kept : Option Receiving) (serial : ℕ) → silent ≡ answer_of (record { originator = o; number = n }) (on_report_ack kept serial)
ack-silent o n None serial = refl
ack-silent o n (Some r) serial = quiet-silent o n (acknowledged r serial) (acknowledged-quiet r serial)

pub cancel-silent : (o n : ℕ) (kept : Option Receiving) → silent ≡ answer_of (record { originator = o; number = n }) (on_receiver_cancel_ack kept)
cancel-silent o n None = refl
cancel-silent o n (Some r) = quiet-silent o n (on_receiver_cancel_ack (Some r)) (by_test (is_cancelling r.phase)) where
  by_test : (cancelling : Bool) → IsQuiet (if cancelling then sending ends [] else sending stays [])
  by_test true = quiet ends
  by_test false = quiet stays

-- ---- a session that is over at once

present-live : (o : ℕ) (p : PolicyValue) (n : ℕ) (old : Inbound) → AreLive o p old.receivers.entries
    → is_some (lookup (nat_eq n) old.receivers.entries) ≡ is_some (find n (inbound_of old).receivers)
present-live o p n old are_live =
    ap (λ x. is_some x) (sym (looked-up n old.receivers.entries)) ∙ (ap (λ es. is_some (lookup (is_at (nat_cmp n)) es)) are_live
    ∙ (ap (λ x. is_some x) (lookup-live_all o p n (table_of old.receivers.entries)) ∙ (by_kept (find n (table_of old.receivers.entries))
    ∙ ap (λ x. is_some x) (sym (find-by_number n (table_of old.receivers.entries)))))) where
      by_kept : (kept : Option Receiving) → is_some (option_map (live o p n) kept) ≡ is_some kept
      by_kept None = refl
      by_kept (Some r) = refl

pub ended-live : (o : ℕ) (p : PolicyValue) (n : ℕ) (old new : Inbound) → AreLive o p old.receivers.entries → IsDistinct nat_eq (keys_of old.receivers.entries)
    → new.receivers.entries ≡ remove_entry (nat_eq n) old.receivers.entries → new.closed ≡ also_closed n old.closed
    → Keeps o p new (settled_in (inbound_of old) n ends)
ended-live o p n old new are_live distinct removed closed =
    keeps-changed o p n ends old new are_live (subst (λ es. Changed o p n ends (table_of old.receivers.entries) es)
    (sym (removed ∙ ap (λ es. remove_entry (nat_eq n) es) are_live))
    (changed-gone o p n (table_of old.receivers.entries) (distinct-live o p old.receivers.entries are_live distinct))) closed

pub sender_cancel-kept : (o : ℕ) (p : PolicyValue) (n reason : ℕ) (old new : Inbound) (told : Step) (b : Bool) → AreLive o p old.receivers.entries
    → b ≡ is_some (lookup (nat_eq n) old.receivers.entries) → b ≡ true → IsDistinct nat_eq (keys_of old.receivers.entries)
    → new.receivers.entries ≡ remove_entry (nat_eq n) old.receivers.entries → new.closed ≡ also_closed n old.closed
    → ((r : Receiving) → told ≡ answer_of (record { originator = o; number = n }) (on_sender_cancel (Some r) reason))
    → Receives o p n (on_sender_cancel (find n (inbound_of old).receivers) reason) old new told
sender_cancel-kept o p n reason old new told b are_live looked holds distinct removed closed says =
    go (find n (inbound_of old).receivers) (sym (present-live o p n old are_live) ∙ (sym looked ∙ holds)) where
      go : (kept : Option Receiving) → is_some kept ≡ true → Receives o p n (on_sender_cancel kept reason) old new told
      go None holds = absurd (cc)
      go (Some r) holds = record { next = ended-live o p n old new are_live distinct removed closed; says = says r }

pub sender_cancel-absent : (o : ℕ) (p : PolicyValue) (n reason : ℕ) (old : Inbound) (told : Step) (b : Bool) → AreLive o p old.receivers.entries
    → b ≡ is_some (lookup (nat_eq n) old.receivers.entries) → (b ≡ true → ⊥)
    → told ≡ answer_of (record { originator = o; number = n }) (on_sender_cancel None reason)
    → Receives o p n (on_sender_cancel (find n (inbound_of old).receivers) reason) old old told
sender_cancel-absent o p n reason old told b are_live looked absent says =
    go (find n (inbound_of old).receivers) (λ h. absent (looked ∙ (present-live o p n old are_live ∙ h))) where
      go : (kept : Option Receiving) → (is_some kept ≡ true → ⊥) → Receives o p n (on_sender_cancel kept reason) old old told
      go None absent = record { next = record { live = are_live; is = refl }; says = says }
      go (Some r) absent = absurd (absent refl)

-- ---- making room

length-live : (o : ℕ) (p : PolicyValue) (i : Inbound) → AreLive o p i.receivers.entries → IsDistinct nat_eq (keys_of i.receivers.entries)
    → length (inbound_of i).receivers ≡ length i.receivers.entries
length-live o p i are_live distinct =
    length-by_number (table_of i.receivers.entries) (distinct-live o p i.receivers.entries are_live distinct)
    ∙ sym (ap (λ xs. length xs) are_live ∙ length-live_all o p (table_of i.receivers.entries)) where
      length-live_all : (o : ℕ) (p : PolicyValue) (t : List (ℕ × Receiving)) → length (live_all o p t) ≡ length t
      length-live_all o p [] = refl
      length-live_all o p (e ∷ t) = ap suc (length-live_all o p t)

pub kept-are : (o : ℕ) (p : PolicyValue) (i : Inbound) (len : ℕ) → AreLive o p i.receivers.entries → IsDistinct nat_eq (keys_of i.receivers.entries)
    → len ≡ length i.receivers.entries → len ≡ length (inbound_of i).receivers
kept-are o p i len are_live distinct is = is ∙ sym (length-live o p i are_live distinct)

pub room-left : (sessions o : ℕ) (p : PolicyValue) (i : Inbound) (n : ℕ) → AreLive o p i.receivers.entries → IsDistinct nat_eq (keys_of i.receivers.entries)
    → n ≡ length i.receivers.entries → n < sessions → None ≡ evicted_in sessions (inbound_of i)
unfolding evicted_in
room-left sessions o p i n are_live distinct is low =
    let few : nat_le sessions (length (inbound_of i).receivers) ≡ false = few_of (length (inbound_of i).receivers) (is ∙ sym (length-live o p i are_live distinct)) in
    rw few refl where
      few_of : (m : ℕ) → n ≡ m → nat_le sessions m ≡ false
      few_of m is = grind (arith, nat_tests)

-- where no session stands first there is none
pub none-first : (sessions : ℕ) (i : Inbound) → None ≡ slice_get i.receivers.entries 0 → None ≡ evicted_in sessions (inbound_of i)
unfolding evicted_in by_number
none-first sessions i none = by_entries i.receivers.entries none where
  nobody : Option ℕ
  nobody = None

  by_many : (many : Bool) → nobody ≡ (if many then nobody else nobody)
  by_many true = refl
  by_many false = refl

  by_entries : (es : List (ℕ × SessionValue Receiving)) → None ≡ slice_get es 0
      → None ≡ (if nat_le sessions (length (by_number (table_of es))) then longest_untouched (keys_of es) (by_number (table_of es)) else None)
  by_entries [] is = by_many (nat_le sessions 0)
  by_entries (e ∷ es) is = absurd (cc)

-- the session that is longest untouched stands first
longest-first : (o : ℕ) (p : PolicyValue) (i : Inbound) (e : ℕ × SessionValue Receiving) → AreLive o p i.receivers.entries → slice_get i.receivers.entries 0 ≡ Some e
    → Some e.0 ≡ longest_untouched (inbound_of i).touched (inbound_of i).receivers
longest-first o p i e are_live first = by_table (table_of i.receivers.entries) are_live where
  by_table : (t : List (ℕ × Receiving)) → i.receivers.entries ≡ live_all o p t → Some e.0 ≡ longest_untouched (keys_of i.receivers.entries) (by_number (table_of i.receivers.entries))
  by_table [] is = absurd (none (sym (ap (λ es. slice_get es 0) is) ∙ first)) where
    none : {X : Type 0} {x : X} → None ≡ Some x → ⊥
    none is = cc
  by_table ((k, r) ∷ t) is =
      let here : e ≡ (k, live o p k r) = same (sym first ∙ ap (λ es. slice_get es 0) is) in
      let found : find k (by_number (table_of i.receivers.entries)) ≡ Some r =
      find-by_number k (table_of i.receivers.entries) ∙ (ap (λ xs. find k xs) (live-of o p i.receivers.entries ((k, r) ∷ t) is).table ∙ found-first k r t) in
      ap (λ x. Some x.0) here ∙ sym (ap (λ ks. longest_untouched ks (by_number (table_of i.receivers.entries))) (live-of o p i.receivers.entries ((k, r) ∷ t) is).numbers
      ∙ ap (λ o. option_map (λ r. k) o) found) where
        same : {X : Type 0} {x y : X} → Some x ≡ Some y → x ≡ y
        same is = cc

pub room-made : (sessions o : ℕ) (p : PolicyValue) (i : Inbound) (n : ℕ) (e : ℕ × SessionValue Receiving) → AreLive o p i.receivers.entries → IsDistinct nat_eq (keys_of i.receivers.entries)
    → n ≡ length i.receivers.entries → sessions ≤ n → slice_get i.receivers.entries 0 ≡ Some e → Some e.0 ≡ evicted_in sessions (inbound_of i)
unfolding evicted_in
room-made sessions o p i n e are_live distinct is high first =
    let full : nat_le sessions (length (inbound_of i).receivers) ≡ true = full_of (length (inbound_of i).receivers) (is ∙ sym (length-live o p i are_live distinct)) in
    rw full (longest-first o p i e are_live first) where
      full_of : (m : ℕ) → n ≡ m → nat_le sessions m ≡ true
      full_of m is = grind (arith, nat_tests)

pub first-gone : (o : ℕ) (p : PolicyValue) (old new : Inbound) (e : ℕ × SessionValue Receiving) → AreLive o p old.receivers.entries → IsDistinct nat_eq (keys_of old.receivers.entries)
    → slice_get old.receivers.entries 0 ≡ Some e → new.receivers.entries ≡ remove old.receivers.entries 0 → new.closed ≡ also_closed e.0 old.closed
    → Keeps o p new (with_room (inbound_of old) (Some e.0))
first-gone o p old new e are_live distinct first removed closed =
    ended-live o p e.0 old new are_live distinct (removed ∙ first-removed old.receivers.entries e first) closed

-- ---- pieces

-- what a session does about a piece, where it is kept
abbrev pub kept_step : PolicyValue → Option Receiving → PieceValue → ℕ → StepValue Receiving
kept_step policy None piece now = sending stays []
kept_step policy (Some r) piece now = kept_piece policy r piece now

pub open-step : (p : PolicyValue) (kept : Option Receiving) (piece : PieceValue) (now : ℕ) → is_kept_cancelling kept ≡ false
    → on_open_piece p kept piece now ≡ kept_step p kept piece now
open-step p None piece now is = refl
open-step p (Some r) piece now is = rw is refl

pub takes-next : (o : ℕ) (p : PolicyValue) (n : ℕ) (piece : PieceValue) (now : ℕ) (old new : Inbound) (v : SessionValue Receiving) (told : Step)
    → AreLive o p old.receivers.entries → lookup (nat_eq n) old.receivers.entries ≡ Some v
    → Receives o p n (kept_step p (find n (inbound_of old).receivers) piece now) old new told
    → TakesNext o p n piece now old new (Some told)
takes-next o p n piece now old new v told are_live holds does =
    let found = found-live o p n old.receivers.entries v are_live (looked-up n old.receivers.entries ∙ holds) in
    go (find n (inbound_of old).receivers) (find-by_number n (table_of old.receivers.entries) ∙ found.found) does where
      go : (kept : Option Receiving) → {r : Receiving} → kept ≡ Some r → Receives o p n (kept_step p kept piece now) old new told
          → TakesKept o p n piece now old new kept (Some told)
      go None is does = absurd (cc)
      go (Some s) is does = does

pub takes-none : (o : ℕ) (p : PolicyValue) (n : ℕ) (piece : PieceValue) (now : ℕ) (old new : Inbound)
    → AreLive o p old.receivers.entries → lookup (nat_eq n) old.receivers.entries ≡ None
    → new.receivers.entries ≡ old.receivers.entries → new.closed ≡ old.closed → TakesNext o p n piece now old new None
takes-none o p n piece now old new are_live holds same closed = rw (absent-of o p n old are_live holds) (keeps-same_entries o p old new are_live same closed)

both_arms : {X : Type 0} (P : X → Type 0) (b : Bool) (x y : X) → P x → P y → P (if b then x else y)
both_arms P true x y at_x at_y = at_x
both_arms P false x y at_x at_y = at_y

-- a step touches its session exactly where it doesn't note a piece that doesn't fit
abbrev pub Tells : ℕ → StepValue Receiving → Type 0
Tells n step = Touches step.next (is_taken (option_map (note_of n) step.note))

tells-checkpoint : (n : ℕ) (p : PolicyValue) (r : Receiving) (piece : PieceValue) (now : ℕ) → Tells n (takes_checkpoint p r piece now)
tells-checkpoint n p r piece now = both_arms (Tells n) (is_past_serials r.serial) (rejects p (with_handed_up r) by_system now (red_part r)) (reports p r (report_of r piece) now) refl refl

tells-red : (n : ℕ) (p : PolicyValue) (r : Receiving) (piece : PieceValue) (now : ℕ) → Tells n (takes_red p r piece now)
tells-red n p r piece now = both_arms (Tells n) (is_checkpoint piece.kind) (takes_checkpoint p r piece now)
    (record { next = keeps (with_handed_up r); out = []; up = red_part r; green = None; note = None }) (tells-checkpoint n p r piece now) refl

pub tells-piece : (n : ℕ) (p : PolicyValue) (r : Receiving) (piece : PieceValue) (now : ℕ) → Tells n (piece_step p r piece now)
unfolding piece_step
tells-piece n p r piece now =
    let inner = both_arms (Tells n) (is_red piece.kind) (takes_red p (with_red r piece) piece now) (takes_green r piece) (tells-red n p (with_red r piece) piece now) refl in
    let middle = both_arms (Tells n) (is_miscoloured r piece) (rejects p r miscoloured now None)
    (if is_red piece.kind then takes_red p (with_red r piece) piece now else takes_green r piece) refl inner in
    both_arms (Tells n) (is_outside r piece) (noting stays [] note_bad_bounds)
    (if is_miscoloured r piece then rejects p r miscoloured now None else (if is_red piece.kind then takes_red p (with_red r piece) piece now else takes_green r piece)) refl middle

pub tells-kept : (o : ℕ) (p : PolicyValue) (n : ℕ) (v : SessionValue Receiving) (piece : PieceValue) (now : ℕ) (taken : Bool) (told : Step)
    → is_kept_cancelling v.kept ≡ false → told ≡ answer_of v.name (kept_step v.policy v.kept piece now) → taken ≡ is_taken told.note
    → (r : Receiving) → v ≡ live o p n r → Touches (kept_step p (Some r) piece now).next taken
tells-kept o p n v piece now taken told open_is says is_taken_of r is = go (says_at is) (open_at is) where
  says_at : v ≡ live o p n r → told ≡ answer_of (record { originator = o; number = n }) (kept_step p (Some r) piece now)
  says_at is = subst (λ x. told ≡ answer_of x.name (kept_step x.policy x.kept piece now)) is says

  open_at : v ≡ live o p n r → is_cancelling r.phase ≡ false
  open_at is = subst (λ x. is_kept_cancelling x.kept ≡ false) is open_is

  go : told ≡ answer_of (record { originator = o; number = n }) (kept_step p (Some r) piece now) → is_cancelling r.phase ≡ false
      → Touches (kept_step p (Some r) piece now).next taken
  go says open_is = rw (is_taken_of, says, open_is) (tells-piece n p r piece now)

-- ---- a session opens

pub record Opens (n : ℕ) (p : PolicyValue) (piece : PieceValue) (now : ℕ) : Type 0 where
  pub state : Receiving
  pub is : (piece_step p (fresh n) piece now).next ≡ keeps state

abbrev pub IsKeeping : Change Receiving → Type 0
IsKeeping change = (r : Receiving) × (change ≡ keeps r)

fresh-red : (n : ℕ) (p : PolicyValue) (r : Receiving) (piece : PieceValue) (now : ℕ) → IsKeeping (takes_red p r piece now).next
fresh-red n p r piece now = both_arms (λ s. IsKeeping s.next) (is_checkpoint piece.kind) (takes_checkpoint p r piece now)
    (record { next = keeps (with_handed_up r); out = []; up = red_part r; green = None; note = None })
    (both_arms (λ s. IsKeeping s.next) (is_past_serials r.serial) (rejects p (with_handed_up r) by_system now (red_part r)) (reports p r (report_of r piece) now) (_, refl) (_, refl))
    (_, refl)

fresh-fits : (n : ℕ) (piece : PieceValue) → is_outside (fresh n) piece ≡ false
fresh-fits n piece = by_tests (is_red piece.kind) (ends_red_part piece.kind) (nat_lt (piece_stop piece) 0) (none_below (piece_stop piece)) where
  none_below : (stop : ℕ) → nat_lt stop 0 ≡ false
  none_below stop = grind (arith, nat_tests)

  by_tests : (red end below : Bool) → below ≡ false → (red && (false || (end && (false || below)))) ≡ false
  by_tests true true below is = is
  by_tests true false below is = refl
  by_tests false end below is = refl

pub opens : (n : ℕ) (p : PolicyValue) (piece : PieceValue) (now : ℕ) → IsKeeping (piece_step p (fresh n) piece now).next
unfolding piece_step
opens n p piece now = rw (fresh-fits n piece)
    (both_arms (λ s. IsKeeping s.next) (is_miscoloured (fresh n) piece) (rejects p (fresh n) miscoloured now None)
    (if is_red piece.kind then takes_red p (with_red (fresh n) piece) piece now else takes_green (fresh n) piece) (_, refl)
    (both_arms (λ s. IsKeeping s.next) (is_red piece.kind) (takes_red p (with_red (fresh n) piece) piece now) (takes_green (fresh n) piece)
    (fresh-red n p (with_red (fresh n) piece) piece now) (_, refl)))

-- a session that isn't kept is put in
inserted-last : (o : ℕ) (p : PolicyValue) (n : ℕ) (r : Receiving) (mid : Inbound) → AreLive o p mid.receivers.entries → IsDistinct nat_eq (keys_of mid.receivers.entries)
    → find n (inbound_of mid).receivers ≡ None
    → Changed o p n (keeps r) (table_of mid.receivers.entries) (insert_entry nat_eq mid.receivers.entries n (live o p n r))
inserted-last o p n r mid are_live distinct absent =
    let t = table_of mid.receivers.entries in
    let gone : find n t ≡ None = sym (find-by_number n t) ∙ absent in
    let apart : IsDistinct nat_eq (keys_of t) = distinct-live o p mid.receivers.entries are_live distinct in
    let looked : lookup (nat_eq n) mid.receivers.entries ≡ None =
    ap (λ es. lookup (nat_eq n) es) are_live ∙ (sym (looked-up n (live_all o p t)) ∙ (lookup-live_all o p n t ∙ ap (λ k. option_map (live o p n) k) gone)) in
    record {
      now = remove_entry (nat_eq n) t ++ (n, r) ∷ [];
      is = insert_entry-new nat_eq mid.receivers n (live o p n r) looked ∙ (ap (λ es. es ++ (n, live o p n r) ∷ []) (are_live ∙ ap (λ xs. live_all o p xs) (sym (removed-absent n t gone)))
          ∙ sym (map-append (live_entry o p) (remove_entry (nat_eq n) t) ((n, r) ∷ [])));
      next = by_number-last n r t apart;
      touched = keys-last n r t apart;
    }

absent-room : (i : InboundValue) (n : ℕ) (gone : Option ℕ) → find n i.receivers ≡ None → find n (with_room i gone).receivers ≡ None
absent-room i n None absent = absent
absent-room i n (Some m) absent = by_test (nat_eq n m) refl where
  by_test : (same : Bool) → nat_eq n m ≡ same → find n (without m i.receivers) ≡ None
  by_test true is = subst (λ k. find k (without m i.receivers) ≡ None) (sym (eqb-true n m is)) (find-without m i.receivers)
  by_test false is = find-without_other n m i.receivers (λ h. differ (eq-eqb n m h) is) ∙ absent where
    differ : {b : Bool} → b ≡ true → b ≡ false → ⊥
    differ is also = cc

pub begun-live : (sessions o : ℕ) (p : PolicyValue) (n : ℕ) (piece : PieceValue) (now : ℕ) (old mid new : Inbound) (w : SessionValue Receiving) (told : Option ℕ × Step)
    → find n (inbound_of old).receivers ≡ None
    → w ≡ changed (new_session (record { originator = o; number = n }) p) (piece_step p (fresh n) piece now).next
    → told.1 ≡ answer_of (record { originator = o; number = n }) (piece_step p (fresh n) piece now)
    → told.0 ≡ evicted_in sessions (inbound_of old) → Keeps o p mid (with_room (inbound_of old) told.0)
    → IsDistinct nat_eq (keys_of mid.receivers.entries) → new.receivers.entries ≡ insert_entry nat_eq mid.receivers.entries n w → new.closed ≡ mid.closed
    → Takes o p sessions n (piece_step p (fresh n) piece now) old new told
begun-live sessions o p n piece now old mid new w told absent to says gone room distinct inserted closed =
    let (r, keeping) = opens n p piece now in
    let state : w ≡ live o p n r = to ∙ ap (λ c. changed (new_session (record { originator = o; number = n }) p) c) keeping in
    let unkept : find n (inbound_of mid).receivers ≡ None = subst (λ i. find n i.receivers ≡ None) (sym room.is) (absent-room (inbound_of old) n told.0 absent) in
    record {
      gone = gone ∙ rw (absent, keeping) refl;
      next = rw keeping (subst (λ i. Keeps o p new (settled_in i n (keeps r))) room.is
          (keeps-changed o p n (keeps r) mid new room.live (subst (λ es. Changed o p n (keeps r) (table_of mid.receivers.entries) es)
          (sym (inserted ∙ ap (λ x. insert_entry nat_eq mid.receivers.entries n x) state)) (inserted-last o p n r mid room.live distinct unkept)) closed));
      says = says;
    }

pub open-live : (o : ℕ) (p : PolicyValue) (n : ℕ) (old : List (ℕ × SessionValue Receiving)) (v : SessionValue Receiving) → AreLive o p old
    → lookup (nat_eq n) old ≡ Some v → is_kept_cancelling v.kept ≡ false → IsOpen v.kept
open-live o p n old v are_live holds open_is =
    let found = found-live o p n old v are_live (looked-up n old ∙ holds) in
    go found.state found.is where
      go : (r : Receiving) → v ≡ live o p n r → IsOpen v.kept
      go r is =
          let still : is_cancelling r.phase ≡ false = subst (λ x. is_kept_cancelling x.kept ≡ false) is open_is in
          subst (λ x. IsOpen x.kept) (sym is) still

pub takes-cancelling : (o : ℕ) (p : PolicyValue) (n : ℕ) (piece : PieceValue) (now : ℕ) (old new : Inbound) (v : SessionValue Receiving) (told : Step)
    → AreLive o p old.receivers.entries → lookup (nat_eq n) old.receivers.entries ≡ Some v → IsDistinct nat_eq (keys_of old.receivers.entries)
    → is_kept_cancelling v.kept ≡ true → told ≡ record { out = []; up = None; green = None; note = Some (notes.Closed n) }
    → new.receivers.entries ≡ set_value (nat_eq n) old.receivers.entries v → new.closed ≡ old.closed → TakesNext o p n piece now old new (Some told)
takes-cancelling o p n piece now old new v told are_live holds distinct closing says written closed =
    let found = found-live o p n old.receivers.entries v are_live (looked-up n old.receivers.entries ∙ holds) in
    takes-next o p n piece now old new v told are_live holds (go found.state found.is) where
      go : (r : Receiving) → v ≡ live o p n r → Receives o p n (kept_step p (find n (inbound_of old).receivers) piece now) old new told
      go r is =
          let still : is_cancelling r.phase ≡ true = subst (λ x. is_kept_cancelling x.kept ≡ true) is closing in
          receives-kept o p n (λ q kept. kept_step q kept piece now) old new new.receivers.entries v v false false told are_live holds distinct
          (subst (λ x. x ≡ changed x (kept_step x.policy x.kept piece now).next) (sym is) (rw still refl))
          (subst (λ x. told ≡ answer_of x.name (kept_step x.policy x.kept piece now)) (sym is) (rw still says))
          (subst (λ x. false ≡ not (is_some x.kept)) (sym is) refl)
          (λ s same. let also : is_cancelling s.phase ≡ true = subst (λ x. is_kept_cancelling x.kept ≡ true) same closing in rw also refl)
          written refl closed

pub absent-next : (o : ℕ) (p : PolicyValue) (n : ℕ) (piece : PieceValue) (now : ℕ) (old mid : Inbound) → TakesNext o p n piece now old mid None
    → (find n (inbound_of old).receivers ≡ None) × Keeps o p mid (inbound_of old)
absent-next o p n piece now old mid takes = go (find n (inbound_of old).receivers) refl takes where
  go : (kept : Option Receiving) → find n (inbound_of old).receivers ≡ kept → TakesKept o p n piece now old mid kept None
      → (find n (inbound_of old).receivers ≡ None) × Keeps o p mid (inbound_of old)
  go None is takes = (is, takes)
  go (Some r) is takes = absurd takes

pub absent-mid : (o : ℕ) (p : PolicyValue) (n : ℕ) (piece : PieceValue) (now : ℕ) (old mid : Inbound) → TakesNext o p n piece now old mid None
    → find n (inbound_of mid).receivers ≡ None
absent-mid o p n piece now old mid takes =
    let (absent, keep) = absent-next o p n piece now old mid takes in
    subst (λ i. find n i.receivers ≡ None) (sym keep.is) absent

-- what a step did, by what was kept before it
pub record Held (o : ℕ) (p : PolicyValue) (sessions n : ℕ) (step : StepValue Receiving) (new : Inbound) (told : Option ℕ × Step) (i : InboundValue) : Type 0 where
  pub gone : told.0 ≡ evicted_for sessions i (find n i.receivers) step.next
  pub next : Keeps o p new (settled_in (with_room i told.0) n step.next)
  pub says : told.1 ≡ answer_of (record { originator = o; number = n }) step

pub takes-first : (o : ℕ) (p : PolicyValue) (sessions n : ℕ) (piece : PieceValue) (now most history : ℕ) (old mid new : Inbound) (told : Option ℕ × Step)
    → (piece.service == 1) ≡ true → is_no_part most piece.offset piece.body ≡ false
    → TakesNext o p n piece now old mid None → Takes o p sessions n (first_piece p (admission_in (inbound_of mid) most history n) piece now) mid new told
    → Takes o p sessions n (on_piece p (admission_in (inbound_of old) most history n) (find n (inbound_of old).receivers) piece now) old new told
takes-first o p sessions n piece now most history old mid new told served fits takes does =
    let (absent, keep) = absent-next o p n piece now old mid takes in
    let held = subst (λ i. Held o p sessions n (first_piece p (admission_in i most history n) piece now) new told i) keep.is (record { gone = does.gone; next = does.next; says = does.says }) in
    rw (served, fits) (subst (λ kept. Takes o p sessions n (piece_for p (admission_in (inbound_of old) most history n) kept piece now) old new told) (sym absent)
    (record { gone = held.gone; next = held.next; says = held.says }))

pub takes-kept : (o : ℕ) (p : PolicyValue) (sessions n : ℕ) (piece : PieceValue) (now most history : ℕ) (old new : Inbound) (told : Step)
    → (piece.service == 1) ≡ true → is_no_part most piece.offset piece.body ≡ false → TakesNext o p n piece now old new (Some told)
    → Takes o p sessions n (on_piece p (admission_in (inbound_of old) most history n) (find n (inbound_of old).receivers) piece now) old new (None, told)
takes-kept o p sessions n piece now most history old new told served fits takes = rw (served, fits) (go (find n (inbound_of old).receivers) refl takes) where
  go : (kept : Option Receiving) → find n (inbound_of old).receivers ≡ kept → TakesKept o p n piece now old new kept (Some told)
      → Takes o p sessions n (piece_for p (admission_in (inbound_of old) most history n) kept piece now) old new (None, told)
  go None is takes = absurd takes
  go (Some r) is takes = record { gone = rw is refl; next = takes.next; says = takes.says }

-- a step that changes nothing
pub takes-nothing : (o : ℕ) (p : PolicyValue) (sessions n : ℕ) (step : StepValue Receiving) (old : Inbound) (told : Step) → AreLive o p old.receivers.entries → step.next ≡ stays
    → told ≡ answer_of (record { originator = o; number = n }) step → Takes o p sessions n step old old (None, told)
takes-nothing o p sessions n step old told are_live unmoved says =
    record { gone = rw unmoved (sym (none (find n (inbound_of old).receivers))); next = rw unmoved (record { live = are_live; is = refl }); says = says } where
      none : (kept : Option Receiving) → evicted_for sessions (inbound_of old) kept stays ≡ None
      none None = refl
      none (Some r) = refl

-- a step that opens no session evicts none
pub takes-of : (o : ℕ) (p : PolicyValue) (sessions n : ℕ) (f : Option Receiving → StepValue Receiving) (old new : Inbound) (told : Step)
    → Receives o p n (f (find n (inbound_of old).receivers)) old new told → (f None).next ≡ stays
    → Takes o p sessions n (f (find n (inbound_of old).receivers)) old new (None, told)
takes-of o p sessions n f old new told does unmoved = record { gone = none (find n (inbound_of old).receivers); next = does.next; says = does.says } where
  none : (kept : Option Receiving) → None ≡ evicted_for sessions (inbound_of old) kept (f kept).next
  none None = rw unmoved refl
  none (Some r) = refl
