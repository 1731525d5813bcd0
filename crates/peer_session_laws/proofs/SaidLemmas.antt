-- Segments that are no report on a session, by who says them.

use Rattle.std.proofs.Common.{◌≡◌, ℕ, ◌<◌, ◌^◌, true, false, ◌==◌, List, [], ◌∷◌, Option, None, Some, inl, refl, sym}
use Rattle.std.proofs.lemmas.Bool.{eq-eqb}
use Rattle.std.specs.List.{AllByRecursion}
use Rattle.ltp_segment.specs.Policy.{PolicyValue}
use Rattle.ltp_segment.specs.Spelling.{segment_octets}
use Rattle.ltp_segment.specs.Values.{ContentValue, SegmentValue, a_piece, a_report, a_report_ack, a_sender_cancel, a_sender_cancel_ack, a_receiver_cancel, a_receiver_cancel_ack}
use Rattle.ltp_session.specs.declared.name.SessionName.{SessionName}
use Rattle.ltp_session.specs.Sender.{Sending, begin, sender_answers, sender_tick}
use Rattle.ltp_session.specs.Step.{StepValue}
use Rattle.ltp_session.specs.Views.{headed, headed_all}
use Rattle.ltp_laws.specs.Kinds.{IsReceivers, IsSenders}
use Rattle.ltp_laws.specs.View.{View}
use Rattle.ltp_laws.proofs.AckLemmas.{green-all, red-all}
use Rattle.ltp_laws.proofs.KindLemmas.{kinds-keep}
use Rattle.ltp_laws.proofs.ListLemmas.{all-append}
use Rattle.gate_records.specs.Happened.{reports_on}
use Rattle.gate_records.proofs.ReportLemmas.{IsOther, other-reports, report-names}

-- ---- what a sender says is no report

abbrev pub AllOther : List ContentValue → Type 0
AllOther contents = AllByRecursion IsOther contents

senders-other : (content : ContentValue) → IsSenders content → IsOther content
senders-other (a_piece piece) is = tt
senders-other (a_report report) is = absurd is
senders-other (a_report_ack serial) is = tt
senders-other (a_sender_cancel reason) is = tt
senders-other a_sender_cancel_ack is = absurd is
senders-other (a_receiver_cancel reason) is = absurd is
senders-other a_receiver_cancel_ack is = tt

all-other : (contents : List ContentValue) → AllByRecursion IsSenders contents → AllOther contents
all-other [] all = tt
all-other (content ∷ more) all = (senders-other content all.0, all-other more all.1)

-- a session of which this content came
abbrev view_of : Option Sending → List ContentValue → View
view_of kept came = record { used = true; sender = kept; receiver = None; closed = false; by_sender = []; by_receiver = came }

sender-said : (policy : PolicyValue) (kept : Option Sending) (content : ContentValue) (now : ℕ) (t : StepValue Sending) → IsReceivers content
    → sender_answers policy kept content now ≡ Some t → AllOther t.out
sender-said policy kept content now t is answers =
    all-other t.out
    (kinds-keep.sender [] 0 policy (view_of kept (content ∷ [])) content now t (inl refl) answers tt tt (record { by_sender = tt; by_receiver = (is, tt) })).by_sender

pub sender-says : (policy : PolicyValue) (kept : Option Sending) (content : ContentValue) (now : ℕ) (t : StepValue Sending)
    → sender_answers policy kept content now ≡ Some t → AllOther t.out
unfolding sender_answers
sender-says policy kept (a_piece piece) now t answers = absurd (cc)
sender-says policy kept (a_report report) now t answers = sender-said policy kept (a_report report) now t tt answers
sender-says policy kept (a_report_ack serial) now t answers = absurd (cc)
sender-says policy kept (a_sender_cancel reason) now t answers = absurd (cc)
sender-says policy kept a_sender_cancel_ack now t answers = sender-said policy kept a_sender_cancel_ack now t tt answers
sender-says policy kept (a_receiver_cancel reason) now t answers = sender-said policy kept (a_receiver_cancel reason) now t tt answers
sender-says policy kept a_receiver_cancel_ack now t answers = absurd (cc)

pub tick-says : (policy : PolicyValue) (now : ℕ) (s : Sending) → AllOther (sender_tick policy s now).out
tick-says policy now s =
    all-other (sender_tick policy s now).out
    (kinds-keep.sender_tick [] 0 policy now (view_of (Some s) []) s refl tt tt (record { by_sender = tt; by_receiver = tt })).by_sender

pub begin-says : (policy : PolicyValue) (n : ℕ) (block : List ℕ) (red now : ℕ) → AllOther (begin policy n block red now).out
unfolding begin
begin-says policy n block red now = all-append IsOther _ _ (red-all IsOther (λ q. tt) _ _) (green-all IsOther (λ q. tt) _)

-- ---- a segment that is no report on session n

abbrev pub IsQuiet : ℕ → SegmentValue → Type 0
IsQuiet n s = reports_on (segment_octets s) ≡ Some n → ⊥

abbrev pub AreQuiet : ℕ → List SegmentValue → Type 0
AreQuiet n segments = AllByRecursion (IsQuiet n) segments

quiet-other : (n : ℕ) (name : SessionName) (content : ContentValue) → IsOther content → IsQuiet n (headed name content)
quiet-other n name content other is = let none = other-reports name.originator name.number content other in absurd (cc (none, is))

pub quiet-others : (n : ℕ) (name : SessionName) (contents : List ContentValue) → AllOther contents → AreQuiet n (headed_all name contents)
quiet-others n name [] all = tt
quiet-others n name (content ∷ more) all = (quiet-other n name content all.0, quiet-others n name more all.1)

-- one of another session
quiet-apart : (n : ℕ) (name : SessionName) → name.originator < 2 ^ 64 → name.number < 2 ^ 64 → (name.number == n) ≡ false → (content : ContentValue) → IsQuiet n (headed name content)
quiet-apart n name small named apart (a_report report) is =
    let same = report-names name.originator name.number report small named n is in
    let also : (name.number == n) ≡ true = eq-eqb name.number n (sym same) in absurd (cc (apart, also))
quiet-apart n name small named apart (a_piece piece) is = quiet-other n name (a_piece piece) tt is
quiet-apart n name small named apart (a_report_ack serial) is = quiet-other n name (a_report_ack serial) tt is
quiet-apart n name small named apart (a_sender_cancel reason) is = quiet-other n name (a_sender_cancel reason) tt is
quiet-apart n name small named apart a_sender_cancel_ack is = quiet-other n name a_sender_cancel_ack tt is
quiet-apart n name small named apart (a_receiver_cancel reason) is = quiet-other n name (a_receiver_cancel reason) tt is
quiet-apart n name small named apart a_receiver_cancel_ack is = quiet-other n name a_receiver_cancel_ack tt is

pub quiet-aparts : (n : ℕ) (name : SessionName) → name.originator < 2 ^ 64 → name.number < 2 ^ 64 → (name.number == n) ≡ false → (contents : List ContentValue) → AreQuiet n (headed_all name contents)
quiet-aparts n name small named apart [] = tt
quiet-aparts n name small named apart (content ∷ more) = (quiet-apart n name small named apart content, quiet-aparts n name small named apart more)
