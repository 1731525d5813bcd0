-- A number that is used again: what is handed up in a use is what was sent in it.

use Rattle.std.proofs.Common.{◌≡◌, ℕ, ◌+◌, ◌<◌, ◌≤◌, ◌==◌, Bool, true, false, not, ◌&&◌, if◌then◌else◌, List, [], ◌∷◌, length, take, Option, Some, None, Result, Ok, Err, ◌⊎◌, inl, inr, refl, sym, ◌∙◌, ap, subst, arith}
use Rattle.std.specs.List.{All, AllByRecursion}
use Rattle.std.proofs.Math.Seq.{take-length}
use Rattle.std.proofs.lemmas.List.Elements.{All-nil, All-cons}
use Rattle.ltp_segment.specs.declared.fault.SegmentCause.{SegmentCause}
use Rattle.ltp_segment.specs.Kinds.{is_red}
use Rattle.ltp_segment.specs.Values.{ContentValue, SegmentValue, PieceValue, a_piece, a_report, a_report_ack, a_sender_cancel, a_sender_cancel_ack, a_receiver_cancel, a_receiver_cancel_ack}
use Rattle.ltp_session.specs.Cells.{is_no_part}
use Rattle.ltp_session.specs.RedPart.{RedPiece, red_stop, or_else, red_length, IsRedPart, BecomesWhole, IsOfBlock}
use Rattle.ltp_session.proofs.RedPartLemmas.{all_fronts}
use Rattle.ltp_session.specs.Receiver.{Receiving, Admission, is_cancelling, is_outside, is_miscoloured}
use Rattle.ltp_session.specs.Table.{find}
use Rattle.ltp_receiver.specs.RedPart.{red_piece}
use Rattle.ltp_engine.specs.RedParts.{meets, is_taken_by, counts, with_content}
use Rattle.peer_sessions.specs.Keys.{FaceKeys}
use Rattle.peer_sessions.specs.Sessions.{Sessions, passes, admission_in}
use Rattle.peer_sessions.specs.Runs.{SessionsEvent, a_datagram, a_tick, a_block}
use Rattle.peer_once.specs.Runs.{Face, TimedEvent, sessions_in, sessions_at, AreInOrder, SomeOf, is_kept, brings}
use Rattle.peer_once.specs.Pieces.{while_kept, pieces_heard, pieces_with, pieces_of, pieces_at}
use Rattle.peer_once.specs.Uses.{Use, IsPieceOf, IsContentOf, Carries, IsInUse, UsedOnce, HandedUpAsSent}
use Rattle.peer_once.proofs.LawLemmas.{handed_up_apart}
use Rattle.peer_once.proofs.HeardLemmas.{kept_where_heard}
use Rattle.peer_once.proofs.PieceLemmas.{never-whole, hands_up_red_parts}

pub used_once : UsedOnce
used_once f n u second first between earlier most order none short begun over up again =
    let apart = handed_up_apart f n second first between earlier most order none up again in
    absurd (omega (arith, apart, short, begun, over))

-- ---- pieces of a red part

abbrev AreOf : List ℕ → List RedPiece → Type 0
AreOf red pieces = AllByRecursion (IsPieceOf red) pieces

of-while : (red : List ℕ) (kept : Bool) (pieces : List RedPiece) → AreOf red pieces → AreOf red (while_kept kept pieces)
of-while red true pieces all = all
of-while red false pieces all = tt

-- a piece that counts is red
red-counts : (p : Admission) (kept : Option Receiving) (piece : PieceValue) → counts p kept piece ≡ true → is_red piece.kind ≡ true
red-counts p kept piece is = by_met (meets p kept piece) (third (piece.service == 1) (not (is_no_part p.most piece.offset piece.body)) (is_taken_by (meets p kept piece) piece) is) where
  third : (a b c : Bool) → (a && (b && c)) ≡ true → c ≡ true
  third true true c is = is
  third true false c is = absurd (cc)
  third false b c is = absurd (cc)

  second : (a b c : Bool) → (a && (b && c)) ≡ true → b ≡ true
  second true true c is = refl
  second true false c is = is
  second false b c is = absurd (cc)

  by_met : (met : Option Receiving) → is_taken_by met piece ≡ true → is_red piece.kind ≡ true
  by_met None is = absurd (cc (is))
  by_met (Some r) is = second (not (is_cancelling r.phase)) (is_red piece.kind) (not (is_outside r piece) && not (is_miscoloured r piece)) is

of-content : (red : List ℕ) (p : Admission) (kept : Option Receiving) (content : ContentValue) (pieces : List RedPiece) → IsContentOf red content → AreOf red pieces → AreOf red (with_content p kept content pieces)
of-content red p kept (a_piece piece) pieces is all = by (counts p kept piece) refl where
  by : (count : Bool) → counts p kept piece ≡ count → AreOf red (if count then red_piece piece ∷ pieces else pieces)
  by true counted = (is (red-counts p kept piece counted), all)
  by false counted = all
of-content red p kept (a_report report) pieces is all = all
of-content red p kept (a_report_ack serial) pieces is all = all
of-content red p kept (a_sender_cancel reason) pieces is all = all
of-content red p kept a_sender_cancel_ack pieces is all = all
of-content red p kept (a_receiver_cancel reason) pieces is all = all
of-content red p kept a_receiver_cancel_ack pieces is all = all

-- with an event of the use
of-with : (red : List ℕ) (k : FaceKeys) (n now : ℕ) (event : SessionsEvent) (s : Sessions) (pieces : List RedPiece) → brings k n event ≡ true → Carries red event
    → AreOf red (while_kept (is_kept n (passes k now s)) pieces) → AreOf red (pieces_with k n now event s pieces)
of-with red k n now (a_datagram (Err refusal)) s pieces there is all = all
of-with red k n now (a_datagram (Ok segment)) s pieces there is all =
    rw there (of-content red (admission_in k (passes k now s) n) (find n ((passes k now s).engine).receivers) segment.content (while_kept (is_kept n (passes k now s)) pieces) is all)
of-with red k n now a_tick s pieces there is all = absurd (cc (there))
of-with red k n now (a_block block) s pieces there is all = absurd (cc (there))

-- with another datagram nothing counts
heard-other : (k : FaceKeys) (n : ℕ) (s : Sessions) (read : Result SegmentValue (ℕ × SegmentCause)) (pieces : List RedPiece) → brings k n (a_datagram read) ≡ false → pieces_heard k n s read pieces ≡ pieces
heard-other k n s (Err refusal) pieces other = refl
heard-other k n s (Ok segment) pieces other = rw other refl

of-other : (red : List ℕ) (k : FaceKeys) (n now : ℕ) (event : SessionsEvent) (s : Sessions) (pieces : List RedPiece) → brings k n event ≡ false → AreOf red pieces → AreOf red (pieces_with k n now event s pieces)
of-other red k n now (a_datagram read) s pieces other all =
    subst (AreOf red) (sym (heard-other k n (passes k now s) read (while_kept (is_kept n (passes k now s)) pieces) other)) (of-while red (is_kept n (passes k now s)) pieces all)
of-other red k n now a_tick s pieces other all = all
of-other red k n now (a_block block) s pieces other all = all

-- ---- events

-- each segment of the number came long before the use
abbrev AllOld : Face → ℕ → Use → List TimedEvent → Type 0
AllOld f n u events = AllByRecursion (λ (e : TimedEvent). brings f.keys n e.1 ≡ true → e.0 + f.keys.remember_ms < u.from) events

-- one came in the use
abbrev IsBegun : Use → List TimedEvent → Type 0
IsBegun u events = SomeOf (λ event before. u.from ≤ event.0) events []

begun-before : (u : Use) (bound : ℕ) (events earlier : List TimedEvent) → AllByRecursion (λ (e : TimedEvent). e.0 ≤ bound) events → SomeOf (λ event before. u.from ≤ event.0) events earlier → u.from ≤ bound
begun-before u bound [] earlier all some = absurd some
begun-before u bound (e ∷ events) earlier all (inl from) = let low = all.0 in omega (arith, from, low)
begun-before u bound (e ∷ events) earlier all (inr some) = begun-before u bound events earlier all.1 some

-- where all are old, none was within the time
old-heard : (f : Face) (n now : ℕ) (u : Use) (events earlier : List TimedEvent) → u.from ≤ now → AllOld f n u events
    → SomeOf (λ event before. (brings f.keys n event.1 ≡ true) × (now < event.0 + f.keys.remember_ms)) events earlier → ⊥
old-heard f n now u [] earlier from old some = some
old-heard f n now u (e ∷ events) earlier from old (inl heard) = let long = old.0 heard.0 in let soon = heard.1 in absurd (omega (arith, from, long, soon))
old-heard f n now u (e ∷ events) earlier from old (inr some) = old-heard f n now u events earlier from old.1 some

-- so none is kept, and there are no pieces
old-pieces : (f : Face) (n now : ℕ) (u : Use) (events : List TimedEvent) (pieces : List RedPiece) → 1 ≤ (f.keys.bounds).sessions → u.from ≤ now → AllOld f n u events
    → AreOf u.red (while_kept (is_kept n (sessions_at f events now)) pieces)
old-pieces f n now u events pieces one from old = by (is_kept n (sessions_at f events now)) refl where
  by : (kept : Bool) → is_kept n (sessions_at f events now) ≡ kept → AreOf u.red (while_kept kept pieces)
  by true kept = absurd (old-heard f n now u events [] from old (kept_where_heard f n now events one kept))
  by false none = tt

-- all segments are old, or all pieces are of the use
abbrev Stand : Face → ℕ → Use → List TimedEvent → Type 0
Stand f n u events = AllOld f n u events ⊎ (AreOf u.red (pieces_of f n events) × IsBegun u events)

differ : {b : Bool} → b ≡ false → b ≡ true → ⊥
differ is also = cc

event-stand : (f : Face) (n : ℕ) (u : Use) (event : TimedEvent) (earlier : List TimedEvent) → 1 ≤ (f.keys.bounds).sessions → AreInOrder (event ∷ earlier) → IsInUse f n u event → Stand f n u earlier
    → Stand f n u (event ∷ earlier)
unfolding pieces_of
event-stand f n u event earlier one order in_use stand = by (brings f.keys n event.1) refl stand where
  used : brings f.keys n event.1 ≡ true → (event.0 + f.keys.remember_ms < u.from) ⊎ ((u.from ≤ event.0) × Carries u.red event.1) → Stand f n u earlier → Stand f n u (event ∷ earlier)
  used there (inl old) (inl all) = inl ((λ _. old), all)
  used there (inl old) (inr begun) = let from = begun-before u event.0 earlier [] order.0 begun.1 in absurd (omega (arith, old, from))
  used there (inr now) (inl all) =
      inr (of-with u.red f.keys n event.0 event.1 (sessions_in f earlier) (pieces_of f n earlier) there now.1 (old-pieces f n event.0 u earlier (pieces_of f n earlier) one now.0 all), inl now.0)
  used there (inr now) (inr begun) =
      inr (
        of-with u.red f.keys n event.0 event.1 (sessions_in f earlier) (pieces_of f n earlier) there now.1
            (of-while u.red (is_kept n (sessions_at f earlier event.0)) (pieces_of f n earlier) begun.0),
        inl now.0,
      )

  by : (there : Bool) → brings f.keys n event.1 ≡ there → Stand f n u earlier → Stand f n u (event ∷ earlier)
  by true there standing = used there (in_use there) standing
  by false other (inl all) = inl ((λ there. absurd (differ other there)), all)
  by false other (inr begun) = inr (of-other u.red f.keys n event.0 event.1 (sessions_in f earlier) (pieces_of f n earlier) other begun.0, inr begun.1)

run-stand : (f : Face) (n : ℕ) (u : Use) (events : List TimedEvent) → 1 ≤ (f.keys.bounds).sessions → AreInOrder events → AllByRecursion (IsInUse f n u) events → Stand f n u events
run-stand f n u [] one order all = inl tt
run-stand f n u (event ∷ earlier) one order all = event-stand f n u event earlier one order all.0 (run-stand f n u earlier one order.1 all.1)

-- ---- the red part

each-of : (red : List ℕ) (pieces : List RedPiece) → AreOf red pieces → All (IsOfBlock red) pieces
each-of red [] all = All-nil (IsOfBlock red)
each-of red (piece ∷ pieces) all = All-cons (IsOfBlock red) piece pieces (all.0).octets (each-of red pieces all.1)

length-of : (red : List ℕ) (pieces : List RedPiece) (end : ℕ) → AreOf red pieces → red_length pieces ≡ Some end → end ≡ length red
length-of red [] end all is = absurd (cc (is))
length-of red (piece ∷ pieces) end all is = by (red_length pieces) refl piece.ends refl is (λ m at. length-of red pieces m all.1 at) where
  by : (known : Option ℕ) → red_length pieces ≡ known → (ends : Bool) → piece.ends ≡ ends → or_else known (if ends then Some (red_stop piece) else None) ≡ Some end
      → ((m : ℕ) → red_length pieces ≡ Some m → m ≡ length red) → end ≡ length red
  by (Some m) at ends is_end same rest = got m same ∙ rest m at where
    got : (m : ℕ) → Some m ≡ Some end → end ≡ m
    got m same = cc
  by None at true is_end same rest = got (red_stop piece) same ∙ (all.0).end is_end where
    got : (m : ℕ) → Some m ≡ Some end → end ≡ m
    got m same = cc
  by None at false is_end same rest = absurd (cc (same))

whole-of : (red : List ℕ) (pieces : List RedPiece) (body : List ℕ) → AreOf red pieces → IsRedPart pieces body → body ≡ red
whole-of red pieces body all part =
    all_fronts red pieces body (each-of red pieces all) part
    ∙ (ap (λ m. take m red) (length-of red pieces (length body) all part.ends) ∙ take-length red)

pub handed_up_as_sent : HandedUpAsSent
unfolding pieces_of
handed_up_as_sent f n now u read earlier body one order all from among = by (run-stand f n u ((now, a_datagram read) ∷ earlier) one order all) where
  becomes : BecomesWhole (pieces_at f n earlier now) (pieces_of f n ((now, a_datagram read) ∷ earlier)) body
  becomes = (hands_up_red_parts f n now read earlier body).0 among

  by : Stand f n u ((now, a_datagram read) ∷ earlier) → body ≡ u.red
  by (inr begun) = whole-of u.red (pieces_of f n ((now, a_datagram read) ∷ earlier)) body begun.0 becomes.part
  by (inl old) = by_there (brings f.keys n (a_datagram read)) refl where
    by_there : (there : Bool) → brings f.keys n (a_datagram read) ≡ there → body ≡ u.red
    by_there true there = let long = old.0 there in absurd (omega (arith, long, from))
    by_there false other =
        absurd (never-whole body (pieces_at f n earlier now) becomes.not_before
        (subst (λ pieces. IsRedPart pieces body) (heard-other f.keys n (sessions_at f earlier now) read (pieces_at f n earlier now) other) becomes.part))
