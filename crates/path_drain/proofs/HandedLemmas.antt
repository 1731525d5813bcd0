-- A red part that was handed up stays so; and it is the front of its block.

use Rattle.std.proofs.Common.{◌≡◌, ℕ, true, List}
use Rattle.std.proofs.Common.{take, Option, None, Some, refl, sym, ◌∙◌}
use Rattle.std.proofs.Common.{ap}
use Rattle.ltp_segment.specs.Values.{ContentValue}
use Rattle.ltp_session.specs.Receiver.{Receiving}
use Rattle.ltp_session.specs.Step.{Change, StepValue, after, ends, keeps, stays}
use Rattle.ltp_laws.specs.Blocks.{BlockFacts, IsReceiverOf}
use Rattle.ltp_laws.specs.Steps.{HandsUp, ReceiverStep, again, fills, idle, over, reports_on}
use Rattle.ltp_laws.specs.Steps.{turns}
use Rattle.ltp_laws.specs.View.{IsIn, View}
use Rattle.ltp_laws.proofs.HandUpLemmas.{heard-piece, met-kept}
use Rattle.ltp_laws.proofs.ReceiverLemmas.{fresh-is, with_red-is}
use Rattle.ltp_laws.proofs.StepLemmas.{met}
use Rattle.ltp_laws.proofs.LogLemmas.{still_true, whole-front}
use Rattle.path_drain.specs.OnTheWay.{is_handed_up}

-- ---- what was handed up stays so

keeps-same : (r r' : Receiving) → keeps r ≡ keeps r' → r ≡ r'
keeps-same r r' is = cc

pub handed-stays : (content : ContentValue) (r r' : Receiving) (t : StepValue Receiving)
    → ReceiverStep content r t → r.handed_up ≡ true → t.next ≡ keeps r' → r'.handed_up ≡ true
handed-stays content r r' t (idle next none) was is = absurd (let h : stays ≡ keeps r' =
    sym next ∙ is in cc)
handed-stays content r r' t (over next none) was is = absurd (let h : ends ≡ keeps r' =
    sym next ∙ is in cc)
handed-stays content r r' t (turns x next turned none) was is =
    let same : x ≡ r' = keeps-same x r' (sym next ∙ is) in
    ap (λ (y : Receiving). y.handed_up) (sym same) ∙ turned.handed ∙ was
handed-stays content r r' t (again p timer pending next out) was is =
    let same = keeps-same _ r' (sym next ∙ is) in
    ap (λ (y : Receiving). y.handed_up) (sym same) ∙ was
handed-stays content r r' t (fills q x is_piece red_kind next filling none) was is =
    let same : x ≡ r' = keeps-same x r' (sym next ∙ is) in
    ap (λ (y : Receiving). y.handed_up) (sym same) ∙ filling.handed ∙ still_true r.handed_up _ was
handed-stays content r r' t (reports_on q x is_piece red_kind checkpoint next reporting out) was
    is =
    let same : x ≡ r' = keeps-same x r' (sym next ∙ is) in
    ap (λ (y : Receiving). y.handed_up) (sym same) ∙ reporting.handed ∙ still_true r.handed_up _ was

-- a kept receiver, or none, after a step
pub handed-after : (content : ContentValue) (session : ℕ) (kept : Option Receiving)
    (t : StepValue Receiving) → ReceiverStep content (met session kept) t
    → (t.next ≡ ends → is_handed_up kept ≡ true → is_handed_up None ≡ true)
    → is_handed_up kept ≡ true → is_handed_up (after t.next kept) ≡ true
handed-after content session None t form gone was = absurd (cc)
handed-after content session (Some r) t form gone was = by_change t.next refl
  where
    by_change : (c : Change Receiving) → t.next ≡ c → is_handed_up (after c (Some r)) ≡ true
    by_change stays is = was
    by_change (keeps r') is = handed-stays content r r' t form was is
    by_change ends is = gone is was

-- ---- the block that is handed up

-- a piece of the block makes it whole
pub handed-front : (block : List ℕ) (red : ℕ) (v : View) (content : ContentValue) (session : ℕ)
    (t : StepValue Receiving) (body : List ℕ) → BlockFacts block red v → IsIn content v.by_sender
    → HandsUp content (met session v.receiver) t body → body ≡ take red block
handed-front block red v content session t body facts among h =
    let is = with_red-is block red (met session v.receiver) h.piece
    (met-kept (IsReceiverOf block red) session v.receiver (fresh-is block red session)
    facts.receiver)
    (heard-piece block red v content facts among h.piece h.is_piece) h.red_kind in
    whole-front block red _ _ body facts.within is.cells is.known h.whole
