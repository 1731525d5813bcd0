-- Pieces that are sent one after the other.

use Rattle.std.proofs.Common.{◌≡◌, ℕ, zero, suc, ◌+◌, ◌-◌, ◌<◌, ◌≤◌, ◌==◌, Bool, true, false, List, [], ◌∷◌, ◌++◌, length, drop, get_or, min, map, Some, None, refl, sym, ap, ◌∙◌, arith}
use Rattle.std.specs.Prelude.{All, if◌then◌else◌}
use Rattle.std.proofs.lemmas.Bool.{eqb-true, eqb-false}
use Rattle.std.proofs.lemmas.List.{append_assoc, append-nil, drop_more}
use Rattle.ltp_segment.specs.declared.segment.PieceKind.TheVariants as kinds
use Rattle.ltp_segment.specs.Values.{PieceValue, ContentValue, a_piece}
use Rattle.ltp_segment.specs.Spelling.{segment_octets}
use Rattle.ltp_session.specs.declared.name.SessionName.{SessionName}
use Rattle.ltp_session.specs.Sender.{piece_at, red_pieces, green_pieces, last_segment}
use Rattle.ltp_session.specs.Views.{headed, datagrams_of}
use Rattle.ltp_sender.specs.declared.segments.Segment.{Segment}
use Rattle.ltp_sender.specs.Segments.{segment_in, plain_pieces, green_kind}
use Rattle.ltp_sender.proofs.Datagrams.{datagrams_of-append}
use Rattle.ltp_sender.proofs.SegmentLemmas.{rest_of, rest_of-step, rest_of-end}

-- ---- red ones

pub red_pieces-last : (part : List ℕ) (checkpoint : ℕ × List ℕ → PieceValue) (firsts : List Segment) (last : Segment)
    → red_pieces checkpoint (map (segment_in part) (firsts ++ last ∷ [])) ≡ plain_pieces part firsts ++ a_piece (checkpoint (segment_in part last)) ∷ []
unfolding red_pieces
red_pieces-last part checkpoint [] last = refl
red_pieces-last part checkpoint (first ∷ []) last = refl
red_pieces-last part checkpoint (first ∷ second ∷ firsts) last =
    ap (λ cs. a_piece (piece_at kinds.Red 0 0 (segment_in part first)) ∷ cs) (red_pieces-last part checkpoint (second ∷ firsts) last)

pub last_segment-last : (part : List ℕ) (firsts : List Segment) (last : Segment)
    → last_segment (map (segment_in part) (firsts ++ last ∷ [])) ≡ Some (segment_in part last)
unfolding last_segment
last_segment-last part [] last = refl
last_segment-last part (first ∷ []) last = refl
last_segment-last part (first ∷ second ∷ firsts) last = last_segment-last part (second ∷ firsts) last

pub red_pieces-none : (part : List ℕ) (checkpoint : ℕ × List ℕ → PieceValue) (segments : List Segment) → length segments ≡ 0
    → red_pieces checkpoint (map (segment_in part) segments) ≡ []
unfolding red_pieces
red_pieces-none part checkpoint [] none = refl
red_pieces-none part checkpoint (segment ∷ segments) none = absurd (omega (arith, none))

pub last_segment-none : (part : List ℕ) (segments : List Segment) → length segments ≡ 0 → last_segment (map (segment_in part) segments) ≡ None
unfolding last_segment
last_segment-none part [] none = refl
last_segment-none part (segment ∷ segments) none = absurd (omega (arith, none))

-- segments of which the last is sent as a checkpoint
pub datagrams_of-red : (name : SessionName) (part : List ℕ) (checkpoint : ℕ × List ℕ → PieceValue) (segments firsts : List Segment) (last : Segment)
    (out middle new : List (List ℕ)) → segments ≡ firsts ++ last ∷ [] → middle ≡ out ++ datagrams_of name (plain_pieces part firsts)
    → new ≡ middle ++ segment_octets (headed name (a_piece (checkpoint (segment_in part last)))) ∷ []
    → new ≡ out ++ datagrams_of name (red_pieces checkpoint (map (segment_in part) segments))
datagrams_of-red name part checkpoint segments firsts last out middle new is sent pushed =
    pushed
    ∙ ap (λ ds. ds ++ segment_octets (headed name (a_piece (checkpoint (segment_in part last)))) ∷ []) sent
    ∙ append_assoc out (datagrams_of name (plain_pieces part firsts)) (segment_octets (headed name (a_piece (checkpoint (segment_in part last)))) ∷ [])
    ∙ ap (λ ds. out ++ ds)
    (sym (datagrams_of-append name (plain_pieces part firsts) (a_piece (checkpoint (segment_in part last)) ∷ []))
    ∙ ap (λ cs. datagrams_of name cs) (sym (red_pieces-last part checkpoint firsts last))
    ∙ ap (λ (xs : List Segment). datagrams_of name (red_pieces checkpoint (map (segment_in part) xs))) (sym is))

pub plain_pieces-drop : (part : List ℕ) (segments : List Segment) (i : ℕ) (d : Segment) → i < length segments
    → plain_pieces part (drop i segments) ≡ a_piece (piece_at kinds.Red 0 0 (segment_in part (get_or segments i d))) ∷ plain_pieces part (drop (i + 1) segments)
plain_pieces-drop part segments i d below = ap (λ xs. plain_pieces part xs) (drop_more segments i d below)

-- ---- green ones

pub green_pieces-nil : (segments : List (ℕ × List ℕ)) → segments ≡ [] → green_pieces segments ≡ []
unfolding green_pieces
green_pieces-nil segments none = rw none refl

green_pieces-last : (segment : ℕ × List ℕ) (later : List (ℕ × List ℕ)) → later ≡ []
    → green_pieces (segment ∷ later) ≡ a_piece (piece_at kinds.GreenEndBlock 0 0 segment) ∷ green_pieces later
unfolding green_pieces
green_pieces-last segment later none = rw none refl

green_pieces-more : (segment next : ℕ × List ℕ) (later others : List (ℕ × List ℕ)) → later ≡ next ∷ others
    → green_pieces (segment ∷ later) ≡ a_piece (piece_at kinds.Green 0 0 segment) ∷ green_pieces later
unfolding green_pieces
green_pieces-more segment next later others is = rw is refl

green_pieces-by : (size : ℕ) (block : List ℕ) (segment : Segment) (b : Bool) → 1 ≤ size → segment.to ≤ length block → (segment.to == length block) ≡ b
    → green_pieces (segment_in block segment ∷ rest_of size block segment.to)
    ≡ a_piece (piece_at (if b then kinds.GreenEndBlock else kinds.Green) 0 0 (segment_in block segment)) ∷ green_pieces (rest_of size block segment.to)
green_pieces-by size block segment true some within is =
    let end = eqb-true segment.to (length block) is in
    green_pieces-last (segment_in block segment) (rest_of size block segment.to) (rest_of-end size segment.to block (omega (arith, end)))
green_pieces-by size block segment false some within is =
    let more = eqb-false segment.to (length block) is in
    let next : Segment = record { from = segment.to; to = segment.to + min size (length block - segment.to) } in
    green_pieces-more (segment_in block segment) (segment_in block next) (rest_of size block segment.to) (rest_of size block next.to)
    (rest_of-step size segment.to block next some (omega (arith, more, within)) refl refl)

-- the first one has the kind that its stop says
pub green_pieces-step : (size from : ℕ) (block : List ℕ) (segment : Segment) → 1 ≤ size → from < length block
    → segment.from ≡ from → segment.to ≡ from + min size (length block - from)
    → green_pieces (rest_of size block from)
    ≡ a_piece (piece_at (green_kind (length block) segment.to) 0 0 (segment_in block segment)) ∷ green_pieces (rest_of size block segment.to)
green_pieces-step size from block segment some any is_from is_to =
    ap (λ segments. green_pieces segments) (rest_of-step size from block segment some any is_from is_to)
    ∙ green_pieces-by size block segment (segment.to == length block) some (omega (arith, is_to, any)) refl

-- ---- what is sent, and what is left to send

-- these datagrams are followed by those of some contents, and are all in the end
pub record AreSent (name : SessionName) (out : List (List ℕ)) (left : List ContentValue) (all : List (List ℕ)) : Type 0 where
  pub all_are : out ++ datagrams_of name left ≡ all

pub AreSent-step : (name : SessionName) (content : ContentValue) (left later : List ContentValue) (out new all : List (List ℕ)) → left ≡ content ∷ later
    → new ≡ out ++ segment_octets (headed name content) ∷ [] → AreSent name out left all → AreSent name new later all
AreSent-step name content left later out new all is pushed sent = record {
  all_are = ap (λ ds. ds ++ datagrams_of name later) pushed
      ∙ append_assoc out (segment_octets (headed name content) ∷ []) (datagrams_of name later)
      ∙ ap (λ cs. out ++ datagrams_of name cs) (sym is)
      ∙ sent.all_are;
}

pub AreSent-last : (name : SessionName) (left : List ContentValue) (out all : List (List ℕ)) → left ≡ [] → AreSent name out left all → out ≡ all
AreSent-last name left out all none sent =
    sym (append-nil out) ∙ ap (λ cs. out ++ datagrams_of name cs) (sym none) ∙ sent.all_are

-- ---- what holds of all segments

pub All-firsts : {X : Type 0} (P : X → Type 0) → (xs ys : List X) → All P (xs ++ ys) → All P xs
All-firsts P [] ys all k d below = absurd (omega arith)
All-firsts P (x ∷ xs) ys all zero d below = all 0 d (omega arith)
All-firsts P (x ∷ xs) ys all (suc k) d below = All-firsts P xs ys (λ i e h. all (suc i) e (omega arith)) k d (omega arith)

pub All-last : {X : Type 0} (P : X → Type 0) → (xs : List X) (x : X) → All P (xs ++ x ∷ []) → P x
All-last P [] x all = all 0 x (omega arith)
All-last P (y ∷ xs) x all = All-last P xs x (λ i e h. all (suc i) e (omega arith))
