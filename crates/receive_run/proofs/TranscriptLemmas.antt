-- The text that `receive` writes keeps the receiver's law.
use Rattle.std.proofs.Common.{◌≡◌, ℕ, zero, suc, ◌+◌, ◌<◌, Bool, true, false, ◌&&◌, ◌||◌, ◌↔◌, ◌⊎◌, inl, inr, List, [], ◌∷◌, ◌++◌, length, take, get_or, Option, None, Some, refl, sym, ◌∙◌, ap, arith, append_assoc, if◌then◌else◌, nat_lt}
use Rattle.std.proofs.lemmas.List.{append-nil}
use Rattle.edge_traits.specs.declared.status.Status.{Status}
use Rattle.edge_traits.specs.declared.status.Status.TheVariants as statuses
use Rattle.edge_traits.specs.Settled.{Settled, at_end, goes_on as going_on}
use Rattle.ltp_session.specs.declared.name.SessionName.{SessionName}
use Rattle.command_frame.specs.InputLines.{lines_of, ended_part, lines_within}
use Rattle.ltp_session.specs.RedPart.{RedPiece}
use Rattle.ltp_session.proofs.RedPartLemmas.{red_part-whole}
use Rattle.receive_run.specs.LineContent.{NamedPiece, LineContent, no_hex, no_segment, other, red, content_of}
use Rattle.receive_run.specs.Session.{Session, fresh, open_part, handed_up, Reply, nothing, up, note, skip, is_out_of_bounds, handing_up, meets}
use Rattle.receive_run.specs.KeptSessions.{Kept, session_in, with_session, unfinished, same_name}
use Rattle.receive_run.specs.WrittenLines.{skip_line, reply_line}
use Rattle.command_frame.specs.Within.{or_limit, within}
use Rattle.command_frame.specs.Lines.{Turn, passes, ends_run, turn_at, after_turn, lines_settle, lines_from}
use Rattle.command_frame.proofs.FrontLemmas.{from-limit, from-end}
use Rattle.receive_run.specs.Receive.{Limits, content_turn, receive_rules, received}
use Rattle.receive_run.specs.Taken.{counts, with_piece, taken}
use Rattle.receive_run.specs.ReceiverLaw.{CompletesRedPart, opens, closes, one_if, so_many, unfinished_after, Fate, goes_on, refused, past_limit, content_fate, fate, replies_text, EndsSo, KeepsReceiverLaw}
use Rattle.receive_run.proofs.LawLemmas.{Told, with_counted, MetByLaw, meets-law}
use Rattle.receive_run.proofs.CountLemmas.{so_many-more, met-count}
use Rattle.receive_run.proofs.TableLemmas.{same_name-is, same_name-refl, session_in-with, unfinished-with}

-- ---- the pieces that count, a line more

pub taken-more : (most : ℕ) (name : SessionName) (pieces : List RedPiece) (lines : List (List ℕ)) (line : List ℕ)
    → taken most name pieces (lines ++ line ∷ []) ≡ with_piece most name (taken most name pieces lines) (content_of line)
unfolding taken
taken-more most name pieces [] line = refl
taken-more most name pieces (first ∷ lines) line =
    taken-more most name (with_piece most name pieces (content_of first)) lines line

own_piece : (most : ℕ) (pieces : List RedPiece) (p : NamedPiece) → with_piece most p.name pieces (red p) ≡ with_counted most pieces p.piece
own_piece most pieces p = rw (same_name-refl p.name) refl

-- ---- what is handed up is of the piece's session

handing-name : (own name : SessionName) (w : Option (List ℕ)) (cells : List (Option ℕ)) (known : Option ℕ) (body : List ℕ)
    → (handing_up own w cells known).0 ≡ up name body → own ≡ name
handing-name own name None cells known body is = absurd (cc)
handing-name own name (Some whole) cells known body is = cc

bounds-name : (own name : SessionName) (t : Bool) (state : Session) (w : Option (List ℕ)) (cells : List (Option ℕ)) (known : Option ℕ) (body : List ℕ)
    → (let met : Reply × Session = if t then (note, state) else handing_up own w cells known in met.0) ≡ up name body → own ≡ name
bounds-name own name true state w cells known body is = absurd (cc)
bounds-name own name false state w cells known body is = handing-name own name w cells known body is

pub meets-name : (most : ℕ) (session : Session) (p : NamedPiece) (name : SessionName) (body : List ℕ)
    → (meets most session p).0 ≡ up name body → p.name ≡ name
unfolding meets
meets-name most fresh p name body is = bounds-name p.name name (is_out_of_bounds most 0 None p.piece) _ _ _ _ body is
meets-name most (open_part cells known) p name body is =
    bounds-name p.name name (is_out_of_bounds most (length cells) known p.piece) _ _ _ _ body is
meets-name most handed_up p name body is = absurd (cc)

-- ---- one line

-- the sessions stand as the pieces before say, and as many of them are unfinished
pub record ShowsAll (most : ℕ) (kept : List Kept) (before : List (List ℕ)) : Type 0 where
  pub each : (name : SessionName) → Told (session_in name kept) (taken most name [] before)
  pub count : unfinished kept + so_many closes most [] before ≡ so_many opens most [] before

-- the reply hands up exactly what becomes whole with this line
abbrev pub ReplyByLaw : ℕ → List (List ℕ) → List ℕ → Reply → Type 0
ReplyByLaw most before line reply = (name : SessionName) (body : List ℕ)
    → ((reply ≡ up name body) ↔ CompletesRedPart most before line name body)

pub record GoesOnByLaw (limits : Limits) (n : ℕ) (before : List (List ℕ)) (line text : List ℕ) (kept : List Kept) : Type 0 where
  pub reply : Reply
  pub says : text ≡ reply_line n reply
  pub passes_on : fate limits n before line ≡ goes_on
  pub law : ReplyByLaw limits.block before line reply
  pub shows : ShowsAll limits.block kept (before ++ line ∷ [])

-- a run that ends with line n: its fate is that
abbrev pub StopsByLaw : Limits → ℕ → List (List ℕ) → List ℕ → List ℕ → Status → Type 0
StopsByLaw limits n before line text statuses.Done = ⊥
StopsByLaw limits n before line text statuses.Refused = fate limits n before line ≡ refused text
StopsByLaw limits n before line text statuses.Limit = (text ≡ []) × (fate limits n before line ≡ past_limit)
StopsByLaw limits n before line text statuses.Usage = ⊥
StopsByLaw limits n before line text statuses.ReadFault = ⊥
StopsByLaw limits n before line text statuses.WriteFault = ⊥
StopsByLaw limits n before line text statuses.Memory = ⊥

abbrev pub TurnByLaw : Limits → ℕ → List (List ℕ) → List ℕ → Turn (List Kept) → Type 0
TurnByLaw limits n before line (passes text kept) = GoesOnByLaw limits n before line text kept
TurnByLaw limits n before line (ends_run text status) = StopsByLaw limits n before line text status

-- a line that brings no piece changes nothing
idle-law : (most : ℕ) (before : List (List ℕ)) (line : List ℕ) (reply : Reply) (name : SessionName) (body : List ℕ)
    → (reply ≡ up name body → ⊥)
    → taken most name [] (before ++ line ∷ []) ≡ taken most name [] before
    → ((reply ≡ up name body) ↔ CompletesRedPart most before line name body)
idle-law most before line reply name body quiet same = (
  λ is. absurd (quiet is),
  λ whole.
      let part = rw same at whole.part in
      let is = red_part-whole (taken most name [] before) body part in
      let not_yet = whole.not_before in absurd (cc),
)

-- a line within the limits on lines
module _ (limits : Limits) (n : ℕ) (kept : List Kept) (before : List (List ℕ)) (line : List ℕ)
    (inside : (nat_lt limits.lines n || nat_lt limits.octets (length line)) ≡ false) (shows : ShowsAll limits.block kept before) where
  fate-content : (c : LineContent) → content_of line ≡ c
      → fate limits n before line ≡ content_fate limits n (unfinished_after limits.block (before ++ line ∷ [])) c
  fate-content c is = rw (inside, is) refl

  other-law : content_of line ≡ other → GoesOnByLaw limits n before line (skip_line n) kept
  other-law is =
      let same = λ (name : SessionName). taken-more limits.block name [] before line
      ∙ ap (with_piece limits.block name (taken limits.block name [] before)) is in
      record {
        reply = skip;
        says = refl;
        passes_on = fate-content other is;
        law = λ name body. idle-law limits.block before line skip name body (λ hands. cc) (same name);
        shows = record {
          each = λ name. rw (same name) (shows.each name);
          count = rw (so_many-more closes limits.block [] before line, so_many-more opens limits.block [] before line, is) (omega (arith, shows.count));
        };
      }

  -- a red piece
  module _ (p : NamedPiece) (is : content_of line ≡ red p) where
    now_taken : (name : SessionName) → taken limits.block name [] (before ++ line ∷ [])
        ≡ (if same_name p.name name && counts limits.block (taken limits.block name [] before) p.piece
        then p.piece ∷ taken limits.block name [] before else taken limits.block name [] before)
    now_taken name = taken-more limits.block name [] before line ∙ ap (with_piece limits.block name (taken limits.block name [] before)) is

    by_law : MetByLaw p.name (meets limits.block (session_in p.name kept) p) (taken limits.block p.name [] before)
        (with_counted limits.block (taken limits.block p.name [] before) p.piece)
    by_law = meets-law limits.block (session_in p.name kept) (taken limits.block p.name [] before) p (shows.each p.name)

    apart_taken : (name : SessionName) → same_name p.name name ≡ false
        → taken limits.block name [] (before ++ line ∷ []) ≡ taken limits.block name [] before
    apart_taken name apart = now_taken name ∙ rw apart refl

    own_taken : taken limits.block p.name [] (before ++ line ∷ [])
        ≡ with_counted limits.block (taken limits.block p.name [] before) p.piece
    own_taken = now_taken p.name ∙ rw (same_name-refl p.name) refl

    own_reply_law : (body : List ℕ)
        → (((meets limits.block (session_in p.name kept) p).0 ≡ up p.name body) ↔ CompletesRedPart limits.block before line p.name body)
    own_reply_law body = (
      λ hands.
          let given = by_law.hands body hands in
          record { not_before = given.0; part = rw own_taken given.1 },
      λ whole.
          let part = rw own_taken at whole.part in
          by_law.handed body whole.not_before part,
    )

    reply_law : (name : SessionName) (body : List ℕ) (t : Bool) → same_name p.name name ≡ t
        → (((meets limits.block (session_in p.name kept) p).0 ≡ up name body) ↔ CompletesRedPart limits.block before line name body)
    reply_law name body false apart =
        idle-law limits.block before line _ name body
        (λ hands.
        let own = meets-name limits.block (session_in p.name kept) p name body hands in
        let same : same_name p.name name ≡ true = rw own (same_name-refl name) in
        absurd (cc))
        (apart_taken name apart)
    reply_law name body true same = rw (← same_name-is p.name name same) (own_reply_law body)

    told_law : (name : SessionName) (t : Bool) → same_name p.name name ≡ t
        → Told (session_in name (with_session p.name (meets limits.block (session_in p.name kept) p).1 kept))
        (taken limits.block name [] (before ++ line ∷ []))
    told_law name false apart =
        rw (session_in-with p.name name (meets limits.block (session_in p.name kept) p).1 kept, apart, apart_taken name apart)
        (shows.each name)
    told_law name true same =
        rw (← same_name-is p.name name same)
        (rw (
          session_in-with p.name p.name (meets limits.block (session_in p.name kept) p).1 kept,
          same_name-refl p.name,
          own_taken,
        ) by_law.told)

    so_many-piece : (test : List RedPiece → List RedPiece → Bool) → so_many test limits.block [] (before ++ line ∷ [])
        ≡ so_many test limits.block [] before
        + one_if (test (taken limits.block p.name [] before) (with_counted limits.block (taken limits.block p.name [] before) p.piece))
    so_many-piece test =
        so_many-more test limits.block [] before line
        ∙ rw (is, own_piece limits.block (taken limits.block p.name [] before) p) refl

    count_law : unfinished (with_session p.name (meets limits.block (session_in p.name kept) p).1 kept)
        + so_many closes limits.block [] (before ++ line ∷ []) ≡ so_many opens limits.block [] (before ++ line ∷ [])
    count_law = omega (
      arith,
      so_many-piece closes,
      so_many-piece opens,
      met-count limits.block (session_in p.name kept) (meets limits.block (session_in p.name kept) p).1 (taken limits.block p.name [] before) p.piece (shows.each p.name) by_law.told,
      unfinished-with p.name (meets limits.block (session_in p.name kept) p).1 kept,
      shows.count,
    )

    pub counted : unfinished_after limits.block (before ++ line ∷ [])
        ≡ unfinished (with_session p.name (meets limits.block (session_in p.name kept) p).1 kept)
    counted = omega (arith, count_law)

    pub red-law : fate limits n before line ≡ goes_on
        → GoesOnByLaw limits n before line (reply_line n (meets limits.block (session_in p.name kept) p).0)
        (with_session p.name (meets limits.block (session_in p.name kept) p).1 kept)
    red-law on = record {
      reply = (meets limits.block (session_in p.name kept) p).0;
      says = refl;
      passes_on = on;
      law = λ name body. reply_law name body (same_name p.name name) refl;
      shows = record { each = λ name. told_law name (same_name p.name name) refl; count = count_law };
    }

  -- ---- any line

  pub content-law : (c : LineContent) → content_of line ≡ c → TurnByLaw limits n before line (content_turn limits n kept c)
  content-law no_hex is = fate-content no_hex is
  content-law (no_segment at cause) is = fate-content (no_segment at cause) is
  content-law other is = other-law is
  content-law (red p) is = by_test (nat_lt limits.sessions _) refl
    where
      by_test : (t : Bool)
          → nat_lt limits.sessions (unfinished (with_session p.name (meets limits.block (session_in p.name kept) p).1 kept)) ≡ t
          → TurnByLaw limits n before line
          (if t then ends_run [] statuses.Limit
          else passes (reply_line n (meets limits.block (session_in p.name kept) p).0)
          (with_session p.name (meets limits.block (session_in p.name kept) p).1 kept))
      by_test true test = (refl, fate-content (red p) is ∙ rw (counted p is, test) refl)
      by_test false test = red-law p is (fate-content (red p) is ∙ rw (counted p is, test) refl)

pub turn-law : (limits : Limits) (n : ℕ) (kept : List Kept) (before : List (List ℕ)) (line : List ℕ)
    → ShowsAll limits.block kept before → TurnByLaw limits n before line (turn_at (receive_rules limits) n kept line)
unfolding turn_at
turn-law limits n kept before line shows = by_test (nat_lt limits.lines n || nat_lt limits.octets (length line)) refl
  where
    by_test : (t : Bool) → (nat_lt limits.lines n || nat_lt limits.octets (length line)) ≡ t
        → TurnByLaw limits n before line
        (if t then ends_run [] statuses.Limit else content_turn limits n kept (content_of line))
    by_test true test = (refl, rw test refl)
    by_test false test = content-law limits n kept before line test shows (content_of line) refl

-- ---- all lines

-- the end of a run, with lines before
abbrev pub EndsFrom : Limits → ℕ → Bool → List (List ℕ) → List (List ℕ) → Status → ℕ → List ℕ → Type 0
EndsFrom limits n longer before lines statuses.Done replied closing =
    (closing ≡ []) × (replied ≡ length lines) × (longer ≡ false)
EndsFrom limits n longer before lines statuses.Refused replied closing =
    (replied < length lines)
    × (fate limits (n + replied) (before ++ take replied lines) (get_or lines replied []) ≡ refused closing)
EndsFrom limits n longer before lines statuses.Limit replied closing = (closing ≡ []) × (
    ((replied < length lines) × (fate limits (n + replied) (before ++ take replied lines) (get_or lines replied []) ≡ past_limit))
    ⊎ ((replied ≡ length lines) × (longer ≡ true)))
EndsFrom limits n longer before lines statuses.Usage replied closing = ⊥
EndsFrom limits n longer before lines statuses.ReadFault replied closing = ⊥
EndsFrom limits n longer before lines statuses.WriteFault replied closing = ⊥
EndsFrom limits n longer before lines statuses.Memory replied closing = ⊥

-- the same as the law, with lines before
pub record KeepsFrom (limits : Limits) (n : ℕ) (longer : Bool) (before lines : List (List ℕ)) (settled : Settled) : Type 0 where
  pub status : Status
  pub is : settled.ends ≡ Some status
  pub replies : List Reply
  pub closing : List ℕ
  pub written : settled.text ≡ replies_text n replies ++ closing
  pub ends : EndsFrom limits n longer before lines status (length replies) closing
  pub none_before : (i : ℕ) → i < length replies → fate limits (n + i) (before ++ take i lines) (get_or lines i []) ≡ goes_on
  pub law : (i : ℕ) (name : SessionName) (body : List ℕ) → i < length replies
      → ((get_or replies i nothing ≡ up name body) ↔ CompletesRedPart limits.block (before ++ take i lines) (get_or lines i []) name body)

module _ (limits : Limits) (n : ℕ) (longer : Bool) (before : List (List ℕ)) (line : List ℕ) (lines : List (List ℕ)) where
  ends_stop : (text : List ℕ) (status : Status) → StopsByLaw limits n before line text status
      → EndsFrom limits n longer before (line ∷ lines) status 0 text
  ends_stop text statuses.Done stop = absurd stop
  ends_stop text statuses.Refused stop =
      let same : n + 0 ≡ n = omega arith in (omega arith, rw (same, append-nil before) stop)
  ends_stop text statuses.Limit stop =
      let same : n + 0 ≡ n = omega arith in (stop.0, inl (omega arith, rw (same, append-nil before) stop.1))
  ends_stop text statuses.Usage stop = absurd stop
  ends_stop text statuses.ReadFault stop = absurd stop
  ends_stop text statuses.WriteFault stop = absurd stop
  ends_stop text statuses.Memory stop = absurd stop

  fate_more : (i : ℕ) (is : Fate) → fate limits (n + 1 + i) ((before ++ line ∷ []) ++ take i lines) (get_or lines i []) ≡ is
      → fate limits (n + suc i) (before ++ take (suc i) (line ∷ lines)) (get_or (line ∷ lines) (suc i) []) ≡ is
  fate_more i is later =
      let same : n + suc i ≡ n + 1 + i = omega arith in
      rw (same, ← append_assoc before (line ∷ []) (take i lines)) later

  ends_more : (replied : ℕ) (text : List ℕ) (status : Status) → EndsFrom limits (n + 1) longer (before ++ line ∷ []) lines status replied text
      → EndsFrom limits n longer before (line ∷ lines) status (suc replied) text
  ends_more replied text statuses.Done (closing, all, not_longer) = (closing, omega (arith, all), not_longer)
  ends_more replied text statuses.Refused later = (omega (arith, later.0), fate_more replied (refused text) later.1)
  ends_more replied text statuses.Limit (closing, inl next) = (closing, inl (omega (arith, next.0), fate_more replied past_limit next.1))
  ends_more replied text statuses.Limit (closing, inr none) = (closing, inr (omega (arith, none.0), none.1))
  ends_more replied text statuses.Usage later = absurd later
  ends_more replied text statuses.ReadFault later = absurd later
  ends_more replied text statuses.WriteFault later = absurd later
  ends_more replied text statuses.Memory later = absurd later

  keeps_stop : (text : List ℕ) (status : Status) → StopsByLaw limits n before line text status
      → KeepsFrom limits n longer before (line ∷ lines) (record { text = text; ends = Some status })
  unfolding replies_text
  keeps_stop text status stop = record {
    status = status;
    is = refl;
    replies = [];
    closing = text;
    written = refl;
    ends = ends_stop text status stop;
    none_before = λ i low. absurd (omega arith);
    law = λ i name body low. absurd (omega arith);
  }

  keeps_more : (text : List ℕ) (kept : List Kept) (rest : Settled) → GoesOnByLaw limits n before line text kept
      → KeepsFrom limits (n + 1) longer (before ++ line ∷ []) lines rest
      → KeepsFrom limits n longer before (line ∷ lines) (record { text = text ++ rest.text; ends = rest.ends })
  unfolding replies_text
  keeps_more text kept rest turn later = record {
    status = later.status;
    is = later.is;
    replies = turn.reply ∷ later.replies;
    closing = later.closing;
    written = rw (turn.says, later.written) (sym (append_assoc (reply_line n turn.reply) (replies_text (n + 1) later.replies) later.closing));
    ends = ends_more (length later.replies) later.closing later.status later.ends;
    none_before = none;
    law = each;
  }
    where
      none : (i : ℕ) → i < length (turn.reply ∷ later.replies)
          → fate limits (n + i) (before ++ take i (line ∷ lines)) (get_or (line ∷ lines) i []) ≡ goes_on
      none zero low = let same : n + 0 ≡ n = omega arith in rw (same, append-nil before) turn.passes_on
      none (suc i) low = fate_more i goes_on (later.none_before i (omega arith))

      each : (i : ℕ) (name : SessionName) (body : List ℕ) → i < length (turn.reply ∷ later.replies)
          → ((get_or (turn.reply ∷ later.replies) i nothing ≡ up name body)
          ↔ CompletesRedPart limits.block (before ++ take i (line ∷ lines)) (get_or (line ∷ lines) i []) name body)
      each zero name body low = rw (append-nil before) (turn.law name body)
      each (suc i) name body low = rw (← append_assoc before (line ∷ []) (take i lines)) (later.law i name body (omega arith))

  keeps_turn : (ending : List Kept → Settled) (turn : Turn (List Kept)) → TurnByLaw limits n before line turn
      → ((now : List Kept) → ShowsAll limits.block now (before ++ line ∷ [])
      → KeepsFrom limits (n + 1) longer (before ++ line ∷ []) lines (lines_settle (receive_rules limits) (n + 1) now lines ending))
      → KeepsFrom limits n longer before (line ∷ lines)
      (after_turn turn (λ now. lines_settle (receive_rules limits) (n + 1) now lines ending))
  keeps_turn ending (passes text kept) turn later =
      keeps_more text kept (lines_settle (receive_rules limits) (n + 1) kept lines ending) turn (later kept turn.shows)
  keeps_turn ending (ends_run text status) turn later = keeps_stop text status turn

-- a run may end so after its last line
abbrev pub IsEnding : Limits → Bool → Status → Type 0
IsEnding limits longer ending = (n : ℕ) (before : List (List ℕ)) → EndsFrom limits n longer before [] ending 0 []

pub keeps_from : (limits : Limits) (n : ℕ) (longer : Bool) (kept : List Kept) (before lines : List (List ℕ)) (ending : Status)
    → IsEnding limits longer ending → ShowsAll limits.block kept before
    → KeepsFrom limits n longer before lines (lines_settle (receive_rules limits) n kept lines (λ now. record { text = []; ends = Some ending }))
unfolding lines_settle replies_text
keeps_from limits n longer kept before [] ending last shows = record {
  status = ending;
  is = refl;
  replies = [];
  closing = [];
  written = refl;
  ends = last n before;
  none_before = λ i low. absurd (omega arith);
  law = λ i name body low. absurd (omega arith);
}
keeps_from limits n longer kept before (line ∷ lines) ending last shows =
    keeps_turn limits n longer before line lines (λ now. record { text = []; ends = Some ending }) (turn_at (receive_rules limits) n kept line) (turn-law limits n kept before line shows)
    (λ now later. keeps_from limits (n + 1) longer now (before ++ line ∷ []) lines ending last later)

ends_so : (limits : Limits) (longer : Bool) (lines : List (List ℕ)) (status : Status) (replied : ℕ) (closing : List ℕ)
    → EndsFrom limits 1 longer [] lines status replied closing → EndsSo limits longer lines status replied closing
ends_so limits longer lines statuses.Done replied closing ends = ends
ends_so limits longer lines statuses.Refused replied closing ends = ends
ends_so limits longer lines statuses.Limit replied closing ends = ends
ends_so limits longer lines statuses.Usage replied closing ends = ends
ends_so limits longer lines statuses.ReadFault replied closing ends = ends
ends_so limits longer lines statuses.WriteFault replied closing ends = ends
ends_so limits longer lines statuses.Memory replied closing ends = ends

nothing_came : (most : ℕ) → ShowsAll most [] []
unfolding taken session_in
nothing_came most = record { each = λ name. refl; count = refl }

keeps_all : (limits : Limits) (most : ℕ) (input : List ℕ)
    → KeepsFrom limits 1 (nat_lt most (length input)) [] (lines_within most input) (received limits most input)
unfolding within lines_within
keeps_all limits most input = by_test (nat_lt most (length input))
  where
    by_test : (t : Bool) → KeepsFrom limits 1 t [] (if t then lines_of (ended_part (take most input)) else lines_of input)
        (if t then or_limit (lines_from (receive_rules limits) 1 [] going_on (take most input))
        else lines_from (receive_rules limits) 1 [] at_end input)
    by_test true =
        rw (from-limit (receive_rules limits) 1 [] (take most input))
        (keeps_from limits 1 true [] [] _ statuses.Limit (λ n before. (refl, inr (refl, refl))) (nothing_came limits.block))
    by_test false =
        rw (from-end (receive_rules limits) 1 [] input)
        (keeps_from limits 1 false [] [] _ statuses.Done (λ n before. (refl, refl, refl)) (nothing_came limits.block))

-- what `receive` writes keeps the receiver's law
pub record Lawful (limits : Limits) (most : ℕ) (input : List ℕ) : Type 0 where
  pub status : Status
  pub is : (received limits most input).ends ≡ Some status
  pub law : KeepsReceiverLaw limits most input (received limits most input).text status

pub received-law : (limits : Limits) (most : ℕ) (input : List ℕ) → Lawful limits most input
received-law limits most input =
    let keeps = keeps_all limits most input in
    record {
      status = keeps.status;
      is = keeps.is;
      law = record {
        replies = keeps.replies;
        closing = keeps.closing;
        written = keeps.written;
        ends = ends_so limits (nat_lt most (length input)) (lines_within most input) keeps.status (length keeps.replies) keeps.closing keeps.ends;
        none_before = keeps.none_before;
        law = keeps.law;
      };
    }
