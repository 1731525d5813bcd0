-- What is said in a session as entries follow a recording.

use Rattle.std.proofs.Common.{◌≡◌, ℕ, suc, ◌+◌, ◌-◌, ◌<◌, ◌≤◌, ◌^◌, Bool, true, false, not, ◌==◌, ◌&&◌, nat_lt, nat_le}
use Rattle.std.proofs.Common.{List, [], ◌∷◌, length, map, None, Some, refl, sym, ◌∙◌, ap, arith, subst, if◌then◌else◌}
use Rattle.std.specs.Prelude.{slice_index}
use Rattle.std.specs.List.{AllByRecursion, list_all}
use Rattle.std.proofs.lemmas.Bool.{eqb-true, eq-eqb}
use Rattle.std.proofs.lemmas.Bool.Decides.{nat_tests}
use Rattle.ltp_segment.specs.Kinds.{is_red}
use Rattle.ltp_segment.specs.Legal.{IsSegment, IsContent}
use Rattle.ltp_segment.specs.Spelling.{segment_octets}
use Rattle.ltp_segment.specs.Values.{PieceValue, ContentValue, a_piece, a_report, a_report_ack}
use Rattle.ltp_segment.specs.Values.{a_sender_cancel, a_sender_cancel_ack, a_receiver_cancel}
use Rattle.ltp_segment.specs.Values.{a_receiver_cancel_ack, SegmentValue}
use Rattle.ltp_segment.proofs.WritingLemmas.{segment-again}
use Rattle.ltp_session.specs.declared.name.SessionName.{SessionName}
use Rattle.ltp_session.specs.Cells.{octet_in}
use Rattle.ltp_session.specs.RedPart.{RedPiece}
use Rattle.ltp_session.specs.Views.{headed, headed_all}
use Rattle.ltp_laws.specs.Blocks.{IsOf}
use Rattle.ltp_laws.proofs.ListLemmas.{both_arms}
use Rattle.ltp_laws.proofs.TableLemmas.{self_eqb}
use Rattle.ltp_audit.specs.declared.entry.Entry.{Entry}
use Rattle.ltp_audit.specs.Sides.{is_of_sender, is_on_its_side}
use Rattle.ltp_audit.specs.Recorded.{segment_in, if_on_its_side, said_in, red_pieces, red_piece, agrees, has_no_other, are_alike}
use Rattle.ltp_audit.specs.Recording.{went}
use Rattle.ltp_audit.specs.Rules.{broken_by, fault_of, claims_unseen, answers_unseen, acknowledges_unseen, differs, cancel_unseen}
use Rattle.ltp_audit.specs.Keeping.{followed_by, KeepsRules}
use Rattle.ltp_audit.specs.Knows.{SenderMay, IsOfBlock, ReceiverMay, IsParty}
use Rattle.ltp_session.specs.Engine.{Party}

-- ---- no rule is broken

unbroken : (earlier : List ContentValue) (content : ContentValue) → claims_unseen earlier content ≡ false
    → answers_unseen earlier content ≡ false → acknowledges_unseen earlier content ≡ false → differs earlier content ≡ false
    → cancel_unseen earlier content ≡ false → broken_by true earlier content ≡ None
unfolding broken_by
unbroken earlier content a b c d e = rw (a, b, c, d, e) refl

fits-block : (at o first y : ℕ) (inside : Bool) → (inside ≡ true → first ≡ y)
    → has_no_other (if inside then Some first else None) y ≡ true
fits-block at o first y true same = eq-eqb first y (same refl)
fits-block at o first y false same = refl

tail-of : (block : List ℕ) (at octet : ℕ) (body : List ℕ) → IsOf block at (octet ∷ body) → IsOf block (at + 1) body
tail-of block at octet body of k low =
    let here = of (suc k) (omega (arith, low)) in
    let place : at + suc k ≡ at + 1 + k = omega arith in
    (omega (arith, here.0), ap (slice_index block) (sym place) ∙ here.1)

-- two pieces of a block are alike
agrees-of : (block : List ℕ) (o : ℕ) (b : List ℕ) → IsOf block o b → (at : ℕ) (body : List ℕ) → IsOf block at body
    → agrees (octet_in o b) at body ≡ true
agrees-of block o b of at [] here = refl
agrees-of block o b of at (octet ∷ body) here =
    let rest = agrees-of block o b of (at + 1) body (tail-of block at octet body here) in
    let first : has_no_other (octet_in o b at) octet ≡ true =
    fits-block at o (slice_index b (at - o)) octet (nat_le o at && nat_lt at (o + length b)) (λ inside. same inside) in
    rw (first, rest) refl
  where
    same : (nat_le o at && nat_lt at (o + length b)) ≡ true → slice_index b (at - o) ≡ octet
    same inside = by (nat_le o at) refl (nat_lt at (o + length b)) refl inside where
      by : (low : Bool) → nat_le o at ≡ low → (high : Bool) → nat_lt at (o + length b) ≡ high → (low && high) ≡ true
          → slice_index b (at - o) ≡ octet
      by true is_low true is_high both =
          let from : o ≤ at = grind (arith, nat_tests) in
          let to : at < o + length b = grind (arith, nat_tests) in
          let there = of (at - o) (omega (arith, from, to)) in
          let begin = here 0 (omega arith) in
          let place : o + (at - o) ≡ at + 0 = omega (arith, from) in
          sym there.1 ∙ (ap (slice_index block) place ∙ begin.1)
      by true is_low false is_high both = absurd (cc)
      by false is_low high is_high both = absurd (cc)

alike-all : (block : List ℕ) (piece : PieceValue) → IsOf block piece.offset piece.body → (said : List ContentValue)
    → AllByRecursion (IsOfBlock block) said → list_all (are_alike (red_piece piece)) (red_pieces said) ≡ true
alike-all block piece of [] all = refl
alike-all block piece of (a_piece q ∷ said) all =
    let rest = alike-all block piece of said all.1 in
    let first : are_alike (red_piece piece) (red_piece q) ≡ true = agrees-of block q.offset q.body all.0 piece.offset piece.body of in
    both_arms (λ (ps : List RedPiece). list_all (are_alike (red_piece piece)) ps ≡ true) (is_red q.kind)
    (red_piece q ∷ red_pieces said) (red_pieces said) (rw (first, rest) refl) rest
alike-all block piece of (a_report report ∷ said) all = alike-all block piece of said all.1
alike-all block piece of (a_report_ack serial ∷ said) all = alike-all block piece of said all.1
alike-all block piece of (a_sender_cancel reason ∷ said) all = alike-all block piece of said all.1
alike-all block piece of (a_sender_cancel_ack ∷ said) all = alike-all block piece of said all.1
alike-all block piece of (a_receiver_cancel reason ∷ said) all = alike-all block piece of said all.1
alike-all block piece of (a_receiver_cancel_ack ∷ said) all = alike-all block piece of said all.1

none-differs : (b t : Bool) → t ≡ true → (b && not t) ≡ false
none-differs true true is = refl
none-differs false t is = refl
none-differs true false is = absurd (cc)

pub sender-unbroken : (block : List ℕ) (said : List ContentValue) (content : ContentValue) → SenderMay block said content
    → ((piece : PieceValue) → content ≡ a_piece piece → AllByRecursion (IsOfBlock block) said) → broken_by true said content ≡ None
sender-unbroken block said (a_piece piece) may all =
    unbroken said (a_piece piece) refl refl refl
    (none-differs (is_red piece.kind) _ (alike-all block piece may.octets said (all piece refl))) refl
sender-unbroken block said (a_report_ack serial) may all =
    let seen = may.1 in unbroken said (a_report_ack serial) refl refl (rw seen refl) refl refl
sender-unbroken block said (a_sender_cancel reason) may all = unbroken said (a_sender_cancel reason) refl refl refl refl refl
sender-unbroken block said a_receiver_cancel_ack may all =
    unbroken said a_receiver_cancel_ack refl refl refl refl (rw may refl)
sender-unbroken block said (a_report report) may all = absurd may
sender-unbroken block said a_sender_cancel_ack may all = absurd may
sender-unbroken block said (a_receiver_cancel reason) may all = absurd may

none-answers : (b t : Bool) → t ≡ true → (not b && not t) ≡ false
none-answers true t is = refl
none-answers false true is = refl
none-answers false false is = absurd (cc)

pub receiver-unbroken : (said : List ContentValue) (content : ContentValue) → ReceiverMay said content
    → broken_by true said content ≡ None
receiver-unbroken said (a_report x) may =
    let held = may.claims in
    unbroken said (a_report x) (rw held refl) (none-answers (x.checkpoint == 0) _ may.checkpoint) refl refl refl
receiver-unbroken said a_sender_cancel_ack may = unbroken said a_sender_cancel_ack refl refl refl refl (rw may refl)
receiver-unbroken said (a_receiver_cancel reason) may = unbroken said (a_receiver_cancel reason) refl refl refl refl refl
receiver-unbroken said (a_piece piece) may = absurd may
receiver-unbroken said (a_report_ack serial) may = absurd may
receiver-unbroken said (a_sender_cancel reason) may = absurd may
receiver-unbroken said a_receiver_cancel_ack may = absurd may

-- ---- what is sent can be written, and stands on its side

pub sender-legal : (block : List ℕ) (said : List ContentValue) (content : ContentValue) → SenderMay block said content
    → IsContent content × (is_of_sender content ≡ true)
sender-legal block said (a_piece piece) may = (may.legal, refl)
sender-legal block said (a_report_ack serial) may = (may.0, refl)
sender-legal block said (a_sender_cancel reason) may = (may, refl)
sender-legal block said a_receiver_cancel_ack may = (tt, refl)
sender-legal block said (a_report report) may = absurd may
sender-legal block said a_sender_cancel_ack may = absurd may
sender-legal block said (a_receiver_cancel reason) may = absurd may

pub receiver-legal : (said : List ContentValue) (content : ContentValue) → ReceiverMay said content
    → IsContent content × (is_of_sender content ≡ false)
receiver-legal said (a_report x) may = (may.legal, refl)
receiver-legal said a_sender_cancel_ack may = (tt, refl)
receiver-legal said (a_receiver_cancel reason) may = (may, refl)
receiver-legal said (a_piece piece) may = absurd may
receiver-legal said (a_report_ack serial) may = absurd may
receiver-legal said (a_sender_cancel reason) may = absurd may
receiver-legal said a_receiver_cancel_ack may = absurd may

-- a segment that the engine may send
pub record IsSendable (own peer : ℕ) (s : SegmentValue) : Type 0 where
  pub legal : IsSegment s
  pub side : is_on_its_side own peer true s ≡ true

pub sender-sendable : (p : Party) (n : ℕ) (content : ContentValue) → IsParty p → n < 2 ^ 64
    → IsContent content → is_of_sender content ≡ true
    → IsSendable p.own p.peer (headed (record { originator = p.own; number = n }) content)
sender-sendable p n content party few legal by_sender = record {
  legal = record { originator = party.own; session = few; content = legal };
  side = rw (by_sender, self_eqb p.own) refl;
}

apart-eqb : (a b : ℕ) → (a ≡ b → ⊥) → (b == a) ≡ false
apart-eqb a b apart = by (b == a) refl where
  by : (t : Bool) → (b == a) ≡ t → t ≡ false
  by true is = absurd (apart (sym (eqb-true b a is)))
  by false is = refl

pub receiver-sendable : (p : Party) (n : ℕ) (content : ContentValue) → IsParty p → n < 2 ^ 64
    → IsContent content → is_of_sender content ≡ false
    → IsSendable p.own p.peer (headed (record { originator = p.peer; number = n }) content)
receiver-sendable p n content party few legal by_receiver = record {
  legal = record { originator = party.peer; session = few; content = legal };
  side = let other = apart-eqb p.own p.peer party.apart in rw (by_receiver, self_eqb p.peer, other) refl;
}

-- ---- an entry more

pub sent-in : (own peer : ℕ) (s : SegmentValue) → IsSendable own peer s → segment_in own peer (went (segment_octets s)) ≡ Some s
unfolding segment_in
sent-in own peer s is =
    let again = segment-again s is.legal in let side = is.side in
    ap (if_on_its_side own peer true) again ∙ rw side refl

pub said-here : (own peer : ℕ) (entry : Entry) (history : List Entry) (s : SegmentValue) (o n : ℕ) → segment_in own peer entry ≡ Some s
    → ((s.originator == o) && (s.session == n)) ≡ true
    → said_in own peer (entry ∷ history) o n ≡ s.content ∷ said_in own peer history o n
unfolding said_in
said-here own peer entry history s o n is same = rw is (rw same refl)

pub said-there : (own peer : ℕ) (entry : Entry) (history : List Entry) (s : SegmentValue) (o n : ℕ) → segment_in own peer entry ≡ Some s
    → ((s.originator == o) && (s.session == n)) ≡ false → said_in own peer (entry ∷ history) o n ≡ said_in own peer history o n
unfolding said_in
said-there own peer entry history s o n is other = rw is (rw other refl)

pub said-nowhere : (own peer : ℕ) (entry : Entry) (history : List Entry) (o n : ℕ) → segment_in own peer entry ≡ None
    → said_in own peer (entry ∷ history) o n ≡ said_in own peer history o n
unfolding said_in
said-nowhere own peer entry history o n is = rw is refl

pub no-fault : (own peer : ℕ) (history : List Entry) (s : SegmentValue) → IsSendable own peer s
    → broken_by true (said_in own peer history s.originator s.session) s.content ≡ None
    → fault_of own peer history (went (segment_octets s)) ≡ None
unfolding fault_of
no-fault own peer history s is none =
    let again = segment-again s is.legal in let side = is.side in
    rw again (rw side (rw none refl))

-- ---- what a session says in a row

-- the entries of contents that are sent in a session
abbrev pub entries : SessionName → List ContentValue → List Entry
entries name out = map went (map segment_octets (headed_all name out))

-- entries of a session follow a recording, and break no rule
pub record Says (own peer : ℕ) (name : SessionName) (out : List ContentValue) (history : List Entry) : Type 0 where
  pub rules : KeepsRules own peer history (entries name out)
  pub here : said_in own peer (followed_by history (entries name out)) name.originator name.number
      ≡ followed_by (said_in own peer history name.originator name.number) out
  pub there : (o n : ℕ) → ((name.originator == o) && (name.number == n)) ≡ false
      → said_in own peer (followed_by history (entries name out)) o n ≡ said_in own peer history o n

self-name : (name : SessionName) → ((name.originator == name.originator) && (name.number == name.number)) ≡ true
self-name name = rw (self_eqb name.originator, self_eqb name.number) refl

-- P says what may be said after what was said, and Q goes on to hold of all that was said
pub record IsSafe (own peer : ℕ) (name : SessionName) (P : List ContentValue → ContentValue → Type 0) (Q : List ContentValue → Type 0)
    : Type 0 where
  pub sendable : (said : List ContentValue) (content : ContentValue) → P said content → IsSendable own peer (headed name content)
  pub still : (said : List ContentValue) (content c : ContentValue) → P said c → P (content ∷ said) c
  pub unbroken : (said : List ContentValue) (content : ContentValue) → P said content → Q said → broken_by true said content ≡ None
  pub keeps : (said : List ContentValue) (content : ContentValue) → P said content → Q said → Q (content ∷ said)

all-still : (P : List ContentValue → ContentValue → Type 0)
    → ((said : List ContentValue) (content c : ContentValue) → P said c → P (content ∷ said) c)
    → (said : List ContentValue) (content : ContentValue) (out : List ContentValue) → AllByRecursion (P said) out
    → AllByRecursion (P (content ∷ said)) out
all-still P still said content [] all = tt
all-still P still said content (c ∷ out) all = (still said content c all.0, all-still P still said content out all.1)

module _ (own peer : ℕ) (name : SessionName) (P : List ContentValue → ContentValue → Type 0) (Q : List ContentValue → Type 0)
    (safe : IsSafe own peer name P Q) where
  pub says : (out : List ContentValue) (history : List Entry)
      → AllByRecursion (P (said_in own peer history name.originator name.number)) out
      → Q (said_in own peer history name.originator name.number) → Says own peer name out history
  says [] history all holds = record { rules = tt; here = refl; there = λ o n other. refl }
  says (c ∷ out) history all holds =
      let s : SegmentValue = headed name c in
      let sendable = safe.sendable _ c all.0 in
      let is = sent-in own peer s sendable in
      let more = said-here own peer (went (segment_octets s)) history s name.originator name.number is (self-name name) in
      let rest = says out (went (segment_octets s) ∷ history)
      (subst (λ (said : List ContentValue). AllByRecursion (P said) out) (sym more) (all-still P safe.still _ c out all.1))
      (subst Q (sym more) (safe.keeps _ c all.0 holds)) in
      record {
        rules = ((λ out. no-fault own peer history s sendable (safe.unbroken _ c all.0 holds)), rest.rules);
        here = rest.here ∙ ap (λ (said : List ContentValue). followed_by said out) more;
        there = λ o n other. rest.there o n other ∙ said-there own peer (went (segment_octets s)) history s o n is other;
      }

  -- and Q holds after it
  pub holds-after : (out said : List ContentValue) → AllByRecursion (P said) out → Q said → Q (followed_by said out)
  holds-after [] said all holds = holds
  holds-after (c ∷ out) said all holds =
      holds-after out (c ∷ said) (all-still P safe.still said c out all.1) (safe.keeps said c all.0 holds)
