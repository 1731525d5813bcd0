-- What a recording tells of an engine goes on to hold, and what the engine sends breaks no rule.

use Rattle.std.proofs.Common.{◌≡◌, ◌≢◌, ℕ, ◌+◌, ◌<◌, ◌^◌, Bool, true, false, ◌==◌, ◌&&◌, ◌||◌}
use Rattle.std.proofs.Common.{List, [], ◌∷◌, ◌++◌, map, Option, None, Some, is_some, refl, sym, ◌∙◌, ap, arith, subst}
use Rattle.std.specs.List.{AllByRecursion}
use Rattle.std.proofs.lemmas.Bool.{eqb-true, eqb-false}
use Rattle.ltp_segment.specs.Spelling.{segment_octets}
use Rattle.ltp_segment.specs.Values.{ContentValue, a_piece, a_report, a_report_ack}
use Rattle.ltp_segment.specs.Values.{a_sender_cancel, a_sender_cancel_ack, a_receiver_cancel}
use Rattle.ltp_segment.specs.Values.{a_receiver_cancel_ack, SegmentValue}
use Rattle.ltp_session.specs.declared.name.SessionName.{SessionName}
use Rattle.ltp_session.specs.Table.{find, settled, ticked, AreAscending}
use Rattle.ltp_session.specs.Step.{Change, after, StepValue}
use Rattle.ltp_session.specs.Engine.{Party, tick_segments}
use Rattle.ltp_session.specs.Views.{headed_all}
use Rattle.ltp_laws.specs.Kept.{IfKept}
use Rattle.ltp_laws.proofs.TableLemmas.{self_eqb, find-settled, find-settled_other}
use Rattle.ltp_laws.proofs.TableLemmas.{find_below, find-ticked, after_tick}
use Rattle.ltp_audit.specs.declared.entry.Entry.{Entry}
use Rattle.ltp_audit.specs.Recorded.{said_in}
use Rattle.ltp_audit.specs.Recording.{went}
use Rattle.ltp_audit.specs.Keeping.{followed_by, KeepsRules}
use Rattle.ltp_audit.specs.Knows.{SenderMay, IsOfBlock, IsNoPiece, ReceiverMay, IsParty}
use Rattle.ltp_audit.proofs.SaidLemmas.{entries, Says, IsSafe}
use Rattle.ltp_audit.proofs.SaidLemmas.{sender-unbroken, receiver-unbroken, sender-legal, receiver-legal, sender-sendable, receiver-sendable}
use Rattle.ltp_audit.proofs.ReceiverSays.{receiver-may-still}

-- ---- what is said goes on

any-more : (t b : Bool) → b ≡ true → (t || b) ≡ true
any-more true b is = refl
any-more false b is = is

sender-may-still : (block : List ℕ) (said : List ContentValue) (content c : ContentValue) → SenderMay block said c
    → SenderMay block (content ∷ said) c
sender-may-still block said content (a_piece piece) may = may
sender-may-still block said content (a_report_ack serial) may = (may.0, any-more _ _ may.1)
sender-may-still block said content (a_sender_cancel reason) may = may
sender-may-still block said content a_receiver_cancel_ack may = any-more _ _ may
sender-may-still block said content (a_report report) may = absurd may
sender-may-still block said content a_sender_cancel_ack may = absurd may
sender-may-still block said content (a_receiver_cancel reason) may = absurd may

may-of-block : (block : List ℕ) (said : List ContentValue) (content : ContentValue) → SenderMay block said content → IsOfBlock block content
may-of-block block said (a_piece piece) may = may.octets
may-of-block block said (a_report_ack serial) may = tt
may-of-block block said (a_sender_cancel reason) may = tt
may-of-block block said a_receiver_cancel_ack may = tt
may-of-block block said (a_report report) may = absurd may
may-of-block block said a_sender_cancel_ack may = absurd may
may-of-block block said (a_receiver_cancel reason) may = absurd may

module _ (p : Party) (party : IsParty p) (n : ℕ) (few : n < 2 ^ 64) where
  pub sender-safe : (block : List ℕ) → IsSafe p.own p.peer (record { originator = p.own; number = n }) (SenderMay block) (AllByRecursion (IsOfBlock block))
  sender-safe block = record {
    sendable = λ said content may.
        let legal = sender-legal block said content may in sender-sendable p n content party few legal.0 legal.1;
    still = sender-may-still block;
    unbroken = λ said content may all. sender-unbroken block said content may (λ piece is. all);
    keeps = λ said content may all. (may-of-block block said content may, all);
  }

  -- what isn't a piece may be said whatever was
  pub silent-safe : IsSafe p.own p.peer (record { originator = p.own; number = n }) (λ said c. SenderMay [] said c × IsNoPiece c) (λ said. Unit {0})
  silent-safe = record {
    sendable = λ said content may.
        let legal = sender-legal [] said content may.0 in sender-sendable p n content party few legal.0 legal.1;
    still = λ said content c may. (sender-may-still [] said content c may.0, may.1);
    unbroken = λ said content may holds. sender-unbroken [] said content may.0 (λ piece is. absurd (subst IsNoPiece is may.1));
    keeps = λ said content may holds. tt;
  }

  pub receiver-safe : (Q : List ContentValue → Type 0) → ((said : List ContentValue) (content : ContentValue) → Q said → Q (content ∷ said))
      → IsSafe p.own p.peer (record { originator = p.peer; number = n }) ReceiverMay Q
  receiver-safe Q grows = record {
    sendable = λ said content may.
        let legal = receiver-legal said content may in receiver-sendable p n content party few legal.0 legal.1;
    still = λ said content c may. receiver-may-still content said c may;
    unbroken = λ said content may holds. receiver-unbroken said content may;
    keeps = λ said content may holds. grows said content holds;
  }

-- ---- a table after a change of one session

module _ {S : Type 0} (P P' : ℕ → S → Type 0) (n : ℕ) (es : List (ℕ × S)) (each : (m : ℕ) → IfKept (P m) (find m es))
    (others : (m : ℕ) (s : S) → m ≢ n → P m s → P' m s) where
  pub settled-each : (c : Change S) → IfKept (P' n) (after c (find n es)) → (m : ℕ) → IfKept (P' m) (find m (settled n c es))
  settled-each c here m = by (m == n) refl where
    on : (o : Option S) → ((s : S) → P m s → P' m s) → IfKept (P m) o → IfKept (P' m) o
    on None step is = tt
    on (Some s) step is = step s is

    by : (same : Bool) → (m == n) ≡ same → IfKept (P' m) (find m (settled n c es))
    by true is =
        let same : m ≡ n = eqb-true m n is in
        rw same (subst (IfKept (P' n)) (sym (find-settled n c es)) here)
    by false is =
        let apart : m ≢ n = eqb-false m n is in
        subst (IfKept (P' m)) (sym (find-settled_other m n c es apart)) (on (find m es) (λ s. others m s apart) (each m))

-- ---- a table after a tick

-- a tick of a session: what it says breaks no rule, and what is kept of it is known after it
pub record TicksWell {S : Type 0} (own peer : ℕ) (name : SessionName) (K : List ContentValue → S → Type 0) (t : StepValue S) (s : S)
    (history : List Entry) : Type 0 where
  pub said : Says own peer name t.out history
  pub known : IfKept (K (followed_by (said_in own peer history name.originator name.number) t.out)) (after t.next (Some s))

-- the entries of segments that are sent
abbrev pub sent : List SegmentValue → List Entry
sent segments = map went (map segment_octets segments)

pub sent-append : (xs ys : List SegmentValue) → sent (xs ++ ys) ≡ sent xs ++ sent ys
sent-append [] ys = refl
sent-append (x ∷ xs) ys = ap (λ (es : List Entry). went (segment_octets x) ∷ es) (sent-append xs ys)

pub followed-append : {X : Type 0} (history xs ys : List X) → followed_by history (xs ++ ys) ≡ followed_by (followed_by history xs) ys
followed-append history [] ys = refl
followed-append history (x ∷ xs) ys = followed-append (x ∷ history) xs ys

pub rules-append : (own peer : ℕ) (history xs ys : List Entry) → KeepsRules own peer history xs
    → KeepsRules own peer (followed_by history xs) ys → KeepsRules own peer history (xs ++ ys)
rules-append own peer history [] ys first rest = rest
rules-append own peer history (x ∷ xs) ys first rest = (first.0, rules-append own peer (x ∷ history) xs ys first.1 rest)

module _ {S : Type 0} (own peer o : ℕ) (tick : S → StepValue S) (K : ℕ → List ContentValue → S → Type 0)
    (step : (n : ℕ) (s : S) (history : List Entry) → K n (said_in own peer history o n) s
    → TicksWell own peer (record { originator = o; number = n }) (K n) (tick s) s history) where
  change : S → Change S
  change s = (tick s).next

  -- all sessions of a table ticked
  pub record TickedWell (es : List (ℕ × S)) (history : List Entry) : Type 0 where
    pub rules : KeepsRules own peer history (sent (tick_segments tick o es))
    pub each : (n : ℕ) → IfKept (K n (said_in own peer (followed_by history (sent (tick_segments tick o es))) o n)) (find n (ticked (λ s. (tick s).next) es))
    pub others : (a m : ℕ) → ((o == a) && is_some (find m es)) ≡ false
        → said_in own peer (followed_by history (sent (tick_segments tick o es))) a m ≡ said_in own peer history a m

  find-first : (e : ℕ × S) (es : List (ℕ × S)) → find e.0 (e ∷ es) ≡ Some e.1
  unfolding find
  find-first e es = rw (self_eqb e.0) refl

  find-later : (e : ℕ × S) (es : List (ℕ × S)) (m : ℕ) → (e.0 == m) ≡ false → find m (e ∷ es) ≡ find m es
  unfolding find
  find-later e es m apart = rw apart refl

  module _ (e : ℕ × S) (es : List (ℕ × S)) (low : ℕ) (ascend : AreAscending low (e ∷ es)) (history : List Entry)
      (kept : (n : ℕ) → IfKept (K n (said_in own peer history o n)) (find n (e ∷ es))) where
    name : SessionName
    name = record { originator = o; number = e.0 }

    first : TicksWell own peer (record { originator = o; number = e.0 }) (K e.0) (tick e.1) e.1 history
    first = step e.0 e.1 history (subst (IfKept (K e.0 (said_in own peer history o e.0))) (find-first e es) (kept e.0))

    next : List Entry
    next = followed_by history (entries (record { originator = o; number = e.0 }) (tick e.1).out)

    gone : find e.0 es ≡ None
    gone = find_below e.0 (e.0 + 1) es (omega arith) ascend.1

    kept-next : (m : ℕ) → IfKept (K m (said_in own peer (followed_by history (entries (record { originator = o; number = e.0 }) (tick e.1).out)) o m)) (find m es)
    kept-next m = by (e.0 == m) refl where
      by : (same : Bool) → (e.0 == m) ≡ same
          → IfKept (K m (said_in own peer (followed_by history (entries (record { originator = o; number = e.0 }) (tick e.1).out)) o m)) (find m es)
      by true is =
          let same : e.0 ≡ m = eqb-true e.0 m is in
          subst (IfKept (K m (said_in own peer (followed_by history (entries (record { originator = o; number = e.0 }) (tick e.1).out)) o m)))
          (sym (ap (λ (k : ℕ). find k es) (sym same) ∙ gone)) tt
      by false is =
          let here = first.said.there o m (rw (self_eqb o) is) in
          subst (λ (said : List ContentValue). IfKept (K m said) (find m es)) (sym here)
          (subst (IfKept (K m (said_in own peer history o m))) (find-later e es m is) (kept m))

    whole : followed_by history (sent (tick_segments tick o (e ∷ es)))
        ≡ followed_by (followed_by history (entries (record { originator = o; number = e.0 }) (tick e.1).out)) (sent (tick_segments tick o es))
    unfolding tick_segments
    whole =
        ap (followed_by history) (sent-append (headed_all (record { originator = o; number = e.0 }) (tick e.1).out) (tick_segments tick o es))
        ∙ followed-append history (entries (record { originator = o; number = e.0 }) (tick e.1).out) (sent (tick_segments tick o es))

    module _ (rest : TickedWell es (followed_by history (entries (record { originator = o; number = e.0 }) (tick e.1).out))) where
      both-rules : KeepsRules own peer history (sent (tick_segments tick o (e ∷ es)))
      unfolding tick_segments
      both-rules =
          subst (KeepsRules own peer history) (sym (sent-append (headed_all (record { originator = o; number = e.0 }) (tick e.1).out) (tick_segments tick o es)))
          (rules-append own peer history (entries (record { originator = o; number = e.0 }) (tick e.1).out) (sent (tick_segments tick o es)) first.said.rules rest.rules)

      both-each : (m : ℕ) → IfKept (K m (said_in own peer (followed_by history (sent (tick_segments tick o (e ∷ es)))) o m))
          (find m (ticked (λ s. (tick s).next) (e ∷ es)))
      both-each m = by (e.0 == m) refl where
        by : (same : Bool) → (e.0 == m) ≡ same
            → IfKept (K m (said_in own peer (followed_by history (sent (tick_segments tick o (e ∷ es)))) o m)) (find m (ticked (λ s. (tick s).next) (e ∷ es)))
        by true is =
            let same : e.0 ≡ m = eqb-true e.0 m is in
            let found : find e.0 (ticked (λ s. (tick s).next) (e ∷ es)) ≡ after (tick e.1).next (Some e.1) =
            find-ticked (λ s. (tick s).next) e.0 low (e ∷ es) ascend ∙ ap (after_tick (λ s. (tick s).next)) (find-first e es) in
            let still = rest.others o e.0 (let none = gone in rw (self_eqb o, none) refl) in
            subst (λ (k : ℕ). IfKept (K k (said_in own peer (followed_by history (sent (tick_segments tick o (e ∷ es)))) o k))
            (find k (ticked (λ s. (tick s).next) (e ∷ es)))) same
            (subst (IfKept (K e.0 (said_in own peer (followed_by history (sent (tick_segments tick o (e ∷ es)))) o e.0))) (sym found)
            (subst (λ (said : List ContentValue). IfKept (K e.0 said) (after (tick e.1).next (Some e.1)))
            (sym (ap (λ (h : List Entry). said_in own peer h o e.0) whole ∙ (still ∙ first.said.here))) first.known))
        by false is =
            let found : find m (ticked (λ s. (tick s).next) es) ≡ find m (ticked (λ s. (tick s).next) (e ∷ es)) =
            find-ticked (λ s. (tick s).next) m (e.0 + 1) es ascend.1 ∙ (ap (after_tick (λ s. (tick s).next)) (sym (find-later e es m is))
            ∙ sym (find-ticked (λ s. (tick s).next) m low (e ∷ es) ascend)) in
            subst (IfKept (K m (said_in own peer (followed_by history (sent (tick_segments tick o (e ∷ es)))) o m))) found
            (subst (λ (h : List Entry). IfKept (K m (said_in own peer h o m)) (find m (ticked (λ s. (tick s).next) es))) (sym whole) (rest.each m))

      both-others : (a m : ℕ) → ((o == a) && is_some (find m (e ∷ es))) ≡ false
          → said_in own peer (followed_by history (sent (tick_segments tick o (e ∷ es)))) a m ≡ said_in own peer history a m
      both-others a m other =
          let parts = by (o == a) (e.0 == m) refl other in
          ap (λ (h : List Entry). said_in own peer h a m) whole ∙ (rest.others a m parts.1 ∙ first.said.there a m parts.0)
        where
          by : (x same : Bool) → (e.0 == m) ≡ same → (x && is_some (find m (e ∷ es))) ≡ false
              → ((x && same) ≡ false) × ((x && is_some (find m es)) ≡ false)
          by false same is none = (refl, refl)
          by true true is none =
              let same : e.0 ≡ m = eqb-true e.0 m is in
              let found : find m (e ∷ es) ≡ Some e.1 = subst (λ (k : ℕ). find k (e ∷ es) ≡ Some e.1) same (find-first e es) in
              absurd (let some : is_some (find m (e ∷ es)) ≡ true = ap is_some found in cc (some, none))
          by true false is none = (refl, ap is_some (sym (find-later e es m is)) ∙ none)

  pub tick-all : (es : List (ℕ × S)) (low : ℕ) (history : List Entry) → AreAscending low es
      → ((n : ℕ) → IfKept (K n (said_in own peer history o n)) (find n es)) → TickedWell es history
  unfolding tick_segments ticked
  tick-all [] low history ascend kept = record { rules = tt; each = kept; others = λ a m none. refl }
  tick-all (e ∷ es) low history ascend kept =
      let rest = tick-all es (e.0 + 1) (followed_by history (entries (record { originator = o; number = e.0 }) (tick e.1).out)) ascend.1
      (kept-next e es low ascend history kept) in
      record {
        rules = both-rules e es low ascend history kept rest;
        each = both-each e es low ascend history kept rest;
        others = both-others e es low ascend history kept rest;
      }
