-- Checkpoints with one serial are the same piece, in every run.

use Rattle.std.proofs.Common.{◌≡◌, ℕ, ◌+◌, Bool, true, false, List, [], ◌∷◌, ◌++◌, length}
use Rattle.std.proofs.Common.{Option, None, Some, ◌⊎◌, inl, inr, refl, sym, ◌∙◌, ap, arith, subst}
use Rattle.ltp_segment.specs.Kinds.{is_checkpoint}
use Rattle.ltp_segment.specs.Values.{ContentValue, PieceValue, a_piece}
use Rattle.ltp_segment.specs.Values.{a_report_ack, a_sender_cancel_ack}
use Rattle.ltp_segment.specs.Policy.{PolicyValue}
use Rattle.ltp_session.specs.Engine.{Party}
use Rattle.ltp_session.specs.Sender.{Sending, begin, checkpoint_at}
use Rattle.ltp_session.specs.Sender.{red_pieces, sender_tick}
use Rattle.ltp_session.specs.Step.{StepValue}
use Rattle.ltp_session.specs.World.{ArePeers, End, World, run, starts_world}
use Rattle.ltp_laws.specs.Checkpoints.{HasAsked, IsCurrent}
use Rattle.ltp_laws.specs.Facts.{SessionFacts}
use Rattle.ltp_laws.specs.Kept.{IfKept}
use Rattle.ltp_laws.specs.Log.{HasFactsBy, submissions}
use Rattle.ltp_laws.specs.Runs.{KeepsUnder, both_facts}
use Rattle.ltp_laws.specs.SenderSteps.{NoPieces, SenderStep, continues, leaves, rests, rounds}
use Rattle.ltp_laws.specs.View.{IsIn, View, view}
use Rattle.ltp_laws.proofs.CheckpointLemmas.{begun-among, round-among}
use Rattle.ltp_laws.proofs.FactLemmas.{session-keep}
use Rattle.ltp_laws.proofs.LogLemmas.{every_submitted}
use Rattle.ltp_laws.proofs.RunLemmas.{joined}
use Rattle.ltp_laws.proofs.SenderStepLemmas.{Listens, listens-form, sender_tick-form}
use Rattle.ltp_laws.proofs.SerialLemmas.{among-append}
use Rattle.ltp_drain.specs.Hopeful.{IsReached}
use Rattle.ltp_picks.specs.Asking.{AreNumbered}

-- what a list of pieces says of checkpoints
abbrev OnceIn : List ContentValue → Type 0
OnceIn said =
    (p q : PieceValue) → IsIn (a_piece p) said → IsIn (a_piece q) said
    → is_checkpoint p.kind ≡ true → is_checkpoint q.kind ≡ true
    → p.checkpoint ≡ q.checkpoint → p ≡ q

-- each checkpoint that is sent was sent before, or is this one, whose serial is new
once-more : (said out : List ContentValue) → OnceIn said
    → ((q : PieceValue) → IsIn (a_piece q) out → is_checkpoint q.kind ≡ true
    → IsIn (a_piece q) said ⊎ ((p : PieceValue) → IsIn (a_piece p) (said ++ out)
    → is_checkpoint p.kind ≡ true → p.checkpoint ≡ q.checkpoint → p ≡ q))
    → OnceIn (said ++ out)
once-more said out once sent p q among_p among_q asks_p asks_q same =
    by_sides (among-append (a_piece p) said out among_p) (among-append (a_piece q) said out among_q)
  where
    by_new : {Old New X : Type 0} → Old ⊎ New → (Old → X) → (New → X) → X
    by_new (inl old) f g = f old
    by_new (inr new) f g = g new

    by_old : IsIn (a_piece p) said → IsIn (a_piece q) said → p ≡ q
    by_old old_p old_q = once p q old_p old_q asks_p asks_q same

    by_sides : IsIn (a_piece p) said ⊎ IsIn (a_piece p) out
        → IsIn (a_piece q) said ⊎ IsIn (a_piece q) out → p ≡ q
    by_sides (inl old_p) (inl old_q) = by_old old_p old_q
    by_sides (inl old_p) (inr now_q) = by_new (sent q now_q asks_q) (by_old old_p)
        (λ only. only p among_p asks_p same)
    by_sides (inr now_p) (inl old_q) = by_new (sent p now_p asks_p) (λ old_p. by_old old_p old_q)
        (λ only. sym (only q among_q asks_q (sym same)))
    by_sides (inr now_p) (inr now_q) = by_new (sent p now_p asks_p)
        (λ old_p. by_new (sent q now_q asks_q) (by_old old_p)
        (λ only. only p among_p asks_p same))
        (λ only. sym (only q among_q asks_q (sym same)))

-- a step of a sender that asked
step-once : (content : ContentValue) (said by_receiver : List ContentValue) (s : Sending)
    (t : StepValue Sending)
    → HasAsked said by_receiver s → SenderStep content s t → OnceIn said → OnceIn (said ++ t.out)
step-once content said by_receiver s t asked (rests next none) once =
    once-more said t.out once (λ q among asks. absurd (none q among))
step-once content said by_receiver s t asked (leaves next none) once =
    once-more said t.out once (λ q among asks. absurd (none q among))
step-once content said by_receiver s t asked (continues s' next on) once =
    once-more said t.out once (λ q among asks.
    let was = on.pieces q among in inl (asked.current q was.0 was.1).among)
step-once content said by_receiver s t asked (rounds s' next on) once =
    once-more said t.out once (λ q among asks. inr (only q among asks))
  where
    last : ℕ × List ℕ → PieceValue
    last = checkpoint_at (length s.block) s.red (on.c.checkpoint + 1) on.adds.report.serial

    current : IsCurrent said on.c
    current = asked.current on.c on.timer on.waited

    is_last : (q : PieceValue) → IsIn (a_piece q) t.out → is_checkpoint q.kind ≡ true
        → last on.part ≡ q
    is_last q among asks = by_sends (subst (IsIn (a_piece q)) on.sends among)
      where
        by_sends : IsIn (a_piece q)
            (a_report_ack on.adds.report.serial ∷ red_pieces last on.parts)
            → last on.part ≡ q
        by_sends (inl here) = absurd (cc)
        by_sends (inr among) =
            let (part, is_part, is_piece) = round-among last on.parts q among asks in
            let one : Some on.part ≡ Some part = sym on.last ∙ is_part in
            let same : on.part ≡ part = cc in
            ap last same ∙ is_piece

    only : (q : PieceValue) → IsIn (a_piece q) t.out → is_checkpoint q.kind ≡ true
        → (p : PieceValue) → IsIn (a_piece p) (said ++ t.out) → is_checkpoint p.kind ≡ true
        → p.checkpoint ≡ q.checkpoint → p ≡ q
    only q among asks p among_p asks_p same =
        by_side (among-append (a_piece p) said t.out among_p)
      where
        serial : on.c.checkpoint + 1 ≡ q.checkpoint
        serial = ap (λ (p : PieceValue). p.checkpoint) (is_last q among asks)

        by_side : IsIn (a_piece p) said ⊎ IsIn (a_piece p) t.out → p ≡ q
        by_side (inl old) =
            absurd (omega (arith, current.largest p old asks_p, serial, same))
        by_side (inr now) = sym (is_last p now asks_p) ∙ is_last q among asks

no-step-once : (said out : List ContentValue) → NoPieces out → OnceIn said → OnceIn (said ++ out)
no-step-once said out none once = once-more said out once (λ q among asks. absurd (none q among))

listens-once : (content : ContentValue) (v : View) (kept : Option Sending) (t : StepValue Sending)
    → v.sender ≡ kept → IfKept (HasAsked v.by_sender v.by_receiver) v.sender
    → Listens content kept t → OnceIn v.by_sender → OnceIn (v.by_sender ++ t.out)
listens-once content v None t is asked listens once =
    no-step-once v.by_sender t.out (listens.none refl).1 once
listens-once content v (Some s) t is asked listens once =
    step-once content v.by_sender v.by_receiver s t
    (subst (IfKept (HasAsked v.by_sender v.by_receiver)) is asked) (listens.form s refl) once

begun-once : (policy : PolicyValue) (n : ℕ) (block : List ℕ) (red now : ℕ)
    → OnceIn (begin policy n block red now).out
begun-once policy n block red now p q among_p among_q asks_p asks_q same =
    let (one, is_one, is_p) = begun-among policy n block red now p among_p asks_p in
    let (two, is_two, is_q) = begun-among policy n block red now q among_q asks_q in
    let both : Some one ≡ Some two = sym is_one ∙ is_two in
    let parts : one ≡ two = cc in
    sym is_p ∙ ap (checkpoint_at (length block) red _ 0) parts ∙ is_q

numbered-keep : KeepsUnder SessionFacts AreNumbered
numbered-keep = record {
  begins = λ policy n block red now v cuts within unused facts. record {
    once = subst (λ (said : List ContentValue). OnceIn (said ++ (begin policy n block red now).out))
        (sym unused.by_sender) (begun-once policy n block red now);
  };
  sender = λ block red policy v content now t among hears facts facts' is. record {
    once = listens-once content v v.sender t refl facts.asks.sender
        (listens-form policy v.sender content now t hears) is.once;
  };
  receiver = λ block red policy place v content now t closed among hears facts facts' is.
      record { once = is.once };
  sender_tick = λ block red policy now v s kept facts facts' is. record {
    once = step-once a_sender_cancel_ack v.by_sender v.by_receiver s (sender_tick policy s now)
        (subst (IfKept (HasAsked v.by_sender v.by_receiver)) kept facts.asks.sender)
        (sender_tick-form a_sender_cancel_ack policy now s) is.once;
  };
  receiver_tick = λ block red policy now v r kept facts facts' is. record { once = is.once };
  evicted = λ block red v r kept facts facts' is. record { once = is.once };
}

-- in every world that a run leads to
pub numbered : (parties : Party × Party) (w : World) → ArePeers parties → IsReached parties w
    → (o : End) (n : ℕ) → AreNumbered [] 0 (view parties w o n)
numbered parties w peers reached o n =
    subst (λ (w : World). AreNumbered [] 0 (view parties w o n)) reached.leads
    (by_used _ (view parties (run parties (starts_world parties) reached.events) o n).used
    (every_submitted (both_facts SessionFacts AreNumbered)
    (joined SessionFacts AreNumbered session-keep numbered-keep) parties reached.events peers o n))
  where
    by_used : (v : View) (used : Bool)
        → HasFactsBy (both_facts SessionFacts AreNumbered)
        (submissions parties (starts_world parties) reached.events) o n used v
        → AreNumbered [] 0 v
    by_used v false unused = record {
      once = λ p q among_p among_q asks_p asks_q same.
          absurd (subst (IsIn (a_piece p)) unused.by_sender among_p);
    }
    by_used v true has = record { once = has.facts.1.once }
