-- What is asked of a session, where cancels don't count, and where the oldest of what is new is gone.

use Rattle.std.proofs.Common.{◌≡◌, ℕ, Bool, true, false, List, [], ◌∷◌, ◌++◌, ◌⊎◌, inl, inr, refl}
use Rattle.std.proofs.Common.{sym, ◌∙◌, ap, subst, if◌then◌else◌}
use Rattle.ltp_segment.specs.Values.{ContentValue, PieceValue, a_piece, a_report}
use Rattle.ltp_segment.specs.Values.{a_report_ack, a_sender_cancel, a_sender_cancel_ack}
use Rattle.ltp_segment.specs.Values.{a_receiver_cancel, a_receiver_cancel_ack}
use Rattle.ltp_laws.specs.View.{IsIn, View}
use Rattle.ltp_drain.specs.Calm.{is_cancel}
use Rattle.ltp_drain.specs.Rank.{is_checkpoint_of}
use Rattle.ltp_picks.specs.Asking.{AsksLast, IsFresh, IsOnly, Trails}
use Rattle.ltp_picks.proofs.AskingLemmas.{oldest-asks, same-asks}
use Rattle.ltp_picks.proofs.EchoLemmas.{plain, plain-cancel, plain-other}
use Rattle.ltp_picks.proofs.FrontRows.{Arrives, comes_again, comes_first}

-- ---- what is new, without cancels

plain-among : (c : ContentValue) (cs : List ContentValue) → IsIn c (plain cs) → IsIn c cs
unfolding plain
plain-among c [] among = among
plain-among c (d ∷ ds) among = by_test (is_cancel d) among (λ h. plain-among c ds h)
  where
    by_test : (b : Bool) → IsIn c (if b then plain ds else d ∷ plain ds)
        → (IsIn c (plain ds) → IsIn c ds) → IsIn c (d ∷ ds)
    by_test true among deeper = inr (deeper among)
    by_test false (inl here) deeper = inl here
    by_test false (inr among) deeper = inr (deeper among)

only-fewer : (c : PieceValue) (xs ys : List ContentValue)
    → ((e : ContentValue) → IsIn e ys → IsIn e xs) → IsOnly c xs → IsOnly c ys
only-fewer c xs ys fewer only q among red_kind = only q (fewer (a_piece q) among) red_kind

trails-plain : (c : PieceValue) (cs : List ContentValue) → Trails c cs → Trails c (plain cs)
unfolding plain
trails-plain c [] trails = tt
trails-plain c (d ∷ ds) trails = by_test (is_cancel d) (trails-plain c ds trails.1)
  where
    by_test : (b : Bool) → Trails c (plain ds) → Trails c (if b then plain ds else d ∷ plain ds)
    by_test true rest = rest
    by_test false rest =
        (λ is. only-fewer c ds (plain ds) (λ e. plain-among e ds) (trails.0 is), rest)

both-among : (e : ContentValue) (xs ys zs : List ContentValue)
    → ((c : ContentValue) → IsIn c zs → IsIn c ys) → IsIn e (xs ++ zs) → IsIn e (xs ++ ys)
both-among e [] ys zs fewer among = fewer e among
both-among e (x ∷ xs) ys zs fewer (inl here) = inl here
both-among e (x ∷ xs) ys zs fewer (inr among) = inr (both-among e xs ys zs fewer among)

trails-more : (c : PieceValue) (xs cs : List ContentValue) → Trails c (xs ++ cs)
    → Trails c (xs ++ plain cs)
trails-more c [] cs trails = trails-plain c cs trails
trails-more c (x ∷ xs) cs trails = (
  λ is. only-fewer c (xs ++ cs) (xs ++ plain cs)
      (λ e. both-among e xs cs (plain cs) (λ d. plain-among d cs)) (trails.0 is),
  trails-more c xs cs trails.1,
)

pub plain-asks : (Old : ContentValue → Type 0) (v : View) (xs cs : List ContentValue)
    → AsksLast Old v (xs ++ cs) → AsksLast Old v (xs ++ plain cs)
plain-asks Old v xs cs asks s c timer kept waits = by_case (asks s c timer kept waits)
  where
    by_case : (IsFresh Old c × Trails c (xs ++ cs)) ⊎ IsOnly c (xs ++ cs)
        → (IsFresh Old c × Trails c (xs ++ plain cs)) ⊎ IsOnly c (xs ++ plain cs)
    by_case (inl fresh) = inl (fresh.0, trails-more c xs cs fresh.1)
    by_case (inr only) = inr (only-fewer c (xs ++ cs) (xs ++ plain cs)
        (λ e. both-among e xs cs (plain cs) (λ d. plain-among d cs)) only)

-- ---- the oldest is gone, or an old one comes again

-- before what is new, what is no piece changes nothing of it
beside-asks : (Old : ContentValue → Type 0) (c : PieceValue) (e : ContentValue)
    (new : List ContentValue) → (is_checkpoint_of c.checkpoint e ≡ true → ⊥)
    → ((q : PieceValue) → e ≡ a_piece q → ⊥)
    → (IsFresh Old c × Trails c new) ⊎ IsOnly c new
    → (IsFresh Old c × Trails c (e ∷ new)) ⊎ IsOnly c (e ∷ new)
beside-asks Old c e new apart none (inl fresh) =
    inl (fresh.0, (λ is. absurd (apart is), fresh.1))
beside-asks Old c e new apart none (inr only) = inr still
  where
    still : IsOnly c (e ∷ new)
    still q (inl here) red_kind = absurd (none q here)
    still q (inr among) red_kind = only q among red_kind

-- what the receiver's step leaves of what is asked
cancel-front : (Old : ContentValue → Type 0) (v : View) (e : ContentValue)
    (new : List ContentValue) → is_cancel e ≡ true → AsksLast Old v new → AsksLast Old v (e ∷ new)
cancel-front Old v (a_piece q) new is asks = absurd (cc)
cancel-front Old v (a_report x) new is asks = absurd (cc)
cancel-front Old v (a_report_ack serial) new is asks = absurd (cc)
cancel-front Old v (a_sender_cancel reason) new is asks =
    λ s c timer kept waits. beside-asks Old c _ new (λ h. absurd (cc)) (λ q h. absurd (cc))
    (asks s c timer kept waits)
cancel-front Old v a_sender_cancel_ack new is asks =
    λ s c timer kept waits. beside-asks Old c _ new (λ h. absurd (cc)) (λ q h. absurd (cc))
    (asks s c timer kept waits)
cancel-front Old v (a_receiver_cancel reason) new is asks =
    λ s c timer kept waits. beside-asks Old c _ new (λ h. absurd (cc)) (λ q h. absurd (cc))
    (asks s c timer kept waits)
cancel-front Old v a_receiver_cancel_ack new is asks =
    λ s c timer kept waits. beside-asks Old c _ new (λ h. absurd (cc)) (λ q h. absurd (cc))
    (asks s c timer kept waits)

pub receiver-asks : (Old Old' : ContentValue → Type 0) (v v' : View) (e : ContentValue)
    (new new' : List ContentValue) (k k' : ℕ) → Arrives (Old e) e new new' k k'
    → v'.sender ≡ v.sender → ((c : ContentValue) → Old' c → Old c ⊎ (c ≡ e))
    → AsksLast Old v (plain new) → AsksLast Old' v' (plain new')
receiver-asks Old Old' v v' e new new' k k' (comes_first is same_k) same older asks =
    oldest-asks Old Old' v v' e (plain new') same older (by_test (is_cancel e) refl)
  where
    by_test : (b : Bool) → is_cancel e ≡ b → AsksLast Old v (e ∷ plain new')
    by_test true cancels = cancel-front Old v e (plain new') cancels
        (subst (AsksLast Old v) (ap plain is ∙ plain-cancel e new' cancels) asks)
    by_test false other_kind =
        subst (AsksLast Old v) (ap plain is ∙ plain-other e new' other_kind) asks
receiver-asks Old Old' v v' e new new' k k' (comes_again again is more) same older asks =
    same-asks Old Old' v v' (plain new) (plain new') same (ap plain (sym is)) was asks
  where
    by_older : (c : ContentValue) → Old c ⊎ (c ≡ e) → Old c
    by_older c (inl old) = old
    by_older c (inr one) = subst Old (sym one) again

    was : (c : ContentValue) → Old' c → Old c
    was c old = by_older c (older c old)
