-- What a session's steps leave of its sender's checkpoint: what is new after it is it again.

use Rattle.std.proofs.Common.{◌≡◌, ℕ, ◌+◌, Bool, true, false, ◌&&◌, ◌||◌, List, [], ◌∷◌, ◌++◌, length}
use Rattle.std.proofs.Common.{Option, None, Some, ◌⊎◌, inl, inr, refl, sym, ◌∙◌, ap, arith, subst}
use Rattle.std.proofs.lemmas.Bool.{eqb-true, and_parts}
use Rattle.ltp_segment.specs.Kinds.{is_checkpoint, is_red}
use Rattle.ltp_segment.specs.Values.{ContentValue, PieceValue, a_piece}
use Rattle.ltp_session.specs.Sender.{Sending, checkpoint_at, last_segment, red_pieces}
use Rattle.ltp_session.specs.Sender.{sender_open}
use Rattle.ltp_session.specs.Step.{StepValue, after, keeps}
use Rattle.ltp_session.specs.declared.timer.Timer.{Timer}
use Rattle.ltp_laws.specs.Checkpoints.{HasAsked, IsCurrent}
use Rattle.ltp_laws.specs.Kept.{IfKept}
use Rattle.ltp_laws.specs.SenderSteps.{NoPieces, SenderStep, continues, leaves, rests, rounds}
use Rattle.ltp_laws.specs.View.{IsIn, View, sender_moves}
use Rattle.ltp_laws.proofs.SenderStepLemmas.{Listens}
use Rattle.ltp_laws.proofs.SerialLemmas.{among-append}
use Rattle.ltp_drain.specs.Rank.{has_cell, ahead, is_checkpoint_of, Settled, HasFilled}
use Rattle.ltp_drain.proofs.RankLemmas.{ahead-front}
use Rattle.ltp_picks.specs.Asking.{AreNumbered, AsksLast, IsFresh, IsOnly, Trails}

-- ---- lists

pub only-trails : (c : PieceValue) (new : List ContentValue) → IsOnly c new → Trails c new
only-trails c [] only = tt
only-trails c (e ∷ es) only =
    (λ is. λ q among. only q (inr among), only-trails c es (λ q among. only q (inr among)))

pub only-append : (c : PieceValue) (xs ys : List ContentValue) → IsOnly c xs → IsOnly c ys
    → IsOnly c (xs ++ ys)
only-append c xs ys only_xs only_ys q among red_kind = go (among-append (a_piece q) xs ys among)
  where
    go : IsIn (a_piece q) xs ⊎ IsIn (a_piece q) ys → q ≡ c
    go (inl left) = only_xs q left red_kind
    go (inr right) = only_ys q right red_kind

pub trails-append : (c : PieceValue) (xs ys : List ContentValue) → Trails c xs → IsOnly c ys
    → Trails c (xs ++ ys)
trails-append c [] ys trails only = only-trails c ys only
trails-append c (x ∷ xs) ys trails only = (
  λ is. only-append c xs ys (trails.0 is) only,
  trails-append c xs ys trails.1 only,
)

-- nothing before it is a checkpoint with its serial
trails-behind : (c : PieceValue) (xs ys : List ContentValue)
    → ((x : ContentValue) → IsIn x xs → is_checkpoint_of c.checkpoint x ≡ true → ⊥)
    → Trails c ys → Trails c (xs ++ ys)
trails-behind c [] ys none trails = trails
trails-behind c (x ∷ xs) ys none trails = (
  λ is. absurd (none x (inl refl) is),
  trails-behind c xs ys (λ y among. none y (inr among)) trails,
)

none-only : (c : PieceValue) (out : List ContentValue) → NoPieces out → IsOnly c out
none-only c out none q among red_kind = absurd (none q among)

-- a piece that is a checkpoint with a serial
pub piece-with : (serial : ℕ) (q : PieceValue) → is_checkpoint_of serial (a_piece q) ≡ true
    → (is_checkpoint q.kind ≡ true) × (q.checkpoint ≡ serial)
piece-with serial q is =
    let both = and_parts _ _ is in (both.0, eqb-true q.checkpoint serial both.1)

round-trails : (last : ℕ × List ℕ → PieceValue) (parts : List (ℕ × List ℕ)) (part : ℕ × List ℕ)
    → last_segment parts ≡ Some part → Trails (last part) (red_pieces last parts)
unfolding red_pieces last_segment
round-trails last [] part is = tt
round-trails last (first ∷ []) part is = (λ h. λ q among. absurd among, tt)
round-trails last (first ∷ next ∷ parts) part is =
    (λ h. absurd (cc), round-trails last (next ∷ parts) part is)

-- ---- a sender's step

by_case : {X Y Z : Type 0} → X ⊎ Y → (X → Z) → (Y → Z) → Z
by_case (inl x) f g = f x
by_case (inr y) f g = g y

-- a sender that waits on as before, and sends nothing red but its checkpoint
asks-still : (Old : ContentValue → Type 0) (c : PieceValue) (new out : List ContentValue)
    → IsOnly c out → (IsFresh Old c × Trails c new) ⊎ IsOnly c new
    → (IsFresh Old c × Trails c (new ++ out)) ⊎ IsOnly c (new ++ out)
asks-still Old c new out only (inl fresh) =
    inl (fresh.0, trails-append c new out fresh.1 only)
asks-still Old c new out only (inr all) = inr (only-append c new out all only)

-- what the sender's view is after a change
kept-is : (v : View) (t : StepValue Sending) (s' s'' : Sending) → t.next ≡ keeps s'
    → after t.next v.sender ≡ Some s'' → s' ≡ s''
kept-is v t s' s'' next kept =
    let here : Some s' ≡ Some s'' = subst (λ ch. after ch v.sender ≡ Some s'') next kept in cc

pub step-asks : (Old : ContentValue → Type 0) (content : ContentValue) (v : View) (s : Sending)
    (new : List ContentValue) (t : StepValue Sending) → v.sender ≡ Some s
    → IfKept (HasAsked v.by_sender v.by_receiver) v.sender
    → ((c : ContentValue) → Old c → IsIn c v.by_sender)
    → ((c : ContentValue) → IsIn c new → IsIn c v.by_sender)
    → SenderStep content s t → AsksLast Old v new
    → AsksLast Old (sender_moves v t) (new ++ t.out)
step-asks Old content v s new t is asked said_old said_new (rests next none) asks s' c timer kept
    waits =
    asks-still Old c new t.out (none-only c t.out none)
    (asks s' c timer (subst (λ ch. after ch v.sender ≡ Some s') next kept) waits)
step-asks Old content v s new t is asked said_old said_new (leaves next none) asks s' c timer kept
    waits =
    absurd (let here : None ≡ Some s' = subst (λ ch. after ch v.sender ≡ Some s') next kept in cc)
step-asks Old content v s new t is asked said_old said_new (continues s1 next on) asks s' c timer
    kept waits =
    let one : s1 ≡ s' = kept-is v t s1 s' next kept in
    let was = on.waits c timer (subst (λ (s : Sending). s.phase ≡ sender_open c timer) (sym one)
    waits) in
    asks-still Old c new t.out (only was.0 was.1) (asks s c was.0 is was.1)
  where
    only : (before : Timer) → s.phase ≡ sender_open c before → IsOnly c t.out
    only before waited q among red_kind =
        let this = on.pieces q among in
        let both : sender_open q this.0 ≡ sender_open c before = sym this.1 ∙ waited in
        cc
step-asks Old content v s new t is asked said_old said_new (rounds s1 next on) asks s' c timer kept
    waits =
    let one : s1 ≡ s' = kept-is v t s1 s' next kept in
    let both : sender_open (last on.part) on.timer' ≡ sender_open c timer =
    sym on.waits ∙ ap (λ (s : Sending). s.phase) one ∙ waits in
    let same : last on.part ≡ c = cc in
    subst (λ (c : PieceValue). (IsFresh Old c × Trails c (new ++ t.out)) ⊎ IsOnly c (new ++ t.out))
    same (inl (
      fresh,
      trails-behind (last on.part) new t.out unsent
          (subst (Trails (last on.part)) (sym on.sends)
          (λ h. absurd (cc), round-trails last on.parts on.part on.last)),
    ))
  where
    last : ℕ × List ℕ → PieceValue
    last = checkpoint_at (length s.block) s.red (on.c.checkpoint + 1) on.adds.report.serial

    current : IsCurrent v.by_sender on.c
    current = (subst (IfKept (HasAsked v.by_sender v.by_receiver)) is asked).current on.c on.timer
        on.waited

    -- its serial is larger than each that was sent
    above : (q : PieceValue) → IsIn (a_piece q) v.by_sender
        → is_checkpoint_of (on.c.checkpoint + 1) (a_piece q) ≡ true → ⊥
    above q among is_this =
        let this = piece-with (on.c.checkpoint + 1) q is_this in
        omega (arith, current.largest q among this.0, this.1)

    fresh : IsFresh Old (last on.part)
    fresh q old is_this = above q (said_old (a_piece q) old) is_this

    unsent : (x : ContentValue) → IsIn x new
        → is_checkpoint_of (on.c.checkpoint + 1) x ≡ true → ⊥
    unsent (a_piece q) among is_this = above q (said_new (a_piece q) among) is_this
    unsent x among is_this = cc

pub listens-asks : (Old : ContentValue → Type 0) (content : ContentValue) (v : View)
    (kept : Option Sending) (new : List ContentValue) (t : StepValue Sending) → v.sender ≡ kept
    → IfKept (HasAsked v.by_sender v.by_receiver) v.sender
    → ((c : ContentValue) → Old c → IsIn c v.by_sender)
    → ((c : ContentValue) → IsIn c new → IsIn c v.by_sender)
    → Listens content kept t → AsksLast Old v new
    → AsksLast Old (sender_moves v t) (new ++ t.out)
listens-asks Old content v (Some s) new t is asked said_old said_new listens asks =
    step-asks Old content v s new t is asked said_old said_new (listens.form s refl) asks
listens-asks Old content v None new t is asked said_old said_new listens asks =
    λ s' c timer kept waits. absurd (
    let same : v.sender ≡ Some s' =
    subst (λ ch. after ch v.sender ≡ Some s') (listens.none refl).0 kept in cc)

-- ---- a receiver's step, which takes the oldest of what is new or an old piece

pub oldest-asks : (Old Old' : ContentValue → Type 0) (v v' : View) (e : ContentValue)
    (new : List ContentValue) → v'.sender ≡ v.sender
    → ((c : ContentValue) → Old' c → Old c ⊎ (c ≡ e))
    → AsksLast Old v (e ∷ new) → AsksLast Old' v' new
oldest-asks Old Old' v v' e new same older asks s c timer kept waits =
    by_case (asks s c timer (sym same ∙ kept) waits)
    (λ fresh. by_test fresh (is_checkpoint_of c.checkpoint e) refl)
    (λ only. inr (λ q among. only q (inr among)))
  where
    by_test : IsFresh Old c × Trails c (e ∷ new) → (this : Bool)
        → is_checkpoint_of c.checkpoint e ≡ this → (IsFresh Old' c × Trails c new) ⊎ IsOnly c new
    by_test fresh true is = inr (fresh.1.0 is)
    by_test fresh false is = inl (still, fresh.1.1)
      where
        still : IsFresh Old' c
        still q old named = by_case (older (a_piece q) old) (λ was. fresh.0 q was named)
            (λ now. let that : is_checkpoint_of c.checkpoint (a_piece q) ≡ false =
            ap (is_checkpoint_of c.checkpoint) now ∙ is in cc)

pub same-asks : (Old Old' : ContentValue → Type 0) (v v' : View) (new new' : List ContentValue)
    → v'.sender ≡ v.sender → new' ≡ new → ((c : ContentValue) → Old' c → Old c)
    → AsksLast Old v new → AsksLast Old' v' new'
same-asks Old Old' v v' new new' same is older asks s c timer kept waits =
    by_case (asks s c timer (sym same ∙ kept) waits)
    (λ fresh. inl (
      λ q old named. fresh.0 q (older (a_piece q) old) named,
      subst (Trails c) (sym is) fresh.1,
    ))
    (λ only. inr (subst (IsOnly c) (sym is) only))

-- ---- an old piece may come before what is new

-- what a checkpoint finds is as before, once an old piece comes before it
nothing-ahead : (c i : ℕ) → ahead c i [] ≡ true → ⊥
unfolding ahead
nothing-ahead c i on = cc

-- where each red piece is one, it has each place that is to come
ahead-only : (c : PieceValue) (i : ℕ) (new : List ContentValue) → IsOnly c new
    → ahead c.checkpoint i new ≡ true → has_cell i (a_piece c) ≡ true
ahead-only c i new only on = by_new new only on
  where
    by_red : (q : PieceValue) → (is_red q.kind ≡ true → q ≡ c) → has_cell i (a_piece q) ≡ true
        → has_cell i (a_piece c) ≡ true
    by_red q one has =
        subst (λ (p : PieceValue). has_cell i (a_piece p) ≡ true)
        (one (and_parts _ _ (and_parts _ _ has).0).0) has

    by_new : (es : List ContentValue) → IsOnly c es → ahead c.checkpoint i es ≡ true
        → has_cell i (a_piece c) ≡ true
    by_new [] only on = absurd (nothing-ahead c.checkpoint i on)
    by_new (e ∷ es) only on =
        by_case (ahead-front c.checkpoint i e es on)
        (by_front e (λ q is. only q (inl is)))
        (λ further. by_new es (λ q among. only q (inr among)) further.1)
      where
        by_front : (e : ContentValue) → ((q : PieceValue) → e ≡ a_piece q → is_red q.kind ≡ true
            → q ≡ c) → has_cell i e ≡ true → has_cell i (a_piece c) ≡ true
        by_front (a_piece q) one has = by_red q (one q refl) has
        by_front x one has = absurd (cc)

pub settled-before : (Old : ContentValue → Type 0) (red : ℕ) (v : View) (s : Sending)
    (c : PieceValue) (timer : Timer) (q : PieceValue) (new : List ContentValue)
    → AreNumbered [] 0 v → IfKept (HasAsked v.by_sender v.by_receiver) v.sender
    → v.sender ≡ Some s → s.phase ≡ sender_open c timer → AsksLast Old v new
    → Old (a_piece q) → IsIn (a_piece q) v.by_sender
    → Settled red v c.checkpoint new → Settled red v c.checkpoint (a_piece q ∷ new)
unfolding ahead
settled-before Old red v s c timer q new numbered asked is waits asks old among settled =
    record { whole = settled.whole; cells = λ i low. by_cell i (settled.cells i low) }
  where
    current : IsCurrent v.by_sender c
    current = (subst (IfKept (HasAsked v.by_sender v.by_receiver)) is asked).current c timer waits

    Goal : ℕ → Type 0
    Goal i = HasFilled i v.receiver ⊎ (ahead c.checkpoint i (a_piece q ∷ new) ≡ true)

    -- the old piece is the checkpoint itself
    by_only : (i : ℕ) → is_checkpoint_of c.checkpoint (a_piece q) ≡ true → IsOnly c new
        → ahead c.checkpoint i new ≡ true → Goal i
    by_only i named only on =
        let this = piece-with c.checkpoint q named in
        let one : c ≡ q = numbered.once c q current.among among current.asks this.0 (sym this.1) in
        let has : has_cell i (a_piece q) ≡ true =
        subst (λ (p : PieceValue). has_cell i (a_piece p) ≡ true) one
        (ahead-only c i new only on) in
        inr (rw has refl)

    by_cell : (i : ℕ) → HasFilled i v.receiver ⊎ (ahead c.checkpoint i new ≡ true) → Goal i
    by_cell i (inl filled) = inl filled
    by_cell i (inr on) = by_test (is_checkpoint_of c.checkpoint (a_piece q)) refl
      where
        by_test : (this : Bool) → is_checkpoint_of c.checkpoint (a_piece q) ≡ this → Goal i
        by_test true named = by_case (asks s c timer is waits)
            (λ fresh. absurd (fresh.0 q old named))
            (λ only. by_only i named only on)
        by_test false named = inr (rw (named, on) (or_true (has_cell i (a_piece q))))
          where
            or_true : (b : Bool) → (b || (true && true)) ≡ true
            or_true true = refl
            or_true false = refl
