-- What the session of a segment keeps that comes, new or old, in a drain with old copies.

use Rattle.std.proofs.Common.{◌≡◌, ℕ, ◌+◌, ◌*◌, true, false, List, ◌++◌, ◌⊎◌, inl, inr, refl}
use Rattle.std.proofs.Common.{sym, ◌∙◌, ap, subst}
use Rattle.ltp_segment.specs.Values.{ContentValue}
use Rattle.ltp_session.specs.Engine.{Party}
use Rattle.ltp_session.specs.World.{ArePeers, End, Sent, World, arrival, at_end, first_end, other}
use Rattle.ltp_session.specs.World.{second_end}
use Rattle.ltp_laws.specs.View.{IsIn, is_of, said, same_end, view}
use Rattle.ltp_laws.proofs.FrameLemmas.{same_self}
use Rattle.ltp_laws.proofs.RunLemmas.{sent-among}
use Rattle.ltp_drain.specs.Draining.{since}
use Rattle.ltp_drain.specs.Effects.{EndEffects}
use Rattle.ltp_drain.specs.Hopeful.{IsReached}
use Rattle.ltp_drain.proofs.CleanSteps.{since-arrival}
use Rattle.ltp_drain.proofs.DrainFrame.{is-of}
use Rattle.ltp_drain.proofs.DrainRun.{other_other}
use Rattle.ltp_picks.specs.Asking.{IsOldOf}
use Rattle.ltp_picks.specs.Picks.{Crossing, Placed}
use Rattle.ltp_picks.proofs.ArrivalFrame.{AreFormed, HasPlaces, OwnMoves, heard_effects}
use Rattle.ltp_picks.proofs.CopyArrivals.{IsBy, Shortens, by-parts, crossed, old-before}
use Rattle.ltp_picks.proofs.CopyKeeps.{SessionAfter, own-after, peer-after}
use Rattle.ltp_picks.proofs.CopyLinks.{Keeping}
use Rattle.ltp_picks.proofs.CopySpread.{Moves, mine, yours}
use Rattle.ltp_picks.proofs.CrossingLemmas.{ArePlaced, sent_of}
use Rattle.ltp_picks.proofs.NumberedLemmas.{numbered}

-- ---- what a drain with k old copies to come keeps from turn to turn

pub record Carries (parties : Party × Party) (k : ℕ) (d : Crossing) (rank : End → ℕ → ℕ)
    : Type 0 where
  pub keeps :
      (o : End) (n : ℕ) → Keeping parties k (IsOldOf d o (at_end parties o).own n)
      (sent_of d.new) (rank o n) o n (view parties d.world o n)
  pub formed : AreFormed parties d.world
  pub reached : IsReached parties d.world
  pub placed : ArePlaced d.world.sent d.new

-- ---- the session of a segment that comes

policy-at : (parties : Party × Party) (me o : End) → other o ≡ me
    → (at_end parties me).policy ≡ (at_end parties (other o)).policy
policy-at parties me o is = ap (λ (e : End). (at_end parties e).policy) (sym is)

most-same : (parties : Party × Party) (me o : End) → other o ≡ me
    → (at_end parties me).most ≡ (at_end parties (other o)).most
most-same parties me o is = ap (λ (e : End). (at_end parties e).most) (sym is)

-- what the session keeps after a segment of it came
pub session-after : (parties : Party × Party) (k k' : ℕ) (d : Crossing) (rank : End → ℕ → ℕ)
    (place : ℕ) (x : Sent) (left : List Placed) (o : End) → ArePeers parties
    → Carries parties k d rank → Shortens k k' d place x left
    → HasPlaces (heard_effects (other x.from) (at_end parties (other x.from))
    (at_end d.world.engines (other x.from)) x.segment d.world.now) (other x.from)
    → x.segment.originator ≡ (at_end parties o).own
    → Moves parties d.world (other x.from) x.segment
    (heard_effects (other x.from) (at_end parties (other x.from))
    (at_end d.world.engines (other x.from)) x.segment d.world.now) o x.segment.session
    (view parties (arrival parties d.world (other x.from) x.segment) o x.segment.session)
    → SessionAfter parties k' (rank o x.segment.session + 3 * k)
    (IsOldOf (crossed d left (arrival parties d.world (other x.from) x.segment)) o
    (at_end parties o).own x.segment.session)
    (heard_effects (other x.from) (at_end parties (other x.from))
    (at_end d.world.engines (other x.from)) x.segment d.world.now)
    (sent_of left ++ since d.world (arrival parties d.world (other x.from) x.segment)) o
    x.segment.session (view parties d.world o x.segment.session)
    (view parties (arrival parties d.world (other x.from) x.segment) o x.segment.session)
session-after parties k k' d rank place x left o peers carries short places own moves =
    by_moves moves
  where
    w : World
    w = d.world

    me : End
    me = other x.from

    w' : World
    w' = arrival parties d.world (other x.from) x.segment

    n : ℕ
    n = x.segment.session

    es : List EndEffects
    es = heard_effects (other x.from) (at_end parties (other x.from))
        (at_end d.world.engines (other x.from)) x.segment d.world.now

    To : End → Type 0
    To o = SessionAfter parties k' (rank o x.segment.session + 3 * k)
        (IsOldOf (crossed d left (arrival parties d.world (other x.from) x.segment)) o
        (at_end parties o).own x.segment.session)
        (heard_effects (other x.from) (at_end parties (other x.from))
        (at_end d.world.engines (other x.from)) x.segment d.world.now)
        (sent_of left ++ since d.world (arrival parties d.world (other x.from) x.segment)) o
        x.segment.session (view parties d.world o x.segment.session)
        (view parties (arrival parties d.world (other x.from) x.segment) o x.segment.session)

    adds : w'.sent ≡ w.sent ++ since w w'
    adds = since-arrival parties d.world (other x.from) x.segment

    -- it was said in the session
    among : (o : End) → x.segment.originator ≡ (at_end parties o).own → (who : End)
        → x.from ≡ who
        → IsIn x.segment.content (said who (at_end parties o).own x.segment.session d.world.sent)
    among o own who is =
        subst (λ (p : ℕ). IsIn x.segment.content (said who p x.segment.session d.world.sent)) own
        (subst (λ (e : End). IsIn x.segment.content
        (said e x.segment.originator x.segment.session d.world.sent)) is
        (sent-among d.world.sent place x short.got))

    is : (who : End) → x.from ≡ who → (o : End) → x.segment.originator ≡ (at_end parties o).own
        → is_of who (at_end parties o).own x.segment.session x ≡ true
    is who from o own = is-of who (at_end parties o).own x.segment.session x
        (subst (λ (e : End). same_end x.from e ≡ true) from (same_self x.from)) own refl

    not-from : (who : End) (p m : ℕ) → other x.from ≡ who → is_of who p m x ≡ false
    not-from who p m apart = subst (λ (e : End). is_of e p m x ≡ false) apart
        (not-other x.from p m)
      where
        not-other : (from : End) (p m : ℕ) → is_of (other from) p m (record x { from = from })
            ≡ false
        not-other first_end p m = refl
        not-other second_end p m = refl

    -- what was said before, and isn't new
    old-said : (o : End) (c : ContentValue) → IsOldOf d o (at_end parties o).own n c
        → IsIn c (view parties d.world o x.segment.session).by_sender
    old-said o c old = said-so o c old (by-parts o (at_end parties o).own n old.sent old.of)
      where
        said-so : (o : End) (c : ContentValue)
            → (old : IsOldOf d o (at_end parties o).own x.segment.session c)
            → IsBy o (at_end parties o).own x.segment.session old.sent
            → IsIn c (view parties d.world o x.segment.session).by_sender
        said-so o c old by = subst (λ (c : ContentValue). IsIn c
            (view parties d.world o x.segment.session).by_sender) old.content
            (subst (λ (m : ℕ). IsIn old.sent.segment.content
            (said o (at_end parties o).own m d.world.sent)) by.session
            (subst (λ (p : ℕ). IsIn old.sent.segment.content
            (said o p old.sent.segment.session d.world.sent)) by.originator
            (subst (λ (e : End). IsIn old.sent.segment.content (said e
            old.sent.segment.originator old.sent.segment.session d.world.sent)) by.from
            (sent-among d.world.sent old.place old.sent old.there))))

    older : (o : End) (p m : ℕ) (c : ContentValue)
        → IsOldOf (crossed d left (arrival parties d.world (other x.from) x.segment)) o p m c
        → IsOldOf d o p m c ⊎ ((c ≡ x.segment.content) × (is_of o p m x ≡ true))
    older o p m c was = old-before k k' d place x left w' adds short o p m c was

    to_sender : End → Type 0
    to_sender e = OwnMoves me (at_end parties me) x.segment w.now es (view parties w e n) n
        (view parties w' e n)

    by_moves : Moves parties d.world (other x.from) x.segment
        (heard_effects (other x.from) (at_end parties (other x.from))
        (at_end d.world.engines (other x.from)) x.segment d.world.now) o x.segment.session
        (view parties (arrival parties d.world (other x.from) x.segment) o x.segment.session)
        → To o
    by_moves (mine same moved) = subst To (sym same)
        (own-after parties w w' me x.segment k k' n (rank me n)
        (IsOldOf d me (at_end parties me).own n)
        (IsOldOf (crossed d left w') me (at_end parties me).own n)
        (IsOldOf d (other me) (at_end parties me).own n x.segment.content) es (sent_of d.new)
        (sent_of left) peers adds (carries.keeps me n)
        (short.here (other me) (at_end parties me).own n
        (is (other me) (sym (other_other x.from)) me own_me))
        (short.away me (at_end parties me).own n (not-from me (at_end parties me).own n refl))
        (among me own_me (other me) (sym (other_other x.from))) (old-said me)
        (λ c was. not_x c (older me (at_end parties me).own n c was)) own_me refl
        (subst to_sender same moved))
      where
        own_me : x.segment.originator ≡ (at_end parties (other x.from)).own
        own_me = own ∙ ap (λ (e : End). (at_end parties e).own) same

        not_x : (c : ContentValue)
            → IsOldOf d (other x.from) (at_end parties (other x.from)).own x.segment.session c
            ⊎ ((c ≡ x.segment.content) × (is_of (other x.from)
            (at_end parties (other x.from)).own x.segment.session x ≡ true))
            → IsOldOf d (other x.from) (at_end parties (other x.from)).own x.segment.session c
        not_x c (inl old) = old
        not_x c (inr now) = absurd (
            let not : is_of (other x.from) (at_end parties (other x.from)).own x.segment.session x
            ≡ false = not-from (other x.from) _ _ refl in
            let yes = now.1 in cc)
    by_moves (yours same moved) =
        peer-after parties w w' me x.segment k k' n (rank o n)
        (IsOldOf d o (at_end parties o).own n)
        (IsOldOf (crossed d left w') o (at_end parties o).own n) es (sent_of d.new) (sent_of left) o
        is_me adds places (carries.keeps o n)
        (short.here o (at_end parties o).own n (is o from_o o own))
        (short.away (other o) (at_end parties o).own n
        (not-from (other o) (at_end parties o).own n (sym is_me)))
        (numbered parties w peers carries.reached o n) (most-same parties me o is_me)
        (policy-at parties me o is_me) (among o own o from_o)
        (λ c was. or_x c (older o (at_end parties o).own n c was)) own refl moved
      where
        from_o : x.from ≡ o
        from_o = sym (same ∙ other_other x.from)

        is_me : other o ≡ other x.from
        is_me = ap other (sym from_o)

        or_x : (c : ContentValue) → IsOldOf d o (at_end parties o).own x.segment.session c
            ⊎ ((c ≡ x.segment.content)
            × (is_of o (at_end parties o).own x.segment.session x ≡ true))
            → IsOldOf d o (at_end parties o).own x.segment.session c ⊎ (c ≡ x.segment.content)
        or_x c (inl old) = inl old
        or_x c (inr now) = inr now.0
