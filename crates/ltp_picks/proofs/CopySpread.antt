-- What a segment that comes leaves of all sessions of a link: one rank changes, and falls by one
-- with three for each old copy that is to come.

use Rattle.std.proofs.Common.{◌≡◌, ℕ, ◌+◌, ◌*◌, ◌<◌, ◌≤◌, Bool, true, false, ◌==◌, List, ◌++◌, ◌⊎◌}
use Rattle.std.proofs.Common.{inl, refl, sym, ◌∙◌, ap, arith, subst}
use Rattle.std.proofs.lemmas.Bool.{eqb-false, eqb-true}
use Rattle.ltp_segment.specs.Values.{ContentValue, SegmentValue}
use Rattle.ltp_segment.specs.declared.session.Note.TheVariants as notes
use Rattle.ltp_session.specs.Engine.{Party}
use Rattle.ltp_session.specs.World.{ArePeers, End, Sent, World, arrival, at_end, first_end, other}
use Rattle.ltp_session.specs.World.{second_end}
use Rattle.ltp_laws.specs.Facts.{SessionFacts}
use Rattle.ltp_laws.specs.Runs.{HoldsIn}
use Rattle.ltp_laws.specs.View.{View, said, same_end, view}
use Rattle.ltp_laws.proofs.FrameLemmas.{same_self}
use Rattle.ltp_drain.specs.Calm.{Advances, HasSerials}
use Rattle.ltp_drain.specs.Draining.{since}
use Rattle.ltp_drain.specs.Effects.{EndEffects, IsHandedUp, IsNoted}
use Rattle.ltp_drain.specs.Hopeful.{IsHanded, IsKeptSender}
use Rattle.ltp_drain.specs.Standing.{AllAdvance, setting, sum_of}
use Rattle.ltp_drain.proofs.CleanSteps.{since-arrival}
use Rattle.ltp_drain.proofs.DrainFrame.{stands-so}
use Rattle.ltp_drain.proofs.DrainLists.{new-none, same_end-true}
use Rattle.ltp_drain.proofs.DrainRun.{arrival-next, used-low}
use Rattle.ltp_picks.proofs.ArrivalFrame.{AreFormed, HasPlaces, OwnMoves, PeerMoves, arrival-moves}
use Rattle.ltp_picks.proofs.ArrivalFrame.{heard_effects, own_apart, own_deaf, own_hears, own_unused}
use Rattle.ltp_picks.proofs.ArrivalFrame.{peer_apart, peer_deaf, peer_hears}
use Rattle.ltp_picks.proofs.AskingLemmas.{same-asks}
use Rattle.ltp_picks.proofs.CopyKeeps.{SessionAfter}
use Rattle.ltp_picks.proofs.CopyLinks.{Keeping, changed-away, changed-here, changed_at}
use Rattle.ltp_picks.proofs.CopyLinks.{sum-changed}
use Rattle.ltp_picks.proofs.CopyRows.{fewer-serials}
use Rattle.ltp_picks.proofs.EchoLemmas.{echoes, plain}

-- how a session moved, whichever end sends it
pub data Moves (parties : Party × Party) (w : World) (me : End) (s : SegmentValue)
    (es : List EndEffects) (o : End) (n : ℕ) (v' : View) : Type 0 where
  mine : o ≡ me → OwnMoves me (at_end parties me) s w.now es (view parties w o n) n v'
      → Moves parties w me s es o n v'
  yours : o ≡ other me
      → PeerMoves me (at_end parties me) (at_end parties o) (at_end w.engines me) s w.now es
      (view parties w o n) n v'
      → Moves parties w me s es o n v'

pub all-move : (parties : Party × Party) (w : World) (me : End) (s : SegmentValue) → ArePeers parties
    → AreFormed parties w
    → (s.originator ≡ (at_end parties me).own) ⊎ (s.originator ≡ (at_end parties (other me)).own)
    → HasPlaces (heard_effects me (at_end parties me) (at_end w.engines me) s w.now) me
    → HoldsIn (Moves parties w me s
    (heard_effects me (at_end parties me) (at_end w.engines me) s w.now)) parties
    (arrival parties w me s)
all-move parties w me s peers formed known places =
    arrival-moves parties w me s (Moves parties w me s
    (heard_effects me (at_end parties me) (at_end w.engines me) s w.now)) peers formed known places
    (λ n v' moves. mine refl moves, λ n v' moves. yours refl moves)

-- a session that it isn't about is as it was
pub not-about : (parties : Party × Party) (w : World) (me : End) (s : SegmentValue)
    (es : List EndEffects) (o : End) (n : ℕ) (v' : View)
    → (s.originator ≡ (at_end parties o).own → s.session ≡ n → ⊥)
    → Moves parties w me s es o n v' → v' ≡ view parties w o n
not-about parties w me s es o n v' apart (mine is moves) = by_moves moves
  where
    at-me : s.originator ≡ (at_end parties me).own → s.originator ≡ (at_end parties o).own
    at-me own = own ∙ ap (λ (e : End). (at_end parties e).own) (sym is)

    by_moves : OwnMoves me (at_end parties me) s w.now es (view parties w o n) n v'
        → v' ≡ view parties w o n
    by_moves (own_apart h same) = same
    by_moves (own_unused own number unused same) = same
    by_moves (own_deaf own number deaf same) = same
    by_moves (own_hears own number t hears same noted) = absurd (apart (at-me own) number)
not-about parties w me s es o n v' apart (yours is moves) = by_moves moves
  where
    by_moves : PeerMoves me (at_end parties me) (at_end parties o) (at_end w.engines me) s w.now es
        (view parties w o n) n v' → v' ≡ view parties w o n
    by_moves (peer_apart h same) = same
    by_moves (peer_deaf own number deaf same) = same
    by_moves (peer_hears own number t hears same closed full handed) = absurd (apart own number)

same-view : (v v' : View) (S U : Type 0) → v' ≡ v → Advances v v' S U
same-view v v' S U same = record {
  sender = λ is_open. inl (subst (λ (v : View). IsKeptSender v.sender) (sym same) is_open);
  receiver = λ handed. inl (subst (λ (v : View). IsHanded v.receiver) same handed);
}

-- and it keeps what it kept
keeps-still : (parties : Party × Party) (k k' m : ℕ) (Old Old' : ContentValue → Type 0)
    (w w' : World) (new new' : List Sent) (o : End) (n : ℕ)
    → w'.sent ≡ w.sent ++ since w w' → view parties w' o n ≡ view parties w o n → k' ≤ k
    → ((who : End) → said who (at_end parties o).own n new ≡ said who (at_end parties o).own n new')
    → ((c : ContentValue) → Old' c → Old c)
    → Keeping parties k Old new m o n (view parties w o n)
    → Keeping parties k' Old' (new' ++ since w w') m o n (view parties w' o n)
keeps-still parties k k' m Old Old' w w' new new' o n adds same fewer still older keeps = record {
  left = keeps.left;
  stands = stands-so SessionFacts (setting parties o n) (view parties w o n) (view parties w' o n)
      (plain (said o (at_end parties o).own n new))
      (plain (said (other o) (at_end parties o).own n new))
      (plain (said o (at_end parties o).own n (new' ++ since w w')))
      (plain (said (other o) (at_end parties o).own n (new' ++ since w w')))
      keeps.left same (ap plain (lists o by_sender)) (ap plain (lists (other o) by_receiver))
      keeps.stands;
  count = omega (
    arith,
    keeps.count,
    ap echoes (lists o by_sender),
    ap echoes (lists (other o) by_receiver),
  );
  slack = subst (λ (v : View). HasSerials n v (m + 3 * k')) (sym same)
      (fewer-serials n (view parties w o n) (m + 3 * k) (m + 3 * k') (omega (arith, fewer))
      keeps.slack);
  asks = same-asks Old Old' (view parties w o n) (view parties w' o n)
      (plain (said o (at_end parties o).own n new))
      (plain (said o (at_end parties o).own n (new' ++ since w w')))
      (ap (λ (v : View). v.sender) same) (ap plain (lists o by_sender)) older keeps.asks;
}
  where
    lists : (who : End)
        → said who (at_end parties o).own n w'.sent ≡ said who (at_end parties o).own n w.sent
        → said who (at_end parties o).own n (new' ++ since w w')
        ≡ said who (at_end parties o).own n new
    lists who quiet = new-none who (at_end parties o).own n w.sent new' (since w w')
        (ap (said who (at_end parties o).own n) (sym adds) ∙ quiet) ∙ sym (still who)

    by_sender : said o (at_end parties o).own n w'.sent ≡ said o (at_end parties o).own n w.sent
    by_sender = ap (λ (v : View). v.by_sender) same

    by_receiver : said (other o) (at_end parties o).own n w'.sent
        ≡ said (other o) (at_end parties o).own n w.sent
    by_receiver = ap (λ (v : View). v.by_receiver) same

-- ---- all sessions

-- after a segment that came: the ranks, and three for each old copy that is to come, are less
pub record CopySpreads (parties : Party × Party) (k k' : ℕ) (Old : End → ℕ → ContentValue → Type 0)
    (w w' : World) (es : List EndEffects) (new : List Sent) (rank : End → ℕ → ℕ) : Type 0 where
  pub rank' : End → ℕ → ℕ
  pub keeps : (o : End) (n : ℕ) → Keeping parties k' (Old o n) new (rank' o n) o n
      (view parties w' o n)
  pub less : sum_of w' rank' + 3 * k' < sum_of w rank + 3 * k
  pub advances : AllAdvance parties w w' es

pub spreads : (parties : Party × Party) (w : World) (me : End) (s : SegmentValue) (k k' : ℕ)
    (Old Old' : End → ℕ → ContentValue → Type 0) (new new' : List Sent) (rank : End → ℕ → ℕ)
    (o' : End) → ArePeers parties → s.originator ≡ (at_end parties o').own → k' ≤ k
    → ((o : End) (n : ℕ) → Keeping parties k (Old o n) new (rank o n) o n (view parties w o n))
    → ((o : End) (n : ℕ) → (o ≡ o' → s.session ≡ n → ⊥) → (who : End)
    → said who (at_end parties o).own n new ≡ said who (at_end parties o).own n new')
    → ((o : End) (n : ℕ) → (o ≡ o' → s.session ≡ n → ⊥) → (c : ContentValue) → Old' o n c
    → Old o n c)
    → ((o : End) (n : ℕ) → Moves parties w me s
    (heard_effects me (at_end parties me) (at_end w.engines me) s w.now) o n
    (view parties (arrival parties w me s) o n))
    → SessionAfter parties k' (rank o' s.session + 3 * k) (Old' o' s.session)
    (heard_effects me (at_end parties me) (at_end w.engines me) s w.now)
    (new' ++ since w (arrival parties w me s)) o' s.session (view parties w o' s.session)
    (view parties (arrival parties w me s) o' s.session)
    → CopySpreads parties k k' Old' w (arrival parties w me s)
    (heard_effects me (at_end parties me) (at_end w.engines me) s w.now)
    (new' ++ since w (arrival parties w me s)) rank
spreads parties w me s k k' Old Old' new new' rank o' peers origin fewer keeps still older moves
    after = record {
      rank' = changed_at rank o' s.session after.rank;
      keeps = λ o n. by_session o n Kept here (away o n);
      less = omega (
        arith,
        after.less,
        sum-changed w (arrival parties w me s) rank o' s.session after.rank
            (λ o. arrival-next parties w me s o)
            (subst (λ (k : ℕ). s.session < k) (arrival-next parties w me s o')
            (used-low (at_end parties o') (at_end (arrival parties w me s).engines o') s.session
            after.used)),
      );
      advances = λ o n. by_session o n Advancing after.advances (λ apart.
          same-view (view parties w o n) (view parties (arrival parties w me s) o n)
          (IsNoted (heard_effects me (at_end parties me) (at_end w.engines me) s w.now) o
          (notes.Sent n))
          (IsHandedUp (heard_effects me (at_end parties me) (at_end w.engines me) s w.now) (other o)
          n)
          (unmoved o n apart));
    }
  where
    own-is : (o : End) → s.originator ≡ (at_end parties o).own → o ≡ o'
    own-is o own = by_ends o o' (sym own ∙ origin)
      where
        by_ends : (a b : End) → (at_end parties a).own ≡ (at_end parties b).own → a ≡ b
        by_ends first_end first_end same = refl
        by_ends second_end second_end same = refl
        by_ends first_end second_end same = absurd (peers.differ same)
        by_ends second_end first_end same = absurd (peers.differ (sym same))

    Kept : End → ℕ → Type 0
    Kept o n = Keeping parties k' (Old' o n) (new' ++ since w (arrival parties w me s))
        (changed_at rank o' s.session after.rank o n) o n
        (view parties (arrival parties w me s) o n)

    Advancing : End → ℕ → Type 0
    Advancing o n = Advances (view parties w o n) (view parties (arrival parties w me s) o n)
        (IsNoted (heard_effects me (at_end parties me) (at_end w.engines me) s w.now) o
        (notes.Sent n))
        (IsHandedUp (heard_effects me (at_end parties me) (at_end w.engines me) s w.now) (other o)
        n)

    here : Kept o' s.session
    here = subst (λ (m : ℕ). Keeping parties k' (Old' o' s.session)
        (new' ++ since w (arrival parties w me s)) m o' s.session
        (view parties (arrival parties w me s) o' s.session))
        (sym (changed-here rank o' s.session after.rank)) after.keeps

    unmoved : (o : End) (n : ℕ) → (o ≡ o' → s.session ≡ n → ⊥)
        → view parties (arrival parties w me s) o n ≡ view parties w o n
    unmoved o n apart = not-about parties w me s
        (heard_effects me (at_end parties me) (at_end w.engines me) s w.now) o n
        (view parties (arrival parties w me s) o n)
        (λ own number. apart (own-is o own) number) (moves o n)

    away : (o : End) (n : ℕ) → (o ≡ o' → s.session ≡ n → ⊥) → Kept o n
    away o n apart = subst (λ (m : ℕ). Keeping parties k' (Old' o n)
        (new' ++ since w (arrival parties w me s)) m o n
        (view parties (arrival parties w me s) o n))
        (sym (changed-away rank o' s.session after.rank o n apart))
        (keeps-still parties k k' (rank o n) (Old o n) (Old' o n) w (arrival parties w me s) new new'
        o n (since-arrival parties w me s) (unmoved o n apart) fewer (still o n apart)
        (older o n apart) (keeps o n))

    by_session : (o : End) (n : ℕ) (P : End → ℕ → Type 0) → P o' s.session
        → ((o ≡ o' → s.session ≡ n → ⊥) → P o n) → P o n
    by_session o n P here_too others = by_tests (same_end o o') (s.session == n) refl refl
      where
        by_tests : (a b : Bool) → same_end o o' ≡ a → (s.session == n) ≡ b → P o n
        by_tests true true is_o is_n =
            subst (λ (e : End). P e n) (sym (same_end-true o o' is_o))
            (subst (P o') (eqb-true s.session n is_n) here_too)
        by_tests true false is_o is_n = others (λ h number. eqb-false s.session n is_n number)
        by_tests false b is_o is_n = others (λ h number. absurd
            (let same : same_end o o' ≡ true = ap (λ (e : End). same_end e o') h
            ∙ same_self o' in cc))
