-- How many sessions are unfinished, by the pieces that count.
use Rattle.std.proofs.Common.{◌≡◌, ℕ, ◌+◌, Bool, true, false, not, ◌&&◌, List, [], ◌∷◌, ◌++◌, refl, arith, append_assoc, if◌then◌else◌}
use Rattle.std.proofs.lemmas.List.{append-nil}
use Rattle.ltp_session.specs.RedPart.{RedPiece, is_whole}
use Rattle.receive_run.specs.LineContent.{content_of}
use Rattle.receive_run.specs.Session.{Session, fresh, open_part, handed_up}
use Rattle.receive_run.specs.KeptSessions.{is_unfinished}
use Rattle.receive_run.specs.Taken.{counts}
use Rattle.receive_run.specs.ReceiverLaw.{is_begun, opens, closes, one_if, by_content, so_many}
use Rattle.receive_run.proofs.TableLemmas.{count}
use Rattle.receive_run.proofs.LawLemmas.{Told, with_counted}

-- a line more
pub so_many-more : (test : List RedPiece → List RedPiece → Bool) (most : ℕ) (earlier before : List (List ℕ)) (line : List ℕ)
    → so_many test most earlier (before ++ line ∷ [])
    ≡ so_many test most earlier before + one_if (by_content test most (earlier ++ before) (content_of line))
so_many-more test most earlier [] line = rw (append-nil earlier) (omega arith)
so_many-more test most earlier (first ∷ before) line =
    let rest = so_many-more test most (earlier ++ first ∷ []) before line in
    let same = append_assoc earlier (first ∷ []) before in
    omega (arith, rw same at rest)

and-false : (b : Bool) → (b && false) ≡ false
and-false true = refl
and-false false = refl

-- a session is unfinished if and only if pieces of it count and its red part isn't whole
told-count : (session : Session) (pieces : List RedPiece) → Told session pieces
    → count (is_unfinished session) ≡ one_if (is_begun pieces && not (is_whole pieces))
told-count fresh pieces told = rw told refl
told-count (open_part cells known) pieces told = rw (told.1.0, told.1.1) refl
told-count handed_up pieces told = rw (told, and-false (is_begun pieces)) refl

same-pieces : (b whole : Bool) → one_if (b && not whole) + one_if (not whole && whole) ≡ one_if (b && not whole) + one_if (not b && b)
same-pieces true true = refl
same-pieces true false = refl
same-pieces false true = refl
same-pieces false false = refl

one-more : (b whole : Bool) → one_if (not whole) + one_if whole ≡ one_if (b && true) + one_if (not b && true)
one-more true true = refl
one-more true false = refl
one-more false true = refl
one-more false false = refl

not-whole : (whole other : Bool) → (not whole && other) ≡ true → whole ≡ false
not-whole false other is = refl
not-whole true other is = absurd (cc)

piece-count : (most : ℕ) (pieces : List RedPiece) (p : RedPiece) (t : Bool) → counts most pieces p ≡ t
    → one_if (is_begun (if t then p ∷ pieces else pieces) && not (is_whole (if t then p ∷ pieces else pieces)))
    + one_if (closes pieces (if t then p ∷ pieces else pieces))
    ≡ one_if (is_begun pieces && not (is_whole pieces)) + one_if (opens pieces (if t then p ∷ pieces else pieces))
piece-count most pieces p false test = same-pieces (is_begun pieces) (is_whole pieces)
piece-count most pieces p true test =
    let unfinished = not-whole (is_whole pieces) _ test in
    rw unfinished (one-more (is_begun pieces) (is_whole (p ∷ pieces)))

-- the sessions before a piece and after it
pub met-count : (most : ℕ) (before now : Session) (pieces : List RedPiece) (p : RedPiece)
    → Told before pieces → Told now (with_counted most pieces p)
    → count (is_unfinished now) + one_if (closes pieces (with_counted most pieces p))
    ≡ count (is_unfinished before) + one_if (opens pieces (with_counted most pieces p))
met-count most before now pieces p told told_now =
    rw (told-count before pieces told, told-count now (with_counted most pieces p) told_now)
    (piece-count most pieces p (counts most pieces p) refl)
