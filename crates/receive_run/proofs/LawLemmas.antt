-- What a session hands up is what the pieces that count make whole.
use Rattle.std.proofs.Common.{◌≡◌, ℕ, Bool, true, false, not, ◌||◌, List, [], ◌∷◌, length, Option, None, Some, is_some, refl, sym, ap, subst, if◌then◌else◌}
use Rattle.ltp_session.specs.declared.name.SessionName.{SessionName}
use Rattle.ltp_session.specs.Cells.{filled, whole_part, length_after}
use Rattle.ltp_session.specs.RedPart.{RedPiece, red_stop, red_length, red_reach, is_whole, IsRedPart}
use Rattle.ltp_session.proofs.RedPartLemmas.{Agrees, red_part-whole, whole_part-red, red-whole_part, whole-some, agrees-more, nothing-agrees}
use Rattle.receive_run.specs.LineContent.{NamedPiece}
use Rattle.receive_run.specs.Session.{Session, fresh, open_part, handed_up, Reply, up, note, skip, is_out_of_bounds, handing_up, meets_open, meets}
use Rattle.receive_run.specs.Taken.{counts}
use Rattle.receive_run.specs.ReceiverLaw.{is_begun}

-- ---- a piece comes

-- the bounds are those of the pieces
bounds-same : (most : ℕ) (cells : List (Option ℕ)) (known : Option ℕ) (pieces : List RedPiece) (piece : RedPiece)
    → Agrees cells known pieces
    → is_out_of_bounds most (length cells) known piece ≡ is_out_of_bounds most (red_reach pieces) (red_length pieces) piece
bounds-same most cells known pieces piece agrees = rw (agrees.known_is, agrees.reach) refl

neither : (a b : Bool) → (a || b) ≡ false → b ≡ false
neither false b h = h
neither true b h = absurd (cc)

agrees-with : (most : ℕ) (cells : List (Option ℕ)) (known : Option ℕ) (pieces : List RedPiece) (piece : RedPiece)
    → Agrees cells known pieces → is_out_of_bounds most (length cells) known piece ≡ false
    → Agrees (filled cells piece.offset piece.body) (length_after known piece.ends (red_stop piece)) (piece ∷ pieces)
agrees-with most cells known pieces piece agrees is =
    agrees-more cells known pieces piece agrees (neither _ _ is)

-- ---- how a session stands, by its pieces

abbrev pub Told : Session → List RedPiece → Type 0
Told fresh pieces = pieces ≡ []
Told (open_part cells known) pieces = Agrees cells known pieces × ((is_begun pieces ≡ true) × (is_whole pieces ≡ false))
Told handed_up pieces = is_whole pieces ≡ true

-- the pieces that count once one more comes
abbrev pub with_counted : ℕ → List RedPiece → RedPiece → List RedPiece
with_counted most pieces piece = if counts most pieces piece then piece ∷ pieces else pieces

-- a piece is met as the law says
pub record MetByLaw (name : SessionName) (met : Reply × Session) (pieces now : List RedPiece) : Type 0 where
  pub told : Told met.1 now
  pub hands : (body : List ℕ) → met.0 ≡ up name body → (is_whole pieces ≡ false) × IsRedPart now body
  pub handed : (body : List ℕ) → is_whole pieces ≡ false → IsRedPart now body → met.0 ≡ up name body

-- one that changes nothing
met_idle : (name : SessionName) (said : Reply) (session : Session) (pieces : List RedPiece) → Told session pieces
    → ((body : List ℕ) → said ≡ up name body → ⊥) → MetByLaw name (said, session) pieces pieces
met_idle name said session pieces told silent = record {
  told = told;
  hands = λ body is. absurd (silent body is);
  handed = λ body unfinished part. let whole = red_part-whole pieces body part in absurd (cc);
}

handing-law : (name : SessionName) (w : Option (List ℕ)) (cells : List (Option ℕ)) (known : Option ℕ) (pieces now : List RedPiece)
    → is_whole pieces ≡ false → is_begun now ≡ true → Agrees cells known now → whole_part cells known ≡ w
    → MetByLaw name (handing_up name w cells known) pieces now
handing-law name None cells known pieces now unfinished begun agrees is = record {
  told = (agrees, (begun, not_whole (is_whole now) refl));
  hands = λ body said. absurd (cc);
  handed = λ body still part. let found = red-whole_part cells known now body agrees part in absurd (cc);
}
  where
    not_whole : (t : Bool) → is_whole now ≡ t → t ≡ false
    not_whole false test = refl
    not_whole true test =
        let some = whole-some cells known now agrees test in
        let none : is_some (whole_part cells known) ≡ false = ap is_some is in absurd (cc)
handing-law name (Some body) cells known pieces now unfinished begun agrees is =
    let part = whole_part-red cells known now body agrees is in
    record {
      told = red_part-whole now body part;
      hands = λ other said.
          let same : body ≡ other = cc in (unfinished, subst (λ (b : List ℕ). IsRedPart now b) same part);
      handed = λ other still other_part.
          let found = red-whole_part cells known now other agrees other_part in
          let same : body ≡ other = cc in ap (up name) same;
    }

-- an unfinished session meets a piece
open-law : (most : ℕ) (cells : List (Option ℕ)) (known : Option ℕ) (pieces : List RedPiece) (p : NamedPiece) (session : Session) (t : Bool)
    → Agrees cells known pieces → is_whole pieces ≡ false → Told session pieces
    → is_out_of_bounds most (length cells) known p.piece ≡ t
    → MetByLaw p.name (if t then (note, session) else meets_open cells known p) pieces
    (if not t then p.piece ∷ pieces else pieces)
open-law most cells known pieces p session true agrees unfinished told test =
    met_idle p.name note session pieces told (λ body is. cc)
open-law most cells known pieces p session false agrees unfinished told test =
    handing-law p.name _ _ _ pieces (p.piece ∷ pieces) unfinished refl (agrees-with most cells known pieces p.piece agrees test) refl

counts-open : (most : ℕ) (pieces : List RedPiece) (piece : RedPiece) → is_whole pieces ≡ false
    → counts most pieces piece ≡ not (is_out_of_bounds most (red_reach pieces) (red_length pieces) piece)
counts-open most pieces piece unfinished = rw unfinished refl

-- a piece meets a session of which nothing came
first-law : (most : ℕ) (p : NamedPiece) (t : Bool) → is_out_of_bounds most 0 None p.piece ≡ t
    → MetByLaw p.name (if t then (note, fresh) else meets_open [] None p) [] (with_counted most [] p.piece)
first-law most p t test =
    rw (counts-open most [] p.piece refl, test)
    (open-law most [] None [] p fresh t nothing-agrees refl refl test)

pub meets-law : (most : ℕ) (session : Session) (pieces : List RedPiece) (p : NamedPiece) → Told session pieces
    → MetByLaw p.name (meets most session p) pieces (with_counted most pieces p.piece)
unfolding meets
meets-law most fresh pieces p told =
    rw told (first-law most p (is_out_of_bounds most 0 None p.piece) refl)
meets-law most (open_part cells known) pieces p told =
    rw (counts-open most pieces p.piece told.1.1, ← bounds-same most cells known pieces p.piece told.0)
    (open-law most cells known pieces p (open_part cells known) (is_out_of_bounds most (length cells) known p.piece) told.0 told.1.1 told refl)
meets-law most handed_up pieces p told =
    rw told (met_idle p.name skip handed_up pieces told (λ body is. cc))
