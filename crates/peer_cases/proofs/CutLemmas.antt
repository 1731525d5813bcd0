-- The pieces of a record, as long as there is room for them.

use Rattle.std.proofs.Common.{◌≡◌, ℕ, zero, suc, ◌+◌, ◌-◌, ◌<◌, ◌≤◌, Bool, true, false, not, ◌&&◌, ◌||◌, nat_le, if◌then◌else◌, List, [], ◌∷◌, ◌++◌, map, length, All, Option, Some, None, Result, IfOk, refl, sym, ap, subst, ◌∙◌, append_assoc, arith}
use Rattle.std.specs.List.{list_all}
use Rattle.std.proofs.lemmas.Bool.{and_parts, ltb-true, leb-true}
use Rattle.std.proofs.lemmas.Nat.{le-div}
use Rattle.std.proofs.lemmas.List.Elements.{All-head, All-tail}
use Rattle.bundle_meaning.specs.declared.full.Full.{Full}
use Rattle.translate.specs.Sound.{IsSound}
use Rattle.fragments.specs.Cutting.{octets_of, is_longer, must_not, how_many, piece, pieces_from, pieces}
use Rattle.gate_cases.specs.declared.face.Face.{Face}
use Rattle.gate_cases.specs.declared.face.Face.TheVariants.{Old, New}
use Rattle.gate_cases.specs.Faces.{fits_at}
use Rattle.gate_cases.specs.Names.{over_at}
use Rattle.gate_cases.specs.Passage.{pieces_on}
use Rattle.gate_cases.proofs.PieceLemmas.{length-from, one-piece, fits-pieces}
use Rattle.face_room.specs.declared.bounds.Bounds.{Bounds}
use Rattle.face_room.specs.declared.bounds.TheConstants.{BLOCK_MAX}
use Rattle.face_room.specs.declared.load.Load.{Load}
use Rattle.face_room.specs.Loads.{is_within, has_room, with_pieces}
use Rattle.face_room.proofs.RoomLemmas.{within-is, room-parts, fewer_have_room, room-more, room-large, room-none, room-over}
use Rattle.peer_cases.specs.declared.pieces.SizedPiece.{SizedPiece}
use Rattle.peer_cases.specs.declared.room.FaceRoom.{FaceRoom}
use Rattle.peer_cases.specs.declared.settings.PeerSettings.{PeerSettings}
use Rattle.peer_cases.specs.Pieces.{greatest_size, piece_of}
use Rattle.peer_cases.specs.Sending.{if_room}
use Rattle.peer_cases.proofs.WireLemmas.{size-over}

-- ---- none is made

pub none-is : (s : PeerSettings) (to : Face) (room : FaceRoom) (records : List Full)
    → has_room room.bounds room.load (map (greatest_size s to) records) ≡ false → None ≡ if_room s to room records
none-is s to room records none = rw none refl

-- the first piece has all blocks
over-first : (to : Face) (full : Full) (size : ℕ) → over_at to (piece full size 0) ≡ over_at to full
over-first Old full size = refl
over-first New full size = refl

-- a piece comes first whose names are too long
pub record Begins (to : Face) (records : List Full) : Type 0 where
  pub first : Full
  pub more : List Full
  pub is : records ≡ first ∷ more
  pub over : over_at to first ≡ true

cut-begins : (to : Face) (full : Full) (size n : ℕ) → 0 < n → over_at to full ≡ true → Begins to (pieces_from full size 0 n)
unfolding pieces_from
cut-begins to full size zero some over = absurd (omega (arith, some))
cut-begins to full size (suc n) some over = record {
  first = piece full size 0;
  more = pieces_from full size (0 + 1) n;
  is = refl;
  over = over-first to full size ∙ over;
}

first-piece : (to : Face) (full : Full) (size : ℕ) → over_at to full ≡ true → Begins to (pieces_on full size)
first-piece to full size over = by (is_longer full size && must_not full.shared) (is_longer full size)
  where
    whole : Begins to (full ∷ [])
    whole = record { first = full; more = []; is = refl; over = over }

    count : ℕ
    count = how_many size (octets_of full.shared.content)

    by : (t longer : Bool) → Begins to (if t then full ∷ [] else if longer then pieces_from full size 0 count else full ∷ [])
    by true longer = whole
    by false true = cut-begins to full size count (omega arith) over
    by false false = whole

pub over-none : (s : PeerSettings) (to : Face) (room : FaceRoom) (full : Full) (size : ℕ) → over_at to full ≡ true
    → None ≡ if_room s to room (pieces_on full size)
over-none s to room full size over =
    let begins = first-piece to full size over in
    none-is s to room (pieces_on full size)
    (ap (λ (records : List Full). has_room room.bounds room.load (map (greatest_size s to) records)) begins.is
    ∙ room-large room.bounds room.load (greatest_size s to begins.first) (map (greatest_size s to) begins.more) (size-over s to begins.first begins.over))

-- a face that is full already
pub outside-none : (s : PeerSettings) (to : Face) (room : FaceRoom) (full : Full) (size : ℕ) → is_within room.bounds room.load ≡ false
    → None ≡ if_room s to room (pieces_on full size)
outside-none s to room full size outside =
    none-is s to room (pieces_on full size) (room-over room.bounds room.load (map (greatest_size s to) (pieces_on full size)) outside)

-- ---- whether a record is cut

-- one piece is the record
alone-is : (full : Full) (size : ℕ) → 0 < size → length (pieces_on full size) ≡ 1 → pieces_on full size ≡ full ∷ []
alone-is full size some one = by (is_longer full size) (must_not full.shared) refl one
  where
    count : ℕ
    count = how_many size (octets_of full.shared.content)

    by : (t m : Bool) → is_longer full size ≡ t
        → length (if t && m then full ∷ [] else if t then pieces_from full size 0 count else full ∷ []) ≡ 1
        → (if t && m then full ∷ [] else if t then pieces_from full size 0 count else full ∷ []) ≡ full ∷ []
    by true true longer one = refl
    by true false longer one =
        let size_is = ltb-true size (length (octets_of full.shared.content)) longer in
        let some_more = le-div 1 (length (octets_of full.shared.content) - 1) size some (omega (arith, size_is)) in
        absurd (omega (arith, some_more, one, length-from full size 0 count))
    by false m longer one = refl

pub alone-room : {E : Type 0} (s : PeerSettings) (to : Face) (room : FaceRoom) (full : Full) (size : ℕ) (result : Result (Option (List SizedPiece)) E)
    → 0 < size → length (pieces_on full size) ≡ 1 → IfOk result (λ pieces. pieces ≡ if_room s to room (full ∷ []))
    → IfOk result (λ pieces. pieces ≡ if_room s to room (pieces_on full size))
alone-room s to room full size result some one is =
    subst (λ (records : List Full). IfOk result (λ pieces. pieces ≡ if_room s to room records)) (sym (alone-is full size some one)) is

-- one that must not be cut is one piece
pub must-not-one : (full : Full) (size : ℕ) → (is_longer full size && must_not full.shared) ≡ true → length (pieces_on full size) ≡ 1
must-not-one full size is = one-piece full size (by (is_longer full size) (must_not full.shared) is)
  where
    by : (t m : Bool) → (t && m) ≡ true → (not t || m) ≡ true
    by true true is = refl
    by true false is = absurd (cc)
    by false m is = refl

-- more are those that a cutter gives
cut-is : (full : Full) (size : ℕ) → ((is_longer full size && must_not full.shared) ≡ true → ⊥) → pieces full size ≡ pieces_on full size
cut-is full size cut = by (is_longer full size && must_not full.shared) cut
  where
    by : (t : Bool) → (t ≡ true → ⊥) → pieces full size ≡ (if t then full ∷ [] else pieces full size)
    by true never = absurd (never refl)
    by false never = refl

-- they have room for their blocks where it has
pub cut-fit : (to : Face) (full : Full) (size : ℕ) (records : List Full) → records ≡ pieces full size
    → (length (pieces_on full size) ≡ 1 → ⊥) → fits_at to full ≡ true → list_all (fits_at to) records ≡ true
cut-fit to full size records is several fits =
    ap (list_all (fits_at to)) (is ∙ cut-is full size (λ must. several (must-not-one full size must)))
    ∙ (fits-pieces to full size ∙ fits)

-- ---- one after the other

-- what there is room for, a session carries
pub room-small : (b : Bounds) (l : Load) (size : ℕ) → has_room b l (size ∷ []) ≡ true → size ≤ BLOCK_MAX
room-small b l size has = leb-true size BLOCK_MAX (and_parts (nat_le size BLOCK_MAX) true (room-parts b l (size ∷ []) has).0).0

-- a piece is one too many
pub size-short : (b : Bounds) (l : Load) (size : ℕ) (result : Option Load)
    → result ≡ (if has_room b l (size ∷ []) then Some (with_pieces b l (size ∷ [])) else None) → result ≡ None
    → has_room b l (size ∷ []) ≡ false
size-short b l size result is none = by (has_room b l (size ∷ [])) (sym none ∙ is)
  where
    by : (t : Bool) → None ≡ (if t then Some (with_pieces b l (size ∷ [])) else None) → t ≡ false
    by true is = absurd (cc)
    by false is = refl

-- a piece is placed
pub size-placed : (b : Bounds) (l : Load) (size : ℕ) (result : Option Load) (more : Load)
    → result ≡ (if has_room b l (size ∷ []) then Some (with_pieces b l (size ∷ [])) else None) → result ≡ Some more
    → (has_room b l (size ∷ []) ≡ true) × (more ≡ with_pieces b l (size ∷ []))
size-placed b l size result more is some = by (has_room b l (size ∷ [])) (with_pieces b l (size ∷ [])) (sym some ∙ is)
  where
    by : (t : Bool) (after : Load) → Some more ≡ (if t then Some after else None) → (t ≡ true) × (more ≡ after)
    by true after is = (refl, cc)
    by false after is = absurd (cc)

-- so far these pieces were made of some records, and others are left
pub record Making (s : PeerSettings) (to : Face) (room : FaceRoom) (all left : List Full) (made : List SizedPiece) (load : Load) : Type 0 where
  pub within : is_within room.bounds load ≡ true
  pub has : has_room room.bounds load (map (greatest_size s to) left) ≡ has_room room.bounds room.load (map (greatest_size s to) all)
  pub pieces : made ++ map (piece_of s to) left ≡ map (piece_of s to) all
  pub sound : All IsSound left
  pub fit : list_all (fits_at to) left ≡ true

pub making-start : (s : PeerSettings) (to : Face) (room : FaceRoom) (all : List Full) → is_within room.bounds room.load ≡ true
    → All IsSound all → list_all (fits_at to) all ≡ true → Making s to room all all [] room.load
making-start s to room all within sound fit = record { within = within; has = refl; pieces = refl; sound = sound; fit = fit }

-- the next is sound, and has room for its blocks
pub making-next : (s : PeerSettings) (to : Face) (room : FaceRoom) (all old new : List Full) (made : List SizedPiece) (load : Load) (full : Full)
    → Making s to room all old made load → old ≡ full ∷ new → IsSound full × (fits_at to full ≡ true)
making-next s to room all old new made load full so_far is = (
  All-head IsSound full new (subst (All IsSound) is so_far.sound),
  (and_parts (fits_at to full) (list_all (fits_at to) new) (subst (λ (left : List Full). list_all (fits_at to) left ≡ true) is so_far.fit)).0,
)

-- there is room for it
pub making-more : (s : PeerSettings) (to : Face) (room : FaceRoom) (all old new : List Full) (made : List SizedPiece) (load more : Load) (full : Full)
    (piece : SizedPiece) (after : List SizedPiece) → Making s to room all old made load → old ≡ full ∷ new → piece ≡ piece_of s to full
    → (has_room room.bounds load (piece.size ∷ []) ≡ true) × (more ≡ with_pieces room.bounds load (piece.size ∷ []))
    → after ≡ made ++ piece ∷ [] → Making s to room all new after more
making-more s to room all old new made load more full piece after so_far is piece_is (has, more_is) after_is =
    let parts = room-parts room.bounds load (piece.size ∷ []) has in
    let small = room-small room.bounds load piece.size has in
    let size = ap (λ (p : SizedPiece). p.size) piece_is in
    let sizes : map (greatest_size s to) old ≡ piece.size ∷ map (greatest_size s to) new =
    ap (map (greatest_size s to)) is ∙ ap (λ (n : ℕ). n ∷ map (greatest_size s to) new) (sym size) in
    record {
      within = ap (is_within room.bounds) more_is ∙ within-is room.bounds (with_pieces room.bounds load (piece.size ∷ [])) parts.1;
      has =
          ap (λ (l : Load). has_room room.bounds l (map (greatest_size s to) new)) more_is
          ∙ (sym (room-more room.bounds load piece.size (map (greatest_size s to) new) small)
          ∙ (ap (has_room room.bounds load) (sym sizes) ∙ so_far.has));
      pieces =
          ap (λ (ps : List SizedPiece). ps ++ map (piece_of s to) new) after_is
          ∙ (append_assoc made (piece ∷ []) (map (piece_of s to) new)
          ∙ (ap (λ (p : SizedPiece). made ++ (p ∷ map (piece_of s to) new)) piece_is
          ∙ (ap (λ (left : List Full). made ++ map (piece_of s to) left) (sym is) ∙ so_far.pieces)));
      sound = All-tail IsSound full new (subst (All IsSound) is so_far.sound);
      fit = (and_parts (fits_at to full) (list_all (fits_at to) new) (subst (λ (left : List Full). list_all (fits_at to) left ≡ true) is so_far.fit)).1;
    }

-- there is none for it
pub making-none : (s : PeerSettings) (to : Face) (room : FaceRoom) (all old new : List Full) (made : List SizedPiece) (load : Load) (full : Full)
    (piece : SizedPiece) → Making s to room all old made load → old ≡ full ∷ new → piece ≡ piece_of s to full
    → has_room room.bounds load (piece.size ∷ []) ≡ false → None ≡ if_room s to room all
making-none s to room all old new made load full piece so_far is piece_is none =
    none-is s to room all (sym so_far.has ∙ by (has_room room.bounds load (map (greatest_size s to) old)) refl)
  where
    sizes : map (greatest_size s to) old ≡ (piece.size ∷ []) ++ map (greatest_size s to) new
    sizes =
        ap (map (greatest_size s to)) is
        ∙ ap (λ (n : ℕ). n ∷ map (greatest_size s to) new) (sym (ap (λ (p : SizedPiece). p.size) piece_is))

    by : (t : Bool) → has_room room.bounds load (map (greatest_size s to) old) ≡ t → t ≡ false
    by true has =
        let first = fewer_have_room room.bounds load (piece.size ∷ []) (map (greatest_size s to) new)
        (ap (has_room room.bounds load) (sym sizes) ∙ has) in
        absurd (cc)
    by false has = refl

-- none is left
pub making-done : (s : PeerSettings) (to : Face) (room : FaceRoom) (all old : List Full) (made : List SizedPiece) (load : Load)
    → Making s to room all old made load → old ≡ [] → Some made ≡ if_room s to room all
making-done s to room all old made load so_far is =
    let has : has_room room.bounds room.load (map (greatest_size s to) all) ≡ true =
    sym so_far.has ∙ (ap (λ (left : List Full). has_room room.bounds load (map (greatest_size s to) left)) is
    ∙ (room-none room.bounds load ∙ so_far.within)) in
    let pieces : made ≡ map (piece_of s to) all =
    sym (append-none made) ∙ (ap (λ (left : List Full). made ++ map (piece_of s to) left) (sym is) ∙ so_far.pieces) in
    rw (has, pieces) refl
  where
    append-none : (made : List SizedPiece) → made ++ [] ≡ made
    append-none [] = refl
    append-none (piece ∷ made) = ap (λ (more : List SizedPiece). piece ∷ more) (append-none made)
