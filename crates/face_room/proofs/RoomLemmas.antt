-- Whether there is room.

use Rattle.std.proofs.Common.{◌≡◌, ℕ, ◌+◌, ◌*◌, ◌/◌, ◌<◌, ◌≤◌, Bool, true, false, nat_le, List, [], ◌∷◌, ◌++◌, ◌^◌, length, take, drop, get_or, refl, sym, ap, ◌∙◌, arith, length-append}
use Rattle.std.specs.List.{list_all, sum_by}
use Rattle.std.proofs.lemmas.Bool.{and_parts, le-leb, lt-leb, leb-true}
use Rattle.std.proofs.lemmas.Nat.{le-div}
use Rattle.std.proofs.Math.Nat.{div-le_self}
use Rattle.std.proofs.lemmas.List.{drop-map, take-map, map-append, drop_all, drop_more}
use Rattle.std.proofs.lemmas.List.Folds.{list_all-append}
use Rattle.std.proofs.lemmas.List.Sums.{sum_by-append, sum_by-cons, sum_by_push, sum_by-take-drop}
use Rattle.piece_gathering.specs.declared.piece.Piece.{Piece}
use Rattle.piece_gathering.specs.Gathered.{sizes, front_of}
use Rattle.piece_gathering.proofs.FrontLemmas.{is-front}
use Rattle.face_room.specs.declared.bounds.Bounds.{Bounds}
use Rattle.face_room.specs.declared.bounds.TheConstants.{BLOCK_MAX, NUMBERS}
use Rattle.face_room.specs.declared.load.Load.{Load}
use Rattle.face_room.specs.Bounds.{AreBounds, need, for_pieces}
use Rattle.face_room.specs.Loads.{no_blocks, with_sizes, with_pieces, is_within, has_room}
use Rattle.face_room.specs.Faces.{FaceValue, total, sizes_of, load_of, with_waiting, with_gone}
use Rattle.face_room.specs.Laws.{IdleHasRoom, FewerHaveRoom, AloneEach, GoesWithin, IsSent, GoesOn}
use Rattle.face_room.proofs.NeedLemmas.{need-less, need-keeps, need-total, need-within}
use Rattle.face_room.proofs.BlockLemmas.{blocks_with, sizes-append, blocks-rise, fronts_are_blocks, alone-blocks, one-block}

-- ---- parts

pub record IsWithin (b : Bounds) (l : Load) : Type 0 where
  pub numbers : l.next_session + l.waiting.blocks ≤ NUMBERS
  pub kept : l.kept ≤ for_pieces b

pub within-parts : (b : Bounds) (l : Load) → is_within b l ≡ true → IsWithin b l
unfolding is_within
within-parts b l is =
    let both = and_parts (nat_le (l.next_session + l.waiting.blocks) NUMBERS) (nat_le l.kept (for_pieces b)) is in
    record {
      numbers = leb-true (l.next_session + l.waiting.blocks) NUMBERS both.0;
      kept = leb-true l.kept (for_pieces b) both.1;
    }

pub within-is : (b : Bounds) (l : Load) → IsWithin b l → is_within b l ≡ true
unfolding is_within
within-is b l within =
    rw (
      le-leb (l.next_session + l.waiting.blocks) NUMBERS within.numbers,
      le-leb l.kept (for_pieces b) within.kept,
    ) refl

abbrev pub small : ℕ → Bool
small size = nat_le size BLOCK_MAX

pub room-parts : (b : Bounds) (l : Load) (sizes : List ℕ) → has_room b l sizes ≡ true
    → (list_all small sizes ≡ true) × IsWithin b (with_pieces b l sizes)
unfolding has_room
room-parts b l sizes is =
    let both = and_parts (list_all small sizes) (is_within b (with_pieces b l sizes)) is in
    (both.0, within-parts b (with_pieces b l sizes) both.1)

pub room-is : (b : Bounds) (l : Load) (sizes : List ℕ) → list_all small sizes ≡ true → IsWithin b (with_pieces b l sizes)
    → has_room b l sizes ≡ true
unfolding has_room
room-is b l sizes all within = rw (all, within-is b (with_pieces b l sizes) within) refl

-- ---- an idle face

pub idle_has_room : IdleHasRoom
idle_has_room b l size memory segment idle fits =
    let half : 16777216 ≤ b.memory / 2 = le-div 16777216 b.memory 2 (omega arith) (omega (arith, memory)) in
    let room : 15728640 ≤ for_pieces b = le-div 15728640 (b.memory / 2 * 15) 16 (omega arith) (omega (arith, half)) in
    let needs = need-within size b.segment segment fits in
    let sum : sum_by (need b.segment) (size ∷ []) ≡ need b.segment size = sum_by-cons (need b.segment) size [] ∙ omega arith in
    let one : blocks_with b.wanted l.waiting (size ∷ []) ≡ 1 =
    ap (λ w. blocks_with b.wanted w (size ∷ [])) idle.waiting ∙ one-block b.wanted size in
    room-is b l (size ∷ []) (rw (le-leb size BLOCK_MAX fits) refl) (record {
      numbers = omega (arith, one, idle.number);
      kept = omega (arith, room, needs, sum, idle.kept);
    })

-- ---- fewer pieces

pub fewer_have_room : FewerHaveRoom
fewer_have_room b l first more room =
    let parts = room-parts b l (first ++ more) room in
    let all = and_parts (list_all small first) (list_all small more) (sym (list_all-append small first more) ∙ parts.0) in
    let blocks : blocks_with b.wanted l.waiting (first ++ more) ≡ blocks_with b.wanted (with_sizes b.wanted l.waiting first) more =
    ap (λ w. w.blocks) (sizes-append b.wanted l.waiting first more) in
    let rise = blocks-rise b.wanted (with_sizes b.wanted l.waiting first) more in
    let sum = sum_by-append (need b.segment) first more in
    room-is b l first all.0 (record {
      numbers = omega (arith, parts.1.numbers, blocks, rise);
      kept = omega (arith, parts.1.kept, sum);
    })

-- ---- pieces alone

pub alone_each : AloneEach
unfolding has_room is_within
alone_each b l sizes none enough =
    let blocks : blocks_with b.wanted l.waiting sizes ≡ length sizes =
    ap (λ w. blocks_with b.wanted w sizes) none ∙ (alone-blocks b.wanted no_blocks sizes refl enough ∙ omega arith) in
    rw blocks refl

-- ---- pieces wait, and go

waits : (b : Bounds) (face : FaceValue) (pieces : List Piece) → has_room b (load_of b face) (sizes_of pieces) ≡ true
    → is_within b (load_of b (with_waiting face pieces)) ≡ true
waits b face pieces room =
    let parts = room-parts b (load_of b face) (sizes_of pieces) room in
    let all : sizes_of (face.pieces ++ pieces) ≡ sizes_of face.pieces ++ sizes_of pieces =
    map-append (λ (piece : Piece). piece.size) face.pieces pieces in
    let blocks : blocks_with b.wanted no_blocks (sizes_of (face.pieces ++ pieces))
    ≡ blocks_with b.wanted (with_sizes b.wanted no_blocks (sizes_of face.pieces)) (sizes_of pieces) =
    ap (blocks_with b.wanted no_blocks) all
    ∙ ap (λ w. w.blocks) (sizes-append b.wanted no_blocks (sizes_of face.pieces) (sizes_of pieces)) in
    let sum : sum_by (need b.segment) (sizes_of (face.pieces ++ pieces))
    ≡ sum_by (need b.segment) (sizes_of face.pieces) + sum_by (need b.segment) (sizes_of pieces) =
    ap (sum_by (need b.segment)) all ∙ sum_by-append (need b.segment) (sizes_of face.pieces) (sizes_of pieces) in
    within-is b (load_of b (with_waiting face pieces)) (record {
      numbers = omega (arith, parts.1.numbers, blocks);
      kept = omega (arith, parts.1.kept, sum);
    })

-- the sizes of some pieces together
total-sizes : (pieces : List Piece) → total (sizes_of pieces) ≡ sizes pieces
total-sizes [] = refl
total-sizes (piece ∷ pieces) =
    omega (
      arith,
      total-sizes pieces,
      sum_by-cons (λ (n : ℕ). n) piece.size (sizes_of pieces),
      sum_by-cons (λ (p : Piece). p.size) piece pieces,
    )

-- what the pieces in front need, and those after them
front-needs : (b : Bounds) (pieces : List Piece) → 0 < b.segment
    → need b.segment (front_of b.wanted pieces).size
    + sum_by (need b.segment) (sizes_of (drop (front_of b.wanted pieces).count pieces))
    ≤ sum_by (need b.segment) (sizes_of pieces)
front-needs b pieces some =
    let n = (front_of b.wanted pieces).count in
    let all = sum_by-take-drop (need b.segment) (sizes_of pieces) n in
    let after : sum_by (need b.segment) (drop n (sizes_of pieces)) ≡ sum_by (need b.segment) (sizes_of (drop n pieces)) =
    ap (sum_by (need b.segment)) (drop-map (λ (piece : Piece). piece.size) n pieces) in
    let before : sum_by (need b.segment) (take n (sizes_of pieces)) ≡ sum_by (need b.segment) (sizes_of (take n pieces)) =
    ap (sum_by (need b.segment)) (take-map (λ (piece : Piece). piece.size) n pieces) in
    let few = need-total b.segment (sizes_of (take n pieces)) some in
    let size : (front_of b.wanted pieces).size ≡ total (sizes_of (take n pieces)) =
    (is-front b.wanted pieces).size ∙ sym (total-sizes (take n pieces)) in
    let same : need b.segment (front_of b.wanted pieces).size ≡ need b.segment (total (sizes_of (take n pieces))) = ap (need b.segment) size in
    omega (arith, all, after, before, few, same)

goes : (b : Bounds) (face : FaceValue) (size : ℕ) (sent : List ℕ) → AreBounds b → is_within b (load_of b face) ≡ true
    → IsSent b face size sent → GoesOn b face (with_gone b face size sent)
goes b face size sent bounds is going =
    let within = within-parts b (load_of b face) is in
    let blocks = fronts_are_blocks b.wanted face.pieces going.some in
    let needs = front-needs b face.pieces bounds.segment in
    let less = need-less size (front_of b.wanted face.pieces).size b.segment bounds.segment going.block in
    let keeps = need-keeps size (total sent) b.segment going.datagrams in
    let first : total (face.blocks ++ size ∷ []) ≡ total face.blocks + size = sum_by_push (λ (n : ℕ). n) face.blocks size in
    let second : total (face.outbox ++ sent) ≡ total face.outbox + total sent = sum_by-append (λ (n : ℕ). n) face.outbox sent in
    let count : length (face.blocks ++ size ∷ []) ≡ length face.blocks + 1 = length-append face.blocks (size ∷ []) in
    record {
      sessions = omega (arith, going.free, count);
      number = omega (arith, within.numbers, blocks);
      within = within-is b (load_of b (with_gone b face size sent)) (record {
        numbers = omega (arith, within.numbers, blocks);
        kept = omega (arith, within.kept, needs, less, keeps, first, second);
      });
    }

pub goes_within : GoesWithin
goes_within b face bounds = record {
  waits = waits b face;
  goes = λ size sent within going. goes b face size sent bounds within going;
}

-- ---- one after the other

-- a piece more, and then the others
pub room-more : (b : Bounds) (l : Load) (size : ℕ) (more : List ℕ) → size ≤ BLOCK_MAX
    → has_room b l (size ∷ more) ≡ has_room b (with_pieces b l (size ∷ [])) more
unfolding has_room with_sizes
room-more b l size more fits =
    let first : sum_by (need b.segment) (size ∷ []) ≡ need b.segment size = sum_by-cons (need b.segment) size [] ∙ omega arith in
    let kept : l.kept + sum_by (need b.segment) (size ∷ more) ≡ l.kept + sum_by (need b.segment) (size ∷ []) + sum_by (need b.segment) more =
    omega (arith, first, sum_by-cons (need b.segment) size more) in
    rw (le-leb size BLOCK_MAX fits, kept) refl

-- one that no session carries
pub room-large : (b : Bounds) (l : Load) (size : ℕ) (more : List ℕ) → BLOCK_MAX < size → has_room b l (size ∷ more) ≡ false
unfolding has_room
room-large b l size more large = rw (lt-leb size BLOCK_MAX large) refl

-- none
pub room-none : (b : Bounds) (l : Load) → has_room b l [] ≡ is_within b l
unfolding has_room with_sizes is_within
room-none b l = rw (plus-none l.kept) refl
  where
    plus-none : (n : ℕ) → n + 0 ≡ n
    plus-none n = omega arith

-- a face that is over its bounds
pub room-over : (b : Bounds) (l : Load) (sizes : List ℕ) → is_within b l ≡ false → has_room b l sizes ≡ false
room-over b l sizes over = by (has_room b l sizes) refl
  where
    by : (t : Bool) → has_room b l sizes ≡ t → t ≡ false
    by false is = refl
    by true is =
        let none = sym (room-none b l) ∙ fewer_have_room b l [] sizes is in
        absurd (cc)

-- ---- a loop over sizes

pub room-next : (b : Bounds) (l : Load) (sizes : List ℕ) (at d : ℕ) → at < length sizes → get_or sizes at d ≤ BLOCK_MAX
    → has_room b l (drop at sizes) ≡ has_room b (with_pieces b l (get_or sizes at d ∷ [])) (drop (at + 1) sizes)
room-next b l sizes at d inside fits =
    ap (has_room b l) (drop_more sizes at d inside) ∙ room-more b l (get_or sizes at d) (drop (at + 1) sizes) fits

pub room-far : (b : Bounds) (l : Load) (sizes : List ℕ) (at d : ℕ) → at < length sizes → BLOCK_MAX < get_or sizes at d
    → has_room b l (drop at sizes) ≡ false
room-far b l sizes at d inside large =
    ap (has_room b l) (drop_more sizes at d inside) ∙ room-large b l (get_or sizes at d) (drop (at + 1) sizes) large

pub room-last : (b : Bounds) (l : Load) (sizes : List ℕ) (at : ℕ) → length sizes ≤ at → has_room b l (drop at sizes) ≡ is_within b l
room-last b l sizes at all = ap (has_room b l) (drop_all at sizes all) ∙ room-none b l

-- ---- numbers

pub kept-fits : (b : Bounds) (kept more : ℕ) → AreBounds b → kept ≤ for_pieces b → more ≤ 36 * BLOCK_MAX → kept + more < 2 ^ 64
kept-fits b kept more bounds few small =
    let half = div-le_self b.memory 2 in
    let part = div-le_self (b.memory / 2 * 15) 16 in
    omega (arith, few, small, half, part, bounds.memory)
