-- The blocks that waiting pieces make.

use Rattle.std.proofs.Common.{◌≡◌, ℕ, suc, ◌+◌, ◌-◌, ◌≤◌, ◌==◌, Bool, true, false, ◌||◌, nat_le, nat_lt, if◌then◌else◌, List, [], ◌∷◌, ◌++◌, length, drop, All, refl, sym, ap, ◌∙◌, arith}
use Rattle.std.proofs.lemmas.Bool.{ne_eqb, le-leb}
use Rattle.std.proofs.lemmas.List.Elements.{All-head, All-tail}
use Rattle.piece_gathering.specs.declared.piece.Piece.{Piece}
use Rattle.piece_gathering.specs.Gathered.{Front, no_front, with_piece, is_apart, front_from}
use Rattle.piece_gathering.proofs.FrontLemmas.{grows}
use Rattle.face_room.specs.declared.bounds.TheConstants.{BLOCK_MAX}
use Rattle.face_room.specs.declared.load.Waiting.{Waiting}
use Rattle.face_room.specs.Loads.{no_blocks, with_size, with_sizes}
use Rattle.face_room.specs.Faces.{sizes_of}
use Rattle.face_room.specs.Laws.{FrontsAreBlocks}

abbrev pub at : ℕ → ℕ → Waiting
at blocks last = record { blocks = blocks; last = last }

-- the blocks that pieces make which wait after others
abbrev pub blocks_with : ℕ → Waiting → List ℕ → ℕ
blocks_with wanted w sizes = (with_sizes wanted w sizes).blocks

-- ---- in turn

pub sizes-append : (wanted : ℕ) (w : Waiting) (first more : List ℕ)
    → with_sizes wanted w (first ++ more) ≡ with_sizes wanted (with_sizes wanted w first) more
unfolding with_sizes
sizes-append wanted w [] more = refl
sizes-append wanted w (size ∷ first) more = sizes-append wanted (with_size wanted w size) first more

-- ---- blocks only rise

size-rises : (wanted : ℕ) (w : Waiting) (size : ℕ) → w.blocks ≤ (with_size wanted w size).blocks
unfolding with_size
size-rises wanted w size = by (w.blocks == 0 || is_apart wanted w.last size)
  where
    by : (t : Bool) → w.blocks ≤ (if t then at (w.blocks + 1) size else at w.blocks (w.last + size)).blocks
    by true = omega arith
    by false = omega arith

pub blocks-rise : (wanted : ℕ) (w : Waiting) (sizes : List ℕ) → w.blocks ≤ blocks_with wanted w sizes
unfolding with_sizes
blocks-rise wanted w [] = omega arith
blocks-rise wanted w (size ∷ sizes) =
    omega (arith, size-rises wanted w size, blocks-rise wanted (with_size wanted w size) sizes)

-- ---- one more

-- after a block
step-of : (wanted blocks last size : ℕ)
    → with_size wanted (at (suc blocks) last) size
    ≡ (if is_apart wanted last size then at (suc blocks + 1) size else at (suc blocks) (last + size))
unfolding with_size
step-of wanted blocks last size = rw (ne_eqb (suc blocks) 0 (λ is. absurd (omega (arith, is)))) refl

-- the first
first-of : (wanted size : ℕ) → with_size wanted no_blocks size ≡ at 1 size
unfolding with_size
first-of wanted size = refl

-- ---- blocks before them count

shift : (wanted more blocks last : ℕ) (sizes : List ℕ)
    → blocks_with wanted (at (suc (more + blocks)) last) sizes ≡ more + blocks_with wanted (at (suc blocks) last) sizes
unfolding with_sizes
shift wanted more blocks last [] = omega arith
shift wanted more blocks last (size ∷ sizes) =
    ap (λ w. blocks_with wanted w sizes) (step-of wanted (more + blocks) last size)
    ∙ (by (is_apart wanted last size) (shift wanted more (suc blocks) size sizes) (shift wanted more blocks (last + size) sizes)
    ∙ ap (λ w. more + blocks_with wanted w sizes) (sym (step-of wanted blocks last size)))
  where
    by : (t : Bool)
        → blocks_with wanted (at (suc (more + suc blocks)) size) sizes ≡ more + blocks_with wanted (at (suc (suc blocks)) size) sizes
        → blocks_with wanted (at (suc (more + blocks)) (last + size)) sizes ≡ more + blocks_with wanted (at (suc blocks) (last + size)) sizes
        → blocks_with wanted (if t then at (suc (more + blocks) + 1) size else at (suc (more + blocks)) (last + size)) sizes
        ≡ more + blocks_with wanted (if t then at (suc blocks + 1) size else at (suc blocks) (last + size)) sizes
    by true next same =
        let one : suc (more + blocks) + 1 ≡ suc (more + suc blocks) = omega arith in
        let other : suc (suc blocks) ≡ suc blocks + 1 = omega arith in
        ap (λ n. blocks_with wanted (at n size) sizes) one
        ∙ (next
        ∙ ap (λ n. more + blocks_with wanted (at n size) sizes) other)
    by false next same = same

-- ---- fronts

front-blocks : (wanted : ℕ) (front : Front) (pieces : List Piece)
    → blocks_with wanted (at 1 front.size) (sizes_of pieces)
    ≡ 1 + blocks_with wanted no_blocks (sizes_of (drop ((front_from wanted front pieces).count - front.count) pieces))
unfolding front_from with_sizes
front-blocks wanted front [] =
    let none : front.count - front.count ≡ 0 = omega arith in
    rw none refl
front-blocks wanted front (piece ∷ pieces) =
    ap (λ w. blocks_with wanted w (sizes_of pieces)) (step-of wanted 0 front.size piece.size)
    ∙ by (is_apart wanted front.size piece.size) (front-blocks wanted (with_piece front piece) pieces)
  where
    by : (t : Bool)
        → blocks_with wanted (at 1 (front.size + piece.size)) (sizes_of pieces)
        ≡ 1 + blocks_with wanted no_blocks
        (sizes_of (drop ((front_from wanted (with_piece front piece) pieces).count - (front.count + 1)) pieces))
        → blocks_with wanted (if t then at (1 + 1) piece.size else at 1 (front.size + piece.size)) (sizes_of pieces)
        ≡ 1 + blocks_with wanted no_blocks
        (sizes_of (drop ((if t then front else front_from wanted (with_piece front piece) pieces).count - front.count) (piece ∷ pieces)))
    by true rest =
        let none : front.count - front.count ≡ 0 = omega arith in
        rw none (
        shift wanted 1 0 piece.size (sizes_of pieces)
        ∙ ap (λ w. 1 + blocks_with wanted w (sizes_of pieces)) (sym (first-of wanted piece.size)))
    by false rest =
        let new = front_from wanted (with_piece front piece) pieces in
        let grown = grows wanted (with_piece front piece) pieces in
        let more : new.count - front.count ≡ suc (new.count - (front.count + 1)) = omega (arith, grown.low) in
        rw more rest

pub fronts_are_blocks : FrontsAreBlocks
unfolding front_from with_sizes
fronts_are_blocks wanted [] some = absurd (omega (arith, some))
fronts_are_blocks wanted (piece ∷ pieces) some =
    let first = with_piece no_front piece in
    let new = front_from wanted first pieces in
    let grown = grows wanted first pieces in
    let more : new.count ≡ suc (new.count - 1) = omega (arith, grown.low) in
    let same : piece.size ≡ 0 + piece.size = omega arith in
    ap (λ w. blocks_with wanted w (sizes_of pieces)) (first-of wanted piece.size)
    ∙ (ap (λ n. blocks_with wanted (at 1 n) (sizes_of pieces)) same
    ∙ rw more (front-blocks wanted first pieces))

-- ---- alone

or-more : (a b c : Bool) → (a || b) ≡ true → (a || (b || c)) ≡ true
or-more true b c is = refl
or-more false true c is = refl
or-more false false c is = absurd (cc)

or-true : (t u : Bool) → u ≡ true → (t || u) ≡ true
or-true true u is = refl
or-true false u is = is

-- a block begins where there is none, or the last has as many octets as are wanted
begins-one : (wanted : ℕ) (w : Waiting) (size : ℕ) → (w.blocks == 0 || nat_le wanted w.last) ≡ true
    → with_size wanted w size ≡ at (w.blocks + 1) size
unfolding with_size
begins-one wanted w size begins =
    rw (or-more (w.blocks == 0) (nat_le wanted w.last) (nat_lt BLOCK_MAX (w.last + size)) begins) refl

pub alone-blocks : (wanted : ℕ) (w : Waiting) (sizes : List ℕ) → (w.blocks == 0 || nat_le wanted w.last) ≡ true
    → All (λ (n : ℕ). wanted ≤ n) sizes → blocks_with wanted w sizes ≡ w.blocks + length sizes
unfolding with_sizes
alone-blocks wanted w [] begins enough = omega arith
alone-blocks wanted w (size ∷ sizes) begins enough =
    let head : nat_le wanted size ≡ true = le-leb wanted size (All-head (λ (n : ℕ). wanted ≤ n) size sizes enough) in
    let rest = alone-blocks wanted (at (w.blocks + 1) size) sizes (or-true (w.blocks + 1 == 0) (nat_le wanted size) head)
    (All-tail (λ (n : ℕ). wanted ≤ n) size sizes enough) in
    let count : (w.blocks + 1) + length sizes ≡ w.blocks + suc (length sizes) = omega arith in
    ap (λ v. blocks_with wanted v sizes) (begins-one wanted w size begins) ∙ (rest ∙ count)

pub one-block : (wanted size : ℕ) → blocks_with wanted no_blocks (size ∷ []) ≡ 1
unfolding with_sizes with_size
one-block wanted size = refl
