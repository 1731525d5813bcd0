-- What waiting pieces will take, as pieces come and go.

use Rattle.std.proofs.Common.{◌≡◌, ℕ, suc, ◌+◌, ◌-◌, ◌<◌, ◌≤◌, Bool, true, false, ◌||◌, nat_lt, if◌then◌else◌, List, [], ◌∷◌, ◌++◌, length, take, drop, refl, sym, ap, subst, ◌∙◌, arith}
use Rattle.std.specs.List.{sum_by}
use Rattle.std.proofs.lemmas.Bool.{ne_eqb, lt-ltb}
use Rattle.std.proofs.lemmas.List.{map-append, take-append-drop}
use Rattle.std.proofs.lemmas.List.Sums.{sum_by-append}
use Rattle.piece_gathering.specs.declared.piece.Piece.{Piece}
use Rattle.piece_gathering.specs.Gathered.{Front, no_front, with_piece, is_apart, front_from, front_of, GatheringValue, front_in, is_complete, is_late, ready, going, gone_from}
use Rattle.piece_gathering.proofs.FrontLemmas.{grows}
use Rattle.face_room.specs.declared.bounds.Bounds.{Bounds}
use Rattle.face_room.specs.declared.load.Waiting.{Waiting}
use Rattle.face_room.specs.Bounds.{need}
use Rattle.face_room.specs.Loads.{no_blocks, with_size, with_sizes}
use Rattle.face_room.specs.Faces.{sizes_of}
use Rattle.face_room.proofs.BlockLemmas.{at, sizes-append, fronts_are_blocks}
use Rattle.peer_gateway.specs.declared.waits.Waits.{Waits}
use Rattle.peer_gateway.specs.Waits.{waits_of, waits_with, waits_after}
use Rattle.peer_gateway.proofs.GoingLemmas.{ready-few}

-- ---- one more

abbrev sizes_with : ℕ → Waiting → List Piece → Waiting
sizes_with wanted w pieces = with_sizes wanted w (sizes_of pieces)

abbrev pub needs_of : Bounds → List Piece → ℕ
needs_of b pieces = sum_by (need b.segment) (sizes_of pieces)

needs-append : (b : Bounds) (first more : List Piece) → needs_of b (first ++ more) ≡ needs_of b first + needs_of b more
needs-append b first more =
    ap (sum_by (need b.segment)) (map-append (λ (piece : Piece). piece.size) first more)
    ∙ sum_by-append (need b.segment) (sizes_of first) (sizes_of more)

one-with : (wanted : ℕ) (w : Waiting) (size : ℕ) → with_sizes wanted w (size ∷ []) ≡ with_size wanted w size
unfolding with_sizes
one-with wanted w size = refl

pub waits-push : (b : Bounds) (pieces : List Piece) (piece : Piece)
    → waits_of b (pieces ++ piece ∷ []) ≡ waits_with b (waits_of b pieces) piece.size
waits-push b pieces piece =
    let one : sum_by (need b.segment) (piece.size ∷ []) ≡ need b.segment piece.size = omega arith in
    let needs : needs_of b (pieces ++ piece ∷ []) ≡ needs_of b pieces + need b.segment piece.size = omega (arith, needs-append b pieces (piece ∷ []), one) in
    let blocks : sizes_with b.wanted no_blocks (pieces ++ piece ∷ []) ≡ with_size b.wanted (sizes_with b.wanted no_blocks pieces) piece.size =
    ap (with_sizes b.wanted no_blocks) (map-append (λ (p : Piece). p.size) pieces (piece ∷ []))
    ∙ (sizes-append b.wanted no_blocks (sizes_of pieces) (piece.size ∷ [])
    ∙ one-with b.wanted (sizes_with b.wanted no_blocks pieces) piece.size) in
    rw (needs, blocks) refl

-- ---- the pieces in front go

-- blocks, and so many before them
abbrev after : ℕ → Waiting → Waiting
after more w = at (more + w.blocks) w.last

-- after a block
step-of : (wanted blocks last size : ℕ)
    → with_size wanted (at (suc blocks) last) size
    ≡ (if is_apart wanted last size then at (suc blocks + 1) size else at (suc blocks) (last + size))
unfolding with_size
step-of wanted blocks last size = rw (ne_eqb (suc blocks) 0 (λ is. absurd (omega (arith, is)))) refl

first-of : (wanted size : ℕ) → with_size wanted no_blocks size ≡ at 1 size
unfolding with_size
first-of wanted size = refl

shift : (wanted more blocks last : ℕ) (sizes : List ℕ)
    → with_sizes wanted (at (suc (more + blocks)) last) sizes ≡ after more (with_sizes wanted (at (suc blocks) last) sizes)
unfolding with_sizes
shift wanted more blocks last [] =
    let same : suc (more + blocks) ≡ more + suc blocks = omega arith in
    ap (λ n. at n last) same
shift wanted more blocks last (size ∷ sizes) =
    ap (λ w. with_sizes wanted w sizes) (step-of wanted (more + blocks) last size)
    ∙ (by (is_apart wanted last size) (shift wanted more (suc blocks) size sizes) (shift wanted more blocks (last + size) sizes)
    ∙ ap (λ w. after more (with_sizes wanted w sizes)) (sym (step-of wanted blocks last size)))
  where
    by : (t : Bool)
        → with_sizes wanted (at (suc (more + suc blocks)) size) sizes ≡ after more (with_sizes wanted (at (suc (suc blocks)) size) sizes)
        → with_sizes wanted (at (suc (more + blocks)) (last + size)) sizes ≡ after more (with_sizes wanted (at (suc blocks) (last + size)) sizes)
        → with_sizes wanted (if t then at (suc (more + blocks) + 1) size else at (suc (more + blocks)) (last + size)) sizes
        ≡ after more (with_sizes wanted (if t then at (suc blocks + 1) size else at (suc blocks) (last + size)) sizes)
    by true next same =
        let one : suc (more + blocks) + 1 ≡ suc (more + suc blocks) = omega arith in
        let other : suc (suc blocks) ≡ suc blocks + 1 = omega arith in
        ap (λ n. with_sizes wanted (at n size) sizes) one
        ∙ (next
        ∙ ap (λ n. after more (with_sizes wanted (at n size) sizes)) other)
    by false next same = same

-- the pieces after the front of some
abbrev rest_of : ℕ → Front → List Piece → List Piece
rest_of wanted front pieces = drop ((front_from wanted front pieces).count - front.count) pieces

front-blocks : (wanted : ℕ) (front : Front) (pieces : List Piece) → 0 < length (rest_of wanted front pieces)
    → sizes_with wanted (at 1 front.size) pieces ≡ after 1 (sizes_with wanted no_blocks (rest_of wanted front pieces))
unfolding front_from with_sizes
front-blocks wanted front [] some =
    let none : front.count - front.count ≡ 0 = omega arith in
    absurd (omega (arith, ap (λ n. length (drop {A = Piece} n [])) none, some))
front-blocks wanted front (piece ∷ pieces) some =
    ap (λ w. sizes_with wanted w pieces) (step-of wanted 0 front.size piece.size)
    ∙ by (is_apart wanted front.size piece.size) refl some (front-blocks wanted (with_piece front piece) pieces)
  where
    by : (t : Bool) → is_apart wanted front.size piece.size ≡ t
        → 0 < length (drop ((if t then front else front_from wanted (with_piece front piece) pieces).count - front.count) (piece ∷ pieces))
        → (0 < length (rest_of wanted (with_piece front piece) pieces)
        → sizes_with wanted (at 1 (front.size + piece.size)) pieces
        ≡ after 1 (sizes_with wanted no_blocks (rest_of wanted (with_piece front piece) pieces)))
        → sizes_with wanted (if t then at (1 + 1) piece.size else at 1 (front.size + piece.size)) pieces
        ≡ after 1 (sizes_with wanted no_blocks
        (drop ((if t then front else front_from wanted (with_piece front piece) pieces).count - front.count) (piece ∷ pieces)))
    by true is left rest =
        let none : front.count - front.count ≡ 0 = omega arith in
        rw none (
        shift wanted 1 0 piece.size (sizes_of pieces)
        ∙ ap (λ w. after 1 (sizes_with wanted w pieces)) (sym (first-of wanted piece.size)))
    by false is left rest =
        let new = front_from wanted (with_piece front piece) pieces in
        let grown = grows wanted (with_piece front piece) pieces in
        let more : new.count - front.count ≡ suc (new.count - (front.count + 1)) = omega (arith, grown.low) in
        rw more (rest (rw more at left))

-- where others wait on
blocks-rest : (wanted : ℕ) (pieces : List Piece) → 0 < length (drop (front_of wanted pieces).count pieces)
    → sizes_with wanted no_blocks pieces ≡ after 1 (sizes_with wanted no_blocks (drop (front_of wanted pieces).count pieces))
unfolding with_sizes
blocks-rest wanted [] some = absurd (omega (arith, some))
blocks-rest wanted (piece ∷ pieces) some =
    let first = with_piece no_front piece in
    let new = front_from wanted first pieces in
    let grown = grows wanted first pieces in
    let more : new.count ≡ suc (new.count - 1) = omega (arith, grown.low) in
    let same : piece.size ≡ 0 + piece.size = omega arith in
    ap (λ w. sizes_with wanted w pieces) (first-of wanted piece.size)
    ∙ (ap (λ n. sizes_with wanted (at 1 n) pieces) same
    ∙ rw more (front-blocks wanted first pieces (rw more at some)))

-- how many wait in front where some are ready
pub ready-front : (g : GatheringValue) (now : ℕ) → 0 < ready g now → ready g now ≡ (front_of g.wanted g.waiting).count
unfolding ready
ready-front g now some = by (is_complete g || is_late g.wait_ms now g.waiting) some
  where
    by : (t : Bool) → 0 < (if t then (front_in g).count else 0) → (if t then (front_in g).count else 0) ≡ (front_of g.wanted g.waiting).count
    by true some = refl
    by false some = absurd (omega (arith, some))

-- what is left of what pieces will take, once those that are ready went
pub record Gone (b : Bounds) (g : GatheringValue) (now : ℕ) : Type 0 where
  pub some : 1 ≤ (waits_of b g.waiting).waiting.blocks
  pub few : needs_of b (going g now) ≤ (waits_of b g.waiting).needs
  pub rest : waits_of b (gone_from g now).waiting
      ≡ waits_after (waits_of b g.waiting) (needs_of b (going g now)) (nat_lt 0 (length (gone_from g now).waiting))

abbrev pub waits : ℕ → Waiting → Waits
waits needs waiting = record { needs = needs; waiting = waiting }

rest-of : (b : Bounds) (pieces rest : List Piece) (went : ℕ) → went + needs_of b rest ≡ needs_of b pieces
    → (0 < length rest → sizes_with b.wanted no_blocks pieces ≡ after 1 (sizes_with b.wanted no_blocks rest))
    → waits_of b rest ≡ waits_after (waits_of b pieces) went (nat_lt 0 (length rest))
unfolding with_sizes
rest-of b pieces [] went sum blocks =
    let none : needs_of b [] ≡ needs_of b pieces - went = omega (arith, sum) in
    ap (λ (n : ℕ). waits n no_blocks) none
rest-of b pieces (piece ∷ rest) went sum blocks =
    let those = piece ∷ rest in
    let left : needs_of b those ≡ needs_of b pieces - went = omega (arith, sum) in
    let w = sizes_with b.wanted no_blocks those in
    let count : w.blocks ≡ (1 + w.blocks) - 1 = omega arith in
    let is = blocks (omega arith) in
    let same : w ≡ at ((sizes_with b.wanted no_blocks pieces).blocks - 1) (sizes_with b.wanted no_blocks pieces).last =
    ap (λ (n : ℕ). at n w.last) count ∙ ap (λ (v : Waiting). at (v.blocks - 1) v.last) (sym is) in
    let on : nat_lt 0 (length those) ≡ true = lt-ltb 0 (length those) (omega arith) in
    subst (λ (t : Bool). waits_of b those ≡ waits_after (waits_of b pieces) went t) (sym on)
    (ap (λ (n : ℕ). waits n w) left ∙ ap (λ (v : Waiting). waits (needs_of b pieces - went) v) same)

pub waits-gone : (b : Bounds) (g : GatheringValue) (now : ℕ) → g.wanted ≡ b.wanted → 0 < ready g now → Gone b g now
waits-gone b g now wanted some =
    let n = ready g now in
    let front : n ≡ (front_of b.wanted g.waiting).count = ready-front g now some ∙ ap (λ w. (front_of w g.waiting).count) wanted in
    let few = ready-few g now in
    let law = fronts_are_blocks b.wanted g.waiting (omega (arith, some, few)) in
    let sum : needs_of b (take n g.waiting) + needs_of b (drop n g.waiting) ≡ needs_of b g.waiting =
    sym (needs-append b (take n g.waiting) (drop n g.waiting)) ∙ ap (needs_of b) (take-append-drop n g.waiting) in record {
      some = omega (arith, law);
      few = omega (arith, sum);
      rest = rest-of b g.waiting (drop n g.waiting) (needs_of b (take n g.waiting)) sum
          (subst (λ k. 0 < length (drop k g.waiting) → sizes_with b.wanted no_blocks g.waiting ≡ after 1 (sizes_with b.wanted no_blocks (drop k g.waiting)))
          (sym front) (blocks-rest b.wanted g.waiting));
    }
