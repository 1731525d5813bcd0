-- The laws of gatherings.

use Rattle.std.proofs.Common.{◌≡◌, ℕ, ◌+◌, ◌-◌, ◌<◌, ◌≤◌, ◌==◌, Bool, true, false, not, ◌&&◌, ◌||◌, nat_le, nat_lt, if◌then◌else◌, List, [], ◌∷◌, ◌++◌, length, take, drop, All, refl, sym, ap, ◌∙◌, arith, append_assoc, length-append, take-append-drop}
use Rattle.std.proofs.lemmas.Bool.{eq-eqb, ne_eqb, lt-ltb, le-ltb, le-leb, lt-leb, leb-true, leb-false}
use Rattle.std.proofs.lemmas.List.{append-nil}
use Rattle.std.proofs.lemmas.List.Elements.{All-cons, All-head, All-tail, All-take, All-nil}
use Rattle.std.proofs.lemmas.List.Sums.{sum_by-cons, sum_by_push}
use Rattle.piece_gathering.specs.declared.piece.Piece.{Piece}
use Rattle.piece_gathering.specs.declared.piece.TheConstants.{BLOCK_MAX}
use Rattle.piece_gathering.specs.Gathered.{GatheringValue, sizes, octets_of, Front, no_front, with_piece, front_from, front_of, front_in, is_complete, is_late, ready, added_to, going, gone_from}
use Rattle.piece_gathering.specs.Runs.{adds, frees, added_by, gone_by, after_events}
use Rattle.piece_gathering.specs.Fronts.{AreWithin}
use Rattle.piece_gathering.specs.Laws.{InOrder, IsSized, BlocksFit, AreSince, NoneWaitsLate, PiecesAlone, IsGathering, GoesWith, GoesAfter, GathersAsSaid}
use Rattle.piece_gathering.proofs.FrontLemmas.{is-front, front-push}

pub in_order : InOrder
in_order [] g = sym (append-nil g.waiting)
in_order (adds piece ∷ events) g =
    in_order events (added_to g piece) ∙ append_assoc g.waiting (piece ∷ []) (added_by events)
in_order (frees now ∷ events) g =
    let rest = in_order events (gone_from g now) in
    let n = ready g now in
    append_assoc (take n g.waiting) (gone_by events (gone_from g now)) (after_events events (gone_from g now)).waiting
    ∙ (ap (λ (more : List Piece). take n g.waiting ++ more) rest
    ∙ (sym (append_assoc (take n g.waiting) (drop n g.waiting) (added_by events))
    ∙ ap (λ (all : List Piece). all ++ added_by events) (take-append-drop n g.waiting)))

-- ---- blocks

abbrev pub ready_if : Bool → ℕ → ℕ
ready_if t count = if t then count else 0

octets-few : (pieces : List Piece) → All IsSized pieces → length (octets_of pieces) ≤ sizes pieces
octets-few [] sized = omega arith
octets-few (piece ∷ pieces) sized =
    omega (arith, length-append piece.octets (octets_of pieces), octets-few pieces (All-tail IsSized piece pieces sized), sum_by-cons (λ (p : Piece). p.size) piece pieces, (All-head IsSized piece pieces sized).octets)

sized-within : (pieces : List Piece) → All IsSized pieces → AreWithin pieces
sized-within pieces sized = λ k d inside. (sized k d inside).within

going-few : (g : GatheringValue) (now : ℕ) → All IsSized g.waiting → sizes (going g now) ≤ BLOCK_MAX
unfolding ready
going-few g now sized = by (is_complete g || is_late g.wait_ms now g.waiting)
  where
    by : (t : Bool) → sizes (take (ready_if t (front_in g).count) g.waiting) ≤ BLOCK_MAX
    by true =
        let front = is-front g.wanted g.waiting in
        omega (arith, front.size, front.fits (sized-within g.waiting sized))
    by false = omega arith

pub blocks_fit : BlocksFit
blocks_fit g now sized =
    let few = going-few g now sized in
    let octets = octets-few (going g now) (All-take IsSized (ready g now) g.waiting sized) in
    (few, omega (arith, few, octets))

-- ---- moments

since-late : (moment now wait : ℕ) (pieces : List Piece) → AreSince moment pieces → now - moment < wait
    → All (λ (piece : Piece). now - piece.added < wait) pieces
since-late moment now wait [] since early = All-nil (λ (piece : Piece). now - piece.added < wait)
since-late moment now wait (piece ∷ pieces) since early =
    let here : now - piece.added < wait = omega (arith, since.0) in
    All-cons (λ (p : Piece). now - p.added < wait) piece pieces here (since-late piece.added now wait pieces since.1 here)

none-late : (wanted wait now : ℕ) (pieces : List Piece) → AreSince 0 pieces
    → ready (record { wanted = wanted; wait_ms = wait; waiting = pieces }) now ≡ 0
    → All (λ (piece : Piece). now - piece.added < wait) pieces
unfolding ready
none-late wanted wait now [] since none = All-nil (λ (piece : Piece). now - piece.added < wait)
none-late wanted wait now (piece ∷ pieces) since none =
    by (is_complete (record { wanted = wanted; wait_ms = wait; waiting = piece ∷ pieces })) (nat_le wait (now - piece.added)) refl none
  where
    some : 0 < (front_of wanted (piece ∷ pieces)).count
    some = (is-front wanted (piece ∷ pieces)).some (omega arith)

    by : (complete late : Bool) → nat_le wait (now - piece.added) ≡ late
        → ready_if (complete || late) (front_of wanted (piece ∷ pieces)).count ≡ 0 → All (λ (p : Piece). now - p.added < wait) (piece ∷ pieces)
    by true late is none = absurd (omega (arith, some, none))
    by false true is none = absurd (omega (arith, some, none))
    by false false is none =
        let early : now - piece.added < wait = omega (arith, leb-false wait (now - piece.added) is) in
        All-cons (λ (p : Piece). now - p.added < wait) piece pieces early (since-late piece.added now wait pieces since.1 early)

pub none_waits_late : NoneWaitsLate
none_waits_late g now since none = none-late g.wanted g.wait_ms now g.waiting since none

-- ---- alone

alone-front : (wanted : ℕ) (piece : Piece) (pieces : List Piece) → wanted ≤ piece.size
    → front_of wanted (piece ∷ pieces) ≡ with_piece no_front piece
unfolding front_from
alone-front wanted piece [] enough = refl
alone-front wanted piece (next ∷ pieces) enough = rw (le-leb wanted (0 + piece.size) (omega arith)) refl

pub pieces_alone : PiecesAlone
unfolding ready
pieces_alone wanted wait_ms now piece pieces few some =
    let front = alone-front wanted piece pieces (omega arith) in
    rw (front, le-leb wanted (0 + piece.size) (omega arith)) refl

-- ---- a piece that is added

goes-with : (g : GatheringValue) (piece : Piece) → IsGathering g → sizes g.waiting + piece.size ≤ BLOCK_MAX → GoesWith g piece
goes-with g piece gathering fits =
    let sum : sizes (g.waiting ++ piece ∷ []) ≡ sizes g.waiting + piece.size =
    sum_by_push (λ (p : Piece). p.size) g.waiting piece in
    let size : length (g.waiting ++ piece ∷ []) ≡ length g.waiting + 1 = length-append g.waiting (piece ∷ []) in
    let few : nat_le g.wanted (front_in g).size ≡ false = lt-leb g.wanted (front_in g).size (omega (arith, gathering.sum, gathering.few)) in
    let room : nat_lt BLOCK_MAX ((front_in g).size + piece.size) ≡ false = le-ltb BLOCK_MAX ((front_in g).size + piece.size) (omega (arith, gathering.sum, fits)) in
    let all : ((front_in g).count == length g.waiting) ≡ true = eq-eqb (front_in g).count (length g.waiting) gathering.all in
    let front : front_in (added_to g piece) ≡ with_piece (front_in g) piece =
    front-push g.wanted g.waiting piece ∙ rw (all, few, room) (or-so (length g.waiting == 0)) in
    let count : (front_in (added_to g piece)).count ≡ length g.waiting + 1 = omega (arith, ap (λ (f : Front). f.count) front, gathering.all) in
    let octets : (front_in (added_to g piece)).size ≡ sizes g.waiting + piece.size = omega (arith, ap (λ (f : Front). f.size) front, gathering.sum) in
    record {
      all = omega (arith, count, size);
      size = omega (arith, octets, sum);
      enough = λ complete. omega (
        arith,
        octets,
        only (nat_le g.wanted (front_in (added_to g piece)).size) refl
            (le-ltb (front_in (added_to g piece)).count (length (g.waiting ++ piece ∷ [])) (omega (arith, count, size))) complete,
      );
      complete = λ enough. rw (le-leb g.wanted (front_in (added_to g piece)).size (omega (arith, octets, enough))) refl;
    }
  where
    or-so : (t : Bool) → (if t || true then with_piece (front_in g) piece else front_in g) ≡ with_piece (front_in g) piece
    or-so true = refl
    or-so false = refl

    only : (t : Bool) → nat_le g.wanted (front_in (added_to g piece)).size ≡ t
        → nat_lt (front_in (added_to g piece)).count (length (g.waiting ++ piece ∷ [])) ≡ false
        → is_complete (added_to g piece) ≡ true → g.wanted ≤ (front_in (added_to g piece)).size
    only true is last complete = leb-true g.wanted (front_in (added_to g piece)).size is
    only false is last complete = let no : false ≡ true = rw (is, last) at complete in absurd (cc)

goes-after : (g : GatheringValue) (piece : Piece) → IsGathering g → 0 < length g.waiting → BLOCK_MAX < sizes g.waiting + piece.size → GoesAfter g piece
goes-after g piece gathering some over =
    let size : length (g.waiting ++ piece ∷ []) ≡ length g.waiting + 1 = length-append g.waiting (piece ∷ []) in
    let room : nat_lt BLOCK_MAX ((front_in g).size + piece.size) ≡ true = lt-ltb BLOCK_MAX ((front_in g).size + piece.size) (omega (arith, gathering.sum, over)) in
    let none : (length g.waiting == 0) ≡ false = ne_eqb (length g.waiting) 0 (λ is. absurd (omega (arith, is, some))) in
    let front : front_in (added_to g piece) ≡ front_in g =
    front-push g.wanted g.waiting piece ∙ rw (none, room) (and-so ((front_in g).count == length g.waiting) (nat_le g.wanted (front_in g).size)) in
    let count : (front_in (added_to g piece)).count ≡ length g.waiting = ap (λ (f : Front). f.count) front ∙ gathering.all in
    record {
      those = count;
      complete = rw (lt-ltb (front_in (added_to g piece)).count (length (g.waiting ++ piece ∷ [])) (omega (arith, count, size)))
          (or-true (nat_le g.wanted (front_in (added_to g piece)).size));
    }
  where
    and-so : (a b : Bool) → (if false || (a && not (b || true)) then with_piece (front_in g) piece else front_in g) ≡ front_in g
    and-so true true = refl
    and-so true false = refl
    and-so false b = refl

    or-true : (b : Bool) → (b || true) ≡ true
    or-true true = refl
    or-true false = refl

pub gathers_as_said : GathersAsSaid
gathers_as_said g piece gathering = (goes-with g piece gathering, goes-after g piece gathering)
