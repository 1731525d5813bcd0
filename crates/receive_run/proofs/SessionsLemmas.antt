-- The table of the code, entry by entry.
use Rattle.std.proofs.Common.{◌≡◌, ℕ, zero, suc, ◌+◌, ◌≤◌, Bool, true, false, ◌&&◌, ◌==◌, List, [], ◌∷◌, length, Option, None, Some, refl, sym, ◌∙◌, ap, arith, subst, ⊎_elim, if◌then◌else◌, nat_lt, ◌<◌, Result, Ok, Err, OnErr, not}
use Rattle.std.proofs.lemmas.Bool.{eqb-true, eq-eqb, cases_lt, lt-ltb, le-ltb}
use Rattle.std.proofs.lemmas.Bool.Decides.{nat_tests}
use Rattle.std.specs.Cmp.{nat_cmp_is}
use Rattle.std.specs.declared.cmp.Ordering.{Ordering}
use Rattle.std.specs.declared.cmp.Ordering.TheVariants as orderings
use Rattle.std.specs.Ordering.{nat_cmp, ordering_then, is_eq}
use Rattle.std.specs.BTreeMap.{get}
use Rattle.ltp_segment.specs.declared.session.TheConstants.{BLOCK_MAX}
use Rattle.ltp_session.specs.declared.name.SessionName.{SessionName}
use Rattle.ltp_session.specs.Cells.{laid_over, filled, all_octets, length_after, whole_part}
use Rattle.receive_run.specs.declared.table.Standing.{Standing}
use Rattle.receive_run.specs.declared.table.Standing.TheVariants as standings
use Rattle.receive_run.specs.declared.table.Found.TheVariants as founds
use Rattle.receive_run.specs.declared.table.Sessions.{Sessions}
use Rattle.ltp_session.specs.RedPart.{red_stop}
use Rattle.receive_run.specs.LineContent.{NamedPiece}
use Rattle.receive_run.specs.Session.{Session, fresh, open_part, handed_up, nothing, up, note, skip, is_out_of_bounds, handing_up, meets}
use Rattle.receive_run.specs.KeptSessions.{Kept, session_in, with_session, is_unfinished, unfinished, same_name}
use Rattle.receive_run.specs.Table.{key_cmp, key, StandsFor, Shows, ShowsOthers, LacksFirst, Puts, found_at, IsTaken}
use Rattle.cells.proofs.CellLemmas.{length-laid_over}
use Rattle.receive_run.proofs.TableLemmas.{session_in-with, unfinished-with, count, same_name-is, both}

then-is : (x y : Ordering) → is_eq (ordering_then x y) ≡ (is_eq x && is_eq y)
then-is orderings.Less y = refl
then-is orderings.Equal y = refl
then-is orderings.Greater y = refl

cmp-is : (a b : ℕ) → is_eq (nat_cmp a b) ≡ (a == b)
cmp-is a b = ⊎_elim
    (λ less.
    let is : nat_cmp a b ≡ orderings.Less = sym (nat_cmp_is a b orderings.Less less) in
    let apart : (a == b) ≡ false = grind (arith, nat_tests) in rw (is, apart) refl)
    (λ no_less. ⊎_elim
    (λ greater.
    let is : nat_cmp a b ≡ orderings.Greater = sym (nat_cmp_is a b orderings.Greater greater) in
    let apart : (a == b) ≡ false = grind (arith, nat_tests) in rw (is, apart) refl)
    (λ no_greater.
    let same : a ≡ b = omega arith in
    let is : nat_cmp a b ≡ orderings.Equal = sym (nat_cmp_is a b orderings.Equal same) in
    rw (is, eq-eqb a b same) refl)
    (cases_lt b a))
    (cases_lt a b)

pub key_cmp-is : (one name : SessionName) → is_eq (key_cmp (key one) (key name)) ≡ same_name one name
key_cmp-is one name = rw (then-is, cmp-is, cmp-is) refl

-- ---- an entry is put

pub shows_put : (old put new : Sessions) (kept : List Kept) (one : SessionName) (standing : Standing) (state : Session)
    → ShowsOthers old kept one → Puts old put one standing → StandsFor (Some standing) state
    → new.table ≡ put.table
    → new.unfinished + count (is_unfinished (session_in one kept)) ≡ put.unfinished + count (is_unfinished state)
    → Shows new (with_session one state kept)
shows_put old put new kept one standing state others puts stands same counted = record {
  each = λ name. each name (same_name one name) refl;
  count = omega (arith, unfinished-with one state kept, others.count, puts.count);
}
  where
    each : (name : SessionName) (t : Bool) → same_name one name ≡ t
        → StandsFor (get key_cmp new.table (key name)) (session_in name (with_session one state kept))
    each name true here = rw (same, puts.here name here, session_in-with one name state kept, here) stands
    each name false apart = rw (same, puts.others name apart, session_in-with one name state kept, apart) (others.each name apart)

pub shows_absent : (sessions : Sessions) (kept : List Kept) (one : SessionName)
    → LacksFirst sessions kept one → Shows sessions (with_session one fresh kept)
shows_absent sessions kept one lacks = record {
  each = λ name. each name (same_name one name) refl;
  count =
      let same : count (is_unfinished (session_in one kept)) ≡ 0 = rw lacks.first refl in
      omega (arith, unfinished-with one fresh kept, lacks.others.count);
}
  where
    each : (name : SessionName) (t : Bool) → same_name one name ≡ t
        → StandsFor (get key_cmp sessions.table (key name)) (session_in name (with_session one fresh kept))
    each name true here =
        rw (session_in-with one name fresh kept, here, ← same_name-is one name here, lacks.absent) refl
    each name false apart = rw (session_in-with one name fresh kept, apart) (lacks.others.each name apart)

-- ---- how a piece is met

pub first-out : (session : Session) (p : NamedPiece) → session ≡ fresh → is_out_of_bounds BLOCK_MAX 0 None p.piece ≡ true
    → meets BLOCK_MAX session p ≡ (note, fresh)
unfolding meets
first-out session p is out = rw (is, out) refl

all_octets-laid : (body : List ℕ) → all_octets (laid_over [] body) ≡ Some body
unfolding all_octets
all_octets-laid [] = refl
all_octets-laid (octet ∷ body) = rw (all_octets-laid body) refl

alone_whole : (body : List ℕ) → whole_part (laid_over [] body) (Some (0 + length body)) ≡ Some body
alone_whole body =
    let size : 0 + length body ≡ length (laid_over [] body) = omega (arith, length-laid_over [] body) in
    rw (eq-eqb (0 + length body) (length (laid_over [] body)) size) (all_octets-laid body)

pub first-alone : (session : Session) (p : NamedPiece) → session ≡ fresh → is_out_of_bounds BLOCK_MAX 0 None p.piece ≡ false
    → (p.piece.ends && (p.piece.offset == 0)) ≡ true → meets BLOCK_MAX session p ≡ (up p.name p.piece.body, handed_up)
unfolding meets filled
first-alone session p is inside alone =
    let parts = both p.piece.ends (p.piece.offset == 0) alone in
    let zero_offset : p.piece.offset ≡ 0 = eqb-true p.piece.offset 0 parts.1 in
    rw (is, inside, zero_offset, parts.0, alone_whole p.piece.body) refl

either : (t : Bool) → (if t then None else None) ≡ (let none : Option (List ℕ) = None in none)
either true = refl
either false = refl

gap : (offset : ℕ) (ends : Bool) (body : List ℕ) → (ends && (offset == 0)) ≡ false
    → whole_part (filled [] offset body) (if ends then Some (offset + length body) else None) ≡ None
unfolding filled all_octets
gap offset false body several = refl
gap zero true body several = absurd (cc)
gap (suc offset) true body several = either _

pub first-open : (session : Session) (p : NamedPiece) → session ≡ fresh → is_out_of_bounds BLOCK_MAX 0 None p.piece ≡ false
    → (p.piece.ends && (p.piece.offset == 0)) ≡ false
    → meets BLOCK_MAX session p ≡ (nothing, open_part (filled [] p.piece.offset p.piece.body) (length_after None p.piece.ends (red_stop p.piece)))
unfolding meets filled all_octets
first-open session p is inside several = rw (is, inside, gap p.piece.offset p.piece.ends p.piece.body several) refl

pub open-out : (session : Session) (p : NamedPiece) (cells : List (Option ℕ)) (known : Option ℕ) → session ≡ open_part cells known
    → is_out_of_bounds BLOCK_MAX (length cells) known p.piece ≡ true → meets BLOCK_MAX session p ≡ (note, open_part cells known)
unfolding meets
open-out session p cells known is out = rw (is, out) refl

pub open-inside : (session : Session) (p : NamedPiece) (cells : List (Option ℕ)) (known : Option ℕ) (w : Option (List ℕ)) → session ≡ open_part cells known
    → is_out_of_bounds BLOCK_MAX (length cells) known p.piece ≡ false → w ≡ whole_part (filled cells p.piece.offset p.piece.body) (length_after known p.piece.ends (red_stop p.piece))
    → meets BLOCK_MAX session p ≡ handing_up p.name w (filled cells p.piece.offset p.piece.body) (length_after known p.piece.ends (red_stop p.piece))
unfolding meets
open-inside session p cells known w is inside whole = rw (is, inside, whole) refl

pub puts_of : (old new : Sessions) (one : SessionName) (standing : Standing)
    → ((q : ℕ × ℕ) → get key_cmp new.table q ≡ (if is_eq (key_cmp (key one) q) then Some standing else get key_cmp old.table q))
    → new.unfinished ≡ old.unfinished → Puts old new one standing
puts_of old new one standing updates counted = record {
  here = λ name same. updates (key name) ∙ rw (key_cmp-is one name, same) refl;
  others = λ name apart. updates (key name) ∙ rw (key_cmp-is one name, apart) refl;
  count = counted;
}

-- ---- an entry is found

pub found_handed_up : (entry : Option Standing) (session : Session) (most : ℕ) (p : NamedPiece) → StandsFor entry session
    → found_at entry ≡ founds.HandedUp → meets most session p ≡ (skip, handed_up)
unfolding meets
found_handed_up None session most p stands is = absurd (cc)
found_handed_up (Some (standings.Open part)) session most p stands is = absurd (cc)
found_handed_up (Some standings.HandedUp) session most p stands is = rw stands refl

-- a session that was handed up stays so
pub shows_same : (sessions : Sessions) (kept : List Kept) (one : SessionName) (state : Session)
    → Shows sessions kept → session_in one kept ≡ state → Shows sessions (with_session one state kept)
shows_same sessions kept one state shows is = record {
  each = λ name. each name (same_name one name) refl;
  count =
      let same : count (is_unfinished (session_in one kept)) ≡ count (is_unfinished state) = ap (λ (x : Session). count (is_unfinished x)) is in
      omega (arith, unfinished-with one state kept, shows.count);
}
  where
    each : (name : SessionName) (t : Bool) → same_name one name ≡ t
        → StandsFor (get key_cmp sessions.table (key name)) (session_in name (with_session one state kept))
    each name true here =
        rw (session_in-with one name state kept, here, ← same_name-is one name here, ← is) (shows.each one)
    each name false apart = rw (session_in-with one name state kept, apart) (shows.each name)

-- an entry is taken out
pub others_of : (old new : Sessions) (kept : List Kept) (one : SessionName)
    → ((q : ℕ × ℕ) → get key_cmp new.table q ≡ (if is_eq (key_cmp (key one) q) then None else get key_cmp old.table q))
    → new.unfinished ≡ old.unfinished → Shows old kept → ShowsOthers new kept one
others_of old new kept one updates counted shows = record {
  each = λ name apart.
      let same : get key_cmp new.table (key name) ≡ get key_cmp old.table (key name) =
      updates (key name) ∙ rw (key_cmp-is one name, apart) refl in
      rw same (shows.each name);
  count = counted ∙ shows.count;
}

pub handed_up_of : (entry : Option Standing) (session : Session) → StandsFor entry session
    → found_at entry ≡ founds.HandedUp → session ≡ handed_up
handed_up_of None session stands is = absurd (cc)
handed_up_of (Some (standings.Open part)) session stands is = absurd (cc)
handed_up_of (Some standings.HandedUp) session stands is = stands

pub found_entry : (entry : Option Standing) (standing : Standing) (session : Session) → entry ≡ Some standing
    → StandsFor entry session → StandsFor (Some standing) session
found_entry entry standing session is stands = subst (λ (e : Option Standing). StandsFor e session) is stands

-- no entry is found where none came
pub lacks_first : (sessions : Sessions) (kept : List Kept) (one : SessionName) → Shows sessions kept
    → found_at (get key_cmp sessions.table (key one)) ≡ founds.Fresh → LacksFirst sessions kept one
lacks_first sessions kept one shows is = by_entry (get key_cmp sessions.table (key one)) refl is (shows.each one)
  where
    by_entry : (entry : Option Standing) → get key_cmp sessions.table (key one) ≡ entry → found_at entry ≡ founds.Fresh
        → StandsFor entry (session_in one kept) → LacksFirst sessions kept one
    by_entry None at nothing_found stands = record {
      others = record { each = λ name apart. shows.each name; count = shows.count };
      absent = at;
      first = stands;
    }
    by_entry (Some standings.HandedUp) at nothing_found stands = absurd (cc)
    by_entry (Some (standings.Open part)) at nothing_found stands = absurd (cc)

-- ---- one session too many

-- a session that is unfinished no more than before leaves no more unfinished
pub none_too_many : (most : ℕ) (kept : List Kept) (one : SessionName) (state : Session) → unfinished kept ≤ most
    → count (is_unfinished state) ≤ count (is_unfinished (session_in one kept))
    → nat_lt most (unfinished (with_session one state kept)) ≡ false
none_too_many most kept one state few no_more =
    le-ltb most (unfinished (with_session one state kept)) (omega (arith, unfinished-with one state kept, few, no_more))

-- one session changes the count by one at the most
count-most : (t : Bool) → count t ≤ 1
count-most true = omega arith
count-most false = omega arith

pub fewer_too_many : (most : ℕ) (kept : List Kept) (one : SessionName) (state : Session) → unfinished kept < most
    → nat_lt most (unfinished (with_session one state kept)) ≡ false
fewer_too_many most kept one state few =
    le-ltb most (unfinished (with_session one state kept)) (omega (arith, unfinished-with one state kept, few, count-most (is_unfinished state)))

-- of a session of which nothing came, where as many as there may be are unfinished
pub fresh_too_many : (most : ℕ) (kept : List Kept) (one : SessionName) (state : Session) → unfinished kept ≡ most
    → session_in one kept ≡ fresh
    → nat_lt most (unfinished (with_session one state kept)) ≡ is_unfinished state
fresh_too_many most kept one state full first = by_test (is_unfinished state) refl
  where
    none : count (is_unfinished (session_in one kept)) ≡ 0
    none = rw first refl

    by_test : (t : Bool) → is_unfinished state ≡ t → nat_lt most (unfinished (with_session one state kept)) ≡ t
    by_test false is = le-ltb most (unfinished (with_session one state kept)) (omega (arith, unfinished-with one state kept, none, full, ap count is))
    by_test true is = lt-ltb most (unfinished (with_session one state kept)) (omega (arith, unfinished-with one state kept, none, full, ap count is))

-- an open session that meets a piece is unfinished or not, so no more than before
pub open_too_many : (most : ℕ) (kept : List Kept) (one : SessionName) (state : Session) → unfinished kept ≤ most
    → is_unfinished (session_in one kept) ≡ true → nat_lt most (unfinished (with_session one state kept)) ≡ false
open_too_many most kept one state few is = none_too_many most kept one state few (at_most (is_unfinished state))
  where
    at_most : (t : Bool) → count t ≤ count (is_unfinished (session_in one kept))
    at_most true = rw is (omega arith)
    at_most false = omega arith

-- ---- an open session is found

pub record FoundOpen (session : Session) (reach : ℕ) (end : Option ℕ) : Type 0 where
  pub cells : List (Option ℕ)
  pub known : Option ℕ
  pub is_open : session ≡ open_part cells known
  pub reach_is : reach ≡ length cells
  pub length_is : end ≡ known

pub found_open : (entry : Option Standing) (session : Session) (reach : ℕ) (end : Option ℕ) → StandsFor entry session
    → found_at entry ≡ founds.Open reach end → FoundOpen session reach end
found_open None session reach end stands is = absurd (cc)
found_open (Some standings.HandedUp) session reach end stands is = absurd (cc)
found_open (Some (standings.Open part)) session reach end (cells, known, open_is, stands) is =
    let same_reach : length part.value.cells ≡ reach = cc in
    let same_length : part.value.length ≡ end = cc in
    record {
      cells = cells;
      known = known;
      is_open = open_is;
      reach_is = sym same_reach ∙ ap length stands.came;
      length_is = sym same_length ∙ stands.length_is;
    }

-- ---- memory is wanted only for a piece that is taken

handing-taken : (name : SessionName) (w : Option (List ℕ)) (cells : List (Option ℕ)) (known : Option ℕ) → IsTaken (handing_up name w cells known).0
handing-taken name None cells known = tt
handing-taken name (Some body) cells known = tt

pub first-taken : (session : Session) (p : NamedPiece) → session ≡ fresh → is_out_of_bounds BLOCK_MAX 0 None p.piece ≡ false
    → IsTaken (meets BLOCK_MAX session p).0
unfolding meets
first-taken session p is inside = rw (is, inside) (handing-taken p.name _ _ _)

pub open-taken : (session : Session) (p : NamedPiece) (reach : ℕ) (end : Option ℕ) → FoundOpen session reach end
    → is_out_of_bounds BLOCK_MAX reach end p.piece ≡ false → IsTaken (meets BLOCK_MAX session p).0
unfolding meets
open-taken session p reach end found inside =
    let test : is_out_of_bounds BLOCK_MAX (length found.cells) found.known p.piece ≡ false = rw (found.reach_is, found.length_is) at inside in
    rw (found.is_open, test) (handing-taken p.name _ _ _)

pub OnErr-by : {T E A B : Type 0} (r : Result T E) → (A → B) → OnErr r A → OnErr r B
OnErr-by (Ok x) f h = tt
OnErr-by (Err e) f h = f h

pub OnErr-always : {T E A : Type 0} (r : Result T E) → A → OnErr r A
OnErr-always (Ok x) h = tt
OnErr-always (Err e) h = h

-- ---- a first piece

pub opens-out : (p : NamedPiece) → is_out_of_bounds BLOCK_MAX 0 None p.piece ≡ true → is_unfinished (meets BLOCK_MAX fresh p).1 ≡ false
opens-out p out = rw (first-out fresh p refl out) refl

pub opens-inside : (p : NamedPiece) → is_out_of_bounds BLOCK_MAX 0 None p.piece ≡ false → (alone : Bool) → (p.piece.ends && (p.piece.offset == 0)) ≡ alone
    → is_unfinished (meets BLOCK_MAX fresh p).1 ≡ not alone
opens-inside p inside true is = rw (first-alone fresh p refl inside is) refl
opens-inside p inside false is = rw (first-open fresh p refl inside is) refl
