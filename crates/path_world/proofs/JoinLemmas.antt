-- What an end's joiner answers to the blocks that come there.

use Rattle.std.proofs.Common.{◌≡◌, ℕ, ◌<◌, ◌^◌, ◌+◌, false, List, [], ◌∷◌, ◌++◌, length, take, get_or, Option, None, Some, Result, Ok, Err, refl, sym, ap, ◌∙◌, subst}
use Rattle.std.specs.List.{All}
use Rattle.std.proofs.lemmas.List.{append-nil, append_assoc, map-append, take_more}
use Rattle.endpoint.specs.declared.extent.Fragment.{Fragment}
use Rattle.bundle_meaning.specs.declared.full.Full.{Full}
use Rattle.fragments.specs.declared.fault.JoinRefused.{JoinRefused}
use Rattle.fragments.specs.declared.fault.JoinRefused.TheVariants as refusals
use Rattle.fragments.specs.declared.join.Join.{Join}
use Rattle.fragments.specs.declared.joining.Joined.{Joined}
use Rattle.fragments.specs.declared.joining.Joined.TheVariants as answers
use Rattle.fragments.specs.Again.{IsBounded, answer_at, answer, after_at, after}
use Rattle.fragments.specs.Cutting.{octets_of}
use Rattle.fragments.specs.Joining.{Joining, accepted, Adds}
use Rattle.gate_cases.specs.declared.face.Face.{Face}
use Rattle.gate_cases.specs.Blocks.{found_at}
use Rattle.ltp_engine.specs.declared.effects.Up.{Up}
use Rattle.ltp_session.specs.Engine.{list_of}
use Rattle.path_laws.specs.declared.effects.EndJoin.{EndJoin}
use Rattle.path_laws.specs.Path.{fragment_found, fragments_in, joins_told, joins_then, end_joins}
use Rattle.path_world.specs.Ties.{IsTaken, BeginsWithRoom, IsJoiner, JoinsAll, bodies_of}
use Rattle.path_world.proofs.RoomLemmas.{IsWritable, room-after, whole-writable}

-- ---- one after the other

fragments-append : (face : Face) (xs ys : List (List ℕ)) → fragments_in face (xs ++ ys) ≡ fragments_in face xs ++ fragments_in face ys
unfolding fragments_in
fragments-append face [] ys = refl
fragments-append face (x ∷ xs) ys =
    ap (λ rest. list_of (fragment_found face (found_at face x)) ++ rest) (fragments-append face xs ys)
    ∙ sym (append_assoc (list_of (fragment_found face (found_at face x))) (fragments_in face xs) (fragments_in face ys))

then-append : (joins : List Join) (xs ys : List Full) → joins_then joins (xs ++ ys) ≡ joins_then (joins_then joins xs) ys
unfolding joins_then
then-append joins [] ys = refl
then-append joins (x ∷ xs) ys = then-append (after joins x) xs ys

told-append : (face : Face) (joins : List Join) (xs ys : List Full)
    → joins_told face joins (xs ++ ys) ≡ joins_told face joins xs ++ joins_told face (joins_then joins xs) ys
unfolding joins_told joins_then
told-append face joins [] ys = refl
told-append face joins (x ∷ xs) ys =
    ap (λ rest. end_joins face (answer joins x) ++ rest) (told-append face (after joins x) xs ys)
    ∙ sym (append_assoc (end_joins face (answer joins x)) (joins_told face (after joins x) xs) (joins_told face (joins_then (after joins x) xs) ys))

pub joins-none : (face : Face) (j : Joining) (before : List EndJoin) → IsJoiner face j → JoinsAll face j j [] before before
unfolding fragments_in joins_told joins_then
joins-none face j before whole = record { whole = whole; joins = refl; tells = sym (append-nil before) }

joins-then : (face : Face) (a b c : Joining) (xs ys : List (List ℕ)) (before mid now : List EndJoin) → JoinsAll face a b xs before mid → JoinsAll face b c ys mid now
    → JoinsAll face a c (xs ++ ys) before now
joins-then face a b c xs ys before mid now first second = record {
  whole = second.whole;
  joins =
      second.joins ∙ (ap (λ js. joins_then js (fragments_in face ys)) first.joins
      ∙ (sym (then-append a.joins (fragments_in face xs) (fragments_in face ys)) ∙ ap (λ fs. joins_then a.joins fs) (sym (fragments-append face xs ys))));
  tells =
      second.tells ∙ (ap (λ ts. ts ++ joins_told face b.joins (fragments_in face ys)) first.tells
      ∙ (append_assoc before (joins_told face a.joins (fragments_in face xs)) (joins_told face b.joins (fragments_in face ys))
      ∙ ap (λ ts. before ++ ts)
      (ap (λ js. joins_told face a.joins (fragments_in face xs) ++ joins_told face js (fragments_in face ys)) first.joins
      ∙ (sym (told-append face a.joins (fragments_in face xs) (fragments_in face ys)) ∙ ap (λ fs. joins_told face a.joins fs) (sym (fragments-append face xs ys))))));
}

-- one more of the blocks that came
pub joins-more : (face : Face) (a b c : Joining) (ups : List Up) (i : ℕ) (up : Up) (block : List ℕ) (mid now : List EndJoin) → i < length ups → up ≡ get_or ups i up
    → block ≡ up.body → JoinsAll face a b (bodies_of (take i ups)) [] mid → JoinsAll face b c (block ∷ []) mid now
    → JoinsAll face a c (bodies_of (take (i + 1) ups)) [] now
joins-more face a b c ups i up block mid now inside is body first second =
    subst (λ bs. JoinsAll face a c bs [] now) (sym taken)
    (joins-then face a b c (bodies_of (take i ups)) (up.body ∷ []) [] mid now first (subst (λ bs. JoinsAll face b c (bs ∷ []) mid now) body second))
  where
    taken : bodies_of (take (i + 1) ups) ≡ bodies_of (take i ups) ++ up.body ∷ []
    taken = ap bodies_of (take_more ups i up inside ∙ ap (λ u. take i ups ++ u ∷ []) (sym is)) ∙ map-append (λ (u : Up). u.body) (take i ups) (up ∷ [])

-- ---- one block

one-block : (face : Face) (block : List ℕ) (found : Option Full) → found ≡ fragment_found face (found_at face block) → list_of found ≡ fragments_in face (block ∷ [])
unfolding fragments_in
one-block face block found is = ap (λ (f : Option Full). list_of f) is ∙ sym (append-nil (list_of (fragment_found face (found_at face block))))

-- it is no fragment
pub joins-block-none : (face : Face) (j : Joining) (block : List ℕ) (before : List EndJoin) → IsJoiner face j → None ≡ fragment_found face (found_at face block)
    → JoinsAll face j j (block ∷ []) before before
unfolding joins_told joins_then
joins-block-none face j block before whole none = record {
  whole = whole;
  joins = ap (λ fs. joins_then j.joins fs) (one-block face block None none);
  tells = sym (append-nil before) ∙ ap (λ fs. before ++ joins_told face j.joins fs) (one-block face block None none);
}

-- or it is one
pub joins-block : (face : Face) (old new : Joining) (block : List ℕ) (full : Full) (before now : List EndJoin) (told : EndJoin) → Some full ≡ fragment_found face (found_at face block)
    → IsJoiner face new → new.joins ≡ after old.joins full → end_joins face (answer old.joins full) ≡ told ∷ [] → now ≡ before ++ told ∷ []
    → JoinsAll face old new (block ∷ []) before now
unfolding joins_told joins_then
joins-block face old new block full before now told found whole joins tells more = record {
  whole = whole;
  joins = joins ∙ ap (λ fs. joins_then old.joins fs) (one-block face block (Some full) found);
  tells =
      more ∙ (ap (λ ts. before ++ ts) (sym tells ∙ sym (append-nil (end_joins face (answer old.joins full))))
      ∙ ap (λ fs. before ++ joins_told face old.joins fs) (one-block face block (Some full) found));
}

-- ---- the joiner's answer

-- what was answered, and what is kept then
pub record Answered (joins : List Join) (full : Full) (given : Result Joined JoinRefused) (new : Joining) : Type 0 where
  pub answer : answer joins full ≡ given
  pub after : new.joins ≡ after joins full
  pub whole : new.spent ≡ false

refused-so : (joins : List Join) (full : Full) (refused : JoinRefused) (new : Joining)
    → (accepted joins full.shared ≡ Err refused) × (new ≡ record { joins = joins; spent = false }) → Answered joins full (Err refused) new
refused-so joins full refused new (is, kept) = record {
  answer = ap (λ (r : Result Fragment JoinRefused). answer_at joins full r) is;
  after = ap (λ (j : Joining). j.joins) kept ∙ ap (λ (r : Result Fragment JoinRefused). after_at joins full r) (sym is);
  whole = ap (λ (j : Joining). j.spent) kept;
}

pub answered-so : (joins : List Join) (full : Full) (given : Result Joined JoinRefused) (new : Joining) → Adds joins full given new → (given ≡ Err refusals.Memory → ⊥)
    → Answered joins full given new
answered-so joins full (Ok joined) new (part, taken, is, kept) other = record {
  answer = ap (λ (r : Result Fragment JoinRefused). answer_at joins full r) taken ∙ ap Ok (sym is);
  after = ap (λ (j : Joining). j.joins) kept ∙ ap (λ (r : Result Fragment JoinRefused). after_at joins full r) (sym taken);
  whole = ap (λ (j : Joining). j.spent) kept;
}
answered-so joins full (Err refusals.NotFragment) new adds other = refused-so joins full refusals.NotFragment new adds
answered-so joins full (Err refusals.TooLarge) new adds other = refused-so joins full refusals.TooLarge new adds
answered-so joins full (Err refusals.TotalDiffers) new adds other = refused-so joins full refusals.TotalDiffers new adds
answered-so joins full (Err refusals.NoRoom) new adds other = refused-so joins full refusals.NoRoom new adds
answered-so joins full (Err refusals.Memory) new adds other = absurd (other refl)

-- the joiner stays whole
pub joiner-stays : (face : Face) (old new : Joining) (full : Full) (given : Result Joined JoinRefused) (joined : Joined) → IsJoiner face old → IsTaken face full
    → Adds old.joins full given new → given ≡ Ok joined → IsBounded new.joins → IsJoiner face new
joiner-stays face old new full given joined whole taken adds is bounds =
    let so = answered-so old.joins full (Ok joined) new (subst (λ g. Adds old.joins full g new) is adds) (λ same. absurd (cc)) in record {
      whole = so.whole;
      room = subst (λ js. Room js) (sym so.after) (room-after face old.joins full whole.room taken);
      bounds = bounds;
    }
  where
    Room : List Join → Type 0
    Room js = All (BeginsWithRoom face) js

-- a whole can be written at the end's face
pub whole-can : (face : Face) (old new : Joining) (full whole : Full) (given : Result Joined JoinRefused) → IsJoiner face old → IsTaken face full → Adds old.joins full given new
    → given ≡ Ok (answers.Whole whole) → length (octets_of whole.shared.content) < 2 ^ 64 → IsWritable face whole
whole-can face old new full whole given is taken adds same small =
    whole-writable face old.joins full whole is.room taken
    (answered-so old.joins full (Ok (answers.Whole whole)) new (subst (λ g. Adds old.joins full g new) same adds) (λ memory. absurd (cc))).answer small
