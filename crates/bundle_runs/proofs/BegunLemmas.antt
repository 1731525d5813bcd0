-- Octets of the bundle that has begun, or begins with them.
use Rattle.std.proofs.Common.{◌≡◌, ℕ, zero, suc, ◌+◌, ◌<◌, List, [], ◌∷◌, ◌++◌, length, drop, slice_index, Option, None, Some, Result, Ok, Err, IfOk, refl, sym, ◌∙◌, ap, arith, length-append}
use Rattle.std.proofs.lemmas.Bool.{ne_eqb}
use Rattle.std.specs.declared.alloc.AllocError.{AllocError}
use Rattle.wire_fields.specs.Reading.{IsOctets}
use Rattle.bundle_runs.specs.declared.front.Bundle.{Bundle}
use Rattle.bundle_runs.specs.declared.front.Cause.TheVariants.{Version}
use Rattle.bundle_runs.specs.declared.given.Given.{Given}
use Rattle.bundle_runs.specs.declared.given.Given.TheVariants.{Whole, Part, Refused}
use Rattle.bundle_runs.specs.declared.unfinished.Unfinished.{Unfinished}
use Rattle.bundle_runs.specs.declared.unfinished.Unfinished.TheVariants.{Six, Seven}
use Rattle.bundle_runs.specs.declared.bundle_reader.Standing.{Standing}
use Rattle.bundle_runs.specs.Front.{Front, whole, cut_short, refused, front_of}
use Rattle.bundle_runs.specs.Given.{Finds}
use Rattle.bundle_runs.specs.Taking.{kept_of, mark_of, front_in, with_unfinished, IsReady, IsCut, HasBegun, HasBegunWith, BeginsWith, GoesOn, Takes, IsSound, KeepsBegun, Took}

-- ---- octets

pub octets-join : (u v : List ℕ) → IsOctets u → IsOctets v → IsOctets (u ++ v)
octets-join [] v first second i = second i
octets-join (x ∷ u) v first second zero = first 0
octets-join (x ∷ u) v first second (suc i) = octets-join u v (λ j. first (suc j)) second i

pub drop-past : (xs ys : List ℕ) (n : ℕ) → drop (length xs + n) (xs ++ ys) ≡ drop n ys
drop-past [] ys n = let same : 0 + n ≡ n = omega arith in ap (λ (k : ℕ). drop k ys) same
drop-past (x ∷ xs) ys n =
    let same : length (x ∷ xs) + n ≡ suc (length xs + n) = omega arith in
    ap (λ (k : ℕ). drop k (x ∷ (xs ++ ys))) same ∙ drop-past xs ys n

pub drop-all : (xs : List ℕ) → drop (length xs) xs ≡ []
drop-all [] = refl
drop-all (x ∷ xs) = drop-all xs

pub first-more : (xs ys : List ℕ) → 0 < length xs → slice_index (xs ++ ys) 0 ≡ slice_index xs 0
first-more [] ys none = absurd (omega (arith, none))
first-more (x ∷ xs) ys none = refl

pub is-cut : (front : Front) → IsCut front → (at : ℕ) × (front ≡ cut_short at)
is-cut (whole bundle size) cut = absurd cut
is-cut (cut_short at) cut = (at, refl)
is-cut (refused at cause) cut = absurd cut

-- ---- the bundle that has begun

-- its first octet named its version
front-marked : (bundle : Unfinished) (octets : List ℕ) → slice_index octets 0 ≡ mark_of bundle → front_of octets ≡ front_in bundle octets
unfolding front_of
front-marked (Six reader) octets first = rw first refl
front-marked (Seven reader) octets first = rw first refl

pub front-begun : (bundle : Unfinished) (more : List ℕ) → HasBegun bundle → front_of (kept_of bundle ++ more) ≡ front_in bundle (kept_of bundle ++ more)
front-begun bundle more begun =
    front-marked bundle (kept_of bundle ++ more) (first-more (kept_of bundle) more begun.some ∙ begun.mark)

pub front-kept : (bundle : Unfinished) → HasBegun bundle → front_of (kept_of bundle) ≡ front_in bundle (kept_of bundle)
front-kept bundle begun = front-marked bundle (kept_of bundle) begun.mark

begun-more : (old new : Unfinished) (piece : List ℕ) (at : ℕ) → HasBegun old → IsOctets piece
    → front_in old (kept_of old ++ piece) ≡ cut_short at
    → IsReady new × (mark_of new ≡ mark_of old) × (kept_of new ≡ kept_of old ++ piece)
    → HasBegunWith (kept_of old ++ piece) new
begun-more old new piece at begun fits is (ready, mark, kept) = (
  record {
    ready = ready;
    octets = rw kept (octets-join (kept_of old) piece begun.octets fits);
    some = omega (arith, begun.some, ap length kept, length-append (kept_of old) piece);
    mark = ap (λ (t : List ℕ). slice_index t 0) kept ∙ first-more (kept_of old) piece begun.some ∙ begun.mark ∙ sym mark;
    cut =
        let first : slice_index (kept_of new) 0 ≡ mark_of new = ap (λ (t : List ℕ). slice_index t 0) kept ∙ first-more (kept_of old) piece begun.some ∙ begun.mark ∙ sym mark in
        let here : front_in new (kept_of new) ≡ cut_short at =
        sym (front-marked new (kept_of new) first) ∙ ap front_of kept ∙ front-begun old piece begun ∙ is in
        rw here tt;
  },
  kept,
)

keeps-more : {A : Type 0} (IsWanted : Bundle → A → Type 0) (bundle new : Unfinished) (left : List ℕ) (given : Given A) → IsOctets left → HasBegun bundle
    → Finds IsWanted (front_in bundle (kept_of bundle ++ left)) (length (kept_of bundle)) given → GoesOn bundle left new given
    → KeepsBegun (kept_of bundle ++ left) (Some new) given
keeps-more IsWanted bundle new left (Whole wanted used) fits begun finds ready = tt
keeps-more IsWanted bundle new left Part fits begun (at, is) ready = begun-more bundle new left at begun fits is ready
keeps-more IsWanted bundle new left (Refused at cause) fits begun finds ready = tt

-- where one has begun, its reader takes the octets
pub took-more : {A : Type 0} (IsWanted : Bundle → A → Type 0) (old : Standing) (bundle new : Unfinished) (left : List ℕ) (given : Given A)
    → old.unfinished ≡ Some bundle → IsSound old → IsOctets left
    → Takes IsWanted bundle left new given → Took IsWanted old left (with_unfinished old (Some new)) given
took-more IsWanted old bundle new left given is sound fits takes =
    let begun : HasBegun bundle = rw is at sound.begun in
    record {
      same = refl;
      finds = rw (is, front-begun bundle left begun) takes.finds;
      keeps = rw is (keeps-more IsWanted bundle new left given fits begun takes.finds takes.goes_on);
    }

pub took-more-of : {A : Type 0} (IsWanted : Bundle → A → Type 0) (old : Standing) (bundle new : Unfinished) (left : List ℕ) (result : Result (Given A) AllocError)
    → old.unfinished ≡ Some bundle → IsSound old → IsOctets left
    → IfOk result (Takes IsWanted bundle left new) → IfOk result (Took IsWanted old left (with_unfinished old (Some new)))
took-more-of IsWanted old bundle new left (Ok given) is sound fits takes = took-more IsWanted old bundle new left given is sound fits takes
took-more-of IsWanted old bundle new left (Err e) is sound fits takes = tt

-- where octets don't end the bundle
keeps-first : {A : Type 0} (IsWanted : Bundle → A → Type 0) (fresh new : Unfinished) (left : List ℕ) (given : Given A) → IsOctets left → 0 < length left
    → slice_index left 0 ≡ mark_of fresh → kept_of fresh ≡ []
    → Finds IsWanted (front_in fresh left) 0 given → GoesOn fresh left new given → KeepsBegun left (Some new) given
keeps-first IsWanted fresh new left (Whole wanted used) fits some mark none finds goes = tt
keeps-first IsWanted fresh new left Part fits some mark none (at, is) (ready, same, kept) =
    let all : kept_of new ≡ left = kept ∙ ap (λ (t : List ℕ). t ++ left) none in
    let first : slice_index (kept_of new) 0 ≡ mark_of new = ap (λ (t : List ℕ). slice_index t 0) all ∙ mark ∙ sym same in
    let here : front_in new (kept_of new) ≡ cut_short at =
    sym (front-marked new (kept_of new) first) ∙ ap front_of all ∙ front-marked fresh left mark ∙ is in (
      record {
        ready = ready;
        octets = rw all fits;
        some = omega (arith, some, ap length all);
        mark = first;
        cut = rw here tt;
      },
      all,
    )
keeps-first IsWanted fresh new left (Refused at cause) fits some mark none finds goes = tt

-- where none has begun, a reader that took nothing takes the octets, and is kept where they don't end the
-- bundle
pub took-first : {A : Type 0} (IsWanted : Bundle → A → Type 0) (old : Standing) (fresh new : Unfinished) (left : List ℕ) (given : Given A)
    → old.unfinished ≡ None → IsOctets left → 0 < length left → slice_index left 0 ≡ mark_of fresh → kept_of fresh ≡ []
    → Takes IsWanted fresh left new given → Took IsWanted old left (with_unfinished old (Some new)) given
took-first IsWanted old fresh new left given is fits some mark none takes =
    let finds : Finds IsWanted (front_in fresh left) 0 given = rw none at takes.finds in
    record {
      same = refl;
      finds = rw (is, front-marked fresh left mark) finds;
      keeps = rw is (keeps-first IsWanted fresh new left given fits some mark none finds takes.goes_on);
    }

-- which reader is kept of a bundle that has ended, or of none, makes no difference
pub took-settled : {A : Type 0} (IsWanted : Bundle → A → Type 0) (old new : Standing) (left : List ℕ) (unfinished : Option Unfinished) (given : Given A)
    → (given ≡ Part → ⊥) → Took IsWanted old left new given → Took IsWanted old left (with_unfinished old unfinished) given
took-settled IsWanted old new left unfinished (Whole wanted used) other took = record { same = refl; finds = took.finds; keeps = tt }
took-settled IsWanted old new left unfinished Part other took = absurd (other refl)
took-settled IsWanted old new left unfinished (Refused at cause) other took = record { same = refl; finds = took.finds; keeps = tt }

-- octets that begin no bundle of a known version
pub front-none : (left : List ℕ) → BeginsWith (slice_index left 0) None → front_of left ≡ refused 0 Version
unfolding front_of
front-none left other = rw (ne_eqb (slice_index left 0) 0x06 other.0, ne_eqb (slice_index left 0) 0x9F other.1) refl

pub took-none : {A : Type 0} (IsWanted : Bundle → A → Type 0) (old : Standing) (left : List ℕ) → old.unfinished ≡ None
    → BeginsWith (slice_index left 0) None → Took IsWanted old left old (Refused 0 Version)
took-none IsWanted old left is other = record {
  same = refl;
  finds = rw is (front-none left other);
  keeps = tt;
}
