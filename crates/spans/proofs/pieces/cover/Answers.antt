use Rattle.std.proofs.Common.{◌<◌, List, [], length, get_or, subst, refl, sym, ◌∙◌, Result, Ok, Err, OnErr}
use Rattle.std.proofs.lemmas.Bool.{false≢true}
use Rattle.spans.specs.declared.range.Run.{Run}
use Rattle.spans.specs.Chunks.{before, from_there}
use Rattle.spans.specs.Runs.{AreApart, EndBefore, FirstReaches, BeginsBy}
use Rattle.spans.proofs.Covering.{Covers-added, Covers-widened, IsApartFrom-here, FirstBeginsAfter-not}
use Rattle.spans.proofs.Joined.{joined-place}
use Rattle.spans.proofs.Split.{BeginsBy-within}
use Rattle.spans.proofs.pieces.cover.Goals as goal

pub widen-requires-clause-within : goal.widen-requires-clause-within
widen-requires-clause-within c =
    let begins = c.if-begins_by.ensures.0 refl in
    let within = BeginsBy-within c.deref-2.result.now c.reaching-place.result.chunk c.reaching-place.result.at c.args.to begins in
    subst (λ (xs : List (List Run)). c.reaching-place.result.chunk < length xs) c.deref-2.ensures.value within

pub widen-requires-clause-at : goal.widen-requires-clause-at
widen-requires-clause-at c =
    let begins = c.if-begins_by.ensures.0 refl in
    let within = BeginsBy-within c.deref-2.result.now c.reaching-place.result.chunk c.reaching-place.result.at c.args.to begins in
    let same = c.deref-2.ensures.value ∙ sym c.deref.ensures.value in
    let at = c.reaching-place.ensures.at (subst (λ (xs : List (List Run)). c.reaching-place.result.chunk < length xs) same within) in
    subst (λ (xs : List (List Run)). c.reaching-place.result.at < length (get_or xs c.reaching-place.result.chunk [])) c.deref.ensures.value at

pub returns-then-begins_by-clause-ok : goal.returns-then-begins_by-clause-ok
returns-then-begins_by-clause-ok c =
    let chunks = c.args.chunks.now.items in
    let p = c.reaching-place.result in
    let place = joined-place chunks p.chunk p.at in
    let apart = subst (λ (xs : List Run). AreApart 0 xs) place c.requires.apart in
    let ends = subst (λ (xs : List (List Run)). EndBefore c.args.from (before xs p.chunk p.at)) c.deref.ensures.value c.reaching-place.ensures.before in
    let reaches = subst (λ (xs : List (List Run)). FirstReaches c.args.from (from_there xs p.chunk p.at)) c.deref.ensures.value c.reaching-place.ensures.reached in
    let begins = subst (λ (xs : List (List Run)). BeginsBy c.args.to (from_there xs p.chunk p.at)) c.deref-2.ensures.value (c.if-begins_by.ensures.0 refl) in
    let covers = Covers-widened c.args.from c.args.to (before chunks p.chunk p.at) (from_there chunks p.chunk p.at) c.requires.some apart ends reaches begins in
    rw (place, c.widen.ensures.runs, c.widen.ensures.added) covers

always : {T E P : Type 0} (r : Result T E) → P → OnErr r P
always (Ok x) p = tt
always (Err e) p = p

pub returns-in_err-add-clause-refused : goal.returns-in_err-add-clause-refused
returns-in_err-add-clause-refused c =
    let chunks = c.args.chunks.now.items in
    let p = c.reaching-place.result in
    let place = joined-place chunks p.chunk p.at in
    let apart = subst (λ (xs : List Run). AreApart 0 xs) place c.requires.apart in
    let ends = subst (λ (xs : List (List Run)). EndBefore c.args.from (before xs p.chunk p.at)) c.deref.ensures.value c.reaching-place.ensures.before in
    let begins = FirstBeginsAfter-not c.args.to (from_there chunks p.chunk p.at)
    (λ h. false≢true (c.if-begins_by.ensures.1 (subst (λ (xs : List (List Run)). BeginsBy c.args.to (from_there xs p.chunk p.at)) (sym c.deref-2.ensures.value) h))) in
    let none = IsApartFrom-here c.args.from c.args.to (before chunks p.chunk p.at) (from_there chunks p.chunk p.at) c.requires.some apart ends begins in
    always c.from_residual.result (rw place none)

pub returns-clause-ok : goal.returns-clause-ok
returns-clause-ok c =
    let chunks = c.args.chunks.now.items in
    let p = c.reaching-place.result in
    let place = joined-place chunks p.chunk p.at in
    let apart = subst (λ (xs : List Run). AreApart 0 xs) place c.requires.apart in
    let ends = subst (λ (xs : List (List Run)). EndBefore c.args.from (before xs p.chunk p.at)) c.deref.ensures.value c.reaching-place.ensures.before in
    let begins = FirstBeginsAfter-not c.args.to (from_there chunks p.chunk p.at)
    (λ h. false≢true (c.if-begins_by.ensures.1 (subst (λ (xs : List (List Run)). BeginsBy c.args.to (from_there xs p.chunk p.at)) (sym c.deref-2.ensures.value) h))) in
    let covers = Covers-added c.args.from c.args.to (before chunks p.chunk p.at) (from_there chunks p.chunk p.at) c.requires.some apart ends begins in
    rw (place, c.in_ok-add.ensures.ok) covers
