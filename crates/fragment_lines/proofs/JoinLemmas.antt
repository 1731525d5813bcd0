-- What `join` writes of a bundle.
use Rattle.std.proofs.Common.{◌≡◌, ℕ, false, List, ◌++◌, length, codes, Option, Some, None, Result, Ok, Err, IfOk, OnOk, sym, ◌∙◌, ap, subst}
use Rattle.endpoint.specs.declared.extent.Fragment.{Fragment}
use Rattle.bundle6.specs.declared.bundle.Bundle6.{Bundle6}
use Rattle.bundle7.specs.declared.bundle.Bundle7.{Bundle7}
use Rattle.bundle_meaning.specs.declared.full.Full.{Full}
use Rattle.translate.specs.declared.refused.Refused.{Refused}
use Rattle.translate.specs.Refusals.{first_that_holds}
use Rattle.translate.specs.Reading6.{refusals6, full6_of}
use Rattle.translate.specs.Reading7.{refusals7, full7_of}
use Rattle.fragments.specs.declared.fault.JoinRefused.{JoinRefused}
use Rattle.fragments.specs.declared.join.Join.{Join}
use Rattle.fragments.specs.declared.joining.Joined.{Joined}
use Rattle.fragments.specs.declared.joining.Joined.TheVariants as answers
use Rattle.fragments.specs.Joining.{Joining, accepted_as, open_total}
use Rattle.fragments.specs.Again.{answer, answer_at, after, after_at}
use Rattle.fragment_lines.specs.declared.joining.Answer.{Answer}
use Rattle.fragment_lines.specs.declared.joining.Answer.TheVariants.{Word, Whole}
use Rattle.fragment_lines.specs.declared.turned_down.TurnedDown.{TurnedDown}
use Rattle.fragment_lines.specs.declared.turned_down.TurnedDown.TheVariants.{Untranslated}
use Rattle.fragment_lines.specs.Said.{Said, says}
use Rattle.fragment_lines.specs.Lines.{spelled_old, spelled_new, unless_refused, Writes}
use Rattle.fragment_lines.specs.Joins.{join6, join7, said_whole, said_joined, taken_as, no_fragment_line}
use Rattle.fragment_lines.specs.Writable.{Reads, Tells, said_answer}
use Rattle.fragment_lines.proofs.ReadLemmas.{said-read, said-unread}

-- what is told of an answer has its line
tells-said : {S : Type 0} (spelled : Full → Option (List ℕ)) (given : Result Joined JoinRefused) (said : Answer) (now : S)
    → Tells given said → said_joined spelled given now ≡ said_answer spelled said now
tells-said spelled (Ok answers.Waiting) (Word word) now is = ap (λ w. says (w ++ codes "\n") now) (sym is)
tells-said spelled (Ok answers.Repeat) (Word word) now is = ap (λ w. says (w ++ codes "\n") now) (sym is)
tells-said spelled (Ok (answers.Whole whole)) (Whole same) now (is, small) = ap (λ f. said_whole (spelled f) now) (sym is)
tells-said spelled (Err refused) (Word word) now (other, is) = ap (λ w. says (w ++ codes "\n") now) (sym is)
tells-said spelled (Ok answers.Waiting) (Whole whole) now tells = absurd tells
tells-said spelled (Ok answers.Repeat) (Whole whole) now tells = absurd tells
tells-said spelled (Ok (answers.Whole whole)) (Word word) now tells = absurd tells
tells-said spelled (Err refused) (Whole whole) now tells = absurd tells

-- it is written of the record, and so of the bundle that reads as it
said-taken : (spelled : Full → Option (List ℕ)) (first : Option Refused) (value full : Full) (joins : List Join) (said : Answer) (new : Joining)
    (before now : List ℕ) (written : Result (List ℕ) TurnedDown) → first ≡ None → full ≡ value → Tells (answer joins full) said
    → new ≡ record { joins = after joins full; spent = false }
    → ((state : List Join) → Writes (said_answer spelled said state) before now state written)
    → Writes (unless_refused first (taken_as spelled joins value)) before now new.joins written
said-taken spelled first value full joins said new before now written none is tells kept writes =
    let own : Writes (taken_as spelled joins full) before now (after joins full) written =
    subst (λ (s : Said (List Join)). Writes s before now (after joins full) written)
    (sym (tells-said spelled (answer joins full) said (after joins full) tells)) (writes (after joins full)) in
    let state : Writes (taken_as spelled joins full) before now new.joins written =
    subst (λ (j : Joining). Writes (taken_as spelled joins full) before now j.joins written) (sym kept) own in
    said-read first (taken_as spelled joins) full value before now new.joins written none is state

pub join-read6 : {E : Type 0} (joins : List Join) (b : Bundle6) (full : Full) (said : Answer) (new : Joining) (before now : List ℕ)
    (result : Result (Result (List ℕ) TurnedDown) E)
    → Reads (first_that_holds (refusals6 b)) (full6_of b) (Ok full) → Tells (answer joins full) said
    → new ≡ record { joins = after joins full; spent = false }
    → IfOk result (λ written. (state : List Join) → Writes (said_answer spelled_old said state) before now state written)
    → IfOk result (Writes (join6 joins b) before now new.joins)
unfolding join6
join-read6 joins b full said new before now (Ok written) (none, is) tells kept writes =
    said-taken spelled_old (first_that_holds (refusals6 b)) (full6_of b) full joins said new before now written none is tells kept writes
join-read6 joins b full said new before now (Err e) reads tells kept writes = tt

pub join-read7 : {E : Type 0} (joins : List Join) (b : Bundle7) (full : Full) (said : Answer) (new : Joining) (before now : List ℕ)
    (result : Result (Result (List ℕ) TurnedDown) E)
    → Reads (first_that_holds (refusals7 b)) (full7_of b) (Ok full) → Tells (answer joins full) said
    → new ≡ record { joins = after joins full; spent = false }
    → IfOk result (λ written. (state : List Join) → Writes (said_answer spelled_new said state) before now state written)
    → IfOk result (Writes (join7 joins b) before now new.joins)
unfolding join7
join-read7 joins b full said new before now (Ok written) (none, is) tells kept writes =
    said-taken spelled_new (first_that_holds (refusals7 b)) (full7_of b) full joins said new before now written none is tells kept writes
join-read7 joins b full said new before now (Err e) reads tells kept writes = tt

pub join-unread6 : (joins : List Join) (b : Bundle6) (text : List ℕ) (cause : Refused)
    → Reads (first_that_holds (refusals6 b)) (full6_of b) (Err cause) → Writes (join6 joins b) text text joins (Err (Untranslated cause))
unfolding join6
join-unread6 joins b text cause is =
    said-unread (first_that_holds (refusals6 b)) (taken_as spelled_old joins (full6_of b)) text joins cause is

pub join-unread7 : (joins : List Join) (b : Bundle7) (text : List ℕ) (cause : Refused)
    → Reads (first_that_holds (refusals7 b)) (full7_of b) (Err cause) → Writes (join7 joins b) text text joins (Err (Untranslated cause))
unfolding join7
join-unread7 joins b text cause is =
    said-unread (first_that_holds (refusals7 b)) (taken_as spelled_new joins (full7_of b)) text joins cause is

-- whatever is written then, the record was taken
pub took-read : {A E : Type 0} (result : Result A E) (first : Option Refused) (value full : Full) (joins : List Join) (new : Joining)
    → Reads first value (Ok full) → new ≡ record { joins = after joins full; spent = false }
    → OnOk result (first ≡ None → new.joins ≡ after joins value)
took-read (Ok x) first value full joins new (none, is) kept = λ reads. ap (λ (j : Joining). j.joins) kept ∙ ap (after joins) is
took-read (Err e) first value full joins new (none, is) kept = tt

-- a bundle that doesn't read has no record
pub unread-none : {P : Type 0} (first : Option Refused) (cause : Refused) → first ≡ Some cause → first ≡ None → P
unread-none first cause is none = absurd (cc)

-- ---- a bundle that is no fragment

-- whatever came before, a record that is no fragment has the line that says so, and the joins are left
none-taken : (spelled : Full → Option (List ℕ)) (joins : List Join) (full : Full) → full.shared.fragment ≡ None
    → taken_as spelled joins full ≡ says no_fragment_line joins
none-taken spelled joins full none =
    ap (λ (a : Result Fragment JoinRefused). said_joined spelled (answer_at joins full a) (after_at joins full a))
    (ap (λ (p : Option Fragment). accepted_as p (length joins) (open_total full.shared joins)) none)

-- so it is written of the bundle
said-none : (spelled : Full → Option (List ℕ)) (first : Option Refused) (joins : List Join) (full : Full) (before now : List ℕ)
    (written : Result (List ℕ) TurnedDown) → full.shared.fragment ≡ None
    → Writes (unless_refused first (says no_fragment_line joins)) before now joins written
    → Writes (unless_refused first (taken_as spelled joins full)) before now joins written
said-none spelled first joins full before now written none writes =
    subst (λ (s : Said (List Join)). Writes (unless_refused first s) before now joins written)
    (sym (none-taken spelled joins full none)) writes

pub join-none6 : {E : Type 0} (joins : List Join) (b : Bundle6) (first : Option Refused) (before now : List ℕ)
    (result : Result (Result (List ℕ) TurnedDown) E) → b.primary.fragment ≡ None → first ≡ first_that_holds (refusals6 b)
    → IfOk result (λ written. (state : List Join) → Writes (unless_refused first (says no_fragment_line state)) before now state written)
    → IfOk result (Writes (join6 joins b) before now joins)
unfolding join6
join-none6 joins b first before now (Ok written) none is writes =
    said-none spelled_old (first_that_holds (refusals6 b)) joins (full6_of b) before now written none
    (subst (λ (f : Option Refused). Writes (unless_refused f (says no_fragment_line joins)) before now joins written) is (writes joins))
join-none6 joins b first before now (Err e) none is writes = tt

pub join-none7 : {E : Type 0} (joins : List Join) (b : Bundle7) (first : Option Refused) (before now : List ℕ)
    (result : Result (Result (List ℕ) TurnedDown) E) → b.primary.fragment ≡ None → first ≡ first_that_holds (refusals7 b)
    → IfOk result (λ written. (state : List Join) → Writes (unless_refused first (says no_fragment_line state)) before now state written)
    → IfOk result (Writes (join7 joins b) before now joins)
unfolding join7
join-none7 joins b first before now (Ok written) none is writes =
    said-none spelled_new (first_that_holds (refusals7 b)) joins (full7_of b) before now written none
    (subst (λ (f : Option Refused). Writes (unless_refused f (says no_fragment_line joins)) before now joins written) is (writes joins))
join-none7 joins b first before now (Err e) none is writes = tt
