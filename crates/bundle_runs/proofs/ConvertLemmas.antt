-- What `convert` says of a bundle, by what the translation answered.
use Rattle.std.proofs.Common.{◌≡◌, ℕ, Bool, true, false, not, if◌then◌else◌, List, [], ◌∷◌, ◌++◌, Option, Some, None, Result, Ok, Err, refl, sym, ◌∙◌, ap, subst}
use Rattle.std.proofs.lemmas.List.{append-nil}
use Rattle.bundle6.specs.declared.bundle.Bundle6.{Bundle6}
use Rattle.bundle6.specs.Spelling.{canon6}
use Rattle.bundle7.specs.declared.bundle.Bundle7.{Bundle7}
use Rattle.bundle7.specs.Spelling.{octets7}
use Rattle.translate.specs.declared.refused.Refused.{Refused}
use Rattle.translate.specs.declared.refused.Refused.TheVariants as causes
use Rattle.bundle_meaning.specs.declared.full.Full.{Full}
use Rattle.translate.specs.Answers.{Translates}
use Rattle.translate.specs.Refusals.{first_that_holds}
use Rattle.translate.specs.Reading6.{refusals6, full6_of}
use Rattle.translate.specs.Reading7.{refusals7, full7_of}
use Rattle.translate.specs.View6.{fits6}
use Rattle.translate.specs.View7.{fits7}
use Rattle.translate.proofs.RefusalLemmas.{rest-left, some-stays}
use Rattle.translate.specs.Translation.{to_new_refusal, to_old_refusal, there6, there7}
use Rattle.fragment_lines.specs.declared.turned_down.TurnedDown.{TurnedDown}
use Rattle.fragment_lines.specs.declared.turned_down.TurnedDown.TheVariants.{Untranslated}
use Rattle.fragment_lines.specs.Said.{Said, says}
use Rattle.fragment_lines.specs.Lines.{hex_line, spelled_old, spelled_new, unless_refused, Owes, Writes}
use Rattle.bundle_runs.specs.Answering.{leaving}
use Rattle.bundle_runs.specs.Convert.{converted6, converted7, said_octets}

refusal-is : {A : Type 0} (first : Option Refused) (value : A) (cause : Refused) → Translates first value (Err cause)
    → (cause ≡ causes.Memory → ⊥) → first ≡ Some cause
refusal-is first value causes.CustodyAsked is other = is
refusal-is first value causes.Clockless is other = is
refusal-is first value causes.LifetimeZero is other = is
refusal-is first value causes.TimeTooLarge is other = is
refusal-is first value causes.SequenceTooLarge is other = is
refusal-is first value causes.PayloadRefs is other = is
refusal-is first value causes.AdminFragment is other = is
refusal-is first value causes.CustodySignal is other = is
refusal-is first value causes.CustodyReport is other = is
refusal-is first value causes.AdminUnknown is other = is
refusal-is first value causes.BadAdmin is other = is
refusal-is first value causes.ResidueBad is other = is
refusal-is first value causes.WrapBad is other = is
refusal-is first value causes.TooManyBlocks is other = is
refusal-is first value causes.Memory is other = absurd (other refl)

pub owed-new : (b : Bundle6) (made : Bundle7) (octets due : List ℕ) → Translates (to_new_refusal b) (there6 b) (Ok made)
    → octets ≡ octets7 made → due ≡ hex_line octets → Owes (converted6 b) tt (Ok due)
unfolding converted6
owed-new b made octets due (none, is) spelled line =
    ap (λ (r : Option Refused). unless_refused r (says (hex_line (octets7 (there6 b))) tt)) none
    ∙ ap (λ (t : List ℕ). says t (tt {0})) (sym (line ∙ ap hex_line (spelled ∙ ap octets7 is)))

pub owed-old : (b : Bundle7) (made : Bundle6) (octets due : List ℕ) → Translates (to_old_refusal b) (there7 b) (Ok made)
    → octets ≡ canon6 made → due ≡ hex_line octets → Owes (converted7 b) tt (Ok due)
unfolding converted7
owed-old b made octets due (none, is) spelled line =
    ap (λ (r : Option Refused). unless_refused r (says (hex_line (canon6 (there7 b))) tt)) none
    ∙ ap (λ (t : List ℕ). says t (tt {0})) (sym (line ∙ ap hex_line (spelled ∙ ap canon6 is)))

pub refused-new : (b : Bundle6) (cause : Refused) → Translates (to_new_refusal b) (there6 b) (Err cause)
    → (cause ≡ causes.Memory → ⊥) → Owes (converted6 b) tt (Err (Untranslated cause))
unfolding converted6
refused-new b cause is other =
    ap (λ (r : Option Refused). unless_refused r (says (hex_line (octets7 (there6 b))) tt)) (refusal-is (to_new_refusal b) (there6 b) cause is other)

pub refused-old : (b : Bundle7) (cause : Refused) → Translates (to_old_refusal b) (there7 b) (Err cause)
    → (cause ≡ causes.Memory → ⊥) → Owes (converted7 b) tt (Err (Untranslated cause))
unfolding converted7
refused-old b cause is other =
    ap (λ (r : Option Refused). unless_refused r (says (hex_line (canon6 (there7 b))) tt)) (refusal-is (to_old_refusal b) (there7 b) cause is other)

-- ---- by the record

-- where a bundle of version 6 reads as a record, all is said of that
said-by : (t : Bool) (octets : List ℕ)
    → unless_refused (first_that_holds ((causes.TooManyBlocks, not t) ∷ [])) (says (hex_line octets) (tt {0})) ≡ said_octets (if t then Some octets else None)
said-by true octets = refl
said-by false octets = refl

converted-new : (b : Bundle6) → first_that_holds (refusals6 b) ≡ None → converted6 b ≡ said_octets (spelled_new (full6_of b))
unfolding converted6
converted-new b none =
    ap (λ (r : Option Refused). unless_refused r (says (hex_line (octets7 (there6 b))) tt))
    (rest-left (refusals6 b) ((causes.TooManyBlocks, not (fits7 (full6_of b))) ∷ []) none)
    ∙ said-by (fits7 (full6_of b)) (octets7 (there6 b))

pub owed-by-new : (b : Bundle6) (full : Full) (octets : Option (List ℕ)) (owed : Result (List ℕ) TurnedDown)
    → Translates (first_that_holds (refusals6 b)) (full6_of b) (Ok full) → octets ≡ spelled_new full → Owes (said_octets octets) tt owed
    → Owes (converted6 b) tt owed
owed-by-new b full octets owed (none, is) spelled owes =
    subst (λ (s : Said (Unit {0})). Owes s tt owed)
    (ap said_octets (spelled ∙ ap spelled_new is) ∙ sym (converted-new b none)) owes

pub unread-new : (b : Bundle6) (cause : Refused) → Translates (first_that_holds (refusals6 b)) (full6_of b) (Err cause)
    → (cause ≡ causes.Memory → ⊥) → Owes (converted6 b) tt (Err (Untranslated cause))
unfolding converted6
unread-new b cause is other =
    ap (λ (r : Option Refused). unless_refused r (says (hex_line (octets7 (there6 b))) tt))
    (some-stays (refusals6 b) ((causes.TooManyBlocks, not (fits7 (full6_of b))) ∷ []) cause
    (refusal-is (first_that_holds (refusals6 b)) (full6_of b) cause is other))

-- where a bundle of version 7 reads as a record, all is said of that
converted-old : (b : Bundle7) → first_that_holds (refusals7 b) ≡ None → converted7 b ≡ said_octets (spelled_old (full7_of b))
unfolding converted7
converted-old b none =
    ap (λ (r : Option Refused). unless_refused r (says (hex_line (canon6 (there7 b))) tt))
    (rest-left (refusals7 b) ((causes.TooManyBlocks, not (fits6 (full7_of b))) ∷ []) none)
    ∙ said-by (fits6 (full7_of b)) (canon6 (there7 b))

pub owed-by-old : (b : Bundle7) (full : Full) (octets : Option (List ℕ)) (owed : Result (List ℕ) TurnedDown)
    → Translates (first_that_holds (refusals7 b)) (full7_of b) (Ok full) → octets ≡ spelled_old full → Owes (said_octets octets) tt owed
    → Owes (converted7 b) tt owed
owed-by-old b full octets owed (none, is) spelled owes =
    subst (λ (s : Said (Unit {0})). Owes s tt owed)
    (ap said_octets (spelled ∙ ap spelled_old is) ∙ sym (converted-old b none)) owes

pub unread-old : (b : Bundle7) (cause : Refused) → Translates (first_that_holds (refusals7 b)) (full7_of b) (Err cause)
    → (cause ≡ causes.Memory → ⊥) → Owes (converted7 b) tt (Err (Untranslated cause))
unfolding converted7
unread-old b cause is other =
    ap (λ (r : Option Refused). unless_refused r (says (hex_line (canon6 (there7 b))) tt))
    (some-stays (refusals7 b) ((causes.TooManyBlocks, not (fits6 (full7_of b))) ∷ []) cause
    (refusal-is (first_that_holds (refusals7 b)) (full7_of b) cause is other))

-- ---- a command that looks at nothing but the bundle leaves the state

pub leaving-writes : {S : Type 0} (state : S) (said : Said (Unit {0})) (text : List ℕ) (owed : Result (List ℕ) TurnedDown)
    → Owes said tt owed → Writes (leaving state said) text text state owed
leaving-writes state said text (Ok due) is = ([], ap (leaving state) is, sym (append-nil text))
leaving-writes state said text (Err cause) is = (ap (leaving state) is, refl)

-- and one that tells nothing later has written all
pub says-written : {S : Type 0} (state : S) (line before now : List ℕ) → now ≡ before ++ line → Writes (says line state) before now state (Ok [])
says-written state line before now added = (line, ap (λ (t : List ℕ). says t state) (sym (append-nil line)), added)
