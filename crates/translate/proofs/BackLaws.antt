-- Translation there and back.

use Rattle.std.proofs.Common.{◌≡◌, ℕ, ◌+◌, ◌-◌, ◌*◌, ◌%◌, ◌^◌, ◌<◌, ◌≤◌, Bool, true, false, ◌||◌, not, [], ◌∷◌, Option, Some, None, refl, sym, ap, ◌∙◌, arith}
use Rattle.std.proofs.lemmas.Bool.{and_parts, le-leb}
use Rattle.std.specs.List.{list_all}
use Rattle.bundle6.specs.declared.bundle.Bundle6.{Bundle6}
use Rattle.bundle7.specs.declared.bundle.Bundle7.{Bundle7}
use Rattle.bundle6.specs.Legal.{IsLegal}
use Rattle.bundle7.specs.Legal.{IsLegal7}
use Rattle.bundle_meaning.specs.Creation.{id6_of}
use Rattle.bundle_meaning.specs.Expiry.{lifetime6_of, slack_of}
use Rattle.translate.specs.declared.refused.Refused.{Refused}
use Rattle.translate.specs.declared.refused.Refused.TheVariants as causes
use Rattle.translate.specs.Refusals.{first_that_holds}
use Rattle.translate.specs.View6.{view6_of, fits6}
use Rattle.translate.specs.View7.{view7_of, fits7}
use Rattle.translate.specs.Reading6.{full6_of, shared6_of, is_late6, refusals6, is_wrap_legal6, are_apart6}
use Rattle.translate.specs.Reading7.{full7_of, shared7_of, refusals7}
use Rattle.translate.specs.Paired.{IsPaired}
use Rattle.translate.specs.Translation.{IsTranslatable6, IsTranslatable7, HasLifetime, ThereAndBack, LateIsRefused, SaysTheSame, there6, there7, norm6_of, norm7_of, to_new_refusal, to_old_refusal, norm6_refusal, norm7_refusal}
use Rattle.translate.proofs.RefusalLemmas.{front-none, some-stays, last-false}
use Rattle.translate.proofs.ReadLemmas.{read6-is, read7-is}
use Rattle.translate.proofs.FewLemmas.{few-view6, few-view7}
use Rattle.translate.proofs.Sound6Lemmas.{sound6, unrefused6}
use Rattle.translate.proofs.Sound7Lemmas.{sound7, unrefused7}
use Rattle.translate.proofs.View6Laws.{view6-reads, shared6-back, view6-no-custody, view6-clock, view6-lives}
use Rattle.translate.proofs.View7Laws.{view7-reads}

-- ---- what is read has room in its own version

pub fits-own6 : (b : Bundle6) → IsLegal b → first_that_holds (refusals6 b) ≡ None → fits6 (full6_of b) ≡ true
fits-own6 b legal none =
    let wraps = and_parts (list_all is_wrap_legal6 b.blocks) (are_apart6 b.blocks) (unrefused6 b none).wraps in
    le-leb _ 64 (omega (arith, few-view6 b wraps.0, legal.others_are_few))

pub fits-own7 : (b : Bundle7) → IsLegal7 b → first_that_holds (refusals7 b) ≡ None → fits7 (full7_of b) ≡ true
fits-own7 b legal none =
    le-leb _ 64 (omega (arith, few-view7 b (unrefused7 b none).wraps, legal.few))

pub unrefused-read6 : (b : Bundle6) → to_new_refusal b ≡ None → first_that_holds (refusals6 b) ≡ None
unrefused-read6 b none = front-none (refusals6 b) ((causes.TooManyBlocks, not (fits7 (full6_of b))) ∷ []) none

pub unrefused-read7 : (b : Bundle7) → to_old_refusal b ≡ None → first_that_holds (refusals7 b) ≡ None
unrefused-read7 b none = front-none (refusals7 b) ((causes.TooManyBlocks, not (fits6 (full7_of b))) ∷ []) none

pub unrefused-own6 : (b : Bundle6) → norm6_refusal b ≡ None → first_that_holds (refusals6 b) ≡ None
unrefused-own6 b none = front-none (refusals6 b) ((causes.TooManyBlocks, not (fits6 (full6_of b))) ∷ []) none

pub unrefused-own7 : (b : Bundle7) → norm7_refusal b ≡ None → first_that_holds (refusals7 b) ≡ None
unrefused-own7 b none = front-none (refusals7 b) ((causes.TooManyBlocks, not (fits7 (full7_of b))) ∷ []) none

-- the normal form is refused where reading is
own-by6 : (b : Bundle6) (first : Option Refused) → first_that_holds (refusals6 b) ≡ first → IsLegal b → norm6_refusal b ≡ first
own-by6 b (Some cause) is legal = some-stays (refusals6 b) ((causes.TooManyBlocks, not (fits6 (full6_of b))) ∷ []) cause is
own-by6 b None is legal = last-false (refusals6 b) causes.TooManyBlocks _ is (ap not (fits-own6 b legal is))

pub own-refusal6 : (b : Bundle6) → IsLegal b → norm6_refusal b ≡ first_that_holds (refusals6 b)
own-refusal6 b legal = own-by6 b (first_that_holds (refusals6 b)) refl legal

own-by7 : (b : Bundle7) (first : Option Refused) → first_that_holds (refusals7 b) ≡ first → IsLegal7 b → norm7_refusal b ≡ first
own-by7 b (Some cause) is legal = some-stays (refusals7 b) ((causes.TooManyBlocks, not (fits7 (full7_of b))) ∷ []) cause is
own-by7 b None is legal = last-false (refusals7 b) causes.TooManyBlocks _ is (ap not (fits-own7 b legal is))

pub own-refusal7 : (b : Bundle7) → IsLegal7 b → norm7_refusal b ≡ first_that_holds (refusals7 b)
own-refusal7 b legal = own-by7 b (first_that_holds (refusals7 b)) refl legal

-- ---- the lifetime in whole seconds

pub lifetime-fits : (b : Bundle7) → b.primary.lifetime + slack_of (full7_of b).shared < 2 ^ 64 → HasLifetime (full7_of b)
lifetime-fits b fits = omega (arith, fits)

-- ---- there and back

back6 : (b : Bundle6) → IsTranslatable6 b → (to_old_refusal (there6 b) ≡ None) × (there7 (there6 b) ≡ norm6_of b)
back6 b is =
    let none = unrefused-read6 b is.unrefused in
    let sound = sound6 b is.legal is.octets none in
    let reads = view7-reads (full6_of b) sound.valid in
    let same = read7-is (view7_of (full6_of b)) (full6_of b) reads in
    let room : not (fits6 (full7_of (there6 b))) ≡ false = ap (λ full. not (fits6 full)) same ∙ ap not (fits-own6 b is.legal none) in
    (last-false (refusals7 (there6 b)) causes.TooManyBlocks _ reads.unrefused room, ap view6_of same)

back7 : (b : Bundle7) → IsTranslatable7 b → (to_new_refusal (there7 b) ≡ None) × (there6 (there7 b) ≡ norm7_of b)
back7 b is =
    let none = unrefused-read7 b is.unrefused in
    let sound = sound7 b is.legal is.octets none in
    let reads = view6-reads (full7_of b) sound (lifetime-fits b is.lifetime) in
    let same = read6-is (view6_of (full7_of b)) (full7_of b) reads in
    let room : not (fits7 (full6_of (there7 b))) ≡ false = ap (λ full. not (fits7 full)) same ∙ ap not (fits-own7 b is.legal none) in
    (last-false (refusals6 (there7 b)) causes.TooManyBlocks _ reads.unrefused room, ap view7_of same)

pub there_and_back : ThereAndBack
there_and_back = (back6, back7)

-- ---- a lifetime that is lengthened too far

or-second : (p q : Bool) → q ≡ true → (p || q) ≡ true
or-second true q is = refl
or-second false q is = is

-- from the creation on, in milliseconds
abbrev lengthened : Bundle7 → ℕ
lengthened b = 1000 * lifetime6_of (full7_of b).shared - (id6_of b.primary.millis b.primary.sequence).sequence % 1000

lengthened-large : (b : Bundle7) → 2 ^ 64 ≤ b.primary.lifetime + slack_of (full7_of b).shared → 2 ^ 64 ≤ lengthened b
lengthened-large b large = omega (arith, large)

view6-late : (b : Bundle7) → 2 ^ 64 ≤ b.primary.lifetime + slack_of (full7_of b).shared → is_late6 (there7 b) ≡ true
view6-late b large = or-second _ _ (le-leb (2 ^ 64) (lengthened b) (lengthened-large b large))

pub late_is_refused : LateIsRefused
late_is_refused b legal octets none large =
    let full = full7_of b in
    let valid = (sound7 b legal octets (unrefused-read7 b none)).valid in
    rw (view6-no-custody full valid, view6-clock full valid, view6-lives full valid, view6-late b large) refl

-- ---- what is kept

-- bundles whose records share all that both versions say
paired : (old : Bundle6) (new : Bundle7) → shared7_of new ≡ shared6_of old → IsPaired old new
paired old new same = record {
  destination = ap (λ s. s.destination) same;
  source = ap (λ s. s.source) same;
  report_to = ap (λ s. s.report_to) same;
  millis = ap (λ s. s.millis) same;
  sequence = ap (λ s. s.sequence) same;
  expiry = ap (λ s. s.expiry) same;
  fragment = ap (λ s. s.fragment) same;
  flags = ap (λ s. s.flags) same;
  payload = ap (λ s. s.content) same;
}

says6 : (b : Bundle6) → IsTranslatable6 b → IsPaired b (there6 b) × IsPaired (norm6_of b) (there6 b)
says6 b is =
    let sound = sound6 b is.legal is.octets (unrefused-read6 b is.unrefused) in
    let there = sym (view7-reads (full6_of b) sound.valid).shared in
    (paired b (there6 b) there, paired (norm6_of b) (there6 b) (there ∙ sym (shared6-back (full6_of b) sound)))

says7 : (b : Bundle7) → IsTranslatable7 b → IsPaired (there7 b) b × IsPaired (there7 b) (norm7_of b)
says7 b is =
    let sound = sound7 b is.legal is.octets (unrefused-read7 b is.unrefused) in
    let back = sym (shared6-back (full7_of b) sound) in
    let norm = sym (view7-reads (full7_of b) sound.valid).shared in
    (paired (there7 b) b back, paired (there7 b) (norm7_of b) (norm ∙ back))

pub says_the_same : SaysTheSame
says_the_same = (says6, says7)
