-- A step of a judge: what it refuses, and octets of a body.

use Rattle.std.proofs.Common.{◌≡◌, ℕ, ◌+◌, ◌-◌, ◌<◌, ◌≤◌, leb, ◌&&◌, Bool, true, false, List, [], ◌++◌, length, take, drop, Result, Ok, Err, IsErrAnd, inl, inr, refl, sym, ap, ◌∙◌, subst, arith, append-nil}
use Rattle.std.proofs.lemmas.Bool.{cases_lt, le-leb}
use Rattle.std.proofs.lemmas.List.{length-drop, take_all}
use Rattle.wire_fields.specs.Refusal.{Stop, because}
use Rattle.wire_fields.specs.Reading.{read, IsOctets}
use Rattle.wire_fields.proofs.ReadLemmas.{read-refused}
use Rattle.wire_fields.proofs.StayLemmas.{refusal-within}
use Rattle.wire_fields.proofs.JudgeLemmas.{judged-err}
use Rattle.bundle7.specs.declared.fault.Cause7.{Cause7}
use Rattle.bundle7.specs.declared.fault.Cause7.TheVariants as causes
use Rattle.bundle7.specs.declared.fault.Refused7.{Refused7}
use Rattle.bundle7.specs.declared.fault.Fail7.{Fail7}
use Rattle.bundle7.specs.declared.fault.Fail7.TheVariants.{Refused, Memory}
use Rattle.bundle7.specs.declared.pass.Front.{Front}
use Rattle.bundle7.specs.Table.{is_single, bundle}
use Rattle.bundle7.specs.Judging.{judged_bundle}
use Rattle.bundle7.specs.Passing.{between, blocks_left}
use Rattle.bundle7.specs.Streaming.{IsOpen}
use Rattle.bundle7.proofs.KeepingLemmas.{bundle-keeps}
use Rattle.bundle7.proofs.PassLemmas.{body-continues, body-fails}
use Rattle.bundle_judges.specs.declared.sum7.Sum.{Sum}
use Rattle.bundle_judges.specs.declared.stand7.Small.TheVariants.{Check}
use Rattle.bundle_judges.specs.declared.stand7.Stage.{Stage}
use Rattle.bundle_judges.specs.declared.stand7.Stage.TheVariants.{Primary, Field, Body}
use Rattle.bundle_judges.specs.declared.stand7.Step.{Step}
use Rattle.bundle_judges.specs.declared.stand7.Step.TheVariants.{After, Waits, Ended}
use Rattle.bundle_judges.specs.declared.stand7.Stand.{Stand}
use Rattle.bundle_judges.specs.Sum7.{with_octets}
use Rattle.bundle_judges.specs.Field7.{left_for}
use Rattle.bundle_judges.specs.Stand7.{Keeps, IsAt, Fails7, steps_left, Moves, Stays, entered, Steps}
use Rattle.bundle_judges.proofs.SumLemmas7.{sum-more}
use Rattle.bundle_judges.proofs.FieldLemmas7.{body-there, body-never}
use Rattle.bundle_judges.proofs.StandLemmas7.{moves-checked}

-- ---- refusals

pub bundle-err : (text : List ℕ) (e : ℕ × Stop Cause7) → read (judged_bundle 64) text 0 ≡ Err e → read (bundle 64) text 0 ≡ Err e
bundle-err text e is = judged-err (λ s. s) _ _ e ((bundle-keeps 64).reads text 0 ∙ is)

pub fails-here : (text : List ℕ) (s : Stand) (e : ℕ × Stop Cause7) (stands : IsAt text s)
    → read (left_for s.part s.seen stands.start s.stage) text s.at ≡ Err e → read (judged_bundle 64) text 0 ≡ Err e
fails-here text s e stands is =
    subst (λ t. read (judged_bundle 64) t 0 ≡ read (left_for s.part s.seen stands.start s.stage) t s.at) (append-nil text) (stands.goes_on []) ∙ is

pub fails-inside : (text : List ℕ) (s : Stand) (at : ℕ) (cause : Cause7) → IsOctets text → Fails7 text s (Refused at cause) → at ≤ length text
fails-inside text s at cause fits is =
    refusal-within (judged_bundle 64) text at (because cause) (read-refused (judged_bundle 64) text 0 at (because cause) fits (omega arith) is)

-- what a refusal becomes
pub refused-same : (text : List ℕ) (s : Stand) (fail : Fail7) (refused : Refused7) {at : ℕ} {cause : Cause7}
    → fail ≡ Refused refused.at refused.cause → refused ≡ record { at = at; cause = cause } → Fails7 text s (Refused at cause) → Fails7 text s fail
refused-same text s fail refused is same fails = rw (is, same) fails

-- ---- the octets of a body

abbrev pub body_on : Stand → ℕ → Stage → Stand
body_on s came stage = record {
  before = s.before;
  came = came;
  at = s.at;
  stage = stage;
  seen = s.seen;
  part = s.part;
  main = s.main;
  head = s.head;
}

module _ (text rest : List ℕ) (s : Stand) (front : Front) (sum : Sum) (stands : IsAt text s) (stage : s.stage ≡ Body front sum)
    (is : rest ≡ drop s.came text) where
  pub body-keeps : Keeps text stands.start s (Body front sum)
  body-keeps = rw stage at stands.keeps

  rest-long : length rest ≡ length text - s.came
  rest-long = ap length is ∙ length-drop s.came text

  left-here : (more : List ℕ) → read (judged_bundle 64) (text ++ more) 0 ≡ read (left_for s.part s.seen stands.start (Body front sum)) (text ++ more) s.at
  left-here more = stands.goes_on more ∙ ap (λ g. read (left_for s.part s.seen stands.start g) (text ++ more) s.at) stage

  pub body-waits : length rest < front.size - (s.came - s.at) → Stays text s (body_on s (s.came + length rest) (Body front (with_octets sum rest)))
  unfolding left_for
  body-waits short =
      let keeps = body-keeps in
      let all : s.came + length rest ≡ length text = omega (arith, rest-long, stands.within) in
      let spot : s.came + length rest - s.came ≡ length rest = omega arith in
      let octets : rest ≡ between s.came (s.came + length rest) text =
      sym (take_all (length rest) rest (omega arith)) ∙ ap (take (length rest)) is ∙ ap (λ n. take n (drop s.came text)) (sym spot) in
      record {
        come = record {
          stands = record {
            octets = stands.octets;
            within = omega (arith, all);
            place = omega (arith, stands.place);
            few = stands.few;
            each = stands.each;
            start = stands.start;
            order = stands.order;
            goes_on = left-here;
            keeps = (
              keeps.0,
              keeps.1,
              omega (arith, short, keeps.2, stands.place),
              keeps.3,
              sum-more front.lead.crc text rest stands.start s.came (s.came + length rest) sum (omega (arith, stands.order, stands.place)) (omega arith)
                  octets keeps.4,
            );
          };
          all = all;
          inside = omega (arith, short, keeps.2, stands.place);
        };
        before = refl;
      }

  module _ (left : ℕ) (size : left ≡ front.size - (s.came - s.at)) (there : left ≤ length rest) where
    body-end : s.at + front.size ≡ s.came + left
    body-end = omega (arith, size, body-keeps.2, stands.place)

    body-inside : s.at + front.size ≤ length text
    body-inside = omega (arith, body-end, there, rest-long, stands.within)

    too-long : is_single front.lead.kind ≡ true → 1050 < front.size
    too-long single = by (is_single front.lead.kind) (leb front.size 1050) refl single body-keeps.3
      where
        by : (a b : Bool) → leb front.size 1050 ≡ b → a ≡ true → (a && b) ≡ false → 1050 < front.size
        by true true is one never = absurd (cc)
        by true false is one never =
            elim (cases_lt 1050 front.size) [
              | inl low ↦ low
              | inr high ↦ let yes : leb front.size 1050 ≡ true = le-leb front.size 1050 high in absurd (cc)
            ]
        by false b is one never = absurd (cc)

    pub body-refused : is_single front.lead.kind ≡ true → Fails7 text s (Refused s.at causes.ExtensionBody)
    unfolding left_for
    body-refused single =
        let never = body-never front.lead.kind front.size text s.at stands.octets single (too-long single) body-inside in
        let fails = body-fails s.part text (blocks_left 64 s.seen) s.seen front stands.start s.at (s.at, because causes.ExtensionBody) never in
        fails-here text s (s.at, because causes.ExtensionBody) stands (rw stage fails)

    pub body-passes : (w : List ℕ) → is_single front.lead.kind ≡ false → w ≡ take left rest
        → Moves text s left (entered s (Field (Check front.lead (with_octets sum w))) (s.came + left))
    unfolding left_for
    body-passes w other part =
        let keeps = body-keeps in
        let spot : s.came + left - s.came ≡ left = omega arith in
        let octets : w ≡ between s.came (s.came + left) text = part ∙ ap (take left) is ∙ ap (λ n. take n (drop s.came text)) (sym spot) in
        let body = body-there front.lead.kind front.size text s.at other body-inside in
        moves-checked text s (Check front.lead (with_octets sum w)) left stands.octets (omega (arith, there, rest-long, stands.within)) stands.few stands.each
        keeps.0 stands.start (omega (arith, stands.order, stands.place)) (omega arith)
        (sum-more front.lead.crc text w stands.start s.came (s.came + left) sum (omega (arith, stands.order, stands.place)) (omega arith) octets keeps.4)
        (λ more.
        left-here more
        ∙ body-continues s.part text (blocks_left 64 s.seen) s.seen front stands.start s.at (s.at + front.size) _ stands.octets
        (omega (arith, stands.place, stands.within)) body more
        ∙ ap (λ to. read (left_for s.part s.seen stands.start (Field (Check front.lead (with_octets sum w)))) (text ++ more) to) body-end)
        (rw stage (omega arith))

-- ---- answers

-- want of memory, that a `?` passes on
pub wants-room : (text : List ℕ) (s new : Stand) (result : Result Step Fail7) → IsErrAnd result (λ e. e ≡ Memory) → s.stage ≡ Primary
    → (s.came ≡ 0 → IsOpen text) → Steps text s result new
wants-room text s new (Ok step) is stage begun = absurd is
wants-room text s new (Err fail) is stage begun = rw is (stage, begun)

-- what a step gives is no matter of what it leaves alone
pub steps-same : (text : List ℕ) (s t : Stand) (result : Result Step Fail7) (new : Stand) → t.came ≡ s.came → t.before ≡ s.before → t.stage ≡ s.stage
    → Steps text t result new → Steps text s result new
steps-same text s t (Ok (After n)) new came before stage moves = record {
  stands = moves.stands;
  fewer = omega (arith, moves.fewer, ap steps_left stage);
  came = omega (arith, moves.came, came);
  before = moves.before ∙ before;
  stage = λ is. let first = moves.stage is in (sym stage ∙ first.0, omega (arith, first.1, came));
}
steps-same text s t (Ok Waits) new came before stage stays = record { come = stays.come; before = stays.before ∙ before }
steps-same text s t (Ok (Ended end)) new came before stage ends = record {
  ended = ends.ended;
  late = omega (arith, ends.late, came);
  before = ends.before ∙ before;
}
steps-same text s t (Err (Refused at cause)) new came before stage fails = fails
steps-same text s t (Err Memory) new came before stage fails = (sym stage ∙ fails.0, λ none. fails.1 (came ∙ none))
