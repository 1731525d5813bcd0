-- A step of a judge: octets of a field of few.

use Rattle.std.proofs.Common.{◌≡◌, ◌≢◌, ℕ, ◌+◌, ◌-◌, ◌<◌, ◌≤◌, min, List, [], ◌++◌, length, take, drop, Option, Some, None, Err, inl, inr, refl, sym, ap, ◌∙◌, subst, arith, append_assoc, length-append, take-append-drop}
use Rattle.std.proofs.lemmas.List.{length-take-le, length-drop, take-append-le, drop-drop}
use Rattle.std.proofs.Math.Seq.{take-append_seam}
use Rattle.endpoint.specs.declared.extent.Fragment.{Fragment}
use Rattle.cbor_lite.specs.Head.{head_at}
use Rattle.wire_fields.specs.Format.{Format, give, and_then}
use Rattle.wire_fields.specs.Refusal.{Stop, truncated, because}
use Rattle.wire_fields.specs.Words.{exact_octet}
use Rattle.wire_fields.specs.Reading.{read, IsOctets}
use Rattle.wire_fields.proofs.ResultLemmas.{found, stopped, go_on_err}
use Rattle.wire_fields.proofs.StayLemmas.{octets-front}
use Rattle.wire_fields.proofs.ContinueLemmas.{fails-then}
use Rattle.wire_fields.proofs.TextLemmas.{octets-drop}
use Rattle.bundle7.specs.declared.fault.Cause7.{Cause7}
use Rattle.bundle7.specs.declared.fault.Cause7.TheVariants as causes
use Rattle.bundle7.specs.declared.fault.Fail7.TheVariants.{Refused}
use Rattle.bundle7.specs.declared.seen.Seen.{Seen}
use Rattle.bundle7.specs.declared.pass.Front.{Front}
use Rattle.bundle7.specs.Cause.{why}
use Rattle.bundle7.specs.Table.{body_field, lead}
use Rattle.bundle7.specs.Judging.{judged_front}
use Rattle.bundle7.specs.Passing.{blocks_left, judged_on}
use Rattle.bundle7.proofs.PassLemmas.{front-fails, body-fails}
use Rattle.bundle7.proofs.ReaderLemmas.{is-because}
use Rattle.bundle_judges.specs.declared.stand7.Small.{Small}
use Rattle.bundle_judges.specs.declared.stand7.Small.TheVariants.{Block, Item, Check, Octets, End}
use Rattle.bundle_judges.specs.declared.stand7.Stage.TheVariants.{Field}
use Rattle.bundle_judges.specs.declared.stand7.Stand.{Stand}
use Rattle.bundle_judges.specs.Sum7.{check_head, check_octets}
use Rattle.bundle_judges.specs.Field7.{small_field, most_octets, left_for, IsCut}
use Rattle.bundle_judges.specs.Stand7.{IsSummed, Keeps, IsInside, IsAt, Fails7, steps_left, Stays, waiting, Fitting, Passes}
use Rattle.bundle_judges.proofs.MovedLemmas.{found-from, refused-from, ends-late}
use Rattle.bundle_judges.proofs.SumLemmas7.{given-err, check-fails}
use Rattle.bundle_judges.proofs.FieldLemmas7.{small-free, small-short}
use Rattle.bundle_judges.proofs.StepLemmas7.{fails-here}

some-err : {A : Type 0} (f : Format Cause7 A) (text : List ℕ) (at : ℕ) (s : ℕ × Stop Cause7)
    → read (and_then f (λ x. give (Some x))) text at ≡ Err s → read f text at ≡ Err s
some-err {A} f text at s is =
    elim (go_on_err (read f text at) (λ x. found (Some x.0) x.1) s is) [
      | inl here ↦ here
      | inr later ↦ let no = later.2 in absurd (cc)
    ]

pub small-fails : (part : Option Fragment) (seen : Seen) (start : ℕ) (small : Small) (text : List ℕ) (at : ℕ) (s : ℕ × Stop Cause7)
    → IsSummed text start at small → read (small_field part seen small) text at ≡ Err s
    → read (left_for part seen start (Field small)) text at ≡ Err s
unfolding small_field left_for
small-fails part seen start Block text at s summed is =
    front-fails part text (blocks_left 64 seen) seen at s (some-err (judged_front part (blocks_left 64 seen) seen) text at s is)
small-fails part seen start (Item front sum) text at s summed is =
    body-fails part text (blocks_left 64 seen) seen front start at s (given-err (body_field front.lead.kind front.size) None text at s is)
small-fails part seen start (Check lead sum) text at s summed is =
    check-fails lead (judged_on part (blocks_left 64 seen) seen) text start at sum s summed (given-err (check_head sum) None text at s is)
small-fails part seen start (Octets lead sum) text at s summed is =
    fails-then (and_then (check_octets sum) (λ octets. give lead)) (judged_on part (blocks_left 64 seen) seen) text at s
    (fails-then (check_octets sum) (λ octets. give lead) text at s (given-err (check_octets sum) None text at s is))
small-fails part seen start End text at s summed is =
    fails-then (exact_octet 0xFF causes.Break) (λ end. give tt) text at s (given-err (exact_octet 0xFF causes.Break) None text at s is)

abbrev pub with_head : Stand → List ℕ → Stand
with_head s head = record {
  before = s.before;
  came = s.came;
  at = s.at;
  stage = s.stage;
  seen = s.seen;
  part = s.part;
  main = s.main;
  head = head;
}

-- the octets of it that came, with so many more
pub record Filled (text : List ℕ) (s : Stand) (small : Small) (w : List ℕ) (k : ℕ) : Type 0 where
  pub keeps : (start : ℕ) × Keeps text start s (Field small)
  pub taken : List ℕ
  pub both : w ≡ s.head ++ taken
  pub parts : drop s.at text ≡ w ++ drop (s.came + k) text
  pub held : length s.head ≡ s.came - s.at
  pub size : length w ≡ length s.head + k
  pub inside : s.came + k ≤ length text
  pub few : IsOctets w
  pub all : length w < most_octets small → s.came + k ≡ length text

pub small-keeps : (text : List ℕ) (s : Stand) (small : Small) (stands : IsAt text s) → s.stage ≡ Field small → Keeps text stands.start s (Field small)
small-keeps text s small stands stage = rw stage at stands.keeps

pub small-held : (text : List ℕ) (s : Stand) (small : Small) → IsAt text s → s.stage ≡ Field small → length s.head ≡ s.came - s.at
small-held text s small stands stage =
    let keeps = small-keeps text s small stands stage in
    ap length keeps.1 ∙ length-take-le (s.came - s.at) (drop s.at text) (omega (arith, length-drop s.at text, stands.within))

-- what came is not too long
pub small-room : (text : List ℕ) (s : Stand) (small : Small) → IsAt text s → s.stage ≡ Field small → length s.head ≤ most_octets small
small-room text s small stands stage =
    let keeps = small-keeps text s small stands stage in
    elim keeps.3 [
      | inl none ↦ omega (arith, ap length none)
      | inr cut ↦
          let back : s.at + (s.came - s.at) ≡ s.came = omega (arith, stands.place) in
          let rest : drop s.at text ≡ s.head ++ drop (s.came - s.at) (drop s.at text) =
          sym (take-append-drop (s.came - s.at) (drop s.at text)) ∙ ap (λ t. t ++ drop (s.came - s.at) (drop s.at text)) (sym keeps.1) in
          let few : IsOctets s.head = octets-front s.head _ (subst IsOctets rest (octets-drop s.at text stands.octets)) in
          let low = (small-short s.part s.seen small).cut s.head 0 cut.0 few (omega arith) cut.1 in
          omega (arith, low)
    ]

pub small-fills : (text rest taken w : List ℕ) (n : ℕ) (s : Stand) (small : Small) → IsAt text s → s.stage ≡ Field small → rest ≡ drop s.came text
    → n ≡ min (length rest) (most_octets small - length s.head) → taken ≡ take n rest → w ≡ s.head ++ taken → Filled text s small w (length taken)
small-fills text rest taken w n s small stands stage is least part both =
    let keeps = small-keeps text s small stands stage in
    let held = small-held text s small stands stage in
    let back : s.at + (s.came - s.at) ≡ s.came = omega (arith, stands.place) in
    let long : length taken ≡ n = ap length part ∙ length-take-le n rest (omega (arith, least)) in
    let there : length rest ≡ length text - s.came = ap length is ∙ length-drop s.came text in
    let after : drop n rest ≡ drop (s.came + length taken) text =
    ap (drop n) is ∙ drop-drop n s.came text ∙ ap (λ k. drop (s.came + k) text) (sym long) in
    let begin : drop s.at text ≡ s.head ++ drop s.came text =
    sym (take-append-drop (s.came - s.at) (drop s.at text))
    ∙ ap (λ t. take (s.came - s.at) (drop s.at text) ++ t) (drop-drop (s.came - s.at) s.at text ∙ ap (λ k. drop k text) back)
    ∙ ap (λ t. t ++ drop s.came text) (sym keeps.1) in
    let parts : drop s.at text ≡ w ++ drop (s.came + length taken) text =
    begin ∙ ap (λ t. s.head ++ t) (sym is ∙ sym (take-append-drop n rest) ∙ ap (λ t. t ++ drop n rest) (sym part) ∙ ap (λ t. taken ++ t) after)
    ∙ sym (append_assoc s.head taken (drop (s.came + length taken) text)) ∙ ap (λ t. t ++ drop (s.came + length taken) text) (sym both) in
    let size : length w ≡ length s.head + length taken = ap length both ∙ length-append s.head taken in
    record {
      keeps = (stands.start, keeps);
      taken = taken;
      both = both;
      parts = parts;
      held = held;
      size = size;
      inside = omega (arith, long, least, there, stands.within);
      few = octets-front w (drop (s.came + length taken) text) (subst IsOctets parts (octets-drop s.at text stands.octets));
      all = λ short. omega (arith, short, size, long, least, there, stands.within);
    }

-- one of two fields doesn't end before an octet of it came
pub small-begun : (part : Option Fragment) (seen : Seen) (small : Small) → steps_left (Field small) ≡ 0 → IsCut (small_field part seen small) []
unfolding small_field judged_front lead head_at
small-begun part seen Block none = (0, refl)
small-begun part seen (Item front sum) none = absurd (cc)
small-begun part seen (Check front sum) none = absurd (cc)
small-begun part seen (Octets front sum) none = absurd (cc)
small-begun part seen End none = (0, refl)

module _ (text w : List ℕ) (s : Stand) (small : Small) (k : ℕ) (stands : IsAt text s) (stage : s.stage ≡ Field small) (filled : Filled text s small w k) where
  field-here : Format Cause7 (Option Front)
  field-here = small_field s.part s.seen small

  at-within : s.at ≤ length text
  at-within = omega (arith, stands.place, stands.within)

  -- it ends after what came before
  pub small-late : (x : Option Front) (end : ℕ) → read (small_field s.part s.seen small) w 0 ≡ found x end → length s.head ≤ end
  small-late x end is =
      elim filled.keeps.1.3 [
        | inl none ↦ omega (arith, ap length none)
        | inr cut ↦
            let late = ends-late (small_field s.part s.seen small) s.head filled.taken end cut.0 x (subst IsOctets filled.both filled.few) cut.1
            (ap (λ t. read (small_field s.part s.seen small) t 0) (sym filled.both) ∙ is) in
            omega (arith, late)
      ]

  small-some : (x : Option Front) (end : ℕ) → read (small_field s.part s.seen small) w 0 ≡ found x end → steps_left (Field small) ≡ 0
      → 0 < end - length s.head
  small-some x end is none =
      elim filled.keeps.1.3 [
        | inl nothing ↦
            let cut = small-begun s.part s.seen small none in
            let late = ends-late (small_field s.part s.seen small) [] w end cut.0 x filled.few cut.1 is in
            omega (arith, late, ap length nothing)
        | inr cut ↦
            let late = ends-late (small_field s.part s.seen small) s.head filled.taken end cut.0 x (subst IsOctets filled.both filled.few) cut.1
            (ap (λ t. read (small_field s.part s.seen small) t 0) (sym filled.both) ∙ is) in
            omega (arith, late)
      ]

  pub small-passes : (x : Option Front) (end : ℕ) → read (small_field s.part s.seen small) w 0 ≡ found x end → end ≤ length w → Fitting small x
      → Passes text (with_head s w) small x end (end - length s.head)
  small-passes x end is within fitting =
      let keeps = small-keeps text s small stands stage in
      let late = small-late x end is in
      let ends : s.came + (end - length s.head) ≡ s.at + end = omega (arith, late, filled.held, stands.place) in
      let whole : s.at + end - s.at ≡ end = omega arith in
      record {
        octets = stands.octets;
        within = omega (arith, late, within, filled.size, filled.inside);
        ends = ends;
        stage = stage;
        some = small-some x end is;
        few = stands.few;
        each = stands.each;
        main = keeps.0;
        start = stands.start;
        order = stands.order;
        there = within;
        head =
            sym (take-append-le end w (drop (s.came + k) text) within)
            ∙ ap (take end) (sym filled.parts) ∙ ap (λ n. take n (drop s.at text)) (sym whole);
        summed = keeps.4;
        fitting = fitting;
        reads = found-from (small_field s.part s.seen small) text w (drop (s.came + k) text) s.at end x stands.octets at-within
            (small-free s.part s.seen small) filled.parts is;
        goes_on = λ more. stands.goes_on more ∙ ap (λ g. read (left_for s.part s.seen stands.start g) (text ++ more) s.at) stage;
      }

  -- or it doesn't end
  pub small-waits : (p : ℕ) → read (small_field s.part s.seen small) w 0 ≡ stopped p truncated → Stays text s (waiting (with_head s w) (s.came + k))
  small-waits p cut =
      let keeps = small-keeps text s small stands stage in
      let low = (small-short s.part s.seen small).cut w 0 p filled.few (omega arith) cut in
      let all = filled.all (omega (arith, low)) in
      let spot : length w ≡ s.came + k - s.at = omega (arith, filled.size, filled.held, stands.place) in
      let now : Keeps text stands.start (waiting (with_head s w) (s.came + k)) (Field small) = (
        keeps.0,
        sym (take-append_seam w (drop (s.came + k) text)) ∙ ap (take (length w)) (sym filled.parts) ∙ ap (λ n. take n (drop s.at text)) spot,
        keeps.2,
        inr (p, cut),
        keeps.4,
      ) in
      let inside : IsInside (waiting (with_head s w) (s.came + k)) (Field small) = (p, cut) in
      record {
        come = record {
          stands = record {
            octets = stands.octets;
            within = filled.inside;
            place = omega (arith, stands.place);
            few = stands.few;
            each = stands.each;
            start = stands.start;
            order = stands.order;
            goes_on = stands.goes_on;
            keeps = rw stage now;
          };
          all = all;
          inside = rw stage inside;
        };
        before = refl;
      }

  -- or it is refused
  pub small-refused : (p : ℕ) (cause : Cause7) → read (small_field s.part s.seen small) w 0 ≡ stopped p (why cause) → cause ≢ causes.Truncated
      → Fails7 text s (Refused (s.at + p) cause)
  small-refused p cause is other =
      let keeps = small-keeps text s small stands stage in
      let here = refused-from (small_field s.part s.seen small) text w (drop (s.came + k) text) s.at p cause stands.octets at-within
      (small-free s.part s.seen small) filled.parts (is ∙ ap (λ r. stopped p r) (is-because cause other)) in
      let fails = small-fails s.part s.seen stands.start small text s.at (s.at + p, because cause) keeps.4 here in
      fails-here text s (s.at + p, because cause) stands (rw stage fails)

-- there is room for the octets of a field of few
pub small-fits : (text rest : List ℕ) (n : ℕ) (s : Stand) (small : Small) → IsAt text s → s.stage ≡ Field small
    → n ≡ min (length rest) (most_octets small - length s.head) → length s.head + length (take n rest) ≤ 1050
small-fits text rest n s small stands stage least =
    let keeps = small-keeps text s small stands stage in
    let room = small-room text s small stands stage in
    let long : length (take n rest) ≡ n = length-take-le n rest (omega (arith, least)) in
    omega (arith, long, least, room, keeps.2)
