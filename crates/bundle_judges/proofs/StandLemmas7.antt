-- Where a judge stands: what a step into octets that are there makes of it.

use Rattle.std.proofs.Common.{◌≡◌, ◌≢◌, ℕ, ◌+◌, ◌-◌, ◌*◌, ◌<◌, ◌≤◌, leb, ◌==◌, ◌||◌, ◌&&◌, Bool, true, false, if◌then◌else◌, List, [], ◌∷◌, ◌++◌, length, take, drop, Option, Some, None, inl, refl, sym, ap, ◌∙◌, subst, arith, append-nil, length-append}
use Rattle.std.proofs.lemmas.Bool.{leb-true, eq-eqb}
use Rattle.endpoint.specs.declared.extent.Fragment.{Fragment}
use Rattle.wire_fields.specs.Format.{Format, give, and_then}
use Rattle.wire_fields.specs.Refusal.{Stop}
use Rattle.wire_fields.specs.Words.{exact_octet}
use Rattle.wire_fields.specs.Reading.{read, go_on, IsOctets}
use Rattle.wire_fields.specs.Gives.{Continues}
use Rattle.wire_fields.proofs.ResultLemmas.{found, found_is, go_on_ok}
use Rattle.wire_fields.proofs.ContinueLemmas.{continues-in}
use Rattle.bundle7.specs.declared.fault.Cause7.{Cause7}
use Rattle.bundle7.specs.declared.fault.Cause7.TheVariants as causes
use Rattle.bundle7.specs.declared.block.Lead.{Lead}
use Rattle.bundle7.specs.declared.seen.Seen.{Seen}
use Rattle.bundle7.specs.declared.pass.Front.{Front}
use Rattle.bundle7.specs.Table.{is_single, body_field}
use Rattle.bundle7.specs.Seen.{seen_with}
use Rattle.bundle7.specs.Judging.{judged_front, judged_end, judged_blocks, judged_bundle, none_seen}
use Rattle.bundle7.specs.Passing.{between, blocks_left, judged_on}
use Rattle.bundle7.proofs.PassLemmas.{start-continues, front-continues, body-continues, on-last, on-more}
use Rattle.bundle_judges.specs.declared.sum7.Sum.{Sum}
use Rattle.bundle_judges.specs.declared.stand7.Small.{Small}
use Rattle.bundle_judges.specs.declared.stand7.Small.TheVariants.{Block, Item, Check, Octets, End}
use Rattle.bundle_judges.specs.declared.stand7.Stage.{Stage}
use Rattle.bundle_judges.specs.declared.stand7.Stage.TheVariants.{Primary, Field, Body}
use Rattle.bundle_judges.specs.declared.stand7.Stand.{Stand}
use Rattle.bundle_judges.specs.Sum7.{no_octets, with_octets, check_head, check_octets}
use Rattle.bundle_judges.specs.Field7.{small_field, most_octets, is_kept, body_stage, left_for}
use Rattle.bundle_judges.specs.Stand7.{IsSumOf, IsSummed, Keeps, steps_left, Moves, Ends, entered, Passes, Checks, Starts}
use Rattle.bundle_judges.proofs.SumLemmas7.{sum-none, sum-more, given-found, check-continues}

-- ---- what stands next

-- what a stage asks of the octets before it
abbrev IsLater : List ℕ → ℕ → ℕ → Stage → Type 0
IsLater text start at Primary = ⊥
IsLater text start at (Field small) = (most_octets small ≤ 1050) × IsSummed text start at small
IsLater text start at (Body front sum) = (is_kept front ≡ false) × IsSumOf front.lead.crc text start at sum

-- a stage is entered after so many octets more
record Enters (text : List ℕ) (s : Stand) (stage : Stage) (more : ℕ) : Type 0 where
  octets : IsOctets text
  within : s.came + more ≤ length text
  few : length s.seen.kinds ≤ 64
  each : length s.seen.numbers ≡ length s.seen.kinds
  main : s.main.items ≡ []
  start : ℕ
  order : start ≤ s.came + more
  later : IsLater text start (s.came + more) stage
  goes_on : Continues (judged_bundle 64) 0 (left_for s.part s.seen start stage) (s.came + more) text

keeps-entered : (text : List ℕ) (s : Stand) (start at : ℕ) (stage : Stage) → s.main.items ≡ [] → IsLater text start at stage
    → Keeps text start (entered s stage at) stage
keeps-entered text s start at Primary main later = absurd later
keeps-entered text s start at (Field small) main later =
    let nothing : at - at ≡ 0 = omega arith in
    (main, sym (ap (λ n. take n (drop at text)) nothing), later.0, inl refl, later.1)
keeps-entered text s start at (Body front sum) main later = (main, refl, omega arith, later.0, later.1)

not-primary : (text : List ℕ) (start at : ℕ) (stage : Stage) → IsLater text start at stage → stage ≡ Primary → ⊥
not-primary text start at Primary later is = later
not-primary text start at (Field small) later is = cc
not-primary text start at (Body front sum) later is = cc

moves-entered : (text : List ℕ) (old s : Stand) (stage : Stage) (more : ℕ) → Enters text s stage more
    → steps_left stage < 4 * more + steps_left old.stage → s.came ≡ old.came → s.before ≡ old.before
    → Moves text old more (entered s stage (s.came + more))
moves-entered text old s stage more enters fewer came before = record {
  stands = record {
    octets = enters.octets;
    within = enters.within;
    place = omega arith;
    few = enters.few;
    each = enters.each;
    start = enters.start;
    order = enters.order;
    goes_on = enters.goes_on;
    keeps = keeps-entered text s enters.start (s.came + more) stage enters.main enters.later;
  };
  fewer = fewer;
  came = omega (arith, came);
  before = before;
  stage = λ is. absurd (not-primary text enters.start (s.came + more) stage enters.later is);
}

-- ---- after a field of few octets

value-of : {A : Type 0} → Option A → A → A
value-of (Some x) d = x
value-of None d = d

some-found : {A : Type 0} (f : Format Cause7 A) (text : List ℕ) (at to : ℕ) (y : A)
    → read (and_then f (λ x. give (Some x))) text at ≡ found (Some y) to → read f text at ≡ found y to
unfolding value-of
some-found {A} f text at to y is =
    let (x, first, second) = go_on_ok (read f text at) (λ x. found (Some x.0) x.1) (Some y, to) is in
    let same = found_is {E = ℕ × Stop Cause7} (Some x.0) (Some y) x.1 to second in
    let value : x.0 ≡ y = ap (λ o. value-of o y) same.0 in
    first ∙ ap (λ z. found z x.1) value ∙ ap (λ n. found y n) same.1

later-body : (text : List ℕ) (start at : ℕ) (front : Front) (sum : Sum) → IsSumOf front.lead.crc text start at sum
    → IsLater text start at (body_stage front sum)
later-body text start at front sum is = by (is_kept front) refl
  where
    most : (a b : Bool) → (a && b) ≡ true → b ≡ true
    most true b holds = holds
    most false b holds = absurd (cc)

    by : (kept : Bool) → is_kept front ≡ kept → IsLater text start at (if kept then Field (Item front sum) else Body front sum)
    by true kept = (leb-true front.size 1050 (most (is_single front.lead.kind) (leb front.size 1050) kept), is)
    by false kept = (kept, is)

steps-body : (front : Front) (sum : Sum) → steps_left (body_stage front sum) ≡ 3
steps-body front sum = by (is_kept front)
  where
    by : (kept : Bool) → steps_left (if kept then Field (Item front sum) else Body front sum) ≡ 3
    by true = refl
    by false = refl

left-body : (part : Option Fragment) (seen : Seen) (start : ℕ) (front : Front) (sum : Sum) (t : List ℕ) (at : ℕ)
    → read (left_for part seen start (body_stage front sum)) t at ≡ read (left_for part seen start (Body front sum)) t at
unfolding left_for
left-body part seen start front sum t at = by (is_kept front)
  where
    by : (kept : Bool) → read (left_for part seen start (if kept then Field (Item front sum) else Body front sum)) t at
        ≡ read (left_for part seen start (Body front sum)) t at
    by true = refl
    by false = refl

pub passes-front : (text w : List ℕ) (s : Stand) (small : Small) (front : Front) (end more : ℕ) → Passes text s small (Some front) end more
    → w ≡ take end s.head
    → Moves text s more (entered s (body_stage front (with_octets (no_octets front.lead.crc) w)) (s.came + more))
unfolding small_field left_for
passes-front text w s Block front end more passes is =
    let within : s.at ≤ length text = omega (arith, passes.ends, passes.within) in
    let left = blocks_left 64 s.seen in
    let there : read (judged_front s.part left s.seen) text s.at ≡ found front (s.at + end) =
    some-found (judged_front s.part left s.seen) text s.at (s.at + end) front passes.reads in
    let sum = with_octets (no_octets front.lead.crc) w in
    let summed : IsSumOf front.lead.crc text s.at (s.at + end) sum =
    sum-more front.lead.crc text w s.at s.at (s.at + end) (no_octets front.lead.crc) (omega arith) (omega arith) (is ∙ passes.head)
    (sum-none front.lead.crc text s.at) in
    let placed : IsSumOf front.lead.crc text s.at (s.came + more) sum = subst (λ n. IsSumOf front.lead.crc text s.at n sum) (sym passes.ends) summed in
    let some = passes.some refl in
    let steps = steps-body front sum in
    moves-entered text s s (body_stage front sum) more (record {
      octets = passes.octets;
      within = passes.within;
      few = passes.few;
      each = passes.each;
      main = passes.main;
      start = s.at;
      order = omega (arith, passes.ends);
      later = later-body text s.at (s.came + more) front sum placed;
      goes_on = λ more'.
          passes.goes_on more'
          ∙ front-continues s.part text left s.seen front s.at (s.at + end) passes.octets within there more'
          ∙ ap (λ to. read (left_for s.part s.seen s.at (Body front sum)) (text ++ more') to) (sym passes.ends)
          ∙ sym (left-body s.part s.seen s.at front sum (text ++ more') (s.came + more));
    }) (omega (arith, some, steps)) refl refl
passes-front text w s (Item other sum) front end more passes is = absurd passes.fitting
passes-front text w s (Check lead sum) front end more passes is = absurd passes.fitting
passes-front text w s (Octets lead sum) front end more passes is = absurd passes.fitting
passes-front text w s End front end more passes is = absurd passes.fitting

module _ (text : List ℕ) (s : Stand) (end more : ℕ) where
  at-within : (small : Small) → Passes text s small None end more → s.at ≤ length text
  at-within small passes = omega (arith, passes.ends, passes.within)

  pub passes-item : (w : List ℕ) (front : Front) (sum : Sum) → Passes text s (Item front sum) None end more → w ≡ take end s.head
      → Moves text s more (entered s (Field (Check front.lead (with_octets sum w))) (s.came + more))
  unfolding small_field left_for
  passes-item w front sum passes is =
      let (body, there, nothing) = given-found (body_field front.lead.kind front.size) None text s.at (s.at + end) None passes.reads in
      let summed = sum-more front.lead.crc text w passes.start s.at (s.at + end) sum passes.order (omega arith) (is ∙ passes.head) passes.summed in
      let stage : steps_left s.stage ≡ 3 = ap steps_left passes.stage in
      moves-entered text s s (Field (Check front.lead (with_octets sum w))) more (record {
        octets = passes.octets;
        within = passes.within;
        few = passes.few;
        each = passes.each;
        main = passes.main;
        start = passes.start;
        order = omega (arith, passes.ends, passes.order);
        later = (omega arith, subst (λ n. IsSumOf front.lead.crc text passes.start n (with_octets sum w)) (sym passes.ends) summed);
        goes_on = λ more'.
            passes.goes_on more'
            ∙ body-continues s.part text (blocks_left 64 s.seen) s.seen front passes.start s.at (s.at + end) body passes.octets
            (at-within (Item front sum) passes) there more'
            ∙ ap (λ to. read (left_for s.part s.seen passes.start (Field (Check front.lead sum))) (text ++ more') to) (sym passes.ends);
      }) (omega (arith, stage)) refl refl

  pub passes-check : (w : List ℕ) (lead : Lead) (sum : Sum) → Passes text s (Check lead sum) None end more → w ≡ take end s.head
      → Moves text s more (entered s (Field (Octets lead (with_octets sum w))) (s.came + more))
  unfolding small_field left_for
  passes-check w lead sum passes is =
      let (head, there, nothing) = given-found (check_head sum) None text s.at (s.at + end) None passes.reads in
      let stage : steps_left s.stage ≡ 2 = ap steps_left passes.stage in
      let octets : with_octets sum (between s.at (s.at + end) text) ≡ with_octets sum w = ap (with_octets sum) (sym (is ∙ passes.head)) in
      moves-entered text s s (Field (Octets lead (with_octets sum w))) more (record {
        octets = passes.octets;
        within = passes.within;
        few = passes.few;
        each = passes.each;
        main = passes.main;
        start = passes.start;
        order = omega (arith, passes.ends, passes.order);
        later = (omega arith, tt);
        goes_on = λ more'.
            passes.goes_on more'
            ∙ check-continues lead (judged_on s.part (blocks_left 64 s.seen) s.seen) text passes.start s.at passes.octets passes.order
            (at-within (Check lead sum) passes) (s.at + end) (omega arith) (omega (arith, passes.ends, passes.within)) sum passes.summed there more'
            ∙ ap (λ (x : Sum). read (left_for s.part s.seen passes.start (Field (Octets lead x))) (text ++ more') (s.at + end)) octets
            ∙ ap (λ to. read (left_for s.part s.seen passes.start (Field (Octets lead (with_octets sum w)))) (text ++ more') to) (sym passes.ends);
      }) (omega (arith, stage)) refl refl

  pub passes-octets : (lead : Lead) (sum : Sum) → Passes text s (Octets lead sum) None end more → Checks text s lead more
  unfolding small_field left_for
  passes-octets lead sum passes =
      let (octets, there, nothing) = given-found (check_octets sum) None text s.at (s.at + end) None passes.reads in
      let stage : steps_left s.stage ≡ 1 = ap steps_left passes.stage in
      record {
        octets = passes.octets;
        within = passes.within;
        some = omega (arith, stage);
        few = passes.few;
        each = passes.each;
        main = passes.main;
        goes_on = λ more'.
            passes.goes_on more'
            ∙ continues-in (check_octets sum) (λ octets. give lead) (judged_on s.part (blocks_left 64 s.seen) s.seen) text s.at (s.at + end) octets
            passes.octets (at-within (Octets lead sum) passes) there more'
            ∙ ap (λ to. read (judged_on s.part (blocks_left 64 s.seen) s.seen lead) (text ++ more') to) (sym passes.ends);
      }

  pub passes-end : Passes text s End None end more → Ends text s (s.came + more) s
  unfolding small_field left_for
  passes-end passes =
      let (mark, there, nothing) = given-found (exact_octet 0xFF causes.Break) None text s.at (s.at + end) None passes.reads in
      record {
        ended =
            subst (λ t. read (judged_bundle 64) t 0 ≡ read judged_end t s.at) (append-nil text) (passes.goes_on [])
            ∙ ap (λ r. go_on r (λ y. found tt y.1)) there
            ∙ ap (λ n. found tt n) (sym passes.ends);
        late = omega arith;
        before = refl;
      }

-- ---- after a block

abbrev pub with_seen : Stand → Seen → Stand
with_seen s seen = record {
  before = s.before;
  came = s.came;
  at = s.at;
  stage = s.stage;
  seen = seen;
  part = s.part;
  main = s.main;
  head = s.head;
}

pub checks-last : (text : List ℕ) (s : Stand) (lead : Lead) (more : ℕ) → Checks text s lead more
    → (lead.kind == 1 || length s.seen.kinds == 64) ≡ true → Moves text s more (entered s (Field End) (s.came + more))
unfolding left_for
checks-last text s lead more checks last =
    moves-entered text s s (Field End) more (record {
      octets = checks.octets;
      within = checks.within;
      few = checks.few;
      each = checks.each;
      main = checks.main;
      start = 0;
      order = omega arith;
      later = (omega arith, tt);
      goes_on = λ more'.
          checks.goes_on more' ∙ on-last s.part text 64 (length s.seen.kinds) s.seen lead (text ++ more') (s.came + more) last;
    }) (omega (arith, checks.some)) refl refl

pub few-more : (kind count : ℕ) → count ≤ 64 → (kind == 1 || count == 64) ≡ false → count < 64
few-more kind count few more = by (kind == 1) more
  where
    by : (c : Bool) → (c || count == 64) ≡ false → count < 64
    by true is = absurd (cc)
    by false is =
        let other : count ≢ 64 = λ same. let no : (count == 64) ≡ true = eq-eqb count 64 same in absurd (cc) in
        omega (arith, few, other)

pub checks-more : (text : List ℕ) (s : Stand) (seen : Seen) (lead : Lead) (more : ℕ) → Checks text s lead more
    → (lead.kind == 1 || length s.seen.kinds == 64) ≡ false → seen ≡ seen_with s.seen lead.kind lead.number
    → Moves text s more (entered (with_seen s seen) (Field Block) (s.came + more))
unfolding left_for
checks-more text s seen lead more checks last is =
    let one : length (s.seen.kinds ++ lead.kind ∷ []) ≡ length s.seen.kinds + 1 = length-append s.seen.kinds (lead.kind ∷ []) in
    let also : length (s.seen.numbers ++ lead.number ∷ []) ≡ length s.seen.numbers + 1 = length-append s.seen.numbers (lead.number ∷ []) in
    let kinds : length seen.kinds ≡ length s.seen.kinds + 1 = ap (λ (x : Seen). length x.kinds) is ∙ one in
    let numbers : length seen.numbers ≡ length s.seen.numbers + 1 = ap (λ (x : Seen). length x.numbers) is ∙ also in
    let left : 64 - length s.seen.kinds - 1 ≡ 64 - length seen.kinds = omega (arith, kinds) in
    moves-entered text s (with_seen s seen) (Field Block) more (record {
      octets = checks.octets;
      within = checks.within;
      few = omega (arith, kinds, few-more lead.kind (length s.seen.kinds) checks.few last);
      each = omega (arith, kinds, numbers, checks.each);
      main = checks.main;
      start = 0;
      order = omega arith;
      later = (omega arith, tt);
      goes_on = λ more'.
          checks.goes_on more'
          ∙ on-more s.part text 64 (length s.seen.kinds) s.seen lead (text ++ more') (s.came + more) checks.few last
          ∙ ap (λ n. read (judged_blocks s.part n (seen_with s.seen lead.kind lead.number)) (text ++ more') (s.came + more)) left
          ∙ ap (λ (x : Seen). read (judged_blocks s.part (64 - length seen.kinds) x) (text ++ more') (s.came + more)) (sym is);
    }) (omega (arith, checks.some)) refl refl

-- ---- after the primary block

abbrev pub with_start : Stand → Option Fragment → Seen → Stand
with_start s part seen = record {
  before = s.before;
  came = s.came;
  at = s.at;
  stage = s.stage;
  seen = seen;
  part = part;
  main = s.main;
  head = s.head;
}

pub starts-on : (text : List ℕ) (s : Stand) (part : Option Fragment) (seen : Seen) (more : ℕ) → Starts text s part more → seen ≡ none_seen
    → Moves text s more (entered (with_start s part seen) (Field Block) (s.came + more))
unfolding left_for
starts-on text s part seen more starts is =
    moves-entered text s (with_start s part seen) (Field Block) more (record {
      octets = starts.octets;
      within = starts.within;
      few = rw is (omega arith);
      each = rw is refl;
      main = starts.main;
      start = 0;
      order = omega arith;
      later = (omega arith, tt);
      goes_on = λ more'.
          start-continues 64 text 0 (s.came + more) part starts.octets (omega arith) starts.reads more'
          ∙ ap (λ (x : Seen). read (judged_blocks part (64 - length x.kinds) x) (text ++ more') (s.came + more)) (sym is);
    }) (omega (arith, starts.some)) refl refl

-- ---- after a body

pub moves-checked : (text : List ℕ) (s : Stand) (small : Small) (more : ℕ) → IsOctets text → s.came + more ≤ length text
    → length s.seen.kinds ≤ 64 → length s.seen.numbers ≡ length s.seen.kinds → s.main.items ≡ [] → (start : ℕ) → start ≤ s.came + more
    → most_octets small ≤ 1050 → IsSummed text start (s.came + more) small
    → Continues (judged_bundle 64) 0 (left_for s.part s.seen start (Field small)) (s.came + more) text
    → steps_left (Field small) < 4 * more + steps_left s.stage → Moves text s more (entered s (Field small) (s.came + more))
moves-checked text s small more octets within few each main start order most summed goes_on fewer =
    moves-entered text s s (Field small) more (record {
      octets = octets;
      within = within;
      few = few;
      each = each;
      main = main;
      start = start;
      order = order;
      later = (most, summed);
      goes_on = goes_on;
    }) fewer refl refl
