-- A piece of a stream: what the octets that came are, and what a part of a piece makes of them.

use Rattle.std.proofs.Common.{◌≡◌, ◌≢◌, ℕ, zero, suc, ◌+◌, ◌-◌, ◌≤◌, lit≤, ltb, min, Bool, true, false, List, [], ◌∷◌, ◌++◌, length, take, drop, Option, Some, None, Result, Ok, Err, IfOk, inl, inr, refl, sym, ap, ◌∙◌, subst, arith, append_assoc, length-append}
use Rattle.std.proofs.lemmas.List.{length-drop, take-append-le, drop-append-le, take_all}
use Rattle.std.proofs.Math.Seq.{drop-append_seam}
use Rattle.wire_fields.specs.Refusal.{Stop, truncated, because}
use Rattle.wire_fields.specs.Reading.{read, IsOctets}
use Rattle.wire_fields.specs.Gives.{Judges}
use Rattle.wire_fields.proofs.ResultLemmas.{found, stopped, stopped_is}
use Rattle.wire_fields.proofs.ReadLemmas.{read-found, read-refused}
use Rattle.wire_fields.proofs.StayLemmas.{refusal-within}
use Rattle.wire_fields.proofs.StreamLemmas.{octets-nothing, part-of, takes-size, takes-open, refuses-part, begins-open, near-min}
use Rattle.wire_fields.proofs.JudgeLemmas.{judged-ok}
use Rattle.bundle7.specs.declared.fault.Cause7.{Cause7}
use Rattle.bundle7.specs.declared.fault.Cause7.TheVariants as causes
use Rattle.bundle7.specs.declared.fault.Refused7.{Refused7}
use Rattle.bundle7.specs.declared.pass.Front.{Front}
use Rattle.bundle7.specs.declared.fault.Fail7.{Fail7}
use Rattle.bundle7.specs.declared.fault.Fail7.TheVariants.{Refused, Memory}
use Rattle.bundle7.specs.declared.bundle.Bundle7.{Bundle7}
use Rattle.bundle7.specs.declared.reader.Judged7.{Judged7}
use Rattle.bundle7.specs.Cause.{why, stop_of}
use Rattle.bundle7.specs.Table.{bundle}
use Rattle.bundle7.specs.Judging.{judged_start, judged_bundle, none_seen}
use Rattle.bundle7.specs.Passing.{blocks_left}
use Rattle.bundle7.specs.Streaming.{Stream, bundles, IsOpen, near, JudgesPiece}
use Rattle.bundle7.specs.Holding.{IsRefused, IsWhole}
use Rattle.bundle7.proofs.KeepingLemmas.{bundle-keeps}
use Rattle.bundle7.proofs.PassLemmas.{start-fails, body-fails}
use Rattle.bundle7.proofs.ReaderLemmas.{is-because, judged-whole}
use Rattle.bundle_judges.specs.declared.sum7.Sum.{Sum}
use Rattle.bundle_judges.specs.declared.stand7.Small.{Small}
use Rattle.bundle_judges.specs.declared.stand7.Small.TheVariants.{Block, Item, Check, Octets, End}
use Rattle.bundle_judges.specs.declared.stand7.Stage.{Stage}
use Rattle.bundle_judges.specs.declared.stand7.Stage.TheVariants.{Primary, Field, Body}
use Rattle.bundle_judges.specs.declared.stand7.Stand.{Stand}
use Rattle.bundle_judges.specs.Field7.{small_field, left_for, IsCut}
use Rattle.bundle_judges.specs.Stand7.{IsSummed, Keeps, IsInside, IsAt, HasCome, HasEnded, Fails7, Ends, TakesPart, IsTurned, WantsRoom, JudgesPart}
use Rattle.bundle_judges.specs.Judging7.{KeepsLittle, HasTaken, IsTaking, taken_by, JudgesOn}
use Rattle.bundle_judges.proofs.MovedLemmas.{cut-from}
use Rattle.bundle_judges.proofs.SumLemmas7.{sum-longer}
use Rattle.bundle_judges.proofs.FieldLemmas7.{small-free, body-cut}
use Rattle.bundle_judges.proofs.StepLemmas7.{bundle-err, fails-here}
use Rattle.bundle_judges.proofs.FewLemmas7.{small-fails, small-room}
use Rattle.bundle_judges.proofs.StartLemmas7.{start-begun}

-- ---- octets

pub octets-join : (u v : List ℕ) → IsOctets u → IsOctets v → IsOctets (u ++ v)
octets-join [] v first second i = second i
octets-join (x ∷ u) v first second zero = first 0
octets-join (x ∷ u) v first second (suc i) = octets-join u v (λ j. first (suc j)) second i

empty : (xs : List ℕ) → length xs ≡ 0 → xs ≡ []
empty [] none = refl
empty (x ∷ xs) none = absurd (omega (arith, none))

-- ---- nothing came

pub come-nothing : (s : Stand) → s.came ≡ 0 → s.at ≡ 0 → s.stage ≡ Primary → s.seen ≡ none_seen → s.main.items ≡ [] → s.head ≡ [] → HasCome [] s
unfolding left_for
come-nothing s came at stage seen main head =
    let keeps : Keeps [] 0 s Primary = (at, main ∙ sym (ap (λ n. take n []) came), rw main start-begun, head) in
    record {
      stands = record {
        octets = octets-nothing;
        within = omega (arith, came);
        place = omega (arith, at);
        few = rw seen (omega arith);
        each = rw seen refl;
        start = 0;
        order = omega arith;
        goes_on = rw (stage, at) (λ more. refl);
        keeps = rw stage keeps;
      };
      all = came;
      inside = rw stage tt;
    }

abbrev pub set_before : Stand → ℕ → Stand
set_before s before = record {
  before = before;
  came = s.came;
  at = s.at;
  stage = s.stage;
  seen = s.seen;
  part = s.part;
  main = s.main;
  head = s.head;
}

keeps-before : (text : List ℕ) (start : ℕ) (s : Stand) (before : ℕ) (stage : Stage) → Keeps text start s stage → Keeps text start (set_before s before) stage
keeps-before text start s before Primary keeps = keeps
keeps-before text start s before (Field small) keeps = keeps
keeps-before text start s before (Body front sum) keeps = keeps

inside-before : (s : Stand) (before : ℕ) (stage : Stage) → IsInside s stage → IsInside (set_before s before) stage
inside-before s before Primary inside = inside
inside-before s before (Field small) inside = inside
inside-before s before (Body front sum) inside = inside

pub come-before : (text : List ℕ) (s : Stand) (before : ℕ) → HasCome text s → HasCome text (set_before s before)
come-before text s before come =
    let stands = come.stands in
    record {
      stands = record {
        octets = stands.octets;
        within = stands.within;
        place = stands.place;
        few = stands.few;
        each = stands.each;
        start = stands.start;
        order = stands.order;
        goes_on = stands.goes_on;
        keeps = keeps-before text stands.start s before s.stage stands.keeps;
      };
      all = come.all;
      inside = inside-before s before s.stage come.inside;
    }

-- the same judge of another stream
abbrev anew : Stand → Stand
anew s = record {
  before = 0;
  came = s.came;
  at = s.at;
  stage = s.stage;
  seen = s.seen;
  part = s.part;
  main = s.main;
  head = s.head;
}

keeps-anew : (text : List ℕ) (start : ℕ) (s : Stand) (stage : Stage) → Keeps text start s stage → Keeps text start (anew s) stage
keeps-anew text start s Primary keeps = keeps
keeps-anew text start s (Field small) keeps = keeps
keeps-anew text start s (Body front sum) keeps = keeps

inside-anew : (s : Stand) (stage : Stage) → IsInside s stage → IsInside (anew s) stage
inside-anew s Primary inside = inside
inside-anew s (Field small) inside = inside
inside-anew s (Body front sum) inside = inside

-- nothing came after whole bundles
pub come-anew : (text : List ℕ) (s : Stand) → HasCome text s → s.came ≤ 0 → HasCome [] (anew s)
come-anew text s come none =
    let stands = come.stands in
    subst (λ t. HasCome t (anew s)) (empty text (omega (arith, come.all, none))) (record {
      stands = record {
        octets = stands.octets;
        within = stands.within;
        place = stands.place;
        few = stands.few;
        each = stands.each;
        start = stands.start;
        order = stands.order;
        goes_on = stands.goes_on;
        keeps = keeps-anew text stands.start s s.stage stands.keeps;
      };
      all = come.all;
      inside = inside-anew s s.stage come.inside;
    })

-- ---- more octets are there

summed-longer : (text more : List ℕ) (start at : ℕ) (small : Small) → start ≤ at → at ≤ length text → IsSummed text start at small
    → IsSummed (text ++ more) start at small
summed-longer text more start at Block order within summed = tt
summed-longer text more start at (Item front sum) order within summed = sum-longer front.lead.crc text more start at sum order within summed
summed-longer text more start at (Check lead sum) order within summed = sum-longer lead.crc text more start at sum order within summed
summed-longer text more start at (Octets lead sum) order within summed = tt
summed-longer text more start at End order within summed = tt

keeps-longer : (text more : List ℕ) (start : ℕ) (s : Stand) (stage : Stage) → s.came ≤ length text → s.at ≤ s.came → start ≤ s.at
    → Keeps text start s stage → Keeps (text ++ more) start s stage
keeps-longer text more start s Primary within place order (at, main, cut, head) = (at, main ∙ sym (take-append-le s.came text more within), cut, head)
keeps-longer text more start s (Field small) within place order (main, head, most, begun, summed) =
    let long = length-drop s.at text in (
      main,
      head ∙ sym (take-append-le (s.came - s.at) (drop s.at text) more (omega (arith, long, within, place)))
          ∙ ap (λ t. take (s.came - s.at) t) (sym (drop-append-le s.at text more (omega (arith, within, place)))),
      most,
      begun,
      summed-longer text more start s.at small order (omega (arith, within, place)) summed,
    )
keeps-longer text more start s (Body front sum) within place order (main, head, short, kept, summed) =
    (main, head, short, kept, sum-longer front.lead.crc text more start s.came sum (omega (arith, order, place)) within summed)

pub at-longer : (text more : List ℕ) (s : Stand) → IsOctets more → IsAt text s → IsAt (text ++ more) s
at-longer text more s fits stands = record {
  octets = octets-join text more stands.octets fits;
  within = omega (arith, stands.within, length-append text more);
  place = stands.place;
  few = stands.few;
  each = stands.each;
  start = stands.start;
  order = stands.order;
  goes_on = λ rest.
      let joined = append_assoc text more rest in
      ap (λ t. read (judged_bundle 64) t 0) joined ∙ stands.goes_on (more ++ rest)
      ∙ ap (λ t. read (left_for s.part s.seen stands.start s.stage) t s.at) (sym joined);
  keeps = keeps-longer text more stands.start s s.stage stands.within stands.place stands.order stands.keeps;
}

pub rest-there : (text more : List ℕ) (s : Stand) → HasCome text s → more ≡ drop s.came (text ++ more)
rest-there text more s come = sym (ap (λ n. drop n (text ++ more)) come.all ∙ drop-append_seam text more)

-- ---- what is kept

pub come-little : (text : List ℕ) (s : Stand) → HasCome text s → KeepsLittle s
come-little text s come = by s.stage refl come.stands.keeps
  where
    by : (stage : Stage) → s.stage ≡ stage → Keeps text come.stands.start s stage → KeepsLittle s
    by Primary stage keeps = record { main = keeps.2; head = rw keeps.3 (omega arith) }
    by (Field small) stage keeps =
        record { main = rw keeps.0 start-begun; head = omega (arith, small-room text s small come.stands stage, keeps.2) }
    by (Body front sum) stage keeps = record { main = rw keeps.0 start-begun; head = rw keeps.1 (omega arith) }

pub taken-start : (s : Stand) → HasCome [] s → s.before ≡ 0 → HasTaken 67108864 (record { before = 0; kept = [] }) s
taken-start s come before = record { took = record { come = come; before = before }; small = lit≤ tt; keeps = come-little [] s come }

-- ---- the table with its values

pub ended-whole : (text : List ℕ) (end : ℕ) → IsOctets text → HasEnded text end → (b : Bundle7) × IsWhole text b end
ended-whole text end fits is = judged-whole text end fits (judged-ok stop_of _ _ tt end ((bundle-keeps 64).reads text 0 ∙ is))

pub looked-refused : (text : List ℕ) (cut : Bool) (e : Refused7) → IsOctets text → read (bundle 64) text 0 ≡ Err (stop_of e) → e.cause ≢ causes.Truncated
    → (e.at ≤ length text) × IsRefused text cut e.at e.cause
looked-refused text cut e fits is other = (
  refusal-within (bundle 64) text e.at (why e.cause) (read-refused (bundle 64) text 0 e.at (why e.cause) fits (omega arith) is),
  inl (is ∙ ap (λ r. stopped e.at r) (is-because e.cause other)),
)

pub place-inside : (text : List ℕ) (p : ℕ) → IsOctets text → read (bundle 64) text 0 ≡ Err (p, truncated) → p ≤ length text
place-inside text p fits is = refusal-within (bundle 64) text p truncated (read-refused (bundle 64) text 0 p truncated fits (omega arith) is)

-- ---- where the octets that came end

module _ (text : List ℕ) (s : Stand) (come : HasCome text s) where
  main-whole : s.stage ≡ Primary → s.main.items ≡ text
  main-whole stage =
      let keeps : Keeps text come.stands.start s Primary = rw stage at come.stands.keeps in
      keeps.1 ∙ take_all s.came text (omega (arith, come.all))

  pub primary-cut : s.stage ≡ Primary → IsCut judged_start text
  primary-cut stage =
      let keeps : Keeps text come.stands.start s Primary = rw stage at come.stands.keeps in
      (keeps.2.0, ap (λ t. read judged_start t 0) (sym (main-whole stage)) ∙ keeps.2.1)

  pub primary-place : s.stage ≡ Primary → (e : Refused7) → read judged_start s.main.items 0 ≡ Err (stop_of e)
      → read (bundle 64) text 0 ≡ Err (e.at, truncated)
  primary-place stage e is =
      let cut = primary-cut stage in
      let here = ap (λ t. read judged_start t 0) (sym (main-whole stage)) ∙ is in
      let same = (stopped_is e.at cut.0 (why e.cause) truncated (sym here ∙ cut.1)).0 in
      bundle-err text (e.at, truncated) (start-fails 64 text 0 (e.at, truncated) (cut.1 ∙ ap (λ n. stopped n truncated) (sym same)))

  field-there : (small : Small) → s.stage ≡ Field small → (p : ℕ) → read (small_field s.part s.seen small) s.head 0 ≡ stopped p truncated
      → read (bundle 64) text 0 ≡ Err (s.at + p, truncated)
  field-there small stage p is =
      let stands = come.stands in
      let keeps : Keeps text stands.start s (Field small) = rw stage at stands.keeps in
      let whole : s.head ≡ drop s.at text =
      keeps.1 ∙ take_all (s.came - s.at) (drop s.at text) (omega (arith, length-drop s.at text, come.all)) in
      let here = cut-from (small_field s.part s.seen small) text s.at p (omega (arith, stands.place, stands.within))
      (small-free s.part s.seen small) (ap (λ t. read (small_field s.part s.seen small) t 0) (sym whole) ∙ is) in
      bundle-err text (s.at + p, truncated) (fails-here text s (s.at + p, truncated) stands
      (rw stage (small-fails s.part s.seen stands.start small text s.at (s.at + p, truncated) keeps.4 here)))

  pub field-place : (small : Small) → s.stage ≡ Field small → (e : Refused7) → read (small_field s.part s.seen small) s.head 0 ≡ Err (stop_of e)
      → read (bundle 64) text 0 ≡ Err (s.at + e.at, truncated)
  field-place small stage e is =
      let inside : IsInside s (Field small) = rw stage at come.inside in
      let same = (stopped_is e.at inside.0 (why e.cause) truncated (sym is ∙ inside.1)).0 in
      field-there small stage e.at (inside.1 ∙ ap (λ n. stopped n truncated) (sym same))

  -- a field of few octets isn't there as a whole
  pub field-never : (small : Small) → s.stage ≡ Field small → (x : Option Front) (end : ℕ)
      → read (small_field s.part s.seen small) s.head 0 ≡ found x end → ⊥
  field-never small stage x end is =
      let inside : IsInside s (Field small) = rw stage at come.inside in
      let no : found x end ≡ stopped inside.0 truncated = sym is ∙ inside.1 in absurd (cc)

  pub body-place : (front : Front) (sum : Sum) → s.stage ≡ Body front sum → read (bundle 64) text 0 ≡ Err (s.at, truncated)
  unfolding left_for
  body-place front sum stage =
      let stands = come.stands in
      let inside : IsInside s (Body front sum) = rw stage at come.inside in
      let cut = body-cut front.lead.kind front.size text s.at (omega (arith, stands.place, stands.within)) (omega (arith, inside, come.all)) in
      bundle-err text (s.at, truncated) (fails-here text s (s.at, truncated) stands
      (rw stage (body-fails s.part text (blocks_left 64 s.seen) s.seen front stands.start s.at (s.at, truncated) cut)))

  pub come-open : IsOpen text
  come-open = by s.stage refl come.inside
    where
      by : (stage : Stage) → s.stage ≡ stage → IsInside s stage → IsOpen text
      by Primary stage inside =
          let cut = primary-cut stage in
          (cut.0, bundle-err text (cut.0, truncated) (start-fails 64 text 0 (cut.0, truncated) cut.1))
      by (Field small) stage inside = (s.at + inside.0, field-there small stage inside.0 inside.1)
      by (Body front sum) stage inside = (s.at, body-place front sum stage)

-- ---- a part of a piece

pub part-whole : (old : Stream) (part : List ℕ) (cut : Bool) (b : Bundle7) (end : ℕ) (s : Stand) → length old.kept ≡ 0 → IsWhole part b end
    → HasCome old.kept s → s.before ≡ old.before → TakesPart old part cut end (Some end) (set_before s (s.before + end))
part-whole old part cut b end s none whole come before =
    let nothing = empty old.kept none in (
      b,
      rw nothing whole,
      omega (arith, none),
      omega (arith, none),
      come-before [] s (s.before + end) (subst (λ t. HasCome t s) nothing come),
      ap (λ n. n + end) before,
    )

pub part-ends : (old : Stream) (part : List ℕ) (cut : Bool) (end : ℕ) (s mid new : Stand) → IsOctets (old.kept ++ part) → HasCome old.kept s
    → s.before ≡ old.before → Ends (old.kept ++ part) s end mid → HasCome [] new → new.before ≡ mid.before + end
    → TakesPart old part cut (end - s.came) (Some end) new
part-ends old part cut end s mid new fits come before ends fresh after =
    let whole = ended-whole (old.kept ++ part) end fits ends.ended in (
      whole.0,
      whole.1,
      omega (arith, ends.late, come.all),
      omega (arith, come.all),
      fresh,
      after ∙ ap (λ n. n + end) (ends.before ∙ before),
    )

pub part-open : (old : Stream) (part : List ℕ) (cut : Bool) (before : ℕ) (new : Stand) → cut ≡ false → before ≡ old.before
    → HasCome (old.kept ++ part) new × (new.before ≡ before) → TakesPart old part cut (length part) None new
part-open old part cut before new last same (come, after) = (last, refl, come, after ∙ same)

-- want of memory
pub part-room : (old : Stream) (part : List ℕ) (cut : Bool) (s : Stand) → HasCome old.kept s → Fails7 (old.kept ++ part) s Memory
    → (s.came ≡ 0 → cut ≡ false) → WantsRoom old part cut
part-room old part cut s come fails last = record {
  begun = λ none.
      let nothing = come.all ∙ ap length none in
      (last nothing, subst (λ t. IsOpen (t ++ part)) none (fails.1 nothing));
  primary = primary-cut old.kept s come fails.0;
}

-- no more may follow, and the bundle is open
pub part-spread : (old : Stream) (part : List ℕ) (at : ℕ) (e : Refused7) (s : Stand) → HasCome old.kept s → s.came ≡ 0 → at ≡ old.before
    → read (bundle 64) part 0 ≡ Err (stop_of e) → e.cause ≡ causes.Truncated → IsTurned old part true at causes.TooLong
part-spread old part at e s come none before is cause =
    let nothing = empty old.kept (omega (arith, none, come.all)) in
    let cut : read (bundle 64) part 0 ≡ Err (e.at, truncated) = rw cause at is in
    record {
      place = 0;
      refused = inr (record { begun = rw nothing (e.at, cut); more = refl; spot = refl; named = refl });
      spot = omega (arith, before);
    }

-- the part is refused where it lies
pub part-turned : (old : Stream) (part : List ℕ) (cut : Bool) (before : ℕ) (e : Refused7) (s : Stand) → HasCome old.kept s → s.came ≡ 0 → before ≡ old.before
    → IsRefused part cut e.at e.cause → IsTurned old part cut (before + e.at) e.cause
part-turned old part cut before e s come none same refused =
    let nothing = empty old.kept (omega (arith, none, come.all)) in
    record { place = e.at; refused = rw nothing refused; spot = ap (λ n. n + e.at) same }

pub part-long : (old : Stream) (part : List ℕ) (at : ℕ) (s : Stand) → HasCome (old.kept ++ part) s → at ≡ old.before
    → IsTurned old part true at causes.TooLong
part-long old part at s come before = record {
  place = 0;
  refused = inr (record { begun = come-open (old.kept ++ part) s come; more = refl; spot = refl; named = refl });
  spot = omega (arith, before);
}

pub part-fails : (old : Stream) (part : List ℕ) (cut : Bool) (before at : ℕ) (cause : Cause7) (s : Stand) → before ≡ old.before
    → Fails7 (old.kept ++ part) s (Refused at cause) → IsTurned old part cut (before + at) cause
part-fails old part cut before at cause s same fails = record {
  place = at;
  refused = inl (bundle-err (old.kept ++ part) (at, because cause) fails);
  spot = ap (λ n. n + at) same;
}

-- ---- a piece

module _ (longest : ℕ) (old : Stream) (piece part : List ℕ) (cut : Bool) (small : length old.kept ≤ longest)
    (is : part ≡ near longest old piece) (cuts : cut ≡ ltb (length part) (length piece)) where
  judges-taken : (used : ℕ) (whole : Option ℕ) (new : Stand) → TakesPart old part cut used whole new
      → JudgesOn longest old piece (Ok (record { used = used; whole = whole })) new
  judges-taken used (Some end) new (b, ends, late, took, come, before) = (
    record { before = old.before + end; kept = [] },
    rw took (takes-size bundles longest old piece part cut small is cuts b end (record { before = old.before + end; kept = [] }) ends late refl),
    record { took = record { come = come; before = before }; small = omega arith; keeps = come-little [] new come },
  )
  judges-taken used None new (last, took, come, before) =
      let sizes = part-of (longest - length old.kept) piece part is in (
        record { before = old.before; kept = old.kept ++ part },
        rw took (takes-open bundles longest old piece part cut small is cuts (record { before = old.before; kept = old.kept ++ part }) last
            (come-open (old.kept ++ part) new come) refl),
        record { took = record { come = come; before = before }; small = omega (arith, length-append old.kept part, sizes.within, small); keeps = come-little (old.kept ++ part) new come },
      )

  pub part-judges : (result : Result Judged7 Fail7) (new : Stand) → JudgesPart old part cut result new → JudgesOn longest old piece result new
  part-judges (Ok judged) new taken = judges-taken judged.used judged.whole new taken
  part-judges (Err (Refused at cause)) new turned = refuses-part bundles longest old piece part cut small is cuts at cause turned.place turned.refused turned.spot
  part-judges (Err Memory) new wants = (
    λ none. begins-open bundles longest old piece part cut small is cuts (wants.begun none),
    wants.primary,
  )

-- the octets of a piece that may be taken
pub near-part : (longest k came : ℕ) (old : Stream) (piece : List ℕ) → k ≡ min (length piece) (longest - came) → came ≡ length old.kept
    → take k piece ≡ near longest old piece
near-part longest k came old piece is all = near-min k (longest - came) piece is ∙ ap (λ n. take (longest - n) piece) all

-- ---- the judge goes on

took-all : (longest : ℕ) (stream after : Stream) (piece : List ℕ) (used : ℕ) (whole : Option ℕ) (old new : Stand)
    → HasTaken longest stream old → JudgesPiece longest stream piece (Ok (record { used = used; whole = whole })) after → HasTaken longest after new
    → taken_by new ≡ taken_by old + used
took-all longest stream after piece used (Some size) old new before (same, (b, spells, takes)) now =
    let is = takes.4 in
    omega (arith, before.took.before, before.took.come.all, now.took.before, now.took.come.all, ap (λ (s : Stream). s.before) is, ap (λ (s : Stream). length s.kept) is)
took-all longest stream after piece used None old new before takes now =
    let is = takes.3 in
    omega (
      arith,
      takes.0,
      before.took.before,
      before.took.come.all,
      now.took.before,
      now.took.come.all,
      ap (λ (s : Stream). s.before) is,
      ap (λ (s : Stream). length s.kept) is,
      length-append stream.kept piece,
    )

pub goes-on : (stream : Stream) (piece : List ℕ) (result : Result Judged7 Fail7) (old new : Stand) → HasTaken 67108864 stream old
    → JudgesOn 67108864 stream piece result new
    → IfOk result (λ judged. IsTaking new × (taken_by new ≡ taken_by old + judged.used))
goes-on stream piece (Ok judged) old new before (after, judges, now) =
    ((after, now), took-all 67108864 stream after piece judged.used judged.whole old new before judges now)
goes-on stream piece (Err fail) old new before judges = tt
