-- A piece of a stream: what the octets that came are, and what a part of a piece makes of them.

use Rattle.std.proofs.Common.{◌≡◌, ◌≢◌, ℕ, zero, suc, ◌+◌, ◌-◌, ◌<◌, ◌≤◌, lit≤, ltb, min, Bool, true, false, List, [], ◌∷◌, ◌++◌, length, take, drop, Option, Some, None, Result, Ok, Err, IfOk, inl, inr, refl, sym, ap, ◌∙◌, subst, arith, append_assoc, length-append}
use Rattle.std.proofs.lemmas.List.{length-drop, take-append-le, drop-append-le, take_all}
use Rattle.std.proofs.Math.Seq.{drop-append_seam}
use Rattle.wire_fields.specs.Refusal.{Stop, truncated, because}
use Rattle.wire_fields.specs.Reading.{read, IsOctets}
use Rattle.wire_fields.specs.Gives.{Judges}
use Rattle.wire_fields.proofs.ResultLemmas.{found, stopped, stopped_is}
use Rattle.wire_fields.proofs.ReadLemmas.{read-found, read-refused}
use Rattle.wire_fields.proofs.StayLemmas.{refusal-within}
use Rattle.wire_fields.proofs.StreamLemmas.{octets-nothing, part-of, takes-size, takes-open, refuses-part, begins-open, near-min}
use Rattle.wire_fields.proofs.JudgeLemmas.{judged-ok, judged-err}
use Rattle.bundle6.specs.declared.fault.Cause6.{Cause6}
use Rattle.bundle6.specs.declared.fault.Cause6.TheVariants as causes
use Rattle.bundle6.specs.declared.fault.Refused6.{Refused6}
use Rattle.bundle6.specs.declared.fault.Fail6.{Fail6}
use Rattle.bundle6.specs.declared.fault.Fail6.TheVariants.{Refused, Memory}
use Rattle.bundle6.specs.declared.bundle.Bundle6.{Bundle6}
use Rattle.bundle6.specs.declared.reader.Judged6.{Judged6}
use Rattle.bundle6.specs.Cause.{why, stop_of}
use Rattle.bundle6.specs.Table.{bundle}
use Rattle.bundle6.specs.Judging.{judged_primary, judged_bundle}
use Rattle.bundle6.specs.Streaming.{Stream, bundles, IsOpen, near, JudgesPiece}
use Rattle.bundle6.specs.Holding.{IsRefused, IsWhole}
use Rattle.bundle6.proofs.JudgeLemmas.{bundle-keeps}
use Rattle.bundle6.proofs.PassLemmas.{primary-fails}
use Rattle.bundle6.proofs.ReaderLemmas.{is-because, judged-whole}
use Rattle.bundle_judges.specs.declared.stand6.Small.{Small}
use Rattle.bundle_judges.specs.declared.stand6.Stage.{Stage}
use Rattle.bundle_judges.specs.declared.stand6.Stage.TheVariants.{Primary, Field, Body}
use Rattle.bundle_judges.specs.declared.stand6.Stand.{Stand}
use Rattle.bundle_judges.specs.Field6.{small_field, left_for, IsCut}
use Rattle.bundle_judges.specs.Stand6.{dictionary_of, Keeps, IsAt, HasCome, HasEnded, Fails6, Ends, TakesPart, IsTurned, WantsRoom, JudgesPart}
use Rattle.bundle_judges.specs.Judging6.{KeepsLittle, HasTaken, IsTaking, taken_by, JudgesOn}
use Rattle.bundle_judges.proofs.MovedLemmas.{cut-from}
use Rattle.bundle_judges.proofs.FieldLemmas6.{small-free, small-fails, octets-cut}
use Rattle.bundle_judges.proofs.StandLemmas6.{fails-here}
use Rattle.bundle_judges.proofs.FewLemmas6.{small-room}

-- ---- octets

pub octets-join : (u v : List ℕ) → IsOctets u → IsOctets v → IsOctets (u ++ v)
octets-join [] v first second i = second i
octets-join (x ∷ u) v first second zero = first 0
octets-join (x ∷ u) v first second (suc i) = octets-join u v (λ j. first (suc j)) second i

empty : (xs : List ℕ) → length xs ≡ 0 → xs ≡ []
empty [] none = refl
empty (x ∷ xs) none = absurd (omega (arith, none))

-- ---- nothing came

primary-begun : IsCut judged_primary []
unfolding judged_primary
primary-begun = (0, refl)

pub come-nothing : (s : Stand) → s.came ≡ 0 → s.at ≡ 0 → s.stage ≡ Primary → s.seen.others ≡ 0 → s.texts.from ≡ 0 → s.texts.to ≡ 0
    → s.main.items ≡ [] → s.head ≡ [] → HasCome [] s
unfolding left_for
come-nothing s came at stage others from to main head =
    let keeps : Keeps [] s Primary = (at, main ∙ sym (ap (λ n. take n []) came), rw main primary-begun, head) in
    record {
      stands = record {
        octets = octets-nothing;
        within = omega (arith, came);
        place = omega (arith, at);
        few = omega (arith, others);
        order = omega (arith, from);
        inside = omega (arith, to);
        goes_on = rw (stage, at) (λ more. refl);
        main = inl (rw main primary-begun);
        keeps = rw stage keeps;
      };
      all = came;
    }

abbrev pub set_before : Stand → ℕ → Stand
set_before s before = record {
  before = before;
  came = s.came;
  at = s.at;
  stage = s.stage;
  seen = s.seen;
  part = s.part;
  main = s.main;
  texts = s.texts;
  head = s.head;
}

keeps-before : (text : List ℕ) (s : Stand) (before : ℕ) (stage : Stage) → Keeps text s stage → Keeps text (set_before s before) stage
keeps-before text s before Primary keeps = keeps
keeps-before text s before (Field small) keeps = keeps
keeps-before text s before (Body size last) keeps = keeps

pub come-before : (text : List ℕ) (s : Stand) (before : ℕ) → HasCome text s → HasCome text (set_before s before)
come-before text s before come =
    let stands = come.stands in
    record {
      stands = record {
        octets = stands.octets;
        within = stands.within;
        place = stands.place;
        few = stands.few;
        order = stands.order;
        inside = stands.inside;
        goes_on = stands.goes_on;
        main = stands.main;
        keeps = keeps-before text s before s.stage stands.keeps;
      };
      all = come.all;
    }

-- ---- more octets are there

keeps-longer : (text more : List ℕ) (s : Stand) (stage : Stage) → s.came ≤ length text → s.at ≤ s.came → Keeps text s stage → Keeps (text ++ more) s stage
keeps-longer text more s Primary within place (at, main, cut, head) = (at, main ∙ sym (take-append-le s.came text more within), cut, head)
keeps-longer text more s (Field small) within place (head, cut) =
    let long = length-drop s.at text in (
      head ∙ sym (take-append-le (s.came - s.at) (drop s.at text) more (omega (arith, long, within, place)))
          ∙ ap (λ t. take (s.came - s.at) t) (sym (drop-append-le s.at text more (omega (arith, within, place)))),
      cut,
    )
keeps-longer text more s (Body size last) within place keeps = keeps

pub at-longer : (text more : List ℕ) (s : Stand) → IsOctets more → IsAt text s → IsAt (text ++ more) s
at-longer text more s fits stands = record {
  octets = octets-join text more stands.octets fits;
  within = omega (arith, stands.within, length-append text more);
  place = stands.place;
  few = stands.few;
  order = stands.order;
  inside = stands.inside;
  main = stands.main;
  goes_on = λ rest.
      let joined = append_assoc text more rest in
      ap (λ t. read (judged_bundle 64) t 0) joined ∙ stands.goes_on (more ++ rest)
      ∙ ap (λ t. read (left_for s.part (dictionary_of s) s.seen s.stage) t s.at) (sym joined);
  keeps = keeps-longer text more s s.stage stands.within stands.place stands.keeps;
}

pub rest-there : (text more : List ℕ) (s : Stand) → HasCome text s → more ≡ drop s.came (text ++ more)
rest-there text more s come = sym (ap (λ n. drop n (text ++ more)) come.all ∙ drop-append_seam text more)

-- ---- what is kept

pub come-little : (text : List ℕ) (s : Stand) → HasCome text s → KeepsLittle s
come-little text s come = record { main = come.stands.main; head = by s.stage refl come.stands.keeps }
  where
    none : (xs : List ℕ) → xs ≡ [] → length xs < 21
    none xs is = rw is (omega arith)

    by : (stage : Stage) → s.stage ≡ stage → Keeps text s stage → length s.head < 21
    by Primary stage keeps = none s.head keeps.3
    by (Field small) stage keeps = small-room text s small come.stands stage
    by (Body size last) stage keeps = none s.head keeps.1

pub taken-start : (s : Stand) → HasCome [] s → s.before ≡ 0 → HasTaken 67108864 (record { before = 0; kept = [] }) s
taken-start s come before = record { took = record { come = come; before = before }; small = lit≤ tt; keeps = come-little [] s come }

-- ---- the table with its values

pub bundle-err : (text : List ℕ) (e : ℕ × Stop Cause6) → read (judged_bundle 64) text 0 ≡ Err e → read (bundle 64) text 0 ≡ Err e
bundle-err text e is = judged-err (λ s. s) _ _ e ((bundle-keeps 64).reads text 0 ∙ is)

pub ended-whole : (text : List ℕ) (end : ℕ) → IsOctets text → HasEnded text end → (b : Bundle6) × IsWhole text b end
ended-whole text end fits (seen, is) = judged-whole text end fits (judged-ok stop_of _ _ seen end ((bundle-keeps 64).reads text 0 ∙ is))

pub looked-refused : (text : List ℕ) (cut : Bool) (e : Refused6) → IsOctets text → read (bundle 64) text 0 ≡ Err (stop_of e) → e.cause ≢ causes.Truncated
    → (e.at ≤ length text) × IsRefused text cut e.at e.cause
looked-refused text cut e fits is other = (
  refusal-within (bundle 64) text e.at (why e.cause) (read-refused (bundle 64) text 0 e.at (why e.cause) fits (omega arith) is),
  inl (is ∙ ap (λ r. stopped e.at r) (is-because e.cause other)),
)

pub place-inside : (text : List ℕ) (p : ℕ) → IsOctets text → read (bundle 64) text 0 ≡ Err (p, truncated) → p ≤ length text
place-inside text p fits is = refusal-within (bundle 64) text p truncated (read-refused (bundle 64) text 0 p truncated fits (omega arith) is)

-- ---- where the octets that came end

module _ (text : List ℕ) (s : Stand) (come : HasCome text s) where
  main-whole : s.stage ≡ Primary → s.main.items ≡ text
  main-whole stage =
      let keeps : Keeps text s Primary = rw stage at come.stands.keeps in
      keeps.1 ∙ take_all s.came text (omega (arith, come.all))

  pub primary-cut : s.stage ≡ Primary → IsCut judged_primary text
  primary-cut stage =
      let keeps : Keeps text s Primary = rw stage at come.stands.keeps in
      (keeps.2.0, ap (λ t. read judged_primary t 0) (sym (main-whole stage)) ∙ keeps.2.1)

  pub primary-place : s.stage ≡ Primary → (e : Refused6) → read judged_primary s.main.items 0 ≡ Err (stop_of e)
      → read (bundle 64) text 0 ≡ Err (e.at, truncated)
  primary-place stage e is =
      let cut = primary-cut stage in
      let here = ap (λ t. read judged_primary t 0) (sym (main-whole stage)) ∙ is in
      let same = (stopped_is e.at cut.0 (why e.cause) truncated (sym here ∙ cut.1)).0 in
      bundle-err text (e.at, truncated) (primary-fails 64 text 0 (e.at, truncated) (cut.1 ∙ ap (λ n. stopped n truncated) (sym same)))

  field-there : (small : Small) → s.stage ≡ Field small → (p : ℕ) → read (small_field s.part (dictionary_of s) s.seen small) s.head 0 ≡ stopped p truncated
      → read (bundle 64) text 0 ≡ Err (s.at + p, truncated)
  field-there small stage p is =
      let stands = come.stands in
      let keeps : Keeps text s (Field small) = rw stage at stands.keeps in
      let whole : s.head ≡ drop s.at text =
      keeps.0 ∙ take_all (s.came - s.at) (drop s.at text) (omega (arith, length-drop s.at text, come.all)) in
      let here = cut-from (small_field s.part (dictionary_of s) s.seen small) text s.at p (omega (arith, stands.place, stands.within))
      (small-free s.part (dictionary_of s) s.seen small) (ap (λ t. read (small_field s.part (dictionary_of s) s.seen small) t 0) (sym whole) ∙ is) in
      bundle-err text (s.at + p, truncated) (fails-here text s (s.at + p, truncated) stands
      (rw stage (small-fails s.part (dictionary_of s) s.seen small text s.at (s.at + p, truncated) here)))

  pub field-place : (small : Small) → s.stage ≡ Field small → (e : Refused6) → read (small_field s.part (dictionary_of s) s.seen small) s.head 0 ≡ Err (stop_of e)
      → read (bundle 64) text 0 ≡ Err (s.at + e.at, truncated)
  field-place small stage e is =
      let keeps : Keeps text s (Field small) = rw stage at come.stands.keeps in
      let same = (stopped_is e.at keeps.1.0 (why e.cause) truncated (sym is ∙ keeps.1.1)).0 in
      field-there small stage e.at (keeps.1.1 ∙ ap (λ n. stopped n truncated) (sym same))

  pub body-place : (size : ℕ) (last : Bool) → s.stage ≡ Body size last → read (bundle 64) text 0 ≡ Err (s.at, truncated)
  body-place size last stage =
      let stands = come.stands in
      let keeps : Keeps text s (Body size last) = rw stage at stands.keeps in
      bundle-err text (s.at, truncated) (fails-here text s (s.at, truncated) stands
      (rw stage (octets-cut s.part (dictionary_of s) s.seen size last text s.at (omega (arith, stands.place, stands.within)) (omega (arith, keeps.0, come.all)))))

  pub come-open : IsOpen text
  come-open = by s.stage refl come.stands.keeps
    where
      by : (stage : Stage) → s.stage ≡ stage → Keeps text s stage → IsOpen text
      by Primary stage keeps =
          let cut = primary-cut stage in
          (cut.0, bundle-err text (cut.0, truncated) (primary-fails 64 text 0 (cut.0, truncated) cut.1))
      by (Field small) stage keeps = (s.at + keeps.1.0, field-there small stage keeps.1.0 keeps.1.1)
      by (Body size last) stage keeps = (s.at, body-place size last stage)

-- ---- a part of a piece

pub part-whole : (old : Stream) (part : List ℕ) (cut : Bool) (b : Bundle6) (end : ℕ) (s : Stand) → length old.kept ≡ 0 → IsWhole part b end
    → HasCome old.kept s → s.before ≡ old.before → TakesPart old part cut end (Some end) (set_before s (s.before + end))
part-whole old part cut b end s none whole come before =
    let nothing = empty old.kept none in (
      b,
      rw nothing whole,
      omega (arith, none),
      omega (arith, none),
      come-before [] s (s.before + end) (subst (λ t. HasCome t s) nothing come),
      ap (λ n. n + end) before,
    )

pub part-ends : (old : Stream) (part : List ℕ) (cut : Bool) (end : ℕ) (s mid new : Stand) → IsOctets (old.kept ++ part) → HasCome old.kept s
    → s.before ≡ old.before → Ends (old.kept ++ part) s end mid → HasCome [] new → new.before ≡ mid.before + end
    → TakesPart old part cut (end - s.came) (Some end) new
part-ends old part cut end s mid new fits come before ends fresh after =
    let whole = ended-whole (old.kept ++ part) end fits ends.ended in (
      whole.0,
      whole.1,
      omega (arith, ends.late, come.all),
      omega (arith, come.all),
      fresh,
      after ∙ ap (λ n. n + end) (ends.before ∙ before),
    )

pub part-open : (old : Stream) (part : List ℕ) (cut : Bool) (before : ℕ) (new : Stand) → cut ≡ false → before ≡ old.before
    → HasCome (old.kept ++ part) new × (new.before ≡ before) → TakesPart old part cut (length part) None new
part-open old part cut before new last same (come, after) = (last, refl, come, after ∙ same)

-- want of memory
pub part-room : (old : Stream) (part : List ℕ) (cut : Bool) (s : Stand) → HasCome old.kept s → s.stage ≡ Primary
    → (s.came ≡ 0 → (cut ≡ false) × IsOpen part) → WantsRoom old part cut
part-room old part cut s come stage begun = record {
  begun = λ none. begun (come.all ∙ ap length none);
  primary = primary-cut old.kept s come stage;
}

pub part-long : (old : Stream) (part : List ℕ) (at : ℕ) (s : Stand) → HasCome (old.kept ++ part) s → at ≡ old.before
    → IsTurned old part true at causes.TooLong
part-long old part at s come before = record {
  place = 0;
  refused = inr (record { begun = come-open (old.kept ++ part) s come; more = refl; spot = refl; named = refl });
  spot = omega (arith, before);
}

pub part-fails : (old : Stream) (part : List ℕ) (cut : Bool) (before at : ℕ) (cause : Cause6) (s : Stand) → before ≡ old.before
    → Fails6 (old.kept ++ part) s (Refused at cause) → IsTurned old part cut (before + at) cause
part-fails old part cut before at cause s same fails = record {
  place = at;
  refused = inl (bundle-err (old.kept ++ part) (at, because cause) fails);
  spot = ap (λ n. n + at) same;
}

-- ---- a piece

module _ (longest : ℕ) (old : Stream) (piece part : List ℕ) (cut : Bool) (small : length old.kept ≤ longest)
    (is : part ≡ near longest old piece) (cuts : cut ≡ ltb (length part) (length piece)) where
  judges-taken : (used : ℕ) (whole : Option ℕ) (new : Stand) → TakesPart old part cut used whole new
      → JudgesOn longest old piece (Ok (record { used = used; whole = whole })) new
  judges-taken used (Some end) new (b, ends, late, took, come, before) = (
    record { before = old.before + end; kept = [] },
    rw took (takes-size bundles longest old piece part cut small is cuts b end (record { before = old.before + end; kept = [] }) ends late refl),
    record { took = record { come = come; before = before }; small = omega arith; keeps = come-little [] new come },
  )
  judges-taken used None new (last, took, come, before) =
      let sizes = part-of (longest - length old.kept) piece part is in (
        record { before = old.before; kept = old.kept ++ part },
        rw took (takes-open bundles longest old piece part cut small is cuts (record { before = old.before; kept = old.kept ++ part }) last
            (come-open (old.kept ++ part) new come) refl),
        record { took = record { come = come; before = before }; small = omega (arith, length-append old.kept part, sizes.within, small); keeps = come-little (old.kept ++ part) new come },
      )

  pub part-judges : (result : Result Judged6 Fail6) (new : Stand) → JudgesPart old part cut result new → JudgesOn longest old piece result new
  part-judges (Ok judged) new taken = judges-taken judged.used judged.whole new taken
  part-judges (Err (Refused at cause)) new turned = refuses-part bundles longest old piece part cut small is cuts at cause turned.place turned.refused turned.spot
  part-judges (Err Memory) new wants = (
    λ none. begins-open bundles longest old piece part cut small is cuts (wants.begun none),
    wants.primary,
  )

-- the octets of a piece that may be taken
pub near-part : (longest k came : ℕ) (old : Stream) (piece : List ℕ) → k ≡ min (length piece) (longest - came) → came ≡ length old.kept
    → take k piece ≡ near longest old piece
near-part longest k came old piece is all = near-min k (longest - came) piece is ∙ ap (λ n. take (longest - n) piece) all

-- ---- the judge goes on

took-all : (longest : ℕ) (stream after : Stream) (piece : List ℕ) (used : ℕ) (whole : Option ℕ) (old new : Stand)
    → HasTaken longest stream old → JudgesPiece longest stream piece (Ok (record { used = used; whole = whole })) after → HasTaken longest after new
    → taken_by new ≡ taken_by old + used
took-all longest stream after piece used (Some size) old new before (same, (b, spells, takes)) now =
    let is = takes.4 in
    omega (arith, before.took.before, before.took.come.all, now.took.before, now.took.come.all, ap (λ (s : Stream). s.before) is, ap (λ (s : Stream). length s.kept) is)
took-all longest stream after piece used None old new before takes now =
    let is = takes.3 in
    omega (
      arith,
      takes.0,
      before.took.before,
      before.took.come.all,
      now.took.before,
      now.took.come.all,
      ap (λ (s : Stream). s.before) is,
      ap (λ (s : Stream). length s.kept) is,
      length-append stream.kept piece,
    )

pub goes-on : (stream : Stream) (piece : List ℕ) (result : Result Judged6 Fail6) (old new : Stand) → HasTaken 67108864 stream old
    → JudgesOn 67108864 stream piece result new
    → IfOk result (λ judged. IsTaking new × (taken_by new ≡ taken_by old + judged.used))
goes-on stream piece (Ok judged) old new before (after, judges, now) =
    ((after, now), took-all 67108864 stream after piece judged.used judged.whole old new before judges now)
goes-on stream piece (Err fail) old new before judges = tt
