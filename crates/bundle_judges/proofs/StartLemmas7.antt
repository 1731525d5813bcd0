-- A step of a judge: octets of the primary block.

use Rattle.std.proofs.Common.{◌≡◌, ◌≢◌, ℕ, ◌+◌, ◌-◌, ◌<◌, ◌≤◌, ltb, min, Bool, true, false, if◌then◌else◌, List, [], ◌++◌, length, take, drop, Option, Vec, Global, Ok, refl, sym, ap, ◌∙◌, subst, arith, length-append, take-append-drop}
use Rattle.std.proofs.lemmas.Bool.{ltb-true, ltb-false}
use Rattle.std.proofs.lemmas.List.{length-take-le, length-drop, take_all}
use Rattle.std.proofs.Math.Seq.{take-append_seam}
use Rattle.endpoint.specs.declared.extent.Fragment.{Fragment}
use Rattle.wire_fields.specs.Refusal.{truncated, because}
use Rattle.wire_fields.specs.Reading.{read, IsOctets}
use Rattle.wire_fields.proofs.ResultLemmas.{found, stopped}
use Rattle.wire_fields.proofs.StayLemmas.{octets-front, read-stays}
use Rattle.wire_fields.proofs.ContinueLemmas.{found-longer}
use Rattle.wire_fields.proofs.TextLemmas.{front_seam}
use Rattle.bundle7.specs.declared.fault.Cause7.{Cause7}
use Rattle.bundle7.specs.declared.fault.Cause7.TheVariants as causes
use Rattle.bundle7.specs.declared.fault.Fail7.TheVariants.{Refused}
use Rattle.bundle7.specs.Cause.{why}
use Rattle.bundle7.specs.Judging.{judged_start}
use Rattle.bundle7.specs.Streaming.{IsOpen}
use Rattle.bundle7.proofs.PassLemmas.{start-fails}
use Rattle.bundle7.proofs.ReaderLemmas.{is-because}
use Rattle.bundle_judges.specs.declared.stand7.Stage.TheVariants.{Primary}
use Rattle.bundle_judges.specs.declared.stand7.Step.TheVariants.{After, Waits}
use Rattle.bundle_judges.specs.declared.stand7.Stand.{Stand}
use Rattle.bundle_judges.specs.Field7.{left_for, IsCut}
use Rattle.bundle_judges.specs.Stand7.{Keeps, IsAt, Fails7, steps_left, Moves, Stays, waiting, waited, Starts, Steps}
use Rattle.bundle_judges.proofs.MovedLemmas.{ends-late}
use Rattle.bundle_judges.proofs.StepLemmas7.{bundle-err}

pub start-begun : IsCut judged_start []
unfolding judged_start
start-begun = (0, refl)

abbrev pub with_main : Stand → Vec ℕ Global → Stand
with_main s main = record {
  before = s.before;
  came = s.came;
  at = s.at;
  stage = s.stage;
  seen = s.seen;
  part = s.part;
  main = main;
  head = s.head;
}

-- octets of it that are kept, of which so many came now
pub record Chunk (text : List ℕ) (s : Stand) (main : List ℕ) (more : ℕ) : Type 0 where
  pub front : main ≡ take (s.came + more) text
  pub joined : main ++ drop (s.came + more) text ≡ text
  pub few : IsOctets main
  pub kept : length s.main.items ≡ s.came
  pub cut : IsCut judged_start s.main.items
  pub within : s.came + more ≤ length text
  pub at : s.at ≡ 0
  pub head : s.head ≡ []
  pub parts : List ℕ
  pub both : main ≡ s.main.items ++ parts

pub chunk-joins : (text rest chunk : List ℕ) (s : Stand) (main : List ℕ) (n : ℕ) → IsAt text s → s.stage ≡ Primary → rest ≡ drop s.came text
    → chunk ≡ take n rest → main ≡ s.main.items ++ chunk → Chunk text s main (length chunk)
chunk-joins text rest chunk s main n stands stage is part both =
    let keeps : Keeps text stands.start s Primary = rw stage at stands.keeps in
    let kept : length s.main.items ≡ s.came = ap length keeps.1 ∙ length-take-le s.came text stands.within in
    let whole : chunk ++ drop n rest ≡ drop s.came text = ap (λ t. t ++ drop n rest) part ∙ take-append-drop n rest ∙ is in
    let long : length chunk + length (drop n rest) ≡ length text - s.came =
    sym (length-append chunk (drop n rest)) ∙ ap length whole ∙ length-drop s.came text in
    let here : chunk ≡ take (length chunk) (drop s.came text) =
    sym (take-append_seam chunk (drop n rest)) ∙ ap (λ t. take (length chunk) t) whole in
    let spot : length chunk ≡ s.came + length chunk - s.came = omega arith in
    let front : main ≡ take (s.came + length chunk) text =
    both ∙ ap (λ t. t ++ chunk) keeps.1 ∙ ap (λ t. take s.came text ++ t) here
    ∙ ap (λ k. take s.came text ++ take k (drop s.came text)) spot
    ∙ front_seam text s.came (s.came + length chunk) (omega arith) in
    let joined : main ++ drop (s.came + length chunk) text ≡ text =
    ap (λ t. t ++ drop (s.came + length chunk) text) front ∙ take-append-drop (s.came + length chunk) text in
    record {
      front = front;
      joined = joined;
      few = octets-front main (drop (s.came + length chunk) text) (subst IsOctets (sym joined) stands.octets);
      kept = kept;
      cut = keeps.2;
      within = omega (arith, long, stands.within);
      at = keeps.0;
      head = keeps.3;
      parts = chunk;
      both = both;
    }

-- it ended
pub start-late : (text : List ℕ) (s : Stand) (main : List ℕ) (more end : ℕ) (part : Option Fragment) → Chunk text s main more
    → read judged_start main 0 ≡ found part end → s.came < end
start-late text s main more end part chunk is =
    let late = ends-late judged_start s.main.items chunk.parts end chunk.cut.0 part (subst IsOctets chunk.both chunk.few) chunk.cut.1
    (ap (λ t. read judged_start t 0) (sym chunk.both) ∙ is) in
    omega (arith, late, chunk.kept)

pub start-starts : (text : List ℕ) (old s : Stand) (main : List ℕ) (more end : ℕ) (part : Option Fragment) → IsAt text old → old.stage ≡ Primary
    → Chunk text old main more → end ≤ length main → read judged_start main 0 ≡ found part end
    → s.came ≡ old.came → s.stage ≡ old.stage → s.main.items ≡ [] → Starts text s part (end - old.came)
start-starts text old s main more end part stands stage chunk within is came same none =
    let rest = drop (old.came + more) text in
    let late = start-late text old main more end part chunk is in
    let long : length main ≡ old.came + more = ap length chunk.front ∙ length-take-le (old.came + more) text chunk.within in
    let ends : end ≡ s.came + (end - old.came) = omega (arith, late, came) in
    record {
      octets = stands.octets;
      within = omega (arith, ends, within, long, chunk.within);
      some = omega (arith, late);
      stage = same ∙ stage;
      main = none;
      reads =
          ap (λ t. read judged_start t 0) (sym chunk.joined)
          ∙ found-longer judged_start main 0 end part chunk.few (omega arith) is rest
          ∙ ap (λ n. found part n) ends;
    }

-- it doesn't end
start-at : (text : List ℕ) (s new : Stand) (main : Vec ℕ Global) (more p : ℕ) → IsAt text s → s.stage ≡ Primary → Chunk text s main.items more
    → new ≡ waiting (with_main s main) (s.came + more) → read judged_start main.items 0 ≡ stopped p truncated → IsAt text new
unfolding left_for
start-at text s new main more p stands stage chunk is cut =
    let now : Keeps text 0 (waiting (with_main s main) (s.came + more)) Primary = (chunk.at, chunk.front, (p, cut), chunk.head) in
    rw is (record {
      octets = stands.octets;
      within = chunk.within;
      place = omega (arith, stands.place);
      few = stands.few;
      each = stands.each;
      start = 0;
      order = omega arith;
      goes_on = rw (stage, chunk.at) (λ rest. refl);
      keeps = rw stage now;
    })

pub start-stays : (text : List ℕ) (s new : Stand) (main : Vec ℕ Global) (more p : ℕ) → IsAt text s → s.stage ≡ Primary → Chunk text s main.items more
    → new ≡ waiting (with_main s main) (s.came + more) → read judged_start main.items 0 ≡ stopped p truncated
    → s.came + more ≡ length text → Stays text s new
start-stays text s new main more p stands stage chunk is cut all =
    let same : new.stage ≡ Primary = ap (λ (x : Stand). x.stage) is ∙ stage in
    record {
      come = record {
        stands = start-at text s new main more p stands stage chunk is cut;
        all = ap (λ (x : Stand). x.came) is ∙ all;
        inside = rw same tt;
      };
      before = ap (λ (x : Stand). x.before) is;
    }

pub start-moves : (text : List ℕ) (s new : Stand) (main : Vec ℕ Global) (more p : ℕ) → IsAt text s → s.stage ≡ Primary → Chunk text s main.items more
    → new ≡ waiting (with_main s main) (s.came + more) → read judged_start main.items 0 ≡ stopped p truncated
    → 0 < more → 0 < s.came → Moves text s more new
start-moves text s new main more p stands stage chunk is cut some begun =
    let same : new.stage ≡ Primary = ap (λ (x : Stand). x.stage) is ∙ stage in
    let none : steps_left new.stage ≡ 0 = ap steps_left same in
    record {
      stands = start-at text s new main more p stands stage chunk is cut;
      fewer = omega (arith, none, some);
      came = ap (λ (x : Stand). x.came) is;
      before = ap (λ (x : Stand). x.before) is;
      stage = λ primary. (stage, begun);
    }

-- so many octets of those that are there were kept
pub start-waited : (text rest : List ℕ) (s new : Stand) (main : Vec ℕ Global) (n more p : ℕ) → IsAt text s → s.stage ≡ Primary → rest ≡ drop s.came text
    → n ≡ min (length rest) 4096 → more ≡ length (take n rest) → Chunk text s main.items more
    → new ≡ waiting (with_main s main) (s.came + more) → read judged_start main.items 0 ≡ stopped p truncated
    → 0 < s.came → Steps text s (Ok (waited more (length rest))) new
start-waited text rest s new main n more p stands stage is least size chunk same cut begun = by (ltb more (length rest)) refl
  where
    long : more ≡ n
    long = size ∙ length-take-le n rest (omega (arith, least))

    there : length rest ≡ length text - s.came
    there = ap length is ∙ length-drop s.came text

    by : (less : Bool) → ltb more (length rest) ≡ less → Steps text s (Ok (if less then After more else Waits)) new
    by true less =
        let low = ltb-true more (length rest) less in
        start-moves text s new main more p stands stage chunk same cut (omega (arith, long, least, low)) begun
    by false less =
        let high = ltb-false more (length rest) less in
        start-stays text s new main more p stands stage chunk same cut (omega (arith, long, least, high, there, stands.within))

-- it is refused
pub start-refused : (text : List ℕ) (s : Stand) (main : List ℕ) (more p : ℕ) (cause : Cause7) → Chunk text s main more
    → read judged_start main 0 ≡ stopped p (why cause) → cause ≢ causes.Truncated → Fails7 text s (Refused p cause)
start-refused text s main more p cause chunk is other =
    let because_of : read judged_start main 0 ≡ stopped p (because cause) = is ∙ ap (λ r. stopped p r) (is-because cause other) in
    let there : read judged_start text 0 ≡ stopped p (because cause) =
    ap (λ t. read judged_start t 0) (sym chunk.joined)
    ∙ read-stays judged_start main (drop (s.came + more) text) 0 chunk.few (omega arith) (rw because_of tt) ∙ because_of in
    start-fails 64 text 0 (p, because cause) there

-- ---- the same where it lies

pub start-here : (text rest : List ℕ) (s : Stand) → s.came ≡ 0 → rest ≡ drop s.came text → rest ≡ text
start-here text rest s none is = is ∙ ap (λ n. drop n text) none

pub starts-here : (text rest : List ℕ) (s : Stand) (end : ℕ) (part : Option Fragment) → IsAt text s → s.stage ≡ Primary → s.came ≡ 0
    → rest ≡ drop s.came text → end ≤ length rest → read judged_start rest 0 ≡ found part end → Starts text s part end
starts-here text rest s end part stands stage none is within reads =
    let same = start-here text rest s none is in
    let keeps : Keeps text stands.start s Primary = rw stage at stands.keeps in
    let late = ends-late judged_start [] rest end start-begun.0 part (subst IsOctets (sym same) stands.octets) start-begun.1 reads in
    record {
      octets = stands.octets;
      within = omega (arith, none, within, ap length same);
      some = late;
      stage = stage;
      main = keeps.1 ∙ ap (λ n. take n text) none;
      reads = ap (λ t. read judged_start t 0) (sym same) ∙ reads ∙ ap (λ n. found part n) (omega (arith, none));
    }

pub stays-here : (text rest : List ℕ) (s new : Stand) (main : Vec ℕ Global) (p : ℕ) → IsAt text s → s.stage ≡ Primary → s.came ≡ 0 → rest ≡ drop s.came text
    → main.items ≡ s.main.items ++ rest → new ≡ waiting (with_main s main) (s.came + length rest)
    → read judged_start rest 0 ≡ stopped p truncated → Stays text s new
stays-here text rest s new main p stands stage none is both same cut =
    let here = start-here text rest s none is in
    let keeps : Keeps text stands.start s Primary = rw stage at stands.keeps in
    let nothing : s.main.items ≡ [] = keeps.1 ∙ ap (λ n. take n text) none in
    let whole : main.items ≡ rest = both ∙ ap (λ t. t ++ rest) nothing in
    let chunk = chunk-joins text rest rest s main.items (length rest) stands stage is (sym (take_all (length rest) rest (omega arith))) both in
    start-stays text s new main (length rest) p stands stage chunk same (ap (λ t. read judged_start t 0) whole ∙ cut) (omega (arith, none, ap length here))

pub refused-here : (text rest : List ℕ) (s : Stand) (p : ℕ) (cause : Cause7) → s.came ≡ 0 → rest ≡ drop s.came text
    → read judged_start rest 0 ≡ stopped p (why cause) → cause ≢ causes.Truncated → Fails7 text s (Refused p cause)
refused-here text rest s p cause none is reads other =
    start-fails 64 text 0 (p, because cause)
    (ap (λ t. read judged_start t 0) (sym (start-here text rest s none is)) ∙ reads ∙ ap (λ r. stopped p r) (is-because cause other))

pub open-here : (text rest : List ℕ) (s : Stand) (p : ℕ) → s.came ≡ 0 → rest ≡ drop s.came text
    → read judged_start rest 0 ≡ stopped p truncated → IsOpen text
open-here text rest s p none is cut =
    (p, bundle-err text (p, truncated) (start-fails 64 text 0 (p, truncated) (ap (λ t. read judged_start t 0) (sym (start-here text rest s none is)) ∙ cut)))
