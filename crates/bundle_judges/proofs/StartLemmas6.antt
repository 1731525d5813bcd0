-- A step of a judge: octets of the primary block.

use Rattle.std.proofs.Common.{◌≡◌, ◌≢◌, ℕ, ◌+◌, ◌-◌, ◌<◌, ◌≤◌, min, List, [], ◌++◌, length, take, drop, Option, inl, inr, refl, sym, ap, ◌∙◌, subst, arith, length-append, take-append-drop}
use Rattle.std.proofs.lemmas.List.{length-take-le, length-drop, take-take, take_all}
use Rattle.std.proofs.Math.Seq.{take-append_seam}
use Rattle.endpoint.specs.declared.extent.Fragment.{Fragment}
use Rattle.wire_fields.specs.Format.{Format}
use Rattle.wire_fields.specs.Refusal.{Stop, truncated, because}
use Rattle.wire_fields.specs.Reading.{read, IsOctets}
use Rattle.wire_fields.proofs.ResultLemmas.{found, stopped, found_is}
use Rattle.wire_fields.proofs.StayLemmas.{octets-front, read-stays, read-begins, begins-read}
use Rattle.wire_fields.proofs.ContinueLemmas.{found-longer}
use Rattle.wire_fields.proofs.TextLemmas.{front_seam}
use Rattle.bundle6.specs.declared.fault.Cause6.{Cause6}
use Rattle.bundle6.specs.declared.fault.Cause6.TheVariants as causes
use Rattle.bundle6.specs.declared.fault.Fail6.TheVariants.{Refused}
use Rattle.bundle6.specs.Cause.{why}
use Rattle.bundle6.specs.Judging.{judged_primary, none_seen}
use Rattle.bundle6.proofs.PassLemmas.{primary-continues, primary-fails}
use Rattle.bundle6.proofs.ReaderLemmas.{is-because}
use Rattle.bundle_judges.specs.declared.stand6.Small.TheVariants.{Block}
use Rattle.bundle_judges.specs.declared.stand6.Stage.TheVariants.{Primary, Field}
use Rattle.bundle_judges.specs.declared.stand6.Stand.{Stand}
use Rattle.bundle_judges.specs.Field6.{left_for, IsCut}
use Rattle.bundle_judges.specs.Stand6.{dictionary_of, Keeps, IsAt, Fails6, Moves, Enters, Fills}
use Rattle.bundle_judges.proofs.MovedLemmas.{ends-late}
use Rattle.bundle_judges.proofs.StandLemmas6.{came_more}

-- some octets more of it are kept
pub record Chunk (text : List ℕ) (s : Stand) (main : List ℕ) (more : ℕ) : Type 0 where
  pub front : main ≡ take (s.came + more) text
  pub joined : main ++ drop (s.came + more) text ≡ text
  pub few : IsOctets main
  pub longer : length s.main.items ≤ length main
  pub kept : length s.main.items ≡ s.came
  pub cut : IsCut judged_primary s.main.items
  pub within : s.came + more ≤ length text
  pub at : s.at ≡ 0
  pub head : s.head ≡ []
  pub parts : List ℕ
  pub both : main ≡ s.main.items ++ parts

pub chunk-joins : (text rest chunk : List ℕ) (s : Stand) (main : List ℕ) (n : ℕ) → IsAt text s → s.stage ≡ Primary → rest ≡ drop s.came text
    → chunk ≡ take n rest → main ≡ s.main.items ++ chunk → Chunk text s main (length chunk)
chunk-joins text rest chunk s main n stands stage is part both =
    let keeps : Keeps text s Primary = rw stage at stands.keeps in
    let kept : length s.main.items ≡ s.came = ap length keeps.1 ∙ length-take-le s.came text stands.within in
    let whole : chunk ++ drop n rest ≡ drop s.came text = ap (λ t. t ++ drop n rest) part ∙ take-append-drop n rest ∙ is in
    let long : length chunk + length (drop n rest) ≡ length text - s.came =
    sym (length-append chunk (drop n rest)) ∙ ap length whole ∙ length-drop s.came text in
    let here : chunk ≡ take (length chunk) (drop s.came text) =
    sym (take-append_seam chunk (drop n rest)) ∙ ap (λ t. take (length chunk) t) whole in
    let spot : length chunk ≡ s.came + length chunk - s.came = omega arith in
    let front : main ≡ take (s.came + length chunk) text =
    both ∙ ap (λ t. t ++ chunk) keeps.1 ∙ ap (λ t. take s.came text ++ t) here
    ∙ ap (λ k. take s.came text ++ take k (drop s.came text)) spot
    ∙ front_seam text s.came (s.came + length chunk) (omega arith) in
    let joined : main ++ drop (s.came + length chunk) text ≡ text =
    ap (λ t. t ++ drop (s.came + length chunk) text) front ∙ take-append-drop (s.came + length chunk) text in
    record {
      front = front;
      joined = joined;
      few = octets-front main (drop (s.came + length chunk) text) (subst IsOctets (sym joined) stands.octets);
      longer = omega (arith, ap length both, length-append s.main.items chunk);
      kept = kept;
      cut = keeps.2;
      within = omega (arith, long, stands.within);
      at = keeps.0;
      head = keeps.3;
      parts = chunk;
      both = both;
    }

pub chunk-some : (rest : List ℕ) (n : ℕ) → 0 < length rest → n ≡ min (length rest) 4096 → 0 < length (take n rest)
chunk-some rest n some is =
    let long : length (take n rest) ≡ n = length-take-le n rest (omega (arith, is)) in
    omega (arith, long, is, some)

-- it ended
pub primary-late : (text : List ℕ) (s : Stand) (main : List ℕ) (more end : ℕ) (x : Option Fragment × List ℕ) → Chunk text s main more
    → read judged_primary main 0 ≡ found x end → s.came < end
primary-late text s main more end x chunk is =
    let late = ends-late judged_primary s.main.items chunk.parts end chunk.cut.0 x (subst IsOctets chunk.both chunk.few) chunk.cut.1
    (ap (λ t. read judged_primary t 0) (sym chunk.both) ∙ is) in
    omega (arith, late, chunk.kept)

-- what is found of a front of octets is found of that front alone
found-front : {C A : Type 0} (f : Format C A) (text : List ℕ) (end : ℕ) (x : A) → IsOctets text → read f text 0 ≡ found x end
    → read f (take end text) 0 ≡ found x (length (take end text))
found-front f text end x fits is =
    let begins = read-begins f text end x fits is in
    let long : length (take end text) ≡ end = length-take-le end text begins.within in
    let same : take end (take end text) ≡ take end text = take_all end (take end text) (omega (arith, long)) in
    begins-read f (take end text) end x (record { within = omega (arith, long); spells = rw same begins.spells })
    ∙ ap (λ n. found x n) (sym long)

-- it ended, and what came after it isn't kept
pub primary-fills : (text : List ℕ) (old s : Stand) (main : List ℕ) (more end : ℕ) (x : Option Fragment × List ℕ) → IsAt text old → Chunk text old main more
    → old.stage ≡ Primary → s.came ≡ old.came → s.stage ≡ old.stage → s.head ≡ old.head → s.main.items ≡ take end main
    → end ≤ length main → read judged_primary main 0 ≡ found x end → Fills text s (end - s.came)
primary-fills text old s main more end x stands chunk stage came same head part within is =
    let late = primary-late text old main more end x chunk is in
    let long : length main ≡ old.came + more = ap length chunk.front ∙ length-take-le (old.came + more) text chunk.within in
    let ends : end ≡ s.came + (end - s.came) = omega (arith, late, came) in
    let front : take end main ≡ take end text =
    ap (take end) chunk.front ∙ take-take end (old.came + more) text (omega (arith, within, long)) in
    record {
      octets = stands.octets;
      within = omega (arith, ends, within, long, chunk.within);
      some = omega (arith, late, came);
      stage = same ∙ stage;
      head = head ∙ chunk.head;
      front = part ∙ front ∙ ap (λ n. take n text) ends;
      whole = (x, rw part (found-front judged_primary main end x chunk.few is));
    }

-- it is read again
pub primary-enters : (text : List ℕ) (old s : Stand) (more end : ℕ) → Fills text old more → s.texts.from ≤ s.texts.to
    → s.texts.to ≤ length s.main.items → s.head ≡ old.head → s.came ≡ old.came → s.main.items ≡ old.main.items
    → read judged_primary s.main.items 0 ≡ found (s.part, dictionary_of s) end → Enters text s none_seen (Field Block) more
unfolding left_for
primary-enters text old s more end fills order inside head came same is =
    let rest = drop (old.came + more) text in
    let joined : s.main.items ++ rest ≡ text = ap (λ t. t ++ rest) (same ∙ fills.front) ∙ take-append-drop (old.came + more) text in
    let few : IsOctets s.main.items = octets-front s.main.items rest (subst IsOctets (sym joined) fills.octets) in
    let long : length s.main.items ≡ old.came + more = ap length (same ∙ fills.front) ∙ length-take-le (old.came + more) text fills.within in
    let whole : read judged_primary s.main.items 0 ≡ found fills.whole.0 (length s.main.items) =
    ap (λ t. read judged_primary t 0) same ∙ fills.whole.1 ∙ ap (λ t. found fills.whole.0 (length t)) (sym same) in
    let spot : end ≡ s.came + more =
    (found_is {E = ℕ × Stop Cause6} (s.part, dictionary_of s) fills.whole.0 end (length s.main.items) (sym is ∙ whole)).1 ∙ long ∙ ap (λ n. n + more) (sym came) in
    let there : read judged_primary text 0 ≡ found (s.part, dictionary_of s) end =
    ap (λ t. read judged_primary t 0) (sym joined)
    ∙ found-longer judged_primary s.main.items 0 end (s.part, dictionary_of s) few (omega arith) is rest in
    record {
      octets = fills.octets;
      within = omega (arith, fills.within, came);
      some = fills.some;
      few = omega arith;
      order = order;
      inside = inside;
      main = inr ((s.part, dictionary_of s), is ∙ ap (λ n. found (s.part, dictionary_of s) n) (spot ∙ ap (λ n. n + more) came ∙ sym long));
      head = head ∙ fills.head;
      later = tt;
      goes_on = λ more.
          primary-continues 64 text 0 end s.part (dictionary_of s) fills.octets (omega arith) there more
          ∙ ap (λ to. read (left_for s.part (dictionary_of s) none_seen (Field Block)) (text ++ more) to) spot;
    }

-- it doesn't end
pub primary-waits : (text : List ℕ) (s new : Stand) (more p : ℕ) → IsAt text s → s.stage ≡ Primary → Chunk text s new.main.items more → 0 < more
    → new ≡ came_more s more new → read judged_primary new.main.items 0 ≡ stopped p truncated → Moves text s more new
unfolding left_for
primary-waits text s new more p stands stage chunk some is cut =
    let now : Keeps text (came_more s more new) Primary = (chunk.at, chunk.front, (p, cut), chunk.head) in
    rw is (record {
      stands = record {
        octets = stands.octets;
        within = chunk.within;
        place = omega (arith, stands.place);
        few = stands.few;
        order = stands.order;
        inside = omega (arith, stands.inside, chunk.longer);
        goes_on = rw (stage, chunk.at) (λ rest. refl);
        main = inl (p, cut);
        keeps = rw stage now;
      };
      some = some;
      came = refl;
      before = refl;
      stage = λ same. stage;
    })

-- it is refused
pub primary-refused : (text : List ℕ) (s : Stand) (main : List ℕ) (more p : ℕ) (cause : Cause6) → Chunk text s main more
    → read judged_primary main 0 ≡ stopped p (why cause) → cause ≢ causes.Truncated → Fails6 text s (Refused p cause)
primary-refused text s main more p cause chunk is other =
    let because_of : read judged_primary main 0 ≡ stopped p (because cause) = is ∙ ap (λ r. stopped p r) (is-because cause other) in
    let there : read judged_primary text 0 ≡ stopped p (because cause) =
    ap (λ t. read judged_primary t 0) (sym chunk.joined)
    ∙ read-stays judged_primary main (drop (s.came + more) text) 0 chunk.few (omega arith) (rw because_of tt) ∙ because_of in
    primary-fails 64 text 0 (p, because cause) there
