-- Blocks of a bundle where they lie, after one another.

use Rattle.std.proofs.Common.{◌≡◌, ℕ, ◌+◌, ◌<◌, ◌≤◌, ◌==◌, ◌||◌, true, false, List, length, drop, Option, Ok, refl, ap, ◌∙◌, subst, arith}
use Rattle.std.proofs.lemmas.List.{length-drop, drop-drop}
use Rattle.endpoint.specs.declared.extent.Fragment.{Fragment}
use Rattle.wire_fields.specs.Words.{exact_octet}
use Rattle.wire_fields.specs.Reading.{read}
use Rattle.wire_fields.proofs.ResultLemmas.{found}
use Rattle.bundle7.specs.declared.fault.Cause7.TheVariants.{Break}
use Rattle.bundle7.specs.declared.block.Lead.{Lead}
use Rattle.bundle7.specs.declared.seen.Seen.{Seen}
use Rattle.bundle7.specs.Seen.{seen_with}
use Rattle.bundle7.specs.Judging.{none_seen}
use Rattle.bundle_judges.specs.declared.stand7.Small.TheVariants.{Block, End}
use Rattle.bundle_judges.specs.declared.stand7.Stage.{Stage}
use Rattle.bundle_judges.specs.declared.stand7.Stage.TheVariants.{Field}
use Rattle.bundle_judges.specs.declared.stand7.Step.TheVariants.{After}
use Rattle.bundle_judges.specs.declared.stand7.Stand.{Stand}
use Rattle.bundle_judges.specs.Here7.{HasBlock}
use Rattle.bundle_judges.specs.Stand7.{Moves, Ends, entered, Checks, Reaches, StartsOn}
use Rattle.bundle_judges.proofs.StandLemmas7.{with_seen, checks-last, checks-more, with_start, starts-on}
use Rattle.bundle_judges.proofs.StepLemmas7.{steps-same}
use Rattle.bundle_judges.proofs.HereLemmas7.{end-ends, block-checks}

-- what is moved to from a stand is moved to from one that counts the same
moves-same : (text : List ℕ) (s t new : Stand) (n : ℕ) → t.came ≡ s.came → t.before ≡ s.before → t.stage ≡ s.stage → Moves text t n new
    → Moves text s n new
moves-same text s t new n came before stage moves = steps-same text s t (Ok (After n)) new came before stage moves

moves-both : (text : List ℕ) (s mid new : Stand) (n m : ℕ) → Moves text s n mid → Moves text mid m new → Moves text s (n + m) new
moves-both text s mid new n m first second = record {
  stands = second.stands;
  fewer = omega (arith, first.fewer, second.fewer);
  came = omega (arith, first.came, second.came);
  before = second.before ∙ first.before;
  stage = λ is. first.stage (second.stage is).0;
}

-- the octets after those with which a stage is entered
after-there : (text rest : List ℕ) (s : Stand) (stage : Stage) (to : ℕ) → Reaches text s rest stage to → drop to rest ≡ drop (s.came + to) text
after-there text rest s stage to reaches = ap (drop to) reaches.is ∙ drop-drop to s.came text

pub reaches-within : (text rest : List ℕ) (s : Stand) (stage : Stage) (to : ℕ) → Reaches text s rest stage to → to ≤ length rest
reaches-within text rest s stage to reaches = omega (arith, reaches.moves.stands.within, ap length reaches.is ∙ length-drop s.came text)

-- blocks follow the primary block
pub reaches-start : (text rest : List ℕ) (s : Stand) (part : Option Fragment) (seen : Seen) (more : ℕ) → StartsOn text s rest part more
    → seen ≡ none_seen → Reaches text (with_start s part seen) rest (Field Block) more
reaches-start text rest s part seen more starts none = record {
  moves = moves-same text (with_start s part seen) s (entered (with_start s part seen) (Field Block) (s.came + more)) more refl refl refl
      (starts-on text s part seen more starts.starts none);
  is = starts.is;
}

module _ (text rest : List ℕ) (s : Stand) (to : ℕ) (lead : Lead) (more : ℕ) (reaches : Reaches text s rest (Field Block) to)
    (block : HasBlock s.part s.seen (drop to rest) lead more) where
  abbrev here : Stand
  here = entered s (Field Block) (s.came + to)

  checks : Checks text here lead more
  checks =
      block-checks text (drop to rest) here lead more reaches.moves.stands refl refl (after-there text rest s (Field Block) to reaches) block

  spot : s.came + to + more ≡ s.came + (to + more)
  spot = omega arith

  pub block-some : 0 < more
  block-some = omega (arith, checks.some)

  -- the mark follows the last block
  pub reaches-last : (lead.kind == 1 || length s.seen.kinds == 64) ≡ true → Reaches text s rest (Field End) (to + more)
  reaches-last last = record {
    moves = subst (λ n. Moves text s (to + more) (entered s (Field End) n)) spot
        (moves-both text s here (entered s (Field End) (s.came + to + more)) to more reaches.moves (checks-last text here lead more checks last));
    is = reaches.is;
  }

  -- a block follows another
  pub reaches-more : (seen : Seen) → (lead.kind == 1 || length s.seen.kinds == 64) ≡ false → seen ≡ seen_with s.seen lead.kind lead.number
      → Reaches text (with_seen s seen) rest (Field Block) (to + more)
  reaches-more seen last is = record {
    moves = subst (λ n. Moves text (with_seen s seen) (to + more) (entered (with_seen s seen) (Field Block) n)) spot
        (moves-same text (with_seen s seen) s (entered (with_seen s seen) (Field Block) (s.came + to + more)) (to + more) refl refl refl
        (moves-both text s here (entered (with_seen s seen) (Field Block) (s.came + to + more)) to more reaches.moves
        (checks-more text here seen lead more checks last is)));
    is = reaches.is;
  }

-- the mark that ends the bundle
pub end-here : (text left rest : List ℕ) (s : Stand) (more mark end : ℕ) → Reaches text s left (Field End) more → rest ≡ drop more left
    → read (exact_octet 0xFF Break) rest 0 ≡ found mark end → Ends text s (s.came + more + end) s
end-here text left rest s more mark end reaches is reads =
    let ends = end-ends text rest (entered s (Field End) (s.came + more)) mark end reaches.moves.stands refl refl
    (is ∙ after-there text left s (Field End) more reaches) reads in
    record { ended = ends.ended; late = omega arith; before = refl }
