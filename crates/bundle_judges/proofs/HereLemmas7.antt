-- A block that is there as a whole, where it lies.

use Rattle.std.proofs.Common.{◌≡◌, ℕ, ◌+◌, ◌-◌, ◌<◌, ◌≤◌, ◌==◌, true, eqb-true, List, [], ◌++◌, length, take, drop, Option, Some, refl, sym, ap, ◌∙◌, subst, arith, append-nil}
use Rattle.std.proofs.lemmas.List.{length-take-le, length-drop, drop-drop, nil_from_length}
use Rattle.std.proofs.Math.Seq.{take-add}
use Rattle.endpoint.specs.declared.extent.Fragment.{Fragment}
use Rattle.wire_fields.specs.Format.{Format, give}
use Rattle.wire_fields.specs.Words.{exact_octet}
use Rattle.wire_fields.specs.Reading.{read, go_on, IsOctets}
use Rattle.wire_fields.proofs.ResultLemmas.{found}
use Rattle.wire_fields.proofs.ReadLemmas.{read-found}
use Rattle.wire_fields.proofs.ContinueLemmas.{continues-in}
use Rattle.wire_fields.proofs.TextLemmas.{octets-drop}
use Rattle.bundle7.specs.declared.fault.Cause7.{Cause7}
use Rattle.bundle7.specs.declared.fault.Cause7.TheVariants.{Break}
use Rattle.bundle7.specs.declared.block.Lead.{Lead}
use Rattle.bundle7.specs.declared.seen.Seen.{Seen}
use Rattle.bundle7.specs.declared.pass.Front.{Front}
use Rattle.bundle7.specs.Table.{body_field}
use Rattle.bundle7.specs.Judging.{judged_front, judged_end, judged_bundle}
use Rattle.bundle7.specs.Passing.{between, blocks_left, judged_on}
use Rattle.bundle7.proofs.PassLemmas.{front-continues, body-continues}
use Rattle.bundle_judges.specs.declared.sum7.Sum.{Sum}
use Rattle.bundle_judges.specs.declared.sum7.Sum.TheVariants.{Unchecked, Short, Long}
use Rattle.bundle_judges.specs.declared.stand7.Small.{Small}
use Rattle.bundle_judges.specs.declared.stand7.Small.TheVariants.{Block, Item, Check, Octets, End}
use Rattle.bundle_judges.specs.declared.stand7.Stage.TheVariants.{Field}
use Rattle.bundle_judges.specs.declared.stand7.Stand.{Stand}
use Rattle.bundle_judges.specs.Sum7.{no_octets, with_octets, check_head, check_octets}
use Rattle.bundle_judges.specs.Field7.{small_field, left_for}
use Rattle.bundle_judges.specs.Here7.{HasCheck, HasBlock}
use Rattle.bundle_judges.specs.Stand7.{Keeps, IsAt, Ends, Checks}
use Rattle.bundle_judges.proofs.MovedLemmas.{NoPlace, moved, read-from, ends-late}
use Rattle.bundle_judges.proofs.SumLemmas7.{with-append, check-continues}
use Rattle.bundle_judges.proofs.FieldLemmas7.{small-free}
use Rattle.bundle_judges.proofs.FewLemmas7.{small-begun}

-- what is found at the front of the octets after a place is found there
found-here : {A : Type 0} (f : Format Cause7 A) (text w : List ℕ) (at n : ℕ) (x : A) → at ≤ length text → NoPlace f → drop at text ≡ w
    → read f w 0 ≡ found x n → read f text at ≡ found x (at + n)
found-here f text w at n x within free same is =
    read-from f text at within free ∙ ap (λ t. moved at (read f t 0)) same ∙ ap (moved at) is

pub none-there : (xs : List ℕ) → (length xs == 0) ≡ true → xs ≡ []
none-there xs none = nil_from_length xs (eqb-true (length xs) 0 none)

-- nothing of a field of few came before
nothing-came : (text : List ℕ) (s : Stand) (small : Small) → IsAt text s → s.stage ≡ Field small → s.head ≡ [] → s.at ≡ s.came
nothing-came text s small stands stage none =
    let keeps : Keeps text stands.start s (Field small) = rw stage at stands.keeps in
    let long : length (take (s.came - s.at) (drop s.at text)) ≡ s.came - s.at =
    length-take-le (s.came - s.at) (drop s.at text) (omega (arith, length-drop s.at text, stands.within)) in
    omega (arith, long, ap length (sym keeps.1 ∙ none), stands.place)

-- the mark that ends a bundle
pub end-ends : (text rest : List ℕ) (s : Stand) (mark end : ℕ) → IsAt text s → s.stage ≡ Field End → s.head ≡ [] → rest ≡ drop s.came text
    → read (exact_octet 0xFF Break) rest 0 ≡ found mark end → Ends text s (s.came + end) s
unfolding left_for
end-ends text rest s mark end stands stage none is reads =
    let there = found-here (exact_octet 0xFF Break) text rest s.came end mark stands.within tt (sym is) reads in
    record {
      ended =
          subst (λ t. read (judged_bundle 64) t 0 ≡ read (left_for s.part s.seen stands.start s.stage) t s.at) (append-nil text) (stands.goes_on [])
          ∙ ap (λ g. read (left_for s.part s.seen stands.start g) text s.at) stage
          ∙ ap (λ n. read judged_end text n) (nothing-came text s End stands stage none)
          ∙ ap (λ r. go_on r (λ y. found tt y.1)) there;
      late = omega arith;
      before = refl;
    }

-- ---- a block by its parts

-- the head of a check is read alike before and after octets are summed
head-same : (sum : Sum) (w t : List ℕ) → read (check_head (with_octets sum w)) t 0 ≡ read (check_head sum) t 0
head-same Unchecked w t = refl
head-same (Short r) w t = refl
head-same (Long r) w t = refl

-- a block is summed at once with the head of its check
pub check-by : (rest tail last : List ℕ) (none sum : Sum) (to head octets : ℕ) → tail ≡ drop to rest → read (check_head none) tail 0 ≡ found tt head
    → head ≤ length tail → sum ≡ with_octets none (take (to + head) rest) → last ≡ drop head tail
    → read (check_octets sum) last 0 ≡ found tt octets → octets ≤ length last
    → HasCheck (with_octets none (take to rest)) (drop to rest) (head + octets)
check-by rest tail last none sum to head octets there begins inside is after ends within =
    let joined : take (to + head) rest ≡ take to rest ++ take head (drop to rest) = take-add to head rest in
    let same : sum ≡ with_octets (with_octets none (take to rest)) (take head (drop to rest)) =
    is ∙ ap (with_octets none) joined ∙ sym (with-append none (take to rest) (take head (drop to rest))) in
    let left : last ≡ drop head (drop to rest) = after ∙ ap (drop head) there in
    record {
      head = head;
      octets = octets;
      begins = head-same none (take to rest) (drop to rest) ∙ ap (λ t. read (check_head none) t 0) (sym there) ∙ begins;
      ends = rw (same, left) at ends;
      is = refl;
      within = omega (arith, inside, within, ap length after, length-drop head tail, ap length there);
    }

pub block-by : (part : Option Fragment) (seen : Seen) (rest body after : List ℕ) (front : Front) (count from size tail : ℕ) (none : Sum)
    → count ≡ length seen.kinds → read (judged_front part (64 - count) seen) rest 0 ≡ found front from → from ≤ length rest
    → after ≡ drop from rest → read (body_field front.lead.kind front.size) after 0 ≡ found body size → size ≤ length after
    → none ≡ no_octets front.lead.crc → HasCheck (with_octets none (take (from + size) rest)) (drop (from + size) rest) tail
    → HasBlock part seen rest front.lead (from + size + tail)
block-by part seen rest body after front count from size tail none many begins first second goes_on inside is ends = record {
  front = front;
  from = from;
  body = body;
  size = size;
  tail = tail;
  begins = rw many at begins;
  goes_on = rw second at goes_on;
  ends = rw is at ends;
  named = refl;
  is = refl;
  within = omega (arith, first, inside, ends.within, ap length second, length-drop from rest, length-drop (from + size) rest);
}

module _ (text rest : List ℕ) (s : Stand) (lead : Lead) (more : ℕ) (stands : IsAt text s) (stage : s.stage ≡ Field Block) (none : s.head ≡ [])
    (is : rest ≡ drop s.came text) (block : HasBlock s.part s.seen rest lead more) where
  keeps : Keeps text stands.start s (Field Block)
  keeps = rw stage at stands.keeps

  begins-here : s.at ≡ s.came
  begins-here = nothing-came text s Block stands stage none

  after : (n : ℕ) → drop (s.came + n) text ≡ drop n rest
  after n = sym (drop-drop n s.came text) ∙ ap (drop n) (sym is)

  part-of : (from n : ℕ) → take n (drop from rest) ≡ between (s.came + from) (s.came + from + n) text
  part-of from n =
      let spot : s.came + from + n - (s.came + from) ≡ n = omega arith in
      ap (take n) (sym (after from)) ∙ ap (λ k. take k (drop (s.came + from) text)) (sym spot)

  abbrev to : ℕ
  to = block.from + block.size

  abbrev sum : Sum
  sum = with_octets (no_octets block.front.lead.crc) (take to rest)

  abbrev late : Sum
  late = with_octets sum (take block.ends.head (drop to rest))

  front-there : read (judged_front s.part (blocks_left 64 s.seen) s.seen) text s.came ≡ found block.front (s.came + block.from)
  unfolding small_field
  front-there =
      found-here (judged_front s.part (blocks_left 64 s.seen) s.seen) text rest s.came block.from block.front stands.within
      (small-free s.part s.seen Block).0 (sym is) block.begins

  front-inside : s.came + block.from ≤ length text
  front-inside = (read-found (judged_front s.part (blocks_left 64 s.seen) s.seen) text s.came block.front (s.came + block.from) stands.octets stands.within front-there).within

  body-there : read (body_field block.front.lead.kind block.front.size) text (s.came + block.from) ≡ found block.body (s.came + block.from + block.size)
  unfolding small_field
  body-there =
      found-here (body_field block.front.lead.kind block.front.size) text (drop block.from rest) (s.came + block.from) block.size block.body front-inside
      (small-free s.part s.seen (Item block.front sum)).0 (after block.from) block.goes_on

  body-end : s.came + block.from + block.size ≡ s.came + to
  body-end = omega arith

  body-inside : s.came + to ≤ length text
  body-inside =
      let there = read-found (body_field block.front.lead.kind block.front.size) text (s.came + block.from) block.body (s.came + block.from + block.size)
      stands.octets front-inside body-there in
      omega (arith, there.within, body-end)

  head-there : read (check_head sum) text (s.came + to) ≡ found tt (s.came + to + block.ends.head)
  unfolding small_field
  head-there =
      found-here (check_head sum) text (drop to rest) (s.came + to) block.ends.head tt body-inside
      (small-free s.part s.seen (Check block.front.lead sum)).0 (after to) block.ends.begins

  head-inside : s.came + to + block.ends.head ≤ length text
  head-inside = (read-found (check_head sum) text (s.came + to) tt (s.came + to + block.ends.head) stands.octets body-inside head-there).within

  octets-there : read (check_octets late) text (s.came + to + block.ends.head) ≡ found tt (s.came + to + block.ends.head + block.ends.octets)
  unfolding small_field
  octets-there =
      let spot : s.came + (to + block.ends.head) ≡ s.came + to + block.ends.head = omega arith in
      found-here (check_octets late) text (drop block.ends.head (drop to rest)) (s.came + to + block.ends.head) block.ends.octets tt head-inside
      (small-free s.part s.seen (Octets block.front.lead late)).0
      (sym (drop-drop block.ends.head (s.came + to) text) ∙ ap (drop block.ends.head) (after to)) block.ends.ends

  octets-inside : s.came + to + block.ends.head + block.ends.octets ≤ length text
  octets-inside =
      (read-found (check_octets late) text (s.came + to + block.ends.head) tt (s.came + to + block.ends.head + block.ends.octets) stands.octets head-inside octets-there).within

  end : s.came + to + block.ends.head + block.ends.octets ≡ s.came + more
  end = omega (arith, block.is, block.ends.is)

  summed : sum ≡ with_octets (no_octets block.front.lead.crc) (between s.came (s.came + to) text)
  summed =
      let spot : s.came + 0 ≡ s.came = omega arith in
      ap (with_octets (no_octets block.front.lead.crc)) (part-of 0 to ∙ ap (λ n. between n (n + to) text) spot)

  head-summed : with_octets sum (between (s.came + to) (s.came + to + block.ends.head) text) ≡ late
  head-summed = ap (with_octets sum) (sym (part-of to block.ends.head))

  some : 0 < more
  unfolding small_field
  some =
      let left = blocks_left 64 s.seen in
      let begun = small-begun s.part s.seen Block refl in
      let whole : read (small_field s.part s.seen Block) rest 0 ≡ found (Some block.front) block.from = rw block.begins refl in
      let first = ends-late (small_field s.part s.seen Block) [] rest block.from begun.0 (Some block.front) (subst IsOctets (sym is) (octets-drop s.came text stands.octets)) begun.1 whole in
      omega (arith, first, block.is)

  pub block-checks : Checks text s lead more
  unfolding left_for
  block-checks =
      let left = blocks_left 64 s.seen in
      let on = judged_on s.part left s.seen in
      let named : Lead = block.front.lead in
      record {
        octets = stands.octets;
        within = omega (arith, octets-inside, end);
        some = omega (arith, some);
        few = stands.few;
        each = stands.each;
        main = keeps.0;
        goes_on = λ rest'.
            stands.goes_on rest'
            ∙ ap (λ g. read (left_for s.part s.seen stands.start g) (text ++ rest') s.at) stage
            ∙ ap (λ n. read (left_for s.part s.seen stands.start (Field Block)) (text ++ rest') n) begins-here
            ∙ front-continues s.part text left s.seen block.front s.came (s.came + block.from) stands.octets stands.within front-there rest'
            ∙ body-continues s.part text left s.seen block.front s.came (s.came + block.from) (s.came + block.from + block.size) block.body stands.octets front-inside body-there rest'
            ∙ ap (λ n. read (left_for s.part s.seen s.came (Field (Check named sum))) (text ++ rest') n) body-end
            ∙ check-continues named on text s.came (s.came + to) stands.octets (omega arith) body-inside (s.came + to + block.ends.head) (omega arith) head-inside sum summed head-there rest'
            ∙ ap (λ (x : Sum). read (left_for s.part s.seen s.came (Field (Octets named x))) (text ++ rest') (s.came + to + block.ends.head)) head-summed
            ∙ continues-in (check_octets late) (λ octets. give named) on text (s.came + to + block.ends.head) (s.came + to + block.ends.head + block.ends.octets) tt
            stands.octets head-inside octets-there rest'
            ∙ ap (λ to. read (on named) (text ++ rest') to) end
            ∙ ap (λ (l : Lead). read (on l) (text ++ rest') (s.came + more)) (sym block.named);
      }
