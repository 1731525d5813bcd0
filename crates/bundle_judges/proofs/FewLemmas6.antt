-- A step of a judge: octets of a field of few.

use Rattle.std.proofs.Common.{◌≡◌, ◌≢◌, ℕ, ◌+◌, ◌-◌, ◌<◌, ◌≤◌, List, [], ◌∷◌, ◌++◌, length, take, drop, slice_index, refl, sym, ap, ◌∙◌, subst, arith, append-nil, append_assoc, length-append, take-append-drop}
use Rattle.std.proofs.lemmas.List.{length-take-le, length-drop, drop-drop}
use Rattle.wire_fields.specs.Refusal.{truncated, because}
use Rattle.wire_fields.specs.Reading.{read, IsOctets}
use Rattle.wire_fields.proofs.ResultLemmas.{found, stopped}
use Rattle.wire_fields.proofs.ReadLemmas.{read-found}
use Rattle.wire_fields.proofs.StayLemmas.{octets-front}
use Rattle.wire_fields.proofs.ContinueLemmas.{found-longer}
use Rattle.wire_fields.proofs.TextLemmas.{front_seam, octets-drop}
use Rattle.bundle6.specs.declared.fault.Cause6.{Cause6}
use Rattle.bundle6.specs.declared.fault.Cause6.TheVariants as causes
use Rattle.bundle6.specs.declared.fault.Fail6.TheVariants.{Refused}
use Rattle.bundle6.specs.declared.block.Seen.{Seen}
use Rattle.bundle6.specs.Cause.{why}
use Rattle.bundle6.proofs.ReaderLemmas.{is-because}
use Rattle.bundle_judges.specs.declared.stand6.Small.{Small}
use Rattle.bundle_judges.specs.declared.stand6.Small.TheVariants.{Block, References}
use Rattle.bundle_judges.specs.declared.stand6.Stage.{Stage}
use Rattle.bundle_judges.specs.declared.stand6.Stage.TheVariants.{Field}
use Rattle.bundle_judges.specs.declared.stand6.Stand.{Stand}
use Rattle.bundle_judges.specs.Field6.{small_field, left_for, IsCut, Counts}
use Rattle.bundle_judges.specs.Stand6.{dictionary_of, Keeps, IsAt, Fails6, Moves, IsLater, Enters}
use Rattle.bundle_judges.proofs.MovedLemmas.{found-from, refused-from, ends-late}
use Rattle.bundle_judges.proofs.FieldLemmas6.{small-free, small-short, small-continues, small-fails}
use Rattle.bundle_judges.proofs.StandLemmas6.{fails-here}

take-next : (xs ys : List ℕ) (n x : ℕ) → drop n xs ≡ x ∷ ys → n ≤ length xs → take (n + 1) xs ≡ take n xs ++ (x ∷ [])
take-next xs ys n x is within =
    let spot : n + 1 - n ≡ 1 = omega arith in
    sym (front_seam xs n (n + 1) (omega arith))
    ∙ ap (λ k. take n xs ++ take k (drop n xs)) spot
    ∙ ap (λ t. take n xs ++ take 1 t) is

pub small-refused : (text w more : List ℕ) (s : Stand) (small : Small) (p : ℕ) (cause : Cause6) → IsAt text s → s.stage ≡ Field small
    → drop s.at text ≡ w ++ more → read (small_field s.part (dictionary_of s) s.seen small) w 0 ≡ stopped p (why cause)
    → cause ≢ causes.Truncated → Fails6 text s (Refused (s.at + p) cause)
small-refused text w more s small p cause stands stage parts is other =
    let within : s.at ≤ length text = omega (arith, stands.place, stands.within) in
    let here = refused-from (small_field s.part (dictionary_of s) s.seen small) text w more s.at p cause stands.octets within
    (small-free s.part (dictionary_of s) s.seen small) parts (is ∙ ap (λ r. stopped p r) (is-because cause other)) in
    let fails = small-fails s.part (dictionary_of s) s.seen small text s.at (s.at + p, because cause) here in
    fails-here text s (s.at + p, because cause) stands (rw stage fails)

-- what a refusal becomes

abbrev pub set_head : Stand → List ℕ → Stand
set_head s head = record {
  before = s.before;
  came = s.came;
  at = s.at;
  stage = s.stage;
  seen = s.seen;
  part = s.part;
  main = s.main;
  texts = s.texts;
  head = head;
}

counts-few : (small : Small) (seen next : Seen) → seen.others ≤ 64 → Counts small seen next → next.others ≤ 64
counts-few Block seen next few counts = counts.few
counts-few (References left payload last) seen next few counts = rw counts few

-- what came of it, and how much that is
record IsBegun (text : List ℕ) (s : Stand) (small : Small) : Type 0 where
  within : s.at ≤ length text
  size : length s.head ≡ s.came - s.at
  rest : drop s.at text ≡ s.head ++ drop s.came text
  cut : IsCut (small_field s.part (dictionary_of s) s.seen small) s.head

small-begins : (text : List ℕ) (s : Stand) (small : Small) → IsAt text s → s.stage ≡ Field small → IsBegun text s small
small-begins text s small stands stage =
    let keeps : Keeps text s (Field small) = rw stage at stands.keeps in
    let within : s.at ≤ length text = omega (arith, stands.place, stands.within) in
    let back : s.at + (s.came - s.at) ≡ s.came = omega (arith, stands.place) in
    record {
      within = within;
      size = ap length keeps.0 ∙ length-take-le (s.came - s.at) (drop s.at text) (omega (arith, length-drop s.at text, stands.within));
      rest =
          sym (take-append-drop (s.came - s.at) (drop s.at text))
          ∙ ap (λ t. take (s.came - s.at) (drop s.at text) ++ t) (drop-drop (s.came - s.at) s.at text ∙ ap (λ n. drop n text) back)
          ∙ ap (λ t. t ++ drop s.came text) (sym keeps.0);
      cut = keeps.1;
    }

-- there is room for one octet more
pub small-room : (text : List ℕ) (s : Stand) (small : Small) → IsAt text s → s.stage ≡ Field small → length s.head < 21
small-room text s small stands stage =
    let begun = small-begins text s small stands stage in
    let few = octets-few text s small stands begun in
    (small-short s.part (dictionary_of s) s.seen small).cut s.head 0 begun.cut.0 few (omega arith) begun.cut.1
  where
    octets-few : (text : List ℕ) (s : Stand) (small : Small) → IsAt text s → IsBegun text s small → IsOctets s.head
    octets-few text s small stands begun =
        octets-front s.head (drop s.came text) (subst IsOctets begun.rest (octets-drop s.at text stands.octets))

-- it ended with so many octets more
pub small-enters : (text w more : List ℕ) (s : Stand) (small : Small) (x : Seen × Stage) (n taken : ℕ) → IsAt text s → s.stage ≡ Field small
    → drop s.at text ≡ w ++ more → read (small_field s.part (dictionary_of s) s.seen small) w 0 ≡ found x n
    → Counts small s.seen x.0 → IsLater x.1 → s.came + taken ≡ s.at + n → Enters text (set_head s []) x.0 x.1 taken
small-enters text w more s small x n taken stands stage parts is counts later ends =
    let begun = small-begins text s small stands stage in
    let field = small_field s.part (dictionary_of s) s.seen small in
    let free = small-free s.part (dictionary_of s) s.seen small in
    let there : read field text s.at ≡ found x (s.at + n) = found-from field text w more s.at n x stands.octets begun.within free parts is in
    let inside = read-found field text s.at x (s.at + n) stands.octets begun.within there in
    let alone : read field (s.head ++ drop s.came text) 0 ≡ found x n =
    ap (λ t. read field t 0) (sym begun.rest ∙ parts)
    ∙ found-longer field w 0 n x (octets-front w more (subst IsOctets parts (octets-drop s.at text stands.octets))) (omega arith) is more in
    let late : length s.head < n =
    ends-late field s.head (drop s.came text) n begun.cut.0 x (subst IsOctets begun.rest (octets-drop s.at text stands.octets)) begun.cut.1 alone in
    record {
      octets = stands.octets;
      within = omega (arith, ends, inside.within);
      some = omega (arith, late, begun.size, ends, stands.place);
      few = counts-few small s.seen x.0 stands.few counts;
      order = stands.order;
      inside = stands.inside;
      main = stands.main;
      head = refl;
      later = later;
      goes_on = λ rest.
          stands.goes_on rest
          ∙ ap (λ g. read (left_for s.part (dictionary_of s) s.seen g) (text ++ rest) s.at) stage
          ∙ small-continues s.part (dictionary_of s) s.seen small text s.at (s.at + n) x stands.octets begun.within counts there rest
          ∙ ap (λ to. read (left_for s.part (dictionary_of s) x.0 x.1) (text ++ rest) to) (sym ends);
    }

-- where nothing came of it before, it lies in the octets that follow
pub small-lies : (text rest : List ℕ) (s : Stand) (small : Small) → IsAt text s → s.stage ≡ Field small → rest ≡ drop s.came text
    → length s.head ≡ 0 → (drop s.at text ≡ rest ++ []) × (s.came ≡ s.at) × (s.head ≡ [])
small-lies text rest s small stands stage is none =
    let begun = small-begins text s small stands stage in
    let nothing = empty s.head none in (
      begun.rest ∙ ap (λ h. h ++ drop s.came text) nothing ∙ sym is ∙ sym (append-nil rest),
      omega (arith, begun.size, none, stands.place),
      nothing,
    )
  where
    empty : (xs : List ℕ) → length xs ≡ 0 → xs ≡ []
    empty [] none = refl
    empty (x ∷ xs) none = absurd (omega (arith, none))

pub first-there : (text rest : List ℕ) (came : ℕ) → rest ≡ drop came text → 0 < length rest
    → slice_index rest 0 ∷ drop (came + 1) text ≡ drop came text
first-there text [] came is some = absurd (omega (arith, some))
first-there text (x ∷ rest) came is some =
    ap (λ t. x ∷ t) (sym (drop-drop 1 came text) ∙ ap (drop 1) (sym is)) ∙ is

-- or else it goes on with the octet that follows
pub small-goes : (text : List ℕ) (octet : ℕ) (s : Stand) (small : Small) → IsAt text s → s.stage ≡ Field small
    → octet ∷ drop (s.came + 1) text ≡ drop s.came text → drop s.at text ≡ (s.head ++ (octet ∷ [])) ++ drop (s.came + 1) text
small-goes text octet s small stands stage is =
    let begun = small-begins text s small stands stage in
    begun.rest ∙ ap (λ t. s.head ++ t) (sym is) ∙ sym (append_assoc s.head (octet ∷ []) (drop (s.came + 1) text))

-- and ends with it
pub small-ends : (text : List ℕ) (octet : ℕ) (s : Stand) (small : Small) (x : Seen × Stage) (n : ℕ) → IsAt text s → s.stage ≡ Field small
    → octet ∷ drop (s.came + 1) text ≡ drop s.came text
    → read (small_field s.part (dictionary_of s) s.seen small) (s.head ++ (octet ∷ [])) 0 ≡ found x n → s.came + 1 ≡ s.at + n
small-ends text octet s small x n stands stage is ends =
    let begun = small-begins text s small stands stage in
    let field = small_field s.part (dictionary_of s) s.seen small in
    let parts = small-goes text octet s small stands stage is in
    let few : IsOctets (s.head ++ (octet ∷ [])) =
    octets-front (s.head ++ (octet ∷ [])) (drop (s.came + 1) text) (subst IsOctets parts (octets-drop s.at text stands.octets)) in
    let late = ends-late field s.head (octet ∷ []) n begun.cut.0 x few begun.cut.1 ends in
    let there = read-found field (s.head ++ (octet ∷ [])) 0 x n few (omega arith) ends in
    omega (arith, late, there.within, length-append s.head (octet ∷ []), begun.size, stands.place)

-- or doesn't end
abbrev pub waiting : Stand → List ℕ → Stand
waiting s head = record {
  before = s.before;
  came = s.came + 1;
  at = s.at;
  stage = s.stage;
  seen = s.seen;
  part = s.part;
  main = s.main;
  texts = s.texts;
  head = head;
}

pub small-waits : (text head : List ℕ) (octet : ℕ) (s : Stand) (small : Small) (p : ℕ) → IsAt text s → s.stage ≡ Field small
    → octet ∷ drop (s.came + 1) text ≡ drop s.came text → head ≡ s.head ++ (octet ∷ [])
    → read (small_field s.part (dictionary_of s) s.seen small) head 0 ≡ stopped p truncated → Moves text s 1 (waiting s head)
small-waits text head octet s small p stands stage is more cut =
    let begun = small-begins text s small stands stage in
    let keeps : Keeps text s (Field small) = rw stage at stands.keeps in
    let next : s.came - s.at + 1 ≡ s.came + 1 - s.at = omega (arith, stands.place) in
    let back : s.at + (s.came - s.at) ≡ s.came = omega (arith, stands.place) in
    let some : length (drop s.came text) ≡ length (octet ∷ drop (s.came + 1) text) = ap length (sym is) in
    let here : drop (s.came - s.at) (drop s.at text) ≡ octet ∷ drop (s.came + 1) text =
    drop-drop (s.came - s.at) s.at text ∙ ap (λ n. drop n text) back ∙ sym is in
    let now : Keeps text (waiting s head) (Field small) = (
      more ∙ ap (λ t. t ++ (octet ∷ [])) keeps.0
          ∙ sym (take-next (drop s.at text) (drop (s.came + 1) text) (s.came - s.at) octet here (omega (arith, length-drop s.at text, stands.within)))
          ∙ ap (λ n. take n (drop s.at text)) next,
      (p, cut),
    ) in
    record {
      stands = record {
        octets = stands.octets;
        within = omega (arith, some, length-drop s.came text);
        place = omega (arith, stands.place);
        few = stands.few;
        order = stands.order;
        inside = stands.inside;
        goes_on = stands.goes_on;
        main = stands.main;
        keeps = rw stage now;
      };
      some = omega arith;
      came = refl;
      before = refl;
      stage = λ same. same;
    }
