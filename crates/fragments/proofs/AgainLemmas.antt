-- The pieces of a record, joined again.

use Rattle.std.proofs.Common.{◌≡◌, ℕ, zero, suc, ◌+◌, ◌-◌, ◌*◌, ◌/◌, ◌%◌, ◌<◌, ◌≤◌, ◌==◌, Bool, true, false, not, ◌||◌, nat_lt, nat_le, min, max, if◌then◌else◌, List, [], ◌∷◌, ◌++◌, length, drop, get_or, Option, None, Some, is_some, Result, Ok, Err, refl, sym, ap, ◌∙◌, subst, arith, ⊎_elim, eq-eqb, eqb-true, ◌⊎◌, inl, inr, Decides, rules, bit_and, bit_or, append-nil, length-append, length-drop}
use Rattle.std.specs.List.{remove}
use Rattle.std.specs.Str.{bytes_eq}
use Rattle.std.specs.Int.Bits.{or_add_and}
use Rattle.std.proofs.lemmas.Bool.{cases_lt, ltb-true, lt-ltb, le-ltb, eqb-false}
use Rattle.std.proofs.lemmas.Bool.Decides.{nat_tests}
use Rattle.std.proofs.lemmas.List.{drop_all, length-take, get_or-take, get_or-drop, get_or_past, get_or_push}
use Rattle.std.proofs.lemmas.List.Folds.{position_or_len_push}
use Rattle.std.proofs.lemmas.List.Sums.{prefix_len-le-length}
use Rattle.std.proofs.lemmas.Nat.{and_mask}
use Rattle.std.proofs.lemmas.Option.{slice_get_cases, slice_get_read}
use Rattle.std.proofs.Math.Nat.{div-mul-le_self, mul-le-mul_right, lt-div-mul-add, mul-div_left, div-lt_iff_lt-mul}
use Rattle.std.proofs.Math.Seq.{take-append_seam}
use Rattle.std.proofs.lemmas.Slice.Eq.{bytes_eq-Decides}
use Rattle.endpoint.specs.declared.extent.Fragment.{Fragment}
use Rattle.endpoint.specs.declared.name.Endpoint.{Endpoint}
use Rattle.endpoint.specs.declared.name.Endpoint.TheVariants.{Null, Ipn, Dtn}
use Rattle.bundle_meaning.specs.declared.shared.Content.{Content}
use Rattle.bundle_meaning.specs.declared.shared.Content.TheVariants.{Bytes, Report}
use Rattle.bundle_meaning.specs.declared.shared.Shared.{Shared}
use Rattle.bundle_meaning.specs.declared.full.Full.{Full}
use Rattle.bundle_meaning.specs.Bits.{has_bit}
use Rattle.fragments.specs.declared.limits.TheConstants.{TOTAL_MAX, NAMES_MAX}
use Rattle.fragments.specs.declared.fault.JoinRefused.{JoinRefused}
use Rattle.fragments.specs.declared.fault.JoinRefused.TheVariants as refusals
use Rattle.fragments.specs.declared.join.Join.{Join}
use Rattle.fragments.specs.declared.joining.Joined.{Joined}
use Rattle.fragments.specs.declared.joining.Joined.TheVariants as answers
use Rattle.cells.specs.Cells.{cell, octet_in, or_else, all_octets}
use Rattle.fragments.specs.Cells.{with_octets, whole_octets}
use Rattle.fragments.specs.Cutting.{octets_of, octets_in, place_of, place_in, piece}
use Rattle.fragments.specs.Joining.{same_endpoint, is_named, index_of, open_join, others, accepted, new_join, started, with_payload, unfragmented, head_with, grown, whole_of, is_repeat, joined_with, answered, Joining, Adds}
use Rattle.fragments.specs.Again.{answer, after_pieces, is_among, IsCut, count_of, AreIndexes, HaveAll, LackOne, IsOpenAnswer, PiecesJoinAgain, JoinsAgain}
use Rattle.fragments.proofs.CuttingLemmas.{begins-within, reaches-end}
use Rattle.cells.proofs.CellLemmas.{cell-filled, length-filled, octet_in-none, octet_in-inside, octet_in-before_first, octet_in-past, or_else-none, all_octets-only, all_octets-cell, all_octets-length}

-- ---- cells

pub cell-with : (cells : List (Option ℕ)) (offset : ℕ) (body : List ℕ) (k : ℕ)
    → cell (with_octets cells offset body) k ≡ or_else (cell cells k) (octet_in offset body k)
cell-with cells offset [] k = rw (octet_in-none offset k) (sym (or_else-none (cell cells k)))
cell-with cells offset (octet ∷ body) k = cell-filled cells offset (octet ∷ body) k

length-with : (cells : List (Option ℕ)) (offset : ℕ) (body : List ℕ)
    → length (with_octets cells offset body) ≤ max (length cells) (offset + length body)
length-with cells offset [] = omega arith
length-with cells offset (octet ∷ body) = omega (arith, length-filled cells offset (octet ∷ body))

combine : (here earlier : Bool) (octet : ℕ) (c body : Option ℕ) → c ≡ (if earlier then Some octet else None)
    → body ≡ (if here then Some octet else None) → or_else c body ≡ (if here || earlier then Some octet else None)
combine true true octet c body is own = rw is refl
combine true false octet c body is own = rw (is, own) refl
combine false true octet c body is own = rw is refl
combine false false octet c body is own = rw (is, own) refl

-- a place belongs to the piece whose index is the quotient
octet-here : (size i : ℕ) (octets : List ℕ) (k : ℕ) → 0 < size → k < length octets
    → octet_in (i * size) (octets_in size i octets) k ≡ (if i == k / size then Some (get_or octets k 0) else None)
octet-here size i octets k some low = by (i == k / size) refl
  where
    size_of_body : length (octets_in size i octets) ≡ min size (length octets - i * size)
    size_of_body = length-take size (drop (i * size) octets) ∙ ap (λ n. min size n) (length-drop (i * size) octets)

    under : k / size * size ≤ k
    under = div-mul-le_self k size

    over : k < k / size * size + size
    over = lt-div-mul-add some

    by : (t : Bool) → (i == k / size) ≡ t → octet_in (i * size) (octets_in size i octets) k ≡ (if t then Some (get_or octets k 0) else None)
    by true is =
        let same : i ≡ k / size = eqb-true i (k / size) is in
        let product : i * size ≡ k / size * size = ap (λ n. n * size) same in
        let place : i * size + (k - i * size) ≡ k = omega (arith, under, product) in
        octet_in-inside (i * size) (octets_in size i octets) k (omega (arith, under, product)) (omega (arith, size_of_body, over, product, low))
        ∙ ap (λ x. Some x) (get_or-take size (drop (i * size) octets) (k - i * size) 0 (omega (arith, over, product))
        ∙ get_or-drop (i * size) octets (k - i * size) 0 ∙ ap (λ n. get_or octets n 0) place)
    by false is = ⊎_elim before after (cases_lt (k / size) i)
      where
        before : k / size < i → octet_in (i * size) (octets_in size i octets) k ≡ None
        before less =
            let product : (k / size + 1) * size ≤ i * size = mul-le-mul_right size (omega (arith, less)) in
            octet_in-before_first (i * size) (octets_in size i octets) k (omega (arith, over, product))

        after : i ≤ k / size → octet_in (i * size) (octets_in size i octets) k ≡ None
        after less =
            let other : i < k / size = omega (arith, less, (λ (same : i ≡ k / size). eqb-false i (k / size) is same)) in
            let product : (i + 1) * size ≤ k / size * size = mul-le-mul_right size (omega (arith, other)) in
            octet_in-past (i * size) (octets_in size i octets) k (omega (arith, size_of_body, under, product))

-- ---- the record again

even : (f : ℕ) → has_bit 0 f ≡ false → bit_or f 1 - bit_or f 1 % 2 ≡ f
even f clear =
    let none : f / 1 % 2 ≡ 0 = omega (arith, eqb-false (f / 1 % 2) 1 clear) in
    let low : bit_and f 1 ≡ f % 2 = and_mask f 1 in
    omega (arith, or_add_and f 1, low, none)

abbrev shared_as : Shared → ℕ → Option Fragment → Content → Shared
shared_as s flags fragment content = record {
  destination = s.destination;
  source = s.source;
  report_to = s.report_to;
  millis = s.millis;
  sequence = s.sequence;
  expiry = s.expiry;
  flags = flags;
  fragment = fragment;
  payload_flags = s.payload_flags;
  content = content;
}

abbrev full_as : Full → Shared → Full
full_as full shared = record { shared = shared; extra6 = full.extra6; extra7 = full.extra7; exts = full.exts }

again : (full : Full) (size : ℕ) (octets : List ℕ) → full.shared.fragment ≡ None → has_bit 0 full.shared.flags ≡ false
    → full.shared.content ≡ Bytes octets → with_payload (unfragmented (piece full size 0)) octets ≡ full
again full size octets whole clear content =
    ap (full_as full)
    (ap (λ flags. shared_as full.shared flags None (Bytes octets)) (even full.shared.flags clear)
    ∙ ap (λ fragment. shared_as full.shared full.shared.flags fragment (Bytes octets)) (sym whole)
    ∙ ap (λ c. shared_as full.shared full.shared.flags full.shared.fragment c) (sym content))

content-is : (content : Content) → 0 < length (octets_of content) → content ≡ Bytes (octets_of content)
content-is (Bytes octets) some = refl
content-is (Report report) some = absurd (omega (arith, some))

-- ---- a join to which some pieces came

record IsProgress (full : Full) (size : ℕ) (earlier : List ℕ) (join : Join) : Type 0 where
  source : join.source ≡ full.shared.source
  millis : join.millis ≡ full.shared.millis
  sequence : join.sequence ≡ full.shared.sequence
  total : join.total ≡ length (octets_of full.shared.content)
  within : length join.cells ≤ length (octets_of full.shared.content)
  each : (k : ℕ) → k < length (octets_of full.shared.content)
      → cell join.cells k ≡ (if is_among earlier (k / size) then Some (get_or (octets_of full.shared.content) k 0) else None)
  head : join.head ≡ (if is_among earlier 0 then Some (unfragmented (piece full size 0)) else None)

progress-start : (full : Full) (size total : ℕ) → total ≡ length (octets_of full.shared.content) → IsProgress full size [] (new_join full.shared total)
progress-start full size total is = record {
  source = refl;
  millis = refl;
  sequence = refl;
  total = is;
  within = omega arith;
  each = λ k low. get_or_past [] k None (omega arith);
  head = refl;
}

head-more : (full : Full) (size i : ℕ) (earlier : Bool) (head : Option Full) → 0 < size
    → head ≡ (if earlier then Some (unfragmented (piece full size 0)) else None)
    → head_with head (piece full size i) (i * size) ≡ (if (i == 0) || earlier then Some (unfragmented (piece full size 0)) else None)
head-more full size zero true head some is = rw is refl
head-more full size (suc i) true head some is = let other : (suc i == 0) ≡ false = grind (arith, nat_tests) in rw (is, other) refl
head-more full size zero false head some is = let first : 0 * size ≡ 0 = omega arith in rw (is, first) refl
head-more full size (suc i) false head some is =
    let low : size ≤ suc i * size = omega (arith, mul-le-mul_right {m = 1} {n = suc i} size (omega arith)) in
    let later : (suc i * size == 0) ≡ false = grind (arith, nat_tests, low, some) in
    let other : (suc i == 0) ≡ false = grind (arith, nat_tests) in
    rw (is, later, other) refl

progress-more : (full : Full) (size i : ℕ) (earlier : List ℕ) (join : Join) → 0 < size
    → i * size < length (octets_of full.shared.content) → IsProgress full size earlier join
    → IsProgress full size (i ∷ earlier) (grown join (piece full size i) (i * size))
progress-more full size i earlier join some begun so_far =
    let octets = octets_of full.shared.content in
    let size_of_body : length (octets_in size i octets) ≡ min size (length octets - i * size) =
    length-take size (drop (i * size) octets) ∙ ap (λ n. min size n) (length-drop (i * size) octets) in
    record {
      source = so_far.source;
      millis = so_far.millis;
      sequence = so_far.sequence;
      total = so_far.total;
      within = omega (arith, length-with join.cells (i * size) (octets_in size i octets), so_far.within, size_of_body, begun);
      each = λ k low.
          cell-with join.cells (i * size) (octets_in size i octets) k
          ∙ combine (i == k / size) (is_among earlier (k / size)) (get_or octets k 0) _ _ (so_far.each k low) (octet-here size i octets k some low);
      head = head-more full size i (is_among earlier 0) join.head some so_far.head;
    }

-- all pieces came
whole-progress : (full : Full) (size : ℕ) (joins : List Join) (earlier : List ℕ) (join : Join) → IsCut full size joins
    → HaveAll (count_of full size) earlier → IsProgress full size earlier join → whole_of join ≡ Some full
whole-progress full size joins earlier join cut all so_far =
    rw (cells, so_far.head, all 0 (omega arith)) (ap (λ f. Some f) (again full size octets cut.whole clear (content-is full.shared.content some)))
  where
    octets : List ℕ
    octets = octets_of full.shared.content

    some : 0 < length octets
    some = omega (arith, ltb-true size (length octets) cut.longer)

    clear : has_bit 0 full.shared.flags ≡ false
    clear = cut.valid.shared.fragment_bit ∙ ap is_some cut.whole

    each : (k : ℕ) → k < length octets → cell join.cells k ≡ Some (get_or octets k 0)
    each k low =
        let below : k / size < count_of full size =
        (div-lt_iff_lt-mul {x = k} {y = count_of full size} cut.some).1 (omega (arith, low, reaches-end size octets cut.some)) in
        so_far.each k low ∙ ap (λ (t : Bool). if t then Some (get_or octets k 0) else None) (all (k / size) below)

    long : length join.cells ≡ length octets
    long = ⊎_elim
        (λ (short : length join.cells < length octets).
        let missing : cell join.cells (length octets - 1) ≡ None = get_or_past join.cells (length octets - 1) None (omega (arith, short)) in
        let there = each (length octets - 1) (omega (arith, some)) in
        absurd (no-both (cell join.cells (length octets - 1)) _ missing there))
        (λ (enough : length octets ≤ length join.cells). omega (arith, enough, so_far.within))
        (cases_lt (length join.cells) (length octets))
      where
        no-both : (c : Option ℕ) (x : ℕ) → c ≡ None → c ≡ Some x → ⊥
        no-both c x none found = let no : None ≡ Some x = sym none ∙ found in cc

    cells : whole_octets join.cells join.total ≡ Some octets
    cells =
        let test : (join.total == length join.cells) ≡ true = eq-eqb join.total (length join.cells) (so_far.total ∙ sym long) in
        rw test (all_octets-only join.cells octets long each)

-- one is missing
open-progress : (full : Full) (size : ℕ) (joins : List Join) (earlier : List ℕ) (join : Join) → IsCut full size joins
    → LackOne (count_of full size) earlier → IsProgress full size earlier join → whole_of join ≡ None
open-progress full size joins earlier join cut (i, low, missing) so_far = none (whole_octets join.cells join.total) refl
  where
    octets : List ℕ
    octets = octets_of full.shared.content

    begun : i * size < length octets
    begun = begins-within size i octets (omega (arith, ltb-true size (length octets) cut.longer)) low

    empty : cell join.cells (i * size) ≡ None
    empty =
        let own : i * size / size ≡ i = mul-div_left i cut.some in
        so_far.each (i * size) begun
        ∙ ap (λ (t : Bool). if t then Some (get_or octets (i * size) 0) else None) (ap (λ n. is_among earlier n) own ∙ missing)

    no-both : (c : Option ℕ) (x : ℕ) → c ≡ None → c ≡ Some x → ⊥
    no-both c x none found = let no : None ≡ Some x = sym none ∙ found in cc

    not-all : (t : Bool) (body : List ℕ) → (join.total == length join.cells) ≡ t → (if t then all_octets join.cells else None) ≡ Some body → ⊥
    not-all false body test found = cc
    not-all true body test found =
        let long = all_octets-length join.cells body found in
        let same : join.total ≡ length join.cells = eqb-true join.total (length join.cells) test in
        no-both (cell join.cells (i * size)) _ empty (all_octets-cell join.cells body found (i * size) (omega (arith, long, same, so_far.total, begun)))

    none : (found : Option (List ℕ)) → whole_octets join.cells join.total ≡ found → whole_of join ≡ None
    none None is = rw is refl
    none (Some body) is = absurd (not-all (join.total == length join.cells) body refl is)

-- ---- the joins

same-self : (e : Endpoint) → same_endpoint e e ≡ true
same-self Null = refl
same-self (Ipn node service) = rw (eq-eqb node node refl, eq-eqb service service refl) refl
same-self (Dtn ssp) = by (bytes_eq ssp ssp) (bytes_eq-Decides ssp ssp)
  where
    by : (t : Bool) → Decides t (ssp ≡ ssp) → t ≡ true
    by true is = refl
    by false is = absurd (search rules)

abbrev IsState : Full → ℕ → List Join → List ℕ → List Join → Type 0
IsState full size joins [] state = state ≡ joins
IsState full size joins (i ∷ earlier) state =
    (join : Join) × IsProgress full size (i ∷ earlier) join × (state ≡ joins ++ join ∷ [])

record IsStep (full : Full) (size : ℕ) (joins : List Join) (earlier : List ℕ) (state : List Join) (i : ℕ) : Type 0 where
  part : Fragment
  taken : accepted state (piece full size i).shared ≡ Ok part
  rest : others (piece full size i).shared state ≡ joins
  progress : IsProgress full size (i ∷ earlier) (joined_with state (piece full size i) part)

module _ (full : Full) (size : ℕ) (joins : List Join) (cut : IsCut full size joins) where
  part-of : ℕ → Fragment
  part-of i = place_in size i (place_of full.shared.fragment (length (octets_of full.shared.content)))

  part-place : (i : ℕ) → (part-of i).offset ≡ i * size
  unfolding part-of
  part-place i = rw cut.whole (omega arith)

  part-total : (i : ℕ) → (part-of i).total ≡ length (octets_of full.shared.content)
  unfolding part-of
  part-total i = rw cut.whole refl

  -- none of the joins has the name
  first-free : index_of full.shared joins ≡ length joins
  first-free = by (slice_get_cases joins (index_of full.shared joins)).1
    where
      by : ((x : Join) × (index_of full.shared joins < length joins) × (open_join full.shared joins ≡ Some x) × (get_or joins (index_of full.shared joins) x ≡ x))
          ⊎ ((length joins ≤ index_of full.shared joins) × (open_join full.shared joins ≡ None)) → index_of full.shared joins ≡ length joins
      by (inl (x, within, found, read)) = let no : None ≡ Some x = sym cut.unknown ∙ found in absurd (cc)
      by (inr (past, none)) = omega (arith, past, prefix_len-le-length (λ j. not (is_named full.shared j)) joins)

  named-other : (i : ℕ) (earlier : List ℕ) (join : Join) → IsProgress full size earlier join → is_named (piece full size i).shared join ≡ true
  named-other i earlier join so_far =
      rw (so_far.source, so_far.millis, so_far.sequence, eq-eqb full.shared.millis full.shared.millis refl, eq-eqb full.shared.sequence full.shared.sequence refl, same-self full.shared.source) refl

  accepts-new : (i : ℕ) → accepted joins (piece full size i).shared ≡ Ok (part-of i)
  unfolding part-of
  accepts-new i =
      let fits : nat_lt TOTAL_MAX (part-of i).total ≡ false = le-ltb TOTAL_MAX (part-of i).total (omega (arith, part-total i, cut.small)) in
      let room : nat_le NAMES_MAX (length joins) ≡ false = grind (arith, nat_tests, cut.room) in
      rw (cut.unknown, fits, room) refl

  -- the first piece
  step-first : (i : ℕ) → i < count_of full size → IsStep full size joins [] joins i
  unfolding part-of
  step-first i low =
      let octets = octets_of full.shared.content in
      let begun = begins-within size i octets (omega (arith, ltb-true size (length octets) cut.longer)) low in
      record {
        part = part-of i;
        taken = accepts-new i;
        rest = let past : nat_lt (index_of full.shared joins) (length joins) ≡ false = le-ltb _ _ (omega (arith, first-free)) in rw past refl;
        progress = rw (cut.unknown, part-place i)
            (progress-more full size i [] (new_join full.shared (part-of i).total) cut.some begun (progress-start full size (part-of i).total (part-total i)));
      }

  -- a piece after others
  step-later : (i : ℕ) (earlier : List ℕ) (join : Join) → i < count_of full size → IsProgress full size earlier join
      → IsStep full size joins earlier (joins ++ join ∷ []) i
  unfolding part-of
  step-later i earlier join low so_far =
      let octets = octets_of full.shared.content in
      let begun = begins-within size i octets (omega (arith, ltb-true size (length octets) cut.longer)) low in
      let place : index_of full.shared (joins ++ join ∷ []) ≡ length joins =
      position_or_len_push (is_named full.shared) joins join
      ∙ rw (first-free, eq-eqb (length joins) (length joins) refl, named-other i earlier join so_far) (omega arith) in
      let long : length (joins ++ join ∷ []) ≡ length joins + 1 = length-append joins (join ∷ []) in
      let found : open_join full.shared (joins ++ join ∷ []) ≡ Some join =
      slice_get_read (joins ++ join ∷ []) (length (joins ++ join ∷ [])) (index_of full.shared (joins ++ join ∷ [])) join refl (omega (arith, place, long))
      (sym (get_or_push joins join join (index_of full.shared (joins ++ join ∷ [])) (sym place))) in
      let fits : nat_lt TOTAL_MAX (part-of i).total ≡ false = le-ltb TOTAL_MAX (part-of i).total (omega (arith, part-total i, cut.small)) in
      let same : (join.total == (part-of i).total) ≡ true = eq-eqb join.total (part-of i).total (so_far.total ∙ sym (part-total i)) in
      let inside : nat_lt (index_of full.shared (joins ++ join ∷ [])) (length (joins ++ join ∷ [])) ≡ true = lt-ltb _ _ (omega (arith, place, long)) in
      record {
        part = part-of i;
        taken = rw (found, fits, same) refl;
        rest = rw (inside, place) (removed joins join);
        progress =
            subst (λ kept. IsProgress full size (i ∷ earlier) (grown (started kept (piece full size i).shared (part-of i).total) (piece full size i) (part-of i).offset)) (sym found)
            (subst (λ offset. IsProgress full size (i ∷ earlier) (grown join (piece full size i) offset)) (sym (part-place i))
            (progress-more full size i earlier join cut.some begun so_far));
      }
    where
      removed : (xs : List Join) (x : Join) → remove (xs ++ x ∷ []) (length xs) ≡ xs
      removed xs x =
          rw (take-append_seam xs (x ∷ []), drop_all (suc (length xs)) (xs ++ x ∷ []) (omega (arith, length-append xs (x ∷ [])))) (append-nil xs)

  step : (i : ℕ) (earlier : List ℕ) (state : List Join) → i < count_of full size → IsState full size joins earlier state
      → IsStep full size joins earlier state i
  step i [] state low is = subst (λ s. IsStep full size joins [] s i) (sym is) (step-first i low)
  step i (j ∷ earlier) state low (join, so_far, is) = subst (λ s. IsStep full size joins (j ∷ earlier) s i) (sym is) (step-later i (j ∷ earlier) join low so_far)

  fewer : (i : ℕ) (earlier : List ℕ) → LackOne (count_of full size) (i ∷ earlier) → LackOne (count_of full size) earlier
  fewer i earlier (k, low, missing) = (k, low, or-false (i == k) (is_among earlier k) missing)
    where
      or-false : (a b : Bool) → (a || b) ≡ false → b ≡ false
      or-false true b is = absurd (cc)
      or-false false b is = is

  states : (earlier : List ℕ) → AreIndexes (count_of full size) earlier → LackOne (count_of full size) earlier
      → IsState full size joins earlier (after_pieces full size joins earlier)
  unfolding after_pieces AreIndexes
  states [] fit lack = refl
  states (i ∷ earlier) (low, fit) lack =
      let so_far = states earlier fit (fewer i earlier lack) in
      let next = step i earlier (after_pieces full size joins earlier) low so_far in
      let open_still = open-progress full size joins (i ∷ earlier) _ cut lack next.progress in (
        joined_with (after_pieces full size joins earlier) (piece full size i) next.part,
        next.progress,
        rw (next.taken, open_still, next.rest) refl,
      )

  answers-open : (state : List Join) (earlier : List ℕ) (i : ℕ) → IsStep full size joins earlier state i
      → LackOne (count_of full size) (i ∷ earlier) → IsOpenAnswer (answer state (piece full size i))
  answers-open state earlier i next lack =
      let open_still = open-progress full size joins (i ∷ earlier) _ cut lack next.progress in
      rw (next.taken, open_still) (by (is_repeat (open_join (piece full size i).shared state) next.part.offset (octets_of (piece full size i).shared.content)))
    where
      by : (repeats : Bool) → IsOpenAnswer (Ok (answered None repeats))
      by true = tt
      by false = tt

  answers-whole : (state : List Join) (earlier : List ℕ) (i : ℕ) → IsStep full size joins earlier state i
      → HaveAll (count_of full size) (i ∷ earlier) → answer state (piece full size i) ≡ Ok (answers.Whole full)
  answers-whole state earlier i next all =
      let whole = whole-progress full size joins (i ∷ earlier) _ cut all next.progress in
      rw (next.taken, whole) refl

pub join-again : PiecesJoinAgain
unfolding AreIndexes
join-again full size joins earlier i cut (low, fit) lack =
    let state = after_pieces full size joins earlier in
    let next = step full size joins cut i earlier state low (states full size joins cut earlier fit lack) in
    (answers-open full size joins cut state earlier i next, answers-whole full size joins cut state earlier i next)

-- ---- what code answered

-- what is answered without want of memory is the answer
answer-is : (state : List Join) (came : Full) (result : Result Joined JoinRefused) (new : Joining) → Adds state came result new
    → (result ≡ answer state came) ⊎ (result ≡ Err refusals.Memory)
answer-is state came (Ok joined) new (part, taken, is, kept) = inl (rw (taken, is) refl)
answer-is state came (Err refusals.NotFragment) new (refused, kept) = inl (rw refused refl)
answer-is state came (Err refusals.TooLarge) new (refused, kept) = inl (rw refused refl)
answer-is state came (Err refusals.TotalDiffers) new (refused, kept) = inl (rw refused refl)
answer-is state came (Err refusals.NoRoom) new (refused, kept) = inl (rw refused refl)
answer-is state came (Err refusals.Memory) new adds = inr refl

pub adds-again : (state : List Join) (came : Full) (result : Result Joined JoinRefused) (new : Joining) → Adds state came result new
    → JoinsAgain state came result
adds-again state came result new adds full size joins earlier i cut fit lack is same = (
  λ lacks. ⊎_elim (λ answered. inl (subst IsOpenAnswer (sym (answered ∙ here)) ((join-again full size joins earlier i cut fit lack).0 lacks))) (λ memory. inr memory) (answer-is state came result new adds),
  λ all. ⊎_elim (λ answered. inl (answered ∙ here ∙ (join-again full size joins earlier i cut fit lack).1 all)) (λ memory. inr memory) (answer-is state came result new adds),
)
  where
    here : answer state came ≡ answer (after_pieces full size joins earlier) (piece full size i)
    here = ap (λ s. answer s came) is ∙ ap (λ f. answer (after_pieces full size joins earlier) f) same
