-- Fragments of one record give that record.

use Rattle.std.proofs.Common.{◌≡◌, ℕ, zero, suc, ◌+◌, ◌-◌, ◌<◌, ◌≤◌, ◌==◌, ◌&&◌, Bool, true, false, nat_lt, if◌then◌else◌, All, List, [], ◌∷◌, length, take, drop, get_or, Option, None, Some, Result, Ok, Err, refl, sym, ap, ◌∙◌, subst, arith, ⊎_elim, eqb-true, eq-eqb}
use Rattle.std.specs.List.{slice_get}
use Rattle.std.proofs.lemmas.Bool.{cases_lt, and_parts}
use Rattle.std.proofs.lemmas.List.{get_or-take, get_or-drop, ext_get_or}
use Rattle.std.proofs.lemmas.List.Sums.{passes_at_first}
use Rattle.std.proofs.lemmas.Option.{slice_get_within, get_or_from_slice_get}
use Rattle.std.proofs.lemmas.List.Elements.{All-take, All-drop, All-append, All-nil, All-cons, All-head, All-tail}
use Rattle.std.proofs.lemmas.Slice.Eq.{bytes_eq-Decides}
use Rattle.endpoint.specs.declared.extent.Fragment.{Fragment}
use Rattle.endpoint.specs.declared.name.Endpoint.{Endpoint}
use Rattle.endpoint.specs.declared.name.Endpoint.TheVariants.{Null, Ipn, Dtn}
use Rattle.bundle_meaning.specs.declared.shared.Shared.{Shared}
use Rattle.bundle_meaning.specs.declared.full.Full.{Full}
use Rattle.fragments.specs.declared.fault.JoinRefused.{JoinRefused}
use Rattle.fragments.specs.declared.join.Join.{Join}
use Rattle.fragments.specs.declared.joining.Joined.{Joined}
use Rattle.fragments.specs.declared.joining.Joined.TheVariants as answers
use Rattle.cells.specs.Cells.{cell, octet_in, or_else, all_octets}
use Rattle.fragments.specs.Cutting.{octets_of}
use Rattle.fragments.specs.Joining.{same_endpoint, is_named, index_of, open_join, others, accepted, started, with_payload, unfragmented, head_with, grown, whole_of, whole_with, is_repeat, joined_with, answered, kept_after}
use Rattle.fragments.specs.Again.{after, after_at, after_records, answer, answer_at}
use Rattle.fragments.specs.Payload.{have_one_name, IsFragmentOf, IsFragmentIfNamed, FragmentsGiveTheWhole}
use Rattle.cells.proofs.CellLemmas.{octet_in-inside, octet_in-before_first, octet_in-past, all_octets-cell, all_octets-length}
use Rattle.fragments.proofs.AgainLemmas.{cell-with}
use Rattle.fragments.proofs.BegunLemmas.{is-taken}

-- ---- names

same-is : (one other : Endpoint) → same_endpoint one other ≡ true → one ≡ other
same-is Null Null is = refl
same-is Null (Ipn node service) is = absurd (cc)
same-is Null (Dtn ssp) is = absurd (cc)
same-is (Ipn node service) Null is = absurd (cc)
same-is (Ipn node service) (Ipn node2 service2) is =
    let both = and_parts (node == node2) (service == service2) is in
    ap (λ n. Ipn n service) (eqb-true node node2 both.0) ∙ ap (Ipn node2) (eqb-true service service2 both.1)
same-is (Ipn node service) (Dtn ssp) is = absurd (cc)
same-is (Dtn ssp) Null is = absurd (cc)
same-is (Dtn ssp) (Ipn node service) is = absurd (cc)
same-is (Dtn ssp) (Dtn ssp2) is = ap Dtn ((bytes_eq-Decides ssp ssp2).0 is)

-- what a name is
pub record AreSame (millis sequence : ℕ) (source : Endpoint) (millis2 sequence2 : ℕ) (source2 : Endpoint) : Type 0 where
  pub time : millis ≡ millis2
  pub number : sequence ≡ sequence2
  pub node : source ≡ source2

pub are-same : (m n m2 n2 : ℕ) (e e2 : Endpoint) → (m == m2 && n == n2 && same_endpoint e e2) ≡ true → AreSame m n e m2 n2 e2
are-same m n m2 n2 e e2 is =
    let all = and_parts (m == m2 && n == n2) (same_endpoint e e2) is in
    let both = and_parts (m == m2) (n == n2) all.0 in
    record { time = eqb-true m m2 both.0; number = eqb-true n n2 both.1; node = same-is e e2 all.1 }

-- ---- a join to which fragments of the whole came

-- the octet of a cell, where there is one
abbrev IsCell : ℕ → Option ℕ → Type 0
IsCell octet None = Unit {0}
IsCell octet (Some own) = own ≡ octet

-- the first fragment, where it came
abbrev IsHead : Full → Option Full → Type 0
IsHead whole None = Unit {0}
IsHead whole (Some head) = with_payload head (octets_of whole.shared.content) ≡ whole

record IsPartOf (whole : Full) (join : Join) : Type 0 where
  total : join.total ≡ length (octets_of whole.shared.content)
  each : (k : ℕ) → k < length (octets_of whole.shared.content) → IsCell (get_or (octets_of whole.shared.content) k 0) (cell join.cells k)
  head : IsHead whole join.head

abbrev IsPartIfNamed : Full → Join → Type 0
IsPartIfNamed whole join = is_named whole.shared join ≡ true → IsPartOf whole join

either-cell : (octet : ℕ) (c d : Option ℕ) → IsCell octet c → IsCell octet d → IsCell octet (or_else c d)
either-cell octet None d first second = second
either-cell octet (Some own) d first second = first

-- an octet of a fragment is the whole's at its place
own-cell : (whole full : Full) (f : IsFragmentOf whole full) (k : ℕ)
    → IsCell (get_or (octets_of whole.shared.content) k 0) (octet_in f.part.offset (octets_of full.shared.content) k)
own-cell whole full f k = ⊎_elim before from (cases_lt k f.part.offset)
  where
    all : List ℕ
    all = octets_of whole.shared.content

    body : List ℕ
    body = octets_of full.shared.content

    before : k < f.part.offset → IsCell (get_or all k 0) (octet_in f.part.offset body k)
    before low = rw (octet_in-before_first f.part.offset body k low) tt

    inside : f.part.offset ≤ k → k < f.part.offset + length body → IsCell (get_or all k 0) (octet_in f.part.offset body k)
    inside least low =
        let place : f.part.offset + (k - f.part.offset) ≡ k = omega (arith, least) in
        let at : get_or body (k - f.part.offset) 0 ≡ get_or all k 0 =
        ap (λ w. get_or w (k - f.part.offset) 0) f.octets
        ∙ get_or-take (length body) (drop f.part.offset all) (k - f.part.offset) 0 (omega (arith, least, low))
        ∙ get_or-drop f.part.offset all (k - f.part.offset) 0 ∙ ap (λ n. get_or all n 0) place in
        rw (octet_in-inside f.part.offset body k least low) at

    from : f.part.offset ≤ k → IsCell (get_or all k 0) (octet_in f.part.offset body k)
    from least = ⊎_elim (inside least)
        (λ (past : f.part.offset + length body ≤ k). rw (octet_in-past f.part.offset body k past) tt)
        (cases_lt k (f.part.offset + length body))

own-head : (whole full : Full) (f : IsFragmentOf whole full) (head : Option Full) → IsHead whole head
    → IsHead whole (head_with head full f.part.offset)
own-head whole full f (Some head) is = is
own-head whole full f None is = by (f.part.offset == 0) refl
  where
    by : (t : Bool) → (f.part.offset == 0) ≡ t → IsHead whole (if t then Some (unfragmented full) else None)
    by true first = f.first (eqb-true f.part.offset 0 first)
    by false later = tt

grows : (whole full : Full) (f : IsFragmentOf whole full) (join : Join) → IsPartOf whole join → IsPartOf whole (grown join full f.part.offset)
grows whole full f join is = record {
  total = is.total;
  each = λ k low.
      rw (cell-with join.cells f.part.offset (octets_of full.shared.content) k)
      (either-cell (get_or (octets_of whole.shared.content) k 0) (cell join.cells k) _ (is.each k low) (own-cell whole full f k));
  head = own-head whole full f join.head is.head;
}

-- ---- the joins

abbrev Are : Full → List Join → Type 0
Are whole joins = All (IsPartIfNamed whole) joins

are-others : (whole : Full) (shared : Shared) (joins : List Join) → Are whole joins → Are whole (others shared joins)
are-others whole shared joins are = by (nat_lt (index_of shared joins) (length joins)) refl
  where
    by : (t : Bool) → nat_lt (index_of shared joins) (length joins) ≡ t → Are whole (others shared joins)
    by true is =
        rw is (All-append (IsPartIfNamed whole) (take (index_of shared joins) joins) (drop (suc (index_of shared joins)) joins)
        (All-take (IsPartIfNamed whole) (index_of shared joins) joins are) (All-drop (IsPartIfNamed whole) (suc (index_of shared joins)) joins are))
    by false is = rw is are

are-get : (whole : Full) (i : ℕ) (joins : List Join) (join : Join) → slice_get joins i ≡ Some join → Are whole joins → IsPartIfNamed whole join
are-get whole zero (first ∷ joins) join is are =
    let same : first ≡ join = cc in
    subst (IsPartIfNamed whole) same (All-head (IsPartIfNamed whole) first joins are)
are-get whole (suc i) (first ∷ joins) join is are = are-get whole i joins join is (All-tail (IsPartIfNamed whole) first joins are)
are-get whole zero [] join is are = absurd (cc)
are-get whole (suc i) [] join is are = absurd (cc)

-- the join that is found has the name
pub found-named : (shared : Shared) (joins : List Join) (join : Join) → open_join shared joins ≡ Some join → is_named shared join ≡ true
found-named shared joins join is =
    let low : index_of shared joins < length joins = slice_get_within joins (index_of shared joins) join is in
    let read : get_or joins (index_of shared joins) join ≡ join = get_or_from_slice_get joins (index_of shared joins) join join is in
    subst (λ (j : Join). is_named shared j ≡ true) read (passes_at_first (is_named shared) joins join low)

equal : (n : ℕ) → (n == n) ≡ true
equal n = eq-eqb n n refl

same-self : (e : Endpoint) → same_endpoint e e ≡ true
same-self Null = refl
same-self (Ipn node service) = rw (equal node, equal service) refl
same-self (Dtn ssp) = (bytes_eq-Decides ssp ssp).1 refl

-- a record has its own name
pub own-name : (shared : Shared) → have_one_name shared shared ≡ true
own-name shared = rw (equal shared.millis, equal shared.sequence, same-self shared.source) refl

-- two records whose joins have one name have one name
pub named-same : (one other : Shared) (join : Join) → is_named one join ≡ true → is_named other join ≡ true → have_one_name one other ≡ true
named-same one other join first second =
    let a = are-same one.millis one.sequence join.millis join.sequence one.source join.source first in
    let b = are-same other.millis other.sequence join.millis join.sequence other.source join.source second in
    let millis : one.millis ≡ other.millis = a.time ∙ sym b.time in
    let sequence : one.sequence ≡ other.sequence = a.number ∙ sym b.number in
    let source : one.source ≡ other.source = a.node ∙ sym b.node in
    rw (millis, sequence, source, equal other.millis, equal other.sequence, same-self other.source) refl

-- and so has a new join
new-same : (one other : Shared) → have_one_name other one ≡ true → have_one_name one other ≡ true
new-same one other is =
    let a = are-same other.millis other.sequence one.millis one.sequence other.source one.source is in
    rw (a.time, a.number, a.node, equal one.millis, equal one.sequence, same-self one.source) refl

-- ---- one record more

module _ (whole full : Full) (joins : List Join) (are : Are whole joins) (is : IsFragmentIfNamed whole full) where
  -- the join of a fragment has the fragment's name
  own-named : (kept : Option Join) → open_join full.shared joins ≡ kept → (total : ℕ)
      → is_named whole.shared (started kept full.shared total) ≡ true → have_one_name full.shared whole.shared ≡ true
  own-named None found total named = new-same full.shared whole.shared named
  own-named (Some join) found total named = named-same full.shared whole.shared join (found-named full.shared joins join found) named

  started-part : (kept : Option Join) → open_join full.shared joins ≡ kept → (part : Fragment) → IsFragmentOf whole full
      → full.shared.fragment ≡ Some part → IsPartIfNamed whole (started kept full.shared part.total)
  started-part None found part f own = λ named. record {
    total = let same : f.part ≡ part = one_of (sym f.fragment ∙ own) in ap (λ (p : Fragment). p.total) (sym same) ∙ f.total;
    each = λ k low. tt;
    head = tt;
  }
    where
      one_of : {p q : Fragment} → Some p ≡ Some q → p ≡ q
      one_of is = cc
  started-part (Some join) found part f own = are-get whole (index_of full.shared joins) joins join found are

  joined-part : (part : Fragment) → accepted joins full.shared ≡ Ok part → IsPartIfNamed whole (joined_with joins full part)
  joined-part part taken = λ named.
      let own = (is-taken joins full part taken).own in
      let f = is (own-named (open_join full.shared joins) refl part.total named) in
      let same : f.part ≡ part = one_of (sym f.fragment ∙ own) in
      subst (λ (p : Fragment). IsPartOf whole (grown (started (open_join full.shared joins) full.shared part.total) full p.offset)) same
      (grows whole full f (started (open_join full.shared joins) full.shared part.total)
      (started-part (open_join full.shared joins) refl part f own named))
    where
      one_of : {p q : Fragment} → Some p ≡ Some q → p ≡ q
      one_of is = cc

  after-are : Are whole (after joins full)
  after-are = by (accepted joins full.shared) refl
    where
      kept : (given : Option Full) (part : Fragment) → accepted joins full.shared ≡ Ok part
          → Are whole (kept_after given (others full.shared joins) (joined_with joins full part))
      kept (Some given) part taken = are-others whole full.shared joins are
      kept None part taken =
          All-append (IsPartIfNamed whole) (others full.shared joins) (joined_with joins full part ∷ []) (are-others whole full.shared joins are)
          (All-cons (IsPartIfNamed whole) (joined_with joins full part) [] (joined-part part taken) (All-nil (IsPartIfNamed whole)))

      by : (taken : Result Fragment JoinRefused) → accepted joins full.shared ≡ taken → Are whole (after_at joins full taken)
      by (Ok part) taken = kept (whole_of (joined_with joins full part)) part taken
      by (Err refused) taken = are

records-are : (whole : Full) (records : List Full) → All (IsFragmentIfNamed whole) records → Are whole (after_records records)
unfolding after_records
records-are whole [] all = All-nil (IsPartIfNamed whole)
records-are whole (full ∷ earlier) all =
    after-are whole full (after_records earlier) (records-are whole earlier (All-tail (IsFragmentIfNamed whole) full earlier all))
    (All-head (IsFragmentIfNamed whole) full earlier all)

-- ---- the whole

record IsWhole (join : Join) (given : Full) : Type 0 where
  octets : List ℕ
  head : Full
  all : all_octets join.cells ≡ Some octets
  long : join.total ≡ length join.cells
  first : join.head ≡ Some head
  given_is : given ≡ with_payload head octets

is-whole : (join : Join) (given : Full) → whole_of join ≡ Some given → IsWhole join given
is-whole join given is = by (join.total == length join.cells) refl is
  where
    headed : (octets : List ℕ) (head : Option Full) → all_octets join.cells ≡ Some octets → join.total ≡ length join.cells → join.head ≡ head
        → whole_with (Some octets) head ≡ Some given → IsWhole join given
    headed octets None all long first is = absurd (cc)
    headed octets (Some head) all long first is = record { octets = octets; head = head; all = all; long = long; first = first; given_is = cc }

    filled_all : (all : Option (List ℕ)) → all_octets join.cells ≡ all → join.total ≡ length join.cells → whole_with all join.head ≡ Some given → IsWhole join given
    filled_all None all long is = absurd (cc)
    filled_all (Some octets) all long is = headed octets join.head all long refl is

    by : (t : Bool) → (join.total == length join.cells) ≡ t → whole_with (if t then all_octets join.cells else None) join.head ≡ Some given → IsWhole join given
    by false test is = absurd (cc)
    by true test is = filled_all (all_octets join.cells) refl (eqb-true join.total (length join.cells) test) is

whole-is : (whole given : Full) (join : Join) → IsPartOf whole join → whole_of join ≡ Some given → given ≡ whole
whole-is whole given join part is =
    w.given_is ∙ ap (with_payload w.head) same ∙ subst (IsHead whole) w.first part.head
  where
    w : IsWhole join given
    w = is-whole join given is

    all : List ℕ
    all = octets_of whole.shared.content

    long : length w.octets ≡ length all
    long = all_octets-length join.cells w.octets w.all ∙ sym w.long ∙ part.total

    each : (k : ℕ) → k < length w.octets → get_or w.octets k 0 ≡ get_or all k 0
    each k low =
        subst (IsCell (get_or all k 0)) (all_octets-cell join.cells w.octets w.all k low) (part.each k (omega (arith, low, long)))

    same : w.octets ≡ all
    same = ext_get_or 0 w.octets all long each

-- what a whole is answered from
record IsAnswered (joins : List Join) (full given : Full) : Type 0 where
  part : Fragment
  taken : accepted joins full.shared ≡ Ok part
  whole : whole_of (joined_with joins full part) ≡ Some given

-- an answer, and no refusal
abbrev given_as : Joined → Result Joined JoinRefused
given_as joined = Ok joined

is-answered : (joins : List Join) (full given : Full) → answer joins full ≡ Ok (answers.Whole given) → IsAnswered joins full given
is-answered joins full given is = by (accepted joins full.shared) refl is
  where
    whole_is : (o : Option Full) (repeats : Bool) → given_as (answered o repeats) ≡ given_as (answers.Whole given) → o ≡ Some given
    whole_is (Some own) repeats is = cc
    whole_is None true is = absurd (cc)
    whole_is None false is = absurd (cc)

    by : (taken : Result Fragment JoinRefused) → accepted joins full.shared ≡ taken → answer_at joins full taken ≡ Ok (answers.Whole given)
        → IsAnswered joins full given
    by (Ok part) taken is = record {
      part = part;
      taken = taken;
      whole = whole_is (whole_of (joined_with joins full part)) (is_repeat (open_join full.shared joins) part.offset (octets_of full.shared.content)) is;
    }
    by (Err refused) taken is = absurd (cc)

-- the join of a fragment has the name of the whole
joined-named : (whole full : Full) (joins : List Join) (part : Fragment) → have_one_name full.shared whole.shared ≡ true
    → is_named whole.shared (joined_with joins full part) ≡ true
joined-named whole full joins part named = by (open_join full.shared joins) refl
  where
    by : (kept : Option Join) → open_join full.shared joins ≡ kept → is_named whole.shared (started kept full.shared part.total) ≡ true
    by None found = new-same whole.shared full.shared named
    by (Some join) found =
        let own = found-named full.shared joins join found in
        let a = are-same full.shared.millis full.shared.sequence join.millis join.sequence full.shared.source join.source own in
        let b = are-same full.shared.millis full.shared.sequence whole.shared.millis whole.shared.sequence full.shared.source whole.shared.source named in
        let millis : whole.shared.millis ≡ join.millis = sym b.time ∙ a.time in
        let sequence : whole.shared.sequence ≡ join.sequence = sym b.number ∙ a.number in
        let source : whole.shared.source ≡ join.source = sym b.node ∙ a.node in
        rw (millis, sequence, source, equal join.millis, equal join.sequence, same-self join.source) refl

pub give_the_whole : FragmentsGiveTheWhole
give_the_whole whole given full earlier all named is =
    let joins = after_records earlier in
    let answer = is-answered joins full given is in
    let are = records-are whole earlier (All-tail (IsFragmentIfNamed whole) full earlier all) in
    let own = All-head (IsFragmentIfNamed whole) full earlier all in
    whole-is whole given (joined_with joins full answer.part)
    (joined-part whole full joins are own answer.part answer.taken (joined-named whole full joins answer.part named)) answer.whole
