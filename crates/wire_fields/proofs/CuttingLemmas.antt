-- How a stream is cut makes no difference.

use Rattle.std.proofs.Common.{◌≡◌, ℕ, ◌+◌, ◌-◌, ◌≤◌, List, [], ◌∷◌, ◌++◌, length, take, drop, Option, Some, None, Err, refl, sym, ap, ◌∙◌, subst, inl, inr, arith, append_assoc, append-nil, length-append, take-append-drop}
use Rattle.std.proofs.lemmas.Bool.{cases_lt}
use Rattle.std.proofs.lemmas.List.{take-append-le, drop-append-le, take_all}
use Rattle.std.proofs.Math.Seq.{drop-append-add}
use Rattle.std.specs.List.{concat}
use Rattle.wire_fields.specs.Refusal.{because}
use Rattle.wire_fields.specs.Reading.{read, IsOctets}
use Rattle.wire_fields.specs.Streaming.{Streamed, Stream, Answer, took, refuses, wants_memory, IsOpen, Takes, near, Refuses, Feeds, later, CutsAlike}
use Rattle.wire_fields.specs.Cutting.{Standing, goes_on, is_refused, Tells, TellInTurn, TellAsOne, TellTheSame}
use Rattle.wire_fields.proofs.StayLemmas.{read-stays, octets-parts}
use Rattle.wire_fields.proofs.ContinueLemmas.{found-longer}
use Rattle.wire_fields.proofs.ResultLemmas.{found}
use Rattle.wire_fields.proofs.StreamLemmas.{stream, take-past}
use Rattle.wire_fields.proofs.AnswerLemmas.{one-answer}

-- ---- a piece in two

module _ {C A : Type 0} (s : Streamed C A) (longest : ℕ) (old new : Stream) (first second : List ℕ)
    (small : length old.kept + length first ≤ longest) where
  cut-near : (old.kept ++ first) ++ near longest (stream old.before (old.kept ++ first)) second ≡ old.kept ++ near longest old (first ++ second)
  cut-near =
      let n = longest - length old.kept in
      let long = length-append old.kept first in
      let left : longest - length (old.kept ++ first) ≡ n - length first = omega (arith, long) in
      let parts : near longest old (first ++ second) ≡ first ++ take (n - length first) second =
      take-past n first second (omega (arith, small)) in
      append_assoc old.kept first (near longest (stream old.before (old.kept ++ first)) second)
      ∙ ap (λ t. old.kept ++ t) (ap (λ m. first ++ take m second) left ∙ sym parts)

  cut-takes : (used : ℕ) (value : Option A) → Takes s longest (stream old.before (old.kept ++ first)) second used value new
      → Takes s longest old (first ++ second) (length first + used) value new
  cut-takes used (Some a) (low, fits, reads, legal, stands) =
      let long = length-append old.kept first in
      let ends : length (old.kept ++ first) + used ≡ length old.kept + (length first + used) = omega (arith, long) in (
        omega (arith, low, length-append first second),
        omega (arith, fits, long),
        ap (λ t. read s.format t 0) (sym (append_assoc old.kept first second)) ∙ reads ∙ ap (found a) ends,
        legal,
        stands ∙ ap (λ n. stream (old.before + n) []) ends,
      )
  cut-takes used None (low, fits, begun, stands) =
      let joined = length-append first second in (
        omega (arith, low, joined),
        omega (arith, fits, length-append old.kept first, joined),
        subst (IsOpen s) (append_assoc old.kept first second) begun,
        stands ∙ ap (stream old.before) (append_assoc old.kept first second),
      )

  cut-feeds : (result : Answer C A) → Feeds s longest (stream old.before (old.kept ++ first)) second result new
      → (result ≡ wants_memory → ⊥) → Feeds s longest old (first ++ second) (later (length first) result) new
  cut-feeds (took used value) feeds whole = cut-takes used value feeds
  cut-feeds (refuses at cause) (inl refused) whole =
      inl (record {
        place = refused.place;
        reads = ap (λ t. read s.format t 0) (sym cut-near) ∙ refused.reads;
        spot = refused.spot;
      })
  cut-feeds (refuses at cause) (inr spread) whole =
      inr (record {
        begun = subst (IsOpen s) cut-near spread.begun;
        more = omega (arith, spread.more, length-append old.kept first, length-append first second);
        spot = spread.spot;
        named = spread.named;
      })
  cut-feeds wants_memory feeds whole = absurd (whole refl)

pub cuts-alike : {C A : Type 0} (s : Streamed C A) (longest : ℕ) → CutsAlike s longest
cuts-alike s longest old mid new first second result (low, small, begun, stands) feeds whole =
    cut-feeds s longest old new first second small result (subst (λ r. Feeds s longest r second result new) stands feeds) whole

-- ---- octets that follow

module _ {C A : Type 0} (s : Streamed C A) (longest : ℕ) (old : Stream) (p q : List ℕ) (fits : IsOctets (old.kept ++ (p ++ q))) where
  parted : old.kept ++ (p ++ q) ≡ (old.kept ++ p) ++ q
  parted = sym (append_assoc old.kept p q)

  takes-longer : (used : ℕ) (b : A) (mid : Stream) → Takes s longest old p used (Some b) mid
      → Takes s longest old (p ++ q) used (Some b) mid
  takes-longer used b mid (low, within, is, legal, stands) = (
    omega (arith, low, length-append p q),
    within,
    ap (λ t. read s.format t 0) parted
        ∙ found-longer s.format (old.kept ++ p) 0 (length old.kept + used) b
        (octets-parts (old.kept ++ (p ++ q)) (old.kept ++ p) q parted fits).0 (omega arith) is q,
    legal,
    stands,
  )

  room : ℕ
  room = longest - length old.kept

  refuses-longer : (at : ℕ) (cause : C) → Refuses s longest old p at cause → Refuses s longest old (p ++ q) at cause
  unfolding room
  refuses-longer at cause (inl refused) =
      let front = near longest old p in
      elim (cases_lt room (length p)) [
        | inl some ↦
            let same : near longest old (p ++ q) ≡ front = take-append-le room p q (omega (arith, some)) in
            inl (record {
              place = refused.place;
              reads = ap (λ t. read s.format (old.kept ++ t) 0) same ∙ refused.reads;
              spot = refused.spot;
            })
        | inr all ↦ inl (record {
          place = refused.place;
          reads = longer (omega (arith, all)) refused.place refused.reads;
          spot = refused.spot;
        })
      ]
    where
      longer : length p ≤ room → (place : ℕ) → read s.format (old.kept ++ near longest old p) 0 ≡ Err (place, because cause)
          → read s.format (old.kept ++ near longest old (p ++ q)) 0 ≡ Err (place, because cause)
      longer all place is =
          let same : near longest old p ≡ p = take_all room p (omega (arith, all)) in
          let was : read s.format (old.kept ++ p) 0 ≡ Err (place, because cause) = ap (λ t. read s.format (old.kept ++ t) 0) (sym same) ∙ is in
          let more = take (room - length p) q in
          let text : old.kept ++ near longest old (p ++ q) ≡ (old.kept ++ p) ++ more =
          ap (λ t. old.kept ++ t) (take-past room p q (omega (arith, all))) ∙ sym (append_assoc old.kept p more) in
          ap (λ t. read s.format t 0) text
          ∙ read-stays s.format (old.kept ++ p) more 0 (octets-parts (old.kept ++ (p ++ q)) (old.kept ++ p) q parted fits).0
          (omega arith) (rw was tt) ∙ was
  refuses-longer at cause (inr spread) =
      let same : near longest old (p ++ q) ≡ near longest old p = take-append-le room p q (omega (arith, spread.more)) in
      inr (record {
        begun = subst (λ t. IsOpen s (old.kept ++ t)) (sym same) spread.begun;
        more = omega (arith, spread.more, length-append p q);
        spot = spread.spot;
        named = spread.named;
      })

-- ---- a stream that goes on

module _ {C A : Type 0} (s : Streamed C A) (longest : ℕ) where
  -- after whole values the octets that follow in a piece are those of the stream
  comes-on : (old mid : Stream) (p : List ℕ) (used : ℕ) (b : A) → IsOctets (old.kept ++ p)
      → Takes s longest old p used (Some b) mid → IsOctets (mid.kept ++ drop used p)
  comes-on old mid p used b fits (low, within, is, legal, stands) =
      let back = (octets-parts (old.kept ++ p) old.kept p refl fits).1 in
      subst (λ r. IsOctets (r.kept ++ drop used p)) (sym stands)
      (octets-parts p (take used p) (drop used p) (sym (take-append-drop used p)) back).1

  kept-none : (old mid : Stream) (p : List ℕ) (used : ℕ) (b : A) → Takes s longest old p used (Some b) mid → mid.kept ≡ []
  kept-none old mid p used b (low, within, is, legal, stands) = ap (λ r. r.kept) stands

  kept-small : (old mid : Stream) (p : List ℕ) (used : ℕ) (b : A) → Takes s longest old p used (Some b) mid → length mid.kept ≤ longest
  kept-small old mid p used b takes = omega (arith, ap length (kept-none old mid p used b takes))

  -- ---- pieces as one

  tells-refused : (old : Stream) (p q : List ℕ) (values : List A) (at : ℕ) (cause : C)
      → IsOctets (old.kept ++ (p ++ q)) → Tells s longest old p values (is_refused at cause)
      → Tells s longest old (p ++ q) values (is_refused at cause)
  unfolding Tells
  tells-refused old p q [] at cause fits tells = refuses-longer s longest old p q fits at cause tells
  tells-refused old p q (b ∷ values) at cause fits (used, mid, takes, rest) =
      let longer = takes-longer s longest old p q fits used b mid takes in
      let seam : drop used (p ++ q) ≡ drop used p ++ q = drop-append-le used p q takes.0 in
      let next = subst (λ t. IsOctets (mid.kept ++ t)) seam (comes-on old mid (p ++ q) used b fits longer) in (
        used,
        mid,
        longer,
        subst (λ t. Tells s longest mid t values (is_refused at cause)) (sym seam)
            (tells-refused mid (drop used p) q values at cause next rest),
      )

  -- octets that leave a value open, and what others after them tell
  open-then : (old mid : Stream) (p q : List ℕ) (values : List A) (stands : Standing C)
      → Takes s longest old p (length p) None mid → Tells s longest mid q values stands → Tells s longest old (p ++ q) values stands
  unfolding Tells
  open-then old mid p q [] (goes_on new) takes tells =
      subst (λ n. Takes s longest old (p ++ q) n None new) (sym (length-append p q))
      (cuts-alike s longest old mid new p q (took (length q) None) takes tells (λ no. cc))
  open-then old mid p q [] (is_refused at cause) takes tells =
      cuts-alike s longest old mid old p q (refuses at cause) takes tells (λ no. cc)
  open-then old mid p q (b ∷ values) stands takes (used, next, more, rest) = (
    length p + used,
    next,
    cuts-alike s longest old mid next p q (took used (Some b)) takes more (λ no. cc),
    subst (λ t. Tells s longest next t values stands) (sym (drop-append-add p q used)) rest,
  )

  tells-both : (old mid : Stream) (p q : List ℕ) (values others : List A) (stands : Standing C)
      → IsOctets (old.kept ++ (p ++ q)) → Tells s longest old p values (goes_on mid) → Tells s longest mid q others stands
      → Tells s longest old (p ++ q) (values ++ others) stands
  unfolding Tells
  tells-both old mid p q [] others stands fits here there = open-then old mid p q others stands here there
  tells-both old mid p q (b ∷ values) others stands fits (used, next, takes, rest) there =
      let longer = takes-longer s longest old p q fits used b next takes in
      let seam : drop used (p ++ q) ≡ drop used p ++ q = drop-append-le used p q takes.0 in
      let octets = subst (λ t. IsOctets (next.kept ++ t)) seam (comes-on old next (p ++ q) used b fits longer) in (
        used,
        next,
        longer,
        subst (λ t. Tells s longest next t (values ++ others) stands) (sym seam)
            (tells-both next mid (drop used p) q values others stands octets rest there),
      )

  -- how the stream stands after octets that leave it open
  after : (old mid : Stream) (p q : List ℕ) (values : List A) → IsOctets (old.kept ++ (p ++ q))
      → Tells s longest old p values (goes_on mid) → (length mid.kept ≤ longest) × IsOpen s mid.kept × IsOctets (mid.kept ++ q)
  unfolding Tells
  after old mid p q [] fits (low, within, begun, stands) = (
    omega (arith, within, length-append old.kept p, ap (λ r. length r.kept) stands),
    subst (λ r. IsOpen s r.kept) (sym stands) begun,
    subst (λ r. IsOctets (r.kept ++ q)) (sym stands) (subst IsOctets (sym (append_assoc old.kept p q)) fits),
  )
  after old mid p q (b ∷ values) fits (used, next, takes, rest) =
      let longer = takes-longer s longest old p q fits used b next takes in
      let seam : drop used (p ++ q) ≡ drop used p ++ q = drop-append-le used p q takes.0 in
      let octets = subst (λ t. IsOctets (next.kept ++ t)) seam (comes-on old next (p ++ q) used b fits longer) in
      after next mid (drop used p) q values octets rest

  in-turn : (pieces : List (List ℕ)) (old : Stream) (values : List A) (stands : Standing C) → length old.kept ≤ longest
      → IsOpen s old.kept → IsOctets (old.kept ++ concat pieces) → TellInTurn s longest old pieces values stands
      → Tells s longest old (concat pieces) values stands
  unfolding Tells TellInTurn
  in-turn [] old values stands small begun fits (none, is) =
      let all = append-nil old.kept in
      subst (λ x. Tells s longest old [] x stands) (sym none) (subst (λ r. Tells s longest old [] [] r) (sym is)
      (omega arith, omega (arith, small), subst (IsOpen s) (sym all) begun, ap (λ t. record { before = old.before; kept = t }) (sym all)))
  in-turn (piece ∷ pieces) old values (goes_on new) small begun fits (inl ends) = absurd ends
  in-turn (piece ∷ pieces) old values (is_refused at cause) small begun fits (inl ends) =
      tells-refused old piece (concat pieces) values at cause fits ends
  in-turn (piece ∷ pieces) old values stands small begun fits (inr (first, others, mid, all, here, there)) =
      let (less, waits, octets) = after old mid piece (concat pieces) first fits here in
      subst (λ x. Tells s longest old (piece ++ concat pieces) x stands) (sym all)
      (tells-both old mid piece (concat pieces) first others stands fits here
      (in-turn pieces mid others stands less waits octets there))

  -- ---- one answer

  module _ (old : Stream) (p : List ℕ) (small : length old.kept ≤ longest) (fits : IsOctets (old.kept ++ p)) where
    both : (one other : Answer C A) (new then : Stream) → (one ≡ wants_memory → ⊥) → (other ≡ wants_memory → ⊥)
        → Feeds s longest old p one new → Feeds s longest old p other then → other ≡ one
    both one other new then given again feeds fed_again =
        one-answer s longest old then p other small fits fed_again again
        ∙ sym (one-answer s longest old new p one small fits feeds given)

    open-once : (new then : Stream) → Takes s longest old p (length p) None new → Takes s longest old p (length p) None then → then ≡ new
    open-once new then (low, within, begun, stands) (low', within', begun', stands') = stands' ∙ sym stands

    open-refused : {X : Type 0} (new : Stream) (at : ℕ) (cause : C) → Takes s longest old p (length p) None new
        → Refuses s longest old p at cause → X
    open-refused new at cause takes turned =
        let no : refuses at cause ≡ took (length p) None = both (took (length p) None) (refuses at cause) new old (λ e. cc) (λ e. cc) takes turned in
        absurd (cc)

    open-whole : {X : Type 0} (new mid : Stream) (used : ℕ) (b : A) → Takes s longest old p (length p) None new
        → Takes s longest old p used (Some b) mid → X
    open-whole new mid used b takes ends =
        let no : took used (Some b) ≡ took (length p) None = both (took (length p) None) (took used (Some b)) new mid (λ e. cc) (λ e. cc) takes ends in
        absurd (cc)

    refused-whole : {X : Type 0} (mid : Stream) (used : ℕ) (b : A) (at : ℕ) (cause : C) → Refuses s longest old p at cause
        → Takes s longest old p used (Some b) mid → X
    refused-whole mid used b at cause turned ends =
        let no : took used (Some b) ≡ refuses at cause = both (refuses at cause) (took used (Some b)) old mid (λ e. cc) (λ e. cc) turned ends in
        absurd (cc)

    refused-once : (at then : ℕ) (cause again : C) → Refuses s longest old p at cause → Refuses s longest old p then again
        → is_refused then again ≡ is_refused at cause
    refused-once at then cause again one other =
        let same = both (refuses at cause) (refuses then again) old old (λ e. cc) (λ e. cc) one other in
        cc

    whole-once : (mid next : Stream) (used then : ℕ) (b c : A) → Takes s longest old p used (Some b) mid
        → Takes s longest old p then (Some c) next → (then ≡ used) × (c ≡ b) × (next ≡ mid)
    whole-once mid next used then b c one other =
        let same : took then (Some c) ≡ took used (Some b) = both (took used (Some b)) (took then (Some c)) mid next (λ e. cc) (λ e. cc) one other in
        let ends : then ≡ used = ap used_in same in
        let found : Some c ≡ Some b = ap found_in same in
        (ends, cc, stood other ∙ ap (λ n. record { before = old.before + (length old.kept + n); kept = [] }) ends ∙ sym (stood one))
      where
        used_in : Answer C A → ℕ
        used_in (took n value) = n
        used_in (refuses at cause) = 0
        used_in wants_memory = 0

        found_in : Answer C A → Option A
        found_in (took n value) = value
        found_in (refuses at cause) = None
        found_in wants_memory = None

        stood : {k : ℕ} {a : A} {new : Stream} → Takes s longest old p k (Some a) new
            → new ≡ record { before = old.before + (length old.kept + k); kept = [] }
        stood (low, within, is, legal, stands) = stands

  told-once : (values again : List A) (old : Stream) (p : List ℕ) (stands then : Standing C) → length old.kept ≤ longest
      → IsOctets (old.kept ++ p) → Tells s longest old p values stands → Tells s longest old p again then
      → (again ≡ values) × (then ≡ stands)
  unfolding Tells
  told-once [] [] old p (goes_on new) (goes_on next) small fits one other = (refl, ap goes_on (open-once old p small fits new next one other))
  told-once [] [] old p (goes_on new) (is_refused at cause) small fits one other = open-refused old p small fits new at cause one other
  told-once [] [] old p (is_refused at cause) (goes_on next) small fits one other = open-refused old p small fits next at cause other one
  told-once [] [] old p (is_refused at cause) (is_refused there for) small fits one other =
      (refl, refused-once old p small fits at there cause for one other)
  told-once [] (c ∷ again) old p (goes_on new) then small fits one (used, mid, takes, rest) =
      open-whole old p small fits new mid used c one takes
  told-once [] (c ∷ again) old p (is_refused at cause) then small fits one (used, mid, takes, rest) =
      refused-whole old p small fits mid used c at cause one takes
  told-once (b ∷ values) [] old p stands (goes_on next) small fits (used, mid, takes, rest) other =
      open-whole old p small fits next mid used b other takes
  told-once (b ∷ values) [] old p stands (is_refused at cause) small fits (used, mid, takes, rest) other =
      refused-whole old p small fits mid used b at cause other takes
  told-once (b ∷ values) (c ∷ again) old p stands then small fits (used, mid, takes, rest) (there, next, ends, others) =
      let (same, value_same, stream_same) = whole-once old p small fits mid next used there b c takes ends in
      let on = comes-on old mid p used b fits takes in
      let rest_too : Tells s longest mid (drop used p) again then =
      subst (λ n. Tells s longest mid (drop n p) again then) same (subst (λ r. Tells s longest r (drop there p) again then) stream_same others) in
      let (values_same, stands_same) = told-once values again mid (drop used p) stands then (kept-small old mid p used b takes) on rest rest_too in
      (ap (λ x. c ∷ x) values_same ∙ ap (λ x. x ∷ values) value_same, stands_same)

pub tell-as-one : {C A : Type 0} (s : Streamed C A) (longest : ℕ) → TellAsOne s longest
tell-as-one s longest old pieces values stands comes tells =
    in-turn s longest pieces old values stands comes.small comes.begun comes.octets tells

pub tell-the-same : {C A : Type 0} (s : Streamed C A) (longest : ℕ) → TellTheSame s longest
tell-the-same s longest old pieces others values again stands then comes same tells tell_too =
    let one = in-turn s longest pieces old values stands comes.small comes.begun comes.octets tells in
    let octets = subst (λ t. IsOctets (old.kept ++ t)) (sym same) comes.octets in
    let other = in-turn s longest others old again then comes.small comes.begun octets tell_too in
    told-once s longest values again old (concat pieces) stands then comes.small comes.octets one
    (subst (λ t. Tells s longest old t again then) same other)
