-- The code's ids of pieces that are still to be added are those of the definition.
use Rattle.std.proofs.Common.{◌≡◌, ℕ, ◌+◌, ◌^◌, ◌<◌, ◌≤◌, ◌==◌, ◌&&◌, ◌||◌, Bool, true, false, not, nat_lt, if◌then◌else◌, List, [], ◌∷◌, ◌++◌, take, drop, get_or, length, Bor, Option, None, Some, IfSome, IfNone, refl, sym, ap, ◌∙◌, subst, arith}
use Rattle.std.proofs.lemmas.Bool.{and_parts, ltb-true, leb-true, le-leb, eq-eqb, eqb-true, ne_eqb}
use Rattle.std.proofs.lemmas.List.{take_more}
use Rattle.std.proofs.lemmas.List.Elements.{filter_agree}
use Rattle.std.specs.List.{Contains, filter, list_any}
use Rattle.gate_cases.specs.declared.face.Face.{Face}
use Rattle.gate_cases.specs.declared.face.Face.TheVariants.{Old, New}
use Rattle.gateway_core.specs.Gate.{at_face, with_face}
use Rattle.journal_file.specs.declared.kept.Pending.{Pending}
use Rattle.journal_file.specs.Values.{KeptValue}
use Rattle.journal_file.specs.Keeping.{has_id, same_face}
use Rattle.journal_file.specs.Legal.{AreUpTo}
use Rattle.gate_records.specs.Keeping.{octets_of}
use Rattle.gate_records.specs.Records.{reserved_records}
use Rattle.gate_records.proofs.LeaveLemmas.{apart-pending}
use Rattle.peer_gateway.specs.Gate.{AddedAt}
use Rattle.peer_records.specs.Happened.{PeerHappened}
use Rattle.peer_records.specs.Keeping.{PeerKeeping, ids_pending, times, is_to_add, to_add_at, starts_peer_keeping}
use Rattle.peer_records.specs.Records.{Going}
use Rattle.peer_records.specs.Halves.{PeerRecorded, recording}
use Rattle.peer_records.specs.Laws.{still_to_add}
use Rattle.peer_records.specs.Said.{SaidValue, said_with, shown, AreRising, IsOrdered, rises, ids_at, Rise, IsTied, AreToAdd, is_among, without_id, ids_left}
use Rattle.peer_records.proofs.OrderLemmas.{rising-some}
use Rattle.peer_records.proofs.ToAddLemmas.{After, after-it, apart-greatest, eq-comm}
use Rattle.peer_records.proofs.HalfLemmas.{both-apart}
use Rattle.peer_records.proofs.FindLemmas.{same-piece, any-contained, first-contained}

-- ---- ids of pieces

without-ids : (x : ℕ) (ps : List Pending) → ids_pending (filter (λ (p : Pending). not (p.id == x)) ps) ≡ without_id x (ids_pending ps)
without-ids x [] = refl
without-ids x (p ∷ ps) = by (p.id == x) (without-ids x ps)
  where
    by : (t : Bool) → ids_pending (filter (λ (q : Pending). not (q.id == x)) ps) ≡ without_id x (ids_pending ps)
        → ids_pending (if not t then p ∷ filter (λ (q : Pending). not (q.id == x)) ps else filter (λ (q : Pending). not (q.id == x)) ps)
        ≡ (if not t then p.id ∷ without_id x (ids_pending ps) else without_id x (ids_pending ps))
    by true rest = rest
    by false rest = ap (λ (l : List ℕ). p.id ∷ l) rest

left-ids : (again : Option ℕ) (added : List AddedAt) (ps : List Pending) → ids_pending (still_to_add again added ps) ≡ ids_left again added (ids_pending ps)
left-ids None added ps = refl
left-ids (Some id) [] ps = refl
left-ids (Some id) (a ∷ more) ps = without-ids id ps

rise-ids : (n : ℕ) (ps : List Pending) → AreRising n ps → Rise n (ids_pending ps)
rise-ids n [] are = tt
rise-ids n (p ∷ ps) (above, are) = (above, rise-ids p.id ps are)

-- so those that are still to be added rise
tied-rise : (s : SaidValue) (g : Going) (to_add : List ℕ × List ℕ) (face : Face) → IsTied s g to_add → Rise 0 (at_face to_add face)
tied-rise s g to_add face is =
    let k : PeerKeeping = (shown s g).keeping in
    subst (λ (ids : List ℕ). Rise 0 ids) (sym (is.to_add face))
    (rise-ids 0 (to_add_at face k) (rising-some (λ (p : Pending). same_face p.face face && is_to_add k p) 0 (s.kept).pending (is.ordered).rising))

-- ---- the code's ids

above-others : (id n : ℕ) (ids : List ℕ) → id ≤ n → Rise n ids → without_id id ids ≡ ids
above-others id n [] le rise = refl
above-others id n (x ∷ ids) le (above, rise) =
    let apart : (x == id) ≡ false = ne_eqb x id (λ e. omega (arith, e, le, above)) in
    rw apart (ap (λ (l : List ℕ). x ∷ l) (above-others id x ids (omega (arith, le, above)) rise))

front-out : (id : ℕ) (ids more : List ℕ) → ids ≡ id ∷ more → Rise 0 ids → more ≡ without_id id ids
front-out id [] more is rise = absurd (cc)
front-out id (x ∷ ids) more is (above, rise) =
    let same : x ≡ id = cc in
    let left : ids ≡ more = cc in
    let there : (x == id) ≡ true = eq-eqb x id same in
    rw there (sym left ∙ sym (above-others id x ids (omega (arith, same)) rise))

none-out : (id : ℕ) (ids : List ℕ) → is_among ids id ≡ false → without_id id ids ≡ ids
none-out id [] none = refl
none-out id (x ∷ ids) none =
    let other = neither (id == x) (is_among ids id) none in
    let apart : (x == id) ≡ false = eq-comm x id ∙ other.0 in
    rw apart (ap (λ (l : List ℕ). x ∷ l) (none-out id ids other.1))
  where
    neither : (a b : Bool) → (a || b) ≡ false → (a ≡ false) × (b ≡ false)
    neither true b is = absurd (cc)
    neither false b is = (refl, is)

front-among : (id : ℕ) (ids more : List ℕ) → ids ≡ id ∷ more → is_among ids id ≡ true
front-among id ids more is = rw (is, eq-eqb id id refl) refl

abbrev two : List ℕ → List ℕ → List ℕ × List ℕ
two old new = (old, new)

-- the first of the old face, or of the new one, leaves
first-old : (id : ℕ) (old new more : List ℕ) → AreToAdd (two old new) → old ≡ id ∷ more → two more new ≡ two (without_id id old) (without_id id new)
first-old id old new more are is =
    let left = front-out id old more is are.old in
    let same = none-out id new (are.apart id (front-among id old more is)) in
    ap (λ (l : List ℕ). two l new) left ∙ ap (λ (l : List ℕ). two (without_id id old) l) (sym same)

first-new : (id : ℕ) (old new more : List ℕ) → AreToAdd (two old new) → new ≡ id ∷ more → two old more ≡ two (without_id id old) (without_id id new)
first-new id old new more are is =
    let left = front-out id new more is are.new in
    let same = none-out id old (by (is_among old id) refl) in
    ap (λ (l : List ℕ). two old l) left ∙ ap (λ (l : List ℕ). two l (without_id id new)) (sym same)
  where
    by : (b : Bool) → is_among old id ≡ b → is_among old id ≡ false
    by true there = let no = are.apart id there in let yes = front-among id new more is in absurd (cc)
    by false there = there

pub old-out : (id : ℕ) (old new more : List ℕ) (t : List ℕ × List ℕ) → two old new ≡ t → old ≡ id ∷ more → AreToAdd t → two more new ≡ two (without_id id t.0) (without_id id t.1)
old-out id old new more t view is are =
    subst (λ (u : List ℕ × List ℕ). two more new ≡ two (without_id id u.0) (without_id id u.1)) view
    (first-old id old new more (subst (λ (u : List ℕ × List ℕ). AreToAdd u) (sym view) are) is)

pub new-out : (id : ℕ) (old new more : List ℕ) (t : List ℕ × List ℕ) → two old new ≡ t → new ≡ id ∷ more → AreToAdd t → two old more ≡ two (without_id id t.0) (without_id id t.1)
new-out id old new more t view is are =
    subst (λ (u : List ℕ × List ℕ). two old more ≡ two (without_id id u.0) (without_id id u.1)) view
    (first-new id old new more (subst (λ (u : List ℕ × List ℕ). AreToAdd u) (sym view) are) is)

-- ---- no id is of both faces

none-below : (id n : ℕ) (test : Pending → Bool) (ps : List Pending) → id ≤ n → AreRising n ps → is_among (ids_pending (filter test ps)) id ≡ false
none-below id n test [] le are = refl
none-below id n test (p ∷ ps) le (above, are) = by (test p) (none-below id p.id test ps (omega (arith, le, above)) are)
  where
    apart : (id == p.id) ≡ false
    apart = ne_eqb id p.id (λ e. omega (arith, e, le, above))

    by : (t : Bool) → is_among (ids_pending (filter test ps)) id ≡ false → is_among (ids_pending (if t then p ∷ filter test ps else filter test ps)) id ≡ false
    by true rest = rw (apart, rest) refl
    by false rest = rest

-- where no piece passes both tests
once-passes : (id n : ℕ) (test other : Pending → Bool) (ps : List Pending) → ((p : Pending) → test p ≡ true → other p ≡ false) → AreRising n ps
    → is_among (ids_pending (filter test ps)) id ≡ true → is_among (ids_pending (filter other ps)) id ≡ false
once-passes id n test other [] never are there = absurd (cc)
once-passes id n test other (p ∷ ps) never (above, are) there =
    by (test p) refl (id == p.id) refl there (λ later. once-passes id p.id test other ps never are later)
  where
    later_other : (a : Bool) → other p ≡ a → (id == p.id) ≡ false → is_among (ids_pending (filter other ps)) id ≡ false
        → is_among (ids_pending (if a then p ∷ filter other ps else filter other ps)) id ≡ false
    later_other true is apart rest = rw (apart, rest) refl
    later_other false is apart rest = rest

    by : (t : Bool) → test p ≡ t → (e : Bool) → (id == p.id) ≡ e → is_among (ids_pending (if t then p ∷ filter test ps else filter test ps)) id ≡ true
        → (is_among (ids_pending (filter test ps)) id ≡ true → is_among (ids_pending (filter other ps)) id ≡ false)
        → is_among (ids_pending (filter other (p ∷ ps))) id ≡ false
    by true passes true same there rest =
        let fails = never p passes in
        let is = eqb-true id p.id same in
        rw fails (none-below id p.id other ps (omega (arith, is)) are)
    by true passes false apart there rest = later_other (other p) refl apart (rest (ap (λ (b : Bool). b || is_among (ids_pending (filter test ps)) id) (sym apart) ∙ there))
    by false fails true same there rest =
        let is = eqb-true id p.id same in
        let none = none-below id p.id test ps (omega (arith, is)) are in absurd (cc)
    by false fails false apart there rest = later_other (other p) refl apart (rest there)

pub tied-apart : (s : SaidValue) (g : Going) (to_add : List ℕ × List ℕ) → IsTied s g to_add → AreToAdd to_add
tied-apart s g to_add is = record {
  old = tied-rise s g to_add Old is;
  new = tied-rise s g to_add New is;
  apart = λ id there.
      subst (λ (ids : List ℕ). is_among ids id ≡ false) (sym (is.to_add New))
      (once-passes id 0 (to_add_at_is Old) (to_add_at_is New) (s.kept).pending other_face (is.ordered).rising
      (subst (λ (ids : List ℕ). is_among ids id ≡ true) (is.to_add Old) there));
}
  where
    to_add_at_is : Face → Pending → Bool
    to_add_at_is face p = same_face p.face face && is_to_add (shown s g).keeping p

    not_both : (f : Face) (b : Bool) → (same_face f Old && b) ≡ true → (same_face f New && b) ≡ false
    not_both Old b is = refl
    not_both New b is = absurd (cc)

    other_face : (p : Pending) → to_add_at_is Old p ≡ true → to_add_at_is New p ≡ false
    other_face p is = not_both p.face (is_to_add (shown s g).keeping p) is

ids-in : (face : Face) (qs : List Pending) (p : Pending) → same_face p.face face ≡ true → ids_at face (qs ++ p ∷ []) ≡ ids_at face qs ++ p.id ∷ []
ids-in face [] p is = rw is refl
ids-in face (q ∷ qs) p is = by (same_face q.face face) (ids-in face qs p is)
  where
    t : Pending → Bool
    t r = same_face r.face face

    by : (a : Bool) → ids_pending (filter t (qs ++ p ∷ [])) ≡ ids_pending (filter t qs) ++ p.id ∷ []
        → ids_pending (if a then q ∷ filter t (qs ++ p ∷ []) else filter t (qs ++ p ∷ [])) ≡ ids_pending (if a then q ∷ filter t qs else filter t qs) ++ p.id ∷ []
    by true rest = ap (λ (l : List ℕ). q.id ∷ l) rest
    by false rest = rest

ids-out : (face : Face) (qs : List Pending) (p : Pending) → same_face p.face face ≡ false → ids_at face (qs ++ p ∷ []) ≡ ids_at face qs
ids-out face [] p is = rw is refl
ids-out face (q ∷ qs) p is = by (same_face q.face face) (ids-out face qs p is)
  where
    t : Pending → Bool
    t r = same_face r.face face

    by : (a : Bool) → ids_pending (filter t (qs ++ p ∷ [])) ≡ ids_pending (filter t qs)
        → ids_pending (if a then q ∷ filter t (qs ++ p ∷ []) else filter t (qs ++ p ∷ [])) ≡ ids_pending (if a then q ∷ filter t qs else filter t qs)
    by true rest = ap (λ (l : List ℕ). q.id ∷ l) rest
    by false rest = rest

pushed : (f : Face) (qs : List Pending) (p : Pending) → p.face ≡ f
    → with_face (ids_at Old qs, ids_at New qs) f (at_face (ids_at Old qs, ids_at New qs) f ++ p.id ∷ []) ≡ (ids_at Old (qs ++ p ∷ []), ids_at New (qs ++ p ∷ []))
pushed Old qs p is =
    let there : same_face p.face Old ≡ true = ap (λ (f : Face). same_face f Old) is in
    let not_there : same_face p.face New ≡ false = ap (λ (f : Face). same_face f New) is in
    rw (ids-in Old qs p there, ids-out New qs p not_there) refl
pushed New qs p is =
    let there : same_face p.face New ≡ true = ap (λ (f : Face). same_face f New) is in
    let not_there : same_face p.face Old ≡ false = ap (λ (f : Face). same_face f Old) is in
    rw (ids-in New qs p there, ids-out Old qs p not_there) refl

pub all-step : (ps : List Pending) (i : ℕ) (p : Pending) (t now : List ℕ × List ℕ) → i < length ps → p ≡ get_or ps i p
    → now ≡ with_face t p.face (at_face t p.face ++ p.id ∷ []) → t ≡ (ids_at Old (take i ps), ids_at New (take i ps))
    → now ≡ (ids_at Old (take (i + 1) ps), ids_at New (take (i + 1) ps))
all-step ps i p t now low at is so_far =
    is ∙ ap (λ (u : List ℕ × List ℕ). with_face u p.face (at_face u p.face ++ p.id ∷ [])) so_far
    ∙ pushed p.face (take i ps) p refl
    ∙ ap (λ (qs : List Pending). (ids_at Old qs, ids_at New qs)) (ap (λ (q : Pending). take i ps ++ q ∷ []) at ∙ sym (take_more ps i p low))

-- ---- at a start

same-and : (b : Bool) → (b && true) ≡ b
same-and true = refl
same-and false = refl

pub all-to-add : (face : Face) (kept : KeptValue) → to_add_at face (starts_peer_keeping kept) ≡ filter (λ (p : Pending). same_face p.face face) kept.pending
unfolding times
all-to-add face kept = filter_agree (λ (p : Pending). same_face p.face face && true) (λ (p : Pending). same_face p.face face) (λ p. same-and (same_face p.face face)) kept.pending

rises-up : (g n : ℕ) (ps : List Pending) → rises g n ps ≡ true → n ≤ g
unfolding rises
rises-up g n [] is = leb-true n g is
rises-up g n (p ∷ ps) is =
    let parts = and_parts (nat_lt n p.id) (rises g p.id ps) is in
    let low = ltb-true n p.id parts.0 in
    let up = rises-up g p.id ps parts.1 in omega (arith, low, up)

rises-rising : (g n : ℕ) (ps : List Pending) → rises g n ps ≡ true → AreRising n ps
unfolding rises
rises-rising g n [] is = tt
rises-rising g n (p ∷ ps) is =
    let parts = and_parts (nat_lt n p.id) (rises g p.id ps) is in (ltb-true n p.id parts.0, rises-rising g p.id ps parts.1)

rises-up-to : (g n : ℕ) (ps : List Pending) → rises g n ps ≡ true → AreUpTo g ps
unfolding rises
rises-up-to g n [] is = tt
rises-up-to g n (p ∷ ps) is =
    let parts = and_parts (nat_lt n p.id) (rises g p.id ps) is in (rises-up g p.id ps parts.1, rises-up-to g p.id ps parts.1)

pub ordered-from : (kept : KeptValue) → rises kept.greatest 0 kept.pending ≡ true → IsOrdered kept
ordered-from kept is = record {
  rising = rises-rising kept.greatest 0 kept.pending is;
  up_to = rises-up-to kept.greatest 0 kept.pending is;
}

abbrev pub none_going : Going
none_going = record { waiting = ([], []); named = [] }

pub tied-start : (s : SaidValue) (g : Going) (to_add : List ℕ × List ℕ) → IsOrdered s.kept → g ≡ none_going
    → to_add ≡ (ids_at Old (s.kept).pending, ids_at New (s.kept).pending) → IsTied s g to_add
tied-start s g to_add ordered none all = rw (none, all) (record { ordered = ordered; to_add = by })
  where
    by : (face : Face) → at_face (ids_at Old (s.kept).pending, ids_at New (s.kept).pending) face ≡ ids_pending (to_add_at face (shown s none_going).keeping)
    by Old = sym (ap ids_pending (all-to-add Old s.kept))
    by New = sym (ap ids_pending (all-to-add New s.kept))

pub tied-new : (kept : KeptValue) (s : SaidValue) (g : Going) (to_add : List ℕ × List ℕ) (ps qs : List Pending) → s ≡ record { kept = kept; records = [] } → g ≡ none_going
    → to_add ≡ (ids_at Old qs, ids_at New qs) → qs ≡ kept.pending → rises kept.greatest 0 ps ≡ true → ps ≡ kept.pending → IsTied s g to_add
tied-new kept s g to_add ps qs is none all qs_are rise ps_are =
    tied-start s g to_add
    (subst (λ (t : SaidValue). IsOrdered t.kept) (sym is) (ordered-from kept (subst (λ (l : List Pending). rises kept.greatest 0 l ≡ true) ps_are rise))) none
    (all ∙ ap (λ (l : List Pending). (ids_at Old l, ids_at New l)) (qs_are ∙ sym (ap (λ (t : SaidValue). (t.kept).pending) is)))

-- memory is wanted only where pieces are pending
pub no-rise : (g : ℕ) (ps : List Pending) → rises g 0 ps ≡ false → ps ≡ [] → ⊥
unfolding rises
no-rise g [] fails is = let holds = le-leb 0 g (omega arith) in let no_both : true ≡ false = sym holds ∙ fails in cc
no-rise g (p ∷ ps) fails is = cc

pub no-octets : (ps : List Pending) → 2 ^ 64 ≤ octets_of ps → ps ≡ [] → ⊥
unfolding octets_of
no-octets [] big is = omega (arith, big)
no-octets (p ∷ ps) big is = cc

-- ---- where pieces stay as they are

pub tied-same : (s now : SaidValue) (g : Going) (to_add : List ℕ × List ℕ) → IsTied s g to_add → (now.kept).pending ≡ (s.kept).pending → (now.kept).greatest ≡ (s.kept).greatest → IsTied now g to_add
tied-same s now g to_add is pending greatest = record {
  ordered = record {
    rising = subst (λ (ps : List Pending). AreRising 0 ps) (sym pending) (is.ordered).rising;
    up_to = subst (λ (n : ℕ). AreUpTo n (now.kept).pending) (sym greatest)
        (subst (λ (ps : List Pending). AreUpTo (s.kept).greatest ps) (sym pending) (is.ordered).up_to);
  };
  to_add = λ face. is.to_add face ∙ sym (ap (λ (ps : List Pending). ids_pending (filter (λ (p : Pending). same_face p.face face && is_to_add (shown s g).keeping p) ps)) pending);
}

pub tied-reserved : (old_next new_next : ℕ) (s now : SaidValue) (g : Going) (to_add : List ℕ × List ℕ) → IsTied s g to_add → now ≡ said_with (reserved_records old_next new_next s.kept) s → IsTied now g to_add
tied-reserved old_next new_next s now g to_add is does =
    let rs = reserved_records old_next new_next s.kept in
    let apart = both-apart s.kept old_next new_next in
    tied-same s now g to_add is (ap (λ (t : SaidValue). (t.kept).pending) does ∙ apart-pending s.kept rs apart)
    (ap (λ (t : SaidValue). (t.kept).greatest) does ∙ apart-greatest s.kept rs apart)

-- ---- after a step

pub tied-step : (h : PeerHappened) (s now : SaidValue) (g after : Going) (to_add left : List ℕ × List ℕ) → IsTied s g to_add → shown now after ≡ recording h (shown s g)
    → left ≡ (ids_left h.again h.added to_add.0, ids_left h.again h.added to_add.1) → IsTied now after left
tied-step h s now g after to_add left is does leaves = record {
  ordered = subst (λ (j : KeptValue). IsOrdered j) (sym (ap (λ (r : PeerRecorded). (r.keeping).kept) does)) (step Old).ordered;
  to_add = by;
}
  where
    k : PeerKeeping
    k = (shown s g).keeping

    step : (face : Face) → After h k face
    step face = after-it h k face is.ordered

    after_ids : (face : Face) → ids_left h.again h.added (at_face to_add face) ≡ ids_pending (to_add_at face (shown now after).keeping)
    after_ids face =
        ap (λ (ids : List ℕ). ids_left h.again h.added ids) (is.to_add face)
        ∙ sym (left-ids h.again h.added (to_add_at face k))
        ∙ sym (ap ids_pending (step face).to_add)
        ∙ sym (ap (λ (r : PeerRecorded). ids_pending (to_add_at face r.keeping)) does)

    by : (face : Face) → at_face left face ≡ ids_pending (to_add_at face (shown now after).keeping)
    by Old = ap (λ (ids : List ℕ × List ℕ). ids.0) leaves ∙ after_ids Old
    by New = ap (λ (ids : List ℕ × List ℕ). ids.1) leaves ∙ after_ids New

-- ---- the first that is still to be added

pub next-is : (face : Face) (k : PeerKeeping) (id : ℕ) (ids : List ℕ) (p : Pending) → AreRising 0 (k.kept).pending → ids_pending (to_add_at face k) ≡ id ∷ ids
    → Contains (k.kept).pending p → p.id ≡ id → to_add_at face k ≡ p ∷ drop 1 (to_add_at face k)
next-is face k id ids p are to_add there is = by (to_add_at face k) refl to_add
  where
    by : (ts : List Pending) → to_add_at face k ≡ ts → ids_pending ts ≡ id ∷ ids → ts ≡ p ∷ drop 1 ts
    by [] whole first = absurd (cc)
    by (q ∷ ts) whole first =
        let in_them = first-contained (λ (r : Pending). same_face r.face face && is_to_add k r) (k.kept).pending q ts whole in
        let same : q.id ≡ id = cc in
        ap (λ (r : Pending). r ∷ ts) (same-piece 0 (k.kept).pending q p are in_them there (same ∙ sym is))

pub next-there : (face : Face) (k : PeerKeeping) (id : ℕ) (ids : List ℕ) → ids_pending (to_add_at face k) ≡ id ∷ ids → list_any (has_id id) (k.kept).pending ≡ false → ⊥
next-there face k id ids to_add none = by (to_add_at face k) refl to_add
  where
    by : (ts : List Pending) → to_add_at face k ≡ ts → ids_pending ts ≡ id ∷ ids → ⊥
    by [] whole first = cc
    by (q ∷ ts) whole first =
        let in_them = first-contained (λ (r : Pending). same_face r.face face && is_to_add k r) (k.kept).pending q ts whole in
        let same : q.id ≡ id = cc in
        let some = any-contained id (k.kept).pending q in_them same in
        let no : true ≡ false = sym some ∙ none in cc

no-ids : (ts : List Pending) → ids_pending ts ≡ [] → ts ≡ []
no-ids [] is = refl
no-ids (p ∷ ts) is = absurd (cc)

if-none : {T : Type 0} (o : Option T) (P : Type 0) → P → IfNone o P
if-none None P p = p
if-none (Some x) P p = tt

-- what the search for its id finds is it
pub next-none : (s : SaidValue) (g : Going) (to_add : List ℕ × List ℕ) (r : PeerRecorded) (face : Face) (o : Option (Bor Pending)) → IsTied s g to_add → shown s g ≡ r
    → at_face to_add face ≡ [] → IfNone o (to_add_at face r.keeping ≡ [])
next-none s g to_add r face o is view none =
    let ids = sym (ap (λ (q : PeerRecorded). ids_pending (to_add_at face q.keeping)) view) ∙ sym (is.to_add face) ∙ none in
    if-none o (to_add_at face r.keeping ≡ []) (no-ids (to_add_at face r.keeping) ids)

next-ids : (s : SaidValue) (g : Going) (to_add : List ℕ × List ℕ) (r : PeerRecorded) (face : Face) (id : ℕ) → IsTied s g to_add → shown s g ≡ r
    → at_face to_add face ≡ id ∷ drop 1 (at_face to_add face) → ids_pending (to_add_at face r.keeping) ≡ id ∷ drop 1 (at_face to_add face)
next-ids s g to_add r face id is view first =
    sym (ap (λ (q : PeerRecorded). ids_pending (to_add_at face q.keeping)) view) ∙ sym (is.to_add face) ∙ first

pub next-found : (s : SaidValue) (g : Going) (to_add : List ℕ × List ℕ) (r : PeerRecorded) (face : Face) (id : ℕ) (ps : List Pending) (o : Option (Bor Pending)) → IsTied s g to_add → shown s g ≡ r
    → at_face to_add face ≡ id ∷ drop 1 (at_face to_add face) → ps ≡ (s.kept).pending
    → IfSome o (λ p. Contains ps p.now) → IfSome o (λ p. (p.now).id ≡ id) → IfSome o (λ p. to_add_at face r.keeping ≡ p.now ∷ drop 1 (to_add_at face r.keeping))
next-found s g to_add r face id ps None is view first are found has = tt
next-found s g to_add r face id ps (Some p) is view first are found has =
    let same : ps ≡ ((r.keeping).kept).pending = are ∙ ap (λ (q : PeerRecorded). ((q.keeping).kept).pending) view in
    next-is face r.keeping id (drop 1 (at_face to_add face)) p.now
    (subst (λ (q : PeerRecorded). AreRising 0 ((q.keeping).kept).pending) view (is.ordered).rising)
    (next-ids s g to_add r face id is view first) (subst (λ (l : List Pending). Contains l p.now) same found) has

pub next-missed : (s : SaidValue) (g : Going) (to_add : List ℕ × List ℕ) (r : PeerRecorded) (face : Face) (id : ℕ) (ps : List Pending) (o : Option (Bor Pending)) → IsTied s g to_add → shown s g ≡ r
    → at_face to_add face ≡ id ∷ drop 1 (at_face to_add face) → ps ≡ (s.kept).pending
    → IfNone o (AreRising 0 ps → list_any (has_id id) ps ≡ false) → IfNone o (to_add_at face r.keeping ≡ [])
next-missed s g to_add r face id ps (Some p) is view first are missed = tt
next-missed s g to_add r face id ps None is view first are missed =
    let same : ps ≡ ((r.keeping).kept).pending = are ∙ ap (λ (q : PeerRecorded). ((q.keeping).kept).pending) view in
    absurd (next-there face r.keeping id (drop 1 (at_face to_add face)) (next-ids s g to_add r face id is view first)
    (subst (λ (l : List Pending). list_any (has_id id) l ≡ false) same (missed (subst (λ (l : List Pending). AreRising 0 l) (sym are) (is.ordered).rising))))
