-- The sessions that have ids, after a note and after a piece more.
use Rattle.std.proofs.Common.{◌≡◌, ℕ, ◌==◌, ◌||◌, Bool, true, false, if◌then◌else◌, List, [], ◌∷◌, Option, None, Some, refl, sym, ap}
use Rattle.std.proofs.lemmas.Bool.{ne_eqb, eqb-true, eqb-false, eq-eqb}
use Rattle.std.specs.List.{list_any}
use Rattle.gate_cases.specs.declared.face.Face.{Face}
use Rattle.journal_file.specs.declared.kept.Pending.{Pending}
use Rattle.journal_file.specs.Keeping.{is_pending, without_first}
use Rattle.journal_file.specs.Keeping as kept
use Rattle.gate_records.specs.declared.named.Named.{Named}
use Rattle.gate_records.specs.Named.{is_of, find_id, without_named, has_id}
use Rattle.gate_records.specs.Laws.{ArePending, HaveOwnIds}
use Rattle.gate_records.proofs.PendingLemmas.{pending-other}

abbrev either : Bool → Bool → Bool
either a b = a || b

-- ---- none has an id

any-without : (id : ℕ) (face : Face) (session : ℕ) (ns : List Named) → list_any (has_id id) ns ≡ false → list_any (has_id id) (without_named face session ns) ≡ false
unfolding without_named
any-without id face session [] none = refl
any-without id face session (n ∷ ns) none = by (is_of face session n) (n.id == id) refl none (λ others. any-without id face session ns others)
  where
    by : (t u : Bool) → (n.id == id) ≡ u → either u (list_any (has_id id) ns) ≡ false
        → (list_any (has_id id) ns ≡ false → list_any (has_id id) (without_named face session ns) ≡ false)
        → list_any (has_id id) (if t then ns else n ∷ without_named face session ns) ≡ false
    by t true is none rest = absurd (cc)
    by true false is none rest = none
    by false false is none rest = rw is (rest none)

own-without : (face : Face) (session : ℕ) (ns : List Named) → HaveOwnIds ns → HaveOwnIds (without_named face session ns)
unfolding without_named
own-without face session [] own = tt
own-without face session (n ∷ ns) (none, own) = by (is_of face session n) (own-without face session ns own)
  where
    by : (t : Bool) → HaveOwnIds (without_named face session ns) → HaveOwnIds (if t then ns else n ∷ without_named face session ns)
    by true rest = own
    by false rest = (any-without n.id face session ns none, rest)

-- ---- the session of an id ends

abbrev no_id : Option ℕ
no_id = None

abbrev an_id : ℕ → Option ℕ
an_id id = Some id

pub found-pending : (ps : List Pending) (face : Face) (session id : ℕ) (ns : List Named) → ArePending ps ns → find_id face session ns ≡ Some id → is_pending id ps ≡ true
unfolding find_id
found-pending ps face session id [] are is = absurd (cc)
found-pending ps face session id (n ∷ ns) (first, are) is = by (is_of face session n) is (λ more. found-pending ps face session id ns are more)
  where
    by : (t : Bool) → (if t then Some n.id else find_id face session ns) ≡ Some id → (find_id face session ns ≡ Some id → is_pending id ps ≡ true) → is_pending id ps ≡ true
    by true same rest = let there : n.id ≡ id = cc in rw there at first
    by false found rest = rest found

-- those with other ids are pending still
others-pending : (ps : List Pending) (id : ℕ) (ns : List Named) → list_any (has_id id) ns ≡ false → ArePending ps ns → ArePending (without_first (kept.has_id id) ps) ns
others-pending ps id [] none are = tt
others-pending ps id (n ∷ ns) none (first, are) = by (n.id == id) refl none (λ others. others-pending ps id ns others are)
  where
    by : (u : Bool) → (n.id == id) ≡ u → either u (list_any (has_id id) ns) ≡ false
        → (list_any (has_id id) ns ≡ false → ArePending (without_first (kept.has_id id) ps) ns) → ArePending (without_first (kept.has_id id) ps) (n ∷ ns)
    by true is none rest = absurd (cc)
    by false is none rest = (pending-other n.id id ps (ne_eqb id n.id (λ e. eqb-false n.id id is (sym e))) first, rest none)

found-among : (face : Face) (session id : ℕ) (ns : List Named) → find_id face session ns ≡ Some id → list_any (has_id id) ns ≡ true
unfolding find_id
found-among face session id [] is = absurd (cc)
found-among face session id (n ∷ ns) is = by (is_of face session n) is (λ more. found-among face session id ns more)
  where
    right : (a : Bool) → either a true ≡ true
    right true = refl
    right false = refl

    by : (t : Bool) → (if t then Some n.id else find_id face session ns) ≡ Some id → (find_id face session ns ≡ Some id → list_any (has_id id) ns ≡ true) → list_any (has_id id) (n ∷ ns) ≡ true
    by true same rest = let there : n.id ≡ id = cc in rw (eq-eqb n.id id there) refl
    by false found rest = rw (rest found) (right (n.id == id))

pub ended-pending : (ps : List Pending) (face : Face) (session id : ℕ) (ns : List Named) → ArePending ps ns → HaveOwnIds ns → find_id face session ns ≡ Some id
    → ArePending (without_first (kept.has_id id) ps) (without_named face session ns)
unfolding find_id without_named
ended-pending ps face session id [] are own is = absurd (cc)
ended-pending ps face session id (n ∷ ns) (first, are) (none, own) is = by (is_of face session n) is (λ more. ended-pending ps face session id ns are own more)
  where
    apart : find_id face session ns ≡ Some id → (t : Bool) → (id == n.id) ≡ t → (id == n.id) ≡ false
    apart found false other = other
    apart found true same =
        let there : id ≡ n.id = eqb-true id n.id same in
        let among = found-among face session id ns found in
        let no : list_any (has_id id) ns ≡ false = rw there none in
        absurd (cc)

    by : (t : Bool) → (if t then Some n.id else find_id face session ns) ≡ Some id
        → (find_id face session ns ≡ Some id → ArePending (without_first (kept.has_id id) ps) (without_named face session ns))
        → ArePending (without_first (kept.has_id id) ps) (if t then ns else n ∷ without_named face session ns)
    by true same rest = let there : n.id ≡ id = cc in others-pending ps id ns (rw there at none) are
    by false found rest = (pending-other n.id id ps (apart found (id == n.id) refl) first, rest found)

-- where no session has the number none leaves
pub none-found : (face : Face) (session : ℕ) (ns : List Named) → find_id face session ns ≡ None → without_named face session ns ≡ ns
unfolding find_id without_named
none-found face session [] is = refl
none-found face session (n ∷ ns) is = by (is_of face session n) is (λ none. none-found face session ns none)
  where
    by : (t : Bool) → (if t then an_id n.id else find_id face session ns) ≡ no_id → (find_id face session ns ≡ no_id → without_named face session ns ≡ ns)
        → (if t then ns else n ∷ without_named face session ns) ≡ n ∷ ns
    by true is rest = absurd (cc)
    by false is rest = ap (λ (l : List Named). n ∷ l) (rest is)

pub own-left : (face : Face) (session : ℕ) (ns : List Named) → HaveOwnIds ns → HaveOwnIds (without_named face session ns)
own-left face session ns own = own-without face session ns own
