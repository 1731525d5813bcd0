-- The pieces of sessions, session by session.
use Rattle.std.proofs.Common.{◌≡◌, ℕ, ◌+◌, ◌<◌, ◌≤◌, ◌==◌, Bool, true, false, not, if◌then◌else◌, List, [], ◌∷◌, ◌++◌, length, map, take, drop, get_or, None, Some, refl, sym, ap, ◌∙◌, append_assoc}
use Rattle.std.proofs.lemmas.List.{append-nil, at_drop_more, drop_all}
use Rattle.std.proofs.Math.Seq.{take-add}
use Rattle.std.specs.List.{filter}
use Rattle.gate_cases.specs.declared.face.Face.{Face}
use Rattle.gateway_core.specs.Gate.{if_same}
use Rattle.gate_records.specs.declared.named.Named.{Named}
use Rattle.gate_records.specs.Named.{is_of, named_with}
use Rattle.peer_records.specs.declared.sending.Sending.{Sending}
use Rattle.peer_records.specs.Keeping.{Waiting, ids_in, ids_named}
use Rattle.peer_records.specs.Records.{ids_of, others_than, named_in}
use Rattle.peer_records.specs.Ties.{named_of, named_all}

-- whether it is the session of a face with this number
abbrev pub is_it : Face → ℕ → Sending → Bool
is_it face session s = if_same s.face face (s.session == session) false

-- ---- one session's

abbrev ids_if : Bool → List ℕ → List ℕ
ids_if t ids = if t then ids else []

abbrev named_if_not : Bool → List Named → List Named
named_if_not t named = if t then [] else named

ids-among : (face f : Face) (session s : ℕ) (ids : List ℕ) (t : Bool) → if_same f face (s == session) false ≡ t
    → ids_of face session (map (named_with f s) ids) ≡ ids_if t ids
ids-among face f session s [] true is = refl
ids-among face f session s [] false is = refl
ids-among face f session s (x ∷ ids) t is = by (if_same f face (s == session) false) t is (ids-among face f session s ids t is)
  where
    by : (u t : Bool) → u ≡ t → ids_of face session (map (named_with f s) ids) ≡ ids_if t ids
        → ids_named (if u then named_with f s x ∷ filter (is_of face session) (map (named_with f s) ids) else filter (is_of face session) (map (named_with f s) ids)) ≡ ids_if t (x ∷ ids)
    by true true same rest = ap (λ (l : List ℕ). x ∷ l) rest
    by false false same rest = rest
    by true false same rest = absurd (cc)
    by false true same rest = absurd (cc)

others-among : (face f : Face) (session s : ℕ) (ids : List ℕ) (t : Bool) → if_same f face (s == session) false ≡ t
    → others_than face session (map (named_with f s) ids) ≡ named_if_not t (map (named_with f s) ids)
others-among face f session s [] true is = refl
others-among face f session s [] false is = refl
others-among face f session s (x ∷ ids) t is = by (if_same f face (s == session) false) t is (others-among face f session s ids t is)
  where
    by : (u t : Bool) → u ≡ t → others_than face session (map (named_with f s) ids) ≡ named_if_not t (map (named_with f s) ids)
        → (if not u then named_with f s x ∷ others_than face session (map (named_with f s) ids) else others_than face session (map (named_with f s) ids))
        ≡ named_if_not t (named_with f s x ∷ map (named_with f s) ids)
    by true true same rest = rest
    by false false same rest = ap (λ (l : List Named). named_with f s x ∷ l) rest
    by true false same rest = absurd (cc)
    by false true same rest = absurd (cc)

pub all-of : (s : Sending) (face : Face) (session : ℕ) (ids : List ℕ) → is_it face session s ≡ true → ids ++ s.ids.items ≡ ids ++ ids_of face session (named_of s)
all-of s face session ids is = ap (λ (l : List ℕ). ids ++ l) (sym (ids-among face s.face session s.session s.ids.items true is))

pub none-of : (s : Sending) (face : Face) (session : ℕ) (ids : List ℕ) → is_it face session s ≡ false → ids ≡ ids ++ ids_of face session (named_of s)
none-of s face session ids is = sym (ap (λ (l : List ℕ). ids ++ l) (ids-among face s.face session s.session s.ids.items false is) ∙ append-nil ids)

-- ---- all of them

of-append : (face : Face) (session : ℕ) (xs ys : List Named) → ids_of face session (xs ++ ys) ≡ ids_of face session xs ++ ids_of face session ys
of-append face session [] ys = refl
of-append face session (n ∷ xs) ys = by (is_of face session n) (of-append face session xs ys)
  where
    by : (t : Bool) → ids_of face session (xs ++ ys) ≡ ids_of face session xs ++ ids_of face session ys
        → ids_named (if t then n ∷ filter (is_of face session) (xs ++ ys) else filter (is_of face session) (xs ++ ys))
        ≡ ids_named (if t then n ∷ filter (is_of face session) xs else filter (is_of face session) xs) ++ ids_of face session ys
    by true rest = ap (λ (l : List ℕ). n.id ∷ l) rest
    by false rest = rest

others-append : (face : Face) (session : ℕ) (xs ys : List Named) → others_than face session (xs ++ ys) ≡ others_than face session xs ++ others_than face session ys
others-append face session [] ys = refl
others-append face session (n ∷ xs) ys = by (is_of face session n) (others-append face session xs ys)
  where
    by : (t : Bool) → others_than face session (xs ++ ys) ≡ others_than face session xs ++ others_than face session ys
        → (if not t then n ∷ others_than face session (xs ++ ys) else others_than face session (xs ++ ys))
        ≡ (if not t then n ∷ others_than face session xs else others_than face session xs) ++ others_than face session ys
    by true rest = rest
    by false rest = ap (λ (l : List Named). n ∷ l) rest

pub removed : (face : Face) (session : ℕ) (ss : List Sending) → named_all (filter (λ s. not (is_it face session s)) ss) ≡ others_than face session (named_all ss)
removed face session [] = refl
removed face session (s ∷ ss) = by (is_it face session s) refl (removed face session ss) ∙ sym (others-append face session (named_of s) (named_all ss))
  where
    by : (t : Bool) → is_it face session s ≡ t → named_all (filter (λ s. not (is_it face session s)) ss) ≡ others_than face session (named_all ss)
        → named_all (if not t then s ∷ filter (λ s. not (is_it face session s)) ss else filter (λ s. not (is_it face session s)) ss)
        ≡ others_than face session (named_of s) ++ others_than face session (named_all ss)
    by true is rest = rest ∙ ap (λ (l : List Named). l ++ others_than face session (named_all ss)) (sym (others-among face s.face session s.session s.ids.items true is))
    by false is rest =
        ap (λ (l : List Named). named_of s ++ l) rest
        ∙ ap (λ (l : List Named). l ++ others_than face session (named_all ss)) (sym (others-among face s.face session s.session s.ids.items false is))

-- the loop that gathers the ids of a session
pub ids-step : (face : Face) (session : ℕ) (ss : List Sending) (i : ℕ) (s : Sending) (ids now whole : List ℕ) → i < length ss → s ≡ get_or ss i s
    → now ≡ ids ++ ids_of face session (named_of s) → whole ≡ ids ++ ids_of face session (named_all (drop i ss))
    → whole ≡ now ++ ids_of face session (named_all (drop (i + 1) ss))
ids-step face session ss i s ids now whole low at is so_far =
    so_far
    ∙ ap (λ (l : List ℕ). ids ++ l) (at_drop_more (λ (l : List Sending). ids_of face session (named_all l)) ss i s low
    ∙ ap (λ (r : Sending). ids_of face session (named_all (r ∷ drop (i + 1) ss))) (sym at)
    ∙ of-append face session (named_of s) (named_all (drop (i + 1) ss)))
    ∙ sym (append_assoc ids (ids_of face session (named_of s)) (ids_of face session (named_all (drop (i + 1) ss))))
    ∙ ap (λ (l : List ℕ). l ++ ids_of face session (named_all (drop (i + 1) ss))) (sym is)

pub ids-end : (face : Face) (session : ℕ) (ss : List Sending) (i : ℕ) (ids whole : List ℕ) → length ss ≤ i → whole ≡ ids ++ ids_of face session (named_all (drop i ss)) → ids ≡ whole
ids-end face session ss i ids whole high so_far =
    sym (so_far ∙ ap (λ (l : List Sending). ids ++ ids_of face session (named_all l)) (drop_all i ss high) ∙ append-nil ids)

-- ---- a block takes pieces from the front

ids-both : (xs ys : Waiting) → ids_in (xs ++ ys) ≡ ids_in xs ++ ids_in ys
ids-both [] ys = refl
ids-both (None ∷ xs) ys = ids-both xs ys
ids-both (Some x ∷ xs) ys = ap (λ (l : List ℕ). x ∷ l) (ids-both xs ys)

pub taken-more : (n : ℕ) (before : List ℕ) (w rest : Waiting) (ids now : List ℕ) → rest ≡ drop n w → ids ≡ before ++ ids_in (take n w) → now ≡ ids ++ ids_in (take 1 rest)
    → now ≡ before ++ ids_in (take (n + 1) w)
taken-more n before w rest ids now left so_far is =
    is ∙ ap (λ (l : Waiting). ids ++ ids_in (take 1 l)) left ∙ ap (λ (l : List ℕ). l ++ ids_in (take 1 (drop n w))) so_far
    ∙ append_assoc before (ids_in (take n w)) (ids_in (take 1 (drop n w)))
    ∙ ap (λ (l : List ℕ). before ++ l) (sym (ids-both (take n w) (take 1 (drop n w))) ∙ ap (λ (l : Waiting). ids_in l) (sym (take-add n 1 w)))

named-ids : (face : Face) (session : ℕ) (w : Waiting) → map (named_with face session) (ids_in w) ≡ named_in face session w
unfolding named_in
named-ids face session [] = refl
named-ids face session (None ∷ w) = named-ids face session w
named-ids face session (Some x ∷ w) = ap (λ (l : List Named). named_with face session x ∷ l) (named-ids face session w)

pub named-push : (ss : List Sending) (s : Sending) (w : Waiting) → s.ids.items ≡ ids_in w → named_all (ss ++ s ∷ []) ≡ named_all ss ++ named_in s.face s.session w
named-push [] s w is = append-nil (named_of s) ∙ ap (λ (l : List ℕ). map (named_with s.face s.session) l) is ∙ named-ids s.face s.session w
named-push (r ∷ ss) s w is =
    ap (λ (l : List Named). named_of r ++ l) (named-push ss s w is) ∙ sym (append_assoc (named_of r) (named_all ss) (named_in s.face s.session w))
