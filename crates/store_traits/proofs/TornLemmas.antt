-- What is left of a file by torn writes, and by which choice.
use Rattle.std.proofs.Common.{◌≡◌, ◌⊎◌, inl, inr, ℕ, suc, ◌+◌, ◌<◌, ◌≤◌, max, Bool, true, false, nat_lt, if◌then◌else◌, List, [], ◌∷◌, ◌++◌, length, map, get_or, take, drop, Vec, refl, sym, ap, ◌∙◌, subst, append_assoc, arith}
use Rattle.std.proofs.lemmas.Bool.{le-ltb, ltb-true, ltb-false, cases_lt}
use Rattle.std.proofs.lemmas.List.{length-append, length-take, length-take-le, length-drop, take_all, drop_all, take_at, take-append-drop, take-append-le, drop-drop, drop_more, drop-map, get_or-take}
use Rattle.std.proofs.lemmas.Slice.{drop-append-drop}
use Rattle.std.specs.declared.alloc.Global.{Global}
use Rattle.store_traits.specs.declared.torn.Change.{Change}
use Rattle.store_traits.specs.declared.torn.Change.TheVariants as changes
use Rattle.store_traits.specs.declared.torn.Tear.{Tear}
use Rattle.store_traits.specs.Disk.{written, Torn, Follows, NoneNew, Only, Elapses}
use Rattle.store_traits.specs.Torn.{tear_of, MayBe, After, AfterAll, MayBeLeft, WasLeft, TearValue, new_by, left_by, first_tear, left_by_all, whole_tear, done_by_all}

-- ---- one write

module _ (at n : ℕ) (file octets : List ℕ) (inside : at ≤ length file) (few : length octets ≤ n) where
  front-size : length (take at file ++ octets) ≡ at + length octets
  front-size = omega (arith, inside, length-append (take at file) octets, length-take-le at file inside)

  written-size : length (written at octets file) ≡ max (length file) (at + length octets)
  written-size =
      omega (
        arith,
        length-append (take at file ++ octets) (drop (at + length octets) file),
        front-size,
        length-drop (at + length octets) file,
      )

  pub written-torn : Torn at n file (written at octets file)
  written-torn = record {
    before = take-append-le at (take at file ++ octets) (drop (at + length octets) file) (omega (arith, front-size))
        ∙ take_at (take at file) octets at (length-take-le at file inside);
    after = drop-append-drop (at + length octets) file (take at file ++ octets) (at + n) (omega (arith, few)) front-size;
    no_shorter = omega (arith, written-size);
    no_longer = omega (arith, written-size, few);
  }

torn-none : (at n : ℕ) (c : List ℕ) → Torn at n c c
torn-none at n c = record { before = refl; after = refl; no_shorter = omega arith; no_longer = omega arith }

tear-torn : (at n : ℕ) (octets file : List ℕ) → Torn at n file (if nat_lt (length file) at then file else written at (take n octets) file)
tear-torn at n octets file = by (nat_lt (length file) at) refl
  where
    by : (t : Bool) → nat_lt (length file) at ≡ t → Torn at n file (if t then file else written at (take n octets) file)
    by true short = torn-none at n file
    by false long = written-torn at n file (take n octets) (ltb-false (length file) at long) (omega (arith, length-take n octets))

-- whatever is torn is a write of other octets
torn-short : (at n : ℕ) (d c : List ℕ) → length d < at → Torn at n d c → c ≡ d
torn-short at n d c short torn = elim (cases_lt (length c) (suc at)) [
  | inl small ↦ sym (take_all at c (omega (arith, small))) ∙ torn.before ∙ take_all at d (omega (arith, short))
  | inr large ↦ absurd (omega (arith, short, length-take-le at c (omega (arith, large)), ap length torn.before, ap length (take_all at d (omega (arith, short)))))
]

module _ (at n : ℕ) (d c : List ℕ) (inside : at ≤ length d) (torn : Torn at n d c) where
  mid : List ℕ
  mid = take n (drop at c)

  rest : drop n (drop at c) ≡ drop (at + n) d
  rest = drop-drop n at c ∙ torn.after

  tail : drop (at + length (take n (drop at c))) d ≡ drop (at + n) d
  tail = elim (cases_lt (length (drop at c)) n) [
    | inl few ↦
        let size : length (take n (drop at c)) ≡ length (drop at c) = ap length (take_all n (drop at c) (omega (arith, few))) in
        drop_all (at + length (take n (drop at c))) d (omega (arith, size, length-drop at c, inside, torn.no_shorter))
        ∙ sym (drop_all (at + n) d (omega (arith, few, length-drop at c, inside, torn.no_shorter)))
    | inr many ↦ ap (λ (k : ℕ). drop (at + k) d) (length-take-le n (drop at c) many)
  ]

  same-front : take at c ≡ take at d
  same-front = torn.before

  torn-long : c ≡ written at (take n (take n (drop at c))) d
  torn-long =
      let once : take n (take n (drop at c)) ≡ take n (drop at c) = take_all n (take n (drop at c)) (omega (arith, length-take n (drop at c))) in
      let parts : drop at c ≡ take n (drop at c) ++ drop (at + length (take n (drop at c))) d =
      sym (take-append-drop n (drop at c)) ∙ ap (λ (w : List ℕ). take n (drop at c) ++ w) (rest ∙ sym tail) in
      sym (take-append-drop at c) ∙ ap (λ (w : List ℕ). take at c ++ w) parts
      ∙ sym (append_assoc (take at c) (take n (drop at c)) (drop (at + length (take n (drop at c))) d))
      ∙ ap (λ (w : List ℕ). (w ++ take n (drop at c)) ++ drop (at + length (take n (drop at c))) d) torn.before
      ∙ ap (λ (w : List ℕ). written at w d) (sym once)

torn-tear : (at n : ℕ) (d c : List ℕ) → Torn at n d c → (octets : List ℕ) × (c ≡ (if nat_lt (length d) at then d else written at (take n octets) d))
torn-tear at n d c torn = by (nat_lt (length d) at) refl
  where
    by : (t : Bool) → nat_lt (length d) at ≡ t → (octets : List ℕ) × (c ≡ (if t then d else written at (take n octets) d))
    by true short = ([], torn-short at n d c (ltb-true (length d) at short) torn)
    by false long = (take n (drop at c), torn-long at n d c (ltb-false (length d) at long) torn)

-- ---- one change

change-may : (Before : List ℕ → Type 0) (change : Change) (tear : TearValue) (file : List ℕ) → Before file → After Before change (left_by tear change file)
change-may Before (changes.Wrote at octets) tear file before = (file, before, tear-torn at (length octets.items) tear.octets file)
change-may Before (changes.Replaced new whole) tear file before = by tear.replaced whole
  where
    by : (t w : Bool) → Before (if t then new_by w new.items tear else file) ⊎ MayBe w new.items (if t then new_by w new.items tear else file)
    by true true = inr refl
    by true false = inr tt
    by false w = inl before
change-may Before (changes.Synced new) tear file before = refl

record Chosen (Before : List ℕ → Type 0) (change : Change) (c : List ℕ) : Type 0 where
  file : List ℕ
  before : Before file
  tear : TearValue
  is : c ≡ left_by tear change file

-- from what might be left before, of which there is something
change-chosen : (Before : List ℕ → Type 0) (any : List ℕ) → Before any → (change : Change) (c : List ℕ) → After Before change c → Chosen Before change c
change-chosen Before any has (changes.Wrote at octets) c (d, before, torn) =
    let choice = torn-tear at (length octets.items) d c torn in
    record { file = d; before = before; tear = record { octets = choice.0; replaced = false }; is = choice.1 }
change-chosen Before any has (changes.Replaced new whole) c (inl was) =
    record { file = c; before = was; tear = record { octets = []; replaced = false }; is = refl }
change-chosen Before any has (changes.Replaced new true) c (inr is) =
    record { file = any; before = has; tear = record { octets = []; replaced = true }; is = is }
change-chosen Before any has (changes.Replaced new false) c (inr is) =
    record { file = any; before = has; tear = record { octets = c; replaced = true }; is = refl }
change-chosen Before any has (changes.Synced new) c is =
    record { file = any; before = has; tear = record { octets = []; replaced = false }; is = is }

-- ---- all changes

pub all-may : (Before : List ℕ → Type 0) (log : List Change) (tears : List TearValue) (file : List ℕ) → Before file → AfterAll Before log (left_by_all tears log file)
unfolding AfterAll left_by_all
all-may Before [] tears file before = before
all-may Before (change ∷ log) tears file before =
    all-may (After Before change) log (drop 1 tears) (left_by (first_tear tears) change file) (change-may Before change (first_tear tears) file before)

pub record ChosenAll (Before : List ℕ → Type 0) (log : List Change) (c : List ℕ) : Type 0 where
  pub file : List ℕ
  pub before : Before file
  pub tears : List TearValue
  pub is : left_by_all tears log file ≡ c

all-chosen : (Before : List ℕ → Type 0) (any : List ℕ) → Before any → (log : List Change) (c : List ℕ) → AfterAll Before log c → ChosenAll Before log c
unfolding AfterAll left_by_all
all-chosen Before any has [] c after = record { file = c; before = after; tears = []; is = refl }
all-chosen Before any has (change ∷ log) c after =
    let no_tear : TearValue = record { octets = []; replaced = false } in
    let others = all-chosen (After Before change) (left_by no_tear change any) (change-may Before change no_tear any has) log c after in
    let one = change-chosen Before any has change others.file others.before in
    record {
      file = one.file;
      before = one.before;
      tears = one.tear ∷ others.tears;
      is = ap (λ (f : List ℕ). left_by_all others.tears log f) (sym one.is) ∙ others.is;
    }

-- ---- the laws

pub each-choice : (first : List ℕ) (log : List Change) (tears : List TearValue) → MayBeLeft first log (left_by_all tears log first)
each-choice first log tears = all-may (λ (d : List ℕ). d ≡ first) log tears first refl

pub each-file : (first : List ℕ) (log : List Change) (c : List ℕ) → MayBeLeft first log c → (tears : List TearValue) × (left_by_all tears log first ≡ c)
each-file first log c may =
    let chosen = all-chosen (λ (d : List ℕ). d ≡ first) first refl log c may in
    (chosen.tears, ap (λ (f : List ℕ). left_by_all chosen.tears log f) (sym chosen.before) ∙ chosen.is)

-- ---- one change more

push-on : (Before : List ℕ → Type 0) (log : List Change) (change : Change) (c : List ℕ) → AfterAll Before (log ++ change ∷ []) c → After (AfterAll Before log) change c
unfolding AfterAll
push-on Before [] change c after = after
push-on Before (x ∷ log) change c after = push-on (After Before x) log change c after

push-back : (Before : List ℕ → Type 0) (log : List Change) (change : Change) (c : List ℕ) → After (AfterAll Before log) change c → AfterAll Before (log ++ change ∷ []) c
unfolding AfterAll
push-back Before [] change c after = after
push-back Before (x ∷ log) change c after = push-back (After Before x) log change c after

-- ---- the file as a read gives it

pub done-push : (log : List Change) (change : Change) (file : List ℕ)
    → done_by_all (log ++ change ∷ []) file ≡ left_by (whole_tear change) change (done_by_all log file)
unfolding done_by_all
done-push [] change file = refl
done-push (x ∷ log) change file = done-push log change (left_by (whole_tear x) x file)

done-may : (Before : List ℕ → Type 0) (log : List Change) (file : List ℕ) → Before file → AfterAll Before log (done_by_all log file)
unfolding AfterAll done_by_all
done-may Before [] file before = before
done-may Before (change ∷ log) file before =
    done-may (After Before change) log (left_by (whole_tear change) change file) (change-may Before change (whole_tear change) file before)

pub seen-may : (first : List ℕ) (log : List Change) (seen : List ℕ) → seen ≡ done_by_all log first → MayBeLeft first log seen
seen-may first log seen is = rw is (done-may (λ (d : List ℕ). d ≡ first) log first refl)

pub done-written : (first octets seen : List ℕ) (log later : List Change) (at : ℕ) (v : Vec ℕ Global) → at ≤ length seen → v.items ≡ octets
    → seen ≡ done_by_all log first → later ≡ log ++ changes.Wrote at v ∷ [] → written at octets seen ≡ done_by_all later first
done-written first octets seen log later at v inside is so_far more =
    let long : nat_lt (length seen) at ≡ false = le-ltb (length seen) at inside in
    let all : take (length v.items) v.items ≡ octets = take_all (length v.items) v.items (omega arith) ∙ is in
    sym (ap (λ (l : List Change). done_by_all l first) more ∙ done-push log (changes.Wrote at v) first
    ∙ ap (λ (f : List ℕ). left_by (whole_tear (changes.Wrote at v)) (changes.Wrote at v) f) (sym so_far) ∙ rw (long, all) refl)

pub done-replaced : (first new : List ℕ) (log later : List Change) (v : Vec ℕ Global) (whole : Bool) → v.items ≡ new
    → later ≡ log ++ changes.Replaced v whole ∷ [] → new ≡ done_by_all later first
done-replaced first new log later v whole is more =
    sym (ap (λ (l : List Change). done_by_all l first) more ∙ done-push log (changes.Replaced v whole) first ∙ by whole)
  where
    by : (w : Bool) → new_by w v.items (whole_tear (changes.Replaced v w)) ≡ new
    by true = is
    by false = is

pub done-synced : (first seen : List ℕ) (log later : List Change) (v : Vec ℕ Global) → v.items ≡ seen
    → later ≡ log ++ changes.Synced v ∷ [] → seen ≡ done_by_all later first
done-synced first seen log later v is more =
    sym (ap (λ (l : List Change). done_by_all l first) more ∙ done-push log (changes.Synced v) first ∙ is)

-- ---- moments

pub elapses-same : (first : List ℕ) (log : List Change) → Elapses (length log) (length log) (WasLeft first log) (WasLeft first log) (MayBeLeft first log)
elapses-same first log = record { later = omega arith; nothing_else = λ t c le left. inl left; keeps = λ t c le left. left }

pub elapses-push : (first : List ℕ) (log : List Change) (change : Change)
    → Elapses (length log) (length (log ++ change ∷ [])) (WasLeft first log) (WasLeft first (log ++ change ∷ [])) (MayBeLeft first (log ++ change ∷ []))
elapses-push first log change = record {
  later = omega (arith, length-append log (change ∷ []));
  nothing_else = λ t c le was. elim (cases_lt (length log) was.moment) [
    | inl last ↦ inr (subst (λ (l : List Change). MayBeLeft first l c) (take_all was.moment (log ++ change ∷ []) (omega (arith, last, length-append log (change ∷ [])))) was.left)
    | inr earlier ↦ inl (record {
      moment = was.moment;
      later = was.later;
      within = earlier;
      left = subst (λ (l : List Change). MayBeLeft first l c) (take-append-le was.moment log (change ∷ []) earlier) was.left;
    })
  ];
  keeps = λ t c le was. record {
    moment = was.moment;
    later = was.later;
    within = omega (arith, was.within, length-append log (change ∷ []));
    left = subst (λ (l : List Change). MayBeLeft first l c) (sym (take-append-le was.moment log (change ∷ []) was.within)) was.left;
  };
}

pub elapses-to : (first : List ℕ) (log later : List Change) (change : Change) → later ≡ log ++ change ∷ []
    → Elapses (length log) (length later) (WasLeft first log) (WasLeft first later) (MayBeLeft first later)
elapses-to first log later change more =
    subst (λ (l : List Change). Elapses (length log) (length l) (WasLeft first log) (WasLeft first l) (MayBeLeft first l)) (sym more) (elapses-push first log change)

-- ---- what each call may leave

may-on : (first : List ℕ) (log later : List Change) (change : Change) (c : List ℕ) → later ≡ log ++ change ∷ [] → MayBeLeft first later c
    → After (MayBeLeft first log) change c
may-on first log later change c more may =
    push-on (λ (d : List ℕ). d ≡ first) log change c (subst (λ (l : List Change). MayBeLeft first l c) more may)

pub crash-wrote : (first octets : List ℕ) (log later : List Change) (at : ℕ) (v : Vec ℕ Global) → v.items ≡ octets
    → later ≡ log ++ changes.Wrote at v ∷ [] → Follows (Torn at (length octets)) (MayBeLeft first log) (MayBeLeft first later)
crash-wrote first octets log later at v is more = λ c may.
    let (d, before, torn) = may-on first log later (changes.Wrote at v) c more may in
    (d, before, subst (λ (w : List ℕ). Torn at (length w) d c) is torn)

pub crash-replaced : (first new : List ℕ) (log later : List Change) (v : Vec ℕ Global) (whole : Bool) → v.items ≡ new
    → later ≡ log ++ changes.Replaced v whole ∷ [] → (c : List ℕ) → MayBeLeft first later c → MayBeLeft first log c ⊎ MayBe whole new c
crash-replaced first new log later v whole is more c may =
    subst (λ (w : List ℕ). MayBeLeft first log c ⊎ MayBe whole w c) is (may-on first log later (changes.Replaced v whole) c more may)

pub crash-synced : (first seen : List ℕ) (log later : List Change) (v : Vec ℕ Global) → v.items ≡ seen
    → later ≡ log ++ changes.Synced v ∷ [] → Only seen (MayBeLeft first later)
crash-synced first seen log later v is more = λ c may. may-on first log later (changes.Synced v) c more may ∙ is

pub crash-none : (first seen : List ℕ) (log later : List Change) → seen ≡ done_by_all log first → Only seen (MayBeLeft first later)
    → NoneNew (MayBeLeft first log) (MayBeLeft first later)
crash-none first seen log later so_far only = λ c may. subst (λ (w : List ℕ). MayBeLeft first log w) (sym (only c may)) (seen-may first log seen so_far)

-- ---- the beginning

pub done-start : (seen first octets : List ℕ) (log : List Change) → log ≡ [] → seen ≡ octets → first ≡ octets → seen ≡ done_by_all log first
unfolding done_by_all
done-start seen first octets log none is same = rw (none, same) is

pub left-start : (first octets : List ℕ) (log : List Change) → log ≡ [] → first ≡ octets → (c : List ℕ) → MayBeLeft first log c → c ≡ octets
unfolding AfterAll
left-start first octets log none is c may =
    let now : c ≡ first = subst (λ (l : List Change). MayBeLeft first l c) none may in now ∙ is

-- ---- the loop over choices

one-more : (ts : List TearValue) (change : Change) (log : List Change) (file : List ℕ)
    → left_by_all ts (change ∷ log) file ≡ left_by_all (drop 1 ts) log (left_by (first_tear ts) change file)
unfolding left_by_all
one-more ts change log file = refl

pub left-next : (tears : List Tear) (log : List Change) (at moment : ℕ) (d : Change) (file next whole : List ℕ) → at < moment → moment ≤ length log
    → next ≡ left_by (first_tear (map tear_of (drop at tears))) (get_or log at d) file
    → left_by_all (map tear_of (drop at tears)) (drop at (take moment log)) file ≡ whole
    → left_by_all (map tear_of (drop (at + 1) tears)) (drop (at + 1) (take moment log)) next ≡ whole
left-next tears log at moment d file next whole low inside is so_far =
    let size : length (take moment log) ≡ moment = length-take-le moment log inside in
    let here : drop at (take moment log) ≡ get_or log at d ∷ drop (at + 1) (take moment log) =
    drop_more (take moment log) at d (omega (arith, size, low))
    ∙ ap (λ (x : Change). x ∷ drop (at + 1) (take moment log)) (get_or-take moment log at d low) in
    let others : map tear_of (drop (at + 1) tears) ≡ drop 1 (map tear_of (drop at tears)) =
    sym (drop-map tear_of 1 (drop at tears) ∙ ap (λ (ts : List Tear). map tear_of ts) (drop-drop 1 at tears)) in
    ap (λ (ts : List TearValue). left_by_all ts (drop (at + 1) (take moment log)) next) others
    ∙ ap (λ (f : List ℕ). left_by_all (drop 1 (map tear_of (drop at tears))) (drop (at + 1) (take moment log)) f) is
    ∙ sym (one-more (map tear_of (drop at tears)) (get_or log at d) (drop (at + 1) (take moment log)) file)
    ∙ ap (λ (l : List Change). left_by_all (map tear_of (drop at tears)) l file) (sym here) ∙ so_far

pub left-ends : (tears : List Tear) (log : List Change) (at moment : ℕ) (file whole : List ℕ) → moment ≤ at
    → left_by_all (map tear_of (drop at tears)) (drop at (take moment log)) file ≡ whole → file ≡ whole
unfolding left_by_all
left-ends tears log at moment file whole high so_far =
    let none : drop at (take moment log) ≡ [] = drop_all at (take moment log) (omega (arith, high, length-take moment log)) in
    sym (ap (λ (l : List Change). left_by_all (map tear_of (drop at tears)) l file) none) ∙ so_far

pub left-was : (first : List ℕ) (log : List Change) (moment : ℕ) (tears : List TearValue) (c : List ℕ) → moment ≤ length log
    → c ≡ left_by_all tears (take moment log) first → WasLeft first log moment c
left-was first log moment tears c inside is = record {
  moment = moment;
  later = omega arith;
  within = inside;
  left = subst (λ (w : List ℕ). MayBeLeft first (take moment log) w) (sym is) (each-choice first (take moment log) tears);
}
