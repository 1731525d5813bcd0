-- What is written spells what it says, and opening a gate makes what stands behind it the next records.
use Rattle.std.proofs.Common.{◌≡◌, ℕ, zero, suc, ◌<◌, ◌^◌, ◌==◌, Bool, true, false, nat_lt, List, [], ◌∷◌, ◌++◌, length, drop, Option, Some, None, refl, sym, ap, ◌∙◌, arith, append_assoc, subst, inr}
use Rattle.std.proofs.Math.Seq.{drop-append_seam}
use Rattle.std.proofs.lemmas.List.{append-nil, length-append}
use Rattle.std.proofs.lemmas.Bool.{lt-ltb, eq-eqb, ne_eqb}
use Rattle.std.proofs.lemmas.Slice.Eq.{bytes_eq-Decides}
use Rattle.sdnv.specs.Shortest.{spelling}
use Rattle.sdnv.proofs.ShortestLemmas.{spelling-spells}
use Rattle.wire_fields.specs.Format.{Spells, give, ◌>>=◌}
use Rattle.wire_fields.specs.Words.{needs, choice}
use Rattle.gate_cases.specs.declared.face.Face.{Face}
use Rattle.gate_cases.specs.declared.face.Face.TheVariants.{Old, New}
use Rattle.journal_file.specs.declared.fault.JournalCause.{JournalCause}
use Rattle.journal_file.specs.declared.fault.JournalCause.TheVariants as causes
use Rattle.journal_file.specs.declared.record.How.{How}
use Rattle.journal_file.specs.declared.record.How.TheVariants as hows
use Rattle.journal_file.specs.Values.{KeptValue, RecordValue, a_begun, a_done, a_mark, a_clear, a_reserved, nothing_kept}
use Rattle.journal_file.specs.Keeping.{octet_of, is_pending, kept_with, kept_after}
use Rattle.journal_file.specs.Table.{sized_number, number_where, face, how, begun_fields, done_fields, mark_fields, clear_fields, reserved_fields, dated_fields, fields_of, record_kind, check_of, check, entry, records}
use Rattle.journal_file.specs.File.{opening, Reads}
use Rattle.journal_file.specs.Spelling.{how_octet, field_octets, begun_octet, kind_octet, body_octets, record_octets, gated, MayCome, MayFollow, Closes}

-- ---- lists

-- where a list with a last element is cut, and something is left, that ends with the element
nil-back : (a b : List ℕ) → a ++ b ≡ [] → b ≡ []
nil-back [] b e = e
nil-back (x ∷ a) b e = absurd (cc)

tails : (x y : ℕ) (xs ys : List ℕ) → x ∷ xs ≡ y ∷ ys → xs ≡ ys
tails x y xs ys e = cc

snoc-cut : (xs a b : List ℕ) (z : ℕ) → xs ++ z ∷ [] ≡ a ++ b → (b ≡ [] → ⊥)
    → (ys : List ℕ) × (xs ≡ a ++ ys) × (b ≡ ys ++ z ∷ [])
snoc-cut xs [] b z e some = (xs, refl, sym e)
snoc-cut [] (y ∷ a) b z e some = absurd (some (nil-back a b (sym (tails z y [] (a ++ b) e))))
snoc-cut (x ∷ xs) (y ∷ a) b z e some =
    let rest = snoc-cut xs a b z (tails x y (xs ++ z ∷ []) (a ++ b) e) some in
    let first : x ≡ y = cc in
    (rest.0, ap (λ (w : List ℕ). x ∷ w) rest.1 ∙ ap (λ (n : ℕ). n ∷ (a ++ rest.0)) first, rest.2)

-- ---- single fields

sized-spells : (front : List ℕ) (n : ℕ) → n < 2 ^ 64 → Spells sized_number front (spelling n) (n, length (spelling n))
unfolding sized_number
sized-spells front n small =
    let seam : drop (length front) ((front ++ []) ++ spelling n) ≡ spelling n =
    ap (λ (w : List ℕ). drop (length front) (w ++ spelling n)) (append-nil front) ∙ drop-append_seam front (spelling n) in (
      [],
      spelling n,
      length front,
      refl,
      (refl, refl),
      (
        spelling n,
        [],
        n,
        sym (append-nil (spelling n)),
        spelling-spells n small,
        ([], [], spelling n, refl, (refl, sym seam), (refl, refl)),
      ),
    )

number-spells : (conditions : ℕ → Option JournalCause) (front : List ℕ) (n : ℕ) → n < 2 ^ 64 → conditions n ≡ None
    → Spells (number_where conditions) front (spelling n) n
unfolding number_where
number-spells conditions front n small holds = (
  spelling n,
  [],
  (n, length (spelling n)),
  sym (append-nil (spelling n)),
  (sized-spells front n small, rw (eq-eqb (length (spelling n)) (length (spelling n)) refl, holds) refl),
  (refl, refl),
)

face-spells : (front : List ℕ) (f : Face) → Spells face front (octet_of f ∷ []) f
unfolding face
face-spells front Old = (0 ∷ [], [], 0, refl, (refl, refl), (refl, refl))
face-spells front New = (1 ∷ [], [], 1, refl, (refl, refl), (refl, refl))

how-spells : (front : List ℕ) (h : How) → Spells how front (how_octet h ∷ []) h
unfolding how
how-spells front hows.Sent = (1 ∷ [], [], 1, refl, (refl, refl), (refl, refl))
how-spells front hows.Failed = (2 ∷ [], [], 2, refl, (refl, refl), (refl, refl))
how-spells front hows.Cancelled = (3 ∷ [], [], 3, refl, (refl, refl), (refl, refl))

-- ---- what follows a kind

abbrev begun_by : ℕ → Face → Option ℕ → List ℕ → RecordValue
begun_by id at came block = a_begun (record { id = id; face = at; came = came; block = block })

-- a block that is begun, with a moment or without one
begun-spells : (kept : KeptValue) (front : List ℕ) (id : ℕ) (at : Face) (came : Option ℕ) (block : List ℕ)
    → MayCome kept (begun_by id at came block)
    → Spells (fields_of (begun_octet came) kept) front (field_octets (begun_by id at came block)) (begun_by id at came block)
unfolding fields_of begun_fields dated_fields
begun-spells kept front id at None block may = (
  spelling id,
  _,
  id,
  refl,
  number-spells (λ n. needs (nat_lt kept.greatest n) causes.Id) front id may.1 (rw (lt-ltb kept.greatest id may.0) refl),
  (
    octet_of at ∷ [],
    _,
    at,
    refl,
    face-spells _ at,
    (
      spelling (length block),
      _,
      length block,
      refl,
      number-spells (λ _. None) _ (length block) may.2 refl,
      (block, [], block, sym (append-nil block), (refl, refl), (refl, refl)),
    ),
  ),
)
begun-spells kept front id at (Some moment) block may = (
  spelling id,
  _,
  id,
  refl,
  number-spells (λ n. needs (nat_lt kept.greatest n) causes.Id) front id may.1 (rw (lt-ltb kept.greatest id may.0) refl),
  (
    octet_of at ∷ [],
    _,
    at,
    refl,
    face-spells _ at,
    (
      spelling moment,
      _,
      moment,
      refl,
      number-spells (λ _. None) _ moment may.3 refl,
      (
        spelling (length block),
        _,
        length block,
        refl,
        number-spells (λ _. None) _ (length block) may.2 refl,
        (block, [], block, sym (append-nil block), (refl, refl), (refl, refl)),
      ),
    ),
  ),
)

fields-spell : (kept : KeptValue) (front : List ℕ) (said : RecordValue) → MayCome kept said
    → Spells (fields_of (kind_octet said) kept) front (field_octets said) said
unfolding fields_of done_fields mark_fields clear_fields reserved_fields
fields-spell kept front (a_begun p) may = begun-spells kept front p.id p.face p.came p.block may
fields-spell kept front (a_done id h) may = (
  spelling id,
  _,
  id,
  refl,
  number-spells (λ n. needs (is_pending n kept.pending) causes.Id) front id may.1 (rw may.0 refl),
  (how_octet h ∷ [], [], h, refl, how-spells _ h, (refl, refl)),
)
fields-spell kept front (a_mark m) may = (
  octet_of m.face ∷ [],
  _,
  m.face,
  refl,
  face-spells front m.face,
  (
    spelling m.session,
    _,
    m.session,
    refl,
    number-spells (λ _. None) _ m.session may.0 refl,
    (spelling m.when, [], m.when, sym (append-nil (spelling m.when)), number-spells (λ _. None) _ m.when may.1 refl, (refl, refl)),
  ),
)
fields-spell kept front (a_clear f session) may = (
  octet_of f ∷ [],
  _,
  f,
  refl,
  face-spells front f,
  (spelling session, [], session, sym (append-nil (spelling session)), number-spells (λ _. None) _ session may refl, (refl, refl)),
)
fields-spell kept front (a_reserved f n) may = (
  octet_of f ∷ [],
  _,
  f,
  refl,
  face-spells front f,
  (spelling n, [], n, sym (append-nil (spelling n)), number-spells (λ _. None) _ n may refl, (refl, refl)),
)

-- ---- a record

check-spells : (front octets : List ℕ) → Spells (check octets) front (check_of octets) (check_of octets)
unfolding check
check-spells front octets = ((refl, refl), rw ((bytes_eq-Decides (check_of octets) (check_of octets)).1 refl) refl)

begun-kind : (front : List ℕ) (came : Option ℕ) → Spells record_kind front (begun_octet came ∷ []) (begun_octet came)
begun-kind front None = (refl, refl)
begun-kind front (Some moment) = (refl, refl)

kind-spells : (front : List ℕ) (said : RecordValue) → Spells record_kind front (kind_octet said ∷ []) (kind_octet said)
kind-spells front (a_begun p) = begun-kind front p.came
kind-spells front (a_done id h) = (refl, refl)
kind-spells front (a_mark m) = (refl, refl)
kind-spells front (a_clear f session) = (refl, refl)
kind-spells front (a_reserved f n) = (refl, refl)

body-since : (front : List ℕ) (said : RecordValue)
    → drop (length front) (((front ++ []) ++ kind_octet said ∷ []) ++ field_octets said) ≡ body_octets said
body-since front said =
    ap (λ (w : List ℕ). drop (length front) ((w ++ kind_octet said ∷ []) ++ field_octets said)) (append-nil front)
    ∙ ap (λ (w : List ℕ). drop (length front) w) (append_assoc front (kind_octet said ∷ []) (field_octets said))
    ∙ drop-append_seam front (kind_octet said ∷ field_octets said)

entry-spells : (kept : KeptValue) (front : List ℕ) (said : RecordValue) → MayCome kept said → Spells (entry kept) front (record_octets said) said
unfolding entry
entry-spells kept front said may = (
  [],
  _,
  length front,
  refl,
  (refl, refl),
  (
    kind_octet said ∷ [],
    field_octets said ++ check_of (body_octets said),
    kind_octet said,
    refl,
    kind-spells (front ++ []) said,
    (
      field_octets said,
      check_of (body_octets said),
      said,
      refl,
      fields-spell kept ((front ++ []) ++ kind_octet said ∷ []) said may,
      (
        [],
        check_of (body_octets said),
        body_octets said,
        refl,
        (refl, sym (body-since front said)),
        (check_of (body_octets said), [], check_of (body_octets said), sym (append-nil (check_of (body_octets said))), check-spells _ (body_octets said), (refl, refl)),
      ),
    ),
  ),
)

-- ---- records

record Follows (kept : KeptValue) (seen text : List ℕ) (k : KeptValue) : Type 0 where
  most : ℕ
  spells : Spells (records most kept) seen text k

gated-spells : (kept : KeptValue) (rs : List RecordValue) (seen : List ℕ) → MayFollow kept rs → Follows kept seen (gated rs) (kept_after kept rs)
unfolding gated records
gated-spells kept [] seen may = record { most = 1; spells = (0 ∷ [], [], 0, refl, refl, (refl, refl)) }
gated-spells kept (r ∷ rs) seen may =
    let rest = gated-spells (kept_with kept r) rs ((seen ++ 1 ∷ []) ++ record_octets r) may.1 in record {
      most = suc rest.most;
      spells = (
        1 ∷ [],
        record_octets r ++ gated rs,
        1,
        refl,
        refl,
        (record_octets r, gated rs, r, refl, entry-spells kept (seen ++ 1 ∷ []) r may.0, rest.spells),
      );
    }

some-left : (m : ℕ) (kept k : KeptValue) (seen w : List ℕ) → Spells (records m kept) seen w k → w ≡ [] → ⊥
unfolding records
some-left zero kept k seen w s none = cc
some-left (suc m) kept k seen w (u, v, gate, parts, one, after) none = omega (arith, ap length (sym parts ∙ none), length-append u v, ap length one)

-- in the place of the closed gate other octets go on
went-on : (m : ℕ) (kept k : KeptValue) (seen front tail : List ℕ) (j : KeptValue) → ((far : List ℕ) → Follows k far tail j)
    → Spells (records m kept) seen (front ++ 0 ∷ []) k → Follows kept seen (front ++ tail) j
unfolding records
went-on zero kept k seen front tail j on s = absurd (cc)
went-on (suc m) kept k seen [] tail j on (u, v, gate, parts, one, after) =
    let zero_first : 0 ∷ [] ≡ gate ∷ v = parts ∙ ap (λ (w : List ℕ). w ++ v) one in
    let shut : gate ≡ 0 = cc in
    let ends : Spells (choice (0 == 1) (entry kept >>= (λ said. records m (kept_with kept said))) (give kept)) (seen ++ u) v k =
    rw shut at after in
    let same : k ≡ kept = ends.1 in
    rw same at (on seen)
went-on (suc m) kept k seen (x ∷ front) tail j on (u, v, gate, parts, one, after) =
    by (gate == 1) refl after (λ said ys far s. went-on m (kept_with kept said) k far ys tail j on s)
  where
    whole : x ∷ (front ++ 0 ∷ []) ≡ gate ∷ v
    whole = parts ∙ ap (λ (w : List ℕ). w ++ v) one

    first : x ≡ gate
    first = cc

    left : front ++ 0 ∷ [] ≡ v
    left = cc

    by : (t : Bool) → (gate == 1) ≡ t
        → Spells (choice t (entry kept >>= (λ said. records m (kept_with kept said))) (give kept)) (seen ++ u) v k
        → ((said : RecordValue) (ys far : List ℕ) → Spells (records m (kept_with kept said)) far (ys ++ 0 ∷ []) k
        → Follows (kept_with kept said) far (ys ++ tail) j)
        → Follows kept seen ((x ∷ front) ++ tail) j
    by false is s next = absurd (omega (arith, ap length (left ∙ s.0), length-append front (0 ∷ [])))
    by true is (a, b, said, seam, here, rest) next =
        let cut = snoc-cut front a b 0 (left ∙ seam) (some-left m (kept_with kept said) k ((seen ++ u) ++ a) b rest) in
        let others = next said cut.0 ((seen ++ u) ++ a) (rw cut.2 at rest) in record {
          most = suc others.most;
          spells = (
            u,
            a ++ (cut.0 ++ tail),
            gate,
            ap (λ (w : List ℕ). x ∷ (w ++ tail)) cut.1 ∙ ap (λ (w : List ℕ). x ∷ w) (append_assoc a cut.0 tail)
                ∙ ap (λ (y : ℕ). y ∷ (a ++ (cut.0 ++ tail))) first ∙ ap (λ (w : List ℕ). w ++ (a ++ (cut.0 ++ tail))) (sym one),
            one,
            rw is (a, cut.0 ++ tail, said, refl, here, others.spells),
          );
        }

-- a gate with any octet but that of an open one is closed
shut-follows : (kept : KeptValue) (gate : ℕ) (far : List ℕ) → (gate == 1) ≡ false → Follows kept far (gate ∷ []) kept
unfolding records
shut-follows kept gate far is = record { most = 1; spells = (gate ∷ [], [], gate, refl, refl, rw is (refl, refl)) }

-- ---- the laws

pub closes-reads : (file torn : List ℕ) (kept : KeptValue) → Closes file kept → Reads (file ++ torn) kept
closes-reads file torn kept closes = inr (record {
  text = closes.text;
  rest = torn;
  most = closes.most;
  parts = ap (λ (w : List ℕ). w ++ torn) closes.parts ∙ append_assoc opening closes.text torn;
  spells = closes.spells;
})

pub records-closed : (rs : List RecordValue) → MayFollow nothing_kept rs → Closes (opening ++ gated rs) (kept_after nothing_kept rs)
records-closed rs may =
    let there = gated-spells nothing_kept rs opening may in
    record { text = gated rs; most = there.most; parts = refl; spells = there.spells }

tail-follows : (front : List ℕ) (kept : KeptValue) (tail : List ℕ) (j : KeptValue) → ((far : List ℕ) → Follows kept far tail j)
    → Closes (front ++ 0 ∷ []) kept → Closes (front ++ tail) j
tail-follows front kept tail j on closes =
    let cut = snoc-cut front opening closes.text 0 closes.parts (some-left closes.most nothing_kept kept opening closes.text closes.spells) in
    let there = went-on closes.most nothing_kept kept opening cut.0 tail j on (rw cut.2 at closes.spells) in record {
      text = cut.0 ++ tail;
      most = there.most;
      parts = ap (λ (w : List ℕ). w ++ tail) cut.1 ∙ append_assoc opening cut.0 tail;
      spells = there.spells;
    }

pub gate-opened : (front : List ℕ) (kept : KeptValue) (rs : List RecordValue)
    → Closes (front ++ 0 ∷ []) kept → MayFollow kept rs → Closes (front ++ gated rs) (kept_after kept rs)
gate-opened front kept rs closes may = tail-follows front kept (gated rs) (kept_after kept rs) (λ far. gated-spells kept rs far may) closes

pub gate-shut : (front : List ℕ) (kept : KeptValue) (gate : ℕ)
    → Closes (front ++ 0 ∷ []) kept → (gate ≡ 1 → ⊥) → Closes (front ++ gate ∷ []) kept
gate-shut front kept gate closes other = tail-follows front kept (gate ∷ []) kept (λ far. shut-follows kept gate far (ne_eqb gate 1 other)) closes

pub shut-reads : (front torn : List ℕ) (kept : KeptValue) (gate : ℕ)
    → Closes (front ++ 0 ∷ []) kept → (gate ≡ 1 → ⊥) → Reads (front ++ gate ∷ torn) kept
shut-reads front torn kept gate closes other =
    subst (λ (w : List ℕ). Reads w kept) (append_assoc front (gate ∷ []) torn) (closes-reads (front ++ gate ∷ []) torn kept (gate-shut front kept gate closes other))
