-- What is written spells the value, and is read back as it.

use Rattle.std.proofs.Common.{◌≡◌, ℕ, ◌+◌, ◌^◌, ◌<◌, true, List, [], ◌∷◌, ◌++◌, length, None, refl, sym, ap, ◌∙◌, arith, append_assoc, ◌==◌, not, nat_le, nat_lt, ◌&&◌}
use Rattle.std.proofs.lemmas.List.{append-nil, length-append}
use Rattle.std.proofs.lemmas.Bool.{lt-ltb, le-leb}
use Rattle.std.specs.List.{flat_map, All}
use Rattle.sdnv.specs.Shortest.{spelling}
use Rattle.wire_fields.specs.Format.{Format, Spells}
use Rattle.wire_fields.specs.Words.{needs}
use Rattle.wire_fields.proofs.WholeLemmas.{whole-only}
use Rattle.endpoint.specs.declared.name.Endpoint.{Endpoint}
use Rattle.endpoint.specs.Endpoints.{IsEndpoint}
use Rattle.bundle_meaning.specs.declared.fault.BlockFault.{BlockFault}
use Rattle.bundle_meaning.specs.declared.fault.BlockFault.TheVariants.{Bad}
use Rattle.bundle_meaning.specs.declared.blocks.Block6Like.{Block6Like}
use Rattle.bundle_meaning.specs.declared.blocks.Block7Like.{Block7Like}
use Rattle.bundle_meaning.specs.declared.residue.ResidueOld.{ResidueOld}
use Rattle.bundle_meaning.specs.declared.residue_new.ResidueNew.{ResidueNew}
use Rattle.bundle_meaning.specs.Bits.{is_within, common, block_common, not_own6, block_not_own6, block_marks, statuses}
use Rattle.bundle_meaning.specs.Blocks.{mark, IsBlock6, IsBlock7}
use Rattle.bundle_meaning.specs.Valid.{IsExtra6, IsExtra7}
use Rattle.bundle_meaning.specs.Body.{name_octets, numbers_octets, IsWritten}
use Rattle.bundle_meaning.specs.Residue.{residue_old, residue_old_octets, four_rests, residue_new, residue_new_octets}
use Rattle.bundle_meaning.specs.Wrap.{wrap_old, wrap_old_octets, references, wrap_new, wrap_new_octets}
use Rattle.bundle_meaning.proofs.FieldLemmas.{mark-spells, shortest-spells, below-spells, within-spells, without-spells, name-spells, names-spell, all_left-spells}

pub written : {A : Type 0} (f : Format BlockFault A) (value : A) (made octets : List ℕ) → Spells f [] made value → octets ≡ made
    → IsWritten f value made octets
written f value made octets spells is =
    let so : Spells f [] octets value = rw is spells in
    record { is = is; spells = so; again = whole-only f Bad octets value so }

-- ---- residues

-- values that a residue in a version 6 bundle can carry
pub record IsResidueOld (residue : ResidueOld) : Type 0 where
  pub slack : residue.slack < 1000
  pub extra7 : IsExtra7 residue.extra7
  pub no_time : is_within statuses residue.no_time ≡ true
  pub no_time_fits : residue.no_time < 2 ^ 64

pub residue_old-spells : (residue : ResidueOld) → IsResidueOld residue → Spells residue_old [] (residue_old_octets residue) residue
unfolding residue_old residue_old_octets
residue_old-spells residue is = (
  mark,
  _,
  mark,
  refl,
  mark-spells [],
  (
    spelling residue.slack,
    _,
    residue.slack,
    refl,
    below-spells _ 1000 residue.slack is.slack (omega (arith, is.slack)),
    (
      spelling residue.extra7.flags,
      _,
      residue.extra7.flags,
      refl,
      without-spells _ common residue.extra7.flags is.extra7.flags is.extra7.flags_fit,
      (
        spelling residue.extra7.crc,
        _,
        residue.extra7.crc,
        refl,
        below-spells _ 3 residue.extra7.crc is.extra7.crc (omega (arith, is.extra7.crc)),
        (
          spelling residue.extra7.payload_crc,
          _,
          residue.extra7.payload_crc,
          refl,
          below-spells _ 3 residue.extra7.payload_crc is.extra7.payload_crc (omega (arith, is.extra7.payload_crc)),
          (
            spelling residue.extra7.payload_flags,
            _,
            residue.extra7.payload_flags,
            refl,
            without-spells _ block_common residue.extra7.payload_flags is.extra7.payload_flags is.extra7.payload_flags_fit,
            (
              spelling residue.no_time,
              [],
              residue.no_time,
              sym (append-nil (spelling residue.no_time)),
              within-spells _ statuses residue.no_time is.no_time is.no_time_fits,
              (refl, refl),
            ),
          ),
        ),
      ),
    ),
  ),
)

-- four parts of times
abbrev pub AreRests : List ℕ → Type 0
AreRests rests = All (λ rest. rest < 1000000) rests

four-spell : (front : List ℕ) (a b c d : ℕ) → a < 1000000 → b < 1000000 → c < 1000000 → d < 1000000
    → Spells four_rests front (numbers_octets (a ∷ b ∷ c ∷ d ∷ [])) (a ∷ b ∷ c ∷ d ∷ [])
unfolding four_rests
four-spell front a b c d ha hb hc hd = (
  spelling a,
  _,
  a,
  refl,
  below-spells _ 1000000 a ha (omega (arith, ha)),
  (
    spelling b,
    _,
    b,
    refl,
    below-spells _ 1000000 b hb (omega (arith, hb)),
    (
      spelling c,
      _,
      c,
      refl,
      below-spells _ 1000000 c hc (omega (arith, hc)),
      (spelling d, [], d, refl, below-spells _ 1000000 d hd (omega (arith, hd)), (refl, refl)),
    ),
  ),
)

pub rests-spell : (front rests : List ℕ) → length rests ≡ 4 → AreRests rests → Spells four_rests front (numbers_octets rests) rests
rests-spell front [] four are = absurd (omega (arith, four))
rests-spell front (a ∷ []) four are = absurd (omega (arith, four))
rests-spell front (a ∷ b ∷ []) four are = absurd (omega (arith, four))
rests-spell front (a ∷ b ∷ c ∷ []) four are = absurd (omega (arith, four))
rests-spell front (a ∷ b ∷ c ∷ d ∷ []) four are = four-spell front a b c d (are 0 0 (omega arith)) (are 1 0 (omega arith)) (are 2 0 (omega arith)) (are 3 0 (omega arith))
rests-spell front (a ∷ b ∷ c ∷ d ∷ e ∷ rests) four are = absurd (omega (arith, four))

-- values that a residue in a version 7 bundle can carry
pub record IsResidueNew (residue : ResidueNew) : Type 0 where
  pub extra6 : IsExtra6 residue.extra6
  pub four : length residue.rests ≡ 4
  pub rests : AreRests residue.rests

pub residue_new-spells : (residue : ResidueNew) → IsResidueNew residue → Spells residue_new [] (residue_new_octets residue) residue
unfolding residue_new residue_new_octets
residue_new-spells residue is = (
  mark,
  _,
  mark,
  refl,
  mark-spells [],
  (
    spelling residue.extra6.flags,
    _,
    residue.extra6.flags,
    refl,
    without-spells _ not_own6 residue.extra6.flags is.extra6.flags is.extra6.flags_fit,
    (
      name_octets residue.extra6.custodian,
      _,
      residue.extra6.custodian,
      refl,
      name-spells _ residue.extra6.custodian is.extra6.custodian,
      (
        spelling residue.extra6.payload_flags,
        _,
        residue.extra6.payload_flags,
        refl,
        without-spells _ block_not_own6 residue.extra6.payload_flags is.extra6.payload_flags is.extra6.payload_flags_fit,
        (
          spelling residue.extra6.after,
          _,
          residue.extra6.after,
          refl,
          shortest-spells _ residue.extra6.after is.extra6.after_fits,
          (
            numbers_octets residue.rests,
            [],
            residue.rests,
            sym (append-nil (numbers_octets residue.rests)),
            rests-spell _ residue.rests is.four is.rests,
            (refl, refl),
          ),
        ),
      ),
    ),
  ),
)

-- ---- wraps

four_parts : (m a b c d rest : List ℕ) → m ++ (a ++ (b ++ (c ++ (d ++ rest)))) ≡ (((([] ++ m) ++ a) ++ b) ++ c) ++ d ++ rest
four_parts m a b c d rest = simp append_assoc

three_parts : (m a b c rest : List ℕ) → m ++ (a ++ (b ++ (c ++ rest))) ≡ ((([] ++ m) ++ a) ++ b) ++ c ++ rest
three_parts m a b c rest = simp append_assoc

pub wrap_old-spells : (block : Block7Like) → IsBlock7 block
    → Spells (wrap_old (length (wrap_old_octets block))) [] (wrap_old_octets block) block
unfolding wrap_old wrap_old_octets
wrap_old-spells block is =
    let other : needs (not (block.kind == 1)) Bad ≡ None = rw is.extension refl in
    let many : needs (nat_le 2 block.number) Bad ≡ None = rw (le-leb 2 block.number is.number) refl in
    let k = spelling block.kind in let n = spelling block.number in let f = spelling block.flags in let c = spelling block.crc in
    let front = (((([] ++ mark) ++ k) ++ n) ++ f) ++ c in
    let parts : mark ++ (k ++ (n ++ (f ++ (c ++ block.body)))) ≡ front ++ block.body = four_parts mark k n f c block.body in
    let whole : length (mark ++ (k ++ (n ++ (f ++ (c ++ block.body))))) ≡ length front + length block.body =
    ap length parts ∙ length-append front block.body in (
      mark,
      _,
      mark,
      refl,
      mark-spells [],
      (
        k,
        _,
        block.kind,
        refl,
        (shortest-spells _ block.kind is.kind, other),
        (
          n,
          _,
          block.number,
          refl,
          (shortest-spells _ block.number is.number_fits, many),
          (
            f,
            _,
            block.flags,
            refl,
            shortest-spells _ block.flags is.flags,
            (
              c,
              _,
              block.crc,
              refl,
              below-spells _ 3 block.crc is.crc (omega (arith, is.crc)),
              (block.body, [], block.body, sym (append-nil block.body), all_left-spells front block.body _ whole, (refl, refl)),
            ),
          ),
        ),
      ),
    )

pub references-spell : (front : List ℕ) (endpoints : List Endpoint) → length endpoints < 2 ^ 64 → All IsEndpoint endpoints
    → Spells references front (spelling (length endpoints) ++ flat_map name_octets endpoints) endpoints
unfolding references
references-spell front endpoints fits are = (
  spelling (length endpoints),
  flat_map name_octets endpoints,
  length endpoints,
  refl,
  shortest-spells front (length endpoints) fits,
  names-spell _ [] endpoints are,
)

pub wrap_new-spells : (block : Block6Like) → IsBlock6 block
    → Spells (wrap_new (length (wrap_new_octets block))) [] (wrap_new_octets block) block
unfolding wrap_new wrap_new_octets
wrap_new-spells block is =
    let other : needs (nat_lt block.kind 256 && not (block.kind == 1)) Bad ≡ None = rw (lt-ltb block.kind 256 is.kind, is.extension) refl in
    let k = spelling block.kind in let f = spelling block.flags in
    let r = spelling (length block.refs) ++ flat_map name_octets block.refs in
    let front = ((([] ++ mark) ++ k) ++ f) ++ r in
    let parts : mark ++ (k ++ (f ++ (r ++ block.body))) ≡ front ++ block.body = three_parts mark k f r block.body in
    let whole : length (mark ++ (k ++ (f ++ (r ++ block.body)))) ≡ length front + length block.body =
    ap length parts ∙ length-append front block.body in (
      mark,
      _,
      mark,
      refl,
      mark-spells [],
      (
        k,
        _,
        block.kind,
        refl,
        (shortest-spells _ block.kind (omega (arith, is.kind)), other),
        (
          f,
          _,
          block.flags,
          refl,
          without-spells _ block_marks block.flags is.marks is.flags,
          (
            r,
            _,
            block.refs,
            refl,
            references-spell _ block.refs is.count is.refs,
            (block.body, [], block.body, sym (append-nil block.body), all_left-spells front block.body _ whole, (refl, refl)),
          ),
        ),
      ),
    )

-- ---- what is written, piece by piece

four_numbers : (m a b c d rest : List ℕ) → (m ++ (a ++ (b ++ (c ++ (d ++ []))))) ++ rest ≡ m ++ (a ++ (b ++ (c ++ (d ++ rest))))
four_numbers m a b c d rest = simp (append_assoc, append-nil)

three_numbers : (m a b c names rest : List ℕ) → ((m ++ (a ++ (b ++ (c ++ [])))) ++ names) ++ rest ≡ m ++ (a ++ (b ++ ((c ++ names) ++ rest)))
three_numbers m a b c names rest = simp (append_assoc, append-nil)

new_numbers : (m a n b c rest : List ℕ) → (((m ++ (a ++ [])) ++ n) ++ (b ++ (c ++ []))) ++ rest ≡ m ++ (a ++ (n ++ (b ++ (c ++ rest))))
new_numbers m a n b c rest = simp (append_assoc, append-nil)

pub wrap_old-written : (block : Block7Like) (octets one two : List ℕ) → IsBlock7 block → one ≡ mark
    → two ≡ one ++ numbers_octets (block.kind ∷ block.number ∷ block.flags ∷ block.crc ∷ []) → octets ≡ two ++ block.body
    → IsWritten (wrap_old (length octets)) block (wrap_old_octets block) octets
unfolding wrap_old_octets
wrap_old-written block octets one two is e1 e2 e3 =
    let made : octets ≡ wrap_old_octets block =
    e3 ∙ rw (e2, e1) (four_numbers mark (spelling block.kind) (spelling block.number) (spelling block.flags) (spelling block.crc) block.body) in
    written (wrap_old (length octets)) block (wrap_old_octets block) octets (rw made (wrap_old-spells block is)) made

pub wrap_new-written : (block : Block6Like) (octets one two three : List ℕ) → IsBlock6 block → one ≡ mark
    → two ≡ one ++ numbers_octets (block.kind ∷ block.flags ∷ length block.refs ∷ []) → three ≡ two ++ flat_map name_octets block.refs
    → octets ≡ three ++ block.body → IsWritten (wrap_new (length octets)) block (wrap_new_octets block) octets
unfolding wrap_new_octets
wrap_new-written block octets one two three is e1 e2 e3 e4 =
    let made : octets ≡ wrap_new_octets block =
    e4 ∙ rw (e3, e2, e1) (three_numbers mark (spelling block.kind) (spelling block.flags) (spelling (length block.refs))
    (flat_map name_octets block.refs) block.body) in
    written (wrap_new (length octets)) block (wrap_new_octets block) octets (rw made (wrap_new-spells block is)) made

pub residue_old-written : (residue : ResidueOld) (octets one : List ℕ) → IsResidueOld residue → one ≡ mark
    → octets ≡ one ++ numbers_octets (residue.slack ∷ residue.extra7.flags ∷ residue.extra7.crc ∷ residue.extra7.payload_crc
    ∷ residue.extra7.payload_flags ∷ residue.no_time ∷ [])
    → IsWritten residue_old residue (residue_old_octets residue) octets
unfolding residue_old_octets
residue_old-written residue octets one is e1 e2 =
    let made : octets ≡ residue_old_octets residue =
    e2 ∙ rw (e1, append-nil (spelling residue.no_time)) refl in
    written residue_old residue (residue_old_octets residue) octets (residue_old-spells residue is) made

pub residue_new-written : (residue : ResidueNew) (octets one two three four : List ℕ) → IsResidueNew residue → one ≡ mark
    → two ≡ one ++ numbers_octets (residue.extra6.flags ∷ []) → three ≡ two ++ name_octets residue.extra6.custodian
    → four ≡ three ++ numbers_octets (residue.extra6.payload_flags ∷ residue.extra6.after ∷ [])
    → octets ≡ four ++ numbers_octets residue.rests
    → IsWritten residue_new residue (residue_new_octets residue) octets
unfolding residue_new_octets
residue_new-written residue octets one two three four is e1 e2 e3 e4 e5 =
    let made : octets ≡ residue_new_octets residue =
    e5 ∙ rw (e4, e3, e2, e1) (new_numbers mark (spelling residue.extra6.flags) (name_octets residue.extra6.custodian)
    (spelling residue.extra6.payload_flags) (spelling residue.extra6.after) (numbers_octets residue.rests)) in
    written residue_new residue (residue_new_octets residue) octets (residue_new-spells residue is) made
