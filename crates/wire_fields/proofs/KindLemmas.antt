-- What a field of a kind is at the front of a text is what the table of kinds says.
use Rattle.std.proofs.Common.{◌≡◌, ℕ, ◌+◌, get_or, ◌<◌, ◌≤◌, Bool, true, false, ◌/◌, ◌%◌, ◌==◌, ◌≢◌, ◌⊎◌, eqb-true, slice_index, cond, List, [], ◌∷◌, ◌++◌, length, take, drop, Result, Ok, Err, refl, sym, ap, ◌∙◌, subst, inl, inr, arith, length-append, append_assoc, take-append-drop}
use Rattle.std.proofs.lemmas.Bool.{cases_lt, lt-ltb, le-ltb}
use Rattle.std.proofs.lemmas.List.{length-take-le, take-append-le, drop_more}
use Rattle.std.proofs.Math.Seq.{take-append_seam}
use Rattle.sdnv.specs.declared.fault.SdnvFault.{SdnvFault}
use Rattle.sdnv.specs.declared.fault.SdnvFault.TheVariants as sdnv_faults
use Rattle.sdnv.specs.Spelling.{Spells}
use Rattle.sdnv.specs.Reading.{read_of, IsTooLong, IsTooLarge}
use Rattle.sdnv.proofs.ReadingLemmas.{read_of-one, read_of-found, read_of-only, short-is, is-short, too_long-is, is-too_long, too_large-is, is-too_large}
use Rattle.cbor_lite.specs.declared.fault.CborFault.{CborFault}
use Rattle.cbor_lite.specs.declared.fault.CborFault.TheVariants as cbor_faults
use Rattle.cbor_lite.specs.Head.{SpellsHead, EndsInsideHead, head_at, number_at}
use Rattle.cbor_lite.proofs.HeadLemmas.{head_at-only, head_at-ends}
use Rattle.cbor_lite.proofs.HeadLaws.{head_at-found, head_at-short, head_at-stays}
use Rattle.wire_fields.specs.declared.lead.UnsignedOrText.{UnsignedOrText}
use Rattle.wire_fields.specs.declared.lead.UnsignedOrText.TheVariants as leads
use Rattle.wire_fields.specs.declared.miss.Miss.{Miss}
use Rattle.wire_fields.specs.declared.miss.Miss.TheVariants as misses
use Rattle.wire_fields.specs.Kind.{Kind, octet, octets, number, head, unsigned_or_text, ValueOf, SpellsKind, SpellsLead, EndsInside}
use Rattle.wire_fields.specs.Refusal.{IsAbsent}
use Rattle.wire_fields.specs.Reading.{look, look_number, look_head, look_lead, IsOctets}
use Rattle.wire_fields.proofs.TextLemmas.{octets-drop}
use Rattle.wire_fields.proofs.ResultLemmas.{found, found_is, ok_is}

-- ---- n octets

long_enough : (n : ℕ) (w : List ℕ) → n ≤ length w → look (octets n) w ≡ found (take n w) n
long_enough n w long = rw (le-ltb (length w) n long) refl

too_few : (n : ℕ) (w : List ℕ) → length w < n → look (octets n) w ≡ Err misses.Truncated
too_few n w few = rw (lt-ltb (length w) n few) refl

octets-found : (n : ℕ) (w x : List ℕ) (m : ℕ) → look (octets n) w ≡ found x m → (m ≤ length w) × SpellsKind (octets n) (take m w) x
octets-found n w x m is =
    elim (cases_lt (length w) n) [
      | inl few ↦ let no = sym (too_few n w few) ∙ is in absurd (cc)
      | inr long ↦
          let same : (take n w ≡ x) × (n ≡ m) = found_is (take n w) x n m (sym (long_enough n w long) ∙ is) in
          let size = length-take-le n w long in
          rw (← same.1) (long, (same.0, size))
    ]

octets-ends : (n : ℕ) (w : List ℕ) → look (octets n) w ≡ Err misses.Truncated → length w < n
octets-ends n w is =
    elim (cases_lt (length w) n) [
      | inl few ↦ few
      | inr long ↦ let no = sym (long_enough n w long) ∙ is in absurd (cc)
    ]

octets-there : (n : ℕ) (w : List ℕ) → look (octets n) w ≡ Err misses.Absent → ⊥
octets-there n w is =
    elim (cases_lt (length w) n) [
      | inl few ↦ let no = sym (too_few n w few) ∙ is in cc
      | inr long ↦ let no = sym (long_enough n w long) ∙ is in cc
    ]

-- ---- numbers

look_number-ok : (r : Result (ℕ × ℕ) SdnvFault) (x n : ℕ) → look_number r ≡ found x n → r ≡ found x n
look_number-ok (Ok y) x n is = ap (λ z. found z.0 z.1) (ok_is {E = Miss} y (x, n) is)
look_number-ok (Err sdnv_faults.Short) x n is = absurd (cc)
look_number-ok (Err sdnv_faults.TooLong) x n is = absurd (cc)
look_number-ok (Err sdnv_faults.TooLarge) x n is = absurd (cc)

look_number-short : (r : Result (ℕ × ℕ) SdnvFault) → look_number r ≡ Err misses.Truncated → r ≡ Err sdnv_faults.Short
look_number-short (Ok y) is = absurd (cc)
look_number-short (Err sdnv_faults.Short) is = refl
look_number-short (Err sdnv_faults.TooLong) is = absurd (cc)
look_number-short (Err sdnv_faults.TooLarge) is = absurd (cc)

number-found : (w : List ℕ) (x n : ℕ) → look number w ≡ found x n → (n ≤ length w) × Spells (take n w) x
number-found w x n is = rw (look_number-ok (read_of w) x n is) at (read_of-found w)

number-only : (w rest : List ℕ) (x : ℕ) → Spells w x → look number (w ++ rest) ≡ found x (length w)
number-only w rest x spells =
    let within : length w ≤ length (w ++ rest) = omega (arith, length-append w rest) in
    let front : Spells (take (length w) (w ++ rest)) x = rw (take-append_seam w rest) spells in
    rw (read_of-only (w ++ rest) x (length w) within front) refl

-- ten octets that end no number, and a number that is too large, stay so
too_long-more : (w more : List ℕ) → IsTooLong w → IsTooLong (w ++ more)
too_long-more w more long = record {
  unended = rw (take-append-le 10 w more long.many) long.unended;
  many = omega (arith, length-append w more, long.many);
}

too_large-more : (w more : List ℕ) → IsTooLarge w → IsTooLarge (w ++ more)
too_large-more w more over =
    let front = take-append-le over.octets w more over.within in
    record {
      octets = over.octets;
      within = omega (arith, length-append w more, over.within);
      ends = rw front over.ends;
      short = over.short;
      large = rw front over.large;
    }

number-absent-more : (w more : List ℕ) (r : Result (ℕ × ℕ) SdnvFault) → read_of w ≡ r → look_number r ≡ Err misses.Absent
    → look number (w ++ more) ≡ Err misses.Absent
number-absent-more w more (Ok y) this is = absurd (cc)
number-absent-more w more (Err sdnv_faults.Short) this is = absurd (cc)
number-absent-more w more (Err sdnv_faults.TooLong) this is =
    rw (is-too_long (w ++ more) (too_long-more w more (too_long-is w this))) refl
number-absent-more w more (Err sdnv_faults.TooLarge) this is =
    rw (is-too_large (w ++ more) (too_large-more w more (too_large-is w this))) refl

-- ---- heads

look_head-ok : {A : Type 0} (view : ℕ → A) (r : Result (ℕ × ℕ) CborFault) (x : A) (n : ℕ) → look_head view r ≡ found x n
    → (m : ℕ) × (r ≡ found m n) × (view m ≡ x)
look_head-ok view (Ok (m, k)) x n is =
    let same : (view m ≡ x) × (k ≡ n) = found_is {E = Miss} (view m) x k n is in
    (m, ap (λ i. found m i) same.1, same.0)
look_head-ok view (Err cbor_faults.Short) x n is = absurd (cc)
look_head-ok view (Err cbor_faults.Kind) x n is = absurd (cc)
look_head-ok view (Err cbor_faults.NotShortest) x n is = absurd (cc)

look_head-short : {A : Type 0} (view : ℕ → A) (r : Result (ℕ × ℕ) CborFault) → look_head view r ≡ Err misses.Truncated → r ≡ Err cbor_faults.Short
look_head-short view (Ok y) is = absurd (cc)
look_head-short view (Err cbor_faults.Short) is = refl
look_head-short view (Err cbor_faults.Kind) is = absurd (cc)
look_head-short view (Err cbor_faults.NotShortest) is = absurd (cc)

-- what is no head of the kind isn't cut short either
look_head-absent : {A : Type 0} (view : ℕ → A) (r : Result (ℕ × ℕ) CborFault) → look_head view r ≡ Err misses.Absent → r ≢ Err cbor_faults.Short
look_head-absent view (Ok y) is = λ no. cc
look_head-absent view (Err cbor_faults.Short) is = absurd (cc)
look_head-absent view (Err cbor_faults.Kind) is = λ no. cc
look_head-absent view (Err cbor_faults.NotShortest) is = λ no. cc

head-found : {A : Type 0} (view : ℕ → A) (kind : ℕ) (w : List ℕ) (x : A) (n : ℕ) → IsOctets w → look_head view (head_at kind w) ≡ found x n
    → (m : ℕ) × (view m ≡ x) × (n ≤ length w) × SpellsHead kind (take n w) m
head-found view kind w x n fits is =
    let (m, there, seen) = look_head-ok view (head_at kind w) x n is in
    let (within, spells) = head_at-found kind w m n fits there in
    (m, seen, within, spells)

head-absent-more : {A : Type 0} (view : ℕ → A) (kind : ℕ) (w more : List ℕ) → IsOctets w → look_head view (head_at kind w) ≡ Err misses.Absent
    → look_head view (head_at kind (w ++ more)) ≡ Err misses.Absent
head-absent-more view kind w more fits is =
    rw (head_at-stays kind w more fits (look_head-absent view (head_at kind w) is)) is

-- ---- heads of two kinds

right_kind : (b : Bool) (r : Result (ℕ × ℕ) CborFault) (y : ℕ × ℕ) → cond b r (Err cbor_faults.Kind) ≡ Ok y → b ≡ true
right_kind true r y is = refl
right_kind false r y is = absurd (cc)

-- a head that is found is of the kind that was asked for
head_at-kind : (kind : ℕ) (w : List ℕ) (y : ℕ × ℕ) → head_at kind w ≡ Ok y → slice_index w 0 / 32 ≡ kind
unfolding head_at
head_at-kind kind [] y is = absurd (cc)
head_at-kind kind (first ∷ rest) y is =
    eqb-true (first / 32) kind (right_kind (first / 32 == kind) (number_at (first % 32) rest) y is)

-- a text head or an unsigned one, as a test on the next octet says
abbrev lead_by : Bool → List ℕ → Result (UnsignedOrText × ℕ) Miss
lead_by text w = cond text (look_head leads.Text (head_at 3 w)) (look_head leads.Unsigned (head_at 0 w))

lead-found : (text : Bool) (w : List ℕ) (x : UnsignedOrText) (n : ℕ) → IsOctets w → lead_by text w ≡ found x n
    → (n ≤ length w) × SpellsLead (take n w) x
lead-found true w x n fits is =
    let (m, seen, within, spells) = head-found leads.Text 3 w x n fits is in
    (within, subst (λ y. SpellsLead (take n w) y) seen spells)
lead-found false w x n fits is =
    let (m, seen, within, spells) = head-found leads.Unsigned 0 w x n fits is in
    (within, subst (λ y. SpellsLead (take n w) y) seen spells)

lead-only : (w rest : List ℕ) (x : UnsignedOrText) → SpellsLead w x → look_lead (w ++ rest) ≡ found x (length w)
lead-only w rest (leads.Unsigned n) spells =
    let there = head_at-only 0 w rest n spells in
    let kind : slice_index (w ++ rest) 0 / 32 ≡ 0 = head_at-kind 0 (w ++ rest) (n, length w) there in
    rw (kind, there) refl
lead-only w rest (leads.Text n) spells =
    let there = head_at-only 3 w rest n spells in
    let kind : slice_index (w ++ rest) 0 / 32 ≡ 3 = head_at-kind 3 (w ++ rest) (n, length w) there in
    rw (kind, there) refl

lead-ends : (text : Bool) (w : List ℕ) → IsOctets w → lead_by text w ≡ Err misses.Truncated → EndsInsideHead 0 w ⊎ EndsInsideHead 3 w
lead-ends true w fits is = inr (head_at-short 3 w fits (look_head-short leads.Text (head_at 3 w) is))
lead-ends false w fits is = inl (head_at-short 0 w fits (look_head-short leads.Unsigned (head_at 0 w) is))

lead-short : (w : List ℕ) → EndsInsideHead 0 w ⊎ EndsInsideHead 3 w → look_lead w ≡ Err misses.Truncated
lead-short [] ends = rw (head_at-ends 0 [] tt) refl
lead-short (first ∷ rest) (inl ends) = rw (ends.0, head_at-ends 0 (first ∷ rest) ends) refl
lead-short (first ∷ rest) (inr ends) = rw (ends.0, head_at-ends 3 (first ∷ rest) ends) refl

lead-absent-by : (text : Bool) (w more : List ℕ) → IsOctets w → lead_by text w ≡ Err misses.Absent → lead_by text (w ++ more) ≡ Err misses.Absent
lead-absent-by true w more fits is = head-absent-more leads.Text 3 w more fits is
lead-absent-by false w more fits is = head-absent-more leads.Unsigned 0 w more fits is

lead-absent-more : (w more : List ℕ) → IsOctets w → look_lead w ≡ Err misses.Absent → look_lead (w ++ more) ≡ Err misses.Absent
lead-absent-more [] more fits is = let no = sym (lead-short [] (inl tt)) ∙ is in absurd (cc)
lead-absent-more (first ∷ rest) more fits is = lead-absent-by (first / 32 == 3) (first ∷ rest) more fits is

-- ---- all kinds

-- what is read is spelled so
pub look-found : (k : Kind) (w : List ℕ) (x : ValueOf k) (n : ℕ) → IsOctets w → look k w ≡ found x n
    → (n ≤ length w) × SpellsKind k (take n w) x
look-found octet [] x n fits is = absurd (cc)
look-found octet (b ∷ w) x n fits is =
    let same : (b ≡ x) × (1 ≡ n) = found_is b x 1 n is in
    rw (← same.0, ← same.1) (omega arith, refl)
look-found (octets m) w x n fits is = octets-found m w x n is
look-found number w x n fits is = number-found w x n is
look-found (head kind) w x n fits is =
    let (m, seen, within, spells) = head-found (λ i. i) kind w x n fits is in
    (within, subst (λ i. SpellsHead kind (take n w) i) seen spells)
look-found unsigned_or_text w x n fits is = lead-found (slice_index w 0 / 32 == 3) w x n fits is

-- what is spelled so is read, whatever follows
pub look-only : (k : Kind) (w rest : List ℕ) (x : ValueOf k) → SpellsKind k w x → look k (w ++ rest) ≡ found x (length w)
look-only octet w rest x is = rw is refl
look-only (octets n) w rest x is =
    let long : n ≤ length (w ++ rest) = omega (arith, length-append w rest, is.1) in
    long_enough n (w ++ rest) long ∙ rw (sym is.1, take-append_seam w rest, is.0) refl
look-only number w rest x is = number-only w rest x is
look-only (head kind) w rest x is = rw (head_at-only kind w rest x is) refl
look-only unsigned_or_text w rest x is = lead-only w rest x is

-- where the text ends inside the field, and there alone, reading says so
pub look-ends : (k : Kind) (w : List ℕ) → IsOctets w → look k w ≡ Err misses.Truncated → EndsInside k w
look-ends octet [] fits is = refl
look-ends octet (b ∷ w) fits is = absurd (cc)
look-ends (octets n) w fits is = octets-ends n w is
look-ends number w fits is = short-is w (look_number-short (read_of w) is)
look-ends (head kind) w fits is = head_at-short kind w fits (look_head-short (λ i. i) (head_at kind w) is)
look-ends unsigned_or_text w fits is = lead-ends (slice_index w 0 / 32 == 3) w fits is

pub look-short : (k : Kind) (w : List ℕ) → EndsInside k w → look k w ≡ Err misses.Truncated
look-short octet w is = rw is refl
look-short (octets n) w is = too_few n w is
look-short number w is = rw (is-short w is) refl
look-short (head kind) w is = rw (head_at-ends kind w is) refl
look-short unsigned_or_text w is = lead-short w is

-- what is no value stays so, whatever follows
pub look-absent-more : (k : Kind) (w more : List ℕ) → IsOctets w → look k w ≡ Err misses.Absent → look k (w ++ more) ≡ Err misses.Absent
look-absent-more octet [] more fits is = absurd (cc)
look-absent-more octet (b ∷ w) more fits is = absurd (cc)
look-absent-more (octets n) w more fits is = absurd (octets-there n w is)
look-absent-more number w more fits is = number-absent-more w more (read_of w) refl is
look-absent-more (head kind) w more fits is = head-absent-more (λ i. i) kind w more fits is
look-absent-more unsigned_or_text w more fits is = lead-absent-more w more fits is

-- ---- what follows for each kind

pub look-absent : (k : Kind) (w : List ℕ) → look k w ≡ Err misses.Absent → IsAbsent k w
look-absent k w is = record {
  goes_on = λ ends. let no = sym (look-short k w ends) ∙ is in cc;
  no_front = λ u v x parts spells.
      let there = ap (look k) parts ∙ look-only k u v x spells in
      let no = sym is ∙ there in cc;
}

absent-look : (k : Kind) (w : List ℕ) (r : Result (ValueOf k × ℕ) Miss) → IsOctets w → IsAbsent k w → look k w ≡ r → r ≡ Err misses.Absent
absent-look k w (Ok x) fits absent is =
    let there = look-found k w x.0 x.1 fits is in
    absurd (absent.no_front (take x.1 w) (drop x.1 w) x.0 (sym (take-append-drop x.1 w)) there.1)
absent-look k w (Err misses.Truncated) fits absent is = absurd (absent.goes_on (look-ends k w fits is))
absent-look k w (Err misses.Absent) fits absent is = refl

pub look-is_absent : (k : Kind) (w : List ℕ) → IsOctets w → IsAbsent k w → look k w ≡ Err misses.Absent
look-is_absent k w fits absent = absent-look k w (look k w) fits absent refl

-- a value stays, whatever follows
pub look-found-more : (k : Kind) (w more : List ℕ) (x : ValueOf k) (n : ℕ) → IsOctets w → look k w ≡ found x n → look k (w ++ more) ≡ found x n
look-found-more k w more x n fits is =
    let there = look-found k w x n fits is in
    let parts : w ++ more ≡ take n w ++ (drop n w ++ more) =
    ap (λ t. t ++ more) (sym (take-append-drop n w)) ∙ append_assoc (take n w) (drop n w) more in
    ap (look k) parts ∙ look-only k (take n w) (drop n w ++ more) x there.1
    ∙ ap (λ m. found x m) (length-take-le n w there.0)

-- the octets of a head that is found at a place are there
pub head-within : (text rest : List ℕ) (at kind n k : ℕ) → IsOctets text → rest ≡ drop at text → found n k ≡ head_at kind rest → k ≤ length rest
head-within text rest at kind n k fits is there =
    (head_at-found kind rest n k (subst IsOctets (sym is) (octets-drop at text fits)) (sym there)).0

-- a number of one octet
pub number-one : (text : List ℕ) (at : ℕ) → at < length text → get_or text at 0 < 128
    → Ok (get_or text at 0, 1) ≡ read_of (drop at text)
number-one text at there low =
    let here : drop at text ≡ get_or text at 0 ∷ drop (at + 1) text = drop_more text at 0 there in
    rw here (sym (read_of-one (get_or text at 0) (drop (at + 1) text) low))
