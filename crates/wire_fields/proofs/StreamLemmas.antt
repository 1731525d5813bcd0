-- Reading a stream: octets that are open, whole values at their front, and pieces of which a part is taken.

use Rattle.std.proofs.Common.{◌≡◌, ℕ, zero, suc, ◌∷◌, ◌+◌, ◌-◌, ◌<◌, ◌≤◌, ltb, min, Bool, false, List, [], ◌++◌, length, take, drop, Some, None, IsOk, refl, sym, ap, ◌∙◌, subst, inl, inr, lit<, arith, append_assoc, append-nil, length-append, take-append-drop}
use Rattle.std.proofs.lemmas.Bool.{cases_lt, ltb-true, ltb-false}
use Rattle.std.proofs.lemmas.List.{take-append-le, length-take-le, take_all}
use Rattle.wire_fields.specs.Format.{Spells}
use Rattle.wire_fields.specs.Refusal.{Stop, truncated, Begins}
use Rattle.wire_fields.specs.Reading.{read, IsOctets}
use Rattle.wire_fields.specs.Streaming.{Streamed, Stream, wants_memory, IsOpen, Takes, TakesSize, near, Refuses, HasNear, BeginsOpen, Feeds}
use Rattle.wire_fields.specs.Holding.{IsRefused, IsWhole, text_of, HasEnded}
use Rattle.wire_fields.proofs.ResultLemmas.{found, found_is, stopped}
use Rattle.wire_fields.proofs.StayLemmas.{begins-read, read-begins, read-within}
use Rattle.wire_fields.proofs.ContinueLemmas.{found-longer}

-- ---- lists

pub octets-nothing : IsOctets []
octets-nothing i = lit< tt

pub take-front : (xs ys : List ℕ) → take (length xs) (xs ++ ys) ≡ xs
take-front xs ys = take-append-le (length xs) xs ys (omega arith) ∙ take_all (length xs) xs (omega arith)

pub take-past : (n : ℕ) (xs ys : List ℕ) → length xs ≤ n → take n (xs ++ ys) ≡ xs ++ take (n - length xs) ys
take-past n [] ys h = let none : n ≡ n - 0 = omega arith in ap (λ m. take m ys) none
take-past zero (x ∷ xs) ys h = absurd (omega (arith, h))
take-past (suc n) (x ∷ xs) ys h =
    let rest = take-past n xs ys (omega (arith, h)) in
    let left : n - length xs ≡ suc n - length (x ∷ xs) = omega arith in
    ap (λ t. x ∷ t) rest ∙ ap (λ m. x ∷ (xs ++ take m ys)) left

abbrev pub stream : ℕ → List ℕ → Stream
stream before kept = record { before = before; kept = kept }

-- ---- a piece, of which a part may be taken

-- no more than there are
pub near-min : (k n : ℕ) (piece : List ℕ) → k ≡ min (length piece) n → take k piece ≡ take n piece
near-min k n piece is =
    elim (cases_lt (length piece) n) [
      | inl all ↦ take_all k piece (omega (arith, is, all)) ∙ sym (take_all n piece (omega (arith, all)))
      | inr some ↦ ap (λ m. take m piece) (omega (arith, is, some))
    ]

pub record PartOf (n : ℕ) (piece part : List ℕ) : Type 0 where
  pub shorter : length part ≤ length piece
  pub within : length part ≤ n
  pub cut : length part < length piece → length part ≡ n
  pub whole : length piece ≤ length part → part ≡ piece

pub part-of : (n : ℕ) (piece part : List ℕ) → part ≡ take n piece → PartOf n piece part
part-of n piece part is =
    elim (cases_lt (length piece) n) [
      | inl all ↦
          let same : part ≡ piece = is ∙ take_all n piece (omega (arith, all)) in
          let long : length part ≡ length piece = ap length same in
          record {
            shorter = omega (arith, long);
            within = omega (arith, long, all);
            cut = λ less. absurd (omega (arith, long, less));
            whole = λ _. same;
          }
      | inr some ↦
          let long : length part ≡ n = ap length is ∙ length-take-le n piece some in
          record {
            shorter = omega (arith, long, some);
            within = omega (arith, long);
            cut = λ _. long;
            whole = λ all. is ∙ take_all n piece (omega (arith, long, all));
          }
    ]

-- ---- values

module _ {C A : Type 0} (s : Streamed C A) where
  -- what the octets read as, with none after them
  pub whole-reads : (text : List ℕ) (a : A) (k : ℕ) → IsWhole s text a k → read s.format text 0 ≡ found a k
  whole-reads text a k whole = ap (λ t. read s.format t 0) (sym (append-nil text)) ∙ whole.reads []

  pub begins-whole : (text : List ℕ) (a : A) (k : ℕ) → IsOctets text → Begins s.format text k a → s.legal a → IsWhole s text a k
  begins-whole text a k fits begins legal = record {
    within = begins.within;
    octets = fits;
    reads = found-longer s.format text 0 k a fits (omega arith) (begins-read s.format text k a begins);
    legal = legal;
  }

  -- a value that was open ends in the piece
  pub after-open : (kept piece : List ℕ) (a : A) (k : ℕ) → IsOpen s kept → IsWhole s (kept ++ piece) a k → length kept ≤ k
  after-open kept piece a k (at, is) whole =
      elim (cases_lt k (length kept)) [
        | inr ends ↦ ends
        | inl early ↦
            let ended = read-within s.format kept piece a k whole.octets (omega (arith, early)) (whole-reads (kept ++ piece) a k whole) in
            let no : found a k ≡ stopped at truncated = sym ended ∙ is in absurd (cc)
      ]

  -- and ends in octets that it has
  pub some-part : (kept piece : List ℕ) (a : A) (k : ℕ) → IsOpen s kept → IsWhole s (kept ++ piece) a k → 0 < length piece
  some-part kept [] a k (at, is) whole =
      let reads : read s.format kept 0 ≡ found a k =
      ap (λ t. read s.format t 0) (sym (append-nil kept)) ∙ whole-reads (kept ++ []) a k whole in
      let no : found a k ≡ stopped at truncated = sym reads ∙ is in absurd (cc)
  some-part kept (x ∷ piece) a k begun whole = omega arith

pub text-more : (xs ys : List ℕ) → (xs ≡ [] → ⊥) → text_of (xs ++ ys) ys ≡ xs ++ ys
text-more [] ys some = absurd (some refl)
text-more (x ∷ xs) ys some = refl

module _ {C A : Type 0} (s : Streamed C A) (longest : ℕ) (old : Stream) (piece part : List ℕ) (cut : Bool)
    (small : length old.kept ≤ longest) (is : part ≡ near longest old piece) (cuts : cut ≡ ltb (length part) (length piece)) where
  pub sizes : PartOf (longest - length old.kept) piece part
  sizes = part-of (longest - length old.kept) piece part is

  rest : List ℕ
  rest = drop (longest - length old.kept) piece

  whole-part : part ++ rest ≡ piece
  unfolding rest
  whole-part = ap (λ t. t ++ rest) is ∙ take-append-drop (longest - length old.kept) piece

  joined : (old.kept ++ part) ++ rest ≡ old.kept ++ piece
  joined = append_assoc old.kept part rest ∙ ap (λ t. old.kept ++ t) whole-part

  -- the value ends in the part
  pub takes-whole : (a : A) (k : ℕ) (new : Stream) → IsWhole s (old.kept ++ part) a k → length old.kept ≤ k
      → new ≡ stream (old.before + k) [] → Takes s longest old piece (k - length old.kept) (Some a) new
  takes-whole a k new whole late stands =
      let long : length (old.kept ++ part) ≡ length old.kept + length part = length-append old.kept part in
      let ends : length old.kept + (k - length old.kept) ≡ k = omega (arith, late) in (
        omega (arith, whole.within, late, long, sizes.shorter),
        omega (arith, whole.within, ends, long, sizes.within, small),
        ap (λ t. read s.format t 0) (sym joined) ∙ whole.reads rest ∙ ap (found a) (sym ends),
        whole.legal,
        stands ∙ ap (λ n. stream (old.before + n) []) (sym ends),
      )

  -- its octets spell it
  spells-whole : (a : A) (k : ℕ) → IsWhole s (old.kept ++ part) a k → length old.kept ≤ k
      → Spells s.format [] (old.kept ++ take (k - length old.kept) piece) a
  spells-whole a k whole late =
      let long : length (old.kept ++ part) ≡ length old.kept + length part = length-append old.kept part in
      let begins = read-begins s.format (old.kept ++ part) k a whole.octets (whole-reads s (old.kept ++ part) a k whole) in
      let inside : take (k - length old.kept) piece ≡ take (k - length old.kept) part =
      ap (λ t. take (k - length old.kept) t) (sym whole-part)
      ∙ take-append-le (k - length old.kept) part rest (omega (arith, whole.within, late, long)) in
      subst (λ t. Spells s.format [] t a) (take-past k old.kept part late ∙ ap (λ t. old.kept ++ t) (sym inside)) begins.spells

  pub takes-size : (a : A) (k : ℕ) (new : Stream) → IsWhole s (old.kept ++ part) a k → length old.kept ≤ k
      → new ≡ stream (old.before + k) [] → TakesSize s longest old piece (k - length old.kept) (Some k) new
  takes-size a k new whole late stands = (
    omega (arith, late),
    (a, spells-whole a k whole late, takes-whole a k new whole late stands),
  )

  -- all of the part is all of the piece, where no more may be cut off
  pub all-of : cut ≡ false → part ≡ piece
  all-of last = sizes.whole (ltb-false (length part) (length piece) (sym cuts ∙ last))

  pub takes-open : (new : Stream) → cut ≡ false → IsOpen s (old.kept ++ part) → new ≡ stream old.before (old.kept ++ part)
      → Takes s longest old piece (length part) None new
  takes-open new last begun stands =
      let same = all-of last in (
        ap length same,
        omega (arith, ap length same, sizes.within, small),
        subst (λ t. IsOpen s (old.kept ++ t)) same begun,
        stands ∙ ap (λ t. stream old.before (old.kept ++ t)) same,
      )

  pub refuses-part : (at : ℕ) (cause : C) (p : ℕ) → IsRefused s (old.kept ++ part) cut p cause → at ≡ old.before + p
      → Refuses s longest old piece at cause
  refuses-part at cause p (inl reads) spot =
      inl (record { place = p; reads = ap (λ t. read s.format (old.kept ++ t) 0) (sym is) ∙ reads; spot = spot })
  refuses-part at cause p (inr spread) spot =
      let less : length part < length piece = ltb-true (length part) (length piece) (sym cuts ∙ spread.more) in
      inr (record {
        begun = subst (λ t. IsOpen s (old.kept ++ t)) is spread.begun;
        more = omega (arith, less, sizes.cut less, small);
        spot = omega (arith, spot, spread.spot);
        named = spread.named;
      })

  -- octets of the part are near ones of the piece
  pub has-near : 0 < length part → HasNear longest old piece
  has-near some = (omega (arith, some, sizes.shorter), omega (arith, some, sizes.within))

  -- memory ran out for a piece that is to be kept
  pub begins-open : (cut ≡ false) × IsOpen s part → BeginsOpen s longest piece
  begins-open (last, begun) =
      let same = all-of last in
      (omega (arith, ap length same, sizes.within), subst (IsOpen s) same begun)

-- what a pass over a part of a piece tells of the piece
module _ {C A : Type 0} (s : Streamed C A) (longest : ℕ) (old new : Stream) (piece part : List ℕ) (cut : Bool)
    (small : length old.kept ≤ longest) (is : part ≡ near longest old piece) (cuts : cut ≡ ltb (length part) (length piece)) where
  pub feeds-built : (k n : ℕ) (a : A) (text : List ℕ) (after : Stream) → HasEnded s old part k new
      → text ≡ text_of new.kept part → read s.format text 0 ≡ found a n
      → after ≡ stream (new.before + k) [] → Takes s longest old piece (k - length old.kept) (Some a) after
  feeds-built k n a text after ended same reads stands =
      let given = whole-reads s (old.kept ++ part) ended.value k ended.whole in
      let again : found a n ≡ found ended.value k = sym reads ∙ ap (λ t. read s.format t 0) (same ∙ ended.text) ∙ given in
      let value : ended.value ≡ a = sym (found_is {E = ℕ × Stop C} a ended.value n k again).0 in
      takes-whole s longest old piece part cut small is cuts a k after
      (subst (λ b. IsWhole s (old.kept ++ part) b k) value ended.whole) ended.late
      (stands ∙ ap (λ m. stream (m + k) []) ended.before)

  pub judges-whole : (k : ℕ) (after : Stream) → HasEnded s old part k new
      → after ≡ stream (new.before + k) [] → TakesSize s longest old piece (k - length old.kept) (Some k) after
  judges-whole k after ended stands =
      takes-size s longest old piece part cut small is cuts ended.value k after ended.whole ended.late
      (stands ∙ ap (λ m. stream (m + k) []) ended.before)

  -- a value that is whole wants memory to be built
  pub feeds-unbuilt : (k : ℕ) (after : Stream) → IsOpen s old.kept → HasEnded s old part k new → Feeds s longest old piece wants_memory after
  feeds-unbuilt k after begun ended =
      let some = some-part s old.kept part ended.value k begun ended.whole in
      let reads = whole-reads s (old.kept ++ part) ended.value k ended.whole in (
        has-near s longest old piece part cut small is cuts some,
        λ empty.
            let alone : read s.format part 0 ≡ found ended.value k = ap (λ xs. read s.format (xs ++ part) 0) (sym empty) ∙ reads in
            inr (subst (λ t. IsOk (read s.format t 0)) is (rw alone refl)),
      )
