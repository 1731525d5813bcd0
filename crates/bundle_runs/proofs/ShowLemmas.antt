-- Where the reading of `show` stands.
use Rattle.std.proofs.Common.{false, true, ◌≡◌, ℕ, ◌<◌, ◌≤◌, Bool, eqb, List, [], ◌∷◌, ◌++◌, length, codes, slice_index, None, Some, Result, Ok, Err, if◌then◌else◌, refl, sym, ◌∙◌, ap, arith, append_assoc}
use Rattle.std.proofs.lemmas.List.{append-nil, take_all}
use Rattle.command_frame.specs.Task.{over}
use Rattle.wire_fields.specs.Format.{Format}
use Rattle.wire_fields.specs.Refusal.{Stop, truncated, because}
use Rattle.wire_fields.specs.Reading.{read, IsOctets}
use Rattle.wire_fields.proofs.StayLemmas.{read-within, read-begins}
use Rattle.bundle6.specs.declared.bundle.Bundle6.{Bundle6}
use Rattle.bundle6.specs.Legal.{Spells6}
use Rattle.bundle6.specs.Table as table6
use Rattle.bundle6.proofs.LegalLemmas.{spelled-legal}
use Rattle.bundle7.specs.declared.bundle.Bundle7.{Bundle7}
use Rattle.bundle7.specs.Table as table7
use Rattle.bundle_json.specs.declared.telling6.Telling6.{Telling6}
use Rattle.bundle_json.specs.Telling.{Left, Tells, steps_left}
use Rattle.bundle_runs.specs.declared.front.Bundle.{Bundle}
use Rattle.bundle_runs.specs.declared.front.Bundle.TheVariants as bundles
use Rattle.bundle_runs.specs.declared.front.Cause.{Cause}
use Rattle.bundle_runs.specs.declared.front.Cause.TheVariants as causes
use Rattle.bundle_runs.specs.Front.{whole, refused, front_of, front_by, front6, front7, front_read, version_of}
use Rattle.bundle_runs.specs.WrittenLines.{show_line}
use Rattle.bundle_runs.specs.Showing.{OwesLine, BeginsLine}
use Rattle.bundle_runs.proofs.FrontsLemmas.{front-within}
use Rattle.serde_json.specs.Written.{compact_text}
use Rattle.bundle_json.specs.Json.{bundle6}

-- ---- what stands at the front of a bundle's own octets

whole-size : (a b : Bundle) (n k : ℕ) → whole a n ≡ whole b k → n ≡ k
whole-size a b n k is = cc

module _ {A C : Type 0} (f : Format C A) (bundle : A → Bundle) (cause : C → Cause) (text more : List ℕ) (fits : IsOctets (text ++ more)) (b : Bundle) (k : ℕ)
    (low : k ≤ length text) where
  read-own : (r : Result (A × ℕ) (ℕ × Stop C)) → read f (text ++ more) 0 ≡ r → front_read bundle cause r ≡ whole b k
      → front_read bundle cause (read f text 0) ≡ whole b k
  read-own (Ok x) reads is =
      let same : x.1 ≡ k = whole-size (bundle x.0) b x.1 k is in
      let here : read f text 0 ≡ Ok (x.0, x.1) = read-within f text more x.0 x.1 fits (omega (arith, same, low)) reads in
      ap (front_read bundle cause) here ∙ is
  read-own (Err (at, truncated)) reads is = absurd (cc)
  read-own (Err (at, because c)) reads is = absurd (cc)

by-own : (first : ℕ) (text more : List ℕ) (b : Bundle) (k : ℕ) → IsOctets (text ++ more) → k ≤ length text → front_by first (text ++ more) ≡ whole b k
    → front_by first text ≡ whole b k
by-own first text more b k fits low is = by_six (eqb first 0x06) refl
  where
    by_seven : (t : Bool) → eqb first 0x9F ≡ t → (if t then front7 (text ++ more) else refused 0 causes.Version) ≡ whole b k
        → (if t then front7 text else refused 0 causes.Version) ≡ whole b k
    by_seven true seven is = read-own (table7.bundle 64) bundles.Seven causes.Seven text more fits b k low (read (table7.bundle 64) (text ++ more) 0) refl is
    by_seven false seven is = absurd (cc)

    by_six : (t : Bool) → eqb first 0x06 ≡ t → front_by first text ≡ whole b k
    by_six true six =
        let here : front6 (text ++ more) ≡ whole b k = rw six at is in
        rw six (read-own (table6.bundle 64) bundles.Six causes.Six text more fits b k low (read (table6.bundle 64) (text ++ more) 0) refl here)
    by_six false six = rw six (by_seven (eqb first 0x9F) refl (rw six at is))

pub front-own : (text more : List ℕ) (b : Bundle) (k : ℕ) → IsOctets (text ++ more) → 0 < length text → k ≤ length text → front_of (text ++ more) ≡ whole b k
    → front_of text ≡ whole b k
unfolding front_of
front-own [] more b k fits some low is = absurd (omega (arith, some))
front-own (octet ∷ text) more b k fits some low is = by-own octet (octet ∷ text) more b k fits low is

-- ---- a bundle of version 6 is spelled by its octets

spells-read : (octets : List ℕ) (x : Bundle6) → IsOctets octets → read (table6.bundle 64) octets 0 ≡ Ok (x, length octets) → Spells6 x octets
spells-read octets x fits reads =
    let begins = read-begins (table6.bundle 64) octets (length octets) x fits reads in
    let spells = rw (take_all (length octets) octets (omega arith)) at begins.spells in
    record { legal = spelled-legal octets x fits spells; spelled = spells }

six-reads : (octets : List ℕ) (b : Bundle) (r : Result (Bundle6 × ℕ) (ℕ × Stop _)) (k : ℕ) → read (table6.bundle 64) octets 0 ≡ r
    → front_read bundles.Six causes.Six r ≡ whole b k → (x : Bundle6) × (b ≡ bundles.Six x) × (read (table6.bundle 64) octets 0 ≡ Ok (x, k))
six-reads octets b (Ok x) k reads is =
    let same : bundles.Six x.0 ≡ b = cc in
    let size : x.1 ≡ k = whole-size (bundles.Six x.0) b x.1 k is in
    (x.0, sym same, reads ∙ ap (λ (n : ℕ). Ok (x.0, n)) size)
six-reads octets b (Err (at, truncated)) k reads is = absurd (cc)
six-reads octets b (Err (at, because c)) k reads is = absurd (cc)

not-seven : (b : Bundle) (r : Result (Bundle7 × ℕ) (ℕ × Stop _)) (k : ℕ) → version_of b ≡ 6 → front_read bundles.Seven causes.Seven r ≡ whole b k → ⊥
not-seven (bundles.Six x) (Ok y) k six is = cc
not-seven (bundles.Seven x) (Ok y) k six is = absurd (cc)
not-seven b (Err (at, truncated)) k six is = cc
not-seven b (Err (at, because c)) k six is = cc

pub six-spelled : (octets : List ℕ) (b : Bundle) → IsOctets octets → 6 ≡ version_of b → front_of octets ≡ whole b (length octets)
    → (x : Bundle6) × (b ≡ bundles.Six x) × Spells6 x octets
unfolding front_of
six-spelled octets b fits six is = by_six (eqb (slice_index octets 0) 0x06) is
  where
    by_seven : (t : Bool) → (if t then front7 octets else refused 0 causes.Version) ≡ whole b (length octets) → ⊥
    by_seven true is = not-seven b (read (table7.bundle 64) octets 0) (length octets) (sym six) is
    by_seven false is = cc

    by_six : (t : Bool) → (if t then front6 octets else if eqb (slice_index octets 0) 0x9F then front7 octets else refused 0 causes.Version) ≡ whole b (length octets)
        → (x : Bundle6) × (b ≡ bundles.Six x) × Spells6 x octets
    by_six true is =
        let (x, same, reads) = six-reads octets b (read (table6.bundle 64) octets 0) (length octets) refl is in
        (x, same, spells-read octets x fits reads)
    by_six false is = absurd (by_seven (eqb (slice_index octets 0) 0x9F) is)

-- a bundle has an octet
pub bundle-some : (octets : List ℕ) (b : Bundle) → IsOctets octets → front_of octets ≡ whole b (length octets) → 0 < length octets
bundle-some octets b fits is =
    let there = rw is at (front-within octets fits) in
    there.0

-- ---- the line of a bundle

-- the telling of a bundle of version 6 owes its line
pub line-owed : (octets lent : List ℕ) (b : Bundle) (telling : Telling6) → lent ≡ octets → IsOctets octets → 6 ≡ version_of b
    → front_of octets ≡ whole b (length octets) → ((x : Bundle6) → Spells6 x lent → Left lent telling (compact_text (bundle6 x)))
    → 0 < steps_left lent telling → OwesLine octets telling (show_line b)
line-owed octets lent b telling lends fits six is left some =
    let (x, same, spells) = six-spelled octets b fits six is in
    record {
      bundle = x;
      spells = spells;
      rest = compact_text (bundle6 x);
      left = rw lends at (left x (rw lends spells));
      some = rw lends at some;
      is = ap show_line same;
    }

-- a part of it was told
module _ (octets lent : List ℕ) (lends : lent ≡ octets) (old new : Telling6) (due before now : List ℕ) (owes : OwesLine octets old due)
    (tells : (rest : List ℕ) → Left lent old rest → Tells lent old new before now rest) where
  told : Tells octets old new before now owes.rest
  told = rw lends at (tells owes.rest (rw lends owes.left))

  pub told-less : steps_left octets new < steps_left octets old
  told-less = told.less

  pub told-more : 0 < steps_left octets new → BeginsLine due before (Some new) octets now
  told-more some = record {
    text = told.part;
    due = told.later ++ codes "\n";
    added = told.added;
    parts = owes.is ∙ ap (λ (v : List ℕ). v ++ codes "\n") told.parts ∙ append_assoc told.part told.later (codes "\n");
    owes = record {
      bundle = owes.bundle;
      spells = owes.spells;
      rest = told.later;
      left = told.left;
      some = some;
      is = refl;
    };
    none_begun = refl;
  }

  pub told-over : ((text rest : List ℕ) → Left text new rest → rest ≡ []) → (after cleared : List ℕ) → after ≡ now ++ codes "\n" → cleared ≡ []
      → BeginsLine due before None cleared after
  told-over over after cleared ends nothing =
      let none : told.later ≡ [] = over octets told.later told.left in
      record {
        text = told.part ++ codes "\n";
        due = [];
        added = ends ∙ ap (λ (v : List ℕ). v ++ codes "\n") told.added ∙ append_assoc before told.part (codes "\n");
        parts =
            owes.is ∙ ap (λ (v : List ℕ). v ++ codes "\n") (told.parts ∙ ap (λ (v : List ℕ). told.part ++ v) none ∙ append-nil told.part)
            ∙ sym (append-nil (told.part ++ codes "\n"));
        owes = refl;
        none_begun = nothing;
      }
