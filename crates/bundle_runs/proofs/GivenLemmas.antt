-- What a reader gives of a piece, and what calls on the octets alone give.
use Rattle.std.proofs.Common.{false, ◌≡◌, ℕ, ◌+◌, ◌-◌, ◌≤◌, ◌<◌, List, [], ◌++◌, length, slice_index, Option, None, Some, Result, Ok, Err, refl, sym, ◌∙◌, ap, arith, inl, inr}
use Rattle.std.proofs.lemmas.List.{take_all}
use Rattle.wire_fields.specs.Refusal.{Stop, truncated, because}
use Rattle.wire_fields.specs.Reading.{read, IsOctets}
use Rattle.wire_fields.specs.Gives.{Judges}
use Rattle.bundle6.specs.declared.fault.Cause6.{Cause6}
use Rattle.bundle6.specs.declared.fault.Cause6.TheVariants as causes6
use Rattle.bundle6.specs.declared.bundle.Bundle6.{Bundle6}
use Rattle.bundle6.specs.Cause as cause6
use Rattle.bundle6.specs.Table as table6
use Rattle.bundle6.specs.Streaming as streaming6
use Rattle.bundle6.proofs.ReaderLemmas as lemmas6
use Rattle.bundle7.specs.declared.fault.Cause7.{Cause7}
use Rattle.bundle7.specs.declared.fault.Cause7.TheVariants as causes7
use Rattle.bundle7.specs.declared.bundle.Bundle7.{Bundle7}
use Rattle.bundle7.specs.Cause as cause7
use Rattle.bundle7.specs.Table as table7
use Rattle.bundle7.specs.Streaming as streaming7
use Rattle.bundle7.proofs.ReaderLemmas as lemmas7
use Rattle.bundle_runs.specs.declared.front.Bundle.{Bundle}
use Rattle.bundle_runs.specs.declared.front.Bundle.TheVariants as bundles
use Rattle.bundle_runs.specs.declared.front.Cause.TheVariants as causes
use Rattle.bundle_runs.specs.declared.unfinished.Unfinished.TheVariants.{Six, Seven}
use Rattle.bundle_runs.specs.declared.given.Given.TheVariants.{Whole, Part, Refused}
use Rattle.bundle_runs.specs.Front.{whole, cut_short, refused, front_of, front6, front7, front_read}
use Rattle.bundle_runs.specs.Given.{Finds, IsVersion, IsRead}
use Rattle.bundle_runs.specs.Legal.{IsLegal}
use Rattle.bundle_runs.specs.Taking.{mark_of, IsCut, HasBegunWith, Takes}

-- ---- one reader

module _ (longest : ℕ) (old : streaming6.Stream) (piece : List ℕ) (fits : length old.kept + length piece ≤ longest) (start : old.before ≡ 0) where
  near6 : streaming6.near longest old piece ≡ piece
  near6 = take_all (longest - length old.kept) piece (omega (arith, fits))

  pub refused6 : (at : ℕ) (cause : Cause6) → streaming6.Refuses longest old piece at cause
      → front6 (old.kept ++ piece) ≡ refused at (causes.Six cause)
  refused6 at cause (inl r) =
      let reads : read (table6.bundle 64) (old.kept ++ piece) 0 ≡ Err (r.place, because cause) =
      ap (λ (t : List ℕ). read (table6.bundle 64) (old.kept ++ t) 0) (sym near6) ∙ r.reads in
      let place : r.place ≡ at = omega (arith, r.spot, start) in
      ap (front_read bundles.Six causes.Six) reads ∙ ap (λ (p : ℕ). refused p (causes.Six cause)) place
  refused6 at cause (inr long) = absurd (omega (arith, long.more, fits))

module _ (longest : ℕ) (old : streaming7.Stream) (piece : List ℕ) (fits : length old.kept + length piece ≤ longest) (start : old.before ≡ 0) where
  near7 : streaming7.near longest old piece ≡ piece
  near7 = take_all (longest - length old.kept) piece (omega (arith, fits))

  pub refused7 : (at : ℕ) (cause : Cause7) → streaming7.Refuses longest old piece at cause
      → front7 (old.kept ++ piece) ≡ refused at (causes.Seven cause)
  refused7 at cause (inl r) =
      let reads : read (table7.bundle 64) (old.kept ++ piece) 0 ≡ Err (r.place, because cause) =
      ap (λ (t : List ℕ). read (table7.bundle 64) (old.kept ++ t) 0) (sym near7) ∙ r.reads in
      let place : r.place ≡ at = omega (arith, r.spot, start) in
      ap (front_read bundles.Seven causes.Seven) reads ∙ ap (λ (p : ℕ). refused p (causes.Seven cause)) place
  refused7 at cause (inr long) = absurd (omega (arith, long.more, fits))

pub whole6 : (text : List ℕ) (b : Bundle6) (k : ℕ) → read (table6.bundle 64) text 0 ≡ Ok (b, k) → front6 text ≡ whole (bundles.Six b) k
whole6 text b k reads = ap (front_read bundles.Six causes.Six) reads

pub whole7 : (text : List ℕ) (b : Bundle7) (k : ℕ) → read (table7.bundle 64) text 0 ≡ Ok (b, k) → front7 text ≡ whole (bundles.Seven b) k
whole7 text b k reads = ap (front_read bundles.Seven causes.Seven) reads

pub cut6 : (text : List ℕ) (at : ℕ) → read (table6.bundle 64) text 0 ≡ Err (at, truncated) → front6 text ≡ cut_short at
cut6 text at reads = ap (front_read bundles.Six causes.Six) reads

pub cut7 : (text : List ℕ) (at : ℕ) → read (table7.bundle 64) text 0 ≡ Err (at, truncated) → front7 text ≡ cut_short at
cut7 text at reads = ap (front_read bundles.Seven causes.Seven) reads

-- ---- version 6

module _ (longest : ℕ) (old new : streaming6.Reading) (piece : List ℕ) (start : old.stream.before ≡ 0) where
  pub judge-whole6 : (used count : ℕ) → streaming6.TakesSize longest old.stream piece used (Some count) new.stream
      → Takes IsVersion (Six old) piece (Six new) (Whole 6 used)
  judge-whole6 used count (is, (b, spells, (low, fits, reads, legal, stands))) = record {
    finds = (bundles.Six b, refl, whole6 (old.stream.kept ++ piece) b (length old.stream.kept + used) reads);
    goes_on = tt;
  }

  pub feed-whole6 : (used : ℕ) (b : Bundle6) → streaming6.Takes longest old.stream piece used (Some b) new.stream
      → Takes IsRead (Six old) piece (Six new) (Whole (bundles.Six b) used)
  feed-whole6 used b (low, fits, reads, legal, stands) = record {
    finds = (bundles.Six b, (refl, legal), whole6 (old.stream.kept ++ piece) b (length old.stream.kept + used) reads);
    goes_on = tt;
  }

  pub part6 : {A : Type 0} (IsWanted : Bundle → A → Type 0) (used : ℕ) → streaming6.Takes longest old.stream piece used None new.stream
      → (new.refused ≡ None) × (new.spent ≡ false) → Takes IsWanted (Six old) piece (Six new) Part
  part6 IsWanted used (low, fits, (at, reads), stands) (fresh, memory) = record {
    finds = (at, cut6 (old.stream.kept ++ piece) at reads);
    goes_on = (
      (fresh, memory, ap (λ (s : streaming6.Stream). s.before) stands ∙ start),
      refl,
      ap (λ (s : streaming6.Stream). s.kept) stands,
    );
  }

  pub refuses6 : {A : Type 0} (IsWanted : Bundle → A → Type 0) (at : ℕ) (cause : Cause6) → length old.stream.kept + length piece ≤ longest
      → streaming6.Refuses longest old.stream piece at cause → Takes IsWanted (Six old) piece (Six new) (Refused at (causes.Six cause))
  refuses6 IsWanted at cause fits found = record {
    finds = refused6 longest old.stream piece fits start at cause found;
    goes_on = tt;
  }

-- a reader that has taken these octets alone, which end inside a bundle
pub begun6 : (longest : ℕ) (new : streaming6.Reading) (octets : List ℕ) (used : ℕ) (size : Option ℕ)
    → streaming6.TakesSize longest (record { before = 0; kept = [] }) octets used size new.stream → (new.refused ≡ None) × (new.spent ≡ false)
    → IsOctets octets → 0 < length octets → slice_index octets 0 ≡ mark_of (Six new) → IsCut (front_of octets) → HasBegunWith octets (Six new)
unfolding front_of
begun6 longest new octets used (Some size) (is, (b, spells, (low, fits, reads, legal, stands))) remembers octets-fit some first cut =
    let here : front6 octets ≡ whole (bundles.Six b) (0 + used) = whole6 octets b (0 + used) reads in
    let so : IsCut (front6 octets) = rw first at cut in
    absurd (rw here at so)
begun6 longest new octets used None (low, fits, ends, stands) (fresh, memory) octets-fit some first cut =
    let kept : new.stream.kept ≡ octets = ap (λ (s : streaming6.Stream). s.kept) stands in (
      record {
        ready = (fresh, memory, ap (λ (s : streaming6.Stream). s.before) stands);
        octets = rw kept octets-fit;
        some = rw kept some;
        mark = rw kept first;
        cut = rw kept (rw first at cut);
      },
      kept,
    )

-- what the octets alone give
pub judged-whole6 : (r : Result (Bundle6 × ℕ) (ℕ × Stop Cause6)) (size : ℕ) → Judges cause6.stop_of (Ok size) r
    → Finds IsVersion (front_read bundles.Six causes.Six r) 0 (Whole 6 size)
judged-whole6 (Ok x) size is =
    let same : x.1 ≡ 0 + size = omega (arith, is) in
    (bundles.Six x.0, refl, ap (whole (bundles.Six x.0)) same)
judged-whole6 (Err s) size is = absurd is

pub decoded-whole6 : (octets : List ℕ) (b : Bundle6) (size : ℕ) → read (table6.bundle 64) octets 0 ≡ Ok (b, size) → IsLegal (bundles.Six b)
    → Finds IsRead (front6 octets) 0 (Whole (bundles.Six b) size)
decoded-whole6 octets b size reads legal =
    let same : size ≡ 0 + size = omega arith in
    (bundles.Six b, (refl, legal), whole6 octets b size reads ∙ ap (whole (bundles.Six b)) same)

pub is-part6 : (octets : List ℕ) (at : ℕ) (cause : Cause6) → read (table6.bundle 64) octets 0 ≡ Err (at, cause6.why cause)
    → cause ≡ causes6.Truncated → (place : ℕ) × (front6 octets ≡ cut_short place)
is-part6 octets at cause reads is = (at, cut6 octets at (reads ∙ ap (λ (c : Cause6). Err (at, cause6.why c)) is))

pub is-refused6 : (octets : List ℕ) (at : ℕ) (cause : Cause6) → read (table6.bundle 64) octets 0 ≡ Err (at, cause6.why cause)
    → (cause ≡ causes6.Truncated → ⊥) → front6 octets ≡ refused at (causes.Six cause)
is-refused6 octets at cause reads other =
    ap (front_read bundles.Six causes.Six) (reads ∙ ap (λ (s : Stop Cause6). Err (at, s)) (lemmas6.is-because cause other))

-- ---- version 7

module _ (longest : ℕ) (old new : streaming7.Reading) (piece : List ℕ) (start : old.stream.before ≡ 0) where
  pub judge-whole7 : (used count : ℕ) → streaming7.TakesSize longest old.stream piece used (Some count) new.stream
      → Takes IsVersion (Seven old) piece (Seven new) (Whole 7 used)
  judge-whole7 used count (is, (b, spells, (low, fits, reads, legal, stands))) = record {
    finds = (bundles.Seven b, refl, whole7 (old.stream.kept ++ piece) b (length old.stream.kept + used) reads);
    goes_on = tt;
  }

  pub feed-whole7 : (used : ℕ) (b : Bundle7) → streaming7.Takes longest old.stream piece used (Some b) new.stream
      → Takes IsRead (Seven old) piece (Seven new) (Whole (bundles.Seven b) used)
  feed-whole7 used b (low, fits, reads, legal, stands) = record {
    finds = (bundles.Seven b, (refl, legal), whole7 (old.stream.kept ++ piece) b (length old.stream.kept + used) reads);
    goes_on = tt;
  }

  pub part7 : {A : Type 0} (IsWanted : Bundle → A → Type 0) (used : ℕ) → streaming7.Takes longest old.stream piece used None new.stream
      → (new.refused ≡ None) × (new.spent ≡ false) → Takes IsWanted (Seven old) piece (Seven new) Part
  part7 IsWanted used (low, fits, (at, reads), stands) (fresh, memory) = record {
    finds = (at, cut7 (old.stream.kept ++ piece) at reads);
    goes_on = (
      (fresh, memory, ap (λ (s : streaming7.Stream). s.before) stands ∙ start),
      refl,
      ap (λ (s : streaming7.Stream). s.kept) stands,
    );
  }

  pub refuses7 : {A : Type 0} (IsWanted : Bundle → A → Type 0) (at : ℕ) (cause : Cause7) → length old.stream.kept + length piece ≤ longest
      → streaming7.Refuses longest old.stream piece at cause → Takes IsWanted (Seven old) piece (Seven new) (Refused at (causes.Seven cause))
  refuses7 IsWanted at cause fits found = record {
    finds = refused7 longest old.stream piece fits start at cause found;
    goes_on = tt;
  }

-- a reader that has taken these octets alone, which end inside a bundle
pub begun7 : (longest : ℕ) (new : streaming7.Reading) (octets : List ℕ) (used : ℕ) (size : Option ℕ)
    → streaming7.TakesSize longest (record { before = 0; kept = [] }) octets used size new.stream → (new.refused ≡ None) × (new.spent ≡ false)
    → IsOctets octets → 0 < length octets → slice_index octets 0 ≡ mark_of (Seven new) → IsCut (front_of octets) → HasBegunWith octets (Seven new)
unfolding front_of
begun7 longest new octets used (Some size) (is, (b, spells, (low, fits, reads, legal, stands))) remembers octets-fit some first cut =
    let here : front7 octets ≡ whole (bundles.Seven b) (0 + used) = whole7 octets b (0 + used) reads in
    let so : IsCut (front7 octets) = rw first at cut in
    absurd (rw here at so)
begun7 longest new octets used None (low, fits, ends, stands) (fresh, memory) octets-fit some first cut =
    let kept : new.stream.kept ≡ octets = ap (λ (s : streaming7.Stream). s.kept) stands in (
      record {
        ready = (fresh, memory, ap (λ (s : streaming7.Stream). s.before) stands);
        octets = rw kept octets-fit;
        some = rw kept some;
        mark = rw kept first;
        cut = rw kept (rw first at cut);
      },
      kept,
    )

-- what the octets alone give
pub judged-whole7 : (r : Result (Bundle7 × ℕ) (ℕ × Stop Cause7)) (size : ℕ) → Judges cause7.stop_of (Ok size) r
    → Finds IsVersion (front_read bundles.Seven causes.Seven r) 0 (Whole 7 size)
judged-whole7 (Ok x) size is =
    let same : x.1 ≡ 0 + size = omega (arith, is) in
    (bundles.Seven x.0, refl, ap (whole (bundles.Seven x.0)) same)
judged-whole7 (Err s) size is = absurd is

pub decoded-whole7 : (octets : List ℕ) (b : Bundle7) (size : ℕ) → read (table7.bundle 64) octets 0 ≡ Ok (b, size) → IsLegal (bundles.Seven b)
    → Finds IsRead (front7 octets) 0 (Whole (bundles.Seven b) size)
decoded-whole7 octets b size reads legal =
    let same : size ≡ 0 + size = omega arith in
    (bundles.Seven b, (refl, legal), whole7 octets b size reads ∙ ap (whole (bundles.Seven b)) same)

pub is-part7 : (octets : List ℕ) (at : ℕ) (cause : Cause7) → read (table7.bundle 64) octets 0 ≡ Err (at, cause7.why cause)
    → cause ≡ causes7.Truncated → (place : ℕ) × (front7 octets ≡ cut_short place)
is-part7 octets at cause reads is = (at, cut7 octets at (reads ∙ ap (λ (c : Cause7). Err (at, cause7.why c)) is))

pub is-refused7 : (octets : List ℕ) (at : ℕ) (cause : Cause7) → read (table7.bundle 64) octets 0 ≡ Err (at, cause7.why cause)
    → (cause ≡ causes7.Truncated → ⊥) → front7 octets ≡ refused at (causes.Seven cause)
is-refused7 octets at cause reads other =
    ap (front_read bundles.Seven causes.Seven) (reads ∙ ap (λ (s : Stop Cause7). Err (at, s)) (lemmas7.is-because cause other))
