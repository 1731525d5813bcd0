-- Texts that lie end to end.
use Rattle.std.proofs.Common.{◌≡◌, ℕ, Bool, true, false, IfSome, suc, ◌+◌, ◌<◌, ◌≤◌, List, [], ◌∷◌, ◌++◌, length, map, take, drop, sum_by, None, Some, refl, sym, ◌∙◌, ap, arith, length-drop}
use Rattle.std.proofs.lemmas.Bool.{lt-ltb, le-ltb, le-leb, lt-leb}
use Rattle.std.proofs.lemmas.List.{take-append-le, take-append-drop, drop-append-le, length-take-le}
use Rattle.std.proofs.lemmas.List.Sums.{sum_by-cons}
use Rattle.std.proofs.Math.Seq.{take-length}
use Rattle.edge_traits.specs.Content.{joined}
use Rattle.edge_traits.specs.Datagrams.{texts_of}
use Rattle.edge_traits.specs.InMemory.{gone_within, unless_lost}

-- one text more at the end
pub texts_of-more : (lengths octets text : List ℕ) → sum_by (λ n. n) lengths ≡ length octets
    → texts_of (lengths ++ length text ∷ []) (octets ++ text) ≡ texts_of lengths octets ++ text ∷ []
texts_of-more [] [] text fits = ap (λ v. v ∷ []) (take-length text)
texts_of-more [] (x ∷ octets) text fits = absurd (omega arith)
texts_of-more (n ∷ lengths) octets text fits =
    let total : n + sum_by (λ n. n) lengths ≡ length octets = sym (sum_by-cons (λ n. n) n lengths) ∙ fits in
    let within : n ≤ length octets = omega arith in
    let rest : sum_by (λ n. n) lengths ≡ length (drop n octets) = omega (arith, length-drop n octets) in
    rw (take-append-le, drop-append-le, texts_of-more lengths (drop n octets) text rest) refl

-- each length has its text
pub texts_of-length : (lengths octets : List ℕ) → length (texts_of lengths octets) ≡ length lengths
texts_of-length [] octets = refl
texts_of-length (n ∷ lengths) octets = ap suc (texts_of-length lengths (drop n octets))

-- the texts have all the octets
pub texts_of-total : (lengths octets : List ℕ) → sum_by (λ n. n) lengths ≡ length octets
    → sum_by length (texts_of lengths octets) ≡ length octets
texts_of-total [] octets fits = fits
texts_of-total (n ∷ lengths) octets fits =
    let total : n + sum_by (λ n. n) lengths ≡ length octets = sym (sum_by-cons (λ n. n) n lengths) ∙ fits in
    let within : n ≤ length octets = omega arith in
    let rest : sum_by (λ n. n) lengths ≡ length (drop n octets) = omega (arith, length-drop n octets) in
    let more = texts_of-total lengths (drop n octets) rest in
    rw (sum_by-cons length (take n octets) (texts_of lengths (drop n octets)), length-take-le n octets within, more)
    (omega (arith, length-drop n octets))

-- end to end they are the octets
pub texts_of-joined : (lengths octets : List ℕ) → sum_by (λ n. n) lengths ≡ length octets
    → octets ≡ joined (texts_of lengths octets)
texts_of-joined [] [] fits = refl
texts_of-joined [] (x ∷ octets) fits = absurd (omega arith)
texts_of-joined (n ∷ lengths) octets fits =
    let total : n + sum_by (λ n. n) lengths ≡ length octets = sym (sum_by-cons (λ n. n) n lengths) ∙ fits in
    let rest : sum_by (λ n. n) lengths ≡ length (drop n octets) = omega (arith, length-drop n octets) in
    sym (take-append-drop n octets) ∙ ap (λ later. take n octets ++ later) (texts_of-joined lengths (drop n octets) rest)

-- each has its length
pub texts_of-lengths : (lengths octets : List ℕ) → sum_by (λ n. n) lengths ≡ length octets
    → lengths ≡ map length (texts_of lengths octets)
texts_of-lengths [] octets fits = refl
texts_of-lengths (n ∷ lengths) octets fits =
    let total : n + sum_by (λ n. n) lengths ≡ length octets = sym (sum_by-cons (λ n. n) n lengths) ∙ fits in
    let within : n ≤ length octets = omega arith in
    let rest : sum_by (λ n. n) lengths ≡ length (drop n octets) = omega (arith, length-drop n octets) in
    rw (length-take-le n octets within, ← texts_of-lengths lengths (drop n octets) rest) refl

-- no datagram more is kept where so many were as there is room for
pub gone-full : (room : ℕ) (lengths octets text : List ℕ) → room ≤ length lengths
    → gone_within room (Some (texts_of lengths octets)) text ≡ None
gone-full room lengths octets text full =
    rw (texts_of-length lengths octets, le-ltb (length lengths) room full) refl

-- nor one whose octets go past the room
pub gone-wide : (room : ℕ) (lengths octets text : List ℕ) → sum_by (λ n. n) lengths ≡ length octets
    → length lengths < room → room < length octets + length text
    → gone_within room (Some (texts_of lengths octets)) text ≡ None
gone-wide room lengths octets text fits few wide =
    rw (
      texts_of-length lengths octets,
      texts_of-total lengths octets fits,
      lt-ltb (length lengths) room few,
      lt-leb (length octets + length text) room wide,
    ) refl

-- else it is kept behind them
pub gone-more : (room : ℕ) (lengths octets text : List ℕ) → sum_by (λ n. n) lengths ≡ length octets
    → length lengths < room → length octets + length text ≤ room
    → gone_within room (Some (texts_of lengths octets)) text ≡ Some (texts_of (lengths ++ length text ∷ []) (octets ++ text))
gone-more room lengths octets text fits few within =
    rw (
      texts_of-more lengths octets text fits,
      texts_of-length lengths octets,
      texts_of-total lengths octets fits,
      lt-ltb (length lengths) room few,
      le-leb (length octets + length text) room within,
    ) refl

-- ---- what is told of those kept

pub told-octets : (lost : Bool) (lengths octets : List ℕ) → sum_by (λ n. n) lengths ≡ length octets
    → IfSome (unless_lost lost (texts_of lengths octets)) (λ gone. octets ≡ joined gone)
told-octets true lengths octets fits = tt
told-octets false lengths octets fits = texts_of-joined lengths octets fits

pub told-lengths : (lost : Bool) (lengths octets : List ℕ) → sum_by (λ n. n) lengths ≡ length octets
    → IfSome (unless_lost lost (texts_of lengths octets)) (λ gone. lengths ≡ map length gone)
told-lengths true lengths octets fits = tt
told-lengths false lengths octets fits = texts_of-lengths lengths octets fits
