-- What a record has its pieces have, and their blocks are no more than the record's.

use Rattle.std.proofs.Common.{◌≡◌, ℕ, zero, suc, ◌+◌, ◌-◌, ◌==◌, ◌≤◌, Bool, true, false, not, ◌&&◌, ◌||◌, cond, nat_le, if◌then◌else◌, List, [], ◌∷◌, length, drop, All, refl, arith, eqb-true, le-leb}
use Rattle.std.specs.List.{filter}
use Rattle.std.proofs.Math.ListN.{drop_of_length-le}
use Rattle.std.proofs.lemmas.Bool.{leb-true}
use Rattle.std.proofs.lemmas.List.Elements.{All-nil, All-cons, All-head, All-tail}
use Rattle.std.proofs.lemmas.List.Sums.{length-filter, count_by-le-length}
use Rattle.bundle_meaning.specs.declared.blocks.Block7Like.{Block7Like}
use Rattle.bundle_meaning.specs.declared.blocks.Ext.{Ext}
use Rattle.bundle_meaning.specs.declared.blocks.Ext.TheVariants.{Six, Seven}
use Rattle.bundle_meaning.specs.declared.full.Full.{Full}
use Rattle.bundle_meaning.specs.Blocks.{sevens}
use Rattle.bundle_meaning.specs.Valid.{IsValid}
use Rattle.fragments.specs.Cutting.{octets_of, is_longer, is_replicated, exts_in, after_in, how_many, piece, pieces_from, pieces}

-- ---- the blocks of a piece

all-kept : (P : Block7Like → Type 0) (p : Ext → Bool) (exts : List Ext) → All P (sevens exts) → All P (sevens (filter p exts))
all-kept P p [] all = all
all-kept P p (Six block ∷ exts) all = by (p (Six block)) (all-kept P p exts all)
  where
    by : (t : Bool) → All P (sevens (filter p exts)) → All P (sevens (cond t (Six block ∷ filter p exts) (filter p exts)))
    by true rest = rest
    by false rest = rest
all-kept P p (Seven block ∷ exts) all = by (p (Seven block)) (all-kept P p exts (All-tail P block (sevens exts) all))
  where
    by : (t : Bool) → All P (sevens (filter p exts)) → All P (sevens (cond t (Seven block ∷ filter p exts) (filter p exts)))
    by true rest = All-cons P block (sevens (filter p exts)) (All-head P block (sevens exts) all) rest
    by false rest = rest

pub all-in : (P : Block7Like → Type 0) (i : ℕ) (exts : List Ext) → All P (sevens exts) → All P (sevens (exts_in i exts))
all-in P zero exts all = all
all-in P (suc i) exts all = all-kept P is_replicated exts all

pub few-in : (i : ℕ) (exts : List Ext) → length (exts_in i exts) ≤ length exts
few-in zero exts = omega arith
few-in (suc i) exts = omega (arith, length-filter is_replicated exts, count_by-le-length is_replicated exts)

-- where the last block is the payload, it is so in each piece
pub last-in : (i after : ℕ) (exts : List Ext) → (after == 0) ≡ true → (after_in i after exts == 0) ≡ true
last-in zero after exts last = last
last-in (suc i) after exts last =
    let none : drop (length exts - after) exts ≡ [] = drop_of_length-le exts (omega (arith, eqb-true after 0 last)) in
    rw none refl

-- ---- whether a piece needs a residue beside its blocks

-- a report is never cut, so of a piece this asks the first two tests alone
pub need6 : (one two three : Bool) → ((one || two) || false) ≡ true → ((one || two) || three) ≡ true
need6 true two three is = refl
need6 false true three is = refl
need6 false false three is = absurd (cc)

pub default : (a b c d e : Bool) → (d ≡ true → e ≡ true) → (a && b && c && d) ≡ true → (a && b && c && e) ≡ true
default true true true d e stays is = stays is
default false b c d e stays is = absurd (cc)
default true false c d e stays is = absurd (cc)
default true true false d e stays is = absurd (cc)

pub need7 : (one other rest : Bool) → (other ≡ true → one ≡ true) → (not one || false) ≡ true → (not other || rest) ≡ true
need7 one false rest stays is = refl
need7 true true rest stays is = absurd (cc)
need7 false true rest stays is = let no = stays refl in absurd (cc)

-- fewer blocks have room where more have
pub room : (one other : Bool) (few more : ℕ) → (one ≡ true → other ≡ true) → few ≤ more
    → nat_le ((if other then 1 else 0) + more) 64 ≡ true → nat_le ((if one then 1 else 0) + few) 64 ≡ true
room one other few more only less fits = le-leb _ 64 (by one other only (leb-true _ 64 fits))
  where
    by : (one other : Bool) → (one ≡ true → other ≡ true) → (if other then 1 else 0) + more ≤ 64 → (if one then 1 else 0) + few ≤ 64
    by true true only most = omega (arith, less, most)
    by true false only most = let no = only refl in absurd (cc)
    by false true only most = omega (arith, less, most)
    by false false only most = omega (arith, less, most)

-- ---- pieces

each-piece : (P : Full → Type 0) (full : Full) (size i n : ℕ) → ((j : ℕ) → IsValid (piece full size j) → P (piece full size j))
    → All IsValid (pieces_from full size i n) → All P (pieces_from full size i n)
unfolding pieces_from
each-piece P full size i zero each valid = All-nil P
each-piece P full size i (suc n) each valid =
    let first = each i (All-head IsValid (piece full size i) (pieces_from full size (i + 1) n) valid) in
    let others = each-piece P full size (i + 1) n each (All-tail IsValid (piece full size i) (pieces_from full size (i + 1) n) valid) in
    All-cons P (piece full size i) (pieces_from full size (i + 1) n) first others

pub all-pieces : (P : Full → Type 0) (full : Full) (size : ℕ) → P full
    → ((j : ℕ) → IsValid (piece full size j) → P (piece full size j)) → All IsValid (pieces full size) → All P (pieces full size)
all-pieces P full size own each = by (is_longer full size)
  where
    count : ℕ
    count = how_many size (octets_of full.shared.content)

    by : (t : Bool) → All IsValid (if t then pieces_from full size 0 count else full ∷ [])
        → All P (if t then pieces_from full size 0 count else full ∷ [])
    by true valid = each-piece P full size 0 count each valid
    by false valid = All-cons P full [] own (All-nil P)
