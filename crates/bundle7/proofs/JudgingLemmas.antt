-- Judging: the loop over blocks, whose values code doesn't keep, and the whole bundle.
use Rattle.std.proofs.Common.{◌≡◌, ℕ, ◌+◌, ◌-◌, ◌<◌, ◌≤◌, ◌==◌, true, false, List, [], ◌∷◌, ◌++◌, length, length-append, Option, Some, None, Result, Ok, Err, IfOk, IfErr, IsErrAnd, take, refl, sym, ap, ◌∙◌, IsOk}
use Rattle.endpoint.specs.declared.extent.Fragment.{Fragment}
use Rattle.wire_fields.specs.Format.{Spells}
use Rattle.wire_fields.specs.Refusal.{Stop, Begins}
use Rattle.wire_fields.specs.Reading.{read}
use Rattle.wire_fields.specs.Gives.{Judges}
use Rattle.wire_fields.proofs.StayLemmas.{begins-read}
use Rattle.bundle7.specs.declared.fault.Cause7.{Cause7}
use Rattle.bundle7.specs.declared.fault.Refused7.{Refused7}
use Rattle.bundle7.specs.declared.block.Block7.{Block7}
use Rattle.bundle7.specs.declared.bundle.Bundle7.{Bundle7}
use Rattle.bundle7.specs.declared.seen.Seen.{Seen}
use Rattle.bundle7.specs.declared.fault.Fail7.{Fail7}
use Rattle.bundle7.specs.declared.fault.Fail7.TheVariants.{Memory}
use Rattle.bundle7.specs.Cause.{stop_of, refusal}
use Rattle.bundle7.specs.Table.{seen_of, block, blocks, bundle}
use Rattle.bundle7.specs.Seen.{seen_with, SoFar}
use Rattle.bundle7.proofs.BlocksLemmas.{blocks-step, blocks-last, blocks-fails, blocks-end, blocks-none}

-- ---- what is kept of the blocks

pub seen-more : (earlier : List Block7) (b : Block7) → seen_with (seen_of earlier) b.kind b.number ≡ seen_of (earlier ++ b ∷ [])
seen-more [] b = refl
seen-more (a ∷ earlier) b = ap (λ (s : Seen). record { kinds = a.kind ∷ s.kinds; numbers = a.number ∷ s.numbers }) (seen-more earlier b)

-- ---- the loop over blocks

module _ (part : Option Fragment) (text : List ℕ) (n at : ℕ) where
  module _ (i : ℕ) (seen : Seen) (next : ℕ) (so_far : SoFar part text n at i seen next) where
    shown : (left : ℕ) → read (block part left (seen_of so_far.earlier)) text next ≡ read (block part left seen) text next
    shown left = ap (λ (s : Seen). read (block part left s) text next) (sym so_far.shows)

    -- one block more, which isn't the payload
    pub so_far-step : (b : Block7) (to : ℕ) → i < n → read (block part (n - i) seen) text next ≡ Ok (b, to) → (b.kind == 1) ≡ false
        → SoFar part text n at (i + 1) (seen_with seen b.kind b.number) to
    so_far-step b to inside is goes_on = record {
      earlier = so_far.earlier ++ b ∷ [];
      shows = ap (λ (s : Seen). seen_with s b.kind b.number) so_far.shows ∙ seen-more so_far.earlier b;
      count = length-append so_far.earlier (b ∷ []) ∙ ap (λ (k : ℕ). k + 1) so_far.count;
      rest = blocks-step part text n i so_far.earlier b next to (read (blocks part n []) text at) inside (shown (n - i) ∙ is) goes_on so_far.rest;
    }

    -- the payload
    pub so_far-last : (b : Block7) (to : ℕ) → i < n → read (block part (n - i) seen) text next ≡ Ok (b, to) → (b.kind == 1) ≡ true
        → Judges stop_of (Ok to) (read (blocks part n []) text at)
    so_far-last b to inside is ends =
        rw (blocks-last part text n i so_far.earlier b next to (read (blocks part n []) text at) inside (shown (n - i) ∙ is) ends so_far.rest) refl

    -- a block that isn't there
    pub so_far-fails : (e : Refused7) → i < n → read (block part (n - i) seen) text next ≡ Err (stop_of e)
        → Judges stop_of (Err e) (read (blocks part n []) text at)
    so_far-fails e inside is =
        blocks-fails part text n i so_far.earlier next (Some (stop_of e)) (read (blocks part n []) text at) inside (shown (n - i) ∙ is) so_far.rest

    -- after the most extension blocks: the payload, or no block
    pub so_far-end : (b : Block7) (to : ℕ) → n ≤ i → read (block part 0 seen) text next ≡ Ok (b, to)
        → Judges stop_of (Ok to) (read (blocks part n []) text at)
    so_far-end b to over is =
        rw (blocks-end part text n i so_far.earlier b next to (read (blocks part n []) text at) over (shown 0 ∙ is) so_far.rest) refl

    pub so_far-none : (e : Refused7) → n ≤ i → read (block part 0 seen) text next ≡ Err (stop_of e)
        → Judges stop_of (Err e) (read (blocks part n []) text at)
    so_far-none e over is =
        blocks-none part text n i so_far.earlier next (Some (stop_of e)) (read (blocks part n []) text at) over (shown 0 ∙ is) so_far.rest

-- ---- answers

-- what a `?` passes on is the refusal that it met
pub judges-passed : {A : Type 0} (result : Result ℕ Refused7) (e : Refused7) (given : Result (A × ℕ) (ℕ × Stop Cause7))
    → IsErrAnd result (λ y. y ≡ e) → given ≡ Err (stop_of e) → Judges stop_of result given
judges-passed (Ok k) e given is stops = absurd is
judges-passed (Err y) e given is stops = rw is stops

-- ---- the clauses of the two calls

pub begins-spells : (text : List ℕ) (result : Result ℕ Refused7) → IfOk result (λ k. (b : Bundle7) × Begins (bundle 64) text k b)
    → IfOk result (λ k. (b : Bundle7) × (k ≤ length text) × Spells (bundle 64) [] (take k text) b)
begins-spells text (Ok k) (b, begins) = (b, begins.within, begins.spells)
begins-spells text (Err e) none = tt

pub decoded-memory : {T : Type 0} (text : List ℕ) (result : Result T Fail7)
    → IfErr result (λ e. refusal e ≡ None → (b : Bundle7) × (k : ℕ) × Begins (bundle 64) text k b)
    → result ≡ Err Memory → (b : Bundle7) × (k : ℕ) × (k ≤ length text) × Spells (bundle 64) [] (take k text) b
decoded-memory text result wants is =
    let wanted : refusal Memory ≡ None → (b : Bundle7) × (k : ℕ) × Begins (bundle 64) text k b = rw is at wants in
    let (b, k, begins) = wanted refl in (b, k, begins.within, begins.spells)

pub spelled-ok : (text : List ℕ) → (b : Bundle7) × (k : ℕ) × (k ≤ length text) × Spells (bundle 64) [] (take k text) b
    → IsOk (read (bundle 64) text 0)
spelled-ok text (b, k, within, spells) =
    rw (begins-read (bundle 64) text k b (record { within = within; spells = spells })) refl
