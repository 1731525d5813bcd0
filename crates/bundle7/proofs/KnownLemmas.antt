-- Octets whose checks are known to be right: each block of what is read is there.
use Rattle.std.proofs.Common.{◌≡◌, ℕ, ◌+◌, ◌-◌, ◌<◌, ◌≤◌, List, Option, Result, Ok, Err, refl, sym, ap, ◌∙◌, subst, arith}
use Rattle.endpoint.specs.declared.extent.Fragment.{Fragment}
use Rattle.wire_fields.specs.Refusal.{Stop}
use Rattle.wire_fields.specs.Reading.{go_on, read}
use Rattle.bundle7.specs.declared.fault.Cause7.{Cause7}
use Rattle.bundle7.specs.declared.block.Block7.{Block7}
use Rattle.bundle7.specs.declared.seen.Seen.{Seen}
use Rattle.bundle7.specs.declared.check.Checks.{Checks}
use Rattle.bundle7.specs.declared.check.Checks.TheVariants.{Untested, Right}
use Rattle.bundle7.specs.Table.{seen_of, block, blocks}
use Rattle.bundle7.specs.Known.{Knows}
use Rattle.bundle7.proofs.BlocksLemmas.{one_of, after_it}

-- the first of two fields
knows-first : {A B : Type 0} (checks : Checks) (r : Result A (ℕ × Stop Cause7)) (f : A → Result B (ℕ × Stop Cause7))
    → Knows checks (go_on r f) → Knows checks r
knows-first Untested r f knows = tt
knows-first Right (Ok x) f knows = refl
knows-first Right (Err e) f knows = knows

-- after i blocks: the next one
pub knows-next : (checks : Checks) (part : Option Fragment) (text : List ℕ) (n i : ℕ) (earlier : List Block7) (seen : Seen) (at : ℕ)
    (all : Result ((List Block7 × Block7) × ℕ) (ℕ × Stop Cause7)) → i < n → seen ≡ seen_of earlier
    → read (blocks part (n - i) earlier) text at ≡ all → Knows checks all → Knows checks (read (block part (n - i) seen) text at)
knows-next checks part text n i earlier seen at all more shows rest knows =
    rw shows (knows-first checks (read (block part (n - i) (seen_of earlier)) text at) (after_it part text (n - (i + 1)) earlier)
    (subst (Knows checks) (sym rest ∙ one_of part text n i earlier at more) knows))

-- after the most extension blocks: the last one
pub knows-last : (checks : Checks) (part : Option Fragment) (text : List ℕ) (n i : ℕ) (earlier : List Block7) (seen : Seen) (at : ℕ)
    (all : Result ((List Block7 × Block7) × ℕ) (ℕ × Stop Cause7)) → n ≤ i → seen ≡ seen_of earlier
    → read (blocks part (n - i) earlier) text at ≡ all → Knows checks all → Knows checks (read (block part 0 seen) text at)
unfolding blocks
knows-last checks part text n i earlier seen at all over shows rest knows =
    let none : n - i ≡ 0 = omega arith in
    let last : read (blocks part 0 earlier) text at ≡ all = ap (λ k. read (blocks part k earlier) text at) (sym none) ∙ rest in
    rw shows (knows-first checks (read (block part 0 (seen_of earlier)) text at) (λ x. Ok ((earlier, x.0), x.1))
    (subst (Knows checks) (sym last) knows))
