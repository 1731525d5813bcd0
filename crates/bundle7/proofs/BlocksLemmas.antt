-- The steps of the loop over blocks: what is left to read gives what all of it gives.
use Rattle.std.proofs.Common.{◌≡◌, ℕ, suc, ◌+◌, ◌-◌, ◌<◌, ◌≤◌, ◌==◌, true, false, List, [], ◌∷◌, ◌++◌, Option, Result, Ok, sym, ap, ◌∙◌, arith}
use Rattle.endpoint.specs.declared.extent.Fragment.{Fragment}
use Rattle.wire_fields.specs.Format.{give}
use Rattle.wire_fields.specs.Refusal.{Stop}
use Rattle.wire_fields.specs.Reading.{go_on, read}
use Rattle.wire_fields.specs.Words.{choice}
use Rattle.wire_fields.specs.Gives.{Fails}
use Rattle.wire_fields.proofs.GroupLemmas.{fails-on}
use Rattle.bundle7.specs.declared.fault.Cause7.{Cause7}
use Rattle.bundle7.specs.declared.block.Block7.{Block7}
use Rattle.bundle7.specs.Table.{seen_of, block, blocks}

abbrev pub answered : List Block7 → Block7 → ℕ → Result ((List Block7 × Block7) × ℕ) (ℕ × Stop Cause7)
answered earlier b to = Ok ((earlier, b), to)

module _ (part : Option Fragment) (text : List ℕ) where
  -- what follows a block that was read
  pub after_it : ℕ → List Block7 → Block7 × ℕ → Result ((List Block7 × Block7) × ℕ) (ℕ × Stop Cause7)
  after_it left earlier x =
      read (choice (x.0.kind == 1) (give (earlier, x.0)) (blocks part left (earlier ++ x.0 ∷ []))) text x.1

  pub one_of : (n i : ℕ) (earlier : List Block7) (at : ℕ) → i < n
      → read (blocks part (n - i) earlier) text at ≡ go_on (read (block part (n - i) (seen_of earlier)) text at) (after_it (n - (i + 1)) earlier)
  unfolding blocks after_it
  one_of n i earlier at h =
      let left : n - i ≡ suc (n - (i + 1)) = omega arith in
      ap (λ k. read (blocks part k earlier) text at) left
      ∙ ap (λ k. go_on (read (block part k (seen_of earlier)) text at) (after_it (n - (i + 1)) earlier)) (sym left)

  -- after i blocks one more was read, and wasn't the payload
  pub blocks-step : (n i : ℕ) (earlier : List Block7) (b : Block7) (at to : ℕ) (all : Result ((List Block7 × Block7) × ℕ) (ℕ × Stop Cause7)) → i < n
      → read (block part (n - i) (seen_of earlier)) text at ≡ Ok (b, to) → (b.kind == 1) ≡ false → read (blocks part (n - i) earlier) text at ≡ all
      → read (blocks part (n - (i + 1)) (earlier ++ b ∷ [])) text to ≡ all
  unfolding after_it
  blocks-step n i earlier b at to all h is goes_on left =
      sym (one_of n i earlier at h ∙ (ap (λ r. go_on r (after_it (n - (i + 1)) earlier)) is
      ∙ ap (λ t. read (choice t (give (earlier, b)) (blocks part (n - (i + 1)) (earlier ++ b ∷ []))) text to) goes_on)) ∙ left

  -- one more was read, and was the payload
  pub blocks-last : (n i : ℕ) (earlier : List Block7) (b : Block7) (at to : ℕ) (all : Result ((List Block7 × Block7) × ℕ) (ℕ × Stop Cause7)) → i < n
      → read (block part (n - i) (seen_of earlier)) text at ≡ Ok (b, to) → (b.kind == 1) ≡ true → read (blocks part (n - i) earlier) text at ≡ all
      → all ≡ answered earlier b to
  unfolding after_it
  blocks-last n i earlier b at to all h is ends left =
      sym left ∙ (one_of n i earlier at h ∙ (ap (λ r. go_on r (after_it (n - (i + 1)) earlier)) is
      ∙ ap (λ t. read (choice t (give (earlier, b)) (blocks part (n - (i + 1)) (earlier ++ b ∷ []))) text to) ends))

  -- the next one failed
  pub blocks-fails : (n i : ℕ) (earlier : List Block7) (at : ℕ) (o : Option (ℕ × Stop Cause7)) (all : Result ((List Block7 × Block7) × ℕ) (ℕ × Stop Cause7)) → i < n
      → Fails o (read (block part (n - i) (seen_of earlier)) text at) → read (blocks part (n - i) earlier) text at ≡ all → Fails o all
  blocks-fails n i earlier at o all h fails left =
      fails-on o (read (block part (n - i) (seen_of earlier)) text at) all
      (λ e is. sym left ∙ (one_of n i earlier at h ∙ ap (λ r. go_on r (after_it (n - (i + 1)) earlier)) is)) fails

  -- no extension block may follow, and the payload was read
  pub blocks-end : (n i : ℕ) (earlier : List Block7) (b : Block7) (at to : ℕ) (all : Result ((List Block7 × Block7) × ℕ) (ℕ × Stop Cause7)) → n ≤ i
      → read (block part 0 (seen_of earlier)) text at ≡ Ok (b, to) → read (blocks part (n - i) earlier) text at ≡ all → all ≡ answered earlier b to
  unfolding blocks
  blocks-end n i earlier b at to all h is left =
      let none : n - i ≡ 0 = omega arith in
      sym left ∙ (ap (λ k. read (blocks part k earlier) text at) none ∙ ap (λ r. go_on r (λ x. read (give (earlier, x.0)) text x.1)) is)

  -- no extension block may follow, and the next one failed
  pub blocks-none : (n i : ℕ) (earlier : List Block7) (at : ℕ) (o : Option (ℕ × Stop Cause7)) (all : Result ((List Block7 × Block7) × ℕ) (ℕ × Stop Cause7)) → n ≤ i
      → Fails o (read (block part 0 (seen_of earlier)) text at) → read (blocks part (n - i) earlier) text at ≡ all → Fails o all
  unfolding blocks
  blocks-none n i earlier at o all h fails left =
      let none : n - i ≡ 0 = omega arith in
      fails-on o (read (block part 0 (seen_of earlier)) text at) all
      (λ e is. sym left ∙ (ap (λ k. read (blocks part k earlier) text at) none ∙ ap (λ r. go_on r (λ x. read (give (earlier, x.0)) text x.1)) is)) fails
