-- The table without values keeps of the table's values what later fields look at.
use Rattle.std.proofs.Common.{ℕ, zero, suc, ◌==◌, Bool, true, false, List, [], ◌∷◌, ◌++◌, Option, refl, sym, subst}
use Rattle.endpoint.specs.declared.extent.Fragment.{Fragment}
use Rattle.wire_fields.specs.Format.{Format, give, and_then}
use Rattle.wire_fields.specs.Words.{choice, exact_octet}
use Rattle.wire_fields.proofs.KeepsLemmas.{Keeps, keeps-give, keeps-then, keeps-after, keeps-flat_left, keeps-flat_right, keeps-given_right}
use Rattle.bundle7.specs.declared.fault.Cause7.{Cause7}
use Rattle.bundle7.specs.declared.fault.Cause7.TheVariants.{Break}
use Rattle.bundle7.specs.declared.block.Lead.{Lead}
use Rattle.bundle7.specs.declared.block.Block7.{Block7}
use Rattle.bundle7.specs.declared.bundle.Bundle7.{Bundle7}
use Rattle.bundle7.specs.declared.primary.Primary7.{Primary7}
use Rattle.bundle7.specs.declared.seen.Seen.{Seen}
use Rattle.bundle7.specs.Table.{seen_of, block, blocks, bundle}
use Rattle.bundle7.specs.Seen.{seen_with}
use Rattle.bundle7.specs.Judging.{judged_start, judged_front, judged_block, judged_end, judged_blocks, judged_bundle}
use Rattle.bundle7.proofs.JudgingLemmas.{seen-more}

-- what stands before a body
lead_of : Block7 → Lead
lead_of b = record { kind = b.kind; number = b.number; flags = b.flags; crc = b.crc }

abbrev pub nothing : {A : Type 0} → A → Unit {0}
nothing x = tt

keeps-given_left : {C A B X : Type 0} (h : B → X) (a : A) (k : A → Format C B) (r : Format C X)
    → Keeps h (k a) r → Keeps h (and_then (give a) k) r
keeps-given_left h a k r keeps = record { reads = λ text at. keeps.reads text at }

keeps-chosen : {C A B X : Type 0} (h : B → X) (t : Bool) (f g : Format C A) (k : A → Format C B) (r s : Format C X)
    → Keeps h (and_then f k) r → Keeps h (and_then g k) s → Keeps h (and_then (choice t f g) k) (choice t r s)
keeps-chosen h true f g k r s first second = first
keeps-chosen h false f g k r s first second = second

block-keeps : (part : Option Fragment) (left : ℕ) (seen : Seen) → Keeps lead_of (block part left seen) (judged_block part left seen)
unfolding block judged_front lead_of
block-keeps part left seen =
    keeps-after _ _ _ _ (λ start. keeps-flat_right _ _ _ _ _ (keeps-after _ _ _ _ (λ front.
    keeps-flat_right _ _ _ _ _ (keeps-after _ _ _ _ (λ size. keeps-given_right _ _ _ _ (
    keeps-after _ _ _ _ (λ body. keeps-after _ _ _ _ (λ check. keeps-give _ _ _ refl))))))))

module _ (main : Primary7) where
  -- what stands after the blocks
  ending : List Block7 × Block7 → Format Cause7 Bundle7
  ending all = and_then (exact_octet 0xFF Break) (λ end. give (record { primary = main; exts = all.0; payload = all.1 }))

  end-keeps : (all : List Block7 × Block7) → Keeps nothing (ending all) judged_end
  unfolding ending
  end-keeps all = keeps-after _ _ _ _ (λ end. keeps-give _ _ _ refl)

  blocks-keep : (part : Option Fragment) (left : ℕ) (earlier : List Block7)
      → Keeps nothing (and_then (blocks part left earlier) ending) (judged_blocks part left (seen_of earlier))
  unfolding blocks lead_of
  blocks-keep part zero earlier =
      keeps-flat_left _ _ _ _ _ (
      keeps-then lead_of nothing (block part 0 (seen_of earlier)) (judged_block part 0 (seen_of earlier)) _ (λ front. judged_end)
      (block-keeps part 0 (seen_of earlier))
      (λ b. keeps-given_left nothing (earlier, b) ending judged_end (end-keeps (earlier, b))))
  blocks-keep part (suc left) earlier =
      keeps-flat_left _ _ _ _ _ (
      keeps-then lead_of nothing (block part (suc left) (seen_of earlier)) (judged_block part (suc left) (seen_of earlier)) _
      (λ front. choice (front.kind == 1) judged_end (judged_blocks part left (seen_with (seen_of earlier) front.kind front.number)))
      (block-keeps part (suc left) (seen_of earlier))
      (λ b. keeps-chosen nothing (b.kind == 1) (give (earlier, b)) (blocks part left (earlier ++ b ∷ [])) ending
      judged_end (judged_blocks part left (seen_with (seen_of earlier) b.kind b.number))
      (keeps-given_left nothing (earlier, b) ending judged_end (end-keeps (earlier, b)))
      (subst (λ (s : Seen). Keeps nothing (and_then (blocks part left (earlier ++ b ∷ [])) ending) (judged_blocks part left s))
      (sym (seen-more earlier b)) (blocks-keep part left (earlier ++ b ∷ [])))))

pub bundle-keeps : (most : ℕ) → Keeps nothing (bundle most) (judged_bundle most)
unfolding bundle judged_bundle judged_start ending
bundle-keeps most =
    keeps-flat_right _ _ _ _ _ (keeps-after _ _ _ _ (λ start. keeps-flat_right _ _ _ _ _ (keeps-after _ _ _ _ (λ main.
    keeps-given_right _ _ _ _ (blocks-keep main main.fragment most [])))))
