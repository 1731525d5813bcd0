-- Views of raised records.

use Rattle.std.proofs.Common.{◌≡◌, ℕ, zero, suc, ◌+◌, ◌==◌, Bool, true, false, ◌||◌, if◌then◌else◌, List, [], ◌∷◌, map, length, refl, ap, ◌∙◌}
use Rattle.std.proofs.lemmas.List.{length-map}
use Rattle.bundle7.specs.declared.block.Block7.{Block7}
use Rattle.bundle7.specs.declared.bundle.Bundle7.{Bundle7}
use Rattle.bundle_meaning.specs.declared.blocks.Ext.{Ext}
use Rattle.bundle_meaning.specs.declared.blocks.Ext.TheVariants.{Six, Seven}
use Rattle.bundle_meaning.specs.declared.full.Full.{Full}
use Rattle.translate.specs.View7.{is_taken7, free_from7, next_free7, needs_residue7, residue7_at, block7_at, number_after7, blocks7_of, exts7_of, view7_of}
use Rattle.translate.proofs.View6Laws.{view6-reads}
use Rattle.translate.proofs.View7Laws.{view7-reads}
use Rattle.bundle_age.specs.Raised.{raised_ext, raised_by, raised_block7, raised_bundle}
use Rattle.bundle_age.specs.Laws.{RaisedInViews, StaysAddUp}
use Rattle.bundle_age.proofs.AgeLemmas.{raised-sound, raised-stays, raised-nothing, raised-ageless}

-- ---- numbers stay

taken-same : (stay : ℕ) (exts : List Ext) (number : ℕ) → is_taken7 (map (raised_ext stay) exts) number ≡ is_taken7 exts number
taken-same stay [] number = refl
taken-same stay (Six block ∷ exts) number = taken-same stay exts number
taken-same stay (Seven block ∷ exts) number = ap (λ (b : Bool). (block.number == number) || b) (taken-same stay exts number)

free-same : (stay more : ℕ) (exts : List Ext) (number : ℕ) → free_from7 more (map (raised_ext stay) exts) number ≡ free_from7 more exts number
unfolding free_from7
free-same stay zero exts number = refl
free-same stay (suc more) exts number = rw (taken-same stay exts number, free-same stay more exts (number + 1)) refl

next-same : (stay : ℕ) (exts : List Ext) (number : ℕ) → next_free7 (map (raised_ext stay) exts) number ≡ next_free7 exts number
next-same stay exts number = rw (length-map exts (raised_ext stay)) (free-same stay (length exts) exts number)

-- ---- blocks

block-same : (stay : ℕ) (all : List Ext) (next : ℕ) (ext : Ext)
    → block7_at (map (raised_ext stay) all) next (raised_ext stay ext) ≡ raised_block7 stay (block7_at all next ext)
block-same stay all next (Six block) = rw (next-same stay all next) refl
block-same stay all next (Seven block) = refl

after-same : (stay : ℕ) (all : List Ext) (next : ℕ) (ext : Ext)
    → number_after7 (map (raised_ext stay) all) next (raised_ext stay ext) ≡ number_after7 all next ext
after-same stay all next (Six block) = rw (next-same stay all next) refl
after-same stay all next (Seven block) = refl

blocks-same : (stay : ℕ) (all : List Ext) (next : ℕ) (exts : List Ext)
    → blocks7_of (map (raised_ext stay) all) next (map (raised_ext stay) exts) ≡ map (raised_block7 stay) (blocks7_of all next exts)
unfolding blocks7_of
blocks-same stay all next [] = refl
blocks-same stay all next (ext ∷ exts) =
    ap (λ (b : Block7). b ∷ blocks7_of (map (raised_ext stay) all) (number_after7 (map (raised_ext stay) all) next (raised_ext stay ext)) (map (raised_ext stay) exts))
    (block-same stay all next ext)
    ∙ (ap (λ (n : ℕ). raised_block7 stay (block7_at all next ext) ∷ blocks7_of (map (raised_ext stay) all) n (map (raised_ext stay) exts)) (after-same stay all next ext)
    ∙ ap (λ (more : List Block7). raised_block7 stay (block7_at all next ext) ∷ more) (blocks-same stay all (number_after7 all next ext) exts))

exts-same : (stay : ℕ) (full : Full) → exts7_of (raised_by stay full) ≡ map (raised_block7 stay) (exts7_of full)
unfolding raised_by
exts-same stay full = by (needs_residue7 full)
  where
    raised : List Ext
    raised = map (raised_ext stay) full.exts

    by : (t : Bool) → (if t then residue7_at (next_free7 raised 2) full ∷ blocks7_of raised (next_free7 raised 2 + 1) raised else blocks7_of raised 2 raised)
        ≡ map (raised_block7 stay) (if t then residue7_at (next_free7 full.exts 2) full ∷ blocks7_of full.exts (next_free7 full.exts 2 + 1) full.exts else blocks7_of full.exts 2 full.exts)
    by true =
        ap (λ (n : ℕ). residue7_at n full ∷ blocks7_of raised (n + 1) raised) (next-same stay full.exts 2)
        ∙ ap (λ (more : List Block7). residue7_at (next_free7 full.exts 2) full ∷ more) (blocks-same stay full.exts (next_free7 full.exts 2 + 1) full.exts)
    by false = blocks-same stay full.exts 2 full.exts

view-same : (stay : ℕ) (full : Full) → view7_of (raised_by stay full) ≡ raised_bundle stay (view7_of full)
unfolding raised_by raised_bundle
view-same stay full = ap (λ (exts : List Block7). let b : Bundle7 = record (view7_of full) { exts = exts } in b) (exts-same stay full)

-- ---- the laws

pub raised_in_views : RaisedInViews
unfolding raised_by
raised_in_views full stay sound =
    let good = raised-sound stay full sound in record {
      sound = good;
      seven = view7-reads (raised_by stay full) good.valid;
      six = λ lifetime. view6-reads (raised_by stay full) good lifetime;
      same = view-same stay full;
    }

pub stays_add_up : StaysAddUp
stays_add_up full sound = record {
  sum = λ first second. raised-stays first second full sound;
  none = raised-nothing full sound;
  ageless = λ stay none. raised-ageless stay full none;
}
