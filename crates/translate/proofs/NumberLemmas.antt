-- The numbers of residue and wraps, a block at a time.

use Rattle.std.proofs.Common.{◌≡◌, ℕ, suc, ◌+◌, ◌-◌, ◌<◌, ◌≤◌, true, List, [], ◌∷◌, ◌++◌, length, get_or, drop, refl, sym, ap, ◌∙◌, arith, append_assoc, drop_of_length-le}
use Rattle.std.proofs.lemmas.List.{append-nil, drop_more}
use Rattle.bundle7.specs.declared.block.Block7.{Block7}
use Rattle.bundle_meaning.specs.declared.blocks.Ext.{Ext}
use Rattle.translate.specs.View7.{is_taken7, free_from7, block7_at, number_after7, blocks7_of}

pub free-more : (exts : List Ext) (n i free : ℕ) → i < n → is_taken7 exts free ≡ true
    → free_from7 (n - i) exts free ≡ free_from7 (n - (i + 1)) exts (free + 1)
unfolding free_from7
free-more exts n i free more taken =
    let left : n - i ≡ suc (n - (i + 1)) = omega arith in
    ap (λ k. free_from7 k exts free) left ∙ rw taken refl

-- one block more
pub blocks7-more : (all exts : List Ext) (next i : ℕ) (ext : Ext) → i < length exts → ext ≡ get_or exts i ext
    → blocks7_of all next (drop i exts)
    ≡ block7_at all next ext ∷ blocks7_of all (number_after7 all next ext) (drop (i + 1) exts)
unfolding blocks7_of
blocks7-more all exts next i ext within is =
    ap (λ es. blocks7_of all next es) (drop_more exts i ext within)
    ∙ ap (λ e. block7_at all next e ∷ blocks7_of all (number_after7 all next e) (drop (i + 1) exts)) (sym is)

pub added-more : (all exts : List Ext) (next i : ℕ) (ext : Ext) (before after : List Block7) → i < length exts → ext ≡ get_or exts i ext
    → after ≡ before ++ block7_at all next ext ∷ []
    → after ++ blocks7_of all (number_after7 all next ext) (drop (i + 1) exts) ≡ before ++ blocks7_of all next (drop i exts)
added-more all exts next i ext before after within is added =
    ap (λ bs. bs ++ blocks7_of all (number_after7 all next ext) (drop (i + 1) exts)) added
    ∙ append_assoc before (block7_at all next ext ∷ []) (blocks7_of all (number_after7 all next ext) (drop (i + 1) exts))
    ∙ ap (λ bs. before ++ bs) (sym (blocks7-more all exts next i ext within is))

-- none is left
pub added-all : (all exts : List Ext) (next i : ℕ) (blocks whole : List Block7) → length exts ≤ i
    → blocks ++ blocks7_of all next (drop i exts) ≡ whole → blocks ≡ whole
unfolding blocks7_of
added-all all exts next i blocks whole end is =
    sym (append-nil blocks) ∙ ap (λ es. blocks ++ blocks7_of all next es) (sym (drop_of_length-le exts {i = i} end)) ∙ is
