-- The table without values keeps of the table's values what later fields look at.

use Rattle.std.proofs.Common.{◌≡◌, ℕ, ◌+◌, ◌≤◌, length, take, Bool, List, [], ◌∷◌, ◌++◌, Option, Result, Ok, Err, IfOk, refl, ap}
use Rattle.endpoint.specs.declared.name.Endpoint.{Endpoint}
use Rattle.endpoint.specs.declared.extent.Fragment.{Fragment}
use Rattle.wire_fields.specs.Refusal.{Begins}
use Rattle.wire_fields.specs.Reading.{read, IsOctets}
use Rattle.wire_fields.specs.Words.{one_more, listed, until}
use Rattle.wire_fields.specs.Gives.{WantsOnlySpelled}
use Rattle.wire_fields.proofs.ResultLemmas.{err_is}
use Rattle.wire_fields.proofs.JudgeLemmas.{wanting-spelled}
use Rattle.wire_fields.proofs.KeepsLemmas.{Keeps, state_kept, keeps-give, keeps-then, keeps-after, keeps-made, keeps-repeated, keeps-until, keeps-flat_left, keeps-flat_right, keeps-given_right}
use Rattle.bundle6.specs.declared.fault.Refused6.{Refused6}
use Rattle.bundle6.specs.declared.fault.Fail6.{Fail6}
use Rattle.bundle6.specs.declared.fault.Fail6.TheVariants.{Memory}
use Rattle.bundle6.specs.Cause.{refusal}
use Rattle.bundle6.specs.declared.names.Pairs.{Pairs}
use Rattle.bundle6.specs.declared.names.Named.{Named}
use Rattle.bundle6.specs.declared.primary.Primary6.{Primary6}
use Rattle.bundle6.specs.declared.block.Block6.{Block6}
use Rattle.bundle6.specs.declared.block.Seen.{Seen}
use Rattle.bundle6.specs.declared.bundle.Bundle6.{Bundle6}
use Rattle.bundle6.specs.Seen.{seen_with}
use Rattle.bundle6.specs.Table.{primary, dictionary, name, references, block, next_block, bundle, has_payload, others}
use Rattle.bundle6.specs.Judging.{judged_dictionary, judged_primary, judged_name, judged_names, judged_head, judged_body, judged_block, judged_blocks, judged_bundle, none_seen}
use Rattle.bundle6.specs.Legal.{Spells6}
use Rattle.bundle6.proofs.BlocksLemmas.{seen-more}
use Rattle.bundle6.proofs.LegalLemmas.{begun-legal}

-- ---- the primary block

dictionary-keeps : (pairs : Pairs) → Keeps (λ (x : Named × List ℕ). x.1) (dictionary pairs) (judged_dictionary pairs)
unfolding dictionary judged_dictionary
dictionary-keeps pairs = keeps-after _ _ _ _ (λ size. keeps-after _ _ _ _ (λ texts. keeps-give _ _ _ refl))

-- where the payload lies in the whole, and the dictionary
main_kept : Primary6 × List ℕ → Option Fragment × List ℕ
main_kept main = (main.0.fragment, main.1)

primary-keeps : Keeps main_kept primary judged_primary
unfolding primary judged_primary main_kept
primary-keeps =
    keeps-after _ _ _ _ (λ version. keeps-after _ _ _ _ (λ flags. keeps-after _ _ _ _ (λ size.
    keeps-after _ _ _ _ (λ start. keeps-after _ _ _ _ (λ pairs. keeps-after _ _ _ _ (λ seconds.
    keeps-after _ _ _ _ (λ sequence. keeps-after _ _ _ _ (λ lifetime.
    keeps-then (λ (x : Named × List ℕ). x.1) _ _ _ _ _ (dictionary-keeps pairs) (λ names.
    keeps-after _ _ _ _ (λ part. keeps-after _ _ _ _ (λ end. keeps-after _ _ _ _ (λ ended.
    keeps-give _ _ _ refl))))))))))))

-- ---- blocks

name-keeps : (texts : List ℕ) → Keeps (λ (x : Endpoint). tt) (name texts) (judged_name texts)
unfolding name judged_name
name-keeps texts = keeps-after _ _ _ _ (λ scheme. keeps-after _ _ _ _ (λ ssp. keeps-give _ _ _ refl))

names-keep : (count : ℕ) (texts : List ℕ)
    → Keeps (λ (x : List Endpoint). tt) (listed count (λ earlier. name texts)) (judged_names count texts)
names-keep count texts =
    keeps-repeated (λ (x : List Endpoint). tt) (one_more (λ earlier. name texts)) (λ _. judged_name texts)
    (λ earlier. keeps-made (λ x. earlier ++ x ∷ []) (λ _. tt) (name texts) (judged_name texts) (name-keeps texts)) count []

-- what is kept of the blocks so far
abbrev pub seen_of : List Block6 → Seen
seen_of earlier = record { paid = has_payload earlier; others = others earlier }

abbrev and_last : Seen → Bool → Seen × Bool
and_last seen last = (seen, last)

seen-next : (earlier : List Block6) (b : Block6) (last : Bool)
    → and_last (seen_of (earlier ++ b ∷ [])) last ≡ and_last (seen_with (seen_of earlier) b.kind) last
seen-next earlier b last = let more = seen-more (seen_of earlier) earlier b refl refl in rw (← more.0, ← more.1) refl

block-keeps : (most : ℕ) (part : Option Fragment) (texts : List ℕ) (earlier : List Block6)
    → Keeps (λ next. (seen_of (earlier ++ next.0 ∷ []), next.1))
    (block most part texts (has_payload earlier) (others earlier)) (judged_block most part texts (seen_of earlier))
unfolding block references judged_head judged_body
block-keeps most part texts earlier =
    keeps-flat_right _ _ _ _ _ (keeps-after _ _ _ _ (λ kind.
    keeps-flat_right _ _ _ _ _ (keeps-after _ _ _ _ (λ flags.
    keeps-flat_left _ _ _ _ _ (keeps-flat_right _ _ _ _ _ (keeps-after _ _ _ _ (λ count.
    keeps-given_right _ _ _ _ (
    keeps-then (λ (x : List Endpoint). tt) _ _ _ _ _ (names-keep count texts) (λ refs.
    keeps-flat_right _ _ _ _ _ (keeps-after _ _ _ _ (λ size.
    keeps-flat_right _ _ _ _ _ (keeps-after _ _ _ _ (λ body.
    keeps-given_right _ _ _ _ (
    keeps-give _ _ _ (seen-next earlier _ _)))))))))))))))

blocks-keep : (n most : ℕ) (part : Option Fragment) (texts : List ℕ)
    → Keeps seen_of (until n (next_block most part texts) []) (judged_blocks n most part texts none_seen)
unfolding next_block
blocks-keep n most part texts =
    keeps-until seen_of (next_block most part texts) (λ _ seen. judged_block most part texts seen)
    (λ left earlier. keeps-made (λ next. (earlier ++ next.0 ∷ [], next.1)) (state_kept seen_of) _ _ (block-keeps most part texts earlier))
    n []

pub bundle-keeps : (most : ℕ) → Keeps (λ (b : Bundle6). seen_of b.blocks) (bundle most) (judged_bundle most)
unfolding bundle judged_bundle main_kept
bundle-keeps most =
    keeps-then main_kept _ _ _ _ _ primary-keeps (λ main.
    keeps-made (λ blocks. record { primary = main.0; blocks = blocks }) (λ b. seen_of b.blocks) _ _
    (blocks-keep (most + 1) most main.0.fragment main.1))

-- ---- what was found is legal

pub judged-legal : (result : Result ℕ Refused6) (text : List ℕ) → IsOctets text
    → IfOk result (λ k. (b : Bundle6) × Begins (bundle 64) text k b)
    → IfOk result (λ k. (b : Bundle6) × (k ≤ length text) × Spells6 b (take k text))
judged-legal (Ok k) text fits (b, begins) = (b, begins.within, begun-legal text k b fits begins)
judged-legal (Err e) text fits found = tt

-- ---- decoding what was judged

pub decoded-memory : (result : Result (Bundle6 × ℕ) Fail6) (text : List ℕ) → IsOctets text
    → WantsOnlySpelled refusal result (read (bundle 64) text 0) → result ≡ Err Memory
    → (b : Bundle6) × (k : ℕ) × (k ≤ length text) × Spells6 b (take k text)
decoded-memory (Ok x) text fits wants is = absurd (cc)
decoded-memory (Err e) text fits wants is =
    let lacks : e ≡ Memory = err_is {A = Bundle6 × ℕ} e Memory is in
    let found = wanting-spelled (bundle 64) (λ (b : Bundle6). b) refusal text (Err e) fits wants (ap refusal lacks) in
    (found.0, found.1, found.2.within, begun-legal text found.1 found.0 fits found.2)
