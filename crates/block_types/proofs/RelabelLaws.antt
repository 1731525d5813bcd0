-- Laws of relabelled bundles.

use Rattle.std.proofs.Common.{ap, ◌∙◌}
use Rattle.bundle6.specs.declared.bundle.Bundle6.{Bundle6}
use Rattle.bundle7.specs.declared.bundle.Bundle7.{Bundle7}
use Rattle.translate.specs.Translation.{there6, there7, to_new_refusal, to_old_refusal}
use Rattle.translate.proofs.BackLaws.{there_and_back}
use Rattle.block_types.specs.Relabelled.{relabelled6, relabelled7}
use Rattle.block_types.specs.Laws.{RelabelledTwice, RelabelledIsLegal, NothingRelabelled, ThereAndBackRelabelled}
use Rattle.block_types.proofs.TypeLemmas.{swapped-same}
use Rattle.block_types.proofs.RetypeLemmas7.{relabelled7-twice, relabelled7-same}
use Rattle.block_types.proofs.RetypeLemmas6.{relabelled6-twice, relabelled6-same}
use Rattle.block_types.proofs.LegalLemmas7.{relabelled7-legal, relabelled7-octets, length-relabelled7}
use Rattle.block_types.proofs.LegalLemmas6.{relabelled6-legal, relabelled6-octets, length-relabelled6}

pub relabelled_twice : RelabelledTwice
relabelled_twice types = record { seven = relabelled7-twice types; six = relabelled6-twice types }

pub relabelled_is_legal : RelabelledIsLegal
relabelled_is_legal types = (
  λ b. record {
    legal = relabelled7-legal types b;
    octets = relabelled7-octets types b;
    size = length-relabelled7 types b;
  },
  λ b. record {
    legal = relabelled6-legal types b;
    octets = relabelled6-octets types b;
    size = length-relabelled6 types b;
  },
)

pub nothing_relabelled : NothingRelabelled
nothing_relabelled types r w = (relabelled7-same types (swapped-same types r w), relabelled6-same types (swapped-same types r w))

pub there_and_back_relabelled : ThereAndBackRelabelled
there_and_back_relabelled types = (
  λ b can.
      let back = relabelled7-twice types (there6 (relabelled6 types b)) in
      let law = there_and_back.0 (relabelled6 types b) can in
      (ap to_old_refusal back ∙ law.0, ap (λ (c : Bundle7). relabelled6 types (there7 c)) back ∙ ap (relabelled6 types) law.1),
  λ b can.
      let back = relabelled6-twice types (there7 (relabelled7 types b)) in
      let law = there_and_back.1 (relabelled7 types b) can in
      (ap to_new_refusal back ∙ law.0, ap (λ (c : Bundle6). relabelled7 types (there6 c)) back ∙ ap (relabelled7 types) law.1),
)
