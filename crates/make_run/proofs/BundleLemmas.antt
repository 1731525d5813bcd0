-- The bundle that the old node sends is a legal one.
use Rattle.std.proofs.Common.{ℕ, ◌%◌, ◌^◌, ◌<◌, [], None, refl, arith}
use Rattle.std.proofs.lemmas.List.{length-replicate}
use Rattle.std.proofs.lemmas.List.Elements.{All-nil, All-cons}
use Rattle.endpoint.specs.Endpoints.{IsEndpoint}
use Rattle.bundle6.specs.declared.block.Block6.{Block6}
use Rattle.bundle6.specs.Legal.{IsLegal, IsLegalBlock, IsWithin}
use Rattle.make_run.specs.Bundles.{payload_of, old_bundle}

the_block : ℕ → ℕ → Block6
the_block i size = record { kind = 1; flags = 0; refs = []; body = payload_of i size }

legal-block : (i size : ℕ) → size < 2 ^ 64 → IsLegalBlock (the_block i size)
unfolding the_block
legal-block i size small = record {
  kind = omega arith;
  flags = omega arith;
  last_bit = refl;
  refs_bit = refl;
  refs = All-nil IsEndpoint;
  count = omega arith;
  size = rw (length-replicate size (i % 256)) small;
}

pub old_bundle-legal : (i size : ℕ) → i < 2 ^ 64 → size < 2 ^ 64 → IsLegal (old_bundle i size)
unfolding old_bundle the_block
old_bundle-legal i size few small = record {
  primary = record {
    flags = omega arith;
    destination = (omega arith, omega arith);
    source = (omega arith, omega arith);
    report_to = tt;
    custodian = tt;
    seconds = omega arith;
    sequence = few;
    lifetime = omega arith;
    fragment_bit = refl;
    fragment = tt;
  };
  blocks = All-cons IsLegalBlock (the_block i size) [] (legal-block i size small) (All-nil IsLegalBlock);
  one_payload = refl;
  others_are_few = omega arith;
  within = All-cons (IsWithin None) (the_block i size) [] tt (All-nil (IsWithin None));
}
