-- What code lends out of a body, seen as the values that the tables give.

use Rattle.std.specs.Prelude.{ℕ, List, [], Result, Ok, Err}
use Rattle.endpoint.specs.declared.name.Endpoint.{Endpoint}
use Rattle.wire_fields.specs.Reading.{read}
use Rattle.wire_fields.specs.Words.{listed}
use Rattle.bundle_meaning.specs.declared.blocks.Block6Like.{Block6Like}
use Rattle.bundle_meaning.specs.declared.blocks.Block7Like.{Block7Like}
use Rattle.bundle_meaning.specs.declared.residue_new.ResidueNew.{ResidueNew}
use Rattle.bundle_meaning.specs.declared.residue_new.LentResidue.{LentResidue}
use Rattle.bundle_meaning.specs.declared.wrap_new.LentBlock6.{LentBlock6}
use Rattle.bundle_meaning.specs.declared.wrap_new.Names.{Names}
use Rattle.bundle_meaning.specs.declared.wrap_old.LentBlock7.{LentBlock7}
use Rattle.bundle_meaning.specs.Body.{name, name_of}

abbrev pub residue_lent : LentResidue → ResidueNew
residue_lent lent = record {
  extra6 = record {
    flags = lent.flags;
    custodian = name_of lent.custodian.now;
    payload_flags = lent.payload_flags;
    after = lent.after;
  };
  rests = lent.rests;
}

abbrev pub block7_lent : LentBlock7 → Block7Like
block7_lent lent = record {
  kind = lent.kind;
  number = lent.number;
  flags = lent.flags;
  crc = lent.crc;
  body = lent.body.now;
}

-- what was read, or nothing
abbrev pub read_or_none : {A E : Type 0} → Result (List A × ℕ) E → List A
read_or_none (Ok x) = x.0
read_or_none (Err e) = []

-- the endpoints that stand at the place
unfoldable pub names_lent : Names → List Endpoint
names_lent names = read_or_none (read (listed names.count (λ earlier. name)) names.text.now names.at)

abbrev pub block6_lent : LentBlock6 → Block6Like
block6_lent lent = record {
  kind = lent.kind;
  flags = lent.flags;
  refs = names_lent lent.refs;
  body = lent.body.now;
}
