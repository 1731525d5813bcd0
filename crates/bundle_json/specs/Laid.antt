-- Where the fields of a valid bundle of version 6 lie in its octets (RFC 5050, sections 4.5 and 4.6):
-- what code walks over.
use Rattle.std.specs.Prelude.{◌≡◌, ℕ, ◌+◌, ◌-◌, ◌≤◌, Bool, true, List, [], ◌∷◌, ◌++◌, length, take, drop, Option, Some}
use Rattle.std.specs.List.{list_all}
use Rattle.endpoint.specs.declared.name.Endpoint.{Endpoint}
use Rattle.endpoint.specs.declared.extent.Fragment.{Fragment}
use Rattle.endpoint.specs.Endpoints.{is_visible}
use Rattle.wire_fields.specs.Format.{Format, Spells}
use Rattle.bundle6.specs.declared.primary.Primary6.{Primary6}
use Rattle.bundle6.specs.declared.block.Block6.{Block6}
use Rattle.bundle6.specs.Names.{resolve, all_resolve, names_of}
use Rattle.bundle6.specs.Table.{offsets, four_names, dictionary, name, block}
use Rattle.bundle_json.specs.declared.walk.Pair.{Pair}
use Rattle.bundle_json.specs.declared.walk.Four.{Four}
use Rattle.bundle_json.specs.declared.walk.Texts.{Texts}
use Rattle.bundle_json.specs.declared.walk.PrimaryView.{PrimaryView}
use Rattle.bundle_json.specs.declared.walk.BlockView.{BlockView}

-- from a place on the octets are these
pub record LiesAt (octets : List ℕ) (at : ℕ) (rest : List ℕ) : Type 0 where
  pub inside : at ≤ length octets
  pub is : drop at octets ≡ rest

-- Where the octets at a place spell a format, its value is shown, and the octets after them lie at the
-- place that is told.
abbrev pub Walks : {C A X : Type 0} → Format C A → (X → A → Type 0) → List ℕ → ℕ → X × ℕ → Type 0
Walks {A = A} f Shows octets at found =
    (front text rest : List ℕ) (value : A) → Spells f front text value → LiesAt octets at (text ++ rest)
    → Shows found.0 value × LiesAt octets found.1 rest

-- a number is shown by itself
abbrev pub Same : ℕ → ℕ → Type 0
Same found value = found ≡ value

-- ---- names

-- what a format's octets make up
abbrev pub ValueOf : {C A : Type 0} → Format C A → Type 0
ValueOf {A = A} f = A

abbrev pub pair_of : Pair → ValueOf offsets
pair_of pair = record { scheme = pair.scheme; ssp = pair.ssp }

abbrev pub IsPair : Pair → ValueOf offsets → Type 0
IsPair pair value = pair_of pair ≡ value

pub record AreFour (four : Four) (value : ValueOf four_names) : Type 0 where
  pub destination : IsPair four.destination value.destination
  pub source : IsPair four.source value.source
  pub report_to : IsPair four.report_to value.report_to
  pub custodian : IsPair four.custodian value.custodian

-- two numbers name an endpoint
abbrev pub Names : List ℕ → Pair → Endpoint → Type 0
Names dictionary pair endpoint = resolve dictionary (pair_of pair) ≡ Some endpoint

-- octets that may stand in a name
abbrev pub AreVisible : List ℕ → Type 0
AreVisible octets = list_all is_visible octets ≡ true

-- the references of a block, one after the other
abbrev pub AreRefs : List ℕ → List ℕ → List Endpoint → Type 0
AreRefs dictionary text [] = text ≡ []
AreRefs dictionary text (endpoint ∷ endpoints) = (first later : List ℕ) × (text ≡ first ++ later)
    × Spells (name dictionary) [] first endpoint × AreRefs dictionary later endpoints

-- ---- the primary block

-- the dictionary's octets
abbrev pub texts_in : List ℕ → Texts → List ℕ
texts_in octets texts = take (texts.to - texts.from) (drop texts.from octets)

-- the place of a dictionary in which four names resolve
pub record ShowsTexts (octets : List ℕ) (pairs : ValueOf four_names) (texts : Texts) (value : ValueOf (dictionary pairs)) : Type 0 where
  pub order : texts.from ≤ texts.to
  pub inside : texts.to ≤ length octets
  pub is : texts_in octets texts ≡ value.1
  pub resolve : all_resolve value.1 pairs ≡ true
  pub names : value.0 ≡ names_of value.1 pairs

pub record ShowsPrimary (octets : List ℕ) (view : PrimaryView) (primary : Primary6) : Type 0 where
  pub order : view.texts.from ≤ view.texts.to
  pub inside : view.texts.to ≤ length octets
  pub flags : view.flags ≡ primary.flags
  pub destination : Names (texts_in octets view.texts) view.names.destination primary.destination
  pub source : Names (texts_in octets view.texts) view.names.source primary.source
  pub report_to : Names (texts_in octets view.texts) view.names.report_to primary.report_to
  pub custodian : Names (texts_in octets view.texts) view.names.custodian primary.custodian
  pub seconds : view.seconds ≡ primary.seconds
  pub sequence : view.sequence ≡ primary.sequence
  pub lifetime : view.lifetime ≡ primary.lifetime
  pub fragment : view.fragment ≡ primary.fragment

-- ---- blocks

-- a block that begins at a place
pub record ShowsBlock (octets dictionary : List ℕ) (at : ℕ) (view : BlockView) (block : Block6) : Type 0 where
  pub kind : view.kind ≡ block.kind
  pub flags : view.flags ≡ block.flags
  pub count : view.count ≡ length block.refs
  pub text : List ℕ
  pub more : List ℕ
  pub refs : AreRefs dictionary text block.refs
  pub refs_lie : LiesAt octets view.refs (text ++ more)
  pub rest : List ℕ
  pub body_lies : LiesAt octets view.body (block.body ++ rest)
  pub after_lies : LiesAt octets view.after rest
  pub room : at + 3 + view.count + length block.body ≤ view.after

-- some octets spell a block, with its mark of the last one or without
pub record SpellsBlock (dictionary text : List ℕ) (value : Block6) : Type 0 where
  pub most : ℕ
  pub part : Option Fragment
  pub paid : Bool
  pub before : ℕ
  pub front : List ℕ
  pub last : Bool
  pub spells : Spells (block most part dictionary paid before) front text (value, last)

-- some octets spell blocks, one after the other
abbrev pub AreBlocks : List ℕ → List ℕ → List Block6 → Type 0
AreBlocks dictionary text [] = text ≡ []
AreBlocks dictionary text (first ∷ blocks) = (own later : List ℕ) × (text ≡ own ++ later)
    × SpellsBlock dictionary own first × AreBlocks dictionary later blocks

-- they lie from a place to the end of the octets
pub record BlocksLie (octets dictionary : List ℕ) (at : ℕ) (blocks : List Block6) : Type 0 where
  pub text : List ℕ
  pub blocks_are : AreBlocks dictionary text blocks
  pub lie : LiesAt octets at text
