-- What is checked of the octets that were read is checked of the file.
use Rattle.std.proofs.Common.{◌≡◌, ℕ, ◌+◌, ◌<◌, ◌≤◌, List, [], ◌∷◌, length, Option, None, Some, IfSome, inl, inr, refl, sym, ◌∙◌, arith}
use Rattle.std.proofs.lemmas.Bool.{cases_lt}
use Rattle.std.proofs.lemmas.List.{take_all, length-take-le}
use Rattle.toml.specs.Data.{Members, table}
use Rattle.toml.specs.Parse.{parse_document, skip_bom}
use Rattle.toml_parser.specs.Lexical.{skip_from}
use Rattle.edge_traits.specs.Content.{read_front}
use Rattle.gate_config.specs.declared.fault.Refusal.TheVariants as refusals
use Rattle.gate_check.specs.declared.checking.Checked.{Checked}
use Rattle.gate_check.specs.declared.checking.Checked.TheVariants as checks
use Rattle.gate_config.specs.declared.fault.ConfigFault.TheVariants as faults
use Rattle.gate_config.specs.declared.file.GateFile.{GateFile}
use Rattle.gate_config.specs.Meaning.{refusal_of}
use Rattle.gate_config.specs.Reading.{MeansWithin, FailsWithin}
use Rattle.gate_config.specs.Shown.{shown}
use Rattle.gate_config.proofs.ReadingLemmas.{not_blank}
use Rattle.gate_check.specs.Check.{ChecksWithin, WritesText}

module _ (most : ℕ) (octets : List ℕ) (before now : Option (List ℕ)) where
  -- a file that isn't too long was read whole
  whole : length octets ≤ most → read_front most octets ≡ octets
  unfolding read_front
  whole short = take_all (most + 1) octets (omega (arith, short))

  -- of one that is too long an octet past the most was read
  past : most < length octets → length (read_front most octets) ≡ most + 1
  unfolding read_front
  past long = length-take-le (most + 1) octets (omega (arith, long))

  -- it is too long, whatever was found of its front
  too-long : (ended : Checked) → most < length octets
      → ChecksWithin most (read_front most octets) ended before now → ChecksWithin most octets ended before now
  too-long checks.Done long (file, means, gains) = absurd (omega (arith, means.short, past long))
  too-long (checks.Refused refusals.Size) long found = long
  too-long (checks.Refused refusals.Utf8) long found = absurd (omega (arith, found.0, past long))
  too-long (checks.Refused (refusals.Toml line)) long found = absurd (omega (arith, found.0, past long))
  too-long (checks.Refused (refusals.NoKey within key)) long found = absurd (omega (arith, found.0, past long))
  too-long (checks.Refused (refusals.Wrong within key wanted)) long found = absurd (omega (arith, found.0, past long))
  too-long checks.ReadFault long found = tt
  too-long checks.WriteFault long (file, means, gains) = absurd (omega (arith, means.short, past long))
  too-long checks.Memory long found = omega (arith, long)

  checked : (ended : Checked) → ChecksWithin most (read_front most octets) ended before now
      → ChecksWithin most octets ended before now
  checked ended found =
      elim (cases_lt most (length octets)) [
        | inl long ↦ too-long ended long found
        | inr short ↦ rw (sym (whole short)) found
      ]

-- a file without octets means nothing: it is refused
nothing-means : (text : List ℕ) (document : Members) → length text ≡ 0 → parse_document text ≡ Some document
    → refusal_of (Some (table document)) ≡ None → ⊥
unfolding skip_bom skip_from
nothing-means [] document none read kept = let wrong = sym (not_blank [] document read refl) ∙ kept in absurd (cc)
nothing-means (octet ∷ text) document none read kept = absurd (omega (arith, none))

-- memory was wanted by a text that isn't blank, and so by one that has octets
pub memory_wanted : (most : ℕ) (octets : List ℕ) → FailsWithin most octets faults.Memory → 0 < length octets
unfolding skip_bom skip_from
memory_wanted most [] fails = absurd (fails.2 refl)
memory_wanted most (octet ∷ octets) fails = omega arith

-- what a file means was written
pub writes_meaning : (most : ℕ) (octets : List ℕ) (file : GateFile) (ended : Checked) (before now : Option (List ℕ))
    → MeansWithin most octets file → WritesText (shown file) ended before now → ChecksWithin most octets ended before now
writes_meaning most octets file checks.Done before now means wrote = (file, means, wrote)
writes_meaning most octets file (checks.Refused refusal) before now means wrote = absurd wrote
writes_meaning most octets file checks.ReadFault before now means wrote = absurd wrote
writes_meaning most octets file checks.WriteFault before now means wrote = (file, means, wrote)
writes_meaning most [] file checks.Memory before now means wrote =
    absurd (nothing-means [] means.means.document refl means.means.read means.means.kept)
writes_meaning most (octet ∷ octets) file checks.Memory before now means wrote = omega arith

-- what was read, where it is told
pub checks_read : (most : ℕ) (left : Option (List ℕ)) (octets : List ℕ) (ended : Checked) (before now : Option (List ℕ))
    → IfSome left (λ all. octets ≡ read_front most all) → ChecksWithin most octets ended before now
    → IfSome left (λ all. ChecksWithin most all ended before now)
checks_read most None octets ended before now read found = tt
checks_read most (Some all) octets ended before now read found = checked most all before now ended (rw (sym read) found)
