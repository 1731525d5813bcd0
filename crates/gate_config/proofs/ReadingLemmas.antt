-- What is answered of a document says what its text means; and no text means two things.

use Rattle.std.proofs.Common.{◌≡◌, ℕ, ◌≤◌, ◌⊎◌, inl, inr, List, length, Option, Some, None, Result, Ok, Err, IfOk, IfErr, IsUtf8, sym, ap, refl, ◌∙◌, arith}
use Rattle.toml.specs.Data.{table, Members, no_members}
use Rattle.toml.specs.Parse.{parse_document, lines}
use Rattle.toml.specs.Errors.{IsBlank}
use Rattle.gate_config.specs.declared.keys.Key.TheVariants as keys
use Rattle.gate_config.specs.declared.fault.Within.TheVariants as places
use Rattle.gate_config.specs.declared.fault.Wanted.TheVariants as wants
use Rattle.gate_config.specs.declared.fault.Refusal.{Refusal}
use Rattle.gate_config.specs.declared.fault.Refusal.TheVariants as refusals
use Rattle.gate_config.specs.declared.fault.ConfigFault.{ConfigFault}
use Rattle.gate_config.specs.declared.fault.ConfigFault.TheVariants as faults
use Rattle.gate_config.specs.declared.file.GateFile.{GateFile}
use Rattle.gate_config.specs.Values.{fits}
use Rattle.gate_config.specs.Meaning.{refusal_of, table_refusal, first_unknown, first_misfit}
use Rattle.gate_config.specs.Reading.{MeansText, MeansWithin, RefusedBy, RefusedWithin, FailsText, FailsWithin, IsOwned, AnswersRefusal, AnswersDocument}

-- white space and comments are an empty document, whose refusal is that a table is wanted
blank_document : (text : List ℕ) → IsBlank text → parse_document text ≡ Some no_members
unfolding parse_document lines
blank_document text blank = rw blank refl

empty_refused : refusal_of (Some (table no_members)) ≡ Some (refusals.Wrong places.File keys.Gateway wants.Table)
unfolding refusal_of table_refusal first_unknown first_misfit fits
empty_refused = refl

pub not_blank : (text : List ℕ) (m : Members) → parse_document text ≡ Some m → IsBlank text
    → refusal_of (Some (table m)) ≡ Some (refusals.Wrong places.File keys.Gateway wants.Table)
not_blank text m read blank =
    let both : Some m ≡ Some no_members = sym read ∙ blank_document text blank in
    let same : m ≡ no_members = cc in
    rw same empty_refused

means_by : (text : List ℕ) (m : Members) (r : Option Refusal) (result : Result GateFile ConfigFault) → parse_document text ≡ Some m
    → refusal_of (Some (table m)) ≡ r → AnswersRefusal (table m) r result → IfOk result (MeansText text)
means_by text m None (Ok file) read kept answers = record { document = m; read = read; kept = kept; values = answers }
means_by text m None (Err fault) read kept answers = tt
means_by text m (Some refusal) (Ok file) read kept answers = absurd answers
means_by text m (Some refusal) (Err fault) read kept answers = tt

pub answered_means : (text : List ℕ) (m : Members) (result : Result GateFile ConfigFault) → parse_document text ≡ Some m
    → AnswersDocument (table m) result → IfOk result (MeansText text)
answered_means text m result read answers = means_by text m (refusal_of (Some (table m))) result read refl answers

fails_owned : (text : List ℕ) (m : Members) (refusal : Refusal) (fault : ConfigFault) → parse_document text ≡ Some m
    → refusal_of (Some (table m)) ≡ Some refusal → IsOwned refusal fault → FailsText text fault
fails_owned text m (refusals.NoKey within key) (faults.Refused answered) read refused is =
    rw is (record { document = m; read = read; refused = refused })
fails_owned text m (refusals.NoKey within key) faults.Memory read refused is =
    λ blank. let wrong = sym refused ∙ not_blank text m read blank in absurd (cc)
fails_owned text m (refusals.Wrong within key wanted) (faults.Refused answered) read refused is =
    rw is (record { document = m; read = read; refused = refused })
fails_owned text m (refusals.Wrong within key wanted) faults.Memory read refused is = absurd is
fails_owned text m refusals.Size fault read refused is = absurd is
fails_owned text m refusals.Utf8 fault read refused is = absurd is
fails_owned text m (refusals.Toml line) fault read refused is = absurd is

fails_by : (text : List ℕ) (m : Members) (r : Option Refusal) (result : Result GateFile ConfigFault) → parse_document text ≡ Some m
    → refusal_of (Some (table m)) ≡ r → AnswersRefusal (table m) r result → IfErr result (FailsText text)
fails_by text m None (Ok file) read kept answers = tt
fails_by text m None (Err fault) read kept answers =
    rw answers (λ blank. let wrong = sym kept ∙ not_blank text m read blank in absurd (cc))
fails_by text m (Some refusal) (Ok file) read kept answers = absurd answers
fails_by text m (Some refusal) (Err fault) read kept answers = fails_owned text m refusal fault read kept answers

pub answered_fails : (text : List ℕ) (m : Members) (result : Result GateFile ConfigFault) → parse_document text ≡ Some m
    → AnswersDocument (table m) result → IfErr result (FailsText text)
answered_fails text m result read answers = fails_by text m (refusal_of (Some (table m))) result read refl answers

-- ---- a text within the limits

pub means_within : (most : ℕ) (text : List ℕ) (result : Result GateFile ConfigFault) → length text ≤ most → IsUtf8 text
    → IfOk result (MeansText text) → IfOk result (MeansWithin most text)
means_within most text (Ok file) short utf8 means = record { short = short; utf8 = utf8; means = means }
means_within most text (Err fault) short utf8 means = tt

fault_within : (most : ℕ) (text : List ℕ) (fault : ConfigFault) → length text ≤ most → IsUtf8 text
    → FailsText text fault → FailsWithin most text fault
fault_within most text faults.Memory short utf8 fails = (short, utf8, fails)
fault_within most text (faults.Refused refusals.Size) short utf8 fails = absurd fails
fault_within most text (faults.Refused refusals.Utf8) short utf8 fails = absurd fails
fault_within most text (faults.Refused (refusals.Toml line)) short utf8 fails = (short, utf8, fails)
fault_within most text (faults.Refused (refusals.NoKey within key)) short utf8 fails = (short, utf8, fails)
fault_within most text (faults.Refused (refusals.Wrong within key wanted)) short utf8 fails = (short, utf8, fails)

pub fails_within : (most : ℕ) (text : List ℕ) (result : Result GateFile ConfigFault) → length text ≤ most → IsUtf8 text
    → IfErr result (FailsText text) → IfErr result (FailsWithin most text)
fails_within most text (Ok file) short utf8 fails = tt
fails_within most text (Err fault) short utf8 fails = fault_within most text fault short utf8 fails

-- ---- one meaning

same_values : (text : List ℕ) (one other : GateFile) → MeansText text one → MeansText text other → one ≡ other
same_values text one other a b =
    let both : Some a.document ≡ Some b.document = sym a.read ∙ b.read in
    let same : a.document ≡ b.document = cc in
    a.values ∙ rw same (sym b.values)

pub one_meaning : (most : ℕ) (text : List ℕ) (one other : GateFile) → MeansWithin most text one → MeansWithin most text other → one ≡ other
one_meaning most text one other a b = same_values text one other a.means b.means

-- a text that means something isn't refused
not_refused : (text : List ℕ) (file : GateFile) (refusal : Refusal) → MeansText text file → RefusedBy text refusal → ⊥
not_refused text file refusal means refused =
    let both : Some means.document ≡ Some refused.document = sym means.read ∙ refused.read in
    let same : means.document ≡ refused.document = cc in
    let kept : refusal_of (Some (table refused.document)) ≡ None = rw (← same) means.kept in
    let wrong = sym kept ∙ refused.refused in
    absurd (cc)

refused_not : (most : ℕ) (text : List ℕ) (file : GateFile) (refusal : Refusal) → MeansWithin most text file
    → RefusedWithin most text refusal → ⊥
refused_not most text file refusals.Size means refused = let short = means.short in omega arith
refused_not most text file refusals.Utf8 means refused = refused.1 means.utf8
refused_not most text file (refusals.Toml line) means refused = let both = sym means.means.read ∙ refused.2 in absurd (cc)
refused_not most text file (refusals.NoKey within key) means refused =
    not_refused text file (refusals.NoKey within key) means.means refused.2
refused_not most text file (refusals.Wrong within key wanted) means refused =
    not_refused text file (refusals.Wrong within key wanted) means.means refused.2

pub only_meaning : (most : ℕ) (text : List ℕ) (result : Result GateFile ConfigFault) → IfOk result (MeansWithin most text)
    → IfErr result (FailsWithin most text) → (file : GateFile) → MeansWithin most text file
    → (result ≡ Ok file) ⊎ (result ≡ Err faults.Memory)
only_meaning most text (Ok read) means fails file that = inl (ap Ok (one_meaning most text read file means that))
only_meaning most text (Err faults.Memory) means fails file that = inr refl
only_meaning most text (Err (faults.Refused refusal)) means fails file that = absurd (refused_not most text file refusal that fails)
