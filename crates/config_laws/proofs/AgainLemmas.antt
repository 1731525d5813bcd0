-- What is shown of a file that some text means is read again as that file.

use Rattle.std.proofs.Common.{ℕ, ◌≤◌, List, IsUtf8, sym, arith}
use Rattle.gate_config.specs.declared.file.GateFile.{GateFile}
use Rattle.gate_config.specs.Shown.{shown}
use Rattle.gate_config.specs.Reading.{MeansText, MeansWithin}
use Rattle.config_laws.proofs.DocumentLemmas.{file_members, document_read}
use Rattle.config_laws.proofs.Showable.{IsFile}
use Rattle.config_laws.proofs.ShownLemmas.{shown_lines}
use Rattle.config_laws.proofs.JudgeLemmas.{file_passes, file_back}
use Rattle.config_laws.proofs.MeaningLemmas.{means_file}
use Rattle.config_laws.proofs.CleanLemmas.{parsed_clean}
use Rattle.config_laws.proofs.StringLemmas.{FileUtf8, file_utf8}
use Rattle.config_laws.proofs.PartLemmas.{shown_part}

shown_means : (file : GateFile) → IsFile file → MeansText (shown file) file
shown_means file is = record {
  document = file_members file;
  read = document_read file (shown file) (shown_lines file is);
  kept = file_passes file is;
  values = sym (file_back file is);
}

means_utf8 : (text : List ℕ) (file : GateFile) → IsUtf8 text → MeansText text file → FileUtf8 file
means_utf8 text file utf8 means = rw means.values (file_utf8 means.document (parsed_clean text means.document utf8 means.read))

pub means_again : (most : ℕ) (text : List ℕ) (file : GateFile) → 1_048_576 ≤ most → MeansWithin most text file → MeansWithin most (shown file) file
means_again most text file room within =
    let is = means_file text file within.means in
    let part = shown_part file is (means_utf8 text file within.utf8 within.means) in
    record { short = omega (arith, part.short); utf8 = part.utf8; means = shown_means file is }
