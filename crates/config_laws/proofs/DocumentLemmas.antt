-- The lines that are shown of a file make one document: a table for the gateway and one for each face.

use Rattle.std.proofs.Common.{◌≡◌, ℕ, suc, List, [], ◌∷◌, ◌++◌, length, codes, Option, Some, None, option_map, refl, ap, ◌∙◌, false, ◌==◌, arith}
use Rattle.toml_parser.specs.Lexical.{first}
use Rattle.toml.specs.Data.{string, table, Members, no_members, member}
use Rattle.toml.specs.Tables.{Node, Nodes, no_nodes, node, value, open_table, header, Expression, along_header, along_dots, at_key, close, replace}
use Rattle.toml.specs.Parse.{skip_bom, parse_document}
use Rattle.toml.proofs.ReadLines.{run}
use Rattle.toml.proofs.Turns.{document_some}
use Rattle.endpoint.specs.Endpoints.{text_of}
use Rattle.gate_config.specs.declared.file.GateFile.{GateFile}
use Rattle.gate_config.specs.declared.file.GatewayConfig.{GatewayConfig}
use Rattle.gate_config.specs.Shown.{age_word}
use Rattle.config_laws.proofs.LineLemmas.{AreLines, read_lines, not_bom}
use Rattle.config_laws.proofs.TableLemmas.{Pairs, puts, Opens, run_table, table_lines, run_then}
use Rattle.config_laws.proofs.FaceLemmas.{whole, pair_if, member_if, face_members, face_lines, run_face}

-- ---- the gateway's table

abbrev pub paths_pairs : Option (List ℕ) → Option (List ℕ) → Pairs
paths_pairs journal metrics = pair_if (codes "journal") (option_map string journal) ++ pair_if (codes "metrics") (option_map string metrics)

abbrev pub gateway_pairs : GatewayConfig → Option (List ℕ) → Option (List ℕ) → Pairs
gateway_pairs g journal metrics =
    (codes "endpoint", string (text_of g.endpoint)) ∷ (codes "cut", whole g.cut) ∷ (codes "age", string (age_word g.age)) ∷ paths_pairs journal metrics

abbrev pub gateway_members_of : GatewayConfig → Option (List ℕ) → Option (List ℕ) → Members
gateway_members_of g journal metrics =
    member (codes "age") (string (age_word g.age))
    (member (codes "cut") (whole g.cut)
    (member (codes "endpoint") (string (text_of g.endpoint))
    (member_if (codes "journal") (option_map string journal) (member_if (codes "metrics") (option_map string metrics) no_members))))

-- the table that the gateway is shown as
abbrev pub gateway_members : GatewayConfig → Members
gateway_members g = gateway_members_of g g.journal g.metrics

abbrev path_nodes : List ℕ → Option (List ℕ) → Nodes → Nodes
path_nodes k None more = more
path_nodes k (Some path) more = node k (value (string path)) more

abbrev gateway_nodes : GatewayConfig → Option (List ℕ) → Option (List ℕ) → Nodes
gateway_nodes g journal metrics =
    node (codes "age") (value (string (age_word g.age)))
    (node (codes "cut") (value (whole g.cut))
    (node (codes "endpoint") (value (string (text_of g.endpoint)))
    (path_nodes (codes "journal") journal (path_nodes (codes "metrics") metrics no_nodes))))

gateway_puts : (g : GatewayConfig) (journal metrics : Option (List ℕ)) → puts (gateway_pairs g journal metrics) no_nodes ≡ Some (gateway_nodes g journal metrics)
unfolding along_dots at_key
gateway_puts g None None = refl
gateway_puts g None (Some m) = refl
gateway_puts g (Some j) None = refl
gateway_puts g (Some j) (Some m) = refl

close-gateway : (g : GatewayConfig) (journal metrics : Option (List ℕ)) → close (gateway_nodes g journal metrics) ≡ gateway_members_of g journal metrics
close-gateway g None None = refl
close-gateway g None (Some m) = refl
close-gateway g (Some j) None = refl
close-gateway g (Some j) (Some m) = refl

-- ---- the root

abbrev gateway_root : Nodes → Nodes
gateway_root ns = node (codes "gateway") (open_table header ns) no_nodes

abbrev old_root : Node → Nodes → Nodes
old_root g ns = node (codes "gateway") g (node (codes "old") (open_table header ns) no_nodes)

abbrev new_root : Node → Node → Nodes → Nodes
new_root g o ns = node (codes "gateway") g (node (codes "new") (open_table header ns) (node (codes "old") o no_nodes))

replaced : (k : List ℕ) (root : Nodes) (hole : Nodes → Nodes) → ((ns : Nodes) → replace k (open_table header ns) root ≡ hole ns) → (o : Option Nodes)
    → option_map (λ x. replace k x root) (option_map (open_table header) o) ≡ option_map hole o
replaced k root hole is None = refl
replaced k root hole is (Some ns) = ap Some (is ns)

opens_gateway : Opens (codes "gateway") no_nodes gateway_root
unfolding along_header at_key
opens_gateway = record {
  made = refl;
  at = λ edit ns. replaced (codes "gateway") (gateway_root ns) gateway_root (λ new. refl) (edit ns);
}

opens_old : (g : Node) → Opens (codes "old") (node (codes "gateway") g no_nodes) (old_root g)
unfolding along_header at_key
opens_old g = record {
  made = refl;
  at = λ edit ns. replaced (codes "old") (old_root g ns) (old_root g) (λ new. refl) (edit ns);
}

opens_new : (g o : Node) → Opens (codes "new") (node (codes "gateway") g (node (codes "old") o no_nodes)) (new_root g o)
unfolding along_header at_key
opens_new g o = record {
  made = refl;
  at = λ edit ns. replaced (codes "new") (new_root g o ns) (new_root g o) (λ new. refl) (edit ns);
}

-- ---- the document

abbrev pub gateway_lines : GatewayConfig → List Expression
gateway_lines g = table_lines (codes "gateway") (gateway_pairs g g.journal g.metrics)

abbrev pub file_lines : GateFile → List Expression
file_lines file = gateway_lines file.gateway ++ (face_lines (codes "old") file.old None ++ face_lines (codes "new") file.new (Some file.blocks))

-- the table that a file is shown as
abbrev pub file_members : GateFile → Members
file_members file =
    member (codes "gateway") (table (gateway_members file.gateway))
    (member (codes "new") (table (face_members file.new (Some file.blocks)))
    (member (codes "old") (table (face_members file.old None)) no_members))

pub record RunsFile (file : GateFile) : Type 0 where
  pub root : Nodes
  pub path : List (List ℕ)
  pub closed : close root ≡ file_members file
  pub runs : run (no_nodes, []) (file_lines file) ≡ Some (root, path)

pub run_file : (file : GateFile) → RunsFile file
run_file file =
    let gateway = gateway_nodes file.gateway file.gateway.journal file.gateway.metrics in
    let g = open_table header gateway in
    let old = run_face (codes "old") (node (codes "gateway") g no_nodes) (old_root g) file.old None (opens_old g) in
    let o = open_table header old.face in
    let new = run_face (codes "new") (node (codes "gateway") g (node (codes "old") o no_nodes)) (new_root g o) file.new (Some file.blocks) (opens_new g o) in
    let first_part = run_table (codes "gateway") no_nodes [] gateway_root (gateway_pairs file.gateway file.gateway.journal file.gateway.metrics) gateway
    opens_gateway (gateway_puts file.gateway file.gateway.journal file.gateway.metrics) in
    let (old_path, old_runs) = old.runs (codes "gateway" ∷ []) in
    let (new_path, new_runs) = new.runs old_path in
    record {
      root = new_root g o new.face;
      path = new_path;
      closed = rw (close-gateway file.gateway file.gateway.journal file.gateway.metrics, new.closed, old.closed) refl;
      runs = run_then (no_nodes, []) (gateway_root gateway, codes "gateway" ∷ []) (gateway_lines file.gateway) (face_lines (codes "old") file.old None ++ face_lines (codes "new") file.new (Some file.blocks)) first_part
          ∙ run_then (gateway_root gateway, codes "gateway" ∷ []) (old_root g old.face, old_path) (face_lines (codes "old") file.old None) (face_lines (codes "new") file.new (Some file.blocks)) old_runs ∙ new_runs;
    }

no_skip : (text : List ℕ) → (first text == 239) ≡ false → skip_bom text ≡ text
unfolding skip_bom
no_skip text h = rw h refl

-- a text of these lines is the file's document
pub document_read : (file : GateFile) (text : List ℕ) → AreLines (file_lines file) text → parse_document text ≡ Some (file_members file)
document_read file text lines_are =
    let runs = run_file file in
    let read = read_lines (file_lines file) text text (no_nodes, []) (suc (length text)) lines_are refl (omega arith) in
    let skipped = no_skip text (not_bom (file_lines file) text lines_are) in
    document_some text (runs.root, runs.path) (rw skipped (read ∙ runs.runs)) ∙ ap Some runs.closed
