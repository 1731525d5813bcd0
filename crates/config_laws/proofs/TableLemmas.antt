-- What the lines of a table make of the tables that are read so far.

use Rattle.std.proofs.Common.{◌≡◌, ℕ, List, [], ◌∷◌, ◌++◌, Option, Some, None, option_map, option_and_then, refl, ap, ◌∙◌}
use Rattle.toml.specs.Data.{Data}
use Rattle.toml.specs.Tables.{Nodes, no_nodes, Edit, Expression, Document, define, put, along_header, at_key, key_value, std_table, array_table}
use Rattle.toml.proofs.ReadLines.{run}
use Rattle.toml.proofs.Fill.{run-append}
use Rattle.config_laws.proofs.LineLemmas.{AreLines, AreLines-append}

-- ---- pairs

-- keys and their values, in the order of their lines
abbrev pub Pairs : Type 0
Pairs = List (List ℕ × Data)

abbrev pub pairs_in : Pairs → List Expression
pairs_in [] = []
pairs_in (p ∷ ps) = (([], p.0), key_value p.1) ∷ pairs_in ps

pairs_in-append : (ps qs : Pairs) → pairs_in (ps ++ qs) ≡ pairs_in ps ++ pairs_in qs
pairs_in-append [] qs = refl
pairs_in-append (p ∷ ps) qs = ap (λ es. (([], p.0), key_value p.1) ∷ es) (pairs_in-append ps qs)

pub are_pairs-append : (ps qs : Pairs) (t u : List ℕ) → AreLines (pairs_in ps) t → AreLines (pairs_in qs) u → AreLines (pairs_in (ps ++ qs)) (t ++ u)
are_pairs-append ps qs t u one two = rw (pairs_in-append ps qs) (AreLines-append (pairs_in ps) (pairs_in qs) t u one two)

-- the table with these keys defined in turn
abbrev pub puts : Pairs → Nodes → Option Nodes
puts [] ns = Some ns
puts (p ∷ ps) ns = option_and_then (puts ps) (put ([], p.0) p.1 ns)

-- the table at this path is this place in the root
abbrev pub IsAt : List (List ℕ) → (Nodes → Nodes) → Type 0
IsAt path hole = (edit : Edit) (ns : Nodes) → along_header path edit (hole ns) ≡ option_map hole (edit ns)

pairs_step : (path : List (List ℕ)) (hole : Nodes → Nodes) (ps : Pairs) (o : Option Nodes)
    → ((ns : Nodes) → run (hole ns, path) (pairs_in ps) ≡ option_map (λ new. (hole new, path)) (puts ps ns))
    → option_and_then (λ next. run next (pairs_in ps)) (option_map (λ root. (root, path)) (option_map hole o))
    ≡ option_map (λ new. (hole new, path)) (option_and_then (puts ps) o)
pairs_step path hole ps None more = refl
pairs_step path hole ps (Some ns) more = more ns

pub run_pairs : (path : List (List ℕ)) (hole : Nodes → Nodes) → IsAt path hole → (ps : Pairs) (ns : Nodes)
    → run (hole ns, path) (pairs_in ps) ≡ option_map (λ new. (hole new, path)) (puts ps ns)
unfolding define
run_pairs path hole at [] ns = refl
run_pairs path hole at (p ∷ ps) ns =
    rw (at (put ([], p.0) p.1) ns) (pairs_step path hole ps (put ([], p.0) p.1 ns) (λ new. run_pairs path hole at ps new))

-- ---- a table and its header

-- a header of this key, where the root is as before, opens the table at this place
pub record Opens (k : List ℕ) (before : Nodes) (hole : Nodes → Nodes) : Type 0 where
  pub made : at_key k std_table before ≡ Some (hole no_nodes)
  pub at : IsAt (k ∷ []) hole

-- the lines of a table
abbrev pub table_lines : List ℕ → Pairs → List Expression
table_lines k ps = (([], k), std_table) ∷ pairs_in ps

pub run_table : (k : List ℕ) (before : Nodes) (path : List (List ℕ)) (hole : Nodes → Nodes) (ps : Pairs) (ns : Nodes) → Opens k before hole
    → puts ps no_nodes ≡ Some ns → run (before, path) (table_lines k ps) ≡ Some (hole ns, k ∷ [])
unfolding define along_header
run_table k before path hole ps ns opens put_all =
    rw opens.made (run_pairs (k ∷ []) hole opens.at ps no_nodes ∙ rw put_all refl)

-- ---- a list of tables

-- a table as the last element of a list at this key
abbrev pub element_lines : List (List ℕ) → List ℕ → Pairs → List Expression
element_lines path k ps = ((path, k), array_table) ∷ pairs_in ps

pub run_element : (path from : List (List ℕ)) (k : List ℕ) (root : Nodes) (hole : Nodes → Nodes) (ps : Pairs) (ns : Nodes)
    → along_header path (at_key k array_table) root ≡ Some (hole no_nodes) → IsAt (path ++ k ∷ []) hole
    → puts ps no_nodes ≡ Some ns → run (root, from) (element_lines path k ps) ≡ Some (hole ns, path ++ k ∷ [])
unfolding define
run_element path from k root hole ps ns made at put_all =
    rw made (run_pairs (path ++ k ∷ []) hole at ps no_nodes ∙ rw put_all refl)

-- ---- one list of lines after the other

run_then_step : (o : Option Document) (d : Document) (es : List Expression) → o ≡ Some d → option_and_then (λ n. run n es) o ≡ run d es
run_then_step o d es is = rw is refl

pub run_then : (doc mid : Document) (es fs : List Expression) → run doc es ≡ Some mid → run doc (es ++ fs) ≡ run mid fs
run_then doc mid es fs is = run-append doc es fs ∙ run_then_step (run doc es) mid fs is

-- ---- places in the root

-- mapped twice
pub mapped : {A B C : Type 0} (f : B → C) (g : A → B) (o : Option A) → option_map f (option_map g o) ≡ option_map (λ a. f (g a)) o
mapped f g None = refl
mapped f g (Some a) = refl
