-- The strings of a file that some text means are UTF-8, where the text is.

use Rattle.std.proofs.Common.{ℕ, List, [], Option, Some, None, Ordering, Less, Equal, Greater, nat_cmp, unwrap_or, IfSome, IsUtf8}
use Rattle.std.proofs.lemmas.Str.{IsUtf8-nil}
use Rattle.std.specs.Cmp.Lexicographic.{slice_cmp}
use Rattle.std.specs.Ordering.{match_ordering}
use Rattle.toml.specs.Data.{Data, string, integer, float, boolean, datetime, array, table, Members, no_members, member, get, get_member, as_str}
use Rattle.gate_config.specs.declared.keys.Key.{Key}
use Rattle.gate_config.specs.declared.keys.Key.TheVariants as keys
use Rattle.gate_config.specs.declared.keys.Section.{Section}
use Rattle.gate_config.specs.declared.keys.Section.TheVariants as sections
use Rattle.gate_config.specs.declared.file.GateFile.{GateFile}
use Rattle.gate_config.specs.declared.file.FaceConfig.{FaceConfig}
use Rattle.gate_config.specs.Keys.{name_of}
use Rattle.gate_config.specs.Values.{at, text_at}
use Rattle.gate_config.specs.Meaning.{section_of, face_of, file_of}
use Rattle.config_laws.proofs.Utf8Lemmas.{if_then}
use Rattle.config_laws.proofs.CleanLemmas.{IsClean, HasClean}

by_order : (o : Ordering) (x : Option Data) (d : Data) → IfSome x IsClean → IsClean d → IfSome (match_ordering o x (Some d) x) IsClean
by_order Less x d other here = other
by_order Equal x d other here = here
by_order Greater x d other here = other

member_clean : (k : List ℕ) (ms : Members) → HasClean ms → IfSome (get_member k ms) IsClean
member_clean k no_members h = tt
member_clean k (member l d ms) h = by_order (slice_cmp nat_cmp k l) (get_member k ms) d (member_clean k ms h.1) h.0

get_clean : (k : List ℕ) (d : Data) → IsClean d → IfSome (get k d) IsClean
get_clean k (string s) h = tt
get_clean k (integer z) h = tt
get_clean k (float x) h = tt
get_clean k (boolean b) h = tt
get_clean k (datetime when) h = tt
get_clean k (array ds) h = tt
get_clean k (table ms) h = member_clean k ms h

at_clean : (key : Key) (place : Option Data) → IfSome place IsClean → IfSome (at key place) IsClean
at_clean key place h = if_then IsClean IsClean (get (name_of key)) place h (λ d clean. get_clean (name_of key) d clean)

str_clean : (d : Data) → IsClean d → IfSome (as_str d) IsUtf8
str_clean (string s) h = h
str_clean (integer z) h = tt
str_clean (float x) h = tt
str_clean (boolean b) h = tt
str_clean (datetime when) h = tt
str_clean (array ds) h = tt
str_clean (table ms) h = tt

text_clean : (key : Key) (place : Option Data) → IfSome place IsClean → IfSome (text_at key place) IsUtf8
text_clean key place h = if_then IsClean IsUtf8 as_str (at key place) (at_clean key place h) str_clean

or_empty : (o : Option (List ℕ)) → IfSome o IsUtf8 → IsUtf8 (unwrap_or o [])
or_empty None h = IsUtf8-nil
or_empty (Some text) h = h

-- ---- the strings of a file

pub record FaceUtf8 (c : FaceConfig) : Type 0 where
  pub bind : IsUtf8 c.bind
  pub peer : IsUtf8 c.peer

pub record FileUtf8 (file : GateFile) : Type 0 where
  pub journal : IfSome file.gateway.journal IsUtf8
  pub metrics : IfSome file.gateway.metrics IsUtf8
  pub old : FaceUtf8 file.old
  pub new : FaceUtf8 file.new

face_utf8 : (face : Section) (place : Option Data) → IfSome place IsClean → FaceUtf8 (face_of face place)
face_utf8 face place h = record {
  bind = or_empty (text_at keys.Bind place) (text_clean keys.Bind place h);
  peer = or_empty (text_at keys.Peer place) (text_clean keys.Peer place h);
}

pub file_utf8 : (document : Members) → HasClean document → FileUtf8 (file_of (Some (table document)))
file_utf8 document h =
    let gateway = at_clean keys.Gateway (Some (table document)) h in
    record {
      journal = text_clean keys.Journal (section_of sections.Gateway (Some (table document))) gateway;
      metrics = text_clean keys.Metrics (section_of sections.Gateway (Some (table document))) gateway;
      old = face_utf8 sections.Old (section_of sections.Old (Some (table document))) (at_clean keys.Old (Some (table document)) h);
      new = face_utf8 sections.New (section_of sections.New (Some (table document))) (at_clean keys.New (Some (table document)) h);
    }
