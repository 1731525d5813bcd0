-- The lines that are shown of a face, and the table that they are read as.

use Rattle.std.proofs.Common.{◌≡◌, ℕ, pos, List, [], ◌∷◌, ◌++◌, codes, Option, Some, None, option_map, refl, sym, ap, ◌∙◌}
use Rattle.toml.specs.Data.{Data, string, integer, datetime, array, table, Items, no_items, item, push_item, Members, no_members, member}
use Rattle.toml.specs.Tables.{Nodes, no_nodes, node, value, open_array, Expression, along_header, along_dots, at_key, get_node, replace, array_table, close}
use Rattle.toml.proofs.ReadValues.{item_join, item_join-none, item_join-push}
use Rattle.toml.proofs.NodeLaws.{along_append}
use Rattle.toml.proofs.ReadLines.{run}
use Rattle.gate_config.specs.declared.file.FaceConfig.{FaceConfig}
use Rattle.gate_config.specs.declared.file.BlocksConfig.{BlocksConfig}
use Rattle.gate_config.specs.declared.file.Contact.{Contact}
use Rattle.gate_config.specs.Shown.{accept_word, foreign_word}
use Rattle.config_laws.proofs.MomentLemmas.{when_of}
use Rattle.config_laws.proofs.TableLemmas.{Pairs, puts, IsAt, Opens, run_table, table_lines, run_element, element_lines, run_then, mapped}

-- ---- values

abbrev pub whole : ℕ → Data
whole n = integer (pos n)

abbrev pub moment : ℕ → Data
moment m = datetime (when_of m)

-- a key that may be left out
abbrev pub pair_if : List ℕ → Option Data → Pairs
pair_if k None = []
pair_if k (Some d) = (k, d) ∷ []

abbrev pub member_if : List ℕ → Option Data → Members → Members
member_if k None more = more
member_if k (Some d) more = member k d more

-- ---- contacts

abbrev pub contact_pairs : Contact → Pairs
contact_pairs c =
    (codes "from", moment c.from) ∷ (codes "to", moment c.to) ∷ pair_if (codes "rate") (option_map whole c.rate)

abbrev pub contact_members : Contact → Members
contact_members c =
    member (codes "from") (moment c.from) (member_if (codes "rate") (option_map whole c.rate) (member (codes "to") (moment c.to) no_members))

abbrev pub contact_items : List Contact → Items
contact_items [] = no_items
contact_items (c ∷ cs) = item (table (contact_members c)) (contact_items cs)

-- the list of contacts, if there are any
abbrev pub contacts_data : List Contact → Option Data
contacts_data [] = None
contacts_data (c ∷ cs) = Some (array (contact_items (c ∷ cs)))

-- what is read of a contact's lines
abbrev rate_nodes : Option ℕ → Nodes → Nodes
rate_nodes None more = more
rate_nodes (Some n) more = node (codes "rate") (value (whole n)) more

abbrev contact_nodes : Contact → Nodes
contact_nodes c = node (codes "from") (value (moment c.from)) (rate_nodes c.rate (node (codes "to") (value (moment c.to)) no_nodes))

contact_puts : (from to : ℕ) (rate : Option ℕ)
    → let c : Contact = record { from = from; to = to; rate = rate } in puts (contact_pairs c) no_nodes ≡ Some (contact_nodes c)
unfolding along_dots at_key
contact_puts from to None = refl
contact_puts from to (Some n) = refl

close-contact : (from to : ℕ) (rate : Option ℕ)
    → let c : Contact = record { from = from; to = to; rate = rate } in close (contact_nodes c) ≡ contact_members c
close-contact from to None = refl
close-contact from to (Some n) = refl

-- what stands at the keys that the face towards version 7 alone has
abbrev pub residue_data : Option BlocksConfig → Option Data
residue_data None = None
residue_data (Some b) = Some (whole b.residue_block)

abbrev pub wrap_data : Option BlocksConfig → Option Data
wrap_data None = None
wrap_data (Some b) = Some (whole b.wrap_block)

abbrev pub foreign_data : Option BlocksConfig → Option Data
foreign_data None = None
foreign_data (Some b) = Some (string (foreign_word b.foreign_blocks))

-- ---- a face's own keys: those that may be left out stand apart, so that proofs go by cases on them

abbrev pub rates_pairs : FaceConfig → Option ℕ → Option ℕ → Pairs
rates_pairs c fs rate =
    pair_if (codes "first_session") (option_map whole fs)
    ++ (pair_if (codes "rate") (option_map whole rate)
    ++ ((codes "outbox", whole c.outbox) ∷ (codes "accept", string (accept_word c.accept)) ∷ []))

abbrev pub bounds_pairs : FaceConfig → Pairs
bounds_pairs c =
    (codes "sessions", whole c.sessions) ∷ (codes "memory", whole c.memory) ∷ (codes "aggregate", whole c.aggregate)
    ∷ (codes "aggregate_ms", whole c.aggregate_ms) ∷ (codes "remember", whole c.remember) ∷ (codes "remember_ms", whole c.remember_ms) ∷ []

abbrev pub blocks_pairs : Option BlocksConfig → Pairs
blocks_pairs None = []
blocks_pairs (Some b) =
    (codes "residue_block", whole b.residue_block) ∷ (codes "wrap_block", whole b.wrap_block)
    ∷ (codes "foreign_blocks", string (foreign_word b.foreign_blocks)) ∷ []

abbrev pub late_pairs : FaceConfig → Option ℕ → Option ℕ → Option BlocksConfig → Pairs
late_pairs c fs rate own = rates_pairs c fs rate ++ (bounds_pairs c ++ blocks_pairs own)

abbrev pub face_pairs : FaceConfig → Option ℕ → Option ℕ → Option BlocksConfig → Pairs
face_pairs c fs rate own =
    (codes "bind", string c.bind) ∷ (codes "peer", string c.peer) ∷ (codes "engine", whole c.engine)
    ∷ (codes "peer_engine", whole c.peer_engine) ∷ (codes "segment", whole c.segment)
    ∷ (codes "timeout_ms", whole c.timeout_ms) ∷ (codes "limit", whole c.limit) ∷ (codes "cap_ms", whole c.cap_ms)
    ∷ late_pairs c fs rate own

-- the keys after engine, in their order
abbrev pub late_members : FaceConfig → Option ℕ → Option ℕ → Option BlocksConfig → Members
late_members c fs rate own =
    member_if (codes "first_session") (option_map whole fs)
    (member_if (codes "foreign_blocks") (foreign_data own)
    (member (codes "limit") (whole c.limit)
    (member (codes "memory") (whole c.memory)
    (member (codes "outbox") (whole c.outbox)
    (member (codes "peer") (string c.peer)
    (member (codes "peer_engine") (whole c.peer_engine)
    (member_if (codes "rate") (option_map whole rate)
    (member (codes "remember") (whole c.remember)
    (member (codes "remember_ms") (whole c.remember_ms)
    (member_if (codes "residue_block") (residue_data own)
    (member (codes "segment") (whole c.segment)
    (member (codes "sessions") (whole c.sessions)
    (member (codes "timeout_ms") (whole c.timeout_ms)
    (member_if (codes "wrap_block") (wrap_data own) no_members))))))))))))))

abbrev pub members_of : FaceConfig → Option ℕ → Option ℕ → Option BlocksConfig → Option Data → Members
members_of c fs rate own contacts =
    member (codes "accept") (string (accept_word c.accept))
    (member (codes "aggregate") (whole c.aggregate)
    (member (codes "aggregate_ms") (whole c.aggregate_ms)
    (member (codes "bind") (string c.bind)
    (member (codes "cap_ms") (whole c.cap_ms)
    (member_if (codes "contact") contacts
    (member (codes "engine") (whole c.engine) (late_members c fs rate own)))))))

-- the table that a face is shown as
abbrev pub face_members : FaceConfig → Option BlocksConfig → Members
face_members c own = members_of c c.first_session c.rate own (contacts_data c.contacts)

abbrev first_nodes : Option ℕ → Nodes → Nodes
first_nodes None more = more
first_nodes (Some n) more = node (codes "first_session") (value (whole n)) more

abbrev node_if : List ℕ → Option Data → Nodes → Nodes
node_if k None more = more
node_if k (Some d) more = node k (value d) more

abbrev late_nodes : FaceConfig → Option ℕ → Option ℕ → Option BlocksConfig → Nodes
late_nodes c fs rate own =
    first_nodes fs
    (node_if (codes "foreign_blocks") (foreign_data own)
    (node (codes "limit") (value (whole c.limit))
    (node (codes "memory") (value (whole c.memory))
    (node (codes "outbox") (value (whole c.outbox))
    (node (codes "peer") (value (string c.peer))
    (node (codes "peer_engine") (value (whole c.peer_engine))
    (rate_nodes rate
    (node (codes "remember") (value (whole c.remember))
    (node (codes "remember_ms") (value (whole c.remember_ms))
    (node_if (codes "residue_block") (residue_data own)
    (node (codes "segment") (value (whole c.segment))
    (node (codes "sessions") (value (whole c.sessions))
    (node (codes "timeout_ms") (value (whole c.timeout_ms))
    (node_if (codes "wrap_block") (wrap_data own) no_nodes))))))))))))))

-- the face's table, with what stands before the key engine
abbrev early_nodes : FaceConfig → Nodes → Nodes
early_nodes c more =
    node (codes "accept") (value (string (accept_word c.accept)))
    (node (codes "aggregate") (value (whole c.aggregate))
    (node (codes "aggregate_ms") (value (whole c.aggregate_ms))
    (node (codes "bind") (value (string c.bind))
    (node (codes "cap_ms") (value (whole c.cap_ms)) more))))

abbrev engine_nodes : FaceConfig → Option ℕ → Option ℕ → Option BlocksConfig → Nodes
engine_nodes c fs rate own = node (codes "engine") (value (whole c.engine)) (late_nodes c fs rate own)

face_puts : (c : FaceConfig) (fs rate : Option ℕ) (own : Option BlocksConfig)
    → puts (face_pairs c fs rate own) no_nodes ≡ Some (early_nodes c (engine_nodes c fs rate own))
unfolding along_dots at_key
face_puts c None None None = refl
face_puts c None None (Some b) = refl
face_puts c None (Some r) None = refl
face_puts c None (Some r) (Some b) = refl
face_puts c (Some f) None None = refl
face_puts c (Some f) None (Some b) = refl
face_puts c (Some f) (Some r) None = refl
face_puts c (Some f) (Some r) (Some b) = refl

close-late : (c : FaceConfig) (fs rate : Option ℕ) (own : Option BlocksConfig) → close (late_nodes c fs rate own) ≡ late_members c fs rate own
close-late c None None None = refl
close-late c None None (Some b) = refl
close-late c None (Some r) None = refl
close-late c None (Some r) (Some b) = refl
close-late c (Some f) None None = refl
close-late c (Some f) None (Some b) = refl
close-late c (Some f) (Some r) None = refl
close-late c (Some f) (Some r) (Some b) = refl

no_contact : (c : FaceConfig) (fs rate : Option ℕ) (own : Option BlocksConfig) → get_node (codes "contact") (late_nodes c fs rate own) ≡ None
no_contact c None None None = refl
no_contact c None None (Some b) = refl
no_contact c None (Some r) None = refl
no_contact c None (Some r) (Some b) = refl
no_contact c (Some f) None None = refl
no_contact c (Some f) None (Some b) = refl
no_contact c (Some f) (Some r) None = refl
no_contact c (Some f) (Some r) (Some b) = refl

-- ---- a face's contacts

-- the face's table with contacts: those before the last, and the last
abbrev with_contacts : FaceConfig → Nodes → Items → Nodes → Nodes
with_contacts c more done last = early_nodes c (node (codes "contact") (open_array done last) more)

first_contact : (c : FaceConfig) (late : Nodes) → get_node (codes "contact") late ≡ None
    → at_key (codes "contact") array_table (early_nodes c (node (codes "engine") (value (whole c.engine)) late))
    ≡ Some (with_contacts c (node (codes "engine") (value (whole c.engine)) late) no_items no_nodes)
unfolding at_key
first_contact c late none = rw none refl

next_contact : (c : FaceConfig) (more : Nodes) (done : Items) (last : Nodes)
    → at_key (codes "contact") array_table (with_contacts c more done last)
    ≡ Some (with_contacts c more (push_item done (table (close last))) no_nodes)
unfolding at_key
next_contact c more done last = refl

-- the last contact is this place in the face's table
contact_there : (c : FaceConfig) (more : Nodes) (done : Items) → IsAt (codes "contact" ∷ []) (with_contacts c more done)
unfolding along_header
contact_there c more done edit last = by (edit last)
  where
    by : (o : Option Nodes)
        → option_map (λ x. replace (codes "contact") x (with_contacts c more done last)) (option_map (open_array done) o)
        ≡ option_map (with_contacts c more done) o
    by None = refl
    by (Some new) = refl

-- a place in a table, whose place in the root is known
there_along : (k l : List ℕ) (outer inner : Nodes → Nodes) → IsAt (k ∷ []) outer → IsAt (l ∷ []) inner → IsAt (k ∷ l ∷ []) (λ ns. outer (inner ns))
there_along k l outer inner out at edit ns =
    along_append (k ∷ []) (l ∷ []) edit (outer (inner ns))
    ∙ out (along_header (l ∷ []) edit) (inner ns) ∙ ap (option_map outer) (at edit ns) ∙ mapped outer inner (edit ns)

abbrev pub contact_lines : List ℕ → List Contact → List Expression
contact_lines k [] = []
contact_lines k (c ∷ cs) = element_lines (k ∷ []) (codes "contact") (contact_pairs c) ++ contact_lines k cs

-- what stands at contact after some more contacts: those before the last, and the last
abbrev contacts_after : Items → Nodes → List Contact → Items × Nodes
contacts_after done last [] = (done, last)
contacts_after done last (c ∷ cs) = contacts_after (push_item done (table (close last))) (contact_nodes c) cs

module _ (k : List ℕ) (c : FaceConfig) (more : Nodes) (hole : Nodes → Nodes) (at : IsAt (k ∷ []) hole) where
  -- a contact's lines
  run_contact : (contact : Contact) (path : List (List ℕ)) (face : Nodes) (done : Items)
      → at_key (codes "contact") array_table face ≡ Some (with_contacts c more done no_nodes)
      → run (hole face, path) (element_lines (k ∷ []) (codes "contact") (contact_pairs contact))
      ≡ Some (hole (with_contacts c more done (contact_nodes contact)), k ∷ codes "contact" ∷ [])
  run_contact contact path face done made =
      run_element (k ∷ []) path (codes "contact") (hole face) (λ last. hole (with_contacts c more done last)) (contact_pairs contact) (contact_nodes contact)
      (at (at_key (codes "contact") array_table) face ∙ ap (option_map hole) made)
      (there_along k (codes "contact") hole (with_contacts c more done) at (contact_there c more done))
      (contact_puts contact.from contact.to contact.rate)

  run_more : (cs : List Contact) (done : Items) (last : Nodes)
      → run (hole (with_contacts c more done last), k ∷ codes "contact" ∷ []) (contact_lines k cs)
      ≡ Some (hole (with_contacts c more (contacts_after done last cs).0 (contacts_after done last cs).1), k ∷ codes "contact" ∷ [])
  run_more [] done last = refl
  run_more (contact ∷ cs) done last =
      run_then (hole (with_contacts c more done last), k ∷ codes "contact" ∷ [])
      (hole (with_contacts c more (push_item done (table (close last))) (contact_nodes contact)), k ∷ codes "contact" ∷ [])
      (element_lines (k ∷ []) (codes "contact") (contact_pairs contact)) (contact_lines k cs)
      (run_contact contact (k ∷ codes "contact" ∷ []) (with_contacts c more done last) (push_item done (table (close last))) (next_contact c more done last))
      ∙ run_more cs (push_item done (table (close last))) (contact_nodes contact)

contacts_closed : (cs : List Contact) (done : Items) (last : Nodes)
    → push_item (contacts_after done last cs).0 (table (close (contacts_after done last cs).1)) ≡ item_join (push_item done (table (close last))) (contact_items cs)
contacts_closed [] done last = sym (item_join-none _)
contacts_closed (c ∷ cs) done last =
    contacts_closed cs (push_item done (table (close last))) (contact_nodes c)
    ∙ item_join-push (push_item done (table (close last))) (table (close (contact_nodes c))) (contact_items cs)
    ∙ ap (λ ms. item_join (push_item done (table (close last))) (item (table ms) (contact_items cs))) (close-contact c.from c.to c.rate)

-- ---- the whole face

abbrev pub face_lines : List ℕ → FaceConfig → Option BlocksConfig → List Expression
face_lines k c own = table_lines k (face_pairs c c.first_session c.rate own) ++ contact_lines k c.contacts

-- the lines of a face make its table at the place that its header opens
pub record RunsFace (k : List ℕ) (before : Nodes) (hole : Nodes → Nodes) (c : FaceConfig) (own : Option BlocksConfig) : Type 0 where
  pub face : Nodes
  pub closed : close face ≡ face_members c own
  pub runs : (path : List (List ℕ)) → (last : List (List ℕ)) × (run (before, path) (face_lines k c own) ≡ Some (hole face, last))

run_contacts : (k : List ℕ) (before : Nodes) (hole : Nodes → Nodes) (c : FaceConfig) (fs rate : Option ℕ) (own : Option BlocksConfig) (cs : List Contact) → Opens k before hole
    → (face : Nodes) × (close face ≡ members_of c fs rate own (contacts_data cs))
    × ((path : List (List ℕ)) → (last : List (List ℕ)) × (run (before, path) (table_lines k (face_pairs c fs rate own) ++ contact_lines k cs) ≡ Some (hole face, last)))
run_contacts k before hole c fs rate own [] opens =
    let face = early_nodes c (engine_nodes c fs rate own) in (
      face,
      rw (close-late c fs rate own) refl,
      λ path. (k ∷ [], run_then (before, path) (hole face, k ∷ []) (table_lines k (face_pairs c fs rate own)) [] (run_table k before path hole (face_pairs c fs rate own) face opens (face_puts c fs rate own))),
    )
run_contacts k before hole c fs rate own (contact ∷ cs) opens =
    let more = engine_nodes c fs rate own in
    let ends = contacts_after no_items (contact_nodes contact) cs in
    let items : push_item ends.0 (table (close ends.1)) ≡ contact_items (contact ∷ cs) =
    contacts_closed cs no_items (contact_nodes contact) ∙ ap (λ ms. item (table ms) (contact_items cs)) (close-contact contact.from contact.to contact.rate) in (
      with_contacts c more ends.0 ends.1,
      rw (items, close-late c fs rate own) refl,
      λ path. (
        k ∷ codes "contact" ∷ [],
        run_then (before, path) (hole (early_nodes c more), k ∷ []) (table_lines k (face_pairs c fs rate own)) (contact_lines k (contact ∷ cs))
            (run_table k before path hole (face_pairs c fs rate own) (early_nodes c more) opens (face_puts c fs rate own))
            ∙ run_then (hole (early_nodes c more), k ∷ []) (hole (with_contacts c more no_items (contact_nodes contact)), k ∷ codes "contact" ∷ [])
            (element_lines (k ∷ []) (codes "contact") (contact_pairs contact)) (contact_lines k cs)
            (run_contact k c more hole opens.at contact (k ∷ []) (early_nodes c more) no_items (first_contact c (late_nodes c fs rate own) (no_contact c fs rate own)))
            ∙ run_more k c more hole opens.at cs no_items (contact_nodes contact),
      ),
    )

pub run_face : (k : List ℕ) (before : Nodes) (hole : Nodes → Nodes) (c : FaceConfig) (own : Option BlocksConfig) → Opens k before hole → RunsFace k before hole c own
run_face k before hole c own opens =
    let (face, closed, runs) = run_contacts k before hole c c.first_session c.rate own c.contacts opens in
    record { face = face; closed = closed; runs = runs }
